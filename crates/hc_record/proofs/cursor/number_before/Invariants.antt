use Rattle.std.{proofs.Common.{◌≡◌, ◌≤◌, take, true}, specs.{Char.{is_ascii_digit}, List.{list_all}, Str.Parse.{digits_value}}}
use Rattle.hc_text.specs.Texts.{lacks}
use Rattle.hc_record.proofs.cursor.number_before.Given as goal

abbrev pub invariant-loop-i : goal.invariant-loop-i
invariant-loop-i l = (l.n ≡ digits_value 10 (take l.i l.text)) × (list_all is_ascii_digit (take l.i l.text) ≡ true) ×
    (lacks l.end (take l.i l.text) ≡ true) × (l.n ≤ 4611686018427387909)
