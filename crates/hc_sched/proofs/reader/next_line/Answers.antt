use Rattle.std.{proofs.{Common.{◌≡◌, ℕ, ◌+◌, ◌-◌, ◌==◌, length, take, drop, arith, length-drop, Some, None, true, rules}, lemmas.List.{take_all}}, specs.Prelude.{position}}
use Rattle.hc_text.specs.Texts.{lacks}
use Rattle.hc_text.proofs.Cuts.{cut-position, lacks-all}
use Rattle.hc_sched.proofs.reader.next_line.Goals as goal

pub returns : goal.returns
returns c =
    let at : position (λ (b : ℕ). b == 10) c.args.text.now ≡ Some c.in_ok-end.end = search rules in
    let cut = cut-position 10 c.args.text.now c.in_ok-end.end at in
    let text = c.args.text.now in
    let end = c.in_ok-end.end in
    let all : take (length text - (end + 1)) (drop (end + 1) text) ≡ drop (end + 1) text =
    take_all (length text - (end + 1)) (drop (end + 1) text) (omega (arith, length-drop (end + 1) text)) in
    record { found = (cut.before, rw all cut.whole); none = tt }

pub returns-in_err-end : goal.returns-in_err-end
returns-in_err-end c =
    let none : position (λ (b : ℕ). b == 10) c.args.text.now ≡ None = search rules in
    let lacking : lacks 10 c.args.text.now ≡ true = lacks-all 10 c.args.text.now none in
    search rules
