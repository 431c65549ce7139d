use Rattle.std.proofs.{Common.{◌+◌, ◌-◌, length, drop, sym, ◌∙◌, arith}, lemmas.{Bool.{both_ways}, List.{take_all, length-drop}}}
use Rattle.http_header.specs.Token.{is_value_byte}
use Rattle.hc_text.proofs.Cuts.{lacks-all, lacks-not, cut-position, cut_once}
use Rattle.hc_fields.proofs.ReadLemmas.{lacks-kind, feed_ends}
use Rattle.hc_fields.proofs.reading.take_value.Goals as goal

pub returns-in_err-end-clause-none : goal.returns-in_err-end-clause-none
returns-in_err-end-clause-none c = rw c.from_residual.ensures (λ start rest all is.
    lacks-not 10 start (rest) (rw (← is) at (lacks-all 10 c.args.text.now (sym c.in_err-end.ensures))))

pub returns-then-not-has_value_chars-clause-none :
    goal.returns-then-not-has_value_chars-clause-none
returns-then-not-has_value_chars-clause-none c = λ start rest all is.
    let cut = cut-position 10 c.args.text.now c.in_ok-end.end (sym c.in_ok-end.ensures) in
    let once = cut_once 10 _ _ start (rest) cut.before (lacks-kind is_value_byte 10 start feed_ends all) (cut.whole ∙ sym is) in
    both_ways _ (sym c.if-not-has_value_chars.ensures) (rw once.0 all)

pub returns-clause-found : goal.returns-clause-found
returns-clause-found c =
    let cut = cut-position 10 c.args.text.now c.in_ok-end.end (sym c.in_ok-end.ensures) in
    let all = take_all (length c.args.text.now - (c.in_ok-end.end + 1)) (drop (c.in_ok-end.end + 1) c.args.text.now)
    (omega (arith, length-drop (c.in_ok-end.end + 1) c.args.text.now)) in
    (sym c.if-not-has_value_chars.ensures, rw all cut.whole)
