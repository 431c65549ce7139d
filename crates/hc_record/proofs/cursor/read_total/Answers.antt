use Rattle.hc_record.proofs.{Totals.{total-IsNumber}, TakenParts.{no_total_text, small_total}}
use Rattle.hc_record.proofs.cursor.read_total.Goals as goal

pub returns-in-Some : goal.returns-in-Some
returns-in-Some c =
    (small_total c.in-Some.total c.in-Some.ensures.found.0, total-IsNumber c.in-Some.total c.args.text.now c.requires c.in-Some.ensures.found)

pub returns-in-None : goal.returns-in-None
returns-in-None c =
    no_total_text c.args.text.now c.as_slice.result.now c.as_slice.ensures c.if-eq.ensures c.in-None.ensures.none
