use Rattle.std.proofs.Common.{inr, ap, sym}
use Rattle.hc_state.specs.Heads.{breaks_off, broken_by}
use Rattle.hc_on_head.proofs.HeadReported.{down_case, anew_case, downs_none}
use Rattle.hc_on_head.proofs.head.close_unused.Goals as goal

pub start_anew-requires-clause-waits : goal.start_anew-requires-clause-waits
start_anew-requires-clause-waits g c = c.requires.fits.waits (anew_case c.args.case (inr c.in-FirstChanged.is))

pub returns-in-DirectBad-clause-answers : goal.returns-in-DirectBad-clause-answers
returns-in-DirectBad-clause-answers g c = λ limits t w facts stands goes row is doomless same.
    let on = down_case c.args.case c.in-DirectBad.is in
    c.put_down.ensures.answers c.args.case on _ t w facts stands goes row is doomless (downs_none t w c.args.response.now c.args.case on)

pub returns-in-FirstChanged-clause-answers : goal.returns-in-FirstChanged-clause-answers
returns-in-FirstChanged-clause-answers g c = c.start_anew.ensures.answers c.args.case (anew_case c.args.case (inr c.in-FirstChanged.is))

pub returns-in-LaterBad-clause-answers : goal.returns-in-LaterBad-clause-answers
returns-in-LaterBad-clause-answers g c =
    c.close_hole.ensures.answers c.args.case (ap breaks_off c.in-LaterBad.is) (ap (broken_by c.args.heard.x) (sym c.in-LaterBad.is))

pub returns-in-LaterChanged-clause-answers : goal.returns-in-LaterChanged-clause-answers
returns-in-LaterChanged-clause-answers g c =
    c.close_hole-in-LaterChanged.ensures.answers c.args.case (ap breaks_off c.in-LaterChanged.is) (ap (broken_by c.args.heard.x) (sym c.in-LaterChanged.is))
