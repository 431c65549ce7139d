use Rattle.std.{proofs.Common.{rules, sym, ap, ◌∙◌}, specs.Option.{option_copied}}
use Rattle.hc_exch.specs.Rows.{rows_of}
use Rattle.hc_exch.proofs.AgreementLemmas.{agrees-leaves, agrees-asks, agrees-rests}
use Rattle.hc_exch.proofs.exchanges.list.Goals as goal

pub returns-in-None : goal.returns-in-None
returns-in-None c =
    rw c.leave.ensures (agrees-leaves c.args.x c.args.wishes.now (rows_of c.args.rows.now) c.requires
    (sym c.running_in.ensures ∙ ap option_copied c.in-None.is))

pub returns-then-is_idle : goal.returns-then-is_idle
returns-then-is_idle c =
    rw c.ask.ensures (agrees-asks c.args.x c.args.wishes.now (rows_of c.args.rows.now) c.in-Some.open.now c.requires
    (sym c.running_in.ensures ∙ ap option_copied c.in-Some.is) (sym c.is_wanted-wanted.ensures ∙ c.if-wanted.true))

pub returns-then-is_wanted : goal.returns-then-is_wanted
returns-then-is_wanted c =
    rw c.rest.ensures (agrees-rests c.args.x c.args.wishes.now (rows_of c.args.rows.now) c.in-Some.open.now c.requires
    (sym c.running_in.ensures ∙ ap option_copied c.in-Some.is) (sym c.is_wanted-wanted.ensures ∙ (let off = c.if-not-wanted.true in search rules)))
