use Rattle.std.{proofs.Common.{sym, ap, ◌∙◌}, specs.{Option.{option_copied}, Prelude.{option_map}}}
use Rattle.hc_stored.specs.Rows.{row_of}
use Rattle.hc_stored.proofs.ShelfLemmas.{kept-there}
use Rattle.hc_stored.proofs.entries.Entries.admission.Goals as goal

pub returns : goal.returns
returns g c =
    let there = ap (option_map row_of) (sym c.get.ensures.value ∙ ap option_copied c.unwrap-entry.ensures) in
    rw (kept-there c.args.self.now.shelved c.args.r (row_of c.unwrap-entry.result.now) there) c.admission.ensures
