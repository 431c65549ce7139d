use Rattle.std.{proofs.Common.{refl, sym, ap}, specs.Prelude.{option_map}}
use Rattle.hc_stored.specs.Rows.{row_of}
use Rattle.hc_stored.proofs.ShelfLemmas.{kept-there}
use Rattle.hc_stored.proofs.entries.Entries.key.Goals as goal

pub returns : goal.returns
returns g c =
    let there = ap (option_map row_of) (sym c.in_ok-get.ensures.value) in
    rw (kept-there c.args.self.now.shelved c.args.r (row_of c.in_ok-get.field-0.now) there) refl
