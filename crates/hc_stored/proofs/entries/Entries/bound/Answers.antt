use Rattle.std.{proofs.Common.{sym, ap}, specs.Prelude.{option_map}}
use Rattle.hc_stored.specs.Rows.{row_of}
use Rattle.hc_stored.proofs.ShelfLemmas.{kept-there}
use Rattle.hc_stored.proofs.entries.Entries.bound.Goals as goal

pub returns-in-Some : goal.returns-in-Some
returns-in-Some g c =
    let there = ap (option_map row_of) (sym c.in-Some.ensures.value) in
    rw (kept-there c.args.self.now.shelved c.args.r (row_of c.in-Some.entry.now) there) c.bound.ensures
