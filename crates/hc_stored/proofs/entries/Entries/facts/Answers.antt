use Rattle.std.{proofs.Common.{sym, ap}, specs.Prelude.{option_map, Some}}
use Rattle.hc_stored.specs.{Heads.{Summary}, Rows.{row_of}}
use Rattle.hc_stored.proofs.ShelfLemmas.{standing, kept-there}
use Rattle.hc_stored.proofs.entries.Entries.facts.Goals as goal

pub returns : goal.returns
returns g c =
    let there = ap (option_map row_of) (sym c.in_ok-get.ensures.value) in
    let row = row_of c.in_ok-get.field-0.now in
    let held = standing c.args.self.now.shelved c.args.r row there in
    rw (kept-there c.args.self.now.shelved c.args.r row there) (ap (λ (t : Summary). Some t.facts) (sym held.summary))
