use Rattle.std.{proofs.Common.{sym, ap}, specs.Prelude.{option_map}}
use Rattle.hc_stored.specs.{Heads.{Summary}, Rows.{row_of}}
use Rattle.hc_stored.proofs.ShelfLemmas.{standing, kept-there}
use Rattle.hc_stored.proofs.entries.Entries.tag.Goals as goal

pub returns-clause-value : goal.returns-clause-value
returns-clause-value g c =
    let there = ap (option_map row_of) (sym c.in_ok-get.ensures.value) in
    let row = row_of c.in_ok-get.field-0.now in
    let held = standing c.args.self.now.shelved c.args.r row there in
    rw (kept-there c.args.self.now.shelved c.args.r row there, c.as_ref.ensures.value) (ap (λ (t : Summary). t.tag) (sym held.summary))
