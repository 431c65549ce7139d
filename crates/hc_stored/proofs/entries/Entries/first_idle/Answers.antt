use Rattle.std.proofs.Common.{ℕ, sym, ap, ◌∙◌}
use Rattle.hc_stored.specs.{Entries.{shelf_of}, Shelf.{is_unused, first_of}}
use Rattle.hc_stored.proofs.IdleLemmas.{unused-kept, idle-last}
use Rattle.hc_stored.proofs.entries.Entries.first_idle.Goals as goal

pub returns-then-is_unused : goal.returns-then-is_unused
returns-then-is_unused g c =
    let e = c.args.self.now in
    let test = λ (r : ℕ). is_unused ((shelf_of e).kept r) in
    let passes = sym (unused-kept e.shelved c.in-Some.r.now) ∙ (sym c.is_unused.ensures ∙ c.if-is_unused.true) in
    ap first_of (sym (idle-last test c.loop-r.r-iterator.iter c.next.new.self.iter c.in-Some.r.now tt c.in-Some.ensures.steps passes)) ∙ c.loop-r.invariant
