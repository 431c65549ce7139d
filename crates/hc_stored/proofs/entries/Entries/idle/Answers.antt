use Rattle.std.{proofs.Common.{◌≡◌, ℕ, ◌++◌, ◌∷◌, [], List, refl, sym, ap, ◌∙◌, append_assoc}, specs.{Prelude.{filter, reverse}, Map.{keys_of}}}
use Rattle.hc_stored.specs.{Entries.{shelf_of}, Shelf.{is_unused}}
use Rattle.hc_stored.proofs.IdleLemmas.{unused-kept, idle-last}
use Rattle.hc_stored.proofs.entries.Entries.idle.Goals as goal

pub loop-r-preserved-in-Continue-1 : goal.loop-r-preserved-in-Continue-1
loop-r-preserved-in-Continue-1 g c =
    let e = c.args.self.now in
    let test = λ (q : ℕ). is_unused ((shelf_of e).kept q) in
    let r = c.in-Some.r.now in
    let rest = c.next.new.self.iter in
    let passes = sym (unused-kept e.shelved r) ∙ (sym c.is_unused.ensures ∙ c.if-is_unused.true) in
    let ends = idle-last test c.loop-r.r-iterator.iter rest r tt c.in-Some.ensures.steps passes in
    let done : c.push.new.self.items ≡ c.loop-r.idle.items ++ r ∷ [] = c.in_ok-push.ensures.items in
    ap (λ (xs : List ℕ). xs ++ filter test (reverse (keys_of rest))) done
    ∙ (rw append_assoc refl ∙ (ap (λ (xs : List ℕ). c.loop-r.idle.items ++ xs) (sym ends) ∙ c.loop-r.invariant))
