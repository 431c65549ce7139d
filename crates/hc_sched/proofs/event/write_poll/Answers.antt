use Rattle.std.{proofs.Common.{◌≡◌, ℕ, List, [], ◌∷◌, ◌++◌, refl, append_assoc}, specs.{Fmt.{decimal, digits}, Prelude.{codes}}}
use Rattle.hc_sched.proofs.event.write_poll.Goals as goal

usual : decimal 16384 ≡ codes "16384"
unfolding digits
usual = refl

joined : (o x word c n a b d : List ℕ) → x ≡ o → a ≡ x ++ word → b ≡ a ++ c → d ≡ b ++ 32 ∷ (n ++ 10 ∷ []) → d ≡ o ++ ((word ++ (c ++ 32 ∷ n)) ++ 10 ∷ [])
joined o x word c n a b d p q r s = rw (s, r, q, p) (simp append_assoc)

pub returns-then-want-eq-USUAL_WANT-clause-ok : goal.returns-then-want-eq-USUAL_WANT-clause-ok
returns-then-want-eq-USUAL_WANT-clause-ok c =
    let word = rw c.unwrap.ensures at c.extend_from_slice.ensures.items in
    let number = rw c.unwrap-2.ensures at c.write_number.ensures.ok in
    let end = rw c.unwrap-then-want-eq-USUAL_WANT.ensures at c.extend_from_slice-then-want-eq-USUAL_WANT.ensures.items in
    rw (c.if-want-eq-USUAL_WANT.true, usual)
    (joined c.args.to.now.items c.reserve.new.self.items (codes "poll ") (decimal c.args.c) (codes "16384") c.extend_from_slice.new.self.items
    c.write_number.new.to.items
    c.extend_from_slice-then-want-eq-USUAL_WANT.new.self.items c.reserve.ensures.items word number end)
