-- The tables of connections to the origin, as an exchange goes.
use Rattle.std.{proofs.{Common.{◌≡◌, ◌≢◌, ℕ, true, false, Option, Some, None, refl, sym, ap, ◌∙◌}, lemmas.Bool.{eqb-true, eq-eqb, ne_eqb}}, specs.{Prelude.{nat_eq, is_some}, HashMap.{HashMap}, BTreeSet.{BTreeSet}, Ordering.{nat_cmp}}}
use Rattle.std.specs.HashMap as hash
use Rattle.std.specs.BTreeSet as set
use Rattle.hc_peers.specs.{declared.upstream.Upstream.{Upstream}, Agreement.{IsDialledTable, AreThere, is_at, is_numbered}}
use Rattle.hc_peers.proofs.Changes.{Changed, at-each}

-- the only exchange of a connection
numbered-only : (o : Option ℕ) (x y : ℕ) → is_numbered o x ≡ true → y ≢ x → is_numbered o y ≡ false
numbered-only None x y is ne = refl
numbered-only (Some z) x y is ne = let e = eqb-true z x is in ne_eqb z y (λ f. ne (sym f ∙ e))

module _ {S T : Type 0} (rows now : HashMap ℕ Upstream S) (dialled dialled' : HashMap ℕ ℕ T) (x : ℕ) (upstream : Upstream)
    (was : Some upstream ≡ hash.get nat_eq rows x) (change : Changed x None (hash.get nat_eq rows) (hash.get nat_eq now))
    (less : Changed upstream.k None (hash.get nat_eq dialled) (hash.get nat_eq dialled')) (h : IsDialledTable rows dialled) where
  at-number : is_numbered (hash.get nat_eq dialled upstream.k) x ≡ true
  at-number = sym (h upstream.k x) ∙ (ap (is_at upstream.k) (sym was) ∙ eq-eqb upstream.k upstream.k refl)

  here : (k : ℕ) → is_numbered (hash.get nat_eq dialled' k) x ≡ false
  here = at-each (λ k. is_numbered (hash.get nat_eq dialled' k) x ≡ false) upstream.k (ap (λ (o : Option ℕ). is_numbered o x) less.here)
      (λ k ne. ap (λ (o : Option ℕ). is_numbered o x) (less.apart k ne) ∙ (sym (h k x) ∙ (ap (is_at k) (sym was) ∙ ne_eqb upstream.k k (λ e. ne (sym e)))))

  apart : (y : ℕ) → y ≢ x → (k : ℕ) → is_at k (hash.get nat_eq rows y) ≡ is_numbered (hash.get nat_eq dialled' k) y
  apart y other = at-each (λ k. is_at k (hash.get nat_eq rows y) ≡ is_numbered (hash.get nat_eq dialled' k) y) upstream.k
      (h upstream.k y ∙ (numbered-only (hash.get nat_eq dialled upstream.k) x y at-number other ∙ sym (ap (λ (o : Option ℕ). is_numbered o y) less.here)))
      (λ k ne. h k y ∙ sym (ap (λ (o : Option ℕ). is_numbered o y) (less.apart k ne)))

  pub dialled-gone : IsDialledTable now dialled'
  dialled-gone k = at-each (λ y. is_at k (hash.get nat_eq now y) ≡ is_numbered (hash.get nat_eq dialled' k) y) x
      (ap (is_at k) change.here ∙ sym (here k)) (λ y ne. ap (is_at k) (change.apart y ne) ∙ apart y ne k)

module _ {S : Type 0} (rows now : HashMap ℕ Upstream S) (news news' : BTreeSet ℕ) (x : ℕ) (after : Option Upstream)
    (change : Changed x after (hash.get nat_eq rows) (hash.get nat_eq now)) (less : Changed x false (set.contains nat_cmp news) (set.contains nat_cmp news'))
    (h : AreThere rows news) where
  pub there-gone : AreThere now news'
  there-gone = at-each (λ y. set.contains nat_cmp news' y ≡ true → is_some (hash.get nat_eq now y) ≡ true) x
      (λ on. absurd (let off = less.here in cc)) (λ y ne on. ap is_some (change.apart y ne) ∙ h y (sym (less.apart y ne) ∙ on))

-- the connection of an exchange is among those dialled
pub dialled-at : {S T : Type 0} (rows : HashMap ℕ Upstream S) (dialled : HashMap ℕ ℕ T) (x : ℕ) (upstream : Upstream) → IsDialledTable rows dialled
    → hash.get nat_eq rows x ≡ Some upstream → is_some (hash.get nat_eq dialled upstream.k) ≡ true
dialled-at rows dialled x upstream h is =
    some (hash.get nat_eq dialled upstream.k) (sym (h upstream.k x) ∙ (ap (is_at upstream.k) is ∙ eq-eqb upstream.k upstream.k refl)) where
      some : (o : Option ℕ) → is_numbered o x ≡ true → is_some o ≡ true
      some None on = absurd (cc)
      some (Some y) on = refl
