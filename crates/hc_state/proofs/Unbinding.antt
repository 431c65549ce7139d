-- One consumer isn't bound any more: what is kept of representations represents the tables in which its row is another.
--
-- To what it wasn't bound the same are bound, so those entries stay (`entry_stays`). What it was bound to has the work:
-- it leaves the list of that. Where this was gone and nobody is left, the entry is dropped, and the tables count nobody
-- bound to it either. Else the entry stays with the shorter list. `entries_unbound` joins the two, and `user_kept` says
-- that whoever is bound is on the list.
use Rattle.std.{proofs.{Common.{◌≡◌, ◌≢◌, inl, inr, ℕ, List, [], ◌∷◌, Bool, true, false, cond, eqb, Option, Some, None, refl, ap, sym, ◌∙◌, subst, arith}, lemmas.Bool.Decides.{nat_tests}}, specs.{Prelude.{is_some, not, ◌&&◌, if◌then◌else◌}, Option.{option_and_then}}}
use Rattle.hc_text.proofs.{Basics.{eqb-other, eqb-same, false_true, same_or}, SortedLemmas.{has-without}}
use Rattle.hc_text.specs.Sorted.{has, without, itself, is_among}
use Rattle.hc_stored.specs.Kept as entry
use Rattle.hc_entry.specs.Used.{unless_it}
use Rattle.hc_stored.specs.{Kept.{Kept, is_nobody, without_user}, Shelf.{Shelf, same_order}, Views.{bound_in}}
use Rattle.hc_stored.specs.Shelf as shelf
use Rattle.hc_effects.proofs.Vocabulary.{Place, BoundBy, is_number, with_consumer, kind_of, bound, is_bound, is_bound_place, Tables, Representation, Among, came_alone, place}
use Rattle.hc_model.specs.Rows as rows
use Rattle.hc_effects.proofs.{ExclusiveWriters.{filter_some}, Tests.{and_false}}
use Rattle.hc_state.specs.{Leaving.{IsUserAt, UnbindsAt}, Stored.{IsEntry, KnowsLength, reported, unreported, KeepsEntry, KeepsEntries, is_first}}
use Rattle.hc_state.proofs.{OneOfEach.{bound_same}, Ties.{entry_same}, LiveCounts.{filter_nothing}}

-- it isn't among them any more
pub without_is : (c : ℕ) (cs : List ℕ) (d : ℕ) → is_among d (without itself c cs) ≡ cond (eqb c d) false (is_among d cs)
without_is c cs d = has-without itself d c cs ∙ grind (arith, nat_tests)

-- it is bound to nothing then
module _ (t : Tables) (started : (d : ℕ) → is_some (t.consumer d) ≡ true → Among d t.starts) (c : ℕ) (v w : rows.Consumer) (row : t.consumer c ≡ Some v)
    (free : (q : ℕ) → is_bound_place q w.place ≡ false) where
  abbrev s : Tables
  s = with_consumer c (Some w) t

  here : s.consumer c ≡ Some w
  here = rw (eqb-same c) refl

  others : (d : ℕ) → d ≢ c → s.consumer d ≡ t.consumer d
  others d ne = rw (eqb-other c d (λ e. ne (sym e))) refl

  users : (q : ℕ) → is_bound q (Some v) ≡ false → (d : ℕ) → is_bound q (s.consumer d) ≡ is_bound q (t.consumer d)
  users q off d = grind (arith, nat_tests)

  firsts : (q : ℕ) → is_bound q (Some v) ≡ false → (d : ℕ) → is_first s q (s.consumer d) ≡ is_first t q (t.consumer d)
  firsts q off d = grind (arith, nat_tests)

  -- that it wasn't bound to
  entry_stays : (q : ℕ) (k : Option Kept) (o : Option Representation) → t.representation q ≡ o → is_bound q (Some v) ≡ false → KeepsEntry t q k o →
      KeepsEntry s q k o
  unfolding kind_of
  entry_stays q k o at off kept =
      entry_same t s q k o at (record {
        users = users q off;
        first = firsts q off;
        list = bound_same t s q refl (users q off);
        kind = λ p is. refl;
        overs = λ y on. on;
      }) kept

  bound_started : (z : Tables) (q d : ℕ) → z.starts ≡ t.starts → is_bound q (z.consumer d) ≡ true → is_some (t.consumer d) ≡ true → bound z q ≢ []
  unfolding bound
  bound_started z q d starts on there = filter_some (λ n. is_bound q (z.consumer n)) d z.starts (subst (Among d) (sym starts) (started d there)) on

  -- whoever is bound started
  bound_there : (q d : ℕ) (o : Option rows.Consumer) → is_bound q o ≡ true → is_some o ≡ true
  bound_there q d o on = grind (arith, nat_tests)

  there_too : (d : ℕ) → is_some (s.consumer d) ≡ true → is_some (t.consumer d) ≡ true
  there_too d there = grind (arith, nat_tests)

  module _ (q : ℕ) (bound_here : is_bound q (Some v) ≡ true) where
    nobody_not : bound t q ≡ [] → ⊥
    nobody_not none = bound_started t q c refl (ap (is_bound q) row ∙ bound_here) (ap (λ z. is_some z) row) none

    module _ (e : Kept) (p : Representation) (is : IsEntry t q e p) where
      has_left : (d : ℕ) → has itself d (without itself c e.bound) ≡ is_bound q (s.consumer d)
      has_left d = grind (arith, nat_tests, without_is, same_or, eqb-same, eqb-other)

      first_left : (d : ℕ) → is_number (unless_it c e.first) d ≡ is_first s q (s.consumer d)
      first_left d = elim (same_or c d) [
        | inl same ↦ rw (← same, here) (unless_off e.first ∙ sym (and_false (is_bound_place q w.place) (came_alone s w.place) (free q)))
        | inr ne ↦ unless_other e.first ne ∙ (is.first d ∙ sym (ap (is_first s q) (others d (λ eq. ne (sym eq)))))
      ]
        where
          unless_off : (o : Option ℕ) → is_number (unless_it c o) c ≡ false
          unless_off None = refl
          unless_off (Some f) = elim (same_or f c) [
            | inl same ↦ rw (same, eqb-same c) refl
            | inr ne ↦ rw (eqb-other f c ne) (eqb-other f c ne)
          ]

          unless_other : (o : Option ℕ) → c ≢ d → is_number (unless_it c o) d ≡ is_number o d
          unless_other None apart = refl
          unless_other (Some f) apart = elim (same_or f c) [
            | inl same ↦ rw (same, eqb-same c) (sym (eqb-other c d apart))
            | inr off ↦ rw (eqb-other f c off) refl
          ]

      nobody_has : (cs : List ℕ) (d : ℕ) → is_nobody cs ≡ true → has itself d cs ≡ false
      nobody_has cs d none = grind (arith, nat_tests)

      somebody : (cs : List ℕ) → is_nobody cs ≡ false → (d : ℕ) × (has itself d cs ≡ true)
      somebody [] some = false_true (sym some)
      somebody (x ∷ xs) some = (x, rw (eqb-same x) refl)

      nobody_left : is_nobody (without itself c e.bound) ≡ true → bound s q ≡ []
      unfolding bound
      nobody_left none = filter_nothing (λ n. is_bound q (s.consumer n)) s.starts (λ d. sym (has_left d) ∙ nobody_has (without itself c e.bound) d none)

      still_used : is_nobody (without itself c e.bound) ≡ false → bound s q ≢ []
      still_used some =
          let one = somebody (without itself c e.bound) some in
          let on : is_bound q (s.consumer one.0) ≡ true = sym (has_left one.0) ∙ one.1 in
          bound_started s q one.0 refl on (there_too one.0 (bound_there q one.0 (s.consumer one.0) on))

      used_by_test : (g n : Bool) → e.is_gone ≡ g → is_nobody (without itself c e.bound) ≡ n → (g && n) ≡ false → p.is_gone ≡ true → bound s q ≢ []
      used_by_test g n gone some off is_gone = grind (arith, nat_tests, still_used)

      gone_by_test : (g n : Bool) → (g && n) ≡ true → (g ≡ true) × (n ≡ true)
      gone_by_test g n on = grind (arith, nat_tests)

      by_length : KnowsLength e p → KnowsLength (without_user c e) p
      by_length (reported same) = reported same
      by_length (unreported u) =
          unreported (record { gone = u.gone; unreported = u.unreported; total = u.total; known = u.known; came = u.came; first = ap (unless_it c) u.first })

      left_by_test : (b : Bool) → (e.is_gone && is_nobody (without itself c e.bound)) ≡ b →
          KeepsEntry s q (if b then None else Some (without_user c e)) (Some p)
      unfolding kind_of
      left_by_test true on =
          let both = gone_by_test e.is_gone (is_nobody (without itself c e.bound)) on in
          record { gone = sym is.is_gone ∙ both.0; unused = nobody_left both.1 }
      left_by_test false off = assumption (
        is,
        by_length is.length,
        has_left,
        first_left,
        used_by_test e.is_gone (is_nobody (without itself c e.bound)) refl refl off,
      )

    -- that it was bound to
    entry_left : (k : Option Kept) (o : Option Representation) → KeepsEntry t q k o → KeepsEntry s q (option_and_then (entry.left_by c) k) o
    entry_left None None kept = tt
    entry_left None (Some p) kept = absurd (nobody_not kept.unused)
    entry_left (Some e) None kept = absurd kept
    entry_left (Some e) (Some p) kept = left_by_test e p kept (e.is_gone && is_nobody (without itself c e.bound)) refl

  -- what is kept of representations represents it
  pub entries_unbound : (a b : Shelf) → KeepsEntries t a → UnbindsAt v.place c a b → KeepsEntries s b
  entries_unbound a b kept unbinds = by_place v.place refl
    where
      as_were : b ≡ a → ((q : ℕ) → is_bound q (Some v) ≡ false) → KeepsEntries s b
      as_were same off = record {
        each = λ q. rw same (entry_stays q (a.kept q) (t.representation q) refl (off q) (kept.each q));
        order = rw same kept.order;
      }

      by_place : (p : Place) → v.place ≡ p → KeepsEntries s b
      by_place (place.Bound q0 lo hi how) at =
          let left : shelf.Becomes (option_and_then (entry.left_by c)) same_order q0 a b = subst (λ p. UnbindsAt p c a b) at unbinds in
          record {
            each = λ q. elim (same_or q0 q) [
              | inl e ↦ subst (λ n. KeepsEntry s n (b.kept n) (s.representation n)) e
                  (rw (left.kept q0, eqb-same q0) (entry_left q0 (rw at (eqb-same q0)) (a.kept q0) (t.representation q0) (kept.each q0)))
              | inr ne ↦ rw (left.kept q, eqb-other q0 q ne) (entry_stays q (a.kept q) (t.representation q) refl (rw at (eqb-other q0 q ne)) (kept.each q))
            ];
            order = left.order ∙ kept.order;
          }
      by_place _ at = as_were (subst (λ p. UnbindsAt p c a b) at unbinds) (λ q. rw at refl)

-- WHO IS BOUND IS KEPT AS BOUND

module _ (t : Tables) (started : (d : ℕ) → is_some (t.consumer d) ≡ true → Among d t.starts) (c : ℕ) (v : rows.Consumer) (row : t.consumer c ≡ Some v)
    (stored : (q lo : ℕ) (hi : Option ℕ) (how : BoundBy) → v.place ≡ place.Bound q lo hi how → is_some (t.representation q) ≡ true) where
  nobody_else : (q : ℕ) → is_bound q (t.consumer c) ≡ true → bound t q ≢ []
  unfolding bound
  nobody_else q on = filter_some (λ n. is_bound q (t.consumer n)) c t.starts (started c (ap (λ z. is_some z) row)) on

  -- where it is bound, it is kept that it is
  pub user_kept : (a : Shelf) → KeepsEntries t a → IsUserAt v.place c a
  user_kept a kept = by_place v.place refl
    where
      by_kept : (q : ℕ) → is_bound q (Some v) ≡ true → is_some (t.representation q) ≡ true → (k : Option Kept) (o : Option Representation) →
          t.representation q ≡ o → KeepsEntry t q k o → has itself c (bound_in k) ≡ true
      by_kept q on there None None at each = false_true (sym (ap (λ z. is_some z) at) ∙ there)
      by_kept q on there None (Some p) at each = absurd (nobody_else q (ap (is_bound q) row ∙ on) each.unused)
      by_kept q on there (Some e) None at each = absurd each
      by_kept q on there (Some e) (Some p) at each = each.bound c ∙ (ap (is_bound q) row ∙ on)

      by_place : (p : Place) → v.place ≡ p → IsUserAt v.place c a
      by_place (place.Bound q lo hi how) at =
          subst (λ p. IsUserAt p c a) (sym at)
          (by_kept q (rw at (eqb-same q)) (stored q lo hi how at) (a.kept q) (t.representation q) refl (kept.each q))
      by_place _ at = subst (λ p. IsUserAt p c a) (sym at) tt
