-- A consumer that read nothing is bound to what is current: what is held and the entries represent the tables then.
--
-- What is current isn't lost, so nobody goes on alone with it, and nothing is held for its new reader (`held_bound`).
-- Every other entry has the users that it had. Its own has one more: by a plan (`entry_with`), or as the one that came
-- alone, where nobody did (`entry_first`). It is the last one used then, so the order has the work: filtering and
-- moving to the front may be swapped (`entries_bound`). `BindHandler` and `FirstHandler` use these.
use Rattle.std.{proofs.Common.{◌≡◌, ◌≢◌, inl, inr, ℕ, List, [], ◌∷◌, Bool, true, false, Option, Some, None, refl, ap, sym, ◌∙◌, subst}, specs.Prelude.{filter, not, option_map, ◌==◌, ◌&&◌}}
use Rattle.hc_text.proofs.{Basics.{eqb-other, eqb-same, false_true, same_or, same_some as same_row, and_off as then_false}, SortedLemmas.{has-with}}
use Rattle.hc_text.specs.Sorted.{has, with_item, without, itself}
use Rattle.hc_stored.specs.{Kept.{Kept, with_user, with_first}, Shelf.{Shelf, Becomes, moved_first}}
use Rattle.hc_effects.proofs.Vocabulary.{Place, BoundBy, is_number, family, kind_of, Lawful, reads, is_bound, is_bound_place, Tables, Exchange, Representation, came_alone, place, by, bound}
use Rattle.hc_effects.proofs.Tests.{and_false, none_some}
use Rattle.hc_model.specs.Rows as rows
use Rattle.hc_state.specs.{Kept.{held_for, held_of, held_alone, unread, unstored_bytes}, Stored.{IsEntry, KeepsEntry, KeepsEntries, is_first, is_usable_row, KnowsLength}}
use Rattle.hc_state.specs.Stored as stored
use Rattle.hc_state.proofs.{Fallbacks.{unread_fallback, unstored_fallback, unstored_moved}, FallbackSteps.{first_fallback}, CurrentTies.{stays_stored, total_reported}, OneOfEach.{first_row, bound_same}, Ties.{entry_same, OversStay, writer_then}}

-- LISTS

filters_swap : (f g : ℕ → Bool) (xs : List ℕ) → filter f (filter g xs) ≡ filter g (filter f xs)
filters_swap f g [] = refl
filters_swap f g (x ∷ xs) = by_tests (f x) (g x) refl refl (filters_swap f g xs)
  where
    by_tests : (a b : Bool) → f x ≡ a → g x ≡ b → filter f (filter g xs) ≡ filter g (filter f xs) → filter f (filter g (x ∷ xs)) ≡ filter g (filter f (x ∷ xs))
    by_tests true true a b rest = rw (a, b, a) (ap (λ (ys : List ℕ). x ∷ ys) rest)
    by_tests false true a b rest = rw (a, b, a) rest
    by_tests true false a b rest = rw (a, b) rest
    by_tests false false a b rest = rw (a, b) rest

module _ (t s : Tables) (law : Lawful t) (c q lo : ℕ) (hi : Option ℕ) (how : BoundBy) (v w : rows.Consumer) (p : Representation)
    (row : t.consumer c ≡ Some v) (here : s.consumer c ≡ Some w) (others : (d : ℕ) → d ≢ c → s.consumer d ≡ t.consumer d)
    (idle : reads v.place ≡ false) (at : w.place ≡ place.Bound q lo hi how) (same : (n : ℕ) → s.representation n ≡ t.representation n)
    (starts : s.starts ≡ t.starts) (used : s.used ≡ q ∷ filter (λ n. not (n == q)) t.used)
    (there : t.representation q ≡ Some p) (stays : p.is_gone ≡ false)
    (kinds : (n : ℕ) (b : Representation) → t.representation n ≡ Some b → kind_of s n b ≡ kind_of t n b) where
  -- WHAT IS HELD

  alone_none : p.alone ≡ None
  alone_none = (law.sound.rows q p there).store.nobody_alone (stays_stored t law q p there stays)

  bound_at : (n : ℕ) → is_bound_place n w.place ≡ (q == n)
  bound_at n = ap (is_bound_place n) at

  unstored_here : (y : ℕ) (e : Exchange) (b : Representation) → t.representation (family y e) ≡ Some b → b.alone ≡ Some c → unstored_bytes s y e b (Some w) ≡ []
  unstored_here y e b of_y alone = elim (same_or q (family y e)) [
    | inl one ↦ none_some c (sym alone_none ∙
        (ap (λ (z : Representation). z.alone) (same_row (t.representation q) p b there (ap t.representation one ∙ of_y)) ∙ alone))
    | inr ne ↦ (let off : (is_bound_place (family y e) w.place && is_number w.own y) ≡ false =
        and_false (is_bound_place (family y e) w.place) (is_number w.own y) (bound_at (family y e) ∙ eqb-other q (family y e) ne) in rw off refl)
  ]

  unread_here : (y : ℕ) (e : Exchange) → unread y e (Some w) ≡ []
  unread_here y e = rw at refl

  pub held_bound : (y : ℕ) (e : Exchange) → held_for s y (Some e) ≡ held_for t y (Some e)
  held_bound y e = ap (held_of s y e) (same (family y e)) ∙ by_row (t.representation (family y e)) refl
    where
      by_alone : (b : Representation) (o : Option ℕ) → t.representation (family y e) ≡ Some b → b.alone ≡ o → held_alone s y e b o ≡ held_alone t y e b o
      by_alone b None of_y is = refl
      by_alone b (Some d) of_y is = elim (same_or c d) [
        | inl one ↦ rw (← one, here, row) (unstored_here y e b of_y (is ∙ ap Some (sym one)) ∙ sym (unstored_fallback t y e b (Some v) (ap not idle)))
        | inr ne ↦ ap (unstored_bytes s y e b) (others d (λ is. ne (sym is))) ∙ unstored_moved t s y e b (t.consumer d)
      ]

      by_row : (o : Option Representation) → t.representation (family y e) ≡ o → held_of s y e o ≡ held_of t y e o
      by_row None of_y = elim (same_or c e.c) [
        | inl one ↦ rw (← one, here, row) (unread_here y e ∙ sym (unread_fallback y e (Some v) (ap not idle)))
        | inr ne ↦ ap (unread y e) (others e.c (λ is. ne (sym is)))
      ]
      by_row (Some b) of_y = by_alone b b.alone of_y refl

  -- WHO IS BOUND

  idle_unbound : (n : ℕ) → is_bound n (Some v) ≡ false
  idle_unbound n = by_place v.place refl
    where
      by_place : (z : Place) → v.place ≡ z → is_bound n (Some v) ≡ false
      by_place (place.Bound a l h b) is = false_true (sym idle ∙ ap reads is)
      by_place _ is = rw is refl

  users_other : (n : ℕ) → n ≢ q → (d : ℕ) → is_bound n (s.consumer d) ≡ is_bound n (t.consumer d)
  users_other n ne d = elim (same_or c d) [
    | inl one ↦ rw (← one, here, row) (bound_at n ∙ (eqb-other q n (λ is. ne (sym is)) ∙ sym (idle_unbound n)))
    | inr off ↦ ap (is_bound n) (others d (λ is. off (sym is)))
  ]

  first_other : (n : ℕ) → n ≢ q → (d : ℕ) → is_first s n (s.consumer d) ≡ is_first t n (t.consumer d)
  first_other n ne d = elim (same_or c d) [
    | inl one ↦ rw (← one, here, row) (and_false (is_bound_place n w.place) (came_alone s w.place) (bound_at n ∙ eqb-other q n (λ is. ne (sym is))) ∙
        sym (first_fallback t n (Some v) (ap not idle)))
    | inr off ↦ ap (is_first s n) (others d (λ is. off (sym is))) ∙ first_row t s same n (t.consumer d)
  ]

  entry_other : OversStay t.exchange s.exchange → (n : ℕ) → n ≢ q → (k : Option Kept) → KeepsEntry t n k (t.representation n) →
      KeepsEntry s n k (s.representation n)
  entry_other overs n ne k kept = subst (KeepsEntry s n k) (sym (same n))
      (entry_same t s n k (t.representation n) refl
      (record { users = users_other n ne; first = first_other n ne; list = bound_same t s n starts (users_other n ne); kind = kinds n; overs = overs }) kept)

  module _ (e : Kept) (is : IsEntry t q e p) where
    with_it : (d : ℕ) → has itself d (with_item itself c e.bound) ≡ is_bound q (s.consumer d)
    with_it d = has-with itself d c e.bound ∙ elim (same_or c d) [
      | inl one ↦ rw (← one, here, eqb-same c) (sym (bound_at q ∙ eqb-same q))
      | inr ne ↦ rw (eqb-other c d ne) (is.bound d ∙ sym (ap (is_bound q) (others d (λ z. ne (sym z)))))
    ]

    first_else : (d : ℕ) → d ≢ c → is_number e.first d ≡ is_first s q (s.consumer d)
    first_else d ne = is.first d ∙ sym (ap (is_first s q) (others d ne) ∙ first_row t s same q (t.consumer d))

    not_first : is_number e.first c ≡ false
    not_first = is.first c ∙ (ap (is_first t q) row ∙ first_fallback t q (Some v) (ap not idle))

    entry_by : OversStay t.exchange s.exchange → (first : Option ℕ) → ((d : ℕ) → is_number first d ≡ is_first s q (s.consumer d)) →
        IsEntry s q (record (with_user c e) { first = first }) p
    entry_by overs first firsts =
        let used : p.is_gone ≡ true → bound s q ≢ [] = λ gone. false_true (sym stays ∙ gone) in
        let length : KnowsLength (record (with_user c e) { first = first }) p = stored.reported (total_reported t q e p is stays) in
        assumption (
          is,
          used,
          length,
          with_it,
          firsts,
          writer_then overs is.writer,
          (λ (off : p.is_gone ≡ false). is.kind off ∙ sym (kinds q p there)),
        )

    -- one more is bound, by its plan
    pub entry_with : OversStay t.exchange s.exchange → how ≡ by.Plan → IsEntry s q (with_user c e) p
    entry_with overs plan = entry_by overs e.first (λ d. elim (same_or c d) [
      | inl one ↦
          let late : came_alone s w.place ≡ false = ap (came_alone s) at ∙ rw plan refl in
          rw (← one, here) (not_first ∙ sym (then_false (is_bound_place q w.place) (came_alone s w.place) late))
      | inr ne ↦ first_else d (λ z. ne (sym z))
    ])

    -- or as the only one, where nobody came alone
    pub entry_first : OversStay t.exchange s.exchange → (x : ℕ) → how ≡ by.FirstHole x → e.first ≡ None → IsEntry s q (with_first c e) p
    entry_first overs x first none = entry_by overs (Some c) (λ d. elim (same_or c d) [
      | inl one ↦
          let early : came_alone s w.place ≡ true = ap (came_alone s) at ∙ rw first refl in
          rw (← one, here, eqb-same c) (sym (both (is_bound_place q w.place) (bound_at q ∙ eqb-same q) early))
      | inr ne ↦
          let none_else : is_number e.first d ≡ false = ap (λ (o : Option ℕ). is_number o d) none in
          rw (eqb-other c d ne) (sym none_else ∙ first_else d (λ z. ne (sym z)))
    ])
      where
        both : {x : Bool} (b : Bool) → b ≡ true → x ≡ true → (b && x) ≡ true
        both true on also = also
        both false on also = false_true on

  -- ALL REPRESENTATIONS

  pub entries_bound : OversStay t.exchange s.exchange → (a b : Shelf) (f : Kept → Kept) (e : Kept) → KeepsEntries t a → a.kept q ≡ Some e →
      IsEntry s q (f e) p → Becomes (option_map f) (moved_first q) q a b → KeepsEntries s b
  entries_bound overs a b f e kept at_q is becomes = record {
    each = λ n. elim (same_or q n) [
      | inl one ↦ subst (λ (m : ℕ). KeepsEntry s m (b.kept m) (s.representation m)) one
          (subst (λ (o : Option Kept). KeepsEntry s q o (s.representation q)) (sym changed) (subst (KeepsEntry s q (Some (f e))) (sym (same q ∙ there)) is))
      | inr ne ↦ subst (λ (o : Option Kept). KeepsEntry s n o (s.representation n)) (sym (stayed n ne))
          (entry_other overs n (λ z. ne (sym z)) (a.kept n) (kept.each n))
    ];
    order = becomes.order ∙ (ap (λ (ns : List ℕ). q ∷ without itself q ns) kept.order ∙
        sym (ap (filter usable_s) used ∙
        (rw (usable_q) (ap (λ (ns : List ℕ). q ∷ ns) (filters_as (filter (λ n. not (n == q)) t.used) ∙ filters_swap usable_t (λ n. not (n == q)) t.used)))));
  }
    where
      changed : b.kept q ≡ Some (f e)
      changed = becomes.kept q ∙ rw (eqb-same q) (ap (option_map f) at_q)

      stayed : (n : ℕ) → q ≢ n → b.kept n ≡ a.kept n
      stayed n ne = becomes.kept n ∙ rw (eqb-other q n ne) refl

      usable_s : ℕ → Bool
      usable_s n = is_usable_row (s.representation n)

      usable_t : ℕ → Bool
      usable_t n = is_usable_row (t.representation n)

      usable_q : is_usable_row (s.representation q) ≡ true
      usable_q = ap is_usable_row (same q ∙ there) ∙ ap not stays

      filters_as : (ns : List ℕ) → filter (λ n. is_usable_row (s.representation n)) ns ≡ filter (λ n. is_usable_row (t.representation n)) ns
      filters_as [] = refl
      filters_as (n ∷ ns) = rw (same n, filters_as ns) refl
