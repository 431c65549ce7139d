-- What weighs in the store: what isn't gone, and what somebody reads.
--
-- `held` is what a row weighs, `total` what all do, and `IsHeld` has the reasons; `held_is` and `held_most` count by
-- these. What an entry leaves to weigh is within that (`weights_most`). A size changes by a stored piece alone
-- (`sized`). Where nothing is lost, what goes before the answer goes with it too (`goes_more`): the case of a head is
-- the same then (`case_same`). That what is stored fits is counted by these.
use Rattle.std.{proofs.{lemmas.Bool.Decides.{nat_tests}, Common.{◌≡◌, ◌⊎◌, inl, inr, ℕ, ◌+◌, ◌≤◌, List, [], ◌∷◌, length, Bool, true, false, Option, Some, None, refl, ap, sym, ◌∙◌, subst, arith}}, specs.{Prelude.{if◌then◌else◌, ◌&&◌, ◌||◌, ◌==◌, not}, List.{list_any, sum_by}}}
use Rattle.hc_text.proofs.Basics.{and_left, bool_cases, or_cases, or_left, or_right}
use Rattle.hc_effects.proofs.Vocabulary.{Event, Response, HeadCase, weight_of, loses_in, has_loss, case_at, current, is_current, is_number, doomed_key_of, doomed_in, is_key, Entry, entry_without_acts, front, family, exchange_at, goes_by_case, goes_by_exchange, goes_by_head, goes_itself, ends_early, is_keepable, bound, representation_heard, representation_acted, representation_after_head, with_renewed_head, updates, representation_after_piece, with_stored_bytes, with_total_if_none, length_in, Tables, Exchange, Representation, Consumer, Sound, Among, IsBound, weight, weight_in, weights, moves_on, stays_current, stays_bound, event, case}
use Rattle.hc_effects.proofs.{Basics.{false_true, number_is, number_yes}, CurrentKeeps.{current_is}, HasBound.{reader_of}, PieceKeeps.{eq_cases}, ExclusiveWriters.{bound_some}, PollKeeps.{current_stays}, RepFrom.{IsKept}, Sums.{sum_le}}

-- WHAT WEIGHS

abbrev pub has_some : List ℕ → Bool
has_some [] = false
has_some (c ∷ cs) = true

abbrev pub is_held : Tables → ℕ → Representation → Bool
is_held t r v = is_current t v.key r || has_some (bound t r)

abbrev pub held_in : Tables → ℕ → Option Representation → ℕ
held_in t r None = 0
held_in t r (Some v) = if is_held t r v then weight_of v.size else 0

abbrev pub held : Tables → ℕ → ℕ
held t r = held_in t r (t.representation r)

-- what all weigh
abbrev pub total : Tables → ℕ
total t = sum_by (held t) t.founded

-- why it weighs
pub data IsHeld (t : Tables) (r : ℕ) (v : Representation) : Type 0 where
  fresh : v.is_gone ≡ false → IsHeld t r v
  read : (c : ℕ) (k : Consumer) → IsBound t r c k → IsHeld t r v

pub held_why : (t : Tables) (r : ℕ) (v : Representation) → t.representation r ≡ Some v → is_held t r v ≡ true → IsHeld t r v
held_why t r v row h = elim (or_cases (is_current t v.key r) (has_some (bound t r)) h) [
  | inl now ↦ fresh (current_stays t v.key r v (number_is (current t v.key) r now) row)
  | inr some ↦ by_list (bound t r) refl some
]
  where
    by_list : (cs : List ℕ) → bound t r ≡ cs → has_some cs ≡ true → IsHeld t r v
    by_list [] is some = absurd (false_true some)
    by_list (c ∷ cs) is some = let reader = reader_of t r c (subst (Among c) (sym is) (inl refl)) in read c reader.0 reader.1

pub held_yes : (t : Tables) (r : ℕ) (v : Representation) → Sound t → t.representation r ≡ Some v → IsHeld t r v → is_held t r v ≡ true
held_yes t r v s row (fresh not_gone) = or_left _ _ (number_yes (current t v.key) r (current_is t v.key r v s row refl not_gone))
held_yes t r v s row (read c k reader) = or_right (is_current t v.key r) _ (by_list (bound t r) refl)
  where
    by_list : (cs : List ℕ) → bound t r ≡ cs → has_some cs ≡ true
    by_list [] is = absurd (bound_some t r c k s.numbered reader is)
    by_list (d ∷ cs) is = refl

pub held_is : (t : Tables) (r : ℕ) (v : Representation) → Sound t → t.representation r ≡ Some v → IsHeld t r v → held t r ≡ weight_of v.size
held_is t r v s row why = ap (held_in t r) row ∙ rw (held_yes t r v s row why) refl

-- it weighs no more than this, where this is so for each reason
pub held_most : (t : Tables) (r n : ℕ) (v : Representation) → t.representation r ≡ Some v → (IsHeld t r v → weight_of v.size ≤ n) → held t r ≤ n
held_most t r n v row most = elim (bool_cases (is_held t r v)) [
  | inl on ↦ let is : held t r ≡ weight_of v.size = ap (held_in t r) row ∙ rw on refl in let le : weight_of v.size ≤ n = most (held_why t r v row on) in
      omega arith
  | inr off ↦ let is : held t r ≡ 0 = ap (held_in t r) row ∙ rw off refl in omega arith
]

pub held_none : (t : Tables) (r : ℕ) → t.representation r ≡ None → held t r ≡ 0
held_none t r none = ap (held_in t r) none

-- WHAT AN ENTRY LEAVES WEIGHS NO MORE

some_any : (test : ℕ → Bool) (cs : List ℕ) → list_any test cs ≡ true → has_some cs ≡ true
some_any test cs h = grind (arith, nat_tests)

weight_held : (t : Tables) (e : Entry) (r : ℕ) (o : Option Representation) → t.representation r ≡ o → weight_in t e r o ≤ held_in t r o
weight_held t e r None row = omega arith
weight_held t e r (Some v) row = elim (bool_cases (stays_current t e r v || stays_bound t e r)) [
  | inr off ↦ let none : weight_in t e r (Some v) ≡ 0 = rw off refl in omega arith
  | inl on ↦
      let w : weight_in t e r (Some v) ≡ weight_of v.size = rw on refl in
      let h : held_in t r (Some v) ≡ weight_of v.size = rw (by_cases (or_cases (stays_current t e r v) (stays_bound t e r) on)) refl in
      omega arith
]
  where
    by_cases : (stays_current t e r v ≡ true) ⊎ (stays_bound t e r ≡ true) → is_held t r v ≡ true
    by_cases (inl now) = or_left (is_current t v.key r) (has_some (bound t r)) (and_left (is_current t v.key r) (not (goes_itself t e r v)) now)
    by_cases (inr some) = or_right (is_current t v.key r) (has_some (bound t r)) (some_any (λ c. not (moves_on t e c)) (bound t r) some)

pub weights_most : (t : Tables) (e : Entry) → weights t e ≤ total t
weights_most t e = sum_le (weight t e) (held t) t.founded (λ r among. weight_held t e r (t.representation r) refl)

-- SIZES

-- a piece of it is stored
pub record IsFilled (t : Tables) (e : Entry) (r : ℕ) (v p : Representation) : Type 0 where
  pub x : ℕ
  pub bytes : List ℕ
  pub w : Exchange
  pub at : e.event ≡ event.Piece x bytes
  pub row : t.exchange x ≡ Some w
  pub of_r : family x w ≡ r
  pub kept : v.is_lost ≡ false
  pub quiet : loses_in r e.acts ≡ false
  pub size_is : p.size ≡ v.size + length bytes

module _ (t : Tables) (e : Entry) (r : ℕ) (v : Representation) where
  or_false : (a b : Bool) → not (a || b) ≡ true → (a ≡ false) × (b ≡ false)
  or_false a b h = grind (arith, nat_tests)

  abbrev Sized : Representation → Type 0
  Sized p = (p.size ≡ v.size) ⊎ IsFilled t e r v p

  headed_size : (x : ℕ) (response : Response) (o : Option Exchange) → (representation_after_head t e r x response o v).size ≡ v.size
  headed_size x response None = refl
  headed_size x response (Some w) = by_test (updates t e r w v)
    where
      by_test : (b : Bool) → (if b then with_renewed_head t e x response w v else v).size ≡ v.size
      by_test true = refl
      by_test false = refl

  pieced_size : (x : ℕ) (bytes : List ℕ) (o : Option Exchange) → e.event ≡ event.Piece x bytes → t.exchange x ≡ o →
      Sized (representation_after_piece e r x bytes o v)
  pieced_size x bytes None at row = inl refl
  pieced_size x bytes (Some w) at row = elim (eq_cases (family x w) r) [
    | inr off ↦ rw off.0 (inl refl)
    | inl hit ↦ rw hit.0 (by_kept (not (v.is_lost || loses_in r e.acts)) refl hit.1)
  ]
    where
      by_kept : (b : Bool) → not (v.is_lost || loses_in r e.acts) ≡ b → family x w ≡ r → Sized (with_stored_bytes b (front w) x bytes v)
      by_kept true is of_r = let both = or_false v.is_lost (loses_in r e.acts) is in
          inr (record { x = x; bytes = bytes; w = w; at = at; row = row; of_r = of_r; kept = both.0; quiet = both.1; size_is = refl })
      by_kept false is of_r = inl refl

  ended_size : (n : ℕ) (b : Bool) → (if b then with_total_if_none n v else v).size ≡ v.size
  ended_size n b = grind (arith, nat_tests)

  heard_size : (ev : Event) → e.event ≡ ev → Sized (representation_heard t e r ev v)
  heard_size (event.Head x response) at = inl (headed_size x response (t.exchange x))
  heard_size (event.Piece x bytes) at = pieced_size x bytes (t.exchange x) at refl
  heard_size (event.End x) at = inl (ended_size (length_in (t.exchange x)) (x == r))
  heard_size _ at = inl refl

  acted_size : (z : Representation) → Sized z → Sized (representation_acted t e r v z)
  acted_size z (inl same) = inl same
  acted_size z (inr f) = inr
      (record { x = f.x; bytes = f.bytes; w = f.w; at = f.at; row = f.row; of_r = f.of_r; kept = f.kept; quiet = f.quiet; size_is = f.size_is })

  pub sized : (p : Representation) → IsKept t e r v p → (p.size ≡ v.size) ⊎ IsFilled t e r v p
  sized p kept = subst Sized kept.is (acted_size _ (heard_size e.event refl))

-- WHAT GOES BEFORE THE ANSWER GOES WITH IT

module _ (t : Tables) (e : Entry) (r : ℕ) (lossless : has_loss e.acts ≡ false) where
  abbrev e0 : Entry
  e0 = entry_without_acts e.now e.event

  pub case_same : case_at t e0 ≡ case_at t e
  case_same = ap (λ lost. Rattle.hc_model.specs.Cases.case_of t lost e.event) (sym lossless)

  by_case_same : (g : Option HeadCase) (w : Exchange) → goes_by_case t e0 r g w ≡ goes_by_case t e r g w
  by_case_same None w = refl
  by_case_same (Some case.DirectBad) w = refl
  by_case_same (Some case.DirectTaken) w = refl
  by_case_same (Some case.TurnBad) w = refl
  by_case_same (Some case.Validated) w = refl
  by_case_same (Some case.NotValidated) w = refl
  by_case_same (Some case.TurnServerError) w = refl
  by_case_same (Some case.FoundsWhole) w = refl
  by_case_same (Some case.FoundsRange) w = refl
  by_case_same (Some case.PassesBy) w = refl
  by_case_same (Some case.FirstBad) w = refl
  by_case_same (Some case.FirstJoins) w = refl
  by_case_same (Some case.FirstServerError) w = refl
  by_case_same (Some case.FirstChanged) w = refl
  by_case_same (Some case.FirstReplaced) w = refl
  by_case_same (Some case.FirstPassesBy) w = ap (λ lost. is_number w.aim r || (lost && Rattle.hc_model.specs.Gone.is_current_of t w r)) (sym lossless)
  by_case_same (Some case.LaterBad) w = refl
  by_case_same (Some case.LaterJoins) w = refl
  by_case_same (Some case.LaterChanged) w = refl

  by_exchange_same : (z : Option Exchange) → goes_by_exchange t e0 r z ≡ goes_by_exchange t e r z
  by_exchange_same None = refl
  by_exchange_same (Some w) = ap (λ g. goes_by_case t e0 r g w) case_same ∙ by_case_same (case_at t e) w

  by_head_same : goes_by_head t e0 r ≡ goes_by_head t e r
  by_head_same = by_exchange_same (exchange_at t e.event)

  doomed_by_same : (ev : Event) → doomed_in t e0 ev ≡ doomed_in t e ev
  doomed_by_same ev = grind (arith, nat_tests)

  doomed_same : doomed_key_of t e0 ≡ doomed_key_of t e
  unfolding doomed_key_of
  doomed_same = doomed_by_same e.event

  early_more : (v : Representation) (z : Option Exchange) → t.exchange r ≡ z → ends_early t e0 r v ≡ true → ends_early t e r v ≡ true
  early_more v z row h = grind (arith, nat_tests)

  pub goes_more : (v : Representation) → goes_itself t e0 r v ≡ true → goes_itself t e r v ≡ true
  goes_more v h = elim (or_cases _ (ends_early t e0 r v && not (is_keepable v)) h) [
    | inr early ↦ or_right _ _ (both (ends_early t e0 r v) (is_keepable v) (early_more v (t.exchange r) refl) early)
    | inl a ↦ elim (or_cases _ false a) [
      | inr never ↦ absurd (false_true never)
      | inl b ↦ elim (or_cases _ false b) [
        | inr never ↦ absurd (false_true never)
        | inl d ↦ elim (or_cases _ (goes_by_head t e0 r) d) [
          | inr by_head ↦ or_left _ _ (or_left _ _ (or_left _ _ (or_right _ _ (sym by_head_same ∙ by_head))))
          | inl doom ↦ or_left _ _
              (or_left _ _ (or_left _ _
              (or_left _ _ (by_doom (is_current t v.key r) (is_key (doomed_key_of t e0) v.key) (ap (λ q. is_key q v.key) (sym doomed_same)) doom))))
        ]
      ]
    ]
  ]
    where
      both : (a k : Bool) → (a ≡ true → ends_early t e r v ≡ true) → (a && not k) ≡ true → (ends_early t e r v && not k) ≡ true
      both true k f h = rw (f refl) h
      both false k f h = absurd (false_true h)

      by_doom : (a b : Bool) → is_key (doomed_key_of t e) v.key ≡ b → (a && (b || false)) ≡ true →
          (a && (is_key (doomed_key_of t e) v.key || is_key (Rattle.hc_model.specs.Dooms.bypass_key e) v.key)) ≡ true
      by_doom a b is h = grind (arith, nat_tests)
