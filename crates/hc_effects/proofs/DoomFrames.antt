-- What a doom of a key comes to: who waits for it starts over, what they await is closed, and what is current is let
-- go.
use Rattle.std.{proofs.{lemmas.Bool.Decides.{nat_tests}, Common.{arith, ◌≡◌, inl, inr, ℕ, List, [], ◌∷◌, Bool, true, false, Option, Some, None, refl, ap, sym, ◌∙◌}}, specs.Prelude.{bytes_eq, ◌&&◌, ◌||◌, if◌then◌else◌, option_map, filter, reverse}}
use Rattle.hc_text.proofs.Basics.{and_left, and_right, bool_cases, not_some as none_some, never_true as not_so, or_cases}
use Rattle.hc_effects.proofs.Vocabulary.{back_in_line, is_number, sent_back, is_awaited, awaited_and, Tables, Exchange, Representation, Consumer, Sound, waits_at, awaits}
use Rattle.hc_effects.proofs.{Basics.{false_true, number_is}, SameTables.{is_in, waits_for_any, back_from_any}, PieceKeeps.{eq_cases}, BoundStays.{none_of}}

-- CONSUMERS

-- whoever waits for the key starts over, and else who waits for what goes
pub sent_as : (t : Tables) (now : ℕ) (key : List ℕ) (rs : List ℕ) (k : Consumer) →
    Some (if (bytes_eq key k.request.key && waits_at t k.place) || waits_for_any rs k.place then back_in_line now k else k) ≡ option_map
    (back_from_any now rs) (Some (sent_back t now key k))
sent_as t now key rs k = grind (arith, nat_tests)

-- EXCHANGES

in_filter : (x : ℕ) (test : ℕ → Bool) (xs : List ℕ) → is_in (filter test xs) x ≡ true → test x ≡ true
in_filter x test [] h = absurd (false_true h)
in_filter x test (y ∷ ys) h = elim (bool_cases (test y)) [
  | inr off ↦ in_filter x test ys (rw off at h)
  | inl passes ↦ elim (eq_cases y x) [
    | inl same ↦ sym (ap test same.1) ∙ passes
    | inr other ↦ in_filter x test ys (rw (passes, other.0) at h)
  ]
]

module _ (t : Tables) (key : List ℕ) (s : Sound t) where
  -- what is awaited founded nothing yet
  unfounded_by : (x : ℕ) (o : Option Exchange) → t.exchange x ≡ o → is_awaited t key x o ≡ true → t.representation x ≡ None
  unfounded_by x None row h = absurd (false_true h)
  unfounded_by x (Some w) row h =
      s.numbered.names.unfounded x w row
      (none_of w.head (and_right w.is_open _ (and_right (bytes_eq key w.request.key) _ (and_left _ (awaits (t.consumer w.c) x) h))))

  pub awaited_apart : (also : Option ℕ) → ((x : ℕ) → also ≡ Some x → t.representation x ≡ None) → (r : ℕ) (v : Representation) →
      t.representation r ≡ Some v → is_in (awaited_and t key also) r ≡ false
  awaited_apart also apart r v there =
      not_so (is_in (awaited_and t key also) r)
      (λ h. elim (or_cases (is_number also r) (is_awaited t key r (t.exchange r))
      (in_filter r (λ x. is_number also x || is_awaited t key x (t.exchange x)) (reverse t.openings) h)) [
        | inl named ↦ none_some v (sym (apart r (number_is also r named)) ∙ there)
        | inr awaited ↦ none_some v (sym (unfounded_by r (t.exchange r) refl awaited) ∙ there)
      ])
