-- The record behind one more event: its text behind that of the events before.
use Rattle.std.{proofs.{Common.{◌≡◌, ◌≤◌, ℕ, List, [], ◌∷◌, ◌++◌, refl, ap, sym, ◌∙◌, subst, arith, append_assoc, append-nil}, lemmas.List.{reverse-append, map-append}}, specs.Prelude.{map, reverse}}
use Rattle.hc_sched.specs.{declared.schedule.Timed.{Timed}, Laws.{AreTimed}, Schedule.{IsEvent, IsSmall, timed_text}}
use Rattle.hc_effects.proofs.Vocabulary.{Entry, History}
use Rattle.hc_proxy.specs.{Invariants.{last_event}, Turns.{timed_of, text_behind}}

-- the moment behind events
abbrev end_of : ℕ → List Timed → ℕ
end_of n [] = n
end_of n (t ∷ ts) = end_of t.now ts

end_more : (n : ℕ) (ts : List Timed) (t : Timed) → end_of n (ts ++ t ∷ []) ≡ t.now
end_more n [] t = refl
end_more n (s ∷ ts) t = end_more s.now ts t

text_more : (n : ℕ) (ts : List Timed) (t : Timed) → text_behind n (ts ++ t ∷ []) ≡ text_behind n ts ++ timed_text (end_of n ts) t
text_more n [] t = append-nil (timed_text n t)
text_more n (s ∷ ts) t =
    ap (λ (z : List ℕ). timed_text n s ++ z) (text_more s.now ts t)
    ∙ sym (append_assoc (timed_text n s) (text_behind s.now ts) (timed_text (end_of s.now ts) t))

-- one more event that has a spelling, no earlier than those before
timed_more : (n : ℕ) (ts : List Timed) (t : Timed) → AreTimed n ts → IsEvent t.event → IsSmall t.now → end_of n ts ≤ t.now → AreTimed n (ts ++ t ∷ [])
timed_more n [] t all is small later = (is, small, later, tt)
timed_more n (s ∷ ts) t all is small later = (all.0, all.1, all.2, timed_more s.now ts t all.3 is small later)

turned_more : (e : Entry) (h : History) → map timed_of (reverse (e ∷ h)) ≡ map timed_of (reverse h) ++ timed_of e ∷ []
turned_more e h = ap (map timed_of) (reverse-append (e ∷ []) h) ∙ map-append timed_of (reverse h) (e ∷ [])

module _ (n : ℕ) where
  ends_at : (h : History) → end_of n (map timed_of (reverse h)) ≡ last_event n h
  ends_at [] = refl
  ends_at (e ∷ h) = ap (end_of n) (turned_more e h) ∙ end_more n (map timed_of (reverse h)) (timed_of e)

  pub record_more : (e : Entry) (h : History) → text_behind n (map timed_of (reverse (e ∷ h))) ≡ text_behind n (map timed_of (reverse h)) ++
      timed_text (last_event n h) (timed_of e)
  record_more e h =
      ap (text_behind n) (turned_more e h)
      ∙ (text_more n (map timed_of (reverse h)) (timed_of e)
      ∙ ap (λ (m : ℕ). text_behind n (map timed_of (reverse h)) ++ timed_text m (timed_of e)) (ends_at h))

  -- and so does the schedule
  pub timed_one_more : (e : Entry) (h : History) → AreTimed n (map timed_of (reverse h)) → IsEvent e.event → IsSmall e.now → last_event n h ≤ e.now →
      AreTimed n (map timed_of (reverse (e ∷ h)))
  timed_one_more e h all is small later =
      subst (AreTimed n) (sym (turned_more e h))
      (timed_more n (map timed_of (reverse h)) (timed_of e) all is small (let same = ends_at h in omega arith))
