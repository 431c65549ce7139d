-- Who has no own exchange after an entry had none before, or its own one becomes that of a writer group.
use Rattle.std.{proofs.Common.{◌≡◌, ◌⊎◌, inl, inr, ℕ, Bool, true, false, Option, Some, None, refl, ap, ◌∙◌}, specs.Prelude.{if◌then◌else◌, is_none, ◌==◌, ◌&&◌, not}}
use Rattle.hc_text.proofs.Basics.{and_left, and_right, bool_cases}
use Rattle.hc_effects.proofs.Vocabulary.{Opening, opening_in, Event, Response, Place, case_at, consumer_heard, by_head, by_fault, becomes_shared, by_opening, own_after, left_to, waiting, consumer_acted, due_after, is_number, Entry, Tables, Exchange, Representation, Consumer, loses_group, survivor, event, place}
use Rattle.hc_effects.proofs.{Basics.{some_none}, PieceKeeps.{eq_cases}, ExclusiveWriters.{writer_some}}

module _ (t : Tables) (e : Entry) (c : ℕ) where
  -- its exchange gets its head, and is written together from then on
  pub record IsShared : Type 0 where
    pub x : ℕ
    pub response : Response
    pub w : Exchange
    pub at : e.event ≡ event.Head x response
    pub row : t.exchange x ≡ Some w
    pub mine : w.c ≡ c
    pub shared : becomes_shared t e response w (case_at t e) ≡ true

  shared_or : (b : Bool) (o : Option ℕ) → (if b then None else o) ≡ None → (b ≡ true) ⊎ (o ≡ None)
  shared_or true o is = inl refl
  shared_or false o is = inr is

  heard_none : (ev : Event) (k : Consumer) → e.event ≡ ev → (consumer_heard t e c ev k).own ≡ None → (k.own ≡ None) ⊎ IsShared
  heard_none (event.Head y response) k at is = by_row (t.exchange y) refl is
    where
      by_row : (o : Option Exchange) → t.exchange y ≡ o → (by_head t e c y response o k).own ≡ None → (k.own ≡ None) ⊎ IsShared
      by_row None row is = inl is
      by_row (Some w) row is = elim (eq_cases w.c c) [
        | inr other ↦ inl (rw other.0 at is)
        | inl here ↦ elim (shared_or (becomes_shared t e response w (case_at t e)) k.own (rw here.0 at is)) [
          | inr old ↦ inl old
          | inl shared ↦ inr (record { x = y; response = response; w = w; at = at; row = row; mine = here.1; shared = shared })
        ]
      ]
  heard_none (event.Fault y) k at is = by_row (t.exchange y) is
    where
      by_row : (o : Option Exchange) → (by_fault c y o k).own ≡ None → (k.own ≡ None) ⊎ IsShared
      by_row None is = inl is
      by_row (Some w) is = elim (bool_cases (w.c == c && is_none w.head && not k.shown)) [
        | inl here ↦ inl (rw here at is)
        | inr other ↦ inl (rw other at is)
      ]
  heard_none (event.Cancel d) k at is = elim (bool_cases (d == c)) [
    | inl here ↦ inl (rw here at is)
    | inr other ↦ inl (rw other at is)
  ]
  heard_none _ k at is = inl is

  opened_none : (o : Option Opening) (k : Consumer) → (by_opening t c o k).own ≡ None → k.own ≡ None
  opened_none None k is = is
  opened_none (Some o) k is = elim (eq_cases o.c c) [
    | inr other ↦ rw other.0 at is
    | inl here ↦ absurd (some_none o.x (rw here.0 at is))
  ]

  left_none : (r : ℕ) (o : Option Representation) (own : Option ℕ) → left_to t e c r o own ≡ None → own ≡ None
  left_none r None own is = is
  left_none r (Some v) own is = elim (bool_cases (loses_group t e r v && is_number (survivor t r v) c)) [
    | inr off ↦ rw off at is
    | inl on ↦ absurd (writer_some t v (and_right _ _ (and_left _ _ on)) (rw on at is))
  ]

  pub after_none : (p : Place) (own : Option ℕ) → own_after t e c p own ≡ None → own ≡ None
  after_none (place.Bound r lo hi how) own is = left_none r (t.representation r) own is
  after_none _ own is = is

  pub own_none : (k u : Consumer) → due_after t e c k (consumer_acted t e c (consumer_heard t e c e.event k)) ≡ u → u.own ≡ None → (k.own ≡ None) ⊎ IsShared
  own_none k u made none =
      let h = consumer_heard t e c e.event k in
      let acted : own_after t e c h.place (by_opening t c (opening_in e.acts) (waiting t e c h)).own ≡ None = ap (λ (z : Consumer). z.own) made ∙ none in
      heard_none e.event k refl
      (opened_none (opening_in e.acts) (waiting t e c h) (after_none h.place (by_opening t c (opening_in e.acts) (waiting t e c h)).own acted))
