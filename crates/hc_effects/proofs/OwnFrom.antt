-- Where an own exchange after an entry is from: it was its own, it is opened, or a lost writing is left to its owner.
--
-- The row is followed back through the entry. First what the loss leaves to it: a writing, where it is the survivor of
-- it, or what it had (`left_by`, `after_by`). Before that an opening may have given it a new one (`opened_by`). The
-- event itself gives none, and who starts over has none. `from_row` joins these, and `own_from` is for any row. Laws on
-- own exchanges begin with it.
use Rattle.std.{proofs.{Common.{◌≡◌, ◌⊎◌, inl, inr, ℕ, Bool, true, false, Option, Some, None, refl, ap, ◌∙◌, arith}, lemmas.Bool.Decides.{nat_tests}}, specs.Prelude.{◌==◌, ◌&&◌}}
use Rattle.hc_text.proofs.Basics.{and_right as right, and_left, not_some as none_some, bool_cases, some_inj}
use Rattle.hc_effects.proofs.{Basics.{number_is}, PieceKeeps.{eq_cases}}
use Rattle.hc_effects.proofs.Vocabulary.{Opening, opening_in, Event, Place, BoundBy, consumer_heard, by_head, by_fault, by_opening, own_after, left_to, waiting, consumer_acted, consumer_settled, consumer_made, consumer_after, due_after, is_number, Entry, Tables, Exchange, Representation, Consumer, starts_over, loses_group, survivor, event, place}

module _ (t : Tables) (e : Entry) (c x : ℕ) where
  pub heard_own : (ev : Event) (k : Consumer) → (consumer_heard t e c ev k).own ≡ Some x → k.own ≡ Some x
  heard_own (event.Head y response) k is = by_row (t.exchange y) is
    where
      by_row : (o : Option Exchange) → (by_head t e c y response o k).own ≡ Some x → k.own ≡ Some x
      by_row o is = grind (arith, nat_tests)
  heard_own (event.Fault y) k is = by_row (t.exchange y) is
    where
      by_row : (o : Option Exchange) → (by_fault c y o k).own ≡ Some x → k.own ≡ Some x
      by_row o is = grind (arith, nat_tests)
  heard_own (event.Cancel d) k is = elim (bool_cases (d == c)) [
    | inl here ↦ rw here at is
    | inr other ↦ rw other at is
  ]
  heard_own _ k is = is

  -- the writing of r is lost, and left to c
  pub record IsLeft (p : Place) : Type 0 where
    pub r : ℕ
    pub lo : ℕ
    pub hi : Option ℕ
    pub how : BoundBy
    pub v : Representation
    pub at : p ≡ place.Bound r lo hi how
    pub row : t.representation r ≡ Some v
    pub loses : loses_group t e r v ≡ true
    pub survives : survivor t r v ≡ Some c
    pub writer_is : v.writer ≡ Some x

  left_by : (r lo : ℕ) (hi : Option ℕ) (how : BoundBy) (o : Option Representation) (own : Option ℕ) (p : Place) → p ≡ place.Bound r lo hi how →
      t.representation r ≡ o → left_to t e c r o own ≡ Some x → (own ≡ Some x) ⊎ IsLeft p
  left_by r lo hi how None own p at row is = inl is
  left_by r lo hi how (Some v) own p at row is = elim (bool_cases (loses_group t e r v && is_number (survivor t r v) c)) [
    | inr off ↦ inl (rw off at is)
    | inl on ↦ inr (record {
      r = r;
      lo = lo;
      hi = hi;
      how = how;
      v = v;
      at = at;
      row = row;
      loses = and_left (loses_group t e r v) _ on;
      survives = number_is (survivor t r v) c (right (loses_group t e r v) _ on);
      writer_is = rw on at is;
    })
  ]

  pub after_by : (p : Place) (own : Option ℕ) → own_after t e c p own ≡ Some x → (own ≡ Some x) ⊎ IsLeft p
  after_by (place.Bound r lo hi how) own is = left_by r lo hi how (t.representation r) own (place.Bound r lo hi how) refl refl is
  after_by _ own is = inl is

  pub data IsOpened (k : Consumer) : Type 0 where
    same : k.own ≡ Some x → IsOpened k
    opens : (o : Opening) → opening_in e.acts ≡ Some o → o.c ≡ c → o.x ≡ x → IsOpened k

  opened_by : (o : Option Opening) (k : Consumer) → opening_in e.acts ≡ o → (by_opening t c o k).own ≡ Some x → IsOpened k
  opened_by None k row is = same is
  opened_by (Some o) k row is = elim (eq_cases o.c c) [
    | inr other ↦ same (rw other.0 at is)
    | inl here ↦ opens o row here.1 (some_inj o.x x (rw here.0 at is))
  ]

  -- the row before, which doesn't start over
  pub record IsRow (k u : Consumer) : Type 0 where
    pub row : t.consumer c ≡ Some k
    pub stays : starts_over t e c k ≡ false
    pub is : due_after t e c k (consumer_acted t e c (consumer_heard t e c e.event k)) ≡ u

  pub data OwnFrom (u : Consumer) : Type 0 where
    kept : (k : Consumer) → IsRow k u → k.own ≡ Some x → (consumer_heard t e c e.event k).own ≡ Some x → OwnFrom u
    opened : (k : Consumer) (o : Opening) → IsRow k u → opening_in e.acts ≡ Some o → o.c ≡ c → o.x ≡ x → OwnFrom u
    left : (k : Consumer) → IsRow k u → IsLeft (consumer_heard t e c e.event k).place → OwnFrom u

  module _ (k u : Consumer) (row : IsRow k u) where
    abbrev h : Consumer
    h = consumer_heard t e c e.event k

    from_opened : IsOpened (waiting t e c h) → OwnFrom u
    from_opened (same old) = kept k row (heard_own e.event k old) old
    from_opened (opens o is here this) = opened k o row is here this

    from_left : ((by_opening t c (opening_in e.acts) (waiting t e c h)).own ≡ Some x) ⊎ IsLeft h.place → OwnFrom u
    from_left (inl old) = from_opened (opened_by (opening_in e.acts) (waiting t e c h) refl old)
    from_left (inr is) = left k row is

    pub from_row : own_after t e c h.place (by_opening t c (opening_in e.acts) (waiting t e c h)).own ≡ Some x → OwnFrom u
    from_row is = from_left (after_by h.place (by_opening t c (opening_in e.acts) (waiting t e c h)).own is)

  settled : (k q u : Consumer) (b : Bool) → starts_over t e c k ≡ b → consumer_settled t e c k q ≡ u → u.own ≡ Some x → (b ≡ false) ×
      (due_after t e c k q ≡ u) × (q.own ≡ Some x)
  settled k q u true over is own = absurd (none_some x (ap (λ (z : Consumer). z.own) (rw over at is) ∙ own))
  settled k q u false over is own = let same : due_after t e c k q ≡ u = rw over at is in (refl, same, ap (λ (z : Consumer). z.own) same ∙ own)

  by_row : (k u : Consumer) → t.consumer c ≡ Some k → consumer_settled t e c k (consumer_acted t e c (consumer_heard t e c e.event k)) ≡ u →
      u.own ≡ Some x → OwnFrom u
  by_row k u row is own =
      let all = settled k (consumer_acted t e c (consumer_heard t e c e.event k)) u (starts_over t e c k) refl is own in
      from_row k u (record { row = row; stays = all.0; is = all.1 }) all.2

  made : (ev : Event) (u : Consumer) → consumer_made c e.now ev ≡ Some u → u.own ≡ Some x → ⊥
  made ev u h own = grind (arith, nat_tests)

  pub own_from : (o : Option Consumer) (u : Consumer) → t.consumer c ≡ o → consumer_after t e c o ≡ Some u → u.own ≡ Some x → OwnFrom u
  unfolding consumer_after
  own_from None u row is own = absurd (made e.event u is own)
  own_from (Some k) u row is own = by_row k u row (some_inj _ u is) own
