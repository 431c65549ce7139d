-- What a consumer leaves nobody else reads.
--
-- That is its own exchange, or the one that wrote for several, whose last reader it was (`HowLeft`). Nobody awaits its
-- head: an own one belongs to one consumer, and one that writes for several has its head. The exclusive writer of what
-- it brings has the work. Where it is owned, the laws say that this is the consumer, and else there is none.
-- `leave_stops` joins these: what a leaver left may be closed.
use Rattle.std.{proofs.Common.{◌≡◌, ◌≢◌, ◌⊎◌, inl, inr, ℕ, [], Bool, true, false, Option, Some, None, refl, ap, sym, ◌∙◌, subst}, specs.{Prelude.{is_some, is_none, not, ◌==◌, ◌&&◌, ◌||◌, if◌then◌else◌}, Option.{option_or}}}
use Rattle.hc_text.proofs.Basics.{eqb-other, eqb-same, false_true, same_or, same_some as same_row, some_inj as some_is, and_off as then_false}
use Rattle.hc_effects.proofs.Vocabulary.{Place, BoundBy, is_last_reader, is_number, with_consumer, as_over, left_by, family, is_open, is_headless, Lawful, MayLetGo, own_open, shared_exchange, group_in, is_written, Tables, Exchange, Representation, Consumer, IsBound, IsAbout, IsHad, IsExclusiveWriter, exclusive, has_more, Response, place, by}
use Rattle.hc_model.specs.Sound as sound
use Rattle.hc_effects.proofs.{AboutKeeps.{own_open_of}, Basics.{number_is}, Exclusives.{exclusive_parts}, KeyActs.{test_some}, LettingGo.{may_let_go}, Stops.{writer_about}, Tests.{none_some}}
use Rattle.hc_state.specs.{Kept.{held_alone}, Stopped.{NobodyAwaits, HoldsNothing, MayStop}}

pub unwritten_none : (t : Tables) (v : Representation) → v.writer ≡ None → is_written t v ≡ false
unfolding is_written
unwritten_none t v none = rw none (then_false (not v.is_lost) false refl)

-- it is its own, or that of the writing that it reads as the last one
pub data HowLeft (t : Tables) (c x : ℕ) (k : Consumer) : Type 0 where
  own : k.own ≡ Some x → own_open t k ≡ Some x → HowLeft t c x k
  shared_by : (r lo : ℕ) (hi : Option ℕ) (how : BoundBy) (v : Representation) → k.place ≡ place.Bound r lo hi how → t.representation r ≡ Some v →
      is_written t v ≡ true → v.writer ≡ Some x → HowLeft t c x k

pub how_left : (t : Tables) (c x : ℕ) (k : Consumer) → left_by t c k ≡ Some x → HowLeft t c x k
how_left t c x k left = by_own (own_open t k) refl left
  where
    by_row : (r lo : ℕ) (hi : Option ℕ) (how : BoundBy) → k.place ≡ place.Bound r lo hi how → (z : Option Representation) → t.representation r ≡ z →
        group_in t z ≡ Some x → HowLeft t c x k
    by_row r lo hi how at None row h = none_some x h
    by_row r lo hi how at (Some v) row h = let both = test_some (is_written t v) v.writer x h in shared_by r lo hi how v at row both.0 both.1

    by_place : (p : Place) → k.place ≡ p → shared_exchange t p ≡ Some x → HowLeft t c x k
    by_place (place.Bound r lo hi how) at is = by_row r lo hi how at (t.representation r) refl is
    by_place _ at is = none_some x is

    by_own : (z : Option ℕ) → own_open t k ≡ z → option_or z (if is_last_reader t c k.place then shared_exchange t k.place else None) ≡ Some x → HowLeft t c x k
    by_own (Some y) is h = let both : own_open t k ≡ Some x = is ∙ h in own (own_open_of t k x both).own both
    by_own None is h = by_place k.place refl (test_some (is_last_reader t c k.place) (shared_exchange t k.place) x h).1

module _ (t : Tables) (law : Lawful t) (c : ℕ) (k : Consumer) (row : t.consumer c ≡ Some k) (x : ℕ) (how : HowLeft t c x k) where
  abbrev s : Tables
  s = with_consumer c (Some (as_over k)) t

  other_row : (d : ℕ) (u : Consumer) → d ≢ c → s.consumer d ≡ Some u → t.consumer d ≡ Some u
  other_row d u ne is = (let same : s.consumer d ≡ t.consumer d = rw (eqb-other c d (λ e. ne (sym e))) refl in sym same ∙ is)

  finished_is : (u : Consumer) → s.consumer c ≡ Some u → u ≡ as_over k
  finished_is u is = (let here : s.consumer c ≡ Some (as_over k) = rw (eqb-same c) refl in some_is u (as_over k) (sym is ∙ here))

  over_not_bound : (r lo : ℕ) (hi : Option ℕ) (by : BoundBy) → place.Over ≡ place.Bound r lo hi by → ⊥
  over_not_bound r lo hi by h = cc

  headed_writer : (r lo : ℕ) (hi : Option ℕ) (by : BoundBy) (v : Representation) → t.representation r ≡ Some v → is_written t v ≡ true →
      v.writer ≡ Some x → is_headless (t.exchange x) ≡ false
  headed_writer r lo hi by v there written writer =
      let grows = (law.sound.rows r v there).growing x written writer in
      let g = grows.1 in
      ap is_headless g.row ∙ by_head grows.0.is_open grows.0.head g.headed
    where
      by_head : (on : Bool) (h : Option Response) → is_some h ≡ true → (on && is_none h) ≡ false
      by_head true None there = false_true there
      by_head true (Some response) there = refl
      by_head false h there = refl

  pub left_unawaited : NobodyAwaits s x
  left_unawaited d r lo hi u is at = elim (same_or d c) [
    | inl e ↦
        let mine : u ≡ as_over k = finished_is u (subst (λ (n : ℕ). s.consumer n ≡ Some u) e is) in
        absurd (over_not_bound r lo hi (by.FirstHole x) (sym (ap (λ (z : Consumer). z.place) mine) ∙ at))
    | inr ne ↦ by_way ne (other_row d u ne is) how
  ]
    where
      by_row : (w : Exchange) → d ≢ c → t.consumer d ≡ Some u → t.exchange x ≡ Some w → k.own ≡ Some x → (on : Bool) (h : Option Response) →
          w.is_open ≡ on → w.head ≡ h → (on && is_none h) ≡ false
      by_row w ne there ex mine true None opened bare =
          let first = law.owned.first_own d r lo x hi u there at in
          let awaits = law.owned.waiting x w ex opened bare in
          let for_c : w.c ≡ c = law.owned.one w.c c x awaits.k k awaits.row row awaits.own mine in
          let same_w : first.w ≡ w = same_row (t.exchange x) first.w w first.row ex in
          absurd (ne (sym first.for_it ∙ (ap (λ (z : Exchange). z.c) same_w ∙ for_c)))
      by_row w ne there ex mine true (Some response) opened headed = refl
      by_row w ne there ex mine false h opened headed = refl

      by_exchange : (o : Option Exchange) → d ≢ c → t.consumer d ≡ Some u → t.exchange x ≡ o → k.own ≡ Some x → is_headless o ≡ false
      by_exchange None ne there ex mine = refl
      by_exchange (Some w) ne there ex mine = by_row w ne there ex mine w.is_open w.head refl refl

      by_way : d ≢ c → t.consumer d ≡ Some u → HowLeft t c x k → is_headless (t.exchange x) ≡ false
      by_way ne there (own mine opened) = by_exchange (t.exchange x) ne there refl mine
      by_way ne there (shared_by q from to way v at_q rep written writer) = headed_writer q from to way v rep written writer

  -- WHO WROTE ALONE

  pub exclusive_left : (w : Exchange) (r : ℕ) (v : Representation) → t.exchange x ≡ Some w → w.is_open ≡ true → is_some w.head ≡ true → family x w ≡ r →
      t.representation r ≡ Some v → v.is_lost ≡ false
      → exclusive t r v ≡ (if is_number k.own x then Some c else None)
  exclusive_left w r v ex opened headed of_r there kept = by_way how
    where
      about : IsAbout t r x
      about = sound.headed w ex opened headed of_r (ap (λ z. is_some z) there)

      -- its own, and so it isn't written for several
      by_writer : k.own ≡ Some x → is_written t v ≡ true → (z : Option ℕ) → v.writer ≡ z → ⊥
      by_writer mine is None none = false_true (sym (unwritten_none t v none) ∙ is)
      by_writer mine is (Some y) some =
          let one : x ≡ y = law.sound.one_about r x y about (writer_about t r y v law.sound there is some) in
          law.owned.apart r x c v k there is (some ∙ ap Some (sym one)) row mine

      unwritten : k.own ≡ Some x → (b : Bool) → is_written t v ≡ b → b ≡ false
      unwritten mine false is = refl
      unwritten mine true is = absurd (by_writer mine is v.writer refl)

      by_had : k.own ≡ Some x → own_open t k ≡ Some x → IsHad t r v x → exclusive t r v ≡ Some c
      by_had mine opened_own (sound.shared written writer) = absurd (law.owned.apart r x c v k there written writer row mine)
      by_had mine opened_own (sound.own d u reader owns undue exclusive_writer) =
          by_reader mine opened_own d u reader ((own_open_of t u x owns).own) undue exclusive_writer
        where
          by_reader : k.own ≡ Some x → own_open t k ≡ Some x → (d : ℕ) (u : Consumer) → IsBound t r d u → u.own ≡ Some x → u.due ≡ None →
              IsExclusiveWriter t r v d → exclusive t r v ≡ Some c
          by_reader mine opened_own d u (sound.is_bound lo hi way is at) its undue exclusive_writer =
              let one : d ≡ c = law.owned.one d c x u k is row its mine in
              let same_k : u ≡ k = same_row (t.consumer c) u k (subst (λ (n : ℕ). t.consumer n ≡ Some u) one is) row in
              by_exclusive_writer (subst (λ (n : ℕ). IsExclusiveWriter t r v n) one exclusive_writer) (sym (ap (λ (z : Consumer). z.due) same_k) ∙ undue)
            where
              by_exclusive_writer : IsExclusiveWriter t r v c → k.due ≡ None → exclusive t r v ≡ Some c
              by_exclusive_writer (sound.first off came) none_due =
                  let more : has_more t v k ≡ true = rw opened_own refl in
                  (law.alone.writes r c v k there kept (unwritten mine (is_written t v) refl) came row none_due).1 more
              by_exclusive_writer (sound.alone lost_is is_alone) none_due = false_true (sym kept ∙ lost_is)

      none_exclusive : is_written t v ≡ true → (z : Option ℕ) → exclusive t r v ≡ z → z ≡ None
      none_exclusive written None is = refl
      none_exclusive written (Some d) is = false_true (sym (exclusive_parts t r d v is).unwritten ∙ written)

      not_own : (b : Bool) → is_number k.own x ≡ b → (k.own ≡ Some x → ⊥) → None ≡ (if b then Some c else None)
      not_own false is off = refl
      not_own true is off = absurd (off (number_is k.own x is))

      by_way : HowLeft t c x k → exclusive t r v ≡ (if is_number k.own x then Some c else None)
      by_way (own mine opened_own) = by_had mine opened_own (law.sound.writes.had r x v there about) ∙ rw (mine, eqb-same x) refl
      by_way (shared_by q lo hi way p at_q rep written writer) =
          let same_q : q ≡ r = same_family q p rep written writer in
          let same_p : p ≡ v = same_row (t.representation r) p v (subst (λ (n : ℕ). t.representation n ≡ Some p) same_q rep) there in
          none_exclusive (subst (λ z. is_written t z ≡ true) same_p written) (exclusive t r v) refl
          ∙ not_own (is_number k.own x) refl (λ mine. law.owned.apart q x c p k rep written writer row mine)
        where
          same_family : (q : ℕ) (p : Representation) → t.representation q ≡ Some p → is_written t p ≡ true → p.writer ≡ Some x → q ≡ r
          same_family q p rep written writer =
              let grows = (law.sound.rows q p rep).growing x written writer in
              sym grows.1.family_is ∙ (ap (λ z. family x z) (same_row (t.exchange x) grows.0 w grows.1.row ex) ∙ of_r)

-- WHAT IS HELD

-- nothing is held for it, since it has left
pub nothing_left : (t : Tables) (c r : ℕ) (k : Consumer) (v : Representation) (b : Bool) (alone : Option ℕ) → alone ≡ (if b then Some c else None) →
    HoldsNothing (with_consumer c (Some (as_over k)) t) r v alone
nothing_left t c r k v b alone is y z there of_r = ap (held_alone (with_consumer c (Some (as_over k)) t) y z v) is ∙ by_test b
  where
    by_test : (b : Bool) → held_alone (with_consumer c (Some (as_over k)) t) y z v (if b then Some c else None) ≡ []
    by_test true = rw (eqb-same c) refl
    by_test false = refl

-- WHAT MAY BE LET GO

-- whoever waited for a body still does, and the rest is as it was
pub may_without : (t : Tables) (c : ℕ) (k : Consumer) → t.consumer c ≡ Some k → MayLetGo t → MayLetGo (with_consumer c (Some (as_over k)) t)
may_without t c k row may = record {
  one_current = may.one_current;
  founded = may.founded;
  started = λ d some. elim (same_or d c) [
    | inl e ↦ may.started d (ap (λ z. is_some z) (ap t.consumer e ∙ row))
    | inr ne ↦ may.started d (sym (ap (λ z. is_some z) (other_same d ne)) ∙ some)
  ];
  waits = λ d r kept u is at. elim (same_or d c) [
    | inl e ↦ absurd (over_not_passed d r kept u e is at)
    | inr ne ↦ let w = may.waits d r kept u (sym (other_same d ne) ∙ is) at in
        record { v = w.v; row = w.row; key_is = w.key_is; not_gone = w.not_gone; queues = w.queues }
  ];
}
  where
    other_same : (d : ℕ) → d ≢ c → (with_consumer c (Some (as_over k)) t).consumer d ≡ t.consumer d
    other_same d ne = rw (eqb-other c d (λ e. ne (sym e))) refl

    never : (r : ℕ) (kept : Option ℕ) → place.Over ≡ place.Passed r kept → ⊥
    never r kept h = cc

    over_not_passed : (d r : ℕ) (kept : Option ℕ) (u : Consumer) → d ≡ c → (with_consumer c (Some (as_over k)) t).consumer d ≡ Some u →
        u.place ≡ place.Passed r kept → ⊥
    over_not_passed d r kept u e is at =
        let here : (with_consumer c (Some (as_over k)) t).consumer c ≡ Some (as_over k) = rw (eqb-same c) refl in
        let mine : u ≡ as_over k = some_is u (as_over k) (sym (subst (λ (n : ℕ). (with_consumer c (Some (as_over k)) t).consumer n ≡ Some u) e is) ∙ here) in
        never r kept (sym (ap (λ (z : Consumer). z.place) mine) ∙ at)

-- WHAT IT LEFT MAY BE CLOSED

-- the consumers once it is gone
abbrev pub once_left : Tables → ℕ → Consumer → ℕ → Option Consumer
once_left t c k d = if c == d then Some (as_over k) else t.consumer d

pub leave_stops : (t : Tables) (law : Lawful t) (c : ℕ) (k : Consumer) → t.consumer c ≡ Some k → (x : ℕ) → left_by t c k ≡ Some x → (w : Exchange) →
    t.exchange x ≡ Some w → w.is_open ≡ true → (alone : Option ℕ) → alone ≡ (if is_number k.own x then Some c else None) → MayStop t (once_left t c k) x alone
leave_stops t law c k row x left w ex opened alone is = record {
  w = w;
  row = ex;
  is_open = opened;
  may = may_without t c k row (may_let_go t law);
  unawaited = left_unawaited t law c k row x (how_left t c x k left);
  writes = λ v headed there kept. is ∙ sym (exclusive_left t law c k row x (how_left t c x k left) w (family x w) v ex opened headed refl there kept);
  stored = λ v headed there kept. nothing_left t c (family x w) k v (is_number k.own x) alone is;
}
