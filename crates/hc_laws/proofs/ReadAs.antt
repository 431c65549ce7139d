-- Whoever was shown a head reads what it was shown, from where and to where: at first, and as long as it reads.
--
-- It goes on so since where its place begins and ends stays (`lo_stays`, `hi_stays`): a total that is known stays so,
-- and an answer past the store keeps its head and its end. Hence `read_kept`. At first a poll shows what stands at its
-- place (`read_by`) or what is current, and its consumer comes to stand at just that (`by_lands`); `landed_read` says
-- so. What was given over a run is read off both.
use Rattle.std.{proofs.Common.{◌≡◌, ◌⊎◌, inl, inr, ℕ, ◌+◌, List, length, Bool, true, false, Option, Some, None, refl, ap, sym, ◌∙◌}, specs.{Prelude.{is_some}, Option.{option_or}}}
use Rattle.hc_text.proofs.Basics.{bool_cases, not_some as none_some, same_some as same_row, some_inj}
use Rattle.hc_effects.proofs.Vocabulary.{Event, Response, Why, Limits, base_of, promise_of, piece_refusal, BoundBy, Place, total_in, denial, as_open, Entry, exchange_heard, base, promised_bytes, length_by, Flaw, Shown, entry_of, Move, Nothing, Shows, shows_stored, move_of, shows_at, shows_bound, shows_direct, shows_answer, has_joined, bound_to, reads, lo_of, hi_of, base_in, end_in, end_of_direct, Tables, Exchange, Representation, Consumer, Sound, after_accepted, event, by, place}
use Rattle.hc_rules.specs.Refusals as refusals
use Rattle.hc_laws.proofs.FallbackKeeps.{IsLanding, shown_headed}
use Rattle.hc_effects.proofs.{Basics.{false_true}, ExchangeFrom.{IsSame, IsHeaded}, Fills.{Brings, brings, length_same}, FirstKeeps.{is_new}, Forward.{is_on, after_is}, GivenNext.{read_of}, MoveBy.{MoveBy, move_by}, Once.{taken}, PastApart.{IsHeadedRow}, PieceKeeps.{eq_cases}, RepFrom.{RepFrom, rep_from}, ShownStays.{IsFallback, Lands}, Step.{Step}}
use Rattle.hc_effects.proofs.Fills as fills_by
use Rattle.hc_effects.proofs.MoveBy as by_move
use Rattle.hc_effects.proofs.RepFrom as rep
use Rattle.hc_effects.proofs.ShownStays as stands

-- it reads what it was shown, from where and to where it was shown
pub record IsRead (t : Tables) (k : Consumer) (s : Shown) : Type 0 where
  pub number : read_of k.place ≡ Some s.r
  pub from : lo_of t k.place ≡ s.lo
  pub to : (n : ℕ) → s.hi ≡ Some n → hi_of t k.place ≡ Some n
  pub open_end : s.hi ≡ None → (r lo : ℕ) (hi : Option ℕ) (how : BoundBy) → k.place ≡ place.Bound r lo hi how → hi ≡ None

-- what it reads past the store has its head
abbrev pub HasHead : Tables → Place → Type 0
HasHead t p = (y : ℕ) → p ≡ place.Direct y → IsHeadedRow t y

heard_ended : (t : Tables) (e : Entry) (x : ℕ) (ev : Event) (w : Exchange) → w.is_ended ≡ true → (exchange_heard t e x ev w).is_ended ≡ true
heard_ended t e x (event.Head y response) w over = elim (eq_cases y x) [
  | inl hit ↦ rw hit.0 over
  | inr off ↦ rw off.0 over
]
heard_ended t e x (event.Piece y bytes) w over = elim (eq_cases y x) [
  | inl hit ↦ rw hit.0 over
  | inr off ↦ rw off.0 over
]
heard_ended t e x (event.End y) w over = elim (eq_cases y x) [
  | inl hit ↦ rw hit.0 refl
  | inr off ↦ rw off.0 over
]
heard_ended t e x (event.Fault y) w over = elim (eq_cases y x) [
  | inl hit ↦ rw hit.0 over
  | inr off ↦ rw off.0 over
]
heard_ended t e x _ w over = over

-- AS LONG AS IT READS

module _ (limits : Limits) (t : Tables) (now : ℕ) (flaw : Flaw) (s : Sound t) (ev : Event) (goes : denial t ev ≡ None) (a : IsFallback t) where
  abbrev e : Entry
  e = entry_of limits t now ev flaw

  abbrev now_on : Tables
  now_on = after_accepted t e

  -- a total that is known stays
  ended_total : (o : Option ℕ) (m n : ℕ) → o ≡ Some n → option_or o (Some m) ≡ Some n
  ended_total None m n is = absurd (none_some n is)
  ended_total (Some p) m n is = is

  kept_total : (r n : ℕ) (v u : Representation) → v.head.total ≡ Some n → rep.IsKept t e r v u → u.head.total ≡ Some n
  kept_total r n v u is kept = by_total kept.total_is
    where
      by_total : (u.head.total ≡ v.head.total) ⊎ rep.IsEnded t e r v u.head.total → u.head.total ≡ Some n
      by_total (inl still) = still ∙ is
      by_total (inr over) = over.total_is ∙ ended_total v.head.total _ n is

  total_from : (r n : ℕ) (v u : Representation) → t.representation r ≡ Some v → v.head.total ≡ Some n → RepFrom t e r u → u.head.total ≡ Some n
  total_from r n v u row is (rep.was z kept) =
      kept_total r n z u (ap (λ (q : Representation). q.head.total) (same_row (t.representation r) z v kept.row row) ∙ is) kept
  total_from r n v u row is (rep.founded response w none here also on made) = absurd (none_some v (sym none ∙ row))

  total_after : (r n : ℕ) (v : Representation) (q : Option Representation) → t.representation r ≡ Some v → v.head.total ≡ Some n →
      now_on.representation r ≡ q → total_in q ≡ Some n
  total_after r n v None row is after =
      absurd (let on : is_some (now_on.representation r) ≡ true =
      rep.stays t e r (t.representation r) (ap (λ (z : Option Representation). is_some z) row) in
      false_true (sym (ap (λ (z : Option Representation). is_some z) after) ∙ on))
  total_after r n v (Some u) row is after = total_from r n v u row is (rep_from t e r (t.representation r) u refl after)

  total_stays : (r n : ℕ) (q : Option Representation) → t.representation r ≡ q → total_in q ≡ Some n → total_in (now_on.representation r) ≡ Some n
  total_stays r n None row is = absurd (none_some n is)
  total_stays r n (Some v) row is = total_after r n v (now_on.representation r) row is refl

  -- an answer past the store that has its head
  module _ (y : ℕ) (h : IsHeadedRow t y) where
    not_bare : h.w.head ≡ None → ⊥
    not_bare bare = false_true (sym (ap (λ (q : Option Response). is_some q) bare) ∙ h.headed)

    reported_same : (z : Exchange) → IsSame t e y h.w z → length_by z z.head ≡ length_by h.w h.w.head
    reported_same z same = by_heard same.heard_or
      where
        by_heard : ((z.head ≡ h.w.head) × (z.joined ≡ h.w.joined)) ⊎ IsHeaded t e y h.w z → length_by z z.head ≡ length_by h.w h.w.head
        by_heard (inl still) = length_same h.w z same.need_is same.request_is still.0
        by_heard (inr got) = absurd (not_bare (is_new limits t now flaw s ev goes y got.response h.w got.at h.row).bare)

    lo_direct : base_in (now_on.exchange y) ≡ base_in (t.exchange y)
    lo_direct = let on = is_on t e y h.w h.row in ap base_in on.row ∙ (ap base_of (reported_same on.u on.same) ∙ sym (ap base_in h.row))

    piece_refused : (bytes : List ℕ) → h.w.is_open ≡ false → denial t (event.Piece y bytes) ≡ None → ⊥
    unfolding refusals.refusal_of
    piece_refused bytes off going =
        false_true (sym off ∙ (taken (length bytes) h.w (sym (ap (λ z. piece_refusal (as_open z) (length bytes)) h.row) ∙ going)).is_open)

    body_same : (z : Exchange) → h.w.is_open ≡ false → Brings t e y h.w z → z.body ≡ h.w.body
    body_same z off (fills_by.still none is) = is
    body_same z off (fills_by.more bytes here is) = absurd (piece_refused bytes off (sym (ap (denial t) here) ∙ goes))

    ended_stays : (z : Exchange) → now_on.exchange y ≡ Some z → h.w.is_ended ≡ true → z.is_ended ≡ true
    ended_stays z after over =
        sym (ap (λ (q : Exchange). q.is_ended) (some_inj _ z (sym (after_is t e y h.w (t.exchange y) h.row) ∙ after))) ∙ heard_ended t e y ev h.w over

    end_by : (q : Option ℕ) (z : Exchange) (n : ℕ) → now_on.exchange y ≡ Some z → base z ≡ base h.w → end_of_direct q h.w ≡ Some n → end_of_direct q z ≡ Some n
    end_by (Some p) z n after first is = ap (λ b. Some (b + p)) first ∙ is
    end_by None z n after first is = elim (bool_cases h.w.is_ended) [
      | inr off ↦ absurd (none_some n (rw off at is))
      | inl over ↦
          let same : z.body ≡ h.w.body = body_same z (a.ended y h.w h.row over) (brings t e y h.w z h.row after) in
          let still : z.is_ended ≡ true = ended_stays z after over in
          let now_end : Some (length h.w.body) ≡ Some n = rw over at is in
          rw still (ap (λ (b : List ℕ). Some (length b)) same ∙ now_end)
    ]

    hi_direct : (n : ℕ) → end_in (t.exchange y) ≡ Some n → end_in (now_on.exchange y) ≡ Some n
    hi_direct n is =
        let on = is_on t e y h.w h.row in
        let reported = reported_same on.u on.same in
        ap end_in on.row ∙ (ap (λ q. end_of_direct q on.u) (ap promise_of reported) ∙
        end_by (promised_bytes h.w) on.u n on.row (ap base_of reported) (sym (ap end_in h.row) ∙ is))

  pub lo_stays : (p : Place) → HasHead t p → lo_of now_on p ≡ lo_of t p
  lo_stays (place.Direct y) has = lo_direct y (has y refl)
  lo_stays _ has = refl

  hi_bound : (r n : ℕ) (hi : Option ℕ) → option_or hi (total_in (t.representation r)) ≡ Some n → option_or hi (total_in (now_on.representation r)) ≡ Some n
  hi_bound r n None is = total_stays r n (t.representation r) refl is
  hi_bound r n (Some m) is = is

  pub hi_stays : (p : Place) (n : ℕ) → HasHead t p → hi_of t p ≡ Some n → hi_of now_on p ≡ Some n
  hi_stays (place.Bound r lo hi how) n has is = hi_bound r n hi is
  hi_stays (place.Direct y) n has is = hi_direct y (has y refl) n is
  hi_stays _ n has is = is

  -- it goes on reading what it was shown
  pub read_kept : (k u : Consumer) (z : Shown) → u.place ≡ k.place → HasHead t k.place → IsRead t k z → IsRead now_on u z
  read_kept k u z same has read = record {
    number = ap read_of same ∙ read.number;
    from = ap (lo_of now_on) same ∙ (lo_stays k.place has ∙ read.from);
    to = λ n is. ap (hi_of now_on) same ∙ hi_stays k.place n has (read.to n is);
    open_end = λ is r lo hi how at. read.open_end is r lo hi how (sym same ∙ at);
  }

-- WHERE IT IS SHOWN IT

module _ (t : Tables) (now c want r lo : ℕ) (why : Why) (head : Response) (hi : Option ℕ) (k : Consumer) where
  abbrev show : Move
  show = Shows r why head lo hi

  abbrev as_shown : Shown
  as_shown = record { r = r; why = why; lo = lo; hi = hi }

  record IsPart (q a : ℕ) (b : Option ℕ) : Type 0 where
    number : q ≡ r
    from : a ≡ lo
    to : b ≡ hi

  stored_part : (q : ℕ) (y : Why) (ranged : Bool) (a : ℕ) (b : Option ℕ) (z : Option Representation) → shows_stored q y ranged a b z ≡ show → IsPart q a b
  stored_part q y ranged a b None is = absurd (let no : Nothing ≡ show = is in cc)
  stored_part q y ranged a b (Some v) is = record { number = cc; from = cc; to = cc }

  bound_part : (q a : ℕ) (b : Option ℕ) (how : BoundBy) → shows_bound t k q a b how ≡ Some show → IsPart q a b
  bound_part q a b by.Founding is = stored_part q _ _ a b (t.representation q) (some_inj _ show is)
  bound_part q a b (by.FirstHole y) is = elim (bool_cases (has_joined (t.exchange y))) [
    | inl joined ↦ stored_part q _ _ a b (t.representation q) (some_inj _ show (rw joined at is))
    | inr off ↦ absurd (none_some show (rw off at is))
  ]
  bound_part q a b by.Plan is = absurd (none_some show is)

  answer_part : (y : ℕ) (w : Exchange) (z : Option Response) → shows_answer t y w z ≡ Some show → IsPart y (base w) (hi_of t (place.Direct y))
  answer_part y w None is = absurd (none_some show is)
  answer_part y w (Some response) is =
      let same : Shows y (Rattle.hc_event.specs.declared.act.Why.TheVariants.Fetched y) response (base w) (hi_of t (place.Direct y)) ≡ show =
      some_inj _ show is in record { number = cc; from = cc; to = cc }

  direct_part : (y : ℕ) (z : Option Exchange) → t.exchange y ≡ z → shows_direct t y z ≡ Some show → IsPart y (base_in (t.exchange y)) (hi_of t (place.Direct y))
  direct_part y None row is = absurd (none_some show is)
  direct_part y (Some w) row is = let p = answer_part y w w.head is in record { number = p.number; from = ap base_in row ∙ p.from; to = p.to }

  or_none : (b z : Option ℕ) → option_or b z ≡ None → b ≡ None
  or_none None z is = refl
  or_none (Some n) z is = absurd (none_some n (sym is))

  read_by : (p : Place) → k.place ≡ p → shows_at t k p ≡ Some show → IsRead t k as_shown
  read_by (place.Bound q a b how) at is =
      let p = bound_part q a (hi_of t k.place) how is in
      record {
        number = ap read_of at ∙ ap Some p.number;
        from = ap (lo_of t) at ∙ p.from;
        to = λ n known. p.to ∙ known;
        open_end =
            λ none q1 a1 b1 how1 at1. or_none b1 _ (sym (ap (hi_of t) at1) ∙ (p.to ∙ none));
      }
  read_by (place.Direct y) at is =
      let p = direct_part y (t.exchange y) refl is in
      record {
        number = ap read_of at ∙ ap Some p.number;
        from = ap (lo_of t) at ∙ p.from;
        to = λ n known. ap (hi_of t) at ∙ (p.to ∙ known);
        open_end =
            λ none q1 a1 b1 how1 at1. absurd (let no : place.Direct y ≡ place.Bound q1 a1 b1 how1 = sym at ∙ at1 in cc);
      }
  read_by _ at is = absurd (none_some show is)

  shows_some : (y : ℕ) → k.place ≡ place.Direct y → IsHeadedRow t y → shows_at t k k.place ≡ None → ⊥
  shows_some y at h none = by_head h.w.head h.headed (sym (ap (shows_at t k) at ∙ ap (shows_direct t y) h.row) ∙ none)
    where
      by_head : (z : Option Response) → is_some z ≡ true → shows_answer t y h.w z ≡ None → ⊥
      by_head None headed is = false_true headed
      by_head (Some response) headed is =
          let no : Some (Shows y (Rattle.hc_event.specs.declared.act.Why.TheVariants.Fetched y) response (base h.w) (hi_of t (place.Direct y))) ≡ None =
          is in cc

  unplanned : (p : Place) → k.place ≡ p → reads p ≡ true → bound_to k.place ≡ None → ((y : ℕ) → k.place ≡ place.Direct y → IsHeadedRow t y) →
      shows_at t k k.place ≡ None → ⊥
  unplanned (place.Bound q a b how) at old free headed none = none_some q (sym free ∙ ap bound_to at)
  unplanned (place.Direct y) at old free headed none = shows_some y at (headed y at) none
  unplanned _ at old free headed none = false_true old

  by_moves : (m : Move) → MoveBy t now want c k m → m ≡ show → k.shown ≡ false → reads k.place ≡ true →
      ((y : ℕ) → k.place ≡ place.Direct y → IsHeadedRow t y) → IsRead t k as_shown
  by_moves m (by_move.shows _ unshown at) is off old headed = read_by k.place refl (at ∙ ap Some is)
  by_moves _ (by_move.reads shown heard) is off old headed = absurd (false_true (sym off ∙ shown))
  by_moves _ (by_move.plans unshown free none heard) is off old headed = absurd (unplanned k.place refl old free headed none)
  by_moves _ _ is off old headed = cc

  -- who is shown a head where it reads is shown what it reads
  pub shown_read : Sound t → t.consumer c ≡ Some k → move_of t now want c k ≡ show → k.shown ≡ false → reads k.place ≡ true →
      ((y : ℕ) → k.place ≡ place.Direct y → IsHeadedRow t y) → IsRead t k as_shown
  shown_read s row is off old headed = by_moves (move_of t now want c k) (move_by t now want c k s row) is off old headed

module _ (step : Step) (a : IsFallback step.tables) where
  open step use {limits, tables as t, now, flaw, sound as s, event as ev, accepted as goes}

  -- who is shown a head reads what it is shown
  pub landed_read : (c : ℕ) (k u : Consumer) → t.consumer c ≡ Some k → k.shown ≡ false → reads u.place ≡ true → (l : IsLanding step c k u) →
      IsRead (after_accepted t (entry_of limits t now ev flaw)) u (record { r = l.r; why = l.why; lo = l.lo; hi = l.hi })
  landed_read c k u row off old l = by_lands l.lands
    where
      place_hi : (r q lo a : ℕ) (hi b : Option ℕ) (how g : BoundBy) → place.Bound r lo hi how ≡ place.Bound q a b g → hi ≡ b
      place_hi r q lo a hi b how g same = cc

      head_at : (y : ℕ) → k.place ≡ place.Direct y → IsHeadedRow t y
      head_at y at = shown_headed step c y l.want l.r l.lo l.why l.head l.hi k row at off l.move_is

      idle_not : (p : Place) → stands.IsIdle p → reads p ≡ true → ⊥
      idle_not (place.Turn x) i on = i
      idle_not (place.Bound r lo hi how) i on = i
      idle_not (place.Direct y) i on = i
      idle_not _ i on = false_true on

      by_lands : Lands k.place u.place l.r l.lo l.hi →
          IsRead (after_accepted t (entry_of limits t now ev flaw)) u (record { r = l.r; why = l.why; lo = l.lo; hi = l.hi })
      by_lands (stands.back i) = absurd (idle_not u.place i old)
      by_lands (stands.stays reading same) =
          read_kept limits t now flaw s ev goes a k u _ same head_at
          (shown_read t now c l.want l.r l.lo l.why l.head l.hi k s row l.move_is off reading head_at)
      by_lands (stands.planned free is) = record {
        number = ap read_of is;
        from = ap (lo_of (after_accepted t (entry_of limits t now ev flaw))) is;
        to = λ n known. ap (hi_of (after_accepted t (entry_of limits t now ev flaw))) is ∙
            ap (λ (z : Option ℕ). option_or z (total_in ((after_accepted t (entry_of limits t now ev flaw)).representation l.r))) known;
        open_end = λ none q1 a1 b1 how1 at1. sym (place_hi l.r q1 l.lo a1 l.hi b1 by.Plan how1 (sym is ∙ at1)) ∙ none;
      }
