-- How large numbers become, in every run from contents whose lengths heads can tell.
--
-- What came of an exchange was received or promised, so its front is bounded (`front_by`). A reach grows by a piece,
-- which ends at such a front (`piece_ends`, `reach_by`). A length is told by a head, or by an end there (`total_by`,
-- `ended_total`). `AreShortRows` is carried from contents with such lengths (`begun_short`, `short_kept`). Where a
-- consumer reads is within a length (`starts_by`). `numbers_by` joins these.
use Rattle.std.{proofs.Common.{◌≡◌, ◌<◌, ◌≤◌, ◌⊎◌, inl, inr, ℕ, ◌+◌, ◌^◌, List, [], ◌∷◌, length, length-append, Bool, true, false, Option, Some, None, refl, ap, sym, ◌∙◌, subst, arith}, specs.{Prelude.{option_map}, Option.{option_or}}}
use Rattle.hc_text.proofs.Basics.{not_some as none_some, some_inj}
use Rattle.hc_effects.proofs.Vocabulary.{Event, base_of, Limits, BoundBy, may_begin, is_kind_right, Entry, entry_of, History, Content, Contents, base, promised_bytes, front, item_of, Measures, Numbers, AreShort, Places, length_in, Tables, Exchange, Representation, Consumer, IsRun, Sound, tables, after_accepted, first_tables, representation_of_content, event, place}
use Rattle.hc_model.specs.Numbers.{NumbersInRuns, most, too_long}
use Rattle.hc_model.specs.Sound as sound
use Rattle.hc_laws.proofs.{Barred.{next_tables}, MeasuresBegin.{measures_begin, known_item}, PlaceRuns.{places_in_runs}, RunFacts.{along}, ReadEnds.{bounded, no_base}, SoundRuns.{carried}}
use Rattle.hc_effects.proofs.{Basics.{false_true, some_row}, Bounded.{IsBounded}, Fills.{Fills, fills, Brings, brings, length_same}, Forward.{is_on}, RepFrom.{RepFrom, rep_from}, ReportedNumbers.{promise_early, founded_early}}
use Rattle.hc_effects.proofs.ExchangeFrom as exchange
use Rattle.hc_effects.proofs.Fills as fills_by
use Rattle.hc_effects.proofs.RepFrom as rep

-- OF ONE STATE

module _ (t : Tables) (p : Places t) where
  unpromised_by : (w : Exchange) → promised_bytes w ≡ None → base w ≡ 0
  unpromised_by w is = no_base _ is

  -- what came of an exchange was received, or promised
  front_by : (x : ℕ) (w : Exchange) (o : Option ℕ) → t.exchange x ≡ Some w → promised_bytes w ≡ o → front w ≤ most t
  front_by x w None row is =
      let first : base w ≡ 0 = unpromised_by w is in
      let le : length w.body ≤ t.received = p.received x w row in
      omega arith
  front_by x w (Some n) row is =
      let le : length w.body ≤ n = p.promised_most x n w row is in
      let early : base w + n ≤ 2 ^ 62 = promise_early w n is in
      omega arith

-- LENGTHS AND REACHES

record AreShortRows (t : Tables) : Type 0 where
  totals : (r n : ℕ) (v : Representation) → t.representation r ≡ Some v → v.head.total ≡ Some n → n < too_long t
  reaches : (r : ℕ) (v : Representation) → t.representation r ≡ Some v → v.reach ≤ most t

module _ (limits : Limits) (contents : Contents) (may : may_begin limits contents ≡ true) (short : AreShort contents) where
  begun_total : (r n : ℕ) (v : Representation) → (first_tables contents).representation r ≡ Some v → v.head.total ≡ Some n → n < 2 ^ 62
  begun_total r n v row known = by_item (item_of contents r) refl row
    where
      by_item : (z : Option Content) → item_of contents r ≡ z → option_map representation_of_content z ≡ Some v → n < 2 ^ 62
      by_item None found is = absurd (none_some v is)
      by_item (Some item) found is = short r n item found (ap (λ (q : Representation). q.head.total) (some_inj (representation_of_content item) v is) ∙ known)

  begun_reach : (r : ℕ) (v : Representation) → (first_tables contents).representation r ≡ Some v → v.reach ≤ 2 ^ 62
  begun_reach r v row = by_item (item_of contents r) refl row
    where
      by_total : (item : Content) (o : Option ℕ) → item_of contents r ≡ Some item → representation_of_content item ≡ v → item.head.total ≡ o → v.reach ≤ 2 ^ 62
      by_total item None found same unknown = absurd (false_true (ap (is_kind_right item) (sym unknown) ∙ known_item limits contents may r item found))
      by_total item (Some n) found same known =
          let small : n < 2 ^ 62 = short r n item found known in
          let le : v.reach ≤ n = (measures_begin limits contents may).within r n v row (ap (λ (q : Representation). q.head.total) (sym same) ∙ known) in
          omega arith

      by_item : (z : Option Content) → item_of contents r ≡ z → option_map representation_of_content z ≡ Some v → v.reach ≤ 2 ^ 62
      by_item None found is = absurd (none_some v is)
      by_item (Some item) found is = by_total item item.head.total found (some_inj (representation_of_content item) v is) refl

  begun_short : AreShortRows (first_tables contents)
  begun_short = record {
    totals = λ r n v row known. let small = begun_total r n v row known in omega arith;
    reaches = λ r v row. let small = begun_reach r v row in omega arith;
  }

module _ (t : Tables) (e : Entry) (was : AreShortRows t) (p : Places t) (q : Places (after_accepted t e)) where
  abbrev now_on : Tables
  now_on = after_accepted t e

  grows : most t ≤ most now_on
  grows = omega arith

  ended_total : (r n : ℕ) (v : Representation) (o : Option ℕ) → t.representation r ≡ Some v → v.head.total ≡ o →
      option_or o (Some (length_in (t.exchange r))) ≡ Some n → n < too_long t
  ended_total r n v (Some a) row known is = was.totals r n v row (known ∙ is)
  ended_total r n v None row unknown is = by_row (t.exchange r) refl (some_inj _ n is)
    where
      by_row : (z : Option Exchange) → t.exchange r ≡ z → length_in z ≡ n → n < too_long t
      by_row None exchange_row same = omega arith
      by_row (Some w) exchange_row same = let le : length w.body ≤ t.received = p.received r w exchange_row in omega arith

  total_by : (r n : ℕ) (u : Representation) → u.head.total ≡ Some n → RepFrom t e r u → n < too_long now_on
  total_by r n u known (rep.founded response w none here row on made) =
      let small : n < 2 ^ 62 = founded_early w response n (ap (λ (z : Representation). z.head.total) made ∙ known) in
      omega arith
  total_by r n u known (rep.was v kept) = elim kept.total_is [
    | inl same ↦ let le : n < too_long t = was.totals r n v kept.row (sym same ∙ known) in omega (arith, grows)
    | inr over ↦ let le : n < too_long t = ended_total r n v v.head.total kept.row refl (sym over.total_is ∙ known) in omega (arith, grows)
  ]

  abbrev bytes_in : Event → ℕ
  bytes_in (event.Piece x bytes) = length bytes
  bytes_in _ = 0

  -- a piece ends where the front of its exchange then stands
  piece_ends : (x : ℕ) (bytes : List ℕ) (w : Exchange) → t.exchange x ≡ Some w → e.event ≡ event.Piece x bytes → front w + length bytes ≤ most now_on
  piece_ends x bytes w row here = by_brings (brings t e x w z.u row z.row)
    where
      z : Rattle.hc_effects.proofs.Forward.IsOn t e x w
      z = is_on t e x w row

      by_base : ((z.u.head ≡ w.head) × (z.u.joined ≡ w.joined)) ⊎ exchange.IsHeaded t e x w z.u → base z.u ≡ base w
      by_base (inl still) = ap base_of (length_same w z.u z.same.need_is z.same.request_is still.0)
      by_base (inr got) = absurd (let no : event.Piece x bytes ≡ event.Head x got.response = sym here ∙ got.at in cc)

      by_brings : Brings t e x w z.u → front w + length bytes ≤ most now_on
      by_brings (fills_by.still none body_is) = absurd (none bytes here)
      by_brings (fills_by.more other also body_is) =
          let count : length bytes ≡ length other = ap (λ (ev : Event). bytes_in ev) (sym here ∙ also) in
          let first : base z.u ≡ base w = by_base z.same.heard_or in
          let longer : length z.u.body ≡ length w.body + length other = ap (λ (b : List ℕ). length b) body_is ∙ length-append w.body other in
          let ends : front z.u ≤ most now_on = front_by now_on q x z.u (promised_bytes z.u) z.row refl in
          omega arith

  reach_by : (r : ℕ) (u : Representation) → RepFrom t e r u → u.reach ≤ most now_on
  reach_by r u (rep.founded response w none here row on made) = let zero : 0 ≡ u.reach = ap (λ (z : Representation). z.reach) made in omega arith
  reach_by r u (rep.was v kept) = by_fills (fills t e r v u kept)
    where
      by_fills : Fills t e r v u → u.reach ≤ most now_on
      by_fills (fills_by.still none body stored reach) = let le : v.reach ≤ most t = was.reaches r v kept.row in let same : u.reach ≡ v.reach = reach in
          omega (arith, grows)
      by_fills (fills_by.more x bytes w is body stored reach) =
          let le : v.reach ≤ most t = was.reaches r v kept.row in
          let ends : front w + length bytes ≤ most now_on = piece_ends x bytes w is.row is.at in
          omega (arith, grows)

  short_kept : AreShortRows now_on
  short_kept = record {
    totals = λ r n u row known. total_by r n u known (rep_from t e r (t.representation r) u refl row);
    reaches = λ r u row. reach_by r u (rep_from t e r (t.representation r) u refl row);
  }

-- IN RUNS

short_in_runs : (limits : Limits) (contents : Contents) (h : History) → may_begin limits contents ≡ true → AreShort contents → IsRun limits contents h →
    AreShortRows (tables contents h)
short_in_runs limits contents h may short run =
    along limits contents (λ t h. AreShortRows t) may
    (begun_short limits contents may short)
    (λ h e run later denied was. record {
      totals = λ r n v row known. let le = was.totals r n v row known in omega arith;
      reaches = λ r v row. let le = was.reaches r v row in omega arith;
    })
    (λ h now flaw ev run s was.
    let e = entry_of limits (tables contents h) now ev flaw in
    short_kept (tables contents h) e was (places_in_runs limits contents h may run)
    (subst Places (sym (next_tables contents h e s.real.taken)) (places_in_runs limits contents (e ∷ h) may (run, s.owed))))
    h run

module _ (t : Tables) (s : Sound t) (m : Measures t) (b : IsBounded t) (p : Places t) (short : AreShortRows t) where
  -- an end is within a length
  ends_by : (c r lo hi : ℕ) (how : BoundBy) (k : Consumer) → t.consumer c ≡ Some k → k.place ≡ place.Bound r lo (Some hi) how → hi ≤ most t
  ends_by c r lo hi how k row at =
      let there = some_row (t.representation r) (s.numbered.bound_to r c k (sound.is_bound lo (Some hi) how row at)) in
      let within = m.ends r c lo hi how k there.0 row at there.1 in
      let le : within.total < too_long t = short.totals r within.total there.0 there.1 within.known in
      omega arith

  starts_by : (c r lo : ℕ) (hi : Option ℕ) (how : BoundBy) (k : Consumer) → t.consumer c ≡ Some k → k.place ≡ place.Bound r lo hi how → lo ≤ most t
  starts_by c r lo None how k row at = let first : lo ≡ 0 = b.first c r lo how k row at in omega arith
  starts_by c r lo (Some hi) how k row at =
      let order : lo ≤ hi = b.proper c r lo hi how k row at in
      let le : hi ≤ most t = ends_by c r lo hi how k row at in
      omega arith

  numbers_by : Numbers t
  numbers_by = record {
    promises = λ x n w row is. promise_early w n is;
    unpromised = λ x w row is. unpromised_by t p w is;
    fronts = λ x w row. front_by t p x w (promised_bytes w) row refl;
    totals = short.totals;
    reaches = short.reaches;
    starts = starts_by;
    ends = ends_by;
  }

pub numbers_in_runs : NumbersInRuns
numbers_in_runs limits contents h may short run =
    let c = carried limits contents h may run in
    numbers_by (tables contents h) c.is_sound c.is_measured (bounded limits contents h may run) (places_in_runs limits contents h may run)
    (short_in_runs limits contents h may short run)
