-- What a poll gives: the next bytes of the body that its consumer reads, and none past its end.
--
-- A poll gives what is stored, or what is held for its consumer (`comes`). What is stored is a stretch of the body from
-- where it stands, cut at its end (`stored_given`). What is held came past the store (`held_direct`), or of what is
-- lost (`held_lost`); both are runs of an answer. `IsGiven` says of each that it is next, not empty, no more than is
-- wanted, and within the end. `given_next` joins them.
use Rattle.std.{proofs.{Common.{◌≡◌, inl, inr, ℕ, ◌+◌, ◌-◌, ◌<◌, ◌≤◌, List, [], ◌∷◌, length, Bool, true, false, cond, Option, Some, None, refl, ap, sym, ◌∙◌, subst, arith}, Math.Nat.{min-le_left}, lemmas.{List.{get_or-drop, get_or-take, length-take, length-drop}, Bool.Decides.{nat_tests}}}, specs.{Prelude.{IfSome, slice_index, is_some, min, take, drop, ◌&&◌, if◌then◌else◌}, Option.{option_and_then, option_map}}}
use Rattle.hc_text.proofs.Basics.{bool_cases, min_few, not_some as none_some, some_inj}
use Rattle.hc_range.specs.declared.range.Span.{Span}
use Rattle.hc_sparse.proofs.StretchLemmas.{front, stretch-longest}
use Rattle.hc_sparse.specs.{Cells.{Cells, Cell, EndsBy}, Runs.{end_of}, Stretch.{stretch, stretch_of, bytes_from, IsLongest}, declared.run.Run.{Run}}
use Rattle.hc_effects.proofs.Vocabulary.{Cause, Request, read_step, is_at_end, cut_at, stored_or, held_or, fails_or, waits_or, opens, ReadView, Place, row_of, is_number, base, stretch_to, Nothing, Gives, Ends, Fails, gives, waits_for, opens_hole, bound_to, offset, hi_of, lo_of, Delivers, answer_cell, cell_by, body_of, direct_cell, Tables, Exchange, Representation, Consumer, Sound, IsStored, stored_from, stored_ahead, run_of, held_of_exchange, held_of_lost, held_at, run_held_for, read_view, most, later_hole, step_move, reading, wait}
use Rattle.hc_event.specs.declared.place.Place.TheVariants as place
use Rattle.hc_model.specs.Exchanges as exchanges
use Rattle.hc_model.specs.Moves as moves

-- A STRETCH

record IsStretch (f : Cells) (p n : ℕ) (run : Run) : Type 0 where
  at_is : run.at ≡ p
  few : length run.bytes ≤ n
  each : (i : ℕ) → i < length run.bytes → f (p + i) ≡ Some (record { byte = slice_index run.bytes i; x = run.x })

module _ (f : Cells) (reach p n : ℕ) (run : Run) where
  by_cell : (o : Option Cell) → f p ≡ o → stretch_of f p (min n (reach - p)) o ≡ Some run → IsStretch f p n run
  by_cell None here is = absurd (none_some run is)
  by_cell (Some cell) here is =
      let made : record { x = cell.x; at = p; bytes = bytes_from f cell.x p (min n (reach - p)) } ≡ run = some_inj _ run is in
      let all = front f cell.x p (min n (reach - p)) in
      let le : min n (reach - p) ≤ n = min_few n (reach - p) in
      let short : length (bytes_from f cell.x p (min n (reach - p))) ≤ min n (reach - p) = all.most in
      subst (IsStretch f p n) made (record { at_is = refl; few = omega arith; each = all.each })

  stretched : stretch_to f reach p n ≡ Some run → IsStretch f p n run
  unfolding stretch
  stretched is = by_cell (f p) refl is

  there_at : (o : Option Cell) → f p ≡ o → stretch_of f p (min n (reach - p)) o ≡ Some run → EndsBy reach f → p < reach
  there_at o here is ends = grind (arith, nat_tests)

  below_reach : stretch_to f reach p n ≡ Some run → EndsBy reach f → p < reach
  unfolding stretch
  below_reach is ends = there_at (f p) refl is ends

  min_some : (a b : ℕ) → 0 < a → 0 < b → 0 < min a b
  min_some a b p q = omega arith

  some_longest : (o : Option Run) → o ≡ Some run → IfSome o (λ z. IsLongest f p (min n (reach - p)) z) → 0 < length run.bytes
  some_longest None is all = absurd (none_some run is)
  some_longest (Some z) is all = rw (← ap (λ (q : Run). length q.bytes) (some_inj z run is)) all.some

  some_of : stretch_to f reach p n ≡ Some run → EndsBy reach f → 0 < n → 0 < length run.bytes
  some_of is ends many =
      let below : p < reach = below_reach is ends in
      let positive : 0 < min n (reach - p) = min_some n (reach - p) many (omega arith) in
      some_longest (stretch_to f reach p n) is (stretch-longest f p (min n (reach - p)) positive)

-- what is stored ends where what came does
pub stored_ends : (v : Representation) → IsStored v → EndsBy v.reach v.stored
stored_ends v s p le = grind (arith, nat_tests)

-- what a consumer reads: a representation, or an answer past the store
abbrev pub read_of : Place → Option ℕ
read_of (place.Bound r lo hi by) = Some r
read_of (place.Direct x) = Some x
read_of _ = None

-- before the end there is more ahead
pub some_ahead : (o : Option ℕ) (m p : ℕ) → is_at_end o p ≡ false → p < m → 0 < cut_at o m - p
some_ahead o m p before lt = grind (arith, nat_tests)

-- FROM WHERE A POLL GIVES

module _ (t : Tables) (want c : ℕ) (k : Consumer) (run : Run) where
  abbrev until : Option ℕ
  until = hi_of t k.place

  data Comes : Type 0 where
    stored : (end : ℕ) → is_at_end until (offset t k) ≡ false → option_map end_of (stored_ahead t k want) ≡ Some end →
        stored_ahead t k (cut_at until end - offset t k) ≡ Some run → Comes
    held_back : is_at_end until (offset t k) ≡ false → run_held_for t c k (most t want k) ≡ Some run → Comes

  gives_is : (o : Option Run) → gives o ≡ Gives run → o ≡ Some run
  gives_is None is = absurd (let never : Nothing ≡ Gives run = is in cc)
  gives_is (Some z) is = let same : z ≡ run = cc in ap Some same

  hole_gives : (request : Request) (o : Option Representation) (hole : Span) → opens_hole t request o hole ≡ Gives run → ⊥
  hole_gives request o hole is = grind (arith, nat_tests)

  later_gives : (hole : Span) (hi : Option ℕ) → later_hole t k hole hi ≡ Gives run → ⊥
  later_gives hole None is = cc
  later_gives hole (Some hi) is = hole_gives k.request _ hole is

  asks_gives : (x : ℕ) (b : Bool) → (if b then moves.Waits (wait.Body x) else moves.Asks x) ≡ Gives run → ⊥
  asks_gives x b is = grind (arith, nat_tests)

  waits_gives : (x : ℕ) (o : Option Exchange) → waits_for x o ≡ Gives run → ⊥
  waits_gives x None is = cc
  waits_gives x (Some w) is = asks_gives x w.asked is

  abbrev view : ReadView
  view = read_view t want c k

  by_source : (o : Option ℕ) → step_move t want c k (waits_or o (opens view)) ≡ Gives run → ⊥
  by_source None is = later_gives _ (hi_of t k.place) is
  by_source (Some x) is = waits_gives x (t.exchange x) is

  by_due : (o : Option Cause) → step_move t want c k (fails_or o (waits_or view.source (opens view))) ≡ Gives run → ⊥
  by_due None is = by_source view.source is
  by_due (Some cause) is = let never : Fails cause ≡ Gives run = is in cc

  by_held : (b : Bool) → is_at_end until (offset t k) ≡ false →
      step_move t want c k (held_or b (fails_or view.due (waits_or view.source (opens view)))) ≡ Gives run → Comes
  by_held true before is = held_back before (gives_is _ is)
  by_held false before is = absurd (by_due view.due is)

  by_stored : (o : Option ℕ) → option_map end_of (stored_ahead t k want) ≡ o → is_at_end until (offset t k) ≡ false →
      step_move t want c k (stored_or until o (held_or view.held (fails_or view.due (waits_or view.source (opens view))))) ≡ Gives run → Comes
  by_stored None row before is = by_held view.held before is
  by_stored (Some end) row before is = stored end before row (gives_is _ is)

  comes : reading t want c k ≡ Gives run → Comes
  unfolding read_step
  comes is = elim (bool_cases (is_at_end until (offset t k))) [
    | inl past ↦ absurd (let never : Ends ≡ Gives run = rw past at is in cc)
    | inr before ↦ by_stored (option_map end_of (stored_ahead t k want)) refl before (rw before at is)
  ]

  -- WHAT IT GIVES

  pub record IsGiven (r : ℕ) : Type 0 where
    pub number : read_of k.place ≡ Some r
    pub at_is : run.at ≡ offset t k
    pub some : 0 < length run.bytes
    pub delivered : Delivers t r run.at run.x run.bytes
    pub within : IfSome until (λ hi. run.at + length run.bytes ≤ hi)

  bound_reads : (p : Place) (r : ℕ) → bound_to p ≡ Some r → read_of p ≡ Some r
  bound_reads p r is = grind (arith, nat_tests)

  -- a stretch of a body
  delivers_of : (r p n : ℕ) (v : Representation) (f : Cells) → t.representation r ≡ Some v → IsStretch f p n run →
      ((q : ℕ) → is_some (f q) ≡ true → f q ≡ v.body q) → Delivers t r run.at run.x run.bytes
  delivers_of r p n v f row s same i lt = grind (arith, nat_tests)

  -- up to the end, where that isn't there yet
  within_by : (o : Option ℕ) (m p : ℕ) → run.at ≡ p → is_at_end o p ≡ false → length run.bytes ≤ cut_at o m - p →
      IfSome o (λ hi. run.at + length run.bytes ≤ hi)
  within_by o m p at before few = grind (arith, nat_tests)

  -- STORED

  record IsFrom (n : ℕ) (z : Run) : Type 0 where
    r : ℕ
    v : Representation
    to : bound_to k.place ≡ Some r
    row : t.representation r ≡ Some v
    is : stretch_to v.stored v.reach (offset t k) n ≡ Some z

  from_row : (n : ℕ) (z : Run) (r : ℕ) (o : Option Representation) → bound_to k.place ≡ Some r → t.representation r ≡ o → option_and_then
      (stored_from (offset t k) n) o ≡ Some z → IsFrom n z
  from_row n z r None to row is = absurd (none_some z is)
  from_row n z r (Some v) to row is = record { r = r; v = v; to = to; row = row; is = is }

  from_bound : (n : ℕ) (z : Run) (q : Option ℕ) → bound_to k.place ≡ q → option_and_then (stored_from (offset t k) n) (row_of t q) ≡ Some z → IsFrom n z
  from_bound n z None to is = absurd (none_some z is)
  from_bound n z (Some r) to is = from_row n z r (t.representation r) to refl is

  stored_is : (n : ℕ) (z : Run) → stored_ahead t k n ≡ Some z → IsFrom n z
  stored_is n z is = from_bound n z (bound_to k.place) refl is

  end_past : Sound t → 0 < want → (end : ℕ) (o : Option Run) → stored_ahead t k want ≡ o → option_map end_of o ≡ Some end → offset t k < end
  end_past s many end None row is = absurd (none_some end is)
  end_past s many end (Some z) row is =
      let f = stored_is want z row in
      let store : IsStored f.v = (s.rows f.r f.v f.row).store in
      let all = stretched f.v.stored f.v.reach (offset t k) want z f.is in
      let at : z.at ≡ offset t k = all.at_is in
      let some : 0 < length z.bytes = some_of f.v.stored f.v.reach (offset t k) want z f.is (stored_ends f.v store) many in
      let same : end_of z ≡ end = some_inj (end_of z) end is in
      let sum : z.at + length z.bytes ≡ end = same in
      omega arith

  stored_given : Sound t → 0 < want → (end : ℕ) → is_at_end until (offset t k) ≡ false → option_map end_of (stored_ahead t k want) ≡ Some end →
      stored_ahead t k (cut_at until end - offset t k) ≡ Some run → (r : ℕ) × IsGiven r
  stored_given s many end before ends is =
      let n = cut_at until end - offset t k in
      let f = stored_is n run is in
      let store : IsStored f.v = (s.rows f.r f.v f.row).store in
      let all = stretched f.v.stored f.v.reach (offset t k) n run f.is in
      let past : offset t k < end = end_past s many end (stored_ahead t k want) refl ends in (
        f.r,
        record {
          number = bound_reads k.place f.r f.to;
          at_is = all.at_is;
          some = some_of f.v.stored f.v.reach (offset t k) n run f.is (stored_ends f.v store) (some_ahead until end (offset t k) before past);
          delivered = delivers_of f.r (offset t k) n f.v f.v.stored f.row all store.some_stored;
          within = within_by until end (offset t k) all.at_is before all.few;
        },
      )

  -- HELD

  is_run : (x o : ℕ) (bytes : List ℕ) → run_of x o bytes ≡ Some run → (0 < length bytes) × (record { x = x; at = o; bytes = bytes } ≡ run)
  is_run x o [] is = absurd (none_some run is)
  is_run x o (b ∷ bytes) is = (omega arith, some_inj _ run is)

  answer_there : (x p : ℕ) (w : Exchange) → base w ≤ p → p < exchanges.front w →
      answer_cell x p w ≡ Some (record { byte = slice_index w.body (p - base w); x = x })
  answer_there x p w from below = grind (arith, nat_tests)

  min_right : (a b : ℕ) → min a b ≤ b
  min_right a b = omega arith

  held_answer : (x o n : ℕ) (w : Exchange) → base w ≤ o → t.exchange x ≡ Some w → t.representation x ≡ None →
      run_of x o (take n (drop (o - base w) w.body)) ≡ Some run → Delivers t x run.at run.x run.bytes × (run.at ≡ o) × (0 < length run.bytes) ×
      (length run.bytes ≤ n)
  held_answer x o n w from row apart is =
      let bytes = take n (drop (o - base w) w.body) in
      let got = is_run x o bytes is in
      let count : length bytes ≡ min n (length (drop (o - base w) w.body)) = length-take n (drop (o - base w) w.body) in
      let rest : length (drop (o - base w) w.body) ≡ length w.body - (o - base w) = length-drop (o - base w) w.body in
      let few : length bytes ≤ n = (let le : min n (length (drop (o - base w) w.body)) ≤ n = min-le_left n _ in omega arith) in
      let inside : length bytes ≤ length w.body - (o - base w) =
      (let le : min n (length (drop (o - base w) w.body)) ≤ length (drop (o - base w) w.body) = min_right n _ in omega arith) in
      let delivers : Delivers t x o x bytes = (λ i lt. each bytes refl count inside few i lt) in
      subst (λ (z : Run). Delivers t x z.at z.x z.bytes × (z.at ≡ o) × (0 < length z.bytes) × (length z.bytes ≤ n)) got.1 (delivers, refl, got.0, few)
    where
      each : (bytes : List ℕ) → bytes ≡ take n (drop (o - base w) w.body) → length bytes ≡ min n (length (drop (o - base w) w.body)) →
          length bytes ≤ length w.body - (o - base w) → length bytes ≤ n → (i : ℕ) → i < length bytes →
          body_of t x (o + i) ≡ Some (record { byte = slice_index bytes i; x = x })
      each bytes bytes_is count inside few i lt =
          let in_n : i < n = omega arith in
          let cell : answer_cell x (o + i) w ≡ Some (record { byte = slice_index w.body (o + i - base w); x = x }) =
          answer_there x (o + i) w (omega arith) (omega arith) in
          let place : o + i - base w ≡ (o - base w) + i = omega arith in
          let byte : slice_index bytes i ≡ slice_index w.body ((o - base w) + i) = ap (λ (z : List ℕ). slice_index z i) bytes_is ∙
          (get_or-take n (drop (o - base w) w.body) i 0 in_n ∙ get_or-drop (o - base w) w.body i 0) in
          let is_byte : slice_index w.body (o + i - base w) ≡ slice_index bytes i = ap (slice_index w.body) place ∙ sym byte in
          ap (cell_by t x (o + i)) apart ∙ (ap (direct_cell x (o + i)) row ∙ (cell ∙ ap (λ b. Some (record { byte = b; x = x })) is_byte))

  held_direct : (x : ℕ) (q : Option Exchange) → k.place ≡ place.Direct x → t.exchange x ≡ q → t.representation x ≡ None →
      is_at_end until (offset t k) ≡ false → held_of_exchange x (offset t k) (most t want k) q ≡ Some run → (r : ℕ) × IsGiven r
  held_direct x None at row apart before is = absurd (none_some run is)
  held_direct x (Some w) at row apart before is =
      let lo : lo_of t k.place ≡ base w = ap (lo_of t) at ∙ ap Rattle.hc_model.specs.Reading.base_in row in
      let all = held_answer x (offset t k) (most t want k) w (omega arith) row apart is in (
        x,
        record {
          number = ap read_of at;
          at_is = all.1;
          some = all.2;
          delivered = all.0;
          within = within_by until (offset t k + want) (offset t k) all.1 before all.3;
        },
      )

  lost_is : (b : Bool) (o : Option Run) → cond b o None ≡ Some run → o ≡ Some run
  lost_is b o is = grind (arith, nat_tests)

  held_lost : Sound t → 0 < want → (r : ℕ) (q : Option Representation) → bound_to k.place ≡ Some r → t.representation r ≡ q →
      is_at_end until (offset t k) ≡ false → held_of_lost c (offset t k) (most t want k) q ≡ Some run → (r : ℕ) × IsGiven r
  held_lost s many r None at row before is = absurd (none_some run is)
  held_lost s many r (Some v) at row before is =
      let store : IsStored v = (s.rows r v row).store in
      let here : stretch_to v.body v.reach (offset t k) (most t want k) ≡ Some run = lost_is (v.is_lost && is_number v.alone c) _ is in
      let all = stretched v.body v.reach (offset t k) (most t want k) run here in (
        r,
        record {
          number = bound_reads k.place r at;
          at_is = all.at_is;
          some = some_of v.body v.reach (offset t k) (most t want k) run here store.ends
              (some_ahead until (offset t k + want) (offset t k) before (omega arith));
          delivered = delivers_of r (offset t k) (most t want k) v v.body row all (λ q there. refl);
          within = within_by until (offset t k + want) (offset t k) all.at_is before all.few;
        },
      )

  -- nothing is an answer past the store and a representation
  module _ (s : Sound t) (many : 0 < want) (apart : (x : ℕ) → k.place ≡ place.Direct x → t.representation x ≡ None) where
    held_by : (p : Place) → k.place ≡ p → is_at_end until (offset t k) ≡ false → held_at t c (offset t k) (most t want k) p ≡ Some run → (r : ℕ) × IsGiven r
    held_by (place.Direct x) at before is = held_direct x (t.exchange x) at refl (apart x at) before is
    held_by (place.Bound r lo hi by) at before is = held_lost s many r (t.representation r) (ap bound_to at) refl before is
    held_by _ at before is = absurd (none_some run is)

    by_comes : Comes → (r : ℕ) × IsGiven r
    by_comes (stored end before ends is) = stored_given s many end before ends is
    by_comes (held_back before is) = held_by k.place refl before is

    -- What a reader is given is next in the body that it reads.
    pub given_next : reading t want c k ≡ Gives run → (r : ℕ) × IsGiven r
    given_next is = by_comes (comes is)
