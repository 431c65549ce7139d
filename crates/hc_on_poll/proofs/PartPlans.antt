-- A plan that uses what is current: its part isn't empty, nor is the hole that it fills, and nobody else is bound then.
--
-- What the plan sees of what is current is what the entry has: length, fields and the bytes that are there. A plan for
-- a first hole says by its rule what its consumer wants, which hole that has, and that nobody is bound (`IsFilling`).
-- So the hole lies within the length, and the entry admits a first reader. A part that is shown lies within it too
-- (`part_within`). `carry_out_plan` uses the last module, which needs just that some tables are represented.
use Rattle.std.{proofs.Common.{◌≡◌, ℕ, ◌+◌, ◌<◌, ◌≤◌, ◌^◌, List, Bool, true, false, max, Option, Some, None, refl, ap, sym, ◌∙◌, subst, arith}, specs.{Prelude.{nat_eq, is_some, is_none, not, option_map, unwrap_or, IsSomeAnd, ◌&&◌, if◌then◌else◌}, Option.{option_and_then}, HashMap.{get}}}
use Rattle.hc_text.proofs.Basics.{eqb-same, false_true, some_inj as some_is}
use Rattle.hc_effects.proofs.Vocabulary.{Limits, Act, Why, Request, Candidate, Plan, PlanView, RequestClass, least, plan_of, bare_plan, from_store, in_time, class_of, range_of, wanted_of, current, is_number, row_of, first_hole, Opens, opens_hole, span_to, hole_request, candidate, candidate_at, hole_of, bound, is_bound, is_bound_place, Numbers, Tables, Representation, came_alone, need, plan, wanted}
use Rattle.hc_store.specs.declared.backend.Backend.{Ghosts}
use Rattle.hc_range.specs.{declared.range.{RangeSpec.{RangeSpec}, Span.{Span}}, Spans.{IsWithin}}
use Rattle.hc_record.specs.{declared.head.StoredHead.{StoredHead}, Head.{Head}, Plain.{plain}}
use Rattle.hc_text.specs.Sorted.{has, is_among, itself}
use Rattle.hc_stored.specs.{Entries.{shelf_of}, Shelf.{head_at}, Views.{admits, admits_first}}
use Rattle.hc_model.specs.Planning as planning
use Rattle.hc_model.specs.Rows as rows
use Rattle.hc_effects.proofs.{EndsKeep.{wanted_within}, WantedSpans.{wanted_some}, PlanBy.{PlanBy, plan_by}, Tests.{and_false}}
use Rattle.hc_effects.proofs.PlanBy as plans
use Rattle.hc_state.specs.{declared.rows.Rows.{Rows}, Facts.{Facts}, Kept.{IsKept, KeepsConsumer}, Plans.{IsIdle, IsWaiting, HasCurrent, IsPlanOf, IsShownPart, begin_of, end_of, AnswersFirst, AnswersPoll}, Stands.{RowsStand, Stands}, Stored.{is_first}}
use Rattle.hc_txn.specs.{declared.transaction.Transaction.{Transaction as Consumer}, Transactions.{queues}}
use Rattle.hc_on_poll.specs.Ready.{MayPass}
use Rattle.hc_on_poll.proofs.{CandidateTies.{head_at_is, in_order, range_of_class}, HoleTies.{hole_inside}, PassesHandler.{current_as}, PlanHandlers.{found, waits_there, current_admits, plan_answers}}
use Rattle.hc_state.proofs.{CurrentTies.{IsNow, now_kept, stays_stored, stored_ends, total_reported}, Maps.{known_of, some_that, merely_true, merely_within}, Ties.{kept_row}, TurnTies.{least_none, among_in, filter_in}, Words.{few_received}, Classes.{class_is}}

-- who fills a hole may ask the origin
fills_asks : (view : PlanView) (span hole : Span) → plan_of view ≡ plan.FirstHole span hole → view.class.only ≡ false
unfolding plan_of
fills_asks view span hole is = by_only view.class.only refl is
  where
    from_never : (p : Plan) → from_store p ≡ plan.FirstHole span hole → ⊥
    from_never (plan.Direct n) same = cc
    from_never _ same = cc

    by_only : (b : Bool) → view.class.only ≡ b → (if b then from_store (bare_plan view) else in_time view (bare_plan view)) ≡ plan.FirstHole span hole →
        view.class.only ≡ false
    by_only false off same = off
    by_only true on same = absurd (from_never (bare_plan view) same)

module _ {B : Type 0} {g : Ghosts B} {limits : Limits} (r : Rows B g) (t : Tables) (facts : Facts limits t) (stands : RowsStand limits r t) (c : ℕ)
    (k : Consumer) (v : rows.Consumer) (row : t.consumer c ≡ Some v) (kept : IsKept t k v) (q : ℕ) (held : HasCurrent r.keys q k)
    (head : StoredHead) (read : head_at (shelf_of r.entries) q ≡ Some (plain head)) (now : ℕ) where
  abbrev view : PlanView
  view = planning.plan_view t now c v

  current_is : current t v.request.key ≡ Some q
  current_is = current_as r t k v q stands kept held

  pub at : IsNow r t stands v.request.key q
  at = now_kept r t stands v.request.key q current_is

  -- what the plan sees of it
  seen : view.current ≡ Some (candidate t now q v.request at.p)
  seen = ap (option_and_then (candidate_at t now v.request)) current_is ∙ ap (option_map (λ (z : Representation). candidate t now q v.request z)) at.row

  seen_as : (s : Candidate) → view.current ≡ Some s → candidate t now q v.request at.p ≡ s
  seen_as s is = some_is (candidate t now q v.request at.p) s (sym seen ∙ is)

  same_head : at.e.head ≡ plain head
  same_head = head_at_is ((shelf_of r.entries).kept q) at.e head at.kept read

  pub total_is : head.total ≡ at.p.head.total
  total_is = sym (ap (λ (h : Head). h.total) same_head) ∙ total_reported t q at.e at.p at.is at.stays

  pub fields_are : at.p.head.fields ≡ head.fields
  fields_are = sym (ap (λ (h : Head). h.fields) at.is.head) ∙ ap (λ (h : Head). h.fields) same_head

  pub range_is : k.class.range ≡ range_of v.request
  range_is = ap (λ (z : RequestClass). z.range) (class_is kept) ∙ range_of_class v.request

  -- a part of it that begins before it ends, by where what is wanted ends
  within : Numbers t → t.received < 2 ^ 62 → (span part : Span) → wanted_of (range_of v.request) at.p.head.total ≡ wanted.Interval span →
      part.lo < part.hi → part.hi ≤ span.hi → IsSomeAnd head.total (IsWithin part)
  within numbers few span part wants some inside =
      let w = wanted_within (range_of v.request) at.p.head.total span wants in
      let ends : span.hi ≤ w.total = w.ends in
      let early : w.total < max (2 ^ 62) (t.received + 1) = numbers.totals q w.total at.p at.row w.known in
      some_that head.total w.total (IsWithin part) (total_is ∙ w.known)
      (record { not_empty = some; within = omega (arith, ends, inside); small = omega (arith, early, few) })

  -- WHO FILLS A HOLE

  pub record IsFilling (span hole : Span) : Type 0 where
    pub wants : wanted_of (range_of v.request) at.p.head.total ≡ wanted.Interval span
    pub lacks : first_hole at.p.stored at.p.reach span ≡ Some hole
    pub nobody : least (bound t q) ≡ None
    pub cached : (class_of v.request).disabled ≡ false
    pub asks : (class_of v.request).only ≡ false

  pub filling : (span hole : Span) → plan_of view ≡ plan.FirstHole span hole → IsFilling span hole
  filling span hole is = by_plan (plan_of view) (plan_by view) is
    where
      of_candidate : (a b : Span) → view.class.disabled ≡ false → (alone : plans.IsAlone view a (Some b)) → alone.s.least_bound ≡ None → a ≡ span →
          b ≡ hole → IsFilling span hole
      of_candidate a b cached alone none one other =
          let same = seen_as alone.s alone.current in
          let wants : wanted_of (range_of v.request) at.p.head.total ≡ wanted.Interval span = ap (λ (z : Candidate). z.span) same ∙
          (alone.wanted_is ∙ ap wanted.Interval one) in
          record {
            wants = wants;
            lacks = ap (hole_of at.p) (sym wants) ∙ (ap (λ (z : Candidate). z.hole) same ∙ (alone.hole_is ∙ ap Some other));
            nobody = ap (λ (z : Candidate). z.least_bound) same ∙ none;
            cached = cached;
            asks = fills_asks view span hole is;
          }

      by_plan : (p : Plan) → PlanBy view p → p ≡ plan.FirstHole span hole → IsFilling span hole
      by_plan _ (plans.fills a b cached alone none) same = of_candidate a b cached alone none (cc) (cc)
      by_plan _ _ same = absurd (cc)

  module _ (span hole : Span) (f : IsFilling span hole) where
    -- it waits with others
    pub filling_queues : queues k ≡ true
    filling_queues = ap (λ (z : RequestClass). not z.disabled && not z.only) (class_is kept) ∙ rw (f.cached, f.asks) refl

    pub filling_within : Numbers t → t.received < 2 ^ 62 → IsSomeAnd head.total (IsWithin hole)
    filling_within numbers few =
        let inside = hole_inside at.p.stored at.p.reach span (stored_ends t facts.law q at.p at.row (stays_stored t facts.law q at.p at.row at.stays))
        hole f.lacks in
        within numbers few span hole f.wants inside.0 inside.1

    -- nobody is bound yet
    nobody_bound : (d : ℕ) → is_bound q (t.consumer d) ≡ false
    unfolding bound
    nobody_bound d = by_row (t.consumer d) refl
      where
        first_off : (a b : Bool) → (a && b) ≡ false → b ≡ true → a ≡ false
        first_off false b off on = refl
        first_off true b off on = false_true (sym off ∙ on)

        by_row : (o : Option rows.Consumer) → t.consumer d ≡ o → is_bound q (t.consumer d) ≡ false
        by_row None none = ap (is_bound q) none
        by_row (Some j) some =
            let listed = among_in d t.starts (facts.law.sound.numbered.lists.started d (ap (λ (o : Option rows.Consumer). is_some o) some)) in
            let empty = least_none (bound t q) f.nobody in
            first_off (is_bound q (t.consumer d)) _ (sym (filter_in (λ n. is_bound q (t.consumer n)) d t.starts) ∙ ap (is_among d) empty) listed

    nobody_first : (d : ℕ) → is_first t q (t.consumer d) ≡ false
    nobody_first d = by_row (t.consumer d) (nobody_bound d)
      where
        by_row : (o : Option rows.Consumer) → is_bound q o ≡ false → is_first t q o ≡ false
        by_row None off = refl
        by_row (Some j) off = and_false (is_bound_place q j.place) (came_alone t j.place) off

    pub filling_admits : admits c ((shelf_of r.entries).kept q) ≡ true → admits_first c ((shelf_of r.entries).kept q) ≡ true
    filling_admits may = ap (admits_first c) at.kept ∙
        by_first (not at.e.is_gone) (not (has itself c at.e.bound)) at.e.first refl (sym (ap (admits c) at.kept) ∙ may)
      where
        by_first : (a b : Bool) (o : Option ℕ) → at.e.first ≡ o → (a && b) ≡ true → (a && b && is_none at.e.first) ≡ true
        by_first true true None none on = ap (λ (o : Option ℕ). is_none o) none
        by_first true true (Some d) some on =
            false_true (sym (nobody_first d) ∙ (sym (at.is.first d) ∙ (ap (λ (o : Option ℕ). is_number o d) some ∙ eqb-same d)))
        by_first _ _ o is on = cc

  -- WHO IS SHOWN A PART

  pub part_within : Numbers t → t.received < 2 ^ 62 → (why : Why) (span : Option Span) → plan_of view ≡ plan.Bind why span →
      is_some k.class.range ≡ true → (part : Span) → span_to (begin_of span) (end_of span head.total) ≡ Some part → IsSomeAnd head.total (IsWithin part)
  part_within numbers few why span is ranged part reported = by_plan (plan_of view) (plan_by view) is
    where
      ranged_too : is_some (range_of v.request) ≡ true
      ranged_too = ap (λ (z : Option RangeSpec). is_some z) (sym range_is) ∙ ranged

      in_part : (a : Span) → wanted_of (range_of v.request) at.p.head.total ≡ wanted.Interval a → Some a ≡ span → IsSomeAnd head.total (IsWithin part)
      in_part a wants one =
          let some : a.lo < a.hi =
          wanted_some (range_of v.request) at.p.head.total a ranged_too (λ asked found. in_order t k v kept asked (range_is ∙ found)) wants in
          let same : (record { lo = a.lo; hi = a.hi }) ≡ part =
          some_is _ part (ap (λ (z : Option Span). span_to (begin_of z) (end_of z head.total)) one ∙ reported) in
          subst (λ (z : Span). IsSomeAnd head.total (IsWithin z)) same (within numbers few a a wants some (omega arith))

      unranged : is_none (range_of v.request) ≡ true → IsSomeAnd head.total (IsWithin part)
      unranged none = by_range (range_of v.request) none ranged_too
        where
          by_range : (o : Option RangeSpec) → is_none o ≡ true → is_some o ≡ true → IsSomeAnd head.total (IsWithin part)
          by_range None off on = false_true on
          by_range (Some asked) off on = false_true off

      by_plan : (p : Plan) → PlanBy view p → p ≡ plan.Bind why span → IsSomeAnd head.total (IsWithin part)
      by_plan _ (plans.reads y a cached alone) same = in_part a (ap (λ (z : Candidate). z.span) (seen_as alone.s alone.current) ∙ alone.wanted_is) (cc)
      by_plan _ (plans.joins y cached j) same = unranged (ap (λ (z : Option RangeSpec). is_none z) (sym (range_of_class v.request)) ∙ j.unranged)
      by_plan _ _ same = absurd (cc)

-- WHAT THE HANDLERS ASK FOR

hole_alike : (a b : Head) (request : Request) (hole : Span) (total : ℕ) → a.fields ≡ b.fields →
    hole_request a request hole total ≡ hole_request b request hole total
hole_alike a b request hole total fields = rw fields refl

module _ {B : Type 0} {g : Ghosts B} (r : Rows B g) (some : ∥ Stands r ∥₁) (now c : ℕ) (idle : IsSomeAnd (get nat_eq r.consumers c) IsIdle) (q : ℕ)
    (head : StoredHead) (held : IsSomeAnd (get nat_eq r.consumers c) (HasCurrent r.keys q)) (read : head_at (shelf_of r.entries) q ≡ Some (plain head)) where
  abbrev it : Consumer
  it = (found r some now c idle).0

  there_is : get nat_eq r.consumers c ≡ Some it
  there_is = (found r some now c idle).1

  held_by_it : HasCurrent r.keys q it
  held_by_it = known_of (get nat_eq r.consumers c) it (HasCurrent r.keys q) there_is held

  its_row : {limits : Limits} (t : Tables) → RowsStand limits r t → (v : rows.Consumer) × (t.consumer c ≡ Some v) × IsKept t it v
  its_row t stands = kept_row t it (t.consumer c) (subst (λ o. KeepsConsumer t o (t.consumer c)) there_is (stands.consumers c))

  module _ (span hole : Span) (is : IsPlanOf r now c (plan.FirstHole span hole)) where
    filling_waits : IsWaiting r.keys c it
    filling_waits = waits_there r some now c idle (merely_true (queues it) some (λ s.
        let t = s.t in
        let facts = s.facts in
        let (v, row, kept) = its_row t s.rows in
        filling_queues r t facts s.rows c it v row kept q held_by_it head read now span hole
        (filling r t facts s.rows c it v row kept q held_by_it head read now span hole (is _ t v facts s.rows row))))

    pub filling_passes : IsSomeAnd (get nat_eq r.consumers c) (MayPass r.keys c)
    filling_passes = some_that (get nat_eq r.consumers c) it (MayPass r.keys c) there_is (record { idle = (found r some now c idle).2; waits = filling_waits })

    pub filling_hole : IsSomeAnd head.total (IsWithin hole)
    filling_hole = merely_within head.total hole some (λ s.
        let t = s.t in
        let facts = s.facts in
        let (v, row, kept) = its_row t s.rows in
        filling_within r t facts s.rows c it v row kept q held_by_it head read now span hole
        (filling r t facts s.rows c it v row kept q held_by_it head read now span hole (is _ t v facts s.rows row)) s.numbers (few_received s.received))

    pub filling_alone : admits_first c ((shelf_of r.entries).kept q) ≡ true
    filling_alone = merely_true (admits_first c ((shelf_of r.entries).kept q)) some (λ s.
        let t = s.t in
        let facts = s.facts in
        let (v, row, kept) = its_row t s.rows in
        filling_admits r t facts s.rows c it v row kept q held_by_it head read now span hole
        (filling r t facts s.rows c it v row kept q held_by_it head read now span hole (is _ t v facts s.rows row)) (current_admits r some now c idle q held))

    -- and what is answered
    pub filling_answers : (u : Rows B g) (before out : List Act) →
        IsSomeAnd (get nat_eq r.consumers c) (AnswersFirst r u before out now c (plain head) span hole) → AnswersPoll r u before out now c
    filling_answers u before out answers =
        plan_answers r u before out now c it (plan.FirstHole span hole) there_is (found r some now c idle).2 is (λ want limits t v facts stands row kept move.
        let f = filling r t facts stands c it v row kept q held_by_it head read now span hole (is _ t v facts stands row) in
        let here = at r t facts stands c it v row kept q held_by_it head read now in
        let total = total_is r t facts stands c it v row kept q held_by_it head read now in
        let fields = fields_are r t facts stands c it v row kept q held_by_it head read now in
        let range = range_is r t facts stands c it v row kept q held_by_it head read now in
        let current_is = current_as r t it v q stands kept held_by_it in
        let wants = ap (λ (o : Option RangeSpec). wanted_of o head.total) range ∙ (ap (wanted_of (range_of v.request)) total ∙ f.wants) in
        let asked : hole_request here.p.head v.request hole (unwrap_or here.p.head.total 0) ≡ hole_request (plain head) it.request hole
        (unwrap_or head.total 0) =
        hole_alike here.p.head (plain head) v.request hole (unwrap_or here.p.head.total 0) fields
        ∙ (ap (λ (n : Option ℕ). hole_request (plain head) v.request hole (unwrap_or n 0)) (sym total)
        ∙ ap (λ (z : Request). hole_request (plain head) z hole (unwrap_or head.total 0)) (sym kept.request)) in
        known_of (get nat_eq r.consumers c) it (AnswersFirst r u before out now c (plain head) span hole) there_is answers wants want _ t v facts stands row
        (move ∙ (ap (λ (o : Option Representation). opens_hole t v.request o hole) (ap (row_of t) current_is ∙ here.row)
        ∙ (ap (λ (z : Request). Opens (t.opened + 1) (need.Hole hole.lo hole.hi) z) asked
        ∙ ap (λ (x : ℕ). Opens x (need.Hole hole.lo hole.hi) (hole_request (plain head) it.request hole (unwrap_or head.total 0))) (sym stands.next)))))

  -- a part that it is shown is one
  pub part_there : (why : Why) (span : Option Span) → IsPlanOf r now c (plan.Bind why span) →
      IsSomeAnd (get nat_eq r.consumers c) (IsShownPart (plain head) span)
  part_there why span is =
      some_that (get nat_eq r.consumers c) it (IsShownPart (plain head) span) there_is (λ ranged part reported. merely_within head.total part some (λ s.
      let t = s.t in
      let facts = s.facts in
      let (v, row, kept) = its_row t s.rows in
      part_within r t facts s.rows c it v row kept q held_by_it head read now s.numbers (few_received s.received) why span (is _ t v facts s.rows row)
      ranged part reported))
