-- No wait goes in a circle, in any run: a reader past the store waits for nobody, and a busy one for a reader.
--
-- Who reads past the store waits for no other consumer: it is shown its head, or waits for that (`by_past`,
-- `direct_goes`). Who waits for a busy one waits for the exclusive writer or the least reader of what is current
-- (`by_busy`). There is such a reader: what is busy is written for several, or has no known length, so that it is being
-- written (`unknown_in_runs`). `waits_end` joins these for `waits_in_runs`.
use Rattle.std.{proofs.Common.{◌≡◌, ◌≢◌, ◌⊎◌, inl, inr, ℕ, List, [], ◌∷◌, true, Option, Some, None, refl, ap, sym, ◌∙◌, subst}, specs.{Prelude.{is_some}, Option.{option_and_then}}}
use Rattle.hc_effects.proofs.Vocabulary.{Wait, Response, Candidate, least, range_of, wanted_of, current, is_headless, OfRuns, WaitsEnd, WaitsForNobody, Owners, IsPast, plan_view, move_of, shows_at, shows_answer, shows_direct, if_headless, is_written, bound, own_open, Tables, Exchange, Representation, Consumer, Sound, IsBound, tables, wait, wanted, place}
use Rattle.hc_model.specs.Moves as moves
use Rattle.hc_model.specs.Owners as owners
use Rattle.hc_effects.proofs.{AboutKeeps.{own_open_is}, Basics.{false_true, some_none}, Exclusives.{exclusive_parts}, HadKeeps.{among_least}, HasBound.{reader_of}, PollKeeps.{current_stays}, Said.{WaitsAs}, ShownFrom.{IsCandidate, candidate_is}, WaitedAs.{IsForOthers, waited_as}, Step.{step_of}}
use Rattle.hc_laws.proofs.{BusyPlans.{BusyBy, busy_by}, Going.{turns_go, readers_go}, InRuns.{turned_in_runs}, RunFacts.{in_runs}, SoundRuns.{IsCarried, carried}, Unknowns.{Unknown, unknown_begun, unknown_denied, unknown_kept}}
use Rattle.hc_laws.proofs.BusyPlans as busy
use Rattle.hc_effects.proofs.Said as said
use Rattle.hc_effects.proofs.WaitedAs as waited

some_answer : (t : Tables) (x : ℕ) (w : Exchange) (o : Option Response) → is_some o ≡ true → shows_answer t x w o ≡ None → ⊥
some_answer t x w None there h = false_true there
some_answer t x w (Some response) there h = some_none _ h

-- PAST THE STORE

module _ (t : Tables) (s : Sound t) (o : Owners t) (now c want x : ℕ) (k : Consumer) (row : t.consumer c ≡ Some k) (at : k.place ≡ place.Direct x) where
  direct_not : (z : Wait) → IsForOthers z → move_of t now want c k ≡ moves.Waits z → ⊥
  direct_not z others is = by_past (o.past c x k row at w.unshown)
    where
      w : waited.WaitedAs t now c k z
      w = waited_as t now c k z others want s row (subst (WaitsAs z) (sym is) said.waits)

      by_past : IsPast t x k → ⊥
      by_past (owners.answered q q_row headed) = some_answer t x q q.head headed (ap (shows_direct t x) (sym q_row) ∙ (ap (shows_at t k) (sym at) ∙ w.none))
      by_past (owners.waits q own q_row opened bare) =
          let open_is : own_open t k ≡ Some x = own_open_is t k x (record { own = own; w = q; row = q_row; opened = opened }) in
          let headless : is_headless (t.exchange x) ≡ true = ap is_headless q_row ∙ rw (opened, bare) refl in
          let none : option_and_then (if_headless t) (Some x) ≡ None = ap (option_and_then (if_headless t)) (sym open_is) ∙ w.heard in
          some_none x (rw headless at none)

  direct_goes : WaitsForNobody t now want c k
  direct_goes = record { turn = λ d is. direct_not (wait.Turn d) (waited.turn d) is; busy = λ d is. direct_not (wait.Busy d) (waited.busy d) is }

-- WHAT IS READ

module _ (t : Tables) (s : Sound t) (unknown : Unknown t) where
  is_read : (key : List ℕ) (r : ℕ) (v : Representation) → current t key ≡ Some r → t.representation r ≡ Some v →
      (v.head.total ≡ None) ⊎ (is_written t v ≡ true) → bound t r ≢ []
  is_read key r v current_is row (inl none) = s.writes.has_bound r v row (unknown r v row (current_stays t key r v current_is row) none).written
  is_read key r v current_is row (inr on) = s.writes.has_bound r v row on

  none_least : (ns : List ℕ) → least ns ≡ None → ns ≡ []
  none_least [] h = refl
  none_least (n ∷ ns) h = absurd (by_rest (least ns) h)
    where
      by_rest : (q : Option ℕ) → Rattle.hc_rules.specs.Admissions.lesser q n ≡ None → ⊥
      by_rest None h = some_none n h
      by_rest (Some a) h = some_none _ h

  unknown_span : (range : Option Rattle.hc_range.specs.declared.range.RangeSpec.RangeSpec) (total : Option ℕ) → wanted_of range total ≡ wanted.TotalUnknown →
      total ≡ None
  unknown_span range None h = refl
  unknown_span None (Some total) h = absurd (let no : wanted.Interval _ ≡ wanted.TotalUnknown = h in cc)
  unknown_span (Some asked) (Some total) h = absurd (part_not (Rattle.hc_range.specs.Spans.resolved_span asked total) h)
    where
      part_not : (q : Option Rattle.hc_range.specs.declared.range.Span.Span) → Rattle.hc_rules.specs.Requests.wanted_part q ≡ wanted.TotalUnknown → ⊥
      part_not None h = let no : wanted.Unsatisfiable ≡ wanted.TotalUnknown = h in cc
      part_not (Some span) h = let no : wanted.Interval span ≡ wanted.TotalUnknown = h in cc

  module _ (now c d : ℕ) (k : Consumer) where
    abbrev Reads : Type 0
    Reads = (r : ℕ) × (u : Consumer) × IsBound t r d u

    exclusive_at : (z : Candidate) → (plan_view t now c k).current ≡ Some z → (a : IsCandidate t k z) →
        z.exclusive ≡ Rattle.hc_model.specs.Writers.exclusive t a.r a.v → z.exclusive ≡ Some d → Reads
    exclusive_at z current_is a same is = let x = exclusive_parts t a.r d a.v (sym same ∙ is) in (a.r, x.k, x.reader)

    by_busy : BusyBy (plan_view t now c k) d → Reads
    by_busy (busy.least z current_is is) =
        let a = candidate_is t now c k z current_is in
        let reader = reader_of t a.r d (among_least (bound t a.r) d (sym a.least_is ∙ is)) in
        (a.r, reader.0, reader.1)
    by_busy (busy.writer z current_is is) = let a = candidate_is t now c k z current_is in exclusive_at z current_is a a.exclusive_is is
    by_busy (busy.nobody z current_is none why) =
        let a = candidate_is t now c k z current_is in
        absurd (is_read k.request.key a.r a.v a.current_is a.row (by_why a why) (none_least (bound t a.r) (sym a.least_is ∙ none)))
      where
        by_why : (a : IsCandidate t k z) → (z.span ≡ wanted.TotalUnknown) ⊎ (z.writer_group ≡ true) → (a.v.head.total ≡ None) ⊎ (is_written t a.v ≡ true)
        by_why a (inl span) = inl (unknown_span (range_of k.request) a.v.head.total (sym a.span_is ∙ span))
        by_why a (inr writer_group) = inr (sym a.writer_group_is ∙ writer_group)

    busy_reads : (want : ℕ) → t.consumer c ≡ Some k → move_of t now want c k ≡ moves.Waits (wait.Busy d) → Reads
    busy_reads want row is =
        let plan = (waited_as t now c k (wait.Busy d) (waited.busy d) want s row (subst (WaitsAs (wait.Busy d)) (sym is) said.waits)).plan_is d refl in
        by_busy (busy_by (plan_view t now c k) d plan.kept plan.is)

-- IN RUNS

-- what isn't gone and has no known length is being written
pub unknown_in_runs : OfRuns Unknown
unknown_in_runs = in_runs (λ limits t. Unknown t) (λ limits contents may. unknown_begun limits contents may)
    (λ limits t e later unknown. unknown_denied t e unknown)
    (λ limits t now flaw later c unknown ev goes real. unknown_kept (step_of limits t now flaw c.is_sound c.is_owned ev goes) c.is_measured unknown real)

waits_end : (t : Tables) → IsCarried t → Rattle.hc_model.specs.Laws.Turns t → Unknown t → WaitsEnd t
waits_end t c turns unknown = record {
  turn_goes = λ now d want a k row has. turns_go t c.is_sound turns now d want a k row has;
  reader_goes = λ now d want r k reader. readers_go t c.is_sound turns now d want r k reader;
  direct_goes = λ now d want x k row at. direct_goes t c.is_sound c.is_owned now d want x k row at;
  busy_reads = λ now d want a k row is. busy_reads t c.is_sound unknown now d a k want row is;
  is_read = λ key r v current_is row why. is_read t c.is_sound unknown key r v current_is row why;
}

-- No wait goes in a circle, in any run.
pub waits_in_runs : OfRuns WaitsEnd
waits_in_runs limits contents h may run =
    waits_end (tables contents h) (carried limits contents h may run) (turned_in_runs limits contents h may run).turns
    (unknown_in_runs limits contents h may run)
