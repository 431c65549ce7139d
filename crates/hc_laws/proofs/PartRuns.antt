-- A part that is read isn't empty, and who founded with the whole reads all of it, in every run.
--
-- By how its reader became bound. At a first hole the interval is one that is wanted of a range that is read, so it
-- isn't empty (`interval_some`, `first_by`). What is founded has the status and the length that its head tells
-- (`founded_row`), and keeps them (`kept_row`). So who founds by a part reads a part that isn't empty (`part_by`), and
-- else all of it (`whole_by`). `parts_kept` joins these, and `parts_in_runs` is the law.
use Rattle.std.{proofs.Common.{◌≡◌, inl, inr, ℕ, ◌<◌, Bool, true, false, Option, Some, None, refl, ap, sym, ◌∙◌, arith}, specs.{Prelude.{is_some}, Option.{option_or}}}
use Rattle.hc_text.proofs.Basics.{not_some as none_some, same_some as same_row, some_inj}
use Rattle.hc_effects.proofs.Vocabulary.{brings_part, brings_whole, Event, Request, Response, HeadCase, Limits, range_of, wanted_of, BoundBy, has_loss, case_at, head_view, consumer_heard, waiting, denial, Entry, promise_in, Flaw, founded_total, entry_of, OfRuns, OfRunsIn, Parts, is_ranged, length_in, Tables, Exchange, Representation, Consumer, Sound, after_accepted, event, case, by, place}
use Rattle.hc_model.specs.Sound as sound
use Rattle.hc_effects.proofs.{Basics.{false_true, some_row}, BoundFrom.{BoundFrom, IsRow, IsFounded, IsInterval, bound_from}, Bounded.{range_order}, ConsumerFilters.{acted, heard_same}, FirstKeeps.{case_of_head, whole_brings, replaced_brings, is_new}, FoundBy.{founds_range, CaseBy}, RepFrom.{RepFrom, rep_from}, WantedSpans.{wanted_some}}
use Rattle.hc_effects.proofs.BoundFrom as from
use Rattle.hc_effects.proofs.RepFrom as rep
use Rattle.hc_laws.proofs.{RunFacts.{in_runs}, CoversNew.{head_inj}}
use Rattle.hc_rules.proofs.Statuses.{whole_is_no_part, whole_or_part}

-- A RANGE THAT IS READ

interval_some : (request : Request) (o : Option ℕ) (lo hi : ℕ) → is_some (range_of request) ≡ true →
    IsInterval (wanted_of (range_of request) o) lo (Some hi) → lo < hi
interval_some request o lo hi on i =
    let lt : i.span.lo < i.span.hi = wanted_some (range_of request) o i.span on (range_order request) i.wanted_is in
    let last : i.span.hi ≡ hi = some_inj i.span.hi hi i.to in
    omega arith

-- AN ENTRY

range_brings : (t : Tables) (lost : Bool) (w : Exchange) (response : Response) → CaseBy (head_view t lost w response) case.FoundsRange →
    brings_part response.status ≡ true
range_brings t lost w response (founds_range way status fits kept good) = status

whole_total : (w : Exchange) (response : Response) → brings_whole response.status ≡ true → founded_total w response ≡ promise_in w response
whole_total w response status = rw (whole_is_no_part response.status status) refl

hole_founding : (y : ℕ) → by.FirstHole y ≡ by.Founding → ⊥
hole_founding y is = cc

founding_plan : by.Founding ≡ by.Plan → ⊥
founding_plan is = cc

module _ (limits : Limits) (t : Tables) (now : ℕ) (flaw : Flaw) (s : Sound t) (p : Parts t) (ev : Event) (goes : denial t ev ≡ None) where
  abbrev e : Entry
  e = entry_of limits t now ev flaw

  abbrev now_on : Tables
  now_on = after_accepted t e

  request_is : (c r lo : ℕ) (hi : Option ℕ) (how : BoundBy) (k u : Consumer) → IsRow t e c r lo hi how k u → u.request ≡ k.request
  request_is c r lo hi how k u row = ap (λ (z : Consumer). z.request) (sym row.is) ∙ (acted t e c k).request_is

  ranged : (k u : Consumer) → u.request ≡ k.request → is_ranged u ≡ true → is_ranged k ≡ true
  ranged k u same on = ap (λ (q : Request). is_some (range_of q)) (sym same) ∙ on

  -- WHO FILLED A FIRST HOLE

  first_by : (c r lo hi y : ℕ) (u : Consumer) → is_ranged u ≡ true → BoundFrom t e c r lo (Some hi) (by.FirstHole y) u → lo < hi
  first_by c r lo hi y u on (from.stays k row at) = p.first c r lo hi y k row.row at (ranged k u (request_is c r lo (Some hi) (by.FirstHole y) k u row) on)
  first_by c r lo hi y u on (from.founds k x response w row here exchange_row mine of_r by_is all) = absurd (hole_founding y by_is)
  first_by c r lo hi y u on (from.opens k o row is mine free way hole) =
      let h = waiting t e c (consumer_heard t e c ev k) in
      interval_some h.request hole.v.head.total lo hi
      (ranged h u (request_is c r lo (Some hi) (by.FirstHole y) k u row ∙ sym (heard_same t e c ev k).request_is) on) hole.interval
  first_by c r lo hi y u on (from.shows k z row is all) = absurd cc

  -- WHO FOUNDED

  -- the row of what an exchange founds
  founded_row : (r x : ℕ) (response : Response) (w : Exchange) (v : Representation) → ev ≡ event.Head x response → t.exchange x ≡ Some w → x ≡ r →
      now_on.representation r ≡ Some v → (v.head.status ≡ response.status) × (v.head.total ≡ founded_total w response)
  founded_row r x response w v here row of_r there = by_from (rep_from t e r (t.representation r) v refl there)
    where
      none : t.representation r ≡ None
      none = ap t.representation (sym of_r) ∙ s.numbered.names.unfounded x w row (is_new limits t now flaw s ev goes x response w here row).bare

      by_from : RepFrom t e r v → (v.head.status ≡ response.status) × (v.head.total ≡ founded_total w response)
      by_from (rep.was q kept) = absurd (none_some q (sym none ∙ kept.row))
      by_from (rep.founded answer z absent at exchange on is) =
          let same : answer ≡ response = head_inj r x answer response (sym at ∙ here) in
          let one : z ≡ w = same_row (t.exchange r) z w exchange (sym (ap t.exchange of_r) ∙ row) in
          let status : v.head.status ≡ answer.status = ap (λ (q : Representation). q.head.status) (sym is) in
          let total : v.head.total ≡ founded_total z answer = ap (λ (q : Representation). q.head.total) (sym is) in
          (status ∙ ap (λ (q : Response). q.status) same, total ∙ (ap (λ (q : Exchange). founded_total q answer) one ∙ ap (founded_total w) same))

  -- what was there keeps its status, and its length where that is known
  kept_row : (r : ℕ) (v u : Representation) → t.representation r ≡ Some v → now_on.representation r ≡ Some u → (u.head.status ≡ v.head.status) ×
      ((n : ℕ) → v.head.total ≡ Some n → u.head.total ≡ Some n)
  kept_row r v u row there = by_from (rep_from t e r (t.representation r) u refl there)
    where
      by_from : RepFrom t e r u → (u.head.status ≡ v.head.status) × ((n : ℕ) → v.head.total ≡ Some n → u.head.total ≡ Some n)
      by_from (rep.was q kept) =
          let one : q ≡ v = same_row (t.representation r) q v kept.row row in (
            kept.status_is ∙ ap (λ (z : Representation). z.head.status) one,
            λ n known. elim kept.total_is [
              | inl same ↦ same ∙ (ap (λ (z : Representation). z.head.total) one ∙ known)
              | inr ended ↦ ended.total_is ∙ (ap (λ (z : Representation). option_or z.head.total (Some (length_in (t.exchange r)))) one ∙ rw known refl)
            ],
          )
      by_from (rep.founded answer z absent at exchange on is) = absurd (none_some v (sym absent ∙ row))

  was_there : (c r lo hi : ℕ) (k : Consumer) → t.consumer c ≡ Some k → k.place ≡ place.Bound r lo (Some hi) by.Founding → (v : Representation) ×
      (t.representation r ≡ Some v)
  was_there c r lo hi k row at = some_row (t.representation r) (s.numbered.bound_to r c k (sound.is_bound lo (Some hi) by.Founding row at))

  part_by : (c r lo hi : ℕ) (u : Consumer) (v : Representation) → now_on.representation r ≡ Some v → brings_part v.head.status ≡ true →
      is_ranged u ≡ true → BoundFrom t e c r lo (Some hi) by.Founding u → lo < hi
  part_by c r lo hi u v there status on (from.stays k row at) =
      let was = was_there c r lo hi k row.row at in
      p.founded c r lo hi k was.0 row.row at was.1 (sym (ap brings_part (kept_row r was.0 v was.1 there).0) ∙ status)
      (ranged k u (request_is c r lo (Some hi) by.Founding k u row) on)
  part_by c r lo hi u v there status on (from.founds k x response w row here exchange_row mine of_r by_is all) = by_case (case_at t e) refl all
    where
      never : brings_whole response.status ≡ true → lo < hi
      never is = absurd (whole_or_part v.head.status (ap brings_whole (founded_row r x response w v here exchange_row of_r there).0 ∙ is) status)

      by_case : (g : Option HeadCase) → case_at t e ≡ g → IsFounded t e c r lo (Some hi) by.Founding x response w k g → lo < hi
      by_case _ is (from.whole a b) = never (whole_brings t (has_loss e.acts) w response (case_of_head t e x response w case.FoundsWhole here exchange_row is))
      by_case _ is (from.replaced a b) =
          never (replaced_brings t (has_loss e.acts) w response (case_of_head t e x response w case.FirstReplaced here exchange_row is))
      by_case _ is (from.part i) = interval_some k.request _ lo hi (ranged k u (request_is c r lo (Some hi) by.Founding k u row) on) i
  part_by c r lo hi u v there status on (from.opens k o row is mine free way hole) = absurd (hole_founding o.x (sym hole.by_is))
  part_by c r lo hi u v there status on (from.shows k z row is all) = absurd (founding_plan all.by_is)

  whole_by : (c r lo hi : ℕ) (u : Consumer) (v : Representation) → now_on.representation r ≡ Some v → brings_part v.head.status ≡ false →
      BoundFrom t e c r lo (Some hi) by.Founding u → v.head.total ≡ Some hi
  whole_by c r lo hi u v there status (from.stays k row at) =
      let was = was_there c r lo hi k row.row at in
      let kept = kept_row r was.0 v was.1 there in
      kept.1 hi (p.whole c r lo hi k was.0 row.row at was.1 (sym (ap brings_part kept.0) ∙ status))
  whole_by c r lo hi u v there status (from.founds k x response w row here exchange_row mine of_r by_is all) = by_case (case_at t e) refl all
    where
      founded : (v.head.status ≡ response.status) × (v.head.total ≡ founded_total w response)
      founded = founded_row r x response w v here exchange_row of_r there

      by_case : (g : Option HeadCase) → case_at t e ≡ g → IsFounded t e c r lo (Some hi) by.Founding x response w k g → v.head.total ≡ Some hi
      by_case _ is (from.whole a b) = founded.1 ∙
          (whole_total w response (whole_brings t (has_loss e.acts) w response (case_of_head t e x response w case.FoundsWhole here exchange_row is)) ∙ sym b)
      by_case _ is (from.replaced a b) = founded.1 ∙
          (whole_total w response (replaced_brings t (has_loss e.acts) w response (case_of_head t e x response w case.FirstReplaced here exchange_row is))
          ∙ sym b)
      by_case _ is (from.part i) =
          absurd (false_true (sym status ∙
          (ap brings_part founded.0 ∙ range_brings t (has_loss e.acts) w response (case_of_head t e x response w case.FoundsRange here exchange_row is))))
  whole_by c r lo hi u v there status (from.opens k o row is mine free way hole) = absurd (hole_founding o.x (sym hole.by_is))
  whole_by c r lo hi u v there status (from.shows k z row is all) = absurd (founding_plan all.by_is)

  parts_kept : Parts now_on
  parts_kept = record {
    first = λ c r lo hi y u after at on. first_by c r lo hi y u on (bound_from t e c r lo (Some hi) (by.FirstHole y) (t.consumer c) u refl after at);
    founded = λ c r lo hi u v after at there status on. part_by c r lo hi u v there status on
        (bound_from t e c r lo (Some hi) by.Founding (t.consumer c) u refl after at);
    whole = λ c r lo hi u v after at there status. whole_by c r lo hi u v there status
        (bound_from t e c r lo (Some hi) by.Founding (t.consumer c) u refl after at);
  }

-- IN RUNS

record HasParts (limits : Limits) (t : Tables) : Type 0 where
  parts : Parts t

has_parts : OfRunsIn HasParts
has_parts = in_runs HasParts
    (λ limits contents may. record {
      parts = record {
        first = λ c r lo hi y k row at on. absurd (none_some k row);
        founded = λ c r lo hi k v row at there status on. absurd (none_some k row);
        whole = λ c r lo hi k v row at there status. absurd (none_some k row);
      };
    })
    (λ limits t e later h. record { parts = record { first = h.parts.first; founded = h.parts.founded; whole = h.parts.whole } })
    (λ limits t now flaw later c h ev goes real. record { parts = parts_kept limits t now flaw c.is_sound h.parts ev goes })

pub parts_in_runs : OfRuns Parts
parts_in_runs limits contents h may run = (has_parts limits contents h may run).parts
