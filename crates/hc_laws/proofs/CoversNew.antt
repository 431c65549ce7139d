-- Who becomes bound as the only one has all up to where its exchange goes on: nothing, or what is before its hole.
--
-- A part that founds begins where its consumer reads (`IsPartFrom`, `begins_by`), and a whole body at its first
-- position. So the front of what its head founds is at most there (`whole`, `part`, `founds_within`). A first hole
-- begins no earlier than its consumer reads (`hole_begins`), and all of the span before it is stored. CoversKept takes
-- these for who becomes bound now; the law of fronts uses `founds_from`.
use Rattle.std.{proofs.{Common.{◌≡◌, ℕ, ◌-◌, ◌≤◌, [], Bool, true, false, Option, Some, None, refl, ap, sym, ◌∙◌, subst, arith, min}, lemmas.Bool.Decides.{nat_tests}}, specs.Prelude.{is_some, is_none}}
use Rattle.hc_text.proofs.Basics.{and_right, not_some as none_some, same_some as same_row, some_inj}
use Rattle.hc_sparse.specs.Cells.{Covers}
use Rattle.hc_range.specs.{declared.range.{RangeSpec.{RangeSpec}, ContentRange.{ContentRange}, Span.{Span}}, Spans.{resolved_span}}
use Rattle.hc_effects.proofs.Vocabulary.{brings_part, brings_whole, range, need, event, case, route, wanted, Opening, opening_in, Need, Request, Response, HeadCase, Length, fits_to_found, fits_part, begins_at, length_of, base_of, promise_of, route_of, content_range_of, range_of, wanted_of, wanted_part, BoundBy, has_loss, case_at, head_view, fits_asker, consumer_heard, waiting, current, Entry, base, front, length_by, founded_total, first_hole, absent_from, entry_of, bound_to, hole_start, Tables, Exchange, Representation, Consumer, after_accepted}
use Rattle.hc_effects.proofs.{Basics.{false_true}, BoundFrom.{IsRow, IsInterval, IsFounded, IsFirstHole}, ExchangeFrom.{IsSame, IsHeaded}, FirstKeeps.{case_of_head, whole_brings, replaced_brings, is_new, is_opener}, FoundBy.{founds_range, CaseBy}, HoleLemmas.{first_before, first_from, some_of}, HolesOpened.{first_hole_is}, OwnersKeep.{is_opened}, PartReported.{IsReceived, part_reported, whole_base}, PollKeeps.{current_stays}, EndsKeep.{interval_inj}, Step.{Step}}
use Rattle.hc_effects.proofs.BoundFrom as from
use Rattle.hc_effects.proofs.OpenedAs as opened
use Rattle.hc_rules.proofs.Statuses.{whole_is_no_part}

pub head_inj : (a d : ℕ) (f g : Response) → event.Head a f ≡ event.Head d g → f ≡ g
head_inj a d f g is = cc

-- A PART BEGINS WHERE ITS CONSUMER READS

pub record IsPartFrom (response : Response) (lo : ℕ) : Type 0 where
  pub first : ℕ
  pub last : ℕ
  pub total : ℕ
  pub reported : content_range_of response.fields ≡ Some (range.Part first last (Some total))
  pub starts : first ≡ lo

begins_by : (first last : ℕ) (span : Span) (q : Option Span) → begins_at q first last ≡ true → wanted_part q ≡ wanted.Interval span → first ≡ span.lo
begins_by first last span q h is = grind (arith, nat_tests)

module _ (k : Consumer) (w : Exchange) (response : Response) (lo : ℕ) (hi : Option ℕ) (status : brings_part response.status ≡ true)
    (i : IsInterval (wanted_of (range_of k.request) (founded_total w response)) lo hi) where
  part_by : (asked : RangeSpec) (z : Option ContentRange) → range_of k.request ≡ Some asked → content_range_of response.fields ≡ z →
      fits_part asked z ≡ true → IsPartFrom response lo
  part_by asked (Some (range.Part first last (Some total))) is at h =
      let reported : founded_total w response ≡ Some total = rw (status, at) refl in
      let wants : wanted_part (resolved_span asked total) ≡ wanted.Interval i.span =
      sym (ap (λ q. wanted_of q (founded_total w response)) is ∙ ap (wanted_of (Some asked)) reported) ∙ i.wanted_is in
      record { first = first; last = last; total = total; reported = at; starts = begins_by first last i.span (resolved_span asked total) h wants ∙ i.from }
  part_by asked _ is at h = absurd (false_true h)

  fits_by : (z : Option RangeSpec) → range_of k.request ≡ z → fits_to_found z response ≡ true → IsPartFrom response lo
  fits_by None is h = absurd (false_true h)
  fits_by (Some asked) is h = part_by asked (content_range_of response.fields) is refl (and_right _ _ h)

base_by : (first last : ℕ) (l : Length) → IsReceived first last l → base_of l ≤ first
base_by first last l it3 = grind (arith, nat_tests)

module _ (step : Step) where
  open step use {limits, tables as t, now, flaw, sound as s, event as ev, accepted as goes}

  abbrev e : Entry
  e = entry_of limits t now ev flaw

  abbrev now_on : Tables
  now_on = after_accepted t e

  -- WHAT ITS HEAD FOUNDS

  module _ (c r lo : ℕ) (hi : Option ℕ) (how : BoundBy) (x : ℕ) (response : Response) (w z : Exchange) (k : Consumer) (here : ev ≡ event.Head x response)
      (exchange_row : t.exchange x ≡ Some w) (mine : w.c ≡ c) (row : t.consumer c ≡ Some k) (same : IsSame t e x w z) (got : IsHeaded t e x w z) where
    abbrev view : Rattle.hc_rules.specs.declared.heads.HeadView.HeadView
    view = head_view t (has_loss e.acts) w response

    from_base : base_of (length_of w.need w.request response) ≤ lo → front z ≤ lo
    from_base le =
        let answer : got.response ≡ response = head_inj x x got.response response (sym got.at ∙ here) in
        let reported_is : length_by z z.head ≡ length_of w.need w.request response = ap (length_by z) got.head_is ∙
        (ap (λ (n : Need). length_of n z.request got.response) same.need_is ∙
        (ap (λ (q : Request). length_of w.need q got.response) same.request_is ∙ ap (length_of w.need w.request) answer)) in
        let first : base z ≡ base_of (length_of w.need w.request response) = ap base_of reported_is in
        let empty : z.body ≡ [] = got.body_is ∙
        (s.waits.headless x w exchange_row (is_new limits t now flaw s ev goes x response w here exchange_row).bare).0 in
        grind (arith, nat_tests)

    whole : brings_whole response.status ≡ true → front z ≤ lo
    whole status = grind (arith, nat_tests, whole_is_no_part, whole_base, from_base)

    part : CaseBy view case.FoundsRange → IsInterval (wanted_of (range_of k.request) (founded_total w response)) lo hi → front z ≤ lo
    part (founds_range way status fits kept good) i =
        let p = fits_by k w response lo hi status i (range_of k.request) refl (sym (ap (λ q. fits_asker q response) (ap t.consumer mine ∙ row)) ∙ fits) in
        let le : base_of (length_of w.need w.request response) ≤ p.first =
        base_by p.first p.last _
        (part_reported w.need w.request response p.first p.last p.total (λ past. let no : route.Turn ≡ route.Direct = sym way ∙ past in cc) status
        p.reported good) in
        from_base (omega arith)

    by_founded : (g : Option HeadCase) → case_at t e ≡ g → IsFounded t e c r lo hi how x response w k g → front z ≤ lo
    by_founded _ is (from.whole a b) = whole (whole_brings t (has_loss e.acts) w response (case_of_head t e x response w case.FoundsWhole here exchange_row is))
    by_founded _ is (from.replaced a b) =
        whole (replaced_brings t (has_loss e.acts) w response (case_of_head t e x response w case.FirstReplaced here exchange_row is))
    by_founded _ is (from.part i) = part (case_of_head t e x response w case.FoundsRange here exchange_row is) i

    -- and no later, where it is open then
    from_part : (first last : ℕ) (l : Length) → first ≡ lo → (promise_of l ≡ Some 0 → ⊥) → IsReceived first last l → lo ≤ base_of l
    from_part first last l starts unmet it5 = grind (arith, nat_tests)

    part_from : (promise_of (length_of w.need w.request response) ≡ Some 0 → ⊥) → CaseBy view case.FoundsRange →
        IsInterval (wanted_of (range_of k.request) (founded_total w response)) lo hi → lo ≤ front z
    part_from unmet (founds_range way status fits kept good) i =
        let p = fits_by k w response lo hi status i (range_of k.request) refl (sym (ap (λ q. fits_asker q response) (ap t.consumer mine ∙ row)) ∙ fits) in
        let le : lo ≤ base_of (length_of w.need w.request response) =
        from_part p.first p.last _ p.starts unmet
        (part_reported w.need w.request response p.first p.last p.total (λ past. let no : route.Turn ≡ route.Direct = sym way ∙ past in cc) status
        p.reported good) in
        grind (arith, nat_tests)

    begins_by_case : (promise_of (length_of w.need w.request response) ≡ Some 0 → ⊥) → (g : Option HeadCase) → case_at t e ≡ g →
        IsFounded t e c r lo hi how x response w k g → lo ≤ front z
    begins_by_case unmet _ is (from.whole a b) = let zero_is : lo ≡ 0 = a in omega arith
    begins_by_case unmet _ is (from.replaced a b) = let zero_is : lo ≡ 0 = a in omega arith
    begins_by_case unmet _ is (from.part i) = part_from unmet (case_of_head t e x response w case.FoundsRange here exchange_row is) i

    pub founds_from : (promise_of (length_of w.need w.request response) ≡ Some 0 → ⊥) → IsFounded t e c r lo hi how x response w k (case_at t e) → lo ≤ front z
    founds_from unmet all = begins_by_case unmet (case_at t e) refl all

    pub founds_within : IsFounded t e c r lo hi how x response w k (case_at t e) → front z ≤ lo
    founds_within all = by_founded (case_at t e) refl all

  -- BEFORE A FIRST HOLE

  -- what stands before the first hole of a span is stored
  before_hole : (v : Representation) (span hole : Span) → first_hole v.stored v.reach span ≡ Some hole → Covers v.stored span.lo hole.lo
  before_hole v span hole found d from_lo lt =
      let at : hole.lo ≡ absent_from v.stored v.reach span.lo span.hi = ap (λ (a : Span). a.lo) (first_hole_is v.stored v.reach span hole found) in
      some_of (v.stored d) (first_before is_none v.stored span.lo (min span.hi v.reach - span.lo) d from_lo (omega arith))

  module _ (c r lo : ℕ) (hi : Option ℕ) (how : BoundBy) (k u : Consumer) (q : Opening) (row : IsRow t e c r lo hi how k u)
      (opens : opening_in e.acts ≡ Some q) (mine : q.c ≡ c) (free : bound_to (waiting t e c (consumer_heard t e c ev k)).place ≡ None)
      (way : route_of q.need ≡ route.Hole) (hole : IsFirstHole t e c r lo hi how q (waiting t e c (consumer_heard t e c ev k))) where
    stored_body : (v : Representation) (a b : ℕ) → t.representation r ≡ Some v → v.is_gone ≡ false → Covers v.stored a b → Covers v.body a b
    stored_body v a b there not_gone all d from_a lt = by_test v.is_lost refl
      where
        by_test : (z : Bool) → v.is_lost ≡ z → is_some (v.body d) ≡ true
        by_test z lost = grind (arith, nat_tests)

    -- it is a hole of what its consumer reads, and all before it is there
    abbrev FillsFrom : Representation → Type 0
    FillsFrom v = (lo ≤ hole_start q.need) × Covers v.body lo (hole_start q.need)

    filled : (v : Representation) (span gap : Span) → t.representation r ≡ Some v → v.is_gone ≡ false →
        wanted_of (range_of k.request) v.head.total ≡ wanted.Interval span → first_hole v.stored v.reach span ≡ Some gap →
        q.need ≡ need.Hole gap.lo gap.hi → wanted_of (range_of k.request) v.head.total ≡ wanted.Interval hole.interval.span → FillsFrom v
    filled v span gap there not_gone wants found need_is also =
        let start : hole_start q.need ≡ gap.lo = ap hole_start need_is in
        let same : span.lo ≡ hole.interval.span.lo = ap (λ (a : Span). a.lo) (interval_inj span hole.interval.span (sym wants ∙ also)) in
        let at : gap.lo ≡ absent_from v.stored v.reach span.lo span.hi = ap (λ (a : Span). a.lo) (first_hole_is v.stored v.reach span gap found) in
        let later : span.lo ≤ absent_from v.stored v.reach span.lo span.hi = first_from is_none v.stored span.lo (min span.hi v.reach - span.lo) in
        (omega arith, λ d from_lo lt. stored_body v span.lo gap.lo there not_gone (before_hole v span gap found) d (omega arith) (omega arith))

    by_way : t.consumer c ≡ Some k → opened.Way t now c k q.need → consumer_heard t e c ev k ≡ k → bound_to k.place ≡ None → FillsFrom hole.v
    by_way there (opened.passes_by unbound past) heard none = absurd (let no : route.Direct ≡ route.Hole = sym past ∙ way in cc)
    by_way there (opened.fetches unbound turn cached) heard none = absurd (let no : route.Turn ≡ route.Hole = sym turn ∙ way in cc)
    by_way there (opened.goes_on a b d f at hole_way) heard none = absurd (none_some a (sym none ∙ ap bound_to at))
    by_way there (opened.fills a v span gap unbound hole_way is_current v_row wants found need_is cached) heard none =
        let request_is : (consumer_heard t e c ev k).request ≡ k.request = ap (λ (z : Consumer). z.request) heard in
        let number : a ≡ r = some_inj a r (sym is_current ∙ (sym (ap (λ (z : Request). current t z.key) request_is) ∙ hole.current_is)) in
        let one : v ≡ hole.v = same_row (t.representation r) v hole.v (sym (ap t.representation number) ∙ v_row) hole.row in
        let not_gone = current_stays t _ r hole.v hole.current_is hole.row in
        let also : wanted_of (range_of k.request) hole.v.head.total ≡ wanted.Interval hole.interval.span =
        sym (ap (λ (z : Request). wanted_of (range_of z) hole.v.head.total) request_is) ∙ hole.interval.wanted_is in
        filled hole.v span gap hole.row not_gone (sym (ap (λ (z : Representation). wanted_of (range_of k.request) z.head.total) one) ∙ wants)
        (sym (ap (λ (z : Representation). first_hole z.stored z.reach span) one) ∙ found) need_is also

    fills : FillsFrom hole.v
    fills =
        let opener = is_opener limits t now flaw s ev goes c k q row.row opens mine in
        let by_poll = is_opened step q opens in
        let one : by_poll.k ≡ k = same_row (t.consumer c) by_poll.k k (sym (ap t.consumer mine) ∙ by_poll.row) row.row in
        let way_k : opened.Way t now c k q.need =
        subst (λ (z : Consumer). opened.Way t now c z q.need) one (subst (λ d. opened.Way t now d by_poll.k q.need) mine by_poll.way.way) in
        by_way row.row way_k opener.heard_is (sym (ap bound_to opener.place_is) ∙ free)

    pub hole_begins : lo ≤ hole_start q.need
    hole_begins = fills.0

    pub hole_covers : Covers hole.v.body lo (hole_start q.need)
    hole_covers = fills.1
