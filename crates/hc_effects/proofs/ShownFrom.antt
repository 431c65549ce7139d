-- Whoever is shown a head by its plan is shown what is current: all that its writing brings, or what is stored.
--
-- What a plan sees is what is current for the key (`IsCandidate`, `candidate_is`). Two plans show a head: one joins a
-- writing, where all of that is wanted (`joined`). The other reads an interval that is stored, where nobody writes it
-- alone (`read`). No other plan does (`by_plan`). Who reads nothing yet is shown a head by its plan alone (`by_move`).
-- `shown_from` says that of the move; laws of readers use it.
use Rattle.std.{proofs.{lemmas.Bool.Decides.{nat_tests}, Common.{arith, ◌≡◌, ℕ, ◌+◌, Bool, true, false, Option, Some, None, refl, ap, sym, ◌∙◌}}, specs.Option.{option_map}}
use Rattle.hc_text.proofs.Basics.{not_some as none_some, same_some as same_row, some_inj}
use Rattle.hc_range.specs.declared.range.Span.{Span}
use Rattle.hc_effects.proofs.Vocabulary.{Response, Request, Why, Plan, Candidate, least, plan_of, class_of, is_disabled, range_of, wanted_of, Place, Showing, current, total_in, first_hole, Move, Nothing, Fails, Shows, opens_hole, shows_stored, plan_view, plan_move, origin_request, candidate, hole_of, binds_current, shows_at, move_of, is_written, bound, bound_to, reads, Tables, Representation, Consumer, Sound, exclusive, cause, wait, wanted}
use Rattle.hc_model.specs.Moves as moves
use Rattle.hc_effects.proofs.{Basics.{false_true}, MoveBy.{MoveBy, IsHeard, move_by}, PlanBy.{PlanBy, plan_by}, Said.{IsShowing}, ShownOnce.{is_showing, shown_shows}}
use Rattle.hc_effects.proofs.MoveBy as by
use Rattle.hc_effects.proofs.PlanBy as plans
use Rattle.hc_effects.proofs.Said as said

-- A CANDIDATE

-- what is current, as a plan sees it
pub record IsCandidate (t : Tables) (k : Consumer) (s : Candidate) : Type 0 where
  pub r : ℕ
  pub v : Representation
  pub current_is : current t k.request.key ≡ Some r
  pub row : t.representation r ≡ Some v
  pub span_is : s.span ≡ wanted_of (range_of k.request) v.head.total
  pub hole_is : s.hole ≡ hole_of v s.span
  pub writer_group_is : s.writer_group ≡ is_written t v
  pub least_is : s.least_bound ≡ least (bound t r)
  pub exclusive_is : s.exclusive ≡ exclusive t r v

module _ (t : Tables) (now c : ℕ) (k : Consumer) where
  by_row : (r : ℕ) (o : Option Representation) (s : Candidate) → current t k.request.key ≡ Some r → t.representation r ≡ o →
      option_map (λ v. candidate t now r k.request v) o ≡ Some s → IsCandidate t k s
  by_row r None s is row at = absurd (none_some s at)
  by_row r (Some v) s is row at =
      let same = some_inj (candidate t now r k.request v) s at in
      record {
        r = r;
        v = v;
        current_is = is;
        row = row;
        span_is = sym (ap (λ (z : Candidate). z.span) same);
        hole_is = sym (ap (λ (z : Candidate). z.hole) same) ∙ ap (λ (z : Candidate). hole_of v z.span) same;
        writer_group_is = sym (ap (λ (z : Candidate). z.writer_group) same);
        least_is = sym (ap (λ (z : Candidate). z.least_bound) same);
        exclusive_is = sym (ap (λ (z : Candidate). z.exclusive) same);
      }

  by_current : (o : Option ℕ) (s : Candidate) → current t k.request.key ≡ o → (plan_view t now c k).current ≡ Some s → IsCandidate t k s
  by_current None s is at = absurd (none_some s (rw is at at))
  by_current (Some r) s is at = by_row r (t.representation r) s is refl (rw is at at)

  pub candidate_is : (s : Candidate) → (plan_view t now c k).current ≡ Some s → IsCandidate t k s
  candidate_is s at = by_current (current t k.request.key) s refl at

  -- WHAT A PLAN SHOWS

  -- it is shown r from lo to hi
  pub data ShownAs (r lo : ℕ) (hi : Option ℕ) : Type 0 where
    joins : (v : Representation) → current t k.request.key ≡ Some r → t.representation r ≡ Some v → is_written t v ≡ true → lo ≡ 0 → hi ≡ v.head.total →
        ShownAs r lo hi
    stored : (v : Representation) (span : Span) → current t k.request.key ≡ Some r → t.representation r ≡ Some v → is_written t v ≡ false →
        wanted_of (range_of k.request) v.head.total ≡ wanted.Interval span → first_hole v.stored v.reach span ≡ None → lo ≡ span.lo → hi ≡ Some span.hi →
        ShownAs r lo hi

  -- where r isn't written for several, nobody writes it alone
  abbrev pub IsFreeOf : ℕ → Type 0
  IsFreeOf r = (v : Representation) → t.representation r ≡ Some v → is_written t v ≡ false → exclusive t r v ≡ None

  module _ (r lo : ℕ) (hi : Option ℕ) (why : Why) (head : Response) where
    abbrev show : Move
    show = Shows r why head lo hi

    nothing_shows : Nothing ≡ show → ⊥
    nothing_shows is = cc

    hole_shows : (request : Request) (o : Option Representation) (hole : Span) → opens_hole t request o hole ≡ show → ⊥
    hole_shows request o hole is = grind (arith, nat_tests)

    -- what is shown is there
    record IsStored (q a : ℕ) (b : Option ℕ) : Type 0 where
      number : q ≡ r
      from : a ≡ lo
      to : b ≡ hi

    stored_shows : (q : ℕ) (y : Why) (ranged : Bool) (a : ℕ) (b : Option ℕ) (o : Option Representation) → shows_stored q y ranged a b o ≡ show → IsStored q a b
    stored_shows q y ranged a b None is = absurd (nothing_shows is)
    stored_shows q y ranged a b (Some v) is = record { number = cc; from = cc; to = cc }

    joined : (y : Why) (s : plans.JoinsGroup (plan_view t now c k)) (o : Option ℕ) → current t k.request.key ≡ o → binds_current t k y None o ≡ show →
        ShownAs r lo hi × IsFreeOf r
    joined y j None at is = absurd (nothing_shows is)
    joined y j (Some q) at is =
        let a = candidate_is j.s j.current in
        let shown = stored_shows q y _ 0 (total_in (t.representation q)) (t.representation q) is in
        let one : q ≡ a.r = some_inj q a.r (sym at ∙ a.current_is) in
        let same : a.r ≡ r = sym one ∙ shown.number in
        let row : t.representation r ≡ Some a.v = ap t.representation (sym same) ∙ a.row in
        let total : total_in (t.representation q) ≡ a.v.head.total = ap total_in (ap t.representation one ∙ a.row) in
        let on : is_written t a.v ≡ true = sym a.writer_group_is ∙ j.writer_group in (
          joins a.v (at ∙ ap Some shown.number) row on (sym shown.from) (sym shown.to ∙ total),
          λ v there off. absurd (false_true (sym off ∙ (ap (is_written t) (same_row (t.representation r) v a.v there row) ∙ on))),
        )

    read : (y : Why) (span : Span) (j : plans.IsAlone (plan_view t now c k) span None) (o : Option ℕ) → current t k.request.key ≡ o →
        binds_current t k y (Some span) o ≡ show → ShownAs r lo hi × IsFreeOf r
    read y span j None at is = absurd (nothing_shows is)
    read y span j (Some q) at is =
        let a = candidate_is j.s j.current in
        let shown = stored_shows q y _ span.lo (Some span.hi) (t.representation q) is in
        let one : q ≡ a.r = some_inj q a.r (sym at ∙ a.current_is) in
        let same : a.r ≡ r = sym one ∙ shown.number in
        let row : t.representation r ≡ Some a.v = ap t.representation (sym same) ∙ a.row in
        let hole : first_hole a.v.stored a.v.reach span ≡ None = sym (ap (hole_of a.v) j.wanted_is) ∙ (sym a.hole_is ∙ j.hole_is) in (
          stored a.v span (at ∙ ap Some shown.number) row (sym a.writer_group_is ∙ j.unwritten) (sym a.span_is ∙ j.wanted_is) hole (sym shown.from)
              (sym shown.to),
          λ v there off. ap (exclusive t r) (same_row (t.representation r) v a.v there row) ∙
              (ap (λ n. exclusive t n a.v) (sym same) ∙ (sym a.exclusive_is ∙ j.nobody)),
        )

    cached_is : (plan_view t now c k).class.disabled ≡ false → is_disabled k.request ≡ false
    unfolding class_of
    cached_is h = h

    by_plan : (p : Plan) → PlanBy (plan_view t now c k) p → plan_move t k p ≡ show → (is_disabled k.request ≡ false) × ShownAs r lo hi × IsFreeOf r
    by_plan _ (plans.turn d) is = absurd (let never : moves.Waits (wait.Turn d) ≡ show = is in cc)
    by_plan _ (plans.busy d kept plain) is = absurd (let never : moves.Waits (wait.Busy d) ≡ show = is in cc)
    by_plan _ plans.misses is = absurd (let never : Fails cause.Miss ≡ show = is in cc)
    by_plan _ (plans.passes_by n way) is = absurd (let never : moves.Opens (t.opened + 1) n k.request ≡ show = is in cc)
    by_plan _ (plans.fetches n way plain bypass cached) is = absurd (let never : moves.Opens (t.opened + 1) n (origin_request t k n) ≡ show = is in cc)
    by_plan _ (plans.joins why cached j) is = let both = joined why j (current t k.request.key) refl is in (cached_is cached, both.0, both.1)
    by_plan _ (plans.reads why span cached j) is = let both = read why span j (current t k.request.key) refl is in (cached_is cached, both.0, both.1)
    by_plan _ (plans.fills span hole cached j nobody) is = absurd (hole_shows k.request _ hole is)

    -- who reads nothing isn't shown a head that is there for who reads
    unread : (p : Place) → reads p ≡ false → shows_at t k p ≡ Some show → ⊥
    unread p free is = grind (arith, nat_tests)

    by_move : (want : ℕ) (m : Move) → MoveBy t now want c k m → m ≡ move_of t now want c k → m ≡ show → reads k.place ≡ false → (k.shown ≡ false) ×
        (bound_to k.place ≡ None) × IsHeard t k × ((is_disabled k.request ≡ false) × ShownAs r lo hi × IsFreeOf r)
    by_move want m (by.shows _ shown at) here is free = absurd (unread k.place free (at ∙ ap Some is))
    by_move want _ (by.waits x own bare) here is free = absurd (let never : moves.Waits (wait.Head x) ≡ show = is in cc)
    by_move want _ (by.down why_down at) here is free = absurd (let never : Fails why_down ≡ show = is in cc)
    by_move want _ (by.over at) here is free = absurd (nothing_shows is)
    by_move want _ (by.reads shown heard) here is free =
        absurd (let none : is_showing (move_of t now want c k) ≡ false = shown_shows t now want c k shown in
        let some : is_showing (move_of t now want c k) ≡ true = ap is_showing (sym here ∙ is) in let never : false ≡ true = sym none ∙ some in cc)
    by_move want _ (by.plans shown bound none heard) here is free =
        (shown, bound, heard, by_plan (plan_of (plan_view t now c k)) (plan_by (plan_view t now c k)) is)

  pub showing_is : (z : Showing) (m : Move) → IsShowing z m → (why : Why) × (head : Response) × (m ≡ Shows z.r why head z.lo z.hi)
  showing_is z _ (said.shows why head) = (why, head, refl)

  -- who is shown a head and reads nothing yet was shown none, and is shown it by its plan
  pub record IsPlanned (z : Showing) : Type 0 where
    pub unshown : k.shown ≡ false
    pub free : bound_to k.place ≡ None
    pub unread : reads k.place ≡ false
    pub heard : IsHeard t k
    pub shown_as : ShownAs z.r z.lo z.hi
    pub cached : is_disabled k.request ≡ false
    pub lone : IsFreeOf z.r

  pub shown_from : (want : ℕ) (z : Showing) → Sound t → t.consumer c ≡ Some k → IsShowing z (move_of t now want c k) → reads k.place ≡ false → IsPlanned z
  shown_from want z s row show free =
      let is = showing_is z (move_of t now want c k) show in
      let all = by_move z.r z.lo z.hi is.0 is.1 want (move_of t now want c k) (move_by t now want c k s row) refl is.2 free in
      record { unshown = all.0; free = all.1; unread = free; heard = all.2; shown_as = all.3.1; cached = all.3.0; lone = all.3.2 }
