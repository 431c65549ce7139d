-- A live consumer's poll does something, or waits: for no exchange but one that is open, and has no head or was asked.
--
-- Each way to answer a poll does something, or waits for what is open (`goes_by`). Plans and heads are short, as what
-- they name is there (`plan_goes`, `shown_goes`). The most work is a reader without a source that isn't at its end. Who
-- is bound knows the end then (`unknown_not`), so it opens an exchange for the hole. For who reads past the store all
-- up to the end came, so bytes are held (`holds`).
use Rattle.std.{proofs.{Common.{◌≡◌, ℕ, ◌+◌, ◌-◌, ◌<◌, List, length, take, drop, Bool, true, false, cond, Option, Some, None, refl, ap, sym, ◌∙◌, subst, arith}, lemmas.{Bool.Decides.{nat_tests}, List.{length-drop, length-take}}}, specs.{Prelude.{is_some, min, ◌&&◌, ◌||◌}, Option.{option_and_then, option_map, option_or}}}
use Rattle.hc_text.proofs.Basics.{and_right, bool_cases, either, not_some as none_some, never_true as not_so, same_some as same_row}
use Rattle.hc_range.specs.declared.range.Span.{Span}
use Rattle.hc_sparse.specs.{Cells.{Cells, Cell}, Runs.{end_of}, Stretch.{stretch, stretch_of}, declared.run.Run.{Run}}
use Rattle.hc_effects.proofs.Vocabulary.{Cause, Why, Request, Candidate, Plan, ReadStep, ReadView, plan_of, read_step, is_at_end, stored_or, held_or, fails_or, waits_or, Place, BoundBy, MoveEnds, current, is_number, row_of, is_live_place, Endings, Unended, base, front, is_open, is_headless, is_wanted, stretch_to, Move, gives, waits_for, opens_hole, Places, ReadsPast, plan_view, plan_move, binds_current, current_row, shows_at, shows_bound, shows_direct, move_of, bound_to, offset, lo_of, hi_of, own_open, source, shared_exchange, group_in, is_written, is_open_writer, base_in, Tables, Exchange, Representation, Consumer, Sound, IsBound, IsServed, bound_row, stored_ahead, stored_from, run_held_for, held_at, held_of_exchange, run_of, read_view, later_hole, step_move, reading, most, came_alone, place}
use Rattle.hc_rules.specs.Readings as readings
use Rattle.hc_model.specs.Sound as sound
use Rattle.hc_effects.proofs.{AboutKeeps.{own_open_of, own_open_is}, Basics.{false_true, some_none, some_row}, GivenNext.{some_ahead}, MoveBy.{MoveBy, move_by}, ExclusiveWriters.{shares_source}, PlanBy.{PlanBy, plan_by}, ShownFrom.{candidate_is}}
use Rattle.hc_effects.proofs.MoveBy as by
use Rattle.hc_effects.proofs.PlanBy as plans

-- so far no chain goes on
abbrev pub Goes : Tables → Move → Type 0
Goes t move = MoveEnds (λ d. Unit {0}) t move

-- WHAT IS READ

stretch_same : (f : Cells) (p n m : ℕ) → is_some (stretch f p n) ≡ is_some (stretch f p m)
unfolding stretch
stretch_same f p n m = by_cell (f p)
  where
    by_cell : (o : Option Cell) → is_some (stretch_of f p n o) ≡ is_some (stretch_of f p m o)
    by_cell o = grind (arith, nat_tests)

run_some : (x o : ℕ) (bytes : List ℕ) → 0 < length bytes → is_some (run_of x o bytes) ≡ true
run_some x o bytes many = grind (arith, nat_tests)

run_same : (x o n m : ℕ) (bytes : List ℕ) → 0 < m → is_some (run_of x o (take n bytes)) ≡ true → is_some (run_of x o (take m bytes)) ≡ true
run_same x o n m bytes many some = grind (arith, nat_tests)

module _ (t : Tables) (s : Sound t) (places : Places t) (endings : Endings t) (unended : Unended t) (c : ℕ) (k : Consumer) (row : t.consumer c ≡ Some k) where
  abbrev Fine : Move → Type 0
  Fine m = Goes t m

  -- SHOWING

  direct_goes : (x : ℕ) (o : Option Exchange) (m : Move) → shows_direct t x o ≡ Some m → Fine m
  direct_goes x o m is = grind (arith, nat_tests)

  bound_goes : (r lo : ℕ) (hi : Option ℕ) (z : BoundBy) (m : Move) → is_some (t.representation r) ≡ true → shows_bound t k r lo hi z ≡ Some m → Fine m
  bound_goes r lo hi z m there is = grind (arith, nat_tests)

  shown_goes : (p : Place) (m : Move) → k.place ≡ p → shows_at t k p ≡ Some m → Fine m
  shown_goes (place.Bound r lo hi z) m at is = bound_goes r lo (hi_of t k.place) z m (s.numbered.bound_to r c k (sound.is_bound lo hi z row at)) is
  shown_goes (place.Direct x) m at is = direct_goes x (t.exchange x) m is
  shown_goes _ m at is = absurd (none_some m is)

  -- WAITING FOR AN EXCHANGE

  headless_wanted : (o : Option Exchange) → is_headless o ≡ true → is_wanted o ≡ true
  headless_wanted o bare = grind (arith, nat_tests)

  asks_goes : (x : ℕ) (o : Option Exchange) → t.exchange x ≡ o → is_open o ≡ true → Fine (waits_for x o)
  asks_goes x o there on = grind (arith, nat_tests)

  own_opened : (x : ℕ) → own_open t k ≡ Some x → is_open (t.exchange x) ≡ true
  own_opened x is = let own = own_open_of t k x is in ap is_open own.row ∙ own.opened

  writer_opened : (x : ℕ) (v : Representation) → is_written t v ≡ true → v.writer ≡ Some x → is_open (t.exchange x) ≡ true
  unfolding is_written
  writer_opened x v on writer = sym (ap (is_open_writer t) writer) ∙ and_right _ _ on

  shared_opened : (x : ℕ) (o : Option Representation) → group_in t o ≡ Some x → is_open (t.exchange x) ≡ true
  shared_opened x o is = grind (arith, nat_tests, none_some, bool_cases, writer_opened)

  shared_by : (x : ℕ) (p : Place) → shared_exchange t p ≡ Some x → is_open (t.exchange x) ≡ true
  shared_by x (place.Bound r lo hi z) is = shared_opened x (t.representation r) is
  shared_by x _ is = absurd (none_some x is)

  source_by : (x : ℕ) (o : Option ℕ) → own_open t k ≡ o → option_or o (shared_exchange t k.place) ≡ Some x → is_open (t.exchange x) ≡ true
  source_by x None none is = shared_by x k.place is
  source_by x (Some y) own is = own_opened x (own ∙ is)

  -- where it reads from is open
  source_opened : (x : ℕ) → source t k ≡ Some x → is_open (t.exchange x) ≡ true
  source_opened x is = source_by x (own_open t k) refl is

  -- PLANS

  opens_goes : (request : Request) (o : Option Representation) (hole : Span) → is_some o ≡ true → Fine (opens_hole t request o hole)
  opens_goes request o hole there = grind (arith, nat_tests)

  module _ (now : ℕ) where
    -- what is current is there
    current_there : (z : Candidate) → (plan_view t now c k).current ≡ Some z → (r : ℕ) × (current t k.request.key ≡ Some r) ×
        (is_some (t.representation r) ≡ true)
    current_there z is = let a = candidate_is t now c k z is in (a.r, a.current_is, ap (λ (o : Option Representation). is_some o) a.row)

    binds_goes : (z : Candidate) → (plan_view t now c k).current ≡ Some z → (why : Why) (span : Option Span) →
        Fine (binds_current t k why span (current t k.request.key))
    binds_goes z is why span = grind (arith, nat_tests)

    fills_goes : (z : Candidate) → (plan_view t now c k).current ≡ Some z → (hole : Span) → Fine (opens_hole t k.request (current_row t k) hole)
    fills_goes z is hole = let a = current_there z is in opens_goes k.request (current_row t k) hole (ap (λ (o : Option ℕ). is_some (row_of t o)) a.1 ∙ a.2)

    plan_goes : (p : Plan) → PlanBy (plan_view t now c k) p → Fine (plan_move t k p)
    plan_goes _ (plans.joins why cached j) = binds_goes j.s j.current why None
    plan_goes _ (plans.reads why span cached j) = binds_goes j.s j.current why (Some span)
    plan_goes _ (plans.fills span hole cached j nobody) = fills_goes j.s j.current hole
    plan_goes _ _ = tt

  -- READING

  gives_goes : (o : Option Run) → is_some o ≡ true → Fine (gives o)
  gives_goes o there = grind (arith, nat_tests)

  -- whatever is wanted of what is stored, there is some of it or none
  stored_same : (n m : ℕ) (o : Option Representation) →
      is_some (option_and_then (stored_from (offset t k) n) o) ≡ is_some (option_and_then (stored_from (offset t k) m) o)
  stored_same n m None = refl
  stored_same n m (Some v) = stretch_same v.stored (offset t k) _ _

  lost_same : (f : Cells) (reach p n m : ℕ) (b : Bool) → is_some (cond b (stretch_to f reach p n) None) ≡ is_some (cond b (stretch_to f reach p m) None)
  lost_same f reach p n m true = stretch_same f p _ _
  lost_same f reach p n m false = refl

  held_lost : (n m : ℕ) (o : Option Representation) →
      is_some (Rattle.hc_model.specs.Steps.held_of_lost c (offset t k) n o) ≡ is_some (Rattle.hc_model.specs.Steps.held_of_lost c (offset t k) m o)
  held_lost n m None = refl
  held_lost n m (Some v) = lost_same v.body v.reach (offset t k) n m (v.is_lost && is_number v.alone c)

  held_past : (x n m : ℕ) (o : Option Exchange) → 0 < m → is_some (held_of_exchange x (offset t k) n o) ≡ true →
      is_some (held_of_exchange x (offset t k) m o) ≡ true
  held_past x n m None many some = some
  held_past x n m (Some w) many some = run_same x (offset t k) n m (drop (offset t k - base w) w.body) many some

  held_same : (n m : ℕ) (p : Place) → 0 < m → is_some (held_at t c (offset t k) n p) ≡ true → is_some (held_at t c (offset t k) m p) ≡ true
  held_same n m p many some = grind (arith, nat_tests, held_past, held_lost)

  module _ (want : ℕ) (many : 0 < want) (shown : k.shown ≡ true) (live : is_live_place k.place ≡ true) where
    abbrev v : ReadView
    v = read_view t want c k

    abbrev GoesStep : ReadStep → Type 0
    GoesStep z = Fine (step_move t want c k z)

    -- who was shown a head is bound, or reads past the store
    data IsReader : Type 0 where
      is_bound : (r lo : ℕ) (hi : Option ℕ) (z : BoundBy) → k.place ≡ place.Bound r lo hi z → IsReader
      is_past : (x : ℕ) → k.place ≡ place.Direct x → IsReader

    not_idle : {A : Type 0} → k.shown ≡ false → A
    not_idle unshown = absurd (false_true (sym unshown ∙ shown))

    reader_by : (p : Place) → k.place ≡ p → IsReader
    reader_by (place.Bound r lo hi z) at = is_bound r lo hi z at
    reader_by (place.Direct x) at = is_past x at
    reader_by place.Line at = not_idle (places.line c k row at).idle.unshown
    reader_by (place.Passed r kept) at = not_idle (places.passed c r kept k row at).idle.unshown
    reader_by (place.Turn x) at = not_idle (places.turn c x k row at).idle.unshown
    reader_by (place.Down why) at = not_idle (places.down c why k row at).idle.unshown
    reader_by place.Over at = absurd (false_true (sym (ap is_live_place at) ∙ live))

    -- IN A HOLE

    module _ (undue : k.due ≡ None) (none : source t k ≡ None) where
      unowned : (x : ℕ) → own_open t k ≡ Some x → ⊥
      unowned x own = some_none x (sym (ap (λ (o : Option ℕ). option_or o (shared_exchange t k.place)) own) ∙ none)

      -- who is bound knows its end
      module _ (r lo : ℕ) (hi : Option ℕ) (z : BoundBy) (at : k.place ≡ place.Bound r lo hi z) where
        reader : IsBound t r c k
        reader = sound.is_bound lo hi z row at

        there : (u : Representation) × (t.representation r ≡ Some u)
        there = some_row (t.representation r) (s.numbered.bound_to r c k reader)

        no_end : (u : Representation) → t.representation r ≡ Some u → hi_of t k.place ≡ None → (hi ≡ None) × (u.head.total ≡ None)
        no_end u has unknown = by_hi hi (sym (ap (λ (p : Place). hi_of t p) at) ∙ unknown)
          where
            by_hi : (o : Option ℕ) → option_or o (Rattle.hc_model.specs.Currents.total_in (t.representation r)) ≡ None → (o ≡ None) × (u.head.total ≡ None)
            by_hi o is = grind (arith, nat_tests)

        unknown_not : (u : Representation) → t.representation r ≡ Some u → hi_of t k.place ≡ None → IsServed t r u c k → ⊥
        unknown_not u has unknown (sound.shares on) = shares_source t r c u k u.writer has reader on refl none
        unknown_not u has unknown (sound.reads n is all) = none_some n (sym unknown ∙ is)
        unknown_not u has unknown (sound.writes (sound.alone lost is)) =
            let e = no_end u has unknown in
            unowned r (unended.alone r c lo z u k has is row (at ∙ ap (λ (o : Option ℕ). place.Bound r lo o z) e.0) e.1 undue)
        unknown_not u has unknown (sound.writes (sound.first kept (sound.first q a b g q_row q_at alone))) =
            let one : q ≡ k = same_row (t.consumer c) q k q_row row in
            let same : came_alone t (place.Bound r lo hi z) ≡ true =
            subst (λ (p : Place). came_alone t p ≡ true) (sym q_at ∙ (ap (λ (y : Consumer). y.place) one ∙ at)) alone in
            false_true (sym (ap (λ (o : Option ℕ). is_some o) ((no_end u has unknown).0)) ∙ s.writes.known_end r c lo hi z k row at same)

        later_goes : (hole : Span) (o : Option ℕ) → hi_of t k.place ≡ o → Fine (later_hole t k hole o)
        later_goes hole None unknown = absurd (let u = there in unknown_not u.0 u.1 unknown (s.writes.served r c u.0 k u.1 reader undue))
        later_goes hole (Some hi) is =
            opens_goes k.request (bound_row t k) hole (ap (λ (p : Place). is_some (row_of t (bound_to p))) at ∙ s.numbered.bound_to r c k reader)

      -- and of who reads past the store there is more, up to its end
      module _ (x : ℕ) (at : k.place ≡ place.Direct x) (before : is_at_end (hi_of t k.place) (offset t k) ≡ false)
          (nothing : is_some (run_held_for t c k want) ≡ false) where
        past : ReadsPast t c x k
        past = places.direct c x k row at

        over : past.w.is_open ≡ false
        over = not_so past.w.is_open (λ on. unowned x (own_open_is t k x (record { own = past.own; w = past.w; row = past.row; opened = on })))

        lo_is : lo_of t k.place ≡ base past.w
        lo_is = ap (λ (p : Place). lo_of t p) at ∙ ap base_in past.row

        below : (o : Option ℕ) (p n : ℕ) → o ≡ Some n → is_at_end o p ≡ false → p < n
        below o p n is off = grind (arith, nat_tests)

        ahead : offset t k < front past.w
        ahead = below (hi_of t k.place) (offset t k) (front past.w) (endings.past c x k past.w row at past.row over undue) before

        holds : is_some (run_held_for t c k want) ≡ true
        holds =
            let first : lo_of t k.place ≡ base past.w = lo_is in
            let less : offset t k < front past.w = ahead in
            let rest : length (drop (offset t k - base past.w) past.w.body) ≡ length past.w.body - (offset t k - base past.w) =
            length-drop (offset t k - base past.w) past.w.body in
            let count : length (take want (drop (offset t k - base past.w) past.w.body)) ≡ min
            want (length (drop (offset t k - base past.w) past.w.body)) = length-take want (drop (offset t k - base past.w) past.w.body) in
            let some : 0 < length (take want (drop (offset t k - base past.w) past.w.body)) = omega arith in
            ap (λ (p : Place). is_some (held_at t c (offset t k) want p)) at
            ∙ (ap (λ (o : Option Exchange). is_some (held_of_exchange x (offset t k) want o)) past.row ∙
            run_some x (offset t k) (take want (drop (offset t k - base past.w) past.w.body)) some)

        never : ⊥
        never = false_true (sym nothing ∙ holds)

      hole_goes : is_at_end (hi_of t k.place) (offset t k) ≡ false → is_some (run_held_for t c k want) ≡ false → (hole : Span) → IsReader →
          Fine (later_hole t k hole (hi_of t k.place))
      hole_goes before nothing hole (is_bound r lo hi z at) = later_goes r lo hi z at hole (hi_of t k.place) refl
      hole_goes before nothing hole (is_past x at) = absurd (never x at before nothing)

    -- ALL CASES

    module _ (before : is_at_end (hi_of t k.place) (offset t k) ≡ false) where
      waits_goes : (o : Option ℕ) → k.due ≡ None → is_some (run_held_for t c k want) ≡ false → source t k ≡ o → GoesStep (waits_or o (readings.opens v))
      waits_goes None undue nothing none = hole_goes undue none before nothing _ (reader_by k.place refl)
      waits_goes (Some x) undue nothing from = asks_goes x (t.exchange x) refl (source_opened x from)

      due_goes : (o : Option Cause) → k.due ≡ o → is_some (run_held_for t c k want) ≡ false → GoesStep (fails_or o (waits_or v.source (readings.opens v)))
      due_goes (Some cause) due nothing = tt
      due_goes None undue nothing = waits_goes v.source undue nothing refl

      some_most : 0 < most t want k
      some_most = some_ahead (hi_of t k.place) (offset t k + want) (offset t k) before (omega arith)

      held_goes : (b : Bool) → is_some (run_held_for t c k want) ≡ b → GoesStep (held_or b (fails_or v.due (waits_or v.source (readings.opens v))))
      held_goes true some = gives_goes (run_held_for t c k (most t want k)) (held_same want (most t want k) k.place some_most some)
      held_goes false nothing = due_goes v.due refl nothing

      stored_goes_on : (o : Option ℕ) → option_map end_of (stored_ahead t k want) ≡ o →
          GoesStep (stored_or v.hi o (held_or v.held (fails_or v.due (waits_or v.source (readings.opens v)))))
      stored_goes_on None none = held_goes v.held refl
      stored_goes_on (Some end) some = gives_goes _ (stored_same _ want (bound_row t k) ∙ run_there (stored_ahead t k want) some)
        where
          run_there : (o : Option Run) → option_map end_of o ≡ Some end → is_some o ≡ true
          run_there o is = grind (arith, nat_tests)

    reading_goes : Fine (reading t want c k)
    unfolding read_step
    reading_goes = either GoesStep (is_at_end v.hi v.offset) _ _ (λ past. tt) (λ before. stored_goes_on before (option_map end_of (stored_ahead t k want)) refl)

  -- what a live consumer is answered does something
  goes_by : (now want : ℕ) (m : Move) → 0 < want → is_live_place k.place ≡ true → MoveBy t now want c k m → Fine m
  goes_by now want m many live (by.shows _ unshown is) = shown_goes k.place m refl is
  goes_by now want _ many live (by.waits x own bare) = headless_wanted (t.exchange x) bare
  goes_by now want _ many live (by.down why at) = tt
  goes_by now want _ many live (by.over at) = absurd (false_true (sym (ap is_live_place at) ∙ live))
  goes_by now want _ many live (by.reads shown heard) = reading_goes want many shown live
  goes_by now want _ many live (by.plans unshown free none heard) = plan_goes now (plan_of (plan_view t now c k)) (plan_by (plan_view t now c k))

  pub live_goes : (now want : ℕ) → 0 < want → is_live_place k.place ≡ true → Goes t (move_of t now want c k)
  live_goes now want many live = goes_by now want (move_of t now want c k) many live (move_by t now want c k s row)
