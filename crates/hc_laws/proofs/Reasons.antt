-- The reason for which a consumer is shown a head holds, in every run.
--
-- By the reasons (`reason_holds`). What was fetched was opened for it. At a first hole its exchange has joined
-- (`first_joins`), which the filters tell. By age the stored head is allowed (`by_age`). The most work is who keeps a
-- 304: what it waits for was selected by the head of its exchange. That is carried through a run (`IsKeeping`), by
-- where such a wait comes from (`keeping_on`, `chosen_by`).
use Rattle.std.{proofs.{lemmas.Bool.Decides.{nat_tests}, Common.{arith, ◌≡◌, ℕ, ◌-◌, [], ◌∷◌, Bool, true, false, Option, Some, None, refl, ap, sym, ◌∙◌, subst}}, specs.{Prelude.{is_some, nat_lt, ◌||◌}, Option.{option_map, option_and_then}}}
use Rattle.hc_text.proofs.Basics.{not_some as none_some, or_left, or_right, eq_itself as same_number, some_inj}
use Rattle.hc_effects.proofs.Vocabulary.{is_denied, Why, Request, Limits, Place, may_begin, consumer_heard, kept_by, current, is_number, Entry, History, Contents, opening_of, joined_of, request_of, opened_in, entry_of, OfRuns, Turns, IsFor, has_joined, Tables, Exchange, Representation, Consumer, IsRun, tables, after_accepted, after_denied, wait, place}
use Rattle.hc_event.specs.declared.act.Why.TheVariants as why_is
use Rattle.hc_cachectl.specs.{declared.directives.Directives.{Directives}, Directives.{of_request, of_response}}
use Rattle.hc_event.specs.declared.event.Load.{Load}
use Rattle.hc_fresh.specs.{Allowed.{allowed_by, is_validate, is_zero, is_older, lacks, is_skip, accepts}, Ages.{age}, Facts.{allowed}, Lifetimes.{lifetime}}
use Rattle.hc_record.specs.Head.{Head}
use Rattle.hc_model.specs.{Histories.{Opened}, Reads.{IsReason, has_selected, selects_at}}
use Rattle.hc_laws.proofs.{Aimed.{IsAimed, aimed_begun, aimed_denied, aimed_kept}, Barred.{next_tables, denied_tables}, InRuns.{turned_in_runs}, JoinFilters.{exchanges_are_filtered}, PassedFrom.{validates, stood, busies, PassedFrom, passed_from}, RunFacts.{along, in_runs}, SoundRuns.{carried}, WhyShown.{ShownWhy}}
use Rattle.hc_effects.proofs.{Forward.{is_on}, Joining.{mix}, OfEntries.{of_real}, ReadFilters.{consumers_are_filtered}, Said.{waiting_by}, Step.{Step, step_of}}
use Rattle.hc_laws.proofs.WhyShown as shown_for

-- WHAT FRESHNESS ALLOWS

-- as fresh, or as stale
abbrev IsByAge : Why → Type 0
IsByAge (why_is.Fresh age life) = Unit {0}
IsByAge (why_is.StaleAllowed age life) = Unit {0}
IsByAge _ = ⊥

abbrev ByAge : Option Why → Type 0
ByAge None = Unit {0}
ByAge (Some why) = IsByAge why

allowed_age : (no_cache must_revalidate : Bool) (asked : Directives) (load : Load) (age life : ℕ) →
    ByAge (allowed_by no_cache must_revalidate asked load age life)
allowed_age no_cache must_revalidate asked load age life =
    mix ByAge (is_validate load || is_zero asked.max_age) None _ tt
    (mix ByAge no_cache None _ tt
    (mix ByAge (is_older age asked.max_age) None _ tt
    (mix ByAge (lacks life age asked.min_fresh) None _ tt
    (mix ByAge (nat_lt age life) (Some (why_is.Fresh age life)) _ tt
    (mix ByAge must_revalidate None _ tt
    (mix ByAge (is_skip load) (Some (why_is.StaleAllowed age life)) _ tt
    (mix ByAge (accepts asked.max_stale (age - life)) (Some (why_is.StaleAllowed age life)) None tt tt)))))))

by_age : (head : Head) (request : Request) (now : ℕ) (why : Why) → allowed head request now ≡ Some why → IsByAge why
by_age head request now why is =
    subst ByAge is (allowed_age (of_response head.fields).no_cache (of_response head.fields).must_revalidate (of_request request.fields) request.load
    (age head now) (lifetime head))

-- AIMS IN RUNS

pub aimed : OfRuns IsAimed
aimed = in_runs (λ limits t. IsAimed t)
    (λ limits contents may. aimed_begun contents)
    (λ limits t e later a. aimed_denied t e a)
    (λ limits t now flaw later c a ev going real. aimed_kept (step_of limits t now flaw c.is_sound c.is_owned ev going) a)

-- WHO KEEPS A 304

-- who keeps one waits for what its head selected
record IsKeeping (t : Tables) (selected : ℕ → ℕ → Bool) : Type 0 where
  chosen : (c r x : ℕ) (k : Consumer) → t.consumer c ≡ Some k → k.place ≡ place.Passed r (Some x) → selected x r ≡ true
  asker : (c r x : ℕ) (k : Consumer) → t.consumer c ≡ Some k → k.place ≡ place.Passed r (Some x) → IsFor t x c

module _ (step : Step) (turns : Turns step.tables) (selected : ℕ → ℕ → Bool) (g : IsKeeping step.tables selected) where
  open step use {limits, tables as t, now, flaw, sound as s, event as ev, accepted as goes}

  abbrev e : Entry
  e = entry_of limits t now ev flaw

  abbrev now_on : Tables
  now_on = after_accepted t e

  for_on : (x c : ℕ) → IsFor t x c → IsFor now_on x c
  for_on x c f = let on = is_on t e x f.w f.row in record { w = on.u; row = on.row; for_it = on.same.c_is ∙ f.for_it }

  kept_place : (p : Place) (x : ℕ) → kept_by p ≡ Some x → (r : ℕ) × (p ≡ place.Passed r (Some x))
  kept_place p x is = grind (arith, nat_tests)

  -- it kept it where it stands, as what it waits for is current
  stood_busy : (c r x d : ℕ) (k : Consumer) → t.consumer c ≡ Some k → Rattle.hc_model.specs.ActFilters.wait_in c e.acts ≡ Some (wait.Busy d) →
      Some x ≡ kept_by (consumer_heard t e c ev k).place → current t (consumer_heard t e c ev k).request.key ≡ Some r → k.place ≡ place.Passed r (Some x)
  stood_busy c r x d k row reported kept is =
      let heard : consumer_heard t e c ev k ≡ k =
      ap (λ v. consumer_heard t e c v k) (waiting_by limits t now flaw s ev goes c (wait.Busy d) reported).poll.at in
      let had = kept_place k.place x (ap (λ (q : Consumer). kept_by q.place) (sym heard) ∙ sym kept) in
      let waits = turns.passed c had.0 (Some x) k row had.1 in
      had.1 ∙ ap (λ n. place.Passed n (Some x)) (some_inj had.0 r (sym waits.current_is ∙ (sym (ap (λ (q : Consumer). current t q.request.key) heard) ∙ is)))

  chosen_by : (c r x : ℕ) (k : Consumer) (row : t.consumer c ≡ Some k) → is_denied e.acts ≡ false → PassedFrom step c r (Some x) k row →
      (selects_at t e x r || selected x r) ≡ true
  chosen_by c r x k row taken (stood at) = or_right (selects_at t e x r) (selected x r) (g.chosen c r x k row at)
  chosen_by c r x k row taken (validates y response w here there mine is aim kept) = grind (arith, nat_tests)
  chosen_by c r x k row taken (busies d reported kept is) =
      or_right (selects_at t e x r) (selected x r) (g.chosen c r x k row (stood_busy c r x d k row reported kept is))

  asker_by : (c r x : ℕ) (k : Consumer) (row : t.consumer c ≡ Some k) → PassedFrom step c r (Some x) k row → IsFor now_on x c
  asker_by c r x k row (stood at) = for_on x c (g.asker c r x k row at)
  asker_by c r x k row (validates y response w here there mine is aim kept) =
      for_on x c (record { w = w; row = sym (ap t.exchange (sym (some_inj x y kept))) ∙ there; for_it = mine })
  asker_by c r x k row (busies d reported kept is) = for_on x c (g.asker c r x k row (stood_busy c r x d k row reported kept is))

  keeping_on : is_denied e.acts ≡ false → IsKeeping now_on (λ x r. selects_at t e x r || selected x r)
  keeping_on taken = record {
    chosen = λ c r x u after at. let p = passed_from step c r (Some x) u after at in chosen_by c r x p.k p.row taken p.from;
    asker = λ c r x u after at. let p = passed_from step c r (Some x) u after at in asker_by c r x p.k p.row p.from;
  }

abbrev Keeps : Contents → History → Type 0
Keeps contents h = IsKeeping (tables contents h) (λ x r. has_selected contents x r h)

denied_keeping : (contents : Contents) (h : History) (e : Entry) → Keeps contents h →
    IsKeeping (after_denied (tables contents h) e) (λ x r. has_selected contents x r (e ∷ h))
denied_keeping contents h e g = record {
  chosen = λ c r x k row at. or_right (selects_at (tables contents h) e x r) (has_selected contents x r h) (g.chosen c r x k row at);
  asker = λ c r x k row at. let f = g.asker c r x k row at in record { w = f.w; row = f.row; for_it = f.for_it };
}

keeps : (limits : Limits) (contents : Contents) (h : History) → may_begin limits contents ≡ true → IsRun limits contents h → Keeps contents h
keeps limits contents h may run =
    along limits contents (λ t h. IsKeeping t (λ x r. has_selected contents x r h)) may
    (record { chosen = λ c r x k row at. absurd (none_some k row); asker = λ c r x k row at. absurd (none_some k row) })
    (λ h e run later denied g. denied_keeping contents h e g)
    (λ h now flaw ev run s g. keeping_on (step_of limits (tables contents h) now flaw s.before.is_sound s.before.is_owned ev s.going)
    (turned_in_runs limits contents h may run).turns (λ x r. has_selected contents x r h) g s.real.taken)
    h run

-- THE REASONS

module _ (limits : Limits) (contents : Contents) (h : History) (may : may_begin limits contents ≡ true) (run : IsRun limits contents h) (now c r lo : ℕ)
    (hi : Option ℕ) (why : Why) (head : Rattle.hc_event.specs.declared.event.Response.Response) (k : Consumer)
    (row : (tables contents h).consumer c ≡ Some k) where
  abbrev t : Tables
  t = tables contents h

  -- whose an exchange is
  opening_is : (x : ℕ) → IsFor t x c → option_map (λ (z : Opened). z.c) (opening_of x h) ≡ Some c
  opening_is x f =
      let all = (exchanges_are_filtered limits contents h run).openings x in
      ap (option_map (λ (z : Opened). z.c)) (sym all) ∙
      (ap (λ (q : Option Exchange). option_map (λ (z : Opened). z.c) (option_map opened_in q)) f.row ∙ ap Some f.for_it)

  joined_is : (x q : ℕ) (w : Exchange) → t.exchange x ≡ Some w → w.joined ≡ Some q → joined_of contents x h ≡ Some q
  joined_is x q w there is =
      sym ((exchanges_are_filtered limits contents h run).joins x) ∙ (ap (option_and_then (λ (z : Exchange). z.joined)) there ∙ is)

  request_is : request_of c h ≡ Some k.request
  request_is = sym ((consumers_are_filtered limits contents h run).requests c) ∙ ap (option_map (λ (q : Consumer). q.request)) row

  first_joins : (y q : ℕ) (w : Exchange) (z : Option ℕ) → t.exchange y ≡ Some w → w.joined ≡ z → is_some z ≡ true → w.aim ≡ Some r →
      is_number (joined_of contents y h) r ≡ true
  first_joins y q w z there is joined aim = grind (arith, nat_tests, some_inj, aimed, joined_is, same_number)

  allows_by : (v : Representation) (y : Why) → t.representation r ≡ Some v → allowed v.head k.request now ≡ Some y → IsByAge y → IsReason contents h now c r y
  allows_by v y there is by = grind (arith, nat_tests, request_of, request_is)

  kept_place_of : (p : Place) (x : ℕ) → kept_by p ≡ Some x → (q : ℕ) × (p ≡ place.Passed q (Some x))
  kept_place_of p x is = grind (arith, nat_tests)

  pub reason_holds : ShownWhy t now c k r lo hi why head → IsReason contents h now c r why
  reason_holds (shown_for.fetched is) = subst (IsReason contents h now c r) (sym is) refl
  reason_holds (shown_for.first a y b at joined is) =
      let f = (carried limits contents h may run).is_owned.first_own c r a y b k row at in
      let aim = (aimed limits contents h may run).first c r a y b k f.w row at f.row in
      subst (IsReason contents h now c r) (sym is)
      (opening_is y f, or_left _ _ (first_joins y r f.w f.w.joined f.row refl (sym (ap has_joined f.row) ∙ joined) aim))
  reason_holds (shown_for.allows v there is) = allows_by v why there is (by_age v.head k.request now why is)
  reason_holds (shown_for.keeps x kept is why_it) =
      let had = kept_place_of k.place x kept in
      let g = keeps limits contents h may run in
      let waits = (turned_in_runs limits contents h may run).turns.passed c had.0 (Some x) k row had.1 in
      let at : k.place ≡ place.Passed r (Some x) = had.1 ∙ ap (λ n. place.Passed n (Some x)) (some_inj had.0 r (sym waits.current_is ∙ is)) in
      subst (IsReason contents h now c r) (sym why_it) (opening_is x (g.asker c r x k row at), or_right _ _ (g.chosen c r x k row at))
