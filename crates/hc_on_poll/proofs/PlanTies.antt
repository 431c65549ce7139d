-- The plan of a consumer, but for what is current, is that of the tables.
--
-- The plan looks at since when a consumer waits only where it waits with others, and there the code keeps the same
-- (`since_unread`, `since_is`). Class and place are as kept, and the turn of its key is told alike, by `TurnTies`
-- (`turns_are`). So with the same of what is current the plan is the same (`plans_are`). Where the code doesn't look at
-- what is current, by `looks_at_stored`, the plan is the same without it (`unlooked`). `PlanHandlers` uses these.
use Rattle.std.{proofs.{Common.{◌≡◌, ℕ, List, Bool, true, false, cond, eqb, Option, Some, None, refl, ap, sym, ◌∙◌, inl, inr}, lemmas.Bool.{cases_Bool}}, specs.Prelude.{is_none, unwrap_or, ◌&&◌}}
use Rattle.hc_text.proofs.Basics.{false_true}
use Rattle.hc_effects.proofs.Vocabulary.{Limits, Why, Request, Candidate, Plan, PlanView, RequestClass, Wanted, plan_of, bare_plan, in_time, from_store, queues, by_current, by_why, plan_on, by_wanted, by_exclusive, by_hole, by_bound, why_by, class_of, Place, kept_by, has_passed, Tables, IsListed, wanted as wants}
use Rattle.hc_store.specs.declared.backend.Backend.{Ghosts}
use Rattle.hc_range.specs.declared.range.Span.{Span}
use Rattle.hc_entry.specs.{Keys.{kept_of, line_of}, Lines.{turn_with}}
use Rattle.hc_model.specs.Lines as lines
use Rattle.hc_model.specs.Planning as planning
use Rattle.hc_model.specs.Rows as rows
use Rattle.hc_state.specs.{declared.rows.Rows.{Rows}, Kept.{IsKept}, Plans.{plan_view, looks_at_stored}, Stands.{RowsStand}}
use Rattle.hc_txn.specs.declared.transaction.Transaction.{Transaction as Consumer}
use Rattle.hc_state.proofs.{TurnTies.{turn_with_is}, Classes.{class_is}}

-- SINCE WHEN IT WAITS

then_same : (q : Bool) (a b x y : Plan) → q ≡ true → a ≡ x → cond q a b ≡ cond q x y
then_same true a b x y on same = same
then_same false a b x y on same = false_true on

module _ (v : PlanView) (a b : ℕ) where
  abbrev va : PlanView
  va = record v { since = a }

  abbrev vb : PlanView
  vb = record v { since = b }

  bounds_same : (span hole : Span) (o : Option ℕ) → by_bound va span hole o ≡ by_bound vb span hole o
  bounds_same span hole None = refl
  bounds_same span hole (Some d) = refl

  holes_same : (s : Candidate) (why : Why) (span : Span) (o : Option Span) → by_hole va s why span o ≡ by_hole vb s why span o
  holes_same s why span None = refl
  holes_same s why span (Some hole) = bounds_same span hole s.least_bound

  exclusives_same : (s : Candidate) (why : Why) (span : Span) (o : Option ℕ) → by_exclusive va s why span o ≡ by_exclusive vb s why span o
  exclusives_same s why span None = holes_same s why span s.hole
  exclusives_same s why span (Some d) = refl

  wants_same : (s : Candidate) (why : Why) (w : Wanted) → by_wanted va s why w ≡ by_wanted vb s why w
  wants_same s why (wants.Interval span) = elim (cases_Bool s.writer_group) [
    | inl is ↦ rw is refl
    | inr is ↦ rw is (exclusives_same s why span s.exclusive)
  ]
  wants_same s why _ = refl

  reads_same : (s : Candidate) (why : Why) → plan_on va s why ≡ plan_on vb s why
  reads_same s why = elim (cases_Bool (is_none v.class.range && s.writer_group)) [
    | inl is ↦ rw is refl
    | inr is ↦ rw is (wants_same s why s.span)
  ]

  whys_same : (s : Candidate) (o : Option Why) → by_why va s o ≡ by_why vb s o
  whys_same s None = refl
  whys_same s (Some why) = reads_same s why

  currents_same : (o : Option Candidate) → by_current va o ≡ by_current vb o
  currents_same None = refl
  currents_same (Some s) = elim (cases_Bool s.vary) [
    | inl is ↦ rw is (whys_same s (why_by v.kept s.allowed))
    | inr is ↦ rw is refl
  ]

  bare_same : bare_plan va ≡ bare_plan vb
  bare_same = elim (cases_Bool v.class.disabled) [
    | inl is ↦ rw is refl
    | inr is ↦ elim (cases_Bool (queues v)) [
      | inl waits ↦ rw (is, waits) refl
      | inr waits ↦ elim (cases_Bool v.class.bypassing) [
        | inl past ↦ rw (is, waits, past) refl
        | inr past ↦ rw (is, waits, past) (currents_same v.current)
      ]
    ]
  ]

  -- that is looked at only where it waits with others
  pub since_unread : (v.class.disabled ≡ false → v.class.only ≡ false → a ≡ b) → plan_of va ≡ plan_of vb
  unfolding plan_of
  since_unread alike = elim (cases_Bool v.class.only) [
    | inl is ↦ then_same v.class.only (from_store (bare_plan va)) (in_time va (bare_plan va)) (from_store (bare_plan vb)) (in_time vb (bare_plan vb)) is
        (ap from_store bare_same)
    | inr is ↦ elim (cases_Bool v.class.disabled) [
      | inl off ↦ rw (is, off) refl
      | inr on ↦ ap (λ (n : ℕ). plan_of (record v { since = n })) (alike on is)
    ]
  ]

-- WHAT IS CURRENT

abbrev pub IsUnlooked : PlanView → Option Candidate → Type 0
IsUnlooked v now = plan_of (record v { current = now }) ≡ plan_of (record v { current = None })

-- it isn't looked at
pub unlooked : (v : PlanView) (now : Option Candidate) → looks_at_stored v ≡ false → (v.class.bypassing ≡ true → v.passed ≡ false) → IsUnlooked v now
unfolding plan_of
unlooked v now off unpassed = elim (cases_Bool v.class.disabled) [
  | inl disabled ↦ rw disabled refl
  | inr cached ↦ elim (cases_Bool v.class.bypassing) [
    | inl past ↦ elim (cases_Bool (eqb v.turn v.c)) [
      | inl mine ↦ rw (cached, past, unpassed past, mine) refl
      | inr others ↦ elim (cases_Bool v.class.only) [
        | inl only ↦ rw (cached, past, unpassed past, others, only) refl
        | inr only ↦ rw (cached, past, unpassed past, others, only) refl
      ]
    ]
    | inr plain ↦ elim (cases_Bool v.passed) [
      | inl passed ↦ false_true (sym off ∙ rw (cached, plain, passed) refl)
      | inr passed ↦ elim (cases_Bool (eqb v.turn v.c)) [
        | inl mine ↦ false_true (sym off ∙ rw (cached, plain, passed, mine) refl)
        | inr others ↦ elim (cases_Bool v.class.only) [
          | inl only ↦ false_true (sym off ∙ rw (cached, plain, passed, others, only) refl)
          | inr only ↦ rw (cached, plain, passed, others, only) refl
        ]
      ]
    ]
  ]
]

-- THE PLAN OF THE TABLES

abbrev view_as : RequestClass → ℕ → ℕ → ℕ → Place → ℕ → Option Candidate → PlanView
view_as class now since c p turn o =
    record { moment = now; since = since; c = c; class = class; passed = has_passed p; kept = kept_by p; turn = turn; current = o }

module _ {B : Type 0} {g : Ghosts B} {limits : Limits} (r : Rows B g) (t : Tables) (now c : ℕ) (k : Consumer) (v : rows.Consumer)
    (stands : RowsStand limits r t) (lists : IsListed t) (kept : IsKept t k v) where
  pub turns_are : unwrap_or (turn_with c (line_of r.keys k.request.key)) c ≡ lines.turn_with t v.request.key c
  turns_are =
      ap (λ (key : List ℕ). unwrap_or (turn_with c (line_of r.keys key)) c) (ap (λ (q : Request). q.key) kept.request)
      ∙ turn_with_is t v.request.key (kept_of r.keys v.request.key) lists (stands.keys v.request.key) c

  since_is : (class : RequestClass) → class ≡ class_of v.request → class.disabled ≡ false → class.only ≡ false → k.since ≡ v.since
  unfolding class_of
  since_is class is disabled only = kept.since (sym (ap (λ (z : RequestClass). z.disabled) is) ∙ disabled) (sym (ap (λ (z : RequestClass). z.only) is) ∙ only)

  -- with whatever is current
  pub plans_are : (o : Option Candidate) →
      plan_of (record (plan_view r now c k) { current = o }) ≡ plan_of (record (planning.plan_view t now c v) { current = o })
  plans_are o =
      let turn : ℕ = unwrap_or (turn_with c (line_of r.keys k.request.key)) c in
      since_unread (view_as k.class now k.since c k.place turn o) k.since v.since (since_is k.class (class_is kept))
      ∙ (ap (λ (class : RequestClass). plan_of (view_as class now v.since c k.place turn o)) (class_is kept)
      ∙ (ap (λ (p : Place). plan_of (view_as (class_of v.request) now v.since c p turn o)) kept.place
      ∙ ap (λ (n : ℕ). plan_of (view_as (class_of v.request) now v.since c v.place n o)) turns_are))
