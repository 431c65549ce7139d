-- What a head that joins is about is kept; and no case says yet that a 304 selects what is stored.
--
-- By its case a head that joins brings bytes of a hole of what is named, and nothing joins what isn't kept. So there is
-- an aim, and it is kept (`joins_aim`, `aim_kept`). The code tells the case before it looks whether a 304 selects, so
-- that case isn't among them (`unvalidated_as`). `fits_as` joins what each case says, by the lemmas of `HeadReported`: the
-- head is good, founds, joins, or its consumer waits in its key. `take_head` and `take_case` use these.
use Rattle.std.{proofs.{lemmas.Bool.Decides.{nat_tests}, Common.{arith, ◌≡◌, ◌⊎◌, inl, inr, ℕ, true, false, Option, Some, None, refl, ap, sym, ◌∙◌, subst}}, specs.{Prelude.{is_some, IsSomeAnd, nat_eq, option_map}, HashMap.{get}}}
use Rattle.hc_text.proofs.Basics.{false_true}
use Rattle.hc_store.specs.declared.backend.Backend.{Ghosts}
use Rattle.hc_fields.specs.FieldList.{IsWithinLimits}
use Rattle.hc_effects.proofs.Vocabulary.{Need, Response, HeadCase, HeadView, head_case, head_refusal, need, case}
use Rattle.hc_stored.specs.{Entries.{shelf_of}, Kept.{Kept}, Shelf.{Shelf, is_kept}}
use Rattle.hc_exch.specs.{declared.row.{ExchangeView.{ExchangeView}, Open.{Open}}, Exchanges.{table_of}, Known.{open_view, view_of}}
use Rattle.hc_effects.proofs.{FoundBy.{CaseBy, case_by, first_joins, later_joins}, Basics.{some_row}}
use Rattle.hc_state.specs.{declared.rows.Rows.{Rows}, Heads.{aim_in, heard_view, is_bad_case, joins_kept, kept_at}, Joining.{IsAbout, IsAboutKept, joins_hole}, Stands.{Stands}}
use Rattle.hc_txn.specs.declared.transaction.Transaction.{Transaction as Consumer}
use Rattle.hc_on_leave.proofs.{HeadCases.{case_unvalidated}, HeardRows.{Headless, headless_of}}
use Rattle.hc_on_head.specs.Comings.{FitsCase}
use Rattle.hc_on_head.proofs.HeadReported.{founds_as, good_as, past_of_runs, viewed_as, waits_as_reported}

-- nothing joins what isn't kept
unkept : (n : Need) (response : Response) → joins_kept n None response ≡ true → {A : Type 0} → A
unkept need.Disabled response on = false_true on
unkept _ response on = false_true on

joins_aim : (s : Shelf) (n : Need) (aim : Option ℕ) (response : Response) → joins_kept n (kept_at s aim) response ≡ true →
    IsSomeAnd aim (λ q. is_kept s q ≡ true)
joins_aim s n aim response on = grind (arith, nat_tests)

joins_by_case : (v : HeadView) (k : HeadCase) → CaseBy v k → joins_hole k ≡ true → v.joins ≡ true
joins_by_case v k it2 on = grind (arith, nat_tests)

pub join_case : (k : HeadCase) → (k ≡ case.FirstJoins) ⊎ (k ≡ case.LaterJoins) → joins_hole k ≡ true
join_case k it1 = grind (arith, nat_tests)

pub good_join : (k : HeadCase) → (k ≡ case.FirstJoins) ⊎ (k ≡ case.LaterJoins) → is_bad_case k ≡ false
good_join k it1 = grind (arith, nat_tests)

-- BY WHAT THE CODE LOOKED UP

module _ {B : Type 0} {g : Ghosts B} (r : Rows B g) (x : ℕ) (found : Option ExchangeView) (v : ExchangeView) (aim : Option ℕ) (response : Response)
    (accepted : head_refusal (option_map open_view (table_of r.exchanges x).running) ≡ None)
    (viewed : found ≡ option_map (view_of x) (table_of r.exchanges x).running) (some : found ≡ Some v) (about : aim ≡ aim_in v.role) where
  bare : Headless (table_of r.exchanges x).running
  bare = headless_of (table_of r.exchanges x).running accepted

  aim_as : (o : Open) → (table_of r.exchanges x).running ≡ Some o → aim ≡ aim_in o.role
  aim_as o there = about ∙ ap (λ (z : ExchangeView). aim_in z.role) (viewed_as x (table_of r.exchanges x).running o found v there viewed some)

  aim_kept : IsAboutKept (shelf_of r.entries) (table_of r.exchanges x).running → IsSomeAnd aim (λ q. is_kept (shelf_of r.entries) q ≡ true)
  aim_kept keeps = subst (λ (n : Option ℕ). IsSomeAnd n (λ q. is_kept (shelf_of r.entries) q ≡ true)) (sym (aim_as bare.o bare.there)) (keeps bare.o bare.there)

  pub aim_some : IsAboutKept (shelf_of r.entries) (table_of r.exchanges x).running → is_some aim ≡ true
  aim_some keeps = grind (arith, nat_tests)

  pub kept_this : (q : ℕ) → aim ≡ Some q → IsAboutKept (shelf_of r.entries) (table_of r.exchanges x).running → is_kept (shelf_of r.entries) q ≡ true
  kept_this q is keeps = subst (λ (n : Option ℕ). IsSomeAnd n (λ q. is_kept (shelf_of r.entries) q ≡ true)) is (aim_kept keeps)

  pub about_this : (q : ℕ) → aim ≡ Some q → IsAbout q (table_of r.exchanges x).running
  about_this q is = λ o there. sym (aim_as o there) ∙ is

  module _ (k : HeadCase) (lives : is_some (get nat_eq r.consumers v.c) ≡ true)
      (reports : (q : Open) (u : Consumer) → (table_of r.exchanges x).running ≡ Some q → get nat_eq r.consumers v.c ≡ Some u →
      k ≡ head_case (heard_view q u (kept_at (shelf_of r.entries) aim) response)) where
    joins_as : joins_hole k ≡ true → IsAboutKept (shelf_of r.entries) (table_of r.exchanges x).running
    joins_as on = λ o there.
        let u = some_row (get nat_eq r.consumers v.c) lives in
        let view : HeadView = heard_view o u.0 (kept_at (shelf_of r.entries) aim) response in
        let joins = joins_by_case view k (subst (CaseBy view) (sym (reports o u.0 there u.1)) (case_by view)) on in
        subst (λ (n : Option ℕ). IsSomeAnd n (λ q. is_kept (shelf_of r.entries) q ≡ true)) (aim_as o there)
        (joins_aim (shelf_of r.entries) o.need aim response joins)

    unvalidated_as : k ≡ case.Validated → ⊥
    unvalidated_as is =
        let u = some_row (get nat_eq r.consumers v.c) lives in
        case_unvalidated (heard_view bare.o u.0 (kept_at (shelf_of r.entries) aim) response) refl (sym (reports bare.o u.0 bare.there u.1) ∙ is)

    -- what its case says
    pub fits_as : (now : ℕ) → ∥ Stands r ∥₁ → IsWithinLimits response.fields → (k ≡ case.NotValidated → ⊥) →
        FitsCase r (record { now = now; x = x; c = v.c }) k response
    fits_as now some_past within_limits apart = record {
      good = good_as r x response found v aim k accepted viewed some about reports lives;
      waits = waits_as_reported r x response found v aim k accepted viewed some about reports some_past (past_of_runs r) lives;
      founds = founds_as r x response found v aim k accepted viewed some about reports lives within_limits;
      joins = joins_as;
      selected = unvalidated_as;
      validated = apart;
    }
