-- What becomes of what an exchange brought, by what is kept of it, where that stops.
--
-- The code decides `Nothing`, `LetGo` or `Seal`, and `Means` says for each what the tables have then. The exchange is
-- known to bring what it founded or joined, or else nothing. Of that the entry decides: it is gone, or there. If it is
-- there, status and size on the shelf are those of the tables, so both call it unkeepable in the same case. `means_it`
-- is what `CloseHandler`, `SealHandler` and the stops of `hc_on_body` use.
use Rattle.std.{proofs.{Common.{◌≡◌, ◌≢◌, ℕ, ◌<◌, ◌^◌, Bool, true, false, Option, Some, None, refl, ap, sym, ◌∙◌, subst, arith}, lemmas.Bool.Decides.{nat_tests}}, specs.Prelude.{is_some, is_none, nat_eq, not, ◌&&◌, if◌then◌else◌}}
use Rattle.hc_text.proofs.Basics.{eqb-other, eqb-same, false_true, same_some as same_row, and_off as then_false}
use Rattle.hc_effects.proofs.Vocabulary.{Limits, Response, Route, route_of, is_unkeepable, going_with, family, is_keepable, brings_to, Tables, Exchange, Representation, route}
use Rattle.hc_effects.proofs.Tests.{none_some}
use Rattle.hc_store.specs.declared.backend.Backend.{Ghosts}
use Rattle.hc_record.specs.Head.{Head}
use Rattle.hc_sparse.specs.Cells.{EndsBy}
use Rattle.hc_sparse.proofs.SizeLemmas.{size-same}
use Rattle.hc_stored.specs.{Entries.{shelf_of}, Kept.{Kept}, Shelf.{Shelf}, Views.{view_of}}
use Rattle.hc_exch.specs.{Exchanges.{table_of}, declared.{row.Open.{Open}, role.Role.TheVariants.{the_data as role}}}
use Rattle.hc_model.specs.Rows as rows
use Rattle.hc_state.specs.{declared.{rows.Rows.{Rows}, stop.Disposition.{Disposition, TheVariants.{the_data as stop}}}, Facts.{Facts}, Kept.{IsRunning, KeepsRunning, role_of, role_awaited}, Stands.{RowsStand}, Stopped.{with_consumers}, Stops.{body_of, brought_by, may_complete, goes_with, stop_by, stop_at, stop_of, IsViewOf}, Stored.{IsEntry, KeepsEntry, KnowsLength, reported, unreported}}

-- nothing is stored by it that isn't gone
pub record IsApartNow (t : Tables) (x : ℕ) : Type 0 where
  pub apart : (q : ℕ) (p : Representation) → t.representation q ≡ Some p → p.is_gone ≡ false → brings_to q x (t.exchange x) ≡ false
  pub went : (p : Representation) → t.representation x ≡ Some p → is_unkeepable (Some p) ≡ true → p.is_gone ≡ true

-- a whole that can't be completed later
pub record GoesWith (t : Tables) (x q : ℕ) (w : Exchange) : Type 0 where
  pub here : q ≡ x
  pub founded : family x w ≡ x
  pub p : Representation
  pub row : t.representation x ≡ Some p
  pub unkept : is_unkeepable (Some p) ≡ true

-- what stays
pub record Stays (t s : Tables) (shelf : Shelf) (x q : ℕ) (w : Exchange) : Type 0 where
  pub e : Kept
  pub p : Representation
  pub of_q : family x w ≡ q
  pub headed : is_some w.head ≡ true
  pub row : t.representation q ≡ Some p
  pub kept : shelf.kept q ≡ Some e
  pub is : IsEntry s q e p
  pub stays : p.is_gone ≡ false
  pub is_reported : IsViewOf p e.cells (view_of e)
  pub keeps : going_with t (Some x) ≡ None

-- what the tables say of each
abbrev pub Means : Tables → Tables → Shelf → ℕ → Exchange → Disposition → Type 0
Means t s shelf x w stop.Nothing = IsApartNow t x
Means t s shelf x w (stop.LetGo q) = GoesWith t x q w
Means t s shelf x w (stop.Seal q) = Stays t s shelf x q w

module _ {B : Type 0} {g : Ghosts B} {limits : Limits} (r : Rows B g) (t : Tables) (facts : Facts limits t) (f : ℕ → Option rows.Consumer)
    (stands : RowsStand limits r (with_consumers f t))
    (x : ℕ) (w : Exchange) (row : t.exchange x ≡ Some w) (opened : w.is_open ≡ true) where
  abbrev s : Tables
  s = with_consumers f t

  abbrev shelf : Shelf
  shelf = shelf_of r.entries

  abbrev running : Option Open
  running = (table_of r.exchanges x).running

  pub record Runs : Type 0 where
    pub o : Open
    pub there : running ≡ Some o
    pub is : IsRunning s x o w

  pub runs : Runs
  runs = by_open running refl (subst (KeepsRunning s x running) row (stands.exchanges x).running)
    where
      by_open : (z : Option Open) → running ≡ z → KeepsRunning s x z (Some w) → Runs
      by_open None there keeps = false_true (sym keeps ∙ opened)
      by_open (Some o) there keeps = record { o = o; there = there; is = keeps }

  brought_is : brought_by running ≡ body_of (role_of s x w)
  brought_is = ap brought_by runs.there ∙ ap body_of runs.is.role

  -- what founded nothing has a head, or is about nothing
  pub head_there : (p : Representation) → t.representation (family x w) ≡ Some p → (h : Option Response) → w.head ≡ h → is_some h ≡ true
  head_there p there h is = grind (arith, nat_tests)

  none_is : {A : Type 0} (o : Option A) → is_some o ≡ true → is_none o ≡ false
  none_is o h = grind (arith, nat_tests)

  pub brought_some : (p : Representation) → t.representation (family x w) ≡ Some p → brought_by running ≡ Some (family x w)
  brought_some p there = grind (arith, nat_tests, none_is, head_there, brought_is)

  pub brought_none : t.representation (family x w) ≡ None → brought_by running ≡ None
  brought_none none = grind (arith, nat_tests, brought_is)

  founded_own : (p : Representation) → t.representation x ≡ Some p → family x w ≡ x
  founded_own p there = (let joined = facts.law.owned.founders x w p row there in rw joined refl)

  brings_only : (q : ℕ) → family x w ≢ q → brings_to q x (t.exchange x) ≡ false
  brings_only q ne = ap (brings_to q x) row ∙ then_false w.is_open (nat_eq (family x w) q) (eqb-other (family x w) q ne)

  apart_none : t.representation (family x w) ≡ None → IsApartNow t x
  apart_none none = record {
    apart = λ q p there stays. brings_only q (λ same. none_some p (sym none ∙ (ap t.representation same ∙ there)));
    went = λ p there unkept. none_some p (sym none ∙ (ap t.representation (founded_own p there) ∙ there));
  }

  apart_gone : (p : Representation) → t.representation (family x w) ≡ Some p → p.is_gone ≡ true → IsApartNow t x
  apart_gone p here gone = record {
    apart = λ q p2 there stays. brings_only q
        (λ same. false_true (sym stays ∙
        (ap (λ (z : Representation). z.is_gone) (same_row (t.representation q) p2 p there (sym (ap t.representation same) ∙ here)) ∙ gone)));
    went = λ p2 there unkept. ap (λ (z : Representation). z.is_gone)
        (same_row (t.representation x) p2 p there (sym (ap t.representation (founded_own p2 there)) ∙ here)) ∙ gone;
  }

  module _ (q : ℕ) (e : Kept) (p : Representation) (here : t.representation q ≡ Some p) (is : IsEntry s q e p) (stays : p.is_gone ≡ false) where
    total_as : e.head.total ≡ p.head.total
    total_as = grind (arith, nat_tests)

    not_lost : (b : Bool) → p.is_lost ≡ b → b ≡ false
    not_lost false lost = refl
    not_lost true lost = false_true (sym stays ∙ (facts.law.sound.rows q p here).store.lost_is_gone lost)

    stored_ends : EndsBy p.reach p.stored
    stored_ends n le =
        let rep = facts.law.sound.rows q p here in
        rep.store.all_stored (not_lost p.is_lost refl) n ∙ rep.store.ends n le

    reported_is : IsViewOf p e.cells (view_of e)
    reported_is = record {
      total = total_as;
      size = size-same e.cells p.stored is.cells ∙ sym (facts.sized q p here (λ gone. false_true (sym stays ∙ gone)));
      stored = is.cells;
      ends = stored_ends;
    }

    completes : may_complete (view_of e) ≡ is_keepable p
    unfolding is_keepable
    completes =
        let joins : is_some e.head.joining ≡ is_some p.head.joining = ap (λ (h : Head). is_some h.joining) is.head in
        let takes : Rattle.hc_stored.specs.Heads.refuses_ranges e.head ≡ Rattle.hc_model.specs.Gone.refuses_ranges p =
        ap (λ (h : Head). Rattle.hc_stored.specs.Heads.refuses_ranges h) is.head in
        rw (joins, total_as, reported_is.size, takes) refl

    status_as : e.head.status ≡ p.head.status
    status_as = ap (λ (h : Head). h.status) is.head

  -- what it means
  means : Means t s shelf x w (stop_of x running shelf)
  means = by_row (t.representation (family x w)) refl
    where
      going_off : (o : Option Representation) → (o ≡ t.representation x) → is_unkeepable o ≡ false → going_with t (Some x) ≡ None
      going_off o at off = (let kept : is_unkeepable (t.representation x) ≡ false = ap is_unkeepable (sym at) ∙ off in rw kept refl)

      unkeepable_by : (e : Kept) (p : Representation) → t.representation (family x w) ≡ Some p → IsEntry s (family x w) e p → p.is_gone ≡ false →
          goes_with x (family x w) (view_of e) ≡ (nat_eq x (family x w) && is_unkeepable (Some p))
      unkeepable_by e p here is stays =
          rw (status_as (family x w) e p here is stays, completes (family x w) e p here is stays) (grind (arith, nat_tests))

      goes_keeps : (e : Kept) (p : Representation) → t.representation (family x w) ≡ Some p → goes_with x (family x w) (view_of e) ≡ false →
          goes_with x (family x w) (view_of e) ≡ (nat_eq x (family x w) && is_unkeepable (Some p)) → (o : Option Representation) →
          t.representation x ≡ o → is_unkeepable o ≡ false
      goes_keeps e p here off alike None at = refl
      goes_keeps e p here off alike (Some p2) at =
          let own = founded_own p2 at in
          let same = same_row (t.representation x) p2 p at (sym (ap t.representation own) ∙ here) in
          let tests : (nat_eq x (family x w) && is_unkeepable (Some p)) ≡ false = sym alike ∙ off in
          ap (λ (z : Representation). is_unkeepable (Some z)) same ∙ drop_first (nat_eq x (family x w)) (is_unkeepable (Some p)) (rw own (eqb-same x)) tests
        where
          drop_first : (a b : Bool) → a ≡ true → (a && b) ≡ false → b ≡ false
          drop_first true b on off = off
          drop_first false b on off = false_true on

      both_are : (a b : Bool) → (a && b) ≡ true → (a ≡ true) × (b ≡ true)
      both_are true b on = (refl, on)
      both_are false b on = false_true on

      by_goes : (e : Kept) (p : Representation) → t.representation (family x w) ≡ Some p → shelf.kept (family x w) ≡ Some e → IsEntry s (family x w) e p →
          p.is_gone ≡ false → (b : Bool) → goes_with x (family x w) (view_of e) ≡ b →
          Means t s shelf x w (if b then stop.LetGo (family x w) else stop.Seal (family x w))
      by_goes e p here kept is stays true goes =
          let tests = both_are (nat_eq x (family x w)) (is_unkeepable (Some p)) (sym (unkeepable_by e p here is stays) ∙ goes) in
          let own : family x w ≡ x = (let test = tests.0 in grind (arith, nat_tests, test)) in
          record { here = own; founded = own; p = p; row = ap t.representation (sym own) ∙ here; unkept = tests.1 }
      by_goes e p here kept is stays false off = record {
        e = e;
        p = p;
        of_q = refl;
        headed = head_there p here w.head refl;
        row = here;
        kept = kept;
        is = is;
        stays = stays;
        is_reported = reported_is (family x w) e p here is stays;
        keeps = going_off (t.representation x) refl (goes_keeps e p here off (unkeepable_by e p here is stays) (t.representation x) refl);
      }

      by_gone : (e : Kept) (p : Representation) → t.representation (family x w) ≡ Some p → shelf.kept (family x w) ≡ Some e → IsEntry s (family x w) e p →
          (b : Bool) → e.is_gone ≡ b →
          Means t s shelf x w (if b then stop.Nothing else if goes_with x (family x w) (view_of e) then stop.LetGo (family x w) else stop.Seal (family x w))
      by_gone e p here kept is true gone = apart_gone p here (sym is.is_gone ∙ gone)
      by_gone e p here kept is false stays = by_goes e p here kept is (sym is.is_gone ∙ stays) (goes_with x (family x w) (view_of e)) refl

      by_kept : (p : Representation) → t.representation (family x w) ≡ Some p → (k : Option Kept) → shelf.kept (family x w) ≡ k →
          KeepsEntry s (family x w) k (Some p) → Means t s shelf x w (stop_by x (family x w) k)
      by_kept p here None kept each = apart_gone p here each.gone
      by_kept p here (Some e) kept each = by_gone e p here kept each e.is_gone refl

      by_row : (o : Option Representation) → t.representation (family x w) ≡ o → Means t s shelf x w (stop_of x running shelf)
      by_row None at = subst (Means t s shelf x w) (sym (ap (stop_at x shelf) (brought_none at))) (apart_none at)
      by_row (Some p) at = subst (Means t s shelf x w) (sym (ap (stop_at x shelf) (brought_some p at)))
          (by_kept p at (shelf.kept (family x w)) refl (subst (KeepsEntry s (family x w) (shelf.kept (family x w))) at (stands.entries.each (family x w))))

  -- what the code decided means that
  pub means_it : (decided : Disposition) → decided ≡ stop_of x running shelf → Means t s shelf x w decided
  means_it decided is = subst (Means t s shelf x w) (sym is) means
