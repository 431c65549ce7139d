-- Whom a consumer leaves behind: what its writer group answers is what is left of its exchange.
--
-- A writer group that is on has a group, and whoever is bound is a member of that (`group_there`). So others stay in
-- the group exactly where others are bound (`nobody_left`, `stays_as`), and the exchange of the writing is left where
-- none do (`last_is`). `remove_consumer` uses this; `own_known` is for `leave`.
use Rattle.std.{proofs.Common.{◌≡◌, ℕ, List, [], ◌∷◌, Bool, true, false, Option, Some, None, refl, ap, ap₂, sym, ◌∙◌, subst}, specs.{Prelude.{nat_eq, map, option_map, IfSome, IsSomeAnd, ◌==◌, if◌then◌else◌}, List.{list_all}, Option.{option_or}}}
use Rattle.hc_text.proofs.Basics.{false_true}
use Rattle.hc_effects.proofs.Tests.{none_some}
use Rattle.hc_event.specs.declared.place.Place.{Place}
use Rattle.hc_event.specs.declared.place.Place.TheVariants as place
use Rattle.hc_exch.specs.{Exchanges.{table_of}, Known.{Table}}
use Rattle.hc_model.specs.Currents.{is_number}
use Rattle.hc_rules.specs.declared.survivor.Member.{Member}
use Rattle.hc_text.specs.Sorted.{without}
use Rattle.hc_entry.specs.Used.{left_answer}
use Rattle.hc_store.specs.declared.backend.Backend.{Ghosts}
use Rattle.hc_stored.specs.{declared.entries.Entries.{Entries}, Entries.{shelf_of}, Grouped.{group_of}, Groups.{HasMembers, IsGroupOf, exchange_of}, Kept.{Kept}, Views.{bound_in, has_user}}
use Rattle.hc_state.specs.{declared.rows.Rows.{Rows}, Leaving.{IsUserAt, if_running, last_read, left_of, writer_group_of}}
use Rattle.hc_txn.specs.declared.transaction.Transaction.{Transaction as Consumer}
use Rattle.hc_writers.specs.{Group.{Group, consumer_of, is_nobody, left_as, without_member}, declared.writers.Left.{Left}}
use Rattle.hc_writers.specs.declared.writers.Left.TheVariants as left
use Rattle.hc_on_leave.specs.Groups.{IsGroupAt, LeavesGroup, is_keepable_at, left_at, unless_others, writer_group_at}

-- THE GROUP

-- nobody stays in the group exactly where nobody else is bound
pub nobody_left : (c : ℕ) (ms : List Member) → is_nobody (without consumer_of c ms) ≡ list_all (λ d. d == c) (map consumer_of ms)
nobody_left c [] = refl
nobody_left c (m ∷ ms) = by_test (nat_eq m.c c) refl (nobody_left c ms)
  where
    by_test : (b : Bool) → nat_eq m.c c ≡ b → is_nobody (without consumer_of c ms) ≡ list_all (λ d. d == c) (map consumer_of ms) →
        is_nobody (without consumer_of c (m ∷ ms)) ≡ list_all (λ d. d == c) (map consumer_of (m ∷ ms))
    by_test true on later = rw on later
    by_test false off later = rw off refl

-- the writer group that is on has a group, and of that whoever is bound is a member
pub record HasGroup (k : Kept) (group : Option Group) : Type 0 where
  pub w : Group
  pub is : group ≡ Some w
  pub members : map consumer_of w.members ≡ k.bound

if_none : (table : Table) (o : Option ℕ) (x : ℕ) → if_running table o ≡ Some x → (y : ℕ) × (o ≡ Some y)
if_none table None x is = none_some x is
if_none table (Some y) x is = (y, refl)

pub group_there : (table : Table) (k : Kept) (group : Option Group) (x : ℕ) → IsGroupOf group k → writer_group_of table (Some k) ≡ Some x → HasGroup k group
group_there table k group x is on = by_lost k.is_lost refl on
  where
    by_group : (o : Option Group) → group ≡ o → exchange_of o ≡ k.writer → if_running table k.writer ≡ Some x → HasGroup k group
    by_group None at named runs = none_some (if_none table k.writer x runs).0 (named ∙ (if_none table k.writer x runs).1)
    by_group (Some w) at named runs = record {
      w = w;
      is = at;
      members = (subst (λ (o : Option Group). IfSome o (HasMembers k.bound k.reach)) at is.members).members;
    }

    by_lost : (b : Bool) → k.is_lost ≡ b → (if b then None else if_running table k.writer) ≡ Some x → HasGroup k group
    by_lost true lost runs = none_some x runs
    by_lost false fresh runs = by_group group refl (is.exchange fresh) runs

module _ (table : Table) (c : ℕ) (keepable : Bool) (k : Kept) (group : Option Group) (is : IsGroupOf group k) (x : ℕ)
    (on : writer_group_of table (Some k) ≡ Some x) where
  there : HasGroup k group
  there = group_there table k group x is on

  answer_is : option_map (left_answer keepable c) group ≡ Some (left_as keepable (without_member c there.w))
  answer_is = ap (option_map (left_answer keepable c)) there.is

  alone_is : is_nobody (without consumer_of c there.w.members) ≡ list_all (λ d. d == c) k.bound
  alone_is = nobody_left c there.w.members ∙ ap (list_all (λ d. d == c)) there.members

  -- whether others stay
  pub stays_as : (y : Option ℕ) → unless_others (option_map (left_answer keepable c) group) y ≡ (if list_all (λ d. d == c) k.bound then y else None)
  stays_as y = ap (λ o. unless_others o y) answer_is ∙
      (by_test (is_nobody (without consumer_of c there.w.members)) keepable ∙ ap (λ (b : Bool). if b then y else None) alone_is)
    where
      by_test : (b keep : Bool) → unless_others (Some (if b then (if keep then left.LastKeep else left.LastDoom) else left.Others)) y ≡ (if b then y else None)
      by_test true true = refl
      by_test true false = refl
      by_test false keep = refl

-- WHAT IS LEFT

module _ {B : Type 0} {g : Ghosts B} (table : Table) (e : Entries B g) (c : ℕ) where
  last_of : (q : ℕ) (o : Option Kept) → has_user c o ≡ true → IfSome o (IsGroupOf (group_of e q)) → (y : Option ℕ) → writer_group_of table o ≡ y
      → (if list_all (λ d. d == c) (bound_in o) then writer_group_of table o else None) ≡ unless_others
      (option_map (left_answer (is_keepable_at o) c) (group_of e q)) (writer_group_of table o)
  last_of q None mine group y on = false_true mine
  last_of q (Some k) mine group (Some x) on = sym (stays_as table c (is_keepable_at (Some k)) k (group_of e q) group x on (writer_group_of table (Some k)))
  last_of q (Some k) mine group None on =
      let answer : Option Left = option_map (left_answer (is_keepable_at (Some k)) c) (group_of e q) in
      ap (λ (z : Option ℕ). if list_all (λ d. d == c) k.bound then z else None) on ∙
      (by_test (list_all (λ d. d == c) k.bound) answer ∙ ap (unless_others answer) (sym on))
    where
      nothing : Option ℕ
      nothing = None

      by_test : (b : Bool) (o : Option Left) → (if b then nothing else nothing) ≡ unless_others o nothing
      by_test true None = refl
      by_test false None = refl
      by_test true (Some left.Others) = refl
      by_test false (Some left.Others) = refl
      by_test true (Some left.LastKeep) = refl
      by_test false (Some left.LastKeep) = refl
      by_test true (Some left.LastDoom) = refl
      by_test false (Some left.LastDoom) = refl

  last_is : (p : Place) → IsUserAt p c (shelf_of e) → IsGroupAt p e →
      last_read table (shelf_of e) c p ≡ unless_others (left_at p c e) (writer_group_at table (shelf_of e) p)
  last_is (place.Bound q lo hi how) mine group = last_of q ((shelf_of e).kept q) mine group (writer_group_of table ((shelf_of e).kept q)) refl
  last_is place.Line mine group = refl
  last_is (place.Passed q how) mine group = refl
  last_is (place.Turn y) mine group = refl
  last_is (place.Direct y) mine group = refl
  last_is (place.Down why) mine group = refl
  last_is place.Over mine group = refl

pub left_over_is : {B : Type 0} {g : Ghosts B} (r : Rows B g) (c : ℕ) (k : Consumer) (own shared result : Option ℕ) (answer : Option Left) →
    IsUserAt k.place c (shelf_of r.entries) → own ≡ if_running (table_of r.exchanges) k.own →
    shared ≡ writer_group_at (table_of r.exchanges) (shelf_of r.entries) k.place → LeavesGroup k.place c r.entries answer
    → result ≡ option_or own (unless_others answer shared) → result ≡ left_of r c k
left_over_is r c k own shared result answer user own_is shared_is leaves is =
    is ∙ ap₂ (λ (a b : Option ℕ). option_or a b) own_is
    (ap₂ unless_others leaves.answer_is shared_is ∙ sym (last_is (table_of r.exchanges) r.entries c k.place user leaves.group))

-- whether it is its own exchange is told of the row
pub own_known : (o : Option Consumer) (k : Consumer) (c x : ℕ) (alone : Option ℕ) → o ≡ Some k → alone ≡ (if is_number k.own x then Some c else None) →
    IsSomeAnd o (λ m. alone ≡ (if is_number m.own x then Some c else None))
own_known o k c x alone at is = rw at is
