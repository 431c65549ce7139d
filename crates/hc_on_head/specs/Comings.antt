-- A head that comes: for whom it is, and what is known of it by its case.
use Rattle.std.specs.Prelude.{◌≡◌, ℕ, Bool, true, false, ◌||◌, Some, None, nat_eq, is_some, IsSomeAnd}
use Rattle.std.specs.HashMap.{get}
use Rattle.hc_store.specs.declared.backend.Backend.{Ghosts}
use Rattle.hc_event.specs.declared.event.Response.{Response}
use Rattle.hc_rules.specs.declared.heads.HeadCase.{HeadCase}
use Rattle.hc_rules.specs.declared.heads.HeadCase.TheVariants as case
use Rattle.hc_rules.specs.Lengths.{is_bad}
use Rattle.hc_rules.specs.Refusals.{head_refusal}
use Rattle.hc_stored.specs.Entries.{shelf_of}
use Rattle.hc_stored.specs.Shelf.{is_kept}
use Rattle.hc_exch.specs.Exchanges.{table_of}
use Rattle.hc_exch.specs.Known.{is_open, length_by}
use Rattle.hc_model.specs.Cases.{is_founding}
use Rattle.hc_state.specs.declared.rows.Rows.{Rows}
use Rattle.hc_state.specs.Handlers.{IsInKey}
use Rattle.hc_state.specs.Founding.{MayFound}
use Rattle.hc_state.specs.Heads.{IsAskedBy, IsPastStore, IsTimely, breaks_off, is_bad_case, is_past_case, puts_down, starts_anew}
use Rattle.hc_state.specs.Joining.{IsAbout, IsAboutKept, joins_hole}
use Rattle.hc_state.specs.Stands.{Stands, open_at}
use Rattle.hc_on_head.specs.declared.arrival.Arrival.{Arrival}

-- the rows represent tables, and the exchange is open without a head, for this consumer, which is live
pub record MayCome {B : Type 0} {g : Ghosts B} (r : Rows B g) (h : Arrival) : Type 0 where
  pub stands : ∥ Stands r ∥₁
  pub accepted : head_refusal (open_at r h.x) ≡ None
  pub asker : IsAskedBy h.c (table_of r.exchanges h.x).running
  pub live : is_some (get nat_eq r.consumers h.c) ≡ true

-- The head is of this case, and isn't a 304 to a conditional request: what that says of the head, of who waits for it,
-- and of what is stored.
pub record FitsCase {B : Type 0} {g : Ghosts B} (r : Rows B g) (h : Arrival) (k : HeadCase) (response : Response) : Type 0 where
  pub good : is_bad_case k ≡ false →
      is_bad (length_by (table_of r.exchanges h.x).running response) ≡ false
  pub waits : starts_anew k ≡ true →
      IsSomeAnd (get nat_eq r.consumers h.c) (IsInKey r.keys h.c)
  pub founds : is_founding (Some k) ≡ true → MayFound response
  pub joins : joins_hole k ≡ true →
      IsAboutKept (shelf_of r.entries) (table_of r.exchanges h.x).running
  pub selected : k ≡ case.Validated → ⊥
  pub validated : k ≡ case.NotValidated → ⊥

-- by this case nothing of the answer is used, and its exchange is closed
abbrev pub is_unused : HeadCase → Bool
is_unused case.FirstChanged = true
is_unused k = puts_down k || breaks_off k

-- the head came past the store, and is good unless its case says otherwise
pub record IsPast {B : Type 0} {g : Ghosts B} (r : Rows B g) (h : Arrival) (k : HeadCase) (response : Response) : Type 0 where
  pub opened : IsPastStore (table_of r.exchanges h.x).running
  pub case_is : is_past_case k ≡ true
  pub good : is_bad_case k ≡ false →
      is_bad (length_by (table_of r.exchanges h.x).running response) ≡ false

-- by this case the head founds a representation, and it may
pub record FoundsBy (k : HeadCase) (response : Response) : Type 0 where
  pub case_is : is_founding (Some k) ≡ true
  pub may : MayFound response

-- the exchange, where it is open, was opened about q, which is kept
pub record AsksAbout {B : Type 0} {g : Ghosts B} (r : Rows B g) (h : Arrival) (q : ℕ) : Type 0 where
  pub about : IsAbout q (table_of r.exchanges h.x).running
  pub there : is_kept (shelf_of r.entries) q ≡ true

-- q is kept, and the exchange is open, and was opened by this moment: its head may renew that of q
pub record MayRenew {B : Type 0} {g : Ghosts B} (r : Rows B g) (h : Arrival) (q : ℕ) : Type 0 where
  pub there : is_kept (shelf_of r.entries) q ≡ true
  pub running : is_open h.x (table_of r.exchanges) ≡ true
  pub timely : IsTimely h.now (table_of r.exchanges h.x).running
