-- A stored head is renewed by one that comes, where that is about it.
use Rattle.std.specs.Prelude.{◌≡◌, ℕ, Bool, true, false, Some, option_map}
use Rattle.hc_event.specs.declared.event.Response.{Response}
use Rattle.hc_record.specs.Head.{Head}
use Rattle.hc_validate.specs.Updates.{FieldPairs, updated_fields}
use Rattle.hc_validate.specs.Selection.{selects}
use Rattle.hc_store.specs.declared.backend.Backend.{Ghosts}
use Rattle.hc_stored.specs.Entries.{shelf_of}
use Rattle.hc_stored.specs.Kept.{Kept, with_head}
use Rattle.hc_stored.specs.Shelf.{Shelf, Becomes, Stays, same_order}
use Rattle.hc_exch.specs.Exchanges.{table_of}
use Rattle.hc_exch.specs.declared.row.Open.{Open}
use Rattle.hc_state.specs.declared.rows.Rows.{Rows}

-- the head that a later one, asked for and come at these moments, makes of a stored one (RFC 9111 section 3.2)
abbrev pub renewed_head : ℕ → ℕ → FieldPairs → Head → Head
renewed_head requested answered from head = record head {
  requested = requested;
  answered = answered;
  fields = updated_fields head.fields from;
}

-- what is kept of r has its head renewed
abbrev pub Renews : ℕ → ℕ → FieldPairs → ℕ → Shelf → Shelf → Type 0
Renews requested answered from r before after =
    (k : Kept) → before.kept r ≡ Some k →
    Becomes (option_map (with_head (renewed_head requested answered from k.head))) same_order r before after

-- where the 304 selects it, and else nothing changes
abbrev pub RenewsIf : Bool → ℕ → ℕ → FieldPairs → ℕ → Shelf → Shelf → Type 0
RenewsIf true requested answered from r before after = Renews requested answered from r before after
RenewsIf false requested answered from r before after = Stays before after

-- all but what is kept of representations stays
pub record KeepsBeside {B : Type 0} {g : Ghosts B} (r u : Rows B g) : Type 0 where
  pub last_start : u.last_start ≡ r.last_start
  pub consumers : u.consumers ≡ r.consumers
  pub exchanges : u.exchanges ≡ r.exchanges
  pub keys : u.keys ≡ r.keys

-- r has this head, renewed by that of x, which comes at this moment
pub record IsRenewed {B : Type 0} {g : Ghosts B} (a u : Rows B g) (x now r : ℕ) (head : Head) (response : Response) : Type 0 where
  pub rest : KeepsBeside a u
  pub renews : (o : Open) → (table_of a.exchanges x).running ≡ Some o →
      Becomes (option_map (with_head (renewed_head o.moment now response.fields head))) same_order r
      (shelf_of a.entries) (shelf_of u.entries)

-- a 304 of x selects r, or doesn't
pub record IsSelected {B : Type 0} {g : Ghosts B} (a u : Rows B g) (x now r : ℕ) (response : Response) (selected : Bool) : Type 0 where
  pub rest : KeepsBeside a u
  pub reports : (k : Kept) → (shelf_of a.entries).kept r ≡ Some k → selected ≡ selects k.head response
  pub head : (o : Open) → (table_of a.exchanges x).running ≡ Some o →
      RenewsIf selected o.moment now response.fields r (shelf_of a.entries) (shelf_of u.entries)

-- all stays
pub record IsUnrenewed {B : Type 0} {g : Ghosts B} (a u : Rows B g) : Type 0 where
  pub rest : KeepsBeside a u
  pub same : Stays (shelf_of a.entries) (shelf_of u.entries)
