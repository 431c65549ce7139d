-- Heads that bring bytes of holes of what is stored.
use Rattle.std.specs.Prelude.{◌≡◌, ℕ, List, Bool, true, false, Option, Some, None, IsSomeAnd, nat_eq, option_map}
use Rattle.std.specs.HashMap.{get}
use Rattle.hc_rules.specs.declared.room.Limits.{Limits}
use Rattle.hc_store.specs.declared.backend.Backend.{Ghosts}
use Rattle.hc_event.specs.declared.act.Act.{Act}
use Rattle.hc_event.specs.declared.act.Need.TheVariants as need
use Rattle.hc_event.specs.declared.event.Response.{Response}
use Rattle.hc_record.specs.Head.{Head}
use Rattle.hc_record.specs.declared.kind.Kind.TheVariants as kinds
use Rattle.hc_sparse.specs.Cells.{Covers, size}
use Rattle.hc_rules.specs.RangeTexts.{content_range_of}
use Rattle.hc_rules.specs.declared.heads.HeadCase.{HeadCase}
use Rattle.hc_rules.specs.declared.heads.HeadCase.TheVariants as case
use Rattle.hc_stored.specs.Entries.{shelf_of}
use Rattle.hc_stored.specs.Kept.{Kept, with_head, written_by}
use Rattle.hc_stored.specs.Shelf.{Becomes, Shelf, is_kept, same_order}
use Rattle.hc_exch.specs.declared.role.Role.TheVariants as role
use Rattle.hc_exch.specs.declared.row.Open.{Open}
use Rattle.hc_exch.specs.Exchanges as exch
use Rattle.hc_exch.specs.Exchanges.{table_of}
use Rattle.hc_exch.specs.Known.{Known, with_good_head, turned_into, length_by}
use Rattle.hc_model.specs.RepresentationRows.{is_last_part, resumes}
use Rattle.hc_model.specs.Rows.{Tables, Exchange, Representation}
use Rattle.hc_txn.specs.declared.transaction.Transaction.{Transaction as Consumer}
use Rattle.hc_txn.specs.Transactions.{without_own}
use Rattle.hc_state.specs.declared.rows.Rows.{Rows}
use Rattle.hc_state.specs.Changes.{ChangesAt}
use Rattle.hc_state.specs.Facts.{Facts}
use Rattle.hc_state.specs.Heads.{aim_in}
use Rattle.hc_state.specs.Leaving.{LeavesKey}
use Rattle.hc_state.specs.Renewals.{KeepsBeside, renewed_head}
use Rattle.hc_state.specs.Stands.{AnswersCase, RowsStand}

-- the head brings bytes of the hole
abbrev pub joins_hole : HeadCase → Bool
joins_hole case.FirstJoins = true
joins_hole case.LaterJoins = true
joins_hole _ = false

-- where it is open, it was opened about r
abbrev pub IsAbout : ℕ → Option Open → Type 0
IsAbout r running = (o : Open) → running ≡ Some o → aim_in o.role ≡ Some r

-- where it is open, it was opened about something that is kept
abbrev pub IsAboutKept : Shelf → Option Open → Type 0
IsAboutKept s running =
    (o : Open) → running ≡ Some o → IsSomeAnd (aim_in o.role) (λ r. is_kept s r ≡ true)

-- THE STORED HEAD

-- more comes of it
abbrev pub growing : Head → Head
growing head = record head { kind = kinds.Growing }

-- what is stored of r has its head renewed by the one of x, and more comes of it
pub record IsGrowing {B : Type 0} {g : Ghosts B} (a u : Rows B g) (x now r : ℕ)
    (response : Response) : Type 0 where
  pub rest : KeepsBeside a u
  pub head : (o : Open) (k : Kept) → (table_of a.exchanges x).running ≡ Some o →
      (shelf_of a.entries).kept r ≡ Some k →
      Becomes (option_map (with_head (renewed_head o.moment now response.fields (growing k.head))))
      same_order r (shelf_of a.entries) (shelf_of u.entries)

-- THE EXCHANGE

-- its head came, and it brings r
abbrev pub bringing : ℕ → Response → Known → Known
bringing r response known =
    with_good_head (length_by known.running response) (turned_into (role.Body r) known)

-- x brings r, and c, which waited for its head, waits for its key no more
pub record Brings {B : Type 0} {g : Ghosts B} (a u : Rows B g) (c x r : ℕ)
    (response : Response) : Type 0 where
  pub last_start : u.last_start ≡ a.last_start
  pub consumers : u.consumers ≡ a.consumers
  pub entries : u.entries ≡ a.entries
  pub line : IsSomeAnd (get nat_eq a.consumers c) (λ k. LeavesKey c k.request.key a.keys u.keys)
  pub exchanges : exch.Becomes (bringing r response) x a.exchanges u.exchanges

-- THE CONSUMER

-- x writes r for several, and isn't c's own any more
pub record Shares {B : Type 0} {g : Ghosts B} (a u : Rows B g) (c x r : ℕ) : Type 0 where
  pub last_start : u.last_start ≡ a.last_start
  pub exchanges : u.exchanges ≡ a.exchanges
  pub keys : u.keys ≡ a.keys
  pub consumers : ChangesAt a.consumers u.consumers c without_own
  pub entries : Becomes (option_map (written_by x)) same_order r (shelf_of a.entries)
      (shelf_of u.entries)
  pub faults : (shelf_of u.entries).faults ≡ (shelf_of a.entries).faults

-- WHETHER OTHERS MAY READ IT

-- all that is missing of it is the part that the head tells, from there on
abbrev pub LacksOnly : ℕ → Response → Option Kept → Type 0
LacksOnly from response None = ⊥
LacksOnly from response (Some k) =
    (is_last_part k.head.total (content_range_of response.fields) ≡ true)
    × ((size k.cells ≡ from) × Covers k.cells 0 from)

-- the exchange of c, which was opened for a hole of q, brings all that is missing of that, and c
-- asked for the whole
abbrev pub ResumesIs : {B : Type 0} {g : Ghosts B} → Rows B g → ℕ → ℕ → ℕ → Response → Bool → Type 0
ResumesIs r c x q response result =
    (limits : Limits) (t : Tables) (w : Exchange) (p : Representation) (k : Kept) (from to : ℕ) →
    Facts limits t → RowsStand limits r t → t.exchange x ≡ Some w → w.is_open ≡ true →
    w.need ≡ need.Hole from to → w.c ≡ c → t.representation q ≡ Some p → p.is_lost ≡ false →
    (shelf_of r.entries).kept q ≡ Some k → k.head.total ≡ p.head.total →
    result ≡ resumes t response w p

-- a head that joins is answered
abbrev pub AnswersJoins : {B : Type 0} {g : Ghosts B} → Rows B g → Rows B g → List Act → List Act → ℕ → ℕ → Response → Type 0
AnswersJoins r u before out now x response =
    (g : HeadCase) (goes : Option ℕ) → joins_hole g ≡ true →
    AnswersCase r u before out now x response g goes
