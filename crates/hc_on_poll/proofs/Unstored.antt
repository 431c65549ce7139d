-- Who reads on where nothing is stored: its row, and what its reading looks at, as `ReadOn` takes them.
use Rattle.std.{proofs.Common.{◌≡◌, ℕ, ◌+◌, Bool, true, false, Option, Some, None, refl, ap, sym, ◌∙◌}, specs.{Prelude.{nat_eq, nat_lt, is_some, option_map, IsSomeAnd, if◌then◌else◌, ◌==◌, ◌&&◌}, HashMap.{get}, Option.{option_or}}}
use Rattle.hc_text.proofs.Basics.{false_true, some_inj}
use Rattle.hc_effects.proofs.Vocabulary.{ReadView, is_at_end, read_step}
use Rattle.hc_rules.specs.declared.reading.ReadStep.{ReadStep}
use Rattle.hc_store.specs.declared.backend.Backend.{Ghosts}
use Rattle.hc_sparse.specs.{Cells.{Cells, Cell}, Stretch.{stretch}}
use Rattle.hc_partial.specs.{declared.stitch.Part.{Part, TheVariants.{the_data as part}}, Parts.{IsNextPart}}
use Rattle.hc_sparse.proofs.StretchLemmas.{stretch-absent}
use Rattle.hc_stored.specs.{declared.view.EntryView.{EntryView}, Entries.{shelf_of}, Kept.{Kept}, Shelf.{cells_at}, Views.{view_of}}
use Rattle.hc_exch.specs.{Exchanges.{table_of}, Known.{Table}}
use Rattle.hc_effects.proofs.Tests.{none_some}
use Rattle.hc_state.specs.{declared.rows.Rows.{Rows}, Handlers.{most}, Leaving.{if_running, group_by, writer_group_of}, Reads.{IsRunAhead, IsShownAt, ReadViewIs, WaitsForNoHead, goes_alone, held_own}}
use Rattle.hc_txn.specs.{declared.transaction.Transaction.{Transaction as Consumer}, Views.{reading_by}}
use Rattle.hc_on_poll.specs.{Readers.{NextReadIs, ReadsUnstored, is_held, reader_of}, declared.read.Reader.{Reader}}
use Rattle.hc_state.proofs.{Maps.{known_of}, Words.{there}}

pub record IsUnstored {B : Type 0} {g : Ghosts B} (r : Rows B g) (a : Reader) (want : ℕ) (step : ReadStep) : Type 0 where
  pub k : Consumer
  pub at : get nat_eq r.consumers a.c ≡ Some k
  pub shown : IsShownAt a.r k
  pub is : a ≡ reader_of a.c a.r k
  pub heard : WaitsForNoHead (table_of r.exchanges) k
  pub before_end : is_at_end k.hi (k.lo + k.given) ≡ false
  pub ahead : IsRunAhead (shelf_of r.entries) a.r want None k
  pub view : ReadView
  pub view_is : ReadViewIs r a.r a.c None view k
  pub step_is : step ≡ read_step view

-- what is told of what is stored is told of what is kept
pub held_as : (table : Table) (o : Option Kept) (view : EntryView) (a : Reader) → option_map view_of o ≡ Some view →
    is_held table view a ≡ (goes_alone a.c o && nat_lt 0 (held_own table a.own))
held_as table None view a is = absurd (none_some view is)
held_as table (Some e) view a is = ap (λ (z : EntryView). is_held table z a) (sym (some_inj (view_of e) view is))

pub source_as : (table : Table) (o : Option Kept) (view : EntryView) (own : Option ℕ) → option_map view_of o ≡ Some view →
    option_or (if_running table own) (group_by table view) ≡ option_or (if_running table own) (writer_group_of table o)
source_as table None view own is = absurd (none_some view is)
source_as table (Some e) view own is = ap (λ (z : EntryView). option_or (if_running table own) (group_by table z)) (sym (some_inj (view_of e) view is))

-- nothing is ahead of it
none_read : (f : Cells) (o n : ℕ) → f o ≡ None → None ≡ (if n == 0 then None else stretch f o n)
none_read f o n missing = by_count (n == 0)
  where
    by_count : (b : Bool) → None ≡ (if b then None else stretch f o n)
    by_count true = refl
    by_count false = sym ((stretch-absent f o n).1 missing)

module _ {B : Type 0} {g : Ghosts B} (r : Rows B g) (a : Reader) (want : ℕ) (step : ReadStep) (k : Consumer) (at : get nat_eq r.consumers a.c ≡ Some k)
    (its : ReadsUnstored r a k) where
  abbrev table : Table
  table = table_of r.exchanges

  abbrev e : Option Kept
  e = (shelf_of r.entries).kept a.r

  abbrev cells : Cells
  cells = cells_at (shelf_of r.entries) a.r

  -- its view, where this part stands next
  abbrev seen : Part → Reader → ReadView
  seen next z = reading_by next (goes_alone z.c e && nat_lt 0 (held_own table z.own)) (option_or (if_running table z.own) (writer_group_of table e)) k

  by_part : (next : Part) → IsNextPart cells (k.lo + k.given) next → step ≡ read_step (seen next a) → IsUnstored r a want step
  by_part (part.Stored upto) is _ = false_true (sym (ap (λ (o : Option Cell). is_some o) its.missing) ∙ is.0)
  by_part (part.Hole upto) is step_is = record {
    k = k;
    at = at;
    shown = its.reads.shown;
    is = its.reads.is;
    heard = its.heard;
    before_end = its.before_end;
    ahead = none_read cells (k.lo + k.given) (most k.hi (k.lo + k.given) want) its.missing;
    view = seen (part.Hole upto) a;
    view_is = record { next = upto; next_is = is.1; is = ap (seen (part.Hole upto)) its.reads.is };
    step_is = step_is;
  }

pub unstored_of : {B : Type 0} {g : Ghosts B} (r : Rows B g) (a : Reader) (want : ℕ) (step : ReadStep) →
    IsSomeAnd (get nat_eq r.consumers a.c) (ReadsUnstored r a) → IsSomeAnd (get nat_eq r.consumers a.c) (NextReadIs r a step) → IsUnstored r a want step
unstored_of r a want step reads next =
    let (k, at, its) = there (get nat_eq r.consumers a.c) (ReadsUnstored r a) reads in
    let told = known_of (get nat_eq r.consumers a.c) k (NextReadIs r a step) at next in
    by_part r a want step k at its told.part told.part_is told.step_is
