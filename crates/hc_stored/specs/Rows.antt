-- What is kept of a representation beside its slot, and what is kept of it with that.
use Rattle.std.specs.Prelude.{◌≡◌, ℕ, max, ◌==◌, ◌&&◌, List, [], ◌∷◌, Bool, true, false, not, Option, Some, None, option_map, nat_eq, if◌then◌else◌}
use Rattle.std.specs.declared.hash.FoldHasher.{FoldHasher}
use Rattle.std.specs.declared.hash.BuildHasherDefault.{BuildHasherDefault}
use Rattle.std.specs.HashMap.{get, HashMap}
use Rattle.hc_text.specs.Sorted.{with_item, without, itself}
use Rattle.hc_record.specs.declared.kind.Kind.{Kind}
use Rattle.hc_record.specs.Head.{opaque_of}
use Rattle.hc_store.specs.Slots.{Held, Slots}
use Rattle.hc_stored.specs.declared.summary.HeadSummary.{HeadSummary}
use Rattle.hc_stored.specs.declared.entry.Entry.{Entry}
use Rattle.hc_entry.specs.ActiveEntries.{used_of}
use Rattle.hc_entry.specs.Used.{Used, alone_in, is_lost_in, unless_it, writer_in}
use Rattle.hc_stored.specs.Heads.{Summary}
use Rattle.hc_stored.specs.Kept.{Kept, alone_if, is_nobody}

pub record Row : Type 0 where
  pub key : List ℕ
  pub slot : ℕ
  pub summary : Summary
  pub reach : ℕ
  pub bound : List ℕ
  pub first : Option ℕ
  pub writer : Option ℕ
  pub is_lost : Bool
  pub alone : Option ℕ
  pub is_gone : Bool

-- IN THE CODE

abbrev pub summary_in : HeadSummary → Summary
summary_in summary = record {
  facts = summary.facts;
  status = summary.status;
  kind = summary.kind;
  total = summary.total;
  tag = opaque_of summary.tag;
  refuses_ranges = summary.refuses_ranges;
}

abbrev pub row_by : List ℕ → ℕ → Summary → ℕ → Used → Bool → Row
row_by key slot summary reach users gone = record {
  key = key;
  slot = slot;
  summary = summary;
  reach = reach;
  bound = users.bound;
  first = users.first;
  writer = writer_in users.way;
  is_lost = is_lost_in users.way;
  alone = alone_in users.way;
  is_gone = gone;
}

abbrev pub row_of : Entry → Row
row_of e = row_by e.key e.slot.n (summary_in e.summary) e.reach (used_of e.users) e.gone

abbrev pub EntryMap : Type 0
EntryMap = HashMap ℕ Entry (BuildHasherDefault FoldHasher)

abbrev pub Rows : Type 0
Rows = ℕ → Option Row

abbrev pub rows_of : EntryMap → Rows
rows_of entries r = option_map row_of (get nat_eq entries r)

-- WHAT IS KEPT

abbrev pub kept_of : Row → Held → Kept
kept_of row held = record {
  key = row.key;
  head = held.head;
  cells = held.cells;
  reach = row.reach;
  bound = row.bound;
  first = row.first;
  writer = row.writer;
  is_lost = row.is_lost;
  alone = row.alone;
  is_gone = row.is_gone;
}

abbrev pub kept_by : Slots → Option Row → Option Kept
kept_by slots None = None
kept_by slots (Some row) = option_map (kept_of row) (slots row.slot)

-- HOW A ROW CHANGES

-- one row is another, and every other is as it was
abbrev pub with_row : ℕ → Option Row → Rows → Rows
with_row r row rows q = if r == q then row else rows q

abbrev pub Changes : (Row → Row) → ℕ → Rows → Rows → Type 0
Changes f r before after = (q : ℕ) → after q ≡ with_row r (option_map f (before r)) before q

abbrev pub with_summary : Summary → Row → Row
with_summary summary row = record row { summary = summary }

abbrev pub with_last : Option Kind → Summary → Summary
with_last None summary = summary
with_last (Some kind) summary = record summary { kind = kind }

abbrev pub reaching : ℕ → Option Kind → Row → Row
reaching end last row = record row { summary = with_last last row.summary; reach = max row.reach end }

abbrev pub sealed_as : Kind → Option ℕ → Row → Row
sealed_as kind total row = record row { summary = record row.summary { kind = kind; total = total } }

abbrev pub used_by : ℕ → Row → Row
used_by c row = record row { bound = with_item itself c row.bound }

abbrev pub used_first_by : ℕ → Row → Row
used_first_by c row = record row { bound = with_item itself c row.bound; first = Some c }

abbrev pub unused_by : ℕ → Row → Row
unused_by c row = record row { bound = without itself c row.bound; first = unless_it c row.first }

abbrev pub going : Row → Row
going row = record row { is_gone = true }

abbrev pub losing : Option ℕ → Row → Row
losing alone row = record row { is_lost = true; alone = alone }

abbrev pub written_in : ℕ → Row → Row
written_in x row = record row { writer = Some x }

-- CURRENT

abbrev pub is_current : Option Row → Bool
is_current None = false
is_current (Some row) = not row.is_gone

-- OF ONE ROW

-- as it is founded, without bytes
abbrev pub founded_row : List ℕ → ℕ → Summary → ℕ → Bool → Option ℕ → Row
founded_row key slot summary c is_first writer = record {
  key = key;
  slot = slot;
  summary = summary;
  reach = 0;
  bound = c ∷ [];
  first = alone_if is_first c;
  writer = writer;
  is_lost = false;
  alone = None;
  is_gone = false;
}

abbrev pub slot_at : Option Row → Option ℕ
slot_at row = option_map (λ (a : Row). a.slot) row

abbrev pub users_at : Option Row → List ℕ
users_at None = []
users_at (Some row) = row.bound

abbrev pub is_lost_row : Option Row → Bool
is_lost_row None = false
is_lost_row (Some row) = row.is_lost

-- it is gone, and nobody is bound to it
abbrev pub is_over : Option Row → Bool
is_over None = false
is_over (Some row) = row.is_gone && is_nobody row.bound

abbrev pub is_unused_row : Option Row → Bool
is_unused_row None = false
is_unused_row (Some row) = is_nobody row.bound
