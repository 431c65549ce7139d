-- What is told of what is kept.
use Rattle.std.specs.Prelude.{ℕ, length, List, [], Bool, false, ◌&&◌, not, Option, Some, None, is_some, is_none}
use Rattle.hc_text.specs.Sorted.{has, itself}
use Rattle.hc_sparse.specs.Cells.{size}
use Rattle.hc_fresh.specs.declared.facts.HeadFacts.{HeadFacts}
use Rattle.hc_fresh.specs.Facts.{head_facts}
use Rattle.hc_stored.specs.declared.view.EntryView.{EntryView}
use Rattle.hc_stored.specs.Heads.{refuses_ranges}
use Rattle.hc_stored.specs.Kept.{Kept}
use Rattle.hc_stored.specs.Rows.{Row}

abbrev pub view_of : Kept → EntryView
view_of k = record {
  status = k.head.status;
  kind = k.head.kind;
  total = k.head.total;
  has_tag = is_some k.head.joining;
  refuses_ranges = refuses_ranges k.head;
  reach = k.reach;
  size = size k.cells;
  users = length k.bound;
  first = k.first;
  writer = k.writer;
  is_lost = k.is_lost;
  alone = k.alone;
  is_gone = k.is_gone;
}

abbrev pub key_in : Kept → List ℕ
key_in k = k.key

abbrev pub facts_in : Kept → HeadFacts
facts_in k = head_facts k.head

abbrev pub tag_in : Option Kept → Option (List ℕ)
tag_in None = None
tag_in (Some k) = k.head.joining

abbrev pub bound_in : Option Kept → List ℕ
bound_in None = []
bound_in (Some k) = k.bound

-- a write of it was refused
abbrev pub is_lost_at : Option Kept → Bool
is_lost_at None = false
is_lost_at (Some k) = k.is_lost

-- it isn't gone, and the consumer isn't bound to it
abbrev pub admits : ℕ → Option Kept → Bool
admits c None = false
admits c (Some k) = not k.is_gone && not (has itself c k.bound)

-- and nobody came to it alone
abbrev pub admits_first : ℕ → Option Kept → Bool
admits_first c None = false
admits_first c (Some k) = not k.is_gone && not (has itself c k.bound) && is_none k.first

abbrev pub has_user : ℕ → Option Kept → Bool
has_user c kept = has itself c (bound_in kept)

-- of a row of which so many bytes are stored
abbrev pub view_of_row : Row → ℕ → EntryView
view_of_row row stored = record {
  status = row.summary.status;
  kind = row.summary.kind;
  total = row.summary.total;
  has_tag = is_some row.summary.tag;
  refuses_ranges = row.summary.refuses_ranges;
  reach = row.reach;
  size = stored;
  users = length row.bound;
  first = row.first;
  writer = row.writer;
  is_lost = row.is_lost;
  alone = row.alone;
  is_gone = row.is_gone;
}
