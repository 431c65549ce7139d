-- What is kept of a representation with which a store begins.
use Rattle.std.specs.Prelude.{ℕ, List, [], ◌∷◌, false, None}
use Rattle.hc_sparse.specs.Cells.{nothing}
use Rattle.hc_sparse.specs.declared.run.Run.{Run}
use Rattle.hc_record.specs.Head.{Head}
use Rattle.hc_stored.specs.Heads.{Summary}
use Rattle.hc_stored.specs.Kept.{Kept, kept_with_bytes}
use Rattle.hc_stored.specs.Rows.{Row}

-- no byte is there, and nobody is bound
abbrev pub kept_at_beginning : List ℕ → Head → Kept
kept_at_beginning key head = record {
  key = key;
  head = head;
  cells = nothing;
  reach = 0;
  bound = [];
  first = None;
  writer = None;
  is_lost = false;
  alone = None;
  is_gone = false;
}

-- some runs are put, one after another
abbrev pub with_runs : List Run → Kept → Kept
with_runs [] k = k
with_runs (run ∷ runs) k = with_runs runs (kept_with_bytes run.at run.x run.bytes None k)

-- its row
abbrev pub begun_row : List ℕ → ℕ → Summary → Row
begun_row key slot summary = record {
  key = key;
  slot = slot;
  summary = summary;
  reach = 0;
  bound = [];
  first = None;
  writer = None;
  is_lost = false;
  alone = None;
  is_gone = false;
}
