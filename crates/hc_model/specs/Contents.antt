-- What a store has once nobody is live.
use Rattle.std.specs.Prelude.{ℕ, zero, suc, ◌+◌, List, [], ◌∷◌, Bool, false, Option, Some, None, if◌then◌else◌, ◌==◌, ◌&&◌, filter, filter_map, reverse, length}
use Rattle.std.specs.Option.{option_map}
use Rattle.hc_sparse.specs.Cells.{Cells, Cell}
use Rattle.hc_sparse.specs.declared.run.Run.{Run}
use Rattle.hc_record.specs.Head.{sealed_head}
use Rattle.hc_model.specs.Entries.{Content, Contents}
use Rattle.hc_model.specs.Rows.{Tables, Representation}
use Rattle.hc_model.specs.Currents.{is_current}
use Rattle.hc_model.specs.Reading.{bound}
use Rattle.hc_model.specs.Kinds.{kind_of}

-- BYTES AS RUNS

abbrev pub run_from : ℕ → Cell → List ℕ → Run
run_from p cell bytes = record { x = cell.x; at = p; bytes = cell.byte ∷ bytes }

-- with one more byte in front: the first run goes on, or another begins
abbrev pub with_cell : ℕ → Cell → List Run → List Run
with_cell p cell [] = run_from p cell [] ∷ []
with_cell p cell (run ∷ runs) =
    if run.at == p + 1 && run.x == cell.x then run_from p cell run.bytes ∷ runs
    else run_from p cell [] ∷ run ∷ runs

abbrev pub with_place : ℕ → Option Cell → List Run → List Run
with_place p None runs = runs
with_place p (Some cell) runs = with_cell p cell runs

-- the longest runs of n positions from p on
abbrev pub runs_from : Cells → ℕ → ℕ → List Run
runs_from f p zero = []
runs_from f p (suc n) = with_place p (f p) (runs_from f (p + 1) n)

-- CONTENTS

abbrev pub content_of : Tables → ℕ → Representation → Content
content_of t r v = record {
  key = v.key;
  r = r;
  head = sealed_head (kind_of t r v) v.head.total v.head;
  runs = runs_from v.stored 0 v.reach;
}

abbrev pub content_at : Tables → ℕ → Option Content
content_at t r = option_map (content_of t r) (t.representation r)

abbrev pub is_idle : Tables → ℕ → Option Representation → Bool
is_idle t r None = false
is_idle t r (Some v) = is_current t v.key r && length (bound t r) == 0

-- the current representations to which no consumer is bound, first the one to which none was bound for longest
abbrev pub idle_now : Tables → List ℕ
idle_now t = filter (λ r. is_idle t r (t.representation r)) (reverse t.used)

-- what a store has, where nobody is live
unfoldable pub contents_of : Tables → Contents
contents_of t = record {
  now = t.moment;
  last_consumer = t.last_start;
  next_exchange = t.opened + 1;
  items = filter_map (content_at t) (idle_now t);
}
