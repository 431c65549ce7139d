-- What spans tell.
use Rattle.std.specs.Prelude.{ℕ}
use Rattle.hc_sparse.specs.Extents.{Marks, HaveAll}
use Rattle.hc_sparse.specs.SpanMaps.{AllHad}
use Rattle.hc_sparse.specs.declared.spans.Spans.{Spans}

-- Somebody has each position of each span.
abbrev pub AreHad : Spans → Marks → Type 0
AreHad s f = AllHad s.begins f

-- Where somebody has each position of the spans, somebody has each from one to below another.
abbrev pub Have : Spans → ℕ → ℕ → Type 0
Have s lo hi = (f : Marks) → AreHad s f → HaveAll f lo hi
