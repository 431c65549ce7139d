-- What the chunk line at the front of a text says of the whole text.
use Rattle.std.{proofs.{Common.{ℕ, ◌^◌, ◌<◌, ◌≤◌, List, [], length, drop, length-drop, sym, ap, subst, ◌∙◌, arith}, lemmas.List.{drop_all}}, specs.Prelude.{Some}}
use Rattle.httparse.specs.{Grammar.{ChunkLine, ReadsChunkLine, chunk_size}, Spans.{IsChunkLineAt}}
use Rattle.httparse.proofs.ChunkLemmas.{chunk_line_unique}
use Rattle.hc_msg.specs.Chunks.{IsLineOf, LineSays}

pub not_whole : (text : List ℕ) (len size : ℕ) (l : ChunkLine) → IsChunkLineAt text len size l → len < length text → (line : ChunkLine) (n : ℕ) →
    ¬ (IsLineOf text line n)
not_whole text len size l at short line n x =
    let same = chunk_line_unique text line l [] (drop len text) x.reads at.reads in
    absurd (omega (arith, ap length same.1, length-drop len text))

pub not_small : (text : List ℕ) (len size : ℕ) (l : ChunkLine) → IsChunkLineAt text len size l → 2 ^ 62 ≤ size → (line : ChunkLine) (n : ℕ) →
    ¬ (IsLineOf text line n)
not_small text len size l at large line n x =
    let same = chunk_line_unique text line l [] (drop len text) x.reads at.reads in
    absurd (omega (arith, (x.size_is ∙ ap (λ (k : ChunkLine). chunk_size k) same.0 ∙ sym at.size_is), x.small))

pub is_line : (text : List ℕ) (len size : ℕ) (l : ChunkLine) → IsChunkLineAt text len size l → length text ≤ len → size < 2 ^ 62 → LineSays text (Some size)
is_line text len size l at whole small =
    (l, record { reads = subst (λ (rest : List ℕ). ReadsChunkLine text l rest) (drop_all len text whole) at.reads; size_is = at.size_is; small = small })
