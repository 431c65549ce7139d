-- Chunked bodies (RFC 9112 section 7.1), byte by byte.
use Rattle.std.specs.Prelude.{◌≡◌, ℕ, ◌+◌, ◌<◌, ◌≤◌, ◌^◌, ◌==◌, nat_le, true, List, [], ◌++◌, length, Option, Some, None, Result, Ok, Err, if◌then◌else◌}
use Rattle.httparse.specs.Grammar.{ChunkLine, ReadsChunkLine, chunk_size}
use Rattle.hc_text.specs.Texts.{lacks}
use Rattle.hc_head.specs.declared.message.MsgError.{MsgError}
use Rattle.hc_head.specs.declared.message.MsgError.TheVariants as error
use Rattle.hc_head.specs.Scans.{IsLineBefore}
use Rattle.hc_msg.specs.declared.trailer.Trailer.{Trailer}
use Rattle.hc_msg.specs.declared.trailer.Trails.{Trails}
use Rattle.hc_msg.specs.declared.trailer.Trails.TheVariants.{On, Ends, TooLong}
use Rattle.hc_msg.specs.declared.trailer.Trailer.TheVariants.{Beginning, BeginningReturn, Within, WithinReturn}

-- the text is a chunk line whose size is below 2^62
pub record IsLineOf (text : List ℕ) (line : ChunkLine) (size : ℕ) : Type 0 where
  pub reads : ReadsChunkLine text line []
  pub size_is : size ≡ chunk_size line
  pub small : size < 2 ^ 62

-- the size that a whole line announces, None where it is no such line
abbrev pub LineSays : List ℕ → Option ℕ → Type 0
LineSays text None = (line : ChunkLine) (size : ℕ) → ¬ (IsLineOf text line size)
LineSays text (Some size) = (line : ChunkLine) × IsLineOf text line size

-- no line feed stands in the first of the bytes, which are 1,024 with those before, and there is one more
pub record IsLongLine (held : ℕ) (piece : List ℕ) : Type 0 where
  pub front : List ℕ
  pub rest : List ℕ
  pub whole : front ++ rest ≡ piece
  pub some : 0 < length rest
  pub len : held + length front ≡ 1024
  pub is_line : lacks 10 front ≡ true

-- what a search behind so many bytes of a chunk line comes to
abbrev pub FindsLine : ℕ → List ℕ → Result (Option ℕ) MsgError → Type 0
FindsLine held piece (Ok (Some at)) = IsLineBefore piece at × (held + (at + 1) ≤ 1024) × (at < length piece)
FindsLine held piece (Ok None) = (lacks 10 piece ≡ true) × (held + length piece ≤ 1024)
FindsLine held piece (Err e) = (e ≡ error.BadChunk) × IsLongLine held piece

abbrev pub trailer_place : Trailer → ℕ → Trailer
trailer_place Beginning b = if b == 13 then BeginningReturn else Within
trailer_place BeginningReturn b = if b == 13 then WithinReturn else Within
trailer_place Within b = if b == 13 then WithinReturn else Within
trailer_place WithinReturn b = if b == 10 then Beginning else if b == 13 then WithinReturn else Within

-- one more byte of a line
abbrev pub trail_on : Trailer → ℕ → ℕ → Trails
trail_on place count most = if nat_le count most then On place count else TooLong

-- the byte behind so many: the lines have at most 32,768, and the empty line isn't counted
abbrev pub trail : Trailer → ℕ → ℕ → Trails
trail Beginning count b = trail_on (trailer_place Beginning b) (count + 1) (if b == 13 then 32769 else 32768)
trail BeginningReturn count b =
    if b == 10 then Ends else trail_on (trailer_place BeginningReturn b) (count + 1) 32768
trail Within count b = trail_on (trailer_place Within b) (count + 1) 32768
trail WithinReturn count b = trail_on (trailer_place WithinReturn b) (count + 1) 32768

abbrev pub FewTrail : Trails → Type 0
FewTrail (On place count) = count ≤ 32769
FewTrail Ends = Unit {0}
FewTrail TooLong = Unit {0}
