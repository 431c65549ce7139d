-- What is seen of a source or a sink over std, and what becomes of its reader's and writer's bytes.
use Rattle.std.specs.Prelude.{◌≡◌, ◌⊎◌, ℕ, ◌+◌, ◌<◌, ◌^◌, List, length, take, Option, Ok, Err, Result}
use Rattle.std.specs.Io.KnownBytes.{Consumes, IsAtEnd, Keeps, Appends}

-- The reader, how many bytes were given, and how often it failed.
pub record Reading (R : Type 0) : Type 0 where
  pub reader : R
  pub given : ℕ
  pub faults : ℕ

-- The writer, and how often it failed.
pub record Writing (W : Type 0) : Type 0 where
  pub writer : W
  pub faults : ℕ

-- What one read took from the reader, where that is known: the bytes that it gave, and 0 is the end of them.
pub record TakesFrom (before after : Option (List ℕ)) (into : List ℕ) (n : ℕ) : Type 0 where
  pub bytes : Consumes before after (take n into)
  pub end : n ≡ 0 → 0 < length into → IsAtEnd after

-- The reader gave bytes that would pass 2^60 in all.
pub record PassesMost (before after : Option (List ℕ)) (given : ℕ) (into : List ℕ) : Type 0 where
  pub n : ℕ
  pub bytes : Consumes before after (take n into)
  pub past : 2 ^ 60 < given + n

-- What a read took from the reader: the bytes that it gives. After a fault it took nothing, or what would pass 2^60 bytes
-- in all.
abbrev pub ReadsOn : {E : Type 0} → Option (List ℕ) → Option (List ℕ) → ℕ → List ℕ → Result ℕ E → Type 0
ReadsOn before after given into (Ok n) = TakesFrom before after into n
ReadsOn before after given into (Err e) = Keeps before after ⊎ PassesMost before after given into

-- What a write put into the writer: the bytes that it says, and nothing after a fault.
abbrev pub WritesOn : {E : Type 0} → Option (List ℕ) → Option (List ℕ) → List ℕ → Result ℕ E → Type 0
WritesOn before after from (Ok n) = Appends before after (take n from)
WritesOn before after from (Err e) = Keeps before after
