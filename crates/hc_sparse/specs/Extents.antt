-- Which exchange delivered what is at each offset of a block, and where its byte stands.
use Rattle.std.specs.Prelude.{◌≡◌, ◌≢◌, ℕ, ◌+◌, ◌-◌, ◌<◌, ◌≤◌, ◌^◌, List, [], ◌∷◌, Bool, true, is_some, Option, Some, None, if◌then◌else◌, ◌&&◌, nat_lt, nat_le}
use Rattle.hc_sparse.specs.Cells.{inside}
use Rattle.hc_sparse.specs.declared.extents.Extent.{Extent}

-- An exchange, and the place of a byte that it delivered in the list of all bytes.
pub record Mark : Type 0 where
  pub x : ℕ
  pub place : ℕ

-- The mark of an offset among those from another on, whose bytes stand from a place on.
abbrev pub mark : ℕ → ℕ → ℕ → ℕ → Mark
mark x from at o = record { x = x; place = from + (o - at) }

-- The mark of each offset, or nobody's.
abbrev pub Marks : Type 0
Marks = ℕ → Option Mark

-- The offset past the last of an extent.
abbrev pub end_of : Extent → ℕ
end_of e = e.at + e.len

-- So many offsets from one on are an exchange's, whose bytes stand from a place on, over whose they were.
abbrev pub claimed_marks : ℕ → ℕ → ℕ → ℕ → Marks → Marks
claimed_marks at len x from f o = if inside at len o then Some (mark x from at o) else f o

-- The mark of each offset.
abbrev pub marks_of : List Extent → Marks
marks_of [] o = None
marks_of (e ∷ es) o = claimed_marks e.at e.len e.x e.from (marks_of es) o

-- Nobody has an offset from one to below another.
abbrev pub AreFree : Marks → ℕ → ℕ → Type 0
AreFree f lo hi = (o : ℕ) → lo ≤ o → o < hi → f o ≡ None

-- Somebody has each offset from one to below another.
abbrev pub HaveAll : Marks → ℕ → ℕ → Type 0
HaveAll f lo hi = (o : ℕ) → lo ≤ o → o < hi → is_some (f o) ≡ true

-- An offset is past another, and somebody has each from that to below it.
pub record Reaches (f : Marks) (o end : ℕ) : Type 0 where
  pub past : o < end
  pub all : HaveAll f o end

-- The least offset from one on that somebody has.
abbrev pub IsNextMark : Marks → ℕ → Option ℕ → Type 0
IsNextMark f o None = (q : ℕ) → o ≤ q → f q ≡ None
IsNextMark f o (Some n) = (o ≤ n) × (is_some (f n) ≡ true) × AreFree f o n

-- Each begins where the one before it ends, or later, and isn't empty. The last ends by the end of a block.
abbrev pub ascend : ℕ → List Extent → Bool
ascend n [] = nat_le n 4096
ascend n (e ∷ es) = nat_le n e.at && nat_lt 0 e.len && ascend (end_of e) es

-- How many of the extents end at an offset or before it.
abbrev pub place_of : ℕ → List Extent → ℕ
place_of o [] = 0
place_of o (e ∷ es) = if nat_le (end_of e) o then place_of o es + 1 else 0

-- An extent that ends so much later.
abbrev pub longer_extent : Extent → ℕ → Extent
longer_extent e more = record e { len = e.len + more }

-- An extent goes on just where another ends, with bytes of its exchange that stand behind its own.
abbrev pub Follows : Extent → Extent → Type 0
Follows e new = (e.x ≡ new.x) × (end_of e ≡ new.at) × (e.from + e.len ≡ new.from)

-- An extent is the first that ends past an offset.
pub record IsExtentFrom (es : List Extent) (o : ℕ) (e : Extent) : Type 0 where
  pub some : 0 < e.len
  pub past : o < end_of e
  pub end : end_of e ≤ 4096
  pub marks : (q : ℕ) → e.at ≤ q → q < end_of e → marks_of es q ≡ Some (mark e.x e.from e.at q)
  pub before : AreFree (marks_of es) o e.at

-- The offsets of an extent are its exchange's, and every other is as it was.
abbrev pub ClaimsExtent : List Extent → List Extent → Extent → Type 0
ClaimsExtent es fs e = (o : ℕ) → marks_of fs o ≡ claimed_marks e.at e.len e.x e.from (marks_of es) o

-- An extent begins at a position, and each of its positions has its mark.
pub record IsExtentAt (f : Marks) (p : ℕ) (e : Extent) : Type 0 where
  pub at : e.at ≡ p
  pub some : 0 < e.len
  pub end : end_of e ≤ 2 ^ 62
  pub each : (i : ℕ) → i < e.len → f (p + i) ≡ Some (record { x = e.x; place = e.from + i })

-- An extent has all positions of its exchange from one on, at most so many.
pub record IsWhole (f : Marks) (p want : ℕ) (e : Extent) : Type 0 where
  pub extent : IsExtentAt f p e
  pub most : e.len ≤ want
  pub ends : e.len < want → (place : ℕ) → f (p + e.len) ≢ Some (record { x = e.x; place = place })

-- What an extent has behind its first offsets, which begins at a position.
abbrev pub rest_of : Extent → ℕ → ℕ → Extent
rest_of e at skipped = record { x = e.x; at = at; len = e.len - skipped; from = e.from + skipped }
