-- What blocks and the list of all bytes have, by the position.
--
-- A position is an offset in its block of 4,096. What a block marks there is what all blocks mark at the position
-- (`marks-here`, `extent-here`). Bytes that are put come behind all others, and their positions are marked with these
-- places, so they stand where they were put (`put-cells`). A whole extent gives the longest stretch (`whole-longest`).
-- `put-kept` joins what a put leaves: every mark has a byte, and there are as many bytes as positions.
use Rattle.std.{proofs.{lemmas.{Bool.Decides.{nat_tests}, List.{get_or_append_left, get_or-append-add, length-take-le}}, Common.{◌≡◌, ◌≢◌, inl, inr, ℕ, ◌+◌, ◌-◌, ◌/◌, ◌%◌, ◌<◌, ◌≤◌, ◌^◌, List, ◌++◌, length, take, drop, get_or-take, get_or-drop, length-drop, true, Option, Some, None, refl, sym, ap, ◌∙◌, arith, length-append}}, specs.{Prelude.{Result, Ok, Err, OnOk, OnErr}, Ordering.{nat_cmp}, BTreeMap.{BTreeMap, get}}}
use borrow.Author.Tests.{ltb-true}
use Rattle.hc_sparse.proofs.{SizeLemmas.{size-put, size-same, size-le}, CellLemmas.{inside-cases}}
use Rattle.hc_sparse.specs.{Cells.{Cell, cells_with, AreAbsent, size}, Extents.{Mark, Marks, mark, claimed_marks, rest_of, AreFree, IsExtentFrom, IsExtentAt, IsWhole}, Stretch.{IsLongest}, declared.{extents.Extent.{Extent}, block.Block.{Block}}, Blocks.{marks_in}, BlockMaps.{cells_by, cell_of, marks, AreBelow, is_within, AreWithin}}

block-is : (p i : ℕ) → p % 4096 + i < 4096 → (p + i) / 4096 ≡ p / 4096
block-is p i lt = omega arith

offset-is : (p i : ℕ) → p % 4096 + i < 4096 → (p + i) % 4096 ≡ p % 4096 + i
offset-is p i lt = omega arith

-- An offset's mark, by the position.
pub marks-here : (m : BTreeMap ℕ Block) (p i : ℕ) (b : Block) → get nat_cmp m (p / 4096) ≡ Some b → p % 4096 + i < 4096 → marks m (p + i) ≡ marks_in
    b (p % 4096 + i)
marks-here m p i b there lt = rw (block-is p i lt, offset-is p i lt, there) refl

pub free-here : (m : BTreeMap ℕ Block) (p len : ℕ) (b : Block) → get nat_cmp m (p / 4096) ≡ Some b → p % 4096 + len ≤ 4096 →
    AreFree (marks m) p (p + len) → AreFree (marks_in b) (p % 4096) (p % 4096 + len)
free-here m p len b there within free q ge lt =
    let i : ℕ = q - p % 4096 in
    let place : p % 4096 + i ≡ q = omega arith in
    rw place at (sym (marks-here m p i b there (omega arith)) ∙ (free (p + i) (omega arith) (omega arith)))

kept-cell : (bytes piece : List ℕ) (o : Option Mark) → is_within (length bytes) o ≡ true → cell_of (bytes ++ piece) o ≡ cell_of bytes o
kept-cell bytes piece None within = refl
kept-cell bytes piece (Some mark) within = let lt : mark.place < length bytes = ltb-true mark.place (length bytes) within in
    rw (get_or_append_left bytes piece 0 mark.place lt) refl

-- Positions are given to an exchange, whose bytes come behind all others: they are put.
pub put-cells : (f g : Marks) (bytes piece : List ℕ) (at x : ℕ) → AreWithin f (length bytes) →
    ((q : ℕ) → g q ≡ claimed_marks at (length piece) x (length bytes) f q)
    → (q : ℕ) → cells_by g (bytes ++ piece) q ≡ cells_with at x piece (cells_by f bytes) q
put-cells f g bytes piece at x within own q =
    let mine = own q in
    elim (inside-cases at (length piece) q) [
      | inl here ↦ rw (mine, here.0, get_or-append-add bytes piece (q - at) 0) refl
      | inr off ↦ rw (mine, off.0) (kept-cell bytes piece (f q) (within q))
    ]

more-within : (n k : ℕ) (o : Option Mark) → n ≤ k → is_within n o ≡ true → is_within k o ≡ true
more-within n k o le within = grind (arith, nat_tests)

pub put-within : (f g : Marks) (at len x count : ℕ) → AreWithin f count → ((q : ℕ) → g q ≡ claimed_marks at len x count f q) → AreWithin g (count + len)
put-within f g at len x count within own q = grind (arith, nat_tests)

pub same-cells : (f g : Marks) (bytes : List ℕ) → ((q : ℕ) → g q ≡ f q) → (q : ℕ) → cells_by g bytes q ≡ cells_by f bytes q
same-cells f g bytes same q = ap (cell_of bytes) (same q)

pub same-within : (f g : Marks) (count : ℕ) → ((q : ℕ) → g q ≡ f q) → AreWithin f count → AreWithin g count
same-within f g count same within q = rw (same q) (within q)

-- Whose a byte is.
abbrev x_of : Option Cell → ℕ
x_of None = 0
x_of (Some cell) = cell.x

-- A byte of an exchange is told by a mark of it.
other-mark : (bytes : List ℕ) (o : Option Mark) (x byte : ℕ) → ((place : ℕ) → o ≢ Some (record { x = x; place = place })) →
    cell_of bytes o ≢ Some (record { byte = byte; x = x })
other-mark bytes None x byte not is = cc
other-mark bytes (Some own) x byte not is = not own.place (let same : own.x ≡ x = ap x_of is in rw (← same) refl)

-- The extent of a position, from there on.
pub extent-here : (m : BTreeMap ℕ Block) (p : ℕ) (b : Block) (e : Extent) → AreBelow m → get nat_cmp m (p / 4096) ≡ Some b →
    IsExtentFrom b.extents.items (p % 4096) e → e.at ≤ p % 4096
    → IsExtentAt (marks m) p (rest_of e p (p % 4096 - e.at))
extent-here m p b e below there is by = grind (arith, nat_tests)

-- The bytes of an extent are among all bytes.
pub extent-within : (f : Marks) (count p : ℕ) (e : Extent) → AreWithin f count → IsExtentAt f p e → e.from + e.len ≤ count
extent-within f count p e within is = grind (arith, nat_tests)

-- A whole extent's bytes are the longest stretch.
pub whole-longest : (f : Marks) (bytes : List ℕ) (p want : ℕ) (e : Extent) → AreWithin f (length bytes) → IsWhole f p want e →
    IsLongest (cells_by f bytes) p want (record { x = e.x; at = p; bytes = take e.len (drop e.from bytes) })
whole-longest f bytes p want e within is =
    let fits = extent-within f (length bytes) p e within is.extent in
    let all : List ℕ = take e.len (drop e.from bytes) in
    let len : length all ≡ e.len = length-take-le e.len (drop e.from bytes) (omega (arith, length-drop e.from bytes)) in
    grind (arith, nat_tests, get_or-take, get_or-drop, cell_of, other-mark)

-- What a put leaves: all bytes are of some mark, and there are as many as positions.
pub record IsKept (f : Marks) (bytes : List ℕ) : Type 0 where
  pub within : AreWithin f (length bytes)
  pub counts : length bytes ≡ size (cells_by f bytes)

pub put-kept : {T E : Type 0} (r : Result T E) (f g : Marks) (bytes more piece : List ℕ) (at x : ℕ) → IsKept f bytes →
    AreAbsent (cells_by f bytes) at (at + length piece) → at + length piece ≤ 2 ^ 62
    → OnOk r ((q : ℕ) → g q ≡ claimed_marks at (length piece) x (length bytes) f q) → OnOk r (more ≡ bytes ++ piece) → OnErr r ((q : ℕ) → g q ≡ f q) →
    OnErr r (more ≡ bytes) → IsKept g more
put-kept (Ok v) f g bytes more piece at x kept absent end own longer same unchanged =
    let len : length more ≡ length bytes + length piece = ap length longer ∙ length-append bytes piece in
    record {
      within = rw len (put-within f g at (length piece) x (length bytes) kept.within own);
      counts = len ∙ (ap (λ n. n + length piece) kept.counts ∙
          sym (size-put (cells_by f bytes) (cells_by g more) at x piece (λ q. rw longer (put-cells f g bytes piece at x kept.within own q)) absent end));
    }
put-kept (Err e) f g bytes more piece at x kept absent end own longer same unchanged = record {
  within = rw unchanged (same-within f g (length bytes) same kept.within);
  counts = rw unchanged (kept.counts ∙ size-same (cells_by f bytes) (cells_by g bytes) (λ q. sym (same-cells f g bytes same q)));
}

-- The bytes of all marks stand before this place.
pub kept-within : (f : Marks) (bytes : List ℕ) → AreWithin f (length bytes) → length bytes ≡ size (cells_by f bytes) → AreWithin f (2 ^ 63)
kept-within f bytes within counts p = search (arith, size-le, more-within)

-- What an error says.
pub on-err : {T E : Type 0} (r : Result T E) (P : Type 0) → P → OnErr r P
on-err (Ok x) P p = tt
on-err (Err e) P p = p
