-- The search for the end of a head, over bytes that are put together.
--
-- The search is a fold, so it goes on over bytes that are put together (`scan_all-append`). Two bytes of a line without
-- a line feed lead within it, and so do more (`long_line`): so a line is searched as a whole. `Passed` says what was
-- passed and where it leads. A line more keeps it (`Passed-line`), the line that ends the head gives its length
-- (`Passed-ends`), and in the rest no line ends (`Passed-rest`). The loop that seeks the end answers by these.
use Rattle.std.{proofs.{Common.{◌≡◌, ℕ, ◌+◌, ◌≤◌, ◌==◌, true, false, List, [], ◌∷◌, ◌++◌, length, take, drop, refl, sym, ap, ◌∙◌, inl, inr, arith, append_assoc, length-append}, lemmas.{Bool.{and_parts, cases_Bool}, List.{take_at, drop_at}}}, specs.Prelude.{not}}
use Rattle.hc_text.specs.Texts.{lacks}
use Rattle.hc_head.specs.{declared.scan.Scan.{Scan, TheVariants.{Before, Within, Beginning, Ended}}, Scans.{scan_byte, scan_all, is_open, IsHeadEnd, StaysOpen, IsLineBefore}}

pub scan_all-append : (scan : Scan) (xs ys : List ℕ) → scan_all scan (xs ++ ys) ≡ scan_all (scan_all scan xs) ys
scan_all-append scan [] ys = refl
scan_all-append scan (x ∷ xs) ys = scan_all-append (scan_byte scan x) xs ys

pub not_equal : (b c : ℕ) → not (b == c) ≡ true → (b == c) ≡ false
not_equal b c h = elim (cases_Bool (b == c)) [ inl hit ↦ (let e : false ≡ true = rw hit at h in cc) | inr miss ↦ miss ]

-- it leads into the line, where it is no carriage return at its beginning
within_byte : (b : ℕ) → (b == 10) ≡ false → scan_byte Within b ≡ Within
within_byte b miss = rw miss refl

within_line : (bytes : List ℕ) → lacks 10 bytes ≡ true → scan_all Within bytes ≡ Within
within_line [] h = refl
within_line (b ∷ bytes) h =
    let parts = and_parts (not (b == 10)) (lacks 10 bytes) h in
    rw (within_byte b (not_equal b 10 parts.0)) (within_line bytes parts.1)

two_bytes : (scan : Scan) (a b : ℕ) → is_open scan ≡ true → (a == 10) ≡ false → (b == 10) ≡ false → scan_byte (scan_byte scan a) b ≡ Within
two_bytes Before a b h na nb = elim (cases_Bool (a == 13)) [ inl hit ↦ rw (na, hit, nb) refl | inr other ↦ rw (na, other, nb) refl ]
two_bytes Beginning a b h na nb = elim (cases_Bool (a == 13)) [ inl hit ↦ rw (na, hit, nb) refl | inr other ↦ rw (na, other, nb) refl ]
two_bytes Ended a b h na nb = cc
two_bytes _ a b h na nb = rw (na, nb) refl

-- two bytes of a line and more lead within it
pub long_line : (scan : Scan) (bytes : List ℕ) → 2 ≤ length bytes → is_open scan ≡ true → lacks 10 bytes ≡ true → scan_all scan bytes ≡ Within
long_line scan (a ∷ b ∷ bytes) two h line =
    let first = and_parts (not (a == 10)) (lacks 10 (b ∷ bytes)) line in
    let second = and_parts (not (b == 10)) (lacks 10 bytes) first.1 in
    rw (two_bytes scan a b h (not_equal a 10 first.0) (not_equal b 10 second.0)) (within_line bytes second.1)
long_line scan _ two h line = absurd (omega arith)

-- how far a search has come: the bytes that were passed, and where they lead
pub record Passed (scan : Scan) (bytes : List ℕ) (used : ℕ) (next : Scan) (rest : List ℕ) : Type 0 where
  pub front : List ℕ
  pub whole : front ++ rest ≡ bytes
  pub len : used ≡ length front
  pub leads : next ≡ scan_all scan front
  pub still_open : is_open next ≡ true

closed : (scan : Scan) → is_open scan ≡ false → scan ≡ Ended
closed Ended h = refl
closed _ h = cc

-- where a line stands in the rest
line_is : (rest : List ℕ) (at : ℕ) (h : IsLineBefore rest at) → h.line ≡ take at rest
line_is rest at h = sym (ap (take at) (sym h.whole) ∙ take_at h.line (10 ∷ h.rest) at (sym h.len))

behind_is : (rest : List ℕ) (at : ℕ) (h : IsLineBefore rest at) → h.rest ≡ drop (at + 1) rest
behind_is rest at h =
    let cut : (h.line ++ 10 ∷ []) ++ h.rest ≡ rest = append_assoc h.line (10 ∷ []) h.rest ∙ h.whole in
    sym (ap (drop (at + 1)) (sym cut) ∙ drop_at (h.line ++ 10 ∷ []) h.rest (at + 1) (simp length-append (omega (arith, h.len))))

cut_is : (rest : List ℕ) (at : ℕ) → IsLineBefore rest at → take at rest ++ 10 ∷ drop (at + 1) rest ≡ rest
cut_is rest at h = rw (sym (line_is rest at h), sym (behind_is rest at h)) h.whole

-- a line more
pub Passed-line : (scan : Scan) (bytes : List ℕ) (used : ℕ) (next : Scan) (rest : List ℕ) (at : ℕ) (mid last : Scan) → Passed scan bytes used next rest
    → IsLineBefore rest at → mid ≡ scan_all next (take at rest) → last ≡ scan_byte mid 10 → is_open last ≡ true
    → Passed scan bytes (used + (at + 1)) last (drop (at + 1) rest)
Passed-line scan bytes used next rest at mid last h line leads step still = record {
  front = h.front ++ (take at rest ++ 10 ∷ []);
  whole =
      append_assoc h.front (take at rest ++ 10 ∷ []) (drop (at + 1) rest)
      ∙ ap (λ (t : List ℕ). h.front ++ t) (append_assoc (take at rest) (10 ∷ []) (drop (at + 1) rest) ∙ cut_is rest at line) ∙ h.whole;
  len = rw (sym (line_is rest at line)) (simp length-append (omega (arith, h.len, line.len)));
  leads =
      step ∙ ap (λ (s : Scan). scan_byte s 10) (leads ∙ ap (λ (s : Scan). scan_all s (take at rest)) h.leads)
      ∙ sym (scan_all-append scan h.front (take at rest ++ 10 ∷ []) ∙ scan_all-append (scan_all scan h.front) (take at rest) (10 ∷ []));
  still_open = still;
}

-- the line that ends the head
pub Passed-ends : (scan : Scan) (bytes : List ℕ) (used : ℕ) (next : Scan) (rest : List ℕ) (at : ℕ) (mid last : Scan) → Passed scan bytes used next rest
    → IsLineBefore rest at → mid ≡ scan_all next (take at rest) → is_open mid ≡ true → last ≡ scan_byte mid 10 → is_open last ≡ false
    → IsHeadEnd scan bytes (used + (at + 1))
Passed-ends scan bytes used next rest at mid last h line leads still step over =
    let same : mid ≡ scan_all scan (h.front ++ take at rest) =
    leads ∙ ap (λ (s : Scan). scan_all s (take at rest)) h.leads ∙ sym (scan_all-append scan h.front (take at rest)) in
    record {
      front = h.front ++ take at rest;
      rest = drop (at + 1) rest;
      whole =
          append_assoc h.front (take at rest) (10 ∷ drop (at + 1) rest)
          ∙ ap (λ (t : List ℕ). h.front ++ t) (cut_is rest at line) ∙ h.whole;
      len = rw (sym (line_is rest at line)) (simp length-append (omega (arith, h.len, line.len)));
      open_before = ap is_open (sym same) ∙ still;
      ends = ap (λ (s : Scan). scan_byte s 10) (sym same) ∙ sym step ∙ closed last over;
    }

-- the rest, in which no line ends
pub Passed-rest : (scan : Scan) (bytes : List ℕ) (used : ℕ) (next : Scan) (rest : List ℕ) (last : Scan) → Passed scan bytes used next rest
    → last ≡ scan_all next rest → is_open last ≡ true → StaysOpen scan bytes last
Passed-rest scan bytes used next rest last h leads still = search (arith, scan_all-append)
