-- What the grammar of a head says of its fields.
--
-- Classes of bytes of the grammar are those of the code (`is_token`). A value without the blanks at its ends is no
-- longer than it was, and begins and ends with no blank (`own_value`). So each field that the grammar has is good for
-- the code (`good_at`), and there are as many. Names and values have no more bytes than the lines that print them
-- (`size_fields`). So they have no more than the text of the head (`small_headers`, `small_asked`).
use Rattle.std.{proofs.{Common.{◌≡◌, ℕ, zero, suc, ◌+◌, ◌-◌, ◌<◌, ◌≤◌, ◌==◌, true, false, List, [], ◌∷◌, ◌++◌, length, reverse, get_or, refl, sym, ap, subst, ◌∙◌, inl, inr, arith, length-append}, lemmas.{Bool.{cases_Bool}, List.{length-reverse, reverse-append, reverse-reverse, get_or_append_left, Sums.{list_all-from_AllPass, sum_by-cons}}}, Math.Seq.{get_or-append_seam}}, specs.{Prelude.{◌⊎◌, ◌||◌, map, All, IsTrue}, List.{list_all, flat_map}}}
use Rattle.hc_text.proofs.Basics.{cond_either}
use Rattle.http_header.specs.Token as header
use Rattle.httparse.specs.Grammar as grammar
use Rattle.httparse.specs.{Grammar.{Field, IsField, AllPass, skip_ows, trim_ows, is_ows, print_field, RequestHead, print_request, ResponseHead, print_response, ReadsRequest, ReadsResponse}, declared.borrowed.Header.{Header}, Borrowed.{header_parts}, Spans.{name_and_value}}
use Rattle.hc_text.specs.Elements.{is_blank}
use Rattle.hc_head.specs.{Held.{IsGood, fields_in}, Rules.{lowercase_field, fields_of}}
use Rattle.httparse.proofs.TrimLemmas.{AllPass-trim_ows}
use Rattle.hc_fields.specs.FieldList.{is_own_value, has_own_ends, size_of}
use Rattle.hc_fields.proofs.Kept.{length-lowercase}

token_byte : (b : ℕ) → grammar.is_token_byte b ≡ header.is_token_byte b
unfolding grammar.is_token_byte header.is_token_byte
token_byte b = refl

tokens : (bytes : List ℕ) → AllPass grammar.is_token_byte bytes → header.AllPass header.is_token_byte bytes
tokens bytes h = λ k d lt. subst IsTrue (token_byte (get_or bytes k d)) (h k d lt)

pub is_token : (bytes : List ℕ) → grammar.IsToken bytes → header.IsToken bytes
is_token bytes h = (h.0, tokens bytes h.1)

value_bytes : (bytes : List ℕ) → AllPass grammar.is_value_byte bytes → list_all header.is_value_byte bytes ≡ true
value_bytes bytes h = list_all-from_AllPass header.is_value_byte bytes h

-- the value without the blanks at its ends
skip_first : (xs : List ℕ) → (length (skip_ows xs) ≡ 0) ⊎ (is_ows (get_or (skip_ows xs) 0 0) ≡ false)
skip_first [] = inl refl
skip_first (b ∷ xs) = elim (cases_Bool (is_ows b)) [
  | inl blank ↦ rw blank (skip_first xs)
  | inr kept ↦ rw (kept, kept) (inr refl)
]

-- what is left is no longer
skip_len : (xs : List ℕ) → length (skip_ows xs) ≤ length xs
skip_len [] = omega arith
skip_len (b ∷ xs) = elim (cases_Bool (is_ows b)) [
  | inl blank ↦ rw blank (omega (arith, skip_len xs))
  | inr kept ↦ rw kept (omega arith)
]

trim_len : (raw : List ℕ) → length (trim_ows raw) ≤ length raw
unfolding trim_ows
trim_len raw =
    omega (arith, length-reverse (skip_ows (reverse (skip_ows raw))), skip_len (reverse (skip_ows raw)), length-reverse (skip_ows raw), skip_len raw)

-- names and values have no more bytes than their lines
size_fields : (fs : List Field) → size_of (fields_of fs) ≤ length (flat_map print_field fs)
size_fields [] = omega arith
size_fields (f ∷ fs) =
    let rest = size_fields fs in
    rw (sum_by-cons (λ (g : List ℕ × List ℕ). length g.0 + length g.1) (lowercase_field (name_and_value f)) (fields_of fs))
    (simp length-append (omega (arith, trim_len f.raw, rest, length-lowercase f.name)))

-- a value has no blanks at its ends
skip_suffix : (xs : List ℕ) → (p : List ℕ) × (xs ≡ p ++ skip_ows xs)
skip_suffix [] = ([], refl)
skip_suffix (b ∷ xs) = elim (cases_Bool (is_ows b)) [
  | inl blank ↦ (let rest = skip_suffix xs in rw blank (b ∷ rest.0, ap (λ (l : List ℕ). b ∷ l) rest.1))
  | inr kept ↦ rw kept ([], refl)
]

abbrev IsKeptFirst : List ℕ → Type 0
IsKeptFirst xs = (length xs ≡ 0) ⊎ (is_ows (get_or xs 0 0) ≡ false)

own_ends : (y w p : List ℕ) → reverse y ≡ p ++ w → IsKeptFirst w → IsKeptFirst y → has_own_ends (reverse w) ≡ true
own_ends y [] p same last first = refl
own_ends y (b ∷ rest) p same (inl none) first = absurd (omega arith)
own_ends y (b ∷ rest) p same (inr last) first =
    let len = length-reverse (b ∷ rest) in
    let whole : y ≡ reverse (b ∷ rest) ++ reverse p = sym (reverse-reverse y) ∙ ap reverse same ∙ reverse-append p (b ∷ rest) in
    let at-end : length (reverse (b ∷ rest)) - 1 ≡ length (reverse rest) = omega (arith, len, length-reverse rest) in
    elim first [
      | inl none ↦ absurd (omega (arith, ap length whole, length-append (reverse (b ∷ rest)) (reverse p), len))
      | inr kept ↦
          let low = rw (whole, get_or_append_left (reverse (b ∷ rest)) (reverse p) 0 0 (omega (arith, len))) at kept in
          let high : is_blank (get_or (reverse (b ∷ rest)) (length (reverse (b ∷ rest)) - 1) 0) ≡ false =
          rw (at-end, reverse-append (b ∷ []) rest, get_or-append_seam (reverse rest) b [] 0) last in
          rw (low, high) (cond_either (length (reverse (b ∷ rest)) == 0))
    ]

pub own_value : (raw : List ℕ) → AllPass grammar.is_value_byte raw → is_own_value (trim_ows raw) ≡ true
unfolding trim_ows
own_value raw h =
    let y = skip_ows raw in
    let cut = skip_suffix (reverse y) in
    let ends : has_own_ends (reverse (skip_ows (reverse y))) ≡ true = own_ends y (skip_ows (reverse y)) cut.0 cut.1 (skip_first (reverse y)) (skip_first raw) in
    rw (value_bytes (trim_ows raw) (AllPass-trim_ows grammar.is_value_byte raw h), ends) refl

-- so the fields that the code has are good
good_one : (x : Header) (f : Field) → IsField f → header_parts x ≡ name_and_value f → IsGood x
good_one x f h same = search (arith, is_token, own_value)

pub good_at : (headers : List Header) (fields : List Field) → map header_parts headers ≡ map name_and_value fields → All IsField fields
    → (k : ℕ) (d : Header) → k < length headers → IsGood (get_or headers k d)
good_at [] fields same h k d lt = absurd (omega arith)
good_at (x ∷ xs) [] same h k d lt = cc
good_at (x ∷ xs) (f ∷ fs) same h zero d lt = good_one x f (h zero f (omega arith)) cc
good_at (x ∷ xs) (f ∷ fs) same h (suc k) d lt =
    let rest : map header_parts xs ≡ map name_and_value fs = cc in
    good_at xs fs rest (λ j e q. h (suc j) e (omega arith)) k d (omega arith)

pub same_count : (headers : List Header) (fields : List Field) → map header_parts headers ≡ map name_and_value fields → length headers ≡ length fields
same_count [] [] same = refl
same_count [] (f ∷ fs) same = cc
same_count (x ∷ xs) [] same = cc
same_count (x ∷ xs) (f ∷ fs) same = let rest : map header_parts xs ≡ map name_and_value fs = cc in ap suc (same_count xs fs rest)

pub small_response : (h : ResponseHead) → size_of (fields_of h.fields) ≤ length (print_response h)
unfolding print_response
small_response h = simp length-append (omega (arith, size_fields h.fields))

pub small_request : (h : RequestHead) → size_of (fields_of h.fields) ≤ length (print_request h)
unfolding print_request
small_request h = simp length-append (omega (arith, size_fields h.fields))

pub small_headers : (headers : List Header) (h : ResponseHead) (text rest : List ℕ) → map header_parts headers ≡ map name_and_value h.fields →
    ReadsResponse text h rest → length text ≤ 32768
    → size_of (fields_in headers) ≤ 32768
small_headers headers h text rest same reads short = search (arith, small_response, length-append)

pub small_asked : (headers : List Header) (h : RequestHead) (text rest : List ℕ) → map header_parts headers ≡ map name_and_value h.fields →
    ReadsRequest text h rest → length text ≤ 32768
    → size_of (fields_in headers) ≤ 32768
small_asked headers h text rest same reads short = search (arith, small_request, length-append)
