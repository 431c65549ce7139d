-- Lower-case hexadecimal.
--
-- A table is looked through once: each lower-case digit stands at the place of its value (`all_back-at`). So what was
-- decoded is encoded as it was (`encode-decode_lower`): of two digits the value has the one as its quotient by 16, the
-- other as its remainder. The other way a text of bytes has lower-case digits, two for each byte. The test of such a
-- text is taken apart (`IsHexText-from_test`). `IsPiece-text` and `bytes_of-piece_text` join both ways.
use Rattle.std.{proofs.{Common.{◌≡◌, ℕ, zero, suc, ◌+◌, ◌*◌, ◌/◌, ◌%◌, ◌<◌, ◌≤◌, ◌==◌, Bool, true, false, not, ◌&&◌, ◌||◌, List, [], ◌∷◌, length, slice_index, Option, Some, unwrap_or, Result, Ok, Err, refl, sym, ap, ◌∙◌, arith, inl, inr}, lemmas.{Bool.{and_parts, cases_Bool, cases_lt, eqb-true, false_from_ne_true, agree_below_at, Decides.{nat_tests}}, Slice.Eq.{bytes_eq-Decides}, List.{get_or_past, Elements.{All-weaker, All-head, All-tail, All-nil, All-from_get_or}, Sums.{AllPass-from_list_all}}}}, specs.{Prelude.{All, bytes_eq, codes}, List.{AllPass, list_all}, Result.{result_unwrap_or}}}
use Rattle.hc_text.specs.Texts.{lacks}
use Rattle.hex.proofs.HexLemmas.{decode_of-digits, decode_of-even, decode_of-ok, decode_of-encode_lower, length-encode_with}
use Rattle.hex.specs.{Hex.{IsBytes, decode_of, decode_pairs, encode_lower, digit_or_error, is_hex_digit, encode_with, hex_digit_value, lower_digits, pair_value, value_at, ◌>>=◌}, declared.error.FromHexError.{FromHexError}}
use Rattle.hc_sched.specs.Pieces.{piece_text, is_lower_digit, is_hex_text, is_piece_text, bytes_of}

-- a lower-case digit stands in the table at the place of its value
abbrev back : ℕ → Bool
back a = not (is_lower_digit a) || (slice_index lower_digits (unwrap_or (hex_digit_value a) 0) == a)

abbrev all_back : ℕ → Bool
all_back zero = true
all_back (suc n) = back n && all_back n

all_back-at : (n k : ℕ) → all_back n ≡ true → k < n → back k ≡ true
all_back-at n k h lt = search arith

digit_back : (a v : ℕ) → is_lower_digit a ≡ true → hex_digit_value a ≡ Some v → slice_index lower_digits v ≡ a
digit_back a v lower read =
    eqb-true (slice_index lower_digits v) a (rw (lower, read) at (all_back-at 103 a refl (grind (arith, nat_tests))))

value_small : (c v : ℕ) → hex_digit_value c ≡ Some v → v < 16
value_small c v h = grind (arith)

bind_ok : {A B : Type 0} (r : Result A FromHexError) (f : A → Result B FromHexError) (y : B)
    → (r >>= f) ≡ Ok y → (x : A) × (r ≡ Ok x) × (f x ≡ Ok y)
bind_ok (Ok x) f y h = (x, refl, h)
bind_ok (Err e) f y h = cc h

digit_read : (c i : ℕ) (o : Option ℕ) (v : ℕ) → digit_or_error c i o ≡ Ok v → o ≡ Some v
digit_read c i o v h = grind (arith, nat_tests)

pub encode-decode_lower : (i : ℕ) (s bytes : List ℕ) → list_all is_lower_digit s ≡ true
    → decode_pairs i s ≡ Ok bytes → encode_with lower_digits bytes ≡ s
unfolding encode_with decode_pairs
encode-decode_lower i [] bytes all h = grind (arith, nat_tests)
encode-decode_lower i (a ∷ []) bytes all h = cc h
encode-decode_lower i (a ∷ b ∷ rest) bytes all h =
    let p0 = bind_ok (pair_value a b i) _ bytes h in
    let p1 = bind_ok (value_at a i) _ p0.0 p0.1 in
    let p2 = bind_ok (value_at b (i + 1)) _ p0.0 p1.2 in
    let p3 = bind_ok (decode_pairs (i + 2) rest) _ bytes p0.2 in
    let first = and_parts _ _ all in
    let second = and_parts _ _ first.1 in
    let ih = encode-decode_lower (i + 2) rest p3.0 second.1 p3.1 in
    let e : p0.0 ∷ p3.0 ≡ bytes = ap (λ (r : Result (List ℕ) FromHexError). result_unwrap_or r []) p3.2 in
    let va = digit_read a i (hex_digit_value a) p1.0 p1.1 in
    let vb = digit_read b (i + 1) (hex_digit_value b) p2.0 p2.1 in
    let small = value_small b p2.0 vb in
    let byte : p1.0 * 16 + p2.0 ≡ p0.0 = ap (λ (r : Result ℕ FromHexError). result_unwrap_or r 0) p2.2 in
    let high : p0.0 / 16 ≡ p1.0 = omega arith in
    let low : p0.0 % 16 ≡ p2.0 = omega arith in
    rw (← e) (rw (high, low, digit_back a p1.0 first.0 va, digit_back b p2.0 second.0 vb, ih) refl)

is_hex_digit-lower : (b : ℕ) → is_lower_digit b ≡ true → is_hex_digit b ≡ true
is_hex_digit-lower b h = grind (arith, nat_tests)

AllPass-lower : (s : List ℕ) → list_all is_lower_digit s ≡ true → AllPass is_hex_digit s
AllPass-lower s h =
    All-weaker (λ b. is_lower_digit b ≡ true) (λ b. is_hex_digit b ≡ true) is_hex_digit-lower s
    (AllPass-from_list_all is_lower_digit s h)

-- the parts of the test
pub record IsHexText (text : List ℕ) : Type 0 where
  pub some : 2 ≤ length text
  pub short : length text ≤ 131072
  pub even : length text % 2 ≡ 0
  pub lower : list_all is_lower_digit text ≡ true

pub IsHexText-from_test : (text : List ℕ) → is_hex_text text ≡ true → IsHexText text
unfolding is_hex_text
IsHexText-from_test text h = grind (arith, nat_tests)

pub is_hex_text-from : (text : List ℕ) → IsHexText text → is_hex_text text ≡ true
unfolding is_hex_text
is_hex_text-from text h = grind (arith, nat_tests)

-- such a text is decoded
pub decode_of-lower : (text : List ℕ) → is_hex_text text ≡ true → (bytes : List ℕ) × (decode_of text ≡ Ok bytes)
decode_of-lower text h =
    let is = IsHexText-from_test text h in
    decode_of-digits text is.even (AllPass-lower text is.lower)

-- the bytes of a piece
pub record IsPiece (bytes : List ℕ) : Type 0 where
  pub short : length bytes ≤ 65536
  pub small : All (λ b. b < 256) bytes

lower_glyph : (k : ℕ) → k < 16 → is_lower_digit (slice_index lower_digits k) ≡ true
lower_glyph k h = agree_below_at (λ n. is_lower_digit (slice_index lower_digits n)) (λ _. true) 16 k refl h

list_all-encode_with : (xs : List ℕ) → All (λ b. b < 256) xs → list_all is_lower_digit (encode_with lower_digits xs) ≡ true
unfolding encode_with
list_all-encode_with [] h = refl
list_all-encode_with (x ∷ xs) h =
    let byte : x < 256 = All-head (λ b. b < 256) x xs h in
    let low = lower_glyph (x % 16) (omega arith) in
    rw (lower_glyph (x / 16) (omega arith), low) (list_all-encode_with xs (All-tail (λ b. b < 256) x xs h))

byte_at : (xs : List ℕ) → All (λ b. b < 256) xs → IsBytes xs
byte_at xs h i =
    elim (cases_lt i (length xs)) [
      | inl inside ↦ h i 0 inside
      | inr past ↦ rw (get_or_past xs i 0 past) (omega arith)
    ]

-- the text of some bytes
pub record IsSpelled (b : ℕ) (bytes : List ℕ) : Type 0 where
  pub hex : is_hex_text (encode_lower (b ∷ bytes)) ≡ true
  pub other : bytes_eq (encode_lower (b ∷ bytes)) (codes "-") ≡ false
  pub twice : length (encode_lower (b ∷ bytes)) ≡ 2 * length (b ∷ bytes)

IsSpelled-piece : (b : ℕ) (bytes : List ℕ) → IsPiece (b ∷ bytes) → IsSpelled b bytes
IsSpelled-piece b bytes h =
    let text = encode_lower (b ∷ bytes) in
    let twice : length text ≡ 2 * length (b ∷ bytes) = length-encode_with lower_digits (b ∷ bytes) in
    let long : 2 ≤ length text = omega arith in
    record {
      hex = is_hex_text-from text (record {
        some = long;
        short = omega (arith, h.short);
        even = omega arith;
        lower = list_all-encode_with (b ∷ bytes) h.small;
      });
      other = false_from_ne_true (bytes_eq text (codes "-")) (λ e. omega (arith, long, ap length ((bytes_eq-Decides text (codes "-")).0 e)));
      twice = twice;
    }

pub is_piece_text-of : (bytes : List ℕ) → IsPiece bytes → is_piece_text (piece_text bytes) ≡ true
unfolding is_piece_text
is_piece_text-of [] h = refl
is_piece_text-of (b ∷ bytes) h = let is = IsSpelled-piece b bytes h in rw is.other is.hex

pub bytes_of-piece_text : (bytes : List ℕ) → IsPiece bytes → bytes_of (piece_text bytes) ≡ bytes
unfolding bytes_of
bytes_of-piece_text [] h = refl
bytes_of-piece_text (b ∷ bytes) h =
    rw ((IsSpelled-piece b bytes h).other, decode_of-encode_lower (b ∷ bytes) (byte_at (b ∷ bytes) h.small)) refl

pub length-piece_text : (bytes : List ℕ) → IsPiece bytes → length (piece_text bytes) ≤ 131072
length-piece_text [] h = omega arith
length-piece_text (b ∷ bytes) h = let is = IsSpelled-piece b bytes h in omega (arith, is.twice, h.short)

is_lower_digit-other : (b x : ℕ) → b < 48 → is_lower_digit x ≡ true → not (x == b) ≡ true
is_lower_digit-other b x low h = grind (arith, nat_tests)

lacks-lower : (b : ℕ) (text : List ℕ) → b < 48 → list_all is_lower_digit text ≡ true → lacks b text ≡ true
lacks-lower b [] low h = refl
lacks-lower b (x ∷ text) low h =
    let parts = and_parts (is_lower_digit x) (list_all is_lower_digit text) h in
    rw (is_lower_digit-other b x low parts.0) (lacks-lower b text low parts.1)

-- the text of a piece has no line feed
pub lacks-piece_text : (bytes : List ℕ) → IsPiece bytes → lacks 10 (piece_text bytes) ≡ true
lacks-piece_text bytes h = search (arith, lacks-lower, list_all-encode_with)

-- a text that is decoded is that of its bytes
IsPiece-decoded : (text bytes : List ℕ) → IsHexText text → decode_of text ≡ Ok bytes → IsPiece bytes × (piece_text bytes ≡ text)
IsPiece-decoded text [] is h = absurd (omega (arith, is.some, (decode_of-ok text [] h).2))
IsPiece-decoded text (b ∷ bytes) is h =
    let good = decode_of-ok text (b ∷ bytes) h in (
      record {
        short = omega (arith, is.short, good.2);
        small = All-from_get_or (λ x. x < 256) (b ∷ bytes) 0 (λ i inside. good.3 i);
      },
      encode-decode_lower 0 text (b ∷ bytes) is.lower (sym (decode_of-even text is.even) ∙ h),
    )

pub IsPiece-text : (text : List ℕ) → is_piece_text text ≡ true → IsPiece (bytes_of text) × (piece_text (bytes_of text) ≡ text)
unfolding is_piece_text bytes_of
IsPiece-text text h =
    elim (cases_Bool (bytes_eq text (codes "-"))) [
      | inl hyphen ↦
          let is : text ≡ codes "-" = (bytes_eq-Decides text (codes "-")).0 hyphen in
          rw hyphen (record { short = omega arith; small = All-nil (λ b. b < 256) }, sym is)
      | inr other ↦
          let hex : is_hex_text text ≡ true = rw other at h in
          let read = decode_of-lower text hex in
          rw (other, read.1) (IsPiece-decoded text read.0 (IsHexText-from_test text hex) read.1)
    ]
