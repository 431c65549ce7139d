-- A chunk line says what the equations say.
--
-- A printed line is cut into its digits, its blanks and its extension again (`size_reads`). What follows each of these
-- begins with another byte, so each run ends where it was put (`run_len`). The other way, what was cut is a line that
-- prints as the text (`size_makes`), which is the longer half: the test of the line is taken apart, and its parts are
-- put together again. `size_in_is` joins both.
use Rattle.std.{proofs.{lemmas.{Bool.{cases_Bool, and_parts, eqb-true, ltb-true, lt-ltb, leb-true, le-leb, Decides.{nat_tests}}, List.{append-nil, take_at, drop_at, take-append-drop, Sums.{AllPass-from_list_all, list_all-from_AllPass}}, Slice.Eq.{bytes_eq-Decides}}, Common.{◌≡◌, ℕ, suc, ◌+◌, ◌-◌, ◌^◌, ◌<◌, ◌==◌, Bool, true, List, [], ◌∷◌, ◌++◌, length, take, drop, refl, sym, ap, subst, ◌∙◌, inl, inr, arith, append_assoc, length-append}}, specs.{Prelude.{◌&&◌, nat_lt, nat_le, bytes_eq, Option, Some, None, if◌then◌else◌}, List.{list_all, prefix_len}, Char.{is_ascii_hexdigit}, Str.Parse.{digits_value}}}
use Rattle.hc_text.proofs.Basics.{not_some, some_inj as some_same}
use Rattle.httparse.specs.Grammar.{ChunkLine, IsChunkLine, print_chunk_line, print_extension, IsExtension, chunk_size, is_ows, is_extension_byte}
use Rattle.hc_msg.specs.{Chunks.{IsLineOf, LineSays}, Sizes.{digits_in, behind_digits, behind_pad, is_extension, is_chunk_line, size_by, size_in}}

-- a run of bytes that pass a test, and what stands behind it
run_len : (test : ℕ → Bool) (run rest : List ℕ) → list_all test run ≡ true → prefix_len test rest ≡ 0 → prefix_len test (run ++ rest) ≡ length run
run_len test [] rest h stops = stops
run_len test (b ∷ run) rest h stops =
    let parts = and_parts (test b) (list_all test run) h in
    rw parts.0 (omega (arith, run_len test run rest parts.1 stops))

run_all : (test : ℕ → Bool) (text : List ℕ) → list_all test (take (prefix_len test text) text) ≡ true
run_all test [] = refl
run_all test (b ∷ text) = elim (cases_Bool (test b)) [
  | inl hit ↦ (let next : 1 + prefix_len test text ≡ suc (prefix_len test text) = omega arith in rw (hit, next, hit) (run_all test text))
  | inr miss ↦ rw miss refl
]

extension_no_digit : (extension : Option (List ℕ)) → prefix_len is_ascii_hexdigit (print_extension extension) ≡ 0
extension_no_digit extension = grind (arith, nat_tests)

extension_no_blank : (extension : Option (List ℕ)) → prefix_len is_ows (print_extension extension) ≡ 0
extension_no_blank extension = grind (arith, nat_tests)

pad_no_digit : (pad : List ℕ) (extension : Option (List ℕ)) → list_all is_ows pad ≡ true → prefix_len is_ascii_hexdigit (pad ++ print_extension extension) ≡ 0
pad_no_digit [] extension h = extension_no_digit extension
pad_no_digit (b ∷ pad) extension h = grind (arith, nat_tests)

extension_is : (extension : Option (List ℕ)) → IsExtension extension → is_extension (print_extension extension) ≡ true
extension_is None h = refl
extension_is (Some text) h = list_all-from_AllPass is_extension_byte text h

extension_of : (text : List ℕ) → is_extension text ≡ true → (extension : Option (List ℕ)) × IsExtension extension × (text ≡ print_extension extension)
extension_of [] h = (None, tt, refl)
extension_of (b ∷ text) h =
    let parts = and_parts (b == 59) (list_all is_extension_byte text) h in
    (Some text, AllPass-from_list_all is_extension_byte text parts.1, ap (λ (c : ℕ). c ∷ text) (eqb-true b 59 parts.0))

-- a line that is printed has its size
size_reads : (l : ChunkLine) → IsChunkLine l → chunk_size l < 2 ^ 62 →
    size_by (l.digits ++ (l.pad ++ print_extension l.extension)) (13 ∷ 10 ∷ []) ≡ Some (chunk_size l)
size_reads l is small =
    let digits = list_all-from_AllPass is_ascii_hexdigit l.digits is.digits.2 in
    let pad = list_all-from_AllPass is_ows l.pad is.pad in
    let rest = l.pad ++ print_extension l.extension in
    let len = run_len is_ascii_hexdigit l.digits rest digits (pad_no_digit l.pad l.extension pad) in
    let more = run_len is_ows l.pad (print_extension l.extension) pad (extension_no_blank l.extension) in
    let first : digits_in (l.digits ++ rest) ≡ l.digits = take_at l.digits rest _ (sym len) in
    let second : behind_digits (l.digits ++ rest) ≡ rest = drop_at l.digits rest _ (sym len) in
    let third : behind_pad rest ≡ print_extension l.extension = drop_at l.pad (print_extension l.extension) _ (sym more) in
    let fourth : behind_pad (behind_digits (l.digits ++ rest)) ≡ print_extension l.extension = ap behind_pad second ∙ third in
    holds (digits_in (l.digits ++ rest)) (behind_pad (behind_digits (l.digits ++ rest))) first fourth where
      holds : (digits behind : List ℕ) → digits ≡ l.digits → behind ≡ print_extension l.extension
          → (if bytes_eq (13 ∷ 10 ∷ []) (13 ∷ 10 ∷ []) && nat_lt 0 (length digits) && nat_le (length digits) 16 && is_extension behind && nat_lt
          (digits_value 16 digits) (2 ^ 62)
          then Some (digits_value 16 digits) else None) ≡ Some (chunk_size l)
      holds digits behind same rest =
          let some : nat_lt 0 (length l.digits) ≡ true = lt-ltb 0 (length l.digits) is.digits.0 in
          let few : nat_le (length l.digits) 16 ≡ true = le-leb (length l.digits) 16 is.digits.1 in
          let extension = extension_is l.extension is.extension in
          rw (same, rest, some, few, extension, lt-ltb (chunk_size l) (2 ^ 62) small) refl

printed_apart : (l : ChunkLine) → print_chunk_line l ≡ (l.digits ++ (l.pad ++ print_extension l.extension)) ++ 13 ∷ 10 ∷ []
unfolding print_chunk_line
printed_apart l = simp append_assoc

line_reads : (text : List ℕ) (l : ChunkLine) (n : ℕ) → IsLineOf text l n → size_in text ≡ Some n
unfolding size_in
line_reads text l n x =
    let body = l.digits ++ (l.pad ++ print_extension l.extension) in
    let whole : text ≡ body ++ 13 ∷ 10 ∷ [] = x.reads.1 ∙ append-nil (print_chunk_line l) ∙ printed_apart l in
    let len : length body ≡ length text - 2 = omega (arith, ap length whole, length-append body (13 ∷ 10 ∷ [])) in
    let first : take (length text - 2) text ≡ body = ap (take (length text - 2)) whole ∙ take_at body (13 ∷ 10 ∷ []) _ len in
    let second : drop (length text - 2) text ≡ 13 ∷ 10 ∷ [] = ap (drop (length text - 2)) whole ∙ drop_at body (13 ∷ 10 ∷ []) _ len in
    grind (arith, nat_tests, size_reads)

-- and a size that is read is that of a line
size_makes : (text end : List ℕ) (n : ℕ) → size_by text end ≡ Some n → (l : ChunkLine) × IsLineOf (text ++ end) l n
unfolding print_chunk_line
size_makes text end n h = elim (cases_Bool (is_chunk_line text end)) [
  | inr miss ↦ absurd (not_some n (rw miss at h))
  | inl hit ↦ (let size : digits_value 16 (digits_in text) ≡ n = some_same (digits_value 16 (digits_in text)) n (rw hit at h) in
      let a = and_parts (bytes_eq end (13 ∷ 10 ∷ []) && nat_lt 0 (length (digits_in text)) && nat_le (length (digits_in text)) 16 && is_extension
      (behind_pad (behind_digits text))) (nat_lt (digits_value 16 (digits_in text)) (2 ^ 62)) hit in
      let b = and_parts (bytes_eq end (13 ∷ 10 ∷ []) && nat_lt 0 (length (digits_in text)) && nat_le (length (digits_in text)) 16)
      (is_extension (behind_pad (behind_digits text))) a.0 in
      let c = and_parts (bytes_eq end (13 ∷ 10 ∷ []) && nat_lt 0 (length (digits_in text))) (nat_le (length (digits_in text)) 16) b.0 in
      let d = and_parts (bytes_eq end (13 ∷ 10 ∷ [])) (nat_lt 0 (length (digits_in text))) c.0 in
      let extension = extension_of (behind_pad (behind_digits text)) b.1 in
      let pad = take (prefix_len is_ows (behind_digits text)) (behind_digits text) in
      let crlf_is : end ≡ 13 ∷ 10 ∷ [] = (bytes_eq-Decides end (13 ∷ 10 ∷ [])).0 d.0 in
      let tail : behind_digits text ≡ pad ++ print_extension extension.0 =
      sym (take-append-drop (prefix_len is_ows (behind_digits text)) (behind_digits text)) ∙ ap (λ (t : List ℕ). pad ++ t) extension.2 in
      let body : text ≡ digits_in text ++ (pad ++ print_extension extension.0) = sym (take-append-drop (prefix_len is_ascii_hexdigit text) text) ∙
      ap (λ (t : List ℕ). digits_in text ++ t) tail in
      let l : ChunkLine = record { digits = digits_in text; pad = pad; extension = extension.0 } in (
        l,
        record {
          reads = (
            record {
              digits = (
                ltb-true 0 (length (digits_in text)) d.1,
                leb-true (length (digits_in text)) 16 c.1,
                AllPass-from_list_all is_ascii_hexdigit (digits_in text) (run_all is_ascii_hexdigit text),
              );
              pad = AllPass-from_list_all is_ows pad (run_all is_ows (behind_digits text));
              extension = extension.1;
            },
            ap (λ (t : List ℕ). t ++ end) body ∙ ap (λ (e : List ℕ). (digits_in text ++ (pad ++ print_extension extension.0)) ++ e) crlf_is ∙
                sym (printed_apart l) ∙ sym (append-nil (print_chunk_line l)),
          );
          size_is = sym size;
          small = omega (arith, size, ltb-true (digits_value 16 (digits_in text)) (2 ^ 62) a.1);
        },
      ))
]

said : (text : List ℕ) (found : Option ℕ) → size_in text ≡ found → LineSays text found
unfolding size_in
said text None is = λ line size x. not_some size (sym is ∙ line_reads text line size x)
said text (Some n) is =
    let made = size_makes (take (length text - 2) text) (drop (length text - 2) text) n is in
    (made.0, subst (λ (t : List ℕ). IsLineOf t made.0 n) (take-append-drop (length text - 2) text) made.1)

pub size_in_is : (text : List ℕ) → LineSays text (size_in text)
size_in_is text = said text (size_in text) refl
