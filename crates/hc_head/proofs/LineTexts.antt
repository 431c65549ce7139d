-- A text as lines, and lines as a text.
--
-- Each line that the grammar has is plain: no byte of it is a line feed or a carriage return, since no class of its
-- bytes has them (`all_plain`). So a plain line and its end are read as that line and that end (`line_printed`). A word
-- before the first byte of a kind is found as that word (`cut_before`, `cut_behind`). The other way, lines that were
-- read make the text again (`lines_make`), and so does a word, the byte behind it and the rest (`cut_makes`).
use Rattle.std.{proofs.{lemmas.{Bool.{cases_Bool, and_parts, eqb-true, eq-eqb, lt-ltb, Decides.{nat_tests}}, List.{append-nil, take_at, drop_at, take-append-drop}, Slice.Eq.{bytes_eq-Decides}}, Common.{◌≡◌, ℕ, suc, ◌+◌, ◌-◌, ◌<◌, ◌==◌, Bool, true, false, List, [], ◌∷◌, ◌++◌, length, drop, refl, sym, ap, ◌∙◌, inl, inr, arith, append_assoc, length-append, length-drop}}, specs.{Prelude.{◌&&◌, bytes_eq, Some, option_map}, List.{list_all, prefix_len, flat_map}}}
use Rattle.hc_text.proofs.Basics.{mapped_from, some_inj as some_same}
use Rattle.httparse.specs.Grammar.{LineEnd, crlf, lf, print_end}
use Rattle.hc_head.specs.HeadLines.{Line, front, line_of, with_line, lines_behind, is_not, has_byte, before, behind}

-- bytes of a line
abbrev pub is_plain : ℕ → Bool
is_plain b = is_not 10 b && is_not 13 b

not_is : (test : ℕ → Bool) (c b : ℕ) → test c ≡ false → test b ≡ true → is_not c b ≡ true
not_is test c b lacks has = grind (arith, nat_tests)

pub all_not : (test : ℕ → Bool) (c : ℕ) → test c ≡ false → (bytes : List ℕ) → list_all test bytes ≡ true → list_all (is_not c) bytes ≡ true
all_not test c lacks [] h = refl
all_not test c lacks (b ∷ bytes) h =
    let parts = and_parts (test b) (list_all test bytes) h in
    rw (not_is test c b lacks parts.0) (all_not test c lacks bytes parts.1)

pub all_plain : (test : ℕ → Bool) → test 10 ≡ false → test 13 ≡ false → (bytes : List ℕ) → list_all test bytes ≡ true → list_all is_plain bytes ≡ true
all_plain test ten thirteen [] h = refl
all_plain test ten thirteen (b ∷ bytes) h =
    let parts = and_parts (test b) (list_all test bytes) h in
    rw (not_is test 10 b ten parts.0, not_is test 13 b thirteen parts.0) (all_plain test ten thirteen bytes parts.1)

pub plain_append : (xs ys : List ℕ) → list_all is_plain xs ≡ true → list_all is_plain ys ≡ true → list_all is_plain (xs ++ ys) ≡ true
plain_append [] ys x y = y
plain_append (b ∷ xs) ys x y = let parts = and_parts (is_plain b) (list_all is_plain xs) x in rw parts.0 (plain_append xs ys parts.1 y)

-- the end of a line
last_plain : (text : List ℕ) → list_all is_plain text ≡ true → bytes_eq (drop (length text - 1) text) (13 ∷ []) ≡ false
last_plain [] h = refl
last_plain (b ∷ []) h = grind (arith, nat_tests)
last_plain (b ∷ c ∷ text) h =
    let parts = and_parts (is_plain b) (list_all is_plain (c ∷ text)) h in
    let at : length (b ∷ c ∷ text) - 1 ≡ suc (length (c ∷ text) - 1) = omega arith in
    rw at (last_plain (c ∷ text) parts.1)

lf_line : (text : List ℕ) → list_all is_plain text ≡ true → line_of text ≡ record { text = text; end = lf }
lf_line text h = let none = last_plain text h in rw none refl

crlf_line : (text : List ℕ) → line_of (text ++ 13 ∷ []) ≡ record { text = text; end = crlf }
crlf_line text =
    let len : length (text ++ 13 ∷ []) - 1 ≡ length text = simp length-append (omega arith) in
    rw (drop_at text (13 ∷ []) _ (sym len), take_at text (13 ∷ []) _ (sym len)) refl

-- a plain line and its end
abbrev pub print_line : Line → List ℕ
print_line line = line.text ++ print_end line.end

not_ten : (b : ℕ) → is_plain b ≡ true → (b == 10) ≡ false
not_ten b h = grind (arith, nat_tests)

end_behind : (text : List ℕ) (end : LineEnd) (rest : List ℕ) → list_all is_plain text ≡ true
    → lines_behind text (print_end end ++ rest) ≡ option_map (λ lines. record { text = text; end = end } ∷ lines) (lines_behind [] rest)
end_behind text crlf rest h = ap (λ (l : Line). option_map (λ lines. l ∷ lines) (lines_behind [] rest)) (crlf_line text)
end_behind text lf rest h = ap (λ (l : Line). option_map (λ lines. l ∷ lines) (lines_behind [] rest)) (lf_line text h)

line_behind : (pre text : List ℕ) (end : LineEnd) (rest : List ℕ) → list_all is_plain pre ≡ true → list_all is_plain text ≡ true
    → lines_behind pre (text ++ (print_end end ++ rest)) ≡ option_map (λ lines. record { text = pre ++ text; end = end } ∷ lines) (lines_behind [] rest)
line_behind pre [] end rest p h =
    end_behind pre end rest p ∙ ap (λ (t : List ℕ). option_map (λ lines. record { text = t; end = end } ∷ lines) (lines_behind [] rest)) (sym (append-nil pre))
line_behind pre (b ∷ text) end rest p h =
    let parts = and_parts (is_plain b) (list_all is_plain text) h in
    let one : list_all is_plain (b ∷ []) ≡ true = rw parts.0 refl in
    rw (not_ten b parts.0) (line_behind (pre ++ b ∷ []) text end rest (plain_append pre (b ∷ []) p one) parts.1
    ∙ ap (λ (t : List ℕ). option_map (λ lines. record { text = t; end = end } ∷ lines) (lines_behind [] rest)) (append_assoc pre (b ∷ []) text))

pub line_printed : (text : List ℕ) (end : LineEnd) (rest : List ℕ) (lines : List Line) → list_all is_plain text ≡ true → lines_behind [] rest ≡ Some lines
    → lines_behind [] (text ++ (print_end end ++ rest)) ≡ Some (record { text = text; end = end } ∷ lines)
line_printed text end rest lines h is =
    line_behind [] text end rest refl h ∙ ap (option_map (λ more. record { text = text; end = end } ∷ more)) is

-- the lines make the text
line_made : (text : List ℕ) → print_line (line_of text) ≡ text ++ 10 ∷ []
line_made text = elim (cases_Bool (bytes_eq (drop (length text - 1) text) (13 ∷ []))) [
  | inl hit ↦ (let last : drop (length text - 1) text ≡ 13 ∷ [] = (bytes_eq-Decides (drop (length text - 1) text) (13 ∷ [])).0 hit in
      rw hit (ap (λ (l : List ℕ). front text ++ (l ++ 10 ∷ [])) (sym last) ∙ sym (append_assoc (front text) (drop (length text - 1) text) (10 ∷ [])) ∙
      ap (λ (l : List ℕ). l ++ 10 ∷ []) (take-append-drop (length text - 1) text)))
  | inr miss ↦ rw miss refl
]

pub lines_make : (text bytes : List ℕ) (lines : List Line) → lines_behind text bytes ≡ Some lines → text ++ bytes ≡ flat_map print_line lines
lines_make [] [] lines h = ap (flat_map print_line) (some_same [] lines h)
lines_make (b ∷ text) [] lines h = grind (arith, nat_tests)
lines_make text (b ∷ bytes) lines h = elim (cases_Bool (b == 10)) [
  | inl hit ↦ (let made = mapped_from (with_line text) (lines_behind [] bytes) lines (rw hit at h) in
      let rest = lines_make [] bytes made.0 made.1 in
      let ten : b ≡ 10 = eqb-true b 10 hit in
      ap (λ (c : ℕ). text ++ c ∷ bytes) ten ∙ sym (append_assoc text (10 ∷ []) bytes) ∙ ap (λ (l : List ℕ). l ++ bytes) (sym (line_made text))
      ∙ ap (λ (l : List ℕ). print_line (line_of text) ++ l) rest ∙ ap (flat_map print_line) made.2)
  | inr miss ↦ sym (append_assoc text (b ∷ []) bytes) ∙ lines_make (text ++ b ∷ []) bytes lines (rw miss at h)
]

-- a word before the first such byte
pub cut_len : (b : ℕ) (word rest : List ℕ) → list_all (is_not b) word ≡ true → prefix_len (is_not b) (word ++ b ∷ rest) ≡ length word
cut_len b [] rest h = let same : (b == b) ≡ true = eq-eqb b b refl in rw same refl
cut_len b (c ∷ word) rest h =
    let parts = and_parts (is_not b c) (list_all (is_not b) word) h in
    rw parts.0 (omega (arith, cut_len b word rest parts.1))

pub cut_before : (b : ℕ) (word rest : List ℕ) → list_all (is_not b) word ≡ true → before b (word ++ b ∷ rest) ≡ word
cut_before b word rest h = take_at word (b ∷ rest) _ (sym (cut_len b word rest h))

pub cut_behind : (b : ℕ) (word rest : List ℕ) → list_all (is_not b) word ≡ true → behind b (word ++ b ∷ rest) ≡ rest
cut_behind b word rest h =
    ap (drop (prefix_len (is_not b) (word ++ b ∷ rest) + 1)) (sym (append_assoc word (b ∷ []) rest))
    ∙ drop_at (word ++ b ∷ []) rest _ (simp length-append (omega (arith, cut_len b word rest h)))

pub cut_has : (b : ℕ) (word rest : List ℕ) → list_all (is_not b) word ≡ true → has_byte b (word ++ b ∷ rest) ≡ true
cut_has b word rest h = lt-ltb (prefix_len (is_not b) (word ++ b ∷ rest)) (length (word ++ b ∷ rest))
    (simp length-append (omega (arith, cut_len b word rest h)))

-- and the text that it was cut from
pub cut_makes : (b : ℕ) (text : List ℕ) → prefix_len (is_not b) text < length text → text ≡ before b text ++ b ∷ behind b text
cut_makes b [] h = absurd (omega arith)
cut_makes b (c ∷ text) h = elim (cases_Bool (c == b)) [
  | inl hit ↦ (let same : c ≡ b = eqb-true c b hit in rw hit (ap (λ (d : ℕ). d ∷ text) same))
  | inr miss ↦ (let within : prefix_len (is_not b) text < length text = (let all = rw miss at h in omega (arith, all)) in
      let next : 1 + prefix_len (is_not b) text ≡ suc (prefix_len (is_not b) text) = omega arith in
      let more : 1 + prefix_len (is_not b) text + 1 ≡ suc (prefix_len (is_not b) text + 1) = omega arith in
      rw (miss, more, next) (ap (λ (l : List ℕ). c ∷ l) (cut_makes b text within)))
]

pub cut_within : (b : ℕ) (text : List ℕ) → 0 < length (behind b text) → prefix_len (is_not b) text < length text
cut_within b text some = omega (arith, length-drop (prefix_len (is_not b) text + 1) text)
