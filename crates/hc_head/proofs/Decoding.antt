-- What a text comes to is what the equations say.
--
-- A head that is printed is read as that head (`request_reads`, `response_reads`), and a head that is read prints as
-- the text (`request_prints`, `response_prints`): its lines and the parts of its first line make the text again. The
-- grammar reads one head at most, so the head that the equations find is the one that counts. Where they find none,
-- there is none. `asked_in_is` and `heard_in_is` join this.
use Rattle.std.{proofs.{lemmas.{Bool.{cases_Bool, and_parts, eqb-true, ne_eqb, ltb-true, ltb-false, lt-ltb, Decides.{nat_tests}}, Str.{IsUtf8-from_is_utf8, is_utf8-from_IsUtf8}, List.{append-nil, take-append-drop, Sums.{AllPass-from_list_all, list_all-from_AllPass}}, Slice.Eq.{bytes_eq-Decides}}, Common.{◌≡◌, ℕ, zero, suc, ◌<◌, ◌≤◌, ◌==◌, Bool, true, false, List, [], ◌∷◌, ◌++◌, length, take, drop, refl, sym, ap, subst, ◌∙◌, inl, inr, arith, append_assoc, length-append}}, specs.{Prelude.{◌&&◌, nat_lt, map, All, bytes_eq, codes, Option, Some, None, option_map, option_and_then}, List.{list_all, flat_map}, Char.{is_ascii_digit}, Str.{is_utf8}}}
use Rattle.hc_text.proofs.Basics.{mapped_from, not_some, some_inj as some_same}
use Rattle.hc_rules.proofs.RangeReads.{if_passes}
use Rattle.httparse.specs.Grammar.{LineEnd, print_end, print_blank, print_version, Field, IsField, print_section, RequestHead, IsRequestHead, print_request, ReadsRequest, ResponseHead, IsResponseHead, print_response, print_reason, reason_phrase, AllPass, ReadsResponse, is_token, is_token_byte, is_uri_byte, is_value_byte}
use Rattle.httparse.proofs.GrammarLemmas.{cons-append, print_request-append, print_response-append, request_unique, response_unique}
use Rattle.hc_head.specs.{Requests.{IsAskedBy}, Responses.{IsHeardIn}, HeadLines.{Line, lines_behind, is_empty, blank_in, behind_blank, before, behind, minor_of, Section, section_of, is_request, request_with, request_by, request_of_lines, request_head, reason_of, has_status, response_with, response_by, response_of_lines, response_head}, Decoding.{asked_by_head, asked_in, heard_by_head, heard_in}}
use Rattle.hc_head.proofs.{LineTexts.{is_plain, all_not, all_plain, plain_append, print_line, line_printed, lines_make, cut_before, cut_behind, cut_makes, cut_within}, HeadTexts.{bound_from, token_true, token_plain, no_space, field_line, section_read, section_lines, section_make, empty_line, blank_lines, blank_read, behind_read, blank_make, minor_read, minor_make}}

-- lines that are printed are read
version_plain : (minor : ℕ) → minor ≤ 1 → list_all is_plain (print_version minor) ≡ true
version_plain (suc (suc n)) h = absurd (omega arith)
version_plain _ h = refl

word_line : (word rest : List ℕ) (end : LineEnd) → 0 < length word → is_empty (record { text = word ++ rest; end = end }) ≡ false
word_line word rest end some = ne_eqb (length (word ++ rest)) 0 (λ e. omega (arith, e, length-append word rest))

-- the lines of a head whose first line is this
pub head_lines : (ends : List LineEnd) (text : List ℕ) (end : LineEnd) (fs : List Field) (last : LineEnd) → list_all is_plain text ≡ true → All IsField fs
    → lines_behind [] (print_blank ends ++ (text ++ (print_end end ++ print_section fs last)))
    ≡ Some (map empty_line ends ++ record { text = text; end = end } ∷ (map field_line fs ++ record { text = []; end = last } ∷ []))
head_lines ends text end fs last plain fields = search (arith, blank_lines, field_line, line_printed, section_lines)

-- REQUESTS

abbrev pub request_text : RequestHead → List ℕ
request_text h = h.method ++ 32 ∷ (h.target ++ 32 ∷ print_version h.minor)

request_read : (h : RequestHead) → IsRequestHead h →
    request_with h.blank (record { text = request_text h; end = h.line_end }) (record { fields = h.fields; last = h.last })
    (minor_of (behind 32 (behind 32 (request_text h)))) ≡ Some h
request_read h is =
    let methods = list_all-from_AllPass is_token_byte h.method is.method.1 in
    let targets = list_all-from_AllPass is_uri_byte h.target is.target.1 in
    let first = no_space h.method methods in
    let second = all_not is_uri_byte 32 refl h.target targets in
    let method = cut_before 32 h.method (h.target ++ 32 ∷ print_version h.minor) first in
    let rest = cut_behind 32 h.method (h.target ++ 32 ∷ print_version h.minor) first in
    let target = cut_before 32 h.target (print_version h.minor) second in
    let version = cut_behind 32 h.target (print_version h.minor) second in
    let minor = minor_read h.minor is.minor in
    let token = token_true h.method is.method.0 methods in
    let some : nat_lt 0 (length h.target) ≡ true = lt-ltb 0 (length h.target) is.target.0 in
    let utf8 = is_utf8-from_IsUtf8 h.target is.target_text in
    let behind_both : minor_of (behind 32 (behind 32 (request_text h))) ≡ Some h.minor = ap (λ (t : List ℕ). minor_of (behind 32 t)) rest ∙
    ap minor_of version ∙ minor in
    let own : before 32 (behind 32 (request_text h)) ≡ h.target = ap (before 32) rest ∙ target in
    let holds : is_request h.method h.target ≡ true = rw (token, some, targets, utf8) refl in
    rw (behind_both, method, own, holds) refl

request_plain : (h : RequestHead) → IsRequestHead h → list_all is_plain (request_text h) ≡ true
request_plain h is =
    let targets = all_plain is_uri_byte refl refl h.target (list_all-from_AllPass is_uri_byte h.target is.target.1) in
    let tail = plain_append h.target (32 ∷ print_version h.minor) targets (version_plain h.minor is.minor) in
    plain_append h.method (32 ∷ (h.target ++ 32 ∷ print_version h.minor)) (token_plain h.method (list_all-from_AllPass is_token_byte h.method is.method.1)) tail

request_layout : (h : RequestHead) → print_request h ≡ print_blank h.blank ++ (request_text h ++ (print_end h.line_end ++ print_section h.fields h.last))
request_layout h =
    rw (← append-nil (print_request h), print_request-append h []) (simp (append-nil, append_assoc, cons-append))

pub request_reads : (text : List ℕ) (h : RequestHead) → ReadsRequest text h [] → request_head text ≡ Some h
request_reads text h reads =
    let is = reads.0 in
    let layout : text ≡ print_blank h.blank ++ (request_text h ++ (print_end h.line_end ++ print_section h.fields h.last)) = reads.1 ∙
    append-nil (print_request h) ∙ request_layout h in
    let lines = head_lines h.blank (request_text h) h.line_end h.fields h.last (request_plain h is) is.fields in
    let first : Line = record { text = request_text h; end = h.line_end } in
    let more = map field_line h.fields ++ record { text = []; end = h.last } ∷ [] in
    let some = word_line h.method (32 ∷ (h.target ++ 32 ∷ print_version h.minor)) h.line_end is.method.0 in
    let blank = blank_read h.blank first more some in
    let rest = behind_read h.blank first more some in
    rw (layout, lines, blank, rest, section_read h.fields h.last is.fields) (request_read h is)

-- the other way
pub record IsRequestLine (blank : List LineEnd) (line : Line) (section : Section) (h : RequestHead) : Type 0 where
  pub is : IsRequestHead h
  pub blank_is : blank ≡ h.blank
  pub text_is : line.text ≡ request_text h
  pub end_is : line.end ≡ h.line_end
  pub fields_are : section.fields ≡ h.fields
  pub last_is : section.last ≡ h.last

some_version : (text : List ℕ) (minor : ℕ) → text ≡ print_version minor → 0 < length text
some_version text minor is = omega (arith, ap length is)

request_make : (blank : List LineEnd) (line : Line) (section : Section) (h : RequestHead) → All IsField section.fields
    → request_with blank line section (minor_of (behind 32 (behind 32 line.text))) ≡ Some h → IsRequestLine blank line section h
request_make blank line section h fields found = by (minor_of (behind 32 (behind 32 line.text))) refl found where
  by : (minor : Option ℕ) → minor_of (behind 32 (behind 32 line.text)) ≡ minor → request_with blank line section minor ≡ Some h →
      IsRequestLine blank line section h
  by None is found = absurd (not_some h found)
  by (Some minor) is found =
      let method = before 32 line.text in
      let rest = behind 32 line.text in
      let target = before 32 rest in
      let holds = if_passes (is_request method target) _ h found in
      let version = minor_make (behind 32 rest) minor is in
      let second : rest ≡ target ++ 32 ∷ behind 32 rest = cut_makes 32 rest (cut_within 32 rest (some_version (behind 32 rest) minor version.1)) in
      let first : line.text ≡ method ++ 32 ∷ rest =
      cut_makes 32 line.text (cut_within 32 line.text (omega (arith, ap length second, length-append target (32 ∷ behind 32 rest)))) in
      let outer = and_parts ((is_token method && nat_lt 0 (length target)) && list_all is_uri_byte target) (is_utf8 target) holds.0 in
      let inner = and_parts (is_token method && nat_lt 0 (length target)) (list_all is_uri_byte target) outer.0 in
      let parts = and_parts (is_token method) (nat_lt 0 (length target)) inner.0 in
      let token = and_parts (nat_lt 0 (length method)) (list_all is_token_byte method) parts.0 in
      let made : RequestHead =
      record { blank = blank; method = method; target = target; minor = minor; line_end = line.end; fields = section.fields; last = section.last } in
      subst (IsRequestLine blank line section) (some_same made h holds.1) (record {
        is = record {
          method = (ltb-true 0 (length method) token.0, AllPass-from_list_all is_token_byte method token.1);
          target = (ltb-true 0 (length target) parts.1, AllPass-from_list_all is_uri_byte target inner.1);
          target_text = IsUtf8-from_is_utf8 target outer.1;
          minor = version.0;
          fields = fields;
        };
        blank_is = refl;
        text_is = first ∙ ap (λ (t : List ℕ). method ++ 32 ∷ t) second ∙ ap (λ (t : List ℕ). method ++ 32 ∷ (target ++ 32 ∷ t)) version.1;
        end_is = refl;
        fields_are = refl;
        last_is = refl;
      })

made_request : (text : List ℕ) (blank : List LineEnd) (lines : List Line) (h : RequestHead) → text ≡ print_blank blank ++ flat_map print_line lines →
    request_by blank lines ≡ Some h → ReadsRequest text h []
made_request text blank [] h is found = absurd (not_some h found)
made_request text blank (line ∷ lines) h is found =
    let section = bound_from (λ s. request_with blank line s (minor_of (behind 32 (behind 32 line.text)))) (section_of lines) h found in
    let behind_it = section_make lines section.0 section.1 in
    let made = request_make blank line section.0 h behind_it.fields section.2 in (
      made.is,
      rw (is, behind_it.printed, append-nil (print_request h), request_layout h)
          (rw (← append_assoc (request_text h) (print_end h.line_end) (print_section h.fields h.last)) cc),
    )

pub request_prints : (text : List ℕ) (h : RequestHead) → request_head text ≡ Some h → ReadsRequest text h []
request_prints text h found =
    let lines = bound_from request_of_lines (lines_behind [] text) h found in
    made_request text (blank_in lines.0) (behind_blank lines.0) h (lines_make [] text lines.0 lines.1 ∙ blank_make lines.0) lines.2

asked_by : (text : List ℕ) (found : Option RequestHead) → request_head text ≡ found → IsAskedBy text (asked_by_head found)
asked_by text None is = inr (λ head x. not_some head (sym is ∙ request_reads text head x.reads), refl)
asked_by text (Some h) is =
    let reads = request_prints text h is in
    elim (cases_Bool (nat_lt 64 (length h.fields))) [
      | inl many ↦ (let over = ltb-true 64 (length h.fields) many in
          rw many (inr (
            λ head x. let same = request_unique text head h [] [] x.reads reads in
                omega (arith, over, ap (λ (k : RequestHead). length k.fields) same.0, x.few),
            refl,
          )))
      | inr few ↦ rw few (inl (h, record { reads = reads; few = ltb-false 64 (length h.fields) few }, refl))
    ]

pub asked_in_is : (text : List ℕ) → IsAskedBy text (asked_in text)
unfolding asked_in
asked_in_is text = asked_by text (request_head text) refl

-- ANSWERS

abbrev pub response_line : ResponseHead → List ℕ
response_line h = print_version h.minor ++ 32 ∷ (h.digits ++ print_reason h.reason)

reason_read : (reason : Option (List ℕ)) → AllPass is_value_byte (reason_phrase reason) → reason_of (print_reason reason) ≡ Some reason
reason_read None all = refl
reason_read (Some phrase) all = let values = list_all-from_AllPass is_value_byte phrase all in rw values refl

reason_make : (text : List ℕ) (reason : Option (List ℕ)) → reason_of text ≡ Some reason → AllPass is_value_byte (reason_phrase reason) ×
    (text ≡ print_reason reason)
reason_make [] reason h =
    let same : None ≡ reason = some_same None reason h in
    subst (λ (r : Option (List ℕ)). AllPass is_value_byte (reason_phrase r) × ([] ≡ print_reason r)) same (λ k d lt. absurd (omega arith), refl)
reason_make (b ∷ phrase) reason h =
    let hit = if_passes (b == 32 && list_all is_value_byte phrase) (Some (Some phrase)) reason h in
    let parts = and_parts (b == 32) (list_all is_value_byte phrase) hit.0 in
    rw (← some_same (Some phrase) reason hit.1)
    (AllPass-from_list_all is_value_byte phrase parts.1, ap (λ (c : ℕ). c ∷ phrase) (eqb-true b 32 parts.0))

response_read : (h : ResponseHead) (lines : List Line) → IsResponseHead h → section_of lines ≡ Some (record { fields = h.fields; last = h.last })
    → response_by h.blank (record { text = response_line h; end = h.line_end } ∷ lines) ≡ Some h
response_read h lines is sections = go h.minor h.digits is.minor is.digits.0 (list_all-from_AllPass is_ascii_digit h.digits is.digits.1) where
  reasons : reason_of (print_reason h.reason) ≡ Some h.reason
  reasons = reason_read h.reason is.reason

  go : (minor : ℕ) (digits : List ℕ) → minor ≤ 1 → length digits ≡ 3 → list_all is_ascii_digit digits ≡ true
      → response_by h.blank (record { text = print_version minor ++ 32 ∷ (digits ++ print_reason h.reason); end = h.line_end } ∷ lines)
      ≡ Some (record { blank = h.blank; minor = minor; digits = digits; reason = h.reason; line_end = h.line_end; fields = h.fields; last = h.last })
  go zero (a ∷ b ∷ c ∷ []) low three all = rw (all, sections, reasons) refl
  go (suc zero) (a ∷ b ∷ c ∷ []) low three all = rw (all, sections, reasons) refl
  go (suc (suc n)) (a ∷ b ∷ c ∷ []) low three all = absurd (omega arith)
  go minor _ low three all = absurd (omega (arith, three))

digits_plain : (digits : List ℕ) → list_all is_ascii_digit digits ≡ true → list_all is_plain digits ≡ true
digits_plain digits all = all_plain is_ascii_digit refl refl digits all

reason_plain : (reason : Option (List ℕ)) → AllPass is_value_byte (reason_phrase reason) → list_all is_plain (print_reason reason) ≡ true
reason_plain None all = refl
reason_plain (Some phrase) all = all_plain is_value_byte refl refl phrase (list_all-from_AllPass is_value_byte phrase all)

response_plain : (h : ResponseHead) → IsResponseHead h → list_all is_plain (response_line h) ≡ true
response_plain h is =
    let tail = plain_append h.digits (print_reason h.reason) (digits_plain h.digits (list_all-from_AllPass is_ascii_digit h.digits is.digits.1))
    (reason_plain h.reason is.reason) in
    plain_append (print_version h.minor) (32 ∷ (h.digits ++ print_reason h.reason)) (version_plain h.minor is.minor) tail

response_layout : (h : ResponseHead) → print_response h ≡ print_blank h.blank ++ (response_line h ++ (print_end h.line_end ++ print_section h.fields h.last))
response_layout h =
    rw (← append-nil (print_response h), print_response-append h []) (simp (append-nil, append_assoc, cons-append))

pub response_reads : (text : List ℕ) (h : ResponseHead) → ReadsResponse text h [] → response_head text ≡ Some h
response_reads text h reads =
    let is = reads.0 in
    let layout : text ≡ print_blank h.blank ++ (response_line h ++ (print_end h.line_end ++ print_section h.fields h.last)) = reads.1 ∙
    append-nil (print_response h) ∙ response_layout h in
    let lines = head_lines h.blank (response_line h) h.line_end h.fields h.last (response_plain h is) is.fields in
    let first : Line = record { text = response_line h; end = h.line_end } in
    let more = map field_line h.fields ++ record { text = []; end = h.last } ∷ [] in
    let some = word_line (print_version h.minor) (32 ∷ (h.digits ++ print_reason h.reason)) h.line_end (omega arith) in
    let blank = blank_read h.blank first more some in
    let rest = behind_read h.blank first more some in
    rw (layout, lines, blank, rest) (response_read h more is (section_read h.fields h.last is.fields))

-- the other way
split_at : (n : ℕ) (text : List ℕ) → text ≡ take n text ++ drop n text
split_at n text = sym (take-append-drop n text)

line_parts : (text version digits tail : List ℕ) → take 8 text ≡ version → take 1 (drop 8 text) ≡ 32 ∷ [] → take 3 (drop 9 text) ≡ digits →
    drop 12 text ≡ tail → text ≡ version ++ 32 ∷ (digits ++ tail)
line_parts text version digits tail v s d t = grind (arith, nat_tests)

pub record IsResponseLine (blank : List LineEnd) (line : Line) (section : Section) (h : ResponseHead) : Type 0 where
  pub is : IsResponseHead h
  pub blank_is : blank ≡ h.blank
  pub text_is : line.text ≡ response_line h
  pub end_is : line.end ≡ h.line_end
  pub fields_are : section.fields ≡ h.fields
  pub last_is : section.last ≡ h.last

response_make : (blank : List LineEnd) (line : Line) (section : Section) (h : ResponseHead) (minor : ℕ) → All IsField section.fields →
    has_status line.text ≡ true
    → minor_of (take 8 line.text) ≡ Some minor → option_map (response_with blank line section minor) (reason_of (drop 12 line.text)) ≡ Some h →
    IsResponseLine blank line section h
response_make blank line section h minor fields status minors found =
    let reason = mapped_from (response_with blank line section minor) (reason_of (drop 12 line.text)) h found in
    let version = minor_make (take 8 line.text) minor minors in
    let phrase = reason_make (drop 12 line.text) reason.0 reason.1 in
    let digits = take 3 (drop 9 line.text) in
    let outer = and_parts (bytes_eq (take 1 (drop 8 line.text)) (codes " ") && length digits == 3) (list_all is_ascii_digit digits) status in
    let parts = and_parts (bytes_eq (take 1 (drop 8 line.text)) (codes " ")) (length digits == 3) outer.0 in
    subst (IsResponseLine blank line section) reason.2 (record {
      is = record {
        minor = version.0;
        digits = (eqb-true (length digits) 3 parts.1, AllPass-from_list_all is_ascii_digit digits outer.1);
        reason = phrase.0;
        fields = fields;
      };
      blank_is = refl;
      text_is = line_parts line.text (print_version minor) digits (print_reason reason.0) version.1
          ((bytes_eq-Decides (take 1 (drop 8 line.text)) (codes " ")).0 parts.0) refl phrase.1;
      end_is = refl;
      fields_are = refl;
      last_is = refl;
    })

made_response : (text : List ℕ) (blank : List LineEnd) (lines : List Line) (h : ResponseHead) → text ≡ print_blank blank ++ flat_map print_line lines →
    response_by blank lines ≡ Some h → ReadsResponse text h []
made_response text blank [] h is found = absurd (not_some h found)
made_response text blank (line ∷ lines) h is found =
    let status = if_passes (has_status line.text) _ h found in
    let section = bound_from
    (λ s. option_and_then (λ minor. option_map (response_with blank line s minor) (reason_of (drop 12 line.text))) (minor_of (take 8 line.text)))
    (section_of lines) h status.1 in
    let minor = bound_from (λ n. option_map (response_with blank line section.0 n) (reason_of (drop 12 line.text))) (minor_of (take 8 line.text)) h section.2 in
    let behind_it = section_make lines section.0 section.1 in
    let made = response_make blank line section.0 h minor.0 behind_it.fields status.0 minor.1 minor.2 in (
      made.is,
      rw (is, behind_it.printed, append-nil (print_response h), response_layout h)
          (rw (← append_assoc (response_line h) (print_end h.line_end) (print_section h.fields h.last)) cc),
    )

pub response_prints : (text : List ℕ) (h : ResponseHead) → response_head text ≡ Some h → ReadsResponse text h []
response_prints text h found =
    let lines = bound_from response_of_lines (lines_behind [] text) h found in
    made_response text (blank_in lines.0) (behind_blank lines.0) h (lines_make [] text lines.0 lines.1 ∙ blank_make lines.0) lines.2

heard_by : (no_body : Bool) (text : List ℕ) (found : Option ResponseHead) → response_head text ≡ found → IsHeardIn no_body text (heard_by_head no_body found)
heard_by no_body text None is = inr (λ head x. not_some head (sym is ∙ response_reads text head x.reads), refl)
heard_by no_body text (Some h) is =
    let reads = response_prints text h is in
    elim (cases_Bool (nat_lt 64 (length h.fields))) [
      | inl many ↦ (let over = ltb-true 64 (length h.fields) many in
          rw many (inr (
            λ head x. let same = response_unique text head h [] [] x.reads reads in
                omega (arith, over, ap (λ (k : ResponseHead). length k.fields) same.0, x.few),
            refl,
          )))
      | inr few ↦ rw few (inl (h, record { reads = reads; few = ltb-false 64 (length h.fields) few }, refl))
    ]

pub heard_in_is : (no_body : Bool) (text : List ℕ) → IsHeardIn no_body text (heard_in no_body text)
unfolding heard_in
heard_in_is no_body text = heard_by no_body text (response_head text) refl
