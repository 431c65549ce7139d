-- What is granted or shown has a spelling.
--
-- The grammar gives tokens as names and values with their own ends, so each field that is passed on is one of a list
-- (`own_fields`). Put one behind another they stay a list, as few and as small as the head (`put_spelled`), and leaving
-- some out keeps that (`kept_spelled`). The tests that come before a head is granted or shown say the rest: each is met
-- by the cases of the definition (`granted_by`, `shown_by`). `granted_spelled` and `shown_spelled` join these.
use Rattle.std.{proofs.{lemmas.{Bool.{cases_Bool, and_parts, leb-true, ltb-false, Decides.{nat_tests}}, List.{Elements.{All-cons, All-head, All-tail, All-filter}, Sums.{list_all-from_AllPass, sum_by-cons}, Filters.{length-filter_both, sum_by-filter_both}}}, Common.{◌≡◌, ℕ, suc, ◌+◌, ◌≤◌, Bool, true, false, List, [], ◌∷◌, length, refl, sym, ap, subst, ◌∙◌, inl, inr, arith, length-append}}, specs.{Prelude.{not, nat_le, nat_lt, filter, All, codes, bytes_eq, Option, Some, None}, Option.{option_and_then}, Str.{is_utf8}}}
use Rattle.http_header.specs.Token as header
use Rattle.httparse.specs.Grammar as grammar
use Rattle.httparse.specs.{Grammar.{Field, status_code, print_request, print_response}, Spans.{name_and_value}}
use Rattle.hc_fields.specs.FieldList.{IsField, IsFieldList, field_list_with, size_of}
use Rattle.hc_fields.proofs.{Kept.{IsField-lowered, length-lowercase}, Edits.{length-put, size_of-put, IsFieldList-put}, Ends.{IsFieldList-nil}}
use Rattle.hc_head.specs.{declared.{fields.Leaving.{Leaving, TheVariants.{Address}}, framing.Framing.{Framing}, message.{MsgError.{MsgError, TheVariants.{BadHead, BadLength, UnsupportedMethod}}, WireRequest.{WireRequest}}}, Rules.{lowercase_field, fields_of, is_within_limits, is_kept, put_all, kept_of}, Requests.{Grants, Denies, asked_text, asked_of, key_in, key_of, may_have_body, request_of, with_key, IsAskedBy}, Responses.{Shows, Refuses, left_out, with_framing, heard_of, IsHeardIn}, Spellings.{AreSpelledFields, IsSpelledRequest, IsSpelledResponse}}
use Rattle.url.specs.{Parts.{Parts}, Parser.{Parsed, parse_url}}
use Rattle.hc_event.specs.declared.event.Response.{Response}
use Rattle.hc_target.specs.Targets.{is_target}
use Rattle.hc_rules.proofs.RangeReads.{if_passes}
use Rattle.hc_head.proofs.HeadFacts.{is_token, own_value, small_request, small_response}

-- the fields of a head, one by one
one_size : (f : List ℕ × List ℕ) (fields : List (List ℕ × List ℕ)) → size_of (f ∷ fields) ≡ length f.0 + length f.1 + size_of fields
one_size f fields = sum_by-cons (λ (g : List ℕ × List ℕ). length g.0 + length g.1) f fields

own_field : (f : Field) → grammar.IsField f → length (grammar.field_value f) ≤ 8192 → length f.name + length (grammar.field_value f) ≤ 49152 →
    IsField (lowercase_field (name_and_value f))
own_field f h short small =
    IsField-lowered 0 0 f.name (grammar.field_value f)
    (record { is_name = is_token f.name h.name; is_value = own_value f.raw h.raw; has_place = omega arith; is_short = short; fits = omega arith })

pub own_fields : (fs : List Field) → All grammar.IsField fs → is_within_limits (fields_of fs) ≡ true → size_of (fields_of fs) ≤ 49152 →
    All IsField (fields_of fs)
own_fields [] h short small = λ k d lt. absurd (omega arith)
own_fields (f ∷ fs) h short small =
    let parts = and_parts (nat_le (length (grammar.field_value f)) 8192) (is_within_limits (fields_of fs)) short in
    let size = one_size (lowercase_field (name_and_value f)) (fields_of fs) in
    let lower = length-lowercase f.name in
    let here = own_field f (All-head grammar.IsField f fs h) (leb-true (length (grammar.field_value f)) 8192 parts.0) (omega (arith, size, lower)) in
    All-cons IsField (lowercase_field (name_and_value f)) (fields_of fs) here (own_fields fs (All-tail grammar.IsField f fs h) parts.1 (omega (arith, size)))

-- put one behind another
put_spelled : (fields sorted : List (List ℕ × List ℕ)) → IsFieldList sorted → All IsField fields → length sorted + length fields ≤ 64 →
    size_of sorted + size_of fields ≤ 32768 → AreSpelledFields (put_all sorted fields)
put_spelled [] sorted list all few small = record { list = list; within_limits = record { few = omega arith; small = omega arith } }
put_spelled (f ∷ fields) sorted list all few small =
    let bytes = size_of-put f.0 f.1 sorted in
    let size = one_size f fields in
    put_spelled fields (field_list_with f.0 f.1 sorted)
    (IsFieldList-put f.0 f.1 sorted list (All-head IsField f fields all) (omega arith) (omega (arith, size)))
    (All-tail IsField f fields all) (omega (arith, length-put f.0 f.1 sorted)) (omega (arith, bytes, size))

filter_few : (p : List ℕ × List ℕ → Bool) (fields : List (List ℕ × List ℕ)) → length (filter p fields) ≤ length fields
filter_few p fields = omega (arith, length-filter_both p (λ (f : List ℕ × List ℕ). not (p f)) (λ _. refl) fields)

filter_small : (p : List ℕ × List ℕ → Bool) (fields : List (List ℕ × List ℕ)) → size_of (filter p fields) ≤ size_of fields
filter_small p fields = omega
    (arith, sum_by-filter_both p (λ (f : List ℕ × List ℕ). not (p f)) (λ _. refl) (λ (g : List ℕ × List ℕ). length g.0 + length g.1) fields)

fields_count : (fs : List Field) → length (fields_of fs) ≡ length fs
fields_count [] = refl
fields_count (f ∷ fs) = ap suc (fields_count fs)

pub kept_spelled : (leaving : Leaving) (fs : List Field) → All grammar.IsField fs → is_within_limits (fields_of fs) ≡ true → length fs ≤ 64 →
    size_of (fields_of fs) ≤ 32768 → AreSpelledFields (kept_of leaving (fields_of fs))
kept_spelled leaving fs h short few small =
    let fields = fields_of fs in
    let p = is_kept leaving fields in
    put_spelled (filter p fields) [] IsFieldList-nil (All-filter p IsField fields (own_fields fs h short (omega arith)))
    (omega (arith, filter_few p fields, fields_count fs)) (omega (arith, filter_small p fields))

-- what is granted
none_some : (found : Option (List ℕ)) (key : List ℕ) → found ≡ None → found ≡ Some key → ⊥
none_some found key is h = cc

refused_granted : (e : MsgError) (request : WireRequest) → Grants request ≡ Denies e → ⊥
refused_granted e request h = cc

key_in_target : (read : Parsed Parts) (key : List ℕ) → key_in read ≡ Some key → is_target key ≡ true
key_in_target read key h = grind (arith, nat_tests)

key_target : (text key : List ℕ) → key_of text ≡ Some key → is_target key ≡ true
unfolding key_of
key_target text key h = key_in_target (parse_url None text) key (if_passes (is_utf8 text) (key_in (parse_url None text)) key h).1

asked_target : (text : Option (List ℕ)) (key : List ℕ) → option_and_then key_of text ≡ Some key → is_target key ≡ true
asked_target None key h = absurd (none_some None key refl h)
asked_target (Some text) key h = key_target text key h

-- what holds of the parts of a head that grants something
pub record IsGranted (method target : List ℕ) (minor : ℕ) (fields : List (List ℕ × List ℕ)) (request : WireRequest) : Type 0 where
  pub short_values : is_within_limits fields ≡ true
  pub other : bytes_eq method (codes "CONNECT") ≡ false
  pub short : length method ≤ 15
  pub key : List ℕ
  pub key_is : is_target key ≡ true
  pub is : request ≡ request_of method minor fields key

keyed : (method target : List ℕ) (minor : ℕ) (fields : List (List ℕ × List ℕ)) (request : WireRequest) (found : Option (List ℕ)) → found ≡ option_and_then
    key_of (asked_text target fields)
    → Grants request ≡ with_key method minor fields found → (key : List ℕ) × (is_target key ≡ true) × (request ≡ request_of method minor fields key)
keyed method target minor fields request None is h = absurd (refused_granted BadHead request h)
keyed method target minor fields request (Some key) is h = elim (cases_Bool (may_have_body fields)) [
  | inl body ↦ absurd (refused_granted BadLength request (rw body at h))
  | inr none ↦ (let same : Grants request ≡ Grants (request_of method minor fields key) = rw none at h in
      (key, asked_target (asked_text target fields) key (sym is), cc))
]

granted_by : (method target : List ℕ) (minor : ℕ) (fields : List (List ℕ × List ℕ)) (request : WireRequest) →
    Grants request ≡ asked_of method target minor fields → IsGranted method target minor fields request
unfolding asked_of
granted_by method target minor fields request h = elim (cases_Bool (is_within_limits fields)) [
  | inr far ↦ absurd (refused_granted BadHead request (rw far at h))
  | inl within ↦ elim (cases_Bool (bytes_eq method (codes "CONNECT"))) [
    | inl connect ↦ absurd (refused_granted UnsupportedMethod request (rw (within, connect) at h))
    | inr other ↦ elim (cases_Bool (nat_lt 15 (length method))) [
      | inl long ↦ absurd (refused_granted BadHead request (rw (within, other, long) at h))
      | inr short ↦ (let keys =
          keyed method target minor fields request (option_and_then key_of (asked_text target fields)) refl (rw (within, other, short) at h) in
          record { short_values = within; other = other; short = ltb-false 15 (length method) short; key = keys.0; key_is = keys.1; is = keys.2 })
    ]
  ]
]

pub granted_spelled : (text : List ℕ) (request : WireRequest) → length text ≤ 32768 → IsAskedBy text (Grants request) → IsSpelledRequest request.request
granted_spelled text request long (inr x) = absurd (refused_granted BadHead request x.1)
granted_spelled text request long (inl x) =
    let head = x.0 in
    let granted = granted_by head.method head.target head.minor (fields_of head.fields) request x.2 in
    let small = small_request head in
    let len : length text ≡ length (print_request head) = ap length x.1.reads.1 ∙ length-append (print_request head) [] ∙ omega arith in
    let token = is_token head.method x.1.reads.0.method in
    subst (λ (r : WireRequest). IsSpelledRequest r.request) (sym granted.is) (record {
      method = record {
        token = list_all-from_AllPass header.is_token_byte head.method token.1;
        some = omega (arith, token.0);
        short = granted.short;
        other = granted.other;
      };
      key = granted.key_is;
      fields = kept_spelled Address head.fields x.1.reads.0.fields granted.short_values x.1.few (omega (arith, len, small));
    })

-- what is shown
refused_shown : (e : MsgError) (response : Response) (framing : Framing) → Shows response framing ≡ Refuses e → ⊥
refused_shown e response framing h = cc

pub record IsShown (reported : Bool) (status : ℕ) (fields : List (List ℕ × List ℕ)) (response : Response) (framing : Framing) : Type 0 where
  pub short_values : is_within_limits fields ≡ true
  pub low : 200 ≤ status
  pub high : status ≤ 599
  pub is : response ≡ record { status = status; fields = kept_of (left_out framing) fields }

framed : (status : ℕ) (fields : List (List ℕ × List ℕ)) (response : Response) (framing : Framing) (found : Option Framing) →
    Shows response framing ≡ with_framing status fields found
    → response ≡ record { status = status; fields = kept_of (left_out framing) fields }
framed status fields response framing found h = grind (arith, nat_tests)

shown_by : (reported : Bool) (status : ℕ) (fields : List (List ℕ × List ℕ)) (response : Response) (framing : Framing) →
    Shows response framing ≡ heard_of reported status fields → IsShown reported status fields response framing
unfolding heard_of
shown_by reported status fields response framing h = search arith

pub shown_spelled : (no_body : Bool) (text : List ℕ) (response : Response) (framing : Framing) → length text ≤ 32768 →
    IsHeardIn no_body text (Shows response framing) → IsSpelledResponse response
shown_spelled no_body text response framing long (inr x) = absurd (refused_shown BadHead response framing x.1)
shown_spelled no_body text response framing long (inl x) =
    let head = x.0 in
    let shown = shown_by no_body (status_code head) (fields_of head.fields) response framing x.2 in
    let small = small_response head in
    let len : length text ≡ length (print_response head) = ap length x.1.reads.1 ∙ length-append (print_response head) [] ∙ omega arith in
    subst (λ (r : Response). IsSpelledResponse r) (sym shown.is) (record {
      low = shown.low;
      high = shown.high;
      fields = kept_spelled (left_out framing) head.fields x.1.reads.0.fields shown.short_values x.1.few (omega (arith, len, small));
    })
