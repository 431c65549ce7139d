-- A plain target is a target.
--
-- A plain text is cut into its host, its path and its query (`plain_parts`). From these a URL is made, and each part
-- passes its test by its bytes. The host is a name and no number (`no_number`). No segment of the path begins as dots
-- do (`parts_plain`), and what is kept needs no escape. So the URL is valid (`url_is`), and its text is the one that
-- was cut (`text_is`). What a valid URL prints is parsed as it, so the text is a target (`plain_target`).
use Rattle.std.{proofs.{Common.{◌≡◌, ℕ, ◌≤◌, ◌==◌, ◌&&◌, ◌||◌, not, Bool, true, false, List, [], ◌∷◌, ◌++◌, length, Option, Some, None, refl, sym, ap, subst, ◌∙◌, inl, inr, arith, leb-true, le-leb}, lemmas.{Bool.{cases_Bool, and_parts, and_from, eqb-true, ne_eqb, Decides.{nat_tests}}, List.{append-nil, Elements.{All-nil, All-cons}, Folds.{list_all-append}}, Str.{IsUtf8-from_ascii}, Slice.Eq.{bytes_eq-Decides}}}, specs.{Prelude.{codes, All, IfSome, IsUtf8, IsAscii, Ok, nat_le, if◌then◌else◌}, List.{list_all}, Char.{is_ascii_digit, is_digit, to_ascii_lowercase}}}
use Rattle.percent_encoding.specs.Percent.{IsKept}
use Rattle.url.proofs.{SetLemmas.{kept_from_passes}, Theorems.{parse_url-serialize_special}, ValidLemmas.{IsAscii-serialize}}
use Rattle.url.specs.{Parser.{parse_url}, declared.{sets.TheConstants.{FORBIDDEN_DOMAIN, PATH, SPECIAL_QUERY, USERINFO}, scheme.SchemeType.TheVariants.{SpecialNotFile}}, Input.{rsplit_once, rsplit_step, lowercase, is_empty}, Ipv4.{ends_in_a_number, last_label, last_label_of, parse_number, is_number}, Host.{IsDomain}, Path.{IsSegment, IsSegmentList, join_segments, dot_count}, Scheme.{default_port, scheme_type, is_slash, scheme_len}, Parts.{IsValid, IsValidHead, serialize, kind_of}}
use Rattle.hc_text.specs.Texts.{cut, behind}
use Rattle.hc_target.specs.{Targets.{is_target, is_short_word, has_own_text, ReadsTarget}, PlainTargets.{is_host_byte, is_path_byte, is_query_byte, begins_dots, is_plain_path, is_plain_path_and_query, is_plain_rest, is_plain_target, plain_url}}
use Rattle.hc_text.proofs.Cutting.{none_or_some, append-cut, append-behind}
use Rattle.hc_target.proofs.TargetLemmas.{is_target-own}

-- bytes

keeps_domain : (b : ℕ) → is_host_byte b ≡ true → IsKept FORBIDDEN_DOMAIN b
keeps_domain b h = kept_from_passes is_host_byte FORBIDDEN_DOMAIN refl b (grind (arith, nat_tests)) h

keeps_path : (b : ℕ) → is_path_byte b ≡ true → IsKept PATH b
keeps_path b h = kept_from_passes is_path_byte PATH refl b (grind (arith, nat_tests)) h

keeps_query : (b : ℕ) → is_query_byte b ≡ true → IsKept SPECIAL_QUERY b
keeps_query b h = kept_from_passes is_query_byte SPECIAL_QUERY refl b (grind (arith, nat_tests)) h

no_digit : (b : ℕ) → is_host_byte b ≡ true → is_ascii_digit b ≡ false
no_digit b h = grind (arith, nat_tests)

no_decimal : (b : ℕ) → is_host_byte b ≡ true → is_digit b 10 ≡ false
no_decimal b h = grind (arith, nat_tests)

not_zero : (b : ℕ) → is_host_byte b ≡ true → (b == 48) ≡ false
not_zero b h = grind (arith, nat_tests)

is_lower : (b : ℕ) → is_host_byte b ≡ true → to_ascii_lowercase b ≡ b
is_lower b h = grind (arith, nat_tests)

All-passing : (p : ℕ → Bool) (P : ℕ → Type 0) → ((b : ℕ) → p b ≡ true → P b) → (bytes : List ℕ) → list_all p bytes ≡ true → All P bytes
All-passing p P each [] h = All-nil P
All-passing p P each (b ∷ bytes) h =
    let both = and_parts (p b) (list_all p bytes) h in All-cons P b bytes (each b both.0) (All-passing p P each bytes both.1)

-- hosts

lower_host : (host : List ℕ) → list_all is_host_byte host ≡ true → lowercase host ≡ host
lower_host [] h = refl
lower_host (b ∷ host) h =
    let both = and_parts (is_host_byte b) (list_all is_host_byte host) h in
    let first = is_lower b both.0 in
    let rest = lower_host host both.1 in
    cc

abbrev FrontPasses : (ℕ → Bool) → Option (List ℕ) → Type 0
FrontPasses p None = Unit {0}
FrontPasses p (Some front) = list_all p front ≡ true

abbrev BothPass : (ℕ → Bool) → Option (List ℕ) → List ℕ → Type 0
BothPass p o back = FrontPasses p o × (list_all p back ≡ true)

step_passes : (p : ℕ → Bool) (sep b : ℕ) (o : Option (List ℕ)) (back : List ℕ) → p b ≡ true → BothPass p o back
    → BothPass p (rsplit_step sep b o back).0 (rsplit_step sep b o back).1
step_passes p sep b (Some front) back is h = (and_from (p b) (list_all p front) is h.0, h.1)
step_passes p sep b None back is h =
    elim (cases_Bool (b == sep)) [
      | inl same ↦ rw same (refl, h.1)
      | inr other ↦ rw other (tt, and_from (p b) (list_all p back) is h.1)
    ]

split_passes : (p : ℕ → Bool) (sep : ℕ) (bytes : List ℕ) → list_all p bytes ≡ true → BothPass p (rsplit_once sep bytes).0 (rsplit_once sep bytes).1
unfolding rsplit_once
split_passes p sep [] h = (tt, refl)
split_passes p sep (b ∷ bytes) h =
    let both = and_parts (p b) (list_all p bytes) h in
    step_passes p sep b (rsplit_once sep bytes).0 (rsplit_once sep bytes).1 both.0 (split_passes p sep bytes both.1)

label_passes : (p : ℕ → Bool) (o : Option (List ℕ)) (back : List ℕ) → BothPass p o back → list_all p (last_label_of o back) ≡ true
label_passes p None back h = h.1
label_passes p (Some front) back h =
    elim (cases_Bool (is_empty back)) [
      | inl none ↦ rw none (split_passes p 46 front h.0).1
      | inr some ↦ rw some h.1
    ]

no_number : (last : List ℕ) → list_all is_host_byte last ≡ true →
    ((not (is_empty last) && list_all is_ascii_digit last) || is_number (parse_number last)) ≡ false
unfolding parse_number
no_number [] h = refl
no_number (b ∷ last) h =
    let both = and_parts (is_host_byte b) (list_all is_host_byte last) h in
    let digit = no_digit b both.0 in
    let zero = not_zero b both.0 in
    let some : is_empty (b ∷ last) ≡ false = ne_eqb (length (b ∷ last)) 0 (λ e. omega (arith, e)) in
    rw (some, digit, zero, no_decimal b both.0) refl

named_host : (host : List ℕ) → list_all is_host_byte host ≡ true → ends_in_a_number host ≡ false
unfolding ends_in_a_number
named_host host h =
    let split = split_passes is_host_byte 46 host h in
    no_number (last_label host) (label_passes is_host_byte (rsplit_once 46 host).0 (rsplit_once 46 host).1 split)

domain_is : (host : List ℕ) → list_all is_host_byte host ≡ true → IsDomain host
domain_is host h = record {
  allowed = All-passing is_host_byte (IsKept FORBIDDEN_DOMAIN) keeps_domain host h;
  lower = lower_host host h;
  named = named_host host h;
}

-- paths

abbrev is_segment_byte : ℕ → Bool
is_segment_byte b = is_path_byte b && not (b == 47)

abbrev begin_with : ℕ → List (List ℕ) → List (List ℕ)
begin_with b [] = (b ∷ []) ∷ []
begin_with b (s ∷ ss) = (b ∷ s) ∷ ss

abbrev parts_of : List ℕ → List (List ℕ)
parts_of [] = [] ∷ []
parts_of (b ∷ path) = if b == 47 then [] ∷ parts_of path else begin_with b (parts_of path)

join_begun : (b : ℕ) (path : List ℕ) (ss : List (List ℕ)) → 47 ∷ path ≡ join_segments ss → 47 ∷ b ∷ path ≡ join_segments (begin_with b ss)
join_begun b path [] h = cc h
join_begun b path (s ∷ ss) h = let rest : path ≡ s ++ join_segments ss = cc h in ap (λ (l : List ℕ). 47 ∷ b ∷ l) rest

joined : (path : List ℕ) → 47 ∷ path ≡ join_segments (parts_of path)
joined [] = refl
joined (b ∷ path) =
    elim (cases_Bool (b == 47)) [
      | inl slash ↦ let is : b ≡ 47 = eqb-true b 47 slash in rw slash (rw is (ap (λ (l : List ℕ). 47 ∷ l) (joined path)))
      | inr other ↦ rw other (join_begun b path (parts_of path) (joined path))
    ]

-- where it begins a segment, the first byte begins no dots
abbrev begins_plainly : Bool → List ℕ → Bool
begins_plainly begins [] = true
begins_plainly begins (b ∷ segment) = not (begins && begins_dots b)

abbrev is_plain_segment : Bool → List ℕ → Bool
is_plain_segment begins segment = begins_plainly begins segment && list_all is_segment_byte segment

-- the first of them stands at the beginning where `begins` says so
abbrev are_plain : Bool → List (List ℕ) → Bool
are_plain begins [] = true
are_plain begins (s ∷ ss) = is_plain_segment begins s && list_all (λ t. is_plain_segment true t) ss

all_plain : (ss : List (List ℕ)) → are_plain true ss ≡ true → list_all (λ t. is_plain_segment true t) ss ≡ true
all_plain [] h = refl
all_plain (s ∷ ss) h = h

begun_plain : (begins : Bool) (b : ℕ) (ss : List (List ℕ)) → is_segment_byte b ≡ true → not (begins && begins_dots b) ≡ true → are_plain false ss ≡ true
    → are_plain begins (begin_with b ss) ≡ true
begun_plain begins b [] is front h = rw (is, front) refl
begun_plain begins b (s ∷ ss) is front h =
    let both = and_parts (is_plain_segment false s) (list_all (λ t. is_plain_segment true t) ss) h in
    let inner = and_parts (begins_plainly false s) (list_all is_segment_byte s) both.0 in
    rw (is, front, inner.1) both.1

parts_plain : (begins : Bool) (path : List ℕ) → is_plain_path begins path ≡ true → are_plain begins (parts_of path) ≡ true
parts_plain begins [] h = refl
parts_plain begins (b ∷ path) h =
    let outer = and_parts (is_path_byte b && not (begins && begins_dots b)) (is_plain_path (b == 47) path) h in
    let byte = and_parts (is_path_byte b) (not (begins && begins_dots b)) outer.0 in
    elim (cases_Bool (b == 47)) [
      | inl slash ↦
          let rest : is_plain_path true path ≡ true = rw slash at outer.1 in
          rw slash (all_plain (parts_of path) (parts_plain true path rest))
      | inr other ↦
          let rest : is_plain_path false path ≡ true = rw other at outer.1 in
          rw other (begun_plain begins b (parts_of path) (rw (byte.0, other) refl) byte.1 (parts_plain false path rest))
    ]

kept_segment : (b : ℕ) → is_segment_byte b ≡ true → IsKept PATH b
kept_segment b h = keeps_path b (and_parts (is_path_byte b) (not (b == 47)) h).0

whole_segment : (b : ℕ) → is_segment_byte b ≡ true → is_slash SpecialNotFile b ≡ false
whole_segment b h = grind (arith, nat_tests)

no_dots : (segment : List ℕ) → begins_plainly true segment ≡ true → dot_count segment ≡ 0
unfolding dot_count
no_dots [] h = refl
no_dots (b ∷ segment) h =
    let dot_ : (b == 46) ≡ false = grind (arith, nat_tests) in
    let percent : (b == 37) ≡ false = grind (arith, nat_tests) in
    rw (dot_, percent) refl

segment_is : (segment : List ℕ) → is_plain_segment true segment ≡ true → IsSegment SpecialNotFile segment
segment_is segment h =
    let both = and_parts (begins_plainly true segment) (list_all is_segment_byte segment) h in
    record {
      escaped = All-passing is_segment_byte (IsKept PATH) kept_segment segment both.1;
      whole = All-passing is_segment_byte (λ b. is_slash SpecialNotFile b ≡ false) whole_segment segment both.1;
      resolved = no_dots segment both.0;
    }

segments_are : (ss : List (List ℕ)) → list_all (λ s. is_plain_segment true s) ss ≡ true → All (IsSegment SpecialNotFile) ss
segments_are [] h = All-nil (IsSegment SpecialNotFile)
segments_are (s ∷ ss) h =
    let both = and_parts (is_plain_segment true s) (list_all (λ t. is_plain_segment true t) ss) h in
    All-cons (IsSegment SpecialNotFile) s ss (segment_is s both.0) (segments_are ss both.1)

path_is : (path : List ℕ) → is_plain_path true path ≡ true → IsSegmentList SpecialNotFile (47 ∷ path)
path_is path h = record {
  segments = parts_of path;
  joined = joined path;
  each = segments_are (parts_of path) (all_plain (parts_of path) (parts_plain true path h));
}

-- URLs

abbrev QueryPasses : Option (List ℕ) → Type 0
QueryPasses None = Unit {0}
QueryPasses (Some query) = list_all is_query_byte query ≡ true

head_is : (host path : List ℕ) (query : Option (List ℕ)) → 1 ≤ length host → list_all is_host_byte host ≡ true → IsValidHead (plain_url host path query)
unfolding default_port scheme_type scheme_len
head_is host path query some h = record {
  scheme = record { nonempty = omega arith; whole = refl; lower = refl };
  username = All-nil (IsKept USERINFO);
  password = All-nil (IsKept USERINFO);
  host = (domain_is host h, omega arith);
  port = tt;
  bare = λ e. (refl, refl, refl);
}

kind_is : (host path : List ℕ) (query : Option (List ℕ)) → kind_of (plain_url host path query) ≡ SpecialNotFile
unfolding default_port scheme_type
kind_is host path query = refl

query_is : (query : Option (List ℕ)) → QueryPasses query → IfSome query (All (IsKept SPECIAL_QUERY))
query_is None h = tt
query_is (Some query) h = All-passing is_query_byte (IsKept SPECIAL_QUERY) keeps_query query h

url_is : (host path : List ℕ) (query : Option (List ℕ)) → 1 ≤ length host → list_all is_host_byte host ≡ true → is_plain_path true path ≡ true →
    QueryPasses query
    → IsValid (plain_url host path query)
unfolding default_port scheme_type
url_is host path query some h k q = record {
  head = head_is host path query some h;
  path = inl (path_is path k, λ e. omega arith);
  query = query_is query q;
  fragment = tt;
}

-- a path, and a query behind a question mark
abbrev with_query : List ℕ → Option (List ℕ) → List ℕ
with_query path None = path
with_query path (Some query) = path ++ 63 ∷ query

text_is : (host path : List ℕ) (query : Option (List ℕ)) → serialize (plain_url host path query) ≡ codes "http://" ++ (host ++ 47 ∷ with_query path query)
text_is host path None = ap (λ (l : List ℕ). codes "http://" ++ (host ++ 47 ∷ l)) (append-nil path)
text_is host path (Some query) = ap (λ (l : List ℕ). codes "http://" ++ (host ++ 47 ∷ (path ++ 63 ∷ l))) (append-nil query)

-- what stands behind the host, by its path and its query
record IsPathAndQuery (text : List ℕ) : Type 0 where
  path : List ℕ
  query : Option (List ℕ)
  whole : with_query path query ≡ text
  path_passes : is_plain_path true path ≡ true
  query_passes : QueryPasses query

path_and_query : (text : List ℕ) → is_plain_path_and_query text (cut 63 text) ≡ true → IsPathAndQuery text
path_and_query text h =
    elim (none_or_some (cut 63 text)) [
      | inl none ↦ record { path = text; query = None; whole = refl; path_passes = rw none at h; query_passes = tt }
      | inr parts ↦
          let tests : is_plain_path_and_query text (Some parts.0) ≡ true = rw parts.1 at h in
          let both = and_parts (is_plain_path true parts.0.0) (list_all is_query_byte parts.0.1) tests in
          record {
            path = parts.0.0;
            query = Some parts.0.1;
            whole = append-cut 63 text parts.0 parts.1;
            path_passes = both.0;
            query_passes = both.1;
          }
    ]

-- a text by its host, and what stands behind it
record IsPlain (text : List ℕ) : Type 0 where
  host : List ℕ
  rest : List ℕ
  whole : codes "http://" ++ (host ++ 47 ∷ rest) ≡ text
  some : 1 ≤ length host
  host_passes : list_all is_host_byte host ≡ true
  behind_host : IsPathAndQuery rest

plain_parts : (text : List ℕ) → is_plain_target text ≡ true → IsPlain text
unfolding is_plain_target
plain_parts text h =
    elim (none_or_some (behind (codes "http://") text)) [
      | inl none ↦ cc (rw none at h)
      | inr web ↦
          let rest : is_plain_rest (cut 47 web.0) ≡ true = rw web.1 at h in
          elim (none_or_some (cut 47 web.0)) [
            | inl none ↦ cc (rw none at rest)
            | inr parts ↦
                let tests : is_plain_rest (Some parts.0) ≡ true = rw parts.1 at rest in
                let outer = and_parts _ _ tests in
                let inner = and_parts (nat_le 1 (length parts.0.0)) (list_all is_host_byte parts.0.0) outer.0 in
                record {
                  host = parts.0.0;
                  rest = parts.0.1;
                  whole = ap (λ (l : List ℕ). codes "http://" ++ l) (append-cut 47 web.0 parts.0 parts.1) ∙ append-behind (codes "http://") text web.0 web.1;
                  some = leb-true 1 (length parts.0.0) inner.0;
                  host_passes = inner.1;
                  behind_host = path_and_query parts.0.1 outer.1;
                }
          ]
    ]

-- any byte of a plain text
abbrev is_plain_byte : ℕ → Bool
is_plain_byte b = is_path_byte b || b == 63

host_plain : (b : ℕ) → is_host_byte b ≡ true → is_plain_byte b ≡ true
host_plain b h = grind (arith, nat_tests)

path_plain : (b : ℕ) → is_path_byte b ≡ true → is_plain_byte b ≡ true
path_plain b h = rw h refl

query_plain : (b : ℕ) → is_query_byte b ≡ true → is_plain_byte b ≡ true
query_plain b h = (and_parts (is_plain_byte b) (not (b == 39)) h).0

no_space : (b : ℕ) → is_plain_byte b ≡ true → not (b == 32) ≡ true
no_space b h = grind (arith, nat_tests)

no_line_feed : (b : ℕ) → is_plain_byte b ≡ true → not (b == 10) ≡ true
no_line_feed b h = grind (arith, nat_tests)

all_pass : (p q : ℕ → Bool) → ((b : ℕ) → p b ≡ true → q b ≡ true) → (text : List ℕ) → list_all p text ≡ true → list_all q text ≡ true
all_pass p q more [] h = refl
all_pass p q more (b ∷ text) h =
    let both = and_parts (p b) (list_all p text) h in
    and_from (q b) (list_all q text) (more b both.0) (all_pass p q more text both.1)

append_pass : (p : ℕ → Bool) (xs ys : List ℕ) → list_all p xs ≡ true → list_all p ys ≡ true → list_all p (xs ++ ys) ≡ true
append_pass p xs ys hx hy = list_all-append p xs ys ∙ and_from (list_all p xs) (list_all p ys) hx hy

path_bytes : (begins : Bool) (path : List ℕ) → is_plain_path begins path ≡ true → list_all is_plain_byte path ≡ true
path_bytes begins [] h = refl
path_bytes begins (b ∷ path) h =
    let outer = and_parts (is_path_byte b && not (begins && begins_dots b)) (is_plain_path (b == 47) path) h in
    let byte = and_parts (is_path_byte b) (not (begins && begins_dots b)) outer.0 in
    and_from (is_plain_byte b) (list_all is_plain_byte path) (path_plain b byte.0) (path_bytes (b == 47) path outer.1)

rest_bytes : (path : List ℕ) (query : Option (List ℕ)) → is_plain_path true path ≡ true → QueryPasses query →
    list_all is_plain_byte (with_query path query) ≡ true
rest_bytes path None h q = path_bytes true path h
rest_bytes path (Some query) h q =
    append_pass is_plain_byte path (63 ∷ query) (path_bytes true path h) (all_pass is_query_byte is_plain_byte query_plain query q)

plain_bytes : (text : List ℕ) → IsPlain text → list_all is_plain_byte text ≡ true
plain_bytes text p =
    let q = p.behind_host in
    let rest : list_all is_plain_byte p.rest ≡ true =
    subst (λ (t : List ℕ). list_all is_plain_byte t ≡ true) q.whole (rest_bytes q.path q.query q.path_passes q.query_passes) in
    let host : list_all is_plain_byte p.host ≡ true = all_pass is_host_byte is_plain_byte host_plain p.host p.host_passes in
    subst (λ (t : List ℕ). list_all is_plain_byte t ≡ true) p.whole
    (append_pass is_plain_byte (codes "http://") (p.host ++ 47 ∷ p.rest) refl (append_pass is_plain_byte p.host (47 ∷ p.rest) host rest))

-- a plain text has neither spaces nor line feeds
pub plain_word : (text : List ℕ) → length text ≤ 8192 → is_plain_target text ≡ true → is_short_word text ≡ true
unfolding is_short_word
plain_word text short plain =
    let p = plain_parts text plain in
    let bytes = plain_bytes text p in
    let some : nat_le 1 (length text) ≡ true = le-leb 1 (length text) (omega (arith, ap length p.whole)) in
    let few : nat_le (length text) 8192 ≡ true = le-leb (length text) 8192 short in
    rw (some, few, all_pass is_plain_byte _ no_space text bytes, all_pass is_plain_byte _ no_line_feed text bytes) refl

-- a plain text is a target, and its URL is valid
pub plain_target : (text : List ℕ) → is_short_word text ≡ true → is_plain_target text ≡ true → (is_target text ≡ true) × ReadsTarget text
plain_target text word plain =
    let p = plain_parts text plain in
    let q = p.behind_host in
    let url = plain_url p.host q.path q.query in
    let valid = url_is p.host q.path q.query p.some p.host_passes q.path_passes q.query_passes in
    let same : serialize url ≡ text = text_is p.host q.path q.query ∙ ap (λ (l : List ℕ). codes "http://" ++ (p.host ++ 47 ∷ l)) q.whole ∙ p.whole in
    let read : parse_url None text ≡ Ok url =
    subst (λ (t : List ℕ). parse_url None t ≡ Ok url) same (parse_url-serialize_special url None valid (kind_is p.host q.path q.query)) in
    let utf8 : IsUtf8 text = IsUtf8-from_ascii text (subst IsAscii same (IsAscii-serialize url valid)) in
    let own : has_own_text url text ≡ true = rw ((bytes_eq-Decides (serialize url) text).1 same) refl in (
      sym (is_target-own text text url true word refl utf8 read (sym own)),
      (url, read, valid, own),
    )
