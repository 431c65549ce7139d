-- What a part tells: its last position is before the length of the whole, and it promises no more.
--
-- By how Content-Range is read: its positions are a range in order (`in_order`), and the last one is below the total
-- (`with_order`). So a part that a head tells is in order (`part_order`). Where its length isn't bad the head promises
-- as many bytes as the part has, or it has no body (`part_reported`); so it ends by the total (`part_within`). A whole
-- answer begins at the first position (`whole_base`).
use Rattle.std.{proofs.{Common.{◌≡◌, inl, inr, ℕ, ◌+◌, ◌-◌, ◌<◌, ◌≤◌, List, [], ◌∷◌, Bool, true, false, cond, Option, Some, None, refl, arith}, lemmas.Bool.Decides.{nat_tests}}, specs.{Prelude.{nat_lt, codes, bytes_eq, if◌then◌else◌, option_map, take, drop}, Option.{option_and_then}, Str.{str_to_ascii_lowercase}}}
use Rattle.hc_text.proofs.Basics.{bool_cases, not_some as none_some, some_inj}
use Rattle.hc_fields.specs.{FieldList.{values_of}, FirstValues.{only_of, elements_in}}
use Rattle.hc_range.specs.declared.range.RangeSpec.{RangeSpec, TheVariants.{FromTo, From, Last}}
use Rattle.hc_effects.proofs.Vocabulary.{brings_part, range, route, Request, Response, Need, Length, Route, length_of, base_of, promise_of, is_bad, part_length, agrees, content_length_of, has_no_body, gives_part, route_of, content_range_of, content_range_in, spec_in, positions_from, positions_by, from_to, number_of, split_at, hyphen}
use Rattle.hc_rules.specs.declared.length.Length.TheVariants as reported
use Rattle.hc_rules.specs.RangeTexts.{response_in, response_from, content_range_from, with_total, without_part, slash}

-- POSITIONS IN ORDER

-- its first position isn't above its last, and that is before the end
pub record IsInOrder (first last total : ℕ) : Type 0 where
  pub is_sorted : first ≤ last
  pub within : last < total

part_inj : (a b first last total : ℕ) (o : Option ℕ) → range.Part a b o ≡ range.Part first last (Some total) → (a ≡ first) × (b ≡ last) × (o ≡ Some total)
part_inj a b first last total o is = (cc, cc, cc)

-- a range from one position to another is in order
in_order : (a b : Option ℕ) (first last : ℕ) → from_to a b ≡ Some (FromTo first last) → first ≤ last
in_order a b first last is = grind (arith, nat_tests)

by_map : (o : Option ℕ) (f : ℕ → RangeSpec) (a : RangeSpec) → ((n : ℕ) → f n ≡ a → ⊥) → option_map f o ≡ Some a → ⊥
by_map None f a other is = none_some _ is
by_map (Some n) f a other is = other n (some_inj _ _ is)

positions_order : (a b : List ℕ) (first last : ℕ) → positions_by a b ≡ Some (FromTo first last) → first ≤ last
positions_order [] b first last is = absurd (by_map (number_of b) Last (FromTo first last) (λ n same. cc) is)
positions_order (d ∷ a) [] first last is = absurd (by_map (number_of (d ∷ a)) From (FromTo first last) (λ n same. cc) is)
positions_order (d ∷ a) (f ∷ b) first last is = in_order (number_of (d ∷ a)) (number_of (f ∷ b)) first last is

from_order : (o : Option (List ℕ × List ℕ)) (first last : ℕ) → positions_from o ≡ Some (FromTo first last) → first ≤ last
from_order None first last is = absurd (none_some _ is)
from_order (Some (a, b)) first last is = positions_order a b first last is

with_order : (a b : ℕ) (o : Option ℕ) (text : List ℕ) (first last total : ℕ) → with_total a b o text ≡ Some (range.Part first last (Some total)) →
    (a ≡ first) × (b ≡ last) × (last < total)
with_order a b (Some n) text first last total is = elim (bool_cases (nat_lt b n)) [
  | inr off ↦ absurd (none_some _ (rw off at is))
  | inl on ↦
      let same = part_inj a b first last total (Some n) (some_inj _ _ (rw on at is)) in
      let lt : b < n = grind (arith, nat_tests) in
      let p : b ≡ last = same.1 in
      let q : n ≡ total = some_inj n total same.2 in
      (same.0, same.1, omega arith)
]
with_order a b None text first last total is = elim (bool_cases (bytes_eq text (codes "*"))) [
  | inr off ↦ absurd (none_some _ (rw off at is))
  | inl on ↦ absurd (none_some total (part_inj a b first last total None (some_inj _ _ (rw on at is))).2)
]

without_not : (positions text : List ℕ) (first last total : ℕ) → without_part positions text ≡ Some (range.Part first last (Some total)) → ⊥
without_not positions text first last total is = grind (arith, nat_tests)

reported_order : (positions text : List ℕ) (o : Option RangeSpec) (first last total : ℕ) → spec_in positions ≡ o →
    content_range_from positions text o ≡ Some (range.Part first last (Some total)) → IsInOrder first last total
reported_order positions text None first last total at is = absurd (without_not positions text first last total is)
reported_order positions text (Some (From a)) first last total at is = absurd (none_some _ is)
reported_order positions text (Some (Last n)) first last total at is = absurd (none_some _ is)
reported_order positions text (Some (FromTo a b)) first last total at is =
    let all = with_order a b (number_of text) text first last total is in
    let le : a ≤ b = from_order (split_at hyphen positions) a b at in
    let p : a ≡ first = all.0 in
    let q : b ≡ last = all.1 in
    record { is_sorted = omega arith; within = all.2 }

response_order : (o : Option (List ℕ × List ℕ)) (first last total : ℕ) → response_from o ≡ Some (range.Part first last (Some total)) →
    IsInOrder first last total
response_order None first last total is = absurd (none_some _ is)
response_order (Some (positions, text)) first last total is = reported_order positions text (spec_in positions) first last total refl is

content_order : (text : List ℕ) (first last total : ℕ) → content_range_in text ≡ Some (range.Part first last (Some total)) → IsInOrder first last total
unfolding content_range_in
content_order text first last total is = by_test (bytes_eq (str_to_ascii_lowercase (take 6 text)) (codes "bytes ")) is
  where
    by_test : (b : Bool) → (if b then response_in (drop 6 text) else None) ≡ Some (range.Part first last (Some total)) → IsInOrder first last total
    by_test true h = response_order (split_at slash (drop 6 text)) first last total h
    by_test false h = absurd (none_some _ h)

-- the part that a head tells is in order
pub part_order : (fields : List (List ℕ × List ℕ)) (first last total : ℕ) → content_range_of fields ≡ Some (range.Part first last (Some total)) →
    IsInOrder first last total
part_order fields first last total is = by_value (only_of (values_of (codes "content-range") fields)) is
  where
    by_value : (o : Option (List ℕ)) → option_and_then content_range_in o ≡ Some (range.Part first last (Some total)) → IsInOrder first last total
    by_value None h = absurd (none_some _ h)
    by_value (Some text) h = content_order text first last total h

-- ITS LENGTH

-- so many bytes are promised, and they end by the total
pub record IsWithin (total : ℕ) (l : Length) : Type 0 where
  pub n : ℕ
  pub promise : promise_of l ≡ Some n
  pub ends : base_of l + n ≤ total

within_if : (total : ℕ) (b : Bool) (x y : Length) → (is_bad x ≡ false → IsWithin total x) → (is_bad y ≡ false → IsWithin total y) →
    is_bad (cond b x y) ≡ false → IsWithin total (cond b x y)
within_if total b x y p q = grind (arith, nat_tests)

within_part : (first last total : ℕ) (said : Length) → IsInOrder first last total →
    is_bad (part_length said (Some (range.Part first last (Some total)))) ≡ false → IsWithin
    total (part_length said (Some (range.Part first last (Some total))))
within_part first last total said i =
    within_if total (agrees said (last + 1 - first)) (reported.Part first (last + 1 - first)) reported.Bad
    (λ good. let a : first ≤ last = i.is_sorted in let b : last < total = i.within in record { n = last + 1 - first; promise = refl; ends = omega arith })
    (λ bad. absurd (let never : true ≡ false = bad in cc))

by_way : (way : Route) (status : ℕ) → (way ≡ route.Direct → ⊥) → brings_part status ≡ true → gives_part way status ≡ true
by_way route.Direct status past is = absurd (past refl)
by_way _ status past is = is

-- a part that isn't bad promises bytes within the whole
pub part_within : (n : Need) (request : Request) (response : Response) (first last total : ℕ) → (route_of n ≡ route.Direct → ⊥) →
    brings_part response.status ≡ true → content_range_of response.fields ≡ Some (range.Part first last (Some total)) →
    is_bad (length_of n request response) ≡ false → IsWithin total (length_of n request response)
unfolding length_of
part_within n request response first last total past status part =
    let said = content_length_of (elements_in (codes "content-length") response.fields) in
    within_if total (has_no_body request response.status) (reported.Promised 0) _
    (λ good. record { n = 0; promise = refl; ends = omega arith })
    (rw (by_way (route_of n) response.status past status, part) (within_part first last total said (part_order response.fields first last total part)))

-- WITHOUT A PART

plain_reported : (elements : List (List ℕ)) → base_of (content_length_of elements) ≡ 0
plain_reported elements = grind (arith, nat_tests)

base_if : (b : Bool) (x y : Length) → base_of x ≡ 0 → base_of y ≡ 0 → base_of (cond b x y) ≡ 0
base_if b x y p q = grind (arith, nat_tests)

off_way : (way : Route) (status : ℕ) → brings_part status ≡ false → gives_part way status ≡ false
off_way way status off = grind (arith, nat_tests)

-- a whole answer begins at the first position
pub whole_base : (n : Need) (request : Request) (response : Response) → brings_part response.status ≡ false → base_of (length_of n request response) ≡ 0
unfolding length_of
whole_base n request response off =
    base_if (has_no_body request response.status) (reported.Promised 0) _ refl
    (rw (off_way (route_of n) response.status off) (plain_reported (elements_in (codes "content-length") response.fields)))

-- A PART AS IT IS TOLD

-- it tells these positions, or has no body
pub data IsReceived (first last : ℕ) (l : Length) : Type 0 where
  none : l ≡ reported.Promised 0 → IsReceived first last l
  part : l ≡ reported.Part first (last + 1 - first) → IsReceived first last l

reported_if : (first last : ℕ) (b : Bool) (x y : Length) → (is_bad x ≡ false → IsReceived first last x) → (is_bad y ≡ false → IsReceived first last y) →
    is_bad (cond b x y) ≡ false → IsReceived first last (cond b x y)
reported_if first last b x y p q = grind (arith, nat_tests)

pub part_reported : (n : Need) (request : Request) (response : Response) (first last total : ℕ) → (route_of n ≡ route.Direct → ⊥) →
    brings_part response.status ≡ true → content_range_of response.fields ≡ Some (range.Part first last (Some total)) →
    is_bad (length_of n request response) ≡ false → IsReceived first last (length_of n request response)
unfolding length_of
part_reported n request response first last total past status is_part =
    let said = content_length_of (elements_in (codes "content-length") response.fields) in
    reported_if first last (has_no_body request response.status) (reported.Promised 0) _ (λ good. none refl)
    (rw (by_way (route_of n) response.status past status, is_part)
    (reported_if first last (agrees said (last + 1 - first)) (reported.Part first (last + 1 - first)) reported.Bad (λ good. part refl)
    (λ bad. absurd (let never : true ≡ false = bad in cc))))
