-- What heads tell is below 2^62: positions and lengths. So what is promised ends by 2^62.
--
-- A number is read only if it is below 2^62; so positions and totals of a part that a text spells are (`spelled_early`,
-- `range_early`), and a Content-Length (`reported_early`). A length is told by one of these or by none, and ends early in
-- each case (`length_early`). So does what an exchange promises (`promise_early`). What founds tells its total by a
-- whole body or by a part (`founded_early`).
use Rattle.std.{proofs.{lemmas.Bool.Decides.{nat_tests}, Common.{◌≡◌, ◌≤◌, ◌<◌, inl, inr, ℕ, ◌+◌, ◌-◌, ◌^◌, List, [], ◌∷◌, codes, Bool, false, Option, Some, None, refl, arith}}, specs.Prelude.{if◌then◌else◌, option_and_then}}
use Rattle.hc_text.proofs.Basics.{bool_cases, not_some as none_some, some_inj}
use Rattle.hc_fields.specs.{FieldList.{values_of}, FirstValues.{only_of, elements_in}}
use Rattle.hc_range.specs.declared.range.ContentRange.{ContentRange}
use Rattle.hc_effects.proofs.Vocabulary.{brings_part, range, Request, Response, Need, Length, Route, length_of, content_length_of, part_length, all_spell, agrees, has_no_body, gives_part, base_of, promise_of, route_of, number_of, content_range_of, content_range_in, base, promised_bytes, length_by, total_of_part, founded_total, Exchange}
use Rattle.hc_rules.specs.declared.length.Length.TheVariants as says
use Rattle.hc_rules.specs.Lengths.{promised_or_bad}
use Rattle.hc_rules.proofs.{Numbers.{IsNumber-reported}, RangeReads.{content_range_in-some}}

-- what a head says of the length ends by 2^62
abbrev pub EndsEarly : Length → Type 0
EndsEarly (says.Promised n) = n < 2 ^ 62
EndsEarly (says.Part first n) = first + n ≤ 2 ^ 62
EndsEarly _ = Unit {0}

if_early : (b : Bool) (l m : Length) → EndsEarly l → EndsEarly m → EndsEarly (if b then l else m)
if_early b l m a b1 = grind (arith, nat_tests)

number_early : (text : List ℕ) (o : Option ℕ) → number_of text ≡ o → EndsEarly (promised_or_bad o)
number_early text None is = tt
number_early text (Some n) is = let small = (IsNumber-reported text n is).0 in omega arith

reported_early : (elements : List (List ℕ)) → EndsEarly (content_length_of elements)
reported_early [] = tt
reported_early (element ∷ elements) =
    if_early (all_spell (number_of element) (element ∷ elements)) (promised_or_bad (number_of element)) says.Bad
    (number_early element (number_of element) refl) tt

-- a part that a text spells
abbrev IsEarlyPart : ContentRange → Type 0
IsEarlyPart (range.Part first last total) = (first ≤ last) × (last < 2 ^ 62) × ((n : ℕ) → total ≡ Some n → n < 2 ^ 62)
IsEarlyPart (range.Unsatisfied total) = Unit {0}

spelled_early : (text : List ℕ) (part : ContentRange) → content_range_in text ≡ Some part → IsEarlyPart part
spelled_early text (range.Unsatisfied total) is = tt
spelled_early text (range.Part first last None) is =
    let (unit, response, unit_is, (positions, length, (a, b, first_is, last_is, order, text_is), all, joined), whole) =
    content_range_in-some text (range.Part first last None) is in
    (order, last_is.0, λ n no. absurd (none_some n no))
spelled_early text (range.Part first last (Some total)) is =
    let (unit, response, unit_is, (positions, length, (a, b, first_is, last_is, order, text_is), all, joined), whole) =
    content_range_in-some text (range.Part first last (Some total)) is in
    (order, last_is.0, λ n same. let one : total ≡ n = some_inj total n same in let small = all.0.0 in omega arith)

value_early : (o : Option (List ℕ)) (part : ContentRange) → option_and_then content_range_in o ≡ Some part → IsEarlyPart part
value_early None part is = absurd (none_some part is)
value_early (Some text) part is = spelled_early text part is

pub range_early : (response : Response) (part : ContentRange) → content_range_of response.fields ≡ Some part → IsEarlyPart part
range_early response part is = value_early (only_of (values_of (codes "content-range") response.fields)) part is

part_early : (said : Length) (o : Option ContentRange) → ((part : ContentRange) → o ≡ Some part → IsEarlyPart part) → EndsEarly (part_length said o)
part_early said None early = tt
part_early said (Some (range.Unsatisfied total)) early = tt
part_early said (Some (range.Part first last total)) early =
    let part = early (range.Part first last total) refl in
    let order = part.0 in
    let small = part.1 in
    if_early (agrees said (last + 1 - first)) (says.Part first (last + 1 - first)) says.Bad (omega arith) tt

pub length_early : (need : Need) (request : Request) (response : Response) → EndsEarly (length_of need request response)
unfolding length_of
length_early need request response =
    let es = elements_in (codes "content-length") response.fields in
    if_early (has_no_body request response.status) (says.Promised 0) _ (omega arith)
    (if_early (gives_part (route_of need) response.status) (part_length (content_length_of es) (content_range_of response.fields)) (content_length_of es)
    (part_early (content_length_of es) (content_range_of response.fields) (range_early response))
    (reported_early es))

by_early : (l : Length) (n : ℕ) → EndsEarly l → promise_of l ≡ Some n → base_of l + n ≤ 2 ^ 62
by_early l n early is = grind (arith, nat_tests)

-- where what an exchange promised ends
pub promise_early : (w : Exchange) (n : ℕ) → promised_bytes w ≡ Some n → base w + n ≤ 2 ^ 62
promise_early w n is = by_early (length_by w w.head) n (by_head w.head) is
  where
    by_head : (o : Option Response) → EndsEarly (length_by w o)
    by_head None = tt
    by_head (Some response) = length_early w.need w.request response

part_total : (o : Option ContentRange) (n : ℕ) → ((part : ContentRange) → o ≡ Some part → IsEarlyPart part) → total_of_part o ≡ Some n → n < 2 ^ 62
part_total None n early is = absurd (none_some n is)
part_total (Some (range.Unsatisfied total)) n early is = absurd (none_some n is)
part_total (Some (range.Part first last total)) n early is = (early (range.Part first last total) refl).2 n is

-- ALL OF AN ANSWER

-- no part tells it
abbrev ReportsNoPart : Length → Type 0
ReportsNoPart (says.Part first n) = ⊥
ReportsNoPart _ = Unit {0}

no_part_if : (b : Bool) (l m : Length) → ReportsNoPart l → ReportsNoPart m → ReportsNoPart (if b then l else m)
no_part_if b l m a b1 = grind (arith, nat_tests)

reported_no_part : (elements : List (List ℕ)) → ReportsNoPart (content_length_of elements)
reported_no_part elements = grind (arith, nat_tests)

reports_off : (r : Route) (status : ℕ) → brings_part status ≡ false → gives_part r status ≡ false
reports_off r status whole = grind (arith, nat_tests)

whole_no_part : (need : Need) (request : Request) (response : Response) → brings_part response.status ≡ false → ReportsNoPart (length_of need request response)
unfolding length_of
whole_no_part need request response whole =
    no_part_if (has_no_body request response.status) (says.Promised 0) _ tt
    (rw (reports_off (route_of need) response.status whole) (reported_no_part (elements_in (codes "content-length") response.fields)))

by_whole : (l : Length) (n : ℕ) → EndsEarly l → ReportsNoPart l → promise_of l ≡ Some n → n < 2 ^ 62
by_whole l n early whole is = grind (arith, nat_tests)

-- the length of what a head founds
pub founded_early : (w : Exchange) (response : Response) (n : ℕ) → founded_total w response ≡ Some n → n < 2 ^ 62
founded_early w response n is = elim (bool_cases (brings_part response.status)) [
  | inl part ↦ part_total (content_range_of response.fields) n (range_early response) (rw part at is)
  | inr whole ↦
      let promise : promise_of (length_of w.need w.request response) ≡ Some n = rw whole at is in
      by_whole (length_of w.need w.request response) n (length_early w.need w.request response) (whole_no_part w.need w.request response whole) promise
]
