-- Where the body of an answer begins, and how long it is (RFC 9110 sections 8.6 and 14.4, RFC 9112 section 6.3).
use Rattle.std.specs.Prelude.{ℕ, ◌+◌, ◌-◌, ◌<◌, ◌≤◌, ◌^◌, List, [], ◌∷◌, codes, bytes_eq, Bool, true, false, ◌==◌, ◌||◌, if◌then◌else◌, Option, Some, None}
use Rattle.std.specs.List.{list_all}
use Rattle.hc_fields.specs.FirstValues.{elements_in}
use Rattle.hc_range.specs.declared.range.ContentRange.{ContentRange}
use Rattle.hc_range.specs.declared.range.ContentRange.TheVariants as range
use Rattle.hc_event.specs.declared.event.Request.{Request}
use Rattle.hc_event.specs.declared.event.Response.{Response}
use Rattle.hc_event.specs.declared.act.Need.{Need}
use Rattle.hc_rules.specs.declared.need.Route.{Route}
use Rattle.hc_rules.specs.declared.need.Route.TheVariants as route
use Rattle.hc_rules.specs.declared.length.Length.{Length}
use Rattle.hc_rules.specs.declared.length.Length.TheVariants.{Unknown, Promised, Part, Bad}
use Rattle.hc_rules.specs.Needs.{route_of}
use Rattle.hc_rules.specs.RangeTexts.{number_of, content_range_of}
use Rattle.hc_rules.specs.Statuses.{brings_part}

abbrev pub is_same_number : Option ℕ → Option ℕ → Bool
is_same_number (Some m) (Some n) = m == n
is_same_number _ _ = false

abbrev pub promised_or_bad : Option ℕ → Length
promised_or_bad None = Bad
promised_or_bad (Some n) = Promised n

-- all elements spell this number
abbrev pub all_spell : Option ℕ → List (List ℕ) → Bool
all_spell n elements = list_all (λ element. is_same_number n (number_of element)) elements

-- the elements are to spell one number
abbrev pub content_length_of : List (List ℕ) → Length
content_length_of [] = Unknown
content_length_of (element ∷ elements) = if all_spell (number_of element) (element ∷ elements) then promised_or_bad (number_of element) else Bad

abbrev pub is_head : Request → Bool
is_head request = bytes_eq request.method (codes "HEAD")

-- the answer to a HEAD, and the statuses 204 and 304, have no body
abbrev pub has_no_body : Request → ℕ → Bool
has_no_body request status = is_head request || status == 204 || status == 304

-- Content-Length says nothing else than that the part has so many bytes
abbrev pub agrees : Length → ℕ → Bool
agrees Unknown count = true
agrees (Promised n) count = n == count
agrees (Part base n) count = false
agrees Bad count = false

-- a part, of which Content-Length said this
abbrev pub part_length : Length → Option ContentRange → Length
part_length said None = Bad
part_length said (Some (range.Unsatisfied total)) = Bad
part_length said (Some (range.Part first last total)) =
    if agrees said (last + 1 - first) then Part first (last + 1 - first) else Bad

-- its first position isn't above its last
abbrev pub IsPartInOrder : ContentRange → Type 0
IsPartInOrder (range.Part first last total) = (first ≤ last) × (last < 2 ^ 62)
IsPartInOrder (range.Unsatisfied total) = Unit {0}

-- a part tells where it begins, where it isn't an answer that goes past the store
abbrev pub gives_part : Route → ℕ → Bool
gives_part route.Direct status = false
gives_part _ status = brings_part status

-- what the head says to an exchange that was opened for this need, with this request
unfoldable pub length_of : Need → Request → Response → Length
length_of need request response =
    if has_no_body request response.status then Promised 0
    else if gives_part (route_of need) response.status
    then part_length (content_length_of (elements_in (codes "content-length") response.fields)) (content_range_of response.fields)
    else content_length_of (elements_in (codes "content-length") response.fields)

-- the position at which the body begins
abbrev pub base_of : Length → ℕ
base_of (Part base n) = base
base_of _ = 0

-- how many bytes are promised, where that is told
abbrev pub promise_of : Length → Option ℕ
promise_of Unknown = None
promise_of (Promised n) = Some n
promise_of (Part base n) = Some n
promise_of Bad = None

abbrev pub is_bad : Length → Bool
is_bad Bad = true
is_bad _ = false
