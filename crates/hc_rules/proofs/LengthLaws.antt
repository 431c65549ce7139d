-- What is said of the length of a body is what its head says.
use Rattle.std.{proofs.{lemmas.{Bool.{and_parts, eqb-true, both_ways, Decides.{nat_tests}}, List.Elements.{All-nil, All-cons}}, Common.{arith, ◌≡◌, ◌≢◌, ◌⊎◌, ℕ, ◌+◌, ◌-◌, true, false, List, [], ◌∷◌, Option, Some, None, refl, sym, inl, inr}}, specs.{Prelude.{All}, List.{list_all}}}
use Rattle.hc_text.proofs.Basics.{either}
use Rattle.hc_range.specs.declared.range.ContentRange.{ContentRange}
use Rattle.hc_range.specs.declared.range.ContentRange.TheVariants as range
use Rattle.hc_event.specs.declared.{event.{Request.{Request}, Response.{Response}}, act.Need.{Need}}
use Rattle.hc_rules.specs.{declared.{need.Route.{Route}, length.Length.{Length, TheVariants.{Unknown, Promised, Part, Bad}}}, Needs.{route_of}, Lengths.{is_same_number, promised_or_bad, all_spell, content_length_of, has_no_body, agrees, part_length, gives_part, length_of}, RangeTexts.{number_of, content_range_of}, Statuses.{brings_part}, Laws.{declared_in, AllSay, IsRightLength, LengthsAreRight}}
use Rattle.hc_rules.specs.declared.need.Route.TheVariants as route

same : (n : ℕ) (o : Option ℕ) → is_same_number (Some n) o ≡ true → o ≡ Some n
same n o h = grind (arith, nat_tests)

all_say : (n : ℕ) (es : List (List ℕ)) → list_all (λ e. is_same_number (Some n) (number_of e)) es ≡ true → All (λ e. number_of e ≡ Some n) es
all_say n [] h = All-nil (λ e. number_of e ≡ Some n)
all_say n (e ∷ es) h =
    let both = and_parts _ _ h in
    All-cons (λ d. number_of d ≡ Some n) e es (same n (number_of e) both.0) (all_say n es both.1)

some : (e : List ℕ) (es : List (List ℕ)) → e ∷ es ≢ []
some e es is = absurd (cc)

-- what Content-Length tells, by its elements
abbrev Reported : List (List ℕ) → Length → Type 0
Reported es Unknown = es ≡ []
Reported es (Promised n) = AllSay n es
Reported es (Part base n) = ⊥
Reported es Bad = es ≢ []

by_number : (e : List ℕ) (es : List (List ℕ)) (o : Option ℕ) → all_spell o (e ∷ es) ≡ true → Reported (e ∷ es) (promised_or_bad o)
by_number e es None h = some e es
by_number e es (Some n) h = (some e es, all_say n (e ∷ es) h)

reported_right : (es : List (List ℕ)) → Reported es (content_length_of es)
reported_right [] = refl
reported_right (e ∷ es) =
    either (Reported (e ∷ es)) (all_spell (number_of e) (e ∷ es)) _ _ (by_number e es (number_of e)) (λ _. some e es)

module _ (need : Need) (request : Request) (response : Response) (body : has_no_body request response.status ≡ false) where
  whole : (said : Length) → Reported (declared_in response) said → IsRightLength need request response said
  whole said t = grind (arith, nat_tests)

  agreed : (said : Length) (n : ℕ) → Reported (declared_in response) said → agrees said n ≡ true → (declared_in response ≡ []) ⊎ AllSay n (declared_in response)
  agreed Unknown n t h = inl t
  agreed (Promised m) n t h = inr (rw (sym (eqb-true m n h)) t)
  agreed (Part base m) n t h = absurd t
  agreed Bad n t h = absurd (both_ways _ refl h)

  turned : (r : Route) (status : ℕ) → gives_part r status ≡ true → (brings_part status ≡ true) × (r ≢ route.Direct)
  turned route.Direct status h = absurd (both_ways _ refl h)
  turned _ status h = (h, λ is. absurd (cc))

  part : (said : Length) (reported_range : Option ContentRange) → content_range_of response.fields ≡ reported_range →
      Reported (declared_in response) said → gives_part (route_of need) response.status ≡ true →
      IsRightLength need request response (part_length said reported_range)
  part said (Some (range.Part first last total)) is t reports =
      let turn = turned (route_of need) response.status reports in
      either (IsRightLength need request response) (agrees said (last + 1 - first)) _ _
      (λ h. (
        turn.0,
        turn.1,
        record {
          last = last;
          total = total;
          range = is;
          count_is = refl;
          agrees = agreed said (last + 1 - first) t h;
        },
      ))
      (λ _. (body, inr reports))
  part said _ is t reports = (body, inr reports)

pub lengths-right : LengthsAreRight
unfolding length_of
lengths-right need request response =
    let t = reported_right (declared_in response) in
    either (IsRightLength need request response) (has_no_body request response.status) _ _ (λ none. inl (none, refl))
    (λ body. either (IsRightLength need request response) (gives_part (route_of need) response.status) _ _
    (part need request response body _ _ refl t)
    (λ _. whole need request response body _ t))
