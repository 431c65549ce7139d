-- What heads that found do, in one: who reads what, and what goes; and where it is lost.
--
-- Three cases found (`Founds`): with all of a body, with a part, and in place of another. The effects of each are put
-- into one form, for what is founded and for what is lost at once (`founds_does`, `lost_does`), with what goes
-- (`replaces`). Then what is told of it: whether it is a part (`status_is`), what its consumer wants of that
-- (`part_wanted`), and that this one was shown no head yet (`founder_unshown`).
use Rattle.std.{proofs.{lemmas.Bool.Decides.{nat_tests}, Common.{◌<◌, ◌≡◌, ◌≢◌, ℕ, ◌+◌, ◌-◌, ◌≤◌, List, [], ◌∷◌, ◌++◌, Bool, true, false, Option, Some, None, refl, ap, sym, ◌∙◌, subst, arith}}, specs.Prelude.{nat_eq, ◌||◌, bytes_eq, codes, is_some, map, if◌then◌else◌}}
use Rattle.hc_text.proofs.Basics.{and_left, and_right, not_some as none_some}
use Rattle.hc_range.specs.{declared.range.{RangeSpec.{RangeSpec}, Span.{Span}, ContentRange.{ContentRange}}, Spans.{resolved_span}}
use Rattle.hc_effects.proofs.Vocabulary.{brings_part, range, act, event, case, route, wanted, by, LostKind, Event, Request, Response, HeadCase, Limits, head_case, is_storable, fits_to_found, fits_part, begins_at, length_of, content_length_of, part_length, promise_of, agrees, is_head, route_of, content_range_of, is_get, range_of, wanted_of, strong_of, head_view, is_founding, fits_asker, was_shown, bound_by_total, current, is_number, denial, Does, with_event, let_all_go, let_some_go, with_consumer, with_answer, with_founding, just_founded, entry_without_acts, promise_in, NoFlaw, Loses, goes_by_case, founded_total, total_of_part, Lawful, IsAwaiting, Tables, Exchange, Consumer, with_item_first, evicted}
use Rattle.hc_rules.specs.declared.length.Length.TheVariants as says
use Rattle.hc_rules.proofs.{RangeReads.{same_bytes}, Statuses.{whole_is_no_part, part_succeeds, part_not_204}}
use Rattle.hc_fields.specs.FirstValues.{elements_in}
use Rattle.hc_event.specs.declared.place.Place.TheVariants as place
use Rattle.hc_model.specs.Owners as owners
use Rattle.hc_effects.proofs.{Basics.{false_true}, FoundBy.{CaseBy, case_by}, FoundCases.{whole_lost, range_lost, replaced_lost, range_storable}, FoundEffects.{adds_one, founds_whole, founds_range, first_replaced, passes_by_lost, first_replaced_lost}, HeadFacts.{waiter}, SameTables.{is_in, in_one}, ReportedNumbers.{range_early}}
use Rattle.hc_effects.proofs.FoundBy as cases

pub data Founds : HeadCase → Type 0 where
  whole : Founds case.FoundsWhole
  part : Founds case.FoundsRange
  replaced : Founds case.FirstReplaced

pub founds_of : (g : HeadCase) → is_founding (Some g) ≡ true → Founds g
founds_of case.FoundsWhole on = whole
founds_of case.FoundsRange on = part
founds_of case.FirstReplaced on = replaced
founds_of _ on = absurd (false_true on)

-- what had the hole goes, where that is replaced
abbrev pub replaces : Exchange → HeadCase → Option ℕ
replaces w case.FirstReplaced = w.aim
replaces w _ = None

-- it is a part
abbrev pub is_part : HeadCase → Bool
is_part case.FoundsRange = true
is_part _ = false

-- its consumer reads it
abbrev pub founder : ℕ → Response → Exchange → HeadCase → Consumer → Consumer
founder x response w case.FoundsRange k = record k { place = bound_by_total x by.Founding k.request (place.Direct x) (founded_total w response) }
founder x response w _ k = record k { place = place.Bound x 0 (promise_in w response) by.Founding; own = None }

-- WHAT IT TELLS

-- what a part that fits is part of is known, and so what is wanted of it
pub fits_wanted : (asked : Option RangeSpec) (response : Response) → fits_to_found asked response ≡ true → (span : Span) ×
    (wanted_of asked (total_of_part (content_range_of response.fields)) ≡ wanted.Interval span)
fits_wanted None response fits = absurd (false_true fits)
fits_wanted (Some asked) response fits =
    by_range (content_range_of response.fields) (and_right (is_some (strong_of response.fields)) (fits_part asked (content_range_of response.fields)) fits)
  where
    by_span : (o : Option Span) (first last : ℕ) → begins_at o first last ≡ true → (span : Span) ×
        (Rattle.hc_rules.specs.Requests.wanted_part o ≡ wanted.Interval span)
    by_span None first last on = absurd (false_true on)
    by_span (Some span) first last on = (span, refl)

    by_range : (o : Option ContentRange) → fits_part asked o ≡ true → (span : Span) × (wanted_of (Some asked) (total_of_part o) ≡ wanted.Interval span)
    by_range None on = absurd (false_true on)
    by_range (Some (range.Unsatisfied total)) on = absurd (false_true on)
    by_range (Some (range.Part first last None)) on = absurd (false_true on)
    by_range (Some (range.Part first last (Some total))) on = by_span (resolved_span asked total) first last on

-- a part of what is asked for by GET has a byte
get_no_head : (request : Request) → is_get request ≡ true → is_head request ≡ false
get_no_head request get = ap (λ (name : List ℕ). bytes_eq name (codes "HEAD")) (same_bytes request.method (codes "GET") get)

pub storable_get : (request : Request) (response : Response) → is_storable request response ≡ true → is_get request ≡ true
unfolding is_storable
storable_get request response on = and_left (is_get request) _ (and_left _ _ (and_left _ _ on))

pub part_has : (w : Exchange) (response : Response) → route_of w.need ≡ route.Turn → brings_part response.status ≡ true → is_get w.request ≡ true →
    promise_in w response ≢ Some 0
unfolding length_of
part_has w response way status get none = by_range (content_range_of response.fields) refl (sym promise_is ∙ none)
  where
    promise_is : promise_in w response ≡ promise_of
        (part_length (content_length_of (elements_in (codes "content-length") response.fields)) (content_range_of response.fields))
    promise_is =
        let bodied = get_no_head w.request get in
        let full = part_not_204 response.status status in
        let changed : nat_eq response.status 304 ≡ false =
        (let low : response.status < 300 = (part_succeeds response.status status).1 in grind (arith, nat_tests)) in
        rw (bodied, full, changed, way, status) refl

    by_agreed : (b : Bool) (first last : ℕ) → first ≤ last → promise_of (if b then says.Part first (last + 1 - first) else says.Bad) ≡ Some 0 → ⊥
    by_agreed false first last le is = none_some 0 is
    by_agreed true first last le is = (let same : last + 1 - first ≡ 0 = (let one : Some (last + 1 - first) ≡ Some 0 = is in cc) in omega (arith, le, same))

    by_range : (o : Option ContentRange) → content_range_of response.fields ≡ o →
        promise_of (part_length (content_length_of (elements_in (codes "content-length") response.fields)) o) ≡ Some 0 → ⊥
    by_range None at is = none_some 0 is
    by_range (Some (range.Unsatisfied total)) at is = none_some 0 is
    by_range (Some (range.Part first last total)) at is =
        by_agreed (agrees (content_length_of (elements_in (codes "content-length") response.fields)) (last + 1 - first)) first last
        ((range_early response (range.Part first last total) at).0) is

module _ (limits : Limits) (t : Tables) (law : Lawful t) (now x : ℕ) (response : Response) (goes : denial t (event.Head x response) ≡ None) (w : Exchange)
    (row : t.exchange x ≡ Some w) (k : Consumer) (asker : t.consumer w.c ≡ Some k) where
  abbrev ev : Event
  ev = event.Head x response

  abbrev Is : HeadCase → Type 0
  Is g = head_case (head_view t false w response) ≡ g

  abbrev key_current : Option ℕ
  key_current = current t w.request.key

  case_as : (g : HeadCase) → Is g → CaseBy (head_view t false w response) g
  case_as g is = subst (CaseBy (head_view t false w response)) is (case_by (head_view t false w response))

  -- what goes
  pub founds_goes : (g : HeadCase) → Founds g → (r : ℕ) → goes_by_case t (entry_without_acts now ev) r (Some g) w ≡ is_in
      (with_item_first (replaces w g) (with_item_first key_current [])) r
  founds_goes _ whole r = sym (in_one key_current r)
  founds_goes _ part r = sym (in_one key_current r)
  founds_goes _ replaced r = ap (λ b. is_number w.aim r || b) (sym (in_one key_current r)) ∙ adds_one w.aim (with_item_first key_current []) r

  -- who reads what is founded
  pub founds_does : (g : HeadCase) → Founds g → Is g → Does limits t now ev NoFlaw (map act.Evicted (evicted limits t now ev))
      (with_event now ev (let_all_go now (evicted limits t now ev)
      (let_some_go now key_current
      (let_some_go now (replaces w g)
      (with_consumer w.c (Some (founder x response w g k)) (with_answer now x response w.joined w (with_founding x (just_founded now x response w) t)))))))
  founds_does _ whole is = founds_whole limits t law now x response goes w row k asker is
  founds_does _ part is = founds_range limits t law now x response goes w row k asker is
  founds_does _ replaced is = first_replaced limits t law now x response goes w row k asker is

  -- it goes past the store, where that is lost
  pub lost_does : (kind : LostKind) (g : HeadCase) → Founds g → Is g →
      Does limits t now ev (Loses x kind) (map act.Evicted (evicted limits t now ev) ++ (act.Lost x kind ∷ []))
      (with_event now ev (let_all_go now (evicted limits t now ev)
      (let_some_go now key_current
      (let_some_go now (replaces w g) (with_consumer w.c (Some (record k { place = place.Direct x })) (with_answer now x response w.joined w t))))))
  lost_does kind _ whole is = passes_by_lost limits t law now x response goes w row k asker kind (whole_lost (head_view t false w response) is)
  lost_does kind _ part is = passes_by_lost limits t law now x response goes w row k asker kind (range_lost (head_view t false w response) is)
  lost_does kind _ replaced is = first_replaced_lost limits t law now x response goes w row k asker kind (replaced_lost (head_view t false w response) is)

  -- WHAT IS FOUNDED

  pub status_is : (g : HeadCase) → Founds g → Is g → brings_part response.status ≡ is_part g
  status_is _ whole is = by_case (case_as case.FoundsWhole is)
    where
      by_case : CaseBy (head_view t false w response) case.FoundsWhole → brings_part response.status ≡ false
      by_case (cases.founds_whole way status kept good) = whole_is_no_part response.status status
  status_is _ part is = by_case (case_as case.FoundsRange is)
    where
      by_case : CaseBy (head_view t false w response) case.FoundsRange → brings_part response.status ≡ true
      by_case (cases.founds_range way status fits kept good) = status
  status_is _ replaced is = by_case (case_as case.FirstReplaced is)
    where
      by_case : CaseBy (head_view t false w response) case.FirstReplaced → brings_part response.status ≡ false
      by_case (cases.first_replaced way shown status kept good) = whole_is_no_part response.status status

  pub total_whole : (g : HeadCase) → Founds g → Is g → is_part g ≡ false → founded_total w response ≡ promise_in w response
  total_whole g founds is off = rw (status_is g founds is, off) refl

  pub total_part : Is case.FoundsRange → founded_total w response ≡ total_of_part (content_range_of response.fields)
  total_part is = rw (status_is case.FoundsRange part is) refl

  -- nothing is promised only where it has no byte
  pub empty_total : (g : HeadCase) → Founds g → Is g → promise_in w response ≡ Some 0 → founded_total w response ≡ Some 0
  empty_total _ whole is none = total_whole case.FoundsWhole whole is refl ∙ none
  empty_total _ replaced is none = total_whole case.FirstReplaced replaced is refl ∙ none
  empty_total _ part is none = by_case (case_as case.FoundsRange is)
    where
      by_case : CaseBy (head_view t false w response) case.FoundsRange → founded_total w response ≡ Some 0
      by_case (cases.founds_range way status fits kept good) =
          absurd (part_has w response way status (storable_get w.request response (range_storable (head_view t false w response) is)) none)

  -- its consumer knows what it wants of a part
  pub part_wanted : Is case.FoundsRange → (span : Span) × (wanted_of (range_of k.request) (founded_total w response) ≡ wanted.Interval span)
  part_wanted is = by_case (case_as case.FoundsRange is)
    where
      by_case : CaseBy (head_view t false w response) case.FoundsRange → (span : Span) ×
          (wanted_of (range_of k.request) (founded_total w response) ≡ wanted.Interval span)
      by_case (cases.founds_range way status fits kept good) =
          let its = fits_wanted (range_of k.request) response (sym (ap (λ o. fits_asker o response) asker) ∙ fits) in
          (its.0, ap (wanted_of (range_of k.request)) (total_part is) ∙ its.1)

  -- it was shown nothing yet
  turn_unshown : route_of w.need ≡ route.Turn → k.shown ≡ false
  turn_unshown way = by_await (waiter limits t law now x response goes w row k asker).at
    where
      by_await : IsAwaiting x w k.place → k.shown ≡ false
      by_await (owners.direct other stands) = absurd (let never : route.Turn ≡ route.Direct = sym way ∙ other in cc)
      by_await (owners.turn other stands) = (law.places.turn w.c x k asker stands).idle.unshown
      by_await (owners.hole q lo hi how other aim stands) = absurd (let never : route.Turn ≡ route.Hole = sym way ∙ other in cc)

  pub founder_unshown : (g : HeadCase) → Founds g → Is g → k.shown ≡ false
  founder_unshown _ whole is = by_case (case_as case.FoundsWhole is)
    where
      by_case : CaseBy (head_view t false w response) case.FoundsWhole → k.shown ≡ false
      by_case (cases.founds_whole way status kept good) = turn_unshown way
  founder_unshown _ part is = by_case (case_as case.FoundsRange is)
    where
      by_case : CaseBy (head_view t false w response) case.FoundsRange → k.shown ≡ false
      by_case (cases.founds_range way status fits kept good) = turn_unshown way
  founder_unshown _ replaced is = by_case (case_as case.FirstReplaced is)
    where
      by_case : CaseBy (head_view t false w response) case.FirstReplaced → k.shown ≡ false
      by_case (cases.first_replaced way shown status kept good) = sym (ap was_shown asker) ∙ shown
