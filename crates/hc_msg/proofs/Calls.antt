-- Where the bytes of a request lead.
--
-- A whole head leads where it says, and one that is too long to its error. What is kept of the beginning of a head is
-- what may follow it (`GoesOn`). So behind further bytes it says whether a request can begin with all of them (`begun`,
-- `not_begun`). Where it can't, the first byte that shows it leads to BadHead. Before that byte the search for the end
-- of the head is open (`AreOfHead`), so the reading was still within the head (`call_refused`).
use Rattle.std.{proofs.{lemmas.{Bool.Decides.{nat_tests}, List.{append-nil, take_at, take-append-le, take-append-drop}}, Common.{◌≡◌, ℕ, ◌+◌, ◌-◌, ◌<◌, ◌≤◌, true, false, List, [], ◌∷◌, ◌++◌, length, take, drop, refl, sym, ap, subst, ◌∙◌, inl, inr, arith, append_assoc, length-append, length-take}}, specs.Prelude.{◌⊎◌, Result, Ok, Err}}
use Rattle.hc_head.specs.{declared.{message.{MsgError.{MsgError}, WireRequest.{WireRequest}}, scan.{Scan.{Scan}, Sought.{Sought}}, start.Start.{Start, TheVariants.{Before}}}, Scans.{scan_all, is_open, IsHeadEnd, StaysOpen}, Starts.{begins_request, goes_on_from}, Finding.{IsLong, Finds}, Requests.{Asked, Grants, IsAskedBy}, Calls.{Gives}}
use Rattle.hc_head.specs.declared.message.MsgError.TheVariants as error
use Rattle.hc_head.specs.declared.scan.Sought.TheVariants as sought
use Rattle.hc_msg.specs.{Reading.{Requests, Heading, Failed, Asks, heading, after_asked, Leads, ReportsAtLast}, Asking.{Called, GoesOn, head_count}}
use Rattle.hc_head.proofs.ScanLemmas.{scan_all-append}
use Rattle.hc_msg.proofs.{Leading.{leads_on, stays_failed}, Bytes.{open_before, heading_on, heading_ends, heading_reports, heading_long, heading_refused}}

-- a whole head
asked_leads : (scan : Scan) (held rest : List ℕ) (n : ℕ) (asked : Asked) → IsHeadEnd scan rest n → length held + n ≤ 32768
    → begins_request (held ++ take n rest) ≡ true → IsAskedBy (held ++ take n rest) asked
    → Leads (Heading Requests scan held) (take n rest) (after_asked asked).tokens (after_asked asked).next
asked_leads scan held rest n asked ends short begins comes = heading_ends Requests scan held rest n (after_asked asked) ends short begins (asked, comes, refl)

granted : (scan : Scan) (held rest : List ℕ) (n : ℕ) (request : WireRequest) (asked : Asked) → IsHeadEnd scan rest n → length held + n ≤ 32768
    → begins_request (held ++ take n rest) ≡ true → Gives (Ok request) asked → IsAskedBy (held ++ take n rest) asked →
    ReportsAtLast (Heading Requests scan held) (take n rest) (Asks request) (heading Requests)
granted scan held rest n request asked ends short begins gives comes =
    let grants : IsAskedBy (held ++ take n rest) (Grants request) = subst (IsAskedBy (held ++ take n rest)) gives comes in
    heading_reports Requests scan held rest n (Asks request) (heading Requests) ends short begins (Grants request, grants, refl)

pub call_reports : (scan : Scan) (held rest : List ℕ) (n : ℕ) (request : WireRequest) (result : Result WireRequest MsgError) → IsHeadEnd scan rest n →
    length held + n ≤ 32768
    → begins_request (held ++ take n rest) ≡ true → Called (held ++ take n rest) result → result ≡ Ok request →
    ReportsAtLast (Heading Requests scan held) (take n rest) (Asks request) (heading Requests)
call_reports scan held rest n request result ends short begins (inl failed) is =
    let never : Ok request ≡ Err error.NoMemory = sym is ∙ failed in
    cc
call_reports scan held rest n request result ends short begins (inr tokens) is =
    granted scan held rest n request tokens.asked ends short begins (subst (λ (r : Result WireRequest MsgError). Gives r tokens.asked) is tokens.gives)
    tokens.comes

denied : (scan : Scan) (held rest : List ℕ) (n : ℕ) (e : MsgError) (asked : Asked) → IsHeadEnd scan rest n → length held + n ≤ 32768
    → begins_request (held ++ take n rest) ≡ true → Gives (Err e) asked → IsAskedBy (held ++ take n rest) asked →
    (e ≡ error.NoMemory) ⊎ Leads (Heading Requests scan held) rest [] (Failed e)
denied scan held rest n e asked ends short begins (inr memory) comes = inl memory
denied scan held rest n e asked ends short begins (inl refused) comes =
    let s = Heading Requests scan held in
    let failed : Leads s (take n rest) [] (Failed e) =
    subst (λ (a : Asked). Leads s (take n rest) (after_asked a).tokens (after_asked a).next) refused
    (asked_leads scan held rest n asked ends short begins comes) in
    inr (subst (λ (l : List ℕ). Leads s l [] (Failed e)) (take-append-drop n rest)
    (leads_on s (take n rest) (drop n rest) [] [] (Failed e) (Failed e) failed (stays_failed e (drop n rest))))

pub call_fails : (scan : Scan) (held rest : List ℕ) (n : ℕ) (e : MsgError) (result : Result WireRequest MsgError) → IsHeadEnd scan rest n →
    length held + n ≤ 32768
    → begins_request (held ++ take n rest) ≡ true → Called (held ++ take n rest) result → result ≡ Err e →
    (e ≡ error.NoMemory) ⊎ Leads (Heading Requests scan held) rest [] (Failed e)
call_fails scan held rest n e result ends short begins (inl failed) is = let memory : e ≡ error.NoMemory = cc in inl memory
call_fails scan held rest n e result ends short begins (inr tokens) is =
    denied scan held rest n e tokens.asked ends short begins (subst (λ (r : Result WireRequest MsgError). Gives r tokens.asked) is tokens.gives) tokens.comes

-- the beginning of a head
started : (start : Start) → goes_on_from start [] ≡ true
started Before = refl
started _ = refl

pub begins_now : (start : Start) (held : List ℕ) → GoesOn start held → begins_request held ≡ true
begins_now start held goes = ap begins_request (sym (append-nil held)) ∙ sym (goes []) ∙ started start

pub goes_behind : (start next : Start) (held bytes : List ℕ) → GoesOn start held →
    ((more : List ℕ) → goes_on_from next more ≡ goes_on_from start (bytes ++ more)) → GoesOn next (held ++ bytes)
goes_behind start next held bytes goes behind = λ more. behind more ∙ goes (bytes ++ more) ∙ ap begins_request (sym (append_assoc held bytes more))

pub begins_not : (start : Start) (held bytes : List ℕ) → GoesOn start held → ((more : List ℕ) → false ≡ goes_on_from start (bytes ++ more)) →
    begins_request (held ++ bytes) ≡ false
begins_not start held bytes goes never = ap (λ (l : List ℕ). begins_request (held ++ l)) (sym (append-nil bytes)) ∙ sym (goes (bytes ++ [])) ∙ sym (never [])

-- what is found of the head: its bytes, of which all but the last leave it open
pub record AreOfHead (held : ℕ) (scan : Scan) (piece : List ℕ) (n : ℕ) : Type 0 where
  pub within : n ≤ length piece
  pub short : held + n ≤ 32768
  pub still_open : (k : ℕ) → k < n → is_open (scan_all scan (take k piece)) ≡ true

taken_open : (scan : Scan) (front rest piece : List ℕ) (k : ℕ) → is_open (scan_all scan front) ≡ true → front ++ rest ≡ piece → k ≤ length front →
    is_open (scan_all scan (take k piece)) ≡ true
taken_open scan front rest piece k still whole within =
    let cut : take k piece ≡ take k front = ap (take k) (sym whole) ∙ take-append-le k front rest within in
    let split : take k front ++ drop k front ≡ front = take-append-drop k front in
    grind (arith, nat_tests, is_open, open_before, scan_all-append)

pub of_head : (held : ℕ) (scan : Scan) (piece : List ℕ) (found : Result Sought MsgError) → held ≤ 32768 → Finds held scan piece found →
    AreOfHead held scan piece (head_count held piece found)
of_head held scan piece (Ok (sought.Ends n)) fits finds = record {
  within = finds.2;
  short = finds.1;
  still_open = λ k lt. taken_open scan finds.0.front (10 ∷ finds.0.rest) piece k finds.0.open_before finds.0.whole (omega (arith, finds.0.len));
}
of_head held scan piece (Ok (sought.Open next)) fits finds = record {
  within = omega arith;
  short = finds.1;
  still_open = λ k lt. taken_open scan piece [] piece k (ap is_open (sym finds.0.leads) ∙ finds.0.still_open) (append-nil piece) (omega arith);
}
of_head held scan piece (Err e) fits finds = search (arith, length-append, taken_open)

pub call_refused : (scan : Scan) (held piece : List ℕ) (n : ℕ) → AreOfHead (length held) scan piece n → begins_request held ≡ true →
    begins_request (held ++ take n piece) ≡ false
    → Leads (Heading Requests scan held) piece [] (Failed error.BadHead)
call_refused scan held piece n of before never =
    let len : length (take n piece) ≡ n = length-take n piece ∙ omega (arith, of.within) in
    let failed = heading_refused Requests (take n piece) scan held before never (omega (arith, len, of.short))
    (λ k lt. let same : take k (take n piece) ≡ take k piece =
    sym (take-append-le k (take n piece) (drop n piece) (omega arith)) ∙ ap (take k) (take-append-drop n piece) in
    ap (λ (l : List ℕ). is_open (scan_all scan l)) same ∙ of.still_open k (omega (arith, len))) in
    subst (λ (l : List ℕ). Leads (Heading Requests scan held) l [] (Failed error.BadHead)) (take-append-drop n piece)
    (leads_on (Heading Requests scan held) (take n piece) (drop n piece) [] [] (Failed error.BadHead) (Failed error.BadHead) failed
    (stays_failed error.BadHead (drop n piece)))

pub call_long : (scan : Scan) (held rest : List ℕ) (e : MsgError) → e ≡ error.HeadTooLong → IsLong (length held) scan rest →
    begins_request (held ++ take (32768 - length held) rest) ≡ true
    → (e ≡ error.NoMemory) ⊎ Leads (Heading Requests scan held) rest [] (Failed e)
call_long scan held rest e same long begins =
    let cut : take (32768 - length held) rest ≡ long.front = ap (take (32768 - length held)) (sym long.whole) ∙
    take_at long.front long.rest (32768 - length held) (omega (arith, long.len)) in
    let all : begins_request (held ++ long.front) ≡ true = ap (λ (l : List ℕ). begins_request (held ++ l)) (sym cut) ∙ begins in
    inr (subst (λ (x : MsgError). Leads (Heading Requests scan held) rest [] (Failed x)) (sym same) (heading_long Requests scan held rest long all))

pub call_open : (scan next : Scan) (held rest grown : List ℕ) → StaysOpen scan rest next → length held + length rest ≤ 32768 →
    begins_request (held ++ rest) ≡ true → grown ≡ held ++ rest
    → Leads (Heading Requests scan held) rest [] (Heading Requests next grown)
call_open scan next held rest grown stays short begins grows =
    let still : is_open (scan_all scan rest) ≡ true = ap is_open (sym stays.leads) ∙ stays.still_open in
    rw (grows, stays.leads) (heading_on Requests rest scan held still short begins)

-- what is seen of a head begins a request, where its beginning goes on
pub begun : (start next : Start) (held view piece : List ℕ) (found : Result Sought MsgError) (count : ℕ) → GoesOn start held → view ≡ held →
    count ≡ head_count (length view) piece found
    → ((more : List ℕ) → goes_on_from next more ≡ goes_on_from start (take count piece ++ more)) →
    begins_request (held ++ take (head_count (length held) piece found) piece) ≡ true
begun start next held view piece found count goes same is behind =
    let len : count ≡ head_count (length held) piece found = is ∙ ap (λ (l : List ℕ). head_count (length l) piece found) same in
    ap (λ (n : ℕ). begins_request (held ++ take n piece)) (sym len) ∙
    begins_now next (held ++ take count piece) (goes_behind start next held (take count piece) goes behind)

pub not_begun : (scan : Scan) (start : Start) (held view piece : List ℕ) (found : Result Sought MsgError) (count : ℕ) → length held ≤ 32768 →
    GoesOn start held → view ≡ held
    → Finds (length view) scan piece found → count ≡ head_count (length view) piece found →
    ((more : List ℕ) → false ≡ goes_on_from start (take count piece ++ more))
    → (error.BadHead ≡ error.NoMemory) ⊎ Leads (Heading Requests scan held) piece [] (Failed error.BadHead)
not_begun scan start held view piece found count fits goes same finds is never =
    let len : count ≡ head_count (length held) piece found = is ∙ ap (λ (l : List ℕ). head_count (length l) piece found) same in
    let found_here = subst (λ (l : List ℕ). Finds (length l) scan piece found) same finds in
    let of : AreOfHead (length held) scan piece count =
    subst (AreOfHead (length held) scan piece) (sym len) (of_head (length held) scan piece found fits found_here) in
    inr (call_refused scan held piece count of (begins_now start held goes) (begins_not start held (take count piece) goes never))
