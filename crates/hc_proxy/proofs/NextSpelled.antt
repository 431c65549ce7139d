-- What is told of bytes that came has a spelling: a request and a head are events of a schedule.
use Rattle.std.{proofs.{Common.{◌≡◌, ◌≤◌, ◌<◌, ◌^◌, ℕ, Bool, true, false, List, [], ◌∷◌, refl, subst, arith}, lemmas.{Bool.Decides.{nat_tests}, List.Elements.{All-head}}}, specs.Prelude.{codes, nat_le, length, if◌then◌else◌}}
use Rattle.hc_effects.proofs.Vocabulary.{event, Request, Response}
use Rattle.hc_condition.specs.NotModified.{unconditioned}
use Rattle.hc_fields.specs.FieldList.{without}
use Rattle.hc_fields.proofs.Edits.{IsFieldList-without}
use Rattle.hc_head.specs.{declared.message.WireRequest.{WireRequest}, Spellings.{IsMethod, IsSpelledRequest, IsSpelledResponse}}
use Rattle.hc_msg.specs.{Inputs.{Reports, next_in}, NextParts.{IsReportedFirst, StandsNext}, Reading.{Reading, Token}, Spelled.{IsSpelled}}
use Rattle.hc_msg.proofs.{Leading.{reports_leads}, NextParts.{stands_next}, Spelled.{tokens_spelled}}
use Rattle.hc_validate.proofs.Settings.{length-without, size_of-without}
use Rattle.hc_peers.specs.Renderings.{asked_of, is_fronted}
use Rattle.hc_sched.specs.{FirstLines.{is_method}, Schedule.{IsEvent}}

-- what is told next has a spelling
pub reported_spelled : (most : ℕ) (s : Reading) (input : List ℕ) (token : Token) (t : Reading) (rest : List ℕ) → next_in
    most s input ≡ Reports token t rest → IsSpelled token
reported_spelled most s input token t rest is =
    let first : IsReportedFirst s input token t rest = subst (StandsNext most s input) is (stands_next most s input) in
    All-head IsSpelled token [] (tokens_spelled s first.front (token ∷ []) t (reports_leads s first.front token t first.reports))

method_is : (method : List ℕ) → IsMethod method → is_method method ≡ true
unfolding is_method
method_is method h =
    let some : nat_le 1 (length method) ≡ true = (let le : 1 ≤ length method = h.some in grind (arith, nat_tests)) in
    let short : nat_le (length method) 15 ≡ true = (let le : length method ≤ 15 = h.short in grind (arith, nat_tests)) in
    rw (h.token, some, short, h.other) refl

pub start_spelled : (c : ℕ) (request : Request) → c < 2 ^ 62 → IsSpelledRequest request → IsEvent (event.Start c request)
start_spelled c request small h = (small, method_is request.method h.method, h.key, record { list = h.fields.list; within_limits = h.fields.within_limits })

pub head_spelled : (x : ℕ) (response : Response) → x < 2 ^ 62 → IsSpelledResponse response → IsEvent (event.Head x response)
head_spelled x response small h = (small, h.low, h.high, record { list = h.fields.list; within_limits = h.fields.within_limits })

-- what is asked for behind a front has one too: a request without its condition has no other fields
pub asked_spelled : (c : ℕ) (front : Bool) (request : WireRequest) → c < 2 ^ 62 → IsSpelledRequest request.request →
    IsEvent (event.Start c (asked_of front request))
asked_spelled c front request small h = by_front (is_fronted front request.request)
  where
    by_front : (b : Bool) → IsEvent (event.Start c (if b then unconditioned request.request else request.request))
    by_front false = start_spelled c request.request small h
    by_front true =
        let fields : List (List ℕ × List ℕ) = request.request.fields in
        let rest : List (List ℕ × List ℕ) = without (codes "if-none-match") fields in (
          small,
          method_is request.request.method h.method,
          h.key,
          record {
            list = IsFieldList-without (codes "if-modified-since") rest (IsFieldList-without (codes "if-none-match") fields h.fields.list);
            within_limits = record {
              few = (let few = h.fields.within_limits.few in let a = length-without (codes "if-none-match") fields in
                  let b = length-without (codes "if-modified-since") rest in omega arith);
              small = (let small = h.fields.within_limits.small in let a = size_of-without (codes "if-none-match") fields in
                  let b = size_of-without (codes "if-modified-since") rest in omega arith);
            };
          },
        )
