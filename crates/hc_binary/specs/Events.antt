-- What numbers and bytes make: an event, or why they are refused.
use Rattle.std.specs.Prelude.{◌≡◌, ◌≢◌, ℕ, ◌^◌, ◌==◌, ◌&&◌, not, nat_lt, nat_le, List, length, Option, Some, None, Result, Ok, Err, if◌then◌else◌}
use Rattle.hc_event.specs.declared.event.Event.{Event}
use Rattle.hc_event.specs.declared.event.Event.TheVariants as event
use Rattle.hc_event.specs.declared.event.Load.{Load}
use Rattle.hc_event.specs.declared.event.Load.TheVariants as load
use Rattle.hc_event.specs.declared.event.Request.{Request}
use Rattle.hc_sched.specs.FirstLines.{is_method}
use Rattle.hc_sched.specs.Words.{or_else}
use Rattle.hc_target.specs.Targets.{is_target}
use Rattle.hc_binary.specs.FieldTexts.{fields_of}
use Rattle.hc_binary.specs.declared.refused.CallRefusal.{CallRefusal}
use Rattle.hc_binary.specs.declared.refused.CallRefusal.TheVariants as refused

-- an event, or why there is none
abbrev pub Made : Type 0
Made = Result Event CallRefusal

-- what was to be made was, or memory was refused
abbrev pub Makes : {A : Type 0} → Result A CallRefusal → Result A CallRefusal → Type 0
Makes owed (Ok a) = owed ≡ Ok a
Makes owed (Err e) = e ≢ refused.NoMemory → owed ≡ Err e

-- a number of a consumer or an exchange
abbrev pub numbered : {A : Type 0} → ℕ → A → Result A CallRefusal
numbered n a = if nat_lt n (2 ^ 62) then Ok a else Err refused.Limit

abbrev pub load_of : ℕ → Option Load
load_of mode =
    if mode == 0 then Some load.Normal
    else if mode == 1 then Some load.Validate
    else if mode == 2 then Some load.Bypass
    else if mode == 3 then Some load.Skip
    else if mode == 4 then Some load.Only
    else if mode == 5 then Some load.Disable
    else None

-- the fields of these lines
abbrev pub fields_made : {A : Type 0} → List ℕ → (List (List ℕ × List ℕ) → Result A CallRefusal) → Result A CallRefusal
fields_made text made = or_else (fields_of text) made (Err refused.BadFields)

-- the request, which loads so
abbrev pub request_made : List ℕ → Load → List ℕ → List ℕ → Result Request CallRefusal
request_made method load target text =
    if not (is_method method) then Err refused.BadMethod
    else if not (is_target target) then Err refused.BadTarget
    else fields_made text
    (λ fields. Ok (record { method = method; key = target; load = load; fields = fields }))

-- the start of a consumer with this request
abbrev pub as_start : ℕ → Result Request CallRefusal → Made
as_start c (Ok request) = Ok (event.Start c request)
as_start c (Err e) = Err e

abbrev pub start_made : ℕ → List ℕ → ℕ → List ℕ → List ℕ → Made
start_made c method mode target text =
    if nat_lt c (2 ^ 62)
    then or_else (load_of mode) (λ load. as_start c (request_made method load target text)) (Err refused.Limit)
    else Err refused.Limit

abbrev pub poll_made : ℕ → ℕ → Made
poll_made c want =
    if nat_lt c (2 ^ 62) && nat_le want 65536 then Ok (event.Poll c want) else Err refused.Limit

abbrev pub doom_made : List ℕ → Made
doom_made target = if is_target target then Ok (event.Doom target) else Err refused.BadTarget

abbrev pub head_made : ℕ → ℕ → List ℕ → Made
head_made x status text =
    if nat_lt x (2 ^ 62) && nat_le 200 status && nat_le status 599
    then fields_made text (λ fields. Ok (event.Head x (record { status = status; fields = fields })))
    else Err refused.Limit

abbrev pub piece_made : ℕ → List ℕ → Made
piece_made x bytes =
    if nat_lt x (2 ^ 62) && nat_le (length bytes) 65536 then Ok (event.Piece x bytes) else Err refused.Limit

-- THE CODE

-- the key was made of a target
abbrev pub key_made : List ℕ → Result (List ℕ) CallRefusal
key_made target = if is_target target then Ok target else Err refused.BadTarget
