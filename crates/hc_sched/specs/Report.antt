-- The text of a report.
use Rattle.std.specs.Prelude.{ℕ, List, [], ◌∷◌, ◌++◌, length, codes, Option, Some, None}
use Rattle.std.specs.Fmt.{decimal}
use Rattle.hex.specs.Hex.{encode_lower}
use Rattle.hc_event.specs.declared.act.Act.{Act}
use Rattle.hc_event.specs.declared.act.Act.TheVariants as act
use Rattle.hc_event.specs.declared.act.Need.{Need}
use Rattle.hc_event.specs.declared.act.Need.TheVariants as need
use Rattle.hc_event.specs.declared.act.Wait.{Wait}
use Rattle.hc_event.specs.declared.act.Wait.TheVariants as wait
use Rattle.hc_event.specs.declared.act.Why.{Why}
use Rattle.hc_event.specs.declared.act.Why.TheVariants as why
use Rattle.hc_event.specs.declared.act.Cause.{Cause}
use Rattle.hc_event.specs.declared.act.Cause.TheVariants as cause
use Rattle.hc_event.specs.declared.act.LostKind.{LostKind}
use Rattle.hc_event.specs.declared.act.LostKind.TheVariants as kind
use Rattle.hc_event.specs.declared.act.Refusal.{Refusal}
use Rattle.hc_event.specs.declared.act.Refusal.TheVariants as refusal
use Rattle.hc_fields.specs.Lines.{fields_text}

abbrev pub need_word : Need → List ℕ
need_word need.Disabled = codes "disabled"
need_word need.TimedOut = codes "timed-out"
need_word need.Bypass = codes "bypass"
need_word need.Miss = codes "miss"
need_word need.Vary = codes "vary"
need_word need.Validate = codes "validate"
need_word (need.Hole from to) = codes "hole:" ++ decimal from ++ codes "-" ++ decimal to
need_word need.Unsatisfied = codes "unsatisfied"

abbrev pub wait_word : Wait → List ℕ
wait_word (wait.Turn c) = codes "turn:" ++ decimal c
wait_word (wait.Busy c) = codes "busy:" ++ decimal c
wait_word (wait.Head x) = codes "head:" ++ decimal x
wait_word (wait.Body x) = codes "body:" ++ decimal x

abbrev pub why_word : Why → List ℕ
why_word (why.Fetched x) = codes "fetched:" ++ decimal x
why_word (why.Fresh age lifetime) = codes "fresh:" ++ decimal age ++ codes "/" ++ decimal lifetime
why_word (why.StaleAllowed age lifetime) =
    codes "stale:" ++ decimal age ++ codes "/" ++ decimal lifetime
why_word (why.Validated x) = codes "validated:" ++ decimal x

abbrev pub cause_word : Cause → List ℕ
cause_word (cause.Net x) = codes "net:" ++ decimal x
cause_word (cause.Short x got promised) =
    codes "short:" ++ decimal x ++ codes ":" ++ decimal got ++ codes "/" ++ decimal promised
cause_word (cause.Changed x) = codes "changed:" ++ decimal x
cause_word (cause.StoreWrite r) = codes "store-write:" ++ decimal r
cause_word (cause.StoreRead r) = codes "store-read:" ++ decimal r
cause_word cause.Miss = codes "miss"
cause_word (cause.BadHead x) = codes "bad-head:" ++ decimal x

abbrev pub kind_word : LostKind → List ℕ
kind_word kind.Fault = codes "fault"
kind_word kind.TooLarge = codes "too-large"
kind_word kind.Full = codes "full"

-- the number of a refusal, and what goes with it
abbrev pub refusal_word : Refusal → List ℕ
refusal_word (refusal.NotRising last) = codes "1 " ++ decimal last
refusal_word refusal.TooManyConsumers = codes "2"
refusal_word refusal.NoConsumer = codes "3"
refusal_word refusal.Finished = codes "4"
refusal_word refusal.WantZero = codes "5"
refusal_word refusal.NoExchange = codes "6"
refusal_word refusal.HeadTwice = codes "7"
refusal_word refusal.NoHeadYet = codes "8"
refusal_word refusal.NotAsked = codes "9"
refusal_word refusal.EmptyPiece = codes "10"
refusal_word (refusal.Overlong promised) = codes "11 " ++ decimal promised

-- the end of what is shown, or a hyphen where it isn't known
abbrev pub end_word : Option ℕ → List ℕ
end_word None = codes "-"
end_word (Some hi) = decimal hi

-- the lines of an act, each ended by a line feed
abbrev pub act_text : Act → List ℕ
act_text (act.Opened x c need request) =
    codes "open " ++ decimal x ++ 32 ∷ decimal c ++ 32 ∷ need_word need ++ 32 ∷ request.method
    ++ 32 ∷ request.key ++ 32 ∷ decimal (length request.fields) ++ 10 ∷ fields_text request.fields
act_text (act.Ask x) = codes "ask " ++ decimal x ++ 10 ∷ []
act_text (act.Close x) = codes "close " ++ decimal x ++ 10 ∷ []
act_text (act.Shown c r why status fields lo hi) =
    codes "shown " ++ decimal c ++ 32 ∷ decimal r ++ 32 ∷ why_word why ++ 32 ∷ decimal status
    ++ 32 ∷ decimal lo ++ 32 ∷ end_word hi ++ 32 ∷ decimal (length fields)
    ++ 10 ∷ fields_text fields
act_text (act.Given c x at bytes) =
    codes "data " ++ decimal c ++ 32 ∷ decimal x ++ 32 ∷ decimal at
    ++ 32 ∷ encode_lower bytes ++ 10 ∷ []
act_text (act.Ended c) = codes "ended " ++ decimal c ++ 10 ∷ []
act_text (act.Failed c cause) = codes "failed " ++ decimal c ++ 32 ∷ cause_word cause ++ 10 ∷ []
act_text (act.Pending c wait) = codes "pending " ++ decimal c ++ 32 ∷ wait_word wait ++ 10 ∷ []
act_text (act.Lost r kind) = codes "lost " ++ decimal r ++ 32 ∷ kind_word kind ++ 10 ∷ []
act_text (act.Evicted r) = codes "evicted " ++ decimal r ++ 10 ∷ []
act_text (act.Denied refusal) = codes "denied " ++ refusal_word refusal ++ 10 ∷ []

abbrev pub acts_text : List Act → List ℕ
acts_text [] = []
acts_text (act ∷ acts) = act_text act ++ acts_text acts

-- what the report says of one event: its number, from 1, and its acts
abbrev pub entry_text : ℕ → List Act → List ℕ
entry_text n acts = codes "> " ++ decimal n ++ 10 ∷ acts_text acts
