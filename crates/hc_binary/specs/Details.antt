-- Why an act is done, in numbers: the number of the reason, and what goes with it.
use Rattle.std.specs.Prelude.{ℕ}
use Rattle.hc_event.specs.declared.act.Need.{Need}
use Rattle.hc_event.specs.declared.act.Need.TheVariants as need
use Rattle.hc_event.specs.declared.act.Wait.{Wait}
use Rattle.hc_event.specs.declared.act.Wait.TheVariants as wait
use Rattle.hc_event.specs.declared.act.Why.{Why}
use Rattle.hc_event.specs.declared.act.Why.TheVariants as why
use Rattle.hc_event.specs.declared.act.Cause.{Cause}
use Rattle.hc_event.specs.declared.act.Cause.TheVariants as cause
use Rattle.hc_event.specs.declared.act.LostKind.{LostKind}
use Rattle.hc_event.specs.declared.act.LostKind.TheVariants as kind
use Rattle.hc_event.specs.declared.act.Refusal.{Refusal}
use Rattle.hc_event.specs.declared.act.Refusal.TheVariants as refusal
use Rattle.hc_binary.specs.declared.detail.Detail.{Detail}

-- with which nothing goes
abbrev pub plain : ℕ → Detail
plain code = record { code = code; exchange = 0; representation = 0; first = 0; second = 0 }

-- with which an exchange goes, or a representation, or numbers
abbrev pub of_exchange : ℕ → ℕ → Detail
of_exchange code x =
    record { code = code; exchange = x; representation = 0; first = 0; second = 0 }

abbrev pub of_representation : ℕ → ℕ → Detail
of_representation code r =
    record { code = code; exchange = 0; representation = r; first = 0; second = 0 }

abbrev pub of_numbers : ℕ → ℕ → ℕ → Detail
of_numbers code first second =
    record { code = code; exchange = 0; representation = 0; first = first; second = second }

abbrev pub need_detail : Need → Detail
need_detail need.Disabled = plain 1
need_detail need.TimedOut = plain 2
need_detail need.Bypass = plain 3
need_detail need.Miss = plain 4
need_detail need.Vary = plain 5
need_detail need.Validate = plain 6
need_detail (need.Hole from to) = of_numbers 7 from to
need_detail need.Unsatisfied = plain 8

abbrev pub why_detail : Why → Detail
why_detail (why.Fetched x) = of_exchange 1 x
why_detail (why.Fresh age lifetime) = of_numbers 2 age lifetime
why_detail (why.StaleAllowed age lifetime) = of_numbers 3 age lifetime
why_detail (why.Validated x) = of_exchange 4 x

abbrev pub cause_detail : Cause → Detail
cause_detail (cause.Net x) = of_exchange 1 x
cause_detail (cause.Short x got promised) =
    record { code = 2; exchange = x; representation = 0; first = got; second = promised }
cause_detail (cause.Changed x) = of_exchange 3 x
cause_detail (cause.StoreWrite r) = of_representation 4 r
cause_detail (cause.StoreRead r) = of_representation 5 r
cause_detail cause.Miss = plain 6
cause_detail (cause.BadHead x) = of_exchange 7 x

abbrev pub wait_detail : Wait → Detail
wait_detail (wait.Turn c) = of_numbers 1 c 0
wait_detail (wait.Busy c) = of_numbers 2 c 0
wait_detail (wait.Head x) = of_exchange 3 x
wait_detail (wait.Body x) = of_exchange 4 x

abbrev pub lost_detail : LostKind → Detail
lost_detail kind.Fault = plain 1
lost_detail kind.TooLarge = plain 2
lost_detail kind.Full = plain 3

abbrev pub refusal_detail : Refusal → Detail
refusal_detail (refusal.NotRising last) = of_numbers 1 last 0
refusal_detail refusal.TooManyConsumers = plain 2
refusal_detail refusal.NoConsumer = plain 3
refusal_detail refusal.Finished = plain 4
refusal_detail refusal.WantZero = plain 5
refusal_detail refusal.NoExchange = plain 6
refusal_detail refusal.HeadTwice = plain 7
refusal_detail refusal.NoHeadYet = plain 8
refusal_detail refusal.NotAsked = plain 9
refusal_detail refusal.EmptyPiece = plain 10
refusal_detail (refusal.Overlong promised) = of_numbers 11 promised 0
