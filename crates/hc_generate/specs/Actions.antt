-- What a round does, by a draw below 100.
use Rattle.std.specs.Prelude.{ℕ, nat_lt, if◌then◌else◌}
use Rattle.hc_generate.specs.declared.action.Action.{Action}
use Rattle.hc_generate.specs.declared.action.Action.TheVariants.{Start, Poll, Bring, Cancel, Wait, Fault, Doom}

abbrev pub action_of : ℕ → Action
action_of a =
    if nat_lt a 30 then Start else if nat_lt a 75 then Poll else if nat_lt a 95 then Bring
    else if nat_lt a 97 then Cancel else if nat_lt a 98 then Wait else if nat_lt a 99 then Fault else Doom
