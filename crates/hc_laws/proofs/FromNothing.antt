-- A store may begin with nothing.
use Rattle.std.proofs.{Common.{◌≡◌, true, arith}, lemmas.Bool.Decides.{nat_tests}}
use Rattle.hc_effects.proofs.Vocabulary.{Limits, may_begin, no_contents}

pub begins_well : (limits : Limits) → may_begin limits no_contents ≡ true
unfolding may_begin
begins_well limits = grind (arith, nat_tests)
