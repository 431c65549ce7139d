-- The numbers of refusals.
use Rattle.std.specs.Prelude.{ℕ}
use Rattle.hc_binary.specs.declared.refused.CallRefusal.{CallRefusal}
use Rattle.hc_binary.specs.declared.refused.CallRefusal.TheVariants as refused

abbrev pub code_of : CallRefusal → ℕ
code_of refused.NoHandle = 1
code_of refused.NoMemory = 2
code_of refused.Exhausted = 3
code_of refused.BadMoment = 4
code_of refused.Limit = 5
code_of refused.BadMethod = 6
code_of refused.BadTarget = 7
code_of refused.BadFields = 8
code_of refused.Live = 9
code_of refused.BadImage = 10
code_of refused.BadContent = 11
code_of refused.Full = 12
code_of refused.Late = 13
code_of refused.BadText = 14
