-- What stands next in an input, in terms of where its bytes lead.
use Rattle.std.specs.Prelude.{◌≡◌, ◌⊎◌, ℕ, true, List, [], ◌++◌, length, min}
use Rattle.hc_msg.specs.Inputs.{Next, Waits, Reports, Brings, Ends, Fails, next_in}
use Rattle.hc_msg.specs.Reading.{Reading, Whole, Done, Failed, Token, Leads, ReportsAtLast}
use Rattle.hc_msg.specs.Taking.{stretch, goes_on, byte_tokens}

-- all was read and told nothing, and more is waited for; or it stands behind the end
abbrev pub IsReadOn : Reading → List ℕ → Reading → Type 0
IsReadOn s input t = (Leads s input [] t × (goes_on t ≡ true)) ⊎ ((s ≡ Done) × (t ≡ Done))

-- the first bytes tell this with the last of them
pub record IsReportedFirst (s : Reading) (input : List ℕ) (token : Token) (t : Reading) (rest : List ℕ)
    : Type 0 where
  pub front : List ℕ
  pub whole : front ++ rest ≡ input
  pub reports : ReportsAtLast s front token t

-- behind bytes that tell nothing, the longest run of body bytes that stand together, of at most so many
pub record IsBroughtFirst
    (most : ℕ) (s : Reading) (input bytes : List ℕ) (t : Reading) (rest : List ℕ) : Type 0 where
  pub front : List ℕ
  pub mid : Reading
  pub whole : front ++ (bytes ++ rest) ≡ input
  pub passes : Leads s front [] mid
  pub longest : length bytes ≡ min most (stretch mid (length (bytes ++ rest)))
  pub gives : Leads mid bytes (byte_tokens bytes) t

-- the message ends with the first bytes, which tell nothing
pub record IsEndedFirst (s : Reading) (input : List ℕ) : Type 0 where
  pub front : List ℕ
  pub rest : List ℕ
  pub whole : front ++ rest ≡ input
  pub ends : Leads s front [] Whole

abbrev pub StandsNext : ℕ → Reading → List ℕ → Next → Type 0
StandsNext most s input (Waits t) = IsReadOn s input t
StandsNext most s input (Reports token t rest) = IsReportedFirst s input token t rest
StandsNext most s input (Brings bytes t rest) = IsBroughtFirst most s input bytes t rest
StandsNext most s input Ends = IsEndedFirst s input
StandsNext most s input (Fails e) = Leads s input [] (Failed e)

-- what stands next is what the bytes lead to first
abbrev pub IsWhatStandsNext : Type 0
IsWhatStandsNext =
    (most : ℕ) (s : Reading) (input : List ℕ) → StandsNext most s input (next_in most s input)
