-- Laws of messages.
use Rattle.std.specs.Prelude.{◌≡◌, ℕ, List, [], ◌++◌}
use Rattle.hc_head.specs.declared.message.MsgError.{MsgError}
use Rattle.hc_msg.specs.Reading.{Reading, Failed, Token, Leads}

-- bytes tell one list at most, and lead to one place at most
abbrev pub IsReadOneWay : Type 0
IsReadOneWay =
    (s : Reading) (text : List ℕ) (tokens more : List Token) (t u : Reading)
    → Leads s text tokens t → Leads s text more u → (tokens ≡ more) × (t ≡ u)

-- bytes tell what their pieces tell
pub record IsCut (s : Reading) (xs ys : List ℕ) (tokens : List Token) (t : Reading) : Type 0 where
  pub first : List Token
  pub second : List Token
  pub mid : Reading
  pub before : Leads s xs first mid
  pub behind : Leads mid ys second t
  pub whole : tokens ≡ first ++ second

abbrev pub IsReadPiecewise : Type 0
IsReadPiecewise =
    (s : Reading) (xs ys : List ℕ) (tokens : List Token) (t : Reading)
    → (Leads s (xs ++ ys) tokens t → IsCut s xs ys tokens t)
    × (IsCut s xs ys tokens t → Leads s (xs ++ ys) tokens t)

-- an error stays, whatever follows
abbrev pub StaysFailed : Type 0
StaysFailed = (e : MsgError) (text : List ℕ) → Leads (Failed e) text [] (Failed e)
