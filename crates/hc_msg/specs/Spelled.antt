-- What messages tell has a spelling in a schedule.
use Rattle.std.specs.Prelude.{ℕ, ◌<◌, ◌≤◌, List, length, All, IfSome, Result, Ok, Err}
use Rattle.hc_head.specs.declared.message.MsgError.{MsgError}
use Rattle.hc_head.specs.Spellings.{IsSpelledRequest, IsSpelledResponse}
use Rattle.hc_msg.specs.declared.message.Taken.{Taken}
use Rattle.hc_msg.specs.declared.message.WirePart.{WirePart}
use Rattle.hc_msg.specs.declared.message.WirePart.TheVariants as part
use Rattle.hc_msg.specs.Reading.{Reading, Token, Asks, Answers, Byte, Leads}

abbrev pub IsSpelled : Token → Type 0
IsSpelled (Asks request) = IsSpelledRequest request.request
IsSpelled (Answers response) = IsSpelledResponse response
IsSpelled (Byte b) = Unit {0}

-- all that bytes tell, wherever the reading stands
abbrev pub TokensAreSpelled : Type 0
TokensAreSpelled =
    (s : Reading) (text : List ℕ) (tokens : List Token) (t : Reading)
    → Leads s text tokens t → All IsSpelled tokens

-- a part: a piece has at least one byte, and at most so many
abbrev pub IsSpelledPart : ℕ → WirePart → Type 0
IsSpelledPart most (part.Head response) = IsSpelledResponse response
IsSpelledPart most (part.Piece bytes) = (0 < length bytes) × (length bytes ≤ most)
IsSpelledPart most part.End = Unit {0}

-- what is given, if anything
abbrev pub GivesSpelled : {A : Type 0} → (A → Type 0) → Result (Taken A) MsgError → Type 0
GivesSpelled IsGood (Ok taken) = IfSome taken.got IsGood
GivesSpelled IsGood (Err e) = Unit {0}
