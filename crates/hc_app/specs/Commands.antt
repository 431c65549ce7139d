-- The words that are a command.
use Rattle.std.specs.Prelude.{◌≡◌, ℕ, ◌≤◌, List, [], ◌∷◌, codes}
use Rattle.hc_text.specs.Numbers.{IsPlain}
use Rattle.hc_wire.specs.declared.event.Address.{Address}
use Rattle.hc_app.specs.Addresses.{IsAddress}
use Rattle.hc_app.specs.declared.command.Command.{Command}
use Rattle.hc_app.specs.declared.command.Command.TheVariants as command

-- what the words ask for
pub data IsCommand (words : List (List ℕ)) : Command → Type 0 where
  replay : words ≡ codes "replay" ∷ [] → IsCommand words command.Replay
  save : words ≡ codes "save" ∷ [] → IsCommand words command.Save
  reopen : words ≡ codes "open" ∷ [] → IsCommand words command.Open
  conditional : words ≡ codes "conditional" ∷ [] → IsCommand words command.Conditional
  -- the seed, and how many rounds there are
  generate : (first second : List ℕ) (seed count : ℕ) →
      words ≡ codes "generate" ∷ first ∷ second ∷ [] → IsPlain first seed → IsPlain second count →
      count ≤ 1000000 → IsCommand words (command.Generate seed count)
  -- where clients are listened to, and how many turns are made
  origin : (first second : List ℕ) (listen : Address) (turns : ℕ) →
      words ≡ codes "origin" ∷ first ∷ second ∷ [] → IsAddress first listen →
      IsPlain second turns → IsCommand words (command.Origin listen turns)
  -- where clients are listened to, where the origin is, and how many turns are made
  serve : (first second third : List ℕ) (listen origin : Address) (turns : ℕ) →
      words ≡ codes "serve" ∷ first ∷ second ∷ third ∷ [] → IsAddress first listen →
      IsAddress second origin → IsPlain third turns →
      IsCommand words (command.Serve listen origin turns)

-- they ask for nothing that the program does
abbrev pub IsNoCommand : List (List ℕ) → Type 0
IsNoCommand words = (command : Command) → ¬ IsCommand words command

-- by what they might ask for in three words
abbrev pub IsNoGeneration : List (List ℕ) → Type 0
IsNoGeneration words = (seed count : ℕ) → ¬ IsCommand words (command.Generate seed count)

abbrev pub IsNoOrigin : List (List ℕ) → Type 0
IsNoOrigin words = (listen : Address) (turns : ℕ) → ¬ IsCommand words (command.Origin listen turns)
