-- The connections to the origin: how one begins, and what is read of it.
use Rattle.std.specs.Prelude.{◌≡◌, ◌⊎◌, ℕ, List, [], ◌++◌, length, drop, Bool, true, false, Option, Some, None, Result, Ok, Err, ◌==◌, ◌||◌, not}
use Rattle.hc_head.specs.declared.message.MsgError.{MsgError}
use Rattle.hc_head.specs.declared.message.MsgError.TheVariants as error
use Rattle.hc_msg.specs.declared.message.WirePart.{WirePart}
use Rattle.hc_msg.specs.declared.message.WirePart.TheVariants as part
use Rattle.hc_msg.specs.Inputs.{Next, Waits, Reports, Brings, Ends, Fails, next_in}
use Rattle.hc_msg.specs.Reading.{Reading, Responses, Done, Failed, Answers, heading}
use Rattle.hc_msg.specs.Taking.{is_whole, reading_at_end}
use Rattle.hc_peers.specs.declared.upstream.Upstream.{Upstream}

-- one of which nothing came, and which is owed these bytes
abbrev pub new_upstream : ℕ → Bool → List ℕ → Upstream
new_upstream k no_body bytes = record {
  k = k;
  reader = heading (Responses no_body);
  input = [];
  unsent = bytes;
  ended = false;
  reading = true;
}

abbrev pub received : List ℕ → Upstream → Upstream
received bytes upstream = record upstream { input = upstream.input ++ bytes }

abbrev pub at_its_end : Upstream → Upstream
at_its_end upstream = record upstream { ended = true }

-- what came of it is read to the end of the connection
abbrev pub finished : Upstream → Upstream
finished upstream = record upstream { reader = reading_at_end upstream.reader }

-- bytes came of it, or its end, or its message is whole: a part may stand there
abbrev pub has_news : Upstream → Bool
has_news upstream = not (length upstream.input == 0) || upstream.ended || is_whole upstream.reader

-- what stands next, of a body at most 16,384 bytes
abbrev pub next_of : Upstream → Next
next_of upstream = next_in 16384 upstream.reader upstream.input

abbrev pub read_to : Reading → List ℕ → Upstream → Upstream
read_to reading rest upstream = record upstream { reader = reading; input = rest }

-- what is left of so many bytes used with a part: behind the end, and where more is waited for, nothing
abbrev pub left_behind : Option WirePart → ℕ → List ℕ → List ℕ
left_behind (Some (part.Head response)) used input = drop used input
left_behind (Some (part.Piece bytes)) used input = drop used input
left_behind (Some part.End) used input = []
left_behind None used input = []

-- what stands next is read
abbrev pub IsTaken : Next → Upstream → Upstream → Result (Option WirePart) MsgError → Type 0
IsTaken (Waits reading) old new result = (result ≡ Ok None) × (new ≡ read_to reading [] old)
IsTaken (Reports (Answers response) reading rest) old new result =
    (result ≡ Ok (Some (part.Head response))) × (new ≡ read_to reading rest old)
IsTaken (Brings bytes reading rest) old new result =
    (result ≡ Ok (Some (part.Piece bytes))) × (new ≡ read_to reading rest old)
IsTaken Ends old new result = (result ≡ Ok (Some part.End)) × (new ≡ read_to Done [] old)
IsTaken (Fails e) old new result = (result ≡ Err e) × (new ≡ read_to (Failed e) [] old)
IsTaken _ old new result = ⊥

-- or memory was refused
abbrev pub Takes : Upstream → Upstream → Result (Option WirePart) MsgError → Type 0
Takes old new result = (result ≡ Err error.NoMemory) ⊎ IsTaken (next_of old) old new result
