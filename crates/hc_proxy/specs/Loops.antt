-- What a log says of the loop that made it: at each call of `next` it did what the turns before owe.
use Rattle.std.specs.Prelude.{◌≡◌, ◌≤◌, length, ℕ, List, [], ◌∷◌, true, Option}
use Rattle.hc_wire.specs.Logs.{Called, Log}
use Rattle.hc_rules.specs.declared.room.Limits.{Limits}
use Rattle.hc_proxy.specs.Connections.{dials_from}
use Rattle.hc_proxy.specs.Listening.{reads_right}
use Rattle.hc_proxy.specs.Rows.{Proxy, Setting, unused}
use Rattle.hc_proxy.specs.Sending.{sends_right}
use Rattle.hc_proxy.specs.Standings.{stand_right}
use Rattle.hc_proxy.specs.Turns.{so_far, turned, behind_all, record_of}
use Rattle.hc_proxy.specs.Waiting.{waits}

-- A call fits the tables before it.
pub record Fits (limits : Limits) (dialled : List (Option ℕ)) (p : Proxy) (call : Called) : Type 0 where
  pub few : length call.bytes ≤ 16384
  pub wait : call.wait ≡ waits limits p
  pub stands : stand_right call (so_far p dialled) p ≡ true
  pub reads : reads_right call (so_far p dialled) p ≡ true
  pub sends : sends_right call (so_far p dialled) p ≡ true

-- Each call fits those before it.
abbrev pub AllFit : Limits → List (Option ℕ) → Proxy → List Called → Type 0
AllFit limits dialled p [] = Unit {0}
AllFit limits dialled p (call ∷ calls) =
    Fits limits dialled p call × AllFit limits dialled (turned limits dialled call p) calls

-- The log is one of the loop over a store that began with these contents, and this is its record.
pub record Loop (limits : Limits) (setting : Setting) (log : Log) (record_text : List ℕ) : Type 0 where
  pub fit : AllFit limits (dials_from setting log.dialled) (unused setting) log.calls
  pub text_is : record_text ≡ record_of (behind_all limits setting log)
