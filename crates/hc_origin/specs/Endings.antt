-- What came of the test origin, by how it ended.
use Rattle.std.specs.Prelude.{◌≡◌, ◌≤◌, ◌⊎◌, ℕ, true, false, is_some, List, [], ◌++◌, length, Option, Some, None, IfSome, find}
use Rattle.hc_sched.specs.declared.schedule.Ended.{Ended}
use Rattle.hc_sched.specs.declared.schedule.Ended.TheVariants as ended
use Rattle.hc_wire.specs.Logs.{Called, Log, Taker, is_numbered}
use Rattle.hc_wire.specs.Following.{is_live}
use Rattle.hc_origin.specs.Coming.{Came, came_of, request_in}
use Rattle.hc_origin.specs.Answering.{IsAnswer}
use Rattle.hc_origin.specs.Turns.{AllFit}

-- the bytes are the first of a text
abbrev pub IsPrefix : List ℕ → List ℕ → Type 0
IsPrefix bytes text = (rest : List ℕ) × (bytes ++ rest ≡ text)

-- they are the first of the answer to the first request
pub record IsPrefixOfAnswer (came : Came) (sent : List ℕ) : Type 0 where
  pub text : List ℕ
  pub is : IsAnswer came text
  pub front : IsPrefix sent text

-- nothing was sent, or some of the answer
abbrev pub WasSent : Came → List ℕ → Type 0
WasSent came sent = (sent ≡ []) ⊎ IsPrefixOfAnswer came sent

-- Each call fits those before it, each connection was sent first bytes of its answer alone, and none was dialled.
pub record IsLog (log : Log) : Type 0 where
  pub fit : AllFit log.takers [] log.calls
  pub sent : (k : ℕ) → IfSome (find (is_numbered k) log.takers) (λ c. WasSent (came_of k log.calls) c.sent)
  pub dialled : log.dialled ≡ []

-- The answer was taken, or less of it than was offered since the last call.
pub record WasOffered (calls : List Called) (came : Came) (c : Taker) : Type 0 where
  pub text : List ℕ
  pub is : IsAnswer came text
  pub taken : (c.sent ≡ text) ⊎ (c.short ≡ Some (length calls))

-- where its request is whole
abbrev pub IsAnswered : List Called → Came → Taker → Type 0
IsAnswered calls came c = is_some (request_in came) ≡ true → WasOffered calls came c

-- Behind the last turn.
pub record IsFinished (log : Log) : Type 0 where
  pub answered : (k : ℕ) → IfSome (find (is_numbered k) log.takers) (IsAnswered log.calls (came_of k log.calls))
  pub closed : (k : ℕ) → is_live log.takers k ≡ false

pub data Answers (turns : ℕ) (log : Log) : Ended → Type 0 where
  done : IsLog log → IsFinished log → length log.calls ≡ turns → Answers turns log ended.Done
  unwired : IsLog log → length log.calls ≤ turns → Answers turns log ended.WireFailed
  wanting : IsLog log → length log.calls ≤ turns → Answers turns log ended.NoMemory

-- it made its turns, the wire failed, or memory was refused
abbrev pub MayEnd : Ended → Type 0
MayEnd ended.Done = Unit {0}
MayEnd (ended.Refused refused) = ⊥
MayEnd ended.SourceFailed = ⊥
MayEnd ended.SinkFailed = ⊥
MayEnd ended.WireFailed = Unit {0}
MayEnd ended.NoMemory = Unit {0}

-- Nothing was called but `bind`.
pub record IsFresh (log : Log) : Type 0 where
  pub uncalled : log.calls ≡ []
  pub undialled : log.dialled ≡ []
  pub untaken : log.takers ≡ []

-- the same of what the wire tells, if it tells anything: what was bound stays
abbrev pub AnswersAs : ℕ → Option Log → Option Log → Ended → Type 0
AnswersAs turns None reported end = reported ≡ None
AnswersAs turns (Some old) reported end = (log : Log) × (reported ≡ Some log) × Answers turns log end × (log.bound ≡ old.bound)
