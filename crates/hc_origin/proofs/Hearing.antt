-- What is made of an event of a connection that is open.
--
-- Bytes come to a reader, if one is kept (`ReadsOn`): then the request goes on, is whole or is refused. Where none is
-- kept the connection is answered already, and stays so. The same where it ends or breaks.
use Rattle.std.{proofs.Common.{◌≡◌, ℕ, List, Bool, false, eqb, Option, Some, None, Ok, Err, refl, inl, inr}, specs.Prelude.{Result, OnOk, drop}}
use Rattle.hc_text.specs.declared.memory.NoMemory.{NoMemory}
use Rattle.hc_head.specs.declared.message.{MsgError.{MsgError}, WireRequest.{WireRequest}}
use Rattle.hc_msg.specs.{declared.message.Taken.{Taken}, Inputs.{IsNextRequest, TakesNextRequest, next_in}, Reading.{Reading}}
use Rattle.hc_wire.specs.{Events.{Stage}, Logs.{Log}}
use Rattle.hc_origin.specs.{declared.origin.Origin.{Origin}, Coming.{Came}, Replies.{Unsent}, Keeping.{Follows, Keeps}, Going.{AreKept, GoesTo, HandlesTo, Hears, IsGot, IsTaken, ReadsOn, with_bytes}}
use Rattle.hc_origin.proofs.{Comings.{answer-more}, Steps.{answered-kept, read-asks, read-fails, read-on}}

-- the log is the one that was
pub stays-kept : (reports : Bool) (log : Log) (reported : Option Log) (stages : ℕ → Stage) (P : Log → Type 0) → Follows reports reported stages log →
    P log → GoesTo reports log reported stages P
stays-kept reports log reported stages P follows is = record { next = log; follows = follows; calls = refl; bound = refl; holds = is }

pub handles-kept : (reports : Bool) (origin : Origin) (log : Log) (reported : Option Log) (stages : ℕ → Stage) (result : Result (Unit {0}) NoMemory) →
    Follows reports reported stages log
    → OnOk result (AreKept origin log) → HandlesTo reports origin log reported stages result
handles-kept reports origin log reported stages (Ok done) follows is = stays-kept reports log reported stages (AreKept origin) follows is
handles-kept reports origin log reported stages (Err e) follows is = follows

-- BYTES

reads-none : (old new : Option Reading) (bytes : List ℕ) → ReadsOn old new bytes None → (old ≡ None) × (new ≡ None)
reads-none None new bytes is = (refl, is)
reads-none (Some s) None bytes is = absurd is
reads-none (Some s) (Some t) bytes is = absurd is

reads-some : (old new : Option Reading) (bytes : List ℕ) (result : Result (Taken WireRequest) MsgError) → ReadsOn old new bytes (Some result)
    → (s : Reading) × (t : Reading) × (old ≡ Some s) × (new ≡ Some t) × TakesNextRequest 1 s bytes result t
reads-some None new bytes result is = absurd is
reads-some (Some s) None bytes result is = absurd is
reads-some (Some s) (Some t) bytes result is = (s, t, refl, refl, is)

module _ (k : ℕ) (bytes : List ℕ) (before : Came) (log : Log) (asking new : ℕ → Option Reading) (owed : List Unsent)
    (hears : Hears k before (with_bytes bytes before) log asking owed)
    (same : (j : ℕ) → eqb j k ≡ false → new j ≡ asking j) where
  -- none is kept
  pub none-reads : ReadsOn (asking k) (new k) bytes None → Keeps log new owed
  none-reads own =
      let none = reads-none (asking k) (new k) bytes own in
      answered-kept k before (with_bytes bytes before) log asking new owed (λ text is. answer-more before bytes text is) hears none.0 none.1 same

  got-on : (s t : Reading) (used : ℕ) (got : Option WireRequest) → asking k ≡ Some s → new k ≡ Some t →
      IsNextRequest (next_in 1 s bytes) bytes used got t → IsGot k got log new owed
  got-on s t used None was now next = read-on k bytes before log asking new owed hears same s was t next now
  got-on s t used (Some request) was now next = read-asks k bytes before log asking new owed hears same s was request t (drop used bytes) next

  taken-on : (s t : Reading) (read : Result (Taken WireRequest) MsgError) → asking k ≡ Some s → new k ≡ Some t → TakesNextRequest 1 s bytes read t →
      IsTaken k read log new owed
  taken-on s t (Ok taken) was now next = got-on s t taken.used taken.got was now next
  taken-on s t (Err e) was now next = λ other. elim next [
    | inl memory ↦ absurd (other memory)
    | inr fails ↦ read-fails k bytes before log asking new owed hears same s was e fails
  ]

  -- one is
  pub some-reads : (read : Result (Taken WireRequest) MsgError) → ReadsOn (asking k) (new k) bytes (Some read) → IsTaken k read log new owed
  some-reads read own =
      let is = reads-some (asking k) (new k) bytes read own in taken-on is.0 is.1 read is.2 is.3 is.4

-- AN END
