-- A turn, from its call of `next` to its sending.
--
-- The log goes on by the call (`heard` of Places says what is kept behind it), by what its event brings and by what is
-- sent. Each of these goes on from the log that the one before it led to (`goes-on`). Where one stops the turn, the log
-- that it led to is one already.
use Rattle.std.{proofs.Common.{◌≡◌, ℕ, ◌+◌, ◌<◌, ◌≤◌, List, [], ◌∷◌, ◌++◌, length, Bool, true, false, Option, Ok, Err, refl, sym, ap, subst, ◌∙◌, arith, length-append}, specs.Prelude.{Result, IsErrAnd}}
use Rattle.hc_wire.specs.{declared.event.WireEvent.{WireEvent}, Events.{Stage, IsOpen}, Logs.{Log, with_call, standings_in}}
use Rattle.hc_msg.specs.Reading.{Reading}
use Rattle.hc_origin.specs.{declared.{origin.Origin.{Origin}, stop.Stop.{Stop}}, Endings.{IsLog}, Replies.{Offers, Sends, Unsent}, Keeping.{Follows, Rests}, Going.{GoesTo, Heard, OffersTo, SendsTo, TurnsTo}}
use Rattle.hc_origin.proofs.Places.{heard-log, keeps-log}

pub goes-on : (reports : Bool) (log : Log) (reported new : Option Log) (stages next : ℕ → Stage) (P Q : Log → Type 0) → GoesTo reports log reported stages P
    → ((l : Log) → Follows reports reported stages l → P l → GoesTo reports l new next Q) → GoesTo reports log new next Q
goes-on reports log reported new stages next P Q goes more =
    let is = more goes.next goes.follows goes.holds in
    record { next = is.next; follows = is.follows; calls = is.calls ∙ goes.calls; bound = is.bound ∙ goes.bound; holds = is.holds }

-- WHAT IS SENT

pub offers-true : (reported mid : Option Log) (u v : Unsent) (b : Bool) → Offers reported mid u v (Ok b) → b ≡ true →
    Sends reported mid u.k u.bytes v.bytes false × (v.bytes ≡ [])
offers-true reported mid u v true is on = is
offers-true reported mid u v false is on = absurd (cc)

pub offers-false : (reported mid : Option Log) (u v : Unsent) (b : Bool) → Offers reported mid u v (Ok b) → b ≡ false →
    Sends reported mid u.k u.bytes v.bytes true × (0 < length v.bytes)
offers-false reported mid u v true is off = absurd (cc)
offers-false reported mid u v false is off = is

pub stops-offer : (reports : Bool) (origin : Origin) (log : Log) (reported : Option Log) (stages : ℕ → Stage) (P : Stop → Type 0)
    (result : Result (Unit {0}) Stop) → IsErrAnd result P
    → GoesTo reports log reported stages IsLog → OffersTo reports origin log reported stages result
stops-offer reports origin log reported stages P (Ok done) stops is = absurd stops
stops-offer reports origin log reported stages P (Err e) stops is = is

-- A TURN

pub stops-turn : (reports : Bool) (origin : Origin) (log next : Log) (reported : Option Log) (stages : ℕ → Stage) (P : Stop → Type 0)
    (result : Result (Unit {0}) Stop) → IsErrAnd result P
    → Follows reports reported stages next → IsLog next → length next.calls ≤ length log.calls + 1 → next.bound ≡ log.bound → TurnsTo reports origin
    log reported stages result
stops-turn reports origin log next reported stages P (Ok done) stops follows is le bound = absurd stops
stops-turn reports origin log next reported stages P (Err e) stops follows is le bound = (next, follows, (is, le, bound))

one-more : (log : Log) (wait : Bool) (moment : ℕ) (what : WireEvent) (bytes : List ℕ) →
    length (with_call wait moment what bytes log).calls ≡ length log.calls + 1
one-more log wait moment what bytes =
    let len = length-append log.calls (record { wait = wait; moment = moment; event = what; bytes = bytes; standings = standings_in log } ∷ []) in omega arith

-- its call failed
pub uncalled-turn : (reports : Bool) (origin : Origin) (log : Log) (asking : ℕ → Option Reading) (owed : List Unsent) (reported new : Option Log)
    (stages next : ℕ → Stage) (P : Stop → Type 0) (result : Result (Unit {0}) Stop)
    → IsErrAnd result P → Follows reports reported stages log → Rests log asking owed → new ≡ reported → ((j : ℕ) → next j ≡ stages j) →
    TurnsTo reports origin log new next result
uncalled-turn reports origin log asking owed reported new stages next P result stops follows rests same stays =
    let here : Follows reports new next log = record {
      is_reported = same ∙ follows.is_reported;
      live = λ k is. follows.live k (subst IsOpen (stays k) is);
      unseen = λ k is. follows.unseen k (sym (stays k) ∙ is);
    } in
    stops-turn reports origin log log new next P result stops here (keeps-log log asking owed rests.keeps) (omega arith) refl

-- memory was refused behind it
pub unhandled-turn : (reports : Bool) (origin : Origin) (log : Log) (asking : ℕ → Option Reading) (owed : List Unsent) (moment : ℕ) (what : WireEvent)
    (bytes : List ℕ) (reported : Option Log) (stages : ℕ → Stage) (P : Stop → Type 0) (result : Result (Unit {0}) Stop)
    → IsErrAnd result P → Follows reports reported stages (with_call true moment what bytes log) →
    Heard what bytes (with_call true moment what bytes log) asking owed → TurnsTo reports origin log reported stages result
unhandled-turn reports origin log asking owed moment what bytes reported stages P result stops follows is =
    let more = one-more log true moment what bytes in
    stops-turn reports origin
    log (with_call true moment what bytes log) reported stages P result stops follows (heard-log what bytes _ asking owed is) (omega arith) refl

-- what its sending came to
pub sent-turn : (reports : Bool) (origin : Origin) (log next : Log) (moment : ℕ) (what : WireEvent) (bytes : List ℕ) (reported : Option Log)
    (stages : ℕ → Stage) (result : Result (Unit {0}) Stop)
    → SendsTo reports origin next reported stages result → next.calls ≡ (with_call true moment what bytes log).calls → next.bound ≡ log.bound →
    TurnsTo reports origin log reported stages result
sent-turn reports origin log next moment what bytes reported stages (Ok done) sends calls bound =
    (sends.next, sends.follows, (sends.holds, ap length (sends.calls ∙ calls) ∙ one-more log true moment what bytes, sends.bound ∙ bound))
sent-turn reports origin log next moment what bytes reported stages (Err e) sends calls bound =
    let len : length sends.next.calls ≡ length log.calls + 1 = ap length (sends.calls ∙ calls) ∙ one-more log true moment what bytes in
    (sends.next, sends.follows, (sends.holds, omega arith, sends.bound ∙ bound))
