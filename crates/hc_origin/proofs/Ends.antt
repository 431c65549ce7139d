-- The first turn, and behind the last one.
--
-- A fresh log has nobody, so nothing need be kept (`fresh-rests`). Behind the last turn the log says what each connection
-- was sent and that what is lacking was offered (`rests-ending`), and to close one changes none of that (`closes-one`).
-- Once nothing is kept, nobody is open (`nobody-left`).
use Rattle.std.{proofs.Common.{◌≡◌, ℕ, ◌+◌, ◌<◌, ◌≤◌, List, [], ◌∷◌, ◌++◌, length, Bool, true, false, eqb, Option, Some, None, Ok, Err, refl, sym, ap, subst, ◌∙◌, inl, inr, arith}, specs.{Prelude.{Result, IsErrAnd, find, is_some, IfSome}, Option.{option_map}}}
use Rattle.hc_text.proofs.Basics.{asked_none}
use Rattle.hc_sched.specs.declared.schedule.Ended.{Ended}
use Rattle.hc_sched.specs.declared.schedule.Ended.TheVariants as ended
use Rattle.hc_origin.specs.{declared.{origin.Origin.{Origin}, stop.Stop.{Stop}}, Stops.{ended_as}, Coming.{Came, came_of, request_in}, Turns.{Closes, refused, cut_off, answered}, Endings.{Answers, done, unwired, wanting, AnswersAs, IsAnswered, IsFresh, IsLog, WasSent}, Replies.{Unsent, unsent_in}, Keeping.{Follows, IsLacking, PlaceOf, Rests, nothing, reported_as}, Going.{GoesTo, IsEnding, IsOver, TurnsTo, asking_in, nobody}}
use Rattle.hc_origin.specs.declared.stop.Stop.TheVariants as stop
use Rattle.hc_wire.specs.{Events.{Stage, IsOpen, closed_of, with_stage}, Following.{live_from}, Logs.{Called, Log, Taker, Reports, changed_at, empty_log, is_numbered, shut, with_closed}}
use Rattle.hc_msg.specs.Reading.{Reading}
use Rattle.hc_origin.proofs.{Comings.{cut-none, refused-none, waits-none}, Fitting.{all-later, later-shut}, Places.{at_or, keeps-log}, Steps.{follows-closed}, Takers.{apart_sym, find-changed, find-other}, Unsents.{others-with}}

-- THE BEGINNING

-- whether the wire tells its log
abbrev pub reports_of : Option Log → Bool
reports_of reported = is_some reported

abbrev pub log_of : Option Log → Log
log_of None = empty_log
log_of (Some log) = log

pub fresh-follows : (reported : Option Log) (stages : ℕ → Stage) → IfSome reported IsFresh → ((k : ℕ) → IsOpen (stages k) → ⊥) →
    Follows (reports_of reported) reported stages (log_of reported)
fresh-follows None stages is shut = record { is_reported = refl; live = λ k is_open. absurd (shut k is_open); unseen = λ k unseen. refl }
fresh-follows (Some log) stages is shut = record {
  is_reported = refl;
  live = λ k is_open. absurd (shut k is_open);
  unseen = λ k unseen. subst (λ (cs : List Taker). find (is_numbered k) cs ≡ None) (sym is.untaken) refl;
}

empty-rests : (asking : ℕ → Option Reading) → ((k : ℕ) → asking k ≡ None) → (log : Log) → log.calls ≡ [] → log.dialled ≡ [] → log.takers ≡ [] →
    Rests log asking []
empty-rests asking none log uncalled undialled untaken =
    subst (λ (cs : List Called). Rests (record log { calls = cs }) asking []) (sym uncalled)
    (subst (λ (cs : List Taker). Rests (record log { calls = []; takers = cs }) asking []) (sym untaken) (record {
      keeps = record {
        places = λ k. subst (λ (r : Option Reading). PlaceOf false nothing None r None) (sym (none k)) (record { unaccepted = refl; nothing_came = refl });
        apart = tt;
        fit = tt;
        dialled = undialled;
        once = tt;
      };
      lacking = λ k. tt;
    }))

pub fresh-rests : (reported : Option Log) (asking : ℕ → Option Reading) (owed : List Unsent) → IfSome reported IsFresh → ((k : ℕ) → asking k ≡ None) →
    owed ≡ [] → Rests (log_of reported) asking owed
fresh-rests None asking owed is none nothing_owed =
    subst (λ (us : List Unsent). Rests empty_log asking us) (sym nothing_owed) (empty-rests asking none empty_log refl refl refl)
fresh-rests (Some log) asking owed is none nothing_owed =
    subst (λ (us : List Unsent). Rests log asking us) (sym nothing_owed) (empty-rests asking none log is.uncalled is.undialled is.untaken)

pub fresh-calls : (reported : Option Log) → IfSome reported IsFresh → length (log_of reported).calls ≡ 0
fresh-calls None is = refl
fresh-calls (Some log) is = ap length is.uncalled

-- THE END

closes-answered : (calls : List Called) (came : Came) (c : Taker) → Closes came c.sent → IsAnswered calls came c
closes-answered calls came c (refused is none) = λ asked. absurd (asked_none (request_in came) asked (refused-none came is))
closes-answered calls came c (cut_off is none) = λ asked. absurd (asked_none (request_in came) asked (cut-none came is))
closes-answered calls came c (answered is) = λ asked. record { text = c.sent; is = is; taken = inl refl }

answered-of : (calls : List Called) (a : Bool) (came : Came) (o : Option Taker) (r : Option Reading) (u : Option (List ℕ))
    → PlaceOf a came o r u → IfSome u (IsLacking (length calls) o) → IfSome o (IsAnswered calls came)
answered-of calls a came None r u is lacking = tt
answered-of calls a came (Some c) None None is lacking = closes-answered calls came c is.cause
answered-of calls a came (Some c) None (Some bytes) is lacking = λ asked. record { text = c.sent ++ bytes; is = is.is; taken = inr lacking.1 }
answered-of calls a came (Some c) (Some reading) None is lacking = λ asked. absurd (asked_none (request_in came) asked (waits-none came reading is.waits))
answered-of calls a came (Some c) (Some reading) (Some bytes) is lacking = absurd is

shut-of : (a : Bool) (came : Came) (o : Option Taker) (r : Option Reading) (u : Option (List ℕ)) → PlaceOf a came o r u → r ≡ None → u ≡ None →
    live_from o ≡ false
shut-of a came None r u is none unowed = refl
shut-of a came (Some c) None None is none unowed = is.shut
shut-of a came (Some c) None (Some bytes) is none unowed = absurd (cc)
shut-of a came (Some c) (Some reading) u is none unowed = absurd (cc)

pub rests-ending : (log : Log) (asking : ℕ → Option Reading) (owed : List Unsent) → Rests log asking owed → IsEnding log asking owed
rests-ending log asking owed rests = record {
  is_log = keeps-log log asking owed rests.keeps;
  answered = λ k. answered-of log.calls _ _ _ _ _ (rests.keeps.places k) (rests.lacking k);
  kept = λ k none unowed. shut-of _ _ _ _ _ (rests.keeps.places k) none unowed;
}

-- what was sent and offered stays where one is closed
sent-shut : (came : Came) (o : Option Taker) → IfSome o (λ c. WasSent came c.sent) → IfSome (option_map shut o) (λ c. WasSent came c.sent)
sent-shut came None is = is
sent-shut came (Some c) is = is

answered-shut : (calls : List Called) (came : Came) (o : Option Taker) → IfSome o (IsAnswered calls came) → IfSome (option_map shut o) (IsAnswered calls came)
answered-shut calls came None is = is
answered-shut calls came (Some c) is = λ asked. let was = is asked in record { text = was.text; is = was.is; taken = was.taken }

live-shut : (o : Option Taker) → live_from (option_map shut o) ≡ false
live-shut None = refl
live-shut (Some c) = refl

closed-log : (k : ℕ) (log : Log) → IsLog log → IsLog (with_closed k log)
closed-log k log is = record {
  fit = all-later log.takers (changed_at k shut log.takers) [] log.calls (later-shut k log.takers) is.fit;
  sent = λ j. at_or k j (λ n. IfSome (find (is_numbered n) (changed_at k shut log.takers)) (λ c. WasSent (came_of n log.calls) c.sent))
      (subst (λ (o : Option Taker). IfSome o (λ c. WasSent (came_of k log.calls) c.sent)) (sym (find-changed k shut (λ c. refl) log.takers))
      (sent-shut (came_of k log.calls) (find (is_numbered k) log.takers) (is.sent k)))
      (λ off. subst (λ (o : Option Taker). IfSome o (λ c. WasSent (came_of j log.calls) c.sent)) (sym (find-other k shut (λ c. refl) log.takers j off))
      (is.sent j));
  dialled = is.dialled;
}

ending-closed : (k : ℕ) (log : Log) (asking new : ℕ → Option Reading) (owed left : List Unsent) → IsEnding log asking owed
    → ((j : ℕ) → eqb j k ≡ false → new j ≡ asking j) → ((j : ℕ) → eqb j k ≡ false → unsent_in left j ≡ unsent_in owed j) → IsEnding (with_closed k log) new left
ending-closed k log asking new owed left is same stays = record {
  is_log = closed-log k log is.is_log;
  answered = λ j. at_or k j (λ n. IfSome (find (is_numbered n) (changed_at k shut log.takers)) (IsAnswered log.calls (came_of n log.calls)))
      (subst (λ (o : Option Taker). IfSome o (IsAnswered log.calls (came_of k log.calls))) (sym (find-changed k shut (λ c. refl) log.takers))
      (answered-shut log.calls (came_of k log.calls) (find (is_numbered k) log.takers) (is.answered k)))
      (λ off. subst (λ (o : Option Taker). IfSome o (IsAnswered log.calls (came_of j log.calls))) (sym (find-other k shut (λ c. refl) log.takers j off))
      (is.answered j));
  kept = λ j none unowed. at_or k j (λ n. live_from (find (is_numbered n) (changed_at k shut log.takers)) ≡ false)
      (ap live_from (find-changed k shut (λ c. refl) log.takers) ∙ live-shut (find (is_numbered k) log.takers))
      (λ off. ap live_from (find-other k shut (λ c. refl) log.takers j off) ∙ is.kept j (sym (same j off) ∙ none) (sym (stays j off) ∙ unowed));
}

-- one more is closed
pub closes-one : (reports : Bool) (reported new : Option Log) (stages next : ℕ → Stage) (first log : Log) (k : ℕ)
    (asking left_asking : ℕ → Option Reading) (owed left : List Unsent)
    → Follows reports reported stages log → log.calls ≡ first.calls → log.bound ≡ first.bound → IsEnding log asking owed
    → ((j : ℕ) → eqb j k ≡ false → left_asking j ≡ asking j) → ((j : ℕ) → eqb j k ≡ false → unsent_in left j ≡ unsent_in owed j)
    → Reports reported new (with_closed k) → ((j : ℕ) → next j ≡ with_stage k (closed_of (stages k)) stages j)
    → GoesTo reports first new next (λ l. IsEnding l left_asking left)
closes-one reports reported new stages next first log k asking left_asking owed left follows calls bound is same stays more after = record {
  next = with_closed k log;
  follows = follows-closed reports reported new stages next log follows k more after;
  calls = calls;
  bound = bound;
  holds = ending-closed k log asking left_asking owed left is same stays;
}

-- the last of those that lack bytes is
pub pops-one : (reports : Bool) (reported new : Option Log) (stages next : ℕ → Stage) (log : Log) (own : ℕ) (asking : ℕ → Option Reading)
    (all left : List Unsent) (u : Unsent)
    → all ≡ left ++ u ∷ [] → own ≡ u.k → Follows reports reported stages log → IsEnding log asking all
    → Reports reported new (with_closed own) → ((j : ℕ) → next j ≡ with_stage own (closed_of (stages own)) stages j) →
    GoesTo reports log new next (λ l. IsEnding l asking left)
pops-one reports reported new stages next log own asking all left u whole same follows is more after =
    closes-one reports reported new stages next log log own asking asking all left follows refl refl is (λ j off. refl)
    (λ j off. sym (ap (λ (us : List Unsent). unsent_in us j) whole ∙ others-with left u j (ap (λ (n : ℕ). eqb n j) (sym same) ∙ apart_sym j own off)))
    more after

pub ending-nobody : (log : Log) (asking : ℕ → Option Reading) (owed : List Unsent) → IsEnding log asking owed → ((k : ℕ) → asking k ≡ None) →
    IsEnding log nobody owed
ending-nobody log asking owed is none = record { is_log = is.is_log; answered = is.answered; kept = λ k never unowed. is.kept k (none k) unowed }

pub nobody-left : (log : Log) (asking : ℕ → Option Reading) (owed : List Unsent) → IsEnding log asking owed → ((k : ℕ) → asking k ≡ None) → owed ≡ [] →
    IsOver log
nobody-left log asking owed is none nothing_owed =
    (is.is_log, record { answered = is.answered; closed = λ k. is.kept k (none k) (ap (λ (us : List Unsent). unsent_in us k) nothing_owed) })

-- WHAT IS TOLD

-- the log that the turns began with
abbrev pub Began : Option Log → Bool → Log → Type 0
Began None reports log = reports ≡ false
Began (Some old) reports log = (reports ≡ true) × (log.bound ≡ old.bound)

pub began : (reported : Option Log) → Began reported (reports_of reported) (log_of reported)
began None = refl
began (Some log) = (refl, refl)

pub began-on : (reported : Option Log) (reports : Bool) (log next : Log) → Began reported reports log → next.bound ≡ log.bound → Began reported reports next
began-on None reports log next is bound = is
began-on (Some old) reports log next is bound = (is.0, bound ∙ is.1)

pub answers-as : (turns : ℕ) (old reported : Option Log) (reports : Bool) (stages : ℕ → Stage) (log : Log) (end : Ended) → Began old reports log →
    Follows reports reported stages log → Answers turns log end
    → AnswersAs turns old reported end
answers-as turns None reported reports stages log end is follows answers = follows.is_reported ∙ ap (λ (b : Bool). reported_as b log) is
answers-as turns (Some old) reported reports stages log end is follows answers =
    (log, follows.is_reported ∙ ap (λ (b : Bool). reported_as b log) is.0, answers, is.1)

-- So many turns were made.
pub record IsTurning (old reported : Option Log) (stages : ℕ → Stage) (asking : ℕ → Option Reading) (owed : List Unsent) (n : ℕ) : Type 0 where
  pub reports : Bool
  pub log : Log
  pub since : Began old reports log
  pub follows : Follows reports reported stages log
  pub rests : Rests log asking owed
  pub count : length log.calls ≡ n

pub turning-none : (reported : Option Log) (stages : ℕ → Stage) (asking : ℕ → Option Reading) (owed : List Unsent) → IfSome reported IsFresh →
    ((k : ℕ) → IsOpen (stages k) → ⊥)
    → ((k : ℕ) → asking k ≡ None) → owed ≡ [] → IsTurning reported reported stages asking owed 0
turning-none reported stages asking owed is shut none nothing_owed = record {
  reports = reports_of reported;
  log = log_of reported;
  since = began reported;
  follows = fresh-follows reported stages is shut;
  rests = fresh-rests reported asking owed is none nothing_owed;
  count = fresh-calls reported is;
}

-- one more
pub turning-more : (old reported new : Option Log) (stages next : ℕ → Stage) (origin after : Origin) (n : ℕ) →
    (is : IsTurning old reported stages (asking_in origin) origin.answering.items n)
    → TurnsTo is.reports after is.log new next (Ok tt) → IsTurning old new next (asking_in after) after.answering.items (n + 1)
turning-more old reported new stages next origin after n is turns = record {
  reports = is.reports;
  log = turns.0;
  since = began-on old is.reports is.log turns.0 is.since turns.2.2;
  follows = turns.1;
  rests = turns.2.0;
  count = turns.2.1 ∙ ap (λ (m : ℕ). m + 1) is.count;
}

-- a turn is stopped
pub turning-stops : (old reported new : Option Log) (stages next : ℕ → Stage) (origin after : Origin) (n turns : ℕ) (e : Stop) (P : Stop → Type 0)
    (result : Result (Unit {0}) Stop)
    → (is : IsTurning old reported stages (asking_in origin) origin.answering.items n) → n < turns → TurnsTo is.reports after is.log new next (Err e)
    → IsErrAnd result P → AnswersAs turns old new (ended_as result)
turning-stops old reported new stages next origin after n turns e P (Ok made) is lt stops err = absurd err
turning-stops old reported new stages next origin after n turns e P (Err stop.WireFailed) is lt stops err =
    let le : length stops.0.calls ≤ turns = let most = stops.2.1 in let count = is.count in omega arith in
    answers-as turns old new is.reports next stops.0 ended.WireFailed (began-on old is.reports is.log stops.0 is.since stops.2.2) stops.1 (unwired stops.2.0 le)
turning-stops old reported new stages next origin after n turns e P (Err stop.NoMemory) is lt stops err =
    let le : length stops.0.calls ≤ turns = let most = stops.2.1 in let count = is.count in omega arith in
    answers-as turns old new is.reports next stops.0 ended.NoMemory (began-on old is.reports is.log stops.0 is.since stops.2.2) stops.1 (wanting stops.2.0 le)

-- all were made, and all are closed
pub turning-ends : (old reported new : Option Log) (stages next : ℕ → Stage) (asking : ℕ → Option Reading) (owed : List Unsent) (n turns : ℕ) →
    (is : IsTurning old reported stages asking owed n) → n ≡ turns
    → ((reports : Bool) (log : Log) → Follows reports reported stages log → IsEnding log asking owed → GoesTo reports log new next IsOver) →
    AnswersAs turns old new ended.Done
turning-ends old reported new stages next asking owed n turns is all closes =
    let goes = closes is.reports is.log is.follows (rests-ending is.log asking owed is.rests) in
    answers-as turns old new is.reports next goes.next ended.Done (began-on old is.reports is.log goes.next is.since goes.bound) goes.follows
    (done goes.holds.0 goes.holds.1 (ap length goes.calls ∙ (is.count ∙ all)))

-- nothing was called
pub turning-not : (reported : Option Log) (stages : ℕ → Stage) (turns : ℕ) (P : Stop → Type 0) (result : Result (Unit {0}) Stop) →
    IfSome reported IsFresh → ((k : ℕ) → IsOpen (stages k) → ⊥)
    → IsErrAnd result P → AnswersAs turns reported reported (ended_as result)
turning-not reported stages turns P (Ok made) is shut err = absurd err
turning-not reported stages turns P (Err stop.WireFailed) is shut err =
    let rests = fresh-rests reported nobody [] is (λ k. refl) refl in
    let none = fresh-calls reported is in
    answers-as turns reported reported (reports_of reported) stages (log_of reported) ended.WireFailed (began reported)
    (fresh-follows reported stages is shut) (unwired (keeps-log (log_of reported) nobody [] rests.keeps) (omega arith))
turning-not reported stages turns P (Err stop.NoMemory) is shut err =
    let rests = fresh-rests reported nobody [] is (λ k. refl) refl in
    let none = fresh-calls reported is in
    answers-as turns reported reported (reports_of reported) stages (log_of reported) ended.NoMemory (began reported)
    (fresh-follows reported stages is shut) (wanting (keeps-log (log_of reported) nobody [] rests.keeps) (omega arith))
