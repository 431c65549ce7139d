-- Each step keeps what is kept.
--
-- A log is followed through each call of the wire (`follows-call`, `follows-closed`, `follows-sent`). A new connection
-- asks (`accepted-kept`). Of one that asks, its bytes are read on, its request is whole or it leaves (`read-..`,
-- `asked-kept`, `left-kept`). One that is answered took some bytes (`sent-kept`), and is closed once it took all.
use Rattle.std.{proofs.{Common.{◌≡◌, ℕ, List, [], ◌∷◌, ◌++◌, length, Bool, true, false, eqb, Option, Some, None, refl, sym, ap, subst, ◌∙◌}, lemmas.Bool.{eq-eqb}}, specs.{Prelude.{find, ◌&&◌}, Option.{option_map}}}
use Rattle.hc_event.specs.declared.event.Request.{Request}
use Rattle.hc_head.specs.declared.message.{MsgError.{MsgError}, WireRequest.{WireRequest}}
use Rattle.hc_wire.specs.{declared.event.WireEvent.{WireEvent}, Events.{Stage, Unseen, Open, Closed, Fresh, IsOfOpen, IsOpen, closed_of, ended_of, stages_after, with_stage}, Following.{is_live, live_from}, Logs.{Log, Taker, Reports, changed_at, fresh, is_numbered, over, shut, taking, with_call, with_closed, with_sent}}
use Rattle.hc_wire.specs.declared.event.WireEvent.TheVariants as event
use Rattle.hc_msg.specs.{Inputs.{Waits, Reports as Reported, Fails, next_in}, Reading.{Reading, Requests, Asks as AsksFor, heading}}
use Rattle.hc_origin.specs.{Coming.{Came, came_of, first_in, is_accepted, is_failing, request_from}, Answering.{IsAnswer, Responds}, Turns.{Closes, refused}, Replies.{Unsent, unsent_in}, Keeping.{Follows, IsAsking, IsGone, IsOwing, Keeps, PlaceIn, PlaceOf, nothing, reported_as}, Going.{Asks, Hears, IsUnanswered, Leaves, Welcomes, with_bytes}}
use Rattle.hc_origin.proofs.{Comings.{waits-more}, Fitting.{all-later, later-shut}, Places.{at_or, others-asking, place-same, with-own}, Takers.{apart-changed, apart_sym, find-before, find-changed, find-last, find-other}, Unsents.{once-with, others-with, own-with}}

-- THE LOG

pub reported-more : (reports : Bool) (reported new : Option Log) (log : Log) (change : Log → Log) → reported ≡ reported_as reports log →
    Reports reported new change → new ≡ reported_as reports (change log)
reported-more true reported new log change is more = subst (λ (o : Option Log). Reports o new change) is more
reported-more false reported new log change is more = subst (λ (o : Option Log). Reports o new change) is more

-- by the number in hand, and the others
stage-at : (j k : ℕ) (s : Stage) (stages : ℕ → Stage) → eqb j k ≡ false → with_stage k s stages j ≡ stages j
stage-at j k s stages off = rw off refl

stage-own : (k : ℕ) (s : Stage) (stages : ℕ → Stage) → with_stage k s stages k ≡ s
stage-own k s stages = let own : eqb k k ≡ true = eq-eqb k k refl in rw own refl

never_open : (s : Stage) → IsOpen (closed_of s) → ⊥
never_open Unseen is = is
never_open (Open reads ended) is = is
never_open Closed is = is

was_unseen : (s : Stage) → closed_of s ≡ Unseen → s ≡ Unseen
was_unseen Unseen is = refl
was_unseen (Open reads ended) is = absurd (cc)
was_unseen Closed is = absurd (cc)

was_open : (s : Stage) → IsOpen (ended_of s) → IsOpen s
was_open Unseen is = is
was_open (Open reads ended) is = tt
was_open Closed is = is

ended_unseen : (s : Stage) → ended_of s ≡ Unseen → s ≡ Unseen
ended_unseen Unseen is = refl
ended_unseen (Open reads ended) is = absurd (cc)
ended_unseen Closed is = absurd (cc)

module _ (reports : Bool) (reported new : Option Log) (stages next : ℕ → Stage) (log : Log) (follows : Follows reports reported stages log) where
  -- nothing happens to the connections
  pub follows-same : (change : Log → Log) → (change log).takers ≡ log.takers → Reports reported new change → ((j : ℕ) → next j ≡ stages j) →
      Follows reports new next (change log)
  follows-same change same more stays = record {
    is_reported = reported-more reports reported new log change follows.is_reported more;
    live = λ j is. subst (λ (cs : List Taker). is_live cs j ≡ true) (sym same) (follows.live j (subst IsOpen (stays j) is));
    unseen = λ j is. subst (λ (cs : List Taker). find (is_numbered j) cs ≡ None) (sym same) (follows.unseen j (sym (stays j) ∙ is));
  }

  pub follows-closed : (k : ℕ) → Reports reported new (with_closed k) → ((j : ℕ) → next j ≡ with_stage k (closed_of (stages k)) stages j) →
      Follows reports new next (with_closed k log)
  follows-closed k more stays = record {
    is_reported = reported-more reports reported new log (with_closed k) follows.is_reported more;
    live = λ j. at_or k j (λ n. IsOpen (next n) → is_live (changed_at k shut log.takers) n ≡ true)
        (λ is. absurd (never_open (stages k) (subst IsOpen (stays k ∙ stage-own k (closed_of (stages k)) stages) is)))
        (λ off is. ap live_from (find-other k shut (λ c. refl) log.takers j off) ∙
        follows.live j (subst IsOpen (stays j ∙ stage-at j k (closed_of (stages k)) stages off) is));
    unseen = λ j. at_or k j (λ n. next n ≡ Unseen → find (is_numbered n) (changed_at k shut log.takers) ≡ None)
        (λ is. find-changed k shut (λ c. refl) log.takers ∙
        ap (option_map shut) (follows.unseen k (was_unseen (stages k) (sym (stays k ∙ stage-own k (closed_of (stages k)) stages) ∙ is))))
        (λ off is. find-other k shut (λ c. refl) log.takers j off ∙ follows.unseen j (sym (stays j ∙ stage-at j k (closed_of (stages k)) stages off) ∙ is));
  }

  live-taking : (bytes : List ℕ) (short : Bool) (n : ℕ) (o : Option Taker) → live_from o ≡ true → live_from (option_map (taking bytes short n) o) ≡ true
  live-taking bytes short n None is = is
  live-taking bytes short n (Some c) is = is

  pub follows-sent : (k : ℕ) (bytes : List ℕ) (short : Bool) → Reports reported new (with_sent k bytes short) → ((j : ℕ) → next j ≡ stages j) →
      Follows reports new next (with_sent k bytes short log)
  follows-sent k bytes short more stays =
      let n = length log.calls in record {
        is_reported = reported-more reports reported new log (with_sent k bytes short) follows.is_reported more;
        live = λ j. at_or k j (λ m. IsOpen (next m) → is_live (changed_at k (taking bytes short n) log.takers) m ≡ true)
            (λ is. ap live_from (find-changed k (taking bytes short n) (λ c. refl) log.takers)
            ∙ live-taking bytes short n (find (is_numbered k) log.takers) (follows.live k (subst IsOpen (stays k) is)))
            (λ off is. ap live_from (find-other k (taking bytes short n) (λ c. refl) log.takers j off) ∙ follows.live j (subst IsOpen (stays j) is));
        unseen = λ j. at_or k j (λ m. next m ≡ Unseen → find (is_numbered m) (changed_at k (taking bytes short n) log.takers) ≡ None)
            (λ is. find-changed k (taking bytes short n) (λ c. refl) log.takers ∙
            ap (option_map (taking bytes short n)) (follows.unseen k (sym (stays k) ∙ is)))
            (λ off is. find-other k (taking bytes short n) (λ c. refl) log.takers j off ∙ follows.unseen j (sym (stays j) ∙ is));
      }

  live-ended : (o : Option Taker) → live_from o ≡ true → live_from (option_map over o) ≡ true
  live-ended None is = is
  live-ended (Some c) is = is

  accept-live : (k j : ℕ) → ((i : ℕ) → next i ≡ with_stage k Fresh stages i) → stages k ≡ Unseen → IsOpen (next j) →
      is_live (log.takers ++ fresh k ∷ []) j ≡ true
  accept-live k j stays was = at_or k j (λ n. IsOpen (next n) → is_live (log.takers ++ fresh k ∷ []) n ≡ true)
      (λ is. ap live_from (find-last log.takers (fresh k) (follows.unseen k was)))
      (λ off is. ap live_from (find-before log.takers (fresh k) j (apart_sym j k off)) ∙
      follows.live j (subst IsOpen (stays j ∙ stage-at j k Fresh stages off) is))

  accept-unseen : (k j : ℕ) → ((i : ℕ) → next i ≡ with_stage k Fresh stages i) → next j ≡ Unseen → find (is_numbered j) (log.takers ++ fresh k ∷ []) ≡ None
  accept-unseen k j stays = at_or k j (λ n. next n ≡ Unseen → find (is_numbered n) (log.takers ++ fresh k ∷ []) ≡ None)
      (λ is. let h : Fresh ≡ Unseen = sym (stays k ∙ stage-own k Fresh stages) ∙ is in absurd (cc))
      (λ off is. find-before log.takers (fresh k) j (apart_sym j k off) ∙ follows.unseen j (sym (stays j ∙ stage-at j k Fresh stages off) ∙ is))

  end-live : (k j : ℕ) → ((i : ℕ) → next i ≡ with_stage k (ended_of (stages k)) stages i) → IsOpen (next j) → is_live (changed_at k over log.takers) j ≡ true
  end-live k j stays = at_or k j (λ n. IsOpen (next n) → is_live (changed_at k over log.takers) n ≡ true)
      (λ is. ap live_from (find-changed k over (λ c. refl) log.takers)
      ∙ live-ended (find (is_numbered k) log.takers)
      (follows.live k (was_open (stages k) (subst IsOpen (stays k ∙ stage-own k (ended_of (stages k)) stages) is))))
      (λ off is. ap live_from (find-other k over (λ c. refl) log.takers j off) ∙
      follows.live j (subst IsOpen (stays j ∙ stage-at j k (ended_of (stages k)) stages off) is))

  end-unseen : (k j : ℕ) → ((i : ℕ) → next i ≡ with_stage k (ended_of (stages k)) stages i) → next j ≡ Unseen →
      find (is_numbered j) (changed_at k over log.takers) ≡ None
  end-unseen k j stays = at_or k j (λ n. next n ≡ Unseen → find (is_numbered n) (changed_at k over log.takers) ≡ None)
      (λ is. find-changed k over (λ c. refl) log.takers ∙
      ap (option_map over) (follows.unseen k (ended_unseen (stages k) (sym (stays k ∙ stage-own k (ended_of (stages k)) stages) ∙ is))))
      (λ off is. find-other k over (λ c. refl) log.takers j off ∙ follows.unseen j (sym (stays j ∙ stage-at j k (ended_of (stages k)) stages off) ∙ is))

  pub follows-call : (moment : ℕ) (what : WireEvent) (bytes : List ℕ) → IsOfOpen what stages → Reports reported new (with_call true moment what bytes)
      → ((j : ℕ) → next j ≡ stages_after what stages j) → Follows reports new next (with_call true moment what bytes log)
  follows-call moment (event.Accepted k) bytes is more stays = record {
    is_reported = reported-more reports reported new log (with_call true moment (event.Accepted k) bytes) follows.is_reported more;
    live = λ j. accept-live k j stays is;
    unseen = λ j. accept-unseen k j stays;
  }
  follows-call moment (event.Got k n) bytes is more stays = follows-same (with_call true moment (event.Got k n) bytes) refl more stays
  follows-call moment (event.Ended k) bytes is more stays = record {
    is_reported = reported-more reports reported new log (with_call true moment (event.Ended k) bytes) follows.is_reported more;
    live = λ j. end-live k j stays;
    unseen = λ j. end-unseen k j stays;
  }
  follows-call moment (event.Broke k) bytes is more stays = follows-same (with_call true moment (event.Broke k) bytes) refl more stays
  follows-call moment (event.Room k) bytes is more stays = follows-same (with_call true moment (event.Room k) bytes) refl more stays
  follows-call moment event.Quiet bytes is more stays = follows-same (with_call true moment event.Quiet bytes) refl more stays

-- ONE THAT ASKS

first-nothing : first_in nothing ≡ Waits (heading Requests)
unfolding next_in
first-nothing = refl

pub accepted-kept : (k : ℕ) (log : Log) (asking new : ℕ → Option Reading) (owed : List Unsent) → Welcomes k log asking owed
    → new k ≡ Some (heading Requests) → ((j : ℕ) → eqb j k ≡ false → new j ≡ asking j) → Keeps log new owed
accepted-kept k log asking new owed welcomes own same =
    let is : IsAsking nothing (fresh k) (heading Requests) = record { live = refl; reads = refl; unsent = refl; unstopped = refl; waits = first-nothing } in
    with-own k log new owed (others-asking k log asking new owed same welcomes.others)
    (place-same (is_accepted k log.calls) _ _ _ _ _ (Some (heading Requests)) _ None _ refl (sym welcomes.came) (sym welcomes.taker) (sym own)
    (sym welcomes.unowed) is)

-- what an open one is kept as: it asks, or is answered
place-asks : (a : Bool) (came : Came) (o : Option Taker) (r : Option Reading) (u : Option (List ℕ)) (s : Reading) → PlaceOf a came o r u → r ≡ Some s
    → (c : Taker) × (o ≡ Some c) × (u ≡ None) × IsAsking came c s
place-asks a came None None u s is asks = absurd (cc)
place-asks a came None (Some r) u s is asks = absurd is
place-asks a came (Some c) None u s is asks = absurd (cc)
place-asks a came (Some c) (Some r) None s is asks = let same : r ≡ s = cc in (c, refl, refl, subst (λ (t : Reading). IsAsking came c t) same is)
place-asks a came (Some c) (Some r) (Some bytes) s is asks = absurd is

-- one that is answered stays so
place-answered : (a : Bool) (came now : Came) (o : Option Taker) (r : Option Reading) (u : Option (List ℕ))
    → ((text : List ℕ) → IsAnswer came text → IsAnswer now text) → PlaceOf a came o r u → r ≡ None → live_from o ≡ true → (b : Bool) → PlaceOf b now o r u
place-answered a came now None r u more is none live b = absurd (cc)
place-answered a came now (Some c) None None more is none live b = absurd (let shut = is.shut in cc)
place-answered a came now (Some c) None (Some bytes) more is none live b = record { live = is.live; reads = is.reads; is = more (c.sent ++ bytes) is.is }
place-answered a came now (Some c) (Some s) u more is none live b = absurd (cc)

pub answered-kept : (k : ℕ) (before now : Came) (log : Log) (asking new : ℕ → Option Reading) (owed : List Unsent)
    → ((text : List ℕ) → IsAnswer before text → IsAnswer now text) → Hears k before now log asking owed
    → asking k ≡ None → new k ≡ None → ((j : ℕ) → eqb j k ≡ false → new j ≡ asking j) → Keeps log new owed
answered-kept k before now log asking new owed more hears none gone same =
    with-own k log new owed (others-asking k log asking new owed same hears.others)
    (place-same (is_accepted k log.calls) _ _ _ _ _ (asking k) _ _ _ refl (sym hears.came) refl (none ∙ sym gone) refl
    (place-answered hears.accepted before now (find (is_numbered k) log.takers) (asking k) (unsent_in owed k) more hears.place none hears.live
    (is_accepted k log.calls)))

module _ (k : ℕ) (bytes : List ℕ) (before : Came) (log : Log) (asking new : ℕ → Option Reading) (owed : List Unsent)
    (hears : Hears k before (with_bytes bytes before) log asking owed)
    (same : (j : ℕ) → eqb j k ≡ false → new j ≡ asking j) (s : Reading) (asks : asking k ≡ Some s) where
  was : (c : Taker) × (find (is_numbered k) log.takers ≡ Some c) × (unsent_in owed k ≡ None) × IsAsking before c s
  was = place-asks hears.accepted before (find (is_numbered k) log.takers) (asking k) (unsent_in owed k) s hears.place asks

  first-now : first_in (came_of k log.calls) ≡ next_in 1 s bytes
  first-now = ap first_in hears.came ∙ waits-more before s bytes was.3.waits

  unanswered : IsUnanswered k log owed was.0
  unanswered = record { taker = was.1; live = was.3.live; reads = was.3.reads; unsent = was.3.unsent; unowed = was.2 }

  -- it isn't whole yet
  pub read-on : (t : Reading) → next_in 1 s bytes ≡ Waits t → new k ≡ Some t → Keeps log new owed
  read-on t waits own =
      let is : IsAsking (came_of k log.calls) was.0 t = record {
        live = was.3.live;
        reads = was.3.reads;
        unsent = was.3.unsent;
        unstopped = ap (λ (came : Came). came.stopped) hears.came ∙ was.3.unstopped;
        waits = first-now ∙ waits;
      } in
      with-own k log new owed (others-asking k log asking new owed same hears.others)
      (place-same (is_accepted k log.calls) _ _ _ _ _ (Some t) _ None _ refl refl (sym was.1) (sym own) (sym was.2) is)

  -- it is whole
  pub read-asks : (request : WireRequest) (t : Reading) (rest : List ℕ) → next_in 1 s bytes ≡ Reported (AsksFor request) t rest →
      Asks k request.request log new owed
  read-asks request t rest reports = record {
    others = others-asking k log asking new owed same hears.others;
    c = was.0;
    is = unanswered;
    asked = ap request_from (first-now ∙ reports);
  }

  -- it is refused
  pub read-fails : (e : MsgError) → next_in 1 s bytes ≡ Fails e → Leaves k log new owed
  read-fails e fails = record {
    others = others-asking k log asking new owed same hears.others;
    c = was.0;
    is = unanswered;
    cause = refused (ap is_failing (first-now ∙ fails)) refl;
  }

-- its answer is to be sent
pub asked-kept : (k : ℕ) (request : Request) (log : Log) (asking new : ℕ → Option Reading) (owed : List Unsent) (reply : Unsent) →
    Asks k request log asking owed
    → reply.k ≡ k → Responds request reply.bytes → new k ≡ None → ((j : ℕ) → eqb j k ≡ false → new j ≡ asking j) → Keeps log new (owed ++ reply ∷ [])
asked-kept k request log asking new owed reply asks number responds gone same =
    let none : unsent_in owed reply.k ≡ None = subst (λ (n : ℕ). unsent_in owed n ≡ None) (sym number) asks.is.unowed in
    let own : unsent_in (owed ++ reply ∷ []) k ≡ Some reply.bytes =
    subst (λ (n : ℕ). unsent_in (owed ++ reply ∷ []) n ≡ Some reply.bytes) number (own-with owed reply none) in
    let answer : IsAnswer (came_of k log.calls) reply.bytes = record { request = request; asked = asks.asked; responds = responds } in
    let is : IsOwing (came_of k log.calls) asks.c reply.bytes = record {
      live = asks.is.live;
      reads = asks.is.reads;
      is = subst (λ (l : List ℕ). IsAnswer (came_of k log.calls) (l ++ reply.bytes)) (sym asks.is.unsent) answer;
    } in
    let place : PlaceIn log new (owed ++ reply ∷ []) k =
    place-same (is_accepted k log.calls) _ _ _ _ _ None _ (Some reply.bytes) _ refl refl (sym asks.is.taker) (sym gone) (sym own) is in
    record {
      places = λ j. at_or k j (PlaceIn log new (owed ++ reply ∷ [])) place
          (λ off.
          let away : eqb reply.k j ≡ false = ap (λ (n : ℕ). eqb n j) number ∙ apart_sym j k off in
          place-same _ _ _ _ _ _ _ _ _ _ refl refl refl (sym (same j off)) (sym (others-with owed reply j away)) (asks.others.others j off));
      apart = asks.others.apart;
      fit = asks.others.fit;
      dialled = asks.others.dialled;
      once = once-with owed reply asks.others.once none;
    }

-- it is closed
pub left-kept : (k : ℕ) (log : Log) (asking new : ℕ → Option Reading) (owed : List Unsent) → Leaves k log asking owed → new k ≡ None
    → ((j : ℕ) → eqb j k ≡ false → new j ≡ asking j) → Keeps (with_closed k log) new owed
left-kept k log asking new owed leaves gone same =
    let c = leaves.c in
    let found : find (is_numbered k) (changed_at k shut log.takers) ≡ Some (shut c) = find-changed k shut (λ d. refl) log.takers ∙
    ap (option_map shut) leaves.is.taker in
    let is : IsGone (came_of k log.calls) (shut c) =
    record { shut = refl; cause = subst (λ (l : List ℕ). Closes (came_of k log.calls) l) (sym leaves.is.unsent) leaves.cause } in
    let place : PlaceIn (with_closed k log) new owed k =
    place-same (is_accepted k log.calls) _ _ _ _ _ None _ None _ refl refl (sym found) (sym gone) (sym leaves.is.unowed) is in
    record {
      places = λ j. at_or k j (PlaceIn (with_closed k log) new owed) place
          (λ off. place-same _ _ _ _ _ _ _ _ _ _ refl refl (sym (find-other k shut (λ d. refl) log.takers j off)) (sym (same j off)) refl
          (leaves.others.others j off));
      apart = apart-changed k shut (λ d. refl) log.takers leaves.others.apart;
      fit = all-later log.takers (changed_at k shut log.takers) [] log.calls (later-shut k log.takers) leaves.others.fit;
      dialled = leaves.others.dialled;
      once = leaves.others.once;
    }
