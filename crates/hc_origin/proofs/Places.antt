-- What is kept of each connection goes on fitting the log.
--
-- A step is about one connection. What is kept of the others stays, since their bytes, their taker and what they are
-- owed stay (`place-other`, `others-call`). Of the one in hand it is shown by what is kept of it: it is accepted, its
-- request is read on, is whole or is refused, it was cut off, it took bytes, or it took all. `heard` joins the events
-- of a call, and `heard-log` says that the same is a log already.
use Rattle.std.{proofs.{Common.{◌≡◌, ℕ, List, [], ◌++◌, Bool, true, false, eqb, Option, Some, None, refl, sym, ap, subst, ◌∙◌, inl, inr}, lemmas.{List.{append-nil}, Bool.{cases_Bool, eqb-true, eq-eqb}}}, specs.{Prelude.{find, IfSome}, Option.{option_map}}}
use Rattle.hc_wire.specs.{declared.event.WireEvent.{WireEvent}, Events.{Stage, Unseen, Open, Closed, IsOfOpen, IsOpen, IsUnended}, Following.{live_from}, Logs.{Called, Log, Taker, fresh, is_numbered, over, standings_in, takers_with, with_call}, Scripts.{is_got_by}}
use Rattle.hc_wire.specs.declared.event.WireEvent.TheVariants as event
use Rattle.hc_msg.specs.Reading.{Reading}
use Rattle.hc_origin.specs.{Coming.{Came, came_of, is_accept_of, is_accepted, is_stop_of}, Answering.{IsAnswer}, Turns.{AllFit, Closes, refused, cut_off, answered}, Endings.{IsLog, WasSent}, Replies.{Unsent, unsent_in}, Keeping.{AreApart, Follows, Keeps, PlaceIn, PlaceOf, Rests, nothing}, Going.{Hears, HearsOf, Heard, KeepsOthers, Welcomes, with_bytes, with_stop}}
use Rattle.hc_origin.proofs.{Comings.{accepted-same, answer-more, answer-stop, came-got, came-other, came-stop}, Fitting.{Later, all-later, all-more, fits-later, later-changed, later-last, later-same, next-fits}, Takers.{apart-changed, apart-last, apart_sym, find-before, find-changed, find-last, find-other}}

-- PLACES

-- by equal parts
pub place-same : (a b : Bool) (x y : Came) (o p : Option Taker) (r s : Option Reading) (u v : Option (List ℕ))
    → a ≡ b → x ≡ y → o ≡ p → r ≡ s → u ≡ v → PlaceOf a x o r u → PlaceOf b y p s v
place-same a b x y o p r s u v ab xy op rs uv is =
    subst (λ (c : Bool). PlaceOf c y p s v) ab (subst (λ (z : Came). PlaceOf a z p s v) xy (subst (λ (t : Option Taker). PlaceOf a x t s v) op
    (subst (λ (q : Option Reading). PlaceOf a x o q v) rs (subst (λ (w : Option (List ℕ)). PlaceOf a x o r w) uv is))))

-- a number is the one in hand, or another
pub at_or : (k j : ℕ) (P : ℕ → Type 0) → P k → (eqb j k ≡ false → P j) → P j
at_or k j P here away = elim (cases_Bool (eqb j k)) [
  | inl on ↦ subst P (sym (eqb-true j k on)) here
  | inr off ↦ away off
]

-- WHAT WAS SENT

closes-sent : (came : Came) (sent : List ℕ) → Closes came sent → WasSent came sent
closes-sent came sent (refused is none) = inl none
closes-sent came sent (cut_off is none) = inl none
closes-sent came sent (answered is) = inr (record { text = sent; is = is; front = ([], append-nil sent) })

pub sent-of : (a : Bool) (came : Came) (o : Option Taker) (r : Option Reading) (u : Option (List ℕ)) → PlaceOf a came o r u →
    IfSome o (λ c. WasSent came c.sent)
sent-of a came None r u is = tt
sent-of a came (Some c) None None is = closes-sent came c.sent is.cause
sent-of a came (Some c) None (Some bytes) is = inr (record { text = c.sent ++ bytes; is = is.is; front = (bytes, refl) })
sent-of a came (Some c) (Some reading) None is = inl is.unsent
sent-of a came (Some c) (Some reading) (Some bytes) is = absurd is

pub keeps-log : (log : Log) (asking : ℕ → Option Reading) (owed : List Unsent) → Keeps log asking owed → IsLog log
keeps-log log asking owed keeps = record {
  fit = keeps.fit;
  sent = λ k. sent-of (is_accepted k log.calls) (came_of k log.calls) (find (is_numbered k) log.takers) (asking k) (unsent_in owed k) (keeps.places k);
  dialled = keeps.dialled;
}

-- OTHERS

-- others stay where another's reader changes
pub others-asking : (k : ℕ) (log : Log) (asking new : ℕ → Option Reading) (owed : List Unsent) → ((j : ℕ) → eqb j k ≡ false → new j ≡ asking j)
    → KeepsOthers k log asking owed → KeepsOthers k log new owed
others-asking k log asking new owed same keeps = record {
  others = λ j off. place-same _ _ _ _ _ _ (asking j) (new j) _ _ refl refl refl (sym (same j off)) refl (keeps.others j off);
  apart = keeps.apart;
  fit = keeps.fit;
  dialled = keeps.dialled;
  once = keeps.once;
}

-- and all is kept with the one in hand
pub with-own : (k : ℕ) (log : Log) (asking : ℕ → Option Reading) (owed : List Unsent) → KeepsOthers k log asking owed → PlaceIn log asking owed k →
    Keeps log asking owed
with-own k log asking owed keeps own = record {
  places = λ j. at_or k j (PlaceIn log asking owed) own (keeps.others j);
  apart = keeps.apart;
  fit = keeps.fit;
  dialled = keeps.dialled;
  once = keeps.once;
}

-- a call that says nothing of it
place-other : (log : Log) (wait : Bool) (moment : ℕ) (what : WireEvent) (bytes : List ℕ) (asking : ℕ → Option Reading) (owed : List Unsent) (j : ℕ)
    → is_got_by j what ≡ false → is_stop_of j what ≡ false → is_accept_of j what ≡ false
    → find (is_numbered j) (takers_with what log.takers) ≡ find (is_numbered j) log.takers
    → PlaceIn log asking owed j → PlaceIn (with_call wait moment what bytes log) asking owed j
place-other log wait moment what bytes asking owed j ungot unstopped unaccepted same is =
    let call : Called = record { wait = wait; moment = moment; event = what; bytes = bytes; standings = standings_in log } in
    place-same _ _ _ _ _ _ _ _ _ _ (sym (accepted-same j log.calls call unaccepted)) (sym (came-other j log.calls call ungot unstopped)) (sym same) refl refl is

-- THE NEXT CALL

fits-call : (log : Log) (asking : ℕ → Option Reading) (owed : List Unsent) (moment : ℕ) (what : WireEvent) (bytes : List ℕ) → Rests log asking owed
    → Later log.takers (takers_with what log.takers) → AllFit (takers_with what log.takers) [] (with_call true moment what bytes log).calls
fits-call log asking owed moment what bytes rests later =
    let call : Called = record { wait = true; moment = moment; event = what; bytes = bytes; standings = standings_in log } in
    all-more (takers_with what log.takers) log.calls call (all-later log.takers (takers_with what log.takers) [] log.calls later rests.keeps.fit)
    (fits-later log.takers (takers_with what log.takers) log.calls call later (next-fits log asking owed rests moment what bytes))

place-over : (a : Bool) (came : Came) (o : Option Taker) (r : Option Reading) (u : Option (List ℕ)) → PlaceOf a came o r u →
    PlaceOf a came (option_map over o) r u
place-over a came None None None is = is
place-over a came None None (Some bytes) is = is
place-over a came None (Some reading) u is = is
place-over a came (Some c) None None is = record { shut = is.shut; cause = is.cause }
place-over a came (Some c) None (Some bytes) is = record { live = is.live; reads = is.reads; is = is.is }
place-over a came (Some c) (Some reading) None is =
    record { live = is.live; reads = is.reads; unsent = is.unsent; unstopped = is.unstopped; waits = is.waits }
place-over a came (Some c) (Some reading) (Some bytes) is = is

live-over : (o : Option Taker) → live_from o ≡ true → live_from (option_map over o) ≡ true
live-over None is = is
live-over (Some c) is = is

-- of a new connection nothing is kept
unseen-none : (a : Bool) (came : Came) (o : Option Taker) (r : Option Reading) (u : Option (List ℕ)) → PlaceOf a came o r u → o ≡ None →
    (came ≡ nothing) × (u ≡ None)
unseen-none a came None None None is none = (is.nothing_came, refl)
unseen-none a came None None (Some bytes) is none = absurd is
unseen-none a came None (Some reading) u is none = absurd is
unseen-none a came (Some c) r u is none = absurd (cc)

module _ (reports : Bool) (reported : Option Log) (stages : ℕ → Stage) (log : Log) (asking : ℕ → Option Reading) (owed : List Unsent)
    (follows : Follows reports reported stages log) (rests : Rests log asking owed) where
  -- a call whose event changes no taker
  same-call : (moment : ℕ) (what : WireEvent) (bytes : List ℕ) → takers_with what log.takers ≡ log.takers
      → AllFit (takers_with what log.takers) [] (with_call true moment what bytes log).calls
  same-call moment what bytes same =
      fits-call log asking owed moment what bytes rests (subst (λ (cs : List Taker). Later log.takers cs) (sym same) (later-same log.takers))

  -- an event of one in hand
  pub others-call : (k moment : ℕ) (what : WireEvent) (bytes : List ℕ) → AllFit (takers_with what log.takers) [] (with_call true moment what bytes log).calls
      → AreApart (takers_with what log.takers)
      → ((j : ℕ) → eqb j k ≡ false → (is_got_by j what ≡ false) × (is_stop_of j what ≡ false) × (is_accept_of j what ≡ false)
      × (find (is_numbered j) (takers_with what log.takers) ≡ find (is_numbered j) log.takers))
      → KeepsOthers k (with_call true moment what bytes log) asking owed
  others-call k moment what bytes fit apart off = record {
    others = λ j away. let is = off j away in place-other log true moment what bytes asking owed j is.0 is.1 is.2 is.3 (rests.keeps.places j);
    apart = apart;
    fit = fit;
    dialled = rests.keeps.dialled;
    once = rests.keeps.once;
  }

  accept : (k moment : ℕ) (bytes : List ℕ) → stages k ≡ Unseen → Welcomes k (with_call true moment (event.Accepted k) bytes log) asking owed
  accept k moment bytes new =
      let none : find (is_numbered k) log.takers ≡ None = follows.unseen k new in
      let was = unseen-none _ _ _ _ _ (rests.keeps.places k) none in
      let fit = fits-call log asking owed moment (event.Accepted k) bytes rests (later-last log.takers (fresh k) none) in
      let call : Called = record { wait = true; moment = moment; event = event.Accepted k; bytes = bytes; standings = standings_in log } in
      record {
        others = others-call k moment (event.Accepted k) bytes fit (apart-last log.takers (fresh k) rests.keeps.apart none)
            (λ j off. (refl, refl, apart_sym j k off, find-before log.takers (fresh k) j (apart_sym j k off)));
        taker = find-last log.takers (fresh k) none;
        came = came-other k log.calls call refl refl ∙ was.0;
        unowed = was.1;
      }

  got : (k n moment : ℕ) (bytes : List ℕ) → stages k ≡ Open true false →
      HearsOf k (with_bytes bytes) (with_call true moment (event.Got k n) bytes log) asking owed
  got k n moment bytes is =
      let call : Called = record { wait = true; moment = moment; event = event.Got k n; bytes = bytes; standings = standings_in log } in (
        came_of k log.calls,
        record {
          others = others-call k moment (event.Got k n) bytes (same-call moment (event.Got k n) bytes refl) rests.keeps.apart
              (λ j off. (apart_sym j k off, refl, refl, refl));
          accepted = is_accepted k log.calls;
          place = rests.keeps.places k;
          live = follows.live k (subst IsOpen (sym is) tt);
          came = came-got k log.calls call (eq-eqb k k refl) refl;
        },
      )

  open_unended : (s : Stage) → IsUnended s → IsOpen s
  open_unended Unseen is = is
  open_unended (Open reads ended) is = tt
  open_unended Closed is = is

  end : (k moment : ℕ) (bytes : List ℕ) → IsUnended (stages k) → HearsOf k with_stop (with_call true moment (event.Ended k) bytes log) asking owed
  end k moment bytes is =
      let call : Called = record { wait = true; moment = moment; event = event.Ended k; bytes = bytes; standings = standings_in log } in
      let live = follows.live k (open_unended (stages k) is) in
      let found = find-changed k over (λ c. refl) log.takers in (
        came_of k log.calls,
        record {
          others = others-call k moment (event.Ended k) bytes
              (fits-call log asking owed moment (event.Ended k) bytes rests (later-changed k over (λ c. refl) log.takers live))
              (apart-changed k over (λ c. refl) log.takers rests.keeps.apart)
              (λ j off. (refl, apart_sym j k off, refl, find-other k over (λ c. refl) log.takers j off));
          accepted = is_accepted k log.calls;
          place = place-same _ _ _ _ _ _ _ _ _ _ refl refl (sym found) refl refl (place-over _ _ _ _ _ (rests.keeps.places k));
          live = ap live_from found ∙ live-over (find (is_numbered k) log.takers) live;
          came = came-stop k log.calls call refl (eq-eqb k k refl);
        },
      )

  break : (k moment : ℕ) (bytes : List ℕ) → IsOpen (stages k) → HearsOf k with_stop (with_call true moment (event.Broke k) bytes log) asking owed
  break k moment bytes is =
      let call : Called = record { wait = true; moment = moment; event = event.Broke k; bytes = bytes; standings = standings_in log } in (
        came_of k log.calls,
        record {
          others = others-call k moment (event.Broke k) bytes (same-call moment (event.Broke k) bytes refl) rests.keeps.apart
              (λ j off. (refl, apart_sym j k off, refl, refl));
          accepted = is_accepted k log.calls;
          place = rests.keeps.places k;
          live = follows.live k is;
          came = came-stop k log.calls call refl (eq-eqb k k refl);
        },
      )

  -- an event that says nothing of any connection
  quiet : (moment : ℕ) (what : WireEvent) (bytes : List ℕ) → takers_with what log.takers ≡ log.takers
      → ((j : ℕ) → (is_got_by j what ≡ false) × (is_stop_of j what ≡ false) × (is_accept_of j what ≡ false)) →
      Keeps (with_call true moment what bytes log) asking owed
  quiet moment what bytes same none = record {
    places = λ j. let is = none j in
        place-other log true moment what bytes asking owed j is.0 is.1 is.2 (ap (find (is_numbered j)) same) (rests.keeps.places j);
    apart = subst AreApart (sym same) rests.keeps.apart;
    fit = same-call moment what bytes same;
    dialled = rests.keeps.dialled;
    once = rests.keeps.once;
  }

  pub heard : (moment : ℕ) (what : WireEvent) (bytes : List ℕ) → IsOfOpen what stages → Heard what bytes (with_call true moment what bytes log) asking owed
  heard moment (event.Accepted k) bytes is = accept k moment bytes is
  heard moment (event.Got k n) bytes is = got k n moment bytes is
  heard moment (event.Ended k) bytes is = end k moment bytes is
  heard moment (event.Broke k) bytes is = break k moment bytes is
  heard moment (event.Room k) bytes is = quiet moment (event.Room k) bytes refl (λ j. (refl, refl, refl))
  heard moment event.Quiet bytes is = quiet moment event.Quiet bytes refl (λ j. (refl, refl, refl))

-- the same is a log already
hears-log : (k : ℕ) (before now : Came) (log : Log) (asking : ℕ → Option Reading) (owed : List Unsent)
    → ((u : Option (List ℕ)) (r : Option Reading) (a : Bool) (o : Option Taker) → PlaceOf a before o r u → live_from o ≡ true →
    IfSome o (λ c. WasSent now c.sent))
    → Hears k before now log asking owed → IsLog log
hears-log k before now log asking owed stays hears = record {
  fit = hears.others.fit;
  sent = λ j. at_or k j (λ n. IfSome (find (is_numbered n) log.takers) (λ c. WasSent (came_of n log.calls) c.sent))
      (subst (λ (came : Came). IfSome (find (is_numbered k) log.takers) (λ c. WasSent came c.sent)) (sym hears.came)
      (stays (unsent_in owed k) (asking k) hears.accepted (find (is_numbered k) log.takers) hears.place hears.live))
      (λ off. sent-of _ _ _ _ _ (hears.others.others j off));
  dialled = hears.others.dialled;
}

stays-sent : (before now : Came) → ((text : List ℕ) → IsAnswer before text → IsAnswer now text)
    → (u : Option (List ℕ)) (r : Option Reading) (a : Bool) (o : Option Taker) → PlaceOf a before o r u → live_from o ≡ true →
    IfSome o (λ c. WasSent now c.sent)
stays-sent before now more u r a None is live = tt
stays-sent before now more None None a (Some c) is live = absurd (let shut = is.shut in cc)
stays-sent before now more (Some bytes) None a (Some c) is live =
    inr (record { text = c.sent ++ bytes; is = more (c.sent ++ bytes) is.is; front = (bytes, refl) })
stays-sent before now more None (Some reading) a (Some c) is live = inl is.unsent
stays-sent before now more (Some bytes) (Some reading) a (Some c) is live = absurd is

welcome-log : (k : ℕ) (log : Log) (asking : ℕ → Option Reading) (owed : List Unsent) → Welcomes k log asking owed → IsLog log
welcome-log k log asking owed welcomes = record {
  fit = welcomes.others.fit;
  sent = λ j. at_or k j (λ n. IfSome (find (is_numbered n) log.takers) (λ c. WasSent (came_of n log.calls) c.sent))
      (subst (λ (o : Option Taker). IfSome o (λ c. WasSent (came_of k log.calls) c.sent)) (sym welcomes.taker) (inl refl))
      (λ off. sent-of _ _ _ _ _ (welcomes.others.others j off));
  dialled = welcomes.others.dialled;
}

pub heard-log : (what : WireEvent) (bytes : List ℕ) (log : Log) (asking : ℕ → Option Reading) (owed : List Unsent) → Heard what bytes log asking owed →
    IsLog log
heard-log (event.Accepted k) bytes log asking owed heard = welcome-log k log asking owed heard
heard-log (event.Got k n) bytes log asking owed heard =
    hears-log k heard.0 _ log asking owed (stays-sent heard.0 (with_bytes bytes heard.0) (λ text is. answer-more heard.0 bytes text is)) heard.1
heard-log (event.Ended k) bytes log asking owed heard =
    hears-log k heard.0 _ log asking owed (stays-sent heard.0 (with_stop heard.0) (λ text is. answer-stop heard.0 text is)) heard.1
heard-log (event.Broke k) bytes log asking owed heard =
    hears-log k heard.0 _ log asking owed (stays-sent heard.0 (with_stop heard.0) (λ text is. answer-stop heard.0 text is)) heard.1
heard-log (event.Room k) bytes log asking owed heard = keeps-log log asking owed heard
heard-log event.Quiet bytes log asking owed heard = keeps-log log asking owed heard
