-- Turns one behind another, and what comes of the loop by how it ends.
--
-- Between turns the log is one of the loop's, and what was written is the record so far (`IsTurning`). A turn that is
-- made goes on so. One that is cut short ends the loop; so does the closing of all connections behind the last turn,
-- which sends nothing. That all was sent then is read off what rests behind the last turn (`client_sent`,
-- `exchange_sent`).
use Rattle.std.{proofs.{Common.{◌≡◌, ◌⊎◌, inl, inr, ◌≤◌, ◌<◌, ◌^◌, ℕ, ◌+◌, ◌-◌, List, [], ◌∷◌, ◌++◌, Bool, true, false, Option, Some, None, Ok, Err, refl, ap, sym, ◌∙◌, subst, arith, append_assoc, append-nil, take_all}, lemmas.{Bool.Decides.{nat_tests}, List.{length-drop}}}, specs.{Prelude.{◌&&◌, ◌||◌, not, nat_eq, nat_lt, find, filter, map, drop, length, option_map, IfSome, Result, IsErrAnd, if◌then◌else◌}, List.{list_all}}}
use Rattle.hc_text.proofs.Basics.{both_true as both_hold, or_left, or_right}
use Rattle.hc_core.specs.{declared.cache.Cache.{Cache}, Steps.{steps, faults_in, limits_in, bytes_received}}
use Rattle.hc_io.specs.Sink.{Takes, TakesPrefix}
use Rattle.hc_io.proofs.Takings.{takes_more as takes_both, takes_none}
use Rattle.hc_effects.proofs.Vocabulary.{Contents, may_begin, is_open, tables, Limits}
use Rattle.hc_peers.specs.{Clients.{client_of}, Upstreams.{upstream_of}}
use Rattle.hc_peers.specs.declared.client.Client as peer
use Rattle.hc_peers.specs.declared.upstream.Upstream as origin
use Rattle.hc_sched.specs.declared.schedule.Ended.{Ended}
use Rattle.hc_sched.specs.declared.schedule.Ended.TheVariants as ended
use Rattle.hc_store.specs.declared.backend.Backend.{Ghosts}
use Rattle.hc_wire.specs.{Events.{Stage, Unseen}, Logs.{Log, Taker, Called, empty_log, is_numbered, is_at_end, shut, standings_in, stage_from, stage_in, sent_in}}
use Rattle.hc_wire.specs.declared.event.WireEvent.TheVariants as event
use Rattle.hc_proxy.specs.declared.proxy.Proxy as loop
use Rattle.hc_proxy.specs.{declared.stop.Stop.{Stop}, Connections.{dials_from, dials_in, connection_of, taken_at}, Endings.{IsLog, IsFresh, Serves, TakesTurns, was_sent}, Keeping.{Frame, IsStocked, IsUnused, HasUpstreams, IsUpstream, IsUpstreamAt}, Logging.{AreApart, short_from, is_short}, Loops.{AllFit}, Network.{open_exchanges, heard}, Recorded.{HasSchedule, IsRecorded, Records}, Records.{text_of}, Resting.{IsRestingClient, IsRestingAt, Rests}, Rows.{Client, Upstream, Proxy, unused, Setting}, Sending.{owed_by, is_taken, client_is_sent, taker_of, exchange_is_sent, all_is_sent}, Serving.{IsOfLoop, IsCutShort, IsStill, Begins, TurnsTo, TurnStops, EndsBy, IsClosed, all_closed}, Stops.{ended_as, ended_by}, Turns.{turned_by, behind_all, behind_calls, record_of}, Waiting.{waits}, Served.{ServesWith}}
use Rattle.hc_proxy.specs.declared.stop.Stop.TheVariants as stop
use Rattle.hc_proxy.proofs.{FinishGoes.{takes_all}, Fitting.{all_reversed, opened_within}, Recorded.{schedule_of, recorded_of}, Rows.{sent_all}, Stands.{loops_are_runs}, TakersStand.{open_taker, sent_found, taken_found}}
use Rattle.hc_state.proofs.LeftRows.{all_passing}

-- WHAT A SINK TOOK

-- all of the record was taken, and nothing is lacking of the last turn's
whole_turns : (limits : Limits) (c : Setting) (log : Log) (out out' : Option (List ℕ)) → Takes out out' (record_of (behind_all limits c log)) →
    HasSchedule (behind_all limits c log) → TakesTurns limits c log out out'
whole_turns limits c log out out' takes scheduled =
    let all : behind_calls limits c log (length log.calls) ≡ behind_all limits c log =
    ap (λ cs. turned_by limits (dials_from c log.dialled) cs (unused c)) (take_all (length log.calls) log.calls (omega arith)) in
    record {
      turns = length log.calls;
      all_but_one = omega arith;
      between = out';
      earlier = subst (λ (p : Proxy). Takes out out' (record_of p)) (sym all) takes;
      schedule = subst HasSchedule (sym all) scheduled;
      last = [];
      part = record { front = []; rest = []; whole = refl; takes = takes_none out' };
      record_is = ap record_of (sym all) ∙ sym (append-nil (record_of (behind_calls limits c log (length log.calls))));
    }

-- BETWEEN TURNS

pub record IsTurning {B : Type 0} {g : Ghosts B} (n m : ℕ) (limits : Limits) (setting : Setting) (before : Log) (x : loop.Proxy B g) (reported : Option Log)
    (stages : ℕ → Stage) (out out' : Option (List ℕ)) (wait : Bool) : Type 0 where
  pub f : Frame
  pub p : Proxy
  pub log : Log
  pub still : IsStill n f x p log reported stages
  pub wait_is : wait ≡ waits f.limits p
  pub limits_are : f.limits ≡ limits
  pub contents_are : f.setting ≡ setting
  pub takes : Takes out out' f.written
  pub bound : log.bound ≡ before.bound
  pub calls : length log.calls ≡ m
  pub of_loop : IsOfLoop f.limits f.setting log p

-- nothing happened yet, so the first call waits
pub first_waits : (limits : Limits) (c : Setting) → true ≡ waits limits (unused c)
unfolding heard tables
first_waits limits c = refl

fresh_of_loop : (limits : Limits) (c : Setting) (log : Log) → IsFresh log → IsOfLoop limits c log (unused c)
fresh_of_loop limits c log fresh = record {
  fit = subst (AllFit limits (dials_from c log.dialled) (unused c)) (sym fresh.calls) tt;
  tables = sym (ap (λ cs. turned_by limits (dials_from c log.dialled) cs (unused c)) fresh.calls);
  sent = ap (list_all (was_sent (dials_from c log.dialled) (unused c))) fresh.takers;
}

module _ {B : Type 0} {g : Ghosts B} where
  pub turning_begins : (n : ℕ) (f : Frame) (x : loop.Proxy B g) (before : Log) (reported : Option Log) (stages : ℕ → Stage) (out : Option (List ℕ)) →
      Begins n f x before reported stages → IsTurning n 0 f.limits f.setting before x reported stages out out true
  turning_begins n f x before reported stages out b = record {
    f = f;
    p = unused f.setting;
    log = before;
    still = b.still;
    wait_is = first_waits f.limits f.setting;
    limits_are = refl;
    contents_are = refl;
    takes = subst (Takes out out) (sym b.unwritten) (takes_none out);
    bound = refl;
    calls = ap length b.fresh.calls;
    of_loop = fresh_of_loop f.limits f.setting before b.fresh;
  }

  module _ (n m : ℕ) (limits : Limits) (setting : Setting) (before : Log) (x : loop.Proxy B g) (reported : Option Log) (stages : ℕ → Stage)
      (out out' : Option (List ℕ)) (wait : Bool) (t : IsTurning n m limits setting before x reported stages out out' wait) where
    -- one more turn
    pub turning_on : (n' : ℕ) (x' : loop.Proxy B g) (reported' : Option Log) (stages' : ℕ → Stage) (new : Option (List ℕ)) (again : Bool) →
        TurnsTo n' t.f t.p t.log x x' reported' stages' out' new again → faults_in x'.cache ≡ faults_in x.cache
        → IsTurning n' (m + 1) limits setting before x' reported' stages' out new again
    turning_on n' x' reported' stages' new again to none = record {
      f = to.f';
      p = to.p';
      log = to.log';
      still = to.still;
      wait_is = to.again_is ∙ ap (λ l. waits l to.p') (sym to.limits);
      limits_are = to.limits ∙ t.limits_are;
      contents_are = to.setting ∙ t.contents_are;
      takes = subst (Takes out new) (sym to.written) (takes_both out out' new t.f.written to.text t.takes to.takes);
      bound = to.bound ∙ t.bound;
      calls = let a = to.calls in let b = t.calls in omega arith;
      of_loop =
          subst (λ (d : Setting). IsOfLoop to.f'.limits d to.log' to.p') (sym to.setting)
          (subst (λ l. IsOfLoop l t.f.setting to.log' to.p') (sym to.limits) (to.goes none t.of_loop));
    }

    record_so : record_of t.p ≡ t.f.written
    record_so = t.still.rests.cache.text ∙ (ap (λ (z : List ℕ). t.f.written ++ z) t.still.written ∙ append-nil t.f.written)

    -- WHERE IT ENDS

    by_stop : (turns : ℕ) (log : Log) (new : Option (List ℕ)) (e : Stop) → IsLog limits setting log → length log.calls ≤ turns →
        TakesTurns limits setting log out new → Serves limits setting turns log out new (ended_by e)
    by_stop turns log new stop.SinkFailed is few front = Serves.unwritten is few front
    by_stop turns log new stop.WireFailed is few front = Serves.unwired is few front
    by_stop turns log new stop.NoMemory is few front = Serves.wanting is few front

    -- a turn is cut short
    pub turning_stops : (turns : ℕ) (x' : loop.Proxy B g) (reported' : Option Log) (new : Option (List ℕ)) (P : Stop → Type 0)
        (result : Result (Unit {0}) Stop) → IsErrAnd result P → m < turns → TurnStops t.f t.p t.log x x' reported' out' new → faults_in
        x'.cache ≡ faults_in x.cache
        → EndsBy limits setting turns before reported' out new (ended_as result)
    turning_stops turns x' reported' new P (Ok done) stops less cut none = absurd stops
    turning_stops turns x' reported' new P (Err e) stops less cut none =
        let c = cut.goes none t.of_loop in
        let c' : IsCutShort limits setting cut.log' t.f.written out' new =
        subst (λ (d : Setting). IsCutShort limits d cut.log' t.f.written out' new) t.contents_are
        (subst (λ l. IsCutShort l t.f.setting cut.log' t.f.written out' new) t.limits_are c) in
        record {
          log' = cut.log';
          reported_is = cut.reported_is;
          bound = cut.bound ∙ t.bound;
          serves =
              by_stop turns cut.log' new e c'.is_log (let a = cut.calls in let b = t.calls in omega arith)
              (record {
                turns = c'.turns;
                all_but_one = c'.all_but_one;
                between = out';
                earlier = subst (Takes out out') c'.written_is t.takes;
                schedule = c'.schedule;
                last = c'.text;
                part = c'.takes;
                record_is = c'.record_is ∙ ap (λ (z : List ℕ). z ++ c'.text) c'.written_is;
              });
        }

    places_now : length (dials_from t.f.setting t.log.dialled) ≡ t.p.tables.opened
    places_now = ap (λ (d : Setting). length (dials_from d t.log.dialled)) (sym t.still.rests.cache.setting) ∙ t.still.rests.opened

    is_log_so : IsLog t.f.limits t.f.setting t.log
    is_log_so = record {
      fit = t.of_loop.fit;
      sent = subst (λ (r : Proxy). list_all (was_sent (dials_from t.f.setting t.log.dialled) r) t.log.takers ≡ true) t.of_loop.tables t.of_loop.sent;
      dialled =
          let same = places_now in
          subst (λ (r : Proxy). length (dials_from t.f.setting t.log.dialled) ≤ r.tables.opened) t.of_loop.tables (omega arith);
    }

    is_log_now : IsLog limits setting t.log
    is_log_now = subst (λ (d : Setting). IsLog limits d t.log) t.contents_are (subst (λ l. IsLog l t.f.setting t.log) t.limits_are is_log_so)

    tables_now : t.p ≡ behind_all limits setting t.log
    tables_now = t.of_loop.tables ∙ (ap (λ l. behind_all l t.f.setting t.log) t.limits_are ∙ ap (λ (d : Setting). behind_all limits d t.log) t.contents_are)

    all_taken : Takes out out' (record_of (behind_all limits setting t.log))
    all_taken = subst (Takes out out') (sym record_so ∙ ap record_of tables_now) t.takes

    all_scheduled : HasSchedule (behind_all limits setting t.log)
    all_scheduled = subst HasSchedule tables_now (schedule_of t.f x t.p t.still.rests.cache)

    -- memory was refused behind the last turn
    pub turning_wants : (turns : ℕ) (reported' : Option Log) (P : Stop → Type 0) (result : Result (Unit {0}) Stop) → IsErrAnd result P → m ≤ turns →
        reported' ≡ reported → EndsBy limits setting turns before reported' out out' (ended_as result)
    turning_wants turns reported' P (Ok done) stops few same = absurd stops
    turning_wants turns reported' P (Err e) stops few same = record {
      log' = t.log;
      reported_is = subst (λ (z : Option Log). (z ≡ None) ⊎ (z ≡ Some t.log)) (sym same) t.still.follows.reported_is;
      bound = t.bound;
      serves = by_stop turns t.log out' e is_log_now (let b = t.calls in omega arith) (whole_turns limits setting t.log out out' all_taken all_scheduled);
    }

-- ALL ARE CLOSED

shut_sent : (test : Taker → Bool) → ((c : Taker) → test (shut c) ≡ test c) → (cs : List Taker) → list_all test (map shut cs) ≡ list_all test cs
shut_sent test same [] = refl
shut_sent test same (c ∷ cs) = ap (λ b. b && list_all test (map shut cs)) (same c) ∙ ap (λ b. test c && b) (shut_sent test same cs)

shut_closed : (cs : List Taker) → list_all (λ (c : Taker). not c.live) (map shut cs) ≡ true
shut_closed [] = refl
shut_closed (c ∷ cs) = shut_closed cs

shut_found : (k : ℕ) (cs : List Taker) → find (is_numbered k) (map shut cs) ≡ option_map shut (find (is_numbered k) cs)
shut_found k [] = refl
shut_found k (c ∷ cs) = by_test (nat_eq c.k k) (shut_found k cs)
  where
    by_test : (b : Bool) → find (is_numbered k) (map shut cs) ≡ option_map shut (find (is_numbered k) cs) →
        (if b then Some (shut c) else find (is_numbered k) (map shut cs)) ≡ option_map shut (if b then Some c else find (is_numbered k) cs)
    by_test true rest = refl
    by_test false rest = rest

shut_taken : (calls n : ℕ) (o : Option Taker) → is_taken calls n (option_map shut o) ≡ is_taken calls n o
shut_taken calls n None = refl
shut_taken calls n (Some c) = refl

not_less : (m n : ℕ) → n ≤ m → not (nat_lt m n) ≡ true
not_less m n le = grind (arith, nat_tests)

-- nothing is left where all was taken
none_left : (taken : ℕ) (owed unsent : List ℕ) → taken ≤ length owed → unsent ≡ drop taken owed → unsent ≡ [] → length owed ≤ taken
none_left taken owed unsent within is none =
    let test : nat_eq (length unsent) 0 ≡ not (nat_lt taken (length owed)) = sent_all taken owed unsent within is in
    let zero_left : length unsent ≡ 0 = ap length none in
    let size : length unsent ≡ length owed - taken = ap length is ∙ length-drop taken owed in
    omega arith

owed_resting : (log : Log) (k : ℕ) (w : peer.Client) (row : Client) → IsRestingClient log k w row →
    (length row.owed ≤ length (sent_in log.takers k)) ⊎ (is_short log k ≡ true)
owed_resting log k w row is = by_lack is.lacks
  where
    by_lack : (w.unsent ≡ []) ⊎ (is_short log k ≡ true) → (length row.owed ≤ length (sent_in log.takers k)) ⊎ (is_short log k ≡ true)
    by_lack (inl none) = inl (none_left (length (sent_in log.takers k)) row.owed w.unsent is.is_client.within is.is_client.unsent none)
    by_lack (inr short) = inr short

each_holds : (test : ℕ → Bool) (ks : List ℕ) → ((k : ℕ) → test k ≡ true) → list_all test ks ≡ true
each_holds test [] each = refl
each_holds test (k ∷ ks) each = both_hold (test k) (list_all test ks) (each k) (each_holds test ks each)

module _ {B : Type 0} {g : Ghosts B} (f : Frame) (x : loop.Proxy B g) (p : Proxy) (log : Log) (r : Rests f x p log) where
  -- who is found has taken all, or less than it was offered
  taken_by : (k owed : ℕ) (c : Taker) → find (is_numbered k) log.takers ≡ Some c → (owed ≤ length (sent_in log.takers k)) ⊎ (is_short log k ≡ true) →
      is_taken (length log.calls) owed (find (is_numbered k) log.takers) ≡ true
  taken_by k owed c found (inl all) =
      ap (is_taken (length log.calls) owed) found
      ∙ or_right (is_at_end c.short (length log.calls)) (not (nat_lt (length c.sent) owed))
      (not_less (length c.sent) owed (let size = ap length (sent_found k c log.takers found) in omega arith))
  taken_by k owed c found (inr short) =
      ap (is_taken (length log.calls) owed) found
      ∙ or_left (is_at_end c.short (length log.calls)) (not (nat_lt (length c.sent) owed))
      (ap (λ o. is_at_end (short_from o) (length log.calls)) (sym found) ∙ short)

  client_sent : (k : ℕ) → client_is_sent log k (p.client k) ≡ true
  client_sent k = by_row (client_of x.clients k) (p.client k) refl refl (r.clients k)
    where
      by_taker : (row : Client) → p.client k ≡ Some row → (length row.owed ≤ length (sent_in log.takers k)) ⊎ (is_short log k ≡ true) →
          is_taken (length log.calls) (length row.owed) (find (is_numbered k) log.takers) ≡ true
      by_taker row at lacks = by_found (find (is_numbered k) log.takers) refl
        where
          by_found : (o : Option Taker) → find (is_numbered k) log.takers ≡ o →
              is_taken (length log.calls) (length row.owed) (find (is_numbered k) log.takers) ≡ true
          by_found None found = absurd (let never : None ≡ Some row = sym (r.seen k (ap stage_from found)).0 ∙ at in cc)
          by_found (Some c) found = taken_by k (length row.owed) c found lacks

      by_row : (o : Option peer.Client) (s : Option Client) → client_of x.clients k ≡ o → p.client k ≡ s → IsRestingAt log k o s → client_is_sent log k s ≡ true
      by_row o None at at' is = refl
      by_row None (Some row) at at' (inl gone) = or_left row.gone _ gone
      by_row None (Some row) at at' (inr (closing, all)) = or_right row.gone _ (by_taker row at' (inl all))
      by_row (Some w) (Some row) at at' is = or_right row.gone _ (by_taker row at' (owed_resting log k w row is))

  module _ (apart : AreApart log.takers) where
    abbrev any_call : Called
    any_call = record { wait = true; moment = 0; event = event.Quiet; bytes = []; standings = standings_in log }

    origin_lacks : (u : origin.Upstream) (row : Upstream) (c : Taker) → find (is_numbered u.k) log.takers ≡ Some c → c.live ≡ true →
        IsUpstream (taken_at any_call u.k) u row → (u.unsent ≡ []) ⊎ (is_short log u.k ≡ true) →
        (length row.owed ≤ length (sent_in log.takers u.k)) ⊎ (is_short log u.k ≡ true)
    origin_lacks u row c found live is (inr short) = inr short
    origin_lacks u row c found live is (inl none) =
        let taken : taken_at any_call u.k ≡ length c.sent = taken_found log any_call refl apart u.k c found live in
        let size : length (sent_in log.takers u.k) ≡ length c.sent = ap length (sent_found u.k c log.takers found) in
        let le : length row.owed ≤ taken_at any_call u.k = none_left (taken_at any_call u.k) row.owed u.unsent is.within is.unsent none in
        inl (omega arith)

    exchange_sent : (y : ℕ) → is_open (p.tables.exchange y) ≡ true → exchange_is_sent log p y ≡ true
    exchange_sent y live = by_row (upstream_of x.upstreams y) (p.upstream y) refl refl (ups.rows y live within)
      where
        ups : HasUpstreams (record { frame = f; call = any_call; dialled = dials_in p log; stages = stage_in log.takers }) x p []
        ups = r.upstreams any_call (stage_in log.takers)

        within : y ≤ length (dials_in p log)
        within = let le = opened_within f x p log r apart any_call refl y live in let same = r.opened in omega arith

        by_row : (o : Option origin.Upstream) (s : Option Upstream) → upstream_of x.upstreams y ≡ o → p.upstream y ≡ s →
            IsUpstreamAt (taken_at any_call) o s → exchange_is_sent log p y ≡ true
        by_row None s at at' is = absurd is
        by_row (Some u) None at at' is = absurd is
        by_row (Some u) (Some row) at at' is =
            let open_now = r.wire.upstreams y u at in
            let o = open_taker u.k u.reading open_now.0 log.takers open_now.1 in
            ap (λ (n : ℕ). is_taken (length log.calls) n (taker_of log (connection_of (dials_in p log) y))) (ap owed_by at')
            ∙ (ap (λ (c : Option ℕ). is_taken (length log.calls) (length row.owed) (taker_of log c)) (ups.numbers y u at)
            ∙ taken_by u.k (length row.owed) o.c o.found (origin_lacks u row o.c o.found o.live is (r.resting y u at).lacks))

    pub all_sent : all_is_sent log p ≡ true
    all_sent = both_hold (list_all (λ k. client_is_sent log k (p.client k)) p.accepted) (list_all (exchange_is_sent log p) (open_exchanges p.tables))
        (each_holds (λ k. client_is_sent log k (p.client k)) p.accepted client_sent)
        (all_reversed (exchange_is_sent log p) (filter (λ y. is_open (p.tables.exchange y)) p.tables.openings)
        (all_passing (exchange_is_sent log p) (λ y. is_open (p.tables.exchange y)) p.tables.openings exchange_sent))

-- the same behind the closing
client_shut : (log : Log) (k : ℕ) (o : Option Client) → client_is_sent (all_closed log) k o ≡ client_is_sent log k o
client_shut log k None = refl
client_shut log k (Some row) =
    ap (λ b. row.gone || b) (ap (is_taken (length log.calls) (length row.owed)) (shut_found k log.takers) ∙
    shut_taken (length log.calls) (length row.owed) (find (is_numbered k) log.takers))

exchange_shut : (log : Log) (p : Proxy) (y : ℕ) → exchange_is_sent (all_closed log) p y ≡ exchange_is_sent log p y
exchange_shut log p y = by_number (connection_of (dials_in p log) y)
  where
    by_number : (o : Option ℕ) →
        is_taken (length log.calls) (owed_by (p.upstream y)) (taker_of (all_closed log) o) ≡ is_taken (length log.calls) (owed_by (p.upstream y))
        (taker_of log o)
    by_number None = refl
    by_number (Some k) = ap (is_taken (length log.calls) (owed_by (p.upstream y))) (shut_found k log.takers) ∙
        shut_taken (length log.calls) (owed_by (p.upstream y)) (find (is_numbered k) log.takers)

each_same : (f h : ℕ → Bool) → ((k : ℕ) → f k ≡ h k) → (ks : List ℕ) → list_all f ks ≡ list_all h ks
each_same f h same [] = refl
each_same f h same (k ∷ ks) = ap (λ b. b && list_all f ks) (same k) ∙ ap (λ b. h k && b) (each_same f h same ks)

all_shut : (log : Log) (p : Proxy) → all_is_sent (all_closed log) p ≡ all_is_sent log p
all_shut log p =
    ap (λ b. b && list_all (exchange_is_sent (all_closed log) p) (open_exchanges p.tables))
    (each_same (λ k. client_is_sent (all_closed log) k (p.client k)) (λ k. client_is_sent log k (p.client k)) (λ k. client_shut log k (p.client k)) p.accepted)
    ∙ ap (λ b. list_all (λ k. client_is_sent log k (p.client k)) p.accepted && b)
    (each_same (exchange_is_sent (all_closed log) p) (exchange_is_sent log p) (exchange_shut log p) (open_exchanges p.tables))

module _ {B : Type 0} {g : Ghosts B} (n m : ℕ) (limits : Limits) (setting : Setting) (before : Log) (x : loop.Proxy B g) (reported : Option Log)
    (stages : ℕ → Stage) (out out' : Option (List ℕ)) (wait : Bool) (t : IsTurning n m limits setting before x reported stages out out' wait) where
  -- all turns were made, and all connections are closed
  pub turning_ends : (reported' : Option Log) → IsClosed t.log reported' → EndsBy limits setting m before reported' out out' ended.Done
  turning_ends reported' closed =
      let now = is_log_now n m limits setting before x reported stages out out' wait t in
      let same = tables_now n m limits setting before x reported stages out out' wait t in
      record {
        log' = all_closed t.log;
        reported_is = closed;
        bound = t.bound;
        serves =
            Serves.done
            (record {
              fit = now.fit;
              sent = shut_sent (was_sent (dials_from setting t.log.dialled) (behind_all limits setting t.log)) (λ c. refl) t.log.takers ∙ now.sent;
              dialled = now.dialled;
            })
            t.calls
            (record {
              sent = subst (λ (r : Proxy). all_is_sent (all_closed t.log) r ≡ true) same
                  (all_shut t.log t.p ∙ all_sent t.f x t.p t.log t.still.rests t.still.follows.apart);
              dialled = subst (λ (r : Proxy). length (dials_in r t.log) ≡ r.tables.opened) same t.still.rests.opened;
              closed = shut_closed t.log.takers;
            })
            (all_taken n m limits setting before x reported stages out out' wait t)
            (all_scheduled n m limits setting before x reported stages out out' wait t);
      }

-- WHAT WAS WRITTEN, whatever the store counted

pub record IsWriting {B : Type 0} {g : Ghosts B} (n : ℕ) (limits : Limits) (contents : Contents) (x : loop.Proxy B g) (reported : Option Log)
    (stages : ℕ → Stage) (out out' : Option (List ℕ)) (wait : Bool) : Type 0 where
  pub f : Frame
  pub p : Proxy
  pub log : Log
  pub still : IsStill n f x p log reported stages
  pub wait_is : wait ≡ waits f.limits p
  pub limits_are : f.limits ≡ limits
  pub contents_are : f.setting.contents ≡ contents
  pub takes : Takes out out' f.written

module _ {B : Type 0} {g : Ghosts B} where
  pub writing_begins : (n : ℕ) (f : Frame) (x : loop.Proxy B g) (before : Log) (reported : Option Log) (stages : ℕ → Stage) (out : Option (List ℕ)) →
      Begins n f x before reported stages → IsWriting n f.limits f.setting.contents x reported stages out out true
  writing_begins n f x before reported stages out b = record {
    f = f;
    p = unused f.setting;
    log = before;
    still = b.still;
    wait_is = first_waits f.limits f.setting;
    limits_are = refl;
    contents_are = refl;
    takes = subst (Takes out out) (sym b.unwritten) (takes_none out);
  }

module _ {B : Type 0} {g : Ghosts B} (n : ℕ) (limits : Limits) (contents : Contents) (x : loop.Proxy B g) (reported : Option Log) (stages : ℕ → Stage)
    (out out' : Option (List ℕ)) (wait : Bool) (w : IsWriting n limits contents x reported stages out out' wait) where
  -- one more turn
  pub writing_on : (n' : ℕ) (x' : loop.Proxy B g) (reported' : Option Log) (stages' : ℕ → Stage) (new : Option (List ℕ)) (again : Bool) →
      TurnsTo n' w.f w.p w.log x x' reported' stages' out' new again → IsWriting n' limits contents x' reported' stages' out new again
  writing_on n' x' reported' stages' new again to = record {
    f = to.f';
    p = to.p';
    log = to.log';
    still = to.still;
    wait_is = to.again_is ∙ ap (λ l. waits l to.p') (sym to.limits);
    limits_are = to.limits ∙ w.limits_are;
    contents_are = ap (λ (s : Setting). s.contents) to.setting ∙ w.contents_are;
    takes = subst (Takes out new) (sym to.written) (takes_both out out' new w.f.written to.text w.takes to.takes);
  }

  begun_with : (text : List ℕ) → IsRecorded w.f.limits w.f.setting.contents text → IsRecorded limits contents text
  begun_with text is =
      subst (λ (d : Contents). IsRecorded limits d text) w.contents_are (subst (λ (l : Limits). IsRecorded l w.f.setting.contents text) w.limits_are is)

  written_whole : IsRecorded limits contents w.f.written
  written_whole =
      begun_with w.f.written
      (subst (IsRecorded w.f.limits w.f.setting.contents)
      (w.still.rests.cache.text ∙ (ap (λ (z : List ℕ). w.f.written ++ z) w.still.written ∙ append-nil w.f.written))
      (recorded_of w.f x w.p w.still.rests.cache))

  -- all turns were made
  pub writing_ends : Records limits contents out out' ended.Done
  writing_ends = (w.f.written, written_whole, w.takes)

  by_end : (new : Option (List ℕ)) (e : Stop) (text : List ℕ) → IsRecorded limits contents text → TakesPrefix out new text →
      Records limits contents out new (ended_by e)
  by_end new stop.SinkFailed text is takes = (text, is, takes)
  by_end new stop.WireFailed text is takes = (text, is, takes)
  by_end new stop.NoMemory text is takes = (text, is, takes)

  -- a turn was cut short
  pub writing_stops : (x' : loop.Proxy B g) (reported' : Option Log) (new : Option (List ℕ)) (P : Stop → Type 0) (result : Result (Unit {0}) Stop) →
      IsErrAnd result P → TurnStops w.f w.p w.log x x' reported' out' new → Records limits contents out new (ended_as result)
  writing_stops x' reported' new P (Ok done) stops cut = absurd stops
  writing_stops x' reported' new P (Err e) stops cut =
      by_end new e (w.f.written ++ cut.text) (begun_with (w.f.written ++ cut.text) cut.recorded) (record {
        front = w.f.written ++ cut.takes.front;
        rest = cut.takes.rest;
        whole = append_assoc w.f.written cut.takes.front cut.takes.rest ∙ ap (λ (z : List ℕ). w.f.written ++ z) cut.takes.whole;
        takes = takes_both out out' new w.f.written cut.takes.front w.takes cut.takes.takes;
      })

  -- memory was refused behind the last turn
  pub writing_wants : (P : Stop → Type 0) (result : Result (Unit {0}) Stop) → IsErrAnd result P → Records limits contents out out' (ended_as result)
  writing_wants P (Ok done) stops = absurd stops
  writing_wants P (Err e) stops = by_end out' e w.f.written written_whole (takes_all out out' w.f.written w.takes)

-- BEFORE THE FIRST TURN

-- what the wire tells, or nothing yet
abbrev pub log_of : Option Log → Log
log_of None = empty_log
log_of (Some log) = log

pub reported_first : (reported : Option Log) → (reported ≡ None) ⊎ (reported ≡ Some (log_of reported))
reported_first None = inl refl
reported_first (Some log) = inr refl

fresh_first : (reported : Option Log) → IfSome reported IsFresh → IsFresh (log_of reported)
fresh_first None fresh = record { calls = refl; dialled = refl; takers = refl }
fresh_first (Some log) fresh = fresh

abbrev pub frame_of : Limits → Setting → Frame
frame_of limits setting = record { limits = limits; setting = setting; written = []; bytes = 0 }

-- a cache that is stocked with these contents is unused
pub unused_so : {B : Type 0} {g : Ghosts B} (limits : Limits) (setting : Setting) (cache : Cache B g) (last : ℕ) → IsStocked setting.contents cache last →
    limits_in cache ≡ limits → steps cache + bytes_received cache ≡ 0 → last < 2 ^ 61 → IsUnused (frame_of limits setting) cache
unused_so limits setting cache last s same none few = record {
  stands = s.stands;
  room = (let is : last ≡ setting.contents.last_consumer = s.last_is in omega arith);
  limits = same;
  received = omega arith;
  written = refl;
  bounded = omega arith;
}

module _ {B : Type 0} {g : Ghosts B} (n : ℕ) (limits : Limits) (setting : Setting) (x : loop.Proxy B g) (reported : Option Log) (stages : ℕ → Stage)
    (fresh : IfSome reported IsFresh) (unseen : (k : ℕ) → stages k ≡ Unseen)
    (rests : (log : Log) → IsFresh log → Rests (frame_of limits setting) x (unused setting) log) (none : steps x.cache ≡ 0)
    (written : text_of x.record ≡ []) where
  pub loop_begins : Begins n (frame_of limits setting) x (log_of reported) reported stages
  loop_begins =
      let is = fresh_first reported fresh in
      record {
        still = record {
          rests = rests (log_of reported) is;
          follows = record {
            reported_is = reported_first reported;
            stands = λ k. unseen k ∙ sym (ap (λ cs. stage_in cs k) is.takers);
            apart = subst AreApart (sym is.takers) tt;
          };
          within = record { bytes = omega arith; steps_are = omega arith };
          written = written;
        };
        fresh = is;
        unwritten = refl;
      }

-- what the wire tells
pub reported_ends : (limits : Limits) (setting : Setting) → may_begin limits setting.contents ≡ true →
    (turns : ℕ) (log : Log) (reported reported' : Option Log) (out out' : Option (List ℕ)) (end : Ended) →
    (reported ≡ None) ⊎ (reported ≡ Some log) → EndsBy limits setting turns log reported' out out' end →
    ServesWith limits setting turns reported reported' out out' end
reported_ends limits setting may turns log reported None out out' end is e = tt
reported_ends limits setting may turns log reported (Some l) out out' end is e = by_reported e.reported_is
  where
    some_is : (a b : Log) → Some a ≡ Some b → a ≡ b
    some_is a b h = cc

    by_old : (o : Option Log) → (o ≡ None) ⊎ (o ≡ Some log) → (l' : Log) → l'.bound ≡ log.bound → IfSome o (λ old. l'.bound ≡ old.bound)
    by_old None so l' same = tt
    by_old (Some old) (inl none) l' same = absurd (let never : Some old ≡ None = none in cc)
    by_old (Some old) (inr it) l' same = same ∙ ap (λ (z : Log). z.bound) (sym (some_is old log it))

    by_reported : (Some l ≡ None) ⊎ (Some l ≡ Some e.log') → ServesWith limits setting turns reported (Some l) out out' end
    by_reported (inl none) = absurd (let never : Some l ≡ None = none in cc)
    by_reported (inr same) =
        let it : l ≡ e.log' = some_is l e.log' same in
        subst (λ (z : Log). ServesWith limits setting turns reported (Some z) out out' end) (sym it)
        (e.serves, loops_are_runs limits setting e.log' may, by_old reported is e.log' e.bound)
