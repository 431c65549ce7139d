-- The next call of the wire was answered: the turn begins with what rested before it.
--
-- Whose connection doesn't stand any more was let go: it isn't kept, and is gone from now on. All others are as they
-- were, and have taken what the call tells. The log goes on by the call, and each connection stands as the wire says
-- behind it. `begins` joins the tables behind the call, and `on_wire` says how the log stands.
use Rattle.std.{proofs.{Common.{◌≡◌, ◌⊎◌, inl, inr, ◌≤◌, ◌<◌, ◌^◌, ℕ, ◌+◌, ◌*◌, List, [], Bool, true, false, Option, Some, None, refl, ap, sym, ◌∙◌, subst, arith}, lemmas.{Bool.Decides.{nat_tests}, List.{length-take}}}, specs.Prelude.{◌||◌, not, nat_eq, is_some, max, find, length, option_map, Contains, IsSome, if◌then◌else◌}}
use Rattle.hc_peers.specs.Clients.{client_of}
use Rattle.hc_peers.specs.declared.client.Client as peer
use Rattle.hc_store.specs.declared.backend.Backend.{Ghosts}
use Rattle.hc_wire.specs.{Events.{Stage, Unseen, Open, Closed, Fresh, IsOpen, IsOfOpen, FitsIn, ended_of, stages_after, got_bytes}, Logs.{Log, Taker, Called, Reports, is_numbered, over, standings_in, stage_from, stage_in, sent_from, sent_in, takers_with, with_call}, declared.event.WireEvent.{WireEvent}}
use Rattle.hc_wire.specs.declared.event.WireEvent.TheVariants as event
use Rattle.hc_proxy.specs.declared.proxy.Proxy as loop
use Rattle.hc_proxy.specs.{Connections.{dials_from, dials_in, stands, taken_at}, Handling.{begun, seen_at, clients_here, is_client}, Invariants.{HasConsumers}, Keeping.{Frame, Turn, HasCache, HasClients, HasUpstreams, IsClient, IsClientAt, AtWire, Begun}, Resting.{IsRestingAt, Rests}, Rows.{Client, Proxy, Setting}, Serving.{IsStill}, Standings.{client_stands}, Underway.{OnWire}}
use Rattle.hc_proxy.proofs.{Fitting.{client_there_stands, nobody_stands}, Followed.{follows_call, sent_changed, sent_new, unseen_none}, HoldersBegin.{AllStand, begin_keeps}, RowChanges.{fewer}, TakersStand.{taken_found, taken_missing, stands_found, open_taker, sent_found}}

-- what the call tells
abbrev pub called : Log → Bool → ℕ → WireEvent → List ℕ → Called
called log wait moment what bytes = record { wait = wait; moment = moment; event = what; bytes = bytes; standings = standings_in log }

few_got : (what : WireEvent) (slice : List ℕ) (room : ℕ) → FitsIn what room → length (got_bytes what slice) ≤ room
few_got (event.Accepted k) slice room fits = omega arith
few_got (event.Got k n) slice room fits = let size = length-take n slice in let le : n ≤ room = fits.1 in omega arith
few_got (event.Ended k) slice room fits = omega arith
few_got (event.Broke k) slice room fits = omega arith
few_got (event.Room k) slice room fits = omega arith
few_got event.Quiet slice room fits = omega arith

-- a new taker was sent nothing, and no event sends anything
pub sent_by_call : (k : ℕ) (what : WireEvent) (cs : List Taker) → ((j : ℕ) → what ≡ event.Accepted j → find (is_numbered j) cs ≡ None) → sent_in
    (takers_with what cs) k ≡ sent_in cs k
sent_by_call k (event.Accepted j) cs new = sent_new j k cs (new j refl)
sent_by_call k (event.Got j n) cs new = refl
sent_by_call k (event.Ended j) cs new = sent_changed over (λ c. refl) (λ c. refl) j k cs
sent_by_call k (event.Broke j) cs new = refl
sent_by_call k (event.Room j) cs new = refl
sent_by_call k event.Quiet cs new = refl

-- who is closed stays so
pub closed_by_call : (k : ℕ) (what : WireEvent) (stages : ℕ → Stage) → IsOfOpen what stages → stages k ≡ Closed → stages_after what stages k ≡ Closed
closed_by_call k (event.Accepted j) stages of_open shut = by_test (nat_eq k j) refl
  where
    by_test : (b : Bool) → nat_eq k j ≡ b → (if b then Fresh else stages k) ≡ Closed
    by_test true is =
        let same : k ≡ j = grind (arith, nat_tests) in
        absurd (let never : Unseen ≡ Closed = sym of_open ∙ (ap stages (sym same) ∙ shut) in cc)
    by_test false is = shut
closed_by_call k (event.Got j n) stages of_open shut = shut
closed_by_call k (event.Ended j) stages of_open shut = by_test (nat_eq k j) refl
  where
    by_test : (b : Bool) → nat_eq k j ≡ b → (if b then ended_of (stages j) else stages k) ≡ Closed
    by_test true is =
        let same : k ≡ j = grind (arith, nat_tests) in
        ap ended_of (ap stages (sym same) ∙ shut)
    by_test false is = shut
closed_by_call k (event.Broke j) stages of_open shut = shut
closed_by_call k (event.Room j) stages of_open shut = shut
closed_by_call k event.Quiet stages of_open shut = shut

none_in : (k : ℕ) → Contains [] k → ⊥
none_in k (i, lt, at) = omega arith

mapped_some : {A : Type 0} (change : A → A) (o : Option A) → IsSome (option_map change o) → IsSome o
mapped_some change None some = some
mapped_some change (Some a) some = refl

mapped_none : {A : Type 0} (change : A → A) (o : Option A) → o ≡ None → option_map change o ≡ None
mapped_none change o is = ap (option_map change) is

module _ {B : Type 0} {g : Ghosts B} (n : ℕ) (f : Frame) (x : loop.Proxy B g) (p : Proxy) (log : Log) (reported reported' : Option Log)
    (stages stages' : ℕ → Stage) (s : IsStill n f x p log reported stages)
    (wait : Bool) (moment : ℕ) (what : WireEvent) (slice : List ℕ) (of_open : IsOfOpen what stages)
    (stand : (k : ℕ) → stages' k ≡ stages_after what stages k) (fits : FitsIn what 16384) (early : moment < 2 ^ 62) (many : n + 1 ≤ 2 ^ 45) where
  abbrev pub call : Called
  call = called log wait moment what (got_bytes what slice)

  abbrev pub frame : Frame
  frame = record f { bytes = f.bytes + length (got_bytes what slice) }

  abbrev pub turn : Turn
  turn = record { frame = frame; call = call; dialled = dials_in p log; stages = stages' }

  abbrev pub x' : loop.Proxy B g
  x' = record x { now = max x.now moment; moved = false }

  abbrev r : Rests f x p log
  r = s.rests

  pub few_bytes : length (got_bytes what slice) ≤ 16384
  few_bytes = few_got what slice 16384 fits

  pub enough : f.bytes + length (got_bytes what slice) ≤ 16384 * (n + 1)
  enough = let le = s.within.bytes in let le' = few_bytes in omega arith

  cache : HasCache frame x' (begun call p)
  cache = record {
    setting = r.cache.setting;
    stands = r.cache.stands;
    same = r.cache.same;
    limits = r.cache.limits;
    now = ap (λ m. max m moment) r.cache.now;
    early = let lt : p.moment < 2 ^ 62 = r.cache.early in omega arith;
    last = let le = r.cache.last in omega arith;
    starts = r.cache.starts;
    front = r.cache.front;
    last_start = r.cache.last_start;
    text = r.cache.text;
    recorded = r.cache.recorded;
    before = let le = r.cache.before in omega arith;
    unopened = r.cache.unopened;
    small = let le = r.cache.small in omega arith;
    bounded = let le = enough in omega arith;
    room = r.cache.room;
    headed = r.cache.headed;
    targets = r.cache.targets;
    timed = r.cache.timed;
  }

  -- CLIENTS

  taken_open : (k : ℕ) (reads ended : Bool) → stage_in log.takers k ≡ Open reads ended → taken_at call k ≡ length (sent_in log.takers k)
  taken_open k reads ended is =
      let o = open_taker k reads ended log.takers is in
      taken_found log call refl s.follows.apart k o.c o.found o.live ∙ sym (ap length (sent_found k o.c log.takers o.found))

  stands_open : (k : ℕ) (reads ended : Bool) → stage_in log.takers k ≡ Open reads ended → stands call k ≡ true
  stands_open k reads ended is =
      let o = open_taker k reads ended log.takers is in
      stands_found log call refl s.follows.apart k o.c o.found ∙ o.live

  seen_open : (k : ℕ) (row : Client) → stands call k ≡ true → seen_at call k row ≡ row
  seen_open k row is = by_gone row.gone
    where
      by_stands : (b : Bool) → b ≡ true → (if b then row else record row { gone = true; let_go = true }) ≡ row
      by_stands true on = refl
      by_stands false on = absurd (let never : false ≡ true = on in cc)

      by_gone : (a : Bool) → (if (a || stands call k) then row else record row { gone = true; let_go = true }) ≡ row
      by_gone true = refl
      by_gone false = by_stands (stands call k) is

  -- one that isn't kept is gone now
  seen_gone : (k : ℕ) (row : Client) → (row.gone ≡ true) ⊎ (stands call k ≡ false) → (seen_at call k row).gone ≡ true
  seen_gone k row (inl gone) = by_gone (row.gone || stands call k)
    where
      by_gone : (b : Bool) → (if b then row else record row { gone = true; let_go = true }).gone ≡ true
      by_gone true = gone
      by_gone false = refl
  seen_gone k row (inr off) = by_gone row.gone refl (stands call k) off
    where
      by_gone : (a : Bool) → row.gone ≡ a → (b : Bool) → b ≡ false → (if (a || b) then row else record row { gone = true; let_go = true }).gone ≡ true
      by_gone true is b shut = is
      by_gone false is true shut = absurd (let never : true ≡ false = shut in cc)
      by_gone false is false shut = refl

  client_row : (k : ℕ) → IsClientAt (taken_at call k) (client_of x.clients k) (option_map (seen_at call k) (p.client k))
  client_row k = by_row (client_of x.clients k) (p.client k) refl refl (r.clients k)
    where
      by_end : (row : Client) → client_of x.clients k ≡ None → p.client k ≡ Some row →
          (row.gone ≡ true) ⊎ ((row.closing ≡ true) × (length row.owed ≤ length (sent_in log.takers k))) → (row.gone ≡ true) ⊎ (stands call k ≡ false)
      by_end row none at (inl gone) = inl gone
      by_end row none at (inr ends) = inr (nobody_stands f x p log r s.follows.apart call refl k none (ap is_some at))

      by_row : (o : Option peer.Client) (q : Option Client) → client_of x.clients k ≡ o → p.client k ≡ q → IsRestingAt log k o q →
          IsClientAt (taken_at call k) o (option_map (seen_at call k) q)
      by_row None None at at' is = tt
      by_row None (Some row) at at' is = seen_gone k row (by_end row at at' is)
      by_row (Some w) None at at' is = absurd is
      by_row (Some w) (Some row) at at' is =
          let open_now = r.wire.clients k w at in
          let same : seen_at call k row ≡ row = seen_open k row (stands_open k w.reading open_now.0 open_now.1) in
          let taken : taken_at call k ≡ length (sent_in log.takers k) = taken_open k w.reading open_now.0 open_now.1 in
          subst (λ (q : Client). IsClient (taken_at call k) w q) (sym same) (subst (λ m. IsClient m w row) (sym taken) is.is_client)

  here_before : (k : ℕ) → is_client (option_map (seen_at call k) (p.client k)) ≡ true → is_client (p.client k) ≡ true
  here_before k = by_row (p.client k)
    where
      by_gone : (row : Client) (b : Bool) → not (if b then row else record row { gone = true; let_go = true }).gone ≡ true → not row.gone ≡ true
      by_gone row true is = is
      by_gone row false is = absurd (let never : false ≡ true = is in cc)

      by_row : (o : Option Client) → is_client (option_map (seen_at call k) o) ≡ true → is_client o ≡ true
      by_row None is = is
      by_row (Some row) is = by_gone row (row.gone || stands call k) is

  clients : HasClients turn x' (begun call p)
  clients = record {
    rows = client_row;
    order = r.order;
    listed = λ k some. r.listed k (mapped_some (seen_at call k) (p.client k) some);
    few = let fewer_here : length (clients_here (begun call p)) ≤ length (clients_here p) =
        fewer (λ k. is_client (p.client k)) (λ k. is_client (option_map (seen_at call k) (p.client k))) p.accepted here_before in let le = r.few in omega arith;
  }

  all_stand : AllStand call p
  all_stand k row at = sym (ap (client_stands call p k) at) ∙ client_there_stands f x p log r s.follows.apart call refl k

  consumers : HasConsumers (begun call p)
  consumers = begin_keeps call p all_stand
      (record {
        held = r.consumers.held;
        started = r.consumers.started;
        live = r.consumers.live;
        alive = λ k c w. inl (r.alive k c w);
        idle =
            r.consumers.idle;
      })

  -- THE WIRE

  wire_before : AtWire stages x'
  wire_before = record {
    clients = λ k c at. let was = r.wire.clients k c at in (was.0, s.follows.stands k ∙ was.1);
    upstreams = λ y u at. let was = r.wire.upstreams y u at in (was.0, s.follows.stands u.k ∙ was.1);
    all = λ k opens. r.wire.all k (subst IsOpen (s.follows.stands k) opens);
    closed = r.wire.closed;
  }

  ups : HasUpstreams (record turn { stages = stages }) x p []
  ups = let u = r.upstreams call stages in
      record {
        rows = u.rows;
        numbers = u.numbers;
        over = u.over;
        news = u.news;
        touched = u.touched;
        opens = u.opens;
        names = u.names;
        strangers =
            u.strangers;
      }

  pub begins : Begun turn x' (begun call p) what slice
  begins = record {
    event_is = refl;
    bytes = refl;
    before = stages;
    of_open = of_open;
    stages = stand;
    keeps = record {
      cache = cache;
      acts = r.acts;
      clients = record { rows = clients.rows; order = clients.order; listed = clients.listed; few = clients.few };
      consumers = consumers;
      upstreams = record {
        rows = ups.rows;
        numbers = ups.numbers;
        over = ups.over;
        news = ups.news;
        touched = ups.touched;
        opens = ups.opens;
        names = ups.names;
        strangers = λ k some. ups.strangers k (mapped_some (seen_at call k) (p.client k) some);
      };
      wire = wire_before;
      numbers = r.numbers;
      opened = r.opened_by;
      seen = λ k is. let none = r.seen k (sym (s.follows.stands k) ∙ is) in (mapped_none (seen_at call k) (p.client k) none.0, none.1, none.2);
      shut = λ y closes. absurd (let never : false ≡ true = closes in cc);
      known = λ k among unseen. none_in k (subst (λ ks. Contains ks k) r.closed among);
    };
    moved = refl;
    closed = r.closed;
    part = refl;
    room = let le = r.cache.small in omega arith;
    untaken = λ k is. taken_missing log call refl s.follows.apart k (unseen_none k log.takers (sym (s.follows.stands k) ∙ is));
  }

  -- who doesn't stand any more is gone, or has taken all
  pub ended : (k : ℕ) (row : Client) → p.client k ≡ Some row → (row.gone ≡ true) ⊎ (stands call k ≡ true) ⊎ (length row.owed ≤ length (sent_in log.takers k))
  ended k row at = by_row (client_of x.clients k) refl (subst (IsRestingAt log k (client_of x.clients k)) at (r.clients k))
    where
      by_end : (row.gone ≡ true) ⊎ ((row.closing ≡ true) × (length row.owed ≤ length (sent_in log.takers k))) →
          (row.gone ≡ true) ⊎ (stands call k ≡ true) ⊎ (length row.owed ≤ length (sent_in log.takers k))
      by_end (inl is) = inl is
      by_end (inr (closing, all)) = inr (inr all)

      by_row : (o : Option peer.Client) → client_of x.clients k ≡ o → IsRestingAt log k o (Some row) →
          (row.gone ≡ true) ⊎ (stands call k ≡ true) ⊎ (length row.owed ≤ length (sent_in log.takers k))
      by_row None there is = by_end is
      by_row (Some w) there is = let open_now = r.wire.clients k w there in inr (inl (stands_open k w.reading open_now.0 open_now.1))

  -- AND THE LOG

  abbrev pub log' : Log
  log' = with_call wait moment what (got_bytes what slice) log

  pub new_one : (j : ℕ) → what ≡ event.Accepted j → find (is_numbered j) log.takers ≡ None
  new_one j is = unseen_none j log.takers (sym (s.follows.stands j) ∙ subst (λ (w : WireEvent). IsOfOpen w stages) is of_open)

  pub sent_same : (k : ℕ) → sent_in log'.takers k ≡ sent_in log.takers k
  sent_same k = sent_by_call k what log.takers new_one

  taken_same : (k : ℕ) → (stages' k ≡ Closed) ⊎ (taken_at call k ≡ length (sent_in log'.takers k))
  taken_same k = by_found (find (is_numbered k) log.takers) refl
    where
      by_live : (c : Taker) → find (is_numbered k) log.takers ≡ Some c → (b : Bool) → c.live ≡ b →
          (stages' k ≡ Closed) ⊎ (taken_at call k ≡ length (sent_in log'.takers k))
      by_live c found true live =
          inr (taken_found log call refl s.follows.apart k c found live ∙ (sym (ap length (sent_found k c log.takers found)) ∙ sym (ap length (sent_same k))))
      by_live c found false live =
          inl (stand k ∙ closed_by_call k what stages of_open
          (s.follows.stands k ∙ (ap stage_from found ∙ ap (λ b. if b then Open c.reads c.ended else Closed) live)))

      by_found : (o : Option Taker) → find (is_numbered k) log.takers ≡ o → (stages' k ≡ Closed) ⊎ (taken_at call k ≡ length (sent_in log'.takers k))
      by_found None found = inr
          (taken_missing log call refl s.follows.apart k found ∙ (sym (ap (λ o. length (sent_from o)) found) ∙ sym (ap length (sent_same k))))
      by_found (Some c) found = by_live c found c.live refl

  pub on_wire : Reports reported reported' (with_call wait moment what (got_bytes what slice)) → OnWire turn log' reported' stages'
  on_wire reports = record {
    follows = follows_call reported reported' stages stages' log s.follows wait moment what (got_bytes what slice) of_open reports stand;
    stands = λ k. refl;
    dialled = ap (λ (c : Setting). dials_from c log.dialled) (sym r.cache.setting);
    taken = taken_same;
  }
