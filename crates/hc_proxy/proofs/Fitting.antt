-- The next call fits what rests between turns: who stands, who is read, and what each lacks.
--
-- Each connection that is open is that of a client or of an exchange (`who_stands`). Of it the wire was told whether it
-- is read, and it lacks something only where it took less than it was offered. The other way round, each client that
-- isn't to be closed and each open exchange has a connection, which is open.
use Rattle.std.{proofs.{Common.{◌≡◌, ◌⊎◌, inl, inr, ◌≤◌, ℕ, List, [], ◌∷◌, ◌++◌, Bool, true, false, Option, Some, None, refl, ap, sym, ◌∙◌, subst, arith}, lemmas.{Bool.Decides.{nat_tests}, List.{reverse-append}}, Math.Seq.{take-length}}, specs.{Prelude.{◌&&◌, ◌||◌, not, nat_eq, nat_lt, is_none, is_some, find, length, take, filter, reverse, Contains, IsSome}, List.{list_all}}}
use Rattle.hc_text.proofs.Basics.{and_left, and_right, both_true as both_hold, some_inj as some_is}
use Rattle.hc_effects.proofs.Vocabulary.{is_open, is_wanted, Sound}
use Rattle.hc_peers.specs.{Clients.{client_of}, Peers.{is_idle, is_same}, Upstreams.{upstream_of}}
use Rattle.hc_peers.specs.declared.client.Client as peer
use Rattle.hc_peers.specs.declared.upstream.Upstream as origin
use Rattle.hc_store.specs.declared.backend.Backend.{Ghosts}
use Rattle.hc_wire.specs.{Events.{Stage, Open, IsOpen}, Logs.{Log, Taker, Called, is_numbered, is_at_end, standings_in, stage_in, sent_in}, declared.connection.Standing.{Standing}}
use Rattle.hc_proxy.specs.declared.proxy.Proxy as loop
use Rattle.hc_proxy.specs.{Connections.{dials_in, exchange_of, stands, taken_at, has_unsent}, Keeping.{Frame, IsClient, IsUpstream, IsUpstreamAt, HasUpstreams}, Listening.{is_read, reads_right}, Logging.{AreApart, short_from, is_short}, Loops.{Fits}, Network.{open_exchanges}, Resting.{IsRestingClient, IsRestingAt, Rests, resting_call}, Rows.{Client, Upstream, Proxy}, Sending.{owed_by, owed_to, is_sent, sends_right}, Standings.{Whose, OfClient, OfExchange, OfNobody, whose_by, whose, may_stand, is_right, client_stands, number_stands, exchange_stands, stand_right}, Turns.{so_far}, Waiting.{waits}}
use Rattle.hc_proxy.proofs.{KeepsOn.{dialled_within}, Rows.{sent_all}, Stands.{is_sound}, StepOn.{stands_of}, TakersStand.{found_number, taken_found, stands_found, stands_missing, standings_all, taker_stage, sent_found, open_taker}}
use Rattle.hc_state.proofs.LeftRows.{all_passing}

-- LISTS

all_append : (test : ℕ → Bool) (xs ys : List ℕ) → list_all test xs ≡ true → list_all test ys ≡ true → list_all test (xs ++ ys) ≡ true
all_append test [] ys a b = b
all_append test (x ∷ xs) ys a b =
    both_hold (test x) (list_all test (xs ++ ys)) (and_left (test x) (list_all test xs) a) (all_append test xs ys (and_right (test x) (list_all test xs) a) b)

pub all_reversed : (test : ℕ → Bool) (xs : List ℕ) → list_all test xs ≡ true → list_all test (reverse xs) ≡ true
all_reversed test [] a = refl
all_reversed test (x ∷ xs) a =
    ap (list_all test) (reverse-append (x ∷ []) xs)
    ∙ all_append test (reverse xs) (x ∷ []) (all_reversed test xs (and_right (test x) (list_all test xs) a))
    (both_hold (test x) true (and_left (test x) (list_all test xs) a) refl)

-- SMALL TESTS

may_client : (gone closing lacks : Bool) → gone ≡ false → (closing && not lacks) ≡ false → (not gone && (not closing || lacks)) ≡ true
may_client true closing lacks here over = absurd (let never : true ≡ false = here in cc)
may_client false true true here over = refl
may_client false true false here over = absurd (let never : true ≡ false = over in cc)
may_client false false lacks here over = refl

-- what is unsent is empty just if nothing is lacking
all_taken : (taken : ℕ) (c : peer.Client) (r : Client) → IsClient taken c r → nat_eq (length c.unsent) 0 ≡ not (nat_lt taken (length r.owed))
all_taken taken c r is = sent_all taken r.owed c.unsent is.within is.unsent

none_lacks : (short lacks : Bool) (n taken owed : ℕ) → n ≡ 0 → nat_eq n 0 ≡ not (nat_lt taken owed) → (short || not (nat_lt taken owed)) ≡ true
none_lacks true lacks n taken owed none is = refl
none_lacks false lacks n taken owed none is = sym is ∙ (let test : nat_eq n 0 ≡ true = grind (arith, nat_tests) in test)

abbrev reads_of : Stage → Bool
reads_of (Open reads ended) = reads
reads_of _ = false

module _ {B : Type 0} {g : Ghosts B} (f : Frame) (x : loop.Proxy B g) (p : Proxy) (log : Log) (r : Rests f x p log) (apart : AreApart log.takers)
    (call : Called) (reported : call.standings ≡ standings_in log) where
  -- WHO STANDS

  record IsOfClient (c : Taker) : Type 0 where
    w : peer.Client
    at : client_of x.clients c.k ≡ Some w
    row : Client
    row_is : p.client c.k ≡ Some row
    rests : IsRestingClient log c.k w row
    whose_is : exchange_of (dials_in p log) c.k ≡ None
    reads : c.reads ≡ w.reading

  record IsOfExchange (c : Taker) : Type 0 where
    y : ℕ
    u : origin.Upstream
    at : upstream_of x.upstreams y ≡ Some u
    number : u.k ≡ c.k
    live : is_open (p.tables.exchange y) ≡ true
    whose_is : exchange_of (dials_in p log) c.k ≡ Some y
    row : Upstream
    row_is : p.upstream y ≡ Some row
    is : IsUpstream (taken_at call c.k) u row
    reads : c.reads ≡ u.reading

  ups : HasUpstreams (record { frame = f; call = resting_call log call; dialled = dials_in p log; stages = stage_in log.takers }) x p []
  ups = r.upstreams call (stage_in log.takers)

  taken_same : (k : ℕ) → taken_at (resting_call log call) k ≡ taken_at call k
  taken_same k = ap (λ ss. taken_at (record call { standings = ss }) k) (sym reported)

  reading_is : (c : Taker) (reads ended : Bool) → stage_in log.takers c.k ≡ Open c.reads c.ended → stage_in log.takers c.k ≡ Open reads ended → c.reads ≡ reads
  reading_is c reads ended one two = ap reads_of (sym one ∙ two)

  client_there : (c : Taker) → stage_in log.takers c.k ≡ Open c.reads c.ended → IsSome (client_of x.clients c.k) → IsOfClient c
  client_there c stage some = by_row (client_of x.clients c.k) (p.client c.k) refl refl some (r.clients c.k)
    where
      by_row : (o : Option peer.Client) (s : Option Client) → client_of x.clients c.k ≡ o → p.client c.k ≡ s → IsSome o → IsRestingAt log c.k o s → IsOfClient c
      by_row None s at row_is there is = absurd (let never : false ≡ true = there in cc)
      by_row (Some w) None at row_is there is = absurd is
      by_row (Some w) (Some row) at row_is there is = record {
        w = w;
        at = at;
        row = row;
        row_is = row_is;
        rests = is;
        whose_is = ups.strangers c.k (ap is_some row_is);
        reads = let open_now = r.wire.clients c.k w at in reading_is c w.reading open_now.0 stage open_now.1;
      }

  no_close : (b : Bool) → (b ≡ true) ⊎ (false ≡ true) → b ≡ true
  no_close b (inl is) = is
  no_close b (inr never) = absurd (let no : false ≡ true = never in cc)

  exchange_there : (c : Taker) (y : ℕ) (u : origin.Upstream) → stage_in log.takers c.k ≡ Open c.reads c.ended → upstream_of x.upstreams y ≡ Some u →
      u.k ≡ c.k → IsOfExchange c
  exchange_there c y u stage at number = by_row (upstream_of x.upstreams y) (p.upstream y) at refl (ups.rows y live within)
    where
      live : is_open (p.tables.exchange y) ≡ true
      live = no_close (is_open (p.tables.exchange y)) (ups.over y (ap is_some at))

      within : y ≤ length (dials_in p log)
      within = dialled_within (dials_in p log) y u.k (ups.numbers y u at)

      whose_it : exchange_of (dials_in p log) c.k ≡ Some y
      whose_it = subst (λ n. exchange_of (dials_in p log) n ≡ Some y) number (ups.names y u.k (ups.numbers y u at))

      by_row : (o : Option origin.Upstream) (s : Option Upstream) → o ≡ Some u → p.upstream y ≡ s → IsUpstreamAt (taken_at (resting_call log call)) o s →
          IsOfExchange c
      by_row None s is row_is there = absurd (let never : None ≡ Some u = is in cc)
      by_row (Some w) None is row_is there = absurd there
      by_row (Some w) (Some row) is row_is there = record {
        y = y;
        u = u;
        at = at;
        number = number;
        live = live;
        whose_is = whose_it;
        row = row;
        row_is = row_is;
        is =
            let same : w ≡ u = some_is w u is in
            let taken : taken_at (resting_call log call) w.k ≡ taken_at call c.k =
            ap (λ (v : origin.Upstream). taken_at (resting_call log call) v.k) same ∙ (ap (taken_at (resting_call log call)) number ∙ taken_same c.k) in
            subst (λ (v : origin.Upstream). IsUpstream (taken_at call c.k) v row) same (subst (λ n. IsUpstream n w row) taken there);
        reads = let open_now = r.wire.upstreams y u at in
            reading_is c u.reading open_now.0 stage (subst (λ n. stage_in log.takers n ≡ Open u.reading open_now.0) number open_now.1);
      }

  nobody_closed : (k : ℕ) → Contains x.closed.items k → ⊥
  nobody_closed k among = by_items x.closed.items r.closed among
    where
      by_items : (ks : List ℕ) → ks ≡ [] → Contains ks k → ⊥
      by_items [] is (n, lt, at) = omega arith
      by_items (j ∷ js) is among = let never : j ∷ js ≡ [] = is in cc

  who_stands : (c : Taker) → find (is_numbered c.k) log.takers ≡ Some c → c.live ≡ true → IsOfClient c ⊎ IsOfExchange c
  who_stands c found live = by_who (r.wire.all c.k (subst IsOpen (sym stage) tt))
    where
      stage : stage_in log.takers c.k ≡ Open c.reads c.ended
      stage = taker_stage c.k c log.takers found live

      by_who : IsSome (client_of x.clients c.k) ⊎ ((y : ℕ) × (u : origin.Upstream) × (upstream_of x.upstreams y ≡ Some u) × (u.k ≡ c.k)) ⊎ Contains
          x.closed.items c.k → IsOfClient c ⊎ IsOfExchange c
      by_who (inl some) = inl (client_there c stage some)
      by_who (inr (inl (y, u, at, number))) = inr (exchange_there c y u stage at number)
      by_who (inr (inr among)) = absurd (nobody_closed c.k among)

  -- WHOSE THEY ARE

  client_whose : (c : Taker) (w : IsOfClient c) → whose (dials_in p log) p c.k ≡ OfClient w.row
  client_whose c w = ap (whose_by p c.k) w.whose_is ∙ ap client_or w.row_is
    where
      client_or : Option Client → Whose
      client_or None = OfNobody
      client_or (Some client) = OfClient client

  exchange_whose : (c : Taker) (w : IsOfExchange c) → whose (dials_in p log) p c.k ≡ OfExchange w.y
  exchange_whose c w = ap (whose_by p c.k) w.whose_is

  -- WHO MAY STAND

  client_taken : (c : Taker) → find (is_numbered c.k) log.takers ≡ Some c → c.live ≡ true → taken_at call c.k ≡ length (sent_in log.takers c.k)
  client_taken c found live = taken_found log call reported apart c.k c found live ∙ sym (ap length (sent_found c.k c log.takers found))

  lacks_nothing : (c : Taker) (found : find (is_numbered c.k) log.takers ≡ Some c) (live : c.live ≡ true) (w : IsOfClient c) →
      nat_eq (length w.w.unsent) 0 ≡ not (has_unsent call c.k w.row)
  lacks_nothing c found live w =
      all_taken (length (sent_in log.takers c.k)) w.w w.row w.rests.is_client
      ∙ ap (λ n. not (nat_lt n (length w.row.owed))) (sym (client_taken c found live))

  one_right : (c : Taker) → find (is_numbered c.k) log.takers ≡ Some c → c.live ≡ true → may_stand call p c.k (whose (dials_in p log) p c.k) ≡ true
  one_right c found live = by_who (who_stands c found live)
    where
      by_who : IsOfClient c ⊎ IsOfExchange c → may_stand call p c.k (whose (dials_in p log) p c.k) ≡ true
      by_who (inl w) =
          ap (may_stand call p c.k) (client_whose c w)
          ∙ may_client w.row.gone w.row.closing (has_unsent call c.k w.row) w.rests.is_client.here
          (ap (λ b. b && not (has_unsent call c.k w.row)) (sym w.rests.is_client.closing) ∙
          (ap (λ b. w.w.closing && b) (sym (lacks_nothing c found live w)) ∙ w.rests.stays))
      by_who (inr w) = ap (may_stand call p c.k) (exchange_whose c w) ∙ w.live

  -- WHO IS READ

  one_read : (c : Taker) → find (is_numbered c.k) log.takers ≡ Some c → c.live ≡ true →
      is_same c.reads (is_read call p c.k (whose (dials_in p log) p c.k)) ≡ true
  one_read c found live = by_who (who_stands c found live)
    where
      by_who : IsOfClient c ⊎ IsOfExchange c → is_same c.reads (is_read call p c.k (whose (dials_in p log) p c.k)) ≡ true
      by_who (inl w) =
          ap (is_same c.reads) (ap (is_read call p c.k) (client_whose c w) ∙ sym idle)
          ∙ (ap (λ b. is_same b (is_idle w.w)) w.reads ∙ w.rests.reads)
        where
          idle : is_idle w.w ≡ (is_none w.row.consumer && not (has_unsent call c.k w.row))
          idle = ap (λ o. is_none o && nat_eq (length w.w.unsent) 0) w.rests.is_client.consumer ∙
              ap (λ b. is_none w.row.consumer && b) (lacks_nothing c found live w)
      by_who (inr w) =
          ap (is_same c.reads) (ap (is_read call p c.k) (exchange_whose c w))
          ∙ (ap (λ b. is_same b (is_wanted (p.tables.exchange w.y))) w.reads ∙ (r.resting w.y w.u w.at).reads)

  -- WHAT EACH LACKS

  short_is : (c : Taker) → find (is_numbered c.k) log.takers ≡ Some c → is_short log c.k ≡ true → is_at_end c.short (length log.calls) ≡ true
  short_is c found is = ap (λ o. is_at_end (short_from o) (length log.calls)) (sym found) ∙ is

  short_first : (a b : Bool) → a ≡ true → (a || b) ≡ true
  short_first true b is = refl
  short_first false b is = absurd (let never : false ≡ true = is in cc)

  one_sent : (c : Taker) → find (is_numbered c.k) log.takers ≡ Some c → c.live ≡ true →
      (is_at_end c.short (length log.calls) || not (nat_lt (length c.sent) (owed_to p (whose (dials_in p log) p c.k)))) ≡ true
  one_sent c found live = by_who (who_stands c found live)
    where
      taken : taken_at call c.k ≡ length c.sent
      taken = taken_found log call reported apart c.k c found live

      short : Bool
      short = is_at_end c.short (length log.calls)

      empty_length : {A : Type 0} (xs : List A) → xs ≡ [] → length xs ≡ 0
      empty_length xs is = ap length is

      client_by : (w : IsOfClient c) → (w.w.unsent ≡ []) ⊎ (is_short log c.k ≡ true) →
          (is_at_end c.short (length log.calls) || not (nat_lt (length c.sent) (length w.row.owed))) ≡ true
      client_by w (inr is) = short_first (is_at_end c.short (length log.calls)) _ (short_is c found is)
      client_by w (inl none) =
          none_lacks (is_at_end c.short (length log.calls)) true (length w.w.unsent) (length c.sent) (length w.row.owed) (empty_length w.w.unsent none)
          (lacks_nothing c found live w ∙ ap (λ n. not (nat_lt n (length w.row.owed))) taken)

      origin_by : (w : IsOfExchange c) → (w.u.unsent ≡ []) ⊎ (is_short log w.u.k ≡ true) →
          (is_at_end c.short (length log.calls) || not (nat_lt (length c.sent) (length w.row.owed))) ≡ true
      origin_by w (inr is) = short_first (is_at_end c.short (length log.calls)) _ (short_is c found (subst (λ n. is_short log n ≡ true) w.number is))
      origin_by w (inl none) =
          none_lacks (is_at_end c.short (length log.calls)) true (length w.u.unsent) (length c.sent) (length w.row.owed) (empty_length w.u.unsent none)
          (sent_all (taken_at call c.k) w.row.owed w.u.unsent w.is.within w.is.unsent ∙ ap (λ n. not (nat_lt n (length w.row.owed))) taken)

      owed_row : (w : IsOfExchange c) → owed_to p (whose (dials_in p log) p c.k) ≡ length w.row.owed
      owed_row w = ap (owed_to p) (exchange_whose c w) ∙ ap owed_by w.row_is

      by_who : IsOfClient c ⊎ IsOfExchange c →
          (is_at_end c.short (length log.calls) || not (nat_lt (length c.sent) (owed_to p (whose (dials_in p log) p c.k)))) ≡ true
      by_who (inl w) = ap (λ n. is_at_end c.short (length log.calls) || not (nat_lt (length c.sent) n)) (ap (owed_to p) (client_whose c w)) ∙
          client_by w w.rests.lacks
      by_who (inr w) = ap (λ n. is_at_end c.short (length log.calls) || not (nat_lt (length c.sent) n)) (owed_row w) ∙
          origin_by w (r.resting w.y w.u w.at).lacks

  -- WHO STANDS, of those that are to

  open_stands : (k : ℕ) (reads ended : Bool) → stage_in log.takers k ≡ Open reads ended → stands call k ≡ true
  open_stands k reads ended stage =
      let o = open_taker k reads ended log.takers stage in
      stands_found log call reported apart k o.c o.found ∙ o.live

  third_of : (a b d : Bool) → d ≡ true → (a || b || d) ≡ true
  third_of true b d is = refl
  third_of false true d is = refl
  third_of false false d is = is

  second_of : (a b d : Bool) → b ≡ true → (a || b || d) ≡ true
  second_of true b d is = refl
  second_of false true d is = refl
  second_of false false d is = absurd (let never : false ≡ true = is in cc)

  first_of : (a b d : Bool) → a ≡ true → (a || b || d) ≡ true
  first_of true b d is = refl
  first_of false b d is = absurd (let never : false ≡ true = is in cc)

  pub client_there_stands : (k : ℕ) → client_stands call p k (p.client k) ≡ true
  client_there_stands k = by_row (client_of x.clients k) (p.client k) refl (r.clients k)
    where
      by_end : (row : Client) → (row.gone ≡ true) ⊎ ((row.closing ≡ true) × (length row.owed ≤ length (sent_in log.takers k))) →
          (row.gone || row.closing || stands call k) ≡ true
      by_end row (inl gone) = first_of row.gone row.closing (stands call k) gone
      by_end row (inr (closing, all)) = second_of row.gone row.closing (stands call k) closing

      by_row : (o : Option peer.Client) (s : Option Client) → client_of x.clients k ≡ o → IsRestingAt log k o s → client_stands call p k s ≡ true
      by_row o None at is = refl
      by_row None (Some row) at is = by_end row is
      by_row (Some w) (Some row) at is =
          third_of row.gone row.closing (stands call k) (let open_now = r.wire.clients k w at in open_stands k w.reading open_now.0 open_now.1)

  -- whose connection is none of these doesn't stand
  pub nobody_stands : (k : ℕ) → client_of x.clients k ≡ None → IsSome (p.client k) → stands call k ≡ false
  nobody_stands k none some = by_found (find (is_numbered k) log.takers) refl
    where
      by_who : (c : Taker) → c.k ≡ k → IsOfClient c ⊎ IsOfExchange c → ⊥
      by_who c number (inl w) = let never : None ≡ Some w.w = sym none ∙ (ap (client_of x.clients) (sym number) ∙ w.at) in cc
      by_who c number (inr w) = let never : None ≡ Some w.y = sym (ups.strangers k some) ∙ (ap (exchange_of (dials_in p log)) (sym number) ∙ w.whose_is) in cc

      by_live : (c : Taker) → find (is_numbered k) log.takers ≡ Some c → (b : Bool) → c.live ≡ b → c.live ≡ false
      by_live c found false live = live
      by_live c found true live =
          let number : c.k ≡ k = found_number k c log.takers found in
          absurd (by_who c number (who_stands c (ap (λ n. find (is_numbered n) log.takers) number ∙ found) live))

      by_found : (o : Option Taker) → find (is_numbered k) log.takers ≡ o → stands call k ≡ false
      by_found None found = stands_missing log call reported apart k found
      by_found (Some c) found = stands_found log call reported apart k c found ∙ by_live c found c.live refl

  exchange_there_stands : (y : ℕ) → is_open (p.tables.exchange y) ≡ true → y ≤ p.tables.opened → exchange_stands call (dials_in p log) y ≡ true
  exchange_there_stands y live within = by_row (upstream_of x.upstreams y) (p.upstream y) refl (ups.rows y live (subst (λ n. y ≤ n) (sym r.opened) within))
    where
      by_row : (o : Option origin.Upstream) (s : Option Upstream) → upstream_of x.upstreams y ≡ o → IsUpstreamAt (taken_at (resting_call log call)) o s →
          exchange_stands call (dials_in p log) y ≡ true
      by_row None s at is = absurd is
      by_row (Some u) None at is = absurd is
      by_row (Some u) (Some row) at is = ap (number_stands call) (ups.numbers y u at) ∙
          (let open_now = r.wire.upstreams y u at in open_stands u.k u.reading open_now.0 open_now.1)

  -- THE CALL FITS

  all_hold : (test : ℕ → Bool) (ks : List ℕ) → ((k : ℕ) → test k ≡ true) → list_all test ks ≡ true
  all_hold test [] each = refl
  all_hold test (k ∷ ks) each = both_hold (test k) (list_all test ks) (each k) (all_hold test ks each)

  pub dialled_all : so_far p (dials_in p log) ≡ (dials_in p log)
  dialled_all = ap (λ n. take n (dials_in p log)) (sym r.opened) ∙ take-length (dials_in p log)

  pub opened_within : (y : ℕ) → is_open (p.tables.exchange y) ≡ true → y ≤ p.tables.opened
  opened_within y live = by_test (nat_lt p.tables.opened y) refl
    where
      sound : Sound p.tables
      sound = is_sound f.limits p (stands_of f x p r.cache)

      by_test : (b : Bool) → nat_lt p.tables.opened y ≡ b → y ≤ p.tables.opened
      by_test false less = grind (arith, nat_tests)
      by_test true more =
          let none : p.tables.exchange y ≡ None = sound.numbered.lists.new_exchanges y (grind (arith, nat_tests)) in
          absurd (let never : false ≡ true = sym (ap is_open none) ∙ live in cc)

  all_open : list_all (exchange_stands call (dials_in p log)) (open_exchanges p.tables) ≡ true
  all_open = all_reversed (exchange_stands call (dials_in p log)) (filter (λ y. is_open (p.tables.exchange y)) p.tables.openings)
      (all_passing (exchange_stands call (dials_in p log)) (λ y. is_open (p.tables.exchange y)) p.tables.openings
      (λ y live. exchange_there_stands y live (opened_within y live)))

  pub fits_now : length call.bytes ≤ 16384 → call.wait ≡ waits f.limits p → Fits f.limits (dials_in p log) p call
  fits_now few wait = record {
    few = few;
    wait = wait;
    stands =
        ap (λ ks. stand_right call ks p) dialled_all
        ∙ both_hold (list_all (is_right call (dials_in p log) p) call.standings && list_all (λ k. client_stands call p k (p.client k)) p.accepted)
        (list_all (exchange_stands call (dials_in p log)) (open_exchanges p.tables))
        (both_hold (list_all (is_right call (dials_in p log) p) call.standings) (list_all (λ k. client_stands call p k (p.client k)) p.accepted)
        (standings_all log call reported apart (is_right call (dials_in p log) p) one_right)
        (all_hold (λ k. client_stands call p k (p.client k)) p.accepted client_there_stands))
        all_open;
    reads =
        ap (λ ks. reads_right call ks p) dialled_all
        ∙ standings_all log call reported apart (λ (s : Standing). is_same s.reads (is_read call p s.k (whose (dials_in p log) p s.k))) one_read;
    sends =
        ap (λ ks. sends_right call ks p) dialled_all
        ∙ standings_all log call reported apart (is_sent (dials_in p log) p) one_sent;
  }
