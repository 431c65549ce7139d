-- A client is offered what it is owed: how the tables of connections stand behind that.
--
-- What it takes are the first of the bytes that it lacks, so the rest is what is owed and wasn't taken. Where it is to
-- be closed and has taken all it leaves the table, else the wire is told whether it is read. No other connection has
-- its number, so all others stay. `client_goes` joins these; an offer that fails has sent some first part
-- (`client_fails`).
use Rattle.std.{proofs.{Common.{◌≡◌, ◌⊎◌, inl, inr, ℕ, zero, suc, ◌+◌, ◌-◌, ◌≤◌, List, [], ◌∷◌, Bool, true, false, Option, Some, None, refl, ap, sym, ◌∙◌, subst, arith, length, take, drop, length-append, length-drop}, lemmas.{Bool.Decides.{nat_tests}, List.{length-take-le, drop_all}}, Math.Seq.{drop-nil}}, specs.Prelude.{nat_eq, nat_lt, ◌&&◌, ◌==◌, find, IsSome}}
use Rattle.hc_text.proofs.Basics.{eq_itself as same_number, some_inj as some_is}
use Rattle.hc_wire.specs.{Events.{Stage, Open, Closed, with_stage, closed_of, reading_of, IsOpen}, Logs.{Log, Taker, is_numbered, is_at_end, stage_from, sent_from, stage_in, sent_in, with_sent, with_reading, with_closed}}
use Rattle.hc_peers.specs.{Clients.{client_of, Becomes}, Offering.{reading_reported, stage_reported, sent_of, sent_more, log_behind, unsent_at, IsOfferedTo, IsOfferedAt, IsOffered}, Offers.{OffersSome}, Peers.{is_idle, is_over, is_same}, Upstreams.{upstream_of}, declared.{clients.Clients.{Clients}, upstreams.Upstreams.{Upstreams}}}
use Rattle.hc_peers.specs.declared.client.Client as peer
use Rattle.hc_peers.specs.declared.upstream.Upstream as origin
use Rattle.hc_peers.proofs.Rows.{same-itself}
use Rattle.hc_proxy.specs.{Connections.{dials_from, dials_in, exchange_of, connection_of}, Keeping.{IsClient, IsUpstream, IsUpstreamAt}, Invariants.{NamesOne}, Logging.{Follows, short_from, is_short}, Rows.{Client, Upstream, Proxy}, TurnSteps.{SentSome}, Unsent.{taken_in, IsKnownAt, HasConnections, IsSentAt, Sends}}
use Rattle.hc_proxy.proofs.{Followed.{follows_sent, follows_closed, follows_reading}, Taken.{MovesAt, client_front, moves_sent, moves_closed, moves_reading, none_front, some_sent}, Closings.{reported_on}}

pub none_some : {A : Type 0} {X : Type 0} (v : A) → None ≡ Some v → X
none_some v is = absurd (let never : None ≡ Some v = is in cc)

-- NUMBERS

pub drop_more : (m n : ℕ) (xs : List ℕ) → drop n (drop m xs) ≡ drop (m + n) xs
drop_more zero n xs = ap (λ i. drop i xs) (let e : n ≡ 0 + n = omega arith in e)
drop_more (suc m) n [] = drop-nil n ∙ sym (drop-nil (suc m + n))
drop_more (suc m) n (x ∷ xs) = drop_more m n xs ∙ ap (λ i. drop i (x ∷ xs)) (let e : suc (m + n) ≡ suc m + n = omega arith in e)

-- where it was told so already, nothing changes
pub was_same : (was on : Bool) → is_same was on ≡ true → was ≡ on
was_same true true is = refl
was_same true false is = absurd (let never : false ≡ true = is in cc)
was_same false true is = absurd (let never : false ≡ true = is in cc)
was_same false false is = refl

-- OTHERS

pub known_same : (log log' : Log) (k : ℕ) (o : Option peer.Client) (r : Option Client) → taken_in log' k ≡ taken_in log k → IsKnownAt log k o r →
    IsKnownAt log' k o r
known_same log log' k None None same is = tt
known_same log log' k None (Some r) same (inl gone) = inl gone
known_same log log' k None (Some r) same (inr all) = inr (all.0, (let le = all.1 in omega arith))
known_same log log' k (Some c) None same is = is
known_same log log' k (Some c) (Some r) same is = subst (λ n. IsClient n c r) (sym same) is

pub sent_same : (log log' : Log) (k : ℕ) (o : Option peer.Client) → is_short log' k ≡ is_short log k → IsSentAt log k o → IsSentAt log' k o
sent_same log log' k None same is = tt
sent_same log log' k (Some c) same is = record {
  reads = is.reads;
  stays = is.stays;
  lacks = elim is.lacks [
    | inl none ↦ inl none
    | inr less ↦ inr (same ∙ less)
  ];
}

pub upstream_same : (taken taken' : ℕ → ℕ) (o : Option origin.Upstream) (v : Option Upstream) →
    ((u : origin.Upstream) → o ≡ Some u → taken' u.k ≡ taken u.k) → IsUpstreamAt taken o v → IsUpstreamAt taken' o v
upstream_same taken taken' (Some u) (Some v) same is = subst (λ n. IsUpstream n u v) (sym (same u refl)) is
upstream_same taken taken' (Some u) None same is = is
upstream_same taken taken' None (Some v) same is = is
upstream_same taken taken' None None same is = is

-- what was found as before is as before
module _ (p : Proxy) (k : ℕ) (bytes : List ℕ) (less : Bool) (stage : Stage) (log log' : Log) (m : MovesAt p k bytes less stage log log') (j : ℕ)
    (off : nat_eq j k ≡ false) where
  pub taken_off : taken_in log' j ≡ taken_in log j
  taken_off = ap (λ (o : Option Taker). length (sent_from o)) (m.others j off)

  pub stage_off : stage_in log'.takers j ≡ stage_in log.takers j
  stage_off = ap stage_from (m.others j off)

  pub short_off : is_short log' j ≡ is_short log j
  short_off = by_both (find (is_numbered j) log'.takers) (find (is_numbered j) log.takers) (m.others j off)
    where
      by_both : (a b : Option Taker) → a ≡ b → is_at_end (short_from a) (length log'.calls) ≡ is_at_end (short_from b) (length log.calls)
      by_both a b same = ap (λ (o : Option Taker). is_at_end (short_from o) (length log'.calls)) same ∙
          ap (λ n. is_at_end (short_from b) n) (ap length m.sends.calls)

-- THE CLIENT

module _ (p : Proxy) (cl : Clients) (up : Upstreams) (log : Log) (h : HasConnections p cl up log) (k : ℕ) (c : peer.Client) (at : client_of cl k ≡ Some c) where
  pub row : (r : Client) × (p.client k ≡ Some r) × IsClient (taken_in log k) c r
  row = by_row (p.client k) refl (subst (λ (o : Option peer.Client). IsKnownAt log k o (p.client k)) at (h.clients k))
    where
      by_row : (o : Option Client) → p.client k ≡ o → IsKnownAt log k (Some c) o → (r : Client) × (p.client k ≡ Some r) × IsClient (taken_in log k) c r
      by_row None is known = absurd known
      by_row (Some r) is known = (r, is, known)

  abbrev r : Client
  r = row.0

  is_client : IsClient (taken_in log k) c r
  is_client = row.2

  stranger : exchange_of (dials_in p log) k ≡ None
  stranger = h.strangers k (subst IsSome (sym row.1) refl)

  pub opens : (ended : Bool) × (stage_in log.takers k ≡ Open c.reading ended)
  opens = h.read_clients k c at

  -- no connection to the origin has its number
  apart : (y : ℕ) (u : origin.Upstream) → upstream_of up y ≡ Some u → nat_eq u.k k ≡ false
  apart y u its = by_test (nat_eq u.k k) refl
    where
      by_test : (b : Bool) → nat_eq u.k k ≡ b → b ≡ false
      by_test false is = refl
      by_test true is =
          let number : u.k ≡ k = grind (arith, nat_tests) in
          none_some y (sym stranger ∙ (ap (exchange_of (dials_in p log)) (sym number) ∙ h.names y u.k (h.numbers y u its)))

  pub client_moves : (n : ℕ) (less : Bool) → MovesAt p k (take n c.unsent) less (Open c.reading opens.0) log (with_sent k (take n c.unsent) less log)
  client_moves n less = moves_sent p k (take n c.unsent) less log c.reading opens.0 opens.1
      (client_front p log k r row.1 stranger c.unsent n less is_client.unsent)

  module _ (n : ℕ) (within : n ≤ length c.unsent) where
    abbrev c' : peer.Client
    c' = sent_more n c

    size : length c.unsent ≡ length r.owed - taken_in log k
    size = ap length is_client.unsent ∙ length-drop (taken_in log k) r.owed

    module _ (stage' : Stage) (log' : Log) (m : MovesAt p k (take n c.unsent) (nat_lt n (length c.unsent)) stage' log log') where
      taken_now : taken_in log' k ≡ taken_in log k + n
      taken_now = ap length m.sent ∙ (length-append (sent_in log.takers k) (take n c.unsent) ∙ ap (λ i. taken_in log k + i) (length-take-le n c.unsent within))

      left : drop n c.unsent ≡ drop (taken_in log' k) r.owed
      left = ap (drop n) is_client.unsent ∙ (drop_more (taken_in log k) n r.owed ∙ ap (λ i. drop i r.owed) (sym taken_now))

      -- one that leaves has taken all
      over_known : is_over c' ≡ true → IsKnownAt log' k None (Some r)
      over_known over = inr (sym is_client.closing ∙ closes c.closing over, by_size (length (drop n c.unsent)) refl over)
        where
          closes : (b : Bool) → (b && length (drop n c.unsent) == 0) ≡ true → b ≡ true
          closes true is = refl
          closes false is = absurd (let never : false ≡ true = is in cc)

          second : (b d : Bool) → (b && d) ≡ true → d ≡ true
          second true d is = is
          second false d is = absurd (let never : false ≡ true = is in cc)

          by_size : (i : ℕ) → length (drop n c.unsent) ≡ i → (c.closing && i == 0) ≡ true → length r.owed ≤ taken_in log' k
          by_size i is over' =
              let zero_left : nat_eq i 0 ≡ true = second c.closing (i == 0) over' in
              let none : i ≡ 0 = grind (arith, nat_tests) in
              let rest : length (drop n c.unsent) ≡ length c.unsent - n = length-drop n c.unsent in
              let now = taken_now in
              let whole = size in
              let le : taken_in log k ≤ length r.owed = is_client.within in
              omega arith

      -- and one that stays is owed the rest
      abbrev stays_as : peer.Client
      stays_as = record c' { reading = is_idle c' }

      stays_known : IsKnownAt log' k (Some stays_as) (Some r)
      stays_known = record {
        here = is_client.here;
        reading = is_client.reading;
        input = is_client.input;
        consumer = is_client.consumer;
        reply = is_client.reply;
        closing = is_client.closing;
        asking = is_client.asking;
        within = let now = taken_now in let whole = size in let le : taken_in log k ≤ length r.owed = is_client.within in omega arith;
        unsent = left;
      }

      stays_sent : is_over c' ≡ false → IsSentAt log' k (Some stays_as)
      stays_sent stays = record {
        reads = same-itself (is_idle c');
        stays = stays;
        lacks = by_less (nat_lt n (length c.unsent)) refl;
      }
        where
          by_less : (b : Bool) → nat_lt n (length c.unsent) ≡ b → (drop n c.unsent ≡ []) ⊎ (is_short log' k ≡ true)
          by_less true is = inr (m.short is)
          by_less false is = let le : length c.unsent ≤ n = grind (arith, nat_tests) in inl (drop_all n c.unsent le)

      -- ALL TABLES, where its row becomes this

      module _ (row' : Option peer.Client) (cl' : Clients) (becomes : Becomes k row' cl cl') (known : IsKnownAt log' k row' (Some r))
          (stands : (u : peer.Client) → row' ≡ Some u → (ended : Bool) × (stage' ≡ Open u.reading ended)) (there : IsOpen stage' → IsSome row') where
        pub row_on : client_of cl' k ≡ row'
        row_on = becomes k ∙ rw (same_number k) refl

        pub row_off : (j : ℕ) → nat_eq j k ≡ false → client_of cl' j ≡ client_of cl j
        row_off j off = becomes j ∙ rw off refl

        clients_by : (j : ℕ) (b : Bool) → nat_eq j k ≡ b → IsKnownAt log' j (client_of cl' j) (p.client j)
        clients_by j true on =
            let number : j ≡ k = grind (arith, nat_tests) in
            subst (λ i. IsKnownAt log' i (client_of cl' i) (p.client i)) (sym number)
            (subst (λ (o : Option peer.Client). IsKnownAt log' k o (p.client k)) (sym row_on)
            (subst (λ (o : Option Client). IsKnownAt log' k row' o) (sym row.1) known))
        clients_by j false off =
            subst (λ (o : Option peer.Client). IsKnownAt log' j o (p.client j)) (sym (row_off j off))
            (known_same log log' j (client_of cl j) (p.client j) (taken_off p k _ _ stage' log log' m j off) (h.clients j))

        read_by : (j : ℕ) (u : peer.Client) → client_of cl' j ≡ Some u → (b : Bool) → nat_eq j k ≡ b → (ended : Bool) ×
            (stage_in log'.takers j ≡ Open u.reading ended)
        read_by j u its true on =
            let number : j ≡ k = grind (arith, nat_tests) in
            let now = stands u (sym row_on ∙ (ap (client_of cl') (sym number) ∙ its)) in
            (now.0, ap (stage_in log'.takers) number ∙ (m.stage_is ∙ now.1))
        read_by j u its false off =
            let was = h.read_clients j u (sym (row_off j off) ∙ its) in
            (was.0, stage_off p k _ _ stage' log log' m j off ∙ was.1)

        all_by : (j : ℕ) → IsOpen (stage_in log'.takers j) → (b : Bool) → nat_eq j k ≡ b → IsSome (client_of cl' j)
            ⊎ ((y : ℕ) × (u : origin.Upstream) × (upstream_of up y ≡ Some u) × (u.k ≡ j))
        all_by j live true on =
            let number : j ≡ k = grind (arith, nat_tests) in
            let here : IsOpen stage' = subst IsOpen (ap (stage_in log'.takers) number ∙ m.stage_is) live in
            inl (subst IsSome (sym (ap (client_of cl') number ∙ row_on)) (there here))
        all_by j live false off = elim (h.all j (subst IsOpen (stage_off p k _ _ stage' log log' m j off) live)) [
          | inl is ↦ inl (subst IsSome (sym (row_off j off)) is)
          | inr is ↦ inr is
        ]

        pub client_has : HasConnections p cl' up log'
        client_has = record {
          clients = λ j. clients_by j (nat_eq j k) refl;
          rows = λ y live le. upstream_same (taken_in log) (taken_in log') (upstream_of up y) (p.upstream y)
              (λ u its. taken_off p k _ _ stage' log log' m u.k (apart y u its))
              (h.rows y live (subst (λ (ks : List ℕ). y ≤ length (dials_from p.setting ks)) m.sends.dialled le));
          numbers = λ y u its. ap (λ (ks : List ℕ). connection_of (dials_from p.setting ks) y) m.sends.dialled ∙ h.numbers y u its;
          over = h.over;
          within = λ y some. subst (λ (ks : List ℕ). y ≤ length (dials_from p.setting ks)) (sym m.sends.dialled) (h.within y some);
          news = h.news;
          touched = h.touched;
          names = subst (λ (ks : List ℕ). NamesOne (dials_from p.setting ks)) (sym m.sends.dialled) h.names;
          strangers = λ j some. ap (λ (ks : List ℕ). exchange_of (dials_from p.setting ks) j) m.sends.dialled ∙ h.strangers j some;
          read_clients = λ j u its. read_by j u its (nat_eq j k) refl;
          read_upstreams = λ y u its. let was = h.read_upstreams y u its in (was.0, stage_off p k _ _ stage' log log' m u.k (apart y u its) ∙ was.1);
          all = λ j live. all_by j live (nat_eq j k) refl;
        }

-- WHAT COMES OF IT

pub record ClientGoes (p : Proxy) (cl cl' : Clients) (up : Upstreams) (log : Log) (reported : Option Log) (stages : ℕ → Stage) (k : ℕ) : Type 0 where
  pub log' : Log
  pub follows : Follows reported stages log'
  pub sends : Sends p log log'
  pub has : HasConnections p cl' up log'
  pub sent : IsSentAt log' k (client_of cl' k)
  pub others : (j : ℕ) → nat_eq j k ≡ false → IsSentAt log j (client_of cl j) → IsSentAt log' j (client_of cl' j)

pub sends_none : (p : Proxy) (log : Log) → Sends p log log
sends_none p log = record { calls = refl; bound = refl; dialled = refl; sent = λ all. all; unseen = λ k is. is }

-- nobody is there
module _ (p : Proxy) (cl cl' : Clients) (up : Upstreams) (log : Log) (h : HasConnections p cl up log) (same : (j : ℕ) → client_of cl' j ≡ client_of cl j) where
  same_has : HasConnections p cl' up log
  same_has = record {
    clients = λ j. subst (λ (o : Option peer.Client). IsKnownAt log j o (p.client j)) (sym (same j)) (h.clients j);
    rows = h.rows;
    numbers = h.numbers;
    over = h.over;
    within = h.within;
    news = h.news;
    touched = h.touched;
    names = h.names;
    strangers = h.strangers;
    read_clients = λ j u its. h.read_clients j u (sym (same j) ∙ its);
    read_upstreams = h.read_upstreams;
    all = λ j live. elim (h.all j live) [
      | inl is ↦ inl (subst IsSome (sym (same j)) is)
      | inr is ↦ inr is
    ];
  }

module _ {W : Type 0} (stages : W → ℕ → Stage) (reports : W → Option Log) (wire wire' : W) (p : Proxy) (cl cl' : Clients) (up : Upstreams) (log : Log) (k : ℕ)
    (h : HasConnections p cl up log) (f : Follows (reports wire) (stages wire) log) where
  -- the log follows the wire without being told
  unreported : Follows None (stages wire) log
  unreported = record { reported_is = inl refl; stands = f.stands; apart = f.apart }

  module _ (c : peer.Client) (at : client_of cl k ≡ Some c) (o : IsOfferedTo stages reports k c cl cl' wire wire') where
    abbrev n : ℕ
    n = o.n

    abbrev less : Bool
    less = nat_lt n (length c.unsent)

    abbrev after : peer.Client
    after = sent_more n c

    abbrev mid : Log
    mid = with_sent k (take n c.unsent) less log

    abbrev ended : Bool
    ended = (opens p cl up log h k c at).0

    m0 : MovesAt p k (take n c.unsent) less (Open c.reading ended) log mid
    m0 = client_moves p cl up log h k c at n less

    follows_mid : Follows None (stages wire) mid
    follows_mid = follows_sent None None (stages wire) (stages wire) log unreported k (take n c.unsent) less refl (λ j. refl)

    reported_now : (reports wire' ≡ None) ⊎ (reports wire' ≡ Some (log_behind k after mid))
    reported_now = reported_on (reports wire) (reports wire') log (λ l. log_behind k after (sent_of k n c.unsent l)) f.reported_is o.reported

    others_go : (stage' : Stage) (log' : Log) (m : MovesAt p k (take n c.unsent) less stage' log log') (row' : Option peer.Client) → Becomes k row' cl cl'
        → (j : ℕ) → nat_eq j k ≡ false → IsSentAt log j (client_of cl j) → IsSentAt log' j (client_of cl' j)
    others_go stage' log' m row' becomes j off was =
        subst (λ (u : Option peer.Client). IsSentAt log' j u) (sym (becomes j ∙ rw off refl))
        (sent_same log log' j (client_of cl j) (short_off p k _ _ stage' log log' m j off) was)

    goes_over : is_over after ≡ true → ClientGoes p cl cl' up log (reports wire') (stages wire') k
    goes_over over =
        let gone : Becomes k None cl cl' = rw over at o.becomes in
        let m : MovesAt p k (take n c.unsent) less Closed log (with_closed k mid) = moves_closed p k (take n c.unsent) less log mid c.reading ended m0 in
        let reported : (reports wire' ≡ None) ⊎ (reports wire' ≡ Some (with_closed k mid)) = rw over at reported_now in
        let shuts : (j : ℕ) → stages wire' j ≡ with_stage k (closed_of (stages wire k)) (stages wire) j = λ j. o.stands j ∙ rw over refl in
        let here : client_of cl' k ≡ None = gone k ∙ rw (same_number k) refl in
        let goes = follows_closed None None (stages wire) (stages wire') mid follows_mid k refl shuts in
        record {
          log' = with_closed k mid;
          follows = record { reported_is = reported; stands = goes.stands; apart = goes.apart };
          sends = m.sends;
          has = client_has p cl up log h k c at n o.within Closed (with_closed k mid) m None cl' gone
              (over_known p cl up log h k c at n o.within Closed (with_closed k mid) m over) (λ u is. none_some u is) (λ live. absurd live);
          sent = subst (λ (u : Option peer.Client). IsSentAt (with_closed k mid) k u) (sym here) tt;
          others = others_go Closed (with_closed k mid) m None gone;
        }

    goes_on : (log' : Log) → is_over after ≡ false → MovesAt p k (take n c.unsent) less (Open (is_idle after) ended) log log' →
        Follows (reports wire') (stages wire') log'
        → ClientGoes p cl cl' up log (reports wire') (stages wire') k
    goes_on log' stays m follows =
        let becomes : Becomes k (Some (record after { reading = is_idle after })) cl cl' = rw stays at o.becomes in
        let here : client_of cl' k ≡ Some (record after { reading = is_idle after }) = becomes k ∙ rw (same_number k) refl in
        record {
          log' = log';
          follows = follows;
          sends = m.sends;
          has = client_has p cl up log h k c at n o.within (Open (is_idle after) ended) log' m (Some (record after { reading = is_idle after })) cl' becomes
              (stays_known p cl up log h k c at n o.within (Open (is_idle after) ended) log' m)
              (λ u is. (ended, ap (λ (v : peer.Client). Open v.reading ended) (some_is (record after { reading = is_idle after }) u is))) (λ live. refl);
          sent = subst (λ (u : Option peer.Client). IsSentAt log' k u) (sym here)
              (stays_sent p cl up log h k c at n o.within (Open (is_idle after) ended) log' m stays);
          others = others_go (Open (is_idle after) ended) log' m (Some (record after { reading = is_idle after })) becomes;
        }

    goes_stays : is_over after ≡ false → ClientGoes p cl cl' up log (reports wire') (stages wire') k
    goes_stays stays = by_test (is_same c.reading (is_idle after)) refl
      where
        reported : (reports wire' ≡ None) ⊎ (reports wire' ≡ Some (reading_reported k c.reading (is_idle after) mid))
        reported = rw stays at reported_now

        stands : (j : ℕ) → stages wire' j ≡ stage_reported k c.reading (is_idle after) (stages wire) j
        stands j = o.stands j ∙ rw stays refl

        by_test : (b : Bool) → is_same c.reading (is_idle after) ≡ b → ClientGoes p cl cl' up log (reports wire') (stages wire') k
        by_test true same =
            let was : c.reading ≡ is_idle after = was_same c.reading (is_idle after) same in
            let it : (reports wire' ≡ None) ⊎ (reports wire' ≡ Some mid) = rw same at reported in
            goes_on mid stays (subst (λ (b : Bool). MovesAt p k (take n c.unsent) less (Open b ended) log mid) was m0)
            (record { reported_is = it; stands = λ j. (stands j ∙ rw same refl) ∙ follows_mid.stands j; apart = follows_mid.apart })
        by_test false other =
            let it : (reports wire' ≡ None) ⊎ (reports wire' ≡ Some (with_reading k (is_idle after) mid)) = rw other at reported in
            let reads : (j : ℕ) → stages wire' j ≡ with_stage k (reading_of (is_idle after) (stages wire k)) (stages wire) j = λ j. stands j ∙ rw other refl in
            let goes = follows_reading None None (stages wire) (stages wire') mid follows_mid k (is_idle after) refl reads in
            goes_on (with_reading k (is_idle after) mid) stays (moves_reading p k (take n c.unsent) less log mid c.reading ended m0 (is_idle after))
            (record { reported_is = it; stands = goes.stands; apart = goes.apart })

    goes_to : ClientGoes p cl cl' up log (reports wire') (stages wire') k
    goes_to = by_test (is_over after) refl
      where
        by_test : (b : Bool) → is_over after ≡ b → ClientGoes p cl cl' up log (reports wire') (stages wire') k
        by_test true over = goes_over over
        by_test false stays = goes_stays stays

  pub client_goes : IsOffered stages reports k cl cl' wire wire' → ClientGoes p cl cl' up log (reports wire') (stages wire') k
  client_goes offered = by_row (client_of cl k) refl offered
    where
      by_row : (u : Option peer.Client) → client_of cl k ≡ u → IsOfferedAt stages reports k u cl cl' wire wire' →
          ClientGoes p cl cl' up log (reports wire') (stages wire') k
      by_row None is (same, reported, stands) = record {
        log' = log;
        follows = record {
          reported_is = subst (λ (l : Option Log). (l ≡ None) ⊎ (l ≡ Some log)) (sym reported) f.reported_is;
          stands = λ j. stands j ∙
              f.stands j;
          apart = f.apart;
        };
        sends = sends_none p log;
        has = same_has p cl cl' up log h same;
        sent = subst (λ (o : Option peer.Client). IsSentAt log k o) (sym (same k ∙ is)) tt;
        others = λ j off was. subst (λ (o : Option peer.Client). IsSentAt log j o) (sym (same j)) was;
      }
      by_row (Some c) is to = goes_to c is to

  -- what fails in the middle
  pub client_fails : OffersSome k (unsent_at (client_of cl k)) (reports wire) (reports wire') → SentSome p log (reports wire')
  client_fails some = by_row (client_of cl k) refl some
    where
      by_row : (u : Option peer.Client) → client_of cl k ≡ u → OffersSome k (unsent_at u) (reports wire) (reports wire') → SentSome p log (reports wire')
      by_row None is part = some_sent p log k (reports wire) (reports wire') [] part f.reported_is (λ n less. none_front p log k n less)
      by_row (Some c) is part =
          some_sent p log k (reports wire) (reports wire') c.unsent part f.reported_is (λ n less all. (client_moves p cl up log h k c is n less).sends.sent all)
