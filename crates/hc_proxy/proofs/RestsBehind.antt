-- Behind a turn: what is kept when all acts are carried out, and the wire, give what the offers need; and what these
-- leave is what rests between turns.
--
-- What was taken at the call of the turn is what was taken by now of each connection that is open, since nothing was
-- sent since then. Offers change the tables of connections and the log alone. Of an open connection the log and its
-- standings say the same.
use Rattle.std.{proofs.{Common.{◌≡◌, ◌⊎◌, inl, inr, ℕ, zero, suc, ◌-◌, ◌≤◌, ◌<◌, List, [], ◌∷◌, Bool, true, false, Option, Some, None, refl, ap, sym, ◌∙◌, subst, arith, length, drop, eqb}, lemmas.Bool.{cases_Bool}}, specs.Prelude.{nat_eq, map, filter, find, IsSome, Contains, if◌then◌else◌}}
use Rattle.hc_effects.proofs.Vocabulary.{is_open, is_wanted}
use Rattle.hc_store.specs.declared.backend.Backend.{Ghosts}
use Rattle.hc_wire.specs.{Events.{Stage, Unseen, Open, Closed, IsOpen}, Logs.{Log, Taker, Called, stage_in, sent_in, standing_of, is_taking}}
use Rattle.hc_peers.specs.{Clients.{client_of}, Upstreams.{upstream_of}}
use Rattle.hc_peers.specs.declared.client.Client as peer
use Rattle.hc_peers.specs.declared.upstream.Upstream as origin
use Rattle.hc_proxy.specs.declared.proxy.Proxy as loop
use Rattle.hc_proxy.specs.{Connections.{dials_from, dials_in, exchange_of, connection_of, first_of, is_of, taken_by, taken_at}, Invariants.{NamesOne}, Keeping.{Frame, Turn, HasCache, HasUpstreams, IsClient, IsClientAt}, Resting.{KeepsCarried, IsRestingAt, IsRestingUpstream, resting_call, Rests}, Rows.{Client, Proxy, Setting}, TurnSteps.{SentAll}, Underway.{OnWire}, Unsent.{taken_in, IsKnownAt, HasConnections, IsSentAt, IsSentOriginAt, SendsToClients, SendsToOrigins, OthersStay}}
use Rattle.hc_proxy.proofs.{Alike.{cache_moves}, OfferedAll.{sends_both}, OfferedClients.{upstream_same, none_some}}

none_in : (k : ℕ) (ks : List ℕ) → ks ≡ [] → Contains ks k → ⊥
none_in k ks empty among = by_place (subst (λ (ns : List ℕ). Contains ns k) empty among)
  where
    by_place : Contains [] k → ⊥
    by_place (i, lt, at) = omega arith

-- WHAT WAS TAKEN, in the standings and in the log

pub standing_taken : (n k : ℕ) (cs : List Taker) (reads ended : Bool) → stage_in cs k ≡ Open reads ended
    → taken_by (find (is_of k) (map (standing_of n) (filter is_taking cs))) ≡ length (sent_in cs k)
standing_taken n k [] reads ended opens = absurd (let never : Unseen ≡ Open reads ended = opens in cc)
standing_taken n k (c ∷ cs) reads ended opens = elim (cases_Bool (eqb c.k k)) [
  | inl on ↦ elim (cases_Bool c.live) [
    | inl live ↦ rw (on, live, on) refl
    | inr shut ↦ let closed : Closed ≡ Open reads ended = rw (on, shut) at opens in absurd (cc)
  ]
  | inr off ↦
      let rest : stage_in cs k ≡ Open reads ended = rw off at opens in
      let more : taken_by (find (is_of k) (map (standing_of n) (filter is_taking cs))) ≡ length (sent_in cs k) = standing_taken n k cs reads ended rest in
      elim (cases_Bool c.live) [
        | inl live ↦ rw (off, live, off) more
        | inr shut ↦ rw (off, shut) more
      ]
]

-- NUMBERS

place_within : (n k : ℕ) (ks : List (Option ℕ)) → first_of (drop n ks) ≡ Some k → n < length ks
place_within zero k [] is = none_some k is
place_within zero k (j ∷ ks) is = omega arith
place_within (suc n) k [] is = none_some k is
place_within (suc n) k (j ∷ ks) is = let lt : n < length ks = place_within n k ks is in omega arith

number_within : (y k : ℕ) (dialled : List (Option ℕ)) → connection_of dialled y ≡ Some k → y ≤ length dialled
number_within y k dialled is = by_test (nat_eq y 0) refl is
  where
    by_test : (b : Bool) → nat_eq y 0 ≡ b → (if b then None else first_of (drop (y - 1) dialled)) ≡ Some k → y ≤ length dialled
    by_test true none h = none_some k h
    by_test false some h = let lt : y - 1 < length dialled = place_within (y - 1) k dialled h in omega arith

-- BEFORE THE OFFERS

known_at : (log : Log) (taken k : ℕ) (o : Option peer.Client) (r : Option Client) → ((c : peer.Client) → o ≡ Some c → taken ≡ taken_in log k) →
    IsClientAt taken o r → IsKnownAt log k o r
known_at log taken k None None same is = tt
known_at log taken k None (Some r) same is = inl is
known_at log taken k (Some c) None same is = is
known_at log taken k (Some c) (Some r) same is = subst (λ n. IsClient n c r) (same c refl) is

-- WHAT OFFERS DON'T TOUCH

module _ {B : Type 0} {g : Ghosts B} where
  pub others_both : (x y z : loop.Proxy B g) → OthersStay x y → OthersStay y z → OthersStay x z
  others_both x y z a b = record {
    cache = b.cache ∙ a.cache;
    text = b.text ∙ a.text;
    acts = b.acts ∙ a.acts;
    now = b.now ∙ a.now;
    starts = b.starts ∙ a.starts;
    front = b.front ∙ a.front;
    moved = b.moved ∙ a.moved;
    closed = b.closed ∙ a.closed;
  }

  -- the loop before with the tables behind
  abbrev pub with_tables : loop.Proxy B g → loop.Proxy B g → loop.Proxy B g
  with_tables x x' = record x { clients = x'.clients; upstreams = x'.upstreams; round = x'.round }

  all_same : (x x' : loop.Proxy B g) → OthersStay x x' → with_tables x x' ≡ x'
  all_same x x' o =
      let y : loop.Proxy B g = with_tables x x' in
      ap (λ c. let z : loop.Proxy B g = record y { cache = c } in z) (sym o.cache)
      ∙ (ap (λ r. let z : loop.Proxy B g = record y { cache = x'.cache; «record» = r } in z) (sym o.text)
      ∙ (ap (λ a. let z : loop.Proxy B g = record y { cache = x'.cache; «record» = x'.record; acts = a } in z) (sym o.acts)
      ∙ (ap (λ n. let z : loop.Proxy B g = record y { cache = x'.cache; «record» = x'.record; acts = x'.acts; now = n } in z) (sym o.now)
      ∙ (ap (λ n. let z : loop.Proxy B g = record y { cache = x'.cache; «record» = x'.record; acts = x'.acts; now = x'.now; starts = n } in z) (sym o.starts)
      ∙ (ap (λ b. let z : loop.Proxy B g =
      record y { cache = x'.cache; «record» = x'.record; acts = x'.acts; now = x'.now; starts = x'.starts; front = b } in z) (sym o.front)
      ∙ (ap (λ b. let z : loop.Proxy B g =
      record y { cache = x'.cache; «record» = x'.record; acts = x'.acts; now = x'.now; starts = x'.starts; front = x'.front; moved = b } in z) (sym o.moved)
      ∙ ap (λ c. let z : loop.Proxy B g =
      record y { cache = x'.cache; «record» = x'.record; acts = x'.acts; now = x'.now; starts = x'.starts; front = x'.front; moved = x'.moved; closed = c }
      in z)
      (sym o.closed)))))))

  pub cache_kept : (f : Frame) (x x' : loop.Proxy B g) (p : Proxy) → OthersStay x x' → HasCache f x p → HasCache f x' p
  cache_kept f x x' p o h = cache_moves f x x' p o.cache o.text o.now o.starts o.front h

module _ {B : Type 0} {g : Ghosts B} (t : Turn) (x : loop.Proxy B g) (p : Proxy) (log : Log) (reported : Option Log) (stages : ℕ → Stage)
    (keeps : KeepsCarried t x p) (on : OnWire t log reported stages) where
  dials_are : dials_in p log ≡ t.dialled
  dials_are = ap (λ (c : Setting). dials_from c log.dialled) keeps.cache.setting ∙ on.dialled

  stage_is : (k : ℕ) → stage_in log.takers k ≡ t.stages k
  stage_is k = sym (on.follows.stands k) ∙ on.stands k

  taken_open : (k : ℕ) (reads ended : Bool) → t.stages k ≡ Open reads ended → taken_at t.call k ≡ taken_in log k
  taken_open k reads ended opens = elim (on.taken k) [
    | inl shut ↦ absurd (let never : Closed ≡ Open reads ended = sym shut ∙ opens in cc)
    | inr same ↦ same
  ]

  upstream_open : (y : ℕ) (u : origin.Upstream) → upstream_of x.upstreams y ≡ Some u → is_open (p.tables.exchange y) ≡ true
  upstream_open y u at = elim (keeps.upstreams.over y (subst IsSome (sym at) refl)) [
    | inl live ↦ live
    | inr shut ↦ absurd (let never : false ≡ true = shut in cc)
  ]

  some_open : (y : ℕ) → IsSome (upstream_of x.upstreams y) → (u : origin.Upstream) × (upstream_of x.upstreams y ≡ Some u)
  some_open y some = by_row (upstream_of x.upstreams y) refl some
    where
      by_row : (o : Option origin.Upstream) → upstream_of x.upstreams y ≡ o → IsSome o → (u : origin.Upstream) × (upstream_of x.upstreams y ≡ Some u)
      by_row None is never = absurd (let no : false ≡ true = never in cc)
      by_row (Some u) is there = (u, is)

  abbrev Whose : ℕ → Type 0
  Whose j = IsSome (client_of x.clients j) ⊎ ((y : ℕ) × (u : origin.Upstream) × (upstream_of x.upstreams y ≡ Some u) × (u.k ≡ j))

  pub carried_has : HasConnections p x.clients x.upstreams log
  carried_has = record {
    clients = λ k. known_at log (taken_at t.call k) k (client_of x.clients k) (p.client k)
        (λ c is. let open_now = keeps.wire.clients k c is in taken_open k c.reading open_now.0 open_now.1) (keeps.clients.rows k);
    rows = λ y live le. upstream_same (taken_at t.call) (taken_in log) (upstream_of x.upstreams y) (p.upstream y)
        (λ u is. let open_now = keeps.wire.upstreams y u is in sym (taken_open u.k u.reading open_now.0 open_now.1))
        (keeps.upstreams.rows y live (subst (λ (ks : List (Option ℕ)). y ≤ length ks) dials_are le));
    numbers = λ y u is. ap (λ (ks : List (Option ℕ)). connection_of ks y) dials_are ∙ keeps.upstreams.numbers y u is;
    over = λ y some. let it = some_open y some in upstream_open y it.0 it.1;
    within = λ y some. let it = some_open y some in number_within
        y it.0.k (dials_in p log) (ap (λ (ks : List (Option ℕ)). connection_of ks y) dials_are ∙ keeps.upstreams.numbers y it.0 it.1);
    news = λ y live unheard. keeps.upstreams.news y live unheard refl;
    touched = λ y u is untouched. keeps.upstreams.touched y u is (upstream_open y u is) untouched refl;
    names = subst NamesOne (sym dials_are) keeps.upstreams.names;
    strangers = λ k some. ap (λ (ks : List (Option ℕ)). exchange_of ks k) dials_are ∙ keeps.upstreams.strangers k some;
    read_clients = λ k c is. let was = keeps.wire.clients k c is in (was.0, stage_is k ∙ was.1);
    read_upstreams = λ y u is. let was = keeps.wire.upstreams y u is in (was.0, stage_is u.k ∙ was.1);
    all = λ k live. elim (keeps.wire.all k (subst IsOpen (stage_is k) live)) as (λ _. Whose k) [
      | inl is ↦ inl is
      | inr (inl is) ↦ inr is
      | inr (inr among) ↦ absurd (none_in k x.closed.items keeps.closed among)
    ];
  }

  -- BEHIND THE OFFERS

  module _ (x' : loop.Proxy B g) (reported' : Option Log) (stages' : ℕ → Stage) (o : OthersStay x x')
      (s : SendsToOrigins p log [] x'.clients x'.upstreams reported' stages') where
    resting_at : (k : ℕ) (c : Option peer.Client) (r : Option Client) → IsKnownAt s.log' k c r → IsSentAt s.log' k c → IsRestingAt s.log' k c r
    resting_at k None None is sent = tt
    resting_at k None (Some r) is sent = is
    resting_at k (Some c) None is sent = is
    resting_at k (Some c) (Some r) is sent = record { is_client = is; reads = sent.reads; stays = sent.stays; lacks = sent.lacks }

    taken_resting : (call : Called) (k : ℕ) (reads ended : Bool) → stage_in s.log'.takers k ≡ Open reads ended →
        taken_at (resting_call s.log' call) k ≡ taken_in s.log' k
    taken_resting call k reads ended opens = standing_taken (length s.log'.calls) k s.log'.takers reads ended opens

    dialled_is : dials_in p s.log' ≡ t.dialled
    dialled_is = ap (dials_from p.setting) s.sends.dialled ∙ dials_are

    opened_is : length (dials_in p s.log') ≡ p.tables.opened
    opened_is = ap length dialled_is ∙ keeps.upstreams.opens

    upstreams_here : (call : Called) (after : ℕ → Stage) →
        HasUpstreams (record { frame = t.frame; call = resting_call s.log' call; dialled = dials_in p s.log'; stages = after }) (with_tables x x') p []
    upstreams_here call after = record {
      rows = λ y live le. upstream_same (taken_in s.log') (taken_at (resting_call s.log' call)) (upstream_of x'.upstreams y) (p.upstream y)
          (λ u is. let open_now = s.has.read_upstreams y u is in taken_resting call u.k u.reading open_now.0 open_now.1) (s.has.rows y live le);
      numbers = s.has.numbers;
      over = λ y some. inl (s.has.over y some);
      news = λ y live unheard unasked. s.has.news y live unheard;
      touched = λ y u is live untouched unasked. s.has.touched y u is untouched;
      opens = opened_is;
      names = s.has.names;
      strangers = s.has.strangers;
    }

    resting_up : (y : ℕ) (u : origin.Upstream) → upstream_of x'.upstreams y ≡ Some u → IsRestingUpstream s.log' (is_wanted (p.tables.exchange y)) u
    resting_up y u is = subst (λ (v : Option origin.Upstream). IsSentOriginAt p s.log' y v) is (s.sent y refl)

    seen_before : (k : ℕ) → stage_in s.log'.takers k ≡ Unseen → t.stages k ≡ Unseen
    seen_before k is = sym (stage_is k) ∙ s.sends.unseen k is

    rests_here : Rests t.frame (with_tables x x') p s.log'
    rests_here = record {
      cache = cache_moves t.frame x (with_tables x x') p refl refl refl refl refl keeps.cache;
      acts = keeps.acts;
      moved = keeps.moved;
      clients = λ k. resting_at k (client_of x'.clients k) (p.client k) (s.has.clients k) (s.clients k);
      order = keeps.clients.order;
      listed = keeps.clients.listed;
      few = keeps.clients.few;
      consumers = keeps.consumers;
      alive = keeps.alive;
      upstreams = upstreams_here;
      resting = resting_up;
      opened = opened_is;
      heard = keeps.heard;
      wire = record {
        clients = s.has.read_clients;
        upstreams = s.has.read_upstreams;
        all = λ k live. elim (s.has.all k live) [
          | inl is ↦ inl is
          | inr is ↦ inr (inl is)
        ];
        closed = λ k among. absurd (none_in k x.closed.items keeps.closed among);
      };
      closed = keeps.closed;
      numbers = keeps.numbers;
      opened_by = keeps.opened;
      seen = λ k is. let was = keeps.seen k (seen_before k is) in
          (was.0, ap (λ (ks : List (Option ℕ)). exchange_of ks k) dialled_is ∙ was.1, was.2);
    }

    pub sent_all : SentAll t p log x' reported' stages'
    sent_all = record {
      log' = s.log';
      follows = s.follows;
      calls = s.sends.calls;
      bound = s.sends.bound;
      dialled = s.sends.dialled;
      sent = s.sends.sent;
      rests = subst (λ (z : loop.Proxy B g). Rests t.frame z p s.log') (all_same x x' o) rests_here;
    }

  -- the clients first, and then the connections to the origin
  pub sent_both : (one two : loop.Proxy B g) (reported1 reported2 : Option Log) (stages1 stages2 : ℕ → Stage) → OthersStay x one → OthersStay one two
      → (s : SendsToClients p log [] one.clients one.upstreams reported1 stages1) →
      SendsToOrigins p s.log' [] two.clients two.upstreams reported2 stages2 → SentAll t p log two reported2 stages2
  sent_both one two reported1 reported2 stages1 stages2 o1 o2 s all = sent_all two reported2 stages2 (others_both x one two o1 o2) (record {
    log' = all.log';
    follows = all.follows;
    sends = sends_both p log s.log' all.log' s.sends all.sends;
    has = all.has;
    clients = all.clients;
    sent = all.sent;
  })
