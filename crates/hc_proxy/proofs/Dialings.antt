-- An exchange is opened: a connection is dialled for it, whose number is new.
--
-- The connection stands at the next place of those that were dialled, and its number names no other. It has taken
-- nothing, and is owed the request on both sides. All other connections stay as they are, and so do the clients and the
-- tables. Whose number was handed out has another one (`other`), so each row of the tables is as it was; `opens_goes`
-- joins them.
use Rattle.std.{proofs.{Common.{◌≡◌, ◌⊎◌, inl, inr, ℕ, zero, suc, ◌+◌, ◌-◌, ◌≤◌, List, [], ◌∷◌, ◌++◌, Bool, true, false, Option, Some, None, refl, ap, sym, ◌∙◌, subst, arith, length, drop, eqb, length-append}, Math.Logic.{∥∥₁_elim}, lemmas.{List.Sums.{sum_by-cons}, Bool.{cases_Bool, Decides.{nat_tests}}}}, specs.{Prelude.{nat_eq, find, ◌&&◌, Ok, Err, IsSome, Contains, if◌then◌else◌}, List.{sum_by}, Str.{is_utf8}}}
use Rattle.hc_effects.proofs.Vocabulary.{asks_in, closes_in, Act, Need, Request, is_open, is_wanted, act}
use Rattle.hc_target.specs.Targets.{is_short_word, is_target}
use Rattle.hc_text.proofs.Basics.{eq_itself as same_number, some_inj as some_is}
use Rattle.url.specs.{Parts.{Parts}, Parser.{Parsed, parse_url}}
use Rattle.hc_msg.specs.Writing.{request_text}
use Rattle.hc_store.specs.declared.backend.Backend.{Ghosts}
use Rattle.hc_wire.specs.{Events.{Stage, Unseen, Open, Closed, Fresh, with_stage, IsOpen}, Logs.{Log, Taker, is_numbered, stage_in, sent_in, sent_from, fresh, with_dialled}}
use Rattle.hc_wire.proofs.LogLemmas.{stages-fresh}
use Rattle.hc_peers.specs.{Origins.{new_upstream}, Renderings.{is_head}, Clients.{client_of}, Peers.{is_same}, Upstreams.{upstream_of, is_news, is_touched, Becomes}, declared.upstreams.Upstreams.{Upstreams}}
use Rattle.hc_peers.specs.declared.upstream.Upstream as origin
use Rattle.hc_proxy.specs.declared.proxy.Proxy as loop
use Rattle.hc_proxy.specs.{Carrying.{opened, text_by, sent_request}, Connections.{first_of, connection_of, exchange_of, taken_at}, Headed.{IsReadAs, AreHeaded}, Invariants.{OpensUp, is_due_by, is_part, unread_of, IsHeardOut}, Keeping.{Turn, HasCache, HasUpstreams, IsUpstream, IsUpstreamAt, AtWire}, Logging.{Follows, Dials, AreApart}, Network.{next_of}, Rows.{Upstream, Proxy, with}, Underway.{DialsOne, Opens, KeepsUnderway, OnWire, GoesOn, IsNext, dialling}}
use Rattle.hc_proxy.proofs.{CarriedOut.{act_keeps}, Closings.{reported_on}, MoreConnections.{dials_more, connection_stays, connection_comes, nobodys_stays, names_more}, Followed.{unseen_none as nobody_yet}, OpensUp.{up_grows as ups}}

-- THE LOG

none_more : (j k : ℕ) (cs : List Taker) → nat_eq k j ≡ false → find (is_numbered j) cs ≡ None → find (is_numbered j) (cs ++ fresh k ∷ []) ≡ None
none_more j k [] off h = rw off refl
none_more j k (c ∷ cs) off h = elim (cases_Bool (eqb c.k j)) [
  | inl on ↦ absurd (let found : Some c ≡ None = rw on at h in cc)
  | inr out ↦ let rest = rw out at h in rw out (none_more j k cs off rest)
]

apart_more : (k : ℕ) (cs : List Taker) → find (is_numbered k) cs ≡ None → AreApart cs → AreApart (cs ++ fresh k ∷ [])
apart_more k [] new h = (refl, tt)
apart_more k (c ∷ cs) new h = elim (cases_Bool (eqb c.k k)) [
  | inl on ↦ absurd (let found : Some c ≡ None = rw on at new in cc)
  | inr off ↦
      let rest = rw off at new in
      let other : nat_eq k c.k ≡ false = grind (arith, nat_tests) in
      (none_more c.k k cs other h.0, apart_more k cs rest h.1)
]

sent_more : (k j : ℕ) (cs : List Taker) → sent_in (cs ++ fresh k ∷ []) j ≡ sent_in cs j
sent_more k j [] = elim (cases_Bool (eqb k j)) [ inl on ↦ rw on refl | inr off ↦ rw off refl ]
sent_more k j (c ∷ cs) = elim (cases_Bool (eqb c.k j)) [ inl on ↦ rw on refl | inr off ↦ rw off (sent_more k j cs) ]

module _ (k : ℕ) (log : Log) (reported reported' : Option Log) (before after : ℕ → Stage) (f : Follows reported before log)
    (d : DialsOne k reported reported' before after) where
  fresh_yet : stage_in log.takers k ≡ Unseen
  fresh_yet = sym (f.stands k) ∙ d.new

  pub follows_dialled : Follows reported' after (with_dialled k log)
  follows_dialled = record {
    reported_is = reported_on reported reported' log (with_dialled k) f.reported_is d.reported_is;
    stands = λ j. d.stands j ∙ (by_test j (nat_eq j k) refl ∙ sym (stages-fresh k log.takers j fresh_yet));
    apart = apart_more k log.takers (nobody_yet k log.takers fresh_yet) f.apart;
  }
    where
      by_test : (j : ℕ) (b : Bool) → nat_eq j k ≡ b → with_stage k Fresh before j ≡ with_stage k Fresh (stage_in log.takers) j
      by_test j true on = rw on refl
      by_test j false off = rw off (f.stands j)

  pub dials_one : Dials (k ∷ []) log (with_dialled k log)
  dials_one = record {
    calls = refl;
    bound = refl;
    dialled = refl;
    sent = λ j. sent_more k j log.takers;
    new = λ j among. subst (λ (n : ℕ). stage_in log.takers n ≡ Unseen) (only j among) fresh_yet;
    unseen = λ j is. unseen_by j (nat_eq j k) refl (sym (stages-fresh k log.takers j fresh_yet) ∙ is);
  }
    where
      unseen_by : (j : ℕ) (b : Bool) → nat_eq j k ≡ b → with_stage k Fresh (stage_in log.takers) j ≡ Unseen → stage_in log.takers j ≡ Unseen
      unseen_by j true on is = absurd (let never : Fresh ≡ Unseen = sym (rw on refl) ∙ is in cc)
      unseen_by j false off is = sym (rw off refl) ∙ is

      only : (j : ℕ) → Contains (k ∷ []) j → k ≡ j
      only j (i, within, is) = let first : i ≡ 0 = omega arith in rw first at is

-- NUMBERS

none_past : (n : ℕ) (ks : List (Option ℕ)) → length ks ≤ n → first_of (drop n ks) ≡ None
none_past zero [] le = refl
none_past (suc n) [] le = refl
none_past zero (k ∷ ks) le = absurd (omega arith)
none_past (suc n) (k ∷ ks) le = none_past n ks (omega arith)

unconnected : (dialled : List (Option ℕ)) (y : ℕ) → y ≡ length dialled + 1 → connection_of dialled y ≡ None
unconnected dialled y next =
    let some : nat_eq y 0 ≡ false = grind (arith, nat_tests) in
    rw some (none_past (y - 1) dialled (omega arith))

sum_le : (f g : ℕ → ℕ) → ((n : ℕ) → f n ≤ g n) → (ns : List ℕ) → sum_by f ns ≤ sum_by g ns
sum_le f g le [] = omega arith
sum_le f g le (n ∷ ns) =
    let one : f n ≤ g n = le n in
    let rest : sum_by f ns ≤ sum_by g ns = sum_le f g le ns in
    let a : sum_by f (n ∷ ns) ≡ f n + sum_by f ns = sum_by-cons f n ns in
    let b : sum_by g (n ∷ ns) ≡ g n + sum_by g ns = sum_by-cons g n ns in
    omega arith

-- THE EXCHANGE ISN'T THERE YET

module _ {B : Type 0} {g : Ghosts B} (t : Turn) (x : loop.Proxy B g) (p : Proxy) (acts : List Act) (y c : ℕ) (need : Need) (request : Request)
    (h : KeepsUnderway t (act.Opened y c need request ∷ acts) x p) where
  pub not_there : upstream_of x.upstreams y ≡ None
  not_there = by_row (upstream_of x.upstreams y) refl
    where
      by_row : (o : Option origin.Upstream) → upstream_of x.upstreams y ≡ o → o ≡ None
      by_row None is = refl
      by_row (Some u) is = absurd (let never : None ≡ Some u.k = sym (unconnected t.dialled y h.upstreams.opens.0) ∙ h.upstreams.numbers y u is in cc)

  pub none_fresh : (stages : ℕ → Stage) → ((k : ℕ) → stages k ≡ t.stages k) → (z : ℕ) (u : origin.Upstream) → upstream_of x.upstreams z ≡ Some u →
      stages u.k ≡ Unseen → ⊥
  none_fresh stages same z u at unseen =
      let opens = h.wire.upstreams z u at in
      let never : Unseen ≡ Open u.reading opens.0 = sym unseen ∙ (same u.k ∙ opens.1) in cc

-- where only some tables stand for it
module _ {B : Type 0} {g : Ghosts B} (x : loop.Proxy B g) (stages : ℕ → Stage) (y c : ℕ) (need : Need) (request : Request)
    (any : ∥ IsNext (act.Opened y c need request) stages x ∥₁) where
  never_by : (IsNext (act.Opened y c need request) stages x → ⊥) → ⊥
  never_by f = ∥∥₁_elim any (λ a b. absurd a) f

  pub any_not_there : upstream_of x.upstreams y ≡ None
  any_not_there = by_row (upstream_of x.upstreams y) refl
    where
      by_row : (o : Option origin.Upstream) → upstream_of x.upstreams y ≡ o → o ≡ None
      by_row None is = refl
      by_row (Some u) is = absurd
          (never_by (λ n. let none_is = not_there n.0 x n.2 n.1 y c need request n.3 in let never : None ≡ Some u = sym none_is ∙ is in cc))

  pub any_fresh : (z : ℕ) (u : origin.Upstream) → upstream_of x.upstreams z ≡ Some u → stages u.k ≡ Unseen → ⊥
  any_fresh z u at unseen = never_by (λ n. none_fresh n.0 x n.2 n.1 y c need request n.3 stages n.4 z u at unseen)

  pub any_target : is_target request.key ≡ true
  any_target = by_test (is_target request.key) refl
    where
      by_test : (b : Bool) → is_target request.key ≡ b → b ≡ true
      by_test true is = refl
      by_test false is = absurd (never_by (λ n. let never : true ≡ false = sym n.3.plain.0.0 ∙ is in cc))

-- THE REQUEST

pub text_is : (request : Request) (empty text : List ℕ) → is_target request.key ≡ true → empty ≡ [] →
    ((url : Parts) → parse_url None request.key ≡ Ok url → text ≡ empty ++ request_text request url) → text ≡ sent_request request
unfolding is_target
text_is request empty text target none writes = by_result (parse_url None request.key) refl
  where
    never : (a b : Bool) → (a && b && false) ≡ true → ⊥
    never true true is = let no_true : false ≡ true = is in cc
    never true false is = let no_true : false ≡ true = is in cc
    never false b is = let no_true : false ≡ true = is in cc

    by_result : (r : Parsed Parts) → parse_url None request.key ≡ r → text ≡ text_by request (parse_url None request.key)
    by_result (Ok url) is = writes url is ∙ (ap (λ (ns : List ℕ). ns ++ request_text request url) none ∙ ap (text_by request) (sym is))
    by_result (Err e) is = absurd (never (is_short_word request.key) (is_utf8 request.key) (rw is at target))

pub becomes_new : (y k : ℕ) (no_body : Bool) (text : List ℕ) (request : Request) (old new : Upstreams) → no_body ≡ is_head request → text ≡ sent_request request
    → Becomes y (Some (new_upstream k no_body text)) old new → Becomes y (Some (new_upstream k (is_head request) (sent_request request))) old new
becomes_new y k no_body text request old new head is becomes =
    subst (λ (b : Bool). Becomes y (Some (new_upstream k b (sent_request request))) old new) head
    (subst (λ (ns : List ℕ). Becomes y (Some (new_upstream k no_body ns)) old new) is becomes)

-- WHAT IS KEPT

pub taken_none : (t : Turn) (log : Log) (reported : Option Log) (before : ℕ → Stage) (k : ℕ) → OnWire t log reported before → before k ≡ Unseen →
    taken_at t.call k ≡ 0
taken_none t log reported before k on new = by_taken (on.taken k)
  where
    by_taken : (t.stages k ≡ Closed) ⊎ (taken_at t.call k ≡ length (sent_in log.takers k)) → taken_at t.call k ≡ 0
    by_taken (inl shut) = absurd (let never : Unseen ≡ Closed = sym new ∙ (on.stands k ∙ shut) in cc)
    by_taken (inr same) = same ∙ ap (λ (o : Option Taker). length (sent_from o)) (nobody_yet k log.takers (sym (on.follows.stands k) ∙ new))

module _ {B : Type 0} {g : Ghosts B} (t : Turn) (x : loop.Proxy B g) (up : Upstreams) (p : Proxy) (acts : List Act) (y c : ℕ) (need : Need) (request : Request)
    (log : Log) (reported reported' : Option Log) (before after : ℕ → Stage)
    (o : Opens y request x.upstreams up reported reported' before after) (h : KeepsUnderway t (act.Opened y c need request ∷ acts) x p)
    (on : OnWire t log reported before) where
  abbrev k : ℕ
  k = o.k

  abbrev t' : Turn
  t' = dialling (k ∷ []) after t

  abbrev x' : loop.Proxy B g
  x' = record x { upstreams = up }

  abbrev p' : Proxy
  p' = record p { upstream = with y (opened request) p.upstream }

  abbrev new : origin.Upstream
  new = new_upstream k (is_head request) (sent_request request)

  next : y ≡ length t.dialled + 1
  next = h.upstreams.opens.0

  longer : length (t.dialled ++ Some k ∷ []) ≡ length t.dialled + 1
  longer = length-append t.dialled (Some k ∷ [])

  unseen : t.stages k ≡ Unseen
  unseen = sym (on.stands k) ∙ o.dials.new

  none : upstream_of x.upstreams y ≡ None
  none = not_there t x p acts y c need request h

  within : y ≤ p.tables.opened
  within = let le = ups acts (length t.dialled + 1) p.tables.opened h.upstreams.opens.1 in let is = next in omega arith

  -- whose number was handed out is another
  other : (j : ℕ) → (t.stages j ≡ Unseen → ⊥) → nat_eq j k ≡ false
  other j seen = by_test (nat_eq j k) refl
    where
      by_test : (b : Bool) → nat_eq j k ≡ b → b ≡ false
      by_test false is = refl
      by_test true is = let same : j ≡ k = grind (arith, nat_tests) in absurd (seen (ap t.stages same ∙ unseen))

  open_seen : (s : Stage) (reads ended : Bool) → s ≡ Open reads ended → s ≡ Unseen → ⊥
  open_seen s reads ended is was = let never : Unseen ≡ Open reads ended = sym was ∙ is in cc

  stays : (j : ℕ) → nat_eq j k ≡ false → after j ≡ t.stages j
  stays j off = (o.dials.stands j ∙ rw off refl) ∙ on.stands j

  row_at : (z : ℕ) → nat_eq z y ≡ true → upstream_of up z ≡ Some new
  row_at z on_it = o.becomes z ∙ rw on_it refl

  row_off : (z : ℕ) → nat_eq z y ≡ false → upstream_of up z ≡ upstream_of x.upstreams z
  row_off z off = o.becomes z ∙ rw off refl

  quiet : (wanted : Bool) → is_due_by wanted (Some (opened request)) ≡ false
  quiet true = refl
  quiet false = refl

  is_new : IsUpstream (taken_at t.call k) new (opened request)
  is_new =
      let zero_taken = taken_none t log reported before k on o.dials.new in
      record {
        reading = refl;
        input = refl;
        ended = refl;
        within = omega arith;
        unsent = rw zero_taken refl;
      }

  origins : HasUpstreams t' x' p' acts
  origins = record {
    rows = λ z live le. rows_by z live le (nat_eq z y) refl;
    numbers = λ z u at. numbers_by z u at (nat_eq z y) refl;
    over = λ z some. over_by z some (nat_eq z y) refl;
    news = λ z live unheard unasked. news_by z live unheard unasked (nat_eq z y) refl;
    touched = λ z u at live untouched unasked. touched_by z u at live untouched unasked (nat_eq z y) refl;
    opens = subst (λ (n : ℕ). OpensUp n acts p.tables.opened) (sym longer) h.upstreams.opens.1;
    names = names_more t.dialled k (h.seen k unseen).1 h.upstreams.names;
    strangers = λ j some. nobodys_stays t.dialled k j (h.upstreams.strangers j some) (stranger j some);
  }
    where
      rows_by : (z : ℕ) → is_open (p.tables.exchange z) ≡ true → z ≤ length (t.dialled ++ Some k ∷ []) → (b : Bool) → nat_eq z y ≡ b →
          IsUpstreamAt (taken_at t.call) (upstream_of up z) (with y (opened request) p.upstream z)
      rows_by z live le true is = rw (row_at z is, is) is_new
      rows_by z live le false is =
          let less : z ≤ length t.dialled = let size = longer in let at = next in grind (arith, nat_tests) in
          rw (row_off z is, is) (h.upstreams.rows z live less)

      numbers_by : (z : ℕ) (u : origin.Upstream) → upstream_of up z ≡ Some u → (b : Bool) → nat_eq z y ≡ b →
          connection_of (t.dialled ++ Some k ∷ []) z ≡ Some u.k
      numbers_by z u at true is =
          let same : new ≡ u = some_is new u (sym (row_at z is) ∙ at) in
          let place : z ≡ length t.dialled + 1 = let at' = next in grind (arith, nat_tests) in
          ap (connection_of (t.dialled ++ Some k ∷ [])) place ∙ (connection_comes t.dialled k ∙ ap (λ (v : origin.Upstream). Some v.k) same)
      numbers_by z u at false is = connection_stays t.dialled (Some k ∷ []) z u.k (h.upstreams.numbers z u (sym (row_off z is) ∙ at))

      over_by : (z : ℕ) → IsSome (upstream_of up z) → (b : Bool) → nat_eq z y ≡ b → (is_open (p.tables.exchange z) ≡ true) ⊎ (closes_in z acts ≡ true)
      over_by z some true is = let place : y ≡ z = grind (arith, nat_tests) in
          subst (λ (n : ℕ). (is_open (p.tables.exchange n) ≡ true) ⊎ (closes_in n acts ≡ true)) place h.plain.0.1
      over_by z some false is = h.upstreams.over z (subst IsSome (row_off z is) some)

      news_by : (z : ℕ) → is_open (p.tables.exchange z) ≡ true → is_news up z ≡ false → asks_in z acts ≡ false → (b : Bool) → nat_eq z y ≡ b →
          is_due_by (is_wanted (p.tables.exchange z)) (with y (opened request) p.upstream z) ≡ false
      news_by z live unheard unasked true is = rw is (quiet (is_wanted (p.tables.exchange z)))
      news_by z live unheard unasked false is = rw is (h.upstreams.news z live (sym (o.news z) ∙ unheard) unasked)

      touched_by : (z : ℕ) (u : origin.Upstream) → upstream_of up z ≡ Some u → is_open (p.tables.exchange z) ≡ true → is_touched up z ≡ false → asks_in
          z acts ≡ false → (b : Bool) → nat_eq z y ≡ b → (u.unsent ≡ []) × (is_same u.reading (is_wanted (p.tables.exchange z)) ≡ true)
      touched_by z u at live untouched unasked true is = absurd (let never : true ≡ false = sym (o.touched z ∙ rw is refl) ∙ untouched in cc)
      touched_by z u at live untouched unasked false is =
          h.upstreams.touched z u (sym (row_off z is) ∙ at) live (sym (o.touched z ∙ rw is refl) ∙ untouched) unasked

      stranger : (j : ℕ) → IsSome (p.client j) → nat_eq k j ≡ false
      stranger j some = by_test (nat_eq k j) refl
        where
          by_test : (b : Bool) → nat_eq k j ≡ b → b ≡ false
          by_test false is = refl
          by_test true is = let same : k ≡ j = grind (arith, nat_tests) in
              absurd (let never : false ≡ true = subst IsSome (ap p.client (sym same) ∙ (h.seen k unseen).0) some in cc)

  wire : AtWire after x'
  wire = record {
    clients = λ j u at. let was = h.wire.clients j u at in (was.0, stays j (other j (open_seen _ _ _ was.1)) ∙ was.1);
    upstreams = λ z u at. upstreams_by z u at (nat_eq z y) refl;
    all = λ j opens. all_by j opens (nat_eq j k) refl;
    closed = λ j among. ((h.wire.closed j among).0, λ z u at. apart z u at j among (nat_eq z y) refl);
  }
    where
      upstreams_by : (z : ℕ) (u : origin.Upstream) → upstream_of up z ≡ Some u → (b : Bool) → nat_eq z y ≡ b → (ended : Bool) ×
          (after u.k ≡ Open u.reading ended)
      upstreams_by z u at true is =
          let same : new ≡ u = some_is new u (sym (row_at z is) ∙ at) in
          subst (λ (v : origin.Upstream). (ended : Bool) × (after v.k ≡ Open v.reading ended)) same (false, o.dials.stands k ∙ rw (same_number k) refl)
      upstreams_by z u at false is =
          let was = h.wire.upstreams z u (sym (row_off z is) ∙ at) in
          (was.0, stays u.k (other u.k (open_seen _ _ _ was.1)) ∙ was.1)

      Place : ℕ → Type 0
      Place j = IsSome (client_of x.clients j) ⊎ ((z : ℕ) × (u : origin.Upstream) × (upstream_of up z ≡ Some u) × (u.k ≡ j)) ⊎ Contains x.closed.items j

      moved : (j : ℕ) (z : ℕ) (u : origin.Upstream) → upstream_of x.upstreams z ≡ Some u → u.k ≡ j → (b : Bool) → nat_eq z y ≡ b → Place j
      moved j z u at is false off = inr (inl (z, u, row_off z off ∙ at, is))
      moved j z u at is true same = let place : z ≡ y = grind (arith, nat_tests) in
          absurd (let never : None ≡ Some u = sym none ∙ (ap (upstream_of x.upstreams) (sym place) ∙ at) in cc)

      all_by : (j : ℕ) → IsOpen (after j) → (b : Bool) → nat_eq j k ≡ b → Place j
      all_by j opens true is = let same : k ≡ j = grind (arith, nat_tests) in inr (inl (y, new, row_at y (same_number y), same))
      all_by j opens false is = elim (h.wire.all j (subst IsOpen (stays j is) opens)) as (λ _. Place j) [
        | inl there ↦ inl there
        | inr (inl (z, u, at, number)) ↦ moved j z u at number (nat_eq z y) refl
        | inr (inr among) ↦ inr (inr among)
      ]

      apart : (z : ℕ) (u : origin.Upstream) → upstream_of up z ≡ Some u → (j : ℕ) → Contains x.closed.items j → (b : Bool) → nat_eq z y ≡ b → u.k ≡ j → ⊥
      apart z u at j among true is number =
          let same : new ≡ u = some_is new u (sym (row_at z is) ∙ at) in
          h.known j among (ap t.stages (sym number ∙ ap (λ (v : origin.Upstream). v.k) (sym same)) ∙ unseen)
      apart z u at j among false is number = (h.wire.closed j among).1 z u (sym (row_off z is) ∙ at) number

  headed : AreHeaded p'
  headed z v live at = by_test (nat_eq z y) refl
    where
      by_test : (b : Bool) → nat_eq z y ≡ b → IsReadAs v.reading (p'.tables.exchange z)
      by_test false off = h.cache.headed z v live (sym (rw off refl) ∙ at)
      by_test true is =
          let same : opened request ≡ v = some_is (opened request) v (sym (rw is refl) ∙ at) in
          subst (λ (w : Upstream). IsReadAs w.reading (p'.tables.exchange z)) same (refl, λ begun. absurd (let never : false ≡ true = begun in cc))

  cache : HasCache t.frame x' p'
  cache = record {
    setting = h.cache.setting;
    stands = h.cache.stands;
    same = h.cache.same;
    limits = h.cache.limits;
    now = h.cache.now;
    early = h.cache.early;
    last = h.cache.last;
    starts = h.cache.starts;
    front = h.cache.front;
    last_start = h.cache.last_start;
    text = h.cache.text;
    recorded = h.cache.recorded;
    before = h.cache.before;
    unopened = λ z past. let le = within in let off : nat_eq z y ≡ false = grind (arith, nat_tests) in rw off (h.cache.unopened z past);
    headed = headed;
    small = let fewer = sum_le (λ z. unread_of (p'.upstream z)) (λ z. unread_of (p.upstream z)) less p.tables.openings in let was = h.cache.small in
        omega arith;
    bounded = h.cache.bounded;
    room = h.cache.room;
    targets = h.cache.targets;
    timed = h.cache.timed;
  }
    where
      less : (z : ℕ) → unread_of (with y (opened request) p.upstream z) ≤ unread_of (p.upstream z)
      less z = by_test (nat_eq z y)
        where
          by_test : (b : Bool) → unread_of (if b then Some (opened request) else p.upstream z) ≤ unread_of (p.upstream z)
          by_test true = omega arith
          by_test false = omega arith

  heard : IsHeardOut p'
  heard z v live at ended = by_test (nat_eq z y) refl
    where
      by_test : (b : Bool) → nat_eq z y ≡ b → is_part (next_of v) ≡ true
      by_test false off = h.heard z v live (sym (rw off refl) ∙ at) ended
      by_test true is =
          let same : opened request ≡ v = some_is (opened request) v (sym (rw is refl) ∙ at) in
          absurd (let never : false ≡ true = ap (λ (w : Upstream). w.ended) same ∙ ended in cc)

  pub opens_goes : GoesOn t (act.Opened y c need request) acts p log x' reported' after
  opens_goes = record {
    log' = with_dialled k log;
    more = k ∷ [];
    dials = dials_one k log reported reported' before after on.follows o.dials;
    on_wire = record {
      follows = follows_dialled k log reported reported' before after on.follows o.dials;
      stands = λ j. refl;
      dialled = dials_more t.frame.setting log.dialled (k ∷ []) ∙ ap (λ (os : List (Option ℕ)). os ++ Some k ∷ []) on.dialled;
      taken = λ j. by_taken j (on.taken j);
    };
    keeps = record {
      cache = cache;
      moved = h.moved;
      clients = record { rows = h.clients.rows; order = h.clients.order; listed = h.clients.listed; few = h.clients.few };
      holders = let g = act_keeps (act.Opened y c need request) acts p (λ d to. absurd (let never : None ≡ Some d = to in cc)) h.over
          (record { held = h.holders.held; started = h.holders.started; live = h.holders.live; alive = h.holders.alive; idle = h.holders.idle }) in
          record { held = g.held; started = g.started; live = g.live; alive = g.alive; idle = g.idle };
      over = h.over;
      served = h.served.1;
      plain = h.plain.1;
      shut = h.shut;
      undialled = λ z past. let size = longer in let at = next in let off : nat_eq z y ≡ false = grind (arith, nat_tests) in
          rw off (h.undialled z (omega arith));
      upstreams = origins;
      heard = heard;
      wire = wire;
      known = λ j among gone. known_by j among gone (nat_eq j k) refl;
      numbers = h.numbers;
      opened = h.opened;
      seen = λ j gone. seen_by j gone (nat_eq j k) refl;
    };
  }
    where
      by_taken : (j : ℕ) → (t.stages j ≡ Closed) ⊎ (taken_at t.call j ≡ length (sent_in log.takers j)) →
          (after j ≡ Closed) ⊎ (taken_at t.call j ≡ length (sent_in (with_dialled k log).takers j))
      by_taken j (inl shut) = inl (stays j (other j (λ gone. let never : Closed ≡ Unseen = sym shut ∙ gone in cc)) ∙ shut)
      by_taken j (inr same) = inr (same ∙ ap length (sym (sent_more k j log.takers)))

      fresh_seen : (j : ℕ) → nat_eq j k ≡ true → after j ≡ Unseen → ⊥
      fresh_seen j is gone = let never : Fresh ≡ Unseen = sym (o.dials.stands j ∙ rw is refl) ∙ gone in cc

      known_by : (j : ℕ) → Contains x.closed.items j → after j ≡ Unseen → (b : Bool) → nat_eq j k ≡ b → ⊥
      known_by j among gone true is = fresh_seen j is gone
      known_by j among gone false is = h.known j among (sym (stays j is) ∙ gone)

      seen_by : (j : ℕ) → after j ≡ Unseen → (b : Bool) → nat_eq j k ≡ b → (p.client j ≡ None) × (exchange_of (t.dialled ++ Some k ∷ []) j ≡ None) ×
          (Contains p.accepted j → ⊥)
      seen_by j gone true is = absurd (fresh_seen j is gone)
      seen_by j gone false is =
          let was = h.seen j (sym (stays j is) ∙ gone) in
          let off : nat_eq k j ≡ false = grind (arith, nat_tests) in
          (was.0, nobodys_stays t.dialled k j was.1 off, was.2)
