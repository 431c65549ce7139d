-- An act that is sent to a consumer is carried out: by the code at the client whose live consumer it names, by the
-- definitions at the client that holds that consumer.
--
-- Both are one client: the act finds a client that was served, and nobody else waits for its consumer. What that client
-- has taken is a first part of what it was owed, so the bytes behind it are the same ones on both sides. All other
-- clients stay, and so do the tables, the connections to the origin and the wire.
use Rattle.std.{proofs.{Common.{◌≡◌, inl, inr, ℕ, ◌≤◌, List, ◌++◌, Bool, true, false, Option, Some, None, refl, ap, sym, ◌∙◌, subst, arith, length, length-append}, lemmas.{Bool.Decides.{nat_tests}, List.{drop-append-le}}}, specs.Prelude.{nat_eq, not, ◌||◌, option_map, IsSome, if◌then◌else◌}}
use Rattle.hc_text.proofs.Basics.{filter_same, eq_itself as same_number, some_inj as some_is}
use Rattle.hc_effects.proofs.Vocabulary.{Act}
use Rattle.hc_store.specs.declared.backend.Backend.{Ghosts}
use Rattle.hc_wire.specs.Events.{Open}
use Rattle.hc_peers.specs.{Clients.{client_of, answered_in, is_same_consumer}, Renderings.{rendering, form_behind, is_last, closes}, declared.{clients.Clients.{Clients}, reply.Reply.{Reply}}}
use Rattle.hc_peers.specs.Peers as peers
use Rattle.hc_peers.specs.declared.client.Client as peer
use Rattle.hc_proxy.specs.declared.proxy.Proxy as loop
use Rattle.hc_proxy.specs.{Carrying.{answered}, Connections.{taken_at}, Handling.{is_client}, Invariants.{IsHolder}, Keeping.{Turn, HasClients, HasUpstreams, AtWire, AreSeen, IsClient, IsClientAt}, Rows.{Client, Proxy, with_client}}

pub both : {A C D : Type 0} (f : A → C → D) {a a' : A} {b b' : C} → a ≡ a' → b ≡ b' → f a b ≡ f a' b'
both f {a} {a'} {b} {b'} one two = ap (λ x. f x b) one ∙ ap (λ y. f a' y) two

-- ONE ACT

module _ (a : Act) (c : ℕ) (to : peers.addressee a ≡ Some c) (p : Proxy) (k : ℕ) (holder : IsHolder p k c)
    (held : (j : ℕ) → IsHolder p j c → p.holder c ≡ Some j) where
  abbrev q : Proxy
  q = with_client k (answered a) p

  -- its row behind the act
  abbrev reported : Client → Client
  reported r = record r {
    owed = r.owed ++ rendering r.reply a;
    before = length r.owed;
    reply = record r.reply { form = form_behind r.reply a };
    closing = r.closing || closes r.reply a;
    consumer = if is_last a then None else r.consumer;
  }

  reported_is : (r : Client) → r.gone ≡ false → answered a r ≡ reported r
  reported_is r here = rw here refl

  gone_is : (r : Client) → r.gone ≡ true → answered a r ≡ r
  gone_is r gone = rw gone refl

  is_client_of : (n : ℕ) (cl : peer.Client) (r : Client) → IsClient n cl r → IsClient n (peers.answered a cl) (reported r)
  is_client_of n cl r is =
      let within : n ≤ length r.owed = is.within in
      record {
        here = is.here;
        reading = is.reading;
        input = is.input;
        consumer = ap (λ (o : Option ℕ). if is_last a then None else o) is.consumer;
        reply = ap (λ (y : Reply). let z : Reply = record y { form = form_behind y a } in z) is.reply;
        closing = both (λ (b : Bool) (y : Reply). b || closes y a) is.closing is.reply;
        within = let sum = length-append r.owed (rendering r.reply a) in omega arith;
        unsent = both (λ (ns : List ℕ) (y : Reply). ns ++ rendering y a) is.unsent is.reply ∙ sym (drop-append-le n r.owed (rendering r.reply a) within);
        asking = is.asking;
      }

  -- who waits for another is another
  apart : (j : ℕ) (n : ℕ) (cl : peer.Client) (r : Client) → p.client j ≡ Some r → IsClient n cl r → nat_eq j k ≡ false → (o : Option ℕ) →
      cl.consumer ≡ o → is_same_consumer (Some c) o ≡ false
  apart j n cl r at is off None none = refl
  apart j n cl r at is off (Some d) its = by_test (nat_eq c d) refl
    where
      by_test : (b : Bool) → nat_eq c d ≡ b → nat_eq c d ≡ false
      by_test false same = same
      by_test true same =
          let number : c ≡ d = grind (arith, nat_tests) in
          let u : IsHolder p j c = record { row = r; at = at; here = is.here; consumer = sym is.consumer ∙ (its ∙ ap Some (sym number)) } in
          let place : j ≡ k = some_is j k (sym (held j u) ∙ held k holder) in
          absurd (let never : true ≡ false = sym (same_number j) ∙ (ap (nat_eq j) place ∙ off) in cc)

  row_goes : (n j : ℕ) (o : Option peer.Client) (r : Option Client) → p.client j ≡ r → IsClientAt n o r → (b : Bool) → nat_eq j k ≡ b →
      IsClientAt n (answered_in a o) (if b then option_map (answered a) r else r)
  row_goes n j None None at is true on = tt
  row_goes n j None None at is false on = tt
  row_goes n j None (Some r) at is true on = ap (λ (u : Client). u.gone) (gone_is r is) ∙ is
  row_goes n j None (Some r) at is false on = is
  row_goes n j (Some cl) None at is b on = absurd is
  row_goes n j (Some cl) (Some r) at is true on =
      let place : j ≡ k = grind (arith, nat_tests) in
      let row : r ≡ holder.row = some_is r holder.row (sym at ∙ (ap p.client place ∙ holder.at)) in
      let its : cl.consumer ≡ Some c = is.consumer ∙ (ap (λ (u : Client). u.consumer) row ∙ holder.consumer) in
      let same : is_same_consumer (peers.addressee a) cl.consumer ≡ true = rw (to, its) (same_number c) in
      rw same (subst (λ (u : Client). IsClient n (peers.answered a cl) u) (sym (reported_is r is.here)) (is_client_of n cl r is))
  row_goes n j (Some cl) (Some r) at is false off =
      let other : is_same_consumer (peers.addressee a) cl.consumer ≡ false = rw to (apart j n cl r at is off cl.consumer refl) in
      rw other is

  -- who is a client stays one
  none_stays : (j : ℕ) → p.client j ≡ None → q.client j ≡ None
  none_stays j none = by_test (nat_eq j k)
    where
      by_test : (b : Bool) → (if b then option_map (answered a) (p.client j) else p.client j) ≡ None
      by_test true = ap (option_map (answered a)) none
      by_test false = none

  some_stays : (j : ℕ) → IsSome (q.client j) → IsSome (p.client j)
  some_stays j some = by_row (p.client j) refl
    where
      by_row : (o : Option Client) → p.client j ≡ o → IsSome (p.client j)
      by_row None none = absurd (let never : false ≡ true = subst IsSome (none_stays j none) some in cc)
      by_row (Some r) at = subst IsSome (sym at) refl

  gone_same : (r : Client) (b : Bool) → r.gone ≡ b → (answered a r).gone ≡ r.gone
  gone_same r true is = ap (λ (u : Client). u.gone) (gone_is r is)
  gone_same r false is = ap (λ (u : Client). u.gone) (reported_is r is)

  client_same : (j : ℕ) → is_client (q.client j) ≡ is_client (p.client j)
  client_same j = by_test (nat_eq j k) (p.client j)
    where
      by_test : (b : Bool) (o : Option Client) → is_client (if b then option_map (answered a) o else o) ≡ is_client o
      by_test false o = refl
      by_test true None = refl
      by_test true (Some r) = ap not (gone_same r r.gone refl)

  module _ {B : Type 0} {g : Ghosts B} (t : Turn) (x : loop.Proxy B g) (cl : Clients)
      (reports : (j : ℕ) → client_of cl j ≡ answered_in a (client_of x.clients j)) where
    abbrev x' : loop.Proxy B g
    x' = record x { clients = cl }

    pub clients_go : HasClients t x p → HasClients t x' q
    clients_go h = record {
      rows = λ j. subst (λ (o : Option peer.Client). IsClientAt (taken_at t.call j) o (q.client j)) (sym (reports j))
          (row_goes (taken_at t.call j) j (client_of x.clients j) (p.client j) refl (h.rows j) (nat_eq j k) refl);
      order = h.order;
      listed = λ j some. h.listed j (some_stays j some);
      few = let same = ap length (filter_same (λ j. is_client (q.client j)) (λ j. is_client (p.client j)) client_same p.accepted) in let was = h.few in
          omega arith;
    }

    -- the row of who is there was there, and is read as before
    read_same : (o : Option peer.Client) (u : peer.Client) → answered_in a o ≡ Some u → (v : peer.Client) × (o ≡ Some v) × (u.reading ≡ v.reading)
    read_same None u is = absurd (let never : None ≡ Some u = is in cc)
    read_same (Some v) u is = (v, refl, by_test (is_same_consumer (peers.addressee a) v.consumer) (some_is _ u is))
      where
        by_test : (b : Bool) → (if b then peers.answered a v else v) ≡ u → u.reading ≡ v.reading
        by_test true same = ap (λ (w : peer.Client). w.reading) (sym same)
        by_test false same = ap (λ (w : peer.Client). w.reading) (sym same)

    still_there : (o : Option peer.Client) → IsSome o → IsSome (answered_in a o)
    still_there None some = some
    still_there (Some v) some = refl

    pub wire_goes : AtWire t.stages x → AtWire t.stages x'
    wire_goes h = record {
      clients = λ j u at. let was = read_same (client_of x.clients j) u (sym (reports j) ∙ at) in
          let stands = h.clients j was.0 was.1 in
          (stands.0, stands.1 ∙ ap (λ (b : Bool). Open b stands.0) (sym was.2));
      upstreams = h.upstreams;
      all = λ j opens. elim (h.all j opens) [
        | inl there ↦ inl (subst IsSome (sym (reports j)) (still_there (client_of x.clients j) there))
        | inr others ↦ inr others
      ];
      closed = λ j among. (reports j ∙ ap (answered_in a) (h.closed j among).0, (h.closed j among).1);
    }

    pub origins_go : (acts : List Act) → HasUpstreams t x p acts → HasUpstreams t x' q acts
    origins_go acts h = record {
      rows = h.rows;
      numbers = h.numbers;
      over = h.over;
      news = h.news;
      touched = h.touched;
      opens = h.opens;
      names = h.names;
      strangers = λ j some. h.strangers j (some_stays j some);
    }

    pub seen_goes : AreSeen t p → AreSeen t q
    seen_goes h j unseen = (none_stays j (h j unseen).0, (h j unseen).1, (h j unseen).2)
