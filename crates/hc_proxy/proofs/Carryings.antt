-- An act is carried out: what the loop keeps before it and behind it.
--
-- Tables, history and moment stay as they are. An act that is sent to a consumer changes one client, on both sides the
-- same one. One that asks for more puts the exchange into the lists. All that isn't carried out changes nothing.
-- `answer_goes` and `ask_goes` say that; `fails_before` is of an act that fails before anything is dialled.
use Rattle.std.{proofs.{Common.{◌≡◌, inl, inr, ℕ, ◌+◌, List, [], ◌∷◌, Bool, true, false, Option, Some, None, refl, ap, sym, ◌∙◌, subst, arith, length, length-append}, lemmas.List.{append-nil}}, specs.{Prelude.{IsSome, Result, Ok, Err, OnErr}, Option.{is_some}}}
use mathlib.Core.Path.{fun_ext}
use Rattle.hc_effects.proofs.Vocabulary.{Act, Need, Request, act}
use Rattle.hc_store.specs.declared.backend.Backend.{Ghosts}
use Rattle.hc_wire.specs.{Events.{Stage}, Logs.{Log, with_dialled}}
use Rattle.hc_peers.specs.{Clients.{client_of, answered_in}, Upstreams.{upstream_of, is_news, is_touched, Stays, Marks}, declared.{clients.Clients.{Clients}, upstreams.Upstreams.{Upstreams}}}
use Rattle.hc_peers.specs.Peers as peers
use Rattle.hc_peers.specs.declared.client.Client as peer
use Rattle.hc_proxy.specs.declared.proxy.Proxy as loop
use Rattle.hc_proxy.specs.{Carrying.{answered, answers, carried_out}, Invariants.{IsHolder, IsServed, AreServed, AreOver, AreShut, ArePlain}, Connections.{taken_at}, Keeping.{Turn, HasUpstreams, IsClientAt}, Rows.{Proxy, with_client}, Underway.{HasHolders, KeepsUnderway, OnWire, GoesOn, DialsSome, one, none, dialling}, TurnSteps.{CarriedSome, HasStopCause}, declared.stop.Stop.{Stop}}
use Rattle.hc_proxy.proofs.{Alike.{cache_moves, cache_with}, Askings.{asked_go, wire_asked}, CarriedOut.{sent_to, act_keeps, over_later}, Closings.{dials_none}, Dialings.{follows_dialled, dials_one}, Holders.{HeldBy}, OpensUp.{up_grows}}
use Rattle.hc_proxy.proofs.Sendings as sent
use Rattle.hc_proxy.specs.declared.stop.Stop.TheVariants as stop

-- WHO WAITS FOR WHOM

held_of : (acts : List Act) (p : Proxy) → HasHolders acts p → HeldBy acts p
held_of acts p h = record { held = h.held; started = h.started; live = h.live; alive = h.alive; idle = h.idle }

of_held : (acts : List Act) (p : Proxy) → HeldBy acts p → HasHolders acts p
of_held acts p h = record { held = h.held; started = h.started; live = h.live; alive = h.alive; idle = h.idle }

-- WHERE NOTHING WAS DIALLED

module _ {B : Type 0} {g : Ghosts B} (t : Turn) (x : loop.Proxy B g) (p : Proxy) (a : Act) (acts : List Act) (log : Log) (reported : Option Log)
    (stages : ℕ → Stage) where
  pub stays_on : OnWire t log reported stages → KeepsUnderway t acts x (carried_out a p) → GoesOn t a acts p log x reported stages
  stays_on on keeps =
      let turns : dialling [] stages t ≡ t =
      sent.both (λ (ks : List (Option ℕ)) (f : ℕ → Stage). let u : Turn = record t { dialled = ks; stages = f } in u) (append-nil t.dialled)
      (fun_ext on.stands) in
      record {
        log' = log;
        more = [];
        dials = dials_none log;
        on_wire = subst (λ (u : Turn). OnWire u log reported stages) (sym turns) on;
        keeps = subst (λ (u : Turn). KeepsUnderway u acts x (carried_out a p)) (sym turns) keeps;
      }

  -- it may fail before it dials
  pub fails_before : OnWire t log reported stages → KeepsUnderway t (a ∷ acts) x p → CarriedSome t p log reported stages
  fails_before on h = record {
    log' = log;
    more = [];
    follows = on.follows;
    dials = dials_none log;
    opened = rw (append-nil t.dialled) (up_grows (a ∷ acts) (length t.dialled) p.tables.opened h.upstreams.opens);
  }

-- or behind that
pub fails_opening : {B : Type 0} {g : Ghosts B} (t : Turn) (x : loop.Proxy B g) (p : Proxy) (acts : List Act) (y c : ℕ) (need : Need) (request : Request)
    (log : Log) (reported reported' : Option Log) (before after : ℕ → Stage)
    → OnWire t log reported before → KeepsUnderway t (act.Opened y c need request ∷ acts) x p → DialsSome reported reported' before after →
    CarriedSome t p log reported' after
fails_opening t x p acts y c need request log reported reported' before after on h (one k d) = record {
  log' = with_dialled k log;
  more = k ∷ [];
  follows = follows_dialled k log reported reported' before after on.follows d;
  dials = dials_one k log reported reported' before after on.follows d;
  opened = let size = length-append t.dialled (Some k ∷ []) in let le = up_grows acts (length t.dialled + 1) p.tables.opened h.upstreams.opens.1 in omega arith;
}
fails_opening t x p acts y c need request log reported reported' before after on h (none same stays) = record {
  log' = log;
  more = [];
  follows = record {
    reported_is = rw same on.follows.reported_is;
    stands = λ k. stays k ∙ on.follows.stands k;
    apart = on.follows.apart;
  };
  dials = dials_none log;
  opened = rw (append-nil t.dialled) (up_grows (act.Opened y c need request ∷ acts) (length t.dialled) p.tables.opened h.upstreams.opens);
}

module _ {B : Type 0} {g : Ghosts B} (t : Turn) (x : loop.Proxy B g) (p : Proxy) (acts : List Act) where
  -- SENT TO A CONSUMER

  module _ (cl : Clients) (a : Act) (reports : (k : ℕ) → client_of cl k ≡ answered_in a (client_of x.clients k)) (h : KeepsUnderway t (a ∷ acts) x p) where
    abbrev reported : loop.Proxy B g
    reported = record x { clients = cl }

    sent_goes : (c : ℕ) → peers.addressee a ≡ Some c → (k : ℕ) × IsServed t.call p k c → carried_out a p ≡ answers (p.holder c) a p
        → ((d : ℕ) → sent_to a ≡ Some d → (k : ℕ) × IsHolder p k d) → HasUpstreams t x p acts → ArePlain acts p.tables → AreShut acts p.tables →
        KeepsUnderway t acts reported (carried_out a p)
    sent_goes c to s out found origins plain shut =
        let is : carried_out a p ≡ with_client s.0 (answered a) p = out ∙ ap (λ (o : Option ℕ). answers o a p) s.1.held in
        subst (λ (r : Proxy). KeepsUnderway t acts reported r) (sym is) (record {
          cache = cache_with t.frame reported p (with_client s.0 (answered a) p).client p.accepted
              (cache_moves t.frame x reported p refl refl refl refl refl h.cache);
          moved = h.moved;
          clients = sent.clients_go a c to p s.0 s.1.holder (λ j. h.holders.held j c) t x cl reports h.clients;
          holders = subst (HasHolders acts) is (of_held acts (carried_out a p) (act_keeps a acts p found h.over (held_of (a ∷ acts) p h.holders)));
          over = subst (AreOver acts) is (over_later a acts p h.over);
          served = subst (λ (r : Proxy). AreServed t.call r acts) is h.served.1;
          plain = plain;
          shut = shut;
          undialled = h.undialled;
          upstreams = sent.origins_go a c to p s.0 s.1.holder (λ j. h.holders.held j c) t x cl reports acts origins;
          heard = h.heard;
          wire = sent.wire_goes a c to p s.0 s.1.holder (λ j. h.holders.held j c) t x cl reports h.wire;
          known = h.known;
          numbers = h.numbers;
          opened = h.opened;
          seen = sent.seen_goes a c to p s.0 s.1.holder (λ j. h.holders.held j c) t x cl reports h.seen;
        })

  -- NEITHER SENT NOR CARRIED OUT

  same_rows : (cl : Clients) (a : Act) → peers.addressee a ≡ None → ((k : ℕ) → client_of cl k ≡ answered_in a (client_of x.clients k)) → (k : ℕ) →
      client_of cl k ≡ client_of x.clients k
  same_rows cl a to reports k = reports k ∙ by_row (client_of x.clients k)
    where
      by_row : (o : Option peer.Client) → answered_in a o ≡ o
      by_row None = refl
      by_row (Some u) = rw to refl

  unsaid_goes : (cl : Clients) (a : Act) → ((k : ℕ) → client_of cl k ≡ client_of x.clients k) → KeepsUnderway t (a ∷ acts) x p → carried_out a p ≡ p
      → ((d : ℕ) → sent_to a ≡ Some d → (k : ℕ) × IsHolder p k d) → HasUpstreams t x p acts → ArePlain acts p.tables → AreShut acts p.tables →
      KeepsUnderway t acts (record x { clients = cl }) (carried_out a p)
  unsaid_goes cl a same h is found origins plain shut =
      subst (λ (r : Proxy). KeepsUnderway t acts (record x { clients = cl }) r) (sym is) (record {
        cache = cache_moves t.frame x (record x { clients = cl }) p refl refl refl refl refl h.cache;
        moved = h.moved;
        clients = record {
          rows = λ k. subst (λ (o : Option peer.Client). IsClientAt (taken_at t.call k) o (p.client k)) (sym (same k)) (h.clients.rows k);
          order = h.clients.order;
          listed = h.clients.listed;
          few = h.clients.few;
        };
        holders = subst (HasHolders acts) is (of_held acts (carried_out a p) (act_keeps a acts p found h.over (held_of (a ∷ acts) p h.holders)));
        over = subst (AreOver acts) is (over_later a acts p h.over);
        served = subst (λ (r : Proxy). AreServed t.call r acts) is h.served.1;
        plain = plain;
        shut = shut;
        undialled = h.undialled;
        upstreams = record {
          rows = origins.rows;
          numbers = origins.numbers;
          over = origins.over;
          news = origins.news;
          touched = origins.touched;
          opens =
              origins.opens;
          names = origins.names;
          strangers = origins.strangers;
        };
        heard = h.heard;
        wire = record {
          clients = λ k u at. h.wire.clients k u (sym (same k) ∙ at);
          upstreams = h.wire.upstreams;
          all = λ k opens. elim (h.wire.all k opens) [ inl there ↦ inl (subst IsSome (sym (same k)) there) | inr others ↦ inr others ];
          closed = λ k among. (same k ∙ (h.wire.closed k among).0, (h.wire.closed k among).1);
        };
        known = h.known;
        numbers = h.numbers;
        opened = h.opened;
        seen = h.seen;
      })

  -- acts that the clients answer
  abbrev is_reported : Act → Bool
  is_reported (act.Opened y c need request) = false
  is_reported (act.Ask y) = false
  is_reported (act.Close y) = false
  is_reported _ = true

  pub received_of : (a : Act) → ((y c : ℕ) (need : Need) (request : Request) → a ≡ act.Opened y c need request → ⊥) → ((y : ℕ) → a ≡ act.Ask y → ⊥) →
      ((y : ℕ) → a ≡ act.Close y → ⊥) → is_reported a ≡ true
  received_of (act.Opened y c need request) opens asks closes = absurd (opens y c need request refl)
  received_of (act.Ask y) opens asks closes = absurd (asks y refl)
  received_of (act.Close y) opens asks closes = absurd (closes y refl)
  received_of (act.Shown c r why status fields lo hi) opens asks closes = refl
  received_of (act.Given c y at bytes) opens asks closes = refl
  received_of (act.Ended c) opens asks closes = refl
  received_of (act.Failed c cause) opens asks closes = refl
  received_of (act.Denied refusal) opens asks closes = refl
  received_of (act.Pending c wait) opens asks closes = refl
  received_of (act.Lost r kind) opens asks closes = refl
  received_of (act.Evicted r) opens asks closes = refl

  pub answer_goes : (cl : Clients) (a : Act) → is_reported a ≡ true → ((k : ℕ) → client_of cl k ≡ answered_in a (client_of x.clients k)) →
      KeepsUnderway t (a ∷ acts) x p → KeepsUnderway t acts (record x { clients = cl }) (carried_out a p)
  answer_goes cl (act.Shown c r why status fields lo hi) is reports h =
      sent_goes cl (act.Shown c r why status fields lo hi) reports h c refl (h.served.0 c refl) refl
      (λ d to. let u = h.served.0 d to in (u.0, u.1.holder))
      (record {
        rows = h.upstreams.rows;
        numbers = h.upstreams.numbers;
        over = h.upstreams.over;
        news = h.upstreams.news;
        touched = h.upstreams.touched;
        opens = h.upstreams.opens;
        names = h.upstreams.names;
        strangers = h.upstreams.strangers;
      }) h.plain h.shut
  answer_goes cl (act.Given c y at bytes) is reports h =
      sent_goes cl (act.Given c y at bytes) reports h c refl (h.served.0 c refl) refl (λ d to. let u = h.served.0 d to in (u.0, u.1.holder))
      (record {
        rows = h.upstreams.rows;
        numbers = h.upstreams.numbers;
        over = h.upstreams.over;
        news = h.upstreams.news;
        touched = h.upstreams.touched;
        opens = h.upstreams.opens;
        names = h.upstreams.names;
        strangers = h.upstreams.strangers;
      }) h.plain h.shut
  answer_goes cl (act.Ended c) is reports h =
      sent_goes cl (act.Ended c) reports h c refl (h.served.0 c refl) refl (λ d to. let u = h.served.0 d to in (u.0, u.1.holder))
      (record {
        rows = h.upstreams.rows;
        numbers = h.upstreams.numbers;
        over = h.upstreams.over;
        news = h.upstreams.news;
        touched = h.upstreams.touched;
        opens = h.upstreams.opens;
        names = h.upstreams.names;
        strangers = h.upstreams.strangers;
      }) h.plain h.shut
  answer_goes cl (act.Failed c cause) is reports h =
      sent_goes cl (act.Failed c cause) reports h c refl (h.served.0 c refl) refl (λ d to. let u = h.served.0 d to in (u.0, u.1.holder))
      (record {
        rows = h.upstreams.rows;
        numbers = h.upstreams.numbers;
        over = h.upstreams.over;
        news = h.upstreams.news;
        touched = h.upstreams.touched;
        opens = h.upstreams.opens;
        names = h.upstreams.names;
        strangers = h.upstreams.strangers;
      }) h.plain h.shut
  answer_goes cl (act.Denied refusal) is reports h =
      unsaid_goes cl (act.Denied refusal) (same_rows cl (act.Denied refusal) refl reports) h refl (λ d to. absurd (let never : None ≡ Some d = to in cc))
      (record {
        rows = h.upstreams.rows;
        numbers = h.upstreams.numbers;
        over = h.upstreams.over;
        news = h.upstreams.news;
        touched = h.upstreams.touched;
        opens = h.upstreams.opens;
        names = h.upstreams.names;
        strangers = h.upstreams.strangers;
      }) h.plain h.shut
  answer_goes cl (act.Pending c wait) is reports h =
      unsaid_goes cl (act.Pending c wait) (same_rows cl (act.Pending c wait) refl reports) h refl (λ d to. absurd (let never : None ≡ Some d = to in cc))
      (record {
        rows = h.upstreams.rows;
        numbers = h.upstreams.numbers;
        over = h.upstreams.over;
        news = h.upstreams.news;
        touched = h.upstreams.touched;
        opens = h.upstreams.opens;
        names = h.upstreams.names;
        strangers = h.upstreams.strangers;
      }) h.plain h.shut
  answer_goes cl (act.Lost r kind) is reports h =
      unsaid_goes cl (act.Lost r kind) (same_rows cl (act.Lost r kind) refl reports) h refl (λ d to. absurd (let never : None ≡ Some d = to in cc))
      (record {
        rows = h.upstreams.rows;
        numbers = h.upstreams.numbers;
        over = h.upstreams.over;
        news = h.upstreams.news;
        touched = h.upstreams.touched;
        opens = h.upstreams.opens;
        names = h.upstreams.names;
        strangers = h.upstreams.strangers;
      }) h.plain h.shut
  answer_goes cl (act.Evicted r) is reports h =
      unsaid_goes cl (act.Evicted r) (same_rows cl (act.Evicted r) refl reports) h refl (λ d to. absurd (let never : None ≡ Some d = to in cc))
      (record {
        rows = h.upstreams.rows;
        numbers = h.upstreams.numbers;
        over = h.upstreams.over;
        news = h.upstreams.news;
        touched = h.upstreams.touched;
        opens = h.upstreams.opens;
        names = h.upstreams.names;
        strangers = h.upstreams.strangers;
      }) h.plain h.shut
  answer_goes cl (act.Opened y c need request) is reports h = absurd (let never : false ≡ true = is in cc)
  answer_goes cl (act.Ask y) is reports h = absurd (let never : false ≡ true = is in cc)
  answer_goes cl (act.Close y) is reports h = absurd (let never : false ≡ true = is in cc)

  -- MORE IS ASKED FOR

  pub ask_goes : (up : Upstreams) (z : ℕ) → Stays x.upstreams up → Marks (is_news x.upstreams) (is_news up) z (is_some (upstream_of x.upstreams z))
      → Marks (is_touched x.upstreams) (is_touched up) z true → KeepsUnderway t (act.Ask z ∷ acts) x p → KeepsUnderway t acts (record x { upstreams = up }) p
  ask_goes up z stays news touched h = record {
    cache = cache_moves t.frame x (record x { upstreams = up }) p refl refl refl refl refl h.cache;
    moved = h.moved;
    clients = record { rows = h.clients.rows; order = h.clients.order; listed = h.clients.listed; few = h.clients.few };
    holders = of_held acts p
        (act_keeps (act.Ask z) acts p (λ d to. absurd (let never : None ≡ Some d = to in cc)) h.over (held_of (act.Ask z ∷ acts) p h.holders));
    over = h.over;
    served = h.served.1;
    plain = h.plain;
    shut = h.shut;
    undialled = h.undialled;
    upstreams = asked_go t x up p z acts stays news touched h.undialled h.upstreams;
    heard = h.heard;
    wire = wire_asked t x up p z acts stays news touched h.undialled h.upstreams h.wire;
    known = h.known;
    numbers = h.numbers;
    opened = h.opened;
    seen = h.seen;
  }

-- NO FAULT OF THE WIRE

pub cause_none : {T : Type 0} (n : ℕ) (result : Result T Stop) → OnErr result (result ≡ Err stop.NoMemory) → HasStopCause n n result
cause_none n (Ok it) memory = record {
  later = omega arith;
  failed = λ is. absurd (let wrong : Ok it ≡ Err stop.WireFailed = is in cc);
  calm = refl;
  no_fault = λ is. refl;
  no_sink = λ is. let wrong : Ok it ≡ Err stop.SinkFailed = is in cc;
}
cause_none n (Err e) memory = record {
  later = omega arith;
  failed = λ is. absurd (no_wire (Err e) memory is);
  calm = tt;
  no_fault = λ is. refl;
  no_sink = λ is. no_sink_at (Err e) memory is;
}
  where
    no_wire : {T : Type 0} (r : Result T Stop) → r ≡ Err stop.NoMemory → r ≡ Err stop.WireFailed → ⊥
    no_wire r a b = cc

    no_sink_at : {T : Type 0} (r : Result T Stop) → r ≡ Err stop.NoMemory → r ≡ Err stop.SinkFailed → ⊥
    no_sink_at r a b = cc
