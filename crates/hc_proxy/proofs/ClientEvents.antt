-- One client is followed over a turn until its polls: the turn's beginning, the event of the call, and the network.
--
-- A client that leaves, or stands no more, asks for nothing and is owed nothing from then on, and all else that is said
-- of it stays. Bytes of a call wait, or stand behind what the client has where it is gone or they are a dial's. A new
-- client has no row before, so no live consumer is its own. The network changes connections to the origin alone, and
-- steps events of exchanges, which start nobody (`other_on`). So the client is followed up to the starts (`starts_on`),
-- and what was carried out before the turn is the measure of what it is owed until then.
use Rattle.std.{proofs.{Common.{◌≡◌, ℕ, List, [], ◌++◌, Bool, true, false, Option, Some, None, refl, ap, sym, ◌∙◌, subst, arith}, lemmas.Bool.Decides.{nat_tests}}, specs.Prelude.{◌&&◌, ◌||◌, nat_eq, nat_lt, length, is_none, option_map, if◌then◌else◌}}
use Rattle.hc_effects.proofs.Vocabulary.{Event, Request, History, is_open, Limits, event}
use Rattle.hc_wire.specs.{Logs.{Called}, declared.event.WireEvent.{WireEvent}}
use Rattle.hc_wire.specs.declared.event.WireEvent.TheVariants as wire
use Rattle.hc_proxy.specs.{Asked.{got_by, starts_of}, Connections.{exchange_of, stands}, Handling.{seen_at, clients_here, inserted, client_comes, left, cancelled, leaves, client_sends, sends, ends, broke, handled_by, handled}, Network.{heard}, Rendered.{consumers_of}, Rows.{Client, Upstream, Proxy, new_client, with, with_client}, Starts.{started_all}, Steps.{stepped}, Waiting.{is_poll}}
use Rattle.hc_proxy.proofs.{Asked.{of_exchange, more_calls, IsRead, alike, passes, waits}, ClientSteps.{IsRow, Follows, put_all, still, other_on, change_on, starts_on}, NetworkKeeps.{is_of_exchange, IsKeptByNetwork, heard_keeps}, Owings.{Owes, owes_alike, new_owes}, Turning.{with_new}}

pub no_poll : (ev : Event) → is_of_exchange ev ≡ true → is_poll ev ≡ false
no_poll (event.Start c request) is = absurd (let never : false ≡ true = is in cc)
no_poll (event.Poll c want) is = absurd (let never : false ≡ true = is in cc)
no_poll (event.Head x response) is = refl
no_poll (event.Piece x bytes) is = refl
no_poll (event.End x) is = refl
no_poll (event.Fault x) is = refl
no_poll (event.Cancel c) is = absurd (let never : false ≡ true = is in cc)
no_poll (event.Doom key) is = absurd (let never : false ≡ true = is in cc)

module _ (limits : Limits) (h : History) (k : ℕ) (ds : List (Option ℕ)) where
  -- a row that keeps what is read, owed and waited for, where no client comes back
  pub kept_row : (calls : List Called) (p : Proxy) (new old : Client) → new.input ≡ old.input → new.reading ≡ old.reading → new.owed ≡ old.owed →
      new.reply ≡ old.reply → new.consumer ≡ old.consumer → new.closing ≡ old.closing
      → (new.gone ≡ false → old.gone ≡ false) → IsRow limits h k ds calls p (Some old) → IsRow limits h k ds calls p (Some new)
  kept_row calls p new old input reading owed reply consumer closing gone r = record {
    asked = r.asked;
    read = alike k p.setting.front ds calls new old (starts_of p.holder k p.history) r.asked input reading gone r.read;
    owes = owes_alike h (consumers_of p.holder k p.history) r.asked new old owed reply consumer closing reading r.owes;
    live = λ d is here. consumer ∙ r.live d is (gone here);
  }

  -- WHO GOES

  gone_never : {X : Type 0} → true ≡ false → X
  gone_never is = absurd (let never : true ≡ false = is in cc)

  left_row : (calls : List Called) (p : Proxy) (client : Client) → IsRow limits h k ds calls p (Some client) → IsRow limits h k ds calls p (Some (left client))
  left_row calls p client r = kept_row calls p (left client) client refl refl refl refl refl refl (λ g. gone_never g) r

  pub seen_row : (calls : List Called) (call : Called) (p : Proxy) (client : Client) → IsRow limits h k ds calls p (Some client) →
      IsRow limits h k ds calls p (Some (seen_at call k client))
  seen_row calls call p client r = by_test (client.gone || stands call k)
    where
      by_test : (b : Bool) → IsRow limits h k ds calls p (Some (if b then client else record client { gone = true; let_go = true }))
      by_test true = r
      by_test false = kept_row calls p (record client { gone = true; let_go = true }) client refl refl refl refl refl refl (λ g. gone_never g) r

  -- THE NETWORK

  module _ (calls : List Called) where
    abbrev S : Proxy → Type 0
    S p = Follows limits h k ds calls p

    abbrev Keeps : Proxy → Proxy → Type 0
    Keeps p q = S p → S q

    put_up : (up : ℕ → Option Upstream) (p : Proxy) → S p → S (record p { upstream = up })
    put_up up p s = record { all = put_all limits h k p.accepted p.client up p s.all; row = s.row }

    network_keeps : IsKeptByNetwork limits Keeps
    network_keeps = record {
      none = λ p s. s;
      both = λ p q r a b s. b (a s);
      reads = λ x change p s. put_up _ p s;
      steps = λ ev is p s. other_on limits h k ds calls ev p (of_exchange ev is) (no_poll ev is) s;
    }

    pub heard_on : (p : Proxy) → S p → S (heard limits p)
    heard_on p s = heard_keeps limits Keeps network_keeps p s

    -- one that leaves
    leaves_on : (z : ℕ) (o : Option Client) (p : Proxy) → S p → S (leaves limits z o p)
    leaves_on z None p s = s
    leaves_on z (Some client) p s = still limits h k ds calls client.gone (with_client z left (cancelled limits client.consumer p)) p gone s
      where
        cancels : (o : Option ℕ) → S (cancelled limits o p)
        cancels None = s
        cancels (Some c) = other_on limits h k ds calls (event.Cancel c) p tt refl s

        gone : S (with_client z left (cancelled limits client.consumer p))
        gone = change_on limits h k ds calls z left (cancelled limits client.consumer p) (left_row calls (cancelled limits client.consumer p))
            (cancels client.consumer)

  -- THE EVENT OF A CALL

  module _ (calls : List Called) (call : Called) where
    abbrev more : List Called
    more = more_calls k calls call

    abbrev Before : Proxy → Type 0
    Before p = Follows limits h k ds calls p

    abbrev Behind : Proxy → Type 0
    Behind p = Follows limits h k ds more p

    abbrev Misses : Type 0
    Misses = exchange_of ds k ≡ None → got_by k call.event call.bytes ≡ []

    read_row : (p : Proxy) (new old : Client) → new.owed ≡ old.owed → new.reply ≡ old.reply → new.consumer ≡ old.consumer → new.closing ≡ old.closing →
        new.reading ≡ old.reading → new.gone ≡ old.gone
        → (r : IsRow limits h k ds calls p (Some old)) → IsRead k p.setting.front ds more new (starts_of p.holder k p.history) r.asked →
        IsRow limits h k ds more p (Some new)
    read_row p new old owed reply consumer closing reading gone r read = record {
      asked = r.asked;
      read = read;
      owes = owes_alike h (consumers_of p.holder k p.history) r.asked new old owed reply consumer closing reading r.owes;
      live = λ d is here. consumer ∙ r.live d is (sym gone ∙ here);
    }

    row_passes : Misses → (p : Proxy) (o : Option Client) → IsRow limits h k ds calls p o → IsRow limits h k ds more p o
    row_passes none p None row = record { none = row.none; nobody = row.nobody; unheld = row.unheld }
    row_passes none p (Some client) r =
        read_row p client client refl refl refl refl refl refl r
        (passes k p.setting.front ds calls call client (starts_of p.holder k p.history) r.asked (λ here off. none off) r.read)

    all_pass : Misses → (p : Proxy) → Before p → Behind p
    all_pass none p s = record { all = s.all; row = row_passes none p (p.client k) s.row }

    -- it comes
    new_row : (z : ℕ) (p : Proxy) → call.event ≡ wire.Accepted z → nat_eq k z ≡ true → IsRow limits h k ds more p None →
        IsRow limits h k ds more p (Some new_client)
    new_row z p is same r =
        let at : z ≡ k = grind (arith, nat_tests) in
        record {
          asked = [];
          read = record {
            behind = [];
            accepted = (calls, call, refl, is ∙ ap (λ (n : ℕ). wire.Accepted n) at);
            wires = [];
            first = [];
            rest = [];
            whole = refl;
            reads = (refl, refl);
            asked_are = refl;
            are = r.none;
            asking = tt;
            all = λ here off. refl;
          };
          owes = subst (λ (cs : List ℕ). Owes h cs [] new_client) (sym r.nobody) (new_owes h);
          live = λ d held here. absurd (r.unheld d held);
        }

    comes_on : (z : ℕ) (p : Proxy) → call.event ≡ wire.Accepted z → Behind p → Behind (client_comes z p)
    comes_on z p is s = by_row (p.client z) refl (nat_lt (length (clients_here p)) 512)
      where
        row_now : p.client z ≡ None → (b : Bool) → nat_eq k z ≡ b → IsRow limits h k ds more p (if b then Some new_client else p.client k)
        row_now none false off = s.row
        row_now none true on =
            let same : k ≡ z = grind (arith, nat_tests) in
            let row : p.client k ≡ None = ap p.client same ∙ none in
            new_row z p is on (subst (IsRow limits h k ds more p) row s.row)

        by_row : (o : Option Client) → p.client z ≡ o → (b : Bool) → Behind (if is_none o && b then with_new z p else p)
        by_row None none true = record {
          all = put_all limits h k (inserted z p.accepted) (with z new_client p.client) p.upstream p s.all;
          row =
              row_now none (nat_eq k z) refl;
        }
        by_row None none false = s
        by_row (Some client) at b = s

    -- bytes of it come
    sends_on : (z n : ℕ) (p : Proxy) → call.event ≡ wire.Got z n → exchange_of ds z ≡ None → Before p → Behind (with_client z (client_sends call.bytes) p)
    sends_on z n p is off s =
        record { all = put_all limits h k p.accepted (with_client z (client_sends call.bytes) p).client p.upstream p s.all; row = by_number (nat_eq k z) refl }
      where
        requests : List Request
        requests = starts_of p.holder k p.history

        got_is : (b : Bool) → nat_eq k z ≡ b → got_by k call.event call.bytes ≡ (if b then call.bytes else [])
        got_is b at = ap (λ (w : WireEvent). got_by k w call.bytes) is ∙ ap (λ (t : Bool). if t then call.bytes else []) at

        waits_on : (client : Client) (r : IsRow limits h k ds calls p (Some client)) → nat_eq k z ≡ true → client.gone ≡ false →
            IsRow limits h k ds more p (Some (record client { input = client.input ++ call.bytes }))
        waits_on client r on gone =
            let same : k ≡ z = grind (arith, nat_tests) in
            read_row p (record client { input = client.input ++ call.bytes }) client refl refl refl refl refl refl r
            (subst (λ (bytes : List ℕ). IsRead k p.setting.front ds more (record client { input = client.input ++ bytes }) requests r.asked) (got_is true on)
            (waits k p.setting.front ds calls call client requests r.asked gone (ap (exchange_of ds) same ∙ off) r.read))

        by_gone : (client : Client) → IsRow limits h k ds calls p (Some client) → nat_eq k z ≡ true → (b : Bool) → client.gone ≡ b →
            IsRow limits h k ds more p (Some (if b then client else record client { input = client.input ++ call.bytes }))
        by_gone client r on true gone =
            read_row p client client refl refl refl refl refl refl r
            (passes k p.setting.front ds calls call client requests r.asked (λ here o. gone_never (sym gone ∙ here)) r.read)
        by_gone client r on false gone = waits_on client r on gone

        by_row : nat_eq k z ≡ true → (o : Option Client) → IsRow limits h k ds calls p o → IsRow limits h k ds more p (option_map (client_sends call.bytes) o)
        by_row on None row = record { none = row.none; nobody = row.nobody; unheld = row.unheld }
        by_row on (Some client) row = by_gone client row on client.gone refl

        by_number : (b : Bool) → nat_eq k z ≡ b → IsRow limits h k ds more p (if b then option_map (client_sends call.bytes) (p.client k) else p.client k)
        by_number false apart = row_passes (λ o. got_is false apart) p (p.client k) s.row
        by_number true on = by_row on (p.client k) s.row

    -- bytes of a dial come
    misses : (z n x : ℕ) → call.event ≡ wire.Got z n → exchange_of ds z ≡ Some x → Misses
    misses z n x is dial off = by_number (nat_eq k z) refl
      where
        by_number : (b : Bool) → nat_eq k z ≡ b → got_by k call.event call.bytes ≡ []
        by_number false apart = ap (λ (w : WireEvent). got_by k w call.bytes) is ∙ ap (λ (t : Bool). if t then call.bytes else []) apart
        by_number true on =
            let same : k ≡ z = grind (arith, nat_tests) in
            absurd (let never : None ≡ Some x = sym off ∙ (ap (exchange_of ds) same ∙ dial) in cc)

    got_on : (z n : ℕ) (o : Option ℕ) (p : Proxy) → call.event ≡ wire.Got z n → exchange_of ds z ≡ o → Before p → Behind (sends o z call.bytes p)
    got_on z n None p is at s = sends_on z n p is at s
    got_on z n (Some x) p is at s = put_up more _ p (all_pass (misses z n x is at) p s)

    ends_on : (z : ℕ) (o : Option ℕ) (p : Proxy) → Behind p → Behind (ends limits o z p)
    ends_on z None p s = leaves_on more z (p.client z) p s
    ends_on z (Some x) p s = put_up more _ p s

    broke_on : (z : ℕ) (o : Option ℕ) (p : Proxy) → Behind p → Behind (broke limits o z p)
    broke_on z None p s = leaves_on more z (p.client z) p s
    broke_on z (Some x) p s =
        still limits h k ds more (is_open (p.tables.exchange x)) p (stepped limits (event.Fault x) p) s
        (other_on limits h k ds more (event.Fault x) p tt refl s)

    by_event : (w : WireEvent) (p : Proxy) → call.event ≡ w → Before p → Behind (handled_by limits ds call.bytes w p)
    by_event (wire.Accepted z) p is s = comes_on z p is (all_pass (λ off. ap (λ (w : WireEvent). got_by k w call.bytes) is) p s)
    by_event (wire.Got z n) p is s = got_on z n (exchange_of ds z) p is refl s
    by_event (wire.Ended z) p is s = ends_on z (exchange_of ds z) p (all_pass (λ off. ap (λ (w : WireEvent). got_by k w call.bytes) is) p s)
    by_event (wire.Broke z) p is s = broke_on z (exchange_of ds z) p (all_pass (λ off. ap (λ (w : WireEvent). got_by k w call.bytes) is) p s)
    by_event (wire.Room z) p is s = all_pass (λ off. ap (λ (w : WireEvent). got_by k w call.bytes) is) p s
    by_event wire.Quiet p is s = all_pass (λ off. ap (λ (w : WireEvent). got_by k w call.bytes) is) p s

    handled_on : (p : Proxy) → Before p → Behind (handled limits ds call p)
    unfolding handled
    handled_on p s = by_event call.event p refl s

    -- BEFORE THE POLLS

    pub before_polls : (p : Proxy) → Before p → Behind (started_all limits call (heard limits (handled limits ds call p)))
    before_polls p s = starts_on limits h k ds more call (heard limits (handled limits ds call p)) (heard_on more (handled limits ds call p) (handled_on p s))
