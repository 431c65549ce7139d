-- The row of a client that is gone stays as it is, whatever a turn does.
--
-- What comes of its connection is dropped, and it isn't let go again. It isn't among the clients whose requests are
-- read, and what is read of others changes no row of it. What is sent to a consumer of it changes nothing. The steps of
-- a turn are looked at one by one; `happened_has` and `carried_has` join them.
use Rattle.std.{proofs.{Common.{◌≡◌, ℕ, List, [], ◌∷◌, Bool, true, false, Option, Some, None, refl, ap, sym, ◌∙◌, arith}, lemmas.Bool.Decides.{nat_tests}}, specs.Prelude.{◌&&◌, ◌||◌, not, nat_eq, nat_lt, length, filter, is_none, if◌then◌else◌, option_map}}
use Rattle.hc_effects.proofs.Vocabulary.{Act, Event, is_open, Limits, act, event}
use Rattle.hc_wire.specs.{Logs.{Called}, declared.event.WireEvent.{WireEvent}}
use Rattle.hc_wire.specs.declared.event.WireEvent.TheVariants as wire
use Rattle.hc_proxy.specs.{Carrying.{answered, answers, carried_out, all_carried_out, carried, acts_in}, Connections.{exchange_of}, Handling.{is_client, clients_here, inserted, client_comes, left, cancelled, leaves, client_sends, sends, ends, broke, handled_by, handled}, Network.{heard}, Polls.{polled_all, each_polled, polled, may_be_polled, live_consumers}, Rows.{Client, Proxy, new_client, with, with_client}, Starts.{hears_if, each_heard, started_all}, Steps.{with_entry, stepped}, Turns.{happened}}
use Rattle.hc_proxy.proofs.{IdleClients.{started_apart}, NetworkKeeps.{same_clients}, SkippedSteps.{among}, BeforeTaken.{some_is}}

module _ (limits : Limits) (call : Called) (k : ℕ) (r : Client) (gone : r.gone ≡ true) where
  abbrev Has : Proxy → Type 0
  Has p = p.client k ≡ Some r

  -- a change that leaves what is gone
  abbrev Leaves : (Client → Client) → Type 0
  Leaves change = change r ≡ r

  changed : (z : ℕ) (change : Client → Client) (p : Proxy) → Leaves change → Has p → Has (with_client z change p)
  changed z change p same has = by_test (nat_eq k z)
    where
      by_test : (b : Bool) → (if b then option_map change (p.client k) else p.client k) ≡ Some r
      by_test true = ap (option_map change) has ∙ ap Some same
      by_test false = has

  still : (b : Bool) (p q : Proxy) → Has p → Has q → Has (if b then q else p)
  still true p q a b = b
  still false p q a b = a

  step_has : (ev : Event) (p : Proxy) → Has p → Has (stepped limits ev p)
  unfolding with_entry
  step_has ev p has = has

  -- HANDLE

  -- a new one comes where there is none
  comes_has : (z : ℕ) (p : Proxy) → Has p → Has (client_comes z p)
  comes_has z p has = by_tests (is_none (p.client z)) refl (nat_lt (length (clients_here p)) 512)
    where
      other : is_none (p.client z) ≡ true → (b : Bool) → nat_eq k z ≡ b → (if b then Some new_client else p.client k) ≡ Some r
      other none true is =
          let same : k ≡ z = grind (arith, nat_tests) in
          let some : is_none (p.client z) ≡ false = ap is_none (sym (ap p.client same) ∙ has) in
          absurd (let never : true ≡ false = sym none ∙ some in cc)
      other none false is = has

      by_tests : (a : Bool) → is_none (p.client z) ≡ a → (b : Bool) →
          Has (if a && b then record p { accepted = inserted z p.accepted; client = with z new_client p.client } else p)
      by_tests true none true = other none (nat_eq k z) refl
      by_tests true none false = has
      by_tests false none b = has

  leaves_has : (z : ℕ) (o : Option Client) (p : Proxy) → p.client z ≡ o → Has p → Has (leaves limits z o p)
  leaves_has z None p row has = has
  leaves_has z (Some client) p row has = by_gone client.gone refl
    where
      cancels : (o : Option ℕ) → Has (cancelled limits o p)
      cancels None = has
      cancels (Some c) = step_has (event.Cancel c) p has

      apart : client.gone ≡ false → (b : Bool) → nat_eq k z ≡ b →
          (if b then option_map left ((cancelled limits client.consumer p).client k) else (cancelled limits client.consumer p).client k) ≡ Some r
      apart here true is =
          let same : k ≡ z = grind (arith, nat_tests) in
          let one : Some client ≡ Some r = sym row ∙ (sym (ap p.client same) ∙ has) in
          let itself : client ≡ r = some_is client r one in
          absurd (let never : true ≡ false = sym gone ∙ (sym (ap (λ (c : Client). c.gone) itself) ∙ here) in cc)
      apart here false is = cancels client.consumer

      by_gone : (b : Bool) → client.gone ≡ b → Has (if b then p else with_client z left (cancelled limits client.consumer p))
      by_gone true is = has
      by_gone false is = apart is (nat_eq k z) refl

  sends_has : (z : ℕ) (bytes : List ℕ) (o : Option ℕ) (p : Proxy) → Has p → Has (sends o z bytes p)
  sends_has z bytes None p has = changed z (client_sends bytes) p (rw gone refl) has
  sends_has z bytes (Some x) p has = has

  ends_has : (z : ℕ) (o : Option ℕ) (p : Proxy) → Has p → Has (ends limits o z p)
  ends_has z None p has = leaves_has z (p.client z) p refl has
  ends_has z (Some x) p has = has

  broke_has : (z : ℕ) (o : Option ℕ) (p : Proxy) → Has p → Has (broke limits o z p)
  broke_has z None p has = leaves_has z (p.client z) p refl has
  broke_has z (Some x) p has = still (is_open (p.tables.exchange x)) p (stepped limits (event.Fault x) p) has (step_has (event.Fault x) p has)

  by_event : (dialled : List (Option ℕ)) (bytes : List ℕ) (w : WireEvent) (p : Proxy) → Has p → Has (handled_by limits dialled bytes w p)
  by_event dialled bytes (wire.Accepted z) p has = comes_has z p has
  by_event dialled bytes (wire.Got z n) p has = sends_has z bytes (exchange_of dialled z) p has
  by_event dialled bytes (wire.Ended z) p has = ends_has z (exchange_of dialled z) p has
  by_event dialled bytes (wire.Broke z) p has = broke_has z (exchange_of dialled z) p has
  by_event dialled bytes (wire.Room z) p has = has
  by_event dialled bytes wire.Quiet p has = has

  -- STARTS

  -- it isn't among those that are here
  not_here : (p : Proxy) (ks : List ℕ) → Has p → among k (filter (λ j. is_client (p.client j)) ks) ≡ false
  not_here p [] has = refl
  not_here p (j ∷ ks) has = by_test (is_client (p.client j)) refl (not_here p ks has)
    where
      by_test : (b : Bool) → is_client (p.client j) ≡ b → among k (filter (λ i. is_client (p.client i)) ks) ≡ false →
          among k (if b then j ∷ filter (λ i. is_client (p.client i)) ks else filter (λ i. is_client (p.client i)) ks) ≡ false
      by_test false is rest = rest
      by_test true is rest = rw (other (nat_eq k j) refl) rest
        where
          other : (b : Bool) → nat_eq k j ≡ b → nat_eq k j ≡ false
          other false h = h
          other true h =
              let same : k ≡ j = grind (arith, nat_tests) in
              let off : is_client (p.client j) ≡ false = ap is_client (sym (ap p.client same) ∙ has) ∙ ap not gone in
              absurd (let never : true ≡ false = sym is ∙ off in cc)

  each_has : (zs : List ℕ) (p : Proxy) → among k zs ≡ false → Has p → Has (each_heard limits call zs p)
  each_has [] p off has = has
  each_has (z ∷ zs) p off has =
      let parts = neither (nat_eq k z) (among k zs) off in
      each_has zs (hears_if limits call z (p.client z) p) parts.1 (started_apart limits call k z parts.0 p ∙ has)
    where
      neither : (a b : Bool) → (a || b) ≡ false → (a ≡ false) × (b ≡ false)
      neither true b h = absurd (let never : true ≡ false = h in cc)
      neither false b h = (refl, h)

  starts_has : (p : Proxy) → Has p → Has (started_all limits call p)
  unfolding started_all
  starts_has p has = each_has (clients_here p) p (not_here p p.accepted has) has

  -- POLLS

  polls_has : (cs : List ℕ) (p : Proxy) → Has p → Has (each_polled limits call cs p)
  polls_has [] p has = has
  polls_has (c ∷ cs) p has =
      polls_has cs (polled limits call c p)
      (still (may_be_polled call p (p.holder c)) p (stepped limits (event.Poll c 16384) p) has (step_has (event.Poll c 16384) p has))

  all_polled_has : (p : Proxy) → Has p → Has (polled_all limits call p)
  unfolding polled_all
  all_polled_has p has = polls_has (live_consumers p.tables) p has

  -- ALL THAT HAPPENS

  pub happened_has : (dialled : List (Option ℕ)) (p : Proxy) → Has p → Has (happened limits dialled call p)
  unfolding handled
  happened_has dialled p has =
      let q = handled limits dialled call p in
      let now : Has q = by_event dialled call.bytes call.event p has in
      all_polled_has (started_all limits call (heard limits q))
      (starts_has (heard limits q) (ap (λ (f : ℕ → Option Client). f k) (same_clients limits q).0 ∙ now))

  -- CARRYING OUT

  answer_has : (o : Option ℕ) (a : Act) (p : Proxy) → Has p → Has (answers o a p)
  answer_has None a p has = has
  answer_has (Some z) a p has = changed z (answered a) p (rw gone refl) has

  act_has : (a : Act) (p : Proxy) → Has p → Has (carried_out a p)
  act_has (act.Denied refusal) p has = has
  act_has (act.Opened x c need request) p has = has
  act_has (act.Ask x) p has = has
  act_has (act.Close x) p has = has
  act_has (act.Shown c q why status fields lo hi) p has = answer_has (p.holder c) (act.Shown c q why status fields lo hi) p has
  act_has (act.Given c x at bytes) p has = answer_has (p.holder c) (act.Given c x at bytes) p has
  act_has (act.Ended c) p has = answer_has (p.holder c) (act.Ended c) p has
  act_has (act.Failed c cause) p has = answer_has (p.holder c) (act.Failed c cause) p has
  act_has (act.Pending c wait) p has = has
  act_has (act.Lost q kind) p has = has
  act_has (act.Evicted q) p has = has

  acts_have : (acts : List Act) (p : Proxy) → Has p → Has (all_carried_out acts p)
  acts_have [] p has = has
  acts_have (a ∷ acts) p has = acts_have acts (carried_out a p) (act_has a p has)

  pub carried_has : (p : Proxy) → Has p → Has (carried p)
  unfolding carried
  carried_has p has = acts_have (acts_in p.part) p has
