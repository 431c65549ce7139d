-- What stands before the last act or error answer of a client was taken at the call, or was so before the turn.
--
-- In a turn a client is owed something more in three ways: a request of it is refused, which asks that it was sent all;
-- or an act is sent to it, by a poll that asked that too. All other changes leave what stands before as it is. The
-- steps of a turn follow one another: `handled_before`, `started_before`, `polled_before` and `carried_before`.
use Rattle.std.{proofs.{Common.{◌≡◌, ◌≤◌, ◌⊎◌, inl, inr, ℕ, ◌+◌, List, [], ◌∷◌, ◌++◌, Bool, true, false, Option, Some, None, refl, ap, sym, ◌∙◌, subst, arith}, lemmas.Bool.Decides.{nat_tests}}, specs.Prelude.{◌&&◌, ◌||◌, not, nat_eq, nat_lt, length, is_none, if◌then◌else◌, option_map}}
use Rattle.hc_effects.proofs.Vocabulary.{Act, Event, is_open, Limits, act, event}
use Rattle.hc_head.specs.declared.message.WireRequest.{WireRequest}
use Rattle.hc_msg.specs.{Inputs.{Next, Waits, Reports, Brings, Ends, Fails, next_in}, Reading.{Failed, Token, Asks, Answers, Byte}}
use Rattle.hc_peers.specs.Renderings.{rendering, form_behind, is_last, closes, asked_of, reply_to}
use Rattle.hc_wire.specs.{Logs.{Called}, declared.event.WireEvent.{WireEvent}}
use Rattle.hc_wire.specs.declared.event.WireEvent.TheVariants as wire
use Rattle.hc_proxy.specs.{Carrying.{answered, answers, carried_out, all_carried_out, carried, acts_in}, Connections.{taken_at, has_unsent, exchange_of}, Handling.{clients_here, client_comes, left, cancelled, leaves, client_sends, sends, ends, broke, handled_by, handled}, Invariants.{IsServed, AreServed, addressee}, Polls.{polled_all, each_polled, polled, may_be_polled, live_consumers}, Rows.{Client, Proxy, new_client, with_client}, Starts.{read_to, asks, with_holder, started, refused, hears_request, hears, hears_if, each_heard, is_ready, started_all}, Steps.{with_entry, stepped}}

pub some_is : (a b : Client) → Some a ≡ Some b → a ≡ b
some_is a b h = cc

-- a client that is here, behind an act that is sent to it
abbrev sent : Act → Client → Client
sent a client = record client {
  owed = client.owed ++ rendering client.reply a;
  before = length client.owed;
  reply = record client.reply { form = form_behind client.reply a };
  closing = client.closing || closes client.reply a;
  consumer = if is_last a then None else client.consumer;
}

module _ (limits : Limits) (call : Called) (k : ℕ) where
  -- what stands before the last act or answer is what stood there in this table, or was taken
  abbrev pub IsFrom : Option Client → Client → Type 0
  IsFrom None new = new.before ≤ taken_at call k
  IsFrom (Some old) new = (new.before ≡ old.before) ⊎ (new.before ≤ taken_at call k)

  abbrev pub Before : Proxy → Proxy → Type 0
  Before p q = (new : Client) → q.client k ≡ Some new → IsFrom (p.client k) new

  -- CHANGES

  itself : (o : Option Client) (new : Client) → o ≡ Some new → IsFrom o new
  itself None new is = absurd (let never : None ≡ Some new = is in cc)
  itself (Some old) new is = inl (let same : Some old ≡ Some new = is in cc)

  pub same : (p q : Proxy) → q.client k ≡ p.client k → Before p q
  same p q is new row = itself (p.client k) new (sym is ∙ row)

  through : (o : Option Client) (mid new : Client) → IsFrom o mid → (new.before ≡ mid.before) ⊎ (new.before ≤ taken_at call k) → IsFrom o new
  through None mid new a (inl b) = let le : mid.before ≤ taken_at call k = a in omega arith
  through None mid new a (inr b) = b
  through (Some old) mid new (inl a) (inl b) = inl (b ∙ a)
  through (Some old) mid new (inr a) (inl b) = inr (omega arith)
  through (Some old) mid new a (inr b) = inr b

  any_taken : (o : Option Client) (new : Client) → new.before ≤ taken_at call k → IsFrom o new
  any_taken None new le = le
  any_taken (Some old) new le = inr le

  pub both : (p q r : Proxy) → Before p q → Before q r → Before p r
  both p q r a b new row = by_row (q.client k) refl (b new row)
    where
      by_row : (o : Option Client) → q.client k ≡ o → IsFrom o new → IsFrom (p.client k) new
      by_row None is le = any_taken (p.client k) new le
      by_row (Some mid) is from = through (p.client k) mid new (a mid is) from

  either : (b : Bool) (p q : Proxy) → Before p q → Before p (if b then q else p)
  either true p q h = h
  either false p q h = same p p refl

  -- a client is changed so that this stays, or is taken
  abbrev Fair : (Client → Client) → Client → Type 0
  Fair change old = ((change old).before ≡ old.before) ⊎ ((change old).before ≤ taken_at call k)

  changed_by : (change : Client → Client) (o : Option Client) (b : Bool) (new : Client) → ((old : Client) → o ≡ Some old → Fair change old) →
      (if b then option_map change o else o) ≡ Some new → IsFrom o new
  changed_by change None true new fair row = absurd (let never : None ≡ Some new = row in cc)
  changed_by change None false new fair row = absurd (let never : None ≡ Some new = row in cc)
  changed_by change (Some old) true new fair row =
      let F : Client → Type 0 = λ c. (c.before ≡ old.before) ⊎ (c.before ≤ taken_at call k) in
      subst F (some_is (change old) new row) (fair old refl)
  changed_by change (Some old) false new fair row = itself (Some old) new row

  changes : (z : ℕ) (change : Client → Client) (p : Proxy) → ((old : Client) → p.client k ≡ Some old → nat_eq k z ≡ true → Fair change old) →
      Before p (with_client z change p)
  changes z change p fair new row = by_test (nat_eq k z) refl row
    where
      by_test : (b : Bool) → nat_eq k z ≡ b → (if b then option_map change (p.client k) else p.client k) ≡ Some new → IsFrom (p.client k) new
      by_test true is h = changed_by change (p.client k) true new (λ old at. fair old at is) h
      by_test false is h = itself (p.client k) new h

  keeps : (z : ℕ) (change : Client → Client) (p : Proxy) → ((c : Client) → (change c).before ≡ c.before) → Before p (with_client z change p)
  keeps z change p stays = changes z change p (λ old at is. inl (stays old))

  stepped_same : (ev : Event) (p : Proxy) → Before p (stepped limits ev p)
  unfolding with_entry
  stepped_same ev p = same p (stepped limits ev p) refl

  -- HANDLE

  if_same : (b : Bool) (c d : Client) → d.before ≡ c.before → (if b then c else d).before ≡ c.before
  if_same true c d h = refl
  if_same false c d h = h

  comes : (z : ℕ) (p : Proxy) → Before p (client_comes z p)
  comes z p = either (is_none (p.client z) && nat_lt (length (clients_here p)) 512) p _ arrives
    where
      by_test : (b : Bool) (new : Client) → (if b then Some new_client else p.client k) ≡ Some new → IsFrom (p.client k) new
      by_test true new row = any_taken (p.client k) new
          (let none : new.before ≡ 0 = sym (ap (λ (c : Client). c.before) (some_is new_client new row)) in omega arith)
      by_test false new row = itself (p.client k) new row

      arrives : (new : Client) → (if nat_eq k z then Some new_client else p.client k) ≡ Some new → IsFrom (p.client k) new
      arrives new row = by_test (nat_eq k z) new row

  leaves_by : (z : ℕ) (o : Option Client) (p : Proxy) → Before p (leaves limits z o p)
  leaves_by z None p = same p p refl
  leaves_by z (Some client) p = by_gone client.gone
    where
      cancels : (o : Option ℕ) → Before p (cancelled limits o p)
      cancels None = same p p refl
      cancels (Some c) = stepped_same (event.Cancel c) p

      by_gone : (b : Bool) → Before p (if b then p else with_client z left (cancelled limits client.consumer p))
      by_gone true = same p p refl
      by_gone false = both p (cancelled limits client.consumer p) (with_client z left (cancelled limits client.consumer p)) (cancels client.consumer)
          (keeps z left (cancelled limits client.consumer p) (λ c. refl))

  sends_by : (z : ℕ) (bytes : List ℕ) (o : Option ℕ) (p : Proxy) → Before p (sends o z bytes p)
  sends_by z bytes None p = keeps z (client_sends bytes) p (λ c. if_same c.gone c _ refl)
  sends_by z bytes (Some x) p = same p (sends (Some x) z bytes p) refl

  ends_by : (z : ℕ) (o : Option ℕ) (p : Proxy) → Before p (ends limits o z p)
  ends_by z None p = leaves_by z (p.client z) p
  ends_by z (Some x) p = same p (ends limits (Some x) z p) refl

  broke_by : (z : ℕ) (o : Option ℕ) (p : Proxy) → Before p (broke limits o z p)
  broke_by z None p = leaves_by z (p.client z) p
  broke_by z (Some x) p = either (is_open (p.tables.exchange x)) p (stepped limits (event.Fault x) p) (stepped_same (event.Fault x) p)

  by_event : (dialled : List (Option ℕ)) (bytes : List ℕ) (w : WireEvent) (p : Proxy) → Before p (handled_by limits dialled bytes w p)
  by_event dialled bytes (wire.Accepted z) p = comes z p
  by_event dialled bytes (wire.Got z n) p = sends_by z bytes (exchange_of dialled z) p
  by_event dialled bytes (wire.Ended z) p = ends_by z (exchange_of dialled z) p
  by_event dialled bytes (wire.Broke z) p = broke_by z (exchange_of dialled z) p
  by_event dialled bytes (wire.Room z) p = same p p refl
  by_event dialled bytes wire.Quiet p = same p p refl

  pub handled_before : (dialled : List (Option ℕ)) (p : Proxy) → Before p (handled limits dialled call p)
  unfolding handled
  handled_before dialled p = by_event dialled call.bytes call.event p

  -- STARTS

  module _ (z : ℕ) where
    starts_by : (request : WireRequest) (p : Proxy) → Before p (started limits z request p)
    starts_by request p =
        let q = with_client z (asks (p.starts + 1) (reply_to p.setting.front request)) p in
        both p q (started limits z request p) (keeps z (asks (p.starts + 1) (reply_to p.setting.front request)) p (λ c. refl))
        (both q (with_holder (p.starts + 1) z q) (started limits z request p) (same q (with_holder (p.starts + 1) z q) refl)
        (stepped_same (event.Start (p.starts + 1) (asked_of p.setting.front request)) (with_holder (p.starts + 1) z q)))

    token_by : (token : Token) (p : Proxy) → Before p (hears_request limits z token p)
    token_by (Asks request) p = starts_by request p
    token_by (Answers response) p = same p p refl
    token_by (Byte b) p = same p p refl

    -- who is refused was sent all
    hears_by : (n : Next) (p : Proxy) → ((old : Client) → p.client z ≡ Some old → length old.owed ≤ taken_at call z) → Before p (hears limits z n p)
    hears_by (Waits reading) p all = keeps z (read_to reading []) p (λ c. refl)
    hears_by (Reports token reading rest) p all =
        both p (with_client z (read_to reading rest) p) (hears limits z (Reports token reading rest) p) (keeps z (read_to reading rest) p (λ c. refl))
        (token_by token (with_client z (read_to reading rest) p))
    hears_by (Brings bytes reading rest) p all = same p p refl
    hears_by Ends p all = same p p refl
    hears_by (Fails e) p all =
        let q = with_client z (read_to (Failed e) []) p in
        both p q (with_client z (refused e) q) (keeps z (read_to (Failed e) []) p (λ c. refl))
        (changes z (refused e) q
        (λ old at is. inr (let number : k ≡ z = grind (arith, nat_tests) in let le : length old.owed ≤ taken_at call z = owed_then
        old (subst (λ m. q.client m ≡ Some old) number at) in subst (λ m. length old.owed ≤ taken_at call m) (sym number) le)))
      where
        by_row : (o : Option Client) (old : Client) → p.client z ≡ o → option_map (read_to (Failed e) []) o ≡ Some old → length old.owed ≤ taken_at call z
        by_row None old at row = absurd (let never : None ≡ Some old = row in cc)
        by_row (Some it) old at row =
            let same_owed : it.owed ≡ old.owed = ap (λ (c : Client). c.owed) (some_is (read_to (Failed e) [] it) old row) in
            subst (λ xs. length xs ≤ taken_at call z) same_owed (all it at)

        owed_then : (old : Client) → (with_client z (read_to (Failed e) []) p).client z ≡ Some old → length old.owed ≤ taken_at call z
        owed_then old row = by_row (p.client z) old refl (let one : nat_eq z z ≡ true = grind (arith, nat_tests) in sym (rw one refl) ∙ row)

    ready_sent : (client : Client) → is_ready call z client ≡ true → length client.owed ≤ taken_at call z
    ready_sent client h = by_parts (nat_lt 0 (length client.input) && is_none client.consumer) (has_unsent call z client) (not client.closing) refl h
      where
        by_parts : (a b d : Bool) → has_unsent call z client ≡ b → (a && not b && d) ≡ true → length client.owed ≤ taken_at call z
        by_parts true true d is g = absurd (let never : false ≡ true = g in cc)
        by_parts false true d is g = absurd (let never : false ≡ true = g in cc)
        by_parts a false d is g = grind (arith, nat_tests)

    heard_by : (o : Option Client) (p : Proxy) → p.client z ≡ o → Before p (hears_if limits call z o p)
    heard_by None p at = same p p refl
    heard_by (Some client) p at = by_ready (is_ready call z client) refl
      where
        by_ready : (b : Bool) → is_ready call z client ≡ b → Before p (if b then hears limits z (next_in 1 client.reading client.input) p else p)
        by_ready false is = same p p refl
        by_ready true is = hears_by (next_in 1 client.reading client.input) p
            (λ old row. subst (λ (c : Client). length c.owed ≤ taken_at call z) (some_is client old (sym at ∙ row)) (ready_sent client is))

  each_by : (zs : List ℕ) (p : Proxy) → Before p (each_heard limits call zs p)
  each_by [] p = same p p refl
  each_by (z ∷ zs) p = both p (hears_if limits call z (p.client z) p) (each_heard limits call (z ∷ zs) p) (heard_by z (p.client z) p refl)
      (each_by zs (hears_if limits call z (p.client z) p))

  pub started_before : (p : Proxy) → Before p (started_all limits call p)
  unfolding started_all
  started_before p = each_by (clients_here p) p

  -- POLLS change no client

  polls_by : (cs : List ℕ) (p : Proxy) → Before p (each_polled limits call cs p)
  polls_by [] p = same p p refl
  polls_by (c ∷ cs) p = both p (polled limits call c p) (each_polled limits call (c ∷ cs) p)
      (either (may_be_polled call p (p.holder c)) p (stepped limits (event.Poll c 16384) p) (stepped_same (event.Poll c 16384) p))
      (polls_by cs (polled limits call c p))

  pub polled_before : (p : Proxy) → Before p (polled_all limits call p)
  unfolding polled_all
  polled_before p = polls_by (live_consumers p.tables) p

  -- CARRYING OUT, where each act finds a client that was sent all

  -- an act for c, whose client it finds
  sends_to : (a : Act) (c : ℕ) (p : Proxy) → addressee a ≡ Some c → (j : ℕ) → IsServed call p j c → Before p (answers (p.holder c) a p)
  sends_to a c p to j served =
      subst (λ (o : Option ℕ). Before p (answers o a p)) (sym served.held)
      (changes j (answered a) p (λ old at is. by_gone old at is old.gone))
    where
      by_gone : (old : Client) → p.client k ≡ Some old → nat_eq k j ≡ true → (b : Bool) →
          ((if b then old else sent a old).before ≡ old.before) ⊎ ((if b then old else sent a old).before ≤ taken_at call k)
      by_gone old at is true = inl refl
      by_gone old at is false =
          let number : k ≡ j = grind (arith, nat_tests) in
          let row : served.holder.row ≡ old = some_is served.holder.row old (sym served.holder.at ∙ (sym (ap p.client number) ∙ at)) in
          inr (let all : nat_lt (taken_at call j) (length old.owed) ≡ false =
          subst (λ (r : Client). nat_lt (taken_at call j) (length r.owed) ≡ false) row served.all in
          subst (λ m. length old.owed ≤ taken_at call m) (sym number) (grind (arith, nat_tests)))

  act_by : (a : Act) (p : Proxy) → ((c : ℕ) → addressee a ≡ Some c → (j : ℕ) × IsServed call p j c) → Before p (carried_out a p)
  act_by (act.Denied refusal) p found = same p p refl
  act_by (act.Opened x c need request) p found = same p (carried_out (act.Opened x c need request) p) refl
  act_by (act.Ask x) p found = same p p refl
  act_by (act.Close x) p found = same p p refl
  act_by (act.Shown c r why status fields lo hi) p found = let s = found c refl in sends_to (act.Shown c r why status fields lo hi) c p refl s.0 s.1
  act_by (act.Given c x at bytes) p found = let s = found c refl in sends_to (act.Given c x at bytes) c p refl s.0 s.1
  act_by (act.Ended c) p found = let s = found c refl in sends_to (act.Ended c) c p refl s.0 s.1
  act_by (act.Failed c cause) p found = let s = found c refl in sends_to (act.Failed c cause) c p refl s.0 s.1
  act_by (act.Pending c wait) p found = same p p refl
  act_by (act.Lost r kind) p found = same p p refl
  act_by (act.Evicted r) p found = same p p refl

  acts_by : (acts : List Act) (p : Proxy) → AreServed call p acts → Before p (all_carried_out acts p)
  acts_by [] p found = same p p refl
  acts_by (a ∷ acts) p found = both p (carried_out a p) (all_carried_out (a ∷ acts) p) (act_by a p found.0) (acts_by acts (carried_out a p) found.1)

  pub carried_before : (p : Proxy) → AreServed call p (acts_in p.part) → Before p (carried p)
  unfolding carried
  carried_before p found = acts_by (acts_in p.part) p found
