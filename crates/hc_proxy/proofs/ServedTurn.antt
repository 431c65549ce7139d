-- By the definitions alone: each act of a turn that is sent to a consumer finds its client, which was sent all.
--
-- So it is behind the polls, if each live consumer is that of one client then, and no act before them is sent to
-- anybody (`served_behind`). That holds where the turn begins, and each change until the polls keeps it (`WellHeld`):
-- an event of the wire, the events of exchanges, and the starts, each of a client that waits for nothing. Nobody goes
-- while the starts are made, so whoever was here at first is here when its request is read.
use Rattle.std.{proofs.{Common.{◌≡◌, inl, inr, ◌≤◌, ◌<◌, ℕ, ◌+◌, List, [], ◌∷◌, ◌++◌, Bool, true, false, Option, Some, None, refl, ap, sym, ◌∙◌, subst, arith}, lemmas.Bool.Decides.{nat_tests}}, specs.Prelude.{◌&&◌, not, nat_eq, nat_lt, is_none, length, filter, option_map, Contains, IsSome, if◌then◌else◌}}
use Rattle.hc_text.proofs.Basics.{some_inj as some_is}
use Rattle.hc_effects.proofs.Vocabulary.{is_denied, Event, live, Entry, is_open, IsOwed, owed, Limits, event}
use Rattle.hc_head.specs.declared.message.WireRequest.{WireRequest}
use Rattle.hc_effects.proofs.PieceKeeps.{eq_cases}
use Rattle.hc_msg.specs.{Inputs.{Next, Waits, Reports, Brings, Ends, Fails, next_in}, Reading.{Reading, Failed, Token, Asks, Answers, Byte}}
use Rattle.hc_wire.specs.{Logs.{Called}, declared.event.WireEvent.{WireEvent}}
use Rattle.hc_wire.specs.declared.event.WireEvent.TheVariants as wire
use Rattle.hc_peers.specs.Renderings.{asked_of, reply_to}
use Rattle.hc_proxy.specs.{Carrying.{acts_in}, Connections.{exchange_of}, Handling.{is_client, clients_here, inserted, client_comes, left, cancelled, leaves, client_sends, origin_sends, origin_ends, sends, ends, broke, handled_by, handled}, Invariants.{IsHolder, HasConsumers, AreServed}, Keeping.{IsNumbered}, Network.{heard}, Polls.{polled_all, each_polled, live_consumers}, Rows.{Client, Upstream, Proxy, with_client, with_upstream}, Starts.{read_to, asks, with_holder, started, refused, hears_request, hears, is_ready, hears_if, each_heard, started_all}, Steps.{with_entry, stepped}, Turns.{happened}, Waiting.{is_poll}}
use Rattle.hc_proxy.proofs.{Ascending.{lives_ascend, lives_are}, FewHere.{few_live}, Holders.{held_of, of_held, KeepsWho, change_keeps, sends_keep, reads_keep, refused_keeps, entry_keeps, leave_keeps, start_keeps, idle_leave_keeps, changed_here}, HoldersBegin.{origin_keeps, comes_keeps}, Inserted.{inserted_here, inserted_on, passed_more}, Marked.{among_contained, contained_among}, NetworkKeeps.{is_of_exchange, heard_keeps}, NextAsks.{ready_idle}, Polled.{polls_add}, QuietActs.{AreQuiet, quiet_both, is_quiet_entry}, RowChanges.{fewer}, Served.{served_behind, each_is_by}, SkippedSteps.{among}, Stands.{Stands, law_of, owed_here, goes_on}, StepOn.{start_by}, Turning.{with_new}, ClientEvents.{no_poll}}
use Rattle.hc_laws.proofs.LiveAfter.{Starts}

-- WHAT IS KEPT

pub record WellHeld (limits : Limits) (p : Proxy) : Type 0 where
  pub stands : Stands limits p
  pub holders : HasConsumers p
  pub last : p.tables.last_start ≤ p.starts
  pub listed : (k : ℕ) → IsSome (p.client k) → Contains p.accepted k
  pub few : length (clients_here p) ≤ 512
  pub quiet : AreQuiet (acts_in p.part)

-- the client at k, if there is one, isn't gone
abbrev pub IsHere : Proxy → ℕ → Type 0
IsHere p k = (r : Client) → p.client k ≡ Some r → r.gone ≡ false

-- and nobody goes
abbrev Stay : Proxy → Proxy → Type 0
Stay p q = (k : ℕ) → IsHere p k → IsHere q k

-- A CHANGE OF A CLIENT

module _ (k : ℕ) (change : Client → Client) (p : Proxy) where
  abbrev q : Proxy
  q = with_client k change p

  some_was : (j : ℕ) → IsSome (q.client j) → IsSome (p.client j)
  some_was j = by_test (nat_eq j k) (p.client j)
    where
      by_test : (b : Bool) (o : Option Client) → IsSome (if b then option_map change o else o) → IsSome o
      by_test true None some = some
      by_test true (Some r) some = refl
      by_test false o some = some

  -- who is here was
  here_was : ((r : Client) → p.client k ≡ Some r → (change r).gone ≡ false → r.gone ≡ false) → (j : ℕ) → is_client (q.client j) ≡ true →
      is_client (p.client j) ≡ true
  here_was back j = by_test (nat_eq j k) refl
    where
      number : nat_eq j k ≡ true → j ≡ k
      number is = grind (arith, nat_tests)

      by_row : j ≡ k → (o : Option Client) → p.client j ≡ o → is_client (option_map change o) ≡ true → is_client o ≡ true
      by_row same None at is = is
      by_row same (Some r) at is = by_gone (change r).gone r.gone refl refl is
        where
          by_gone : (a b : Bool) → (change r).gone ≡ a → r.gone ≡ b → not a ≡ true → not b ≡ true
          by_gone true b x y h = absurd (let never : false ≡ true = h in cc)
          by_gone false b x y h = ap not (sym y ∙ back r (ap p.client (sym same) ∙ at) x)

      by_test : (b : Bool) → nat_eq j k ≡ b → is_client (if b then option_map change (p.client j) else p.client j) ≡ true → is_client (p.client j) ≡ true
      by_test true is h = by_row (number is) (p.client j) refl h
      by_test false is h = h

  stay_by : ((r : Client) → p.client k ≡ Some r → (change r).gone ≡ r.gone) → Stay p q
  stay_by same j here new = by_test (nat_eq j k) refl
    where
      number : nat_eq j k ≡ true → j ≡ k
      number is = grind (arith, nat_tests)

      by_row : j ≡ k → (o : Option Client) → p.client j ≡ o → option_map change o ≡ Some new → new.gone ≡ false
      by_row at None row made = absurd (let never : None ≡ Some new = made in cc)
      by_row at (Some r) row made = ap (λ (c : Client). c.gone) (sym (some_is (change r) new made)) ∙ (same r (ap p.client (sym at) ∙ row) ∙ here r row)

      by_test : (b : Bool) → nat_eq j k ≡ b → (if b then option_map change (p.client j) else p.client j) ≡ Some new → new.gone ≡ false
      by_test true is made = by_row (number is) (p.client j) refl made
      by_test false is row = here new row

  pub change_held : (limits : Limits) → ((r : Client) → p.client k ≡ Some r → KeepsWho r (change r)) → WellHeld limits p → WellHeld limits q
  change_held limits keeps w = record {
    stands = record { begins = w.stands.begins; run = w.stands.run; same = w.stands.same; later = w.stands.later };
    holders = of_held q (change_keeps (acts_in p.part) k change p keeps (held_of p w.holders));
    last = w.last;
    listed = λ j some. w.listed j (some_was j some);
    few =
        let le : length (clients_here q) ≤ length (clients_here p) =
        fewer (λ j. is_client (p.client j)) (λ j. is_client (q.client j)) p.accepted (here_was (λ r at off. sym (keeps r at).gone ∙ off)) in
        let few = w.few in omega arith;
    quiet = w.quiet;
  }

-- A CONNECTION TO THE ORIGIN

origin_held : (limits : Limits) (x : ℕ) (change : Upstream → Upstream) (p : Proxy) → WellHeld limits p → WellHeld limits (with_upstream x change p)
origin_held limits x change p w = record {
  stands = record { begins = w.stands.begins; run = w.stands.run; same = w.stands.same; later = w.stands.later };
  holders = origin_keeps x change p w.holders;
  last = w.last;
  listed = w.listed;
  few = w.few;
  quiet = w.quiet;
}

-- AN EVENT

module _ (limits : Limits) (ev : Event) (p : Proxy) (w : WellHeld limits p) where
  abbrev e : Entry
  e = owed limits p.tables p.moment ev

  e_owed : IsOwed limits p.tables e
  e_owed = owed_here limits ev p w.stands

  event_is : e.event ≡ ev
  unfolding owed
  event_is = refl

  quiet_now : is_poll ev ≡ false → AreQuiet (acts_in p.part ++ e.acts)
  quiet_now off = quiet_both (acts_in p.part) e.acts w.quiet (is_quiet_entry limits p.tables e e_owed (ap is_poll event_is ∙ off))

no_start : (ev : Event) (c : ℕ) → is_of_exchange ev ≡ true → Starts c ev → ⊥
no_start (event.Start d request) c is starts = let never : false ≡ true = is in cc
no_start (event.Poll d want) c is starts = starts
no_start (event.Head x response) c is starts = starts
no_start (event.Piece x bytes) c is starts = starts
no_start (event.End x) c is starts = starts
no_start (event.Fault x) c is starts = starts
no_start (event.Cancel d) c is starts = starts
no_start (event.Doom key) c is starts = starts

numbered_by : (ev : Event) (n : ℕ) → is_of_exchange ev ≡ true → IsNumbered n ev
numbered_by (event.Start d request) n is = absurd (let never : false ≡ true = is in cc)
numbered_by (event.Poll d want) n is = tt
numbered_by (event.Head x response) n is = tt
numbered_by (event.Piece x bytes) n is = tt
numbered_by (event.End x) n is = tt
numbered_by (event.Fault x) n is = tt
numbered_by (event.Cancel d) n is = tt
numbered_by (event.Doom key) n is = tt

step_held : (limits : Limits) (ev : Event) (p : Proxy) → is_of_exchange ev ≡ true → WellHeld limits p → WellHeld limits (stepped limits ev p)
unfolding with_entry
step_held limits ev p is w = record {
  stands = (goes_on limits ev p w.stands).stands;
  holders =
      entry_keeps limits p (owed limits p.tables p.moment ev) (law_of limits p w.stands) (e_owed limits ev p w) w.holders
      (λ c cancels. let at : ev ≡ event.Cancel c = sym (event_is limits ev p w) ∙ cancels in let never : true ≡ false = sym is ∙ ap is_of_exchange at in cc)
      (λ c starts. no_start ev c is (subst (Starts c) (event_is limits ev p w) starts));
  last = start_by p.tables (owed limits p.tables p.moment ev) p.starts w.last
      (subst (IsNumbered p.starts) (sym (event_is limits ev p w)) (numbered_by ev p.starts is)) (is_denied (owed limits p.tables p.moment ev).acts) refl;
  listed = w.listed;
  few = w.few;
  quiet = quiet_now limits ev p w (no_poll ev is);
}

module _ (limits : Limits) where
  -- HANDLE

  abbrev Held : Proxy → Proxy → Type 0
  Held p q = WellHeld limits p → WellHeld limits q

  either_held : (b : Bool) (p q : Proxy) → Held p q → Held p (if b then q else p)
  either_held true p q h = h
  either_held false p q h = λ w. w

  -- one comes whose number was handed out to nobody
  come_held : (k : ℕ) (p : Proxy) → p.client k ≡ None → among k p.accepted ≡ false → length (clients_here p) < 512 → Held p (with_new k p)
  come_held k p none off less w = record {
    stands = record { begins = w.stands.begins; run = w.stands.run; same = w.stands.same; later = w.stands.later };
    holders = of_held (with_new k p) (comes_keeps (acts_in p.part) k p none (held_of p w.holders));
    last = w.last;
    listed = λ j some. elim (eq_cases j k) as (λ _. Contains (inserted k p.accepted) j) [
      | inl here ↦ subst (λ n. Contains (inserted k p.accepted) n) (sym here.1) (contained_among k (inserted k p.accepted) (inserted_here k p.accepted))
      | inr other ↦ contained_among j (inserted k p.accepted) (inserted_on j k p.accepted (among_contained j p.accepted (w.listed j (rw other.0 at some))))
    ];
    few =
        let le : length (clients_here (with_new k p)) ≤ length (clients_here p) + 1 =
        passed_more (λ j. is_client ((with_new k p).client j)) (λ j. is_client (p.client j)) k p.accepted off (λ j apart. rw apart refl) in
        omega arith;
    quiet = w.quiet;
  }

  comes_held : (k : ℕ) (p : Proxy) → among k p.accepted ≡ false → Held p (client_comes k p)
  comes_held k p off w = by_row (p.client k) refl (nat_lt (length (clients_here p)) 512) refl
    where
      by_row : (o : Option Client) → p.client k ≡ o → (b : Bool) → nat_lt (length (clients_here p)) 512 ≡ b →
          WellHeld limits (if is_none o && b then with_new k p else p)
      by_row None at true less = come_held k p at off (grind (arith, nat_tests)) w
      by_row None at false less = w
      by_row (Some r) at b less = w

  -- a client leaves
  idle_left : (k : ℕ) (r : Client) (p : Proxy) → p.client k ≡ Some r → r.consumer ≡ None → Held p (with_client k left p)
  idle_left k r p row none w = record {
    stands = record { begins = w.stands.begins; run = w.stands.run; same = w.stands.same; later = w.stands.later };
    holders = idle_leave_keeps k r p row none w.holders;
    last = w.last;
    listed = λ j some. w.listed j (some_was k left p j some);
    few =
        let le : length (clients_here (with_client k left p)) ≤ length (clients_here p) =
        fewer (λ j. is_client (p.client j)) (λ j. is_client ((with_client k left p).client j)) p.accepted
        (here_was k left p (λ s at off. absurd (let never : true ≡ false = off in cc))) in
        let few = w.few in omega arith;
    quiet = w.quiet;
  }

  busy_left : (k c : ℕ) (p : Proxy) → IsHolder p k c → Held p (with_client k left (stepped limits (event.Cancel c) p))
  unfolding with_entry
  busy_left k c p holder w = record {
    stands = let s = (goes_on limits (event.Cancel c) p w.stands).stands in record { begins = s.begins; run = s.run; same = s.same; later = s.later };
    holders = leave_keeps limits p (owed limits p.tables p.moment (event.Cancel c)) (law_of limits p w.stands) (e_owed limits (event.Cancel c) p w) k c
        holder (event_is limits (event.Cancel c) p w) w.holders;
    last = start_by p.tables (owed limits p.tables p.moment (event.Cancel c)) p.starts w.last
        (subst (IsNumbered p.starts) (sym (event_is limits (event.Cancel c) p w)) tt) (is_denied (owed limits p.tables p.moment (event.Cancel c)).acts) refl;
    listed = λ j some. w.listed j (some_was k left p j some);
    few =
        let le : length (clients_here (with_client k left p)) ≤ length (clients_here p) =
        fewer (λ j. is_client (p.client j)) (λ j. is_client ((with_client k left p).client j)) p.accepted
        (here_was k left p (λ s at off. absurd (let never : true ≡ false = off in cc))) in
        let few = w.few in omega arith;
    quiet = quiet_now limits (event.Cancel c) p w refl;
  }

  leaves_held : (k : ℕ) (o : Option Client) (p : Proxy) → p.client k ≡ o → Held p (leaves limits k o p)
  leaves_held k None p row w = w
  leaves_held k (Some r) p row w = by_gone r.gone refl
    where
      by_consumer : r.gone ≡ false → (o : Option ℕ) → r.consumer ≡ o → WellHeld limits (with_client k left (cancelled limits o p))
      by_consumer here None is = idle_left k r p row is w
      by_consumer here (Some c) is = busy_left k c p (record { row = r; at = row; here = here; consumer = is }) w

      by_gone : (b : Bool) → r.gone ≡ b → WellHeld limits (if b then p else with_client k left (cancelled limits r.consumer p))
      by_gone true is = w
      by_gone false is = by_consumer is r.consumer refl

  sends_held : (k : ℕ) (bytes : List ℕ) (o : Option ℕ) (p : Proxy) → Held p (sends o k bytes p)
  sends_held k bytes None p w = change_held k (client_sends bytes) p limits (λ r at. sends_keep bytes r) w
  sends_held k bytes (Some x) p w = origin_held limits x (origin_sends bytes) p w

  ends_held : (k : ℕ) (o : Option ℕ) (p : Proxy) → Held p (ends limits o k p)
  ends_held k None p w = leaves_held k (p.client k) p refl w
  ends_held k (Some x) p w = origin_held limits x origin_ends p w

  broke_held : (k : ℕ) (o : Option ℕ) (p : Proxy) → Held p (broke limits o k p)
  broke_held k None p w = leaves_held k (p.client k) p refl w
  broke_held k (Some x) p w = either_held (is_open (p.tables.exchange x)) p (stepped limits (event.Fault x) p) (step_held limits (event.Fault x) p refl) w

  by_event : (dialled : List (Option ℕ)) (bytes : List ℕ) (what : WireEvent) (p : Proxy) → ((k : ℕ) → what ≡ wire.Accepted k → among k p.accepted ≡ false) →
      Held p (handled_by limits dialled bytes what p)
  by_event dialled bytes (wire.Accepted k) p new w = comes_held k p (new k refl) w
  by_event dialled bytes (wire.Got k n) p new w = sends_held k bytes (exchange_of dialled k) p w
  by_event dialled bytes (wire.Ended k) p new w = ends_held k (exchange_of dialled k) p w
  by_event dialled bytes (wire.Broke k) p new w = broke_held k (exchange_of dialled k) p w
  by_event dialled bytes (wire.Room k) p new w = w
  by_event dialled bytes wire.Quiet p new w = w

  handled_held : (dialled : List (Option ℕ)) (call : Called) (p : Proxy) → ((k : ℕ) → call.event ≡ wire.Accepted k → among k p.accepted ≡ false) →
      Held p (handled limits dialled call p)
  unfolding handled
  handled_held dialled call p new w = by_event dialled call.bytes call.event p new w

  -- NETWORK

  heard_held : (p : Proxy) → Held p (heard limits p)
  heard_held p = heard_keeps limits Held (record {
    none = λ q w. w;
    both = λ q r s a b w. b (a w);
    reads = λ x change q w. origin_held limits x change q w;
    steps = λ ev is q w. step_held limits ev q is w;
  }) p

  -- STARTS

  -- it stands well behind, and nobody goes
  abbrev Both : Proxy → Proxy → Type 0
  Both p q = WellHeld limits q × Stay p q

  reads_held : (k : ℕ) (reading : Reading) (rest : List ℕ) (p : Proxy) → WellHeld limits p → Both p (with_client k (read_to reading rest) p)
  reads_held k reading rest p w =
      (change_held k (read_to reading rest) p limits (λ r at. reads_keep reading rest r) w, stay_by k (read_to reading rest) p (λ r at. refl))

  starts_held : (k : ℕ) (r : Client) (request : WireRequest) (p : Proxy) → p.client k ≡ Some r → r.gone ≡ false → r.consumer ≡ None → r.closing ≡ false →
      WellHeld limits p → Both p (started limits k request p)
  unfolding with_entry
  starts_held k r request p row here none open_still w = (
    record {
      stands = (goes_on limits (event.Start (p.starts + 1) (asked_of p.setting.front request)) asked asked_stands).stands;
      holders = start_keeps limits p (owed limits p.tables p.moment (event.Start (p.starts + 1) (asked_of p.setting.front request))) (law_of limits p w.stands)
          (e_owed limits (event.Start (p.starts + 1) (asked_of p.setting.front request)) p w)
          k r (asked_of p.setting.front request) (reply_to p.setting.front request) row here none open_still w.last few_now
          (event_is limits (event.Start (p.starts + 1) (asked_of p.setting.front request)) p w) w.holders;
      last = start_by p.tables (owed limits p.tables p.moment (event.Start (p.starts + 1) (asked_of p.setting.front request))) (p.starts + 1)
          (let le = w.last in omega arith)
          (subst (IsNumbered (p.starts + 1)) (sym (event_is limits (event.Start (p.starts + 1) (asked_of p.setting.front request)) p w)) (omega arith))
          (is_denied (owed limits p.tables p.moment (event.Start (p.starts + 1) (asked_of p.setting.front request))).acts) refl;
      listed = λ j some. w.listed j (some_was k (asks (p.starts + 1) (reply_to p.setting.front request)) p j some);
      few =
          let le : length (clients_here (with_client k (asks (p.starts + 1) (reply_to p.setting.front request)) p)) ≤ length (clients_here p) =
          fewer (λ j. is_client (p.client j)) (λ j. is_client ((with_client k (asks (p.starts + 1) (reply_to p.setting.front request)) p).client j)) p.accepted
          (here_was k (asks (p.starts + 1) (reply_to p.setting.front request)) p (λ s at off. off)) in
          let few = w.few in omega arith;
      quiet = quiet_now limits (event.Start (p.starts + 1) (asked_of p.setting.front request)) p w refl;
    },
    stay_by k (asks (p.starts + 1) (reply_to p.setting.front request)) p (λ s at. refl),
  )
    where
      asked : Proxy
      asked = with_holder (p.starts + 1) k (with_client k (asks (p.starts + 1) (reply_to p.setting.front request)) p)

      asked_stands : Stands limits (with_holder (p.starts + 1) k (with_client k (asks (p.starts + 1) (reply_to p.setting.front request)) p))
      asked_stands = record { begins = w.stands.begins; run = w.stands.run; same = w.stands.same; later = w.stands.later }

      few_now : live p.tables < 1024
      few_now =
          let le : live p.tables ≤ length (clients_here p) = few_live p (law_of limits p w.stands) w.holders w.listed in
          let few = w.few in omega arith

  token_held : (k : ℕ) (r : Client) (token : Token) (p : Proxy) → p.client k ≡ Some r → r.gone ≡ false → r.consumer ≡ None → r.closing ≡ false →
      WellHeld limits p → Both p (hears_request limits k token p)
  token_held k r (Asks request) p row here none open_still w = starts_held k r request p row here none open_still w
  token_held k r (Answers response) p row here none open_still w = (w, λ j h. h)
  token_held k r (Byte b) p row here none open_still w = (w, λ j h. h)

  two_held : (p q s : Proxy) → Both p q → (WellHeld limits q → Both q s) → Both p s
  two_held p q s a b = let second = b a.0 in (second.0, λ j h. second.1 j (a.1 j h))

  hears_held : (k : ℕ) (r : Client) (n : Next) (p : Proxy) → p.client k ≡ Some r → r.gone ≡ false → r.consumer ≡ None → r.closing ≡ false →
      WellHeld limits p → Both p (hears limits k n p)
  hears_held k r (Waits reading) p row here none open_still w = reads_held k reading [] p w
  hears_held k r (Reports token reading rest) p row here none open_still w =
      two_held p (with_client k (read_to reading rest) p) (hears limits k (Reports token reading rest) p) (reads_held k reading rest p w)
      (λ v. token_held k (read_to reading rest r) token (with_client k (read_to reading rest) p) (changed_here k (read_to reading rest) p r row) here none
      open_still v)
  hears_held k r (Brings bytes reading rest) p row here none open_still w = (w, λ j h. h)
  hears_held k r Ends p row here none open_still w = (w, λ j h. h)
  hears_held k r (Fails e) p row here none open_still w =
      two_held p (with_client k (read_to (Failed e) []) p) (hears limits k (Fails e) p) (reads_held k (Failed e) [] p w)
      (λ v. (
        change_held k (refused e) (with_client k (read_to (Failed e) []) p) limits
            (λ s at. refused_keeps e s
            (ap (λ (c : Client). c.consumer) (some_is s (read_to (Failed e) [] r) (sym at ∙ changed_here k (read_to (Failed e) []) p r row)) ∙ none)) v,
        stay_by k (refused e) (with_client k (read_to (Failed e) []) p) (λ s at. refl),
      ))

  if_held : (call : Called) (k : ℕ) (o : Option Client) (p : Proxy) → p.client k ≡ o → IsHere p k → WellHeld limits p → Both p (hears_if limits call k o p)
  if_held call k None p row here w = (w, λ j h. h)
  if_held call k (Some r) p row here w = by_ready (is_ready call k r) refl
    where
      by_ready : (b : Bool) → is_ready call k r ≡ b → Both p (if b then hears limits k (next_in 1 r.reading r.input) p else p)
      by_ready false is = (w, λ j h. h)
      by_ready true is = let idle = ready_idle call k r is in hears_held k r (next_in 1 r.reading r.input) p row (here r row) idle.0 idle.1 w

  abbrev AllHere : Proxy → List ℕ → Type 0
  AllHere p [] = Unit {0}
  AllHere p (k ∷ ks) = IsHere p k × AllHere p ks

  all_stay : (p q : Proxy) (ks : List ℕ) → Stay p q → AllHere p ks → AllHere q ks
  all_stay p q [] stay all = tt
  all_stay p q (k ∷ ks) stay all = (stay k all.0, all_stay p q ks stay all.1)

  each_held : (call : Called) (ks : List ℕ) (p : Proxy) → AllHere p ks → WellHeld limits p → WellHeld limits (each_heard limits call ks p)
  each_held call [] p all w = w
  each_held call (k ∷ ks) p all w =
      let one = if_held call k (p.client k) p refl all.0 w in
      each_held call ks (hears_if limits call k (p.client k) p) (all_stay p (hears_if limits call k (p.client k) p) ks one.1 all.1) one.0

  all_here : (p : Proxy) (ks : List ℕ) → AllHere p (filter (λ k. is_client (p.client k)) ks)
  all_here p [] = tt
  all_here p (k ∷ ks) = by_test (all_here p ks) (is_client (p.client k)) refl
    where
      here_by : (o : Option Client) → p.client k ≡ o → is_client o ≡ true → IsHere p k
      here_by None at is = absurd (let never : false ≡ true = is in cc)
      here_by (Some c) at is = λ r row. ap (λ (d : Client). d.gone) (some_is r c (sym row ∙ at)) ∙ by_gone c.gone is
        where
          by_gone : (b : Bool) → not b ≡ true → b ≡ false
          by_gone true h = absurd (let never : false ≡ true = h in cc)
          by_gone false h = refl

      by_test : AllHere p (filter (λ j. is_client (p.client j)) ks) → (b : Bool) → is_client (p.client k) ≡ b →
          AllHere p (if b then k ∷ filter (λ j. is_client (p.client j)) ks else filter (λ j. is_client (p.client j)) ks)
      by_test rest false is = rest
      by_test rest true is = (here_by (p.client k) refl is, rest)

  started_held : (call : Called) (p : Proxy) → Held p (started_all limits call p)
  unfolding started_all
  started_held call p w = each_held call (clients_here p) p (all_here p p.accepted) w

  -- POLLS

  polled_served : (call : Called) (p : Proxy) → WellHeld limits p → AreServed call (polled_all limits call p) (acts_in (polled_all limits call p).part)
  unfolding polled_all
  polled_served call p w =
      let law = law_of limits p w.stands in
      served_behind limits call (live_consumers p.tables) p (each_polled limits call (live_consumers p.tables) p) w.holders w.quiet
      (λ c there. sym (lives_are p.tables law c) ∙ there)
      (polls_add limits call (live_consumers p.tables) 0 p (each_polled limits call (live_consumers p.tables) p) (lives_ascend p.tables law) w.stands
      (each_is_by limits call (live_consumers p.tables) p w.stands))

  -- A TURN

  pub happened_served : (dialled : List (Option ℕ)) (call : Called) (p : Proxy) → ((k : ℕ) → call.event ≡ wire.Accepted k → among k p.accepted ≡ false) →
      WellHeld limits p → AreServed call (happened limits dialled call p) (acts_in (happened limits dialled call p).part)
  happened_served dialled call p new w =
      polled_served call (started_all limits call (heard limits (handled limits dialled call p)))
      (started_held call (heard limits (handled limits dialled call p)) (heard_held (handled limits dialled call p) (handled_held dialled call p new w)))
