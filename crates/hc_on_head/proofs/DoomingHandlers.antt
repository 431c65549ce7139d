-- The head of an unsafe request dooms its key: it is answered, and what is kept represents the tables then.
--
-- Its consumer waits past the store, so the doom neither moves it nor closes its exchange (`out_of_none`). A good head
-- is taken then as any other past the store (`dooming_taken`). A bad one has its exchange closed with the doom, as the
-- refused one, and its consumer is to fail. `stands_down` has the work, item by item (`dooming_bad`). `take_dooming`
-- uses both.
use Rattle.std.{proofs.{lemmas.Bool.Decides.{nat_tests}, Common.{arith, ◌≡◌, ◌≢◌, ◌⊎◌, inl, inr, ℕ, List, [], Bool, true, false, Option, Some, None, refl, ap, sym, ◌∙◌, subst}}, specs.{Prelude.{is_some, is_none, nat_eq, bytes_eq, map, option_map, not, ◌&&◌, ◌||◌, if◌then◌else◌}, HashMap.{get}}}
use Rattle.hc_text.proofs.Basics.{eqb-other, eqb-same, false_true, same_or, same_some as same_row, some_inj as some_is, and_off as then_false}
use Rattle.hc_effects.proofs.Vocabulary.{Limits, Act, Cause, Event, Response, head_case, Request, length_of, is_bad, route_of, head_refusal, head_view, awaits, back_in_line, current, denial, is_live, changes, with_event, as_gone, over, exchange_with_head, all_closed, let_some_go, with_answer, with_consumer, with_exchange, sent_back, woken, is_awaited, awaited_and, is_headless, brings_to, Lawful, is_in_line, IsAwaiting, Tables, Exchange, Representation, Among, waits_at, with_item_first, act, event, case, route, by, cause, place}
use Rattle.hc_store.specs.declared.backend.Backend.{Ghosts}
use Rattle.hc_stored.specs.Entries.{shelf_of}
use Rattle.hc_event.specs.declared.act.Refusal.TheVariants as refusal
use Rattle.hc_exch.specs.{declared.row.{Open.{Open}, Opening.{Opening}}, Exchanges.{table_of}, Known.{Table, open_view, begins_with, length_by}, Openings.{opened_with}}
use Rattle.hc_entry.specs.Keys.{kept_of}
use Rattle.hc_model.specs.Owners as owners
use Rattle.hc_model.specs.Rows as rows
use Rattle.hc_effects.proofs.{Basics.{same_functions}, SameTables.{without, shut, back_from_any, waits_for_any, some_go_is, all_closed_is}, UnsafeEffects.{dooms_taken, dooms_bad}, Tests.{and_false, none_some}}
use Rattle.hc_effects.proofs.SameTables as tables
use Rattle.hc_state.specs.{declared.rows.Rows.{Rows}, Changes.{ChangesAt}, Dooms.{IsUnheard, IsDoomed}, Facts.{Facts}, Heads.{AwaitsHead, IsPastStore, IsReadAlone}, Kept.{IsKept, KeepsConsumer, KeepsExchange, KeepsRunning, answer_for, unread, held_for}, Lines.{KeepsKey, has_turn, is_away, is_away_at, is_passed}, Stands.{Answered, RowsStand, Stands}, Stored.{KeepsEntries, is_over}}
use Rattle.hc_txn.specs.{declared.transaction.Transaction.{Transaction as Consumer}, Transactions.{standing_at}}
use Rattle.hc_on_leave.proofs.{AnswerHandler.{reader_kept, opened_as}, HeardExchange.{drop_none, held_empty}, HeardRows.{Asker, headless_of, kept_as, runs_as}, LeaveHandlers.{flawless}, OneConsumer.{HoldsAsMuch, held_same}, RefuseHandler.{length_as}, UnstoredHandlers.{read_then, unwritten}}
use Rattle.hc_state.proofs.{Answering.{does_answered}, Fallbacks.{same, held_alike}, FallbackSteps.{live_same}, ConsumerSteps.{SaysOfIt, key_with, key_stays}, Counting.{stands_counted}, KeySteps.{not_lined}, Maps.{merely_true, merely_false}, OneOfEach.{stands_then, entries_same, growing_same}, QueueHandler.{becomes_by}, Ties.{key_same, overs_but}, Unbinding.{entries_unbound}}
use Rattle.hc_on_head.proofs.{DoomCloses.{among_is}, DoomTies.{in_is}, HeadReported.{heard_as, past_of_runs}}

-- WHOEVER READS A CLOSED EXCHANGE PAST THE STORE IS TO FAIL

-- what is known of a closed exchange without bytes is that it isn't open
module _ {B : Type 0} {g : Ghosts B} {limits : Limits} (r u : Rows B g) (m : Tables) (c x : ℕ) (e z : Exchange) (v : rows.Consumer) (k : Consumer)
    (stands : RowsStand limits r m)
    (row : m.exchange x ≡ Some e) (over_now : e.is_open ≡ false) (empty : e.body ≡ []) (unjoined : e.joined ≡ None) (headless : e.head ≡ None)
    (unfounded : m.representation x ≡ None)
    (here : m.consumer c ≡ Some v) (at : v.place ≡ place.Direct x) (started : (n : ℕ) → is_some (m.consumer n) ≡ true → Among n m.starts)
    (only : (n : ℕ) (q : rows.Consumer) → m.consumer n ≡ Some q → q.place ≡ place.Direct x → n ≡ c)
    (z_over : z.is_open ≡ false) (z_empty : z.body ≡ []) (z_unjoined : z.joined ≡ None)
    (there : get nat_eq r.consumers c ≡ Some k) (why : Cause) where
  abbrev d : rows.Consumer
  d = record v { place = place.Down why }

  abbrev mid : Tables
  mid = with_consumer c (Some d) m

  abbrev s : Tables
  s = with_exchange x (Some z) mid

  s_here : s.exchange x ≡ Some z
  s_here = rw (eqb-same x) refl

  s_other : (y : ℕ) → y ≢ x → s.exchange y ≡ m.exchange y
  s_other y ne = rw (eqb-other x y (λ h. ne (sym h))) refl

  c_here : mid.consumer c ≡ Some d
  c_here = rw (eqb-same c) refl

  c_other : (n : ℕ) → n ≢ c → mid.consumer n ≡ m.consumer n
  c_other n ne = rw (eqb-other c n (λ h. ne (sym h))) refl

  -- THE CONSUMER

  is : IsKept m k v
  is = kept_as r m c v k stands here there

  unanswered : (b : Bool) → v.shown ≡ b → answer_for m v ≡ None
  unanswered b on = grind (arith, nat_tests)

  unanswered_then : (b : Bool) → v.shown ≡ b → answer_for s (record v { place = place.Down why }) ≡ None
  unanswered_then b on = grind (arith, nat_tests)

  consumer_kept : IsKept s (standing_at (place.Down why) k) d
  consumer_kept = assumption (is, is.answer ∙ (unanswered v.shown refl ∙ sym (unanswered_then v.shown refl)))

  -- THE EXCHANGE

  not_running : (o : Option Open) → KeepsRunning m x o (Some e) → KeepsRunning s x o (Some z)
  not_running None keeps = z_over
  not_running (Some o) keeps = false_true (sym over_now ∙ keeps.is_open)

  exchange_kept : KeepsExchange s x (table_of r.exchanges x)
  exchange_kept = record {
    running = subst (KeepsRunning s x (table_of r.exchanges x).running) (sym s_here)
        (not_running (table_of r.exchanges x).running (subst (KeepsRunning m x (table_of r.exchanges x).running) row (stands.exchanges x).running));
    held = (stands.exchanges x).held
        ∙ (ap (held_for m x) row
        ∙ (held_empty m x e empty unjoined unfounded
        ∙ sym (ap (held_for s x) s_here ∙ held_empty s x z z_empty z_unjoined unfounded)));
  }

  past_none : (y : ℕ) (q : Exchange) → m.exchange y ≡ Some q → unread y q (Some v) ≡ []
  past_none y q at_y = grind (arith, nat_tests)

  much : HoldsAsMuch m c v d here
  much = record { past = λ y q at_y. sym (past_none y q at_y); lost = λ y q b at_y founded. rw at refl }

  held_else : (y : ℕ) (q : Exchange) → y ≢ x → m.exchange y ≡ Some q → held_for s y (Some q) ≡ held_for m y (Some q)
  held_else y q ne at_y = held_alike mid s (λ n. same refl) y q refl ∙ held_same m c v d here much y (Some q) at_y

  -- KEYS

  says : (key : List ℕ) → SaysOfIt m c (Some d) key
  says key = record {
    in_line = line ∙ sym (ap (is_in_line key) here);
    passed = passed ∙ sym (ap (is_passed key) here);
    away = away ∙ sym (ap (is_away m key) here);
    turn = turn ∙ sym (ap (has_turn key) here);
  }
    where
      line : is_in_line key (Some d) ≡ is_in_line key (Some v)
      line = not_lined key d refl ∙ sym (not_lined key v (rw at refl))

      passed : is_passed key (Some d) ≡ is_passed key (Some v)
      passed = rw at refl

      away : is_away m key (Some d) ≡ is_away m key (Some v)
      away = rw at refl

      turn : has_turn key (Some d) ≡ has_turn key (Some v)
      turn = and_false _ _ (not_lined key d refl) ∙ sym (and_false _ _ (not_lined key v (rw at refl)))

  away_same : (key : List ℕ) (o : Option rows.Consumer) → is_away s key o ≡ is_away mid key o
  away_same key o = grind (arith, nat_tests)

  all_keys : (key : List ℕ) → KeepsKey s key (kept_of r.keys key)
  unfolding current
  all_keys key = key_same mid s key _
      (record { current = refl; in_line = λ n. refl; passed = λ n. refl; away = λ n. away_same key (mid.consumer n); turn = λ n. refl })
      (key_with m c (Some d) key _ _ (stands.keys key) (key_stays m c (Some d) key _ (stands.keys key) (says key)))

  -- REPRESENTATIONS

  all_entries : KeepsEntries s (shelf_of r.entries)
  all_entries =
      entries_same mid s (shelf_of r.entries) (λ q. refl) refl refl (λ q n. refl) (λ q n. refl)
      (λ q. growing_same mid s q refl (λ y. by_number q y))
      (overs_but mid.exchange s.exchange x (λ on. ap is_over s_here ∙ ap not z_over) (λ y ne. s_other y (λ h. ne (sym h))))
      (entries_unbound m started c v d here (λ q. refl) (shelf_of r.entries) (shelf_of r.entries) stands.entries (rw at refl))
    where
      shut_now : (q y : ℕ) (w : Exchange) → w.is_open ≡ false → brings_to q y (Some w) ≡ false
      shut_now q y w off = rw off refl

      by_number : (q y : ℕ) → brings_to q y (s.exchange y) ≡ brings_to q y (mid.exchange y)
      by_number q y = elim (same_or x y) [
        | inl same_y ↦ subst (λ (n : ℕ). brings_to q n (s.exchange n) ≡ brings_to q n (m.exchange n)) same_y
            (ap (brings_to q x) s_here ∙ (shut_now q x z z_over ∙ sym (ap (brings_to q x) row ∙ shut_now q x e over_now)))
        | inr ne ↦ ap (brings_to q y) (s_other y (λ h. ne (sym h)))
      ]

  lives_down : is_live (Some d) ≡ true
  lives_down = refl

  lives_before : is_live (Some v) ≡ true
  lives_before = rw at refl

  lives : (n : ℕ) → is_live (s.consumer n) ≡ is_live (m.consumer n)
  lives n = grind (arith, nat_tests)

  pub stands_down : u.last_start ≡ r.last_start → u.exchanges ≡ r.exchanges → u.keys ≡ r.keys → u.entries ≡ r.entries →
      ChangesAt r.consumers u.consumers c (standing_at (place.Down why)) → RowsStand limits u s
  stands_down last exchanges same_keys same_entries alters =
      stands_then r u m s c x (Some (standing_at (place.Down why) k)) stands (last ∙ stands.last_start) (rw exchanges stands.next)
      (alters.len ∙ (stands.count ∙ sym (live_same m s refl lives)))
      (becomes_by r.consumers u.consumers c k (standing_at (place.Down why)) there alters)
      (λ y ne. rw exchanges refl) c_other s_other (λ q. refl)
      (subst (KeepsConsumer s (Some (standing_at (place.Down why) k))) (sym c_here) consumer_kept)
      (rw exchanges exchange_kept) (λ key. rw same_keys (all_keys key))
      (λ n q ne is_n at_n. ne (only n q is_n at_n)) (λ y q ne at_y. held_else y q ne at_y)
      (rw same_entries stands.limits) (rw same_entries all_entries)

-- ONCE ITS KEY IS DOOMED

-- there is one, and it isn't among these
none_gone : (b : Bool) (o : Option Representation) → o ≡ None → (if b then option_map as_gone o else o) ≡ None
none_gone b o none = grind (arith, nat_tests)

module _ {B : Type 0} {g : Ghosts B} {limits : Limits} (r : Rows B g) (t : Tables) (facts : Facts limits t) (stands : RowsStand limits r t) (now x : ℕ)
    (response : Response) (w : Exchange) (v : rows.Consumer) (waits : AwaitsHead t x w v) (at : v.place ≡ place.Direct x) where
  abbrev key : List ℕ
  key = w.request.key

  abbrev rs : List ℕ
  rs = with_item_first (current t key) []

  unshown : v.shown ≡ false
  unshown =
      let reads = facts.law.places.direct w.c x v waits.asker at in
      (reads.unheard (ap (λ (z : Exchange). z.head) (same_row (t.exchange x) reads.w w reads.row waits.row) ∙ waits.headless)).unshown

  empty : w.body ≡ []
  empty = (facts.law.sound.waits.headless x w waits.row waits.headless).0

  unjoined : w.joined ≡ None
  unjoined = (facts.law.sound.waits.headless x w waits.row waits.headless).1

  founds_none : t.representation x ≡ None
  founds_none = facts.law.sound.numbered.names.unfounded x w waits.row waits.headless

  abbrev z : Exchange
  z = exchange_with_head now response w.joined w

  abbrev heard : Tables
  heard = with_answer now x response w.joined w (woken now key t)

  module _ (also : Option ℕ) where
    abbrev xs : List ℕ
    xs = awaited_and t key also

    -- the tables once it is doomed
    abbrev pub after : Tables
    after = without now rs (shut xs (woken now key t))

    pub after_is : let_some_go now (current t key) (all_closed xs (woken now key t)) ≡ after
    after_is = some_go_is now (current t key) (all_closed xs (woken now key t)) ∙ ap (without now rs) (all_closed_is xs (woken now key t))

    sent : (b : Bool) (k u : rows.Consumer) → (if b then back_in_line now k else k) ≡ u → (k ≡ u) ⊎ (u.place ≡ place.Line)
    sent true k u is = inr (sym (ap (λ (q : rows.Consumer). q.place) is))
    sent false k u is = inl is

    -- whoever stands somewhere stood there, or stands in line
    since : (n : ℕ) (u : rows.Consumer) → after.consumer n ≡ Some u → (t.consumer n ≡ Some u) ⊎ (u.place ≡ place.Line)
    since n u is = by_row (t.consumer n) is
      where
        by_row : (o : Option rows.Consumer) → option_map (back_from_any now rs) (option_map (sent_back t now key) o) ≡ Some u →
            (o ≡ Some u) ⊎ (u.place ≡ place.Line)
        by_row None none = none_some u none
        by_row (Some k) some = elim (sent (waits_for_any rs (sent_back t now key k).place) (sent_back t now key k) u (some_is _ _ some)) [
          | inr lined ↦ inr lined
          | inl stays ↦ elim (sent (bytes_eq key k.request.key && waits_at t k.place) k (sent_back t now key k) refl) [
            | inl is_k ↦ inl (ap Some (is_k ∙ stays))
            | inr lined ↦ inr (sym (ap (λ (q : rows.Consumer). q.place) stays) ∙ lined)
          ]
        ]

    here : after.consumer w.c ≡ Some v
    here = grind (arith, nat_tests)

    unfounded : after.representation x ≡ None
    unfounded = none_gone (tables.is_in rs x) (t.representation x) founds_none

    started : (n : ℕ) → is_some (after.consumer n) ≡ true → Among n after.starts
    started n some = facts.law.sound.numbered.lists.started n (by_row (t.consumer n) some)
      where
        by_row : (o : Option rows.Consumer) → is_some (option_map (back_from_any now rs) (option_map (sent_back t now key) o)) ≡ true → is_some o ≡ true
        by_row None none = none
        by_row (Some k) some = refl

    unawaited : is_awaited t key x (t.exchange x) ≡ false
    unawaited = ap (is_awaited t key x) waits.row ∙
        then_false (bytes_eq key w.request.key && is_headless (Some w)) (awaits (t.consumer w.c) x) (ap (λ o. awaits o x) waits.asker ∙ rw at refl)

    -- THE ANSWER

    module _ (out_of : tables.is_in xs x ≡ false) where
      row : after.exchange x ≡ Some w
      row = rw out_of waits.row

      pub alone_doomed : IsReadAlone after x w v
      alone_doomed = read_then
          t facts.law x w v waits after v here (λ n u is ne. since n u is) row unfounded
          (λ q lo hi h. (let stood = at in let never : place.Direct x ≡ place.Bound q lo hi (by.FirstHole x) = sym stood ∙ h in absurd (cc))) at unshown

      answer_is : with_answer now x response w.joined w after ≡ let_some_go now (current t key) (all_closed xs heard)
      answer_is =
          ap (λ (f : ℕ → Option Exchange). record after { exchange = f }) (same_functions _ _ by_number)
          ∙ sym (some_go_is now (current t key) (all_closed xs heard) ∙ ap (without now rs) (all_closed_is xs heard))
        where
          by_number : (y : ℕ) → (with_answer now x response w.joined w after).exchange y ≡ (shut xs heard).exchange y
          by_number y = elim (same_or x y) [
            | inl e ↦ rw (← e, eqb-same x, out_of) refl
            | inr ne ↦ rw (eqb-other x y ne) refl
          ]

    -- THE FAILURE

    module _ (in_it : tables.is_in xs x ≡ true) where
      abbrev down : rows.Consumer
      down = record v { place = place.Down (cause.BadHead x) }

      shut_row : after.exchange x ≡ Some (over w)
      shut_row = rw (in_it, waits.row) refl

      only_it : (n : ℕ) (q : rows.Consumer) → after.consumer n ≡ Some q → q.place ≡ place.Direct x → n ≡ w.c
      only_it n q is stood = elim (since n q is) [
        | inl was ↦ (let reads = facts.law.places.direct n x q was stood in
            sym (ap (λ (e : Exchange). e.c) (same_row (t.exchange x) w reads.w waits.row reads.row) ∙ reads.for_it))
        | inr lined ↦ absurd (let never : place.Line ≡ place.Direct x = sym lined ∙ stood in cc)
      ]

      failure_is : with_exchange x (Some (over z)) (with_consumer w.c (Some down) after) ≡ let_some_go now (current t key)
          (with_consumer w.c (Some down) (all_closed xs heard))
      failure_is =
          ap (λ (f : ℕ → Option Exchange). record (with_consumer w.c (Some down) after) { exchange = f }) (same_functions _ _ by_number)
          ∙ (ap (λ (f : ℕ → Option rows.Consumer). record (without now rs (shut xs heard)) { consumer = f }) (same_functions _ _ by_consumer)
          ∙ sym (some_go_is now (current t key) (with_consumer w.c (Some down) (all_closed xs heard)) ∙
          ap (λ (m : Tables). without now rs (with_consumer w.c (Some down) m)) (all_closed_is xs heard)))
        where
          by_number : (y : ℕ) → (with_exchange x (Some (over z)) after).exchange y ≡ (shut xs heard).exchange y
          by_number y = elim (same_or x y) [
            | inl e ↦ rw (← e, eqb-same x, in_it) refl
            | inr ne ↦ rw (eqb-other x y ne) refl
          ]

          by_test : (b : Bool) (o : Option rows.Consumer) →
              (if b then Some down else option_map (back_from_any now rs) o) ≡ option_map (back_from_any now rs) (if b then Some down else o)
          by_test true o = refl
          by_test false o = refl

          by_consumer : (n : ℕ) → (with_consumer w.c (Some down) after).consumer n ≡ (without now rs (with_consumer w.c (Some down) (shut xs heard))).consumer n
          by_consumer n = by_test (nat_eq w.c n) ((woken now key t).consumer n)

  -- none but awaited ones are closed with it
  pub out_of_none : tables.is_in (awaited_and t key None) x ≡ false
  out_of_none = in_is (awaited_and t key None) x ∙ (among_is r t facts.law key stands None (λ y is. none_some y is) x ∙ unawaited None)

  -- and the refused one
  in_refused : IsUnheard (table_of r.exchanges) key x → tables.is_in (awaited_and t key (Some x)) x ≡ true
  in_refused unheard =
      in_is (awaited_and t key (Some x)) x
      ∙ (among_is r t facts.law key stands (Some x) (λ y is. subst (IsUnheard (table_of r.exchanges) key) (some_is x y is) unheard) x
      ∙ first (nat_eq x x) (is_awaited t key x (t.exchange x)) (eqb-same x))
    where
      first : (a b : Bool) → a ≡ true → (a || b) ≡ true
      first true b on = refl
      first false b on = false_true on

  pub row_doomed : (after None).exchange x ≡ Some w
  row_doomed = row None out_of_none

  -- THE EVENT

  module _ (mid : Rows B g) (before out : List Act) (goes : denial t (event.Head x response) ≡ None) (unsafe : changes w response ≡ true) where
    abbrev ev : Event
    ev = event.Head x response

    pub dooming_taken : (u : Rows B g) → head_case (head_view t false w response) ≡ case.DirectTaken → IsDoomed limits mid t before out now key None →
        ((m : Tables) → IsReadAlone m x w v → RowsStand limits mid m → RowsStand limits u (with_answer now x response w.joined w m))
        → Answered limits (shelf_of r.entries).faults u t before out now ev
    dooming_taken u is doomed answers =
        does_answered limits (shelf_of r.entries).faults u t
        (with_event now ev (let_some_go now (current t key) (all_closed (awaited_and t key None) heard))) before out
        (map act.Close (awaited_and t key None)) now ev
        (dooms_taken limits t facts.law now x response goes w waits.row v waits.asker unsafe is)
        (unwritten t now x response w case.DirectTaken waits.row is refl) (flawless (awaited_and t key None)) doomed.acts
        (stands_counted u _ now ev refl
        (subst (RowsStand limits u) (answer_is None out_of_none)
        (answers (after None) (alone_doomed None out_of_none) (subst (RowsStand limits mid) (after_is None) doomed.rows))))

    pub dooming_bad : (u : Rows B g) (c : ℕ) → w.c ≡ c → IsUnheard (table_of r.exchanges) key x →
        head_case (head_view t false w response) ≡ case.DirectBad → IsDoomed limits mid t before out now key (Some x)
        → u.last_start ≡ mid.last_start → u.exchanges ≡ mid.exchanges → u.keys ≡ mid.keys → u.entries ≡ mid.entries →
        ChangesAt mid.consumers u.consumers c (standing_at (place.Down (cause.BadHead x)))
        → Answered limits (shelf_of r.entries).faults u t before out now ev
    dooming_bad u c for_it unheard is doomed last exchanges same_keys same_entries changes =
        let in_it = in_refused unheard in
        let d : rows.Consumer = down (Some x) in_it in
        let stood = subst (RowsStand limits mid) (after_is (Some x)) doomed.rows in
        let k = reader_kept mid (after (Some x)) w.c x v stood (here (Some x)) at in
        does_answered limits (shelf_of r.entries).faults u t
        (with_event now ev (let_some_go now (current t key) (with_consumer w.c (Some d) (all_closed (awaited_and t key (Some x)) heard)))) before out
        (map act.Close (awaited_and t key (Some x))) now ev
        (dooms_bad limits t facts.law now x response goes w waits.row v waits.asker unsafe is)
        (unwritten t now x response w case.DirectBad waits.row is refl) (flawless (awaited_and t key (Some x))) doomed.acts
        (stands_counted u _ now ev refl (subst (RowsStand limits u) (failure_is (Some x) in_it)
        (stands_down mid u (after (Some x)) w.c x (over w) (over z) v k.0 stood (shut_row (Some x) in_it) refl empty unjoined waits.headless
        (unfounded (Some x))
        (here (Some x)) at (started (Some x)) (only_it (Some x) in_it) refl empty unjoined k.1 (cause.BadHead x) last exchanges same_keys same_entries
        (subst (λ (n : ℕ). ChangesAt mid.consumers u.consumers n (standing_at (place.Down (cause.BadHead x)))) (sym for_it) changes))))

-- FROM WHAT THE CODE LOOKED UP

pub unheard_as : (table : Table) (x : ℕ) (op : Opening) (key : List ℕ) → head_refusal (option_map open_view (table x).running) ≡ None →
    Some (opened_with op) ≡ option_map begins_with (table x).running → key ≡ op.request.now.key → IsPastStore (table x).running → IsUnheard table key x
unheard_as table x op key_is accepted opens copied past =
    let h = headless_of (table x).running accepted in
    record {
      o = h.o;
      running = h.there;
      headless = h.headless;
      of_key =
          ap (λ (q : Request). q.key) (sym (opened_as op (table x).running h.o opens h.there).1) ∙ sym copied;
      past = past h.o h.there;
    }

-- it reads past the store what it waits for
pub past_place : {B : Type 0} {g : Ghosts B} {limits : Limits} (r : Rows B g) (t : Tables) (x : ℕ) (w : Exchange) (a : Asker r t x w) (key : List ℕ) →
    RowsStand limits r t → IsUnheard (table_of r.exchanges) key x → (a.v.place ≡ place.Direct x) × (key ≡ w.request.key)
past_place r t x w a key stands u = grind (arith, nat_tests)

-- its exchange is open still, and has no head
merely_accepted : {P : Type 0} (o : Option Open) → ∥ P ∥₁ → (P → head_refusal (option_map open_view o) ≡ None) → head_refusal (option_map open_view o) ≡ None
merely_accepted o some h =
    is_none_of (head_refusal (option_map open_view o)) (merely_true (is_none (head_refusal (option_map open_view o))) some (λ p. ap (λ z. is_none z) (h p)))
  where
    is_none_of : {A : Type 0} (z : Option A) → is_none z ≡ true → z ≡ None
    is_none_of None on = refl
    is_none_of (Some a) on = false_true on

accepted_row : {B : Type 0} {g : Ghosts B} {limits : Limits} (r : Rows B g) (m : Tables) (x : ℕ) (w : Exchange) → RowsStand limits r m →
    m.exchange x ≡ Some w → w.is_open ≡ true → w.head ≡ None → head_refusal (option_map open_view (table_of r.exchanges x).running) ≡ None
accepted_row r m x w stands row opened bare = grind (arith, nat_tests)

module _ {B : Type 0} {g : Ghosts B} (r mid : Rows B g) (now x : ℕ) (key : List ℕ) (response : Response) (before out : List Act)
    (unheard : IsUnheard (table_of r.exchanges) key x) (some_past : ∥ Stands r ∥₁)
    (dooms : (limits : Limits) (t : Tables) → Lawful t → RowsStand limits r t → IsDoomed limits mid t before out now key None) where
  -- the tables once it is doomed, and its exchange
  record Arrival : Type 0 where
    limits : Limits
    m : Tables
    w : Exchange
    rows : RowsStand limits mid m
    row : m.exchange x ≡ Some w
    is_open : w.is_open ≡ true
    headless : w.head ≡ None
    length : length_by (table_of r.exchanges x).running response ≡ length_of w.need w.request response

  heard_then : Stands r → Arrival
  heard_then p =
      let (t, facts, stands) = past_of_runs r p in
      let h = heard_as r t facts stands x unheard.o unheard.running unheard.headless in
      let at = past_place r t x h.w h.asked key stands unheard in
      let waits = h.asked.awaits in
      let doomed = subst (λ (k : List ℕ). IsDoomed p.limits mid t before out now k None) at.1 (dooms _ t facts.law stands) in
      record {
        limits = p.limits;
        m = after r t facts stands now x response h.w h.asked.v waits at.0 None;
        w = h.w;
        rows = subst (RowsStand p.limits mid) (after_is r t facts stands now x response h.w h.asked.v waits at.0 None) doomed.rows;
        row = row_doomed r t facts stands now x response h.w h.asked.v waits at.0;
        is_open = waits.is_open;
        headless = waits.headless;
        length = length_as r t x h.w response stands waits.row waits.is_open;
      }

  pub accepted_then : head_refusal (option_map open_view (table_of mid.exchanges x).running) ≡ None
  accepted_then = merely_accepted (table_of mid.exchanges x).running some_past
      (λ p. (let h = heard_then p in accepted_row mid h.m x h.w h.rows h.row h.is_open h.headless))

  pub good_then : is_bad (length_by (table_of r.exchanges x).running response) ≡ false → is_bad (length_by (table_of mid.exchanges x).running response) ≡ false
  good_then good = merely_false (is_bad (length_by (table_of mid.exchanges x).running response)) some_past
      (λ p. (let h = heard_then p in ap is_bad (length_as mid h.m x h.w response h.rows h.row h.is_open ∙ sym h.length) ∙ good))
