-- The head of an exchange came that brings bytes of a hole: what is kept represents the tables then.
--
-- `IsJoinable` says of what: an open exchange without head or bytes, of a consumer that is bound and reads on from it.
-- What looks at neither the exchange of the consumer, nor the head and writer of the representation, is told as before.
-- So other consumers, exchanges and keys stay. Nothing is held of the exchange, since nothing came. Its consumer waits
-- in its key no more, which has the work (`key_then`). `stands_joined` takes the entries from `JoinEntries`.
use Rattle.std.{proofs.{Common.{◌≡◌, ◌≢◌, ◌⊎◌, inl, inr, ℕ, ◌-◌, List, [], Bool, true, false, Option, Some, None, refl, ap, sym, ◌∙◌, subst, arith}, lemmas.Bool.Decides.{nat_tests}}, specs.{Prelude.{is_some, nat_eq, drop, bytes_eq, option_map, ◌&&◌, if◌then◌else◌}, HashMap.{get}}}
use Rattle.hc_text.proofs.Basics.{eqb-other, eqb-same, finds_same, same_or, and_off as then_false}
use Rattle.hc_effects.proofs.Vocabulary.{Limits, Response, Length, length_of, base_of, promise_of, Place, BoundBy, current, is_usable, is_number, total_in, is_live, is_live_place, exchange_with_head, with_answer, with_consumer, with_representation, promise_in, base, family, is_headless, is_reached, is_in_line, stands_in_line, has_passed, is_bound_place, Tables, Exchange, Representation, Among, by, place}
use Rattle.hc_effects.proofs.Tests.{and_false}
use Rattle.hc_store.specs.declared.backend.Backend.{Ghosts}
use Rattle.hc_record.specs.Head.{Head}
use Rattle.hc_stored.specs.Entries.{shelf_of}
use Rattle.hc_entry.specs.Keys.{kept_of}
use Rattle.hc_entry.specs.Kept as keyed
use Rattle.hc_exch.specs.{declared.{role.Role.TheVariants.{the_data as role}, row.Open.{Open}}, Exchanges.{table_of}, Known.{Known, is_all, length_by}}
use Rattle.hc_exch.specs.Exchanges as exch
use Rattle.hc_model.specs.Rows as rows
use Rattle.hc_state.specs.{declared.rows.Rows.{Rows}, Changes.{BecomesAt}, Joining.{bringing}, Kept.{IsKept, IsRunning, KeepsConsumer, KeepsExchange, KeepsRunning, first_lacking, held_for, held_of, held_alone, unread, unstored_bytes, role_of}, Leaving.{LeavesKey}, Lines.{KeepsKey, has_turn, is_passed, is_away, is_away_at}, Stands.{RowsStand}, Stored.{KeepsEntries}}
use Rattle.hc_txn.specs.declared.transaction.Transaction.{Transaction as Consumer}
use Rattle.hc_on_leave.proofs.{AnswerHandler.{all_reached, known_here, known_other}, HeardExchange.{drop_none, held_empty}, HeardRows.{kept_as, runs_as}}
use Rattle.hc_state.proofs.{FallbackSteps.{live_same, length_same}, Fallbacks.{unstored_moved}, KeySteps.{not_lined}, Ties.{consumer_same, exchange_same, key_same, kept_same}}
use Rattle.hc_on_head.proofs.JoinKeys.{keys_left}

-- x, of which nothing came yet, waits for its head for a consumer that is bound to q and reads on from it
pub record IsJoinable (t : Tables) (x q : ℕ) (w : Exchange) (v : rows.Consumer) (p : Representation) : Type 0 where
  pub row : t.exchange x ≡ Some w
  pub is_open : w.is_open ≡ true
  pub headless : w.head ≡ None
  pub empty : w.body ≡ []
  pub unjoined : w.joined ≡ None
  pub unfounded : t.representation x ≡ None
  pub listed : Among x t.openings
  pub asker : t.consumer w.c ≡ Some v
  pub mine : v.own ≡ Some x
  pub lo : ℕ
  pub hi : Option ℕ
  pub how : BoundBy
  pub at : v.place ≡ place.Bound q lo hi how
  pub there : t.representation q ≡ Some p
  pub unread : (d : ℕ) (u : rows.Consumer) → t.consumer d ≡ Some u → u.place ≡ place.Direct x → ⊥
  pub first : (d n lo : ℕ) (hi : Option ℕ) (u : rows.Consumer) → t.consumer d ≡ Some u → u.place ≡ place.Bound n lo hi (by.FirstHole x) → d ≡ w.c
  pub heard : (y : ℕ) → how ≡ by.FirstHole y → (y ≡ x) ⊎ (is_headless (t.exchange y) ≡ false)

-- what is stored has this head and this writer, and the exchange is its consumer's own or isn't
module _ (t : Tables) (now x q : ℕ) (response : Response) (w : Exchange) (v : rows.Consumer) (p : Representation) (j : IsJoinable t x q w v p) (h : Head)
    (total : h.total ≡ p.head.total) (wr : Option ℕ) (own : Option ℕ) (apart : (y : ℕ) → x ≢ y → is_number own y ≡ false) where
  abbrev pub ans : Exchange
  ans = exchange_with_head now response (Some q) w

  abbrev pub z : Representation
  z = record p { head = h; writer = wr }

  abbrev pub vn : rows.Consumer
  vn = record v { own = own }

  abbrev pub s : Tables
  s = with_consumer w.c (Some vn) (with_answer now x response (Some q) w (with_representation q (Some z) t))

  pub exchange_here : s.exchange x ≡ Some ans
  exchange_here = rw (eqb-same x) refl

  pub exchange_other : (y : ℕ) → x ≢ y → s.exchange y ≡ t.exchange y
  exchange_other y ne = rw (eqb-other x y ne) refl

  pub representation_here : s.representation q ≡ Some z
  representation_here = rw (eqb-same q) refl

  pub representation_other : (n : ℕ) → q ≢ n → s.representation n ≡ t.representation n
  representation_other n ne = rw (eqb-other q n ne) refl

  pub consumer_here : s.consumer w.c ≡ Some vn
  consumer_here = rw (eqb-same w.c) refl

  pub consumer_other : (d : ℕ) → w.c ≢ d → s.consumer d ≡ t.consumer d
  consumer_other d ne = rw (eqb-other w.c d ne) refl

  -- what doesn't look at its exchange is told as before
  pub reported_consumer : {A : Type 0} (f : Option rows.Consumer → A) → f (Some vn) ≡ f (Some v) → (d : ℕ) → f (s.consumer d) ≡ f (t.consumer d)
  reported_consumer f same d = grind (arith, nat_tests)

  -- what looks neither at its head nor at who writes it is told as before
  pub reported_representation : {A : Type 0} (f : Option Representation → A) → f (Some z) ≡ f (Some p) → (n : ℕ) →
      f (s.representation n) ≡ f (t.representation n)
  reported_representation f same n = grind (arith, nat_tests)

  -- CONSUMERS

  lengths : (n lo : ℕ) (hi : Option ℕ) (how : BoundBy) → total_in (s.representation n) ≡ total_in (t.representation n)
  lengths n lo hi how = reported_representation total_in total n

  consumer_then : (d : ℕ) (o : Option Consumer) → w.c ≢ d → KeepsConsumer t o (t.consumer d) → KeepsConsumer s o (s.consumer d)
  consumer_then d o ne kept =
      subst (KeepsConsumer s o) (sym (consumer_other d ne))
      (consumer_same t s o (t.consumer d) (λ u row. record {
        past = λ y at. elim (same_or x y) [
          | inl e ↦ absurd (j.unread d u row (at ∙ ap (λ (n : ℕ). place.Direct n) (sym e)))
          | inr off ↦ exchange_other y off
        ];
        length = λ n lo hi how at. lengths n lo hi how;
      }) kept)

  asker_then : (k : Consumer) → IsKept t k v → IsKept s (record k { own = own }) vn
  asker_then k is =
      let stood = j.at in
      let kp : IsKept s k v = kept_same t s k v
      (record {
        past = λ y at. absurd (let never : place.Bound q j.lo j.hi j.how ≡ place.Direct y = sym stood ∙ at in cc);
        length =
            λ n lo hi how at. lengths n lo hi how;
      }) is in
      assumption kp

  -- THE EXCHANGE

  -- nothing of it is held
  nothing_of : (m : Tables) (a : Exchange) (b : Representation) (o : Option ℕ) → a.body ≡ [] → held_alone m x a b o ≡ []
  nothing_of m a b o none = grind (arith, nat_tests, drop, drop_none)

  held_then : held_for s x (s.exchange x) ≡ []
  held_then = ap (held_for s x) exchange_here ∙ (ap (held_of s x ans) representation_here ∙ nothing_of s ans z z.alone j.empty)

  held_before : held_for t x (t.exchange x) ≡ []
  held_before = ap (held_for t x) j.row ∙ held_empty t x w j.empty j.unjoined j.unfounded

  -- nothing of another one is held otherwise
  alone_else : (y : ℕ) (a : Exchange) (b : Representation) → x ≢ y → (o : Option ℕ) → held_alone s y a b o ≡ held_alone t y a b o
  alone_else y a b ne o = grind (arith, nat_tests)

  held_else : (y : ℕ) → x ≢ y → (o : Option Exchange) → held_for s y o ≡ held_for t y o
  held_else y ne None = refl
  held_else y ne (Some a) = grind (arith, nat_tests)

  module _ (a b : Known) (o : Open) (opened : a.running ≡ Some o) (runs : IsRunning t x o w) (on : is_reached (promise_in w response) 0 ≡ false)
      (becomes : b ≡ bringing q response a) where
    abbrev l : Length
    l = length_of w.need w.request response

    length_is : length_by a.running response ≡ l
    length_is = ap (λ (r : Option Open). length_by r response) opened ∙
        (ap (λ n. length_of n o.request response) runs.need ∙ ap (λ r. length_of w.need r response) runs.request)

    goes_on : is_all (promise_of (length_by a.running response)) 0 ≡ false
    goes_on = all_reached (promise_of (length_by a.running response)) 0 ∙ (ap (λ (n : Length). is_reached (promise_of n) 0) length_is ∙ on)

    abbrev its : Open
    its = record o { role = role.Body q; headed = true; base = base_of (length_by a.running response); promised = promise_of (length_by a.running response) }

    running_then : b.running ≡ Some its
    running_then = ap (λ (n : Known). n.running) becomes ∙
        rw (goes_on) (ap (λ (r : Option Open). option_map
        (λ (n : Open). record n { headed = true; base = base_of (length_by a.running response); promised = promise_of (length_by a.running response) })
        (option_map (λ (n : Open). record n { role = role.Body q }) r)) opened)

    runs_then : IsRunning s x its ans
    runs_then =
        let opened_still = j.is_open in
        let is_open : ans.is_open ≡ true = rw (on, opened_still) refl in
        let here = representation_here in
        let role : role.Body q ≡ role_of s x ans = rw here refl in
        assumption (runs, is_open, role, ap base_of length_is, ap promise_of length_is)

    exchange_then : a.held ≡ held_for t x (t.exchange x) → KeepsExchange s x b
    exchange_then held = record {
      running = subst (KeepsRunning s x b.running) (sym exchange_here)
          (subst (λ (n : Option Open). KeepsRunning s x n (Some ans)) (sym running_then) runs_then);
      held = (ap (λ (n : Known). n.held) becomes ∙ rw (goes_on) refl) ∙ (held ∙ (held_before ∙ sym held_then));
    }

  exchange_stays : (y : ℕ) (a : Known) → x ≢ y → KeepsExchange t y a → KeepsExchange s y a
  exchange_stays y a ne kept =
      exchange_same t s y a (record {
        row = exchange_other y ne;
        brings = λ b row. reported_representation (λ o. is_some o) refl (family y b);
        held =
            held_else y ne (t.exchange y);
      }) kept

  -- KEYS

  current_same : h.fields ≡ h.fields → (key : List ℕ) → current s key ≡ current t key
  unfolding current
  current_same any key = finds_same (λ n. is_usable key (t.representation n)) (λ n. is_usable key (s.representation n))
      (reported_representation (is_usable key) refl) t.founded

  -- it waits for its head no more
  here_then : is_away_at s v.place ≡ false
  here_then = grind (arith, nat_tests)

  away_other : (key : List ℕ) (d : ℕ) → w.c ≢ d → (o : Option rows.Consumer) → t.consumer d ≡ o → is_away s key o ≡ is_away t key o
  away_other key d ne o row = grind (arith, nat_tests)

  -- the tables without it
  abbrev without : Tables
  without = with_consumer w.c None t

  not_waiting : (key : List ℕ) → is_in_line key (Some vn) ≡ false
  not_waiting key = not_lined key vn (ap stands_in_line j.at)

  gone_at : (d : ℕ) → w.c ≡ d → without.consumer d ≡ None
  gone_at d e = rw (e, eqb-same d) refl

  still_at : (d : ℕ) → w.c ≢ d → without.consumer d ≡ t.consumer d
  still_at d ne = rw (eqb-other w.c d ne) refl

  says_it : {A : Type 0} (f k : Option rows.Consumer → A) → f (Some vn) ≡ k None → ((d : ℕ) → w.c ≢ d → f (t.consumer d) ≡ k (t.consumer d)) → (d : ℕ) →
      f (s.consumer d) ≡ k (without.consumer d)
  says_it f k of_it of_others d = grind (arith, nat_tests)

  key_then : (key : List ℕ) (a : keyed.Kept) → KeepsKey without key a → KeepsKey s key a
  unfolding current
  key_then key a kept = key_same without s key a (record {
    current = current_same refl key;
    in_line = says_it (is_in_line key) (is_in_line key) (not_waiting key) (λ d ne. refl);
    passed = says_it (is_passed key) (is_passed key) (then_false (bytes_eq v.request.key key) _ (ap has_passed j.at)) (λ d ne. refl);
    away = says_it (is_away s key) (is_away without key) (then_false (bytes_eq v.request.key key) _ here_then)
        (λ d ne. away_other key d ne (t.consumer d) refl);
    turn = says_it (has_turn key) (has_turn key) (and_false (is_in_line key (Some vn)) _ (not_waiting key)) (λ d ne. refl);
  }) kept

  -- ALL OF IT

  module _ {B : Type 0} {g : Ghosts B} {limits : Limits} (r u : Rows B g) (k : Consumer) (o : Open) (stands : RowsStand limits r t)
      (there : get nat_eq r.consumers w.c ≡ Some k) (running : (table_of r.exchanges x).running ≡ Some o) (on : is_reached (promise_in w response) 0 ≡ false)
      (bounded : (shelf_of u.entries).limits ≡ limits) (last : u.last_start ≡ r.last_start)
      (becomes : BecomesAt r.consumers u.consumers w.c (Some (record k { own = own }))) (line : LeavesKey w.c k.request.key r.keys u.keys)
      (brings : exch.Becomes (bringing q response) x r.exchanges u.exchanges) (entries : KeepsEntries s (shelf_of u.entries)) where
    is : IsKept t k v
    is = kept_as r t w.c v k stands j.asker there

    runs : IsRunning t x o w
    runs = runs_as r t x o w stands running j.row

    lives : is_live_place v.place ≡ true
    lives = ap is_live_place j.at

    asker_kept : get nat_eq u.consumers w.c ≡ Some (record k { own = own })
    asker_kept = becomes.places w.c ∙ rw (eqb-same w.c) refl

    others_kept : (d : ℕ) → w.c ≢ d → get nat_eq u.consumers d ≡ get nat_eq r.consumers d
    others_kept d ne = becomes.places d ∙ rw (eqb-other w.c d ne) refl

    consumers_then : (d : ℕ) → KeepsConsumer s (get nat_eq u.consumers d) (s.consumer d)
    consumers_then d = elim (same_or w.c d) [
      | inl e ↦ subst (λ (n : ℕ). KeepsConsumer s (get nat_eq u.consumers n) (s.consumer n)) e
          (subst (λ (n : Option Consumer). KeepsConsumer s n (s.consumer w.c)) (sym asker_kept)
          (subst (KeepsConsumer s (Some (record k { own = own }))) (sym consumer_here) (asker_then k is)))
      | inr ne ↦ subst (λ (n : Option Consumer). KeepsConsumer s n (s.consumer d)) (sym (others_kept d ne))
          (consumer_then d (get nat_eq r.consumers d) ne (stands.consumers d))
    ]

    exchanges_then : (y : ℕ) → KeepsExchange s y (table_of u.exchanges y)
    exchanges_then y = elim (same_or x y) [
      | inl e ↦ subst (λ (n : ℕ). KeepsExchange s n (table_of u.exchanges n)) e
          (exchange_then (table_of r.exchanges x) (table_of u.exchanges x) o running runs on
          (known_here (bringing q response) x r.exchanges u.exchanges brings) (stands.exchanges x).held)
      | inr ne ↦ subst (KeepsExchange s y) (sym (known_other (bringing q response) x y r.exchanges u.exchanges brings (λ e. ne (sym e))))
          (exchange_stays y (table_of r.exchanges y) ne (stands.exchanges y))
    ]

    pub stands_joined : RowsStand limits u s
    stands_joined = record {
      limits = bounded;
      last_start = last ∙ stands.last_start;
      next = brings.next ∙ stands.next;
      count = length_same r u t w.c v (record k { own = own }) stands j.asker lives becomes ∙
          (stands.count ∙ sym (live_same t s refl (reported_consumer is_live refl)));
      consumers = consumers_then;
      exchanges = exchanges_then;
      keys = λ key. key_then key (kept_of u.keys key)
          (keys_left t w.c v j.asker r.keys u.keys stands.keys (subst (λ (n : List ℕ). LeavesKey w.c n r.keys u.keys) (ap (λ (n : _). n.key) is.request) line) key);
      entries = entries;
    }
