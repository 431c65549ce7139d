-- A key is doomed: what is kept represents the tables in which whoever waits started over, and nothing is current.
--
-- Consumers and exchanges are taken from `DoomTies`, what is closed from `DoomCloses`, and entries from the loop. The
-- keys have the work. Who waited for the key stands in its line, whatever it waited for. Of other keys the same is
-- said: what their consumers wait for isn't closed (`away_at`). Then what was current is let go (`doomed`). `dooms`
-- says this from step to step of the code, for `doom`.
use Rattle.std.{proofs.{lemmas.Bool.Decides.{nat_tests}, Common.{arith, ◌≡◌, inl, inr, ℕ, List, ◌++◌, Bool, true, false, Option, Some, None, refl, ap, sym, ◌∙◌, subst}}, specs.Prelude.{IfSome, nat_eq, bytes_eq, map, option_map, unwrap_or, ◌&&◌, ◌||◌, if◌then◌else◌}}
use Rattle.hc_text.proofs.Basics.{eqb-other, false_true, mapped, same_or, same_some as same_row, some_inj as some_is, and_off as then_false}
use Rattle.hc_effects.proofs.Vocabulary.{Limits, Act, is_disabled, is_only, Place, back_in_line, current, is_live, over, all_closed, awaited_and, let_some_go, woken, family, is_headless, brings_to, Lawful, MayLetGo, WaitsOn, is_in_line, Tables, Exchange, Representation, waits_at, act, place, by}
use Rattle.hc_store.specs.declared.backend.Backend.{Ghosts}
use Rattle.hc_stored.specs.{Entries.{shelf_of}, Shelf.{Shelf}}
use Rattle.hc_entry.specs.{declared.keys.KeyTable.{KeyTable}, Keys.{kept_of, line_of}, Kept.{Kept, on_line, line_in}, Lines.{is_in, all_back}}
use Rattle.hc_text.specs.Sorted.{is_among}
use Rattle.hc_entry.specs.Keys as keys
use Rattle.hc_entry.proofs.OrderLemmas.{among-all}
use Rattle.hc_exch.specs.{Exchanges.{table_of}, Known.{without_exchange}}
use Rattle.hc_rules.proofs.RangeReads.{same_bytes, bytes_eq-same}
use Rattle.hc_model.specs.Rows as rows
use Rattle.hc_effects.proofs.{LettingGo.{may_let_go}, SameTables.{all_closed_is}, Tests.{and_false, none_some}}
use Rattle.hc_state.specs.{declared.rows.Rows.{Rows}, Changes.{ChangesAmong}, Dooms.{Closes, IsUnheard, KeepsLine, IsDoomed}, Lines.{KeepsKey, has_turn, is_passed, is_away, is_away_at}, Stands.{RowsStand, KeepsRest}, Stored.{KeepsEntry, KeepsEntries, is_over}}
use Rattle.hc_txn.specs.Transactions.{once_over}
use Rattle.hc_state.proofs.{FallbackSteps.{live_same}, OneOfEach.{first_row, bound_same, growing_same, kind_same}, Ties.{entry_same, key_same, overs_closed}, Apart.{or_offs}}
use Rattle.hc_on_head.proofs.{DoomCloses.{IsBare, bare_among, closes_are}, DoomTies.{s, exchange_is, over_row, line_row, same_consumer, none_row, all_consumers, exchange_shut}, Woken.{stands_for, Stood, nobody, back, beside, stays, stood, waiting_lives, bytes-flip}}

module _ (t : Tables) (law : Lawful t) (now : ℕ) (key xs : List ℕ) (bare : (x : ℕ) → is_among x xs ≡ true → IsBare t key x) where
  abbrev after : Tables
  after = s t law now key xs

  -- WHO IS LIVE

  lives : (d : ℕ) → is_live (after.consumer d) ≡ is_live (t.consumer d)
  lives d = grind (arith, nat_tests)

  -- KEYS

  -- whoever stays is away as before: what it waits for isn't closed
  away_at : (d : ℕ) (k : rows.Consumer) → t.consumer d ≡ Some k → (bytes_eq key k.request.key && waits_at t k.place) ≡ false → (p : Place) → k.place ≡ p →
      is_away_at after p ≡ is_away_at t p
  away_at d k row off (place.Bound q lo hi (by.FirstHole y)) at = by_test (is_among y xs) refl
    where
      by_test : (b : Bool) → is_among y xs ≡ b → is_headless (after.exchange y) ≡ is_headless (t.exchange y)
      by_test false out = ap is_headless (exchange_is t law now key xs y ∙ rw out refl)
      by_test true on =
          let e = bare y on in
          let its = law.owned.first_own d q lo y hi k row at in
          let mine : e.w.c ≡ d = ap (λ (z : Exchange). z.c) (same_row (t.exchange y) e.w its.w e.row its.row) ∙ its.for_it in
          let opener = law.owned.opener y e.w e.row in
          let one : opener.k ≡ k = same_row (t.consumer d) opener.k k (sym (ap t.consumer mine) ∙ opener.row) row in
          let of_key : key ≡ k.request.key = sym e.of_key ∙ (opener.key_is ∙ ap (λ (z : rows.Consumer). z.request.key) one) in
          let opened = e.is_open in
          let headless = e.bare in
          let waits : waits_at t k.place ≡ true = rw at (ap is_headless e.row ∙ rw (opened, headless) refl) in
          false_true (sym off ∙ rw (bytes_eq-same key k.request.key of_key, waits) refl)
  away_at d k row off _ at = refl

  away_stays : (other : List ℕ) (d : ℕ) (k : rows.Consumer) → t.consumer d ≡ Some k → (bytes_eq key k.request.key && waits_at t k.place) ≡ false →
      is_away after other (after.consumer d) ≡ is_away t other (t.consumer d)
  away_stays other d k row off = grind (arith, nat_tests, after, same_consumer, away_at)

  line_of_it : (k : rows.Consumer) → bytes_eq key k.request.key ≡ true → bytes_eq k.request.key key ≡ true
  line_of_it k same = bytes-flip k.request.key key ∙ same

  -- whoever waited stands in line, whatever it waited for
  module _ (d : ℕ) (k : rows.Consumer) (row : t.consumer d ≡ Some k) (same : bytes_eq key k.request.key ≡ true)
      (on : stands_for t key (t.consumer d) ≡ true) where
    queues : is_disabled k.request ≡ false → is_only k.request ≡ false → is_in_line key (Some (back_in_line now k)) ≡ true
    queues cached asks = (let of_key = line_of_it k same in rw (of_key, cached, asks) refl)

    first_of : (a b e : Bool) → (a || b || e) ≡ true → b ≡ false → e ≡ false → a ≡ true
    first_of a b e some none nor = grind (arith, nat_tests)

    lined : (p : Place) → k.place ≡ p → waits_at t p ≡ true → is_in_line key (Some (back_in_line now k)) ≡ true
    lined place.Line at waits = grind (arith, nat_tests)
    lined (place.Turn x) at waits = let q = law.places.turn_queues d x k row at in queues q.cached q.asks
    lined (place.Passed q held) at waits = let z = law.places.passed_queues d q held k row at in queues z.cached z.asks
    lined (place.Bound q lo hi (by.FirstHole y)) at waits =
        queues (law.places.bound_cached d q lo hi (by.FirstHole y) k row at) (law.places.first_asks d q lo y hi k row at)
    lined _ at waits = false_true waits

  in_line_then : (d : ℕ) → stands_for t key (t.consumer d) ≡ is_in_line key (after.consumer d)
  in_line_then d = by_stood (stood t key law d)
    where
      by_stood : Stood t key (t.consumer d) → stands_for t key (t.consumer d) ≡ is_in_line key (after.consumer d)
      by_stood (nobody none) = ap (stands_for t key) none ∙ sym (ap (is_in_line key) (none_row t law now key xs d none))
      by_stood (back k row same waits on) = on ∙
          sym (ap (is_in_line key) (over_row t law now key xs d k row same waits) ∙ lined d k row same on k.place refl waits)
      by_stood (beside k row same at off) =
          let kept_off : is_in_line key (Some k) ≡ false = ap (is_in_line key) (sym row) ∙
          (or_offs (is_in_line key (t.consumer d)) (is_passed key (t.consumer d)) (is_away t key (t.consumer d)) off).0 in
          off ∙ sym (ap (is_in_line key) (line_row t law now key xs d k row same at) ∙ (rw at at kept_off))
      by_stood (stays k row off stands_off) =
          stands_off ∙ sym (ap (is_in_line key) (same_consumer t law now key xs d k row off) ∙
          (or_offs (is_in_line key (t.consumer d)) (is_passed key (t.consumer d)) (is_away t key (t.consumer d)) stands_off).0)

  none_passes : (d : ℕ) → is_passed key (after.consumer d) ≡ false
  none_passes d = by_stood (stood t key law d)
    where
      by_stood : Stood t key (t.consumer d) → is_passed key (after.consumer d) ≡ false
      by_stood (nobody none) = ap (is_passed key) (none_row t law now key xs d none)
      by_stood (back k row same waits on) = ap (is_passed key) (over_row t law now key xs d k row same waits) ∙
          then_false (bytes_eq k.request.key key) false refl
      by_stood (beside k row same at off) = ap (is_passed key) (line_row t law now key xs d k row same at) ∙ then_false (bytes_eq k.request.key key) false refl
      by_stood (stays k row off stands_off) = ap (is_passed key) (same_consumer t law now key xs d k row off) ∙
          (or_offs (is_in_line key (t.consumer d)) (is_passed key (t.consumer d)) (is_away t key (t.consumer d)) stands_off).1.0

  none_away : (d : ℕ) → is_away after key (after.consumer d) ≡ false
  none_away d = by_stood (stood t key law d)
    where
      by_stood : Stood t key (t.consumer d) → is_away after key (after.consumer d) ≡ false
      by_stood (nobody none) = ap (is_away after key) (none_row t law now key xs d none)
      by_stood (back k row same waits on) = ap (is_away after key) (over_row t law now key xs d k row same waits) ∙
          then_false (bytes_eq k.request.key key) false refl
      by_stood (beside k row same at off) = ap (is_away after key) (line_row t law now key xs d k row same at) ∙
          then_false (bytes_eq k.request.key key) false refl
      by_stood (stays k row off stands_off) = away_stays key d k row off ∙
          (or_offs (is_in_line key (t.consumer d)) (is_passed key (t.consumer d)) (is_away t key (t.consumer d)) stands_off).1.1

  none_turns : (d : ℕ) → has_turn key (after.consumer d) ≡ false
  none_turns d = by_stood (stood t key law d)
    where
      by_stood : Stood t key (t.consumer d) → has_turn key (after.consumer d) ≡ false
      by_stood (nobody none) = ap (has_turn key) (none_row t law now key xs d none)
      by_stood (back k row same waits on) = ap (has_turn key) (over_row t law now key xs d k row same waits) ∙
          then_false (is_in_line key (Some (back_in_line now k))) false refl
      by_stood (beside k row same at off) = ap (has_turn key) (line_row t law now key xs d k row same at) ∙
          then_false (is_in_line key (Some (back_in_line now k))) false refl
      by_stood (stays k row off stands_off) =
          ap (has_turn key) (same_consumer t law now key xs d k row off)
          ∙ and_false (is_in_line key (t.consumer d)) _
          (or_offs (is_in_line key (t.consumer d)) (is_passed key (t.consumer d)) (is_away t key (t.consumer d)) stands_off).0

  -- of another key nothing is said of whoever starts over
  module _ (other : List ℕ) (off : bytes_eq key other ≡ false) where
    of_it : (k : rows.Consumer) → bytes_eq key k.request.key ≡ true → bytes_eq k.request.key other ≡ false
    of_it k same = ap (λ z. bytes_eq z other) (sym (same_bytes key k.request.key same)) ∙ off

    alike : (f g : Option rows.Consumer → Bool) → ((k : rows.Consumer) → bytes_eq k.request.key other ≡ false → f (Some k) ≡ false) →
        ((k : rows.Consumer) → bytes_eq k.request.key other ≡ false → g (Some k) ≡ false) → f None ≡ g None
        → ((d : ℕ) (k : rows.Consumer) → t.consumer d ≡ Some k → (bytes_eq key k.request.key && waits_at t k.place) ≡ false →
        f (after.consumer d) ≡ g (t.consumer d)) → (d : ℕ) → f (after.consumer d) ≡ g (t.consumer d)
    alike f g none_then none_before same_none stays_so d = by_stood (stood t key law d)
      where
        by_stood : Stood t key (t.consumer d) → f (after.consumer d) ≡ g (t.consumer d)
        by_stood (nobody none) = ap f (none_row t law now key xs d none) ∙ (same_none ∙ sym (ap g none))
        by_stood (back k row same waits on) = ap f (over_row t law now key xs d k row same waits) ∙
            (none_then (back_in_line now k) (of_it k same) ∙ sym (ap g row ∙ none_before k (of_it k same)))
        by_stood (beside k row same at stands_off) = ap f (line_row t law now key xs d k row same at) ∙
            (none_then (back_in_line now k) (of_it k same) ∙ sym (ap g row ∙ none_before k (of_it k same)))
        by_stood (stays k row gone stands_off) = stays_so d k row gone

    other_key : (kept : Kept) → KeepsKey t other kept → KeepsKey after other kept
    unfolding current
    other_key kept was = key_same t after other kept (record {
      current = refl;
      in_line = alike (is_in_line other) (is_in_line other) (λ k none. rw none refl) (λ k none. rw none refl) refl
          (λ d k row gone. ap (is_in_line other) (same_consumer t law now key xs d k row gone));
      passed = alike (is_passed other) (is_passed other) (λ k none. rw none refl) (λ k none. rw none refl) refl
          (λ d k row gone. ap (is_passed other) (same_consumer t law now key xs d k row gone));
      away = alike (is_away after other) (is_away t other) (λ k none. rw none refl) (λ k none. rw none refl) refl
          (λ d k row gone. away_stays other d k row gone);
      turn = alike (has_turn other) (has_turn other) (λ k none. rw none refl) (λ k none. rw none refl) refl
          (λ d k row gone. ap (has_turn other) (same_consumer t law now key xs d k row gone));
    }) was

  -- everyone who waits for the key stands in its line
  its_key : (kept : Kept) → KeepsKey t key kept → KeepsKey after key (on_line all_back kept)
  unfolding current
  its_key kept was = record {
    current = was.current;
    in_line = λ c. among-all c (line_in kept) ∙ (stands_is c ∙ in_line_then c);
    passed = λ c. sym (none_passes c);
    away = λ c. sym (none_away c);
    holder = λ c. sym (none_turns c);
  }
    where
      stands_is : (c : ℕ) → is_in c (line_in kept) ≡ stands_for t key (t.consumer c)
      stands_is c = rw (was.in_line c, was.passed c, was.away c) refl

  all_keys : (old new : KeyTable) → ((other : List ℕ) → KeepsKey t other (kept_of old other)) → keys.Becomes (on_line all_back) key old new →
      (other : List ℕ) → KeepsKey after other (kept_of new other)
  all_keys old new was becomes other = by_test (bytes_eq key other) refl
    where
      by_test : (b : Bool) → bytes_eq key other ≡ b → KeepsKey after other (kept_of new other)
      by_test true on = subst (λ z. KeepsKey after z (kept_of new z)) (same_bytes key other on)
          (rw (becomes key, bytes_eq-same key key refl) (its_key (kept_of old key) (was key)))
      by_test false off = rw (becomes other, off) (other_key other off (kept_of old other) (was other))

  -- REPRESENTATIONS

  -- what is closed brings nothing of what is there
  brings_same : (q y : ℕ) (v : Representation) → t.representation q ≡ Some v → brings_to q y (after.exchange y) ≡ brings_to q y (t.exchange y)
  brings_same q y v there = by_test (is_among y xs) refl
    where
      brings_over : (z : Option Exchange) → brings_to q y (option_map over z) ≡ false
      brings_over None = refl
      brings_over (Some w) = refl

      by_test : (b : Bool) → is_among y xs ≡ b → brings_to q y (after.exchange y) ≡ brings_to q y (t.exchange y)
      by_test false off = ap (brings_to q y) (exchange_is t law now key xs y ∙ rw off refl)
      by_test true on =
          let e = bare y on in
          let itself : family y e.w ≡ y = ap (λ (o : Option ℕ). unwrap_or o y) (law.sound.waits.headless y e.w e.row e.bare).1 in
          ap (brings_to q y) (exchange_is t law now key xs y ∙ rw on refl) ∙ (brings_over (t.exchange y) ∙ sym (ap (brings_to q y) e.row ∙ apart e.w itself))
        where
          apart : (w : Exchange) → family y w ≡ y → brings_to q y (Some w) ≡ false
          apart w itself = then_false w.is_open (nat_eq (family y w) q) (elim (same_or (family y w) q) [
            | inl same ↦ (let e = bare y on in
                none_some v (sym (law.sound.numbered.names.unfounded y e.w e.row e.bare) ∙ (ap t.representation (sym itself ∙ same) ∙ there)))
            | inr ne ↦ eqb-other (family y w) q ne
          ])

  all_entries : (shelf : Shelf) → KeepsEntries (woken now key t) shelf → KeepsEntries after shelf
  all_entries shelf kept = record {
    each = λ q. by_row q (t.representation q) refl (kept.each q);
    order = kept.order;
  }
    where
      by_row : (q : ℕ) (z : Option Representation) → t.representation q ≡ z → KeepsEntry (woken now key t) q (shelf.kept q) (t.representation q) →
          KeepsEntry after q (shelf.kept q) (t.representation q)
      by_row q z there each = entry_same (woken now key t) after q (shelf.kept q) (t.representation q) refl (record {
        users = λ c. refl;
        first = λ c. first_row (woken now key t) after (λ n. refl) q (after.consumer c);
        list = bound_same (woken now key t) after q refl (λ c. refl);
        kind = λ v is. kind_same (woken now key t) after q v (growing_same (woken now key t) after q refl (λ y. brings_same q y v is));
        overs = λ y on. ap is_over (exchange_is t law now key xs y) ∙ overs_closed (is_among y xs) (t.exchange y) on;
      }) each

  -- WHAT IT TAKES TO LET SOMETHING GO

  pub may_then : MayLetGo after
  may_then =
      let may = may_let_go t law in
      record {
        one_current = may.one_current;
        founded = may.founded;
        started = λ c some. may.started c (sym (mapped _ (t.consumer c)) ∙ some);
        waits = λ c q kept k row at. waits_then c q kept k row at (stood t key law c);
      }
    where
      line_not : (q : ℕ) (held : Option ℕ) → place.Line ≡ place.Passed q held → ⊥
      line_not q held is = cc

      waits_then : (c q : ℕ) (held : Option ℕ) (k : rows.Consumer) → after.consumer c ≡ Some k → k.place ≡ place.Passed q held →
          Stood t key (t.consumer c) → WaitsOn after q k
      waits_then c q held k row at (nobody none) = none_some k (sym (none_row t law now key xs c none) ∙ row)
      waits_then c q held k row at (back j was same waits on) =
          absurd (line_not q held (ap (λ (z : rows.Consumer). z.place)
          (same_row (after.consumer c) (back_in_line now j) k (over_row t law now key xs c j was same waits) row) ∙ at))
      waits_then c q held k row at (beside j was same at_line off) =
          absurd (line_not q held (ap (λ (z : rows.Consumer). z.place)
          (same_row (after.consumer c) (back_in_line now j) k (line_row t law now key xs c j was same at_line) row) ∙ at))
      waits_then c q held k row at (stays j was off stands_off) =
          let w = (may_let_go t law).waits c q held k (sym (same_consumer t law now key xs c j was off) ∙ row) at in
          record { v = w.v; row = w.row; key_is = w.key_is; not_gone = w.not_gone; queues = w.queues }

-- ALL OF IT

module _ {B : Type 0} {g : Ghosts B} {limits : Limits} (r u : Rows B g) (t : Tables) (law : Lawful t) (stands : RowsStand limits r t) (now : ℕ)
    (key : List ℕ) (refused : Option ℕ) (before out : List Act) (unheard : (x : ℕ) → refused ≡ Some x → IsUnheard (table_of r.exchanges) key x)
    (closes : Closes r u.exchanges key refused before out)
    (consumers : ChangesAmong r.consumers u.consumers (λ c. is_in c (line_of r.keys key)) (once_over now))
    (lines : keys.Becomes (on_line all_back) key r.keys u.keys)
    (entries : KeepsEntries (woken now key t) (shelf_of u.entries)) (bounded : (shelf_of u.entries).limits ≡ (shelf_of r.entries).limits)
    (last : u.last_start ≡ r.last_start) where
  abbrev xs : List ℕ
  xs = awaited_and t key refused

  bare : (x : ℕ) → is_among x xs ≡ true → IsBare t key x
  bare = bare_among r t law key stands refused unheard

  are_all : closes.xs ≡ xs
  are_all = closes_are r t law key stands refused unheard closes.xs closes.ascending closes.each closes.all

  pub acts : out ≡ before ++ map act.Close xs
  acts = closes.acts ∙ ap (λ zs. before ++ map act.Close zs) are_all

  known_is : (x : ℕ) → table_of u.exchanges x ≡ (if is_among x xs then without_exchange (table_of r.exchanges x) else table_of r.exchanges x)
  known_is x = subst (λ zs. table_of u.exchanges x ≡ (if is_among x zs then without_exchange (table_of r.exchanges x) else table_of r.exchanges x))
      are_all (closes.known x)

  stands_woken : RowsStand limits u (s t law now key xs)
  stands_woken = record {
    limits = bounded ∙ stands.limits;
    last_start = last ∙ stands.last_start;
    next = closes.next ∙ stands.next;
    count = consumers.len ∙ (stands.count ∙ sym (live_same t (s t law now key xs) refl (lives t law now key xs bare)));
    consumers = all_consumers t law now key xs r u stands consumers;
    exchanges = λ x. exchange_shut t law now key xs x (table_of r.exchanges x) (table_of u.exchanges x) (known_is x) (stands.exchanges x);
    keys = all_keys t law now key xs bare r.keys u.keys stands.keys lines;
    entries = all_entries t law now key xs bare (shelf_of u.entries) entries;
  }

  -- once what was current is let go
  pub doomed : (o : Option ℕ) (w : Rows B g) → o ≡ (kept_of r.keys key).current →
      ((z : Tables) → MayLetGo z → RowsStand limits u z → RowsStand limits w (let_some_go now o z)) → IsDoomed limits w t before out now key refused
  doomed o w is goes = record {
    acts = acts;
    rows =
        subst (λ z. RowsStand limits w (let_some_go now z (all_closed xs (woken now key t)))) (is ∙ (stands.keys key).current)
        (subst (λ z. RowsStand limits w (let_some_go now o z)) (sym (all_closed_is xs (woken now key t)))
        (goes (s t law now key xs) (may_then t law now key xs bare) stands_woken));
  }

-- FROM STEP TO STEP

pub if_some : {A : Type 0} (o : Option A) (P : A → Type 0) → IfSome o P → (a : A) → o ≡ Some a → P a
if_some None P h a is = none_some a is
if_some (Some b) P h a is = subst P (some_is b a is) h

-- once what was awaited is closed
pub keeps_line : {B : Type 0} {g : Ghosts B} {limits : Limits} (r mid : Rows B g) (t : Tables) (key : List ℕ) → RowsStand limits r t →
    mid.consumers ≡ r.consumers → KeepsRest r mid → KeepsLine mid t key
keeps_line r mid t key stands same rest = record {
  consumers = λ c. rw same (stands.consumers c);
  line = (let keys_same = rest.keys in rw keys_same (stands.keys key));
  entries = (let entries_same = rest.entries in rw entries_same stands.entries);
}

module _ {B : Type 0} {g : Ghosts B} (r mid u : Rows B g) (now : ℕ) (key : List ℕ) (refused : Option ℕ) (before out : List Act)
    (unheard : IfSome refused (IsUnheard (table_of r.exchanges) key))
    (closes : Closes r mid.exchanges key refused before out) (same_consumers : mid.consumers ≡ r.consumers) (rest : KeepsRest r mid)
    (consumers : ChangesAmong mid.consumers u.consumers (λ c. is_in c (line_of mid.keys key)) (once_over now))
    (lines : keys.Becomes (on_line all_back) key mid.keys u.keys)
    (entries : (t : Tables) → Lawful t → KeepsLine mid t key → KeepsEntries (woken now key t) (shelf_of u.entries))
    (bounded : (shelf_of u.entries).limits ≡ (shelf_of mid.entries).limits)
    (last : u.last_start ≡ mid.last_start) (exchanges : u.exchanges ≡ mid.exchanges) where
  pub dooms : (o : Option ℕ) (w : Rows B g) → o ≡ (kept_of r.keys key).current → ((limits : Limits) (z : Tables) → MayLetGo z → RowsStand limits u z → RowsStand limits w (let_some_go now o z)) → (limits : Limits) (t : Tables) → Lawful t → RowsStand limits r t → IsDoomed limits w t before out now key refused
  dooms o w is goes limits t law stands =
      doomed r u t law stands now key refused before out (if_some refused (IsUnheard (table_of r.exchanges) key) unheard)
      (subst (λ z. Closes r z key refused before out) (sym exchanges) closes)
      (subst (λ (z : KeyTable). ChangesAmong r.consumers u.consumers (λ c. is_in c (line_of z key)) (once_over now)) rest.keys
      (subst (λ z. ChangesAmong z u.consumers (λ c. is_in c (line_of mid.keys key)) (once_over now)) same_consumers consumers))
      (subst (λ (z : KeyTable). keys.Becomes (on_line all_back) key z u.keys) rest.keys lines)
      (entries t law (keeps_line r mid t key stands same_consumers rest))
      (bounded ∙ ap (λ z. (shelf_of z).limits) rest.entries) (last ∙ rest.last_start) o w is (goes limits)
