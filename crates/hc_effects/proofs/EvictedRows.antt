-- The rows after an entry that makes room are those after it without that, once what makes room is evicted.
--
-- The acts differ in evictions alone, so what an entry does by itself is the same (`like`). What goes is what went, and
-- what is evicted (`gone_before`). So each representation is as it was without, and gone where it is evicted
-- (`representation_row`). A consumer starts over where it did, or where it waits for what is evicted (`starts_before`);
-- the event mustn't have moved it there (`settled_row`). `tables_last` joins the rows.
use Rattle.std.{proofs.{lemmas.Bool.Decides.{nat_tests}, Common.{arith, ◌≡◌, inl, inr, ℕ, List, [], ◌∷◌, ◌++◌, Bool, true, false, Option, Some, None, refl, ap, sym, ◌∙◌}}, specs.Prelude.{map, ◌==◌, ◌||◌, ◌&&◌, not, is_some, if◌then◌else◌, option_map}}
use Rattle.hc_text.proofs.Basics.{never_true, bool_cases, or_false as or_off}
use Rattle.hc_effects.proofs.Vocabulary.{evicts_in, Act, Event, Place, fails_in, case_at, consumer_heard, consumer_acted, consumer_settled, consumer_made, consumer_after, doomed_key_of, is_key, as_gone, Entry, evict_all, exchange_at, is_for, goes_itself, becomes_gone, goes_in, representation_after, representation_heard, representation_acted, Tables, Representation, Consumer, starts_over, waits_at, sends_back, loses_what_it_waits_for, after_accepted, with_item_first, to_front, opened_after, openings_after, act, place}
use Rattle.hc_effects.proofs.{Alike.{AreAlike, alike_evicted, case_same, doomed_same, itself_same, exchange_same, founds_same, binds_same, founded_same, heard_same, heard_consumer, acted_same, due_same}, Basics.{false_true}, SameTables.{same_tables, is_in, waits_for_any, back_from_any, without, all_go_is}}

-- AMONG WHAT MAKES ROOM

pub evicts_are : (r : ℕ) (rs : List ℕ) (b : List Act) → evicts_in r b ≡ false → evicts_in r (map act.Evicted rs ++ b) ≡ is_in rs r
evicts_are r [] b none = none
evicts_are r (q ∷ rs) b none = ap (λ z. (q == r) || z) (evicts_are r rs b none)

-- THE ROWS

waiting_shift : (i h : Bool) → ((i || h) && true) ≡ ((i && true) || h)
waiting_shift i h = grind (arith, nat_tests)

starting_shift : (a b c h : Bool) → ((a || b) || (c || h)) ≡ (((a || b) || c) || h)
starting_shift a b c h = grind (arith, nat_tests)

module _ (t : Tables) (now : ℕ) (ev : Event) (rs : List ℕ) (b : List Act) (none : (r : ℕ) → evicts_in r b ≡ false)
    (fails : (c : ℕ) → fails_in c b ≡ false) (there : (r : ℕ) → is_in rs r ≡ true → is_some (t.representation r) ≡ true) where
  abbrev a : List Act
  a = map act.Evicted rs ++ b

  abbrev e : Entry
  e = record { now = now; event = ev; acts = a }

  abbrev f : Entry
  f = record { now = now; event = ev; acts = b }

  like : AreAlike a b
  like = alike_evicted rs b

  gone_before : (r : ℕ) (v : Representation) → becomes_gone t e r v ≡ (goes_itself t f r v || is_in rs r)
  unfolding becomes_gone
  gone_before r v =
      ap (λ z. z || evicts_in r a) (itself_same t now ev a b like r v)
      ∙ ap (λ z. goes_itself t f r v || z) (evicts_are r rs b (none r))

  gone_after : (r : ℕ) (v : Representation) → becomes_gone t f r v ≡ goes_itself t f r v
  unfolding becomes_gone
  gone_after r v = ap (λ z. goes_itself t f r v || z) (none r) ∙ or_off (goes_itself t f r v)

  acted_row : (r : ℕ) (v u : Representation) →
      representation_acted t e r v u ≡ (if is_in rs r then as_gone (representation_acted t f r v u) else representation_acted t f r v u)
  acted_row r v u = rw (like.loses r, gone_before r v, gone_after r v) (by_test (goes_itself t f r v) (is_in rs r))
    where
      by_test : (i h : Bool) →
          record (representation_acted t f r v u)
          { is_gone = (i || h) || u.is_gone } ≡ (if h then as_gone (representation_acted t f r v u) else
          record (representation_acted t f r v u) { is_gone = i || u.is_gone })
      by_test true true = refl
      by_test true false = refl
      by_test false true = refl
      by_test false false = refl

  stays_none : (r : ℕ) → t.representation r ≡ None → is_in rs r ≡ false
  stays_none r row = never_true (is_in rs r) (λ is. false_true (sym (ap is_some row) ∙ there r is))

  pub representation_row : (r : ℕ) (z : Option Representation) → t.representation r ≡ z →
      representation_after t e r z ≡ (if is_in rs r then option_map as_gone (representation_after t f r z) else representation_after t f r z)
  unfolding representation_after
  representation_row r None row = founded_same t now ev a b like r ev ∙ rw (stays_none r row) refl
  representation_row r (Some v) row =
      ap Some (ap (representation_acted t e r v) (heard_same t now ev a b like r v ev) ∙ acted_row r v (representation_heard t f r ev v))
      ∙ by_test (is_in rs r) (representation_acted t f r v (representation_heard t f r ev v))
    where
      by_test : (h : Bool) (u : Representation) → Some (if h then as_gone u else u) ≡ (if h then Some (as_gone u) else Some u)
      by_test true u = refl
      by_test false u = refl

  -- CONSUMERS

  losing : (c : ℕ) (p : Place) → loses_what_it_waits_for t e c p ≡ (loses_what_it_waits_for t f c p || waits_for_any rs p)
  losing c (place.Passed r kept) = by_row (t.representation r) refl
    where
      by_row : (z : Option Representation) → t.representation r ≡ z →
          (goes_in t e r z && not (fails_in c a)) ≡ ((goes_in t f r z && not (fails_in c b)) || is_in rs r)
      by_row None row = rw (stays_none r row) refl
      by_row (Some v) row = rw (gone_before r v, gone_after r v, like.fails c, fails c) (waiting_shift (goes_itself t f r v) (is_in rs r))
  losing c _ = refl

  starts_before : (c : ℕ) (k : Consumer) → starts_over t e c k ≡ (starts_over t f c k || waits_for_any rs k.place)
  unfolding starts_over
  starts_before c k =
      rw (doomed_same t now ev a b like, case_same t now ev a b like, losing c k.place)
      (starting_shift (is_key (doomed_key_of t f) k.request.key && waits_at t k.place) (sends_back (case_at t f) && is_for (exchange_at t ev) c)
      (loses_what_it_waits_for t f c k.place) (waits_for_any rs k.place))

  settled_row : (c : ℕ) (k q : Consumer) → (starts_over t f c k ≡ false → waits_for_any rs q.place ≡ waits_for_any rs k.place) →
      consumer_settled t e c k q ≡ back_from_any now rs (consumer_settled t f c k q)
  settled_row c k q stays = elim (bool_cases (starts_over t f c k)) [
    | inl over ↦ rw (starts_before c k, over) refl
    | inr on ↦ elim (bool_cases (waits_for_any rs k.place)) [
      | inl waits ↦ let also : waits_for_any rs q.place ≡ true = stays on ∙ waits in rw (starts_before c k, on, waits, also) refl
      | inr other ↦ let also : waits_for_any rs q.place ≡ false = stays on ∙ other in
          rw (starts_before c k, on, other, also) (rw (due_same t now ev a b like c k) refl)
    ]
  ]

  made_row : (c : ℕ) (z : Event) → consumer_made c now z ≡ option_map (back_from_any now rs) (consumer_made c now z)
  made_row c z = grind (arith, nat_tests)

  module _ (moves : (c : ℕ) (k : Consumer) → t.consumer c ≡ Some k → starts_over t f c k ≡ false →
      waits_for_any rs (consumer_acted t f c (consumer_heard t f c ev k)).place ≡ waits_for_any rs k.place) where
    pub consumer_row : (c : ℕ) (z : Option Consumer) → t.consumer c ≡ z → consumer_after t e c z ≡ option_map (back_from_any now rs) (consumer_after t f c z)
    unfolding consumer_after
    consumer_row c None row = made_row c ev
    consumer_row c (Some k) row =
        let h = consumer_heard t f c ev k in
        let acts : consumer_acted t e c (consumer_heard t e c ev k) ≡ consumer_acted t f c h =
        ap (consumer_acted t e c) (heard_consumer t now ev a b like c k ev) ∙ acted_same t now ev a b like c h in
        ap Some (ap (consumer_settled t e c k) acts ∙ settled_row c k (consumer_acted t f c h) (moves c k row))

    -- ALL OF IT

    pub tables_last : after_accepted t e ≡ evict_all rs (after_accepted t f)
    tables_last =
        same_tables (after_accepted t e) (without now rs (after_accepted t f)) (record {
          moment = refl;
          entries = refl;
          received = refl;
          last_start = refl;
          starts = refl;
          opened = ap (λ z. opened_after z t.opened) like.opens;
          openings = ap (λ z. openings_after z t.openings) like.opens;
          founded = ap (λ z. with_item_first z t.founded) (founds_same t now ev a b like);
          used = ap (λ z. to_front z t.used) (binds_same t now ev a b like);
          exchange = λ x. exchange_same t now ev a b like x (t.exchange x);
          representation = λ r. representation_row r (t.representation r) refl;
          consumer = λ c. consumer_row c (t.consumer c) refl;
        })
        ∙ sym (all_go_is now rs (after_accepted t f))
