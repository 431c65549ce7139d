-- What a piece, an end, a fault or a doom comes to but for what makes room: what is lost and closed, and what stays.
--
-- Such an event (`IsReceived`) asks, opens and founds nothing (`says_little`), so its acts are a loss and closings, and are
-- told to nobody (`far`). The exchange of the event is as it is heard, and others stay (`exchange_one`,
-- `exchange_other`). What goes does so by a doom, a loss or an early end (`goes_as`). `reported_by` joins the rows into
-- tables, and `reported_does` adds what makes room, which goes last.
use Rattle.std.{proofs.{lemmas.Bool.Decides.{nat_tests}, Common.{arith, ◌≡◌, inl, inr, ℕ, List, [], ◌++◌, Bool, true, false, Option, Some, None, refl, ap, sym, ◌∙◌, subst}}, specs.Prelude.{◌&&◌, ◌||◌, ◌==◌, not, nat_eq, if◌then◌else◌, map, option_map}}
use Rattle.hc_text.proofs.Basics.{not_some as none_some, or_false as or_off}
use Rattle.hc_effects.proofs.Vocabulary.{opening_in, asks_in, closes_in, evicts_in, Act, Event, Limits, loses_in, misreads_in, loss_acts, answer_acts, is_asked, case_at, case_of, is_founding, closing, consumer_after, consumer_heard, consumer_made, due_after, back_in_line, is_current, denial, doomed_key_of, is_key, Does, with_event, as_gone, let_all_go, over, lost_to, Entry, entry_without_acts, evict_all, unevicting, exchange_after, exchange_heard, exchange_acted, exchange_at, exchange_in, becomes_due, Flaw, beside, becomes_gone, goes_by_exchange, ends_early, is_keepable, Lawful, reads, representation_after, representation_heard, representation_acted, founded_at, Tables, Exchange, Representation, Consumer, starts_over, waits_at, after_accepted, with_item_first, starts_after, last_start_after, opened_after, openings_after, to_front, founds, evicted, write_in, goes_on_with, act}
use Rattle.hc_event.specs.declared.event.Event.TheVariants as event
use Rattle.hc_text.specs.declared.names.Key.{Key}
use Rattle.hc_effects.proofs.{ActParts.{IsFarFrom, asks_lost, asks_closes, closes_lost, loses_before, evicts_lost, evicts_closes, far_loss, far_closed}, ConsumerEffects.{waits_as}, EvictsLast.{evictions_come_last}, FewClosings.{evicts_nothing}, LeaveFrames.{closes_are}, PieceKeeps.{eq_cases}, PieceServes.{quiet_acts}, SameTables.{same_tables, is_in, waits_for_any, back_from_any, without, all_go_is}, Standing.{after_heard}, Untouched.{IsSpared, own_stays, due_stays, exchange_absent, representation_absent, consumer_absent, starts_as, binds_nobody, unheard}}

-- it is told from outside, and no head comes
pub data IsReceived : Event → Type 0 where
  pieces : (x : ℕ) (bytes : List ℕ) → IsReceived (event.Piece x bytes)
  ends : (x : ℕ) → IsReceived (event.End x)
  faults : (x : ℕ) → IsReceived (event.Fault x)
  dooms : (key : Key) → IsReceived (event.Doom key)

-- it asks nothing, starts and founds nothing, and has no case
pub record SaysLittle (t : Tables) (now : ℕ) (ev : Event) : Type 0 where
  pub unasked : is_asked ev ≡ false
  pub says : (flaw : Flaw) → answer_acts t now ev flaw ≡ []
  pub starts : (cs : List ℕ) → starts_after ev cs ≡ cs
  pub last : (n : ℕ) → last_start_after ev n ≡ n
  pub caseless : (acts : List Act) → case_at t (record { now = now; event = ev; acts = acts }) ≡ None
  pub unfounded : (acts : List Act) (r : ℕ) → founded_at t (record { now = now; event = ev; acts = acts }) r ev ≡ None
  pub unmade : (c : ℕ) → consumer_made c now ev ≡ None

pub says_little : (t : Tables) (now : ℕ) (ev : Event) → IsReceived ev → SaysLittle t now ev
unfolding case_of
says_little t now _ (pieces x bytes) =
    record {
      unasked = refl;
      says = λ flaw. refl;
      starts = λ cs. refl;
      last = λ n. refl;
      caseless = λ acts. refl;
      unfounded = λ acts r. refl;
      unmade =
          λ c. refl;
    }
says_little t now _ _ = record {
  unasked = refl;
  says = λ flaw. refl;
  starts = λ cs. refl;
  last = λ n. refl;
  caseless = λ acts. refl;
  unfounded =
      λ acts r. refl;
  unmade = λ c. refl;
}

module _ (t : Tables) (now : ℕ) (ev : Event) (reported : IsReceived ev) (flaw : Flaw) (xs : List ℕ) where
  -- THE ENTRY

  abbrev pub e : Entry
  e = record { now = now; event = ev; acts = loss_acts flaw ++ map act.Close xs }

  abbrev n : SaysLittle t now ev
  n = says_little t now ev reported

  pub opens_none : opening_in e.acts ≡ None
  opens_none = (quiet_acts [] xs flaw).opens

  pub asks_none : (y : ℕ) → asks_in y e.acts ≡ false
  asks_none y = (asks_lost y 0 flaw (map act.Close xs)).asks ∙ (asks_closes y 0 xs).asks

  pub misreads_none : (r : ℕ) → misreads_in r e.acts ≡ false
  misreads_none r = (asks_lost 0 r flaw (map act.Close xs)).misreads ∙ (asks_closes 0 r xs).misreads

  pub evicts_none : (r : ℕ) → evicts_in r e.acts ≡ false
  evicts_none r = evicts_lost r flaw (map act.Close xs) ∙ evicts_closes r xs

  pub closes_as : (y : ℕ) → closes_in y e.acts ≡ is_in xs y
  closes_as y = closes_lost y flaw (map act.Close xs) ∙ closes_are y xs

  pub loses_as : (r : ℕ) → loses_in r e.acts ≡ loses_in r (loss_acts flaw)
  loses_as r = loses_before r flaw xs

  pub far : (d : ℕ) → IsFarFrom d e.acts
  far d = far_loss d flaw (map act.Close xs) (far_closed d xs)

  -- EXCHANGES

  closed_if : (b : Bool) (u : Exchange) → Some (record u { is_open = not b && u.is_open }) ≡ (if b then option_map over (Some u) else Some u)
  closed_if b u = grind (arith, nat_tests)

  none_closed : (b : Bool) → None ≡ (if b then option_map over None else None)
  none_closed b = grind (arith, nat_tests)

  exchange_by : (y : ℕ) (w u : Exchange) → exchange_heard t e y ev w ≡ u →
      exchange_after t e y (Some w) ≡ (if is_in xs y then option_map over (Some u) else Some u)
  unfolding exchange_after
  exchange_by y w u heard = ap (λ (z : Exchange). Some (exchange_acted y e.acts z)) heard ∙ rw (asks_none y, closes_as y) (closed_if (is_in xs y) u)

  -- one of no event
  pub exchange_other : (y : ℕ) → ((x : ℕ) → exchange_in ev ≡ Some x → nat_eq x y ≡ false) →
      exchange_after t e y (t.exchange y) ≡ (if is_in xs y then option_map over (t.exchange y) else t.exchange y)
  exchange_other y other = by_row (t.exchange y)
    where
      by_row : (z : Option Exchange) → exchange_after t e y z ≡ (if is_in xs y then option_map over z else z)
      by_row None = exchange_absent t e y (λ o same. absurd (none_some o (sym opens_none ∙ same))) ∙ none_closed (is_in xs y)
      by_row (Some w) = exchange_by y w w (unheard t e y w ev other)

  -- that of the event, and the others
  pub exchange_one : (x : ℕ) (w u : Exchange) → exchange_in ev ≡ Some x → t.exchange x ≡ Some w → exchange_heard t e x ev w ≡ u → (y : ℕ) →
      exchange_after t e y (t.exchange y) ≡ (if is_in xs y then option_map over (if x == y then Some u else t.exchange y) else
      (if x == y then Some u else t.exchange y))
  exchange_one x w u names row heard y = elim (eq_cases x y) [
    | inl here ↦ rw here.0 (subst (λ z. exchange_after t e z (t.exchange z) ≡ (if is_in xs z then option_map over (Some u) else Some u)) here.1
        (ap (exchange_after t e x) row ∙ exchange_by x w u heard))
    | inr other ↦ rw other.0 (exchange_other y (λ z is. ap (λ m. nat_eq m y) (number z is) ∙ other.0))
  ]
    where
      number : (z : ℕ) → exchange_in ev ≡ Some z → z ≡ x
      number z is = let one : Some z ≡ Some x = sym is ∙ names in cc

  -- WHAT GOES

  no_case : (r : ℕ) (z : Option Exchange) → goes_by_exchange t e r z ≡ false
  no_case r None = refl
  no_case r (Some w) = rw (n.caseless e.acts) refl

  -- by a doom, a loss or an early end
  pub goes_as : (r : ℕ) (v : Representation) →
      becomes_gone t e r v ≡ ((is_current t v.key r && is_key (doomed_key_of t e) v.key) || loses_in
      r (loss_acts flaw) || (ends_early t e r v && not (is_keepable v)))
  unfolding becomes_gone
  goes_as r v =
      rw (no_case r (exchange_at t ev), opens_none, loses_as r, misreads_none r, evicts_none r)
      (drop (is_current t v.key r) (is_key (doomed_key_of t e) v.key) (loses_in r (loss_acts flaw)) (ends_early t e r v && not (is_keepable v)))
    where
      drop : (a b c d : Bool) → (((a && (b || false)) || false || c || false || d) || false) ≡ ((a && b) || c || d)
      drop true true c d = refl
      drop true false true d = refl
      drop true false false d = or_off d
      drop false b true d = refl
      drop false b false d = or_off d

  -- REPRESENTATIONS

  -- one that isn't lost
  pub representation_by : (r : ℕ) (v u : Representation) (b : Bool) → representation_heard t e r ev v ≡ u → loses_in r (loss_acts flaw) ≡ false →
      becomes_gone t e r v ≡ b → representation_after t e r (Some v) ≡ (if b then option_map as_gone (Some u) else Some u)
  unfolding representation_after
  representation_by r v u b heard kept goes = ap (λ (z : Representation). Some (representation_acted t e r v z)) heard ∙ rw (loses_as r, kept, goes) (by_test b)
    where
      by_test : (b : Bool) → Some (record u { is_gone = b || u.is_gone }) ≡ (if b then option_map as_gone (Some u) else Some u)
      by_test true = refl
      by_test false = refl

  -- one that is lost, with which this one goes on
  pub lost_by : (r : ℕ) (v u : Representation) (alone : Option ℕ) → representation_heard t e r ev v ≡ u → loses_in r (loss_acts flaw) ≡ true →
      v.is_lost ≡ false → becomes_gone t e r v ≡ true → goes_on_with t e r v ≡ alone → representation_after t e r (Some v) ≡ Some (as_gone (lost_to alone u))
  unfolding representation_after
  lost_by r v u alone heard loses kept goes goes_on = grind (arith, nat_tests)

  pub representation_none : (r : ℕ) (b : Bool) → representation_after t e r None ≡ (if b then option_map as_gone None else None)
  representation_none r true = representation_absent t e r (n.unfounded e.acts r)
  representation_none r false = representation_absent t e r (n.unfounded e.acts r)

  -- CONSUMERS

  -- to whom nothing becomes due, and whose writing isn't lost
  pub beside_same : (c : ℕ) (k : Consumer) → becomes_due t e c k ≡ None → IsSpared t e k.place → (reads k.place ≡ false → k.due ≡ None) → beside t e c k ≡ k
  beside_same c k undue spared idle = ap (λ (o : Option ℕ). due_after t e c k (record k { own = o })) (own_stays t e c k.place k.own spared) ∙
      due_stays t e c k undue idle

  module _ (law : Lawful t) (rs : List ℕ) (goes : (r : ℕ) (v : Representation) → t.representation r ≡ Some v → becomes_gone t e r v ≡ is_in rs r) where
    -- it starts over at a doom where it waits, or where that is let go for which it waits
    pub starts_is : (c : ℕ) (k : Consumer) → t.consumer c ≡ Some k →
        starts_over t e c k ≡ ((is_key (doomed_key_of t e) k.request.key && waits_at t k.place) || waits_for_any rs k.place)
    starts_is c k row =
        starts_as t e c k (far c).fails (rw (n.caseless e.acts) refl)
        ∙ ap (λ b. (is_key (doomed_key_of t e) k.request.key && waits_at t k.place) || b) (waits_as t e law rs goes c k row k.place refl)

    back_at : (c : ℕ) (k : Consumer) (b : Bool) →
        (if b then back_in_line now k else beside t e c k) ≡ (if b then back_in_line now (beside t e c k) else beside t e c k)
    back_at c k b = grind (arith, nat_tests)

    -- who hears nothing, where nothing is doomed
    pub consumer_by : doomed_key_of t e ≡ None → (c : ℕ) → ((k : Consumer) → t.consumer c ≡ Some k → consumer_heard t e c ev k ≡ k) →
        consumer_after t e c (t.consumer c) ≡ option_map (back_from_any now rs) (option_map (beside t e c) (t.consumer c))
    consumer_by doomless c quiet = by_row (t.consumer c) refl
      where
        by_row : (z : Option Consumer) → t.consumer c ≡ z → consumer_after t e c z ≡ option_map (back_from_any now rs) (option_map (beside t e c) z)
        by_row None row = consumer_absent t e c (n.unmade c)
        by_row (Some k) row =
            let starts : starts_over t e c k ≡ waits_for_any rs k.place = starts_is c k row ∙ rw doomless refl in
            after_heard t e c k (far c) (quiet k row) (Some k) refl
            ∙ (ap (λ (b : Bool). Some (if b then back_in_line now k else beside t e c k)) starts ∙ ap Some (back_at c k (waits_for_any rs k.place)))

  -- THE TABLES

  founds_none : founds t e ≡ None
  founds_none = ap (λ g. if is_founding g then exchange_in ev else None) (n.caseless e.acts)

  pub reported_by : (rs : List ℕ) (es : ℕ → Option Exchange) (vs : ℕ → Option Representation) (ks : ℕ → Option Consumer)
      → ((y : ℕ) → exchange_after t e y (t.exchange y) ≡ es y)
      → ((r : ℕ) → representation_after t e r (t.representation r) ≡ (if is_in rs r then option_map as_gone (vs r) else vs r))
      → ((c : ℕ) → consumer_after t e c (t.consumer c) ≡ option_map (back_from_any now rs) (ks c))
      → after_accepted t e ≡ with_event now ev (let_all_go now rs (record t { exchange = es; representation = vs; consumer = ks }))
  reported_by rs es vs ks exchanges representations consumers =
      same_tables (after_accepted t e) (with_event now ev (without now rs (record t { exchange = es; representation = vs; consumer = ks }))) (record {
        moment = refl;
        entries = refl;
        received = refl;
        last_start = n.last t.last_start;
        starts = n.starts t.starts;
        opened = ap (λ o. opened_after o t.opened) opens_none;
        openings = ap (λ o. openings_after o t.openings) opens_none;
        founded = ap (λ o. with_item_first o t.founded) founds_none;
        used = ap (λ o. to_front o t.used) (binds_nobody t e (ap is_founding (n.caseless e.acts)) opens_none (quiet_acts [] xs flaw).showing);
        exchange = exchanges;
        representation = representations;
        consumer = consumers;
      })
      ∙ ap (with_event now ev) (sym (all_go_is now rs (record t { exchange = es; representation = vs; consumer = ks })))

  module _ (limits : Limits) (law : Lawful t) (taken : denial t ev ≡ None) (s : Tables)
      (closes : closing t (record { now = now; event = ev; acts = loss_acts flaw }) ≡ xs) (tables : after_accepted t e ≡ with_event now ev s) where
    acts_are : unevicting t now ev flaw ≡ e.acts
    acts_are = rw n.unasked (ap (λ acts. loss_acts flaw ++ map act.Close (closing t (record { now = now; event = ev; acts = acts ++ loss_acts flaw })))
        (n.says flaw) ∙ ap (λ ys. loss_acts flaw ++ map act.Close ys) closes)

    abbrev es : List ℕ
    es = evicted limits t now ev

    -- and what makes room goes last
    pub reported_does : Does limits t now ev flaw (map act.Evicted es ++ (loss_acts flaw ++ map act.Close xs)) (with_event now ev (let_all_go now es s))
    reported_does =
        let last = evictions_come_last limits t now ev flaw law.sound law.owned taken in
        record {
          acts_are = last.acts ∙ ap (λ acts. map act.Evicted es ++ acts) acts_are;
          tables_are =
              last.tables
              ∙ (ap (λ acts. evict_all es (after_accepted t (record { now = now; event = ev; acts = acts }))) acts_are
              ∙ (ap (evict_all es) tables
              ∙ (all_go_is now es (with_event now ev s) ∙ ap (with_event now ev) (sym (all_go_is now es s)))));
        }

    -- nothing does where nothing is written
    pub reported_plainly : write_in t (entry_without_acts now ev) ev ≡ None →
        Does limits t now ev flaw (loss_acts flaw ++ map act.Close xs) (with_event now ev s)
    reported_plainly unwritten =
        subst (λ ys. Does limits t now ev flaw (map act.Evicted ys ++ (loss_acts flaw ++ map act.Close xs)) (with_event now ev (let_all_go now ys s)))
        (evicts_nothing limits t now ev unwritten) reported_does
