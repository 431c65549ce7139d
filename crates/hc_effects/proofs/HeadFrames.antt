-- What the head of an exchange comes to: the exchange itself, its consumer, and who and what stays or is let go.
--
-- The acts are closings, evictions and a loss, and no consumer is told any of them (`far`). What goes does so by a
-- doom, by the case of the head, by a loss, or to make room (`goes_as`). A row stays, is updated, lost or founded;
-- there is a lemma for each (`row_by`, `row_loses`). Its consumer goes on, starts over or fails (`after_is`).
-- `after_head` joins the rows into tables; the effects of each case are read off it.
use Rattle.std.{proofs.{lemmas.Bool.Decides.{nat_tests}, Common.{arith, ◌≡◌, inl, inr, ℕ, List, ◌++◌, Bool, true, false, Option, Some, None, refl, ap, sym, ◌∙◌, subst}}, specs.{Prelude.{◌&&◌, ◌||◌, ◌==◌, not, nat_eq, if◌then◌else◌, map, option_map}, Option.{option_or}}}
use Rattle.hc_text.proofs.Basics.{eqb-same, not_some as none_some, or_left, or_false as or_off, or_right, and_off as then_false}
use Rattle.hc_effects.proofs.Vocabulary.{brings_whole, opening_in, asks_in, closes_in, evicts_in, Act, Cause, Response, HeadCase, Place, loses_in, has_loss, misreads_in, loss_acts, case_at, is_founding, is_joining, is_updating, consumer_after, consumer_heard, consumer_settled, consumer_acted, place_by_case, becomes_shared, back_in_line, is_current, is_number, doomed_key_of, doomed_by_case, is_key, with_event, as_gone, let_all_go, over, all_closed, with_consumer, with_answer, exchange_with_head, with_refreshed_head, just_founded, lost_to, Entry, exchange_after, joined_at, becomes_due, cause_by_case, Flaw, becomes_gone, goes_by_case, ends_early, ends_founding, Lawful, IsAwaiting, reads, is_written, representation_after, updates, representation_heard, representation_acted, with_renewed_head, resumes, Tables, Exchange, Representation, Consumer, starts_over, sends_back, waits_at, after_accepted, with_item_first, founds, binds, to_front, opened_after, openings_after, loses_group, goes_on_with, act}
use Rattle.hc_event.specs.declared.event.Event.TheVariants as event
use Rattle.hc_effects.proofs.{ActParts.{IsFarFrom, closes_evicted, closes_lost, asks_evicted, asks_lost, asks_closes, loses_evicted, loses_before, evicts_lost, evicts_closes, far_evicted, far_loss, far_closed}, ConsumerEffects.{waits_as}, Dues.{stop_none}, LeaveFrames.{closes_are}, PieceKeeps.{eq_cases}, PieceServes.{quiet_acts, acted_quiet}, SaidActs.{reported_loss}, SameTables.{same_tables, is_in, waits_for_any, back_from_any, without, all_go_is, shut, all_closed_is}, Untouched.{IsSpared, own_stays, loss_spared, exchange_absent, representation_frame, representation_absent, consumer_apart, consumer_absent, IsApart, apart_from, goes_from}, EvictedRows.{evicts_are}}

two_off : (a b : Bool) → (a || false || false || b) ≡ (a || b)
two_off a b = grind (arith, nat_tests)

module _ (t : Tables) (now x : ℕ) (response : Response) (es : List ℕ) (flaw : Flaw) (xs : List ℕ) where
  -- THE ENTRY

  abbrev pub acts : List Act
  acts = map act.Evicted es ++ (loss_acts flaw ++ map act.Close xs)

  abbrev pub e : Entry
  e = record { now = now; event = event.Head x response; acts = acts }

  opens_none : opening_in acts ≡ None
  opens_none = (quiet_acts es xs flaw).opens

  asks_none : (y : ℕ) → asks_in y acts ≡ false
  asks_none y = (asks_evicted y 0 es (loss_acts flaw ++ map act.Close xs)).asks ∙ ((asks_lost y 0 flaw (map act.Close xs)).asks ∙ (asks_closes y 0 xs).asks)

  misreads_none : (r : ℕ) → misreads_in r acts ≡ false
  misreads_none r = (asks_evicted 0 r es (loss_acts flaw ++ map act.Close xs)).misreads ∙
      ((asks_lost 0 r flaw (map act.Close xs)).misreads ∙ (asks_closes 0 r xs).misreads)

  closes_as : (y : ℕ) → closes_in y acts ≡ is_in xs y
  closes_as y = closes_evicted y es (loss_acts flaw ++ map act.Close xs) ∙ (closes_lost y flaw (map act.Close xs) ∙ closes_are y xs)

  pub loses_as : (r : ℕ) → loses_in r acts ≡ loses_in r (loss_acts flaw)
  loses_as r = loses_evicted r es (loss_acts flaw ++ map act.Close xs) ∙ loses_before r flaw xs

  -- what reads no writing that is lost is spared
  pub spared_as : (r : ℕ) (v : Representation) → (loses_in r (loss_acts flaw) && is_written t v) ≡ false → loses_group t e r v ≡ false
  spared_as r v off = ap (λ b. b && is_written t v) (loses_as r) ∙ off

  pub has_as : has_loss acts ≡ has_loss (loss_acts flaw)
  has_as = reported_loss es xs flaw

  evicts_as : (r : ℕ) → evicts_in r acts ≡ is_in es r
  evicts_as r = evicts_are r es (loss_acts flaw ++ map act.Close xs) (evicts_lost r flaw (map act.Close xs) ∙ evicts_closes r xs)

  pub far : (d : ℕ) → IsFarFrom d acts
  far d = far_evicted d es (loss_acts flaw ++ map act.Close xs) (far_loss d flaw (map act.Close xs) (far_closed d xs))

  -- its consumer, as a head of this case leaves it
  abbrev pub heard : Exchange → HeadCase → Consumer → Consumer
  heard w g k = record k { place = place_by_case x response w k (Some g); own = if becomes_shared t e response w (Some g) then None else k.own }

  module _ (w : Exchange) (row : t.exchange x ≡ Some w) (g : HeadCase) (is : case_at t e ≡ Some g) where
    -- nothing else is said of any other consumer
    pub apart : (d : ℕ) (k : Consumer) → nat_eq w.c d ≡ false → IsApart t e d k
    apart d k other = apart_from t e d k x w row other refl (stop_none t e k refl)

    -- EXCHANGES

    by_test : (b : Bool) (u : Exchange) → Some (record u { is_open = not b && u.is_open }) ≡ (if b then option_map over (Some u) else Some u)
    by_test b u = grind (arith, nat_tests)

    none_left : (b : Bool) → None ≡ (if b then option_map over None else None)
    none_left b = grind (arith, nat_tests)

    exchange_here : (joined : Option ℕ) → joined_at t e w ≡ joined →
        exchange_after t e x (t.exchange x) ≡ (if is_in xs x then option_map over (Some (exchange_with_head now response joined w)) else
        Some (exchange_with_head now response joined w))
    unfolding exchange_after
    exchange_here joined joins = ap (exchange_after t e x) row ∙
        rw (eqb-same x, asks_none x, closes_as x, joins) (by_test (is_in xs x) (exchange_with_head now response joined w))

    exchange_by : (joined : Option ℕ) → joined_at t e w ≡ joined → (y : ℕ) →
        exchange_after t e y (t.exchange y) ≡ (if is_in xs y then
        option_map over (if x == y then Some (exchange_with_head now response joined w) else t.exchange y) else
        (if x == y then Some (exchange_with_head now response joined w) else t.exchange y))
    unfolding exchange_after
    exchange_by joined joins y = elim (eq_cases x y) [
      | inl here ↦ rw here.0 (subst
          (λ z. exchange_after t e z (t.exchange z) ≡ (if is_in xs z then option_map over (Some (exchange_with_head now response joined w)) else
          Some (exchange_with_head now response joined w))) here.1 (exchange_here joined joins))
      | inr other ↦ rw other.0 (by_row (t.exchange y) other.0)
    ]
      where
        by_row : (z : Option Exchange) → nat_eq x y ≡ false → exchange_after t e y z ≡ (if is_in xs y then option_map over z else z)
        by_row None apart = exchange_absent t e y (λ o same. absurd (none_some o (sym opens_none ∙ same))) ∙ none_left (is_in xs y)
        by_row (Some u) apart = rw (apart, asks_none y, closes_as y) (by_test (is_in xs y) u)

    -- WHAT GOES

    pub doomed_is : doomed_key_of t e ≡ doomed_by_case (Some g) w response
    unfolding doomed_key_of
    doomed_is = rw (row, is) refl

    module _ (r : ℕ) (v : Representation) (unclosed : is_in xs r ≡ false) where
      ends_none : ends_early t e r v ≡ false
      ends_none = then_false (brings_whole v.head.status) (ends_founding e r (t.exchange r)) (by_row (t.exchange r))
        where
          by_row : (z : Option Exchange) → ends_founding e r z ≡ false
          by_row None = refl
          by_row (Some u) = then_false u.is_open (closes_in r acts) (closes_as r ∙ unclosed)

      -- by a doom, by the case of the head, by a loss, or to make room
      pub goes_as : becomes_gone t e r v ≡ ((is_current t v.key r && is_key (doomed_key_of t e) v.key) || goes_by_case t e r (Some g) w || loses_in
          r (loss_acts flaw) || is_in es r)
      unfolding becomes_gone
      goes_as =
          rw (opens_none, row, is, loses_as r, misreads_none r, ends_none, evicts_as r)
          (drop (is_current t v.key r) (is_key (doomed_key_of t e) v.key) (goes_by_case t e r (Some g) w) (loses_in r (loss_acts flaw)) (is_in es r))
        where
          drop : (a b d f h : Bool) → ((a && (b || false)) || d || f || false || false || h) ≡ ((a && b) || d || f || h)
          drop a b d f h = ap (λ z. (a && z) || d || f || false || false || h) (or_off b) ∙ two_off ((a && b) || d || f) h

      pub goes_by : doomed_key_of t e ≡ None → becomes_gone t e r v ≡ (goes_by_case t e r (Some g) w || loses_in r (loss_acts flaw) || is_in es r)
      goes_by doomless = goes_as ∙ rw doomless (drop (is_current t v.key r) (goes_by_case t e r (Some g) w) (loses_in r (loss_acts flaw)) (is_in es r))
        where
          drop : (a d f h : Bool) → ((a && false) || d || f || h) ≡ (d || f || h)
          drop true d f h = refl
          drop false d f h = refl

    -- what is lost goes
    pub goes_lost : (r : ℕ) (v : Representation) → loses_in r (loss_acts flaw) ≡ true → becomes_gone t e r v ≡ true
    unfolding becomes_gone
    goes_lost r v h = or_left _ _ (or_left _ _ (or_left _ _ (or_right _ _ (loses_as r ∙ h))))

    -- REPRESENTATIONS

    module _ (rs : List ℕ) (goes : (r : ℕ) (v : Representation) → t.representation r ≡ Some v → becomes_gone t e r v ≡ is_in rs r) where
      gone_by : (b : Bool) (v : Representation) → Some (if b then as_gone v else v) ≡ (if b then option_map as_gone (Some v) else Some v)
      gone_by b v = grind (arith, nat_tests)

      absent_by : (b : Bool) → None ≡ (if b then option_map as_gone None else None)
      absent_by b = grind (arith, nat_tests)

      -- what the head neither founds, updates nor loses stays, or is let go
      pub row_by : (r : ℕ) → (is_founding (Some g) && nat_eq x r) ≡ false →
          ((v : Representation) → t.representation r ≡ Some v → (updates t e r w v ≡ false) × (loses_in r (loss_acts flaw) ≡ false))
          → representation_after t e r (t.representation r) ≡ (if is_in rs r then option_map as_gone (t.representation r) else t.representation r)
      row_by r unfounding stays = by_row (t.representation r) refl
        where
          by_row : (o : Option Representation) → t.representation r ≡ o → representation_after t e r o ≡ (if is_in rs r then option_map as_gone o else o)
          by_row None there = representation_absent t e r (rw (is, unfounding) refl) ∙ absent_by (is_in rs r)
          by_row (Some v) there =
              let both = stays v there in
              representation_frame t e r v (rw (row, both.0) refl) (loses_as r ∙ both.1)
              ∙ (ap (λ (b : Bool). Some (if b then as_gone v else v)) (goes r v there) ∙ gone_by (is_in rs r) v)

      -- and all but one do
      pub rows_but : (q : ℕ) (z : Option Representation) → representation_after t e q (t.representation q) ≡ (if is_in rs q then option_map as_gone z else z)
          → ((r : ℕ) → nat_eq q r ≡ false → (is_founding (Some g) && nat_eq x r) ≡ false) →
          ((r : ℕ) (v : Representation) → nat_eq q r ≡ false → t.representation r ≡ Some v → (updates t e r w v ≡ false) ×
          (loses_in r (loss_acts flaw) ≡ false))
          → (r : ℕ) → representation_after t e r
          (t.representation r) ≡ (if is_in rs r then option_map as_gone (if q == r then z else t.representation r) else
          (if q == r then z else t.representation r))
      rows_but q z here unfounding stays r = elim (eq_cases q r) [
        | inl same ↦ rw same.0 (subst (λ m. representation_after t e m (t.representation m) ≡ (if is_in rs m then option_map as_gone z else z)) same.1 here)
        | inr other ↦ rw other.0 (row_by r (unfounding r other.0) (λ v there. stays r v other.0 there))
      ]

    module _ (r : ℕ) (v : Representation) (there : t.representation r ≡ Some v) where
      -- what it updates
      pub row_updates : updates t e r w v ≡ true → loses_in r (loss_acts flaw) ≡ false → becomes_gone t e r v ≡ false
          → representation_after t e r (t.representation r) ≡ Some
          (record (with_refreshed_head now response w v) { writer = if is_joining (Some g) && resumes t response w v then Some x else v.writer })
      unfolding representation_after
      row_updates on unlost stays =
          ap (representation_after t e r) there
          ∙ (let heard_it : representation_heard t e r e.event v ≡ with_renewed_head t e x response w v = rw (row, on) refl in
          ap (λ (u : Representation). Some (representation_acted t e r v u)) heard_it
          ∙ rw (loses_as r, unlost, stays, is) refl)

      -- what it loses, with the detached reader
      pub row_loses : (alone : Option ℕ) → v.is_lost ≡ false → loses_in r (loss_acts flaw) ≡ true → goes_on_with t e r v ≡ alone → becomes_gone t e r v ≡ true
          → representation_after t e r (t.representation r) ≡ Some (as_gone (lost_to alone v))
      unfolding representation_after
      row_loses alone kept lost_now goes_on goes =
          let loses : loses_in r acts ≡ true = loses_as r ∙ lost_now in
          let off : updates t e r w v ≡ false =
          then_false (is_updating (case_at t e) && is_number w.aim r) (not (v.is_lost || loses_in r acts)) (rw (kept, loses) refl) in
          let heard_it : representation_heard t e r e.event v ≡ v = rw (row, off) refl in
          ap (representation_after t e r) there
          ∙ (ap (λ (u : Representation). Some (representation_acted t e r v u)) heard_it
          ∙ rw (goes, goes_on, loses, kept) refl)

    -- what it founds
    pub row_founds : t.representation x ≡ None → is_founding (Some g) ≡ true →
        representation_after t e x (t.representation x) ≡ Some (just_founded now x response w)
    unfolding representation_after
    row_founds none founds = ap (representation_after t e x) none ∙ rw (is, founds, eqb-same x, row) refl

    -- CONSUMERS

    -- whoever isn't its consumer, and reads no writing that is lost, stays, or starts over by a doom or since what it waits for goes
    pub other_by : (law : Lawful t) (d : ℕ) (k : Consumer) → IsSpared t e k.place → nat_eq w.c d ≡ false → t.consumer d ≡ Some k
        → consumer_after t e d (Some k) ≡ Some (if (is_key (doomed_key_of t e) k.request.key && waits_at t k.place) || goes_from t e k.place then
        back_in_line now k else k)
    other_by law d k spared other there = consumer_apart t e d k (far d) spared (apart d k other) (law.owned.idle_due d k there)

    module _ (law : Lawful t) (rs : List ℕ) (doomless : doomed_key_of t e ≡ None)
        (goes : (r : ℕ) (v : Representation) → t.representation r ≡ Some v → becomes_gone t e r v ≡ is_in rs r) where
      pub other_row : (d : ℕ) (k : Consumer) → IsSpared t e k.place → nat_eq w.c d ≡ false → t.consumer d ≡ Some k →
          consumer_after t e d (Some k) ≡ Some (back_from_any now rs k)
      other_row d k spared other there =
          other_by law d k spared other there
          ∙ rw doomless (ap (λ (b : Bool). Some (if b then back_in_line now k else k)) (waits_as t e law rs goes d k there k.place refl))

      pub others : ((p : Place) → IsSpared t e p) → (d : ℕ) → nat_eq w.c d ≡ false →
          consumer_after t e d (t.consumer d) ≡ option_map (back_from_any now rs) (t.consumer d)
      others spared d other = by_row (t.consumer d) refl
        where
          by_row : (o : Option Consumer) → t.consumer d ≡ o → consumer_after t e d o ≡ option_map (back_from_any now rs) o
          by_row None there = consumer_absent t e d refl
          by_row (Some k) there = other_row d k (spared k.place) other there

    -- ITS CONSUMER

    module _ (k : Consumer) (asker : t.consumer w.c ≡ Some k) (at : IsAwaiting x w k.place) (undue : k.due ≡ None)
        (undoomed : (is_key (doomed_key_of t e) k.request.key && waits_at t k.place) ≡ false) (spared : IsSpared t e k.place)
        (spared_then : IsSpared t e (heard w g k).place) where
      heard_is : consumer_heard t e w.c e.event k ≡ (heard w g k)
      heard_is = rw (row, eqb-same w.c, is) refl

      acted_is : consumer_acted t e w.c (heard w g k) ≡ (heard w g k)
      acted_is = acted_quiet t e w.c (heard w g k) (quiet_acts es xs flaw) ∙
          ap (λ (o : Option ℕ). record (heard w g k) { own = o }) (own_stays t e w.c (heard w g k).place (heard w g k).own spared_then)

      over_is : starts_over t e w.c k ≡ sends_back (Some g)
      unfolding starts_over
      over_is = grind (arith, nat_tests)

      due_is : becomes_due t e w.c k ≡ cause_by_case (Some g) x
      unfolding becomes_due
      due_is = rw (stop_none t e k refl, loss_spared t e w.c k.place spared, row, eqb-same w.c, is) refl

      after_is : consumer_after t e w.c (t.consumer w.c) ≡ Some
          (if sends_back (Some g) then back_in_line now (heard w g k) else
          record (heard w g k) { due = if reads (heard w g k).place then cause_by_case (Some g) x else None })
      unfolding consumer_after
      after_is =
          ap (consumer_after t e w.c) asker
          ∙ (ap (λ (q : Consumer). Some (consumer_settled t e w.c k q)) (ap (consumer_acted t e w.c) heard_is ∙ acted_is)
          ∙ rw (over_is, due_is, undue) refl)

      -- it goes on
      pub asker_goes_on : sends_back (Some g) ≡ false → cause_by_case (Some g) x ≡ None → consumer_after t e w.c (t.consumer w.c) ≡ Some (heard w g k)
      asker_goes_on stays fine = after_is ∙
          rw (stays, fine) (ap (λ (o : Option Cause). Some (record (heard w g k) { due = o })) (by_reads (reads (heard w g k).place) ∙ sym undue))
        where
          by_reads : (b : Bool) → (if b then None else None) ≡ (let none : Option Cause = None in none)
          by_reads true = refl
          by_reads false = refl

      -- it stands in the line again
      pub asker_goes_back : sends_back (Some g) ≡ true → consumer_after t e w.c (t.consumer w.c) ≡ Some (back_in_line now k)
      asker_goes_back sends = after_is ∙ rw sends refl

      -- or a failure becomes due
      pub asker_fails : (why : Cause) → sends_back (Some g) ≡ false → cause_by_case (Some g) x ≡ Some why → heard w g k ≡ k → reads k.place ≡ true →
          consumer_after t e w.c (t.consumer w.c) ≡ Some (record k { due = Some why })
      asker_fails why stays fails same reading =
          after_is
          ∙ (ap (λ (q : Consumer). Some
          (if sends_back (Some g) then back_in_line now q else record q { due = if reads q.place then cause_by_case (Some g) x else None })) same
          ∙ rw (stays, fails, reading) refl)

    -- THE TABLES

    -- what else the entry makes of them: u is without what it says of the exchange, its consumer, and what is let go
    pub record HeadComes (rs : List ℕ) (u : Tables) (joined : Option ℕ) (q : Consumer) : Type 0 where
      pub joins : joined_at t e w ≡ joined
      pub founded : with_item_first (if is_founding (Some g) then Some x else None) t.founded ≡ u.founded
      pub used : to_front (if is_founding (Some g) then Some x else None) t.used ≡ u.used
      pub representation : (r : ℕ) →
          representation_after t e r (t.representation r) ≡ (if is_in rs r then option_map as_gone (u.representation r) else u.representation r)
      pub asker : consumer_after t e w.c (t.consumer w.c) ≡ Some q
      pub unwaiting : waits_for_any rs q.place ≡ false
      pub others : (d : ℕ) → nat_eq w.c d ≡ false → consumer_after t e d (t.consumer d) ≡ option_map (back_from_any now rs) (u.consumer d)

    binds_as : binds t e ≡ (if is_founding (Some g) then Some x else None)
    binds_as = rw (is, opens_none, (quiet_acts es xs flaw).showing) (by_founding (is_founding (Some g)))
      where
        by_founding : (b : Bool) → option_or (if b then Some x else None) None ≡ (if b then Some x else None)
        by_founding true = refl
        by_founding false = refl

    module _ (rs fs us : List ℕ) (reps : ℕ → Option Representation) (cs : ℕ → Option Consumer) (joined : Option ℕ) (q : Consumer) where
      abbrev pub rest : Tables
      rest = record t { founded = fs; used = us; representation = reps; consumer = cs }

      pub after_head : HeadComes rs rest joined q →
          after_accepted t e ≡ with_event now e.event
          (let_all_go now rs (with_consumer w.c (Some q) (all_closed xs (with_answer now x response joined w rest))))
      after_head h =
          same_tables (after_accepted t e)
          (with_event now e.event (without now rs (with_consumer w.c (Some q) (shut xs (with_answer now x response joined w rest))))) (record {
            moment = refl;
            entries = refl;
            received = refl;
            last_start = refl;
            starts = refl;
            opened = ap (λ o. opened_after o t.opened) opens_none;
            openings = ap (λ o. openings_after o t.openings) opens_none;
            founded = ap (λ o. with_item_first (if is_founding o then Some x else None) t.founded) is ∙ h.founded;
            used = ap (λ (o : Option ℕ). to_front o t.used) binds_as ∙ h.used;
            exchange = exchange_by joined h.joins;
            representation = h.representation;
            consumer = by_number;
          })
          ∙ (ap (λ (s : Tables). with_event now e.event (without now rs (with_consumer w.c (Some q) s)))
          (sym (all_closed_is xs (with_answer now x response joined w rest)))
          ∙ ap (with_event now e.event) (sym (all_go_is now rs (with_consumer w.c (Some q) (all_closed xs (with_answer now x response joined w rest))))))
        where
          by_number : (d : ℕ) → consumer_after t e d (t.consumer d) ≡ option_map (back_from_any now rs) (if w.c == d then Some q else cs d)
          by_number d = grind (arith, nat_tests)
