-- What an end or a fault does of an exchange that is read past the store, and a fault before the head of one.
--
-- Nothing was founded, so no representation changes (`rows_stay`), and just one consumer does (`waiter_is`). Who reads
-- past the store fails where too little came, or at a fault (`faults_past`). Before its head the exchange has who waits
-- for it: if that was shown a head, it fails by it (`faults_later`), and else it is put down (`becomes`,
-- `faults_first`). All are uses of the lemmas on what stops.
use Rattle.std.{proofs.{lemmas.Bool.Decides.{nat_tests}, Common.{arith, ◌≡◌, inl, inr, ℕ, [], Bool, true, false, Option, Some, None, refl, ap, sym, ◌∙◌, subst}}, specs.Prelude.{◌&&◌, ◌==◌, not, nat_eq, is_some, is_none, if◌then◌else◌, option_map}}
use Rattle.hc_text.proofs.Basics.{eqb-same, same_some as same_row}
use Rattle.hc_effects.proofs.Vocabulary.{cause, event, Event, Response, Limits, consumer_after, consumer_heard, consumer_acted, consumer_settled, by_fault, is_number, denial, Does, with_event, with_consumer, with_exchange, with_due, put_down, over, at_end, going_with, Entry, family, promised_bytes, short_of, NoFlaw, beside, becomes_gone, Lawful, Awaits, IsAwaiting, reads, representation_after, Tables, Exchange, Representation, Consumer, starts_over}
use Rattle.hc_event.specs.declared.place.Place.TheVariants as place
use Rattle.hc_model.specs.Owners as owners
use Rattle.hc_effects.proofs.{Basics.{true_false, false_true}, Frames.{undoomed}, PieceKeeps.{eq_cases}, PollEffects.{none_waits}, SameTables.{is_in, waits_for_any, back_from_any}, Standing.{acted}, StopFrames.{Stops, end_stops, fault_stops, end_of, fault_of, reads_own, it, goes_with, row_by, unhit, fails, stop_does, others_by}, ReportedFrames.{far, starts_is}}

-- a fault says nothing to who isn't put down by it
pub fault_unheard : (c x : ℕ) (w : Exchange) (k : Consumer) (z : Option Exchange) → z ≡ Some w → (w.c == c && is_none w.head && not k.shown) ≡ false →
    by_fault c x z k ≡ k
fault_unheard c x w k z is off = ap (λ o. by_fault c x o k) is ∙ rw off refl

-- that stops with nothing founded
module _ (limits : Limits) (t : Tables) (law : Lawful t) (now x : ℕ) (w : Exchange) (row : t.exchange x ≡ Some w) (on : w.is_open ≡ true) (ev : Event)
    (s : Stops t now x w ev) (unfounded : t.representation x ≡ None) where
  nothing_goes : (q : ℕ) (v : Representation) → t.representation q ≡ Some v → becomes_gone t (it limits t law now x w row on ev s NoFlaw) q v ≡ is_in [] q
  nothing_goes q v there = goes_with limits t law now x w row on ev s NoFlaw q v there ∙ by_test s.early
    where
      by_test : (a : Bool) → is_number (if a then going_with t (Some x) else None) q ≡ false
      by_test true = rw unfounded refl
      by_test false = refl

  rows_stay : (q : ℕ) → representation_after t (it limits t law now x w row on ev s NoFlaw) q (t.representation q) ≡ t.representation q
  rows_stay q =
      row_by limits t law now x w row on ev s NoFlaw q false (t.representation q) refl refl (λ v there. nothing_goes q v there)
      ∙ (elim (eq_cases x q) [
        | inl same ↦ (let none : t.representation q ≡ None = ap t.representation (sym same.1) ∙ unfounded in rw (same.0, none) refl)
        | inr apart ↦ rw apart.0 refl
      ])

  module _ (accepts : denial t ev ≡ None) (c : ℕ) (k : Consumer) (here : t.consumer c ≡ Some k) (owns : k.own ≡ Some x) where
    -- its reader fails by it
    pub reader_fails : reads k.place ≡ true →
        ((d : ℕ) (z : Consumer) → t.consumer d ≡ Some z → consumer_heard t (it limits t law now x w row on ev s NoFlaw) d ev z ≡ z) →
        Does limits t now ev NoFlaw [] (with_event now ev (with_due c s.why (with_exchange x (Some s.u) t)))
    reader_fails reading quiet =
        stop_does limits t law now x w row on ev s NoFlaw accepts [] t.representation (with_due c s.why t).consumer rows_stay
        (λ d. others_by limits t law now x w row on ev s NoFlaw [] nothing_goes (with_due c s.why t).consumer d (quiet d)
        (fails limits t law now x w row on ev s NoFlaw (λ n. c == n) (λ n z is. reads_own t law x w row on c n k z here owns is)
        (λ n z is same. still n z is same) d))
      where
        still : (n : ℕ) (z : Consumer) → t.consumer n ≡ Some z → nat_eq c n ≡ true → reads z.place ≡ true
        still n z is same = elim (eq_cases c n) [
          | inl one ↦ ap (λ (p : Consumer). reads p.place) (same_row (t.consumer n) z k is (sym (ap t.consumer one.1) ∙ here)) ∙ reading
          | inr apart ↦ absurd (false_true (sym apart.0 ∙ same))
        ]

    -- its consumer becomes this, and nobody else changes
    pub waiter_is : (q : Consumer) → consumer_after t (it limits t law now x w row on ev s NoFlaw) c (Some k) ≡ Some q →
        (waits_for_any [] q.place ≡ false) →
        ((d : ℕ) (z : Consumer) → nat_eq c d ≡ false → t.consumer d ≡ Some z → consumer_heard t (it limits t law now x w row on ev s NoFlaw) d ev z ≡ z)
        → Does limits t now ev NoFlaw [] (with_event now ev (with_consumer c (Some q) (with_exchange x (Some s.u) t)))
    waiter_is q becomes unwaiting quiet =
        stop_does limits t law now x w row on ev s NoFlaw accepts [] t.representation (with_consumer c (Some q) t).consumer rows_stay by_number
      where
        by_number : (d : ℕ) → consumer_after t (it limits t law now x w row on ev s NoFlaw) d (t.consumer d) ≡ option_map (back_from_any now [])
            (if c == d then Some q else t.consumer d)
        by_number d = elim (eq_cases c d) [
          | inl same ↦ rw same.0 (subst
              (λ n. consumer_after t (it limits t law now x w row on ev s NoFlaw) n (t.consumer n) ≡ option_map (back_from_any now []) (Some q)) same.1
              (ap (consumer_after t (it limits t law now x w row on ev s NoFlaw) c) here ∙ (becomes ∙ rw unwaiting refl)))
          | inr apart ↦ rw apart.0
              (others_by limits t law now x w row on ev s NoFlaw [] nothing_goes t.consumer d (λ z is. quiet d z apart.0 is) (by_row (t.consumer d) refl apart.0))
        ]
          where
            by_row : (z : Option Consumer) → t.consumer d ≡ z → nat_eq c d ≡ false → option_map (beside t (it limits t law now x w row on ev s NoFlaw) d) z ≡ z
            by_row None is other = refl
            by_row (Some z) is other = ap Some (unhit limits t law now x w row on ev s NoFlaw d z is (reads_own t law x w row on c d k z here owns is ∙ other))

module _ (limits : Limits) (t : Tables) (law : Lawful t) (now x : ℕ) (w : Exchange) (row : t.exchange x ≡ Some w) where
  -- PAST THE STORE

  module _ (past : t.representation (family x w) ≡ None) where
    unfounded : t.representation x ≡ None
    unfounded = grind (arith, nat_tests)

    module _ (headed : is_some w.head ≡ true) (on : w.is_open ≡ true) (ev : Event) (s : Stops t now x w ev) (accepts : denial t ev ≡ None)
        (quiet : (d : ℕ) (z : Consumer) → t.consumer d ≡ Some z → consumer_heard t (it limits t law now x w row on ev s NoFlaw) d ev z ≡ z) where
      past_fails : Does limits t now ev NoFlaw [] (with_event now ev (with_due w.c s.why (with_exchange x (Some s.u) t)))
      past_fails =
          let reader = law.places.read x w row on headed past in
          let at = law.places.direct w.c x reader.k reader.row reader.place_is in
          reader_fails limits t law now x w row on ev s unfounded accepts w.c reader.k reader.row at.own (ap reads reader.place_is) quiet

    -- who reads it fails where too little came, and knows its length
    pub ends_past : denial t (event.End x) ≡ None →
        Does limits t now (event.End x) NoFlaw []
        (with_event now (event.End x) (with_due w.c (short_of x w (promised_bytes w)) (with_exchange x (Some (at_end w)) t)))
    ends_past accepts = past_fails (end_of t x w row accepts).headed (end_of t x w row accepts).was_open (event.End x) (end_stops t now x w row) accepts
        (λ d z is. refl)

    pub faults_past : is_some w.head ≡ true → denial t (event.Fault x) ≡ None →
        Does limits t now (event.Fault x) NoFlaw [] (with_event now (event.Fault x) (with_due w.c (Some (cause.Net x)) (with_exchange x (Some (over w)) t)))
    faults_past headed accepts =
        past_fails headed (fault_of t x w row accepts) (event.Fault x) (fault_stops t now x w) accepts
        (λ d z is. fault_unheard d x w z (t.exchange x) row (off (nat_eq w.c d) w.head headed z.shown))
      where
        off : (a : Bool) (o : Option Response) → is_some o ≡ true → (b : Bool) → (a && is_none o && not b) ≡ false
        off true (Some response) is b = refl
        off true None is b = absurd (false_true is)
        off false o is b = refl

  -- BEFORE ITS HEAD

  module _ (bare : w.head ≡ None) (k : Consumer) (here : t.consumer w.c ≡ Some k) (accepts : denial t (event.Fault x) ≡ None) where
    on : w.is_open ≡ true
    on = fault_of t x w row accepts

    waits : Awaits t x w
    waits = law.owned.waiting x w row on bare

    same : waits.k ≡ k
    same = same_row (t.consumer w.c) waits.k k waits.row here

    owns : k.own ≡ Some x
    owns = sym (ap (λ (z : Consumer). z.own) same) ∙ waits.own

    unfounded_bare : t.representation x ≡ None
    unfounded_bare = law.sound.numbered.names.unfounded x w row bare

    abbrev s : Stops t now x w (event.Fault x)
    s = fault_stops t now x w

    -- who was shown a head, and fills a later hole, fails by it
    pub faults_later : k.shown ≡ true →
        Does limits t now (event.Fault x) NoFlaw [] (with_event now (event.Fault x) (with_due w.c (Some (cause.Net x)) (with_exchange x (Some (over w)) t)))
    faults_later shown =
        reader_fails limits t law now x w row on (event.Fault x) s unfounded_bare accepts w.c k here owns (reading waits.at)
        (λ d z is. fault_unheard d x w z (t.exchange x) row (off d z is))
      where
        reading : IsAwaiting x w waits.k.place → reads k.place ≡ true
        reading (owners.direct way at) = ap (λ (z : Consumer). reads z.place) (sym same) ∙ ap reads at
        reading (owners.hole r lo hi how way aim at) = ap (λ (z : Consumer). reads z.place) (sym same) ∙ ap reads at
        reading (owners.turn way at) =
            absurd (true_false (sym shown ∙ (law.places.turn w.c x k here (ap (λ (z : Consumer). z.place) (sym same) ∙ at)).idle.unshown))

        off : (d : ℕ) (z : Consumer) → t.consumer d ≡ Some z → (w.c == d && is_none w.head && not z.shown) ≡ false
        off d z is = grind (arith, nat_tests)

    module _ (unshown : k.shown ≡ false) where
      abbrev entry : Entry
      entry = it limits t law now x w row on (event.Fault x) s NoFlaw

      heard : consumer_heard t entry w.c (event.Fault x) k ≡ record k { place = place.Down (cause.Net x) }
      heard = rw (row, eqb-same w.c, bare, unshown) refl

      starts : starts_over t entry w.c k ≡ false
      starts =
          starts_is t now (event.Fault x) s.is_reported NoFlaw [] law [] (nothing_goes limits t law now x w row on (event.Fault x) s unfounded_bare) w.c k here
          ∙ rw (undoomed t entry refl) (none_waits k.place)

      becomes : consumer_after t entry w.c (Some k) ≡ Some (put_down (cause.Net x) k)
      unfolding consumer_after
      becomes =
          ap (λ h. Some (consumer_settled t entry w.c k (consumer_acted t entry w.c h))) heard
          ∙ (ap (λ q. Some (consumer_settled t entry w.c k q))
          (acted t entry w.c (record k { place = place.Down (cause.Net x) }) (far t now (event.Fault x) s.is_reported NoFlaw [] w.c))
          ∙ rw starts refl)

      -- who was shown nothing is put down
      pub faults_first : Does limits t now (event.Fault x) NoFlaw []
          (with_event now (event.Fault x) (with_consumer w.c (Some (put_down (cause.Net x) k)) (with_exchange x (Some (over w)) t)))
      faults_first =
          waiter_is limits t law now x w row on (event.Fault x) s unfounded_bare accepts w.c k here owns (put_down (cause.Net x) k) becomes refl
          (λ d z apart is. fault_unheard d x w z (t.exchange x) row (rw apart refl))
