-- What an end or a fault does of what brings a representation: its readers fail or know its end, and that is sealed.
--
-- Both are proved once, for any event that stops it (`Stops`) and any list of readers: what is brought is sealed or let
-- go (`seals`), or its seal fails and it is lost (`seal_loses`). Then come who reads it: the members of a writing
-- (`members_read`), or the one whose own the exchange is (`reader_reads`). `faults_shared`, `ends_own` and the others
-- are the uses, with a seal that fails and without.
use Rattle.std.{proofs.{lemmas.Bool.Decides.{nat_tests}, Common.{arith, ◌≡◌, inl, inr, ℕ, [], ◌∷◌, Bool, true, false, Option, Some, None, refl, ap, sym, ◌∙◌, subst}}, specs.Prelude.{◌||◌, ◌==◌, nat_eq, length, is_some, if◌then◌else◌, option_map}}
use Rattle.hc_text.proofs.Basics.{eqb-same}
use Rattle.hc_effects.proofs.Vocabulary.{act, cause, event, Cause, LostKind, Event, is_same_number, Limits, consumer_heard, by_fault, is_number, denial, Does, with_event, with_exchange, with_due, with_dues, with_length, with_loss, if_bound, failing, let_go, let_some_go, as_gone, over, at_end, lost_to, going_with, family, promised_bytes, short_of, Flaw, NoFlaw, Loses, becomes_gone, is_short, Lawful, is_bound, is_written, reads, source, representation_after, representation_heard, Tables, Exchange, Representation, Consumer, with_item_first, exclusive}
use Rattle.hc_effects.proofs.{ConsumerEffects.{some_all}, PieceKeeps.{eq_cases}, SameTables.{is_in, in_one}, StopFrames.{Stops, IsEnding, end_stops, fault_stops, end_of, fault_of, reads_own, reads_shared, it, going, goes_with, longer_row, heard_is, row_by, fails, stop_does, others_by}, ReportedFrames.{lost_by}}

module _ (limits : Limits) (t : Tables) (law : Lawful t) (now x : ℕ) (w : Exchange) (row : t.exchange x ≡ Some w) (r : ℕ) (v : Representation)
    (of_r : family x w ≡ r) (there : t.representation r ≡ Some v) where
  -- WHO READS FROM IT

  module _ (ev : Event) (on : w.is_open ≡ true) (headed : is_some w.head ≡ true) (s : Stops t now x w ev) (accepts : denial t ev ≡ None)
      (hit : ℕ → Bool) (hits : (c : ℕ) (k : Consumer) → t.consumer c ≡ Some k → is_same_number (source t k) (Some x) ≡ hit c)
      (reading : (c : ℕ) (k : Consumer) → t.consumer c ≡ Some k → hit c ≡ true → reads k.place ≡ true)
      (failed : ℕ → Option Consumer) (failed_is : (c : ℕ) → (if hit c then option_map (failing s.why) (t.consumer c) else t.consumer c) ≡ failed c)
      (quiet : (flaw : Flaw) (c : ℕ) (k : Consumer) → t.consumer c ≡ Some k → consumer_heard t (it limits t law now x w row on ev s flaw) c ev k ≡ k) where
    abbrev longer : ℕ → Option Representation
    longer q = longer_row limits t law now x w row on ev s NoFlaw q (t.representation q)

    -- it is sealed, or let go where it ends early
    abbrev gone_is : Option ℕ
    gone_is = going limits t law now x w row on ev s NoFlaw

    goes : (q : ℕ) (u : Representation) → t.representation q ≡ Some u → becomes_gone t (it limits t law now x w row on ev s NoFlaw) q u ≡ is_in
        (with_item_first gone_is []) q
    goes q u is = goes_with limits t law now x w row on ev s NoFlaw q u is ∙ sym (in_one gone_is q)

    pub seals : Does limits t now ev NoFlaw []
        (with_event now ev (let_some_go now gone_is (record (with_exchange x (Some s.u) t) { representation = longer; consumer = failed })))
    seals =
        subst (λ u. Does limits t now ev NoFlaw [] (with_event now ev u))
        (some_all now gone_is (record (with_exchange x (Some s.u) t) { representation = longer; consumer = failed }))
        (stop_does limits t law now x w row on ev s NoFlaw accepts (with_item_first gone_is []) longer failed
        (λ q. row_by limits t law now x w row on ev s NoFlaw q (is_in (with_item_first gone_is []) q) (t.representation q) refl refl (λ u is. goes q u is))
        (λ c. others_by limits t law now x w row on ev s NoFlaw (with_item_first gone_is []) goes failed c (quiet NoFlaw c)
        (fails limits t law now x w row on ev s NoFlaw hit hits reading c ∙ failed_is c)))

    -- where that fails it is lost, and who writes it alone goes on
    module _ (kind : LostKind) (kept : v.is_lost ≡ false) where
      abbrev flaw : Flaw
      flaw = Loses r kind

      -- nothing else goes
      going_r : (q : ℕ) (u : Representation) → t.representation q ≡ Some u → is_number gone_is q ≡ true → r ≡ q
      going_r q u is on_it = grind (arith, nat_tests)

      by_tests : (a c : Bool) → (c ≡ true → a ≡ true) → ((a || false) || c) ≡ (a || false)
      by_tests a c so = grind (arith, nat_tests)

      goes_lost : (q : ℕ) (u : Representation) → t.representation q ≡ Some u → becomes_gone t (it limits t law now x w row on ev s flaw) q u ≡ is_in (r ∷ []) q
      goes_lost q u is =
          goes_with limits t law now x w row on ev s flaw q u is
          ∙ by_tests (nat_eq r q) (is_number gone_is q) (λ on_it. ap (nat_eq r) (sym (going_r q u is on_it)) ∙ eqb-same r)

      abbrev lost_at : ℕ → Option Representation
      lost_at q = if r == q then option_map (lost_to (exclusive t r v)) (longer q) else longer q

      row_lost : representation_after t (it limits t law now x w row on ev s flaw) r (Some v) ≡ option_map as_gone
          (option_map (lost_to (exclusive t r v)) (longer_row limits t law now x w row on ev s NoFlaw r (Some v)))
      row_lost =
          lost_by t now ev s.is_reported flaw [] r v (representation_heard t (it limits t law now x w row on ev s flaw) r ev v) (exclusive t r v) refl
          (rw (eqb-same r) refl) kept (goes_lost r v there ∙ rw (eqb-same r) refl) (rw s.bodiless refl)
          ∙ ap (λ o. option_map as_gone (option_map (lost_to (exclusive t r v)) o)) (heard_is limits t law now x w row on ev s flaw r v)

      rows_lost : (q : ℕ) → representation_after t (it limits t law now x w row on ev s flaw) q
          (t.representation q) ≡ (if is_in (r ∷ []) q then option_map as_gone (lost_at q) else lost_at q)
      rows_lost q = elim (eq_cases r q) [
        | inl same ↦ rw same.0 (subst
            (λ n. representation_after t (it limits t law now x w row on ev s flaw) n (t.representation n) ≡ option_map as_gone
            (option_map (lost_to (exclusive t r v)) (longer n))) same.1
            (subst (λ z. representation_after t (it limits t law now x w row on ev s flaw) r z ≡ option_map as_gone
            (option_map (lost_to (exclusive t r v)) (longer_row limits t law now x w row on ev s NoFlaw r z))) (sym there) row_lost))
        | inr apart ↦ rw apart.0
            (row_by limits t law now x w row on ev s flaw q false (t.representation q) refl (rw apart.0 refl) (λ u is. goes_lost q u is ∙ rw apart.0 refl))
      ]

      pub seal_loses : Does limits t now ev flaw (act.Lost r kind ∷ [])
          (with_event now ev (let_go now r (record (with_exchange x (Some s.u) t) { representation = lost_at; consumer = failed })))
      seal_loses =
          stop_does limits t law now x w row on ev s flaw accepts (r ∷ []) lost_at failed rows_lost
          (λ c. others_by limits t law now x w row on ev s flaw (r ∷ []) goes_lost failed c (quiet flaw c)
          (fails limits t law now x w row on ev s flaw hit hits reading c ∙ failed_is c))

  -- WHO IS MEANT

  -- a fault behind a head says nothing to anyone
  fault_quiet : (headed : is_some w.head ≡ true) (c : ℕ) (k : Consumer) → by_fault c x (t.exchange x) k ≡ k
  fault_quiet headed c k = grind (arith, nat_tests)

  -- what a fault leaves as long as it was
  same_rows : (λ (q : ℕ). if x == q then option_map (λ (u : Representation). u) (t.representation q) else t.representation q) ≡ t.representation
  same_rows = grind (arith, nat_tests)

  -- the members of what is written for several
  module _ (on : is_written t v ≡ true) (writer : v.writer ≡ Some x) where
    module _ (was_open : w.is_open ≡ true) where
      members : (c : ℕ) (k : Consumer) → t.consumer c ≡ Some k → is_same_number (source t k) (Some x) ≡ is_bound r (t.consumer c)
      members c k is = reads_shared t law x w row was_open r v there on writer c k is ∙ ap (is_bound r) (sym is)

      members_read : (c : ℕ) (k : Consumer) → t.consumer c ≡ Some k → is_bound r (t.consumer c) ≡ true → reads k.place ≡ true
      members_read c k is bound_it = grind (arith, nat_tests)

    -- each of them fails
    all_fail : (why : Option Cause) (c : ℕ) →
        (if is_bound r (t.consumer c) then option_map (failing why) (t.consumer c) else t.consumer c) ≡ option_map (if_bound r (failing why)) (t.consumer c)
    all_fail why c = grind (arith, nat_tests)

    module _ (accepts : denial t (event.End x) ≡ None) where
      abbrev taken : IsEnding w
      taken = end_of t x w row accepts

      -- where too little came they fail, and it is let go where a 200 founded it that can't be completed
      pub ends_shared : Does limits t now (event.End x) NoFlaw []
          (with_event now (event.End x)
          (let_some_go now (if is_short w then going_with t (Some x) else None)
          (with_length x (length w.body) (with_dues r (short_of x w (promised_bytes w)) (with_exchange x (Some (at_end w)) t)))))
      ends_shared = seals (event.End x) taken.was_open taken.headed (end_stops t now x w row) accepts (λ c. is_bound r (t.consumer c))
          (members taken.was_open) (members_read taken.was_open) (with_dues r (short_of x w (promised_bytes w)) t).consumer
          (all_fail (short_of x w (promised_bytes w))) (λ flaw c k is. refl)

      pub ends_shared_lost : (kind : LostKind) → v.is_lost ≡ false → Does limits t now (event.End x) (Loses r kind) (act.Lost r kind ∷ [])
          (with_event now (event.End x)
          (let_go now r (with_loss r (exclusive t r v)
          (with_length x (length w.body) (with_dues r (short_of x w (promised_bytes w)) (with_exchange x (Some (at_end w)) t))))))
      ends_shared_lost kind kept =
          seal_loses (event.End x) taken.was_open taken.headed (end_stops t now x w row) accepts (λ c. is_bound r (t.consumer c)) (members taken.was_open)
          (members_read taken.was_open) (with_dues r (short_of x w (promised_bytes w)) t).consumer (all_fail (short_of x w (promised_bytes w)))
          (λ flaw c k is. refl) kind kept

    module _ (headed : is_some w.head ≡ true) (accepts : denial t (event.Fault x) ≡ None) where
      abbrev opened : w.is_open ≡ true
      opened = fault_of t x w row accepts

      pub faults_shared : Does limits t now (event.Fault x) NoFlaw []
          (with_event now (event.Fault x) (let_some_go now (going_with t (Some x)) (with_dues r (Some (cause.Net x)) (with_exchange x (Some (over w)) t))))
      faults_shared =
          subst (λ (f : ℕ → Option Representation). Does limits t now (event.Fault x) NoFlaw []
          (with_event now (event.Fault x)
          (let_some_go now (going_with t (Some x))
          (record (with_dues r (Some (cause.Net x)) (with_exchange x (Some (over w)) t)) { representation = f })))) same_rows
          (seals (event.Fault x) opened headed (fault_stops t now x w) accepts (λ c. is_bound r (t.consumer c)) (members opened) (members_read opened)
          (with_dues r (Some (cause.Net x)) t).consumer (all_fail (Some (cause.Net x))) (λ flaw c k is. fault_quiet headed c k))

      pub faults_shared_lost : (kind : LostKind) → v.is_lost ≡ false → Does limits t now (event.Fault x) (Loses r kind) (act.Lost r kind ∷ [])
          (with_event now (event.Fault x) (let_go now r (with_loss r (exclusive t r v) (with_dues r (Some (cause.Net x)) (with_exchange x (Some (over w)) t)))))
      faults_shared_lost kind kept =
          subst (λ (f : ℕ → Option Representation). Does limits t now (event.Fault x) (Loses r kind) (act.Lost r kind ∷ [])
          (with_event now (event.Fault x)
          (let_go now r (with_loss r (exclusive t r v)
          (record (with_dues r (Some (cause.Net x)) (with_exchange x (Some (over w)) t)) { representation = f }))))) same_rows
          (seal_loses (event.Fault x) opened headed (fault_stops t now x w) accepts (λ c. is_bound r (t.consumer c)) (members opened)
          (members_read opened) (with_dues r (Some (cause.Net x)) t).consumer (all_fail (Some (cause.Net x))) (λ flaw c k is. fault_quiet headed c k) kind kept)

  -- the one whose own it is
  module _ (c : ℕ) (k : Consumer) (here : t.consumer c ≡ Some k) (owns : k.own ≡ Some x) where
    module _ (was_open : w.is_open ≡ true) (headed : is_some w.head ≡ true) where
      reader : (d : ℕ) (z : Consumer) → t.consumer d ≡ Some z → is_same_number (source t z) (Some x) ≡ nat_eq c d
      reader d z is = reads_own t law x w row was_open c d k z here owns is

      reader_reads : (d : ℕ) (z : Consumer) → t.consumer d ≡ Some z → nat_eq c d ≡ true → reads z.place ≡ true
      reader_reads d z is same = grind (arith, nat_tests)

    module _ (accepts : denial t (event.End x) ≡ None) where
      abbrev taken_it : IsEnding w
      taken_it = end_of t x w row accepts

      pub ends_own : Does limits t now (event.End x) NoFlaw []
          (with_event now (event.End x)
          (let_some_go now (if is_short w then going_with t (Some x) else None)
          (with_length x (length w.body) (with_due c (short_of x w (promised_bytes w)) (with_exchange x (Some (at_end w)) t)))))
      ends_own = seals (event.End x) taken_it.was_open taken_it.headed (end_stops t now x w row) accepts (λ d. c == d)
          (reader taken_it.was_open taken_it.headed) (reader_reads taken_it.was_open taken_it.headed)
          (with_due c (short_of x w (promised_bytes w)) t).consumer (λ d. refl) (λ flaw d z is. refl)

      pub ends_own_lost : (kind : LostKind) → v.is_lost ≡ false → Does limits t now (event.End x) (Loses r kind) (act.Lost r kind ∷ [])
          (with_event now (event.End x)
          (let_go now r (with_loss r (exclusive t r v)
          (with_length x (length w.body) (with_due c (short_of x w (promised_bytes w)) (with_exchange x (Some (at_end w)) t))))))
      ends_own_lost kind kept =
          seal_loses (event.End x) taken_it.was_open taken_it.headed (end_stops t now x w row) accepts (λ d. c == d)
          (reader taken_it.was_open taken_it.headed) (reader_reads taken_it.was_open taken_it.headed)
          (with_due c (short_of x w (promised_bytes w)) t).consumer (λ d. refl) (λ flaw d z is. refl) kind kept

    module _ (headed : is_some w.head ≡ true) (accepts : denial t (event.Fault x) ≡ None) where
      abbrev opened_it : w.is_open ≡ true
      opened_it = fault_of t x w row accepts

      pub faults_own : Does limits t now (event.Fault x) NoFlaw []
          (with_event now (event.Fault x) (let_some_go now (going_with t (Some x)) (with_due c (Some (cause.Net x)) (with_exchange x (Some (over w)) t))))
      faults_own =
          subst (λ (f : ℕ → Option Representation). Does limits t now (event.Fault x) NoFlaw []
          (with_event now (event.Fault x)
          (let_some_go now (going_with t (Some x))
          (record (with_due c (Some (cause.Net x)) (with_exchange x (Some (over w)) t)) { representation = f })))) same_rows
          (seals (event.Fault x) opened_it headed (fault_stops t now x w) accepts (λ d. c == d) (reader opened_it headed) (reader_reads opened_it headed)
          (with_due c (Some (cause.Net x)) t).consumer (λ d. refl) (λ flaw d z is. fault_quiet headed d z))

      pub faults_own_lost : (kind : LostKind) → v.is_lost ≡ false → Does limits t now (event.Fault x) (Loses r kind) (act.Lost r kind ∷ [])
          (with_event now (event.Fault x) (let_go now r (with_loss r (exclusive t r v) (with_due c (Some (cause.Net x)) (with_exchange x (Some (over w)) t)))))
      faults_own_lost kind kept =
          subst (λ (f : ℕ → Option Representation). Does limits t now (event.Fault x) (Loses r kind) (act.Lost r kind ∷ [])
          (with_event now (event.Fault x)
          (let_go now r (with_loss r (exclusive t r v)
          (record (with_due c (Some (cause.Net x)) (with_exchange x (Some (over w)) t)) { representation = f }))))) same_rows
          (seal_loses (event.Fault x) opened_it headed (fault_stops t now x w) accepts (λ d. c == d) (reader opened_it headed)
          (reader_reads opened_it headed) (with_due c (Some (cause.Net x)) t).consumer (λ d. refl) (λ flaw d z is. fault_quiet headed d z) kind kept)
