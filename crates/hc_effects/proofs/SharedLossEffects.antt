-- What a piece does whose write is refused for several: one goes on alone, if one can, and the others fail.
--
-- The loss takes what is written with it, and nothing else goes (`goes`). Whoever is bound to it goes on or fails, and
-- all others stay (`bound_by`, `unbound`). `loses_shared` joins this into the tables, whatever is closed. Where one
-- survives it gets the exchange for its own, and nothing is closed (`goes_on`). Where nobody can, the exchange is
-- closed unless the piece has reached its end (`closing_is`, `all_fail`).
use Rattle.std.{proofs.{lemmas.Bool.Decides.{nat_tests}, Common.{arith, ◌≡◌, inl, inr, ℕ, ◌+◌, List, [], ◌∷◌, ◌++◌, Bool, true, false, Option, Some, None, refl, ap, sym, ◌∙◌, subst}}, specs.{Prelude.{◌&&◌, ◌||◌, ◌==◌, not, nat_eq, length, is_some, is_none, if◌then◌else◌, map, filter, reverse, option_map}, Option.{option_or}}}
use mathlib.Core.Path.{fun_ext}
use Rattle.hc_text.proofs.Basics.{both_true as and_both, eqb-same, not_some as none_some, or_none as or_nothing, same_some as same_row, some_inj, and_off as then_false}
use Rattle.hc_effects.proofs.Vocabulary.{act, cause, place, Cause, LostKind, piece_refusal, Limits, Place, BoundBy, loses_in, loss_acts, closing, closes_row, has_no_survivor, own_after, left_to, is_number, denial, as_open, Does, with_event, with_exchange, with_representation, left_with, if_bound, group_lost, let_go, let_all_go, over, all_closed, lost_to, unless_reached, Entry, with_piece, family, front, becomes_due, cause_of_loss, cause_by_loss, Flaw, Loses, beside, becomes_gone, Lawful, is_bound_place, is_written, reads, with_stored_bytes, Tables, Exchange, Representation, Consumer, with_item_first, evicted, survivor, loses_group}
use Rattle.hc_event.specs.declared.event.Event.TheVariants as event
use Rattle.hc_rules.specs.Refusals as refusals
use Rattle.hc_model.specs.Sound as sound
use Rattle.hc_effects.proofs.{ApartKeeps.{is_on}, Basics.{false_true, number_yes}, Closed.{reversed}, Dues.{stop_none}, FewClosings.{ClosesLittle, closes_nothing}, Frames.{undoomed}, OfConsumers.{one_of, descends_once}, Once.{IsTaken, taken}, ExclusiveWriters.{writer_some}, PieceEffects.{it, piece_goes, piece_brings, rows_by, lost_row}, PieceKeeps.{eq_cases}, SameTables.{is_in, back_from_any, all_closed_is}, Stops.{writer_about}, Sums.{reverse_once}, Tests.{and_false}, ReportedFrames.{pieces, says_little, beside_same, consumer_by, reported_by, reported_does}, Untouched.{IsSpared, loss_spared}, ActParts.{leaver_lost}}

module _ (limits : Limits) (t : Tables) (law : Lawful t) (now x : ℕ) (bytes : List ℕ) (w : Exchange) (row : t.exchange x ≡ Some w)
    (accepts : denial t (event.Piece x bytes) ≡ None) (r : ℕ) (v : Representation) (of_r : family x w ≡ r) (there : t.representation r ≡ Some v)
    (kind : LostKind) (on : is_written t v ≡ true) where
  abbrev ev : Rattle.hc_event.specs.declared.event.Event.Event
  ev = event.Piece x bytes

  abbrev flaw : Flaw
  flaw = Loses r kind

  abbrev e : List ℕ → Entry
  e xs = it limits t law now x bytes w row flaw xs

  abbrev pub why : Option Cause
  why = Some (cause.StoreWrite r)

  -- who goes on
  abbrev pub detached_reader : Option ℕ
  detached_reader = survivor t r v

  -- THE WRITING

  taken_so : IsTaken w (length bytes)
  unfolding refusals.refusal_of
  taken_so = taken (length bytes) w (sym (ap (λ z. piece_refusal (as_open z) (length bytes)) row) ∙ accepts)

  -- it is that of x
  pub writer_is : v.writer ≡ Some x
  writer_is = by_writer v.writer refl
    where
      by_writer : (o : Option ℕ) → v.writer ≡ o → o ≡ Some x
      by_writer None is = absurd (writer_some t v on is)
      by_writer (Some y) is = ap Some
          (law.sound.one_about r y x (writer_about t r y v law.sound there on is) (sound.headed w row taken_so.is_open taken_so.headed of_r (ap is_some there)))

  kept : v.is_lost ≡ false
  kept = (is_on t v x on writer_is).kept

  loses_it : (acts : List _) → loses_group t (record { now = now; event = ev; acts = act.Lost r kind ∷ acts }) r v ≡ true
  loses_it acts = rw (eqb-same r, on) refl

  -- CONSUMERS

  abbrev made_by : Option ℕ → ℕ → Option Consumer → Option Consumer
  made_by o c z = option_map (if_bound r (left_with r o (Some x) c)) z

  abbrev after_by : Option ℕ → Tables → Tables
  after_by o u = with_representation r (Some (lost_to o (with_stored_bytes false (front w) x bytes v))) (group_lost r o (Some x) u)

  module _ (xs : List ℕ) where
    -- nothing else becomes due than by the loss
    due_by : (c : ℕ) (k : Consumer) → becomes_due t (e xs) c k ≡ cause_of_loss t (e xs) c k.place
    unfolding becomes_due
    due_by c k = rw (stop_none t (e xs) k refl) (or_nothing (cause_of_loss t (e xs) c k.place))

    abbrev is_detached_reader : ℕ → Bool
    is_detached_reader c = is_number detached_reader c

    abbrev made : ℕ → Option Consumer → Option Consumer
    made c z = made_by detached_reader c z

    loses_other : (q : ℕ) (u : Representation) → nat_eq r q ≡ false → loses_group t (e xs) q u ≡ false
    loses_other q u apart = rw apart (by_list xs)
      where
        by_list : (ys : List ℕ) → (loses_in q (map act.Close ys) && is_written t u) ≡ false
        by_list [] = refl
        by_list (y ∷ ys) = by_list ys

    -- who isn't bound to it stays
    unbound : (c : ℕ) (k : Consumer) → t.consumer c ≡ Some k → is_bound_place r k.place ≡ false → option_map (beside t (e xs) c) (Some k) ≡ made c (Some k)
    unbound c k here apart =
        ap Some (beside_same t now ev (pieces x bytes) flaw xs c k (due_by c k ∙ loss_spared t (e xs) c k.place spared) spared (law.owned.idle_due c k here))
        ∙ rw apart refl
      where
        spared : IsSpared t (e xs) k.place
        spared q lo hi how u at is = loses_other q u (elim (eq_cases r q) [ inl same ↦ absurd (false_true (sym apart ∙ (ap (is_bound_place r) at ∙ (ap (λ n. nat_eq n r) (sym same.1) ∙ eqb-same r)))) | inr other ↦ other.0 ])

    -- who is goes on with the exchange, or fails
    bound_by : (c lo : ℕ) (hi : Option ℕ) (how : BoundBy) (k : Consumer) → k.place ≡ place.Bound r lo hi how →
        option_map (beside t (e xs) c) (Some k) ≡ made c (Some k)
    bound_by c lo hi how k at =
        ap Some (parts (own_after t (e xs) c k.place k.own) (becomes_due t (e xs) c k) (reads k.place)
        (ap (λ p. own_after t (e xs) c p k.own) at ∙ own_is) (due_by c k ∙ (ap (cause_of_loss t (e xs) c) at ∙ cause_is)) (ap reads at))
        ∙ (by_test (is_detached_reader c) ∙ ap (λ a. Some (if a then left_with r detached_reader (Some x) c k else k)) (sym here))
      where
        here : is_bound_place r k.place ≡ true
        here = ap (is_bound_place r) at ∙ eqb-same r

        own_is : left_to t (e xs) c r (t.representation r) k.own ≡ (if is_detached_reader c then Some x else k.own)
        own_is =
            ap (λ z. left_to t (e xs) c r z k.own) there
            ∙ (ap (λ a. if a && is_detached_reader c then v.writer else k.own) (loses_it (map act.Close xs)) ∙
            ap (λ o. if is_detached_reader c then o else k.own) writer_is)

        cause_is : cause_by_loss t (e xs) c r (t.representation r) ≡ (if not (is_detached_reader c) then why else None)
        cause_is = ap (cause_by_loss t (e xs) c r) there ∙ ap (λ a. if a && not (is_detached_reader c) then why else None) (loses_it (map act.Close xs))

        parts : (own : Option ℕ) (due : Option Cause) (reading : Bool) → own ≡ (if is_detached_reader c then Some x else k.own) →
            due ≡ (if not (is_detached_reader c) then why else None) → reading ≡ true
            → record k { own = own; due = if reading then option_or k.due due else None } ≡ record k
            { own = if is_detached_reader c then Some x else k.own; due = option_or k.due (if not (is_detached_reader c) then why else None) }
        parts own due reading p q h = rw (p, q, h) refl

        by_test : (b : Bool) → Some (record k { own = if b then Some x else k.own; due = option_or k.due (if not b then why else None) }) ≡ Some
            (if b then record k { own = Some x } else record k { due = option_or k.due why })
        by_test true = ap (λ (o : Option Cause). Some (record k { own = Some x; due = o })) (or_nothing k.due)
        by_test false = refl

    made_so : (c : ℕ) → option_map (beside t (e xs) c) (t.consumer c) ≡ made c (t.consumer c)
    made_so c = by_row (t.consumer c) refl
      where
        by_place : (k : Consumer) (p : Place) → t.consumer c ≡ Some k → k.place ≡ p → option_map (beside t (e xs) c) (Some k) ≡ made c (Some k)
        by_place k (place.Bound q lo hi how) here at = elim (eq_cases q r) [
          | inl same ↦ bound_by c lo hi how k (at ∙ ap (λ n. place.Bound n lo hi how) same.1)
          | inr apart ↦ unbound c k here (ap (is_bound_place r) at ∙ apart.0)
        ]
        by_place k _ here at = unbound c k here (ap (is_bound_place r) at)

        by_row : (z : Option Consumer) → t.consumer c ≡ z → option_map (beside t (e xs) c) z ≡ made c z
        by_row None here = refl
        by_row (Some k) here = by_place k k.place here refl

    -- THE TABLES

    module _ (closes : closing t (record { now = now; event = ev; acts = loss_acts flaw }) ≡ xs) (only : (q : ℕ) → is_in xs q ≡ true → x ≡ q) where
      abbrev es : List ℕ
      es = evicted limits t now ev

      goes : (q : ℕ) (u : Representation) → t.representation q ≡ Some u → becomes_gone t (e xs) q u ≡ is_in (r ∷ []) q
      goes q u is = piece_goes limits t law now x bytes w row flaw xs q u closed_it
        where
          unjoined : w.joined ≡ None → family x w ≡ x
          unjoined none = rw none refl

          closed_it : is_in xs q ≡ true → loses_in q (loss_acts flaw) ≡ true
          closed_it shut =
              let same = only q shut in
              let mine : r ≡ q = sym of_r ∙ (unjoined (law.owned.founders x w u row (ap t.representation same ∙ is)) ∙ same) in
              ap (λ b. b || false) (ap (nat_eq r) (sym mine) ∙ eqb-same r)

      pub loses_shared : Does limits t now ev flaw (map act.Evicted es ++ (act.Lost r kind ∷ map act.Close xs))
          (with_event now ev (let_all_go now es (let_go now r (after_by detached_reader (all_closed xs (with_exchange x (Some (with_piece bytes w)) t))))))
      loses_shared =
          reported_does t now ev (pieces x bytes) flaw xs limits law accepts
          (let_go now r (after_by detached_reader (all_closed xs (with_exchange x (Some (with_piece bytes w)) t)))) closes
          (reported_by t now ev (pieces x bytes) flaw xs (r ∷ [])
          (λ y. if is_in xs y then option_map over (if x == y then Some (with_piece bytes w) else t.exchange y) else
          (if x == y then Some (with_piece bytes w) else t.exchange y))
          (λ q. if r == q then Some (lost_to detached_reader (with_stored_bytes false (front w) x bytes v)) else t.representation q)
          (λ c. made c (t.consumer c))
          (piece_brings limits t law now x bytes w row flaw xs)
          (rows_by limits t law now x bytes w row flaw xs (r ∷ []) r v (lost_to detached_reader (with_stored_bytes false (front w) x bytes v)) of_r there
          goes (λ q apart. rw apart refl)
          (lost_row limits t law now x bytes w row accepts r v of_r there kind kept xs detached_reader (rw (loses_it (map act.Close xs)) refl)
          (goes r v there ∙ rw (eqb-same r) refl) ∙ rw (eqb-same r) refl))
          (λ c. consumer_by t now ev (pieces x bytes) flaw xs law (r ∷ []) goes (undoomed t (e xs) refl) c (λ k here. refl) ∙
          ap (option_map (back_from_any now (r ∷ []))) (made_so c))
          ∙ ap (λ (u : Tables). with_event now ev (let_go now r (after_by detached_reader u)))
          (sym (all_closed_is xs (with_exchange x (Some (with_piece bytes w)) t))))

  -- ONE GOES ON

  module _ (d : ℕ) (survives : detached_reader ≡ Some d) where
    little : ClosesLittle t (record { now = now; event = ev; acts = loss_acts flaw })
    little = record {
      unrefused = λ y. rw ((says_little t now ev (pieces x bytes)).caseless (loss_acts flaw)) refl;
      undoomed = λ y u. rw (undoomed t (record { now = now; event = ev; acts = loss_acts flaw }) refl) refl;
      survives = λ y q. some_survives y q (t.representation q) refl;
    }
      where
        some_survives : (y q : ℕ) (z : Option Representation) → t.representation q ≡ z →
            has_no_survivor t (record { now = now; event = ev; acts = loss_acts flaw }) y q z ≡ false
        some_survives y q z is = grind (arith, nat_tests)

    -- it has the exchange for its own, and the others fail
    pub goes_on : Does limits t now ev flaw (map act.Evicted (evicted limits t now ev) ++ (act.Lost r kind ∷ []))
        (with_event now ev (let_all_go now (evicted limits t now ev)
        (let_go now r (with_representation r (Some (lost_to (Some d) (with_stored_bytes false (front w) x bytes v)))
        (group_lost r (Some d) (Some x) (with_exchange x (Some (with_piece bytes w)) t))))))
    goes_on =
        subst (λ (o : Option ℕ). Does limits t now ev flaw (map act.Evicted (evicted limits t now ev) ++ (act.Lost r kind ∷ []))
        (with_event now ev (let_all_go now (evicted limits t now ev) (let_go now r (after_by o (with_exchange x (Some (with_piece bytes w)) t)))))) survives
        (loses_shared [] (closes_nothing t (record { now = now; event = ev; acts = loss_acts flaw }) little (leaver_lost flaw))
        (λ q shut. absurd (false_true shut)))

  -- NOBODY CAN

  module _ (nobody : detached_reader ≡ None) where
    abbrev b : Entry
    b = record { now = now; event = ev; acts = loss_acts flaw }

    abbrev left : Option ℕ
    left = if (with_piece bytes w).is_open then Some x else None

    left_is : with_item_first left [] ≡ unless_reached x bytes w
    left_is = grind (arith, nat_tests)

    closes_it : closes_row t b x (t.exchange x) ≡ is_number left x
    closes_it =
        let no_one : has_no_survivor t b x (family x w) (t.representation (family x w)) ≡ true =
        ap (λ n. has_no_survivor t b x n (t.representation n)) of_r ∙
        (ap (has_no_survivor t b x r) there ∙
        and_both _ _ (and_both _ _ (number_yes v.writer x writer_is) (loses_it [])) (ap (λ (o : Option ℕ). is_none o) nobody)) in
        ap (closes_row t b x) row
        ∙ rw ((says_little t now ev (pieces x bytes)).caseless (loss_acts flaw), undoomed t b refl, no_one, eqb-same x) (by_test (with_piece bytes w).is_open)
      where
        by_test : (a : Bool) → a ≡ is_number (if a then Some x else None) x
        by_test true = sym (eqb-same x)
        by_test false = refl

    closes_as : (y : ℕ) → closes_row t b y (t.exchange y) ≡ is_number left y
    closes_as y = elim (eq_cases x y) [
      | inl same ↦ subst (λ n. closes_row t b n (t.exchange n) ≡ is_number left n) same.1 closes_it
      | inr apart ↦ by_row (t.exchange y) apart.0
    ]
      where
        off : nat_eq x y ≡ false → is_number left y ≡ false
        off other = grind (arith, nat_tests)

        some_writes : (q : ℕ) (z : Option Representation) → t.representation q ≡ z → nat_eq x y ≡ false → has_no_survivor t b y q z ≡ false
        some_writes q None is other = refl
        some_writes q (Some u) is other = elim (eq_cases r q) [
          | inr apart ↦ and_false _ (is_none (survivor t q u)) (then_false (is_number u.writer y) (loses_group t (e []) q u) (loses_other [] q u apart.0))
          | inl same ↦
              let writes : is_number u.writer y ≡ false =
              ap (λ (p : Representation). is_number p.writer y) (same_row (t.representation q) u v is (sym (ap t.representation same.1) ∙ there)) ∙
              (ap (λ o. is_number o y) writer_is ∙ other) in
              and_false _ (is_none (survivor t q u)) (and_false (is_number u.writer y) (loses_group t b q u) writes)
        ]

        by_row : (z : Option Exchange) → nat_eq x y ≡ false → closes_row t b y z ≡ is_number left y
        by_row None other = sym (off other)
        by_row (Some u) other =
            rw (
              (says_little t now ev (pieces x bytes)).caseless (loss_acts flaw),
              undoomed t b refl,
              some_writes (family y u) (t.representation (family y u)) refl other,
            ) (sym (off other))

    closing_is : closing t b ≡ unless_reached x bytes w
    unfolding closing
    closing_is =
        ap (λ (test : ℕ → Bool). filter test (reverse t.openings)) (fun_ext closes_as)
        ∙ (one_of left (reverse t.openings) (reverse_once t.openings (descends_once (t.opened + 1) t.openings law.order.openings))
        (λ y at. reversed y t.openings (law.sound.numbered.lists.opened y (is_there y (some_is (with_piece bytes w).is_open y at)))) ∙ left_is)
      where
        some_is : (a : Bool) (y : ℕ) → (if a then Some x else None) ≡ Some y → x ≡ y
        some_is true y at = some_inj x y at
        some_is false y at = absurd (none_some y at)

        is_there : (y : ℕ) → x ≡ y → is_some (t.exchange y) ≡ true
        is_there y same = ap is_some (sym (ap t.exchange same) ∙ row)

    only_it : (q : ℕ) → is_in (unless_reached x bytes w) q ≡ true → x ≡ q
    only_it q = grind (arith, nat_tests)

    -- all fail, and the exchange is closed that this piece leaves open
    pub all_fail : Does limits t now ev flaw (map act.Evicted (evicted limits t now ev) ++ (act.Lost r kind ∷ map act.Close (unless_reached x bytes w)))
        (with_event now ev (let_all_go now (evicted limits t now ev)
        (let_go now r (with_representation r (Some (lost_to None (with_stored_bytes false (front w) x bytes v)))
        (group_lost r None (Some x) (all_closed (unless_reached x bytes w) (with_exchange x (Some (with_piece bytes w)) t)))))))
    all_fail =
        subst (λ (o : Option ℕ). Does limits t now ev flaw
        (map act.Evicted (evicted limits t now ev) ++ (act.Lost r kind ∷ map act.Close (unless_reached x bytes w)))
        (with_event now ev (let_all_go now (evicted limits t now ev)
        (let_go now r (after_by o (all_closed (unless_reached x bytes w) (with_exchange x (Some (with_piece bytes w)) t))))))) nobody
        (loses_shared (unless_reached x bytes w) closing_is only_it)
