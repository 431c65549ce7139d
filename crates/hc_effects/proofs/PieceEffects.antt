-- What a piece does that is brought past the store or stored, or whose write is refused where it isn't for several.
--
-- Its exchange has the piece, and what is of its family has it too (`piece_heard`); what is lost goes, and what closes
-- early (`piece_goes`). Where no writing for several is lost, all consumers stay (`all_stay`), so `piece_tables` joins
-- the tables. Its ways are: what is stored (`stored`), what was lost before (`unstored`), and a write that is refused,
-- after which who writes alone goes on (`loses_alone`).
use Rattle.std.{proofs.{lemmas.Bool.Decides.{nat_tests}, Common.{arith, ◌≡◌, inl, inr, ℕ, List, [], ◌∷◌, ◌++◌, Bool, true, false, Option, Some, None, refl, ap, sym, ◌∙◌, subst}}, specs.Prelude.{◌&&◌, ◌||◌, ◌==◌, not, nat_eq, if◌then◌else◌, map, option_map}}
use Rattle.hc_text.proofs.Basics.{eqb-same, not_some as none_some, and_off as then_false}
use Rattle.hc_effects.proofs.Vocabulary.{brings_whole, act, LostKind, Event, Limits, Place, loses_in, loss_acts, closing, is_current, denial, Does, with_event, with_exchange, with_representation, let_go, let_all_go, as_gone, over, lost_to, Entry, entry_without_acts, exchange_after, with_piece, family, front, Flaw, NoFlaw, Loses, beside, becomes_gone, ends_early, ends_founding, is_keepable, Lawful, is_written, representation_after, representation_heard, representation_after_piece, with_stored_bytes, Tables, Exchange, Representation, Consumer, after_accepted, evicted, write_in, exclusive, goes_on_with}
use Rattle.hc_event.specs.declared.event.Event.TheVariants as event
use Rattle.hc_effects.proofs.{Basics.{false_true, append_none}, Dues.{undue_of, stop_none}, FewClosings.{ClosesLittle, nothing_lost, closes_nothing}, Frames.{undoomed}, PieceKeeps.{eq_cases}, SameTables.{is_in, back_from_any}, ReportedFrames.{pieces, says_little, e, exchange_one, goes_as, loses_as, closes_as, representation_by, representation_none, lost_by, beside_same, consumer_by, reported_by, reported_does, reported_plainly}, Untouched.{IsSpared, loss_spared}, ActParts.{leaver_lost}}

module _ (limits : Limits) (t : Tables) (law : Lawful t) (now x : ℕ) (bytes : List ℕ) (w : Exchange) (row : t.exchange x ≡ Some w) where
  abbrev ev : Event
  ev = event.Piece x bytes

  abbrev pub it : Flaw → List ℕ → Entry
  it flaw xs = e t now ev (pieces x bytes) flaw xs

  -- what closes early goes, and what is lost
  pub piece_goes : (flaw : Flaw) (xs : List ℕ) (r : ℕ) (v : Representation) → (is_in xs r ≡ true → loses_in r (loss_acts flaw) ≡ true) →
      becomes_gone t (it flaw xs) r v ≡ loses_in r (loss_acts flaw)
  piece_goes flaw xs r v closed =
      goes_as t now ev (pieces x bytes) flaw xs r v
      ∙ rw (undoomed t (it flaw xs) refl) (by_tests (is_in xs r) refl)
    where
      ends_none : is_in xs r ≡ false → ends_early t (it flaw xs) r v ≡ false
      ends_none off = then_false (brings_whole v.head.status) (ends_founding (it flaw xs) r (t.exchange r)) (by_row (t.exchange r))
        where
          by_row : (z : Option Exchange) → ends_founding (it flaw xs) r z ≡ false
          by_row None = refl
          by_row (Some u) = then_false u.is_open _ (closes_as t now ev (pieces x bytes) flaw xs r ∙ off)

      drop : (a b c d : Bool) → ((a && false) || b || (c && d)) ≡ (b || (c && d))
      drop a b c d = grind (arith, nat_tests)

      both : (a b c : Bool) → a ≡ true → (a || (b && c)) ≡ a
      both a b c on = grind (arith, nat_tests)

      either : (a b c : Bool) → b ≡ false → (a || (b && c)) ≡ a
      either true b c off = refl
      either false b c off = rw off refl

      by_tests : (b : Bool) → is_in xs r ≡ b →
          ((is_current t v.key r && false) || loses_in r (loss_acts flaw) || (ends_early t (it flaw xs) r v && not (is_keepable v))) ≡ loses_in
          r (loss_acts flaw)
      by_tests true is = drop (is_current t v.key r) (loses_in r (loss_acts flaw)) (ends_early t (it flaw xs) r v) _ ∙
          both (loses_in r (loss_acts flaw)) (ends_early t (it flaw xs) r v) _ (closed is)
      by_tests false is = drop (is_current t v.key r) (loses_in r (loss_acts flaw)) (ends_early t (it flaw xs) r v) _ ∙
          either (loses_in r (loss_acts flaw)) (ends_early t (it flaw xs) r v) _ (ends_none is)

  -- what isn't of its family hears nothing
  pub piece_unheard : (flaw : Flaw) (xs : List ℕ) (q : ℕ) (u : Representation) → nat_eq (family x w) q ≡ false → representation_heard t (it flaw xs) q ev u ≡ u
  piece_unheard flaw xs q u other = ap (λ z. representation_after_piece (it flaw xs) q x bytes z u) row ∙ rw other refl

  pub piece_heard : (flaw : Flaw) (xs : List ℕ) (r : ℕ) (v : Representation) (kept : Bool) → family x w ≡ r →
      not (v.is_lost || loses_in r (loss_acts flaw)) ≡ kept → representation_heard t (it flaw xs) r ev v ≡ with_stored_bytes kept (front w) x bytes v
  piece_heard flaw xs r v kept of_r is =
      let here : nat_eq (family x w) r ≡ true = ap (λ n. nat_eq n r) of_r ∙ eqb-same r in
      ap (λ z. representation_after_piece (it flaw xs) r x bytes z v) row
      ∙ rw here (ap (λ b. with_stored_bytes b (front w) x bytes v) (ap (λ b. not (v.is_lost || b)) (loses_as t now ev (pieces x bytes) flaw xs r) ∙ is))

  -- its own exchange, and the others
  pub piece_brings : (flaw : Flaw) (xs : List ℕ) (y : ℕ) →
      exchange_after t (it flaw xs) y
      (t.exchange y) ≡ (if is_in xs y then option_map over (if x == y then Some (with_piece bytes w) else t.exchange y) else
      (if x == y then Some (with_piece bytes w) else t.exchange y))
  piece_brings flaw xs y = exchange_one t now ev (pieces x bytes) flaw xs x w (with_piece bytes w) refl row (rw (eqb-same x) refl) y

  -- WHERE NO WRITING IS LOST

  module _ (flaw : Flaw) (unlost : (r : ℕ) (v : Representation) → t.representation r ≡ Some v → (loses_in r (loss_acts flaw) && is_written t v) ≡ false) where
    little : ClosesLittle t (record { now = now; event = ev; acts = loss_acts flaw })
    little = record {
      unrefused = λ y. rw ((says_little t now ev (pieces x bytes)).caseless (loss_acts flaw)) refl;
      undoomed = λ y u. rw (undoomed t (record { now = now; event = ev; acts = loss_acts flaw }) refl) refl;
      survives = nothing_lost t (record { now = now; event = ev; acts = loss_acts flaw }) unlost;
    }

    closes_none : closing t (record { now = now; event = ev; acts = loss_acts flaw }) ≡ []
    closes_none = closes_nothing t (record { now = now; event = ev; acts = loss_acts flaw }) little (leaver_lost flaw)

    spared : (p : Place) → IsSpared t (it flaw []) p
    spared p r lo hi how v at there = ap (λ b. b && is_written t v) (loses_as t now ev (pieces x bytes) flaw [] r) ∙ unlost r v there

    stays : (c : ℕ) (k : Consumer) → t.consumer c ≡ Some k → beside t (it flaw []) c k ≡ k
    stays c k here = beside_same t now ev (pieces x bytes) flaw [] c k
        (undue_of t (it flaw []) c k
        (record { stop = stop_none t (it flaw []) k refl; loss = loss_spared t (it flaw []) c k.place (spared k.place); head = refl })) (spared k.place)
        (law.owned.idle_due c k here)

    all_stay : (c : ℕ) → option_map (beside t (it flaw []) c) (t.consumer c) ≡ t.consumer c
    all_stay c = by_row (t.consumer c) refl
      where
        by_row : (z : Option Consumer) → t.consumer c ≡ z → option_map (beside t (it flaw []) c) z ≡ z
        by_row None here = refl
        by_row (Some k) here = ap Some (stays c k here)

    goes : (r : ℕ) (v : Representation) → t.representation r ≡ Some v → becomes_gone t (it flaw []) r v ≡ loses_in r (loss_acts flaw)
    goes r v there = piece_goes flaw [] r v (λ on. absurd (false_true on))

    -- these are let go that are lost
    pub piece_tables : (rs : List ℕ) (vs : ℕ → Option Representation) → ((r : ℕ) → loses_in r (loss_acts flaw) ≡ is_in rs r) →
        ((r : ℕ) → representation_after t (it flaw []) r (t.representation r) ≡ (if is_in rs r then option_map as_gone (vs r) else vs r))
        → after_accepted t (it flaw []) ≡ with_event now ev (let_all_go now rs (record (with_exchange x (Some (with_piece bytes w)) t) { representation = vs }))
    piece_tables rs vs same rows =
        reported_by t now ev (pieces x bytes) flaw [] rs (with_exchange x (Some (with_piece bytes w)) t).exchange vs t.consumer
        (piece_brings flaw [])
        rows
        (λ c. consumer_by t now ev (pieces x bytes) flaw [] law rs (λ r v there. goes r v there ∙ same r) (undoomed t (it flaw []) refl) c
        (λ k here. refl) ∙ ap (option_map (back_from_any now rs)) (all_stay c))

  -- ANOTHER ROW

  -- that of its family, and the others, which aren't lost
  pub rows_by : (flaw : Flaw) (xs rs : List ℕ) (r : ℕ) (v u : Representation) → family x w ≡ r → t.representation r ≡ Some v
      → ((q : ℕ) (z : Representation) → t.representation q ≡ Some z → becomes_gone t (it flaw xs) q z ≡ is_in rs q) →
      ((q : ℕ) → nat_eq r q ≡ false → loses_in q (loss_acts flaw) ≡ false)
      → representation_after t (it flaw xs) r (Some v) ≡ (if is_in rs r then option_map as_gone (Some u) else Some u)
      → (q : ℕ) → representation_after t (it flaw xs) q
      (t.representation q) ≡ (if is_in rs q then option_map as_gone (if r == q then Some u else t.representation q) else
      (if r == q then Some u else t.representation q))
  rows_by flaw xs rs r v u of_r there goes others here q = elim (eq_cases r q) [
    | inl same ↦ rw same.0 (subst
        (λ m. representation_after t (it flaw xs) m (t.representation m) ≡ (if is_in rs m then option_map as_gone (Some u) else Some u)) same.1
        (ap (representation_after t (it flaw xs) r) there ∙ here))
    | inr apart ↦ rw apart.0 (by_row (t.representation q) refl apart.0)
  ]
    where
      by_row : (z : Option Representation) → t.representation q ≡ z → nat_eq r q ≡ false →
          representation_after t (it flaw xs) q z ≡ (if is_in rs q then option_map as_gone z else z)
      by_row None is off = representation_none t now ev (pieces x bytes) flaw xs q (is_in rs q)
      by_row (Some z) is off =
          representation_by t now ev (pieces x bytes) flaw xs q z z (is_in rs q)
          (piece_unheard flaw xs q z (ap (λ m. nat_eq m q) of_r ∙ off)) (others q off) (goes q z is)

  -- WHAT IT DOES

  module _ (taken : denial t ev ≡ None) where
    -- past the store just its exchange has it
    pub past : t.representation (family x w) ≡ None → Does limits t now ev NoFlaw [] (with_event now ev (with_exchange x (Some (with_piece bytes w)) t))
    past none =
        reported_plainly t now ev (pieces x bytes) NoFlaw [] limits law taken (with_exchange x (Some (with_piece bytes w)) t) (closes_none NoFlaw unlost)
        (piece_tables NoFlaw unlost [] t.representation (λ r. refl) rows) unwritten
      where
        unlost : (r : ℕ) (v : Representation) → t.representation r ≡ Some v → (false && is_written t v) ≡ false
        unlost r v there = refl

        unwritten : write_in t (entry_without_acts now ev) ev ≡ None
        unwritten = rw (row, none) refl

        rows : (r : ℕ) → representation_after t (it NoFlaw []) r (t.representation r) ≡ t.representation r
        rows r = by_row (t.representation r) refl
          where
            by_row : (z : Option Representation) → t.representation r ≡ z → representation_after t (it NoFlaw []) r z ≡ z
            by_row None there = representation_none t now ev (pieces x bytes) NoFlaw [] r false
            by_row (Some v) there =
                let other : nat_eq (family x w) r ≡ false =
                elim (eq_cases (family x w) r) [ inl same ↦ absurd (none_some v (sym none ∙ (ap t.representation same.1 ∙ there))) | inr apart ↦ apart.0 ] in
                representation_by t now ev (pieces x bytes) NoFlaw [] r v v false (piece_unheard NoFlaw [] r v other) refl (goes NoFlaw unlost r v there)

    module _ (r : ℕ) (v : Representation) (of_r : family x w ≡ r) (there : t.representation r ≡ Some v) where
      abbrev es : List ℕ
      es = evicted limits t now ev

      brought : (kept : Bool) → not v.is_lost ≡ kept →
          after_accepted t (it NoFlaw []) ≡ with_event now ev
          (with_representation r (Some (with_stored_bytes kept (front w) x bytes v)) (with_exchange x (Some (with_piece bytes w)) t))
      brought kept is =
          piece_tables NoFlaw (λ q u at. refl) [] (λ q. if r == q then Some (with_stored_bytes kept (front w) x bytes v) else t.representation q) (λ q. refl)
          (rows_by NoFlaw [] [] r v (with_stored_bytes kept (front w) x bytes v) of_r there (λ q u at. goes NoFlaw (λ n z is. refl) q u at) (λ q apart. refl)
          (representation_by t now ev (pieces x bytes) NoFlaw [] r v (with_stored_bytes kept (front w) x bytes v) false
          (piece_heard NoFlaw [] r v kept of_r (ap not (drop v.is_lost) ∙ is)) refl (goes NoFlaw (λ n z is. refl) r v there)))
        where
          drop : (b : Bool) → (b || false) ≡ b
          drop true = refl
          drop false = refl

      -- it is stored, and what makes room is evicted
      pub stored : v.is_lost ≡ false →
          Does limits t now ev NoFlaw (map act.Evicted es)
          (with_event now ev (let_all_go now es
          (with_representation r (Some (with_stored_bytes true (front w) x bytes v)) (with_exchange x (Some (with_piece bytes w)) t))))
      stored kept =
          subst (λ acts. Does limits t now ev NoFlaw acts
          (with_event now ev (let_all_go now es
          (with_representation r (Some (with_stored_bytes true (front w) x bytes v)) (with_exchange x (Some (with_piece bytes w)) t)))))
          (append_none (map act.Evicted es))
          (reported_does t now ev (pieces x bytes) NoFlaw [] limits law taken
          (with_representation r (Some (with_stored_bytes true (front w) x bytes v)) (with_exchange x (Some (with_piece bytes w)) t))
          (closes_none NoFlaw (λ q u at. refl)) (brought true (ap not kept)))

      -- of what was lost before nothing is stored
      pub unstored : v.is_lost ≡ true →
          Does limits t now ev NoFlaw []
          (with_event now ev (with_representation r (Some (with_stored_bytes false (front w) x bytes v)) (with_exchange x (Some (with_piece bytes w)) t)))
      unstored was =
          reported_plainly t now ev (pieces x bytes) NoFlaw [] limits law taken
          (with_representation r (Some (with_stored_bytes false (front w) x bytes v)) (with_exchange x (Some (with_piece bytes w)) t))
          (closes_none NoFlaw (λ q u at. refl)) (brought false (ap not was)) unwritten
        where
          unwritten : write_in t (entry_without_acts now ev) ev ≡ None
          unwritten = rw (row, of_r, there, was) refl

      -- A WRITE IS REFUSED

      module _ (kind : LostKind) (kept : v.is_lost ≡ false) where
        abbrev pub flaw : Flaw
        flaw = Loses r kind

        same_lost : (q : ℕ) → loses_in q (loss_acts flaw) ≡ is_in (r ∷ []) q
        same_lost q = refl

        -- the row of what is lost, where this one goes on with it
        pub lost_row : (xs : List ℕ) (alone : Option ℕ) → goes_on_with t (it flaw xs) r v ≡ alone → becomes_gone t (it flaw xs) r v ≡ true →
            representation_after t (it flaw xs) r (Some v) ≡ Some (as_gone (lost_to alone (with_stored_bytes false (front w) x bytes v)))
        lost_row xs alone goes_on goes_so =
            lost_by t now ev (pieces x bytes) flaw xs r v (with_stored_bytes false (front w) x bytes v) alone
            (piece_heard flaw xs r v false of_r (rw (kept, eqb-same r) refl)) (rw (eqb-same r) refl) kept goes_so goes_on

        module _ (alone : is_written t v ≡ false) where
          unlost : (q : ℕ) (u : Representation) → t.representation q ≡ Some u → (loses_in q (loss_acts flaw) && is_written t u) ≡ false
          unlost q u at = grind (arith, nat_tests)

          -- who writes it alone goes on with it
          pub loses_alone : Does limits t now ev flaw (map act.Evicted es ++ (act.Lost r kind ∷ []))
              (with_event now ev (let_all_go now es
              (let_go now r (with_representation r (Some (lost_to (exclusive t r v) (with_stored_bytes false (front w) x bytes v)))
              (with_exchange x (Some (with_piece bytes w)) t)))))
          loses_alone =
              let loses : loses_in r (it flaw []).acts ≡ true = rw (eqb-same r) refl in
              reported_does t now ev (pieces x bytes) flaw [] limits law taken
              (let_go now r (with_representation r (Some (lost_to (exclusive t r v) (with_stored_bytes false (front w) x bytes v)))
              (with_exchange x (Some (with_piece bytes w)) t))) (closes_none flaw unlost)
              (piece_tables flaw unlost (r ∷ []) (λ q. if r == q then Some (lost_to (exclusive t r v) (with_stored_bytes false (front w) x bytes v)) else
              t.representation q) same_lost
              (rows_by flaw [] (r ∷ []) r v (lost_to (exclusive t r v) (with_stored_bytes false (front w) x bytes v)) of_r there
              (λ q u at. goes flaw unlost q u at) (λ q apart. rw apart refl)
              (lost_row [] (exclusive t r v) (rw (loses, alone) refl) (goes flaw unlost r v there ∙ loses) ∙ rw (eqb-same r) refl)))
