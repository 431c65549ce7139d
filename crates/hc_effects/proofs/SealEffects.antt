-- What it does that a consumer leaves and the seal of what it leaves fails: that is lost, and let go.
use Rattle.std.{proofs.{lemmas.Bool.Decides.{nat_tests}, Common.{arith, ◌≡◌, inl, inr, ℕ, List, [], ◌∷◌, ◌++◌, Bool, true, false, Option, Some, None, refl, ap, sym, ◌∙◌, subst}}, specs.Prelude.{◌||◌, ◌==◌, nat_eq, if◌then◌else◌, map, option_map}}
use Rattle.hc_text.proofs.Basics.{eqb-same}
use Rattle.hc_effects.proofs.Vocabulary.{Act, Cause, LostKind, Event, Limits, loses_in, answer_acts, is_number, Does, with_event, with_consumer, with_representation, let_go, as_gone, as_over, left_by, is_unkeepable, going_with, with_leave, lost_to, Entry, family, Flaw, Loses, becomes_gone, Lawful, Ends, Fails, acts_of, move_of, poll_move, representation_after, representation_acted, Tables, Exchange, Representation, Consumer, loses_what_it_waits_for, after_accepted, with_item_first, exclusive, act}
use Rattle.hc_event.specs.declared.event.Event.TheVariants as event
use Rattle.hc_effects.proofs.{Basics.{number_is}, FailsReported.{fails_reported}, KeyActs.{test_some}, LeaveFrames.{IsPrefix, e, nothing, far, acts_left, loses_as, goes_by, leaves}, OfConsumers.{BringsNothing}, PieceKeeps.{eq_cases}, SameTables.{is_in, all_closed_is}, Untouched.{representation_frame, representation_absent}}
use Rattle.hc_effects.proofs.LeaveFrames as front_of

module _ (limits : Limits) (t : Tables) (law : Lawful t) (now c : ℕ) (k : Consumer) (row : t.consumer c ≡ Some k) (x : ℕ) (w : Exchange) (r : ℕ)
    (v : Representation) (kind : LostKind) (left : left_by t c k ≡ Some x) (is_row : t.exchange x ≡ Some w) (of_family : family x w ≡ r)
    (there : t.representation r ≡ Some v) (kept : v.is_lost ≡ false) where
  module _ (ev : Event) (front : List Act) (is : IsPrefix c ev None front) (says : answer_acts t now ev (Loses r kind) ≡ front) where
    abbrev flaw : Flaw
    flaw = Loses r kind

    abbrev it : Entry
    it = e limits t law now c k row ev flaw None front is

    n : BringsNothing t it c
    n = nothing limits t law now c k row ev flaw None front is it.acts

    -- nothing else goes
    going_is : (q : ℕ) → is_number (going_with t (left_by t c k)) q ≡ true → r ≡ q
    going_is q on =
        let going : (if is_unkeepable (t.representation x) then Some x else None) ≡ Some q = sym (ap (going_with t) left) ∙
        number_is (going_with t (left_by t c k)) q on in
        let both = test_some (is_unkeepable (t.representation x)) (Some x) q going in
        sym of_family ∙ (by_row (t.representation x) refl both.0 ∙ some_is both.1)
      where
        some_is : Some x ≡ Some q → x ≡ q
        some_is h = cc

        unjoined : w.joined ≡ None → family x w ≡ x
        unjoined none = rw none refl

        by_row : (z : Option Representation) → t.representation x ≡ z → is_unkeepable z ≡ true → family x w ≡ x
        by_row None is h = absurd (let never : false ≡ true = h in cc)
        by_row (Some u) is h = unjoined (law.owned.founders x w u is_row is)

    by_tests : (a b : Bool) → (b ≡ true → a ≡ true) → (a || false || false || b) ≡ (a || false)
    by_tests a b so = grind (arith, nat_tests)

    goes : (q : ℕ) (u : Representation) → t.representation q ≡ Some u → becomes_gone t it q u ≡ is_in (r ∷ []) q
    goes q u here =
        goes_by limits t law now c k row ev flaw None front is q u here
        ∙ by_tests (r == q) (is_number (going_with t (left_by t c k)) q) (λ on. subst (λ n. nat_eq r n ≡ true) (going_is q on) (eqb-same r))

    stays : loses_what_it_waits_for t it c k.place ≡ false
    stays = grind (arith, nat_tests)

    -- it alone is lost, and who writes it alone goes on with it
    lost_row : representation_after t it r (Some v) ≡ Some (as_gone (lost_to (exclusive t r v) v))
    unfolding representation_after
    lost_row =
        let loses : loses_in r it.acts ≡ true = loses_as limits t law now c k row ev flaw None front is r ∙ rw (eqb-same r) refl in
        let goes_so : becomes_gone t it r v ≡ true = goes r v there ∙ rw (eqb-same r) refl in
        ap (λ (u : Representation). Some (representation_acted t it r v u)) (n.representation r v)
        ∙ rw (goes_so, loses, n.bodiless, kept) refl

    rows : (q : ℕ) → representation_after t it q
        (t.representation q) ≡ (if is_in (r ∷ []) q then
        option_map as_gone (if r == q then Some (lost_to (exclusive t r v) v) else t.representation q) else
        (if r == q then Some (lost_to (exclusive t r v) v) else t.representation q))
    rows q = elim (eq_cases r q) [
      | inl here ↦ rw here.0 (subst (λ m. representation_after t it m (t.representation m) ≡ Some (as_gone (lost_to (exclusive t r v) v))) here.1
          (ap (representation_after t it r) there ∙ lost_row))
      | inr other ↦ rw other.0 (by_row (t.representation q) refl other.0)
    ]
      where
        by_row : (z : Option Representation) → t.representation q ≡ z → nat_eq r q ≡ false → representation_after t it q z ≡ z
        by_row None here apart = representation_absent t it q (n.founds_none q)
        by_row (Some u) here apart =
            let goes_not : becomes_gone t it q u ≡ false = goes q u here ∙ rw apart refl in
            representation_frame t it q u (n.representation q u) (loses_as limits t law now c k row ev flaw None front is q ∙ rw apart refl)
            ∙ rw goes_not refl

    pub seal_does : Does limits t now ev flaw (front ++ (map act.Close (x ∷ []) ++ (act.Lost r kind ∷ [])))
        (with_event now ev (let_go now r (with_representation r (Some (lost_to (exclusive t r v) v)) (with_leave c k t))))
    seal_does = record {
      acts_are = acts_left limits t law now c k row ev flaw None front is says ∙
          ap (λ (z : Option ℕ). front ++ (map act.Close (with_item_first z []) ++ (act.Lost r kind ∷ []))) left;
      tables_are =
          ap (λ acts. after_accepted t (record { now = now; event = ev; acts = acts })) (acts_left limits t law now c k row ev flaw None front is says)
          ∙ (leaves limits t law now c k row ev flaw None front is (r ∷ [])
          (λ q. if r == q then Some (lost_to (exclusive t r v) v) else t.representation q) goes rows stays
          ∙ ap (λ (u : Tables). with_event now ev
          (let_go now r (with_representation r (Some (lost_to (exclusive t r v) v)) (with_consumer c (Some (as_over k)) u))))
          (sym (all_closed_is (with_item_first (left_by t c k) []) t)));
    }

  pub seal_ends : (want : ℕ) → move_of t now want c k ≡ Ends →
      Does limits t now (event.Poll c want) (Loses r kind) (acts_of c Ends ++ (map act.Close (x ∷ []) ++ (act.Lost r kind ∷ [])))
      (with_event now (event.Poll c want) (let_go now r (with_representation r (Some (lost_to (exclusive t r v) v)) (with_leave c k t))))
  seal_ends want is = seal_does (event.Poll c want) (acts_of c Ends) (front_of.ends want)
      (ap (λ (o : Option Consumer). acts_of c (poll_move t now want c o)) row ∙ ap (acts_of c) is)

  pub seal_fails : (want : ℕ) (why : Cause) → move_of t now want c k ≡ Fails why →
      Does limits t now (event.Poll c want) (Loses r kind) (acts_of c (Fails why) ++ (map act.Close (x ∷ []) ++ (act.Lost r kind ∷ [])))
      (with_event now (event.Poll c want) (let_go now r (with_representation r (Some (lost_to (exclusive t r v) v)) (with_leave c k t))))
  seal_fails want why is =
      seal_does (event.Poll c want) (acts_of c (Fails why)) (front_of.fails want why (fails_reported t now want c k why law.sound law.places row is))
      (ap (λ (o : Option Consumer). acts_of c (poll_move t now want c o)) row ∙ ap (acts_of c) is)

  pub seal_cancels : Does limits t now (event.Cancel c) (Loses r kind) (act.Close x ∷ act.Lost r kind ∷ [])
      (with_event now (event.Cancel c) (let_go now r (with_representation r (Some (lost_to (exclusive t r v) v)) (with_leave c k t))))
  seal_cancels = seal_does (event.Cancel c) [] front_of.cancels refl
