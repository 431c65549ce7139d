-- A poll opens a hole only where it is absent and no other exchange is about it.
--
-- A poll opens a hole by a plan, where nobody is bound, for the first one of what is wanted; or for a reader, where it
-- stands. So the positions of the hole are absent (`hole_absent_at`): none is stored, and of what is lost nothing is
-- held (`not_come`). And no other exchange is about it (`hole_alone_at`). `poll_well` says so of a poll, from which
-- `poll_one_about` follows by the lemmas on quiet events.
use Rattle.std.{proofs.{lemmas.Bool.Decides.{nat_tests}, Common.{◌≡◌, inl, inr, ℕ, ◌+◌, ◌<◌, ◌≤◌, List, [], ◌∷◌, ◌++◌, Bool, true, false, cond, Option, Some, None, refl, ap, sym, ◌∙◌, subst, arith}}, specs.Prelude.{find, map, ◌&&◌}}
use Rattle.hc_text.proofs.Basics.{and_right, both_true as and_true, bool_cases, not_true, same_some as same_row, some_inj}
use Rattle.hc_sparse.specs.{Cells.{Cells, Cell}, Stretch.{stretch}}
use Rattle.hc_effects.proofs.Vocabulary.{Opening, opening_in, Request, Act, Need, poll_acts, loss_acts, accepted_acts, closing, current, is_usable, is_number, Entry, aim_of, aim_from, Flaw, NoFlaw, Loses, Misreads, stretch_to, Move, Opens, acts_of, poll_move, offset, Tables, Representation, Consumer, Sound, OneAbout, IsAbout, InHole, IsExclusiveWriter, held_of_lost, after_accepted, Place, Limits, act, need}
use Rattle.hc_event.specs.declared.event.Event.TheVariants as event
use Rattle.hc_model.specs.Sound.{Waits as StillWaits}
use Rattle.hc_model.specs.Sound as sound
use Rattle.hc_effects.proofs.{ExclusiveWriters.{IsAtHole, has_exclusive_writer, none_about, none_about_hole}, QuietKeeps.{OpensWell, waits_kept, one_about_kept}, HolesOpened.{first_absent, later_absent}, PollTree.{OpensHole, FineMove, fine_polled}, Basics.{number_yes as is_same}}
use Rattle.hc_effects.proofs.PollTree as tree

-- WHAT IS CURRENT

pub find_passes : (test : ℕ → Bool) (xs : List ℕ) (r : ℕ) → find test xs ≡ Some r → test r ≡ true
find_passes test [] r is = absurd (let never : None ≡ Some r = is in cc)
find_passes test (x ∷ xs) r is = elim (bool_cases (test x)) [
  | inl passes ↦ let same : x ≡ r = some_inj x r (rw passes at is) in rw same at passes
  | inr fails ↦ find_passes test xs r (rw fails at is)
]

pub current_stays : (t : Tables) (key : List ℕ) (r : ℕ) (v : Representation) → current t key ≡ Some r → t.representation r ≡ Some v → v.is_gone ≡ false
unfolding current
current_stays t key r v is row = not_true v.is_gone (and_right _ _ (rw row at (find_passes (λ q. is_usable key (t.representation q)) t.founded r is)))

-- WHAT IS OPENED

pub closes_open_none : (xs : List ℕ) (rest : List Act) → opening_in rest ≡ None → opening_in (map act.Close xs ++ rest) ≡ None
closes_open_none [] rest none = none
closes_open_none (x ∷ xs) rest none = closes_open_none xs rest none

pub losses_open_none : (flaw : Flaw) → opening_in (loss_acts flaw) ≡ None
losses_open_none flaw = grind (arith, nat_tests)

-- what a move opens is told by its acts
data IsOpenedBy (c : ℕ) (o : Opening) : Move → Type 0 where
  opens : (x : ℕ) (n : Need) (request : Request) → o.c ≡ c → o.need ≡ n → o.x ≡ x → IsOpenedBy c o (Opens x n request)

opened_by : (c : ℕ) (m : Move) (rest : List Act) (o : Opening) → opening_in rest ≡ None → opening_in (acts_of c m ++ rest) ≡ Some o → IsOpenedBy c o m
opened_by c (Opens x n request) rest o none is = let same = some_inj _ o is in
    opens x n request (sym (ap (λ (q : Opening). q.c) same)) (sym (ap (λ (q : Opening). q.need) same)) (sym (ap (λ (q : Opening). q.x) same))
opened_by c _ rest o none is = absurd (let never : None ≡ Some o = rw none at is in cc)

cond_none : {A : Type 0} (b : Bool) (o : Option A) → b ≡ true → cond b o None ≡ None → o ≡ None
cond_none b o b1 h = grind (arith, nat_tests)

no_cell : (f : Cells) (p n : ℕ) (o : Option Cell) → f p ≡ o → stretch f p n ≡ None → f p ≡ None
unfolding stretch
no_cell f p n o is none = grind (arith, nat_tests)

-- what isn't held of a lost one, for the one that goes on with it, hasn't come
not_held : (c n p : ℕ) (v : Representation) → v.is_lost ≡ true → v.alone ≡ Some c → held_of_lost c p n (Some v) ≡ None → v.body p ≡ None
not_held c n p v loss_acts alone none =
    no_cell v.body p _ (v.body p) refl
    (cond_none (v.is_lost && is_number v.alone c) (stretch_to v.body v.reach p n) (and_true v.is_lost _ loss_acts (is_same v.alone c alone)) none)

-- of what it is the exclusive writer of, what isn't stored or held hasn't come
pub not_come : (t : Tables) (r c hi n : ℕ) (v : Representation) (k : Consumer) → Sound t → IsAtHole t r c hi v k →
    held_of_lost c (offset t k) n (Some v) ≡ None → IsExclusiveWriter t r v c → v.body (offset t k) ≡ None
not_come t r c hi n v k s at none (sound.first kept is) = sym ((s.rows r v at.row).store.all_stored kept (offset t k)) ∙ at.missing
not_come t r c hi n v k s at none (sound.alone loss_acts is) = not_held c n (offset t k) v loss_acts is none

-- where the aim of a poll is
aim_row : (t : Tables) (c : ℕ) (k : Consumer) → t.consumer c ≡ Some k → aim_of t (t.consumer c) ≡ aim_from t k.request.key k.place
aim_row t c k is = rw is refl

aim_bound : (t : Tables) (r c : ℕ) (k : Consumer) (place : Place) → sound.IsBound t r c k → aim_from t k.request.key k.place ≡ Some r
aim_bound t r c k place (sound.is_bound lo hi how is at) = rw at refl

-- THE PREMISES

module _ (t : Tables) (c : ℕ) (k : Consumer) (s : Sound t) (is_row : t.consumer c ≡ Some k) where
  hole_absent_at : (from to r p : ℕ) (v : Representation) → OpensHole t c k from to → aim_of t (t.consumer c) ≡ Some r → t.representation r ≡ Some v →
      from ≤ p → p < to → v.body p ≡ None
  hole_absent_at from to r p v (tree.first q u span hole is aims row nobody found from_is to_is) aim at le lt =
      let same : q ≡ r = some_inj q r (sym aims ∙ (sym (aim_row t c k is_row) ∙ aim)) in
      let there : t.representation r ≡ Some u = ap t.representation (sym same) ∙ row in
      let one : u ≡ v = same_row (t.representation r) u v there at in
      let lo : hole.lo ≤ p = omega arith in
      let hi : p < hole.hi = omega arith in
      ap (λ (w : Representation). w.body p) (sym one) ∙ first_absent t q u span hole s row (current_stays t k.request.key q u is row) found p lo hi
  hole_absent_at from to r p v (tree.later q hi n u at_hole none from_is to_is) aim at le lt =
      let same : q ≡ r = some_inj q r (sym (aim_bound t q c k k.place at_hole.is_reader) ∙ (sym (aim_row t c k is_row) ∙ aim)) in
      let there : t.representation r ≡ Some u = ap t.representation (sym same) ∙ at_hole.row in
      let one : u ≡ v = same_row (t.representation r) u v there at in
      ap (λ (w : Representation). w.body p) (sym one) ∙
      later_absent t q c hi u k s at_hole (not_come t q c hi n u k s at_hole none (has_exclusive_writer t q c hi u k s at_hole)) p
      (let a : from ≡ offset t k = from_is in omega arith) (rw to_is at lt)

  hole_alone_at : (from to r y : ℕ) → OpensHole t c k from to → aim_of t (t.consumer c) ≡ Some r → IsAbout t r y → ⊥
  hole_alone_at from to r y (tree.first q u span hole is aims row nobody found from_is to_is) aim about =
      let same : r ≡ q = some_inj r q (sym aim ∙ (aim_row t c k is_row ∙ aims)) in
      none_about t q y u s row nobody (subst (λ (z : ℕ). IsAbout t z y) same about)
  hole_alone_at from to r y (tree.later q hi n u at_hole none from_is to_is) aim about =
      let same : r ≡ q = some_inj r q (sym aim ∙ (aim_row t c k is_row ∙ aim_bound t q c k k.place at_hole.is_reader)) in
      none_about_hole t q c hi y u k s at_hole (subst (λ (z : ℕ). IsAbout t z y) same about)

-- THE POLL

record Opened (t : Tables) (c : ℕ) (k : Consumer) (o : Opening) : Type 0 where
  at : o.c ≡ c
  why : (from to : ℕ) → o.need ≡ need.Hole from to → OpensHole t c k from to
  next : o.x ≡ t.opened + 1

opened_why : (t : Tables) (c : ℕ) (k : Consumer) (o : Opening) (m : Move) → FineMove t c k m → IsOpenedBy c o m → Opened t c k o
opened_why t c k o _ (tree.opens x n request is_next why) (opens _ _ _ at needs number) =
    record { at = at; why = λ from to is. why from to (sym needs ∙ is); next = number ∙ is_next }
opened_why t c k o _ _ by = elim by [ ]

abbrev poll_entry : Limits → Tables → ℕ → ℕ → ℕ → Flaw → Entry
poll_entry limits t now c want flaw = record { now = now; event = event.Poll c want; acts = accepted_acts limits t now (event.Poll c want) flaw }

module _ (limits : Limits) (t : Tables) (now c want : ℕ) (k : Consumer) (s : Sound t) (is_row : t.consumer c ≡ Some k) where
  by_move : (o : Opening) (rest : List Act) → opening_in rest ≡ None → opening_in (acts_of c (poll_move t now want c (t.consumer c)) ++ rest) ≡ Some o →
      Opened t c k o
  by_move o rest none is =
      opened_why t c k o (poll_move t now want c (Some k)) (fine_polled t c k s is_row now want)
      (opened_by c (poll_move t now want c (Some k)) rest o none (rw is_row at is))

  by_poll : (flaw : Flaw) (xs : List ℕ) (o : Opening) → opening_in (poll_acts t now want c flaw ++ (map act.Close xs ++ loss_acts flaw)) ≡ Some o →
      Opened t c k o
  by_poll NoFlaw xs o is = by_move o (map act.Close xs ++ []) (closes_open_none xs [] refl) is
  by_poll (Loses r kind) xs o is = by_move o (map act.Close xs ++ loss_acts (Loses r kind)) (closes_open_none xs (loss_acts (Loses r kind)) refl) is
  by_poll (Misreads r) xs o is = absurd (let never : None ≡ Some o = rw (closes_open_none xs [] refl) at is in cc)

  in_hole : (o : Opening) (r p : ℕ) (v : Representation) → Opened t c k o → aim_of t (t.consumer c) ≡ Some r → t.representation r ≡ Some v → (n : Need) →
      o.need ≡ n → InHole n p → v.body p ≡ None
  in_hole o r p v opened aim at (need.Hole from to) is hole = hole_absent_at t c k s is_row from to r p v (opened.why from to is) aim at hole.0 hole.1
  in_hole o r p v opened aim at _ is hole = absurd hole

  aim_at : (o : Opening) (r : ℕ) → Opened t c k o → aim_of t (t.consumer o.c) ≡ Some r → aim_of t (t.consumer c) ≡ Some r
  aim_at o r opened aim = ap (λ d. aim_of t (t.consumer d)) (sym opened.at) ∙ aim

  abbrev closed : Flaw → List ℕ
  closed flaw = closing t (record { now = now; event = event.Poll c want; acts = poll_acts t now want c flaw ++ loss_acts flaw })

  poll_well : (flaw : Flaw) → OpensWell t (poll_entry limits t now c want flaw)
  poll_well flaw = record {
    absent = λ o r v p is aim at hole. let opened = by_poll flaw (closed flaw) o is in in_hole o r p v opened (aim_at o r opened aim) at o.need refl hole;
    alone = λ o r from to y is aim needs about. let opened = by_poll flaw (closed flaw) o is in
        hole_alone_at t c k s is_row from to r y (opened.why from to needs) (aim_at o r opened aim) about;
  }

  -- what a poll opens has the next number
  pub poll_opens_next : (flaw : Flaw) (o : Opening) → opening_in (accepted_acts limits t now (event.Poll c want) flaw) ≡ Some o → o.x ≡ t.opened + 1
  poll_opens_next flaw o is = (by_poll flaw (closed flaw) o is).next

  -- A poll keeps what open exchanges are still to bring absent, and one of them at most about each representation.
  pub poll_waits : (flaw : Flaw) → StillWaits (after_accepted t (poll_entry limits t now c want flaw))
  poll_waits flaw = waits_kept t (poll_entry limits t now c want flaw) s refl (poll_well flaw)

  pub poll_one_about : (flaw : Flaw) → OneAbout (after_accepted t (poll_entry limits t now c want flaw))
  poll_one_about flaw = one_about_kept t (poll_entry limits t now c want flaw) s refl (poll_well flaw)
