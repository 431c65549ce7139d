-- All that came of a representation is stored until it is lost, and what is stored came.
--
-- An event leaves a row as it is, or adds a piece of its family (`heard`). A piece comes where nothing was, and is
-- stored too where nothing is lost; so body and store agree (`piece_kept`, `written_beside`). Where a write is lost
-- nothing is stored any more, and the row goes (`acted_stored`, `loss_goes`). What is founded has nothing yet
-- (`founded_stored`). `after_stored` joins these.
use Rattle.std.{proofs.{Common.{◌≡◌, inl, inr, ℕ, ◌+◌, ◌≤◌, List, length, Bool, true, false, cond, Option, Some, None, refl, ap, sym, ◌∙◌, subst, arith, max}, lemmas.Bool.Decides.{nat_tests}}, specs.Prelude.{◌&&◌, ◌||◌, not, ◌==◌, nat_eq, is_some, if◌then◌else◌, option_map}}
use Rattle.hc_text.proofs.Basics.{bool_cases, or_cases as lost_or, or_left, or_right, some_inj}
use Rattle.hc_effects.proofs.Vocabulary.{Event, loses_in, accepted_acts, denial, Entry, family, front, becomes_gone, representation_after, representation_heard, representation_acted, founded_at, new_representation, representation_after_head, with_renewed_head, updates, representation_after_piece, with_stored_bytes, with_total_if_none, length_in, Tables, Exchange, Representation, Sound, IsStored}
use Rattle.hc_event.specs.declared.event.Event.TheVariants as event
use Rattle.hc_sparse.specs.Cells.{Cells, Cell, EndsBy, AreAbsent, cells_with}
use Rattle.hc_sparse.proofs.CellLemmas.{inside-cases, inside-past, inside-yes}
use Rattle.hc_model.specs.Laws.{StoresAreKept}
use Rattle.hc_effects.proofs.{Basics.{or_false}, Once.{delivers_once}, CurrentKeeps.{heard_same}}
use Rattle.hc_laws.proofs.RepresentationFilters.{written_at}

-- WHAT AN EVENT LEAVES OF A ROW

record IsStill (v u : Representation) : Type 0 where
  body_is : u.body ≡ v.body
  stored_is : u.stored ≡ v.stored
  reach_is : u.reach ≡ v.reach
  lost_is : u.is_lost ≡ v.is_lost
  alone_is : u.alone ≡ v.alone

still : (v : Representation) → IsStill v v
still v = record { body_is = refl; stored_is = refl; reach_is = refl; lost_is = refl; alone_is = refl }

still_if : (b : Bool) (v u : Representation) → IsStill v u → IsStill v (cond b u v)
still_if true v u is = is
still_if false v u is = still v

abbrev keeps : Entry → ℕ → Representation → Bool
keeps e r v = not (v.is_lost || loses_in r e.acts)

-- the row is as it was, or has a piece of its family more
data IsHeard (t : Tables) (e : Entry) (r : ℕ) (v u : Representation) : Type 0 where
  quiet : IsStill v u → IsHeard t e r v u
  piece : (x : ℕ) (bytes : List ℕ) (w : Exchange) → e.event ≡ event.Piece x bytes → t.exchange x ≡ Some w → family x w ≡ r →
      u ≡ with_stored_bytes (keeps e r v) (front w) x bytes v → IsHeard t e r v u

heard_piece : (t : Tables) (e : Entry) (r x : ℕ) (bytes : List ℕ) (o : Option Exchange) (v : Representation) → e.event ≡ event.Piece x bytes →
    t.exchange x ≡ o → IsHeard t e r v (representation_after_piece e r x bytes o v)
heard_piece t e r x bytes None v at row = quiet (still v)
heard_piece t e r x bytes (Some w) v at row = elim (bool_cases (family x w == r)) [
  | inl here ↦ rw here (piece x bytes w at row (let test : nat_eq (family x w) r ≡ true = here in grind (arith, nat_tests)) refl)
  | inr other ↦ rw other (quiet (still v))
]

heard : (t : Tables) (e : Entry) (r : ℕ) (ev : Event) (v : Representation) → e.event ≡ ev → IsHeard t e r v (representation_heard t e r ev v)
heard t e r (event.Head x response) v at = quiet (by_row (t.exchange x))
  where
    by_row : (o : Option Exchange) → IsStill v (representation_after_head t e r x response o v)
    by_row None = still v
    by_row (Some w) = still_if (updates t e r w v) v (with_renewed_head t e x response w v)
        (record { body_is = refl; stored_is = refl; reach_is = refl; lost_is = refl; alone_is = refl })
heard t e r (event.Piece x bytes) v at = heard_piece t e r x bytes (t.exchange x) v at refl
heard t e r (event.End x) v at =
    quiet (still_if (x == r) v (with_total_if_none (length_in (t.exchange x)) v)
    (record { body_is = refl; stored_is = refl; reach_is = refl; lost_is = refl; alone_is = refl }))
heard t e r _ v at = quiet (still v)

-- WHAT IS STORED

-- what holds of body and store while nothing is said of losses
record IsKept (v u : Representation) (lost : Bool) : Type 0 where
  ends : EndsBy u.reach u.body
  all : lost ≡ false → (p : ℕ) → u.stored p ≡ u.body p
  some : (p : ℕ) → is_some (u.stored p) ≡ true → u.stored p ≡ u.body p

quiet_kept : (v u : Representation) (loses : Bool) → IsStored v → IsStill v u → IsKept v u (loses || v.is_lost)
quiet_kept v u loses s is = record {
  ends = λ p le. ap (λ (f : Cells). f p) is.body_is ∙ s.ends p (subst (λ n. n ≤ p) is.reach_is le);
  all = λ h p. ap (λ (f : Cells). f p) is.stored_is ∙ (s.all_stored ((or_false loses v.is_lost h).1) p ∙ sym (ap (λ (f : Cells). f p) is.body_is));
  some = λ p there. ap (λ (f : Cells). f p) is.stored_is ∙
      (s.some_stored p (subst (λ (f : Cells). is_some (f p) ≡ true) is.stored_is there) ∙ sym (ap (λ (f : Cells). f p) is.body_is));
}

-- the same written over what is the same there
written_same : (at x p : ℕ) (bytes : List ℕ) (f g : Cells) → (is_some (f p) ≡ true → f p ≡ g p) → is_some (cells_with at x bytes f p) ≡ true →
    cells_with at x bytes f p ≡ cells_with at x bytes g p
written_same at x p bytes f g old there = elim (inside-cases at (length bytes) p) [
  | inl here ↦ let yes = inside-yes at (length bytes) p here.1 here.2 in rw yes refl
  | inr off ↦ rw off.0 (old (rw off.0 at there))
]

-- what wasn't there is written beside what was
written_beside : (at x p : ℕ) (bytes : List ℕ) (f g : Cells) → AreAbsent g at (at + length bytes) → (is_some (f p) ≡ true → f p ≡ g p) →
    is_some (f p) ≡ true → f p ≡ cells_with at x bytes g p
written_beside at x p bytes f g absent old there = elim (inside-cases at (length bytes) p) [
  | inl here ↦ absurd (let gone : f p ≡ None = old there ∙ absent p here.1 here.2 in let no : false ≡ true =
      sym (ap (λ (o : Option Cell). is_some o) gone) ∙ there in cc)
  | inr off ↦ rw off.0 (old there)
]

piece_kept : (v : Representation) (loses : Bool) (at x : ℕ) (bytes : List ℕ) → IsStored v → AreAbsent v.body at (at + length bytes) →
    IsKept v (with_stored_bytes (not (v.is_lost || loses)) at x bytes v) (loses || v.is_lost)
piece_kept v loses at x bytes s absent = by_loss (v.is_lost || loses) refl
  where
    ends_by : EndsBy (max v.reach (at + length bytes)) (cells_with at x bytes v.body)
    ends_by p le =
        let here : at + length bytes ≤ p = omega arith in
        let before : v.reach ≤ p = omega arith in
        rw (inside-past at (length bytes) p here) (s.ends p before)

    parts : (a b : Bool) → (a || b) ≡ false → (b || a) ≡ false
    parts false false h = refl
    parts _ _ h = cc

    by_loss : (b : Bool) → (v.is_lost || loses) ≡ b → IsKept v (with_stored_bytes (not b) at x bytes v) (loses || v.is_lost)
    by_loss false is = record {
      ends = ends_by;
      all = λ h p. written_at at x p bytes v.stored v.body (s.all_stored ((or_false v.is_lost loses is).0) p);
      some = λ p there. written_same at x p bytes v.stored v.body (s.some_stored p) there;
    }
    by_loss true is = record {
      ends = ends_by;
      all = λ h p. absurd (let no : (v.is_lost || loses) ≡ false = parts loses v.is_lost h in let never : true ≡ false = sym is ∙ no in cc);
      some = λ p there. written_beside at x p bytes v.stored v.body absent (s.some_stored p) there;
    }

-- THE ROW AFTER AN ENTRY

loss_goes : (t : Tables) (e : Entry) (r : ℕ) (v : Representation) → loses_in r e.acts ≡ true → becomes_gone t e r v ≡ true
unfolding becomes_gone
loss_goes t e r v lost = or_left _ _ (or_left _ _ (or_left _ _ (or_right _ _ lost)))

alone_if : (b : Bool) (l : Bool) (x o : Option ℕ) → b ≡ false → (if b && l then x else o) ≡ o
alone_if true l x o h = absurd (let never : true ≡ false = h in cc)
alone_if false l x o h = refl

-- a heard row, in what its losses need
record IsPlain (v u : Representation) : Type 0 where
  lost_is : u.is_lost ≡ v.is_lost
  alone_is : u.alone ≡ v.alone

plain_of : (t : Tables) (e : Entry) (r : ℕ) (v u : Representation) → IsHeard t e r v u → IsPlain v u
plain_of t e r v u (quiet is) = record { lost_is = is.lost_is; alone_is = is.alone_is }
plain_of t e r v u (piece x bytes w at row of_r is) =
    record { lost_is = ap (λ (z : Representation). z.is_lost) is; alone_is = ap (λ (z : Representation). z.alone) is }

acted_stored : (t : Tables) (e : Entry) (r : ℕ) (v u : Representation) → IsStored v → u.is_gone ≡ v.is_gone → IsPlain v u →
    IsKept v u (loses_in r e.acts || v.is_lost) → IsStored (representation_acted t e r v u)
acted_stored t e r v u s gone_is plain kept =
    let same : (loses_in r e.acts || u.is_lost) ≡ (loses_in r e.acts || v.is_lost) = ap (λ b. loses_in r e.acts || b) plain.lost_is in
    record {
      ends = kept.ends;
      lost_is_gone = λ h. elim (lost_or (loses_in r e.acts) v.is_lost (sym same ∙ h)) [
        | inl now ↦ or_left (becomes_gone t e r v) u.is_gone (loss_goes t e r v now)
        | inr before ↦ or_right (becomes_gone t e r v) u.is_gone (gone_is ∙ s.lost_is_gone before)
      ];
      all_stored = λ h p. kept.all (sym same ∙ h) p;
      some_stored = kept.some;
      nobody_alone = λ h.
          let parts = or_false (loses_in r e.acts) v.is_lost (sym same ∙ h) in
          alone_if (loses_in r e.acts) (not v.is_lost) _ u.alone parts.0 ∙ (plain.alone_is ∙ s.nobody_alone parts.1);
    }

kept_of : (t : Tables) (e : Entry) (r : ℕ) (v u : Representation) → Sound t → denial t e.event ≡ None → t.representation r ≡ Some v → IsStored v →
    IsHeard t e r v u → IsKept v u (loses_in r e.acts || v.is_lost)
kept_of t e r v u s goes row store (quiet is) = quiet_kept v u (loses_in r e.acts) store is
kept_of t e r v u s goes row store (piece x bytes w at row_x of_r is) =
    let absent = delivers_once t s x bytes w v (sym (ap (denial t) at) ∙ goes) row_x (ap t.representation of_r ∙ row) in
    subst (λ (z : Representation). IsKept v z (loses_in r e.acts || v.is_lost)) (sym is) (piece_kept v (loses_in r e.acts) (front w) x bytes store absent)

-- what is founded has nothing yet
founded_stored : (t : Tables) (e : Entry) (r : ℕ) (ev : Event) (u : Representation) → founded_at t e r ev ≡ Some u → IsStored u
founded_stored t e r (event.Head x response) u h = by_test _ (t.exchange x) h
  where
    by_test : (b : Bool) (o : Option Exchange) → (if b then option_map (new_representation r e response) o else None) ≡ Some u → IsStored u
    by_test true (Some w) h = subst IsStored (some_inj (new_representation r e response w) u h) (record {
      ends = λ p le. refl;
      lost_is_gone = λ h. absurd (let never : false ≡ true = h in cc);
      all_stored = λ h p. refl;
      some_stored = λ p h. refl;
      nobody_alone = λ h. refl;
    })
    by_test _ _ h = cc
founded_stored t e r _ u h = absurd (let never : None ≡ Some u = h in cc)

after_stored : (t : Tables) (e : Entry) (r : ℕ) (o : Option Representation) (u : Representation) → Sound t → denial t e.event ≡ None →
    t.representation r ≡ o → representation_after t e r o ≡ Some u → IsStored u
unfolding representation_after
after_stored t e r None u s goes row h = founded_stored t e r e.event u h
after_stored t e r (Some v) u s goes row h =
    let store = (s.rows r v row).store in
    let z = representation_heard t e r e.event v in
    let is = heard t e r e.event v refl in
    subst IsStored (some_inj (representation_acted t e r v z) u h)
    (acted_stored t e r v z store (heard_same t e r e.event v).gone_is (plain_of t e r v z is) (kept_of t e r v z s goes row store is))

pub stores_are_kept : StoresAreKept
stores_are_kept limits t now flaw s event goes r u h =
    after_stored t (record { now = now; event = event; acts = accepted_acts limits t now event flaw }) r (t.representation r) u s goes refl h
