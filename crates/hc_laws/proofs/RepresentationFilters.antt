-- What a representation has is a filter of the list of entries.
--
-- An event adds a piece at most to a row, and stores it where nothing was lost (`IsHeard`, `heard_row`). The rest is an
-- induction over the run. An accepted entry lays its piece over what was there (`accepted_filtered`), a denied one
-- nothing (`denied_filtered`). Of what isn't founded nothing came, so what is founded begins empty (`unfounded_still`,
-- `founded_filtered`). `runs_are_filtered` adds the other columns.
use Rattle.std.{proofs.{lemmas.{Bool.Decides.{nat_tests}, List.{append-nil}}, Common.{arith, ◌≡◌, ℕ, List, [], ◌∷◌, ◌++◌, Bool, true, false, cond, Option, Some, None, refl, ap, sym, ◌∙◌}}, specs.Prelude.{if◌then◌else◌, ◌==◌, ◌||◌, ◌&&◌, not, is_some, option_map, find}}
use Rattle.hc_effects.proofs.Vocabulary.{is_denied, Event, Response, loses_in, Entry, History, Content, Contents, Tables, Exchange, Representation, representation_after, representation_heard, representation_acted, founded_at, new_representation, representation_after_head, with_renewed_head, updates, representation_after_piece, with_total_if_none, length_in, tables, after, first_tables, representation_of_content, if_accepted, event}
use Rattle.hc_sparse.specs.{Cells.{Cells, nothing, cells_with}, declared.run.Run.{Run}}
use Rattle.hc_model.specs.Histories.{piece_by, piece_in, pieces_of, was_lost, stored_of, over, begun_with, IsFilteredRow, RunsAreFiltered}
use Rattle.hc_effects.proofs.{Owed.{denied_loses}, ReadFilters.{consumers_are_filtered}}
use Rattle.hc_laws.proofs.JoinFilters.{exchanges_are_filtered}

-- WHAT AN EVENT ADDS TO A ROW

over_append : (xs ys : List Run) (f : Cells) → over (xs ++ ys) f ≡ over ys (over xs f)
over_append [] ys f = refl
over_append (run ∷ xs) ys f = over_append xs ys (cells_with run.at run.x run.bytes f)

-- the same over what has the same at each position
pub written_at : (at x q : ℕ) (bytes : List ℕ) (f g : Cells) → f q ≡ g q → cells_with at x bytes f q ≡ cells_with at x bytes g q
written_at at x q bytes f g same = grind (arith, nat_tests)

over_at : (runs : List Run) (f g : Cells) (p : ℕ) → ((q : ℕ) → f q ≡ g q) → over runs f p ≡ over runs g p
over_at runs f g p same = grind (arith, nat_tests)

-- what one event does to a row: it adds these pieces, and stores them where they are kept
record IsHeard (kept : Bool) (runs : List Run) (v u : Representation) : Type 0 where
  body_is : u.body ≡ over runs v.body
  stored_is : u.stored ≡ (if kept then over runs v.stored else v.stored)
  lost_is : u.is_lost ≡ v.is_lost

none_kept : (kept : Bool) (f : Cells) → f ≡ (if kept then over [] f else f)
none_kept kept f = grind (arith, nat_tests)

still : (kept : Bool) (v u : Representation) → u.body ≡ v.body → u.stored ≡ v.stored → u.is_lost ≡ v.is_lost → IsHeard kept [] v u
still kept v u body stored lost = record { body_is = body; stored_is = stored ∙ none_kept kept v.stored; lost_is = lost }

still_if : (b kept : Bool) (v u : Representation) → IsHeard kept [] v u → IsHeard kept [] v (cond b u v)
still_if b kept v u is = grind (arith, nat_tests)

headed_row : (t : Tables) (e : Entry) (r x : ℕ) (response : Response) (kept : Bool) (o : Option Exchange) (v : Representation) →
    IsHeard kept [] v (representation_after_head t e r x response o v)
headed_row t e r x response kept None v = still kept v v refl refl refl
headed_row t e r x response kept (Some w) v =
    still_if (updates t e r w v) kept v (with_renewed_head t e x response w v) (still kept v (with_renewed_head t e x response w v) refl refl refl)

pieced_row : (e : Entry) (r x : ℕ) (bytes : List ℕ) (o : Option Exchange) (v : Representation) →
    IsHeard (not (v.is_lost || loses_in r e.acts)) (piece_by r x bytes o (Some v)) v (representation_after_piece e r x bytes o v)
pieced_row e r x bytes o v = grind (arith, nat_tests)

heard_row : (t : Tables) (e : Entry) (r : ℕ) (v : Representation) (ev : Event) → t.representation r ≡ Some v →
    IsHeard (not (v.is_lost || loses_in r e.acts)) (piece_in t r ev) v (representation_heard t e r ev v)
heard_row t e r v (event.Head x response) row = headed_row t e r x response _ (t.exchange x) v
heard_row t e r v (event.Piece x bytes) row = rw row (pieced_row e r x bytes (t.exchange x) v)
heard_row t e r v (event.End x) row =
    still_if (x == r) _ v (with_total_if_none (length_in (t.exchange x)) v) (still _ v (with_total_if_none (length_in (t.exchange x)) v) refl refl refl)
heard_row t e r v _ row = still _ v v refl refl refl

-- WHAT A ROW HAS

-- of what isn't founded nothing has come
record IsUnfounded (contents : Contents) (r : ℕ) (h : History) : Type 0 where
  pieces : pieces_of contents r h ≡ []
  stored : stored_of contents r h ≡ []
  begun_is : begun_with contents r ≡ nothing
  lost : was_lost contents r h ≡ false

abbrev IsRow : (contents : Contents) (r : ℕ) (h : History) → Option Representation → Type 0
IsRow contents r h None = IsUnfounded contents r h
IsRow contents r h (Some v) = IsFilteredRow contents r h v

module _ (contents : Contents) (r : ℕ) (h : History) (e : Entry) where
  abbrev t : Tables
  t = tables contents h

  none_lost : (b l : Bool) → ((b && false) || l) ≡ l
  none_lost b l = grind (arith, nat_tests)

  either_same : (b : Bool) (xs : List Run) → (if b then xs else xs) ≡ xs
  either_same b xs = grind (arith, nat_tests)

  stored_denied : is_denied e.acts ≡ true → stored_of contents r (e ∷ h) ≡ stored_of contents r h
  stored_denied denied = rw denied (ap (λ (runs : List Run). stored_of contents r h ++ runs) (either_same (was_lost contents r (e ∷ h)) []) ∙
      append-nil (stored_of contents r h))

  stored_lost : was_lost contents r (e ∷ h) ≡ true → stored_of contents r (e ∷ h) ≡ stored_of contents r h
  stored_lost lost = rw lost (append-nil (stored_of contents r h))

  over_same : (xs ys : List Run) (p : ℕ) → xs ≡ ys → over xs (begun_with contents r) p ≡ over ys (begun_with contents r) p
  over_same xs ys p same = ap (λ (runs : List Run). over runs (begun_with contents r) p) same

  -- an entry that is denied adds nothing
  denied_filtered : (v : Representation) → is_denied e.acts ≡ true → IsFilteredRow contents r h v → IsFilteredRow contents r (e ∷ h) v
  denied_filtered v denied row =
      let quiet = denied_loses r e.acts denied in
      record {
        body = λ p. row.body p ∙ sym (over_same (pieces_of contents r (e ∷ h)) (pieces_of contents r h) p (rw denied (append-nil (pieces_of contents r h))));
        stored = λ p. row.stored p ∙ sym (over_same (stored_of contents r (e ∷ h)) (stored_of contents r h) p (stored_denied denied));
        lost = row.lost ∙ sym (rw quiet (none_lost (is_some (t.representation r)) (was_lost contents r h)));
      }

  -- what is stored after an accepted one, where something is lost at it or before
  stored_by : (v : Representation) (a b : Bool) → is_denied e.acts ≡ false → IsFilteredRow contents r h v → was_lost contents r (e ∷ h) ≡ (a || b) →
      (p : ℕ) → (if not (b || a) then over (piece_in t r e.event) v.stored else v.stored) p ≡ over (stored_of contents r (e ∷ h)) (begun_with contents r) p
  stored_by v a b accepted row is p = grind (arith, nat_tests, over_same, stored_lost, over, over_at, over_append)

  -- an accepted one adds its piece, which is stored where nothing of it was lost
  accepted_filtered : (v u : Representation) → is_denied e.acts ≡ false → t.representation r ≡ Some v → IsFilteredRow contents r h v →
      IsHeard (not (v.is_lost || loses_in r e.acts)) (piece_in t r e.event) v u → IsFilteredRow contents r (e ∷ h) (representation_acted t e r v u)
  accepted_filtered v u accepted at row heard =
      let lost_now : was_lost contents r (e ∷ h) ≡ (loses_in r e.acts || v.is_lost) = rw (at, sym row.lost) refl in
      record {
        body = λ p.
            let here : u.body p ≡ over (piece_in t r e.event) v.body p = ap (λ (f : Cells). f p) heard.body_is in
            let added : over (piece_in t r e.event) v.body p ≡ over (piece_in t r e.event) (over (pieces_of contents r h) (begun_with contents r)) p =
            over_at (piece_in t r e.event) v.body (over (pieces_of contents r h) (begun_with contents r)) p row.body in
            let joined : over (pieces_of contents r h ++ piece_in t r e.event) (begun_with contents r) p ≡ over (piece_in t r e.event)
            (over (pieces_of contents r h) (begun_with contents r)) p =
            ap (λ (f : Cells). f p) (over_append (pieces_of contents r h) (piece_in t r e.event) (begun_with contents r)) in
            here ∙ (added ∙ (sym joined ∙
            sym (over_same (pieces_of contents r (e ∷ h)) (pieces_of contents r h ++ piece_in t r e.event) p (rw accepted refl))));
        stored = λ p. ap (λ (f : Cells). f p) heard.stored_is ∙ stored_by v (loses_in r e.acts) v.is_lost accepted row lost_now p;
        lost = ap (λ b. loses_in r e.acts || b) heard.lost_is ∙ sym lost_now;
      }

  -- WHAT ISN'T FOUNDED

  no_piece : t.representation r ≡ None → piece_in t r e.event ≡ []
  no_piece none = by_event e.event
    where
      by_event : (ev : Event) → piece_in t r ev ≡ []
      by_event ev = grind (arith, nat_tests)

  if_same : (b : Bool) (xs : List Run) → xs ≡ [] → (if b then [] else xs) ≡ []
  if_same b xs none = grind (arith, nat_tests)

  accepted_none : t.representation r ≡ None → if_accepted e (piece_in t r e.event) ≡ []
  accepted_none none = if_same (is_denied e.acts) (piece_in t r e.event) (no_piece none)

  unfounded_still : t.representation r ≡ None → IsUnfounded contents r h → IsUnfounded contents r (e ∷ h)
  unfounded_still none row = grind (arith, nat_tests, accepted_none, either_same)

  founded_filtered : (v : Representation) → t.representation r ≡ None → IsUnfounded contents r h → v.body ≡ nothing → v.stored ≡ nothing →
      v.is_lost ≡ false → IsFilteredRow contents r (e ∷ h) v
  founded_filtered v none row body stored lost = grind (arith, nat_tests, unfounded_still, over_same)

-- what is founded is empty
abbrev IsEmpty : Option Representation → Type 0
IsEmpty None = Unit {0}
IsEmpty (Some v) = (v.body ≡ nothing) × (v.stored ≡ nothing) × (v.is_lost ≡ false)

founded_empty : (t : Tables) (e : Entry) (r : ℕ) (ev : Event) → IsEmpty (founded_at t e r ev)
founded_empty t e r (event.Head x response) = by_test _ (t.exchange x)
  where
    by_test : (b : Bool) (o : Option Exchange) → IsEmpty (if b then option_map (new_representation r e response) o else None)
    by_test b o = grind (arith, nat_tests)
founded_empty t e r _ = tt

-- AFTER AN ENTRY

founded_row : (contents : Contents) (r : ℕ) (h : History) (e : Entry) (o : Option Representation) → (tables contents h).representation r ≡ None →
    IsUnfounded contents r h → IsEmpty o → IsRow contents r (e ∷ h) o
founded_row contents r h e None none row empty = unfounded_still contents r h e none row
founded_row contents r h e (Some v) none row empty = founded_filtered contents r h e v none row empty.0 empty.1 empty.2

row_denied : (contents : Contents) (r : ℕ) (h : History) (e : Entry) (o : Option Representation) → (tables contents h).representation r ≡ o →
    is_denied e.acts ≡ true → IsRow contents r h o → IsRow contents r (e ∷ h) o
row_denied contents r h e None at denied row = unfounded_still contents r h e at row
row_denied contents r h e (Some v) at denied row = denied_filtered contents r h e v denied row

row_accepted : (contents : Contents) (r : ℕ) (h : History) (e : Entry) (o : Option Representation) → (tables contents h).representation r ≡ o →
    is_denied e.acts ≡ false → IsRow contents r h o → IsRow contents r (e ∷ h) (representation_after (tables contents h) e r o)
unfolding representation_after
row_accepted contents r h e o at accepted row = grind (arith, nat_tests, founded_row, tables, founded_empty, accepted_filtered, heard_row)

row_after : (contents : Contents) (r : ℕ) (h : History) (e : Entry) (b : Bool) → is_denied e.acts ≡ b →
    IsRow contents r h ((tables contents h).representation r) → IsRow contents r (e ∷ h) ((after (tables contents h) e).representation r)
unfolding after
row_after contents r h e true denied row = rw denied (row_denied contents r h e ((tables contents h).representation r) refl denied row)
row_after contents r h e false denied row = rw denied (row_accepted contents r h e ((tables contents h).representation r) refl denied row)

-- AT THE BEGINNING

begun_row : (contents : Contents) (r : ℕ) (o : Option Content) → (first_tables contents).representation r ≡ option_map representation_of_content o →
    IsRow contents r [] (option_map representation_of_content o)
begun_row contents r o is = grind (arith, nat_tests)

rows_are : (contents : Contents) (h : History) (r : ℕ) → IsRow contents r h ((tables contents h).representation r)
unfolding tables
rows_are contents [] r = begun_row contents r (find (λ (item : Content). item.r == r) contents.items) refl
rows_are contents (e ∷ h) r = row_after contents r h e (is_denied e.acts) refl (rows_are contents h r)

row_is : (contents : Contents) (r : ℕ) (h : History) (o : Option Representation) (v : Representation) → IsRow contents r h o → o ≡ Some v →
    IsFilteredRow contents r h v
row_is contents r h o v row is = grind (arith, nat_tests)

pub runs_are_filtered : RunsAreFiltered
runs_are_filtered limits contents h run = record {
  exchanges = exchanges_are_filtered limits contents h run;
  consumers = consumers_are_filtered limits contents h run;
  representations = λ r v is. row_is contents r h ((tables contents h).representation r) v (rows_are contents h r) is;
}
