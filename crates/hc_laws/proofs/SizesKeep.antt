-- How much is stored stays the count of positions, and no more than an entry may have.
--
-- A count changes by a stored piece alone, of which each position is new (`filled_counts`, `piece_counts`); all other
-- events leave it (`heard_counts`). A size is small as each stored piece fits what an entry may have (`small_by`). Both
-- are carried with the lists of what fits (`IsSized`). At the beginning each item is small (`small_item`), and its
-- count is that of its bytes (`counts_of`). `sized_runs` is the law.
use Rattle.std.{proofs.{Common.{◌≡◌, inl, inr, ℕ, ◌+◌, ◌≤◌, List, [], ◌∷◌, length, Bool, true, false, Option, Some, None, refl, ap, sym, ◌∙◌, subst, arith, max}, lemmas.Bool.Decides.{nat_tests}}, specs.Prelude.{◌||◌, ◌==◌, not, nat_le, find, if◌then◌else◌, option_map}}
use Rattle.hc_text.proofs.Basics.{and_left, and_right, eq_reports as eq_is, not_some as none_some, some_inj}
use Rattle.hc_effects.proofs.Vocabulary.{Event, Response, Limits, loses_in, may_begin, are_good, denial, Entry, Content, Contents, front, family, Flaw, entry_of, OfRunsIn, representation_heard, representation_after_head, with_renewed_head, updates, representation_after_piece, with_stored_bytes, Tables, Exchange, Representation, Sizes, Sound, IsStored, first_tables, representation_of_content, bytes_in, after_accepted, after_denied, event}
use Rattle.hc_sparse.specs.Cells.{AreAbsent, nothing, size_below}
use Rattle.hc_effects.proofs.{LossBy.{IsReal}, Once.{delivers_once}, PieceKeeps.{eq_cases}, RepFrom.{was, founded, RepFrom, rep_from}, Weighed.{sized}, GivenNext.{stored_ends}, Step.{step_of}}
use Rattle.hc_laws.proofs.{FitsKept.{Fits, stored_small}, FitsRuns.{fits_begin, fits_denied, fits_kept}, MeasuresBegin.{ascending_item}, Positions.{below_none, below_past, below_put, bytes_below}, RunFacts.{in_runs}, SoundRuns.{IsCarried}}

-- THE COUNT

abbrev Counts : Representation → Type 0
Counts v = v.size ≡ size_below v.stored v.reach

counts_if : (b : Bool) (v u : Representation) → Counts v → (b ≡ true → Counts u) → Counts (if b then u else v)
counts_if b v u old new = grind (arith, nat_tests)

kept_parts : (lost loses : Bool) → not (lost || loses) ≡ true → lost ≡ false
kept_parts lost loses h = grind (arith, nat_tests)

filled_counts : (b : Bool) (at x : ℕ) (bytes : List ℕ) (v : Representation) → IsStored v → Counts v →
    (b ≡ true → AreAbsent v.stored at (at + length bytes)) → Counts (with_stored_bytes b at x bytes v)
filled_counts true at x bytes v store old absent = ap (λ n. n + length bytes) old ∙
    sym (below_put v.stored at x v.reach bytes (stored_ends v store) (absent refl))
filled_counts false at x bytes v store old absent = old ∙
    sym (below_past v.stored v.reach (max v.reach (at + length bytes)) (stored_ends v store) (omega arith))

module _ (t : Tables) (e : Entry) (s : Sound t) (goes : denial t e.event ≡ None) where
  absent_at : (r x : ℕ) (bytes : List ℕ) (w : Exchange) (v : Representation) → e.event ≡ event.Piece x bytes → t.exchange x ≡ Some w → family x w ≡ r →
      t.representation r ≡ Some v → v.is_lost ≡ false → AreAbsent v.stored (front w) (front w + length bytes)
  absent_at r x bytes w v at row of_r there kept p lo hi = grind (arith, nat_tests, delivers_once)

  piece_counts : (r x : ℕ) (bytes : List ℕ) (o : Option Exchange) (v : Representation) → e.event ≡ event.Piece x bytes → t.exchange x ≡ o →
      t.representation r ≡ Some v → Counts v → Counts (representation_after_piece e r x bytes o v)
  piece_counts r x bytes None v at row there old = old
  piece_counts r x bytes (Some w) v at row there old = counts_if (family x w == r) v _ old (λ of_r.
      filled_counts (not (v.is_lost || loses_in r e.acts)) (front w) x bytes v (s.rows r v there).store old
      (λ kept. absent_at r x bytes w v at row (eq_is (family x w) r of_r) there (kept_parts v.is_lost (loses_in r e.acts) kept)))

  head_counts : (r x : ℕ) (response : Response) (o : Option Exchange) (v : Representation) → Counts v → Counts (representation_after_head t e r x response o v)
  head_counts r x response None v old = old
  head_counts r x response (Some w) v old = counts_if (updates t e r w v) v (with_renewed_head t e x response w v) old (λ _. old)

  heard_counts : (r : ℕ) (ev : Event) (v : Representation) → e.event ≡ ev → t.representation r ≡ Some v → Counts v → Counts (representation_heard t e r ev v)
  heard_counts r ev v at there old = grind (arith, nat_tests, head_counts, piece_counts, counts_if)

  after_counts : (r : ℕ) (u : Representation) → ((v : Representation) → t.representation r ≡ Some v → Counts v) → RepFrom t e r u → Counts u
  after_counts r u old (was v kept) = subst Counts kept.is (heard_counts r e.event v refl kept.row (old v kept.row))
  after_counts r u old (founded response w none at row on is) = subst Counts is (sym (below_none nothing 0 (λ p le. refl)))

-- SIZES

pub record IsSized (limits : Limits) (t : Tables) : Type 0 where
  pub fits : Fits limits t
  pub sizes : Sizes limits t

module _ (limits : Limits) (t : Tables) (now : ℕ) (flaw : Flaw) (c : IsCarried t) (g : IsSized limits t) (ev : Event) (goes : denial t ev ≡ None)
    (real : IsReal limits t now ev flaw) where
  abbrev e : Entry
  e = entry_of limits t now ev flaw

  small_by : (r : ℕ) (u : Representation) → RepFrom t e r u → u.size ≤ limits.max_entry
  small_by r u (was v kept) = elim (sized t e r v u kept) [
    | inl same ↦ let old : v.size ≤ limits.max_entry = g.sizes.small r v kept.row in let is : u.size ≡ v.size = same in omega arith
    | inr with_stored_bytes ↦
        let most : v.size + length with_stored_bytes.bytes ≤ limits.max_entry =
        stored_small (step_of limits t now flaw c.is_sound c.is_owned ev goes) c.is_measured g.fits real r v u kept.row with_stored_bytes in
        omega arith
  ]
  small_by r u (founded response w none at row on is) = let zero_is : 0 ≡ u.size = ap (λ (z : Representation). z.size) is in omega arith

  pub sized_kept : IsSized limits (after_accepted t e)
  sized_kept = record {
    fits = fits_kept (step_of limits t now flaw c.is_sound c.is_owned ev goes) c.is_measured g.fits real;
    sizes = record {
      counted = λ r u row. after_counts t e c.is_sound goes r u (g.sizes.counted r) (rep_from t e r (t.representation r) u refl row);
      small = λ r u row. small_by r u (rep_from t e r (t.representation r) u refl row);
    };
  }

denied_sized : (limits : Limits) (t : Tables) (e : Entry) → IsSized limits t → IsSized limits (after_denied t e)
denied_sized limits t e g = record { fits = fits_denied limits t e g.fits; sizes = record { counted = g.sizes.counted; small = g.sizes.small } }

-- AT THE BEGINNING

abbrev of_number : ℕ → Content → Bool
of_number r item = item.r == r

module _ (limits : Limits) (contents : Contents) where
  small_item : (r : ℕ) (a : Content) (earlier items : List Content) → are_good limits contents earlier items ≡ true → find (of_number r) items ≡ Some a →
      bytes_in a.runs ≤ limits.max_entry
  small_item r a earlier [] good is = absurd (none_some a is)
  small_item r a earlier (item ∷ later) good is = elim (eq_cases item.r r) [
    | inl here ↦
        let test : nat_le (bytes_in item.runs) limits.max_entry ≡ true = and_right _ _ (and_left _ _ (and_left _ _ good)) in
        let fits : bytes_in item.runs ≤ limits.max_entry = grind (arith, nat_tests) in
        let one : bytes_in item.runs ≡ bytes_in a.runs = ap (λ (z : Content). bytes_in z.runs) (some_inj item a (rw here.0 at is)) in
        omega arith
    | inr off ↦ small_item r a (item ∷ earlier) later (and_right _ _ good) (rw off.0 at is)
  ]

  module _ (may : may_begin limits contents ≡ true) where
    good : are_good limits contents [] contents.items ≡ true
    unfolding may_begin
    good = and_left _ _ (and_left _ _ (and_left _ _ (and_left _ _ (and_left _ _ may))))

    counts_of : (r : ℕ) (z : Option Content) (v : Representation) → find (of_number r) contents.items ≡ z →
        option_map representation_of_content z ≡ Some v → Counts v
    counts_of r None v found row = absurd (none_some v row)
    counts_of r (Some item) v found row =
        subst Counts (some_inj (representation_of_content item) v row) (bytes_below 0 0 item.runs (ascending_item limits contents may r item found))

    small_of : (r : ℕ) (z : Option Content) (v : Representation) → find (of_number r) contents.items ≡ z →
        option_map representation_of_content z ≡ Some v → v.size ≤ limits.max_entry
    small_of r z v found row = grind (arith, nat_tests, none_some, some_inj, small_item, good)

    begun_sized : IsSized limits (first_tables contents)
    begun_sized = record {
      fits = fits_begin limits contents may;
      sizes = record {
        counted = λ r v row. counts_of r (find (of_number r) contents.items) v refl row;
        small = λ r v row. small_of r (find (of_number r) contents.items) v refl row;
      };
    }

-- IN RUNS

pub sized_runs : OfRunsIn IsSized
sized_runs = in_runs IsSized (λ limits contents may. begun_sized limits contents may) (λ limits t e later g. denied_sized limits t e g)
    (λ limits t now flaw later c g ev goes real. sized_kept limits t now flaw c g ev goes real)

pub sizes_in_runs : OfRunsIn Sizes
sizes_in_runs limits contents h may run = (sized_runs limits contents h may run).sizes
