-- What has come of a body stays.
use Rattle.std.{proofs.{Common.{◌≡◌, ℕ, ◌+◌, List, length, Bool, true, false, cond, Option, Some, None, refl, ap, sym, ◌∙◌, arith}, lemmas.Bool.Decides.{nat_tests}}, specs.Prelude.{nat_eq}}
use Rattle.hc_text.proofs.Basics.{same_some as same_row}
use Rattle.hc_event.specs.declared.event.Event.TheVariants as event
use Rattle.hc_effects.proofs.Vocabulary.{Response, Act, denial, Event, Limits, Flaw, accepted_acts, Entry, front, family, Tables, Exchange, Representation, Sound, after_accepted}
use Rattle.hc_sparse.specs.Cells.{Cells, Cell, cells_with, AreAbsent}
use Rattle.hc_rules.specs.Refusals as refusals
use Rattle.hc_model.specs.Laws.{BodiesAreKept}
use Rattle.hc_effects.proofs.{Once.{delivers_once, never}, PieceKeeps.{was_representation, of_piece}, QuietKeeps.{is_quiet, is_kept}, HeadKeeps.{RepRow, rep_row, of_head}}
use Rattle.hc_effects.proofs.HeadKeeps as head

-- a cell that was there stays, where what is written was absent
pub stays_written : (at x p : ℕ) (bytes : List ℕ) (f : Cells) (cell : Cell) → AreAbsent f at (at + length bytes) → f p ≡ Some cell →
    cells_with at x bytes f p ≡ Some cell
stays_written at x p bytes f cell absent there = grind (arith, nat_tests)

stays_cond : (b : Bool) (at x p : ℕ) (bytes : List ℕ) (f : Cells) (cell : Cell) → (b ≡ true → AreAbsent f at (at + length bytes)) → f p ≡ Some cell →
    (cond b (cells_with at x bytes f) f) p ≡ Some cell
stays_cond true at x p bytes f cell absent there = stays_written at x p bytes f cell (absent refl) there
stays_cond false at x p bytes f cell absent there = there

-- the body of a representation before and after an entry
abbrev Stays : Tables → Entry → Type 0
Stays t e = (r p : ℕ) (cell : Cell) (v u : Representation) → t.representation r ≡ Some v → (after_accepted t e).representation r ≡ Some u →
    v.body p ≡ Some cell → u.body p ≡ Some cell

abbrev entry : Limits → Tables → ℕ → Event → Flaw → Entry
entry limits t now event flaw = record { now = now; event = event; acts = accepted_acts limits t now event flaw }

pub quiet_stays : (t : Tables) (e : Entry) → is_quiet e.event ≡ true → Stays t e
quiet_stays t e quiet r p cell v u row now there =
    let kept = is_kept t e r (t.representation r) u refl quiet now in
    let same = same_row (t.representation r) kept.v v kept.row row in
    ap (λ (f : Cells). f p) (kept.body_is ∙ ap (λ (z : Representation). z.body) same) ∙ there

pub head_stays : (t : Tables) (now x : ℕ) (response : Response) (acts : List Act) → Stays t (of_head now x response acts)
head_stays t now x response acts r p cell v u row at there = by_row (rep_row t now x r response acts (t.representation r) u refl at)
  where
    by_row : RepRow t x r u → u.body p ≡ Some cell
    by_row (head.kept kept) =
        ap (λ (f : Cells). f p) (kept.body_is ∙ ap (λ (z : Representation). z.body) (same_row (t.representation r) kept.v v kept.row row)) ∙ there
    by_row (head.founded is none empty) = absurd (let never : None ≡ Some v = sym none ∙ row in cc)

pub piece_stays : (t : Tables) (now x : ℕ) (bytes : List ℕ) (acts : List Act) (w : Exchange) → Sound t → t.exchange x ≡ Some w →
    denial t (event.Piece x bytes) ≡ None → Stays t (of_piece now x bytes acts)
piece_stays t now x bytes acts w s is accepted_acts r p cell v u row at there =
    let rep = was_representation t now x r bytes acts (t.representation r) u refl at in
    let same = same_row (t.representation r) rep.v v rep.row row in
    let before : rep.v.body p ≡ Some cell = ap (λ (z : Representation). z.body p) same ∙ there in
    ap (λ (f : Cells). f p) (rep.body_is w is) ∙ stays_cond (nat_eq (family x w) r) (front w) x p bytes rep.v.body cell (λ b.
    let fam : family x w ≡ r = grind (arith, nat_tests) in
    delivers_once t s x bytes w rep.v accepted_acts is (ap t.representation fam ∙ rep.row)) before

piece_by : (t : Tables) (now x : ℕ) (bytes : List ℕ) (acts : List Act) (o : Option Exchange) → Sound t → t.exchange x ≡ o →
    denial t (event.Piece x bytes) ≡ None → Stays t (of_piece now x bytes acts)
unfolding refusals.refusal_of
piece_by t now x bytes acts None s is goes = absurd (never _ (rw is at goes))
piece_by t now x bytes acts (Some w) s is goes = piece_stays t now x bytes acts w s is goes

pub bodies_are_kept : BodiesAreKept
bodies_are_kept limits t now flaw s (event.Head x response) goes = head_stays t now x response (accepted_acts limits t now (event.Head x response) flaw)
bodies_are_kept limits t now flaw s (event.Piece x bytes) goes =
    piece_by t now x bytes (accepted_acts limits t now (event.Piece x bytes) flaw) (t.exchange x) s refl goes
bodies_are_kept limits t now flaw s ev goes = quiet_stays t (entry limits t now ev flaw) refl
