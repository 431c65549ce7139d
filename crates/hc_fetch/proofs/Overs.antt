-- What was gathered stays where more that agrees with it is gathered, and what is written is read off from it.
--
-- A byte that was gathered is the same in all that is gathered over it (`over_all`), so bytes without a gap are the
-- same there (`bytes_same`). No byte is gathered at or behind `given_end` (`given_below`). So where all up to some
-- position is gathered, and nothing there, what is written are the bytes up to it (`written_is`).
use Rattle.std.{proofs.{Common.{◌≡◌, inl, inr, ℕ, zero, suc, ◌+◌, ◌-◌, ◌<◌, ◌≤◌, max, List, [], ◌∷◌, ◌++◌, length, Bool, Option, Some, None, refl, ap, sym, ◌∙◌, subst, arith}, lemmas.List.{append-nil}}, specs.Prelude.{is_some, if◌then◌else◌, slice_index}}
use Rattle.hc_text.proofs.Basics.{not_some as none_some}
use Rattle.hc_sparse.specs.Cells.{Cells, Cell, Covers, cells_with}
use Rattle.hc_sparse.proofs.CellLemmas.{inside-cases}
use Rattle.hc_effects.proofs.Vocabulary.{Act, Entry, History, act}
use Rattle.hc_effects.proofs.Basics.{some_row}
use Rattle.hc_fetch.specs.{Ahead.{KeepsAll, Appends, Ahead}, Gathering.{byte_before, bytes_on, gathered, gathered_in, given_end, given_end_in, written_of}, Hearing.{AllFit}}
use Rattle.hc_fetch.proofs.Aheads.{byte_over, bytes_join}

-- a byte that is somewhere is there too
abbrev pub AreOver : Cells → Cells → Type 0
AreOver f g = (p byte y : ℕ) → f p ≡ Some (record { byte = byte; x = y }) → (z : ℕ) × (g p ≡ Some (record { byte = byte; x = z }))

pub over_all : (acts : List Act) (g : Cells) → AllFit acts g → AreOver g (gathered_in acts g)
over_all [] g fit p byte y is = (y, is)
over_all (act.Given c x at bytes ∷ acts) g fit p byte y is =
    let one = byte_over g at x bytes fit.0 p byte y is in
    over_all acts (cells_with at x bytes g) fit.1 p byte one.0 one.1
over_all (a ∷ acts) g fit p byte y is = over_all acts g fit p byte y is

pub bytes_same : (f g : Cells) (p n : ℕ) → AreOver f g → Covers f p (p + n) → bytes_on f p n ≡ bytes_on g p n
bytes_same f g p zero over covers = refl
bytes_same f g p (suc n) over covers =
    let here = some_row (f p) (covers p (omega arith) (omega arith)) in
    let there = over p here.0.byte here.0.x here.1 in
    let rest = bytes_same f g (p + 1) n over (λ q low high. covers q (omega arith) (omega arith)) in
    ap (λ (q : Option Cell). byte_before q (bytes_on f (p + 1) n)) here.1
    ∙ (ap (λ (l : List ℕ). here.0.byte ∷ l) rest ∙ ap (λ (q : Option Cell). byte_before q (bytes_on g (p + 1) n)) (sym there.1))

pub covers_same : (f g : Cells) (lo hi : ℕ) → AreOver f g → Covers f lo hi → Covers g lo hi
covers_same f g lo hi over covers p low high =
    let here = some_row (f p) (covers p low high) in
    let there = over p here.0.byte here.0.x here.1 in
    ap is_some there.1

pub appends_over : (acts : List Act) (g : Cells) (from to : ℕ) (before after : List ℕ) → AllFit acts g → Appends g from to before after →
    Appends (gathered_in acts g) from to before after
appends_over acts g from to before after fit a =
    let over = over_all acts g fit in
    record {
      count = a.count;
      up_to = a.up_to;
      covers = covers_same g (gathered_in acts g) from to over a.covers;
      text = a.text ∙ ap (λ (l : List ℕ). before ++ l) (bytes_same g (gathered_in acts g) from a.count over (subst (Covers g from) (sym a.up_to) a.covers));
    }

-- WHERE IT ENDS

abbrev EndBy : Cells → ℕ → Type 0
EndBy g n = (p : ℕ) (cell : Cell) → g p ≡ Some cell → p < n

given_below_in : (acts : List Act) (g : Cells) (n : ℕ) → EndBy g n → EndBy (gathered_in acts g) (max (given_end_in acts) n)
given_below_in [] g n ends p cell is = let less = ends p cell is in omega (arith, less)
given_below_in (act.Given c x at bytes ∷ acts) g n ends p cell is =
    let less = given_below_in acts (cells_with at x bytes g) (max (at + length bytes) n) new p cell is in
    omega (arith, less)
  where
    new : EndBy (cells_with at x bytes g) (max (at + length bytes) n)
    new p cell is = elim (inside-cases at (length bytes) p) [
      | inl here ↦ let high = here.2 in omega (arith, high)
      | inr off ↦ let less = ends p cell (sym (ap (λ (b : Bool). if b then Some (record { byte = slice_index bytes (p - at); x = x }) else g p) off.0) ∙
          is) in omega (arith, less)
    ]
given_below_in (a ∷ acts) g n ends p cell is = given_below_in acts g n ends p cell is

pub given_below : (f : History) → EndBy (gathered f) (given_end f)
given_below [] p cell is = absurd (none_some cell is)
given_below (e ∷ f) p cell is = given_below_in e.acts (gathered f) (given_end f) (given_below f) p cell is

none_on : (g : Cells) (p n : ℕ) → g p ≡ None → bytes_on g p n ≡ []
none_on g p zero none = refl
none_on g p (suc n) none = ap (λ (q : Option Cell). byte_before q (bytes_on g (p + 1) n)) none

bytes_stop : (g : Cells) (p k n : ℕ) → Covers g p (p + k) → g (p + k) ≡ None → k ≤ n → bytes_on g p n ≡ bytes_on g p k
bytes_stop g p k n covers none le =
    let count : k + (n - k) ≡ n = omega arith in
    ap (bytes_on g p) (sym count)
    ∙ (bytes_join g p k (n - k) covers ∙ (ap (λ (l : List ℕ). bytes_on g p k ++ l) (none_on g (p + k) (n - k) none) ∙ append-nil (bytes_on g p k)))

pub covered_long : (g : Cells) (p n : ℕ) → Covers g p (p + n) → length (bytes_on g p n) ≡ n
covered_long g p zero covers = refl
covered_long g p (suc n) covers =
    let here = some_row (g p) (covers p (omega arith) (omega arith)) in
    let rest = covered_long g (p + 1) n (λ q low high. covers q (omega arith) (omega arith)) in
    ap (λ (q : Option Cell). length (byte_before q (bytes_on g (p + 1) n))) here.1 ∙ ap suc rest

-- WHAT IS WRITTEN

some_covered : (g : Cells) (w n : ℕ) → Covers g 0 w → EndBy g n → w ≤ n
some_covered g zero n covers ends = omega arith
some_covered g (suc w) n covers ends =
    let here = some_row (g w) (covers w (omega arith) (omega arith)) in
    let less = ends w here.0 here.1 in
    omega (arith, less)

module _ (ahead : Ahead) (w : ℕ) (f : History) (k : KeepsAll ahead w (gathered f)) where
  from_zero : Covers (gathered f) 0 (0 + w)
  from_zero = let place : w ≡ 0 + w = omega arith in subst (Covers (gathered f) 0) place k.keeps.covers

  pub written_is : written_of f ≡ bytes_on (gathered f) 0 w
  unfolding written_of
  written_is =
      let place : w ≡ 0 + w = omega arith in
      bytes_stop (gathered f) 0 w (given_end f) from_zero (subst (λ (p : ℕ). gathered f p ≡ None) place k.stops)
      (some_covered (gathered f) w (given_end f) k.keeps.covers (given_below f))

  pub written_long : w ≡ length (written_of f)
  written_long = sym (ap length written_is ∙ covered_long (gathered f) 0 w from_zero)

-- with one event more
pub writes_more : (one two : Ahead) (w v : ℕ) (e : Entry) (f : History) (text : List ℕ) → AllFit e.acts (gathered f) → KeepsAll one w (gathered f) →
    KeepsAll two v (gathered (e ∷ f))
    → Appends (gathered (e ∷ f)) w v [] text → written_of f ++ text ≡ written_of (e ∷ f)
writes_more one two w v e f text fit before after appends =
    let up_to = appends.up_to in
    let same : bytes_on (gathered f) 0 w ≡ bytes_on (gathered (e ∷ f)) 0 w =
    bytes_same (gathered f) (gathered (e ∷ f)) 0 w (over_all e.acts (gathered f) fit) (from_zero one w f before) in
    let less : Covers (gathered (e ∷ f)) 0 (0 + w) = λ p low high. after.keeps.covers p low (omega arith) in
    let joined = bytes_join (gathered (e ∷ f)) 0 w appends.count less in
    let place : 0 + w ≡ w = omega arith in
    let more : bytes_on (gathered (e ∷ f)) (0 + w) appends.count ≡ text = ap (λ (p : ℕ). bytes_on (gathered (e ∷ f)) p appends.count) place ∙
    sym appends.text in
    ap (λ (l : List ℕ). l ++ text) (written_is one w f before ∙ same)
    ∙ (ap (λ (l : List ℕ). bytes_on (gathered (e ∷ f)) 0 w ++ l) (sym more)
    ∙ (sym joined ∙ (ap (bytes_on (gathered (e ∷ f)) 0) up_to ∙ sym (written_is two v (e ∷ f) after))))
