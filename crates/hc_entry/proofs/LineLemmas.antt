-- Consumers that go from list to list.
use Rattle.std.{proofs.{Common.{◌≡◌, ℕ, List, [], ◌∷◌, true, false, eqb, Option, Some, None, refl, sym, ap, ◌∙◌, inl, inr}, lemmas.Bool.{cases_Bool, eqb-false, eq-eqb, ne_eqb}}, specs.{Prelude.{min}, Option.{option_or}}}
use Rattle.hc_text.specs.Sorted.{is_sorted, with_item, without, itself, is_among}
use Rattle.hc_text.proofs.SortedLemmas.{has-with, has-without}
use Rattle.hc_rules.specs.Admissions.{least}
use Rattle.hc_entry.specs.{Used.{first_of}, Lines.{stands, holder_without, Line, holder_or, turn_with}}
use Rattle.hc_entry.proofs.AdmissionLemmas.{least-ascending}

left-other : (c d : ℕ) (cs : List ℕ) → eqb c d ≡ false → is_among d (without itself c cs) ≡ is_among d cs
left-other c d cs off = rw (has-without itself d c cs, off) refl

with-other : (c d : ℕ) (cs : List ℕ) → eqb c d ≡ false → is_among d (with_item itself c cs) ≡ is_among d cs
with-other c d cs off = rw (has-with itself d c cs, off) refl

with-same : (c d : ℕ) (cs : List ℕ) → eqb c d ≡ true → is_among d (with_item itself c cs) ≡ true
with-same c d cs on = rw (has-with itself d c cs, on) refl

-- who holds the turn stands in line, when one leaves and when one comes
pub stands-left : (c : ℕ) (h : Option ℕ) (cs : List ℕ) → stands h cs ≡ true → stands (holder_without c h) (without itself c cs) ≡ true
stands-left c None cs in_line = refl
stands-left c (Some d) cs in_line = elim (cases_Bool (eqb d c)) [
  | inl held ↦ rw held refl
  | inr other ↦ let off : eqb c d ≡ false = ne_eqb c d (λ e. eqb-false d c other (sym e)) in rw (other, left-other c d cs off) in_line
]

pub stands-with : (c : ℕ) (h : Option ℕ) (cs : List ℕ) → stands h cs ≡ true → stands h (with_item itself c cs) ≡ true
stands-with c None cs in_line = refl
stands-with c (Some d) cs in_line = elim (cases_Bool (eqb c d)) [
  | inl on ↦ with-same c d cs on
  | inr off ↦ with-other c d cs off ∙ in_line
]

-- who has the turn stands in line
pub stands-held : (c : ℕ) (h : Option ℕ) (cs : List ℕ) → is_sorted itself cs ≡ true → stands h cs ≡ true → holder_or h (least cs) ≡ Some c →
    is_among c cs ≡ true
stands-held c (Some d) cs up in_line is = let e : d ≡ c = cc in ap (λ k. is_among k cs) (sym e) ∙ in_line
stands-held c None cs up in_line is = first cs (sym (least-ascending cs up) ∙ is) where
  first : (ds : List ℕ) → first_of ds ≡ Some c → is_among c ds ≡ true
  first [] none = absurd (cc)
  first (d ∷ ds) some = let e : d ≡ c = cc in rw (eq-eqb d c e) refl

pub or-holder : (h o : Option ℕ) → option_or h o ≡ holder_or h o
or-holder None o = refl
or-holder (Some c) o = refl

pub turn_with-first : (c first : ℕ) (l : Line) → l.holder ≡ None → least l.in_line ≡ Some first → Some (min first c) ≡ turn_with c l
turn_with-first c first l free is = rw (free, is) refl

pub turn_with-none : (c : ℕ) (l : Line) → l.holder ≡ None → least l.in_line ≡ None → Some c ≡ turn_with c l
turn_with-none c l free is = rw (free, is) refl
