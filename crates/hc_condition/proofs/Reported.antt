-- What the front tells of the acts that it heard, and which fields a 304 has.
--
-- Acts are told one after another: those that were told, with what is still to be told of those that were heard, are what is
-- told of all (`reported_more`). The fields that a 304 has are what is left of a copy where each other name was removed: each
-- field that isn't told is removed by its own name, and one that is told by none (`left_reported`).
use Rattle.std.{proofs.{Common.{◌≡◌, ℕ, ◌+◌, ◌≤◌, Bool, true, false, List, [], ◌∷◌, ◌++◌, drop, map, cond, Some, refl, sym, ap, ◌∙◌, inl, inr}, lemmas.{Bool.{cases_Bool, both_ways}, List.{append_assoc, drop_more}, Option.{slice_get_within, get_or_from_slice_get}, Slice.Eq.{bytes_eq-Decides}}}, specs.{Prelude.{slice_get, bytes_eq, filter, ◌||◌, not}, List.{list_any}}}
use Rattle.hc_text.proofs.Basics.{or_right as or_after, or_left as or_before}
use Rattle.hc_event.specs.{Filters.{leaves_in}, declared.act.Act.{Act}}
use Rattle.hc_event.specs.declared.act.Act.TheVariants as act
use Rattle.hc_fields.specs.FieldList.{has_name}
use Rattle.hc_validate.specs.Updates.{is_renewed, left_by, FieldPairs}
use Rattle.hc_condition.specs.{NotModified.{is_reported, fields_of_304, names_of_304}, ShownActs.{is_leaving}}

-- ACTS

-- who ends or fails by one of these acts leaves
pub any_leaves : (c : ℕ) (acts : List Act) → list_any (is_leaving c) acts ≡ leaves_in c acts
any_leaves c [] = refl
any_leaves c (act.Ended d ∷ acts) = ap (λ (b : Bool). is_leaving c (act.Ended d) || b) (any_leaves c acts)
any_leaves c (act.Failed d cause ∷ acts) = ap (λ (b : Bool). is_leaving c (act.Failed d cause) || b) (any_leaves c acts)
any_leaves c (act.Opened x d need request ∷ acts) = any_leaves c acts
any_leaves c (act.Ask x ∷ acts) = any_leaves c acts
any_leaves c (act.Close x ∷ acts) = any_leaves c acts
any_leaves c (act.Shown d r why status fields lo hi ∷ acts) = any_leaves c acts
any_leaves c (act.Given d x at bytes ∷ acts) = any_leaves c acts
any_leaves c (act.Pending d wait ∷ acts) = any_leaves c acts
any_leaves c (act.Lost r kind ∷ acts) = any_leaves c acts
any_leaves c (act.Evicted r ∷ acts) = any_leaves c acts
any_leaves c (act.Denied refusal ∷ acts) = any_leaves c acts

-- one more act is told
pub reported_more : (f : Act → Act) (out new : List Act) (a reported : Act) (left whole : List Act) → new ≡ out ++ reported ∷ [] → reported ≡ f a → out ++
    map f (a ∷ left) ≡ whole → new ++ map f left ≡ whole
reported_more f out new a reported left whole pushed is before =
    ap (λ (l : List Act). l ++ map f left) pushed ∙ append_assoc out (reported ∷ []) (map f left) ∙ ap (λ (t : Act). out ++ t ∷ map f left) is ∙ before

-- it is found among one more
pub found_more : (g : Act → Bool) (b x now : Bool) (a : Act) (left : List Act) (whole : Bool) → now ≡ (b || x) → x ≡ g a →
    (b || list_any g (a ∷ left)) ≡ whole → (now || list_any g left) ≡ whole
found_more g true x now a left whole is same before = ap (λ (c : Bool). c || list_any g left) is ∙ before
found_more g false x now a left whole is same before = ap (λ (c : Bool). c || list_any g left) (is ∙ same) ∙ before

-- FIELDS

abbrev pub unreported : FieldPairs → FieldPairs
unreported fields = filter (λ (f : List ℕ × List ℕ). not (is_reported f)) fields

abbrev pub left_reported : ℕ → FieldPairs → FieldPairs → FieldPairs
left_reported i fields kept = left_by (unreported (drop i fields)) kept

pub unreported-more : (from : FieldPairs) (i : ℕ) (g : List ℕ × List ℕ) → slice_get from i ≡ Some g → is_reported g ≡ false →
    unreported (drop i from) ≡ g ∷ unreported (drop (i + 1) from)
unreported-more from i g is other = rw (drop_more from i g (slice_get_within from i g is), get_or_from_slice_get from i g g is, other) refl

pub unreported-reported : (from : FieldPairs) (i : ℕ) (g : List ℕ × List ℕ) → slice_get from i ≡ Some g → is_reported g ≡ true →
    unreported (drop i from) ≡ unreported (drop (i + 1) from)
unreported-reported from i g is reported = rw (drop_more from i g (slice_get_within from i g is), get_or_from_slice_get from i g g is, reported) refl

-- each of the fields that isn't told has its name among the others
Marks : FieldPairs → FieldPairs → Type 0
Marks new [] = Unit {0}
Marks new (f ∷ fields) = (is_reported f ≡ false → is_renewed new f ≡ true) × Marks new fields

marks-more : (g : List ℕ × List ℕ) (new fields : FieldPairs) → Marks new fields → Marks (g ∷ new) fields
unfolding Marks
marks-more g new [] marks = tt
marks-more g new (f ∷ fields) marks = (λ off. or_after (has_name g.0 f) (is_renewed new f) (marks.0 off), marks-more g new fields marks.1)

own_name : (f : List ℕ × List ℕ) → has_name f.0 f ≡ true
own_name f = (bytes_eq-Decides f.0 f.0).1 refl

marks_first : (f : List ℕ × List ℕ) (fields : FieldPairs) → Marks (unreported fields) fields → Marks (unreported (f ∷ fields)) (f ∷ fields)
unfolding Marks
marks_first f fields marks = by_reported (is_reported f) refl
  where
    by_reported : (b : Bool) → is_reported f ≡ b → Marks (cond (not b) (f ∷ unreported fields) (unreported fields)) (f ∷ fields)
    by_reported true is = (λ off. absurd (both_ways (is_reported f) off is), marks)
    by_reported false other = (λ off. or_before (has_name f.0 f) (is_renewed (unreported fields) f) (own_name f), marks-more f (unreported fields) fields marks)

marks_all : (fields : FieldPairs) → Marks (unreported fields) fields
unfolding Marks
marks_all [] = tt
marks_all (f ∷ fields) = marks_first f fields (marks_all fields)

-- whether a field is told hangs on its name
reported_alike : (f g : List ℕ × List ℕ) → f.0 ≡ g.0 → is_reported f ≡ is_reported g
reported_alike f g same = ap (λ (n : List ℕ). list_any (bytes_eq n) names_of_304) same

apart_more : (f g : List ℕ × List ℕ) (fields : FieldPairs) → is_reported f ≡ true → is_renewed (unreported fields) f ≡ false →
    is_renewed (unreported (g ∷ fields)) f ≡ false
apart_more f g fields reported rest = elim (cases_Bool (is_reported g)) [
  | inl is ↦ rw is rest
  | inr off ↦ rw off (by_name (has_name g.0 f) refl off)
]
  where
    by_name : (b : Bool) → has_name g.0 f ≡ b → is_reported g ≡ false → (b || is_renewed (unreported fields) f) ≡ false
    by_name true same off = absurd (both_ways (is_reported g) off (sym (reported_alike f g ((bytes_eq-Decides f.0 g.0).0 same)) ∙ reported))
    by_name false other off = rest

-- none of those that aren't told has the name of one that is
apart : (f : List ℕ × List ℕ) (fields : FieldPairs) → is_reported f ≡ true → is_renewed (unreported fields) f ≡ false
apart f [] reported = refl
apart f (g ∷ fields) reported = apart_more f g fields reported (apart f fields reported)

all_left : (all fields : FieldPairs) → Marks (unreported all) fields → left_by (unreported all) fields ≡ fields_of_304 fields
unfolding Marks
all_left all [] marks = refl
all_left all (f ∷ fields) marks = elim (cases_Bool (is_reported f)) [
  | inl reported ↦ rw (apart f all reported, reported) (ap (λ (l : FieldPairs). f ∷ l) (all_left all fields marks.1))
  | inr off ↦ rw (marks.0 off, off) (all_left all fields marks.1)
]

pub first_left : (fields : FieldPairs) → left_reported 0 fields fields ≡ fields_of_304 fields
first_left fields = all_left fields fields (marks_all fields)
