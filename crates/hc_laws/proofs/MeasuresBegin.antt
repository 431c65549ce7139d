-- What a store may begin with is measured: what came of a body ends at its reach, within its length.
--
-- There is no exchange yet, so only what is of a body is to be shown. Each item is good, so its runs rise, and its kind
-- fits its length (`laid`). Where its runs end their last byte is there (`ends_tight`, `tight_of`), and that is within
-- the length by its kind (`within_of`). `measures_begin` joins these. That lengths are known, and that
-- runs rise, is used by the laws of runs too.
use Rattle.std.{proofs.{Common.{◌≡◌, ◌⊎◌, inl, inr, ℕ, ◌+◌, ◌<◌, ◌≤◌, List, [], ◌∷◌, length, Bool, true, Option, Some, None, refl, ap, sym, ◌∙◌, arith, max}, lemmas.Bool.Decides.{nat_tests}}, specs.Prelude.{is_some, find, option_map, ◌==◌}}
use Rattle.hc_text.proofs.Basics.{and_left, and_right, not_some as none_some, some_inj}
use Rattle.hc_sparse.specs.{Cells.{cells_with, Cells}, Runs.{cells_of, end_of}, declared.run.Run.{Run}}
use Rattle.hc_effects.proofs.Vocabulary.{Limits, may_begin, are_good, is_good, ascend_from, is_kind_right, Content, Contents, Measures, Representation, first_tables, representation_of_content, last_end}
use Rattle.hc_effects.proofs.PieceKeeps.{eq_cases}

written_some : (at x p : ℕ) (bytes : List ℕ) (f : Cells) → ((p < at) ⊎ (at + length bytes ≤ p) → is_some (f p) ≡ true) →
    is_some (cells_with at x bytes f p) ≡ true
written_some at x p bytes f old = grind (arith, nat_tests)

which : (a b n : ℕ) → max a b ≡ n + 1 → (b ≡ n + 1) ⊎ (a ≡ n + 1)
which a b n h = grind (arith, nat_tests)

-- the last position of some runs is there
ends_tight : (n a x : ℕ) (runs : List Run) → ascend_from a x runs ≡ true → last_end runs ≡ n + 1 → is_some (cells_of runs n) ≡ true
ends_tight n a x [] good ends = absurd (omega arith)
ends_tight n a x (run ∷ runs) good ends =
    let rest : ascend_from (end_of run) run.x runs ≡ true = and_right _ _ good in
    let bytes : 0 < length run.bytes = grind (arith, nat_tests) in
    written_some run.at run.x n run.bytes (cells_of runs)
    (λ off. by_side run off bytes (which (end_of run) (last_end runs) n ends) (ends_tight n (end_of run) run.x runs rest))
  where
    by_side : (run : Run) → (n < run.at) ⊎ (run.at + length run.bytes ≤ n) → 0 < length run.bytes → (last_end runs ≡ n + 1) ⊎ (end_of run ≡ n + 1) →
        (last_end runs ≡ n + 1 → is_some (cells_of runs n) ≡ true) → is_some (cells_of runs n) ≡ true
    by_side run off bytes it3 again = grind (arith, nat_tests)

abbrev pub of_number : ℕ → Content → Bool
of_number r item = item.r == r

-- what is asked of the runs of an item
record IsLaid (item : Content) : Type 0 where
  rise : ascend_from 0 0 item.runs ≡ true
  right : is_kind_right item item.head.total ≡ true

module _ (limits : Limits) (contents : Contents) where
  laid_parts : (earlier : List Content) (item : Content) (later : List Content) → is_good limits contents earlier item later ≡ true → IsLaid item
  laid_parts earlier item later good = grind (arith, nat_tests, and_left, and_right)

  laid : (r : ℕ) (a : Content) (earlier items : List Content) → are_good limits contents earlier items ≡ true → find (of_number r) items ≡ Some a → IsLaid a
  laid r a earlier [] good is = absurd (none_some a is)
  laid r a earlier (item ∷ later) good is = elim (eq_cases item.r r) [
    | inl here ↦ of_it item (some_inj item a (rw here.0 at is)) (laid_parts earlier item later (and_left _ _ good))
    | inr off ↦ laid r a (item ∷ earlier) later (and_right _ _ good) (rw off.0 at is)
  ]
    where
      of_it : (b : Content) → b ≡ a → IsLaid b → IsLaid a
      of_it b same l = rw (← same) l

  module _ (may : may_begin limits contents ≡ true) where
    good : are_good limits contents [] contents.items ≡ true
    unfolding may_begin
    good = and_left _ _ (and_left _ _ (and_left _ _ (and_left _ _ (and_left _ _ may))))

    tight_of : (r n : ℕ) (z : Option Content) (v : Representation) → find (of_number r) contents.items ≡ z →
        option_map representation_of_content z ≡ Some v → v.reach ≡ n + 1 → is_some (v.body n) ≡ true
    tight_of r n None v found is ends = absurd (none_some v is)
    tight_of r n (Some item) v found is ends =
        let same : representation_of_content item ≡ v = some_inj (representation_of_content item) v is in
        let l = laid r item [] contents.items good found in
        ap (λ (q : Representation). is_some (q.body n)) (sym same) ∙ ends_tight n 0 0 item.runs l.rise (ap (λ (q : Representation). q.reach) same ∙ ends)

    within_of : (r total : ℕ) (z : Option Content) (v : Representation) → find (of_number r) contents.items ≡ z →
        option_map representation_of_content z ≡ Some v → v.head.total ≡ Some total → v.reach ≤ total
    within_of r total None v found is known = absurd (none_some v is)
    within_of r total (Some item) v found is known =
        let same : representation_of_content item ≡ v = some_inj (representation_of_content item) v is in
        let l = laid r item [] contents.items good found in
        grind (arith, nat_tests)

    -- its length is known, and its kind is that of its runs
    pub known_item : (r : ℕ) (item : Content) → find (of_number r) contents.items ≡ Some item → is_kind_right item item.head.total ≡ true
    known_item r item found = (laid r item [] contents.items good found).right

    -- its runs rise without overlap
    pub ascending_item : (r : ℕ) (item : Content) → find (of_number r) contents.items ≡ Some item → ascend_from 0 0 item.runs ≡ true
    ascending_item r item found = (laid r item [] contents.items good found).rise

    -- What a store may begin with is measured.
    pub measures_begin : Measures (first_tables contents)
    measures_begin = record {
      brings = λ x w v row on headed there. absurd (none_some w row);
      tight = λ r n v row ends. tight_of r n (find (of_number r) contents.items) v refl row ends;
      ends = λ r c lo hi how k v row at there. absurd (none_some k row);
      within = λ r total v row known. within_of r total (find (of_number r) contents.items) v refl row known;
    }
