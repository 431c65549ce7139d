-- How long joined values are.
use Rattle.std.{proofs.{Common.{◌≡◌, ℕ, suc, ◌+◌, ◌-◌, ◌*◌, ◌<◌, ◌≤◌, List, [], ◌∷◌, ◌++◌, length, take, drop, get_or, map, refl, sym, ap, ◌∙◌, arith, length-append}, lemmas.List.{take_more, take_all, take-append-drop, map-append, length-map, Elements.{All-head, All-tail}, Concat.{flat_map-append}, Sums.{sum_by-cons}}}, specs.{Prelude.{codes, filter, Some}, List.{All, flat_map}}}
use Rattle.hc_fields.specs.{declared.mark.Mark.{Mark}, FieldList.{size_of, has_name, joined_of}, Marks.{field_at, fields_at, separated_text, AreMarked, IsLineAt}}
use Rattle.hc_fields.proofs.{Sorted.{Pair}, Edits.{size_of-parts, length-parts}}

abbrev bytes : Pair → ℕ
bytes f = length f.0 + length f.1

abbrev value : List ℕ → Mark → List ℕ
value text f = (field_at text f).1

module _ (text : List ℕ) where
  pub values-fields_at : (fs : List Mark) → map (λ (g : Pair). g.1) (fields_at text fs) ≡ map (value text) fs
  values-fields_at [] = refl
  values-fields_at (f ∷ fs) = ap (λ (l : List (List ℕ)). (field_at text f).1 ∷ l) (values-fields_at fs)

  pub separated-append : (xs ys : List Mark) → separated_text text (xs ++ ys) ≡ separated_text text xs ++ separated_text text ys
  separated-append xs ys =
      ap (flat_map (λ (v : List ℕ). codes ", " ++ v)) (map-append (value text) xs ys)
      ∙ flat_map-append (λ (v : List ℕ). codes ", " ++ v) (map (value text) xs) (map (value text) ys)

  -- one more value, with what stands before it
  pub separated-more : (fs : List Mark) (i : ℕ) (d : Mark) → i < length fs →
      length (separated_text text (take (i + 1) fs)) ≡ length (separated_text text (take i fs)) + (2 + length (field_at text (get_or fs i d)).1)
  separated-more fs i d lt =
      rw (take_more fs i d lt, separated-append, length-append, length-append) (omega (arith, length-append (codes ", ") (field_at text (get_or fs i d)).1))

  -- what was joined so far, and one more, is within all
  pub separated-within : (fs : List Mark) (i : ℕ) (d : Mark) → i < length fs →
      length (separated_text text (take i fs)) + (2 + length (field_at text (get_or fs i d)).1) ≤ length (separated_text text fs)
  separated-within fs i d lt =
      let more = separated-more fs i d lt in
      let whole : length (separated_text text fs) ≡ length (separated_text text (take (i + 1) fs)) + length (separated_text text (drop (i + 1) fs)) =
      ap (λ (l : List Mark). length (separated_text text l)) (sym (take-append-drop (i + 1) fs))
      ∙ (ap length (separated-append (take (i + 1) fs) (drop (i + 1) fs))
      ∙ length-append (separated_text text (take (i + 1) fs)) (separated_text text (drop (i + 1) fs))) in
      omega (arith, more, whole)

  pub separated-le : (fs : List Mark) → length (separated_text text fs) ≤ 2 * length fs + size_of (fields_at text fs)
  separated-le [] = omega arith
  separated-le (f ∷ fs) =
      omega (
        arith,
        separated-le fs,
        length-append (codes ", ") (field_at text f).1,
        length-append (codes ", " ++ (field_at text f).1) (separated_text text fs),
        sum_by-cons bytes (field_at text f) (fields_at text fs),
      )

  -- all but the first
  abbrev pub rest_of : List Mark → List Mark
  rest_of fs = take (length fs - 1) (drop 1 fs)

  pub rest_of-cons : (f : Mark) (fs : List Mark) → rest_of (f ∷ fs) ≡ fs
  rest_of-cons f fs = let less : suc (length fs) - 1 ≡ length fs = omega arith in rw less (take_all (length fs) fs (omega arith))

  -- what `join` asks of the first field and the others
  pub record Fit (first : Mark) (others : List Mark) : Type 0 where
    pub short : length (field_at text first).1 ≤ 49152
    pub at_first : IsLineAt text first
    pub lines : All (IsLineAt text) others
    pub few : length others ≤ 80
    pub small : size_of (fields_at text others) ≤ 49152

  pub Fit-rest : (fs : List Mark) (d : Mark) → 1 ≤ length fs → All (IsLineAt text) fs → length fs ≤ 80 → size_of (fields_at text fs) ≤ 49152 →
      Fit (get_or fs 0 d) (rest_of fs)
  Fit-rest [] d some lines few small = absurd (omega arith)
  Fit-rest (f ∷ fs) d some lines few small =
      let sizes = sum_by-cons bytes (field_at text f) (fields_at text fs) in
      rw (rest_of-cons f fs) (record {
        short = omega arith;
        at_first = All-head (IsLineAt text) f fs lines;
        lines = All-tail (IsLineAt text) f fs lines;
        few = omega arith;
        small = omega arith;
      })

  pub joined_of-rest : (fs : List Mark) (d : Mark) (joined : List ℕ) → 1 ≤ length fs → joined ≡ (field_at text (get_or fs 0 d)).1 ++
      separated_text text (rest_of fs) → Some joined ≡ joined_of (map (λ (g : Pair). g.1) (fields_at text fs))
  joined_of-rest [] d joined some joined_is = absurd (omega arith)
  joined_of-rest (f ∷ fs) d joined some joined_is = rw (joined_is, rest_of-cons f fs, values-fields_at fs) refl

  -- the fields of a name are no more and no longer than all
  pub named_fit : (items named : List Mark) (name : List ℕ) → AreMarked text items →
      fields_at text named ≡ filter (has_name name) (fields_at text items) → (length named ≤ 80) × (size_of (fields_at text named) ≤ 49152)
  named_fit items named name kept is =
      let few = kept.list.few in
      let small = kept.list.small in
      let lengths = length-parts name (fields_at text items) in
      let sizes = size_of-parts name (fields_at text items) in
      let count = ap length is in
      (omega (arith, count, length-map named (field_at text), lengths, few), rw is (omega (arith, sizes, small)))
