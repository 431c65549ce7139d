-- In every run what has no tag by which others could join it comes from its one exchange, or is all there.
--
-- At an entry it is kept by `tags_kept`. At the beginning a good item without a tag is whole, no part, and all its runs
-- are of its own number (`untagged`, `own_runs`). A whole item has every position below its length: its runs end where
-- their bytes add up (`whole_by`, `all_there`). `tags_begin` joins these for the first tables, and `tags_in_runs`
-- carries it.
use Rattle.std.{proofs.{Common.{◌≡◌, inl, inr, ℕ, List, [], ◌∷◌, Bool, true, false, Option, Some, None, refl, ap, sym, ◌∙◌, arith}, lemmas.Bool.Decides.{nat_tests}}, specs.{Prelude.{is_some, ◌||◌, ◌==◌, not, nat_eq, find, option_map, if◌then◌else◌}, List.{list_any}}}
use Rattle.hc_text.proofs.Basics.{and_left, and_right, not_some as none_some, not_false as not_no, some_inj}
use Rattle.hc_record.specs.declared.kind.Kind.{Kind}
use Rattle.hc_record.specs.declared.kind.Kind.TheVariants as kind
use Rattle.hc_effects.proofs.Vocabulary.{brings_part, Limits, may_begin, needs_tag, is_whole, is_kind_right, kind_of_runs, same_kind, Content, Contents, OfRuns, HasByte, Representation, IsOfOne, Tags, first_tables, representation_of_content, last_end, bytes_in}
use Rattle.hc_sparse.specs.{Cells.{Covers, size_below}, Runs.{cells_of}, declared.run.Run.{Run}}
use Rattle.hc_model.specs.StoredHeads as heads
use Rattle.hc_effects.proofs.{Basics.{false_true, or_false}, PieceKeeps.{eq_cases}}
use Rattle.hc_laws.proofs.{MeasuresBegin.{ascending_item, known_item}, OriginsBegin.{byte_of, has_run}, Positions.{below_full, bytes_below}, RunFacts.{in_runs}, StoredHeadsKeep.{right_head}, TagsKeep.{tags_kept, tags_denied}}

-- an item without a tag
record IsUntagged (item : Content) : Type 0 where
  whole : is_whole item.head.kind ≡ true
  full : brings_part item.head.status ≡ false
  own : list_any (λ (run : Run). not (run.x == item.r)) item.runs ≡ false

untagged : (item : Content) → needs_tag item ≡ false → IsUntagged item
untagged item none =
    let a = or_false _ _ none in
    let b = or_false _ _ a.0 in
    record { whole = not_no (is_whole item.head.kind) b.0; full = b.1; own = a.1 }

-- each run is of its own number
own_runs : (r x : ℕ) (runs : List Run) → list_any (λ (run : Run). not (run.x == r)) runs ≡ false → list_any (λ (run : Run). run.x == x) runs ≡ true → x ≡ r
own_runs r x [] none any = absurd (false_true any)
own_runs r x (run ∷ runs) none any = elim (eq_cases run.x x) [
  | inl here ↦ sym here.1 ∙ grind (arith, nat_tests)
  | inr off ↦ own_runs r x runs (or_false _ _ none).1 (rw off.0 at any)
]

whole_is : (k : Kind) → is_whole k ≡ true → k ≡ kind.Whole
whole_is kind.Whole h = refl
whole_is _ h = absurd (false_true h)

same_whole : (k : Kind) → same_kind kind.Whole k ≡ true → k ≡ kind.Whole
same_whole kind.Whole h = refl
same_whole _ h = absurd (false_true h)

-- whole runs have every position below the length
whole_by : (a b : Bool) → (if a then kind.Whole else if b then kind.Truncated else kind.Ranges) ≡ kind.Whole → a ≡ true
whole_by true b h = refl
whole_by false true h = absurd (let no : kind.Truncated ≡ kind.Whole = h in cc)
whole_by false false h = absurd (let no : kind.Ranges ≡ kind.Whole = h in cc)

module _ (limits : Limits) (contents : Contents) (may : may_begin limits contents ≡ true) where
  abbrev item_at : ℕ → Option Content
  item_at r = find (λ (item : Content). item.r == r) contents.items

  module _ (r : ℕ) (item : Content) (v : Representation) (found : item_at r ≡ Some item) (row : representation_of_content item ≡ v)
      (none : v.head.joining ≡ None) where
    no_tag : IsUntagged item
    no_tag =
        let five = and_left _ _ (and_left _ _ (and_left _ _ (right_head limits contents may r item found))) in
        untagged item (by_or (needs_tag item) (is_some item.head.joining) (and_left _ _ (and_left _ _ five))
        (ap is_some (ap (λ (z : Representation). z.head.joining) row ∙ none)))
      where
        by_or : (a b : Bool) → (not a || b) ≡ true → b ≡ false → a ≡ false
        by_or false b h off = refl
        by_or true b h off = absurd (false_true (sym off ∙ h))

    all_there : (z : Option ℕ) → item.head.total ≡ z → is_kind_right item z ≡ true → IsOfOne (first_tables contents) v
    all_there None is right = absurd (false_true right)
    all_there (Some total) is right =
        let both = whole_by _ _ (same_whole _ (sym (ap (λ k. same_kind k (kind_of_runs item.runs total)) (whole_is item.head.kind no_tag.whole)) ∙
        and_right _ _ right)) in
        let ends : nat_eq (last_end item.runs) (bytes_in item.runs) ≡ true = and_left _ _ both in
        let sums : nat_eq (bytes_in item.runs) total ≡ true = and_right _ _ both in
        let same : last_end item.runs ≡ bytes_in item.runs = grind (arith, nat_tests) in
        let length_is : bytes_in item.runs ≡ total = grind (arith, nat_tests) in
        let count : bytes_in item.runs ≡ size_below (cells_of item.runs) (last_end item.runs) =
        bytes_below 0 0 item.runs (ascending_item limits contents may r item found) in
        let covered : Covers (cells_of item.runs) 0 (last_end item.runs) = below_full (cells_of item.runs) (last_end item.runs) (omega arith) in
        heads.whole total (sym (ap (λ (z : Representation). z.head.total) row) ∙ is)
        (λ p lo hi. ap (λ (z : Representation). is_some (z.stored p)) (sym row) ∙ covered p lo (omega arith))

    one : IsOfOne (first_tables contents) v
    one = all_there item.head.total refl (known_item limits contents may r item found)

    parts : brings_part v.head.status ≡ false
    parts = sym (ap (λ (z : Representation). brings_part z.head.status) row) ∙ no_tag.full

    number : item.r ≡ r
    number = by_find contents.items found
      where
        by_find : (items : List Content) → find (λ (z : Content). z.r == r) items ≡ Some item → item.r ≡ r
        by_find [] h = absurd (none_some item h)
        by_find (a ∷ items) h = elim (eq_cases a.r r) [
          | inl here ↦ ap (λ (z : Content). z.r) (sym (some_inj a item (rw here.0 at h))) ∙ here.1
          | inr off ↦ by_find items (rw off.0 at h)
        ]

    own : (x : ℕ) → has_run x item ≡ true → x ≡ r
    own x has = own_runs item.r x item.runs no_tag.own has ∙ number

  -- a row is that of an item
  by_row : (P : Type 0) → (r : ℕ) (v : Representation) (z : Option Content) → item_at r ≡ z → option_map representation_of_content z ≡ Some v →
      ((item : Content) → item_at r ≡ Some item → representation_of_content item ≡ v → P) → P
  by_row P r v None found row h = absurd (none_some v row)
  by_row P r v (Some item) found row h = h item found (some_inj (representation_of_content item) v row)

  own_byte : (r x : ℕ) (v : Representation) (item : Content) → item_at r ≡ Some item → representation_of_content item ≡ v → v.head.joining ≡ None →
      HasByte (first_tables contents) r x → x ≡ r
  own_byte r x v item found row none has =
      let b = byte_of limits contents r x has in
      own r item v found row none x (ap (has_run x) (sym (some_inj b.item item (sym b.found ∙ found))) ∙ b.has)

  tags_begin : Tags (first_tables contents)
  tags_begin = record {
    joined = λ x r w v row is there none. none_some w row;
    parts = λ r v row none. by_row (brings_part v.head.status ≡ false) r v (item_at r) refl row (λ item found same. parts r item v found same none);
    own = λ r x v row none has. by_row (x ≡ r) r v (item_at r) refl row (λ item found same. own_byte r x v item found same none has);
    one = λ r v row not_gone none. by_row (IsOfOne (first_tables contents) v) r v (item_at r) refl row (λ item found same. one r item v found same none);
  }

pub tags_in_runs : OfRuns Tags
tags_in_runs = in_runs (λ limits t. Tags t) (λ limits contents may. tags_begin limits contents may) (λ limits t e later g. tags_denied t e g)
    (λ limits t now flaw later c g ev goes real. tags_kept limits t now flaw c g ev goes real)
