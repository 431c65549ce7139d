-- Lists of runs and of items, read one after another.
--
-- What was read so far spells a first part of the text. Where another list of so many parts begins the
-- text too, it has the same first parts and then some, and its next part begins what is left. So where
-- no part begins what is left, no such list begins the text.
use Rattle.std.{proofs.{Common.{◌≡◌, ◌≢◌, ℕ, zero, suc, ◌+◌, ◌<◌, map, List, [], ◌∷◌, ◌++◌, length, take, get_or, refl, sym, ap, ◌∙◌, arith, length-append}, lemmas.List.{append_assoc, append-nil, get_or_at}}, specs.List.{All}}
use Rattle.hc_sparse.specs.declared.run.Run.{Run}
use Rattle.hc_model.specs.Entries.{Content}
use Rattle.hc_contents.specs.declared.contents.Content as coded
use Rattle.hc_contents.specs.PlainContents.{plain_item}
use Rattle.hc_image.specs.{Images.{HasRunText, run_text, runs_text, item_text, items_text}, Parts.{AreRuns, SpellsMany}, Spelled.{SpellsItem, SpellsItems}}
use Rattle.hc_image.proofs.Once.{runs_rest, items_rest}

-- RUNS

pub runs_push : (runs : List Run) (run : Run) → runs_text (runs ++ run ∷ []) ≡ runs_text runs ++ run_text run
runs_push [] run = append-nil (run_text run)
runs_push (r ∷ runs) run =
    ap (λ (l : List ℕ). run_text r ++ l) (runs_push runs run) ∙ sym (append_assoc (run_text r) (runs_text runs) (run_text run))

pub one_more_run : (runs : List Run) (run : Run) (text rest new : List ℕ) → runs_text runs ++ rest ≡ text → run_text run ++ new ≡ rest →
    runs_text (runs ++ run ∷ []) ++ new ≡ text
one_more_run runs run text rest new is next =
    ap (λ (l : List ℕ). l ++ new) (runs_push runs run) ∙
    (append_assoc (runs_text runs) (run_text run) new ∙ (ap (λ (l : List ℕ). runs_text runs ++ l) next ∙ is))

module _ (done : List Run) (count : ℕ) (rest text : List ℕ) (each : All HasRunText done) (more : length done < count) (is : runs_text done ++ rest ≡ text)
    (none : (run : Run) (after : List ℕ) → HasRunText run → run_text run ++ after ≢ rest) (runs : List Run) (after : List ℕ) (are : AreRuns count runs) where
  no_more_runs : (left : List Run) → runs ≡ done ++ left → rest ≡ runs_text left ++ after → ⊥
  no_more_runs [] list_is text_is =
      omega (arith, more, are.count_is, ap length list_is, length-append done [])
  no_more_runs (run ∷ left) list_is text_is =
      let has : HasRunText run =
      rw (list_is, get_or_at done run left run (length done) refl) at (are.each (length done) run (omega (arith, more, are.count_is))) in
      none run (runs_text left ++ after) has (sym (text_is ∙ append_assoc (run_text run) (runs_text left) after))

  pub no_runs : runs_text runs ++ after ≢ text
  no_runs same =
      let left = runs_rest done runs rest after each are.each (omega (arith, more, are.count_is)) (is ∙ sym same) in
      no_more_runs left.more left.list_is left.text_is

-- ITEMS

pub items_push : (p q : List ℕ) (items : List Content) (item : Content) → SpellsItems p items → SpellsItem q item → SpellsItems (p ++ q) (items ++ item ∷ [])
items_push p q [] item spells one = (q, [], one, refl, append-nil q ∙ ap (λ (l : List ℕ). l ++ q) (sym spells))
items_push p q (i ∷ items) item spells one = (
  spells.0,
  spells.1 ++ q,
  spells.2,
  items_push spells.1 q items item spells.3 one,
  sym (append_assoc spells.0 spells.1 q) ∙
      ap (λ (l : List ℕ). l ++ q) spells.4,
)

module _ (done : List Content) (count : ℕ) (part rest text : List ℕ) (spells : SpellsItems part done) (more : length done < count)
    (is : part ++ rest ≡ text) (none : (item : Content) (one after : List ℕ) → SpellsItem one item → one ++ after ≢ rest) (items : List Content)
    (whole after : List ℕ) (are : SpellsMany count whole items) where
  no_more_items : (left : List Content) (texts : List ℕ) → SpellsItems texts left → items ≡ done ++ left → rest ≡ texts ++ after → ⊥
  no_more_items [] texts spelled list_is text_is =
      omega (arith, more, are.1, ap length list_is, length-append done [])
  no_more_items (item ∷ left) texts spelled list_is text_is =
      none item spelled.0 (spelled.1 ++ after) spelled.2
      (sym (text_is ∙ (ap (λ (l : List ℕ). l ++ after) (sym spelled.4) ∙ append_assoc spelled.0 spelled.1 after)))

  pub no_items : whole ++ after ≢ text
  no_items same =
      let left = items_rest part whole done items rest after spells are.0 (omega (arith, more, are.1)) (is ∙ sym same) in
      no_more_items left.more left.text left.spells left.list_is left.text_is

-- the items that were read so far, as many as these
pub record AreRead (items : List coded.Content) (count : ℕ) (rest text : List ℕ) : Type 0 where
  pub part : List ℕ
  pub spells : SpellsItems part (map plain_item items)
  pub count_is : length (map plain_item items) ≡ count
  pub text_is : part ++ rest ≡ text

pub none_read : (items : List coded.Content) (text : List ℕ) → items ≡ [] → AreRead items 0 text text
none_read items text none = rw none (record { part = []; spells = refl; count_is = refl; text_is = refl })

map_push : (items : List coded.Content) (item : coded.Content) → map plain_item (items ++ item ∷ []) ≡ map plain_item items ++ plain_item item ∷ []
map_push [] item = refl
map_push (i ∷ items) item = ap (λ (l : List Content). plain_item i ∷ l) (map_push items item)

pub one_more_item : (items : List coded.Content) (item : coded.Content) (count : ℕ) (q rest new text : List ℕ) → AreRead items count rest text →
    SpellsItem q (plain_item item) → q ++ new ≡ rest → AreRead (items ++ item ∷ []) (count + 1) new text
one_more_item items item count q rest new text are spells next =
    record {
      part = are.part ++ q;
      spells = rw (map_push items item) (items_push are.part q (map plain_item items) (plain_item item) are.spells spells);
      count_is = rw (map_push items item) (omega (arith, are.count_is, length-append (map plain_item items) (plain_item item ∷ [])));
      text_is = append_assoc are.part q new ∙ (ap (λ (l : List ℕ). are.part ++ l) next ∙ are.text_is);
    }

-- WRITTEN

runs_reported : (runs : List Run) (i : ℕ) (run : Run) → i < length runs → run ≡ get_or runs i run →
    runs_text (take (suc i) runs) ≡ runs_text (take i runs) ++ run_text run
runs_reported [] i run lt is = absurd (let none : i < 0 = lt in omega arith)
runs_reported (r ∷ runs) zero run lt is = append-nil (run_text r) ∙ ap run_text (sym is)
runs_reported (r ∷ runs) (suc i) run lt is =
    ap (λ (l : List ℕ). run_text r ++ l) (runs_reported runs i run (omega arith) is) ∙ sym (append_assoc (run_text r) (runs_text (take i runs)) (run_text run))

pub runs_next : (old now new : List ℕ) (runs : List Run) (i : ℕ) (run : Run) → i < length runs → run ≡ get_or runs i run → now ≡ old ++
    runs_text (take i runs) → new ≡ now ++ run_text run → new ≡ old ++ runs_text (take (i + 1) runs)
runs_next old now new runs i run lt is before more =
    let next : i + 1 ≡ suc i = omega arith in
    rw next (more ∙ (ap (λ (l : List ℕ). l ++ run_text run) before ∙
    (append_assoc old (runs_text (take i runs)) (run_text run) ∙ ap (λ (l : List ℕ). old ++ l) (sym (runs_reported runs i run lt is)))))

items_reported : (items : List coded.Content) (i : ℕ) (item : coded.Content) → i < length items → item ≡ get_or items i item →
    items_text (map plain_item (take (suc i) items)) ≡ items_text (map plain_item (take i items)) ++ item_text (plain_item item)
items_reported [] i item lt is = absurd (let none : i < 0 = lt in omega arith)
items_reported (j ∷ items) zero item lt is =
    append-nil (item_text (plain_item j)) ∙ ap (λ (k : coded.Content). item_text (plain_item k)) (sym is)
items_reported (j ∷ items) (suc i) item lt is =
    ap (λ (l : List ℕ). item_text (plain_item j) ++ l) (items_reported items i item (omega arith) is) ∙
    sym (append_assoc (item_text (plain_item j)) (items_text (map plain_item (take i items))) (item_text (plain_item item)))

pub items_next : (old now new : List ℕ) (items : List coded.Content) (i : ℕ) (item : coded.Content) → i < length items → item ≡ get_or items i item →
    now ≡ old ++ items_text (map plain_item (take i items)) → new ≡ now ++ item_text (plain_item item) → new ≡ old ++
    items_text (map plain_item (take (i + 1) items))
items_next old now new items i item lt is before more =
    let next : i + 1 ≡ suc i = omega arith in
    rw next (more ∙ (ap (λ (l : List ℕ). l ++ item_text (plain_item item)) before ∙
    (append_assoc old (items_text (map plain_item (take i items))) (item_text (plain_item item)) ∙
    ap (λ (l : List ℕ). old ++ l) (sym (items_reported items i item lt is)))))
