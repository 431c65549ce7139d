-- A text begins with one image at most, with one item, and with one run.
--
-- Each part ends where its own bytes tell: a number at the first byte that is no digit, a key at the
-- first space, a record by the law of records, the bytes of a run by their count. So two parts of one
-- kind at the front of one text are equal, and so is what stands behind them. Lists follow by induction:
-- where one has no more parts than the other, the other has the same ones and then some.
use Rattle.std.{proofs.{Common.{◌≡◌, ℕ, ◌<◌, ◌≤◌, true, List, [], ◌∷◌, ◌++◌, length, take, drop, refl, sym, ap, ◌∙◌, arith, length-append}, lemmas.{Bool.{and_parts}, List.{append_assoc, append-nil, append_cancel_left, append_cancel_right, take_at, drop_at, nil_from_length, Elements.{All-head, All-tail}}}}, specs.{List.{All}, Prelude.{codes}}}
use Rattle.hc_text.specs.Texts.{IsSmall, lacks}
use Rattle.hc_text.proofs.Cuts.{cut_once}
use Rattle.hc_target.specs.Targets.{is_short_word, is_target}
use Rattle.hc_fields.specs.Lines.{fields_text}
use Rattle.hc_fields.proofs.FieldTexts.{fields_once}
use Rattle.hc_record.specs.{declared.version.Version.{Version, TheVariants.{First}}, Head.{Head, IsHead}, Lines.{number_and_end, joining_text, tag_line}, Parts.{first_text, AreSmall}, Record.{spelling}}
use Rattle.hc_record.proofs.{Once.{ended_once}, SameRecords.{same_head}, Stages.{numbers_of, first_of, AreFirst-of, spelling-parts, first_once, tag_once, lacks-own}}
use Rattle.hc_sparse.specs.declared.run.Run.{Run}
use Rattle.hc_model.specs.Entries.{Content, Contents}
use Rattle.hc_image.specs.{Images.{HasRunText, run_line, run_text, runs_text, item_line, lines_of, first_lines}, Spelled.{SpellsItem, SpellsItems, SpellsImage}}

-- RECORDS

-- a record before other bytes, part by part
pub record_apart : (v : Version) (a : Head) (r : List ℕ) → spelling v a ++ r ≡ first_text (first_of v a) ++
    (tag_line v (joining_text a.joining) ++ (fields_text a.vary_fields ++ (fields_text a.fields ++ r)))
record_apart v a r =
    ap (λ (l : List ℕ). l ++ r) (spelling-parts v a) ∙
    regroup (first_text (first_of v a)) (tag_line v (joining_text a.joining)) (fields_text a.vary_fields) (fields_text a.fields)
  where
    regroup : (f t g h : List ℕ) → (f ++ (t ++ (g ++ h))) ++ r ≡ f ++ (t ++ (g ++ (h ++ r)))
    regroup f t g h = simp append_assoc

pub head_once : (a b : Head) (v w : Version) (r s : List ℕ) → IsHead a → IsHead b → spelling v a ++ r ≡ spelling w b ++ s → (a ≡ b) × (r ≡ s)
head_once a b v w r s own_a own_b same =
    let whole = sym (record_apart v a r) ∙ (same ∙ record_apart w b s) in
    let first = first_once (first_of v a) (first_of w b) _ _ (AreFirst-of v a own_a) (AreFirst-of w b own_b) whole in
    let tags = tag_once w (joining_text a.joining) (joining_text b.joining) (fields_text a.vary_fields ++ (fields_text a.fields ++ r))
    (fields_text b.vary_fields ++ (fields_text b.fields ++ s)) (lacks-own a own_a v _ refl) (lacks-own b own_b w _ refl)
    (rw first.version at first.numbers.rest) in
    let vary = fields_once a.vary_fields b.vary_fields _ _ own_a.vary_list.fields own_b.vary_list.fields first.numbers.vary_count tags.1 in
    let last = fields_once a.fields b.fields r s own_a.list.fields own_b.list.fields first.numbers.count vary.1 in
    let texts : spelling v a ≡ spelling w b =
    append_cancel_right (spelling v a) (spelling w b) r (same ∙ ap (λ (l : List ℕ). spelling w b ++ l) (sym last.1)) in
    ((same_head a b v w own_a own_b texts).0, last.1)

-- the numbers of its head are small
pub numbers_small : (head : Head) → IsHead head → AreSmall (numbers_of head)
numbers_small head own = (AreFirst-of First head own).numbers

-- RUNS

run_apart : (x at count : ℕ) (bytes r : List ℕ) → (run_line x at count ++ (bytes ++ 10 ∷ [])) ++ r ≡ codes "run " ++
    (number_and_end 32 x ++ (number_and_end 32 at ++ (number_and_end 10 count ++ (bytes ++ 10 ∷ r))))
run_apart x at count bytes r = simp append_assoc

pub run_line_apart : (x at count : ℕ) (r : List ℕ) → run_line x at count ++ r ≡ codes "run " ++
    (number_and_end 32 x ++ (number_and_end 32 at ++ (number_and_end 10 count ++ r)))
run_line_apart x at count r = simp append_assoc

abbrev make_run : ℕ → ℕ → List ℕ → Run
make_run x at bytes = record { x = x; at = at; bytes = bytes }

-- so many bytes before others
pub bytes_once : (us vs r s : List ℕ) → length us ≡ length vs → us ++ 10 ∷ r ≡ vs ++ 10 ∷ s → (us ≡ vs) × (r ≡ s)
bytes_once us vs r s len same =
    let texts = sym (take_at us (10 ∷ r) (length vs) len) ∙ (ap (take (length vs)) same ∙ take_at vs (10 ∷ s) (length vs) refl) in
    let rests = sym (drop_at us (10 ∷ r) (length vs) len) ∙ (ap (drop (length vs)) same ∙ drop_at vs (10 ∷ s) (length vs) refl) in
    (texts, ap (drop 1) rests)

pub run_once : (a b : Run) (r s : List ℕ) → HasRunText a → HasRunText b → run_text a ++ r ≡ run_text b ++ s → (a ≡ b) × (r ≡ s)
run_once a b r s has_a has_b same =
    let apart = sym (run_apart a.x a.at (length a.bytes) a.bytes r) ∙ (same ∙ run_apart b.x b.at (length b.bytes) b.bytes s) in
    let x = ended_once 32 a.x b.x _ _ (omega arith) has_a.x has_b.x (append_cancel_left (codes "run ") _ _ apart) in
    let at = ended_once 32 a.at b.at _ _ (omega arith) has_a.place has_b.place x.1 in
    let count = ended_once 10 (length a.bytes) (length b.bytes) _ _ (omega arith) has_a.count has_b.count at.1 in
    let bytes = bytes_once a.bytes b.bytes r s count.0 count.1 in
    let runs : make_run a.x a.at a.bytes ≡ make_run b.x b.at b.bytes = rw (x.0, at.0, bytes.0) refl in
    (runs, bytes.1)

-- what a list has behind the runs of another
pub record RunsRest (done runs : List Run) (rest after : List ℕ) : Type 0 where
  pub more : List Run
  pub list_is : runs ≡ done ++ more
  pub text_is : rest ≡ runs_text more ++ after

pub runs_rest : (done runs : List Run) (rest after : List ℕ) → All HasRunText done → All HasRunText runs → length done ≤ length runs → runs_text done ++
    rest ≡ runs_text runs ++ after → RunsRest done runs rest after
runs_rest [] runs rest after all_done all_runs le same = record { more = runs; list_is = refl; text_is = same }
runs_rest (d ∷ done) [] rest after all_done all_runs le same = absurd (omega arith)
runs_rest (d ∷ done) (f ∷ runs) rest after all_done all_runs le same =
    let apart = sym (append_assoc (run_text d) (runs_text done) rest) ∙ (same ∙ append_assoc (run_text f) (runs_text runs) after) in
    let first = run_once d f _ _ (All-head HasRunText d done all_done) (All-head HasRunText f runs all_runs) apart in
    let others = runs_rest done runs rest after (All-tail HasRunText d done all_done) (All-tail HasRunText f runs all_runs) (omega arith) first.1 in
    record {
      more = others.more;
      list_is = ap (λ (g : Run). g ∷ runs) (sym first.0) ∙ ap (λ (l : List Run). d ∷ l) others.list_is;
      text_is = others.text_is;
    }

pub runs_once : (us vs : List Run) (r s : List ℕ) → All HasRunText us → All HasRunText vs → length us ≡ length vs → runs_text us ++ r ≡ runs_text vs ++
    s → (us ≡ vs) × (r ≡ s)
runs_once us vs r s all_us all_bs len same =
    let rest = runs_rest us vs r s all_us all_bs (omega arith) same in
    let none : rest.more ≡ [] =
    nil_from_length rest.more (omega (arith, len, ap length rest.list_is, length-append us rest.more)) in
    (sym (rw (none, append-nil us) at rest.list_is), rw none at rest.text_is)

-- ITEMS

pub lacks-target : (key : List ℕ) → is_target key ≡ true → lacks 32 key ≡ true
unfolding is_target is_short_word
lacks-target key h =
    let outer = and_parts _ _ h in
    let inner = and_parts _ _ outer.0 in
    let word = and_parts _ _ inner.0 in
    (and_parts _ _ word.0).1

pub item_apart : (key : List ℕ) (r count : ℕ) (rest : List ℕ) → item_line key r count ++ rest ≡ codes "item " ++
    (key ++ 32 ∷ (number_and_end 32 r ++ (number_and_end 10 count ++ rest)))
item_apart key r count rest = simp append_assoc

-- a line of an item
pub record SameLine (k l : List ℕ) (n m i j : ℕ) (s t : List ℕ) : Type 0 where
  pub key : k ≡ l
  pub r : n ≡ m
  pub count : i ≡ j
  pub rest : s ≡ t

pub line_once : (k l : List ℕ) (n m i j : ℕ) (s t : List ℕ) → is_target k ≡ true → is_target l ≡ true → IsSmall n → IsSmall m → IsSmall i → IsSmall j →
    item_line k n i ++ s ≡ item_line l m j ++ t → SameLine k l n m i j s t
line_once k l n m i j s t target_k target_l small_n small_m small_i small_j same =
    let apart = sym (item_apart k n i s) ∙ (same ∙ item_apart l m j t) in
    let keys = cut_once 32 k _ l _ (lacks-target k target_k) (lacks-target l target_l) (append_cancel_left (codes "item ") _ _ apart) in
    let numbers = ended_once 32 n m _ _ (omega arith) small_n small_m keys.1 in
    let counts = ended_once 10 i j s t (omega arith) small_i small_j numbers.1 in
    record { key = keys.0; r = numbers.0; count = counts.0; rest = counts.1 }

abbrev make_item : List ℕ → ℕ → Head → List Run → Content
make_item key r head runs = record { key = key; r = r; head = head; runs = runs }

-- the text of an item before other bytes
pub item_parts : (p : List ℕ) (a : Content) (r : List ℕ) (h : SpellsItem p a) → p ++ r ≡ item_line a.key a.r (length a.runs) ++
    (h.head_text ++ (runs_text a.runs ++ r))
item_parts p a r h =
    ap (λ (l : List ℕ). l ++ r) (sym h.text_is) ∙ regroup (item_line a.key a.r (length a.runs)) h.head_text (runs_text a.runs)
  where
    regroup : (f g k : List ℕ) → (f ++ (g ++ k)) ++ r ≡ f ++ (g ++ (k ++ r))
    regroup f g k = simp append_assoc

pub item_once : (p q : List ℕ) (a b : Content) (r s : List ℕ) → SpellsItem p a → SpellsItem q b → p ++ r ≡ q ++ s → (a ≡ b) × (r ≡ s)
item_once p q a b r s spells_a spells_b same =
    let has_a = spells_a.has_text in
    let has_b = spells_b.has_text in
    let apart = sym (item_parts p a r spells_a) ∙ (same ∙ item_parts q b s spells_b) in
    let line = line_once a.key b.key a.r b.r (length a.runs) (length b.runs) _ _ has_a.key has_b.key has_a.r has_b.r has_a.count has_b.count apart in
    let record_a = spells_a.is_record in
    let record_b = spells_b.is_record in
    let records = ap (λ (l : List ℕ). l ++ (runs_text a.runs ++ r)) record_a.1 ∙
    (line.rest ∙ ap (λ (l : List ℕ). l ++ (runs_text b.runs ++ s)) (sym record_b.1)) in
    let heads = head_once a.head b.head record_a.0 record_b.0 _ _ has_a.head has_b.head records in
    let runs = runs_once a.runs b.runs r s has_a.runs has_b.runs line.count heads.1 in
    let items : make_item a.key a.r a.head a.runs ≡ make_item b.key b.r b.head b.runs = rw (line.key, line.r, heads.0, runs.0) refl in
    (items, runs.1)

-- what a list has behind the items of another
pub record ItemsRest (done items : List Content) (rest after : List ℕ) : Type 0 where
  pub more : List Content
  pub text : List ℕ
  pub spells : SpellsItems text more
  pub list_is : items ≡ done ++ more
  pub text_is : rest ≡ text ++ after

pub items_rest : (p q : List ℕ) (done items : List Content) (rest after : List ℕ) → SpellsItems p done → SpellsItems q items →
    length done ≤ length items → p ++ rest ≡ q ++ after → ItemsRest done items rest after
items_rest p q [] items rest after spells_p spells_q le same =
    record { more = items; text = q; spells = spells_q; list_is = refl; text_is = ap (λ (l : List ℕ). l ++ rest) (sym spells_p) ∙ same }
items_rest p q (d ∷ done) [] rest after spells_p spells_q le same = absurd (omega arith)
items_rest p q (d ∷ done) (f ∷ items) rest after spells_p spells_q le same =
    let apart = sym (append_assoc spells_p.0 spells_p.1 rest) ∙
    (ap (λ (l : List ℕ). l ++ rest) spells_p.4 ∙ (same ∙ (ap (λ (l : List ℕ). l ++ after) (sym spells_q.4) ∙ append_assoc spells_q.0 spells_q.1 after))) in
    let first = item_once spells_p.0 spells_q.0 d f _ _ spells_p.2 spells_q.2 apart in
    let others = items_rest spells_p.1 spells_q.1 done items rest after spells_p.3 spells_q.3 (omega arith) first.1 in
    record {
      more = others.more;
      text = others.text;
      spells = others.spells;
      list_is = ap (λ (g : Content). g ∷ items) (sym first.0) ∙ ap (λ (l : List Content). d ∷ l) others.list_is;
      text_is = others.text_is;
    }

pub items_once : (p q : List ℕ) (us vs : List Content) (r s : List ℕ) → SpellsItems p us → SpellsItems q vs → length us ≡ length vs → p ++ r ≡ q ++ s →
    (us ≡ vs) × (r ≡ s)
items_once p q us vs r s spells_p spells_q len same =
    let rest = items_rest p q us vs r s spells_p spells_q (omega arith) same in
    let none : rest.more ≡ [] =
    nil_from_length rest.more (omega (arith, len, ap length rest.list_is, length-append us rest.more)) in
    let empty : rest.text ≡ [] = rw none at rest.spells in
    (sym (rw (none, append-nil us) at rest.list_is), rest.text_is ∙ ap (λ (l : List ℕ). l ++ s) empty)

-- IMAGES

pub lines_apart : (now last next count : ℕ) (r : List ℕ) → lines_of now last next count ++ r ≡ (codes "image 1" ++ 10 ∷ []) ++
    (number_and_end 32 now ++ (number_and_end 32 last ++ (number_and_end 32 next ++ (number_and_end 10 count ++ r))))
lines_apart now last next count r = simp append_assoc

abbrev make_contents : ℕ → ℕ → ℕ → List Content → Contents
make_contents now last next items = record { now = now; last_consumer = last; next_exchange = next; items = items }

pub image_once : (p q : List ℕ) (a b : Contents) (r s : List ℕ) → SpellsImage p a → SpellsImage q b → p ++ r ≡ q ++ s → (a ≡ b) × (r ≡ s)
image_once p q a b r s spells_a spells_b same =
    let has_a = spells_a.has_lines in
    let has_b = spells_b.has_lines in
    let front_a = ap (λ (l : List ℕ). l ++ r) (sym spells_a.text_is) ∙ append_assoc (first_lines a) spells_a.item_texts r in
    let front_b = ap (λ (l : List ℕ). l ++ s) (sym spells_b.text_is) ∙ append_assoc (first_lines b) spells_b.item_texts s in
    let whole = sym front_a ∙ (same ∙ front_b) in
    let apart = sym (lines_apart a.now a.last_consumer a.next_exchange (length a.items) _) ∙
    (whole ∙ lines_apart b.now b.last_consumer b.next_exchange (length b.items) _) in
    let now = ended_once 32 a.now b.now _ _ (omega arith) has_a.now has_b.now (append_cancel_left (codes "image 1" ++ 10 ∷ []) _ _ apart) in
    let last = ended_once 32 a.last_consumer b.last_consumer _ _ (omega arith) has_a.last has_b.last now.1 in
    let next = ended_once 32 a.next_exchange b.next_exchange _ _ (omega arith) has_a.next has_b.next last.1 in
    let count = ended_once 10 (length a.items) (length b.items) _ _ (omega arith) has_a.count has_b.count next.1 in
    let items = items_once spells_a.item_texts spells_b.item_texts a.items b.items r s spells_a.items spells_b.items count.0 count.1 in
    let contents : make_contents a.now a.last_consumer a.next_exchange a.items ≡ make_contents b.now b.last_consumer b.next_exchange b.items =
    rw (now.0, last.0, next.0, items.0) refl in
    (contents, items.1)

-- what stands behind a number that was taken
pub behind : (e n m : ℕ) (r s text : List ℕ) → e < 48 → IsSmall n → IsSmall m → number_and_end e n ++ r ≡ text → number_and_end e m ++ s ≡ text → r ≡ s
behind e n m r s text below small_n small_m is_n is_m = (ended_once e n m r s below small_n small_m (is_n ∙ sym is_m)).1

-- the count in a line of a run, and what stands behind the line
pub run_line_once : (x y at bt i j : ℕ) (r s : List ℕ) → IsSmall x → IsSmall y → IsSmall at → IsSmall bt → IsSmall i → IsSmall j → run_line x at i ++
    r ≡ run_line y bt j ++ s → (i ≡ j) × (r ≡ s)
run_line_once x y at bt i j r s small_x small_y small_at small_bt small_i small_j same =
    let apart = sym (run_line_apart x at i r) ∙ (same ∙ run_line_apart y bt j s) in
    let one = ended_once 32 x y _ _ (omega arith) small_x small_y (append_cancel_left (codes "run ") _ _ apart) in
    let two = ended_once 32 at bt _ _ (omega arith) small_at small_bt one.1 in
    ended_once 10 i j r s (omega arith) small_i small_j two.1
