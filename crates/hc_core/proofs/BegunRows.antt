-- The rows represent what a store begins with, item by item.
--
-- With no item there are empty tables and empty rows (`stands_before`). One item more has a new number, so every other
-- row and entry stays. Its entry has the work (`entry_new`). It has the bytes of its runs, its kind is right by what
-- the contents promise, and nobody reads or writes it. It is the last one used, and current for its key. `stands_more`
-- joins this; `BegunItems` repeats it for all items.
use Rattle.std.{proofs.{Common.{◌≡◌, inl, inr, ℕ, ◌<◌, max, List, [], ◌∷◌, ◌++◌, Bool, true, false, cond, eqb, Option, Some, None, refl, ap, sym, ◌∙◌, subst, arith}, lemmas.{Bool.{cases_Bool, eqb-true, Decides.{nat_tests}}, List.{map-append, reverse-append, Folds.{find-append}}}}, specs.{Prelude.{nat_eq, filter, find, reverse, bytes_eq, option_map, ◌==◌, ◌&&◌, if◌then◌else◌}, HashMap.{get, hash_map_len}}}
use Rattle.hc_text.proofs.Basics.{eqb-same, false_true, or_none}
use Rattle.hc_store.specs.declared.backend.Backend.{Ghosts}
use Rattle.hc_sparse.specs.Runs.{cells_of}
use Rattle.hc_record.specs.declared.kind.Kind.TheVariants as kind
use Rattle.hc_stored.specs.Begun as entries
use Rattle.hc_stored.specs.{Entries.{shelf_of}, Kept.{Kept}}
use Rattle.hc_entry.specs.{Kept.{with_current, nothing}, Keys.{kept_of}}
use Rattle.hc_exch.specs.{Exchanges.{table_of, next_of}, Known.{unknown}, declared.row.Open.{Open}}
use Rattle.hc_effects.proofs.Vocabulary.{ascend_from, is_kind_right, current, is_usable, Content, Contents, kind_of, bound, Tables, Representation, first_tables, representation_of_content, numbers, last_end}
use Rattle.hc_effects.proofs.Tests.{none_some}
use Rattle.hc_state.specs.{declared.rows.Rows.{Rows}, Kept.{KeepsConsumer, KeepsExchange, KeepsRunning}, Lines.{KeepsKey}, Stands.{RowsStand}, Stored.{IsEntry, KeepsEntry, is_usable_row}}
use Rattle.hc_txn.specs.declared.transaction.Transaction.{Transaction as Consumer}
use Rattle.hc_state.specs.Stored as stored
use Rattle.hc_core.proofs.BegunRuns.{runs_cells, runs_reach, runs_rest, kind_begun, whole_begun}
use Rattle.hc_core.specs.Begins.{with_items, kept_item, KeepsItem}

-- BEFORE THE FIRST

pub stands_before : {B : Type 0} {g : Ghosts B} (r : Rows B g) (contents : Contents) → r.last_start ≡ contents.last_consumer →
    next_of r.exchanges ≡ contents.next_exchange → 0 < contents.next_exchange → hash_map_len r.consumers ≡ 0
    → ((c : ℕ) → get nat_eq r.consumers c ≡ None) → ((x : ℕ) → table_of r.exchanges x ≡ unknown) → ((key : List ℕ) → kept_of r.keys key ≡ nothing) →
    ((q : ℕ) → (shelf_of r.entries).kept q ≡ None) → (shelf_of r.entries).order ≡ []
    → RowsStand (shelf_of r.entries).limits r (first_tables (with_items [] contents))
unfolding current
stands_before r contents last next some count none unopened unawaited unkept order = record {
  limits = refl;
  entries = record { each = λ q. rw (unkept q) tt; order = order };
  last_start = last;
  next = omega (arith, next);
  count = count;
  consumers = λ c. rw (none c) refl;
  exchanges = λ x. record { running = rw (unopened x) refl; held = ap (λ z. z.held) (unopened x) };
  keys = λ key. rw (unawaited key) (record { current = refl; in_line = λ c. refl; passed = λ c. refl; away = λ c. refl; holder = λ c. refl });
}

-- NUMBERS

-- none of them is this one
AllOff : ℕ → List ℕ → Type 0
AllOff n [] = Unit {0}
AllOff n (q ∷ qs) = (eqb n q ≡ false) × AllOff n qs

off_both : (n : ℕ) (xs ys : List ℕ) → AllOff n xs → AllOff n ys → AllOff n (xs ++ ys)
unfolding AllOff
off_both n [] ys a b = b
off_both n (x ∷ xs) ys a b = (a.0, off_both n xs ys a.1 b)

off_reverse : (n : ℕ) (xs : List ℕ) → AllOff n xs → AllOff n (reverse xs)
unfolding AllOff
off_reverse n [] off = tt
off_reverse n (x ∷ xs) off = subst (AllOff n) (sym (reverse-append (x ∷ []) xs)) (off_both n (reverse xs) (x ∷ []) (off_reverse n xs off.1) (off.0, tt))

-- none has the number that isn't found
off_found : (n : ℕ) (items : List Content) → find (λ (o : Content). o.r == n) items ≡ None → AllOff n (numbers items)
unfolding AllOff
off_found n [] none = tt
off_found n (item ∷ items) none = elim (cases_Bool (item.r == n)) [
  | inl here ↦ none_some item (sym (rw here at none))
  | inr other ↦ (let test : nat_eq item.r n ≡ false = other in grind (arith, nat_tests), off_found n items (rw other at none))
]

filter_same : (n : ℕ) (f h : ℕ → Bool) (qs : List ℕ) → AllOff n qs → ((q : ℕ) → eqb n q ≡ false → f q ≡ h q) → filter f qs ≡ filter h qs
unfolding AllOff
filter_same n f h [] off same = refl
filter_same n f h (q ∷ qs) off same = rw (same q off.0, filter_same n f h qs off.1 same) refl

find_same : (n : ℕ) (f h : ℕ → Bool) (qs : List ℕ) → AllOff n qs → ((q : ℕ) → eqb n q ≡ false → f q ≡ h q) → find f qs ≡ find h qs
unfolding AllOff
find_same n f h [] off same = refl
find_same n f h (q ∷ qs) off same = rw (same q off.0, find_same n f h qs off.1 same) refl

-- ONE MORE

module _ {B : Type 0} {g : Ghosts B} (r u : Rows B g) (contents : Contents) (items : List Content) (item : Content)
    (ascends : ascend_from 0 0 item.runs ≡ true) (right : is_kind_right item item.head.total ≡ true)
    (new : find (λ (other : Content). other.r == item.r) items ≡ None) (keeps : KeepsItem r u item)
    (stands : RowsStand (shelf_of r.entries).limits r (first_tables (with_items items contents))) where
  abbrev more : List Content
  more = items ++ item ∷ []

  abbrev t : Tables
  t = first_tables (with_items items contents)

  abbrev s : Tables
  s = first_tables (with_items more contents)

  -- ROWS

  row_new : s.representation item.r ≡ Some (representation_of_content item)
  row_new =
      let self : (item.r == item.r) ≡ true = eqb-same item.r in
      let found : find (λ (o : Content). o.r == item.r) more ≡ Some item = find-append (λ (o : Content). o.r == item.r) items (item ∷ []) ∙
      rw (new, self) refl in
      ap (option_map representation_of_content) found

  row_old : (q : ℕ) → eqb item.r q ≡ false → s.representation q ≡ t.representation q
  row_old q other =
      let off : (item.r == q) ≡ false = other in
      let same : find (λ (o : Content). o.r == q) more ≡ find (λ (o : Content). o.r == q) items =
      find-append (λ (o : Content). o.r == q) items (item ∷ []) ∙ rw off (or_none (find (λ (o : Content). o.r == q) items)) in
      ap (option_map representation_of_content) same

  -- WHAT IS KEPT

  rest : kept_item item ≡ record (entries.kept_at_beginning item.key item.head) { cells = (kept_item item).cells; reach = (kept_item item).reach }
  rest = runs_rest item.runs (entries.kept_at_beginning item.key item.head)

  entry_new : IsEntry s item.r (kept_item item) (representation_of_content item)
  unfolding bound
  entry_new = record {
    used = λ gone. false_true gone;
    key = ap (λ (k : Kept). k.key) rest;
    head = ap (λ (k : Kept). record k.head { kind = kind.Growing; total = item.head.total }) rest;
    length = stored.reported (ap (λ (k : Kept). k.head.total) rest);
    kind = λ fresh. ap (λ (k : Kept). k.head.kind) rest ∙ sym (kind_begun item ascends right (with_items more contents) item.r);
    whole = λ n is total. whole_begun item ascends right n (sym (ap (λ (k : Kept). k.head.kind) rest) ∙ is)
        (sym (ap (λ (k : Kept). k.head.total) rest) ∙ total);
    cells = λ p. runs_cells 0 0 p item.runs (entries.kept_at_beginning item.key item.head) ascends ∙ or_none (cells_of item.runs p);
    reach = λ held. runs_reach item.runs (entries.kept_at_beginning item.key item.head) ∙ none_first (last_end item.runs);
    bound = λ c. rw rest refl;
    first = λ c. rw rest refl;
    writer = stored.as_written (ap (λ (k : Kept). k.writer) rest);
    is_lost = ap (λ (k : Kept). k.is_lost) rest;
    alone = ap (λ (k : Kept). k.alone) rest;
    is_gone = ap (λ (k : Kept). k.is_gone) rest;
  }
    where
      none_first : (n : ℕ) → max 0 n ≡ n
      none_first n = omega arith

  entry_old : (q : ℕ) (k : Kept) (v : Representation) → IsEntry t q k v → IsEntry s q k v
  unfolding bound kind_of
  entry_old q k v e = assumption e

  keeps_old : (q : ℕ) (k : Option Kept) (v : Option Representation) → KeepsEntry t q k v → KeepsEntry s q k v
  unfolding bound
  keeps_old q None (Some v) e = record { gone = e.gone; unused = e.unused }
  keeps_old q (Some k) (Some v) e = entry_old q k v e
  keeps_old q None None e = e
  keeps_old q (Some k) None e = e

  abbrev kept_now : ℕ → Option Kept
  kept_now = (shelf_of u.entries).kept

  each : (q : ℕ) → KeepsEntry s q (kept_now q) (s.representation q)
  each q = elim (cases_Bool (eqb item.r q)) [
    | inl here ↦
        let same : item.r ≡ q = eqb-true item.r q here in
        subst (λ (n : ℕ). KeepsEntry s n (kept_now n) (s.representation n)) same (rw (keeps.entries.kept item.r, eqb-same item.r, row_new) entry_new)
    | inr other ↦
        rw (keeps.entries.kept q, other, row_old q other) (keeps_old q ((shelf_of r.entries).kept q) (t.representation q) (stands.entries.each q))
  ]

  -- THE ORDER

  listed : reverse (numbers more) ≡ item.r ∷ reverse (numbers items)
  listed = ap reverse (map-append (λ (o : Content). o.r) items (item ∷ [])) ∙ reverse-append (numbers items) (item.r ∷ [])

  off : AllOff item.r (reverse (numbers items))
  off = off_reverse item.r (numbers items) (off_found item.r items new)

  order : (shelf_of u.entries).order ≡ filter (λ q. is_usable_row (s.representation q)) s.used
  order = grind (arith, nat_tests, row_new, filter_same, off, row_old, listed)

  -- BY KEY

  current_now : (key : List ℕ) → current s key ≡ (if bytes_eq item.key key then Some item.r else current t key)
  unfolding current
  current_now key =
      let first : is_usable key (s.representation item.r) ≡ (bytes_eq item.key key && true) = ap (is_usable key) row_new in
      let same : find (λ q. is_usable key (s.representation q)) (reverse (numbers items)) ≡ find (λ q. is_usable key (t.representation q))
      (reverse (numbers items)) = find_same item.r _ _ (reverse (numbers items)) off (λ q other. ap (is_usable key) (row_old q other)) in
      ap (find (λ q. is_usable key (s.representation q))) listed ∙ (rw (first, same) (grind (arith, nat_tests)))

  key_now : (key : List ℕ) → KeepsKey s key (kept_of u.keys key)
  key_now key = rw (keeps.keys key) (by_key (bytes_eq item.key key) (current_now key))
    where
      by_key : (b : Bool) → current s key ≡ cond b (Some item.r) (current t key) →
          KeepsKey s key (cond b (with_current (Some item.r) (kept_of r.keys item.key)) (kept_of r.keys key))
      by_key true is = let k = stands.keys item.key in record { current = sym is; in_line = k.in_line; passed = k.passed; away = k.away; holder = k.holder }
      by_key false is = let k = stands.keys key in
          record { current = k.current ∙ sym is; in_line = k.in_line; passed = k.passed; away = k.away; holder = k.holder }

  -- One item more is kept.
  pub stands_more : RowsStand (shelf_of u.entries).limits u (first_tables (with_items (items ++ item ∷ []) contents))
  stands_more = record {
    limits = refl;
    last_start = keeps.last_start ∙ stands.last_start;
    next = ap next_of keeps.exchanges ∙ stands.next;
    count = ap hash_map_len keeps.consumers ∙ stands.count;
    consumers = λ c. subst (λ cs. KeepsConsumer s (get nat_eq cs c) None) (sym keeps.consumers) (consumer_old (get nat_eq r.consumers c) (stands.consumers c));
    exchanges = λ x. subst (λ xs. KeepsExchange s x (table_of xs x)) (sym keeps.exchanges) (exchange_old x);
    keys = key_now;
    entries = record { each = each; order = order };
  }
    where
      consumer_old : (k : Option Consumer) → KeepsConsumer t k None → KeepsConsumer s k None
      consumer_old None e = e
      consumer_old (Some k) e = e

      running_old : (x : ℕ) (o : Option Open) → KeepsRunning t x o None → KeepsRunning s x o None
      running_old x None e = e
      running_old x (Some o) e = e

      exchange_old : (x : ℕ) → KeepsExchange s x (table_of r.exchanges x)
      exchange_old x = let e = stands.exchanges x in record { running = running_old x (table_of r.exchanges x).running e.running; held = e.held }
