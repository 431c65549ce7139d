-- Rows that keep contents, and nothing else, represent the tables of each run that leaves those, with nobody live.
--
-- With nobody live nobody is bound, waits or has a turn, and no exchange is open. A number is in the contents if its
-- row isn't gone, and such a row is idle (`remains`). What isn't gone has the work: the item has its bytes, as all of
-- them are stored, and its writer is over and forgotten (`entry_is`). What is gone, or never was there, is kept
-- nowhere. `rows_likewise` joins this, and `serves_all` says it of the cache for `with_contents`.
use Rattle.std.{proofs.{lemmas.{Bool.{cases_Bool, Decides.{nat_tests}}, List.{reverse-append, reverse-reverse}}, Common.{◌≡◌, ◌≢◌, inl, inr, ℕ, ◌+◌, ◌-◌, List, [], ◌∷◌, ◌++◌, Bool, true, false, Option, Some, None, refl, ap, sym, ◌∙◌, subst, arith}}, specs.{Prelude.{bytes_eq, is_some, nat_eq, filter, filter_map, find, reverse, length, option_map, not, ◌==◌, ◌&&◌}, HashMap.{get}}}
use Rattle.hc_text.proofs.Basics.{and_left, and_right, eqb-other, eqb-same, false_true, filter_same as filters_as, never_true as not_true, same_or, same_some as same_row, some_inj as some_is, and_off as then_false}
use Rattle.hc_store.specs.declared.backend.Backend.{Ghosts}
use Rattle.hc_sparse.specs.{Cells.{EndsBy}, Runs.{cells_of}}
use Rattle.hc_record.specs.{Head.{sealed_head}, declared.kind.Kind.TheVariants.{the_data as kinds}}
use Rattle.hc_effects.proofs.Vocabulary.{Limits, may_begin, are_good, ascend_from, is_kind_right, content_of, content_at, contents_of, idle_now, current, is_current, is_number, live, Content, Contents, is_open, is_in_line, holds_turn, bound, Lawful, Measures, Tables, Exchange, Representation, Among, Sound, first_tables, representation_of_content, numbers, last_end, tables, place}
use Rattle.hc_stored.specs.{Entries.{shelf_of}, Kept.{Kept}}
use Rattle.hc_entry.specs.Kept as keyed
use Rattle.hc_entry.specs.Keys.{kept_of}
use Rattle.hc_exch.specs.{Exchanges.{table_of, next_of}, Known.{Known}, declared.row.Open.{Open}}
use Rattle.hc_model.specs.Contents.{is_idle}
use Rattle.hc_model.specs.Rows as rows
use Rattle.hc_effects.proofs.{Basics.{number_is}, Closed.{among_filter, among_append_left, reversed as among_reverse, among_append_right}, CurrentKeeps.{current_is}, KeysKeep.{current_row}, PollKeeps.{current_stays}, Sums.{filter_among}, Tests.{none_some}}
use Rattle.hc_laws.proofs.{RunsFrom.{end_is}, SoundRuns.{carried, measures_in_runs}}
use Rattle.hc_state.specs.{declared.rows.Rows.{Rows}, Kept.{KeepsConsumer, KeepsExchange, KeepsRunning}, Lines.{KeepsKey, has_turn, is_away, is_passed}, Stands.{RowsStand}, Stored.{IsEntry, KeepsEntry, KnowsLength, KnowsWriter, is_first, is_over, is_usable_row}}
use Rattle.hc_txn.specs.declared.transaction.Transaction.{Transaction as Consumer}
use Rattle.hc_state.specs.Stored as stored
use Rattle.hc_core.proofs.{BegunRuns.{kind_begun}, HeadsGrow.{HeadsGrow, heads_grow}, NobodyLive.{nobody, nobody_says, unbound, none_bound, shut, none_held}, RunsBack.{cells_back}, Standing.{law_of_runs}, BegunItems.{good_of}}
use Rattle.hc_state.proofs.{CurrentTies.{stays_stored}, LiveCounts.{filter-reverse}}
use Rattle.hc_core.specs.{declared.cache.Cache.{Cache}, Steps.{ServesAll}}

-- WHAT IS GOOD

-- of each item the runs rise, and its kind is theirs
good_found : (limits : Limits) (contents : Contents) (q : ℕ) (item : Content) (earlier items : List Content) →
    are_good limits contents earlier items ≡ true → find (λ (o : Content). o.r == q) items ≡ Some item
    → (ascend_from 0 0 item.runs ≡ true) × (is_kind_right item item.head.total ≡ true)
good_found limits contents q item earlier [] good found = none_some item found
good_found limits contents q item earlier (first ∷ items) good found = elim (cases_Bool (first.r == q)) [
  | inr off ↦ good_found limits contents q item (first ∷ earlier) items (and_right _ _ good) (rw off at found)
  | inl on ↦
      let upto_kind = and_left _ _ (and_left _ _ (and_left _ _ good)) in
      subst (λ (z : Content). (ascend_from 0 0 z.runs ≡ true) × (is_kind_right z z.head.total ≡ true)) (some_is first item (rw on at found))
      (and_right _ _ (and_left _ _ upto_kind), and_right _ _ upto_kind)
]

-- what contents begin with is sound
begun_sound : (limits : Limits) (contents : Contents) → may_begin limits contents ≡ true → Sound (first_tables contents)
unfolding tables
begun_sound limits contents may = (carried limits contents [] may tt).is_sound

-- LISTS

filter_twice : (f : ℕ → Bool) (qs : List ℕ) → filter f (filter f qs) ≡ filter f qs
filter_twice f [] = refl
filter_twice f (q ∷ qs) = elim (cases_Bool (f q)) [
  | inl on ↦ rw (on, on) (ap (λ (zs : List ℕ). q ∷ zs) (filter_twice f qs))
  | inr off ↦ rw off (filter_twice f qs)
]

-- ITEMS

module _ (t : Tables) where
  -- what stands there with a row is found by its number
  found_listed : (q : ℕ) (v : Representation) → t.representation q ≡ Some v → (qs : List ℕ) → Among q qs →
      find (λ (o : Content). o.r == q) (filter_map (content_at t) qs) ≡ Some (content_of t q v)
  found_listed q v row [] among = absurd among
  found_listed q v row (n ∷ qs) among = by_row (t.representation n) refl (λ later. found_listed q v row qs later)
    where
      here : n ≡ q → content_at t n ≡ Some (content_of t q v)
      here same = ap (content_at t) same ∙ ap (option_map (content_of t q)) row

      others : n ≢ q → Among q qs
      others ne = elim among [ inl same ↦ absurd (ne same) | inr later ↦ later ]

      by_row : (z : Option Representation) → t.representation n ≡ z →
          (Among q qs → find (λ (o : Content). o.r == q) (filter_map (content_at t) qs) ≡ Some (content_of t q v)) →
          find (λ (o : Content). o.r == q) (filter_map (content_at t) (n ∷ qs)) ≡ Some (content_of t q v)
      by_row None at rest = elim (same_or n q) [
        | inl same ↦ none_some v (sym at ∙ (ap t.representation same ∙ row))
        | inr ne ↦ rw at (rest (others ne))
      ]
      by_row (Some u) at rest = elim (same_or n q) [
        | inl same ↦ (let first : content_at t n ≡ Some (content_of t q v) = here same in rw (first, eqb-same q) refl)
        | inr ne ↦ rw (at, eqb-other n q ne) (rest (others ne))
      ]

  found_unlisted : (q : ℕ) (qs : List ℕ) → (Among q qs → ⊥) → find (λ (o : Content). o.r == q) (filter_map (content_at t) qs) ≡ None
  found_unlisted q [] off = refl
  found_unlisted q (n ∷ qs) off = by_row (t.representation n) refl (found_unlisted q qs (λ later. off (inr later)))
    where
      by_row : (z : Option Representation) → t.representation n ≡ z → find (λ (o : Content). o.r == q) (filter_map (content_at t) qs) ≡ None →
          find (λ (o : Content). o.r == q) (filter_map (content_at t) (n ∷ qs)) ≡ None
      by_row None at rest = rw at rest
      by_row (Some u) at rest = rw (at, eqb-other n q (λ same. off (inl same))) rest

  -- each idle one has a row, and so its number stands in its item
  numbers_are : (qs : List ℕ) →
      numbers (filter_map (content_at t) (filter (λ q. is_idle t q (t.representation q)) qs)) ≡ filter (λ q. is_idle t q (t.representation q)) qs
  numbers_are [] = refl
  numbers_are (q ∷ qs) = elim (cases_Bool (is_idle t q (t.representation q))) [
    | inr off ↦ rw off (numbers_are qs)
    | inl on ↦ rw on (by_row (t.representation q) refl on (numbers_are qs))
  ]
    where
      by_row : (z : Option Representation) → t.representation q ≡ z → is_idle t q z ≡ true →
          numbers (filter_map (content_at t) (filter (λ q. is_idle t q (t.representation q)) qs)) ≡ filter (λ q. is_idle t q (t.representation q)) qs
          → numbers (filter_map (content_at t) (q ∷ filter (λ q. is_idle t q (t.representation q)) qs)) ≡ q ∷ filter (λ q. is_idle t q (t.representation q)) qs
      by_row None at on rest = false_true on
      by_row (Some v) at on rest = rw at (ap (λ (zs : List ℕ). q ∷ zs) rest)

-- THE ROWS

module _ {B : Type 0} {g : Ghosts B} (r : Rows B g) (limits : Limits) (t : Tables) (law : Lawful t) (measures : Measures t) (grow : HeadsGrow t)
    (none : live t ≡ 0) (may : may_begin limits (contents_of t) ≡ true) (stands : RowsStand (shelf_of r.entries).limits r (first_tables (contents_of t))) where
  abbrev s : Tables
  s = first_tables (contents_of t)

  sound : Sound s
  sound = begun_sound limits (contents_of t) may

  -- WHAT IS IDLE

  idle_is : (q : ℕ) → is_idle t q (t.representation q) ≡ is_usable_row (t.representation q)
  idle_is q = by_row (t.representation q) refl
    where
      by_gone : (v : Representation) → t.representation q ≡ Some v → (b : Bool) → v.is_gone ≡ b → is_idle t q (Some v) ≡ not v.is_gone
      by_gone v row false fresh =
          let here : is_current t v.key q ≡ true = ap (λ o. is_number o q) (current_is t v.key q v law.sound row refl fresh) ∙ eqb-same q in
          let none_reads = ap length (none_bound t law none q) in
          rw (here, none_reads, fresh) refl
      by_gone v row true gone =
          rw (not_true (is_current t v.key q) (λ on. false_true (sym (current_stays t v.key q v (number_is (current t v.key) q on) row) ∙ gone)), gone) refl

      by_row : (z : Option Representation) → t.representation q ≡ z → is_idle t q z ≡ is_usable_row z
      by_row None row = refl
      by_row (Some v) row = by_gone v row v.is_gone refl

  -- what stays of a number: its item, as it is loaded, or nothing
  data Remains (q : ℕ) : Type 0 where
    has_item : (v : Representation) → t.representation q ≡ Some v → v.is_gone ≡ false →
        find (λ (o : Content). o.r == q) (contents_of t).items ≡ Some (content_of t q v) → Remains q
    has_gone : (v : Representation) → t.representation q ≡ Some v → v.is_gone ≡ true → s.representation q ≡ None → Remains q
    has_none : t.representation q ≡ None → s.representation q ≡ None → Remains q

  remains : (q : ℕ) → Remains q
  unfolding contents_of
  remains q = by_row (t.representation q) refl
    where
      unlisted : is_usable_row (t.representation q) ≡ false → s.representation q ≡ None
      unlisted off = ap (option_map representation_of_content)
          (found_unlisted t q (idle_now t)
          (λ among. false_true (sym (idle_is q ∙ off) ∙ (filter_among (λ n. is_idle t n (t.representation n)) q (reverse t.used) among).1)))

      listed : (v : Representation) → t.representation q ≡ Some v → v.is_gone ≡ false → Among q (idle_now t)
      listed v row fresh =
          among_filter q (λ n. is_idle t n (t.representation n)) (reverse t.used) (idle_is q ∙ (ap is_usable_row row ∙ ap not fresh))
          (among_reverse q t.used (law.order.founded_used q (law.sound.numbered.lists.founded q (ap (λ (o : Option Representation). is_some o) row))))

      by_gone : (v : Representation) → t.representation q ≡ Some v → (b : Bool) → v.is_gone ≡ b → Remains q
      by_gone v row false fresh = has_item v row fresh (found_listed t q v row (idle_now t) (listed v row fresh))
      by_gone v row true is = has_gone v row is (unlisted (ap is_usable_row row ∙ ap not is))

      by_row : (z : Option Representation) → t.representation q ≡ z → Remains q
      by_row None row = has_none row (unlisted (ap is_usable_row row))
      by_row (Some v) row = by_gone v row v.is_gone refl

  loaded_row : (q : ℕ) (v : Representation) → find (λ (o : Content). o.r == q) (contents_of t).items ≡ Some (content_of t q v) →
      s.representation q ≡ Some (representation_of_content (content_of t q v))
  loaded_row q v found = ap (option_map representation_of_content) found

  -- REPRESENTATIONS

  module _ (q : ℕ) (v : Representation) (row : t.representation q ≡ Some v) (fresh : v.is_gone ≡ false)
      (found : find (λ (o : Content). o.r == q) (contents_of t).items ≡ Some (content_of t q v)) where
    abbrev item : Content
    item = content_of t q v

    held : v.is_lost ≡ false
    held = stays_stored t law q v row fresh

    all_ends : EndsBy v.reach v.stored
    all_ends p le = let rep = law.sound.rows q v row in rep.store.all_stored held p ∙ rep.store.ends p le

    reach_is : last_end item.runs ≡ v.reach
    reach_is = end_is v.stored v.reach (λ m is. ap (λ z. is_some z) ((law.sound.rows q v row).store.all_stored held m) ∙ measures.tight q m v row is)

    cells_are : (p : ℕ) → cells_of item.runs p ≡ v.stored p
    cells_are p = cells_back v.stored v.reach p all_ends

    head_is : sealed_head kinds.Growing v.head.total v.head ≡ v.head
    head_is = λ i. record v.head { kind = (sym (grow q v row)) i }

    writer_is : (o : Option ℕ) → v.writer ≡ o → (k : Option ℕ) → k ≡ None → KnowsWriter t.exchange k v.writer
    writer_is None is k off = stored.as_written (off ∙ sym is)
    writer_is (Some x) is k off = stored.forgotten x off is (over_by (t.exchange x) (law.owned.writers q x v row is) (shut t law none x))
      where
        over_by : (o : Option Exchange) → is_some o ≡ true → is_open o ≡ false → is_over o ≡ true
        over_by None on off = false_true on
        over_by (Some w) on off = ap not off

    forgets : (k : Option ℕ) → KnowsWriter s.exchange k None → k ≡ None
    forgets k reported = grind (arith, nat_tests)

    entry_is : (k : Kept) → IsEntry s q k (representation_of_content item) → IsEntry t q k v
    entry_is k e =
        let good = good_found limits (contents_of t) q item [] (contents_of t).items (good_of limits (contents_of t) may) found in
        record {
          used = λ is. false_true (sym fresh ∙ is);
          key = e.key;
          head = e.head ∙ head_is;
          length = stored.reported (by_length e.length);
          kind = λ _. e.kind refl ∙ kind_begun item good.0 good.1 (contents_of t) q;
          whole = λ n whole total p low high. ap (λ z. is_some z) (sym (cells_are p)) ∙ e.whole n whole total p low high;
          cells = λ p. e.cells p ∙ cells_are p;
          reach = λ _. e.reach refl ∙ reach_is;
          bound = λ c. e.bound c ∙ sym (unbound t law none q c);
          first = λ c. e.first c ∙ sym (nobody_says t law none (is_first t q) refl (λ z at. rw at refl) c);
          writer = writer_is v.writer refl k.writer (forgets k.writer e.writer);
          is_lost = e.is_lost ∙ sym held;
          alone = e.alone ∙ sym ((law.sound.rows q v row).store.nobody_alone held);
          is_gone = e.is_gone ∙ sym fresh;
        }
      where
        by_length : KnowsLength k (representation_of_content item) → k.head.total ≡ v.head.total
        by_length (stored.reported is) = is
        by_length (stored.unreported u) = false_true u.gone

  abbrev kept_at : ℕ → Option Kept
  kept_at = (shelf_of r.entries).kept

  unkept : (q : ℕ) → s.representation q ≡ None → kept_at q ≡ None
  unkept q off = grind (arith, nat_tests)

  each : (q : ℕ) → KeepsEntry t q (kept_at q) (t.representation q)
  each q = by_case (remains q)
    where
      by_case : Remains q → KeepsEntry t q (kept_at q) (t.representation q)
      by_case (has_none row off) = rw (row, unkept q off) tt
      by_case (has_gone v row is off) = rw (row, unkept q off) (record { gone = is; unused = none_bound t law none q })
      by_case (has_item v row fresh found) =
          subst (KeepsEntry t q (kept_at q)) (sym row) (by_kept (kept_at q) (subst (KeepsEntry s q (kept_at q)) (loaded_row q v found) (stands.entries.each q)))
        where
          by_kept : (o : Option Kept) → KeepsEntry s q o (Some (representation_of_content (content_of t q v))) → KeepsEntry t q o (Some v)
          by_kept None e = false_true e.gone
          by_kept (Some k) e = entry_is q v row fresh found k e

  -- THE ORDER

  usable_as : (q : ℕ) → is_usable_row (s.representation q) ≡ is_usable_row (t.representation q)
  usable_as q = by_case (remains q)
    where
      by_case : Remains q → is_usable_row (s.representation q) ≡ is_usable_row (t.representation q)
      by_case (has_none row off) = ap is_usable_row off ∙ sym (ap is_usable_row row)
      by_case (has_gone v row is off) = ap is_usable_row off ∙ sym (ap is_usable_row row ∙ ap not is)
      by_case (has_item v row fresh found) = ap is_usable_row (loaded_row q v found) ∙ sym (ap is_usable_row row ∙ ap not fresh)

  used_is : s.used ≡ filter (λ q. is_usable_row (t.representation q)) t.used
  unfolding contents_of
  used_is =
      ap reverse (numbers_are t (reverse t.used))
      ∙ (ap reverse (filter-reverse (λ q. is_idle t q (t.representation q)) t.used)
      ∙ (reverse-reverse (filter (λ q. is_idle t q (t.representation q)) t.used)
      ∙ filters_as (λ q. is_idle t q (t.representation q)) (λ q. is_usable_row (t.representation q)) idle_is t.used))

  order : (shelf_of r.entries).order ≡ filter (λ q. is_usable_row (t.representation q)) t.used
  order = grind (arith, nat_tests, filters_as, usable_as, used_is, filter_twice)

  -- BY KEY

  current_as : (key : List ℕ) → current s key ≡ current t key
  current_as key = by_current (current t key) refl
    where
      by_some : (q : ℕ) → current t key ≡ Some q → Remains q → current s key ≡ Some q
      by_some q at (has_none row off) = (let its = current_row t q key at in none_some its.0 (sym row ∙ its.1))
      by_some q at (has_gone v row is off) = false_true (sym (current_stays t key q v at row) ∙ is)
      by_some q at (has_item v row fresh found) =
          let its = current_row t q key at in
          let same = same_row (t.representation q) v its.0 row its.1 in
          current_is s key q (representation_of_content (content_of t q v)) sound (loaded_row q v found) (ap (λ (z : Representation). z.key) same ∙ its.2) refl

      by_none : (q : ℕ) → current t key ≡ None → current s key ≡ Some q → Remains q → ⊥
      by_none q at is (has_none row off) = (let its = current_row s q key is in none_some its.0 (sym off ∙ its.1))
      by_none q at is (has_gone v row went off) = (let its = current_row s q key is in none_some its.0 (sym off ∙ its.1))
      by_none q at is (has_item v row fresh found) =
          let its = current_row s q key is in
          let same = same_row (s.representation q) (representation_of_content (content_of t q v)) its.0 (loaded_row q v found) its.1 in
          none_some q (sym at ∙ current_is t key q v law.sound row (ap (λ (z : Representation). z.key) same ∙ its.2) fresh)

      none_by : (o : Option ℕ) → current t key ≡ None → current s key ≡ o → o ≡ None
      none_by None at is = refl
      none_by (Some q) at is = absurd (by_none q at is (remains q))

      by_current : (o : Option ℕ) → current t key ≡ o → current s key ≡ current t key
      by_current (Some q) at = by_some q at (remains q) ∙ sym at
      by_current None at = none_by (current s key) at refl ∙ sym at

  no_line : (key : List ℕ) (z : rows.Consumer) → z.place ≡ place.Over → is_in_line key (Some z) ≡ false
  no_line key z at = grind (arith, nat_tests)

  key_as : (key : List ℕ) (k : keyed.Kept) → KeepsKey s key k → KeepsKey t key k
  key_as key k kept = record {
    current = kept.current ∙ current_as key;
    in_line = λ c. kept.in_line c ∙ sym (nobody_says t law none (is_in_line key) refl (no_line key) c);
    passed = λ c. kept.passed c ∙ sym (nobody_says t law none (is_passed key) refl (λ z at. rw at (then_false (bytes_eq z.request.key key) false refl)) c);
    away = λ c. kept.away c ∙ sym (nobody_says t law none (is_away t key) refl (λ z at. rw at (then_false (bytes_eq z.request.key key) false refl)) c);
    holder = λ c. kept.holder c ∙ sym (nobody_says t law none (has_turn key) refl (λ z at. ap (λ (b : Bool). b && holds_turn (Some z)) (no_line key z at)) c);
  }

  -- ALL OF IT

  consumer_as : (c : ℕ) (o : Option Consumer) → KeepsConsumer s o None → KeepsConsumer t o (t.consumer c)
  consumer_as c None kept = nobody t law none c
  consumer_as c (Some k) kept = absurd kept

  running_as : (x : ℕ) (o : Option Open) → KeepsRunning s x o None → KeepsRunning t x o (t.exchange x)
  running_as x None kept = shut t law none x
  running_as x (Some o) kept = absurd kept

  exchange_as : (x : ℕ) (k : Known) → KeepsExchange s x k → KeepsExchange t x k
  exchange_as x k kept = record { running = running_as x k.running kept.running; held = kept.held ∙ sym (none_held t law none x) }

  pub rows_likewise : RowsStand (shelf_of r.entries).limits r t
  unfolding contents_of
  rows_likewise = record {
    limits = stands.limits;
    last_start = stands.last_start;
    next = (let next : next_of r.exchanges ≡ t.opened + 1 - 1 + 1 = stands.next in omega (arith, next));
    count = stands.count ∙ sym none;
    consumers = λ c. consumer_as c (get nat_eq r.consumers c) (stands.consumers c);
    exchanges = λ x. exchange_as x (table_of r.exchanges x) (stands.exchanges x);
    keys = λ key. key_as key (kept_of r.keys key) (stands.keys key);
    entries = record { each = each; order = order };
  }

-- THE CACHE

pub serves_all : {B : Type 0} {g : Ghosts B} (s : Cache B g) (contents : Contents) → s.last_moment ≡ contents.now → may_begin
    (shelf_of s.rows.entries).limits contents ≡ true → RowsStand (shelf_of s.rows.entries).limits s.rows (first_tables contents) → ServesAll s contents
unfolding contents_of
serves_all s contents moment may stands before h begins short run none leaves =
    record {
      begins = begins;
      short = short;
      run = run;
      moment = moment ∙ sym (ap (λ (c : Contents). c.now) leaves);
      rows =
          rows_likewise s.rows (shelf_of s.rows.entries).limits (tables before h) (law_of_runs (shelf_of s.rows.entries).limits before h begins run)
          (measures_in_runs (shelf_of s.rows.entries).limits before h begins run) (heads_grow (shelf_of s.rows.entries).limits before h begins run) none
          (subst (λ (c : Contents). may_begin (shelf_of s.rows.entries).limits c ≡ true) (sym leaves) may)
          (subst (λ (c : Contents). RowsStand (shelf_of s.rows.entries).limits s.rows (first_tables c)) (sym leaves) stands);
    }
