-- What is idle on the shelf, and what each representation weighs there, is what the tables say.
--
-- Both lists are in the same order, so they are compared row by row. What is kept and usable is current for its key,
-- and nobody is bound to it where its list is empty. So the room for a write is the same (`room_is`). The loop evicts
-- one after another. By `HaveGone` the first i of the idle are gone: `none_gone` begins, `one_gone` makes a step, and
-- `all_gone` and `no_more` end it. `make_room` of `hc_on_leave` uses these.
use Rattle.std.{proofs.{Common.{◌≡◌, ◌≢◌, inl, inr, ℕ, suc, ◌+◌, ◌≤◌, List, [], ◌∷◌, ◌++◌, length, take, drop, Bool, true, false, eqb, Option, Some, None, refl, ap, sym, ◌∙◌, subst, arith, rules, zero, add-one}, lemmas.{List.{append_assoc, append-nil}, Bool.Decides.{nat_tests}}}, specs.{Prelude.{is_some, nat_eq, filter, map, reverse, not, ◌&&◌, ◌||◌, ◌==◌}, List.{sum_by, IsDistinct}}}
use Rattle.hc_text.proofs.Basics.{eqb-other, eqb-same, false_true, same_or, some_inj as some_is}
use Rattle.hc_effects.proofs.Vocabulary.{Limits, Act, Room, Write, weight_of, room_of, idle_now, current, is_current, is_number, let_go, let_all_go, MayMakeRoom, MayLetGo, weight_now, weights_now, room_now, giving_way, AreOnce, bound, Tables, Representation, Among, act, room}
use Rattle.hc_store.specs.declared.backend.Backend.{Ghosts}
use Rattle.hc_stored.specs.{Entries.{shelf_of}, Kept.{Kept, is_nobody}, Shelf.{Shelf, idle, is_unused, weigh_kept, weight_at, first_of}}
use Rattle.hc_text.specs.Sorted.{itself, has}
use Rattle.hc_stored.proofs.{OrderLemmas.{distinct-first}, WeightLemmas.{weight-kept}}
use Rattle.hc_sparse.proofs.SizeLemmas.{size-same}
use Rattle.hc_model.specs.{Contents.{is_idle}, LettingGo.{weight_in, first_idle}}
use Rattle.hc_effects.proofs.{Basics.{same_functions, number_is}, IdleNow.{filter_both}, LettingGo.{current_may, keeps_may_all, all_more, idle_after}, PollKeeps.{current_stays}, Tests.{none_some}}
use Rattle.hc_state.specs.{declared.rows.Rows.{Rows}, Room.{LeavesActs, room_for_write, GivesWay, Appends}, Stands.{RowsStand}, Stored.{KeepsEntry, is_usable_row}}
use Rattle.hc_state.proofs.{BoundLists.{nobody_bound}, LiveCounts.{filter-reverse}}

-- LISTS OF NUMBERS

not_among : (n : ℕ) (ns : List ℕ) → (Among n ns → ⊥) → has itself n ns ≡ false
not_among n [] out = refl
not_among n (m ∷ ns) out = elim (same_or m n) [
  | inl here ↦ absurd (out (inl here))
  | inr other ↦ rw (eqb-other m n other) (not_among n ns (λ among. out (inr among)))
]

among_has : (n : ℕ) (ns : List ℕ) → Among n ns → has itself n ns ≡ true
among_has n [] among = absurd among
among_has n (m ∷ ns) (inl here) = rw (here, eqb-same n) refl
among_has n (m ∷ ns) (inr later) = rw (among_has n ns later) (grind (arith, nat_tests))

distinct_once : (ns : List ℕ) → AreOnce ns → IsDistinct nat_eq ns
unfolding IsDistinct
distinct_once [] once = search rules
distinct_once (n ∷ ns) once = distinct-first n ns (not_among n ns once.0) (distinct_once ns once.1)

-- WHAT THE SHELF SAYS

module _ {B : Type 0} {g : Ghosts B} {limits : Limits} (r : Rows B g) (t : Tables) (may : MayLetGo t) (stands : RowsStand limits r t) where
  abbrev shelf : Shelf
  shelf = shelf_of r.entries

  -- what is gone isn't current
  not_current : (q : ℕ) (v : Representation) → t.representation q ≡ Some v → v.is_gone ≡ true → is_current t v.key q ≡ false
  not_current q v row gone = grind (arith, nat_tests, is_current, current_stays, number_is, current)

  is_current_here : (q : ℕ) (v : Representation) → t.representation q ≡ Some v → v.is_gone ≡ false → is_current t v.key q ≡ true
  is_current_here q v row fresh = ap (λ o. is_number o q) (current_may t may q v row fresh) ∙ eqb-same q

  row_idle : (q : ℕ) (o : Option Kept) (z : Option Representation) → t.representation q ≡ z → KeepsEntry t q o z →
      is_idle t q z ≡ (is_usable_row z && is_unused o)
  row_idle q None None row entry = refl
  row_idle q (Some k) None row entry = absurd entry
  row_idle q None (Some v) row entry = rw (not_current q v row entry.gone, entry.gone) refl
  row_idle q (Some k) (Some v) row entry = by_gone v.is_gone refl
    where
      by_gone : (b : Bool) → v.is_gone ≡ b → is_idle t q (Some v) ≡ (not v.is_gone && is_nobody k.bound)
      by_gone true gone = rw (not_current q v row gone, gone) refl
      by_gone false fresh = rw (is_current_here q v row fresh, fresh) (sym (nobody_bound t may.started q k v entry))

  pub idle_is : idle shelf ≡ idle_now t
  idle_is =
      ap (λ qs. filter (λ q. is_unused (shelf.kept q)) (reverse qs)) stands.entries.order
      ∙ (ap (filter (λ q. is_unused (shelf.kept q))) (sym (filter-reverse (λ q. is_usable_row (t.representation q)) t.used))
      ∙ sym (filter_both (λ q. is_idle t q (t.representation q)) (λ q. is_unused (shelf.kept q)) (λ q. is_usable_row (t.representation q)) (reverse t.used)
      (λ q. row_idle q (shelf.kept q) (t.representation q) refl (stands.entries.each q))))

module _ {B : Type 0} {g : Ghosts B} {limits : Limits} (r : Rows B g) (t : Tables) (law : MayMakeRoom t) (stands : RowsStand limits r t) where
  abbrev its : Shelf
  its = shelf_of r.entries

  row_weight : (q : ℕ) (o : Option Kept) (z : Option Representation) → t.representation q ≡ z → KeepsEntry t q o z → weigh_kept o ≡ weight_in t q z
  row_weight q None None row entry = refl
  row_weight q (Some k) None row entry = absurd entry
  row_weight q None (Some v) row entry = rw (not_current r t law.may stands q v row entry.gone, entry.unused) refl
  row_weight q (Some k) (Some v) row entry =
      ap weight_of (size-same k.cells v.stored entry.cells ∙ sym (law.sized q v row entry.used)) ∙ sym (rw (held v.is_gone refl) refl)
    where
      some_length : (cs : List ℕ) → cs ≢ [] → not (length cs == 0) ≡ true
      some_length [] some = absurd (some refl)
      some_length (c ∷ cs) some = let no : nat_eq (length (c ∷ cs)) 0 ≡ false = grind (arith, nat_tests) in rw no refl

      either : (b : Bool) → (b || true) ≡ true
      either true = refl
      either false = refl

      held : (b : Bool) → v.is_gone ≡ b → (is_current t v.key q || not (length (bound t q) == 0)) ≡ true
      held false fresh = rw (is_current_here r t law.may stands q v row fresh) refl
      held true gone = rw (some_length (bound t q) (entry.used gone)) (either (is_current t v.key q))

  pub weight_is : (q : ℕ) → weight_at its q ≡ weight_now t q
  weight_is q = row_weight q (its.kept q) (t.representation q) refl (stands.entries.each q)

  founded_here : (q : ℕ) → is_some (its.kept q) ≡ true → is_some (t.representation q) ≡ true
  founded_here q some = grind (arith, nat_tests)

  pub used_is : its.used ≡ weights_now t
  used_is =
      weight-kept r.entries.shelved t.founded (distinct_once t.founded law.founded) (λ q some. among_has q t.founded (law.may.founded q (founded_here q some)))
      ∙ ap (λ f. sum_by f t.founded) (same_functions (weight_at its) (weight_now t) weight_is)

  -- so the room is
  pub room_is : (write : Write) → room_of its.limits its.used write (map (weight_at its) (idle its)) ≡ room_now limits t write
  room_is write = grind (arith, nat_tests, used_is, idle_is, same_functions, its, weight_is)

-- THE LOOP

first_is : (xs : List ℕ) (n : ℕ) → Some n ≡ first_of xs → (rest : List ℕ) × (xs ≡ n ∷ rest)
first_is [] n is = none_some n (sym is)
first_is (x ∷ xs) n is = (xs, ap (λ m. m ∷ xs) (some_is x n (sym is)))

none_first : (xs : List ℕ) → None ≡ first_of xs → xs ≡ []
none_first xs is = grind (arith, nat_tests)

take_next : (i n : ℕ) (xs rest : List ℕ) → drop i xs ≡ n ∷ rest → take (i + 1) xs ≡ take i xs ++ n ∷ []
take_next i n xs rest is = rw add-one (by_clause i xs is)
  where
    by_clause : (i : ℕ) (xs : List ℕ) → drop i xs ≡ n ∷ rest → take (suc i) xs ≡ take i xs ++ n ∷ []
    by_clause zero [] never = cc
    by_clause zero (x ∷ xs) same = let one : x ≡ n = cc in ap (λ m. m ∷ []) one
    by_clause (suc i) [] never = cc
    by_clause (suc i) (x ∷ xs) same = ap (λ ys. x ∷ ys) (by_clause i xs same)

take_rest : (i : ℕ) (xs : List ℕ) → take i xs ++ drop i xs ≡ xs
take_rest zero xs = refl
take_rest (suc i) [] = refl
take_rest (suc i) (x ∷ xs) = ap (λ ys. x ∷ ys) (take_rest i xs)

take_all : (i count : ℕ) (xs : List ℕ) → i ≤ count → drop i xs ≡ [] → take count xs ≡ take i xs
take_all zero zero xs le is = refl
take_all zero (suc count) xs le is = rw is refl
take_all (suc i) zero xs le is = absurd (omega (arith, le))
take_all (suc i) (suc count) [] le is = refl
take_all (suc i) (suc count) (x ∷ xs) le is = ap (λ ys. x ∷ ys) (take_all i count xs (omega (arith, le)) is)

map-append : (xs ys : List ℕ) → map act.Evicted (xs ++ ys) ≡ map act.Evicted xs ++ map act.Evicted ys
map-append [] ys = refl
map-append (x ∷ xs) ys = ap (λ zs. act.Evicted x ∷ zs) (map-append xs ys)

-- The first i of those that were idle are evicted.
pub record HaveGone {B : Type 0} {g : Ghosts B} (r u : Rows B g) (now i : ℕ) (before out : List Act) (whole spare : ℕ) : Type 0 where
  pub gone : (limits : Limits) (t : Tables) → MayMakeRoom t → RowsStand limits r t → GivesWay limits u t now (take i (idle_now t)) before out
  pub appends : Appends before out
  pub fits : spare + i ≡ whole
  pub last_start : u.last_start ≡ r.last_start
  pub exchanges : u.exchanges ≡ r.exchanges
  pub faults : (shelf_of u.entries).faults ≡ (shelf_of r.entries).faults

pub none_gone : {B : Type 0} {g : Ghosts B} (r : Rows B g) (now : ℕ) (before : List Act) (whole : ℕ) → HaveGone r r now 0 before before whole whole
none_gone r now before whole = record {
  gone = λ limits t law stands. record { acts = sym (append-nil before); rows = stands };
  appends = ([], sym (append-nil before));
  fits = omega arith;
  last_start = refl;
  exchanges = refl;
  faults = refl;
}

module _ {B : Type 0} {g : Ghosts B} (r u : Rows B g) (now i : ℕ) (before out : List Act) (whole spare : ℕ)
    (gone : HaveGone r u now i before out whole spare) where
  -- what is idle then
  idle_then : {limits : Limits} (t : Tables) → MayMakeRoom t → RowsStand limits r t → idle (shelf_of u.entries) ≡ drop i (idle_now t)
  idle_then t law stands =
      idle_is u (let_all_go now (take i (idle_now t)) t) (keeps_may_all now (take i (idle_now t)) t law.may) (gone.gone _ t law stands).rows
      ∙ idle_after now (take i (idle_now t)) (drop i (idle_now t)) t law.may law.used (sym (take_rest i (idle_now t)))

  pub one_gone : (next : Rows B g) (n : ℕ) (after : List Act) (left : ℕ) → Some n ≡ first_of (idle (shelf_of u.entries)) → after ≡ out ++
      (act.Evicted n ∷ []) → left + 1 ≡ spare
      → ((limits : Limits) (t : Tables) → MayLetGo t → RowsStand limits u t → RowsStand limits next (let_go now n t)) → next.last_start ≡ u.last_start →
      next.exchanges ≡ u.exchanges
      → (shelf_of next.entries).faults ≡ (shelf_of u.entries).faults → HaveGone r next now (i + 1) before after whole left
  one_gone next n after left first acts less goes last exchanges faults = record {
    gone = λ limits t law stands.
        let xs = idle_now t in
        let was = gone.gone _ t law stands in
        let found = first_is (drop i xs) n (first ∙ ap first_of (idle_then t law stands)) in
        let more : take (i + 1) xs ≡ take i xs ++ n ∷ [] = take_next i n xs found.0 found.1 in
        record {
          acts = acts ∙ (ap (λ zs. zs ++ (act.Evicted n ∷ [])) was.acts ∙ (append_assoc before (map act.Evicted (take i xs)) (act.Evicted n ∷ [])
              ∙ (ap (λ zs. before ++ zs) (sym (map-append (take i xs) (n ∷ []))) ∙ ap (λ zs. before ++ map act.Evicted zs) (sym more))));
          rows = subst (RowsStand limits next) (sym (ap (λ zs. let_all_go now zs t) more ∙ all_more now (take i xs) (n ∷ []) t))
              (goes _ (let_all_go now (take i xs) t) (keeps_may_all now (take i xs) t law.may) was.rows);
        };
    appends = (
      gone.appends.0 ++ (act.Evicted n ∷ []),
      acts ∙
          (ap (λ zs. zs ++ (act.Evicted n ∷ [])) gone.appends.1 ∙ append_assoc before gone.appends.0 (act.Evicted n ∷ [])),
    );
    fits = (let fits = gone.fits in omega (arith, fits, less));
    last_start = last ∙ gone.last_start;
    exchanges = exchanges ∙ gone.exchanges;
    faults = faults ∙ gone.faults;
  }

  -- the room is that of the tables
  way_is : (write : Write) (count : ℕ) → room_for_write r write ≡ room.After count → (limits : Limits) (t : Tables) → MayMakeRoom t →
      RowsStand limits r t → giving_way limits t write ≡ take count (idle_now t)
  way_is write count is limits t law stands = ap (first_idle t) (sym (room_is r t law stands write) ∙ is)

  pub all_gone : (write : Write) (count : ℕ) → room_for_write r write ≡ room.After count → i ≡ count → (limits : Limits) (t : Tables) → MayMakeRoom t →
      RowsStand limits r t → GivesWay limits u t now (giving_way limits t write) before out
  all_gone write count is end limits t law stands =
      subst (λ zs. GivesWay limits u t now zs before out) (ap (λ n. take n (idle_now t)) end ∙ sym (way_is write count is _ t law stands))
      (gone.gone _ t law stands)

  -- nothing more is idle
  pub no_more : (write : Write) (count : ℕ) → room_for_write r write ≡ room.After count → i ≤ count → None ≡ first_of (idle (shelf_of u.entries)) →
      (limits : Limits) (t : Tables) → MayMakeRoom t → RowsStand limits r t → GivesWay limits u t now (giving_way limits t write) before out
  no_more write count is le none limits t law stands =
      let empty : drop i (idle_now t) ≡ [] = none_first (drop i (idle_now t)) (none ∙ ap first_of (idle_then t law stands)) in
      subst (λ zs. GivesWay limits u t now zs before out) (sym (take_all i count (idle_now t) le empty) ∙ sym (way_is write count is _ t law stands))
      (gone.gone _ t law stands)

-- nothing gives way where that makes no room
pub none_way : {B : Type 0} {g : Ghosts B} (r : Rows B g) (now : ℕ) (write : Write) (before : List Act) →
    ((count : ℕ) → room_for_write r write ≡ room.After count → ⊥) → (limits : Limits) (t : Tables) → MayMakeRoom t → RowsStand limits r t
    → GivesWay limits r t now (giving_way limits t write) before before
none_way r now write before never limits t law stands =
    subst (λ zs. GivesWay limits r t now zs before before) (sym (by_room (room_for_write r write) refl))
    (record { acts = sym (append-nil before); rows = stands })
  where
    by_room : (z : Room) → room_for_write r write ≡ z → giving_way limits t write ≡ []
    by_room (room.After count) is = absurd (never count is)
    by_room _ is = ap (first_idle t) (sym (room_is r t law stands write) ∙ is)

pub leaves_all : (before : ℕ) (z : Room) → ((count : ℕ) → z ≡ room.After count → ⊥) → LeavesActs before before z
leaves_all before (room.After count) never = absurd (never count refl)
leaves_all before _ never = refl
