-- Who goes on with what several read together is whom the tables name, and nothing is held for it yet.
--
-- The code tells the writer group where each member stands, and that answers its survivor. Whoever is bound is a member,
-- and stands where the tables say (`placed_as`), so both name the least of the same consumers (`named`, `members_in`,
-- `survivor_is`). Since it stands at the end, no byte of its exchange is left that isn't stored for it (`nothing_held`).
-- `loses_shared` joins these with `stands_parted` of `LoseParts` and the loss of the entry, for `lose_shared`.
use Rattle.std.{proofs.{Common.{◌≡◌, ℕ, ◌+◌, ◌-◌, ◌≤◌, ◌^◌, List, [], ◌∷◌, drop, min, Bool, true, false, Option, Some, None, refl, ap, ap₂, sym, ◌∙◌, subst, arith}, lemmas.{Bool.Decides.{nat_tests}, List.{drop_all}}}, specs.{Prelude.{is_some, is_none, nat_eq, filter, map, option_map, not, IfSome, ◌&&◌, ◌||◌, ◌==◌, if◌then◌else◌}, Option.{option_and_then}, HashMap.{get}}}
use Rattle.hc_text.proofs.Basics.{eqb-same, false_true, or_right, same_some as same_row, some_inj as some_is, and_off as then_false}
use Rattle.hc_effects.proofs.Vocabulary.{Limits, Member, Place, is_number, is_live_place, if_bound, left_with, let_go, group_lost, base, front, family, MayLetGo, bound, is_bound, is_bound_place, offset, lo_of, Tables, Exchange, Representation, survivor, member, offset_in, cause, place}
use Rattle.hc_effects.proofs.{Tests.{none_some}, HoleLemmas.{first_from}}
use Rattle.hc_store.specs.declared.backend.Backend.{Ghosts}
use Rattle.hc_stored.specs.{declared.entries.Entries.{Entries}, Entries.{shelf_of}, Grouped.{group_of}, Groups.{HasMembers, IsGroupOf, exchange_of}, Kept.{Kept, kept_as_lost}, Shelf.{is_kept}, Views.{bound_in}}
use Rattle.hc_text.specs.Sorted.{itself, is_among, has}
use Rattle.hc_stored.specs.Shelf as shelf
use Rattle.hc_rules.specs.Admissions as members
use Rattle.hc_model.specs.Rows as rows
use Rattle.hc_writers.specs.Group.{Group, consumer_of}
use Rattle.hc_writers.specs.Group as writer_group
use Rattle.hc_state.specs.{declared.rows.Rows.{Rows}, Changes.{Numbered}, DetachedReaders.{ChangesEach, MayLoseShared, LosesShared, after_parting}, Kept.{KeepsConsumer, unstored_bytes, held_alone, first_lacking}, Stands.{RowsStand}, Stopped.{HoldsNothing}, Stored.{IsEntry, KeepsEntry, KnowsWriter, as_written, forgotten, is_over}}
use Rattle.hc_txn.specs.declared.transaction.Transaction.{Transaction as Consumer}
use Rattle.hc_on_leave.specs.Reporting.{placed, placed_among, reported_among}
use Rattle.hc_on_leave.proofs.LoseParts as parts
use Rattle.hc_state.proofs.{Losing.{may_lost, stands_lost}, ReaderSteps.{stands_read}, TurnTies.{least_alike, least_some, filter_in, among_in}}

-- WHO STANDS THERE

-- who is named among the members that stand there
pub members_in : (t : Tables) (end c : ℕ) (cs : List ℕ) →
    is_among c (map (λ (m : Member). m.c) (filter (members.stands_at end) (map (member t) cs))) ≡ ((offset_in t (t.consumer c) == end) && is_among c cs)
members_in t end c [] = grind (arith, nat_tests)
members_in t end c (d ∷ cs) = by_test (offset_in t (t.consumer d) == end) refl (members_in t end c cs)
  where
    stood : (n : ℕ) → Bool
    stood n = offset_in t (t.consumer n) == end

    later : List ℕ
    later = map (λ (m : Member). m.c) (filter (members.stands_at end) (map (member t) cs))

    swaps : (e b rest : Bool) → (e ≡ true → b ≡ true) → (e || (b && rest)) ≡ (b && (e || rest))
    swaps true true rest same = refl
    swaps true false rest same = false_true (same refl)
    swaps false b rest same = refl

    drops : (e b rest : Bool) → (e ≡ true → b ≡ false) → (b && rest) ≡ (b && (e || rest))
    drops e false rest same = refl
    drops true true rest same = false_true (sym (same refl))
    drops false true rest same = refl

    eq_by : nat_eq d c ≡ true → d ≡ c
    eq_by on = grind (arith, nat_tests, on)

    by_test : (b : Bool) → (offset_in t (t.consumer d) == end) ≡ b → is_among c later ≡ (stood c && is_among c cs) →
        is_among c (map (λ (m : Member). m.c) (filter (members.stands_at end) (map (member t) (d ∷ cs)))) ≡ (stood c && is_among c (d ∷ cs))
    by_test true is rest = rw (is, rest) (swaps (nat_eq d c) (stood c) (is_among c cs) (λ on. ap stood (sym (eq_by on)) ∙ is))
    by_test false is rest = rw (is, rest) (drops (nat_eq d c) (stood c) (is_among c cs) (λ on. ap stood (sym (eq_by on)) ∙ is))

-- who is named among those that stand there, where each stands as this says
pub named : (f : Member → Member) (stood : ℕ → Bool) (end : ℕ) (all : List ℕ) → ((m : Member) → (f m).c ≡ m.c) →
    ((m : Member) → is_among m.c all ≡ true → members.stands_at end (f m) ≡ stood m.c)
    → (c : ℕ) (ms : List Member) → ((n : ℕ) → is_among n (map consumer_of ms) ≡ true → is_among n all ≡ true) →
    is_among c (map consumer_of (filter (members.stands_at end) (map f ms))) ≡ (stood c && is_among c (map consumer_of ms))
named f stood end all same stands c [] within = sym (then_false (stood c) false refl)
named f stood end all same stands c (m ∷ ms) within =
    by_test (stood m.c) refl (named f stood end all same stands c ms (λ n on. within n (or_right (nat_eq m.c n) (is_among n (map consumer_of ms)) on)))
  where
    later : List ℕ
    later = map consumer_of (filter (members.stands_at end) (map f ms))

    rest : List ℕ
    rest = map consumer_of ms

    here : members.stands_at end (f m) ≡ stood m.c
    here = stands m (within m.c (let one = eqb-same m.c in rw one refl))

    eq_by : nat_eq m.c c ≡ true → m.c ≡ c
    eq_by on = grind (arith, nat_tests, on)

    swaps : (e b r : Bool) → (e ≡ true → b ≡ true) → (e || (b && r)) ≡ (b && (e || r))
    swaps true true r same = refl
    swaps true false r same = false_true (same refl)
    swaps false b r same = refl

    drops : (e b r : Bool) → (e ≡ true → b ≡ false) → (b && r) ≡ (b && (e || r))
    drops e false r same = refl
    drops true true r same = false_true (sym (same refl))
    drops false true r same = refl

    by_test : (b : Bool) → stood m.c ≡ b → is_among c later ≡ (stood c && is_among c rest) →
        is_among c (map consumer_of (filter (members.stands_at end) (map f (m ∷ ms)))) ≡ (stood c && is_among c (map consumer_of (m ∷ ms)))
    by_test true is before = rw (here ∙ is, same m, before) (swaps (nat_eq m.c c) (stood c) (is_among c rest) (λ on. ap stood (sym (eq_by on)) ∙ is))
    by_test false is before = rw (here ∙ is, before) (drops (nat_eq m.c c) (stood c) (is_among c rest) (λ on. ap stood (sym (eq_by on)) ∙ is))

-- who is bound is listed
pub bound_among : (t : Tables) (q c : ℕ) → MayLetGo t → is_among c (bound t q) ≡ is_bound q (t.consumer c)
unfolding bound
bound_among t q c may = grind (arith, nat_tests, filter_in, is_bound, among_in)

-- the survivor is one of those who are bound, and stands at the end
pub survivor_among : (t : Tables) (q c : ℕ) (v : Representation) → survivor t q v ≡ Some c →
    ((offset_in t (t.consumer c) == v.reach) && is_among c (bound t q)) ≡ true
survivor_among t q c v is = sym (members_in t v.reach c (bound t q)) ∙ (least_some _ c is).among

-- THE HEIR

-- who is told keeps its number
pub reported_number : (consumers : Numbered Consumer) (cs : List ℕ) (m : Member) → (placed_among consumers cs m).c ≡ m.c
reported_number consumers cs m = by_test (has itself m.c cs) (get nat_eq consumers m.c)
  where
    by_test : (b : Bool) (o : Option Consumer) → (if b then placed m o else m).c ≡ m.c
    by_test true None = refl
    by_test true (Some k) = refl
    by_test false o = refl

pub reported_numbers : (consumers : Numbered Consumer) (cs : List ℕ) (ms : List Member) →
    map consumer_of (map (placed_among consumers cs) ms) ≡ map consumer_of ms
reported_numbers consumers cs [] = refl
reported_numbers consumers cs (m ∷ ms) = ap₂ (λ (n : ℕ) (ns : List ℕ). n ∷ ns) (reported_number consumers cs m) (reported_numbers consumers cs ms)

module _ {B : Type 0} {g : Ghosts B} {limits : Limits} (r : Rows B g) (t : Tables) (stands : RowsStand limits r t) (may : MayLetGo t) (q : ℕ)
    (v : Representation) (row : t.representation q ≡ Some v) (kept : v.is_lost ≡ false) (e : Kept) (there : (shelf_of r.entries).kept q ≡ Some e) where
  is : IsEntry t q e v
  is = subst (λ k. KeepsEntry t q k (Some v)) there (subst (KeepsEntry t q ((shelf_of r.entries).kept q)) row (stands.entries.each q))

  abbrev stood : ℕ → Bool
  stood c = offset_in t (t.consumer c) == v.reach

  least_of : (a b n : ℕ) → a ≡ b → n ≤ 2 ^ 62 → (min a (2 ^ 64 - 1) == n) ≡ (b == n)
  least_of a b n same within = grind (arith, nat_tests)

  -- whoever is bound stands where the tables have it
  placed_as : v.reach ≤ 2 ^ 62 → (m : Member) (o : Option Consumer) (k : Option rows.Consumer) → KeepsConsumer t o k → is_bound q k ≡ true →
      members.stands_at v.reach (placed m o) ≡ (offset_in t k == v.reach)
  placed_as within m o None keeps on = false_true on
  placed_as within m None (Some k) keeps on = by_place k.place keeps on
    where
      by_place : (p : Place) → is_live_place p ≡ false → is_bound_place q p ≡ true →
          members.stands_at v.reach (placed m None) ≡ (offset_in t (Some k) == v.reach)
      by_place place.Over off there_on = false_true there_on
      by_place place.Line off _ = false_true (sym off)
      by_place (place.Passed n how) off _ = false_true (sym off)
      by_place (place.Turn x) off _ = false_true (sym off)
      by_place (place.Bound n lo hi how) off _ = false_true (sym off)
      by_place (place.Direct x) off _ = false_true (sym off)
      by_place (place.Down why) off _ = false_true (sym off)
  placed_as within m (Some c) (Some k) keeps on = least_of (c.lo + c.given) (offset t k) v.reach (ap₂ (λ (a b : ℕ). a + b) keeps.begins keeps.given) within

  -- whom the group answers is the survivor
  pub survivor_is : (w : Group) → HasMembers e.bound e.reach (reported_among r.consumers e.bound w) → e.reach ≤ 2 ^ 62 →
      writer_group.survivor (reported_among r.consumers e.bound w) ≡ survivor t q v
  survivor_is w group within =
      let reach : e.reach ≡ v.reach = is.reach kept in
      let end : w.end ≡ v.reach = group.end ∙ reach in
      let below : v.reach ≤ 2 ^ 62 = subst (λ (n : ℕ). n ≤ 2 ^ 62) reach within in
      let numbers : map consumer_of w.members ≡ e.bound = sym (reported_numbers r.consumers e.bound w.members) ∙ group.members in
      least_alike (map consumer_of (filter (members.stands_at w.end) (map (placed_among r.consumers e.bound) w.members)))
      (map consumer_of (filter (members.stands_at v.reach) (map (member t) (bound t q)))) (λ c.
      ap (λ (n : ℕ). is_among c (map consumer_of (filter (members.stands_at n) (map (placed_among r.consumers e.bound) w.members)))) end
      ∙ (named (placed_among r.consumers e.bound) stood v.reach e.bound (reported_number r.consumers e.bound) (here below) c w.members
      (λ n on. sym (ap (is_among n) numbers) ∙ on)
      ∙ (ap (λ (ns : List ℕ). stood c && is_among c ns) numbers
      ∙ (ap (λ (b : Bool). stood c && b) (is.bound c ∙ sym (bound_among t q c may))
      ∙ sym (members_in t v.reach c (bound t q))))))
    where
      here : v.reach ≤ 2 ^ 62 → (m : Member) → is_among m.c e.bound ≡ true → members.stands_at v.reach (placed_among r.consumers e.bound m) ≡ stood m.c
      here below m on = ap (λ (b : Bool). members.stands_at v.reach (if b then placed m (get nat_eq r.consumers m.c) else m)) on ∙
          (placed_as below m (get nat_eq r.consumers m.c) (t.consumer m.c) (stands.consumers m.c) (sym (is.bound m.c) ∙ on))

-- NOTHING IS HELD FOR IT YET

module _ (t : Tables) (q x : ℕ) (v : Representation) (loses : MayLoseShared t q x v) where
  abbrev z : Tables
  z = group_lost q (survivor t q v) (Some x) t

  eq_true : (a b : ℕ) → (a == b) ≡ true → a ≡ b
  eq_true a b on = grind (arith, nat_tests, on)

  and_first : (a b : Bool) → (a && b) ≡ true → a ≡ true
  and_first a b on = grind (arith, nat_tests)

  lo_same : (p : Place) → lo_of z p ≡ lo_of t p
  lo_same p = grind (arith, nat_tests)

  -- it stands where all that came ends
  at_end : (c : ℕ) (k : rows.Consumer) → survivor t q v ≡ Some c → t.consumer c ≡ Some k → offset z k ≡ v.reach
  at_end c k is row =
      ap (λ (n : ℕ). n + k.given) (lo_same k.place)
      ∙ eq_true (offset t k) v.reach (sym (ap (λ (o : Option rows.Consumer). offset_in t o == v.reach) row) ∙ and_first _ _ (survivor_among t q c v is))

  nothing_by : (y : ℕ) (w : Exchange) (u : rows.Consumer) → t.exchange y ≡ Some w → offset z u ≡ v.reach → u.own ≡ Some x → unstored_bytes z y w v (Some u) ≡ []
  nothing_by y w u at stands_there mine = by_test (nat_eq x y) refl
    where
      all : x ≡ y → drop (first_lacking z w v u - base w) w.body ≡ []
      all e =
          let one : w ≡ loses.w = same_row (t.exchange x) w loses.w (ap t.exchange e ∙ at) loses.row in
          let ends : front w ≡ v.reach = ap front one ∙ loses.front_is in
          let from : offset z u ≤ first_lacking z w v u = first_from is_none v.stored (offset z u) (min (front w) v.reach - offset z u) in
          drop_all (first_lacking z w v u - base w) w.body (omega (arith, ends, from, stands_there))

      by_test : (b : Bool) → nat_eq x y ≡ b → unstored_bytes z y w v (Some u) ≡ []
      by_test true on = by_bound (is_bound_place (family y w) u.place && is_number u.own y)
        where
          by_bound : (b : Bool) → (if b then drop (first_lacking z w v u - base w) w.body else []) ≡ []
          by_bound true = all (eq_true x y on)
          by_bound false = refl
      by_test false off =
          let other : is_number u.own y ≡ false = ap (λ (o : Option ℕ). is_number o y) mine ∙ off in
          ap (λ b. if b then drop (first_lacking z w v u - base w) w.body else []) (then_false (is_bound_place (family y w) u.place) (is_number u.own y) other)

  pub nothing_held : HoldsNothing z q v (survivor t q v)
  nothing_held y w at of_q = by_detached_reader (survivor t q v) refl
    where
      by_row : (c : ℕ) → survivor t q v ≡ Some c → (o : Option rows.Consumer) → t.consumer c ≡ o →
          unstored_bytes z y w v (option_map (if_bound q (left_with q (survivor t q v) (Some x) c)) o) ≡ []
      by_row c is None row = refl
      by_row c is (Some k) row = by_bound (is_bound_place q k.place) refl
        where
          detached_reader_so : is_number (survivor t q v) c ≡ true
          detached_reader_so = ap (λ (o : Option ℕ). is_number o c) is ∙ eqb-same c

          by_bound : (b : Bool) → is_bound_place q k.place ≡ b → unstored_bytes z y w v (Some (if b then left_with q (survivor t q v) (Some x) c k else k)) ≡ []
          by_bound true on = rw detached_reader_so (nothing_by y w (record k { own = Some x }) at (at_end c k is row) refl)
          by_bound false off =
              let apart_here : is_bound_place (family y w) k.place ≡ false = ap (λ (n : ℕ). is_bound_place n k.place) of_q ∙ off in
              rw apart_here refl

      by_detached_reader : (o : Option ℕ) → survivor t q v ≡ o → held_alone z y w v o ≡ []
      by_detached_reader None is = refl
      by_detached_reader (Some c) is = by_row c is (t.consumer c) refl

-- ALL OF IT

-- what is kept names the exchange that writes it
writer_kept : (t : Tables) (x : ℕ) (w : Exchange) (mine reported : Option ℕ) → KnowsWriter t.exchange mine reported → reported ≡ Some x →
    t.exchange x ≡ Some w → w.is_open ≡ true → mine ≡ Some x
writer_kept t x w mine reported (as_written same) named row opened = same ∙ named
writer_kept t x w mine reported (forgotten y none at over) named row opened =
    let one : y ≡ x = some_is y x (sym at ∙ named) in
    let open_still : is_over (t.exchange y) ≡ not w.is_open = ap is_over (ap t.exchange one ∙ row) in
    false_true (ap not (sym opened) ∙ (sym open_still ∙ over))

bound_lost : (o : Option ℕ) (k : Option Kept) → bound_in (option_map (kept_as_lost o) k) ≡ bound_in k
bound_lost o None = refl
bound_lost o (Some k) = refl

pub loses_shared : {B : Type 0} {g : Ghosts B} {limits : Limits} (r u : Rows B g) (reported lost : Entries B g) (consumers : Numbered Consumer)
    (t : Tables) (now q x : ℕ) (v : Representation) (o : Option ℕ) → MayLoseShared t q x v → RowsStand limits r t → is_kept (shelf_of r.entries) q ≡ true
    → shelf.Stays (shelf_of r.entries) (shelf_of reported) →
    group_of reported q ≡ option_map (reported_among r.consumers (bound_in ((shelf_of r.entries).kept q))) (group_of r.entries q) →
    IfSome ((shelf_of reported).kept q) (IsGroupOf (group_of reported q))
    → o ≡ option_and_then writer_group.survivor (group_of reported q) →
    shelf.Becomes (option_map (kept_as_lost o)) shelf.same_order q (shelf_of reported) (shelf_of lost)
    → ChangesEach r.consumers consumers (λ d. has itself d (bound_in ((shelf_of lost).kept q))) (after_parting o x (cause.StoreWrite q))
    → ((limits : Limits) (s : Tables) → MayLetGo s → RowsStand limits (record r { entries = lost; consumers = consumers }) s →
    RowsStand limits u (let_go now q s))
    → LosesShared limits u t now q x v o
loses_shared {B} {g} {limits} r u reported lost consumers t now q x v o may stands there stays group grouped answer changed changes goes =
    by_kept ((shelf_of r.entries).kept q) refl there
  where
    asked : Rows B g
    asked = record r { entries = reported }

    parted : Rows B g
    parted = record r { entries = reported; consumers = consumers }

    over : Rows B g
    over = record r { entries = lost; consumers = consumers }

    stood : RowsStand limits asked t
    stood = stands_read r asked t refl refl refl refl stays stands

    by_kept : (k : Option Kept) → (shelf_of r.entries).kept q ≡ k → is_some k ≡ true → LosesShared limits u t now q x v o
    by_kept None at on = false_true on
    by_kept (Some e) at on =
        let now_at : (shelf_of reported).kept q ≡ Some e = stays.kept q ∙ at in
        let entry : IsEntry t q e v =
        subst (λ k. KeepsEntry t q k (Some v)) at (subst (KeepsEntry t q ((shelf_of r.entries).kept q)) may.there (stands.entries.each q)) in
        let of_group : IsGroupOf (group_of reported q) e = subst (λ k. IfSome k (IsGroupOf (group_of reported q))) now_at grouped in
        let same : o ≡ survivor t q v = by_group e at entry of_group (group_of r.entries q) refl in
        let z : Tables = group_lost q o (Some x) t in
        let lost_as : (shelf_of lost).kept q ≡ option_map (kept_as_lost o) ((shelf_of reported).kept q) = changed.kept q ∙ rw (eqb-same q) refl in
        let bound_as : bound_in ((shelf_of lost).kept q) ≡ e.bound = ap bound_in lost_as ∙ (bound_lost o ((shelf_of reported).kept q) ∙ ap bound_in now_at) in
        let alike : (d : ℕ) → has itself d (bound_in ((shelf_of lost).kept q)) ≡ is_bound q (t.consumer d) = λ d. ap (has itself d) bound_as ∙ entry.bound d in
        let nothing : HoldsNothing z q v o = subst (λ (n : Option ℕ). HoldsNothing (group_lost q n (Some x) t) q v n) (sym same) (nothing_held t q x v may) in
        record {
          detached_reader_is = same;
          rows = goes _ _ (may_lost z q v o may.there (parts.may_part t q x o may.may))
              (stands_lost parted over z q v o may.there
              (parts.stands_parted asked parted t q x o v (λ d. has itself d (bound_in ((shelf_of lost).kept q))) stood may.there may.nobody refl refl
              refl refl (λ d some. alike d) changes)
              may.nobody nothing refl refl refl refl changed (ap (λ k. is_some k) now_at));
        }
      where
        by_group : (e : Kept) → (shelf_of r.entries).kept q ≡ Some e → IsEntry t q e v → IsGroupOf (group_of reported q) e → (w : Option Group) →
            group_of r.entries q ≡ w → o ≡ survivor t q v
        by_group e at entry of_group w was =
            let mine : exchange_of (group_of reported q) ≡ Some x = of_group.exchange (entry.is_lost ∙ may.kept) ∙
            writer_kept t x may.w e.writer v.writer entry.writer may.writes may.row may.opened in
            by_reported w (group ∙ ap₂ (λ (k : Option Kept) (n : Option Group). option_map (reported_among r.consumers (bound_in k)) n) at was) mine
          where
            by_reported : (n : Option Group) → group_of reported q ≡ option_map (reported_among r.consumers e.bound) n →
                exchange_of (group_of reported q) ≡ Some x → o ≡ survivor t q v
            by_reported None reported_as has_one = none_some x (sym (ap exchange_of reported_as) ∙ has_one)
            by_reported (Some n) reported_as has_one =
                let members_are : HasMembers e.bound e.reach (reported_among r.consumers e.bound n) =
                subst (λ (h : Option Group). IfSome h (HasMembers e.bound e.reach)) reported_as of_group.members in
                answer ∙ (ap (option_and_then writer_group.survivor) reported_as ∙
                survivor_is r t stands may.may q v may.there may.kept e at n members_are of_group.within)
