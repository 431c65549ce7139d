-- No more consumers are live than there are clients, and the next request of no more is to be read.
--
-- Each list has no number twice. Where each of its numbers leads to a client, it is no longer than the keys of the
-- table (`set-fits`). Those to be read are among the connections (`ready-fits`). The connections of the live consumers
-- are too; none of them stands there twice, since a row has one consumer (`apart-values`). `live-fits` joins that, and
-- by `all-fits` a list of all keys is as long as the table. By these the clients count what they list.
use Rattle.std.{proofs.{Common.{◌≡◌, ℕ, suc, ◌≤◌, List, [], ◌∷◌, length, true, false, Option, Some, None, inl, inr, eqb, refl, sym, ap, ◌∙◌, arith, rules}, lemmas.{Bool.{cases_Bool, eqb-true, eqb-false, Decides.{nat_tests}}, Map.{Entries.{length-keys_of, length-values_of, btree_map_get_place}, Keys.{IsDistinct-from_sorted}, Made.{length-le_from_is_member, length-from_same_keys, is_some-lookup, is_member-Decides}}}}, specs.{Prelude.{nat_eq, is_some, Contains, IsSome, ◌↔◌}, Cmp.{nat_eq_equiv, nat_cmp_total, unsigned_Decides, eq_by_cmp_equiv}, HashMap.{HashMap}, BTreeMap.{BTreeMap}, BTreeSet.{BTreeSet}, List.{IsDistinct, AllByRecursion, list_any, slice_get, Sorted.{IsStrictlySortedBy}}, Map.{keys_of, values_of}, Set.{is_member}, Ordering.{nat_cmp, eq_by_cmp}}}
use Rattle.std.specs.HashMap as hash
use Rattle.std.specs.BTreeMap as tree
use Rattle.std.specs.BTreeSet as set
use Rattle.hc_peers.specs.{declared.client.Client.{Client}, Agreement.{IsReadySet, IsLiveTable, ready_at, consumer_at}}

-- the two tests of the order and of the equality are one
same-test : (x y : ℕ) → eq_by_cmp nat_cmp x y ≡ eqb x y
same-test x y = grind (arith, nat_tests)

any-same : (q : ℕ) (xs : List ℕ) → list_any (eq_by_cmp nat_cmp q) xs ≡ list_any (nat_eq q) xs
any-same q [] = refl
any-same q (x ∷ xs) = rw (same-test q x, any-same q xs) refl

-- those of a set in order are no more than the keys of a table, if each is one of these
pub set-fits : {X S : Type 0} (s : BTreeSet ℕ) (rows : HashMap ℕ X S) → set.IsOrdered nat_cmp s
    → ((q : ℕ) → set.contains nat_cmp s q ≡ true → is_some (hash.get nat_eq rows q) ≡ true) → length s.keys ≤ hash.hash_map_len rows
set-fits s rows order there =
    let few = length-le_from_is_member (eq_by_cmp_equiv nat_cmp_total) s.keys (keys_of rows.entries) (IsDistinct-from_sorted nat_cmp s.keys order)
    (λ q on. any-same q (keys_of rows.entries) ∙ (sym (is_some-lookup (nat_eq q) rows.entries) ∙ there q on)) in
    let same = length-keys_of rows.entries in
    omega arith

there-ready : (o : Option Client) → ready_at o ≡ true → is_some o ≡ true
there-ready None on = absurd (cc)
there-ready (Some x) on = refl

there-consumer : (o : Option Client) (c : ℕ) → consumer_at o ≡ Some c → is_some o ≡ true
there-consumer None c is = absurd (cc)
there-consumer (Some x) c is = refl

pub ready-fits : {S : Type 0} (ready : BTreeSet ℕ) (rows : HashMap ℕ Client S) → set.IsOrdered nat_cmp ready → IsReadySet rows ready →
    length ready.keys ≤ hash.hash_map_len rows
ready-fits ready rows order h = set-fits ready rows order (λ q on. there-ready (hash.get nat_eq rows q) (sym (h q) ∙ on))

-- LIVE CONSUMERS

apart-values : {S : Type 0} (rows : HashMap ℕ Client S) (c k : ℕ) (es : List (ℕ × ℕ)) → consumer_at (hash.get nat_eq rows k) ≡ Some c
    → AllByRecursion (λ y. eq_by_cmp nat_cmp c y ≡ false) (keys_of es) → AllByRecursion (λ e. consumer_at (hash.get nat_eq rows e.1) ≡ Some e.0) es
    → AllByRecursion (λ v. nat_eq k v ≡ false) (values_of es)
apart-values rows c k [] is apart all = tt
apart-values rows c k (e ∷ es) is apart all = (
  elim (cases_Bool (eqb k e.1)) [
    | inl on ↦ absurd (
        let same = eqb-true k e.1 on in
        let both : Some c ≡ Some e.0 = sym is ∙ (ap (λ (j : ℕ). consumer_at (hash.get nat_eq rows j)) same ∙ all.0) in
        let one : c ≡ e.0 = cc in
        eqb-false c e.0 (sym (same-test c e.0) ∙ apart.0) one)
    | inr off ↦ off
  ],
  apart-values rows c k es is apart.1 all.1,
)

distinct-values : {S : Type 0} (rows : HashMap ℕ Client S) (es : List (ℕ × ℕ)) → IsDistinct (eq_by_cmp nat_cmp) (keys_of es)
    → AllByRecursion (λ e. consumer_at (hash.get nat_eq rows e.1) ≡ Some e.0) es → IsDistinct nat_eq (values_of es)
unfolding IsDistinct
distinct-values rows [] one all = tt
distinct-values rows (e ∷ es) one all = (apart-values rows e.0 e.1 es all.0 one.0 all.1, distinct-values rows es one.1 all.1)

by-places : (P : ℕ × ℕ → Type 0) (es : List (ℕ × ℕ)) → ((i : ℕ) (e : ℕ × ℕ) → slice_get es i ≡ Some e → P e) → AllByRecursion P es
by-places P [] h = tt
by-places P (e ∷ es) h = (h 0 e refl, by-places P es (λ i f is. h (suc i) f is))

there-values : {S : Type 0} (rows : HashMap ℕ Client S) (es : List (ℕ × ℕ)) (q : ℕ) → AllByRecursion (λ e. consumer_at (hash.get nat_eq rows e.1) ≡ Some e.0) es
    → list_any (nat_eq q) (values_of es) ≡ true → is_some (hash.get nat_eq rows q) ≡ true
there-values rows [] q all on = absurd (cc)
there-values rows (e ∷ es) q all on = elim (cases_Bool (eqb q e.1)) [
  | inl same ↦ let is = eqb-true q e.1 same in there-consumer (hash.get nat_eq rows q) e.0 (ap (λ (j : ℕ). consumer_at (hash.get nat_eq rows j)) is ∙ all.0)
  | inr off ↦ there-values rows es q all.1 (rw off at on)
]

pub live-fits : {S : Type 0} (live : BTreeMap ℕ ℕ) (rows : HashMap ℕ Client S) → tree.IsOrdered nat_cmp live → IsLiveTable rows live →
    length (tree.keys live) ≤ hash.hash_map_len rows
live-fits live rows order h =
    let all = by-places (λ e. consumer_at (hash.get nat_eq rows e.1) ≡ Some e.0) live.entries
    (λ i e is. h.0 e.0 e.1 (btree_map_get_place nat_cmp_total live i e.0 e.1 order is)) in
    let few = length-le_from_is_member nat_eq_equiv (values_of live.entries) (keys_of rows.entries)
    (distinct-values rows live.entries (IsDistinct-from_sorted nat_cmp (keys_of live.entries) order) all)
    (λ q on. sym (is_some-lookup (nat_eq q) rows.entries) ∙ there-values rows live.entries q all on) in
    let a = length-keys_of rows.entries in
    let b = length-values_of live.entries in
    let d = length-keys_of live.entries in
    omega arith

-- ALL

distinct-same : (ks : List ℕ) → IsDistinct (eq_by_cmp nat_cmp) ks → IsDistinct nat_eq ks
unfolding IsDistinct
distinct-same [] one = tt
distinct-same (k ∷ ks) one = (apart ks one.0, distinct-same ks one.1) where
  apart : (xs : List ℕ) → AllByRecursion (λ y. eq_by_cmp nat_cmp k y ≡ false) xs → AllByRecursion (λ y. nat_eq k y ≡ false) xs
  apart [] all = tt
  apart (x ∷ xs) all = (sym (same-test k x) ∙ all.0, apart xs all.1)

here-some : {X : Type 0} (o : Option X) → IsSome o → is_some o ≡ true
here-some None h = absurd (search rules)
here-some (Some x) h = refl

none-some : {X : Type 0} (o : Option X) → (IsSome o → ⊥) → is_some o ≡ false
none-some None h = refl
none-some (Some x) h = absurd (h (search rules))

pub all-fits : {X S : Type 0} (rows : HashMap ℕ X S) (ks : List ℕ) → hash.IsUnique nat_eq rows → IsStrictlySortedBy nat_cmp ks
    → ((k : ℕ) → Contains ks k ↔ IsSome (hash.get nat_eq rows k)) → hash.hash_map_len rows ≡ length ks
all-fits rows ks unique order h =
    sym (length-keys_of rows.entries) ∙
    length-from_same_keys nat_eq_equiv (keys_of rows.entries) ks unique (distinct-same ks (IsDistinct-from_sorted nat_cmp ks order)) (λ q.
    let decides = is_member-Decides unsigned_Decides ks q in
    sym (is_some-lookup (nat_eq q) rows.entries) ∙ elim (cases_Bool (is_member nat_eq ks q)) [
      | inl on ↦ here-some (hash.get nat_eq rows q) ((h q).0 (decides.0 on)) ∙ sym on
      | inr off ↦ none-some (hash.get nat_eq rows q) (λ some. absurd (let on = decides.1 ((h q).1 some) in cc)) ∙ sym off
    ])

-- what a table has is among its keys
pub contains-key : {X S : Type 0} (m : HashMap ℕ X S) (k : ℕ) → is_some (hash.get nat_eq m k) ≡ true → Contains (hash.keys m) k
contains-key m k some =
    let on : is_member nat_eq (keys_of m.entries) k ≡ true = sym (is_some-lookup (nat_eq k) m.entries) ∙ some in
    (is_member-Decides unsigned_Decides (keys_of m.entries) k).0 on
