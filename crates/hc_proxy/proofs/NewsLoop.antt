-- The loop over the news, by its index: those gone through, the one that is next, and those behind it.
--
-- A list is what was gone through, the next one, and those behind it. It ascends, so those behind the next one are
-- others: they are still among the news. So what HeardAll says of one step holds at each index. The bound on the steps
-- is shown of some tables.
use Rattle.std.{proofs.{Common.{◌≡◌, ◌≤◌, ◌<◌, ℕ, ◌+◌, suc, List, [], ◌∷◌, ◌++◌, length, get_or, Bool, true, false, refl, ap, sym, ◌∙◌, subst, arith}, Math.{Bridge.{le_prop}, Logic.{∥∥₁_elim, ∥∥₁_map}, Seq.{drop-cons}}, lemmas.{Bool.Decides.{nat_tests}, List.{take_more, take_all, drop_all, take-append-drop}}}, specs.{Prelude.{◌||◌, ◌^◌, nat_eq, take, drop}, List.Sorted.{IsStrictlySortedBy}, Ordering.{nat_cmp}}}
use Rattle.hc_text.proofs.Basics.{eq_itself as same_number, true_false}
use Rattle.hc_core.specs.Steps.{faults_in, steps}
use Rattle.hc_peers.specs.Upstreams.{is_news, news_of}
use Rattle.hc_store.specs.declared.backend.Backend.{Ghosts}
use Rattle.hc_proxy.specs.declared.proxy.Proxy as loop
use Rattle.hc_proxy.specs.{Hearing.{HasHeard, MayStep, NewsOff}, Keeping.{Turn, KeepsQuiet, KeepsHeard, IsQuiet, Goes}, Network.{handed, closed, heard}, Rows.{Proxy}}
use Rattle.hc_proxy.proofs.{HeardAll.{HearsTo, hears_begin, hears_next, hears_may, hears_count, hears_end, news_among}, Marked.{sorted_ascends}, SkippedSteps.{among, Ascends, not_below}}

-- THE LIST AT AN INDEX

module _ (r : List ℕ) (i d : ℕ) (lt : i < length r) where
  -- the next one, and those behind it
  pub left_is : drop i r ≡ get_or r i d ∷ drop (i + 1) r
  left_is = drop-cons r i d lt ∙ ap (λ (n : ℕ). get_or r i d ∷ drop n r) (let same : suc i ≡ i + 1 = omega arith in same)

  pub whole_is : take i r ++ get_or r i d ∷ drop (i + 1) r ≡ r
  whole_is = ap (λ (ys : List ℕ). take i r ++ ys) (sym left_is) ∙ take-append-drop i r

  pub next_among : among (get_or r i d) (drop i r) ≡ true
  next_among = ap (among (get_or r i d)) left_is ∙ rw (same_number (get_or r i d)) refl

  pub rest_among : (y : ℕ) → among y (drop (i + 1) r) ≡ true → among y (drop i r) ≡ true
  rest_among y there = ap (among y) left_is ∙ either (nat_eq y (get_or r i d)) (among y (drop (i + 1) r)) there
    where
      either : (a b : Bool) → b ≡ true → (a || b) ≡ true
      either true b h = refl
      either false b h = h

-- the last ones of an ascending list ascend
up_behind : (n : ℕ) (xs ys : List ℕ) → Ascends n (xs ++ ys) → (m : ℕ) × Ascends m ys
up_behind n [] ys up = (n, up)
up_behind n (x ∷ xs) ys up = up_behind (x + 1) xs ys up.1

apart_by : (n z : ℕ) (xs : List ℕ) → Ascends n (z ∷ xs) → (y : ℕ) → among y xs ≡ true → (b : Bool) → nat_eq y z ≡ b → nat_eq y z ≡ false
apart_by n z xs up y there false off = off
apart_by n z xs up y there true here = let same : y ≡ z = grind (arith, nat_tests) in true_false (sym there ∙ not_below (z + 1) xs up.1 y (omega arith))

-- who stands behind the next one is another one
pub rest_apart : (r : List ℕ) (i d : ℕ) → i < length r → Ascends 0 r → (y : ℕ) → among y (drop (i + 1) r) ≡ true → nat_eq y (get_or r i d) ≡ false
rest_apart r i d lt up y there =
    let b = up_behind 0 (take i r) (get_or r i d ∷ drop (i + 1) r) (subst (Ascends 0) (sym (whole_is r i d lt)) up) in
    apart_by b.0 (get_or r i d) (drop (i + 1) r) b.1 y there (nat_eq y (get_or r i d)) refl

module _ {B : Type 0} {g : Ghosts B} where
  -- WHAT THE LOOP KEEPS

  pub record HearsAt (old x : loop.Proxy B g) (r : List ℕ) (i : ℕ) : Type 0 where
    pub goes : (t : Turn) (p : Proxy) → KeepsQuiet t old p → HearsTo t old x p (take i r) (drop i r)
    pub news : (y : ℕ) → among y (drop i r) ≡ true → is_news x.upstreams y ≡ true

  pub at_first : (x z : loop.Proxy B g) (r : List ℕ) → r ≡ news_of x.upstreams → HearsAt x (record x { round = z.round }) r 0
  at_first x z r is = record {
    goes = λ t p k. subst (HearsTo t x (record x { round = z.round }) p []) (sym is) (hears_begin t x z p k);
    news = λ y there. sym (news_among x.upstreams y) ∙ (ap (among y) (sym is) ∙ there);
  }

  module _ (old x : loop.Proxy B g) (r : List ℕ) (i d : ℕ) (lt : i < length r) (order : IsStrictlySortedBy nat_cmp r) (h : HearsAt old x r i) where
    abbrev z : ℕ
    z = get_or r i d

    pub listed_there : is_news x.upstreams z ≡ true
    listed_there = h.news z (next_among r i d lt)

    up : Ascends 0 (take i r ++ z ∷ drop (i + 1) r)
    up = subst (Ascends 0) (sym (whole_is r i d lt)) (sorted_ascends r order)

    to_of : (t : Turn) (p : Proxy) → KeepsQuiet t old p → HearsTo t old x p (take i r) (z ∷ drop (i + 1) r)
    to_of t p k = subst (HearsTo t old x p (take i r)) (left_is r i d lt) (h.goes t p k)

    pub may_there : ∥ IsQuiet old ∥₁ → steps old.cache + 1024 ≤ 2 ^ 60 → ∥ MayStep 2 z x ∥₁
    may_there some few = ∥∥₁_map some (λ s. hears_may s.0 old x s.1 (take i r) z (drop (i + 1) r) s.2 up few (to_of s.0 s.1 s.2))

    pub at_next : (x' : loop.Proxy B g) →
        ((t : Turn) (q : Proxy) → KeepsQuiet t x q →
        Goes (HasHeard z t q (steps x.cache)) (faults_in x.cache) x' (closed t.frame.limits z (handed t.frame.limits z q))) → NewsOff z x x' →
        HearsAt old x' r (i + 1)
    at_next x' goes off = record {
      goes = λ t p k.
          subst (λ (xs : List ℕ). HearsTo t old x' p xs (drop (i + 1) r)) (sym (take_more r i d lt))
          (hears_next t old x x' p (take i r) z (drop (i + 1) r) (to_of t p k) (λ q kq. goes t q kq));
      news = λ y there. off y (rest_apart r i d lt (sorted_ascends r order) y there) ∙ h.news y (rest_among r i d lt y there);
    }

  module _ (old x : loop.Proxy B g) (r : List ℕ) (i : ℕ) (is : r ≡ news_of old.upstreams) (over : length r ≤ i)
      (order : IsStrictlySortedBy nat_cmp (news_of old.upstreams)) (h : HearsAt old x r i) where
    all_of : (t : Turn) (p : Proxy) → KeepsQuiet t old p → HearsTo t old x p (news_of old.upstreams) []
    all_of t p k =
        subst (λ (xs : List ℕ). HearsTo t old x p xs []) (take_all i r over ∙ is)
        (subst (HearsTo t old x p (take i r)) (drop_all i r over) (h.goes t p k))

    pub all_heard : (t : Turn) (p : Proxy) → KeepsQuiet t old p → Goes (KeepsHeard t) (faults_in old.cache) x (heard t.frame.limits p)
    all_heard t p k = hears_end t old x p k order (all_of t p k)

    pub few_steps : ∥ IsQuiet old ∥₁ → steps x.cache ≤ steps old.cache + 1024
    few_steps some = ∥∥₁_elim some le_prop
        (λ s. hears_count s.0 old x s.1 (news_of old.upstreams) s.2 (sorted_ascends (news_of old.upstreams) order) (all_of s.0 s.1 s.2))
