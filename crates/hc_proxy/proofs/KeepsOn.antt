-- What the loop keeps, behind an entry whose event stops no exchange: a start, a poll, a cancel.
--
-- No row changes in the code. What is open behind the entry was open before, or is opened by it: then it is the next
-- exchange, which isn't dialled yet. What was open stays so, unless the acts close it. What is wanted behind the entry
-- was wanted before, or the acts ask for it, or it is that next one. So the lists of the code still have whoever is to
-- be looked at.
use Rattle.std.{proofs.Common.{◌≡◌, ◌⊎◌, inl, inr, ◌≤◌, ◌<◌, ℕ, zero, suc, ◌+◌, ◌-◌, Bool, true, false, List, [], ◌∷◌, ◌++◌, Option, Some, None, refl, ap, sym, ◌∙◌, subst, arith}, specs.Prelude.{◌||◌, nat_eq, length, drop, Contains, if◌then◌else◌}}
use Rattle.hc_text.proofs.Basics.{or_off_left as or_first, or_left, or_right, or_off_right as or_second}
use Rattle.hc_core.specs.Steps.{steps}
use Rattle.hc_effects.proofs.Vocabulary.{opening_in, asks_in, closes_in, Act, Event, Entry, is_open, is_wanted, IsOwed, after, act}
use Rattle.hc_peers.specs.{Peers.{is_same}, Upstreams.{upstream_of, is_news, is_touched}}
use Rattle.hc_peers.specs.declared.upstream.Upstream as origin
use Rattle.hc_store.specs.declared.backend.Backend.{Ghosts}
use Rattle.hc_proxy.specs.declared.proxy.Proxy as loop
use Rattle.hc_proxy.specs.{Carrying.{acts_in}, Connections.{connection_of, first_of}, Invariants.{HasConsumers, is_due_by, is_part, IsHeardOut, AreClosed}, Keeping.{Frame, Turn, HasCache, HasActs, HasClients, HasUpstreams, AtWire, AreSeen, AreKnown, Keeps, Stepped, RestStays}, Network.{has_news, next_of}, Rows.{Upstream, Proxy}, Steps.{with_entry}}
use Rattle.hc_proxy.proofs.{Alike.{clients_move, upstreams_move, wire_moves}, ClosedActs.{turn_or, closes_both, closed_behind}, OpenAfter.{OpensIt, Stops, was_open, stays_open, was_wanted, stays_wanted}, OpensUp.{entry_opens, up_grows}, Stands.{Stands}, StepOn.{stands_of, opens_behind, opened_little}}

-- LISTS OF ACTS

pub asks_both : (x : ℕ) (xs ys : List Act) → asks_in x (xs ++ ys) ≡ (asks_in x xs || asks_in x ys)
asks_both x [] ys = refl
asks_both x (act.Ask y ∷ xs) ys = ap (λ (b : Bool). nat_eq y x || b) (asks_both x xs ys) ∙ turn_or (nat_eq y x) (asks_in x xs) (asks_in x ys)
asks_both x (act.Denied refusal ∷ xs) ys = asks_both x xs ys
asks_both x (act.Opened y c need request ∷ xs) ys = asks_both x xs ys
asks_both x (act.Close y ∷ xs) ys = asks_both x xs ys
asks_both x (act.Shown c r why status fields lo hi ∷ xs) ys = asks_both x xs ys
asks_both x (act.Given c y at bytes ∷ xs) ys = asks_both x xs ys
asks_both x (act.Ended c ∷ xs) ys = asks_both x xs ys
asks_both x (act.Failed c cause ∷ xs) ys = asks_both x xs ys
asks_both x (act.Pending c wait ∷ xs) ys = asks_both x xs ys
asks_both x (act.Lost r kind ∷ xs) ys = asks_both x xs ys
asks_both x (act.Evicted r ∷ xs) ys = asks_both x xs ys

-- A CONNECTION IS ONE THAT WAS DIALLED

dropped_within : (n : ℕ) (ks : List (Option ℕ)) (k : ℕ) → first_of (drop n ks) ≡ Some k → n < length ks
dropped_within zero [] k is = absurd (let never : None ≡ Some k = is in cc)
dropped_within zero (j ∷ ks) k is = omega arith
dropped_within (suc n) [] k is = absurd (let never : None ≡ Some k = is in cc)
dropped_within (suc n) (j ∷ ks) k is = let rest : n < length ks = dropped_within n ks k is in omega arith

pub dialled_within : (dialled : List (Option ℕ)) (y k : ℕ) → connection_of dialled y ≡ Some k → y ≤ length dialled
dialled_within dialled y k is = by_test (nat_eq y 0) refl is
  where
    by_test : (b : Bool) → nat_eq y 0 ≡ b → (if b then None else first_of (drop (y - 1) dialled)) ≡ Some k → y ≤ length dialled
    by_test true first at = absurd (let never : None ≡ Some k = at in cc)
    by_test false later at = let lt : y - 1 < length dialled = dropped_within (y - 1) dialled k at in omega arith

-- WHAT IS DUE

less_due : (a b : Bool) (o : Option Upstream) → (b ≡ true → a ≡ true) → is_due_by a o ≡ false → is_due_by b o ≡ false
less_due a false None may off = refl
less_due a true None may off = refl
less_due true b (Some v) may off = by_b b
  where
    either : (c d : Bool) → (c || d) ≡ false → d ≡ false
    either true d h = absurd (let never : true ≡ false = h in cc)
    either false d h = h

    by_b : (c : Bool) → is_due_by c (Some v) ≡ false
    by_b true = off
    by_b false = either (has_news v) _ off
less_due false false (Some v) may off = off
less_due false true (Some v) may off = absurd (let never : false ≡ true = may refl in cc)

both_ways : (a b : Bool) → (a ≡ true → b ≡ true) → (b ≡ true → a ≡ true) → b ≡ a
both_ways true b on back = on refl
both_ways false true on back = sym (back refl)
both_ways false false on back = refl

module _ {B : Type 0} {g : Ghosts B} where
  -- THE CONNECTIONS TO THE ORIGIN

  module _ (t : Turn) (x : loop.Proxy B g) (p : Proxy) (acts : List Act) (s : Stands t.frame.limits p)
      (unopened : (y : ℕ) → p.tables.opened < y → p.upstream y ≡ None) (h : HasUpstreams t x p acts) (e : Entry) (is : IsOwed t.frame.limits p.tables e)
      (none : (y : ℕ) → Stops y e.event → ⊥) where
    -- what is opened isn't dialled yet
    is_next : (y : ℕ) → OpensIt y (opening_in e.acts) → p.tables.opened < y
    is_next y o =
        let next : o.q.x ≡ p.tables.opened + 1 = opens_behind t.frame.limits p s e is o.q o.opens in
        let same : o.q.x ≡ y = o.number in
        omega arith

    undialled : (y : ℕ) → OpensIt y (opening_in e.acts) → y ≤ length t.dialled → ⊥
    undialled y o le =
        let lt : p.tables.opened < y = is_next y o in
        let few : length t.dialled ≤ p.tables.opened = up_grows acts (length t.dialled) p.tables.opened h.opens in
        absurd (omega arith)

    was_open_here : (y : ℕ) → y ≤ length t.dialled → is_open ((after p.tables e).exchange y) ≡ true → is_open (p.tables.exchange y) ≡ true
    was_open_here y le now =
        elim (was_open p.tables e y now) as (λ _. is_open (p.tables.exchange y) ≡ true) [ inl was ↦ was | inr opens ↦ absurd (undialled y opens le) ]

    closed_first : (y : ℕ) → closes_in y acts ≡ true → closes_in y (acts ++ e.acts) ≡ true
    closed_first y c = closes_both y acts e.acts ∙ or_left _ _ c

    closed_second : (y : ℕ) → closes_in y e.acts ≡ true → closes_in y (acts ++ e.acts) ≡ true
    closed_second y c = closes_both y acts e.acts ∙ or_right _ _ c

    over_behind : (y : ℕ) → (is_open (p.tables.exchange y) ≡ true) ⊎ (closes_in y acts ≡ true) →
        (is_open ((after p.tables e).exchange y) ≡ true) ⊎ (closes_in y (acts ++ e.acts) ≡ true)
    over_behind y (inr closes) = inr (closed_first y closes)
    over_behind y (inl was) =
        elim (stays_open p.tables e y was) as (λ _. (is_open ((after p.tables e).exchange y) ≡ true) ⊎ (closes_in y (acts ++ e.acts) ≡ true)) [
          | inl now ↦ inl now
          | inr other ↦ elim other as (λ _. (is_open ((after p.tables e).exchange y) ≡ true) ⊎ (closes_in y (acts ++ e.acts) ≡ true))
              [ inl closes ↦ inr (closed_second y closes) | inr stops ↦ absurd (none y stops) ]
        ]

    first_unasked : (y : ℕ) → asks_in y (acts ++ e.acts) ≡ false → asks_in y acts ≡ false
    first_unasked y off = or_first _ (asks_in y e.acts) (sym (asks_both y acts e.acts) ∙ off)

    then_unasked : (y : ℕ) → asks_in y (acts ++ e.acts) ≡ false → asks_in y e.acts ≡ false
    then_unasked y off = or_second (asks_in y acts) _ (sym (asks_both y acts e.acts) ∙ off)

    -- of what was open before
    was_wanted_here : (y : ℕ) → asks_in y e.acts ≡ false → (OpensIt y (opening_in e.acts) → ⊥) → is_wanted ((after p.tables e).exchange y) ≡ true →
        is_wanted (p.tables.exchange y) ≡ true
    was_wanted_here y off old now = elim (was_wanted p.tables e y now) as (λ _. is_wanted (p.tables.exchange y) ≡ true) [
      | inl was ↦ was
      | inr other ↦ elim other as (λ _. is_wanted (p.tables.exchange y) ≡ true)
          [ inl asks ↦ absurd (let never : true ≡ false = sym asks ∙ off in cc) | inr opens ↦ absurd (old opens) ]
    ]

    no_row : (o : Option Upstream) (wanted : Bool) → o ≡ None → is_due_by wanted o ≡ false
    no_row o wanted none_there = ap (is_due_by wanted) none_there

    news_behind : (y : ℕ) → is_open ((after p.tables e).exchange y) ≡ true → is_news x.upstreams y ≡ false → asks_in y (acts ++ e.acts) ≡ false →
        is_due_by (is_wanted ((after p.tables e).exchange y)) (p.upstream y) ≡ false
    news_behind y now off unasked = elim (was_open p.tables e y now) as (λ _. is_due_by (is_wanted ((after p.tables e).exchange y)) (p.upstream y) ≡ false) [
      | inr opens ↦ no_row (p.upstream y) _ (unopened y (is_next y opens))
      | inl was ↦ by_row (p.upstream y) refl (h.news y was off (first_unasked y unasked))
    ]
      where
        by_row : (o : Option Upstream) → p.upstream y ≡ o → is_due_by (is_wanted (p.tables.exchange y)) (p.upstream y) ≡ false →
            is_due_by (is_wanted ((after p.tables e).exchange y)) (p.upstream y) ≡ false
        by_row None row due = no_row (p.upstream y) _ row
        by_row (Some v) row due =
            less_due (is_wanted (p.tables.exchange y)) (is_wanted ((after p.tables e).exchange y)) (p.upstream y)
            (was_wanted_here y (then_unasked y unasked) (λ o. let never : None ≡ Some v = sym (unopened y (is_next y o)) ∙ row in cc)) due

    touched_behind : (y : ℕ) (u : origin.Upstream) → upstream_of x.upstreams y ≡ Some u → is_open ((after p.tables e).exchange y) ≡ true →
        is_touched x.upstreams y ≡ false → asks_in y (acts ++ e.acts) ≡ false → (u.unsent ≡ []) ×
        (is_same u.reading (is_wanted ((after p.tables e).exchange y)) ≡ true)
    touched_behind y u at now off unasked =
        let le : y ≤ length t.dialled = dialled_within t.dialled y u.k (h.numbers y u at) in
        let before = h.touched y u at (was_open_here y le now) off (first_unasked y unasked) in
        let same : is_wanted ((after p.tables e).exchange y) ≡ is_wanted (p.tables.exchange y) =
        both_ways (is_wanted (p.tables.exchange y)) (is_wanted ((after p.tables e).exchange y))
        (λ was. stays_wanted p.tables e y (none y) was now)
        (was_wanted_here y (then_unasked y unasked) (λ o. undialled y o le)) in
        (before.0, ap (is_same u.reading) same ∙ before.1)

    pub upstreams_on : HasUpstreams t x (with_entry e p) (acts ++ e.acts)
    unfolding with_entry
    upstreams_on = record {
      rows = λ y now le. h.rows y (was_open_here y le now) le;
      numbers = h.numbers;
      over = λ y there. over_behind y (h.over y there);
      news = news_behind;
      touched = touched_behind;
      opens = entry_opens t.frame.limits p s e is (length t.dialled) acts h.opens;
      names = h.names;
      strangers = h.strangers;
    }

  -- ALL OF IT

  pub keeps_on : (t : Turn) (x x' : loop.Proxy B g) (ev : Event) (p : Proxy) → Stands t.frame.limits p →
      ((y : ℕ) → p.tables.opened < y → p.upstream y ≡ None) → HasActs x p → HasClients t x p → HasUpstreams t x p (acts_in p.part) → AtWire t.stages x →
      AreSeen t p → AreClosed (acts_in p.part) p.tables → AreKnown t x → (s : Stepped t.frame x x' ev p) → RestStays x x' →
      ((y : ℕ) → Stops y s.e.event → ⊥) → HasConsumers (with_entry s.e p) → p.starts ≤ p.setting.contents.last_consumer + steps x'.cache →
      p.tables.opened + 1 ≤ p.setting.contents.next_exchange + steps x'.cache → Keeps t x' (with_entry s.e p)
  unfolding with_entry
  keeps_on t x x' ev p stands unopened acts clients upstreams wire seen shut known s rest none consumers numbers opened =
      let on = upstreams_on t x p (acts_in p.part) stands unopened upstreams s.e s.is_owed none in
      let kept = clients_move t x x' p rest.clients clients in
      record {
        cache = s.cache;
        acts = s.acts ∙ ap (λ (xs : List Act). xs ++ s.e.acts) acts;
        clients = record { rows = kept.rows; order = kept.order; listed = kept.listed; few = kept.few };
        consumers = consumers;
        upstreams = upstreams_move t x x' (with_entry s.e p) (acts_in p.part ++ s.e.acts) rest.upstreams on;
        wire = wire_moves t.stages x x' rest.clients rest.upstreams rest.closed wire;
        numbers = numbers;
        opened = (let le : (after p.tables s.e).opened ≤ p.tables.opened + 1 = opened_little t.frame.limits p stands s.e s.is_owed in omega arith);
        seen = seen;
        shut = closed_behind t.frame.limits p stands s.e s.is_owed (acts_in p.part) shut;
        known = λ k there. known k (subst (λ v. Contains v.items k) rest.closed there);
      }

  -- who had been heard out is so
  pub heard_on : (f : Frame) (x : loop.Proxy B g) (p : Proxy) (e : Entry) → HasCache f x p → IsOwed f.limits p.tables e → IsHeardOut p →
      IsHeardOut (with_entry e p)
  unfolding with_entry
  heard_on f x p e h is heard y v now row ended =
      elim (was_open p.tables e y now) as (λ _. is_part (next_of v) ≡ true) [
        | inl was ↦ heard y v was row ended
        | inr opens ↦ absurd (
            let next : opens.q.x ≡ p.tables.opened + 1 = opens_behind f.limits p (stands_of f x p h) e is opens.q opens.opens in
            let same : opens.q.x ≡ y = opens.number in
            let off : p.upstream y ≡ None = h.unopened y (omega arith) in
            let never : None ≡ Some v = sym off ∙ row in cc)
      ]
