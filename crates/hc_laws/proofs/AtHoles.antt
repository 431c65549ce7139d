-- Who was shown a head, and waits for that of an exchange for a hole, stands in that hole, in every run.
--
-- Such an exchange was opened where its consumer stood, which is where the hole begins, and isn't empty. Until its head
-- comes the consumer is given nothing, and the exchange asks for the same hole. `waited` and `opened` are the two, and
-- `at_holes_in_runs` carries them.
use Rattle.std.proofs.{lemmas.Bool.Decides.{nat_tests}, Common.{◌≡◌, ℕ, ◌+◌, ◌<◌, ◌≤◌, true, Option, Some, refl, ap, sym, ◌∙◌, subst, arith}}
use Rattle.hc_text.proofs.Basics.{not_some as none_some, same_some as same_row, some_inj}
use Rattle.hc_effects.proofs.Vocabulary.{Opening, opening_in, Need, Limits, route_of, BoundBy, opened_place, unless_bound, Entry, aim_from, exchange_opened, exchange_acted, exchange_heard, is_headless, entry_of, flaw_in, IsOfOneKey, OfRuns, Turns, bound, bound_to, lo_of, offset, Tables, Exchange, Consumer, Sound, InHole, after_accepted, after_denied, need, route, place}
use Rattle.hc_model.specs.Sound as sound
use Rattle.hc_laws.proofs.{InRuns.{IsTurned, turned_in_runs}, RunFacts.{in_runs_with}, TurnFacts.{IsTaken}, TurnOpens.{OpensFor, opened_at, opener_after}, TurnStays.{after_same}, TurnsKeep.{WasHeadless, was_headless, same_entry}}
use Rattle.hc_effects.proofs.{ExclusiveWriters.{bound_some}, HoleLemmas.{hole_some}, KeysKeep.{same_exchange}, OpensFrom.{IsHole, hole_is, opens_hole}, Owed.{goes}, PollTree.{OpensHole}, Said.{OpensBy, opening_by}}
use Rattle.hc_effects.proofs.PollTree as tree
use Rattle.hc_laws.proofs.TurnsKeep as keeps

-- c waits so with this exchange
pub record WaitsShown (t : Tables) (x r lo : ℕ) (w : Exchange) (k : Consumer) : Type 0 where
  pub row : t.exchange x ≡ Some w
  pub headless : is_headless (Some w) ≡ true
  pub its : t.consumer w.c ≡ Some k
  pub shown : k.shown ≡ true
  pub hi : Option ℕ
  pub how : BoundBy
  pub at : k.place ≡ place.Bound r lo hi how

pub record AreAtHoles (t : Tables) : Type 0 where
  pub stand : (x r lo : ℕ) (w : Exchange) (k : Consumer) → WaitsShown t x r lo w k → InHole w.need (lo + k.given)

module _ (limits : Limits) (t : Tables) (e : Entry) (taken : IsTaken limits t e) (s : Sound t) (one : IsOfOneKey t) (turns : Turns t) (are : AreAtHoles t) where
  abbrev u : Tables
  u = after_accepted t e

  -- IT WAITED

  waited : (x r lo : ℕ) (z w : Exchange) (q : Consumer) → WaitsShown u x r lo z q → (row : t.exchange x ≡ Some w) (bare : is_headless (Some w) ≡ true) →
      z ≡ exchange_acted x e.acts (exchange_heard t e x e.event w) → keeps.Stays t e x w (exchange_heard t e x e.event w) → InHole z.need (lo + q.given)
  waited x r lo z w q waits row bare is stays =
      let same = same_exchange t e x e.event w in
      let need_is : z.need ≡ w.need = ap (λ (a : Exchange). a.need) is ∙ same.need_is in
      let it = turns.awaited x w row bare in
      let a = after_same limits t e taken s one turns x w row bare stays in
      let mine : a.0 ≡ q = same_row (u.consumer w.c) a.0 q a.1 (sym (ap u.consumer (ap (λ (a : Exchange). a.c) is ∙ same.c_is)) ∙ waits.its) in
      let before : InHole w.need (lo + it.k.given) = are.stand x r lo w it.k (record {
        row = row;
        headless = bare;
        its = it.row;
        shown = sym a.2.shown ∙ (ap (λ (k : Consumer). k.shown) mine ∙ waits.shown);
        hi = waits.hi;
        how = waits.how;
        at = sym a.2.place ∙ (ap (λ (k : Consumer). k.place) mine ∙ waits.at);
      }) in
      subst (λ n. InHole z.need (lo + n)) (sym a.2.given ∙ ap (λ (k : Consumer). k.given) mine) (subst (λ n. InHole n (lo + it.k.given)) (sym need_is) before)

  -- IT IS OPENED

  opens_here : (o : Opening) → opening_in e.acts ≡ Some o → OpensBy t e.now e.event o
  opens_here o is =
      subst (λ (z : Entry). opening_in z.acts ≡ Some o → OpensBy t z.now z.event o) (same_entry limits t e taken s one turns)
      (λ also. opening_by limits t e.now (flaw_in e.acts) s e.event (goes limits t e taken.owed taken.not_denied) o also) is

  in_hole : (n : Need) (from to p : ℕ) → n ≡ need.Hole from to → from ≤ p → p < to → InHole n p
  in_hole n from to p is le lt = subst (λ (z : Need). InHole z p) (sym is) (le, lt)

  -- it begins where its consumer stands, and isn't empty
  ahead : (c r lo : ℕ) (hi : Option ℕ) (how : BoundBy) (k : Consumer) (n : Need) (hole : IsHole n) → t.consumer c ≡ Some k →
      k.place ≡ place.Bound r lo hi how → OpensHole t c k hole.from hole.to → InHole n (offset t k)
  ahead c r lo hi how k n hole row at (tree.first q v span gap is aims there nobody found from_is to_is) =
      absurd (bound_some t r c k s.numbered (sound.is_bound lo hi how row at)
      (ap (bound t) (some_inj r q (sym (ap (aim_from t k.request.key) at) ∙ aims)) ∙ nobody))
  ahead c r lo hi how k n hole row at (tree.later q end most v stands none from_is to_is) = grind (arith, nat_tests, hole_some, in_hole)

  later_bound : (c r lo x : ℕ) (hi : Option ℕ) (how : BoundBy) (k : Consumer) (n : Need) → k.shown ≡ true →
      unless_bound (bound_to k.place) k.place (opened_place t x k (route_of n)) ≡ place.Bound r lo hi how → OpensFor t c k x n →
      (route_of n ≡ route.Hole) × (k.place ≡ place.Bound r lo hi how)
  later_bound c r lo x hi how k n shown at it10 = grind (arith, nat_tests)

  opened : (x r lo : ℕ) (z : Exchange) (q : Consumer) (o : Opening) → WaitsShown u x r lo z q → opening_in e.acts ≡ Some o → z ≡ exchange_opened t e o →
      InHole z.need (lo + q.given)
  opened x r lo z q o waits is made =
      let it = opened_at limits t e taken s turns o is in
      let a = opener_after limits t e taken s turns o is in
      let mine : a.0 ≡ q = same_row (u.consumer o.c) a.0 q a.1 (sym (ap u.consumer (ap (λ (w : Exchange). w.c) made)) ∙ waits.its) in
      let shown : it.k.shown ≡ true = sym a.2.shown ∙ (ap (λ (k : Consumer). k.shown) mine ∙ waits.shown) in
      let both = later_bound o.c r lo o.x waits.hi waits.how it.k o.need shown (sym a.2.place ∙ (ap (λ (k : Consumer). k.place) mine ∙ waits.at)) it.why in
      let by = opens_here o is in
      let same : by.k ≡ it.k = same_row (t.consumer o.c) by.k it.k by.poll.row it.row in
      let hole = hole_is o.need both.0 in
      let why : OpensHole t o.c it.k hole.from hole.to =
      subst (λ (k : Consumer). OpensHole t o.c k hole.from hole.to) same
      (opens_hole t o.c by.k o e.now by.want s by.poll.row by.move hole.from hole.to hole.is) in
      let stands : offset t it.k ≡ lo + q.given = ap (λ p. lo_of t p + it.k.given) both.1 ∙
      ap (λ n. lo + n) (sym a.2.given ∙ ap (λ (k : Consumer). k.given) mine) in
      subst (λ n. InHole n (lo + q.given)) (sym (ap (λ (w : Exchange). w.need) made))
      (subst (InHole o.need) stands (ahead o.c r lo waits.hi waits.how it.k o.need hole it.row both.1 why))

  by_headless : (x r lo : ℕ) (z : Exchange) (q : Consumer) → WaitsShown u x r lo z q → WasHeadless limits t e taken s one turns x z →
      InHole z.need (lo + q.given)
  by_headless x r lo z q waits (keeps.was w row bare is stays) = waited x r lo z w q waits row bare is stays
  by_headless x r lo z q waits (keeps.new o is here made) = opened x r lo z q o waits is made

  at_holes_kept : AreAtHoles u
  at_holes_kept = record {
    stand =
        λ x r lo z q waits. by_headless x r lo z q waits (was_headless limits t e taken s one turns x (t.exchange x) z refl waits.row waits.headless);
  }

-- IN RUNS

at_holes_denied : (t : Tables) (e : Entry) → AreAtHoles t → AreAtHoles (after_denied t e)
at_holes_denied t e are =
    record {
      stand = λ x r lo w k waits. are.stand x r lo w k
          (record { row = waits.row; headless = waits.headless; its = waits.its; shown = waits.shown; hi = waits.hi; how = waits.how; at = waits.at });
    }

pub at_holes_in_runs : OfRuns AreAtHoles
at_holes_in_runs = in_runs_with (λ limits t. AreAtHoles t) (λ limits t. IsTurned t) turned_in_runs
    (λ limits contents may. record { stand = λ x r lo w k waits. absurd (none_some w waits.row) })
    (λ limits t e later are. at_holes_denied t e are)
    (λ limits t now flaw ev s turned are. at_holes_kept limits t (entry_of limits t now ev flaw) (record { owed = s.owed; not_denied = s.real.taken })
    s.before.is_sound turned.one turned.turns are)
