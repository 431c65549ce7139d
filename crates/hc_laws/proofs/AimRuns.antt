-- What is asked about what is stored names it, and what joined it joined that, in every run.
--
-- What needs something stored is asked only where something is current, and that becomes its aim
-- (`about_by`). What is asked since nothing is there has none (`none_current`, `missed_from`). Both are kept at each
-- entry, as an exchange keeps its need and its aim (`about_by`, `missed_by`), and carried as `Names`. With the laws of
-- keys this gives `aims_in_runs`. Without an aim each case of a head is the same (`by_need`).
use Rattle.std.{proofs.{lemmas.Bool.Decides.{nat_tests}, Common.{arith, ◌≡◌, ℕ, Bool, true, false, Option, Some, None, refl, ap, sym, ◌∙◌}}, specs.{Prelude.{is_some, ◌==◌, ◌&&◌, not}, Option.{option_map, option_and_then}}}
use Rattle.hc_text.proofs.Basics.{not_some as none_some}
use Rattle.hc_effects.proofs.Vocabulary.{Event, Need, Response, head_case, Limits, Aims, head_view, current, denial, Entry, aim_of, aim_from, Flaw, IsOfOneKey, entry_of, OfRuns, OfRunsIn, plan_view, candidate, candidate_at, bound_to, Tables, Exchange, Consumer, Sound, tables, after_accepted, need}
use Rattle.hc_model.specs.Aims.{HasAim, CaseWithoutAim, is_about_some, needs_aim}
use Rattle.hc_effects.proofs.{Asked.{Asked, HasCandidate}, Basics.{some_none, some_row}, ExchangeFrom.{ExchangeFrom, exchange_from}, NamesKeep.{current_there}, OpenedAs.{Way, opened_as}, Said.{opening_by}, ShownFrom.{candidate_is}, WaitingNew.{aim_free}}
use Rattle.hc_effects.proofs.ExchangeFrom as exchange
use Rattle.hc_laws.proofs.{InRuns.{one_key_in_runs}, Reasons.{aimed}, RunFacts.{in_runs}}

-- what is carried along a run
record Names (limits : Limits) (t : Tables) : Type 0 where
  about : (x : ℕ) (w : Exchange) → t.exchange x ≡ Some w → is_about_some w.need ≡ true → is_some w.aim ≡ true
  missed : (x : ℕ) (w : Exchange) → t.exchange x ≡ Some w → w.need ≡ need.Miss → w.aim ≡ None

-- AN EXCHANGE THAT IS OPENED

module _ (t : Tables) (now c : ℕ) (k : Consumer) where
  unbound : (n : Need) → n ≡ need.Miss → Way t now c k n → bound_to k.place ≡ None
  unbound n is it2 = grind (arith, nat_tests)

  none_current : (o : Option ℕ) → current t k.request.key ≡ o → option_and_then (candidate_at t now k.request) o ≡ None → o ≡ None
  none_current None is none = refl
  none_current (Some r) is none =
      let there = some_row (t.representation r) (current_there t k.request.key r is) in
      absurd (some_none (candidate t now r k.request there.0) (sym (ap (option_map (λ v. candidate t now r k.request v)) there.1) ∙ none))

  missed_from : (n : Need) → n ≡ need.Miss → Way t now c k n → (bound_to k.place ≡ None → Asked (plan_view t now c k) n) →
      aim_from t k.request.key k.place ≡ None
  missed_from n is way asked = grind (arith, nat_tests, unbound, aim_free, none_current, current)

-- EACH ENTRY

module _ (limits : Limits) (t : Tables) (now : ℕ) (flaw : Flaw) (s : Sound t) (ev : Event) (goes : denial t ev ≡ None) (a : Names limits t) where
  abbrev e : Entry
  e = entry_of limits t now ev flaw

  about_by : (x : ℕ) (z : Exchange) → is_about_some z.need ≡ true → ExchangeFrom t e x z → is_some z.aim ≡ true
  about_by x z about (exchange.was w row same) = ap is_some same.aim_is ∙ a.about x w row (ap is_about_some (sym same.need_is) ∙ about)
  about_by x z about (exchange.new o none opens here made) =
      let by = opening_by limits t now flaw s ev goes o opens in
      let op = opened_as t now o.c by.k by.want o s by.poll.row by.move in
      grind (arith, nat_tests)

  missed_by : (x : ℕ) (z : Exchange) → z.need ≡ need.Miss → ExchangeFrom t e x z → z.aim ≡ None
  missed_by x z is (exchange.was w row same) = same.aim_is ∙ a.missed x w row (sym same.need_is ∙ is)
  missed_by x z is (exchange.new o none opens here made) =
      let by = opening_by limits t now flaw s ev goes o opens in
      let op = opened_as t now o.c by.k by.want o s by.poll.row by.move in
      sym (ap (λ (q : Exchange). q.aim) made) ∙
      (ap (aim_of t) by.poll.row ∙ missed_from t now o.c by.k o.need (ap (λ (q : Exchange). q.need) made ∙ is) op.way op.asked)

  names_kept : Names limits (after_accepted t e)
  names_kept = record {
    about = λ x z after about. about_by x z about (exchange_from t e x (t.exchange x) z refl after);
    missed = λ x z after is. missed_by x z is (exchange_from t e x (t.exchange x) z refl after);
  }

names : OfRunsIn Names
names = in_runs Names (λ limits contents may. record
    { about = λ x w row about. absurd (none_some w row); missed = λ x w row is. absurd (none_some w row) })
    (λ limits t e later a. record { about = a.about; missed = a.missed })
    (λ limits t now flaw later c a ev goes real. names_kept limits t now flaw c.is_sound ev goes a)

-- IN RUNS

has_aim : (t : Tables) (one : IsOfOneKey t) (x : ℕ) (w : Exchange) → t.exchange x ≡ Some w → is_some w.aim ≡ true → HasAim t w
has_aim t one x w row some =
    let aim = some_row w.aim some in
    let there = one.exchanges.aims x aim.0 w row aim.1 in
    record { r = aim.0; aim = aim.1; v = there.0; row = there.1; key_is = there.2 }

pub aims_in_runs : OfRuns Aims
aims_in_runs limits contents h may run =
    let n = names limits contents h may run in
    let a = aimed limits contents h may run in
    record {
      about = λ x w row about. has_aim (tables contents h) (one_key_in_runs limits contents h may run) x w row (n.about x w row about);
      missed = n.missed;
      joined = λ x r w row is. a.joins x r w row is;
      first = a.first;
    }

-- WITHOUT AN AIM

module _ (t : Tables) (lost : Bool) (w : Exchange) (response : Response) (aim : Option ℕ) where
  abbrev other : Exchange
  other = record w { aim = aim }

  by_need : (n : Need) → w.need ≡ n → needs_aim n ≡ false → head_case (head_view t lost other response) ≡ head_case (head_view t lost w response)
  unfolding head_case
  by_need n is free = grind (arith, nat_tests)

pub case_without_aim : CaseWithoutAim
case_without_aim t lost w response aim free = by_need t lost w response aim w.need refl free
