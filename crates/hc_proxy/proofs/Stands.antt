-- The tables are those of the history, the history is a run, and exchanges are only added.
--
-- Each event is stepped with the entry that is owed by a store which never fails, at the moment of the turn, and no
-- moment is before that of the tables. All other changes leave tables, history and moment as they are, but for
-- the beginning of a turn, which takes the greater moment. So what holds of the run of no entry holds of each turn.
-- An entry opens the next exchange or none, so the number of the last one only grows.
use Rattle.std.{proofs.{Common.{◌≡◌, ◌≤◌, ◌<◌, ◌^◌, ℕ, ◌+◌, Bool, true, false, List, [], ◌∷◌, Option, Some, None, refl, ap, sym, ◌∙◌, subst, arith}, lemmas.Bool.Decides.{nat_tests}}, specs.Prelude.{◌&&◌, nat_lt, nat_le}}
use Rattle.hc_text.proofs.Basics.{and_left, and_right}
use Rattle.hc_effects.proofs.Vocabulary.{Opening, opening_in, is_denied, Event, Limits, Entry, may_begin, are_good, weights_of, Lawful, Places, Tables, IsRun, IsOwed, owed, Sound, tables, after, opened_after, flaw_in}
use Rattle.hc_effects.proofs.{NumbersKeep.{opens_next}, Owed.{goes, acts_are}}
use Rattle.hc_laws.proofs.{LawfulRuns.{lawful_in_runs}, PlaceRuns.{places_in_runs}, ReadWhole.{runs_read_whole}, SoundRuns.{runs_are_sound}, OwedEntries.{owed_is_owed}}
use Rattle.hc_wire.specs.Logs.{Called, Log}
use Rattle.hc_proxy.specs.{Carrying.{acts_in}, Handling.{begun}, Connections.{dials_from}, Laws.{IsRunOfLoop, LoopsAreRuns}, Rows.{Proxy, unused, Setting}, Steps.{with_entry, stepped}, Turns.{so_far, happened, turned, turned_by, behind_all}}
use Rattle.hc_proxy.proofs.Turning.{IsKept, IsCarried, open_any, turned_keeps}

pub record Stands (limits : Limits) (p : Proxy) : Type 0 where
  pub begins : may_begin limits p.setting.contents ≡ true
  pub run : IsRun limits p.setting.contents p.history
  pub same : p.tables ≡ tables p.setting.contents p.history
  pub later : p.tables.moment ≤ p.moment

-- what a change keeps: that, what the store began with, and the exchanges that were opened
pub record Goes (limits : Limits) (p q : Proxy) : Type 0 where
  pub stands : Stands limits q
  pub setting : q.setting ≡ p.setting
  pub opened : p.tables.opened ≤ q.tables.opened

abbrev pub StandsOn : Limits → Proxy → Proxy → Type 0
StandsOn limits p q = Stands limits p → Goes limits p q

-- WHAT IT BEGAN WITH

module _ (limits : Limits) (c : Setting) (begins : may_begin limits c.contents ≡ true) where
  abbrev numbers_good : Bool
  numbers_good =
      are_good limits c.contents [] c.contents.items && nat_lt c.contents.now (2 ^ 62) && nat_lt c.contents.last_consumer (2 ^ 62)
      && nat_lt 0 c.contents.next_exchange

  numbers_are : (numbers_good && nat_le c.contents.next_exchange (2 ^ 60)) ≡ true
  unfolding may_begin
  numbers_are = and_left (numbers_good && nat_le c.contents.next_exchange (2 ^ 60)) (nat_le (weights_of c.contents.items) limits.max_total) begins

  -- few exchanges were opened before
  pub few_exchanges : c.contents.next_exchange ≤ 2 ^ 60
  few_exchanges = let is : nat_le c.contents.next_exchange (2 ^ 60) ≡ true = and_right numbers_good (nat_le c.contents.next_exchange (2 ^ 60)) numbers_are in
      grind (arith, nat_tests)

  -- and the moment has a spelling
  pub early_moment : c.contents.now < 2 ^ 62
  early_moment =
      let good = are_good limits c.contents [] c.contents.items in
      let now = nat_lt c.contents.now (2 ^ 62) in
      let last = nat_lt c.contents.last_consumer (2 ^ 62) in
      let next = nat_lt 0 c.contents.next_exchange in
      let all : numbers_good ≡ true = and_left numbers_good (nat_le c.contents.next_exchange (2 ^ 60)) numbers_are in
      let is : now ≡ true = and_right good now (and_left (good && now) last (and_left (good && now && last) next all)) in
      grind (arith, nat_tests)

-- A RUN

module _ (limits : Limits) (p : Proxy) (s : Stands limits p) where
  pub is_sound : Sound p.tables
  is_sound = subst Sound (sym s.same) (runs_are_sound limits p.setting.contents p.history s.begins s.run)

  pub has_places : Places p.tables
  has_places = subst Places (sym s.same) (places_in_runs limits p.setting.contents p.history s.begins s.run)

-- its tables are lawful
pub law_of : (limits : Limits) (p : Proxy) → Stands limits p → Lawful p.tables
law_of limits p s = subst Lawful (sym s.same) (lawful_in_runs limits p.setting.contents p.history s.begins s.run)

-- AN ENTRY

pub moment_by : (t : Tables) (e : Entry) → (b : Bool) → is_denied e.acts ≡ b → (after t e).moment ≡ e.now
unfolding after
moment_by t e true denied = rw denied refl
moment_by t e false accepted = rw accepted refl

opened_by : (n : ℕ) (o : Option Opening) → ((q : Opening) → o ≡ Some q → q.x ≡ n + 1) → n ≤ opened_after o n
opened_by n None next = omega arith
opened_by n (Some q) next = let is : q.x ≡ n + 1 = next q refl in omega arith

pub grows_by : (limits : Limits) (t : Tables) (e : Entry) → Sound t → IsOwed limits t e → (b : Bool) → is_denied e.acts ≡ b → t.opened ≤ (after t e).opened
unfolding after
grows_by limits t e s is true denied = rw denied (omega arith)
grows_by limits t e s is false accepted =
    rw accepted
    (opened_by t.opened (opening_in e.acts) (λ q opens.
    opens_next limits t e.now (flaw_in e.acts) s e.event q (goes limits t e is accepted)
    (ap opening_in (sym (acts_are limits t e is accepted)) ∙ opens)))

module _ (limits : Limits) (ev : Event) (p : Proxy) (s : Stands limits p) where
  abbrev e : Entry
  e = owed limits p.tables p.moment ev

  pub owed_here : IsOwed limits p.tables e
  owed_here = owed_is_owed limits p.tables p.moment (is_sound limits p s) (has_places limits p s) s.later ev

  now_is : e.now ≡ p.moment
  unfolding owed
  now_is = refl

  pub goes_on : Goes limits p (stepped limits ev p)
  unfolding with_entry tables
  goes_on = record {
    stands = record {
      begins = s.begins;
      run = (s.run, subst (λ t. IsOwed limits t e) s.same owed_here);
      same = ap (λ t. after t e) s.same;
      later = let at : (after p.tables e).moment ≡ p.moment = moment_by p.tables e (is_denied e.acts) refl ∙ now_is in omega arith;
    };
    setting = refl;
    opened = grows_by limits p.tables e (is_sound limits p s) owed_here (is_denied e.acts) refl;
  }

-- ALL CHANGES

still : (limits : Limits) (p : Proxy) → StandsOn limits p p
still limits p s = record { stands = s; setting = refl; opened = omega arith }

both_go : (limits : Limits) (p q r : Proxy) → StandsOn limits p q → StandsOn limits q r → StandsOn limits p r
both_go limits p q r a b s =
    let first = a s in
    let second = b first.stands in
    let one : p.tables.opened ≤ q.tables.opened = first.opened in
    let two : q.tables.opened ≤ r.tables.opened = second.opened in
    record { stands = second.stands; setting = second.setting ∙ first.setting; opened = omega arith }

pub begins_turn : (limits : Limits) (call : Called) (p : Proxy) → StandsOn limits p (begun call p)
begins_turn limits call p s = record {
  stands = record { begins = s.begins; run = s.run; same = s.same; later = let le : p.tables.moment ≤ p.moment = s.later in omega arith };
  setting = refl;
  opened = omega arith;
}

pub stands_on : (limits : Limits) → IsKept limits (StandsOn limits)
stands_on limits = record {
  none = still limits;
  both = both_go limits;
  comes = λ k p may s. record { stands = record { begins = s.begins; run = s.run; same = s.same; later = s.later }; setting = refl; opened = omega arith };
  client = λ k change p is s. record {
    stands = record { begins = s.begins; run = s.run; same = s.same; later = s.later };
    setting = refl;
    opened =
        omega arith;
  };
  origin = λ x change p is s. record {
    stands = record { begins = s.begins; run = s.run; same = s.same; later = s.later };
    setting = refl;
    opened =
        omega arith;
  };
  holder = λ c k p s. record { stands = record { begins = s.begins; run = s.run; same = s.same; later = s.later }; setting = refl; opened = omega arith };
  steps = λ ev p s. goes_on limits ev p s;
}

pub stands_out : (limits : Limits) → IsCarried (λ x. Unit {0}) (StandsOn limits)
stands_out limits = record {
  none = still limits;
  both = both_go limits;
  answers = λ k a p s. record { stands = record { begins = s.begins; run = s.run; same = s.same; later = s.later }; setting = refl; opened = omega arith };
  opens = λ x request p may s. record {
    stands = record { begins = s.begins; run = s.run; same = s.same; later = s.later };
    setting = refl;
    opened =
        omega arith;
  };
}

-- TURNS

-- A turn, and turns one behind another.
pub turn_goes : (limits : Limits) (dialled : List (Option ℕ)) (call : Called) (p : Proxy) → StandsOn limits p (turned limits dialled call p)
turn_goes limits dialled call p =
    turned_keeps limits (λ x. Unit {0}) (StandsOn limits) (stands_on limits) (stands_out limits) dialled call p
    (open_any (acts_in (happened limits (so_far p dialled) call (begun call p)).part))
    (begins_turn limits call p)

pub turns_go : (limits : Limits) (dialled : List (Option ℕ)) (calls : List Called) (p : Proxy) → StandsOn limits p (turned_by limits dialled calls p)
turns_go limits dialled [] p = still limits p
turns_go limits dialled (call ∷ calls) p =
    both_go limits p (turned limits dialled call p) (turned_by limits dialled calls (turned limits dialled call p))
    (turn_goes limits dialled call p) (turns_go limits dialled calls (turned limits dialled call p))

-- BEFORE THE FIRST CALL, AND BEHIND ALL

pub unused_stands : (limits : Limits) (c : Setting) → may_begin limits c.contents ≡ true → Stands limits (unused c)
unfolding tables
unused_stands limits c begins = record { begins = begins; run = tt; same = refl; later = omega arith }

module _ (limits : Limits) (c : Setting) (log : Log) (begins : may_begin limits c.contents ≡ true) where
  goes_all : Goes limits (unused c) (behind_all limits c log)
  goes_all = turns_go limits (dials_from c log.dialled) log.calls (unused c) (unused_stands limits c begins)

  -- Whatever a log says.
  pub loops_stand : Stands limits (behind_all limits c log)
  loops_stand = goes_all.stands

  -- What the store began with stays.
  pub contents_stay : (behind_all limits c log).setting ≡ c
  contents_stay = goes_all.setting

pub loops_are_runs : LoopsAreRuns
loops_are_runs limits c log begins =
    let s = loops_stand limits c log begins in
    let q = behind_all limits c log in
    subst (λ (d : Setting). IsRunOfLoop limits d q) (contents_stay limits c log begins)
    (record { run = s.run; behind = s.same; whole = runs_read_whole limits q.setting.contents q.history s.begins s.run })
