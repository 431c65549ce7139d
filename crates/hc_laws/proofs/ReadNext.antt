-- What a consumer is given is next in the body that it was shown, and within its end.
--
-- What only a reader is told is none of evictions, losses and closings (`by_said`). So it is told by the move of a
-- poll, to its consumer (`giver`). Who is given something was shown one head (`shown_giver`, `one_shown`), and the
-- bytes are next of what that shows, within its end (`next_of`). `by_giver` says that of an accepted entry, and
-- `gives_next` of every run: a denied entry gives nothing.
use Rattle.std.{proofs.{lemmas.Bool.Decides.{nat_tests}, Common.{◌≡◌, ◌≢◌, ◌⊎◌, inl, inr, ℕ, ◌+◌, ◌<◌, ◌≤◌, List, [], ◌∷◌, ◌++◌, length, Bool, true, false, Option, Some, refl, ap, sym, ◌∙◌, subst, arith}}, specs.{Prelude.{map, not, is_none}, Option.{option_map_or}}}
use Rattle.hc_sparse.specs.declared.run.Run.{Run}
use Rattle.hc_effects.proofs.Vocabulary.{is_denied, Event, Act, Why, Limits, accepted_acts, answer_acts, loss_acts, close_acts, may_begin, Entry, History, Contents, Flaw, flaw_in, Shown, first, shown_of, given_of, Move, Nothing, Asks, Opens, Gives, acts_of, move_of, ReadsAct, Says, Tables, Consumer, IsRun, tables, evicted, event, act, cause}
use Rattle.hc_model.specs.Reads.{GivesNext}
use Rattle.hc_effects.proofs.{ActParts.{IsAnswer, IsSaid, answer_is, said_is}, Basics.{append_none}, Owed.{IsDenied, is_denial, acts_are, goes}, ReadFilters.{consumers_are_filtered}, ShownOnce.{is_giving, unshown_gives}, Step.{step_of}}
use Rattle.hc_effects.proofs.ActParts as parts
use Rattle.hc_laws.proofs.{OneHead.{one_head_is_shown}, ReadJoined.{next_of, joined_in_runs, is_reported, fallback}, SoundRuns.{carried}}

-- WHO SAYS IT

says_part : (a : Act) (xs ys : List Act) → Says a (xs ++ ys) → Says a xs ⊎ Says a ys
says_part a [] ys h = inr h
says_part a (x ∷ xs) ys (inl here) = inl (inl here)
says_part a (x ∷ xs) ys (inr later) = elim (says_part a xs ys later) [
  | inl more ↦ inl (inr more)
  | inr rest ↦ inr rest
]

-- what only a reader is told
pub data IsReceived : Act → Type 0 where
  gives : (c x at : ℕ) (bytes : List ℕ) → IsReceived (act.Given c x at bytes)
  ends : (c : ℕ) → IsReceived (act.Ended c)
  shows : (c r : ℕ) (why : Why) (status : ℕ) (fields : List (List ℕ × List ℕ)) (lo : ℕ) (hi : Option ℕ) → IsReceived (act.Shown c r why status fields lo hi)

close_not : (a : Act) (x : ℕ) → IsReceived a → act.Close x ≡ a → ⊥
close_not a x it2 is = grind (arith, nat_tests)

evict_not : (a : Act) (r : ℕ) → IsReceived a → act.Evicted r ≡ a → ⊥
evict_not a r it2 is = grind (arith, nat_tests)

lost_not : (a : Act) (flaw : Flaw) → IsReceived a → Says a (loss_acts flaw) → ⊥
lost_not a flaw reported h = grind (arith, nat_tests)

closes_not : (a : Act) (xs : List ℕ) → IsReceived a → Says a (map act.Close xs) → ⊥
closes_not a [] reported h = h
closes_not a (x ∷ xs) reported (inl is) = close_not a x reported is
closes_not a (x ∷ xs) reported (inr h) = closes_not a xs reported h

evicts_not : (a : Act) (rs : List ℕ) → IsReceived a → Says a (map act.Evicted rs) → ⊥
evicts_not a [] reported h = h
evicts_not a (r ∷ rs) reported (inl is) = evict_not a r reported is
evicts_not a (r ∷ rs) reported (inr h) = evicts_not a rs reported h

module _ (limits : Limits) (t : Tables) (now : ℕ) (ev : Event) (flaw : Flaw) (a : Act) (reported : IsReceived a) where
  by_answer : (acts : List Act) → IsAnswer limits t now ev flaw acts → Says a acts → Says a (answer_acts t now ev flaw)
  by_answer _ (parts.reported none) h = absurd (elim (says_part a (map act.Evicted (evicted limits t now ev)) _ h) [
    | inl evicts ↦ evicts_not a (evicted limits t now ev) reported evicts
    | inr rest ↦ elim (says_part a (loss_acts flaw) _ rest) [
      | inl loses ↦ lost_not a flaw reported loses
      | inr closes ↦ closes_not a _ reported closes
    ]
  ])
  by_answer _ (parts.asked) h = elim (says_part a (answer_acts t now ev flaw) _ h) [
    | inl its ↦ its
    | inr rest ↦ absurd (elim (says_part a (close_acts t now ev flaw) _ rest) [
      | inl closes ↦ closes_not a _ reported closes
      | inr loses ↦ lost_not a flaw reported loses
    ])
  ]

  pub by_said : Says a (accepted_acts limits t now ev flaw) → Says a (answer_acts t now ev flaw)
  by_said h = by_answer (accepted_acts limits t now ev flaw) (answer_is limits t now ev flaw) h

-- A POLL THAT GIVES

module _ (t : Tables) (now c x at : ℕ) (bytes : List ℕ) where
  abbrev it : Act
  it = act.Given c x at bytes

  pub record IsGiver (ev : Event) : Type 0 where
    pub want : ℕ
    pub k : Consumer
    pub is_poll : ev ≡ event.Poll c want
    pub row : t.consumer c ≡ Some k
    pub move_is : move_of t now want c k ≡ Gives (record { x = x; at = at; bytes = bytes })

  data GivesAs (d : ℕ) : Move → Type 0 where
    gives_it : d ≡ c → GivesAs d (Gives (record { x = x; at = at; bytes = bytes }))

  given_inj : (d : ℕ) (run : Run) → act.Given d run.x run.at run.bytes ≡ it → (d ≡ c) × (run ≡ record { x = x; at = at; bytes = bytes })
  given_inj d run is = grind (arith, nat_tests)

  of_move : (d : ℕ) (m : Move) → Says it (acts_of d m) → GivesAs d m
  of_move d Nothing h = absurd h
  of_move d (Asks y) (inr (inl is)) = absurd (let no : act.Pending d (Rattle.hc_event.specs.declared.act.Wait.TheVariants.Body y) ≡ it = is in cc)
  of_move d (Asks y) (inr (inr h)) = absurd h
  of_move d (Opens y n request) (inr (inl is)) = absurd (let no : act.Pending d (Rattle.hc_event.specs.declared.act.Wait.TheVariants.Head y) ≡ it = is in cc)
  of_move d (Opens y n request) (inr (inr h)) = absurd h
  of_move d (Gives run) (inl is) = let same = given_inj d run is in subst (λ (z : Run). GivesAs d (Gives z)) (sym same.1) (gives_it same.0)
  of_move d _ (inl is) = cc
  of_move d _ (inr h) = absurd h

  giver_by : (ev : Event) (d want : ℕ) (k : Consumer) (m : Move) → ev ≡ event.Poll d want → t.consumer d ≡ Some k → m ≡ move_of t now want d k →
      GivesAs d m → IsGiver ev
  giver_by ev d want k _ here row is (gives_it same) = record {
    want = want;
    k = k;
    is_poll = here ∙ ap (λ n. event.Poll n want) same;
    row = sym (ap t.consumer same) ∙ row;
    move_is = sym (ap (λ n. move_of t now want n k) same) ∙ sym is;
  }

  giver_of : (ev : Event) (flaw : Flaw) (acts : List Act) → IsSaid t now ev flaw acts → Says it acts → IsGiver ev
  giver_of ev flaw _ (parts.silent) h = absurd h
  giver_of ev flaw _ (parts.does d want k m here row is near) h = giver_by ev d want k m here row is (of_move d m h)
  giver_of ev flaw _ (parts.misreads d want q here is) (inl same) = absurd (let no : act.Failed d (cause.StoreRead q) ≡ it = same in cc)
  giver_of ev flaw _ (parts.misreads d want q here is) (inr h) = absurd h

  pub giver : (limits : Limits) (ev : Event) (flaw : Flaw) → Says it (accepted_acts limits t now ev flaw) → IsGiver ev
  giver limits ev flaw h = giver_of ev flaw (answer_acts t now ev flaw) (said_is t now ev flaw) (by_said limits t now ev flaw it (gives c x at bytes) h)

-- WHAT WAS SHOWN

pub one_shown : (xs : List Shown) → is_none (first xs) ≡ false → length xs ≤ 1 → (z : Shown) × (xs ≡ z ∷ [])
one_shown [] some few = absurd (let no : true ≡ false = some in cc)
one_shown (z ∷ []) some few = (z, refl)
one_shown (z ∷ y ∷ xs) some few = absurd (omega arith)

module _ (limits : Limits) (contents : Contents) (h : History) (run : IsRun limits contents h) where
  pub shown_one : (c : ℕ) (k : Consumer) → (tables contents h).consumer c ≡ Some k → k.shown ≡ true → (z : Shown) × (shown_of c h ≡ z ∷ [])
  shown_one c k row on =
      let all = (consumers_are_filtered limits contents h run).shown c in
      let some : is_none (first (shown_of c h)) ≡ false = sym all ∙
      (ap (λ (z : Option Consumer). option_map_or (λ (q : Consumer). not q.shown) z true) row ∙ ap not on) in
      one_shown (shown_of c h) some (one_head_is_shown limits contents h run c).0

some_of : (bytes : List ℕ) → 0 < length bytes → length bytes ≢ 0
some_of bytes lt is = omega arith

module _ (limits : Limits) (contents : Contents) (h : History) (e : Entry) (may : may_begin limits contents ≡ true) (run : IsRun limits contents (e ∷ h))
    (c x at : ℕ) (bytes : List ℕ) where
  abbrev t : Tables
  t = tables contents h

  shown_giver : (g : IsGiver t e.now c x at bytes e.event) (b : Bool) → g.k.shown ≡ b → g.k.shown ≡ true
  shown_giver g true on = on
  shown_giver g false off =
      absurd (let none : is_giving (move_of t e.now g.want c g.k) ≡ false = unshown_gives t e.now g.want c g.k off in let no : true ≡ false =
      sym (ap is_giving g.move_is) ∙ none in cc)

  by_giver : is_denied e.acts ≡ false → IsGiver t e.now c x at bytes e.event → ReadsAct contents h e.now [] (act.Given c x at bytes)
  by_giver accepted_it g =
      let k = carried limits contents h may run.0 in
      let one = shown_one limits contents h run.0 c g.k g.row (shown_giver g g.k.shown refl) in
      let next = next_of (step_of limits t e.now (flaw_in e.acts) k.is_sound k.is_owned e.event (goes limits t e run.1 accepted_it))
      (fallback limits contents h may run.0) (λ d. shown_of d h) (λ d. given_of d h) (is_reported limits contents h run.0)
      (joined_in_runs limits contents h may run.0) c g.want g.k (record { x = x; at = at; bytes = bytes }) one.0 g.is_poll g.row g.move_is one.1 in (
        one.0,
        append_none (shown_of c h) ∙ one.1,
        record {
          at_place = next.at_is ∙ ap (λ (xs : List ℕ). one.0.lo + length xs) (sym (append_none (given_of c h)));
          some = some_of bytes next.some;
          delivered = next.delivered;
          within = next.within;
        },
      )

  denied_not : (acts : List Act) → IsDenied acts → Says (act.Given c x at bytes) acts → ⊥
  denied_not acts it1 it2 = grind (arith, nat_tests)

  by_denial : (b : Bool) → is_denied e.acts ≡ b → Says (act.Given c x at bytes) e.acts → ReadsAct contents h e.now [] (act.Given c x at bytes)
  by_denial true denied says = absurd (denied_not e.acts (is_denial e.acts denied) says)
  by_denial false accepted_it says =
      by_giver accepted_it (giver t e.now c x at bytes limits e.event (flaw_in e.acts)
      (subst (Says (act.Given c x at bytes)) (acts_are limits t e run.1 accepted_it) says))

-- What a consumer is given is next in the body that it was shown, and within its end.
pub gives_next : GivesNext
gives_next limits contents h e may run c x at bytes says = by_denial limits contents h e may run c x at bytes (is_denied e.acts) refl says
