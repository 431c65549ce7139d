-- Every run reads whole: each consumer is shown one head at most, for a reason that holds, and reads its body.
--
-- Of all acts only heads, bytes and ends are read, so all others say nothing here (`acts_unread`). A poll tells one of
-- these at most, by its move (`by_move`). A head is shown to who was shown none, for its reason; bytes are next, and an
-- end is where they end: each is a law of its own. `by_denial` adds denied entries. `runs_read_whole` is the induction
-- over the run, which the programs cite.
use Rattle.std.{proofs.{lemmas.Bool.Decides.{nat_tests}, Common.{arith, ◌≡◌, inl, ℕ, List, [], ◌∷◌, ◌++◌, Bool, true, false, Some, refl, ap, sym, ◌∙◌, subst}}, specs.Prelude.{map}}
use Rattle.hc_effects.proofs.Vocabulary.{is_denied, Act, Limits, accepted_acts, answer_acts, loss_acts, close_acts, may_begin, Entry, History, Contents, Flaw, flaw_in, shown_of, given_of, Move, Nothing, Asks, Opens, Shows, Gives, Ends, Fails, acts_of, move_of, ReadsAct, ReadsActs, Says, Tables, Consumer, IsRun, tables, evicted, act, cause, wait}
use Rattle.hc_model.specs.Moves as moves
use Rattle.hc_model.specs.Reads.{ReadsEach, RunsReadWhole}
use Rattle.hc_effects.proofs.{ActParts.{IsAnswer, IsSaid, answer_is, said_is}, Basics.{false_true, append_none}, Owed.{IsDenied, is_denial, acts_are}, Runs.{by_entries}, ShownOnce.{is_showing, shown_shows}}
use Rattle.hc_effects.proofs.ActParts as parts
use Rattle.hc_effects.proofs.Owed as owed_acts
use Rattle.hc_laws.proofs.{ReadEnds.{ends_well}, ReadJoined.{bodies_are_read, is_reported}, ReadNext.{gives_next}, Reasons.{reason_holds}, SoundRuns.{runs_are_sound}, WhyShown.{shown_why}}

-- ACTS THAT NO READER IS TOLD

abbrev IsUnread : Act → Type 0
IsUnread (act.Shown c r why status fields lo hi) = ⊥
IsUnread (act.Given c x at bytes) = ⊥
IsUnread (act.Ended c) = ⊥
IsUnread _ = Unit {0}

abbrev AreUnread : List Act → Type 0
AreUnread [] = Unit {0}
AreUnread (a ∷ acts) = IsUnread a × AreUnread acts

closes_unread : (xs : List ℕ) → AreUnread (map act.Close xs)
closes_unread [] = tt
closes_unread (x ∷ xs) = (tt, closes_unread xs)

evicts_unread : (rs : List ℕ) → AreUnread (map act.Evicted rs)
evicts_unread [] = tt
evicts_unread (r ∷ rs) = (tt, evicts_unread rs)

lost_unread : (flaw : Flaw) → AreUnread (loss_acts flaw)
lost_unread flaw = grind (arith, nat_tests)

both_unread : (xs ys : List Act) → AreUnread xs → AreUnread ys → AreUnread (xs ++ ys)
both_unread [] ys a b = b
both_unread (x ∷ xs) ys a b = (a.0, both_unread xs ys a.1 b)

module _ (contents : Contents) (h : History) (now : ℕ) where
  act_unread : (before : List Act) (a : Act) → IsUnread a → ReadsAct contents h now before a
  act_unread before a is = grind (arith, nat_tests)

  acts_unread : (before acts : List Act) → AreUnread acts → ReadsActs contents h now before acts
  acts_unread before [] is = tt
  acts_unread before (a ∷ acts) is = (act_unread before a is.0, acts_unread (before ++ (a ∷ [])) acts is.1)

-- AN ENTRY

module _ (limits : Limits) (contents : Contents) (h : History) (e : Entry) (may : may_begin limits contents ≡ true) (run : IsRun limits contents (e ∷ h)) where
  abbrev t : Tables
  t = tables contents h

  abbrev flaw : Flaw
  flaw = flaw_in e.acts

  unshown_of : (c want : ℕ) (k : Consumer) (m : Move) (b : Bool) → k.shown ≡ b → move_of t e.now want c k ≡ m → is_showing m ≡ true → k.shown ≡ false
  unshown_of c want k m false off is shows = off
  unshown_of c want k m true on is shows = absurd (false_true (sym (shown_shows t e.now want c k on) ∙ (ap is_showing is ∙ shows)))

  module _ (c want : ℕ) (k : Consumer) (row : t.consumer c ≡ Some k) (rest : List Act) (quiet : AreUnread rest) where
    by_move : (m : Move) → move_of t e.now want c k ≡ m → ((a : Act) → Says a (acts_of c m ++ rest) → Says a e.acts) →
        ReadsActs contents h e.now [] (acts_of c m ++ rest)
    by_move Nothing is says = acts_unread contents h e.now [] rest quiet
    by_move (moves.Waits w) is says = acts_unread contents h e.now [] (act.Pending c w ∷ rest) (tt, quiet)
    by_move (Asks x) is says = acts_unread contents h e.now [] (act.Ask x ∷ act.Pending c (wait.Body x) ∷ rest) (tt, (tt, quiet))
    by_move (Opens x n request) is says = acts_unread contents h e.now [] (act.Opened x c n request ∷ act.Pending c (wait.Head x) ∷ rest) (tt, (tt, quiet))
    by_move (Shows r why head lo hi) is says =
        let reported = is_reported limits contents h run.0 in
        let none = reported.unshown c k row (unshown_of c want k (Shows r why head lo hi) k.shown refl is refl) in
        let reason = reason_holds limits contents h may run.0 e.now c r lo hi why head k row
        (shown_why t e.now c k r lo hi why head want (runs_are_sound limits contents h may run.0) row is) in
        ((append_none (shown_of c h) ∙ none, append_none (given_of c h) ∙ (reported.ungiven c none), reason), acts_unread contents h e.now _ rest quiet)
    by_move (Gives given) is says =
        (gives_next limits contents h e may run c given.x given.at given.bytes (says _ (inl refl)), acts_unread contents h e.now _ rest quiet)
    by_move Ends is says = (ends_well limits contents h e may run c (says _ (inl refl)), acts_unread contents h e.now _ rest quiet)
    by_move (Fails why) is says = acts_unread contents h e.now [] (act.Failed c why ∷ rest) (tt, quiet)

  by_said : (acts rest : List Act) → AreUnread rest → IsSaid t e.now e.event flaw acts → ((a : Act) → Says a (acts ++ rest) → Says a e.acts) →
      ReadsActs contents h e.now [] (acts ++ rest)
  by_said _ rest quiet (parts.silent) says = acts_unread contents h e.now [] rest quiet
  by_said _ rest quiet (parts.does c want k m here row is near) says = by_move c want k row rest quiet m (sym is) says
  by_said _ rest quiet (parts.misreads c want r here is) says = acts_unread contents h e.now [] (act.Failed c (cause.StoreRead r) ∷ rest) (tt, quiet)

  by_answer : (acts : List Act) → IsAnswer limits t e.now e.event flaw acts → ((a : Act) → Says a acts → Says a e.acts) → ReadsActs contents h e.now [] acts
  by_answer _ (parts.reported none) says =
      acts_unread contents h e.now [] _
      (both_unread _ _ (evicts_unread (evicted limits t e.now e.event)) (both_unread _ _ (lost_unread flaw) (closes_unread _)))
  by_answer _ (parts.asked) says =
      by_said (answer_acts t e.now e.event flaw) (close_acts t e.now e.event flaw ++ loss_acts flaw)
      (both_unread _ _ (closes_unread _) (lost_unread flaw)) (said_is t e.now e.event flaw) says

  denied_reads : (acts : List Act) → IsDenied acts → ReadsActs contents h e.now [] acts
  denied_reads _ (owed_acts.denied refusal) = (tt, tt)

  by_denial : (b : Bool) → is_denied e.acts ≡ b → ReadsActs contents h e.now [] e.acts
  by_denial true denied = denied_reads e.acts (is_denial e.acts denied)
  by_denial false taken =
      let acts = acts_are limits t e run.1 taken in
      subst (ReadsActs contents h e.now []) (sym acts)
      (by_answer (accepted_acts limits t e.now e.event flaw) (answer_is limits t e.now e.event flaw) (λ a says. subst (Says a) (sym acts) says))

  entry_reads : ReadsActs contents h e.now [] e.acts
  entry_reads = by_denial (is_denied e.acts) refl

each_reads : (limits : Limits) (contents : Contents) (h : History) → may_begin limits contents ≡ true → IsRun limits contents h → ReadsEach contents h
each_reads limits contents h may run =
    by_entries limits contents (ReadsEach contents) tt (λ h e run before. (before, entry_reads limits contents h e may run)) h run

-- Every run reads whole.
pub runs_read_whole : RunsReadWhole
runs_read_whole limits contents h may run = record { acts = each_reads limits contents h may run; bodies = λ c. bodies_are_read limits contents h may run c }
