-- What a poll does after which its consumer stays: its acts, what it leaves as it was, and its consumer.
--
-- A poll whose consumer stays closes nothing (`closes_none`), and the acts are just those of its move (`said_is`). To
-- others nothing is said, so they stay, or start over where they wait for what goes. So the tables are told by three
-- things: what the move makes of the consumer, of exchanges, and of what was used. `poll_does` joins these; effects of
-- a wait, an opening, a head and bytes are uses of it.
use Rattle.std.{proofs.{lemmas.Bool.Decides.{nat_tests}, Common.{arith, ◌≡◌, ℕ, List, [], ◌++◌, false, Option, Some, None, refl, ap, ◌∙◌, subst}}, specs.Prelude.{nat_eq, if◌then◌else◌, map}}
use Rattle.hc_sparse.specs.declared.run.Run.{Run}
use Rattle.hc_effects.proofs.Vocabulary.{opening_in, closes_in, evicts_in, Act, Need, Wait, Why, Event, Request, Response, Limits, Place, loses_in, misreads_in, leaver_in, accepted_acts, answer_acts, closing, consumer_after, consumer_acted, bypass_key, Does, with_event, with_consumer, let_all_go, Entry, exchange_after, NoFlaw, becomes_gone, goes_in, Lawful, Move, Asks, Opens, Shows, Gives, acts_of, move_of, poll_move, reads, Tables, Exchange, Representation, Consumer, loses_what_it_waits_for, after_accepted, opened_after, openings_after, to_front, binds, act, place}
use Rattle.hc_event.specs.declared.event.Event.TheVariants as event
use Rattle.hc_model.specs.Moves as moves
use Rattle.hc_effects.proofs.{ActParts.{IsFarFrom, far_closed, far_other}, Basics.{append_none}, ConsumerEffects.{after_by, waits_as, others, representations}, FewClosings.{closes_nothing}, OfConsumers.{BringsNothing, brings_nothing, little, goes_nothing, consumer_itself}, SameTables.{is_in, waits_for_any}, Tests.{and_false}, Untouched.{goes_from}}
use Rattle.hc_effects.proofs.OfConsumers as event_of

-- a move after which its consumer stays
pub data Stays : Move → Type 0 where
  waits : (w : Wait) → Stays (moves.Waits w)
  asks : (x : ℕ) → Stays (Asks x)
  opens : (x : ℕ) (n : Need) (request : Request) → Stays (Opens x n request)
  shows : (r : ℕ) (why : Why) (head : Response) (lo : ℕ) (hi : Option ℕ) → Stays (Shows r why head lo hi)
  gives : (run : Run) → Stays (Gives run)

-- what its acts don't say
record IsMild (acts : List Act) : Type 0 where
  leaves : leaver_in (acts ++ []) ≡ None
  closes : (x : ℕ) → closes_in x acts ≡ false
  loses : (r : ℕ) → loses_in r acts ≡ false
  misreads : (r : ℕ) → misreads_in r acts ≡ false
  evicts : (r : ℕ) → evicts_in r acts ≡ false

mild : (c : ℕ) (m : Move) → Stays m → IsMild (acts_of c m)
mild c m it2 = grind (arith, nat_tests)

pub none_waits : (p : Place) → waits_for_any [] p ≡ false
none_waits p = grind (arith, nat_tests)

-- who waits for nothing that goes starts over by nothing
pub loses_none : (t : Tables) (e : Entry) (c : ℕ) (p : Place) → goes_from t e p ≡ false → loses_what_it_waits_for t e c p ≡ false
loses_none t e c (place.Passed r kept) off = and_false (goes_in t e r (t.representation r)) _ off
loses_none t e c _ off = refl

-- what was due stays due
pub due_kept : (q : Consumer) (due : _) → q.due ≡ due → (reads q.place ≡ false → due ≡ None) → record q { due = if reads q.place then due else None } ≡ q
due_kept q due same idle = grind (arith, nat_tests)

-- a consumer that is as it was
pub same_consumer : (t u : Tables) (c : ℕ) (k : Consumer) → u.consumer c ≡ Some k → with_consumer c (Some k) u ≡ u
same_consumer t u c k row = grind (arith, nat_tests)

module _ (limits : Limits) (t : Tables) (law : Lawful t) (now c want : ℕ) (k : Consumer) (row : t.consumer c ≡ Some k) (m : Move) (stays : Stays m)
    (is : move_of t now want c k ≡ m) where
  abbrev ev : Event
  ev = event.Poll c want

  -- the entry of the poll
  abbrev pub e : Entry
  e = record { now = now; event = ev; acts = acts_of c m }

  nothing : (acts : List Act) → BringsNothing t (record { now = now; event = ev; acts = acts }) c
  nothing acts = brings_nothing t now c ev acts (event_of.polls want)

  said_is : answer_acts t now ev NoFlaw ≡ acts_of c m
  said_is = ap (λ (o : Option Consumer). acts_of c (poll_move t now want c o)) row ∙ ap (acts_of c) is

  closes_none : closing t (record { now = now; event = ev; acts = answer_acts t now ev NoFlaw ++ [] }) ≡ []
  closes_none = closes_nothing t (record { now = now; event = ev; acts = answer_acts t now ev NoFlaw ++ [] })
      (little t (record { now = now; event = ev; acts = answer_acts t now ev NoFlaw ++ [] }) c (nothing (answer_acts t now ev NoFlaw ++ [])))
      (ap (λ acts. leaver_in (acts ++ [])) said_is ∙ (mild c m stays).leaves)

  -- just what its move says
  pub acts_are : accepted_acts limits t now ev NoFlaw ≡ acts_of c m
  acts_are = ap (λ xs. answer_acts t now ev NoFlaw ++ (map act.Close xs ++ [])) closes_none ∙ (append_none (answer_acts t now ev NoFlaw) ∙ said_is)

  far : (d : ℕ) → nat_eq c d ≡ false → IsFarFrom d (acts_of c m)
  far d other = subst (IsFarFrom d) (append_none (acts_of c m)) (far_other d c m [] other (far_closed d []))

  -- where it bypasses nothing, nothing goes
  pub nothing_goes : bypass_key e ≡ None → (r : ℕ) (v : Representation) → t.representation r ≡ Some v → becomes_gone t e r v ≡ is_in [] r
  nothing_goes plain r v there = let a = mild c m stays in goes_nothing t e c (nothing (acts_of c m)) r v plain
      (a.loses r) (a.misreads r) (a.closes r) (a.evicts r)

  module _ (rs : List ℕ) (goes : (r : ℕ) (v : Representation) → t.representation r ≡ Some v → becomes_gone t e r v ≡ is_in rs r) (q : Consumer) where
    itself : consumer_acted t e c k ≡ q → q.due ≡ k.due → (reads q.place ≡ false → k.due ≡ None) → waits_for_any rs k.place ≡ false →
        consumer_after t e c (t.consumer c) ≡ Some q
    itself acted due idle unwaiting =
        ap (consumer_after t e c) row
        ∙ (consumer_itself t e c (nothing (acts_of c m)) c k k q refl acted
        (loses_none t e c k.place (waits_as t e law rs goes c k row k.place refl ∙ unwaiting))
        ∙ ap Some (due_kept q k.due due idle))

    -- what it comes to: its consumer, exchanges, and whom it binds
    pub poll_does : (o : ℕ) (os us : List ℕ) (xs : ℕ → Option Exchange) → opened_after (opening_in (acts_of c m)) t.opened ≡ o →
        openings_after (opening_in (acts_of c m)) t.openings ≡ os → to_front (binds t e) t.used ≡ us → ((x : ℕ) → exchange_after t e x (t.exchange x) ≡ xs x)
        → consumer_acted t e c k ≡ q → q.due ≡ k.due → (reads q.place ≡ false → k.due ≡ None) → waits_for_any rs k.place ≡ false →
        waits_for_any rs q.place ≡ false
        → Does limits t now ev NoFlaw (acts_of c m)
        (with_event now ev (let_all_go now rs (with_consumer c (Some q) (record t { opened = o; openings = os; used = us; exchange = xs }))))
    poll_does o os us xs opened openings used exchange acted due idle unwaiting unwaits = record {
      acts_are = acts_are;
      tables_are =
          ap (λ acts. after_accepted t (record { now = now; event = ev; acts = acts })) acts_are
          ∙ after_by t e c (nothing (acts_of c m)) rs (record t { opened = o; openings = os; used = us; exchange = xs }) q (record {
            entries = refl;
            received = refl;
            last_start = refl;
            starts = refl;
            opened = opened;
            openings = openings;
            founded = refl;
            used = used;
            exchange = exchange;
            representation = representations t e c (nothing (acts_of c m)) law far rs goes (mild c m stays).loses;
            consumer = others t e c (nothing (acts_of c m)) law far rs goes;
          }) (itself acted due idle unwaiting) unwaits;
    }
