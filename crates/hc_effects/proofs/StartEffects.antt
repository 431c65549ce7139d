-- What a start does.
use Rattle.std.{proofs.{Common.{◌≡◌, ℕ, [], ◌∷◌, ◌++◌, true, Some, None, refl, ap, ◌∙◌, arith}, lemmas.Bool.Decides.{nat_tests}}, specs.Prelude.{nat_eq, map}}
use Rattle.hc_effects.proofs.Vocabulary.{act, Event, Request, Limits, accepted_acts, closing, new_consumer, consumer_after, denial, Does, with_event, with_start, Entry, entry_without_acts, NoFlaw, Lawful, Tables, after_accepted}
use Rattle.hc_event.specs.declared.event.Event.TheVariants as event
use Rattle.hc_rules.specs.Refusals as refusals
use Rattle.hc_effects.proofs.{ActParts.{far_closed}, ConsumerEffects.{after_by, others, representations}, FewClosings.{closes_nothing, evicts_nothing}, OfConsumers.{BringsNothing, brings_nothing, little, goes_nothing, exchanges_stay, binds_none}}
use Rattle.hc_effects.proofs.OfConsumers as event_of

module _ (limits : Limits) (t : Tables) (law : Lawful t) (now c : ℕ) (request : Request) where
  abbrev ev : Event
  ev = event.Start c request

  abbrev e : Entry
  e = entry_without_acts now ev

  nothing : BringsNothing t e c
  nothing = brings_nothing t now c ev [] (event_of.starts request)

  acts_none : accepted_acts limits t now ev NoFlaw ≡ []
  acts_none =
      ap (λ rs. map act.Evicted rs ++ map act.Close (closing t e)) (evicts_nothing limits t now ev refl)
      ∙ ap (λ xs. map act.Close xs) (closes_nothing t e (little t e c nothing) refl)

  -- it is new
  is_sorted : denial t ev ≡ None → t.consumer c ≡ None
  unfolding refusals.refusal_of
  is_sorted goes = grind (arith, nat_tests)

  row : denial t ev ≡ None → consumer_after t e c (t.consumer c) ≡ Some (new_consumer now request)
  unfolding consumer_after
  row goes = ap (consumer_after t e c) (is_sorted goes) ∙ (let self : nat_eq c c ≡ true = grind (arith, nat_tests) in rw self refl)

  -- a consumer starts
  pub starts : denial t ev ≡ None → Does limits t now ev NoFlaw [] (with_event now ev (with_start now c request t))
  starts goes = record {
    acts_are = acts_none;
    tables_are =
        ap (λ acts. after_accepted t (record { now = now; event = ev; acts = acts })) acts_none
        ∙ after_by t e c nothing [] (record t { last_start = c; starts = c ∷ t.starts }) (new_consumer now request) (record {
          entries = refl;
          received = refl;
          last_start = refl;
          starts = refl;
          opened = refl;
          openings = refl;
          founded = refl;
          used = binds_none t e c nothing refl refl;
          exchange = exchanges_stay t e c nothing (λ x. refl) (λ x. refl) refl;
          representation = representations t e c nothing law (λ d other. far_closed d []) []
              (λ r v there. goes_nothing t e c nothing r v refl refl refl refl refl) (λ r. refl);
          consumer = others t e c nothing law (λ d other. far_closed d []) [] (λ r v there. goes_nothing t e c nothing r v refl refl refl refl refl);
        }) (row goes) refl;
  }
