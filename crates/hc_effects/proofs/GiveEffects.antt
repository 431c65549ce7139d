-- What a poll does that gives bytes.
use Rattle.std.proofs.Common.{◌≡◌, ℕ, ◌+◌, [], length, Some, refl}
use Rattle.hc_text.proofs.Basics.{eqb-same}
use Rattle.hc_sparse.specs.declared.run.Run.{Run}
use Rattle.hc_event.specs.declared.event.Event.TheVariants as event
use Rattle.hc_effects.proofs.Vocabulary.{Limits, consumer_acted, Does, with_event, with_consumer, Entry, NoFlaw, Lawful, Gives, acts_of, move_of, Tables, Consumer}
use Rattle.hc_effects.proofs.{Basics.{append_none}, OfConsumers.{BringsNothing, brings_nothing, binds_none, exchanges_stay}, PollEffects.{none_waits, nothing_goes, poll_does}, Untouched.{own_stays, spared_bodiless}}
use Rattle.hc_effects.proofs.OfConsumers as event_of
use Rattle.hc_effects.proofs.PollEffects as polls

module _ (limits : Limits) (t : Tables) (law : Lawful t) (now c want : ℕ) (k : Consumer) (row : t.consumer c ≡ Some k) (run : Run)
    (is : move_of t now want c k ≡ Gives run) where
  abbrev e : Entry
  e = record { now = now; event = event.Poll c want; acts = acts_of c (Gives run) }

  nothing : BringsNothing t e c
  nothing = brings_nothing t now c (event.Poll c want) (acts_of c (Gives run)) (event_of.polls want)

  acted : consumer_acted t e c k ≡ record k { given = k.given + length run.bytes }
  acted = rw (eqb-same c, append_none run.bytes, own_stays t e c k.place k.own (spared_bodiless t e k.place refl)) refl

  -- its consumer was given so many more
  pub gives_bytes : Does limits t now (event.Poll c want) NoFlaw (acts_of c (Gives run))
      (with_event now (event.Poll c want) (with_consumer c (Some (record k { given = k.given + length run.bytes })) t))
  gives_bytes =
      poll_does limits t law now c want k row (Gives run) (polls.gives run) is []
      (nothing_goes limits t law now c want k row (Gives run) (polls.gives run) is refl)
      (record k { given = k.given + length run.bytes }) t.opened t.openings t.used t.exchange refl refl
      (binds_none t e c nothing refl refl) (exchanges_stay t e c nothing (λ x. refl) (λ x. refl) refl)
      acted refl (law.owned.idle_due c k row) (none_waits k.place) (none_waits k.place)
