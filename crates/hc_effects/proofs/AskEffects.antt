-- What a poll does that asks for the next bytes of an exchange.
use Rattle.std.{proofs.Common.{◌≡◌, ℕ, [], Bool, true, false, Option, Some, None, refl, ap, ◌∙◌}, specs.Prelude.{◌==◌, ◌||◌, nat_eq, if◌then◌else◌, option_map}}
use Rattle.hc_text.proofs.Basics.{eqb-same, not_some as none_some, plus_none}
use Rattle.hc_event.specs.declared.event.Event.TheVariants as event
use Rattle.hc_effects.proofs.Vocabulary.{Limits, consumer_acted, Does, with_event, to_bring, with_ask, Entry, exchange_after, NoFlaw, Lawful, Asks, acts_of, move_of, Tables, Exchange, Consumer}
use Rattle.hc_effects.proofs.{OfConsumers.{BringsNothing, brings_nothing, row_acted, binds_none}, PollEffects.{none_waits, same_consumer, nothing_goes, poll_does}, Untouched.{own_stays, spared_bodiless, exchange_absent}}
use Rattle.hc_effects.proofs.OfConsumers as event_of
use Rattle.hc_effects.proofs.PollEffects as polls

module _ (limits : Limits) (t : Tables) (law : Lawful t) (now c want : ℕ) (k : Consumer) (row : t.consumer c ≡ Some k) (x : ℕ)
    (is : move_of t now want c k ≡ Asks x) where
  abbrev e : Entry
  e = record { now = now; event = event.Poll c want; acts = acts_of c (Asks x) }

  nothing : BringsNothing t e c
  nothing = brings_nothing t now c (event.Poll c want) (acts_of c (Asks x)) (event_of.polls want)

  acted : consumer_acted t e c k ≡ k
  acted = rw (eqb-same c, plus_none k.given, own_stays t e c k.place k.own (spared_bodiless t e k.place refl)) refl

  by_row : (y : ℕ) (o : Option Exchange) → exchange_after t e y o ≡ (if x == y then option_map to_bring o else o)
  by_row y None = exchange_absent t e y (λ z never. absurd (none_some z never)) ∙ none_left (x == y)
    where
      none_left : (b : Bool) → None ≡ (if b then option_map to_bring None else None)
      none_left true = refl
      none_left false = refl
  by_row y (Some w) = row_acted t e c nothing y w ∙ by_test (x == y) refl
    where
      by_test : (b : Bool) → nat_eq x y ≡ b →
          Some (record w { asked = b || false || w.asked; is_open = w.is_open }) ≡ (if b then option_map to_bring (Some w) else Some w)
      by_test true here = refl
      by_test false other = refl

  -- its consumer stays as it is
  pub asks : Does limits t now (event.Poll c want) NoFlaw (acts_of c (Asks x)) (with_event now (event.Poll c want) (with_ask x t))
  asks =
      let does = poll_does limits t law now c want k row (Asks x) (polls.asks x) is []
      (nothing_goes limits t law now c want k row (Asks x) (polls.asks x) is refl)
      k t.opened t.openings t.used (with_ask x t).exchange refl refl
      (binds_none t e c nothing refl refl) (λ y. by_row y (t.exchange y))
      acted refl (law.owned.idle_due c k row) (none_waits k.place) (none_waits k.place) in
      record {
        acts_are = does.acts_are;
        tables_are = does.tables_are ∙ ap (with_event now (event.Poll c want)) (same_consumer t (with_ask x t) c k row);
      }
