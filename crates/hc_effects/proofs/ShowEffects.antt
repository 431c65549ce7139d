-- What a poll does that shows a head: to who reads already, or by its plan, which binds.
use Rattle.std.proofs.Common.{◌≡◌, ℕ, [], true, false, Option, Some, None, refl, ap, sym, ◌∙◌}
use Rattle.hc_text.proofs.Basics.{eqb-same, plus_none}
use Rattle.hc_effects.proofs.Vocabulary.{Why, Response, Limits, consumer_acted, Does, with_event, used_last, with_consumer, Entry, NoFlaw, Lawful, Shows, acts_of, move_of, reads, Tables, Consumer, to_front, binds, by}
use Rattle.hc_event.specs.declared.event.Event.TheVariants as event
use Rattle.hc_event.specs.declared.place.Place.TheVariants as place
use Rattle.hc_effects.proofs.{Basics.{false_true}, OfConsumers.{BringsNothing, brings_nothing, binds_as, exchanges_stay}, PollEffects.{none_waits, nothing_goes, poll_does}, Untouched.{own_stays, spared_bodiless}}
use Rattle.hc_effects.proofs.OfConsumers as event_of
use Rattle.hc_effects.proofs.PollEffects as polls

module _ (limits : Limits) (t : Tables) (law : Lawful t) (now c want : ℕ) (k : Consumer) (row : t.consumer c ≡ Some k) (r : ℕ) (why : Why)
    (head : Response) (lo : ℕ) (hi : Option ℕ) (is : move_of t now want c k ≡ Shows r why head lo hi) where
  abbrev e : Entry
  e = record { now = now; event = event.Poll c want; acts = acts_of c (Shows r why head lo hi) }

  nothing : BringsNothing t e c
  nothing = brings_nothing t now c (event.Poll c want) (acts_of c (Shows r why head lo hi)) (event_of.polls want)

  -- who reads already stays where it reads
  module _ (reading : reads k.place ≡ true) where
    acted_reader : consumer_acted t e c k ≡ record k { shown = true }
    acted_reader = rw (eqb-same c, reading, plus_none k.given, own_stays t e c k.place k.own (spared_bodiless t e k.place refl)) refl

    binds_none : to_front (binds t e) t.used ≡ t.used
    binds_none = let nobody : binds t e ≡ None = binds_as t e c nothing ∙ rw (row, reading) refl in ap (λ (z : Option ℕ). to_front z t.used) nobody

    pub shows_reader : Does limits t now (event.Poll c want) NoFlaw (acts_of c (Shows r why head lo hi))
        (with_event now (event.Poll c want) (with_consumer c (Some (record k { shown = true })) t))
    shows_reader =
        poll_does limits t law now c want k row (Shows r why head lo hi) (polls.shows r why head lo hi) is []
        (nothing_goes limits t law now c want k row (Shows r why head lo hi) (polls.shows r why head lo hi) is refl)
        (record k { shown = true }) t.opened t.openings t.used t.exchange refl refl
        binds_none (exchanges_stay t e c nothing (λ x. refl) (λ x. refl) refl)
        acted_reader refl (law.owned.idle_due c k row) (none_waits k.place) (none_waits k.place)

  -- who reads nothing yet becomes bound to what it is shown
  module _ (idle : reads k.place ≡ false) where
    acted_new : consumer_acted t e c k ≡ record k { place = place.Bound r lo hi by.Plan; shown = true }
    acted_new = rw (eqb-same c, idle, plus_none k.given, own_stays t e c k.place k.own (spared_bodiless t e k.place refl)) refl

    binds_it : to_front (binds t e) t.used ≡ to_front (Some r) t.used
    binds_it = let it : binds t e ≡ Some r = binds_as t e c nothing ∙ rw (row, idle) refl in ap (λ (z : Option ℕ). to_front z t.used) it

    pub shows_new : Does limits t now (event.Poll c want) NoFlaw (acts_of c (Shows r why head lo hi))
        (with_event now (event.Poll c want) (used_last r (with_consumer c (Some (record k { place = place.Bound r lo hi by.Plan; shown = true })) t)))
    shows_new =
        poll_does limits t law now c want k row (Shows r why head lo hi) (polls.shows r why head lo hi) is []
        (nothing_goes limits t law now c want k row (Shows r why head lo hi) (polls.shows r why head lo hi) is refl)
        (record k { place = place.Bound r lo hi by.Plan; shown = true }) t.opened t.openings (to_front (Some r) t.used) t.exchange refl refl
        binds_it (exchanges_stay t e c nothing (λ x. refl) (λ x. refl) refl)
        acted_new refl (λ off. absurd (false_true (sym off))) (none_waits k.place) refl
