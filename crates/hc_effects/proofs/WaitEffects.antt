-- What a poll does that waits.
use Rattle.std.proofs.Common.{◌≡◌, ℕ, [], false, Option, Some, None, refl, ap, sym, ◌∙◌, subst}
use Rattle.hc_text.proofs.Basics.{eqb-same, plus_none}
use Rattle.hc_effects.proofs.Vocabulary.{Wait, Response, Limits, Place, waiting_place, consumer_acted, Does, with_event, with_consumer, Entry, NoFlaw, Lawful, acts_of, move_of, shows_at, shows_direct, shows_answer, reads, bound_to, Tables, Exchange, Consumer, wait}
use Rattle.hc_event.specs.declared.event.Event.TheVariants as event
use Rattle.hc_event.specs.declared.place.Place.TheVariants as place
use Rattle.hc_model.specs.Moves as moves
use Rattle.hc_effects.proofs.{Basics.{some_none}, OfConsumers.{brings_nothing, exchanges_stay, binds_none}, PollEffects.{none_waits, same_consumer, nothing_goes, poll_does}, Said.{WaitsAs}, Untouched.{own_stays, spared_bodiless}, WaitedAs.{IsForOthers, waited_as}}
use Rattle.hc_effects.proofs.OfConsumers as event_of
use Rattle.hc_effects.proofs.PollEffects as polls
use Rattle.hc_effects.proofs.Said as said
use Rattle.hc_effects.proofs.WaitedAs as waited

-- who was shown nothing, has nothing to be shown and waits for no head has no failure due
pub unread_undue : (t : Tables) (law : Lawful t) (c : ℕ) (k : Consumer) → t.consumer c ≡ Some k → bound_to k.place ≡ None → shows_at t k k.place ≡ None →
    k.due ≡ None
unread_undue t law c k row free none = by_place k.place refl
  where
    by_head : (x : ℕ) (w : Exchange) (o : Option Response) → t.exchange x ≡ Some w → w.head ≡ o → k.place ≡ place.Direct x →
        (w.head ≡ None → k.due ≡ None) → k.due ≡ None
    by_head x w None is head at bare = bare head
    by_head x w (Some response) is head at bare =
        absurd (some_none _ (sym (ap (shows_direct t x) is ∙ ap (shows_answer t x w) head) ∙ (sym (ap (shows_at t k) at) ∙ none)))

    by_place : (p : Place) → k.place ≡ p → k.due ≡ None
    by_place (place.Direct x) at = let p = law.places.direct c x k row at in by_head x p.w p.w.head p.row refl at (λ bare. (p.unheard bare).undue)
    by_place (place.Bound r lo hi how) at = absurd (some_none r (sym (ap bound_to at) ∙ free))
    by_place _ at = law.owned.idle_due c k row (ap reads at)

module _ (limits : Limits) (t : Tables) (law : Lawful t) (now c want : ℕ) (k : Consumer) (row : t.consumer c ≡ Some k) where
  abbrev e : Wait → Entry
  e w = record { now = now; event = event.Poll c want; acts = acts_of c (moves.Waits w) }

  undue : (w : Wait) → IsForOthers w → move_of t now want c k ≡ moves.Waits w → k.due ≡ None
  undue w others is = let why = waited_as t now c k w others want law.sound row (subst (WaitsAs w) (sym is) said.waits) in
      unread_undue t law c k row why.free why.none

  idle : (w : Wait) → move_of t now want c k ≡ moves.Waits w → reads (waiting_place t k (Some w)) ≡ false → k.due ≡ None
  idle (wait.Turn d) is off = undue (wait.Turn d) (waited.turn d) is
  idle (wait.Busy d) is off = undue (wait.Busy d) (waited.busy d) is
  idle _ is off = law.owned.idle_due c k row off

  acted : (w : Wait) → consumer_acted t (e w) c k ≡ record k { place = waiting_place t k (Some w) }
  acted w = rw (eqb-same c, plus_none k.given, own_stays t (e w) c k.place k.own (spared_bodiless t (e w) k.place refl)) refl

  -- it stands where it is to wait
  pub waits : (w : Wait) → move_of t now want c k ≡ moves.Waits w
      → Does limits t now (event.Poll c want) NoFlaw (acts_of c (moves.Waits w))
      (with_event now (event.Poll c want) (with_consumer c (Some (record k { place = waiting_place t k (Some w) })) t))
  waits w is =
      let nothing = brings_nothing t now c (event.Poll c want) (acts_of c (moves.Waits w)) (event_of.polls want) in
      poll_does limits t law now c want k row (moves.Waits w) (polls.waits w) is []
      (nothing_goes limits t law now c want k row (moves.Waits w) (polls.waits w) is refl)
      (record k { place = waiting_place t k (Some w) }) t.opened t.openings t.used t.exchange refl refl
      (binds_none t (e w) c nothing refl refl) (exchanges_stay t (e w) c nothing (λ x. refl) (λ x. refl) refl)
      (acted w) refl (idle w is) (none_waits k.place) (none_waits (waiting_place t k (Some w)))

  -- who waits for an exchange stays as it is
  pub waits_on : (w : Wait) → move_of t now want c k ≡ moves.Waits w → waiting_place t k (Some w) ≡ k.place
      → Does limits t now (event.Poll c want) NoFlaw (acts_of c (moves.Waits w)) (with_event now (event.Poll c want) t)
  waits_on w is stays =
      let does = waits w is in
      record {
        acts_are = does.acts_are;
        tables_are = does.tables_are ∙
            (ap (λ (p : Place). with_event now (event.Poll c want) (with_consumer c (Some (record k { place = p })) t)) stays ∙
            ap (with_event now (event.Poll c want)) (same_consumer t t c k row));
      }
