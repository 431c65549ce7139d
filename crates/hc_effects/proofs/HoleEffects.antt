-- What a poll does that opens an exchange for a hole: a first one binds its consumer, and a later one is that of a
-- reader.
use Rattle.std.proofs.{lemmas.Bool.Decides.{nat_tests}, Common.{arith, ◌≡◌, ℕ, [], true, Option, Some, None, refl, ap, sym, ◌∙◌, subst}}
use Rattle.hc_range.specs.declared.range.Span.{Span}
use Rattle.hc_effects.proofs.Vocabulary.{Need, Request, Limits, range_of, wanted_of, BoundBy, opened_place, unless_bound, current, Does, with_event, used_last, with_consumer, with_opening, just_opened, Entry, aim_from, NoFlaw, Lawful, Opens, acts_of, move_of, bound_to, Tables, Representation, Consumer, to_front, binds, need, event, wanted, by, route}
use Rattle.hc_event.specs.declared.place.Place.TheVariants as place
use Rattle.hc_effects.proofs.{Basics.{false_true}, OfConsumers.{BringsNothing, binds_as}, OpenEffects.{e, nothing, why, opens, keeps_all, about_current}, PollEffects.{none_waits}}

module _ (limits : Limits) (t : Tables) (law : Lawful t) (now c want : ℕ) (k : Consumer) (row : t.consumer c ≡ Some k) (x from to : ℕ) (request : Request)
    (is : move_of t now want c k ≡ Opens x (need.Hole from to) request) where
  abbrev n : Need
  n = need.Hole from to

  abbrev it : Entry
  it = e limits t law now c want k row x n request is

  said_nothing : BringsNothing t it c
  said_nothing = nothing limits t law now c want k row x n request is

  -- A FIRST HOLE

  module _ (free : bound_to k.place ≡ None) (r : ℕ) (v : Representation) (span : Span) (now_is : current t k.request.key ≡ Some r)
      (there : t.representation r ≡ Some v) (wants : wanted_of (range_of k.request) v.head.total ≡ wanted.Interval span) where
    place_is : unless_bound (bound_to k.place) k.place (opened_place t x k route.Hole) ≡ place.Bound r span.lo (Some span.hi) (by.FirstHole x)
    place_is = grind (arith, nat_tests)

    binds_it : to_front (binds t it) t.used ≡ to_front (Some r) t.used
    binds_it =
        let reason = why limits t law now c want k row x n request is in
        let bound : binds t it ≡ Some r = binds_as t it c said_nothing ∙ rw (row, reason.unshown free, reason.key_is, now_is) refl in
        ap (λ (o : Option ℕ). to_front o t.used) bound

    -- its consumer becomes bound to what is current
    pub fills_first : Does limits t now (event.Poll c want) NoFlaw (acts_of c (Opens x n request))
        (with_event now (event.Poll c want)
        (used_last r (with_consumer c (Some (record k { own = Some x; place = place.Bound r span.lo (Some span.hi) (by.FirstHole x) }))
        (with_opening x (just_opened now c n request (Some r)) t))))
    fills_first =
        subst (λ aim. Does limits t now (event.Poll c want) NoFlaw (acts_of c (Opens x n request))
        (with_event now (event.Poll c want)
        (used_last r (with_consumer c (Some (record k { own = Some x; place = place.Bound r span.lo (Some span.hi) (by.FirstHole x) }))
        (with_opening x (just_opened now c n request aim) t)))))
        now_is
        (about_current limits t law now c want k row x n request is free [] (to_front (Some r) t.used) (place.Bound r span.lo (Some span.hi) (by.FirstHole x))
        (keeps_all limits t law now c want k row x n request is refl) binds_it place_is (λ off. absurd (false_true (sym off))) (none_waits k.place) refl)

  -- A LATER ONE

  module _ (r lo : ℕ) (hi : Option ℕ) (how : BoundBy) (at : k.place ≡ place.Bound r lo hi how) (shown : k.shown ≡ true) where
    binds_none : to_front (binds t it) t.used ≡ t.used
    binds_none = grind (arith, nat_tests)

    -- its consumer stays where it reads
    pub fills_later : Does limits t now (event.Poll c want) NoFlaw (acts_of c (Opens x n request))
        (with_event now (event.Poll c want) (with_consumer c (Some (record k { own = Some x })) (with_opening x (just_opened now c n request (Some r)) t)))
    fills_later =
        subst (λ aim. Does limits t now (event.Poll c want) NoFlaw (acts_of c (Opens x n request))
        (with_event now (event.Poll c want) (with_consumer c (Some (record k { own = Some x })) (with_opening x (just_opened now c n request aim) t))))
        (ap (aim_from t k.request.key) at)
        (opens limits t law now c want k row x n request is [] t.used k.place
        (keeps_all limits t law now c want k row x n request is refl) binds_none
        (ap (λ (o : Option ℕ). unless_bound o k.place (opened_place t x k route.Hole)) (ap bound_to at)) (law.owned.idle_due c k row) (none_waits k.place)
        (none_waits k.place))
