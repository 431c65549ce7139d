-- What a poll does that opens an exchange past the store.
use Rattle.std.proofs.{lemmas.Bool.Decides.{nat_tests}, Common.{arith, ◌≡◌, ℕ, [], Some, None, refl, ap, sym, ◌∙◌}}
use Rattle.hc_effects.proofs.Vocabulary.{Need, Request, route_of, Limits, opened_place, unless_bound, current, bypassed_for, Does, with_event, with_consumer, with_opening, just_opened, NoFlaw, Lawful, Opens, acts_of, move_of, bound_to, Tables, Consumer, is_hole, event, route}
use Rattle.hc_event.specs.declared.place.Place.TheVariants as place
use Rattle.hc_effects.proofs.{Basics.{false_true}, OpenEffects.{why, keeps_all, binds_none, about_current}, OpenedAs.{free_by}, PollEffects.{none_waits}}

-- it bypasses nothing
plain_past : (n : Need) (request : Request) → route_of n ≡ route.Direct → bypassed_for n request.key ≡ None
plain_past n request way = grind (arith, nat_tests)

module _ (limits : Limits) (t : Tables) (law : Lawful t) (now c want : ℕ) (k : Consumer) (row : t.consumer c ≡ Some k) (x : ℕ) (n : Need)
    (request : Request) (is : move_of t now want c k ≡ Opens x n request) (past : route_of n ≡ route.Direct) where
  free : bound_to k.place ≡ None
  free = free_by t now c k n (why limits t law now c want k row x n request is).way (λ way. let never : route.Hole ≡ route.Direct = sym way ∙ past in cc)

  place_is : unless_bound (bound_to k.place) k.place (opened_place t x k (route_of n)) ≡ place.Direct x
  place_is = rw (free, past) refl

  -- its consumer waits for its head, past the store
  pub passes_by : Does limits t now (event.Poll c want) NoFlaw (acts_of c (Opens x n request))
      (with_event now (event.Poll c want)
      (with_consumer c (Some (record k { own = Some x; place = place.Direct x })) (with_opening x (just_opened now c n request (current t k.request.key)) t)))
  passes_by =
      about_current limits t law now c want k row x n request is free [] t.used (place.Direct x)
      (keeps_all limits t law now c want k row x n request is (plain_past n request past))
      (binds_none limits t law now c want k row x n request is (ap is_hole past))
      place_is (λ off. absurd (false_true (sym off))) (none_waits k.place) refl
