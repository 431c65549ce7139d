-- What a poll does that opens an exchange with the turn: past what is stored, what is current is let go.
use Rattle.std.{proofs.{lemmas.Bool.Decides.{nat_tests}, Common.{arith, ◌≡◌, ◌≢◌, ℕ, [], Bool, true, false, Some, None, refl, ap, sym, ◌∙◌}}, specs.Prelude.{◌&&◌, ◌||◌, bytes_eq}}
use Rattle.hc_effects.proofs.Vocabulary.{Need, Request, route_of, Limits, Place, opened_place, unless_bound, current, is_current, bypassed_for, Does, with_event, with_consumer, with_opening, just_opened, let_some_go, Entry, NoFlaw, becomes_gone, Lawful, Opens, acts_of, move_of, bound_to, Tables, Representation, Consumer, with_item_first, is_hole, need, event, route}
use Rattle.hc_event.specs.declared.place.Place.TheVariants as place
use Rattle.hc_effects.proofs.{Basics.{false_true}, ConsumerEffects.{some_all}, KeyNames.{current_test}, OfConsumers.{BringsNothing, goes_as, ends_none}, OpenEffects.{e, nothing, why, keeps_all, binds_none, about_current}, OpenedAs.{OpenedAs, free_by}, PollEffects.{none_waits}, SameTables.{is_in, in_one, waits_for_any}, WaitEffects.{unread_undue}}

plain_turn : (n : Need) (request : Request) → n ≢ need.Bypass → bypassed_for n request.key ≡ None
plain_turn n request other = grind (arith, nat_tests)

module _ (limits : Limits) (t : Tables) (law : Lawful t) (now c want : ℕ) (k : Consumer) (row : t.consumer c ≡ Some k) (x : ℕ) (n : Need)
    (request : Request) (is : move_of t now want c k ≡ Opens x n request) (turns : route_of n ≡ route.Turn) where
  free : bound_to k.place ≡ None
  free = free_by t now c k n (why limits t law now c want k row x n request is).way (λ way. let never : route.Hole ≡ route.Turn = sym way ∙ turns in cc)

  place_is : unless_bound (bound_to k.place) k.place (opened_place t x k (route_of n)) ≡ place.Turn x
  place_is = rw (free, turns) refl

  undue : k.due ≡ None
  undue = unread_undue t law c k row free ((why limits t law now c want k row x n request is).unread free)

  -- its consumer waits for its head, with the turn
  pub fetches : n ≢ need.Bypass → Does limits t now (event.Poll c want) NoFlaw (acts_of c (Opens x n request))
      (with_event now (event.Poll c want)
      (with_consumer c (Some (record k { own = Some x; place = place.Turn x })) (with_opening x (just_opened now c n request (current t k.request.key)) t)))
  fetches other =
      about_current limits t law now c want k row x n request is free [] t.used (place.Turn x)
      (keeps_all limits t law now c want k row x n request is (plain_turn n request other))
      (binds_none limits t law now c want k row x n request is (ap is_hole turns))
      place_is (λ off. undue) (none_waits k.place) refl

module _ (limits : Limits) (t : Tables) (law : Lawful t) (now c want : ℕ) (k : Consumer) (row : t.consumer c ≡ Some k) (x : ℕ) (request : Request)
    (is : move_of t now want c k ≡ Opens x need.Bypass request) where
  abbrev it : Entry
  it = e limits t law now c want k row x need.Bypass request is

  said_nothing : BringsNothing t it c
  said_nothing = nothing limits t law now c want k row x need.Bypass request is

  reason : OpenedAs t now c k need.Bypass request
  reason = why limits t law now c want k row x need.Bypass request is

  -- just what is current is bypassed
  goes : (r : ℕ) (v : Representation) → t.representation r ≡ Some v → becomes_gone t it r v ≡ is_in (with_item_first (current t k.request.key) []) r
  goes r v there =
      goes_as t it c said_nothing r v
      ∙ (rw reason.key_is (rw (ends_none t it c said_nothing r v refl) (drop (is_current t v.key r && bytes_eq k.request.key v.key)))
      ∙ (current_test t k.request.key r v there ∙ sym (in_one (current t k.request.key) r)))
    where
      drop : (b : Bool) → (b || false || false || false || false) ≡ b
      drop true = refl
      drop false = refl

  -- it waits for no body
  unwaiting : (p : Place) → k.place ≡ p → waits_for_any (with_item_first (current t k.request.key) []) p ≡ false
  unwaiting (place.Passed r kept) at = absurd (false_true (sym (law.owned.passed c r kept k row at) ∙ reason.bypasses refl))
  unwaiting _ at = refl

  -- and what is current is let go
  pub bypasses : Does limits t now (event.Poll c want) NoFlaw (acts_of c (Opens x need.Bypass request))
      (with_event now (event.Poll c want)
      (let_some_go now (current t k.request.key)
      (with_consumer c (Some (record k { own = Some x; place = place.Turn x }))
      (with_opening x (just_opened now c need.Bypass request (current t k.request.key)) t))))
  bypasses =
      let does = about_current limits t law now c want k row x need.Bypass request is (free limits t law now c want k row x need.Bypass request is refl)
      (with_item_first (current t k.request.key) []) t.used (place.Turn x)
      goes (binds_none limits t law now c want k row x need.Bypass request is refl)
      (place_is limits t law now c want k row x need.Bypass request is refl) (λ off. undue limits t law now c want k row x need.Bypass request is refl)
      (unwaiting k.place refl) refl in
      record {
        acts_are = does.acts_are;
        tables_are = does.tables_are ∙
            ap (with_event now (event.Poll c want))
            (some_all now (current t k.request.key)
            (with_consumer c (Some (record k { own = Some x; place = place.Turn x }))
            (with_opening x (just_opened now c need.Bypass request (current t k.request.key)) t)));
      }
