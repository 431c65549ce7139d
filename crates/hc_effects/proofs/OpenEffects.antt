-- What each poll does that opens an exchange: its number is new, its row, and its consumer owns it.
use Rattle.std.{proofs.Common.{◌≡◌, inl, inr, ℕ, ◌+◌, List, [], ◌∷◌, false, Option, Some, None, refl, ap, sym, ◌∙◌, subst, arith}, specs.Prelude.{◌==◌, nat_eq, if◌then◌else◌}}
use Rattle.hc_text.proofs.Basics.{eqb-same, plus_none, some_inj}
use Rattle.hc_effects.proofs.Vocabulary.{Opening, opening_in, Need, Request, route_of, Limits, Place, consumer_acted, opened_place, unless_bound, current, bypassed_for, Does, with_event, with_consumer, with_opening, just_opened, let_all_go, Entry, exchange_after, exchange_made, aim_from, aim_of, NoFlaw, becomes_gone, Lawful, Opens, acts_of, move_of, bound_to, reads, Tables, Exchange, Representation, Consumer, to_front, binds, is_hole}
use Rattle.hc_event.specs.declared.event.Event.TheVariants as event
use Rattle.hc_effects.proofs.{OfConsumers.{BringsNothing, brings_nothing, row_unsaid, binds_as}, OpenedAs.{OpenedAs, opened_as}, PieceKeeps.{eq_cases}, PollEffects.{acts_are, nothing_goes, poll_does}, PollKeeps.{poll_opens_next}, Said.{IsOpening}, SameTables.{is_in, waits_for_any}, Untouched.{own_stays, spared_bodiless, exchange_absent}, WaitingNew.{aim_free}}
use Rattle.hc_effects.proofs.OfConsumers as event_of
use Rattle.hc_effects.proofs.PollEffects as polls
use Rattle.hc_effects.proofs.Said as said

module _ (limits : Limits) (t : Tables) (law : Lawful t) (now c want : ℕ) (k : Consumer) (row : t.consumer c ≡ Some k) (x : ℕ) (n : Need)
    (request : Request) (is : move_of t now want c k ≡ Opens x n request) where
  -- the entry of the poll
  abbrev pub e : Entry
  e = record { now = now; event = event.Poll c want; acts = acts_of c (Opens x n request) }

  abbrev o : Opening
  o = record { x = x; c = c; need = n; request = request }

  -- what the poll doesn't say
  pub nothing : BringsNothing t e c
  nothing = brings_nothing t now c (event.Poll c want) (acts_of c (Opens x n request)) (event_of.polls want)

  -- why it is opened
  pub why : OpenedAs t now c k n request
  why = opened_as t now c k want o law.sound row (subst (IsOpening o) (sym is) said.opens)

  next : x ≡ t.opened + 1
  next = poll_opens_next limits t now c want k law.sound row NoFlaw o
      (ap opening_in (acts_are limits t law now c want k row (Opens x n request) (polls.opens x n request) is))

  new_number : t.exchange x ≡ None
  new_number = law.sound.numbered.lists.new_exchanges x (omega (arith, next))

  -- its row
  abbrev made : Exchange
  made = just_opened now c n request (aim_from t k.request.key k.place)

  made_is : exchange_made t e x (Some o) ≡ Some made
  made_is = rw eqb-same (ap (λ (z : Option Consumer). Some (just_opened now c n request (aim_of t z))) row)

  exchange_by : (y : ℕ) → exchange_after t e y (t.exchange y) ≡ (if x == y then Some made else t.exchange y)
  unfolding exchange_after
  exchange_by y = elim (eq_cases x y) [
    | inl here ↦ rw here.0 (ap (exchange_after t e y) (sym (ap t.exchange here.1) ∙ new_number) ∙
        (subst (λ z. exchange_made t e z (Some o) ≡ Some made) here.1 made_is))
    | inr other ↦ rw other.0 (by_row (t.exchange y) other.0)
  ]
    where
      by_row : (z : Option Exchange) → nat_eq x y ≡ false → exchange_after t e y z ≡ z
      by_row None apart = exchange_absent t e y (λ p same. ap (λ (q : Opening). nat_eq q.x y) (sym (some_inj o p same)) ∙ apart)
      by_row (Some w) apart = row_unsaid t e c nothing y w refl refl

  acted : (p : Place) → unless_bound (bound_to k.place) k.place (opened_place t x k (route_of n)) ≡ p →
      consumer_acted t e c k ≡ record k { own = Some x; place = p }
  acted p at = rw (eqb-same c, plus_none k.given, own_stays t e c k.place (Some x) (spared_bodiless t e k.place refl))
      (ap (λ (z : Place). record k { own = Some x; place = z }) at)

  -- it is opened, its consumer stands at p and owns it, and what is bypassed is let go
  pub opens : (rs us : List ℕ) (p : Place) → ((r : ℕ) (v : Representation) → t.representation r ≡ Some v → becomes_gone t e r v ≡ is_in rs r) →
      to_front (binds t e) t.used ≡ us
      → unless_bound (bound_to k.place) k.place (opened_place t x k (route_of n)) ≡ p → (reads p ≡ false → k.due ≡ None) →
      waits_for_any rs k.place ≡ false → waits_for_any rs p ≡ false
      → Does limits t now (event.Poll c want) NoFlaw (acts_of c (Opens x n request))
      (with_event now (event.Poll c want)
      (let_all_go now rs (with_consumer c (Some (record k { own = Some x; place = p })) (record (with_opening x made t) { used = us }))))
  opens rs us p goes used at idle unwaiting unwaits =
      poll_does limits t law now c want k row (Opens x n request) (polls.opens x n request) is rs goes
      (record k { own = Some x; place = p }) x (x ∷ t.openings) us (with_opening x made t).exchange refl refl used exchange_by
      (acted p at) refl idle unwaiting unwaits

  -- where it bypasses nothing, nothing goes
  pub keeps_all : bypassed_for n request.key ≡ None → (r : ℕ) (v : Representation) → t.representation r ≡ Some v → becomes_gone t e r v ≡ is_in [] r
  keeps_all plain = nothing_goes limits t law now c want k row (Opens x n request) (polls.opens x n request) is plain

  -- nobody becomes bound by another than a first hole
  pub binds_none : is_hole (route_of n) ≡ false → to_front (binds t e) t.used ≡ t.used
  binds_none off = let nobody : binds t e ≡ None = binds_as t e c nothing ∙ rw off refl in ap (λ (z : Option ℕ). to_front z t.used) nobody

  -- what is opened for who is bound to nothing is about what is current
  pub about_current : bound_to k.place ≡ None → (rs us : List ℕ) (p : Place) →
      ((r : ℕ) (v : Representation) → t.representation r ≡ Some v → becomes_gone t e r v ≡ is_in rs r) → to_front (binds t e) t.used ≡ us
      → unless_bound (bound_to k.place) k.place (opened_place t x k (route_of n)) ≡ p → (reads p ≡ false → k.due ≡ None) →
      waits_for_any rs k.place ≡ false → waits_for_any rs p ≡ false
      → Does limits t now (event.Poll c want) NoFlaw (acts_of c (Opens x n request))
      (with_event now (event.Poll c want)
      (let_all_go now rs (with_consumer c (Some (record k { own = Some x; place = p }))
      (record (with_opening x (just_opened now c n request (current t k.request.key)) t) { used = us }))))
  about_current free rs us p goes used at idle unwaiting unwaits =
      subst (λ aim. Does limits t now (event.Poll c want) NoFlaw (acts_of c (Opens x n request))
      (with_event now (event.Poll c want)
      (let_all_go now rs (with_consumer c (Some (record k { own = Some x; place = p }))
      (record (with_opening x (just_opened now c n request aim) t) { used = us })))))
      (aim_free t k.request.key k.place free) (opens rs us p goes used at idle unwaiting unwaits)
