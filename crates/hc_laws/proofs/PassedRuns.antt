-- Who was let through waits for what is current, and its 304 came from its own exchange, in every run.
use Rattle.std.proofs.{lemmas.Bool.Decides.{nat_tests}, Common.{arith, ◌≡◌, ℕ, Bool, false, Option, Some, None, refl, subst}}
use Rattle.hc_effects.proofs.Vocabulary.{place, OfRuns, Turns, Owners, Passed, Places, own_open, Tables, Exchange, Consumer, tables}
use Rattle.hc_model.specs.Passed.{WaitsForCurrent, OwnsOver}
use Rattle.hc_effects.proofs.{Basics.{some_row}, KeyNames.{current_key}, PollKeeps.{current_stays}}
use Rattle.hc_laws.proofs.{InRuns.{turned_in_runs}, PlacesStand.{Stands, AreStanding}, PlaceRuns.{known_in_runs, places_in_runs}, SoundRuns.{owners_in_runs}}

module _ (t : Tables) (o : Owners t) (turns : Turns t) (places : Places t) (stands : AreStanding t) where
  waits_by : (c r : ℕ) (kept : Option ℕ) (k : Consumer) → t.consumer c ≡ Some k → k.place ≡ place.Passed r kept → WaitsForCurrent t r k
  waits_by c r kept k row at =
      let p = turns.passed c r kept k row at in
      record {
        v = p.v;
        row = p.row;
        key_is = current_key t k.request.key r p.v p.current_is p.row;
        not_gone =
            current_stays t k.request.key r p.v p.current_is p.row;
        current_is = p.current_is;
      }

  -- what is its own and not open is over
  over_by : (x : ℕ) (w : Exchange) (k : Consumer) (b : Bool) → k.own ≡ Some x → t.exchange x ≡ Some w → own_open t k ≡ None → w.is_open ≡ b → b ≡ false
  over_by x w k b own row none on = grind (arith, nat_tests)

  kept_by : (c r x : ℕ) (k : Consumer) → t.consumer c ≡ Some k → k.place ≡ place.Passed r (Some x) → OwnsOver t x k
  kept_by c r x k row at =
      let own : k.own ≡ Some x = subst (λ p. Stands p k.own k.request) at (stands.stands c k row) in
      let there = some_row (t.exchange x) (o.there c x k row own) in
      record {
        own = own;
        w = there.0;
        row = there.1;
        over =
            over_by x there.0 k there.0.is_open own there.1 (places.passed c r (Some x) k row at).unowned refl;
      }

  passed_by : Passed t
  passed_by = record { waits = waits_by; kept = kept_by; unkept = λ c r k row at. subst (λ p. Stands p k.own k.request) at (stands.stands c k row) }

pub passed_in_runs : OfRuns Passed
passed_in_runs limits contents h may run =
    passed_by (tables contents h) (owners_in_runs limits contents h may run) (turned_in_runs limits contents h may run).turns
    (places_in_runs limits contents h may run) (known_in_runs limits contents h may run).standing
