-- A piece, whether the store takes it or loses it, leaves each bound consumer served.
use Rattle.std.{proofs.{lemmas.Bool.Decides.{nat_tests}, Common.{arith, ◌≡◌, ℕ, List, [], ◌∷◌, ◌++◌, Bool, true, false, cond, Option, Some, None, refl, ap, sym, ◌∙◌, subst}}, specs.{Prelude.{map}, Option.{option_or}}}
use Rattle.hc_text.proofs.Basics.{some_inj}
use Rattle.hc_effects.proofs.Vocabulary.{opening_in, shows_in, given_in, leaves_in, Act, wait_in, showing_in, loss_acts, consumer_after, consumer_acted, consumer_settled, own_after, Entry, becomes_due, Flaw, Loses, reads, Tables, Consumer, starts_over, BoundBy, act}
use Rattle.hc_event.specs.declared.place.Place.TheVariants as place
use Rattle.hc_effects.proofs.PieceKeeps.{of_piece}

-- acts that speak of no consumer
pub record IsQuietActs (acts : List Act) : Type 0 where
  pub opens : opening_in acts ≡ None
  pub waits : (c : ℕ) → wait_in c acts ≡ None
  pub shows : (c : ℕ) → shows_in c acts ≡ false
  pub showing : showing_in acts ≡ None
  pub gives : (c : ℕ) → given_in c acts ≡ []
  pub leaves : (c : ℕ) → leaves_in c acts ≡ false

quiet_closes : (xs : List ℕ) → IsQuietActs (map act.Close xs)
quiet_closes [] = record { opens = refl; waits = λ c. refl; shows = λ c. refl; showing = refl; gives = λ c. refl; leaves = λ c. refl }
quiet_closes (x ∷ xs) = let q = quiet_closes xs in
    record { opens = q.opens; waits = q.waits; shows = q.shows; showing = q.showing; gives = q.gives; leaves = q.leaves }

pub quiet_losses : (flaw : Flaw) (rest : List Act) → IsQuietActs rest → IsQuietActs (loss_acts flaw ++ rest)
quiet_losses (Loses r kind) rest q = record { opens = q.opens; waits = q.waits; shows = q.shows; showing = q.showing; gives = q.gives; leaves = q.leaves }
quiet_losses _ rest q = q

quiet_evictions : (rs : List ℕ) (rest : List Act) → IsQuietActs rest → IsQuietActs (map act.Evicted rs ++ rest)
quiet_evictions [] rest q = q
quiet_evictions (r ∷ rs) rest q = let p = quiet_evictions rs rest q in
    record { opens = p.opens; waits = p.waits; shows = p.shows; showing = p.showing; gives = p.gives; leaves = p.leaves }

pub quiet_acts : (rs xs : List ℕ) (flaw : Flaw) → IsQuietActs (map act.Evicted rs ++ (loss_acts flaw ++ map act.Close xs))
quiet_acts rs xs flaw = quiet_evictions rs _ (quiet_losses flaw _ (quiet_closes xs))

-- a consumer that is bound after a piece was bound before, and only what is due and its own exchange may have changed
pub record WasBound (t : Tables) (e : Entry) (c : ℕ) (u : Consumer) : Type 0 where
  pub k : Consumer
  pub row : t.consumer c ≡ Some k
  pub place_is : u.place ≡ k.place
  pub request_is : u.request ≡ k.request
  pub given_is : u.given ≡ k.given
  pub due_is : u.due ≡ option_or k.due (becomes_due t e c k)
  pub own_is : u.own ≡ own_after t e c k.place k.own

abbrev given_is : Consumer → ℕ → Consumer
given_is k n = record k { given = n }

-- of who hears this, they change but what is its own
pub acted_quiet : (t : Tables) (e : Entry) (c : ℕ) (k : Consumer) → IsQuietActs e.acts →
    consumer_acted t e c k ≡ record k { own = own_after t e c k.place k.own }
acted_quiet t e c k q = grind (arith, nat_tests)

-- a row that started over, and one that didn't
started_over : (t : Tables) (e : Entry) (c : ℕ) (k q : Consumer) → starts_over t e c k ≡ true → (consumer_settled t e c k q).place ≡ place.Line
started_over t e c k q over = rw over refl

record IsSettled (t : Tables) (e : Entry) (c : ℕ) (k q u : Consumer) : Type 0 where
  place_is : u.place ≡ q.place
  request_is : u.request ≡ q.request
  given_is : u.given ≡ q.given
  own_is : u.own ≡ q.own
  due_is : u.due ≡ (cond (reads q.place) (option_or k.due (becomes_due t e c k)) None)

settled : (t : Tables) (e : Entry) (c : ℕ) (k q : Consumer) → starts_over t e c k ≡ false → IsSettled t e c k q (consumer_settled t e c k q)
settled t e c k q stays = rw stays (record { place_is = refl; request_is = refl; given_is = refl; own_is = refl; due_is = refl })

bound_line : (r lo : ℕ) (hi : Option ℕ) (how : BoundBy) → place.Line ≡ place.Bound r lo hi how → ⊥
bound_line r lo hi how h = cc

was_bound_by : (t : Tables) (e : Entry) (c r lo : ℕ) (hi : Option ℕ) (how : BoundBy) (k u : Consumer) (b : Bool) → starts_over t e c k ≡ b →
    t.consumer c ≡ Some k → consumer_settled t e c k (record k { own = own_after t e c k.place k.own }) ≡ u → u.place ≡ place.Bound r lo hi how →
    WasBound t e c u
was_bound_by t e c r lo hi how k u true over row is stands =
    absurd (bound_line r lo hi how
    (sym (started_over t e c k (record k { own = own_after t e c k.place k.own }) over) ∙ (ap (λ (z : Consumer). z.place) is ∙ stands)))
was_bound_by t e c r lo hi how k u false over row is stands =
    let q : Consumer = record k { own = own_after t e c k.place k.own } in
    let s : IsSettled t e c k q u = subst (IsSettled t e c k q) is (settled t e c k q over) in
    let was : k.place ≡ place.Bound r lo hi how = sym s.place_is ∙ stands in
    record {
      k = k;
      row = row;
      place_is = s.place_is;
      request_is = s.request_is;
      given_is = s.given_is;
      due_is = s.due_is ∙ ap (λ p. cond (reads p) (option_or k.due (becomes_due t e c k)) None) was;
      own_is = s.own_is;
    }

pub was_bound : (t : Tables) (now x c r lo : ℕ) (hi : Option ℕ) (how : BoundBy) (bytes : List ℕ) (acts : List Act) (o : Option Consumer) (u : Consumer) →
    IsQuietActs acts → t.consumer c ≡ o → consumer_after t (of_piece now x bytes acts) c o ≡ Some u → u.place ≡ place.Bound r lo hi how →
    WasBound t (of_piece now x bytes acts) c u
unfolding consumer_after
was_bound t now x c r lo hi how bytes acts None u q row is place = absurd (let never : None ≡ Some u = is in cc)
was_bound t now x c r lo hi how bytes acts (Some k) u q row is stands =
    let e = of_piece now x bytes acts in
    was_bound_by t e c r lo hi how k u (starts_over t e c k) refl row (sym (ap (consumer_settled t e c k) (acted_quiet t e c k q)) ∙ some_inj _ u is) stands
