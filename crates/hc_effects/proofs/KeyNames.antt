-- What an event names is of its key: the representation of an exchange, and what a consumer reads from.
--
-- The law of keys says it of rows; here it is said of what an event reaches by these. A doom is of the key of its event
-- (`doomed_key`). The representation of an exchange has the key of its request (`family_key`), and what is current has
-- its key (`current_key`). A consumer reads from its own exchange or a writing's, so that is of its key (`source_key`),
-- and so is what is near (`near_key`). Laws of keys use these.
use Rattle.std.{proofs.{lemmas.Bool.Decides.{nat_tests}, Common.{arith, ◌≡◌, inl, inr, ℕ, List, Bool, true, false, Option, Some, None, refl, ap, sym, ◌∙◌}}, specs.{Prelude.{bytes_eq, ◌&&◌, ◌||◌, if◌then◌else◌, unwrap_or}, Option.{option_or}}}
use Rattle.hc_text.proofs.Basics.{and_none as with_false, and_true as with_true, and_left, bool_cases, eq_reports as eq_is, never_true as not_so, or_cases, same_some as same_row}
use Rattle.hc_effects.proofs.Vocabulary.{Event, Place, BoundBy, current, is_usable, is_current, is_number, doomed_key_of, is_key, Entry, family, HasRow, key_of, is_of_key, ExchangeKeys, ConsumerKeys, own_open, shared_exchange, group_in, is_written, source, is_bound, is_bound_place, Tables, Exchange, Representation, Consumer}
use Rattle.hc_rules.proofs.RangeReads.{bytes_eq-same, same_bytes}
use Rattle.hc_event.specs.declared.place.Place.TheVariants as place
use Rattle.hc_model.specs.Sound as sound
use Rattle.hc_effects.proofs.{Basics.{number_is, true_false}, PollKeeps.{find_passes}}

-- WORDS

pub key_is : (o : Option (List ℕ)) (key : List ℕ) → is_key o key ≡ true → o ≡ Some key
key_is None key h = absurd (let never : false ≡ true = h in cc)
key_is (Some k) key h = ap Some (same_bytes k key h)

-- WHAT IS OF ANOTHER KEY

-- the key isn't that of the event
abbrev pub IsOther : Tables → Event → List ℕ → Type 0
IsOther t ev key = is_of_key (key_of t ev) (Some key) ≡ false

pub not_other : (t : Tables) (ev : Event) (key : List ℕ) → key_of t ev ≡ Some key → IsOther t ev key → ⊥
not_other t ev key is other =
    let yes : is_of_key (key_of t ev) (Some key) ≡ true = ap (λ o. is_of_key o (Some key)) is ∙ bytes_eq-same key key refl in
    let no : true ≡ false = sym yes ∙ other in
    cc

-- DOOMS

-- what is doomed is the key of the event
pub doomed_key : (t : Tables) (e : Entry) (key : List ℕ) → doomed_key_of t e ≡ Some key → key_of t e.event ≡ Some key
unfolding doomed_key_of
doomed_key t e key is = grind (arith, nat_tests)

-- EXCHANGES AND THEIR REPRESENTATIONS

-- what has a row of a key is of that key
pub of_row : (t : Tables) (r : ℕ) (key : List ℕ) (v : Representation) → HasRow t r key → t.representation r ≡ Some v → v.key ≡ key
of_row t r key v has row = ap (λ (u : Representation). u.key) (same_row (t.representation r) v has.0 row has.1) ∙ has.2

pub aims_key : (t : Tables) (x r : ℕ) (w : Exchange) (v : Representation) → ExchangeKeys t → t.exchange x ≡ Some w → w.aim ≡ Some r →
    t.representation r ≡ Some v → v.key ≡ w.request.key
aims_key t x r w v keys row is there = of_row t r w.request.key v (keys.aims x r w row is) there

pub writer_key : (t : Tables) (r x : ℕ) (w : Exchange) (v : Representation) → ExchangeKeys t → t.representation r ≡ Some v → v.writer ≡ Some x →
    t.exchange x ≡ Some w → v.key ≡ w.request.key
writer_key t r x w v keys there is row =
    let h = keys.writers r x v there is in
    h.2 ∙ ap (λ (u : Exchange). u.request.key) (same_row (t.exchange x) h.0 w h.1 row)

pub opener_key : (t : Tables) (x : ℕ) (w : Exchange) (k : Consumer) → ExchangeKeys t → t.exchange x ≡ Some w → t.consumer w.c ≡ Some k →
    w.request.key ≡ k.request.key
opener_key t x w k keys row is = grind (arith, nat_tests)

-- the representation of an exchange is of its key
pub family_key : (t : Tables) (x r : ℕ) (w : Exchange) (v : Representation) → ExchangeKeys t → t.exchange x ≡ Some w → family x w ≡ r →
    t.representation r ≡ Some v → v.key ≡ w.request.key
family_key t x r w v keys row is there = by_joined w.joined refl is
  where
    by_joined : (o : Option ℕ) → w.joined ≡ o → unwrap_or o x ≡ r → v.key ≡ w.request.key
    by_joined None joined h = keys.founded r w v (ap t.exchange (sym h) ∙ row) there
    by_joined (Some q) joined h = of_row t r w.request.key v (keys.joined x r w row (joined ∙ ap Some h)) there

-- what is current is of the key
pub current_key : (t : Tables) (key : List ℕ) (r : ℕ) (v : Representation) → current t key ≡ Some r → t.representation r ≡ Some v → v.key ≡ key
unfolding current
current_key t key r v is row =
    let passes : is_usable key (Some v) ≡ true = sym (ap (is_usable key) row) ∙ find_passes (λ q. is_usable key (t.representation q)) t.founded r is in
    same_bytes v.key key (and_left _ _ passes)

-- just what is current for a key is current for its own, where that is the same
pub current_test : (t : Tables) (key : List ℕ) (r : ℕ) (v : Representation) → t.representation r ≡ Some v →
    (is_current t v.key r && bytes_eq key v.key) ≡ is_number (current t key) r
current_test t key r v there = elim (bool_cases (bytes_eq key v.key)) [
  | inl same ↦ rw same (with_true (is_current t v.key r) ∙ ap (λ z. is_number (current t z) r) (sym (same_bytes key v.key same)))
  | inr other ↦ rw other (with_false (is_current t v.key r) ∙ sym (not_so (is_number (current t key) r) (λ on.
      true_false (sym (bytes_eq-same key v.key (sym (current_key t key r v (number_is (current t key) r on) there))) ∙ other))))
]

-- CONSUMERS AND WHAT THEY READ FROM

own_is : (t : Tables) (k : Consumer) (x : ℕ) → own_open t k ≡ Some x → k.own ≡ Some x
own_is t k x is = grind (arith, nat_tests)

module _ (t : Tables) (c : ℕ) (k : Consumer) (exchanges : ExchangeKeys t) (consumers : ConsumerKeys t) (is_row : t.consumer c ≡ Some k) where
  pub own_key : (x : ℕ) (w : Exchange) → own_open t k ≡ Some x → t.exchange x ≡ Some w → w.request.key ≡ k.request.key
  own_key x w is row =
      let h = consumers.own c x k is_row (own_is t k x is) in
      ap (λ (u : Exchange). u.request.key) (same_row (t.exchange x) w h.0 row h.1) ∙ h.2

  pub bound_key : (r lo : ℕ) (hi : Option ℕ) (how : BoundBy) (v : Representation) → k.place ≡ place.Bound r lo hi how → t.representation r ≡ Some v →
      v.key ≡ k.request.key
  bound_key r lo hi how v at row = of_row t r k.request.key v (consumers.bound r c k (sound.is_bound lo hi how is_row at)) row

  pub shared_key : (place : Place) (x : ℕ) (w : Exchange) → k.place ≡ place → shared_exchange t place ≡ Some x → t.exchange x ≡ Some w →
      w.request.key ≡ k.request.key
  shared_key (place.Bound r lo hi how) x w at is row = by_row (t.representation r) refl is
    where
      by_test : (v : Representation) (b : Bool) → (if b then v.writer else None) ≡ Some x → v.writer ≡ Some x
      by_test v true h = h
      by_test v false h = absurd (let never : None ≡ Some x = h in cc)

      by_row : (o : Option Representation) → t.representation r ≡ o → group_in t o ≡ Some x → w.request.key ≡ k.request.key
      by_row None there h = absurd (let never : None ≡ Some x = h in cc)
      by_row (Some v) there h =
          let writes : v.writer ≡ Some x = by_test v (is_written t v) h in
          sym (writer_key t r x w v exchanges there writes row) ∙ bound_key r lo hi how v at there
  shared_key _ x w at is row = absurd (let never : None ≡ Some x = is in cc)

  -- what it reads from is of its key
  pub source_key : (x : ℕ) (w : Exchange) → source t k ≡ Some x → t.exchange x ≡ Some w → w.request.key ≡ k.request.key
  source_key x w is row = by_own (own_open t k) refl is
    where
      by_own : (o : Option ℕ) → own_open t k ≡ o → option_or o (shared_exchange t k.place) ≡ Some x → w.request.key ≡ k.request.key
      by_own None own h = shared_key k.place x w refl h row
      by_own (Some y) own h = own_key x w (own ∙ h) row

  -- what is near it is of its key
  pub near_key : (r : ℕ) (v : Representation) → t.representation r ≡ Some v → (is_bound r (Some k) || is_current t k.request.key r) ≡ true →
      v.key ≡ k.request.key
  near_key r v row near = elim (or_cases _ _ near) [
    | inl bound ↦ by_place k.place refl bound
    | inr now ↦ current_key t k.request.key r v (number_is _ r now) row
  ]
    where
      by_place : (place : Place) → k.place ≡ place → is_bound_place r place ≡ true → v.key ≡ k.request.key
      by_place (place.Bound q lo hi how) at h = bound_key r lo hi how v (at ∙ ap (λ n. place.Bound n lo hi how) (eq_is q r h)) row
      by_place _ at h = absurd (let never : false ≡ true = h in cc)
