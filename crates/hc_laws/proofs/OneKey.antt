-- The law of one key: an entry of a run changes what is said of its own key, and else only how much is idle.
--
-- Of another key an entry says nothing but who gives way (`far_entry`), so rows of that key stay. What is new is of the
-- entry's key: an exchange that is opened (`new_exchange`), what is founded (`founded_key`), and a consumer that starts
-- (`started_key`). Whether a row concerns the key of the event is told by its own key (`other_exchange`).
-- `law_of_one_key` joins these.
use Rattle.std.{proofs.Common.{◌≡◌, Bool, ℕ, length, true, false, Option, Some, None, refl, ap, sym, ◌∙◌}, specs.{Prelude.{if◌then◌else◌, ◌==◌, ◌&&◌}, Option.{option_map}}}
use Rattle.hc_text.proofs.Basics.{not_some as none_some, some_inj}
use Rattle.hc_effects.proofs.Vocabulary.{Opening, opening_in, evicts_in, is_denied, Event, Response, head_refusal, piece_refusal, end_refusal, fault_refusal, Limits, denial, as_open, Entry, exchange_in, flaw_in, key_of, is_of_key, ExchangeKeys, ConsumerKeys, exchange_after, exchange_made, exchange_opened, consumer_after, consumer_made, new_consumer, case_at, is_founding, new_representation, founded_at, representation_after, Tables, Exchange, Representation, Consumer, IsOwed, may_stand, may_be, event}
use Rattle.hc_rules.specs.Refusals as refusals
use Rattle.hc_model.specs.Keys.{concerns_exchange, concerns_representation, concerns_consumer, IsEvicted, LawOfOneKey}
use Rattle.hc_effects.proofs.KeyActs as acts
use Rattle.hc_effects.proofs.{KeyNames.{IsOther}, KeyRows.{IsFarEntry, exchange_stays, representation_row, consumer_row}, Once.{never}, Owed.{acts_are, goes}}

-- an accepted event of an exchange is of one that is there
came : (o : Option Exchange) → (o ≡ None → ⊥) → (w : Exchange) × (o ≡ Some w)
came None absent = absurd (absent refl)
came (Some w) absent = (w, refl)

comes : (t : Tables) (ev : Event) (x : ℕ) → denial t ev ≡ None → exchange_in ev ≡ Some x → (w : Exchange) × (t.exchange x ≡ Some w)
unfolding refusals.refusal_of
comes t (event.Head y response) x goes is =
    came (t.exchange x) (λ none. never _ (sym (ap (λ o. head_refusal (as_open o)) (ap t.exchange (some_inj y x is) ∙ none)) ∙ goes))
comes t (event.Piece y bytes) x goes is =
    came (t.exchange x) (λ none. never _ (sym (ap (λ o. piece_refusal (as_open o) (length bytes)) (ap t.exchange (some_inj y x is) ∙ none)) ∙ goes))
comes t (event.End y) x goes is =
    came (t.exchange x) (λ none. never _ (sym (ap (λ o. end_refusal (as_open o)) (ap t.exchange (some_inj y x is) ∙ none)) ∙ goes))
comes t (event.Fault y) x goes is =
    came (t.exchange x) (λ none. never _ (sym (ap (λ o. fault_refusal (as_open o)) (ap t.exchange (some_inj y x is) ∙ none)) ∙ goes))
comes t _ x goes is = absurd (let no_one : None ≡ Some x = is in cc)

may_of : (limits : Limits) (t : Tables) (e : Entry) → is_denied e.acts ≡ false → may_stand limits t e ≡ true → may_be limits t e (flaw_in e.acts) ≡ true
unfolding may_stand
may_of limits t e accepted stands = rw accepted at stands

-- whether it is of the event's key, told of its row
other_exchange : (t : Tables) (ev : Event) (x : ℕ) (w : Exchange) → t.exchange x ≡ Some w → concerns_exchange t ev x ≡ false → IsOther t ev w.request.key
other_exchange t ev x w row h = sym (ap (is_of_key (key_of t ev)) (ap (option_map (λ (w : Exchange). w.request.key)) row)) ∙ h

other_representation : (t : Tables) (ev : Event) (r : ℕ) (v : Representation) → t.representation r ≡ Some v → concerns_representation t ev r ≡ false →
    IsOther t ev v.key
other_representation t ev r v row h = sym (ap (is_of_key (key_of t ev)) (ap (option_map (λ (v : Representation). v.key)) row)) ∙ h

other_consumer : (t : Tables) (ev : Event) (c : ℕ) (k : Consumer) → t.consumer c ≡ Some k → concerns_consumer t ev c ≡ false → IsOther t ev k.request.key
other_consumer t ev c k row h = sym (ap (is_of_key (key_of t ev)) (ap (option_map (λ (k : Consumer). k.request.key)) row)) ∙ h

evicted_is : (o p : Option Representation) (v : Representation) → o ≡ Some v → p ≡ Some (record v { is_gone = true }) → IsEvicted o p
evicted_is (Some u) (Some z) v is gone =
    some_inj z (record v { is_gone = true }) gone ∙ ap (λ (y : Representation). record y { is_gone = true }) (sym (some_inj u v is))
evicted_is _ _ v is gone = cc

module _ (limits : Limits) (t : Tables) (e : Entry) (exchanges : ExchangeKeys t) (consumers : ConsumerKeys t) (owed : IsOwed limits t e)
    (accepted : is_denied e.acts ≡ false) where
  far_entry : IsFarEntry t e
  far_entry =
      let acts_is = acts_are limits t e owed accepted in
      let may = may_of limits t e accepted owed.flaw in
      record {
        asks = acts.asks_none limits t e (flaw_in e.acts) exchanges consumers acts_is refl may;
        closes = acts.closes_none limits t e (flaw_in e.acts) exchanges consumers acts_is refl may;
        loses = acts.loses_none limits t e (flaw_in e.acts) exchanges consumers acts_is refl may;
        misreads = acts.misreads_none limits t e (flaw_in e.acts) exchanges consumers acts_is refl may;
        bypassed = acts.bypassed_key limits t e (flaw_in e.acts) exchanges consumers acts_is refl may;
        says = acts.far limits t e (flaw_in e.acts) exchanges consumers acts_is refl may;
        comes = λ x is. comes t e.event x (goes limits t e owed accepted) is;
        evicted = acts.evicted_row limits t e (flaw_in e.acts) exchanges consumers acts_is refl may;
      }

  opened_key : (o : Opening) → opening_in e.acts ≡ Some o → key_of t e.event ≡ Some o.request.key
  opened_key =
      acts.opens_key limits t e (flaw_in e.acts) exchanges consumers (acts_are limits t e owed accepted) refl (may_of limits t e accepted owed.flaw)

  gone_row : (r : ℕ) → concerns_representation t e.event r ≡ false → evicts_in r e.acts ≡ true →
      IsEvicted (t.representation r) (representation_after t e r (t.representation r))
  gone_row r other gone =
      let row = far_entry.evicted r gone in
      evicted_is _ _ row.0 row.1
      (representation_row t e exchanges consumers far_entry r row.0 row.1 (other_representation t e.event r row.0 row.1 other) true gone)

  -- WHAT IS NEW

  new_exchange : (x : ℕ) (w : Exchange) (o : Option Opening) → opening_in e.acts ≡ o → exchange_made t e x o ≡ Some w → key_of t e.event ≡ Some w.request.key
  new_exchange x w None is made = absurd (none_some w made)
  new_exchange x w (Some o) is made = by_test (o.x == x) made
    where
      by_test : (b : Bool) → (if b then Some (exchange_opened t e o) else None) ≡ Some w → key_of t e.event ≡ Some w.request.key
      by_test true h = opened_key o is ∙ ap (λ (u : Exchange). Some u.request.key) (some_inj _ w h)
      by_test false h = absurd (none_some w h)

  exchange_new : (x : ℕ) (w : Exchange) (o : Option Exchange) → o ≡ None → exchange_after t e x o ≡ Some w → key_of t e.event ≡ Some w.request.key
  unfolding exchange_after
  exchange_new x w None is made = new_exchange x w (opening_in e.acts) refl made
  exchange_new x w (Some u) is made = absurd (never u is)

  founded_row : (x r : ℕ) (response : Response) (v : Representation) (b : Bool) (o : Option Exchange) → e.event ≡ event.Head x response →
      t.exchange x ≡ o → (if b then option_map (new_representation r e response) o else None) ≡ Some v → key_of t e.event ≡ Some v.key
  founded_row x r response v true (Some w) at row made =
      ap (key_of t) at ∙ (ap (option_map (λ (w : Exchange). w.request.key)) row ∙
      ap (λ (u : Representation). Some u.key) (some_inj (new_representation r e response w) v made))
  founded_row x r response v _ _ at row made = cc

  founded_key : (r : ℕ) (v : Representation) (ev : Event) → e.event ≡ ev → founded_at t e r ev ≡ Some v → key_of t e.event ≡ Some v.key
  founded_key r v (event.Head x response) at made = founded_row x r response v (is_founding (case_at t e) && x == r) (t.exchange x) at refl made
  founded_key r v _ at made = absurd (none_some v made)

  representation_new : (r : ℕ) (v : Representation) (o : Option Representation) → o ≡ None → representation_after t e r o ≡ Some v →
      key_of t e.event ≡ Some v.key
  unfolding representation_after
  representation_new r v None is made = founded_key r v e.event refl made
  representation_new r v (Some u) is made = absurd (never u is)

  started_key : (c : ℕ) (k : Consumer) (ev : Event) → e.event ≡ ev → consumer_made c e.now ev ≡ Some k → key_of t e.event ≡ Some k.request.key
  started_key c k (event.Start d request) at made = by_test (d == c) made
    where
      by_test : (b : Bool) → (if b then Some (new_consumer e.now request) else None) ≡ Some k → key_of t e.event ≡ Some k.request.key
      by_test true h = ap (key_of t) at ∙ ap (λ (u : Consumer). Some u.request.key) (some_inj (new_consumer e.now request) k h)
      by_test false h = absurd (none_some k h)
  started_key c k _ at made = absurd (none_some k made)

  consumer_new : (c : ℕ) (k : Consumer) (o : Option Consumer) → o ≡ None → consumer_after t e c o ≡ Some k → key_of t e.event ≡ Some k.request.key
  unfolding consumer_after
  consumer_new c k None is made = started_key c k e.event refl made
  consumer_new c k (Some u) is made = absurd (never u is)

pub law_of_one_key : LawOfOneKey
law_of_one_key limits t e exchanges consumers owed accepted =
    let far = far_entry limits t e exchanges consumers owed accepted in
    record {
      exchanges = λ x w row other. exchange_stays t e exchanges consumers far x w row (other_exchange t e.event x w row other);
      representations = λ r v row other stays. representation_row t e exchanges consumers far r v row (other_representation t e.event r v row other) false
          stays;
      evicted = λ r other gone. gone_row limits t e exchanges consumers owed accepted r other gone;
      consumers = λ c k row other stays. consumer_row t e exchanges consumers far c k row (other_consumer t e.event c k row other) false stays;
      losers = λ c k row other over. consumer_row t e exchanges consumers far c k row (other_consumer t e.event c k row other) true over;
      new_exchanges = λ x w none made. exchange_new limits t e exchanges consumers owed accepted x w (t.exchange x) none made;
      new_representations = λ r v none made. representation_new limits t e exchanges consumers owed accepted r v (t.representation r) none made;
      new_consumers = λ c k none made. consumer_new limits t e exchanges consumers owed accepted c k (t.consumer c) none made;
    }
