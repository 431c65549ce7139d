-- What stays of a row: of an exchange whose it is and what it asks for, of a consumer its request.
use Rattle.std.{proofs.{lemmas.Bool.Decides.{nat_tests}, Common.{arith, ◌≡◌, ℕ, Bool, true, false, Option, Some, None, refl, ap, sym, ◌∙◌}}, specs.Prelude.{is_some}}
use Rattle.hc_text.proofs.Basics.{same_some as same_row, some_inj}
use Rattle.hc_effects.proofs.Vocabulary.{Opening, opening_in, closes_in, Event, exchange_in, consumer_after, consumer_settled, consumer_acted, consumer_heard, Entry, exchange_after, exchange_heard, exchange_acted, exchange_opened, Tables, Exchange, Consumer, starts_over}
use Rattle.hc_effects.proofs.{ConsumerFilters.{acted}, ExchangeFrom.{IsSame, ExchangeFrom, exchange_from, stays}}
use Rattle.hc_effects.proofs.ExchangeFrom as exchange

module _ (t : Tables) (e : Entry) where
  -- an exchange goes on
  pub record IsOn (x : ℕ) (w : Exchange) : Type 0 where
    pub u : Exchange
    pub row : exchange_after t e x (t.exchange x) ≡ Some u
    pub same : IsSame t e x w u

  on_by : (x : ℕ) (w : Exchange) (o : Option Exchange) → t.exchange x ≡ Some w → exchange_after t e x (t.exchange x) ≡ o → is_some o ≡ true → IsOn x w
  on_by x w None row is there = absurd (let never : false ≡ true = there in cc)
  on_by x w (Some u) row is there = by_from (exchange_from t e x (t.exchange x) u refl is)
    where
      by_from : ExchangeFrom t e x u → IsOn x w
      by_from (exchange.was z at same) = record { u = u; row = is; same = rw (same_row (t.exchange x) w z row at) same }
      by_from (exchange.new o none opens here made) = absurd (let never : None ≡ Some w = sym none ∙ row in cc)

  pub is_on : (x : ℕ) (w : Exchange) → t.exchange x ≡ Some w → IsOn x w
  is_on x w row = on_by x w (exchange_after t e x (t.exchange x)) row refl (stays t e x (t.exchange x) (ap is_some row))

  -- an exchange that is opened is there
  pub opened_on : (x : ℕ) (o : Opening) (z : Option Exchange) → z ≡ None → opening_in e.acts ≡ Some o → o.x ≡ x →
      exchange_after t e x z ≡ Some (exchange_opened t e o)
  unfolding exchange_after
  opened_on x o z none is here = grind (arith, nat_tests)

  -- a consumer keeps its request
  pub record IsKept (c : ℕ) (k : Consumer) : Type 0 where
    pub u : Consumer
    pub row : consumer_after t e c (t.consumer c) ≡ Some u
    pub request_is : u.request ≡ k.request
    pub is : consumer_settled t e c k (consumer_acted t e c (consumer_heard t e c e.event k)) ≡ u

  settled_request : (c : ℕ) (k q : Consumer) (b : Bool) → starts_over t e c k ≡ b → (consumer_settled t e c k q).request ≡ q.request
  settled_request c k q true over = rw over refl
  settled_request c k q false over = rw over refl

  kept_by : (c : ℕ) (k : Consumer) (o : Option Consumer) → o ≡ Some k →
      consumer_after t e c o ≡ Some (consumer_settled t e c k (consumer_acted t e c (consumer_heard t e c e.event k)))
  unfolding consumer_after
  kept_by c k None is = absurd (let never : None ≡ Some k = is in cc)
  kept_by c k (Some u) is = ap (λ (z : Consumer). Some (consumer_settled t e c z (consumer_acted t e c (consumer_heard t e c e.event z)))) (some_inj u k is)

  pub is_kept : (c : ℕ) (k : Consumer) → t.consumer c ≡ Some k → IsKept c k
  is_kept c k row =
      let q = consumer_acted t e c (consumer_heard t e c e.event k) in
      record {
        u = consumer_settled t e c k q;
        row = kept_by c k (t.consumer c) row;
        request_is = settled_request c k q (starts_over t e c k) refl ∙ (acted t e c k).request_is;
        is = refl;
      }

  -- AN OPEN EXCHANGE

  pub heard_other : (x : ℕ) (ev : Event) (w : Exchange) → (exchange_in ev ≡ Some x → ⊥) → exchange_heard t e x ev w ≡ w
  heard_other x ev w other = grind (arith, nat_tests)

  pub after_is : (x : ℕ) (w : Exchange) (z : Option Exchange) → z ≡ Some w →
      exchange_after t e x z ≡ Some (exchange_acted x e.acts (exchange_heard t e x e.event w))
  unfolding exchange_after
  after_is x w None is = absurd (let never : None ≡ Some w = is in cc)
  after_is x w (Some u) is = ap (λ (q : Exchange). Some (exchange_acted x e.acts (exchange_heard t e x e.event q))) (some_inj u w is)

  -- what isn't of the event, and isn't closed, stays as it was, but that it may be asked
  pub record IsUntouched (x : ℕ) (w : Exchange) : Type 0 where
    pub u : Exchange
    pub row : exchange_after t e x (t.exchange x) ≡ Some u
    pub open_is : u.is_open ≡ w.is_open
    pub head_is : u.head ≡ w.head
    pub joined_is : u.joined ≡ w.joined

  pub is_untouched : (x : ℕ) (w : Exchange) → t.exchange x ≡ Some w → (exchange_in e.event ≡ Some x → ⊥) → closes_in x e.acts ≡ false → IsUntouched x w
  is_untouched x w row other unclosed =
      let same : exchange_heard t e x e.event w ≡ w = heard_other x e.event w other in
      record {
        u = exchange_acted x e.acts w;
        row = after_is x w (t.exchange x) row ∙ ap (λ (q : Exchange). Some (exchange_acted x e.acts q)) same;
        open_is = rw unclosed refl;
        head_is = refl;
        joined_is = refl;
      }
