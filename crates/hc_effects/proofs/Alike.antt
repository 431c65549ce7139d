-- Two entries of one event whose acts say the same but for what makes room do the same but for that.
--
-- `AreAlike` lists what acts say, but for evictions; acts with and without these are alike (`alike_evicted`). Each part
-- of what an entry does looks at just that: what goes by itself (`itself_same`), exchanges (`exchange_same`),
-- representations (`heard_same`), consumers (`acted_same`, `due_same`), and what is written (`written_same`). All go by
-- the event and by the cases of a head. That evictions come last is built on these.
use Rattle.std.{proofs.{lemmas.Bool.Decides.{nat_tests}, Common.{arith, ◌≡◌, ℕ, List, [], ◌∷◌, ◌++◌, Bool, Option, Some, None, refl, ap, ◌∙◌}}, specs.Prelude.{map, ◌==◌, ◌||◌, ◌&&◌, not, if◌then◌else◌}}
use Rattle.hc_effects.proofs.Vocabulary.{brings_whole, Opening, opening_in, asks_in, closes_in, shows_in, given_in, leaves_in, Act, Event, Response, HeadCase, Place, loses_in, has_loss, misreads_in, fails_in, wait_in, showing_in, case_at, case_of, consumer_heard, by_head, consumer_acted, is_current, doomed_key_of, doomed_in, bypass_key, bypassed_by, is_key, Entry, exchange_after, exchange_heard, exchange_acted, exchange_made, exchange_at, family, becomes_due, cause_of_loss, cause_of_head, goes_by_case, goes_by_exchange, ends_founding, is_keepable, goes_itself, representation_heard, founded_at, Tables, Exchange, Representation, Consumer, founds, binds, written_in, head_writes, first_found, sealed_representation, seals_at, sealed_by, is_sealed, stops, act, case}
use Rattle.hc_event.specs.declared.event.Event.TheVariants as event

-- the acts say the same but for what makes room
pub record AreAlike (a b : List Act) : Type 0 where
  pub loses : (r : ℕ) → loses_in r a ≡ loses_in r b
  pub loss : has_loss a ≡ has_loss b
  pub misreads : (r : ℕ) → misreads_in r a ≡ misreads_in r b
  pub fails : (c : ℕ) → fails_in c a ≡ fails_in c b
  pub waits : (c : ℕ) → wait_in c a ≡ wait_in c b
  pub showing : showing_in a ≡ showing_in b
  pub opens : opening_in a ≡ opening_in b
  pub asks : (x : ℕ) → asks_in x a ≡ asks_in x b
  pub closes : (x : ℕ) → closes_in x a ≡ closes_in x b
  pub shows : (c : ℕ) → shows_in c a ≡ shows_in c b
  pub gives : (c : ℕ) → given_in c a ≡ given_in c b
  pub leaves : (c : ℕ) → leaves_in c a ≡ leaves_in c b

pub alike_evicted : (rs : List ℕ) (b : List Act) → AreAlike (map act.Evicted rs ++ b) b
alike_evicted [] b = record {
  loses = λ r. refl;
  loss = refl;
  misreads = λ r. refl;
  fails = λ c. refl;
  waits = λ c. refl;
  showing = refl;
  opens = refl;
  asks = λ x. refl;
  closes = λ x. refl;
  shows = λ c. refl;
  gives = λ c. refl;
  leaves = λ c. refl;
}
alike_evicted (r ∷ rs) b =
    let k = alike_evicted rs b in
    record {
      loses = k.loses;
      loss = k.loss;
      misreads = k.misreads;
      fails = k.fails;
      waits = k.waits;
      showing = k.showing;
      opens = k.opens;
      asks = k.asks;
      closes = k.closes;
      shows = k.shows;
      gives = k.gives;
      leaves = k.leaves;
    }

any_of_five : (a b c d f p q x y z : Bool) → a ≡ p → b ≡ q → c ≡ x → d ≡ y → f ≡ z → (a || b || c || d || f) ≡ (p || q || x || y || z)
any_of_five a b c d f p q x y z at bt ct dt ft = rw (at, bt, ct, dt, ft) refl

module _ (t : Tables) (now : ℕ) (ev : Event) (a b : List Act) (k : AreAlike a b) where
  abbrev e : Entry
  e = record { now = now; event = ev; acts = a }

  abbrev f : Entry
  f = record { now = now; event = ev; acts = b }

  pub case_same : case_at t e ≡ case_at t f
  case_same = ap (λ l. case_of t l ev) k.loss

  -- WHAT GOES

  doomed_by : (z : Event) → doomed_in t e z ≡ doomed_in t f z
  doomed_by z = grind (arith, nat_tests)

  pub doomed_same : doomed_key_of t e ≡ doomed_key_of t f
  unfolding doomed_key_of
  doomed_same = doomed_by ev

  bypassed_same : bypass_key e ≡ bypass_key f
  bypassed_same = ap bypassed_by k.opens

  by_case_same : (r : ℕ) (g : Option HeadCase) (w : Exchange) → goes_by_case t e r g w ≡ goes_by_case t f r g w
  by_case_same r (Some case.FirstPassesBy) w = rw k.loss refl
  by_case_same r _ w = refl

  by_exchange_same : (r : ℕ) (z : Option Exchange) → goes_by_exchange t e r z ≡ goes_by_exchange t f r z
  by_exchange_same r None = refl
  by_exchange_same r (Some w) = ap (λ g. goes_by_case t e r g w) case_same ∙ by_case_same r (case_at t f) w

  ends_same : (r : ℕ) (z : Option Exchange) → ends_founding e r z ≡ ends_founding f r z
  ends_same r None = refl
  ends_same r (Some w) = rw (k.closes r) refl

  pub itself_same : (r : ℕ) (v : Representation) → goes_itself t e r v ≡ goes_itself t f r v
  itself_same r v =
      any_of_five _ _ _ _ _ _ _ _ _ _
      (ap (λ z. is_current t v.key r && (is_key z v.key || is_key (bypass_key e) v.key)) doomed_same ∙
      ap (λ z. is_current t v.key r && (is_key (doomed_key_of t f) v.key || is_key z v.key)) bypassed_same)
      (by_exchange_same r (exchange_at t ev)) (k.loses r) (k.misreads r)
      (ap (λ z. (brings_whole v.head.status && z) && not (is_keepable v)) (ends_same r (t.exchange r)))

  -- EXCHANGES

  made_same : (x : ℕ) (z : Option Opening) → exchange_made t e x z ≡ exchange_made t f x z
  made_same x z = grind (arith, nat_tests)

  heard_exchange : (x : ℕ) (w : Exchange) (z : Event) → exchange_heard t e x z w ≡ exchange_heard t f x z w
  heard_exchange x w (event.Head y response) = rw k.loss refl
  heard_exchange x w _ = refl

  pub exchange_same : (x : ℕ) (z : Option Exchange) → exchange_after t e x z ≡ exchange_after t f x z
  unfolding exchange_after
  exchange_same x None = ap (exchange_made t e x) k.opens ∙ made_same x (opening_in b)
  exchange_same x (Some w) = ap Some (ap (exchange_acted x a) (heard_exchange x w ev) ∙ rw (k.asks x, k.closes x) refl)

  pub founds_same : founds t e ≡ founds t f
  founds_same = rw k.loss refl

  pub binds_same : binds t e ≡ binds t f
  binds_same = rw (k.loss, k.opens, k.showing) refl

  -- REPRESENTATIONS

  pub founded_same : (r : ℕ) (z : Event) → founded_at t e r z ≡ founded_at t f r z
  founded_same r (event.Head x response) = rw k.loss refl
  founded_same r _ = refl

  pub heard_same : (r : ℕ) (v : Representation) (z : Event) → representation_heard t e r z v ≡ representation_heard t f r z v
  heard_same r v z = grind (arith, nat_tests)

  -- CONSUMERS

  with_head_same : (x : ℕ) (response : Response) (w : Exchange) (q : Consumer) →
      Rattle.hc_model.specs.ConsumerRows.with_head t e x response w q ≡ Rattle.hc_model.specs.ConsumerRows.with_head t f x response w q
  with_head_same x response w q = grind (arith, nat_tests)

  by_head_same : (c x : ℕ) (response : Response) (q : Consumer) (z : Option Exchange) → by_head t e c x response z q ≡ by_head t f c x response z q
  by_head_same c x response q None = refl
  by_head_same c x response q (Some w) = ap (λ u. if w.c == c then u else q) (with_head_same x response w q)

  pub heard_consumer : (c : ℕ) (q : Consumer) (z : Event) → consumer_heard t e c z q ≡ consumer_heard t f c z q
  heard_consumer c q (event.Head x response) = by_head_same c x response q (t.exchange x)
  heard_consumer c q _ = refl

  pub acted_same : (c : ℕ) (h : Consumer) → consumer_acted t e c h ≡ consumer_acted t f c h
  acted_same c h = grind (arith, nat_tests)

  loss_same : (c : ℕ) (p : Place) → cause_of_loss t e c p ≡ cause_of_loss t f c p
  loss_same c p = grind (arith, nat_tests)

  head_same : (c : ℕ) (z : Event) → cause_of_head t e c z ≡ cause_of_head t f c z
  head_same c (event.Head x response) = rw k.loss refl
  head_same c _ = refl

  pub due_same : (c : ℕ) (q : Consumer) → becomes_due t e c q ≡ becomes_due t f c q
  unfolding becomes_due
  due_same c q = rw (loss_same c q.place, head_same c ev) refl

  -- WHAT IS WRITTEN

  head_writes_same : (x : ℕ) (response : Response) (z : Option Exchange) → head_writes t e x response z ≡ head_writes t f x response z
  head_writes_same x response None = refl
  head_writes_same x response (Some w) = rw k.loss refl

  sealing_same : (r : ℕ) (z : Option Representation) → is_sealed t e r z ≡ is_sealed t f r z
  sealing_same r None = refl
  sealing_same r (Some v) = ap (λ q. not v.is_gone && not ((brings_whole v.head.status && q) && not (is_keepable v))) (ends_same r (t.exchange r))

  sealed_by_same : (x : ℕ) (z : Option Exchange) → sealed_by t e x z ≡ sealed_by t f x z
  sealed_by_same x None = refl
  sealed_by_same x (Some w) = ap (λ q. if q then Some (family x w) else None) (sealing_same (family x w) (t.representation (family x w)))

  seals_same : (x : ℕ) → seals_at t e x ≡ seals_at t f x
  seals_same x =
      ap (λ q. if stops x ev || q then sealed_by t e x (t.exchange x) else None) (k.closes x)
      ∙ ap (λ q. if stops x ev || closes_in x b then q else None) (sealed_by_same x (t.exchange x))

  sealed_same : sealed_representation t e ≡ sealed_representation t f
  sealed_same = by_list t.openings
    where
      by_list : (xs : List ℕ) → first_found (seals_at t e) xs ≡ first_found (seals_at t f) xs
      by_list [] = refl
      by_list (x ∷ xs) = rw (seals_same x, by_list xs) refl

  pub written_same : (z : Event) → written_in t e z ≡ written_in t f z
  written_same (event.Head x response) = head_writes_same x response (t.exchange x)
  written_same (event.Piece x bytes) = refl
  written_same _ = sealed_same
