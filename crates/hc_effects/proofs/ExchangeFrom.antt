-- Where the row of an exchange after an entry is from: it was there, or it is opened.
--
-- `IsSame` has what stays of a row, and what may change: its head comes, a piece comes, it ends or is closed. An event
-- that isn't about it leaves it as it was but for its acts (`plain`), and one that ends it makes it over (`over`). So
-- each event is looked at (`same`). A row that wasn't there is that of an opening (`made`). `exchange_from` joins both;
-- most laws on exchanges begin with it.
use Rattle.std.{proofs.{lemmas.Bool.Decides.{nat_tests}, Common.{arith, ◌≡◌, ◌⊎◌, inl, inr, ℕ, Bool, true, false, Option, Some, None, refl, ap, sym, ◌∙◌, subst}}, specs.Prelude.{◌&&◌, not, is_some}}
use Rattle.hc_text.proofs.Basics.{and_right, not_some as none_some, some_inj}
use Rattle.hc_effects.proofs.Vocabulary.{Opening, opening_in, closes_in, Event, Response, Entry, exchange_after, exchange_heard, exchange_acted, exchange_made, exchange_opened, joined_at, Tables, Exchange, event}
use Rattle.hc_effects.proofs.{Basics.{false_true, some_none}, PieceKeeps.{eq_cases}}

-- its head comes, by which it may join what it is about
pub record IsHeaded (t : Tables) (e : Entry) (x : ℕ) (w u : Exchange) : Type 0 where
  pub response : Response
  pub at : e.event ≡ event.Head x response
  pub head_is : u.head ≡ Some response
  pub joined_is : u.joined ≡ joined_at t e w
  pub body_is : u.body ≡ w.body

-- of an exchange that was there
pub record IsSame (t : Tables) (e : Entry) (x : ℕ) (w u : Exchange) : Type 0 where
  pub c_is : u.c ≡ w.c
  pub need_is : u.need ≡ w.need
  pub request_is : u.request ≡ w.request
  pub aim_is : u.aim ≡ w.aim
  pub bare : u.head ≡ None → w.head ≡ None
  pub heard_or : ((u.head ≡ w.head) × (u.joined ≡ w.joined)) ⊎ IsHeaded t e x w u
  pub unheard : u.head ≡ None → (response : Response) → e.event ≡ event.Head x response → ⊥
  pub was_open : u.is_open ≡ true → w.is_open ≡ true
  pub unclosed : u.is_open ≡ true → closes_in x e.acts ≡ false
  pub unended : u.is_open ≡ true → e.event ≡ event.End x → ⊥
  pub unfaulted : u.is_open ≡ true → e.event ≡ event.Fault x → ⊥

pub data ExchangeFrom (t : Tables) (e : Entry) (x : ℕ) (u : Exchange) : Type 0 where
  was : (w : Exchange) → t.exchange x ≡ Some w → IsSame t e x w u → ExchangeFrom t e x u
  new : (o : Opening) → t.exchange x ≡ None → opening_in e.acts ≡ Some o → o.x ≡ x → exchange_opened t e o ≡ u → ExchangeFrom t e x u

pub not_left : (a b : Bool) → (not a && b) ≡ true → a ≡ false
not_left a b h = grind (arith, nat_tests)

abbrev number_in : Event → ℕ
number_in (event.Head y response) = y
number_in (event.End y) = y
number_in (event.Fault y) = y
number_in _ = 0

-- a row that the event leaves as it was, but for its acts
plain : (t : Tables) (e : Entry) (x : ℕ) (ev : Event) (w : Exchange) → e.event ≡ ev → ((response : Response) → ev ≡ event.Head x response → ⊥) →
    (ev ≡ event.End x → ⊥) → (ev ≡ event.Fault x → ⊥) → IsSame t e x w (exchange_acted x e.acts w)
plain t e x ev w at head end fault = record {
  c_is = refl;
  need_is = refl;
  request_is = refl;
  aim_is = refl;
  bare = λ h. h;
  heard_or = inl (refl, refl);
  unheard = λ h response is. head response (sym at ∙ is);
  was_open = λ h. and_right _ _ h;
  unclosed = λ h. not_left (closes_in x e.acts) w.is_open h;
  unended = λ h is. end (sym at ∙ is);
  unfaulted = λ h is. fault (sym at ∙ is);
}

-- and one that is over
over : (t : Tables) (e : Entry) (x : ℕ) (w z : Exchange) → z.c ≡ w.c → z.need ≡ w.need → z.request ≡ w.request → z.aim ≡ w.aim → z.head ≡ w.head →
    z.joined ≡ w.joined → ((response : Response) → e.event ≡ event.Head x response → ⊥) → z.is_open ≡ false → IsSame t e x w (exchange_acted x e.acts z)
over t e x w z c need request aim head joined unheard off = record {
  c_is = c;
  need_is = need;
  request_is = request;
  aim_is = aim;
  bare = λ h. sym head ∙ h;
  heard_or = inl (head, joined);
  unheard = λ h answer is. unheard answer is;
  was_open = λ h. absurd (false_true (sym off ∙ and_right (not (closes_in x e.acts)) z.is_open h));
  unclosed = λ h. absurd (false_true (sym off ∙ and_right (not (closes_in x e.acts)) z.is_open h));
  unended = λ h is. false_true (sym off ∙ and_right (not (closes_in x e.acts)) z.is_open h);
  unfaulted = λ h is. false_true (sym off ∙ and_right (not (closes_in x e.acts)) z.is_open h);
}

module _ (t : Tables) (e : Entry) (x : ℕ) where
  same : (ev : Event) (w : Exchange) → e.event ≡ ev → IsSame t e x w (exchange_acted x e.acts (exchange_heard t e x ev w))
  same (event.Head y response) w at = elim (eq_cases y x) [
    | inl here ↦ rw here.0 (record {
      c_is = refl;
      need_is = refl;
      request_is = refl;
      aim_is = refl;
      bare = λ h. absurd (some_none response h);
      heard_or = inr (record { response = response; at = at ∙ ap (λ n. event.Head n response) here.1; head_is = refl; joined_is = refl; body_is = refl });
      unheard = λ h answer is. some_none response h;
      was_open = λ h. and_right _ _ (and_right _ _ h);
      unclosed = λ h. not_left (closes_in x e.acts) _ h;
      unended = λ h is. (let never : event.Head y response ≡ event.End x = sym at ∙ is in cc);
      unfaulted = λ h is. (let never : event.Head y response ≡ event.Fault x = sym at ∙ is in cc);
    })
    | inr other ↦ rw other.0 (plain t e x (event.Head y response) w at (λ answer is. other.1 (ap number_in is)) (λ is. cc) (λ is. cc))
  ]
  same (event.Piece y bytes) w at = elim (eq_cases y x) [
    | inl here ↦ rw here.0 (record {
      c_is = refl;
      need_is = refl;
      request_is = refl;
      aim_is = refl;
      bare = λ h. h;
      heard_or = inl (refl, refl);
      unheard = λ h answer is. (let never : event.Piece y bytes ≡ event.Head x answer = sym at ∙ is in cc);
      was_open = λ h. and_right _ _ (and_right _ _ h);
      unclosed = λ h. not_left (closes_in x e.acts) _ h;
      unended = λ h is. (let never : event.Piece y bytes ≡ event.End x = sym at ∙ is in cc);
      unfaulted = λ h is. (let never : event.Piece y bytes ≡ event.Fault x = sym at ∙ is in cc);
    })
    | inr other ↦ rw other.0 (plain t e x (event.Piece y bytes) w at (λ response is. cc) (λ is. cc) (λ is. cc))
  ]
  same (event.End y) w at = elim (eq_cases y x) [
    | inl here ↦ rw here.0 (over t e x w (record w { is_ended = true; is_open = false }) refl refl refl refl refl refl
        (λ response is. let never : event.End y ≡ event.Head x response = sym at ∙ is in cc) refl)
    | inr other ↦ rw other.0 (plain t e x (event.End y) w at (λ response is. cc) (λ is. other.1 (ap number_in is)) (λ is. cc))
  ]
  same (event.Fault y) w at = elim (eq_cases y x) [
    | inl here ↦ rw here.0 (over t e x w (record w { is_open = false }) refl refl refl refl refl refl
        (λ response is. let never : event.Fault y ≡ event.Head x response = sym at ∙ is in cc) refl)
    | inr other ↦ rw other.0 (plain t e x (event.Fault y) w at (λ response is. cc) (λ is. cc) (λ is. other.1 (ap number_in is)))
  ]
  same ev w at = plain t e x ev w at (λ response is. cc) (λ is. cc) (λ is. cc)

  made : (o : Option Opening) (u : Exchange) → t.exchange x ≡ None → opening_in e.acts ≡ o → exchange_made t e x o ≡ Some u → ExchangeFrom t e x u
  made None u none is at = absurd (none_some u at)
  made (Some o) u none is at = elim (eq_cases o.x x) [
    | inr other ↦ absurd (none_some u (rw other.0 at at))
    | inl here ↦ new o none is here.1 (some_inj (exchange_opened t e o) u (rw here.0 at at))
  ]

  pub exchange_from : (o : Option Exchange) (u : Exchange) → t.exchange x ≡ o → exchange_after t e x o ≡ Some u → ExchangeFrom t e x u
  unfolding exchange_after
  exchange_from None u row is = made (opening_in e.acts) u row refl is
  exchange_from (Some w) u row is = was w row (subst (IsSame t e x w) (some_inj _ u is) (same e.event w refl))

  -- what was there stays
  pub stays : (o : Option Exchange) → is_some o ≡ true → is_some (exchange_after t e x o) ≡ true
  unfolding exchange_after
  stays o there = grind (arith, nat_tests)
