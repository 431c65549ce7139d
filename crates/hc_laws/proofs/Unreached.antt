-- An open exchange has yet to bring some of what it promised, in every run.
use Rattle.std.{proofs.Common.{◌≡◌, inl, inr, ℕ, List, length, Bool, true, false, Option, Some, None, refl, ap, sym, ◌∙◌}, specs.Prelude.{◌&&◌, ◌++◌, not, nat_eq, if◌then◌else◌}}
use Rattle.hc_text.proofs.Basics.{and_right, not_some as none_some, some_inj}
use Rattle.hc_effects.proofs.Vocabulary.{Opening, opening_in, closes_in, Event, Limits, denial, Entry, exchange_after, exchange_heard, exchange_acted, exchange_made, promise_in, promised_bytes, is_reached, Flaw, entry_of, OfRunsIn, Tables, Exchange, Sound, after_accepted, event}
use Rattle.hc_effects.proofs.{Basics.{false_true}, FirstKeeps.{is_new}, PieceKeeps.{eq_cases}, ExchangeFrom.{not_left}}
use Rattle.hc_laws.proofs.RunFacts.{in_runs}

pub record IsUnreached (limits : Limits) (t : Tables) : Type 0 where
  pub lacks : (x : ℕ) (w : Exchange) → t.exchange x ≡ Some w → w.is_open ≡ true → is_reached (promised_bytes w) (length w.body) ≡ false

module _ (limits : Limits) (t : Tables) (now : ℕ) (flaw : Flaw) (s : Sound t) (ev : Event) (goes : denial t ev ≡ None) (was : IsUnreached limits t) where
  abbrev e : Entry
  e = entry_of limits t now ev flaw

  -- what the event leaves open lacks something
  heard : (x : ℕ) (w : Exchange) → t.exchange x ≡ Some w → (z : Event) → ev ≡ z → (exchange_heard t e x z w).is_open ≡ true →
      is_reached (promised_bytes (exchange_heard t e x z w)) (length (exchange_heard t e x z w).body) ≡ false
  heard x w row (event.Head y response) at on = elim (eq_cases y x) [
    | inl same ↦ rw same.0 (headed (ev_at same.1) (rw same.0 at on))
    | inr apart ↦ rw apart.0 (was.lacks x w row (rw apart.0 at on))
  ]
    where
      ev_at : y ≡ x → ev ≡ event.Head x response
      ev_at one = at ∙ ap (λ n. event.Head n response) one

      headed : ev ≡ event.Head x response → (not (is_reached (promise_in w response) 0) && w.is_open) ≡ true →
          is_reached (promise_in w response) (length w.body) ≡ false
      headed its opened =
          let empty : length w.body ≡ 0 =
          ap (λ (xs : List ℕ). length xs) (s.waits.headless x w row (is_new limits t now flaw s ev goes x response w its row).bare).0 in
          ap (is_reached (promise_in w response)) empty ∙ not_left (is_reached (promise_in w response) 0) w.is_open opened
  heard x w row (event.Piece y bytes) at on = elim (eq_cases y x) [
    | inl same ↦ rw same.0 (not_left (is_reached (promised_bytes w) (length (w.body ++ bytes))) w.is_open (rw same.0 at on))
    | inr apart ↦ rw apart.0 (was.lacks x w row (rw apart.0 at on))
  ]
  heard x w row (event.End y) at on = elim (eq_cases y x) [
    | inl same ↦ absurd (false_true (rw same.0 at on))
    | inr apart ↦ rw apart.0 (was.lacks x w row (rw apart.0 at on))
  ]
  heard x w row (event.Fault y) at on = elim (eq_cases y x) [
    | inl same ↦ absurd (false_true (rw same.0 at on))
    | inr apart ↦ rw apart.0 (was.lacks x w row (rw apart.0 at on))
  ]
  heard x w row _ at on = was.lacks x w row on

  made : (x : ℕ) (o : Option Opening) (w : Exchange) → exchange_made t e x o ≡ Some w → is_reached (promised_bytes w) (length w.body) ≡ false
  made x None w h = absurd (none_some w h)
  made x (Some o) w h = by_number (nat_eq o.x x) h
    where
      by_number : (b : Bool) → (if b then Some (Rattle.hc_model.specs.ExchangeRows.exchange_opened t e o) else None) ≡ Some w →
          is_reached (promised_bytes w) (length w.body) ≡ false
      by_number true is = ap (λ (z : Exchange). is_reached (promised_bytes z) (length z.body))
          (sym (some_inj (Rattle.hc_model.specs.ExchangeRows.exchange_opened t e o) w is))
      by_number false is = absurd (none_some w is)

  by_row : (x : ℕ) (w : Exchange) (o : Option Exchange) → t.exchange x ≡ o → exchange_after t e x o ≡ Some w → w.is_open ≡ true →
      is_reached (promised_bytes w) (length w.body) ≡ false
  unfolding exchange_after
  by_row x w None row is on = made x (opening_in e.acts) w is
  by_row x w (Some z) row is on =
      let same : exchange_acted x e.acts (exchange_heard t e x ev z) ≡ w = some_inj (exchange_acted x e.acts (exchange_heard t e x ev z)) w is in
      let opened : (exchange_acted x e.acts (exchange_heard t e x ev z)).is_open ≡ true = ap (λ (q : Exchange). q.is_open) same ∙ on in
      sym (ap (λ (q : Exchange). is_reached (promised_bytes q) (length q.body)) same) ∙
      heard x z row ev refl (and_right (not (closes_in x e.acts)) (exchange_heard t e x ev z).is_open opened)

  pub lacks_after : IsUnreached limits (after_accepted t e)
  lacks_after = record { lacks = λ x w is on. by_row x w (t.exchange x) refl is on }

pub unreached : OfRunsIn IsUnreached
unreached = in_runs IsUnreached
    (λ limits contents may. record { lacks = λ x w is on. absurd (none_some w is) })
    (λ limits t e later f. record { lacks = f.lacks })
    (λ limits t now flaw later c f ev goes real. lacks_after limits t now flaw c.is_sound ev goes f)
