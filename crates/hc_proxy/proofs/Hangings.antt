-- An act closes an exchange: its connection is hung up.
--
-- The exchange is over behind the turn. No act behind this one closes it again, and it holds for the others what held
-- before.
use Rattle.std.{proofs.{Common.{◌≡◌, ◌⊎◌, inl, inr, ◌≤◌, ℕ, ◌+◌, List, ◌∷◌, Bool, true, false, Some, None, refl, sym, ◌∙◌, subst, arith}, lemmas.Bool.Decides.{nat_tests}}, specs.Prelude.{nat_eq, ◌||◌, IsSome}}
use Rattle.hc_text.proofs.Basics.{eq_itself as same_number}
use Rattle.hc_core.specs.Steps.{steps}
use Rattle.hc_effects.proofs.Vocabulary.{closes_in, Act, is_open, act}
use Rattle.hc_peers.specs.Upstreams.{upstream_of}
use Rattle.hc_store.specs.declared.backend.Backend.{Ghosts}
use Rattle.hc_proxy.specs.declared.proxy.Proxy as loop
use Rattle.hc_proxy.specs.{Invariants.{AreShut}, Keeping.{Turn, HasUpstreams, HangsUp}, Rows.{Proxy}, Underway.{HasHolders, KeepsUnderway}}
use Rattle.hc_proxy.proofs.{Alike.{cache_moves, clients_move}, CarriedOut.{act_keeps}, HangsOff.{off_row, was_there, open_apart, rows_left, some_there, wire_left, known_left}}

module _ {B : Type 0} {g : Ghosts B} (t : Turn) (z : ℕ) (acts : List Act) (x x' : loop.Proxy B g) (p : Proxy)
    (h : KeepsUnderway t (act.Close z ∷ acts) x p) (u : HangsUp z x x') where
  abbrev ups : HasUpstreams t x p (act.Close z ∷ acts)
  ups = h.upstreams

  shut : is_open (p.tables.exchange z) ≡ false
  shut = h.shut z (rw (same_number z) refl)

  closes_off : (y : ℕ) → nat_eq y z ≡ false → closes_in y (act.Close z ∷ acts) ≡ closes_in y acts
  closes_off y off = let other : nat_eq z y ≡ false = grind (arith, nat_tests) in rw other refl

  apart : (y : ℕ) → is_open (p.tables.exchange y) ≡ true → nat_eq y z ≡ false
  apart = open_apart t z x x' p shut u

  over : (y : ℕ) → IsSome (upstream_of x'.upstreams y) → (is_open (p.tables.exchange y) ≡ true) ⊎ (closes_in y acts ≡ true)
  over y some =
      let off = some_there t z x x' p shut u y (upstream_of x'.upstreams y) refl some in
      elim (ups.over y (subst IsSome (off_row t z x x' p shut u y off) some)) as (λ _. (is_open (p.tables.exchange y) ≡ true) ⊎ (closes_in y acts ≡ true)) [
        | inl on ↦ inl on
        | inr closes ↦ inr (sym (closes_off y off) ∙ closes)
      ]

  hung_upstreams : HasUpstreams t x' p acts
  hung_upstreams = record {
    rows = rows_left t z x x' p shut u ups.rows;
    numbers = λ y v is. ups.numbers y v (was_there t z x x' p shut u y v is).1;
    over = over;
    news = λ y on none asks. ups.news y on (sym (u.news y ∙ rw (apart y on) refl) ∙ none) asks;
    touched = λ y v is on none asks. ups.touched y v (was_there t z x x' p shut u y v is).1 on (sym (u.touched y ∙ rw (apart y on) refl) ∙ none) asks;
    opens = ups.opens;
    names = ups.names;
    strangers = ups.strangers;
  }

  holders : HasHolders acts p
  holders =
      let g = act_keeps (act.Close z) acts p (λ d to. absurd (let never : None ≡ Some d = to in cc)) h.over
      (record { held = h.holders.held; started = h.holders.started; live = h.holders.live; alive = h.holders.alive; idle = h.holders.idle }) in
      record { held = g.held; started = g.started; live = g.live; alive = g.alive; idle = g.idle }

  shut_later : AreShut acts p.tables
  shut_later y closes = h.shut y (later (nat_eq z y))
    where
      later : (b : Bool) → (b || closes_in y acts) ≡ true
      later true = refl
      later false = closes

  pub close_goes : KeepsUnderway t acts x' p
  close_goes = record {
    cache = cache_moves t.frame x x' p u.cache u.text u.now u.starts u.front h.cache;
    moved = u.moved ∙ h.moved;
    clients = clients_move t x x' p u.clients h.clients;
    holders = holders;
    over = h.over;
    served = h.served.1;
    plain = h.plain;
    shut = shut_later;
    undialled = h.undialled;
    upstreams = hung_upstreams;
    heard = h.heard;
    wire = wire_left t z x x' p shut u h.clients ups.numbers ups.names ups.strangers h.wire;
    known = known_left t z x x' p shut u h.clients ups.numbers ups.names ups.strangers h.wire h.known;
    numbers = subst (λ c. p.starts ≤ p.setting.contents.last_consumer + steps c) (sym u.cache) h.numbers;
    opened = subst (λ c. p.tables.opened ≤ p.setting.contents.next_exchange + steps c) (sym u.cache) h.opened;
    seen = h.seen;
  }
