-- A connection that is hung up in a turn, of an exchange that isn't open any more: what the loop keeps behind it.
use Rattle.std.{proofs.Common.{◌≡◌, ◌⊎◌, ◌≤◌, ℕ, ◌+◌, true, false, refl, ap, sym, ◌∙◌, subst}, specs.Prelude.{nat_eq, IsSome}}
use Rattle.hc_core.specs.Steps.{steps}
use Rattle.hc_effects.proofs.Vocabulary.{act_list, closes_in, is_open}
use Rattle.hc_peers.specs.Upstreams.{upstream_of}
use Rattle.hc_store.specs.declared.backend.Backend.{Ghosts}
use Rattle.hc_proxy.specs.declared.proxy.Proxy as loop
use Rattle.hc_proxy.specs.{Carrying.{acts_in}, Keeping.{Turn, HasUpstreams, HasUpstreamsBut, KeepsBut, KeepsQuiet, HangsUp}, Rows.{Proxy}}
use Rattle.hc_proxy.proofs.{Alike.{cache_moves, clients_move}, HangsOff.{off_row, was_there, open_apart, rows_left, some_there, wire_left, known_left}}

module _ {B : Type 0} {g : Ghosts B} (t : Turn) (z : ℕ) (x x' : loop.Proxy B g) (p : Proxy) (h : KeepsBut z t x p)
    (shut : is_open (p.tables.exchange z) ≡ false) (u : HangsUp z x x') where
  abbrev ups : HasUpstreamsBut z t x p (acts_in p.part)
  ups = h.upstreams

  apart : (y : ℕ) → is_open (p.tables.exchange y) ≡ true → nat_eq y z ≡ false
  apart = open_apart t z x x' p shut u

  over : (y : ℕ) → IsSome (upstream_of x'.upstreams y) → (is_open (p.tables.exchange y) ≡ true) ⊎ (closes_in y (acts_in p.part) ≡ true)
  over y some =
      let off = some_there t z x x' p shut u y (upstream_of x'.upstreams y) refl some in
      ups.over y off (subst IsSome (off_row t z x x' p shut u y off) some)

  hung_upstreams : HasUpstreams t x' p (acts_in p.part)
  hung_upstreams = record {
    rows = rows_left t z x x' p shut u ups.rows;
    numbers = λ y v is. ups.numbers y v (was_there t z x x' p shut u y v is).1;
    over = over;
    news = λ y on none asks. ups.news y (apart y on) on (sym (u.news y ∙ rw (apart y on) refl) ∙ none) asks;
    touched = λ y v is on none asks. ups.touched y v (apart y on) (was_there t z x x' p shut u y v is).1 on
        (sym (u.touched y ∙ rw (apart y on) refl) ∙ none) asks;
    opens = ups.opens;
    names = ups.names;
    strangers = ups.strangers;
  }

  pub hung_up : KeepsQuiet t x' p
  hung_up = record {
    keeps = record {
      cache = cache_moves t.frame x x' p u.cache u.text u.now u.starts u.front h.cache;
      acts = ap act_list u.acts ∙ h.acts;
      clients = clients_move t x x' p u.clients h.clients;
      consumers = h.consumers;
      upstreams = hung_upstreams;
      wire = wire_left t z x x' p shut u h.clients ups.numbers ups.names ups.strangers h.wire;
      numbers = subst (λ c. p.starts ≤ p.setting.contents.last_consumer + steps c) (sym u.cache) h.numbers;
      opened = subst (λ c. p.tables.opened ≤ p.setting.contents.next_exchange + steps c) (sym u.cache) h.opened;
      seen = h.seen;
      shut = h.shut;
      known = known_left t z x x' p shut u h.clients ups.numbers ups.names ups.strangers h.wire h.known;
    };
    moved = u.moved ∙ h.moved;
    quiet = h.quiet;
  }
