-- An exchange of which a part was handed, and whose close was read: it is hung up, or it stands in the lists that it
-- belongs to.
--
-- The lists tell nothing of the rows, so a change of them alone keeps all that is kept while something is done for the
-- exchange. What is open stands among those that are looked at when all is sent. It leaves the list of the news only
-- where no part is wanted, or none may stand next: there nothing is due, since of a connection that has ended a part
-- stands next.
use Rattle.std.{proofs.Common.{◌≡◌, ◌⊎◌, inl, inr, ℕ, Bool, true, false, Option, Some, None, refl, sym, ◌∙◌, subst}, specs.Prelude.{◌&&◌, nat_eq, not, IsSome, Contains}}
use Rattle.hc_text.proofs.Basics.{eq_itself as same_number, true_false}
use Rattle.hc_effects.proofs.Vocabulary.{is_open, is_wanted}
use Rattle.hc_peers.specs.{Clients.{client_of}, Upstreams.{upstream_of, is_news, is_touched, has_news_at, Stays, Marks}, declared.upstreams.Upstreams.{Upstreams}}
use Rattle.hc_peers.specs.declared.upstream.Upstream as origin
use Rattle.hc_store.specs.declared.backend.Backend.{Ghosts}
use Rattle.hc_wire.specs.Events.{Stage}
use Rattle.hc_proxy.specs.declared.proxy.Proxy as loop
use Rattle.hc_proxy.specs.{Carrying.{acts_in}, Connections.{taken_at}, Hearing.{IsHeardAt}, Invariants.{is_part, is_due_by}, Keeping.{Turn, HasUpstreamsBut, IsUpstreamAt, AtWire, KeepsBut, KeepsQuiet}, Network.{next_of}, Rows.{Upstream, Proxy}}
use Rattle.hc_proxy.proofs.{Alike.{cache_moves, clients_move}, DoneFor.{done_all}, HandedOn.{wants_not}}

module _ {B : Type 0} {g : Ghosts B} where
  -- OTHER LISTS

  wire_lists : (stages : ℕ → Stage) (x : loop.Proxy B g) (s : Upstreams) → Stays x.upstreams s → AtWire stages x → AtWire stages (record x { upstreams = s })
  wire_lists stages x s stays w = record {
    clients = w.clients;
    upstreams = λ y u is. w.upstreams y u (sym (stays y) ∙ is);
    all = λ k opens. elim (w.all k opens) as
        (λ _. IsSome (client_of x.clients k) ⊎ ((y : ℕ) × (v : origin.Upstream) × (upstream_of s y ≡ Some v) × (v.k ≡ k)) ⊎ Contains x.closed.items k) [
          | inl here ↦ inl here
          | inr other ↦ elim other as
              (λ _. IsSome (client_of x.clients k) ⊎ ((y : ℕ) × (v : origin.Upstream) × (upstream_of s y ≡ Some v) × (v.k ≡ k)) ⊎ Contains x.closed.items k) [
                | inl up ↦ inr (inl (up.0, up.1, stays up.0 ∙ up.2, up.3))
                | inr there ↦ inr (inr there)
              ]
        ];
    closed = λ k there. let was = w.closed k there in (was.0, λ y u is. was.1 y u (sym (stays y) ∙ is));
  }

  module _ (z : ℕ) (t : Turn) (x : loop.Proxy B g) (p : Proxy) (h : KeepsBut z t x p) (s : Upstreams) (stays : Stays x.upstreams s)
      (news : (y : ℕ) → nat_eq y z ≡ false → is_news s y ≡ is_news x.upstreams y)
      (touched : (y : ℕ) → nat_eq y z ≡ false → is_touched s y ≡ is_touched x.upstreams y) where
    ups : HasUpstreamsBut z t (record x { upstreams = s }) p (acts_in p.part)
    ups = record {
      rows = λ y on le. subst (λ o. IsUpstreamAt (taken_at t.call) o (p.upstream y)) (sym (stays y)) (h.upstreams.rows y on le);
      numbers = λ y u is. h.upstreams.numbers y u (sym (stays y) ∙ is);
      over = λ y off some. h.upstreams.over y off (subst IsSome (stays y) some);
      news = λ y off on none asks. h.upstreams.news y off on (sym (news y off) ∙ none) asks;
      touched = λ y u off is on none asks. h.upstreams.touched y u off (sym (stays y) ∙ is) on (sym (touched y off) ∙ none) asks;
      opens = h.upstreams.opens;
      names = h.upstreams.names;
      strangers = h.upstreams.strangers;
    }

    pub lists_but : KeepsBut z t (record x { upstreams = s }) p
    lists_but = record {
      cache = cache_moves t.frame x (record x { upstreams = s }) p refl refl refl refl refl h.cache;
      acts = h.acts;
      clients = clients_move t x (record x { upstreams = s }) p refl h.clients;
      consumers = h.consumers;
      upstreams = ups;
      wire = wire_lists t.stages x s stays h.wire;
      numbers = h.numbers;
      opened = h.opened;
      seen = h.seen;
      shut = h.shut;
      known = h.known;
      moved = h.moved;
      quiet = h.quiet;
    }

  -- WHERE IT IS OPEN

  module _ (z : ℕ) (t : Turn) (x : loop.Proxy B g) (p : Proxy) (h : KeepsBut z t x p) (heard : IsHeardAt z p) (listed : is_news x.upstreams z ≡ true)
      (on : is_open (p.tables.exchange z) ≡ true) (s : Upstreams) (stays : Stays x.upstreams s) (news : (y : ℕ) → is_news s y ≡ is_news x.upstreams y)
      (touched : Marks (is_touched x.upstreams) (is_touched s) z true) where
    touched_off : (y : ℕ) → nat_eq y z ≡ false → is_touched s y ≡ is_touched x.upstreams y
    touched_off y off = touched y ∙ rw off refl

    touched_here : is_touched s z ≡ true
    touched_here = touched z ∙ rw (same_number z) refl

    pub touched_but : KeepsBut z t (record x { upstreams = s }) p
    touched_but = lists_but z t x p h s stays (λ y off. news y) touched_off

    -- it stays among the news
    pub wanted_settled : KeepsQuiet t (record x { upstreams = s }) p
    wanted_settled = done_all z t (record x { upstreams = s }) p touched_but (record {
      over = λ some. on;
      news = λ off. true_false (sym (news z ∙ listed) ∙ off);
      touched = λ v is off. true_false (sym touched_here ∙ off);
    })

    -- it leaves them
    module _ (off : (is_wanted (p.tables.exchange z) && has_news_at (upstream_of s z)) ≡ false) (s' : Upstreams) (still : Stays s s')
        (forgets : Marks (is_news s) (is_news s') z false) (same : (y : ℕ) → is_touched s' y ≡ is_touched s y) where
      none_due : (o : Option Upstream) → p.upstream z ≡ o → is_due_by (is_wanted (p.tables.exchange z)) o ≡ false
      none_due None is = refl
      none_due (Some v) is = rw (wants_not z t (record x { upstreams = s }) p touched_but v is off (is_wanted (p.tables.exchange z)) refl) (by_end v.ended refl)
        where
          by_end : (b : Bool) → v.ended ≡ b → (b && not (is_part (next_of v))) ≡ false
          by_end false is_on = refl
          by_end true ended = rw (heard v on is ended) refl

      pub unwanted_settled : KeepsQuiet t (record x { upstreams = s' }) p
      unwanted_settled = done_all z t (record x { upstreams = s' }) p
          (lists_but z t (record x { upstreams = s }) p touched_but s' still (λ y apart. forgets y ∙ rw apart refl) (λ y apart. same y))
          (record {
            over = λ some. on;
            news = λ gone. none_due (p.upstream z) refl;
            touched = λ v is gone. true_false (sym (same z ∙ touched_here) ∙ gone);
          })
