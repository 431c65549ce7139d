-- An act asks for more of an exchange: it is looked at again, and all else stays.
use Rattle.std.{proofs.{Common.{◌≡◌, ◌⊎◌, inl, inr, ℕ, ◌≤◌, ◌<◌, List, ◌∷◌, Bool, true, false, Option, Some, None, refl, ap, sym, ◌∙◌, subst, arith, length}, lemmas.Bool.Decides.{nat_tests}}, specs.{Prelude.{nat_eq, nat_lt, IsSome}, Option.{is_some}}}
use Rattle.hc_effects.proofs.Vocabulary.{asks_in, Act, is_open, is_wanted, act}
use Rattle.hc_store.specs.declared.backend.Backend.{Ghosts}
use Rattle.hc_peers.specs.{Upstreams.{upstream_of, is_news, is_touched, Stays, Marks}, declared.upstreams.Upstreams.{Upstreams}}
use Rattle.hc_peers.specs.declared.upstream.Upstream as origin
use Rattle.hc_proxy.specs.declared.proxy.Proxy as loop
use Rattle.hc_proxy.specs.{Connections.{taken_at}, Invariants.{is_due, is_due_by}, Keeping.{Turn, HasUpstreams, IsUpstreamAt, AtWire}, Rows.{Upstream, Proxy}}

undue : (wanted : Bool) (o : Option Upstream) → o ≡ None → is_due_by wanted o ≡ false
undue wanted o none = ap (is_due_by wanted) none

module _ {B : Type 0} {g : Ghosts B} (t : Turn) (x : loop.Proxy B g) (up : Upstreams) (p : Proxy) (z : ℕ) (acts : List Act)
    (stays : Stays x.upstreams up) (news : Marks (is_news x.upstreams) (is_news up) z (is_some (upstream_of x.upstreams z)))
    (touched : Marks (is_touched x.upstreams) (is_touched up) z true)
    (undialled : (y : ℕ) → length t.dialled < y → p.upstream y ≡ None) (h : HasUpstreams t x p (act.Ask z ∷ acts)) where
  abbrev x' : loop.Proxy B g
  x' = record x { upstreams = up }

  -- of another exchange the act says nothing
  asks_other : (y : ℕ) → nat_eq y z ≡ false → asks_in y acts ≡ false → asks_in y (act.Ask z ∷ acts) ≡ false
  asks_other y off unasked = let other : nat_eq z y ≡ false = grind (arith, nat_tests) in rw other unasked

  -- one that isn't there is not due
  absent : (y : ℕ) → is_open (p.tables.exchange y) ≡ true → upstream_of x.upstreams y ≡ None → is_due p y ≡ false
  absent y live none = by_size (nat_lt_or y)
    where
      nat_lt_or : (y : ℕ) → (y ≤ length t.dialled) ⊎ (length t.dialled < y)
      nat_lt_or y = by_test (nat_lt (length t.dialled) y) refl
        where
          by_test : (b : Bool) → nat_lt (length t.dialled) y ≡ b → (y ≤ length t.dialled) ⊎ (length t.dialled < y)
          by_test true is = inr (grind (arith, nat_tests))
          by_test false is = inl (grind (arith, nat_tests))

      never : (o : Option Upstream) → IsUpstreamAt (taken_at t.call) None o → is_due_by (is_wanted (p.tables.exchange y)) o ≡ false
      never None is = absurd is
      never (Some v) is = absurd is

      by_size : (y ≤ length t.dialled) ⊎ (length t.dialled < y) → is_due p y ≡ false
      by_size (inl within) = never (p.upstream y)
          (subst (λ (o : Option origin.Upstream). IsUpstreamAt (taken_at t.call) o (p.upstream y)) none (h.rows y live within))
      by_size (inr past) = undue (is_wanted (p.tables.exchange y)) (p.upstream y) (undialled y past)

  news_go : (y : ℕ) → is_open (p.tables.exchange y) ≡ true → is_news up y ≡ false → asks_in y acts ≡ false → (b : Bool) → nat_eq y z ≡ b → is_due p y ≡ false
  news_go y live unheard unasked false off = h.news y live (sym (rw off at (news y)) ∙ unheard) (asks_other y off unasked)
  news_go y live unheard unasked true on =
      let place : y ≡ z = grind (arith, nat_tests) in
      let marked : is_some (upstream_of x.upstreams z) ≡ false = sym (rw on at (news y)) ∙ unheard in
      absent y live (ap (upstream_of x.upstreams) place ∙ by_row (upstream_of x.upstreams z) marked)
    where
      by_row : (o : Option origin.Upstream) → is_some o ≡ false → o ≡ None
      by_row None is = refl
      by_row (Some u) is = absurd (let never : true ≡ false = is in cc)

  settled_go : (y : ℕ) (u : origin.Upstream) → upstream_of x.upstreams y ≡ Some u → is_open (p.tables.exchange y) ≡ true → is_touched up y ≡ false →
      asks_in y acts ≡ false → (b : Bool) → nat_eq y z ≡ b → asks_in y (act.Ask z ∷ acts) ≡ false
  settled_go y u at live untouched unasked false off = asks_other y off unasked
  settled_go y u at live untouched unasked true on = absurd (let never : true ≡ false = sym (rw on at (touched y)) ∙ untouched in cc)

  was_untouched : (y : ℕ) → is_touched up y ≡ false → (b : Bool) → nat_eq y z ≡ b → is_touched x.upstreams y ≡ false
  was_untouched y untouched false off = sym (rw off at (touched y)) ∙ untouched
  was_untouched y untouched true on = absurd (let never : true ≡ false = sym (rw on at (touched y)) ∙ untouched in cc)

  pub asked_go : HasUpstreams t x' p acts
  asked_go = record {
    rows = λ y live within. subst (λ (o : Option origin.Upstream). IsUpstreamAt (taken_at t.call) o (p.upstream y)) (sym (stays y)) (h.rows y live within);
    numbers = λ y u at. h.numbers y u (sym (stays y) ∙ at);
    over = λ y some. h.over y (subst IsSome (stays y) some);
    news = λ y live unheard unasked. news_go y live unheard unasked (nat_eq y z) refl;
    touched = λ y u at live untouched unasked. h.touched y u (sym (stays y) ∙ at) live (was_untouched y untouched (nat_eq y z) refl)
        (settled_go y u (sym (stays y) ∙ at) live untouched unasked (nat_eq y z) refl);
    opens = h.opens;
    names = h.names;
    strangers = h.strangers;
  }

  pub wire_asked : AtWire t.stages x → AtWire t.stages x'
  wire_asked w = record {
    clients = w.clients;
    upstreams = λ y u at. w.upstreams y u (sym (stays y) ∙ at);
    all = λ k opens. elim (w.all k opens) [
      | inl there ↦ inl there
      | inr (inl (y, u, at, is)) ↦ inr (inl (y, u, stays y ∙ at, is))
      | inr (inr among) ↦ inr (inr among)
    ];
    closed = λ k among. ((w.closed k among).0, λ y u at. (w.closed k among).1 y u (sym (stays y) ∙ at));
  }
