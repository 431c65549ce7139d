-- While something is done for one exchange: from a turn to that, and back.
--
-- What is kept says nothing of this exchange beside what it has. An event of it, or one of no exchange, opens nothing
-- and asks for nothing. Of the other exchanges it closes some, which the acts tell, and all that are still open are
-- wanted as they were. `but_it` leads into it, `but_stepped` is a step there, and `done_all` leads back where the
-- exchange has what is kept too (`IsDone`).
use Rattle.std.{proofs.Common.{◌≡◌, ◌⊎◌, inl, inr, ◌≤◌, ℕ, ◌+◌, List, [], ◌++◌, length, Bool, true, false, Some, None, refl, ap, sym, ◌∙◌, subst, arith}, specs.{Prelude.{◌||◌, ◌&&◌, if◌then◌else◌, nat_eq, not, IsSome, Contains}, List.{list_all}}}
use Rattle.hc_text.proofs.Basics.{or_right, true_false}
use Rattle.hc_core.specs.Steps.{steps}
use Rattle.hc_effects.proofs.Vocabulary.{opening_in, asks_in, closes_in, is_denied, Act, Event, is_open, is_wanted, Lawful, after, after_accepted, after_denied, opened_after, event}
use Rattle.hc_effects.proofs.PieceKeeps.{eq_cases}
use Rattle.hc_peers.specs.{Peers.{is_same}, Upstreams.{upstream_of, is_news, is_touched}}
use Rattle.hc_peers.specs.declared.upstream.Upstream as origin
use Rattle.hc_store.specs.declared.backend.Backend.{Ghosts}
use Rattle.hc_proxy.specs.declared.proxy.Proxy as loop
use Rattle.hc_proxy.specs.{Carrying.{acts_in}, Connections.{taken_at}, Invariants.{is_due}, Keeping.{Turn, HasUpstreamsBut, IsUpstreamAt, KeepsBut, KeepsQuiet, Stepped, RestStays}, Rows.{Proxy}, Steps.{with_entry}, Waiting.{is_poll, is_waiting}}
use Rattle.hc_proxy.proofs.{Alike.{clients_move, wire_moves}, ClosedActs.{closes_both, closed_behind}, Holders.{entry_keeps}, IdleExchanges.{due_stays}, OpenAfter.{OpensIt, Stops, was_open, was_wanted, stays_open, stays_wanted}, OpensUp.{entry_opens}, QuietActs.{AreQuiet, quiet_both, is_quiet_entry, quiet_opens_none, quiet_asks_none}, Stands.{Stands}, StepOn.{stands_of, law_of}}
use Rattle.hc_laws.proofs.LiveAfter.{Starts}

-- the event says something of z, or of no exchange
abbrev pub IsOfOnly : ℕ → Event → Type 0
IsOfOnly z ev = (y : ℕ) → Stops y ev → y ≡ z

module _ {B : Type 0} {g : Ghosts B} where
  -- INTO IT

  pub but_it : (z : ℕ) (t : Turn) (x : loop.Proxy B g) (p : Proxy) → KeepsQuiet t x p → KeepsBut z t x p
  but_it z t x p h = record {
    cache = h.keeps.cache;
    acts = h.keeps.acts;
    clients = h.keeps.clients;
    consumers = h.keeps.consumers;
    upstreams = record {
      rows = h.keeps.upstreams.rows;
      numbers = h.keeps.upstreams.numbers;
      over = λ y off some. h.keeps.upstreams.over y some;
      news = λ y off on none asks. h.keeps.upstreams.news y on none asks;
      touched = λ y v off is on none asks. h.keeps.upstreams.touched y v is on none asks;
      opens = h.keeps.upstreams.opens;
      names = h.keeps.upstreams.names;
      strangers = h.keeps.upstreams.strangers;
    };
    wire = h.keeps.wire;
    numbers = h.keeps.numbers;
    opened = h.keeps.opened;
    seen = h.keeps.seen;
    shut = h.keeps.shut;
    known = h.keeps.known;
    moved = h.moved;
    quiet = h.quiet;
  }

  -- AND BACK, where what is to be said of it is so

  pub record IsDone (z : ℕ) (x : loop.Proxy B g) (p : Proxy) : Type 0 where
    pub over : IsSome (upstream_of x.upstreams z) → is_open (p.tables.exchange z) ≡ true
    pub news : is_news x.upstreams z ≡ false → is_due p z ≡ false
    pub touched : (v : origin.Upstream) → upstream_of x.upstreams z ≡ Some v → is_touched x.upstreams z ≡ false →
        (v.unsent ≡ []) × (is_same v.reading (is_wanted (p.tables.exchange z)) ≡ true)

  module _ (z : ℕ) (t : Turn) (x : loop.Proxy B g) (p : Proxy) (h : KeepsBut z t x p) (d : IsDone z x p) where
    over_all : (y : ℕ) → IsSome (upstream_of x.upstreams y) → (is_open (p.tables.exchange y) ≡ true) ⊎ (closes_in y (acts_in p.part) ≡ true)
    over_all y some = elim (eq_cases y z) as (λ _. (is_open (p.tables.exchange y) ≡ true) ⊎ (closes_in y (acts_in p.part) ≡ true)) [
      | inr off ↦ h.upstreams.over y off.0 some
      | inl here ↦ inl (subst (λ n. IsSome (upstream_of x.upstreams n) → is_open (p.tables.exchange n) ≡ true) (sym here.1) d.over some)
    ]

    news_all : (y : ℕ) → is_open (p.tables.exchange y) ≡ true → is_news x.upstreams y ≡ false → asks_in y (acts_in p.part) ≡ false → is_due p y ≡ false
    news_all y on none asks = elim (eq_cases y z) [
      | inr off ↦ h.upstreams.news y off.0 on none asks
      | inl here ↦ subst (λ n. is_news x.upstreams n ≡ false → is_due p n ≡ false) (sym here.1) d.news none
    ]

    touched_all : (y : ℕ) (v : origin.Upstream) → upstream_of x.upstreams y ≡ Some v → is_open (p.tables.exchange y) ≡ true →
        is_touched x.upstreams y ≡ false → asks_in y (acts_in p.part) ≡ false → (v.unsent ≡ []) × (is_same v.reading (is_wanted (p.tables.exchange y)) ≡ true)
    touched_all y v is on none asks = elim (eq_cases y z) as (λ _. (v.unsent ≡ []) × (is_same v.reading (is_wanted (p.tables.exchange y)) ≡ true)) [
      | inr off ↦ h.upstreams.touched y v off.0 is on none asks
      | inl here ↦ subst (λ n. (v : origin.Upstream) → upstream_of x.upstreams n ≡ Some v → is_touched x.upstreams n ≡ false → (v.unsent ≡ []) ×
          (is_same v.reading (is_wanted (p.tables.exchange n)) ≡ true)) (sym here.1) d.touched v is none
    ]

    pub done_all : KeepsQuiet t x p
    done_all = record {
      keeps = record {
        cache = h.cache;
        acts = h.acts;
        clients = h.clients;
        consumers = h.consumers;
        upstreams = record {
          rows = h.upstreams.rows;
          numbers = h.upstreams.numbers;
          over = over_all;
          news = news_all;
          touched = touched_all;
          opens = h.upstreams.opens;
          names = h.upstreams.names;
          strangers = h.upstreams.strangers;
        };
        wire = h.wire;
        numbers = h.numbers;
        opened = h.opened;
        seen = h.seen;
        shut = h.shut;
        known = h.known;
      };
      moved = h.moved;
      quiet = h.quiet;
    }

  -- AN ENTRY

  module _ (z : ℕ) (t : Turn) (x x' : loop.Proxy B g) (p : Proxy) (ev : Event) (h : KeepsBut z t x p) (s : Stepped t.frame x x' ev p) (r : RestStays x x')
      (off : is_poll ev ≡ false) (only : IsOfOnly z ev) where
    abbrev pub q : Proxy
    q = with_entry s.e p

    abbrev acts : List Act
    acts = s.e.acts

    law : Lawful p.tables
    law = law_of t.frame x p h.cache

    stands : Stands t.frame.limits p
    stands = stands_of t.frame x p h.cache

    no_poll : is_poll s.e.event ≡ false
    no_poll = ap is_poll s.event_is ∙ off

    quiet : AreQuiet acts
    quiet = is_quiet_entry t.frame.limits p.tables s.e s.is_owed no_poll

    opens_none : opening_in acts ≡ None
    opens_none = quiet_opens_none acts quiet

    unopened : {A : Type 0} (y : ℕ) → OpensIt y (opening_in acts) → A
    unopened y o = absurd (let never : None ≡ Some o.q = sym opens_none ∙ o.opens in cc)

    was : (y : ℕ) → is_open ((after p.tables s.e).exchange y) ≡ true → is_open (p.tables.exchange y) ≡ true
    was y on = elim (was_open p.tables s.e y on) as (λ _. is_open (p.tables.exchange y) ≡ true) [ inl before ↦ before | inr opens ↦ unopened y opens ]

    wanted_was : (y : ℕ) → is_wanted ((after p.tables s.e).exchange y) ≡ true → is_wanted (p.tables.exchange y) ≡ true
    wanted_was y on = elim (was_wanted p.tables s.e y on) as (λ _. is_wanted (p.tables.exchange y) ≡ true) [
      | inl before ↦ before
      | inr other ↦ elim other as (λ _. is_wanted (p.tables.exchange y) ≡ true)
          [ inl asks ↦ true_false (sym asks ∙ quiet_asks_none y acts quiet) | inr opens ↦ unopened y opens ]
    ]

    asked_was : (y : ℕ) → asks_in y (acts_in p.part ++ acts) ≡ false → asks_in y (acts_in p.part) ≡ false
    asked_was y none = quiet_asks_none y (acts_in p.part) h.quiet

    of_other : {A : Type 0} (y : ℕ) → nat_eq y z ≡ false → Stops y s.e.event → A
    of_other {A = A} y apart stops = elim (eq_cases y z) as (λ _. A) [
      | inl here ↦ true_false (sym here.0 ∙ apart)
      | inr other ↦ absurd (other.1 (only y (subst (Stops y) s.event_is stops)))
    ]

    over_now : (y : ℕ) → nat_eq y z ≡ false → IsSome (upstream_of x'.upstreams y) →
        (is_open ((after p.tables s.e).exchange y) ≡ true) ⊎ (closes_in y (acts_in p.part ++ acts) ≡ true)
    over_now y apart some = elim (h.upstreams.over y apart (subst (λ v. IsSome (upstream_of v y)) r.upstreams some)) as
        (λ _. (is_open ((after p.tables s.e).exchange y) ≡ true) ⊎ (closes_in y (acts_in p.part ++ acts) ≡ true)) [
          | inr closes ↦ inr (closes_both y (acts_in p.part) acts ∙ ap (λ (b : Bool). b || closes_in y acts) closes)
          | inl on ↦ elim (stays_open p.tables s.e y on) as
              (λ _. (is_open ((after p.tables s.e).exchange y) ≡ true) ⊎ (closes_in y (acts_in p.part ++ acts) ≡ true)) [
                | inl still ↦ inl still
                | inr other ↦ elim other as (λ _. (is_open ((after p.tables s.e).exchange y) ≡ true) ⊎ (closes_in y (acts_in p.part ++ acts) ≡ true)) [
                  | inl closes ↦ inr (closes_both y (acts_in p.part) acts ∙ or_right (closes_in y (acts_in p.part)) _ closes)
                  | inr stops ↦ of_other y apart stops
                ]
              ]
        ]

    same_want : (y : ℕ) → nat_eq y z ≡ false → is_open ((after p.tables s.e).exchange y) ≡ true → (a b : Bool) → is_wanted (p.tables.exchange y) ≡ a →
        is_wanted ((after p.tables s.e).exchange y) ≡ b → is_wanted (p.tables.exchange y) ≡ is_wanted ((after p.tables s.e).exchange y)
    same_want y apart on a true before now = wanted_was y now ∙ sym now
    same_want y apart on false false before now = before ∙ sym now
    same_want y apart on true false before now = true_false (sym (stays_wanted p.tables s.e y (λ stops. of_other y apart stops) before on) ∙ now)

    pub but_upstreams : HasUpstreamsBut z t x' q (acts_in p.part ++ acts)
    unfolding with_entry
    but_upstreams = record {
      rows = λ y on le. subst (λ v. IsUpstreamAt (taken_at t.call) (upstream_of v y) (p.upstream y)) (sym r.upstreams) (h.upstreams.rows y (was y on) le);
      numbers = λ y v is. h.upstreams.numbers y v (sym (ap (λ u. upstream_of u y) r.upstreams) ∙ is);
      over = over_now;
      news = λ y apart on none asks. due_stays t.frame.limits (p.upstream y) (is_wanted (p.tables.exchange y))
          (is_wanted ((after p.tables s.e).exchange y)) (wanted_was y)
          (h.upstreams.news y apart (was y on) (sym (ap (λ u. is_news u y) r.upstreams) ∙ none) (asked_was y asks));
      touched = λ y v apart is on none asks. let old =
          h.upstreams.touched y v apart (sym (ap (λ u. upstream_of u y) r.upstreams) ∙ is) (was y on) (sym (ap (λ u. is_touched u y) r.upstreams) ∙ none)
          (asked_was y asks) in
          (old.0, subst (λ (b : Bool). is_same v.reading b ≡ true) (same_want y apart on _ _ refl refl) old.1);
      opens = entry_opens t.frame.limits p stands s.e s.is_owed (length t.dialled) (acts_in p.part) h.upstreams.opens;
      names = h.upstreams.names;
      strangers = h.upstreams.strangers;
    }

    pub opened_same : (after p.tables s.e).opened ≡ p.tables.opened
    unfolding after
    opened_same = by_test (is_denied acts) refl
      where
        by_test : (b : Bool) → is_denied acts ≡ b → (if b then after_denied p.tables s.e else after_accepted p.tables s.e).opened ≡ p.tables.opened
        by_test true is = refl
        by_test false is = ap (λ o. opened_after o p.tables.opened) opens_none

    pub waits_not : is_waiting s.e ≡ false
    waits_not = rw no_poll refl

    -- no start and no cancel, of which something moved
    pub but_stepped : x'.moved ≡ true → steps x'.cache ≡ steps x.cache + 1 → ((c : ℕ) → ev ≡ event.Cancel c → ⊥) → ((c : ℕ) → Starts c ev → ⊥) →
        KeepsBut z t x' (with_entry s.e p)
    unfolding with_entry
    but_stepped moved one no_cancel no_start =
        let cs = clients_move t x x' p r.clients h.clients in
        record {
          cache = s.cache;
          acts = s.acts ∙ ap (λ zs. zs ++ acts) h.acts;
          clients = record { rows = cs.rows; order = cs.order; listed = cs.listed; few = cs.few };
          consumers = entry_keeps t.frame.limits p s.e law s.is_owed h.consumers (λ c is. no_cancel c (sym s.event_is ∙ is))
              (λ c starts. no_start c (subst (Starts c) s.event_is starts));
          upstreams = but_upstreams;
          wire = wire_moves t.stages x x' r.clients r.upstreams r.closed h.wire;
          numbers = (let a : p.starts ≤ p.setting.contents.last_consumer + steps x.cache = h.numbers in let b : steps x'.cache ≡ steps x.cache + 1 = one in
              omega arith);
          opened = (let a : p.tables.opened ≤ p.setting.contents.next_exchange + steps x.cache = h.opened in let b : steps x'.cache ≡ steps x.cache + 1 = one in
              let c : (after p.tables s.e).opened ≡ p.tables.opened = opened_same in omega arith);
          seen = h.seen;
          shut = closed_behind t.frame.limits p stands s.e s.is_owed (acts_in p.part) h.shut;
          known = λ k there. h.known k (subst (λ v. Contains v.items k) r.closed there);
          moved = moved ∙ sym (ap (λ b. not (b && list_all is_waiting p.part)) waits_not);
          quiet = quiet_both (acts_in p.part) acts h.quiet quiet;
        }
