-- What is told of the answer of an exchange, over the calls: the event of each call, and its turn.
--
-- The bytes of a call stand behind those that wait, where they came of the connection of the exchange, and its end is
-- kept in the row. What a turn does beside that leaves the row, but for what it hands on (`happened_on`). Then its acts
-- are carried out, which open the exchange at most once. Among more dials a row is followed as before, since its
-- connection was dialled among the first (`weaker`).
use Rattle.std.{proofs.{Common.{◌≡◌, ◌≤◌, ◌<◌, ◌⊎◌, inl, inr, ℕ, List, [], ◌∷◌, ◌++◌, Bool, true, false, Option, Some, None, refl, ap, sym, ◌∙◌, subst, arith, append_assoc, append-nil}, lemmas.Bool.Decides.{nat_tests}}, specs.Prelude.{nat_eq, take, if◌then◌else◌, option_map}}
use Rattle.hc_effects.proofs.Vocabulary.{may_begin, is_open, Tables, Limits, event}
use Rattle.hc_msg.specs.Reading.{Token}
use Rattle.hc_wire.specs.{Logs.{Called}, declared.event.WireEvent.{WireEvent}}
use Rattle.hc_wire.specs.declared.event.WireEvent.TheVariants as wire
use Rattle.hc_proxy.specs.{Asked.{got_by}, Carrying.{carried, acts_in}, Connections.{exchange_of, connection_of}, Handling.{begun, origin_sends, origin_ends, sends, ends, broke, handled_by, handled}, Network.{heard}, Rows.{Upstream, Proxy, unused, Setting}, Starts.{started_all}, Steps.{stepped}, Received.{received_of}, Ended.{is_end_of}, Turns.{so_far, happened, turned, turned_by}}
use Rattle.hc_proxy.proofs.{Folds.{turned_more}, Later.{carried_is_same}, Openings.{StandsKnown, open_more, turn_opens, turns_know, unused_known}, Turning.{OpenOnly, happened_keeps}, DialsHeard.{no_row, place_before, place_after, connection_at, new_by, ended_by, any_last}, HeardRows.{Follows, HasHeard, IsHeard, IsOver, IsReading, IsShut, all_ask, all_polled, carries_on, comes_on, hears_on, leaves_on, more_calls, more_ends, new_of, other_on, passes, still, waits}}

module _ (limits : Limits) (began : Setting) (dialled : List (Option ℕ)) (x : ℕ) where
  -- THE EVENT OF A CALL

  module _ (ds : List (Option ℕ)) (m : ℕ) (so : ds ≡ take m dialled) (calls : List Called) (call : Called) where
    abbrev more : List Called
    more = more_calls limits began dialled x calls call

    abbrev Before : Proxy → Type 0
    Before p = Follows limits began dialled x ds calls p

    abbrev Behind : Proxy → Type 0
    Behind p = Follows limits began dialled x ds more p

    -- a connection that is x's
    its_own : (k : ℕ) → exchange_of ds k ≡ Some x → connection_of dialled x ≡ Some k
    its_own k at = connection_at k x m dialled (ap (λ (ks : List (Option ℕ)). exchange_of ks k) (sym so) ∙ at)

    got_of : (k : ℕ) → connection_of dialled x ≡ Some k → new_of limits began dialled x call ≡ got_by k call.event call.bytes
    got_of k at = ap (λ (o : Option ℕ). new_by o call) at

    abbrev Misses : Type 0
    Misses = (k : ℕ) → exchange_of ds k ≡ Some x → new_of limits began dialled x call ≡ []

    row_passes : Misses → (o : Option Upstream) (tokens : List Token) → HasHeard limits began dialled x ds calls o tokens →
        HasHeard limits began dialled x ds more o tokens
    row_passes none None tokens row = row
    row_passes none (Some v) tokens row = passes limits began dialled x ds calls call v tokens none row

    all_pass : Misses → (p : Proxy) → Before p → Behind p
    all_pass none p s = (row_passes none (p.upstream x) (received_of x p.history) s.0, more_ends limits began dialled x calls call p.history s.1)

    -- nothing came of any
    no_bytes : ((k : ℕ) → got_by k call.event call.bytes ≡ []) → Misses
    no_bytes none k at = got_of k (its_own k at) ∙ none k

    -- bytes of an exchange came
    module _ (z n : ℕ) (is : call.event ≡ wire.Got z n) where
      got_is : (k : ℕ) (b : Bool) → nat_eq k z ≡ b → got_by k call.event call.bytes ≡ (if b then call.bytes else [])
      got_is k b at = ap (λ (w : WireEvent). got_by k w call.bytes) is ∙ ap (λ (t : Bool). if t then call.bytes else []) at

      -- of another
      misses : (exchange_of ds z ≡ Some x → ⊥) → Misses
      misses off k at = got_of k (its_own k at) ∙ by_number (nat_eq k z) refl
        where
          by_number : (b : Bool) → nat_eq k z ≡ b → got_by k call.event call.bytes ≡ []
          by_number false apart = got_is k false apart
          by_number true on = let same : z ≡ k = grind (arith, nat_tests) in absurd (off (ap (exchange_of ds) same ∙ at))

      -- of this one
      row_waits : exchange_of ds z ≡ Some x → (o : Option Upstream) (tokens : List Token) → HasHeard limits began dialled x ds calls o tokens →
          HasHeard limits began dialled x ds more (option_map (origin_sends call.bytes) o) tokens
      row_waits at None tokens row = row
      row_waits at (Some v) tokens row =
          let same : nat_eq z z ≡ true = grind (arith, nat_tests) in
          let bytes : new_of limits began dialled x call ≡ call.bytes = got_of z (its_own z at) ∙ got_is z true same in
          subst (λ (xs : List ℕ). IsHeard limits began dialled x ds more (origin_sends xs v) tokens) bytes
          (waits limits began dialled x ds calls call v tokens z at row)

      none_is : exchange_of ds z ≡ None → exchange_of ds z ≡ Some x → ⊥
      none_is at here = let never : None ≡ Some x = sym at ∙ here in cc

      other_is : (y : ℕ) → nat_eq x y ≡ false → exchange_of ds z ≡ Some y → exchange_of ds z ≡ Some x → ⊥
      other_is y apart at here =
          let one : Some y ≡ Some x = sym at ∙ here in
          let same : y ≡ x = cc in
          let on : nat_eq x y ≡ true = grind (arith, nat_tests) in
          let never : true ≡ false = sym on ∙ apart in
          cc

      got_on : (o : Option ℕ) (p : Proxy) → exchange_of ds z ≡ o → Before p → Behind (sends o z call.bytes p)
      got_on None p at s = all_pass (misses (none_is at)) p s
      got_on (Some y) p at s = (by_number (nat_eq x y) refl, more_ends limits began dialled x calls call p.history s.1)
        where
          by_number : (b : Bool) → nat_eq x y ≡ b →
              HasHeard limits began dialled x ds more (if b then option_map (origin_sends call.bytes) (p.upstream x) else p.upstream x)
              (received_of x p.history)
          by_number false apart = row_passes (misses (other_is y apart at)) (p.upstream x) (received_of x p.history) s.0
          by_number true on = let same : y ≡ x = grind (arith, nat_tests) in row_waits (at ∙ ap Some same) (p.upstream x) (received_of x p.history) s.0

    -- its connection ends
    module _ (z : ℕ) (is : call.event ≡ wire.Ended z) where
      no_got : Misses
      no_got = no_bytes (λ k. ap (λ (w : WireEvent). got_by k w call.bytes) is)

      row_ends : exchange_of ds z ≡ Some x → (o : Option Upstream) (tokens : List Token) → HasHeard limits began dialled x ds calls o tokens →
          HasHeard limits began dialled x ds more (option_map origin_ends o) tokens
      unfolding passes
      row_ends at None tokens row = row
      row_ends at (Some v) tokens row =
          let r : IsHeard limits began dialled x ds more v tokens = passes limits began dialled x ds calls call v tokens no_got row in
          let its : connection_of dialled x ≡ Some z = its_own z at in
          let end : is_end_of z call.event ≡ true = (let same : nat_eq z z ≡ true = grind (arith, nat_tests) in ap (is_end_of z) is ∙ same) in
          let over_now : ended_by (connection_of dialled x) (more_calls limits began dialled x row.behind call) ≡ true =
          ap (λ (o : Option ℕ). ended_by o (more_calls limits began dialled x row.behind call)) its ∙ any_last z row.behind call end in
          record {
            behind = r.behind;
            opens = r.opens;
            sent = r.sent;
            answer = r.answer;
            on = ended_place r.behind r.on;
            shut =
                λ on. record { k = z; at = at; over = over_now };
          }
        where
          ended_place : (behind : List Called) → IsOver limits began dialled x behind v tokens ⊎ IsReading limits began dialled x ds behind v tokens →
              IsOver limits began dialled x behind (origin_ends v) tokens ⊎ IsReading limits began dialled x ds behind (origin_ends v) tokens
          ended_place behind (inl o) = inl (record { done = o.done; answered = o.answered })
          ended_place behind (inr g) = inr (record { front = g.front; rest = g.rest; whole = g.whole; reads = g.reads; all = g.all })

      ends_on : (o : Option ℕ) (p : Proxy) → exchange_of ds z ≡ o → Before p → Behind (ends limits o z p)
      ends_on None p at s = leaves_on limits began dialled x ds more z (p.client z) p (all_pass no_got p s)
      ends_on (Some y) p at s = (by_number (nat_eq x y) refl, more_ends limits began dialled x calls call p.history s.1)
        where
          by_number : (b : Bool) → nat_eq x y ≡ b →
              HasHeard limits began dialled x ds more (if b then option_map origin_ends (p.upstream x) else p.upstream x) (received_of x p.history)
          by_number false apart = row_passes no_got (p.upstream x) (received_of x p.history) s.0
          by_number true on = let same : y ≡ x = grind (arith, nat_tests) in row_ends (at ∙ ap Some same) (p.upstream x) (received_of x p.history) s.0

    broke_on : (z : ℕ) (o : Option ℕ) (p : Proxy) → Behind p → Behind (broke limits o z p)
    broke_on z None p s = leaves_on limits began dialled x ds more z (p.client z) p s
    broke_on z (Some y) p s =
        still limits began dialled x ds more (is_open (p.tables.exchange y)) p (stepped limits (event.Fault y) p) s
        (other_on limits began dialled x ds more (event.Fault y) p refl refl s)

    quiet : (w : WireEvent) → ((k : ℕ) → got_by k w call.bytes ≡ []) → call.event ≡ w → Misses
    quiet w none is = no_bytes (λ k. ap (λ (v : WireEvent). got_by k v call.bytes) is ∙ none k)

    by_event : (w : WireEvent) (p : Proxy) → call.event ≡ w → Before p → Behind (handled_by limits ds call.bytes w p)
    by_event (wire.Accepted z) p is s = comes_on limits began dialled x ds more z p (all_pass (quiet (wire.Accepted z) (λ k. refl) is) p s)
    by_event (wire.Got z n) p is s = got_on z n is (exchange_of ds z) p refl s
    by_event (wire.Ended z) p is s = ends_on z is (exchange_of ds z) p refl s
    by_event (wire.Broke z) p is s = broke_on z (exchange_of ds z) p (all_pass (quiet (wire.Broke z) (λ k. refl) is) p s)
    by_event (wire.Room z) p is s = all_pass (quiet (wire.Room z) (λ k. refl) is) p s
    by_event wire.Quiet p is s = all_pass (quiet wire.Quiet (λ k. refl) is) p s

    handled_on : (p : Proxy) → Before p → Behind (handled limits ds call p)
    unfolding handled
    handled_on p s = by_event call.event p refl s

    happened_on : (p : Proxy) → Before p → Behind (happened limits ds call p)
    happened_on p s =
        let q : Proxy = heard limits (handled limits ds call p) in
        all_polled limits began dialled x ds more call (started_all limits call q)
        (all_ask limits began dialled x ds more call q (hears_on limits began dialled x ds more (handled limits ds call p) (handled_on p s)))

  -- TURNS

  abbrev pub Now : List Called → Proxy → Type 0
  Now calls p = Follows limits began dialled x (so_far p dialled) calls p

  -- where it has a row it was dialled among the first, or never
  weaker : (m n : ℕ) (calls : List Called) (o : Option Upstream) (tokens : List Token) → m ≤ n → ((v : Upstream) → o ≡ Some v → x ≤ m) →
      HasHeard limits began dialled x (take m dialled) calls o tokens → HasHeard limits began dialled x (take n dialled) calls o tokens
  weaker m n calls None tokens le low row = row
  weaker m n calls (Some v) tokens le low r =
      record { behind = r.behind; opens = r.opens; sent = r.sent; answer = r.answer; on = by_place r.on; shut = λ on. shut_on (r.shut on) }
    where
      by_place : IsOver limits began dialled x r.behind v tokens ⊎ IsReading limits began dialled x (take m dialled) r.behind v tokens →
          IsOver limits began dialled x r.behind v tokens ⊎ IsReading limits began dialled x (take n dialled) r.behind v tokens
      by_place (inl o) = inl o
      by_place (inr g) =
          let few : x ≤ m = low v refl in
          inr (record {
            front = g.front;
            rest = g.rest;
            whole = g.whole;
            reads = g.reads;
            all =
                λ k at. g.all k (place_before 1 k x m n dialled (omega arith) at);
          })

      shut_on : IsShut limits began dialled x (take m dialled) r.behind → IsShut limits began dialled x (take n dialled) r.behind
      shut_on s = record { k = s.k; at = place_after 1 s.k x m n dialled le s.at; over = s.over }

  abbrev pub tables_behind : List Called → Proxy
  tables_behind calls = turned_by limits dialled calls (unused began)

  turn_on : may_begin limits began.contents ≡ true → (calls : List Called) (call : Called) → Now calls (tables_behind calls) →
      Now (more_calls limits began dialled x calls call) (turned limits dialled call (tables_behind calls))
  unfolding turned
  turn_on may calls call s =
      let p : Proxy = tables_behind calls in
      let known : StandsKnown limits p = turns_know limits dialled calls (unused began) (unused_known limits began may) in
      let ds : List (Option ℕ) = so_far p dialled in
      let h : Proxy = happened limits ds call (begun call p) in
      let now : Follows limits began dialled x ds (more_calls limits began dialled x calls call) h =
      happened_on ds p.tables.opened refl calls call (begun call p) s in
      let off : p.upstream x ≡ None → h.upstream x ≡ None =
      happened_keeps limits (λ q r. q.upstream x ≡ None → r.upstream x ≡ None) (no_row limits x) ds call (begun call p) in
      let opens : (p.tables.opened ≤ h.tables.opened) × OpenOnly (λ y. (p.tables.opened < y) × (y ≤ h.tables.opened)) (acts_in h.part) =
      turn_opens limits ds call p known.stands in
      let grows : p.tables.opened ≤ (carried h).tables.opened = subst (λ (t : Tables). p.tables.opened ≤ t.opened) (sym (carried_is_same h).tables) opens.0 in
      let dialled_so : Follows limits began dialled x (so_far (carried h) dialled) (more_calls limits began dialled x calls call) h = (
        weaker p.tables.opened (carried h).tables.opened (more_calls limits began dialled x calls call) (h.upstream x) (received_of x h.history) grows
            (low p known h off) now.0,
        now.1,
      ) in
      carries_on limits began dialled x (so_far (carried h) dialled) calls call h
      (ap acts_in (sym (carried_is_same h).part))
      (open_more (λ y. (p.tables.opened < y) × (y ≤ h.tables.opened)) (λ y. p.tables.opened < y) (λ y f. f.0) (acts_in h.part) opens.1)
      (old ds (more_calls limits began dialled x calls call) p known h off now) dialled_so
    where
      by_row : (p : Proxy) → StandsKnown limits p → (o : Option Upstream) → p.upstream x ≡ o → (p.upstream x ≡ None) ⊎ (x ≤ p.tables.opened)
      by_row p known None at = inl at
      by_row p known (Some u) at = inr (known.known x u at)

      low : (p : Proxy) → StandsKnown limits p → (h : Proxy) → (p.upstream x ≡ None → h.upstream x ≡ None) → (v : Upstream) → h.upstream x ≡ Some v →
          x ≤ p.tables.opened
      low p known h off v at = elim (by_row p known (p.upstream x) refl) [
        | inl none ↦ absurd (let never : None ≡ Some v = sym (off none) ∙ at in cc)
        | inr le ↦ le
      ]

      old : (ds : List (Option ℕ)) (cs : List Called) (p : Proxy) → StandsKnown limits p → (h : Proxy) → (p.upstream x ≡ None → h.upstream x ≡ None) →
          Follows limits began dialled x ds cs h → p.tables.opened < x → received_of x h.history ≡ []
      old ds cs p known h off now above = elim (by_row p known (p.upstream x) refl) [
        | inl none ↦ subst (λ (o : Option Upstream). HasHeard limits began dialled x ds cs o (received_of x h.history)) (off none) now.0
        | inr le ↦ absurd (omega arith)
      ]

  pub turns_on : may_begin limits began.contents ≡ true → (rest calls : List Called) → Now calls (tables_behind calls) →
      Now (calls ++ rest) (tables_behind (calls ++ rest))
  turns_on may [] calls s = subst (λ (cs : List Called). Now cs (tables_behind cs)) (sym (append-nil calls)) s
  turns_on may (call ∷ rest) calls s =
      let next : Now (more_calls limits began dialled x calls call) (tables_behind (more_calls limits began dialled x calls call)) =
      subst (Now (more_calls limits began dialled x calls call)) (sym (turned_more limits dialled calls call (unused began))) (turn_on may calls call s) in
      subst (λ (cs : List Called). Now cs (tables_behind cs)) (append_assoc calls (call ∷ []) rest)
      (turns_on may rest (more_calls limits began dialled x calls call) next)
