-- The step *network* goes through those exchanges alone of which something is to be handed to the cache.
--
-- An exchange is idle that isn't open, or of which the step does nothing by its row. What is done for another one
-- changes its row in no way, and steps events that are no polls: these open nothing and ask for nothing. So who is idle
-- stays idle. So those that the code doesn't go through may be skipped in the definitions (`idle_skips`, `is_skipped`).
use Rattle.std.{proofs.{Common.{◌≡◌, ◌⊎◌, inl, inr, ℕ, ◌+◌, List, [], ◌∷◌, Bool, true, false, Option, Some, None, refl, ap, sym, ◌∙◌, subst, arith}, lemmas.Bool.Decides.{nat_tests}}, specs.Prelude.{◌&&◌, ◌||◌, not, nat_eq, if◌then◌else◌, Result, Ok, Err}}
use Rattle.hc_text.proofs.Basics.{bool_cases, true_false}
use Rattle.hc_effects.proofs.Vocabulary.{opening_in, Event, Entry, is_open, is_wanted, Exchange, owed, Limits, event}
use Rattle.hc_head.specs.declared.message.MsgError.{MsgError}
use Rattle.hc_msg.specs.{Inputs.{Next, Waits, Reports, Brings, Ends, Fails}, Reading.{Done, Failed, Token, Asks, Answers, Byte}, Taking.{ending}, declared.message.WirePart.{WirePart}}
use Rattle.hc_proxy.specs.{Invariants.{is_part, is_due, is_due_by}, Network.{has_news, next_of, read_to, is_last_denied, unless_denied, hands_head, hands, hands_if, handed, closes, closes_if, closed, event_at_close}, Rows.{Upstream, Proxy, with_upstream}, Steps.{with_entry, stepped}, Waiting.{is_poll}}
use Rattle.hc_proxy.specs.Network as network
use Rattle.hc_proxy.proofs.{OpenAfter.{OpensIt, was_open, was_wanted}, QuietActs.{AreQuiet, is_quiet_entry, quiet_opens_none, quiet_asks_none}, SkippedSteps.{IsSkipped, each}, Stands.{Stands, owed_here, goes_on}}

module _ (limits : Limits) where
  -- what is done for x
  abbrev pub heard_one : ℕ → Proxy → Proxy
  heard_one x p = closed limits x (handed limits x p)

  abbrev pub Idle : Proxy → ℕ → Type 0
  Idle p x = (is_open (p.tables.exchange x) ≡ false) ⊎ (is_due p x ≡ false)

  -- A CHANGE THAT IS ANOTHER'S

  pub record Apart (x : ℕ) (p q : Proxy) : Type 0 where
    pub stands : Stands limits q
    pub opens : is_open (q.tables.exchange x) ≡ true → is_open (p.tables.exchange x) ≡ true
    pub wants : is_wanted (q.tables.exchange x) ≡ true → is_wanted (p.tables.exchange x) ≡ true
    pub row : q.upstream x ≡ p.upstream x

  abbrev ApartOn : ℕ → Proxy → Proxy → Type 0
  ApartOn x p q = Stands limits p → Apart x p q

  same : (x : ℕ) (p : Proxy) → ApartOn x p p
  same x p s = record { stands = s; opens = λ h. h; wants = λ h. h; row = refl }

  both : (x : ℕ) (p q r : Proxy) → ApartOn x p q → ApartOn x q r → ApartOn x p r
  both x p q r a b s =
      let first = a s in
      let second = b first.stands in
      record {
        stands = second.stands;
        opens = λ h. first.opens (second.opens h);
        wants = λ h. first.wants (second.wants h);
        row = second.row ∙ first.row;
      }

  either : (x : ℕ) (b : Bool) (p q : Proxy) → ApartOn x p q → ApartOn x p (if b then q else p)
  either x true p q a = a
  either x false p q a = same x p

  unopened : {A : Type 0} (x : ℕ) (e : Entry) → opening_in e.acts ≡ None → OpensIt x (opening_in e.acts) → A
  unopened x e none o = absurd (let never : None ≡ Some o.q = sym none ∙ o.opens in cc)

  steps : (x : ℕ) (ev : Event) → is_poll ev ≡ false → (p : Proxy) → ApartOn x p (stepped limits ev p)
  unfolding with_entry owed
  steps x ev off p s = record {
    stands = (goes_on limits ev p s).stands;
    opens = λ h. elim (was_open p.tables e x h) as (λ _. is_open (p.tables.exchange x) ≡ true) [ inl was ↦ was | inr opens ↦ unopened x e none opens ];
    wants = λ h. elim (was_wanted p.tables e x h) as (λ _. is_wanted (p.tables.exchange x) ≡ true) [ inl was ↦ was | inr other ↦ elim other as (λ _. is_wanted (p.tables.exchange x) ≡ true) [ inl asks ↦ true_false (sym asks ∙ quiet_asks_none x e.acts quiet) | inr opens ↦ unopened x e none opens ] ];
    row = refl;
  }
    where
      e : Entry
      e = owed limits p.tables p.moment ev

      quiet : AreQuiet e.acts
      quiet = is_quiet_entry limits p.tables e (owed_here limits ev p s) off

      none : opening_in e.acts ≡ None
      none = quiet_opens_none e.acts quiet

  reads : (x z : ℕ) → nat_eq x z ≡ false → (change : Upstream → Upstream) (p : Proxy) → ApartOn x p (with_upstream z change p)
  reads x z off change p s = record {
    stands = record { begins = s.begins; run = s.run; same = s.same; later = s.later };
    opens = λ h. h;
    wants = λ h. h;
    row = rw off refl;
  }

  -- WHAT IS DONE FOR ANOTHER

  module _ (x z : ℕ) (off : nat_eq x z ≡ false) where
    then_steps : (ev : Event) → is_poll ev ≡ false → (p q : Proxy) → ApartOn x p q → ApartOn x p (stepped limits ev q)
    then_steps ev quiet p q a = both x p q (stepped limits ev q) a (steps x ev quiet q)

    head_apart : (token : Token) (p : Proxy) → ApartOn x p (hands_head limits z token p)
    head_apart (Answers response) p = steps x (event.Head z response) refl p
    head_apart (Asks request) p = same x p
    head_apart (Byte b) p = same x p

    hands_apart : (n : Next) (p : Proxy) → ApartOn x p (hands limits z n p)
    hands_apart (Waits reading) p = reads x z off (read_to reading []) p
    hands_apart (Reports token reading rest) p =
        both x p (with_upstream z (read_to reading rest) p) (hands_head limits z token (with_upstream z (read_to reading rest) p))
        (reads x z off (read_to reading rest) p) (head_apart token (with_upstream z (read_to reading rest) p))
    hands_apart (Brings bytes reading rest) p =
        let q = stepped limits (event.Piece z bytes) (with_upstream z (read_to reading rest) p) in
        both x p q (unless_denied limits z q)
        (then_steps (event.Piece z bytes) refl p (with_upstream z (read_to reading rest) p) (reads x z off (read_to reading rest) p))
        (either x (is_last_denied q.part) q (stepped limits (event.Fault z) q) (steps x (event.Fault z) refl q))
    hands_apart Ends p = then_steps (event.End z) refl p (with_upstream z (read_to Done []) p) (reads x z off (read_to Done []) p)
    hands_apart (Fails e) p = then_steps (event.Fault z) refl p (with_upstream z (read_to (Failed e) []) p) (reads x z off (read_to (Failed e) []) p)

    handed_apart : (o : Option Upstream) (p : Proxy) → ApartOn x p (hands_if limits z o p)
    handed_apart None p = same x p
    handed_apart (Some upstream) p =
        either x (is_wanted (p.tables.exchange z) && has_news upstream) p (hands limits z (next_of upstream) p) (hands_apart (next_of upstream) p)

    close_apart : (r : Result WirePart MsgError) (p : Proxy) → ApartOn x p (stepped limits (event_at_close z r) p)
    close_apart (Ok part) p = steps x (event.End z) refl p
    close_apart (Err e) p = steps x (event.Fault z) refl p

    closes_apart : (n : Next) (p : Proxy) → ApartOn x p (closes limits z n p)
    closes_apart (Waits reading) p = close_apart (ending reading) p
    closes_apart (Reports token reading rest) p = same x p
    closes_apart (Brings bytes reading rest) p = same x p
    closes_apart Ends p = same x p
    closes_apart (Fails e) p = steps x (event.Fault z) refl p

    closed_apart : (o : Option Upstream) (p : Proxy) → ApartOn x p (closes_if limits z o p)
    closed_apart None p = same x p
    closed_apart (Some upstream) p =
        either x (upstream.ended && is_open (p.tables.exchange z)) p (closes limits z (next_of upstream) p) (closes_apart (next_of upstream) p)

    pub heard_apart : (p : Proxy) → ApartOn x p (heard_one z p)
    heard_apart p =
        both x p (handed limits z p) (heard_one z p) (handed_apart (p.upstream z) p) (closed_apart ((handed limits z p).upstream z) (handed limits z p))

  -- WHO IS IDLE STAYS SO

  due_less : (v : Upstream) (was now : Bool) → (now ≡ true → was ≡ true) → is_due_by was (Some v) ≡ false → is_due_by now (Some v) ≡ false
  due_less v was true less h = subst (λ (b : Bool). is_due_by b (Some v) ≡ false) (less refl) h
  due_less v true false less h = second (has_news v) (v.ended && not (is_part (next_of v))) h
    where
      second : (a b : Bool) → (a || b) ≡ false → b ≡ false
      second true b g = true_false g
      second false b g = g
  due_less v false false less h = h

  pub due_stays : (o : Option Upstream) (was now : Bool) → (now ≡ true → was ≡ true) → is_due_by was o ≡ false → is_due_by now o ≡ false
  due_stays None was now less h = refl
  due_stays (Some v) was now less h = due_less v was now less h

  pub idle_apart : (x : ℕ) (p q : Proxy) → Apart x p q → Idle p x → Idle q x
  idle_apart x p q a (inl shut) =
      inl (elim (bool_cases (is_open (q.tables.exchange x))) as (λ _. is_open (q.tables.exchange x) ≡ false)
      [ inl now ↦ true_false (sym (a.opens now) ∙ shut) | inr off ↦ off ])
  idle_apart x p q a (inr off) =
      inr (ap (λ (o : Option Upstream). is_due_by (is_wanted (q.tables.exchange x)) o) a.row ∙
      due_stays (p.upstream x) (is_wanted (p.tables.exchange x)) (is_wanted (q.tables.exchange x)) a.wants off)

  -- WHO IS IDLE IS PASSED OVER

  unwanted : (o : Option Exchange) → is_open o ≡ false → is_wanted o ≡ false
  unwanted None h = refl
  unwanted (Some w) h = rw h refl

  not_handed : (x : ℕ) (p : Proxy) → Idle p x → (o : Option Upstream) → p.upstream x ≡ o → hands_if limits x o p ≡ p
  not_handed x p idle None row = refl
  not_handed x p (inl shut) (Some v) row = rw (unwanted (p.tables.exchange x) shut) refl
  not_handed x p (inr off) (Some v) row =
      let due : is_due_by (is_wanted (p.tables.exchange x)) (Some v) ≡ false =
      sym (ap (λ (o : Option Upstream). is_due_by (is_wanted (p.tables.exchange x)) o) row) ∙ off in
      rw (first (is_wanted (p.tables.exchange x) && has_news v) _ due) refl
    where
      first : (a b : Bool) → (a || b) ≡ false → a ≡ false
      first true b g = true_false g
      first false b g = refl

  no_close : (x : ℕ) (p : Proxy) (n : Next) → is_part n ≡ true → closes limits x n p ≡ p
  no_close x p (Waits reading) h = true_false (sym h)
  no_close x p (Reports token reading rest) h = refl
  no_close x p (Brings bytes reading rest) h = refl
  no_close x p Ends h = refl
  no_close x p (Fails e) h = true_false (sym h)

  not_closed : (x : ℕ) (p : Proxy) → Idle p x → (o : Option Upstream) → p.upstream x ≡ o → closes_if limits x o p ≡ p
  not_closed x p idle None row = refl
  not_closed x p (inl shut) (Some v) row = rw (shut_off v.ended (is_open (p.tables.exchange x)) shut) refl
    where
      shut_off : (a b : Bool) → b ≡ false → (a && b) ≡ false
      shut_off true b h = h
      shut_off false b h = refl
  not_closed x p (inr off) (Some v) row = by_end v.ended refl
    where
      second : (a b : Bool) → (a || b) ≡ false → b ≡ false
      second true b g = true_false g
      second false b g = g

      due : (v.ended && not (is_part (next_of v))) ≡ false
      due = second (is_wanted (p.tables.exchange x) && has_news v) _
          (sym (ap (λ (o : Option Upstream). is_due_by (is_wanted (p.tables.exchange x)) o) row) ∙ off)

      is_not : (b : Bool) → not b ≡ false → b ≡ true
      is_not true h = refl
      is_not false h = true_false h

      by_open : (b : Bool) → v.ended ≡ true → (if b then closes limits x (next_of v) p else p) ≡ p
      by_open true ended = no_close x p (next_of v) (is_not (is_part (next_of v)) (sym (ap (λ (b : Bool). b && not (is_part (next_of v))) ended) ∙ due))
      by_open false ended = refl

      by_end : (b : Bool) → v.ended ≡ b → (if v.ended && is_open (p.tables.exchange x) then closes limits x (next_of v) p else p) ≡ p
      by_end true ended = rw ended (by_open (is_open (p.tables.exchange x)) ended)
      by_end false ended = rw ended refl

  pub idle_skips : (x : ℕ) (p : Proxy) → Idle p x → heard_one x p ≡ p
  idle_skips x p idle =
      let first : handed limits x p ≡ p = not_handed x p idle (p.upstream x) refl in
      rw first (not_closed x p idle (p.upstream x) refl)

  -- ALL OF THEM

  -- at itself what is done keeps the run
  pub is_skipped : IsSkipped heard_one (Stands limits) Idle
  is_skipped = record {
    keeps = λ x p s. (heard_apart (x + 1) x (other x) p s).stands;
    skips = λ x p s idle. idle_skips x p idle;
    stays = λ x z p s off idle. idle_apart x p (heard_one z p) (heard_apart x z off p s) idle;
  }
    where
      other : (x : ℕ) → nat_eq (x + 1) x ≡ false
      other x = grind (arith, nat_tests)

  pub is_each : (xs : List ℕ) (p : Proxy) → network.each_heard limits xs p ≡ each heard_one xs p
  is_each [] p = refl
  is_each (x ∷ xs) p = is_each xs (heard_one x p)
