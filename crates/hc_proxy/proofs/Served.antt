-- Behind the polls of a turn each act that is sent to a consumer finds its client, which was sent all.
--
-- Before the polls the acts are quiet, and tell nobody anything. Who is polled is live, and its client was sent all. A
-- poll tells its own consumer alone, and each is polled once. So no act of a turn goes to a client that was told
-- something by an act before it.
use Rattle.std.{proofs.Common.{◌≡◌, ◌⊎◌, inl, inr, ℕ, List, [], ◌∷◌, Bool, true, false, Option, Some, None, refl, ap, sym, ◌∙◌, subst, arith}, specs.Prelude.{◌&&◌, not, nat_lt, length, if◌then◌else◌}}
use Rattle.hc_effects.proofs.Vocabulary.{Act, Limits, is_live, owed, act, event}
use Rattle.hc_wire.specs.Logs.{Called}
use Rattle.hc_proxy.specs.{Carrying.{acts_in}, Connections.{taken_at}, Invariants.{IsServed, AreServed, HasConsumers}, Polls.{takes_more, may_be_polled, each_polled}, Rows.{Client, Proxy}, Steps.{with_entry, stepped}}
use Rattle.hc_proxy.proofs.{Polled.{PollsBy, Adds, entry_stands, reported_either, reports_both}, QuietActs.{AreQuiet}, ServedActs.{IsReceived, ReportsUp, are_served}, SkippedSteps.{among}, Stands.{Stands, owed_here}}
use Rattle.hc_proxy.proofs.Polled as by

-- QUIET ACTS ARE SENT TO NOBODY

pub quiet_unreported : (acts : List Act) (c : ℕ) → AreQuiet acts → IsReceived c acts → ⊥
quiet_unreported [] c h reported = reported
quiet_unreported (act.Denied refusal ∷ acts) c h (inl to) = let never : None ≡ Some c = to in cc
quiet_unreported (act.Denied refusal ∷ acts) c h (inr reported) = quiet_unreported acts c h reported
quiet_unreported (act.Opened x d need request ∷ acts) c h reported = let never : false ≡ true = h in cc
quiet_unreported (act.Ask x ∷ acts) c h reported = let never : false ≡ true = h in cc
quiet_unreported (act.Close x ∷ acts) c h (inl to) = let never : None ≡ Some c = to in cc
quiet_unreported (act.Close x ∷ acts) c h (inr reported) = quiet_unreported acts c h reported
quiet_unreported (act.Shown d r why status fields lo hi ∷ acts) c h reported = let never : false ≡ true = h in cc
quiet_unreported (act.Given d x at bytes ∷ acts) c h reported = let never : false ≡ true = h in cc
quiet_unreported (act.Ended d ∷ acts) c h reported = let never : false ≡ true = h in cc
quiet_unreported (act.Failed d cause ∷ acts) c h reported = let never : false ≡ true = h in cc
quiet_unreported (act.Pending d wait ∷ acts) c h reported = let never : false ≡ true = h in cc
quiet_unreported (act.Lost r kind ∷ acts) c h (inl to) = let never : None ≡ Some c = to in cc
quiet_unreported (act.Lost r kind ∷ acts) c h (inr reported) = quiet_unreported acts c h reported
quiet_unreported (act.Evicted r ∷ acts) c h (inl to) = let never : None ≡ Some c = to in cc
quiet_unreported (act.Evicted r ∷ acts) c h (inr reported) = quiet_unreported acts c h reported

pub quiet_up : (acts : List Act) (n : ℕ) → AreQuiet acts → ReportsUp n acts
quiet_up [] n h = tt
quiet_up (act.Denied refusal ∷ acts) n h = quiet_up acts n h
quiet_up (act.Opened x d need request ∷ acts) n h = absurd (let never : false ≡ true = h in cc)
quiet_up (act.Ask x ∷ acts) n h = absurd (let never : false ≡ true = h in cc)
quiet_up (act.Close x ∷ acts) n h = quiet_up acts n h
quiet_up (act.Shown d r why status fields lo hi ∷ acts) n h = absurd (let never : false ≡ true = h in cc)
quiet_up (act.Given d x at bytes ∷ acts) n h = absurd (let never : false ≡ true = h in cc)
quiet_up (act.Ended d ∷ acts) n h = absurd (let never : false ≡ true = h in cc)
quiet_up (act.Failed d cause ∷ acts) n h = absurd (let never : false ≡ true = h in cc)
quiet_up (act.Pending d wait ∷ acts) n h = absurd (let never : false ≡ true = h in cc)
quiet_up (act.Lost r kind ∷ acts) n h = quiet_up acts n h
quiet_up (act.Evicted r ∷ acts) n h = quiet_up acts n h

module _ (limits : Limits) (call : Called) where
  -- WHO MAY BE POLLED IS SERVED

  all_sent : (k : ℕ) (row : Client) → takes_more call k (Some row) ≡ true → nat_lt (taken_at call k) (length row.owed) ≡ false
  all_sent k row h = by_parts row.gone (nat_lt (taken_at call k) (length row.owed)) h
    where
      by_parts : (a b : Bool) → (not a && not b) ≡ true → b ≡ false
      by_parts true b g = absurd (let never : false ≡ true = g in cc)
      by_parts false true g = absurd (let never : false ≡ true = g in cc)
      by_parts false false g = refl

  pub served_now : (p : Proxy) → HasConsumers p → (c : ℕ) → is_live (p.tables.consumer c) ≡ true → may_be_polled call p (p.holder c) ≡ true → (k : ℕ) ×
      IsServed call p k c
  served_now p h c live may =
      let has = h.live c live in
      let holds : p.holder c ≡ Some has.0 = h.held has.0 c has.1 in
      let takes : takes_more call has.0 (Some has.1.row) ≡ true = sym (ap (takes_more call has.0) has.1.at) ∙ (sym (ap (may_be_polled call p) holds) ∙ may) in
      (has.0, record { holder = has.1; held = holds; all = all_sent has.0 has.1.row takes })

  served_on : (p q : Proxy) → q.client ≡ p.client → q.holder ≡ p.holder → (k c : ℕ) → IsServed call p k c → IsServed call q k c
  served_on p q clients holders k c s = record {
    holder = record { row = s.holder.row; at = ap (λ (f : ℕ → Option Client). f k) clients ∙ s.holder.at; here = s.holder.here; consumer = s.holder.consumer };
    held = ap (λ (f : ℕ → Option ℕ). f c) holders ∙ s.held;
    all = s.all;
  }

  -- Behind polls of live consumers, where the acts before were quiet.
  pub served_behind : (cs : List ℕ) (p q : Proxy) → HasConsumers p → AreQuiet (acts_in p.part) →
      ((c : ℕ) → among c cs ≡ true → is_live (p.tables.consumer c) ≡ true) → Adds limits call 0 cs p q → AreServed call q (acts_in q.part)
  served_behind cs p q h quiet live adds =
      are_served call (acts_in q.part) 0 q
      (subst (ReportsUp 0) (sym adds.acts)
      (reports_both (acts_in p.part) adds.more 0 0 (quiet_up (acts_in p.part) 0 quiet)
      (λ c reported. absurd (quiet_unreported (acts_in p.part) c quiet reported)) (omega arith) adds.up))
      (λ c reported. by_part c (reported_either (acts_in p.part) adds.more c (subst (IsReceived c) adds.acts reported)))
    where
      by_part : (c : ℕ) → IsReceived c (acts_in p.part) ⊎ IsReceived c adds.more → (k : ℕ) × IsServed call q k c
      by_part c (inl reported) = absurd (quiet_unreported (acts_in p.part) c quiet reported)
      by_part c (inr reported) =
          let polled = adds.polled c reported in
          let s = served_now p h c (live c polled.0) polled.1 in
          (s.0, served_on p q adds.clients adds.holders s.0 c s.1)

  -- THE DEFINITIONS' POLLS

  by_test : (c : ℕ) (cs : List ℕ) (p : Proxy) (b : Bool) → may_be_polled call p (p.holder c) ≡ b → Stands limits p →
      ((r : Proxy) → Stands limits r → PollsBy limits call cs r (each_polled limits call cs r)) →
      PollsBy limits call (c ∷ cs) p (each_polled limits call cs (if b then stepped limits (event.Poll c 16384) p else p))
  unfolding owed
  by_test c cs p true is s rest =
      let e = owed limits p.tables p.moment (event.Poll c 16384) in
      let o = owed_here limits (event.Poll c 16384) p s in
      by.polls c cs p _ e is (record { is_owed = o; event_is = refl; now = refl }) (rest (with_entry e p) (entry_stands limits call p e s o refl))
  by_test c cs p false is s rest = by.skips c cs p _ is (rest p s)

  pub each_is_by : (cs : List ℕ) (p : Proxy) → Stands limits p → PollsBy limits call cs p (each_polled limits call cs p)
  each_is_by [] p s = by.over p
  each_is_by (c ∷ cs) p s = by_test c cs p (may_be_polled call p (p.holder c)) refl s (λ r t. each_is_by cs r t)
