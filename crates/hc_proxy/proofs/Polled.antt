-- What polls tell: each its own consumer, one thing at most.
--
-- Polls are made in ascending order, over a store that may fail. Each adds its acts behind those before, and tells one
-- consumer at most, its own (a law of the cache). So the acts that are sent to consumers stand in ascending order.
-- `one_up` is of the acts of one poll, `reports_both` joins lists, and `polls_add` is the induction.
use Rattle.std.{proofs.{Common.{◌≡◌, ◌⊎◌, inl, inr, ◌≤◌, ℕ, ◌+◌, List, [], ◌∷◌, ◌++◌, Bool, true, false, Option, Some, None, refl, ap, sym, ◌∙◌, subst, arith, append_assoc, append-nil}, lemmas.Bool.Decides.{nat_tests}}, specs.Prelude.{is_some, nat_eq, ◌||◌, if◌then◌else◌}}
use Rattle.hc_effects.proofs.Vocabulary.{is_denied, Act, Limits, Entry, IsRun, IsOwed, tables, after, recipient, consumer_acts, IsOneTo, AnswersBy, act, event}
use Rattle.hc_model.specs.ConsumerActs as reports
use Rattle.hc_wire.specs.Logs.{Called}
use Rattle.hc_laws.proofs.WhoIsAnswered.{reported_in_runs}
use Rattle.hc_proxy.specs.{Carrying.{acts_in}, Invariants.{addressee}, Polls.{may_be_polled}, Rows.{Proxy}, Steps.{with_entry}}
use Rattle.hc_proxy.proofs.{ServedActs.{IsReceived, ReportsUp, UpBy}, SkippedSteps.{Ascends, among}, Stands.{Stands, moment_by}}

-- LISTS OF ACTS

up_less : (o : Option ℕ) (acts : List Act) (m n : ℕ) → m ≤ n → UpBy o n (λ l. ReportsUp l acts) →
    ((l k : ℕ) → l ≤ k → ReportsUp k acts → ReportsUp l acts) → UpBy o m (λ l. ReportsUp l acts)
up_less None acts m n le up rest = rest m n le up
up_less (Some c) acts m n le up rest = let at : n ≤ c = up.0 in (omega arith, up.1)

pub reports_less : (acts : List Act) (m n : ℕ) → m ≤ n → ReportsUp n acts → ReportsUp m acts
reports_less [] m n le up = tt
reports_less (a ∷ acts) m n le up = up_less (addressee a) acts m n le up (λ l k less. reports_less acts l k less)

-- each that is told something is below this number
abbrev pub ReportsBelow : ℕ → List Act → Type 0
ReportsBelow m acts = (c : ℕ) → IsReceived c acts → c + 1 ≤ m

join_by : (a : Act) (o : Option ℕ) (xs ys : List Act) (n m : ℕ) → addressee a ≡ o → UpBy o n (λ l. ReportsUp l xs) → ReportsBelow m (a ∷ xs) → n ≤ m →
    ReportsUp m ys → ((l : ℕ) → ReportsUp l xs → l ≤ m → ReportsUp l (xs ++ ys)) → UpBy o n (λ l. ReportsUp l (xs ++ ys))
join_by a None xs ys n m to up below le rest go = go n up le
join_by a (Some c) xs ys n m to up below le rest go = (up.0, go (c + 1) up.1 (below c (inl to)))

pub reports_both : (xs ys : List Act) (n m : ℕ) → ReportsUp n xs → ReportsBelow m xs → n ≤ m → ReportsUp m ys → ReportsUp n (xs ++ ys)
reports_both [] ys n m up below le rest = reports_less ys n m le rest
reports_both (a ∷ xs) ys n m up below le rest =
    join_by a (addressee a) xs ys n m refl up below le rest (λ l up_l le_l. reports_both xs ys l m up_l (λ c reported. below c (inr reported)) le_l rest)

pub reported_either : (xs ys : List Act) (c : ℕ) → IsReceived c (xs ++ ys) → IsReceived c xs ⊎ IsReceived c ys
reported_either [] ys c reported = inr reported
reported_either (a ∷ xs) ys c (inl to) = inl (inl to)
reported_either (a ∷ xs) ys c (inr reported) =
    elim (reported_either xs ys c reported) as (λ _. IsReceived c (a ∷ xs) ⊎ IsReceived c ys) [ inl first ↦ inl (inr first) | inr second ↦ inr second ]

-- ACTS OF ONE POLL

-- who is sent something is told it
addressed_reported : (a : Act) (c : ℕ) → addressee a ≡ Some c → recipient a ≡ Some c
addressed_reported (act.Denied refusal) c h = absurd (let never : None ≡ Some c = h in cc)
addressed_reported (act.Opened x d need request) c h = absurd (let never : None ≡ Some c = h in cc)
addressed_reported (act.Ask x) c h = absurd (let never : None ≡ Some c = h in cc)
addressed_reported (act.Close x) c h = absurd (let never : None ≡ Some c = h in cc)
addressed_reported (act.Shown d r why status fields lo hi) c h = h
addressed_reported (act.Given d x at bytes) c h = h
addressed_reported (act.Ended d) c h = h
addressed_reported (act.Failed d cause) c h = h
addressed_reported (act.Pending d wait) c h = absurd (let never : None ≡ Some c = h in cc)
addressed_reported (act.Lost r kind) c h = absurd (let never : None ≡ Some c = h in cc)
addressed_reported (act.Evicted r) c h = absurd (let never : None ≡ Some c = h in cc)

-- of acts that tell c one thing at most, nobody else is sent anything
first_said : (a : Act) (acts : List Act) (c d : ℕ) → ((IsOneTo c (consumer_acts acts)) → IsReceived d acts → d ≡ c) → (b : Bool) →
    is_some (recipient a) ≡ b → IsOneTo c (if b then a ∷ consumer_acts acts else consumer_acts acts) → (addressee a ≡ Some d) ⊎ IsReceived d acts → d ≡ c
first_said a acts c d rest false is single (inl to) =
    absurd (let no : is_some (recipient a) ≡ true = ap is_some (addressed_reported a d to) in let never : true ≡ false = sym no ∙ is in cc)
first_said a acts c d rest false is single (inr reported) = rest single reported
first_said a acts c d rest true is single reported = by_one (a ∷ consumer_acts acts) refl single reported
  where
    some_is : (m n : ℕ) → Some m ≡ Some n → m ≡ n
    some_is m n h = cc

    by_one : (xs : List Act) → xs ≡ a ∷ consumer_acts acts → IsOneTo c xs → (addressee a ≡ Some d) ⊎ IsReceived d acts → d ≡ c
    by_one _ same reports.nothing reported = absurd (let never : [] ≡ a ∷ consumer_acts acts = same in cc)
    by_one _ same (reports.one b to_c) (inl to) =
        let here : b ≡ a = (let h : b ∷ [] ≡ a ∷ consumer_acts acts = same in cc) in
        some_is d c (sym (addressed_reported a d to) ∙ (sym (ap recipient here) ∙ to_c))
    by_one _ same (reports.one b to_c) (inr reported) =
        let none : consumer_acts acts ≡ [] = (let h : b ∷ [] ≡ a ∷ consumer_acts acts = same in cc) in
        rest (subst (IsOneTo c) (sym none) reports.nothing) reported

pub only_one : (acts : List Act) (c d : ℕ) → IsOneTo c (consumer_acts acts) → IsReceived d acts → d ≡ c
only_one [] c d single reported = absurd reported
only_one (a ∷ acts) c d single reported = first_said a acts c d (λ o t. only_one acts c d o t) (is_some (recipient a)) refl single reported

-- and they stand in order alone
up_alone : (a : Act) (acts : List Act) (c n : ℕ) → n ≤ c → IsOneTo c (consumer_acts (a ∷ acts)) → ((IsOneTo c (consumer_acts acts)) → ReportsUp n acts) →
    (consumer_acts acts ≡ [] → ReportsUp (c + 1) acts) → (o : Option ℕ) → addressee a ≡ o → UpBy o n (λ m. ReportsUp m acts)
up_alone a acts c n le single rest none None to = by_reporting (is_some (recipient a)) refl single
  where
    by_one : (xs : List Act) → xs ≡ a ∷ consumer_acts acts → IsOneTo c xs → ReportsUp n acts
    by_one _ same reports.nothing = absurd (let never : [] ≡ a ∷ consumer_acts acts = same in cc)
    by_one _ same (reports.one b to_c) =
        let empty : consumer_acts acts ≡ [] = (let h : b ∷ [] ≡ a ∷ consumer_acts acts = same in cc) in
        rest (subst (IsOneTo c) (sym empty) reports.nothing)

    by_reporting : (b : Bool) → is_some (recipient a) ≡ b → IsOneTo c (if b then a ∷ consumer_acts acts else consumer_acts acts) → ReportsUp n acts
    by_reporting true is one_to = by_one (a ∷ consumer_acts acts) refl one_to
    by_reporting false is one_to = rest one_to
up_alone a acts c n le single rest none (Some d) to = by_reporting (is_some (recipient a)) refl single
  where
    some_is : (m k : ℕ) → Some m ≡ Some k → m ≡ k
    some_is m k h = cc

    by_one : (xs : List Act) → xs ≡ a ∷ consumer_acts acts → IsOneTo c xs → (n ≤ d) × ReportsUp (d + 1) acts
    by_one _ same reports.nothing = absurd (let never : [] ≡ a ∷ consumer_acts acts = same in cc)
    by_one _ same (reports.one b to_c) =
        let here : b ≡ a = (let h : b ∷ [] ≡ a ∷ consumer_acts acts = same in cc) in
        let empty : consumer_acts acts ≡ [] = (let h : b ∷ [] ≡ a ∷ consumer_acts acts = same in cc) in
        let number : d ≡ c = some_is d c (sym (addressed_reported a d to) ∙ (sym (ap recipient here) ∙ to_c)) in
        (omega arith, subst (λ m. ReportsUp (m + 1) acts) (sym number) (none empty))

    by_reporting : (b : Bool) → is_some (recipient a) ≡ b → IsOneTo c (if b then a ∷ consumer_acts acts else consumer_acts acts) → (n ≤ d) ×
        ReportsUp (d + 1) acts
    by_reporting true is one_to = by_one (a ∷ consumer_acts acts) refl one_to
    by_reporting false is one_to =
        absurd (let yes : is_some (recipient a) ≡ true = ap is_some (addressed_reported a d to) in let never : true ≡ false = sym yes ∙ is in cc)

-- nobody is sent anything by acts that tell nobody
silent_by : (a : Act) (acts : List Act) (n : ℕ) → (consumer_acts acts ≡ [] → ReportsUp n acts) → (b : Bool) → is_some (recipient a) ≡ b →
    (if b then a ∷ consumer_acts acts else consumer_acts acts) ≡ [] → (o : Option ℕ) → addressee a ≡ o → UpBy o n (λ m. ReportsUp m acts)
silent_by a acts n rest true is none o to = absurd (let never : a ∷ consumer_acts acts ≡ [] = none in cc)
silent_by a acts n rest false is none None to = rest none
silent_by a acts n rest false is none (Some d) to =
    absurd (let yes : is_some (recipient a) ≡ true = ap is_some (addressed_reported a d to) in let never : true ≡ false = sym yes ∙ is in cc)

pub silent_up : (acts : List Act) (n : ℕ) → consumer_acts acts ≡ [] → ReportsUp n acts
silent_up [] n none = tt
silent_up (a ∷ acts) n none = silent_by a acts n (λ h. silent_up acts n h) (is_some (recipient a)) refl none (addressee a) refl

pub one_up : (acts : List Act) (c n : ℕ) → n ≤ c → IsOneTo c (consumer_acts acts) → ReportsUp n acts
one_up [] c n le single = tt
one_up (a ∷ acts) c n le single = up_alone a acts c n le single (λ o. one_up acts c n le o) (λ h. silent_up acts (c + 1) h) (addressee a) refl

-- POLLS, one after another

-- the entry is that of a poll of c for 16,384 bytes
pub record IsPollOf (limits : Limits) (p : Proxy) (e : Entry) (c : ℕ) : Type 0 where
  pub is_owed : IsOwed limits p.tables e
  pub event_is : e.event ≡ event.Poll c 16384
  pub now : e.now ≡ p.moment

-- Each of these is polled whose client was sent all, over a store that may fail.
pub data PollsBy (limits : Limits) (call : Called) : List ℕ → Proxy → Proxy → Type 0 where
  over : (p : Proxy) → PollsBy limits call [] p p
  skips : (c : ℕ) (cs : List ℕ) (p q : Proxy) → may_be_polled call p (p.holder c) ≡ false → PollsBy limits call cs p q → PollsBy limits call (c ∷ cs) p q
  polls : (c : ℕ) (cs : List ℕ) (p q : Proxy) (e : Entry) → may_be_polled call p (p.holder c) ≡ true → IsPollOf limits p e c →
      PollsBy limits call cs (with_entry e p) q → PollsBy limits call (c ∷ cs) p q

module _ (limits : Limits) (call : Called) where
  -- the tables are those of a run behind an entry that is owed, too
  pub entry_stands : (p : Proxy) (e : Entry) → Stands limits p → IsOwed limits p.tables e → e.now ≡ p.moment → Stands limits (with_entry e p)
  unfolding with_entry tables after
  entry_stands p e s o now = record {
    begins = s.begins;
    run = (s.run, subst (λ t. IsOwed limits t e) s.same o);
    same = ap (λ t. after t e) s.same;
    later = let at : (after p.tables e).moment ≡ e.now = moment_by p.tables e (is_denied e.acts) refl in omega arith;
  }

  reports_one : (p : Proxy) (e : Entry) (c : ℕ) → Stands limits p → IsPollOf limits p e c → IsOneTo c (consumer_acts e.acts)
  reports_one p e c s is =
      let run : IsRun limits p.setting.contents (e ∷ p.history) = (s.run, subst (λ t. IsOwed limits t e) s.same is.is_owed) in
      let law : AnswersBy e.event e.acts = reported_in_runs limits p.setting.contents (e ∷ p.history) s.begins run in
      (subst (λ ev. AnswersBy ev e.acts) is.event_is law).one

  -- what polls add to the acts of the turn
  pub record Adds (n : ℕ) (cs : List ℕ) (p q : Proxy) : Type 0 where
    pub more : List Act
    pub acts : acts_in q.part ≡ acts_in p.part ++ more
    pub up : ReportsUp n more
    pub polled : (c : ℕ) → IsReceived c more → (among c cs ≡ true) × (may_be_polled call p (p.holder c) ≡ true)
    pub stands : Stands limits q
    pub clients : q.client ≡ p.client
    pub holders : q.holder ≡ p.holder

  first_among : (c : ℕ) (cs : List ℕ) → among c (c ∷ cs) ≡ true
  first_among c cs = let one : nat_eq c c ≡ true = grind (arith, nat_tests) in rw one refl

  later_among : (d c : ℕ) (cs : List ℕ) → among d cs ≡ true → among d (c ∷ cs) ≡ true
  later_among d c cs h = either (nat_eq d c) (among d cs) h
    where
      either : (a b : Bool) → b ≡ true → (a || b) ≡ true
      either true b g = refl
      either false b g = g

  after_poll : (c n : ℕ) (cs : List ℕ) (p q : Proxy) (e : Entry) → n ≤ c → may_be_polled call p (p.holder c) ≡ true → Stands limits p →
      IsPollOf limits p e c → Adds (c + 1) cs (with_entry e p) q → Adds n (c ∷ cs) p q
  unfolding with_entry
  after_poll c n cs p q e le polled s is rest = record {
    more = e.acts ++ rest.more;
    acts = rest.acts ∙ append_assoc (acts_in p.part) e.acts rest.more;
    up = reports_both e.acts rest.more n (c + 1) (one_up e.acts c n le (reports_one p e c s is))
        (λ d reported. let same : d ≡ c = only_one e.acts c d (reports_one p e c s is) reported in omega arith) (omega arith) rest.up;
    polled = λ d reported. elim (reported_either e.acts rest.more d reported) as (λ _. (among d (c ∷ cs) ≡ true) × (may_be_polled call p (p.holder d) ≡ true)) [
      | inl first ↦ (let same : c ≡ d = sym (only_one e.acts c d (reports_one p e c s is) first) in
          (subst (λ m. among m (c ∷ cs) ≡ true) same (first_among c cs), subst (λ m. may_be_polled call p (p.holder m) ≡ true) same polled))
      | inr second ↦ (let r = rest.polled d second in (later_among d c cs r.0, may_stay d r.1))
    ];
    stands = rest.stands;
    clients = rest.clients;
    holders = rest.holders;
  }
    where
      may_by : (o : Option ℕ) → may_be_polled call (with_entry e p) o ≡ true → may_be_polled call p o ≡ true
      may_by None h = h
      may_by (Some k) h = h

      may_stay : (d : ℕ) → may_be_polled call (with_entry e p) ((with_entry e p).holder d) ≡ true → may_be_polled call p (p.holder d) ≡ true
      may_stay d h = may_by (p.holder d) h

  -- Polls in ascending order add acts that are sent in ascending order, to those alone that are polled.
  pub polls_add : (cs : List ℕ) (n : ℕ) (p q : Proxy) → Ascends n cs → Stands limits p → PollsBy limits call cs p q → Adds n cs p q
  polls_add _ n p _ up s (over _) = record {
    more = [];
    acts = sym (append-nil (acts_in p.part));
    up = tt;
    polled = λ c reported. absurd reported;
    stands = s;
    clients = refl;
    holders = refl;
  }
  polls_add _ n p q up s (skips c cs _ _ off rest) =
      let r = polls_add cs (c + 1) p q up.1 s rest in
      let le : n ≤ c = up.0 in
      record {
        more = r.more;
        acts = r.acts;
        up = reports_less r.more n (c + 1) (omega arith) r.up;
        polled = λ d reported. (later_among d c cs (r.polled d reported).0, (r.polled d reported).1);
        stands = r.stands;
        clients = r.clients;
        holders = r.holders;
      }
  polls_add _ n p q up s (polls c cs _ _ e may is rest) =
      after_poll c n cs p q e up.0 may s is (polls_add cs (c + 1) (with_entry e p) q up.1 (entry_stands p e s is.is_owed is.now) rest)
