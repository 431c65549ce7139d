-- Acts that are sent to different consumers each find their client.
--
-- An act that is sent to a consumer changes the row of its client alone, and no other act. The client of another
-- consumer is another one, since a client has one live consumer. So who is served before an act is served behind it, if
-- the act isn't for it. `act_keeps` goes by the acts, and `are_served` is the induction over those that tell in
-- ascending order.
use Rattle.std.{proofs.{Common.{◌≡◌, ◌⊎◌, inl, inr, ◌≤◌, ℕ, ◌+◌, List, [], ◌∷◌, Bool, true, false, Option, Some, None, refl, ap, sym, ◌∙◌, subst, arith}, lemmas.Bool.Decides.{nat_tests}}, specs.Prelude.{nat_eq}}
use Rattle.hc_text.proofs.Basics.{some_inj as some_is}
use Rattle.hc_effects.proofs.Vocabulary.{Act, act}
use Rattle.hc_wire.specs.Logs.{Called}
use Rattle.hc_proxy.specs.{Carrying.{answered, answers, carried_out}, Invariants.{IsHolder, IsServed, AreServed, addressee}, Rows.{Client, Proxy, with_client}}

-- this consumer is sent something by one of the acts
abbrev pub IsReceived : ℕ → List Act → Type 0
IsReceived c [] = ⊥
IsReceived c (a ∷ acts) = (addressee a ≡ Some c) ⊎ IsReceived c acts

-- From this number on, each consumer that is sent something stands before the next one.
abbrev pub UpBy : Option ℕ → ℕ → (ℕ → Type 0) → Type 0
UpBy None n Rest = Rest n
UpBy (Some c) n Rest = (n ≤ c) × Rest (c + 1)

abbrev pub ReportsUp : ℕ → List Act → Type 0
ReportsUp n [] = Unit {0}
ReportsUp n (a ∷ acts) = UpBy (addressee a) n (λ m. ReportsUp m acts)

received_by : (o : Option ℕ) (acts : List Act) (n c : ℕ) → UpBy o n (λ m. ReportsUp m acts) → (o ≡ Some c) ⊎ IsReceived c acts →
    ((m : ℕ) → ReportsUp m acts → IsReceived c acts → m ≤ c) → n ≤ c
received_by None acts n c up (inl is) rest = absurd (let never : None ≡ Some c = is in cc)
received_by None acts n c up (inr reported) rest = rest n up reported
received_by (Some d) acts n c up (inl is) rest = let same : d ≡ c = some_is d c is in let le : n ≤ d = up.0 in omega arith
received_by (Some d) acts n c up (inr reported) rest = let le : n ≤ d = up.0 in let on : d + 1 ≤ c = rest (d + 1) up.1 reported in omega arith

pub reported_from : (acts : List Act) (n c : ℕ) → ReportsUp n acts → IsReceived c acts → n ≤ c
reported_from [] n c up reported = absurd reported
reported_from (a ∷ acts) n c up reported = received_by (addressee a) acts n c up reported (λ m rest is. reported_from acts m c rest is)

module _ (call : Called) where
  -- ONE ACT

  -- the row at another connection stays
  apart : (p : Proxy) (k j : ℕ) (change : Client → Client) → nat_eq j k ≡ false → (with_client k change p).client j ≡ p.client j
  apart p k j change off = rw off refl

  -- for a consumer that isn't the one of this client
  other_client : (p : Proxy) (k c j d : ℕ) → IsHolder p k c → IsHolder p j d → nat_eq c d ≡ false → nat_eq j k ≡ false
  other_client p k c j d a b off = by_test (nat_eq j k) refl
    where
      by_test : (t : Bool) → nat_eq j k ≡ t → nat_eq j k ≡ false
      by_test false is = is
      by_test true is =
          let same : j ≡ k = grind (arith, nat_tests) in
          let rows : Some b.row ≡ Some a.row = sym b.at ∙ (ap p.client same ∙ a.at) in
          let row : b.row ≡ a.row = some_is b.row a.row rows in
          let who : Some d ≡ Some c = sym b.consumer ∙ (ap (λ (r : Client). r.consumer) row ∙ a.consumer) in
          let number : d ≡ c = some_is d c who in
          let yes : nat_eq c d ≡ true = grind (arith, nat_tests) in
          absurd (let never : true ≡ false = sym yes ∙ off in cc)

  moved : (p : Proxy) (k j d : ℕ) (change : Client → Client) → nat_eq j k ≡ false → IsServed call p j d → IsServed call (with_client k change p) j d
  moved p k j d change off s = record {
    holder = record { row = s.holder.row; at = apart p k j change off ∙ s.holder.at; here = s.holder.here; consumer = s.holder.consumer };
    held = s.held;
    all = s.all;
  }

  -- the act is for c, which is served; d is another
  answer_keeps : (p : Proxy) (a : Act) (k c j d : ℕ) → IsServed call p k c → IsServed call p j d → nat_eq c d ≡ false →
      IsServed call (answers (p.holder c) a p) j d
  answer_keeps p a k c j d served other off =
      subst (λ (o : Option ℕ). IsServed call (answers o a p) j d) (sym served.held)
      (moved p k j d (answered a) (other_client p k c j d served.holder other.holder off) other)

  -- and of an act for nobody
  pub act_keeps : (p : Proxy) (a : Act) (j d : ℕ) → ((c : ℕ) → addressee a ≡ Some c → ((k : ℕ) × IsServed call p k c) × (nat_eq c d ≡ false)) →
      IsServed call p j d → IsServed call (carried_out a p) j d
  act_keeps p (act.Denied refusal) j d reported s = s
  act_keeps p (act.Opened x c need request) j d reported s =
      record { holder = record { row = s.holder.row; at = s.holder.at; here = s.holder.here; consumer = s.holder.consumer }; held = s.held; all = s.all }
  act_keeps p (act.Ask x) j d reported s = s
  act_keeps p (act.Close x) j d reported s = s
  act_keeps p (act.Shown c r why status fields lo hi) j d reported s = let t = reported c refl in
      answer_keeps p (act.Shown c r why status fields lo hi) t.0.0 c j d t.0.1 s t.1
  act_keeps p (act.Given c x at bytes) j d reported s = let t = reported c refl in answer_keeps p (act.Given c x at bytes) t.0.0 c j d t.0.1 s t.1
  act_keeps p (act.Ended c) j d reported s = let t = reported c refl in answer_keeps p (act.Ended c) t.0.0 c j d t.0.1 s t.1
  act_keeps p (act.Failed c cause) j d reported s = let t = reported c refl in answer_keeps p (act.Failed c cause) t.0.0 c j d t.0.1 s t.1
  act_keeps p (act.Pending c wait) j d reported s = s
  act_keeps p (act.Lost r kind) j d reported s = s
  act_keeps p (act.Evicted r) j d reported s = s

  -- ALL OF THEM

  rest_served : (a : Act) (acts : List Act) (p : Proxy) (m : ℕ) → ReportsUp m acts → ((c : ℕ) → addressee a ≡ Some c → c + 1 ≤ m) →
      ((c : ℕ) → IsReceived c (a ∷ acts) → (k : ℕ) × IsServed call p k c) → (d : ℕ) → IsReceived d acts → (k : ℕ) × IsServed call (carried_out a p) k d
  rest_served a acts p m rest last all d reported =
      let old = all d (inr reported) in
      (old.0, act_keeps p a old.0 d (λ c to. (all c (inl to), apart_from c (last c to))) old.1)
    where
      apart_from : (c : ℕ) → c + 1 ≤ m → nat_eq c d ≡ false
      apart_from c lt = let le : m ≤ d = reported_from acts m d rest reported in grind (arith, nat_tests)

  by_addressee : (a : Act) (acts : List Act) (n : ℕ) (p : Proxy) →
      ((m : ℕ) → ReportsUp m acts → ((c : ℕ) → addressee a ≡ Some c → c + 1 ≤ m) → AreServed call (carried_out a p) acts) → (o : Option ℕ) →
      addressee a ≡ o → UpBy o n (λ m. ReportsUp m acts) → AreServed call (carried_out a p) acts
  by_addressee a acts n p go None to rest = go n rest (λ c at. absurd (let never : None ≡ Some c = sym to ∙ at in cc))
  by_addressee a acts n p go (Some d) to rest =
      go (d + 1) rest.1 (λ c at. let same : d ≡ c = some_is d c (sym to ∙ at) in omega arith)

  -- Acts that are sent to consumers in ascending order, each of which is served.
  pub are_served : (acts : List Act) (n : ℕ) (p : Proxy) → ReportsUp n acts → ((c : ℕ) → IsReceived c acts → (k : ℕ) × IsServed call p k c) →
      AreServed call p acts
  are_served [] n p up all = tt
  are_served (a ∷ acts) n p up all = (
    λ c to. all c (inl to),
    by_addressee a acts n p (λ m rest last. are_served acts m (carried_out a p) rest (rest_served a acts p m rest last all)) (addressee a) refl up,
  )
