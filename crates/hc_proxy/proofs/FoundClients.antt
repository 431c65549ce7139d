-- Each act of a turn that is sent to a consumer finds its client, behind the acts before it.
--
-- Before the polls nothing is sent. A poll tells one thing at most, and its consumer alone. The acts of the polls
-- before are sent to others, whose clients are others: so its client still waits for it when its own act is carried
-- out. `waits_on` is of the acts for others, `one_found` of those of one poll, `quiet_found` of those before the polls.
use Rattle.std.{proofs.Common.{◌≡◌, ℕ, List, [], ◌∷◌, ◌++◌, true, false, Option, Some, None, refl, ap, sym, ◌∙◌, subst}, specs.Prelude.{is_some, if◌then◌else◌}}
use Rattle.hc_effects.proofs.Vocabulary.{Act, recipient, consumer_acts, IsOneTo, act}
use Rattle.hc_proxy.specs.{Carrying.{answered, answers, carried_out, all_carried_out}, Invariants.{IsHolder}, Rows.{Client, Proxy, changed}}
use Rattle.hc_proxy.proofs.{CarriedOut.{sent_to, AreFound, back, on}, Holders.{one_held}, PolledAlone.{AreTo, one_first}, QuietActs.{AreQuiet}}

-- WHO IS SENT SOMETHING is told something

pub sent_reported : (a : Act) (c : ℕ) → sent_to a ≡ Some c → recipient a ≡ Some c
sent_reported (act.Shown d r why status fields lo hi) c h = h
sent_reported (act.Given d x at bytes) c h = h
sent_reported (act.Ended d) c h = h
sent_reported (act.Failed d cause) c h = h
sent_reported (act.Denied refusal) c h = absurd (let never : None ≡ Some c = h in cc)
sent_reported (act.Opened x d need request) c h = absurd (let never : None ≡ Some c = h in cc)
sent_reported (act.Ask x) c h = absurd (let never : None ≡ Some c = h in cc)
sent_reported (act.Close x) c h = absurd (let never : None ≡ Some c = h in cc)
sent_reported (act.Pending d wait) c h = absurd (let never : None ≡ Some c = h in cc)
sent_reported (act.Lost r kind) c h = absurd (let never : None ≡ Some c = h in cc)
sent_reported (act.Evicted r) c h = absurd (let never : None ≡ Some c = h in cc)

-- none of these acts is sent to c
abbrev pub AreNotTo : ℕ → List Act → Type 0
AreNotTo c [] = Unit {0}
AreNotTo c (a ∷ acts) = (sent_to a ≡ Some c → ⊥) × AreNotTo c acts

pub not_to_both : (c : ℕ) (xs ys : List Act) → AreNotTo c xs → AreNotTo c ys → AreNotTo c (xs ++ ys)
not_to_both c [] ys a b = b
not_to_both c (x ∷ xs) ys a b = (a.0, not_to_both c xs ys a.1 b)

-- those of another's poll
pub others_not : (c d : ℕ) (acts : List Act) → (c ≡ d → ⊥) → AreTo d acts → AreNotTo c acts
others_not c d [] other to = tt
others_not c d (a ∷ acts) other to = (λ sent. other (to.0 c (sent_reported a c sent)), others_not c d acts other to.1)

pub quiet_not : (c : ℕ) (acts : List Act) → AreQuiet acts → AreNotTo c acts
quiet_not c [] quiet = tt
quiet_not c (act.Denied refusal ∷ acts) quiet = (λ sent. let never : None ≡ Some c = sent in cc, quiet_not c acts quiet)
quiet_not c (act.Close x ∷ acts) quiet = (λ sent. let never : None ≡ Some c = sent in cc, quiet_not c acts quiet)
quiet_not c (act.Lost r kind ∷ acts) quiet = (λ sent. let never : None ≡ Some c = sent in cc, quiet_not c acts quiet)
quiet_not c (act.Evicted r ∷ acts) quiet = (λ sent. let never : None ≡ Some c = sent in cc, quiet_not c acts quiet)
quiet_not c (act.Opened x d need request ∷ acts) quiet = absurd (let never : false ≡ true = quiet in cc)
quiet_not c (act.Ask x ∷ acts) quiet = absurd (let never : false ≡ true = quiet in cc)
quiet_not c (act.Shown d r why status fields lo hi ∷ acts) quiet = absurd (let never : false ≡ true = quiet in cc)
quiet_not c (act.Given d x at bytes ∷ acts) quiet = absurd (let never : false ≡ true = quiet in cc)
quiet_not c (act.Ended d ∷ acts) quiet = absurd (let never : false ≡ true = quiet in cc)
quiet_not c (act.Failed d cause ∷ acts) quiet = absurd (let never : false ≡ true = quiet in cc)
quiet_not c (act.Pending d wait ∷ acts) quiet = absurd (let never : false ≡ true = quiet in cc)

-- WHERE TABLES DIFFER IN NEITHER CLIENTS NOR HOLDERS

abbrev pub answered_clients : Option ℕ → Act → (ℕ → Option Client) → ℕ → Option Client
answered_clients None a rows = rows
answered_clients (Some k) a rows = changed k (answered a) rows

abbrev pub sent_clients : Option ℕ → Act → (ℕ → Option ℕ) → (ℕ → Option Client) → ℕ → Option Client
sent_clients None a holders rows = rows
sent_clients (Some c) a holders rows = answered_clients (holders c) a rows

answers_are : (o : Option ℕ) (a : Act) (p : Proxy) → (answers o a p).client ≡ answered_clients o a p.client
answers_are None a p = refl
answers_are (Some k) a p = refl

pub clients_are : (a : Act) (p : Proxy) → (carried_out a p).client ≡ sent_clients (sent_to a) a p.holder p.client
clients_are (act.Shown c r why status fields lo hi) p = answers_are (p.holder c) (act.Shown c r why status fields lo hi) p
clients_are (act.Given c x at bytes) p = answers_are (p.holder c) (act.Given c x at bytes) p
clients_are (act.Ended c) p = answers_are (p.holder c) (act.Ended c) p
clients_are (act.Failed c cause) p = answers_are (p.holder c) (act.Failed c cause) p
clients_are (act.Denied refusal) p = refl
clients_are (act.Opened x c need request) p = refl
clients_are (act.Ask x) p = refl
clients_are (act.Close x) p = refl
clients_are (act.Pending c wait) p = refl
clients_are (act.Lost r kind) p = refl
clients_are (act.Evicted r) p = refl

answers_holder : (o : Option ℕ) (a : Act) (p : Proxy) → (answers o a p).holder ≡ p.holder
answers_holder None a p = refl
answers_holder (Some k) a p = refl

pub holders_stay : (a : Act) (p : Proxy) → (carried_out a p).holder ≡ p.holder
holders_stay (act.Shown c r why status fields lo hi) p = answers_holder (p.holder c) (act.Shown c r why status fields lo hi) p
holders_stay (act.Given c x at bytes) p = answers_holder (p.holder c) (act.Given c x at bytes) p
holders_stay (act.Ended c) p = answers_holder (p.holder c) (act.Ended c) p
holders_stay (act.Failed c cause) p = answers_holder (p.holder c) (act.Failed c cause) p
holders_stay (act.Denied refusal) p = refl
holders_stay (act.Opened x c need request) p = refl
holders_stay (act.Ask x) p = refl
holders_stay (act.Close x) p = refl
holders_stay (act.Pending c wait) p = refl
holders_stay (act.Lost r kind) p = refl
holders_stay (act.Evicted r) p = refl

holder_alike : (p q : Proxy) → q.client ≡ p.client → (k c : ℕ) → IsHolder p k c → IsHolder q k c
holder_alike p q same k c w = record { row = w.row; at = ap (λ (f : ℕ → Option Client). f k) same ∙ w.at; here = w.here; consumer = w.consumer }

pub found_alike : (acts : List Act) (p q : Proxy) → q.client ≡ p.client → q.holder ≡ p.holder → AreFound acts p → AreFound acts q
found_alike [] p q clients holders found = tt
found_alike (a ∷ acts) p q clients holders found =
    let rows : (carried_out a q).client ≡ (carried_out a p).client =
    clients_are a q
    ∙ (ap (λ (f : ℕ → Option Client). sent_clients (sent_to a) a q.holder f) clients
    ∙ (ap (λ (g : ℕ → Option ℕ). sent_clients (sent_to a) a g p.client) holders ∙ sym (clients_are a p))) in
    let names : (carried_out a q).holder ≡ (carried_out a p).holder = holders_stay a q ∙ (holders ∙ sym (holders_stay a p)) in
    (λ c sent. let f = found.0 c sent in (f.0, holder_alike p q clients f.0 c f.1), found_alike acts (carried_out a p) (carried_out a q) rows names found.1)

-- ACTS BEFORE

-- who is waited for has its client
abbrev pub AreNamed : Proxy → Type 0
AreNamed p = (k c : ℕ) → IsHolder p k c → p.holder c ≡ Some k

-- an act that is sent to nobody changes no client
unsent_same : (a : Act) (p : Proxy) → sent_to a ≡ None → (carried_out a p).client ≡ p.client
unsent_same a p none = clients_are a p ∙ ap (λ (o : Option ℕ). sent_clients o a p.holder p.client) none

-- one that is sent changes that of its consumer
sent_same : (a : Act) (p : Proxy) (j d : ℕ) → sent_to a ≡ Some d → p.holder d ≡ Some j → (carried_out a p).client ≡ changed j (answered a) p.client
sent_same a p j d sent at =
    clients_are a p
    ∙ (ap (λ (o : Option ℕ). sent_clients o a p.holder p.client) sent ∙ ap (λ (o : Option ℕ). answered_clients o a p.client) at)

module _ (a : Act) (p : Proxy) (found : (c : ℕ) → sent_to a ≡ Some c → (k : ℕ) × IsHolder p k c) (named : AreNamed p) where
  -- no client waits for another one behind an act
  act_named : AreNamed (carried_out a p)
  act_named k c w = ap (λ (f : ℕ → Option ℕ). f c) (holders_stay a p) ∙ named k c (was (sent_to a) refl)
    where
      was : (o : Option ℕ) → sent_to a ≡ o → IsHolder p k c
      was None none = holder_alike (carried_out a p) p (sym (unsent_same a p none)) k c w
      was (Some d) sent =
          let f = found d sent in
          let rows = sent_same a p f.0 d sent (named f.0 d f.1) in
          (back a p f.0 d f.1 k c (record { row = w.row; at = sym (ap (λ (g : ℕ → Option Client). g k) rows) ∙ w.at; here = w.here; consumer = w.consumer })).0

  -- to another one leaves the client to wait
  act_waits : (k c : ℕ) → (sent_to a ≡ Some c → ⊥) → IsHolder p k c → IsHolder (carried_out a p) k c
  act_waits k c other w = by_sent (sent_to a) refl
    where
      by_sent : (o : Option ℕ) → sent_to a ≡ o → IsHolder (carried_out a p) k c
      by_sent None none = holder_alike p (carried_out a p) (unsent_same a p none) k c w
      by_sent (Some d) sent =
          let f = found d sent in
          let rows = sent_same a p f.0 d sent (named f.0 d f.1) in
          let u = on a p f.0 d f.1 k c w (λ same. other (sent ∙ ap Some (one_held p k d c (subst (λ (n : ℕ). IsHolder p n d) (sym same) f.1) w))) in
          record { row = u.row; at = ap (λ (g : ℕ → Option Client). g k) rows ∙ u.at; here = u.here; consumer = u.consumer }

-- behind acts that are sent to others it waits on
waits_on : (acts : List Act) (p : Proxy) (k c : ℕ) → AreFound acts p → AreNamed p → AreNotTo c acts → IsHolder p k c → IsHolder (all_carried_out acts p) k c
waits_on [] p k c found named others w = w
waits_on (a ∷ acts) p k c found named others w =
    waits_on acts (carried_out a p) k c found.1 (act_named a p found.0 named) others.1 (act_waits a p found.0 named k c others.0 w)

found_both : (xs ys : List Act) (p : Proxy) → AreFound xs p → AreFound ys (all_carried_out xs p) → AreFound (xs ++ ys) p
found_both [] ys p a b = b
found_both (x ∷ xs) ys p a b = (a.0, found_both xs ys (carried_out x p) a.1 b)

-- THE ACTS OF A POLL

unreported_found : (acts : List Act) (p : Proxy) → consumer_acts acts ≡ [] → AreFound acts p
unreported_found [] p none = tt
unreported_found (a ∷ acts) p none = by_reported (recipient a) refl (unreported_found acts (carried_out a p)) none
  where
    by_reported : (o : Option ℕ) → recipient a ≡ o → (consumer_acts acts ≡ [] → AreFound acts (carried_out a p)) →
        (if is_some o then a ∷ consumer_acts acts else consumer_acts acts) ≡ [] → AreFound (a ∷ acts) p
    by_reported None at later rest = (λ c sent. absurd (let never : None ≡ Some c = sym at ∙ sent_reported a c sent in cc), later rest)
    by_reported (Some d) at later rest = absurd (let never : (a ∷ consumer_acts acts) ≡ [] = rest in cc)

none_sent : (a : Act) → recipient a ≡ None → (o : Option ℕ) → sent_to a ≡ o → sent_to a ≡ None
none_sent a none None sent = sent
none_sent a none (Some d) sent = absurd (let never : None ≡ Some d = sym none ∙ sent_reported a d sent in cc)

one_found : (acts : List Act) (p : Proxy) (k c : ℕ) → IsOneTo c (consumer_acts acts) → IsHolder p k c → AreFound acts p
one_found [] p k c is w = tt
one_found (a ∷ acts) p k c is w = by_reported (recipient a) refl (one_found acts (carried_out a p) k c) is
  where
    some_is : (d : ℕ) → recipient a ≡ Some c → recipient a ≡ Some d → c ≡ d
    some_is d x y = let same : Some c ≡ Some d = sym x ∙ y in cc

    by_reported : (o : Option ℕ) → recipient a ≡ o → (IsOneTo c (consumer_acts acts) → IsHolder (carried_out a p) k c → AreFound acts (carried_out a p)) →
        IsOneTo c (if is_some o then a ∷ consumer_acts acts else consumer_acts acts) → AreFound (a ∷ acts) p
    by_reported None at later rest = (
      λ d sent. absurd (let never : None ≡ Some d = sym at ∙ sent_reported a d sent in cc),
      later rest (holder_alike p (carried_out a p) (unsent_same a p (none_sent a at (sent_to a) refl)) k c w),
    )
    by_reported (Some d) at later rest =
        let first = one_first c a (consumer_acts acts) rest in
        (λ b sent. (k, subst (IsHolder p k) (some_is b first.0 (sent_reported a b sent)) w), unreported_found acts (carried_out a p) first.1)

-- Before the polls nothing is sent.
pub quiet_found : (acts : List Act) (p : Proxy) → ((c : ℕ) → AreNotTo c acts) → AreFound acts p
quiet_found [] p none = tt
quiet_found (a ∷ acts) p none = (λ c sent. absurd ((none c).0 sent), quiet_found acts (carried_out a p) (λ c. (none c).1))
