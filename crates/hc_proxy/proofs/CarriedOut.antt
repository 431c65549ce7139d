-- Who waits at whom, while the acts of a turn are carried out.
--
-- Tables stay as they are then. An act that is sent to a consumer changes its client alone. If it is the last, that
-- client waits for nobody from then on, and the consumer is over: so nobody is missed. An act that is not the last
-- leaves its client to wait. Behind all acts each consumer that a client waits for is live: who was told that it is
-- over isn't waited for any more.
use Rattle.std.{proofs.{Common.{◌≡◌, ◌⊎◌, inl, inr, ℕ, List, [], ◌∷◌, ◌++◌, Bool, true, false, Option, Some, None, refl, ap, sym, ◌∙◌, subst, arith}, lemmas.Bool.Decides.{nat_tests}}, specs.Prelude.{◌||◌, nat_eq, length, if◌then◌else◌}}
use Rattle.hc_text.proofs.Basics.{or_cases, eq_itself as same_number, some_inj}
use Rattle.hc_effects.proofs.Vocabulary.{leaves_in, Act, is_live, Tables, act}
use Rattle.hc_peers.specs.{Renderings.{rendering, form_behind, is_last, closes}, declared.reply.Reply.{Reply}}
use Rattle.hc_proxy.specs.{Carrying.{answered, answers, carried_out, all_carried_out}, Invariants.{AreOver, IsHolder, HasConsumers}, Rows.{Client, Proxy, with_client}}
use Rattle.hc_proxy.proofs.Holders.{IsAlive, HeldBy, one_holder, one_held, IsChanged, changed_row, changed_here, changed_off}

-- THE CONSUMER THAT AN ACT IS SENT TO

abbrev pub sent_to : Act → Option ℕ
sent_to (act.Shown c r why status fields lo hi) = Some c
sent_to (act.Given c x at bytes) = Some c
sent_to (act.Ended c) = Some c
sent_to (act.Failed c cause) = Some c
sent_to _ = None

-- only the last act closes
closes_last : (reply : Reply) (a : Act) → closes reply a ≡ true → is_last a ≡ true
closes_last reply (act.Ended c) h = refl
closes_last reply (act.Failed c cause) h = refl
closes_last reply (act.Denied refusal) h = h
closes_last reply (act.Opened x c need request) h = h
closes_last reply (act.Ask x) h = h
closes_last reply (act.Close x) h = h
closes_last reply (act.Shown c r why status fields lo hi) h = h
closes_last reply (act.Given c x at bytes) h = h
closes_last reply (act.Pending c wait) h = h
closes_last reply (act.Lost r kind) h = h
closes_last reply (act.Evicted r) h = h

-- who leaves by these acts leaves by the first, which is its last, or by the others
leaves_by : (c : ℕ) (a : Act) (acts : List Act) → sent_to a ≡ Some c → (d : ℕ) → leaves_in d (a ∷ acts) ≡ true →
    (leaves_in d acts ≡ true) ⊎ ((is_last a ≡ true) × (c ≡ d))
leaves_by c (act.Ended b) acts to d h =
    elim (or_cases (nat_eq b d) (leaves_in d acts) h) [
      | inl here ↦ inr (refl, some_inj c b (sym to) ∙ (let same : b ≡ d = grind (arith, nat_tests) in same))
      | inr later ↦ inl later
    ]
leaves_by c (act.Failed b cause) acts to d h =
    elim (or_cases (nat_eq b d) (leaves_in d acts) h) [
      | inl here ↦ inr (refl, some_inj c b (sym to) ∙ (let same : b ≡ d = grind (arith, nat_tests) in same))
      | inr later ↦ inl later
    ]
leaves_by c (act.Shown b r why status fields lo hi) acts to d h = inl h
leaves_by c (act.Given b x at bytes) acts to d h = inl h
leaves_by c (act.Denied refusal) acts to d h = inl h
leaves_by c (act.Opened x b need request) acts to d h = inl h
leaves_by c (act.Ask x) acts to d h = inl h
leaves_by c (act.Close x) acts to d h = inl h
leaves_by c (act.Pending b wait) acts to d h = inl h
leaves_by c (act.Lost r kind) acts to d h = inl h
leaves_by c (act.Evicted r) acts to d h = inl h

pub last_leaves : (c : ℕ) (a : Act) (acts : List Act) → sent_to a ≡ Some c → is_last a ≡ true → leaves_in c (a ∷ acts) ≡ true
last_leaves c (act.Ended b) acts to last = ap (λ (n : ℕ). nat_eq b n || leaves_in n acts) (some_inj c b (sym to)) ∙ rw (same_number b) refl
last_leaves c (act.Failed b cause) acts to last = ap (λ (n : ℕ). nat_eq b n || leaves_in n acts) (some_inj c b (sym to)) ∙ rw (same_number b) refl
last_leaves c (act.Shown b r why status fields lo hi) acts to last = absurd (let never : false ≡ true = last in cc)
last_leaves c (act.Given b x at bytes) acts to last = absurd (let never : false ≡ true = last in cc)
last_leaves c (act.Denied refusal) acts to last = absurd (let never : false ≡ true = last in cc)
last_leaves c (act.Opened x b need request) acts to last = absurd (let never : false ≡ true = last in cc)
last_leaves c (act.Ask x) acts to last = absurd (let never : false ≡ true = last in cc)
last_leaves c (act.Close x) acts to last = absurd (let never : false ≡ true = last in cc)
last_leaves c (act.Pending b wait) acts to last = absurd (let never : false ≡ true = last in cc)
last_leaves c (act.Lost r kind) acts to last = absurd (let never : false ≡ true = last in cc)
last_leaves c (act.Evicted r) acts to last = absurd (let never : false ≡ true = last in cc)

-- who leaves by the others leaves by all
pub later_leaves : (d : ℕ) (a : Act) (acts : List Act) → leaves_in d acts ≡ true → leaves_in d (a ∷ acts) ≡ true
later_leaves d (act.Ended b) acts h = or_later (nat_eq b d) (leaves_in d acts) h
  where
    or_later : (x y : Bool) → y ≡ true → (x || y) ≡ true
    or_later true y g = refl
    or_later false y g = g
later_leaves d (act.Failed b cause) acts h = or_later (nat_eq b d) (leaves_in d acts) h
  where
    or_later : (x y : Bool) → y ≡ true → (x || y) ≡ true
    or_later true y g = refl
    or_later false y g = g
later_leaves d (act.Shown b r why status fields lo hi) acts h = h
later_leaves d (act.Given b x at bytes) acts h = h
later_leaves d (act.Denied refusal) acts h = h
later_leaves d (act.Opened x b need request) acts h = h
later_leaves d (act.Ask x) acts h = h
later_leaves d (act.Close x) acts h = h
later_leaves d (act.Pending b wait) acts h = h
later_leaves d (act.Lost r kind) acts h = h
later_leaves d (act.Evicted r) acts h = h

-- AN ACT THAT IS SENT

-- to the consumer that this client waits for
module _ (a : Act) (p : Proxy) (k c : ℕ) (w : IsHolder p k c) where
  abbrev q : Proxy
  q = with_client k (answered a) p

  -- its row behind the act
  abbrev reported : Client → Client
  reported r = record r {
    owed = r.owed ++ rendering r.reply a;
    before = length r.owed;
    reply = record r.reply { form = form_behind r.reply a };
    closing = r.closing || closes r.reply a;
    consumer = if is_last a then None else r.consumer;
  }

  reported_is : (r : Client) → r.gone ≡ false → answered a r ≡ reported r
  reported_is r here = rw here refl

  row_is : (r : Client) → p.client k ≡ Some r → r ≡ w.row
  row_is r at = some_inj r w.row (sym at ∙ w.at)

  -- the row of the client was this
  made : (j : ℕ) (r : Client) → IsChanged k (answered a) p j r → r ≡ reported w.row
  made j r z =
      let same : z.old ≡ w.row = row_is z.old (ap p.client (sym z.same) ∙ z.at) in
      z.is ∙ (ap (answered a) same ∙ reported_is w.row w.here)

  none_last : (b : Bool) (o : Option ℕ) (d : ℕ) → (if b then None else o) ≡ Some d → (b ≡ false) × (o ≡ Some d)
  none_last true o d is = absurd (let never : None ≡ Some d = is in cc)
  none_last false o d is = (refl, is)

  -- the client still waits for it, or it is another one
  pub back : (j d : ℕ) → IsHolder q j d → IsHolder p j d × ((is_last a ≡ false) ⊎ (j ≡ k → ⊥))
  back j d u = elim (changed_row k (answered a) p j u.row u.at) as (λ _. IsHolder p j d × ((is_last a ≡ false) ⊎ (j ≡ k → ⊥))) [
    | inr off ↦ (record { row = u.row; at = off.0; here = u.here; consumer = u.consumer }, inr off.1)
    | inl z ↦
        let still = none_last (is_last a) w.row.consumer d (ap (λ (r : Client). r.consumer) (sym (made j u.row z)) ∙ u.consumer) in
        (subst (λ (n : ℕ). IsHolder p n d) (sym z.same) (record { row = w.row; at = w.at; here = w.here; consumer = still.1 }), inl still.0)
  ]

  pub on : (j d : ℕ) → IsHolder p j d → (j ≡ k → ⊥) → IsHolder q j d
  on j d u other = record { row = u.row; at = changed_off k (answered a) p j other ∙ u.at; here = u.here; consumer = u.consumer }

  own : is_last a ≡ false → IsHolder q k c
  own more = record {
    row = reported w.row;
    at = changed_here k (answered a) p w.row w.at ∙ ap Some (reported_is w.row w.here);
    here = w.here;
    consumer =
        rw more w.consumer;
  }

-- where acts are still to be carried out behind it
module _ (a : Act) (acts : List Act) (p : Proxy) (k c : ℕ) (w : IsHolder p k c) (to : sent_to a ≡ Some c)
    (over : is_last a ≡ true → is_live (p.tables.consumer c) ≡ false) (h : HeldBy (a ∷ acts) p) where
  abbrev now : Proxy
  now = with_client k (answered a) p

  alive_now : (j d : ℕ) → IsHolder now j d → IsAlive acts now d
  alive_now j d u = by_alive (back a p k c w j d u).0 (back a p k c w j d u).1 (h.alive j d (back a p k c w j d u).0)
    where
      by_alive : IsHolder p j d → (is_last a ≡ false) ⊎ (j ≡ k → ⊥) → IsAlive (a ∷ acts) p d → IsAlive acts now d
      by_alive v which (inl on_now) = inl on_now
      by_alive v which (inr leaves) = elim (leaves_by c a acts to d leaves) as (λ _. IsAlive acts now d) [
        | inl later ↦ inr later
        | inr its ↦ absurd (elim which as (λ _. ⊥) [
          | inl more ↦ (let never : false ≡ true = sym more ∙ its.0 in cc)
          | inr other ↦ other (one_holder (a ∷ acts) p h j k c (subst (IsHolder p j) (sym its.1) v) w)
        ])
      ]

  live_now : (d : ℕ) → is_live (p.tables.consumer d) ≡ true → (j : ℕ) × IsHolder now j d
  live_now d lives = by_place (h.live d lives).0 (h.live d lives).1 (nat_eq (h.live d lives).0 k) refl
    where
      last_off : (b : Bool) → is_last a ≡ b → c ≡ d → is_last a ≡ false
      last_off false more same = more
      last_off true last same = absurd (let never : true ≡ false = sym lives ∙ (ap (λ (n : ℕ). is_live (p.tables.consumer n)) (sym same) ∙ over last) in cc)

      by_place : (j : ℕ) → IsHolder p j d → (b : Bool) → nat_eq j k ≡ b → (j : ℕ) × IsHolder now j d
      by_place j u false off = (j, on a p k c w j d u (λ same. let never : true ≡ false = sym (same_number j) ∙ (ap (nat_eq j) same ∙ off) in cc))
      by_place j u true here =
          let place_is : j ≡ k = grind (arith, nat_tests) in
          let same : c ≡ d = one_held p k c d w (subst (λ (n : ℕ). IsHolder p n d) place_is u) in
          (k, subst (IsHolder now k) same (own a p k c w (last_off (is_last a) refl same)))

  shut : (j : ℕ) (r : Client) → now.client j ≡ Some r → r.closing ≡ true → r.consumer ≡ None
  shut j r at closing = elim (changed_row k (answered a) p j r at) as (λ _. r.consumer ≡ None) [
    | inr off ↦ h.idle j r off.0 closing
    | inl z ↦
        let is = made a p k c w j r z in
        ap (λ (u : Client). u.consumer) is ∙ by_close (or_cases w.row.closing (closes w.row.reply a) (ap (λ (u : Client). u.closing) (sym is) ∙ closing))
  ]
    where
      by_close : (w.row.closing ≡ true) ⊎ (closes w.row.reply a ≡ true) → (if is_last a then None else w.row.consumer) ≡ None
      by_close (inr last) = let so : is_last a ≡ true = closes_last w.row.reply a last in rw so refl
      by_close (inl was) = absurd (let never : None ≡ Some c = sym (h.idle k w.row w.at was) ∙ w.consumer in cc)

  pub answer_keeps : HeldBy acts now
  answer_keeps = record {
    held = λ j d u. h.held j d (back a p k c w j d u).0;
    started = λ j d u. h.started j d (back a p k c w j d u).0;
    live = live_now;
    alive = alive_now;
    idle = shut;
  }

-- ALL OF THEM

-- each act that is sent to a consumer finds its client, behind the acts before it
abbrev pub AreFound : List Act → Proxy → Type 0
AreFound [] p = Unit {0}
AreFound (a ∷ acts) p = ((c : ℕ) → sent_to a ≡ Some c → (k : ℕ) × IsHolder p k c) × AreFound acts (carried_out a p)

-- an act that is sent to nobody
unsent_keeps : (a : Act) (acts : List Act) (p : Proxy) → ((d : ℕ) → leaves_in d (a ∷ acts) ≡ leaves_in d acts) → HeldBy (a ∷ acts) p → HeldBy acts p
unsent_keeps a acts p same h = record {
  held = h.held;
  started = h.started;
  live = h.live;
  alive = λ k c w. by_alive c (h.alive k c w);
  idle = h.idle;
}
  where
    by_alive : (c : ℕ) → IsAlive (a ∷ acts) p c → IsAlive acts p c
    by_alive c (inl on) = inl on
    by_alive c (inr leaves) = inr (sym (same c) ∙ leaves)

sent_keeps : (a : Act) (acts : List Act) (p : Proxy) (c : ℕ) → sent_to a ≡ Some c → ((d : ℕ) → sent_to a ≡ Some d → (k : ℕ) × IsHolder p k d) →
    AreOver (a ∷ acts) p → HeldBy (a ∷ acts) p → HeldBy acts (answers (p.holder c) a p)
sent_keeps a acts p c to found over h =
    let f = found c to in
    let at : p.holder c ≡ Some f.0 = h.held f.0 c f.1 in
    subst (λ (o : Option ℕ). HeldBy acts (answers o a p)) (sym at)
    (answer_keeps a acts p f.0 c f.1 to (λ last. over c (last_leaves c a acts to last)) h)

pub act_keeps : (a : Act) (acts : List Act) (p : Proxy) → ((c : ℕ) → sent_to a ≡ Some c → (k : ℕ) × IsHolder p k c) → AreOver (a ∷ acts) p →
    HeldBy (a ∷ acts) p → HeldBy acts (carried_out a p)
act_keeps (act.Shown c r why status fields lo hi) acts p found over h = sent_keeps (act.Shown c r why status fields lo hi) acts p c refl found over h
act_keeps (act.Given c x at bytes) acts p found over h = sent_keeps (act.Given c x at bytes) acts p c refl found over h
act_keeps (act.Ended c) acts p found over h = sent_keeps (act.Ended c) acts p c refl found over h
act_keeps (act.Failed c cause) acts p found over h = sent_keeps (act.Failed c cause) acts p c refl found over h
act_keeps (act.Opened x c need request) acts p found over h =
    let g = unsent_keeps (act.Opened x c need request) acts p (λ d. refl) h in
    record {
      held = λ j d u. g.held j d (record { row = u.row; at = u.at; here = u.here; consumer = u.consumer });
      started = λ j d u. g.started j d (record { row = u.row; at = u.at; here = u.here; consumer = u.consumer });
      live = λ d now. let u = g.live d now in (u.0, record { row = u.1.row; at = u.1.at; here = u.1.here; consumer = u.1.consumer });
      alive = λ j d u. g.alive j d (record { row = u.row; at = u.at; here = u.here; consumer = u.consumer });
      idle = g.idle;
    }
act_keeps (act.Denied refusal) acts p found over h = unsent_keeps (act.Denied refusal) acts p (λ d. refl) h
act_keeps (act.Ask x) acts p found over h = unsent_keeps (act.Ask x) acts p (λ d. refl) h
act_keeps (act.Close x) acts p found over h = unsent_keeps (act.Close x) acts p (λ d. refl) h
act_keeps (act.Pending c wait) acts p found over h = unsent_keeps (act.Pending c wait) acts p (λ d. refl) h
act_keeps (act.Lost r kind) acts p found over h = unsent_keeps (act.Lost r kind) acts p (λ d. refl) h
act_keeps (act.Evicted r) acts p found over h = unsent_keeps (act.Evicted r) acts p (λ d. refl) h

-- tables stay as they are
answers_same : (o : Option ℕ) (a : Act) (p : Proxy) → (answers o a p).tables ≡ p.tables
answers_same None a p = refl
answers_same (Some k) a p = refl

pub same_tables : (a : Act) (p : Proxy) → (carried_out a p).tables ≡ p.tables
same_tables (act.Shown c r why status fields lo hi) p = answers_same (p.holder c) (act.Shown c r why status fields lo hi) p
same_tables (act.Given c x at bytes) p = answers_same (p.holder c) (act.Given c x at bytes) p
same_tables (act.Ended c) p = answers_same (p.holder c) (act.Ended c) p
same_tables (act.Failed c cause) p = answers_same (p.holder c) (act.Failed c cause) p
same_tables (act.Opened x c need request) p = refl
same_tables (act.Denied refusal) p = refl
same_tables (act.Ask x) p = refl
same_tables (act.Close x) p = refl
same_tables (act.Pending c wait) p = refl
same_tables (act.Lost r kind) p = refl
same_tables (act.Evicted r) p = refl

pub over_later : (a : Act) (acts : List Act) (p : Proxy) → AreOver (a ∷ acts) p → AreOver acts (carried_out a p)
over_later a acts p over c leaves = ap (λ (t : Tables). is_live (t.consumer c)) (same_tables a p) ∙ over c (later_leaves c a acts leaves)

pub acts_keep : (acts : List Act) (p : Proxy) → AreFound acts p → AreOver acts p → HeldBy acts p → HeldBy [] (all_carried_out acts p)
acts_keep [] p found over h = h
acts_keep (a ∷ acts) p found over h = acts_keep acts (carried_out a p) found.1 (over_later a acts p over) (act_keeps a acts p found.0 over h)

pub all_live : (p : Proxy) → HeldBy [] p → (k c : ℕ) → IsHolder p k c → is_live (p.tables.consumer c) ≡ true
all_live p h k c w = elim (h.alive k c w) as (λ _. is_live (p.tables.consumer c) ≡ true)
    [ inl on ↦ on | inr leaves ↦ absurd (let never : false ≡ true = leaves in cc) ]

-- so it is between turns
pub rests_of : (p : Proxy) → HeldBy [] p → HasConsumers p
rests_of p h = record { held = h.held; started = h.started; live = h.live; alive = λ k c w. inl (all_live p h k c w); idle = h.idle }
