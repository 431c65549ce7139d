-- Each live consumer is that of a client: what entries and changes of clients keep of it.
--
-- An entry changes no client. Who is live behind it was live before, or starts by it. Who was live before is live
-- behind it, or is told by its acts that it is over, unless it is cancelled. So an entry keeps who holds whom, but for
-- a start and a cancel. A start goes with the client that asks for it: its number is new, so no other client holds it.
-- A cancel goes with the client that leaves: its consumer is over, and nobody else holds that.
use Rattle.std.{proofs.{Common.{◌≡◌, ◌⊎◌, inl, inr, ◌≤◌, ◌<◌, ℕ, ◌+◌, List, [], ◌∷◌, ◌++◌, Bool, true, false, Option, Some, None, refl, ap, sym, ◌∙◌, subst, arith}, lemmas.Bool.Decides.{nat_tests}}, specs.Prelude.{◌||◌, nat_eq, option_map, if◌then◌else◌}}
use Rattle.hc_text.proofs.Basics.{number_not as apart, or_left, or_right, eq_itself as same_number, some_inj}
use Rattle.hc_effects.proofs.Vocabulary.{leaves_in, Act, Event, Request, Limits, is_live, live, Entry, Lawful, IsOwed, after, act, event}
use Rattle.hc_head.specs.declared.message.MsgError.{MsgError}
use Rattle.hc_msg.specs.Reading.{Reading}
use Rattle.hc_effects.proofs.PieceKeeps.{eq_cases}
use Rattle.hc_peers.specs.declared.reply.Reply.{Reply}
use Rattle.hc_proxy.specs.{Carrying.{acts_in}, Handling.{left, client_sends}, Invariants.{IsHolder, HasConsumers}, Rows.{Client, Proxy, with_client}, Starts.{read_to, asks, with_holder, refused}, Steps.{with_entry}}
use Rattle.hc_laws.proofs.{Accepted.{starts_live}, LiveAfter.{Starts, was_live}, StaysLive.{stays_live}, WhoLeaves.{cancelled_over}}

-- WHO WAITS, where these acts are still to be carried out

abbrev pub IsAlive : List Act → Proxy → ℕ → Type 0
IsAlive acts p c = (is_live (p.tables.consumer c) ≡ true) ⊎ (leaves_in c acts ≡ true)

pub record HeldBy (acts : List Act) (p : Proxy) : Type 0 where
  pub held : (k c : ℕ) → IsHolder p k c → p.holder c ≡ Some k
  pub started : (k c : ℕ) → IsHolder p k c → c ≤ p.starts
  pub live : (c : ℕ) → is_live (p.tables.consumer c) ≡ true → (k : ℕ) × IsHolder p k c
  pub alive : (k c : ℕ) → IsHolder p k c → IsAlive acts p c
  pub idle : (k : ℕ) (r : Client) → p.client k ≡ Some r → r.closing ≡ true → r.consumer ≡ None

pub held_of : (p : Proxy) → HasConsumers p → HeldBy (acts_in p.part) p
held_of p h = record { held = h.held; started = h.started; live = h.live; alive = h.alive; idle = h.idle }

pub of_held : (p : Proxy) → HeldBy (acts_in p.part) p → HasConsumers p
of_held p h = record { held = h.held; started = h.started; live = h.live; alive = h.alive; idle = h.idle }

-- nobody is the consumer of two clients
pub one_holder : (acts : List Act) (p : Proxy) → HeldBy acts p → (j k c : ℕ) → IsHolder p j c → IsHolder p k c → j ≡ k
one_holder acts p h j k c a b = some_inj j k (sym (h.held j c a) ∙ h.held k c b)

-- and no client has two
pub one_held : (p : Proxy) (k c d : ℕ) → IsHolder p k c → IsHolder p k d → c ≡ d
one_held p k c d a b =
    let same : a.row ≡ b.row = some_inj a.row b.row (sym a.at ∙ b.at) in
    some_inj c d (sym a.consumer ∙ (ap (λ (r : Client). r.consumer) same ∙ b.consumer))

-- A CHANGE OF A CLIENT

-- the row that was changed
pub record IsChanged (k : ℕ) (change : Client → Client) (p : Proxy) (j : ℕ) (r : Client) : Type 0 where
  pub same : j ≡ k
  pub old : Client
  pub at : p.client j ≡ Some old
  pub is : r ≡ change old

pub changed_row : (k : ℕ) (change : Client → Client) (p : Proxy) (j : ℕ) (r : Client) → (with_client k change p).client j ≡ Some r →
    IsChanged k change p j r ⊎ ((p.client j ≡ Some r) × (j ≡ k → ⊥))
changed_row k change p j r is =
    elim (eq_cases j k) [
      | inl here ↦ inl (by_row (p.client j) refl here.1 (rw here.0 at is))
      | inr off ↦ inr (rw off.0 at is, off.1)
    ]
  where
    by_row : (o : Option Client) → p.client j ≡ o → j ≡ k → option_map change o ≡ Some r → IsChanged k change p j r
    by_row None at here made = absurd (let never : None ≡ Some r = made in cc)
    by_row (Some old) at here made = record { same = here; old = old; at = at; is = sym (some_inj (change old) r made) }

pub changed_here : (k : ℕ) (change : Client → Client) (p : Proxy) (r : Client) → p.client k ≡ Some r → (with_client k change p).client k ≡ Some (change r)
changed_here k change p r at = rw (same_number k, at) refl

pub changed_off : (k : ℕ) (change : Client → Client) (p : Proxy) (j : ℕ) → (j ≡ k → ⊥) → (with_client k change p).client j ≡ p.client j
changed_off k change p j other = rw (apart j k other) refl

-- one that keeps whom it waits for
pub record KeepsWho (r q : Client) : Type 0 where
  pub gone : q.gone ≡ r.gone
  pub consumer : q.consumer ≡ r.consumer
  pub shuts : q.closing ≡ true → (r.closing ≡ true) ⊎ (r.consumer ≡ None)

module _ (acts : List Act) (k : ℕ) (change : Client → Client) (p : Proxy) (keeps : (r : Client) → p.client k ≡ Some r → KeepsWho r (change r))
    (h : HeldBy acts p) where
  abbrev q : Proxy
  q = with_client k change p

  at_k : (j : ℕ) (r : Client) → j ≡ k → p.client j ≡ Some r → p.client k ≡ Some r
  at_k j r same at = ap p.client (sym same) ∙ at

  back : (j c : ℕ) → IsHolder q j c → IsHolder p j c
  back j c w = elim (changed_row k change p j w.row w.at) as (λ _. IsHolder p j c) [
    | inr off ↦ record { row = w.row; at = off.0; here = w.here; consumer = w.consumer }
    | inl z ↦
        let s = keeps z.old (at_k j z.old z.same z.at) in
        record {
          row = z.old;
          at = z.at;
          here = sym s.gone ∙ (ap (λ (r : Client). r.gone) (sym z.is) ∙ w.here);
          consumer = sym s.consumer ∙
              (ap (λ (r : Client). r.consumer) (sym z.is) ∙ w.consumer);
        }
  ]

  on : (j c : ℕ) → IsHolder p j c → IsHolder q j c
  on j c w = elim (eq_cases j k) as (λ _. IsHolder q j c) [
    | inr off ↦ record { row = w.row; at = changed_off k change p j off.1 ∙ w.at; here = w.here; consumer = w.consumer }
    | inl here ↦
        let s = keeps w.row (at_k j w.row here.1 w.at) in
        record {
          row = change w.row;
          at = ap q.client here.1 ∙ changed_here k change p w.row (at_k j w.row here.1 w.at);
          here = s.gone ∙ w.here;
          consumer = s.consumer ∙ w.consumer;
        }
  ]

  shut : (j : ℕ) (r : Client) → q.client j ≡ Some r → r.closing ≡ true → r.consumer ≡ None
  shut j r at closing = elim (changed_row k change p j r at) as (λ _. r.consumer ≡ None) [
    | inr off ↦ h.idle j r off.0 closing
    | inl z ↦ ap (λ (u : Client). u.consumer) z.is ∙
        ((keeps z.old (at_k j z.old z.same z.at)).consumer ∙
        by_old z.old z.at (keeps z.old (at_k j z.old z.same z.at)).shuts (ap (λ (u : Client). u.closing) (sym z.is) ∙ closing))
  ]
    where
      by_old : (old : Client) → p.client j ≡ Some old → ((change old).closing ≡ true → (old.closing ≡ true) ⊎ (old.consumer ≡ None)) →
          (change old).closing ≡ true → old.consumer ≡ None
      by_old old row shuts now = elim (shuts now) [ inl was ↦ h.idle j old row was | inr none ↦ none ]

  pub change_keeps : HeldBy acts q
  change_keeps = record {
    held = λ j c w. h.held j c (back j c w);
    started = λ j c w. h.started j c (back j c w);
    live = λ c is. let w = h.live c is in (w.0, on w.0 c w.1);
    alive = λ j c w. h.alive j c (back j c w);
    idle = shut;
  }

-- bytes come of it
pub sends_keep : (bytes : List ℕ) (r : Client) → KeepsWho r (client_sends bytes r)
sends_keep bytes r = by_test r.gone refl
  where
    by_test : (b : Bool) → r.gone ≡ b → KeepsWho r (if b then r else record r { input = r.input ++ bytes })
    by_test true is = record { gone = refl; consumer = refl; shuts = λ on. inl on }
    by_test false is = record { gone = refl; consumer = refl; shuts = λ on. inl on }

-- it is read
pub reads_keep : (reading : Reading) (rest : List ℕ) (r : Client) → KeepsWho r (read_to reading rest r)
reads_keep reading rest r = record { gone = refl; consumer = refl; shuts = λ on. inl on }

-- it is refused, where it waits for nothing
pub refused_keeps : (e : MsgError) (r : Client) → r.consumer ≡ None → KeepsWho r (refused e r)
refused_keeps e r none = record { gone = refl; consumer = refl; shuts = λ on. inr none }

-- AN ENTRY

pub leaves_append : (c : ℕ) (xs ys : List Act) → leaves_in c (xs ++ ys) ≡ (leaves_in c xs || leaves_in c ys)
leaves_append c [] ys = refl
leaves_append c (act.Ended d ∷ xs) ys = ended (nat_eq d c) (leaves_in c xs) (leaves_in c ys) (leaves_in c (xs ++ ys)) (leaves_append c xs ys)
  where
    ended : (a b d all : Bool) → all ≡ (b || d) → (a || all) ≡ ((a || b) || d)
    ended true b d all is = refl
    ended false b d all is = is
leaves_append c (act.Failed d cause ∷ xs) ys = failed (nat_eq d c) (leaves_in c xs) (leaves_in c ys) (leaves_in c (xs ++ ys)) (leaves_append c xs ys)
  where
    failed : (a b d all : Bool) → all ≡ (b || d) → (a || all) ≡ ((a || b) || d)
    failed true b d all is = refl
    failed false b d all is = is
leaves_append c (act.Denied refusal ∷ xs) ys = leaves_append c xs ys
leaves_append c (act.Opened x d need request ∷ xs) ys = leaves_append c xs ys
leaves_append c (act.Ask x ∷ xs) ys = leaves_append c xs ys
leaves_append c (act.Close x ∷ xs) ys = leaves_append c xs ys
leaves_append c (act.Shown d r why status fields lo hi ∷ xs) ys = leaves_append c xs ys
leaves_append c (act.Given d x at bytes ∷ xs) ys = leaves_append c xs ys
leaves_append c (act.Pending d wait ∷ xs) ys = leaves_append c xs ys
leaves_append c (act.Lost r kind ∷ xs) ys = leaves_append c xs ys
leaves_append c (act.Evicted r ∷ xs) ys = leaves_append c xs ys

module _ (limits : Limits) (p : Proxy) (e : Entry) (law : Lawful p.tables) (is : IsOwed limits p.tables e) where
  -- who was waited for is, or is told that it is over
  alive_behind : (c : ℕ) → (e.event ≡ event.Cancel c → ⊥) → IsAlive (acts_in p.part) p c → IsAlive (acts_in (with_entry e p).part) (with_entry e p) c
  unfolding with_entry
  alive_behind c other (inr reported) = inr (leaves_append c (acts_in p.part) e.acts ∙ or_left _ _ reported)
  alive_behind c other (inl was) = by_test (leaves_in c e.acts) refl
    where
      by_test : (b : Bool) → leaves_in c e.acts ≡ b → IsAlive (acts_in p.part ++ e.acts) (with_entry e p) c
      by_test true reported = inr (leaves_append c (acts_in p.part) e.acts ∙ or_right _ _ reported)
      by_test false stays = inl (stays_live p.tables e c other stays was)

  entry_back : (k c : ℕ) → IsHolder (with_entry e p) k c → IsHolder p k c
  unfolding with_entry
  entry_back k c w = record { row = w.row; at = w.at; here = w.here; consumer = w.consumer }

  entry_on : (k c : ℕ) → IsHolder p k c → IsHolder (with_entry e p) k c
  unfolding with_entry
  entry_on k c w = record { row = w.row; at = w.at; here = w.here; consumer = w.consumer }

  -- no start and no cancel, but a poll too
  pub entry_keeps : HasConsumers p → ((c : ℕ) → e.event ≡ event.Cancel c → ⊥) → ((c : ℕ) → Starts c e.event → ⊥) → HasConsumers (with_entry e p)
  unfolding with_entry
  entry_keeps h other new = record {
    held = λ k c w. h.held k c (entry_back k c w);
    started = λ k c w. h.started k c (entry_back k c w);
    live = λ c now. elim (was_live limits p.tables e law is c now) as (λ _. (k : ℕ) × IsHolder (with_entry e p) k c)
        [ inl was ↦ (let w = h.live c was in (w.0, entry_on w.0 c w.1)) | inr starts ↦ absurd (new c starts) ];
    alive = λ k c w. alive_behind c (other c) (h.alive k c (entry_back k c w));
    idle = h.idle;
  }

  -- A LEAVE

  -- of a client whose consumer is cancelled
  module _ (k c : ℕ) (w : IsHolder p k c) (at : e.event ≡ event.Cancel c) (h : HasConsumers p) where
    abbrev gone_now : Proxy
    gone_now = with_client k left (with_entry e p)

    left_back : (j d : ℕ) → IsHolder gone_now j d → IsHolder p j d × (j ≡ k → ⊥)
    unfolding with_entry
    left_back j d u = elim (changed_row k left (with_entry e p) j u.row u.at) as (λ _. IsHolder p j d × (j ≡ k → ⊥)) [
      | inr off ↦ (record { row = u.row; at = off.0; here = u.here; consumer = u.consumer }, off.1)
      | inl z ↦ absurd (let never : true ≡ false = ap (λ (r : Client). r.gone) (sym z.is) ∙ u.here in cc)
    ]

    left_on : (j d : ℕ) → IsHolder p j d → (j ≡ k → ⊥) → IsHolder gone_now j d
    unfolding with_entry
    left_on j d u other = record { row = u.row; at = changed_off k left (with_entry e p) j other ∙ u.at; here = u.here; consumer = u.consumer }

    -- it was another one's
    other_one : (j d : ℕ) → IsHolder p j d → (j ≡ k → ⊥) → d ≡ c → ⊥
    other_one j d u other same = other (one_holder (acts_in p.part) p (held_of p h) j k c (subst (IsHolder p j) same u) w)

    left_live : (d : ℕ) → is_live ((after p.tables e).consumer d) ≡ true → (j : ℕ) × IsHolder gone_now j d
    left_live d now = elim (was_live limits p.tables e law is d now) as (λ _. (j : ℕ) × IsHolder gone_now j d) [
      | inr starts ↦ absurd (subst (Starts d) at starts)
      | inl was ↦
          let u = h.live d was in
          (u.0, left_on u.0 d u.1 (λ same. over (one_held p k d c (subst (λ (n : ℕ). IsHolder p n d) same u.1) w)))
    ]
      where
        over : d ≡ c → ⊥
        over same = let never : true ≡ false = sym now ∙
            (ap (λ (n : ℕ). is_live ((after p.tables e).consumer n)) same ∙ cancelled_over limits p.tables e law is c at) in cc

    left_idle : (j : ℕ) (r : Client) → gone_now.client j ≡ Some r → r.closing ≡ true → r.consumer ≡ None
    unfolding with_entry
    left_idle j r row closing = elim (changed_row k left (with_entry e p) j r row) as (λ _. r.consumer ≡ None) [
      | inr off ↦ h.idle j r off.0 closing
      | inl z ↦ ap (λ (u : Client). u.consumer) z.is ∙ h.idle j z.old z.at (ap (λ (u : Client). u.closing) (sym z.is) ∙ closing)
    ]

    pub leave_keeps : HasConsumers gone_now
    unfolding with_entry
    leave_keeps = record {
      held = λ j d u. h.held j d (left_back j d u).0;
      started = λ j d u. h.started j d (left_back j d u).0;
      live = left_live;
      alive = λ j d u. let b = left_back j d u in alive_behind d (λ same. other_one j d b.0 b.1 (named d (sym at ∙ same))) (h.alive j d b.0);
      idle = left_idle;
    }
      where
        named : (d : ℕ) → event.Cancel c ≡ event.Cancel d → d ≡ c
        named d eq = sym (ap who eq)
          where
            who : Event → ℕ
            who (event.Cancel n) = n
            who _ = 0

  -- A START

  -- of a client that waits for nothing, by the next number
  module _ (k : ℕ) (r : Client) (request : Request) (reply : Reply) (row : p.client k ≡ Some r) (here : r.gone ≡ false) (none : r.consumer ≡ None)
      (unshut : r.closing ≡ false) (last : p.tables.last_start ≤ p.starts) (few : live p.tables < 1024)
      (at : e.event ≡ event.Start (p.starts + 1) request) (h : HasConsumers p) where
    abbrev c : ℕ
    c = p.starts + 1

    abbrev asked : Proxy
    asked = with_holder c k (with_client k (asks c reply) p)

    abbrev begun_now : Proxy
    begun_now = with_entry e asked

    own : IsHolder begun_now k c
    unfolding with_entry
    own = record { row = asks c reply r; at = changed_here k (asks c reply) p r row; here = here; consumer = refl }

    begun_on : (j d : ℕ) → IsHolder p j d → IsHolder begun_now j d
    unfolding with_entry
    begun_on j d u = record { row = u.row; at = changed_off k (asks c reply) p j other ∙ u.at; here = u.here; consumer = u.consumer }
      where
        other : j ≡ k → ⊥
        other same =
            let rows : u.row ≡ r = some_inj u.row r (sym u.at ∙ (ap p.client same ∙ row)) in
            let never : None ≡ Some d = sym none ∙ (ap (λ (z : Client). z.consumer) (sym rows) ∙ u.consumer) in cc

    -- it is that one, or it was before
    begun_back : (j d : ℕ) → IsHolder begun_now j d → ((j ≡ k) × (d ≡ c)) ⊎ (IsHolder p j d × (j ≡ k → ⊥))
    unfolding with_entry
    begun_back j d u = elim (changed_row k (asks c reply) p j u.row u.at) as (λ _. ((j ≡ k) × (d ≡ c)) ⊎ (IsHolder p j d × (j ≡ k → ⊥))) [
      | inr off ↦ inr (record { row = u.row; at = off.0; here = u.here; consumer = u.consumer }, off.1)
      | inl z ↦ inl (z.same, some_inj d c (sym u.consumer ∙ ap (λ (q : Client). q.consumer) z.is))
    ]

    new_row : p.tables.consumer c ≡ None
    new_row = law.sound.numbered.lists.new_consumers c (omega arith)

    older : (j d : ℕ) → IsHolder p j d → nat_eq d c ≡ false
    older j d u = let le : d ≤ p.starts = h.started j d u in grind (arith, nat_tests)

    begun_held : (j d : ℕ) → IsHolder begun_now j d → begun_now.holder d ≡ Some j
    unfolding with_entry
    begun_held j d u = elim (begun_back j d u) as (λ _. begun_now.holder d ≡ Some j) [
      | inl new ↦ let test : nat_eq d c ≡ true = (let same : d ≡ c = new.1 in grind (arith, nat_tests)) in rw test (ap Some (sym new.0))
      | inr old ↦ rw (older j d old.0) (h.held j d old.0)
    ]

    begun_started : (j d : ℕ) → IsHolder begun_now j d → d ≤ begun_now.starts
    unfolding with_entry
    begun_started j d u = elim (begun_back j d u) as (λ _. d ≤ c) [
      | inl new ↦ let same : d ≡ c = new.1 in omega arith
      | inr old ↦ let le : d ≤ p.starts = h.started j d old.0 in omega arith
    ]

    begun_live : (d : ℕ) → is_live ((after p.tables e).consumer d) ≡ true → (j : ℕ) × IsHolder begun_now j d
    begun_live d now = elim (was_live limits p.tables e law is d now) as (λ _. (j : ℕ) × IsHolder begun_now j d) [
      | inl was ↦ let u = h.live d was in (u.0, begun_on u.0 d u.1)
      | inr starts ↦ (k, subst (IsHolder begun_now k) (subst (Starts d) at starts) own)
    ]

    begun_alive : (j d : ℕ) → IsHolder begun_now j d → IsAlive (acts_in begun_now.part) begun_now d
    unfolding with_entry
    begun_alive j d u = elim (begun_back j d u) as (λ _. IsAlive (acts_in begun_now.part) begun_now d) [
      | inl new ↦ inl (ap (λ (n : ℕ). is_live ((after p.tables e).consumer n)) new.1 ∙
          starts_live limits p.tables e is c request at (omega arith) few new_row)
      | inr old ↦ alive_behind d (λ cancels. let never : event.Start c request ≡ event.Cancel d = sym at ∙ cancels in cc) (h.alive j d old.0)
    ]

    begun_idle : (j : ℕ) (z : Client) → begun_now.client j ≡ Some z → z.closing ≡ true → z.consumer ≡ None
    unfolding with_entry
    begun_idle j z is_row closing = elim (changed_row k (asks c reply) p j z is_row) as (λ _. z.consumer ≡ None) [
      | inr off ↦ h.idle j z off.0 closing
      | inl u ↦ absurd (let same : u.old ≡ r = some_inj u.old r (sym u.at ∙ (ap p.client u.same ∙ row)) in let never : false ≡ true = sym unshut ∙
          (ap (λ (q : Client). q.closing) (sym same) ∙ (ap (λ (q : Client). q.closing) (sym u.is) ∙ closing)) in cc)
    ]

    pub start_keeps : HasConsumers begun_now
    unfolding with_entry
    start_keeps = record { held = begun_held; started = begun_started; live = begun_live; alive = begun_alive; idle = begun_idle }

-- A LEAVE of a client that waits for nothing

module _ (k : ℕ) (r : Client) (p : Proxy) (row : p.client k ≡ Some r) (none : r.consumer ≡ None) (h : HasConsumers p) where
  abbrev idle_gone : Proxy
  idle_gone = with_client k left p

  idle_back : (j c : ℕ) → IsHolder idle_gone j c → IsHolder p j c
  idle_back j c u = elim (changed_row k left p j u.row u.at) as (λ _. IsHolder p j c) [
    | inr off ↦ record { row = u.row; at = off.0; here = u.here; consumer = u.consumer }
    | inl z ↦ absurd (let never : true ≡ false = ap (λ (z : Client). z.gone) (sym z.is) ∙ u.here in cc)
  ]

  idle_on : (j c : ℕ) → IsHolder p j c → IsHolder idle_gone j c
  idle_on j c u = record { row = u.row; at = changed_off k left p j other ∙ u.at; here = u.here; consumer = u.consumer }
    where
      other : j ≡ k → ⊥
      other same =
          let rows : u.row ≡ r = some_inj u.row r (sym u.at ∙ (ap p.client same ∙ row)) in
          let never : None ≡ Some c = sym none ∙ (ap (λ (z : Client). z.consumer) (sym rows) ∙ u.consumer) in cc

  idle_shut : (j : ℕ) (z : Client) → idle_gone.client j ≡ Some z → z.closing ≡ true → z.consumer ≡ None
  idle_shut j z at closing = elim (changed_row k left p j z at) as (λ _. z.consumer ≡ None) [
    | inr off ↦ h.idle j z off.0 closing
    | inl u ↦ ap (λ (v : Client). v.consumer) u.is ∙ h.idle j u.old u.at (ap (λ (v : Client). v.closing) (sym u.is) ∙ closing)
  ]

  pub idle_leave_keeps : HasConsumers idle_gone
  idle_leave_keeps = record {
    held = λ j c w. h.held j c (idle_back j c w);
    started = λ j c w. h.started j c (idle_back j c w);
    live = λ c is. let w = h.live c is in (w.0, idle_on w.0 c w.1);
    alive = λ j c w. h.alive j c (idle_back j c w);
    idle = idle_shut;
  }
