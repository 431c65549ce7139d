-- Which exchanges the acts of a turn open: those behind the last one before it, and no others.
--
-- An accepted poll opens the next exchange or none, and no other event opens any. So each act of a turn that opens
-- opens one that is new in this turn, and counted behind it. A row of a connection to the origin is one of an
-- exchange that was opened. So no such row is replaced, and what it is owed stays as it was.
use Rattle.std.{proofs.{Common.{◌≡◌, ◌≤◌, ◌<◌, ℕ, ◌+◌, Bool, true, false, List, [], ◌∷◌, ◌++◌, Option, Some, None, refl, ap, sym, ◌∙◌, subst, arith}, lemmas.Bool.Decides.{nat_tests}}, specs.Prelude.{nat_eq, if◌then◌else◌, map, option_map}}
use Rattle.hc_effects.proofs.Vocabulary.{Opening, opening_in, is_denied, Act, Need, Event, Request, Limits, accepted_acts, answer_acts, poll_acts, loss_acts, close_acts, closing, Entry, Flaw, NoFlaw, Loses, Misreads, flaw_in, Move, Nothing, Asks, Opens, Shows, Gives, Ends, Fails, acts_of, poll_move, Tables, IsOwed, owed, Sound, after, opened_after, evicted, act, may_begin}
use Rattle.hc_event.specs.declared.event.Event.TheVariants as event
use Rattle.hc_model.specs.Moves as moves
use Rattle.hc_effects.proofs.{NumbersKeep.{opens_next}, Owed.{goes, acts_are, is_denial, IsDenied, denied}}
use Rattle.hc_wire.specs.Logs.{Called}
use Rattle.hc_proxy.specs.{Carrying.{acts_in, carried}, Handling.{begun}, Rows.{Upstream, Proxy, unused, Setting}, Steps.{with_entry, stepped}, Turns.{so_far, happened, turned, turned_by}}
use Rattle.hc_proxy.proofs.{Later.{OriginStays, carried_is_same, both_origins, origin_stays}, Stands.{Stands, stands_on, begins_turn, is_sound, owed_here, goes_on, turn_goes, unused_stands}, Turning.{IsKept, IsCarried, OpenOnly, happened_keeps, carried_keeps}}

-- LISTS OF ACTS

module _ (M : ℕ → Type 0) where
  pub open_both : (xs ys : List Act) → OpenOnly M xs → OpenOnly M ys → OpenOnly M (xs ++ ys)
  open_both [] ys a b = b
  open_both (act.Denied refusal ∷ xs) ys a b = open_both xs ys a b
  open_both (act.Opened x c need request ∷ xs) ys a b = (a.0, open_both xs ys a.1 b)
  open_both (act.Ask x ∷ xs) ys a b = open_both xs ys a b
  open_both (act.Close x ∷ xs) ys a b = open_both xs ys a b
  open_both (act.Shown c r why status fields lo hi ∷ xs) ys a b = open_both xs ys a b
  open_both (act.Given c x at bytes ∷ xs) ys a b = open_both xs ys a b
  open_both (act.Ended c ∷ xs) ys a b = open_both xs ys a b
  open_both (act.Failed c cause ∷ xs) ys a b = open_both xs ys a b
  open_both (act.Pending c wait ∷ xs) ys a b = open_both xs ys a b
  open_both (act.Lost r kind ∷ xs) ys a b = open_both xs ys a b
  open_both (act.Evicted r ∷ xs) ys a b = open_both xs ys a b

  pub evicts_open : (rs : List ℕ) → OpenOnly M (map act.Evicted rs)
  evicts_open [] = tt
  evicts_open (r ∷ rs) = evicts_open rs

  pub closes_open : (xs : List ℕ) → OpenOnly M (map act.Close xs)
  closes_open [] = tt
  closes_open (x ∷ xs) = closes_open xs

  pub lost_open : (flaw : Flaw) → OpenOnly M (loss_acts flaw)
  lost_open NoFlaw = tt
  lost_open (Loses r kind) = tt
  lost_open (Misreads r) = tt

  denied_open : (acts : List Act) → IsDenied acts → OpenOnly M acts
  denied_open _ (denied refusal) = tt

  move_open : (c : ℕ) (m : Move) → ((x : ℕ) (need : Need) (request : Request) → m ≡ Opens x need request → M x) → OpenOnly M (acts_of c m)
  move_open c Nothing may = tt
  move_open c (moves.Waits wait) may = tt
  move_open c (Asks x) may = tt
  move_open c (Opens x need request) may = (may x need request refl, tt)
  move_open c (Shows r why head lo hi) may = tt
  move_open c (Gives run) may = tt
  move_open c Ends may = tt
  move_open c (Fails why) may = tt

module _ (M N : ℕ → Type 0) (more : (x : ℕ) → M x → N x) where
  pub open_more : (acts : List Act) → OpenOnly M acts → OpenOnly N acts
  open_more [] a = tt
  open_more (act.Denied refusal ∷ xs) a = open_more xs a
  open_more (act.Opened x c need request ∷ xs) a = (more x a.0, open_more xs a.1)
  open_more (act.Ask x ∷ xs) a = open_more xs a
  open_more (act.Close x ∷ xs) a = open_more xs a
  open_more (act.Shown c r why status fields lo hi ∷ xs) a = open_more xs a
  open_more (act.Given c x at bytes ∷ xs) a = open_more xs a
  open_more (act.Ended c ∷ xs) a = open_more xs a
  open_more (act.Failed c cause ∷ xs) a = open_more xs a
  open_more (act.Pending c wait ∷ xs) a = open_more xs a
  open_more (act.Lost r kind ∷ xs) a = open_more xs a
  open_more (act.Evicted r ∷ xs) a = open_more xs a

-- AN ENTRY

-- what is opened first among these
abbrev IsFirst : List Act → ℕ → Type 0
IsFirst acts x = (o : Opening) × (opening_in acts ≡ Some o) × (o.x ≡ x)

module _ (limits : Limits) (t : Tables) (now : ℕ) where
  abbrev accepted : Event → Flaw → List Act
  accepted ev flaw = accepted_acts limits t now ev flaw

  outside_open : (ev : Event) (flaw : Flaw) →
      OpenOnly (IsFirst (accepted ev flaw)) (map act.Evicted (evicted limits t now ev) ++ (loss_acts flaw ++ close_acts t now ev flaw))
  outside_open ev flaw =
      open_both _ (map act.Evicted (evicted limits t now ev)) _ (evicts_open _ (evicted limits t now ev))
      (open_both _ (loss_acts flaw) _ (lost_open _ flaw)
      (closes_open _ (closing t (record { now = now; event = ev; acts = answer_acts t now ev flaw ++ loss_acts flaw }))))

  behind_open : (ev : Event) (flaw : Flaw) → OpenOnly (IsFirst (accepted ev flaw)) (close_acts t now ev flaw ++ loss_acts flaw)
  behind_open ev flaw =
      open_both _ (close_acts t now ev flaw) _
      (closes_open _ (closing t (record { now = now; event = ev; acts = answer_acts t now ev flaw ++ loss_acts flaw })))
      (lost_open _ flaw)

  poll_open : (c want : ℕ) (flaw : Flaw) → OpenOnly (IsFirst (accepted (event.Poll c want) flaw)) (poll_acts t now want c flaw)
  poll_open c want NoFlaw =
      move_open _ c (poll_move t now want c (t.consumer c))
      (λ x need request is. (
        record { x = x; c = c; need = need; request = request },
        ap (λ m. opening_in (acts_of c m ++ (close_acts t now (event.Poll c want) NoFlaw ++ []))) is,
        refl,
      ))
  poll_open c want (Loses r kind) =
      move_open _ c (poll_move t now want c (t.consumer c))
      (λ x need request is. (
        record { x = x; c = c; need = need; request = request },
        ap (λ m. opening_in (acts_of c m ++ (close_acts t now (event.Poll c want) (Loses r kind) ++ loss_acts (Loses r kind)))) is,
        refl,
      ))
  poll_open c want (Misreads r) = tt

  accepted_open : (ev : Event) (flaw : Flaw) → OpenOnly (IsFirst (accepted ev flaw)) (accepted ev flaw)
  accepted_open (event.Start c request) flaw = outside_open (event.Start c request) flaw
  accepted_open (event.Poll c want) flaw = open_both _ (poll_acts t now want c flaw) _ (poll_open c want flaw) (behind_open (event.Poll c want) flaw)
  accepted_open (event.Head x response) flaw = outside_open (event.Head x response) flaw
  accepted_open (event.Piece x bytes) flaw = outside_open (event.Piece x bytes) flaw
  accepted_open (event.End x) flaw = outside_open (event.End x) flaw
  accepted_open (event.Fault x) flaw = outside_open (event.Fault x) flaw
  accepted_open (event.Cancel c) flaw = behind_open (event.Cancel c) flaw
  accepted_open (event.Doom key) flaw = outside_open (event.Doom key) flaw

-- the next exchange, which is counted behind the entry
abbrev IsNext : Tables → Entry → ℕ → Type 0
IsNext t e x = (x ≡ t.opened + 1) × (x ≤ (after t e).opened)

first_counts : (n : ℕ) (p : Option Opening) (o : Opening) → p ≡ Some o → o.x ≤ opened_after p n
first_counts n None o is = absurd (let never : None ≡ Some o = is in cc)
first_counts n (Some q) o is = let same : q.x ≡ o.x = let one : q ≡ o = cc in ap (λ (z : Opening). z.x) one in omega arith

entry_opens : (limits : Limits) (t : Tables) (e : Entry) → Sound t → IsOwed limits t e → (b : Bool) → is_denied e.acts ≡ b → OpenOnly (IsNext t e) e.acts
unfolding after
entry_opens limits t e s is true deny = denied_open _ e.acts (is_denial e.acts deny)
entry_opens limits t e s is false taken =
    let acts = acts_are limits t e is taken in
    let all : OpenOnly (IsFirst e.acts) e.acts = subst (λ xs. OpenOnly (IsFirst xs) xs) (sym acts) (accepted_open limits t e.now e.event (flaw_in e.acts)) in
    open_more (IsFirst e.acts) (IsNext t e) next e.acts all
  where
    next : (x : ℕ) → IsFirst e.acts x → IsNext t e x
    next x f =
        let number : f.0.x ≡ t.opened + 1 =
        opens_next limits t e.now (flaw_in e.acts) s e.event f.0 (goes limits t e is taken) (ap opening_in (sym (acts_are limits t e is taken)) ∙ f.1) in
        let here : f.0.x ≡ x = f.2 in
        let counts : f.0.x ≤ opened_after (opening_in e.acts) t.opened = first_counts t.opened (opening_in e.acts) f.0 f.1 in
        (omega arith, rw taken (omega arith))

-- A TURN

-- all that the acts so far open is behind n
abbrev OpensFrom : ℕ → Proxy → Type 0
OpensFrom n p = OpenOnly (λ x. (n < x) × (x ≤ p.tables.opened)) (acts_in p.part)

record OpensOn (limits : Limits) (n : ℕ) (q : Proxy) : Type 0 where
  stands : Stands limits q
  from : n ≤ q.tables.opened
  opens : OpensFrom n q

abbrev OpensBehind : Limits → ℕ → Proxy → Proxy → Type 0
OpensBehind limits n p q = OpensOn limits n p → OpensOn limits n q

module _ (limits : Limits) (n : ℕ) where
  step_opens : (ev : Event) (p : Proxy) → OpensBehind limits n p (stepped limits ev p)
  unfolding with_entry
  step_opens ev p s =
      let goes_there = goes_on limits ev p s.stands in
      let grows : p.tables.opened ≤ (after p.tables (owed limits p.tables p.moment ev)).opened = goes_there.opened in
      let from : n ≤ p.tables.opened = s.from in
      record {
        stands = goes_there.stands;
        from = omega arith;
        opens =
            open_both _ (acts_in p.part) (owed limits p.tables p.moment ev).acts
            (open_more _ _ (λ x h. let low : n < x = h.0 in let high : x ≤ p.tables.opened = h.1 in (low, omega arith)) (acts_in p.part) s.opens)
            (open_more (IsNext p.tables (owed limits p.tables p.moment ev)) _ (λ x h. let is : x ≡ p.tables.opened + 1 = h.0 in (omega arith, h.1))
            (owed limits p.tables p.moment ev).acts
            (entry_opens limits p.tables (owed limits p.tables p.moment ev) (is_sound limits p s.stands) (owed_here limits ev p s.stands)
            (is_denied (owed limits p.tables p.moment ev).acts) refl));
      }

  opens_behind : IsKept limits (OpensBehind limits n)
  opens_behind = record {
    none = λ p s. s;
    both = λ p q r a b s. b (a s);
    comes = λ k p may s. record { stands = ((stands_on limits).comes k p may s.stands).stands; from = s.from; opens = s.opens };
    client = λ k change p is s. record { stands = ((stands_on limits).client k change p is s.stands).stands; from = s.from; opens = s.opens };
    origin = λ x change p is s. record { stands = ((stands_on limits).origin x change p is s.stands).stands; from = s.from; opens = s.opens };
    holder = λ c k p s. record { stands = ((stands_on limits).holder c k p s.stands).stands; from = s.from; opens = s.opens };
    steps = λ ev p s. step_opens ev p s;
  }

-- The acts of a turn open exchanges behind those before it, and these are counted behind it.
pub turn_opens : (limits : Limits) (dialled : List (Option ℕ)) (call : Called) (p : Proxy) → Stands limits p →
    (let h = happened limits dialled call (begun call p) in (p.tables.opened ≤ h.tables.opened) ×
    OpenOnly (λ x. (p.tables.opened < x) × (x ≤ h.tables.opened)) (acts_in h.part))
turn_opens limits dialled call p s =
    let at_first : OpensOn limits p.tables.opened (begun call p) = record { stands = (begins_turn limits call p s).stands; from = omega arith; opens = tt } in
    let there : OpensOn limits p.tables.opened (happened limits dialled call (begun call p)) =
    happened_keeps limits (OpensBehind limits p.tables.opened) (opens_behind limits p.tables.opened) dialled call (begun call p) at_first in
    (there.from, there.opens)

-- ROWS OF CONNECTIONS TO THE ORIGIN

-- each is of an exchange of these
abbrev KnownTo : ℕ → Proxy → Type 0
KnownTo n p = (x : ℕ) (u : Upstream) → p.upstream x ≡ Some u → x ≤ n

abbrev KnownOn : ℕ → Proxy → Proxy → Type 0
KnownOn n p q = KnownTo n p → KnownTo n q

changed_known : (n x : ℕ) (change : Upstream → Upstream) (b : Bool) (o : Option Upstream) → ((u : Upstream) → o ≡ Some u → x ≤ n) → (u : Upstream) →
    (if b then option_map change o else o) ≡ Some u → x ≤ n
changed_known n x change false o known u is = known u is
changed_known n x change true None known u is = absurd (let never : None ≡ Some u = is in cc)
changed_known n x change true (Some v) known u is = known v refl

opened_known : (n x y : ℕ) (new o : Option Upstream) → y ≤ n → (b : Bool) → nat_eq x y ≡ b → ((u : Upstream) → o ≡ Some u → x ≤ n) → (u : Upstream) →
    (if b then new else o) ≡ Some u → x ≤ n
opened_known n x y new o may false test known u is = known u is
opened_known n x y new o may true test known u is = let same : x ≡ y = grind (arith, nat_tests) in omega arith

module _ (limits : Limits) (n : ℕ) where
  step_known : (e : Entry) (p : Proxy) → KnownOn n p (with_entry e p)
  unfolding with_entry
  step_known e p known = known

  known_on : IsKept limits (KnownOn n)
  known_on = record {
    none = λ p known. known;
    both = λ p q r a b known. b (a known);
    comes = λ k p may known. known;
    client = λ k change p is known. known;
    origin = λ y change p is known x u row. changed_known n x change (nat_eq x y) (p.upstream x) (known x) u row;
    holder = λ c k p known. known;
    steps = λ ev p known. step_known _ p known;
  }

  known_out : IsCarried (λ x. x ≤ n) (KnownOn n)
  known_out = record {
    none = λ p known. known;
    both = λ p q r a b known. b (a known);
    answers = λ k a p known. known;
    opens = λ y request p may known x u row. opened_known n x y _ (p.upstream x) may (nat_eq x y) refl (known x) u row;
  }

-- The tables are those of a run, and each connection to the origin is of an exchange that was opened.
pub record StandsKnown (limits : Limits) (p : Proxy) : Type 0 where
  pub stands : Stands limits p
  pub known : (x : ℕ) (u : Upstream) → p.upstream x ≡ Some u → x ≤ p.tables.opened

-- So it is behind each turn, and what a connection to the origin is owed stays as it was.
module _ (limits : Limits) (dialled : List (Option ℕ)) (call : Called) (p : Proxy) (s : StandsKnown limits p) where
  abbrev h : Proxy
  h = happened limits (so_far p dialled) call (begun call p)

  opens_new : (p.tables.opened ≤ h.tables.opened) × OpenOnly (λ x. (p.tables.opened < x) × (x ≤ h.tables.opened)) (acts_in h.part)
  opens_new = turn_opens limits (so_far p dialled) call p s.stands

  known_here : KnownTo h.tables.opened (carried h)
  known_here =
      carried_keeps (λ x. x ≤ h.tables.opened) (KnownOn h.tables.opened) (known_out limits h.tables.opened) h
      (open_more _ _ (λ x f. f.1) (acts_in h.part) opens_new.1)
      (happened_keeps limits (KnownOn h.tables.opened) (known_on limits h.tables.opened) (so_far p dialled) call (begun call p)
      (λ x u row. let low : x ≤ p.tables.opened = s.known x u row in let grows : p.tables.opened ≤ h.tables.opened = opens_new.0 in omega arith))

  pub turn_knows : StandsKnown limits (turned limits dialled call p)
  unfolding turned
  turn_knows = record {
    stands = (turn_goes limits dialled call p s.stands).stands;
    known = λ x u row. subst (λ (t : Tables). x ≤ t.opened) (sym (carried_is_same h).tables) (known_here x u row);
  }

  pub origin_grows : (x : ℕ) → OriginStays x p (turned limits dialled call p)
  origin_grows x old row =
      let low : x ≤ p.tables.opened = s.known x old row in
      origin_stays limits x dialled call p
      (open_more _ _ (λ y f same. let high : p.tables.opened < y = f.0 in absurd (omega arith)) (acts_in h.part) opens_new.1)
      old row

pub unused_known : (limits : Limits) (c : Setting) → may_begin limits c.contents ≡ true → StandsKnown limits (unused c)
unused_known limits c begins = record { stands = unused_stands limits c begins; known = λ x u row. absurd (let never : None ≡ Some u = row in cc) }

-- Behind all turns.
pub turns_know : (limits : Limits) (dialled : List (Option ℕ)) (calls : List Called) (p : Proxy) → StandsKnown limits p →
    StandsKnown limits (turned_by limits dialled calls p)
turns_know limits dialled [] p s = s
turns_know limits dialled (call ∷ calls) p s = turns_know limits dialled calls (turned limits dialled call p) (turn_knows limits dialled call p s)

pub origin_grows_on : (limits : Limits) (dialled : List (Option ℕ)) (calls : List Called) (p : Proxy) → StandsKnown limits p → (x : ℕ) →
    OriginStays x p (turned_by limits dialled calls p)
origin_grows_on limits dialled [] p s x = λ old row. record { new = old; row = row; owed = refl }
origin_grows_on limits dialled (call ∷ calls) p s x =
    both_origins limits x p (turned limits dialled call p) (turned_by limits dialled calls (turned limits dialled call p))
    (origin_grows limits dialled call p s x)
    (origin_grows_on limits dialled calls (turned limits dialled call p) (turn_knows limits dialled call p s) x)
