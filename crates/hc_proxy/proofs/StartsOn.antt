-- The step *starts*, in the code and in the definitions.
--
-- The code goes through those clients alone whose next request is to be read, in ascending order. The others of the
-- definitions are passed over there. What is done for one changes no other, so the list of the code has just those that
-- are left. `starts_next` and `starts_end` are the loop of the code, `starts_stop` is where nobody is left.
use Rattle.std.{proofs.{Common.{◌≡◌, ◌≤◌, ℕ, Bool, true, false, List, [], ◌∷◌, Option, Some, None, refl, ap, sym, ◌∙◌, subst, arith}, lemmas.List.Kept.{IsStrictlySortedBy-filter}, Math.{Bridge.{le_prop}, Logic.{∥∥₁_elim}}}, specs.{Prelude.{not, length, Contains, IsSome, ◌↔◌}, List.Sorted.{IsStrictlySortedBy}, Ordering.{nat_cmp}}}
use Rattle.hc_core.specs.Steps.{faults_in}
use Rattle.hc_peers.specs.{Agreement.{ready_at}, Clients.{client_of, ready_of}}
use Rattle.hc_peers.specs.declared.client.Client as peer
use Rattle.hc_store.specs.declared.backend.Backend.{Ghosts}
use Rattle.hc_proxy.specs.declared.proxy.Proxy as loop
use Rattle.hc_proxy.specs.{Connections.{taken_at}, Handling.{is_client, clients_here}, Keeping.{Turn, IsClientAt, HasClients, KeepsHeard, IsHeard, Goes, first_ready}, Rows.{Client, Proxy}, Starts.{each_heard, started_all}}
use Rattle.hc_proxy.proofs.{IdleClients.{IsUnready, ready_by, started_one, unready_skipped, starts_are_each}, Marked.{sorted_ascends, among_passes, passed_among, among_contained, contained_among, ready_among}, Rows.{client_here, readies}, SkippedSteps.{among, same_each}}

module _ {B : Type 0} {g : Ghosts B} where
  -- WHO IS HERE

  module _ (t : Turn) (x : loop.Proxy B g) (p : Proxy) (h : HasClients t x p) where
    -- a row of the code is one of a client that is here
    pub record IsHere (k : ℕ) : Type 0 where
      pub row : Client
      pub at : p.client k ≡ Some row
      pub here : row.gone ≡ false

    here_by : (k : ℕ) (o : Option peer.Client) (r : Option Client) → IsClientAt (taken_at t.call k) o r → p.client k ≡ r → IsSome o → IsHere k
    here_by k None r is at there = absurd (let never : false ≡ true = there in cc)
    here_by k (Some c) None is at there = absurd is
    here_by k (Some c) (Some row) is at there = record { row = row; at = at; here = is.here }

    here_of : (k : ℕ) → IsSome (client_of x.clients k) → IsHere k
    here_of k there = here_by k (client_of x.clients k) (p.client k) (h.rows k) refl there

    client_by : (k : ℕ) (r : Option Client) → p.client k ≡ r → is_client r ≡ true → IsHere k
    client_by k None at on = absurd (let never : false ≡ true = on in cc)
    client_by k (Some row) at on = record { row = row; at = at; here = not_gone row.gone on }
      where
        not_gone : (b : Bool) → not b ≡ true → b ≡ false
        not_gone true off = absurd (let never : false ≡ true = off in cc)
        not_gone false off = refl

    there_by : (k : ℕ) → IsHere k → IsSome (client_of x.clients k)
    there_by k w = let q = client_here t x p h k w.row w.at w.here in subst IsSome (sym q.1) refl

    is_here : (k : ℕ) → IsHere k → is_client (p.client k) ≡ true
    is_here k w = rw (w.at, w.here) refl

    pub among_here : (k : ℕ) → IsHere k → among k (clients_here p) ≡ true
    among_here k w = among_passes (λ j. is_client (p.client j)) k p.accepted (among_contained k p.accepted (h.listed k (subst IsSome (sym w.at) refl)))
        (is_here k w)

    here_among : (k : ℕ) → among k (clients_here p) ≡ true → IsHere k
    here_among k there = client_by k (p.client k) refl (passed_among (λ j. is_client (p.client j)) k p.accepted there).1

    -- the clients of the definitions that are here are just those of the code
    pub just_here : (k : ℕ) → Contains (clients_here p) k ↔ IsSome (client_of x.clients k)
    just_here k = (
      λ has. there_by k (here_among k (among_contained k (clients_here p) has)),
      λ there. contained_among k (clients_here p) (among_here k (here_of k there)),
    )

    pub here_order : IsStrictlySortedBy nat_cmp (clients_here p)
    here_order = IsStrictlySortedBy-filter nat_cmp (λ j. is_client (p.client j)) p.accepted h.order

    -- WHO IS READ

    some_ready : (k : ℕ) (o : Option peer.Client) → ready_at o ≡ true → IsSome o
    some_ready k None on = absurd (let never : false ≡ true = on in cc)
    some_ready k (Some c) on = refl

    none_else : (k : ℕ) → among k (ready_of x.clients) ≡ true → among k (clients_here p) ≡ false → IsUnready t.frame.limits t.call p k
    none_else k there off =
        let on : ready_at (client_of x.clients k) ≡ true = sym (ready_among x.clients k) ∙ there in
        absurd (let never : true ≡ false = sym (among_here k (here_of k (some_ready k (client_of x.clients k) on))) ∙ off in cc)

    others_idle : (k : ℕ) → among k (clients_here p) ≡ true → among k (ready_of x.clients) ≡ false → IsUnready t.frame.limits t.call p k
    others_idle k there off =
        let w = here_among k there in
        let q = client_here t x p h k w.row w.at w.here in
        ap (ready_by t.frame.limits t.call k) w.at
        ∙ (sym (readies t.call k q.0 w.row q.2) ∙ (sym (ap ready_at q.1) ∙ (sym (ready_among x.clients k) ∙ off)))

    pub same_starts : IsStrictlySortedBy nat_cmp (ready_of x.clients) →
        each_heard t.frame.limits t.call (ready_of x.clients) p ≡ started_all t.frame.limits t.call p
    unfolding started_all
    same_starts order =
        starts_are_each t.frame.limits t.call (ready_of x.clients) p
        ∙ (same_each (started_one t.frame.limits t.call) (λ z. Unit {0}) (IsUnready t.frame.limits t.call) (unready_skipped t.frame.limits t.call)
        (ready_of x.clients) (clients_here p) 0 0
        (sorted_ascends (ready_of x.clients) order) (sorted_ascends (clients_here p) here_order) p tt none_else others_idle
        ∙ sym (starts_are_each t.frame.limits t.call (clients_here p) p))

  -- THE LOOP

  -- Behind some starts, where these clients are left.
  pub record StartsTo (t : Turn) (old x : loop.Proxy B g) (p : Proxy) (left : List ℕ) : Type 0 where
    pub q : Proxy
    pub keeps : KeepsHeard t x q
    pub later : faults_in old.cache ≤ faults_in x.cache
    pub same : faults_in x.cache ≡ faults_in old.cache → each_heard t.frame.limits t.call left q ≡ each_heard t.frame.limits t.call (ready_of old.clients) p

  pub starts_next : (t : Turn) (old x x' : loop.Proxy B g) (p : Proxy) (k : ℕ) (rest : List ℕ) → ready_of x.clients ≡ k ∷ rest →
      StartsTo t old x p (ready_of x.clients) →
      ((q : Proxy) → KeepsHeard t x q →
      Goes (KeepsHeard t) (faults_in x.cache) x' (each_heard t.frame.limits t.call (first_ready (ready_of x.clients)) q)) → StartsTo t old x' p rest
  starts_next t old x x' p k rest first to goes =
      let s = goes to.q to.keeps in
      let before : faults_in old.cache ≤ faults_in x.cache = to.later in
      let behind : faults_in x.cache ≤ faults_in x'.cache = s.later in
      record {
        q = s.q;
        keeps = s.keeps;
        later = omega arith;
        same = λ none.
            let calm : faults_in x'.cache ≡ faults_in old.cache = none in
            let one : s.q ≡ each_heard t.frame.limits t.call (first_ready (ready_of x.clients)) to.q = s.same (omega arith) in
            let all : each_heard t.frame.limits t.call (ready_of x.clients) to.q ≡ each_heard t.frame.limits t.call (ready_of old.clients) p =
            to.same (omega arith) in
            ap (each_heard t.frame.limits t.call rest) (one ∙ ap (λ (ks : List ℕ). each_heard t.frame.limits t.call (first_ready ks) to.q) first)
            ∙ (ap (λ (ks : List ℕ). each_heard t.frame.limits t.call ks to.q) (sym first) ∙ all);
      }

  pub starts_end : (t : Turn) (x x' : loop.Proxy B g) (p : Proxy) → KeepsHeard t x p → IsStrictlySortedBy nat_cmp (ready_of x.clients) →
      StartsTo t x x' p [] → Goes (KeepsHeard t) (faults_in x.cache) x' (started_all t.frame.limits t.call p)
  starts_end t x x' p k order to = record {
    q = to.q;
    keeps = to.keeps;
    later = to.later;
    same = λ none. to.same none ∙ same_starts t x p k.quiet.keeps.clients order;
  }

  -- Where nobody is left.
  pub starts_stop : (t : Turn) (old x x' : loop.Proxy B g) (p : Proxy) → ready_of x.clients ≡ [] → StartsTo t old x p (ready_of x.clients) →
      ((q : Proxy) → KeepsHeard t x q →
      Goes (KeepsHeard t) (faults_in x.cache) x' (each_heard t.frame.limits t.call (first_ready (ready_of x.clients)) q)) → StartsTo t old x' p []
  starts_stop t old x x' p none to goes =
      let s = goes to.q to.keeps in
      let before : faults_in old.cache ≤ faults_in x.cache = to.later in
      let behind : faults_in x.cache ≤ faults_in x'.cache = s.later in
      record {
        q = s.q;
        keeps = s.keeps;
        later = omega arith;
        same = λ calm.
            let same : faults_in x'.cache ≡ faults_in old.cache = calm in
            let one : s.q ≡ each_heard t.frame.limits t.call (first_ready (ready_of x.clients)) to.q = s.same (omega arith) in
            let all : each_heard t.frame.limits t.call (ready_of x.clients) to.q ≡ each_heard t.frame.limits t.call (ready_of old.clients) p =
            to.same (omega arith) in
            one
            ∙ (ap (λ (ks : List ℕ). each_heard t.frame.limits t.call (first_ready ks) to.q) none
            ∙ (ap (λ (ks : List ℕ). each_heard t.frame.limits t.call ks to.q) (sym none) ∙ all));
      }

  -- no more are read than clients are here
  pub few_ready : (x : loop.Proxy B g) → ∥ IsHeard x ∥₁ → (count : ℕ) →
      ((ks : List ℕ) → IsStrictlySortedBy nat_cmp ks → ((k : ℕ) → Contains ks k ↔ IsSome (client_of x.clients k)) → count ≡ length ks) →
      length (ready_of x.clients) ≤ count → length (ready_of x.clients) ≤ 512
  few_ready x some count all few = ∥∥₁_elim some le_prop (λ s.
      let h = s.2.quiet.keeps.clients in
      let same : count ≡ length (clients_here s.1) = all (clients_here s.1) (here_order s.0 x s.1 h) (just_here s.0 x s.1 h) in
      let here : length (clients_here s.1) ≤ 512 = h.few in
      omega arith)
