-- All connections are closed: those of the clients and of the exchanges are all that are open.
--
-- Whoever is open between turns is a client's or an exchange's, since nothing is left to be closed. So each taker that
-- is live is among the connections that are closed. The close of one shuts its taker, whose number no other has, and
-- leaves the others. Behind all of them none is live: so the takers are those of before, all shut.
use Rattle.std.{proofs.{Common.{◌≡◌, ◌⊎◌, inl, inr, ℕ, List, [], ◌∷◌, Bool, true, false, Option, Some, None, refl, ap, sym, ◌∙◌, subst, arith, append-nil}, lemmas.Bool.Decides.{nat_tests}}, specs.{Prelude.{◌&&◌, ◌||◌, nat_eq, find, map, Contains, IsSome, if◌then◌else◌}, List.{list_all}}}
use Rattle.hc_text.proofs.Basics.{and_left, and_right, both_true as both_hold}
use Rattle.hc_peers.specs.{Clients.{client_of}, Upstreams.{upstream_of}}
use Rattle.hc_peers.specs.declared.upstream.Upstream as origin
use Rattle.hc_store.specs.declared.backend.Backend.{Ghosts}
use Rattle.hc_wire.specs.{Events.{Stage, IsOpen}, Logs.{Log, Taker, is_numbered, changed_at, shut}}
use Rattle.hc_proxy.specs.declared.proxy.Proxy as loop
use Rattle.hc_proxy.specs.{Keeping.{Frame}, Logging.{Follows, AreApart}, Resting.{Rests}, Rows.{Proxy}, Serving.{IsClosed, all_closed}, Underway.{shut_each, Closes}}
use Rattle.hc_proxy.proofs.{Marked.{among_contained}, SkippedSteps.{among}, Takers.{apart_stays}, TakersStand.{all_found, taker_stage}}

-- one that is open is among these
abbrev is_among : List ℕ → Taker → Bool
is_among ks c = if c.live then among c.k ks else true

-- behind a change of another it still is
among_others : (k : ℕ) (ks : List ℕ) (c : Taker) → nat_eq c.k k ≡ false → is_among (k ∷ ks) c ≡ true → is_among ks c ≡ true
among_others k ks c off is = by_live c.live is
  where
    by_live : (b : Bool) → (if b then (nat_eq c.k k || among c.k ks) else true) ≡ true → (if b then among c.k ks else true) ≡ true
    by_live true h = rw off at h
    by_live false h = refl

none_numbered : (k : ℕ) (ks : List ℕ) (cs : List Taker) → find (is_numbered k) cs ≡ None → list_all (is_among (k ∷ ks)) cs ≡ true →
    list_all (is_among ks) cs ≡ true
none_numbered k ks [] none all = refl
none_numbered k ks (c ∷ cs) none all =
    by_test (λ h. none_numbered k ks cs h (and_right (is_among (k ∷ ks) c) (list_all (is_among (k ∷ ks)) cs) all)) (nat_eq c.k k) refl none
  where
    by_test : (find (is_numbered k) cs ≡ None → list_all (is_among ks) cs ≡ true) → (b : Bool) → nat_eq c.k k ≡ b →
        (if b then Some c else find (is_numbered k) cs) ≡ None → (is_among ks c && list_all (is_among ks) cs) ≡ true
    by_test rest true is h = absurd (let never : Some c ≡ None = h in cc)
    by_test rest false is h =
        both_hold (is_among ks c) (list_all (is_among ks) cs)
        (among_others k ks c is (and_left (is_among (k ∷ ks) c) (list_all (is_among (k ∷ ks)) cs) all)) (rest h)

among_next : (k : ℕ) (ks : List ℕ) (cs : List Taker) → AreApart cs → list_all (is_among (k ∷ ks)) cs ≡ true →
    list_all (is_among ks) (changed_at k shut cs) ≡ true
among_next k ks [] apart all = refl
among_next k ks (c ∷ cs) apart all =
    by_test (among_next k ks cs apart.1 (and_right (is_among (k ∷ ks) c) (list_all (is_among (k ∷ ks)) cs) all)) (nat_eq c.k k) refl
  where
    by_test : list_all (is_among ks) (changed_at k shut cs) ≡ true → (b : Bool) → nat_eq c.k k ≡ b →
        list_all (is_among ks) (if b then shut c ∷ cs else c ∷ changed_at k shut cs) ≡ true
    by_test rest true is =
        let number : c.k ≡ k = grind (arith, nat_tests) in
        none_numbered k ks cs (ap (λ n. find (is_numbered n) cs) (sym number) ∙ apart.0) (and_right (is_among (k ∷ ks) c) (list_all (is_among (k ∷ ks)) cs) all)
    by_test rest false is = both_hold (is_among ks c) (list_all (is_among ks) (changed_at k shut cs))
        (among_others k ks c is (and_left (is_among (k ∷ ks) c) (list_all (is_among (k ∷ ks)) cs) all)) rest

shut_twice : (k : ℕ) (cs : List Taker) → map shut (changed_at k shut cs) ≡ map shut cs
shut_twice k [] = refl
shut_twice k (c ∷ cs) = by_test (nat_eq c.k k) (shut_twice k cs)
  where
    by_test : (b : Bool) → map shut (changed_at k shut cs) ≡ map shut cs → map shut (if b then shut c ∷ cs else c ∷ changed_at k shut cs) ≡ shut c ∷ map shut cs
    by_test true rest = refl
    by_test false rest = ap (λ (ds : List Taker). shut c ∷ ds) rest

none_open : (cs : List Taker) → list_all (is_among []) cs ≡ true → cs ≡ map shut cs
none_open [] all = refl
none_open (c ∷ cs) all =
    ap (λ (ds : List Taker). c ∷ ds) (none_open cs (and_right (is_among [] c) (list_all (is_among []) cs) all))
    ∙ ap (λ (d : Taker). d ∷ map shut cs) (by_live c.live refl (and_left (is_among [] c) (list_all (is_among []) cs) all))
  where
    by_live : (b : Bool) → c.live ≡ b → (if b then false else true) ≡ true → c ≡ shut c
    by_live true is h = absurd (let never : false ≡ true = h in cc)
    by_live false is h = ap (λ (z : Bool). let d : Taker = record c { live = z } in d) is

shut_all : (ks : List ℕ) (cs : List Taker) → AreApart cs → list_all (is_among ks) cs ≡ true → shut_each ks cs ≡ map shut cs
shut_all [] cs apart all = none_open cs all
shut_all (k ∷ ks) cs apart all = shut_all ks (changed_at k shut cs) (apart_stays k shut (λ c. refl) cs apart) (among_next k ks cs apart all) ∙ shut_twice k cs

module _ {B : Type 0} {g : Ghosts B} (f : Frame) (x : loop.Proxy B g) (p : Proxy) (log : Log) (r : Rests f x p log) (reported reported' : Option Log)
    (stages stages' : ℕ → Stage) (follows : Follows reported stages log) (ks : List ℕ)
    (clients : (k : ℕ) → IsSome (client_of x.clients k) → Contains ks k)
    (origins : (y : ℕ) (u : origin.Upstream) → upstream_of x.upstreams y ≡ Some u → Contains ks u.k) where
  open_among : (c : Taker) → find (is_numbered c.k) log.takers ≡ Some c → is_among ks c ≡ true
  open_among c found = by_live c.live refl
    where
      by_who : IsSome (client_of x.clients c.k) ⊎ ((y : ℕ) × (u : origin.Upstream) × (upstream_of x.upstreams y ≡ Some u) × (u.k ≡ c.k)) ⊎ Contains
          x.closed.items c.k → among c.k ks ≡ true
      by_who (inl some) = among_contained c.k ks (clients c.k some)
      by_who (inr (inl (y, u, at, number))) = among_contained c.k ks (subst (Contains ks) number (origins y u at))
      by_who (inr (inr there)) = absurd (none_in (subst (λ js. Contains js c.k) r.closed there))
        where
          none_in : Contains [] c.k → ⊥
          none_in (i, lt, at) = omega arith

      by_live : (b : Bool) → c.live ≡ b → (if b then among c.k ks else true) ≡ true
      by_live false is = refl
      by_live true is = by_who (r.wire.all c.k (subst IsOpen (sym (taker_stage c.k c log.takers found is)) tt))

  pub closes_all : Closes ks log reported' stages stages' → IsClosed log reported'
  closes_all c = by_reported c.follows.reported_is
    where
      takers : c.log'.takers ≡ map shut log.takers
      takers = c.takers ∙ shut_all ks log.takers follows.apart (all_found (is_among ks) log.takers follows.apart open_among)

      same_log : (l : Log) → l.bound ≡ log.bound → l.calls ≡ log.calls → l.dialled ≡ log.dialled → l.takers ≡ map shut log.takers → l ≡ all_closed log
      same_log l bound calls dialled ts =
          ap (λ z. let m : Log = record l { bound = z } in m) bound
          ∙ (ap (λ z. let m : Log = record l { bound = log.bound; calls = z } in m) calls
          ∙ (ap (λ z. let m : Log = record l { bound = log.bound; calls = log.calls; dialled = z } in m) dialled
          ∙ ap (λ z. let m : Log = record log { takers = z } in m) ts))

      by_reported : (reported' ≡ None) ⊎ (reported' ≡ Some c.log') → (reported' ≡ None) ⊎ (reported' ≡ Some (all_closed log))
      by_reported (inl none) = inl none
      by_reported (inr same) = inr (same ∙ ap Some (same_log c.log' c.dials.bound c.dials.calls (c.dials.dialled ∙ append-nil log.dialled) takers))
