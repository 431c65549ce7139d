-- Who was sent a first part of what is owed has one still, where more connections were dialled and some closed.
--
-- What a connection has taken is as before. Whose it is stays so too, since a number that is dialled was handed out to
-- nobody. A new connection has taken nothing.
use Rattle.std.{proofs.{Common.{◌≡◌, ℕ, zero, suc, ◌+◌, List, [], ◌∷◌, ◌++◌, Bool, true, false, Option, Some, None, refl, ap, sym, ◌∙◌, arith}, lemmas.Bool.Decides.{nat_tests}}, specs.{Prelude.{nat_eq, find, length, map, Contains, if◌then◌else◌}, List.{list_all}}}
use Rattle.hc_text.proofs.Basics.{and_left, and_right}
use Rattle.hc_wire.specs.{Events.{Unseen, Open, Closed}, Logs.{Log, Taker, is_numbered, stage_from, stage_in, sent_in, sent_from}}
use Rattle.hc_proxy.specs.{Connections.{dials_from, dials_in, is_dialled, place_from, exchange_of}, Endings.{client_was_sent, upstream_was_sent, sent_by, was_sent}, Logging.{AreApart, Dials}, Rows.{Upstream, Proxy}}
use Rattle.hc_proxy.proofs.{MoreConnections.{dials_more, exchange_stays}, TakersStand.{all_found, found_number, sent_found}}

-- WHAT HOLDS OF ALL

pub all_give : (test : Taker → Bool) (k : ℕ) (c : Taker) (cs : List Taker) → list_all test cs ≡ true → find (is_numbered k) cs ≡ Some c → test c ≡ true
all_give test k c [] all is = absurd (let never : None ≡ Some c = is in cc)
all_give test k c (d ∷ cs) all is = by_test (λ h. all_give test k c cs (and_right (test d) (list_all test cs) all) h) (nat_eq d.k k) is
  where
    some_is : (a b : Taker) → Some a ≡ Some b → a ≡ b
    some_is a b h = cc

    by_test : (find (is_numbered k) cs ≡ Some c → test c ≡ true) → (b : Bool) → (if b then Some d else find (is_numbered k) cs) ≡ Some c → test c ≡ true
    by_test rest true h = ap test (sym (some_is d c h)) ∙ and_left (test d) (list_all test cs) all
    by_test rest false h = rest h

-- WHO HAS TAKEN NOTHING

pub origin_unsent : (o : Option Upstream) → upstream_was_sent [] o ≡ true
origin_unsent None = refl
origin_unsent (Some u) = refl

-- WHOSE A CONNECTION IS

nobody_from : (n k : ℕ) (dialled : List (Option ℕ)) (more : List ℕ) → place_from n k dialled ≡ None → (Contains more k → ⊥) →
    place_from n k (dialled ++ map Some more) ≡ None
nobody_from n k [] [] none off = refl
nobody_from n k [] (j ∷ more) none off = by_test (nobody_from (n + 1) k [] more refl (λ there. off (later there))) (nat_eq j k) refl
  where
    later : Contains more k → Contains (j ∷ more) k
    later (i, lt, at) = (suc i, omega arith, at)

    by_test : place_from (n + 1) k (map Some more) ≡ None → (b : Bool) → nat_eq j k ≡ b → (if b then Some n else place_from (n + 1) k (map Some more)) ≡ None
    by_test rest false is = rest
    by_test rest true is = let same : j ≡ k = grind (arith, nat_tests) in absurd (off (zero, omega arith, same))
nobody_from n k (o ∷ dialled) more none off = by_test (λ h. nobody_from (n + 1) k dialled more h off) (is_dialled k o) none
  where
    by_test : (place_from (n + 1) k dialled ≡ None → place_from (n + 1) k (dialled ++ map Some more) ≡ None) → (b : Bool) →
        (if b then Some n else place_from (n + 1) k dialled) ≡ None → (if b then Some n else place_from (n + 1) k (dialled ++ map Some more)) ≡ None
    by_test rest true h = absurd (let never : Some n ≡ None = h in cc)
    by_test rest false h = rest h

-- THE LOG

module _ (q : Proxy) (more : List ℕ) (log log' : Log) (d : Dials more log log') (apart : AreApart log'.takers)
    (nobody : (k : ℕ) → stage_in log.takers k ≡ Unseen → q.client k ≡ None) (sent : list_all (was_sent (dials_in q log) q) log.takers ≡ true) where
  abbrev ds : List (Option ℕ)
  ds = dials_in q log

  abbrev later : List (Option ℕ)
  later = dials_in q log ++ map Some more

  later_is : dials_in q log' ≡ later
  later_is = ap (dials_from q.setting) d.dialled ∙ dials_more q.setting log.dialled more

  seen_stage : (c : Taker) → (b : Bool) → (if b then Open c.reads c.ended else Closed) ≡ Unseen → ⊥
  seen_stage c true is = let never : Open c.reads c.ended ≡ Unseen = is in cc
  seen_stage c false is = let never : Closed ≡ Unseen = is in cc

  -- one that was there
  was_there : (c e : Taker) → e.k ≡ c.k → find (is_numbered c.k) log.takers ≡ Some e → c.sent ≡ e.sent →
      sent_by q c (exchange_of later c.k) ≡ true
  was_there c e number found same = by_whose (exchange_of ds c.k) refl
    where
      before : was_sent ds q e ≡ true
      before = all_give (was_sent ds q) c.k e log.takers sent found

      before_at : sent_by q c (exchange_of ds c.k) ≡ true
      before_at =
          by_place (exchange_of ds c.k) ∙ (ap (λ n. sent_by q e (exchange_of ds n)) (sym number) ∙ before)
        where
          by_place : (o : Option ℕ) → sent_by q c o ≡ sent_by q e o
          by_place None = ap (λ s. client_was_sent s (q.client c.k)) same ∙ ap (λ n. client_was_sent e.sent (q.client n)) (sym number)
          by_place (Some x) = ap (λ s. upstream_was_sent s (q.upstream x)) same

      apart_from : Contains more c.k → ⊥
      apart_from among = seen_stage e e.live (sym (ap stage_from found) ∙ d.new c.k among)

      by_whose : (o : Option ℕ) → exchange_of ds c.k ≡ o → sent_by q c (exchange_of later c.k) ≡ true
      by_whose None is = ap (sent_by q c) (nobody_from 1 c.k ds more is apart_from ∙ sym is) ∙ before_at
      by_whose (Some x) is = ap (sent_by q c) (exchange_stays ds (map Some more) c.k x is ∙ sym is) ∙ before_at

  -- a new one
  is_new : (c : Taker) → find (is_numbered c.k) log.takers ≡ None → c.sent ≡ [] → sent_by q c (exchange_of later c.k) ≡ true
  is_new c found none = by_whose (exchange_of later c.k)
    where
      by_whose : (o : Option ℕ) → sent_by q c o ≡ true
      by_whose None = ap (client_was_sent c.sent) (nobody c.k (ap stage_from found)) ∙ ap (λ s. nat_eq (length s) 0) none
      by_whose (Some x) = ap (λ s. upstream_was_sent s (q.upstream x)) none ∙ origin_unsent (q.upstream x)

  pub dials_sent : list_all (was_sent (dials_in q log') q) log'.takers ≡ true
  dials_sent =
      ap (λ ks. list_all (was_sent ks q) log'.takers) later_is
      ∙ all_found (was_sent later q) log'.takers apart (λ c found. by_found c found (find (is_numbered c.k) log.takers) refl)
    where
      sent_as : (c : Taker) → find (is_numbered c.k) log'.takers ≡ Some c → c.sent ≡ sent_in log.takers c.k
      sent_as c found = sym (sent_found c.k c log'.takers found) ∙ d.sent c.k

      by_found : (c : Taker) → find (is_numbered c.k) log'.takers ≡ Some c → (o : Option Taker) → find (is_numbered c.k) log.takers ≡ o →
          sent_by q c (exchange_of later c.k) ≡ true
      by_found c found None was = is_new c was (sent_as c found ∙ ap sent_from was)
      by_found c found (Some e) was = was_there c e (found_number c.k e log.takers was) was (sent_as c found ∙ sent_found c.k e log.takers was)
