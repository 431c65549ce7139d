-- What an offer of one connection makes of the log of the wire.
--
-- The connection takes some first bytes of what it lacks, and then it may be closed, or the wire is told whether it is
-- read. Each of these changes the one row of the log that has its number: all others are found as before. What it has
-- taken was a first part of what it is owed, and what it takes comes next there, so it still has a first part. A log
-- that follows the wire without being told shows how the connections stand behind each change.
use Rattle.std.{proofs.{Common.{◌≡◌, ◌⊎◌, inl, inr, ℕ, zero, suc, ◌+◌, List, [], ◌∷◌, ◌++◌, Bool, true, false, Option, Some, None, refl, ap, sym, ◌∙◌, arith, length, take, drop, eqb, length-append}, Math.Seq.{take-append-add, drop-nil}, lemmas.{Bool.{cases_Bool, Decides.{nat_tests}}, List.{take-append-drop, length-take, take_min, append-nil}}}, specs.{Prelude.{nat_eq, nat_le, ◌||◌, ◌==◌, not, find, option_map, if◌then◌else◌}, List.{list_all}}}
use Rattle.hc_text.proofs.Basics.{all_three, and_left as and_first, and_right as and_second, eq_itself as same_number, both_of as three}
use Rattle.hc_rules.proofs.RangeReads.{bytes_eq-same, same_bytes}
use Rattle.hc_wire.specs.{Events.{Stage, Unseen, Open, Closed, reading_of}, Logs.{Log, Taker, is_numbered, is_at_end, stage_of, stage_from, sent_from, stage_in, sent_in, changed_at, taking, reading, shut, with_sent, with_reading, with_closed}}
use Rattle.hc_wire.proofs.LogLemmas.{stages-same}
use Rattle.hc_peers.specs.Offers.{OffersSome}
use Rattle.hc_proxy.specs.{Connections.{dials_in, exchange_of}, Endings.{is_prefix, client_was_sent, upstream_was_sent, sent_by, was_sent}, Logging.{short_from, is_short}, Rows.{Client, Upstream, Proxy}, TurnSteps.{SentSome}, Unsent.{Sends}}
use Rattle.hc_proxy.proofs.{Followed.{KeepsNumber, found}, Closings.{reported_on}}

-- FIRST PARTS

-- what comes next is taken
front_more : (sent owed unsent : List ℕ) (n : ℕ) → unsent ≡ drop (length sent) owed → is_prefix sent owed ≡ true → is_prefix (sent ++ take n unsent) owed ≡ true
front_more sent owed unsent n left is =
    let whole : owed ≡ sent ++ unsent = sym (take-append-drop (length sent) owed) ∙
    (ap (λ xs. xs ++ drop (length sent) owed) (same_bytes (take (length sent) owed) sent is) ∙ ap (λ xs. sent ++ xs) (sym left)) in
    bytes_eq-same (take (length (sent ++ take n unsent)) owed) (sent ++ take n unsent)
    (ap (λ xs. take (length (sent ++ take n unsent)) xs) whole
    ∙ (ap (λ i. take i (sent ++ unsent)) (length-append sent (take n unsent))
    ∙ (take-append-add sent unsent (length (take n unsent))
    ∙ ap (λ xs. sent ++ xs) (ap (λ i. take i unsent) (length-take n unsent) ∙ take_min n unsent))))

none_left : (xs : List ℕ) (i : ℕ) → i ≡ length xs → drop i xs ≡ []
none_left [] i is = drop-nil i
none_left (x ∷ xs) i is = rw is (none_left xs (length xs) refl)

client_more : (sent unsent : List ℕ) (r : Client) (n : ℕ) → unsent ≡ drop (length sent) r.owed → client_was_sent sent (Some r) ≡ true →
    client_was_sent (sent ++ take n unsent) (Some r) ≡ true
client_more sent unsent r n left was =
    let parts = three (is_prefix sent r.owed) (nat_le r.before (length sent)) (not r.let_go || length sent == length r.owed) was in
    let longer : length (sent ++ take n unsent) ≡ length sent + length (take n unsent) = length-append sent (take n unsent) in
    let early : nat_le r.before (length sent) ≡ true = parts.1 in
    all_three (is_prefix (sent ++ take n unsent) r.owed) (nat_le r.before (length (sent ++ take n unsent)))
    (not r.let_go || length (sent ++ take n unsent) == length r.owed)
    (front_more sent r.owed unsent n left parts.0)
    (grind (arith, nat_tests))
    (by_end r.let_go parts.2)
  where
    by_end : (b : Bool) → (not b || length sent == length r.owed) ≡ true → (not b || length (sent ++ take n unsent) == length r.owed) ≡ true
    by_end false is = refl
    by_end true is =
        let all : length sent ≡ length r.owed = grind (arith, nat_tests) in
        let none : unsent ≡ [] = left ∙ none_left r.owed (length sent) all in
        let same : sent ++ take n unsent ≡ sent = ap (λ xs. sent ++ take n xs) none ∙ (ap (λ xs. sent ++ xs) (take_none n) ∙ append-nil sent) in
        ap (λ xs. length xs == length r.owed) same ∙ is
      where
        take_none : (m : ℕ) → take {A = ℕ} m [] ≡ []
        take_none zero = refl
        take_none (suc m) = refl

-- WHO HAS A FIRST PART, in a log

found_number : (k : ℕ) (cs : List Taker) (d : Taker) → find (is_numbered k) cs ≡ Some d → d.k ≡ k
found_number k [] d is = absurd (let never : None ≡ Some d = is in cc)
found_number k (c ∷ cs) d is = elim (cases_Bool (eqb c.k k)) [
  | inl on ↦
      let here : Some c ≡ Some d = rw on at is in
      let same : c ≡ d = some_is c d here in
      let number : c.k ≡ k = grind (arith, nat_tests) in
      ap (λ (t : Taker). t.k) (sym same) ∙ number
  | inr off ↦ let rest = rw off at is in found_number k cs d rest
]
  where
    some_is : (a b : Taker) → Some a ≡ Some b → a ≡ b
    some_is a b h = cc

-- all still pass a test, where the one that changes does
pub all_changed : (k : ℕ) (change : Taker → Taker) (test : Taker → Bool) (cs : List Taker)
    → ((d : Taker) → find (is_numbered k) cs ≡ Some d → test d ≡ true → test (change d) ≡ true)
    → list_all test cs ≡ true → list_all test (changed_at k change cs) ≡ true
all_changed k change test [] does all = refl
all_changed k change test (c ∷ cs) does all = elim (cases_Bool (eqb c.k k)) [
  | inl on ↦
      let first : test (change c) ≡ true = does c (rw on refl) (and_first (test c) (list_all test cs) all) in
      rw (on, first) (and_second (test c) (list_all test cs) all)
  | inr off ↦
      let first : test c ≡ true = and_first (test c) (list_all test cs) all in
      let rest : list_all test (changed_at k change cs) ≡ true =
      all_changed k change test cs (λ d is. does d (rw off is)) (and_second (test c) (list_all test cs) all) in
      rw (off, first) rest
]

-- of a client
module _ (p : Proxy) (log : Log) (k : ℕ) (r : Client) (at : p.client k ≡ Some r) (stranger : exchange_of (dials_in p log) k ≡ None) where
  of_client : (d : Taker) → d.k ≡ k → was_sent (dials_in p log) p d ≡ client_was_sent d.sent (Some r)
  of_client d number =
      ap (λ (o : Option ℕ). sent_by p d o) (ap (exchange_of (dials_in p log)) number ∙ stranger)
      ∙ ap (client_was_sent d.sent) (ap p.client number ∙ at)

  pub client_front : (unsent : List ℕ) (n : ℕ) (less : Bool) → unsent ≡ drop (length (sent_in log.takers k)) r.owed
      → (d : Taker) → find (is_numbered k) log.takers ≡ Some d → was_sent (dials_in p log) p d ≡ true →
      was_sent (dials_in p log) p (taking (take n unsent) less (length log.calls) d) ≡ true
  client_front unsent n less left d is was =
      let number = found_number k log.takers d is in
      let its : sent_in log.takers k ≡ d.sent = ap sent_from is in
      of_client (taking (take n unsent) less (length log.calls) d) number
      ∙ client_more d.sent unsent r n (left ∙ ap (λ xs. drop (length xs) r.owed) its) (sym (of_client d number) ∙ was)

-- of a connection to the origin
module _ (p : Proxy) (log : Log) (k y : ℕ) (v : Upstream) (at : p.upstream y ≡ Some v) (its : exchange_of (dials_in p log) k ≡ Some y) where
  of_origin : (d : Taker) → d.k ≡ k → was_sent (dials_in p log) p d ≡ is_prefix d.sent v.owed
  of_origin d number =
      ap (λ (o : Option ℕ). sent_by p d o) (ap (exchange_of (dials_in p log)) number ∙ its)
      ∙ ap (upstream_was_sent d.sent) at

  pub origin_front : (unsent : List ℕ) (n : ℕ) (less : Bool) → unsent ≡ drop (length (sent_in log.takers k)) v.owed
      → (d : Taker) → find (is_numbered k) log.takers ≡ Some d → was_sent (dials_in p log) p d ≡ true →
      was_sent (dials_in p log) p (taking (take n unsent) less (length log.calls) d) ≡ true
  origin_front unsent n less left d is was =
      let number = found_number k log.takers d is in
      let same : sent_in log.takers k ≡ d.sent = ap sent_from is in
      of_origin (taking (take n unsent) less (length log.calls) d) number
      ∙ front_more d.sent v.owed unsent n (left ∙ ap (λ xs. drop (length xs) v.owed) same) (sym (of_origin d number) ∙ was)

-- ONE CONNECTION MOVES

-- it took these bytes, less than it was offered or not, and stands so
pub record MovesAt (p : Proxy) (k : ℕ) (bytes : List ℕ) (less : Bool) (stage : Stage) (log log' : Log) : Type 0 where
  pub sends : Sends p log log'
  pub others : (j : ℕ) → nat_eq j k ≡ false → find (is_numbered j) log'.takers ≡ find (is_numbered j) log.takers
  pub sent : sent_in log'.takers k ≡ sent_in log.takers k ++ bytes
  pub short : less ≡ true → is_short log' k ≡ true
  pub stage_is : stage_in log'.takers k ≡ stage

never_unseen : (o : Option Taker) (reads ended : Bool) → stage_from o ≡ Open reads ended → (d : Taker) × (o ≡ Some d)
never_unseen None reads ended is = absurd (let never : Unseen ≡ Open reads ended = is in cc)
never_unseen (Some d) reads ended is = (d, refl)

module _ (p : Proxy) (k : ℕ) (bytes : List ℕ) (less : Bool) (log : Log) (reads ended : Bool) (opens : stage_in log.takers k ≡ Open reads ended)
    (front : (d : Taker) → find (is_numbered k) log.takers ≡ Some d → was_sent (dials_in p log) p d ≡ true →
    was_sent (dials_in p log) p (taking bytes less (length log.calls) d) ≡ true) where
  abbrev change : Taker → Taker
  change = taking bytes less (length log.calls)

  abbrev mid : Log
  mid = with_sent k bytes less log

  at_it : find (is_numbered k) mid.takers ≡ option_map change (find (is_numbered k) log.takers)
  at_it = found change (λ c. refl) k k log.takers ∙ rw (same_number k) refl

  same_stage : (j : ℕ) → stage_in mid.takers j ≡ stage_in log.takers j
  same_stage j = stages-same k change (λ c. refl) (λ c. refl) log.takers j

  pub moves_sent : MovesAt p k bytes less (Open reads ended) log mid
  moves_sent =
      let it = never_unseen (find (is_numbered k) log.takers) reads ended opens in
      record {
        sends = record {
          calls = refl;
          bound = refl;
          dialled = refl;
          sent = λ all. all_changed k change (was_sent (dials_in p log) p) log.takers front all;
          unseen = λ j is. sym (same_stage j) ∙ is;
        };
        others = λ j off. let other : nat_eq k j ≡ false = grind (arith, nat_tests) in found change (λ c. refl) k j log.takers ∙ rw other refl;
        sent = ap sent_from (at_it ∙ ap (option_map change) it.1) ∙ ap (λ xs. xs ++ bytes) (sym (ap sent_from it.1));
        short = λ is. ap (λ (o : Option Taker). is_at_end (short_from o) (length log.calls)) (at_it ∙ ap (option_map change) it.1) ∙ by_less less it.0.short is;
        stage_is = same_stage k ∙ opens;
      }
    where
      by_less : (b : Bool) (old : Option ℕ) → b ≡ true → is_at_end (if b then Some (length log.calls) else old) (length log.calls) ≡ true
      by_less true old is = same_number (length log.calls)
      by_less false old is = absurd (let never : false ≡ true = is in cc)

-- and then something is told of it, which sends nothing
module _ (p : Proxy) (k : ℕ) (bytes : List ℕ) (less : Bool) (log mid : Log) (reads ended : Bool) (m : MovesAt p k bytes less (Open reads ended) log mid) where
  moves_on : (change : Taker → Taker) → KeepsNumber change → ((c : Taker) → (change c).sent ≡ c.sent) → ((c : Taker) → (change c).short ≡ c.short)
      → ((c : Taker) → was_sent (dials_in p mid) p (change c) ≡ was_sent (dials_in p mid) p c)
      → (stage : Stage) → ((d : Taker) → stage_of d ≡ Open reads ended → stage_of (change d) ≡ stage) → (stage ≡ Unseen → ⊥)
      → MovesAt p k bytes less stage log (record mid { takers = changed_at k change mid.takers })
  moves_on change keeps same short same_test stage stages seen =
      record {
        sends = record {
          calls = m.sends.calls;
          bound = m.sends.bound;
          dialled = m.sends.dialled;
          sent = λ all. all_changed k change (was_sent (dials_in p mid) p) mid.takers (λ d is was. same_test d ∙ was) (m.sends.sent all);
          unseen = λ j is. unseen_by j (nat_eq j k) refl is;
        };
        others = others_on;
        sent = ap sent_from at_it ∙ (same it.0 ∙ (sym (ap sent_from it.1) ∙ m.sent));
        short = λ is. ap (λ (o : Option Taker). is_at_end (short_from o) (length mid.calls)) at_it
            ∙ (ap (λ (o : Option ℕ). is_at_end o (length mid.calls)) (short it.0)
            ∙ (sym (ap (λ (o : Option Taker). is_at_end (short_from o) (length mid.calls)) it.1) ∙ m.short is));
        stage_is = stage_now;
      }
    where
      it : (d : Taker) × (find (is_numbered k) mid.takers ≡ Some d)
      it = never_unseen (find (is_numbered k) mid.takers) reads ended m.stage_is

      at_it : find (is_numbered k) (changed_at k change mid.takers) ≡ Some (change it.0)
      at_it = found change keeps k k mid.takers ∙ (rw (same_number k) (ap (option_map change) it.1))

      off_it : (j : ℕ) → nat_eq j k ≡ false → find (is_numbered j) (changed_at k change mid.takers) ≡ find (is_numbered j) mid.takers
      off_it j off = let other : nat_eq k j ≡ false = grind (arith, nat_tests) in found change keeps k j mid.takers ∙ rw other refl

      others_on : (j : ℕ) → nat_eq j k ≡ false → find (is_numbered j) (changed_at k change mid.takers) ≡ find (is_numbered j) log.takers
      others_on j off = off_it j off ∙ m.others j off

      stage_now : stage_in (changed_at k change mid.takers) k ≡ stage
      stage_now = ap stage_from at_it ∙ stages it.0 (sym (ap stage_from it.1) ∙ m.stage_is)

      unseen_by : (j : ℕ) (b : Bool) → nat_eq j k ≡ b → stage_in (changed_at k change mid.takers) j ≡ Unseen → stage_in log.takers j ≡ Unseen
      unseen_by j true on is =
          let number : j ≡ k = grind (arith, nat_tests) in
          absurd (seen (sym stage_now ∙ (sym (ap (stage_in (changed_at k change mid.takers)) number) ∙ is)))
      unseen_by j false off is = sym (ap stage_from (others_on j off)) ∙ is

  pub moves_closed : MovesAt p k bytes less Closed log (with_closed k mid)
  moves_closed = moves_on shut (λ c. refl) (λ c. refl) (λ c. refl) (λ c. refl) Closed (λ d is. refl) (λ is. let never : Closed ≡ Unseen = is in cc)

  pub moves_reading : (on : Bool) → MovesAt p k bytes less (Open on ended) log (with_reading k on mid)
  moves_reading on = moves_on (reading on) (λ c. refl) (λ c. refl) (λ c. refl) (λ c. refl) (Open on ended) (λ d is. by_life d.live d.reads d.ended is)
      (λ is. let never : Open on ended ≡ Unseen = is in cc)
    where
      by_life : (live r e : Bool) → (if live then Open r e else Closed) ≡ Open reads ended → (if live then Open on e else Closed) ≡ Open on ended
      by_life true r e is = ap (λ (s : Stage). reading_of on s) is
      by_life false r e is = absurd (let never : Closed ≡ Open reads ended = is in cc)

-- WHAT FAILS IN THE MIDDLE

-- of nothing nothing is taken
pub none_front : (p : Proxy) (log : Log) (k n : ℕ) (less : Bool) → list_all (was_sent (dials_in p log) p) log.takers ≡ true
    → list_all (was_sent (dials_in p log) p) (with_sent k (take n []) less log).takers ≡ true
none_front p log k n less all = all_changed k (taking (take n []) less (length log.calls)) (was_sent (dials_in p log) p) log.takers same all
  where
    none : take {A = ℕ} n [] ≡ []
    none = take_none n
      where
        take_none : (m : ℕ) → take {A = ℕ} m [] ≡ []
        take_none zero = refl
        take_none (suc m) = refl

    same : (d : Taker) → find (is_numbered k) log.takers ≡ Some d → was_sent (dials_in p log) p d ≡ true →
        was_sent (dials_in p log) p (taking (take n []) less (length log.calls) d) ≡ true
    same d is was =
        ap (λ (xs : List ℕ). was_sent (dials_in p log) p (let t : Taker = record d { sent = xs } in t)) (ap (λ xs. d.sent ++ xs) none ∙ append-nil d.sent) ∙ was

pub some_sent : (p : Proxy) (log : Log) (k : ℕ) (reported reported' : Option Log) (unsent : List ℕ) → (o : OffersSome k unsent reported reported') →
    (reported ≡ None) ⊎ (reported ≡ Some log)
    → ((n : ℕ) (less : Bool) → list_all (was_sent (dials_in p log) p) log.takers ≡ true →
    list_all (was_sent (dials_in p log) p) (with_sent k (take n unsent) less log).takers ≡ true)
    → SentSome p log reported'
some_sent p log k reported reported' unsent o is front = record {
  log' = with_sent k (take o.n unsent) o.short log;
  reported_is = reported_on reported reported' log (with_sent k (take o.n unsent) o.short) is o.reported;
  calls = refl;
  bound = refl;
  dialled = refl;
  sent = front o.n o.short;
}
