-- How the open connections stand at a call, by the takers of the log.
--
-- No two takers have one number. So each is the one that is found by its number, and what holds of each that is found
-- holds of all. A call tells of each taker that is open; so whose number is found in it, and what that has taken, are
-- the taker's. `stands_found` and `taken_found` are of one taker, `standings_all` of all that a call tells.
use Rattle.std.{proofs.{Common.{◌≡◌, ◌≤◌, ℕ, List, [], ◌∷◌, Bool, true, false, Option, Some, None, refl, ap, sym, ◌∙◌, arith}, lemmas.Bool.Decides.{nat_tests}}, specs.{Prelude.{◌&&◌, ◌||◌, nat_eq, find, filter, map, length, is_some, if◌then◌else◌}, List.{list_all, list_any}}}
use Rattle.hc_text.proofs.Basics.{both_true as both_hold, eq_itself as same_test, some_inj as some_is}
use Rattle.hc_wire.specs.{Events.{Stage, Unseen, Open, Closed}, Logs.{Log, Taker, Called, is_numbered, is_taking, standing_of, standings_in, stage_from, stage_in, sent_from, sent_in}, declared.connection.Standing.{Standing}}
use Rattle.hc_proxy.specs.{Connections.{is_of, stands, taken_at, taken_by}, Logging.{AreApart}}

-- WHOEVER IS FOUND

pub found_number : (k : ℕ) (c : Taker) (cs : List Taker) → find (is_numbered k) cs ≡ Some c → c.k ≡ k
found_number k c [] is = absurd (let never : None ≡ Some c = is in cc)
found_number k c (d ∷ cs) is = by_test (λ h. found_number k c cs h) (nat_eq d.k k) refl is
  where
    by_test : (find (is_numbered k) cs ≡ Some c → c.k ≡ k) → (b : Bool) → nat_eq d.k k ≡ b → (if b then Some d else find (is_numbered k) cs) ≡ Some c → c.k ≡ k
    by_test rest true at h =
        let number : d.k ≡ k = grind (arith, nat_tests) in
        ap (λ (t : Taker). t.k) (sym (some_is d c h)) ∙ number
    by_test rest false at h = rest h

found_later : (c d : Taker) (cs : List Taker) → find (is_numbered c.k) cs ≡ None → find (is_numbered d.k) cs ≡ Some d → find (is_numbered d.k) (c ∷ cs) ≡ Some d
found_later c d cs none is = by_test (nat_eq c.k d.k) refl
  where
    by_test : (b : Bool) → nat_eq c.k d.k ≡ b → (if b then Some c else find (is_numbered d.k) cs) ≡ Some d
    by_test false off = is
    by_test true same =
        let number : c.k ≡ d.k = grind (arith, nat_tests) in
        absurd (let never : None ≡ Some d = sym none ∙ (ap (λ (n : ℕ). find (is_numbered n) cs) number ∙ is) in cc)

found_first : (c : Taker) (cs : List Taker) → find (is_numbered c.k) (c ∷ cs) ≡ Some c
found_first c cs = by_test (nat_eq c.k c.k) (same_test c.k)
  where
    by_test : (b : Bool) → b ≡ true → (if b then Some c else find (is_numbered c.k) cs) ≡ Some c
    by_test true is = refl
    by_test false is = absurd (let never : false ≡ true = is in cc)

pub all_found : (test : Taker → Bool) (cs : List Taker) → AreApart cs → ((c : Taker) → find (is_numbered c.k) cs ≡ Some c → test c ≡ true) →
    list_all test cs ≡ true
all_found test [] apart each = refl
all_found test (c ∷ cs) apart each =
    both_hold (test c) (list_all test cs) (each c (found_first c cs)) (all_found test cs apart.1 (λ d is. each d (found_later c d cs apart.0 is)))

-- AT A CALL

live_by : ℕ → Taker → Bool → Option Standing
live_by n c a = if a then Some (standing_of n c) else None

pub live_standing : ℕ → Option Taker → Option Standing
live_standing n None = None
live_standing n (Some c) = live_by n c c.live

standing_found : (n k : ℕ) (cs : List Taker) → AreApart cs →
    find (is_of k) (map (standing_of n) (filter is_taking cs)) ≡ live_standing n (find (is_numbered k) cs)
unfolding live_standing live_by
standing_found n k [] apart = refl
standing_found n k (c ∷ cs) apart = by_tests (standing_found n k cs apart.1) c.live (nat_eq c.k k) refl ∙ sym (is_by (nat_eq c.k k))
  where
    is_by : (b : Bool) → live_standing n
        (if b then Some c else find (is_numbered k) cs) ≡ (if b then live_by n c c.live else live_standing n (find (is_numbered k) cs))
    is_by true = refl
    is_by false = refl

    missing : nat_eq c.k k ≡ true → find (is_numbered k) cs ≡ None
    missing at =
        let number : c.k ≡ k = grind (arith, nat_tests) in
        sym (ap (λ (m : ℕ). find (is_numbered m) cs) number) ∙ apart.0

    head : find (is_of k) (map (standing_of n) (filter is_taking cs)) ≡ live_standing n (find (is_numbered k) cs) → (b : Bool) → nat_eq c.k k ≡ b →
        (if nat_eq c.k k then Some (standing_of n c) else find (is_of k) (map (standing_of n) (filter is_taking cs))) ≡ (if b then
        Some (standing_of n c) else live_standing n (find (is_numbered k) cs))
    head first true at = rw at refl
    head first false at = rw at first

    by_tests : find (is_of k) (map (standing_of n) (filter is_taking cs)) ≡ live_standing n (find (is_numbered k) cs) → (a b : Bool) → nat_eq c.k k ≡ b →
        find (is_of k) (map (standing_of n) (if a then c ∷ filter is_taking cs else filter is_taking cs)) ≡ (if b then live_by n c a else
        live_standing n (find (is_numbered k) cs))
    by_tests first true true at = head first true at
    by_tests first true false at = head first false at
    by_tests first false true at = first ∙ ap (live_standing n) (missing at)
    by_tests first false false at = first

any_found : (k : ℕ) (ss : List Standing) → list_any (is_of k) ss ≡ is_some (find (is_of k) ss)
any_found k [] = refl
any_found k (s ∷ ss) = by_test (is_of k s) (any_found k ss)
  where
    by_test : (b : Bool) → list_any (is_of k) ss ≡ is_some (find (is_of k) ss) →
        (b || list_any (is_of k) ss) ≡ is_some (if b then Some s else find (is_of k) ss)
    by_test true rest = refl
    by_test false rest = rest

-- a call that tells how they stood
module _ (log : Log) (call : Called) (reported : call.standings ≡ standings_in log) (apart : AreApart log.takers) where
  at_call : (k : ℕ) → find (is_of k) call.standings ≡ live_standing (length log.calls) (find (is_numbered k) log.takers)
  at_call k = ap (find (is_of k)) reported ∙ standing_found (length log.calls) k log.takers apart

  pub taken_found : (k : ℕ) (c : Taker) → find (is_numbered k) log.takers ≡ Some c → c.live ≡ true → taken_at call k ≡ length c.sent
  unfolding live_standing live_by
  taken_found k c is live = ap taken_by (at_call k ∙ (ap (live_standing (length log.calls)) is ∙ by_live c.live live))
    where
      by_live : (b : Bool) → b ≡ true → (if b then Some (standing_of (length log.calls) c) else None) ≡ Some (standing_of (length log.calls) c)
      by_live true on = refl
      by_live false on = absurd (let never : false ≡ true = on in cc)

  pub stands_found : (k : ℕ) (c : Taker) → find (is_numbered k) log.takers ≡ Some c → stands call k ≡ c.live
  unfolding live_standing live_by
  stands_found k c is = any_found k call.standings ∙ (ap is_some (at_call k ∙ ap (live_standing (length log.calls)) is) ∙ by_live c.live)
    where
      by_live : (b : Bool) → is_some (if b then Some (standing_of (length log.calls) c) else None) ≡ b
      by_live true = refl
      by_live false = refl

  pub stands_missing : (k : ℕ) → find (is_numbered k) log.takers ≡ None → stands call k ≡ false
  unfolding live_standing live_by
  stands_missing k is = any_found k call.standings ∙ ap is_some (at_call k ∙ ap (live_standing (length log.calls)) is)

  pub taken_missing : (k : ℕ) → find (is_numbered k) log.takers ≡ None → taken_at call k ≡ 0
  unfolding live_standing live_by
  taken_missing k is = ap taken_by (at_call k ∙ ap (live_standing (length log.calls)) is)

  -- it took no more by then than it has taken
  pub taken_within : (k : ℕ) (c : Taker) → find (is_numbered k) log.takers ≡ Some c → taken_at call k ≤ length c.sent
  unfolding live_standing live_by
  taken_within k c is = by_taken (taken_at call k) (ap taken_by (at_call k ∙ ap (live_standing (length log.calls)) is) ∙ by_live c.live)
    where
      taken_so : Bool → ℕ
      taken_so b = if b then length c.sent else 0

      by_live : (b : Bool) → taken_by (if b then Some (standing_of (length log.calls) c) else None) ≡ (if b then length c.sent else 0)
      by_live true = refl
      by_live false = refl

      little : (b : Bool) → (if b then length c.sent else 0) ≤ length c.sent
      little true = omega arith
      little false = omega arith

      by_taken : (m : ℕ) → m ≡ (if c.live then length c.sent else 0) → m ≤ length c.sent
      by_taken m is_so = rw is_so (little c.live)

  -- what holds of each open one holds of all that it tells of
  pub standings_all : (test : Standing → Bool) →
      ((c : Taker) → find (is_numbered c.k) log.takers ≡ Some c → c.live ≡ true → test (standing_of (length log.calls) c) ≡ true) →
      list_all test call.standings ≡ true
  standings_all test each =
      ap (list_all test) reported
      ∙ (by_list log.takers ∙ all_found (λ (c : Taker). if c.live then test (standing_of (length log.calls) c) else true) log.takers apart
      (λ c is. by_live c c.live refl (each c is)))
    where
      by_live : (c : Taker) (b : Bool) → c.live ≡ b → (c.live ≡ true → test (standing_of (length log.calls) c) ≡ true) →
          (if b then test (standing_of (length log.calls) c) else true) ≡ true
      by_live c true is holds = holds is
      by_live c false is holds = refl

      by_list : (cs : List Taker) →
          list_all test (map (standing_of (length log.calls)) (filter is_taking cs)) ≡ list_all
          (λ (c : Taker). if c.live then test (standing_of (length log.calls) c) else true) cs
      by_list [] = refl
      by_list (c ∷ cs) = by_one c.live (by_list cs)
        where
          by_one : (b : Bool) → list_all test (map (standing_of (length log.calls)) (filter is_taking cs)) ≡ list_all
              (λ (d : Taker). if d.live then test (standing_of (length log.calls) d) else true) cs
              → list_all test (map (standing_of (length log.calls)) (if b then c ∷ filter is_taking cs else filter is_taking cs)) ≡
              ((if b then test (standing_of (length log.calls) c) else true) && list_all
              (λ (d : Taker). if d.live then test (standing_of (length log.calls) d) else true) cs)
          by_one true rest = ap (λ (b : Bool). test (standing_of (length log.calls) c) && b) rest
          by_one false rest = rest

-- STAGES

pub record IsOpenTaker (k : ℕ) (reads ended : Bool) (cs : List Taker) : Type 0 where
  pub c : Taker
  pub found : find (is_numbered k) cs ≡ Some c
  pub live : c.live ≡ true
  pub reads_so : c.reads ≡ reads

pub open_taker : (k : ℕ) (reads ended : Bool) (cs : List Taker) → stage_in cs k ≡ Open reads ended → IsOpenTaker k reads ended cs
open_taker k reads ended cs is = by_found (find (is_numbered k) cs) refl is
  where
    reads_of : Stage → Bool
    reads_of Unseen = false
    reads_of (Open r e) = r
    reads_of Closed = false

    by_live : (c : Taker) (b : Bool) → c.live ≡ b → find (is_numbered k) cs ≡ Some c → (if b then Open c.reads c.ended else Closed) ≡ Open reads ended →
        IsOpenTaker k reads ended cs
    by_live c true live found at = record { c = c; found = found; live = live; reads_so = ap reads_of at }
    by_live c false live found at = absurd (let never : Closed ≡ Open reads ended = at in cc)

    by_found : (o : Option Taker) → find (is_numbered k) cs ≡ o → stage_from o ≡ Open reads ended → IsOpenTaker k reads ended cs
    by_found None found at = absurd (let never : Unseen ≡ Open reads ended = at in cc)
    by_found (Some c) found at = by_live c c.live refl found at

-- an open taker's stage
pub taker_stage : (k : ℕ) (c : Taker) (cs : List Taker) → find (is_numbered k) cs ≡ Some c → c.live ≡ true → stage_in cs k ≡ Open c.reads c.ended
taker_stage k c cs found live = ap stage_from found ∙ by_live c.live live
  where
    by_live : (b : Bool) → b ≡ true → (if b then Open c.reads c.ended else Closed) ≡ Open c.reads c.ended
    by_live true is = refl
    by_live false is = absurd (let never : false ≡ true = is in cc)

pub sent_found : (k : ℕ) (c : Taker) (cs : List Taker) → find (is_numbered k) cs ≡ Some c → sent_in cs k ≡ c.sent
sent_found k c cs found = ap sent_from found
