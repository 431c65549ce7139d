-- Where a connection stands among the dials, what came of it, and whether it had ended.
--
-- A connection has the place at which its number stands first. So it has that among fewer dials that reach so far, and
-- among more. The bytes of a call stand behind those of the calls before it, and what had ended before a call has ended
-- behind it. `IsCutBy` is what is carried for an answer that ends by a close; no row comes before acts are carried out
-- (`no_row`).
use Rattle.std.{proofs.{Common.{◌≡◌, ◌≤◌, ◌<◌, ℕ, zero, suc, ◌+◌, ◌-◌, List, [], ◌∷◌, ◌++◌, Bool, true, false, Option, Some, None, refl, ap, ◌∙◌, arith}, lemmas.Bool.Decides.{nat_tests}}, specs.Prelude.{◌||◌, nat_eq, length, take, drop, Ok, Err, Contains, if◌then◌else◌, option_map}}
use Rattle.hc_effects.proofs.Vocabulary.{Act, Event, Limits, event}
use Rattle.hc_head.specs.declared.message.MsgError.TheVariants as error
use Rattle.hc_msg.specs.{Reading.{Reading, Heading, Counts, Runs, Sizing, Chunk, ChunkEnd, ChunkReturn, Trailing, Whole, Done, Failed}, Taking.{ending}, declared.message.WirePart.{WirePart}}
use Rattle.hc_msg.specs.declared.message.WirePart.TheVariants as part
use Rattle.hc_wire.specs.Logs.{Called}
use Rattle.hc_proxy.specs.{Asked.{got_by, got_from}, Connections.{is_dialled, place_from, exchange_of, first_of, connection_of}, Rows.{Upstream, Proxy}, Steps.{with_entry, stepped}, Ended.{is_end_of, has_ended}}
use Rattle.hc_proxy.proofs.{Asked.{got_more}, Turning.{IsKept}}

-- PLACES

dialled_is : (k : ℕ) (o : Option ℕ) → is_dialled k o ≡ true → o ≡ Some k
dialled_is k None is = absurd (let never : false ≡ true = is in cc)
dialled_is k (Some j) is = let number : j ≡ k = grind (arith, nat_tests) in ap Some number

-- the connection whose place is x
pub place_at : (i k x m : ℕ) (ks : List (Option ℕ)) → place_from i k (take m ks) ≡ Some x → (i ≤ x) × (first_of (drop (x - i) ks) ≡ Some k)
place_at i k x zero ks is = absurd (let never : None ≡ Some x = is in cc)
place_at i k x (suc m) [] is = absurd (let never : None ≡ Some x = is in cc)
place_at i k x (suc m) (j ∷ ks) is = by_test (is_dialled k j) refl is (λ more. place_at (i + 1) k x m ks more)
  where
    by_test : (b : Bool) → is_dialled k j ≡ b → (if b then Some i else place_from (i + 1) k (take m ks)) ≡ Some x
        → (place_from (i + 1) k (take m ks) ≡ Some x → (i + 1 ≤ x) × (first_of (drop (x - (i + 1)) ks) ≡ Some k)) → (i ≤ x) ×
        (first_of (drop (x - i) (j ∷ ks)) ≡ Some k)
    by_test true same here more =
        let at : i ≡ x = cc in
        let none : x - i ≡ 0 = omega arith in
        (omega arith, ap (λ (n : ℕ). first_of (drop n (j ∷ ks))) none ∙ dialled_is k j same)
    by_test false same later more =
        let rest = more later in
        let low : i + 1 ≤ x = rest.0 in
        let one : x - i ≡ suc (x - (i + 1)) = omega arith in
        (omega arith, ap (λ (n : ℕ). first_of (drop n (j ∷ ks))) one ∙ rest.1)

-- and it is there among the first that reach so far
pub place_before : (i k x m n : ℕ) (ks : List (Option ℕ)) → x < i + m → place_from i k (take n ks) ≡ Some x → place_from i k (take m ks) ≡ Some x
place_before i k x m zero ks lt is = absurd (let never : None ≡ Some x = is in cc)
place_before i k x m (suc n) [] lt is = absurd (let never : None ≡ Some x = is in cc)
place_before i k x zero (suc n) (j ∷ ks) lt is = let low = place_at i k x (suc n) (j ∷ ks) is in let le : i ≤ x = low.0 in absurd (omega arith)
place_before i k x (suc m) (suc n) (j ∷ ks) lt is = by_test (is_dialled k j) is (λ more. place_before (i + 1) k x m n ks (omega arith) more)
  where
    by_test : (b : Bool) → (if b then Some i else place_from (i + 1) k (take n ks)) ≡ Some x →
        (place_from (i + 1) k (take n ks) ≡ Some x → place_from (i + 1) k (take m ks) ≡ Some x) →
        (if b then Some i else place_from (i + 1) k (take m ks)) ≡ Some x
    by_test true here more = here
    by_test false later more = more later

-- and among more of them
pub place_after : (i k x m n : ℕ) (ks : List (Option ℕ)) → m ≤ n → place_from i k (take m ks) ≡ Some x → place_from i k (take n ks) ≡ Some x
place_after i k x zero n ks le is = absurd (let never : None ≡ Some x = is in cc)
place_after i k x (suc m) n [] le is = absurd (let never : None ≡ Some x = is in cc)
place_after i k x (suc m) zero (j ∷ ks) le is = absurd (omega arith)
place_after i k x (suc m) (suc n) (j ∷ ks) le is = by_test (is_dialled k j) is (λ more. place_after (i + 1) k x m n ks (omega arith) more)
  where
    by_test : (b : Bool) → (if b then Some i else place_from (i + 1) k (take m ks)) ≡ Some x →
        (place_from (i + 1) k (take m ks) ≡ Some x → place_from (i + 1) k (take n ks) ≡ Some x) →
        (if b then Some i else place_from (i + 1) k (take n ks)) ≡ Some x
    by_test true here more = here
    by_test false later more = more later

pub connection_at : (k x m : ℕ) (ks : List (Option ℕ)) → exchange_of (take m ks) k ≡ Some x → connection_of ks x ≡ Some k
connection_at k x m ks is =
    let at = place_at 1 k x m ks is in
    let low : 1 ≤ x = at.0 in
    let off : nat_eq x 0 ≡ false = grind (arith, nat_tests) in
    rw off at.1

-- WHAT CAME

abbrev pub came_by : Option ℕ → List Called → List ℕ
came_by None calls = []
came_by (Some k) calls = got_from k calls

abbrev pub new_by : Option ℕ → Called → List ℕ
new_by None call = []
new_by (Some k) call = got_by k call.event call.bytes

pub came_more : (o : Option ℕ) (calls : List Called) (call : Called) → came_by o (calls ++ call ∷ []) ≡ came_by o calls ++ new_by o call
came_more None calls call = refl
came_more (Some k) calls call = got_more k calls call

-- by one of these calls it had ended
abbrev pub ended_by : Option ℕ → List Called → Bool
ended_by None calls = false
ended_by (Some k) calls = has_ended k calls

pub any_more : (k : ℕ) (calls : List Called) (call : Called) → has_ended k calls ≡ true → has_ended k (calls ++ call ∷ []) ≡ true
any_more k [] call is = absurd (let never : false ≡ true = is in cc)
any_more k (first ∷ calls) call is = by_test (is_end_of k first.event) is (λ more. any_more k calls call more)
  where
    by_test : (b : Bool) → (b || has_ended k calls) ≡ true → (has_ended k calls ≡ true → has_ended k (calls ++ call ∷ []) ≡ true) →
        (b || has_ended k (calls ++ call ∷ [])) ≡ true
    by_test true is more = refl
    by_test false is more = more is

pub any_last : (k : ℕ) (calls : List Called) (call : Called) → is_end_of k call.event ≡ true → has_ended k (calls ++ call ∷ []) ≡ true
any_last k [] call is = ap (λ (b : Bool). b || false) is
any_last k (first ∷ calls) call is = by_test (is_end_of k first.event) (any_last k calls call is)
  where
    by_test : (b : Bool) → has_ended k (calls ++ call ∷ []) ≡ true → (b || has_ended k (calls ++ call ∷ [])) ≡ true
    by_test true more = refl
    by_test false more = more

pub ended_more : (o : Option ℕ) (calls : List Called) (call : Called) → ended_by o calls ≡ true → ended_by o (calls ++ call ∷ []) ≡ true
ended_more None calls call is = is
ended_more (Some k) calls call is = any_more k calls call is

-- the event ends the answer of an exchange
abbrev pub is_end : ℕ → Event → Bool
is_end x (event.End y) = nat_eq x y
is_end x _ = false

-- what the close comes to is an end, or an error
pub end_is : (t : Reading) (p : WirePart) → ending t ≡ Ok p → ending t ≡ Ok part.End
end_is (Heading kind scan text) p is = absurd (let never : Err error.CutOff ≡ Ok p = is in cc)
end_is (Counts left) p is = refl
end_is Runs p is = refl
end_is (Sizing text) p is = absurd (let never : Err error.CutOff ≡ Ok p = is in cc)
end_is (Chunk left) p is = absurd (let never : Err error.CutOff ≡ Ok p = is in cc)
end_is ChunkEnd p is = absurd (let never : Err error.CutOff ≡ Ok p = is in cc)
end_is ChunkReturn p is = absurd (let never : Err error.CutOff ≡ Ok p = is in cc)
end_is (Trailing place count) p is = absurd (let never : Err error.CutOff ≡ Ok p = is in cc)
end_is Whole p is = refl
end_is Done p is = refl
end_is (Failed e) p is = absurd (let never : Err e ≡ Ok p = is in cc)

pub none_came : (o : Option ℕ) → [] ≡ came_by o []
none_came None = refl
none_came (Some k) = refl

-- it is among all of them
pub among_all : (done acts : List Act) (a : Act) → Contains (done ++ a ∷ acts) a
among_all [] acts a = (zero, omega arith, refl)
among_all (d ∷ done) acts a = let rest = among_all done acts a in let lt : rest.0 < length (done ++ a ∷ acts) = rest.1 in (suc rest.0, omega arith, rest.2)

-- all that came until a call behind the end was read, and the close makes it whole
pub record IsCutBy (o : Option ℕ) (behind : List Called) (front : List ℕ) (reading : Reading) : Type 0 where
  pub first : List Called
  pub last : List Called
  pub calls_are : behind ≡ first ++ last
  pub over : ended_by o first ≡ true
  pub all : front ≡ came_by o first
  pub ends : ending reading ≡ Ok part.End

-- ITS ROW

-- no row comes before acts are carried out
pub no_row : (limits : Limits) (x : ℕ) → IsKept limits (λ p q. p.upstream x ≡ None → q.upstream x ≡ None)
unfolding with_entry
no_row limits x = record {
  none = λ p none. none;
  both = λ p q r a b none. b (a none);
  comes = λ k p may none. none;
  client = λ k change p is none. none;
  origin = λ y change p is none. changed_none change (nat_eq x y) (p.upstream x) none;
  holder = λ c k p none. none;
  steps = λ ev p none. step_none ev p none;
}
  where
    changed_none : (change : Upstream → Upstream) (b : Bool) (o : Option Upstream) → o ≡ None → (if b then option_map change o else o) ≡ None
    changed_none change true o none = ap (option_map change) none
    changed_none change false o none = none

    step_none : (ev : Event) (p : Proxy) → p.upstream x ≡ None → (stepped limits ev p).upstream x ≡ None
    step_none ev p none = none
