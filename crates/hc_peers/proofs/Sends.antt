-- What a connection is sent in several goes, as if it was offered all of it at once. Sending nothing leaves the wire's log
-- as it is, and sending twice, the first time without falling short, is sending both texts at once. An offer that took all of its bytes leaves nothing, so the next one
-- begins where it ended; one that leaves something is the last. The lemmas at the end put three offers together, as a box
-- makes them of its three parts.
use Rattle.std.{proofs.{Common.{◌≡◌, ℕ, ◌+◌, ◌<◌, ◌≤◌, List, [], ◌∷◌, ◌++◌, length, take, drop, false, Option, refl, sym, ap, ◌∙◌, arith, length-append, length-drop}, lemmas.{Bool.Decides.{nat_tests}, List.{drop-append-le, take-append-le}}, Math.Seq.{take-length, take-append-add, drop-append-add}}, specs.Prelude.{nat_lt}}
use Rattle.hc_wire.specs.Logs.{Log, Reports, with_sent}
use Rattle.hc_wire.proofs.SentLemmas.{reports-none, reports-both}
use Rattle.hc_peers.specs.Offers.{Offers, OffersSome}

-- OFFERS

pub offers-none : (k : ℕ) (old : List ℕ) (l : Option Log) → old ≡ [] → Offers k old old l l
offers-none k old l none = rw none (record { n = 0; within = omega arith; left = refl; reported = reports-none k l })

pub some-none : (k : ℕ) (old : List ℕ) (l m : Option Log) → m ≡ l → OffersSome k old l m
some-none k old l m same = rw same (record { n = 0; short = false; within = omega arith; reported = reports-none k l })

-- all of it was taken
all-taken : (n : ℕ) (a left : List ℕ) → n ≤ length a → left ≡ drop n a → left ≡ [] → n ≡ length a
all-taken n a left within is none = let size = length-drop n a in let same : length left ≡ length (drop n a) = ap length is in
    let zero : length left ≡ 0 = ap length none in omega arith

all-reported : (k n : ℕ) (a : List ℕ) (l m : Option Log) → n ≡ length a → Reports l m (with_sent k (take n a) (nat_lt n (length a))) →
    Reports l m (with_sent k a false)
all-reported k n a l m all reported =
    let not_less : nat_lt (length a) (length a) ≡ false = grind (arith, nat_tests) in
    rw (all, take-length a, not_less) at reported

less-past : (p n q : ℕ) → nat_lt (p + n) (p + q) ≡ nat_lt n q
less-past p n q = grind (arith, nat_tests)

module _ (k : ℕ) (a b a' : List ℕ) (l m : Option Log) (first : Offers k a a' l m) where
  -- where something is left of the first, the second waits
  pub offers-before : 0 < length a' → Offers k (a ++ b) (a' ++ b) l m
  offers-before some =
      let size = length-drop first.n a in
      let same : length a' ≡ length (drop first.n a) = ap length first.left in
      let less : first.n < length a = omega arith in
      let le : first.n ≤ length a = omega arith in
      let short : nat_lt first.n (length a + length b) ≡ nat_lt first.n (length a) = grind (arith, nat_tests) in
      record {
        n = first.n;
        within = let both = length-append a b in omega arith;
        left = ap (λ (x : List ℕ). x ++ b) first.left ∙ sym (drop-append-le first.n a b le);
        reported = rw (length-append a b, take-append-le first.n a b le, short) first.reported;
      }

  pub offers-behind : (b' : List ℕ) (n : Option Log) → a' ≡ [] → Offers k b b' m n → Offers k (a ++ b) b' l n
  offers-behind b' n none second =
      let all = all-taken first.n a a' first.within first.left none in
      record {
        n = length a + second.n;
        within = let both = length-append a b in let w = second.within in omega arith;
        left = second.left ∙ sym (drop-append-add a b second.n);
        reported = rw (length-append a b, take-append-add a b second.n, less-past (length a) second.n (length b))
            (reports-both k a (take second.n b) (nat_lt second.n (length b)) l m n (all-reported k first.n a l m all first.reported) second.reported);
      }

  pub some-behind : (n : Option Log) → a' ≡ [] → OffersSome k b m n → OffersSome k (a ++ b) l n
  some-behind n none second =
      let all = all-taken first.n a a' first.within first.left none in
      record {
        n = length a + second.n;
        short = second.short;
        within = let both = length-append a b in let w = second.within in omega arith;
        reported = rw (take-append-add a b second.n)
            (reports-both k a (take second.n b) second.short l m n (all-reported k first.n a l m all first.reported) second.reported);
      }

pub some-before : (k : ℕ) (a b : List ℕ) (l m : Option Log) → OffersSome k a l m → OffersSome k (a ++ b) l m
some-before k a b l m first =
    let le = first.within in
    record {
      n = first.n;
      short = first.short;
      within = let both = length-append a b in omega arith;
      reported = rw (take-append-le first.n a b le) first.reported;
    }

-- THREE, ONE BEHIND ANOTHER

module _ (k : ℕ) (f b back f' : List ℕ) (l m n : Option Log) (first : Offers k f f' l m) (none : f' ≡ []) where
  pub some-second : OffersSome k b m n → OffersSome k ((f ++ b) ++ back) l n
  some-second second = some-before k (f ++ b) back l n (some-behind k f b f' l m first n none second)

  pub offers-second : (b' : List ℕ) → Offers k b b' m n → 0 < length b' → Offers k ((f ++ b) ++ back) ((f' ++ b') ++ back) l n
  offers-second b' second some = rw none (offers-before k (f ++ b) back b' l n (offers-behind k f b f' l m first b' n none second) some)

  pub some-third : (b' : List ℕ) (o : Option Log) → Offers k b b' m n → b' ≡ [] → OffersSome k back n o → OffersSome k ((f ++ b) ++ back) l o
  some-third b' o second none' third = some-behind k (f ++ b) back b' l n (offers-behind k f b f' l m first b' n none second) o none' third

  pub offers-third : (b' back' : List ℕ) (o : Option Log) → Offers k b b' m n → b' ≡ [] → Offers k back back' n o →
      Offers k ((f ++ b) ++ back) ((f' ++ b') ++ back') l o
  offers-third b' back' o second none' third =
      rw (none, none') (offers-behind k (f ++ b) back b' l n (offers-behind k f b f' l m first b' n none second) back' o none' third)
