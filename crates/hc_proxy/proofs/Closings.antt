-- Connections are closed, one after another: what the wire tells, if it tells anything.
--
-- A connection that is closed has its taker shut, and its stage is that of a closed one; all others stand as before,
-- and nothing is sent. So what is said of some closes holds of one more, in any order, and of each first part of a
-- list. `closes_none` and `closes_one` begin and go on; `closes_next` and `closes_all` are the same along a list.
use Rattle.std.{proofs.{Common.{◌≡◌, ◌⊎◌, ℕ, List, [], ◌∷◌, ◌++◌, Bool, true, false, Option, Some, None, eqb, refl, sym, ap, ◌∙◌, inl, inr, subst, arith, get_or, take, length, ◌+◌, ◌<◌}, lemmas.{Bool.{cases_Bool, eqb-true}, List.{append-nil, take_more}}, Math.Seq.{take-length}}, specs.{Prelude.{nat_eq, ◌||◌, if◌then◌else◌}, List.{list_any}}}
use Rattle.hc_wire.specs.{Events.{Stage, Unseen, Open, Closed, with_stage, closed_of}, Logs.{Log, Taker, Reports, stage_in, changed_at, shut, with_closed}}
use Rattle.hc_wire.proofs.LogLemmas.{stages-changed, stage_shut}
use Rattle.hc_proxy.specs.{Logging.{Follows, Dials}, Underway.{closed_among, shut_each, Closes}}
use Rattle.hc_proxy.proofs.Takers.{apart_stays, sent_stays}

pub reported_on : (reported reported' : Option Log) (log : Log) (f : Log → Log) → (reported ≡ None) ⊎ (reported ≡ Some log) →
    Reports reported reported' f → (reported' ≡ None) ⊎ (reported' ≡ Some (f log))
reported_on None reported' log f is reports = inl reports
reported_on (Some l) reported' log f (inl unreported) reports = absurd (let never : Some l ≡ None = unreported in cc)
reported_on (Some l) reported' log f (inr same) reports = let it : l ≡ log = cc in inr (reports ∙ ap (λ (x : Log). Some (f x)) it)

pub dials_none : (log : Log) → Dials [] log log
dials_none log = record {
  calls = refl;
  bound = refl;
  dialled = sym (append-nil log.dialled);
  sent = λ k. refl;
  new =
      λ k among. absurd (let lt = among.1 in omega arith);
  unseen = λ k is. is;
}

twice : (s : Stage) → closed_of (closed_of s) ≡ closed_of s
twice Unseen = refl
twice (Open reads ended) = refl
twice Closed = refl

any_more : (j : ℕ) (ks : List ℕ) (k : ℕ) → list_any (nat_eq j) (ks ++ k ∷ []) ≡ (list_any (nat_eq j) ks || nat_eq j k)
any_more j [] k = by_test (nat_eq j k)
  where
    by_test : (b : Bool) → (b || false) ≡ b
    by_test true = refl
    by_test false = refl
any_more j (i ∷ ks) k = rw (any_more j ks k) (by_test (nat_eq j i))
  where
    by_test : (b : Bool) → (b || (list_any (nat_eq j) ks || nat_eq j k)) ≡ ((b || list_any (nat_eq j) ks) || nat_eq j k)
    by_test true = refl
    by_test false = refl

one_more : (ks : List ℕ) (k : ℕ) (before : ℕ → Stage) (j : ℕ) →
    with_stage k (closed_of (closed_among ks before k)) (closed_among ks before) j ≡ closed_among (ks ++ k ∷ []) before j
one_more ks k before j = elim (cases_Bool (eqb j k)) [
  | inl here ↦
      let same : j ≡ k = eqb-true j k here in
      rw (any_more j ks k, here) (rw (sym same) (by_both (list_any (nat_eq j) ks)))
  | inr off ↦ rw (any_more j ks k, off) (by_any (list_any (nat_eq j) ks))
]
  where
    by_both : (b : Bool) → closed_of (if b then closed_of (before j) else before j) ≡ (if b || true then closed_of (before j) else before j)
    by_both true = twice (before j)
    by_both false = refl

    by_any : (b : Bool) → (if b then closed_of (before j) else before j) ≡ (if b || false then closed_of (before j) else before j)
    by_any true = refl
    by_any false = refl

pub closes_none : (log : Log) (reported : Option Log) (before : ℕ → Stage) → Follows reported before log → Closes [] log reported before before
closes_none log reported before follows = record { log' = log; follows = follows; dials = dials_none log; stands = λ j. refl; takers = refl }

closed_unseen : (s : Stage) → closed_of s ≡ Unseen → s ≡ Unseen
closed_unseen Unseen is = refl
closed_unseen (Open reads ended) is = absurd (let never : Closed ≡ Unseen = is in cc)
closed_unseen Closed is = absurd (let never : Closed ≡ Unseen = is in cc)

unseen_shut : (k : ℕ) (cs : List Taker) (j : ℕ) → stage_in (changed_at k shut cs) j ≡ Unseen → stage_in cs j ≡ Unseen
unseen_shut k cs j is = elim (cases_Bool (eqb j k)) [
  | inl here ↦ let same : j ≡ k = eqb-true j k here in
      ap (stage_in cs) same ∙ closed_unseen (stage_in cs k) (sym (rw here refl) ∙ (sym (stages-changed k shut (λ d. refl) closed_of refl stage_shut cs j) ∙ is))
  | inr off ↦ sym (rw off refl) ∙ (sym (stages-changed k shut (λ d. refl) closed_of refl stage_shut cs j) ∙ is)
]

-- one more
pub closes_one : (ks : List ℕ) (k : ℕ) (log : Log) (reported reported' : Option Log) (before between after : ℕ → Stage)
    → Closes ks log reported before between → Reports reported reported' (with_closed k)
    → ((j : ℕ) → after j ≡ with_stage k (closed_of (between k)) between j) → Closes (ks ++ k ∷ []) log reported' before after
closes_one ks k log reported reported' before between after c reports stands = record {
  log' = with_closed k c.log';
  follows = record {
    reported_is = reported_on reported reported' c.log' (with_closed k) c.follows.reported_is reports;
    stands = λ j. stands j ∙ (rw (c.follows.stands k, c.follows.stands j) (sym (stages-changed k shut (λ d. refl) closed_of refl stage_shut c.log'.takers j)));
    apart = apart_stays k shut (λ d. refl) c.log'.takers c.follows.apart;
  };
  dials = record {
    calls = c.dials.calls;
    bound = c.dials.bound;
    dialled = c.dials.dialled;
    sent = λ j. sent_stays k shut (λ d. refl) (λ d. refl) c.log'.takers j ∙ c.dials.sent j;
    new = c.dials.new;
    unseen = λ j is. c.dials.unseen j (unseen_shut k c.log'.takers j is);
  };
  stands = λ j. stands j ∙ (rw (c.stands k, c.stands j) (one_more ks k before j));
  takers = ap (changed_at k shut) c.takers ∙ sym (shut_more ks log.takers);
}
  where
    shut_more : (js : List ℕ) (cs : List Taker) → shut_each (js ++ k ∷ []) cs ≡ changed_at k shut (shut_each js cs)
    shut_more [] cs = refl
    shut_more (j ∷ js) cs = shut_more js (changed_at j shut cs)

-- the next of a list
pub closes_next : (ks : List ℕ) (i : ℕ) (log : Log) (reported reported' : Option Log) (before between after : ℕ → Stage)
    → i < length ks → Closes (take i ks) log reported before between → Reports reported reported' (with_closed (get_or ks i 0))
    → ((j : ℕ) → after j ≡ with_stage (get_or ks i 0) (closed_of (between (get_or ks i 0))) between j) → Closes (take (i + 1) ks) log reported' before after
closes_next ks i log reported reported' before between after lt c reports stands =
    subst (λ (done : List ℕ). Closes done log reported' before after) (sym (take_more ks i 0 lt))
    (closes_one (take i ks) (get_or ks i 0) log reported reported' before between after c reports stands)

-- all of them
pub closes_all : (ks : List ℕ) (i : ℕ) (log : Log) (reported : Option Log) (before after : ℕ → Stage)
    → i ≡ length ks → Closes (take i ks) log reported before after → Closes ks log reported before after
closes_all ks i log reported before after all c =
    subst (λ (done : List ℕ). Closes done log reported before after) (ap (λ (n : ℕ). take n ks) all ∙ take-length ks) c
