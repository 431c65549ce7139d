-- What a connection is sent, nothing or in two goes: for one connection, for the list of them, and for the log.
use Rattle.std.proofs.{Common.{◌≡◌, ℕ, List, [], ◌∷◌, ◌++◌, length, Bool, false, Option, Some, None, eqb, refl, sym, ap, ◌∙◌, inl, inr, append_assoc}, lemmas.{Bool.{cases_Bool}, List.{append-nil}}}
use Rattle.hc_wire.specs.Logs.{Log, Taker, Reports, with_sent, changed_at, taking}

-- NOTHING IS SENT

taking-none : (n : ℕ) (c : Taker) → taking [] false n c ≡ c
taking-none n c = rw (append-nil c.sent) refl

changed-none : (k n : ℕ) (cs : List Taker) → changed_at k (taking [] false n) cs ≡ cs
changed-none k n [] = refl
changed-none k n (c ∷ cs) = elim (cases_Bool (eqb c.k k)) [
  | inl on ↦ rw on (ap (λ (d : Taker). d ∷ cs) (taking-none n c))
  | inr off ↦ rw off (ap (λ (ds : List Taker). c ∷ ds) (changed-none k n cs))
]

pub sent-none : (k : ℕ) (log : Log) → with_sent k [] false log ≡ log
sent-none k log = ap (λ (cs : List Taker). let l : Log = record log { takers = cs } in l) (changed-none k (length log.calls) log.takers)

pub reports-none : (k : ℕ) (l : Option Log) → Reports l l (with_sent k [] false)
reports-none k None = refl
reports-none k (Some log) = ap Some (sym (sent-none k log))

-- ONE BEHIND ANOTHER

taking-both : (n : ℕ) (a b : List ℕ) (s : Bool) (c : Taker) → taking b s n (taking a false n c) ≡ taking (a ++ b) s n c
taking-both n a b s c = rw (append_assoc c.sent a b) refl

changed-both : (k n : ℕ) (a b : List ℕ) (s : Bool) (cs : List Taker) →
    changed_at k (taking b s n) (changed_at k (taking a false n) cs) ≡ changed_at k (taking (a ++ b) s n) cs
changed-both k n a b s [] = refl
changed-both k n a b s (c ∷ cs) = elim (cases_Bool (eqb c.k k)) [
  | inl on ↦ rw on (rw on (ap (λ (d : Taker). d ∷ cs) (taking-both n a b s c)))
  | inr off ↦ rw off (rw off (ap (λ (ds : List Taker). c ∷ ds) (changed-both k n a b s cs)))
]

pub sent-both : (k : ℕ) (a b : List ℕ) (s : Bool) (log : Log) → with_sent k b s (with_sent k a false log) ≡ with_sent k (a ++ b) s log
sent-both k a b s log = ap (λ (cs : List Taker). let l : Log = record log { takers = cs } in l) (changed-both k (length log.calls) a b s log.takers)

pub reports-both : (k : ℕ) (a b : List ℕ) (s : Bool) (l m n : Option Log) → Reports l m (with_sent k a false) → Reports m n (with_sent k b s) →
    Reports l n (with_sent k (a ++ b) s)
reports-both k a b s None m n first second = let h = rw first at second in h
reports-both k a b s (Some log) m n first second = let h = rw first at second in h ∙ ap Some (sent-both k a b s log)
