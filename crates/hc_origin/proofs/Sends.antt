-- What one connection is sent, one piece after another.
--
-- To send nothing changes nothing, and to send some bytes and then more is to send them together. So the pieces that
-- were taken are told as one (`sends-more`), of which the last may have been taken in part.
use Rattle.std.{proofs.{Common.{◌≡◌, ℕ, ◌-◌, ◌<◌, ◌≤◌, List, [], ◌∷◌, ◌++◌, length, take, drop, Bool, true, false, Option, Some, None, refl, sym, ap, subst, ◌∙◌, inl, inr, arith, append_assoc, length-take, length-drop, lt-ltb, ltb}, lemmas.{List.{take-append-drop, take-take}, Bool.{cases_Bool, ltb-true}}}, specs.Prelude.{if◌then◌else◌, nat_lt}}
use Rattle.hc_wire.specs.Logs.{Log, Reports, with_sent}
use Rattle.hc_wire.proofs.SentLemmas.{sent-none, reports-both}
use Rattle.hc_origin.specs.Replies.{IsPiece, Sends}

pub sends-none : (reported : Option Log) (k : ℕ) (bytes : List ℕ) → Sends reported reported k bytes bytes false
sends-none None k bytes = record { bytes = []; whole = refl; reports = refl }
sends-none (Some log) k bytes = record { bytes = []; whole = refl; reports = ap Some (sym (sent-none k log)) }

-- one piece more, of which so many bytes were taken
pub sends-more : (reported mid new : Option Log) (k n : ℕ) (before left piece behind : List ℕ) (short : Bool) → Sends reported mid k before left false
    → IsPiece left piece → n ≤ length piece → behind ≡ drop n left → Reports mid new (with_sent k (take n piece) short) →
    Sends reported new k before behind short
sends-more reported mid new k n before left piece behind short sends is le rest reports = record {
  bytes = sends.bytes ++ take n piece;
  whole =
      let front : take n piece ≡ take n left = ap (take n) is.front ∙ take-take n (length piece) left le in
      append_assoc sends.bytes (take n piece) behind
      ∙ (ap (λ (l : List ℕ). sends.bytes ++ (l ++ behind)) front
      ∙ (ap (λ (l : List ℕ). sends.bytes ++ (take n left ++ l)) rest
      ∙ (ap (λ (l : List ℕ). sends.bytes ++ l) (take-append-drop n left) ∙ sends.whole)));
  reports = reports-both k sends.bytes (take n piece) short reported mid new sends.reports reports;
}

short : (n m : ℕ) → n < m → nat_lt n m ≡ true
short n m lt = lt-ltb n m lt

long : (n m : ℕ) → m ≤ n → nat_lt n m ≡ false
long n m le = elim (cases_Bool (ltb n m)) [
  | inl on ↦ let lt = ltb-true n m on in absurd (omega arith)
  | inr off ↦ off
]

-- the same with its own number, where less than the piece was taken
pub sends-some : (reported mid new : Option Log) (k own n : ℕ) (before left piece behind : List ℕ) → Sends reported mid k before left false → own ≡ k
    → IsPiece left piece → n < length piece → behind ≡ drop n left → Reports mid new (with_sent own (take n piece) (nat_lt n (length piece)))
    → Sends reported new k before behind true × (0 < length behind)
sends-some reported mid new k own n before left piece behind sends same is lt rest reports =
    let reports_k : Reports mid new (with_sent k (take n piece) true) =
    subst (λ (b : Bool). Reports mid new (with_sent k (take n piece) b)) (short n (length piece) lt)
    (subst (λ (m : ℕ). Reports mid new (with_sent m (take n piece) (nat_lt n (length piece)))) same reports) in
    let front : length piece ≡ length (take (length piece) left) = ap length is.front in
    let cut = length-take (length piece) left in
    let behind_len : length behind ≡ length left - n = ap length rest ∙ length-drop n left in
    (sends-more reported mid new k n before left piece behind true sends is (omega arith) rest reports_k, omega arith)

-- and where all of it was
pub sends-all : (reported mid new : Option Log) (k own n : ℕ) (before left piece behind : List ℕ) → Sends reported mid k before left false → own ≡ k
    → IsPiece left piece → n ≤ length piece → length piece ≤ n → behind ≡ drop n left → Reports mid new (with_sent own (take n piece) (nat_lt n (length piece)))
    → Sends reported new k before behind false
sends-all reported mid new k own n before left piece behind sends same is le ge rest reports =
    let reports_k : Reports mid new (with_sent k (take n piece) false) =
    subst (λ (b : Bool). Reports mid new (with_sent k (take n piece) b)) (long n (length piece) ge)
    (subst (λ (m : ℕ). Reports mid new (with_sent m (take n piece) (nat_lt n (length piece)))) same reports) in
    sends-more reported mid new k n before left piece behind false sends is le rest reports_k
