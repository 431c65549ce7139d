-- A text begins with one part of each form at most.
--
-- A number ends at the byte behind its digits, so two such texts are cut alike (`ended_once`). A byte tells the kind,
-- and a total has a fixed length, with hyphens where it isn't known; 20 hyphens are no number (`no_hyphens`). So a seal
-- is one (`seal_once`), and each of the numbers in a row (`numbers_once`). The other way, a text that goes on otherwise
-- behind some parts begins with no such line (`no_line_end`, `no_second` to `no_fifth`).
use Rattle.std.{proofs.{Common.{◌≡◌, ◌≢◌, ℕ, ◌<◌, List, [], ◌∷◌, ◌++◌, take, drop, Option, Some, None, refl, sym, ap, ◌∙◌, arith}, lemmas.{Fmt.{decimal_injective}, List.{append_assoc, take_at, drop_at}}}, specs.{Prelude.{if◌then◌else◌, ◌==◌, replicate}, Fmt.{decimal}}}
use Rattle.hc_text.specs.Numbers.{IsNumber}
use Rattle.hc_record.specs.{declared.{kind.Kind.{Kind, TheVariants.{Growing, Whole, Truncated, Ranges}}, parts.Numbers.{Numbers}}, Lines.{kind_byte, total_text, seal_line, numbers_line, number_and_end, IsSmall, IsSmallTotal}, Parts.{numbers_text, AreSmall}}
use Rattle.hc_text.proofs.Cuts.{cut_once, lacks-decimal}
use Rattle.hc_record.proofs.Totals.{length-total_text, IsNumber-total}

-- a number and the byte behind it
pub ended_once : (e n m : ℕ) (r s : List ℕ) → e < 48 → IsSmall n → IsSmall m → number_and_end e n ++ r ≡ number_and_end e m ++ s → (n ≡ m) × (r ≡ s)
ended_once e n m r s below small_n small_m same =
    let cut = cut_once e (decimal n) r (decimal m) s (lacks-decimal e n below small_n) (lacks-decimal e m below small_m)
    (sym (append_assoc (decimal n) (e ∷ []) r) ∙ (same ∙ append_assoc (decimal m) (e ∷ []) s)) in
    (decimal_injective n m (omega arith) (omega arith) cut.0, cut.1)

kind_of : ℕ → Kind
kind_of b = if b == 71 then Growing else (if b == 87 then Whole else (if b == 84 then Truncated else Ranges))

kind_of-byte : (kind : Kind) → kind_of (kind_byte kind) ≡ kind
unfolding kind_of
kind_of-byte Growing = refl
kind_of-byte Whole = refl
kind_of-byte Truncated = refl
kind_of-byte Ranges = refl

pub kind_once : (k l : Kind) → kind_byte k ≡ kind_byte l → k ≡ l
kind_once k l same = sym (kind_of-byte k) ∙ (ap kind_of same ∙ kind_of-byte l)

-- 20 hyphens are no number
no_hyphens : (n : ℕ) → ¬ (IsNumber (replicate 20 45) n)
no_hyphens n h = omega (arith, h.1.1.0)

total_once_text : (t u : Option ℕ) → IsSmallTotal t → IsSmallTotal u → total_text t ≡ total_text u → t ≡ u
total_once_text None None small_t small_u same = refl
total_once_text None (Some m) small_t small_u same =
    absurd (no_hyphens m (IsNumber-total m (replicate 20 45) (small_u m refl) (sym same)))
total_once_text (Some n) None small_t small_u same =
    absurd (no_hyphens n (IsNumber-total n (replicate 20 45) (small_t n refl) same))
total_once_text (Some n) (Some m) small_t small_u same =
    let first = IsNumber-total n (total_text (Some m)) (small_t n refl) same in
    let second = IsNumber-total m (total_text (Some m)) (small_u m refl) refl in
    ap Some (sym first.3 ∙ second.3)

pub total_once : (t u : Option ℕ) (r s : List ℕ) → IsSmallTotal t → IsSmallTotal u → total_text t ++ r ≡ total_text u ++ s → (t ≡ u) × (r ≡ s)
total_once t u r s small_t small_u same =
    let len_t = length-total_text t small_t in
    let len_u = length-total_text u small_u in
    let texts = sym (take_at (total_text t) r 20 len_t) ∙ (ap (take 20) same ∙ take_at (total_text u) s 20 len_u) in
    let rests = sym (drop_at (total_text t) r 20 len_t) ∙ (ap (drop 20) same ∙ drop_at (total_text u) s 20 len_u) in
    (total_once_text t u small_t small_u texts, rests)

pub record SameSeal (k l : Kind) (t u : Option ℕ) (r s : List ℕ) : Type 0 where
  pub kind : k ≡ l
  pub total : t ≡ u
  pub rest : r ≡ s

pub seal_once : (k l : Kind) (t u : Option ℕ) (r s : List ℕ) → IsSmallTotal t → IsSmallTotal u → seal_line k t ++ r ≡ seal_line l u ++ s → SameSeal k l t u r s
seal_once k l t u r s small_t small_u same =
    let bytes : kind_byte k ≡ kind_byte l = cc in
    let rests : (total_text t ++ 10 ∷ []) ++ r ≡ (total_text u ++ 10 ∷ []) ++ s = cc in
    let totals = total_once t u (10 ∷ r) (10 ∷ s) small_t small_u
    (sym (append_assoc (total_text t) (10 ∷ []) r) ∙ (rests ∙ append_assoc (total_text u) (10 ∷ []) s)) in
    let ends = totals.1 in
    record { kind = kind_once k l bytes; total = totals.0; rest = cc }

-- the line of numbers, number by number
pub numbers_apart : (a b c d e : ℕ) (r : List ℕ) → numbers_line a b c d e ++ r ≡ number_and_end 32 a ++
    (number_and_end 32 b ++ (number_and_end 32 c ++ (number_and_end 32 d ++ (number_and_end 10 e ++ r))))
numbers_apart a b c d e r = simp append_assoc

-- a text in which no line ends behind kind and total
pub no_line_end : (k l : Kind) (t u : Option ℕ) (text mid behind rest after : List ℕ) → kind_byte k ∷ mid ≡ text → 32 ∷ behind ≡ mid → IsSmallTotal t →
    total_text t ++ rest ≡ behind → ((more : List ℕ) → 10 ∷ more ≢ rest) → IsSmallTotal u → seal_line l u ++ after ≢ text
no_line_end k l t u text mid behind rest after kind_is space_is small_t total_is none small_u same =
    let rests : (total_text u ++ 10 ∷ []) ++ after ≡ behind = cc in
    let totals = total_once u t (10 ∷ after) rest small_u small_t (sym (append_assoc (total_text u) (10 ∷ []) after) ∙ (rests ∙ sym total_is)) in
    none after totals.1

-- a text that goes on otherwise behind some of the numbers
pub no_second : (n : Numbers) (a : ℕ) (text one after : List ℕ) → IsSmall a → number_and_end 32 a ++ one ≡ text →
    ((b : ℕ) (more : List ℕ) → IsSmall b → number_and_end 32 b ++ more ≢ one) → AreSmall n → numbers_text n ++ after ≢ text
no_second n a text one after small_a is_a none small same =
    let apart = sym (numbers_apart n.status n.requested n.answered n.vary_count n.count after) ∙ same in
    let first = ended_once 32 n.status a _ one (omega arith) small.status small_a (apart ∙ sym is_a) in
    none n.requested _ small.requested first.1

pub no_third : (n : Numbers) (a b : ℕ) (text one two after : List ℕ) → IsSmall a → number_and_end 32 a ++ one ≡ text → IsSmall b → number_and_end 32 b ++
    two ≡ one → ((c : ℕ) (more : List ℕ) → IsSmall c → number_and_end 32 c ++ more ≢ two) → AreSmall n → numbers_text n ++ after ≢ text
no_third n a b text one two after small_a is_a small_b is_b none small same =
    let apart = sym (numbers_apart n.status n.requested n.answered n.vary_count n.count after) ∙ same in
    let first = ended_once 32 n.status a _ one (omega arith) small.status small_a (apart ∙ sym is_a) in
    let second = ended_once 32 n.requested b _ two (omega arith) small.requested small_b (first.1 ∙ sym is_b) in
    none n.answered _ small.answered second.1

pub no_fourth : (n : Numbers) (a b c : ℕ) (text one two three after : List ℕ) → IsSmall a → number_and_end 32 a ++ one ≡ text → IsSmall b →
    number_and_end 32 b ++ two ≡ one → IsSmall c → number_and_end 32 c ++ three ≡ two →
    ((d : ℕ) (more : List ℕ) → IsSmall d → number_and_end 32 d ++ more ≢ three) → AreSmall n → numbers_text n ++ after ≢ text
no_fourth n a b c text one two three after small_a is_a small_b is_b small_c is_c none small same =
    let apart = sym (numbers_apart n.status n.requested n.answered n.vary_count n.count after) ∙ same in
    let first = ended_once 32 n.status a _ one (omega arith) small.status small_a (apart ∙ sym is_a) in
    let second = ended_once 32 n.requested b _ two (omega arith) small.requested small_b (first.1 ∙ sym is_b) in
    let third = ended_once 32 n.answered c _ three (omega arith) small.answered small_c (second.1 ∙ sym is_c) in
    none n.vary_count _ small.vary_count third.1

pub no_fifth : (n : Numbers) (a b c d : ℕ) (text one two three four after : List ℕ) → IsSmall a → number_and_end 32 a ++ one ≡ text → IsSmall b →
    number_and_end 32 b ++ two ≡ one → IsSmall c → number_and_end 32 c ++ three ≡ two → IsSmall d → number_and_end 32 d ++ four ≡ three →
    ((e : ℕ) (more : List ℕ) → IsSmall e → number_and_end 10 e ++ more ≢ four) → AreSmall n → numbers_text n ++ after ≢ text
no_fifth n a b c d text one two three four after small_a is_a small_b is_b small_c is_c small_d is_d none small same =
    let apart = sym (numbers_apart n.status n.requested n.answered n.vary_count n.count after) ∙ same in
    let first = ended_once 32 n.status a _ one (omega arith) small.status small_a (apart ∙ sym is_a) in
    let second = ended_once 32 n.requested b _ two (omega arith) small.requested small_b (first.1 ∙ sym is_b) in
    let third = ended_once 32 n.answered c _ three (omega arith) small.answered small_c (second.1 ∙ sym is_c) in
    let fourth = ended_once 32 n.vary_count d _ four (omega arith) small.vary_count small_d (third.1 ∙ sym is_d) in
    none n.count after small.count fourth.1

pub record SameNumbers (n m : Numbers) (r s : List ℕ) : Type 0 where
  pub status : n.status ≡ m.status
  pub requested : n.requested ≡ m.requested
  pub answered : n.answered ≡ m.answered
  pub vary_count : n.vary_count ≡ m.vary_count
  pub count : n.count ≡ m.count
  pub rest : r ≡ s

pub numbers_once : (n m : Numbers) (r s : List ℕ) → AreSmall n → AreSmall m → numbers_text n ++ r ≡ numbers_text m ++ s → SameNumbers n m r s
numbers_once n m r s small_n small_m same =
    let apart = sym (numbers_apart n.status n.requested n.answered n.vary_count n.count r) ∙
    (same ∙ numbers_apart m.status m.requested m.answered m.vary_count m.count s) in
    let first = ended_once 32 n.status m.status _ _ (omega arith) small_n.status small_m.status apart in
    let second = ended_once 32 n.requested m.requested _ _ (omega arith) small_n.requested small_m.requested first.1 in
    let third = ended_once 32 n.answered m.answered _ _ (omega arith) small_n.answered small_m.answered second.1 in
    let fourth = ended_once 32 n.vary_count m.vary_count _ _ (omega arith) small_n.vary_count small_m.vary_count third.1 in
    let fifth = ended_once 10 n.count m.count r s (omega arith) small_n.count small_m.count fourth.1 in
    record { status = first.0; requested = second.0; answered = third.0; vary_count = fourth.0; count = fifth.0; rest = fifth.1 }
