-- The bytes between the quotes of a tag end at the first quote.
use Rattle.std.{proofs.{Common.{◌≡◌, ℕ, ◌+◌, ◌<◌, suc, Bool, true, false, cond, eqb, List, [], ◌∷◌, ◌++◌, length, get_or, take, refl, sym, ap, ◌∙◌, inl, inr, arith}, lemmas.{Bool.{cases_Bool, and_parts, and_from, cond-true, cond-false, both_ways, true≢false, false≢true}, List.{length-append, append_assoc, get_or_at}}}, specs.List.{prefix_len, list_all}}
use Rattle.hc_etag.specs.Etags.{quote, is_etagc, IsOpaque, tag_text}

pub IsOpaque-leading : (text : List ℕ) → IsOpaque (take (prefix_len is_etagc text) text)
IsOpaque-leading [] = refl
IsOpaque-leading (b ∷ text) =
    elim (cases_Bool (is_etagc b)) [
      | inl allowed ↦
          let more : prefix_len is_etagc (b ∷ text) ≡ suc (prefix_len is_etagc text) = cond-true (is_etagc b) (1 + prefix_len is_etagc text) 0 allowed ∙
          omega arith in
          ap (λ (n : ℕ). list_all is_etagc (take n (b ∷ text))) more ∙
          and_from (is_etagc b) (list_all is_etagc (take (prefix_len is_etagc text) text)) allowed (IsOpaque-leading text)
      | inr barred ↦ ap (λ (n : ℕ). list_all is_etagc (take n (b ∷ text))) (cond-false (is_etagc b) (1 + prefix_len is_etagc text) 0 barred)
    ]

pub prefix_len-opaque : (opaque rest : List ℕ) → IsOpaque opaque → prefix_len is_etagc (opaque ++ quote ∷ rest) ≡ length opaque
prefix_len-opaque [] rest h = refl
prefix_len-opaque (b ∷ opaque) rest h =
    let parts = and_parts (is_etagc b) (list_all is_etagc opaque) h in
    cond-true (is_etagc b) (1 + prefix_len is_etagc (opaque ++ quote ∷ rest)) 0 parts.0 ∙ (let later = prefix_len-opaque opaque rest parts.1 in omega arith)

-- where a text begins with a tag's bytes and quotes, they are the first that may be
pub opaque_here : (first : ℕ) (inside opaque rest : List ℕ) → IsOpaque opaque → first ∷ inside ≡ quote ∷ (opaque ++ quote ∷ rest)
    → (prefix_len is_etagc inside ≡ length opaque) × (length opaque < length inside) × (get_or inside (length opaque) 0 ≡ quote)
opaque_here first inside opaque rest h e =
    let same : inside ≡ opaque ++ quote ∷ rest = cc in (
      ap (prefix_len is_etagc) same ∙ prefix_len-opaque opaque rest h,
      omega (arith, ap length same, length-append opaque (quote ∷ rest)),
      ap (λ (t : List ℕ). get_or t (length opaque) 0) same ∙ get_or_at opaque quote rest 0 (length opaque) refl,
    )

-- a text has one way to begin with bytes that end at a quote
pub opaque_unique : (o p r s : List ℕ) → IsOpaque o → IsOpaque p → o ++ quote ∷ r ≡ p ++ quote ∷ s → (o ≡ p) × (r ≡ s)
opaque_unique [] [] r s ho hp e = (refl, cc)
opaque_unique [] (c ∷ p) r s ho hp e =
    let same : quote ≡ c = cc in
    absurd (both_ways (is_etagc quote) refl (ap is_etagc same ∙ (and_parts (is_etagc c) (list_all is_etagc p) hp).0))
opaque_unique (b ∷ o) [] r s ho hp e =
    let same : quote ≡ b = cc in
    absurd (both_ways (is_etagc quote) refl (ap is_etagc same ∙ (and_parts (is_etagc b) (list_all is_etagc o) ho).0))
opaque_unique (b ∷ o) (c ∷ p) r s ho hp e =
    let first : b ≡ c = cc in
    let later : o ++ quote ∷ r ≡ p ++ quote ∷ s = cc in
    let unique = opaque_unique o p r s (and_parts (is_etagc b) (list_all is_etagc o) ho).1 (and_parts (is_etagc c) (list_all is_etagc p) hp).1 later in
    let same = unique.0 in
    (cc, unique.1)

-- a tag's text and what follows, written from the left
pub tag_text-append : (weak : Bool) (opaque rest : List ℕ) → tag_text weak opaque ++ rest ≡ cond weak (87 ∷ 47 ∷ []) [] ++ (quote ∷ (opaque ++ quote ∷ rest))
tag_text-append true opaque rest = ap (λ (t : List ℕ). 87 ∷ 47 ∷ quote ∷ t) (append_assoc opaque (quote ∷ []) rest)
tag_text-append false opaque rest = ap (λ (t : List ℕ). quote ∷ t) (append_assoc opaque (quote ∷ []) rest)

parts_unique : (w v : Bool) (o p r s : List ℕ) → IsOpaque o → IsOpaque p
    → cond w (87 ∷ 47 ∷ []) [] ++ (quote ∷ (o ++ quote ∷ r)) ≡ cond v (87 ∷ 47 ∷ []) [] ++ (quote ∷ (p ++ quote ∷ s))
    → (w ≡ v) × (o ≡ p) × (r ≡ s)
parts_unique true true o p r s ho hp e = let later : o ++ quote ∷ r ≡ p ++ quote ∷ s = cc in let u = opaque_unique o p r s ho hp later in (refl, u.0, u.1)
parts_unique false false o p r s ho hp e = let later : o ++ quote ∷ r ≡ p ++ quote ∷ s = cc in let u = opaque_unique o p r s ho hp later in (refl, u.0, u.1)
parts_unique true false o p r s ho hp e = absurd (false≢true (ap (λ (t : List ℕ). eqb (get_or t 0 0) 34) e))
parts_unique false true o p r s ho hp e = absurd (true≢false (ap (λ (t : List ℕ). eqb (get_or t 0 0) 34) e))

-- a text begins with one tag at most
pub tag_unique : (w v : Bool) (o p r s : List ℕ) → IsOpaque o → IsOpaque p → tag_text w o ++ r ≡ tag_text v p ++ s → (w ≡ v) × (o ≡ p) × (r ≡ s)
tag_unique w v o p r s ho hp e = parts_unique w v o p r s ho hp (sym (tag_text-append w o r) ∙ e ∙ tag_text-append v p s)
