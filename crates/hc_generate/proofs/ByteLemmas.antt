-- Bytes of the origin, one after another.
use Rattle.std.proofs.Common.{◌≡◌, ℕ, zero, suc, ◌+◌, List, [], ◌∷◌, ◌++◌, refl, ap, ◌∙◌, arith, add-one, add-zero, sym}
use Rattle.hc_validate.specs.Origin.{origin_byte}
use Rattle.hc_generate.specs.Sending.{origin_bytes}

origin_bytes-suc : (at n : ℕ) → origin_bytes at n ++ origin_byte (at + n) ∷ [] ≡ origin_bytes at (suc n)
origin_bytes-suc at zero = rw add-zero refl
origin_bytes-suc at (suc n) =
    let place : (at + 1) + n ≡ at + suc n = omega arith in
    ap (λ (bytes : List ℕ). origin_byte at ∷ bytes) (ap (λ (p : ℕ). origin_bytes (at + 1) n ++ origin_byte p ∷ []) (sym place) ∙ origin_bytes-suc (at + 1) n)

-- one more
pub origin_bytes-more : (at n : ℕ) → origin_bytes at n ++ origin_byte (at + n) ∷ [] ≡ origin_bytes at (n + 1)
origin_bytes-more at n = origin_bytes-suc at n ∙ ap (λ (k : ℕ). origin_bytes at k) (sym (add-one n))
