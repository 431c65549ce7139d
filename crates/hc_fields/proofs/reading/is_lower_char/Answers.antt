use Rattle.std.{proofs.{Common.{◌≡◌, ℕ, ◌==◌, ◌<◌, Bool, true, false, map, cond, get_or, refl, ap, ◌∙◌, arith}, lemmas.List.FromFn.{get_or-map-range_with_len}}, specs.List.{range_with_len}}
use Rattle.http_header.specs.Token.{is_token_byte}
use Rattle.hc_fields.specs.{Lines.{is_lower_byte}, declared.reading.TheConstants.{LOWER_CHARS}}
use Rattle.hc_fields.proofs.reading.is_lower_char.Goals as goal

abbrev mark : ℕ → ℕ
mark b = cond (is_lower_byte b) 1 0

-- the table has the mark of each byte
table_is : LOWER_CHARS ≡ map mark (range_with_len 0 256)
unfolding is_token_byte
table_is = refl

marked : (t : Bool) → (cond t 1 0 == 1) ≡ t
marked true = refl
marked false = refl

read : (b : ℕ) → b < 256 → (get_or LOWER_CHARS b 0 == 1) ≡ is_lower_byte b
read b h =
    ap (λ (n : ℕ). n == 1) (ap (λ t. get_or t b 0) table_is ∙ get_or-map-range_with_len mark 0 256 b b 0 h (omega arith))
    ∙ marked (is_lower_byte b)

pub returns : goal.returns
returns c = rw c.from.ensures (read c.args.b (omega arith))
