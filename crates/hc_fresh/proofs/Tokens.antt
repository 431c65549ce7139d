-- A token by its test.
use Rattle.std.proofs.{Common.{◌≡◌, ℕ, true, List, [], ◌∷◌, ◌<◌, arith}, lemmas.List.Sums.{AllPass-from_list_all, list_all-from_AllPass}}
use Rattle.http_header.specs.Token.{IsToken, is_token_byte}
use Rattle.hc_fresh.specs.Vary.{is_token}

pub is_token-from : (text : List ℕ) → IsToken text → is_token text ≡ true
is_token-from [] token = absurd (omega (arith, token.0))
is_token-from (b ∷ bytes) token = list_all-from_AllPass is_token_byte (b ∷ bytes) token.1

pub IsToken-from : (text : List ℕ) → is_token text ≡ true → IsToken text
IsToken-from [] passes = cc
IsToken-from (b ∷ bytes) passes = (omega arith, AllPass-from_list_all is_token_byte (b ∷ bytes) passes)
