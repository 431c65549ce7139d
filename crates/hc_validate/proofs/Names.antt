-- The names that are set are tokens.
use Rattle.std.{proofs.Common.{arith, refl}, specs.Prelude.{codes}}
use Rattle.http_header.specs.Token.{IsToken, is_token_byte}
use Rattle.http_header.proofs.TokenLemmas.{AllPass-from_test}

pub IsToken-age : IsToken (codes "age")
unfolding is_token_byte
IsToken-age = (omega arith, AllPass-from_test is_token_byte (codes "age") refl)

pub IsToken-content_length : IsToken (codes "content-length")
unfolding is_token_byte
IsToken-content_length = (omega arith, AllPass-from_test is_token_byte (codes "content-length") refl)

pub IsToken-content_range : IsToken (codes "content-range")
unfolding is_token_byte
IsToken-content_range = (omega arith, AllPass-from_test is_token_byte (codes "content-range") refl)

pub IsToken-if_none_match : IsToken (codes "if-none-match")
unfolding is_token_byte
IsToken-if_none_match = (omega arith, AllPass-from_test is_token_byte (codes "if-none-match") refl)

pub IsToken-if_modified_since : IsToken (codes "if-modified-since")
unfolding is_token_byte
IsToken-if_modified_since = (omega arith, AllPass-from_test is_token_byte (codes "if-modified-since") refl)

pub IsToken-accept_ranges : IsToken (codes "accept-ranges")
unfolding is_token_byte
IsToken-accept_ranges = (omega arith, AllPass-from_test is_token_byte (codes "accept-ranges") refl)

pub IsToken-cache_control : IsToken (codes "cache-control")
unfolding is_token_byte
IsToken-cache_control = (omega arith, AllPass-from_test is_token_byte (codes "cache-control") refl)

pub IsToken-etag : IsToken (codes "etag")
unfolding is_token_byte
IsToken-etag = (omega arith, AllPass-from_test is_token_byte (codes "etag") refl)

pub IsToken-range : IsToken (codes "range")
unfolding is_token_byte
IsToken-range = (omega arith, AllPass-from_test is_token_byte (codes "range") refl)

pub IsToken-if_range : IsToken (codes "if-range")
unfolding is_token_byte
IsToken-if_range = (omega arith, AllPass-from_test is_token_byte (codes "if-range") refl)
