-- Whether a stored head answers a request's fields too (RFC 9111 section 4.1).
use Rattle.std.specs.Prelude.{ℕ, ◌&&◌, ◌∷◌, [], not, Bool, false, List, codes, bytes_eq}
use Rattle.std.specs.List.{list_all}
use Rattle.http_header.specs.Token.{is_token_byte, lowercase}
use Rattle.hc_event.specs.declared.event.Request.{Request}
use Rattle.hc_fields.specs.Agreement.{agree_on}
use Rattle.hc_fields.specs.FirstValues.{elements_in}
use Rattle.hc_record.specs.Head.{Head}

abbrev pub is_token : List ℕ → Bool
is_token [] = false
is_token (b ∷ bytes) = list_all is_token_byte (b ∷ bytes)

-- the name that an element of Vary is; the asterisk, and what is no token, is none
abbrev pub is_name : List ℕ → Bool
is_name element = is_token element && not (bytes_eq element (codes "*"))

abbrev pub matches_on : Head → Request → List ℕ → Bool
matches_on head request element =
    is_name element && agree_on (lowercase element) head.vary_fields request.fields

-- each field that Vary names is that of the request that the head was stored for
abbrev pub matches_vary : Head → Request → Bool
matches_vary head request = list_all (matches_on head request) (elements_in (codes "vary") head.fields)
