-- How a request may begin (RFC 9112 sections 2.2 and 3): a method and a space stand behind empty lines.
use Rattle.std.specs.Prelude.{ℕ, ◌+◌, ◌==◌, ◌&&◌, nat_lt, Bool, true, false, List, [], ◌∷◌, Option, Some, None, if◌then◌else◌}
use Rattle.http_header.specs.Token.{is_token_byte}
use Rattle.hc_head.specs.declared.start.Start.{Start}
use Rattle.hc_head.specs.declared.start.Start.TheVariants.{Before, BeforeReturn, Method, Past}

-- so many bytes of a method came, and these follow: it has at most 15, and a space ends it
abbrev pub goes_on_as_method : ℕ → List ℕ → Bool
goes_on_as_method n [] = true
goes_on_as_method n (b ∷ text) =
    if b == 32 then nat_lt 0 n
    else is_token_byte b && nat_lt n 15 && goes_on_as_method (n + 1) text

-- behind empty lines, or behind the carriage return of another one, where it is told so
abbrev pub goes_on_as_request : Bool → List ℕ → Bool
goes_on_as_request returned [] = true
goes_on_as_request returned (b ∷ text) =
    if b == 10 then goes_on_as_request false text
    else if returned then false
    else if b == 13 then goes_on_as_request true text
    else goes_on_as_method 0 (b ∷ text)

-- a request may begin with the text
abbrev pub begins_request : List ℕ → Bool
begins_request text = goes_on_as_request false text

-- these bytes may follow
abbrev pub goes_on_from : Start → List ℕ → Bool
goes_on_from Before text = goes_on_as_request false text
goes_on_from BeforeReturn text = goes_on_as_request true text
goes_on_from (Method n) text = goes_on_as_method n text
goes_on_from Past text = true

-- the same, where a request goes on so at all
abbrev pub goes_on_by : Option Start → List ℕ → Bool
goes_on_by None text = false
goes_on_by (Some start) text = goes_on_from start text
