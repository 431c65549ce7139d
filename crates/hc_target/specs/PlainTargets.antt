-- Plain targets, which need no reading: a host of letters, dots and hyphens, and a path and a query of bytes that the URL
-- Standard keeps in them, in which no segment of the path begins as `.` and `..` do.
use Rattle.std.specs.Prelude.{ℕ, ◌==◌, ◌&&◌, ◌||◌, not, nat_le, Bool, true, false, List, [], ◌∷◌, length, codes, Option, Some, None}
use Rattle.std.specs.List.{list_all}
use Rattle.url.specs.Parts.{Parts}
use Rattle.url.specs.declared.host.Host.TheVariants.{Domain}
use Rattle.hc_text.specs.Texts.{cut, behind}

-- a lower-case letter, a dot or a hyphen
abbrev pub is_host_byte : ℕ → Bool
is_host_byte b = (nat_le 97 b && nat_le b 122) || b == 45 || b == 46

-- a letter, a digit, a slash or one of `!$%&'()*+,-.:;=@_~`: what a path may have (RFC 3986 section 3.3)
abbrev pub is_path_byte : ℕ → Bool
is_path_byte b =
    (nat_le 97 b && nat_le b 122) || (nat_le 64 b && nat_le b 90) || (nat_le 36 b && nat_le b 59)
    || b == 33 || b == 61 || b == 95 || b == 126

-- the same or `?`, but for `'`, which the URL Standard escapes there
abbrev pub is_query_byte : ℕ → Bool
is_query_byte b = (is_path_byte b || b == 63) && not (b == 39)

-- what a segment that reads as `.` or `..` begins with: a dot, or the `%` of `%2e`
abbrev pub begins_dots : ℕ → Bool
begins_dots b = b == 46 || b == 37

-- bytes of a path, of which none that begins a segment begins dots; `begins` where the first byte begins one
abbrev pub is_plain_path : Bool → List ℕ → Bool
is_plain_path begins [] = true
is_plain_path begins (b ∷ path) =
    is_path_byte b && not (begins && begins_dots b) && is_plain_path (b == 47) path

-- a path, and what stands behind its question mark
abbrev pub is_plain_path_and_query : List ℕ → Option (List ℕ × List ℕ) → Bool
is_plain_path_and_query path None = is_plain_path true path
is_plain_path_and_query path (Some parts) = is_plain_path true parts.0 && list_all is_query_byte parts.1

-- a host, and what stands behind its first slash
abbrev pub is_plain_rest : Option (List ℕ × List ℕ) → Bool
is_plain_rest None = false
is_plain_rest (Some parts) =
    nat_le 1 (length parts.0) && list_all is_host_byte parts.0 && is_plain_path_and_query parts.1 (cut 63 parts.1)

abbrev pub is_plain_web : Option (List ℕ) → Bool
is_plain_web None = false
is_plain_web (Some rest) = is_plain_rest (cut 47 rest)

-- the text is plain
unfoldable pub is_plain_target : List ℕ → Bool
is_plain_target text = is_plain_web (behind (codes "http://") text)

-- its URL
abbrev pub plain_url : List ℕ → List ℕ → Option (List ℕ) → Parts
plain_url host path query = record {
  scheme = codes "http";
  username = [];
  password = [];
  host = Some (Domain host);
  port = None;
  path = 47 ∷ path;
  query = query;
  fragment = None;
}
