-- What Transfer-Encoding and Content-Length say with one more element, and with one more field.
use Rattle.std.specs.Prelude.{ℕ, Bool, true, false, List, [], ◌∷◌, codes, bytes_eq, if◌then◌else◌}
use Rattle.http_header.specs.Token.{lowercase}
use Rattle.hc_text.specs.Elements.{elements}
use Rattle.hc_fields.specs.FieldList.{has_name}
use Rattle.hc_rules.specs.declared.length.Length.{Length}
use Rattle.hc_rules.specs.LengthSoFar.{with_elements}
use Rattle.hc_head.specs.declared.lengths.Coding.{Coding}
use Rattle.hc_head.specs.declared.lengths.Coding.TheVariants.{Plain, Chunked, Other}

-- `chunked` alone
abbrev pub is_coding : Coding → Bool
is_coding Plain = false
is_coding Chunked = true
is_coding Other = false

abbrev pub with_coding : Coding → List ℕ → Coding
with_coding Plain element = if bytes_eq (lowercase element) (codes "chunked") then Chunked else Other
with_coding Chunked element = Other
with_coding Other element = Other

abbrev pub with_codings : Coding → List (List ℕ) → Coding
with_codings coding [] = coding
with_codings coding (element ∷ elements) = with_codings (with_coding coding element) elements

abbrev pub coding_with : Coding → List ℕ × List ℕ → Coding
coding_with coding field =
    if has_name (codes "transfer-encoding") field then with_codings coding (elements field.1) else coding

abbrev pub length_with : Length → List ℕ × List ℕ → Length
length_with length field =
    if has_name (codes "content-length") field then with_elements length (elements field.1) else length
