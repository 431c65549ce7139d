-- What a text says as an entity tag, as a function (RFC 9110 section 8.8.3).
use Rattle.std.specs.Prelude.{ℕ, ◌==◌, ◌-◌, ◌&&◌, nat_le, Bool, true, false, List, drop, take, length, slice_index, slice_range, codes, bytes_eq, if◌then◌else◌, Option, Some, None, option_map}
use Rattle.std.specs.List.{list_all}
use Rattle.hc_etag.specs.Etags.{quote, is_etagc}

-- the text but for its first and its last byte
abbrev pub inner : List ℕ → List ℕ
inner text = slice_range text 1 (length text - 1)

-- the text stands in quotes, and what they enclose may stand there
abbrev pub is_quoted : List ℕ → Bool
is_quoted text =
    nat_le 2 (length text) && slice_index text 0 == quote
    && slice_index text (length text - 1) == quote && list_all is_etagc (inner text)

-- what a strong tag has between its quotes, where the text is one
unfoldable pub strong_in : List ℕ → Option (List ℕ)
strong_in text = if is_quoted text then Some (inner text) else None

-- the tag that the text is: whether it is weak, and what stands between its quotes
abbrev pub tag_in : List ℕ → Option (Bool × List ℕ)
tag_in text =
    if bytes_eq (take 2 text) (codes "W/")
    then option_map (λ opaque. (true, opaque)) (strong_in (drop 2 text))
    else option_map (λ opaque. (false, opaque)) (strong_in text)
