-- Whether a cache may begin with contents, and why not.
use Rattle.std.specs.Prelude.{ℕ, ◌+◌, ◌^◌, List, [], ◌∷◌, bytes_eq, codes, nat_lt, nat_le, Bool, not, ◌&&◌, ◌||◌, Option, Some, None, is_some, if◌then◌else◌}
use Rattle.std.specs.List.{list_any}
use Rattle.hc_fields.specs.FirstValues.{has_field}
use Rattle.hc_sparse.specs.declared.run.Run.{Run}
use Rattle.hc_rules.specs.declared.room.Limits.{Limits}
use Rattle.hc_validate.specs.Updates.{is_within_limits}
use Rattle.hc_model.specs.Beginnings.{ascend_from, is_kind_right, needs_tag, has_own_numbers, is_good, are_good, weights_of}
use Rattle.hc_model.specs.Entries.{Content, Contents}
use Rattle.hc_model.specs.Tables.{last_end, bytes_in}
use Rattle.hc_contents.specs.declared.item.Extent.{Extent}
use Rattle.hc_contents.specs.declared.unfit.Unfit.{Unfit}
use Rattle.hc_contents.specs.declared.unfit.Unfit.TheVariants as unfit

-- ONE ITEM

-- its key is no earlier one's, and its numbers are its own
abbrev pub is_apart : Contents → List Content → Content → List Content → Bool
is_apart contents earlier item later =
    not (list_any (λ (other : Content). bytes_eq other.key item.key) earlier)
    && has_own_numbers contents earlier item later

-- its head is one that could have come by this moment
abbrev pub could_come : ℕ → Content → Bool
could_come now item =
    (not (needs_tag item) || is_some item.head.joining)
    && nat_le item.head.requested item.head.answered && nat_le item.head.answered now
    && not (has_field (codes "content-length") item.head.fields)
    && not (has_field (codes "content-range") item.head.fields)
    && is_within_limits item.head.fields

-- its runs rise, end by its length, are no more than so many bytes and of its kind, and so is its head
abbrev pub is_right : ℕ → ℕ → Content → Bool
is_right now most item =
    ascend_from 0 0 item.runs && is_kind_right item item.head.total
    && nat_le (bytes_in item.runs) most && could_come now item

-- it is good, but for that its key is to be a target
abbrev pub is_fit : Limits → Contents → List Content → Content → List Content → Bool
is_fit limits contents earlier item later =
    is_apart contents earlier item later && is_right contents.now limits.max_entry item

-- where runs end and how many bytes they have, if they rise and end by the length
abbrev pub extent_of : List Run → ℕ → Option Extent
extent_of runs total =
    if ascend_from 0 0 runs && nat_le (last_end runs) total
    then Some (record { end = last_end runs; bytes = bytes_in runs }) else None

-- ALL OF THEM

-- how many stand before the first that isn't good
abbrev pub count_good : Limits → Contents → List Content → List Content → ℕ
count_good limits contents earlier [] = 0
count_good limits contents earlier (item ∷ later) =
    if is_good limits contents earlier item later
    then 1 + count_good limits contents (item ∷ earlier) later else 0

-- the moment and the numbers are small enough
abbrev pub has_good_numbers : Contents → Bool
has_good_numbers contents =
    nat_lt contents.now (2 ^ 62) && nat_lt contents.last_consumer (2 ^ 62)
    && nat_lt 0 contents.next_exchange && nat_le contents.next_exchange (2 ^ 60)

-- why a cache that may hold so much can't begin with them, if it can't
unfoldable pub unfit_of : Limits → Contents → Option Unfit
unfit_of limits contents =
    if are_good limits contents [] contents.items && has_good_numbers contents
    then (if nat_le (weights_of contents.items) limits.max_total then None else Some unfit.Full)
    else Some (unfit.BadContent (count_good limits contents [] contents.items))
