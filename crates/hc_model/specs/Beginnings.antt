-- What a store may begin with.
use Rattle.std.specs.Prelude.{ℕ, ◌^◌, List, [], ◌∷◌, length, codes, bytes_eq, Bool, true, false, Option, Some, None, is_some, if◌then◌else◌, ◌==◌, ◌||◌, ◌&&◌, not, nat_lt, nat_le}
use Rattle.std.specs.List.{list_any, list_all, sum_by}
use Rattle.hc_fields.specs.FirstValues.{has_field}
use Rattle.hc_target.specs.Targets.{is_target}
use Rattle.hc_sparse.specs.Runs.{end_of}
use Rattle.hc_sparse.specs.declared.run.Run.{Run}
use Rattle.hc_record.specs.declared.kind.Kind.{Kind}
use Rattle.hc_record.specs.declared.kind.Kind.TheVariants as kind
use Rattle.hc_rules.specs.declared.room.Limits.{Limits}
use Rattle.hc_rules.specs.Rooms.{weight_of}
use Rattle.hc_rules.specs.Statuses.{brings_part}
use Rattle.hc_validate.specs.Updates.{is_within_limits}
use Rattle.hc_model.specs.Entries.{Content, Contents}
use Rattle.hc_model.specs.Tables.{last_end, bytes_in}

-- ITS RUNS

-- they rise without overlap, each has a byte, and where two touch they are of different exchanges
abbrev pub ascend_from : ℕ → ℕ → List Run → Bool
ascend_from n x [] = true
ascend_from n x (run ∷ runs) =
    nat_le n run.at && nat_lt 0 (length run.bytes) && not (run.at == n && run.x == x)
    && ascend_from (end_of run) run.x runs

abbrev pub kind_of_runs : List Run → ℕ → Kind
kind_of_runs runs total =
    if last_end runs == bytes_in runs && bytes_in runs == total then kind.Whole
    else if nat_lt 0 (bytes_in runs) && last_end runs == bytes_in runs then kind.Truncated
    else kind.Ranges

abbrev pub same_kind : Kind → Kind → Bool
same_kind kind.Growing kind.Growing = true
same_kind kind.Whole kind.Whole = true
same_kind kind.Truncated kind.Truncated = true
same_kind kind.Ranges kind.Ranges = true
same_kind _ _ = false

-- the length is known, the runs end by it, and the kind is that of the runs
abbrev pub is_kind_right : Content → Option ℕ → Bool
is_kind_right item None = false
is_kind_right item (Some total) =
    nat_le (last_end item.runs) total && same_kind item.head.kind (kind_of_runs item.runs total)

-- ITS NUMBERS

abbrev pub is_given_out : Contents → ℕ → Bool
is_given_out contents x = nat_lt 0 x && nat_lt x contents.next_exchange

-- the item says this number: as that of its representation, or of an exchange
abbrev pub says : ℕ → Content → Bool
says x item = item.r == x || list_any (λ (run : Run). run.x == x) item.runs

-- the number is said by no earlier item, and is this one's representation or no later one's
abbrev pub is_own_run : Contents → List Content → ℕ → List Content → Run → Bool
is_own_run contents earlier r later run =
    is_given_out contents run.x && not (list_any (says run.x) earlier)
    && (r == run.x || not (list_any (λ (other : Content). other.r == run.x) later))

abbrev pub has_own_numbers : Contents → List Content → Content → List Content → Bool
has_own_numbers contents earlier item later =
    is_given_out contents item.r && not (list_any (says item.r) earlier)
    && list_all (is_own_run contents earlier item.r later) item.runs

-- ITS HEAD

abbrev pub is_whole : Kind → Bool
is_whole kind.Whole = true
is_whole _ = false

-- only by its tag could it have come to be, or be completed
abbrev pub needs_tag : Content → Bool
needs_tag item =
    not (is_whole item.head.kind) || brings_part item.head.status
    || list_any (λ (run : Run). not (run.x == item.r)) item.runs

abbrev pub has_right_head : Contents → Content → Bool
has_right_head contents item =
    (not (needs_tag item) || is_some item.head.joining)
    && nat_le item.head.requested item.head.answered && nat_le item.head.answered contents.now
    && not (has_field (codes "content-length") item.head.fields)
    && not (has_field (codes "content-range") item.head.fields)
    && is_within_limits item.head.fields

-- ALL OF IT

-- a good item: its key is a target and no earlier one's, and its numbers, its runs and its head are right
abbrev pub is_good : Limits → Contents → List Content → Content → List Content → Bool
is_good limits contents earlier item later =
    is_target item.key
    && not (list_any (λ (other : Content). bytes_eq other.key item.key) earlier)
    && has_own_numbers contents earlier item later
    && ascend_from 0 0 item.runs
    && is_kind_right item item.head.total
    && nat_le (bytes_in item.runs) limits.max_entry
    && has_right_head contents item

abbrev pub are_good : Limits → Contents → List Content → List Content → Bool
are_good limits contents earlier [] = true
are_good limits contents earlier (item ∷ later) =
    is_good limits contents earlier item later && are_good limits contents (item ∷ earlier) later

abbrev pub weights_of : List Content → ℕ
weights_of items = sum_by (λ (item : Content). weight_of (bytes_in item.runs)) items

-- a store may begin with these contents
unfoldable pub may_begin : Limits → Contents → Bool
may_begin limits contents =
    are_good limits contents [] contents.items
    && nat_lt contents.now (2 ^ 62) && nat_lt contents.last_consumer (2 ^ 62)
    && nat_lt 0 contents.next_exchange && nat_le contents.next_exchange (2 ^ 60)
    && nat_le (weights_of contents.items) limits.max_total
