-- The row of a representation after an entry.
use Rattle.std.specs.Prelude.{ℕ, ◌+◌, List, length, Bool, false, Option, Some, None, is_none, if◌then◌else◌, ◌==◌, ◌||◌, ◌&&◌, not, max, option_map}
use Rattle.std.specs.Option.{option_or}
use Rattle.hc_range.specs.declared.range.ContentRange.{ContentRange}
use Rattle.hc_range.specs.declared.range.ContentRange.TheVariants as range
use Rattle.hc_sparse.specs.Cells.{nothing, cells_with}
use Rattle.hc_event.specs.declared.event.Event.{Event}
use Rattle.hc_event.specs.declared.event.Event.TheVariants as event
use Rattle.hc_event.specs.declared.event.Response.{Response}
use Rattle.hc_event.specs.declared.act.Need.{Need}
use Rattle.hc_event.specs.declared.act.Need.TheVariants as need
use Rattle.hc_rules.specs.RangeTexts.{content_range_of}
use Rattle.hc_rules.specs.Requests.{range_of}
use Rattle.hc_rules.specs.Statuses.{brings_part}
use Rattle.hc_model.specs.Entries.{Entry}
use Rattle.hc_model.specs.ActFilters.{loses_in}
use Rattle.hc_model.specs.Rows.{Tables, Exchange, Representation, Consumer}
use Rattle.hc_model.specs.Exchanges.{front, family}
use Rattle.hc_model.specs.Currents.{is_number}
use Rattle.hc_model.specs.Cases.{case_at, is_founding, is_joining, is_updating}
use Rattle.hc_model.specs.Holes.{covers}
use Rattle.hc_model.specs.Writers.{goes_on_with}
use Rattle.hc_model.specs.Gone.{becomes_gone}
use Rattle.hc_model.specs.Heads.{founded_head, updated_head}

-- FOUNDED

-- a whole answer begins a writer group
abbrev pub writer_at : ℕ → Response → Option ℕ
writer_at x response = if brings_part response.status then None else Some x

abbrev pub new_representation : ℕ → Entry → Response → Exchange → Representation
new_representation r e response w = record {
  key = w.request.key;
  head = founded_head e.now response w;
  body = nothing;
  stored = nothing;
  reach = 0;
  size = 0;
  writer = writer_at r response;
  is_lost = false;
  alone = None;
  is_gone = false;
}

abbrev pub founded_at : Tables → Entry → ℕ → Event → Option Representation
founded_at t e r (event.Head x response) =
    if is_founding (case_at t e) && x == r
    then option_map (new_representation r e response) (t.exchange x) else None
founded_at t e r _ = None

-- UPDATED

abbrev pub hole_start : Need → ℕ
hole_start (need.Hole from to) = from
hole_start _ = 0

abbrev pub is_last_part : Option ℕ → Option ContentRange → Bool
is_last_part (Some total) (Some (range.Part first last reported)) = last + 1 == total
is_last_part _ _ = false

abbrev pub asks_whole : Option Consumer → Bool
asks_whole None = false
asks_whole (Some k) = is_none (range_of k.request)

-- The joining head of an exchange promises all that is missing, for a consumer without a range: a resumed download, which others join.
abbrev pub resumes : Tables → Response → Exchange → Representation → Bool
resumes t response w v =
    asks_whole (t.consumer w.c)
    && is_last_part v.head.total (content_range_of response.fields)
    && covers v.stored v.reach 0 (hole_start w.need)
    && v.size == hole_start w.need

-- this head updates what is stored of r
abbrev pub updates : Tables → Entry → ℕ → Exchange → Representation → Bool
updates t e r w v =
    is_updating (case_at t e) && is_number w.aim r && not (v.is_lost || loses_in r e.acts)

abbrev pub with_renewed_head : Tables → Entry → ℕ → Response → Exchange → Representation → Representation
with_renewed_head t e x response w v = record v {
  head = updated_head e.now response w v.head;
  writer = if is_joining (case_at t e) && resumes t response w v then Some x else v.writer;
}

abbrev pub representation_after_head :
    Tables → Entry → ℕ → ℕ → Response → Option Exchange → Representation → Representation
representation_after_head t e r x response None v = v
representation_after_head t e r x response (Some w) v =
    if updates t e r w v then with_renewed_head t e x response w v else v

-- FILLED

-- with a piece of its family, which is stored as long as nothing of it was lost
abbrev pub with_stored_bytes : Bool → ℕ → ℕ → List ℕ → Representation → Representation
with_stored_bytes is_kept at x bytes v = record v {
  body = cells_with at x bytes v.body;
  stored = if is_kept then cells_with at x bytes v.stored else v.stored;
  reach = max v.reach (at + length bytes);
  size = if is_kept then v.size + length bytes else v.size;
}

abbrev pub representation_after_piece : Entry → ℕ → ℕ → List ℕ → Option Exchange → Representation → Representation
representation_after_piece e r x bytes None v = v
representation_after_piece e r x bytes (Some w) v =
    if family x w == r then with_stored_bytes (not (v.is_lost || loses_in r e.acts)) (front w) x bytes v else v

-- ENDED

abbrev pub length_in : Option Exchange → ℕ
length_in None = 0
length_in (Some w) = length w.body

-- its length is what came, where nothing told it before
abbrev pub with_total_if_none : ℕ → Representation → Representation
with_total_if_none n v = record v { head = record v.head { total = option_or v.head.total (Some n) } }

-- AFTER AN ENTRY

-- what an accepted entry's event says of the representation r; t is before it
abbrev pub representation_heard : Tables → Entry → ℕ → Event → Representation → Representation
representation_heard t e r (event.Start c request) v = v
representation_heard t e r (event.Poll c want) v = v
representation_heard t e r (event.Head x response) v = representation_after_head t e r x response (t.exchange x) v
representation_heard t e r (event.Piece x bytes) v = representation_after_piece e r x bytes (t.exchange x) v
representation_heard t e r (event.End x) v =
    if x == r then with_total_if_none (length_in (t.exchange x)) v else v
representation_heard t e r (event.Fault x) v = v
representation_heard t e r (event.Cancel c) v = v
representation_heard t e r (event.Doom key) v = v

-- and what becomes of it: v is as it was before, and u as the event left it
abbrev pub representation_acted :
    Tables → Entry → ℕ → Representation → Representation → Representation
representation_acted t e r v u = record u {
  is_lost = loses_in r e.acts || u.is_lost;
  alone = if loses_in r e.acts && not v.is_lost then goes_on_with t e r v else u.alone;
  is_gone = becomes_gone t e r v || u.is_gone;
}

unfoldable pub representation_after :
    Tables → Entry → ℕ → Option Representation → Option Representation
representation_after t e r (Some v) =
    Some (representation_acted t e r v (representation_heard t e r e.event v))
representation_after t e r None = founded_at t e r e.event
