-- What a text brings is no larger than the text.
use Rattle.std.{proofs.Common.{◌≡◌, ℕ, ◌+◌, ◌*◌, ◌≤◌, List, [], ◌∷◌, ◌++◌, length, ap, arith, length-append}, specs.{Prelude.{codes}, Fmt.{decimal}}}
use Rattle.hex.specs.Hex.{lower_digits}
use Rattle.hex.proofs.HexLemmas.{length-encode_with}
use Rattle.hc_event.specs.{declared.event.Event.{Event}, Counting.{received_in}}
use Rattle.hc_event.specs.declared.event.Event.TheVariants as event
use Rattle.hc_sched.specs.{declared.schedule.Timed.{Timed}, Pieces.{piece_text}, Schedule.{Item, Moment, Happens, event_line, fields_in, fields_text, item_text, text_of, events_of}}
use Rattle.hc_sched.proofs.OneReading.{brings_items}
use Rattle.hc_driver.specs.{Counting.{size_of}, Endings.{events_from}}

pub size_of-append : (xs ys : List Timed) → size_of (xs ++ ys) ≡ size_of xs + size_of ys
size_of-append [] ys = omega arith
size_of-append (x ∷ xs) ys = let rest = size_of-append xs ys in omega arith

piece_long : (bytes : List ℕ) → length bytes ≤ length (piece_text bytes)
piece_long [] = omega arith
piece_long (b ∷ bytes) = omega (arith, length-encode_with lower_digits (b ∷ bytes))

line_long : (e : Event) → received_in e ≤ length (event_line e)
line_long (event.Start c request) = omega arith
line_long (event.Poll c want) = omega arith
line_long (event.Head x response) = omega arith
line_long (event.Piece x bytes) =
    let long = piece_long bytes in
    let tail = length-append (decimal x) (32 ∷ piece_text bytes) in
    let whole = length-append (codes "piece ") (decimal x ++ 32 ∷ piece_text bytes) in
    omega arith
line_long (event.End x) = omega arith
line_long (event.Fault x) = omega arith
line_long (event.Cancel c) = omega arith
line_long (event.Doom key) = omega arith

items_long : (now : ℕ) (items : List Item) → size_of (events_of now items) ≤ length (text_of items)
items_long now [] = omega arith
items_long now (Moment later ∷ items) =
    let rest = items_long later items in
    let whole = length-append (item_text (Moment later)) (text_of items) in
    omega arith
items_long now (Happens e ∷ items) =
    let rest = items_long now items in
    let whole = length-append (item_text (Happens e)) (text_of items) in
    let line = length-append (event_line e) (10 ∷ fields_text (fields_in e)) in
    let long = line_long e in
    omega arith

pub brought_small : (now : ℕ) (text : List ℕ) → size_of (events_from now text) ≤ length text
brought_small now text =
    let read = brings_items now text in
    let whole = length-append (text_of read.items) read.rest in
    let small = items_long now read.items in
    let same : length (text_of read.items ++ read.rest) ≡ length text = ap length read.whole in
    let size : size_of (events_from now text) ≡ size_of (events_of now read.items) = ap size_of read.events_are in
    omega arith

-- HOW MANY EVENTS

line_filled : (e : Event) → 1 ≤ length (event_line e)
line_filled (event.Start c request) = omega arith
line_filled (event.Poll c want) = omega arith
line_filled (event.Head x response) = omega arith
line_filled (event.Piece x bytes) = omega arith
line_filled (event.End x) = omega arith
line_filled (event.Fault x) = omega arith
line_filled (event.Cancel c) = omega arith
line_filled (event.Doom key) = omega arith

-- each has a byte of its line, and the end of that
items_double : (now : ℕ) (items : List Item) → 2 * length (events_of now items) ≤ length (text_of items)
items_double now [] = omega arith
items_double now (Moment later ∷ items) =
    let rest = items_double later items in
    let whole = length-append (item_text (Moment later)) (text_of items) in
    omega arith
items_double now (Happens e ∷ items) =
    let rest = items_double now items in
    let whole = length-append (item_text (Happens e)) (text_of items) in
    let line = length-append (event_line e) (10 ∷ fields_text (fields_in e)) in
    let filled = line_filled e in
    omega arith

pub brought_few : (now : ℕ) (text : List ℕ) → 2 * length (events_from now text) ≤ length text
brought_few now text =
    let read = brings_items now text in
    let whole = length-append (text_of read.items) read.rest in
    let few = items_double now read.items in
    let same : length (text_of read.items ++ read.rest) ≡ length text = ap length read.whole in
    let count : length (events_from now text) ≡ length (events_of now read.items) = ap length read.events_are in
    omega arith
