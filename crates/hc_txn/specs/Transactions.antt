-- A transaction, and how it changes.
use Rattle.std.specs.Prelude.{ℕ, ◌+◌, refl, Bool, true, false, Option, Some, None, is_some, if◌then◌else◌, ◌&&◌, not}
use Rattle.std.specs.Option.{option_or}
use Rattle.hc_range.specs.declared.range.Span.{Span}
use Rattle.hc_rules.specs.Requests.{class_of}
use Rattle.hc_fresh.specs.Facts.{request_facts}
use Rattle.hc_event.specs.declared.event.Request.{Request}
use Rattle.hc_event.specs.declared.event.Response.{Response}
use Rattle.hc_event.specs.declared.act.Cause.{Cause}
use Rattle.hc_event.specs.declared.place.Place.{Place}
use Rattle.hc_event.specs.declared.place.Place.TheVariants as place
use Rattle.hc_event.specs.declared.place.BoundBy.TheVariants as by
use Rattle.hc_txn.specs.declared.transaction.Transaction.{Transaction}

-- WHERE IT STANDS

abbrev pub begun : Request → ℕ → Transaction
begun request now = record {
  request = request;
  class = class_of request;
  facts = request_facts request;
  since = now;
  place = place.Line;
  own = None;
  shown = false;
  answer = None;
  lo = 0;
  hi = None;
  given = 0;
  due = None;
  classed = refl;
  reported = refl;
}

-- it waits in the line of its key with others
abbrev pub queues : Transaction → Bool
queues k = not k.class.disabled && not k.class.only

abbrev pub has_passed : Place → Bool
has_passed (place.Passed r kept) = true
has_passed _ = false

abbrev pub kept_by : Place → Option ℕ
kept_by (place.Passed r kept) = kept
kept_by _ = None

-- HOW IT CHANGES

-- it is in line
abbrev pub lined_up : Transaction → Transaction
lined_up k = record k { place = place.Line }

-- it has passed, for r
abbrev pub passed_for : ℕ → Transaction → Transaction
passed_for r k = record k { place = place.Passed r None }

-- it reads this of r by its plan, and was shown its head
abbrev pub bound_shown : ℕ → ℕ → Option ℕ → Transaction → Transaction
bound_shown r lo hi k =
    record k { place = place.Bound r lo hi by.Plan; lo = lo; hi = hi; shown = true }

-- it waits for the head of its own exchange, bound as the only one to this span of r
abbrev pub bound_first : ℕ → Span → ℕ → Transaction → Transaction
bound_first r span x k = record k {
  place = place.Bound r span.lo (Some span.hi) (by.FirstHole x);
  own = Some x;
  lo = span.lo;
  hi = Some span.hi;
}

-- it reads this of what its exchange founded, which isn't its own any more where others read that too
abbrev pub founding : ℕ → Bool → ℕ → Option ℕ → Transaction → Transaction
founding r shared lo hi k = record k {
  place = place.Bound r lo hi by.Founding;
  own = if shared then None else k.own;
  lo = lo;
  hi = hi;
}

abbrev pub with_own : ℕ → Transaction → Transaction
with_own x k = record k { own = Some x }

abbrev pub without_own : Transaction → Transaction
without_own k = record k { own = None }

-- it waits for the head of its own exchange, past the store or with the turn
abbrev pub reading_past : ℕ → Transaction → Transaction
reading_past x k = record k { place = place.Direct x; own = Some x }

abbrev pub with_turn : ℕ → Transaction → Transaction
with_turn x k = record k { place = place.Turn x; own = Some x }

abbrev pub answer_of : Transaction → Option Response
answer_of k = k.answer

-- it was shown its head, if it has one to be shown
abbrev pub once_answered : Transaction → Transaction
once_answered k = if is_some k.answer then record k { shown = true; answer = None } else k

abbrev pub once_shown : Transaction → Transaction
once_shown k = record k { shown = true }

abbrev pub once_given : ℕ → Transaction → Transaction
once_given n k = record k { given = k.given + n }

-- the head of its answer past the store came, which begins and ends there
abbrev pub with_answer : Response → ℕ → Option ℕ → Transaction → Transaction
with_answer head lo hi k = record k { answer = Some head; lo = lo; hi = hi }

-- it stands there, and reads nothing yet
abbrev pub standing_at : Place → Transaction → Transaction
standing_at place k = record k { place = place; lo = 0; hi = None }

abbrev pub put_down : Cause → Transaction → Transaction
put_down cause k =
    record k { place = place.Down cause; lo = 0; hi = None; due = None }

-- what was due first stays due
abbrev pub with_due : Cause → Transaction → Transaction
with_due cause k = record k { due = option_or k.due (Some cause) }

abbrev pub with_end : ℕ → Transaction → Transaction
with_end hi k = record k { hi = option_or k.hi (Some hi) }

-- it stands in line again, as if it had just started
abbrev pub once_over : ℕ → Transaction → Transaction
once_over now k =
    record k { place = place.Line; since = now; own = None; lo = 0; hi = None; due = None }
