-- Whether an answer fills a hole of a representation (RFC 9110 section 15.3.7.3, RFC 9111 section 3.4).
use Rattle.std.specs.Prelude.{ℕ, ◌+◌, ◌==◌, ◌&&◌, nat_le, not, Bool, false, List, if◌then◌else◌, Option, Some, None}
use Rattle.hc_range.specs.declared.range.Span.{Span}
use Rattle.hc_range.specs.declared.range.ContentRange.{ContentRange}
use Rattle.hc_range.specs.declared.range.ContentRange.TheVariants as range
use Rattle.hc_cachectl.specs.Directives.{of_response}
use Rattle.hc_event.specs.declared.event.Response.{Response}
use Rattle.hc_rules.specs.declared.joins.HoleAnswer.{HoleAnswer}
use Rattle.hc_rules.specs.declared.joins.HoleAnswer.TheVariants as answer
use Rattle.hc_rules.specs.RangeTexts.{content_range_of}
use Rattle.hc_rules.specs.Statuses.{brings_whole, brings_part}
use Rattle.hc_rules.specs.TagTexts.{strongly_equals}

-- the part is one of a whole of this length
abbrev pub is_of_total : Option ℕ → ℕ → Bool
is_of_total None total = false
is_of_total (Some n) total = n == total

-- the part begins where the hole does, and isn't longer; its total is given and the same
abbrev pub fills : Option ContentRange → ℕ → Span → Bool
fills None total hole = false
fills (Some (range.Unsatisfied n)) total hole = false
fills (Some (range.Part first last reported)) total hole =
    is_of_total reported total && first == hole.lo && nat_le (last + 1) hole.hi

-- The answer brings bytes of the hole from the same representation: a part whose tag is strongly equal to this one
-- and that may be stored.
unfoldable pub joins : Bool × List ℕ → ℕ → Span → Response → Bool
joins tag total hole response =
    brings_part response.status && strongly_equals response.fields tag.0 tag.1
    && fills (content_range_of response.fields) total hole
    && not (of_response response.fields).no_store

unfoldable pub hole_answer : Bool × List ℕ → ℕ → Span → Response → HoleAnswer
hole_answer tag total hole response =
    if joins tag total hole response then answer.Joins
    else if brings_whole response.status then answer.Replaced
    else answer.Other
