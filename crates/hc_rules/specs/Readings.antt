-- What a consumer is answered that was shown a head: the first of six cases that applies.
use Rattle.std.specs.Prelude.{ℕ, nat_le, min, Bool, false, if◌then◌else◌, Option, Some, None, unwrap_or}
use Rattle.hc_range.specs.declared.range.Span.{Span}
use Rattle.hc_event.specs.declared.act.Cause.{Cause}
use Rattle.hc_rules.specs.declared.reading.ReadStep.{ReadStep}
use Rattle.hc_rules.specs.declared.reading.ReadStep.TheVariants as step
use Rattle.hc_rules.specs.declared.reading.ReadView.{ReadView}

-- the end is known, and the offset is there
abbrev pub is_at_end : Option ℕ → ℕ → Bool
is_at_end None offset = false
is_at_end (Some hi) offset = nat_le hi offset

-- the position, or the end where that is known and comes before
abbrev pub cut_at : Option ℕ → ℕ → ℕ
cut_at None position = position
cut_at (Some hi) position = min hi position

-- up to the next stored byte, or to the end
abbrev pub hole_end : Option ℕ → ℕ → Option ℕ → ℕ
hole_end hi offset (Some next) = cut_at hi next
hole_end hi offset None = unwrap_or hi offset

-- the hole at the offset
abbrev pub hole_ahead : ReadView → Span
hole_ahead v = record { lo = v.offset; hi = hole_end v.hi v.offset v.next_stored }

-- in a hole
abbrev pub opens : ReadView → ReadStep
opens v = step.Hole (hole_ahead v)

-- waiting
abbrev pub waits_or : Option ℕ → ReadStep → ReadStep
waits_or None other = other
waits_or (Some x) other = step.Waits x

-- due
abbrev pub fails_or : Option Cause → ReadStep → ReadStep
fails_or None other = other
fails_or (Some cause) other = step.Failed cause

-- held
abbrev pub held_or : Bool → ReadStep → ReadStep
held_or held other = if held then step.Held else other

-- stored
abbrev pub stored_or : Option ℕ → Option ℕ → ReadStep → ReadStep
stored_or hi None other = other
stored_or hi (Some end) other = step.Stored (cut_at hi end)

-- at the end, or else the others in order
unfoldable pub read_step : ReadView → ReadStep
read_step v =
    if is_at_end v.hi v.offset then step.Ended
    else stored_or v.hi v.stored (held_or v.held (fails_or v.due (waits_or v.source (opens v))))
