-- The parts in which a resource is read, and their requests (RFC 9110 section 14.1.2).
use Rattle.std.specs.Prelude.{ℕ, ◌+◌, ◌-◌, ◌*◌, ◌/◌, min, ◌==◌, List, [], ◌∷◌, ◌++◌, codes, Option, Some, None, if◌then◌else◌}
use Rattle.std.specs.Fmt.{decimal}
use Rattle.hc_event.specs.declared.event.Event.{Event}
use Rattle.hc_event.specs.declared.event.Event.TheVariants as event
use Rattle.hc_event.specs.declared.event.Load.TheVariants as load
use Rattle.hc_event.specs.declared.event.Request.{Request}
use Rattle.hc_fetch.specs.declared.plan.FetchPlan.{FetchPlan}

-- the field that asks for the bytes from one position to another, both among them
abbrev pub range_field : ℕ → ℕ → List ℕ × List ℕ
range_field first last = (codes "range", codes "bytes=" ++ decimal first ++ codes "-" ++ decimal last)

-- a request for the bytes from one position to another, or for all
abbrev pub fields_for : Option (ℕ × ℕ) → List (List ℕ × List ℕ)
fields_for None = []
fields_for (Some (first, last)) = range_field first last ∷ []

abbrev pub request_of : FetchPlan → List (List ℕ × List ℕ) → Request
request_of plan fields =
    record { method = codes "GET"; key = plan.key; load = load.Normal; fields = fields }

-- the first consumer asks for the first part, or for all where there is to be one part
abbrev pub first_fields : FetchPlan → List (List ℕ × List ℕ)
first_fields plan =
    fields_for (if plan.parts == 1 then None else Some (0, plan.size - 1))

abbrev pub first_start : FetchPlan → Event
first_start plan = event.Start 1 (request_of plan (first_fields plan))

-- how many parts there are of so many bytes
abbrev pub part_count : FetchPlan → ℕ → ℕ
part_count plan total = min plan.parts ((total + (plan.size - 1)) / plan.size)

-- the last position of a part; the last part ends with the body
abbrev pub last_position : FetchPlan → ℕ → ℕ → ℕ
last_position plan total i =
    if i == part_count plan total then total - 1 else i * plan.size - 1

-- the consumer of a part starts
abbrev pub part_start : FetchPlan → ℕ → ℕ → Event
part_start plan total i =
    event.Start i
    (request_of plan (fields_for (Some ((i - 1) * plan.size, last_position plan total i))))
