-- What consumers are shown, and what the first one's head says of the whole.
use Rattle.std.specs.Prelude.{ℕ, ◌==◌, List, [], ◌∷◌, Option, Some, None, if◌then◌else◌}
use Rattle.std.specs.Option.{option_or}
use Rattle.hc_event.specs.declared.act.Act.{Act}
use Rattle.hc_event.specs.declared.act.Act.TheVariants as act
use Rattle.hc_range.specs.declared.range.ContentRange.{ContentRange}
use Rattle.hc_range.specs.declared.range.ContentRange.TheVariants.{Part, Unsatisfied}
use Rattle.hc_rules.specs.RangeTexts.{content_range_of}
use Rattle.hc_model.specs.Entries.{History}

-- a head that a consumer is shown
pub record Head : Type 0 where
  pub c : ℕ
  pub r : ℕ
  pub status : ℕ
  pub fields : List (List ℕ × List ℕ)

-- the heads that are shown among these acts, the first one first
abbrev pub heads_in : List Act → List Head
heads_in [] = []
heads_in (act.Shown c r why status fields lo hi ∷ acts) =
    record { c = c; r = r; status = status; fields = fields } ∷ heads_in acts
heads_in (_ ∷ acts) = heads_in acts

-- the head that the first consumer is shown among them
abbrev pub first_in : List Head → Option Head
first_in [] = None
first_in (head ∷ heads) = if head.c == 1 then Some head else first_in heads

-- the head that the first consumer was shown
abbrev pub first_head : History → Option Head
first_head [] = None
first_head (e ∷ f) = option_or (first_head f) (first_in (heads_in e.acts))

-- the length that a part from 0 on tells
abbrev pub total_by : Option ContentRange → Option ℕ
total_by None = None
total_by (Some (Part first last total)) = if first == 0 then total else None
total_by (Some (Unsatisfied total)) = None

-- the length of the whole that a 206 tells whose part begins at 0 (RFC 9110 section 14.4)
abbrev pub total_of : Head → Option ℕ
total_of head = if head.status == 206 then total_by (content_range_of head.fields) else None
