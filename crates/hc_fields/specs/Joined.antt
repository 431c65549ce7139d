-- What is left of the joined values of a name while they are read.
use Rattle.std.specs.Prelude.{ℕ, List, drop}
use Rattle.std.specs.Option.{option_copied}
use Rattle.http_header.specs.Token.{lowercase}
use Rattle.hc_fields.specs.FieldList.{values_of}
use Rattle.hc_fields.specs.Agreement.{left_of}
use Rattle.hc_fields.specs.declared.agree.Joined.{Joined}

abbrev pub all_values : Joined → List (List ℕ)
all_values j = values_of (lowercase j.name.now) j.fields.now

abbrev pub bytes_left : Joined → List ℕ
bytes_left j = left_of j.rest.now (option_copied j.value) (drop j.next (all_values j))
