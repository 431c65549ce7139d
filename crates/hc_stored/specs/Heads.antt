-- What a head tells that is asked often.
use Rattle.std.specs.Prelude.{ℕ, List, Bool, codes, bytes_eq, Option}
use Rattle.std.specs.List.{list_any}
use Rattle.http_header.specs.Token.{lowercase}
use Rattle.hc_fields.specs.FirstValues.{elements_in}
use Rattle.hc_record.specs.declared.kind.Kind.{Kind}
use Rattle.hc_record.specs.Head.{Head}
use Rattle.hc_fresh.specs.declared.facts.HeadFacts.{HeadFacts}
use Rattle.hc_fresh.specs.Facts.{head_facts}

abbrev pub is_none_element : List ℕ → Bool
is_none_element element = bytes_eq (lowercase element) (codes "none")

-- its origin takes no ranges (RFC 9110 section 14.3)
abbrev pub refuses_ranges : Head → Bool
refuses_ranges head = list_any is_none_element (elements_in (codes "accept-ranges") head.fields)

pub record Summary : Type 0 where
  pub facts : HeadFacts
  pub status : ℕ
  pub kind : Kind
  pub total : Option ℕ
  pub tag : Option (List ℕ)  -- the one by which other parts join
  pub refuses_ranges : Bool

abbrev pub summary_of : Head → Summary
summary_of head = record {
  facts = head_facts head;
  status = head.status;
  kind = head.kind;
  total = head.total;
  tag = head.joining;
  refuses_ranges = refuses_ranges head;
}
