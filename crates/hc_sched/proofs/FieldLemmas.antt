-- What the test of a field tells.
use Rattle.std.{proofs.{lemmas.Bool.{and_parts, Decides.{nat_tests}}, Common.{◌≡◌, ℕ, ◌+◌, ◌<◌, ◌≤◌, true, List, length, arith, leb-true}}, specs.List.{list_all}}
use Rattle.hc_fields.specs.{FieldList.{IsField, Refuses, has_own_ends, size_of}, declared.error.FieldError.{FieldError}}
use Rattle.http_header.specs.Token.{is_value_byte}
use Rattle.hc_fields.specs.declared.error.FieldError.TheVariants as error
use Rattle.hc_fields.proofs.ReadLemmas.{IsField-cut}
use Rattle.hc_sched.specs.FieldLines.{may_follow, is_lower_token, has_room, keeps_order}

abbrev Pair : Type 0
Pair = List ℕ × List ℕ

-- a field that may follow
pub record Follows (fields : List Pair) (field : Pair) : Type 0 where
  pub is : IsField field
  pub fits : size_of fields + length field.0 + length field.1 ≤ 32768
  pub order : keeps_order fields field.0 ≡ true

pub Follows-from_test : (fields : List Pair) (field : Pair) → may_follow fields field ≡ true → Follows fields field
unfolding may_follow is_lower_token has_room
Follows-from_test fields field h =
    let outer = and_parts _ _ h in
    let inner = and_parts _ _ outer.0 in
    let first = and_parts _ _ inner.0 in
    let name = and_parts _ _ first.0 in
    let value = and_parts (list_all is_value_byte field.1) (has_own_ends field.1) first.1 in
    let room = and_parts _ _ inner.1 in
    let some : 1 ≤ length field.0 = leb-true 1 (length field.0) name.0 in
    record {
      is = IsField-cut field (name.1, value.0) (omega arith) (leb-true (length field.1) 8192 room.0) value.1;
      fits = leb-true (size_of fields + length field.0 + length field.1) 32768 room.1;
      order = outer.1;
    }

-- such a field is refused for want of memory alone
pub never_refused : (e : FieldError) (fields : List Pair) (field : Pair) → Follows fields field → length fields < 64 → (e ≡ error.NoMemory → ⊥) →
    Refuses e fields field.0 field.1 → ⊥
never_refused e fields field h few other refused = grind (arith, nat_tests)
