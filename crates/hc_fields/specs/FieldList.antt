-- Lists of fields, each its name and its value.
use Rattle.std.specs.Prelude.{◌≡◌, ◌≢◌, ℕ, ◌+◌, ◌-◌, ◌<◌, ◌≤◌, ◌⊎◌, Bool, false, true, not, ◌&&◌, ◌||◌, ◌==◌, List, [], ◌∷◌, ◌++◌, length, slice_index, if◌then◌else◌, map, filter, All, codes, bytes_eq, Option, Some, None}
use Rattle.std.specs.List.{list_all, sum_by, flat_map, position_or_len}
use Rattle.std.specs.Ordering.{nat_cmp, is_lt}
use Rattle.std.specs.Cmp.Lexicographic.{slice_cmp}
use Rattle.http_header.specs.Token.{IsToken, lowercase, is_value_byte}
use Rattle.hc_text.specs.Elements.{is_blank}
use Rattle.hc_fields.specs.declared.error.FieldError.{FieldError}
use Rattle.hc_fields.specs.declared.error.FieldError.TheVariants.{BadName, BadValue, TooMany, TooLong, NoMemory}

-- by the bytes, in order
abbrev pub comes_before : List ℕ → List ℕ → Bool
comes_before a b = is_lt (slice_cmp nat_cmp a b)

-- the list with the field after those of its name
abbrev pub field_list_with : List ℕ → List ℕ → List (List ℕ × List ℕ) → List (List ℕ × List ℕ)
field_list_with name value [] = (name, value) ∷ []
field_list_with name value (f ∷ fs) =
    if comes_before name f.0 then (name, value) ∷ f ∷ fs else f ∷ field_list_with name value fs

-- the field has this name
abbrev pub has_name : List ℕ → List ℕ × List ℕ → Bool
has_name name f = bytes_eq f.0 name

-- the values of this name, in order
abbrev pub values_of : List ℕ → List (List ℕ × List ℕ) → List (List ℕ)
values_of name fs = map (λ (f : List ℕ × List ℕ). f.1) (filter (has_name name) fs)

-- the fields of all other names, in order
abbrev pub without : List ℕ → List (List ℕ × List ℕ) → List (List ℕ × List ℕ)
without name fs = filter (λ f. not (has_name name f)) fs

-- each other name keeps its values
abbrev pub KeepsOthers : List ℕ → List (List ℕ × List ℕ) → List (List ℕ × List ℕ) → Type 0
KeepsOthers name old new = (other : List ℕ) → other ≢ name → values_of other new ≡ values_of other old

-- the values, each behind a comma and a space
abbrev pub separated_values : List (List ℕ) → List ℕ
separated_values vs = flat_map (λ v. codes ", " ++ v) vs

-- the values with a comma and a space between each two, where there is one
abbrev pub joined_of : List (List ℕ) → Option (List ℕ)
joined_of [] = None
joined_of (v ∷ vs) = Some (v ++ separated_values vs)

-- the bytes of all names and values
abbrev pub size_of : List (List ℕ × List ℕ) → ℕ
size_of fs = sum_by (λ f. length f.0 + length f.1) fs

-- no space or tab at an end
abbrev pub has_own_ends : List ℕ → Bool
has_own_ends value =
    length value == 0
    || not (is_blank (slice_index value 0) || is_blank (slice_index value (length value - 1)))

-- no control byte but the tab, and no space or tab at an end
abbrev pub is_own_value : List ℕ → Bool
is_own_value value = list_all is_value_byte value && has_own_ends value

-- a field may be added where this many fields of this many bytes are
pub record HasPlace (count size : ℕ) (name value : List ℕ) : Type 0 where
  pub is_name : IsToken name
  pub is_value : is_own_value value ≡ true
  pub has_place : count < 80
  pub is_short : length value ≤ 8192
  pub fits : size + length name + length value ≤ 49152

-- why it may not, the first reason that applies
abbrev pub LacksPlace : FieldError → ℕ → ℕ → List ℕ → List ℕ → Type 0
LacksPlace BadName count size name value = ¬ (IsToken name)
LacksPlace BadValue count size name value = IsToken name × (is_own_value value ≡ false)
LacksPlace TooMany count size name value = IsToken name × (is_own_value value ≡ true) × (80 ≤ count)
LacksPlace TooLong count size name value =
    IsToken name × (is_own_value value ≡ true) × (count < 80)
    × ((8192 < length value) ⊎ (49152 < size + length name + length value))
LacksPlace NoMemory count size name value = ⊥

-- the field may be added to the list
abbrev pub IsAllowed : List (List ℕ × List ℕ) → List ℕ → List ℕ → Type 0
IsAllowed fs = HasPlace (length fs) (size_of fs)

-- why the field is refused
abbrev pub Refuses : FieldError → List (List ℕ × List ℕ) → List ℕ → List ℕ → Type 0
Refuses e fs = LacksPlace e (length fs) (size_of fs)

-- a field as the list has it: its name is a token in lower case
pub record IsField (f : List ℕ × List ℕ) : Type 0 where
  pub is_name : IsToken f.0
  pub is_lower : lowercase f.0 ≡ f.0
  pub is_value : is_own_value f.1 ≡ true
  pub is_short : length f.1 ≤ 8192

-- no name comes before an earlier one
abbrev pub is_sorted : List (List ℕ × List ℕ) → Bool
is_sorted [] = true
is_sorted (f ∷ fs) = list_all (λ (g : List ℕ × List ℕ). not (comes_before g.0 f.0)) fs && is_sorted fs

-- what holds of each list that a `Fields` is seen as
pub record IsFieldList (fs : List (List ℕ × List ℕ)) : Type 0 where
  pub fields : All IsField fs
  pub sorted : is_sorted fs ≡ true
  pub few : length fs ≤ 80
  pub small : size_of fs ≤ 49152

-- as few and as small as the fields of a head from outside
pub record IsWithinLimits (fs : List (List ℕ × List ℕ)) : Type 0 where
  pub few : length fs ≤ 64
  pub small : size_of fs ≤ 32768

-- the first place whose name does not come before this one
abbrev pub start_of : List ℕ → List (List ℕ × List ℕ) → ℕ
start_of name fs = position_or_len (λ (f : List ℕ × List ℕ). not (comes_before f.0 name)) fs

-- the first place whose name comes after this one
abbrev pub end_of : List ℕ → List (List ℕ × List ℕ) → ℕ
end_of name fs = position_or_len (λ (f : List ℕ × List ℕ). comes_before name f.0) fs

-- the list has so many fields
pub record IsListOf (count : ℕ) (fs : List (List ℕ × List ℕ)) : Type 0 where
  pub list : IsFieldList fs
  pub count_is : length fs ≡ count
