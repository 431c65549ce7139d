-- The fields that the code has, one by one.
use Rattle.std.{proofs.{Common.{◌≡◌, ℕ, ◌+◌, ◌<◌, Bool, true, false, List, [], ◌∷◌, length, drop, get_or, zero, suc, ◌≤◌, refl, sym, ap, ◌∙◌, inl, inr, arith}, lemmas.{Bool.{cases_Bool, and_parts, leb-true}, List.{drop_more, Sums.{sum_by-cons}}}}, specs.{Prelude.{◌||◌, nat_le, filter}, List.{list_any}}}
use Rattle.hc_fields.specs.FieldList.{size_of}
use Rattle.hc_head.specs.{declared.fields.Leaving.{Leaving}, Rules.{is_within_limits, is_kept, put_all}, Held.{field_in, fields_in, with_field}}
use Rattle.httparse.specs.declared.borrowed.Header.{Header}

-- the field at a place, and those behind it
pub fields_from : (headers : List Header) (i : ℕ) (d : Header) → i < length headers → fields_in (drop i headers) ≡ field_in (get_or headers i d) ∷
    fields_in (drop (i + 1) headers)
fields_from headers i d lt = ap fields_in (drop_more headers i d lt)

any_cons : (test : List ℕ × List ℕ → Bool) (headers : List Header) (i : ℕ) (d : Header) (total : Bool) → i < length headers →
    list_any test (fields_in (drop i headers)) ≡ total
    → (test (field_in (get_or headers i d)) || list_any test (fields_in (drop (i + 1) headers))) ≡ total
any_cons test headers i d total lt all = ap (list_any test) (sym (fields_from headers i d lt)) ∙ all

pub any_next : (test : List ℕ × List ℕ → Bool) (headers : List Header) (i : ℕ) (d : Header) (is total : Bool) → i < length headers →
    is ≡ test (field_in (get_or headers i d)) → is ≡ false
    → list_any test (fields_in (drop i headers)) ≡ total → list_any test (fields_in (drop (i + 1) headers)) ≡ total
any_next test headers i d is total lt reported miss all = rw (sym reported ∙ miss) at (any_cons test headers i d total lt all)

pub any_here : (test : List ℕ × List ℕ → Bool) (headers : List Header) (i : ℕ) (d : Header) (is total : Bool) → i < length headers →
    is ≡ test (field_in (get_or headers i d)) → is ≡ true
    → list_any test (fields_in (drop i headers)) ≡ total → true ≡ total
any_here test headers i d is total lt reported hit all = rw (sym reported ∙ hit) at (any_cons test headers i d total lt all)

-- no value is long where the fields are within limits
pub within_limits_at : (headers : List Header) (i : ℕ) (d : Header) → i < length headers → is_within_limits (fields_in headers) ≡ true →
    length (get_or headers i d).value.now ≤ 8192
within_limits_at [] i d lt h = absurd (omega arith)
within_limits_at (x ∷ headers) zero d lt h =
    leb-true (length x.value.now) 8192 (and_parts (nat_le (length x.value.now) 8192) (is_within_limits (fields_in headers)) h).0
within_limits_at (x ∷ headers) (suc i) d lt h =
    within_limits_at headers i d (omega arith) (and_parts (nat_le (length x.value.now) 8192) (is_within_limits (fields_in headers)) h).1

put_more : (p : List ℕ × List ℕ → Bool) (f : List ℕ × List ℕ) (sorted fields : List (List ℕ × List ℕ))
    → put_all (put_all sorted (filter p (f ∷ []))) (filter p fields) ≡ put_all sorted (filter p (f ∷ fields))
put_more p f sorted fields = elim (cases_Bool (p f)) [ inl kept ↦ rw kept refl | inr left ↦ rw left refl ]

pub kept_next : (leaving : Leaving) (all sorted next total : List (List ℕ × List ℕ)) (headers : List Header) (i : ℕ) (d : Header) → i < length headers
    → next ≡ with_field leaving all sorted (field_in (get_or headers i d))
    → put_all sorted (filter (is_kept leaving all) (fields_in (drop i headers))) ≡ total
    → put_all next (filter (is_kept leaving all) (fields_in (drop (i + 1) headers))) ≡ total
kept_next leaving all sorted next total headers i d lt is h = search (arith, put_more, is_kept, fields_from)

pub size_from : (headers : List Header) (i : ℕ) (d : Header) → i < length headers
    → size_of (fields_in (drop i headers)) ≡ size_of (field_in (get_or headers i d) ∷ []) + size_of (fields_in (drop (i + 1) headers))
size_from headers i d lt =
    ap size_of (fields_from headers i d lt)
    ∙ (sum_by-cons (λ (g : List ℕ × List ℕ). length g.0 + length g.1) (field_in (get_or headers i d)) (fields_in (drop (i + 1) headers)) ∙ omega arith)

pub kept_small : (sorted next : List (List ℕ × List ℕ)) (headers : List Header) (i : ℕ) (d : Header) → i < length headers
    → size_of next ≤ size_of sorted + size_of (field_in (get_or headers i d) ∷ []) → size_of sorted + size_of (fields_in (drop i headers)) ≤ 32768
    → size_of next + size_of (fields_in (drop (i + 1) headers)) ≤ 32768
kept_small sorted next headers i d lt grows h = omega (arith, size_from headers i d lt)
