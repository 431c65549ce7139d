-- A field line at the front of a text, byte by byte.
--
-- A name goes on to the first byte that isn't of lower case, a value to the first that no value has. For either kind
-- the first module says where that byte is (`position-other`) and what stands behind (`behind-kind`). A text without
-- one begins with no line (`no_other`). Name and value make a line (`begins_with_line`). A text begins with one line at
-- most, so what was cut is a field where the text has one (`same_line`). The reading of lines in hc_fields uses these.
use Rattle.std.{proofs.{Common.{◌≡◌, ◌≢◌, ℕ, zero, suc, ◌<◌, ◌≤◌, Bool, true, false, not, List, [], ◌∷◌, ◌++◌, length, take, drop, get_or, Some, None, IsTrue, refl, sym, ◌∙◌, inl, inr, arith, one-add, length-append}, lemmas.{Bool.{cases_eq, and_parts, and_from, both_ways, not-false, not-true, lt-ltb, ne_eqb, not_from_false, Decides.{nat_tests}}, Option.{none-some, same_Some}, List.{drop_at, Elements.{All-head, All-tail, All-cons, All-nil}, Quantifiers.{position-Some}}}}, specs.{Prelude.{position}, List.{list_all, position_or_len}, Char.{to_ascii_lowercase, is_ascii_uppercase}}}
use Rattle.http_header.specs.Token.{AllPass, lowercase, is_token_byte, is_value_byte}
use Rattle.hc_text.specs.Texts.{lacks}
use Rattle.hc_fields.specs.{FieldList.{IsField, has_own_ends}, Lines.{field_text, is_lower_byte, BeginsWith, IsCut}}
use Rattle.hc_text.proofs.Cuts.{cut_once}
use Rattle.hc_fields.proofs.FieldTexts.{field_apart, field_once, IsLine, IsLine-field}

abbrev Pair : Type 0
Pair = List ℕ × List ℕ

module _ (p : ℕ → Bool) where
  abbrev other : ℕ → Bool
  other b = not (p b)

  -- the first byte of another kind stands behind those of the kind
  first_other : (xs ys : List ℕ) (e : ℕ) → list_all p xs ≡ true → p e ≡ false → position_or_len other (xs ++ e ∷ ys) ≡ length xs
  first_other [] ys e all fails = rw fails refl
  first_other (x ∷ xs) ys e all fails =
      let both = and_parts (p x) (list_all p xs) all in
      rw (both.0, one-add, first_other xs ys e both.1 fails) refl

  pub position-other : (xs ys text : List ℕ) (e : ℕ) → list_all p xs ≡ true → p e ≡ false → xs ++ e ∷ ys ≡ text → position other text ≡ Some (length xs)
  position-other xs ys text e all fails is =
      let lt : length xs < length (xs ++ e ∷ ys) = omega (arith, length-append xs (e ∷ ys)) in
      rw (← is, first_other xs ys e all fails, lt-ltb (length xs) (length (xs ++ e ∷ ys)) lt) refl

  -- no byte of another kind
  pub no_other : (xs ys text : List ℕ) (e : ℕ) → position other text ≡ None → list_all p xs ≡ true → p e ≡ false → xs ++ e ∷ ys ≢ text
  no_other xs ys text e none all fails is = none-some _ (sym none ∙ position-other xs ys text e all fails is)

  list_all-take : (xs : List ℕ) (i : ℕ) → i ≤ length xs → ((k : ℕ) → k < i → other (get_or xs k 0) ≡ false) → list_all p (take i xs) ≡ true
  list_all-take xs zero le fails = refl
  list_all-take [] (suc i) le fails = absurd (omega arith)
  list_all-take (x ∷ xs) (suc i) le fails =
      and_from _ _ (not-false _ (fails 0 (omega arith))) (list_all-take xs i (omega arith) (λ k lt. fails (suc k) (omega arith)))

  pub kind-position : (xs : List ℕ) (i : ℕ) → position other xs ≡ Some i → list_all p (take i xs) ≡ true
  kind-position xs i some =
      let at = position-Some other xs i 0 some in
      list_all-take xs i (omega (arith, at.0)) at.2

  -- what stands behind the bytes of the kind
  pub behind-kind : (xs ys text : List ℕ) (e i : ℕ) → position other text ≡ Some i → list_all p xs ≡ true → p e ≡ false → xs ++ e ∷ ys ≡ text →
      drop i text ≡ e ∷ ys
  behind-kind xs ys text e i some all fails is =
      let at : length xs ≡ i = same_Some _ _ (sym (position-other xs ys text e all fails is) ∙ some) in
      rw (← is) (drop_at xs (e ∷ ys) i at)

pub colon_ends : is_lower_byte 58 ≡ false
unfolding is_token_byte
colon_ends = refl

pub feed_ends : is_value_byte 10 ≡ false
feed_ends = refl

pub lacks-kind : (p : ℕ → Bool) (e : ℕ) (xs : List ℕ) → p e ≡ false → list_all p xs ≡ true → lacks e xs ≡ true
lacks-kind p e [] fails all = refl
lacks-kind p e (x ∷ xs) fails all =
    let both = and_parts (p x) (list_all p xs) all in
    elim (cases_eq x e) [
      | inl same ↦ absurd (both_ways _ fails (rw same at both.0))
      | inr differs ↦ and_from _ _ (not_from_false _ (ne_eqb x e differs)) (lacks-kind p e xs fails both.1)
    ]

-- a line whose name the text begins with goes on as the text does
pub cut_behind : (f : Pair) (name rest after text : List ℕ) → IsCut f → list_all is_lower_byte name ≡ true → name ++ 58 ∷ 32 ∷ rest ≡ text →
    field_text f ++ after ≡ text → f.1 ++ 10 ∷ after ≡ rest
cut_behind f name rest after text cut all is same =
    let apart = sym (field_apart f after) ∙ (same ∙ sym is) in
    let once = cut_once 58 f.0 _ name _ (lacks-kind is_lower_byte 58 f.0 colon_ends cut.0) (lacks-kind is_lower_byte 58 name colon_ends all) apart in
    cc once.1

-- name and value make a line
pub begins_with_line : (name value rest after text : List ℕ) → name ++ 58 ∷ 32 ∷ rest ≡ text → value ++ 10 ∷ after ≡ rest →
    BeginsWith (field_text (name, value)) text
begins_with_line name value rest after text is value_is =
    let whole : field_text (name, value) ++ after ≡ text =
    field_apart (name, value) after ∙ (rw value_is is) in
    let behind : drop (length (field_text (name, value))) text ≡ after =
    rw (← whole) (drop_at (field_text (name, value)) after _ refl) in
    rw behind whole

-- names in lower case
lower_token : (bytes : List ℕ) → list_all is_lower_byte bytes ≡ true → AllPass is_token_byte bytes
lower_token [] all = All-nil (λ x. IsTrue (is_token_byte x))
lower_token (b ∷ bytes) all =
    let both = and_parts (is_lower_byte b) (list_all is_lower_byte bytes) all in
    All-cons (λ x. IsTrue (is_token_byte x)) b bytes (and_parts _ _ both.0).0 (lower_token bytes both.1)

lower_same : (b : ℕ) → is_ascii_uppercase b ≡ false → to_ascii_lowercase b ≡ b
lower_same b fails = grind (arith, nat_tests)

upper_differs : (b : ℕ) → to_ascii_lowercase b ≡ b → is_ascii_uppercase b ≡ false
upper_differs b same = grind (arith, nat_tests)

lower_lowercase : (bytes : List ℕ) → list_all is_lower_byte bytes ≡ true → lowercase bytes ≡ bytes
lower_lowercase [] all = refl
lower_lowercase (b ∷ bytes) all =
    let both = and_parts (is_lower_byte b) (list_all is_lower_byte bytes) all in
    let first = lower_same b (not-true _ (and_parts _ _ both.0).1) in
    let rest = lower_lowercase bytes both.1 in
    cc

lowercase_lower : (bytes : List ℕ) → AllPass is_token_byte bytes → lowercase bytes ≡ bytes → list_all is_lower_byte bytes ≡ true
lowercase_lower [] tokens same = refl
lowercase_lower (b ∷ bytes) tokens same =
    let first : to_ascii_lowercase b ≡ b = cc in
    let rest : lowercase bytes ≡ bytes = cc in
    let token : is_token_byte b ≡ true = All-head (λ x. IsTrue (is_token_byte x)) b bytes tokens in
    and_from _ _ (and_from _ _ token (not_from_false _ (upper_differs b first)))
    (lowercase_lower bytes (All-tail (λ x. IsTrue (is_token_byte x)) b bytes tokens) rest)

pub IsCut-field : (f : Pair) → IsField f → IsCut f
IsCut-field f h = (lowercase_lower f.0 h.is_name.1 h.is_lower, (and_parts _ _ h.is_value).0)

pub IsField-cut : (f : Pair) → IsCut f → 0 < length f.0 → length f.1 ≤ 8192 → has_own_ends f.1 ≡ true → IsField f
IsField-cut f cut some short ends =
    record {
      is_name = (some, lower_token f.0 cut.0);
      is_lower = lower_lowercase f.0 cut.0;
      is_value = and_from _ _ cut.1 ends;
      is_short = short;
    }

-- a text begins with one line at most
pub same_line : (f g : Pair) (after text : List ℕ) → IsField f → IsCut g → BeginsWith (field_text g) text → field_text f ++ after ≡ text → IsField g
same_line f g after text field cut begins same =
    let line : IsLine g = (lacks-kind is_lower_byte 58 g.0 colon_ends cut.0, lacks-kind is_value_byte 10 g.1 feed_ends cut.1) in
    let once = field_once f g after _ (IsLine-field f field) line (same ∙ sym begins) in
    rw once.0 at field
