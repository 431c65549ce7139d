-- Digits are counted one by one.
use Rattle.std.{proofs.{Common.{◌≡◌, ◌≢◌, ℕ, ◌+◌, ◌*◌, ◌<◌, ◌≤◌, min, Bool, true, false, ◌⊎◌, List, [], ◌∷◌, length, drop, get_or, Option, Some, None, if◌then◌else◌, refl, ap, ◌∙◌, inl, inr, arith}, lemmas.{Bool.{cases_lt, ne_eqb}, List.{drop_more, drop_all}}}, specs.{Option.{option_map, option_and_then, unwrap_or}, List.{list_all}, Char.{is_ascii_digit, digit_value}, Str.Parse.{digits_value_after}}}
use Rattle.hc_text.specs.Elements.{quote, backslash}
use Rattle.hc_cachectl.specs.Seconds.{most_seconds, plain_seconds, quoted_content}

-- one more digit
abbrev pub more : Option ℕ → ℕ → ℕ
more seconds d = min (unwrap_or seconds 0 * 10 + digit_value d) most_seconds

-- the seconds that digits tell behind those before
abbrev pub seconds_after : Option ℕ → List ℕ → Option ℕ
seconds_after seconds [] = seconds
seconds_after seconds (d ∷ ds) = if is_ascii_digit d then seconds_after (Some (more seconds d)) ds else None

-- the seconds that digits tell behind n
abbrev reported : ℕ → List ℕ → Option ℕ
reported n ds = if list_all is_ascii_digit ds then Some (min (digits_value_after 10 n ds) most_seconds) else None

capped-digit : (n : ℕ) (s : Option ℕ) (d : ℕ) (ds : List ℕ) (b : Bool) → is_ascii_digit d ≡ b →
    seconds_after (Some (more s d)) ds ≡ reported (n * 10 + digit_value d) ds → seconds_after s (d ∷ ds) ≡ reported n (d ∷ ds)
capped-digit n s d ds true digit later = rw digit later
capped-digit n s d ds false digit later = rw digit refl

capped : (n k : ℕ) (ds : List ℕ) → k ≡ min n most_seconds → seconds_after (Some k) ds ≡ reported n ds
capped n k [] is = ap Some is
capped n k (d ∷ ds) is =
    capped-digit n (Some k) d ds (is_ascii_digit d) refl (capped (n * 10 + digit_value d) (more (Some k) d) ds (omega (arith, is)))

pub plain_is : (ds : List ℕ) → seconds_after None ds ≡ plain_seconds ds
plain_is [] = refl
plain_is (d ∷ ds) =
    capped-digit 0 None d ds (is_ascii_digit d) refl (capped (0 * 10 + digit_value d) (more None d) ds (omega arith))

said_is : (text : Option (List ℕ)) → option_and_then (seconds_after None) text ≡ option_and_then plain_seconds text
said_is None = refl
said_is (Some ds) = plain_is ds

-- the seconds of what a quoted string says behind those before
abbrev pub quoted_after : Option ℕ → List ℕ → Option ℕ
quoted_after seconds text = option_and_then (seconds_after seconds) (quoted_content text)

pub quoted_is : (text : List ℕ) → quoted_after None text ≡ option_and_then plain_seconds (quoted_content text)
quoted_is text = said_is (quoted_content text)

-- a byte that is said
said-digit : (seconds : Option ℕ) (d : ℕ) (text : Option (List ℕ)) → is_ascii_digit d ≡ true → option_and_then
    (seconds_after seconds) (option_map (λ ds. d ∷ ds) text) ≡ option_and_then (seconds_after (Some (more seconds d))) text
said-digit seconds d None digit = refl
said-digit seconds d (Some ds) digit = rw digit refl

said-other : (seconds : Option ℕ) (d : ℕ) (text : Option (List ℕ)) → is_ascii_digit d ≡ false → option_and_then
    (seconds_after seconds) (option_map (λ ds. d ∷ ds) text) ≡ None
said-other seconds d None digit = refl
said-other seconds d (Some ds) digit = rw digit refl

front : (text : List ℕ) (i : ℕ) → i + 1 < length text → drop i text ≡ get_or text i 0 ∷ get_or text (i + 1) 0 ∷ drop (i + 1 + 1) text
front text i lt = drop_more text i 0 (omega arith) ∙ ap (λ (l : List ℕ). get_or text i 0 ∷ l) (drop_more text (i + 1) 0 lt)

-- the byte that is said next: the second of two that are left behind a backslash, else the first
abbrev pub SaysNext : List ℕ → ℕ → ℕ → Type 0
SaysNext text i at = ((get_or text i 0 ≡ backslash) × (at ≡ i + 1)) ⊎ ((get_or text i 0 ≢ backslash) × (at ≡ i))

module _ (seconds : Option ℕ) (text : List ℕ) (i at : ℕ) (lt : i + 1 < length text) (no_end : get_or text i 0 ≢ quote) where
  pub next_digit : SaysNext text i at → is_ascii_digit (get_or text at 0) ≡ true →
      quoted_after seconds (drop i text) ≡ quoted_after (Some (more seconds (get_or text at 0))) (drop (at + 1) text)
  next_digit (inl taken) digit =
      rw (taken.1, front text i lt, ne_eqb (get_or text i 0) quote no_end, taken.0)
      (said-digit seconds (get_or text (i + 1) 0) (quoted_content (drop (i + 1 + 1) text)) (rw (← taken.1) digit))
  next_digit (inr plain) digit =
      rw (plain.1, front text i lt, ne_eqb (get_or text i 0) quote no_end, ne_eqb (get_or text i 0) backslash plain.0, drop_more text (i + 1) 0 lt)
      (said-digit seconds (get_or text i 0) (quoted_content (get_or text (i + 1) 0 ∷ drop (i + 1 + 1) text)) (rw (← plain.1) digit))

  pub next_other : SaysNext text i at → is_ascii_digit (get_or text at 0) ≡ false → quoted_after seconds (drop i text) ≡ None
  next_other (inl taken) digit =
      rw (front text i lt, ne_eqb (get_or text i 0) quote no_end, taken.0)
      (said-other seconds (get_or text (i + 1) 0) (quoted_content (drop (i + 1 + 1) text)) (rw (← taken.1) digit))
  next_other (inr plain) digit =
      rw (front text i lt, ne_eqb (get_or text i 0) quote no_end, ne_eqb (get_or text i 0) backslash plain.0)
      (said-other seconds (get_or text i 0) (quoted_content (get_or text (i + 1) 0 ∷ drop (i + 1 + 1) text)) (rw (← plain.1) digit))

pub closed_early : (seconds : Option ℕ) (text : List ℕ) (i : ℕ) → i + 1 < length text → get_or text i 0 ≡ quote → quoted_after seconds (drop i text) ≡ None
closed_early seconds text i lt is = rw (front text i lt, is) refl

-- one byte that is left, or none
pub never_closed : (seconds : Option ℕ) (text : List ℕ) (i : ℕ) → length text ≤ i + 1 → (i + 1 ≡ length text → get_or text i 0 ≢ quote) →
    quoted_after seconds (drop i text) ≡ None
never_closed seconds text i le ne = elim (cases_lt i (length text)) [
  | inl lt ↦ rw (drop_more text i 0 lt, drop_all (i + 1) text le, ne_eqb (get_or text i 0) quote (ne (omega arith))) refl
  | inr past ↦ rw (drop_all i text past) refl
]
