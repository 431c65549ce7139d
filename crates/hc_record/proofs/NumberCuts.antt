-- A plain number before the first of some byte.
use Rattle.std.{proofs.{Common.{◌≡◌, ℕ, suc, ◌+◌, ◌-◌, ◌<◌, ◌≤◌, ◌^◌, Bool, true, List, ◌∷◌, ◌++◌, length, take, drop, get_or, sym, ap, ◌∙◌, inl, inr, arith}, Math.Seq.{take-append-add}, lemmas.{Bool.{cases_lt, and_parts}, Fmt.{decimal_is_IsNumeral, decimal-digits_value}, List.{take-append-drop, take-append-le, Folds.{list_all-append}}, Str.Parse.{digits_value-take-le}}}, specs.{Char.{is_ascii_digit}, Fmt.{decimal}, List.{list_all}, Str.Parse.{digits_value}}}
use Rattle.hc_text.specs.{Numbers.{IsPlain}, Texts.{lacks}}
use Rattle.hc_text.proofs.{NumberLemmas.{tested, tested-AllDigits}, Cuts.{cut_once, lacks-decimal, lacks-not}}
use Rattle.hc_record.specs.Lines.{IsSmall}

pub plain_is : (ds : List ℕ) (n : ℕ) → list_all is_ascii_digit ds ≡ true → n ≡ digits_value 10 ds → 0 < length ds → (get_or ds 0 0 ≡ 48 → length ds ≡ 1) →
    n < 2 ^ 62 → IsPlain ds n
plain_is ds n all is some first small =
    let within : digits_value 10 ds < 2 ^ 64 = omega (arith, small, is) in
    (small, sym (ap decimal is ∙ decimal-digits_value tested ds all some first within))

-- a text that lacks the byte so far has not come past the number
pub within : (e m i : ℕ) (after text : List ℕ) → decimal m ++ e ∷ after ≡ text → lacks e (take i text) ≡ true → i ≤ length (decimal m)
within e m i after text is lacking =
    elim (cases_lt (length (decimal m)) i) [
      | inl past ↦
          let k = i - length (decimal m) - 1 in
          let at : length (decimal m) + suc k ≡ i = omega (arith, past) in
          let cut : take i text ≡ decimal m ++ e ∷ take k after =
          ap (take i) (sym is) ∙ (ap (λ (j : ℕ). take j (decimal m ++ e ∷ after)) (sym at) ∙ take-append-add (decimal m) (e ∷ after) (suc k)) in
          absurd (lacks-not e (decimal m) (take k after) (ap (lacks e) (sym cut) ∙ lacking))
      | inr fine ↦ omega (arith, fine)
    ]

-- so far it is the number's front
pub front_is : (e m i : ℕ) (after text : List ℕ) → decimal m ++ e ∷ after ≡ text → i ≤ length (decimal m) → take i text ≡ take i (decimal m)
front_is e m i after text is le = ap (take i) (sym is) ∙ take-append-le i (decimal m) (e ∷ after) le

-- what ends at the byte is the number
pub number_is : (e m i : ℕ) (after text : List ℕ) → e < 48 → IsSmall m → decimal m ++ e ∷ after ≡ text → lacks e (take i text) ≡ true → take i text ++ e ∷
    drop (i + 1) text ≡ text → take i text ≡ decimal m
number_is e m i after text below small is lacking whole =
    sym (cut_once e (decimal m) after (take i text) (drop (i + 1) text) (lacks-decimal e m below small) lacking (is ∙ sym whole)).0

pub value_is : (m : ℕ) → IsSmall m → digits_value 10 (decimal m) ≡ m
value_is m small = (decimal_is_IsNumeral m (omega arith)).1

pub all_digits : (m : ℕ) → IsSmall m → list_all is_ascii_digit (decimal m) ≡ true
all_digits m small = tested-AllDigits (decimal m) (decimal_is_IsNumeral m (omega arith)).0.1

list_all-take : (p : ℕ → Bool) (ds : List ℕ) (i : ℕ) → list_all p ds ≡ true → list_all p (take i ds) ≡ true
list_all-take p ds i all =
    (and_parts (list_all p (take i ds)) (list_all p (drop i ds))
    (sym (ap (list_all p) (sym (take-append-drop i ds)) ∙ list_all-append p (take i ds) (drop i ds)) ∙ all)).0

-- one byte more is still of the number
pub next_in : (e m i : ℕ) (after text : List ℕ) → IsSmall m → decimal m ++ e ∷ after ≡ text → lacks e (take (i + 1) text) ≡ true
    → (list_all is_ascii_digit (take (i + 1) text) ≡ true) × (digits_value 10 (take (i + 1) text) ≤ m)
next_in e m i after text small is lacking =
    let le = within e m (i + 1) after text is lacking in
    let front = front_is e m (i + 1) after text is le in
    let most = digits_value-take-le 10 (decimal m) (i + 1) (omega arith) in
    let value = value_is m small in
    let bound : digits_value 10 (take (i + 1) (decimal m)) ≤ m = omega (arith, most, value) in
    (ap (list_all is_ascii_digit) front ∙ list_all-take is_ascii_digit (decimal m) (i + 1) (all_digits m small), rw front bound)
