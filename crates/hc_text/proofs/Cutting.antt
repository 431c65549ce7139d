-- A text that is cut, and what stands behind a prefix.
use Rattle.std.{proofs.{Common.{◌≡◌, ℕ, ◌+◌, ◌<◌, ◌≤◌, ◌⊎◌, ◌==◌, true, not, List, [], ◌∷◌, ◌++◌, length, take, drop, get_or, Option, Some, None, refl, sym, ap, ◌∙◌, inl, inr, arith, lt-ltb}, lemmas.{Bool.{cases_Bool, cases_lt, and_parts, eqb-true, le-ltb}, List.{take-append-drop, take_at, drop_at, Sums.{passes_at_first, split_at_first}}, Slice.Eq.{bytes_eq-Decides}}}, specs.{Prelude.{bytes_eq, option_map}, List.{position_or_len}}}
pub use Rattle.hc_text.specs.Texts.{lacks}
use Rattle.hc_text.specs.Texts.{cut, behind}

pub none_or_some : {A : Type 0} (o : Option A) → (o ≡ None) ⊎ ((x : A) × (o ≡ Some x))
none_or_some None = inl refl
none_or_some (Some x) = inr (x, refl)

pub lacks-append : (b : ℕ) (xs ys : List ℕ) → lacks b xs ≡ true → lacks b ys ≡ true → lacks b (xs ++ ys) ≡ true
lacks-append b [] ys hx hy = hy
lacks-append b (x ∷ xs) ys hx hy =
    let parts = and_parts (not (x == b)) (lacks b xs) hx in rw parts.0 (lacks-append b xs ys parts.1 hy)

-- where the first b stands
abbrev place : ℕ → List ℕ → ℕ
place b text = position_or_len (λ y. y == b) text

cut-at : (b : ℕ) (text : List ℕ) → place b text < length text
    → cut b text ≡ Some (take (place b text) text, drop (place b text + 1) text)
unfolding cut
cut-at b text h = rw (lt-ltb (place b text) (length text) h) refl

cut-none : (b : ℕ) (text : List ℕ) → length text ≤ place b text → cut b text ≡ None
unfolding cut
cut-none b text h = rw (le-ltb (place b text) (length text) h) refl

cut-cons_same : (b : ℕ) (text : List ℕ) → cut b (b ∷ text) ≡ Some ([], text)
cut-cons_same b text = search (arith, cut-at)

cut-cons_other : (b x : ℕ) (text : List ℕ) → not (x == b) ≡ true
    → cut b (x ∷ text) ≡ option_map (λ parts. (x ∷ parts.0, parts.1)) (cut b text)
cut-cons_other b x text h = search (arith, cut-at, cut-none)

-- a text is cut at its first b
pub cut-first : (b : ℕ) (word rest : List ℕ) → lacks b word ≡ true → cut b (word ++ b ∷ rest) ≡ Some (word, rest)
cut-first b [] rest h = cut-cons_same b rest
cut-first b (x ∷ word) rest h =
    let parts = and_parts (not (x == b)) (lacks b word) h in
    cut-cons_other b x (word ++ b ∷ rest) parts.0 ∙ rw (cut-first b word rest parts.1) refl

-- the parts of a cut are the text
pub append-cut : (b : ℕ) (text : List ℕ) (parts : List ℕ × List ℕ) → cut b text ≡ Some parts → parts.0 ++ b ∷ parts.1 ≡ text
append-cut b text parts h =
    elim (cases_lt (place b text) (length text)) [
      | inl inside ↦
          let is : (take (place b text) text, drop (place b text + 1) text) ≡ parts = cc (sym (cut-at b text inside) ∙ h) in
          let same = eqb-true (get_or text (place b text) 0) b (passes_at_first (λ y. y == b) text 0 inside) in
          rw (← is) (sym (rw same at (split_at_first (λ y. y == b) text 0 inside)))
      | inr past ↦ cc (sym (cut-none b text past) ∙ h)
    ]

-- the text behind a prefix
pub behind-append : (prefix rest : List ℕ) → behind prefix (prefix ++ rest) ≡ Some rest
unfolding behind
behind-append prefix rest =
    let back : drop (length prefix) (prefix ++ rest) ≡ rest = drop_at prefix rest (length prefix) refl in
    let same : bytes_eq prefix prefix ≡ true = (bytes_eq-Decides prefix prefix).1 refl in
    rw (take_at prefix rest (length prefix) refl, same, back) refl

pub append-behind : (prefix text rest : List ℕ) → behind prefix text ≡ Some rest → prefix ++ rest ≡ text
unfolding behind
append-behind prefix text rest h =
    elim (cases_Bool (bytes_eq (take (length prefix) text) prefix)) [
      | inl same ↦
          let is : drop (length prefix) text ≡ rest = cc (rw same at h) in
          let front = (bytes_eq-Decides (take (length prefix) text) prefix).0 same in
          rw (← is) (ap (λ (l : List ℕ). l ++ drop (length prefix) text) (sym front) ∙ take-append-drop (length prefix) text)
      | inr other ↦ cc (rw other at h)
    ]
