-- A strong tag is read where the text spells one.
use Rattle.std.{proofs.{Common.{◌≡◌, ℕ, suc, ◌+◌, ◌-◌, ◌≤◌, true, false, eqb, leb, List, [], ◌∷◌, ◌++◌, length, take, get_or, Some, None, refl, sym, ap, ◌∙◌, subst, inl, inr, arith}, lemmas.{Bool.{cases_Bool, and_parts, and_from, eqb-true}, List.{take_more, length-append}}, Math.Seq.{take-length, take-append_seam}}, specs.{Prelude.{◌&&◌}, List.{list_all}}}
use Rattle.hc_text.proofs.Basics.{le-leb}
use Rattle.hc_etag.specs.{Etags.{is_etagc, SpellsTag}, TagTexts.{inner, is_quoted, strong_in}}

-- a list is what stands before its last element, and that
last-split : (xs : List ℕ) (n : ℕ) → length xs ≡ n + 1 → xs ≡ take n xs ++ get_or xs n 0 ∷ []
last-split xs n long =
    let whole : take (n + 1) xs ≡ xs = ap (λ (k : ℕ). take k xs) (sym long) ∙ take-length xs in
    sym whole ∙ take_more xs n 0 (omega arith)

-- the same of a text of two bytes at least, whose first and last are known
quoted-split : (b : ℕ) (xs : List ℕ) (n : ℕ) → length xs ≡ n + 1 → b ≡ 34 → get_or xs n 0 ≡ 34 → b ∷ xs ≡ 34 ∷ take n xs ++ 34 ∷ []
quoted-split b xs n long first last =
    rw first (ap (λ (ys : List ℕ). 34 ∷ ys) (last-split xs n long ∙ ap (λ (q : ℕ). take n xs ++ q ∷ []) last))

spells-quoted : (text : List ℕ) → is_quoted text ≡ true → SpellsTag text false (inner text)
spells-quoted [] h = absurd (cc)
spells-quoted (b ∷ []) h = absurd (cc)
spells-quoted (b ∷ c ∷ rest) h =
    let text = b ∷ c ∷ rest in
    let long = leb 2 (length text) in
    let first = eqb b 34 in
    let last = eqb (get_or text (length text - 1) 0) 34 in
    let most = and_parts (long && first && last) (list_all is_etagc (inner text)) h in
    let more = and_parts (long && first) last most.0 in
    let some = and_parts long first more.0 in
    let before : length text - 1 ≡ suc (length rest) = omega arith in
    let between : length text - 1 - 1 ≡ length rest = omega arith in
    let ends : get_or text (length text - 1) 0 ≡ 34 = eqb-true _ 34 more.1 in
    let ends_so : get_or text (suc (length rest)) 0 ≡ 34 = ap (λ (k : ℕ). get_or text k 0) (sym before) ∙ ends in
    let count : length (c ∷ rest) ≡ length rest + 1 = omega arith in
    (most.1, quoted-split b (c ∷ rest) (length rest) count (eqb-true b 34 some.1) ends_so ∙ ap (λ (k : ℕ). 34 ∷ (take k (c ∷ rest) ++ 34 ∷ [])) (sym between))

pub strong_in-some : (text opaque : List ℕ) → strong_in text ≡ Some opaque → SpellsTag text false opaque
unfolding strong_in
strong_in-some text opaque h = elim (cases_Bool (is_quoted text)) [
  | inl is ↦ let e : Some (inner text) ≡ Some opaque = rw is at h in let same : inner text ≡ opaque = cc in
      subst (SpellsTag text false) same (spells-quoted text is)
  | inr isnt ↦ let e : None ≡ Some opaque = rw isnt at h in absurd (cc)
]

abbrev spelled : List ℕ → List ℕ
spelled opaque = 34 ∷ (opaque ++ 34 ∷ [])

length-spelled : (opaque : List ℕ) → length (spelled opaque) ≡ length opaque + 2
length-spelled opaque = let e : length (opaque ++ 34 ∷ []) ≡ length opaque + 1 = length-append opaque (34 ∷ []) in omega arith

inner-spelled : (opaque : List ℕ) → inner (spelled opaque) ≡ opaque
inner-spelled opaque =
    let long = length-spelled opaque in
    let count : length (spelled opaque) - 1 - 1 ≡ length opaque = omega arith in
    ap (λ (k : ℕ). take k (opaque ++ 34 ∷ [])) count ∙ take-append_seam opaque (34 ∷ [])

last-spelled : (opaque : List ℕ) → get_or (opaque ++ 34 ∷ []) (length opaque) 0 ≡ 34
last-spelled [] = refl
last-spelled (b ∷ opaque) = last-spelled opaque

quoted-spelled : (opaque : List ℕ) → list_all is_etagc opaque ≡ true → is_quoted (spelled opaque) ≡ true
quoted-spelled opaque all =
    let text = spelled opaque in
    let size = length-spelled opaque in
    let before : length text - 1 ≡ suc (length opaque) = omega arith in
    let long : leb 2 (length text) ≡ true = le-leb 2 (length text) (omega arith) in
    let ends : eqb (get_or text (length text - 1) 0) 34 ≡ true = ap (λ (k : ℕ). eqb (get_or text k 0) 34) before ∙
    ap (λ (q : ℕ). eqb q 34) (last-spelled opaque) in
    let within : list_all is_etagc (inner text) ≡ true = ap (list_all is_etagc) (inner-spelled opaque) ∙ all in
    let two = and_from (leb 2 (length text)) true long refl in
    let three = and_from (leb 2 (length text) && true) (eqb (get_or text (length text - 1) 0) 34) two ends in
    and_from (leb 2 (length text) && true && eqb (get_or text (length text - 1) 0) 34) (list_all is_etagc (inner text)) three within

strong_in-text : (opaque : List ℕ) → list_all is_etagc opaque ≡ true → strong_in (spelled opaque) ≡ Some opaque
unfolding strong_in
strong_in-text opaque all = rw (quoted-spelled opaque all) (ap Some (inner-spelled opaque))

pub strong_in-spelled : (text opaque : List ℕ) → SpellsTag text false opaque → strong_in text ≡ Some opaque
strong_in-spelled text opaque h = ap strong_in h.1 ∙ strong_in-text opaque h.0
