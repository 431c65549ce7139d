-- How an address is read: what a text begins with is found by its first dot or colon, since no number has one.
--
-- A number has digits alone, so neither of the two stands in it (`lacks_end`), and the first one ends it. What is cut
-- off there is such a number, in one way (`begins_so`), or none (`never_cut`, `never_plain`, `never_more`). An address
-- is four of these and a port. Where a part fails there is none, since any address would begin with the parts before it
-- (`off_three`, `off_port`). Where all are there it is this one (`address_is`).
use Rattle.std.{proofs.{Common.{◌≡◌, ◌⊎◌, inl, inr, ℕ, ◌+◌, ◌<◌, ◌≤◌, ◌^◌, true, List, [], ◌∷◌, ◌++◌, Option, Some, None, refl, ap, sym, ◌∙◌, arith}, lemmas.{Bool.{and_from, not_from_false, ne_eqb}, Fmt.{decimal_is_IsNumeral, decimal_injective}, Str.Parse.{digit_from_value}}}, specs.{Prelude.{◌==◌, IfNone}, Fmt.{decimal}, Str.Parse.{AllDigits}}}
use Rattle.hc_text.specs.{Numbers.{IsPlain}, Texts.{lacks, cut}}
use Rattle.hc_text.proofs.{Cuts.{lacks-decimal}, Cutting.{cut-first, append-cut}}
use Rattle.hc_wire.specs.declared.event.Address.{Address}
use Rattle.hc_app.specs.Addresses.{Begins, IsPort, IsAddress}

-- whoever gave none, none is there
pub if_none : {A : Type 0} (o : Option A) (P : Type 0) → P → IfNone o P
if_none None P p = p
if_none (Some a) P p = tt

-- NO NUMBER HAS A DOT OR A COLON

lacks-above : (e : ℕ) → 57 < e → (ds : List ℕ) → AllDigits 10 ds → lacks e ds ≡ true
lacks-above e above [] h = refl
lacks-above e above (d ∷ ds) h =
    let range = digit_from_value d h.0 in
    and_from _ _ (not_from_false _ (ne_eqb d e (λ same. omega (arith, same, range.1)))) (lacks-above e above ds h.1)

pub lacks_end : (e n : ℕ) → (e ≡ 46) ⊎ (e ≡ 58) → n < 2 ^ 62 → lacks e (decimal n) ≡ true
lacks_end e n (inl dot) small = lacks-decimal e n (omega arith) small
lacks_end e n (inr colon) small = lacks-above e (omega arith) (decimal n) (decimal_is_IsNumeral n (omega arith)).0.1

-- WHAT A TEXT BEGINS WITH

abbrev Parts : Type 0
Parts = List ℕ × List ℕ

none_some : (o : Option Parts) (p : Parts) → o ≡ None → o ≡ Some p → ⊥
none_some None p none some = let never : None ≡ Some p = some in cc
none_some (Some q) p none some = let never : Some q ≡ None = none in cc

some_is : (p q : Parts) → Some p ≡ Some q → p ≡ q
some_is p q h = cc

both_are : (o : Option Parts) (p q : Parts) → o ≡ Some p → o ≡ Some q → p ≡ q
both_are o p q a b = some_is p q (sym a ∙ b)

module _ (e : ℕ) (is_end : (e ≡ 46) ⊎ (e ≡ 58)) (text : List ℕ) where
  -- where it is cut
  pub cut_is : (n : ℕ) (rest : List ℕ) → Begins e text n rest → cut e text ≡ Some (decimal n, rest)
  cut_is n rest (few, is) = ap (cut e) is ∙ cut-first e (decimal n) rest (lacks_end e n is_end (omega arith))

  pub never_cut : cut e text ≡ None → (n : ℕ) (rest : List ℕ) → Begins e text n rest → ⊥
  never_cut none n rest begins = none_some (cut e text) (decimal n, rest) none (cut_is n rest begins)

  word_is : (word behind : List ℕ) → cut e text ≡ Some (word, behind) → (n : ℕ) (rest : List ℕ) → Begins e text n rest → (word ≡ decimal n) × (behind ≡ rest)
  word_is word behind at n rest begins = let same = both_are (cut e text) (word, behind) (decimal n, rest) at (cut_is n rest begins) in
      (ap (λ (p : Parts). p.0) same, ap (λ (p : Parts). p.1) same)

  pub never_plain : (word behind : List ℕ) → cut e text ≡ Some (word, behind) → ((n : ℕ) → IsPlain word n → ⊥) → (n : ℕ) (rest : List ℕ) →
      Begins e text n rest → ⊥
  never_plain word behind at none n rest begins = none n (let few : n ≤ 255 = begins.0 in omega arith, (word_is word behind at n rest begins).0)

  pub never_more : (word behind : List ℕ) (m : ℕ) → cut e text ≡ Some (word, behind) → IsPlain word m → 255 < m → (n : ℕ) (rest : List ℕ) →
      Begins e text n rest → ⊥
  never_more word behind m at plain more n rest begins =
      let few : n ≤ 255 = begins.0 in
      let small : m < 2 ^ 62 = plain.0 in
      let same : m ≡ n = decimal_injective m n (omega arith) (omega arith) (sym plain.1 ∙ (word_is word behind at n rest begins).0) in
      omega arith

  pub begins_so : (word behind : List ℕ) (n : ℕ) → cut e text ≡ Some (word, behind) → IsPlain word n → n ≤ 255 → Begins e text n behind
  begins_so word behind n at plain few = (few, sym (append-cut e text (word, behind) at) ∙ ap (λ (w : List ℕ). w ++ e ∷ behind) plain.1)

  -- and there is one way to begin
  pub one_way : (n m : ℕ) (r s : List ℕ) → Begins e text n r → Begins e text m s → r ≡ s
  one_way n m r s a b = ap (λ (p : Parts). p.1) (both_are (cut e text) (decimal n, r) (decimal m, s) (cut_is n r a) (cut_is m s b))

-- A PORT

pub never_port : (text : List ℕ) (m : ℕ) → IsPlain text m → (m ≡ 0) ⊎ (65535 < m) → (n : ℕ) → IsPort text n → ⊥
never_port text m plain off n port =
    let most : n ≤ 65535 = port.1 in
    let some : 0 < n = port.0 in
    let small : m < 2 ^ 62 = plain.0 in
    let same : m ≡ n = decimal_injective m n (omega arith) (omega arith) (sym plain.1 ∙ port.2) in
    by_side same off
  where
    by_side : m ≡ n → (m ≡ 0) ⊎ (65535 < m) → ⊥
    by_side same (inl zero) = let some : 0 < n = port.0 in omega arith
    by_side same (inr more) = let most : n ≤ 65535 = port.1 in omega arith

-- AN ADDRESS

dot : (◌≡◌ {A = ℕ} 46 46) ⊎ (◌≡◌ {A = ℕ} 46 58)
dot = inl refl

colon : (◌≡◌ {A = ℕ} 58 46) ⊎ (◌≡◌ {A = ℕ} 58 58)
colon = inr refl

module _ (t0 : List ℕ) (a : Address) (is : IsAddress t0 a) where
  begins_one : Begins 46 t0 is.one (decimal is.two ++ 46 ∷ (decimal is.three ++ 46 ∷ (decimal is.four ++ 58 ∷ decimal a.port)))
  begins_one = (is.below_one, is.text_is)

  pub not_one : ((n : ℕ) (rest : List ℕ) → Begins 46 t0 n rest → ⊥) → ⊥
  not_one none = none is.one _ begins_one

  module _ (n1 : ℕ) (t1 : List ℕ) (b1 : Begins 46 t0 n1 t1) where
    begins_two : Begins 46 t1 is.two (decimal is.three ++ 46 ∷ (decimal is.four ++ 58 ∷ decimal a.port))
    begins_two = (is.below_two, one_way 46 dot t0 n1 is.one t1 _ b1 begins_one)

    pub not_two : ((n : ℕ) (rest : List ℕ) → Begins 46 t1 n rest → ⊥) → ⊥
    not_two none = none is.two _ begins_two

    module _ (n2 : ℕ) (t2 : List ℕ) (b2 : Begins 46 t1 n2 t2) where
      begins_three : Begins 46 t2 is.three (decimal is.four ++ 58 ∷ decimal a.port)
      begins_three = (is.below_three, one_way 46 dot t1 n2 is.two t2 _ b2 begins_two)

      pub not_three : ((n : ℕ) (rest : List ℕ) → Begins 46 t2 n rest → ⊥) → ⊥
      not_three none = none is.three _ begins_three

      module _ (n3 : ℕ) (t3 : List ℕ) (b3 : Begins 46 t2 n3 t3) where
        begins_four : Begins 58 t3 is.four (decimal a.port)
        begins_four = (is.below_four, one_way 46 dot t2 n3 is.three t3 _ b3 begins_three)

        pub not_four : ((n : ℕ) (rest : List ℕ) → Begins 58 t3 n rest → ⊥) → ⊥
        not_four none = none is.four _ begins_four

        pub not_port : (n4 : ℕ) (t4 : List ℕ) → Begins 58 t3 n4 t4 → ((n : ℕ) → IsPort t4 n → ⊥) → ⊥
        not_port n4 t4 b4 none = none a.port (is.port.0, is.port.1, one_way 58 colon t3 n4 is.four t4 _ b4 begins_four)

-- nowhere an address
abbrev pub Never : List ℕ → Type 0
Never text = (a : Address) → IsAddress text a → ⊥

module _ (t0 : List ℕ) where
  pub off_two : (n1 : ℕ) (t1 : List ℕ) → Begins 46 t0 n1 t1 → ((n : ℕ) (rest : List ℕ) → Begins 46 t1 n rest → ⊥) → Never t0
  off_two n1 t1 b1 none a is = not_two t0 a is n1 t1 b1 none

  pub off_three : (n1 n2 : ℕ) (t1 t2 : List ℕ) → Begins 46 t0 n1 t1 → Begins 46 t1 n2 t2 → ((n : ℕ) (rest : List ℕ) → Begins 46 t2 n rest → ⊥) → Never t0
  off_three n1 n2 t1 t2 b1 b2 none a is = not_three t0 a is n1 t1 b1 n2 t2 b2 none

  pub off_four : (n1 n2 n3 : ℕ) (t1 t2 t3 : List ℕ) → Begins 46 t0 n1 t1 → Begins 46 t1 n2 t2 → Begins 46 t2 n3 t3 →
      ((n : ℕ) (rest : List ℕ) → Begins 58 t3 n rest → ⊥) → Never t0
  off_four n1 n2 n3 t1 t2 t3 b1 b2 b3 none a is = not_four t0 a is n1 t1 b1 n2 t2 b2 n3 t3 b3 none

  pub off_port : (n1 n2 n3 n4 : ℕ) (t1 t2 t3 t4 : List ℕ) → Begins 46 t0 n1 t1 → Begins 46 t1 n2 t2 → Begins 46 t2 n3 t3 → Begins 58 t3 n4 t4 →
      ((n : ℕ) → IsPort t4 n → ⊥) → Never t0
  off_port n1 n2 n3 n4 t1 t2 t3 t4 b1 b2 b3 b4 none a is = not_port t0 a is n1 t1 b1 n2 t2 b2 n3 t3 b3 n4 t4 b4 none

pub address_is : (t0 t1 t2 t3 t4 : List ℕ) (n1 n2 n3 n4 : ℕ) (a : Address) → Begins 46 t0 n1 t1 → Begins 46 t1 n2 t2 → Begins 46 t2 n3 t3 →
    Begins 58 t3 n4 t4 → IsPort t4 a.port
    → a.octets ≡ n1 ∷ n2 ∷ n3 ∷ n4 ∷ [] → IsAddress t0 a
address_is t0 t1 t2 t3 t4 n1 n2 n3 n4 a b1 b2 b3 b4 port octets = record {
  one = n1;
  two = n2;
  three = n3;
  four = n4;
  octets = octets;
  below_one = b1.0;
  below_two = b2.0;
  below_three = b3.0;
  below_four = b4.0;
  port = (port.0, port.1);
  text_is = b1.1 ∙ ap (λ (t : List ℕ). decimal n1 ++ 46 ∷ t)
      (b2.1 ∙ ap (λ (t : List ℕ). decimal n2 ++ 46 ∷ t)
      (b3.1 ∙ ap (λ (t : List ℕ). decimal n3 ++ 46 ∷ t) (b4.1 ∙ ap (λ (t : List ℕ). decimal n4 ++ 58 ∷ t) port.2)));
}
