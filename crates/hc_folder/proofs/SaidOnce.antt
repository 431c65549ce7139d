-- Files say one image, one number and one text.
use Rattle.std.{proofs.Common.{◌≡◌, ℕ, ◌+◌, ◌<◌, ◌≤◌, ◌^◌, List, [], ◌∷◌, ◌++◌, length, Option, Some, None, refl, ap, sym, ◌∙◌, subst, arith, append_assoc}, specs.{List.{concat}, Prelude.{unwrap_or}}}
use Rattle.hc_folder.specs.{Sums.{number_bytes}, Blocks.{block, blocks, sum_after, sum_through, HasText, AreShort, BeginsWithNone, IsReadTo}, Files.{Files, HasNoneFrom, IsNewest, bytes_in}, ImageFiles.{numbered, image_file, image_sum}, Says.{Says}}
use Rattle.hc_folder.specs.Says as says
use Rattle.hc_folder.proofs.{Lengths.{number_once}, Once.{halves_once, block_once}, Ends.{length-numbered, length-image_file}}

pub file_once : (a b : List ℕ) (m n : ℕ) → m < 2 ^ 62 → n < 2 ^ 62 → image_file a m ≡ image_file b n → (a ≡ b) × (m ≡ n)
file_once a b m n small_m small_n is =
    let sizes = ap length is in
    let bodies = halves_once (numbered a m) (numbered b n) (image_sum a m) (image_sum b n)
    (omega (arith, sizes, length-image_file a m, length-image_file b n, length-numbered a m, length-numbered b n)) is in
    let lengths = ap length bodies.0 in
    let halves = halves_once a b (number_bytes m) (number_bytes n) (omega (arith, lengths, length-numbered a m, length-numbered b n)) bodies.0 in
    (halves.0, number_once m n (omega (arith, small_m)) (omega (arith, small_n)) halves.1)

-- THE TEXT OF WHOLE BLOCKS

texts_once : (a b : List (List ℕ)) (seed x y : List ℕ) → AreShort a → AreShort b → blocks seed a ++ x ≡ blocks seed b ++ y →
    BeginsWithNone (sum_through seed a) x → BeginsWithNone (sum_through seed b) y → concat a ≡ concat b
texts_once [] [] seed x y short_a short_b is none_a none_b = refl
texts_once [] (t ∷ b) seed x y short_a short_b is none_a none_b =
    absurd (none_a t (blocks (sum_after seed t) b ++ y) short_b.0 (sym (append_assoc (block seed t) (blocks (sum_after seed t) b) y) ∙ sym is))
texts_once (t ∷ a) [] seed x y short_a short_b is none_a none_b =
    absurd (none_b t (blocks (sum_after seed t) a ++ x) short_a.0 (sym (append_assoc (block seed t) (blocks (sum_after seed t) a) x) ∙ is))
texts_once (t ∷ a) (u ∷ b) seed x y short_a short_b is none_a none_b =
    let same = block_once seed t u (blocks (sum_after seed t) a ++ x) (blocks (sum_after seed u) b ++ y) short_a.0 short_b.0
    (sym (append_assoc (block seed t) (blocks (sum_after seed t) a) x) ∙ is ∙ append_assoc (block seed u) (blocks (sum_after seed u) b) y) in
    let on = texts_once a b (sum_after seed t) x y short_a.1 short_b.1 (same.1 ∙ ap (λ v. blocks (sum_after seed v) b ++ y) (sym same.0)) none_a
    (subst (λ (v : List ℕ). BeginsWithNone (sum_through (sum_after seed v) b) y) (sym same.0) none_b) in
    (λ i. same.0 i ++ on i)

pub text_once : (seed file a b : List ℕ) → HasText seed file a → HasText seed file b → a ≡ b
text_once seed file a b p q =
    p.read.text_is ∙
    texts_once p.read.texts q.read.texts seed p.rest q.rest p.read.short q.read.short (p.read.file_is ∙ sym q.read.file_is)
    (subst (λ (s : List ℕ). BeginsWithNone s p.rest) p.read.sum_is p.cut.none) (subst (λ (s : List ℕ). BeginsWithNone s q.rest) q.read.sum_is q.cut.none)
    ∙ sym q.read.text_is

-- WHAT IS SAID

-- of an image that is there
pub record IsSame (image image' : Option (List ℕ)) (n n' : ℕ) (text text' : List ℕ) : Type 0 where
  pub image_is : image ≡ image'
  pub number_is : n ≡ n'
  pub text_is : text ≡ text'

some_image : {a b : List ℕ} → Some a ≡ Some b → a ≡ b
some_image is = ap (λ (o : Option (List ℕ)). unwrap_or o []) is

pub said_once : (f : Files) (image image' : Option (List ℕ)) (n n' : ℕ) (text text' : List ℕ) → Says f image n text → Says f image' n' text' →
    IsSame image image' n n' text text'
said_once f _ _ _ _ _ _ (says.nothing none newest) (says.nothing none' newest') = record { image_is = refl; number_is = refl; text_is = refl }
said_once f _ _ _ _ _ _ (says.nothing none newest) (says.both image text n m small is newest' least has) =
    absurd (let never : None ≡ Some (image_file image n) = sym none ∙ is in cc)
said_once f _ _ _ _ _ _ (says.both image text n m small is newest least has) (says.nothing none newest') =
    absurd (let never : None ≡ Some (image_file image n) = sym none ∙ is in cc)
said_once f _ _ _ _ _ _ (says.both image text n m small is newest least has) (says.both image' text' n' m' small' is' newest' least' has') =
    let same = file_once image image' n n' small small' (some_image (sym is ∙ is')) in
    record {
      image_is = ap Some same.0;
      number_is = same.1;
      text_is = text_once (image_sum image n) (bytes_in f n) text text' has
          (subst (λ (k : ℕ). HasText (image_sum image k) (bytes_in f k) text') (sym same.1)
          (subst (λ (i : List ℕ). HasText (image_sum i n') (bytes_in f n') text') (sym same.0) has'));
    }

-- no record has the next number, or a higher one
pub unused_behind : (f : Files) (image : Option (List ℕ)) (n : ℕ) (text : List ℕ) → Says f image n text → HasNoneFrom (n + 1) f
unused_behind f _ _ _ (says.nothing none newest) = λ k from. newest.none k (omega (arith, from))
unused_behind f _ _ _ (says.both image text n m small is newest least has) = λ k from. newest.none k (omega (arith, from, least))
