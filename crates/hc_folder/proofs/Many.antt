-- Blocks one behind the other.
use Rattle.std.{proofs.{Common.{◌≡◌, ℕ, List, [], ◌∷◌, ◌++◌, length, refl, ap, sym, subst, ◌∙◌, arith, append_assoc}, lemmas.List.{append-nil, Folds.{concat-append}}}, specs.List.{concat}}
use Rattle.hc_folder.specs.Blocks.{block, blocks, sum_after, sum_through, IsShort, AreShort, IsBroken, IsReadTo}
use Rattle.hc_folder.proofs.{Once.{block_once}, Taking.{long_block}}

-- ONE MORE

pub blocks-more : (sum : List ℕ) (texts : List (List ℕ)) (t : List ℕ) → blocks sum (texts ++ t ∷ []) ≡ blocks sum texts ++ block (sum_through sum texts) t
blocks-more sum [] t = append-nil (block sum t)
blocks-more sum (a ∷ texts) t =
    ap (λ l. block sum a ++ l) (blocks-more (sum_after sum a) texts t) ∙
    sym (append_assoc (block sum a) (blocks (sum_after sum a) texts) (block (sum_through (sum_after sum a) texts) t))

pub sum_through-more : (sum : List ℕ) (texts : List (List ℕ)) (t : List ℕ) → sum_through sum (texts ++ t ∷ []) ≡ sum_after (sum_through sum texts) t
sum_through-more sum [] t = refl
sum_through-more sum (a ∷ texts) t = sum_through-more (sum_after sum a) texts t

pub short-more : (texts : List (List ℕ)) (t : List ℕ) → AreShort texts → IsShort t → AreShort (texts ++ t ∷ [])
short-more [] t all one = (one, tt)
short-more (a ∷ texts) t all one = (all.0, short-more texts t all.1 one)

pub none_yet : (sum file : List ℕ) → IsReadTo sum file [] sum file
none_yet sum file = record { texts = []; short = tt; file_is = refl; sum_is = refl; text_is = refl }

pub one_more : (sum file text sum' rest t text' sum'' rest' : List ℕ) → IsReadTo sum file text sum' rest → block sum' t ++ rest' ≡ rest
    → sum'' ≡ sum_after sum' t → IsShort t → text' ≡ text ++ t → IsReadTo sum file text' sum'' rest'
one_more sum file text sum' rest t text' sum'' rest' q is after short more = record {
  texts = q.texts ++ t ∷ [];
  short = short-more q.texts t q.short short;
  file_is = ap (λ l. l ++ rest') (blocks-more sum q.texts t) ∙ append_assoc (blocks sum q.texts) (block (sum_through sum q.texts) t) rest'
      ∙ ap (λ s. blocks sum q.texts ++ (block s t ++ rest')) (sym q.sum_is) ∙ ap (λ l. blocks sum q.texts ++ l) is ∙ q.file_is;
  sum_is = after ∙ ap (λ s. sum_after s t) q.sum_is ∙ sym (sum_through-more sum q.texts t);
  text_is = more ∙ ap (λ l. l ++ t) q.text_is ∙ ap (λ l. concat q.texts ++ l) (sym (append-nil t)) ∙ sym (concat-append q.texts (t ∷ []));
}

-- WHAT WAS WRITTEN

-- a block stands before nothing
pub no_block : (sum t rest : List ℕ) → ¬ (block sum t ++ rest ≡ [])
no_block sum t rest is = let long = long_block sum t rest in let same = ap length is in omega (arith, long, same)

-- where blocks are both a first part of a file and all of one that goes on
module _ where
  same_block : (sum a b : List ℕ) (x more y : List ℕ) → IsShort a → IsShort b → (block sum a ++ x) ++ more ≡ block sum b ++ y
      → (a ≡ b) × (x ++ more ≡ y)
  same_block sum a b x more y short_a short_b is = block_once sum a b (x ++ more) y short_a short_b (sym (append_assoc (block sum a) x more) ∙ is)

pub first_part : (texts all : List (List ℕ)) (sum rest more : List ℕ) → AreShort texts → AreShort all → (blocks sum texts ++ rest) ++ more ≡ blocks sum all
    → (left : List ℕ) × (concat texts ++ left ≡ concat all)
first_part [] all sum rest more short shorts is = (concat all, refl)
first_part (t ∷ texts) [] sum rest more short shorts is =
    absurd (no_block sum t (blocks (sum_after sum t) texts ++ (rest ++ more))
    (sym (append_assoc (block sum t) (blocks (sum_after sum t) texts) (rest ++ more)) ∙
    sym (append_assoc (block sum t ++ blocks (sum_after sum t) texts) rest more) ∙ is))
first_part (t ∷ texts) (a ∷ all) sum rest more short shorts is =
    let same = same_block sum t a (blocks (sum_after sum t) texts ++ rest) more (blocks (sum_after sum a) all) short.0 shorts.0
    (ap (λ l. l ++ more) (sym (append_assoc (block sum t) (blocks (sum_after sum t) texts) rest)) ∙ is) in
    let on = first_part texts all (sum_after sum t) rest more short.1 shorts.1 (same.1 ∙ ap (λ k. blocks (sum_after sum k) all) (sym same.0)) in
    (on.0, append_assoc t (concat texts) on.0 ∙ (λ i. same.0 i ++ on.1 i))

pub never_broken : (texts all : List (List ℕ)) (sum rest more : List ℕ) → AreShort texts → AreShort all → (blocks sum texts ++ rest) ++ more ≡ blocks sum all
    → ¬ IsBroken (sum_through sum texts) rest
never_broken [] [] sum [] more short shorts is broken = broken [] [] (block sum []) (omega arith) (append-nil (block sum []))
never_broken [] [] sum (x ∷ rest) more short shorts is broken = absurd (let same = ap length is in omega (arith, same))
never_broken [] (a ∷ all) sum rest more short shorts is broken = broken a (blocks (sum_after sum a) all) more shorts.0 (sym is)
never_broken (t ∷ texts) [] sum rest more short shorts is broken =
    absurd (no_block sum t (blocks (sum_after sum t) texts ++ (rest ++ more))
    (sym (append_assoc (block sum t) (blocks (sum_after sum t) texts) (rest ++ more)) ∙
    sym (append_assoc (block sum t ++ blocks (sum_after sum t) texts) rest more) ∙ is))
never_broken (t ∷ texts) (a ∷ all) sum rest more short shorts is broken =
    let same = same_block sum t a (blocks (sum_after sum t) texts ++ rest) more (blocks (sum_after sum a) all) short.0 shorts.0
    (ap (λ l. l ++ more) (sym (append_assoc (block sum t) (blocks (sum_after sum t) texts) rest)) ∙ is) in
    never_broken texts all (sum_after sum t) rest more short.1 shorts.1 (same.1 ∙ ap (λ k. blocks (sum_after sum k) all) (sym same.0)) broken

module _ (sum file text sum' rest : List ℕ) (q : IsReadTo sum file text sum' rest) (all : List (List ℕ)) (more : List ℕ) (shorts : AreShort all)
    (is : file ++ more ≡ blocks sum all) where
  whole : (blocks sum q.texts ++ rest) ++ more ≡ blocks sum all
  whole = ap (λ l. l ++ more) q.file_is ∙ is

  pub read_first : (left : List ℕ) × (text ++ left ≡ concat all)
  read_first = let on = first_part q.texts all sum rest more q.short shorts whole in (on.0, ap (λ l. l ++ on.0) q.text_is ∙ on.1)

  pub read_on : ¬ IsBroken sum' rest
  read_on broken = never_broken q.texts all sum rest more q.short shorts whole (subst (λ s. IsBroken s rest) q.sum_is broken)
