-- What a recorder tells that it took.
--
-- Blocks are read back to their texts (`text_in-blocks`), so what is written is told as the file of the image and the text behind
-- it (`told_as`), and what is written with more bytes is told with these (`takes_more`). That some text is written or waits, which
-- the recorder keeps, holds behind each call of the folder (`taken_behind`) and each change of what waits (`taken_here`).
use Rattle.std.{proofs.{Common.{◌≡◌, Bool, true, false, ℕ, zero, suc, ◌+◌, ◌≤◌, ◌<◌, ◌^◌, List, [], ◌∷◌, ◌++◌, length, take, drop, Option, Some, None, refl, ap, sym, ◌∙◌, subst, inl, inr, arith, length-append, append_assoc}, lemmas.{Grind.{merely}, List.{append-nil}, Nat.{from_le_bytes-to_le_bytes_8}}, Math.{Logic.{∥∥₁_elim, ∥∥₁_map}, Seq.{take-append_seam, drop-append_seam, take-length}}, Props.{props}}, specs.{Global.{Global}, Int.{w64, from_le_bytes}, List.{concat}, Option.{option_map}, Prelude.{if◌then◌else◌, Vec, IfSome, unwrap_or}}}
use Rattle.hc_io.specs.Sink.{Takes}
use Rattle.hc_folder.specs.{Sums.{number_bytes, sum_behind}, Blocks.{head_of, block, blocks, sum_after, IsShort, AreShort}, Files.{Files, OnFiles, bytes_in}, ImageFiles.{image_file, image_sum, IsImageFileOf}, Written.{IsOwedOrThere, IsDue, AreWritten, HasTaken, text_of, text_in, image_in, tells, told_by}, Recording.{Carries, HasRecorded, StaysRecorded}, declared.{folder.Folder.{Ghosts}, recording.Recorder.{Recorder}}}
use Rattle.hc_folder.proofs.{Lengths.{length-number_bytes, length-head}, Taking.{length-block}, Recorded.{whole, more_waits}}

-- THE TEXT OF BLOCKS

front_is : (p x : List ℕ) (n : ℕ) → length p ≡ n → take n (p ++ x) ≡ p
front_is p x n is = ap (λ k. take k (p ++ x)) (sym is) ∙ take-append_seam p x

behind_is : (p x : List ℕ) (n : ℕ) → length p ≡ n → drop n (p ++ x) ≡ x
behind_is p x n is = ap (λ k. drop k (p ++ x)) (sym is) ∙ drop-append_seam p x

number_first : (sum t rest : List ℕ) → IsShort t → from_le_bytes w64 (take 8 (block sum t ++ rest)) ≡ length t
unfolding head_of number_bytes
number_first sum t rest short =
    let first = number_bytes (length t) in
    let more = (sum_behind sum (length t) [] ++ (t ++ sum_after sum t)) ++ rest in
    let one : block sum t ++ rest ≡ first ++ more =
    ap (λ l. l ++ rest) (append_assoc first (sum_behind sum (length t) []) (t ++ sum_after sum t)) ∙
    append_assoc first (sum_behind sum (length t) [] ++ (t ++ sum_after sum t)) rest in
    ap (from_le_bytes w64) (ap (take 8) one ∙ front_is first more 8 (length-number_bytes (length t))) ∙ from_le_bytes-to_le_bytes_8 (length t) short

text_first : (sum t rest : List ℕ) → take (length t) (drop 24 (block sum t ++ rest)) ≡ t
text_first sum t rest =
    let head = head_of sum (length t) in
    ap (λ l. take (length t) (drop 24 l)) (append_assoc head (t ++ sum_after sum t) rest) ∙
    ap (take (length t)) (behind_is head ((t ++ sum_after sum t) ++ rest) 24 (length-head sum (length t)) ∙ append_assoc t (sum_after sum t) rest) ∙
    take-append_seam t (sum_after sum t ++ rest)

rest_first : (sum t rest : List ℕ) → drop (length t + 40) (block sum t ++ rest) ≡ rest
rest_first sum t rest =
    behind_is (block sum t) rest (length t + 40) (ap length (sym (append-nil (block sum t))) ∙ length-block sum t [])

text_of-block : (k : ℕ) (sum t rest : List ℕ) → IsShort t → text_of (suc k) (block sum t ++ rest) ≡ t ++ text_of k rest
text_of-block k sum t rest short =
    let n = number_first sum t rest short in
    (λ i. take (n i) (drop 24 (block sum t ++ rest)) ++ text_of k (drop (n i + 40) (block sum t ++ rest))) ∙
    (λ i. text_first sum t rest i ++ text_of k (rest_first sum t rest i))

text_of-none : (k : ℕ) → text_of k [] ≡ []
text_of-none zero = refl
text_of-none (suc k) = text_of-none k

text_of-blocks : (k : ℕ) (sum : List ℕ) (texts : List (List ℕ)) → AreShort texts → length texts ≤ k → text_of k (blocks sum texts) ≡ concat texts
text_of-blocks k sum [] short few = text_of-none k
text_of-blocks zero sum (t ∷ texts) short few = absurd (omega (arith, few))
text_of-blocks (suc k) sum (t ∷ texts) short few =
    text_of-block k sum t (blocks (sum_after sum t) texts) short.0 ∙
    ap (λ l. t ++ l) (text_of-blocks k (sum_after sum t) texts short.1 (omega (arith, few)))

few_blocks : (sum : List ℕ) (texts : List (List ℕ)) → length texts ≤ length (blocks sum texts)
few_blocks sum [] = omega arith
few_blocks sum (t ∷ texts) =
    let more = few_blocks (sum_after sum t) texts in omega (arith, more, length-block sum t (blocks (sum_after sum t) texts))

text_in-blocks : (sum : List ℕ) (texts : List (List ℕ)) → AreShort texts → text_in (blocks sum texts) ≡ concat texts
unfolding text_in
text_in-blocks sum texts short = text_of-blocks (length (blocks sum texts)) sum texts short (few_blocks sum texts)

text_in-due : (sum bytes next due : List ℕ) → IsDue sum bytes next due → text_in bytes ≡ due
text_in-due sum bytes next due (inl q) = ap text_in q.0 ∙ text_in-blocks sum [] tt ∙ sym q.1
text_in-due sum bytes next due (inr q) =
    ap text_in (q.bytes_are ∙ sym (append-nil (block sum due))) ∙ text_in-blocks sum (due ∷ []) (q.short, tt) ∙ append-nil due

-- WHAT IS TOLD

image_is : (file : List ℕ) (n : ℕ) (owed : Option (Vec ℕ Global)) (f : Files) → IsOwedOrThere file n owed f → image_in owed f ≡ file
image_is file n None f there = ap (λ (o : Option (List ℕ)). unwrap_or o []) there.image_is
image_is file n (Some v) f is = is

pub told_as : (file seed text : List ℕ) (owed : Option (Vec ℕ Global)) (n : ℕ) (sum : List ℕ) (at : ℕ) (bytes next waiting : List ℕ) (f : Files) →
    AreWritten file seed text owed n sum at bytes next waiting f → told_by owed n at bytes waiting (Some f) ≡ Some (tells file text)
unfolding told_by
told_as file seed text owed n sum at bytes next waiting f w =
    let a = image_is file n owed f w.image in
    let b = ap text_in (whole w.texts seed (bytes_in f n) sum at bytes w.record_is) ∙ text_in-blocks seed w.texts w.record_is.short in
    let c = text_in-due sum bytes next w.due w.due_is in
    let d : text_in (take at (bytes_in f n)) ++ (text_in bytes ++ waiting) ≡ text = (λ i. b i ++ (c i ++ waiting)) ∙ sym w.text_is in
    (λ i. Some (tells (a i) (d i)))

-- what was recorded before is recorded behind it, with these bytes more
abbrev pub Stays : (more : List ℕ) (owed : Option (Vec ℕ Global)) (n : ℕ) (sum : List ℕ) (at : ℕ) (bytes next waiting : List ℕ)
    (owed' : Option (Vec ℕ Global)) (n' : ℕ) (sum' : List ℕ) (at' : ℕ) (bytes' next' waiting' : List ℕ) (a b : Option Files) → Type 0
Stays more owed n sum at bytes next waiting owed' n' sum' at' bytes' next' waiting' a b = (file seed text : List ℕ) →
    Carries (AreWritten file seed text owed n sum at bytes next waiting) (AreWritten file seed (text ++ more) owed' n' sum' at' bytes' next' waiting') a b

-- it is told
module _ (owed owed' : Option (Vec ℕ Global)) (n n' : ℕ) (sum sum' : List ℕ) (at at' : ℕ) (bytes bytes' next next' waiting waiting' more : List ℕ)
    (b : Option Files) where
  pub takes_more : (a : Option Files) → Stays more owed n sum at bytes next waiting owed' n' sum' at' bytes' next' waiting' a b →
      ∥ IfSome a (HasTaken owed n sum at bytes next waiting) ∥₁ → Takes (told_by owed n at bytes waiting a) (told_by owed' n' at' bytes' waiting' b) more
  unfolding told_by
  takes_more None stays some = ap (told_by owed' n' at' bytes' waiting') (stays [] [] [])
  takes_more (Some f) stays some =
      let told = tells (image_in owed f) (text_in (take at (bytes_in f n)) ++ (text_in bytes ++ waiting)) in
      let goal : told_by owed' n' at' bytes' waiting' b ≡ Some (told ++ more) = ∥∥₁_elim some (Prim.hlevel props) (λ t.
      let file = image_file t.image n in
      let q = stays file (image_sum t.image n) t.text t.written in
      let before = told_as file (image_sum t.image n) t.text owed n sum at bytes next waiting f t.written in
      let after = told_as file (image_sum t.image n) (t.text ++ more) owed' n' sum' at' bytes' next' waiting' q.0 q.2 in
      ap (told_by owed' n' at' bytes' waiting') q.1 ∙ after ∙ ap (λ l. Some (length file ∷ l)) (sym (append_assoc file t.text more)) ∙
      ap (λ (o : Option (List ℕ)). option_map (λ (l : List ℕ). l ++ more) o) (sym before)) in
      goal

  -- all bytes that are said
  pub takes_all : (a : Option Files) → Stays more owed n sum at bytes next waiting owed' n' sum' at' bytes' next' waiting' a b →
      ∥ IfSome a (HasTaken owed n sum at bytes next waiting) ∥₁ → (k : ℕ) → k ≡ length more →
      Takes (told_by owed n at bytes waiting a) (told_by owed' n' at' bytes' waiting' b) (take k more)
  takes_all a stays some k is =
      subst (λ (l : List ℕ). Takes (told_by owed n at bytes waiting a) (told_by owed' n' at' bytes' waiting' b) l)
      (sym (ap (λ (j : ℕ). take j more) is ∙ take-length more)) (takes_more a stays some)

-- nothing is told where the folder tells nothing
pub untold : (owed : Option (Vec ℕ Global)) (n at : ℕ) (bytes waiting : List ℕ) → told_by owed n at bytes waiting None ≡ None
unfolding told_by
untold owed n at bytes waiting = refl

pub untold_files : (owed : Option (Vec ℕ Global)) (n at : ℕ) (bytes waiting : List ℕ) (o : Option Files) → told_by owed n at bytes waiting o ≡ None → o ≡ None
unfolding told_by
untold_files owed n at bytes waiting None is = refl
untold_files owed n at bytes waiting (Some f) is =
    absurd (let never : Some (tells (image_in owed f) (text_in (take at (bytes_in f n)) ++ (text_in bytes ++ waiting))) ≡ None = is in cc)

-- WHAT STAYS TRUE

module _ (owed owed' : Option (Vec ℕ Global)) (n : ℕ) (sum sum' : List ℕ) (at at' : ℕ) (bytes bytes' next next' waiting waiting' : List ℕ) where
  -- behind a call that does this to the files
  pub taken_behind : (R : Files → Files → Type 0) → ((file seed text : List ℕ) (x y : Files) → R x y →
      AreWritten file seed text owed n sum at bytes next waiting x → AreWritten file seed text owed' n sum' at' bytes' next' waiting' y) →
      (a b : Option Files) → OnFiles R a b → ∥ IfSome a (HasTaken owed n sum at bytes next waiting) ∥₁ →
      ∥ IfSome b (HasTaken owed' n sum' at' bytes' next' waiting') ∥₁
  taken_behind R give None b r some =
      ∥∥₁_map some (λ t. subst (λ (o : Option Files). IfSome o (HasTaken owed' n sum' at' bytes' next' waiting')) (sym r) tt)
  taken_behind R give (Some f) b r some = ∥∥₁_map some (λ t.
      subst (λ (o : Option Files). IfSome o (HasTaken owed' n sum' at' bytes' next' waiting')) (sym r.1)
      (record { image = t.image; text = t.text; written = give (image_file t.image n) (image_sum t.image n) t.text f r.0 r.2 t.written }))

  -- where the files are as they were, and what was taken has grown like this
  pub taken_here : (grown : List ℕ → List ℕ) → ((file seed text : List ℕ) (x : Files) →
      AreWritten file seed text owed n sum at bytes next waiting x → AreWritten file seed (grown text) owed' n sum' at' bytes' next' waiting' x) →
      (a : Option Files) → ∥ IfSome a (HasTaken owed n sum at bytes next waiting) ∥₁ → ∥ IfSome a (HasTaken owed' n sum' at' bytes' next' waiting') ∥₁
  taken_here grown give None some = some
  taken_here grown give (Some f) some = ∥∥₁_map some (λ t.
      record { image = t.image; text = grown t.text; written = give (image_file t.image n) (image_sum t.image n) t.text f t.written })

-- more waits, or memory was refused
pub waits_more : (owed : Option (Vec ℕ Global)) (n : ℕ) (sum : List ℕ) (at : ℕ) (bytes next waiting from waiting' : List ℕ) (ok : Bool) →
    waiting' ≡ (if ok then waiting ++ from else waiting) → (a : Option Files) → ∥ IfSome a (HasTaken owed n sum at bytes next waiting) ∥₁
    → ∥ IfSome a (HasTaken owed n sum at bytes next waiting') ∥₁
waits_more owed n sum at bytes next waiting from waiting' true is a some =
    taken_here owed owed n sum sum at at bytes bytes next next waiting waiting' (λ text. text ++ from)
    (λ file seed text. more_waits file seed text n sum at bytes next waiting owed from waiting' is) a some
waits_more owed n sum at bytes next waiting from waiting' false is a some =
    subst (λ (l : List ℕ). ∥ IfSome a (HasTaken owed n sum at bytes next l) ∥₁) (sym is) some

-- A BEGINNING

pub begun_taken : (file : List ℕ) (n : ℕ) (seed : List ℕ) → IsImageFileOf file n seed → (owed : Option (Vec ℕ Global)) (at : ℕ) (bytes next waiting : List ℕ)
    (o : Option Files) → IfSome o (AreWritten file seed [] owed n seed at bytes next waiting) → ∥ IfSome o (HasTaken owed n seed at bytes next waiting) ∥₁
begun_taken file n seed q owed at bytes next waiting None w = merely tt
begun_taken file n seed q owed at bytes next waiting (Some f) w = merely (record {
  image = q.image;
  text = [];
  written = subst (λ (l : List ℕ). AreWritten l (image_sum q.image n) [] owed n seed at bytes next waiting f) q.file_is
      (subst (λ (s : List ℕ). AreWritten file s [] owed n seed at bytes next waiting f) q.sum_is w);
})

pub begun_tells : {F : Type 0} {g : Ghosts F} (file seed : List ℕ) (r s : Recorder F g) (a a' b : Option Files) → a' ≡ a →
    IfSome a (HasRecorded file seed [] r) → StaysRecorded [] r a' s b
    → IfSome a (λ _. told_by s.owed s.number s.at s.block.items s.waiting.items b ≡ Some (tells file []))
begun_tells file seed r s a a' b same first stays = by_files a first (subst (λ (x : Option Files). StaysRecorded [] r x s b) same stays)
  where
    told : (f : Files) → told_by s.owed s.number s.at s.block.items s.waiting.items b ≡ told_by s.owed s.number s.at s.block.items s.waiting.items (Some f)
        → HasRecorded file seed [] s f → told_by s.owed s.number s.at s.block.items s.waiting.items b ≡ Some (tells file [])
    told f is w = is ∙ told_as file seed [] s.owed s.number s.sum s.at s.block.items s.next s.waiting.items f w

    by_files : (x : Option Files) → IfSome x (HasRecorded file seed [] r) → StaysRecorded [] r x s b →
        IfSome x (λ _. told_by s.owed s.number s.at s.block.items s.waiting.items b ≡ Some (tells file []))
    by_files None first stays = tt
    by_files (Some f) first stays =
        let q = stays file seed [] first in told q.0 (ap (told_by s.owed s.number s.at s.block.items s.waiting.items) q.1) q.2
