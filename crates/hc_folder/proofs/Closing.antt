-- What stands in a folder behind its recorder.
--
-- What is written (`AreWritten`) is read as far as its last whole block (`read_written`): a block of which a part is missing counts as cut
-- (`cut_block`), and one that came whole before its write was refused is read. No record has another number, so the record behind the
-- image is the newest (`newest_of`). What was told has one image, one number and one text (`tells_once`).
use Rattle.std.{proofs.{Common.{◌≡◌, ◌⊎◌, ℕ, false, ◌+◌, ◌<◌, ◌≤◌, ◌^◌, List, [], ◌∷◌, ◌++◌, length, take, drop, get_or, Option, Some, None, refl, ap, sym, ◌∙◌, subst, inl, inr, arith, le_refl, length-append, append_assoc}, lemmas.{Bool.{cases_lt}, List.{append-nil, nil_from_length, take-append-drop, length-take-le}}, Math.Logic.{∥∥₁_map}}, specs.{Global.{Global}, List.{concat}, Prelude.{Vec, is_some, IsSome, IfSome, IsSomeAnd, unwrap_or}}}
use Rattle.hc_folder.specs.{Sums.{number_bytes}, Blocks.{head_of, block, sum_after, HasText, IsShort, IsCut, IsCutShort}, Files.{Files, IsNewest, bytes_in}, ImageFiles.{numbered, image_file, image_sum}, Says.{Says}, Written.{IsBlockOf, IsDue, AreWritten, HasTaken, tells, told_by}, Closing.{StandsAs, standing_of}}
use Rattle.hc_folder.specs.Says as says
use Rattle.hc_folder.specs.Closing as closing
use Rattle.hc_folder.specs.declared.recording.Standing.TheVariants as standing
use Rattle.hc_folder.proofs.{Lengths.{number_once, length-sum, length-head}, Once.{halves_once, block_once}, Taking.{cut_head}, SaidOnce.{file_once}, Many.{one_more, no_block}, Ends.{length-numbered, length-image_file}, Recorded.{front_none}, Told.{told_as, untold}}

-- ONCE

pub tells_once : (file file' text text' : List ℕ) → tells file text ≡ tells file' text' → (file ≡ file') × (text ≡ text')
tells_once file file' text text' is = halves_once file file' text text' (ap (λ l. get_or l 0 0) is) (ap (drop 1) is)

-- WHAT IS READ

-- a block of which something is missing
cut_block : (sum t part : List ℕ) (x : ℕ) (more : List ℕ) → IsShort t → part ++ x ∷ more ≡ block sum t → IsCut sum part
cut_block sum t part x more short is = record { none = never; short = by_length (cases_lt (length part) 24) }
  where
    never : (a rest : List ℕ) → IsShort a → block sum a ++ rest ≡ part → ⊥
    never a rest short_a same =
        let left = block_once sum a t (rest ++ x ∷ more) [] short_a short
        (sym (append_assoc (block sum a) rest (x ∷ more)) ∙ ap (λ l. l ++ x ∷ more) same ∙ is ∙ sym (append-nil (block sum t))) in
        let none = ap length left.1 in omega (arith, none, length-append rest (x ∷ more))

    by_length : (length part < 24) ⊎ (24 ≤ length part) → IsCutShort sum part
    by_length (inl less) = inl less
    by_length (inr long) =
        let split = take-append-drop 24 part in
        let halves = halves_once (take 24 part) (head_of sum (length t)) (drop 24 part ++ x ∷ more) (t ++ sum_after sum t)
        (length-take-le 24 part long ∙ sym (length-head sum (length t)))
        (sym (append_assoc (take 24 part) (drop 24 part) (x ∷ more)) ∙ ap (λ l. l ++ x ∷ more) split ∙ is) in
        let sizes = ap length halves.1 in
        inr (
          length t,
          drop 24 part,
          ap (λ l. l ++ drop 24 part) (sym halves.0) ∙ split,
          omega (arith, sizes, length-append (drop 24 part) (x ∷ more), length-append t (sum_after sum t), length-sum sum (length t) t),
        )

-- the text of the whole blocks, and what waits behind that
record Read (seed bytes text due waiting : List ℕ) : Type 0 where
  written : List ℕ
  waits : List ℕ
  read : HasText seed bytes written
  text_is : text ≡ written ++ waits
  none : due ≡ [] → waiting ≡ [] → waits ≡ []

module _ (file seed text : List ℕ) (owed : Option (Vec ℕ Global)) (n : ℕ) (sum : List ℕ) (at : ℕ) (bytes next waiting : List ℕ) (f : Files)
    (w : AreWritten file seed text owed n sum at bytes next waiting f) where
  -- the rest is no block
  read_cut : IsCut sum w.record_is.torn → (bytes ≡ [] → waiting ≡ [] → w.due ++ waiting ≡ []) → Read seed (bytes_in f n) text bytes waiting
  read_cut cut none =
      let q = w.record_is in
      record {
        written = concat w.texts;
        waits = w.due ++ waiting;
        read = record {
          sum' = sum;
          rest = q.torn;
          read = record { texts = w.texts; short = q.short; file_is = sym q.bytes_is; sum_is = q.sum_is; text_is = refl };
          cut = cut;
        };
        text_is = w.text_is;
        none = none;
      }

  -- it is the whole block that is due
  read_whole : IsBlockOf sum bytes next w.due → w.record_is.torn ≡ block sum w.due → Read seed (bytes_in f n) text bytes waiting
  read_whole b is =
      let q = w.record_is in
      record {
        written = concat w.texts ++ w.due;
        waits = waiting;
        read = record {
          sum' = sum_after sum w.due;
          rest = [];
          read = one_more seed (bytes_in f n) (concat w.texts) sum q.torn w.due (concat w.texts ++ w.due) (sum_after sum w.due) []
              (record { texts = w.texts; short = q.short; file_is = sym q.bytes_is; sum_is = q.sum_is; text_is = refl })
              (append-nil (block sum w.due) ∙ sym is) refl b.short refl;
          cut = cut_head (sum_after sum w.due) [] (omega arith);
        };
        text_is = w.text_is ∙ sym (append_assoc (concat w.texts) w.due waiting);
        none = (λ no_bytes none. none);
      }

  read_written : Read seed (bytes_in f n) text bytes waiting
  read_written = by_due w.due_is
    where
      by_more : IsBlockOf sum bytes next w.due → (more : List ℕ) → w.record_is.torn ++ more ≡ bytes → Read seed (bytes_in f n) text bytes waiting
      by_more b [] is = read_whole b (sym (append-nil w.record_is.torn) ∙ is ∙ b.bytes_are)
      by_more b (x ∷ more) is = read_cut (cut_block sum w.due w.record_is.torn x more b.short (is ∙ b.bytes_are))
          (λ no_bytes none. absurd (no_block sum w.due [] (append-nil (block sum w.due) ∙ sym b.bytes_are ∙ no_bytes)))

      by_due : IsDue sum bytes next w.due → Read seed (bytes_in f n) text bytes waiting
      by_due (inl p) =
          let q = w.record_is in
          let no_torn : length q.torn < 24 = let none = ap length (front_none q.torn q.more (q.part ∙ p.0)) in omega (arith, none) in
          read_cut (cut_head sum q.torn no_torn) (λ no_bytes none. (λ i. p.1 i ++ none i))
      by_due (inr b) = by_more b w.record_is.more w.record_is.part

-- where no record has another number
newest_of : (f : Files) (n : ℕ) → ((k : ℕ) → k < n → f.records k ≡ None) → ((k : ℕ) → n < k → f.records k ≡ None) → (o : Option (List ℕ)) →
    f.records n ≡ o → (m : ℕ) × IsNewest f m × (m ≤ n)
newest_of f n below above None is = (0, record { none = (λ k more. nowhere k); there = (λ some. absurd (omega (arith, some))) }, omega arith)
  where
    nowhere : (k : ℕ) → f.records k ≡ None
    nowhere k = elim (cases_lt k n) [
      | inl less ↦ below k less
      | inr least ↦ elim (cases_lt n k) [
        | inl more ↦ above k more
        | inr most ↦ (let same : k ≡ n = omega (arith, least, most) in ap f.records same ∙ is)
      ]
    ]
newest_of f n below above (Some l) is = (n, record { none = above; there = (λ some. subst (λ (o : Option (List ℕ)). IsSome o) (sym is) refl) }, le_refl n)

-- WHAT STANDS

back_none : (x y : List ℕ) → x ++ y ≡ [] → y ≡ []
back_none x y is = nil_from_length y (let none = ap length is in omega (arith, none, length-append x y))

stands_as : (image text : List ℕ) (n : ℕ) → n < 2 ^ 62 → (owed : Option (Vec ℕ Global)) (sum : List ℕ) (at : ℕ) (bytes next waiting : List ℕ) (f : Files) →
    AreWritten (image_file image n) (image_sum image n) text owed n sum at bytes next waiting f → StandsAs image n text f (standing_of owed (bytes ++ waiting))
stands_as image text n small (Some v) sum at bytes next waiting f w = closing.owed
stands_as image text n small None sum at bytes next waiting f w = by_waits (bytes ++ waiting) refl
  where
    read : Read (image_sum image n) (bytes_in f n) text bytes waiting
    read = read_written (image_file image n) (image_sum image n) text None n sum at bytes next waiting f w

    said : Says f (Some image) n read.written
    said = let m = newest_of f n w.image.below w.above (f.records n) refl in says.both image read.written n m.0 small w.image.image_is m.1 m.2 read.read

    by_waits : (l : List ℕ) → bytes ++ waiting ≡ l → StandsAs image n text f (standing_of None l)
    by_waits [] is =
        let none = read.none (front_none bytes waiting is) (back_none bytes waiting is) in
        closing.whole (subst (λ (t : List ℕ). Says f (Some image) n t) (sym (read.text_is ∙ ap (λ l. read.written ++ l) none ∙ append-nil read.written)) said)
    by_waits (x ∷ l) is = closing.part read.written read.waits read.text_is said

pub closes : (owed : Option (Vec ℕ Global)) (n : ℕ) (sum : List ℕ) (at : ℕ) (bytes next waiting : List ℕ) (o : Option Files) →
    ∥ IfSome o (HasTaken owed n sum at bytes next waiting) ∥₁ → n < 2 ^ 62 → (image text : List ℕ) (m : ℕ) → m < 2 ^ 62 →
    told_by owed n at bytes waiting o ≡ Some (tells (image_file image m) text)
    → IsSomeAnd o (λ (f : Files). ∥ StandsAs image m text f (standing_of owed (bytes ++ waiting)) ∥₁)
closes owed n sum at bytes next waiting None some small image text m small_m told =
    absurd (let never : None ≡ Some (tells (image_file image m) text) = sym (untold owed n at bytes waiting) ∙ told in cc)
closes owed n sum at bytes next waiting (Some f) some small image text m small_m told = ∥∥₁_map some (λ t.
    let first = told_as (image_file t.image n) (image_sum t.image n) t.text owed n sum at bytes next waiting f t.written in
    let both = tells_once (image_file t.image n) (image_file image m) t.text text
    (ap (λ (x : Option (List ℕ)). unwrap_or x []) (sym first ∙ told)) in
    let same = file_once t.image image n m small small_m both.0 in
    stands_as image text m small_m owed sum at bytes next waiting f
    (subst (λ (l : List ℕ). AreWritten (image_file image m) (image_sum image m) l owed m sum at bytes next waiting f) both.1
    (subst (λ (k : ℕ). AreWritten (image_file image k) (image_sum image k) t.text owed k sum at bytes next waiting f) same.1
    (subst (λ (i : List ℕ). AreWritten (image_file i n) (image_sum i n) t.text owed n sum at bytes next waiting f) same.0 t.written))))

none_owed : (owed : Option (Vec ℕ Global)) → is_some owed ≡ false → owed ≡ None
none_owed None is = refl
none_owed (Some v) is = cc

-- something waits
pub stands_part : (owed : Option (Vec ℕ Global)) → is_some owed ≡ false → (bytes waiting : List ℕ) → 0 < length bytes + length waiting →
    standing.Part ≡ standing_of owed (bytes ++ waiting)
stands_part owed none bytes waiting some =
    by_waits (bytes ++ waiting) refl ∙ ap (λ (o : Option (Vec ℕ Global)). standing_of o (bytes ++ waiting)) (sym (none_owed owed none))
  where
    by_waits : (l : List ℕ) → bytes ++ waiting ≡ l → standing.Part ≡ standing_of None l
    by_waits [] is = absurd (let none = ap length is in omega (arith, some, none, length-append bytes waiting))
    by_waits (x ∷ l) is = refl
