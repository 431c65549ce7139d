-- What a recorder took stands in the record, or waits.
--
-- A record is blocks, and maybe a first part of another (`IsRecordOf`). A write that is refused leaves such a one
-- (`torn_behind`), and one that is made has a block more (`put_behind`). Of what calls do to the files, what was written is
-- taken from before to after (`carried`): an image is put or owed still (`owed_put`, `owed_left`), and the block that comes
-- next is put or comes next still (`block_put`, `block_left`). What waits becomes such a block (`block_made`).
use Rattle.std.{proofs.{Common.{◌≡◌, ◌⊎◌, ℕ, zero, suc, Bool, true, false, ◌+◌, ◌<◌, ◌≤◌, ◌^◌, List, [], ◌∷◌, ◌++◌, length, take, Option, Some, None, Result, Err, refl, ap, sym, ◌∙◌, subst, inl, inr, arith, le_refl, length-append, append_assoc}, lemmas.{Bool.{eqb-true, eq-eqb}, List.{append-nil, nil_from_length, Folds.{concat-append}}}, Math.Seq.{take-append_seam}}, specs.{Global.{Global}, List.{concat}, Prelude.{◌==◌, Vec, vec_len, Ok, IfSome, OnOk, OnErr, unwrap_or}, Result.{IsErrAnd, result_err}}}
use Rattle.hc_folder.specs.{Blocks.{block, blocks, sum_after, IsShort}, Files.{Files, HasNoneFrom, OnFiles, bytes_in, IsRenewed, IsRenewedOrLeft, IsRecordPut, IsRecordTorn, HasPart}, Causes.{HasFolderCause}, Unwritten.{of_folder, unput_by}, Written.{IsRecordOf, IsOwedOrThere, IsBlockOf, IsDue, AreWritten}, Recording.{Carries, HasRecorded, StaysRecorded, IsNew, IsWritten, HasCause, HasUnwrittenCause, IsToldAs, IsAsTold, size_with}, declared.{folder.{Folder.{Ghosts}, FolderError.{FolderError}}, recording.{Recorder.{Recorder}, Unwritten.{Unwritten}}}}
use Rattle.hc_folder.specs.declared.folder.FolderError.TheVariants as folder
use Rattle.hc_folder.specs.declared.recording.Unwritten.TheVariants as why
use Rattle.hc_folder.proofs.Many.{blocks-more, sum_through-more, short-more, no_block}

-- from what the files held to what they hold
pub carried : (R : Files → Files → Type 0) (P Q : Files → Type 0) → ((x y : Files) → R x y → P x → Q y) → (a b : Option Files) → OnFiles R a b
    → Carries P Q a b
carried R P Q give None b r = r
carried R P Q give (Some x) b r = λ p. (r.0, r.1, give x r.0 r.2 p)

same_record : (x y : Files) (n : ℕ) → y.records n ≡ x.records n → bytes_in y n ≡ bytes_in x n
same_record x y n is = ap (λ (o : Option (List ℕ)). unwrap_or o []) is

module _ (texts : List (List ℕ)) (seed old sum : List ℕ) (at : ℕ) (due : List ℕ) (q : IsRecordOf texts seed old sum at due) where
  -- its whole blocks
  pub whole : take at old ≡ blocks seed texts
  whole = ap (λ k. take k old) q.at_is ∙ ap (take (length (blocks seed texts))) q.bytes_is ∙ take-append_seam (blocks seed texts) q.torn

  pub torn_behind : (part more : List ℕ) → part ++ more ≡ due → IsRecordOf texts seed (take at old ++ part) sum at due
  torn_behind part more is = record {
    torn = part;
    more = more;
    bytes_is = ap (λ l. l ++ part) whole;
    at_is = q.at_is;
    sum_is = q.sum_is;
    short = q.short;
    part = is;
  }

  pub put_behind : (text none : List ℕ) → IsShort text → none ≡ [] →
      IsRecordOf (texts ++ text ∷ []) seed (take at old ++ block sum text) (sum_after sum text) (at + length (block sum text)) none
  put_behind text none short is =
      let grown : blocks seed (texts ++ text ∷ []) ≡ blocks seed texts ++ block sum text =
      blocks-more seed texts text ∙ ap (λ s. blocks seed texts ++ block s text) (sym q.sum_is) in
      record {
        torn = [];
        more = [];
        bytes_is = ap (λ l. l ++ block sum text) whole ∙ sym grown ∙ sym (append-nil (blocks seed (texts ++ text ∷ [])));
        at_is = (let before = q.at_is in let sizes = ap length grown in omega (arith, before, sizes, length-append (blocks seed texts) (block sum text)));
        sum_is = ap (λ s. sum_after s text) q.sum_is ∙ sym (sum_through-more seed texts text);
        short = short-more texts text q.short short;
        part = sym is;
      }

-- the text of one block more
one_more_text : (texts : List (List ℕ)) (text : List ℕ) → concat texts ++ text ≡ concat (texts ++ text ∷ [])
one_more_text texts text = ap (λ l. concat texts ++ l) (sym (append-nil text)) ∙ sym (concat-append texts (text ∷ []))

pub new_record : (sum due : List ℕ) → due ≡ [] → IsRecordOf [] sum [] sum 0 due
new_record sum due is = record { torn = []; more = []; bytes_is = refl; at_is = refl; sum_is = refl; short = tt; part = sym is }

pub front_none : (x y : List ℕ) → x ++ y ≡ [] → x ≡ []
front_none x y is = nil_from_length x (let none = ap length is in omega (arith, none, length-append x y))

-- WHAT CALLS LEAVE

pub begun : (owed : Option (Vec ℕ Global)) (v : Vec ℕ Global) (n : ℕ) (sum : List ℕ) (at : ℕ) (bytes next waiting : List ℕ) (o : Option Files) → owed ≡ Some v →
    at ≡ 0 → bytes ≡ [] → waiting ≡ [] → IfSome o (HasNoneFrom n) → IfSome o (AreWritten v.items sum [] owed n sum at bytes next waiting)
begun owed v n sum at bytes next waiting None is start no_block none new = tt
begun owed v n sum at bytes next waiting (Some f) is start no_block none new = record {
  image = subst (λ (w : Option (Vec ℕ Global)). IsOwedOrThere v.items n w f) (sym is) refl;
  above = (λ k more. new k (omega (arith, more)));
  texts = [];
  record_is = subst (λ (k : ℕ). IsRecordOf [] sum (bytes_in f n) sum k bytes) (sym start)
      (subst (λ (l : List ℕ). IsRecordOf [] sum l sum 0 bytes) (sym (ap (λ (r : Option (List ℕ)). unwrap_or r []) (new n (le_refl n))))
      (new_record sum bytes no_block));
  due = [];
  due_is = inl (no_block, refl);
  text_is = sym none;
}

module _ (file seed text : List ℕ) (n : ℕ) (sum : List ℕ) (at : ℕ) (bytes next waiting : List ℕ) where
  -- the record of this number is as it was, and none has a higher one
  kept : (owed owed' : Option (Vec ℕ Global)) (x y : Files) → y.records n ≡ x.records n → ((k : ℕ) → n < k → y.records k ≡ None) → IsOwedOrThere file n owed' y
      → AreWritten file seed text owed n sum at bytes next waiting x → AreWritten file seed text owed' n sum at bytes next waiting y
  kept owed owed' x y same above image w = record {
    image = image;
    above = above;
    texts = w.texts;
    record_is = subst (λ (l : List ℕ). IsRecordOf w.texts seed l sum at bytes) (sym (same_record x y n same)) w.record_is;
    due = w.due;
    due_is = w.due_is;
    text_is = w.text_is;
  }

  above_on : (x y : Files) → ((k : ℕ) → n ≤ k → y.records k ≡ x.records k) → ((k : ℕ) → n < k → x.records k ≡ None) → (k : ℕ) → n < k → y.records k ≡ None
  above_on x y same above k more = same k (omega (arith, more)) ∙ above k more

  module _ (owed : Option (Vec ℕ Global)) (v : Vec ℕ Global) (is : owed ≡ Some v) (put : List ℕ) (put_is : put ≡ v.items) where
    image_is : (f : Files) → IsOwedOrThere file n owed f → v.items ≡ file
    image_is f image = subst (λ (w : Option (Vec ℕ Global)). IsOwedOrThere file n w f) is image

    still : (x y : Files) → IsOwedOrThere file n owed x → IsOwedOrThere file n owed y
    still x y image = subst (λ (w : Option (Vec ℕ Global)). IsOwedOrThere file n w y) (sym is) (image_is x image)

    pub owed_left : (x y : Files) → IsRenewedOrLeft put n x y → AreWritten file seed text owed n sum at bytes next waiting x
        → AreWritten file seed text owed n sum at bytes next waiting y
    owed_left x y (inl q) w = kept owed owed x y (q.others n (le_refl n)) (above_on x y q.others w.above) (still x y w.image) w
    owed_left x y (inr (inl q)) w =
        let same : (k : ℕ) → n ≤ k → y.records k ≡ x.records k = λ k from. ap (λ r. r k) q.records in
        kept owed owed x y (same n (le_refl n)) (above_on x y same w.above) (still x y w.image) w
    owed_left x y (inr (inr same)) w = subst (AreWritten file seed text owed n sum at bytes next waiting) (sym same) w

    pub owed_put : (x y : Files) → IsRenewed put n x y → AreWritten file seed text owed n sum at bytes next waiting x
        → AreWritten file seed text None n sum at bytes next waiting y
    owed_put x y q w =
        kept owed None x y (q.others n (le_refl n)) (above_on x y q.others w.above)
        (record { image_is = q.image_is ∙ ap Some (put_is ∙ image_is x w.image); below = q.below }) w

  -- the image and all other records are as they were
  same_image : (owed : Option (Vec ℕ Global)) (x y : Files) → y.image ≡ x.image → ((k : ℕ) → ¬ (k ≡ n) → y.records k ≡ x.records k)
      → IsOwedOrThere file n owed x → IsOwedOrThere file n owed y
  same_image None x y same others there = record {
    image_is = same ∙ there.image_is;
    below = (λ k less. others k (λ is. omega (arith, less, is)) ∙ there.below k less);
  }
  same_image (Some v) x y same others image = image

  -- no higher one came
  none_above : (x y : Files) → ((k : ℕ) → ¬ (k ≡ n) → y.records k ≡ x.records k) → ((k : ℕ) → n < k → x.records k ≡ None) → (k : ℕ) → n < k → y.records k ≡ None
  none_above x y others above k more = others k (λ is. omega (arith, more, is)) ∙ above k more

  module _ (owed : Option (Vec ℕ Global)) (put : List ℕ) (put_is : put ≡ bytes) (some : 0 < length bytes) where
    -- where a block comes next
    due_block : (due : List ℕ) → IsDue sum bytes next due → IsBlockOf sum bytes next due
    due_block due (inl q) = absurd (let none = ap length q.0 in omega (arith, none, some))
    due_block due (inr q) = q

    pub block_left : (x y : Files) → IsRecordTorn n at put x y → AreWritten file seed text owed n sum at bytes next waiting x
        → AreWritten file seed text owed n sum at bytes next waiting y
    block_left x y q w = by_cause q.there
      where
        by_cause : (y.records n ≡ x.records n) ⊎ HasPart n at put x y → AreWritten file seed text owed n sum at bytes next waiting y
        by_cause (inl same) = kept owed owed x y same (none_above x y q.others w.above) (same_image owed x y q.image q.others w.image) w
        by_cause (inr p) = record {
          image = same_image owed x y q.image q.others w.image;
          above = none_above x y q.others w.above;
          texts = w.texts;
          record_is = subst (λ (l : List ℕ). IsRecordOf w.texts seed l sum at bytes) (sym (ap (λ (r : Option (List ℕ)). unwrap_or r []) p.there))
              (torn_behind w.texts seed (bytes_in x n) sum at bytes w.record_is p.part p.rest (p.part_is ∙ put_is));
          due = w.due;
          due_is = w.due_is;
          text_is = w.text_is;
        }

    pub block_put : (sum' : List ℕ) (at' : ℕ) (bytes' : List ℕ) → sum' ≡ next → at' ≡ at + length bytes → bytes' ≡ [] →
        (x y : Files) → IsRecordPut n at put x y → AreWritten file seed text owed n sum at bytes next waiting x
        → AreWritten file seed text owed n sum' at' bytes' next waiting y
    block_put sum' at' bytes' sum_is at_is none x y q w =
        let b = due_block w.due w.due_is in
        let bytes_in_is : bytes_in y n ≡ take at (bytes_in x n) ++ block sum w.due =
        ap (λ (r : Option (List ℕ)). unwrap_or r []) q.there ∙ ap (λ l. take at (bytes_in x n) ++ l) (put_is ∙ b.bytes_are) in
        let behind = put_behind w.texts seed (bytes_in x n) sum at bytes w.record_is w.due bytes' b.short none in
        record {
          image = same_image owed x y q.image q.others w.image;
          above = none_above x y q.others w.above;
          texts = w.texts ++ w.due ∷ [];
          record_is = subst (λ (l : List ℕ). IsRecordOf (w.texts ++ w.due ∷ []) seed l sum' at' bytes') (sym bytes_in_is)
              (subst (λ (k : ℕ). IsRecordOf (w.texts ++ w.due ∷ []) seed (take at (bytes_in x n) ++ block sum w.due) sum' k bytes')
              (sym (at_is ∙ ap (λ l. at + length l) b.bytes_are))
              (subst (λ (l : List ℕ).
              IsRecordOf (w.texts ++ w.due ∷ []) seed (take at (bytes_in x n) ++ block sum w.due) l (at + length (block sum w.due)) bytes')
              (sym (sum_is ∙ b.next_is)) behind));
          due = [];
          due_is = inl (none, refl);
          text_is = w.text_is ∙ sym (append_assoc (concat w.texts) w.due waiting) ∙ ap (λ l. l ++ waiting) (one_more_text w.texts w.due);
        }

  pub block_made : (owed : Option (Vec ℕ Global)) (bytes' next' waiting' : List ℕ) → bytes ≡ [] → IsBlockOf sum bytes' next' waiting → waiting' ≡ [] →
      (x : Files) → AreWritten file seed text owed n sum at bytes next waiting x → AreWritten file seed text owed n sum at bytes' next' waiting' x
  block_made owed bytes' next' waiting' empty made none x w =
      let q = w.record_is in
      let no_torn : q.torn ≡ [] = front_none q.torn q.more (q.part ∙ empty) in
      record {
        image = w.image;
        above = w.above;
        texts = w.texts;
        record_is = record {
          torn = q.torn;
          more = bytes';
          bytes_is = q.bytes_is;
          at_is = q.at_is;
          sum_is = q.sum_is;
          short = q.short;
          part = ap (λ l. l ++ bytes') no_torn;
        };
        due = waiting;
        due_is = inr made;
        text_is = w.text_is ∙ (λ i. concat w.texts ++ (no_due w.due w.due_is i ++ waiting)) ∙
            ap (λ l. concat w.texts ++ l) (sym (append-nil waiting) ∙ ap (λ l. waiting ++ l) (sym none));
      }
    where
      no_due : (due : List ℕ) → IsDue sum bytes next due → due ≡ []
      no_due due (inl q) = q.1
      no_due due (inr q) = absurd (no_block sum due [] (append-nil (block sum due) ∙ sym q.bytes_are ∙ empty))

  pub more_waits : (owed : Option (Vec ℕ Global)) (from waiting' : List ℕ) → waiting' ≡ waiting ++ from → (x : Files) →
      AreWritten file seed text owed n sum at bytes next waiting x → AreWritten file seed (text ++ from) owed n sum at bytes next waiting' x
  more_waits owed from waiting' is x w = record {
    image = w.image;
    above = w.above;
    texts = w.texts;
    record_is = w.record_is;
    due = w.due;
    due_is = w.due_is;
    text_is = ap (λ l. l ++ from) w.text_is ∙ append_assoc (concat w.texts) (w.due ++ waiting) from ∙
        ap (λ l. concat w.texts ++ l) (append_assoc w.due waiting from ∙ ap (λ l. w.due ++ l) (sym is));
  }

  pub same_waits : (owed : Option (Vec ℕ Global)) (bytes' next' waiting' : List ℕ) → bytes' ≡ bytes → next' ≡ next → waiting' ≡ waiting → (x : Files) →
      AreWritten file seed text owed n sum at bytes next waiting x → AreWritten file seed text owed n sum at bytes' next' waiting' x
  same_waits owed bytes' next' waiting' bytes_are next_is is x w =
      subst (λ (l : List ℕ). AreWritten file seed text owed n sum at l next' waiting' x) (sym bytes_are)
      (subst (λ (l : List ℕ). AreWritten file seed text owed n sum at bytes l waiting' x) (sym next_is)
      (subst (λ (l : List ℕ). AreWritten file seed text owed n sum at bytes next l x) (sym is) w))

-- each of the files
pub each : (o : Option Files) (P Q : Files → Type 0) → ((f : Files) → P f → Q f) → Carries P Q o o
each None P Q give = refl
each (Some f) P Q give = λ p. (f, refl, give f p)

-- one step behind another
pub behind : (P Q R : Files → Type 0) (a b c : Option Files) → Carries P Q a b → Carries Q R b c → Carries P R a c
behind P Q R None b c first second = subst (λ (o : Option Files). Carries Q R o c) first second
behind P Q R (Some x) b c first second = λ p.
    let q = first p in
    let on : Q q.0 → (files : Files) × (c ≡ Some files) × R files = subst (λ (o : Option Files). Carries Q R o c) q.1 second in
    on q.2

-- nothing more was taken
pub no_more : (Q : List ℕ → Files → Type 0) (P : Files → Type 0) (text : List ℕ) (a b : Option Files) → Carries P (Q text) a b → Carries P (Q (text ++ [])) a b
no_more Q P text a b is = subst (λ (t : List ℕ). Carries P (Q t) a b) (sym (append-nil text)) is

pub less_more : (Q : List ℕ → Files → Type 0) (P : Files → Type 0) (text : List ℕ) (a b : Option Files) → Carries P (Q (text ++ [])) a b
    → Carries P (Q text) a b
less_more Q P text a b is = subst (λ (t : List ℕ). Carries P (Q t) a b) (append-nil text) is

-- what fails has no value
pub none_ok : {T E : Type 0} (Q : E → Type 0) (P : Type 0) (r : Result T E) → IsErrAnd r Q → OnOk r P
none_ok Q P (Ok x) is = absurd is
none_ok Q P (Err e) is = tt

pub in_err : {T E : Type 0} (P : Type 0) (r : Result T E) → P → OnErr r P
in_err P (Ok x) is = tt
in_err P (Err e) is = is

-- one call behind another
pub on_recorded : {F : Type 0} {g : Ghosts F} (r s t : Recorder F g) (a b c : Option Files) → StaysRecorded [] r a s b → StaysRecorded [] s b t c
    → StaysRecorded [] r a t c
on_recorded r s t a b c first second = λ file seed text.
    behind (HasRecorded file seed text r) (HasRecorded file seed text s) (HasRecorded file seed (text ++ []) t) a b c
    (less_more (λ l. HasRecorded file seed l s) (HasRecorded file seed text r) text a b (first file seed text)) (second file seed text)

-- WHAT WAITS

-- whether a list is empty, by its length
pub is_none : (items : List ℕ) (len : ℕ) (b : Bool) → len ≡ length items → b ≡ (len == 0) → b ≡ true → items ≡ []
is_none items len b is test on = nil_from_length items (let none : len ≡ 0 = eqb-true len 0 (sym test ∙ on) in omega (arith, none, is))

positive : (n : ℕ) → ¬ (n ≡ 0) → 0 < n
positive zero some = absurd (some refl)
positive (suc n) some = omega arith

pub is_some : (items : List ℕ) (len : ℕ) (b : Bool) → len ≡ length items → b ≡ (len == 0) → b ≡ false → 0 < length items
is_some items len b is test off =
    let more = positive len (λ none. absurd (let never : true ≡ false = sym (eq-eqb len 0 none) ∙ sym test ∙ off in cc)) in
    omega (arith, more, is)

pub all_written : {F T E : Type 0} {g : Ghosts F} (r : Recorder F g) (result : Result T E) → r.owed ≡ None → r.waiting.items ≡ []
    → OnOk result (r.block.items ≡ []) → OnOk result (IsWritten r)
all_written r (Ok x) owed waiting block = record { owed = owed; block = block; waiting = waiting }
all_written r (Err e) owed waiting block = tt

module _ {T : Type 0} (a b r : ℕ) (result : Result T Unwritten) where
  pub told_cause : (e : Unwritten) → IsErrAnd result (λ (x : Unwritten). x ≡ e) → HasCause a b r e → HasUnwrittenCause a b r result
  told_cause e is cause = by_result result is
    where
      by_result : (q : Result T Unwritten) → IsErrAnd q (λ (x : Unwritten). x ≡ e) → HasUnwrittenCause a b r q
      by_result (Ok x) is = absurd is
      by_result (Err x) is = subst (HasCause a b r) (sym is) cause

  -- the folder doesn't do what it is asked
  pub folder_cause : (e : FolderError) → IsErrAnd result (λ (x : Unwritten). x ≡ of_folder e) → HasFolderCause {T = ℕ} a b (Err e)
      → HasUnwrittenCause a b r result
  folder_cause folder.Failed is cause = told_cause why.Failed is cause
  folder_cause folder.NoMemory is cause = told_cause why.NoMemory is cause

-- what is told of a call behind it
module _ {F : Type 0} {g : Ghosts F} (a b : ℕ) (r s : Recorder F g) (owed : s.owed ≡ r.owed) (block : s.block ≡ r.block) (waiting : s.waiting ≡ r.waiting)
    (at : s.at ≡ r.at) where
  pub same_cause : (e : Unwritten) → HasCause a b (size_with r) e → HasCause a b (size_with s) e
  same_cause why.Failed cause = cause
  same_cause why.Full cause = (cause.0, subst (λ (k : ℕ). 2 ^ 60 < k) (λ i. sym at i + vec_len (sym block i)) cause.1)
  same_cause why.NoMemory cause = cause

  told_by : {T : Type 0} (result : Result T Unwritten) → OnOk result (IsWritten r) → HasUnwrittenCause a b (size_with r) result
      → IsToldAs a b s (result_err result)
  told_by (Ok x) written cause = (
    record {
      owed = owed ∙ written.owed;
      block = ap (λ (v : Vec ℕ Global). v.items) block ∙ written.block;
      waiting = ap (λ (v : Vec ℕ Global). v.items) waiting ∙ written.waiting;
    },
    cause,
  )
  told_by (Err e) written cause = same_cause e cause

  pub told : {T : Type 0} (result : Result T Unwritten) (o : Option Unwritten) → o ≡ result_err result → OnOk result (IsWritten r)
      → HasUnwrittenCause a b (size_with r) result → IsToldAs a b s o
  told result o is written cause = subst (IsToldAs a b s) (sym is) (told_by result written cause)

-- A BEGINNING

pub begun_recorded : {F : Type 0} {g : Ghosts F} (file seed : List ℕ) (r s : Recorder F g) (a a' b : Option Files) → a' ≡ a →
    IfSome a (HasRecorded file seed [] r) → StaysRecorded [] r a' s b → IfSome a (λ _. IfSome b (HasRecorded file seed [] s))
begun_recorded file seed r s a a' b same first stays = by_files a first (subst (λ (x : Option Files). StaysRecorded [] r x s b) same stays)
  where
    by_files : (x : Option Files) → IfSome x (HasRecorded file seed [] r) → StaysRecorded [] r x s b → IfSome x (λ _. IfSome b (HasRecorded file seed [] s))
    by_files None first stays = tt
    by_files (Some f) first stays =
        let q = stays file seed [] first in subst (λ (o : Option Files). IfSome o (HasRecorded file seed [] s)) (sym q.1) q.2

pub begun_renewed : (v : Vec ℕ Global) (n k : ℕ) (owed : Option (Vec ℕ Global)) (a a' b : Option Files) → owed ≡ Some v → k ≡ n → a' ≡ a →
    IfSome owed (λ w. OnFiles (IsRenewedOrLeft w.items k) a' b) → OnFiles (IsRenewedOrLeft v.items n) a b
begun_renewed v n k owed a a' b is number same q =
    subst (λ (x : Option Files). OnFiles (IsRenewedOrLeft v.items n) x b) same
    (subst (λ (m : ℕ). OnFiles (IsRenewedOrLeft v.items m) a' b) number
    (subst (λ (o : Option (Vec ℕ Global)). IfSome o (λ w. OnFiles (IsRenewedOrLeft w.items k) a' b)) is q))

-- the image was put, or is owed
pub begun_told : {F : Type 0} {g : Ghosts F} {U : Type 0} (a b : ℕ) (t : Recorder F g) (put : Result U FolderError) → HasFolderCause a b put →
    OnOk put (t.owed ≡ None) → t.block.items ≡ [] → t.waiting.items ≡ [] → t.unwritten ≡ unput_by put → IsAsTold a b t
begun_told {F} {g} {U} a b t put cause gone none_next none_waits why = subst (IsToldAs a b t) (sym why) (by_result put cause gone)
  where
    by_result : (put : Result U FolderError) → HasFolderCause a b put → OnOk put (t.owed ≡ None) → IsToldAs a b t (unput_by put)
    by_result (Ok x) calm gone = (record { owed = gone; block = none_next; waiting = none_waits }, calm)
    by_result (Err folder.Failed) cause gone = cause
    by_result (Err folder.NoMemory) cause gone = cause
