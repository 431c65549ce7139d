-- What the files of a folder say.
--
-- What holds of the files, where they are told, is taken from one fact of them to the next (`each`, `both`). An exit with an
-- error of the folder claims its cause alone (`folder_ends`, `behind_ends`, `folder_cause`). All others are a case of `Reads`:
-- no image (`lost`, `nothing`), a file that is none (`broken_file`), an image of before the newest record (`older`), and what
-- stands behind the image (`behind_text`, `behind_broken`, `behind_lacking`, `behind_image`).
use Rattle.std.{specs.{Global.{Global}, Prelude.{Ok, IfOk, IfSome, Vec}, Option.{option_map}, Result.{IsErrAnd}}, proofs.Common.{◌≡◌, ℕ, ◌<◌, ◌≤◌, ◌^◌, List, [], Option, Some, None, Result, Err, refl, ap, sym, ◌∙◌, subst, arith}}
use Rattle.hc_folder.specs.{declared.{folder.FolderError.{FolderError}, image.ImageFile.{ImageFile}, reading.{FilesError.{FilesError}, Said.{Said}}}, Blocks.{HasText, IsBrokenAt}, Causes.{HasFolderCause}, Files.{Files, IsFound, IsNewest, bytes_in}, Records.{IsUnread}, ImageFiles.{IsImageFile, IsNoImageFile, image_file, image_sum}, Says.{HasFilesCause, Says, Reads, ReadsBehind, of_folder}}
use Rattle.hc_folder.specs.declared.folder.FolderError.TheVariants as folder
use Rattle.hc_folder.specs.declared.blocks.RecordError.TheVariants as unread
use Rattle.hc_folder.specs.declared.reading.FilesError.TheVariants as error
use Rattle.hc_folder.specs.Records as records
use Rattle.hc_folder.specs.Says as says

-- THE FILES

each : (o : Option Files) (P Q : Files → Type 0) → ((f : Files) → P f → Q f) → IfSome o P → IfSome o Q
each None P Q give is = is
each (Some f) P Q give is = give f is

always : (o : Option Files) (Q : Files → Type 0) → ((f : Files) → Q f) → IfSome o Q
always None Q give = tt
always (Some f) Q give = give f

both : (o : Option Files) (P Q R : Files → Type 0) → ((f : Files) → P f → Q f → R f) → IfSome o P → IfSome o Q → IfSome o R
both None P Q R give p q = p
both (Some f) P Q R give p q = give f p q

-- THE FOLDER FAILS

named : {T : Type 0} (e : FilesError) (result : Result T FilesError) → IsErrAnd result (λ (x : FilesError). x ≡ e) → result ≡ Err e
named e (Ok x) is = absurd is
named e (Err x) is = ap Err is

module _ (o : Option Files) (result : Result Said FilesError) where
  pub folder_ends : (e : FolderError) → IsErrAnd result (λ (x : FilesError). x ≡ of_folder e) → IfSome o (λ (f : Files). Reads f result)
  folder_ends folder.Failed is =
      always o (λ (f : Files). Reads f result) (λ f. subst (Reads f) (sym (named error.FolderFailed result is)) says.unreadable)
  folder_ends folder.NoMemory is =
      always o (λ (f : Files). Reads f result) (λ f. subst (Reads f) (sym (named error.NoMemory result is)) says.lacking)

  pub behind_ends : (s : ImageFile) (e : FolderError) → IsErrAnd result (λ (x : FilesError). x ≡ of_folder e) →
      IfSome o (λ (f : Files). ReadsBehind s f result)
  behind_ends s folder.Failed is =
      always o (λ (f : Files). ReadsBehind s f result) (λ f. subst (ReadsBehind s f) (sym (named error.FolderFailed result is)) says.unreadable_behind)
  behind_ends s folder.NoMemory is =
      always o (λ (f : Files). ReadsBehind s f result) (λ f. subst (ReadsBehind s f) (sym (named error.NoMemory result is)) says.lacking_behind)

pub folder_cause : (T : Type 0) (a b : ℕ) (e : FolderError) (result : Result Said FilesError) → IsErrAnd result (λ (x : FilesError). x ≡ of_folder e) →
    HasFolderCause {T = T} a b (Err e) → HasFilesCause a b result
folder_cause T a b folder.Failed result is cause = subst (HasFilesCause a b) (sym (named error.FolderFailed result is)) cause
folder_cause T a b folder.NoMemory result is cause = subst (HasFilesCause a b) (sym (named error.NoMemory result is)) cause

pub no_value : {T : Type 0} (P : T → Type 0) (e : FilesError) (result : Result T FilesError) → IsErrAnd result (λ (x : FilesError). x ≡ e) → IfOk result P
no_value P e (Ok x) is = absurd is
no_value P e (Err x) is = tt

-- BEHIND AN IMAGE

unread_broken : {sum file : List ℕ} {at : ℕ} → IsUnread sum file (unread.Broken at) → IsBrokenAt sum file at
unread_broken (records.broken at q) = q

module _ (o : Option Files) (s : ImageFile) (bytes file : List ℕ) (same : file ≡ bytes) (told : IfSome o (λ (f : Files). bytes ≡ bytes_in f s.number)) where
  pub behind_text : (text : Vec ℕ Global) → HasText s.sum file text.items →
      IfSome o (λ (f : Files). ReadsBehind s f (Ok (record { image = Some s.image; number = s.number; text = text })))
  behind_text text has =
      each o (λ (f : Files). bytes ≡ bytes_in f s.number)
      (λ (f : Files). ReadsBehind s f (Ok (record { image = Some s.image; number = s.number; text = text })))
      (λ f is. says.behind (record { image = Some s.image; number = s.number; text = text }) refl refl
      (subst (λ (l : List ℕ). HasText s.sum l text.items) (same ∙ is) has)) told

  pub behind_broken : (at : ℕ) → IsUnread s.sum file (unread.Broken at) → IfSome o (λ (f : Files). ReadsBehind s f (Err (error.BrokenRecord s.number at)))
  behind_broken at why =
      each o (λ (f : Files). bytes ≡ bytes_in f s.number) (λ (f : Files). ReadsBehind s f (Err (error.BrokenRecord s.number at)))
      (λ f is. says.broken at (subst (λ (l : List ℕ). IsBrokenAt s.sum l at) (same ∙ is) (unread_broken why))) told

pub behind_lacking : (o : Option Files) (s : ImageFile) → IfSome o (λ (f : Files). ReadsBehind s f (Err error.NoMemory))
behind_lacking o s = always o (λ (f : Files). ReadsBehind s f (Err error.NoMemory)) (λ f. says.lacking_behind)

-- THE IMAGE

none_there : (f : Files) (file : Option (Vec ℕ Global)) (newest : ℕ) → IsFound file newest f → file ≡ None → f.image ≡ None
none_there f file newest q none = sym q.image ∙ ap (option_map (λ (v : Vec ℕ Global). v.items)) none

some_there : (f : Files) (file : Option (Vec ℕ Global)) (newest : ℕ) (v : Vec ℕ Global) → IsFound file newest f → file ≡ Some v → f.image ≡ Some v.items
some_there f file newest v q some = sym q.image ∙ ap (option_map (λ (w : Vec ℕ Global). w.items)) some

joined : (f : Files) (s : ImageFile) (newest : ℕ) → s.number < 2 ^ 62 → f.image ≡ Some (image_file s.image.items s.number) →
    s.sum ≡ image_sum s.image.items s.number → IsNewest f newest → newest ≤ s.number →
    (result : Result Said FilesError) → ReadsBehind s f result → Reads f result
joined f s newest small at sum_is last most _ (says.behind r image_is number_is has) =
    says.said r (subst (λ (o : Option (Vec ℕ Global)). Says f (option_map (λ (v : Vec ℕ Global). v.items) o) r.number r.text.items) (sym image_is)
    (subst (λ (k : ℕ). Says f (Some s.image.items) k r.text.items) (sym number_is)
    (says.both s.image.items r.text.items s.number newest small at last most
    (subst (λ (l : List ℕ). HasText l (bytes_in f s.number) r.text.items) sum_is has))))
joined f s newest small at sum_is last most _ (says.broken place q) =
    says.broken_record s.image.items s.number place at (subst (λ (l : List ℕ). IsBrokenAt l (bytes_in f s.number) place) sum_is q)
joined f s newest small at sum_is last most _ says.unreadable_behind = says.unreadable
joined f s newest small at sum_is last most _ says.lacking_behind = says.lacking

module _ (o : Option Files) (file : Option (Vec ℕ Global)) (newest : ℕ) (told : IfSome o (IsFound file newest)) where
  pub lost : file ≡ None → 0 < newest → IfSome o (λ (f : Files). Reads f (Err (error.LostImage newest)))
  lost none more =
      each o (IsFound file newest) (λ (f : Files). Reads f (Err (error.LostImage newest)))
      (λ f q. says.lost_image newest (none_there f file newest q none) q.newest_is more) told

  pub nothing : (text : Vec ℕ Global) → file ≡ None → newest ≤ 0 → text.items ≡ [] →
      IfSome o (λ (f : Files). Reads f (Ok (record { image = None; number = 0; text = text })))
  nothing text none none_newer empty =
      each o (IsFound file newest) (λ (f : Files). Reads f (Ok (record { image = None; number = 0; text = text })))
      (λ f q. says.said (record { image = None; number = 0; text = text }) (subst (Says f None 0) (sym empty)
      (says.nothing (none_there f file newest q none) (subst (IsNewest f) (let zero : newest ≡ 0 = omega (arith, none_newer) in zero) q.newest_is)))) told

  module _ (v : Vec ℕ Global) (some : file ≡ Some v) where
    pub broken_file : IsNoImageFile v.items → IfSome o (λ (f : Files). Reads f (Err error.BrokenImage))
    broken_file none =
        each o (IsFound file newest) (λ (f : Files). Reads f (Err error.BrokenImage))
        (λ f q. says.broken_image v.items (some_there f file newest v q some) none) told

    module _ (s : ImageFile) (is : IsImageFile v.items s) where
      pub older : s.number < newest → IfSome o (λ (f : Files). Reads f (Err (error.LostImage newest)))
      older less =
          each o (IsFound file newest) (λ (f : Files). Reads f (Err (error.LostImage newest)))
          (λ f q. says.other_image s.image.items s.number newest (some_there f file newest v q some ∙ ap Some is.file_is) q.newest_is less) told

      pub behind_image : (result : Result Said FilesError) → newest ≤ s.number → IfSome o (λ (f : Files). ReadsBehind s f result) →
          IfSome o (λ (f : Files). Reads f result)
      behind_image result most read =
          both o (IsFound file newest) (λ (f : Files). ReadsBehind s f result) (λ (f : Files). Reads f result)
          (λ f q r. joined f s newest is.small (some_there f file newest v q some ∙ ap Some is.file_is) is.sum_is q.newest_is most result r) told read
