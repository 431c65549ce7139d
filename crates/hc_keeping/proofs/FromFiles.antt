-- What a folder keeps is what its files say.
use Rattle.std.{specs.{Prelude.{Ok, IfSome, IsSomeAnd, OnOk}, Result.{IsErrAnd}}, proofs.Common.{◌≡◌, ◌≢◌, ℕ, ◌+◌, List, Option, Some, None, Result, Err, refl, ap, sym, ◌∙◌, subst, arith, inl, inr}}
use Rattle.hc_io.specs.{Faults.{HasRisen}, Memory.{PlainState}}
use Rattle.hc_rules.specs.declared.room.Limits.{Limits}
use Rattle.hc_contents.specs.declared.contents.Contents.{Contents}
use Rattle.hc_saving.specs.{declared.recovering.RecoverError.{RecoverError}, Recovers.{Recovers, bytes_of}}
use Rattle.hc_saving.specs.declared.recovering.RecoverError.TheVariants as recovering
use Rattle.hc_folder.specs.{declared.reading.{FilesError.{FilesError}, Said.{Said}}, Files.{Files, HasNoneFrom}, Says.{Says, Reads, HasFilesCause}}
use Rattle.hc_folder.specs.Says as says
use Rattle.hc_folder.proofs.SaidOnce.{said_once, unused_behind}
use Rattle.hc_keeping.specs.{declared.keeping.{KeepError.{KeepError}, Kept.{Kept}}, Keeps.{HasKeepCause, Keeps, KeepsText}}
use Rattle.hc_keeping.specs.declared.keeping.KeepError.TheVariants as error
use Rattle.hc_keeping.specs.Keeps as keeps

named : {T : Type 0} (e : KeepError) (result : Result T KeepError) → IsErrAnd result (λ (x : KeepError). x ≡ e) → result ≡ Err e
named e (Ok x) is = absurd is
named e (Err x) is = ap Err is

-- THE FILES SAY NOTHING

pub unread_keeps : (limits : Limits) (o : Option Files) (why : FilesError) (result : Result Kept KeepError) →
    IsErrAnd result (λ (x : KeepError). x ≡ error.Files why) → IfSome o (λ (f : Files). Reads f (Err why)) → IfSome o (λ (f : Files). Keeps limits f result)
unread_keeps limits None why result is read = read
unread_keeps limits (Some f) why result is read = subst (Keeps limits f) (sym (named (error.Files why) result is)) (keeps.unread why read)

pub unread_cause : (a b : ℕ) (why : FilesError) (result : Result Kept KeepError) → IsErrAnd result (λ (x : KeepError). x ≡ error.Files why) →
    HasFilesCause {T = Kept} a b (Err why) → HasKeepCause a b result
unread_cause a b why result is cause = subst (HasKeepCause a b) (sym (named (error.Files why) result is)) cause

-- THEY SAY SOMETHING

said_there : (f : Files) (s : Said) → Reads f (Ok s) → Says f (bytes_of s.image) s.number s.text.items
said_there f s (says.said _ q) = q

pub text_keeps : (limits : Limits) (o : Option Files) (s : Said) (result : Result Kept KeepError) → IfSome o (λ (f : Files). Reads f (Ok s)) →
    KeepsText limits (bytes_of s.image) s.number s.text.items result → IfSome o (λ (f : Files). Keeps limits f result)
text_keeps limits None s result read kept = read
text_keeps limits (Some f) s result read kept = keeps.recovered (bytes_of s.image) s.number s.text.items result (said_there f s read) kept

pub text_cause : (limits : Limits) (image : Option (List ℕ)) (n : ℕ) (text : List ℕ) (a b : ℕ) (result : Result Kept KeepError) →
    KeepsText limits image n text result → b ≡ a → HasKeepCause a b result
text_cause limits image n text a b _ (keeps.found left kept q next) same = same
text_cause limits image n text a b _ (keeps.refused left why q calm) same = same

-- THEY SAY IT ONCE

pub keeps_said : (limits : Limits) (f : Files) (result : Result Kept KeepError) (image : Option (List ℕ)) (n : ℕ) (text : List ℕ) → Says f image n text →
    Keeps limits f result → OnOk result (KeepsText limits image n text result)
keeps_said limits f (Err e) image n text said kept = tt
keeps_said limits f (Ok found) image n text said (keeps.recovered image' n' text' _ said' q) =
    let same = said_once f image' image n' n text' text said' said in
    subst (λ (i : Option (List ℕ)). KeepsText limits i n text (Ok found)) same.image_is
    (subst (λ (k : ℕ). KeepsText limits image' k text (Ok found)) same.number_is
    (subst (λ (t : List ℕ). KeepsText limits image' n' t (Ok found)) same.text_is q))

pub files_said : (limits : Limits) (o : Option Files) (result : Result Kept KeepError) (image : Option (List ℕ)) (n : ℕ) (text : List ℕ) →
    IsSomeAnd o (λ (f : Files). Says f image n text) → IfSome o (λ (f : Files). Keeps limits f result) → OnOk result (KeepsText limits image n text result)
files_said limits None result image n text said kept = absurd said
files_said limits (Some f) result image n text said kept = keeps_said limits f result image n text said kept

-- no record has the next number, or a higher one
pub next_unused : (limits : Limits) (f : Files) (kept : Kept) → Keeps limits f (Ok kept) → HasNoneFrom kept.next f
next_unused limits f kept (keeps.recovered image n text _ said (keeps.found left _ q next)) =
    subst (λ (k : ℕ). HasNoneFrom k f) (sym next) (unused_behind f image n text said)

pub none_found : (P : Type 0) (Q : KeepError → Type 0) (result : Result Kept KeepError) → IsErrAnd result Q → OnOk result P
none_found P Q (Ok x) is = absurd is
none_found P Q (Err e) is = tt

-- A source in memory has no faults.
pub no_fault : (why : RecoverError) (result : Result Contents RecoverError) → result ≡ Err why → (result ≡ Err recovering.SourceFailed → HasRisen 0 0) →
    why ≢ recovering.SourceFailed
no_fault why result is risen same = elim (risen (is ∙ ap Err same)) [ inl less ↦ omega (arith, less) | inr most ↦ omega (arith, most) ]

module _ (limits : Limits) (image : Option (List ℕ)) (n : ℕ) (text : List ℕ) (before : PlainState) (left : Option (List ℕ))
    (is : before ≡ record { left = text; given = 0 }) where
  on_text : (result : Result Contents RecoverError) → Recovers limits image (Some before.left) left result → Recovers limits image (Some text) left result
  on_text result q = subst (λ (l : List ℕ). Recovers limits image (Some l) left result) (ap (λ (s : PlainState). s.left) is) q

  pub text_found : (contents : Contents) → Recovers limits image (Some before.left) left (Ok contents) →
      KeepsText limits image n text (Ok (record { contents = contents; next = n + 1 }))
  text_found contents q = keeps.found left (record { contents = contents; next = n + 1 }) (on_text (Ok contents) q) refl

  pub text_refused : (why : RecoverError) → Recovers limits image (Some before.left) left (Err why) → why ≢ recovering.SourceFailed →
      KeepsText limits image n text (Err (error.Refused n why))
  text_refused why q calm = keeps.refused left why (on_text (Err why) q) calm
