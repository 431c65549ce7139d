-- An image is put, and then records are removed.
use Rattle.std.{proofs.Common.{◌≡◌, ◌⊎◌, ℕ, List, Option, Some, None, Result, Err, ap, ◌∙◌, subst, inl, inr}, specs.{Prelude.{Ok, OnOk, OnErr}, Result.{IsErrAnd}}}
use Rattle.hc_folder.specs.{declared.folder.FolderError.{FolderError}, Files.{Files, OnFiles, IsImagePut, IsImagePutOrLeft, AreRemoved, AreSomeRemoved, IsRenewed, IsRenewedOrLeft}}

-- a relation of two steps
two_steps : (R S T : Files → Files → Type 0) → ((a b c : Files) → R a b → S b c → T a c) → (a b c : Option Files) →
    OnFiles R a b → OnFiles S b c → OnFiles T a c
two_steps R S T join None b c r s = subst (λ o. OnFiles S o c) r s
two_steps R S T join (Some a) b c r s =
    let second = subst (λ o. OnFiles S o c) r.1 s in (second.0, second.1, join a r.0 second.0 r.2 second.2)

weaken : (R T : Files → Files → Type 0) → ((a b : Files) → R a b → T a b) → (a b : Option Files) → OnFiles R a b → OnFiles T a b
weaken R T give None b r = r
weaken R T give (Some a) b r = (r.0, r.1, give a r.0 r.2)

module _ (image : List ℕ) (n : ℕ) where
  pub renewed : (a b c : Option Files) → OnFiles (IsImagePut image) a b → OnFiles (AreRemoved n) b c → OnFiles (IsRenewed image n) a c
  renewed = two_steps (IsImagePut image) (AreRemoved n) (IsRenewed image n) (λ x y z put gone. record {
    image_is = gone.image ∙ put.image_is;
    below = gone.below;
    others = (λ k le. gone.others k le ∙ ap (λ r. r k) put.records);
  })

  pub partly_renewed : (a b c : Option Files) → OnFiles (IsImagePut image) a b → OnFiles (AreSomeRemoved n) b c → OnFiles (IsRenewedOrLeft image n) a c
  partly_renewed = two_steps (IsImagePut image) (AreSomeRemoved n) (IsRenewedOrLeft image n) (λ x y z put gone. inl (record {
    image_is = gone.image ∙ put.image_is;
    below = (λ k less. subst (λ r. (z.records k ≡ None) ⊎ (z.records k ≡ r k)) put.records (gone.below k less));
    others = (λ k le. gone.others k le ∙ ap (λ r. r k) put.records);
  }))

  pub left_as_was : (a b : Option Files) → OnFiles (IsImagePutOrLeft image) a b → OnFiles (IsRenewedOrLeft image n) a b
  left_as_was = weaken (IsImagePutOrLeft image) (IsRenewedOrLeft image n) (λ x y q. inr q)

  pub renewed_whole : (a b : Option Files) → OnFiles (IsRenewed image n) a b → OnFiles (IsRenewedOrLeft image n) a b
  renewed_whole = weaken (IsRenewed image n) (IsRenewedOrLeft image n) (λ x y q. inl (record {
    image_is = q.image_is;
    below = (λ k less. inl (q.below k less));
    others = q.others;
  }))

-- WHAT COMES OF IT

pub by_ok : {T E : Type 0} (r : Result T E) (P Q : Type 0) → (P → Q) → OnOk r P → OnOk r Q
by_ok (Ok x) P Q give is = give is
by_ok (Err e) P Q give is = is

pub by_err : {T E : Type 0} (r : Result T E) (P Q : Type 0) → (P → Q) → OnErr r P → OnErr r Q
by_err (Ok x) P Q give is = is
by_err (Err e) P Q give is = give is

pub as_err : {T : Type 0} (e : FolderError) (r : Result T FolderError) → IsErrAnd r (λ (x : FolderError). x ≡ e) → r ≡ Err e
as_err e (Ok x) is = absurd is
as_err e (Err x) is = ap Err is
