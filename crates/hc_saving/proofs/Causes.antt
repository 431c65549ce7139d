-- The record fails only where its source says so.
use Rattle.std.{proofs.Common.{◌≡◌, ◌≢◌, List, ℕ, Option, Result, Err, ap, sym, ◌∙◌, subst}, specs.{Prelude.{Ok}, Result.{IsErrAnd}}}
use Rattle.hc_saving.specs.{declared.{recovering.RecoverError.{RecoverError}, begin.BeginError.{BeginError}}, Recovers.{IsUnread, of_begin}}
use Rattle.hc_saving.specs.Recovers as recovers
use Rattle.hc_saving.specs.declared.begin.BeginError.TheVariants as begin
use Rattle.hc_saving.specs.declared.recovering.RecoverError.TheVariants as error

-- what an error names
pub named : {T : Type 0} (e : RecoverError) (result : Result T RecoverError) → IsErrAnd result (λ (x : RecoverError). x ≡ e) → result ≡ Err e
named e (Ok x) is = absurd is
named e (Err x) is = ap Err is

-- a fault that is told was the cause
pub is_fault : {T : Type 0} (e : RecoverError) (result : Result T RecoverError) → IsErrAnd result (λ (x : RecoverError). x ≡ e) →
    result ≡ Err error.SourceFailed → e ≡ error.SourceFailed
is_fault {T} e result is failed = sym (subst (λ (r : Result T RecoverError). IsErrAnd r (λ (x : RecoverError). x ≡ e)) failed is)

-- what is found is no error
pub is_no_error : {T : Type 0} (x : T) (e : RecoverError) (result : Result T RecoverError) → result ≡ Ok x → result ≡ Err e → ⊥
is_no_error x e result is failed = let no : Ok x ≡ Err e = sym is ∙ failed in cc

-- nothing is read of it where no cache begins
pub begin_calm : (e : BeginError) → of_begin e ≢ error.SourceFailed
begin_calm (begin.Unfit why) same = let no : error.Unfit why ≡ error.SourceFailed = same in cc
begin_calm begin.NoMemory same = let no : error.NoMemory ≡ error.SourceFailed = same in cc

-- nor where there are no contents
pub unread_calm : (image : Option (List ℕ)) (e : RecoverError) → IsUnread image e → e ≢ error.SourceFailed
unread_calm image _ (recovers.none has) same = let no : error.BadImage ≡ error.SourceFailed = same in cc
unread_calm image _ recovers.lacking same = let no : error.NoMemory ≡ error.SourceFailed = same in cc
