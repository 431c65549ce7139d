-- Why a record isn't read.
use Rattle.std.{proofs.Common.{◌≡◌, ℕ, List, Result, Err, sym, subst}, specs.{Prelude.{Ok, IfErr}, Result.{IsErrAnd}}}
use Rattle.hc_folder.specs.{Records.{IsUnread}, declared.blocks.RecordError.{RecordError}}
use Rattle.hc_folder.specs.Records as records
use Rattle.hc_folder.specs.declared.blocks.RecordError.TheVariants as error

-- memory was refused
pub unread_lacking : {T : Type 0} (sum file : List ℕ) (result : Result T RecordError) → IsErrAnd result (λ (e : RecordError). e ≡ error.NoMemory) →
    IfErr result (IsUnread sum file)
unread_lacking sum file (Ok x) is = absurd is
unread_lacking sum file (Err e) is = subst (IsUnread sum file) (sym is) records.lacking
