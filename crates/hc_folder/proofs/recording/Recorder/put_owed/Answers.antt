use Rattle.std.{proofs.Common.{[], ℕ, List, Option, None, refl, sym, subst}, specs.{Global.{Global}, Prelude.{Vec, IfSome}}}
use Rattle.hc_folder.specs.{Causes.{HasFolderCause}, Files.{OnFiles, IsRenewed, IsRenewedOrLeft}, Written.{AreWritten}}
use Rattle.hc_folder.proofs.{Renewals.{as_err, renewed_whole}, Recorded.{carried, each, owed_left, owed_put, no_more, none_ok}, Told.{taken_behind}}
use Rattle.hc_folder.proofs.recording.Recorder.put_owed.Goals as goal

pub returns-in_default-clause-recorded : goal.returns-in_default-clause-recorded
returns-in_default-clause-recorded g c = λ file seed text.
    let r = c.args.self.now in
    let P = λ (t : List ℕ). AreWritten file seed t r.owed r.number r.sum r.at r.block.items r.next r.waiting.items in
    let a = g.F.Folder.files r.folder in
    no_more P (P text) text a a (each a (P text) (P text) (λ f w. w))

pub returns-in_err-renew-clause-recorded : goal.returns-in_err-renew-clause-recorded
returns-in_err-renew-clause-recorded g c = λ file seed text.
    let r = c.args.self.now in
    let P = λ (t : List ℕ). AreWritten file seed t r.owed r.number r.sum r.at r.block.items r.next r.waiting.items in
    let a = g.F.Folder.files r.folder in
    let b = g.F.Folder.files c.renew.new.folder in
    no_more P (P text) text a b
    (carried (IsRenewedOrLeft c.as_slice.result.now r.number) (P text) (P text)
    (owed_left file seed text r.number r.sum r.at r.block.items r.next r.waiting.items r.owed c.in-Some.file c.in-Some.is c.as_slice.result.now
    c.as_slice.ensures.value) a b c.in_err-renew.ensures.err)

pub returns-clause-recorded : goal.returns-clause-recorded
returns-clause-recorded g c = λ file seed text.
    let r = c.args.self.now in
    let P = λ (t : List ℕ). AreWritten file seed t r.owed r.number r.sum r.at r.block.items r.next r.waiting.items in
    let Q = λ (t : List ℕ). AreWritten file seed t None r.number r.sum r.at r.block.items r.next r.waiting.items in
    let a = g.F.Folder.files r.folder in
    let b = g.F.Folder.files c.renew.new.folder in
    no_more Q (P text) text a b
    (carried (IsRenewed c.as_slice.result.now r.number) (P text) (Q text)
    (owed_put file seed text r.number r.sum r.at r.block.items r.next r.waiting.items r.owed c.in-Some.file c.in-Some.is c.as_slice.result.now
    c.as_slice.ensures.value) a b c.in_ok-renew.ensures.ok)

-- THE IMAGE IS THERE

pub returns-in_default-clause-ok : goal.returns-in_default-clause-ok
returns-in_default-clause-ok g c = c.in_default.is

pub returns-in_default-clause-cause : goal.returns-in_default-clause-cause
returns-in_default-clause-cause g c = refl

pub returns-in_err-renew-clause-ok : goal.returns-in_err-renew-clause-ok
returns-in_err-renew-clause-ok g c = none_ok _ _ c.from_residual.result c.from_residual.ensures.1

pub returns-in_err-renew-clause-cause : goal.returns-in_err-renew-clause-cause
returns-in_err-renew-clause-cause g c =
    subst (HasFolderCause (g.F.Folder.faults c.args.self.now.folder) (g.F.Folder.faults c.renew.new.folder))
    (sym (as_err _ c.from_residual.result c.from_residual.ensures.1)) c.in_err-renew.ensures.cause

pub returns-clause-ok : goal.returns-clause-ok
returns-clause-ok g c = refl

pub returns-clause-cause : goal.returns-clause-cause
returns-clause-cause g c = c.in_ok-renew.ensures.cause

-- WHAT BECOMES OF THE FILES

pub returns-in_default-clause-renewed : goal.returns-in_default-clause-renewed
returns-in_default-clause-renewed g c =
    let r = c.args.self.now in
    subst (λ (o : Option (Vec ℕ Global)).
    IfSome o (λ file. OnFiles (IsRenewedOrLeft file.items r.number) (g.F.Folder.files r.folder) (g.F.Folder.files r.folder)))
    (sym c.in_default.is) tt

pub returns-in_err-renew-clause-renewed : goal.returns-in_err-renew-clause-renewed
returns-in_err-renew-clause-renewed g c =
    let r = c.args.self.now in
    subst (λ (o : Option (Vec ℕ Global)).
    IfSome o (λ file. OnFiles (IsRenewedOrLeft file.items r.number) (g.F.Folder.files r.folder) (g.F.Folder.files c.renew.new.folder)))
    (sym c.in-Some.is)
    (subst (λ (l : List ℕ). OnFiles (IsRenewedOrLeft l r.number) (g.F.Folder.files r.folder) (g.F.Folder.files c.renew.new.folder))
    c.as_slice.ensures.value c.in_err-renew.ensures.err)

pub returns-clause-renewed : goal.returns-clause-renewed
returns-clause-renewed g c =
    let r = c.args.self.now in
    subst (λ (o : Option (Vec ℕ Global)).
    IfSome o (λ file. OnFiles (IsRenewedOrLeft file.items r.number) (g.F.Folder.files r.folder) (g.F.Folder.files c.renew.new.folder)))
    (sym c.in-Some.is)
    (subst (λ (l : List ℕ). OnFiles (IsRenewedOrLeft l r.number) (g.F.Folder.files r.folder) (g.F.Folder.files c.renew.new.folder))
    c.as_slice.ensures.value
    (renewed_whole c.as_slice.result.now r.number (g.F.Folder.files r.folder) (g.F.Folder.files c.renew.new.folder) c.in_ok-renew.ensures.ok))

-- WHAT STAYS

pub returns-in_default-clause-block : goal.returns-in_default-clause-block
returns-in_default-clause-block g c = refl

pub returns-in_default-clause-waiting : goal.returns-in_default-clause-waiting
returns-in_default-clause-waiting g c = refl

pub returns-in_err-renew-clause-block : goal.returns-in_err-renew-clause-block
returns-in_err-renew-clause-block g c = refl

pub returns-in_err-renew-clause-waiting : goal.returns-in_err-renew-clause-waiting
returns-in_err-renew-clause-waiting g c = refl

pub returns-clause-block : goal.returns-clause-block
returns-clause-block g c = refl

pub returns-clause-waiting : goal.returns-clause-waiting
returns-clause-waiting g c = refl

pub returns-in_default-clause-told : goal.returns-in_default-clause-told
returns-in_default-clause-told g c = refl

pub returns-in_err-renew-clause-told : goal.returns-in_err-renew-clause-told
returns-in_err-renew-clause-told g c = refl

pub returns-clause-told : goal.returns-clause-told
returns-clause-told g c = refl

-- THE INVARIANT

pub invariant_of-self : goal.invariant_of-self
invariant_of-self g c =
    let r = c.args.self.now in record { small = r.small; written = r.written }

pub invariant_of-self-in-Break-1 : goal.invariant_of-self-in-Break-1
invariant_of-self-in-Break-1 g c =
    let r = c.args.self.now in
    record {
      small = r.small;
      written = taken_behind r.owed r.owed r.number r.sum r.sum r.at r.at r.block.items r.block.items r.next r.next r.waiting.items r.waiting.items
          (IsRenewedOrLeft c.as_slice.result.now r.number)
          (λ file seed text. owed_left file seed text r.number r.sum r.at r.block.items r.next r.waiting.items r.owed c.in-Some.file c.in-Some.is
          c.as_slice.result.now c.as_slice.ensures.value)
          (g.F.Folder.files r.folder) (g.F.Folder.files c.renew.new.folder) c.in_err-renew.ensures.err r.written;
    }

pub invariant_of-self-2 : goal.invariant_of-self-2
invariant_of-self-2 g c =
    let r = c.args.self.now in
    record {
      small = r.small;
      written = taken_behind r.owed None r.number r.sum r.sum r.at r.at r.block.items r.block.items r.next r.next r.waiting.items r.waiting.items
          (IsRenewed c.as_slice.result.now r.number)
          (λ file seed text. owed_put file seed text r.number r.sum r.at r.block.items r.next r.waiting.items r.owed c.in-Some.file c.in-Some.is
          c.as_slice.result.now c.as_slice.ensures.value)
          (g.F.Folder.files r.folder) (g.F.Folder.files c.renew.new.folder) c.in_ok-renew.ensures.ok r.written;
    }
