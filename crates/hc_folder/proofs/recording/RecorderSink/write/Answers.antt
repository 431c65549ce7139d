use Rattle.std.proofs.Common.{◌++◌, ap, length, refl, ℕ, List}
use Rattle.hc_folder.specs.Written.{AreWritten, told_by}
use Rattle.hc_folder.proofs.{Recorded.{behind, each, more_waits, no_more, less_more, same_waits, none_ok, in_err, told}, Told.{Stays, takes_all, waits_more}}
use Rattle.hc_folder.proofs.recording.RecorderSink.write.Goals as goal

-- MEMORY IS REFUSED

pub returns-in_err-extend_from_slice-clause-ok : goal.returns-in_err-extend_from_slice-clause-ok
returns-in_err-extend_from_slice-clause-ok g c = none_ok _ _ c.from_residual.result c.from_residual.ensures.1

pub returns-in_err-extend_from_slice-clause-told : goal.returns-in_err-extend_from_slice-clause-told
returns-in_err-extend_from_slice-clause-told g c = none_ok _ _ c.from_residual.result c.from_residual.ensures.1

pub returns-in_err-extend_from_slice-clause-folder : goal.returns-in_err-extend_from_slice-clause-folder
returns-in_err-extend_from_slice-clause-folder g c = in_err _ c.from_residual.result refl

pub returns-in_err-extend_from_slice-clause-err : goal.returns-in_err-extend_from_slice-clause-err
returns-in_err-extend_from_slice-clause-err g c = in_err _ c.from_residual.result (λ file seed text.
    let r = c.args.self.now in
    let P = λ (t : List ℕ). AreWritten file seed t r.owed r.number r.sum r.at r.block.items r.next r.waiting.items in
    let Q = λ (t : List ℕ). AreWritten file seed t r.owed r.number r.sum r.at r.block.items r.next c.extend_from_slice.new.self.items in
    let a = g.F.Folder.files r.folder in
    no_more Q (P text) text a a
    (each a (P text) (Q text)
    (same_waits file seed text r.number r.sum r.at r.block.items r.next r.waiting.items r.owed r.block.items r.next c.extend_from_slice.new.self.items
    refl refl c.in_err-extend_from_slice.ensures.items)))

-- ALL IS TAKEN

pub returns-clause-ok : goal.returns-clause-ok
returns-clause-ok g c = λ file seed text.
    let r = c.args.self.now in
    let s = c.put_all.new.self in
    let more = text ++ c.args.from.now in
    let P = AreWritten file seed text r.owed r.number r.sum r.at r.block.items r.next r.waiting.items in
    let Q = AreWritten file seed more r.owed r.number r.sum r.at r.block.items r.next c.extend_from_slice.new.self.items in
    let R = λ (t : List ℕ). AreWritten file seed t s.owed s.number s.sum s.at s.block.items s.next s.waiting.items in
    let a = g.F.Folder.files r.folder in
    let b = g.F.Folder.files s.folder in
    behind P Q (R more) a a b
    (each a P Q (more_waits file seed text r.number r.sum r.at r.block.items r.next r.waiting.items r.owed c.args.from.now
    c.extend_from_slice.new.self.items c.in_ok-extend_from_slice.ensures.items))
    (less_more R Q more a b (c.put_all.ensures.recorded file seed more))

pub returns-clause-told : goal.returns-clause-told
returns-clause-told g c =
    let r = c.put_all.new.self in
    told (g.F.Folder.faults c.args.self.now.folder) (g.F.Folder.faults r.folder) r
    (record r { unwritten = c.err-self.result; small = r.small; written = r.written }) refl refl refl refl c.put_all.result
    c.err-self.result c.err-self.ensures.value c.put_all.ensures.ok c.put_all.ensures.cause

-- THE INVARIANT

pub invariant_of-self : goal.invariant_of-self
invariant_of-self g c =
    let r = c.args.self.now in
    record {
      small = r.small;
      written = waits_more r.owed r.number r.sum r.at r.block.items r.next r.waiting.items c.args.from.now c.extend_from_slice.new.self.items _
          c.extend_from_slice.ensures.items (g.F.Folder.files r.folder) r.written;
    }

pub invariant_of-self-2 : goal.invariant_of-self-2
invariant_of-self-2 g c = let s = c.put_all.new.self in record { small = s.small; written = s.written }

-- WHAT IT TELLS

pub returns-clause-bytes : goal.returns-clause-bytes
returns-clause-bytes g c =
    let r = c.args.self.now in
    let s = c.put_all.new.self in
    let a = g.F.Folder.files r.folder in
    let b = g.F.Folder.files s.folder in
    let from = c.args.from.now in
    let stays : Stays from r.owed r.number r.sum r.at r.block.items r.next r.waiting.items s.owed s.number s.sum s.at s.block.items s.next
    s.waiting.items a b = λ file seed text.
    let more = text ++ from in
    let P = AreWritten file seed text r.owed r.number r.sum r.at r.block.items r.next r.waiting.items in
    let Q = AreWritten file seed more r.owed r.number r.sum r.at r.block.items r.next c.extend_from_slice.new.self.items in
    let T = λ (t : List ℕ). AreWritten file seed t s.owed s.number s.sum s.at s.block.items s.next s.waiting.items in
    behind P Q (T more) a a b
    (each a P Q (more_waits file seed text r.number r.sum r.at r.block.items r.next r.waiting.items r.owed c.args.from.now
    c.extend_from_slice.new.self.items c.in_ok-extend_from_slice.ensures.items))
    (less_more T Q more a b (c.put_all.ensures.recorded file seed more)) in
    takes_all r.owed s.owed r.number s.number r.sum s.sum r.at s.at r.block.items s.block.items r.next s.next r.waiting.items s.waiting.items from b a
    stays r.written (length from) refl

pub returns-in_err-extend_from_slice-clause-none : goal.returns-in_err-extend_from_slice-clause-none
returns-in_err-extend_from_slice-clause-none g c =
    let r = c.args.self.now in
    in_err _ c.from_residual.result
    (ap (λ (l : List ℕ). told_by r.owed r.number r.at r.block.items l (g.F.Folder.files r.folder)) c.in_err-extend_from_slice.ensures.items)
