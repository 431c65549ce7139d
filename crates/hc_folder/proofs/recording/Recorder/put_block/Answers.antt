use Rattle.std.{proofs.Common.{◌≡◌, ◌+◌, length, [], arith, refl, ℕ, List}, specs.Prelude.{vec_len}}
use Rattle.hc_folder.specs.{Files.{IsRecordPut, IsRecordTorn}, Written.{AreWritten}}
use Rattle.hc_folder.proofs.{Recorded.{carried, each, block_left, block_put, no_more, none_ok, is_none, is_some, folder_cause}, Told.{taken_behind}}
use Rattle.hc_folder.proofs.recording.Recorder.put_block.Goals as goal

-- NONE COMES NEXT

pub returns-then-is_empty-clause-recorded : goal.returns-then-is_empty-clause-recorded
returns-then-is_empty-clause-recorded g c = λ file seed text.
    let r = c.args.self.now in
    let P = λ (t : List ℕ). AreWritten file seed t r.owed r.number r.sum r.at r.block.items r.next r.waiting.items in
    let a = g.F.Folder.files r.folder in
    no_more P (P text) text a a (each a (P text) (P text) (λ f w. w))

pub returns-then-is_empty-clause-ok : goal.returns-then-is_empty-clause-ok
returns-then-is_empty-clause-ok g c =
    let v = c.args.self.now.block in is_none v.items v.len c.is_empty.result v.ok.0 c.is_empty.ensures c.if-is_empty.true

pub returns-then-is_empty-clause-owed : goal.returns-then-is_empty-clause-owed
returns-then-is_empty-clause-owed g c = refl

pub returns-then-is_empty-clause-waiting : goal.returns-then-is_empty-clause-waiting
returns-then-is_empty-clause-waiting g c = refl

pub returns-then-is_empty-clause-cause : goal.returns-then-is_empty-clause-cause
returns-then-is_empty-clause-cause g c = refl

-- THE RECORD IS FULL

pub returns-then-saturating_add-gt-MOST-clause-recorded : goal.returns-then-saturating_add-gt-MOST-clause-recorded
returns-then-saturating_add-gt-MOST-clause-recorded g c = λ file seed text.
    let r = c.args.self.now in
    let P = λ (t : List ℕ). AreWritten file seed t r.owed r.number r.sum r.at r.block.items r.next r.waiting.items in
    let a = g.F.Folder.files r.folder in
    no_more P (P text) text a a (each a (P text) (P text) (λ f w. w))

pub returns-then-saturating_add-gt-MOST-clause-owed : goal.returns-then-saturating_add-gt-MOST-clause-owed
returns-then-saturating_add-gt-MOST-clause-owed g c = refl

pub returns-then-saturating_add-gt-MOST-clause-waiting : goal.returns-then-saturating_add-gt-MOST-clause-waiting
returns-then-saturating_add-gt-MOST-clause-waiting g c = refl

pub returns-then-saturating_add-gt-MOST-clause-cause : goal.returns-then-saturating_add-gt-MOST-clause-cause
returns-then-saturating_add-gt-MOST-clause-cause g c =
    let both = c.saturating_add.ensures in
    let len = c.len-size.ensures in
    let over = c.if-saturating_add-gt-MOST.true in
    (refl, omega (arith, both, len, over))

-- THE FOLDER DOESN'T TAKE IT

pub returns-in_err-put_record-clause-recorded : goal.returns-in_err-put_record-clause-recorded
returns-in_err-put_record-clause-recorded g c = λ file seed text.
    let r = c.args.self.now in
    let v = r.block in
    let P = λ (t : List ℕ). AreWritten file seed t r.owed r.number r.sum r.at v.items r.next r.waiting.items in
    let a = g.F.Folder.files r.folder in
    let b = g.F.Folder.files c.put_record.new.self in
    no_more P (P text) text a b
    (carried (IsRecordTorn r.number r.at c.as_slice.result.now) (P text) (P text)
    (block_left file seed text r.number r.sum r.at v.items r.next r.waiting.items r.owed c.as_slice.result.now c.as_slice.ensures.value
    (is_some v.items v.len c.is_empty.result v.ok.0 c.is_empty.ensures c.if-is_empty.false)) a b c.in_err-put_record.ensures.err)

pub returns-in_err-put_record-clause-ok : goal.returns-in_err-put_record-clause-ok
returns-in_err-put_record-clause-ok g c = none_ok _ _ c.from_residual.result c.from_residual.ensures.1

pub returns-in_err-put_record-clause-owed : goal.returns-in_err-put_record-clause-owed
returns-in_err-put_record-clause-owed g c = refl

pub returns-in_err-put_record-clause-waiting : goal.returns-in_err-put_record-clause-waiting
returns-in_err-put_record-clause-waiting g c = refl

pub returns-in_err-put_record-clause-cause : goal.returns-in_err-put_record-clause-cause
returns-in_err-put_record-clause-cause g c =
    let r = c.args.self.now in
    folder_cause (g.F.Folder.faults r.folder) (g.F.Folder.faults c.put_record.new.self) (r.at + vec_len r.block) c.from_residual.result
    c.in_err-put_record.field-0.0 c.from_residual.ensures.1 c.in_err-put_record.ensures.cause

-- IT TAKES IT

pub overflow_add-self : goal.overflow_add-self
overflow_add-self g c = (let both = c.saturating_add.ensures in let under = c.if-saturating_add-gt-MOST.false in omega (arith, both, under))

pub returns-clause-recorded : goal.returns-clause-recorded
returns-clause-recorded g c = λ file seed text.
    let r = c.args.self.now in
    let v = r.block in
    let len = c.len-size.ensures in
    let sized = v.ok.0 in
    let at_is : r.at + c.len-size.result ≡ r.at + length v.items = omega (arith, len, sized) in
    let P = λ (t : List ℕ). AreWritten file seed t r.owed r.number r.sum r.at v.items r.next r.waiting.items in
    let Q = λ (t : List ℕ). AreWritten file seed t r.owed r.number r.next (r.at + c.len-size.result) c.clear.new.self.items r.next r.waiting.items in
    let a = g.F.Folder.files r.folder in
    let b = g.F.Folder.files c.put_record.new.self in
    no_more Q (P text) text a b
    (carried (IsRecordPut r.number r.at c.as_slice.result.now) (P text) (Q text)
    (block_put file seed text r.number r.sum r.at v.items r.next r.waiting.items r.owed c.as_slice.result.now c.as_slice.ensures.value
    (is_some v.items v.len c.is_empty.result v.ok.0 c.is_empty.ensures c.if-is_empty.false) r.next (r.at + c.len-size.result) c.clear.new.self.items refl
    at_is c.clear.ensures.items) a b c.in_ok-put_record.ensures.ok)

pub returns-clause-ok : goal.returns-clause-ok
returns-clause-ok g c = c.clear.ensures.items

pub returns-clause-owed : goal.returns-clause-owed
returns-clause-owed g c = refl

pub returns-clause-waiting : goal.returns-clause-waiting
returns-clause-waiting g c = refl

pub returns-clause-cause : goal.returns-clause-cause
returns-clause-cause g c = c.in_ok-put_record.ensures.cause

-- THE INVARIANT

pub invariant_of-self : goal.invariant_of-self
invariant_of-self g c =
    let r = c.args.self.now in record { small = r.small; written = r.written }

pub invariant_of-self-then-saturating_add-gt-MOST : goal.invariant_of-self-then-saturating_add-gt-MOST
invariant_of-self-then-saturating_add-gt-MOST g c =
    let r = c.args.self.now in record { small = r.small; written = r.written }

pub invariant_of-self-in-Break-1 : goal.invariant_of-self-in-Break-1
invariant_of-self-in-Break-1 g c =
    let r = c.args.self.now in
    let some = is_some r.block.items r.block.len c.is_empty.result r.block.ok.0 c.is_empty.ensures c.if-is_empty.false in
    record {
      small = r.small;
      written = taken_behind r.owed r.owed r.number r.sum r.sum r.at r.at r.block.items r.block.items r.next r.next r.waiting.items r.waiting.items
          (IsRecordTorn r.number r.at c.as_slice.result.now)
          (λ file seed text. block_left file seed text r.number r.sum r.at r.block.items r.next r.waiting.items r.owed c.as_slice.result.now
          c.as_slice.ensures.value some)
          (g.F.Folder.files r.folder) (g.F.Folder.files c.put_record.new.self) c.in_err-put_record.ensures.err r.written;
    }

pub invariant_of-self-2 : goal.invariant_of-self-2
invariant_of-self-2 g c =
    let r = c.args.self.now in
    let some = is_some r.block.items r.block.len c.is_empty.result r.block.ok.0 c.is_empty.ensures c.if-is_empty.false in
    let len = c.len-size.ensures in
    let sized = r.block.ok.0 in
    let at = r.at + c.len-size.result in
    let at_is : at ≡ r.at + length r.block.items = omega (arith, len, sized) in
    let empty = c.clear.new.self.items in
    record {
      small = r.small;
      written = taken_behind r.owed r.owed r.number r.sum r.next r.at at r.block.items empty r.next r.next r.waiting.items r.waiting.items
          (IsRecordPut r.number r.at c.as_slice.result.now)
          (λ file seed text. block_put file seed text r.number r.sum r.at r.block.items r.next r.waiting.items r.owed c.as_slice.result.now
          c.as_slice.ensures.value some r.next at empty refl at_is c.clear.ensures.items)
          (g.F.Folder.files r.folder) (g.F.Folder.files c.put_record.new.self) c.in_ok-put_record.ensures.ok r.written;
    }
