use Rattle.std.proofs.Common.{◌≡◌, ◌∙◌, ◌++◌, [], ap, refl, subst, ℕ, List}
use Rattle.hc_folder.specs.{Blocks.{block, sum_after, IsShort}, Written.{AreWritten, IsBlockOf}}
use Rattle.hc_folder.proofs.{Recorded.{each, block_made, same_waits, no_more, none_ok, is_none}, Told.{taken_here}}
use Rattle.hc_folder.proofs.recording.Recorder.make_block.Goals as goal

-- NOTHING WAITS

pub returns-then-is_empty-clause-recorded : goal.returns-then-is_empty-clause-recorded
returns-then-is_empty-clause-recorded g c = λ file seed text.
    let r = c.args.self.now in
    let P = λ (t : List ℕ). AreWritten file seed t r.owed r.number r.sum r.at r.block.items r.next r.waiting.items in
    let a = g.F.Folder.files r.folder in
    no_more P (P text) text a a (each a (P text) (P text) (λ f w. w))

pub returns-then-is_empty-clause-ok : goal.returns-then-is_empty-clause-ok
returns-then-is_empty-clause-ok g c =
    let v = c.args.self.now.waiting in is_none v.items v.len c.is_empty.result v.ok.0 c.is_empty.ensures c.if-is_empty.true

pub returns-then-is_empty-clause-owed : goal.returns-then-is_empty-clause-owed
returns-then-is_empty-clause-owed g c = refl

pub returns-then-is_empty-clause-folder : goal.returns-then-is_empty-clause-folder
returns-then-is_empty-clause-folder g c = refl

-- MEMORY IS REFUSED

pub returns-in_err-next-clause-recorded : goal.returns-in_err-next-clause-recorded
returns-in_err-next-clause-recorded g c = λ file seed text.
    let r = c.args.self.now in
    let b = c.write_block.new.to in
    let P = λ (t : List ℕ). AreWritten file seed t r.owed r.number r.sum r.at r.block.items r.next r.waiting.items in
    let Q = λ (t : List ℕ). AreWritten file seed t r.owed r.number r.sum r.at b.items r.next r.waiting.items in
    let a = g.F.Folder.files r.folder in
    no_more Q (P text) text a a
    (each a (P text) (Q text)
    (same_waits file seed text r.number r.sum r.at r.block.items r.next r.waiting.items r.owed b.items r.next r.waiting.items
    c.in_err-next.ensures.err refl refl))

pub returns-in_err-next-clause-ok : goal.returns-in_err-next-clause-ok
returns-in_err-next-clause-ok g c = none_ok _ _ c.from_residual.result c.from_residual.ensures.1

pub returns-in_err-next-clause-owed : goal.returns-in_err-next-clause-owed
returns-in_err-next-clause-owed g c = refl

pub returns-in_err-next-clause-folder : goal.returns-in_err-next-clause-folder
returns-in_err-next-clause-folder g c = refl

-- A BLOCK IS MADE

pub returns-clause-recorded : goal.returns-clause-recorded
returns-clause-recorded g c = λ file seed text.
    let r = c.args.self.now in
    let b = c.write_block.new.to in
    let next = c.in_ok-next.next in
    let bytes_are : b.items ≡ block r.sum r.waiting.items =
    c.in_ok-next.ensures.ok ∙ (λ i. c.requires i ++ block r.sum (c.as_slice.ensures.value i)) in
    let made : IsBlockOf r.sum b.items next r.waiting.items = record {
      short = subst IsShort c.as_slice.ensures.value c.in_ok-next.ensures.short;
      bytes_are = bytes_are;
      next_is = c.in_ok-next.ensures.sum ∙ ap (sum_after r.sum) c.as_slice.ensures.value;
    } in
    let P = λ (t : List ℕ). AreWritten file seed t r.owed r.number r.sum r.at r.block.items r.next r.waiting.items in
    let Q = λ (t : List ℕ). AreWritten file seed t r.owed r.number r.sum r.at b.items next c.clear.new.self.items in
    let a = g.F.Folder.files r.folder in
    no_more Q (P text) text a a
    (each a (P text) (Q text)
    (block_made file seed text r.number r.sum r.at r.block.items r.next r.waiting.items r.owed b.items next c.clear.new.self.items c.requires made
    c.clear.ensures.items))

pub returns-clause-ok : goal.returns-clause-ok
returns-clause-ok g c = c.clear.ensures.items

pub returns-clause-owed : goal.returns-clause-owed
returns-clause-owed g c = refl

pub returns-clause-folder : goal.returns-clause-folder
returns-clause-folder g c = refl

-- THE INVARIANT

pub invariant_of-self : goal.invariant_of-self
invariant_of-self g c =
    let r = c.args.self.now in record { small = r.small; written = r.written }

pub invariant_of-self-in-Break-1 : goal.invariant_of-self-in-Break-1
invariant_of-self-in-Break-1 g c =
    let r = c.args.self.now in
    let b = c.write_block.new.to in
    record {
      small = r.small;
      written = taken_here r.owed r.owed r.number r.sum r.sum r.at r.at r.block.items b.items r.next r.next r.waiting.items r.waiting.items (λ text. text)
          (λ file seed text. same_waits file seed text r.number r.sum r.at r.block.items r.next r.waiting.items r.owed b.items r.next r.waiting.items
          c.in_err-next.ensures.err refl refl)
          (g.F.Folder.files r.folder) r.written;
    }

pub invariant_of-self-2 : goal.invariant_of-self-2
invariant_of-self-2 g c =
    let r = c.args.self.now in
    let b = c.write_block.new.to in
    let empty = c.clear.new.self.items in
    let made : IsBlockOf r.sum b.items c.in_ok-next.next r.waiting.items = record {
      short = subst IsShort c.as_slice.ensures.value c.in_ok-next.ensures.short;
      bytes_are = c.in_ok-next.ensures.ok ∙ (λ i. c.requires i ++ block r.sum (c.as_slice.ensures.value i));
      next_is = c.in_ok-next.ensures.sum ∙ ap (sum_after r.sum) c.as_slice.ensures.value;
    } in
    record {
      small = r.small;
      written = taken_here r.owed r.owed r.number r.sum r.sum r.at r.at r.block.items b.items r.next c.in_ok-next.next r.waiting.items empty (λ text. text)
          (λ file seed text. block_made file seed text r.number r.sum r.at r.block.items r.next r.waiting.items r.owed b.items c.in_ok-next.next empty
          c.requires made c.clear.ensures.items)
          (g.F.Folder.files r.folder) r.written;
    }
