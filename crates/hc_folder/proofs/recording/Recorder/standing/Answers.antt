use Rattle.std.proofs.Common.{◌+◌, ◌<◌, length, arith, sym, ◌∙◌}
use Rattle.hc_folder.proofs.{Recorded.{is_some}, Closing.{stands_part}, recording.Recorder.standing.Goals.{else-is_empty-via-then-is_empty+else-is_empty-2, else-is_empty-via-else-is_empty}}
use Rattle.hc_folder.proofs.recording.Recorder.standing.Goals as goal

pub returns-else-is_empty : goal.returns-else-is_empty
returns-else-is_empty g c =
    let r = c.args.self.now in
    let more : 0 < length r.block.items + length r.waiting.items = elim c.else-is_empty.branch [
      | else-is_empty-via-then-is_empty+else-is_empty-2 w ↦ (
          let some = is_some r.waiting.items r.waiting.len w.is_empty-then-is_empty.result r.waiting.ok.0 w.is_empty-then-is_empty.ensures
          w.if-is_empty-2.false in
          omega (arith, some)
          )
      | else-is_empty-via-else-is_empty w ↦ (
          let some = is_some r.block.items r.block.len c.is_empty.result r.block.ok.0 c.is_empty.ensures w.if-is_empty.false in omega (arith, some)
          )
    ] in
    stands_part r.owed (sym c.is_some.ensures ∙ c.if-is_some.false) r.block.items r.waiting.items more
