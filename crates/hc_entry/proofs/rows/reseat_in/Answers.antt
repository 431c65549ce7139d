use Rattle.std.proofs.Common.{Option, sym, ap, ◌∙◌, rules}
use Rattle.hc_entry.specs.{declared.rows.KeyRow.{KeyRow}, Lines.{is_in}, Seats.{moved_to}, Kept.{line_in}, KeyRows.{kept_by}}
use Rattle.hc_entry.proofs.KeyLemmas.{row-there, line-changes, moved-commutes}
use Rattle.hc_entry.proofs.rows.reseat_in.Goals as goal

pub stands_at-requires : goal.stands_at-requires
stands_at-requires c =
    let same = c.as_slice.ensures.value ∙ c.key.view_is in
    let there = row-there c.as_slice.result.now c.args.key.now c.args.rows.now _ same c.in-Some.ensures.value in
    sym (ap (λ (o : Option KeyRow). is_in c.args.c (line_in (kept_by o))) there) ∙ c.requires

pub returns : goal.returns
returns c =
    let same = c.as_slice.ensures.value ∙ c.key.view_is in
    line-changes c.as_slice.result.now c.args.key.now c.args.rows.now _ c.in-Some.row.now c.stands_at.new.self (moved_to c.args.stand c.args.c) same
    c.in-Some.ensures.value c.stands_at.ensures (moved-commutes c.args.stand c.args.c c.in-Some.row.now) ((c.get_mut.follows.holds _).3 (search rules))
