use Rattle.std.proofs.Common.{Option, sym, refl, ap, ◌∙◌, rules}
use Rattle.hc_entry.specs.{declared.rows.KeyRow.{KeyRow}, Lines.{is_in, turn_of, held_by}, Kept.{line_in}, KeyRows.{kept_by}}
use Rattle.hc_entry.proofs.KeyLemmas.{row-there, line-changes}
use Rattle.hc_entry.proofs.rows.hold_in.Goals as goal

pub hold-requires : goal.hold-requires
hold-requires c =
    let same = c.as_slice.ensures.value ∙ c.key.view_is in
    let there = row-there c.as_slice.result.now c.args.key.now c.args.rows.now _ same c.in-Some.ensures.value in
    record {
      inside = sym (ap (λ (o : Option KeyRow). is_in c.args.c (line_in (kept_by o))) there) ∙ c.requires.inside;
      turn = sym (ap (λ (o : Option KeyRow). turn_of (line_in (kept_by o))) there) ∙ c.requires.turn;
    }

pub returns : goal.returns
returns c =
    let same = c.as_slice.ensures.value ∙ c.key.view_is in
    line-changes c.as_slice.result.now c.args.key.now c.args.rows.now _ c.in-Some.row.now c.hold.new.self (held_by c.args.c) same
    c.in-Some.ensures.value c.hold.ensures refl ((c.get_mut.follows.holds _).3 (search rules))
