use Rattle.std.proofs.{Common.{◌≡◌, ◌+◌, refl, sym, ◌∙◌}, lemmas.Bool.{eqb-true, both_ways}}
use Rattle.http_header.specs.Token.{lowercase}
use Rattle.hc_fields.specs.{FieldList.{field_list_with, without}, Marks.{fields_at}}
use Rattle.hc_fields.proofs.{Kept.{IsPut, length-lowercase, set_is, IsKept-set}, fields.Fields.set_checked.Goals.{then-self, else-self}}
use Rattle.hc_fields.proofs.fields.Fields.set_checked.Goals as goal

set : (c : goal.After-self-2-1) →
    IsPut c.self.inside.text.items c.self.inside.marks.items (lowercase c.args.name.now) c.args.value.now c.place_of-place.result.start
    (c.place_of-place.result.start + c.place_of-place.result.count) c.put_line.new.text.items c.put_line.new.marks.items
set c = record {
  text_is = c.in_ok-put_line.ensures.text;
  marks_are = c.in_ok-put_line.ensures.marks ∙
      rw (length-lowercase c.args.name.now, c.self.inside.text.ok.0) refl;
}

fields-set : (c : goal.After-self-2-1) →
    fields_at c.put_line.new.text.items c.put_line.new.marks.items ≡ field_list_with (lowercase c.args.name.now) c.args.value.now
    (without (lowercase c.args.name.now) (fields_at c.self.inside.text.items c.self.inside.marks.items))
fields-set c =
    let place = rw (c.deref.ensures.value, c.deref-2.ensures.value) at c.place_of-place.ensures in
    set_is c.self.inside.text.items c.self.inside.marks.items (lowercase c.args.name.now) c.args.value.now c.place_of-place.result
    c.put_line.new.text.items c.put_line.new.marks.items c.self.invariant.marked.lines c.self.invariant.marked.list.sorted place (set c)

pub invariant_of-self-2 : goal.invariant_of-self-2
invariant_of-self-2 c =
    let place = rw (c.deref.ensures.value, c.deref-2.ensures.value) at c.place_of-place.ensures in
    let allowed = rw (← c.self.view_is) at c.in_default.ensures in
    IsKept-set c.self.inside.text.items c.self.inside.marks.items c.self.inside.size c.args.name.now c.args.value.now c.place_of-place.result
    c.put_line.new.text.items c.put_line.new.marks.items c.self.inside.in_order c.if-self.self c.self.invariant place allowed (set c)
    (λ e. elim c.if-self.branch [
      | then-self w ↦ (w.if-self.true, eqb-true _ _ (sym w.self-is ∙ e) ∙ (c.len.ensures ∙ c.self.inside.marks.ok.0))
      | else-self w ↦ absurd (both_ways _ (w.self-is ∙ w.if-self.false) e)
    ])

pub returns-clause-ok : goal.returns-clause-ok
returns-clause-ok c = rw c.self.view_is at (fields-set c)
