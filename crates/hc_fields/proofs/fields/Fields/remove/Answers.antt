use Rattle.std.proofs.{Common.{◌≡◌, sym, ◌∙◌}, lemmas.Bool.{eqb-true, both_ways}}
use Rattle.http_header.specs.Token.{lowercase}
use Rattle.hc_fields.specs.{Marks.{fields_at}, FieldList.{without}}
use Rattle.hc_fields.proofs.{Edits.{values_of-without_same, values_of-without_other}, Kept.{left_is, IsKept-left}, fields.Fields.remove.Goals.{then-self, else-self}}
use Rattle.hc_fields.proofs.fields.Fields.remove.Goals as goal

left : (c : goal.After-self-2-1) →
    fields_at c.self.inside.text.items c.take_out.new.marks.items ≡ without (lowercase c.args.name.now)
    (fields_at c.self.inside.text.items c.self.inside.marks.items)
left c =
    let place = rw (c.deref.ensures.value, c.deref-2.ensures.value) at c.place_of-place.ensures in
    left_is c.self.inside.text.items c.self.inside.marks.items c.take_out.new.marks.items (lowercase c.args.name.now) c.place_of-place.result
    c.self.invariant.marked.list.sorted place c.take_out.ensures

pub invariant_of-self : goal.invariant_of-self
invariant_of-self c =
    let place = rw (c.deref.ensures.value, c.deref-2.ensures.value) at c.place_of-place.ensures in
    IsKept-left c.self.inside.text.items c.self.inside.marks.items c.take_out.new.marks.items c.self.inside.size (lowercase c.args.name.now)
    c.place_of-place.result c.self.inside.in_order c.if-self.self c.self.invariant place c.take_out.ensures
    (λ e. elim c.if-self.branch [
      | then-self w ↦ (w.if-self.true, eqb-true _ _ (sym w.self-is ∙ e))
      | else-self w ↦ absurd (both_ways _ (w.self-is ∙ w.if-self.false) e)
    ])

pub returns-clause-left : goal.returns-clause-left
returns-clause-left c = rw c.self.view_is at (left c)

pub returns-clause-values : goal.returns-clause-values
returns-clause-values c = rw (left c) (values_of-without_same (lowercase c.args.name.now) _)

pub returns-clause-others : goal.returns-clause-others
returns-clause-others c =
    λ other differ. rw (left c, ← c.self.view_is) (values_of-without_other (lowercase c.args.name.now) other _ differ)
