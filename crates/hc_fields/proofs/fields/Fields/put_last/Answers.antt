use Rattle.std.proofs.{Common.{refl, sym, ◌∙◌}, lemmas.Bool.{eqb-true, both_ways}}
use Rattle.http_header.specs.Token.{lowercase}
use Rattle.hc_fields.proofs.{Kept.{IsPut, length-lowercase, put_is, IsKept-put}, fields.Fields.put_last.Goals.{then-self, else-self}}
use Rattle.hc_fields.proofs.fields.Fields.put_last.Goals as goal

put : (c : goal.After-self-2-1) →
    IsPut c.self.inside.text.items c.self.inside.marks.items (lowercase c.args.name.now) c.args.value.now c.end_place-at.result c.end_place-at.result
    c.put_line.new.text.items c.put_line.new.marks.items
put c = record {
  text_is = c.in_ok-put_line.ensures.text;
  marks_are = c.in_ok-put_line.ensures.marks ∙
      rw (length-lowercase c.args.name.now, c.self.inside.text.ok.0) refl;
}

pub invariant_of-self-2 : goal.invariant_of-self-2
invariant_of-self-2 c =
    let at = rw (c.deref.ensures.value, c.deref-2.ensures.value) at c.end_place-at.ensures.place in
    IsKept-put c.self.inside.text.items c.self.inside.marks.items c.self.inside.size c.args.name.now c.args.value.now c.end_place-at.result
    c.put_line.new.text.items c.put_line.new.marks.items c.self.inside.in_order c.if-self.self c.self.invariant (rw (← c.self.view_is) at c.requires) at (put c)
    (λ e. elim c.if-self.branch [
      | then-self w ↦ (w.if-self.true, eqb-true _ _ (sym w.self-is ∙ e) ∙ (c.len.ensures ∙ c.self.inside.marks.ok.0))
      | else-self w ↦ absurd (both_ways _ (w.self-is ∙ w.if-self.false) e)
    ])

pub returns-clause-ok : goal.returns-clause-ok
returns-clause-ok c =
    let at = rw (c.deref.ensures.value, c.deref-2.ensures.value) at c.end_place-at.ensures.place in
    rw c.self.view_is at (put_is c.self.inside.text.items c.self.inside.marks.items (lowercase c.args.name.now) c.args.value.now c.end_place-at.result
    c.put_line.new.text.items c.put_line.new.marks.items c.self.invariant.marked.lines at (put c))
