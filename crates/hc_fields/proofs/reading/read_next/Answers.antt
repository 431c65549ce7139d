use Rattle.std.proofs.{Common.{refl, sym, ◌∙◌, arith}, lemmas.List.{take_rest}}
use Rattle.hc_fields.proofs.{Ends.{IsField-last}, MarkLemmas.{length-field_text}, NextLemmas.{fields-whole, marked-whole, same_next, too_many, too_long, too_early, IsRead-push}, reading.read_next.Goals.{then-len-ge80-via-then-len-ge80, then-len-ge80-via-else-len-ge80+then-size-gt49152, then-len-ge80-via-else-len-ge80+else-size-gt49152+then-not-is_last}}
use Rattle.hc_fields.proofs.reading.read_next.Goals as goal

pub is_last-requires : goal.is_last-requires
is_last-requires c =
    rw c.deref.ensures.value (marked-whole c.args.text.now c.args.marks.now.items c.args.read c.requires)

pub returns-then-len-ge80-clause-none : goal.returns-then-len-ge80-clause-none
returns-then-len-ge80-clause-none c = λ f after list same.
    let text = c.args.text.now in
    let marks = c.args.marks.now.items in
    let found = rw (take_rest c.args.text.now) at c.in-Some.ensures.found in
    let name = c.in-Some.name.now in
    let value = c.in-Some.value.now in
    let own = same_next text marks c.args.read c.requires name value found.0 found.1 f after list (IsField-last _ f list) same in
    elim c.then-len-ge80.branch [
      | then-len-ge80-via-then-len-ge80 w ↦ too_many text marks c.args.read c.requires name value found.0 found.1 own
          (omega (arith, w.if-len-ge80.true, c.len.ensures, c.args.marks.now.ok.0))
      | then-len-ge80-via-else-len-ge80+then-size-gt49152 w ↦ too_long text marks c.args.read c.requires name value found.0 found.1 own w.if-size-gt49152.true
      | then-len-ge80-via-else-len-ge80+else-size-gt49152+then-not-is_last w ↦ too_early text marks c.args.read c.requires name value found.0 found.1 own
          (rw (w.deref.ensures.value, fields-whole text marks c.args.read c.requires) at (sym w.is_last.ensures ∙ w.if-not-is_last.true))
    ]

pub returns-clause-found : goal.returns-clause-found
returns-clause-found c =
    let text = c.args.text.now in
    let marks = c.args.marks.now.items in
    let found = rw (take_rest c.args.text.now) at c.in-Some.ensures.found in
    let name = c.in-Some.name.now in
    let value = c.in-Some.value.now in (
      IsRead-push text marks c.args.read c.requires name value found.0 found.1
          (omega (arith, c.if-len-ge80.false, c.len.ensures, c.args.marks.now.ok.0)) c.if-size-gt49152.false
          (rw (c.deref.ensures.value, fields-whole text marks c.args.read c.requires) at (sym c.is_last.ensures ∙ c.if-not-is_last.false))
          c.push.new.self.items _ (c.in_ok-push.ensures.items ∙ rw c.new-mark.ensures refl)
          (rw c.new-mark.ensures (omega (arith, length-field_text name value))) refl,
      c.in_ok-push.ensures.len,
    )
