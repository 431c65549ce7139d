use Rattle.std.proofs.{Common.{◌≡◌, List, ℕ, Option, [], refl, ap, sym, ◌∙◌}, lemmas.{Bool.{false≢true}, List.{append-nil}}}
use Rattle.hc_fields.specs.Lines.{fields_text}
use Rattle.hc_record.specs.{Head.{joining_of, opaque_of}, Lines.{joining_text, tag_line}, Record.{field_lines}}
use Rattle.hc_record.proofs.{Stages.{first_of, AreFirst-of, rest_lines, whole, lacks-own, tag_first, vary_of, fields_of, after_tag, after_vary, after_fields, assembled}, read.read_record.Goals.{then-not-is_at_end-via-then-not-is_at_end, then-not-is_at_end-via-else-not-is_at_end+then-not-within_limits}}
use Rattle.hc_record.proofs.read.read_record.Goals as goal

pub returns-in_default-clause-none : goal.returns-in_default-clause-none
returns-in_default-clause-none c = λ head own r.
    c.in_default.ensures (first_of r.0 head) (rest_lines r.0 head) (AreFirst-of r.0 head own) (whole head own r.0 c.args.text.now r.1 ∙ sym c.new-rest.ensures)

pub returns-in_default-take_tag_text-clause-none : goal.returns-in_default-take_tag_text-clause-none
returns-in_default-take_tag_text-clause-none c = λ head own r.
    let is = c.in-Some.ensures.1 ∙ c.new-rest.ensures in
    c.in_default-take_tag_text.ensures.none (joining_text head.joining) (field_lines head) (lacks-own head own r.0 c.args.text.now r.1)
    (tag_first head own r.0 c.args.text.now r.1 c.in-Some.first c.take_first_lines.new.text c.in-Some.ensures.0 is)

pub returns-in_default-2-clause-none : goal.returns-in_default-2-clause-none
returns-in_default-2-clause-none c = λ head own r.
    let is = c.in-Some.ensures.1 ∙ c.new-rest.ensures in
    let tag = c.in-Some-take_tag_text.ensures.found in
    let none = rw c.in_default-2.is at c.in_ok-vary_fields.ensures in
    let behind = after_tag head own r.0 c.args.text.now r.1 c.in-Some.first c.take_first_lines.new.text c.in-Some.ensures.0 is
    c.in-Some-take_tag_text.tag.now c.take_tag_text.new.text tag.0 tag.1 in
    none head.vary_fields (fields_text head.fields)
    (vary_of head own r.0 c.args.text.now r.1 c.in-Some.first c.take_first_lines.new.text c.in-Some.ensures.0 is) behind.1

pub returns-in_default-3-clause-none : goal.returns-in_default-3-clause-none
returns-in_default-3-clause-none c = λ head own r.
    let is = c.in-Some.ensures.1 ∙ c.new-rest.ensures in
    let tag = c.in-Some-take_tag_text.ensures.found in
    let vary = rw c.in-Some-2.is at c.in_ok-vary_fields.ensures in
    let none = rw c.in_default-3.is at c.in_ok-fields.ensures in
    let behind = after_vary head own r.0 c.args.text.now r.1 c.in-Some.first c.take_first_lines.new.text c.in-Some.ensures.0 is
    c.in-Some-take_tag_text.tag.now c.take_tag_text.new.text tag.0 tag.1 c.in-Some-2.vary_fields c.take_fields.new.self vary.0 vary.1 in
    none head.fields [] (fields_of head own r.0 c.args.text.now r.1 c.in-Some.first c.take_first_lines.new.text c.in-Some.ensures.0 is)
    (append-nil (fields_text head.fields) ∙ sym behind.1)

pub returns-then-not-is_at_end-clause-none : goal.returns-then-not-is_at_end-clause-none
returns-then-not-is_at_end-clause-none c = λ head own r.
    let is = c.in-Some.ensures.1 ∙ c.new-rest.ensures in
    let tag = c.in-Some-take_tag_text.ensures.found in
    let vary = rw c.in-Some-2.is at c.in_ok-vary_fields.ensures in
    let fields = rw c.in-Some-3.is at c.in_ok-fields.ensures in
    let behind = after_fields head own r.0 c.args.text.now r.1 c.in-Some.first c.take_first_lines.new.text c.in-Some.ensures.0 is
    c.in-Some-take_tag_text.tag.now c.take_tag_text.new.text tag.0 tag.1 c.in-Some-2.vary_fields c.in-Some-3.fields c.take_fields.new.self
    c.take_fields-2.new.self vary.0 vary.1 fields.0 fields.1 in
    elim c.then-not-is_at_end.branch [
      | then-not-is_at_end-via-then-not-is_at_end w ↦ false≢true (w.if-not-is_at_end.ensures.1 behind.1)
      | then-not-is_at_end-via-else-not-is_at_end+then-not-within_limits w ↦ false≢true (w.if-not-within_limits.ensures.value.1 (rw behind.0 own.within_limits))
    ]

pub returns-then-not-is_own_tag-clause-none : goal.returns-then-not-is_own_tag-clause-none
returns-then-not-is_own_tag-clause-none c = λ head own r.
    let is = c.in-Some.ensures.1 ∙ c.new-rest.ensures in
    let tag = c.in-Some-take_tag_text.ensures.found in
    let vary = rw c.in-Some-2.is at c.in_ok-vary_fields.ensures in
    let fields = rw c.in-Some-3.is at c.in_ok-fields.ensures in
    let version = c.in-Some.first.version in
    let mine = after_tag head own r.0 c.args.text.now r.1 c.in-Some.first c.take_first_lines.new.text c.in-Some.ensures.0 is
    c.in-Some-take_tag_text.tag.now c.take_tag_text.new.text tag.0 tag.1 in
    let behind = after_fields head own r.0 c.args.text.now r.1 c.in-Some.first c.take_first_lines.new.text c.in-Some.ensures.0 is
    c.in-Some-take_tag_text.tag.now c.take_tag_text.new.text tag.0 tag.1 c.in-Some-2.vary_fields c.in-Some-3.fields c.take_fields.new.self
    c.take_fields-2.new.self vary.0 vary.1 fields.0 fields.1 in
    let joining : head.joining ≡ joining_of c.in-Some-3.fields = own.own_joining ∙ ap joining_of (sym behind.0) in
    c.if-not-is_own_tag.ensures
    (sym mine.0 ∙ ap (λ (j : Option (List ℕ)). tag_line version (joining_text j)) (joining ∙ sym c.in_ok-joining.ensures.value))

pub returns-clause-found : goal.returns-clause-found
returns-clause-found c =
    let is = c.in-Some.ensures.1 ∙ c.new-rest.ensures in
    let tag = c.in-Some-take_tag_text.ensures.found in
    let vary = rw c.in-Some-2.is at c.in_ok-vary_fields.ensures in
    let fields = rw c.in-Some-3.is at c.in_ok-fields.ensures in
    let version = c.in-Some.first.version in
    let own : tag_line version c.in-Some-take_tag_text.tag.now ≡ tag_line version (joining_text (opaque_of c.in_ok-joining.joining)) =
    c.if-not-is_own_tag.ensures in (
      version,
      assembled
          (record {
            kind = c.in-Some.first.seal.kind;
            total = c.in-Some.first.seal.total;
            status = c.in-Some.first.status;
            requested = c.in-Some.first.numbers.requested;
            answered = c.in-Some.first.numbers.answered;
            joining = opaque_of c.in_ok-joining.joining;
            vary_fields = c.in-Some-2.vary_fields;
            fields = c.in-Some-3.fields;
          })
          c.in-Some.first c.args.text.now c.take_first_lines.new.text c.in-Some-take_tag_text.tag.now c.take_tag_text.new.text c.take_fields.new.self
          c.take_fields-2.new.self
          c.in-Some.ensures.0 is tag.1 vary.1 fields.1 (c.if-not-is_at_end.ensures.0 refl) own refl refl c.in-Some.ensures.0.status_is refl refl
          vary.0.count_is fields.0.count_is,
    )
