use Rattle.std.{proofs.{Common.{◌≡◌, ◌∙◌, ◌<◌, length, [], None, refl, ap, sym}, lemmas.{Bool.{eqb-true}, List.{nil_from_length}}}, specs.Option.{option_copied}}
use Rattle.hc_fields.specs.Joined.{all_values}
use Rattle.hc_fields.proofs.Agreeing.{next_piece}
use Rattle.hc_fields.proofs.agree.Joined.advance.Goals as goal

pub loop-value-preserved : goal.loop-value-preserved
loop-value-preserved c =
    let within : c.loop-value.self.next < length (all_values c.loop-value.self) = rw (← c.loop-value.invariant.count) c.if-self.true in
    let piece = next_piece (all_values c.loop-value.self) c.loop-value.self.next _ within c.value-self.ensures in
    let empty : c.loop-value.self.rest.now ≡ [] =
    nil_from_length c.loop-value.self.rest.now (eqb-true (length c.loop-value.self.rest.now) 0 (sym c.is_empty.ensures ∙ c.loop-value-test.true)) in
    let nothing : option_copied c.loop-value.self.value ≡ None = ap option_copied c.in_default.is in
    record { count = c.loop-value.invariant.count; left = piece ∙ (rw (empty, nothing) refl) ∙ c.loop-value.invariant.left }
