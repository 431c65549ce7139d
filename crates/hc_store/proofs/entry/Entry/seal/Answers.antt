use Rattle.std.proofs.Common.{◌≡◌, sym, ◌∙◌, arith}
use Rattle.hc_record.specs.{declared.version.Version.TheVariants.{Second}, Head.{sealed_head}, Plain.{plain}, Record.{spelling}}
use Rattle.hc_store.proofs.Texts.{whole-text}
use Rattle.hc_store.proofs.entry.Entry.seal.Goals as goal

pub invariant_of-self-3 : goal.invariant_of-self-3
invariant_of-self-3 c =
    let was = c.args.self.now.spelled ∙ sym c.deref_mut.ensures.value in
    let sealed : spelling Second (sealed_head c.args.kind c.args.total (plain c.args.self.now.head)) ≡ c.seal_record.new.text =
    (c.seal_record.ensures.head Second (plain c.args.self.now.head) c.args.self.now.head.own was).1 in
    record {
      spelled = sealed ∙
          sym (whole-text c.args.self.now.text.len c.seal_record.new.text c.args.self.now.text.items
          (let kept = c.seal_record.auto.text in let len = c.deref_mut.ensures.len in omega arith));
    }
