use Rattle.std.proofs.Common.{◌∙◌, ◌++◌, ◌-◌, List, ℕ, ap, length}
use Rattle.hc_text.proofs.Basics.{rest_is}
use Rattle.hc_fetch.proofs.Aheads.{written_on, end_is}
use Rattle.hc_fetch.proofs.gathering.Gathered.write.Goals as goal

pub returns-in_ok-extend_from_slice-clause-keeps : goal.returns-in_ok-extend_from_slice-clause-keeps
returns-in_ok-extend_from_slice-clause-keeps c = λ f k.
    (written_on f c.args.self.now.ahead c.args.self.now.written c.args.at c.args.bytes.now k c.saturating_add-self.result c.args.text.now.items
    c.extend_from_slice.new.self.items c.if-skipped-count.true
    (end_is c.args.self.now.written c.args.at (length c.args.bytes.now) c.saturating_add-self.result c.requires.begins c.if-skipped-count.true
    k.these.below c.saturating_add-self.ensures)
    (c.in_ok-extend_from_slice.ensures.items ∙
    ap (λ (more : List ℕ). c.args.text.now.items ++ more) (rest_is (c.args.self.now.written - c.args.at) c.args.bytes.now))).0

pub returns-in_ok-extend_from_slice-clause-text : goal.returns-in_ok-extend_from_slice-clause-text
returns-in_ok-extend_from_slice-clause-text c = λ f k.
    (written_on f c.args.self.now.ahead c.args.self.now.written c.args.at c.args.bytes.now k c.saturating_add-self.result c.args.text.now.items
    c.extend_from_slice.new.self.items c.if-skipped-count.true
    (end_is c.args.self.now.written c.args.at (length c.args.bytes.now) c.saturating_add-self.result c.requires.begins c.if-skipped-count.true
    k.these.below c.saturating_add-self.ensures)
    (c.in_ok-extend_from_slice.ensures.items ∙
    ap (λ (more : List ℕ). c.args.text.now.items ++ more) (rest_is (c.args.self.now.written - c.args.at) c.args.bytes.now))).1
