use Rattle.hc_sparse.specs.BlockMaps.{marks}
use Rattle.hc_sparse.proofs.SpanLemmas.{own-had, had-more, had-still}
use Rattle.hc_sparse.proofs.places.Places.settle_part.Goals as goal

pub invariant_of-self : goal.invariant_of-self
invariant_of-self c =
    let same = c.in_err-put_part.ensures.err in
    record {
      below = c.in_err-put_part.ensures.below;
      apart = λ o ge lt. rw (same o) (c.args.self.now.apart o ge lt);
      ends = c.args.self.now.ends;
      stands = c.args.self.now.stands;
      had = had-still c.args.self.now.spans.begins (marks c.args.self.now.blocks) (marks c.put_part.new.blocks) same c.args.self.now.had;
    }

pub invariant_of-self-2-clause-had : goal.invariant_of-self-2-clause-had
invariant_of-self-2-clause-had c =
    let tail = c.args.self.now.tail in
    let old = marks c.args.self.now.blocks in
    let new = marks c.put_part.new.blocks in
    let own = c.in_ok-put_part.ensures.ok in
    c.add.ensures.had new (had-more c.args.self.now.spans.begins old new tail.at c.part_len-len.result tail.x tail.from own c.args.self.now.had)
    (own-had old new tail.at c.part_len-len.result tail.x tail.from own)
