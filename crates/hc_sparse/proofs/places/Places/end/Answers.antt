use Rattle.hc_sparse.specs.BlockMaps.{marks}
use Rattle.hc_sparse.proofs.SpanLemmas.{all-claimed}
use Rattle.hc_sparse.proofs.places.Places.end.Goals as goal

pub returns-in-Some-clause-some : goal.returns-in-Some-clause-some
returns-in-Some-clause-some c =
    let tail = c.args.self.now.tail in
    let reported = c.in-Some.ensures in
    record {
      past = reported.0;
      all = all-claimed (marks c.args.self.now.blocks) tail.at tail.len tail.x tail.from c.args.p c.in-Some.end
          (reported.1 (marks c.args.self.now.blocks) c.args.self.now.had);
    }
