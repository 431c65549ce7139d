use Rattle.std.specs.Prelude.{ℕ, Option}
use Rattle.hc_msg.specs.Reading.{Reading}
use Rattle.hc_origin.specs.Going.{asking_in}
use Rattle.hc_origin.proofs.Hearing.{none-reads, some-reads, stays-kept}
use Rattle.hc_origin.proofs.origin.Origin.read.Goals as goal

pub returns-in-None-clause-handles : goal.returns-in-None-clause-handles
returns-in-None-clause-handles g c = λ reports log before follows hears.
    let new : ℕ → Option Reading = λ k. asking_in (record c.args.self.now { asking = c.read_in.new.asking }) k in
    stays-kept reports log _ _ _ follows
    (none-reads c.args.k c.args.bytes.now before log (asking_in c.args.self.now) new c.args.self.now.answering.items hears c.in-None.ensures.others
    c.in-None.ensures.own)

pub returns-in-Some-clause-handles : goal.returns-in-Some-clause-handles
returns-in-Some-clause-handles g c = λ reports log before follows hears.
    let new : ℕ → Option Reading = λ k. asking_in (record c.args.self.now { asking = c.read_in.new.asking }) k in
    c.take.ensures.handles reports log follows
    (some-reads c.args.k c.args.bytes.now before log (asking_in c.args.self.now) new c.args.self.now.answering.items hears c.in-Some.ensures.others
    c.in-Some.read c.in-Some.ensures.own)
