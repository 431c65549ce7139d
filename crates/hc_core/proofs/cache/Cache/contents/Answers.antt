use Rattle.std.proofs.{Common.{refl}, Math.Logic.{∥∥₁_map}}
use Rattle.hc_core.proofs.ContentsReported.{contents_reported, may_again, good_still}
use Rattle.hc_core.proofs.cache.Cache.contents.Goals as goal

pub invariant_of-self : goal.invariant_of-self
invariant_of-self g c =
    let good = c.args.self.now.good c.if-self.false in
    record {
      good = λ _. (
        ∥∥₁_map good.0
            (λ at. good_still c.args.self.now.rows _ c.args.self.now.received c.args.self.now.last_moment refl refl refl refl c.items_of.ensures.same at),
        good.1,
        good.2,
        good.3,
      );
    }

pub returns-clause-reported : goal.returns-clause-reported
returns-clause-reported g c = contents_reported c.args.self.now _ refl refl c.next_number.ensures c.in_ok-items.ensures.items

pub returns-clause-fits : goal.returns-clause-fits
returns-clause-fits g c = may_again c.args.self.now _ refl refl c.next_number.ensures c.in_ok-items.ensures.items (c.args.self.now.good c.if-self.false)

pub returns-in_err-items-clause-limits : goal.returns-in_err-items-clause-limits
returns-in_err-items-clause-limits g c = c.items_of.ensures.same.limits

pub returns-clause-limits : goal.returns-clause-limits
returns-clause-limits g c = c.items_of.ensures.same.limits
