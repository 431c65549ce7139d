use Rattle.std.proofs.Common.{List, ◌++◌, sym, subst}
use Rattle.hc_msg.specs.Reading.{Token, Leads}
use Rattle.hc_msg.proofs.Leading.{leads_one, leads_on, leads_apart, stays_failed}
use Rattle.hc_msg.proofs.laws.bytes_are_read_one_way.Goals as goal

pub returns-clause-one : goal.returns-clause-one
returns-clause-one c = λ s text tokens more t u x y. let one = leads_one s text tokens more t u x y in (one.reports, one.next)

pub returns-clause-pieces : goal.returns-clause-pieces
returns-clause-pieces c = λ s xs ys tokens t. (
  λ h. let cut = leads_apart s xs ys tokens t h in
      record { first = cut.first; second = cut.second; mid = cut.mid; before = cut.before; behind = cut.behind; whole = cut.whole },
  λ h. subst (λ (l : List Token). Leads s (xs ++ ys) l t) (sym h.whole) (leads_on s xs ys h.first h.second h.mid t h.before h.behind),
)

pub returns-clause-stays : goal.returns-clause-stays
returns-clause-stays c = stays_failed
