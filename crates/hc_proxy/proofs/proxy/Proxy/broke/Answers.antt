use Rattle.std.proofs.Common.{refl}
use Rattle.hc_proxy.proofs.{Outcomes.{on_both}, GotBytes.{break_goes, some_cache, small_bytes, small_exchange}}
use Rattle.hc_proxy.proofs.proxy.Proxy.broke.Goals as goal

pub happen-requires-clause-stands : goal.happen-requires-clause-stands
happen-requires-clause-stands g c = some_cache c.args.self.now c.args.k c.args.self.now refl refl refl refl refl c.requires.at

pub happen-requires-clause-spelled : goal.happen-requires-clause-spelled
happen-requires-clause-spelled g c = small_exchange c.args.self.now c.args.k c.requires.at c.requires.few c.in-Some.x c.in-Some.ensures.some

pub happen-requires-clause-small : goal.happen-requires-clause-small
happen-requires-clause-small g c = small_bytes c.args.self.now c.args.k c.requires.at

pub returns-in_ok-happen-in-Some-clause-goes : goal.returns-in_ok-happen-in-Some-clause-goes
returns-in_ok-happen-in-Some-clause-goes g c = λ t p h.
    on_both c.hang_up.result _ _ c.hang_up.ensures.ok (λ hangs.
    break_goes t c.args.self.now p c.args.k h c.in-Some.x c.in-Some.ensures.some c.happen.new.self c.hang_up.new.self
    c.in_ok-happen-in-Some.ensures.stepped c.in_ok-happen-in-Some.ensures.rest c.in_ok-happen-in-Some.ensures.moved c.in_ok-happen-in-Some.ensures.steps hangs)
