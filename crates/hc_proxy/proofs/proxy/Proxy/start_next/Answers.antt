use Rattle.std.proofs.Common.{◌≡◌, ◌≤◌, ◌<◌, ◌+◌, ◌^◌, length, subst, arith}
use Rattle.hc_core.specs.Steps.{steps}
use Rattle.hc_peers.specs.Clients.{ready_of, HearsNext}
use Rattle.hc_peers.specs.declared.clients.NextRequest.TheVariants as reported
use Rattle.hc_proxy.proofs.StartNext.{few_starts, few_bytes, new_number, start_event, next_cache, one_less, goes_nobody, goes_nothing, goes_asks}
use Rattle.hc_proxy.proofs.proxy.Proxy.start_next.Goals as goal

pub overflow_add-c : goal.overflow_add-c
overflow_add-c g c =
    let given : c.args.self.now.starts < 2 ^ 61 + steps c.args.self.now.cache = few_starts c.args.self.now c.requires.stands in
    let few : steps c.args.self.now.cache + length (ready_of c.args.self.now.clients) ≤ 2 ^ 60 = c.requires.few in
    omega (arith, given, few)

pub hear_next-requires : goal.hear_next-requires
hear_next-requires g c = new_number c.args.self.now c.requires.stands

pub happen-requires-clause-stands : goal.happen-requires-clause-stands
happen-requires-clause-stands g c = next_cache c.args.self.now c.hear_next.new.self c.requires.stands

pub happen-requires-clause-spelled : goal.happen-requires-clause-spelled
happen-requires-clause-spelled g c =
    let given : c.args.self.now.starts < 2 ^ 61 + steps c.args.self.now.cache = few_starts c.args.self.now c.requires.stands in
    let few : steps c.args.self.now.cache + length (ready_of c.args.self.now.clients) ≤ 2 ^ 60 = c.requires.few in
    start_event (c.args.self.now.starts + 1) c.args.self.now.front c.args.self.now.clients c.hear_next.new.self c.in-Asks.field-0 c.in-Asks.request
    (omega arith)
    (subst (HearsNext (c.args.self.now.starts + 1) c.args.self.now.front c.args.self.now.clients c.hear_next.new.self) c.in-Asks.is c.in_ok-hear_next.ensures)

pub happen-requires-clause-small : goal.happen-requires-clause-small
happen-requires-clause-small g c = few_bytes c.args.self.now c.requires.stands

pub returns-in-Nobody-clause-goes : goal.returns-in-Nobody-clause-goes
returns-in-Nobody-clause-goes g c t p h =
    goes_nobody t c.args.self.now p h c.hear_next.new.self
    (subst (HearsNext (c.args.self.now.starts + 1) c.args.self.now.front c.args.self.now.clients c.hear_next.new.self) c.in-Nobody.is c.in_ok-hear_next.ensures)

pub returns-in-Nothing-clause-next : goal.returns-in-Nothing-clause-next
returns-in-Nothing-clause-next g c =
    one_less (c.args.self.now.starts + 1) c.args.self.now.front c.args.self.now.clients c.hear_next.new.self reported.Nothing
    (λ same. let never : reported.Nothing ≡ reported.Nobody = same in cc)
    (subst (HearsNext (c.args.self.now.starts + 1) c.args.self.now.front c.args.self.now.clients c.hear_next.new.self) c.in-Nothing.is
    c.in_ok-hear_next.ensures)

pub returns-in-Nothing-clause-goes : goal.returns-in-Nothing-clause-goes
returns-in-Nothing-clause-goes g c t p h =
    goes_nothing t c.args.self.now p h c.hear_next.new.self
    (subst (HearsNext (c.args.self.now.starts + 1) c.args.self.now.front c.args.self.now.clients c.hear_next.new.self) c.in-Nothing.is
    c.in_ok-hear_next.ensures)

pub returns-in_ok-happen-in-Asks-clause-goes : goal.returns-in_ok-happen-in-Asks-clause-goes
returns-in_ok-happen-in-Asks-clause-goes g c t p h =
    let done = c.in_ok-happen-in-Asks.ensures in
    goes_asks t c.args.self.now p h c.hear_next.new.self c.in-Asks.field-0 c.in-Asks.request c.happen.new.self
    done.stepped done.rest done.moved done.steps
    (subst (HearsNext (c.args.self.now.starts + 1) c.args.self.now.front c.args.self.now.clients c.hear_next.new.self) c.in-Asks.is c.in_ok-hear_next.ensures)
