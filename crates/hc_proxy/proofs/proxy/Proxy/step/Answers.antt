use Rattle.std.proofs.{Common.{◌≡◌, ◌≤◌, ◌<◌, ◌^◌, refl, arith}, Math.{Bridge.{le_prop}, Logic.{∥∥₁_elim}}}
use Rattle.hc_core.specs.Steps.{last_moment}
use Rattle.hc_proxy.specs.{Invariants.{last_event}, Records.{last_of}}
use Rattle.hc_proxy.proofs.StepOn.{stepped_so}
use Rattle.hc_proxy.proofs.proxy.Proxy.step.Goals as goal

pub add-requires-clause-moment : goal.add-requires-clause-moment
add-requires-clause-moment g c = ∥∥₁_elim c.requires.stands le_prop (λ s.
    let now : c.args.self.now.now ≡ s.1.moment = s.2.now in
    let early : s.1.moment < 2 ^ 62 = s.2.early in
    omega arith)

pub add-requires-clause-later : goal.add-requires-clause-later
add-requires-clause-later g c = ∥∥₁_elim c.requires.stands le_prop (λ s.
    let now : c.args.self.now.now ≡ s.1.moment = s.2.now in
    let last : last_of c.args.self.now.record ≡ last_event s.1.setting.contents.now s.1.history = s.2.recorded in
    let before : last_event s.1.setting.contents.now s.1.history ≤ s.1.moment = s.2.before in
    omega arith)

pub step-requires-clause-later : goal.step-requires-clause-later
step-requires-clause-later g c = ∥∥₁_elim c.requires.stands le_prop (λ s.
    let now : c.args.self.now.now ≡ s.1.moment = s.2.now in
    let last : last_moment c.args.self.now.cache ≤ s.1.moment = s.2.last in
    omega arith)

pub step-requires-clause-early : goal.step-requires-clause-early
step-requires-clause-early g c = ∥∥₁_elim c.requires.stands le_prop (λ s.
    let now : c.args.self.now.now ≡ s.1.moment = s.2.now in
    let early : s.1.moment < 2 ^ 62 = s.2.early in
    omega arith)

pub returns-clause-stepped : goal.returns-clause-stepped
returns-clause-stepped g c f p h room =
    let done = c.in_ok-step.ensures in
    stepped_so f c.args.self.now _ c.args.event p h room c.requires.numbered c.requires.spelled done.answered done.moment done.received
    c.in_ok-add.ensures.text c.in_ok-add.ensures.last
    (record { now = refl; starts = refl; front = refl; clients = refl; upstreams = refl; closed = refl; round = refl })
