use Rattle.std.proofs.{Common.{inl, inr, sym, subst}, Math.Logic.{∥∥₁_map}}
use Rattle.hc_core.specs.Steps.{faults_in}
use Rattle.hc_proxy.specs.Keeping.{Begun, IsBegun, KeepsQuiet, Goes}
use Rattle.hc_proxy.proofs.{EventComes.{got_at, broke_at, ended_at, handled_is, event_is_at, room_goes, quiet_goes}, Outcomes.{on_both}}
use Rattle.hc_proxy.proofs.proxy.Proxy.handle.Goals as goal

pub ended-requires-clause-at : goal.ended-requires-clause-at
ended-requires-clause-at g c = event_is_at c.in-Ended.k c.args.self.now c.args.event c.args.slice.now (inl c.in-Ended.is) c.requires.begun

pub broke-requires-clause-at : goal.broke-requires-clause-at
broke-requires-clause-at g c = event_is_at c.in-Broke.k c.args.self.now c.args.event c.args.slice.now (inr c.in-Broke.is) c.requires.begun

pub returns-in-Ended-clause-goes : goal.returns-in-Ended-clause-goes
returns-in-Ended-clause-goes g c = λ t p h.
    let b = subst (λ e. Begun t c.args.self.now p e c.args.slice.now) c.in-Ended.is h in
    on_both c.ended.result _ _ (c.ended.ensures.goes t p (ended_at t c.args.self.now p c.in-Ended.k c.args.slice.now b))
    (λ go. subst (λ q. Goes (KeepsQuiet t) (faults_in c.args.self.now.cache) c.ended.new.self q) (sym (handled_is t c.args.self.now p _ c.args.slice.now b)) go)

pub returns-in-Broke-clause-goes : goal.returns-in-Broke-clause-goes
returns-in-Broke-clause-goes g c = λ t p h.
    let b = subst (λ e. Begun t c.args.self.now p e c.args.slice.now) c.in-Broke.is h in
    on_both c.broke.result _ _ (c.broke.ensures.goes t p (broke_at t c.args.self.now p c.in-Broke.k c.args.slice.now b))
    (λ go. subst (λ q. Goes (KeepsQuiet t) (faults_in c.args.self.now.cache) c.broke.new.self q) (sym (handled_is t c.args.self.now p _ c.args.slice.now b)) go)

pub client_comes-requires : goal.client_comes-requires
client_comes-requires g c =
    record { begun = ∥∥₁_map c.requires.begun (λ s. (c.args.slice.now, subst (λ e. IsBegun c.args.self.now e c.args.slice.now) c.in-Accepted.is s)) }

pub returns-in-Accepted-clause-goes : goal.returns-in-Accepted-clause-goes
returns-in-Accepted-clause-goes g c = λ t p h.
    let b = subst (λ e. Begun t c.args.self.now p e c.args.slice.now) c.in-Accepted.is h in
    on_both c.client_comes.result _ _ (c.client_comes.ensures.goes t p c.args.slice.now b)
    (λ go. subst (λ q. Goes (KeepsQuiet t) (faults_in c.args.self.now.cache) c.client_comes.new.self q)
    (sym (handled_is t c.args.self.now p _ c.args.slice.now b)) go)

pub returns-in-Got-clause-goes : goal.returns-in-Got-clause-goes
returns-in-Got-clause-goes g c = λ t p h.
    let b = subst (λ e. Begun t c.args.self.now p e c.args.slice.now) c.in-Got.is h in
    on_both c.got.result _ _ (c.got.ensures.goes t p (got_at t c.args.self.now p c.in-Got.k c.in-Got.n c.args.slice.now b) b.bytes)
    (λ go. subst (λ q. Goes (KeepsQuiet t) (faults_in c.args.self.now.cache) c.got.new.self q) (sym (handled_is t c.args.self.now p _ c.args.slice.now b)) go)

pub returns-in-Room-clause-goes : goal.returns-in-Room-clause-goes
returns-in-Room-clause-goes g c t p h =
    room_goes t c.args.self.now p _ c.args.slice.now (subst (λ e. Begun t c.args.self.now p e c.args.slice.now) c.in-Room.is h)

pub returns-in-Quiet-clause-goes : goal.returns-in-Quiet-clause-goes
returns-in-Quiet-clause-goes g c t p h =
    quiet_goes t c.args.self.now p c.args.slice.now (subst (λ e. Begun t c.args.self.now p e c.args.slice.now) c.in-Quiet.is h)
