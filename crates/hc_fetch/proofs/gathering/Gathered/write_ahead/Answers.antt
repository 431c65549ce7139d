use Rattle.std.proofs.Common.{◌≡◌, refl, sym, subst, List, ℕ}
use Rattle.hc_fetch.specs.Ahead.{KeepsBut}
use Rattle.hc_fetch.proofs.Aheads.{appends_none, appends_more}
use Rattle.hc_fetch.proofs.gathering.Gathered.write_ahead.Goals as goal

pub loop-at-init : goal.loop-at-init
loop-at-init c = λ f k. (k, appends_none f _ _)

pub loop-at-preserved : goal.loop-at-preserved
loop-at-preserved c = λ f k.
    let so_far = c.loop-at.invariant f k in
    let same : c.in-Some.bytes ≡ c.as_slice.result.now = sym c.as_slice.ensures in
    let but = subst (λ (bytes : List ℕ). KeepsBut c.take_next.new.self.ahead c.take_next.new.self.written f c.in-Some.at bytes) same
    (c.in-Some.ensures.some f so_far.0) in
    (c.in_ok-write.ensures.keeps f but, appends_more f _ _ _ _ _ _ so_far.1 (rw c.take_next.ensures.written at (c.in_ok-write.ensures.text f but)))

pub loop-at-preserved-in_ok-write : goal.loop-at-preserved-in_ok-write
loop-at-preserved-in_ok-write c = λ f k.
    let so_far = c.loop-at.invariant f k in
    let same : c.in-Some.bytes ≡ c.as_slice.result.now = sym c.as_slice.ensures in
    let but = subst (λ (bytes : List ℕ). KeepsBut c.take_next.new.self.ahead c.take_next.new.self.written f c.in-Some.at bytes) same
    (c.in-Some.ensures.some f so_far.0) in
    (c.in_ok-write.ensures.keeps f but, appends_more f _ _ _ _ _ _ so_far.1 (rw c.take_next.ensures.written at (c.in_ok-write.ensures.text f but)))

pub loop-at-preserved-in_ok-write-2 : goal.loop-at-preserved-in_ok-write-2
loop-at-preserved-in_ok-write-2 c = λ f k.
    let so_far = c.loop-at.invariant f k in
    let same : c.in-Some.bytes ≡ c.as_slice.result.now = sym c.as_slice.ensures in
    let but = subst (λ (bytes : List ℕ). KeepsBut c.take_next.new.self.ahead c.take_next.new.self.written f c.in-Some.at bytes) same
    (c.in-Some.ensures.some f so_far.0) in
    (c.in_ok-write.ensures.keeps f but, appends_more f _ _ _ _ _ _ so_far.1 (rw c.take_next.ensures.written at (c.in_ok-write.ensures.text f but)))

pub returns-clause-keeps : goal.returns-clause-keeps
returns-clause-keeps c = λ f k. c.in_default.ensures.none refl f (c.loop-at.invariant f k).0
