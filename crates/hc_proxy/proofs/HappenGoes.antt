-- The steps of a turn one behind another: the tables are those of the definitions where none of them counted a failure.
use Rattle.std.proofs.Common.{◌≡◌, ℕ, ap, ◌∙◌, arith}
use Rattle.hc_core.specs.Steps.{faults_in}
use Rattle.hc_store.specs.declared.backend.Backend.{Ghosts}
use Rattle.hc_proxy.specs.declared.proxy.Proxy as loop
use Rattle.hc_proxy.specs.{Handling.{handled}, Keeping.{Turn, KeepsQuiet, KeepsHeard, KeepsPolled, Goes}, Network.{heard}, Polls.{polled_all}, Rows.{Proxy}, Starts.{started_all}, Turns.{happened}}

module _ {B : Type 0} {g : Ghosts B} where
  goes_then : (K L : loop.Proxy B g → Proxy → Type 0) (before : ℕ) (x y : loop.Proxy B g) (owed_by : Proxy) (step : Proxy → Proxy)
      (one : Goes K before x owed_by) → Goes L (faults_in x.cache) y (step one.q) → Goes L before y (step owed_by)
  goes_then K L before x y owed_by step one two = record {
    q = two.q;
    keeps = two.keeps;
    later = let a = one.later in let b = two.later in omega arith;
    same = λ none.
        let a = one.later in
        let b = two.later in
        let first : faults_in x.cache ≡ before = omega arith in
        let second : faults_in y.cache ≡ faults_in x.cache = omega arith in
        two.same second ∙ ap step (one.same first);
  }

  pub happens_goes : (t : Turn) (x x1 x2 x3 x4 : loop.Proxy B g) (p : Proxy)
      (a : Goes (KeepsQuiet t) (faults_in x.cache) x1 (handled t.frame.limits t.dialled t.call p))
      (b : Goes (KeepsHeard t) (faults_in x1.cache) x2 (heard t.frame.limits a.q))
      (d : Goes (KeepsHeard t) (faults_in x2.cache) x3 (started_all t.frame.limits t.call b.q))
      → Goes (KeepsPolled t) (faults_in x3.cache) x4 (polled_all t.frame.limits t.call d.q) →
      Goes (KeepsPolled t) (faults_in x.cache) x4 (happened t.frame.limits t.dialled t.call p)
  unfolding goes_then
  happens_goes t x x1 x2 x3 x4 p a b d e =
      let two = goes_then (KeepsQuiet t) (KeepsHeard t) (faults_in x.cache) x1 x2 (handled t.frame.limits t.dialled t.call p) (heard t.frame.limits) a b in
      let three = goes_then (KeepsHeard t) (KeepsHeard t) (faults_in x.cache) x2 x3 (heard t.frame.limits (handled t.frame.limits t.dialled t.call p))
      (started_all t.frame.limits t.call) two d in
      goes_then (KeepsHeard t) (KeepsPolled t) (faults_in x.cache) x3 x4
      (started_all t.frame.limits t.call (heard t.frame.limits (handled t.frame.limits t.dialled t.call p))) (polled_all t.frame.limits t.call) three e
