use Rattle.std.{proofs.Common.{◌≡◌, ℕ, List, Option, drop}, specs.Prelude.{IfSome}}
use Rattle.hc_fetch.specs.{declared.{ended.FetchEnded.{FetchEnded}, fetching.Fetching.{Fetching}}, Deciding.{IsOwn, by_failure}, Hearing.{Takes}}
use Rattle.hc_fetch.proofs.fetching.Fetching.hear.Given as goal

-- whatever is taken of the acts that are left is what is taken of all of them
abbrev pub invariant-loop-act : goal.invariant-loop-act
invariant-loop-act g l = ((l.self.decided ≡ l.fn.self.decided) × IfSome l.decides IsOwn) × ((u : Fetching g.row.B.Denot g.B.Backend) (after : List ℕ) (result : Option FetchEnded)
    → Takes l.self u (drop l.act-index l.acts) l.text.items after l.decides result → Takes l.fn.self u l.acts l.fn.text.items after (by_failure l.acts) result)
