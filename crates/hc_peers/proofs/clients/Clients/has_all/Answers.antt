use Rattle.std.{proofs.Common.{sym, ◌∙◌}, specs.Prelude.{nat_eq}}
use Rattle.std.specs.HashMap as hash
use Rattle.hc_peers.proofs.Rows.{settled-has-all}
use Rattle.hc_peers.proofs.clients.Clients.has_all.Goals as goal

pub returns-then-not-contains : goal.returns-then-not-contains
returns-then-not-contains c =
    let s = c.args.self.now in
    sym (settled-has-all (hash.get nat_eq s.rows c.args.k) c.requires (s.unsettled c.args.k (sym c.contains.ensures ∙ c.if-not-contains.true)))
