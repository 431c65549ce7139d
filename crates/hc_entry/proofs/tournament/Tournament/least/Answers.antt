use Rattle.std.proofs.{Common.{◌≤◌, None, arith}, lemmas.List.{get_or_read}}
use Rattle.hc_entry.proofs.TournamentLemmas.{wins}
use Rattle.hc_entry.proofs.tournament.Tournament.least.Goals as goal

pub returns-else-self-eq0 : goal.returns-else-self-eq0
returns-else-self-eq0 c =
    let t = c.self.inside in
    let some : 1 ≤ t.places = let off = c.if-self-eq0.false in omega arith in
    let size = c.self.invariant.size in
    let read = get_or_read t.nodes.items 1 c.index.result.now (omega arith) c.index.ensures None in
    rw (read, ← c.self.view_is) (wins t.nodes.items c.self.invariant.played t.places size some)
