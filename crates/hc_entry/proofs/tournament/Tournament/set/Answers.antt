use Rattle.std.proofs.{Common.{ℕ, ◌+◌, List, Option, set, drop, length, ap, ◌∙◌, arith, length-set}, lemmas.List.{take_all, take-append-le}}
use Rattle.hc_entry.specs.Tournaments.{at}
use Rattle.hc_entry.proofs.TournamentLemmas.{places-set}
use Rattle.hc_entry.proofs.tournament.Tournament.set.Goals as goal

pub returns : goal.returns
returns c =
    let t = c.self.inside in
    let node : ℕ = t.places + c.args.place in
    let size = c.self.invariant.size in
    let len = t.nodes.ok.0 in
    let set_size = length-set t.nodes.items node c.args.number in
    let value = c.as_mut_slice.ensures.value in
    let value_size = ap length value in
    let new_size = c.replay.auto.nodes in
    ap (drop t.places) (take-append-le t.nodes.len c.replay.new.nodes _ (omega arith) ∙ take_all t.nodes.len c.replay.new.nodes (omega arith))
    ∙ (places-set t.nodes.items c.replay.new.nodes t.places c.args.place c.args.number size (omega arith)
    (λ k leaf. c.replay.ensures.places k (omega arith) ∙ ap (λ (l : List (Option ℕ)). at l k) value)
    ∙ ap (λ (l : List (Option ℕ)). set l c.args.place c.args.number) c.self.view_is)
