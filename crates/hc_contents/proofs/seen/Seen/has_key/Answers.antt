use Rattle.std.{proofs.Common.{ℕ, List, ◌∙◌, ap, bytes_eq}, specs.HashSet.{contains_by}}
use Rattle.hc_contents.proofs.seen.Seen.has_key.Goals as goal

pub returns : goal.returns
returns c = λ earlier items knows.
    c.contains.ensures
    ∙ ap (λ (key : List ℕ). contains_by (λ stored. bytes_eq key stored.items) c.args.self.now.keys) (c.as_slice.ensures.value ∙ c.key.view_is)
    ∙ knows.keys c.args.key.now
