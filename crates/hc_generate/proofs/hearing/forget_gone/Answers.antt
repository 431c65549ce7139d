use Rattle.std.{proofs.{Common.{◌≡◌, ◌∙◌, ℕ, ap, not, rules, of_calls}, lemmas.Fn.{filter_same}}, specs.List.{list_any}}
use Rattle.hc_text.specs.Sorted.{is_sorted, itself}
use Rattle.hc_text.proofs.SortedLemmas.{is_sorted-filter}
use Rattle.hc_generate.specs.Hearing.{leaves, still_live}
use Rattle.hc_generate.proofs.ActLemmas.{still_live-any}
use Rattle.hc_generate.proofs.hearing.forget_gone.Goals as goal

kept : (c : goal.After-retain) → c.retain.new.self.items ≡ still_live c.args.acts.now c.args.live.now.items
kept c =
    filter_same _ (λ (n : ℕ). not (list_any (leaves n) c.args.acts.now)) _ (λ x b f' k. search (rules, of_calls)) _ _ c.retain.ensures.filtered
    ∙ still_live-any c.args.acts.now c.args.live.now.items

pub returns-clause-items : goal.returns-clause-items
returns-clause-items c = kept c

pub returns-clause-ordered : goal.returns-clause-ordered
returns-clause-ordered c = ap (is_sorted itself) (kept c) ∙ is_sorted-filter itself _ c.args.live.now.items c.requires
