use Rattle.std.{proofs.{Common.{◌≡◌, ◌∙◌, ap, not, rules, of_calls}, lemmas.Fn.{filter_same}}, specs.List.{list_any}}
use Rattle.hc_text.specs.Sorted.{is_sorted}
use Rattle.hc_text.proofs.SortedLemmas.{is_sorted-filter}
use Rattle.hc_generate.specs.{declared.exchange.Exchange.{Exchange}, Hearing.{closes, still_open}, Sending.{number_of}}
use Rattle.hc_generate.proofs.ActLemmas.{still_open-any}
use Rattle.hc_generate.proofs.hearing.forget_closed.Goals as goal

kept : (c : goal.After-retain) → c.retain.new.self.items ≡ still_open c.args.acts.now c.args.exchanges.now.items
kept c =
    filter_same _ (λ (e : Exchange). not (list_any (closes e.x) c.args.acts.now)) _ (λ x b f' k. search (rules, of_calls)) _ _ c.retain.ensures.filtered
    ∙ still_open-any c.args.acts.now c.args.exchanges.now.items

pub returns-clause-items : goal.returns-clause-items
returns-clause-items c = kept c

pub returns-clause-ordered : goal.returns-clause-ordered
returns-clause-ordered c = ap (is_sorted number_of) (kept c) ∙ is_sorted-filter number_of _ c.args.exchanges.now.items c.requires
