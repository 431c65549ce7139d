use Rattle.std.{proofs.Common.{refl, ap, sym, ◌∙◌}, specs.Prelude.{option_map}}
use Rattle.hc_exch.specs.{Exchanges.{table_of}, Openings.{opened_with}}
use Rattle.hc_record.specs.Plain.{plain}
use Rattle.hc_stored.specs.Entries.{shelf_of}
use Rattle.hc_state.proofs.{Renewing.{opened_moment, renewed_by}, Words.{ok_then}}
use Rattle.hc_on_head.proofs.turn.renew.Goals as goal

pub returns-clause-ok : goal.returns-clause-ok
returns-clause-ok g c = ok_then c.update.result c.update.ensures.ok (λ becomes. record {
  rest = record { last_start = refl; consumers = refl; exchanges = refl; keys = refl };
  renews = λ o there.
      renewed_by (shelf_of c.args.rows.now.entries) (shelf_of c.update.new.self) c.args.r c.unwrap-requested.result.moment o.moment c.args.heard.now
      c.args.response.now.fields (plain c.args.head) (plain c.in_ok-head.head) c.in_ok-head.ensures
      (opened_moment c.unwrap-requested.result (table_of c.args.rows.now.exchanges c.args.heard.x).running o
      (sym (ap (option_map opened_with) c.unwrap-requested.ensures) ∙ c.opening.ensures) there) becomes;
})
