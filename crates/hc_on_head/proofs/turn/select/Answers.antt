use Rattle.std.proofs.Common.{ap, sym, ◌∙◌}
use Rattle.hc_stored.specs.Entries.{shelf_of}
use Rattle.hc_record.specs.{Head.{Head}, Plain.{plain}}
use Rattle.hc_validate.specs.Selection.{selects}
use Rattle.hc_state.proofs.Renewing.{head_is, renews_read}
use Rattle.hc_on_head.proofs.turn.select.Goals as goal

pub returns-clause-ok : goal.returns-clause-ok
returns-clause-ok g c =
    let renewed = c.in_ok-renew.ensures.ok in
    let stays = c.head.ensures.same in
    record {
      rest = record { last_start = renewed.rest.last_start; consumers = renewed.rest.consumers; exchanges = renewed.rest.exchanges; keys = renewed.rest.keys };
      reports = λ k at. sym c.if-not-selects.false ∙
          (c.selects.ensures ∙ ap (λ (h : Head). selects h c.args.response.now)
          (head_is (shelf_of c.args.rows.now.entries) c.args.r (plain c.in_ok-head.head) k c.in_ok-head.ensures.head at));
      head = λ o there. renews_read (shelf_of c.args.rows.now.entries) (shelf_of c.head.new.self) (shelf_of c.renew.new.rows.entries) c.args.r o.moment
          c.args.heard.now c.args.response.now.fields (plain c.in_ok-head.head) c.in_ok-head.ensures.head stays (renewed.renews o there);
    }
