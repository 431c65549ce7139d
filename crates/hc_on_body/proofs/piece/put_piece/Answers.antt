use Rattle.std.{proofs.Common.{◌≡◌, ◌+◌, length, refl, ap, sym, ◌∙◌, subst}, specs.Prelude.{option_map}}
use Rattle.hc_text.proofs.Basics.{some_inj as some_is}
use Rattle.hc_sparse.specs.Cells.{cells_with}
use Rattle.hc_stored.specs.{Entries.{shelf_of}, Kept.{kept_with_bytes}, Shelf.{same_order}}
use Rattle.hc_stored.specs.Shelf as shelf
use Rattle.hc_stored.specs.Views as views
use Rattle.hc_exch.specs.{declared.row.ExchangeView.{ExchangeView}, Known.{view_of, is_all}}
use Rattle.hc_state.specs.{Pieces.{larger_view, IsLastKind}, Stops.{IsViewOf}}
use Rattle.hc_state.proofs.Words.{ok_then}
use Rattle.hc_on_body.proofs.piece.put_piece.Goals as goal

pub returns-clause-ok : goal.returns-clause-ok
returns-clause-ok g c = ok_then c.put.result c.put.ensures.ok (λ fills o running.
    let x = c.args.x in
    let bytes = c.args.bytes.now in
    let last = c.last_kind-last.result in
    let view_is : c.unwrap-view.result ≡ view_of x o =
    some_is c.unwrap-view.result (view_of x o) (sym c.unwrap-view.ensures ∙ (c.view.ensures ∙ ap (option_map (view_of x)) running)) in
    record {
      last = last;
      fills = subst (λ (e : ExchangeView). shelf.Becomes (option_map (kept_with_bytes (e.base + e.delivered) x bytes last)) same_order c.args.r
          (shelf_of c.args.rows.now.entries) (shelf_of c.put.new.self)) view_is fills;
      kind = λ k v kept reported. subst (λ (e : ExchangeView). IsLastKind (is_all e.promised (e.delivered + length bytes)) v last) view_is
          (c.last_kind-last.ensures x bytes v k refl kept
          (subst (λ (e : ExchangeView). IsViewOf v (cells_with (e.base + e.delivered) x bytes k.cells) (larger_view (length bytes) (views.view_of k)))
          (sym view_is) reported));
    })
