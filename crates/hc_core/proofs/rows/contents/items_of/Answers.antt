use Rattle.std.{proofs.{Common.{◌≡◌, ℕ, ◌+◌, ◌<◌, List, [], ◌∷◌, ◌++◌, take, map, get_or, true, ap, sym, ◌∙◌, subst}, lemmas.List.{map-append}}, specs.Prelude.{is_some}}
use Rattle.hc_stored.specs.Entries.{shelf_of}
use Rattle.hc_effects.proofs.Vocabulary.{Content}
use Rattle.hc_contents.specs.declared.contents.Content as coded
use Rattle.hc_contents.specs.PlainContents.{plain_item}
use Rattle.hc_state.specs.Remains.{AreContentsOf}
use Rattle.hc_core.proofs.{BegunItems.{calm_ok, take_next}, ContentsReported.{stays_then, idle_at, one_back, reports_more, any_default}}
use Rattle.hc_core.proofs.rows.contents.items_of.Goals as goal

pub content_of-requires : goal.content_of-requires
content_of-requires g c =
    let r = get_or c.deref-r-items.result.now c.loop-r.r-index 0 in
    ap is_some (c.loop-r.invariant.same.kept r) ∙
    idle_at (shelf_of c.args.entries.now) c.deref-r-items.result.now c.loop-r.r-index (c.deref-r-items.ensures.value ∙ c.in_ok-idle.ensures) c.loop-r-test.true

pub loop-r-preserved : goal.loop-r-preserved
loop-r-preserved g c =
    let a = shelf_of c.args.entries.now in
    let m = shelf_of c.loop-r.entries in
    let rs = c.deref-r-items.result.now in
    let i = c.loop-r.r-index in
    let r = get_or rs i 0 in
    let inv = c.loop-r.invariant in
    let item = c.in_ok-content_of.field-0 in
    let one = one_back a m r (plain_item item) inv.same c.in_ok-content_of.ensures.item in
    let more : take (i + 1) rs ≡ take i rs ++ r ∷ [] = take_next rs i r c.loop-r-test.true (any_default rs i 0 r c.loop-r-test.true) in
    let all : map plain_item c.push.new.self ≡ map plain_item c.loop-r.items ++ plain_item item ∷ [] =
    ap (λ (zs : List coded.Content). map plain_item zs) c.in_ok-push.ensures.ok ∙ map-append plain_item c.loop-r.items (item ∷ []) in
    record {
      same = stays_then a m (shelf_of c.content_of.new.entries) inv.same c.content_of.ensures.same;
      reported =
          subst (λ (qs : List ℕ). AreContentsOf a qs (map plain_item c.push.new.self)) (sym more)
          (subst (λ (zs : List Content). AreContentsOf a (take i rs ++ r ∷ []) zs) (sym all)
          (reports_more a (take i rs) (map plain_item c.loop-r.items) r (plain_item item) inv.reported one));
      faults = calm_ok _ _ item c.in_ok-content_of.ensures.cause ∙ inv.faults;
    }
