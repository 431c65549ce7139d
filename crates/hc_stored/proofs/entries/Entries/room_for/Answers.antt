use Rattle.std.{proofs.Common.{ℕ, ◌≡◌, ◌+◌, ◌-◌, List, [], ◌∷◌, length, sym, ap, ◌∙◌, arith, length-append}, specs.{Prelude.{option_map, map, filter, reverse}, Map.{keys_of}}}
use Rattle.hc_rules.proofs.RoomFolds.{fits_now}
use Rattle.hc_rules.specs.{declared.room.Limits.{Limits}, Rooms.{room_by, gives_way}}
use Rattle.hc_store.specs.Slots.{weight}
use Rattle.hc_stored.specs.{Entries.{shelf_of}, Rows.{rows_of}, Shelf.{is_unused, weight_at, idle}}
use Rattle.hc_stored.proofs.{ShelfLemmas.{live-slot}, WeightLemmas.{weight-there}, IdleLemmas.{unused-kept, idle-last, gives-more}}
use Rattle.hc_stored.proofs.entries.Entries.room_for.Goals as goal

pub returns-then-left-most : goal.returns-then-left-most
returns-then-left-most g c =
    let e = c.args.self.now in
    let most : c.from-most.result ≡ (g.B.Backend.limits e.store).max_total = c.from-most.ensures ∙ ap (λ (l : Limits). l.max_total) (sym e.limited) in
    let sum : c.from.result + c.from-2.result ≡ weight (g.B.Backend.slots e.store) + c.args.more =
    let used : c.from.result ≡ weight (g.B.Backend.slots e.store) = c.from.ensures ∙ c.used.ensures in
    let more : c.from-2.result ≡ c.args.more = c.from-2.ensures in
    omega arith in
    ap room_by (fits_now c.loop-r.count c.from-most.result c.loop-r.left _ _ c.if-left-most.true c.loop-r.invariant.sum
    ∙ (ap (λ (n : ℕ). gives_way n (c.from.result + c.from-2.result) (map (weight_at (shelf_of e)) (idle (shelf_of e)))) most
    ∙ ap (λ (n : ℕ). gives_way (g.B.Backend.limits e.store).max_total n (map (weight_at (shelf_of e)) (idle (shelf_of e)))) sum))

pub used_by-weight-requires : goal.used_by-weight-requires
used_by-weight-requires g c = live-slot c.args.self.now.shelved c.in-Some.r.now c.slot_in.result.n c.slot_in.ensures

pub loop-r-preserved-then-is_unused : goal.loop-r-preserved-then-is_unused
loop-r-preserved-then-is_unused g c =
    let e = c.args.self.now in
    let slots = g.B.Backend.slots e.store in
    let r = c.in-Some.r.now in
    let rest = c.next.new.self.iter in
    let test = λ (q : ℕ). is_unused ((shelf_of e).kept q) in
    let passes = sym (unused-kept e.shelved r) ∙ (sym c.is_unused.ensures ∙ c.if-is_unused.true) in
    let ends = idle-last test c.loop-r.r-iterator.iter rest r tt c.in-Some.ensures.steps passes in
    let weight : c.from-then-is_unused.result ≡ weight_at (shelf_of e) r =
    c.from-then-is_unused.ensures ∙ (c.used_by-weight.ensures ∙ weight-there slots (rows_of e.rows r) c.slot_in.result.n c.slot_in.ensures) in
    let less : c.saturating_sub-left.result ≡ c.loop-r.left - weight_at (shelf_of e) r = c.saturating_sub-left.ensures ∙
    ap (λ (n : ℕ). c.loop-r.left - n) weight in
    let count = c.loop-r.count in
    let most = c.from-most.result in
    let left = c.loop-r.left in
    let w = weight_at (shelf_of e) in
    let few : length c.loop-r.r-iterator.iter ≡ length rest + 1 = ap length c.in-Some.ensures.steps ∙ length-append rest ((r, tt) ∷ []) in
    let fits = c.loop-r.invariant.few in
    record {
      sum =
          ap (λ (k : ℕ). option_map (λ (n : ℕ). count + 1 + n) (gives_way most k (map w (filter test (reverse (keys_of rest)))))) less
          ∙ gives-more count most left (w r) (map w (filter test (reverse (keys_of rest)))) _ c.if-left-most.false
          (ap (λ (qs : List ℕ). option_map (λ (n : ℕ). count + n) (gives_way most left (map w qs))) (sym ends) ∙ c.loop-r.invariant.sum);
      few = omega arith;
    }
