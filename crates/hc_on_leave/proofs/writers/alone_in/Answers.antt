use Rattle.std.{proofs.Common.{Some, nat_eq, ap, sym, ◌∙◌, subst}, specs.{Prelude.{is_some}, HashMap.{get}}}
use Rattle.hc_text.proofs.Basics.{false_true, none_of}
use Rattle.hc_stored.specs.{declared.view.EntryView.{EntryView}, Entries.{shelf_of}}
use Rattle.hc_exch.specs.Exchanges.{table_of}
use Rattle.hc_state.specs.Kept.{IsKept, KeepsConsumer}
use Rattle.hc_state.proofs.{CurrentTies.{viewed_entry, entry_row, entry_at}, Maps.{merely_below, lent}, Words.{few_received, none_there}}
use Rattle.hc_on_leave.proofs.WriterTies.{written_by, exclusive_some, exclusive_off, alone_row, alone_below}
use Rattle.hc_on_leave.proofs.writers.alone_in.Goals as goal

pub has_more-requires-clause-counts : goal.has_more-requires-clause-counts
has_more-requires-clause-counts g c =
    let r = c.args.rows.now in
    let q = c.args.r in
    let (e, kept, seen) = viewed_entry ((shelf_of r.entries).kept q) c.args.entry.now c.requires.entry in
    let n = c.in_ok-c.c in
    let at = lent c.get.result (get nat_eq r.consumers n) c.in_ok-consumer.consumer c.get.ensures.value c.in_ok-consumer.was in
    merely_below _ _ c.requires.stands (λ s.
    let t = s.t in
    let facts = s.facts in
    let (p, here, is) = entry_row r t s.rows q e kept in
    alone_below r t facts s.rows q p here e is n (alone_row r t facts s.rows q p here e is n (ap (λ (z : EntryView). z.first) seen ∙ c.in_ok-c.was))
    c.in_ok-consumer.consumer.now at s.numbers (few_received s.received))

pub returns-then-is_some : goal.returns-then-is_some
returns-then-is_some g c = λ limits t p facts stands here stays.
    let r = c.args.rows.now in
    let q = c.args.r in
    let (e, kept, seen) = viewed_entry ((shelf_of r.entries).kept q) c.args.entry.now c.requires.entry in
    let n = c.in_ok-c.c in
    let k = c.in_ok-consumer.consumer.now in
    let at = lent c.get.result (get nat_eq r.consumers n) c.in_ok-consumer.consumer c.get.ensures.value c.in_ok-consumer.was in
    let is = entry_at r t stands q e kept p here in
    let a = alone_row r t facts stands q p here e is n (ap (λ (z : EntryView). z.first) seen ∙ c.in_ok-c.was) in
    let k_kept : IsKept t k a.v = subst (KeepsConsumer t (Some k)) a.row (subst (λ o. KeepsConsumer t o (t.consumer n)) at (stands.consumers n)) in
    exclusive_off r t facts stands q p here e is n a (λ both.
    none_there k.due (k_kept.due ∙ both.0) (sym c.is_some.ensures ∙ c.if-is_some.true))

pub returns-then-has_more : goal.returns-then-has_more
returns-then-has_more g c = λ limits t p facts stands here stays.
    let r = c.args.rows.now in
    let q = c.args.r in
    let (e, kept, seen) = viewed_entry ((shelf_of r.entries).kept q) c.args.entry.now c.requires.entry in
    let n = c.in_ok-c.c in
    let k = c.in_ok-consumer.consumer.now in
    let at = lent c.get.result (get nat_eq r.consumers n) c.in_ok-consumer.consumer c.get.ensures.value c.in_ok-consumer.was in
    let is = entry_at r t stands q e kept p here in
    let a = alone_row r t facts stands q p here e is n (ap (λ (z : EntryView). z.first) seen ∙ c.in_ok-c.was) in
    let k_kept : IsKept t k a.v = subst (KeepsConsumer t (Some k)) a.row (subst (λ o. KeepsConsumer t o (t.consumer n)) at (stands.consumers n)) in
    let written = written_by (table_of r.exchanges) ((shelf_of r.entries).kept q) c.args.entry.now c.requires.entry in
    exclusive_some r t facts stands q p here e is n a stays (ap (λ o. is_some o) (sym written ∙ c.requires.unwritten))
    (sym k_kept.due ∙ none_of k.due (sym c.is_some.ensures ∙ c.if-is_some.false))
    (sym (c.has_more.ensures _ t a.v p facts stands k_kept here stays) ∙ c.if-has_more.true)

pub returns-else-has_more : goal.returns-else-has_more
returns-else-has_more g c = λ limits t p facts stands here stays.
    let r = c.args.rows.now in
    let q = c.args.r in
    let (e, kept, seen) = viewed_entry ((shelf_of r.entries).kept q) c.args.entry.now c.requires.entry in
    let n = c.in_ok-c.c in
    let k = c.in_ok-consumer.consumer.now in
    let at = lent c.get.result (get nat_eq r.consumers n) c.in_ok-consumer.consumer c.get.ensures.value c.in_ok-consumer.was in
    let is = entry_at r t stands q e kept p here in
    let a = alone_row r t facts stands q p here e is n (ap (λ (z : EntryView). z.first) seen ∙ c.in_ok-c.was) in
    let k_kept : IsKept t k a.v = subst (KeepsConsumer t (Some k)) a.row (subst (λ o. KeepsConsumer t o (t.consumer n)) at (stands.consumers n)) in
    exclusive_off r t facts stands q p here e is n a (λ both.
    false_true (sym (sym (c.has_more.ensures _ t a.v p facts stands k_kept here stays) ∙ c.if-has_more.false) ∙ both.1))
