use Rattle.std.{proofs.Common.{ℕ, List, ◌∙◌, ap, bytes_eq, nat_eq}, specs.{Prelude.{◌||◌, ◌==◌}, List.{list_any}, HashSet.{contains, contains_by}}}
use Rattle.hc_sparse.specs.declared.run.Run.{Run}
use Rattle.hc_contents.specs.PlainContents.{plain_item}
use Rattle.hc_contents.proofs.Knowing.{key_added, said_more}
use Rattle.hc_contents.proofs.seen.Seen.add.Goals as goal

pub returns : goal.returns
returns c = λ earlier items knows.
    let key : List ℕ = c.args.item.now.key in
    record {
      keys = λ k.
          key_added c.args.self.now.keys c.insert.new.self c.key.inside.bytes c.in_ok-insert.field-0 c.in_ok-insert.ensures.added c.in_ok-insert.ensures.keys k
          ∙ ap (λ (items : List ℕ). bytes_eq items k || contains_by (λ stored. bytes_eq k stored.items) c.args.self.now.keys)
          (c.key.view_is ∙ c.in_ok-key.ensures)
          ∙ ap (λ b. bytes_eq key k || b) (knows.keys k);
      said = λ x. said_more (plain_item c.args.item.now) earlier x _ _ _ (knows.said x) (c.in_ok-insert-2.ensures.updates.0 x)
          (c.in_ok-say_runs.ensures x
          ∙ ap (λ (runs : List Run). list_any (λ (run : Run). run.x == x) runs || contains nat_eq c.insert-2.new.self x) c.as_slice.ensures);
      last = knows.last;
    }
