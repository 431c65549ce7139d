use Rattle.std.{proofs.Common.{◌≡◌, ℕ, Option, Some, not, refl, ap, sym, ◌∙◌, subst}, specs.Prelude.{option_map}}
use Rattle.hc_record.specs.Plain.{plain}
use Rattle.hc_stored.specs.{Entries.{shelf_of}, Kept.{founded_kept}, Shelf.{Becomes, first_in}}
use Rattle.hc_exch.specs.{Exchanges.{table_of}, Openings.{opened_with}}
use Rattle.hc_state.specs.Founding.{writer_by}
use Rattle.hc_on_head.proofs.{FoundSlot.{brings_founded, current_of}, found.found_with.Goals.{then-shared, else-shared}}
use Rattle.hc_on_head.proofs.found.found_with.Goals as goal

pub returns-clause-ok : goal.returns-clause-ok
returns-clause-ok g c =
    let r = c.args.rows.now in
    let x = c.args.heard.x in
    let f = c.args.founding in
    let writer_is : c.if-shared.writer ≡ writer_by f.shared x = elim c.if-shared.branch [
      | then-shared w ↦ w.writer-is ∙ sym (ap (λ b. writer_by b x) w.if-shared.true)
      | else-shared w ↦ w.writer-is ∙ sym (ap (λ b. writer_by b x) w.if-shared.false)
    ] in
    record {
      last_start = refl;
      consumers = c.read_founded.ensures;
      exchanges = brings_founded x c.args.response.now r.exchanges c.turn_into.new.self c.head.new.self c.turn_into.ensures c.requires.good c.head.ensures.good;
      keys = current_of c.unwrap-opening.result (table_of r.exchanges x).running x r.keys c.make_current.new.self
          (sym (ap (option_map opened_with) c.unwrap-opening.ensures) ∙ c.opening.ensures) c.in_ok-make_current.ensures.ok;
      entries = subst (λ (n : Option ℕ). Becomes (λ _. Some (founded_kept f.key (plain f.head) c.args.heard.c (not f.shared) n)) (first_in x) x
          (shelf_of r.entries) (shelf_of c.found.new.self)) writer_is c.in_ok-found.ensures.ok;
    }
