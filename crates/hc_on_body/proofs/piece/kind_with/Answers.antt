use Rattle.std.{proofs.Common.{◌≡◌, ◌+◌, ◌≤◌, ◌^◌, false, ap, sym, ◌∙◌, arith}, specs.Prelude.{option_map}}
use Rattle.hc_text.proofs.Basics.{some_inj as some_is}
use Rattle.hc_stored.specs.{declared.view.EntryView.{EntryView}, Entries.{shelf_of}, Views.{view_of}}
use Rattle.hc_effects.proofs.Vocabulary.{is_complete}
use Rattle.hc_on_leave.proofs.PieceKinds.{complete_with, incomplete_with, front_with, is_whole, is_truncated, is_parts, entry_small, none_reported}
use Rattle.hc_on_body.proofs.piece.kind_with.Goals as goal
use Rattle.hc_on_body.proofs.piece.kind_with.Goals.{in-Some+else-covers_with, in_default}

pub returns-then-covers_with : goal.returns-then-covers_with
returns-then-covers_with g c = λ x bytes v k same kept reported.
    let s = shelf_of c.args.rows.now.entries in
    let entry_is : c.unwrap-entry.result ≡ view_of k =
    some_is c.unwrap-entry.result (view_of k) (sym c.unwrap-entry.ensures ∙ (c.entry.ensures ∙ ap (option_map view_of) kept)) in
    is_whole v (sym (complete_with s c.args.r c.args.at x c.args.count bytes v k same kept reported c.covers_with.result c.in-Some.total
    (ap (λ (e : EntryView). e.total) (sym entry_is) ∙ c.in-Some.is) c.covers_with.ensures) ∙ c.if-covers_with.true)

pub overflow_add-entry : goal.overflow_add-entry
overflow_add-entry g c =
    let most : c.unwrap-entry.result.size ≤ 2 ^ 62 = entry_small _ c.unwrap-entry.result (sym c.entry.ensures ∙ c.unwrap-entry.ensures) in
    let end = c.requires.place.end in
    omega (arith, most, end)

pub returns-then-covers_with-2 : goal.returns-then-covers_with-2
returns-then-covers_with-2 g c = λ x bytes v k same kept reported.
    let s = shelf_of c.args.rows.now.entries in
    let entry_is : c.unwrap-entry.result ≡ view_of k =
    some_is c.unwrap-entry.result (view_of k) (sym c.unwrap-entry.ensures ∙ (c.entry.ensures ∙ ap (option_map view_of) kept)) in
    let incomplete : is_complete v ≡ false = elim c.match-entry.branch [
      | in-Some+else-covers_with w ↦ sym
          (complete_with s c.args.r c.args.at x c.args.count bytes v k same kept reported w.covers_with.result w.in-Some.total
          (ap (λ (e : EntryView). e.total) (sym entry_is) ∙ w.in-Some.is) w.covers_with.ensures) ∙ w.if-covers_with.false
      | in_default w ↦ sym (incomplete_with s c.args.r c.args.at x c.args.count bytes v k same kept reported
          (ap (λ (e : EntryView). e.total) (sym entry_is) ∙ none_reported c.unwrap-entry.result.total w.in_default.not-Some))
    ] in
    let some = c.requires.place.some in
    is_truncated v incomplete
    (sym (front_with s c.args.r c.args.at x c.args.count bytes v k same kept reported c.covers_with-2.result (c.unwrap-entry.result.size + c.args.count)
    (omega (arith, some)) (ap (λ (e : EntryView). e.size + c.args.count) entry_is) c.covers_with-2.ensures) ∙ c.if-covers_with-2.true)

pub returns-else-covers_with-2 : goal.returns-else-covers_with-2
returns-else-covers_with-2 g c = λ x bytes v k same kept reported.
    let s = shelf_of c.args.rows.now.entries in
    let entry_is : c.unwrap-entry.result ≡ view_of k =
    some_is c.unwrap-entry.result (view_of k) (sym c.unwrap-entry.ensures ∙ (c.entry.ensures ∙ ap (option_map view_of) kept)) in
    let incomplete : is_complete v ≡ false = elim c.match-entry.branch [
      | in-Some+else-covers_with w ↦ sym
          (complete_with s c.args.r c.args.at x c.args.count bytes v k same kept reported w.covers_with.result w.in-Some.total
          (ap (λ (e : EntryView). e.total) (sym entry_is) ∙ w.in-Some.is) w.covers_with.ensures) ∙ w.if-covers_with.false
      | in_default w ↦ sym (incomplete_with s c.args.r c.args.at x c.args.count bytes v k same kept reported
          (ap (λ (e : EntryView). e.total) (sym entry_is) ∙ none_reported c.unwrap-entry.result.total w.in_default.not-Some))
    ] in
    let some = c.requires.place.some in
    is_parts v incomplete (sym
    (front_with s c.args.r c.args.at x c.args.count bytes v k same kept reported c.covers_with-2.result (c.unwrap-entry.result.size + c.args.count)
    (omega (arith, some)) (ap (λ (e : EntryView). e.size + c.args.count) entry_is) c.covers_with-2.ensures) ∙ c.if-covers_with-2.false)
