use Rattle.std.proofs.{Common.{◌≡◌, [], ◌++◌, length, take, drop, sym, ap, ◌∙◌}, lemmas.List.{append-nil, take-append-drop, length-take-le}}
use Rattle.hc_image.specs.Readings.{IsReadFrom}
use Rattle.hc_handle.proofs.picture.read_whole.Goals as goal

pub returns-in_default-clause-unread : goal.returns-in_default-clause-unread
returns-in_default-clause-unread c =
    λ contents spells. (rw c.in_default.is at c.in_ok-image.ensures.none) contents c.args.text.now [] spells (append-nil c.args.text.now)

pub returns-then-image-text-clause-unread : goal.returns-then-image-text-clause-unread
returns-then-image-text-clause-unread c = λ contents spells.
    let text = c.args.text.now in
    let used = c.in-Some.image.used in
    let from : IsReadFrom text c.in-Some.image = rw c.in-Some.is at c.in_ok-image.ensures.found in
    let none : drop used text ≡ [] =
    c.images_spell_contents_apart.ensures.no_parts (take used text) (drop used text) _ contents from.spells (rw (take-append-drop used text) spells) in
    let whole : take used text ≡ text = sym (append-nil (take used text)) ∙ (ap (λ l. take used text ++ l) (sym none) ∙ take-append-drop used text) in
    let same : used ≡ length text = sym (length-take-le used text from.within) ∙ ap length whole in
    c.if-image-text.true same
