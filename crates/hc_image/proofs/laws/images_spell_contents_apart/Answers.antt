use Rattle.std.proofs.{Common.{refl, sym, ◌++◌, []}, lemmas.List.{append-nil}}
use Rattle.hc_image.proofs.{Once.{image_once}, Written.{image_written}}
use Rattle.hc_image.proofs.laws.images_spell_contents_apart.Goals as goal

pub returns-clause-apart : goal.returns-clause-apart
returns-clause-apart c = λ image a b spells_a spells_b. (image_once image image a b [] [] spells_a spells_b refl).0

pub returns-clause-no_parts : goal.returns-clause-no_parts
returns-clause-no_parts c = λ image rest a b spells_a spells_b.
    (image_once image (image ++ rest) a b rest [] spells_a spells_b (sym (append-nil _))).1

pub returns-clause-written : goal.returns-clause-written
returns-clause-written c = λ contents has. image_written contents has
