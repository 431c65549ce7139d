use Rattle.std.{proofs.Common.{refl}, specs.Prelude.{codes}}
use Rattle.hc_fields.specs.FirstValues.{elements_in}
use Rattle.hc_cachectl.proofs.Folds.{found_no_cache}
use Rattle.hc_cachectl.proofs.directives.has_pragma.Goals as goal

pub returns-then-has_field : goal.returns-then-has_field
returns-then-has_field c =
    rw (c.find.ensures, found_no_cache (elements_in (codes "pragma") c.args.fields.now)) refl
