use Rattle.std.specs.Prelude.{codes}
use Rattle.hc_fields.specs.FirstValues.{elements_in}
use Rattle.hc_cachectl.proofs.{Caps.{capped}, Folds.{said_is}}
use Rattle.hc_cachectl.proofs.directives.read_response.Goals as goal

pub returns : goal.returns
returns c =
    let es = elements_in (codes "cache-control") c.args.fields.now in
    record {
      value = rw (c.directives.ensures, c.find.ensures) (said_is es);
      capped = rw (c.directives.ensures, c.find.ensures, said_is es) (capped es);
    }
