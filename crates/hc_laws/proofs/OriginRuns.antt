-- In every run a number names the bytes of one body alone.
use Rattle.hc_effects.proofs.Vocabulary.{OfRuns, Origins}
use Rattle.hc_laws.proofs.{OriginsBegin.{origins_begin}, OriginsKeep.{origins_kept, denied_origins}, RunFacts.{in_runs}}
use Rattle.hc_effects.proofs.Step.{step_of}

pub origins_in_runs : OfRuns Origins
origins_in_runs = in_runs (λ limits t. Origins t) (λ limits contents may. origins_begin limits contents may) (λ limits t e later g. denied_origins t e g)
    (λ limits t now flaw later c g ev goes real. origins_kept (step_of limits t now flaw c.is_sound c.is_owned ev goes) c.is_measured g)
