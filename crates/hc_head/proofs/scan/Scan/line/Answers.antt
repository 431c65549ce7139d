use Rattle.std.proofs.Common.{sym}
use Rattle.hc_head.proofs.ScanLemmas.{long_line}
use Rattle.hc_head.proofs.scan.Scan.line.Goals as goal

pub returns-in_default-clause-value : goal.returns-in_default-clause-value
returns-in_default-clause-value c = sym (long_line c.args.self c.args.bytes.now c.in_default.len_at_least c.requires.open c.requires.line)
