use Rattle.hc_rules.proofs.RangeReads.{content_range_in-read}
use Rattle.hc_rules.proofs.range_text.content_range_in.Goals as goal

pub returns-clause-value : goal.returns-clause-value
returns-clause-value c =
    content_range_in-read c.args.text.now c.read_content_range.result c.read_content_range.ensures.found c.read_content_range.ensures.spelled
