use Rattle.hc_rules.proofs.RangeReads.{asked_in-some, asked_in-spelled, content_range_in-some, content_range_in-spelled}
use Rattle.hc_etag.proofs.TagReads.{strong_in-some, strong_in-spelled}
use Rattle.hc_rules.proofs.laws.texts_are_spelled.Goals as goal

pub returns-clause-ranges : goal.returns-clause-ranges
returns-clause-ranges c = λ text asked. (asked_in-some text asked, asked_in-spelled text asked)

pub returns-clause-parts : goal.returns-clause-parts
returns-clause-parts c = λ text range. (content_range_in-some text range, content_range_in-spelled text range)

pub returns-clause-tags : goal.returns-clause-tags
returns-clause-tags c = λ text opaque. (strong_in-some text opaque, strong_in-spelled text opaque)
