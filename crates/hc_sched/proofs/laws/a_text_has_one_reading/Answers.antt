use Rattle.hc_sched.proofs.{FeedLemmas.{after-append, events_in-append}, OneReading.{is_read, is_spelled, one_spelling, stays_refused, brings_items, brings_all, brings_timed}}
use Rattle.hc_sched.proofs.laws.a_text_has_one_reading.Goals as goal

pub returns-clause-spelled : goal.returns-clause-spelled
returns-clause-spelled c = is_read

pub returns-clause-read : goal.returns-clause-read
returns-clause-read c = is_spelled

pub returns-clause-one : goal.returns-clause-one
returns-clause-one c = one_spelling

pub returns-clause-stays : goal.returns-clause-stays
returns-clause-stays c = stays_refused

pub returns-clause-pieces : goal.returns-clause-pieces
returns-clause-pieces c = λ s xs ys. (after-append s xs ys, events_in-append s xs ys)

pub returns-clause-items : goal.returns-clause-items
returns-clause-items c = brings_items

pub returns-clause-all : goal.returns-clause-all
returns-clause-all c = brings_all

pub returns-clause-timed : goal.returns-clause-timed
returns-clause-timed c = brings_timed
