-- The tables of every run keep the laws.
use Rattle.hc_effects.proofs.Vocabulary.{Lawful, OfRuns}
use Rattle.hc_laws.proofs.{AloneRuns.{alone_in_runs}, GivenRuns.{given_in_runs}, GrowingRuns.{growing_in_runs}, InRuns.{one_key_in_runs}, OrderRuns.{order_in_runs}, PassedRuns.{passed_in_runs}, PlaceRuns.{places_in_runs, endings_in_runs}, SoundRuns.{owners_in_runs, runs_are_sound}, WhoseRuns.{whose_in_runs}}

pub lawful_in_runs : OfRuns Lawful
lawful_in_runs limits contents h may run = record {
  sound = runs_are_sound limits contents h may run;
  owned = owners_in_runs limits contents h may run;
  places = places_in_runs limits contents h may run;
  passed = passed_in_runs limits contents h may run;
  order = order_in_runs limits contents h may run;
  whose = whose_in_runs limits contents h may run;
  endings = endings_in_runs limits contents h may run;
  given = given_in_runs limits contents h may run;
  growing = growing_in_runs limits contents h may run;
  alone = alone_in_runs limits contents h may run;
  keyed = one_key_in_runs limits contents h may run;
}
