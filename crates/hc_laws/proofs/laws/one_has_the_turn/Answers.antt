-- One has the turn, and what shows this is kept.
use Rattle.hc_laws.proofs.{InRuns.{turns_in_runs}, TurnsKeep.{turns_are_one, turns_are_kept, turns_begin}}
use Rattle.hc_laws.proofs.laws.one_has_the_turn.Goals as goal

pub returns-clause-one : goal.returns-clause-one
returns-clause-one c = turns_are_one

pub returns-clause-kept : goal.returns-clause-kept
returns-clause-kept c = turns_are_kept

pub returns-clause-begin : goal.returns-clause-begin
returns-clause-begin c = turns_begin

pub returns-clause-runs : goal.returns-clause-runs
returns-clause-runs c = turns_in_runs
