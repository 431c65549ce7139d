-- An entry leaves what is of other keys, and keeps what is of one key so.
use Rattle.hc_laws.proofs.{InRuns.{keys_in_runs, one_key_in_runs}, OpenKeys.{open_keys_in_runs}, KeysPlaces.{keys_are_kept, keys_begin}, OneKey.{law_of_one_key}}
use Rattle.hc_laws.proofs.laws.other_keys_stay.Goals as goal

pub returns-clause-law : goal.returns-clause-law
returns-clause-law c = law_of_one_key

pub returns-clause-kept : goal.returns-clause-kept
returns-clause-kept c = keys_are_kept

pub returns-clause-begin : goal.returns-clause-begin
returns-clause-begin c = keys_begin

pub returns-clause-runs : goal.returns-clause-runs
returns-clause-runs c = keys_in_runs

pub returns-clause-one : goal.returns-clause-one
returns-clause-one c = one_key_in_runs

pub returns-clause-opened : goal.returns-clause-opened
returns-clause-opened c = open_keys_in_runs
