use Rattle.known_state.proofs.BuiltAsGiven.{built_tables, built_last_numbers}
use Rattle.known_state.proofs.laws.what_is_built.Goals as goal

pub returns-clause-tables : goal.returns-clause-tables
returns-clause-tables c = built_tables

pub returns-clause-last_numbers : goal.returns-clause-last_numbers
returns-clause-last_numbers c = built_last_numbers
