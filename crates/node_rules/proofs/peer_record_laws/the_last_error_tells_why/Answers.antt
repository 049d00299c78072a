use Rattle.node_core.specs.declared.last_errors.LastError.TheVariants as errors
use Rattle.std.proofs.Common.{Some}
use Rattle.node_rules.specs.PeerRecords.{error_after}
use Rattle.node_rules.specs.PeerRuns.{after_all}
use Rattle.node_rules.proofs.ErrorsTold.{calm_after, known_then}
use Rattle.node_rules.proofs.peer_record_laws.the_last_error_tells_why.Goals as goal

pub returns-clause-none : goal.returns-clause-none
returns-clause-none c = calm_after

pub returns-clause-failed : goal.returns-clause-failed
returns-clause-failed c = λ hs failure down. known_then (error_after failure) (record (after_all hs) { reaching = record (after_all hs).reaching { failure = Some failure } }) down

pub returns-clause-refused : goal.returns-clause-refused
returns-clause-refused c = λ hs status down. known_then (errors.HelloRefused status) (record (after_all hs) { reaching = record (after_all hs).reaching { refusal = Some status } }) down
