-- What a session that stays counts of what it asks for: the rows to learn and to teach, and the heartbeats and the ends of resyncs to send.
use Rattle.std.specs.Prelude.{ℕ, ◌+◌, ◌-◌, ◌^◌, min, List, [], ◌∷◌, length, if◌then◌else◌}
use Rattle.session_core.specs.declared.action.Action.{Action}
use Rattle.session_core.specs.declared.action.Action.TheVariants as actions
use Rattle.session_core.specs.declared.counts.Counts.{Counts}
use Rattle.session_core.specs.Actions.{is_heartbeat}
use Rattle.session_core.specs.HeardCounts.{one_more}
use Rattle.session_core.specs.Manners.{Manner}
use Rattle.session_core.specs.Manners as manners
use Rattle.session_core.specs.Runs.{is_end}

-- before anything
abbrev pub none_asked : Counts
none_asked = record { learned = 0; taught = 0; heartbeats = 0; resyncs = 0 }

-- a count that is full stays as it is
abbrev pub many_more : ℕ → ℕ → ℕ
many_more more n = min (n + more) (2 ^ 64 - 1)

-- these bytes are to be sent
abbrev pub sent_counted : List ℕ → Counts → Counts
sent_counted bytes n =
    if is_heartbeat (actions.Send bytes) then record n { heartbeats = one_more n.heartbeats }
    else (if is_end (actions.Send bytes) then record n { resyncs = one_more n.resyncs } else n)

abbrev pub action_counted : Action → Counts → Counts
action_counted (actions.Learn update) n = record n { learned = one_more n.learned }
action_counted (actions.Teach batch) n = record n { taught = many_more (length batch) n.taught }
action_counted (actions.Send bytes) n = sent_counted bytes n
action_counted action n = n

-- these actions are asked for
abbrev pub all_asked : List Action → Counts → Counts
all_asked [] n = n
all_asked (action ∷ acts) n = all_asked acts (action_counted action n)

-- a plain session counts nothing
abbrev pub asked_as : Manner → List Action → Counts → Counts
asked_as manners.Plain acts n = n
asked_as (manners.Staying p) acts n = all_asked acts n
