-- Whether a peer has answered when it was asked for all rows, over its sessions, and so whether it is asked on the next one.
use Rattle.std.specs.Prelude.{ℕ, Bool, true, false, not, ◌&&◌, ◌||◌, nat_le, if◌then◌else◌}
use Rattle.node_core.specs.declared.events.ResyncEnd.{ResyncEnd}
use Rattle.node_core.specs.declared.events.ResyncEnd.TheVariants as ends
use Rattle.node_core.specs.declared.processes.Process.{Process}
use Rattle.node_core.specs.declared.processes.Process.TheVariants as processes
use Rattle.node_rules.specs.declared.answers.Answers.{Answers}

abbrev pub never_asked : Answers
never_asked = record { ever_answered = false; may_be_new = false }

abbrev is_same : Process → Bool
is_same processes.Same = true
is_same processes.New = false
is_same processes.Unknown = false

-- A peer whose hello says its pid may be another process than before unless it is the same pid. One that says none may be if it was away for
-- a minute at most, as one is that starts again.
abbrev pub is_maybe_new : Bool → Process → ℕ → Bool
is_maybe_new says_pid process away = if says_pid then not (is_same process) else nat_le away 60000

-- a session with the peer begins
abbrev pub begun : Bool → Process → ℕ → Answers → Answers
begun says_pid process away a = record a { may_be_new = a.may_be_new || is_maybe_new says_pid process away }

-- a resync that the peer was asked for is over: it has answered, unless its session ended before
abbrev pub answered : ResyncEnd → Answers → Answers
answered ends.Broken a = a
answered ends.Finished a = record { ever_answered = true; may_be_new = false }
answered ends.Incomplete a = record { ever_answered = true; may_be_new = false }
answered ends.Partial a = record { ever_answered = true; may_be_new = false }

-- A node that isn't up to date asks each peer on its session. One that is asks a peer that never answered. If a peer has shown that it doesn't
-- define all tables as the node does (`incomplete`), it also asks one that may be another process than the one that answered, and one once
-- it has defined all tables as the node does.
abbrev pub is_asked_on : Bool → Bool → Bool → Answers → Bool
is_asked_on up_to_date incomplete alike a = not up_to_date || (not a.ever_answered || (incomplete && (a.may_be_new || alike)))
