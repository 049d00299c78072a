-- What a node reports of itself and its peers (profile).
use Rattle.std.specs.Prelude.{◌++◌, ℕ, Bool, true, false, List, [], ◌∷◌, Option, Some, None, codes, flat_map}
use Rattle.std.specs.Fmt.{decimal}
use Rattle.node_text.specs.Numbers.{number_or_dash}
use Rattle.node_core.specs.declared.differences.Difference.{Difference}
use Rattle.node_core.specs.declared.differences.Difference.TheVariants as differences
use Rattle.node_core.specs.declared.last_errors.LastError.{LastError}
use Rattle.node_core.specs.declared.last_errors.LastError.TheVariants as errors
use Rattle.node_text.specs.Versions.{version_name}
use Rattle.node_core.specs.SessionEnds.{end_name}
use Rattle.node_core.specs.declared.session_ends.SessionEnd.{SessionEnd}
use Rattle.table_types.specs.declared.version.Version.{Version}
use Rattle.admin_port.specs.TableNames.{shown_name}
use Rattle.admin_port.specs.declared.reports.PeerState.{PeerState}
use Rattle.admin_port.specs.declared.reports.PeerState.TheVariants as states
use Rattle.admin_port.specs.declared.reports.PeerRole.{PeerRole}
use Rattle.admin_port.specs.declared.reports.PeerRole.TheVariants as roles
use Rattle.admin_port.specs.declared.reports.PeerReport.{PeerReport}
use Rattle.admin_port.specs.declared.reports.PeerTableReport.{PeerTableReport}

-- ---- words

abbrev pub yes_or_no : Bool → List ℕ
yes_or_no true = codes "yes"
yes_or_no false = codes "no"

abbrev pub state_name : PeerState → List ℕ
state_name states.Down = codes "down"
state_name states.Asking = codes "asking"
state_name states.Ready = codes "ready"
state_name states.Teaching = codes "teaching"

-- the end that connected, or `-` without a session
abbrev pub role_text : Option PeerRole → List ℕ
role_text (Some roles.Connect) = codes "connect"
role_text (Some roles.Accept) = codes "accept"
role_text None = codes "-"

-- why the last session ended, or `-` if none did
abbrev pub end_text : Option SessionEnd → List ℕ
end_text None = codes "-"
end_text (Some end) = end_name end

-- the version that the session speaks, or `-` without a session
abbrev pub version_text : Option Version → List ℕ
version_text None = codes "-"
version_text (Some version) = version_name version

-- why there is no session, with the status of a refusal, or `-` if no attempt showed it
abbrev pub last_error_text : Option LastError → List ℕ
last_error_text None = codes "-"
last_error_text (Some errors.Unreachable) = codes "unreachable"
last_error_text (Some (errors.Refused status)) = codes "refused-" ++ decimal status
last_error_text (Some (errors.HelloRefused status)) = codes "hello-refused-" ++ decimal status

abbrev pub difference_name : Difference → List ℕ
difference_name differences.Kind = codes "kind"
difference_name differences.Length = codes "length"
difference_name differences.Types = codes "types"
difference_name differences.Period = codes "period"

-- what the peer defines otherwise, or `-` if nothing
abbrev pub difference_text : Option Difference → List ℕ
difference_text None = codes "-"
difference_text (Some difference) = difference_name difference

-- ---- lines

-- the node's name, the moment, and whether it is up to date
unfoldable pub node_line : List ℕ → ℕ → Bool → List ℕ
node_line name now up_to_date =
    codes "node " ++ (name ++ (codes " moment=" ++ (decimal now ++ (codes " up_to_date=" ++ (yes_or_no up_to_date ++ 10 ∷ [])))))

-- the numbers of a peer
unfoldable pub counts_text : PeerReport → List ℕ
counts_text p =
    codes " since=" ++ (decimal p.since ++ (codes " sessions=" ++ (decimal p.sessions
    ++ (codes " heartbeats_sent=" ++ (decimal p.heartbeats_sent ++ (codes " heartbeats_received=" ++ (decimal p.heartbeats_received
    ++ (codes " faults=" ++ decimal p.faults))))))))

-- why the last session with a peer ended, and the version that the present one speaks
unfoldable pub end_and_version_text : PeerReport → List ℕ
end_and_version_text p =
    codes " last_end=" ++ (end_text p.last_end ++ (codes " version=" ++ version_text p.version))

-- how many tables a peer defines otherwise, how many of its tables the node lacks, and how many of the node's it hasn't defined
unfoldable pub unlike_text : PeerReport → List ℕ
unlike_text p =
    codes " mismatched=" ++ (decimal p.mismatched ++ (codes " unshared=" ++ (decimal p.unshared
    ++ (codes " undefined=" ++ decimal p.undefined))))

-- why there is no session with a peer, how many rows it lacks, and how many tables aren't shared
unfoldable pub troubles_text : PeerReport → List ℕ
troubles_text p =
    codes " last_error=" ++ (last_error_text p.last_error ++ (codes " lag=" ++ (decimal p.lag ++ unlike_text p)))

-- what stands behind the numbers of a peer
unfoldable pub present_text : PeerReport → List ℕ
present_text p = end_and_version_text p ++ troubles_text p

-- the line of a peer
unfoldable pub peer_line : PeerReport → List ℕ
peer_line p =
    codes "peer " ++ (p.name.now ++ (codes " state=" ++ (state_name p.state ++ (codes " role=" ++ (role_text p.role
    ++ (counts_text p ++ (present_text p ++ 10 ∷ [])))))))

-- the numbers of a table in a session
unfoldable pub numbers_text : PeerTableReport → List ℕ
numbers_text t =
    codes " taught=" ++ (decimal t.taught ++ (codes " acknowledged=" ++ (decimal t.acknowledged
    ++ (codes " received=" ++ number_or_dash t.received))))

-- whether a table was left, and what of it the peer defines otherwise
unfoldable pub left_and_mismatch_text : PeerTableReport → List ℕ
left_and_mismatch_text t = codes " left=" ++ (yes_or_no t.left ++ (codes " mismatch=" ++ difference_text t.mismatch))

-- the line of a table in the session with a peer
unfoldable pub table_line : Option (List ℕ) → List ℕ → PeerTableReport → List ℕ
table_line section peer t =
    codes "table " ++ (peer ++ (codes " " ++ (shown_name section t.table.now.name ++ (numbers_text t
    ++ (left_and_mismatch_text t ++ 10 ∷ [])))))

-- the line of a peer, and those of the tables of its session
unfoldable pub peer_lines : Option (List ℕ) → PeerReport → List ℕ
peer_lines section p = peer_line p ++ flat_map (table_line section p.name.now) p.tables.items
