-- What a session sends (HAProxy, doc/peers-v2.0.txt, "Control Messages").
use Rattle.std.specs.Prelude.{ℕ, Bool, false, List, [], ◌∷◌, ◌++◌, codes, map}
use Rattle.std.specs.Fmt.{decimal}
use Rattle.std.specs.List.{list_any}
use Rattle.peers_msg.specs.declared.control.Control.{Control}
use Rattle.peers_msg.specs.declared.control.Control.TheVariants as controls
use Rattle.peers_msg.specs.declared.message.Message.{Message}
use Rattle.peers_msg.specs.Spelling.{control_type, stream_of}
use Rattle.peers_hello.specs.Lines.{is_same}
use Rattle.session_core.specs.declared.share.Share.{Share}
use Rattle.session_core.specs.declared.action.Action.{Action}
use Rattle.session_core.specs.declared.action.Action.TheVariants as actions

-- the bytes of a control message
abbrev pub control_text : Control → List ℕ
control_text control = 0 ∷ (control_type control ∷ [])

abbrev pub sends_control : Control → Action
sends_control control = actions.Send (control_text control)

-- a status line: its code in digits, and LF
abbrev pub status_text : ℕ → List ℕ
status_text code = decimal code ++ codes "\n"

-- one Send of the acknowledgements that are due, if there are any
abbrev pub sends_acks : List Message → List Action
sends_acks [] = []
sends_acks (m ∷ ms) = actions.Send (stream_of (m ∷ ms)) ∷ []

-- a Reopen for each table, in roster order
abbrev pub reopens : List Share → List Action
reopens ss = map (λ s. actions.Reopen s.table) ss

-- ---- what was sent

abbrev pub is_heartbeat : Action → Bool
is_heartbeat (actions.Send bytes) = is_same bytes (control_text controls.Heartbeat)
is_heartbeat action = false

abbrev pub is_confirmation : Action → Bool
is_confirmation (actions.Send bytes) = is_same bytes (control_text controls.ResyncConfirmed)
is_confirmation action = false

-- one of the actions sends resync confirmed
abbrev pub confirms : List Action → Bool
confirms acts = list_any is_confirmation acts
