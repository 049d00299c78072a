-- Why a session ended.
use Rattle.std.specs.Prelude.{ℕ, Bool, true, false, not, ◌&&◌, ◌||◌, List, [], ◌∷◌, if◌then◌else◌, length, nat_le, Option, None, Some}
use Rattle.peers_engine.specs.declared.errors.EngineError.{EngineError}
use Rattle.peers_engine.specs.declared.errors.EngineError.TheVariants as errors
use Rattle.peers_hello.specs.Statuses.{status_of}
use Rattle.peers_hello.specs.declared.status.Status.{Status}
use Rattle.peers_hello.specs.declared.status.Status.TheVariants.{Code, Other, More}
use Rattle.node_core.specs.declared.reaching.NoSession.{NoSession}
use Rattle.node_core.specs.declared.reaching.NoSession.TheVariants as causes
use Rattle.node_core.specs.declared.session_ends.SessionEnd.{SessionEnd}
use Rattle.node_core.specs.declared.session_ends.SessionEnd.TheVariants as ends

-- A session that closed: the peer's messages had a fault, or its bytes ended. Otherwise the peer sent an error message or refused the node.
abbrev pub end_of_closed : Bool → Bool → SessionEnd
end_of_closed true over = ends.Fault
end_of_closed false true = ends.End
end_of_closed false false = ends.Error

-- a session that an error ended: a read or a write failed, or the node couldn't go on
abbrev pub end_of_error : EngineError → SessionEnd
end_of_error errors.Read = ends.Device
end_of_error (errors.Write sent) = ends.Device
end_of_error (errors.Session error) = ends.Error
end_of_error errors.Memory = ends.Error
end_of_error errors.Strange = ends.Error

-- a read failed, which brought nothing
abbrev pub is_failed_read : EngineError → Bool
is_failed_read errors.Read = true
is_failed_read (errors.Write sent) = false
is_failed_read (errors.Session error) = false
is_failed_read errors.Memory = false
is_failed_read errors.Strange = false

-- No error ended the session, or that of a read, so all was done that what came asks for. After any other error it counts the end of a
-- resync all the same, also if rows weren't learned that came before it.
abbrev pub has_done_all : Option EngineError → Bool
has_done_all None = true
has_done_all (Some error) = is_failed_read error

-- ---- a connection that came to no session

-- no status begins so, which is three digits and LF, or CR and LF: the first byte is no digit (48 to 57), or five bytes have no LF
abbrev pub begins_no_status : List ℕ → Bool
begins_no_status [] = false
begins_no_status (byte ∷ rest) = not (nat_le 48 byte && nat_le byte 57) || nat_le 4 (length rest)

-- nothing came that says why
abbrev pub silent_cause : SessionEnd → NoSession
silent_cause ends.End = causes.Closed
silent_cause ends.Silent = causes.Silent
silent_cause ends.Device = causes.Device
silent_cause ends.Fault = causes.Lacking
silent_cause ends.Replaced = causes.Lacking
silent_cause ends.Error = causes.Lacking

abbrev pub cause_by : Status → Bool → SessionEnd → NoSession
cause_by (Code code used) strange end = causes.AtOnce
cause_by (Other used) strange end = causes.Strange
cause_by More strange end = if strange then causes.Strange else silent_cause end

-- Why it came to none, given how it ended and what came first on it: the peer took the hello, or something else came, or nothing did.
abbrev pub cause_of : SessionEnd → List ℕ → NoSession
cause_of end head = cause_by (status_of head) (begins_no_status head) end
