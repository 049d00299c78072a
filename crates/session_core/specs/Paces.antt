-- The times of a session that stays, and how far the remote peer has acknowledged what it was taught (HAProxy,
-- doc/peers-v2.0.txt, "Acknowledgement Messages" and "Control Messages"; the times are this node's own).
use Rattle.std.specs.Prelude.{ℕ, ◌-◌, Bool, true, false, ◌==◌, ◌&&◌, nat_le, nat_lt, List, [], ◌∷◌, length, map, slice_get, Option, Some, None, is_none, if◌then◌else◌}
use Rattle.std.specs.List.{list_any}
use Rattle.table_types.specs.Tables.{Definition}
use Rattle.table_types.specs.Updates.{stores_name}
use Rattle.table_types.specs.declared.update.Update.{Update}
use Rattle.session_core.specs.declared.action.Action.{Action}
use Rattle.session_core.specs.declared.action.Action.TheVariants as actions
use Rattle.session_core.specs.declared.progress.Progress.{Progress}
use Rattle.session_core.specs.declared.share.Share.{Share}

-- ---- times, in milliseconds

-- from the last byte sent to a heartbeat
abbrev pub heartbeat_time : ℕ
heartbeat_time = 3000

-- from the last byte received to the end of the session
abbrev pub silence_time : ℕ
silence_time = 10000

-- from the copy of a batch to the end of the wait for its acknowledgement, if the remote peer has never acknowledged its
-- table: the table is left then
abbrev pub leaving_time : ℕ
leaving_time = 2000

-- from the opening of the session to its first push
abbrev pub push_time : ℕ
push_time = 300

-- from the beginning of one resync to that of the next
abbrev pub resync_time : ℕ
resync_time = 1000

-- at the moment `now`, `time` has passed since the moment `since`
abbrev pub has_passed : ℕ → ℕ → ℕ → Bool
has_passed time since now = nat_le time (now - since)

-- ---- progress

-- nothing is taught yet
abbrev pub progress_of : ℕ → List Definition → List Progress
progress_of now roster = map (λ d. record { table = d.id; names = stores_name d; last = 0; since = now; greatest = 0; acknowledged = None; ahead = false; received = None; left = false }) roster

-- the number of a batch: that of its last update
abbrev pub number_of : Option Update → ℕ
number_of None = 0
number_of (Some u) = u.number

abbrev pub last_number : List Update → ℕ
last_number batch = number_of (slice_get batch (length batch - 1))

abbrev pub larger : ℕ → ℕ → ℕ
larger a b = if nat_lt a b then b else a

-- a batch with this number was copied from `table`
abbrev pub with_copy : ℕ → ℕ → Progress → Progress
with_copy number now p = record { table = p.table; names = p.names; last = number; since = now; greatest = larger p.greatest number; acknowledged = p.acknowledged; ahead = p.ahead; received = p.received; left = p.left }

abbrev pub copied_in : ℕ → ℕ → ℕ → List Progress → List Progress
copied_in table number now ps = map (λ p. if p.table == table then with_copy number now p else p) ps

-- The remote peer acknowledged `number`. A number above every one that it was taught on this connection is ahead.
abbrev pub with_ack : ℕ → Progress → Progress
with_ack number p =
    if nat_le number p.greatest
    then record { table = p.table; names = p.names; last = p.last; since = p.since; greatest = p.greatest; acknowledged = Some number; ahead = p.ahead; received = p.received; left = p.left }
    else record { table = p.table; names = p.names; last = p.last; since = p.since; greatest = p.greatest; acknowledged = p.acknowledged; ahead = true; received = p.received; left = p.left }

abbrev pub acknowledged_in : ℕ → ℕ → List Progress → List Progress
acknowledged_in table number ps = map (λ p. if p.table == table then with_ack number p else p) ps

-- the table and the number of an acknowledgement that is passed on
abbrev pub ack_in : Action → Option (ℕ × ℕ)
ack_in (actions.Ack table number) = Some (table, number)
ack_in action = None

-- a row with this number is to be learned
abbrev pub with_row : ℕ → Progress → Progress
with_row number p = record { table = p.table; names = p.names; last = p.last; since = p.since; greatest = p.greatest; acknowledged = p.acknowledged; ahead = p.ahead; received = Some number; left = p.left }

abbrev pub received_in : ℕ → ℕ → List Progress → List Progress
received_in table number ps = map (λ p. if p.table == table then with_row number p else p) ps

abbrev pub noted_one : Action → List Progress → List Progress
noted_one (actions.Ack table number) ps = acknowledged_in table number ps
noted_one (actions.Learn u) ps = received_in u.table u.number ps
noted_one action ps = ps

-- the acknowledgements that these actions pass on, and the rows to learn, are noted, in order
abbrev pub noted : List Action → List Progress → List Progress
noted [] ps = ps
noted (action ∷ acts) ps = noted acts (noted_one action ps)

abbrev pub with_leave : Progress → Progress
with_leave p = record { table = p.table; names = p.names; last = p.last; since = p.since; greatest = p.greatest; acknowledged = p.acknowledged; ahead = p.ahead; received = p.received; left = true }

-- these tables are left
abbrev pub left_in : List ℕ → List Progress → List Progress
left_in tables ps = map (λ p. if list_any (λ table. table == p.table) tables then with_leave p else p) ps

-- a table was left
abbrev pub has_left : List Progress → Bool
has_left ps = list_any (λ p. p.left) ps

-- the remote peer acknowledged a number of `table` above every one that it was taught
abbrev pub is_ahead : ℕ → List Progress → Bool
is_ahead table ps = list_any (λ p. p.table == table && p.ahead) ps

abbrev pub is_number : Option ℕ → ℕ → Bool
is_number None number = false
is_number (Some acknowledged) number = acknowledged == number

-- The latest batch of the table asked last, if its number is the one that the remote peer acknowledged last. The remote
-- peer doesn't acknowledge the same number twice in a row, so the batch counts as acknowledged.
abbrev pub inferred : Option ℕ → List Progress → Option (ℕ × ℕ)
inferred None ps = None
inferred (Some table) [] = None
inferred (Some table) (p ∷ ps) = if p.table == table && is_number p.acknowledged p.last then Some (table, p.last) else inferred (Some table) ps

-- ---- tables that the remote peer lacks

-- a batch of the table was copied long ago and is still outstanding, and the remote peer has never acknowledged the table
abbrev pub is_overdue : ℕ → List Progress → Share → Bool
is_overdue now ps s = s.out && list_any (λ p. p.table == s.table && is_none p.acknowledged && has_passed leaving_time p.since now) ps

abbrev pub tables_to_leave : ℕ → List Progress → List Share → List ℕ
tables_to_leave now ps [] = []
tables_to_leave now ps (s ∷ ss) = if is_overdue now ps s then s.table ∷ tables_to_leave now ps ss else tables_to_leave now ps ss

-- ---- tables that store the server's name

abbrev pub stores_names : ℕ → List Progress → Bool
stores_names table ps = list_any (λ p. p.table == table && p.names) ps

-- A batch of a table that stores the server's name is outstanding, and the remote peer has never acknowledged the table: it may
-- lack the table, and drop the names that the batch writes.
abbrev pub may_lose_names : List Progress → Share → Bool
may_lose_names ps s = s.out && list_any (λ p. p.table == s.table && (p.names && is_none p.acknowledged)) ps

-- the table stores the server's name, and is not to read names that may be lost
abbrev pub awaits_names : Option ℕ → List Progress → List Share → Bool
awaits_names None ps ss = false
awaits_names (Some table) ps ss = stores_names table ps && list_any (may_lose_names ps) ss

-- ---- the pace

-- When this node last sent bytes, when it last received some, when the session opened, and when it last began a resync;
-- and what was taught and acknowledged of each table, and whether it was left. A session that begins to stay counts from
-- that moment.
pub record Pace : Type 0 where
  pub sent : ℕ
  pub heard : ℕ
  pub opened : ℕ
  pub reopened : Option ℕ
  pub progress : List Progress

abbrev pub pace_at : ℕ → List Definition → Pace
pace_at now roster = record { sent = now; heard = now; opened = now; reopened = None; progress = progress_of now roster }

-- `now`, if so; otherwise the moment before
abbrev pub renewed : Bool → ℕ → ℕ → ℕ
renewed so now before = if so then now else before

-- a resync may begin
abbrev pub is_rested : Option ℕ → ℕ → Bool
is_rested None now = true
is_rested (Some reopened) now = has_passed resync_time reopened now
