-- How a node that has just begun gets all rows: it asks its peers, one at a time.
use Rattle.std.specs.Prelude.{ℕ, zero, suc, Bool, true, false, not, ◌==◌, ◌&&◌, ◌||◌, nat_le, ◌-◌, List, [], ◌∷◌, Option, None, Some, is_none, option_map, slice_get, if◌then◌else◌}
use Rattle.std.specs.List.{list_all, list_any}
use Rattle.node_core.specs.declared.asking.Standing.{Standing}
use Rattle.node_core.specs.declared.asking.Standing.TheVariants as standings
use Rattle.node_core.specs.declared.asking.Candidate.{Candidate}
use Rattle.node_core.specs.declared.asking.Awaited.{Awaited}
use Rattle.node_core.specs.declared.asking.WaitEnd.{WaitEnd}
use Rattle.node_core.specs.declared.asking.WaitEnd.TheVariants as waits

-- Whether the node has been taught all rows, or has settled for what its peers have, or whether one has shown that it doesn't define all
-- tables as the node does; the peer that is waited for, when it was asked, and since when it has been silent; and how each peer stands.
pub record AskingState : Type 0 where
  pub taught : Bool
  pub settled : Bool
  pub incomplete : Bool
  pub awaited : Option Awaited
  pub peers : List Candidate

-- it has been taught all rows, or nobody has more to teach
abbrev pub is_up_to_date : AskingState → Bool
is_up_to_date a = a.taught || a.settled

-- ---- the next peer

-- a minute has passed since the peer was asked, or brought a row after that, if it ever was
abbrev pub is_rested : ℕ → Option ℕ → Bool
is_rested now None = true
is_rested now (Some since) = nat_le 60000 (now - since)

-- eleven minutes have passed since the peer was asked, if it ever was: those that it is waited for at most, and one more
abbrev pub is_overdue : ℕ → Option ℕ → Bool
is_overdue now None = true
is_overdue now (Some asked) = nat_le 660000 (now - asked)

abbrev pub is_due : Standing → Bool → Bool
is_due standings.Away rested = false
is_due standings.Unasked rested = true
is_due standings.Asked rested = rested
is_due standings.Partial rested = rested
is_due standings.Incomplete rested = false

-- the peer has a session, and wasn't asked on it, or has been quiet for a minute, or was asked eleven minutes ago, unless it has shown on
-- it that it can't teach all
abbrev pub can_be_asked : ℕ → Candidate → Bool
can_be_asked now p = is_due p.standing (is_rested now p.since || is_overdue now p.asked_at)

-- one peer was never asked, or the other was, and no earlier
abbrev pub is_no_later : Option ℕ → Option ℕ → Bool
is_no_later None other = true
is_no_later (Some one) None = false
is_no_later (Some one) (Some other) = nat_le one other

-- the peer can be asked, and none of those that can was asked longer ago
abbrev pub is_first : ℕ → List Candidate → Option Candidate → Bool
is_first now peers None = false
is_first now peers (Some p) = can_be_asked now p && list_all (λ q. not (can_be_asked now q) || is_no_later p.asked_at q.asked_at) peers

-- the peer is to be asked now: the node hasn't been taught all rows, nobody is waited for, and this peer is first
abbrev pub is_next : ℕ → ℕ → AskingState → Bool
is_next peer now a = not a.taught && (is_none a.awaited && is_first now a.peers (slice_get a.peers peer))

-- ---- what becomes of it

-- one of the peers is changed
abbrev pub changed : (Candidate → Candidate) → ℕ → List Candidate → List Candidate
changed f peer [] = []
changed f zero (p ∷ ps) = f p ∷ ps
changed f (suc peer) (p ∷ ps) = p ∷ changed f peer ps

-- the peer is waited for from now on
abbrev pub asked : ℕ → ℕ → AskingState → AskingState
asked peer now a = record a {
  awaited = Some (record { peer = peer; asked_at = now; since = now });
  peers = changed (λ p. record { standing = standings.Asked; asked_at = Some now; since = Some now }) peer a.peers;
}

abbrev pub asked_if_next : ℕ → ℕ → AskingState → AskingState
asked_if_next peer now a = if is_next peer now a then asked peer now a else a

-- who is waited for, unless it is this peer
abbrev pub unless_it : ℕ → Option Awaited → Option Awaited
unless_it peer None = None
unless_it peer (Some w) = if w.peer == peer then None else Some w

-- the peer stands otherwise, and isn't waited for
abbrev pub stood : Standing → ℕ → AskingState → AskingState
stood s peer a = record a { awaited = unless_it peer a.awaited; peers = changed (λ p. record p { standing = s }) peer a.peers }

abbrev pub is_asked : Standing → Bool
is_asked standings.Asked = true
is_asked standings.Away = false
is_asked standings.Unasked = false
is_asked standings.Partial = false
is_asked standings.Incomplete = false

-- the peer was asked on its session, and hasn't answered
abbrev pub owes : Option Candidate → Bool
owes None = false
owes (Some p) = is_asked p.standing

-- a peer that was asked has taught all rows, however late
abbrev pub finished : ℕ → AskingState → AskingState
finished peer a = if owes (slice_get a.peers peer) then record a { taught = true; awaited = None } else a

-- the node becomes up to date by that
abbrev pub is_done_by : ℕ → AskingState → Bool
is_done_by peer a = owes (slice_get a.peers peer) && not (is_up_to_date a)

-- a peer that was asked has taught what it has, which isn't all, and may lack tables as this node defines them
abbrev pub partly_finished : Bool → ℕ → AskingState → AskingState
partly_finished lacks peer a = if owes (slice_get a.peers peer) then record (stood standings.Partial peer a) { incomplete = a.incomplete || lacks } else a

-- a peer that was asked has taught all rows but those of tables that it doesn't define as this node does
abbrev pub incompletely_finished : ℕ → AskingState → AskingState
incompletely_finished peer a = if owes (slice_get a.peers peer) then record (stood standings.Incomplete peer a) { incomplete = true } else a

-- a peer has brought a row: it isn't mute, if it is waited for
abbrev pub heard_from : ℕ → ℕ → Awaited → Awaited
heard_from peer now w = if w.peer == peer then record w { since = now } else w

-- one that owes an answer isn't asked again for a minute from then on, unless it was asked eleven minutes ago
abbrev pub brought : ℕ → Candidate → Candidate
brought now p = if is_asked p.standing then record p { since = Some now } else p

abbrev pub heard : ℕ → ℕ → AskingState → AskingState
heard peer now a = record a { awaited = option_map (heard_from peer now) a.awaited; peers = changed (brought now) peer a.peers }

-- ---- by the clock

-- the node was held up until now: whoever is waited for is so anew
abbrev pub anew_from : ℕ → Awaited → Awaited
anew_from now w = record w { since = now }

abbrev pub waited_anew : ℕ → AskingState → AskingState
waited_anew now a = record a { awaited = option_map (anew_from now) a.awaited }

-- for 5 s neither a row came nor an end
abbrev pub is_mute : ℕ → Awaited → Bool
is_mute now w = nat_le 5000 (now - w.since)

-- the wait is over: the peer is mute, or was asked ten minutes ago, whatever it has brought
abbrev pub is_over : ℕ → Awaited → Bool
is_over now w = is_mute now w || nat_le 600000 (now - w.asked_at)

-- which of the two, first of all that the peer is mute
abbrev pub wait_end : ℕ → Awaited → WaitEnd
wait_end now w = if is_mute now w then waits.Mute else waits.Endless

abbrev pub unanswered : ℕ → Option Awaited → Option (ℕ × WaitEnd)
unanswered now None = None
unanswered now (Some w) = if is_over now w then Some (w.peer, wait_end now w) else None

abbrev pub still_awaited : ℕ → Option Awaited → Option Awaited
still_awaited now None = None
still_awaited now (Some w) = if is_over now w then None else Some w

-- a peer for which the wait is over isn't waited for
abbrev pub lapsed : ℕ → AskingState → AskingState
lapsed now a = record a { awaited = still_awaited now a.awaited }

abbrev pub is_away : Standing → Bool
is_away standings.Away = true
is_away standings.Unasked = false
is_away standings.Asked = false
is_away standings.Partial = false
is_away standings.Incomplete = false

-- the peer can't be asked: it has no session, or has shown on it that it can't teach all
abbrev pub is_out : Standing → Bool
is_out standings.Away = true
is_out standings.Unasked = false
is_out standings.Asked = false
is_out standings.Partial = false
is_out standings.Incomplete = true

-- the peer has taught what it has, which isn't all
abbrev pub has_answered : Standing → Bool
has_answered standings.Partial = true
has_answered standings.Incomplete = true
has_answered standings.Away = false
has_answered standings.Unasked = false
has_answered standings.Asked = false

-- all peers with a session have taught what they have, and there is one
abbrev pub have_answered : List Candidate → Bool
have_answered peers = list_any (λ p. has_answered p.standing) peers && list_all (λ p. is_away p.standing || has_answered p.standing) peers

-- nobody has more to teach: all peers with a session have taught what they have, and they are all, or have had 5 s to come
abbrev pub is_settled : ℕ → AskingState → Bool
is_settled now a = not (is_up_to_date a) && ((nat_le 5000 now || list_all (λ p. not (is_away p.standing)) a.peers) && have_answered a.peers)

abbrev pub settled : ℕ → AskingState → AskingState
settled now a = if is_settled now a then record a { settled = true } else a
