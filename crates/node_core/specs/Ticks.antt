-- When the ticks of a session come.
use Rattle.std.specs.Prelude.{ℕ, ◌+◌, ◌-◌, ◌*◌, ◌^◌, Bool, false, not, ◌&&◌, ◌==◌, nat_lt, nat_le, min, max, List, [], ◌∷◌, if◌then◌else◌}
use Rattle.node_core.specs.declared.ticks.Busy.{Busy}
use Rattle.node_core.specs.declared.ticks.Ticks.{Ticks}
use Rattle.node_core.specs.declared.ticks.Traffic.{Traffic}

-- the time after a moment, as far as a moment can be
abbrev pub later : ℕ → ℕ → ℕ
later time moment = min (moment + time) (2 ^ 64 - 1)

-- the bytes that aren't of heartbeats, each of two bytes
abbrev pub others : Traffic → ℕ
others t = min (t.sent + t.received) (2 ^ 64 - 1) - min (t.heartbeats * 2) (2 ^ 64 - 1)

-- less than 2.5 s ago more than a heartbeat went over the connection
abbrev pub is_lively : ℕ → Ticks → Bool
is_lively now t = nat_lt (now - t.lively) 2500

-- a lively session ticks when the time after its last tick is over, any other one when it owes a heartbeat or has heard nothing for 10 s
abbrev pub next_due : ℕ → Ticks → ℕ
next_due now t = if is_lively now t then t.next else max t.next (min (later 3000 t.traffic.sent_at) (later 10000 t.heard))

-- the ticks of a session that begins: the first is due at once
abbrev pub begun : ℕ → Ticks
begun now = record {
  due = now;
  next = now;
  lively = now;
  heard = now;
  put_off = false;
  free = now;
  traffic = record { sent = 0; received = 0; heartbeats = 0; sent_at = now };
}

-- ---- what went over the connection

abbrev pub has_moved : Traffic → Ticks → Bool
has_moved traffic t = not (others traffic == others t.traffic)

-- since the session looked whether a tick comes, it did for no longer than a second anything else than write
abbrev pub is_own_time : ℕ → Busy → Bool
is_own_time now busy = nat_le (now - busy.since - busy.writing) 1000

abbrev pub told : ℕ → Busy → Traffic → Ticks → Ticks
told now busy traffic t = record t {
  next = if has_moved traffic t && (not (is_lively now t) && nat_lt now t.due) then max t.next (later 100 now) else t.next;
  lively = if has_moved traffic t then now else t.lively;
  heard = if traffic.received == t.traffic.received then t.heard else now;
  free = if is_own_time now busy then now else t.free;
  traffic = traffic;
}

abbrev pub noted : ℕ → Busy → Traffic → Ticks → Ticks
noted now busy traffic t = record (told now busy traffic t) { due = next_due now (told now busy traffic t) }

-- ---- a tick

-- the session has read nothing for 10 s, but bytes have arrived
abbrev pub is_unread : ℕ → ℕ → Ticks → Bool
is_unread now arrived t = nat_le 10000 (now - t.heard) && nat_lt t.traffic.received arrived

-- the tick is late by more than a second of which the session's own writes aren't the cause, and wasn't put off before
abbrev pub is_put_off : ℕ → Ticks → Bool
is_put_off now t = not t.put_off && nat_lt 1000 (now - max t.due t.free)

abbrev pub is_due : ℕ → ℕ → Ticks → Bool
is_due now arrived t = nat_le t.due now && not (is_unread now arrived t)

-- a tick comes if it is due, nothing that it judges by is unread, and it isn't put off
abbrev pub is_tick : ℕ → ℕ → Ticks → Bool
is_tick now arrived t = is_due now arrived t && not (is_put_off now t)

-- the next one comes 0.1 s later, or a second after one that is put off
abbrev pub after_tick : ℕ → Ticks → ℕ
after_tick now t = later (if is_put_off now t then 1000 else 100) now

abbrev pub ticked : ℕ → ℕ → Ticks → Ticks
ticked now arrived t = if is_due now arrived t then record t { due = after_tick now t; next = after_tick now t; put_off = is_put_off now t } else t

-- ---- one note after another

-- a note: its moment, what the session did since it looked whether a tick comes, and what went over the connection
pub record Note : Type 0 where
  pub at : ℕ
  pub busy : Busy
  pub traffic : Traffic

abbrev pub noted_all : List Note → Ticks → Ticks
noted_all [] t = t
noted_all (n ∷ ns) t = noted_all ns (noted n.at n.busy n.traffic t)
