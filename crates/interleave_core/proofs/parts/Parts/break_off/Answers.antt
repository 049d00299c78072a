use Rattle.std.proofs.Common.{◌≡◌, ◌∙◌, ap, false, get_or, map, nat_le, set, subst, sym, true}
use Rattle.std.specs.List.{AllByRecursion, list_all}
use Rattle.std.proofs.lemmas.List.{get_or_default}
use Rattle.std.proofs.lemmas.Result.{on_ok_weaker}
use Rattle.interleave_core.specs.declared.connection.Connection.{Connection}
use Rattle.table_cell.specs.Histories.{room_of}
use Rattle.interleave_core.specs.Moves.{Breaks}
use Rattle.interleave_core.specs.Parts.{IsConnectionAt, connection_of, connections_of, world_of}
use Rattle.interleave_core.specs.Opened.{CanReopen}
use Rattle.interleave_core.specs.Worlds.{connection_at, new_connection, roster_of, with_session_anew}
use Rattle.interleave_core.proofs.Reopening.{breaks_nothing, breaks_off, can_reopen_each, refilled}
use Rattle.interleave_core.proofs.parts.Parts.break_off.Goals as goal

pub returns-then-not-has_room_for : goal.returns-then-not-has_room_for
returns-then-not-has_room_for c =
    let lacks : list_all (λ x. nat_le 2 (room_of x)) c.args.self.now.cells.items ≡ false =
    ap (λ xs. list_all (λ x. nat_le 2 (room_of x)) xs) (sym c.as_slice-2.ensures.value) ∙ sym c.has_room_for.ensures ∙ c.if-not-has_room_for.true in
    λ _. breaks_nothing c.args.session (world_of c.args.self.now) lacks

pub returns : goal.returns
returns c =
    let old = c.args.self.now in
    let session = c.args.session in
    let place = c.in-Some.place in
    let new = c.in_ok-self.field-0 in
    let after = c.reopen_in_each.new.cells in
    let here : IsConnectionAt session old.connections.items place =
    subst (λ xs. IsConnectionAt session xs place) c.as_slice.ensures.value c.in-Some.ensures.found in
    let room : list_all (λ x. nat_le 2 (room_of x)) old.cells.items ≡ true =
    ap (λ xs. list_all (λ x. nat_le 2 (room_of x)) xs) (sym c.as_slice-2.ensures.value) ∙ sym c.has_room_for.ensures ∙ c.if-not-has_room_for.false in
    let version = c.index.result.now.version in
    let same : (connection_of (get_or old.connections.items place new)).version ≡ version =
    ap (λ (x : Connection). (connection_of x).version) (get_or_default old.connections.items place new c.index.result.now here.below ∙ sym c.index.ensures) in
    let is : connection_of new ≡ new_connection version (roster_of old.cells.items) =
    c.in_ok-self.ensures ∙ ap (λ ds. new_connection version ds) (c.in_ok-roster.ensures ∙ ap (λ xs. roster_of xs) c.as_slice-3.ensures.value) in
    on_ok_weaker c.reopen_in_each.result
    (λ so all.
    let can = can_reopen_each old.cells.items old.connections.items session place all here room in
    let made : after ≡ map (with_session_anew session version) old.cells.items =
    subst (λ xs. AllByRecursion (CanReopen session) xs → after ≡ map (with_session_anew session version) xs) c.as_mut_slice.ensures.value so can in
    subst
    (λ xs. Breaks session (connection_at session (connections_of old.connections.items)) (world_of old) (record { cells = xs; connections = connections_of (set old.connections.items place new) }))
    (sym (refilled old.cells after (with_session_anew session version) made))
    (breaks_off session version old.cells.items old.connections.items place new here can is same))
    c.reopen_in_each.ensures
