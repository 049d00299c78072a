use Rattle.std.proofs.Common.{◌≡◌, ◌∙◌, ap, false, get_or, map, nat_le, subst, sym, true}
use Rattle.std.specs.List.{AllByRecursion, list_all, list_any}
use Rattle.std.proofs.lemmas.Result.{on_ok_weaker}
use Rattle.interleave_core.specs.declared.connection.Connection.{Connection}
use Rattle.table_cell.specs.Histories.{room_of}
use Rattle.table_cell.specs.Machine.{has_out, progress_of}
use Rattle.interleave_core.specs.Moves.{Reopens}
use Rattle.interleave_core.specs.Parts.{IsConnectionAt, connection_of, connections_of, world_of}
use Rattle.interleave_core.specs.Opened.{CanReopen}
use Rattle.interleave_core.specs.Worlds.{connection_at, with_session_anew}
use Rattle.interleave_core.proofs.Reopening.{can_reopen_each, refilled, reopens, reopens_nothing, reopens_nothing_out}
use Rattle.interleave_core.proofs.parts.Parts.reopen.Goals as goal

pub returns-then-is_any_out : goal.returns-then-is_any_out
returns-then-is_any_out c =
    let out : list_any (λ x. has_out (progress_of c.args.session x.state)) c.args.self.now.cells.items ≡ true =
    ap (λ xs. list_any (λ x. has_out (progress_of c.args.session x.state)) xs) (sym c.as_slice-2.ensures.value) ∙ sym c.is_any_out.ensures ∙ c.if-is_any_out.true in
    λ _. reopens_nothing_out c.args.session (world_of c.args.self.now) out

pub returns-then-not-has_room_for : goal.returns-then-not-has_room_for
returns-then-not-has_room_for c =
    let out : list_any (λ x. has_out (progress_of c.args.session x.state)) c.args.self.now.cells.items ≡ false =
    ap (λ xs. list_any (λ x. has_out (progress_of c.args.session x.state)) xs) (sym c.as_slice-2.ensures.value) ∙ sym c.is_any_out.ensures ∙ c.if-is_any_out.false in
    let lacks : list_all (λ x. nat_le 2 (room_of x)) c.args.self.now.cells.items ≡ false =
    ap (λ xs. list_all (λ x. nat_le 2 (room_of x)) xs) (sym c.as_slice-3.ensures.value) ∙ sym c.has_room_for.ensures ∙ c.if-not-has_room_for.true in
    λ _. reopens_nothing c.args.session (world_of c.args.self.now) out lacks

pub returns : goal.returns
returns c =
    let old = c.args.self.now in
    let session = c.args.session in
    let place = c.in-Some.place in
    let after = c.reopen_in_each.new.cells in
    let here : IsConnectionAt session old.connections.items place =
    subst (λ xs. IsConnectionAt session xs place) c.as_slice.ensures.value c.in-Some.ensures.found in
    let out : list_any (λ x. has_out (progress_of session x.state)) old.cells.items ≡ false =
    ap (λ xs. list_any (λ x. has_out (progress_of session x.state)) xs) (sym c.as_slice-2.ensures.value) ∙ sym c.is_any_out.ensures ∙ c.if-is_any_out.false in
    let room : list_all (λ x. nat_le 2 (room_of x)) old.cells.items ≡ true =
    ap (λ xs. list_all (λ x. nat_le 2 (room_of x)) xs) (sym c.as_slice-3.ensures.value) ∙ sym c.has_room_for.ensures ∙ c.if-not-has_room_for.false in
    on_ok_weaker c.reopen_in_each.result
    (λ so all.
    let can = can_reopen_each old.cells.items old.connections.items session place all here room in
    let now = c.index.result.now in
    let version = now.version in
    let same : (connection_of (get_or old.connections.items place now)).version ≡ version = ap (λ (x : Connection). (connection_of x).version) (sym c.index.ensures) in
    let made : after ≡ map (with_session_anew session version) old.cells.items =
    subst (λ xs. AllByRecursion (CanReopen session) xs → after ≡ map (with_session_anew session version) xs) c.as_mut_slice.ensures.value so can in
    subst
    (λ xs. Reopens session (connection_at session (connections_of old.connections.items)) (world_of old) (record { cells = xs; connections = connections_of old.connections.items }))
    (sym (refilled old.cells after (with_session_anew session version) made))
    (reopens session version old.cells.items old.connections.items place now here same out can))
    c.reopen_in_each.ensures
