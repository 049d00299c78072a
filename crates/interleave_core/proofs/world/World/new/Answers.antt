use Rattle.std.proofs.Common.{◌≡◌, ◌+◌, ◌∙◌, ◌<◌, ◌≤◌, ap, arith, get_or, length, map, refl, subst}
use Rattle.std.specs.Prelude.{slice_index_or}
use Rattle.std.specs.List.{AllByRecursion}
use Rattle.std.specs.Vec.{with_items}
use Rattle.std.proofs.lemmas.List.{get_or_default}
use Rattle.table_types.specs.declared.version.Version.{Version}
use Rattle.table_types.specs.declared.version.Version.TheVariants as versions
use Rattle.table_cell.specs.Histories.{IsSoundCell}
use Rattle.interleave_core.specs.Parts.{connection_of, connections_of}
use Rattle.interleave_core.specs.Opened.{CanOpen}
use Rattle.interleave_core.specs.Worlds.{new_connection, roster_of, with_session}
use Rattle.interleave_core.proofs.Beginning.{can_open_more, connected_more, opened_more, opened_none}
use Rattle.interleave_core.proofs.InOrder.{new_in_order}
use Rattle.interleave_core.proofs.Reopening.{refilled}
use Rattle.interleave_core.proofs.world.World.new.Goals as goal

pub overflow_add-session : goal.overflow_add-session
overflow_add-session c =
    let below : c.loop-version.version-index < length c.args.versions.items =
    subst (λ xs. c.loop-version.version-index < length xs) c.as_slice-version-items.ensures.value c.loop-version-test.true in
    omega (arith, c.loop-version.invariant.count, below, c.requires.sessions.1)

pub loop-version-init : goal.loop-version-init
loop-version-init c = record {
  count = refl;
  cells = opened_none c.args.versions.items c.args.cells.items;
  connections = ap (λ xs. connections_of xs) c.new-connections.ensures.items;
}

pub loop-version-preserved : goal.loop-version-preserved
loop-version-preserved c =
    let tables = c.args.cells.items in
    let vs = c.args.versions.items in
    let n = c.loop-version.version-index in
    let old = c.loop-version.cells in
    let after = c.open_in_each.new.cells in
    let new = c.in_ok-new.field-0 in
    let same = c.as_slice-version-items.ensures.value in
    let below : n < length vs = subst (λ xs. n < length xs) same c.loop-version-test.true in
    let version : Version = slice_index_or vs n versions.V20 in
    let is : version ≡ get_or vs n version = get_or_default vs n versions.V20 version below in
    let next : c.loop-version.session + 1 ≡ n + 1 = ap (λ k. k + 1) c.loop-version.invariant.count in
    let can : AllByRecursion (CanOpen (n + 1)) old.items =
    can_open_more n (length vs) vs tables old.items below c.requires.sessions.1 c.requires.begin c.loop-version.invariant.cells in
    let opens : AllByRecursion (CanOpen (c.loop-version.session + 1)) old.items → after ≡ map (with_session (c.loop-version.session + 1) version) old.items =
    subst (λ xs. AllByRecursion (CanOpen (c.loop-version.session + 1)) old.items → after ≡ map (with_session (c.loop-version.session + 1) (slice_index_or xs n versions.V20)) old.items) same
    (subst
    (λ xs. AllByRecursion (CanOpen (c.loop-version.session + 1)) xs → after ≡ map (with_session (c.loop-version.session + 1) (slice_index_or c.as_slice-version-items.result.now n versions.V20)) xs)
    c.as_mut_slice.ensures.value c.in_ok-open_in_each.ensures) in
    let made : after ≡ map (with_session (n + 1) version) old.items =
    subst (λ k. AllByRecursion (CanOpen k) old.items → after ≡ map (with_session k version) old.items) next opens can in
    let fresh : connection_of new ≡ new_connection version (roster_of tables) =
    c.in_ok-new.ensures ∙ ap (λ xs. new_connection (slice_index_or xs n versions.V20) c.in_ok-copy.field-0) same
    ∙ ap (λ ds. new_connection version ds) (c.in_ok-copy.ensures ∙ c.in_ok-roster.ensures ∙ ap (λ xs. roster_of xs) c.as_slice-2.ensures.value) in
    record {
      count = next;
      cells = opened_more n version vs tables old.items (with_items old after).items below is c.loop-version.invariant.cells (refilled old after (with_session (n + 1) version) made);
      connections = connected_more n version vs (roster_of tables) c.loop-version.connections.items c.push.new.self.items new below is c.loop-version.invariant.connections c.in_ok-push.ensures.items fresh;
    }

pub invariant_of-result : goal.invariant_of-result
invariant_of-result c =
    let n = c.loop-version.version-index in
    let same = c.as_slice-version-items.ensures.value in
    let least : length c.args.versions.items ≤ n = subst (λ xs. length xs ≤ n) same c.loop-version-test.false in
    let most : n ≤ length c.args.versions.items = subst (λ xs. n ≤ length xs) same c.loop-version.auto.version-index-end in
    new_in_order c.args.versions.items n c.args.cells.items c.loop-version.cells.items (connections_of c.loop-version.connections.items) least most c.loop-version.invariant.cells c.loop-version.invariant.connections c.requires.sessions.1
    c.requires.tables (subst (AllByRecursion IsSoundCell) c.as_slice.ensures.value c.are_sound.ensures) c.requires.begin
