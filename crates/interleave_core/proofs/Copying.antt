-- What a copy does to a world.
use Rattle.std.proofs.Common.{◌≡◌, ◌≢◌, ◌≤◌, ℕ, zero, suc, ◌<◌, Bool, true, List, [], ◌∷◌, ◌++◌, get_or, length, set, nat_le, MatchBool, Option, Some, Result, Ok, Err, refl, sym, ap, subst, ◌∙◌, arith, le-leb, true≢false}
use Rattle.std.proofs.lemmas.Bool.{and_from, and_parts, leb-true}
use Rattle.std.proofs.lemmas.List.{set-get_or}
use Rattle.table_types.specs.declared.copies.CopyKind.{CopyKind}
use Rattle.table_types.specs.declared.copies.CopyKind.TheVariants as kinds
use Rattle.table_types.specs.declared.update.Update.{Update}
use Rattle.table_cell.specs.declared.errors.CopyError.{CopyError}
use Rattle.table_cell.specs.declared.errors.CopyError.TheVariants as uncopied
use Rattle.table_cell.specs.Histories.{CellState, Copies}
use Rattle.interleave_core.specs.declared.connection.Connection.{Connection}
use Rattle.interleave_core.specs.declared.step.Step.TheVariants as steps
use Rattle.interleave_core.specs.Moves.{CopiesFor, Moves, is_made, with_batch}
use Rattle.interleave_core.specs.Parts.{IsCellAt, IsConnectionAt, connection_of, connections_of}
use Rattle.interleave_core.specs.Worlds.{ConnectionState, WorldState, cell_at, connection_at, with_cell, with_connection}
use Rattle.interleave_core.proofs.Places.{connection_changed, connection_found}

abbrev world_with : List CellState → List Connection → WorldState
world_with cells cs = record { cells = cells; connections = connections_of cs }

-- ---- which copies are made

-- a push or a resync of 1 to 4096 rows is made
pub made_within : (kind : CopyKind) (limit : ℕ) → kind ≢ kinds.Standing → 1 ≤ limit → limit ≤ 4096 → is_made kind limit ≡ true
made_within kinds.Push limit other least most = and_from (nat_le 1 limit) (nat_le limit 4096) (le-leb 1 limit least) (le-leb limit 4096 most)
made_within kinds.Resync limit other least most = and_from (nat_le 1 limit) (nat_le limit 4096) (le-leb 1 limit least) (le-leb limit 4096 most)
made_within kinds.Standing limit other least most = absurd (other refl)

-- a copy that is made has 4096 rows at most
pub made_most : (kind : CopyKind) (limit : ℕ) → is_made kind limit ≡ true → limit ≤ 4096
made_most kinds.Push limit made = leb-true limit 4096 (and_parts (nat_le 1 limit) (nat_le limit 4096) made).1
made_most kinds.Resync limit made = leb-true limit 4096 (and_parts (nat_le 1 limit) (nat_le limit 4096) made).1
made_most kinds.Standing limit made = absurd (true≢false (sym made))

-- ---- what a table is asked for

-- a table is asked for a copy
asked : (session table limit now : ℕ) (kind : CopyKind) (cells : List CellState) (cs changed : List Connection) (index place : ℕ) (c after : CellState) (old : Connection) (answer : Result (List Update) CopyError)
    → is_made kind limit ≡ true
    → IsCellAt table cells index → c ≡ get_or cells index c → IsConnectionAt session cs place → old ≡ get_or cs place old
    → answer ≢ Err uncopied.Memory → Copies c session kind limit now answer after
    → connections_of changed ≡ with_connection session (record (connection_of old) { copied = with_batch (connection_of old).copied answer }) (connections_of cs)
    → Moves (world_with cells cs) (steps.Copy session table kind limit now) (world_with (set cells index after) changed)
asked session table limit now kind cells cs changed index place c after old answer made at is_c here is_old unless copies waits =
    let w : WorldState = world_with cells cs in
    let e : WorldState = world_with (set cells index after) changed in
    let s : ConnectionState = connection_of old in
    let found_cell : cell_at table cells ≡ Some c = at.here c ∙ ap (λ (x : CellState). Some x) (sym is_c) in
    let found : connection_at session (connections_of cs) ≡ Some s = connection_found session cs place old here is_old in
    let same_cells : e ≡ record { cells = with_cell table after cells; connections = connections_of changed } =
    ap (λ (x : List CellState). record { cells = x; connections = connections_of changed }) (at.changed after) in
    let same : e ≡ record { cells = with_cell table after cells; connections = with_connection session (record s { copied = with_batch s.copied answer }) (connections_of cs) } =
    same_cells ∙ ap (λ (x : List ConnectionState). record { cells = with_cell table after cells; connections = x }) waits in
    let copied : CopiesFor session table kind limit now (Some c) (Some s) w e = (answer, after, unless, copies, same) in
    let of_cell : CopiesFor session table kind limit now (cell_at table cells) (Some s) w e =
    subst (λ (o : Option CellState). CopiesFor session table kind limit now o (Some s) w e) (sym found_cell) copied in
    let of_both : CopiesFor session table kind limit now (cell_at table cells) (connection_at session (connections_of cs)) w e =
    subst (λ (o : Option ConnectionState). CopiesFor session table kind limit now (cell_at table cells) o w e) (sym found) of_cell in
    subst (λ (b : Bool). MatchBool b (CopiesFor session table kind limit now (cell_at table cells) (connection_at session (connections_of cs)) w e) (e ≡ w)) (sym made) of_both

-- the batch waits
pub copied_batch : (session table limit now : ℕ) (kind : CopyKind) (cells : List CellState) (cs : List Connection) (index place : ℕ) (c after : CellState) (old new : Connection) (batch : List Update)
    → is_made kind limit ≡ true
    → IsCellAt table cells index → c ≡ get_or cells index c → IsConnectionAt session cs place → old ≡ get_or cs place old
    → Copies c session kind limit now (Ok batch) after
    → connection_of new ≡ record (connection_of old) { copied = (connection_of old).copied ++ batch ∷ [] }
    → Moves (world_with cells cs) (steps.Copy session table kind limit now) (world_with (set cells index after) (set cs place new))
copied_batch session table limit now kind cells cs index place c after old new batch made at is_c here is_old copies waits =
    asked session table limit now kind cells cs (set cs place new) index place c after old (Ok batch) made at is_c here is_old (λ e. cc) copies
    (connection_changed session cs place new here ∙ ap (λ (x : ConnectionState). with_connection session x (connections_of cs)) waits)

-- a connection put where it stands changes nothing
stays_there : (session : ℕ) (cs : List Connection) (place : ℕ) (old : Connection) → IsConnectionAt session cs place → old ≡ get_or cs place old
    → connections_of cs ≡ with_connection session (connection_of old) (connections_of cs)
stays_there session cs place old here is =
    let same : set cs place old ≡ cs = ap (λ (x : Connection). set cs place x) is ∙ set-get_or cs place old in
    sym (ap (λ (x : List Connection). connections_of x) same) ∙ connection_changed session cs place old here

standing : (cs : List Connection) (i : ℕ) → i < length cs → (old : Connection) × (old ≡ get_or cs i old)
standing [] i below = absurd (omega arith)
standing (c ∷ cs) zero below = (c, refl)
standing (c ∷ cs) (suc i) below = standing cs i (omega arith)

-- the table refuses
pub refused_copy : (session table limit now : ℕ) (kind : CopyKind) (cells : List CellState) (cs : List Connection) (index place : ℕ) (c after : CellState) (error : CopyError)
    → is_made kind limit ≡ true
    → IsCellAt table cells index → c ≡ get_or cells index c → IsConnectionAt session cs place
    → error ≢ uncopied.Memory → Copies c session kind limit now (Err error) after
    → Moves (world_with cells cs) (steps.Copy session table kind limit now) (world_with (set cells index after) cs)
refused_copy session table limit now kind cells cs index place c after error made at is_c here unless copies =
    let old = standing cs place here.below in
    asked session table limit now kind cells cs cs index place c after old.0 (Err error) made at is_c here old.1 (λ e. unless (same_error error uncopied.Memory e)) copies
    (stays_there session cs place old.0 here old.1)
  where
    same_error : (a b : CopyError) → ◌≡◌ {A = Result (List Update) CopyError} (Err a) (Err b) → a ≡ b
    same_error a b e = cc
