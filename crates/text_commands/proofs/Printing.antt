-- What a script's calls print.
use Rattle.std.proofs.Common.{◌≡◌, ◌≤◌, ◌∙◌, ◌++◌, ℕ, List, [], ◌∷◌, ap, append-nil, arith, length, refl, subst, sym}
use Rattle.std.specs.Prelude.{Bool, Err, IfOk, None, Ok, Result, Some, is_some, map}
use Rattle.std.specs.Option.{unwrap_or}
use Rattle.std.specs.List.{AllByRecursion}
use Rattle.table_types.specs.declared.update.Update.{Update}
use Rattle.table_cell.specs.declared.errors.StrangeBatch.{StrangeBatch}
use Rattle.table_cell.specs.Histories.{CellState, new_cell}
use Rattle.node_text.specs.Calls.{IsCall}
use Rattle.node_text.specs.Scripts.{IsLineOf}
use Rattle.node_text.specs.declared.calls.Call.{Call}
use Rattle.node_text.specs.declared.calls.Call.TheVariants as calls
use Rattle.node_text.specs.declared.script_tables.ScriptTable.{ScriptTable}
use Rattle.node_text.specs.declared.scripts.Script.{Script}
use Rattle.text_commands.specs.Answers.{Adds, settled}
use Rattle.text_commands.specs.Running.{IsPrinted, PrintAll, Prints, Settles, batch_at, cell_of}

-- the batch is one that the script got, and its comparison is printed
pub settle_printed : (c : CellState) (given : List (List Update)) (session place : ℕ) (us : List Update) (before after : List ℕ)
    → batch_at given place ≡ Some us → ((r : Result (Unit {0}) StrangeBatch) × Settles c session us r × Adds (settled r) before after)
    → (text : List ℕ) × Prints c given (calls.Settle session place) text c given × (after ≡ before ++ text)
settle_printed c given session place us before after at (r, settles, (text, lines, same)) = (text, (us, r, at, settles, lines, refl, refl), same)

-- the calls of a script are in their ranges, and the numbers of their lines are at least 1
pub calls_are : (count : ℕ) (calls : List (ℕ × Call)) → AllByRecursion (λ call. IsLineOf count call.0 × IsCall call.1) calls
    → AllByRecursion (λ call. (1 ≤ call.0) × IsCall call.1) calls
calls_are count [] all = tt
calls_are count (call ∷ calls) (((first, last), is), all) = ((first, is), calls_are count calls all)

-- after the last call
pub all_printed : (start c : CellState) (given more : List (List Update)) (calls left : List (ℕ × Call)) (n : ℕ) (before after : List ℕ)
    → n ≡ length left → n ≡ 0
    → ((so_far : List ℕ) × (after ≡ before ++ so_far)
    × ((rest : List ℕ) (e : CellState) → PrintAll c more left rest e → PrintAll start given calls (so_far ++ rest) e))
    → (text : List ℕ) × PrintAll start given calls text c × (after ≡ before ++ text)
all_printed start c given more calls [] n before after count none (so_far, same, all) =
    (so_far ++ [], all [] c (refl, refl), same ∙ ap (λ t. before ++ t) (sym (append-nil so_far)))
all_printed start c given more calls (call ∷ left) n before after count none printed = absurd (omega (arith, count, none))

-- a script's new table
is_cell : (t : ScriptTable) (size first : ℕ) (nopurge : Bool) (c : CellState) → c ≡ new_cell t.definition size nopurge first
    → size ≡ unwrap_or t.size 1000000 → nopurge ≡ is_some t.nopurge → first ≡ unwrap_or t.first 1 → c ≡ cell_of t
is_cell t size first nopurge c made size_is nopurge_is first_is =
    made ∙ ap (λ n. new_cell t.definition n nopurge first) size_is
    ∙ ap (λ b. new_cell t.definition (unwrap_or t.size 1000000) b first) nopurge_is
    ∙ ap (λ n. new_cell t.definition (unwrap_or t.size 1000000) (is_some t.nopurge) n) first_is

pub cell_made : {E : Type 0} (t : ScriptTable) (size first : ℕ) (nopurge : Bool) (r : Result CellState E)
    → IfOk r (λ c. c ≡ new_cell t.definition size nopurge first) → size ≡ unwrap_or t.size 1000000 → nopurge ≡ is_some t.nopurge
    → first ≡ unwrap_or t.first 1 → IfOk r (λ c. c ≡ cell_of t)
cell_made t size first nopurge (Ok c) made size_is nopurge_is first_is = is_cell t size first nopurge c made size_is nopurge_is first_is
cell_made t size first nopurge (Err error) made size_is nopurge_is first_is = tt

-- all tables of a script
pub cells_made : (ts left : List ScriptTable) (n : ℕ) (cells : List CellState) → n ≡ length left → n ≡ 0
    → cells ++ map cell_of left ≡ map cell_of ts → cells ≡ map cell_of ts
cells_made ts [] n cells count none made = sym (append-nil cells) ∙ made
cells_made ts (t ∷ left) n cells count none made = absurd (omega (arith, count, none))

-- no line is refused, and the calls are made of the script's new table, with no batch and nothing printed before
pub run_printed : (s : Script) (c e : CellState) (given : List (List Update)) (before after : List ℕ)
    → c ≡ cell_of s.table → given ≡ [] → before ≡ [] → s.refused ≡ None
    → ((text : List ℕ) × PrintAll c given s.calls.items text e × (after ≡ before ++ text)) → IsPrinted s after
unfolding IsPrinted
run_printed s c e given before after cell none nothing whole (text, printed, same) =
    let all : PrintAll (cell_of s.table) [] s.calls.items text e
    = subst (λ x. PrintAll x [] s.calls.items text e) cell (subst (λ g. PrintAll c g s.calls.items text e) none printed) in
    let is : after ≡ text = same ∙ ap (λ b. b ++ text) nothing in
    (e, whole, subst (λ t. PrintAll (cell_of s.table) [] s.calls.items t e) (sym is) all)
