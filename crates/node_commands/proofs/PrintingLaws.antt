-- The rows of one table after another are printed.
use Rattle.std.proofs.Common.{◌≡◌, ◌≤◌, ◌<◌, ◌+◌, ◌++◌, ◌∙◌, ℕ, List, [], ap, append_assoc, drop, get_or, length, refl, subst, sym}
use Rattle.std.proofs.lemmas.List.{append-nil, drop_all}
use Rattle.table_shards.specs.declared.unlocked.UnlockedTable.{UnlockedTable}
use Rattle.node_commands.specs.Printing.{AreRowsOf, AreRowsOfAll}
use Rattle.node_commands.proofs.Lists.{next_left}

-- the text gained the rows of the tables
abbrev pub HasRows : List UnlockedTable → List ℕ → List ℕ → Type 0
HasRows tables old new = (rows : List ℕ) × AreRowsOfAll tables rows × (new ≡ old ++ rows)

-- with the rows of the tables from place i on, the text gains those of all
abbrev pub SoFar : List UnlockedTable → ℕ → List ℕ → List ℕ → Type 0
SoFar tables i old before = (rest : List ℕ) → AreRowsOfAll (drop i tables) rest → HasRows tables old (before ++ rest)

-- no rows yet
pub none_pushed : (tables : List UnlockedTable) (old : List ℕ) → SoFar tables 0 old old
none_pushed tables old rest rows = (rest, rows, refl)

-- the rows of one more table
pub rows_pushed : (tables : List UnlockedTable) (i : ℕ) (t : UnlockedTable) (old before after one rest : List ℕ) → i < length tables → t ≡ get_or tables i t
    → AreRowsOf t.cell one → after ≡ before ++ one → AreRowsOfAll (drop (i + 1) tables) rest → SoFar tables i old before → HasRows tables old (after ++ rest)
rows_pushed tables i t old before after one rest lt is rows same others so_far =
    let left : AreRowsOfAll (drop i tables) (one ++ rest) = subst (λ (ts : List UnlockedTable). AreRowsOfAll ts (one ++ rest)) (sym (next_left tables i t lt is)) (one, rest, rows, others, refl) in
    let text : before ++ (one ++ rest) ≡ after ++ rest = sym (append_assoc before one rest) ∙ ap (λ (xs : List ℕ). xs ++ rest) (sym same) in
    subst (λ (xs : List ℕ). HasRows tables old xs) text (so_far (one ++ rest) left)

-- the rows of all tables
pub all_pushed : (tables : List UnlockedTable) (i : ℕ) (old before : List ℕ) → length tables ≤ i → SoFar tables i old before → HasRows tables old before
all_pushed tables i old before most so_far =
    let none : AreRowsOfAll (drop i tables) [] = subst (λ (ts : List UnlockedTable). AreRowsOfAll ts []) (sym (drop_all i tables most)) refl in
    subst (λ (xs : List ℕ). HasRows tables old xs) (append-nil before) (so_far [] none)
