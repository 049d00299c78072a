-- What the lesson with every name written costs, update by update.
use Rattle.std.proofs.Common.{◌≡◌, ℕ, ◌+◌, ◌≤◌, Bool, true, false, cond, List, [], ◌∷◌, ◌++◌, Option, Some, None, refl, arith}
use Rattle.std.specs.List.{AllByRecursion}
use Rattle.std.proofs.lemmas.List.Sums.{sum_by-cons, sum_by-append}
use Rattle.table_types.specs.declared.update.Update.{Update}
use Rattle.table_types.specs.Tables.{Definition}
use Rattle.table_types.specs.Rosters.{table_at}
use Rattle.peers_msg.specs.declared.message.Message.{Message}
use Rattle.peers_msg.specs.declared.message.Message.TheVariants as messages
use Rattle.peers_msg.specs.Spelling.{size_of, size_of_all}
use Rattle.known_state.specs.State.{State, Step, IsOwn, Legal}
use Rattle.known_state.specs.Known.{AreOwn}
use Rattle.known_state.specs.Cost.{Knowledge, knowledge_of, knowledge_after, is_selected, defining, definition_cost, selecting, selection_cost, written, written_lesson, full, cost, cost_from, IsOfRoster, Pays, Saves}
use Rattle.known_state.proofs.StepPays.{step_pays, list_pays}

-- a message that selects a table is as long as the selection costs
pub selecting_size : (roster : List Definition) (k : Knowledge) (id : ℕ) → size_of_all (selecting roster k id) ≡ selection_cost roster k id
selecting_size roster k id = chosen (is_selected k.selected id) (k.is_defined id) (table_at roster id)
  where
    one : (m : Message) → size_of_all (m ∷ []) ≡ size_of m
    one m = omega (arith, sum_by-cons size_of m [])

    chosen : (a b : Bool) (o : Option Definition) → size_of_all (cond a [] (cond b (messages.Switch id ∷ []) (defining o))) ≡ cond a 0 (cond b (size_of (messages.Switch id)) (definition_cost o))
    chosen true b o = refl
    chosen false true o = one (messages.Switch id)
    chosen false false None = refl
    chosen false false (Some d) = one (messages.Define d)

lesson_size : (roster : List Definition) (k : Knowledge) (us : List Update) → size_of_all (written_lesson roster k us) ≡ cost_from roster k us
lesson_size roster k [] = refl
lesson_size roster k (u ∷ us) =
    let rest : List Message = written_lesson roster (knowledge_after k u) us in
    let parts : size_of_all (selecting roster k u.table ++ (written roster k u ∷ rest)) ≡ size_of_all (selecting roster k u.table) + size_of_all (written roster k u ∷ rest) = sum_by-append size_of (selecting roster k u.table) (written roster k u ∷ rest) in
    let one : size_of_all (written roster k u ∷ rest) ≡ size_of (written roster k u) + size_of_all rest = sum_by-cons size_of (written roster k u) rest in
    let first = selecting_size roster k u.table in
    let later = lesson_size roster (knowledge_after k u) us in
    omega arith

-- the lesson's size is the sum of what its updates cost, one after another
pub full_is_cost : (roster : List Definition) (s : State) (us : List Update) → full roster s us ≡ cost roster s us
full_is_cost roster s us = lesson_size roster (knowledge_of s) us

-- so what pays for the cost pays for the size of that lesson
pub step_pays_full : (roster : List Definition) (s mid : State) (m : Message) (one rest : List Update) → AreOwn roster s.received.tables → IsOwn roster m → AllByRecursion (IsOfRoster roster) rest → Step s m one mid → Pays roster s m one rest mid
step_pays_full roster s mid m one rest own is_own all step =
    let paid = step_pays roster s mid m one rest own is_own all step in
    omega (arith, full_is_cost roster s (one ++ rest), full_is_cost roster mid rest)

pub list_pays_full : (roster : List Definition) (s e : State) (ms : List Message) (us : List Update) → AreOwn roster s.received.tables → AllByRecursion (IsOfRoster roster) us → Legal roster s ms us e → (saved : ℕ) × Saves roster s ms us saved × (full roster s us ≤ size_of_all ms + saved)
list_pays_full roster s e ms us own all legal =
    let paid = list_pays roster s e ms us own all legal in
    (paid.0, paid.1, omega (arith, full_is_cost roster s us, paid.2))
