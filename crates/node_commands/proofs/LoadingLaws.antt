-- A seat that gains one receipt after another.
use Rattle.std.proofs.Common.{arith, ◌≡◌, ◌≤◌, ◌<◌, ◌+◌, ◌++◌, ◌∙◌, ℕ, zero, suc, List, [], ◌∷◌, Ok, Result, ap, drop, get_or, length, map, refl, subst, sym}
use Rattle.std.specs.List.{flat_map}
use Rattle.std.proofs.lemmas.List.{drop_all}
use Rattle.table_types.specs.Tables.{Definition}
use Rattle.table_types.specs.declared.update.Update.{Update}
use Rattle.table_types.specs.declared.version.Version.TheVariants as versions
use Rattle.table_cell.specs.Histories.{CellState, events_of}
use Rattle.table_cell.specs.declared.events.CellEvent.{CellEvent}
use Rattle.table_cell.specs.declared.events.CellEvent.TheVariants as events
use Rattle.table_cell.specs.declared.events.CellReply.{CellReply}
use Rattle.table_shards.specs.Receipts.{SeatState, fresh_seat, with_receipt}
use Rattle.table_shards.specs.Rounds.{fresh_from, fresh_seats}
use Rattle.table_shards.specs.Holding.{Leaves, receipted}
use Rattle.table_shards.specs.declared.errors.ShardError.{ShardError}
use Rattle.node_commands.specs.declared.node.loading.NodeTables.{NodeTables}
use Rattle.node_commands.specs.Loading.{AreOpened, Gains, loaded_at, loads_of, new_of, opens_of}
use Rattle.node_commands.proofs.Lists.{next_left}

-- ---- one receipt

-- the receipt of a call of `held`
pub one_gained : (table : ℕ) (event : CellEvent) (s e : SeatState) (c : CellState) (reply : CellReply) → e ≡ receipted table c s event reply → Gains ((table, event) ∷ []) s e
one_gained table event s e c reply is = (events_of c + 1, reply, is)

-- the same of a table that learns the update itself, at the moment at which the rows are loaded
pub one_learned : (table now : ℕ) (u own : Update) (s e : SeatState) (c : CellState) (reply : CellReply) → own ≡ u → now ≡ loaded_at
    → e ≡ receipted table c s (events.Learn 1 own now) reply → Gains ((table, events.Learn 1 u loaded_at) ∷ []) s e
one_learned table now u own s e c reply same at is =
    one_gained table (events.Learn 1 u loaded_at) s e c reply
    (is ∙ (ap (λ (x : Update). receipted table c s (events.Learn 1 x now) reply) same ∙ ap (λ (m : ℕ). receipted table c s (events.Learn 1 u m) reply) at))

-- after a call of `held` that succeeds and returns no reply, the seat has a receipt with some reply
pub leaves_ok : {A E : Type 0} (call : CellState → Result A E → CellState → Type 0) (event : CellEvent) (reply : A → CellReply) (table : ℕ) (c e : CellState) (s t : SeatState)
    (r : Result (Unit {0}) (ShardError E)) → r ≡ Ok tt → Leaves call event reply table c s r e t → (answer : A) × (t ≡ receipted table c s event (reply answer))
leaves_ok {A = A} {E = E} call event reply table c e s t r is leaves =
    let done = subst (λ (x : Result (Unit {0}) (ShardError E)). Leaves call event reply table c s x e t) is leaves in
    (done.0, done.1.2)

-- ---- one after another

pub gains_more : (calls more : List (ℕ × CellEvent)) (s m e : SeatState) → Gains calls s m → Gains more m e → Gains (calls ++ more) s e
gains_more [] more s m e same rest = subst (λ (x : SeatState). Gains more x e) same rest
gains_more (call ∷ calls) more s m e (place, reply, gains) rest =
    (place, reply, gains_more calls more (with_receipt s call.0 (record { place = place; event = call.1; reply = reply })) m e gains rest)

-- ---- sessions

opens_more : (table first count : ℕ) → opens_of table first (count + 1) ≡ opens_of table first count ++ (table, events.Open (first + count) versions.V21) ∷ []
opens_more table first zero =
    let same : first ≡ first + 0 = omega arith in
    ap (λ (n : ℕ). (table, events.Open n versions.V21) ∷ []) same
opens_more table first (suc count) =
    let same : first + 1 + count ≡ first + suc count = omega arith in
    let step : suc count + 1 ≡ suc (count + 1) = omega arith in
    let later : opens_of table (first + 1) (count + 1) ≡ opens_of table (first + 1) count ++ (table, events.Open (first + suc count) versions.V21) ∷ [] =
    opens_more table (first + 1) count ∙ ap (λ (n : ℕ). opens_of table (first + 1) count ++ (table, events.Open n versions.V21) ∷ []) same in
    ap (λ (n : ℕ). opens_of table first n) step ∙ ap (λ (calls : List (ℕ × CellEvent)). (table, events.Open first versions.V21) ∷ calls) later

pub none_opened : (table : ℕ) (s : SeatState) → Gains (opens_of table 1 0) s s
none_opened table s = refl

pub one_more_opened : (table count : ℕ) (s m e : SeatState) → Gains (opens_of table 1 count) s m → Gains ((table, events.Open (count + 1) versions.V21) ∷ []) m e → Gains (opens_of table 1 (count + 1)) s e
one_more_opened table count s m e so_far opened =
    let same : count + 1 ≡ 1 + count = omega arith in
    subst (λ (calls : List (ℕ × CellEvent)). Gains calls s e) (sym (opens_more table 1 count))
    (gains_more (opens_of table 1 count) ((table, events.Open (1 + count) versions.V21) ∷ []) s m e so_far
    (subst (λ (n : ℕ). Gains ((table, events.Open n versions.V21) ∷ []) m e) same opened))

-- ---- lists

-- what comes of an element and then of those after it, comes of the list from that element on
pub next_gained : {A : Type 0} (f : A → List (ℕ × CellEvent)) (xs : List A) (i : ℕ) (x : A) (s m e : SeatState) → i < length xs → x ≡ get_or xs i x
    → Gains (f x) s m → Gains (flat_map f (drop (i + 1) xs)) m e → Gains (flat_map f (drop i xs)) s e
next_gained {A = A} f xs i x s m e lt is one rest =
    subst (λ (ys : List A). Gains (flat_map f ys) s e) (sym (next_left xs i x lt is)) (gains_more (f x) (flat_map f (drop (i + 1) xs)) s m e one rest)

-- and nothing comes of the list from its end on
pub none_gained : {A : Type 0} (f : A → List (ℕ × CellEvent)) (xs : List A) (i : ℕ) (s : SeatState) → length xs ≤ i → Gains (flat_map f (drop i xs)) s s
none_gained {A = A} f xs i s most = subst (λ (ys : List A). Gains (flat_map f ys) s s) (sym (drop_all i xs most)) refl

-- ---- the tables of a node

-- the first seat, and those of the sessions
pub first_seat : (sessions : ℕ) → fresh_seats (sessions + 1) ≡ fresh_seat 1 ∷ fresh_from 2 sessions
first_seat sessions =
    let same : sessions + 1 ≡ suc sessions = omega arith in
    ap (λ (n : ℕ). fresh_from 1 n) same

pub opened_with : (sessions : ℕ) (ds : List Definition) (us : List Update) (t : NodeTables) (cells : List CellState) (first : SeatState) → t.roster ≡ ds
    → t.shards ≡ record { seats = sessions + 1; cells = cells } → cells ≡ map new_of ds → first ≡ fresh_seat 1
    → Gains (loads_of sessions ds us) first t.loader → AreOpened sessions ds us t
opened_with sessions ds us t cells first same locked new fresh gains = (
  same,
  locked ∙ ap (λ (cs : List CellState). record { seats = sessions + 1; cells = cs }) new,
  subst (λ (s : SeatState). Gains (loads_of sessions ds us) s t.loader) fresh gains,
)
