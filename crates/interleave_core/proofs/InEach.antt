-- One change after another, in each table: closing and opening sessions.
use Rattle.std.proofs.Common.{◌≡◌, ◌≢◌, ◌≤◌, ◌<◌, ℕ, ◌+◌, List, [], ◌∷◌, ◌++◌, length, map, take, drop, get_or, set, Option, Some, None, Result, Ok, Err, refl, sym, ap, subst, ◌∙◌, arith, append_assoc, append-nil}
use Rattle.std.specs.List.{AllByRecursion}
use Rattle.std.proofs.lemmas.List.{drop_more, drop_all, drop-set-lt, take_all, take_more_set}
use Rattle.table_types.specs.declared.version.Version.{Version}
use Rattle.table_cell.specs.declared.errors.CloseError.{CloseError}
use Rattle.table_cell.specs.declared.errors.CloseError.TheVariants as unclosed
use Rattle.table_cell.specs.declared.errors.OpenError.{OpenError}
use Rattle.table_cell.specs.declared.errors.OpenError.TheVariants as unopened
use Rattle.table_cell.specs.Histories.{CellState, Closes, Opens, is_history_full}
use Rattle.table_cell.specs.Machine.{TableState, close_refusal, open_refusal}
use Rattle.interleave_core.specs.Opened.{CanClose, CanOpen}
use Rattle.interleave_core.specs.Worlds.{with_session, without_session}

-- ---- one table

absent : {E : Type 0} (o : Option E) (error : E) → o ≡ None → o ≡ Some error → ⊥
absent o error none some = cc

-- a table that doesn't refuse to open the session has opened it, unless memory ran out
pub opens_it : (session : ℕ) (version : Version) (c e : CellState) (r : Result (Unit {0}) OpenError) → r ≢ Err unopened.Memory → Opens c session version r e → CanOpen session c → e ≡ with_session session version c
opens_it session version c e (Ok done) unless (room, (made, is)) can =
    is ∙ ap (λ (s : TableState). record c { history = (with_session session version c).history; state = s }) made.2
opens_it session version c e (Err unopened.AlreadyOpen) unless (refused, is) can = absurd (absent (open_refusal (is_history_full c) c.state session) unopened.AlreadyOpen can refused)
opens_it session version c e (Err unopened.TooMany) unless (refused, is) can = absurd (absent (open_refusal (is_history_full c) c.state session) unopened.TooMany can refused)
opens_it session version c e (Err unopened.HistoryFull) unless (refused, is) can = absurd (absent (open_refusal (is_history_full c) c.state session) unopened.HistoryFull can refused)
opens_it session version c e (Err unopened.Memory) unless did can = absurd (unless refl)

pub closes_it : (session : ℕ) (c e : CellState) (r : Result (Unit {0}) CloseError) → r ≢ Err unclosed.Memory → Closes c session r e → CanClose session c → e ≡ without_session session c
closes_it session c e (Ok done) unless (room, (made, is)) can =
    is ∙ ap (λ (s : TableState). record c { history = (without_session session c).history; state = s }) made.2
closes_it session c e (Err unclosed.NoSession) unless (refused, is) can = absurd (absent (close_refusal (is_history_full c) c.state session) unclosed.NoSession can refused)
closes_it session c e (Err unclosed.HistoryFull) unless (refused, is) can = absurd (absent (close_refusal (is_history_full c) c.state session) unclosed.HistoryFull can refused)
closes_it session c e (Err unclosed.Memory) unless did can = absurd (unless refl)

-- ---- one after another

-- if all tables could be changed so, those before the place were, and the others still can be
abbrev pub IsDoneTo : (CellState → Type 0) → (CellState → CellState) → List CellState → List CellState → ℕ → Type 0
IsDoneTo Can change start cells i =
    AllByRecursion Can start → AllByRecursion Can (drop i cells) × (take i cells ++ map change (drop i cells) ≡ map change start)

pub done_none : (Can : CellState → Type 0) (change : CellState → CellState) (start : List CellState) → IsDoneTo Can change start start 0
done_none Can change start = λ (all : AllByRecursion Can start). (all, refl)

pub done_one : (Can : CellState → Type 0) (change : CellState → CellState) (start cells : List CellState) (i : ℕ) (c new : CellState) → i < length cells → c ≡ get_or cells i c
    → (Can c → new ≡ change c) → IsDoneTo Can change start cells i → IsDoneTo Can change start (set cells i new) (i + 1)
done_one Can change start cells i c new below is does before = λ (all : AllByRecursion Can start).
    let so_far = before all in
    let split : drop i cells ≡ c ∷ drop (i + 1) cells = drop_more cells i c below ∙ ap (λ (x : CellState). x ∷ drop (i + 1) cells) (sym is) in
    let can : AllByRecursion Can (c ∷ drop (i + 1) cells) = subst (λ (l : List CellState). AllByRecursion Can l) split so_far.0 in
    let later : drop (i + 1) (set cells i new) ≡ drop (i + 1) cells = drop-set-lt (i + 1) cells i new (omega arith) in
    let first : take (i + 1) (set cells i new) ≡ take i cells ++ change c ∷ [] =
    take_more_set cells i new below ∙ ap (λ (x : CellState). take i cells ++ x ∷ []) (does can.0) in
    let together : take (i + 1) (set cells i new) ++ map change (drop (i + 1) (set cells i new)) ≡ take i cells ++ map change (c ∷ drop (i + 1) cells) =
    ap (λ (l : List CellState). l ++ map change (drop (i + 1) (set cells i new))) first
    ∙ ap (λ (l : List CellState). (take i cells ++ change c ∷ []) ++ map change l) later
    ∙ append_assoc (take i cells) (change c ∷ []) (map change (drop (i + 1) cells)) in (
      subst (λ (l : List CellState). AllByRecursion Can l) (sym later) can.1,
      together ∙ ap (λ (l : List CellState). take i cells ++ map change l) (sym split) ∙ so_far.1,
    )

pub done_all : (Can : CellState → Type 0) (change : CellState → CellState) (start cells : List CellState) (i : ℕ) → length cells ≤ i
    → IsDoneTo Can change start cells i → AllByRecursion Can start → cells ≡ map change start
done_all Can change start cells i past done all =
    let so = done all in
    let front : take i cells ++ map change (drop i cells) ≡ cells =
    ap (λ (l : List CellState). take i cells ++ map change l) (drop_all i cells past) ∙ append-nil (take i cells) ∙ take_all i cells past in
    sym front ∙ so.1
