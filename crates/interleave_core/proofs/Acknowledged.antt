-- Which acknowledgements tables take, one after another, and what the tables are afterwards.
use Rattle.std.proofs.Common.{◌≡◌, ◌≤◌, ℕ, ◌+◌, ◌-◌, ◌&&◌, not, cond, Bool, true, false, nat_lt, nat_le, ◌==◌, if◌then◌else◌, List, [], ◌∷◌, ◌++◌, length-append, Option, Some, None, is_none, option_and_then, option_map, count_by, Ok, refl, sym, ap, subst, ◌∙◌, arith, inl, inr, zero-add}
use Rattle.std.specs.List.{AllByRecursion}
use Rattle.std.proofs.lemmas.Bool.{cases_Bool, cases_eq, cond-true, cond-false, cond_both, eq-eqb, ne_eqb, eqb-false, false≢true}
use Rattle.std.proofs.lemmas.List.Sums.{sum_by-cons}
use Rattle.std.proofs.lemmas.Option.{cond_some, option_and_then_some, same_Some}
use Rattle.table_types.specs.declared.copies.Settled.{Settled}
use Rattle.table_cell.specs.declared.errors.AckError.{AckError}
use Rattle.table_cell.specs.declared.errors.AckError.TheVariants as unacknowledged
use Rattle.table_cell.specs.declared.events.CellEvent.{CellEvent}
use Rattle.table_cell.specs.declared.events.CellEvent.TheVariants as events
use Rattle.table_cell.specs.declared.events.CellReply.{CellReply}
use Rattle.table_cell.specs.declared.events.CellReply.TheVariants as replies
use Rattle.table_cell.specs.declared.progress.Progress.{Progress}
use Rattle.table_cell.specs.Histories.{Acknowledges, CellState, is_history_full, room_of}
use Rattle.table_cell.specs.Machine.{TableState, ack_refusal, acknowledging, progress_of, settled_by, with_progress}
use Rattle.table_cell.proofs.HandingSessions.{own_with}
use Rattle.table_cell.proofs.RefusalLaws.{ack_free}
use Rattle.interleave_core.specs.Acks.{AreTaught, HaveRoom, IsTaught}
use Rattle.interleave_core.specs.Moves.{acked, acked_all}
use Rattle.interleave_core.specs.Worlds.{cell_at, is_table, with_cell}
use Rattle.interleave_core.proofs.Places.{some_none}
use Rattle.interleave_core.proofs.TieCells.{apart, at_here, at_there, found_id, with_here, with_there}

-- ---- one table

-- the table after an acknowledgement that it takes
abbrev pub after_ack : ℕ → ℕ → CellState → CellState
after_ack session number c =
    record c { history = c.history ++ (events.Ack session number, replies.Ack (settled_by (progress_of session c.state) number)) ∷ []; state = record c.state { sessions = with_progress session (acknowledging number) c.state.sessions } }

-- the session is open, and was taught the number or a later one
abbrev was_taught : ℕ → Option Progress → Bool
was_taught number None = false
was_taught number (Some progress) = not (nat_lt progress.taught number)

-- a table takes an acknowledgement if the session was taught the number and there is room
takes : (full : Bool) (s : TableState) (session number : ℕ) → is_none (ack_refusal full s session number) ≡ (was_taught number (progress_of session s) && not full)
takes full s session number = by (progress_of session s) refl
  where
    of_session : Option Progress → Option AckError
    of_session None = Some unacknowledged.NoSession
    of_session (Some progress) =
        if nat_lt progress.taught number then Some unacknowledged.AckAhead
        else (if full then Some unacknowledged.HistoryFull
        else None)

    each : (ahead full : Bool) → is_none (if ahead then Some unacknowledged.AckAhead else (if full then Some unacknowledged.HistoryFull else None)) ≡ (not ahead && not full)
    each true full = refl
    each false true = refl
    each false false = refl

    by : (o : Option Progress) → progress_of session s ≡ o → is_none (of_session (progress_of session s)) ≡ (was_taught number (progress_of session s) && not full)
    by None at =
        ap (λ (o : Option Progress). is_none (of_session o)) at
        ∙ sym (ap (λ (o : Option Progress). was_taught number o && not full) at)
    by (Some progress) at =
        ap (λ (o : Option Progress). is_none (of_session o)) at
        ∙ each (nat_lt progress.taught number) full
        ∙ sym (ap (λ (o : Option Progress). was_taught number o && not full) at)

and_true : (b : Bool) → (b && true) ≡ b
and_true true = refl
and_true false = refl

pub none_from : {E : Type 0} (o : Option E) → is_none o ≡ true → o ≡ None
none_from None e = refl
none_from (Some x) e = absurd (false≢true e)

-- whether an acknowledgement is taken, apart from room, stays as it is
still_taught : (session number other : ℕ) (o : Option Progress) → was_taught other (option_map (acknowledging number) o) ≡ was_taught other o
still_taught session number other None = refl
still_taught session number other (Some p) =
    ap (λ (n : ℕ). not (nat_lt n other))
    (cond_both (nat_le number p.acknowledged) p (record p { acknowledged = number }) (λ (q : Progress). q.taught ≡ p.taught) (λ _. refl) (λ _. refl))

taught_after : (session number other : ℕ) (c : CellState) → is_none (ack_refusal false (after_ack session number c).state session other) ≡ is_none (ack_refusal false c.state session other)
taught_after session number other c =
    takes false (after_ack session number c).state session other
    ∙ ap (λ (o : Option Progress). was_taught other o && true) (own_with session (acknowledging number) c.state.sessions)
    ∙ ap (λ (b : Bool). b && true) (still_taught session number other (progress_of session c.state))
    ∙ sym (takes false c.state session other)

pub refusal_after : (session number other : ℕ) (c : CellState) → ack_refusal false c.state session other ≡ None → ack_refusal false (after_ack session number c).state session other ≡ None
refusal_after session number other c granted =
    none_from (ack_refusal false (after_ack session number c).state session other)
    (taught_after session number other c ∙ ap (λ (o : Option AckError). is_none o) granted)

refusal_before : (session number other : ℕ) (c : CellState) → ack_refusal false (after_ack session number c).state session other ≡ None → ack_refusal false c.state session other ≡ None
refusal_before session number other c granted =
    none_from (ack_refusal false c.state session other)
    (sym (taught_after session number other c) ∙ ap (λ (o : Option AckError). is_none o) granted)

-- an acknowledgement takes the room of one event
room_after : (session number : ℕ) (c : CellState) → room_of (after_ack session number c) ≡ room_of c - 1
room_after session number c =
    let entry : CellEvent × CellReply = (events.Ack session number, replies.Ack (settled_by (progress_of session c.state) number)) in
    omega (arith, length-append c.history (entry ∷ []))

-- a table that takes an acknowledgement was taught the number, and has room
pub taken : (session number : ℕ) (c d : CellState) → acked session number c ≡ Some d
    → (d ≡ after_ack session number c) × (ack_refusal false c.state session number ≡ None) × (1 ≤ room_of c)
taken session number c d is =
    let parts = cond_some (is_none (ack_refusal (is_history_full c) c.state session number)) (after_ack session number c) d is in
    let granted = none_from (ack_refusal (is_history_full c) c.state session number) parts.0 in
    let free = ack_free (is_history_full c) c.state session number granted in
    let some : room_of c ≡ 0 → ⊥ = eqb-false (room_of c) 0 free.0 in
    (sym parts.1, free.1, omega (arith, some))

-- and the other way round
pub takes_it : (session number : ℕ) (c : CellState) → ack_refusal false c.state session number ≡ None → 1 ≤ room_of c
    → acked session number c ≡ Some (after_ack session number c)
takes_it session number c granted room =
    let known : was_taught number (progress_of session c.state) ≡ true =
    sym (and_true (was_taught number (progress_of session c.state))) ∙ sym (takes false c.state session number) ∙ ap (λ (o : Option AckError). is_none o) granted in
    let free : is_history_full c ≡ false = ne_eqb (room_of c) 0 (λ e. omega (arith, e, room)) in
    cond-true (is_none (ack_refusal (is_history_full c) c.state session number)) (Some (after_ack session number c)) None
    (takes (is_history_full c) c.state session number ∙ ap (λ (b : Bool). was_taught number (progress_of session c.state) && not b) free
    ∙ ap (λ (b : Bool). b && true) known)

-- the call of an acknowledgement makes that table
pub made : (session number : ℕ) (c d e : CellState) (settled : Settled) → Acknowledges c session number (Ok settled) e → acked session number c ≡ Some d → e ≡ d
made session number c d e settled (free, ((granted, reply, state), is)) taken_as =
    is
    ∙ ap (λ (r : CellReply). record c { history = c.history ++ (events.Ack session number, r) ∷ []; state = e.state }) reply
    ∙ ap (λ (s : TableState). record c { history = c.history ++ (events.Ack session number, replies.Ack (settled_by (progress_of session c.state) number)) ∷ []; state = s }) state
    ∙ sym (taken session number c d taken_as).0

-- ---- tables by id

id_at : (t : ℕ) (c : CellState) (cells : List CellState) → cell_at t cells ≡ Some c → is_table t c ≡ true
id_at t c cells at = eq-eqb c.state.definition.id t (found_id t c cells at)

-- the table is changed
at_changed : (t : ℕ) (c d : CellState) (cells : List CellState) → cell_at t cells ≡ Some c → is_table t d ≡ true → cell_at t (with_cell t d cells) ≡ Some d
at_changed t c d [] at own = absurd (some_none c (sym at))
at_changed t c d (x ∷ xs) at own = elim (cases_Bool (is_table t x)) [
  | inl here ↦ ap (cell_at t) (with_here t d x xs here) ∙ at_here t d xs own
  | inr there ↦
      ap (cell_at t) (with_there t d x xs there) ∙ at_there t x (with_cell t d xs) there
      ∙ at_changed t c d xs (sym (at_there t x xs there) ∙ at) own
]

-- and no other
at_other : (t u : ℕ) (d : CellState) (cells : List CellState) → is_table u d ≡ true → (t ≡ u → ⊥) → cell_at t (with_cell u d cells) ≡ cell_at t cells
at_other t u d [] own other = refl
at_other t u d (x ∷ xs) own other = elim (cases_Bool (is_table u x)) [
  | inl here ↦
      ap (cell_at t) (with_here u d x xs here) ∙ at_there t d xs (apart t u d own other)
      ∙ sym (at_there t x xs (apart t u x here other))
  | inr there ↦
      ap (cell_at t) (with_there u d x xs there)
      ∙ ap (λ (o : Option CellState). cond (is_table t x) (Some x) o) (at_other t u d xs own other)
]

-- ---- one after another

-- the first of the acknowledgements, and then the others
first_of : (session : ℕ) (ack : ℕ × ℕ) (acks : List (ℕ × ℕ)) (cells : List CellState) (e : List CellState) → acked_all session (ack ∷ acks) cells ≡ Some e
    → (c : CellState) × (cell_at ack.0 cells ≡ Some c) × (acked session ack.1 c ≡ Some (after_ack session ack.1 c)) × (ack_refusal false c.state session ack.1 ≡ None) × (1 ≤ room_of c)
    × (acked_all session acks (with_cell ack.0 (after_ack session ack.1 c) cells) ≡ Some e)
first_of session ack acks cells e all =
    option_and_then_some (λ d. acked_all session acks (with_cell ack.0 d cells)) (option_and_then (acked session ack.1) (cell_at ack.0 cells)) e all
    (λ d first others. option_and_then_some (acked session ack.1) (cell_at ack.0 cells) d first
    (λ c at is.
    let parts = taken session ack.1 c d is in
    (c, at, is ∙ ap (λ (x : CellState). Some x) parts.0, parts.1, parts.2, subst (λ (x : CellState). acked_all session acks (with_cell ack.0 x cells) ≡ Some e) parts.0 others)))

count_first : (t : ℕ) (ack : ℕ × ℕ) (acks : List (ℕ × ℕ)) → ack.0 ≡ t → count_by (λ a. a.0 == t) (ack ∷ acks) ≡ 1 + count_by (λ a. a.0 == t) acks
count_first t ack acks same =
    sum_by-cons (λ (a : ℕ × ℕ). cond (a.0 == t) 1 0) ack acks
    ∙ ap (λ (n : ℕ). n + count_by (λ (a : ℕ × ℕ). a.0 == t) acks) (cond-true (ack.0 == t) 1 0 (eq-eqb ack.0 t same))

count_rest : (t : ℕ) (ack : ℕ × ℕ) (acks : List (ℕ × ℕ)) → (ack.0 ≡ t → ⊥) → count_by (λ a. a.0 == t) (ack ∷ acks) ≡ count_by (λ a. a.0 == t) acks
count_rest t ack acks other =
    sum_by-cons (λ (a : ℕ × ℕ). cond (a.0 == t) 1 0) ack acks
    ∙ ap (λ (n : ℕ). n + count_by (λ (a : ℕ × ℕ). a.0 == t) acks) (cond-false (ack.0 == t) 1 0 (ne_eqb ack.0 t other))
    ∙ zero-add (count_by (λ (a : ℕ × ℕ). a.0 == t) acks)

all_so : {A : Type 0} (P Q : A → Type 0) → ((x : A) → P x → Q x) → (xs : List A) → AllByRecursion P xs → AllByRecursion Q xs
all_so P Q so [] all = tt
all_so P Q so (x ∷ xs) (one, rest) = (so x one, all_so P Q so xs rest)

-- what was taught is the same after an acknowledgement of table t
taught_then : (session number t : ℕ) (c : CellState) (cells : List CellState) → cell_at t cells ≡ Some c
    → (ack : ℕ × ℕ) → IsTaught session cells ack → IsTaught session (with_cell t (after_ack session number c) cells) ack
taught_then session number t c cells at ack (d, at_d, granted) = elim (cases_eq ack.0 t) [
  | inl same ↦
      let is : d ≡ c = same_Some d c (sym at_d ∙ ap (λ (u : ℕ). cell_at u cells) same ∙ at) in (
        after_ack session number c,
        ap (λ (u : ℕ). cell_at u (with_cell t (after_ack session number c) cells)) same ∙ at_changed t c (after_ack session number c) cells at (id_at t c cells at),
        refusal_after session number ack.1 c (subst (λ (x : CellState). ack_refusal false x.state session ack.1 ≡ None) is granted),
      )
  | inr other ↦ (d, at_other ack.0 t (after_ack session number c) cells (id_at t c cells at) other ∙ at_d, granted)
]

taught_yet : (session number t : ℕ) (c : CellState) (cells : List CellState) → cell_at t cells ≡ Some c
    → (ack : ℕ × ℕ) → IsTaught session (with_cell t (after_ack session number c) cells) ack → IsTaught session cells ack
taught_yet session number t c cells at ack (d, at_d, granted) = elim (cases_eq ack.0 t) [
  | inl same ↦
      let there = ap (λ (u : ℕ). cell_at u (with_cell t (after_ack session number c) cells)) same ∙ at_changed t c (after_ack session number c) cells at (id_at t c cells at) in
      let is : d ≡ after_ack session number c = same_Some d (after_ack session number c) (sym at_d ∙ there) in (
        c,
        ap (λ (u : ℕ). cell_at u cells) same ∙ at,
        refusal_before session number ack.1 c (subst (λ (x : CellState). ack_refusal false x.state session ack.1 ≡ None) is granted),
      )
  | inr other ↦ (d, sym (at_other ack.0 t (after_ack session number c) cells (id_at t c cells at) other) ∙ at_d, granted)
]

room_then : (session : ℕ) (ack : ℕ × ℕ) (acks : List (ℕ × ℕ)) (c : CellState) (cells : List CellState) → cell_at ack.0 cells ≡ Some c
    → HaveRoom cells (ack ∷ acks) → HaveRoom (with_cell ack.0 (after_ack session ack.1 c) cells) acks
room_then session ack acks c cells at room t d at_d = elim (cases_eq ack.0 t) [
  | inl same ↦
      let there = ap (λ (u : ℕ). cell_at u (with_cell ack.0 (after_ack session ack.1 c) cells)) (sym same) ∙ at_changed ack.0 c (after_ack session ack.1 c) cells at (id_at ack.0 c cells at) in
      let is : d ≡ after_ack session ack.1 c = same_Some d (after_ack session ack.1 c) (sym at_d ∙ there) in
      let before : count_by (λ a. a.0 == t) (ack ∷ acks) ≤ room_of c = room t c (ap (λ (u : ℕ). cell_at u cells) (sym same) ∙ at) in
      let first = count_first t ack acks same in
      let left : room_of d ≡ room_of c - 1 = ap room_of is ∙ room_after session ack.1 c in
      omega (arith, before, first, left)
  | inr other ↦
      let here : cell_at t cells ≡ Some d = sym (at_other t ack.0 (after_ack session ack.1 c) cells (id_at ack.0 c cells at) (λ same. other (sym same))) ∙ at_d in
      subst (λ (n : ℕ). n ≤ room_of d) (count_rest t ack acks other) (room t d here)
]

room_yet : (session : ℕ) (ack : ℕ × ℕ) (acks : List (ℕ × ℕ)) (c : CellState) (cells : List CellState) → cell_at ack.0 cells ≡ Some c → 1 ≤ room_of c
    → HaveRoom (with_cell ack.0 (after_ack session ack.1 c) cells) acks → HaveRoom cells (ack ∷ acks)
room_yet session ack acks c cells at some room t d at_d = elim (cases_eq ack.0 t) [
  | inl same ↦
      let is : d ≡ c = same_Some d c (sym at_d ∙ ap (λ (u : ℕ). cell_at u cells) (sym same) ∙ at) in
      let there = ap (λ (u : ℕ). cell_at u (with_cell ack.0 (after_ack session ack.1 c) cells)) (sym same) ∙ at_changed ack.0 c (after_ack session ack.1 c) cells at (id_at ack.0 c cells at) in
      let later : count_by (λ a. a.0 == t) acks ≤ room_of (after_ack session ack.1 c) = room t (after_ack session ack.1 c) there in
      let first = count_first t ack acks same in
      let left = room_after session ack.1 c in
      let same_room : room_of d ≡ room_of c = ap room_of is in
      omega (arith, later, first, left, same_room, some)
  | inr other ↦
      let there : cell_at t (with_cell ack.0 (after_ack session ack.1 c) cells) ≡ Some d = at_other t ack.0 (after_ack session ack.1 c) cells (id_at ack.0 c cells at) (λ same. other (sym same)) ∙ at_d in
      subst (λ (n : ℕ). n ≤ room_of d) (sym (count_rest t ack acks other)) (room t d there)
]

-- tables that take all acknowledgements were taught their numbers, and have room
pub all_taken : (session : ℕ) (acks : List (ℕ × ℕ)) (cells e : List CellState) → acked_all session acks cells ≡ Some e → AreTaught session cells acks × HaveRoom cells acks
all_taken session [] cells e all = (tt, λ t c at. omega arith)
all_taken session (ack ∷ acks) cells e all =
    let first = first_of session ack acks cells e all in
    let c : CellState = first.0 in
    let others = all_taken session acks (with_cell ack.0 (after_ack session ack.1 c) cells) e first.5 in (
      ((c, first.1, first.3), all_so (IsTaught session (with_cell ack.0 (after_ack session ack.1 c) cells)) (IsTaught session cells) (taught_yet session ack.1 ack.0 c cells first.1) acks others.0),
      room_yet session ack acks c cells first.1 first.4 others.1,
    )

-- and the other way round
pub all_are_taken : (session : ℕ) (acks : List (ℕ × ℕ)) (cells : List CellState) → AreTaught session cells acks → HaveRoom cells acks → (e : List CellState) × (acked_all session acks cells ≡ Some e)
all_are_taken session [] cells taught room = (cells, refl)
all_are_taken session (ack ∷ acks) cells ((c, at, granted), rest) room =
    let before : count_by (λ a. a.0 == ack.0) (ack ∷ acks) ≤ room_of c = room ack.0 c at in
    let counted = count_first ack.0 ack acks refl in
    let some : 1 ≤ room_of c = omega (arith, before, counted) in
    let is = takes_it session ack.1 c granted some in
    let next : List CellState = with_cell ack.0 (after_ack session ack.1 c) cells in
    let others = all_are_taken session acks next
    (all_so (IsTaught session cells) (IsTaught session next) (taught_then session ack.1 ack.0 c cells at) acks rest)
    (room_then session ack acks c cells at room) in (
      others.0,
      ap (λ (o : Option CellState). option_and_then (λ d. acked_all session acks (with_cell ack.0 d cells)) o)
          (ap (λ (o : Option CellState). option_and_then (acked session ack.1) o) at ∙ is)
          ∙ others.1,
    )
