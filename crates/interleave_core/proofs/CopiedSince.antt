-- What is put was copied since the connection was new.
use Rattle.std.proofs.Common.{◌≡◌, ◌≢◌, ◌<◌, ◌^◌, ℕ, List, [], ◌∷◌, ◌++◌, length, drop, take, Option, Some, None, Ok, Err, refl, sym, ap, subst, ◌∙◌, inl, inr, ◌⊎◌, append_assoc, append-nil}
use Rattle.std.specs.Prelude.{filter_map, nat_le}
use Rattle.std.specs.List.{AllByRecursion, list_any}
use Rattle.table_types.specs.declared.copies.CopyKind.{CopyKind}
use Rattle.table_types.specs.declared.update.Update.{Update}
use Rattle.table_types.specs.declared.version.Version.{Version}
use Rattle.table_types.specs.Tables.{Definition}
use Rattle.table_cell.specs.declared.events.CellEvent.{CellEvent}
use Rattle.table_cell.specs.declared.events.CellEvent.TheVariants as events
use Rattle.table_cell.specs.declared.events.CellReply.{CellReply}
use Rattle.table_cell.specs.declared.events.CellReply.TheVariants as replies
use Rattle.table_cell.specs.Machine.{has_out, progress_of, settled_by}
use Rattle.table_cell.specs.Histories.{CellState, Made}
use Rattle.interleave_core.specs.declared.step.Step.{Step}
use Rattle.interleave_core.specs.declared.step.Step.TheVariants as steps
use Rattle.interleave_core.specs.declared.way.Way.TheVariants as ways
use Rattle.interleave_core.specs.Moves.{ArrivesAtTeacher, AtConnection, AtTable, Breaks, CopiesFor, InConnection, InTable, IsArrived, IsFed, IsReadBy, IsReopened, LearnsFor, Moves, Reopens, RunsTo, TeachesOldest, ack_in, acked_all, is_made, reopened_all}
use Rattle.interleave_core.specs.Since.{HasNewConnection, RowsAreCopiedSince}
use Rattle.interleave_core.specs.SoundWorlds.{IsSoundWorld, IsTimelyStep}
use Rattle.interleave_core.specs.Ties.{WasCopied, joined, of_table}
use Rattle.interleave_core.specs.Worlds.{ConnectionState, WorldState, cell_at, connection_at, new_connection, roster_of, with_cell, with_connection}
use Rattle.interleave_core.proofs.TieAnswers.{after_one}
use Rattle.interleave_core.proofs.TieCells.{each_after, found_id, same_one}
use Rattle.interleave_core.proofs.TieOpenings.{each_reopened, same_cells}
use Rattle.interleave_core.proofs.TiePairs.{acked_made, all_append, all_so, copied_at_end, copied_still, made_history, same_id}
use Rattle.interleave_core.proofs.TieShares.{all_of_it, none_of_others, of_append, waits}
use Rattle.interleave_core.proofs.TieSteps.{copied_here}
use Rattle.interleave_core.proofs.TieTables.{tables_reopened}
use Rattle.interleave_core.proofs.WorldPlaces.{connection_after, connection_set, each_side, same_connections, same_tables}
use Rattle.interleave_core.proofs.WorldSteps.{Happens, learned, purged, refused_copy, run_sound, tracked}
use Rattle.interleave_core.proofs.WorldTold.{rows_of_taught}

-- ---- tables that grow

-- each table has the events that it had, and perhaps more
abbrev Grow : List CellState → List CellState → Type 0
Grow cells after =
    (t : ℕ) (x : CellState) → cell_at t after ≡ Some x → (c : CellState) × (more : List (CellEvent × CellReply)) × (cell_at t cells ≡ Some c) × (x.history ≡ c.history ++ more)

grow_same : (cells : List CellState) → Grow cells cells
grow_same cells t x at = (x, [], at, sym (append-nil x.history))

grow_on : (cells mid after : List CellState) → Grow cells mid → Grow mid after → Grow cells after
grow_on cells mid after first then t x at =
    let (m, more, at_mid, later) = then t x at in
    let (c, some, at_first, earlier) = first t m at_mid in
    (c, some ++ more, at_first, later ∙ ap (λ (l : List (CellEvent × CellReply)). l ++ more) earlier ∙ append_assoc c.history some more)

-- one event more
grow_made : (t : ℕ) (c e : CellState) (event : CellEvent) (reply : CellReply) (cells : List CellState) → cell_at t cells ≡ Some c → Made c event reply e → Grow cells (with_cell t e cells)
grow_made t c e event reply cells at made =
    each_after (λ (k : ℕ) (x : CellState). (old : CellState) × (more : List (CellEvent × CellReply)) × (cell_at k cells ≡ Some old) × (x.history ≡ old.history ++ more)) t c e cells at
    (same_id c e event reply made ∙ found_id t c cells at) (c, (event, reply) ∷ [], at, made_history c e event reply made) (λ k x differs old. (x, [], old, sym (append-nil x.history)))

grow_event : (t : ℕ) (c e : CellState) (cells : List CellState) → cell_at t cells ≡ Some c → Happens c e → Grow cells (with_cell t e cells)
grow_event t c e cells at (inl same) = subst (Grow cells) (sym (ap (λ (x : CellState). with_cell t x cells) same ∙ same_tables t c cells at)) (grow_same cells)
grow_event t c e cells at (inr (event, reply, timely, about, room, made)) = grow_made t c e event reply cells at made

grow_acked : (n : ℕ) (acks : List (ℕ × ℕ)) (cells after : List CellState) → acked_all n acks cells ≡ Some after → Grow cells after
grow_acked n [] cells after all = subst (Grow cells) (same_cells cells after all) (grow_same cells)
grow_acked n (ack ∷ acks) cells after all =
    let (c, e, at, is, later) = after_one n ack acks cells after all in
    grow_on cells (with_cell ack.0 e cells) after (grow_made ack.0 c e (events.Ack n ack.1) (replies.Ack (settled_by (progress_of n c.state) ack.1)) cells at (acked_made n ack.1 c e is))
    (grow_acked n acks (with_cell ack.0 e cells) after later)

grow_reopened : (n : ℕ) (v : Version) (cells after : List CellState) → reopened_all n v cells ≡ Some after → Grow cells after
grow_reopened n v cells after all t x at =
    let (c, found, (mid, closing, opening)) = each_reopened n v cells after all t x at in (
      c,
      (events.Close n, replies.Close) ∷ (events.Open n v, replies.Open) ∷ [],
      found,
      made_history mid x (events.Open n v) replies.Open opening
          ∙ ap (λ (l : List (CellEvent × CellReply)). l ++ (events.Open n v, replies.Open) ∷ []) (made_history c mid (events.Close n) replies.Close closing)
          ∙ append_assoc c.history ((events.Close n, replies.Close) ∷ []) ((events.Open n v, replies.Open) ∷ []),
    )

-- ---- copies among the events since then

-- the table has the events that it had then, and among those that it has had since are copies of these updates
abbrev IsBehind : ℕ → List CellState → ℕ → CellState → List Update → Type 0
IsBehind n begun t c us =
    (b : CellState) × (later : List (CellEvent × CellReply)) × (cell_at t begun ≡ Some b) × (c.history ≡ b.history ++ later) × AllByRecursion (WasCopied n later) us

-- all updates that were taught or wait to be
abbrev all_of : ConnectionState → List Update
all_of s = s.taught ++ joined s.copied

-- the tables have grown since then, and each update of the session's connection was copied since then
record IsSince (n : ℕ) (begun : List CellState) (w : WorldState) : Type 0 where
  pub grow : Grow begun w.cells
  pub copied : (s : ConnectionState) → connection_at n w.connections ≡ Some s → (t : ℕ) (c : CellState) → cell_at t w.cells ≡ Some c → IsBehind n begun t c (of_table t (all_of s))

still_behind : (n : ℕ) (begun : List CellState) (t : ℕ) (c x : CellState) (more : List (CellEvent × CellReply)) (us : List Update) → x.history ≡ c.history ++ more → IsBehind n begun t c us → IsBehind n begun t x us
still_behind n begun t c x more us is (b, later, at, split, all) = (
  b,
  later ++ more,
  at,
  is ∙ ap (λ (l : List (CellEvent × CellReply)). l ++ more) split ∙ append_assoc b.history later more,
  all_so (WasCopied n later) (WasCopied n (later ++ more)) (λ u found. copied_still n u later more found) us all,
)

-- a connection has the updates that it had, or none
abbrev Keeps : ℕ → WorldState → ConnectionState → Type 0
Keeps n w x = (all_of x ≡ []) ⊎ ((s : ConnectionState) × (connection_at n w.connections ≡ Some s) × (all_of x ≡ all_of s))

follows : (n : ℕ) (begun : List CellState) (w e : WorldState) → IsSince n begun w → Grow w.cells e.cells → ((x : ConnectionState) → connection_at n e.connections ≡ Some x → Keeps n w x) → IsSince n begun e
follows n begun w e since grow keeps = record { grow = all; copied = λ x found t c at. by x t c at (keeps x found) }
  where
    all : Grow begun e.cells
    all = grow_on begun w.cells e.cells since.grow grow

    by : (x : ConnectionState) (t : ℕ) (c : CellState) → cell_at t e.cells ≡ Some c → Keeps n w x → IsBehind n begun t c (of_table t (all_of x))
    by x t c at (inl none) =
        let (b, later, at_first, split) = all t c at in
        subst (λ (l : List Update). IsBehind n begun t c (of_table t l)) (sym none) (b, later, at_first, split, tt)
    by x t c at (inr (s, found, same)) =
        let (old, more, at_old, is) = grow t c at in
        subst (λ (l : List Update). IsBehind n begun t c (of_table t l)) (sym same) (still_behind n begun t old c more (of_table t (all_of s)) is (since.copied s found t old at_old))

same_still : (n : ℕ) (w : WorldState) (x : ConnectionState) → connection_at n w.connections ≡ Some x → Keeps n w x
same_still n w x found = inr (x, found, refl)

-- the tables grow, and no connection changes
tables_grow : (n : ℕ) (begun : List CellState) (w : WorldState) (after : List CellState) → IsSince n begun w → Grow w.cells after → IsSince n begun (record w { cells = after })
tables_grow n begun w after since grow = follows n begun w (record w { cells = after }) since grow (same_still n w)

-- one connection changes, and perhaps the tables
one_changed : (n m : ℕ) (begun : List CellState) (w : WorldState) (new : ConnectionState) (after : List CellState) → IsSince n begun w → Grow w.cells after → Keeps m w new
    → IsSince n begun (record { cells = after; connections = with_connection m new w.connections })
one_changed n m begun w new after since grow keeps =
    follows n begun w (record { cells = after; connections = with_connection m new w.connections }) since grow
    (λ x found. elim (connection_after m n new x w.connections found) [
      | inl (here, is) ↦ subst (Keeps n w) (sym is) (subst (λ (k : ℕ). Keeps k w new) (sym here) keeps)
      | inr (other, old) ↦ same_still n w x old
    ])

unchanged : (n : ℕ) (begun : List CellState) (w e : WorldState) → IsSince n begun w → e ≡ w → IsSince n begun e
unchanged n begun w e since is = subst (IsSince n begun) (sym is) since

-- ---- each step

at_table : (n : ℕ) (begun : List CellState) (call : CellState → CellState → Type 0) (t : ℕ) (w e : WorldState) → IsSince n begun w → ((c x : CellState) → call c x → Happens c x) → AtTable call t w e → IsSince n begun e
at_table n begun call t w e since happens (after, inside, is) =
    subst (IsSince n begun) (sym is) (tables_grow n begun w after since (by (cell_at t w.cells) refl inside))
  where
    by : (o : Option CellState) → cell_at t w.cells ≡ o → InTable call t o w.cells after → Grow w.cells after
    by None at same = subst (Grow w.cells) (sym same) (grow_same w.cells)
    by (Some c) at (changed, called, same) = subst (Grow w.cells) (sym same) (grow_event t c changed w.cells at (happens c changed called))

at_connection : (n m : ℕ) (begun : List CellState) (change : ConnectionState → ConnectionState → Type 0) (w e : WorldState) → IsSince n begun w
    → ((s x : ConnectionState) → change s x → all_of x ≡ all_of s) → AtConnection change m w e → IsSince n begun e
at_connection n m begun change w e since same (after, inside, is) = by (connection_at m w.connections) refl inside
  where
    by : (o : Option ConnectionState) → connection_at m w.connections ≡ o → InConnection change m o w.connections after → IsSince n begun e
    by None found kept = unchanged n begun w e since (is ∙ ap (λ (l : List ConnectionState). record w { connections = l }) kept)
    by (Some s) found (changed, so, kept) =
        subst (IsSince n begun) (sym (is ∙ ap (λ (l : List ConnectionState). record w { connections = l }) kept))
        (one_changed n m begun w changed w.cells since (grow_same w.cells) (inr (s, found, same s changed so)))

oldest : (s x : ConnectionState) → TeachesOldest s.copied s x → all_of x ≡ all_of s
oldest s x moves = by s.copied refl moves
  where
    by : (batches : List (List Update)) → s.copied ≡ batches → TeachesOldest batches s x → all_of x ≡ all_of s
    by [] waiting same = ap all_of same
    by (batch ∷ rest) waiting (bytes, after, good, lesson, is) =
        ap all_of is ∙ append_assoc s.taught batch (joined rest) ∙ ap (λ (l : List (List Update)). s.taught ++ joined l) (sym waiting)

fed : (count now : ℕ) (s x : ConnectionState) → Rattle.interleave_core.specs.Moves.ArrivesAtLearner count now s x → all_of x ≡ all_of s
fed count now s x moves =
    each_side (nat_le count (length s.to_learner)) (IsFed now (take count s.to_learner) (drop count s.to_learner) s x) (x ≡ s) (all_of x ≡ all_of s) moves
    (λ enough (ms, us, l, learns, waits, is). ap all_of is) (λ few same. ap all_of same)

-- a copy for the session itself
own_copy : (m : ℕ) (begun : List CellState) (t limit now : ℕ) (kind : CopyKind) (w : WorldState) (c e : CellState) (s : ConnectionState) (us : List Update) → IsSince m begun w → cell_at t w.cells ≡ Some c
    → connection_at m w.connections ≡ Some s → Made c (events.Copy m kind limit now) (replies.Copy us) e
    → (k : ℕ) (x : CellState) → cell_at k (with_cell t e w.cells) ≡ Some x → IsBehind m begun k x (of_table k (all_of (record s { copied = s.copied ++ us ∷ [] })))
own_copy m begun t limit now kind w c e s us since at found made =
    each_after (λ (k : ℕ) (x : CellState). IsBehind m begun k x (of_table k (all_of (record s { copied = s.copied ++ us ∷ [] })))) t c e w.cells at
    (same_id c e (events.Copy m kind limit now) (replies.Copy us) made ∙ found_id t c w.cells at) here others
  where
    last : CellEvent × CellReply
    last = (events.Copy m kind limit now, replies.Copy us)

    of_it : AllByRecursion (λ (u : Update). u.table ≡ t) us
    of_it = copied_here m limit now t kind us c e (found_id t c w.cells at) made

    here : IsBehind m begun t e (of_table t (all_of (record s { copied = s.copied ++ us ∷ [] })))
    here =
        let (b, later, first, split, all) = since.copied s found t c at in
        subst (IsBehind m begun t e) (sym (waits t s.taught s.copied us ∙ ap (λ (l : List Update). of_table t (all_of s) ++ l) (all_of_it t us of_it))) (
          b,
          later ++ last ∷ [],
          first,
          made_history c e (events.Copy m kind limit now) (replies.Copy us) made ∙ ap (λ (l : List (CellEvent × CellReply)). l ++ last ∷ []) split ∙ append_assoc b.history later (last ∷ []),
          all_append (WasCopied m (later ++ last ∷ [])) (of_table t (all_of s)) us
              (all_so (WasCopied m later) (WasCopied m (later ++ last ∷ [])) (λ u was. copied_still m u later (last ∷ []) was) (of_table t (all_of s)) all)
              (copied_at_end m limit now kind later us),
        )

    others : (k : ℕ) (x : CellState) → k ≢ t → cell_at k w.cells ≡ Some x → IsBehind m begun k x (of_table k (all_of (record s { copied = s.copied ++ us ∷ [] })))
    others k x differs old =
        subst (IsBehind m begun k x)
        (sym (waits k s.taught s.copied us ∙ ap (λ (l : List Update). of_table k (all_of s) ++ l) (none_of_others k t us differs of_it) ∙ append-nil (of_table k (all_of s))))
        (since.copied s found k x old)

copies : (n m : ℕ) (begun : List CellState) (t limit now : ℕ) (kind : CopyKind) (w e : WorldState) → IsSince n begun w → CopiesFor m t kind limit now (cell_at t w.cells) (connection_at m w.connections) w e → IsSince n begun e
copies n m begun t limit now kind w e since moves = by (cell_at t w.cells) refl (connection_at m w.connections) refl moves
  where
    made_copy : (c after : CellState) (s : ConnectionState) (us : List Update) → cell_at t w.cells ≡ Some c → connection_at m w.connections ≡ Some s → Made c (events.Copy m kind limit now) (replies.Copy us) after
        → IsSince n begun (record { cells = with_cell t after w.cells; connections = with_connection m (record s { copied = s.copied ++ us ∷ [] }) w.connections })
    made_copy c after s us at found made =
        let grow = grow_made t c after (events.Copy m kind limit now) (replies.Copy us) w.cells at made in
        let others = tables_grow n begun w (with_cell t after w.cells) since grow in
        record {
          grow = others.grow;
          copied = λ x there. elim (connection_after m n (record s { copied = s.copied ++ us ∷ [] }) x w.connections there) [
            | inl (here, is) ↦
                let own = own_copy m begun t limit now kind w c after s us (subst (λ (k : ℕ). IsSince k begun w) here since) at found made in
                subst (λ (k : ℕ). (id : ℕ) (y : CellState) → cell_at id (with_cell t after w.cells) ≡ Some y → IsBehind k begun id y (of_table id (all_of x))) (sym here)
                (subst (λ (z : ConnectionState). (id : ℕ) (y : CellState) → cell_at id (with_cell t after w.cells) ≡ Some y → IsBehind m begun id y (of_table id (all_of z))) (sym is) own)
            | inr (other, old) ↦ others.copied x old
          ];
        }

    by : (o : Option CellState) → cell_at t w.cells ≡ o → (p : Option ConnectionState) → connection_at m w.connections ≡ p → CopiesFor m t kind limit now o p w e → IsSince n begun e
    by None at p found same = unchanged n begun w e since same
    by (Some c) at None found same = unchanged n begun w e since same
    by (Some c) at (Some s) found (Ok us, after, ok, (room, made), is) = subst (IsSince n begun) (sym is) (made_copy c after s us at found made)
    by (Some c) at (Some s) found (Err error, after, ok, refused, is) =
        let same = refused_copy m limit now kind c after error refused in
        let cells : with_cell t after w.cells ≡ w.cells = ap (λ (x : CellState). with_cell t x w.cells) same ∙ same_tables t c w.cells at in
        unchanged n begun w e since (is
        ∙ ap (λ (l : List CellState). record { cells = l; connections = with_connection m s w.connections }) cells
        ∙ ap (λ (l : List ConnectionState). record { cells = w.cells; connections = l }) (same_connections m s w.connections found))

reads : (n m : ℕ) (begun : List CellState) (bytes rest : List ℕ) (s : ConnectionState) (w e : WorldState) → IsSince n begun w → connection_at m w.connections ≡ Some s → IsReadBy m bytes rest s w e → IsSince n begun e
reads n m begun bytes rest s w e since found (ms, received, left, are_read, whole, arrived) = by (acked_all m (filter_map (ack_in (roster_of w.cells)) ms) w.cells) refl arrived
  where
    by : (o : Option (List CellState)) → acked_all m (filter_map (ack_in (roster_of w.cells)) ms) w.cells ≡ o → IsArrived m rest left o s w e → IsSince n begun e
    by None all same = unchanged n begun w e since same
    by (Some after) all is =
        subst (IsSince n begun) (sym is)
        (one_changed n m begun w (record s { to_teacher = rest; unread = left }) after since (grow_acked m (filter_map (ack_in (roster_of w.cells)) ms) w.cells after all) (inr (s, found, refl)))

to_teacher : (n m : ℕ) (begun : List CellState) (count : ℕ) (o : Option ConnectionState) (w e : WorldState) → IsSince n begun w → connection_at m w.connections ≡ o → ArrivesAtTeacher m count o w e → IsSince n begun e
to_teacher n m begun count None w e since found same = unchanged n begun w e since same
to_teacher n m begun count (Some s) w e since found moves =
    each_side (nat_le count (length s.to_teacher)) (IsReadBy m (s.unread ++ take count s.to_teacher) (drop count s.to_teacher) s w e) (e ≡ w) (IsSince n begun e) moves
    (λ enough. reads n m begun (s.unread ++ take count s.to_teacher) (drop count s.to_teacher) s w e since found) (λ few. unchanged n begun w e since)

breaks : (n m : ℕ) (begun : List CellState) (o : Option ConnectionState) (w e : WorldState) → IsSince n begun w → Breaks m o w e → IsSince n begun e
breaks n m begun None w e since same = unchanged n begun w e since same
breaks n m begun (Some s) w e since moves = by (reopened_all m s.version w.cells) refl moves
  where
    by : (o : Option (List CellState)) → reopened_all m s.version w.cells ≡ o
        → IsReopened o (λ cells. record { cells = cells; connections = with_connection m (new_connection s.version (roster_of w.cells)) w.connections }) w e → IsSince n begun e
    by None all same = unchanged n begun w e since same
    by (Some after) all is = subst (IsSince n begun) (sym is) (one_changed n m begun w (new_connection s.version (roster_of w.cells)) after since (grow_reopened m s.version w.cells after all) (inl refl))

reopens : (n m : ℕ) (begun : List CellState) (o : Option ConnectionState) (w e : WorldState) → IsSince n begun w → Reopens m o w e → IsSince n begun e
reopens n m begun None w e since same = unchanged n begun w e since same
reopens n m begun (Some s) w e since moves =
    each_side (list_any (λ (c : CellState). has_out (progress_of m c.state)) w.cells) (e ≡ w) (IsReopened (reopened_all m s.version w.cells) (λ cells. record w { cells = cells }) w e) (IsSince n begun e) moves
    (λ out. unchanged n begun w e since) (λ quiet. by (reopened_all m s.version w.cells) refl)
  where
    by : (o : Option (List CellState)) → reopened_all m s.version w.cells ≡ o → IsReopened o (λ cells. record w { cells = cells }) w e → IsSince n begun e
    by None all same = unchanged n begun w e since same
    by (Some after) all is = subst (IsSince n begun) (sym is) (tables_grow n begun w after since (grow_reopened m s.version w.cells after all))

learns : (n m : ℕ) (begun : List CellState) (u : Update) (now : ℕ) (o : Option ConnectionState) (w e : WorldState) → now < 2 ^ 63 → IsSince n begun w → LearnsFor m u now o w e → IsSince n begun e
learns n m begun u now None w e timely since same = unchanged n begun w e since same
learns n m begun u now (Some s) w e timely since moves = at_table n begun _ u.table w e since (λ c x (answer, ok, does). learned m now u c x answer timely does) moves

since_step : (n : ℕ) (begun : List CellState) (w e : WorldState) (step : Step) → IsTimelyStep step → IsSince n begun w → Moves w step e → IsSince n begun e
since_step n begun w e (steps.Track table key change now) timely since moves =
    at_table n begun _ table w e since (λ c x (answer, ok, does). tracked key change now c x answer timely does) moves
since_step n begun w e (steps.Learn session u now) timely since moves = learns n session begun u now (connection_at session w.connections) w e timely since moves
since_step n begun w e (steps.Purge table now) timely since moves = at_table n begun _ table w e since (λ c x (answer, ok, does). purged now c x answer timely does) moves
since_step n begun w e (steps.Copy session table kind limit now) timely since moves =
    each_side (is_made kind limit) _ (e ≡ w) (IsSince n begun e) moves (λ made. copies n session begun table limit now kind w e since) (λ out. unchanged n begun w e since)
since_step n begun w e (steps.Teach session) timely since moves = at_connection n session begun _ w e since oldest moves
since_step n begun w e (steps.Deliver session ways.ToLearner count now) timely since moves = at_connection n session begun _ w e since (fed count now) moves
since_step n begun w e (steps.Deliver session ways.ToTeacher count now) timely since moves = to_teacher n session begun count (connection_at session w.connections) w e since refl moves
since_step n begun w e (steps.Ack session) timely since moves = at_connection n session begun _ w e since (λ s x is. ap all_of is) moves
since_step n begun w e (steps.Break session) timely since moves = breaks n session begun (connection_at session w.connections) w e since moves
since_step n begun w e (steps.Reopen session) timely since moves = reopens n session begun (connection_at session w.connections) w e since moves

since_run : (n : ℕ) (begun : List CellState) (w e : WorldState) (run : List Step) → AllByRecursion IsTimelyStep run → IsSince n begun w → RunsTo w run e → IsSince n begun e
since_run n begun w e [] timely since is = unchanged n begun w e since is
since_run n begun w e (step ∷ run) (one, rest) since (mid, moves, runs) = since_run n begun mid e run rest (since_step n begun w mid step one since moves) runs

-- ---- the beginning, and the rows

since_new : (n : ℕ) (w : WorldState) → HasNewConnection n w → IsSince n w.cells w
since_new n w (version, new) = record {
  grow = grow_same w.cells;
  copied = λ s found t c at.
      subst (λ (x : ConnectionState). IsBehind n w.cells t c (of_table t (all_of x))) (same_one (new_connection version (roster_of w.cells)) s (sym new ∙ found))
      (c, [], at, sym (append-nil c.history), tt);
}

-- a Break that is made leaves a new connection
pub new_when_broken : (w e : WorldState) (n : ℕ) → IsSoundWorld w → Moves w (steps.Break n) e → (e ≡ w) ⊎ HasNewConnection n e
new_when_broken w e n sound moves = by (connection_at n w.connections) refl moves
  where
    then : (s : ConnectionState) → connection_at n w.connections ≡ Some s → (o : Option (List CellState)) → reopened_all n s.version w.cells ≡ o
        → IsReopened o (λ cells. record { cells = cells; connections = with_connection n (new_connection s.version (roster_of w.cells)) w.connections }) w e → (e ≡ w) ⊎ HasNewConnection n e
    then s found None all same = inl same
    then s found (Some after) all is =
        inr (subst (HasNewConnection n) (sym is)
        (s.version, connection_set n (new_connection s.version (roster_of w.cells)) s w.connections found ∙ ap (λ (ds : List Definition). Some (new_connection s.version ds)) (sym (tables_reopened n s.version w.cells after all sound.tables).1)))

    by : (o : Option ConnectionState) → connection_at n w.connections ≡ o → Breaks n o w e → (e ≡ w) ⊎ HasNewConnection n e
    by None found same = inl same
    by (Some s) found broken = then s found (reopened_all n s.version w.cells) refl broken

all_front : (P : Update → Type 0) (us vs : List Update) → AllByRecursion P (us ++ vs) → AllByRecursion P us
all_front P [] vs all = tt
all_front P (u ∷ us) vs (first, rest) = (first, all_front P us vs rest)

pub rows_since : (begun w : WorldState) (n : ℕ) (run : List Step) → AllByRecursion IsTimelyStep run → IsSoundWorld begun → HasNewConnection n begun → RunsTo begun run w → RowsAreCopiedSince begun n w
rows_since begun w n run timely sound new runs t s c key row found at there =
    let since = since_run n begun.cells begun w run timely (since_new n begun new) runs in
    let (b, later, at_first, split, all) = since.copied s found t c at in
    let taught : AllByRecursion (WasCopied n later) (of_table t s.taught) =
    all_front (WasCopied n later) (of_table t s.taught) (of_table t (joined s.copied)) (subst (AllByRecursion (WasCopied n later)) (of_append t s.taught (joined s.copied)) all) in
    (later, (b, at_first, split), rows_of_taught w n t s c later key row (run_sound begun w run timely sound runs) found at there taught)
