-- Sessions keep to their versions.
use Rattle.std.proofs.Common.{◌≡◌, ◌≢◌, ◌<◌, ◌^◌, ℕ, zero, suc, false, List, [], ◌∷◌, ◌++◌, length, drop, take, map, Option, Some, None, Ok, Err, refl, sym, ap, subst, ◌∙◌, inl, inr, ◌⊎◌, append_assoc, arith, true≢false}
use Rattle.std.specs.Prelude.{filter_map, is_some, nat_eq, nat_le, option_map, slice_get}
use Rattle.std.specs.List.{AllByRecursion, list_any}
use Rattle.std.proofs.lemmas.Bool.{cases_eq, cond_both, ne_eqb}
use Rattle.table_types.specs.declared.copies.CopyKind.{CopyKind}
use Rattle.table_types.specs.declared.update.Update.{Update}
use Rattle.table_types.specs.declared.version.Version.{Version}
use Rattle.table_types.specs.declared.version.Version.TheVariants as versions
use Rattle.table_types.specs.Tables.{Definition}
use Rattle.table_cell.specs.Copying.{update_of}
use Rattle.table_cell.specs.declared.events.CellEvent.{CellEvent}
use Rattle.table_cell.specs.declared.events.CellEvent.TheVariants as events
use Rattle.table_cell.specs.declared.events.CellReply.{CellReply}
use Rattle.table_cell.specs.declared.events.CellReply.TheVariants as replies
use Rattle.table_cell.specs.declared.progress.Progress.{Progress}
use Rattle.table_cell.specs.Machine.{acknowledging, has_out, last_number, no_progress, progress_of, settled_by, unacked, version_by}
use Rattle.table_cell.specs.Histories.{CellState, Made}
use Rattle.table_cell.specs.Handing.{is_about}
use Rattle.table_cell.proofs.HandingSessions.{other_end, others_stay, own_end, own_with}
use Rattle.interleave_core.specs.declared.step.Step.{Step}
use Rattle.interleave_core.specs.declared.step.Step.TheVariants as steps
use Rattle.interleave_core.specs.declared.way.Way.TheVariants as ways
use Rattle.interleave_core.specs.Moves.{ArrivesAtLearner, ArrivesAtTeacher, AtConnection, AtTable, Breaks, CopiesFor, InConnection, InTable, IsArrived, IsFed, IsReadBy, IsReopened, LearnsFor, Moves, Reopens, RunsTo, TeachesOldest, ack_in, acked, acked_all, is_made, reopened_all}
use Rattle.interleave_core.specs.Opened.{CanBegin}
use Rattle.interleave_core.specs.SoundWorlds.{IsTimelyStep}
use Rattle.interleave_core.specs.Versions.{KeepVersions, IsOfVersion}
use Rattle.interleave_core.specs.Ties.{joined}
use Rattle.interleave_core.specs.Worlds.{ConnectionState, WorldState, cell_at, connection_at, new_connection, new_world, roster_of, version_after, with_cell, with_connection, with_sessions}
use Rattle.interleave_core.proofs.Beginning.{later_closed, new_connections}
use Rattle.interleave_core.proofs.TieAnswers.{after_one}
use Rattle.interleave_core.proofs.TieCells.{each_after, found_id, none_there, same_one}
use Rattle.interleave_core.proofs.TieOpenings.{each_reopened, same_cells}
use Rattle.interleave_core.proofs.TiePairs.{acked_made, open_tied, same_batch, same_id}
use Rattle.interleave_core.proofs.TieShares.{joined_end}
use Rattle.interleave_core.proofs.TieTables.{all_at}
use Rattle.interleave_core.proofs.WorldPlaces.{connection_after, each_side, same_connections, same_tables}
use Rattle.interleave_core.proofs.WorldSteps.{Happens, learned, purged, refused_copy, tracked}

-- ---- one table

-- the session is open in the table with this version
abbrev IsOpenWith : ℕ → Version → CellState → Type 0
IsOpenWith n v c = (p : Progress) × (progress_of n c.state ≡ Some p) × (p.version ≡ v)

-- it stays open, with its version, in the second table if it is in the first
abbrev Stays : ℕ → CellState → CellState → Type 0
Stays n c e = (v : Version) → IsOpenWith n v c → IsOpenWith n v e

stays_other : (n : ℕ) (c e : CellState) (event : CellEvent) (reply : CellReply) → is_about n event ≡ false → Made c event reply e → Stays n c e
stays_other n c e event reply other made v (p, opened, same) = (p, (others_stay c e event reply n other made).0 ∙ opened, same)

-- its progress changes, but not its version
stays_with : (n : ℕ) (c e : CellState) (f : Progress → Progress) → ((p : Progress) → (f p).version ≡ p.version) → progress_of n e.state ≡ option_map f (progress_of n c.state) → Stays n c e
stays_with n c e f keeps is v (p, opened, same) = (f p, is ∙ ap (option_map f) opened, keeps p ∙ same)

stays_copied : (n m limit now : ℕ) (kind : CopyKind) (us : List Update) (c e : CellState) → Made c (events.Copy m kind limit now) (replies.Copy us) e → Stays n c e
stays_copied n m limit now kind us c e made = elim (cases_eq m n) [
  | inl own ↦
      let f : Progress → Progress = λ p. record p { taught = last_number p.taught (unacked c.state m kind now limit) } in
      subst (λ (k : ℕ). Stays k c e) own (stays_with m c e f (λ p. refl) (ap (progress_of m) made.0.2 ∙ own_with m f c.state.sessions))
  | inr other ↦ stays_other n c e (events.Copy m kind limit now) (replies.Copy us) (ne_eqb m n other) made
]

same_version : (number : ℕ) (p : Progress) → (acknowledging number p).version ≡ p.version
same_version number p =
    cond_both (nat_le number p.acknowledged) p (record p { acknowledged = number }) (λ (q : Progress). q.version ≡ p.version) (λ _. refl) (λ _. refl)

stays_acked : (n m number : ℕ) (c e : CellState) → acked m number c ≡ Some e → Stays n c e
stays_acked n m number c e is = elim (cases_eq m n) [
  | inl own ↦
      let made = acked_made m number c e is in
      subst (λ (k : ℕ). Stays k c e) own (stays_with m c e (acknowledging number) (same_version number) (ap (progress_of m) made.0.2 ∙ own_with m (acknowledging number) c.state.sessions))
  | inr other ↦ stays_other n c e (events.Ack m number) (replies.Ack (settled_by (progress_of m c.state) number)) (ne_eqb m n other) (acked_made m number c e is)
]

stays_happens : (n : ℕ) (c e : CellState) → Happens c e → Stays n c e
stays_happens n c e (inl same) v opened = subst (IsOpenWith n v) (sym same) opened
stays_happens n c e (inr (event, reply, timely, about, room, made)) v opened = stays_other n c e event reply (about n) made v opened

-- ---- all tables

abbrev AllStay : ℕ → List CellState → List CellState → Type 0
AllStay n cells after = (t : ℕ) (x : CellState) → cell_at t after ≡ Some x → (c : CellState) × (cell_at t cells ≡ Some c) × Stays n c x

stay_same : (n : ℕ) (cells : List CellState) → AllStay n cells cells
stay_same n cells t x at = (x, at, λ v opened. opened)

stay_on : (n : ℕ) (cells mid after : List CellState) → AllStay n cells mid → AllStay n mid after → AllStay n cells after
stay_on n cells mid after first then t x at =
    let (m, at_mid, later) = then t x at in
    let (c, at_first, earlier) = first t m at_mid in
    (c, at_first, λ v opened. later v (earlier v opened))

stay_with : (n t : ℕ) (c e : CellState) (cells : List CellState) → cell_at t cells ≡ Some c → e.state.definition.id ≡ c.state.definition.id → Stays n c e → AllStay n cells (with_cell t e cells)
stay_with n t c e cells at id stays =
    each_after (λ (k : ℕ) (x : CellState). (old : CellState) × (cell_at k cells ≡ Some old) × Stays n old x) t c e cells at (id ∙ found_id t c cells at) (c, at, stays) (λ k x differs old. (x, old, λ v opened. opened))

same_id_happens : (c e : CellState) → Happens c e → e.state.definition.id ≡ c.state.definition.id
same_id_happens c e (inl same) = ap (λ (x : CellState). x.state.definition.id) same
same_id_happens c e (inr (event, reply, timely, about, room, made)) = same_id c e event reply made

stay_acked : (n m : ℕ) (acks : List (ℕ × ℕ)) (cells after : List CellState) → acked_all m acks cells ≡ Some after → AllStay n cells after
stay_acked n m [] cells after all = subst (AllStay n cells) (same_cells cells after all) (stay_same n cells)
stay_acked n m (ack ∷ acks) cells after all =
    let (c, e, at, is, later) = after_one m ack acks cells after all in
    stay_on n cells (with_cell ack.0 e cells) after
    (stay_with n ack.0 c e cells at (same_id c e (events.Ack m ack.1) (replies.Ack (settled_by (progress_of m c.state) ack.1)) (acked_made m ack.1 c e is)) (stays_acked n m ack.1 c e is))
    (stay_acked n m acks (with_cell ack.0 e cells) after later)

stay_reopened : (n m : ℕ) (v : Version) (cells after : List CellState) → n ≢ m → reopened_all m v cells ≡ Some after → AllStay n cells after
stay_reopened n m v cells after other all t x at =
    let (c, found, (mid, closing, opening)) = each_reopened m v cells after all t x at in
    let apart : nat_eq m n ≡ false = ne_eqb m n (λ same. other (sym same)) in
    (c, found, λ u opened. stays_other n mid x (events.Open m v) replies.Open apart opening u (stays_other n c mid (events.Close m) replies.Close apart closing u opened))

-- the session itself is open with the version that it was opened with
own_reopened : (n : ℕ) (v : Version) (cells after : List CellState) → reopened_all n v cells ≡ Some after → (t : ℕ) (x : CellState) → cell_at t after ≡ Some x → IsOpenWith n v x
own_reopened n v cells after all t x at =
    let (c, found, (mid, closing, opening)) = each_reopened n v cells after all t x at in
    (no_progress v mid.state.next, (open_tied n v [] mid x replies.Open opening tt).progress, refl)

-- ---- updates

-- all updates that were taught or wait to be
abbrev all_of : ConnectionState → List Update
all_of s = s.taught ++ joined s.copied

is_of : (v : Version) (d : Definition) (now : ℕ) (e : _) → IsOfVersion v (update_of v d now e)
is_of versions.V20 d now e = refl
is_of versions.V21 d now e = refl

each_is_of : (v : Version) (d : Definition) (now : ℕ) (rows : List _) → AllByRecursion (IsOfVersion v) (map (update_of v d now) rows)
each_is_of v d now [] = tt
each_is_of v d now (row ∷ rows) = (is_of v d now row, each_is_of v d now rows)

first_are : (P : Update → Type 0) (k : ℕ) (us : List Update) → AllByRecursion P us → AllByRecursion P (take k us)
first_are P zero us all = tt
first_are P (suc k) [] all = tt
first_are P (suc k) (u ∷ us) (first, rest) = (first, first_are P k us rest)

both_are : (P : Update → Type 0) (us vs : List Update) → AllByRecursion P us → AllByRecursion P vs → AllByRecursion P (us ++ vs)
both_are P [] vs all more = more
both_are P (u ∷ us) vs (first, rest) more = (first, both_are P us vs rest more)

-- what is copied for the session is of its version
copied_are : (n limit now : ℕ) (kind : CopyKind) (v : Version) (us : List Update) (c e : CellState) → IsOpenWith n v c → Made c (events.Copy n kind limit now) (replies.Copy us) e → AllByRecursion (IsOfVersion v) us
copied_are n limit now kind v us c e (p, opened, same) made =
    let is : version_by (progress_of n c.state) ≡ v = ap version_by opened ∙ same in
    subst (AllByRecursion (IsOfVersion v)) (sym (same_batch us (unacked c.state n kind now limit) made.0.1))
    (subst (λ (x : Version). AllByRecursion (IsOfVersion x) (unacked c.state n kind now limit)) is
    (first_are (IsOfVersion (version_by (progress_of n c.state))) limit (map (update_of (version_by (progress_of n c.state)) c.state.definition now) _) (each_is_of (version_by (progress_of n c.state)) c.state.definition now _)))

-- ---- worlds

unchanged : (w e : WorldState) → KeepVersions w → e ≡ w → KeepVersions e
unchanged w e keeps is = subst KeepVersions (sym is) keeps

-- the connection has the version and the updates that another had
abbrev IsAs : ConnectionState → ConnectionState → Type 0
IsAs x s = (x.version ≡ s.version) × (all_of x ≡ all_of s)

updates_as : (x s : ConnectionState) → IsAs x s → AllByRecursion (IsOfVersion s.version) (all_of s) → AllByRecursion (IsOfVersion x.version) (all_of x)
updates_as x s (version, same) all =
    subst (λ (v : Version). AllByRecursion (IsOfVersion v) (all_of x)) (sym version) (subst (AllByRecursion (IsOfVersion s.version)) (sym same) all)

-- the tables change, and each connection is as it was, or as another that was there under the same session
follows : (w e : WorldState) → KeepVersions w → ((n : ℕ) → AllStay n w.cells e.cells)
    → ((n : ℕ) (x : ConnectionState) → connection_at n e.connections ≡ Some x → (s : ConnectionState) × (connection_at n w.connections ≡ Some s) × IsAs x s) → KeepVersions e
follows w e keeps stay same = record {
  tables = λ n t x y found at.
      let (s, was, is) = same n x found in
      let (c, before, stays) = stay n t y at in
      subst (λ (v : Version). IsOpenWith n v y) (sym is.0) (stays s.version (keeps.tables n t s c was before));
  updates = λ n x found. let (s, was, is) = same n x found in updates_as x s is (keeps.updates n s was);
}

tables_change : (w : WorldState) (after : List CellState) → KeepVersions w → ((n : ℕ) → AllStay n w.cells after) → KeepVersions (record w { cells = after })
tables_change w after keeps stay = follows w (record w { cells = after }) keeps stay (λ n x found. (x, found, (refl, refl)))

one_changed : (m : ℕ) (w : WorldState) (s new : ConnectionState) (after : List CellState) → KeepVersions w → connection_at m w.connections ≡ Some s → ((n : ℕ) → AllStay n w.cells after) → IsAs new s
    → KeepVersions (record { cells = after; connections = with_connection m new w.connections })
one_changed m w s new after keeps was stay is =
    follows w (record { cells = after; connections = with_connection m new w.connections }) keeps stay
    (λ n x found. elim (connection_after m n new x w.connections found) [
      | inl (here, same) ↦ (s, ap (λ (k : ℕ). connection_at k w.connections) here ∙ was, (ap (λ (y : ConnectionState). y.version) same ∙ is.0, ap all_of same ∙ is.1))
      | inr (other, old) ↦ (x, old, (refl, refl))
    ])

at_table : (call : CellState → CellState → Type 0) (t : ℕ) (w e : WorldState) → KeepVersions w → ((c x : CellState) → call c x → Happens c x) → AtTable call t w e → KeepVersions e
at_table call t w e keeps happens (after, inside, is) = subst KeepVersions (sym is) (tables_change w after keeps (λ n. by n (cell_at t w.cells) refl inside))
  where
    by : (n : ℕ) (o : Option CellState) → cell_at t w.cells ≡ o → InTable call t o w.cells after → AllStay n w.cells after
    by n None at same = subst (AllStay n w.cells) (sym same) (stay_same n w.cells)
    by n (Some c) at (changed, called, same) =
        let did = happens c changed called in
        subst (AllStay n w.cells) (sym same) (stay_with n t c changed w.cells at (same_id_happens c changed did) (stays_happens n c changed did))

at_connection : (m : ℕ) (change : ConnectionState → ConnectionState → Type 0) (w e : WorldState) → KeepVersions w → ((s x : ConnectionState) → change s x → IsAs x s) → AtConnection change m w e → KeepVersions e
at_connection m change w e keeps same (after, inside, is) = by (connection_at m w.connections) refl inside
  where
    by : (o : Option ConnectionState) → connection_at m w.connections ≡ o → InConnection change m o w.connections after → KeepVersions e
    by None found kept = unchanged w e keeps (is ∙ ap (λ (l : List ConnectionState). record w { connections = l }) kept)
    by (Some s) found (changed, so, kept) =
        subst KeepVersions (sym (is ∙ ap (λ (l : List ConnectionState). record w { connections = l }) kept))
        (one_changed m w s changed w.cells keeps found (λ n. stay_same n w.cells) (same s changed so))

oldest : (s x : ConnectionState) → TeachesOldest s.copied s x → IsAs x s
oldest s x moves = by s.copied refl moves
  where
    by : (batches : List (List Update)) → s.copied ≡ batches → TeachesOldest batches s x → IsAs x s
    by [] waiting same = (ap (λ (y : ConnectionState). y.version) same, ap all_of same)
    by (batch ∷ rest) waiting (bytes, after, good, lesson, is) = (
      ap (λ (y : ConnectionState). y.version) is,
      ap all_of is ∙ append_assoc s.taught batch (joined rest) ∙ ap (λ (l : List (List Update)). s.taught ++ joined l) (sym waiting),
    )

fed : (count now : ℕ) (s x : ConnectionState) → ArrivesAtLearner count now s x → IsAs x s
fed count now s x moves =
    each_side (nat_le count (length s.to_learner)) (IsFed now (take count s.to_learner) (drop count s.to_learner) s x) (x ≡ s) (IsAs x s) moves
    (λ enough (ms, us, l, learns, waits, is). (ap (λ (y : ConnectionState). y.version) is, ap all_of is)) (λ few same. (ap (λ (y : ConnectionState). y.version) same, ap all_of same))

copies : (m t limit now : ℕ) (kind : CopyKind) (w e : WorldState) → KeepVersions w → CopiesFor m t kind limit now (cell_at t w.cells) (connection_at m w.connections) w e → KeepVersions e
copies m t limit now kind w e keeps moves = by (cell_at t w.cells) refl (connection_at m w.connections) refl moves
  where
    made_copy : (c after : CellState) (s : ConnectionState) (us : List Update) → cell_at t w.cells ≡ Some c → connection_at m w.connections ≡ Some s → Made c (events.Copy m kind limit now) (replies.Copy us) after
        → KeepVersions (record { cells = with_cell t after w.cells; connections = with_connection m (record s { copied = s.copied ++ us ∷ [] }) w.connections })
    made_copy c after s us at found made =
        let new : ConnectionState = record s { copied = s.copied ++ us ∷ [] } in
        let stay : (n : ℕ) → AllStay n w.cells (with_cell t after w.cells) =
        λ n. stay_with n t c after w.cells at (same_id c after (events.Copy m kind limit now) (replies.Copy us) made) (stays_copied n m limit now kind us c after made) in
        let others = tables_change w (with_cell t after w.cells) keeps stay in
        let all : all_of new ≡ all_of s ++ us = ap (λ (l : List Update). s.taught ++ l) (joined_end s.copied us) ∙ sym (append_assoc s.taught (joined s.copied) us) in
        let own : AllByRecursion (IsOfVersion s.version) (all_of new) =
        subst (AllByRecursion (IsOfVersion s.version)) (sym all)
        (both_are (IsOfVersion s.version) (all_of s) us (keeps.updates m s found) (copied_are m limit now kind s.version us c after (keeps.tables m t s c found at) made)) in
        record {
          tables = λ n k x y there here. elim (connection_after m n new x w.connections there) [
            | inl (same, is) ↦
                subst (λ (v : Version). IsOpenWith n v y) (ap (λ (z : ConnectionState). z.version) (sym is)) (others.tables n k s y (ap (λ (j : ℕ). connection_at j w.connections) same ∙ found) here)
            | inr (other, old) ↦ others.tables n k x y old here
          ];
          updates = λ n x there. elim (connection_after m n new x w.connections there) [
            | inl (same, is) ↦ subst (λ (z : ConnectionState). AllByRecursion (IsOfVersion z.version) (all_of z)) (sym is) own
            | inr (other, old) ↦ keeps.updates n x old
          ];
        }

    by : (o : Option CellState) → cell_at t w.cells ≡ o → (p : Option ConnectionState) → connection_at m w.connections ≡ p → CopiesFor m t kind limit now o p w e → KeepVersions e
    by None at p found same = unchanged w e keeps same
    by (Some c) at None found same = unchanged w e keeps same
    by (Some c) at (Some s) found (Ok us, after, ok, (room, made), is) = subst KeepVersions (sym is) (made_copy c after s us at found made)
    by (Some c) at (Some s) found (Err error, after, ok, refused, is) =
        let same = refused_copy m limit now kind c after error refused in
        let cells : with_cell t after w.cells ≡ w.cells = ap (λ (x : CellState). with_cell t x w.cells) same ∙ same_tables t c w.cells at in
        unchanged w e keeps (is
        ∙ ap (λ (l : List CellState). record { cells = l; connections = with_connection m s w.connections }) cells
        ∙ ap (λ (l : List ConnectionState). record { cells = w.cells; connections = l }) (same_connections m s w.connections found))

reads : (m : ℕ) (bytes rest : List ℕ) (s : ConnectionState) (w e : WorldState) → KeepVersions w → connection_at m w.connections ≡ Some s → IsReadBy m bytes rest s w e → KeepVersions e
reads m bytes rest s w e keeps found (ms, received, left, are_read, whole, arrived) = by (acked_all m (filter_map (ack_in (roster_of w.cells)) ms) w.cells) refl arrived
  where
    by : (o : Option (List CellState)) → acked_all m (filter_map (ack_in (roster_of w.cells)) ms) w.cells ≡ o → IsArrived m rest left o s w e → KeepVersions e
    by None all same = unchanged w e keeps same
    by (Some after) all is =
        subst KeepVersions (sym is)
        (one_changed m w s (record s { to_teacher = rest; unread = left }) after keeps found (λ n. stay_acked n m (filter_map (ack_in (roster_of w.cells)) ms) w.cells after all) (refl, refl))

to_teacher : (m count : ℕ) (o : Option ConnectionState) (w e : WorldState) → KeepVersions w → connection_at m w.connections ≡ o → ArrivesAtTeacher m count o w e → KeepVersions e
to_teacher m count None w e keeps found same = unchanged w e keeps same
to_teacher m count (Some s) w e keeps found moves =
    each_side (nat_le count (length s.to_teacher)) (IsReadBy m (s.unread ++ take count s.to_teacher) (drop count s.to_teacher) s w e) (e ≡ w) (KeepVersions e) moves
    (λ enough. reads m (s.unread ++ take count s.to_teacher) (drop count s.to_teacher) s w e keeps found) (λ few. unchanged w e keeps)

-- the session is opened anew with its version, and its connection is as it was or new
opened_anew : (m : ℕ) (w : WorldState) (s new : ConnectionState) (after : List CellState) (connections : List ConnectionState) → KeepVersions w → reopened_all m s.version w.cells ≡ Some after → new.version ≡ s.version
    → AllByRecursion (IsOfVersion new.version) (all_of new)
    → ((n : ℕ) (x : ConnectionState) → connection_at n connections ≡ Some x → ((n ≡ m) × (x ≡ new)) ⊎ ((n ≢ m) × (connection_at n w.connections ≡ Some x)))
    → KeepVersions (record { cells = after; connections = connections })
opened_anew m w s new after connections keeps all same updates there = record {
  tables = λ n t x y found at. elim (there n x found) [
    | inl (here, is) ↦
        let own = own_reopened m s.version w.cells after all t y at in
        subst (λ (k : ℕ). IsOpenWith k x.version y) (sym here) (subst (λ (v : Version). IsOpenWith m v y) (sym (ap (λ (z : ConnectionState). z.version) is ∙ same)) own)
    | inr (other, old) ↦
        let (c, before, stays) = stay_reopened n m s.version w.cells after other all t y at in
        stays x.version (keeps.tables n t x c old before)
  ];
  updates = λ n x found. elim (there n x found) [
    | inl (here, is) ↦ subst (λ (z : ConnectionState). AllByRecursion (IsOfVersion z.version) (all_of z)) (sym is) updates
    | inr (other, old) ↦ keeps.updates n x old
  ];
}

breaks : (m : ℕ) (o : Option ConnectionState) (w e : WorldState) → KeepVersions w → Breaks m o w e → KeepVersions e
breaks m None w e keeps same = unchanged w e keeps same
breaks m (Some s) w e keeps moves = by (reopened_all m s.version w.cells) refl moves
  where
    new : ConnectionState
    new = new_connection s.version (roster_of w.cells)

    by : (o : Option (List CellState)) → reopened_all m s.version w.cells ≡ o
        → IsReopened o (λ cells. record { cells = cells; connections = with_connection m (new_connection s.version (roster_of w.cells)) w.connections }) w e → KeepVersions e
    by None all same = unchanged w e keeps same
    by (Some after) all is =
        subst KeepVersions (sym is)
        (opened_anew m w s (new_connection s.version (roster_of w.cells)) after (with_connection m (new_connection s.version (roster_of w.cells)) w.connections) keeps all refl tt
        (λ n x found. connection_after m n (new_connection s.version (roster_of w.cells)) x w.connections found))

reopens : (m : ℕ) (o : Option ConnectionState) (w e : WorldState) → KeepVersions w → connection_at m w.connections ≡ o → Reopens m o w e → KeepVersions e
reopens m None w e keeps found same = unchanged w e keeps same
reopens m (Some s) w e keeps found moves =
    each_side (list_any (λ (c : CellState). has_out (progress_of m c.state)) w.cells) (e ≡ w) (IsReopened (reopened_all m s.version w.cells) (λ cells. record w { cells = cells }) w e) (KeepVersions e) moves
    (λ out. unchanged w e keeps) (λ quiet. by (reopened_all m s.version w.cells) refl)
  where
    by : (o : Option (List CellState)) → reopened_all m s.version w.cells ≡ o → IsReopened o (λ cells. record w { cells = cells }) w e → KeepVersions e
    by None all same = unchanged w e keeps same
    by (Some after) all is =
        subst KeepVersions (sym is)
        (opened_anew m w s s after w.connections keeps all refl (keeps.updates m s found)
        (λ n x there. elim (cases_eq n m) [
          | inl here ↦ inl (here, same_one x s (sym there ∙ ap (λ (k : ℕ). connection_at k w.connections) here ∙ found))
          | inr other ↦ inr (other, there)
        ]))

learns : (m : ℕ) (u : Update) (now : ℕ) (o : Option ConnectionState) (w e : WorldState) → now < 2 ^ 63 → KeepVersions w → LearnsFor m u now o w e → KeepVersions e
learns m u now None w e timely keeps same = unchanged w e keeps same
learns m u now (Some s) w e timely keeps moves = at_table _ u.table w e keeps (λ c x (answer, ok, does). learned m now u c x answer timely does) moves

pub keeps_step : (w e : WorldState) (step : Step) → IsTimelyStep step → KeepVersions w → Moves w step e → KeepVersions e
keeps_step w e (steps.Track table key change now) timely keeps moves = at_table _ table w e keeps (λ c x (answer, ok, does). tracked key change now c x answer timely does) moves
keeps_step w e (steps.Learn session u now) timely keeps moves = learns session u now (connection_at session w.connections) w e timely keeps moves
keeps_step w e (steps.Purge table now) timely keeps moves = at_table _ table w e keeps (λ c x (answer, ok, does). purged now c x answer timely does) moves
keeps_step w e (steps.Copy session table kind limit now) timely keeps moves =
    each_side (is_made kind limit) _ (e ≡ w) (KeepVersions e) moves (λ made. copies session table limit now kind w e keeps) (λ out. unchanged w e keeps)
keeps_step w e (steps.Teach session) timely keeps moves = at_connection session _ w e keeps oldest moves
keeps_step w e (steps.Deliver session ways.ToLearner count now) timely keeps moves = at_connection session _ w e keeps (fed count now) moves
keeps_step w e (steps.Deliver session ways.ToTeacher count now) timely keeps moves = to_teacher session count (connection_at session w.connections) w e keeps refl moves
keeps_step w e (steps.Ack session) timely keeps moves = at_connection session _ w e keeps (λ s x is. (ap (λ (y : ConnectionState). y.version) is, ap all_of is)) moves
keeps_step w e (steps.Break session) timely keeps moves = breaks session (connection_at session w.connections) w e keeps moves
keeps_step w e (steps.Reopen session) timely keeps moves = reopens session (connection_at session w.connections) w e keeps refl moves

pub keeps_run : (w e : WorldState) (run : List Step) → AllByRecursion IsTimelyStep run → KeepVersions w → RunsTo w run e → KeepVersions e
keeps_run w e [] timely keeps is = unchanged w e keeps is
keeps_run w e (step ∷ run) (one, rest) keeps (mid, moves, runs) = keeps_run mid e run rest (keeps_step w mid step one keeps moves) runs

-- ---- a new world

is_absent : (o : Option Progress) → is_some o ≡ false → o ≡ None
is_absent None none = refl
is_absent (Some p) none = absurd (true≢false none)

each_opened : (count i : ℕ) (vs : List Version) (c : CellState) → length c.state.sessions ≡ 0 → i < count → IsOpenWith (suc i) (version_after i vs) (with_sessions count vs c)
each_opened zero i vs c none below = absurd (omega arith)
each_opened (suc before) i vs c none below =
    let p : Progress = no_progress (version_after before vs) (with_sessions before vs c).state.next in
    elim (cases_eq i before) [
      | inl same ↦
          let absent = is_absent (progress_of (suc before) (with_sessions before vs c).state) (later_closed before (suc before) vs c none (omega arith)) in
          subst (λ (k : ℕ). IsOpenWith (suc k) (version_after k vs) (with_sessions (suc before) vs c)) (sym same) (p, own_end (suc before) p (with_sessions before vs c).state.sessions absent, refl)
      | inr other ↦
          let (q, opened, is) = each_opened before i vs c none (omega arith) in
          (q, other_end (suc i) (suc before) p (with_sessions before vs c).state.sessions (ne_eqb (suc before) (suc i) (λ same. other (omega arith))) ∙ opened, is)
    ]

all_opened : (vs : List Version) (cells : List CellState) → AllByRecursion (CanBegin (length vs)) cells
    → AllByRecursion (λ (c : CellState). (i : ℕ) → i < length vs → IsOpenWith (suc i) (version_after i vs) c) (map (with_sessions (length vs) vs) cells)
all_opened vs [] begin = tt
all_opened vs (c ∷ cs) (one, rest) = ((λ i below. each_opened (length vs) i vs c one.none below), all_opened vs cs rest)

version_got : (i : ℕ) (vs : List Version) (roster : List Definition) (s : ConnectionState) → slice_get (new_connections roster vs) i ≡ Some s → (i < length vs) × (s.version ≡ version_after i vs) × (all_of s ≡ [])
version_got i [] roster s found = absurd (none_there s found)
version_got zero (v ∷ vs) roster s found =
    let is = same_one (new_connection v roster) s found in
    (omega arith, ap (λ (x : ConnectionState). x.version) (sym is), ap all_of (sym is))
version_got (suc i) (v ∷ vs) roster s found = let (below, same, none) = version_got i vs roster s found in (omega arith, same, none)

pub new_keeps : (cells : List CellState) (vs : List Version) → AllByRecursion (CanBegin (length vs)) cells → KeepVersions (new_world cells vs)
new_keeps cells vs begin = record {
  tables = λ n t s c found at. opened n t s c found at;
  updates = λ n s found. none n s found;
}
  where
    opened : (n t : ℕ) (s : ConnectionState) (c : CellState) → connection_at n (new_connections (roster_of cells) vs) ≡ Some s → cell_at t (map (with_sessions (length vs) vs) cells) ≡ Some c → IsOpenWith n s.version c
    opened zero t s c found at = absurd (none_there s found)
    opened (suc i) t s c found at =
        let (below, same, empty) = version_got i vs (roster_of cells) s found in
        subst (λ (v : Version). IsOpenWith (suc i) v c) (sym same)
        (all_at (λ (x : CellState). (j : ℕ) → j < length vs → IsOpenWith (suc j) (version_after j vs) x) t c (map (with_sessions (length vs) vs) cells) (all_opened vs cells begin) at i below)

    none : (n : ℕ) (s : ConnectionState) → connection_at n (new_connections (roster_of cells) vs) ≡ Some s → AllByRecursion (IsOfVersion s.version) (all_of s)
    none zero s found = absurd (none_there s found)
    none (suc i) s found =
        let (below, same, empty) = version_got i vs (roster_of cells) s found in
        subst (AllByRecursion (IsOfVersion s.version)) (sym empty) tt
