-- What a sound world tells of its learners.
use Rattle.std.proofs.Common.{◌≡◌, ◌≢◌, ◌≤◌, ◌<◌, ℕ, Bool, true, false, List, [], ◌∷◌, ◌++◌, drop, take, length, Option, Some, None, Result, Ok, Err, refl, sym, ap, subst, ◌∙◌, inl, inr, ◌⊎◌, append_assoc, append-nil, take-append-drop, true≢false}
use Rattle.std.specs.Prelude.{cond, option_and_then, nat_eq, nat_lt, ◌==◌, if◌then◌else◌, filter_map}
use Rattle.std.specs.List.{AllByRecursion}
use Rattle.std.specs.Ordering.{is_eq}
use Rattle.std.proofs.lemmas.Bool.{cases_Bool, cond-true, cond-false, eq-eqb, eqb-true}
use Rattle.table_types.specs.declared.copies.CopyKind.{CopyKind}
use Rattle.table_types.specs.declared.copies.CopyKind.TheVariants as kinds
use Rattle.table_types.specs.declared.key.Key.{Key}
use Rattle.table_types.specs.declared.update.Update.{Update}
use Rattle.table_types.specs.Keys.{key_cmp}
use Rattle.table_types.specs.Rosters.{roster_fault, table_at}
use Rattle.table_types.specs.Rows.{StoredRow, row_of}
use Rattle.table_types.specs.Tables.{Definition}
use Rattle.table_types.specs.declared.version.Version.{Version}
use Rattle.table_types.proofs.EqualKeysAreOne.{one_key}
use Rattle.known_state.specs.Known.{known_of}
use Rattle.learner.specs.declared.fault.Fault.{Fault}
use Rattle.learner.specs.declared.fault.Fault.TheVariants as faults
use Rattle.learner.specs.Learning.{Learning, LearnerFeeds}
use Rattle.learner.specs.Rows.{AreOfOthers, put_all, row_at, rows_at}
use Rattle.table_cell.specs.declared.errors.CopyError.{CopyError}
use Rattle.table_cell.specs.declared.errors.CopyError.TheVariants as uncopied
use Rattle.table_cell.specs.declared.progress.Progress.{Progress}
use Rattle.table_cell.specs.Machine.{TableState, copy_refusal, has_out, if_live, is_out, live_row, progress_of, unacked, settled_by}
use Rattle.table_cell.specs.Histories.{CellState, IsSoundCell, is_history_full}
use Rattle.table_cell.specs.Handing.{IsLastOfItsKey, IsReached, KeepsUp, handed_since, is_of_each_kind, numbers, resyncs_since}
use Rattle.table_cell.proofs.HandingTaken.{front_taken, nothing_left}
use Rattle.interleave_core.specs.Moves.{ack_in}
use Rattle.interleave_core.proofs.TieAnswers.{first_taken, not_ahead}
use Rattle.interleave_core.proofs.TiePairs.{acked_made, same_table}
use Rattle.peers_msg.specs.Decoding.{AreRead}
use Rattle.peers_msg.specs.Received.{Received, nothing_received}
use Rattle.peers_msg.specs.declared.message.Message.{Message}
use Rattle.table_cell.specs.declared.events.CellEvent.{CellEvent}
use Rattle.table_cell.specs.declared.events.CellEvent.TheVariants as events
use Rattle.table_cell.specs.declared.events.CellReply.{CellReply}
use Rattle.table_cell.specs.declared.events.CellReply.TheVariants as replies
use Rattle.interleave_core.specs.Core.{AreRefusedIfFull, IsCore, IsOfCopied, StandsAtLearner}
use Rattle.interleave_core.specs.Sound.{IsSoundConnection, IsAckFor}
use Rattle.interleave_core.specs.SoundWorlds.{IsSoundSession, IsSoundWorld}
use Rattle.interleave_core.specs.Ties.{AreSoundTables, AreTied, IsAmong, IsJustOpened, WasCopied, joined, of_table}
use Rattle.interleave_core.specs.Worlds.{ConnectionState, WorldState, cell_at, connection_at, new_connection, roster_of, with_cell}
use Rattle.interleave_core.proofs.RowsLeft.{each_row, last_row}
use Rattle.interleave_core.proofs.SoundConnections.{arrived, begun, ended}
use Rattle.interleave_core.proofs.TieCells.{found_id, none_there, same_one}
use Rattle.interleave_core.proofs.TieOpenings.{at_rest, fresh_ties, found_of}
use Rattle.interleave_core.proofs.TieShares.{of_append, split_handed}
use Rattle.interleave_core.proofs.TieTables.{all_at, roster_with}
use Rattle.interleave_core.proofs.TieTold.{handed_front, number_put, rest_above, taught_copied}
use Rattle.interleave_core.proofs.WorldPlaces.{in_roster}

-- ---- the updates of a table, among all

-- an update among those of a table, among all updates
find_in : (t : ℕ) (us bs as_after : List Update) (u : Update) → of_table t us ≡ bs ++ u ∷ as_after
    → (xs : List Update) × (ys : List Update) × (us ≡ xs ++ u ∷ ys) × (u.table ≡ t) × (of_table t ys ≡ as_after)
find_in t [] bs as_after u is = absurd (no_end bs is)
  where
    no_end : (bs : List Update) → ◌≡◌ {A = List Update} [] (bs ++ u ∷ as_after) → ⊥
    no_end [] is = cc
    no_end (b ∷ bs) is = cc
find_in t (v ∷ vs) bs as_after u is = elim (cases_Bool (nat_eq v.table t)) [
  | inl own ↦ here (λ cs. find_in t vs cs as_after u) bs (sym (cond-true (nat_eq v.table t) (v ∷ of_table t vs) (of_table t vs) own) ∙ is) (eqb-true v.table t own)
  | inr other ↦
      let (xs, ys, split, same, rest) = find_in t vs bs as_after u (sym (cond-false (nat_eq v.table t) (v ∷ of_table t vs) (of_table t vs) other) ∙ is) in
      (v ∷ xs, ys, ap (λ (l : List Update). v ∷ l) split, same, rest)
]
  where
    first_same : (x y : Update) (l m : List Update) → x ∷ l ≡ y ∷ m → x ≡ y
    first_same x y l m is = cc

    rest_same : (x y : Update) (l m : List Update) → x ∷ l ≡ y ∷ m → l ≡ m
    rest_same x y l m is = cc

    here : ((cs : List Update) → of_table t vs ≡ cs ++ u ∷ as_after → (xs : List Update) × (ys : List Update) × (vs ≡ xs ++ u ∷ ys) × (u.table ≡ t) × (of_table t ys ≡ as_after))
        → (bs : List Update) → v ∷ of_table t vs ≡ bs ++ u ∷ as_after → v.table ≡ t
        → (xs : List Update) × (ys : List Update) × (v ∷ vs ≡ xs ++ u ∷ ys) × (u.table ≡ t) × (of_table t ys ≡ as_after)
    here again [] is own =
        let same = first_same v u (of_table t vs) as_after is in
        ([], vs, ap (λ (x : Update). x ∷ vs) same, ap (λ (x : Update). x.table) (sym same) ∙ own, rest_same v u (of_table t vs) as_after is)
    here again (b ∷ bs) is own =
        let (xs, ys, split, same, rest) = again bs (rest_same v b (of_table t vs) (bs ++ u ∷ as_after) is) in
        (v ∷ xs, ys, ap (λ (l : List Update). v ∷ l) split, same, rest)

-- if none of a table's updates has the key, each update is of another table or key
of_others : (t : ℕ) (key : Key) (us : List Update) → AllByRecursion (λ (u : Update). u.key ≢ key) (of_table t us) → AreOfOthers t key us
of_others t key [] all = tt
of_others t key (u ∷ us) all = elim (cases_Bool (nat_eq u.table t)) [
  | inl own ↦
      let both = subst (AllByRecursion (λ (x : Update). x.key ≢ key)) (cond-true (nat_eq u.table t) (u ∷ of_table t us) (of_table t us) own) all in
      (inr both.0, of_others t key us both.1)
  | inr other ↦ (
    inl (λ same. true≢false (sym (eq-eqb u.table t same) ∙ other)),
    of_others t key us (subst (AllByRecursion (λ (x : Update). x.key ≢ key)) (cond-false (nat_eq u.table t) (u ∷ of_table t us) (of_table t us) other) all),
  )
]

-- ---- rows that stand at the learner

-- what is last of its key among the updates of a table that were put since some moment stands at the learner
stands : (roster : List Definition) (s : ConnectionState) (acks : List (ℕ × ℕ)) (d : Definition) (t before : ℕ) (e : Key × StoredRow) → IsSoundConnection roster s acks → table_at roster t ≡ Some d
    → IsLastOfItsKey (of_table t (drop before s.applied)) e → StandsAtLearner roster t s e
stands roster s acks d t before e sound listed (bs, rest, u, is, key, number, others) =
    let (xs, ys, split, own, last) = find_in t (drop before s.applied) bs rest u is in
    let whole : s.applied ≡ (take before s.applied ++ xs) ++ u ∷ ys =
    sym (take-append-drop before s.applied) ∙ ap (λ (l : List Update). take before s.applied ++ l) split ∙ sym (append_assoc (take before s.applied) xs (u ∷ ys)) in
    let of_other : AreOfOthers u.table u.key ys =
    subst (λ (k : ℕ). AreOfOthers k u.key ys) (sym own) (subst (λ (k : Key). AreOfOthers t k ys) (sym key) (of_others t e.0 ys (subst (AllByRecursion (λ (x : Update). x.key ≢ e.0)) (sym last) others))) in
    let (now, below, stood) = last_row roster s.applied (take before s.applied ++ xs) ys s.learner.rows u d sound.rows whole (ap (table_at roster) own ∙ listed) of_other in
    (row_of now d.expire u, ap (λ (k : Key). row_at k (rows_at roster t s.learner.rows)) (sym key) ∙ ap (λ (k : ℕ). row_at u.key (rows_at roster k s.learner.rows)) (sym own) ∙ stood, number)

all_rows : {P : Key × StoredRow → Type 0} (Q : Key × StoredRow → Type 0) (es : List (Key × StoredRow)) → AllByRecursion P es → ((e : Key × StoredRow) → P e → Q e) → AllByRecursion Q es
all_rows Q [] all so = tt
all_rows Q (e ∷ es) (first, rest) so = (so e first, all_rows Q es rest so)

cond_some : {A : Type 0} (b : Bool) (x y : A) → cond b (Some x) None ≡ Some y → (b ≡ true) × (x ≡ y)
cond_some true x y is = (refl, same_one x y is)
cond_some false x y is = absurd (none_there y is)

-- what holds of each live row holds of the one of a key
live_at : (Q : Key × StoredRow → Type 0) (now : ℕ) (key : Key) (row : StoredRow) (rows : List (Key × StoredRow)) → option_and_then (if_live now) (row_at key rows) ≡ Some row
    → AllByRecursion (λ (e : Key × StoredRow). if_live now e.1 ≡ Some e.1 → Q e) rows → Q (key, row)
live_at Q now key row [] live all = absurd (none_there row live)
live_at Q now key row (x ∷ xs) live (first, rest) = elim (cases_Bool (is_eq (key_cmp key x.0))) [
  | inl own ↦
      let here : if_live now x.1 ≡ Some row = ap (λ (o : Option StoredRow). option_and_then (if_live now) o) (sym (cond-true (is_eq (key_cmp key x.0)) (Some x.1) (row_at key xs) own)) ∙ live in
      let is : x.1 ≡ row = (cond_some _ x.1 row here).1 in
      subst (λ (r : StoredRow). Q (key, r)) is (subst (λ (k : Key). Q (k, x.1)) (sym (one_key key x.0 own)) (first (here ∙ ap (λ (r : StoredRow). Some r) (sym is))))
  | inr other ↦
      live_at Q now key row xs (ap (λ (o : Option StoredRow). option_and_then (if_live now) o) (sym (cond-false (is_eq (key_cmp key x.0)) (Some x.1) (row_at key xs) other)) ∙ live) rest
]

-- the definition of a table that is found is in the roster
listed_at : (w : WorldState) (t : ℕ) (c : CellState) → cell_at t w.cells ≡ Some c → table_at (roster_of w.cells) t ≡ Some c.state.definition
listed_at w t c at = in_roster t c w.cells at

-- rows up to the number acknowledged stand at the learner
pub acknowledged_stand : (w : WorldState) (session t now : ℕ) (s : ConnectionState) (c : CellState) → IsSoundWorld w → connection_at session w.connections ≡ Some s → cell_at t w.cells ≡ Some c
    → c.state.latest ≤ now
    → (p : Progress) × (progress_of session c.state ≡ Some p)
    × AllByRecursion (λ (e : Key × StoredRow). IsReached (resyncs_since session c.history) p.acknowledged now e → StandsAtLearner (roster_of w.cells) t s e) c.state.rows
acknowledged_stand w session t now s c sound found at later =
    let (before, acks, connection, ties) = sound.sessions session s found in
    let (p, tie) = ties.each t c at in
    let to_come = connection.track.way.1 in
    let done = of_table t (drop before s.applied) in
    let (rest, handed, far) = handed_front session before t s acks to_come w.cells c p connection.track.way.3 at tie.progress ties in (
      p,
      tie.progress,
      all_rows (λ (e : Key × StoredRow). IsReached (resyncs_since session c.history) p.acknowledged now e → StandsAtLearner (roster_of w.cells) t s e) c.state.rows
          (front_taken c session now p done rest (all_at IsSoundCell t c w.cells sound.tables.sound at) (all_at (KeepsUp session) t c w.cells (sound.tables.keep session) at) tie.progress later handed far)
          (λ e last reached. stands (roster_of w.cells) s acks c.state.definition t before e connection (listed_at w t c at) (last reached)),
    )

-- ---- nothing to copy

not_first : {E : Type 0} (b : Bool) (x y : E) (rest : Option E) → cond b (Some x) rest ≡ Some y → (◌≡◌ {A = Option E} (Some x) (Some y) → ⊥) → (b ≡ false) × (rest ≡ Some y)
not_first true x y rest is apart = absurd (apart is)
not_first false x y rest is apart = (refl, is)

-- a copy that finds nothing finds no batch out
none_out : (full : Bool) (s : TableState) (session limit now : ℕ) (kind : CopyKind) → copy_refusal full s session kind limit now ≡ Some uncopied.Nothing → has_out (progress_of session s) ≡ false
none_out full s session limit now kind refused = by (progress_of session s) refl
  where
    of_session : Option Progress → Option CopyError
    of_session None = Some uncopied.NoSession
    of_session (Some progress) =
        if nat_lt now s.latest then Some uncopied.MomentBack
        else (if is_out progress then Some uncopied.BatchOut
        else (if length (unacked s session kind now limit) == 0 then Some uncopied.Nothing
        else (if full then Some uncopied.HistoryFull
        else None)))

    back : ◌≡◌ {A = Option CopyError} (Some uncopied.MomentBack) (Some uncopied.Nothing) → ⊥
    back is = cc

    out : ◌≡◌ {A = Option CopyError} (Some uncopied.BatchOut) (Some uncopied.Nothing) → ⊥
    out is = cc

    by : (o : Option Progress) → progress_of session s ≡ o → has_out (progress_of session s) ≡ false
    by None at = ap has_out at
    by (Some p) at =
        let first = not_first (nat_lt now s.latest) uncopied.MomentBack uncopied.Nothing _ (sym (ap of_session at) ∙ refused) back in
        let second = not_first (is_out p) uncopied.BatchOut uncopied.Nothing _ first.1 out in
        ap has_out at ∙ second.0

-- if a copy finds nothing, each row that it would include stands at the learner
pub resynced_stand : (w : WorldState) (session t limit now : ℕ) (full : Bool) (s : ConnectionState) (c : CellState) (key : Key) (row : StoredRow) → IsSoundWorld w → connection_at session w.connections ≡ Some s → cell_at t w.cells ≡ Some c
    → 1 ≤ limit → copy_refusal full c.state session kinds.Resync limit now ≡ Some uncopied.Nothing → resyncs_since session c.history ≡ true → live_row key now c.state ≡ Some row
    → StandsAtLearner (roster_of w.cells) t s (key, row)
resynced_stand w session t limit now full s c key row sound found at some refused resyncs live =
    let (before, acks, connection, ties) = sound.sessions session s found in
    let to_come = connection.track.way.1 in
    let done = of_table t (drop before s.applied) in
    let (p, tie) = ties.each t c at in
    let rest = at_rest session t before s acks to_come c p ties.within connection.track.way.3 (none_out full c.state session limit now kinds.Resync refused) tie in
    let all_done : handed_since session c.history ≡ done =
    sym tie.same
    ∙ split_handed t before s.taught s.applied to_come s.copied ties.within connection.track.way.3
    ∙ ap (λ (l : List Update). done ++ l) (of_append t to_come (joined s.copied) ∙ ap (λ (l : List Update). l ++ of_table t (joined s.copied)) rest.arrived ∙ rest.taught)
    ∙ append-nil done in
    live_at (StandsAtLearner (roster_of w.cells) t s) now key row c.state.rows live
    (all_rows (λ (e : Key × StoredRow). if_live now e.1 ≡ Some e.1 → StandsAtLearner (roster_of w.cells) t s e) c.state.rows
    (nothing_left c session limit now kinds.Resync full (all_at IsSoundCell t c w.cells sound.tables.sound at) (all_at (KeepsUp session) t c w.cells (sound.tables.keep session) at) some refused)
    (λ e last lives.
    stands (roster_of w.cells) s acks c.state.definition t before e connection (listed_at w t c at)
    (subst (λ (l : List Update). IsLastOfItsKey l e) all_done (last (cond_some _ e.1 e.1 lives).0 refl (ap (λ (b : Bool). is_of_each_kind b e.1) resyncs)))))

-- ---- rows at the learner

of_each : (P : Update → Type 0) (xs ys : List Update) (u : Update) → AllByRecursion P (xs ++ u ∷ ys) → P u
of_each P [] ys u (first, rest) = first
of_each P (x ∷ xs) ys u (first, rest) = of_each P xs ys u rest

-- if none of the updates is of the table and the key, none of the table's is of the key
own_others : (t : ℕ) (key : Key) (us : List Update) → AreOfOthers t key us → AllByRecursion (λ (u : Update). u.key ≢ key) (of_table t us)
own_others t key [] all = tt
own_others t key (u ∷ us) (first, rest) = elim (cases_Bool (nat_eq u.table t)) [
  | inl own ↦
      subst (AllByRecursion (λ (x : Update). x.key ≢ key)) (sym (cond-true (nat_eq u.table t) (u ∷ of_table t us) (of_table t us) own))
      (unlike (eqb-true u.table t own) first, own_others t key us rest)
  | inr other ↦
      subst (AllByRecursion (λ (x : Update). x.key ≢ key)) (sym (cond-false (nat_eq u.table t) (u ∷ of_table t us) (of_table t us) other)) (own_others t key us rest)
]
  where
    unlike : u.table ≡ t → (u.table ≢ t) ⊎ (u.key ≢ key) → u.key ≢ key
    unlike own (inl apart) = absurd (apart own)
    unlike own (inr apart) = apart

-- each row at the learner is of the last update of its key that was put, which was copied if all that was taught was
pub rows_of_taught : (w : WorldState) (session t : ℕ) (s : ConnectionState) (c : CellState) (hs : List (CellEvent × CellReply)) (key : Key) (row : StoredRow) → IsSoundWorld w → connection_at session w.connections ≡ Some s
    → cell_at t w.cells ≡ Some c → row_at key (rows_at (roster_of w.cells) t s.learner.rows) ≡ Some row → AllByRecursion (WasCopied session hs) (of_table t s.taught)
    → IsOfCopied session hs c.state.definition.expire (of_table t s.applied) key row
rows_of_taught w session t s c hs key row sound found at there all_copied =
    let (before, acks, connection, ties) = sound.sessions session s found in
    let id = found_id t c w.cells at in
    let d = c.state.definition in
    let to_come = connection.track.way.1 in
    let (front, u, behind, now, split, own, same, others, below, is) =
    each_row (roster_of w.cells) s.applied s.learner.rows d key row connection.rows (ap (table_at (roster_of w.cells)) id ∙ listed_at w t c at)
    (ap (λ (k : ℕ). row_at key (rows_at (roster_of w.cells) k s.learner.rows)) id ∙ there) in
    let put : of_table t s.applied ≡ of_table t front ++ u ∷ of_table t behind =
    ap (of_table t) split ∙ of_append t front (u ∷ behind)
    ∙ ap (λ (l : List Update). of_table t front ++ l) (cond-true (nat_eq u.table t) (u ∷ of_table t behind) (of_table t behind) (eq-eqb u.table t (own ∙ id))) in
    let taught : of_table t s.taught ≡ of_table t front ++ u ∷ (of_table t behind ++ of_table t to_come) =
    ap (of_table t) connection.track.way.3 ∙ of_append t s.applied to_come
    ∙ ap (λ (l : List Update). l ++ of_table t to_come) put ∙ append_assoc (of_table t front) (u ∷ of_table t behind) (of_table t to_come) in
    let copied : WasCopied session hs u =
    of_each (WasCopied session hs) (of_table t front) (of_table t behind ++ of_table t to_come) u (subst (AllByRecursion (WasCopied session hs)) taught all_copied) in
    (of_table t front, u, of_table t behind, now, put, same, own_others t key behind (subst (λ (k : ℕ). AreOfOthers k key behind) id others), copied, below, is)

-- some copy had it
pub rows_copied : (w : WorldState) (session t : ℕ) (s : ConnectionState) (c : CellState) (key : Key) (row : StoredRow) → IsSoundWorld w → connection_at session w.connections ≡ Some s → cell_at t w.cells ≡ Some c
    → row_at key (rows_at (roster_of w.cells) t s.learner.rows) ≡ Some row → IsOfCopied session c.history c.state.definition.expire (of_table t s.applied) key row
rows_copied w session t s c key row sound found at there =
    let (before, acks, connection, ties) = sound.sessions session s found in
    rows_of_taught w session t s c c.history key row sound found at there (taught_copied session before t s acks w.cells c at ties)

-- ---- what is acknowledged

pub acknowledged_put : (w : WorldState) (session t : ℕ) (s : ConnectionState) (c : CellState) → IsSoundWorld w → connection_at session w.connections ≡ Some s → cell_at t w.cells ≡ Some c
    → (p : Progress) × (progress_of session c.state ≡ Some p)
    × ((p.acknowledged ≡ 0) ⊎ IsAmong p.acknowledged (numbers (of_table t s.applied)))
    × (to_come : List Update) × (s.taught ≡ s.applied ++ to_come) × AllByRecursion (λ (u : Update). p.acknowledged < u.number) (of_table t to_come)
acknowledged_put w session t s c sound found at =
    let (before, acks, connection, ties) = sound.sessions session s found in
    let (p, tie) = ties.each t c at in (
      p,
      tie.progress,
      number_put session before t s acks w.cells c p at tie.progress ties,
      connection.track.way.1,
      connection.track.way.3,
      rest_above session before t s acks connection.track.way.1 w.cells c p connection.track.way.3 at tie.progress ties,
    )

pub ends_known : (w : WorldState) (session now : ℕ) (s : ConnectionState) (answer : Result ℕ Fault) (l : Learning) → IsSoundWorld w → connection_at session w.connections ≡ Some s
    → LearnerFeeds now s.learner s.to_learner answer l → answer ≢ Err faults.Memory
    → (us : List Update) × (answer ≡ Ok (length us)) × (s.taught ≡ s.applied ++ us) × (l.rows ≡ put_all now (roster_of w.cells) us s.learner.rows)
    × (l.intake.unread ≡ []) × (known_of (roster_of w.cells) l.intake.state ≡ s.known)
ends_known w session now s answer l sound found feeds unless =
    let (before, acks, connection, ties) = sound.sessions session s found in
    ended (roster_of w.cells) s acks now answer l connection feeds unless

-- ---- acknowledgements that arrive

refused_if_full : (n before : ℕ) (s : ConnectionState) (acks rest : List (ℕ × ℕ)) (cells : List CellState) → AllByRecursion (IsAckFor (roster_of cells)) acks
    → AreTied n before s (acks ++ rest) cells → AreRefusedIfFull n acks cells
refused_if_full n before s [] rest cells all ties = tt
refused_if_full n before s (ack ∷ acks) rest cells (one, all) ties =
    let (c, at) = found_of ack.0 cells one.0 in (
      c,
      at,
      not_ahead n before ack.0 ack.1 (is_history_full c) s (acks ++ rest) cells c at ties,
      λ e is.
          let made = acked_made n ack.1 c e is in
          let same = roster_with ack.0 c e cells at (same_table c e (events.Ack n ack.1) (replies.Ack (settled_by (progress_of n c.state) ack.1)) made) in
          refused_if_full n before s acks rest (with_cell ack.0 e cells) (subst (λ (ds : List Definition). AllByRecursion (IsAckFor ds) acks) (sym same) all)
          (first_taken n before ack.0 ack.1 s (acks ++ rest) cells c e at is ties),
    )

all_acks : (P : ℕ × ℕ → Type 0) (xs ys : List (ℕ × ℕ)) → AllByRecursion P (xs ++ ys) → AllByRecursion P xs
all_acks P [] ys all = tt
all_acks P (x ∷ xs) ys (first, rest) = (first, all_acks P xs ys rest)

-- a table refuses an acknowledgement that arrives at a teacher only if it has no room
pub arrived_if_full : (w : WorldState) (session count : ℕ) (s : ConnectionState) (ms : List Message) (received : Received) (left : List ℕ) → IsSoundWorld w → connection_at session w.connections ≡ Some s
    → AreRead nothing_received (s.unread ++ take count s.to_teacher) ms received left → AreRefusedIfFull session (filter_map (ack_in (roster_of w.cells)) ms) w.cells
arrived_if_full w session count s ms received left sound found read =
    let (before, acks, connection, ties) = sound.sessions session s found in
    let given = filter_map (ack_in (roster_of w.cells)) ms in
    let (later, split, after) = arrived (roster_of w.cells) s acks count ms received left connection read in
    refused_if_full session before s given later w.cells
    (all_acks (IsAckFor (roster_of w.cells)) given later (subst (AllByRecursion (IsAckFor (roster_of w.cells))) split connection.to_teacher.2))
    (subst (λ (l : List (ℕ × ℕ)). AreTied session before s l w.cells) split ties)

-- ---- a new world

pub new_sound : (w : WorldState) → roster_fault (roster_of w.cells) ≡ None → AreSoundTables w.cells
    → ((session : ℕ) (s : ConnectionState) → connection_at session w.connections ≡ Some s → (version : Version) × (s ≡ new_connection version (roster_of w.cells)))
    → ((session t : ℕ) (s : ConnectionState) (c : CellState) → connection_at session w.connections ≡ Some s → cell_at t w.cells ≡ Some c → IsJustOpened session c)
    → IsSoundWorld w
new_sound w fault tables new just = record {
  roster = fault;
  tables = tables;
  sessions = λ n s found.
      let (version, is) = new n s found in
      subst (λ (x : ConnectionState). IsSoundSession n w.cells x) (sym is)
      (0, [], begun version (roster_of w.cells) fault, fresh_ties n version (roster_of w.cells) w.cells (λ t c at. just n t s c found at));
}

-- ---- all together

pub core_of : (w : WorldState) → IsSoundWorld w → IsCore w
core_of w sound = λ session s found. record {
  roster = (sound.sessions session s found).2.track.learner;
  arrives = λ now answer l feeds unless. ends_known w session now s answer l sound found feeds unless;
  acknowledged = λ table c at. acknowledged_put w session table s c sound found at;
  granted = λ count ms received left read. arrived_if_full w session count s ms received left sound found read;
  rows = λ table c key row at stored. rows_copied w session table s c key row sound found at stored;
  stand = λ table now c at latest. acknowledged_stand w session table now s c sound found at latest;
  resynced = λ table limit now full c key row at least nothing resyncs live. resynced_stand w session table limit now full s c key row sound found at least nothing resyncs live;
}
