-- A cell keeps up with a session, whatever happens next.
use Rattle.std.proofs.Common.{◌≡◌, ℕ, ◌<◌, ◌≤◌, Bool, true, false, not, ◌&&◌, ◌||◌, List, [], ◌∷◌, ◌++◌, Option, Some, None, refl, sym, ap, subst, ◌∙◌, arith, inl, inr, true≢false}
use Rattle.std.specs.Prelude.{filter, map, take, fold, nat_lt, nat_le, is_some, is_none, length, MatchBool, option_map, ◌==◌, if◌then◌else◌}
use Rattle.std.specs.List.{AllByRecursion}
use Rattle.std.specs.Ordering.{is_eq}
use Rattle.std.proofs.lemmas.Bool.{cases_eq, cases_lt, ne_eqb, cond_both, lt-ltb, ltb-false, le-leb, and_from}
use Rattle.std.proofs.lemmas.List.Sums.{fold-append, fold_push}
use Rattle.table_types.specs.declared.key.Key.{Key}
use Rattle.table_types.specs.declared.update.Update.{Update}
use Rattle.table_types.specs.declared.version.Version.{Version}
use Rattle.table_types.specs.declared.copies.CopyKind.{CopyKind}
use Rattle.table_types.specs.declared.copies.CopyKind.TheVariants as kinds
use Rattle.table_types.specs.Keys.{key_cmp, key_fits}
use Rattle.table_types.specs.Changes.{change_fits}
use Rattle.table_types.specs.Rows.{StoredRow}
use Rattle.table_rows.specs.Rows.{IsFirstToEnd, is_live}
use Rattle.table_cell.specs.Copying.{update_of}
use Rattle.table_cell.specs.declared.errors.CopyError.{CopyError}
use Rattle.table_cell.specs.declared.errors.CopyError.TheVariants as uncopied
use Rattle.table_cell.specs.declared.events.CellEvent.{CellEvent}
use Rattle.table_cell.specs.declared.events.CellEvent.TheVariants as events
use Rattle.table_cell.specs.declared.events.CellReply.{CellReply}
use Rattle.table_cell.specs.declared.progress.Progress.{Progress}
use Rattle.table_cell.specs.Machine.{TableState, Leaves, Replays, Step, acknowledged_by, acknowledging, bound_by, copied, copy_refusal, has_room, in_reach, is_copied, is_of_table, is_out, is_unacked, last_number, no_progress, progress_of, stored, unacked, with_progress, without, version_by}
use Rattle.table_cell.specs.Histories.{CellState, IsSoundCell, Made, is_copy_of}
use Rattle.table_cell.specs.Parts.{is_in_reach}
use Rattle.table_cell.specs.Soundness.{AreTimely, IsSound}
use Rattle.table_cell.specs.Handing.{Ascend, IsHanded, IsHandedOut, IsNoOlder, IsReached, KeepsUp, handed_after, handed_since, is_about, is_of_each_kind, is_open_of, numbers, resyncs_after, resyncs_since}
use Rattle.table_stock.proofs.RowsLaws.{all_end, all_filter, all_so, rise_each, some_none}
use Rattle.table_cell.proofs.ReachLaws.{all_up_to, is_up_to, reach_rise}
use Rattle.table_cell.proofs.StepLaws.{all_take, passes, step_sound}
use Rattle.table_cell.proofs.HandingSessions.{below_next, handed_as_before, handed_copy, handed_open, is_resync, no_copy, no_open, own_end, own_with, own_without, resyncs_as_before, resyncs_copy, resyncs_open, same_progress, same_progress_of}
use Rattle.table_cell.proofs.HandingRows.{IsIn, all_append, all_map, ascend_append, ascend_take, each_in, from_filter, handed_back, handed_front, in_filter, of_each, one_row, reach_from, reach_in, still_live, take_covers, unacked_ascend, up_to_last}

-- ---- rows that leave, and a row that comes

-- the row was handed out if the copies include it
abbrev pub WasHanded : List Update → Bool → ℕ → ℕ → Key × StoredRow → Type 0
WasHanded us resyncs taught now e = IsReached resyncs taught now e → IsHanded us e

-- a row that is live later is live now, so it was handed out if the copies include it then
handed_later : (us : List Update) (resyncs : Bool) (taught latest now : ℕ) (rows : List (Key × StoredRow)) → latest ≤ now → AllByRecursion (WasHanded us resyncs taught latest) rows → AllByRecursion (WasHanded us resyncs taught now) rows
handed_later us resyncs taught latest now rows later all =
    all_so (WasHanded us resyncs taught latest) (WasHanded us resyncs taught now) (λ x was (within, live, each). was (within, still_live latest now x.1 later live, each)) rows all

-- the rows are among those before, and the moment is no earlier
rows_leave : (us : List Update) (resyncs : Bool) (taught : ℕ) (s e : TableState) → s.latest ≤ e.latest → ((P : Key × StoredRow → Type 0) → AllByRecursion P s.rows → AllByRecursion P e.rows) → IsHandedOut us resyncs taught s → IsHandedOut us resyncs taught e
rows_leave us resyncs taught s e later stay out = record {
  ascend = out.ascend;
  last = out.last;
  handed = stay (WasHanded us resyncs taught e.latest) (handed_later us resyncs taught s.latest e.latest s.rows later out.handed);
  no_older = stay (IsNoOlder us) out.no_older;
}

-- what holds of all rows holds of those that remain
left_all : (s : TableState) (key : Key) (rest : List (Key × StoredRow)) (P : Key × StoredRow → Type 0) → Leaves s key rest → AllByRecursion P s.rows → AllByRecursion P rest
left_all s key rest P leaves all = by (has_room s key) leaves
  where
    by : (room : Bool) → MatchBool room (rest ≡ s.rows) ((first : Key) × IsFirstToEnd s.rows first × (rest ≡ without first s.rows)) → AllByRecursion P rest
    by true same = subst (AllByRecursion P) (sym same) all
    by false (first, is_first, same) = subst (AllByRecursion P) (sym same) (all_filter P (λ (e : Key × StoredRow). not (is_eq (key_cmp first e.0))) s.rows all)

-- a row comes, under a number above the one taught
row_comes : (us : List Update) (resyncs : Bool) (taught : ℕ) (s : TableState) (key : Key) (row : StoredRow) (now : ℕ) (rest : List (Key × StoredRow)) → s.latest ≤ now → taught < row.number → Leaves s key rest
    → IsHandedOut us resyncs taught s → IsHandedOut us resyncs taught (stored s key row now rest)
row_comes us resyncs taught s key row now rest later above leaves out = record {
  ascend = out.ascend;
  last = out.last;
  handed = all_end (WasHanded us resyncs taught now) (key, row) (without key rest) (remain (WasHanded us resyncs taught now) (handed_later us resyncs taught s.latest now s.rows later out.handed)) (λ (within, live, each). absurd (omega arith));
  no_older = all_end (IsNoOlder us) (key, row) (without key rest) (remain (IsNoOlder us) out.no_older)
      (all_so (λ (u : Update). u.number ≤ last_number 0 us) (λ (u : Update). u.key ≡ key → u.number ≤ row.number) (λ u low same. let is = out.last in omega arith) us (up_to_last 0 us out.ascend));
}
  where
    remain : (P : Key × StoredRow → Type 0) → AllByRecursion P s.rows → AllByRecursion P (without key rest)
    remain P all = all_filter P (λ (e : Key × StoredRow). not (is_eq (key_cmp key e.0))) rest (left_all s key rest P leaves all)

-- ---- a copy that isn't refused

-- what such a copy finds
pub record IsCopied (s : TableState) (session now : ℕ) (progress : Progress) : Type 0 where
  pub found : progress_of session s ≡ Some progress
  pub later : s.latest ≤ now
  pub none_out : is_out progress ≡ false

pub copy_of : (s : TableState) (session : ℕ) (kind : CopyKind) (limit now : ℕ) → copy_refusal false s session kind limit now ≡ None → (progress : Progress) × IsCopied s session now progress
copy_of s session kind limit now granted = by (progress_of session s) refl
  where
    of_session : Option Progress → Option CopyError
    of_session None = Some uncopied.NoSession
    of_session (Some progress) =
        if nat_lt now s.latest then Some uncopied.MomentBack
        else (if is_out progress then Some uncopied.BatchOut
        else (if length (unacked s session kind now limit) == 0 then Some uncopied.Nothing
        else None))

    by : (o : Option Progress) → progress_of session s ≡ o → (progress : Progress) × IsCopied s session now progress
    by None at = absurd (some_none uncopied.NoSession (sym (ap of_session at) ∙ granted))
    by (Some progress) at =
        let c = passes (nat_lt now s.latest) uncopied.MomentBack _ (sym (ap of_session at) ∙ granted) in
        let b = passes (is_out progress) uncopied.BatchOut _ c.1 in
        (progress, record { found = at; later = ltb-false now s.latest c.0; none_out = b.0 })

-- ---- any event, with what was handed as before

stays_out : (us : List Update) (resyncs : Bool) (taught : ℕ) (s e : TableState) (event : CellEvent) (reply : CellReply) → taught < s.next → Step s event reply e → IsHandedOut us resyncs taught s → IsHandedOut us resyncs taught e
stays_out us resyncs taught s e (events.Track seat key change now) reply below (granted, rest, leaves, answer, is) out =
    let d = s.definition in
    let a = passes (not (key_fits d.kind d.key_length key)) _ _ granted in
    let b = passes (not (change_fits d change)) _ _ a.1 in
    let c = passes (nat_lt now s.latest) _ _ b.1 in
    subst (IsHandedOut us resyncs taught) (sym is) (row_comes us resyncs taught s key _ now rest (ltb-false now s.latest c.0) below leaves out)
stays_out us resyncs taught s e (events.Learn session u now) reply below (granted, rest, leaves, answer, is) out =
    let o = passes (is_none (progress_of session s)) _ _ granted in
    let a = passes (not (is_of_table s.definition u)) _ _ o.1 in
    let c = passes (nat_lt now s.latest) _ _ a.1 in
    subst (IsHandedOut us resyncs taught) (sym is) (row_comes us resyncs taught s u.key _ now rest (ltb-false now s.latest c.0) below leaves out)
stays_out us resyncs taught s e (events.Copy session kind limit now) reply below (granted, answer, is) out =
    let found = copy_of s session kind limit now granted in
    subst (IsHandedOut us resyncs taught) (sym is) (rows_leave us resyncs taught s (copied s session (unacked s session kind now limit) now) found.1.later (λ P all. all) out)
stays_out us resyncs taught s e (events.Ack session number) reply below (granted, answer, is) out =
    subst (IsHandedOut us resyncs taught) (sym is) (rows_leave us resyncs taught s (record s { sessions = with_progress session (acknowledging number) s.sessions }) (omega arith) (λ P all. all) out)
stays_out us resyncs taught s e (events.Open session version) reply below (granted, answer, is) out =
    subst (IsHandedOut us resyncs taught) (sym is) (rows_leave us resyncs taught s (record s { sessions = s.sessions ++ (session, no_progress version s.next) ∷ [] }) (omega arith) (λ P all. all) out)
stays_out us resyncs taught s e (events.Close session) reply below (granted, answer, is) out =
    subst (IsHandedOut us resyncs taught) (sym is) (rows_leave us resyncs taught s (record s { sessions = filter (λ (entry : ℕ × Progress). not (entry.0 == session)) s.sessions }) (omega arith) (λ P all. all) out)
stays_out us resyncs taught s e (events.Purge now) reply below (granted, answer, is) out =
    let c = passes (nat_lt now s.latest) _ _ granted in
    let live = λ (row : Key × StoredRow). is_live now row.1 in
    subst (IsHandedOut us resyncs taught) (sym is) (rows_leave us resyncs taught s (record s { rows = filter live s.rows; latest = now }) (ltb-false now s.latest c.0) (λ P all. all_filter P live s.rows all) out)

-- ---- a copy for the session

-- the last number is at most `bound` if the number of each update is, and `least` too
pub last_most : (bound least : ℕ) (us : List Update) → AllByRecursion (λ (u : Update). u.number ≤ bound) us → least ≤ bound → last_number least us ≤ bound
last_most bound least [] all within = within
last_most bound least (u ∷ us) (first, rest) within = last_most bound u.number us rest first

last_low : (bound low number : ℕ) (us : List Update) → AllByRecursion (λ (u : Update). u.number ≤ bound) us → low < number → number ≤ last_number low us → number ≤ bound
last_low bound low number [] all above within = absurd (omega arith)
last_low bound low number (u ∷ us) (first, rest) above within = let most = last_most bound u.number us rest first in omega arith

-- the updates of a standing resync have numbers up to its bound
pub standing_within : (version : Version) (s : TableState) (bound low now limit : ℕ) → AllByRecursion (λ (u : Update). u.number ≤ bound) (take limit (map (update_of version s.definition now) (filter (is_unacked kinds.Standing low now) (in_reach kinds.Standing bound s.rows))))
standing_within version s bound low now limit =
    let rows = filter (is_up_to bound) s.rows in
    all_take (λ (u : Update). u.number ≤ bound) limit (map (update_of version s.definition now) (filter (is_unacked kinds.Standing low now) rows))
    (all_map (λ (u : Update). u.number ≤ bound) (update_of version s.definition now) (filter (is_unacked kinds.Standing low now) rows)
    (all_filter (λ (e : Key × StoredRow). e.1.number ≤ bound) (is_unacked kinds.Standing low now) rows (all_up_to bound s.rows)))

-- what a copy reaches with its last number is in its reach
last_in_reach : (version : Version) (s : TableState) (kind : CopyKind) (bound low now limit : ℕ) (row : StoredRow) → low < row.number
    → row.number ≤ last_number low (take limit (map (update_of version s.definition now) (filter (is_unacked kind low now) (in_reach kind bound s.rows)))) → is_in_reach kind bound row ≡ true
last_in_reach version s kinds.Push bound low now limit row above reached = refl
last_in_reach version s kinds.Resync bound low now limit row above reached = refl
last_in_reach version s kinds.Standing bound low now limit row above reached =
    le-leb row.number bound (last_low bound low row.number (take limit (map (update_of version s.definition now) (filter (is_unacked kinds.Standing low now) (in_reach kinds.Standing bound s.rows)))) (standing_within version s bound low now limit) above reached)

copied_out : (n : ℕ) (us : List Update) (resyncs : Bool) (s : TableState) (kind : CopyKind) (limit now : ℕ) (p : Progress) → IsSound s → IsCopied s n now p → IsHandedOut us resyncs p.taught s
    → IsHandedOut (us ++ unacked s n kind now limit) (resyncs && is_resync kind) (last_number p.taught (unacked s n kind now limit)) (copied s n (unacked s n kind now limit) now)
copied_out n us resyncs s kind limit now p sound granted out = record {
  ascend = ascend_append 0 us new out.ascend (subst (λ k. Ascend k (numbers new)) (low_is ∙ out.last) (ascend_take low limit all ascends));
  last = ap (λ k. last_number k new) out.last ∙ sym (fold-append (λ _ (u : Update). u.number) 0 us new);
  handed = each_in (WasHanded (us ++ new) (resyncs && is_resync kind) (last_number p.taught new) now) s.rows handed_too;
  no_older = each_in (IsNoOlder (us ++ new)) s.rows no_older_too;
}
  where
    version : Version
    version = version_by (progress_of n s)

    low : ℕ
    low = acknowledged_by (progress_of n s)

    bound : ℕ
    bound = bound_by (progress_of n s)

    reach : List (Key × StoredRow)
    reach = in_reach kind bound s.rows

    due : List (Key × StoredRow)
    due = filter (is_unacked kind low now) reach

    all : List Update
    all = map (update_of version s.definition now) due

    new : List Update
    new = take limit all

    low_is : low ≡ p.taught
    low_is =
        let bounds = below_next n s.next p s.sessions sound.progress granted.found in
        let order = bounds.0 in
        let none_out = ltb-false p.acknowledged p.taught granted.none_out in
        let same : p.acknowledged ≡ p.taught = omega arith in
        ap acknowledged_by granted.found ∙ same

    ascends : Ascend low (numbers all)
    ascends = unacked_ascend version s.definition kind low now 1 s.next reach (reach_rise kind bound 1 s.next s.rows sound.numbers)

    of_kind : (b : Bool) (k : CopyKind) (row : StoredRow) → is_of_each_kind (b && is_resync k) row ≡ true → is_copied k row ≡ true
    of_kind b kinds.Resync row each = refl
    of_kind b kinds.Standing row each = refl
    of_kind true kinds.Push row each = each
    of_kind false kinds.Push row each = each

    before : (a b c : Bool) → ((a && b) || c) ≡ true → (a || c) ≡ true
    before true b c each = refl
    before false b c each = each

    handed_too : (e : Key × StoredRow) → IsIn e s.rows → WasHanded (us ++ new) (resyncs && is_resync kind) (last_number p.taught new) now e
    handed_too e at (within, live, each) = elim (cases_lt p.taught e.1.number) [
      | inl over ↦
          let same = low_is in
          let above = lt-ltb low e.1.number (omega arith) in
          let included : is_unacked kind low now e ≡ true =
          and_from (nat_lt low e.1.number && is_copied kind e.1) (is_live now e.1) (and_from (nat_lt low e.1.number) (is_copied kind e.1) above (of_kind resyncs kind e.1 each)) live in
          let reached : e.1.number ≤ last_number low new = subst (λ k. e.1.number ≤ last_number k new) (sym low_is) within in
          handed_back e us new (take_covers version s.definition now low limit e due ascends (in_filter (is_unacked kind low now) e reach (reach_in kind bound e s.rows at (last_in_reach version s kind bound low now limit e.1 (omega arith) reached)) included) reached)
      | inr under ↦
          handed_front e us new (of_each (WasHanded us resyncs p.taught s.latest) e s.rows out.handed at (under, still_live s.latest now e.1 granted.later live, before resyncs (is_resync kind) (not e.1.learned) each))
    ]

    no_older_too : (e : Key × StoredRow) → IsIn e s.rows → IsNoOlder (us ++ new) e
    no_older_too e at =
        all_append (λ (u : Update). u.key ≡ e.0 → u.number ≤ e.1.number) us new (of_each (IsNoOlder us) e s.rows out.no_older at)
        (all_take (λ (u : Update). u.key ≡ e.0 → u.number ≤ e.1.number) limit all
        (all_map (λ (u : Update). u.key ≡ e.0 → u.number ≤ e.1.number) (update_of version s.definition now) due
        (each_in (λ (x : Key × StoredRow). x.0 ≡ e.0 → x.1.number ≤ e.1.number) due (λ x there same.
        let one = one_row x e s.rows sound.keys (reach_from kind bound x s.rows (from_filter (is_unacked kind low now) x reach there)) at same in
        let number : x.1.number ≡ e.1.number = ap (λ (y : Key × StoredRow). y.1.number) one in
        omega arith))))

-- ---- the session is opened

opened_out : (s e : TableState) → IsSound s → e.rows ≡ s.rows → IsHandedOut [] true 0 e
opened_out s e sound same = record {
  ascend = tt;
  last = refl;
  handed = subst (AllByRecursion (WasHanded [] true 0 e.latest)) (sym same)
      (all_so (λ (x : Key × StoredRow). (1 ≤ x.1.number) × (x.1.number < s.next)) (WasHanded [] true 0 e.latest) (λ x bounds (within, live, each). let least = bounds.0 in absurd (omega arith)) s.rows (rise_each 1 s.next s.rows sound.numbers));
  no_older = each_in (IsNoOlder []) e.rows (λ x at. tt);
}

-- ---- one more event

-- the rows were handed out to the session, if it is open
abbrev pub Keeps : ℕ → List Update → Bool → TableState → Type 0
Keeps n us resyncs s = (p : Progress) → progress_of n s ≡ Some p → IsHandedOut us resyncs p.taught s

-- an event that neither opens the session nor copies for it, and leaves the number taught
goes_on : (n : ℕ) (us : List Update) (resyncs : Bool) (s e : TableState) (event : CellEvent) (reply : CellReply) → is_open_of n event ≡ false → is_copy_of n event ≡ false
    → ((q : Progress) → progress_of n e ≡ Some q → (p : Progress) × (progress_of n s ≡ Some p) × (p.taught ≡ q.taught))
    → IsSound s → Step s event reply e → Keeps n us resyncs s → Keeps n (handed_after n us (event, reply)) (resyncs_after n resyncs (event, reply)) e
goes_on n us resyncs s e event reply no_open no_copy from sound step keeps q at =
    let was = from q at in
    let bounds = below_next n s.next was.0 s.sessions sound.progress was.1 in
    let out : IsHandedOut us resyncs was.0.taught e = stays_out us resyncs was.0.taught s e event reply bounds.1 step (keeps was.0 was.1) in
    subst (λ (l : List Update). IsHandedOut l (resyncs_after n resyncs (event, reply)) q.taught e) (sym (handed_as_before n us event reply no_open no_copy))
    (subst (λ (b : Bool). IsHandedOut us b q.taught e) (sym (resyncs_as_before n resyncs event reply no_open no_copy))
    (subst (λ (t : ℕ). IsHandedOut us resyncs t e) was.2 out))

-- ---- an event of the session

acknowledged_taught : (number : ℕ) (o : Option Progress) (q : Progress) → option_map (acknowledging number) o ≡ Some q → (p : Progress) × (o ≡ Some p) × (p.taught ≡ q.taught)
acknowledged_taught number None q at = absurd (some_none q (sym at))
acknowledged_taught number (Some p) q at =
    let is = same_progress (acknowledging number p) q at in
    let same : p.taught ≡ (acknowledging number p).taught = cond_both (nat_le number p.acknowledged) p (record p { acknowledged = number }) (λ (r : Progress). p.taught ≡ r.taught) (λ _. refl) (λ _. refl) in
    (p, refl, same ∙ ap (λ (r : Progress). r.taught) is)

copy_keeps : (n : ℕ) (us : List Update) (resyncs : Bool) (s e : TableState) (kind : CopyKind) (limit now : ℕ) (reply : CellReply) → IsSound s → Step s (events.Copy n kind limit now) reply e
    → Keeps n us resyncs s → Keeps n (handed_after n us (events.Copy n kind limit now, reply)) (resyncs_after n resyncs (events.Copy n kind limit now, reply)) e
copy_keeps n us resyncs s e kind limit now reply sound (granted, answer, is) keeps q at =
    let found = copy_of s n kind limit now granted in
    let p = found.0 in
    let new = unacked s n kind now limit in
    let taught = λ (r : Progress). record r { taught = last_number r.taught new } in
    let next : progress_of n e ≡ Some (record p { taught = last_number p.taught new }) = ap (progress_of n) is ∙ own_with n taught s.sessions ∙ ap (option_map taught) found.1.found in
    let number : last_number p.taught new ≡ q.taught = ap (λ (r : Progress). r.taught) (same_progress (record p { taught = last_number p.taught new }) q (sym next ∙ at)) in
    let out : IsHandedOut (us ++ new) (resyncs && is_resync kind) (last_number p.taught new) e =
    subst (IsHandedOut (us ++ new) (resyncs && is_resync kind) (last_number p.taught new)) (sym is) (copied_out n us resyncs s kind limit now p sound found.1 (keeps p found.1.found)) in
    let handed : handed_after n us (events.Copy n kind limit now, reply) ≡ us ++ new = ap (λ (r : CellReply). handed_after n us (events.Copy n kind limit now, r)) answer ∙ handed_copy n us kind limit now new in
    subst (λ (l : List Update). IsHandedOut l (resyncs_after n resyncs (events.Copy n kind limit now, reply)) q.taught e) (sym handed)
    (subst (λ (b : Bool). IsHandedOut (us ++ new) b q.taught e) (sym (resyncs_copy n resyncs kind limit now reply))
    (subst (λ (t : ℕ). IsHandedOut (us ++ new) (resyncs && is_resync kind) t e) number out))

ack_keeps : (n : ℕ) (us : List Update) (resyncs : Bool) (s e : TableState) (number : ℕ) (reply : CellReply) → IsSound s → Step s (events.Ack n number) reply e
    → Keeps n us resyncs s → Keeps n (handed_after n us (events.Ack n number, reply)) (resyncs_after n resyncs (events.Ack n number, reply)) e
ack_keeps n us resyncs s e number reply sound (granted, answer, is) keeps =
    goes_on n us resyncs s e (events.Ack n number) reply refl refl
    (λ q at. acknowledged_taught number (progress_of n s) q (sym (own_with n (acknowledging number) s.sessions) ∙ sym (ap (progress_of n) is) ∙ at))
    sound (granted, answer, is) keeps

open_keeps : (n : ℕ) (version : Version) (us : List Update) (resyncs : Bool) (s e : TableState) (reply : CellReply) → IsSound s → Step s (events.Open n version) reply e → Keeps n (handed_after n us (events.Open n version, reply)) (resyncs_after n resyncs (events.Open n version, reply)) e
open_keeps n version us resyncs s e reply sound (granted, answer, is) q at =
    let o = passes (is_some (progress_of n s)) _ _ granted in
    let next : progress_of n e ≡ Some (no_progress version s.next) = ap (progress_of n) is ∙ own_end n (no_progress version s.next) s.sessions (is_absent (progress_of n s) o.0) in
    let number : 0 ≡ q.taught = ap (λ (r : Progress). r.taught) (same_progress (no_progress version s.next) q (sym next ∙ at)) in
    subst (λ (l : List Update). IsHandedOut l (resyncs_after n resyncs (events.Open n version, reply)) q.taught e) (sym (handed_open n version us reply))
    (subst (λ (b : Bool). IsHandedOut [] b q.taught e) (sym (resyncs_open n version resyncs reply))
    (subst (λ (t : ℕ). IsHandedOut [] true t e) number (opened_out s e sound (ap (λ (x : TableState). x.rows) is))))
  where
    is_absent : (o : Option Progress) → is_some o ≡ false → o ≡ None
    is_absent None none = refl
    is_absent (Some p) none = absurd (true≢false none)

close_keeps : (n : ℕ) (us : List Update) (resyncs : Bool) (s e : TableState) (reply : CellReply) → Step s (events.Close n) reply e → Keeps n us resyncs e
close_keeps n us resyncs s e reply (granted, answer, is) q at = absurd (some_none q (sym at ∙ ap (progress_of n) is ∙ own_without n s.sessions))

-- ---- any event

other_keeps : (n : ℕ) (us : List Update) (resyncs : Bool) (s e : TableState) (event : CellEvent) (reply : CellReply) → is_about n event ≡ false → IsSound s → Step s event reply e
    → Keeps n us resyncs s → Keeps n (handed_after n us (event, reply)) (resyncs_after n resyncs (event, reply)) e
other_keeps n us resyncs s e event reply other sound step keeps =
    let same = same_progress_of n s e event reply other step in
    goes_on n us resyncs s e event reply (no_open n event other) (no_copy n event other) (λ q at. (q, sym same ∙ at, refl)) sound step keeps

step_keeps : (n : ℕ) (us : List Update) (resyncs : Bool) (s e : TableState) (event : CellEvent) (reply : CellReply) → IsSound s → Step s event reply e
    → Keeps n us resyncs s → Keeps n (handed_after n us (event, reply)) (resyncs_after n resyncs (event, reply)) e
step_keeps n us resyncs s e (events.Track seat key change now) reply sound step keeps = other_keeps n us resyncs s e (events.Track seat key change now) reply refl sound step keeps
step_keeps n us resyncs s e (events.Learn session u now) reply sound step keeps = other_keeps n us resyncs s e (events.Learn session u now) reply refl sound step keeps
step_keeps n us resyncs s e (events.Copy session kind limit now) reply sound step keeps = elim (cases_eq session n) [
  | inl same ↦
      subst (λ (k : ℕ). Keeps k us resyncs s → Keeps k (handed_after k us (events.Copy session kind limit now, reply)) (resyncs_after k resyncs (events.Copy session kind limit now, reply)) e) same
      (copy_keeps session us resyncs s e kind limit now reply sound step) keeps
  | inr differs ↦ other_keeps n us resyncs s e (events.Copy session kind limit now) reply (ne_eqb session n differs) sound step keeps
]
step_keeps n us resyncs s e (events.Ack session number) reply sound step keeps = elim (cases_eq session n) [
  | inl same ↦
      subst (λ (k : ℕ). Keeps k us resyncs s → Keeps k (handed_after k us (events.Ack session number, reply)) (resyncs_after k resyncs (events.Ack session number, reply)) e) same
      (ack_keeps session us resyncs s e number reply sound step) keeps
  | inr differs ↦ other_keeps n us resyncs s e (events.Ack session number) reply (ne_eqb session n differs) sound step keeps
]
step_keeps n us resyncs s e (events.Open session version) reply sound step keeps = elim (cases_eq session n) [
  | inl same ↦
      subst (λ (k : ℕ). Keeps k (handed_after k us (events.Open session version, reply)) (resyncs_after k resyncs (events.Open session version, reply)) e) same (open_keeps session version us resyncs s e reply sound step)
  | inr differs ↦ other_keeps n us resyncs s e (events.Open session version) reply (ne_eqb session n differs) sound step keeps
]
step_keeps n us resyncs s e (events.Close session) reply sound step keeps = elim (cases_eq session n) [
  | inl same ↦
      subst (λ (k : ℕ). Keeps k (handed_after k us (events.Close session, reply)) (resyncs_after k resyncs (events.Close session, reply)) e) same
      (close_keeps session (handed_after session us (events.Close session, reply)) (resyncs_after session resyncs (events.Close session, reply)) s e reply step)
  | inr differs ↦ other_keeps n us resyncs s e (events.Close session) reply (ne_eqb session n differs) sound step keeps
]
step_keeps n us resyncs s e (events.Purge now) reply sound step keeps = other_keeps n us resyncs s e (events.Purge now) reply refl sound step keeps

run_keeps : (n : ℕ) (us : List Update) (resyncs : Bool) (s e : TableState) (hs : List (CellEvent × CellReply)) → AreTimely hs → IsSound s → Replays s hs e
    → Keeps n us resyncs s → Keeps n (fold (handed_after n) us hs) (fold (resyncs_after n) resyncs hs) e
run_keeps n us resyncs s e [] timely sound same keeps = subst (Keeps n us resyncs) (sym same) keeps
run_keeps n us resyncs s e (h ∷ hs) (now, later) sound (mid, step, rest) keeps =
    run_keeps n (handed_after n us h) (resyncs_after n resyncs h) mid e hs later (step_sound s mid h.0 h.1 now sound step) rest (step_keeps n us resyncs s mid h.0 h.1 sound step keeps)

-- ---- the cell

pub made_keeps : (c e : CellState) (event : CellEvent) (reply : CellReply) (session : ℕ) → IsSoundCell c → Made c event reply e → KeepsUp session c → KeepsUp session e
made_keeps c e event reply n sound (step, is) keeps = subst (KeepsUp n) (sym is) (λ p at.
    subst (λ (l : List Update). IsHandedOut l (resyncs_since n (c.history ++ (event, reply) ∷ [])) p.taught e.state) (sym (fold_push (handed_after n) [] c.history (event, reply)))
    (subst (λ (b : Bool). IsHandedOut (handed_after n (handed_since n c.history) (event, reply)) b p.taught e.state) (sym (fold_push (resyncs_after n) true c.history (event, reply)))
    (step_keeps n (handed_since n c.history) (resyncs_since n c.history) c.state e.state event reply sound.sound step keeps p at)))

pub closed_keeps : (c : CellState) (session : ℕ) → progress_of session c.state ≡ None → KeepsUp session c
closed_keeps c session none p at = absurd (some_none p (sym at ∙ none))

pub history_keeps : (c : CellState) (session : ℕ) → IsSoundCell c → progress_of session c.base ≡ None → KeepsUp session c
history_keeps c session sound none = run_keeps session [] true c.base c.state c.history sound.timely sound.base sound.replayed (λ p at. absurd (some_none p (sym at ∙ none)))
