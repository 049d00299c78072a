-- A session stays tied to a table at each event of the table.
use Rattle.std.proofs.Common.{◌≡◌, ◌≢◌, ℕ, true, false, List, [], ◌∷◌, ◌++◌, Option, Some, None, refl, sym, ap, subst, ◌∙◌, inl, inr, true≢false}
use Rattle.std.specs.Prelude.{cond, is_none, is_some, nat_eq, nat_le, option_map}
use Rattle.std.specs.List.{AllByRecursion}
use Rattle.std.proofs.lemmas.Bool.{cond-true, cond-false, eq-eqb, lt-leb}
use Rattle.std.proofs.lemmas.List.{map-append}
use Rattle.std.proofs.lemmas.List.Sums.{fold_push}
use Rattle.table_types.specs.declared.update.Update.{Update}
use Rattle.table_types.specs.declared.version.Version.{Version}
use Rattle.table_types.specs.declared.copies.CopyKind.{CopyKind}
use Rattle.table_cell.specs.declared.events.CellEvent.{CellEvent}
use Rattle.table_cell.specs.declared.events.CellEvent.TheVariants as events
use Rattle.table_cell.specs.declared.events.CellReply.{CellReply}
use Rattle.table_cell.specs.declared.events.CellReply.TheVariants as replies
use Rattle.table_cell.specs.declared.progress.Progress.{Progress}
use Rattle.table_cell.specs.Machine.{TableState, Step, ack_refusal, acknowledging, close_refusal, last_number, no_progress, open_refusal, progress_of, settled_by, unacked}
use Rattle.table_cell.specs.Histories.{CellState, Made, batch_of, is_history_full}
use Rattle.table_cell.specs.Handing.{Ascend, KeepsUp, handed_after, handed_since, is_about, numbers, updates_in}
use Rattle.table_cell.proofs.HandingSessions.{handed_as_before, handed_copy, handed_open, others_stay, own_end, own_with}
use Rattle.table_cell.proofs.RefusalLaws.{ack_free, close_granted, open_granted}
use Rattle.table_cell.proofs.StepLaws.{passes}
use Rattle.interleave_core.specs.Moves.{acked, closed, opened}
use Rattle.interleave_core.specs.Ties.{IsAmong, IsTied, IsTiedTo, Share, WasCopied, end_of, opened_share}
use Rattle.interleave_core.proofs.TieNumbers.{ack_taken, none_tied}
use Rattle.interleave_core.proofs.TieShares.{with_more}
use Rattle.interleave_core.proofs.TieCells.{none_there, same_one}

-- ---- one event more

same_definition : (s e : TableState) (event : CellEvent) (reply : CellReply) → Step s event reply e → e.definition ≡ s.definition
same_definition s e (events.Track seat key change now) reply (granted, rest, leaves, answer, is) = ap (λ (x : TableState). x.definition) is
same_definition s e (events.Learn session u now) reply (granted, rest, leaves, answer, is) = ap (λ (x : TableState). x.definition) is
same_definition s e (events.Copy session kind limit now) reply (granted, answer, is) = ap (λ (x : TableState). x.definition) is
same_definition s e (events.Ack session number) reply (granted, answer, is) = ap (λ (x : TableState). x.definition) is
same_definition s e (events.Open session version) reply (granted, answer, is) = ap (λ (x : TableState). x.definition) is
same_definition s e (events.Close session) reply (granted, answer, is) = ap (λ (x : TableState). x.definition) is
same_definition s e (events.Purge now) reply (granted, answer, is) = ap (λ (x : TableState). x.definition) is

-- a table keeps its definition, and so its id
pub same_table : (c e : CellState) (event : CellEvent) (reply : CellReply) → Made c event reply e → e.state.definition ≡ c.state.definition
same_table c e event reply (step, is) = same_definition c.state e.state event reply step

pub same_id : (c e : CellState) (event : CellEvent) (reply : CellReply) → Made c event reply e → e.state.definition.id ≡ c.state.definition.id
same_id c e event reply (step, is) = ap (λ d. d.id) (same_definition c.state e.state event reply step)

pub made_history : (c e : CellState) (event : CellEvent) (reply : CellReply) → Made c event reply e → e.history ≡ c.history ++ (event, reply) ∷ []
made_history c e event reply (step, is) = ap (λ (x : CellState). x.history) is

handed_made : (n : ℕ) (c e : CellState) (event : CellEvent) (reply : CellReply) → Made c event reply e → handed_since n e.history ≡ handed_after n (handed_since n c.history) (event, reply)
handed_made n c e event reply made = ap (handed_since n) (made_history c e event reply made) ∙ fold_push (handed_after n) [] c.history (event, reply)

-- ---- what was copied

pub copied_still : (n : ℕ) (u : Update) (hs more : List (CellEvent × CellReply)) → WasCopied n hs u → WasCopied n (hs ++ more) u
copied_still n u [] more at = absurd at
copied_still n u (h ∷ hs) more (inl here) = inl here
copied_still n u (h ∷ hs) more (inr later) = inr (copied_still n u hs more later)

copied_last : (n : ℕ) (u : Update) (hs : List (CellEvent × CellReply)) (h : CellEvent × CellReply) → IsAmong u (updates_in (batch_of n h)) → WasCopied n (hs ++ h ∷ []) u
copied_last n u [] h at = inl at
copied_last n u (x ∷ xs) h at = inr (copied_last n u xs h at)

pub all_so : (P Q : Update → Type 0) → ((u : Update) → P u → Q u) → (us : List Update) → AllByRecursion P us → AllByRecursion Q us
all_so P Q so [] all = tt
all_so P Q so (u ∷ us) (first, rest) = (so u first, all_so P Q so us rest)

each_among : (P : Update → Type 0) (us : List Update) → ((u : Update) → IsAmong u us → P u) → AllByRecursion P us
each_among P [] so = tt
each_among P (u ∷ us) so = (so u (inl refl), each_among P us (λ v at. so v (inr at)))

pub all_append : (P : Update → Type 0) (us vs : List Update) → AllByRecursion P us → AllByRecursion P vs → AllByRecursion P (us ++ vs)
all_append P [] vs front back = back
all_append P (u ∷ us) vs (first, rest) back = (first, all_append P us vs rest back)

-- what was copied before an event was copied
pub all_still : (n : ℕ) (c e : CellState) (event : CellEvent) (reply : CellReply) (us : List Update) → Made c event reply e → AllByRecursion (WasCopied n c.history) us → AllByRecursion (WasCopied n e.history) us
all_still n c e event reply us made all =
    subst (λ (hs : List (CellEvent × CellReply)). AllByRecursion (WasCopied n hs) us) (sym (made_history c e event reply made))
    (all_so (WasCopied n c.history) (WasCopied n (c.history ++ (event, reply) ∷ [])) (λ u at. copied_still n u c.history ((event, reply) ∷ []) at) us all)

-- and what the last event copied
pub copied_at_end : (n limit now : ℕ) (kind : CopyKind) (hs : List (CellEvent × CellReply)) (us : List Update) → AllByRecursion (WasCopied n (hs ++ (events.Copy n kind limit now, replies.Copy us) ∷ [])) us
copied_at_end n limit now kind hs us =
    each_among (WasCopied n (hs ++ (events.Copy n kind limit now, replies.Copy us) ∷ [])) us (λ u at.
    copied_last n u hs (events.Copy n kind limit now, replies.Copy us) (subst (λ (o : Option (List Update)). IsAmong u (updates_in o)) (sym (cond-true (nat_eq n n) (Some us) None (eq-eqb n n refl))) at))

all_copied : (n limit now : ℕ) (kind : CopyKind) (c e : CellState) (us : List Update) → Made c (events.Copy n kind limit now) (replies.Copy us) e → AllByRecursion (WasCopied n e.history) us
all_copied n limit now kind c e us made =
    subst (λ (hs : List (CellEvent × CellReply)). AllByRecursion (WasCopied n hs) us) (sym (made_history c e (events.Copy n kind limit now) (replies.Copy us) made)) (copied_at_end n limit now kind c.history us)

-- ---- an event that isn't about the session

pub other_tied : (n : ℕ) (share : Share) (c e : CellState) (event : CellEvent) (reply : CellReply) (p : Progress) → is_about n event ≡ false → Made c event reply e
    → IsTiedTo n share c p → IsTiedTo n share e p
other_tied n share c e event reply p other made tie =
    let stay = others_stay c e event reply n other made in
    record { progress = stay.0 ∙ tie.progress; same = tie.same ∙ sym stay.1; tied = tie.tied; from = all_still n c e event reply share.all made tie.from }

-- ---- a copy for the session

pub same_batch : (us vs : List Update) → ◌≡◌ {A = CellReply} (replies.Copy us) (replies.Copy vs) → us ≡ vs
same_batch us vs is = cc

pub last_is_end : (least : ℕ) (us : List Update) → last_number least us ≡ end_of least (numbers us)
last_is_end least [] = refl
last_is_end least (u ∷ us) = last_is_end u.number us

pub copy_tied : (n limit now : ℕ) (kind : CopyKind) (us : List Update) (share : Share) (c e : CellState) (p : Progress) → KeepsUp n e → Made c (events.Copy n kind limit now) (replies.Copy us) e
    → IsTiedTo n share c p → (q : Progress) × IsTiedTo n (with_more share us) e q
copy_tied n limit now kind us share c e p keeps made tie = (q, record { progress = opens; same = same; tied = tied; from = all_append (WasCopied n e.history) share.all us (all_still n c e (events.Copy n kind limit now) (replies.Copy us) share.all made tie.from) (all_copied n limit now kind c e us made) })
  where
    new : List Update
    new = unacked c.state n kind now limit

    teaching : Progress → Progress
    teaching r = record r { taught = last_number r.taught new }

    q : Progress
    q = teaching p

    opens : progress_of n e.state ≡ Some q
    opens = ap (progress_of n) made.0.2 ∙ own_with n teaching c.state.sessions ∙ ap (option_map teaching) tie.progress

    same : share.handed ++ us ≡ handed_since n e.history
    same =
        ap (λ (l : List Update). l ++ us) tie.same
        ∙ sym (handed_made n c e (events.Copy n kind limit now) (replies.Copy us) made ∙ handed_copy n (handed_since n c.history) kind limit now us)

    tied : IsTied (numbers (share.handed ++ us)) (numbers share.done) p.acknowledged q.taught share.acks share.is_due
    tied =
        let out = keeps q opens in
        let more : numbers (share.handed ++ us) ≡ numbers share.handed ++ numbers us = map-append (λ (u : Update). u.number) share.handed us in
        record {
          ascend = subst (λ (l : List Update). Ascend 0 (numbers l)) (sym same) out.ascend;
          last = out.last ∙ last_is_end 0 (handed_since n e.history) ∙ ap (λ (l : List Update). end_of 0 (numbers l)) (sym same);
          front = (tie.tied.front.0 ++ numbers us, more ∙ ap (λ (l : List ℕ). l ++ numbers us) tie.tied.front.1 ∙ Rattle.std.proofs.Common.append_assoc (numbers share.done) tie.tied.front.0 (numbers us));
          acked = tie.tied.acked;
          way = tie.tied.way;
          known = tie.tied.known;
          due = tie.tied.due;
        }

-- ---- an acknowledgement of the session

pub ack_tied : (n number : ℕ) (rest : List ℕ) (share : Share) (c e : CellState) (reply : CellReply) (p : Progress) → share.acks ≡ number ∷ rest → Made c (events.Ack n number) reply e
    → IsTiedTo n share c p → IsTiedTo n (record share { acks = rest }) e (record p { acknowledged = number })
ack_tied n number rest share c e reply p first made tie = record {
  progress = ap (progress_of n) made.0.2 ∙ own_with n (acknowledging number) c.state.sessions ∙ ap (option_map (acknowledging number)) tie.progress ∙ ap (λ (r : Progress). Some r) taken;
  same = tie.same ∙ sym (handed_made n c e (events.Ack n number) reply made ∙ handed_as_before n (handed_since n c.history) (events.Ack n number) reply refl refl);
  tied = ack_taken (numbers share.handed) (numbers share.done) rest p.acknowledged p.taught number share.is_due begins;
  from = all_still n c e (events.Ack n number) reply share.all made tie.from;
}
  where
    begins : IsTied (numbers share.handed) (numbers share.done) p.acknowledged p.taught (number ∷ rest) share.is_due
    begins = subst (λ (l : List ℕ). IsTied (numbers share.handed) (numbers share.done) p.acknowledged p.taught l share.is_due) first tie.tied

    taken : acknowledging number p ≡ record p { acknowledged = number }
    taken = cond-false (nat_le number p.acknowledged) p (record p { acknowledged = number }) (lt-leb number p.acknowledged begins.way.0)

-- ---- the session is opened

is_absent : (o : Option Progress) → is_some o ≡ false → o ≡ None
is_absent None none = refl
is_absent (Some p) none = absurd (true≢false none)

pub open_tied : (n : ℕ) (v : Version) (all : List Update) (c e : CellState) (reply : CellReply) → Made c (events.Open n v) reply e → AllByRecursion (WasCopied n c.history) all
    → IsTiedTo n (opened_share all) e (no_progress v c.state.next)
open_tied n v all c e reply made copied = record {
  progress = ap (progress_of n) made.0.2 ∙ own_end n (no_progress v c.state.next) c.state.sessions (is_absent (progress_of n c.state) (passes (is_some (progress_of n c.state)) _ _ made.0.0).0);
  same = sym (handed_made n c e (events.Open n v) reply made ∙ handed_open n v (handed_since n c.history) reply);
  tied = none_tied;
  from = all_still n c e (events.Open n v) reply all made copied;
}

-- ---- the calls that compute

is_nothing : {A : Type 0} (o : Option A) → is_none o ≡ true → o ≡ None
is_nothing None none = refl
is_nothing (Some x) none = absurd (true≢false (sym none))

-- a result that stands only if nothing is refused
not_refused : {E : Type 0} (refusal : Option E) (x e : CellState) → cond (is_none refusal) (Some x) None ≡ Some e → (refusal ≡ None) × (x ≡ e)
not_refused None x e is = (refl, same_one x e is)
not_refused (Some error) x e is = absurd (none_there e is)

pub acked_made : (n number : ℕ) (c e : CellState) → acked n number c ≡ Some e → Made c (events.Ack n number) (replies.Ack (settled_by (progress_of n c.state) number)) e
acked_made n number c e is =
    let found = not_refused (ack_refusal (is_history_full c) c.state n number) _ e is in
    let free = ack_free (is_history_full c) c.state n number found.0 in
    subst (λ (x : CellState). Made c (events.Ack n number) (replies.Ack (settled_by (progress_of n c.state) number)) x) found.1 ((free.1, refl, refl), refl)

pub closed_made : (n : ℕ) (c e : CellState) → closed n c ≡ Some e → Made c (events.Close n) replies.Close e
closed_made n c e is =
    let found = not_refused (close_refusal (is_history_full c) c.state n) _ e is in
    let free = close_granted (is_history_full c) c.state n found.0 in
    subst (λ (x : CellState). Made c (events.Close n) replies.Close x) found.1 ((free.1, refl, refl), refl)

pub opened_made : (n : ℕ) (v : Version) (c e : CellState) → opened n v c ≡ Some e → Made c (events.Open n v) replies.Open e
opened_made n v c e is =
    let found = not_refused (open_refusal (is_history_full c) c.state n) _ e is in
    let free = open_granted (is_history_full c) c.state n found.0 in
    subst (λ (x : CellState). Made c (events.Open n v) replies.Open x) found.1 ((free.1, refl, refl), refl)

-- they need room for another event
pub acked_room : (n number : ℕ) (c e : CellState) → acked n number c ≡ Some e → is_history_full c ≡ false
acked_room n number c e is = (ack_free (is_history_full c) c.state n number (not_refused (ack_refusal (is_history_full c) c.state n number) _ e is).0).0

pub closed_room : (n : ℕ) (c e : CellState) → closed n c ≡ Some e → is_history_full c ≡ false
closed_room n c e is = (close_granted (is_history_full c) c.state n (not_refused (close_refusal (is_history_full c) c.state n) _ e is).0).0

pub opened_room : (n : ℕ) (v : Version) (c e : CellState) → opened n v c ≡ Some e → is_history_full c ≡ false
opened_room n v c e is = (open_granted (is_history_full c) c.state n (not_refused (open_refusal (is_history_full c) c.state n) _ e is).0).0
