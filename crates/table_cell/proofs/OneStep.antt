-- In a given state, an event has one reply and leads to one state.
use Rattle.std.proofs.Common.{◌≡◌, ℕ, Bool, true, false, List, [], ◌∷◌, Option, Some, None, refl, sym, ap, subst, ◌∙◌, inl, inr, true≢false}
use Rattle.std.specs.Prelude.{MatchBool}
use Rattle.std.specs.List.{AllByRecursion}
use Rattle.std.specs.Cmp.{then_flip}
use Rattle.std.specs.Ordering.{is_eq, is_gt, nat_cmp, ordering_reverse, ordering_then}
use Rattle.std.specs.declared.cmp.Ordering.{Ordering}
use Rattle.std.specs.declared.cmp.Ordering.TheVariants.{Less, Equal, Greater}
use Rattle.std.proofs.lemmas.Cmp.{nat_cmp_total}
use Rattle.std.proofs.lemmas.Bool.{cases_Bool, cond-true, cond-false}
use Rattle.table_types.specs.declared.key.Key.{Key}
use Rattle.table_types.specs.Keys.{key_cmp}
use Rattle.table_types.specs.KeyOrder.{key_cmp_total}
use Rattle.table_types.specs.Rows.{StoredRow}
use Rattle.table_types.proofs.EqualKeysAreOne.{exact_keys, one_key}
use Rattle.table_rows.specs.Rows.{IsFirstToEnd, end_cmp, ends_cmp, row_at}
use Rattle.table_cell.specs.declared.events.CellEvent.{CellEvent}
use Rattle.table_cell.specs.declared.events.CellEvent.TheVariants as events
use Rattle.table_cell.specs.declared.events.CellReply.{CellReply}
use Rattle.table_cell.specs.Machine.{Leaves, Step, TableState, has_room, learned, stored, tracked, without, Replays}
use Rattle.table_stock.proofs.RowsLaws.{some_none}

-- ---- which row is the first to end

pub ends_flip : (a b : Option ℕ) → ends_cmp a b ≡ ordering_reverse (ends_cmp b a)
ends_flip None None = refl
ends_flip None (Some b) = refl
ends_flip (Some a) None = refl
ends_flip (Some a) (Some b) = nat_cmp_total.antisymm a b

end_flip : (a b : Key × StoredRow) → end_cmp a b ≡ ordering_reverse (end_cmp b a)
end_flip a b =
    ap (λ o. ordering_then o (ordering_then (nat_cmp a.1.number b.1.number) (key_cmp a.0 b.0))) (ends_flip a.1.ends b.1.ends)
    ∙ ap (λ o. ordering_then (ordering_reverse (ends_cmp b.1.ends a.1.ends)) (ordering_then o (key_cmp a.0 b.0))) (nat_cmp_total.antisymm a.1.number b.1.number)
    ∙ ap (λ o. ordering_then (ordering_reverse (ends_cmp b.1.ends a.1.ends)) (ordering_then (ordering_reverse (nat_cmp b.1.number a.1.number)) o)) (key_cmp_total.antisymm a.0 b.0)
    ∙ ap (λ o. ordering_then (ordering_reverse (ends_cmp b.1.ends a.1.ends)) o) (then_flip (nat_cmp b.1.number a.1.number) (key_cmp b.0 a.0))
    ∙ then_flip (ends_cmp b.1.ends a.1.ends) (ordering_then (nat_cmp b.1.number a.1.number) (key_cmp b.0 a.0))

tied : (o : Ordering) → is_gt o ≡ false → is_gt (ordering_reverse o) ≡ false → o ≡ Equal
tied Less before after = absurd (true≢false after)
tied Equal before after = refl
tied Greater before after = absurd (true≢false before)

last_tied : (a b : Ordering) → ordering_then a b ≡ Equal → b ≡ Equal
last_tied Equal b is = is
last_tied Less b is = absurd (less_equal is)
  where
    less_equal : Less ≡ Equal → ⊥
    less_equal is = cc
last_tied Greater b is = absurd (greater_equal is)
  where
    greater_equal : Greater ≡ Equal → ⊥
    greater_equal is = cc

same_row : (a b : StoredRow) → ◌≡◌ {A = Option StoredRow} (Some a) (Some b) → a ≡ b
same_row a b is = cc

-- what holds of all rows holds of the row of a key
holds_at : (P : Key × StoredRow → Type 0) (key : Key) (row : StoredRow) (rows : List (Key × StoredRow)) → AllByRecursion P rows → row_at key rows ≡ Some row → P (key, row)
holds_at P key row [] all at = absurd (some_none row (sym at))
holds_at P key row (e ∷ es) (first, rest) at = elim (cases_Bool (is_eq (key_cmp key e.0))) [
  | inl one ↦
      let own : e.1 ≡ row = same_row e.1 row (sym (cond-true (is_eq (key_cmp key e.0)) (Some e.1) (row_at key es) one) ∙ at) in
      subst (λ (k : Key). P (k, row)) (sym (one_key key e.0 one)) (subst (λ (r : StoredRow). P (e.0, r)) own first)
  | inr other ↦ holds_at P key row es rest (sym (cond-false (is_eq (key_cmp key e.0)) (Some e.1) (row_at key es) other) ∙ at)
]

first_unique : (rows : List (Key × StoredRow)) (a b : Key) → IsFirstToEnd rows a → IsFirstToEnd rows b → a ≡ b
first_unique rows a b (one, at_a, all_a) (other, at_b, all_b) =
    let before : is_gt (end_cmp (a, one) (b, other)) ≡ false = holds_at (λ e. is_gt (end_cmp (a, one) e) ≡ false) b other rows all_a at_b in
    let after : is_gt (end_cmp (b, other) (a, one)) ≡ false = holds_at (λ e. is_gt (end_cmp (b, other) e) ≡ false) a one rows all_b at_a in
    let equal = tied (end_cmp (a, one) (b, other)) before (ap is_gt (sym (end_flip (b, other) (a, one))) ∙ after) in
    exact_keys a b (last_tied (nat_cmp one.number other.number) (key_cmp a b) (last_tied (ends_cmp one.ends other.ends) (ordering_then (nat_cmp one.number other.number) (key_cmp a b)) equal))

left_unique : (s : TableState) (key : Key) (one other : List (Key × StoredRow)) → Leaves s key one → Leaves s key other → one ≡ other
left_unique s key one other = by (has_room s key)
  where
    by : (room : Bool) → MatchBool room (one ≡ s.rows) ((first : Key) × IsFirstToEnd s.rows first × (one ≡ without first s.rows))
        → MatchBool room (other ≡ s.rows) ((first : Key) × IsFirstToEnd s.rows first × (other ≡ without first s.rows)) → one ≡ other
    by true a b = a ∙ sym b
    by false (first, is_first, a) (last, is_last, b) = a ∙ ap (λ (k : Key). without k s.rows) (first_unique s.rows first last is_first is_last) ∙ sym b

-- ---- steps

pub one_step : (s e f : TableState) (event : CellEvent) (a b : CellReply) → Step s event a e → Step s event b f → (a ≡ b) × (e ≡ f)
one_step s e f (events.Track seat key change now) a b (granted, rest, leaves, answer, is) (again, left, leaves_too, answer_too, is_too) =
    (answer ∙ sym answer_too, is ∙ ap (stored s key (tracked s key change now) now) (left_unique s key rest left leaves leaves_too) ∙ sym is_too)
one_step s e f (events.Learn session u now) a b (granted, rest, leaves, answer, is) (again, left, leaves_too, answer_too, is_too) =
    (answer ∙ sym answer_too, is ∙ ap (stored s u.key (learned s u now) now) (left_unique s u.key rest left leaves leaves_too) ∙ sym is_too)
one_step s e f (events.Copy session kind limit now) a b (granted, answer, is) (again, answer_too, is_too) = (answer ∙ sym answer_too, is ∙ sym is_too)
one_step s e f (events.Ack session number) a b (granted, answer, is) (again, answer_too, is_too) = (answer ∙ sym answer_too, is ∙ sym is_too)
one_step s e f (events.Open session version) a b (granted, answer, is) (again, answer_too, is_too) = (answer ∙ sym answer_too, is ∙ sym is_too)
one_step s e f (events.Close session) a b (granted, answer, is) (again, answer_too, is_too) = (answer ∙ sym answer_too, is ∙ sym is_too)
one_step s e f (events.Purge now) a b (granted, answer, is) (again, answer_too, is_too) = (answer ∙ sym answer_too, is ∙ sym is_too)

-- the same for a whole run
pub one_run : (s e f : TableState) (hs : List (CellEvent × CellReply)) → Replays s hs e → Replays s hs f → e ≡ f
one_run s e f [] one other = one ∙ sym other
one_run s e f (h ∷ hs) (mid, step, rest) (next, again, later) =
    let same : mid ≡ next = (one_step s mid next h.0 h.1 h.1 step again).1 in
    one_run next e f hs (subst (λ (x : TableState). Replays x hs e) same rest) later
