-- The receipt that a call leaves is the table's new event.
use Rattle.std.proofs.Common.{◌≡◌, ℕ, List, ◌+◌, ◌<◌, ◌≤◌, ◌-◌, ◌∷◌, ◌++◌, [], length, Some, slice_get, nat_lt, true, refl, sym, ap, ◌∙◌, subst, arith, inl, inr}
use Rattle.std.proofs.lemmas.Bool.{cases_eq, lt-ltb}
use Rattle.std.proofs.lemmas.List.{length-append}
use Rattle.table_cell.specs.declared.events.CellEvent.{CellEvent}
use Rattle.table_cell.specs.declared.events.CellReply.{CellReply}
use Rattle.table_cell.specs.Histories.{CellState, Made, events_of}
use Rattle.table_shards.specs.Receipts.{SeatState, seen_of}
use Rattle.table_shards.specs.Agreement.{IsEntry}
use Rattle.table_shards.specs.Holding.{MayCall, receipted}
use Rattle.table_shards.proofs.PageLaws.{other_tables, then_seen}

at_end : {A : Type 0} (xs : List A) (y : A) → slice_get (xs ++ y ∷ []) (length xs) ≡ Some y
at_end [] y = refl
at_end (x ∷ xs) y = at_end xs y

pub then_last : (c e : CellState) (event : CellEvent) (reply : CellReply) → Made c event reply e → events_of e ≡ events_of c + 1
then_last c e event reply made = ap events_of made.1 ∙ omega (arith, length-append c.history ((event, reply) ∷ []))

pub then_entry : (c e : CellState) (event : CellEvent) (reply : CellReply) → c.slid ≤ length c.history → Made c event reply e → IsEntry e (record { place = events_of c + 1; event = event; reply = reply })
then_entry c e event reply slid made =
    let longer = record c { history = c.history ++ (event, reply) ∷ []; state = e.state } in
    let kept : nat_lt (c.dropped + c.slid) (events_of c + 1) ≡ true = lt-ltb _ _ (omega (arith, slid)) in
    let index : events_of c + 1 - (c.dropped + 1) ≡ length c.history = omega arith in
    subst (λ (x : CellState). IsEntry x (record { place = events_of c + 1; event = event; reply = reply })) (sym made.1)
    (rw (kept, index) (at_end c.history (event, reply)))

pub then_above : (c : CellState) (s : SeatState) (table : ℕ) (event : CellEvent) (reply : CellReply) → MayCall table c s → seen_of table s < seen_of table (receipted table c s event reply)
then_above c s table event reply may = omega (arith, then_seen s table (record { place = events_of c + 1; event = event; reply = reply }), may.1)

pub never_lower : (c : CellState) (s : SeatState) (table other : ℕ) (event : CellEvent) (reply : CellReply) → MayCall table c s → seen_of other s ≤ seen_of other (receipted table c s event reply)
never_lower c s table other event reply may = elim (cases_eq table other) [
  | inl same ↦ subst (λ t. seen_of t s ≤ seen_of t (receipted table c s event reply)) same (omega (arith, then_above c s table event reply may))
  | inr apart ↦
      let still = (other_tables s table other (record { place = events_of c + 1; event = event; reply = reply }) apart).0 in
      omega (arith, still)
]
