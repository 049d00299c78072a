-- A call of a cell that succeeds, and the receipt that it leaves.
use Rattle.std.proofs.Common.{◌≡◌, ℕ, Result, Ok, Err, ap, sym, ◌∙◌}
use Rattle.std.specs.Result.{MatchResult, is_ok}
use Rattle.std.proofs.lemmas.Bool.{false≢true}
use Rattle.table_cell.specs.declared.events.CellEvent.{CellEvent}
use Rattle.table_cell.specs.declared.events.CellReply.{CellReply}
use Rattle.table_cell.specs.Histories.{CellState, Made, events_of}
use Rattle.table_shards.specs.Receipts.{SeatState, with_receipt}
use Rattle.table_shards.specs.Holding.{receipted}
use Rattle.table_shards.proofs.EventLaws.{then_last}

-- a result of which only the error was mapped
pub was_ok : {A E F : Type 0} (Q : E → Type 0) (r : Result A E) (s : Result A F) (x : A) → MatchResult r (λ (y : A). s ≡ Ok y) Q → is_ok s ≡ is_ok r → s ≡ Ok x → r ≡ Ok x
was_ok Q (Ok y) s x is variant ok = let same : y ≡ x = cc in ap (λ (z : _). Ok z) same
was_ok Q (Err e) s x is variant ok = absurd (false≢true (sym variant ∙ ap is_ok ok))

-- the seat has a receipt of the new event
pub receipt_left : (c e : CellState) (s before t : SeatState) (table : ℕ) (event made : CellEvent) (reply given : CellReply) → before ≡ s → made ≡ event → given ≡ reply → Made c event reply e
    → t ≡ with_receipt before table (record { place = events_of e; event = made; reply = given }) → t ≡ receipted table c s event reply
receipt_left c e s before t table event made reply given same is gives one left =
    left
    ∙ ap (λ (x : SeatState). with_receipt x table (record { place = events_of e; event = made; reply = given })) same
    ∙ ap (λ (x : CellEvent). with_receipt s table (record { place = events_of e; event = x; reply = given })) is
    ∙ ap (λ (x : CellReply). with_receipt s table (record { place = events_of e; event = event; reply = x })) gives
    ∙ ap (λ (n : ℕ). with_receipt s table (record { place = n; event = event; reply = reply })) (then_last c e event reply one)
