-- An answer that a seat keeps.
use Rattle.std.proofs.Common.{◌≡◌, ℕ, Option, ap, ◌∙◌}
use Rattle.table_shards.specs.declared.answers.Answer.{Answer}
use Rattle.table_shards.specs.Receipts.{SeatState}
use Rattle.table_shards.specs.Noting.{noted}

-- the same number of events and the same answer
pub noted_as : (table session counted events : ℕ) (given answer : Option Answer) (mid t : SeatState) → t ≡ noted table session counted given mid → counted ≡ events → given ≡ answer → t ≡ noted table session events answer mid
noted_as table session counted events given answer mid t is counts gives =
    is
    ∙ ap (λ (n : ℕ). noted table session n given mid) counts
    ∙ ap (λ (o : Option Answer). noted table session events o mid) gives
