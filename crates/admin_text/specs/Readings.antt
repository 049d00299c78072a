-- What is read of a configuration, line by line (profile).
use Rattle.std.specs.Prelude.{◌≡◌, ◌≤◌, ◌++◌, ℕ, List, [], ◌∷◌, Result, Ok, Err, length, map}
use Rattle.admin_text.specs.Refusals.{AreFaults, head_of}
use Rattle.admin_text.specs.SaidLines.{Adds, AreLines}
use Rattle.admin_text.specs.SoFar.{AreAdded, HasNeeded, IsAdded, IsFresh, IsSoFar}
use Rattle.admin_text.specs.Statements.{Said}
use Rattle.admin_text.specs.declared.faults.Fault.{Fault}
use Rattle.admin_text.specs.declared.readings.Reading.{Reading}
use Rattle.admin_text.specs.declared.settings.Setting.{Setting}
use Rattle.admin_text.specs.declared.so_far.ConfigurationSoFar.{ConfigurationSoFar}

-- the line with this number says something, which is added; or something is wrong with it, which is listed and said
abbrev pub IsNoted : ℕ → Result Setting Fault → Reading → Reading → Type 0
IsNoted number (Ok setting) r e = IsAdded setting r.so_far e.so_far × (e.faults ≡ r.faults) × (e.said ≡ r.said)
IsNoted number (Err fault) r e =
    (e.so_far ≡ r.so_far)
    × (e.faults.items ≡ r.faults.items ++ record { number = number; fault = fault } ∷ [])
    × Adds (head_of (record { number = number; fault = fault })) r.said.items e.said.items

-- what is read of no lines
pub record IsFirst (r : Reading) : Type 0 where
  pub so_far : IsFresh r.so_far
  pub faults : r.faults.items ≡ []
  pub said : r.said.items ≡ []

-- what is read of these lines, up to the twentieth that is refused
pub record AreRead (lines : List Said) (r : Reading) : Type 0 where
  pub so_far : IsSoFar r.so_far
  pub faults : AreFaults lines r.faults.items
  pub most : length r.faults.items ≤ 20
  pub said : AreLines (map head_of r.faults.items) r.said.items
  pub needed : r.faults.items ≡ [] → HasNeeded lines r.so_far
  pub added : r.faults.items ≡ [] → (fresh : ConfigurationSoFar) × IsFresh fresh × AreAdded [] lines fresh r.so_far
