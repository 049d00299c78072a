-- Links whose places are those of a batch.
use Rattle.std.specs.Prelude.{◌<◌, ◌≤◌, ℕ, List}
use Rattle.std.specs.List.{AllByRecursion}
use Rattle.known_state.specs.Plans.{Link}

-- each link goes forward, to a place up to the given one
abbrev pub AreWithin : ℕ → List Link → Type 0
AreWithin places ls = AllByRecursion (λ l. (l.from < l.to) × (l.to ≤ places)) ls
