-- The names that are held at the start.
use Rattle.std.specs.Prelude.{ℕ, ◌≤◌, List, map, length, Option, Some}
use Rattle.table_types.specs.SlotIds.{slot_count}
use Rattle.known_state.specs.Plans.{names_in}
use Rattle.price_checker.specs.declared.names_held.Held.{Held}
use Rattle.price_checker.specs.declared.names_held.Held.TheVariants as held

-- the names, whether given as a list or by slots
abbrev pub names_held : Held → List (List ℕ)
names_held (held.Names names) = names.now
names_held (held.Slots slots) = names_in slots.now

-- slots that hold these names: one for each name of a list, or the slots themselves
abbrev pub slots_held : Held → List (Option (List ℕ))
slots_held (held.Names names) = map (λ name. Some name) names.now
slots_held (held.Slots slots) = slots.now

-- there are at most 128 names in a list
abbrev pub AreFew : Held → Type 0
AreFew (held.Names names) = length names.now ≤ slot_count
AreFew (held.Slots slots) = Unit {0}
