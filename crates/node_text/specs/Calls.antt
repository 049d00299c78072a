-- The calls of a script (profile).
use Rattle.std.specs.Prelude.{◌≤◌, ◌<◌, ◌^◌, ℕ, List, Option, Some, None}
use Rattle.table_types.specs.declared.key.Key.{Key}
use Rattle.table_types.specs.declared.key.KeyKind.{KeyKind}
use Rattle.table_types.specs.declared.key.KeyKind.TheVariants as kinds
use Rattle.node_text.specs.Keys.{key_of}
use Rattle.node_text.specs.declared.calls.Call.{Call}
use Rattle.node_text.specs.declared.calls.Call.TheVariants as calls

-- ---- keys

-- the first key, or else the next
abbrev pub or_key : Option Key → Option Key → Option Key
or_key (Some key) next = Some key
or_key None next = next

-- the key that a word writes: one of the kind `kind`, or else a string, or else an integer
abbrev pub any_key_of : KeyKind → List ℕ → Option Key
any_key_of kind word = or_key (key_of kind word) (or_key (key_of kinds.String word) (key_of kinds.Integer word))

-- ---- calls

-- a copy has a limit of 1 to 4,096, and the place of an event is below 2^63
abbrev pub IsCall : Call → Type 0
IsCall (calls.Copy session kind limit now) = (1 ≤ limit) × (limit ≤ 4096)
IsCall (calls.Event place) = place < 2 ^ 63
IsCall call = Unit {0}
