-- What a script says of a table (profile).
use Rattle.std.specs.Prelude.{◌≤◌, IfSome}
use Rattle.node_text.specs.declared.script_tables.ScriptTable.{ScriptTable}

-- the settings are in their ranges
pub record IsScriptTable (t : ScriptTable) : Type 0 where
  pub size : IfSome t.size (λ size. (1 ≤ size) × (size ≤ 1000000))
  pub first : IfSome t.first (λ first. 1 ≤ first)
