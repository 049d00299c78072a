use Rattle.std.proofs.Common.{◌≡◌, ◌∷◌, ◌++◌, drop}
use Rattle.std.specs.List.{flat_map}
use Rattle.admin_port.specs.DefinitionWords.{type_text, types_text}
use Rattle.admin_port.proofs.definition_words.push_types.Given as goal

abbrev pub invariant-loop-entry : goal.invariant-loop-entry
invariant-loop-entry l =
    l.text.items ++ flat_map (λ other. 44 ∷ type_text other) (drop l.entry-index l.others) ≡ l.fn.text.items ++ types_text l.types
