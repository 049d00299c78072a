-- What a subcommand takes from a scene.
use Rattle.std.specs.Prelude.{ℕ, List, [], Option, Some, None, option_map}
use Rattle.known_state.specs.Known.{KnownState, built}
use Rattle.node_text.specs.declared.scenes.Scene.{Scene}

-- the known state at the start
abbrev pub start_of : Scene → KnownState
start_of scene = built scene.tables.items scene.selected scene.defined.items scene.last.items scene.slots

abbrev pub or_none : Option (List ℕ) → List ℕ
or_none None = []
or_none (Some prices) = prices

-- the prices; none if no line has them
abbrev pub prices_of : Scene → List ℕ
prices_of scene = or_none (option_map (λ prices. prices.items) scene.prices)
