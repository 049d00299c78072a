use Rattle.std.proofs.Common.{map, take}
use Rattle.admin_text.specs.Networks.{AreNetworkTexts}
use Rattle.admin_text.proofs.peer_lines.read_networks.Given as goal

abbrev pub invariant-loop-index : goal.invariant-loop-index
invariant-loop-index l = AreNetworkTexts (map (λ word. word.now) (take l.index l.words)) l.networks.items
