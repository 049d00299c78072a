use Rattle.std.proofs.Common.{◌≡◌, map, take}
use Rattle.node_text.specs.Versions.{version_name}
use Rattle.node_text.proofs.versions.named_versions.Given as goal

abbrev pub invariant-loop-word : goal.invariant-loop-word
invariant-loop-word l = map version_name l.versions.items ≡ map (λ word. word.now) (take l.word-index l.words)
