use Rattle.std.proofs.Common.{drop, map}
use Rattle.std.specs.List.{AllByRecursion}
use Rattle.node_text.specs.Versions.{IsVersionName}
use Rattle.node_text.proofs.versions.are_version_names.Given as goal

abbrev pub invariant-loop-word : goal.invariant-loop-word
invariant-loop-word l = AllByRecursion IsVersionName (map (λ word. word.now) (drop l.word-index l.words)) → AllByRecursion IsVersionName (map (λ word. word.now) l.words)
