use Rattle.std.proofs.Common.{◌≡◌, ◌+◌, [], drop, map}
use Rattle.admin_text.specs.TableLines.{entries_behind}
use Rattle.admin_text.proofs.type_words.read_types.Given as goal

abbrev pub invariant-loop-index : goal.invariant-loop-index
invariant-loop-index l =
    entries_behind (6 + l.index) l.types.items (map (λ word. word.now) (drop l.index l.words))
    ≡ entries_behind 6 [] (map (λ word. word.now) l.words)
