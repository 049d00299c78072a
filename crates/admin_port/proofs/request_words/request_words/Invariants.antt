use Rattle.std.proofs.Common.{◌≡◌, ◌++◌, length}
use Rattle.std.specs.Prelude.{map}
use Rattle.std.specs.List.{list_all}
use Rattle.admin_port.specs.RequestWords.{is_word, line_words}
use Rattle.admin_port.proofs.request_words.request_words.Given as goal

abbrev pub invariant-loop-word : goal.invariant-loop-word
invariant-loop-word l = record {
  words : map (λ word. word.now) l.words.items ++ line_words l.rest ≡ line_words l.line;
  each : list_all is_word (line_words l.rest) ≡ list_all is_word (line_words l.line);
}

abbrev pub decreases-loop-word : goal.decreases-loop-word
decreases-loop-word l = length l.rest
