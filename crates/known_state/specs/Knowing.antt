-- What determines the cost of a lesson, as the code goes through a batch.
use Rattle.std.specs.Prelude.{◌||◌, is_some}
use Rattle.std.specs.Option.{option_or}
use Rattle.known_state.specs.declared.knowledge.KnowledgeSoFar.{KnowledgeSoFar}
use Rattle.known_state.specs.LastNumbers.{last_of}
use Rattle.known_state.specs.Cost.{Knowledge, knowledge_of}

-- what is known so far: a table with an update in the lesson is defined, and that update's number is its last; for any
-- other table, the known state decides
abbrev pub known_so_far : KnowledgeSoFar → Knowledge
known_so_far k = record {
  is_defined = λ id. is_some (last_of k.sent id) || (knowledge_of k.known.now.state).is_defined id;
  selected = k.selected;
  last = λ id. option_or (last_of k.sent id) ((knowledge_of k.known.now.state).last id);
}
