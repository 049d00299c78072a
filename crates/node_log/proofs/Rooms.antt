-- When there is no room for a line.
use Rattle.std.proofs.Common.{◌≡◌, ◌++◌, ◌+◌, ◌-◌, ◌<◌, ◌∙◌, ℕ, List, [], length, refl, ap, arith}
use Rattle.node_core.specs.declared.events.Event.{Event}
use Rattle.node_log.specs.declared.lines.Form.{Form}
use Rattle.node_log.specs.Lines.{Adds}
use Rattle.node_log.specs.Waiting.{IsFull}
use Rattle.std.proofs.lemmas.List.{length-append}

pub full_with : (form : Form) (event : Event) (before line : List ℕ) → Adds form event [] line → 65536 - length before < length line → IsFull form event before
full_with form event before line (sentence, made, says, is) over = (before ++ made, (sentence, made, says, refl), omega (arith, over, length-append before made, ap length is))
