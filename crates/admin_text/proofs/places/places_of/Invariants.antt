use Rattle.std.proofs.Common.{map, take}
use Rattle.admin_text.specs.Places.{ArePlaces}
use Rattle.admin_text.specs.Statements.{said_by}
use Rattle.admin_text.proofs.places.places_of.Given as goal

abbrev pub invariant-loop-line : goal.invariant-loop-line
invariant-loop-line l = ArePlaces (map said_by (take l.line-index l.lines)) l.places.items
