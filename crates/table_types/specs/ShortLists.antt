-- The elements of a list, wherever they are stored.
use Rattle.std.specs.Prelude.{List, []}
use Rattle.table_types.specs.declared.short_list.Place.{Place}
use Rattle.table_types.specs.declared.short_list.Place.TheVariants as places

abbrev pub elements_at : {T : Type 0} → Place T → List T
elements_at places.Nowhere = []
elements_at (places.Inline items) = items
elements_at (places.Heap items) = items.items
