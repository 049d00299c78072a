-- Lists in blocks of 1,024 items.
use Rattle.std.specs.Prelude.{◌≡◌, ◌≤◌, ◌^◌, ◌&&◌, Bool, nat_lt, List, ◌++◌, length}
use Rattle.std.specs.Vec.{vec_len, vec_capacity}
use Rattle.std.specs.declared.alloc.Global.{Global}
use Rattle.std.specs.declared.vec.Vec.{Vec}
use Rattle.std.specs.List.{AllByRecursion, flat_map}

-- a list, and whether there is room for one more item
pub record ListInBlocks (T : Type 0) : Type 0 where
  pub items : List T
  pub has_room : Bool

-- the items of the full blocks, and after them those of the last one
abbrev pub items_in : {T : Type 0} → List (Vec T Global) → Vec T Global → List T
items_in full last = flat_map (λ block. block.items) full ++ last.items

-- whether the last block has room
abbrev pub has_room_in : {T : Type 0} → Vec T Global → Bool
has_room_in last = nat_lt (vec_len last) 1024 && nat_lt (vec_len last) (vec_capacity last)

-- each block but the last has 1,024 items, the last has at most 1,024, and there are at most 2^50 full ones
pub record AreBlocks {T : Type 0} (full : List (Vec T Global)) (last : Vec T Global) : Type 0 where
  pub whole : AllByRecursion (λ block. length block.items ≡ 1024) full
  pub short : length last.items ≤ 1024
  pub few : length full ≤ 2 ^ 50
