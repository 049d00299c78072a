-- The ids of the slots of the dictionary of server names (HAProxy, doc/peers-v2.0.txt, "Stick Table Messages"; that they
-- are 1 to 128 is the profile's choice).
use Rattle.std.specs.Prelude.{ℕ, Bool, ◌&&◌, nat_le}

-- the number of slots in the dictionary
abbrev pub slot_count : ℕ
slot_count = 128

-- the ids of the dictionary's slots: 1 to 128
abbrev pub is_slot : ℕ → Bool
is_slot slot = nat_le 1 slot && nat_le slot slot_count
