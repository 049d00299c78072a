-- Words of a line (profile).
use Rattle.std.specs.Prelude.{◌&&◌, ℕ, Bool, List, nat_le}
use Rattle.std.specs.List.{list_all}

-- printable bytes, and no space
abbrev pub is_text : List ℕ → Bool
is_text word = list_all (λ byte. nat_le 33 byte && nat_le byte 126) word
