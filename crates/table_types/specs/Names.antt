-- Names of tables, servers and peers (the bounds are the profile's choices).
use Rattle.std.specs.Prelude.{ℕ, Bool, not, ◌&&◌, ◌==◌, nat_le, List, length}
use Rattle.std.specs.List.{list_any}

-- 1 to 255 bytes, none of them NUL
abbrev pub is_name : List ℕ → Bool
is_name bytes = not (length bytes == 0) && nat_le (length bytes) 255 && not (list_any (λ byte. byte == 0) bytes)
