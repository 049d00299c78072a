-- The paths of sockets (profile; the bound is that of an address of Linux, 108 bytes of which the last is NUL).
use Rattle.std.specs.Prelude.{◌&&◌, ◌==◌, ℕ, Bool, not, List, length, Option, Some, None, if◌then◌else◌, nat_le}
use Rattle.std.specs.List.{list_any}
use Rattle.admin_text.specs.declared.faults.Fault.{Fault}
use Rattle.admin_text.specs.declared.faults.Fault.TheVariants as faults
use Rattle.admin_text.specs.declared.faults.PathFault.TheVariants as paths

abbrev pub has_nul : List ℕ → Bool
has_nul path = list_any (λ byte. byte == 0) path

-- 1 to 107 bytes, none of them NUL
abbrev pub is_path : List ℕ → Bool
is_path path = not (length path == 0) && (nat_le (length path) 107 && not (has_nul path))

-- why this isn't the path of a socket
abbrev pub path_fault : List ℕ → Option Fault
path_fault path =
    if is_path path then None
    else (if length path == 0 then Some (faults.Path paths.Empty)
    else (if has_nul path then Some (faults.Path paths.Nul)
    else Some (faults.Path (paths.Long (length path)))))
