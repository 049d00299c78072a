use Rattle.std.proofs.Common.{◌≡◌, drop}
use Rattle.std.specs.List.{list_all}
use Rattle.std.specs.Prelude.{◌&&◌, nat_le}
use Rattle.peers_hello.proofs.hello.is_number.Given as goal

abbrev pub invariant-loop-byte : goal.invariant-loop-byte
invariant-loop-byte l =
    list_all (λ byte. nat_le 48 byte && nat_le byte 57) (drop l.byte-index l.text) ≡ list_all (λ byte. nat_le 48 byte && nat_le byte 57) l.text
