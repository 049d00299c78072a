-- What a configuration says (profile).
use Rattle.std.specs.Prelude.{◌≡◌, ◌≤◌, Some, IfSome, length, true}
use Rattle.admin_text.specs.Addresses.{IsAddress, IsLocal}
use Rattle.admin_text.specs.Peers.{AreNamed, IsLabel}
use Rattle.admin_text.specs.Sockets.{is_path}
use Rattle.admin_text.specs.TableSettings.{AreTables}
use Rattle.admin_text.specs.declared.configurations.Configuration.{Configuration}

-- node, peers and section have names, no two of node and peers the same; the addresses have ports, no zone, and aren't
-- link-local, and the one for requests is a loopback address; a socket for requests has a path; there are at most 15 peers, and 1 to 64 tables with distinct ids
-- and names
pub record IsConfiguration (c : Configuration) : Type 0 where
  pub named : AreNamed (Some c.node) c.peers.items
  pub listen : IsAddress c.listen
  pub admin : IfSome c.admin (λ a. IsAddress a × IsLocal a)
  pub admin_socket : IfSome c.admin_socket (λ path. is_path path.items ≡ true)
  pub metrics : IfSome c.metrics IsAddress
  pub section : IfSome c.section IsLabel
  pub tables : AreTables c.tables.items
  pub some_table : 1 ≤ length c.tables.items
