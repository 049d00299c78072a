-- What the lines of a configuration have come to (profile).
use Rattle.std.specs.Prelude.{◌≡◌, ◌≤◌, ◌==◌, ◌&&◌, ◌++◌, ℕ, Bool, true, false, not, List, [], ◌∷◌, None, Some, IfSome, Ok, is_some, length, option_map}
use Rattle.std.specs.Fmt.{decimal}
use Rattle.node_core.specs.declared.levels.Level.TheVariants as levels
use Rattle.table_types.specs.Rosters.{has_id, has_name}
use Rattle.table_types.specs.Tables.{is_definition}
use Rattle.admin_text.specs.Addresses.{IsAddress, IsLocal}
use Rattle.admin_text.specs.Before.{count_of, line_of, line_with}
use Rattle.admin_text.specs.Lines.{IsRead}
use Rattle.admin_text.specs.PeerLines.{named_line}
use Rattle.admin_text.specs.Peers.{AreNamed, IsLabel, names_of}
use Rattle.admin_text.specs.Peers.{has_name as has_peer_name}
use Rattle.admin_text.specs.Sockets.{is_path}
use Rattle.admin_text.specs.Statements.{Said}
use Rattle.admin_text.specs.TableSettings.{AreTables, definitions, kept_in, with_rows}
use Rattle.admin_text.specs.declared.configurations.Configuration.{Configuration}
use Rattle.admin_text.specs.declared.line_kinds.LineKind.TheVariants as kinds
use Rattle.admin_text.specs.declared.settings.Setting.{Setting}
use Rattle.admin_text.specs.declared.settings.Setting.TheVariants as settings
use Rattle.admin_text.specs.declared.so_far.ConfigurationSoFar.{ConfigurationSoFar}

-- what a line says is added
abbrev pub IsAdded : Setting → ConfigurationSoFar → ConfigurationSoFar → Type 0
IsAdded (settings.Node name) s e = e ≡ record s { node = Some name }
IsAdded (settings.Listen a) s e = e ≡ record s { listen = Some a }
IsAdded (settings.Admin a) s e = e ≡ record s { admin = Some a }
IsAdded (settings.Socket path) s e =
    (e ≡ record s { admin_socket = e.admin_socket }) × (option_map (λ p. p.items) e.admin_socket ≡ Some path)
IsAdded (settings.Metrics a) s e = e ≡ record s { metrics = Some a }
IsAdded (settings.Section name) s e = e ≡ record s { section = Some name }
IsAdded (settings.Peer p) s e = (e ≡ record s { peers = e.peers }) × (e.peers.items ≡ s.peers.items ++ p ∷ [])
IsAdded (settings.Table d) s e =
    (e ≡ record s { tables = e.tables })
    × (e.tables.items ≡ s.tables.items ++ record { definition = d; size = None; nopurge = None } ∷ [])
    × (is_definition d ≡ true)
IsAdded (settings.Size None rows) s e = e ≡ s
IsAdded (settings.Size (Some id) rows) s e = (e ≡ record s { tables = e.tables }) × (e.tables.items ≡ with_rows id rows s.tables.items)
IsAdded (settings.Nopurge None) s e = e ≡ s
IsAdded (settings.Nopurge (Some id)) s e = (e ≡ record s { tables = e.tables }) × (e.tables.items ≡ kept_in id s.tables.items)
IsAdded (settings.Log level) s e = e ≡ record s { log = record s.log { level = level } }
IsAdded settings.Journal s e = e ≡ record s { log = record s.log { journal = true } }

-- as in a configuration, but the node's name, where it listens, and its tables may not have come yet
pub record IsSoFar (s : ConfigurationSoFar) : Type 0 where
  pub named : AreNamed s.node s.peers.items
  pub listen : IfSome s.listen IsAddress
  pub admin : IfSome s.admin (λ a. IsAddress a × IsLocal a)
  pub admin_socket : IfSome s.admin_socket (λ path. is_path path.items ≡ true)
  pub metrics : IfSome s.metrics IsAddress
  pub section : IfSome s.section IsLabel
  pub tables : AreTables s.tables.items

-- the names and the ids come from these lines, and so do the peers and the tables
pub record ComesFrom (lines : List Said) (s : ConfigurationSoFar) : Type 0 where
  pub names : (name : List ℕ) → has_peer_name name (names_of s.node s.peers.items) ≡ true → is_some (named_line lines name) ≡ true
  pub peers : length s.peers.items ≤ count_of kinds.Peer lines
  pub ids : (id : ℕ) → has_id id (definitions s.tables.items) ≡ true → is_some (line_with kinds.Table 1 (decimal id) lines) ≡ true
  pub table_names :
      (name : List ℕ) → has_name name (definitions s.tables.items) ≡ true → is_some (line_with kinds.Table 2 name lines) ≡ true
  pub tables : length s.tables.items ≤ count_of kinds.Table lines

-- what these lines have, that the node needs, has come
pub record HasNeeded (lines : List Said) (s : ConfigurationSoFar) : Type 0 where
  pub node : is_some (line_of kinds.Node lines) ≡ true → is_some s.node ≡ true
  pub listen : is_some (line_of kinds.Listen lines) ≡ true → is_some s.listen ≡ true
  pub tables : is_some (line_of kinds.Table lines) ≡ true → 1 ≤ length s.tables.items

-- what no lines come to
pub record IsFresh (s : ConfigurationSoFar) : Type 0 where
  pub node : s.node ≡ None
  pub listen : s.listen ≡ None
  pub admin : s.admin ≡ None
  pub admin_socket : s.admin_socket ≡ None
  pub metrics : s.metrics ≡ None
  pub section : s.section ≡ None
  pub peers : s.peers.items ≡ []
  pub tables : s.tables.items ≡ []
  pub log : s.log ≡ record { level = levels.Info; journal = false }

-- what these lines say, none of which is refused behind the lines before, is added one after another
abbrev pub AreAdded : List Said → List Said → ConfigurationSoFar → ConfigurationSoFar → Type 0
AreAdded before [] s e = e ≡ s
AreAdded before (line ∷ lines) s e =
    (setting : Setting)
    × (next : ConfigurationSoFar)
    × IsRead before line.1 (Ok setting)
    × IsAdded setting s next
    × AreAdded (before ++ line ∷ []) lines next e

-- the configuration says what has come
pub record IsWholeOf (s : ConfigurationSoFar) (c : Configuration) : Type 0 where
  pub node : s.node ≡ Some c.node
  pub listen : s.listen ≡ Some c.listen
  pub admin : s.admin ≡ c.admin
  pub admin_socket : s.admin_socket ≡ c.admin_socket
  pub metrics : s.metrics ≡ c.metrics
  pub section : s.section ≡ c.section
  pub peers : s.peers ≡ c.peers
  pub tables : s.tables ≡ c.tables
  pub log : s.log ≡ c.log

-- the configuration says what these lines say, and nothing else
abbrev pub IsSaidBy : List Said → Configuration → Type 0
IsSaidBy lines c = (fresh : ConfigurationSoFar) × (end : ConfigurationSoFar) × IsFresh fresh × AreAdded [] lines fresh end × IsWholeOf end c

-- the node's name, where it listens, and a table have come
abbrev pub is_whole : ConfigurationSoFar → Bool
is_whole s = is_some s.node && (is_some s.listen && not (length s.tables.items == 0))
