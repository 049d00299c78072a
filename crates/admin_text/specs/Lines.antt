-- What a line of a configuration says, or the first thing wrong with it (profile). It is read by its own words, and by those of the
-- lines before it, whether these are refused or not.
use Rattle.std.specs.Prelude.{◌≡◌, ◌⊎◌, ◌||◌, ◌-◌, ◌^◌, ℕ, List, [], ◌∷◌, Option, Some, None, Result, Ok, Err, drop, if◌then◌else◌, is_some}
use Rattle.std.specs.Option.{option_or}
use Rattle.std.specs.declared.net.socket_addr.SocketAddr.{SocketAddr}
use Rattle.node_text.specs.Numbers.{from_one, number_of}
use Rattle.admin_text.specs.Addresses.{IsLocal}
use Rattle.admin_text.specs.Before.{line_of, line_with}
use Rattle.admin_text.specs.LineKinds.{kind_of}
use Rattle.admin_text.specs.MeantKinds.{has_meant_with}
use Rattle.admin_text.specs.NameFaults.{name_at}
use Rattle.admin_text.specs.Named.{level_named}
use Rattle.admin_text.specs.Outcomes.{led_on, or_fault, unless}
use Rattle.admin_text.specs.PeerLines.{IsPeerLine, ReadsAddress, repeated, taken_name}
use Rattle.admin_text.specs.Sockets.{path_fault}
use Rattle.admin_text.specs.Statements.{Said}
use Rattle.admin_text.specs.TableLines.{table_at}
use Rattle.admin_text.specs.declared.line_kinds.LineKind.{LineKind}
use Rattle.admin_text.specs.declared.line_kinds.LineKind.TheVariants as kinds
use Rattle.admin_text.specs.declared.faults.Fault.{Fault}
use Rattle.admin_text.specs.declared.faults.Fault.TheVariants as faults
use Rattle.admin_text.specs.declared.settings.Setting.{Setting}
use Rattle.admin_text.specs.declared.settings.Setting.TheVariants as settings

-- ---- the node, and where it listens, from the words behind the first

-- neither an earlier line nor a peer has the name
abbrev pub node_named : List Said → List ℕ → Result Setting Fault
node_named before word =
    led_on (name_at 1 word)
    (λ name. unless (option_or (repeated (line_of kinds.Node before)) (taken_name before name)) (Ok (settings.Node name)))

unfoldable pub node_at : List Said → List (List ℕ) → Result Setting Fault
node_at before (name ∷ []) = node_named before name
node_at before words = Err (faults.Form kinds.Node)

unfoldable pub section_at : List Said → List (List ℕ) → Result Setting Fault
section_at before (name ∷ []) =
    led_on (name_at 1 name) (λ name. unless (repeated (line_of kinds.Section before)) (Ok (settings.Section name)))
section_at before words = Err (faults.Form kinds.Section)

abbrev pub IsListenLine : List Said → List (List ℕ) → Result Setting Fault → Type 0
IsListenLine before (word ∷ []) outcome =
    ReadsAddress 1 word (λ a. outcome ≡ unless (repeated (line_of kinds.Listen before)) (Ok (settings.Listen a))) outcome
IsListenLine before words outcome = outcome ≡ Err (faults.Form kinds.Listen)

abbrev pub IsMetricsLine : List Said → List (List ℕ) → Result Setting Fault → Type 0
IsMetricsLine before (word ∷ []) outcome =
    ReadsAddress 1 word (λ a. outcome ≡ unless (repeated (line_of kinds.Metrics before)) (Ok (settings.Metrics a))) outcome
IsMetricsLine before words outcome = outcome ≡ Err (faults.Form kinds.Metrics)

-- a loopback address
abbrev pub IsAdmin : List Said → SocketAddr → Result Setting Fault → Type 0
IsAdmin before a outcome =
    (IsLocal a × (outcome ≡ unless (repeated (line_of kinds.Admin before)) (Ok (settings.Admin a))))
    ⊎ ((IsLocal a → ⊥) × (outcome ≡ Err faults.Local))

abbrev pub IsAdminLine : List Said → List (List ℕ) → Result Setting Fault → Type 0
IsAdminLine before (word ∷ []) outcome = ReadsAddress 1 word (λ a. IsAdmin before a outcome) outcome
IsAdminLine before words outcome = outcome ≡ Err (faults.Form kinds.Admin)

-- the path comes behind `unix:`
unfoldable pub socket_at : List Said → List (List ℕ) → Result Setting Fault
socket_at before (word ∷ []) =
    unless (option_or (path_fault (drop 5 word)) (repeated (line_of kinds.Socket before))) (Ok (settings.Socket (drop 5 word)))
socket_at before words = Err (faults.Form kinds.Socket)

-- ---- the log

unfoldable pub level_at : List Said → List (List ℕ) → Result Setting Fault
level_at before (word ∷ []) =
    led_on (or_fault (level_named word) faults.Level) (λ level. unless (repeated (line_of kinds.Log before)) (Ok (settings.Log level)))
level_at before words = Err (faults.Form kinds.Log)

unfoldable pub journal_at : List Said → List (List ℕ) → Result Setting Fault
journal_at before (word ∷ []) = unless (repeated (line_of kinds.Journal before)) (Ok settings.Journal)
journal_at before words = Err (faults.Form kinds.Journal)

-- ---- settings of a table

-- an earlier line has to give the id to a table, or be plainly meant to
abbrev pub no_table : List Said → List ℕ → Option Fault
no_table before id =
    if is_some (line_with kinds.Table 1 id before) || has_meant_with kinds.Table 1 id before then None else Some faults.NoTable

-- 1 to 1,000,000 rows
unfoldable pub size_at : List Said → List (List ℕ) → Result Setting Fault
size_at before (id ∷ rows ∷ []) =
    unless (no_table before id)
    (led_on (or_fault (from_one (number_of rows 1000000)) faults.Rows)
    (λ rows. unless (repeated (line_with kinds.Size 1 id before)) (Ok (settings.Size (number_of id (2 ^ 64 - 1)) rows))))
size_at before words = Err (faults.Form kinds.Size)

unfoldable pub nopurge_at : List Said → List (List ℕ) → Result Setting Fault
nopurge_at before (id ∷ []) =
    unless (option_or (no_table before id) (repeated (line_with kinds.Nopurge 1 id before))) (Ok (settings.Nopurge (number_of id (2 ^ 64 - 1))))
nopurge_at before words = Err (faults.Form kinds.Nopurge)

-- ---- any line

abbrev pub IsLine : Option LineKind → List Said → List (List ℕ) → Result Setting Fault → Type 0
IsLine None before words outcome = outcome ≡ Err faults.Unknown
IsLine (Some kinds.Node) before words outcome = outcome ≡ node_at before words
IsLine (Some kinds.Listen) before words outcome = IsListenLine before words outcome
IsLine (Some kinds.Admin) before words outcome = IsAdminLine before words outcome
IsLine (Some kinds.Socket) before words outcome = outcome ≡ socket_at before words
IsLine (Some kinds.Metrics) before words outcome = IsMetricsLine before words outcome
IsLine (Some kinds.Section) before words outcome = outcome ≡ section_at before words
IsLine (Some kinds.Peer) before words outcome = IsPeerLine before words outcome
IsLine (Some kinds.Table) before words outcome = outcome ≡ table_at before words
IsLine (Some kinds.Size) before words outcome = outcome ≡ size_at before words
IsLine (Some kinds.Nopurge) before words outcome = outcome ≡ nopurge_at before words
IsLine (Some kinds.Log) before words outcome = outcome ≡ level_at before words
IsLine (Some kinds.Journal) before words outcome = outcome ≡ journal_at before words

-- what a line with these words says behind these lines, or the first thing wrong with it
unfoldable pub IsRead : List Said → List (List ℕ) → Result Setting Fault → Type 0
IsRead before [] outcome = outcome ≡ Err faults.Unknown
IsRead before (word ∷ words) outcome = IsLine (kind_of (word ∷ words)) before words outcome
