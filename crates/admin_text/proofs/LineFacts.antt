-- What a line says that is taken, and what it doesn't repeat.
use Rattle.std.proofs.Common.{◌≡◌, ◌≤◌, ◌-◌, ◌^◌, ◌∙◌, ◌==◌, ◌&&◌, Bool, arith, drop, length, true, false, inl, inr, ℕ, List, [], ◌∷◌, ap, refl, subst, sym}
use Rattle.std.specs.Prelude.{Err, IfSome, None, Ok, Option, Result, Some, if◌then◌else◌, nat_le}
use Rattle.std.specs.Option.{option_or}
use Rattle.std.specs.declared.net.socket_addr.SocketAddr.{SocketAddr}
use Rattle.table_types.specs.Names.{is_name}
use Rattle.node_text.specs.Names.{may_name}
use Rattle.std.specs.List.{list_all}
use Rattle.node_text.specs.Numbers.{digits_from, from_one, is_digit, is_without_needless_zero, number_of}
use Rattle.admin_text.specs.Addresses.{IsAddress, IsAddressText, IsLocal}
use Rattle.admin_text.specs.LineKinds.{kind_of}
use Rattle.admin_text.specs.Before.{line_of, line_with}
use Rattle.admin_text.specs.Lines.{IsAdminLine, IsLine, IsListenLine, IsMetricsLine, IsRead, journal_at, level_at, no_table, node_at, nopurge_at, section_at, size_at, socket_at}
use Rattle.admin_text.specs.NameFaults.{is_label, name_at}
use Rattle.admin_text.specs.PeerLines.{IsAddressIf, IsPeerLine, IsPeerNamed, IsPeerOf, address_part, named_line, networks_part, peer_name, peers_fault, repeated, source_part, taken, taken_name}
use Rattle.admin_text.specs.Peers.{IsLabel, IsPeer}
use Rattle.admin_text.specs.Named.{level_named}
use Rattle.admin_text.specs.Outcomes.{led_on, or_fault, unless}
use Rattle.admin_text.specs.Sockets.{has_nul, is_path, path_fault}
use Rattle.admin_text.specs.Statements.{Said}
use Rattle.admin_text.specs.TableLines.{definition_with, entries_behind, expire_at, keys_at, parts_at, place_fault, table_at}
use Rattle.table_types.specs.declared.data_type.DataType.{DataType}
use Rattle.table_types.specs.declared.key.KeyKind.{KeyKind}
use Rattle.admin_text.specs.declared.faults.Fault.{Fault}
use Rattle.admin_text.specs.declared.faults.Fault.TheVariants as faults
use Rattle.admin_text.specs.declared.faults.PathFault.TheVariants as paths
use Rattle.admin_text.specs.declared.faults.TableFault.TheVariants as tables
use Rattle.admin_text.specs.declared.line_kinds.LineKind.{LineKind}
use Rattle.admin_text.specs.declared.line_kinds.LineKind.TheVariants as kinds
use Rattle.admin_text.specs.declared.settings.Setting.{Setting}
use Rattle.admin_text.specs.declared.settings.Setting.TheVariants as settings
use Rattle.admin_text.specs.declared.table_lines.TableParts.{TableParts}
use Rattle.admin_text.proofs.OutcomeLaws.{led_ok, name_read, neither_fault, ok_same, or_fault_led, unless_ok}

-- ---- what is needed of what a line says, from the words behind the first

abbrev pub kind_in : Setting → LineKind
kind_in (settings.Node name) = kinds.Node
kind_in (settings.Listen a) = kinds.Listen
kind_in (settings.Admin a) = kinds.Admin
kind_in (settings.Socket path) = kinds.Socket
kind_in (settings.Metrics a) = kinds.Metrics
kind_in (settings.Section name) = kinds.Section
kind_in (settings.Peer p) = kinds.Peer
kind_in (settings.Table d) = kinds.Table
kind_in (settings.Size id rows) = kinds.Size
kind_in (settings.Nopurge id) = kinds.Nopurge
kind_in (settings.Log level) = kinds.Log
kind_in settings.Journal = kinds.Journal

abbrev pub Facts : List Said → List (List ℕ) → Setting → Type 0
Facts before words (settings.Node name) = (rest : List (List ℕ)) × (words ≡ name ∷ rest) × IsLabel name × (named_line before name ≡ None)
Facts before words (settings.Listen a) = IsAddress a
Facts before words (settings.Admin a) = IsAddress a × IsLocal a
Facts before words (settings.Socket path) = is_path path ≡ true
Facts before words (settings.Metrics a) = IsAddress a
Facts before words (settings.Section name) = IsLabel name
Facts before words (settings.Peer p) =
    (rest : List (List ℕ)) × (words ≡ p.name ∷ rest) × IsPeer p × (named_line before p.name ≡ None) × (peers_fault before ≡ None)
Facts before words (settings.Table d) =
    (id : List ℕ) × (rest : List (List ℕ))
    × (words ≡ id ∷ (d.name ∷ rest))
    × (from_one (number_of id (2 ^ 31 - 1)) ≡ Some d.id)
    × (is_label d.name ≡ true)
    × (place_fault before id d.name ≡ None)
Facts before words (settings.Size id rows) = (1 ≤ rows) × (rows ≤ 1000000)
Facts before words (settings.Nopurge id) = Unit {0}
Facts before words (settings.Log level) = Unit {0}
Facts before words settings.Journal = Unit {0}

abbrev pub IsFact : LineKind → List Said → List (List ℕ) → Setting → Type 0
IsFact kind before words setting = (kind_in setting ≡ kind) × Facts before words setting

-- ---- small things

pub and_parts : (a b : Bool) → (a && b) ≡ true → (a ≡ true) × (b ≡ true)
and_parts true b is = (refl, is)
and_parts false b is = absurd (cc)

label : (word : List ℕ) → is_label word ≡ true → IsLabel word
label word is = and_parts (is_name word) (may_name word) is

not_taken : (line : Option ℕ) → taken line ≡ None → line ≡ None
not_taken None is = refl
not_taken (Some line) is = absurd (cc)

-- ---- line by line

node_facts : (before : List Said) (words : List (List ℕ)) (setting : Setting) → Ok setting ≡ node_at before words
    → IsFact kinds.Node before words setting
unfolding node_at
node_facts before [] setting is = absurd (cc)
node_facts before (word ∷ []) setting is =
    let fault : List ℕ → Option Fault = λ n. option_or (repeated (line_of kinds.Node before)) (taken_name before n) in
    let (good, rest) = name_read 1 word (λ n. unless (fault n) (Ok (settings.Node n))) setting is in
    let (free, end) = unless_ok (fault word) (Ok (settings.Node word)) setting rest in
    let parts = neither_fault (repeated (line_of kinds.Node before)) (taken_name before word) free in
    subst (IsFact kinds.Node before (word ∷ [])) (sym (ok_same setting (settings.Node word) end))
    (refl, ([], refl, label word good, not_taken (named_line before word) parts.1))
node_facts before (word ∷ next ∷ words) setting is = absurd (cc)

section_facts : (before : List Said) (words : List (List ℕ)) (setting : Setting) → Ok setting ≡ section_at before words
    → IsFact kinds.Section before words setting
unfolding section_at
section_facts before [] setting is = absurd (cc)
section_facts before (word ∷ []) setting is =
    let fault = repeated (line_of kinds.Section before) in
    let (good, rest) = name_read 1 word (λ n. unless fault (Ok (settings.Section n))) setting is in
    let (free, end) = unless_ok fault (Ok (settings.Section word)) setting rest in
    subst (IsFact kinds.Section before (word ∷ [])) (sym (ok_same setting (settings.Section word) end)) (refl, label word good)
section_facts before (word ∷ next ∷ words) setting is = absurd (cc)

-- an address
address_in : (word : List ℕ) (a : SocketAddr) → IsAddressText word a → IsAddress a
address_in word a (host, port, spelled, names, number, address) = address

listen_facts : (before : List Said) (words : List (List ℕ)) (setting : Setting) → IsListenLine before words (Ok setting)
    → IsFact kinds.Listen before words setting
listen_facts before [] setting is = absurd (cc)
listen_facts before (word ∷ []) setting (inl (a, text, is)) =
    let (free, end) = unless_ok (repeated (line_of kinds.Listen before)) (Ok (settings.Listen a)) setting is in
    subst (IsFact kinds.Listen before (word ∷ [])) (sym (ok_same setting (settings.Listen a) end)) (refl, address_in word a text)
listen_facts before (word ∷ []) setting (inr (none, is)) = absurd (cc)
listen_facts before (word ∷ next ∷ words) setting is = absurd (cc)

metrics_facts : (before : List Said) (words : List (List ℕ)) (setting : Setting) → IsMetricsLine before words (Ok setting)
    → IsFact kinds.Metrics before words setting
metrics_facts before [] setting is = absurd (cc)
metrics_facts before (word ∷ []) setting (inl (a, text, is)) =
    let (free, end) = unless_ok (repeated (line_of kinds.Metrics before)) (Ok (settings.Metrics a)) setting is in
    subst (IsFact kinds.Metrics before (word ∷ [])) (sym (ok_same setting (settings.Metrics a) end)) (refl, address_in word a text)
metrics_facts before (word ∷ []) setting (inr (none, is)) = absurd (cc)
metrics_facts before (word ∷ next ∷ words) setting is = absurd (cc)

admin_facts : (before : List Said) (words : List (List ℕ)) (setting : Setting) → IsAdminLine before words (Ok setting)
    → IsFact kinds.Admin before words setting
admin_facts before [] setting is = absurd (cc)
admin_facts before (word ∷ []) setting (inl (a, text, inl (local, is))) =
    let (free, end) = unless_ok (repeated (line_of kinds.Admin before)) (Ok (settings.Admin a)) setting is in
    subst (IsFact kinds.Admin before (word ∷ [])) (sym (ok_same setting (settings.Admin a) end)) (refl, (address_in word a text, local))
admin_facts before (word ∷ []) setting (inl (a, text, inr (far, is))) = absurd (cc)
admin_facts before (word ∷ []) setting (inr (none, is)) = absurd (cc)
admin_facts before (word ∷ next ∷ words) setting is = absurd (cc)

-- a path of a socket, unless something is wrong with it
path_taken : (b c d : Bool) (e f g : Fault) → (if b then None else (if c then Some e else (if d then Some f else Some g))) ≡ None → b ≡ true
path_taken true c d e f g is = refl
path_taken false true d e f g is = absurd (cc)
path_taken false false true e f g is = absurd (cc)
path_taken false false false e f g is = absurd (cc)

good_path : (path : List ℕ) → path_fault path ≡ None → is_path path ≡ true
good_path path is =
    path_taken (is_path path) (length path == 0) (has_nul path) (faults.Path paths.Empty) (faults.Path paths.Nul)
    (faults.Path (paths.Long (length path))) is

socket_facts : (before : List Said) (words : List (List ℕ)) (setting : Setting) → Ok setting ≡ socket_at before words
    → IsFact kinds.Socket before words setting
unfolding socket_at
socket_facts before [] setting is = absurd (cc)
socket_facts before (word ∷ []) setting is =
    let path = drop 5 word in
    let again = repeated (line_of kinds.Socket before) in
    let (free, end) = unless_ok (option_or (path_fault path) again) (Ok (settings.Socket path)) setting is in
    let parts = neither_fault (path_fault path) again free in
    subst (IsFact kinds.Socket before (word ∷ [])) (sym (ok_same setting (settings.Socket path) end)) (refl, good_path path parts.0)
socket_facts before (word ∷ next ∷ words) setting is = absurd (cc)

level_facts : (before : List Said) (words : List (List ℕ)) (setting : Setting) → Ok setting ≡ level_at before words
    → IsFact kinds.Log before words setting
unfolding level_at
level_facts before [] setting is = absurd (cc)
level_facts before (word ∷ []) setting is =
    let again = repeated (line_of kinds.Log before) in
    let (level, read, rest) = or_fault_led (level_named word) faults.Level (λ l. unless again (Ok (settings.Log l))) setting is in
    let (free, end) = unless_ok again (Ok (settings.Log level)) setting rest in
    subst (IsFact kinds.Log before (word ∷ [])) (sym (ok_same setting (settings.Log level) end)) (refl, tt)
level_facts before (word ∷ next ∷ words) setting is = absurd (cc)

journal_facts : (before : List Said) (words : List (List ℕ)) (setting : Setting) → Ok setting ≡ journal_at before words
    → IsFact kinds.Journal before words setting
unfolding journal_at
journal_facts before [] setting is = absurd (cc)
journal_facts before (word ∷ []) setting is =
    let (free, end) = unless_ok (repeated (line_of kinds.Journal before)) (Ok settings.Journal) setting is in
    subst (IsFact kinds.Journal before (word ∷ [])) (sym (ok_same setting settings.Journal end)) (refl, tt)
journal_facts before (word ∷ next ∷ words) setting is = absurd (cc)

-- a number from 1
from_one_within : (digits within : Bool) (n value most : ℕ) → from_one (if digits && (within && nat_le n most) then Some n else None) ≡ Some value
    → (1 ≤ value) × (value ≤ most)
from_one_within true true n value most is = grind (arith, is)
from_one_within true false n value most is = absurd (cc)
from_one_within false within n value most is = absurd (cc)

pub number_within : (word : List ℕ) (most value : ℕ) → from_one (number_of word most) ≡ Some value → (1 ≤ value) × (value ≤ most)
number_within word most value is = from_one_within (is_without_needless_zero word) (list_all is_digit word) (digits_from 0 word) value most is

size_facts : (before : List Said) (words : List (List ℕ)) (setting : Setting) → Ok setting ≡ size_at before words
    → IsFact kinds.Size before words setting
unfolding size_at
size_facts before [] setting is = absurd (cc)
size_facts before (id ∷ []) setting is = absurd (cc)
size_facts before (id ∷ word ∷ []) setting is =
    let again = repeated (line_with kinds.Size 1 id before) in
    let of = number_of id (2 ^ 64 - 1) in
    let next : ℕ → Result Setting Fault = λ n. unless again (Ok (settings.Size of n)) in
    let (there, found) = unless_ok (no_table before id) (led_on (or_fault (from_one (number_of word 1000000)) faults.Rows) next) setting is in
    let (rows, read, rest) = or_fault_led (from_one (number_of word 1000000)) faults.Rows next setting found in
    let (free, end) = unless_ok again (Ok (settings.Size of rows)) setting rest in
    subst (IsFact kinds.Size before (id ∷ word ∷ [])) (sym (ok_same setting (settings.Size of rows) end)) (refl, number_within word 1000000 rows read)
size_facts before (id ∷ word ∷ next ∷ words) setting is = absurd (cc)

nopurge_facts : (before : List Said) (words : List (List ℕ)) (setting : Setting) → Ok setting ≡ nopurge_at before words
    → IsFact kinds.Nopurge before words setting
unfolding nopurge_at
nopurge_facts before [] setting is = absurd (cc)
nopurge_facts before (id ∷ []) setting is =
    let of = number_of id (2 ^ 64 - 1) in
    let fault = option_or (no_table before id) (repeated (line_with kinds.Nopurge 1 id before)) in
    let (free, end) = unless_ok fault (Ok (settings.Nopurge of)) setting is in
    subst (IsFact kinds.Nopurge before (id ∷ [])) (sym (ok_same setting (settings.Nopurge of) end)) (refl, tt)
nopurge_facts before (id ∷ next ∷ words) setting is = absurd (cc)

-- ---- a table

-- what was read of its parts
pub record AreParts (id name keys size : List ℕ) (parts : TableParts) : Type 0 where
  pub number : from_one (number_of id (2 ^ 31 - 1)) ≡ Some parts.id
  pub label : is_label name ≡ true
  pub keyed : keys_at keys size ≡ Ok (parts.kind, parts.key_length)

all_parts : (id name keys size : List ℕ) (parts : TableParts) (n : ℕ) (k : KeyKind × ℕ) (e : ℕ) → from_one (number_of id (2 ^ 31 - 1)) ≡ Some n
    → is_label name ≡ true → keys_at keys size ≡ Ok k → parts ≡ record { id = n; kind = k.0; key_length = k.1; expire = e }
    → AreParts id name keys size parts
all_parts id name keys size parts n k e number good keyed same =
    subst (AreParts id name keys size) (sym same) (record { number = number; label = good; keyed = keyed })

pub parts_read : (id name keys size expire : List ℕ) (parts : TableParts) → Ok parts ≡ parts_at id name keys size expire
    → AreParts id name keys size parts
parts_read id name keys size expire parts is =
    let made : ℕ → KeyKind × ℕ → ℕ → TableParts = λ n k e. record { id = n; kind = k.0; key_length = k.1; expire = e } in
    let third : ℕ → KeyKind × ℕ → Result TableParts Fault = λ n k. led_on (expire_at expire) (λ e. Ok (made n k e)) in
    let second : ℕ → Result TableParts Fault = λ n. led_on (keys_at keys size) (third n) in
    let (number, read, rest) = or_fault_led (from_one (number_of id (2 ^ 31 - 1))) (faults.Table tables.Id) (λ n. led_on (name_at 2 name) (λ l. second n)) parts is in
    let (good, more) = name_read 2 name (λ l. second number) parts rest in
    let (kind, keyed, last) = led_ok (keys_at keys size) (third number) parts more in
    let (ms, expires, end) = led_ok (expire_at expire) (λ e. Ok (made number kind e)) parts last in
    all_parts id name keys size parts number kind ms read good keyed (ok_same parts (record { id = number; kind = kind.0; key_length = kind.1; expire = ms }) end)

table_facts : (before : List Said) (words : List (List ℕ)) (setting : Setting) → Ok setting ≡ table_at before words
    → IsFact kinds.Table before words setting
unfolding table_at
table_facts before [] setting is = absurd (cc)
table_facts before (a ∷ []) setting is = absurd (cc)
table_facts before (a ∷ b ∷ []) setting is = absurd (cc)
table_facts before (a ∷ b ∷ c ∷ []) setting is = absurd (cc)
table_facts before (a ∷ b ∷ c ∷ d ∷ []) setting is = absurd (cc)
table_facts before (id ∷ word ∷ keys ∷ size ∷ expire ∷ types) setting is =
    let fault = place_fault before id word in
    let last : TableParts → List (DataType × Option ℕ) → Result Setting Fault
    = λ p es. unless fault (Ok (settings.Table (definition_with p word es))) in
    let (parts, read, rest) = led_ok (parts_at id word keys size expire) (λ p. led_on (entries_behind 6 [] types) (last p)) setting is in
    let (entries, stores, end) = led_ok (entries_behind 6 [] types) (last parts) setting rest in
    let (free, same) = unless_ok fault (Ok (settings.Table (definition_with parts word entries))) setting end in
    let facts = parts_read id word keys size expire parts (sym read) in
    subst (IsFact kinds.Table before (id ∷ word ∷ keys ∷ size ∷ expire ∷ types))
    (sym (ok_same setting (settings.Table (definition_with parts word entries)) same))
    (refl, (id, keys ∷ size ∷ expire ∷ types, refl, facts.number, facts.label, free))

-- ---- a peer

address_read : (word : Option (List ℕ)) (a : Option SocketAddr) → IsAddressIf word (Ok a) → IfSome a IsAddress
address_read None None is = tt
address_read None (Some a) is = absurd (cc)
address_read (Some word) None is = absurd is
address_read (Some word) (Some a) is = address_in word a is

peer_read : (before : List Said) (word : List ℕ) (rest : List (List ℕ)) (address : Option (List ℕ)) (networks : List (List ℕ))
    (named : Result (List ℕ) Fault) (setting : Setting) → named ≡ peer_name before word → IsPeerNamed address networks named (Ok setting)
    → IsFact kinds.Peer before (word ∷ rest) setting
peer_read before word rest address networks (Err fault) setting named is = absurd (cc)
peer_read before word rest address networks (Ok name) setting named (Err fault, addressed, is) = absurd (cc)
peer_read before word rest address networks (Ok name) setting named (Ok a, addressed, (Err fault, from, is)) = absurd (cc)
peer_read before word rest address networks (Ok name) setting named (Ok a, addressed, (Ok nets, from, (p, one, two, three, is))) =
    let fault : List ℕ → Option Fault = λ n. option_or (taken_name before n) (peers_fault before) in
    let (good, free) = name_read 1 word (λ n. unless (fault n) (Ok n)) name named in
    let (none, end) = unless_ok (fault word) (Ok word) name free in
    let parts = neither_fault (taken_name before word) (peers_fault before) none in
    let word_is : word ≡ p.name = sym (one ∙ ok_same name word end) in
    subst (IsFact kinds.Peer before (word ∷ rest)) (sym (ok_same setting (settings.Peer p) is)) (
      refl,
      (
        rest,
        ap (λ w. w ∷ rest) word_is,
        record { name = subst IsLabel word_is (label word good); address = subst (λ x. IfSome x IsAddress) (sym two) (address_read address a addressed) },
        subst (λ w. named_line before w ≡ None) word_is (not_taken (named_line before word) parts.0),
        parts.1,
      ),
    )

peer_taken : (before : List Said) (word : List ℕ) (rest : List (List ℕ)) (address : Option (List ℕ)) (networks : Option (List (List ℕ)))
    (setting : Setting) → IsPeerOf before word address networks (Ok setting) → IsFact kinds.Peer before (word ∷ rest) setting
peer_taken before word rest address None setting is = absurd (cc)
peer_taken before word rest address (Some networks) setting is = peer_read before word rest address networks (peer_name before word) setting refl is

peer_facts : (before : List Said) (words : List (List ℕ)) (setting : Setting) → IsPeerLine before words (Ok setting)
    → IsFact kinds.Peer before words setting
peer_facts before [] setting is = absurd (cc)
peer_facts before (word ∷ rest) setting is = peer_taken before word rest (address_part rest) (networks_part (source_part rest)) setting is

-- ---- any line

kind_facts : (kind : LineKind) (before : List Said) (words : List (List ℕ)) (setting : Setting) → IsLine (Some kind) before words (Ok setting)
    → IsFact kind before words setting
kind_facts kinds.Node before words setting is = node_facts before words setting is
kind_facts kinds.Listen before words setting is = listen_facts before words setting is
kind_facts kinds.Admin before words setting is = admin_facts before words setting is
kind_facts kinds.Socket before words setting is = socket_facts before words setting is
kind_facts kinds.Metrics before words setting is = metrics_facts before words setting is
kind_facts kinds.Section before words setting is = section_facts before words setting is
kind_facts kinds.Peer before words setting is = peer_facts before words setting is
kind_facts kinds.Table before words setting is = table_facts before words setting is
kind_facts kinds.Size before words setting is = size_facts before words setting is
kind_facts kinds.Nopurge before words setting is = nopurge_facts before words setting is
kind_facts kinds.Log before words setting is = level_facts before words setting is
kind_facts kinds.Journal before words setting is = journal_facts before words setting is

some_facts : (kind : Option LineKind) (before : List Said) (words : List (List ℕ)) (setting : Setting) → IsLine kind before words (Ok setting)
    → (kind ≡ Some (kind_in setting)) × Facts before words setting
some_facts None before words setting is = absurd (cc)
some_facts (Some kind) before words setting is =
    let (of, facts) = kind_facts kind before words setting is in
    (ap Some (sym of), facts)

-- what is said by a line that is taken
pub line_facts : (before : List Said) (words : List (List ℕ)) (setting : Setting) → IsRead before words (Ok setting)
    → (word : List ℕ) × (rest : List (List ℕ)) × (words ≡ word ∷ rest) × (kind_of words ≡ Some (kind_in setting)) × Facts before rest setting
unfolding IsRead
line_facts before [] setting is = absurd (cc)
line_facts before (word ∷ words) setting is =
    let facts = some_facts (kind_of (word ∷ words)) before words setting is in
    (word, words, refl, facts.0, facts.1)
