-- What a request's line says (profile).
use Rattle.std.specs.Prelude.{◌≡◌, ℕ, true, List, [], ◌∷◌, Option, Some, None, codes, option_map}
use Rattle.std.specs.List.{list_all}
use Rattle.table_types.specs.declared.key.Key.{Key}
use Rattle.table_types.specs.declared.key.KeyKind.{KeyKind}
use Rattle.table_types.specs.declared.key.KeyKind.TheVariants as kinds
use Rattle.table_types.specs.Tables.{Definition}
use Rattle.node_text.specs.Changes.{IsChange}
use Rattle.node_text.specs.Words.{is_text}
use Rattle.admin_port.specs.RequestKeys.{IsKey}
use Rattle.admin_port.specs.RequestWords.{is_word, line_words}
use Rattle.admin_port.specs.TableNames.{table_named}
use Rattle.admin_port.specs.declared.requests.Request.{Request}
use Rattle.admin_port.specs.declared.requests.Request.TheVariants as requests

-- ---- tables and keys

-- the id of a table, if it is there
abbrev pub id_of : Option Definition → Option ℕ
id_of table = option_map (λ t. t.id) table

-- the kind of a table's keys; one that isn't there is taken to have bytes, so that no key of another kind is refused
abbrev pub kind_of : Option Definition → KeyKind
kind_of None = kinds.Binary
kind_of (Some table) = table.kind

-- a text that names this table, or none that is there
abbrev pub IsTable : Option (List ℕ) → List Definition → List ℕ → Option ℕ → Type 0
IsTable section tables word id = (is_text word ≡ true) × (id ≡ id_of (table_named section tables word))

-- a table, and a key as a script of that table has it, or an address
abbrev pub IsRow : Option (List ℕ) → List Definition → List ℕ → List ℕ → Option ℕ → Key → Type 0
IsRow section tables table word id key =
    IsTable section tables table id × IsKey (kind_of (table_named section tables table)) word key

-- ---- requests

-- the words of a request
abbrev pub IsRequest : Option (List ℕ) → List Definition → List (List ℕ) → Request → Type 0
IsRequest section tables words (requests.Track id key change) =
    (table word : List ℕ) × (rest : List (List ℕ)) × (words ≡ codes "track" ∷ table ∷ word ∷ rest)
    × IsRow section tables table word id key × IsChange rest change
IsRequest section tables words (requests.Get id key) =
    (table word : List ℕ) × (words ≡ codes "get" ∷ table ∷ word ∷ []) × IsRow section tables table word id key
IsRequest section tables words requests.ShowTables = words ≡ codes "show" ∷ codes "table" ∷ []
IsRequest section tables words (requests.ShowTable id) =
    (table : List ℕ) × (words ≡ codes "show" ∷ codes "table" ∷ table ∷ []) × IsTable section tables table id
IsRequest section tables words requests.ShowRows = words ≡ codes "show" ∷ codes "rows" ∷ []
IsRequest section tables words requests.ShowPeers = words ≡ codes "show" ∷ codes "peers" ∷ []
IsRequest section tables words requests.Stop = words ≡ codes "stop" ∷ []

-- the line of a request: words with one space between them
abbrev pub IsRequestLine : Option (List ℕ) → List Definition → List ℕ → Request → Type 0
IsRequestLine section tables line request =
    (list_all is_word (line_words line) ≡ true) × IsRequest section tables (line_words line) request

-- ---- lines that are no requests

-- no table with a key of it
unfoldable pub IsNoRow : Option (List ℕ) → List Definition → List ℕ → List ℕ → Type 0
IsNoRow section tables table word = (id : Option ℕ) (key : Key) → IsRow section tables table word id key → ⊥

-- the words write no request
abbrev pub IsNoRequest : Option (List ℕ) → List Definition → List (List ℕ) → Type 0
IsNoRequest section tables words = (request : Request) → IsRequest section tables words request → ⊥

-- the line of no request
abbrev pub IsNoRequestLine : Option (List ℕ) → List Definition → List ℕ → Type 0
IsNoRequestLine section tables line = (request : Request) → IsRequestLine section tables line request → ⊥
