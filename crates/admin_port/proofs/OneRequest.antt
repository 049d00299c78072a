-- The request that words write.
use Rattle.std.proofs.Common.{◌≡◌, ◌∙◌, ◌-◌, ◌^◌, ℕ, IfSome, List, [], ◌∷◌, Option, Some, None, ap, ap₂, if◌then◌else◌, inl, inr, option_map, refl, subst, sym}
use Rattle.std.proofs.NetLemmas.Theorems.{IsIpText_unique}
use Rattle.std.specs.Prelude.{codes}
use Rattle.table_types.specs.declared.change.Change.{Change}
use Rattle.table_types.specs.declared.change.Change.TheVariants as changes
use Rattle.table_types.specs.declared.data_type.DataType.{DataType}
use Rattle.table_types.specs.declared.data_type.DataType.TheVariants.{ServerId, Gpt0, Gpc0, Gpc0Rate, ConnCnt, ConnRate, ConnCur, SessCnt, SessRate, HttpReqCnt, HttpReqRate, HttpErrCnt, HttpErrRate, BytesInCnt, BytesInRate, BytesOutCnt, BytesOutRate, Gpc1, Gpc1Rate, ServerKey}
use Rattle.table_types.specs.DataTypes.{all_types, name_of}
use Rattle.table_types.specs.declared.key.Key.{Key}
use Rattle.table_types.specs.declared.key.Key.TheVariants as keys
use Rattle.table_types.specs.declared.key.KeyKind.{KeyKind}
use Rattle.table_types.specs.Tables.{Definition}
use Rattle.node_text.specs.Changes.{IsChange}
use Rattle.node_text.specs.Names.{may_name}
use Rattle.node_text.specs.Numbers.{number_of}
use Rattle.admin_port.specs.RequestKeys.{IsKey, key_of_ip}
use Rattle.admin_port.specs.Requests.{IsRequest, IsRequestLine, id_of, kind_of}
use Rattle.admin_port.specs.RequestWords.{line_words}
use Rattle.admin_port.specs.TableNames.{table_named}
use Rattle.admin_port.specs.declared.requests.Request.{Request}
use Rattle.admin_port.specs.declared.requests.Request.TheVariants as requests
use Rattle.admin_port.proofs.NoRequests.{same_text}

-- what two parts make, if both are there
both : {A B C : Type 0} → (A → B → C) → Option A → Option B → Option C
both f None second = None
both f (Some a) None = None
both f (Some a) (Some b) = Some (f a b)

-- ---- changes

-- the first data type with this name
first_named : List ℕ → List DataType → Option DataType
first_named word [] = None
first_named word (t ∷ ts) = if same_text (name_of t) word then Some t else first_named word ts

named : (t : DataType) → first_named (name_of t) all_types ≡ Some t
unfolding first_named same_text
named ServerId = refl
named Gpt0 = refl
named Gpc0 = refl
named Gpc0Rate = refl
named ConnCnt = refl
named ConnRate = refl
named ConnCur = refl
named SessCnt = refl
named SessRate = refl
named HttpReqCnt = refl
named HttpReqRate = refl
named HttpErrCnt = refl
named HttpErrRate = refl
named BytesInCnt = refl
named BytesInRate = refl
named BytesOutCnt = refl
named BytesOutRate = refl
named Gpc1 = refl
named Gpc1Rate = refl
named ServerKey = refl

number_change : (DataType → ℕ → Change) → ℕ → List (List ℕ) → Option Change
number_change change most [] = None
number_change change most (type ∷ []) = None
number_change change most (type ∷ word ∷ rest) = both change (first_named type all_types) (number_of word most)

name_change : List (List ℕ) → Option Change
name_change [] = None
name_change (word ∷ rest) = Some (changes.SetName (if may_name word then Some word else None))

change_of : List (List ℕ) → Option Change
change_of [] = None
change_of (kind ∷ words) =
    if same_text kind (codes "add") then number_change changes.Add (2 ^ 64 - 1) words
    else if same_text kind (codes "take") then number_change changes.Take (2 ^ 64 - 1) words
    else if same_text kind (codes "put") then number_change changes.Put (2 ^ 64 - 1) words
    else if same_text kind (codes "rate") then number_change changes.AddRate (2 ^ 32 - 1) words
    else name_change words

is_change_of : (words : List (List ℕ)) (change : Change) → IsChange words change → change_of words ≡ Some change
unfolding both change_of name_change number_change same_text
is_change_of words (changes.Add t number) (word, same, is) = ap change_of same ∙ ap₂ (both changes.Add) (named t) is
is_change_of words (changes.Take t number) (word, same, is) = ap change_of same ∙ ap₂ (both changes.Take) (named t) is
is_change_of words (changes.Put t number) (word, same, is) = ap change_of same ∙ ap₂ (both changes.Put) (named t) is
is_change_of words (changes.AddRate t number) (word, same, is) = ap change_of same ∙ ap₂ (both changes.AddRate) (named t) is
is_change_of words (changes.SetName None) same = ap change_of same
is_change_of words (changes.SetName (Some name)) (same, is, may) =
    ap change_of same ∙ ap (λ own. Some (changes.SetName (if own then Some name else None))) may

-- ---- keys

-- a word writes one key
one_key : (kind : KeyKind) (word : List ℕ) (one other : Key) → IsKey kind word one → IsKey kind word other → one ≡ other
one_key kind word one other (inl is) (inl is_too) = cc
one_key kind word one other (inl is) (inr (none, is_too)) = absurd (cc)
one_key kind word one other (inr (none, is)) (inl is_too) = absurd (cc)
one_key kind word one other (inr (none, (ip, writes, own))) (inr (none_too, (ip_too, writes_too, own_too))) =
    own ∙ ap key_of_ip (IsIpText_unique word ip ip_too writes writes_too) ∙ sym own_too

-- the third of the words writes this key of the table that the second one names
WritesKey : Option (List ℕ) → List Definition → List (List ℕ) → Key → Type 0
WritesKey section tables [] key = ⊥
WritesKey section tables (kind ∷ []) key = ⊥
WritesKey section tables (kind ∷ table ∷ []) key = ⊥
WritesKey section tables (kind ∷ table ∷ word ∷ rest) key = IsKey (kind_of (table_named section tables table)) word key

same_key : (section : Option (List ℕ)) (tables : List Definition) (words : List (List ℕ)) (one other : Key)
    → WritesKey section tables words one → WritesKey section tables words other → one ≡ other
unfolding WritesKey
same_key section tables [] one other is is_too = absurd is
same_key section tables (kind ∷ []) one other is is_too = absurd is
same_key section tables (kind ∷ table ∷ []) one other is is_too = absurd is
same_key section tables (kind ∷ table ∷ word ∷ rest) one other is is_too =
    one_key (kind_of (table_named section tables table)) word one other is is_too

-- the key that a request has
key_in : Request → Option Key
key_in (requests.Track id key change) = Some key
key_in (requests.Get id key) = Some key
key_in requests.ShowTables = None
key_in (requests.ShowTable id) = None
key_in requests.ShowRows = None
key_in requests.ShowPeers = None
key_in requests.Stop = None

writes_key : (section : Option (List ℕ)) (tables : List Definition) (words : List (List ℕ)) (request : Request)
    → IsRequest section tables words request → IfSome (key_in request) (WritesKey section tables words)
unfolding WritesKey key_in
writes_key section tables words (requests.Track id key change) (table, word, rest, same, (is, written), changes) =
    subst (λ ws. WritesKey section tables ws key) (sym same) written
writes_key section tables words (requests.Get id key) (table, word, same, (is, written)) =
    subst (λ ws. WritesKey section tables ws key) (sym same) written
writes_key section tables words requests.ShowTables same = tt
writes_key section tables words (requests.ShowTable id) is = tt
writes_key section tables words requests.ShowRows same = tt
writes_key section tables words requests.ShowPeers same = tt
writes_key section tables words requests.Stop same = tt

-- the first key, or else the other, or else any
first_of : Option Key → Option Key → Key
first_of (Some key) other = key
first_of None (Some key) = key
first_of None None = keys.Int 0

same_first : (section : Option (List ℕ)) (tables : List Definition) (words : List (List ℕ)) (one other : Option Key)
    → IfSome one (WritesKey section tables words) → IfSome other (WritesKey section tables words) → first_of one other ≡ first_of other one
unfolding first_of
same_first section tables words (Some key) (Some other) is is_too = same_key section tables words key other is is_too
same_first section tables words (Some key) None is is_too = refl
same_first section tables words None (Some other) is is_too = refl
same_first section tables words None None is is_too = refl

-- ---- requests, but for their keys

track_of : Key → Option (List ℕ) → List Definition → List (List ℕ) → Option Request
track_of key section tables [] = None
track_of key section tables (table ∷ []) = None
track_of key section tables (table ∷ word ∷ rest) =
    option_map (requests.Track (id_of (table_named section tables table)) key) (change_of rest)

get_of : Key → Option (List ℕ) → List Definition → List (List ℕ) → Option Request
get_of key section tables [] = None
get_of key section tables (table ∷ rest) = Some (requests.Get (id_of (table_named section tables table)) key)

show_of : Option (List ℕ) → List Definition → List (List ℕ) → Option Request
show_of section tables [] = None
show_of section tables (word ∷ []) =
    if same_text word (codes "table") then Some requests.ShowTables
    else if same_text word (codes "rows") then Some requests.ShowRows
    else Some requests.ShowPeers
show_of section tables (word ∷ table ∷ rest) = Some (requests.ShowTable (id_of (table_named section tables table)))

-- the request that the words write, if this is the key that they write
request_of : Key → Option (List ℕ) → List Definition → List (List ℕ) → Option Request
request_of key section tables [] = None
request_of key section tables (kind ∷ words) =
    if same_text kind (codes "track") then track_of key section tables words
    else if same_text kind (codes "get") then get_of key section tables words
    else if same_text kind (codes "show") then show_of section tables words
    else if same_text kind (codes "stop") then Some requests.Stop
    else None

is_request_of : (section : Option (List ℕ)) (tables : List Definition) (words : List (List ℕ)) (request : Request) (other : Option Key)
    → IsRequest section tables words request → request_of (first_of (key_in request) other) section tables words ≡ Some request
unfolding first_of get_of key_in request_of same_text show_of track_of
is_request_of section tables words (requests.Track id key change) other (table, word, rest, same, ((text, own), written), is) =
    ap (request_of key section tables) same
    ∙ ap (option_map (requests.Track (id_of (table_named section tables table)) key)) (is_change_of rest change is)
    ∙ ap (λ i. Some (requests.Track i key change)) (sym own)
is_request_of section tables words (requests.Get id key) other (table, word, same, ((text, own), written)) =
    ap (request_of key section tables) same ∙ ap (λ i. Some (requests.Get i key)) (sym own)
is_request_of section tables words requests.ShowTables other same = ap (request_of (first_of None other) section tables) same
is_request_of section tables words (requests.ShowTable id) other (table, same, (text, own)) =
    ap (request_of (first_of None other) section tables) same ∙ ap (λ i. Some (requests.ShowTable i)) (sym own)
is_request_of section tables words requests.ShowRows other same = ap (request_of (first_of None other) section tables) same
is_request_of section tables words requests.ShowPeers other same = ap (request_of (first_of None other) section tables) same
is_request_of section tables words requests.Stop other same = ap (request_of (first_of None other) section tables) same

-- a line writes one request
pub one_request : (section : Option (List ℕ)) (tables : List Definition) (line : List ℕ) (one other : Request)
    → IsRequestLine section tables line one → IsRequestLine section tables line other → one ≡ other
one_request section tables line one other (words, is) (words_too, is_too) =
    let written = line_words line in
    let first = is_request_of section tables written one (key_in other) is in
    let second = is_request_of section tables written other (key_in one) is_too in
    let same =
    same_first section tables written (key_in one) (key_in other) (writes_key section tables written one is)
    (writes_key section tables written other is_too) in
    let both_are = sym first ∙ ap (λ key. request_of key section tables written) same ∙ second in
    cc
