-- Words that are no request.
use Rattle.std.proofs.Common.{◌≡◌, ◌∙◌, ◌==◌, ◌&&◌, Bool, true, false, ℕ, List, [], ◌∷◌, ◌<◌, ap, arith, length, refl, subst, sym}
use Rattle.std.specs.Prelude.{Option, codes}
use Rattle.std.specs.List.{list_all}
use Rattle.table_types.specs.declared.change.Change.{Change}
use Rattle.table_types.specs.declared.key.Key.{Key}
use Rattle.table_types.specs.Tables.{Definition}
use Rattle.node_text.specs.Changes.{IsChange}
use Rattle.node_text.specs.Words.{is_text}
use Rattle.admin_port.specs.RequestKeys.{IsNoKey}
use Rattle.admin_port.specs.RequestWords.{is_word, line_words}
use Rattle.admin_port.specs.Requests.{IsNoRequest, IsNoRequestLine, IsNoRow, IsRequest, IsRow, kind_of}
use Rattle.admin_port.specs.TableNames.{table_named}
use Rattle.admin_port.specs.declared.requests.Request.TheVariants as requests

-- ---- first words

unfoldable pub same_text : List ℕ → List ℕ → Bool
same_text [] [] = true
same_text (a ∷ one) (b ∷ other) = (a == b) && same_text one other
same_text one other = false

begins : List ℕ → List (List ℕ) → Bool
begins kind [] = false
begins kind (word ∷ words) = same_text kind word

never : true ≡ false → ⊥
never same = absurd (cc)

-- two lists of words of which only one begins with `kind`
apart : (kind : List ℕ) (one other : List (List ℕ)) → one ≡ other → begins kind one ≡ true → begins kind other ≡ false → ⊥
apart kind one other same is none = never (sym is ∙ ap (begins kind) same ∙ none)

-- ---- lines

-- a line with an empty word
pub empty_word : (section : Option (List ℕ)) (tables : List Definition) (line : List ℕ) → list_all is_word (line_words line) ≡ false
    → IsNoRequestLine section tables line
empty_word section tables line empty request (words, is) = absurd (cc)

-- a line whose words are no request
pub no_request_words : (section : Option (List ℕ)) (tables : List Definition) (line : List ℕ) (words : List (List ℕ)) → words ≡ line_words line
    → IsNoRequest section tables words → IsNoRequestLine section tables line
no_request_words section tables line words same none request (each, is) =
    none request (subst (λ ws. IsRequest section tables ws request) (sym same) is)

-- ---- words

-- no words
pub no_words : (section : Option (List ℕ)) (tables : List Definition) → IsNoRequest section tables []
no_words section tables (requests.Track id key change) (table, word, rest, same, row, is) = absurd (cc)
no_words section tables (requests.Get id key) (table, word, same, row) = absurd (cc)
no_words section tables requests.ShowTables same = absurd (cc)
no_words section tables (requests.ShowTable id) (table, same, is) = absurd (cc)
no_words section tables requests.ShowRows same = absurd (cc)
no_words section tables requests.ShowPeers same = absurd (cc)
no_words section tables requests.Stop same = absurd (cc)

-- a first word that is none of the kinds
pub no_kind : (section : Option (List ℕ)) (tables : List Definition) (kind : List ℕ) (words : List (List ℕ))
    → (kind ≡ codes "track" → ⊥) → (kind ≡ codes "get" → ⊥) → (kind ≡ codes "show" → ⊥) → (kind ≡ codes "stop" → ⊥)
    → IsNoRequest section tables (kind ∷ words)
no_kind section tables kind words track get show stop (requests.Track id key change) (table, word, rest, same, row, is) = track (cc)
no_kind section tables kind words track get show stop (requests.Get id key) (table, word, same, row) = get (cc)
no_kind section tables kind words track get show stop requests.ShowTables same = show (cc)
no_kind section tables kind words track get show stop (requests.ShowTable id) (table, same, is) = show (cc)
no_kind section tables kind words track get show stop requests.ShowRows same = show (cc)
no_kind section tables kind words track get show stop requests.ShowPeers same = show (cc)
no_kind section tables kind words track get show stop requests.Stop same = stop (cc)

-- ---- kinds

-- `track`, unless its words write a table, a key of it, and a change
no_track : (section : Option (List ℕ)) (tables : List Definition) (table word : List ℕ) (rest : List (List ℕ))
    → ((id : Option ℕ) (key : Key) → IsRow section tables table word id key → (change : Change) → IsChange rest change → ⊥)
    → IsNoRequest section tables (codes "track" ∷ table ∷ word ∷ rest)
unfolding begins same_text
no_track section tables table word rest none (requests.Track id key change) (named, written, others, same, row, is) =
    let one : named ≡ table = cc in
    let two : written ≡ word = cc in
    let three : others ≡ rest = cc in
    none id key (subst (λ w. IsRow section tables table w id key) two (subst (λ t. IsRow section tables t written id key) one row)) change
    (subst (λ ws. IsChange ws change) three is)
no_track section tables table word rest none (requests.Get id key) (named, written, same, row) = apart (codes "track") _ _ same refl refl
no_track section tables table word rest none requests.ShowTables same = apart (codes "track") _ _ same refl refl
no_track section tables table word rest none (requests.ShowTable id) (named, same, is) = apart (codes "track") _ _ same refl refl
no_track section tables table word rest none requests.ShowRows same = apart (codes "track") _ _ same refl refl
no_track section tables table word rest none requests.ShowPeers same = apart (codes "track") _ _ same refl refl
no_track section tables table word rest none requests.Stop same = apart (codes "track") _ _ same refl refl

-- `track`, with a table and a key that are none
pub no_row_to_track : (section : Option (List ℕ)) (tables : List Definition) (table word : List ℕ) (rest : List (List ℕ))
    → IsNoRow section tables table word
    → IsNoRequest section tables (codes "track" ∷ table ∷ word ∷ rest)
unfolding IsNoRow
no_row_to_track section tables table word rest none = no_track section tables table word rest (λ id key row change is. none id key row)

-- `track`, with words that are no change
pub no_change_to_track : (section : Option (List ℕ)) (tables : List Definition) (table word : List ℕ) (rest : List (List ℕ))
    → ((change : Change) → IsChange rest change → ⊥)
    → IsNoRequest section tables (codes "track" ∷ table ∷ word ∷ rest)
no_change_to_track section tables table word rest none = no_track section tables table word rest (λ id key row. none)

-- `get`, with a table and a key that are none
pub no_get : (section : Option (List ℕ)) (tables : List Definition) (table word : List ℕ)
    → IsNoRow section tables table word
    → IsNoRequest section tables (codes "get" ∷ table ∷ word ∷ [])
unfolding begins same_text IsNoRow
no_get section tables table word none (requests.Track id key change) (named, written, others, same, row, is) = apart (codes "get") _ _ same refl refl
no_get section tables table word none (requests.Get id key) (named, written, same, row) =
    let one : named ≡ table = cc in
    let two : written ≡ word = cc in
    none id key (subst (λ w. IsRow section tables table w id key) two (subst (λ t. IsRow section tables t written id key) one row))
no_get section tables table word none requests.ShowTables same = apart (codes "get") _ _ same refl refl
no_get section tables table word none (requests.ShowTable id) (named, same, is) = apart (codes "get") _ _ same refl refl
no_get section tables table word none requests.ShowRows same = apart (codes "get") _ _ same refl refl
no_get section tables table word none requests.ShowPeers same = apart (codes "get") _ _ same refl refl
no_get section tables table word none requests.Stop same = apart (codes "get") _ _ same refl refl

-- `show`, with more words than two or none
pub other_to_show : (section : Option (List ℕ)) (tables : List Definition) (words : List (List ℕ)) → (length words == 1) ≡ false → (length words == 2) ≡ false
    → IsNoRequest section tables (codes "show" ∷ words)
unfolding begins same_text
other_to_show section tables words one two (requests.Track id key change) (named, written, others, same, row, is) = apart (codes "show") _ _ same refl refl
other_to_show section tables words one two (requests.Get id key) (named, written, same, row) = apart (codes "show") _ _ same refl refl
other_to_show section tables words one two requests.ShowTables same = let all : words ≡ codes "table" ∷ [] = cc in never (ap (λ ws. length ws == 1) (sym all) ∙ one)
other_to_show section tables words one two (requests.ShowTable id) (named, same, (text, is)) = let all : words ≡ codes "table" ∷ named ∷ [] = cc in never (ap (λ ws. length ws == 2) (sym all) ∙ two)
other_to_show section tables words one two requests.ShowRows same = let all : words ≡ codes "rows" ∷ [] = cc in never (ap (λ ws. length ws == 1) (sym all) ∙ one)
other_to_show section tables words one two requests.ShowPeers same = let all : words ≡ codes "peers" ∷ [] = cc in never (ap (λ ws. length ws == 1) (sym all) ∙ one)
other_to_show section tables words one two requests.Stop same = apart (codes "show") _ _ same refl refl

-- `show`, with a word that says nothing that is shown
pub no_show_word : (section : Option (List ℕ)) (tables : List Definition) (word : List ℕ) → (word ≡ codes "table" → ⊥) → (word ≡ codes "rows" → ⊥) → (word ≡ codes "peers" → ⊥)
    → IsNoRequest section tables (codes "show" ∷ word ∷ [])
unfolding begins same_text
no_show_word section tables word all rows peers (requests.Track id key change) (named, written, others, same, row, is) = apart (codes "show") _ _ same refl refl
no_show_word section tables word all rows peers (requests.Get id key) (named, written, same, row) = apart (codes "show") _ _ same refl refl
no_show_word section tables word all rows peers requests.ShowTables same = all (cc)
no_show_word section tables word all rows peers (requests.ShowTable id) (named, same, (text, is)) = never (ap (λ ws. length ws == 3) (sym same))
no_show_word section tables word all rows peers requests.ShowRows same = rows (cc)
no_show_word section tables word all rows peers requests.ShowPeers same = peers (cc)
no_show_word section tables word all rows peers requests.Stop same = apart (codes "show") _ _ same refl refl

-- `show`, with two words that name no table
pub no_show_table : (section : Option (List ℕ)) (tables : List Definition) (word table : List ℕ) → (word ≡ codes "table" → is_text table ≡ true → ⊥)
    → IsNoRequest section tables (codes "show" ∷ word ∷ table ∷ [])
unfolding begins same_text
no_show_table section tables word table none (requests.Track id key change) (named, written, others, same, row, is) = apart (codes "show") _ _ same refl refl
no_show_table section tables word table none (requests.Get id key) (named, written, same, row) = apart (codes "show") _ _ same refl refl
no_show_table section tables word table none requests.ShowTables same = never (ap (λ ws. length ws == 3) same)
no_show_table section tables word table none (requests.ShowTable id) (named, same, (text, is)) = let own : named ≡ table = cc in none (cc) (subst (λ t. is_text t ≡ true) own text)
no_show_table section tables word table none requests.ShowRows same = never (ap (λ ws. length ws == 3) same)
no_show_table section tables word table none requests.ShowPeers same = never (ap (λ ws. length ws == 3) same)
no_show_table section tables word table none requests.Stop same = apart (codes "show") _ _ same refl refl

-- `track`, with fewer than two words
pub few_to_track : (section : Option (List ℕ)) (tables : List Definition) (words : List (List ℕ)) → length words < 2
    → IsNoRequest section tables (codes "track" ∷ words)
unfolding begins same_text
few_to_track section tables words few (requests.Track id key change) (named, written, others, same, row, is) = let all : words ≡ named ∷ written ∷ others = cc in absurd (let count = ap length all in omega (arith, count, few))
few_to_track section tables words few (requests.Get id key) (named, written, same, row) = apart (codes "track") _ _ same refl refl
few_to_track section tables words few requests.ShowTables same = apart (codes "track") _ _ same refl refl
few_to_track section tables words few (requests.ShowTable id) (named, same, is) = apart (codes "track") _ _ same refl refl
few_to_track section tables words few requests.ShowRows same = apart (codes "track") _ _ same refl refl
few_to_track section tables words few requests.ShowPeers same = apart (codes "track") _ _ same refl refl
few_to_track section tables words few requests.Stop same = apart (codes "track") _ _ same refl refl

-- `get`, with more words than two or fewer
pub other_to_get : (section : Option (List ℕ)) (tables : List Definition) (words : List (List ℕ)) → (length words == 2) ≡ false
    → IsNoRequest section tables (codes "get" ∷ words)
unfolding begins same_text
other_to_get section tables words count (requests.Track id key change) (named, written, others, same, row, is) = apart (codes "get") _ _ same refl refl
other_to_get section tables words count (requests.Get id key) (named, written, same, row) = let all : words ≡ named ∷ written ∷ [] = cc in never (ap (λ ws. length ws == 2) (sym all) ∙ count)
other_to_get section tables words count requests.ShowTables same = apart (codes "get") _ _ same refl refl
other_to_get section tables words count (requests.ShowTable id) (named, same, is) = apart (codes "get") _ _ same refl refl
other_to_get section tables words count requests.ShowRows same = apart (codes "get") _ _ same refl refl
other_to_get section tables words count requests.ShowPeers same = apart (codes "get") _ _ same refl refl
other_to_get section tables words count requests.Stop same = apart (codes "get") _ _ same refl refl

-- `stop`, with words
pub some_to_stop : (section : Option (List ℕ)) (tables : List Definition) (words : List (List ℕ)) → (length words == 0) ≡ false
    → IsNoRequest section tables (codes "stop" ∷ words)
unfolding begins same_text
some_to_stop section tables words count (requests.Track id key change) (named, written, others, same, row, is) = apart (codes "stop") _ _ same refl refl
some_to_stop section tables words count (requests.Get id key) (named, written, same, row) = apart (codes "stop") _ _ same refl refl
some_to_stop section tables words count requests.ShowTables same = apart (codes "stop") _ _ same refl refl
some_to_stop section tables words count (requests.ShowTable id) (named, same, is) = apart (codes "stop") _ _ same refl refl
some_to_stop section tables words count requests.ShowRows same = apart (codes "stop") _ _ same refl refl
some_to_stop section tables words count requests.ShowPeers same = apart (codes "stop") _ _ same refl refl
some_to_stop section tables words count requests.Stop same = let all : words ≡ [] = cc in never (ap (λ ws. length ws == 0) (sym all) ∙ count)

-- ---- rows

-- a text that names a table, and a word that is no key of it
pub no_key : (section : Option (List ℕ)) (tables : List Definition) (table word : List ℕ)
    → IsNoKey (kind_of (table_named section tables table)) word
    → IsNoRow section tables table word
unfolding IsNoKey IsNoRow
no_key section tables table word none id key ((text, is), written) = none key written

-- a word that names no table
pub no_text : (section : Option (List ℕ)) (tables : List Definition) (table word : List ℕ) → is_text table ≡ false
    → IsNoRow section tables table word
unfolding IsNoRow
no_text section tables table word none id key ((text, is), written) = absurd (cc)
