-- What an HTTP request asks for, as its first line says (RFC 9112, section 3; profile).
use Rattle.std.specs.Prelude.{◌==◌, ◌&&◌, ◌||◌, ℕ, Bool, false, List, [], ◌∷◌, None, Option, Some, codes, drop, if◌then◌else◌, is_some, nat_eq, option_and_then, option_map, take}
use Rattle.std.specs.List.{starts_with}
use Rattle.table_types.specs.Rosters.{is_same_name}
use Rattle.node_text.specs.Numbers.{is_digit}
use Rattle.admin_port.specs.RequestWords.{is_word, line_words}
use Rattle.admin_port.specs.declared.http_requests.HttpRequest.{HttpRequest}
use Rattle.admin_port.specs.declared.http_requests.HttpRequest.TheVariants as requests
use Rattle.admin_port.specs.declared.http_requests.Page.{Page}
use Rattle.admin_port.specs.declared.http_requests.Page.TheVariants as pages

-- ---- versions

-- it begins with `HTTP/`
abbrev pub is_http : List ℕ → Bool
is_http version = starts_with nat_eq version (codes "HTTP/")

-- a digit; a CR (13) may end it
abbrev pub is_minor : List ℕ → Bool
is_minor (digit ∷ []) = is_digit digit
is_minor (digit ∷ end ∷ []) = is_digit digit && end == 13
is_minor word = false

-- `HTTP/1.` and a digit
abbrev pub is_http_1 : List ℕ → Bool
is_http_1 version = is_same_name (take 7 version) (codes "HTTP/1.") && is_minor (drop 7 version)

-- ---- targets

-- the target up to its query, which begins with `?` (63)
abbrev pub path_of : List ℕ → List ℕ
path_of [] = []
path_of (byte ∷ rest) = if byte == 63 then [] else byte ∷ path_of rest

-- the page at a path
abbrev pub page_at : List ℕ → Page
page_at path =
    if is_same_name path (codes "/metrics") then pages.Metrics
    else (if is_same_name path (codes "/health") then pages.Health
    else (if is_same_name path (codes "/ready") then pages.Ready
    else (if is_same_name path (codes "/") then pages.Overview else pages.Missing)))

-- ---- requests

-- the request, unless its version isn't HTTP/1.x
abbrev pub in_version : List ℕ → HttpRequest → HttpRequest
in_version version request = if is_http_1 version then request else requests.OtherVersion

-- what a request with this method asks for: GET a page, HEAD the head of the same answer
abbrev pub asked : List ℕ → List ℕ → List ℕ → HttpRequest
asked method target version =
    if is_same_name method (codes "GET") then in_version version (requests.Get (page_at (path_of target)))
    else (if is_same_name method (codes "HEAD") then in_version version (requests.Head (page_at (path_of target))) else requests.OtherMethod)

-- three words of which the last begins with `HTTP/` are an HTTP request: its method, its target and its version
abbrev pub http_request_of : List (List ℕ) → Option HttpRequest
http_request_of (method ∷ target ∷ version ∷ []) =
    if is_word method && (is_word target && is_http version) then Some (asked method target version) else None
http_request_of words = None

-- the HTTP request whose first line this is
abbrev pub http_request : List ℕ → Option HttpRequest
http_request line = http_request_of (line_words line)

-- the line, which may go on, begins as that of a request for a page
abbrev pub asks_for_page : List ℕ → Bool
asks_for_page line = starts_with nat_eq line (codes "GET ") || starts_with nat_eq line (codes "HEAD ")

-- the bytes before the first LF (10), if there is one
abbrev pub first_line : List ℕ → Option (List ℕ)
first_line [] = None
first_line (byte ∷ rest) = if byte == 10 then Some [] else option_map (λ line. byte ∷ line) (first_line rest)

-- the first line is whole, and that of an HTTP request
abbrev pub begins_http : List ℕ → Bool
begins_http bytes = is_some (option_and_then http_request (first_line bytes))
