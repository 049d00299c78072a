-- What the admin port answers to HTTP requests (RFC 9110 and 9112; Prometheus, text format 0.0.4; profile).
use Rattle.std.specs.Prelude.{◌++◌, ◌==◌, ◌&&◌, ℕ, Bool, List, [], codes, if◌then◌else◌, length, nat_lt, not}
use Rattle.std.specs.Fmt.{decimal}
use Rattle.admin_port.specs.declared.pages.Extent.{Extent}
use Rattle.admin_port.specs.declared.pages.Extent.TheVariants as extents
use Rattle.admin_port.specs.declared.pages.Health.{Health}

-- ---- answers

-- what stands before a page: the status of the answer, and the type and the length of the page; the connection is closed behind it
unfoldable pub answer_head : List ℕ → List ℕ → ℕ → List ℕ
answer_head status type size =
    codes "HTTP/1.1 " ++ (status ++ (codes "\r\nContent-Type: " ++ (type ++ (codes "\r\nContent-Length: " ++ (decimal size
    ++ codes "\r\nConnection: close\r\n\r\n")))))

-- the page, or nothing if the head alone is asked for
abbrev pub extent_of : Extent → List ℕ → List ℕ
extent_of extents.Whole page = page
extent_of extents.Head page = []

-- an answer; its head is the same without the page
unfoldable pub answer : Extent → List ℕ → List ℕ → List ℕ → List ℕ
answer extent status type page = answer_head status type (length page) ++ extent_of extent page

-- ---- the metrics

abbrev pub metrics_answer : Extent → List ℕ → List ℕ
metrics_answer extent page = answer extent (codes "200 OK") (codes "text/plain; version=0.0.4") page

-- ---- health

-- there are peers, and none of them has a session
abbrev pub is_cut_off : Health → Bool
is_cut_off h = nat_lt 0 h.peers && h.peers_up == 0

-- the node is up to date, and a peer is up, if there is one
abbrev pub is_healthy : Health → Bool
is_healthy h = h.up_to_date && not (is_cut_off h)

-- why the node isn't healthy, one reason a line
abbrev pub reasons : Health → List ℕ
reasons h = (if h.up_to_date then [] else codes "not up to date\n") ++ (if is_cut_off h then codes "no peer is up\n" else [])

abbrev pub health_answer : Extent → Health → List ℕ
health_answer extent h =
    if is_healthy h then answer extent (codes "200 OK") (codes "text/plain") (codes "ok\n")
    else answer extent (codes "503 Service Unavailable") (codes "text/plain") (reasons h)

-- ---- the other pages

-- the node serves
abbrev pub ready_answer : Extent → List ℕ
ready_answer extent = answer extent (codes "200 OK") (codes "text/plain") (codes "ok\n")

-- the pages that there are
abbrev pub overview_answer : Extent → List ℕ
overview_answer extent = answer extent (codes "200 OK") (codes "text/plain") (codes "/metrics\n/health\n/ready\n")

-- ---- answers without a page

-- there is no such page
unfoldable pub missing_page : List ℕ
missing_page = codes "HTTP/1.1 404 Not Found\r\nContent-Length: 0\r\nConnection: close\r\n\r\n"

-- the method of the request is neither GET nor HEAD
unfoldable pub method_not_allowed : List ℕ
method_not_allowed = codes "HTTP/1.1 405 Method Not Allowed\r\nAllow: GET, HEAD\r\nContent-Length: 0\r\nConnection: close\r\n\r\n"

-- a line of the request is too long
unfoldable pub fields_too_large : List ℕ
fields_too_large = codes "HTTP/1.1 431 Request Header Fields Too Large\r\nContent-Length: 0\r\nConnection: close\r\n\r\n"

-- there are too many clients
unfoldable pub too_many_clients : List ℕ
too_many_clients = codes "HTTP/1.1 503 Service Unavailable\r\nRetry-After: 1\r\nContent-Length: 0\r\nConnection: close\r\n\r\n"

-- the version of the request isn't HTTP/1.x
unfoldable pub version_not_supported : List ℕ
version_not_supported = codes "HTTP/1.1 505 HTTP Version Not Supported\r\nContent-Length: 0\r\nConnection: close\r\n\r\n"
