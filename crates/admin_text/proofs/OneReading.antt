-- A line is read in one way, so what has no fault is never refused.
use Rattle.std.proofs.Common.{◌≡◌, ◌∙◌, ◌≤◌, ◌-◌, ◌==◌, ◌&&◌, ◌++◌, Bool, ap, false, inl, inr, arith, length, List, [], ◌∷◌, refl, subst, suc, sym, take, true, true≢false, zero, ℕ}
use Rattle.std.specs.Prelude.{◌⊎◌, Err, None, Ok, Option, Result, Some, filter, if◌then◌else◌, is_none, is_some, not}
use Rattle.std.specs.Net.Addr.{HasPrefix, IsLoopbackV4, IsLoopbackV6, MatchIp, ipv4_octets, ipv6_segments}
use Rattle.std.specs.Net.Grammar.{IsColonHex}
use Rattle.std.specs.Net.Socket.{socket_ip, socket_port}
use Rattle.std.specs.declared.net.ip_addr.IpAddr.{IpAddr}
use Rattle.std.specs.declared.net.ip_addr.IpAddr.TheVariants as ips
use Rattle.std.specs.declared.net.socket_addr.SocketAddr.{SocketAddr}
use Rattle.std.proofs.lemmas.Bool.{eqb-true, ne_eqb, not-false}
use Rattle.std.proofs.lemmas.List.{append-nil, append_cancel_right}
use Rattle.admin_text.specs.Addresses.{IsAddressText, IsHostText, IsLocal}
use Rattle.admin_text.specs.Lines.{IsAdmin, IsAdminLine, IsLine, IsListenLine, IsMetricsLine, IsRead}
use Rattle.admin_text.specs.LineKinds.{kind_of}
use Rattle.admin_text.specs.Networks.{AreNetworkTexts, IsNetworkText}
use Rattle.admin_text.specs.Outcomes.{fault_in, unless}
use Rattle.admin_text.specs.PeerLines.{AreNetworks, IsAddressIf, IsPeerAt, IsPeerLine, IsPeerNamed, IsPeerOf, IsPeerWith, ReadsAddress, address_part, first_network, networks_part, peer_name, repeated, source_part}
use Rattle.admin_text.specs.Before.{line_of}
use Rattle.admin_text.specs.Readings.{AreRead}
use Rattle.admin_text.specs.Refusals.{AreFaults, AreFaultsOf, IsFaultless, IsRefusalOf, is_lacking, lacking_of, listed, names_fault, refuses_meant}
use Rattle.admin_text.specs.SoFar.{HasNeeded, is_whole}
use Rattle.admin_text.specs.Statements.{Said}
use Rattle.admin_text.specs.declared.faults.Fault.{Fault}
use Rattle.admin_text.specs.declared.faults.Fault.TheVariants as faults
use Rattle.admin_text.specs.declared.faults.FaultyLine.{FaultyLine}
use Rattle.admin_text.specs.declared.line_kinds.LineKind.{LineKind}
use Rattle.admin_text.specs.declared.line_kinds.LineKind.TheVariants as kinds
use Rattle.admin_text.specs.declared.networks.Network.{Network}
use Rattle.admin_text.specs.declared.readings.Reading.{Reading}
use Rattle.admin_text.specs.declared.refusals.Refusal.{Refusal}
use Rattle.admin_text.specs.declared.settings.Setting.{Setting}
use Rattle.admin_text.specs.declared.settings.Setting.TheVariants as settings
use Rattle.admin_text.specs.declared.so_far.ConfigurationSoFar.{ConfigurationSoFar}
use Rattle.admin_text.proofs.AddressTexts.{dotted_alone, last_apart, no_colon, one_colon_hex, one_dotted}
use Rattle.admin_text.proofs.LineFacts.{and_parts}
use Rattle.admin_text.proofs.RefusalLaws.{refuses_none}

-- ---- a host is one address

local_host : (text : List ℕ) (one other : IpAddr) → IsHostText text one → IsHostText text other → MatchIp one IsLoopbackV4 IsLoopbackV6
    → MatchIp other IsLoopbackV4 IsLoopbackV6
local_host text (ips.V4 one) (ips.V4 other) is also local =
    subst (λ octets. HasPrefix octets (127 ∷ [])) (one_dotted text (ipv4_octets one) (ipv4_octets other) is also) local
local_host text (ips.V4 one) (ips.V6 other) is (inner, same, also) local = absurd (dotted_alone text inner one same is)
local_host text (ips.V6 one) (ips.V4 other) (inner, same, is) also local = absurd (dotted_alone text inner other same also)
local_host text (ips.V6 one) (ips.V6 other) (inner, same, is) (second, too, also) local =
    let tails : second ++ 93 ∷ [] ≡ inner ++ 93 ∷ [] = cc in
    let first = append_cancel_right second inner (93 ∷ []) tails in
    one_colon_hex inner (ipv6_segments other) (ipv6_segments one) (subst (λ t. IsColonHex t (ipv6_segments other)) first also) is ∙ local

one_local : (word : List ℕ) (a b : SocketAddr) → IsAddressText word a → IsAddressText word b → IsLocal a → IsLocal b
one_local word a b (h, p, cut, names, number, ranges) (host, port, spelled, names_too, number_too, ranges_too) local =
    let parts = last_apart h p host port 58 (sym cut ∙ spelled) (no_colon p (socket_port a) number) (no_colon port (socket_port b) number_too) in
    local_host host (socket_ip a) (socket_ip b) (subst (λ t. IsHostText t (socket_ip a)) parts.0 names) names_too local

-- ---- what is wrong with a line

unless_fault : {A : Type 0} (f : Option Fault) (x : A) → fault_in (unless f (Ok x)) ≡ f
unless_fault None x = refl
unless_fault (Some fault) x = refl

no_fault_here : (o : Result Setting Fault) (fault : Fault) → o ≡ Err fault → fault_in o ≡ None → ⊥
no_fault_here o fault is none = absurd (cc)

-- both are refused for this, or neither is
alike : (f : Option Fault) (x y : Setting) (one other : Result Setting Fault) → one ≡ unless f (Ok x) → other ≡ unless f (Ok y) → fault_in one ≡ None
    → fault_in other ≡ None
alike f x y one other is also none = ap fault_in also ∙ (unless_fault f y ∙ (sym (unless_fault f x) ∙ (sym (ap fault_in is) ∙ none)))

computed : (f one other : Result Setting Fault) → one ≡ f → other ≡ f → fault_in one ≡ None → fault_in other ≡ None
computed f one other is also none = ap fault_in (also ∙ sym is) ∙ none

-- an address leads on in one way
address_alike : (place : ℕ) (word : List ℕ) (P Q : SocketAddr → Type 0) (one other : Result Setting Fault) → ReadsAddress place word P one
    → ReadsAddress place word Q other → fault_in one ≡ None
    → ((a b : SocketAddr) → IsAddressText word a → IsAddressText word b → P a → Q b → fault_in other ≡ None) → fault_in other ≡ None
address_alike place word P Q one other (inl (a, text, is)) (inl (b, too, also)) none both = both a b text too is also
address_alike place word P Q one other (inl (a, text, is)) (inr (never, also)) none both = absurd (never a text)
address_alike place word P Q one other (inr (never, is)) also none both = absurd (no_fault_here one (faults.Address place) is none)

listen_alike : (before : List Said) (words : List (List ℕ)) (one other : Result Setting Fault) → IsListenLine before words one
    → IsListenLine before words other → fault_in one ≡ None → fault_in other ≡ None
listen_alike before [] one other is also none = absurd (no_fault_here one (faults.Form kinds.Listen) is none)
listen_alike before (word ∷ []) one other is also none =
    let again = repeated (line_of kinds.Listen before) in
    address_alike 1 word (λ a. one ≡ unless again (Ok (settings.Listen a))) (λ a. other ≡ unless again (Ok (settings.Listen a))) one other is also none
    (λ a b text too first second. alike again (settings.Listen a) (settings.Listen b) one other first second none)
listen_alike before (word ∷ next ∷ words) one other is also none = absurd (no_fault_here one (faults.Form kinds.Listen) is none)

metrics_alike : (before : List Said) (words : List (List ℕ)) (one other : Result Setting Fault) → IsMetricsLine before words one
    → IsMetricsLine before words other → fault_in one ≡ None → fault_in other ≡ None
metrics_alike before [] one other is also none = absurd (no_fault_here one (faults.Form kinds.Metrics) is none)
metrics_alike before (word ∷ []) one other is also none =
    let again = repeated (line_of kinds.Metrics before) in
    address_alike 1 word (λ a. one ≡ unless again (Ok (settings.Metrics a))) (λ a. other ≡ unless again (Ok (settings.Metrics a))) one other is also none
    (λ a b text too first second. alike again (settings.Metrics a) (settings.Metrics b) one other first second none)
metrics_alike before (word ∷ next ∷ words) one other is also none = absurd (no_fault_here one (faults.Form kinds.Metrics) is none)

loopback_alike : (before : List Said) (a b : SocketAddr) (one other : Result Setting Fault) → (IsLocal a → IsLocal b) → IsAdmin before a one
    → IsAdmin before b other → fault_in one ≡ None → fault_in other ≡ None
loopback_alike before a b one other same (inl (local, is)) (inl (too, also)) none =
    alike (repeated (line_of kinds.Admin before)) (settings.Admin a) (settings.Admin b) one other is also none
loopback_alike before a b one other same (inl (local, is)) (inr (far, also)) none = absurd (far (same local))
loopback_alike before a b one other same (inr (far, is)) also none = absurd (no_fault_here one faults.Local is none)

admin_alike : (before : List Said) (words : List (List ℕ)) (one other : Result Setting Fault) → IsAdminLine before words one
    → IsAdminLine before words other → fault_in one ≡ None → fault_in other ≡ None
admin_alike before [] one other is also none = absurd (no_fault_here one (faults.Form kinds.Admin) is none)
admin_alike before (word ∷ []) one other is also none =
    address_alike 1 word (λ a. IsAdmin before a one) (λ a. IsAdmin before a other) one other is also none
    (λ a b text too first second. loopback_alike before a b one other (one_local word a b text too) first second none)
admin_alike before (word ∷ next ∷ words) one other is also none = absurd (no_fault_here one (faults.Form kinds.Admin) is none)

-- ---- peers

in_texts : (first : List (List ℕ)) (word : List ℕ) (rest : List (List ℕ)) (networks : List Network) → AreNetworkTexts (first ++ word ∷ rest) networks
    → (n : Network) × IsNetworkText word n
in_texts [] word rest [] all = absurd all
in_texts [] word rest (n ∷ networks) (is, all) = (n, is)
in_texts (one ∷ first) word rest [] all = absurd all
in_texts (one ∷ first) word rest (n ∷ networks) (is, all) = in_texts first word rest networks all

networks_alike : (place : ℕ) (words : List (List ℕ)) (networks : List Network) (fault : Fault) → AreNetworks place words (Ok networks)
    → AreNetworks place words (Err fault) → ⊥
networks_alike place words networks fault all (first, rest, word, some, split, good, never, is) =
    let (n, text) = in_texts first word rest networks (subst (λ ws. AreNetworkTexts ws networks) split all) in
    never n text

with_alike : (name : List ℕ) (a b : Option SocketAddr) (place : ℕ) (words : List (List ℕ)) (from more : Result (List Network) Fault)
    (one other : Result Setting Fault) → AreNetworks place words from → AreNetworks place words more → IsPeerWith name a from one
    → IsPeerWith name b more other → fault_in one ≡ None → fault_in other ≡ None
with_alike name a b place words (Err fault) more one other all some is also none = absurd (no_fault_here one fault is none)
with_alike name a b place words (Ok networks) (Err fault) one other all some is also none = absurd (networks_alike place words networks fault all some)
with_alike name a b place words (Ok networks) (Ok others) one other all some is (p, first, second, third, also) none = ap fault_in also

addresses_alike : (word : Option (List ℕ)) (a : Option SocketAddr) (fault : Fault) → IsAddressIf word (Ok a) → IsAddressIf word (Err fault) → ⊥
addresses_alike None a fault is also = absurd (cc)
addresses_alike (Some word) None fault is also = is
addresses_alike (Some word) (Some a) fault is (never, same) = never a is

at_alike : (word : Option (List ℕ)) (name : List ℕ) (place : ℕ) (words : List (List ℕ)) (read again : Result (Option SocketAddr) Fault)
    (one other : Result Setting Fault) → IsAddressIf word read → IsAddressIf word again → IsPeerAt name place words read one
    → IsPeerAt name place words again other → fault_in one ≡ None → fault_in other ≡ None
at_alike word name place words (Err fault) again one other has too is also none = absurd (no_fault_here one fault is none)
at_alike word name place words (Ok a) (Err fault) one other has too is also none = absurd (addresses_alike word a fault has too)
at_alike word name place words (Ok a) (Ok b) one other has too (from, all, is) (more, some, also) none =
    with_alike name a b place words from more one other all some is also none

named_alike : (address : Option (List ℕ)) (words : List (List ℕ)) (named : Result (List ℕ) Fault) (one other : Result Setting Fault)
    → IsPeerNamed address words named one → IsPeerNamed address words named other → fault_in one ≡ None → fault_in other ≡ None
named_alike address words (Err fault) one other is also none = absurd (no_fault_here one fault is none)
named_alike address words (Ok name) one other (read, has, is) (again, too, also) none =
    at_alike address name (first_network address) words read again one other has too is also none

of_alike : (before : List Said) (name : List ℕ) (address : Option (List ℕ)) (networks : Option (List (List ℕ))) (one other : Result Setting Fault)
    → IsPeerOf before name address networks one → IsPeerOf before name address networks other → fault_in one ≡ None → fault_in other ≡ None
of_alike before name address None one other is also none = absurd (no_fault_here one (faults.Form kinds.Peer) is none)
of_alike before name address (Some networks) one other is also none =
    named_alike address networks (peer_name before name) one other is also none

peer_alike : (before : List Said) (words : List (List ℕ)) (one other : Result Setting Fault) → IsPeerLine before words one
    → IsPeerLine before words other → fault_in one ≡ None → fault_in other ≡ None
peer_alike before [] one other is also none = absurd (no_fault_here one (faults.Form kinds.Peer) is none)
peer_alike before (name ∷ words) one other is also none =
    of_alike before name (address_part words) (networks_part (source_part words)) one other is also none

-- ---- any line

line_alike : (kind : Option LineKind) (before : List Said) (words : List (List ℕ)) (one other : Result Setting Fault) → IsLine kind before words one
    → IsLine kind before words other → fault_in one ≡ None → fault_in other ≡ None
line_alike None before words one other is also none = computed _ one other is also none
line_alike (Some kinds.Node) before words one other is also none = computed _ one other is also none
line_alike (Some kinds.Listen) before words one other is also none = listen_alike before words one other is also none
line_alike (Some kinds.Admin) before words one other is also none = admin_alike before words one other is also none
line_alike (Some kinds.Socket) before words one other is also none = computed _ one other is also none
line_alike (Some kinds.Metrics) before words one other is also none = metrics_alike before words one other is also none
line_alike (Some kinds.Section) before words one other is also none = computed _ one other is also none
line_alike (Some kinds.Peer) before words one other is also none = peer_alike before words one other is also none
line_alike (Some kinds.Table) before words one other is also none = computed _ one other is also none
line_alike (Some kinds.Size) before words one other is also none = computed _ one other is also none
line_alike (Some kinds.Nopurge) before words one other is also none = computed _ one other is also none
line_alike (Some kinds.Log) before words one other is also none = computed _ one other is also none
line_alike (Some kinds.Journal) before words one other is also none = computed _ one other is also none

read_alike : (before : List Said) (words : List (List ℕ)) (one other : Result Setting Fault) → IsRead before words one → IsRead before words other
    → fault_in one ≡ None → fault_in other ≡ None
unfolding IsRead
read_alike before [] one other is also none = computed (Err faults.Unknown) one other is also none
read_alike before (word ∷ words) one other is also none = line_alike (kind_of (word ∷ words)) before words one other is also none

-- ---- all lines

none_listed : (number : ℕ) (fault : Option Fault) (more : List FaultyLine) → [] ≡ listed number fault ++ more → (fault ≡ None) × (more ≡ [])
none_listed number None more is = (refl, sym is)
none_listed number (Some fault) more is = absurd (cc)

nothing_found : (before lines : List Said) (found : List FaultyLine) → AreFaultsOf before lines [] → AreFaultsOf before lines found → found ≡ []
nothing_found before [] found none some = some
nothing_found before (line ∷ lines) found (outcome, more, is, split, rest) (other, others, also, parts, after) =
    let (good, no_more) = none_listed line.0 (fault_in outcome) more split in
    let good_too = read_alike before line.1 outcome other is also good in
    let same : found ≡ others = parts ∙ ap (λ f. listed line.0 f ++ others) good_too in
    same ∙ nothing_found (before ++ line ∷ []) lines others (subst (AreFaultsOf (before ++ line ∷ []) lines) no_more rest) after

-- the first lines have no fault if all have none
first_found : (before first rest : List Said) → AreFaultsOf before (first ++ rest) [] → AreFaultsOf before first []
first_found before [] rest none = refl
first_found before (line ∷ first) rest (outcome, more, is, split, after) =
    let (good, no_more) = none_listed line.0 (fault_in outcome) more split in (
      outcome,
      [],
      is,
      sym (ap (λ f. listed line.0 f ++ []) good),
      first_found (before ++ line ∷ []) first rest (subst (AreFaultsOf (before ++ line ∷ []) (first ++ rest)) no_more after),
    )

all_read : (lines read unread : List Said) → lines ≡ read ++ unread → ((unread ≡ []) ⊎ ◌≡◌ {A = ℕ} 0 20) → read ≡ lines
all_read lines read unread split (inl none) = sym (append-nil read) ∙ (ap (λ more. read ++ more) (sym none) ∙ sym split)
all_read lines read unread split (inr many) = absurd (cc)

take_none : (n : ℕ) → ◌≡◌ {A = List LineKind} (take n []) []
take_none zero = refl
take_none (suc n) = refl

-- lines without faults aren't refused
pub not_refused : (lines : List Said) (refusal : Refusal) → IsFaultless lines → IsRefusalOf lines refusal → names_fault refusal ≡ true → ⊥
not_refused lines refusal ((read, unread, split, none, end), nothing) is named =
    let (some, others, parts, found, last) = is.faults in
    let whole : AreFaultsOf [] (some ++ others) [] = subst (λ ls. AreFaultsOf [] ls []) (all_read lines read unread split end ∙ parts) none in
    let faulty : refusal.faults.items ≡ [] = nothing_found [] some refusal.faults.items (first_found [] some others whole) found in
    let lacking : refusal.lacking.items ≡ [] = is.lacking ∙ ap (λ found. take (20 - length refusal.faults.items) (lacking_of found lines)) faulty ∙ ap (λ kinds. take (20 - length refusal.faults.items) kinds) nothing ∙ take_none (20 - length refusal.faults.items) in
    true≢false (sym named ∙ (ap (λ f. not (length f == 0 && length refusal.lacking.items == 0)) faulty ∙ ap (λ l. not (true && length l == 0)) lacking))

-- ---- what is read to its end

no_length : {A : Type 0} (found : List A) → (length found == 0) ≡ true → found ≡ []
no_length [] is = refl
no_length (f ∷ found) is = let none : suc (length found) ≡ 0 = eqb-true (suc (length found)) 0 is in absurd (omega (arith, none))

pub none_named : (refusal : Refusal) → names_fault refusal ≡ false → (refusal.faults.items ≡ []) × (refusal.lacking.items ≡ [])
none_named refusal is =
    let parts = and_parts (length refusal.faults.items == 0) (length refusal.lacking.items == 0) (not-false _ is) in
    (no_length refusal.faults.items parts.0, no_length refusal.lacking.items parts.1)

take_some : (n : ℕ) (kinds : List LineKind) → take (suc n) kinds ≡ [] → kinds ≡ []
take_some n [] is = refl
take_some n (kind ∷ kinds) is = absurd (cc)

pub faultless_read : (lines : List Said) (r : Reading) (lacking : List LineKind) → AreRead lines r
    → lacking ≡ take (20 - length r.faults.items) (lacking_of r.faults.items lines) → r.faults.items ≡ [] → lacking ≡ [] → IsFaultless lines
faultless_read lines r lacking read is none nothing =
    let all : take 20 (lacking_of [] lines) ≡ [] = sym (is ∙ ap (λ (found : List FaultyLine). take (20 - length found) (lacking_of found lines)) none) ∙ nothing in
    (subst (AreFaults lines) none read.faults, take_some 19 (lacking_of [] lines) all)

-- ---- what is whole

-- without refused lines that may be meant
some_line : (line : Option ℕ) (meant : Bool) → meant ≡ false → (is_none line && not meant) ≡ false → is_some line ≡ true
some_line None meant none is = absurd (true≢false (sym (ap not none) ∙ is))
some_line (Some number) meant none is = refl

is_there : (lines : List Said) (kind : LineKind) → is_lacking [] lines kind ≡ false → is_some (line_of kind lines) ≡ true
is_there lines kind is = some_line (line_of kind lines) (refuses_meant [] lines kind) (refuses_none lines kind) is

none_kept : (keeps : Bool) (kind : LineKind) (more : List LineKind) → (if keeps then kind ∷ more else more) ≡ [] → (keeps ≡ false) × (more ≡ [])
none_kept true kind more is = absurd (cc)
none_kept false kind more is = (refl, is)

whole_with : (s : ConfigurationSoFar) → is_some s.node ≡ true → is_some s.listen ≡ true → 1 ≤ length s.tables.items → is_whole s ≡ true
whole_with s node listen tables =
    let some : not (length s.tables.items == 0) ≡ true = ap not (ne_eqb (length s.tables.items) 0 (λ none. omega (arith, none, tables))) in
    ap (λ (is : Bool). is && (is_some s.listen && not (length s.tables.items == 0))) node
    ∙ ap (λ (is : Bool). is && not (length s.tables.items == 0)) listen
    ∙ some

pub nothing_lacks : (lines : List Said) (s : ConfigurationSoFar) → HasNeeded lines s → lacking_of [] lines ≡ [] → is_whole s ≡ true
nothing_lacks lines s needs none =
    let lacks : LineKind → Bool = is_lacking [] lines in
    let (node, after) = none_kept (lacks kinds.Node) kinds.Node (filter lacks (kinds.Listen ∷ kinds.Table ∷ [])) none in
    let (listen, last) = none_kept (lacks kinds.Listen) kinds.Listen (filter lacks (kinds.Table ∷ [])) after in
    let (table, end) = none_kept (lacks kinds.Table) kinds.Table [] last in
    whole_with s (needs.node (is_there lines kinds.Node node)) (needs.listen (is_there lines kinds.Listen listen))
    (needs.tables (is_there lines kinds.Table table))
