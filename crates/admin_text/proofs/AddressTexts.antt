-- The text of an address: where its port begins, and which host it names.
use Rattle.std.proofs.Common.{◌≡◌, ◌∙◌, ◌^◌, ◌<◌, ◌≤◌, ◌++◌, ◌&&◌, Bool, true, false, ℕ, List, [], ◌∷◌, ap, arith, codes, get_or, refl, rules, subst, sym, true≢false}
use Rattle.std.specs.Prelude.{Contains, MatchOption, None, Option, Some, if◌then◌else◌}
use Rattle.std.specs.Fmt.{decimal}
use Rattle.std.specs.List.{list_all}
use Rattle.std.specs.Net.Addr.{IsWithinAt, ipv6_segments}
use Rattle.std.specs.Net.Grammar.{IsColonHex, IsDotted, IsIpv4Text, IsIpv6Text}
use Rattle.std.specs.Net.Socket.{socket_ip, socket_port}
use Rattle.std.specs.declared.net.ip_addr.IpAddr.{IpAddr}
use Rattle.std.specs.declared.net.ip_addr.IpAddr.TheVariants as ips
use Rattle.std.specs.declared.net.ipv4_addr.Ipv4Addr.{Ipv4Addr}
use Rattle.std.specs.declared.net.ipv6_addr.Ipv6Addr.{Ipv6Addr}
use Rattle.std.specs.declared.net.socket_addr.SocketAddr.{SocketAddr}
use Rattle.std.proofs.lemmas.Bool.Decides.{nat_tests}
use Rattle.std.proofs.lemmas.Fmt.{digits_decimal}
use Rattle.std.proofs.lemmas.List.{append_assoc, append_cancel_right}
use Rattle.std.proofs.lemmas.List.Elements.{All-contains, Contains-append_right}
use Rattle.std.proofs.lemmas.List.Sums.{AllPass-from_list_all}
use Rattle.std.proofs.NetLemmas.Ipv4.{read_ipv4_complete}
use Rattle.std.proofs.NetLemmas.Ipv6.{EndsGroups-nil, read_ipv6_complete}
use Rattle.std.proofs.NetLemmas.Options.{same_parts}
use Rattle.std.proofs.lemmas.Str.Parse.{IsNumeralModel, numerals_by_fold}
use Rattle.node_text.specs.Numbers.{digits_from, from_one, is_digit, number_of}
use Rattle.admin_text.specs.Addresses.{IsAddressText, IsHostText, IsLinkLocal}

-- ---- the last of a kind of byte

here : (b : ℕ) (xs : List ℕ) → Contains (b ∷ xs) b
here b xs = (0, omega arith, refl)

behind : (before after : List ℕ) (b : ℕ) → Contains (before ++ b ∷ after) b
behind before after b = Contains-append_right before (b ∷ after) b (here b after)

pub last_apart : (h p host port : List ℕ) (b : ℕ) → h ++ b ∷ p ≡ host ++ b ∷ port → (Contains p b → ⊥) → (Contains port b → ⊥)
    → (h ≡ host) × (p ≡ port)
last_apart [] p [] port b same none other = (refl, cc)
last_apart [] p (x ∷ host) port b same none other =
    let rest : p ≡ host ++ b ∷ port = cc in
    absurd (none (subst (λ t. Contains t b) (sym rest) (behind host port b)))
last_apart (x ∷ h) p [] port b same none other =
    let rest : h ++ b ∷ p ≡ port = cc in
    absurd (other (subst (λ t. Contains t b) rest (behind h p b)))
last_apart (x ∷ h) p (y ∷ host) port b same none other =
    let first : x ≡ y = cc in
    let rest : h ++ b ∷ p ≡ host ++ b ∷ port = cc in
    let parts = last_apart h p host port b rest none other in
    (ap (λ z. z ∷ h) first ∙ ap (λ t. y ∷ t) parts.0, parts.1)

-- ---- numbers have no colon

are_digits : (first digits within : Bool) (n m : ℕ) → (if first && (digits && within) then Some n else None) ≡ Some m → digits ≡ true
are_digits true true within n m is = refl
are_digits true false within n m is = absurd (cc)
are_digits false digits within n m is = absurd (cc)

pub no_colon : (port : List ℕ) (n : ℕ) → number_of port 65535 ≡ Some n → Contains port 58 → ⊥
no_colon port n is has =
    let all = AllPass-from_list_all is_digit port (are_digits _ _ _ _ n is) in
    true≢false (sym (All-contains (λ byte. is_digit byte ≡ true) port 58 all has))

-- ---- what isn't an address

none_met : {A : Type 0} (r : Option A) (P : Type 0) (Q : A → Type 0) → r ≡ None → P → MatchOption r P Q
none_met None P Q is p = p
none_met (Some x) P Q is p = absurd (cc)

pub no_byte : (word : List ℕ) (r : Option SocketAddr) → r ≡ None → (Contains word 58 → ⊥)
    → MatchOption r ((a : SocketAddr) → IsAddressText word a → ⊥) (IsAddressText word)
no_byte word r is none =
    none_met r ((a : SocketAddr) → IsAddressText word a → ⊥) (IsAddressText word) is
    (λ a reads. let (host, port, spelled, names, number, ranges) = reads in none (subst (λ t. Contains t 58) (sym spelled) (behind host port 58)))

pub no_host : (word h p : List ℕ) (r : Option SocketAddr) → r ≡ None → word ≡ h ++ 58 ∷ p → (Contains p 58 → ⊥)
    → ((ip : IpAddr) → IsHostText h ip → ⊥) → MatchOption r ((a : SocketAddr) → IsAddressText word a → ⊥) (IsAddressText word)
no_host word h p r is cut none other =
    none_met r ((a : SocketAddr) → IsAddressText word a → ⊥) (IsAddressText word) is
    (λ a reads.
    let (host, port, spelled, names, number, ranges) = reads in
    let parts = last_apart h p host port 58 (sym cut ∙ spelled) none (no_colon port (socket_port a) number) in
    other (socket_ip a) (subst (λ t. IsHostText t (socket_ip a)) (sym parts.0) names))

some_from_one : (n : ℕ) → 1 ≤ n → None ≡ from_one (Some n) → ⊥
some_from_one n least is = grind (arith, nat_tests)

pub no_port : (word h p : List ℕ) (r : Option SocketAddr) → r ≡ None → word ≡ h ++ 58 ∷ p → (Contains p 58 → ⊥)
    → None ≡ from_one (number_of p 65535) → MatchOption r ((a : SocketAddr) → IsAddressText word a → ⊥) (IsAddressText word)
no_port word h p r is cut none other =
    none_met r ((a : SocketAddr) → IsAddressText word a → ⊥) (IsAddressText word) is
    (λ a reads.
    let (host, port, spelled, names, number, ranges) = reads in
    let parts = last_apart h p host port 58 (sym cut ∙ spelled) none (no_colon port (socket_port a) number) in
    let same : number_of p 65535 ≡ Some (socket_port a) = ap (λ t. number_of t 65535) parts.1 ∙ number in
    some_from_one (socket_port a) ranges.0 (other ∙ ap from_one same))

-- ---- hosts

own : IsNumeralModel (λ digits. list_all is_digit digits ≡ true) (digits_from 0)
own = numerals_by_fold _ (search rules) digits_from (search rules)

and_first : (a b : Bool) → (a && b) ≡ true → a ≡ true
and_first true b is = refl
and_first false b is = is

no_bracket : (digits rest other : List ℕ) → list_all is_digit digits ≡ true → 91 ∷ other ≡ digits ++ 46 ∷ rest → ⊥
no_bracket [] rest other all same = let bytes : 91 ≡ 46 = ap (λ (t : List ℕ). get_or t 0 0) same in omega (arith, bytes)
no_bracket (d ∷ digits) rest other all same =
    let bracket : 91 ≡ d = ap (λ (t : List ℕ). get_or t 0 0) same in
    let digit : is_digit d ≡ true = and_first (is_digit d) (list_all is_digit digits) all in
    true≢false (sym (subst (λ b. is_digit b ≡ true) (sym bracket) digit))

regrouped : (a p b q c r d : List ℕ) → a ++ p ++ b ++ q ++ c ++ r ++ d ≡ a ++ (p ++ (b ++ (q ++ (c ++ (r ++ d)))))
regrouped a p b q c r d =
    append_assoc (a ++ p ++ b ++ q ++ c) r d ∙ append_assoc (a ++ p ++ b ++ q) c (r ++ d) ∙ append_assoc (a ++ p ++ b) q (c ++ (r ++ d))
    ∙ append_assoc (a ++ p) b (q ++ (c ++ (r ++ d))) ∙ append_assoc a p (b ++ (q ++ (c ++ (r ++ d))))

-- an IPv4 address isn't in brackets
pub dotted_alone : (text inner : List ℕ) (ip : Ipv4Addr) → text ≡ 91 ∷ (inner ++ 93 ∷ []) → IsIpv4Text text ip → ⊥
dotted_alone text inner ip is dotted =
    let small : dotted.a < 2 ^ 64 = omega (arith, dotted.fit.0) in
    let point = codes "." in
    let rest = decimal dotted.b ++ (point ++ (decimal dotted.c ++ (point ++ decimal dotted.d))) in
    let parts = regrouped (decimal dotted.a) point (decimal dotted.b) point (decimal dotted.c) point (decimal dotted.d) in
    no_bracket (decimal dotted.a) rest (inner ++ 93 ∷ []) (digits_decimal own dotted.a small) (sym is ∙ dotted.spelled ∙ parts)

pub none_in_brackets : (text inner : List ℕ) → text ≡ 91 ∷ (inner ++ 93 ∷ []) → ((a : Ipv6Addr) → IsIpv6Text inner a → ⊥)
    → (ip : IpAddr) → IsHostText text ip → ⊥
none_in_brackets text inner is none (ips.V4 ip) dotted = dotted_alone text inner ip is dotted
none_in_brackets text inner is none (ips.V6 ip) (other, same, reads) =
    let tails : other ++ 93 ∷ [] ≡ inner ++ 93 ∷ [] = cc in
    none ip (subst (λ t. IsIpv6Text t ip) (append_cancel_right other inner (93 ∷ []) tails) reads)

pub none_outside : (text : List ℕ) → ((inner : List ℕ) → text ≡ 91 ∷ (inner ++ 93 ∷ []) → ⊥) → ((a : Ipv4Addr) → IsIpv4Text text a → ⊥)
    → (ip : IpAddr) → IsHostText text ip → ⊥
none_outside text outside none (ips.V4 ip) dotted = none ip dotted
none_outside text outside none (ips.V6 ip) (inner, same, reads) = outside inner same

-- ---- a host is one address

pub one_dotted : (text one other : List ℕ) → IsDotted text one → IsDotted text other → one ≡ other
one_dotted text one other is also =
    (same_parts one other [] [] (sym (read_ipv4_complete text one [] is (omega arith)) ∙ read_ipv4_complete text other [] also (omega arith))).0

pub one_colon_hex : (text one other : List ℕ) → IsColonHex text one → IsColonHex text other → one ≡ other
one_colon_hex text one other is also =
    (same_parts one other [] [] (sym (read_ipv6_complete text one [] is EndsGroups-nil) ∙ read_ipv6_complete text other [] also EndsGroups-nil)).0

link_host : (text : List ℕ) (one other : IpAddr) → IsHostText text one → IsHostText text other → IsLinkLocal one → IsLinkLocal other
link_host text (ips.V4 one) other is also link = absurd link
link_host text (ips.V6 one) (ips.V4 other) (inner, same, is) also link = absurd (dotted_alone text inner other same also)
link_host text (ips.V6 one) (ips.V6 other) (inner, same, is) (second, too, also) link =
    let tails : second ++ 93 ∷ [] ≡ inner ++ 93 ∷ [] = cc in
    let first = append_cancel_right second inner (93 ∷ []) tails in
    subst (λ segments. IsWithinAt segments 0 0xfe80 0xfebf)
    (one_colon_hex inner (ipv6_segments one) (ipv6_segments other) is (subst (λ t. IsColonHex t (ipv6_segments other)) first also)) link

pub no_zone : (word h p : List ℕ) (ip : IpAddr) (r : Option SocketAddr) → r ≡ None → word ≡ h ++ 58 ∷ p → (Contains p 58 → ⊥) → IsHostText h ip
    → IsLinkLocal ip → MatchOption r ((a : SocketAddr) → IsAddressText word a → ⊥) (IsAddressText word)
no_zone word h p ip r is cut none host_is link =
    none_met r ((a : SocketAddr) → IsAddressText word a → ⊥) (IsAddressText word) is
    (λ a reads.
    let (host, port, spelled, names, number, ranges) = reads in
    let parts = last_apart h p host port 58 (sym cut ∙ spelled) none (no_colon port (socket_port a) number) in
    ranges.3 (link_host h ip (socket_ip a) host_is (subst (λ t. IsHostText t (socket_ip a)) (sym parts.0) names) link))
