-- The text of a network.
use Rattle.std.proofs.Common.{◌≡◌, ◌∙◌, ◌+◌, ◌/◌, ◌^◌, ◌<◌, ◌≤◌, ◌++◌, ℕ, Bor, List, [], ◌∷◌, add-one, ap, arith, drop, drop-cons, get_or, inl, inr, length, map, refl, subst, suc, sym, take}
use Rattle.std.specs.Prelude.{Contains, Err, MatchOption, None, Option, Some, unwrap_or}
use Rattle.std.specs.Option.{SomeIff}
use Rattle.std.proofs.Math.Nat.{div-eq_of_lt, pow-le-pow_right}
use Rattle.std.specs.Net.Grammar.{IsIpText}
use Rattle.std.specs.declared.net.ip_addr.IpAddr.{IpAddr}
use Rattle.std.specs.declared.net.ip_addr.IpAddr.TheVariants as ips
use Rattle.std.proofs.NetLemmas.Ipv6.{IsDotted-not_colon_hex}
use Rattle.std.proofs.Math.Seq.{take-suc}
use Rattle.std.proofs.lemmas.List.{length-map, length-take-le, map-append, take-append-drop}
use Rattle.node_text.specs.Numbers.{number_of}
use Rattle.admin_text.specs.Networks.{AreNetworkTexts, IsNetworkText, IsPart, width}
use Rattle.admin_text.specs.PeerLines.{AreNetworks}
use Rattle.admin_text.specs.declared.faults.Fault.TheVariants as faults
use Rattle.admin_text.specs.declared.networks.Network.{Network}

-- ---- one address has one width

pub one_width : (text : List ℕ) (a b : IpAddr) → IsIpText text a → IsIpText text b → width a ≡ width b
one_width text (ips.V4 a) (ips.V4 b) one other = refl
one_width text (ips.V4 a) (ips.V6 b) one other = absurd (IsDotted-not_colon_hex text _ _ one other)
one_width text (ips.V6 a) (ips.V4 b) one other = absurd (IsDotted-not_colon_hex text _ _ other one)
one_width text (ips.V6 a) (ips.V6 b) one other = refl

pub no_count : (host bits : List ℕ) (ip : IpAddr) → IsIpText host ip → number_of bits (width ip) ≡ None → (n : Network) → IsPart host bits n → ⊥
no_count host bits ip is none n (other, count, text, number, same) =
    let wide : width ip ≡ width other = one_width host ip other is text in
    let number_is : number_of bits (width ip) ≡ Some count = ap (number_of bits) wide ∙ number in
    absurd (cc)

-- ---- the first `/`

here : (b : ℕ) (xs : List ℕ) → Contains (b ∷ xs) b
here b xs = (0, omega arith, refl)

behind : (b c : ℕ) (xs : List ℕ) → Contains xs b → Contains (c ∷ xs) b
behind b c xs (i, less, is) = (suc i, omega (arith, less), is)

first_apart : (h p host part : List ℕ) (b : ℕ) → h ++ b ∷ p ≡ host ++ b ∷ part → (Contains h b → ⊥) → (Contains host b → ⊥)
    → (h ≡ host) × (p ≡ part)
first_apart [] p [] part b same none other = (refl, cc)
first_apart [] p (x ∷ host) part b same none other =
    let first : b ≡ x = cc in
    absurd (other (subst (λ y. Contains (x ∷ host) y) (sym first) (here x host)))
first_apart (x ∷ h) p [] part b same none other =
    let first : x ≡ b = cc in
    absurd (none (subst (λ y. Contains (x ∷ h) y) first (here x h)))
first_apart (x ∷ h) p (y ∷ host) part b same none other =
    let first : x ≡ y = cc in
    let rest : h ++ b ∷ p ≡ host ++ b ∷ part = cc in
    let parts = first_apart h p host part b rest (λ has. none (behind b x h has)) (λ has. other (behind b y host has)) in
    (ap (λ z. z ∷ h) first ∙ ap (λ t. y ∷ t) parts.0, parts.1)

within : (before after : List ℕ) (b : ℕ) → Contains (before ++ b ∷ after) b
within [] after b = here b after
within (c ∷ before) after b = behind b c (before ++ b ∷ after) (within before after b)

-- ---- what is no network

pub no_part : (word host bits : List ℕ) → word ≡ host ++ 47 ∷ bits → (Contains host 47 → ⊥) → ((n : Network) → IsPart host bits n → ⊥)
    → (n : Network) → IsNetworkText word n → ⊥
no_part word host bits cut none never n (inl (alone, is)) = alone (subst (λ w. Contains w 47) (sym cut) (within host bits 47))
no_part word host bits cut none never n (inr (other, count, same, free, is)) =
    let parts = first_apart host bits other count 47 (sym cut ∙ same) none free in
    never n (subst (λ h. IsPart h bits n) (sym parts.0) (subst (λ b. IsPart other b n) (sym parts.1) is))

pub no_address : (word : List ℕ) → (Contains word 47 → ⊥) → ((ip : IpAddr) → IsIpText word ip → ⊥) → (n : Network) → IsNetworkText word n → ⊥
no_address word none never n (inl (alone, (ip, text, same))) = never ip text
no_address word none never n (inr (host, bits, same, free, is)) = none (subst (λ w. Contains w 47) (sym same) (within host bits 47))

-- ---- as the code has it

pub none_met : {A : Type 0} (r : Option A) (P : Type 0) (Q : A → Type 0) → r ≡ None → P → MatchOption r P Q
none_met None P Q is p = p
none_met (Some x) P Q is p = absurd (cc)

pub parted : (word host bits : List ℕ) (r : Option Network) → word ≡ host ++ 47 ∷ bits → (Contains host 47 → ⊥)
    → MatchOption r ((n : Network) → IsPart host bits n → ⊥) (IsPart host bits)
    → MatchOption r ((n : Network) → IsNetworkText word n → ⊥) (IsNetworkText word)
parted word host bits None cut free none = no_part word host bits cut free none
parted word host bits (Some n) cut free is = inr (host, bits, cut, free, is)

-- bits without the last ones
pub shifted : (r : Option ℕ) (bits free out : ℕ) → bits < 2 ^ 128 → SomeIff r (free < 128) (bits / 2 ^ free) → out ≡ unwrap_or r 0
    → out ≡ bits / 2 ^ free
shifted None bits free out small far is =
    let least : 128 ≤ free = omega (arith, far) in
    let power : 2 ^ 128 ≤ 2 ^ free = pow-le-pow_right (omega arith) least in
    is ∙ sym (div-eq_of_lt (omega (arith, small, power)))
shifted (Some n) bits free out small (near, same) is = is ∙ same

-- ---- networks, one by one

pub texts_more : (words : List (List ℕ)) (networks : List Network) (word : List ℕ) (n : Network) → AreNetworkTexts words networks → IsNetworkText word n
    → AreNetworkTexts (words ++ word ∷ []) (networks ++ n ∷ [])
texts_more [] [] word n all is = (is, tt)
texts_more [] (m ∷ networks) word n all is = absurd all
texts_more (first ∷ words) [] word n all is = absurd all
texts_more (first ∷ words) (m ∷ networks) word n (one, all) is = (one, texts_more words networks word n all is)

first_bad_split : (words : List (Bor (List ℕ))) (i : ℕ) (d : Bor (List ℕ)) → i < length words
    → map (λ word. word.now) words ≡ map (λ word. word.now) (take i words) ++ ((get_or words i d).now ∷ map (λ word. word.now) (drop (suc i) words))
first_bad_split words i d less =
    ap (map (λ word. word.now)) (sym (take-append-drop i words) ∙ ap (λ more. take i words ++ more) (drop-cons words i d less))
    ∙ map-append (λ word. word.now) (take i words) (get_or words i d ∷ drop (suc i) words)

pub first_bad : (words : List (Bor (List ℕ))) (i place : ℕ) (d : Bor (List ℕ)) (networks : List Network) → i < length words
    → AreNetworkTexts (map (λ word. word.now) (take i words)) networks → ((n : Network) → IsNetworkText (get_or words i d).now n → ⊥)
    → AreNetworks place (map (λ word. word.now) words) (Err (faults.Network (place + i)))
first_bad words i place d networks less good bad = (
  map (λ word. word.now) (take i words),
  map (λ word. word.now) (drop (suc i) words),
  (get_or words i d).now,
  networks,
  first_bad_split words i d less,
  good,
  bad,
  ap (λ n. faults.Network (place + n)) (sym (length-map (take i words) (λ word. word.now) ∙ length-take-le i words (omega (arith, less)))),
)

pub next_network : (words : List (Bor (List ℕ))) (i : ℕ) (d : Bor (List ℕ)) (networks all : List Network) (n : Network) → i < length words
    → AreNetworkTexts (map (λ word. word.now) (take i words)) networks → IsNetworkText (get_or words i d).now n → all ≡ networks ++ n ∷ []
    → AreNetworkTexts (map (λ word. word.now) (take (i + 1) words)) all
next_network words i d networks all n less good is pushed =
    let more : map (λ word. word.now) (take (i + 1) words) ≡ map (λ word. word.now) (take i words) ++ (get_or words i d).now ∷ []
    = ap (λ m. map (λ word. word.now) (take m words)) (add-one i) ∙ ap (map (λ word. word.now)) (take-suc words i d less)
    ∙ map-append (λ word. word.now) (take i words) (get_or words i d ∷ []) in
    subst (λ ws. AreNetworkTexts ws all) (sym more)
    (subst (AreNetworkTexts (map (λ word. word.now) (take i words) ++ (get_or words i d).now ∷ [])) (sym pushed)
    (texts_more (map (λ word. word.now) (take i words)) networks (get_or words i d).now n good is))
