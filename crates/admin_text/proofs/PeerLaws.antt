-- A peer, part by part.
use Rattle.std.proofs.Common.{◌≡◌, List, ℕ, refl, subst, sym}
use Rattle.std.specs.Prelude.{Err, Ok, Option, Result}
use Rattle.std.specs.Result.{IsErrAnd}
use Rattle.std.specs.declared.net.socket_addr.SocketAddr.{SocketAddr}
use Rattle.admin_text.specs.Outcomes.{Gives}
use Rattle.admin_text.specs.PeerLines.{AreNetworks, IsAddressIf, IsPeerNamed, first_network}
use Rattle.admin_text.specs.declared.faults.Fault.{Fault}
use Rattle.admin_text.specs.declared.line_refusals.LineRefusal.{LineRefusal}
use Rattle.admin_text.specs.declared.line_refusals.LineRefusal.TheVariants as refusals
use Rattle.admin_text.specs.declared.networks.Network.{Network}
use Rattle.admin_text.specs.declared.peers.Peer.{Peer}
use Rattle.admin_text.specs.declared.settings.Setting.{Setting}
use Rattle.admin_text.specs.declared.settings.Setting.TheVariants as settings

stopped : (address : Option (List ℕ)) (words : List (List ℕ)) (named : Result (List ℕ) Fault) (name : List ℕ) (a : Option SocketAddr) (e : LineRefusal)
    → Ok name ≡ named → IsAddressIf address (Ok a) → Gives {A = List Network} (AreNetworks (first_network address) words) (Err e)
    → Gives {A = Setting} (IsPeerNamed address words named) (Err e)
stopped address words named name a (refusals.Fault fault) is read from =
    subst (λ n. IsPeerNamed address words n (Err fault)) is (Ok a, read, (Err fault, from, refl))
stopped address words named name a refusals.Memory is read from = tt

-- what is wrong with its networks
pub networks_stop : (address : Option (List ℕ)) (words : List (List ℕ)) (named : Result (List ℕ) Fault) (name : List ℕ) (a : Option SocketAddr)
    (place : ℕ) (e : LineRefusal) (r : Result Setting LineRefusal) → IsErrAnd r (λ x. x ≡ e) → Ok name ≡ named → IsAddressIf address (Ok a)
    → place ≡ first_network address → Gives {A = List Network} (AreNetworks place words) (Err e)
    → Gives {A = Setting} (IsPeerNamed address words named) r
networks_stop address words named name a place e (Ok setting) err is read at from = absurd err
networks_stop address words named name a place e (Err x) err is read at from =
    subst (λ y. Gives {A = Setting} (IsPeerNamed address words named) (Err y)) (sym err)
    (stopped address words named name a e is read (subst (λ p. Gives {A = List Network} (AreNetworks p words) (Err e)) at from))

-- nothing is wrong
pub peer_is : (address : Option (List ℕ)) (words : List (List ℕ)) (named : Result (List ℕ) Fault) (name : List ℕ) (a : Option SocketAddr) (place : ℕ)
    (networks : List Network) (p : Peer) → Ok name ≡ named → IsAddressIf address (Ok a) → place ≡ first_network address
    → AreNetworks place words (Ok networks) → p.name ≡ name → p.address ≡ a → p.from.items ≡ networks
    → IsPeerNamed address words named (Ok (settings.Peer p))
peer_is address words named name a place networks p is read at from one two three =
    subst (λ n. IsPeerNamed address words n (Ok (settings.Peer p))) is (Ok a, read, (Ok networks, from, (p, one, two, three, refl)))
