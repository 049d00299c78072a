use Rattle.std.proofs.Common.{map, refl}
use Rattle.std.specs.Prelude.{option_copied}
use Rattle.admin_text.specs.PeerLines.{peer_name}
use Rattle.admin_text.specs.Statements.{said_by}
use Rattle.admin_text.proofs.PeerLaws.{networks_stop, peer_is}
use Rattle.admin_text.proofs.peer_lines.peer_with.Goals as goal

pub returns-in_err-networks : goal.returns-in_err-networks
returns-in_err-networks c =
    networks_stop (option_copied c.args.address) (map (λ word. word.now) c.args.networks.now) (peer_name (map said_by c.args.before.now) c.args.name.now)
    c.in_ok-name.name c.in_ok-address.address c.first_network-place.result c.in_err-networks.field-0.0 c.from_residual-in_err-networks.result
    c.from_residual-in_err-networks.ensures.1 c.in_ok-name.ensures c.in_ok-address.ensures c.first_network-place.ensures c.in_err-networks.ensures

pub returns : goal.returns
returns c =
    peer_is (option_copied c.args.address) (map (λ word. word.now) c.args.networks.now) (peer_name (map said_by c.args.before.now) c.args.name.now)
    c.in_ok-name.name c.in_ok-address.address c.first_network-place.result c.in_ok-networks.networks _ c.in_ok-name.ensures c.in_ok-address.ensures
    c.first_network-place.ensures c.in_ok-networks.ensures refl refl c.into_vec.ensures
