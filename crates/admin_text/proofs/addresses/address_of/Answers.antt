use Rattle.std.proofs.Common.{refl}
use Rattle.admin_text.proofs.AddressTexts.{no_byte, no_host, no_port, no_zone}
use Rattle.admin_text.proofs.addresses.address_of.Goals as goal

pub returns-in_err-host : goal.returns-in_err-host
returns-in_err-host c = no_byte c.args.word.now _ c.from_residual.ensures c.in_err-host.ensures

pub returns-in_err-host-2 : goal.returns-in_err-host-2
returns-in_err-host-2 c =
    no_host c.args.word.now c.in_ok-host.host.now c.in_ok-host.port.now _ c.from_residual-in_err-host-2.ensures
    c.in_ok-host.ensures.0 c.in_ok-host.ensures.1 c.in_err-host-2.ensures

pub returns-in_err-port : goal.returns-in_err-port
returns-in_err-port c =
    no_port c.args.word.now c.in_ok-host.host.now c.in_ok-host.port.now _ c.from_residual-in_err-port.ensures
    c.in_ok-host.ensures.0 c.in_ok-host.ensures.1 c.in_err-port.ensures.exactly

pub returns-then-is_link_local : goal.returns-then-is_link_local
returns-then-is_link_local c =
    no_zone c.args.word.now c.in_ok-host.host.now c.in_ok-host.port.now c.in_ok-host-2.host _ refl c.in_ok-host.ensures.0 c.in_ok-host.ensures.1
    c.in_ok-host-2.ensures (c.is_link_local.ensures.0 c.if-is_link_local.true)
