use Rattle.node_commands.proofs.sockets.served_shared.Goals as goal

pub returns-clause-printed : goal.returns-clause-printed
returns-clause-printed g c =
    let server = c.in_ok-server.ensures.server in
    (server.0, (c.in_ok-server.server, server.1, c.in_ok-report.ensures.printed))
