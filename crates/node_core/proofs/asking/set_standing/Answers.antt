use Rattle.std.proofs.Common.{refl, length}
use Rattle.std.proofs.lemmas.Option.{slice_get_read}
use Rattle.node_core.specs.declared.asking.Candidate.{Candidate}
use Rattle.node_core.proofs.Changed.{past_changed, set_changed}
use Rattle.node_core.proofs.asking.set_standing.Goals as goal

pub returns-in-Some : goal.returns-in-Some
returns-in-Some c =
    let found = slice_get_read c.args.peers.now (length c.args.peers.now) c.args.peer c.in-Some.one.now refl c.in-Some.ensures.lookup.3.0 c.in-Some.ensures.lookup.1 in
    set_changed (λ (p : Candidate). record { standing = c.args.standing; asked_at = p.asked_at; since = p.since }) c.args.peers.now c.args.peer c.in-Some.one.now found

pub returns-in_default : goal.returns-in_default
returns-in_default c = past_changed (λ (p : Candidate). record { standing = c.args.standing; asked_at = p.asked_at; since = p.since }) c.args.peers.now c.args.peer c.in_default.ensures.lookup.3
