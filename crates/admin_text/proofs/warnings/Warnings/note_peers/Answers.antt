use Rattle.std.proofs.Common.{◌++◌, codes, map, subst, sym}
use Rattle.admin_text.specs.SaidLines.{AreLines}
use Rattle.admin_text.specs.Warnings.{peers_heads, warned_head}
use Rattle.admin_text.proofs.RefusalLaws.{next_lines}
use Rattle.admin_text.proofs.warnings.Warnings.note_peers.Goals as goal

pub returns-in_ok-push_line-clause-said : goal.returns-in_ok-push_line-clause-said
returns-in_ok-push_line-clause-said c =
    λ so_far.
    let heads = map warned_head c.args.self.now.lines.items in
    subst (λ none. AreLines (heads ++ peers_heads none) c.push_line.new.text.items) (sym c.if-self.true)
    (next_lines heads (codes "configuration: warning: ") c.args.self.now.said.items c.push_line.new.text.items c.in_ok-push_line.ensures so_far)
