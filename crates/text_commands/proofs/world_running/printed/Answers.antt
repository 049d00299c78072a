use Rattle.std.proofs.Common.{◌≡◌, ◌≤◌, ◌∙◌, ap, length, map, subst, sym}
use Rattle.interleave_core.specs.Worlds.{new_world}
use Rattle.text_commands.specs.Running.{cell_of}
use Rattle.text_commands.proofs.NewWorlds.{all_begin, new_roster, sessions_within}
use Rattle.text_commands.proofs.WorldPrinting.{run_printed}
use Rattle.text_commands.proofs.world_running.printed.Goals as goal

pub new-requires : goal.new-requires
new-requires c =
    let script = c.args.script in
    let versions = c.in_ok-versions.versions.items in
    let within : (1 ≤ length versions) × (length versions ≤ 16) =
    subst (λ vs. (1 ≤ length vs) × (length vs ≤ 16)) (sym c.in_ok-versions.ensures) (sessions_within (λ vs. vs.items) script.versions c.requires.versions) in
    record {
      tables = new_roster script.tables.items c.in_ok-cells_of.field-0.items c.in_ok-cells_of.ensures c.requires.roster;
      begin = all_begin (length versions) script.tables.items c.in_ok-cells_of.field-0.items c.in_ok-cells_of.ensures within.1;
      sessions = within;
    }

pub returns : goal.returns
returns c =
    let script = c.args.script in
    run_printed script c.in_ok-world.world c.new-text.result.items c.run_lines.new.text.items c.requires
    (c.in_ok-world.ensures
    ∙ ap (λ cells. new_world cells c.in_ok-versions.versions.items) c.in_ok-cells_of.ensures
    ∙ ap (λ versions. new_world (map cell_of script.tables.items) versions) c.in_ok-versions.ensures)
    c.new-text.ensures.items c.in_ok-run_lines.ensures
