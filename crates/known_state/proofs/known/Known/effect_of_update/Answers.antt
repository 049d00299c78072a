use Rattle.std.proofs.Common.{◌≡◌, ◌∙◌, Some, None, ap, refl, sym}
use Rattle.known_state.specs.Effects.{selected_number, written_by}
use Rattle.known_state.proofs.EffectsAreSteps.{numbered, resolves_so}
use Rattle.known_state.proofs.LegalEffects.{taken_update}
use Rattle.known_state.proofs.known.Known.effect_of_update.Goals as goal

pub unreachable-requires : goal.unreachable-requires
unreachable-requires c =
    let taken = taken_update c.args.self.now c.args.update c.requires in
    let none : selected_number c.args.self.now.state c.args.update.number ≡ None = rw (← c.state.ensures, ← c.number.ensures.value) (sym c.in-None.ensures.number) in
    numbered c.args.self.now.state c.args.update.number c.args.update.name taken.3 none

pub returns : goal.returns
returns c =
    let taken = taken_update c.args.self.now c.args.update c.requires in
    let r = c.of.result in
    let selected : c.args.self.now.state.received.selected ≡ Some r.table = rw (← c.state.ensures, c.of.ensures.table) c.in-Some.ensures.table in
    let number : selected_number c.args.self.now.state c.args.update.number ≡ Some r.number = rw (← c.state.ensures, ← c.number.ensures.value, c.of.ensures.number) (sym c.in-Some.ensures.number) in
    (taken.2, tt, (r, refl, resolves_so c.args.self.now.state c.args.update.number c.args.update.name r taken.3 selected number (c.of.ensures.written ∙ ap written_by c.into_parts-field.ensures.name)))
