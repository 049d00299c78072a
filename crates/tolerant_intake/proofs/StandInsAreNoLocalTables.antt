-- A stand-in is no local table.
use Rattle.std.proofs.Common.{◌≡◌, true, false, List, [], ◌∷◌, Option, Some, None, Ok, refl, sym, ap, subst, ◌∙◌, inl, inr}
use Rattle.std.specs.Prelude.{option_and_then, option_map}
use Rattle.std.specs.List.{list_any}
use Rattle.std.proofs.lemmas.Bool.{cases_Bool}
use Rattle.table_types.specs.Tables.{Definition}
use Rattle.table_types.specs.Rosters.{roster_fault, table_at}
use Rattle.table_types.specs.Shapes.{is_shape_of}
use Rattle.known_state.specs.declared.effect.Effect.TheVariants as effects
use Rattle.known_state.proofs.ReceivedIsOwn.{define_selects}
use Rattle.learner.specs.declared.taken.Taken.{Taken}
use Rattle.learner.specs.LocalTables.{local_id, local_table}
use Rattle.learner.specs.Intake.{Taking, ack_of}
use Rattle.tolerant_intake.specs.Loose.{LooseDefinition}
use Rattle.tolerant_intake.specs.StandIns.{stand_in}
use Rattle.tolerant_intake.specs.Tolerance.{Tolerance, replaced}
use Rattle.tolerant_intake.specs.Policy.{Passage, StandsIn, passage_of}
use Rattle.tolerant_intake.specs.Reading.{Reads, ReadsAs, passing}
use Rattle.tolerant_intake.proofs.ReadingGoesOn.{passes_so, given_no_memory}
use Rattle.tolerant_intake.proofs.StandInsAreOthers.{none_has_shape}

no_local : (roster : List Definition) (d : Definition) → list_any (λ own. is_shape_of own d) roster ≡ false → local_table roster d ≡ None
no_local [] d none = refl
no_local (own ∷ roster) d none = elim (cases_Bool (is_shape_of own d)) [
  | inl same ↦ let wrong : true ≡ false = sym (rw same refl) ∙ none in absurd cc
  | inr other ↦ rw other (no_local roster d (sym (rw other refl) ∙ none))
]

pub no_local_stand_in : (roster : List Definition) (d : LooseDefinition) → roster_fault roster ≡ None → local_table roster (stand_in roster d) ≡ None
no_local_stand_in roster d sound = no_local roster (stand_in roster d) (none_has_shape roster d sound)

-- after a definition for which another stands in, that is selected, and is no local table
pub stands_apart : (l : Tolerance) (t e : Taking) (answer : Taken) (after : Option Tolerance) (d : LooseDefinition) → roster_fault t.roster ≡ None → passage_of l t ≡ StandsIn d → Reads (Some l) t (Ok (Some answer)) e after
    → (e.state.received.selected ≡ Some d.id) × (local_id e.roster e.state.received d.id ≡ None) × (ack_of e d.id ≡ None)
stands_apart l t e answer after d sound is reads =
    let stands : Definition = stand_in t.roster d in
    let passes : ReadsAs (StandsIn d) l t (Ok (Some answer)) e after = subst (λ (p : Passage). ReadsAs p l t (Ok (Some answer)) e after) is reads in
    let left : e ≡ passing t (effects.Define stands) = (passes_so (effects.Define stands) (replaced d stands t.state.received l) l t e (Ok (Some answer)) after passes (given_no_memory (Some answer))).1 in
    let found : table_at (passing t (effects.Define stands)).state.received.tables d.id ≡ Some stands = define_selects t.state.received stands in
    let local : local_id t.roster (passing t (effects.Define stands)).state.received d.id ≡ None =
    ap (λ (o : Option Definition). option_map (λ (x : Definition). x.id) (option_and_then (local_table t.roster) o)) found ∙ ap (option_map (λ (x : Definition). x.id)) (no_local_stand_in t.roster d sound) in
    let there : local_id e.roster e.state.received d.id ≡ None = subst (λ (x : Taking). local_id x.roster x.state.received d.id ≡ None) (sym left) local in
    (ap (λ (x : Taking). x.state.received.selected) left, there, rw there refl)
