use Rattle.std.proofs.Common.{◌≡◌, List, Some, rules, subst, sym}
use Rattle.std.specs.List.Sorted.{IsNonDecreasingBy, IsPermutation}
use Rattle.std.proofs.lemmas.List.Sorted.{IsNonDecreasingBy-from_sort, answers_always}
use Rattle.std.proofs.lemmas.Result.{err_from_is_err_and}
use Rattle.table_types.specs.Rosters.{roster_fault}
use Rattle.table_types.specs.Tables.{Definition}
use Rattle.table_types.specs.declared.roster.RosterError.{RosterError}
use Rattle.text_commands.specs.Learning.{MakeNoRoster}
use Rattle.text_commands.proofs.learning.rising_roster.Goals as goal

pub returns-clause-rising : goal.returns-clause-rising
returns-clause-rising c =
    let sorted = c.sort_unstable_by_key.ensures in
    let rises = IsNonDecreasingBy-from_sort (λ (d : Definition). d.id) _ (sorted.sorted (λ (d : Definition). d.id) (answers_always _ _ _ (λ f a r g h. search rules))) in
    let made = sym c.in_ok-roster.ensures.made.0 in
    (subst (IsPermutation c.args.tables.items) made sorted.permutation, subst (IsNonDecreasingBy (λ (d : Definition). d.id)) made rises)

no_roster : (tables sorted : List Definition) (error : RosterError) → IsPermutation tables sorted → IsNonDecreasingBy (λ (d : Definition). d.id) sorted → roster_fault sorted ≡ Some error → MakeNoRoster tables error
no_roster tables sorted error permuted rises fault = (sorted, (permuted, rises), fault)

pub returns-in_err-roster-clause-refused : goal.returns-in_err-roster-clause-refused
returns-in_err-roster-clause-refused c =
    let sorted = c.sort_unstable_by_key.ensures in
    let rises = IsNonDecreasingBy-from_sort (λ (d : Definition). d.id) _ (sorted.sorted (λ (d : Definition). d.id) (answers_always _ _ _ (λ f a r g h. search rules))) in
    let p = err_from_is_err_and c.from_residual.result c.from_residual.ensures.1 in
    rw (p.1, p.2) (no_roster c.args.tables.items _ c.in_err-roster.field-0.0 sorted.permutation rises c.in_err-roster.ensures.refused)
