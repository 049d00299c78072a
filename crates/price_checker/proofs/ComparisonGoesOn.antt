-- How the updates carried compare with a batch, after one more.
use Rattle.std.proofs.Common.{◌≡◌, ℕ, ◌+◌, ◌<◌, List, [], ◌∷◌, ◌++◌, length, get_or, take, drop, sym, ap, subst, ◌∙◌, arith}
use Rattle.std.proofs.lemmas.List.{take_more, drop_more, take-append-drop, length-take-le}
use Rattle.table_types.specs.declared.update.Update.{Update}
use Rattle.peers_msg.specs.declared.message.Message.TheVariants as messages
use Rattle.peers_msg.specs.Messages.{UpdateFields}
use Rattle.known_state.specs.State.{State, Step, resolved}
use Rattle.price_checker.specs.declared.comparison.Comparison.TheVariants as comparisons
use Rattle.price_checker.specs.Verdicts.{BeginApart}
use Rattle.price_checker.specs.Readings.{Compares}

-- it is the batch's next one
pub same_so_far : (us carried one : List Update) (index : ℕ) (u : Update) → index < length us → u ≡ get_or us index u → carried ≡ take index us → one ≡ u ∷ [] → Compares (comparisons.Same (index + 1)) (carried ++ one) us
same_so_far us carried one index u lt at same is =
    let more : take (index + 1) us ≡ take index us ++ u ∷ [] = take_more us index u lt ∙ ap (λ (x : Update). take index us ++ x ∷ []) (sym at) in
    (ap (λ (xs : List Update). xs ++ one) same ∙ ap (λ (xs : List Update). take index us ++ xs) is ∙ sym more, omega arith)

-- it isn't
pub apart_from_here : (s e : State) (m : UpdateFields) (us carried one : List Update) (index : ℕ) (u : Update) → index < length us → u ≡ get_or us index u → carried ≡ take index us → Step s (messages.Update m) one e → (one ≡ u ∷ [] → ⊥) → Compares (comparisons.Apart index) (carried ++ one) us
apart_from_here s e m us carried one index u lt at same step differs =
    let v = resolved m step.1 step.3 step.5 in
    let next : drop index us ≡ u ∷ drop (index + 1) us = drop_more us index u lt ∙ ap (λ (x : Update). x ∷ drop (index + 1) us) (sym at) in
    let apart : BeginApart (v ∷ []) (u ∷ drop (index + 1) us) = λ is. differs (step.7 ∙ ap (λ (x : Update). x ∷ []) is) in (
      take index us,
      v,
      [],
      drop index us,
      ap (λ (xs : List Update). xs ++ one) same ∙ ap (λ (xs : List Update). take index us ++ xs) step.7,
      sym (take-append-drop index us),
      sym (length-take-le index us (omega arith)),
      subst (λ (xs : List Update). BeginApart (v ∷ []) xs) (sym next) apart,
    )
