-- A stream that the verdict calls shortest is shortest.
use Rattle.std.proofs.Common.{◌≡◌, ℕ, ◌+◌, ◌≤◌, List, [], ◌∷◌, length, None, refl, sym, ap, ◌∙◌, arith, length-append}
use Rattle.std.proofs.lemmas.List.Sums.{sum_by-cons}
use Rattle.table_types.specs.declared.update.Update.{Update}
use Rattle.table_types.specs.Rosters.{roster_fault}
use Rattle.peers_msg.specs.declared.message.Message.{Message}
use Rattle.peers_msg.specs.Spelling.{spelled, size_of, stream_of, size_of_all}
use Rattle.known_state.specs.State.{State, Legal}
use Rattle.known_state.specs.Known.{KnownState, AreOwn}
use Rattle.known_state.specs.Shortest.{Shortest}
use Rattle.known_state.specs.Cost.{full}
use Rattle.known_state.specs.Plans.{Plan, Accepts, kept_savings, links, names_in}
use Rattle.known_state.proofs.AcceptedIsShortest as plans
use Rattle.price_checker.specs.declared.verdict.Verdict.TheVariants as verdicts
use Rattle.price_checker.specs.Verdicts.{requests, Says, bound_shown}

-- the sizes of messages add up to that of their stream
sizes_add_up : (ms : List Message) → size_of_all ms ≡ length (stream_of ms)
unfolding size_of
sizes_add_up [] = refl
sizes_add_up (m ∷ ms) = omega (arith, sum_by-cons size_of m ms, length-append (spelled m) (stream_of ms), sizes_add_up ms)

pub shortest_said : (k : KnownState) (us : List Update) (stream prices : List ℕ) (bytes : ℕ) → roster_fault k.roster ≡ None → AreOwn k.roster k.state.received.tables → length k.state.slots ≡ 128 → Says k us stream prices (verdicts.Shortest bytes)
    → (ms : List Message) × (stream ≡ stream_of ms) × (bytes ≡ length stream) × Shortest k us ms
shortest_said k us stream prices bytes sound own slots ((ms, e, spells, legal), (priced, is, tight)) =
    let size : size_of_all ms ≡ length stream = sizes_add_up ms ∙ ap length (sym spells) in
    let shown : size_of_all ms + bound_shown k us prices ≡ full k.roster k.state us = ap (λ (n : ℕ). n + bound_shown k us prices) size ∙ tight in
    (ms, spells, is, plans.tight_shortest k e ms us prices sound own slots legal shown)

-- and so is a legal list that saves what an accepted plan keeps, at the plan's prices
pub accepted_said : (k : KnownState) (e : State) (ms : List Message) (us : List Update) (plan : Plan) → roster_fault k.roster ≡ None → AreOwn k.roster k.state.received.tables → length k.state.slots ≡ 128 → Accepts 128 (names_in k.state.slots) (requests k us) plan → Legal k.roster k.state ms us e
    → size_of_all ms + kept_savings (links (names_in k.state.slots) (requests k us) plan.keep) ≤ full k.roster k.state us → Says k us (stream_of ms) plan.prices (verdicts.Shortest (length (stream_of ms)))
accepted_said k e ms us plan sound own slots accepts legal saves =
    let accepted = plans.accepted_shortest k e ms us plan sound own slots accepts legal saves in
    let tight : length (stream_of ms) + bound_shown k us plan.prices ≡ full k.roster k.state us = ap (λ (n : ℕ). n + bound_shown k us plan.prices) (sym (sizes_add_up ms)) ∙ accepted.0 in
    ((ms, e, refl, legal), ((accepts.prices, accepts.range), refl, tight))
