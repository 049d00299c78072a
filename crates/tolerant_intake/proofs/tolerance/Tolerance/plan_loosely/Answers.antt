use Rattle.std.proofs.Common.{◌≡◌, ◌<◌, ◌-◌, ℕ, List, Result, Ok, Some, arith, sym, ap, subst, ◌∙◌, option_copied, length}
use Rattle.peers_msg.specs.Integers.{IsBytes}
use Rattle.peers_msg.specs.Borrowed.{owned_name}
use Rattle.peers_msg.specs.declared.fault.Breach.{Breach}
use Rattle.peers_msg.specs.declared.meaning.Meaning.TheVariants as meanings
use Rattle.peers_msg.specs.Reading.{Frame, frame_at, meant}
use Rattle.tolerant_intake.specs.Loose.{LooseUpdate}
use Rattle.tolerant_intake.specs.Policy.{loose_in}
use Rattle.tolerant_intake.specs.Tolerance.{selected_loose}
use Rattle.tolerant_intake.proofs.PlansMade.{loose_planned}
use Rattle.tolerant_intake.proofs.tolerance.Tolerance.plan_loosely.Goals as goal

pub returns-in-Ok-clause-some : goal.returns-in-Ok-clause-some
returns-in-Ok-clause-some c =
    let l = c.args.self.now in
    let t = c.args.intake.now in
    let f : Frame = record { class = c.in-Ok-Some.frame.class; message_type = c.in-Ok-Some.frame.message_type; body = c.in-Ok-Some.frame.body.now } in
    let rest : List ℕ = c.in-Ok-Some.rest.now in
    let u : LooseUpdate = record { number = c.in-Ok.update.number; name = owned_name c.in-Ok.update.name; rest = c.in-Ok.update.rest.now } in
    let good : IsBytes t.unread = subst IsBytes c.requires.bytes (λ i. omega (arith, c.type_inv.bytes i)) in
    let read : frame_at c.args.bytes.now ≡ Ok (Some (f, rest)) = rw c.in-Ok-Some.field-0-is at c.in-Ok-Some.ensures.frame in
    let front : frame_at t.unread ≡ Ok (Some (f, rest)) = ap frame_at (sym c.requires.bytes) ∙ read in
    let few_there : length rest < length c.args.bytes.now = rw c.in-Ok-Some.field-0-is at c.in-Ok-Some.ensures.fewer in
    let few : length rest < length t.unread = rw c.requires.bytes at few_there in
    let selected : selected_loose l t.state.received ≡ Some c.in-Some.table.now = sym c.selected_loose.ensures ∙ ap option_copied c.in-Some.is in
    let means : meant f.class f.message_type ≡ meanings.Update c.in-Update.numbered c.in-Update.timed = sym c.meaning.ensures ∙ c.in-Update.is in
    let loosely = rw c.as_slice-types.ensures at c.in-Ok.ensures.read in
    let is : loose_in c.in-Some.table.now (meant f.class f.message_type) f.body ≡ Some (Ok u) = rw means (ap (λ (r : Result LooseUpdate Breach). Some r) loosely) in
    let planned = rw c.state.ensures at c.plan_loose_update.ensures in
    loose_planned l t c.in-Some.table.now f rest u _ c.plan_loose_update.result good c.requires.going selected front is few (ap (λ (xs : List ℕ). length xs - length rest) c.requires.bytes) planned
