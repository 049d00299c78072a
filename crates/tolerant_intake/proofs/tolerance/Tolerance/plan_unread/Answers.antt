use Rattle.std.proofs.Common.{◌≡◌, ◌<◌, ◌-◌, ℕ, List, Ok, Some, arith, sym, ap, subst, ◌∙◌, length}
use Rattle.peers_msg.specs.Integers.{IsBytes}
use Rattle.peers_msg.specs.Reading.{Frame, frame_at}
use Rattle.tolerant_intake.proofs.PlansMade.{unread_planned, breach_stands, fault_planned}
use Rattle.tolerant_intake.proofs.tolerance.Tolerance.plan_unread.Goals as goal

pub returns-in-Ok-Some-plan_breach : goal.returns-in-Ok-Some-plan_breach
returns-in-Ok-Some-plan_breach c =
    let t = c.args.intake.now in
    let f : Frame = record { class = c.in-Ok-Some.frame.class; message_type = c.in-Ok-Some.frame.message_type; body = c.in-Ok-Some.frame.body.now } in
    let rest : List ℕ = c.in-Ok-Some.rest.now in
    let good : IsBytes t.unread = subst IsBytes c.requires.bytes (λ i. omega (arith, c.type_inv.bytes i)) in
    let read : frame_at c.args.bytes.now ≡ Ok (Some (f, rest)) = rw c.in-Ok-Some.field-0-is at c.in-Ok-Some.ensures.frame in
    let front : frame_at t.unread ≡ Ok (Some (f, rest)) = ap frame_at (sym c.requires.bytes) ∙ read in
    let few_there : length rest < length c.args.bytes.now = rw c.in-Ok-Some.field-0-is at c.in-Ok-Some.ensures.fewer in
    let few : length rest < length t.unread = rw c.requires.bytes at few_there in
    let planned = rw c.in-Ok-Some-plan_breach.field-0-is at c.in-Ok-Some-plan_breach.ensures in
    unread_planned c.args.self.now t f rest c.args.breach _ c.in-Ok-Some-plan_breach.plan good c.requires.strict c.requires.looks front few (ap (λ (xs : List ℕ). length xs - length rest) c.requires.bytes) planned

pub returns-in-Ok-None : goal.returns-in-Ok-None
returns-in-Ok-None c =
    let t = c.args.intake.now in
    let f : Frame = record { class = c.in-Ok-Some.frame.class; message_type = c.in-Ok-Some.frame.message_type; body = c.in-Ok-Some.frame.body.now } in
    let rest : List ℕ = c.in-Ok-Some.rest.now in
    let read : frame_at c.args.bytes.now ≡ Ok (Some (f, rest)) = rw c.in-Ok-Some.field-0-is at c.in-Ok-Some.ensures.frame in
    let front : frame_at t.unread ≡ Ok (Some (f, rest)) = ap frame_at (sym c.requires.bytes) ∙ read in
    let strict = rw c.in-Ok-None.field-0-is at c.in-Ok-None.ensures in
    breach_stands c.args.self.now t f rest c.args.breach c.requires.strict c.requires.looks front strict

pub returns-in-Err : goal.returns-in-Err
returns-in-Err c =
    let t = c.args.intake.now in
    let f : Frame = record { class = c.in-Ok-Some.frame.class; message_type = c.in-Ok-Some.frame.message_type; body = c.in-Ok-Some.frame.body.now } in
    let rest : List ℕ = c.in-Ok-Some.rest.now in
    let read : frame_at c.args.bytes.now ≡ Ok (Some (f, rest)) = rw c.in-Ok-Some.field-0-is at c.in-Ok-Some.ensures.frame in
    let front : frame_at t.unread ≡ Ok (Some (f, rest)) = ap frame_at (sym c.requires.bytes) ∙ read in
    fault_planned c.args.self.now t f rest c.args.breach (length c.args.bytes.now - length rest) c.in-Err.fault c.requires.strict c.requires.looks front c.in-Err.ensures
