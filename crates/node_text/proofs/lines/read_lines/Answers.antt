use Rattle.std.proofs.Common.{◌≡◌, Err, ℕ, arith, subst}
use Rattle.std.specs.Prelude.{Result}
use Rattle.node_text.specs.Scripts.{IsLineOf, line_count}
use Rattle.node_text.specs.declared.error.SceneError.{SceneError}
use Rattle.node_text.specs.declared.error.SceneError.TheVariants as errors
use Rattle.node_text.proofs.LineNumbers.{is_last_line, is_line, next_length, next_number}
use Rattle.node_text.proofs.lines.read_lines.Goals as goal

same_line : (k n : ℕ) → ◌≡◌ {A = Result (Unit {0}) SceneError} (Err (errors.Line k)) (Err (errors.Line n)) → k ≡ n
same_line k n is = cc

pub returns-in-Err-Memory-clause-sound : goal.returns-in-Err-Memory-clause-sound
returns-in-Err-Memory-clause-sound g c = λ before.
    let invariant = c.loop-line.invariant in
    let line = is_line c.loop-line.rest.now c.in-Some.line.now c.in-Some.after.now _ _ c.in-Some.ensures.0 invariant.number invariant.counted in
    c.read_line.ensures (line_count c.args.text.now) (invariant.sound before) line

pub returns-in-Err-Refused-clause-sound : goal.returns-in-Err-Refused-clause-sound
returns-in-Err-Refused-clause-sound g c = λ before.
    let invariant = c.loop-line.invariant in
    let line = is_line c.loop-line.rest.now c.in-Some.line.now c.in-Some.after.now _ _ c.in-Some.ensures.0 invariant.number invariant.counted in
    c.read_line.ensures (line_count c.args.text.now) (invariant.sound before) line

pub returns-in-Err-Refused-clause-line : goal.returns-in-Err-Refused-clause-line
returns-in-Err-Refused-clause-line g c = λ number is.
    let invariant = c.loop-line.invariant in
    let line = is_line c.loop-line.rest.now c.in-Some.line.now c.in-Some.after.now _ _ c.in-Some.ensures.0 invariant.number invariant.counted in
    subst (IsLineOf (line_count c.args.text.now)) (same_line c.loop-line.number number is) line

pub loop-line-preserved : goal.loop-line-preserved
loop-line-preserved g c =
    let invariant = c.loop-line.invariant in
    let cut = c.in-Some.ensures.0 in
    let line = is_line c.loop-line.rest.now c.in-Some.line.now c.in-Some.after.now _ _ cut invariant.number invariant.counted in
    record {
      number = omega arith;
      within = next_length c.loop-line.rest.now c.in-Some.line.now c.in-Some.after.now _ _ cut invariant.within;
      counted = next_number c.loop-line.rest.now c.in-Some.line.now c.in-Some.after.now _ _ cut invariant.counted;
      sound = λ before. c.read_line.ensures (line_count c.args.text.now) (invariant.sound before) line;
    }

pub returns-else-is_empty-clause-line : goal.returns-else-is_empty-clause-line
returns-else-is_empty-clause-line g c = λ number is.
    let invariant = c.loop-line.invariant in
    let line = is_last_line c.loop-line.rest.now c.is_empty.result _ _ c.is_empty.ensures c.if-is_empty.false invariant.number invariant.counted in
    subst (IsLineOf (line_count c.args.text.now)) (same_line c.loop-line.number number is) line
