use Rattle.std.proofs.Common.{ap, arith, length}
use Rattle.node_text.proofs.LessonLines.{all_lines, line_added}
use Rattle.node_text.proofs.LineNumbers.{some_length}
use Rattle.node_text.proofs.lessons.push_messages.Goals as goal

pub loop-message-preserved : goal.loop-message-preserved
loop-message-preserved c = λ frames are same.
    let before = c.loop-message.invariant frames are same in
    let parts = c.in-Some.ensures.frame in
    line_added c.loop-message.rest.now c.loop-message.text.items c.push_line.new.text.items _ c.in-Some.message.now c.in-Some.after.now
    before.0 before.1 before.2 parts.0 parts.1 c.in-Some.ensures.found c.in_ok-push_line.ensures before.3

pub returns-in_ok-push_line-2 : goal.returns-in_ok-push_line-2
returns-in_ok-push_line-2 c = λ frames are same.
    let before = c.loop-message.invariant frames are same in
    let none = (all_lines c.loop-message.rest.now c.loop-message.text.items _ before.0 before.1 before.2 c.in_default.ensures.found before.3).0 in
    let some = some_length c.loop-message.rest.now _ c.is_empty.ensures c.if-not-is_empty.true in
    absurd (omega (arith, some, ap length none))

pub returns-else-not-is_empty : goal.returns-else-not-is_empty
returns-else-not-is_empty c = λ frames are same.
    let before = c.loop-message.invariant frames are same in
    (all_lines c.loop-message.rest.now c.loop-message.text.items _ before.0 before.1 before.2 c.in_default.ensures.found before.3).1
