use Rattle.std.proofs.Common.{◌∙◌, ◌++◌, ap, flat_map, length, map}
use Rattle.peers_msg.specs.Spelling.{spelled}
use Rattle.node_text.specs.Lessons.{line_of, sums_of}
use Rattle.node_text.proofs.LessonLines.{are_frames, stream_joined}
use Rattle.node_text.proofs.lessons.printed_lesson.Goals as goal

pub returns-clause-frames : goal.returns-clause-frames
returns-clause-frames c = λ frames are same.
    let lines = flat_map line_of frames in
    c.in_ok-push_sums.ensures
    ∙ ap (λ t. t ++ sums_of (length c.args.bytes.now) c.args.prices.now) (c.in_ok-push_messages.ensures frames are same ∙ ap (λ t. t ++ lines) c.new-text.ensures.items)
    ∙ ap (λ bytes. lines ++ sums_of (length bytes) c.args.prices.now) same

pub returns-clause-messages : goal.returns-clause-messages
returns-clause-messages c = λ messages same.
    let frames = map spelled messages in
    let all = same ∙ stream_joined messages in
    let lines = flat_map line_of frames in
    c.in_ok-push_sums.ensures
    ∙ ap (λ t. t ++ sums_of (length c.args.bytes.now) c.args.prices.now) (c.in_ok-push_messages.ensures frames (are_frames messages) all ∙ ap (λ t. t ++ lines) c.new-text.ensures.items)
    ∙ ap (λ bytes. lines ++ sums_of (length bytes) c.args.prices.now) all
