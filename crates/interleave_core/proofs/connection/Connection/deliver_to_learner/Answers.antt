use Rattle.std.proofs.Common.{◌≡◌, ◌<◌, ◌≤◌, ◌+◌, ℕ, List, Ok, length, take, subst, arith, ap}
use Rattle.learner.specs.Learning.{LearnerFeeds}
use Rattle.interleave_core.specs.Parts.{connection_of}
use Rattle.interleave_core.specs.Worlds.{ConnectionState}
use Rattle.interleave_core.proofs.Deliveries.{fed_on_track, too_few_for_learner}
use Rattle.interleave_core.proofs.connection.Connection.deliver_to_learner.Goals as goal

pub returns-then-len-count : goal.returns-then-len-count
returns-then-len-count c = λ roster track.
    let few : length c.args.self.now.to_learner < c.args.count = omega (arith, c.len.ensures, c.if-len-count.true) in
    too_few_for_learner c.args.count c.args.now (connection_of c.args.self.now) few

pub returns : goal.returns
returns c = λ roster track.
    let old = c.args.self.now in
    let there : c.args.count ≤ length old.to_learner = omega (arith, c.len.ensures, c.if-len-count.false) in
    let feeds : LearnerFeeds c.args.now old.learner (take c.args.count old.to_learner) (Ok c.in-Ok.rows) c.feed.new.self =
    subst (λ (bytes : List ℕ). LearnerFeeds c.args.now old.learner (take c.args.count bytes) (Ok c.in-Ok.rows) c.feed.new.self) c.as_slice.ensures c.in-Ok.ensures.feeds in
    let within : old.applied + c.in-Ok.rows ≤ length old.taught.items → c.saturating_add-self.result ≡ old.applied + c.in-Ok.rows =
    λ fits. omega (arith, fits, c.saturating_add-self.ensures, old.taught.ok.0, old.taught.ok.1, old.taught.small) in
    let past : length old.taught.items ≤ old.applied → length old.taught.items ≤ c.saturating_add-self.result =
    λ all. omega (arith, all, c.saturating_add-self.ensures, old.taught.ok.0, old.taught.ok.1, old.taught.small) in
    let e : ConnectionState = record (connection_of old) { applied = take c.saturating_add-self.result old.taught.items; to_learner = c.advance.new.self; learner = c.feed.new.self } in
    fed_on_track roster old c.args.now c.args.count c.in-Ok.rows c.saturating_add-self.result c.feed.new.self e track feeds there within past
    (ap (λ (bytes : List ℕ). record (connection_of old) { applied = take c.saturating_add-self.result old.taught.items; to_learner = bytes; learner = c.feed.new.self }) c.advance.ensures)
