use Rattle.std.proofs.Common.{◌≡◌, ◌<◌, ◌≤◌, ◌++◌, ℕ, List, Some, is_some, length, drop, take, subst, sym, ap, ◌∙◌, arith}
use Rattle.std.proofs.lemmas.Result.{on_ok_weaker}
use Rattle.table_types.specs.Tables.{Definition}
use Rattle.table_cell.specs.Histories.{CellState}
use Rattle.interleave_core.specs.declared.acks.Acknowledgement.{Acknowledgement}
use Rattle.interleave_core.specs.declared.connection.Connection.{Connection}
use Rattle.interleave_core.specs.Acks.{AreAcksOf, pairs_of}
use Rattle.interleave_core.specs.Moves.{acked_all}
use Rattle.interleave_core.specs.Parts.{IsConnectionAt, connection_of}
use Rattle.interleave_core.specs.Worlds.{roster_of}
use Rattle.interleave_core.proofs.Deliveries.{arrived_at_teacher, none_of, refused, same_item, too_few_for_teacher, track_at}
use Rattle.interleave_core.proofs.parts.Parts.deliver_to_teacher.Goals as goal

pub returns-then-len-count : goal.returns-then-len-count
returns-then-len-count c = λ track now.
    let cs = c.args.self.now.connections.items in
    let place : IsConnectionAt c.args.session cs c.in-Some.place = subst (λ xs. IsConnectionAt c.args.session xs c.in-Some.place) c.as_slice.ensures.value c.in-Some.ensures.found in
    let few : length c.index-connection.result.now.to_teacher < c.args.count = omega (arith, c.len.ensures, c.if-len-count.true) in
    too_few_for_teacher c.args.session c.args.count c.in-Some.place c.args.self.now.cells.items cs c.index-connection.result.now place c.index-connection.ensures few

pub returns-then-not-are_taken : goal.returns-then-not-are_taken
returns-then-not-are_taken c = λ track now.
    let session = c.args.session in
    let count = c.args.count in
    let cs = c.args.self.now.connections.items in
    let cells = c.args.self.now.cells.items in
    let read = c.in_ok-read.read in
    let old = c.index-connection.result.now in
    let place : IsConnectionAt session cs c.in-Some.place = subst (λ xs. IsConnectionAt session xs c.in-Some.place) c.as_slice.ensures.value c.in-Some.ensures.found in
    let there : count ≤ length old.to_teacher = omega (arith, c.len.ensures, c.if-len-count.false) in
    let known : old.known.roster ≡ roster_of cells = (track_at (roster_of cells) cs c.in-Some.place old track place.below c.index-connection.ensures).known in
    let good : AreAcksOf (roster_of cells) (old.unread ++ take count old.to_teacher) read =
    subst (λ (x : List Definition). AreAcksOf x (old.unread ++ take count old.to_teacher) read) (c.roster.ensures.roster ∙ known)
    (subst (λ (x : List ℕ). AreAcksOf c.roster.result.now (x ++ take count old.to_teacher) read) c.as_slice-2.ensures
    (subst (λ (x : List ℕ). AreAcksOf c.roster.result.now (c.as_slice-2.result.now ++ take count x) read) c.as_slice-3.ensures c.in_ok-read.ensures)) in
    let answer : c.are_taken.result ≡ is_some (acked_all session (pairs_of read.acks.items) cells) =
    c.are_taken.ensures
    ∙ ap (λ (x : List CellState). is_some (acked_all session (pairs_of c.as_slice-5.result.now) x)) c.as_slice-4.ensures.value
    ∙ ap (λ (x : List Acknowledgement). is_some (acked_all session (pairs_of x) cells)) c.as_slice-5.ensures.value in
    refused session count c.in-Some.place cells cs old read place c.index-connection.ensures there good
    (none_of (acked_all session (pairs_of read.acks.items) cells) (sym answer ∙ c.if-not-are_taken.true))

pub returns : goal.returns
returns c = λ track.
    let session = c.args.session in
    let count = c.args.count in
    let cs = c.args.self.now.connections.items in
    let cells = c.args.self.now.cells.items in
    let read = c.in_ok-read.read in
    let old = c.index-connection.result.now in
    let new = c.arrive.new.self in
    let place : IsConnectionAt session cs c.in-Some.place = subst (λ xs. IsConnectionAt session xs c.in-Some.place) c.as_slice.ensures.value c.in-Some.ensures.found in
    let there : count ≤ length old.to_teacher = omega (arith, c.len.ensures, c.if-len-count.false) in
    let known : old.known.roster ≡ roster_of cells = (track_at (roster_of cells) cs c.in-Some.place old track place.below c.index-connection.ensures).known in
    let good : AreAcksOf (roster_of cells) (old.unread ++ take count old.to_teacher) read =
    subst (λ (x : List Definition). AreAcksOf x (old.unread ++ take count old.to_teacher) read) (c.roster.ensures.roster ∙ known)
    (subst (λ (x : List ℕ). AreAcksOf c.roster.result.now (x ++ take count old.to_teacher) read) c.as_slice-2.ensures
    (subst (λ (x : List ℕ). AreAcksOf c.roster.result.now (c.as_slice-2.result.now ++ take count x) read) c.as_slice-3.ensures c.in_ok-read.ensures)) in
    let made : acked_all session (pairs_of read.acks.items) cells ≡ Some c.make_each.new.cells.items =
    subst (λ (x : List Acknowledgement). acked_all session (pairs_of x) cells ≡ Some c.make_each.new.cells.items) c.as_slice-6.ensures.value c.in_ok-make_each.ensures in
    let same : c.index_mut.result.now ≡ old = same_item cs c.in-Some.place c.index_mut.result.now old place.below c.index_mut.ensures.value c.index-connection.ensures in
    on_ok_weaker c.arrive.result
    (λ changed now.
    arrived_at_teacher session count c.in-Some.place cells c.make_each.new.cells.items cs old new read place c.index-connection.ensures there good made
    (subst (λ (x : Connection). connection_of new ≡ record (connection_of x) { to_teacher = drop count x.to_teacher; unread = drop read.used (x.unread ++ take count x.to_teacher) }) same changed))
    c.arrive.ensures
