use Rattle.std.proofs.Common.{◌≡◌, ◌≤◌, ◌-◌, ◌++◌, ℕ, None, Ok, ap, ◌∙◌, arith, length}
use Rattle.peers_msg.specs.Integers.{IsBytes}
use Rattle.peers_msg.specs.Decoding.{Decoding, DecoderNext}
use Rattle.interleave_core.proofs.Arriving.{all_read, none_read, one_read, unread_fewer, unread_shorter}
use Rattle.interleave_core.proofs.OnItsWay.{IsBytes-append}
use Rattle.interleave_core.proofs.acks.read_acks.Goals as goal

pub loop-acks-init : goal.loop-acks-init
loop-acks-init c =
    none_read c.args.roster.now (c.args.unread.now ++ c.args.piece.now) c.new-acks.result.items c.in_ok-decoder.decoder c.in_ok-decoder.ensures c.new-acks.ensures.items

pub loop-acks-preserved : goal.loop-acks-preserved
loop-acks-preserved c =
    let next = rw c.in-Some.is at c.in_ok-message.ensures in
    one_read c.args.roster.now (c.args.unread.now ++ c.args.piece.now) c.loop-acks.acks.items c.append_ack.new.acks.items c.loop-acks.decoder c.next.new.decoder c.in-Some.message c.loop-acks.invariant next c.in_ok-append_ack.ensures

pub loop-acks-smaller : goal.loop-acks-smaller
loop-acks-smaller c =
    let next = rw c.in-Some.is at c.in_ok-message.ensures in
    let good : IsBytes (c.args.unread.now ++ c.args.piece.now) = IsBytes-append c.args.unread.now c.args.piece.now (λ i. omega (arith, c.type_inv.unread i)) (λ i. omega (arith, c.type_inv.piece i)) in
    unread_shorter c.args.roster.now (c.args.unread.now ++ c.args.piece.now) c.loop-acks.acks.items c.loop-acks.decoder c.next.new.decoder c.in-Some.message good c.loop-acks.invariant next

pub overflow_sub-used : goal.overflow_sub-used
overflow_sub-used c =
    let bytes = c.args.unread.now ++ c.args.piece.now in
    let ended : DecoderNext c.loop-acks.decoder (Ok None) c.next.new.decoder = rw c.in_default.is at c.in_ok-message.ensures in
    let good : IsBytes bytes = IsBytes-append c.args.unread.now c.args.piece.now (λ i. omega (arith, c.type_inv.unread i)) (λ i. omega (arith, c.type_inv.piece i)) in
    let fewer : length c.next.new.decoder.unread ≤ length bytes = unread_fewer c.args.roster.now bytes c.loop-acks.acks.items c.loop-acks.decoder c.next.new.decoder good c.loop-acks.invariant ended.2 in
    let all : c.waiting-arrived.result ≡ length bytes = c.waiting-arrived.ensures ∙ ap (λ (d : Decoding). length d.unread) c.in_ok-decoder.ensures in
    omega (arith, fewer, all, c.waiting.ensures)

pub returns : goal.returns
returns c =
    let bytes = c.args.unread.now ++ c.args.piece.now in
    let ended : DecoderNext c.loop-acks.decoder (Ok None) c.next.new.decoder = rw c.in_default.is at c.in_ok-message.ensures in
    let good : IsBytes bytes = IsBytes-append c.args.unread.now c.args.piece.now (λ i. omega (arith, c.type_inv.unread i)) (λ i. omega (arith, c.type_inv.piece i)) in
    let all : c.waiting-arrived.result ≡ length bytes = c.waiting-arrived.ensures ∙ ap (λ (d : Decoding). length d.unread) c.in_ok-decoder.ensures in
    all_read c.args.roster.now bytes (record { acks = c.loop-acks.acks; used = c.waiting-arrived.result - c.waiting.result }) c.loop-acks.decoder c.next.new.decoder
    good c.loop-acks.invariant ended
    (ap (λ (n : ℕ). c.waiting-arrived.result - n) c.waiting.ensures ∙ ap (λ (n : ℕ). n - length c.next.new.decoder.unread) all)
