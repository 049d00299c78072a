use Rattle.std.proofs.Common.{ℕ, ◌+◌, ◌++◌, ◌-◌, ◌/◌, List, length, vec_len, sym, ◌∙◌, subst, arith}
use Rattle.peers_encint.specs.Integers.{spelling}
use Rattle.peers_encint.proofs.OneSpelling.{within}
use Rattle.peers_encint.proofs.SpellingLoop.{first_byte, later_byte}
use Rattle.peers_msg.proofs.AppendedIntegers.{Remains, remains-first, remains-room, remains-more, remains-last}
use Rattle.peers_msg.proofs.encoding.append_long.Goals as goal

pub push_reserved-requires : goal.push_reserved-requires
push_reserved-requires c = omega (arith, (within c.args.n).0)

pub loop-rest-init : goal.loop-rest-init
loop-rest-init c =
    let whole : List ℕ = c.args.out.now.items ++ spelling c.args.n in
    let total : ℕ = vec_len c.args.out.now + length (spelling c.args.n) in
    let rest : ℕ = (c.args.n - 240) / 16 in
    let first = remains-first c.args.out.now.items (vec_len c.args.out.now) c.args.n _ c.requires.long (omega arith) (first_byte c.args.n) in
    record {
      left =
          subst (λ (v : ℕ). Remains c.push_reserved.new.self.items v rest whole total) (sym c.push_reserved.ensures.len)
          (subst (λ (l : List ℕ). Remains l (vec_len c.args.out.now + 1) rest whole total) (sym c.push_reserved.ensures.items) first);
      capacity = omega arith;
    }

pub push_reserved-requires-in-loop-rest : goal.push_reserved-requires-in-loop-rest
push_reserved-requires-in-loop-rest c = omega (arith, c.requires.room, remains-room _ _ _ _ _ c.loop-rest.invariant.left)

pub loop-rest-preserved : goal.loop-rest-preserved
loop-rest-preserved c =
    let l = c.loop-rest in
    let whole : List ℕ = c.args.out.now.items ++ spelling c.args.n in
    let total : ℕ = vec_len c.args.out.now + length (spelling c.args.n) in
    let rest : ℕ = (l.rest - 128) / 128 in
    let more = remains-more l.out.items (vec_len l.out) l.rest _ whole total (omega arith) (later_byte l.rest) l.invariant.left in
    record {
      left =
          subst (λ (v : ℕ). Remains c.push_reserved-in-loop-rest.new.self.items v rest whole total) (sym c.push_reserved-in-loop-rest.ensures.len)
          (subst (λ (bytes : List ℕ). Remains bytes (vec_len l.out + 1) rest whole total) (sym c.push_reserved-in-loop-rest.ensures.items) more);
      capacity = omega arith;
    }

pub push_reserved-requires-2 : goal.push_reserved-requires-2
push_reserved-requires-2 c = omega (arith, c.requires.room, remains-room _ _ _ _ _ c.loop-rest.invariant.left)

pub returns-clause-appended : goal.returns-clause-appended
returns-clause-appended c =
    let last = remains-last c.loop-rest.out.items (vec_len c.loop-rest.out) c.loop-rest.rest _ _ (omega arith) c.loop-rest.invariant.left in
    c.push_reserved-2.ensures.items ∙ last.0

pub returns-clause-room : goal.returns-clause-room
returns-clause-room c =
    let last = remains-last c.loop-rest.out.items (vec_len c.loop-rest.out) c.loop-rest.rest _ _ (omega arith) c.loop-rest.invariant.left in
    omega (arith, last.1)
