-- The limit that counts a line.
use Rattle.std.proofs.Common.{◌≡◌, ◌++◌, ◌<◌, ℕ, zero, suc, true, ap, arith, List, [], ◌∷◌, drop, get_or, length, set, take}
use Rattle.node_log.specs.declared.limits.Limit.{Limit}
use Rattle.node_log.specs.declared.waiting.Limited.{Limited}
use Rattle.node_log.specs.Limits.{after}
use Rattle.node_log.specs.Waiting.{are_of, with_line}

pub counted_here : (now : ℕ) (new : Limited) (ls : List Limited) (i : ℕ) (d : Limited) (m : Limit) → i < length ls
    → are_of new.event.now new.peer (get_or ls i d) ≡ true → m ≡ after now (get_or ls i d).limit
    → set ls i (record (get_or ls i d) { limit = m }) ≡ take i ls ++ with_line now new (drop i ls)
counted_here now new [] i d m within are same = absurd (omega (arith, within))
counted_here now new (l ∷ ls) zero d m within are same = rw are (ap (λ (limit : Limit). record l { limit = limit } ∷ ls) same)
counted_here now new (l ∷ ls) (suc i) d m within are same =
    let less : i < length ls = omega (arith, within) in
    ap (λ (rest : List Limited). l ∷ rest) (counted_here now new ls i d m less are same)
