use Rattle.std.proofs.Common.{ℕ, ◌≤◌, List, slice_index, sym, subst, arith}
use Rattle.retention_flow.proofs.RoomIsLeft.{counts-few}
use Rattle.retention_flow.proofs.room.find_room.Goals as goal

pub greatest-most_over-requires : goal.greatest-most_over-requires
greatest-most_over-requires c =
    (omega arith, subst (λ (l : List ℕ). (place : ℕ) → slice_index l place ≤ 4096) (sym c.deref.ensures.value) (counts-few c.args.arcs.now c.in_ok-room.room.items c.requires.most c.in_ok-room.ensures.1))
