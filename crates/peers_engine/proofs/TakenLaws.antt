-- What the iterator of a vector has yielded.
use Rattle.std.proofs.Common.{◌≡◌, ◌∙◌, List, [], ◌∷◌, ◌++◌, Some, ap, sym}
use Rattle.std.specs.Iterator.{Yields}
use Rattle.std.specs.Vec.Iter.{into_iter_items, into_iter_steps}
use Rattle.std.specs.declared.vec.IntoIter.{IntoIter}

-- it is the beginning of the vector's items
pub taken_front : {X A : Type 0} (s : IntoIter X A) (xs : List X) (t : IntoIter X A) → Yields into_iter_steps s xs t → into_iter_items s ≡ xs ++ into_iter_items t
taken_front s [] t y = ap into_iter_items y
taken_front s (x ∷ xs) t y = y.1.0 ∙ ap (λ ys. x ∷ ys) (taken_front y.0 xs t y.2)

-- with the next item, and those that are left
pub taken_next : {X A : Type 0} (items : List X) (it s t : IntoIter X A) (xs : List X) (x : X) → into_iter_items it ≡ items → Yields into_iter_steps it xs s → into_iter_steps s (Some x) t → items ≡ xs ++ (x ∷ into_iter_items t)
taken_next items it s t xs x is yields step = sym is ∙ (taken_front it xs s yields ∙ ap (λ ys. xs ++ ys) step.0)
