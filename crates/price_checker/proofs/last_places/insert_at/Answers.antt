use Rattle.std.proofs.Common.{◌≡◌, ◌-◌, ◌++◌, List, [], length, take, drop, set, ap, ◌∙◌, arith}
use Rattle.std.proofs.lemmas.List.{append-nil, drop_all, length-drop, take_rest}
use Rattle.price_checker.specs.declared.last_places.LastPlace.{LastPlace}
use Rattle.price_checker.proofs.NamesInOrder.{turned}
use Rattle.price_checker.proofs.last_places.insert_at.Goals as goal

pub returns : goal.returns
returns c =
    let ls = c.args.places.now in
    let i = c.args.index in
    let ys = c.rotate_right.new.self in
    let mid : take (length ls - i) (drop i ls) ≡ drop i ls = take_rest ls i in
    let turn : ys ≡ drop (length (drop i ls) - 1) (drop i ls) ++ take (length (drop i ls) - 1) (drop i ls) = c.rotate_right.ensures.after ∙ ap (λ (m : List LastPlace). drop (length m - 1) m ++ take (length m - 1) m) mid in
    let past : drop (length ls - i) (drop i ls) ≡ [] = drop_all (length ls - i) (drop i ls) (omega (arith, length-drop i ls)) in
    ap (λ (t : List LastPlace). set (take i ls ++ (ys ++ t)) i c.args.new) past
    ∙ ap (λ (t : List LastPlace). set (take i ls ++ t) i c.args.new) (append-nil ys)
    ∙ turned ls ys i c.args.new c.requires turn
