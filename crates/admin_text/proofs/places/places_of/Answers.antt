use Rattle.std.proofs.Common.{◌∙◌, ap, sym}
use Rattle.std.specs.Prelude.{None, Some}
use Rattle.std.specs.declared.alloc.Global.{Global}
use Rattle.std.specs.declared.vec.Vec.{Vec}
use Rattle.std.proofs.lemmas.List.{append-nil}
use Rattle.admin_text.specs.declared.places.Place.{Place}
use Rattle.admin_text.proofs.PlaceLaws.{next_places}
use Rattle.admin_text.proofs.places.places_of.Goals as goal
use Rattle.admin_text.proofs.places.places_of.Goals.{in-Some+in_ok-push, in_default}

pub loop-line-preserved : goal.loop-line-preserved
loop-line-preserved c = elim c.match-place_of.branch [
  | in-Some+in_ok-push w ↦
      next_places c.args.lines.now c.loop-line.line-index c.line-item.result (Some w.in-Some.place) c.loop-line.places.items c.match-place_of.places.items
      c.loop-line-test.true c.line-item.is c.loop-line.invariant w.in-Some.ensures
      (ap (λ (v : Vec Place Global). v.items) w.places-is ∙ w.in_ok-push.ensures.items)
  | in_default w ↦
      next_places c.args.lines.now c.loop-line.line-index c.line-item.result None c.loop-line.places.items c.match-place_of.places.items
      c.loop-line-test.true c.line-item.is c.loop-line.invariant w.in_default.ensures
      (ap (λ (v : Vec Place Global). v.items) w.places-is ∙ sym (append-nil c.loop-line.places.items))
]
