use Rattle.std.proofs.Common.{◌≡◌, ◌<◌, cond, List, [], length, take, Some, refl, sym, ap, subst, ◌∙◌, arith}
use Rattle.std.proofs.lemmas.List.{get_or-take, length-set}
use Rattle.table_types.specs.Rosters.{is_same_name}
use Rattle.price_checker.specs.declared.last_places.LastPlace.{LastPlace}
use Rattle.price_checker.specs.LastPlaces.{place_of, NamesRise, HasNameAt, IsGapFor}
use Rattle.price_checker.proofs.NamesInOrder.{count_is, renewed, grown, place_here, place_in_gap, rise_moved, place_moved, rise_inserted, place_inserted}
use Rattle.price_checker.proofs.last_places.LastPlaces.insert.Goals as goal

-- the name is there

pub invariant_of-self : goal.invariant_of-self
invariant_of-self c =
    let places = c.self.inside.places in
    let count = c.self.inside.count in
    let d : LastPlace = record { name = record { ref_ptr = (0, 0); now = [] }; place = 0 } in
    let here : HasNameAt (take count places) c.args.name.now c.in-Ok.index = subst (λ (ls : List LastPlace). HasNameAt ls c.args.name.now c.in-Ok.index) (sym c.self.view_is) c.in-Ok.ensures.found in
    let below : c.in-Ok.index < count = omega (arith, here.0, count_is places (take count places) count (omega arith) refl) in (
      omega (arith, length-set {A = LastPlace}),
      omega arith,
      subst NamesRise (sym (renewed places count c.in-Ok.index d c.args.place below)) (rise_moved (take count places) c.in-Ok.index d c.args.place c.self.invariant.2 here.0),
    )

pub returns-in-Ok-clause-before : goal.returns-in-Ok-clause-before
returns-in-Ok-clause-before c =
    let places = c.self.inside.places in
    let count = c.self.inside.count in
    let d : LastPlace = record { name = record { ref_ptr = (0, 0); now = [] }; place = 0 } in
    let here : HasNameAt (take count places) c.args.name.now c.in-Ok.index = subst (λ (ls : List LastPlace). HasNameAt ls c.args.name.now c.in-Ok.index) (sym c.self.view_is) c.in-Ok.ensures.found in
    let below : c.in-Ok.index < count = omega (arith, here.0, count_is places (take count places) count (omega arith) refl) in
    ap (λ (l : LastPlace). Some l.place) (sym (get_or-take count places c.in-Ok.index d below))
    ∙ sym (place_here (take count places) c.args.name.now c.in-Ok.index d c.self.invariant.2 here.0 (here.1 d))
    ∙ ap (λ (ls : List LastPlace). place_of ls c.args.name.now) c.self.view_is

pub returns-in-Ok-clause-after : goal.returns-in-Ok-clause-after
returns-in-Ok-clause-after c = λ other.
    let places = c.self.inside.places in
    let count = c.self.inside.count in
    let d : LastPlace = record { name = record { ref_ptr = (0, 0); now = [] }; place = 0 } in
    let here : HasNameAt (take count places) c.args.name.now c.in-Ok.index = subst (λ (ls : List LastPlace). HasNameAt ls c.args.name.now c.in-Ok.index) (sym c.self.view_is) c.in-Ok.ensures.found in
    let below : c.in-Ok.index < count = omega (arith, here.0, count_is places (take count places) count (omega arith) refl) in
    ap (λ (ls : List LastPlace). place_of ls other) (renewed places count c.in-Ok.index d c.args.place below)
    ∙ place_moved (take count places) c.args.name.now other c.in-Ok.index d c.args.place c.self.invariant.2 here.0 (here.1 d)
    ∙ ap (λ (ls : List LastPlace). cond (is_same_name c.args.name.now other) (Some c.args.place) (place_of ls other)) c.self.view_is

-- it isn't

pub invariant_of-self-in-Err : goal.invariant_of-self-in-Err
invariant_of-self-in-Err c =
    let places = c.self.inside.places in
    let count = c.self.inside.count in
    let new : LastPlace = record { name = c.args.name; place = c.args.place } in
    let gap : IsGapFor (take count places) c.args.name.now c.in-Err.index = subst (λ (ls : List LastPlace). IsGapFor ls c.args.name.now c.in-Err.index) (sym c.self.view_is) c.in-Err.ensures.absent in
    let size : count ≡ length c.args.self.now = count_is places c.args.self.now count (omega arith) c.self.view_is in
    let more = grown places c.insert_at.new.places count c.in-Err.index new (omega arith) (omega (arith, c.in-Err.ensures.absent.0)) c.insert_at.ensures in
    (more.1 ∙ c.self.invariant.0, omega arith, subst NamesRise (sym more.0) (rise_inserted (take count places) c.in-Err.index new c.self.invariant.2 gap))

pub returns-in-Err-clause-before : goal.returns-in-Err-clause-before
returns-in-Err-clause-before c = sym (place_in_gap c.args.self.now c.args.name.now c.in-Err.index c.in-Err.ensures.absent)

pub returns-in-Err-clause-after : goal.returns-in-Err-clause-after
returns-in-Err-clause-after c = λ other.
    let places = c.self.inside.places in
    let count = c.self.inside.count in
    let new : LastPlace = record { name = c.args.name; place = c.args.place } in
    let gap : IsGapFor (take count places) c.args.name.now c.in-Err.index = subst (λ (ls : List LastPlace). IsGapFor ls c.args.name.now c.in-Err.index) (sym c.self.view_is) c.in-Err.ensures.absent in
    let size : count ≡ length c.args.self.now = count_is places c.args.self.now count (omega arith) c.self.view_is in
    let more = grown places c.insert_at.new.places count c.in-Err.index new (omega arith) (omega (arith, c.in-Err.ensures.absent.0)) c.insert_at.ensures in
    ap (λ (ls : List LastPlace). place_of ls other) more.0
    ∙ place_inserted (take count places) other c.in-Err.index new gap
    ∙ ap (λ (ls : List LastPlace). cond (is_same_name c.args.name.now other) (Some c.args.place) (place_of ls other)) c.self.view_is
