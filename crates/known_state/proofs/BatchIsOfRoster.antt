-- Each update of a batch belongs to a table of the roster.
use Rattle.std.proofs.Common.{◌≡◌, Bool, true, false, ◌&&◌, refl}
use Rattle.table_types.specs.declared.update.Update.{Update}
use Rattle.table_types.specs.Tables.{Definition}
use Rattle.table_types.specs.Updates.{fits, row_fits, may_be_named, life_fits}

and-left : (a b : Bool) → (a && b) ≡ true → a ≡ true
and-left true b h = refl
and-left false b h = h

and-right : (a b : Bool) → (a && b) ≡ true → b ≡ true
and-right true b h = h
and-right false b h = cc

-- the conditions that make up fitting
pub row_of_fits : (d : Definition) (u : Update) → fits d u ≡ true → row_fits d u.key u.values ≡ true
row_of_fits d u fit = and-left (row_fits d u.key u.values) (may_be_named d u.name) (and-left (row_fits d u.key u.values && may_be_named d u.name) (life_fits d u.life) fit)

pub name_of_fits : (d : Definition) (u : Update) → fits d u ≡ true → may_be_named d u.name ≡ true
name_of_fits d u fit = and-right (row_fits d u.key u.values) (may_be_named d u.name) (and-left (row_fits d u.key u.values && may_be_named d u.name) (life_fits d u.life) fit)

pub life_of_fits : (d : Definition) (u : Update) → fits d u ≡ true → life_fits d u.life ≡ true
life_of_fits d u fit = and-right (row_fits d u.key u.values && may_be_named d u.name) (life_fits d u.life) fit
