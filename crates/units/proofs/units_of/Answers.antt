-- `units::units_of` meets its contract. Assumes nothing.
use mathlib.Core.Path.{◌≡◌, sym, subst, ◌∙◌}
use native.Mathlib.Omega.{arith}
use lib.Dec.{T}
use lib.Ieee.{binary64, fits}
use mir.Syntax.{w32}
use mir.Val.{to_z, of_z}
use borrow.Author.Rules.{rules}
use Rattle.units.specs.Bits.{size_of}
use Rattle.units.proofs.Fields.{no_nan, held_by_bits}
use Rattle.units.proofs.units_of.Goals as goal
use Rattle.units.proofs.units_of.Goals.{Start}

-- the format holds what an `f64` is
fits_format : (c : Start) → T (fits binary64 c.args.u)
fits_format c = subst T (sym c.well_formed.0.1) tt

pub float_to_bits-bits : goal.float_to_bits-bits
float_to_bits-bits c = no_nan c.args.u c.requires

pub signed-requires : goal.signed-requires
unfolding size_of
signed-requires c = omega (arith, c.size.ensures)

pub returns : goal.returns
returns c =
    let s = c.before.before in
    let r = c.signed.result in
    let e : to_z w32 (of_z w32 r) ≡ r = search rules in
    e ∙ c.signed.ensures ∙ held_by_bits s.args.u (fits_format s) s.requires c.size.result c.size.ensures
