-- Numbers that a float is, and a sheet with two ends that the fit does not refuse before 8: Table 3's knots. Assumes nothing.
use mathlib.Core.Path.{◌≡◌, refl}
use lib.IntN.{pos}
use lib.Ieee.{binary64, of_bits, neg, lt}
use Rattle.whole.specs.Whole.{minus, beyond}
use Rattle.answer.specs.Answer.{accepted, ◌then◌, refuse, each}
use Rattle.curve.specs.Kind.{quintic}
use Rattle.curve.specs.Card.{back}
use Rattle.curve.specs.Steps.{lengths, counted, stands}
use Rattle.curve.proofs.Cases.{table_3, p1}
use Rattle.rows.specs.declared.End.TheVariants.{Both, Curvature}
use Rattle.ends.specs.Ends.{f256, ends}
use Rattle.fit.specs.Fit.{standing}
use Rattle.exact_fit.specs.Given.{Equals}
use Rattle.exact_fit.specs.Solution.{before_8}

-- −1.5, 256, −0
minus_3_halves : Equals (minus 3) 2 (of_bits binary64 0xbff8_0000_0000_0000)
unfolding Equals of_bits
minus_3_halves = refl

is_256 : Equals (pos 256) 1 f256
unfolding Equals of_bits
is_256 = refl

minus_0 : Equals (pos 0) 1 (of_bits binary64 0x8000_0000_0000_0000)
unfolding Equals of_bits
minus_0 = refl

table_3_passes : before_8 p1.minutes p1.ordinates (Both (neg f256) f256) (Curvature f256) ≡ accepted
unfolding p1 table_3 before_8 standing lengths counted stands ends quintic beyond back ◌then◌ refuse each of_bits neg lt
table_3_passes = refl
