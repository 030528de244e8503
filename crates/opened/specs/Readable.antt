-- A decoded card that can be read, of whatever kind: it has knots enough, and 4, 5, 6 and 9 accept its
-- numbers. Assumes nothing.
use Rattle.std.specs.Prelude.{◌≤◌, take}
use Rattle.curve.specs.Kind.{quintic}
use Rattle.curve.specs.Card.{knots}
use Rattle.lists.specs.Lists.{Checked}
use Rattle.decode.specs.declared.Card.{Card as Decoded}
use Rattle.decode.specs.Decoded.{decoded, Full}

pub record Readable (d : Decoded) : Type 0 where
  pub full : Full d
  pub some : quintic.fewest_knots ≤ knots (decoded d)
  pub checked : (let n = d.knots in Checked (take n d.minutes) (take n d.ordinates) (take n d.slopes) (take n d.curvatures))
