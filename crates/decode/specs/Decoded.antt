-- The code's card, decoded once from its bytes: four arrays, each with a list at its front.
-- Assumes nothing.
use Rattle.std.specs.Prelude.{◌≡◌, List, ℕ, ◌≤◌, length, take, replicate, pos}
use Rattle.front.specs.Front.{over}
use Rattle.little_endian.specs.Numbers.{num_at}
use Rattle.curve.specs.Card.{Card}
use Rattle.card_bytes.specs.Held.{minute_at, ordinate_at, slope_at, curvature_at, count_at, card_of}
use Rattle.decode.specs.declared.Card.{Card as Decoded}

-- how many knots the arrays have a place for
abbrev pub most : ℕ
most = 64

-- the card that bytes hold, each list at the front of its array and zeros behind it
unfoldable pub held : List ℕ → Decoded
held s =
    record {
      knots = count_at s;
      left = num_at 2 s 6;
      right = num_at 2 s 8;
      minutes = over (minute_at s) (count_at s) (replicate most 0);
      ordinates = over (ordinate_at s) (count_at s) (replicate most (pos 0));
      slopes = over (slope_at s) (count_at s) (replicate most (pos 0));
      curvatures = over (curvature_at s) (count_at s) (replicate most (pos 0));
    }

-- of no knots: zeros alone
abbrev pub none : Decoded
none =
    let numbers = replicate most (pos 0) in
    record { knots = 0; left = 0; right = 0; minutes = replicate most 0; ordinates = numbers; slopes = numbers; curvatures = numbers }

-- the card that it is
unfoldable pub decoded : Decoded → Card
decoded d =
    record {
      minutes = take d.knots d.minutes;
      ordinates = take d.knots d.ordinates;
      slopes = take d.knots d.slopes;
      curvatures = take d.knots d.curvatures;
      left = d.left;
      right = d.right;
    }

-- the arrays have a place for every knot
pub record Full (d : Decoded) : Type 0 where
  pub few : d.knots ≤ most
  pub minutes : d.knots ≤ length d.minutes
  pub ordinates : d.knots ≤ length d.ordinates
  pub slopes : d.knots ≤ length d.slopes
  pub curvatures : d.knots ≤ length d.curvatures

-- it is the card that bytes hold
pub record Holds (d : Decoded) (s : List ℕ) : Type 0 where
  pub full : Full d
  pub is : decoded d ≡ card_of s
