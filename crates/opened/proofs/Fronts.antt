-- A decoded card's lists are the fronts of its arrays, each as long as the card has knots.
-- Assumes nothing.
use mathlib.Core.Path.{◌≡◌, sym, ◌∙◌, ap}
use mathlib.Core.List.{List}
use Prim.Native.Nat.{ℕ}
use native.Mathlib.Omega.{arith}
use lib.ListN.{length, take}
use lib.Seq.{length-take-le}
use Rattle.curve.specs.Card.{Card, knots}
use Rattle.lists.specs.Lists.{Long}
use Rattle.card_bytes.specs.Held.{card_of}
use Rattle.decode.specs.declared.Card.{Card as Decoded}
use Rattle.decode.specs.Decoded.{decoded, Full, Holds}

pub knots_decoded : (d : Decoded) → Full d → knots (decoded d) ≡ d.knots
unfolding knots decoded
knots_decoded d f = length-take-le d.knots d.minutes f.minutes

pub knots_held : {d : Decoded} {s : List ℕ} → Holds d s → d.knots ≡ knots (card_of s)
knots_held {d} h = sym (knots_decoded d h.full) ∙ ap knots h.is

pub record Fronts (d : Decoded) (c : Card) : Type 0 where
  pub minutes : length c.minutes ≡ d.knots
  pub ordinates : length c.ordinates ≡ d.knots
  pub slopes : length c.slopes ≡ d.knots
  pub curvatures : length c.curvatures ≡ d.knots

decoded_fronts : (d : Decoded) → Full d → Fronts d (decoded d)
unfolding decoded
decoded_fronts d f =
    record {
      minutes = length-take-le d.knots d.minutes f.minutes;
      ordinates = length-take-le d.knots d.ordinates f.ordinates;
      slopes = length-take-le d.knots d.slopes f.slopes;
      curvatures = length-take-le d.knots d.curvatures f.curvatures;
    }

pub fronts : {d : Decoded} {s : List ℕ} → Holds d s → Fronts d (card_of s)
fronts {d} h = rw (← h.is) (decoded_fronts d h.full)

-- what the numbers' checks ask of the fronts of the arrays
pub long_fronts : {d : Decoded} → Full d → (let n = d.knots in Long (take n d.minutes) (take n d.ordinates) (take n d.slopes) (take n d.curvatures))
unfolding decoded
long_fronts {d} f =
    let l = decoded_fronts d f in
    record {
      few = omega (arith, f.few, l.minutes);
      ordinates = l.ordinates ∙ sym l.minutes;
      slopes = l.slopes ∙ sym l.minutes;
      curvatures = l.curvatures ∙ sym l.minutes;
    }
