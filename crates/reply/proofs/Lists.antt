-- The lists of the gathered knots, each the front of an array: the arrays have that many places, and the lists one length.
-- Assumes nothing.
use Prim.Native.Nat.{◌≤◌}
use mathlib.Core.Path.{◌≡◌, sym, ◌∙◌}
use mathlib.Core.List.{List}
use native.Mathlib.Omega.{arith}
use lib.IntN.{pos}
use lib.ListN.{length, take, replicate}
use lib.Seq.{length-take-le}
use Rattle.gather.specs.declared.Gathered.{Gathered}
use Rattle.gather.specs.Gathered.{most}
use Rattle.reply.proofs.Gathers.{Roomy}

module _ {a : Gathered} (r : Roomy a) where
  pub minutes_hold : a.knots ≤ length a.minutes
  minutes_hold = omega arith

  pub ordinates_hold : a.knots ≤ length a.ordinates
  ordinates_hold = omega arith

  pub as_many_minutes : a.knots ≡ length (take a.knots a.minutes)
  as_many_minutes = sym (length-take-le a.knots a.minutes minutes_hold)

  pub as_many_ordinates : a.knots ≡ length (take a.knots a.ordinates)
  as_many_ordinates = sym (length-take-le a.knots a.ordinates ordinates_hold)

  pub as_many_zeros : a.knots ≡ length (take a.knots (replicate most (pos 0)))
  as_many_zeros = sym (length-take-le a.knots (replicate most (pos 0)) r.few)

  -- any other list with as many places
  module _ {A : Type 0} (l : List A) (places : length l ≡ most) where
    pub list_holds : a.knots ≤ length l
    list_holds = omega arith

    pub as_many_of : a.knots ≡ length (take a.knots l)
    as_many_of = sym (length-take-le a.knots l list_holds)

  pub few_minutes : length (take a.knots a.minutes) ≤ 65
  few_minutes = omega (arith, as_many_minutes, r.few)

  pub one_length :
      (length (take a.knots a.ordinates) ≡ length (take a.knots a.minutes)) × (length (take a.knots (replicate most (pos 0))) ≡ length (take a.knots a.minutes))
      × (length (take a.knots (replicate most (pos 0))) ≡ length (take a.knots a.minutes))
  one_length = (sym as_many_ordinates ∙ as_many_minutes, sym as_many_zeros ∙ as_many_minutes, sym as_many_zeros ∙ as_many_minutes)
