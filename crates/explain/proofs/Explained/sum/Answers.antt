-- `Explained::sum` meets its contract: what is added so far is at most the sum of the parts' sizes.
-- Assumes nothing.
use mathlib.Core.List.{List, [], ◌∷◌}
use Prim.Native.Nat.{◌+◌, ◌≤◌, ◌<◌, ◌^◌}
use native.Mathlib.Omega.{arith}
use lib.IntN.{ℤ, nat_abs, ◌+ℤ◌}
use borrow.Author.Rules.{rules}
use mir.Syntax.{w64}
use Rattle.whole.proofs.Order.{abs_add}
use Rattle.whole.proofs.Linear.{abs_fits}
use Rattle.whole.proofs.Solve.{E, ◌:+◌, v0 as y, v1 as y1, v2 as m, v3 as m1, v4 as k, v5 as k1}
use Rattle.whole.proofs.Machine.{Src, held, Ok, does, gave}
use Rattle.explain.specs.declared.Explained.{Explained}
use Rattle.explain.specs.Explain.{sum, sizes}
use Rattle.explain.proofs.Explained.sum.Goals as goal
use Rattle.explain.proofs.Explained.sum.Goals.{Start}

-- so many of the parts together
abbrev two : E
two = y :+ y1

abbrev three : E
three = two :+ m

abbrev four : E
four = three :+ m1

abbrev five : E
five = four :+ k

abbrev six : E
six = five :+ k1

abbrev self : Start → Explained
self c = c.args.self

abbrev args : Start → List Src
args c = let a = self c in held a.ordinate ∷ held a.ordinate1 ∷ held a.slope ∷ held a.slope1 ∷ held a.curvature ∷ held a.curvature1 ∷ []

module _ (c : Start) where
  abbrev a : Explained
  a = self c

  total : nat_abs a.ordinate + nat_abs a.ordinate1 + nat_abs a.slope + nat_abs a.slope1 + nat_abs a.curvature + nat_abs a.curvature1 < 2 ^ 63
  unfolding sizes
  total = c.requires

  abbrev s2 : ℤ
  s2 = a.ordinate +ℤ a.ordinate1

  abbrev s3 : ℤ
  s3 = s2 +ℤ a.slope

  abbrev s4 : ℤ
  s4 = s3 +ℤ a.slope1

  abbrev s5 : ℤ
  s5 = s4 +ℤ a.curvature

  p2 : nat_abs s2 ≤ nat_abs a.ordinate + nat_abs a.ordinate1
  p2 = abs_add a.ordinate a.ordinate1

  p3 : nat_abs s3 ≤ nat_abs s2 + nat_abs a.slope
  p3 = abs_add s2 a.slope

  p4 : nat_abs s4 ≤ nat_abs s3 + nat_abs a.slope1
  p4 = abs_add s3 a.slope1

  p5 : nat_abs s5 ≤ nat_abs s4 + nat_abs a.curvature
  p5 = abs_add s4 a.curvature

  p6 : nat_abs (s5 +ℤ a.curvature1) ≤ nat_abs s5 + nat_abs a.curvature1
  p6 = abs_add s5 a.curvature1

  all : Ok w64 (args c) six
  all =
      record {
        left = record {
          left = record {
            left = record {
              left = record { left = search rules; right = search rules; fits = abs_fits (omega (arith, total, p2)) };
              right = search rules;
              fits = abs_fits (omega (arith, total, p2, p3));
            };
            right = search rules;
            fits = abs_fits (omega (arith, total, p2, p3, p4));
          };
          right = search rules;
          fits = abs_fits (omega (arith, total, p2, p3, p4, p5));
        };
        right = search rules;
        fits = abs_fits (omega (arith, total, p2, p3, p4, p5, p6));
      }

pub returns : goal.returns
unfolding sum
returns c = let s = (goal.at.returns c).Start in gave w64 (args s) six (all s)

pub overflow_add-result-2 : goal.overflow_add-result-2
overflow_add-result-2 c = let s = (goal.at.overflow_add-result-2 c).Start in does w64 (args s) three (all s).left.left.left

pub overflow_add-result-3 : goal.overflow_add-result-3
overflow_add-result-3 c = let s = (goal.at.overflow_add-result-3 c).Start in does w64 (args s) four (all s).left.left

pub overflow_add-result-4 : goal.overflow_add-result-4
overflow_add-result-4 c = let s = (goal.at.overflow_add-result-4 c).Start in does w64 (args s) five (all s).left

pub overflow_add-result-5 : goal.overflow_add-result-5
overflow_add-result-5 c = let s = (goal.at.overflow_add-result-5 c).Start in does w64 (args s) six (all s)
