-- `numerator` meets its contract: the parts fit together, and their sum is the numerator.
-- Assumes nothing.
use mathlib.Core.Path.{◌≡◌, sym, ◌∙◌, ap, ap₂}
use mathlib.Core.List.{List, [], ◌∷◌}
use Prim.Native.Nat.{◌+◌, ◌<◌, ◌^◌}
use native.Mathlib.Omega.{arith}
use lib.IntN.{◌+ℤ◌}
use mir.Syntax.{w64}
use Rattle.whole.proofs.Order.{linear, abs_add}
use Rattle.whole.proofs.Linear.{abs_fits}
use Rattle.whole.proofs.Solve.{◌:+◌, v0, v1}
use Rattle.whole.proofs.Machine.{Src, held, Ok, does, gave, gives}
use Rattle.gaps.proofs.Minutes.{minute_in}
use Rattle.parts.specs.Parts.{parts, sum_of, size}
use Rattle.parts.proofs.Numerators.{numerator_is, parts_fit, sum_size}
use Rattle.parts.proofs.numerator.Goals as goal
use Rattle.parts.proofs.numerator.Goals.{After-of-parts, After-sum-2, Start}

parts_are : (c : After-of-parts) → (let a = c.args in c.of-parts.result ≡ parts a.q a.h a.t a.a a.b)
parts_are c =
    let a = c.args in
    gives (minute_in c.requires.in_gap) (v0 ∷ v1 ∷ []) (λ h t. c.of-parts.result ≡ parts a.q h t a.a a.b) tt c.of-parts.ensures

small : (c : After-of-parts) → size c.of-parts.result.left + size c.of-parts.result.right < 2 ^ 63
small c = let d = (goal.at.After-of-parts c).Start in rw (parts_are c) (parts_fit d.args.q d.requires.in_gap d.requires.tame)

abbrev both : After-sum-2 → List Src
both c = held c.sum.result ∷ held c.sum-2.result ∷ []

plus : (c : After-sum-2) → Ok w64 (both c) (v0 :+ v1)
plus c =
    let p = (goal.at.After-sum-2 c).After-of-parts in
    let l = p.of-parts.result.left in
    let r = p.of-parts.result.right in
    record {
      left = record { sfits = c.sum.type_inv };
      right = record { sfits = c.sum-2.type_inv };
      fits = abs_fits (rw (c.sum.ensures, c.sum-2.ensures) (omega (arith, small p, abs_add (sum_of l) (sum_of r), sum_size l, sum_size r)));
    }

pub returns : goal.returns
returns c =
    let p = (goal.at.returns c).After-of-parts in
    let a = p.args in
    gave w64 (both c) (v0 :+ v1) (plus c)
    ∙ ap₂ ◌+ℤ◌ c.sum.ensures c.sum-2.ensures
    ∙ ap (λ p. sum_of p.left +ℤ sum_of p.right) (parts_are p)
    ∙ sym (numerator_is a.q a.h a.t a.a a.b (omega (linear, p.requires.in_gap.wide)))

pub sum-requires : goal.sum-requires
sum-requires c = omega (arith, small (goal.at.sum-requires c).After-of-parts)

pub sum-requires-2 : goal.sum-requires-2
sum-requires-2 c = omega (arith, small (goal.at.sum-requires-2 c).After-of-parts)

pub overflow_add-result : goal.overflow_add-result
overflow_add-result c = does w64 (both c) (v0 :+ v1) (plus c)
