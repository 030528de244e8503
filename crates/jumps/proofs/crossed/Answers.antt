-- `crossed` meets its contract.
-- Assumes nothing.
use mathlib.Core.List.{List, [], ◌∷◌}
use native.Mathlib.Omega.{arith}
use lib.IntN.{◌*ℤ◌}
use mir.Syntax.{w64}
use Rattle.whole.proofs.Order.{abs_mul, abs_add}
use Rattle.whole.proofs.Linear.{abs_fits}
use Rattle.whole.proofs.Solve.{◌:+◌, ◌:*◌, v0 as a, v1 as p, v2 as b, v3 as q}
use Rattle.whole.proofs.Machine.{Src, held, Ok, does, gave}
use Rattle.jumps.proofs.crossed.Goals as goal
use Rattle.jumps.proofs.crossed.Goals.{Start}

abbrev args : Start → List Src
args c = held c.args.a ∷ held c.args.p ∷ held c.args.b ∷ held c.args.q ∷ []

all : (c : Start) → Ok w64 (args c) (a :* p :+ b :* q)
all c =
    let x = c.args in
    let f = c.ranges in
    record {
      left = record { left = f.a; right = f.p; fits = abs_fits (simp abs_mul (omega (arith, c.requires))) };
      right = record { left = f.b; right = f.q; fits = abs_fits (simp abs_mul (omega (arith, c.requires))) };
      fits = abs_fits (omega (arith, c.requires, abs_add (x.a *ℤ x.p) (x.b *ℤ x.q), abs_mul x.a x.p, abs_mul x.b x.q));
    }

pub overflow_mul-result : goal.overflow_mul-result
overflow_mul-result c = does w64 (args c) (a :* p) (all c).left

pub overflow_mul-result-2 : goal.overflow_mul-result-2
overflow_mul-result-2 c = does w64 (args c) (b :* q) (all c).right

pub overflow_add-result : goal.overflow_add-result
overflow_add-result c = does w64 (args c) (a :* p :+ b :* q) (all c)

pub returns : goal.returns
returns c = gave w64 (args c) (a :* p :+ b :* q) (all c)
