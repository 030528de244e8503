-- `numbers::scale` meets its contract. Assumes nothing.
use Rattle.std.proofs.Common.{◌≡◌, arith, rules}
use Rattle.front.proofs.Filled.{filled_more}
use Rattle.numbers.proofs.scale.Goals as goal

pub loop-k-preserved : goal.loop-k-preserved
loop-k-preserved c =
    let l = c.loop-k in
    record {
      slopes = filled_more l.invariant.slopes (omega arith) (search rules);
      curvatures = filled_more l.invariant.curvatures (omega arith) (search rules);
    }

pub returns : goal.returns
returns c =
    let l = c.loop-k in
    let all : l.k ≡ c.args.n = omega arith in
    rw (l.invariant.slopes.is, l.invariant.curvatures.is, all)
