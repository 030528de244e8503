-- `mend::fill` meets its contract. Assumes nothing.
use Rattle.std.proofs.Common.{◌≡◌, ◌++◌, length, drop, ap, ◌∙◌, arith, rules}
use Rattle.front.proofs.Listed.{front_listed}
use Rattle.holes.specs.Needs.{most}
use Rattle.mend.specs.Promise.{no_change}
use Rattle.mend.proofs.fill.Goals as goal

pub returns : goal.returns
returns c =
    let room : length c.args.plan.changes ≡ most = search rules in
    ap (λ l. l ++ drop c.args.n c.args.list.now) (c.copy_from_slice.ensures.after ∙ front_listed no_change c.args.plan.changes c.args.n (omega (arith, room, c.requires)))
