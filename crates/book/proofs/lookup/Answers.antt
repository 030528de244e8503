-- `book::lookup` meets its contract: the part is where `find` says. Assumes nothing.
use Prim.Native.Nat.{◌+◌, ◌-◌}
use mathlib.Core.Path.{◌≡◌, ap, ◌∙◌}
use native.Mathlib.Omega.{arith}
use lib.ListN.{take, drop}
use Rattle.book.specs.Lookup.{part, look_up}
use Rattle.book.proofs.Answers.{Handed, handed}
use Rattle.book.proofs.lookup.Goals as goal
use Rattle.book.proofs.lookup.Goals.{After-find-found}

hands : (c : After-find-found) → (let a = c.args in Handed a.book.now c.find-found.result (part (look_up a.room a.book.now)))
hands c = rw c.find-found.ensures (handed _ _)

pub returns : goal.returns
returns c =
    let k = (goal.at.returns c).After-find-found in
    let p = k.find-found.result in
    let n : p.start + p.length - p.start ≡ p.length = omega arith in
    ap (λ i. take i (drop p.start k.args.book.now)) n ∙ (hands k).is

pub slice_bounds-result-end : goal.slice_bounds-result-end
slice_bounds-result-end c = omega (arith, (hands (goal.at.slice_bounds-result-end c).After-find-found).inside)
