-- `minutes::find` meets its contract: what is left to look through decides what is found.
-- Assumes nothing.
use mathlib.Core.Path.{◌≡◌, refl, sym, ◌∙◌, subst}
use mathlib.Core.List.{List}
use Prim.Native.Nat.{ℕ, zero, suc, ◌+◌, ◌/◌, ◌≤◌, ◌<◌}
use native.Mathlib.Omega.{arith}
use lib.ListN.{length, get_or}
use Rattle.minutes.specs.declared.Left.{Left}
use Rattle.minutes.specs.Search.{middle, look, looking, every_gap, found}
use Rattle.minutes.proofs.Halving.{Kept, kept, looking_next, looking_end}
use Rattle.minutes.proofs.find.Invariants.{Inv}
use Rattle.minutes.proofs.find.Goals as goal
use Rattle.minutes.proofs.find.Goals.{After-look-left, Start}

pub loop-left-init : goal.loop-left-init
unfolding found every_gap
loop-left-init c = record { inside = omega arith; counted = omega arith; to_come = length c.args.xs.now; enough = omega arith; same = refl }

-- a look more
module _ (xs : List ℕ) (minute : ℕ) (l : Left) (more : 1 < l.gaps) {l' : Left} (e : l' ≡ look l minute (get_or xs (l.first + l.gaps / 2) 0)) where
  is_kept : Kept l l'
  is_kept = subst (Kept l) (sym e) (kept l minute (get_or xs (l.first + l.gaps / 2) 0) more)

  again : Inv xs minute l → Inv xs minute l'
  again v = go v.to_come v.enough v.same
    where
      go : (n : ℕ) → l.gaps ≤ n → looking n xs minute l ≡ found xs minute → Inv xs minute l'
      go zero h s = absurd (omega arith)
      go (suc n) h s =
          record {
            inside = omega (arith, is_kept.inside, v.inside);
            counted = omega (arith, is_kept.half, is_kept.counted, v.counted);
            to_come = n;
            enough = omega (arith, is_kept.half);
            same = unfold middle in rw e (sym (looking_next xs minute n l more) ∙ s);
          }

abbrev start : After-look-left → Start
start c = (goal.at.After-look-left c).Start

pub loop-left-smaller : goal.loop-left-smaller
loop-left-smaller c =
    let here = c.loop-left in
    omega (arith, (is_kept (start c).args.xs.now (start c).args.minute here.left (omega arith) c.look-left.ensures).half)

pub loop-left-preserved : goal.loop-left-preserved
loop-left-preserved c =
    let here = c.loop-left in
    again (start c).args.xs.now (start c).args.minute here.left (omega arith) c.look-left.ensures here.invariant

pub returns : goal.returns
returns c =
    let here = c.loop-left in
    sym (looking_end _ _ here.invariant.to_come here.left (omega arith)) ∙ here.invariant.same
