-- `decimal::put_words` meets its contract: the words stand in the middle of what was there. Assumes nothing.
use Prim.Native.Nat.{◌+◌, ◌-◌}
use mathlib.Core.Path.{◌≡◌, refl}
use mathlib.Core.List.{append_assoc}
use native.Mathlib.Omega.{arith}
use lib.ListN.{length}
use lib.Seq.{sets-eq, drop-drop}
use Rattle.decimal.proofs.put_words.Goals as goal

pub returns : goal.returns
returns c =
    let ws = c.args.words.now in
    let t = c.args.text.now in
    let h = sets-eq ws t c.args.at (omega arith) in
    let e : c.args.at + length ws - c.args.at ≡ length ws = omega arith in
    record {
      stored = rw (c.copy_from_slice.ensures.after, e, h, append_assoc, ← drop-drop (length ws) c.args.at t);
      behind = refl;
      inside = omega arith;
    }
