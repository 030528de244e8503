-- What was decoded of bytes is the card that they hold. Assumes nothing.
use Prim.Native.Nat.{ℕ, ◌≤◌}
use native.Mathlib.Omega.{arith}
use mathlib.Core.Path.{◌≡◌, sym, subst}
use mathlib.Core.List.{List}
use lib.IntN.{pos}
use lib.ListN.{length, replicate}
use Rattle.front.specs.Front.{over}
use Rattle.front.proofs.Filled.{front_over, length_over}
use Rattle.card_bytes.specs.Held.{minute_at, ordinate_at, slope_at, curvature_at, count_at, card_of}
use Rattle.decode.specs.declared.Card.{Card as Decoded}
use Rattle.decode.specs.Decoded.{most, held, decoded, Holds}

room : {A : Type 0} (f : ℕ → A) (zero : A) {n : ℕ} → n ≤ most → n ≤ length (over f n (replicate most zero))
room f zero {n} h = omega (arith, length_over f n (replicate most zero) h)

held_holds : (s : List ℕ) → count_at s ≤ most → Holds (held s) s
unfolding held decoded card_of
held_holds s h =
    record {
      full = record {
        few = h;
        minutes = room (minute_at s) 0 h;
        ordinates = room (ordinate_at s) (pos 0) h;
        slopes = room (slope_at s) (pos 0) h;
        curvatures = room (curvature_at s) (pos 0) h;
      };
      is = rw (front_over (minute_at s), front_over (ordinate_at s), front_over (slope_at s), front_over (curvature_at s));
    }

pub holds : {d : Decoded} (s : List ℕ) → count_at s ≤ most → d ≡ held s → Holds d s
holds s h e = subst (λ d. Holds d s) (sym e) (held_holds s h)
