-- Each answered value is as order 10 asks. Assumes nothing.
use mathlib.Core.Path.{◌≡◌, sym, ◌∙◌, ap, subst}
use mathlib.Core.List.{List}
use Prim.Native.Nat.{ℕ, suc, ◌-◌, ◌*◌, ◌/◌, ◌≤◌, ◌<◌}
use native.Mathlib.Decide.{dec_le}
use native.Mathlib.Nat.{lt_of_not-le, le_antisymm, div-eq_of_lt-le, suc-mul, add-mul, one-mul, min-eq_left}
use native.Mathlib.Omega.{arith}
use lib.IntN.{ℤ, pos}
use lib.ListN.{length}
use Rattle.whole.proofs.Rounding.{Nearest}
use Rattle.answer.specs.Answer.{given}
use Rattle.answer.proofs.Steps.{given_same}
use Rattle.curve.specs.Formula.{worth}
use Rattle.curve.specs.Demand.{WithinHalf}
use Rattle.curve.specs.Kind.{quintic}
use Rattle.cubic.specs.Cubic.{between, denominator}
use Rattle.cubic.proofs.Equations.{continuous, only}
use Rattle.cubic.proofs.Smooth.{spline}
use Rattle.unknowns.specs.Unknowns.{Sound}
use Rattle.unknowns.proofs.Ranges.{sound}
use Rattle.preheat.specs.Preheat.{step, numerator, preheat}
use Rattle.preheat.specs.Demand.{HalfEven, OnStep, OnCubic}
use Rattle.preheat.proofs.Counts.{falls}
use Rattle.preheat.proofs.Readings.{passed}
use Rattle.preheat.proofs.Values.{near, small, at_values, there}

half_even : {z : ℤ} {d : ℕ} {w : ℤ} → Nearest z d w → HalfEven z d w
unfolding WithinHalf
half_even n = record { within = n.half; even = n.even }

module _ (ys : List ℤ) (parts count : ℕ) (p : 0 < parts) (t : Sound ys) where
  two : 2 ≤ length ys
  unfolding quintic
  two = omega (arith, t.least)

  -- the numerator is that of any step on which the count stands: two such steps meet in a value
  inner : (i r : ℕ) → OnStep ys parts count i r → r < parts → numerator ys parts count ≡ worth (between ys parts i) (pos r)
  unfolding numerator step
  inner i r o k = rw (its_step, min-eq_left up_to, left)
    where
      its_step : count / parts ≡ i
      its_step = div-eq_of_lt-le parts (omega (arith, o.from)) (omega (arith, o.from, add-mul i 1 parts, one-mul parts))

      up_to : i ≤ length ys - 2
      up_to = omega (arith, o.inside)

      left : count - i * parts ≡ r
      left = omega (arith, o.from)

  on_step : (i r : ℕ) → OnStep ys parts count i r → numerator ys parts count ≡ worth (between ys parts i) (pos r)
  on_step i r o = elim (dec_le parts r) [ yes k ↦ at_next (le_antisymm o.to k) | no k ↦ inner i r o (lt_of_not-le k) ]
    where
      at_next : r ≡ parts → numerator ys parts count ≡ worth (between ys parts i) (pos r)
      at_next e =
          let there-is : count ≡ suc i * parts = omega (arith, o.from, e, suc-mul i parts) in
          ap (numerator ys parts) there-is
          ∙ there ys parts (suc i) p t (omega (arith, o.inside))
          ∙ sym ((spline ys parts two).to i o.inside)
          ∙ ap (λ r. worth (between ys parts i) (pos r)) (sym e)

module _ (ys : List ℤ) (parts count : ℕ) (v : ℤ) (e : preheat ys parts count ≡ given v) where
  t : Sound ys
  t = sound (passed ys parts count e).checks

  p : 0 < parts
  p = omega (arith, (passed ys parts count e).asks.least)

  pub on_cubic : OnCubic ys parts count v
  on_cubic =
      let f = falls (length ys) parts count (two ys parts count p t) p (passed ys parts count e).asks.within in
      let i = step (length ys) parts count in
      record {
        meets = continuous ys (two ys parts count p t);
        no_others = λ d u c i h. only ys d u c (two ys parts count p t) i h;
        spline = spline ys parts (two ys parts count p t);
        stands = (i, count - i * parts, record { inside = f.inside; from = omega (arith, f.low); to = f.high });
        close = λ i r o. subst (λ z. HalfEven z (denominator ys parts) v) (on_step ys parts count p t i r o) (half_even (near ys parts count v e));
        at_values = λ i h same.
            let a = passed ys parts count e in
            given_same (sym e ∙ ap (preheat ys parts) same ∙ at_values ys parts i a.checks a.asks.least a.asks.most h);
        size = small ys parts count v e;
      }
