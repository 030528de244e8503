-- `preheat::value_in` meets its contract.
-- Assumes nothing.
use mathlib.Core.Path.{◌≡◌, ◌∙◌, ap}
use mathlib.Core.List.{List, [], ◌∷◌}
use Prim.Native.Nat.{ℕ, suc, ◌-◌, ◌*◌, ◌≤◌}
use native.Mathlib.Numerals.{add-one}
use native.Mathlib.Omega.{arith}
use lib.IntN.{ℤ, pos, nat_abs, ◌*ℤ◌}
use lib.ListN.{length}
use mir.Syntax.{w64}
use mir.Facts.{to_z-of_z}
use Rattle.whole.specs.Whole.{nearest}
use Rattle.whole.proofs.Order.{ℕ_le}
use Rattle.whole.proofs.Solve.{E, v0, v1, v2, v3, v4, v5, v6}
use Rattle.whole.proofs.Interval.{◌∈◌, ◌to◌, ±, ∈_abs, fits_∈}
use Rattle.whole.proofs.Machine.{held, In, asks, gives}
use Rattle.curve.specs.Formula.{worth}
use Rattle.curve.specs.Kind.{quintic}
use Rattle.cubic.specs.Cubic.{y, scale, unknown, largest}
use Rattle.cubic.proofs.Smooth.{piece}
use Rattle.unknowns.proofs.Ranges.{most_unknown, entered, scale_in, unknown_in}
use Rattle.preheat.specs.Preheat.{most_parts, value, InStep}
use Rattle.preheat.proofs.Counts.{Falls, falls, value_is, in_step}
use Rattle.preheat.proofs.Evaluation.{moved₅}
use Rattle.preheat.proofs.value_in.Goals as goal
use Rattle.preheat.proofs.value_in.Goals.{After-step_of-i, After-struct_told-2-1, Start}

at_least_two : (c : Start) → 2 ≤ length c.args.ys.now
unfolding quintic
at_least_two c = omega (arith, c.requires.sound.least)

pub step_of-i-requires : goal.step_of-i-requires
step_of-i-requires c = (at_least_two c, omega (arith, c.requires.fewest_parts_le_parts.0))

fallen : (c : After-step_of-i) → Falls (length c.args.ys.now) c.args.parts c.args.count c.step_of-i.result
fallen c = let s = (goal.at.After-step_of-i c).Start in rw c.step_of-i.ensures (falls (length s.args.ys.now) s.args.parts s.args.count (at_least_two s) (omega (arith, s.requires.fewest_parts_le_parts.0)) s.requires.fewest_parts_le_parts.2)

pub overflow_mul-past : goal.overflow_mul-past
overflow_mul-past c = omega (arith, (fallen c).low)

pub at-pair-requires : goal.at-pair-requires
at-pair-requires c =
    record { sound = c.requires.sound; place_in_bounds = (fallen c).inside }

pub overflow_sub-ys : goal.overflow_sub-ys
overflow_sub-ys c = at_least_two (goal.at.overflow_sub-ys c).Start

past_in : (c : After-step_of-i) → pos (c.args.count - c.step_of-i.result * c.args.parts) ∈ pos 0 to pos most_parts
past_in c = record { low = ℕ_le (omega arith); high = ℕ_le (omega (arith, (fallen c).high, c.requires.fewest_parts_le_parts.1)) }

pub overflow_cast-past : goal.overflow_cast-past
overflow_cast-past c = fits_∈ (past_in (goal.at.overflow_cast-past c).After-step_of-i) tt

-- ---- what was read of the table

module _ (c : After-struct_told-2-1) where
  abbrev d : After-step_of-i
  d = (goal.at.After-struct_told-2-1 c).After-step_of-i

  abbrev ys : List ℤ
  ys = d.args.ys.now

  abbrev i : ℕ
  i = d.step_of-i.result

  abbrev parts : ℕ
  parts = d.args.parts

  abbrev past : ℕ
  past = d.args.count - i * parts

  abbrev a : ℤ
  a = c.entry-scale.result

  abbrev u : ℤ
  u = c.value_at-y0.result

  abbrev u' : ℤ
  u' = c.value_at-y1.result

  abbrev z : ℤ
  z = c.at-pair.result.here

  abbrev z' : ℤ
  z' = c.at-pair.result.next

  a_is : a ≡ pos (scale ys)
  unfolding scale
  a_is = c.entry-scale.ensures

  u_is : u ≡ y ys i
  u_is = c.value_at-y0.ensures

  u'_is : u' ≡ y ys (suc i)
  u'_is = c.value_at-y1.ensures ∙ ap (y ys) (add-one i)

  z_is : z ≡ unknown ys i
  z_is = ap (λ p. p.here) c.at-pair.ensures

  z'_is : z' ≡ unknown ys (suc i)
  z'_is = ap (λ p. p.next) c.at-pair.ensures

  here : InStep (pos (scale ys)) (pos parts) (pos past) (y ys i) (y ys (suc i)) (unknown ys i) (unknown ys (suc i))
  here = in_step d.requires.sound (fallen d) d.requires.fewest_parts_le_parts.0 d.requires.fewest_parts_le_parts.1

  all :
      In w64 (held a ∷ held (pos parts) ∷ held (pos past) ∷ held u ∷ held u' ∷ held z ∷ held z' ∷ [])
      (pos 1 to pos largest ∷ pos 1 to pos most_parts ∷ pos 0 to pos most_parts ∷ ± quintic.ordinates ∷ ± quintic.ordinates ∷ ± most_unknown ∷ ± most_unknown ∷ [])
  all =
      let s = d.requires.sound in
      record {
        each = (
          rw a_is (scale_in s),
          (
            record { low = here.q_low; high = here.q_high },
            (
              past_in d,
              (
                ∈_abs (rw u_is here.y_in),
                (∈_abs (rw u'_is here.y'_in), (rw z_is (unknown_in s i (omega (arith, (fallen d).inside))), (rw z'_is (unknown_in s (suc i) (omega (arith, (fallen d).inside))), tt))),
              ),
            ),
          ),
        );
      }

abbrev seven : List E
seven = v0 ∷ v1 ∷ v2 ∷ v3 ∷ v4 ∷ v5 ∷ v6 ∷ []

pub rounded-requires : goal.rounded-requires
unfolding quintic
rounded-requires c =
    asks (all c) seven InStep tt
    (moved₅ (λ a u u' z z'. InStep a (pos (parts c)) (pos (past c)) u u' z z') (a_is c) (u_is c) (u'_is c) (z_is c) (z'_is c) (here c))

pub returns : goal.returns
unfolding quintic
returns c =
    let e = (goal.at.returns c).After-struct_told-2-1 in
    let s = (d e).before in
    to_z-of_z {w = w64} (record { sfits = c.rounded.type_inv })
    ∙ gives (all e) seven (λ a q r u u' z z'. c.rounded.result ≡ nearest (worth (piece a q u u' z z') r) (nat_abs (a *ℤ (q *ℤ q *ℤ q)))) tt c.rounded.ensures
    ∙ moved₅ (λ a u u' z z'. nearest (worth (piece a (pos (parts e)) u u' z z') (pos (past e))) (nat_abs (a *ℤ (pos (parts e) *ℤ pos (parts e) *ℤ pos (parts e)))) ≡ value (ys e) (parts e) s.args.count)
    (a_is e) (u_is e) (u'_is e) (z_is e) (z'_is e) (value_is (ys e) (parts e) s.args.count (i e) (d e).step_of-i.ensures)

pub overflow_sub-past : goal.overflow_sub-past
overflow_sub-past c = (fallen c).low

pub entry-scale-requires : goal.entry-scale-requires
entry-scale-requires c = entered c.requires.sound

pub value_at-y0-requires : goal.value_at-y0-requires
value_at-y0-requires c = omega (arith, (fallen (goal.at.value_at-y0-requires c).After-step_of-i).inside)

pub overflow_add-i : goal.overflow_add-i
overflow_add-i c = omega (arith, (fallen (goal.at.overflow_add-i c).After-step_of-i).inside)

pub value_at-y1-requires : goal.value_at-y1-requires
value_at-y1-requires c = (fallen (goal.at.value_at-y1-requires c).After-step_of-i).inside
