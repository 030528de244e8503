-- What a gap gives to the jump test, as the code writes it, is its two sides; of no gap it is nothing; and
-- where two gaps meet, what they give is compared as `jump` and `allowance` have it. Assumes nothing.
use mathlib.Core.Path.{◌≡◌, refl, ap₂}
use mathlib.Core.Bool.{Bool, true, false}
use mathlib.Core.List.{List, [], ◌∷◌}
use native.Mathlib.Nat.{mul-le-mul}
use native.Mathlib.Omega.{arith}
use lib.IntN.{ℤ, pos, nat_abs}
use Rattle.whole.proofs.Solve.{E, ◌:+◌, ◌:-◌, ◌:*◌, :neg, #, ring}
use Rattle.curve.specs.Curve.{degree}
use Rattle.curve.specs.Jump.{clear}
use Rattle.gaps.specs.declared.Knot.{Knot}
use Rattle.gaps.specs.Knots.{mirror}
use Rattle.gaps.proofs.Minutes.{gap_size}
use Rattle.jumps.specs.declared.Order.{Order}
use Rattle.jumps.specs.declared.Order.TheVariants.{Third, Fourth}
use Rattle.jumps.specs.Sides.{side, opposed, left_side, jump_of, leeway, leeways, past}
use Rattle.jumps.specs.Spans.{span, no_span, span_if, spans, no_spans, met_jump, met_leeways}
use Rattle.jumps.specs.Limits.{Tried, Meeting}
use Rattle.jumps.proofs.Comparing.{rise, side_e, opposed_e, opposed_size, leeway_size, clears_most, h_gap, q_gap, products_fit}

-- the slopes' and the curvatures' terms, with the gap's powers
abbrev pub ahead_e : Order → (h y m k y' m' k' : E) → E
ahead_e Third h y m k y' m' k' = # 20 :* rise y y' :- (# 12 :* (m :* h) :+ # 8 :* (m' :* h)) :- (# 3 :* (k :* (h :* h)) :- k' :* (h :* h))
ahead_e Fourth h y m k y' m' k' = # 16 :* (m :* h) :+ # 14 :* (m' :* h) :+ (# 3 :* (k :* (h :* h)) :- # 2 :* (k' :* (h :* h))) :- # 30 :* rise y y'

abbrev pub behind_e : Order → (h y m k y' m' k' : E) → E
behind_e Third h y m k y' m' k' = # 12 :* (m' :* h) :+ # 8 :* (m :* h) :- # 20 :* rise y y' :- (# 3 :* (k' :* (h :* h)) :- k :* (h :* h))
behind_e Fourth h y m k y' m' k' = # 16 :* (m' :* h) :+ # 14 :* (m :* h) :- (# 3 :* (k' :* (h :* h)) :- # 2 :* (k :* (h :* h))) :- # 30 :* rise y y'

abbrev pub aheads : Order → (h y m k y' m' k' : E) → E × E
aheads o h y m k y' m' k' = (ahead_e o h y m k y' m' k', side_e o h y m k y' m' k')

abbrev pub behinds : Order → (h y m k y' m' k' : E) → E × E
behinds o h y m k y' m' k' = (behind_e o h y m k y' m' k', opposed_e o (side_e o h y' (:neg m') k' y (:neg m) k))

-- ---- no gap

module _ (k : Knot) where
  abbrev own : ℤ → List ℤ
  own square = square ∷ k.ordinate ∷ k.slope ∷ k.curvature ∷ []

  span_none : (o : Order) (square : ℤ) → span o square (pos 0) k k ≡ no_span
  unfolding span side opposed mirror leeway clear degree
  span_none Third square = λ i.
      record {
        ahead = ring (own square) (λ s y m c. (side_e Third (# 0) y m c y m c, # 0)) tt i;
        behind = ring (own square) (λ s y m c. (side_e Third (# 0) y (:neg m) c y (:neg m) c, # 0)) tt i;
        clears = pos 1;
        leeway = ring (own square) (λ s y m c. ((s :+ # 4 :* # 0) :* # 0, # 0)) tt i;
      }
  span_none Fourth square = λ i.
      record {
        ahead = ring (own square) (λ s y m c. (side_e Fourth (# 0) y m c y m c, # 0)) tt i;
        behind = ring (own square) (λ s y m c. (:neg (side_e Fourth (# 0) y (:neg m) c y (:neg m) c), # 0)) tt i;
        clears = pos 1;
        leeway = ring (own square) (λ s y m c. ((s :+ # 4 :* # 0) :* # 0, # 0)) tt i;
      }

  span_if_none : (asked : Bool) (o : Order) (square : ℤ) → span_if asked o square (pos 0) k k ≡ no_span
  span_if_none true o square = span_none o square
  span_if_none false o square = refl

  pub spans_none : (asked : Bool) (square : ℤ) → spans asked square (pos 0) k k ≡ no_spans
  unfolding spans
  spans_none asked square = λ i. record { third = span_none Third square i; fourth = span_if_none asked Fourth (pos 20) i }

-- ---- two gaps

-- what `meet` asks, of a knot between two gaps
pub meeting : (o : Order) {square q h : ℤ} {before here after : Knot} → Tried square q h before here after → Meeting (span o square q before here) (span o square h here after)
unfolding span
meeting o {square} {q} {h} {before} {here} {after} t =
    let w = t.beside in
    record {
      jump = rw (opposed_size o (left_side o q here before)) (products_fit w o);
      leeways =
          omega (
            arith,
            mul-le-mul (leeway_size square h t.square_in (h_gap w)) (clears_most o (nat_abs q) (gap_size (q_gap w))),
            mul-le-mul (leeway_size square q t.square_in (q_gap w)) (clears_most o (nat_abs h) (gap_size (h_gap w))),
          );
    }

pub meeting_if : (asked : Bool) (o : Order) {square q h : ℤ} {before here after : Knot} → Tried square q h before here after
    → Meeting (span_if asked o square q before here) (span_if asked o square h here after)
meeting_if true o t = meeting o t
meeting_if false o t = record { jump = omega arith; leeways = omega arith }

-- `meet` compares the numbers that `jump` and `allowance` give
module _ (o : Order) (square q h : ℤ) (before here after : Knot) where
  pub met_is_jump : met_jump (span o square q before here) (span o square h here after) ≡ jump_of o q h before here after
  unfolding span jump_of
  met_is_jump = refl

  pub met_is_allowance : met_leeways (span o square q before here) (span o square h here after) ≡ leeways o square q h
  unfolding span leeways
  met_is_allowance = refl

  pub compared_alike : past (met_jump (span o square q before here) (span o square h here after)) (met_leeways (span o square q before here) (span o square h here after))
      ≡ past (jump_of o q h before here after) (leeways o square q h)
  compared_alike = ap₂ past met_is_jump met_is_allowance
