-- `Spans::of` meets its contract: its operations fit by the intervals of its numbers, and they are the sides.
-- Assumes nothing.
use mathlib.Core.Path.{◌≡◌, refl, sym, ◌∙◌, ap}
use mathlib.Core.Bool.{Bool, true, false, not, cond}
use mathlib.Core.List.{List, [], ◌∷◌}
use Prim.Native.Nat.{◌^◌}
use lib.Dec.{T}
use lib.IntN.{ℤ, pos}
use mir.Syntax.{w64}
use mir.Val.{SFits, to_z, of_z}
use mir.Facts.{to_z-of_z}
use Rattle.whole.proofs.Solve.{E, ◌:+◌, ◌:-◌, ◌:*◌, #, val, at, ring, v0 as h, v1 as y, v2 as m, v3 as k, v4 as y', v5 as m', v6 as k', v7 as square}
use Rattle.whole.proofs.Interval.{Iv, ±, ◌to◌, ∈_abs}
use Rattle.whole.proofs.Machine.{Src, held, nums, opd, res, In, safe, step, back, asks, gives}
use Rattle.gaps.specs.Knots.{mirror}
use Rattle.gaps.specs.Limits.{widest, Gap}
use Rattle.gaps.proofs.Minutes.{gap_in}
use Rattle.jumps.specs.declared.Order.{Order}
use Rattle.jumps.specs.declared.Order.TheVariants.{Third, Fourth}
use Rattle.jumps.specs.declared.Span.{Span}
use Rattle.jumps.specs.Sides.{side, opposed, clears, leeway}
use Rattle.jumps.specs.Spans.{span, no_span, spans}
use Rattle.jumps.proofs.Comparing.{rise as rises}
use Rattle.jumps.proofs.Gapwise.{ahead_e, behind_e, aheads, behinds}
use Rattle.jumps.proofs.Spans.of.Goals as goal
use Rattle.jumps.proofs.Spans.of.Goals.{After-cleared-cube, After-struct_told-6-1, Else-not-asked, Start}

abbrev start : After-struct_told-6-1 → Start
start c = (goal.at.After-struct_told-6-1 c).Start

abbrev numbers : Start → List Src
numbers c =
    let a = c.args in
    held a.h ∷ held a.a.ordinate ∷ held a.a.slope ∷ held a.a.curvature ∷ held a.b.ordinate ∷ held a.b.slope ∷ held a.b.curvature ∷ held a.square ∷ []

abbrev tops : List Iv
tops = pos 0 to pos widest ∷ ± (2 ^ 31) ∷ ± (2 ^ 31) ∷ ± (2 ^ 31) ∷ ± (2 ^ 31) ∷ ± (2 ^ 31) ∷ ± (2 ^ 31) ∷ ± (2 ^ 8) ∷ []

inside : (c : Start) → In w64 (numbers c) tops
inside c =
    let p = c.requires.held in
    let o = p.own in
    let n = p.other in
    record { each = (gap_in p.gap, (∈_abs o.ordinate, (∈_abs o.slope, (∈_abs o.curvature, (∈_abs n.ordinate, (∈_abs n.slope, (∈_abs n.curvature, (∈_abs c.requires.square_bound, tt)))))))) }

-- where all of them are read
abbrev args : After-struct_told-6-1 → List Src
args c = numbers (start c)

within : (c : After-struct_told-6-1) → In w64 (args c) tops
within c = inside (start c)

op : (e : E) → T (safe w64 tops e) → (c : After-struct_told-6-1) → SFits w64 (res w64 (args c) e)
op e t c = step (within c) e t

-- one of the fourth's
fourth : (e : E) → T (safe w64 tops e) → (c : Else-not-asked) → SFits w64 (res w64 (args (goal.at.Else-not-asked c).After-struct_told-6-1) e)
fourth e t c = op e t (goal.at.Else-not-asked c).After-struct_told-6-1

abbrev rise : E
rise = rises y y'

abbrev s : E
s = m :* h

abbrev s1 : E
s1 = m' :* h

abbrev v : E
v = k :* (h :* h)

abbrev v1 : E
v1 = k' :* (h :* h)

-- the first number of a derivative's allowance, and what the gap allows
abbrev first : Order → E
first Third = square
first Fourth = # 20

abbrev leewayE : Order → E
leewayE o = (first o :+ # 4 :* h) :* h

module _ (c : After-struct_told-6-1) where
  abbrev ks : List ℤ
  ks = let a = (start c).args in a.h ∷ a.a.ordinate ∷ a.a.slope ∷ a.a.curvature ∷ a.b.ordinate ∷ a.b.slope ∷ a.b.curvature ∷ []

  -- what a derivative is given, as the machine holds it and as it is sought
  abbrev laid : Order → ℤ → Span
  laid o power =
      record {
        ahead = opd w64 (args c) (ahead_e o h y m k y' m' k');
        behind = opd w64 (args c) (behind_e o h y m k y' m' k');
        clears = to_z w64 (of_z w64 power);
        leeway = opd w64 (args c) (leewayE o);
      }

  abbrev sought : Order → Span
  sought o = let a = (start c).args in span o (val (at (nums w64 (args c))) (first o)) a.h a.a a.b

  ahead_is : (o : Order) → (laid o (pos 0)).ahead ≡ (sought o).ahead
  unfolding span side
  ahead_is Third = back (within c) (ahead_e Third h y m k y' m' k') tt ∙ ring ks (aheads Third) tt
  ahead_is Fourth = back (within c) (ahead_e Fourth h y m k y' m' k') tt ∙ ring ks (aheads Fourth) tt

  behind_is : (o : Order) → (laid o (pos 0)).behind ≡ (sought o).behind
  unfolding span side opposed mirror
  behind_is Third = back (within c) (behind_e Third h y m k y' m' k') tt ∙ ring ks (behinds Third) tt
  behind_is Fourth = back (within c) (behind_e Fourth h y m k y' m' k') tt ∙ ring ks (behinds Fourth) tt

  leeway_is : (o : Order) → (laid o (pos 0)).leeway ≡ (sought o).leeway
  unfolding span leeway
  leeway_is Third = back (within c) (leewayE Third) tt
  leeway_is Fourth = back (within c) (leewayE Fourth) tt

  span_is : (o : Order) {power : ℤ} → SFits w64 power → power ≡ clears o (opd w64 (args c) h) → laid o power ≡ sought o
  unfolding span
  span_is o {power} f e = λ i.
      record {
        ahead = ahead_is o i;
        behind = behind_is o i;
        clears = (to_z-of_z {w = w64} {z = power} f ∙ gives (within c) (h ∷ []) (λ h. power ≡ clears o h) tt e) i;
        leeway = leeway_is o i;
      }

third_is : (c : After-cleared-cube) → laid (goal.at.After-cleared-cube c).After-struct_told-6-1 Third c.cleared-cube.result ≡ sought (goal.at.After-cleared-cube c).After-struct_told-6-1 Third
third_is c = span_is (goal.at.After-cleared-cube c).After-struct_told-6-1 Third (record { sfits = c.cleared-cube.type_inv }) c.cleared-cube.ensures

-- the fourth, by whether it is asked
told : (c : After-struct_told-6-1) {left : Bool} → not (start c).args.asked ≡ left → cond left no_span (sought c Fourth) ≡ cond (start c).args.asked (sought c Fourth) no_span
told c e = ap (λ f. cond f no_span (sought c Fourth)) (sym e) ∙ turned (start c).args.asked
  where
    turned : (asked : Bool) → cond (not asked) no_span (sought c Fourth) ≡ cond asked (sought c Fourth) no_span
    turned true = refl
    turned false = refl

pub overflow_mul-v : goal.overflow_mul-v
overflow_mul-v c = step (inside (goal.at.overflow_mul-v c).Start) v tt

pub overflow_mul-v1 : goal.overflow_mul-v1
overflow_mul-v1 = op v1 tt

pub overflow_mul-ahead-2 : goal.overflow_mul-ahead-2
overflow_mul-ahead-2 = op (# 12 :* s) tt

pub overflow_mul-ahead-3 : goal.overflow_mul-ahead-3
overflow_mul-ahead-3 = op (# 8 :* s1) tt

pub overflow_add-ahead : goal.overflow_add-ahead
overflow_add-ahead = op (# 12 :* s :+ # 8 :* s1) tt

pub overflow_sub-ahead : goal.overflow_sub-ahead
overflow_sub-ahead = op (# 20 :* rise :- (# 12 :* s :+ # 8 :* s1)) tt

pub overflow_mul-ahead-4 : goal.overflow_mul-ahead-4
overflow_mul-ahead-4 = op (# 3 :* v) tt

pub overflow_sub-ahead-2 : goal.overflow_sub-ahead-2
overflow_sub-ahead-2 = op (# 3 :* v :- v1) tt

pub overflow_sub-ahead-3 : goal.overflow_sub-ahead-3
overflow_sub-ahead-3 = op (ahead_e Third h y m k y' m' k') tt

pub overflow_mul-behind : goal.overflow_mul-behind
overflow_mul-behind = op (# 12 :* s1) tt

pub overflow_mul-behind-2 : goal.overflow_mul-behind-2
overflow_mul-behind-2 = op (# 8 :* s) tt

pub overflow_add-behind : goal.overflow_add-behind
overflow_add-behind = op (# 12 :* s1 :+ # 8 :* s) tt

pub overflow_sub-behind : goal.overflow_sub-behind
overflow_sub-behind = op (# 12 :* s1 :+ # 8 :* s :- # 20 :* rise) tt

pub overflow_mul-behind-4 : goal.overflow_mul-behind-4
overflow_mul-behind-4 = op (# 3 :* v1) tt

pub overflow_sub-behind-2 : goal.overflow_sub-behind-2
overflow_sub-behind-2 = op (# 3 :* v1 :- v) tt

pub overflow_sub-behind-3 : goal.overflow_sub-behind-3
overflow_sub-behind-3 = op (behind_e Third h y m k y' m' k') tt

pub overflow_mul-leeway-2 : goal.overflow_mul-leeway-2
overflow_mul-leeway-2 = op (leewayE Third) tt

pub cleared-cube-requires : goal.cleared-cube-requires
cleared-cube-requires c = asks (within c) (h ∷ []) Gap tt (start c).requires.held.gap

pub overflow_mul-ahead4 : goal.overflow_mul-ahead4
overflow_mul-ahead4 = fourth (# 16 :* s) tt

pub overflow_mul-ahead4-2 : goal.overflow_mul-ahead4-2
overflow_mul-ahead4-2 = fourth (# 14 :* s1) tt

pub overflow_add-ahead4 : goal.overflow_add-ahead4
overflow_add-ahead4 = fourth (# 16 :* s :+ # 14 :* s1) tt

pub overflow_mul-ahead4-3 : goal.overflow_mul-ahead4-3
overflow_mul-ahead4-3 = fourth (# 3 :* v) tt

pub overflow_mul-ahead4-4 : goal.overflow_mul-ahead4-4
overflow_mul-ahead4-4 = fourth (# 2 :* v1) tt

pub overflow_sub-ahead4 : goal.overflow_sub-ahead4
overflow_sub-ahead4 = fourth (# 3 :* v :- # 2 :* v1) tt

pub overflow_add-ahead4-2 : goal.overflow_add-ahead4-2
overflow_add-ahead4-2 = fourth (# 16 :* s :+ # 14 :* s1 :+ (# 3 :* v :- # 2 :* v1)) tt

pub overflow_sub-ahead4-2 : goal.overflow_sub-ahead4-2
overflow_sub-ahead4-2 = fourth (ahead_e Fourth h y m k y' m' k') tt

pub overflow_mul-behind4 : goal.overflow_mul-behind4
overflow_mul-behind4 = fourth (# 16 :* s1) tt

pub overflow_mul-behind4-2 : goal.overflow_mul-behind4-2
overflow_mul-behind4-2 = fourth (# 14 :* s) tt

pub overflow_add-behind4 : goal.overflow_add-behind4
overflow_add-behind4 = fourth (# 16 :* s1 :+ # 14 :* s) tt

pub overflow_mul-behind4-3 : goal.overflow_mul-behind4-3
overflow_mul-behind4-3 = fourth (# 3 :* v1) tt

pub overflow_mul-behind4-4 : goal.overflow_mul-behind4-4
overflow_mul-behind4-4 = fourth (# 2 :* v) tt

pub overflow_sub-behind4 : goal.overflow_sub-behind4
overflow_sub-behind4 = fourth (# 3 :* v1 :- # 2 :* v) tt

pub overflow_sub-behind4-2 : goal.overflow_sub-behind4-2
overflow_sub-behind4-2 = fourth (# 16 :* s1 :+ # 14 :* s :- (# 3 :* v1 :- # 2 :* v)) tt

pub overflow_sub-behind4-3 : goal.overflow_sub-behind4-3
overflow_sub-behind4-3 = fourth (behind_e Fourth h y m k y' m' k') tt

pub overflow_mul-leeway4-2 : goal.overflow_mul-leeway4-2
overflow_mul-leeway4-2 = fourth (leewayE Fourth) tt

pub cleared-fourth-requires : goal.cleared-fourth-requires
cleared-fourth-requires c = asks (within (goal.at.cleared-fourth-requires c).After-struct_told-6-1) (h ∷ []) Gap tt (start (goal.at.cleared-fourth-requires c).After-struct_told-6-1).requires.held.gap

pub returns : goal.returns
unfolding spans
returns c =
    let b = (goal.at.returns c).After-cleared-cube in
    λ i. record { third = third_is b i; fourth = (span_is (goal.at.After-cleared-cube b).After-struct_told-6-1 Fourth (record { sfits = c.cleared-fourth.type_inv }) c.cleared-fourth.ensures ∙ told (goal.at.After-cleared-cube b).After-struct_told-6-1 (ap not c.if-not-asked.false)) i }

pub returns-then-not-asked : goal.returns-then-not-asked
unfolding spans
returns-then-not-asked c =
    let b = (goal.at.returns-then-not-asked c).After-cleared-cube in
    λ i. record { third = third_is b i; fourth = (c.none.ensures ∙ told (goal.at.After-cleared-cube b).After-struct_told-6-1 (ap not c.if-not-asked.true)) i }
