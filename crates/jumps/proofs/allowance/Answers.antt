-- `allowance` meets its contract: both sides' leeways over both gaps' powers.
-- Assumes nothing.
-- ---- a side
use mathlib.Core.Path.{◌≡◌, ◌∙◌, ap₂}
use mathlib.Core.List.{List, [], ◌∷◌}
use Prim.Native.Nat.{◌+◌, ◌*◌, ◌<◌, ◌≤◌, ◌^◌}
use native.Mathlib.Nat.{mul-le-mul}
use native.Mathlib.Omega.{arith}
use lib.Dec.{T}
use lib.IntN.{pos, nat_abs, ◌+ℤ◌, ◌*ℤ◌}
use mir.Syntax.{w64}
use mir.Val.{SFits}
use mir.Facts.{to_z-of_z}
use Rattle.whole.proofs.Solve.{E, ◌:+◌, ◌:*◌, #, v0 as square, v1 as q, v2 as h, v3 as p, v4 as g}
use Rattle.whole.proofs.Interval.{Iv, ◌to◌, ±, ∈_abs}
use Rattle.whole.proofs.Machine.{Src, held, In, res, safe, step, asks, gives}
use Rattle.gaps.specs.Limits.{widest, Gap}
use Rattle.gaps.proofs.Minutes.{gap_in, gap_size}
use Rattle.jumps.specs.Sides.{clears, leeway, leeways}
use Rattle.jumps.proofs.Comparing.{clears_most, leeway_size}
use Rattle.jumps.proofs.allowance.Goals as goal
use Rattle.jumps.proofs.allowance.Goals.{After-cleared, After-cleared-2, Start}

abbrev args : Start → List Src
args c = let a = c.args in held a.square ∷ held a.q ∷ held a.h ∷ []

abbrev tops : List Iv
tops = ± (2 ^ 8) ∷ pos 0 to pos widest ∷ pos 0 to pos widest ∷ []

within : (c : Start) → In w64 (args c) tops
within c = let r = c.requires in record { each = (∈_abs r.square_in, (gap_in r.q_gap, (gap_in r.h_gap, tt))) }

op : (e : E) → T (safe w64 tops e) → (c : Start) → SFits w64 (res w64 (args c) e)
op e t c = step (within c) e t

abbrev right : E
right = (square :+ # 4 :* h) :* h

abbrev left : E
left = (square :+ # 4 :* q) :* q

-- ---- what clears them

p_is : (c : After-cleared) → (let a = c.args in c.cleared.result ≡ clears a.order a.q)
p_is c = let d = (goal.at.After-cleared c).Start in gives (within d) (q ∷ []) (λ q. c.cleared.result ≡ clears d.args.order q) tt c.cleared.ensures

g_is : (c : After-cleared-2) → (let a = c.args in c.cleared-2.result ≡ clears a.order a.h)
g_is c = let d = (goal.at.After-cleared-2 c).Start in gives (within d) (h ∷ []) (λ h. c.cleared-2.result ≡ clears d.args.order h) tt c.cleared-2.ensures

p_size : (c : After-cleared) → nat_abs c.cleared.result ≤ widest ^ 4
p_size c = let d = (goal.at.After-cleared c).Start in rw (p_is c) (clears_most d.args.order _ (gap_size d.requires.q_gap))

g_size : (c : After-cleared-2) → nat_abs c.cleared-2.result ≤ widest ^ 4
g_size c = let d = (goal.at.After-cleared-2 c).Start in rw (g_is c) (clears_most d.args.order _ (gap_size d.requires.h_gap))

-- ---- both

abbrev handed : After-cleared-2 → List Src
handed c = let a = c.args in held a.square ∷ held a.q ∷ held a.h ∷ held c.cleared.result ∷ held c.cleared-2.result ∷ []

abbrev all : List Iv
all = ± (2 ^ 8) ∷ pos 0 to pos widest ∷ pos 0 to pos widest ∷ ± (widest ^ 4) ∷ ± (widest ^ 4) ∷ []

fit : (c : After-cleared-2) → In w64 (handed c) all
fit c = let r = c.requires in record { each = (∈_abs r.square_in, (gap_in r.q_gap, (gap_in r.h_gap, (∈_abs (p_size (goal.at.After-cleared-2 c).After-cleared), (∈_abs (g_size c), tt))))) }

abbrev four : List E
four = right ∷ p ∷ left ∷ g ∷ []

pub crossed-requires : goal.crossed-requires
unfolding leeway
crossed-requires c =
    let d = (goal.at.crossed-requires c).Start in
    let r = d.requires in
    asks (fit c) four (λ a p b q. nat_abs a * nat_abs p + nat_abs b * nat_abs q < 2 ^ 63) tt
    (omega (arith, mul-le-mul (leeway_size d.args.square d.args.h r.square_in r.h_gap) (p_size (goal.at.crossed-requires c).After-cleared), mul-le-mul (leeway_size d.args.square d.args.q r.square_in r.q_gap) (g_size c)))

pub returns : goal.returns
unfolding leeways leeway
returns c =
    let b = (goal.at.returns c).After-cleared-2 in
    let a = b.args in
    to_z-of_z {w = w64} {z = c.crossed.result} (record { sfits = c.crossed.type_inv })
    ∙ gives (fit b) four (λ a p b q. c.crossed.result ≡ a *ℤ p +ℤ b *ℤ q) tt c.crossed.ensures
    ∙ ap₂ (λ p g. leeway a.square a.h *ℤ p +ℤ leeway a.square a.q *ℤ g) (p_is (goal.at.After-cleared-2 b).After-cleared) (g_is b)

pub overflow_mul-h : goal.overflow_mul-h
overflow_mul-h = op (# 4 :* h) tt

pub overflow_add-square : goal.overflow_add-square
overflow_add-square = op (square :+ # 4 :* h) tt

pub overflow_mul-square : goal.overflow_mul-square
overflow_mul-square = op right tt

pub cleared-requires : goal.cleared-requires
cleared-requires c = asks (within c) (q ∷ []) Gap tt c.requires.q_gap

pub overflow_mul-q : goal.overflow_mul-q
overflow_mul-q c = op (# 4 :* q) tt (goal.at.overflow_mul-q c).Start

pub overflow_add-square-2 : goal.overflow_add-square-2
overflow_add-square-2 c = op (square :+ # 4 :* q) tt (goal.at.overflow_add-square-2 c).Start

pub overflow_mul-square-2 : goal.overflow_mul-square-2
overflow_mul-square-2 c = op left tt (goal.at.overflow_mul-square-2 c).Start

pub cleared-requires-2 : goal.cleared-requires-2
cleared-requires-2 c = asks (within (goal.at.cleared-requires-2 c).Start) (h ∷ []) Gap tt c.requires.h_gap
