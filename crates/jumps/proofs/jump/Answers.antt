-- `jump` meets its contract: the sides and what clears them are those of the definition.
-- Assumes nothing.
use mathlib.Core.Path.{◌≡◌, ◌∙◌, ap, ap₂}
use mathlib.Core.List.{List, [], ◌∷◌}
use Prim.Native.Nat.{◌+◌, ◌*◌, ◌<◌, ◌^◌}
use lib.IntN.{ℤ, nat_abs, ◌+ℤ◌, ◌*ℤ◌}
use mir.Syntax.{w64}
use mir.Val.{SFits, to_z, of_z}
use mir.Facts.{to_z-of_z}
use Rattle.whole.proofs.Solve.{E, v0, v1, v2, v3}
use Rattle.whole.proofs.Machine.{Src, held, Oks, asked, told}
use Rattle.gaps.specs.Limits.{Gap}
use Rattle.jumps.specs.Sides.{side, opposed, left_side, clears, jump_of}
use Rattle.jumps.specs.Limits.{Held}
use Rattle.jumps.proofs.Comparing.{opposed_size, h_gap, q_gap, right_held, left_held, slopes_fit, products_fit, left_fits}
use Rattle.jumps.proofs.jump.Goals as goal
use Rattle.jumps.proofs.jump.Goals.{After-cleared, After-cleared-2, After-opposed-left, After-side, After-side-right, Start}

-- a single number, as it is passed on
passed : (P : ℤ → Type 0) {z : ℤ} → SFits w64 z → P z → P (to_z w64 (of_z w64 z))
passed P {z} f p = asked w64 (held z ∷ []) (v0 ∷ []) P (f, tt) p

taken : (P : ℤ → Type 0) {z : ℤ} → SFits w64 z → P (to_z w64 (of_z w64 z)) → P z
taken P {z} f p = told w64 (held z ∷ []) (v0 ∷ []) P (f, tt) p

right_is : (c : After-side-right) → (let a = c.args in c.side-right.result ≡ side a.order a.h a.here a.after)
right_is c =
    let a = c.args in
    taken (λ h. c.side-right.result ≡ side a.order h a.here a.after) c.ranges.h c.side-right.ensures

abbrev start : After-side → Start
start c = (goal.at.After-side c).Start

-- what the mirror shows
mirrored_is : (c : After-side) → (let a = (start c).args in c.side.result ≡ left_side a.order a.q a.here a.before)
mirrored_is c =
    let a = (start c).args in
    taken (λ q. c.side.result ≡ side a.order q c.mirrored.result c.mirrored-2.result) (start c).ranges.q c.side.ensures
    ∙ ap₂ (λ k l. side a.order a.q k l) c.mirrored.ensures c.mirrored-2.ensures

left_is : (c : After-opposed-left) → (let a = (start (goal.at.After-opposed-left c).After-side).args in c.opposed-left.result ≡ opposed a.order (left_side a.order a.q a.here a.before))
left_is c =
    let a = (start (goal.at.After-opposed-left c).After-side).args in
    taken (λ z. c.opposed-left.result ≡ opposed a.order z) (record { sfits = c.side.type_inv }) c.opposed-left.ensures
    ∙ ap (opposed a.order) (mirrored_is (goal.at.After-opposed-left c).After-side)

pub side-requires : goal.side-requires
side-requires c =
    let d = (goal.at.side-requires c).Start in
    passed (λ q. Held q c.mirrored.result c.mirrored-2.result) d.ranges.q
    (rw (c.mirrored.ensures, c.mirrored-2.ensures) (left_held d.requires))

pub opposed-left-requires : goal.opposed-left-requires
opposed-left-requires c =
    let d = start c in
    passed (λ z. nat_abs z < 2 ^ 63) {z = c.side.result} (record { sfits = c.side.type_inv }) (rw (mirrored_is c) (left_fits d.requires d.args.order))

p_is : (c : After-cleared) → (let a = (start (goal.at.After-cleared c).After-side).args in c.cleared.result ≡ clears a.order a.q)
p_is c =
    let d = start (goal.at.After-cleared c).After-side in
    taken (λ q. c.cleared.result ≡ clears d.args.order q) d.ranges.q c.cleared.ensures

g_is : (c : After-cleared-2) → (let a = (start (goal.at.After-cleared-2 c).After-side).args in c.cleared-2.result ≡ clears a.order a.h)
g_is c =
    let d = start (goal.at.After-cleared-2 c).After-side in
    taken (λ h. c.cleared-2.result ≡ clears d.args.order h) d.ranges.h c.cleared-2.ensures

-- what `crossed` is handed
abbrev handed : After-cleared-2 → List Src
handed c =
    let o = (goal.at.After-cleared-2 c).After-opposed-left in
    held o.side-right.result ∷ held c.cleared.result ∷ held o.opposed-left.result ∷ held c.cleared-2.result ∷ []

abbrev four : List E
four = v0 ∷ v1 ∷ v2 ∷ v3 ∷ []

all : (c : After-cleared-2) → Oks w64 (handed c) four
all c =
    let o = (goal.at.After-cleared-2 c).After-opposed-left in
    (record { sfits = o.side-right.type_inv }, (record { sfits = c.cleared.type_inv }, (record { sfits = o.opposed-left.type_inv }, (record { sfits = c.cleared-2.type_inv }, tt))))

pub crossed-requires : goal.crossed-requires
crossed-requires c =
    let o = (goal.at.crossed-requires c).After-opposed-left in
    let d = start (goal.at.After-opposed-left o).After-side in
    asked w64 (handed c) four (λ a p b q. nat_abs a * nat_abs p + nat_abs b * nat_abs q < 2 ^ 63) (all c)
    (rw (right_is (goal.at.After-opposed-left o).After-side-right, left_is o, opposed_size d.args.order, p_is (goal.at.crossed-requires c).After-cleared, g_is c) (products_fit d.requires d.args.order))

pub returns : goal.returns
unfolding jump_of
returns c =
    let b = (goal.at.returns c).After-cleared-2 in
    let o = (goal.at.After-cleared-2 b).After-opposed-left in
    to_z-of_z {w = w64} {z = c.crossed.result} (record { sfits = c.crossed.type_inv })
    ∙ told w64 (handed b) four (λ a p b q. c.crossed.result ≡ a *ℤ p +ℤ b *ℤ q) (all b) c.crossed.ensures
    ∙ ap₂ ◌+ℤ◌ (ap₂ ◌*ℤ◌ (right_is (goal.at.After-opposed-left o).After-side-right) (p_is (goal.at.After-cleared-2 b).After-cleared)) (ap₂ ◌*ℤ◌ (left_is o) (g_is b))

pub side-right-requires : goal.side-right-requires
side-right-requires c = passed (λ h. Held h c.args.here c.args.after) c.ranges.h (right_held c.requires)

pub mirrored-requires : goal.mirrored-requires
mirrored-requires c = (slopes_fit c.requires).0

pub mirrored-requires-2 : goal.mirrored-requires-2
mirrored-requires-2 c = (slopes_fit c.requires).1

pub cleared-requires : goal.cleared-requires
cleared-requires c = let d = start (goal.at.cleared-requires c).After-side in passed Gap d.ranges.q (q_gap d.requires)

pub cleared-requires-2 : goal.cleared-requires-2
cleared-requires-2 c = let d = start (goal.at.cleared-requires-2 c).After-side in passed Gap d.ranges.h (h_gap d.requires)
