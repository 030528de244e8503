-- `meet` meets its contract: it compares the jump and the leeways of two gaps.
-- Assumes nothing.
use mathlib.Core.Path.{◌≡◌, ◌∙◌, ap₂}
use mathlib.Core.List.{List, [], ◌∷◌}
use Prim.Native.Nat.{◌+◌, ◌*◌, ◌<◌, ◌^◌}
use native.Mathlib.Omega.{arith}
use lib.IntN.{nat_abs, ◌+ℤ◌, ◌*ℤ◌}
use mir.Syntax.{w64}
use Rattle.whole.proofs.Order.{abs_add, abs_mul}
use Rattle.whole.proofs.Solve.{E, v0, v1, v2, v3}
use Rattle.whole.proofs.Machine.{Src, held, Oks, asked, told}
use Rattle.jumps.specs.declared.Span.{Span}
use Rattle.jumps.specs.Sides.{past}
use Rattle.jumps.specs.Spans.{met_jump, met_leeways}
use Rattle.jumps.specs.Limits.{Meeting}
use Rattle.jumps.proofs.meet.Goals as goal
use Rattle.jumps.proofs.meet.Goals.{After-crossed, After-crossed-2, After-struct_told-4-1, Start}

abbrev start : After-struct_told-4-1 → Start
start c = (goal.at.After-struct_told-4-1 c).Start

abbrev four : List E
four = v0 ∷ v1 ∷ v2 ∷ v3 ∷ []

-- what `crossed` is handed
abbrev sides : Span → Span → List Src
sides l r = held r.ahead ∷ held l.clears ∷ held l.behind ∷ held r.clears ∷ []

abbrev allowed : Span → Span → List Src
allowed l r = held r.leeway ∷ held l.clears ∷ held l.leeway ∷ held r.clears ∷ []

module _ (c : After-struct_told-4-1) where
  abbrev l : Span
  l = (start c).args.left

  abbrev r : Span
  r = (start c).args.right

  sides_fit : Oks w64 (sides l r) four
  sides_fit =
      let f = c.struct_told-1.given in
      let g = c.struct_told-2-1.given in
      (record { sfits = f.0.1 }, (record { sfits = g.1.1.0.1 }, (record { sfits = g.1.0.1 }, (record { sfits = f.1.1.0.1 }, tt))))

  allowed_fit : Oks w64 (allowed l r) four
  allowed_fit =
      let f = c.struct_told-1.given in
      let g = c.struct_told-2-1.given in
      (record { sfits = f.1.1.1.0.1 }, (record { sfits = g.1.1.0.1 }, (record { sfits = g.1.1.1.0.1 }, (record { sfits = f.1.1.0.1 }, tt))))

-- the jump is below the width
jump_size : {l r : Span} → Meeting l r → nat_abs (met_jump l r) < 2 ^ 63
jump_size {l} {r} m = omega (arith, m.jump, abs_add (r.ahead *ℤ l.clears) (l.behind *ℤ r.clears), abs_mul r.ahead l.clears, abs_mul l.behind r.clears)

pub crossed-requires : goal.crossed-requires
crossed-requires c = asked w64 (sides (l c) (r c)) four (λ a p b q. nat_abs a * nat_abs p + nat_abs b * nat_abs q < 2 ^ 63) (sides_fit c) (start c).requires.jump

pub crossed-requires-2 : goal.crossed-requires-2
crossed-requires-2 c =
    let d = (goal.at.crossed-requires-2 c).After-struct_told-4-1 in
    asked w64 (allowed (l d) (r d)) four (λ a p b q. nat_abs a * nat_abs p + nat_abs b * nat_abs q < 2 ^ 63) (allowed_fit d) (start d).requires.leeways

jump_is : (c : After-crossed) → c.crossed.result ≡ met_jump (l (goal.at.After-crossed c).After-struct_told-4-1) (r (goal.at.After-crossed c).After-struct_told-4-1)
jump_is c = let d = (goal.at.After-crossed c).After-struct_told-4-1 in told w64 (sides (l d) (r d)) four (λ a p b q. c.crossed.result ≡ a *ℤ p +ℤ b *ℤ q) (sides_fit d) c.crossed.ensures

leeways_are : (c : After-crossed-2) → (let d = (goal.at.After-crossed-2 c).After-struct_told-4-1 in c.crossed-2.result ≡ met_leeways (l d) (r d))
leeways_are c =
    let d = (goal.at.After-crossed-2 c).After-struct_told-4-1 in
    told w64 (allowed (l d) (r d)) four (λ a p b q. c.crossed-2.result ≡ a *ℤ p +ℤ b *ℤ q) (allowed_fit d) c.crossed-2.ensures

abbrev first : After-crossed-2 → After-crossed
first c = (goal.at.After-crossed-2 c).After-crossed

pub returns : goal.returns
returns c =
    let s = (goal.at.returns c).After-crossed-2 in
    let f = first s in
    told w64 (held f.crossed.result ∷ held s.crossed-2.result ∷ []) (v0 ∷ v1 ∷ []) (λ j a. c.over.result ≡ past j a) (record { sfits = f.crossed.type_inv }, (record { sfits = s.crossed-2.type_inv }, tt)) c.over.ensures
    ∙ ap₂ past (jump_is f) (leeways_are s)

pub over-requires : goal.over-requires
over-requires c =
    let f = first c in
    asked w64 (held f.crossed.result ∷ []) (v0 ∷ []) (λ j. nat_abs j < 2 ^ 63) (record { sfits = f.crossed.type_inv }, tt) (rw (jump_is f) (jump_size (start (goal.at.After-crossed f).After-struct_told-4-1).requires))
