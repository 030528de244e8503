-- `Parts::of` meets its contract: each part is a number with its weight, the right knot's seen in the mirror.
-- Assumes nothing.
use mathlib.Core.Path.{◌≡◌, sym, ◌∙◌, ap, ap₂}
use mathlib.Core.List.{[], ◌∷◌}
use lib.IntN.{◌-ℤ◌}
use mir.Syntax.{w64}
use Rattle.whole.proofs.Solve.{◌:-◌, v0, v1}
use Rattle.whole.proofs.Machine.{held, In, step, asks, gives}
use Rattle.gaps.specs.Limits.{InGap}
use Rattle.gaps.proofs.Minutes.{gap_tops, minute_in, other}
use Rattle.weights.specs.Weights.{weigh}
use Rattle.parts.specs.Parts.{adds, seen}
use Rattle.parts.specs.Limits.{Light}
use Rattle.parts.proofs.Numerators.{parts_is, left_light, right_light, right_far}
use Rattle.parts.proofs.Parts.of.Goals as goal
use Rattle.parts.proofs.Parts.of.Goals.{After-by-left, After-by-right, After-of, After-of-2, Start}

within : (c : Start) → In w64 (held c.args.h ∷ held c.args.t ∷ []) gap_tops
within c = minute_in c.requires.in_gap

weights : (c : After-of) → (let a = c.args in c.of.result ≡ weigh a.q a.h a.t)
weights c = gives (within (goal.at.After-of c).Start) (v0 ∷ v1 ∷ []) (λ h t. c.of.result ≡ weigh c.args.q h t) tt c.of.ensures

mirrored : (c : After-of-2) → (let a = c.args in c.of-2.result ≡ weigh a.q a.h (a.h -ℤ a.t))
mirrored c =
    let d = (goal.at.After-of-2 c).Start in
    gives (within d) (v0 ∷ (v0 :- v1) ∷ []) (λ h s. c.of-2.result ≡ weigh d.args.q h s) tt c.of-2.ensures

pub by-left-requires : goal.by-left-requires
by-left-requires c =
    let d = (goal.at.by-left-requires c).Start in
    asks (within d) (v0 ∷ []) (λ h. Light h d.args.a c.of.result) tt (rw (weights c) (left_light d.args.q d.requires.in_gap d.requires.tame))

pub by-right-requires : goal.by-right-requires
by-right-requires c =
    let d = (goal.at.by-right-requires c).Start in
    asks (within d) (v0 ∷ []) (λ h. Light h c.seen.result c.of-2.result) tt (rw (mirrored c, c.seen.ensures) (right_light d.args.q d.requires.in_gap d.requires.tame))

left_is : (c : After-by-left) → (let a = c.args in c.by-left.result ≡ adds a.h a.a (weigh a.q a.h a.t))
left_is c =
    let d = (goal.at.After-by-left c).Start in
    gives (within d) (v0 ∷ []) (λ h. c.by-left.result ≡ adds h d.args.a c.of.result) tt c.by-left.ensures
    ∙ ap (λ w. adds d.args.h d.args.a w) (weights (goal.at.After-by-left c).After-of)

right_is : (c : After-by-right) → (let a = c.args in c.by-right.result ≡ adds a.h (seen a.q a.b) (weigh a.q a.h (a.h -ℤ a.t)))
right_is c =
    let d = (goal.at.After-by-right c).Start in
    gives (within d) (v0 ∷ []) (λ h. c.by-right.result ≡ adds h c.seen.result c.of-2.result) tt c.by-right.ensures
    ∙ ap₂ (λ k w. adds d.args.h k w) c.seen.ensures (mirrored (goal.at.After-by-right c).After-of-2)

pub returns : goal.returns
returns c =
    let a = c.args in
    (λ i. record { left = left_is (goal.at.returns c).After-by-left i; right = right_is c i }) ∙ sym (parts_is a.q a.h a.t a.a a.b)

pub seen-requires : goal.seen-requires
seen-requires c = let d = (goal.at.seen-requires c).Start in right_far d.args.q d.requires.in_gap d.requires.tame

pub overflow_sub-h : goal.overflow_sub-h
overflow_sub-h c = step (within (goal.at.overflow_sub-h c).Start) (v0 :- v1) tt

pub of-requires-2 : goal.of-requires-2
of-requires-2 c = let d = (goal.at.of-requires-2 c).Start in asks (within d) (v0 ∷ (v0 :- v1) ∷ []) InGap tt (other d.requires.in_gap)
