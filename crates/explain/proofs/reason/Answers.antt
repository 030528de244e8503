-- `reason` meets its contract: what the code finds of the third decides.
-- Assumes nothing.
use mathlib.Core.Path.{◌≡◌, sym, ◌∙◌, ap}
use mathlib.Core.Bool.{true, false}
use mathlib.Core.List.{List, [], ◌∷◌}
use borrow.Author.Rules.{rules}
use lib.Signed.{lt_z}
use lib.ListN.{length}
use mir.Syntax.{w64}
use Rattle.whole.proofs.Order.{lt_z_true, lt_z_false}
use Rattle.whole.proofs.Solve.{E, v0, v1}
use Rattle.whole.proofs.Machine.{Src, held, told}
use Rattle.curve.specs.Curve.{third, degree}
use Rattle.curve.specs.Kind.{end}
use Rattle.curve.specs.Card.{joint}
use Rattle.curve.specs.Jump.{jumps}
use Rattle.knots.specs.Kinds.{kind_of}
use Rattle.knots.specs.Lent.{lent}
use Rattle.lists.specs.Lists.{code_of}
use Rattle.explain.specs.declared.Jump.{Jump}
use Rattle.explain.proofs.Named.{third_is_named, fourth_is_named, third_not_asked, third_within}
use Rattle.explain.proofs.reason.Goals as goal
use Rattle.explain.proofs.reason.Goals.{then-asks+else-third, else-asks, After-asks, Joined-asks, Start, Then-asks}

-- what `asks` says is asked for at the knot
asks_is : (c : After-asks) → (let a = c.args in c.asks.result ≡ (kind_of a.kind).asks (end (code_of a.left a.right (length a.lists.minutes.now) a.i)) third)
asks_is c = c.asks.ensures ∙ ap (λ code. (kind_of c.args.kind).asks (end code) third) c.code_at-code.ensures

-- what is compared
abbrev compared : Jump → List Src
compared w = held w.allowance ∷ held w.size ∷ []

abbrev both : List E
both = v0 ∷ v1 ∷ []

pub returns-then-third : goal.returns-then-third
unfolding degree
returns-then-third c =
    let asked = (goal.at.returns-then-third c).Then-asks in
    let a = c.args in
    let w = c.jump_at-third in
    third_is_named a.kind a.left a.right a.lists.minutes.now a.lists.ordinates.now a.lists.slopes.now a.lists.curvatures.now a.i
    (sym (asks_is (goal.at.Then-asks asked).After-asks) ∙ asked.if-asks.true)
    (w.ensures a.left a.right)
    (lt_z_true {a = w.result.allowance} {b = w.result.size}
    (told w64 (compared w.result) both (λ a b. lt_z a b ≡ true) (search rules, (search rules, tt)) c.if-third.true))
    c.because.ensures

pub returns : goal.returns
unfolding degree
returns c =
    let j = (goal.at.returns c).Joined-asks in
    let d = (goal.at.Joined-asks j).Start in
    let a = d.args in
    let card = lent a.lists.minutes.now a.lists.ordinates.now a.lists.slopes.now a.lists.curvatures.now a.left a.right in
    let here = asks_is (goal.at.Joined-asks j).After-asks in
    let no : jumps (kind_of a.kind) (joint card a.i) third ≡ false =
    elim j.if-asks.branch [
      | then-asks+else-third w ↦ third_within a.kind a.left a.right a.lists.minutes.now a.lists.ordinates.now a.lists.slopes.now a.lists.curvatures.now a.i
          (sym here ∙ w.if-asks.true)
          (w.jump_at-third.ensures a.left a.right)
          (lt_z_false {a = w.jump_at-third.result.allowance} {b = w.jump_at-third.result.size}
          (told w64 (compared w.jump_at-third.result) both (λ a b. lt_z a b ≡ false) (search rules, (search rules, tt)) w.if-third.false))
      | else-asks w ↦ third_not_asked a.kind a.left a.right a.lists.minutes.now a.lists.ordinates.now a.lists.slopes.now a.lists.curvatures.now a.i (sym here ∙ w.if-asks.false)
    ] in
    fourth_is_named a.kind a.left a.right a.lists.minutes.now a.lists.ordinates.now a.lists.slopes.now a.lists.curvatures.now a.i no (c.jump_at-fourth.ensures a.left a.right) c.because-2.ensures
