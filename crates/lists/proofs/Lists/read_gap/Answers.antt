-- `Lists::read_gap` meets its contract: the reading of where the minute falls.
-- Assumes nothing.
use mathlib.Core.Path.{◌≡◌, ◌∙◌, ap, ap₂}
use Prim.Native.Nat.{ℕ, ◌+◌, ◌-◌}
use lib.IntN.{nat_abs}
use lib.ListN.{get_or}
use mir.Syntax.{w32, w64}
use mir.Val.{to_z, of_z}
use borrow.Author.Rules.{rules}
use Rattle.curve.specs.Card.{knot, gap}
use Rattle.curve.specs.Reading.{reads}
use Rattle.knots.specs.Lent.{lent}
use Rattle.gaps.specs.Knots.{placed}
use Rattle.gaps.specs.Limits.{InGap}
use Rattle.parts.specs.Limits.{Tame}
use Rattle.reading.specs.Shown.{shown}
use Rattle.reading.proofs.Rounds.{reads_by_gap}
use Rattle.lists.specs.declared.Spell.{Spell}
use Rattle.lists.specs.Lists.{spell_of}
use Rattle.lists.proofs.Settled.{spelt_asks}
use Rattle.lists.proofs.Lists.read_gap.Goals as goal
use Rattle.lists.proofs.Lists.read_gap.Goals.{After-spell-spell, After-between-r}

-- a field as it is passed on
h_is : (c : After-spell-spell) → (let s = c.spell-spell.result in to_z w64 (of_z w64 s.h) ≡ s.h)
h_is c = search rules

t_is : (c : After-spell-spell) → (let s = c.spell-spell.result in to_z w64 (of_z w64 s.t) ≡ s.t)
t_is c = search rules

asked : (c : After-spell-spell) → (let s = c.spell-spell.result in InGap (to_z w64 (of_z w64 s.h)) (to_z w64 (of_z w64 s.t)) × Tame (to_z w64 (of_z w64 s.h)) s.from s.to)
asked c = spelt_asks c.args.self.checked c.requires c.spell-spell.ensures (h_is c) (t_is c)

pub between-r-requires-clause-in_gap : goal.between-r-requires-clause-in_gap
between-r-requires-clause-in_gap c = (asked (goal.at.between-r-requires-clause-in_gap c).After-spell-spell).0

pub between-r-requires-clause-tame : goal.between-r-requires-clause-tame
between-r-requires-clause-tame c = (asked (goal.at.between-r-requires-clause-tame c).After-spell-spell).1

module _ (c : After-between-r) where
  value_is : to_z w32 (of_z w32 c.between-r.result.value) ≡ c.between-r.result.value
  value_is = search rules

  slope_is : to_z w32 (of_z w32 c.between-r.result.slope) ≡ c.between-r.result.slope
  slope_is = search rules

  curvature_is : to_z w32 (of_z w32 c.between-r.result.curvature) ≡ c.between-r.result.curvature
  curvature_is = search rules

  read_is : (left right : ℕ) →
      (let s = c.args.self in c.between-r.result ≡ shown (spell_of (lent s.minutes.now s.ordinates.now s.slopes.now s.curvatures.now left right) c.args.gap.first c.args.minute))
  unfolding knot gap
  read_is left right =
      let a = c.args in
      let card = lent a.self.minutes.now a.self.ordinates.now a.self.slopes.now a.self.curvatures.now left right in
      let s = c.spell-spell.result in
      let here = (goal.at.After-between-r c).After-spell-spell in
      c.between-r.ensures
      ∙ ap₂ (λ h t. shown (reads (placed 0 s.from) (placed (nat_abs h) s.to) (nat_abs t))) (h_is here) (t_is here)
      ∙ ap (λ (s : Spell). shown (reads (placed 0 s.from) (placed (nat_abs s.h) s.to) (nat_abs s.t))) c.spell-spell.ensures
      ∙ ap shown (reads_by_gap (knot card a.gap.first) (knot card (a.gap.first + 1)) (a.minute - get_or a.self.minutes.now a.gap.first 0))

pub returns : goal.returns
unfolding shown
returns c left right =
    let b = (goal.at.returns c).After-between-r in
    rw (value_is b, slope_is b, curvature_is b, read_is b left right)
