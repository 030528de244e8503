-- `parted` meets its contract.
-- Assumes nothing.
use Rattle.std.proofs.Common.{ℕ, ℤ, ◌≡◌, sym, ◌∙◌, ap, ap₂, subst, ◌+◌, ◌-◌, ◌*◌, ◌<◌, ◌^◌, rules, pos, nat_abs, get_or, to_z, of_z, w64, FitsSigned}
use Rattle.std.proofs.lemmas.Int.{to_z-of_z, to_z_pos}
use Rattle.curve.specs.Card.{Card, knot, gap}
use Rattle.curve.specs.Reading.{denominator}
use Rattle.knots.specs.Lent.{lent}
use Rattle.gaps.specs.Limits.{InGap}
use Rattle.weights.specs.declared.Quantity.TheVariants.{Value}
use Rattle.parts.specs.Parts.{parts}
use Rattle.lists.specs.declared.Spell.{Spell}
use Rattle.lists.proofs.Settled.{spelt_asks}
use Rattle.explain.specs.Explain.{parts_from, parted, sizes}
use Rattle.explain.proofs.Fitting.{whole_gap, under_fits, parted_fits}
use Rattle.explain.proofs.parted.Goals as goal
use Rattle.explain.proofs.parted.Goals.{After-denominator, After-of-parts, After-spell-spell}

kept : (z : ℤ) → FitsSigned w64 z → to_z w64 (of_z w64 z) ≡ z
kept z f = to_z-of_z w64 z f

module _ (c : After-spell-spell) where
  abbrev spell : Spell
  spell = c.spell-spell.result

  abbrev h : ℕ
  h = get_or c.args.lists.minutes.now (c.args.i + 1) 0 - get_or c.args.lists.minutes.now c.args.i 0

  abbrev t : ℕ
  t = c.args.minute - get_or c.args.lists.minutes.now c.args.i 0

  abbrev card : Card
  card = lent c.args.lists.minutes.now c.args.lists.ordinates.now c.args.lists.slopes.now c.args.lists.curvatures.now 0 0

  kept_h : to_z w64 (of_z w64 spell.h) ≡ spell.h
  kept_h = kept spell.h (search rules)

  kept_t : to_z w64 (of_z w64 spell.t) ≡ spell.t
  kept_t = kept spell.t (search rules)

  h_is : to_z w64 (of_z w64 spell.h) ≡ pos h
  h_is = kept_h ∙ ap (λ (s : Spell). s.h) c.spell-spell.ensures

  t_is : to_z w64 (of_z w64 spell.t) ≡ pos t
  t_is = kept_t ∙ ap (λ (s : Spell). s.t) c.spell-spell.ensures

pub of-parts-requires : goal.of-parts-requires
of-parts-requires c =
    let s = (goal.at.of-parts-requires c).After-spell-spell in
    let told = spelt_asks c.args.lists.checked c.requires c.spell-spell.ensures (kept_h s) (kept_t s) in
    record { in_gap = told.0; tame = told.1 }

pub denominator-requires : goal.denominator-requires
denominator-requires c = let s = (goal.at.denominator-requires c).After-spell-spell in subst (λ z. InGap z z) (sym (h_is s)) (whole_gap c.args.lists.checked c.requires)

parts_are : (c : After-of-parts) → (let s = (goal.at.After-of-parts c).After-spell-spell in c.of-parts.result ≡ parts_from (card s) c.args.i c.args.minute)
unfolding parts_from knot gap
parts_are c =
    let s = (goal.at.After-of-parts c).After-spell-spell in
    c.of-parts.ensures
    ∙ ap₂ (λ h t. parts Value h t (spell s).from (spell s).to) (kept_h s) (kept_t s)
    ∙ ap (λ (s : Spell). parts Value s.h s.t s.from s.to) c.spell-spell.ensures

under_is : (c : After-denominator) → c.denominator.result ≡ 8192 * h (goal.at.After-denominator c).After-spell-spell ^ 5
under_is c = c.denominator.ensures ∙ ap (λ z. 8192 * nat_abs z ^ 5) (h_is (goal.at.After-denominator c).After-spell-spell)

under_small : (c : After-denominator) → c.denominator.result < 2 ^ 63
under_small c = rw (under_is c) (under_fits c.args.lists.checked c.requires)

pub overflow_cast-result-3 : goal.overflow_cast-result-3
overflow_cast-result-3 c = record { sfits = under_small c }

pub returns-clause-value : goal.returns-clause-value
unfolding parted knot gap denominator
returns-clause-value c =
    let d = (goal.at.returns-clause-value c).After-denominator in
    let s = (goal.at.returns-clause-value c).After-spell-spell in
    let e = parts_are (goal.at.returns-clause-value c).After-of-parts in
    let p = c.of-parts.result in
    rw c.none.ensures (λ j.
    record {
      number = 0;
      place = 0;
      gap = c.args.i;
      minutes = ap nat_abs (t_is s) j;
      ordinate = (kept p.left.ordinate (search rules) ∙ ap (λ p. p.left.ordinate) e) j;
      ordinate1 = (kept p.right.ordinate (search rules) ∙ ap (λ p. p.right.ordinate) e) j;
      slope = (kept p.left.slope (search rules) ∙ ap (λ p. p.left.slope) e) j;
      slope1 = (kept p.right.slope (search rules) ∙ ap (λ p. p.right.slope) e) j;
      curvature = (kept p.left.curvature (search rules) ∙ ap (λ p. p.left.curvature) e) j;
      curvature1 = (kept p.right.curvature (search rules) ∙ ap (λ p. p.right.curvature) e) j;
      denominator = (to_z_pos w64 _ (under_small d) ∙ ap pos (under_is d)) j;
      knot = 0;
      order = 0;
      jump = pos 0;
      allowance = pos 0;
    })

pub returns-clause-fits : goal.returns-clause-fits
returns-clause-fits c = subst (λ e. sizes e < 2 ^ 63) (sym (returns-clause-value c)) (parted_fits c.args.lists.checked c.requires)
