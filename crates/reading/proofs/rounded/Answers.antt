-- `rounded` meets its contract: numerator and denominator are what `whole::nearest` asks for, and what it gives fits 32 bits.
-- Assumes nothing.
use mathlib.Core.Path.{◌≡◌, ◌∙◌, ap₂}
use mathlib.Core.List.{List, [], ◌∷◌}
use Prim.Native.Nat.{◌*◌, ◌<◌, ◌^◌}
use borrow.Author.Rules.{rules}
use lib.IntN.{nat_abs}
use mir.Syntax.{w32, w64}
use mir.Val.{SFits, to_z, of_z}
use mir.Facts.{to_z-of_z}
use Rattle.whole.specs.Whole.{nearest}
use Rattle.whole.proofs.Linear.{abs_fits}
use Rattle.whole.proofs.Solve.{v0, v1}
use Rattle.whole.proofs.Machine.{Src, held, In, asked, told, asks, gives}
use Rattle.curve.specs.Formula.{worth, ∂^}
use Rattle.gaps.specs.Limits.{InGap}
use Rattle.gaps.proofs.Minutes.{gap_tops, minute_in, whole_gap}
use Rattle.weights.specs.Weights.{derivative}
use Rattle.parts.specs.Parts.{drawn, under}
use Rattle.parts.proofs.Numerators.{numerator_fits, denominator_positive, reading_fits}
use Rattle.reading.proofs.Rounds.{rounds}
use Rattle.reading.proofs.rounded.Goals as goal
use Rattle.reading.proofs.rounded.Goals.{After-denominator, After-nearest, After-numerator, Start}

within : (c : Start) → In w64 (held c.args.h ∷ held c.args.t ∷ []) gap_tops
within c = minute_in c.requires.in_gap

numerator_is : (c : After-numerator) → (let a = c.args in c.numerator.result ≡ worth (∂^ (derivative a.q) (drawn a.h a.a a.b)) a.t)
numerator_is c =
    let a = c.args in
    gives (within (goal.at.After-numerator c).Start) (v0 ∷ v1 ∷ []) (λ h t. c.numerator.result ≡ worth (∂^ (derivative a.q) (drawn h a.a a.b)) t) tt c.numerator.ensures

pub denominator-requires : goal.denominator-requires
denominator-requires c = asks (within (goal.at.denominator-requires c).Start) (v0 ∷ v0 ∷ []) InGap tt (whole_gap c.requires.in_gap)

denominator_is : (c : After-denominator) → (let a = c.args in c.denominator.result ≡ under a.q * nat_abs a.h ^ 5)
denominator_is c =
    let d = (goal.at.After-denominator c).Start in
    gives (within d) (v0 ∷ []) (λ h. c.denominator.result ≡ under d.args.q * nat_abs h ^ 5) tt c.denominator.ensures

abbrev number : After-denominator → List Src
number c = held c.numerator.result ∷ []

small : (c : After-denominator) → nat_abs c.numerator.result < 2 ^ 63
small c = let d = (goal.at.After-denominator c).Start in rw (numerator_is (goal.at.After-denominator c).After-numerator) (numerator_fits d.args.q d.requires.in_gap d.requires.tame)

pub nearest-requires : goal.nearest-requires
nearest-requires c =
    let t = let d = (goal.at.nearest-requires c).Start in
    asked w64 (number c) (v0 ∷ []) (λ n. (0 < c.denominator.result) × (nat_abs n < 2 ^ 63)) (abs_fits (small c), tt)
    (rw (denominator_is c) (denominator_positive d.args.q d.requires.in_gap d.requires.tame), small c) in record { d_nonzero = t.0; n_bound = t.1 }

nearest_is : (c : After-nearest) → (let a = c.args in c.nearest.result ≡ rounds a.q a.h a.t a.a a.b)
nearest_is c =
    told w64 (number (goal.at.After-nearest c).After-denominator) (v0 ∷ []) (λ n. c.nearest.result ≡ nearest n c.denominator.result) (abs_fits (small (goal.at.After-nearest c).After-denominator), tt) c.nearest.ensures
    ∙ ap₂ nearest (numerator_is (goal.at.After-nearest c).After-numerator) (denominator_is (goal.at.After-nearest c).After-denominator)

fits : (c : After-nearest) → nat_abs c.nearest.result < 2 ^ 31
fits c = let d = (goal.at.After-nearest c).Start in rw (nearest_is c) (reading_fits d.args.q d.requires.in_gap d.requires.tame)

pub overflow_cast-result : goal.overflow_cast-result
overflow_cast-result c = asked w64 (held c.nearest.result ∷ []) (v0 ∷ []) (λ z. SFits w32 z) (record { sfits = c.nearest.type_inv }, tt) (abs_fits (fits c))

pub returns : goal.returns
returns c =
    let a = c.args in
    asked w64 (held c.nearest.result ∷ []) (v0 ∷ []) (λ z. to_z w32 (of_z w32 z) ≡ rounds a.q a.h a.t a.a a.b) (record { sfits = c.nearest.type_inv }, tt)
    (to_z-of_z {w = w32} (abs_fits (fits c)) ∙ nearest_is c)
