-- The four answers that an explanation can be: a reason for 10, zeros beside another refusal of the card's or
-- beside 11, and a reading's parts. Assumes nothing.
use Prim.Native.Nat.{ℕ, ◌-◌}
use mathlib.Core.Path.{◌≡◌, refl, sym, ap, subst, ◌∙◌}
use mathlib.Core.Logic.{◌≢◌}
use mathlib.Core.Bool.{Bool, true, false, ◌||◌, cond}
use native.Mathlib.Decide.{ℕ_discrete}
use lib.Dec.{ltb}
use lib.ListN.{length, get_or}
use borrow.Author.Tests.{ne_eqb}
use Rattle.answer.specs.Answer.{refused, given, Verdict, accepted, ◌then◌, refuse}
use Rattle.curve.specs.Curve.{third, fourth, degree}
use Rattle.curve.specs.Kind.{Kind}
use Rattle.curve.specs.Card.{Card, joint}
use Rattle.curve.specs.Jump.{jumps}
use Rattle.curve.specs.Reading.{gap_of}
use Rattle.curve.specs.Steps.{outside}
use Rattle.explain.specs.declared.Explained.{Explained}
use Rattle.explain.specs.Explain.{parted, jump_at, because, reason, zeros, told, explained}

module _ (K : Kind) (c : Card) where
  told_ten : (p : ℕ) → told K c (refused 10 p) ≡ reason K c p
  unfolding told
  told_ten p = refl

  told_other : (n p : ℕ) → n ≢ 10 → told K c (refused n p) ≡ zeros n p
  unfolding told
  told_other n p h = rw (ne_eqb n 10 h)

  -- the third where it is over, else the fourth
  pub reason_one_of : (p : ℕ) (P : Explained → Type 0)
      → (jumps K (joint c p) third ≡ true → P (because p (degree third) (jump_at K (joint c p) third)))
      → (jumps K (joint c p) third ≡ false → P (because p (degree fourth) (jump_at K (joint c p) fourth)))
      → P (reason K c p)
  unfolding reason
  reason_one_of p P f g = go (jumps K (joint c p) third) f g
    where
      go : (b : Bool) → (b ≡ true → P (because p (degree third) (jump_at K (joint c p) third))) → (b ≡ false → P (because p (degree fourth) (jump_at K (joint c p) fourth)))
          → P (cond b (because p (degree third) (jump_at K (joint c p) third)) (because p (degree fourth) (jump_at K (joint c p) fourth)))
      go true f g = f refl
      go false f g = g refl

  pub explained_one_of : (own : Verdict) (minute : ℕ) (P : Explained → Type 0)
      → ((p : ℕ) → own ≡ refused 10 p → P (reason K c p))
      → ((n p : ℕ) → n ≢ 10 → own ≡ refused n p → P (zeros n p))
      → (own ≡ accepted → outside c.minutes minute ≡ refused 11 0 → P (zeros 11 0))
      → (own ≡ accepted → outside c.minutes minute ≡ accepted → P (parted c (gap_of c.minutes minute) minute))
      → P (explained K own c minute)
  unfolding explained told outside refuse ◌then◌
  explained_one_of (refused n p) minute P ten other eleven reading =
      elim (ℕ_discrete n 10) [
        | yes e ↦ subst P (sym (ap (λ m. told K c (refused m p)) e ∙ told_ten p)) (ten p (ap (λ m. refused m p) e))
        | no h ↦ subst P (sym (told_other n p h)) (other n p h refl)
      ]
  explained_one_of (given u) minute P ten other eleven reading = go (ltb minute (get_or c.minutes 0 0) || ltb (get_or c.minutes (length c.minutes - 1) 0) minute) (eleven refl) (reading refl)
    where
      parts : Explained
      parts = parted c (gap_of c.minutes minute) minute

      go : (b : Bool) → (refuse 11 0 b ≡ refused 11 0 → P (zeros 11 0)) → (refuse 11 0 b ≡ accepted → P parts) → P (told K c (refuse 11 0 b then given parts))
      go true f g = f refl
      go false f g = g refl
