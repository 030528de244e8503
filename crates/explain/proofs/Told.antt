-- What is told beside a refusal: the reason beside 10, zeros beside any other; and no parts beside either.
-- Assumes nothing.
use mathlib.Core.Path.{◌≡◌, sym, ◌∙◌, ap}
use mathlib.Core.Logic.{◌≢◌}
use mathlib.Core.Bool.{Bool, true, false, cond}
use Prim.Native.Nat.{ℕ, ◌<◌, ◌^◌}
use native.Mathlib.Omega.{arith}
use borrow.Author.Tests.{ne_eqb}
use Rattle.answer.specs.Answer.{refused, given, Verdict, accepted, ◌then◌}
use Rattle.answer.proofs.Never.{Never, never_refuse}
use Rattle.curve.specs.Curve.{third, fourth, degree}
use Rattle.curve.specs.Kind.{Kind}
use Rattle.curve.specs.Card.{Card, joint}
use Rattle.curve.specs.Jump.{jumps}
use Rattle.curve.specs.Reading.{gap_of}
use Rattle.curve.specs.Steps.{outside}
use Rattle.explain.specs.Explain.{parted, jump_at, because, reason, zeros, told, explained, sizes}

module _ (K : Kind) (c : Card) (minute : ℕ) where
  -- refused before 11 is asked
  refused_told : {own : Verdict} {n p : ℕ} → own ≡ refused n p → told K c (refused n p) ≡ explained K own c minute
  unfolding explained ◌then◌
  refused_told e = rw e

  other_told : {n p : ℕ} → n ≢ 10 → zeros n p ≡ told K c (refused n p)
  unfolding told
  other_told {n} h = rw (ne_eqb n 10 h)

  pub ten_explained : {own : Verdict} {p : ℕ} → own ≡ refused 10 p → reason K c p ≡ explained K own c minute
  unfolding told
  ten_explained e = refused_told e

  pub other_explained : {own : Verdict} {n p : ℕ} → n ≢ 10 → own ≡ refused n p → zeros n p ≡ explained K own c minute
  other_explained h e = other_told h ∙ refused_told e

  -- 11, which is not 10
  outside_never : Never 10 (outside c.minutes minute)
  unfolding outside
  outside_never = never_refuse 10 11 0 _ (λ e. omega arith)

  pub outside_explained : {n p : ℕ} → outside c.minutes minute ≡ refused n p → zeros n p ≡ explained K accepted c minute
  unfolding explained ◌then◌
  outside_explained {n} {p} e = other_told ten ∙ sym (ap (λ v. told K c (v then given (parted c (gap_of c.minutes minute) minute))) e)
    where
      ten : n ≢ 10
      ten t = outside_never.never p (e ∙ ap (λ n. refused n p) t)

  pub inside_explained : outside c.minutes minute ≡ accepted → parted c (gap_of c.minutes minute) minute ≡ explained K accepted c minute
  unfolding explained told ◌then◌
  inside_explained e = sym (ap (λ v. told K c (v then given (parted c (gap_of c.minutes minute) minute))) e)

  pub accepted_explained : {own : Verdict} → own ≡ accepted → explained K accepted c minute ≡ explained K own c minute
  accepted_explained e = ap (λ v. explained K v c minute) (sym e)

pub reason_sizes : (K : Kind) (c : Card) (i : ℕ) → sizes (reason K c i) < 2 ^ 63
unfolding sizes reason because
reason_sizes K c i = go (jumps K (joint c i) third)
  where
    go : (b : Bool) → sizes (cond b (because i (degree third) (jump_at K (joint c i) third)) (because i (degree fourth) (jump_at K (joint c i) fourth))) < 2 ^ 63
    go true = omega arith
    go false = omega arith
