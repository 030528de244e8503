-- "The promise of a public function leaves its caller one possible outcome" (document 01, "What a promise says"). A promise here is an equation: of the
-- result, of an enum's meaning, of each lent list at exit. By these laws two outcomes that both meet it are the same.
-- Assumes nothing.
use mathlib.Core.Path.{◌≡◌, refl, sym, ap, ◌∙◌}
use Rattle.answer.specs.Answer.{Verdict, refused, given}
use Rattle.answer.specs.Judge.{Judged, number_of, verdict_of}
use Rattle.answer.specs.declared.Reason.{Reason}
use Rattle.std.proofs.Common.{ℕ, List, [], ◌∷◌, get_or, Ok, Err}

pub one_outcome : {A : Type 0} {x y f : A} → x ≡ f → y ≡ f → x ≡ y
one_outcome p q = p ∙ sym q

-- the reason of a number; of one that is none's, any
reason_of : ℕ → Reason
reason_of n = get_or reasons n Reason.ShortBuffer
  where
    reasons : List Reason
    reasons = Reason.ShortBuffer ∷ Reason.FewKnots ∷ Reason.ManyKnots ∷ Reason.OddLengths ∷ Reason.NotRising ∷ Reason.WideGap ∷ Reason.FarOrdinate ∷ Reason.UnfitEnd ∷ Reason.Stuck ∷ Reason.OutOfRange ∷ Reason.Jump ∷ Reason.Outside ∷ Reason.Meaningless ∷ Reason.NoGoodByte ∷ Reason.BadRecord ∷ Reason.UnknownCode ∷ Reason.LogLength ∷ Reason.Stranded ∷ Reason.FewPlaces ∷ Reason.LateMiddle ∷ Reason.NoRoom ∷ Reason.FullBook ∷ Reason.UnsortedRoom ∷ Reason.FewGoodBytes ∷ Reason.ManyValues ∷ Reason.UnfitParts ∷ []

reason_is : (r : Reason) → reason_of (number_of r) ≡ r
unfolding reason_of
reason_is Reason.FewKnots = refl
reason_is Reason.ManyKnots = refl
reason_is Reason.OddLengths = refl
reason_is Reason.NotRising = refl
reason_is Reason.WideGap = refl
reason_is Reason.FarOrdinate = refl
reason_is Reason.UnfitEnd = refl
reason_is Reason.Stuck = refl
reason_is Reason.OutOfRange = refl
reason_is Reason.Jump = refl
reason_is Reason.Outside = refl
reason_is Reason.Meaningless = refl
reason_is Reason.NoGoodByte = refl
reason_is Reason.BadRecord = refl
reason_is Reason.UnknownCode = refl
reason_is Reason.LogLength = refl
reason_is Reason.Stranded = refl
reason_is Reason.FewPlaces = refl
reason_is Reason.LateMiddle = refl
reason_is Reason.NoRoom = refl
reason_is Reason.FullBook = refl
reason_is Reason.UnsortedRoom = refl
reason_is Reason.FewGoodBytes = refl
reason_is Reason.ManyValues = refl
reason_is Reason.UnfitParts = refl
reason_is Reason.ShortBuffer = refl

-- what a verdict is as the code answers it
abbrev judged : Verdict → Judged
judged (refused n p) = Err (record { reason = reason_of n; place = p })
judged (given u) = Ok u

judged_is : (a : Judged) → judged (verdict_of a) ≡ a
judged_is (Ok u) = refl
judged_is (Err e) = ap (λ r. Err (record { reason = r; place = e.place })) (reason_is e.reason)

pub one_judgement : {a b : Judged} {v : Verdict} → verdict_of a ≡ v → verdict_of b ≡ v → a ≡ b
one_judgement {a} {b} p q = sym (judged_is a) ∙ ap judged (one_outcome p q) ∙ judged_is b
