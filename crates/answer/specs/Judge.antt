-- The code's answers in the numbers of document 01's table.
-- Assumes nothing.
use Rattle.std.specs.Prelude.{ℕ, zero, suc, ◌≡◌, ◌<◌, Result, Ok, Err}
use Rattle.answer.specs.Answer.{Verdict, refused, accepted}
use Rattle.answer.specs.declared.Reason.{Reason}
use Rattle.answer.specs.declared.Refusal.{Refusal}

abbrev pub number_of : Reason → ℕ
number_of Reason.FewKnots = 1
number_of Reason.ManyKnots = 2
number_of Reason.OddLengths = 3
number_of Reason.NotRising = 4
number_of Reason.WideGap = 5
number_of Reason.FarOrdinate = 6
number_of Reason.UnfitEnd = 7
number_of Reason.Stuck = 8
number_of Reason.OutOfRange = 9
number_of Reason.Jump = 10
number_of Reason.Outside = 11
number_of Reason.Meaningless = 12
number_of Reason.NoGoodByte = 13
number_of Reason.BadRecord = 14
number_of Reason.UnknownCode = 15
number_of Reason.LogLength = 16
number_of Reason.Stranded = 17
number_of Reason.FewPlaces = 18
number_of Reason.LateMiddle = 19
number_of Reason.NoRoom = 20
number_of Reason.FullBook = 21
number_of Reason.UnsortedRoom = 22
number_of Reason.FewGoodBytes = 23
number_of Reason.ManyValues = 24
number_of Reason.UnfitParts = 25
number_of Reason.ShortBuffer = 26

-- what the code calls Judged
abbrev pub Judged : Type 0
Judged = Result (Unit {0}) Refusal

abbrev pub verdict_of : Judged → Verdict
verdict_of (Ok u) = accepted
verdict_of (Err e) = refused (number_of e.reason) e.place

-- a check answers at each place before n as a step says
abbrev pub AnswersAs : (ℕ → Judged → Type 0) → ℕ → (ℕ → Verdict) → Type 0
AnswersAs answers n step = (i : ℕ) → i < n → (judged : Judged) → answers i judged → verdict_of judged ≡ step i

-- a number at a place; 0 is none
abbrev pub numbered : ℕ → ℕ → Verdict
numbered zero p = accepted
numbered (suc n) p = refused (suc n) p
