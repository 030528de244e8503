-- What an answer of the pre-heater says: its number and place, its zero, and where its value stands.
-- Assumes nothing.
use Prim.Native.Nat.{ℕ}
use mathlib.Core.Path.{◌≡◌, refl, sym, ap, subst, ◌∙◌}
use mathlib.Core.Logic.{◌≢◌}
use mathlib.Core.List.{List}
use lib.Dec.{lit<}
use lib.IntN.{ℤ, pos}
use lib.ListN.{length}
use Rattle.answer.specs.Answer.{Answer, refused, given, number, place}
use Rattle.answer.proofs.Never.{Never, given_never, never_then, never_each, numbered_refuse}
use Rattle.unknowns.specs.Unknowns.{counted, in_range, checked}
use Rattle.preheat.specs.declared.Heated.{Heated}
use Rattle.preheat.specs.Preheat.{parted, past, preheat, heated}
use Rattle.preheat.specs.Demand.{OnCubic}
use Rattle.preheat.proofs.Demand.{on_cubic}
use Rattle.demands.specs.Demands.{Says}
use Rattle.demands.proofs.Numbered.{says}

heated_number : (v : Answer ℤ) → (heated v).number ≡ number v
unfolding number
heated_number (refused n p) = refl
heated_number (given z) = refl

heated_place : (v : Answer ℤ) → (heated v).place ≡ place v
unfolding place
heated_place (refused n p) = refl
heated_place (given z) = refl

no_heat : (v : Answer ℤ) → (heated v).number ≢ 0 → (heated v).value ≡ pos 0
no_heat (refused n p) h = refl
no_heat (given z) h = absurd (h refl)

value_given : (v : Answer ℤ) → Never 0 v → (heated v).number ≡ 0 → v ≡ given (heated v).value
value_given (refused n p) h e = absurd (h.never p (ap (λ k. refused k p) e))
value_given (given z) h e = refl

module _ (ys : List ℤ) (parts count : ℕ) where
  preheat_numbered : Never 0 (preheat ys parts count)
  unfolding preheat checked counted in_range parted past
  preheat_numbered =
      never_then
      (never_then (never_then (numbered_refuse 1 0 _ (lit< tt)) (numbered_refuse 24 0 _ (lit< tt))) (never_each 0 _ 0 (length ys) (λ i l. numbered_refuse 6 i _ (lit< tt))))
      (never_then (numbered_refuse 25 0 _ (lit< tt)) (never_then (numbered_refuse 11 0 _ (lit< tt)) given_never))

  module _ {r : Heated} (is : r ≡ heated (preheat ys parts count)) where
    pub preheat_answers : Says (preheat ys parts count) r.number r.place
    preheat_answers = says (preheat ys parts count) preheat_numbered (ap (λ r. r.number) is ∙ heated_number _) (ap (λ r. r.place) is ∙ heated_place _)

    pub preheat_zeros : r.number ≢ 0 → r.value ≡ pos 0
    preheat_zeros h = ap (λ r. r.value) is ∙ no_heat (preheat ys parts count) (λ e. h (ap (λ r. r.number) is ∙ e))

    pub preheats : r.number ≡ 0 → OnCubic ys parts count r.value
    preheats e =
        subst (OnCubic ys parts count) (sym (ap (λ r. r.value) is))
        (on_cubic ys parts count _ (value_given _ preheat_numbered (sym (ap (λ r. r.number) is) ∙ e)))
