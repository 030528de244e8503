-- A text whose lines have no slopes is answered as it was before there were any: by the fit between the ends.
-- One whose lines have slopes is answered alike between any ends. Assumes nothing.
use Prim.Native.Nat.{ℕ}
use mathlib.Core.Path.{◌≡◌, refl}
use mathlib.Core.Bool.{true, false}
use mathlib.Core.List.{List}
use Rattle.rows.specs.declared.End.{End}
use Rattle.std.specs.Prelude.{Result, Ok, Err}
use Rattle.text.specs.declared.Blame.{Blame}
use Rattle.text.specs.declared.Sheet.{Sheet}
use Rattle.text.specs.Sheet.{sheet}
use Rattle.reply.specs.Reply.{fit_reply, sheet_reply, sheet_answer, text_reply, reply}
use Rattle.made_card.specs.Made.{read_sheet, the_sheet}

module _ (left right : End) (s logs card : List ℕ) where
  pub as_before_slopes : (the_sheet false s).sloped ≡ false → reply left right s logs card ≡ text_reply false (λ a. fit_reply left right) s logs card
  unfolding sheet_answer
  as_before_slopes = go (sheet false s)
    where
      go : (r : Result Sheet Blame) → (read_sheet r).sloped ≡ false
          → sheet_answer (sheet_reply left right) s r logs card ≡ sheet_answer (λ a. fit_reply left right) s r logs card
      go (Err b) none = refl
      go (Ok a) none = rw none

  pub whatever_the_ends : (the_sheet false s).sloped ≡ true → (left' right' : End) → reply left right s logs card ≡ reply left' right' s logs card
  unfolding sheet_answer
  whatever_the_ends given left' right' = go (sheet false s) given
    where
      go : (r : Result Sheet Blame) → (read_sheet r).sloped ≡ true
          → sheet_answer (sheet_reply left right) s r logs card ≡ sheet_answer (sheet_reply left' right') s r logs card
      go (Err b) given = refl
      go (Ok a) given = rw given
