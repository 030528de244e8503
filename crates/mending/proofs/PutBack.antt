-- "Putting the old numbers back from the list must give the sheet as it came" (document 02, order 1), after a refusal too; and the rest of what mending leaves.
-- Assumes nothing.
use Prim.Native.Nat.{ℕ, zero, suc, ◌+◌, ◌≤◌, ◌<◌}
use native.Mathlib.Nat.{eq-or-lt_of_le}
use native.Mathlib.Omega.{arith}
use mathlib.Core.Path.{◌≡◌, refl, sym, ap, ap₂, subst, ◌∙◌}
use mathlib.Core.Logic.{◌⊎◌, ⊎_elim}
use mathlib.Core.Bool.{Bool, true, false, cond}
use mathlib.Core.List.{List, [], ◌∷◌, ◌++◌}
use lib.IntN.{ℤ, pos}
use lib.ListN.{length, get_or, set, take, drop, length-set}
use lib.Seq.{ext_get_or, get_or-set_same, get_or-set_other, take_at}
use Rattle.answer.specs.Answer.{Answer, refused, given, accepted}
use Rattle.answer.proofs.Steps.{next_accepts}
use Rattle.curve.specs.Card.{Card}
use Rattle.rows.specs.declared.End.TheVariants.{Free}
use Rattle.fit.specs.Fit.{card_of}
use Rattle.fit.proofs.Card.{its_card}
use Rattle.holes.specs.declared.Fill.TheVariants.{Line}
use Rattle.holes.specs.Hole.{hole_at, holes, mended}
use Rattle.mend.specs.declared.Change.{Change}
use Rattle.mend.specs.declared.Mended.{Mended}
use Rattle.mend.specs.Changes.{change_at, changes_to, changes, restored}
use Rattle.mend.specs.Order.{mend}
use Rattle.mend.specs.Promise.{made, ordinates_after, list_after, Mends}
use Rattle.mend.proofs.Bridges.{length_filled, sound_stays}
use Rattle.mend.proofs.Columns.{as_many_as_holes}
use Rattle.mending.specs.Listed.{ListsTheHoles}
use Rattle.mending.proofs.Changed.{lists_the_holes}

restored_append : (a b : List Change) (l : List ℤ) → restored (a ++ b) l ≡ restored b (restored a l)
unfolding restored
restored_append [] b l = refl
restored_append (c ∷ a) b l = restored_append a b (set l c.place c.old)

-- of a sheet, and of the same sheet mended: sound knots stay
module _ (ys zs : List ℤ) (same : length zs ≡ length ys) (stays : (j : ℕ) → j < length ys → hole_at ys j ≡ false → get_or zs j (pos 0) ≡ get_or ys j (pos 0)) where
  -- how far it has come after the changes among the first i knots
  record Back (l : List ℤ) (i : ℕ) : Type 0 where
    long : length l ≡ length ys
    done : (j : ℕ) → j < i → get_or l j (pos 0) ≡ get_or ys j (pos 0)
    left : (j : ℕ) → i ≤ j → get_or l j (pos 0) ≡ get_or zs j (pos 0)

  done_more : (l : List ℤ) (i : ℕ) → ((j : ℕ) → j < i → get_or l j (pos 0) ≡ get_or ys j (pos 0)) → get_or l i (pos 0) ≡ get_or ys i (pos 0) → (j : ℕ) → j < suc i → get_or l j (pos 0) ≡ get_or ys j (pos 0)
  done_more l i before here j h =
      ⊎_elim (λ e. subst (λ k. get_or l k (pos 0) ≡ get_or ys k (pos 0)) (sym e) here) (λ p. before j p) (eq-or-lt_of_le {n = j} {m = i} (omega arith))

  one_back : (l : List ℤ) (i : ℕ) (t : Bool) → hole_at ys i ≡ t → i < length ys → Back l i → Back (restored (cond t (change_at ys zs i ∷ []) []) l) (suc i)
  unfolding restored change_at
  one_back l i true e h b =
      let y = get_or ys i (pos 0) in
      record {
        long = length-set l i y ∙ b.long;
        done = done_more (set l i y) i (λ j k. get_or-set_other l i j y (pos 0) (λ z. omega arith) ∙ b.done j k) (get_or-set_same l i y (pos 0) (omega (arith, b.long)));
        left = λ j k. get_or-set_other l i j y (pos 0) (λ z. omega arith) ∙ b.left j (omega arith);
      }
  one_back l i false e h b = record { long = b.long; done = done_more l i b.done (b.left i (omega arith) ∙ stays i h e); left = λ j k. b.left j (omega arith) }

  back : (i : ℕ) → i ≤ length ys → Back (restored (changes_to ys zs i) zs) i
  unfolding changes_to restored
  back zero h = record { long = same; done = λ j k. absurd (omega arith); left = λ j k. refl }
  back (suc i) h =
      rw (restored_append (changes_to ys zs i) (cond (hole_at ys i) (change_at ys zs i ∷ []) []) zs) (one_back (restored (changes_to ys zs i) zs) i (hole_at ys i) refl h (back i (omega arith)))

  pub put_back : restored (changes ys zs) zs ≡ ys
  unfolding changes
  put_back =
      let b = back (length ys) (omega arith) in
      ext_get_or (pos 0) (restored (changes_to ys zs (length ys)) zs) ys b.long (λ j l. b.done j (omega (arith, b.long)))

-- ---- of the outcome of mending

module _ (xs : List ℕ) {ys ms Ms : List ℤ} {list : List Change} {ys' ms' Ms' : List ℤ} {list' : List Change} {r : Mended}
    (h : Mends (mend xs ys (length ms) (length Ms) (length list)) (changes ys (mended xs ys)) ys ms Ms list ys' ms' Ms' list' r) where
  abbrev order : Answer Card
  order = mend xs ys (length ms) (length Ms) (length list)

  -- the mended sheet is what an acceptance leaves
  pub sheet_is : {card : Card} → order ≡ given card → ys' ≡ mended xs ys
  unfolding mend card_of
  sheet_is e = h.ordinates ∙ ap (λ v. ordinates_after v ys) e ∙ ap (λ c. c.ordinates) (its_card xs (mended xs ys) Free Free (length ms) (length Ms) accepted (next_accepts _ _ e))

  -- the first changes of the list put back, the sheet is as it came, accepted or refused
  pub given_back : restored (take r.count list') ys' ≡ ys
  unfolding restored
  given_back = go order refl h.ordinates
    where
      taken : (cs : List Change) → take (length cs) (cs ++ drop (length cs) list) ≡ cs
      taken cs = take_at cs (drop (length cs) list) (length cs) refl

      listed_back : take r.count list' ≡ made order (changes ys (mended xs ys))
      listed_back = ap (λ r. take r.count list') h.answer ∙ ap (take (length (made order (changes ys (mended xs ys))))) h.changes ∙ taken (made order (changes ys (mended xs ys)))

      go : (v : Answer Card) → order ≡ v → ys' ≡ ordinates_after order ys → restored (take r.count list') ys' ≡ ys
      go (refused n p) e q = ap (λ cs. restored cs ys') (listed_back ∙ ap (λ v. made v (changes ys (mended xs ys))) e) ∙ q ∙ ap (λ v. ordinates_after v ys) e
      go (given card) e q =
          ap₂ restored (listed_back ∙ ap (λ v. made v (changes ys (mended xs ys))) e) (sheet_is e) ∙ put_back ys (mended xs ys) (length_filled xs ys Line) (sound_stays xs ys Line)

  -- "their count is returned": that of the holes; none beside a refusal
  pub counts_holes : {card : Card} → order ≡ given card → r.count ≡ holes ys
  unfolding changes holes
  counts_holes e = ap (λ r. r.count) h.answer ∙ ap (λ v. length (made v (changes ys (mended xs ys)))) e ∙ as_many_as_holes ys (mended xs ys) (length ys)

  -- the list at exit has exactly the holes
  pub lists_holes : {card : Card} → order ≡ given card → ListsTheHoles ys ys' r.count list'
  lists_holes e =
      let zs = mended xs ys in
      let cs = changes ys zs in
      let is = h.changes ∙ ap (λ v. list_after v cs list) e in
      let counted = ap (λ r. r.count) h.answer ∙ ap (λ v. length (made v cs)) e in
      rw (is, sheet_is e, counted) (lists_the_holes ys zs (drop (length cs) list))

  -- "nothing else changes": a sound knot's number never does
  pub sound_knots_stay : (j : ℕ) → j < length ys → hole_at ys j ≡ false → get_or ys' j (pos 0) ≡ get_or ys j (pos 0)
  sound_knots_stay j l f = go order refl
    where
      go : (v : Answer Card) → order ≡ v → get_or ys' j (pos 0) ≡ get_or ys j (pos 0)
      go (refused n p) e = ap (λ l. get_or l j (pos 0)) (h.ordinates ∙ ap (λ v. ordinates_after v ys) e)
      go (given card) e = ap (λ l. get_or l j (pos 0)) (sheet_is e) ∙ sound_stays xs ys Line j l f
