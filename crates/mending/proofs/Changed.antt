-- "Each changed place goes into a lent list of changes, each with its place, old number and new number, in rising order" (document 02, order 1): exactly the holes are listed.
-- Assumes nothing.
use Prim.Native.Nat.{ℕ, zero, suc, ◌+◌, ◌<◌}
use native.Mathlib.Nat.{eq-or-lt_of_le}
use native.Mathlib.Omega.{arith}
use mathlib.Core.Path.{◌≡◌, refl, sym, ap, subst, ◌∙◌}
use mathlib.Core.Logic.{◌⊎◌, ⊎_elim}
use mathlib.Core.Bool.{Bool, true, false, true≢false, cond}
use mathlib.Core.List.{List, [], ◌∷◌, ◌++◌, append-nil}
use lib.IntN.{ℤ, pos, negsuc}
use lib.ListN.{length, get_or, length-append, get_or-append}
use lib.Seq.{get_or-append_seam}
use borrow.Author.Tests.{eqb-true}
use Rattle.holes.specs.Hole.{hole, is_hole, hole_at, holes}
use Rattle.mend.specs.declared.Change.{Change}
use Rattle.mend.specs.Changes.{change_at, changes_to, changes}
use Rattle.mend.specs.Promise.{no_change}
use Rattle.mend.proofs.Columns.{as_many_as_holes}
use Rattle.mending.specs.Listed.{ListedAt, OfAHole, ListsTheHoles}

-- the mark is one number
pub hole_is : (y : ℤ) → is_hole y ≡ true → y ≡ hole
unfolding is_hole
hole_is (pos n) e = absurd (true≢false (sym e))
hole_is (negsuc n) e = let one : n ≡ 32767 = omega (arith, eqb-true (suc n) 32768 e) in ap negsuc one

-- the change behind the others, and those before it
module _ (cs : List Change) (c : Change) where
  last_is : get_or (cs ++ (c ∷ [])) (length cs) no_change ≡ c
  last_is = get_or-append_seam cs c [] no_change

  others_are : (k : ℕ) → k < length cs → get_or (cs ++ (c ∷ [])) k no_change ≡ get_or cs k no_change
  others_are k l = get_or-append cs (c ∷ []) no_change k l

  last_or_other : (k : ℕ) → k < length (cs ++ (c ∷ [])) → (k ≡ length cs) ⊎ (k < length cs)
  last_or_other k l = eq-or-lt_of_le {n = k} {m = length cs} (omega (arith, length-append cs (c ∷ [])))

module _ (ys zs : List ℤ) where
  -- what holds of the change at each hole holds of each change
  each_change : (P : Change → Type 0) (i : ℕ) → ((j : ℕ) → j < i → hole_at ys j ≡ true → P (change_at ys zs j)) → (k : ℕ) → k < length (changes_to ys zs i) → P (get_or (changes_to ys zs i) k no_change)
  unfolding changes_to
  each_change P zero f k l = absurd (omega arith)
  each_change P (suc i) f k l = go (hole_at ys i) refl (each_change P i (λ j h e. f j (omega arith) e)) k l
    where
      go : (t : Bool) → hole_at ys i ≡ t → ((k : ℕ) → k < length (changes_to ys zs i) → P (get_or (changes_to ys zs i) k no_change))
          → (k : ℕ) → k < length (changes_to ys zs i ++ cond t (change_at ys zs i ∷ []) []) → P (get_or (changes_to ys zs i ++ cond t (change_at ys zs i ∷ []) []) k no_change)
      go true e ih k l =
          ⊎_elim (λ q. subst P (sym (ap (λ k. get_or (changes_to ys zs i ++ (change_at ys zs i ∷ [])) k no_change) q ∙ last_is (changes_to ys zs i) (change_at ys zs i))) (f i (omega arith) e))
          (λ q. subst P (sym (others_are (changes_to ys zs i) (change_at ys zs i) k q)) (ih k q)) (last_or_other (changes_to ys zs i) (change_at ys zs i) k l)
      go false e ih k l = subst (λ cs. P (get_or cs k no_change)) (sym (append-nil (changes_to ys zs i))) (ih k (subst (λ cs. k < length cs) (append-nil (changes_to ys zs i)) l))

  pub only_holes : (k : ℕ) → k < length (changes ys zs) → OfAHole ys zs (get_or (changes ys zs) k no_change)
  unfolding changes change_at hole_at
  only_holes = each_change (OfAHole ys zs) (length ys) (λ j l e. record { inside = l; was_hole = e; old_is = hole_is (get_or ys j (pos 0)) e; new_is = refl })

  listed_to : (i j : ℕ) → j < i → hole_at ys j ≡ true → ListedAt (length (changes_to ys zs i)) (changes_to ys zs i) j
  unfolding changes_to change_at
  listed_to zero j l e = absurd (omega arith)
  listed_to (suc i) j l e = go (hole_at ys i) refl (λ q. listed_to i j q e)
    where
      Listed : List Change → Type 0
      Listed cs = ListedAt (length cs) cs j

      go : (t : Bool) → hole_at ys i ≡ t → (j < i → Listed (changes_to ys zs i)) → Listed (changes_to ys zs i ++ cond t (change_at ys zs i ∷ []) [])
      go true f ih =
          let cs = changes_to ys zs i in
          let c = change_at ys zs i in
          let long = length-append cs (c ∷ []) in
          ⊎_elim (λ q. record { at = length cs; within = omega (arith, long); is = ap (λ c. c.place) (last_is cs c) ∙ sym q })
          (λ q. let h = ih q in record { at = h.at; within = omega (arith, long, h.within); is = ap (λ c. c.place) (others_are cs c h.at h.within) ∙ h.is }) (eq-or-lt_of_le {n = j} {m = i} (omega arith))
      go false f ih =
          let other : j ≡ i → ⊥ = λ q. true≢false (sym e ∙ ap (hole_at ys) q ∙ f) in
          subst Listed (sym (append-nil (changes_to ys zs i))) (ih (⊎_elim (λ q. absurd (other q)) (λ q. q) (eq-or-lt_of_le {n = j} {m = i} (omega arith))))

  pub every_hole : (j : ℕ) → j < length ys → hole_at ys j ≡ true → ListedAt (length (changes ys zs)) (changes ys zs) j
  unfolding changes
  every_hole = listed_to (length ys)

  rising_to : (i a b : ℕ) → a < b → b < length (changes_to ys zs i) → (get_or (changes_to ys zs i) a no_change).place < (get_or (changes_to ys zs i) b no_change).place
  unfolding changes_to change_at
  rising_to zero a b l m = absurd (omega arith)
  rising_to (suc i) a b l m = go (hole_at ys i) (rising_to i a b l) m
    where
      cs : List Change
      cs = changes_to ys zs i

      c : Change
      c = change_at ys zs i

      below : (k : ℕ) → k < length cs → (get_or cs k no_change).place < i
      below = each_change (λ c. c.place < i) i (λ j h e. h)

      go : (t : Bool) → (b < length cs → (get_or cs a no_change).place < (get_or cs b no_change).place)
          → b < length (cs ++ cond t (c ∷ []) []) → (get_or (cs ++ cond t (c ∷ []) []) a no_change).place < (get_or (cs ++ cond t (c ∷ []) []) b no_change).place
      go true ih m =
          ⊎_elim (λ q. let h : a < length cs = omega (arith, q, l) in
          subst (λ k. (get_or (cs ++ (c ∷ [])) a no_change).place < (get_or (cs ++ (c ∷ [])) k no_change).place) (sym q) (rw (others_are cs c a h, last_is cs c) (below a h)))
          (λ q. rw (others_are cs c a (omega (arith, q, l)), others_are cs c b q) (ih q)) (last_or_other cs c b m)
      go false ih m = rw append-nil (ih (rw append-nil at m))

  -- "in rising order"
  pub places_rise : (a b : ℕ) → a < b → b < length (changes ys zs) → (get_or (changes ys zs) a no_change).place < (get_or (changes ys zs) b no_change).place
  unfolding changes
  places_rise = rising_to (length ys)

  -- over the front of a list they are all that its first places have
  pub lists_the_holes : (rest : List Change) → ListsTheHoles ys zs (length (changes ys zs)) (changes ys zs ++ rest)
  unfolding changes holes
  lists_the_holes rest =
      record {
        counted = as_many_as_holes ys zs (length ys);
        room = omega (arith, length-append cs rest);
        only_holes = λ k l. subst (OfAHole ys zs) (sym (front k l)) (only_holes k l);
        every_hole = λ j l e. let h = every_hole j l e in record { at = h.at; within = h.within; is = ap (λ c. c.place) (front h.at h.within) ∙ h.is };
        rising = λ a b l m. rw (front a (omega (arith, l, m)), front b m) (places_rise a b l m);
      }
    where
      cs : List Change
      cs = changes ys zs

      front : (k : ℕ) → k < length cs → get_or (cs ++ rest) k no_change ≡ get_or cs k no_change
      front k l = get_or-append cs rest no_change k l
