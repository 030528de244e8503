-- The reply, by what the reading of a sheet and the fit, or the mending, answer.
-- Assumes nothing.
use Prim.Native.Nat.{ℕ}
use mathlib.Core.Path.{◌≡◌, refl, ap, ◌∙◌}
use mathlib.Core.Bool.{Bool, true, false, cond}
use mathlib.Core.List.{List, []}
use lib.IntN.{ℤ, pos}
use lib.ListN.{length, take, replicate}
use borrow.Author.Tests.{eq-eqb, ne_eqb}
use Rattle.answer.specs.Answer.{Answer, number, place}
use Rattle.curve.specs.Kind.{Kind}
use Rattle.curve.specs.Card.{Card}
use Rattle.fit.specs.declared.Fitted.{Fitted}
use Rattle.fit.specs.Promise.{slopes_after, curvatures_after, Fits}
use Rattle.knots.specs.Lent.{lent}
use Rattle.listing.proofs.Plain.{first_faults}
use Rattle.rows.specs.declared.End.{End}
use Rattle.mend.specs.declared.Change.{Change}
use Rattle.mend.specs.declared.Plan.{Plan}
use Rattle.mend.specs.Promise.{ordinates_after, plan_of, Plans}
use Rattle.std.specs.Prelude.{Option, Result, Ok, Err}
use Rattle.text.specs.declared.Blame.{Blame}
use Rattle.text.specs.declared.Sheet.{Sheet}
use Rattle.text.specs.Sheet.{most}
use Rattle.gather.specs.declared.Gathered.{Gathered}
use Rattle.reply.specs.Knots.{gathered}
use Rattle.reply.specs.Reply.{Reply, refusing, refusing_knots, listing_of, reply_of, ToKnots, fit_reply, by_slopes, slopes_reply, gathered_reply, complaint, sheet_answer, Answers}
use Rattle.reply.specs.Mending.{knots_plan, gathered_plan, sheet_plan}
use Rattle.reply.specs.declared.Answered.{Answered}

pub answers_as : {p q : Reply} {to to' card' : List ℕ} {r : Answered} → p ≡ q → Answers p to to' card' r → Answers q to to' card' r
answers_as e h = rw e at h

-- a refusal leaves the card as it is
pub refuses : (words : List ℕ) {to to' : List ℕ} {r : Answered} → Answers (refusing words []) to to' [] r → (card : List ℕ) → Answers (refusing words card) to to' card r
unfolding refusing
refuses words h card = record { said = h.said; status = h.status; card = refl; size = h.size }

module _ (K : Kind) (number place : ℕ) (c : Card) (faults : List (Option ℕ)) (lines card : List ℕ) where
  pub replies_refused : (number ≡ 0 → ⊥) → refusing_knots number place lines card ≡ reply_of K number place c faults lines card
  unfolding reply_of
  replies_refused z = rw (ne_eqb number 0 z)

  pub replies_done : number ≡ 0 → listing_of K c faults card ≡ reply_of K number place c faults lines card
  unfolding reply_of
  replies_done z = rw (eq-eqb number 0 z)

  -- it reads the faults of its own knots alone
  pub replies_first_faults : {n : ℕ} → n ≡ length c.minutes → reply_of K number place c faults lines card ≡ reply_of K number place c (take n faults) lines card
  unfolding reply_of listing_of
  replies_first_faults e = rw (first_faults 0 0 c.minutes c.ordinates c.slopes c.curvatures faults e)

-- the fit's number and place, its numbers where they were lent, and the codes of its ends
pub replies_fitted : (K : Kind) {f : Answer Card} {ms Ms ms' Ms' : List ℤ} {r : Fitted} → Fits f ms Ms ms' Ms' r → {a b left right : ℕ} → a ≡ left → b ≡ right
    → (xs : List ℕ) (ys : List ℤ) (faults : List (Option ℕ)) (lines card : List ℕ)
    → reply_of K r.number r.place (lent xs ys ms' Ms' a b) faults lines card
    ≡ reply_of K (number f) (place f) (lent xs ys (slopes_after f ms) (curvatures_after f Ms) left right) faults lines card
replies_fitted K h e k xs ys faults lines card = rw (h.answer, h.slopes, h.curvatures, e, k)

-- the slopes that were given to a fit, which left them
pub replies_sloped : (K : Kind) {f : Answer Card} {ms Ms Ms' : List ℤ} {r : Fitted} → Fits f ms Ms ms Ms' r
    → (xs : List ℕ) (ys : List ℤ) (faults : List (Option ℕ)) (lines card : List ℕ)
    → reply_of K r.number r.place (lent xs ys ms Ms' 0 0) faults lines card
    ≡ reply_of K (number f) (place f) (lent xs ys ms (curvatures_after f Ms) 0 0) faults lines card
replies_sloped K h xs ys faults lines card = rw (h.answer, h.curvatures)

-- the mending's, and its mended ordinates
pub replies_mended : (K : Kind) {f : Answer Card} {cs : List Change} {ys ms Ms ys' ms' Ms' : List ℤ} {p : Plan} → Plans f cs ys ms Ms ys' ms' Ms' p → (xs : List ℕ) (faults : List (Option ℕ)) (lines card : List ℕ)
    → reply_of K p.number p.place (lent xs ys' ms' Ms' 0 0) faults lines card
    ≡ reply_of K (number f) (place f) (lent xs (ordinates_after f ys) (slopes_after f ms) (curvatures_after f Ms) 0 0) faults lines card
replies_mended K h xs faults lines card = rw (h.plan, h.ordinates, h.slopes, h.curvatures)

-- the first of a sheet's slopes, as many as there are knots
pub replies_slopes : (b : Bool) (left right : End) (slopes : List ℤ) (xs : List ℕ) {n : ℕ} → n ≡ length xs → (ys ms Ms : List ℤ) (faults : List (Option ℕ)) (lines card : List ℕ)
    → cond b (by_slopes (take n slopes)) (fit_reply left right) xs ys ms Ms faults lines card ≡ cond b (slopes_reply slopes) (fit_reply left right) xs ys ms Ms faults lines card
replies_slopes b left right slopes xs e ys ms Ms faults lines card = ap (λ n. cond b (by_slopes (take n slopes)) (fit_reply left right) xs ys ms Ms faults lines card) e ∙ same b
  where
    same : (b : Bool) → cond b (by_slopes (take (length xs) slopes)) (fit_reply left right) xs ys ms Ms faults lines card ≡ cond b (slopes_reply slopes) (fit_reply left right) xs ys ms Ms faults lines card
    same true = refl
    same false = refl

-- so the whole array of a sheet's faults may be handed on
pub sheet_first_faults : (b : Bool) (left right : End) (slopes : List ℤ) (xs : List ℕ) {n : ℕ} → n ≡ length xs → (ys ms Ms : List ℤ) (faults : List (Option ℕ)) (lines card : List ℕ)
    → cond b (slopes_reply slopes) (fit_reply left right) xs ys ms Ms faults lines card ≡ cond b (slopes_reply slopes) (fit_reply left right) xs ys ms Ms (take n faults) lines card
sheet_first_faults true left right slopes xs e ys ms Ms faults lines card = replies_first_faults _ _ _ _ faults lines card e
sheet_first_faults false left right slopes xs e ys ms Ms faults lines card = replies_first_faults _ _ _ _ faults lines card e

module _ (to-knots : Sheet → ToKnots) (s logs : List ℕ) {r : Result Sheet Blame} (card : List ℕ) where
  pub replies_wrong : {b : Blame} → r ≡ Err b → {to to' : List ℕ} {q : Answered} → Answers (complaint s b []) to to' [] q
      → Answers (sheet_answer to-knots s r logs card) to to' card q
  unfolding sheet_answer
  replies_wrong e h = rw e (refuses _ h card)

  module _ {a : Sheet} (e : r ≡ Ok a) {g : Gathered} (is : g ≡ gathered a logs) where
    gathers : gathered_reply (to-knots a) g a.lines card ≡ sheet_answer to-knots s r logs card
    unfolding sheet_answer
    gathers = rw (e, is)

    pub replies_log : (g.number ≡ 0 → ⊥) → {to to' : List ℕ} {q : Answered} → Answers (refusing_knots g.number g.place a.lines []) to to' [] q
        → Answers (sheet_answer to-knots s r logs card) to to' card q
    unfolding gathered_reply
    replies_log n h = answers_as gathers (rw (ne_eqb g.number 0 n) (refuses _ h card))

    pub replies_knots : g.number ≡ 0
        → to-knots a (take g.knots g.minutes) (take g.knots g.ordinates) (take g.knots (replicate most (pos 0))) (take g.knots (replicate most (pos 0))) (take g.knots g.faults) a.lines card
        ≡ sheet_answer to-knots s r logs card
    unfolding gathered_reply
    replies_knots n = let h : gathered_reply (to-knots a) g a.lines card ≡ sheet_answer to-knots s r logs card = gathers in rw (eq-eqb g.number 0 n) at h

module _ (logs : List ℕ) {r : Result Sheet Blame} where
  pub plans_nothing : {b : Blame} → r ≡ Err b → plan_of 0 0 [] ≡ sheet_plan r logs
  unfolding sheet_plan
  plans_nothing e = rw e

  module _ {a : Sheet} (e : r ≡ Ok a) {g : Gathered} (is : g ≡ gathered a logs) where
    plans : gathered_plan g ≡ sheet_plan r logs
    unfolding sheet_plan
    plans = rw (e, is)

    pub plans_log : (g.number ≡ 0 → ⊥) → plan_of g.number g.place [] ≡ sheet_plan r logs
    unfolding gathered_plan
    plans_log n = rw (ne_eqb g.number 0 n) at plans

    pub plans_knots : g.number ≡ 0
        → knots_plan (take g.knots g.minutes) (take g.knots g.ordinates) (take g.knots (replicate most (pos 0))) (take g.knots (replicate most (pos 0))) ≡ sheet_plan r logs
    unfolding gathered_plan
    plans_knots n = rw (eq-eqb g.number 0 n) at plans
