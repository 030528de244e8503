-- From the fit to the card: what an accepted fit gives, the writer of its kind accepts in a buffer of its
-- size, and the reader accepts what is written and returns it. Of the functions of the boundary that is said
-- of what they leave, with the codes of its ends.
-- Assumes nothing.
use mathlib.Core.Path.{◌≡◌, sym, ap, ap₂, subst, ◌∙◌}
use Prim.Native.Nat.{ℕ, ◌≤◌}
use lib.IntN.{pos}
use lib.ListN.{length}
use borrow.Author.Tests.{le-ltb}
use Rattle.answer.specs.Answer.{given, accepted}
use Rattle.answer.proofs.Steps.{both_accept, accepts_refuse}
use Rattle.curve.specs.Kind.{Kind, quintic, sloped}
use Rattle.curve.specs.Card.{Card, knots, knot}
use Rattle.curve.specs.Steps.{size, room}
use Rattle.curve.specs.Orders.{verdict, write_order}
use Rattle.knots.specs.Lent.{lent}
use Rattle.fit.proofs.Card.{its_codes}
use Rattle.fit.proofs.AtRest.{starts_at_rest}
use Rattle.demands.specs.Calls.{AFit, AFitBetween, AFitSlopes, Fitting, without_ends, fitted_with, fitted_card, between_ends, card_between, by_slopes, sloped_card, the_fit, AWriting, written_kind, written_card, buffer, write_answer, ARead, read_bytes, places, places'}
use Rattle.demands.specs.Demands.{IsGiven, Eliminates, AcceptsAs, RoomFor, front, written_bytes, Kept}
use Rattle.demands.proofs.Jobs.{kind_for, left_by, right_by, its_card, accepted_card, card_is}
use Rattle.demands.proofs.Writers.{promises, known_writer}
use Rattle.demands.proofs.Answered.{write_answers}
use Rattle.demands.proofs.Given.{eliminates}
use Rattle.demands.proofs.RoundTrip.{written_accepted, written_held, written_headed, accepts_its_card, takes, reads_its_card}

-- ---- what was written

accepted_is_written : (K : Kind) (c : Card) → verdict K c ≡ accepted → (lent : ℕ) → size (knots c) ≤ lent → write_order K c lent ≡ accepted
unfolding write_order room
accepted_is_written K c a lent h = both_accept a (accepts_refuse 26 0 (le-ltb _ _ h))

-- is read back
pub read_back : (w : AWriting) (r : ARead) → (write_answer w).number ≡ 0 → read_bytes r ≡ written_bytes w → RoomFor (knots (written_card w)) (places r)
    → AcceptsAs (written_kind w) (written_card w) r.answer × (front r.answer.knots (places' r) r.answer.left r.answer.right ≡ written_card w)
read_back w r zero same room =
    let p = promises w in
    let known = known_writer w in
    let held = written_held p.0 known p.1 zero same in
    let taken = takes r.promised (written_accepted p.0 known p.1 zero same) (subst (λ k. RoomFor (knots k) (places r)) (sym held) room) in
    (accepts_its_card (read_bytes r) (written_headed p.0 known p.1 zero same) held r.promised.answer taken, reads_its_card r.promised taken ∙ held)

-- so a card that its kind's test accepts is kept
pub kept : {K : Kind} (card : Card) → verdict K card ≡ accepted → Kept K card
kept {K} card a =
    record {
      is_written = writes;
      is_read = λ w r kind same room read places_for.
          let back = read_back w r (writes w kind same room) read (subst (λ k. RoomFor (knots k) (places r)) (sym same) places_for) in
          (subst (λ k. AcceptsAs K k r.answer) same (subst (λ L. AcceptsAs L (written_card w) r.answer) kind back.0), back.1 ∙ same);
    }
  where
    writes : (w : AWriting) → written_kind w ≡ K → written_card w ≡ card → size (knots card) ≤ length (buffer w) → (write_answer w).number ≡ 0
    writes w kind same room =
        (write_answers (promises w).0).0.accepted
        (record { what = tt; is = ap₂ (λ L c. write_order L c (length (buffer w))) kind same ∙ accepted_is_written K card a (length (buffer w)) room })

-- ---- what a fit leaves

-- the lists that it leaves are the card that it gives
module _ (f : Fitting) (g : IsGiven (the_fit f)) (e : Eliminates f) where
  pub fitted_card_is : the_fit f ≡ given (fitted_with f (left_by f.job) (right_by f.job))
  fitted_card_is =
      g.is
      ∙ ap given
      (its_card f.minutes f.ordinates _ _ f.job g.is
      ∙ card_is f.job f.minutes f.ordinates
      ∙ sym (ap₂ (λ ms Ms. lent f.minutes f.ordinates ms Ms (left_by f.job) (right_by f.job)) e.slopes e.curvatures))

  pub fitted_passes : verdict (kind_for f.job) (fitted_with f (left_by f.job) (right_by f.job)) ≡ accepted
  fitted_passes = accepted_card f.minutes f.ordinates _ _ f.job fitted_card_is

-- ---- without ends

module _ (c : AFit) (g : IsGiven (the_fit (without_ends c))) where
  default_eliminates : Eliminates (without_ends c)
  default_eliminates = eliminates (without_ends c) c.promised g

  pub default_rests : ((knot (fitted_card c) 0).m ≡ pos 0) × ((knot (fitted_card c) 0).M ≡ pos 0)
  default_rests = starts_at_rest _ _ _ _ (fitted_card_is (without_ends c) g default_eliminates)

  pub default_is_kept : Kept quintic (fitted_card c)
  default_is_kept = kept (fitted_card c) (fitted_passes (without_ends c) g default_eliminates)

-- ---- between ends

pub between_is_kept : (c : AFitBetween) → IsGiven (the_fit (between_ends c)) → Kept quintic (card_between c)
between_is_kept c g =
    let f = between_ends c in
    let e = eliminates f c.promised g in
    let asked = its_codes _ _ _ _ _ _ _ _ _ _ (fitted_card_is f g e) in
    kept (card_between c) (subst (λ d. verdict quintic d ≡ accepted) (ap₂ (fitted_with f) asked.0 asked.1) (fitted_passes f g e))

-- ---- to given slopes

pub sloped_passes : (c : AFitSlopes) → IsGiven (the_fit (by_slopes c)) → verdict sloped (sloped_card c) ≡ accepted
sloped_passes c g = let f = by_slopes c in fitted_passes f g (eliminates f c.promised g)
