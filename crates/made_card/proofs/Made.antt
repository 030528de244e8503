-- Where a sheet's text, with the logs that it names, is answered with the status '0', into a buffer with room for the largest card, a card is made; so too where it is mended.
-- Assumes nothing.
use Prim.Native.Nat.{ℕ, ◌≤◌}
use mathlib.Core.Path.{◌≡◌, refl, sym, ap, subst, ◌∙◌}
use mathlib.Core.Logic.{inl, inr}
use mathlib.Core.Bool.{Bool, true, false, cond}
use mathlib.Core.List.{List, ◌++◌}
use native.Mathlib.Omega.{arith}
use lib.Dec.{eqb}
use lib.IntN.{ℤ, pos}
use lib.ListN.{length, take, drop, replicate}
use lib.Seq.{take_at, length-take-le}
use borrow.Author.Tests.{eqb-true, le-ltb}
use Rattle.answer.specs.Answer.{Answer, given, accepted, number, place}
use Rattle.answer.specs.Lent.{lent_after}
use Rattle.answer.proofs.Never.{Never, given_never}
use Rattle.answer.proofs.Steps.{next_accepts, both_accept, accepts_refuse}
use Rattle.curve.specs.Kind.{Kind, quintic, sloped}
use Rattle.curve.specs.Card.{Card, knots}
use Rattle.curve.specs.Steps.{size, room as room_for}
use Rattle.curve.specs.Orders.{verdict, write_order}
use Rattle.curve.proofs.Accepted.{good}
use Rattle.knots.specs.Lent.{lent}
use Rattle.rows.specs.declared.End.{End}
use Rattle.rows.specs.declared.End.TheVariants.{Free}
use Rattle.rows.specs.Equations.{code}
use Rattle.card_bytes.specs.Bytes.{bytes_of}
use Rattle.card_bytes.specs.Held
use Rattle.card_bytes.specs.Records.{kind_by, Known}
use Rattle.card_bytes.proofs.Sizes.{length_card}
use Rattle.card_bytes.proofs.ByHead.{limits, read_back}
use Rattle.card.specs.Answers.{own}
use Rattle.writer.specs.Promise.{written}
use Rattle.fit.specs.Fit.{card_of, fit_between}
use Rattle.fit.specs.Promise.{slopes_after, curvatures_after}
use Rattle.fit.proofs.Card.{its_card, accepted_card}
use Rattle.fit.proofs.Numbered.{fit_numbered}
use Rattle.slope_fit.specs.SlopesFit as Slopes
use Rattle.slope_fit.specs.SlopesFit.{slopes_fit}
use Rattle.slope_fit.proofs.Card as SlopesCard
use Rattle.slope_fit.proofs.Numbered.{slopes_fit_numbered}
use Rattle.holes.specs.Hole.{mended}
use Rattle.mend.specs.Order.{mend}
use Rattle.mend.specs.Promise.{ordinates_after}
use Rattle.listing.specs.Text.{listing}
use Rattle.std.specs.Prelude.{Option, Result, Ok, Err}
use Rattle.text.specs.declared.Blame.{Blame}
use Rattle.text.specs.declared.Sheet.{Sheet}
use Rattle.text.specs.Sheet.{sheet, most}
use Rattle.gather.specs.declared.Gathered.{Gathered}
use Rattle.reply.specs.Reply.{Reply, refusing, listing_of, reply_of, ToKnots, fit_reply, by_slopes, slopes_reply, sheet_reply, gathered_reply, sheet_answer, text_reply, reply}
use Rattle.reply.specs.Knots.{gathered}
use Rattle.reply.specs.Mending.{room as places, mend_reply, mending_reply}
use Rattle.reply.proofs.Gathers.{Roomy, roomy}
use Rattle.reply.proofs.Lists.{minutes_hold}
use Rattle.kaihveto.specs.Types.{Minutes}
use Rattle.demands.proofs.Numbered.{says}
use Rattle.demands.proofs.Numbers.{typed}
use Rattle.made_card.specs.Made.{read_sheet, the_sheet, sheet_knots, sheet_kind, sheet_fit, sheet_mend, sheet_faults, made_bytes, Made}
use Rattle.made_card.proofs.Typed.{minutes_front, minutes_typed, minutes_gathered, roomy_sheet}
use Rattle.mending.proofs.Numbered.{mend_numbered}

-- a refusal's status is '1', so that behind a '0' the test held
done_by : (test : Bool) (done : Reply) (words card : List ℕ) → (cond test done (refusing words card)).status ≡ 48 → (test ≡ true) × (cond test done (refusing words card) ≡ done)
unfolding refusing
done_by true done words card e = (refl, refl)
done_by false done words card e = absurd (omega arith)

-- f gives no card but c, which the test of its kind accepts where f gives it; the lists hold it then
module _ {K : Kind} (known : Known K) (f : Answer Card) (numbers : Never 0 f) (c : Card) (only : (d : Card) → f ≡ given d → d ≡ c) (sound : f ≡ given c → verdict K c ≡ accepted)
    (held : Answer Card → Card) (holds : held (given c) ≡ c) (faults : List (Option ℕ)) (lines buffer : List ℕ) where
  abbrev its_reply : Answer Card → Reply
  its_reply g = reply_of K (number g) (place g) (held g) faults lines buffer

  -- the reply with this card, where the writer accepts it
  abbrev with_card : Reply
  with_card = record { words = listing 0 0 c.minutes c.ordinates c.slopes c.curvatures faults; status = 48; card = bytes_of K c ++ drop (length (bytes_of K c)) buffer; size = size (knots c) }

  module _ (e : (its_reply f).status ≡ 48) where
    -- 0 is no refusal's number
    gives : f ≡ given c
    unfolding reply_of
    gives =
        let g = (says f numbers refl refl).accepts (eqb-true (number f) 0 (done_by _ _ _ _ e).0) in
        g.is ∙ ap given (only g.what g.is)

    module _ (room : size quintic.most_knots ≤ length buffer) where
      writes : write_order K c (length buffer) ≡ accepted
      unfolding write_order room_for
      writes =
          let many = (good K c (sound gives)).many in
          let most = (limits known).most in
          both_accept (sound gives) (accepts_refuse 26 0 (le-ltb (length buffer) (size (knots c)) (omega (arith, many, most))))

      replies : its_reply f ≡ with_card
      unfolding reply_of number place listing_of lent_after written
      replies = ap its_reply gives ∙ ap (λ d. reply_of K 0 0 d faults lines buffer) holds ∙ rw writes

      pub made_of : Minutes c.minutes → Made K f faults (its_reply f)
      made_of typed-minutes =
          let returned = read_back known c (typed known c (sound gives) typed-minutes) (sound gives) in
          let bytes = ap made_bytes replies ∙ take_at (bytes_of K c) _ (size (knots c)) (length_card K c) in
          record {
            made = c;
            fitted = gives;
            size = ap (λ r. r.size) replies;
            bytes = bytes;
            headed = ap kind_by bytes ∙ returned.kind;
            tested = ap own bytes ∙ returned.accepts;
            held = ap Held.card_of bytes ∙ returned.card;
            said = ap (λ r. r.words) replies;
          }

-- ---- of a text

module _ (mends : Bool) (s logs buffer : List ℕ) where
  abbrev g : Gathered
  g = sheet_knots mends s logs

  abbrev n : ℕ
  n = g.knots

  abbrev xs : List ℕ
  xs = take n g.minutes

  abbrev ys : List ℤ
  ys = take n g.ordinates

  abbrev zeros : List ℤ
  zeros = take n (replicate most (pos 0))

  abbrev faults : List (Option ℕ)
  faults = sheet_faults mends s logs

  abbrev on : List ℕ
  on = (the_sheet mends s).lines

  gathers : Roomy g
  gathers = roomy (the_sheet mends s) logs (roomy_sheet mends s).few

  as_many : length zeros ≡ n
  as_many = length-take-le n (replicate most (pos 0)) gathers.few

  as_many_knots : length xs ≡ n
  as_many_knots = length-take-le n g.minutes (minutes_hold gathers)

  typed_knots : Minutes xs
  typed_knots = minutes_front n g.minutes (minutes_gathered (the_sheet mends s) (minutes_typed mends s) logs)

  -- behind a '0' nothing was wrong in the text
  sheet_answered : (to-knots : Sheet → ToKnots) (r : Result Sheet Blame) → (sheet_answer to-knots s r logs buffer).status ≡ 48
      → sheet_answer to-knots s r logs buffer ≡ gathered_reply (to-knots (read_sheet r)) (gathered (read_sheet r) logs) (read_sheet r).lines buffer
  unfolding sheet_answer refusing
  sheet_answered to-knots (Err b) e = absurd (omega arith)
  sheet_answered to-knots (Ok a) e = refl

  knots_answered : (to-knots : Sheet → ToKnots) → (text_reply mends to-knots s logs buffer).status ≡ 48 → text_reply mends to-knots s logs buffer ≡ to-knots (the_sheet mends s) xs ys zeros zeros faults on buffer
  unfolding gathered_reply
  knots_answered to-knots e =
      let sound = sheet_answered to-knots (sheet mends s) e in
      sound ∙ (done_by (eqb g.number 0) _ _ _ (ap (λ r. r.status) (sym sound) ∙ e)).1

  -- to these knots, with zeros in the lent lists
  abbrev answered : ToKnots → Reply
  answered to-knots = to-knots xs ys zeros zeros faults on buffer

  module _ (room : size quintic.most_knots ≤ length buffer) where
    -- what is shown of the lent lists' lengths is of the number of knots
    with_places : {K : Kind} (f : ℕ → Answer Card) {r : Reply} → Made K (f (length zeros)) faults r → Made K (f n) faults r
    with_places {K} f {r} m = subst (λ k. Made K (f k) faults r) as_many m

    fit_made : (left right : End) → (answered (fit_reply left right)).status ≡ 48 → Made quintic (fit_between xs ys n n left right) faults (answered (fit_reply left right))
    unfolding card_of
    fit_made left right e =
        let k = length zeros in
        with_places (λ k. fit_between xs ys k k left right)
        (made_of (inl refl) (fit_between xs ys k k left right) (fit_numbered xs ys left right k k given_never) (card_of xs ys left right)
        (λ d g. its_card xs ys left right k k accepted g) (accepted_card xs ys left right k k accepted)
        (λ g. lent xs ys (slopes_after g zeros) (curvatures_after g zeros) (code left) (code right)) refl faults on buffer e room typed_knots)

    mend_made : (answered mend_reply).status ≡ 48 → Made quintic (mend xs ys n n places) faults (answered mend_reply)
    unfolding card_of mend
    mend_made e =
        let k = length zeros in
        with_places (λ k. mend xs ys k k places)
        (made_of (inl refl) (mend xs ys k k places) (mend_numbered xs ys k k places) (card_of xs (mended xs ys) Free Free)
        (λ d g. its_card xs (mended xs ys) Free Free k k accepted (next_accepts _ _ g)) (λ g. accepted_card xs (mended xs ys) Free Free k k accepted (next_accepts _ _ g))
        (λ g. lent xs (ordinates_after g ys) (slopes_after g zeros) (curvatures_after g zeros) 0 0) refl faults on buffer e room typed_knots)

    -- by slopes, as many as there are knots
    module _ (gs : List ℤ) where
      by_slopes_made : (answered (by_slopes gs)).status ≡ 48 → Made sloped (slopes_fit xs ys gs n) faults (answered (by_slopes gs))
      unfolding Slopes.card_of
      by_slopes_made e =
          let k = length zeros in
          with_places (λ k. slopes_fit xs ys gs k)
          (made_of (inr refl) (slopes_fit xs ys gs k) (slopes_fit_numbered xs ys gs k) (Slopes.card_of xs ys gs)
          (λ d g. SlopesCard.its_card xs ys gs k g) (SlopesCard.accepted_card xs ys gs k)
          (λ g. lent xs ys gs (curvatures_after g zeros) 0 0) refl faults on buffer e room typed_knots)

    slopes_made : (slopes : List ℤ) → (answered (slopes_reply slopes)).status ≡ 48 → Made sloped (slopes_fit xs ys (take n slopes) n) faults (answered (slopes_reply slopes))
    slopes_made slopes e = subst (λ k. Made sloped (slopes_fit xs ys (take k slopes) n) faults (answered (slopes_reply slopes))) as_many_knots (by_slopes_made (take (length xs) slopes) e)

    sheet_made : (left right : End) (slopes : List ℤ) (b : Bool) → let to-knots = cond b (slopes_reply slopes) (fit_reply left right) in
        (answered to-knots).status ≡ 48 → Made (cond b sloped quintic) (cond b (slopes_fit xs ys (take n slopes) n) (fit_between xs ys n n left right)) faults (answered to-knots)
    sheet_made left right slopes true = slopes_made slopes
    sheet_made left right slopes false = fit_made left right

  -- the reply to the text is that to its knots
  made_by : {K : Kind} {f : Answer Card} (to-knots : Sheet → ToKnots) → (text_reply mends to-knots s logs buffer).status ≡ 48
      → ((answered (to-knots (the_sheet mends s))).status ≡ 48 → Made K f faults (answered (to-knots (the_sheet mends s)))) → Made K f faults (text_reply mends to-knots s logs buffer)
  made_by {K} {f} to-knots e m =
      let is = knots_answered to-knots e in
      subst (λ r. Made K f faults r) (sym is) (m (ap (λ r. r.status) (sym is) ∙ e))

pub made_card : (left right : End) (s logs buffer : List ℕ) → size quintic.most_knots ≤ length buffer → (reply left right s logs buffer).status ≡ 48
    → Made (sheet_kind s) (sheet_fit left right s logs) (sheet_faults false s logs) (reply left right s logs buffer)
made_card left right s logs buffer room e =
    let a = the_sheet false s in
    made_by false s logs buffer (sheet_reply left right) e (sheet_made false s logs buffer room left right a.slopes a.sloped)

pub mended_card : (s logs buffer : List ℕ) → size quintic.most_knots ≤ length buffer → (mending_reply s logs buffer).status ≡ 48 → Made quintic (sheet_mend s logs) (sheet_faults true s logs) (mending_reply s logs buffer)
mended_card s logs buffer room e = made_by true s logs buffer (λ a. mend_reply) e (mend_made true s logs buffer room)
