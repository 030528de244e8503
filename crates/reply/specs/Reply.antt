-- What the text of a sheet, with the logs that it names, is answered with: what is said, the status, and the card's bytes.
-- Assumes nothing.
use Rattle.std.specs.Prelude.{ℕ, ◌≡◌, Bool, false, cond, ◌&&◌, ◌||◌, List, ltb, eqb, ℤ, pos, length, take, get_or, replicate, Option, Result, Ok, Err}
use Rattle.answer.specs.Answer.{number, place}
use Rattle.answer.specs.Lent.{lent_after}
use Rattle.curve.specs.Kind.{Kind, quintic, sloped}
use Rattle.curve.specs.Card.{Card, knots}
use Rattle.curve.specs.Steps.{size}
use Rattle.curve.specs.Orders.{write_order}
use Rattle.knots.specs.Lent.{lent}
use Rattle.card_bytes.specs.Bytes.{bytes_of}
use Rattle.writer.specs.Promise.{written}
use Rattle.rows.specs.declared.End.{End}
use Rattle.rows.specs.Equations.{code}
use Rattle.fit.specs.Fit.{fit_between}
use Rattle.fit.specs.Promise.{slopes_after, curvatures_after}
use Rattle.slope_fit.specs.SlopesFit.{slopes_fit}
use Rattle.decimal.specs.Put.{Put}
use Rattle.listing.specs.Text.{listing}
use Rattle.gather.specs.declared.Gathered.{Gathered}
use Rattle.numeral.specs.Number.{number_of}
use Rattle.text.specs.declared.Blame.{Blame}
use Rattle.text.specs.declared.Sheet.{Sheet}
use Rattle.text.specs.Sheet.{most, sheet, blamed as blamed-word}
use Rattle.words.specs.Said.{refused_line, wrong_line}
use Rattle.reply.specs.declared.Answered.{Answered}
use Rattle.reply.specs.declared.Status.{Status}
use Rattle.reply.specs.declared.Status.TheVariants.{Done, Refused}
use Rattle.reply.specs.declared.Form.{Form}
use Rattle.reply.specs.declared.Form.TheVariants.{Codes, Slopes}
use Rattle.reply.specs.Knots.{gathered}

-- what a log is refused with
abbrev pub of_a_log : ℕ → Bool
of_a_log number = eqb number 12 || eqb number 13 || eqb number 16 || eqb number 19 || eqb number 23

-- the place of 4 to 10 and of 17 is a knot, and in a sheet that of a log's refusal too
abbrev pub of_a_knot : ℕ → Bool
of_a_knot number = of_a_log number || eqb number 17 || (ltb 3 number && ltb number 11)

-- the line of the knot that is refused; 0 where no knot is
unfoldable pub blamed : List ℕ → ℕ → ℕ → ℕ
blamed lines number knot = cond (of_a_knot number) (get_or lines knot 0) 0

-- '0' or '1'
abbrev pub byte_of : Status → ℕ
byte_of Done = 48
byte_of Refused = 49

-- the words, the status '0' or '1', the buffer for the card and the card's size
pub record Reply : Type 0 where
  pub words : List ℕ
  pub status : ℕ
  pub card : List ℕ
  pub size : ℕ

unfoldable pub refusing : List ℕ → List ℕ → Reply
refusing words card = record { words = words; status = 49; card = card; size = 0 }

-- to knots that are refused, which stand on these lines
abbrev pub refusing_knots : (number place : ℕ) → (lines card : List ℕ) → Reply
refusing_knots number place lines card = refusing (refused_line number place (blamed lines number place)) card

-- the listing of a card of a kind and of its logs' faults, and its bytes
unfoldable pub listing_of : Kind → Card → (faults : List (Option ℕ)) → (card : List ℕ) → Reply
listing_of K c faults card =
    let order = write_order K c (length card) in
    record { words = listing 0 0 c.minutes c.ordinates c.slopes c.curvatures faults; status = 48; card = lent_after order (bytes_of K c) card; size = (written order (size (knots c))).bytes }

-- to knots that are refused with a number at a place, or to the card that was made of them; they have these faults, and stand on these lines
unfoldable pub reply_of : Kind → (number place : ℕ) → Card → (faults : List (Option ℕ)) → (lines card : List ℕ) → Reply
reply_of K number place c faults lines card = cond (eqb number 0) (listing_of K c faults card) (refusing_knots number place lines card)

-- the kind of a card with the codes of its ends, or of given slopes, and its codes
abbrev pub form_kind : Form → Kind
form_kind (Codes left right) = quintic
form_kind Slopes = sloped

abbrev pub form_left : Form → ℕ
form_left (Codes left right) = left
form_left Slopes = 0

abbrev pub form_right : Form → ℕ
form_right (Codes left right) = right
form_right Slopes = 0

-- to knots by their minutes and ordinates, with two lent lists for the slopes and curvatures, their logs' faults, the lines on which they stand and the buffer for the card
abbrev pub ToKnots : Type 0
ToKnots = (xs : List ℕ) (ys ms Ms : List ℤ) (faults : List (Option ℕ)) (lines card : List ℕ) → Reply

-- the fit's between these ends; the card has their codes
abbrev pub fit_reply : (left right : End) → ToKnots
fit_reply left right xs ys ms Ms faults lines card =
    let f = fit_between xs ys (length ms) (length Ms) left right in
    reply_of quintic (number f) (place f) (lent xs ys (slopes_after f ms) (curvatures_after f Ms) (code left) (code right)) faults lines card

-- that of the fit by these slopes, one for each knot; the list lent for slopes is not used
abbrev pub by_slopes : (gs : List ℤ) → ToKnots
by_slopes gs xs ys ms Ms faults lines card =
    let f = slopes_fit xs ys gs (length Ms) in
    reply_of sloped (number f) (place f) (lent xs ys gs (curvatures_after f Ms) 0 0) faults lines card

-- by the first of a sheet's slopes
abbrev pub slopes_reply : (slopes : List ℤ) → ToKnots
slopes_reply slopes xs = by_slopes (take (length xs) slopes) xs

-- to the knots of a sheet: by its slopes, or between these ends where it has none
abbrev pub sheet_reply : (left right : End) → Sheet → ToKnots
sheet_reply left right a = cond a.sloped (slopes_reply a.slopes) (fit_reply left right)

-- to knots as they were gathered: what they are refused with, or what they are answered with
unfoldable pub gathered_reply : ToKnots → Gathered → (lines card : List ℕ) → Reply
gathered_reply to-knots g lines card =
    let n = g.knots in
    let zeros = take n (replicate most (pos 0)) in
    cond (eqb g.number 0) (to-knots (take n g.minutes) (take n g.ordinates) zeros zeros (take n g.faults) lines card) (refusing_knots g.number g.place lines card)

-- to a text in which something is wrong
abbrev pub complaint : (text : List ℕ) → Blame → (card : List ℕ) → Reply
complaint s b card = refusing (wrong_line (number_of b.wrong) b.line (blamed-word s b.line)) card

-- to a sheet, as it was read, and the logs that it names
unfoldable pub sheet_answer : (Sheet → ToKnots) → (text : List ℕ) → Result Sheet Blame → (logs card : List ℕ) → Reply
sheet_answer to-knots s (Err b) logs card = complaint s b card
sheet_answer to-knots s (Ok a) logs card = gathered_reply (to-knots a) (gathered a logs) a.lines card

-- to a text and the logs that it names: what is wrong in it, or what its knots are answered with
abbrev pub text_reply : (mends : Bool) → (Sheet → ToKnots) → (text logs card : List ℕ) → Reply
text_reply mends to-knots s logs card = sheet_answer to-knots s (sheet mends s) logs card

abbrev pub reply : (left right : End) → (text logs card : List ℕ) → Reply
reply left right = text_reply false (sheet_reply left right)

-- the reply was given: its words were put into a buffer, its card stands in another
pub record Answers (p : Reply) (to to' card' : List ℕ) (r : Answered) : Type 0 where
  pub said : Put p.words to to' 0 r.length
  pub status : byte_of r.status ≡ p.status
  pub card : card' ≡ p.card
  pub size : r.card ≡ p.size
