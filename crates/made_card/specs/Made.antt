-- The card that a sheet's text, with the logs that it names, is answered with: the fit of the sheet's knots,
-- by their slopes where they have them, or of the mended ones, in bytes that the card's test accepts. Assumes
-- nothing.
use Rattle.std.specs.Prelude.{ℕ, ◌≡◌, Bool, true, false, cond, List, pos, take, get_or, replicate, Option, Result, Ok, Err}
use Rattle.answer.specs.Answer.{Answer, given, accepted}
use Rattle.curve.specs.Kind.{Kind, quintic, sloped}
use Rattle.curve.specs.Card.{Card, knots}
use Rattle.curve.specs.Steps.{size}
use Rattle.card_bytes.specs.Bytes.{bytes_of}
use Rattle.card_bytes.specs.Held.{card_of}
use Rattle.card_bytes.specs.Records.{kind_by}
use Rattle.card.specs.Answers.{own}
use Rattle.rows.specs.declared.End.{End}
use Rattle.fit.specs.Fit.{fit_between}
use Rattle.slope_fit.specs.SlopesFit.{slopes_fit}
use Rattle.mend.specs.Order.{mend}
use Rattle.listing.specs.Text.{no_log, listing}
use Rattle.text.specs.declared.Blame.{Blame}
use Rattle.text.specs.declared.Sheet.{Sheet}
use Rattle.text.specs.Sheet.{most, no_knots, sheet}
use Rattle.gather.specs.declared.Gathered.{Gathered}
use Rattle.reply.specs.Knots.{gathered}
use Rattle.reply.specs.Reply.{Reply, ToKnots}
use Rattle.reply.specs.Mending.{room}

-- the sheet that a text is; one without knots where something is wrong in it
abbrev pub read_sheet : Result Sheet Blame → Sheet
read_sheet (Ok a) = a
read_sheet (Err b) = no_knots

abbrev pub the_sheet : (mends : Bool) → (text : List ℕ) → Sheet
the_sheet mends s = read_sheet (sheet mends s)

-- the knots of a sheet with its logs, each log at its middle
abbrev pub sheet_knots : (mends : Bool) → (text logs : List ℕ) → Gathered
sheet_knots mends s logs = gathered (the_sheet mends s) logs

-- the kind of their card
abbrev pub sheet_kind : (text : List ℕ) → Kind
sheet_kind s = cond (the_sheet false s).sloped sloped quintic

-- their fit, into as many places as there are knots: by their slopes, or between these ends without them
abbrev pub sheet_fit : (left right : End) → (text logs : List ℕ) → Answer Card
sheet_fit left right s logs =
    let a = the_sheet false s in
    let g = sheet_knots false s logs in
    let n = g.knots in
    cond a.sloped (slopes_fit (take n g.minutes) (take n g.ordinates) (take n a.slopes) n) (fit_between (take n g.minutes) (take n g.ordinates) n n left right)

-- the same of a sheet with holes, mended: between free ends
abbrev pub sheet_mend : (text logs : List ℕ) → Answer Card
sheet_mend s logs = let g = sheet_knots true s logs in let n = g.knots in mend (take n g.minutes) (take n g.ordinates) n n room

-- the faults of each knot's log
abbrev pub sheet_faults : (mends : Bool) → (text logs : List ℕ) → List (Option ℕ)
sheet_faults mends s logs = let g = sheet_knots mends s logs in take g.knots g.faults

-- the bytes of the card: as many as are told, from the front of the buffer
abbrev pub made_bytes : Reply → List ℕ
made_bytes r = take r.size r.card

-- no knot of a sheet is a log's
abbrev pub Logless : Sheet → Type 0
Logless a = (i : ℕ) → get_or a.logs i false ≡ false

-- the reply to the knots as they are written down in a sheet, without a log
abbrev pub written_reply : ToKnots → Sheet → (card : List ℕ) → Reply
written_reply to-knots a card =
    let n = a.knots in
    let zeros = take n (replicate most (pos 0)) in
    to-knots (take n a.minutes) (take n a.ordinates) zeros zeros (replicate n no_log) a.lines card

-- a reply with the card of a kind that a fit gives, of knots with these faults
pub record Made (K : Kind) (f : Answer Card) (faults : List (Option ℕ)) (r : Reply) : Type 0 where
  -- the card that was made
  pub made : Card
  -- it is the one that the fit gives
  pub fitted : f ≡ given made
  -- the size is that of a card with its knots
  pub size : r.size ≡ size (knots made)
  -- the buffer's front is the card's bytes
  pub bytes : made_bytes r ≡ bytes_of K made
  -- their head names the kind
  pub headed : kind_by (made_bytes r) ≡ K
  -- the card's test accepts them
  pub tested : own (made_bytes r) ≡ accepted
  -- they hold the card
  pub held : card_of (made_bytes r) ≡ made
  -- what is said is the listing of the card and of the faults
  pub said : r.words ≡ listing 0 0 made.minutes made.ordinates made.slopes made.curvatures faults
