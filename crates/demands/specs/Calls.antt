-- Calls of the functions of the boundary (crates/kaihveto/src/lib.rt): what a function is called with, what it answers and what it leaves, by its promise as the prover reads it from the
-- source. What holds of every such call holds of the function. Assumes nothing.
use Rattle.std.specs.Prelude.{ℕ, ◌-◌, cond, List, ℤ, pos, length, get_or, take, drop}
use Rattle.answer.specs.Answer.{Answer, Verdict, accepted}
use Rattle.curve.specs.Kind.{Kind, quintic, sloped}
use Rattle.curve.specs.Card.{Card, knots, knot}
use Rattle.curve.specs.Reading.{Reading}
use Rattle.curve.specs.Steps.{codes}
use Rattle.knots.specs.Lent.{lent}
use Rattle.rows.specs.declared.End.{End}
use Rattle.rows.specs.declared.End.TheVariants.{Free}
use Rattle.ends.specs.Ends.{end_by}
use Rattle.fit.specs.declared.Fitted.{Fitted}
use Rattle.front.specs.Front.{listed}
use Rattle.passes.specs.Passes.{Solved, pairs_in}
use Rattle.numbers.specs.Numbers.{slope_at, curvature_at}
use Rattle.fit.specs.Fit as Fit
use Rattle.fit.specs.Fit.{fit_of, default_left, default_right}
use Rattle.slope_fit.specs.SlopesFit as Slopes
use Rattle.slope_fit.specs.SlopesFit.{slopes_fit}
use Rattle.holes.specs.Hole.{mended}
use Rattle.mend.specs.declared.Change.{Change}
use Rattle.mend.specs.Order as Order
use Rattle.card_bytes.specs.Held.{card_of}
use Rattle.card_bytes.specs.Records.{kind_by}
use Rattle.card.specs.Promise.{Lists, lists}
use Rattle.lines.specs.Lines.{hundredths}
use Rattle.table.specs.Promise.{Columns, columns}
use Rattle.writer.specs.declared.Written.{Written}
use Rattle.book.specs.Book.{Entry}
use Rattle.book.specs.declared.Used.{Used}
use Rattle.book_put.specs.Put as Put
use Rattle.book_remove.specs.Remove as Remove
use Rattle.kaihveto.proofs.kaihveto_mean.Reads as mean
use Rattle.kaihveto.proofs.kaihveto_fit.Reads as fit
use Rattle.kaihveto.proofs.kaihveto_fit_ends.Reads as fit_ends
use Rattle.kaihveto.proofs.kaihveto_fit_slopes.Reads as fit_slopes
use Rattle.kaihveto.proofs.kaihveto_write.Reads as write
use Rattle.kaihveto.proofs.kaihveto_write_slopes.Reads as write-slopes
use Rattle.kaihveto.proofs.kaihveto_check.Reads as check
use Rattle.kaihveto.proofs.kaihveto_read.Reads as read
use Rattle.kaihveto.proofs.kaihveto_reading.Reads as reading
use Rattle.kaihveto.proofs.kaihveto_table.Reads as table
use Rattle.kaihveto.proofs.kaihveto_swing.Reads as swing
use Rattle.kaihveto.proofs.kaihveto_explain.Reads as explain
use Rattle.kaihveto.proofs.kaihveto_preheat.Reads as preheat
use Rattle.kaihveto.proofs.kaihveto_refit.Reads as refit
use Rattle.kaihveto.proofs.kaihveto_book_find.Reads as book_find
use Rattle.kaihveto.proofs.kaihveto_book_put.Reads as book-put
use Rattle.kaihveto.proofs.kaihveto_book_remove.Reads as book-remove
use Rattle.kaihveto.proofs.kaihveto_mend.Reads as mend

-- a call that meets a promise: of lifetimes, arguments, the answer, and the parameters at exit
pub record Call {K A X S : Type 0} (Post : K → A → X → S → Type 0) : Type 0 where
  pub lifetimes : K
  pub arguments : A
  pub answer : X
  pub exit : S
  pub promised : Post lifetimes arguments answer exit

-- ---- kaihveto_mean(minute, log)

abbrev pub AMean : Type 0
AMean = Call mean.Post

abbrev pub first_minute : AMean → ℕ
first_minute c = c.arguments.0

abbrev pub log : AMean → List ℕ
log c = c.arguments.1.0.now

-- ---- kaihveto_fit(minutes, ordinates, slopes, curvatures),
-- kaihveto_fit_ends(.., left, slope, curvature, right, slope, curvature),
-- kaihveto_fit_slopes(minutes, ordinates, slopes, curvatures)

abbrev pub AFit : Type 0
AFit = Call fit.Post

abbrev pub AFitBetween : Type 0
AFitBetween = Call fit_ends.Post

abbrev pub AFitSlopes : Type 0
AFitSlopes = Call fit_slopes.Post

-- what is fitted: slopes and curvatures between two ends, with 15 where these come as code numbers; or
-- curvatures alone, to slopes that are given (document 02, order 8)
pub data Job : Type 0 where
  between : (left right : End) → (named : Verdict) → Job
  to_slopes : List ℤ → Job

-- what each is: the sheet, the lists for slopes and curvatures at entry and at exit, the job, and the answer
pub record Fitting : Type 0 where
  pub minutes : List ℕ
  pub ordinates : List ℤ
  pub slopes : List ℤ
  pub curvatures : List ℤ
  pub slopes' : List ℤ
  pub curvatures' : List ℤ
  pub job : Job
  pub answer : Fitted

-- "a fit without ends has slope 0 and curvature 0 given at the left, and stays free at the right" (document 02, order 6)
abbrev pub without_ends : AFit → Fitting
without_ends c =
    let a = c.arguments in
    record {
      minutes = a.0.now;
      ordinates = a.1.0.now;
      slopes = a.1.1.0.now;
      curvatures = a.1.1.1.0.now;
      slopes' = c.exit.1.1.0.now;
      curvatures' = c.exit.1.1.1.0.now;
      job = between default_left default_right accepted;
      answer = c.answer;
    }

-- the card of what a fit leaves, with these codes of its ends
abbrev pub fitted_with : Fitting → (left right : ℕ) → Card
fitted_with f left right = lent f.minutes f.ordinates f.slopes' f.curvatures' left right

-- without ends they are 1 and 0
abbrev pub fitted_card : AFit → Card
fitted_card c = fitted_with (without_ends c) 1 0

abbrev pub between_ends : AFitBetween → Fitting
between_ends c =
    let a = c.arguments in
    let ends = a.1.1.1.1 in
    record {
      minutes = a.0.now;
      ordinates = a.1.0.now;
      slopes = a.1.1.0.now;
      curvatures = a.1.1.1.0.now;
      slopes' = c.exit.1.1.0.now;
      curvatures' = c.exit.1.1.1.0.now;
      job = between (end_by ends.0 ends.1.0 ends.1.1.0) (end_by ends.1.1.1.0 ends.1.1.1.1.0 ends.1.1.1.1.1.0) (codes quintic ends.0 ends.1.1.1.0);
      answer = c.answer;
    }

-- between ends they are the codes that were asked
abbrev pub card_between : AFitBetween → Card
card_between c = let ends = c.arguments.1.1.1.1 in fitted_with (between_ends c) ends.0 ends.1.1.1.0

-- the slopes are lent to be read: they are at exit what they were at entry
abbrev pub by_slopes : AFitSlopes → Fitting
by_slopes c =
    let a = c.arguments in
    let given = a.1.1.0.now in
    record {
      minutes = a.0.now;
      ordinates = a.1.0.now;
      slopes = given;
      curvatures = a.1.1.1.0.now;
      slopes' = given;
      curvatures' = c.exit.1.1.1.0.now;
      job = to_slopes given;
      answer = c.answer;
    }

-- "both codes 0"
abbrev pub sloped_card : AFitSlopes → Card
sloped_card c = fitted_with (by_slopes c) 0 0

-- the fit of a sheet, for lists of ms and Ms places, by its job
abbrev pub fit_by : Job → List ℕ → List ℤ → (ms Ms : ℕ) → Answer Card
fit_by (between left right named) xs ys ms Ms = fit_of xs ys left right ms Ms named
fit_by (to_slopes given) xs ys ms Ms = slopes_fit xs ys given Ms

-- its elimination
abbrev pub solved_by : Job → List ℕ → List ℤ → Solved
solved_by (between left right named) xs ys = Fit.solved xs ys left right
solved_by (to_slopes given) xs ys = Slopes.solved xs ys given

-- the slopes of its card: worked out, or as they were given
abbrev pub slopes_by : Job → List ℕ → List ℤ → List ℤ
slopes_by (between left right named) xs ys = listed (slope_at (pairs_in (Fit.solved xs ys left right))) (length xs)
slopes_by (to_slopes given) xs ys = given

-- and the curvatures, which are worked out
abbrev pub curvatures_by : Job → List ℕ → List ℤ → List ℤ
curvatures_by job xs ys = listed (curvature_at (pairs_in (solved_by job xs ys))) (length xs)

-- the card that its elimination gives, accepted or not
abbrev pub card_by : Job → List ℕ → List ℤ → Card
card_by (between left right named) xs ys = Fit.card_of xs ys left right
card_by (to_slopes given) xs ys = Slopes.card_of xs ys given

-- document 01's fit, or order 8's
abbrev pub the_fit : Fitting → Answer Card
the_fit f = fit_by f.job f.minutes f.ordinates (length f.slopes) (length f.curvatures)

abbrev pub worked_out : Fitting → Card
worked_out f = card_by f.job f.minutes f.ordinates

-- ---- kaihveto_write(minutes, ordinates, slopes, curvatures, left, right, buffer),
-- kaihveto_write_slopes(minutes, ordinates, slopes, curvatures, buffer)

abbrev pub AWrite : Type 0
AWrite = Call write.Post

abbrev pub AWriteSlopes : Type 0
AWriteSlopes = Call write-slopes.Post

-- a call of either
pub data AWriting : Type 0 where
  with_codes : AWrite → AWriting
  with_slopes : AWriteSlopes → AWriting

-- the kind of card that it writes
abbrev pub written_kind : AWriting → Kind
written_kind (with_codes c) = quintic
written_kind (with_slopes c) = sloped

-- the card in the lent lists; one whose slopes were given has the codes 0 and 0
abbrev pub written_card : AWriting → Card
written_card (with_codes c) =
    let a = c.arguments in
    lent a.0.now a.1.0.now a.1.1.0.now a.1.1.1.0.now a.1.1.1.1.0 a.1.1.1.1.1.0
written_card (with_slopes c) =
    let a = c.arguments in
    lent a.0.now a.1.0.now a.1.1.0.now a.1.1.1.0.now 0 0

abbrev pub buffer : AWriting → List ℕ
buffer (with_codes c) = c.arguments.1.1.1.1.1.1.0.now
buffer (with_slopes c) = c.arguments.1.1.1.1.0.now

abbrev pub buffer' : AWriting → List ℕ
buffer' (with_codes c) = c.exit.1.1.1.1.1.1.0.now
buffer' (with_slopes c) = c.exit.1.1.1.1.0.now

abbrev pub write_answer : AWriting → Written
write_answer (with_codes c) = c.answer
write_answer (with_slopes c) = c.answer

-- ---- kaihveto_check(card)

abbrev pub ACheck : Type 0
ACheck = Call check.Post

abbrev pub checked_bytes : ACheck → List ℕ
checked_bytes c = c.arguments.0.now

-- ---- kaihveto_read(card, minutes, ordinates, slopes, curvatures)

abbrev pub ARead : Type 0
ARead = Call read.Post

abbrev pub read_bytes : ARead → List ℕ
read_bytes c = c.arguments.0.now

abbrev pub places : ARead → Lists
places c = let a = c.arguments in lists a.1.0 a.1.1.0 a.1.1.1.0 a.1.1.1.1.0

abbrev pub places' : ARead → Lists
places' c = let s = c.exit in lists s.1.0 s.1.1.0 s.1.1.1.0 s.1.1.1.1.0

-- ---- kaihveto_reading(card, minute)

abbrev pub AReading : Type 0
AReading = Call reading.Post

abbrev pub reading_bytes : AReading → List ℕ
reading_bytes c = c.arguments.0.now

abbrev pub minute : AReading → ℕ
minute c = c.arguments.1.0

-- its three numbers
abbrev pub three : AReading → Reading
three c = record { value = c.answer.value; slope = c.answer.slope; curvature = c.answer.curvature }

-- ---- kaihveto_table(card, from, values, slopes, curvatures)

abbrev pub ATable : Type 0
ATable = Call table.Post

abbrev pub table_bytes : ATable → List ℕ
table_bytes c = c.arguments.0.now

abbrev pub from : ATable → ℕ
from c = c.arguments.1.0

abbrev pub lists_for : ATable → Columns
lists_for c = let a = c.arguments in columns a.1.1.0 a.1.1.1.0 a.1.1.1.1.0

abbrev pub lists_for' : ATable → Columns
lists_for' c = let s = c.exit in columns s.1.1.0 s.1.1.1.0 s.1.1.1.1.0

-- the three numbers at a place of its lists at exit
abbrev pub row : ATable → ℕ → Reading
row c i = let l = lists_for' c in record { value = get_or l.values i (pos 0); slope = get_or l.slopes i (pos 0); curvature = get_or l.curvatures i (pos 0) }

-- ---- kaihveto_swing(card)

abbrev pub ASwing : Type 0
ASwing = Call swing.Post

abbrev pub swing_bytes : ASwing → List ℕ
swing_bytes c = c.arguments.0.now

-- ---- kaihveto_explain(card, minute)

abbrev pub AExplain : Type 0
AExplain = Call explain.Post

abbrev pub explained_bytes : AExplain → List ℕ
explained_bytes c = c.arguments.0.now

abbrev pub explained_minute : AExplain → ℕ
explained_minute c = c.arguments.1.0

-- ---- kaihveto_preheat(values, parts, count)

abbrev pub APreheat : Type 0
APreheat = Call preheat.Post

abbrev pub heat_values : APreheat → List ℤ
heat_values c = c.arguments.0.now

abbrev pub heat_parts : APreheat → ℕ
heat_parts c = c.arguments.1.0

abbrev pub heat_count : APreheat → ℕ
heat_count c = c.arguments.1.1.0

-- ---- kaihveto_refit(card, slopes, curvatures)

abbrev pub ARefit : Type 0
ARefit = Call refit.Post

abbrev pub refit_bytes : ARefit → List ℕ
refit_bytes c = c.arguments.0.now

-- the lists lent for slopes and curvatures, at entry and at exit
abbrev pub fresh_slopes : ARefit → List ℤ
fresh_slopes c = c.arguments.1.0.now

abbrev pub fresh_curvatures : ARefit → List ℤ
fresh_curvatures c = c.arguments.1.1.0.now

abbrev pub fresh_slopes' : ARefit → List ℤ
fresh_slopes' c = c.exit.1.0.now

abbrev pub fresh_curvatures' : ARefit → List ℤ
fresh_curvatures' c = c.exit.1.1.0.now

-- the card in its bytes
abbrev pub old_card : ARefit → Card
old_card c = card_of (refit_bytes c)

-- between ends of its own codes, which are given its own numbers
abbrev pub own_ends : Card → Job
own_ends old =
    let first = knot old 0 in
    let last = knot old (knots old - 1) in
    between (end_by old.left (hundredths first.m) (hundredths first.M)) (end_by old.right (hundredths last.m) (hundredths last.M)) (codes quintic old.left old.right)

-- or to its own slopes, where those of its kind are given
abbrev pub fresh_job : Kind → Card → Job
fresh_job K old = cond K.slopes_given (to_slopes old.slopes) (own_ends old)

-- its own knots fitted anew, at the front of the lent lists
abbrev pub anew : ARefit → Fitting
anew c =
    let old = old_card c in
    let n = knots old in
    record {
      minutes = old.minutes;
      ordinates = old.ordinates;
      slopes = take n (fresh_slopes c);
      curvatures = take n (fresh_curvatures c);
      slopes' = take n (fresh_slopes' c);
      curvatures' = take n (fresh_curvatures' c);
      job = fresh_job (kind_by (refit_bytes c)) old;
      answer = record { number = c.answer.number; place = c.answer.place };
    }

-- the card of what it leaves
abbrev pub fresh_card : ARefit → Card
fresh_card c = fitted_with (anew c) (old_card c).left (old_card c).right

-- ---- kaihveto_mend(minutes, ordinates, slopes, curvatures, changes)

abbrev pub AMend : Type 0
AMend = Call mend.Post

-- the sheet and the list of changes, at entry and at exit
abbrev pub sheet_minutes : AMend → List ℕ
sheet_minutes c = c.arguments.0.now

abbrev pub sheet : AMend → List ℤ
sheet c = c.arguments.1.0.now

abbrev pub sheet' : AMend → List ℤ
sheet' c = c.exit.1.0.now

abbrev pub change_list : AMend → List Change
change_list c = c.arguments.1.1.1.1.0.now

abbrev pub change_list' : AMend → List Change
change_list' c = c.exit.1.1.1.1.0.now

-- "Demands 2 and 3 then speak of the mended sheet": its fit, between free ends
abbrev pub of_the_mended : AMend → Fitting
of_the_mended c =
    let a = c.arguments in
    record {
      minutes = sheet_minutes c;
      ordinates = mended (sheet_minutes c) (sheet c);
      slopes = a.1.1.0.now;
      curvatures = a.1.1.1.0.now;
      slopes' = c.exit.1.1.0.now;
      curvatures' = c.exit.1.1.1.0.now;
      job = between Free Free accepted;
      answer = record { number = c.answer.number; place = c.answer.place };
    }

-- the card of what it leaves: its ends have the codes 0 and 0
abbrev pub mended_card : AMend → Card
mended_card c = let f = of_the_mended c in lent (sheet_minutes c) (sheet' c) f.slopes' f.curvatures' 0 0

-- its order
abbrev pub the_mending : AMend → Answer Card
the_mending c =
    let a = c.arguments in
    Order.mend (sheet_minutes c) (sheet c) (length a.1.1.0.now) (length a.1.1.1.0.now) (length (change_list c))

-- ---- kaihveto_book_find(book, room)

abbrev pub ABookFind : Type 0
ABookFind = Call book_find.Post

abbrev pub the_book : ABookFind → List ℕ
the_book c = c.arguments.0.now

abbrev pub the_room : ABookFind → ℕ
the_room c = c.arguments.1.0

-- the part of the book that it points to
abbrev pub the_part : ABookFind → List ℕ
the_part c = take c.answer.length (drop c.answer.start (the_book c))

-- ---- kaihveto_book_put(book, room, card)

abbrev pub ABookPut : Type 0
ABookPut = Call book-put.Post

-- the book, at entry and at exit
abbrev pub put_book : ABookPut → List ℕ
put_book c = c.arguments.0.now

abbrev pub put_book' : ABookPut → List ℕ
put_book' c = c.exit.0.now

abbrev pub put_room : ABookPut → ℕ
put_room c = c.arguments.1.0

abbrev pub put_card : ABookPut → List ℕ
put_card c = c.arguments.1.1.0.now

-- ---- kaihveto_book_remove(book, room)

abbrev pub ABookRemove : Type 0
ABookRemove = Call book-remove.Post

abbrev pub out_book : ABookRemove → List ℕ
out_book c = c.arguments.0.now

abbrev pub out_book' : ABookRemove → List ℕ
out_book' c = c.exit.0.now

abbrev pub out_room : ABookRemove → ℕ
out_room c = c.arguments.1.0

-- a call of either: it changes a book
pub data AChange : Type 0 where
  by_put : ABookPut → AChange
  by_removal : ABookRemove → AChange

abbrev pub changed_book : AChange → List ℕ
changed_book (by_put c) = put_book c
changed_book (by_removal c) = out_book c

abbrev pub changed_book' : AChange → List ℕ
changed_book' (by_put c) = put_book' c
changed_book' (by_removal c) = out_book' c

abbrev pub changed_room : AChange → ℕ
changed_room (by_put c) = put_room c
changed_room (by_removal c) = out_room c

abbrev pub change_answer : AChange → Used
change_answer (by_put c) = c.answer
change_answer (by_removal c) = c.answer

-- the order by which it is answered
abbrev pub the_change : AChange → Answer (List Entry)
the_change (by_put c) = Put.put (put_room c) (put_card c) (put_book c)
the_change (by_removal c) = Remove.remove (out_room c) (out_book c)
