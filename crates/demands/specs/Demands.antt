-- The three demands of README.md on one page, said of the functions of the boundary: `(c : ACheck) → ..` speaks of every call of kaihveto_check, whatever it is called with, and so for
-- the others (specs/Calls). What is cited is document 01 as definitions. proofs/Demands proves it all. Assumes nothing.
use Rattle.std.specs.Prelude.{◌≡◌, ◌≢◌, ◌⊎◌, List, [], ℕ, ◌+◌, ◌-◌, ◌*◌, ◌^◌, ◌≤◌, ◌<◌, min, max, ℤ, pos, nat_abs, length, take, drop, T}
use Rattle.whole.specs.Whole.{nearest}
use Rattle.answer.specs.Answer as Answer
use Rattle.answer.specs.Answer.{Answer, Verdict, accepted, ◌then◌}
use Rattle.curve.specs.Curve.{Order}
use Rattle.curve.specs.Kind.{Kind, quintic, sloped, inner}
use Rattle.curve.specs.Card.{latest, Card, knots, knot}
use Rattle.curve.specs.Log.{count, sum, faults, middle}
use Rattle.curve.specs.Log as Log
use Rattle.curve.specs.Reading.{gap_of}
use Rattle.curve.specs.Steps.{lengths, counted, size as card-size}
use Rattle.curve.specs.Orders.{write_order, reading_order}
use Rattle.curve.specs.Exact.{Exact, Near}
use Rattle.curve.specs.Demand.{Close, OnGap, exact, numbers, JumpWithin}
use Rattle.minutes.specs.Search.{found}
use Rattle.knots.specs.Lent.{lent}
use Rattle.rows.specs.declared.End.{End}
use Rattle.rows.specs.declared.End.TheVariants.{Free}
use Rattle.exact_fit.specs.Solution.{before_8, OneSolution}
use Rattle.slope_fit.specs.SlopesFit.{standing}
use Rattle.sloped.specs.Sloped as Sloped
use Rattle.sloped.specs.Sloped.{WithinTwo, FlatEnds}
use Rattle.card_bytes.specs.Held.{card_of}
use Rattle.card_bytes.specs.Records.{kind_by}
use Rattle.card.specs.declared.Checked.{Checked}
use Rattle.card.specs.Answers.{own}
use Rattle.card.specs.Promise.{Lists, into}
use Rattle.table.specs.Promise.{table_verdict}
use Rattle.swing.specs.declared.Swung.{Swung}
use Rattle.swing.specs.Swing as Swing
use Rattle.explain.specs.declared.Explained.{Explained}
use Rattle.explain.specs.Explain.{sum as parts_sum}
use Rattle.reasons.specs.Reasons.{Terms, NoParts, NoReason, Because, Fits64}
use Rattle.preheat.specs.Preheat as Preheat
use Rattle.preheat.specs.Demand.{OnCubic}
use Rattle.mend.specs.Changes.{restored}
use Rattle.mending.specs.Listed.{ListsTheHoles}
use Rattle.refit.specs.Fresh as Fresh
use Rattle.book.specs.Book.{Entry, book_bytes, book}
use Rattle.book.specs.Lookup.{in_use, look_up, part}
use Rattle.bookkeeping.specs.Card.{card_in}
use Rattle.history.specs.InUse.{in_use_by, then_in_use, full}
use Rattle.demands.specs.Calls.{AMean, first_minute, log, AFit, AFitBetween, AFitSlopes, Fitting, without_ends, fitted_card, between_ends, card_between, by_slopes, sloped_card, slopes_by, curvatures_by, the_fit, worked_out, AWriting, written_kind, written_card, buffer, buffer', write_answer, ACheck, checked_bytes, ARead, read_bytes, places, places', AReading, reading_bytes, minute, three, ATable, table_bytes, from, lists_for, lists_for', row, ASwing, swing_bytes, AExplain, explained_bytes, explained_minute, APreheat, heat_values, heat_parts, heat_count, ARefit, refit_bytes, fresh_slopes, fresh_curvatures, fresh_slopes', fresh_curvatures', old_card, anew, fresh_card, AMend, sheet_minutes, sheet, sheet', change_list, change_list', of_the_mended, mended_card, the_mending, ABookFind, the_book, the_room, the_part, ABookPut, put_book, put_book', put_room, put_card, ABookRemove, out_book, out_book', out_room, AChange, changed_book, changed_book', changed_room, change_answer, the_change}
use Rattle.demands.specs.Changes.{Changes, last_card}

-- ---- 1. "Every input gets an answer: bad knots, logs, cards and minutes are refused by number and place, the numbers beside a refusal are zero, and lent memory stays untouched."

-- what an order gives, where it gives something
pub record IsGiven {A : Type 0} (order : Answer A) : Type 0 where
  pub what : A
  pub is : order ≡ Answer.given what

-- number n and place p are those of an order of document 01, and n is 0 exactly where it accepts
pub record Says {A : Type 0} (order : Answer A) (n p : ℕ) : Type 0 where
  pub number : n ≡ Answer.number order
  pub place : p ≡ Answer.place order
  pub accepts : n ≡ 0 → IsGiven order
  pub accepted : IsGiven order → n ≡ 0

-- a lent list at entry and at exit of a call that answers n: a refusal writes nothing, an acceptance no more than the first k places
pub record Spares {A : Type 0} (n k : ℕ) (entry exit : List A) : Type 0 where
  pub refused : n ≢ 0 → exit ≡ entry
  pub given : n ≡ 0 → (length exit ≡ length entry) × (drop k exit ≡ drop k entry)

-- zeros beside the refusal of a card
abbrev pub NoCard : Checked → Type 0
NoCard r = r.number ≢ 0 → (r.knots ≡ 0) × (r.left ≡ 0) × (r.right ≡ 0) × (r.kind ≡ 0)

-- and beside that of a card whose swing is asked
abbrev pub NoSwing : Swung → Type 0
NoSwing r = r.number ≢ 0 → (r.knot ≡ 0) × (r.minute ≡ 0) × (r.below ≡ 0) × (r.above ≡ 0)

-- an answer to a fit, by its order: 3, 1, 2, 15; per knot 4, 5, 6; 7, or 9 for given slopes; 8; 9; 10
abbrev pub FitSays : Fitting → Type 0
FitSays f = Says (the_fit f) f.answer.number f.answer.place

abbrev pub FitSpares : Fitting → Type 0
FitSpares f = Spares f.answer.number (length f.minutes) f.slopes f.slopes' × Spares f.answer.number (length f.minutes) f.curvatures f.curvatures'

pub record Demand1 : Type 0 where
  -- "Every input gets an answer: bad knots, logs, cards and minutes are refused by number and place"
  -- 16, 12, 13, 23, 19
  pub mean : (c : AMean) → Says (Log.mean (first_minute c) (log c)) c.answer.number c.answer.place
  pub fit : (c : AFit) → FitSays (without_ends c)
  pub fit_between : (c : AFitBetween) → FitSays (between_ends c)
  pub fit_slopes : (c : AFitSlopes) → FitSays (by_slopes c)
  -- 3, 1, 2, 15; per knot 4, 5, 6; 9; 10; 26
  pub write : (w : AWriting) → Says (write_order (written_kind w) (written_card w) (length (buffer w))) (write_answer w).number (write_answer w).place
  -- head 14; 1, 2; 15; the other records 14; per knot 4, 5, 6; 9; 10, as the kind that the head names
  pub check : (c : ACheck) → Says (own (checked_bytes c)) c.answer.number c.answer.place
  -- 3, the card's, 26
  pub read : (c : ARead) → Says (into (places c) (read_bytes c)) c.answer.number c.answer.place
  -- the card's, then 11
  pub reading : (c : AReading) → Says (reading_order (own (reading_bytes c)) (card_of (reading_bytes c)) (minute c)) c.answer.number c.answer.place
  -- 3, the card's, 11
  pub table : (c : ATable) → Says (table_verdict (lists_for c) (table_bytes c) (from c)) c.answer.number c.answer.place
  -- the card's
  pub swing : (c : ASwing) → Says (own (swing_bytes c)) c.answer.number c.answer.place
  -- the card's, then 11, as of a reading
  pub explain : (c : AExplain) → Says (reading_order (own (explained_bytes c)) (card_of (explained_bytes c)) (explained_minute c)) c.answer.number c.answer.place
  -- 1, 24, 6; 25; 11 (document 02, order 10)
  pub preheat : (c : APreheat) → Says (Preheat.preheat (heat_values c) (heat_parts c) (heat_count c)) c.answer.number c.answer.place
  -- 3, the card's, 26; then the fit's own
  pub refit : (c : ARefit) → Says (Fresh.refit (length (fresh_slopes c)) (length (fresh_curvatures c)) (refit_bytes c)) c.answer.number c.answer.place
  -- 3, 1, 2; per knot 4, 5, 6; 17; 18; then the fit's own
  pub mend : (c : AMend) → Says (the_mending c) c.answer.number c.answer.place
  -- 14, 22, 20, then the card's own
  pub book_find : (c : ABookFind) → Says (look_up (the_room c) (the_book c)) c.answer.number c.answer.place
  -- 14, 22; then of a put the new card's own and 21, of a removal 20 and no card's
  pub book_change : (c : AChange) → Says (the_change c) (change_answer c).number (change_answer c).place
  -- "the numbers beside a refusal are zero"
  pub mean_zeros : (c : AMean) → c.answer.number ≢ 0 → (c.answer.minute ≡ 0) × (c.answer.ordinate ≡ pos 0) × (c.answer.good ≡ 0) × (c.answer.faults ≡ 0)
  pub write_zeros : (w : AWriting) → (write_answer w).number ≢ 0 → (write_answer w).bytes ≡ 0
  pub check_zeros : (c : ACheck) → NoCard c.answer
  pub read_zeros : (c : ARead) → NoCard c.answer
  pub reading_zeros : (c : AReading) → c.answer.number ≢ 0 → (c.answer.value ≡ pos 0) × (c.answer.slope ≡ pos 0) × (c.answer.curvature ≡ pos 0) × (c.answer.looks ≡ 0)
  pub table_zeros : (c : ATable) → c.answer.number ≢ 0 → c.answer.count ≡ 0
  pub swing_zeros : (c : ASwing) → NoSwing c.answer
  -- an explanation has no parts beside a refusal, and the reason of a refusal beside 10 alone (document 02, order 9)
  pub explain_zeros : (c : AExplain) → c.answer.number ≢ 0 → NoParts c.answer
  pub explain_no_reason : (c : AExplain) → c.answer.number ≢ 10 → NoReason c.answer
  pub preheat_zeros : (c : APreheat) → c.answer.number ≢ 0 → c.answer.value ≡ pos 0
  pub refit_zeros : (c : ARefit) → c.answer.number ≢ 0 → (c.answer.knots ≡ 0) × (c.answer.changed ≡ 0)
  pub mend_zeros : (c : AMend) → c.answer.number ≢ 0 → c.answer.count ≡ 0
  pub book_find_zeros : (c : ABookFind) → c.answer.number ≢ 0 → (c.answer.start ≡ 0) × (c.answer.length ≡ 0)
  pub book_change_zeros : (c : AChange) → (change_answer c).number ≢ 0 → (change_answer c).bytes ≡ 0
  -- "and lent memory stays untouched"; on acceptance only the n places, the card's bytes or the places of the readings are written
  pub fit_spares : (c : AFit) → FitSpares (without_ends c)
  pub fit_between_spares : (c : AFitBetween) → FitSpares (between_ends c)
  -- slopes that are given are lent to be read, and cannot be written
  pub fit_slopes_spares : (c : AFitSlopes) → let f = by_slopes c in Spares c.answer.number (length f.minutes) f.curvatures f.curvatures'
  pub write_spares : (w : AWriting) → Spares (write_answer w).number (write_answer w).bytes (buffer w) (buffer' w)
  pub read_spares : (c : ARead) →
      Spares c.answer.number c.answer.knots (places c).minutes (places' c).minutes
      × Spares c.answer.number c.answer.knots (places c).ordinates (places' c).ordinates
      × Spares c.answer.number c.answer.knots (places c).slopes (places' c).slopes
      × Spares c.answer.number c.answer.knots (places c).curvatures (places' c).curvatures
  pub table_spares : (c : ATable) →
      Spares c.answer.number c.answer.count (lists_for c).values (lists_for' c).values
      × Spares c.answer.number c.answer.count (lists_for c).slopes (lists_for' c).slopes
      × Spares c.answer.number c.answer.count (lists_for c).curvatures (lists_for' c).curvatures
  pub refit_spares : (c : ARefit) →
      Spares c.answer.number c.answer.knots (fresh_slopes c) (fresh_slopes' c)
      × Spares c.answer.number c.answer.knots (fresh_curvatures c) (fresh_curvatures' c)
  pub mend_spares : (c : AMend) →
      Spares c.answer.number (length (sheet_minutes c)) (sheet c) (sheet' c)
      × FitSpares (of_the_mended c)
      × Spares c.answer.number c.answer.count (change_list c) (change_list' c)
  pub book_change_spares : (c : AChange) → Spares (change_answer c).number (change_answer c).bytes (changed_book c) (changed_book' c)

-- ---- 2. "The fit is exactly the elimination that the paper prescribes, each operation rounded once; logs give the stated mean; writing a sound card and reading it returns it, and
-- accepted bytes are those that the writer makes."

-- the pairs of the elimination, which is defined over binary64 with one rounding an operation, in card units;
-- slopes that are given are left as they are
pub record Eliminates (f : Fitting) : Type 0 where
  pub slopes : f.slopes' ≡ slopes_by f.job f.minutes f.ordinates
  pub curvatures : f.curvatures' ≡ curvatures_by f.job f.minutes f.ordinates

-- an acceptance that gives the count of a card's knots, its codes and the number of its kind
pub record AcceptsAs (K : Kind) (card : Card) (r : Checked) : Type 0 where
  pub number : r.number ≡ 0
  pub knots : r.knots ≡ knots card
  pub left : r.left ≡ card.left
  pub right : r.right ≡ card.right
  pub kind : r.kind ≡ K.head

-- four lists of one length with room for n places
pub record RoomFor (n : ℕ) (l : Lists) : Type 0 where
  pub minutes : n ≤ length l.minutes
  pub ordinates : length l.ordinates ≡ length l.minutes
  pub slopes : length l.slopes ≡ length l.minutes
  pub curvatures : length l.curvatures ≡ length l.minutes

-- the card at the front of four lists, n places long
abbrev pub front : ℕ → Lists → (left right : ℕ) → Card
front n l left right = lent (take n l.minutes) (take n l.ordinates) (take n l.slopes) (take n l.curvatures) left right

-- the bytes that were written
abbrev pub written_bytes : AWriting → List ℕ
written_bytes w = take (write_answer w).bytes (buffer' w)

-- a card that the writer of its kind accepts where there is room; and what is written then is accepted with
-- its codes, as of its kind, and read back
pub record Kept (K : Kind) (card : Card) : Type 0 where
  pub is_written : (w : AWriting) → written_kind w ≡ K → written_card w ≡ card → card-size (knots card) ≤ length (buffer w) → (write_answer w).number ≡ 0
  pub is_read : (w : AWriting) (r : ARead) → written_kind w ≡ K → written_card w ≡ card → card-size (knots card) ≤ length (buffer w) → read_bytes r ≡ written_bytes w → RoomFor (knots card) (places r)
      → AcceptsAs K card r.answer × (front r.answer.knots (places' r) r.answer.left r.answer.right ≡ card)

-- a sound book at the front of a list, of these rooms, with n bytes in use: "the sum over rooms present of 6
-- plus the card's length, plus 4"
pub record HoldsABook (n : ℕ) (s : List ℕ) : Type 0 where
  pub rooms : List Entry
  pub is : book s ≡ Answer.given rooms
  pub in_use : n ≡ in_use_by rooms
  pub bytes : take n s ≡ book_bytes rooms

-- "the part of the book that holds its card (an empty part on refusal)"
pub record HandsBack (c : ABookFind) : Type 0 where
  pub inside : c.answer.start + c.answer.length ≤ length (the_book c)
  pub its_card : c.answer.number ≡ 0 → card_in (the_room c) (the_book c) ≡ Answer.given (the_part c)
  pub none : c.answer.number ≢ 0 → the_part c ≡ []

pub record Demand2 : Type 0 where
  -- "The fit is exactly the elimination that the paper prescribes, each operation rounded once"
  pub fit : (c : AFit) → c.answer.number ≡ 0 → Eliminates (without_ends c)
  pub fit_between : (c : AFitBetween) → c.answer.number ≡ 0 → Eliminates (between_ends c)
  pub fit_slopes : (c : AFitSlopes) → c.answer.number ≡ 0 → Eliminates (by_slopes c)
  -- and without ends it starts at rest, with slope 0 and curvature 0 at the first knot: what it leaves is
  -- kept with the codes 1 and 0
  pub fit_rests : (c : AFit) → c.answer.number ≡ 0 → ((knot (fitted_card c) 0).m ≡ pos 0) × ((knot (fitted_card c) 0).M ≡ pos 0)
  pub fitted_is_kept : (c : AFit) → c.answer.number ≡ 0 → Kept quintic (fitted_card c)
  -- and between ends with the codes that were asked
  pub between_is_kept : (c : AFitBetween) → c.answer.number ≡ 0 → Kept quintic (card_between c)
  -- and to slopes that are given, as a card of the second kind
  pub sloped_is_kept : (c : AFitSlopes) → c.answer.number ≡ 0 → Kept sloped (sloped_card c)
  -- and so of a card that is fitted anew, between its own ends or to its own slopes, as its kind is
  pub refit : (c : ARefit) → c.answer.number ≡ 0 → (c.answer.knots ≡ knots (old_card c)) × Eliminates (anew c)
  pub fresh_is_kept : (c : ARefit) → c.answer.number ≡ 0 → Kept (kind_by (refit_bytes c)) (fresh_card c)
  -- and of a mended sheet, with the codes 0 and 0
  pub mend : (c : AMend) → c.answer.number ≡ 0 → (sheet' c ≡ (of_the_mended c).ordinates) × Eliminates (of_the_mended c)
  pub mended_is_kept : (c : AMend) → c.answer.number ≡ 0 → Kept quintic (mended_card c)
  -- its list at exit has exactly the holes,
  pub mend_lists : (c : AMend) → c.answer.number ≡ 0 → ListsTheHoles (sheet c) (sheet' c) c.answer.count (change_list' c)
  -- and "Putting the old numbers back from the list" gives the sheet as it came, after a refusal too
  pub mend_put_back : (c : AMend) → restored (take c.answer.count (change_list' c)) (sheet' c) ≡ sheet c
  -- "logs give the stated mean": 50 × sum ÷ count over the good bytes, rounded to nearest, ties to even, with their count, at the log's middle, which is a minute that a fit takes;
  -- and the count of the faults: each by its own rule, together the log's length, and the good bytes at least half of it
  pub mean : (c : AMean) → c.answer.number ≡ 0 →
      (c.answer.minute ≡ middle (first_minute c) (length (log c))) × (c.answer.minute ≤ latest)
      × (c.answer.ordinate ≡ nearest (pos (50 * sum (log c))) (count (log c))) × (c.answer.good ≡ count (log c))
      × (c.answer.faults ≡ faults (log c)) × (c.answer.good + c.answer.faults ≡ length (log c)) × (length (log c) ≤ 2 * c.answer.good)
  -- an accepted card is told: as many knots, these codes, and of the kind that its head names
  pub check_tells : (c : ACheck) → c.answer.number ≡ 0 → AcceptsAs (kind_by (checked_bytes c)) (card_of (checked_bytes c)) c.answer
  pub read_tells : (r : ARead) → r.answer.number ≡ 0 → AcceptsAs (kind_by (read_bytes r)) (card_of (read_bytes r)) r.answer
  -- "writing a sound card and reading it returns it": what was written is accepted as of its kind, and read
  -- back as it was
  pub written_is_checked : (w : AWriting) (c : ACheck) → (write_answer w).number ≡ 0 → checked_bytes c ≡ written_bytes w → AcceptsAs (written_kind w) (written_card w) c.answer
  pub written_is_read : (w : AWriting) (r : ARead) → (write_answer w).number ≡ 0 → read_bytes r ≡ written_bytes w → RoomFor (knots (written_card w)) (places r) →
      AcceptsAs (written_kind w) (written_card w) r.answer × (front r.answer.knots (places' r) r.answer.left r.answer.right ≡ written_card w)
  -- "and accepted bytes are those that the writer makes": the writer of the kind that was told, of what the
  -- reader gives
  pub checked_is_written : (c : ACheck) (r : ARead) (w : AWriting) → c.answer.number ≡ 0 → (written_kind w).head ≡ c.answer.kind
      → read_bytes r ≡ checked_bytes c → r.answer.number ≡ 0
      → written_card w ≡ front r.answer.knots (places' r) r.answer.left r.answer.right → length (checked_bytes c) ≤ length (buffer w)
      → ((write_answer w).number ≡ 0) × (written_bytes w ≡ checked_bytes c)
  -- and so in a book: what is left by a card that was put in, or a room that was taken out, is a sound book,
  pub change_leaves_a_book : (c : AChange) → (change_answer c).number ≡ 0 → HoldsABook (change_answer c).bytes (changed_book' c)
  -- in which the card is found,
  pub put_is_found : (p : ABookPut) (f : ABookFind) → p.answer.number ≡ 0 → the_book f ≡ put_book' p → the_room f ≡ put_room p →
      (f.answer.number ≡ 0) × (the_part f ≡ put_card p)
  -- and the room that was taken out is not;
  pub removed_is_gone : (c : ABookRemove) (f : ABookFind) → c.answer.number ≡ 0 → the_book f ≡ out_book' c → the_room f ≡ out_room c →
      (f.answer.number ≡ 20) × (f.answer.place ≡ 0)
  -- what is found is that room's card in the book;
  pub hands_back : (f : ABookFind) → HandsBack f
  -- "Each other room's card stays byte for byte", accepted or damaged, refused calls too;
  pub cards_stay : (c : AChange) (q : ℕ) → q ≢ changed_room c → card_in q (changed_book' c) ≡ card_in q (changed_book c)
  -- and looking it up gives what it gave before
  pub others_as_before : (c : AChange) (f g : ABookFind) → the_book f ≡ changed_book c → the_book g ≡ changed_book' c → the_room g ≡ the_room f → the_room f ≢ changed_room c →
      (g.answer.number ≡ f.answer.number) × (g.answer.place ≡ f.answer.place) × (the_part g ≡ the_part f)
  -- whether an accepted card is refused with 21 is told by the bytes in use alone (document 02, order 11),
  pub put_by_bytes_in_use : (p : ABookPut) (rooms : List Entry) → book (put_book p) ≡ Answer.given rooms → own (put_card p) ≡ accepted →
      p.answer.number ≡ Answer.number (full (then_in_use (put_room p) (put_card p) rooms) (length (put_book p)))
  -- and the next card can use what a removal freed
  pub freed_is_used : (c : ABookRemove) (p : ABookPut) {old : List ℕ} → c.answer.number ≡ 0 → card_in (out_room c) (out_book c) ≡ Answer.given old →
      put_book p ≡ out_book' c → own (put_card p) ≡ accepted → length (put_card p) ≤ length old → p.answer.number ≡ 0
  -- a room put in where it was absent, and taken out again: accepted, and the same book byte for byte to its closing record
  pub put_and_out : (p : ABookPut) (c : ABookRemove) → p.answer.number ≡ 0 → card_in (put_room p) (put_book p) ≡ Answer.refused 20 0 →
      out_book c ≡ put_book' p → out_room c ≡ put_room p →
      (c.answer.number ≡ 0) × (book (out_book' c) ≡ book (put_book p)) × (c.answer.bytes ≡ (in_use (book (put_book p))).bytes)
      × (take c.answer.bytes (out_book' c) ≡ take c.answer.bytes (put_book p))
  -- "From a book with no room, after any sequence of puts and removals, refused ones included, looking up gives each room's last accepted card
  -- not since removed, else 20"
  pub history : {from to : List ℕ} → book from ≡ Answer.given [] → (calls : Changes from to) (f : ABookFind) → the_book f ≡ to → let v = last_card (the_room f) calls in
      (f.answer.number ≡ Answer.number v) × (f.answer.place ≡ Answer.place v) × (the_part f ≡ part v)

-- ---- 3. "Off any accepted card, at any whole minute of it, the value is within half a hundredth and slope and curvature within half a card unit of the exact curve; at knots they are the
-- card's own; third and fourth derivatives jump by no more than is allowed, whoever wrote the card; and no card within half a unit of an exact solution is refused for a jump."

-- from the first knot to the last
abbrev pub OnTheCard : Card → ℕ → Type 0
OnTheCard card m = ((knot card 0).x ≤ m) × (m ≤ (knot card (knots card - 1)).x)

-- a gap on which a minute stands
pub record AGap (card : Card) (m : ℕ) : Type 0 where
  pub left_knot : ℕ
  pub minutes : ℕ
  pub on : OnGap card m left_knot minutes

-- n looks for the gap of a minute (document 02, order 7): "the count of that rule", "at most the smallest p for which 2 to the p is not below the number of gaps: six for a full card"
pub record Looks (card : Card) (m n : ℕ) : Type 0 where
  pub counted : n ≡ (found card.minutes m).looks
  pub few : (p : ℕ) → knots card - 1 ≤ 2 ^ p → n ≤ p
  pub six : n ≤ 6

-- a minute of a card's gap for which something holds
pub record AMinute (card : Card) (i : ℕ) (P : ℕ → Type 0) : Type 0 where
  pub at : ℕ
  pub minutes : ℕ
  pub on : OnGap card at i minutes
  pub holds : P at

-- how far a reading is below the lower of a gap's two knots, above the higher, and beyond either
abbrev pub below : Card → ℕ → AReading → ℕ
below card i r = Swing.below (knot card i).y (knot card (i + 1)).y r.answer.value

abbrev pub above : Card → ℕ → AReading → ℕ
above card i r = Swing.above (knot card i).y (knot card (i + 1)).y r.answer.value

abbrev pub beyond : Card → ℕ → AReading → ℕ
beyond card i r = max (below card i r) (above card i r)

-- a card's swing, by what is read off its bytes
pub record Swings (s : List ℕ) (w : Swung) : Type 0 where
  -- it names a gap of the card, and a minute of that gap
  pub on_its_gap : OnGap (card_of s) w.minute w.knot (w.minute - (knot (card_of s) w.knot).x)
  -- in that gap the readings go so far below and above its knots, and no further
  pub at_most : (r : AReading) → reading_bytes r ≡ s → (t : ℕ) → OnGap (card_of s) (minute r) w.knot t →
      (below (card_of s) w.knot r ≤ w.below) × (above (card_of s) w.knot r ≤ w.above)
  pub so_low : AMinute (card_of s) w.knot (λ m. (r : AReading) → reading_bytes r ≡ s → minute r ≡ m → below (card_of s) w.knot r ≡ w.below)
  pub so_high : AMinute (card_of s) w.knot (λ m. (r : AReading) → reading_bytes r ≡ s → minute r ≡ m → above (card_of s) w.knot r ≡ w.above)
  -- at its minute the card is as far beyond; in no gap it goes further, in an earlier gap not so far, and in
  -- its own not so far before its minute
  pub there : (r : AReading) → reading_bytes r ≡ s → minute r ≡ w.minute → beyond (card_of s) w.knot r ≡ max w.below w.above
  pub furthest : (r : AReading) → reading_bytes r ≡ s → (i t : ℕ) → OnGap (card_of s) (minute r) i t → beyond (card_of s) i r ≤ max w.below w.above
  pub first_gap : (r : AReading) → reading_bytes r ≡ s → (i t : ℕ) → OnGap (card_of s) (minute r) i t → i < w.knot → beyond (card_of s) i r < max w.below w.above
  pub first_there : (r : AReading) → reading_bytes r ≡ s → (t : ℕ) → OnGap (card_of s) (minute r) w.knot t → minute r < w.minute →
      beyond (card_of s) w.knot r < max w.below w.above

-- what the value at a minute is made of (document 02, order 9)
pub record MadeOf (s : List ℕ) (m : ℕ) (e : Explained) : Type 0 where
  -- "the gap, the minute within it"
  pub its_gap : e.gap ≡ gap_of (card_of s).minutes m
  pub on_its_gap : OnGap (card_of s) m e.gap e.minutes
  -- each part is its term of the exact curve's numerator, over the gap's denominator
  pub terms : Terms (card_of s) e.gap m e
  -- "The parts must sum to the numerator of the exact value", and what is read is that, rounded
  pub together : parts_sum e ≡ exact 0 (knot (card_of s) e.gap) (knot (card_of s) (e.gap + 1)) e.minutes
  pub read_as : (r : AReading) → reading_bytes r ≡ s → minute r ≡ m → r.answer.value ≡ nearest (parts_sum e) (nat_abs e.denominator)

-- of bytes, and the card that they hold
pub record Off (s : List ℕ) : Type 0 where
  -- "at any whole minute of it"
  pub gaps : (m : ℕ) → OnTheCard (card_of s) m → AGap (card_of s) m
  -- "the value is within half a hundredth and slope and curvature within half a card unit of the exact curve"
  pub close : (r : AReading) → reading_bytes r ≡ s → OnTheCard (card_of s) (minute r) →
      (r.answer.number ≡ 0) × ((i t : ℕ) → OnGap (card_of s) (minute r) i t → Close (knot (card_of s) i) (knot (card_of s) (i + 1)) t (three r))
  -- "at knots they are the card's own"
  pub at_knots : (r : AReading) → reading_bytes r ≡ s → (i : ℕ) → i < knots (card_of s) → minute r ≡ (knot (card_of s) i).x →
      (r.answer.number ≡ 0) × (three r ≡ numbers (knot (card_of s) i))
  -- with the looks for the minute's gap; they leave one gap, which is the one that is read
  pub looks : (r : AReading) → reading_bytes r ≡ s → OnTheCard (card_of s) (minute r) → Looks (card_of s) (minute r) r.answer.looks
  pub gap_left : (m : ℕ) → OnTheCard (card_of s) m → (let l = found (card_of s).minutes m in (l.gaps ≡ 1) × (l.first ≡ gap_of (card_of s).minutes m))
  -- and so in a table: at each of its places is what is read at that minute of the card, as many minutes as the lists have places or as the card has left
  pub tables : (t : ATable) → table_bytes t ≡ s → t.answer.number ≡ 0 → (i : ℕ) → i < t.answer.count →
      OnTheCard (card_of s) (from t + i) × ((r : AReading) → reading_bytes r ≡ s → minute r ≡ from t + i → (r.answer.number ≡ 0) × (row t i ≡ three r))
  pub table_counts : (t : ATable) → table_bytes t ≡ s → t.answer.number ≡ 0 →
      t.answer.count ≡ min (length (lists_for t).values) ((knot (card_of s) (knots (card_of s) - 1)).x + 1 - from t)
  -- and so beside the knots: the gap whose readings go furthest beyond its two knots
  pub swings : (c : ASwing) → swing_bytes c ≡ s → (c.answer.number ≡ 0) × Swings s c.answer
  -- and each value is explained
  pub explains : (c : AExplain) → explained_bytes c ≡ s → OnTheCard (card_of s) (explained_minute c) → (c.answer.number ≡ 0) × MadeOf s (explained_minute c) c.answer
  -- "third and fourth derivatives jump by no more than is allowed", as far as the card's kind asks for them
  pub jumps : (i : ℕ) → i + 2 < knots (card_of s) → (o : Order) → T ((kind_by s).asks inner o) →
      JumpWithin (kind_by s) o (knot (card_of s) i) (knot (card_of s) (i + 1)) (knot (card_of s) (i + 2))
  -- where the slopes are given there is one exact solution, and "every stored curvature of an accepted card
  -- is at most 2 card units from" it (document 02, order 8),
  pub within_2 : kind_by s ≡ sloped → WithinTwo (card_of s)
  -- and the third derivative is within its allowance "at both ends too"
  pub flat_ends : kind_by s ≡ sloped → FlatEnds (card_of s)

-- "A reason is named exactly when the test refuses with 10", and at the place where it does
pub record NamesExactly (e : Explained) (r : Checked) : Type 0 where
  pub named : r.number ≡ 10 → (e.number ≡ 10) × (e.knot ≡ r.place) × ((e.order ≡ 3) ⊎ (e.order ≡ 4))
  pub only : e.order ≢ 0 → r.number ≡ 10

-- within half a unit of an exact solution
pub record HalfAUnit (K : Kind) (card : Card) : Type 0 where
  pub exact : Exact K card
  pub near : Near exact

-- of the card that bytes hold, as the kind that their head names
abbrev pub HalfAUnitHeld : List ℕ → Type 0
HalfAUnitHeld s = HalfAUnit (kind_by s) (card_of s)

-- the order of a fit to slopes before it eliminates, into a list of n places: 3, 1, 2; per knot 4, 5, 6; 9
-- for the slopes
abbrev pub before_8_of_slopes : List ℕ → (ordinates slopes : List ℤ) → Verdict
before_8_of_slopes xs ys ms = lengths (length xs) (length ys) (length ms) (length xs) then counted sloped (length xs) then standing xs ys ms

pub record Demand3 : Type 0 where
  -- "Off any accepted card", "whoever wrote the card"
  pub off : (c : ACheck) → c.answer.number ≡ 0 → Off (checked_bytes c)
  -- and off each card that is found in a book
  pub found_off : (c : ABookFind) → c.answer.number ≡ 0 → Off (the_part c)
  -- a card that is refused for a jump is told why: the lowest knot with one, the derivative, its jump and its
  -- allowance (document 02, order 9)
  pub explain_why : (c : AExplain) → c.answer.number ≡ 10 → Because (kind_by (explained_bytes c)) (card_of (explained_bytes c)) c.answer.place c.answer
  pub explain_names : (c : AExplain) (k : ACheck) → checked_bytes k ≡ explained_bytes c → NamesExactly c.answer k.answer
  -- and all of it fits 64 bits, the parts' sum too, in whatever order they are added
  pub explain_fits : (c : AExplain) → Fits64 c.answer
  -- and so for the pre-heater, whose table has no card: within half a hundredth of the exact natural cubic, ties
  -- to even, and at the table's values its own (document 02, order 10)
  pub preheats : (c : APreheat) → c.answer.number ≡ 0 → OnCubic (heat_values c) (heat_parts c) (heat_count c) c.answer.value
  -- "and no card within half a unit of an exact solution is refused for a jump"
  pub write_never_10 : (w : AWriting) → HalfAUnit (written_kind w) (written_card w) → (write_answer w).number ≢ 10
  pub check_never_10 : (c : ACheck) → HalfAUnitHeld (checked_bytes c) → c.answer.number ≢ 10
  pub read_never_10 : (c : ARead) → HalfAUnitHeld (read_bytes c) → c.answer.number ≢ 10
  pub reading_never_10 : (c : AReading) → HalfAUnitHeld (reading_bytes c) → c.answer.number ≢ 10
  pub table_never_10 : (c : ATable) → HalfAUnitHeld (table_bytes c) → c.answer.number ≢ 10
  pub swing_never_10 : (c : ASwing) → HalfAUnitHeld (swing_bytes c) → c.answer.number ≢ 10
  pub explain_never_10 : (c : AExplain) → HalfAUnitHeld (explained_bytes c) → c.answer.number ≢ 10
  pub book_find_never_10 : (c : ABookFind) → ((card : List ℕ) → card_in (the_room c) (the_book c) ≡ Answer.given card → HalfAUnitHeld card) → c.answer.number ≢ 10
  pub book_put_never_10 : (c : ABookPut) → HalfAUnitHeld (put_card c) → c.answer.number ≢ 10
  -- a removal tests none
  pub book_remove_never_10 : (c : ABookRemove) → c.answer.number ≢ 10
  -- nor the numbers that a fit works out
  pub fit_never_10 : (c : AFit) → HalfAUnit quintic (worked_out (without_ends c)) → c.answer.number ≢ 10
  pub fit_between_never_10 : (c : AFitBetween) → HalfAUnit quintic (worked_out (between_ends c)) → c.answer.number ≢ 10
  pub fit_slopes_never_10 : (c : AFitSlopes) → HalfAUnit sloped (worked_out (by_slopes c)) → c.answer.number ≢ 10
  pub mend_never_10 : (c : AMend) → HalfAUnit quintic (worked_out (of_the_mended c)) → c.answer.number ≢ 10
  pub refit_never_10 : (c : ARefit) → HalfAUnitHeld (refit_bytes c) → HalfAUnit (kind_by (refit_bytes c)) (worked_out (anew c)) → c.answer.number ≢ 10
  -- and there is one for every sheet that a fit takes up: the exact solution between the fit's own ends, rounded to card units
  pub exact_solution : (minutes : List ℕ) (ordinates : List ℤ) (left right : End) → before_8 minutes ordinates left right ≡ accepted → OneSolution minutes ordinates left right
  -- to slopes that are given, of the sheet with these slopes, on which no curvature stands yet
  pub slopes_solution : (minutes : List ℕ) (ordinates slopes : List ℤ) → before_8_of_slopes minutes ordinates slopes ≡ accepted → Sloped.OneSolution (lent minutes ordinates slopes [] 0 0)
  -- and what such a fit gives is as near to it as an accepted card is
  pub sloped_within_2 : (c : AFitSlopes) → c.answer.number ≡ 0 → WithinTwo (sloped_card c)
  -- the sheet that was mended has one
  pub mended_solution : (c : AMend) → c.answer.number ≡ 0 → OneSolution (sheet_minutes c) (sheet' c) Free Free

pub record Demands : Type 0 where
  pub one : Demand1
  pub two : Demand2
  pub three : Demand3
