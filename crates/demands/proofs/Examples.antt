-- The page is of something: each function accepts a call. Table 3's knots are accepted by the fit without
-- ends, between free ends and to Table 3's slopes, whose card is written and told as of kind 6; its card is
-- accepted by the writer, its bytes by the card test, the reader, a reading, a table, the swing, an
-- explanation and the fresh fit, and it is within half a unit of an exact solution, as are the numbers of
-- these fits; it is put into a book, found there and taken out. P7's knots with a hole are mended, P8's log has a
-- mean, and the pre-heater has document 001's example. Assumes nothing.
use mathlib.Core.Path.{◌≡◌, refl, sym, ap, ap₂, ◌∙◌, subst}
use mathlib.Core.Logic.{inl, inr}
use mathlib.Core.List.{List, [], ◌∷◌, ◌++◌}
use Prim.Native.Nat.{ℕ, zero, suc, ◌+◌}
use native.Mathlib.Omega.{arith}
use borrow.Author.Tests.{le-ltb}
use lib.Dec.{lit<, lit≤}
use lib.IntN.{ℤ, pos}
use lib.ListN.{length, get_or, drop, length-append}
use lib.Seq.{get_or-drop}
use base.Fml.{Lft, GName}
use denote.Bor.{Bor}
use denote.MutBor.{MutBor}
use Rattle.answer.specs.Answer.{Answer, refused, given, accepted, ◌then◌, refuse, number}
use Rattle.answer.specs.Lent.{lent_after}
use Rattle.answer.proofs.Steps.{not_both, first_accepts, next_accepts, both_accept, accepts_refuse}
use Rattle.front.specs.Front.{listed}
use Rattle.curve.specs.Kind.{quintic, sloped}
use Rattle.curve.specs.Card.{Card, knots, knot}
use Rattle.curve.specs.Steps.{lengths, counted as counted', codes, size, room}
use Rattle.curve.specs.Log.{mean}
use Rattle.curve.specs.Orders.{verdict, card_order, lists_order, write_order, reading_order, reading}
use Rattle.curve.proofs.Gap.{card_in}
use Rattle.curve.proofs.Cases.{table_3, line, p1, shown, value_slope, mean_from, cases, hold}
use Rattle.curve.proofs.Witness.{table_3_exact, table_3_near}
use Rattle.minutes.specs.Search.{middle, look, looking, every_gap, found}
use Rattle.card_bytes.specs.Bytes.{bytes_of}
use Rattle.card_bytes.specs.Held.{card_of}
use Rattle.card_bytes.specs.Records.{kind_by, card_verdict}
use Rattle.card_bytes.proofs.ByHead as ByHead
use Rattle.card_bytes.proofs.ByHead.{written_kind}
use Rattle.card_bytes.proofs.Table3.{table_3_bytes}
use Rattle.card_bytes.proofs.Sizes.{length_card}
use Rattle.card.specs.Answers.{own, checked, read_off}
use Rattle.card.specs.Promise.{Lists, into}
use Rattle.table.specs.Table.{table_order, tabled}
use Rattle.table.specs.Promise.{Columns, table_verdict, rows}
use Rattle.swing.specs.Swing.{swung}
use Rattle.explain.specs.Explain.{explain}
use Rattle.cubic.proofs.Example.{example}
use Rattle.preheat.proofs.Cases.{read as heated-at, example_at_14}
use Rattle.swing.proofs.Examples.{cards}
use Rattle.writer.specs.Promise.{written}
use Rattle.knots.specs.Lent.{lent}
use Rattle.log_mean.specs.Answers as Log-answers
use Rattle.rows.specs.Floats.{f0}
use Rattle.ends.specs.Ends.{end_by}
use Rattle.fit.specs.Fit.{fit, fit_codes}
use Rattle.fit.specs.Promise.{answered, slopes_after, curvatures_after}
use Rattle.fit.proofs.Card.{its_card}
use Rattle.fit.proofs.Table3.{fits_are}
use Rattle.slope_fit.specs.SlopesFit.{slopes_fit}
use Rattle.slope_fit.proofs.Card as Slopes
use Rattle.slope_fit.proofs.Rows.{rows_hold}
use Rattle.sloped.specs.Sloped.{WithinTwo}
use Rattle.holes.specs.Hole.{hole, mended}
use Rattle.mend.specs.Changes.{changes}
use Rattle.mend.specs.Order.{mend}
use Rattle.mend.specs.Promise as Mended
use Rattle.mend.specs.Promise.{ordinates_after, list_after, no_change}
use Rattle.mending.proofs.Examples.{mended_line}
use Rattle.refit.specs.Fresh.{fresh, refit}
use Rattle.refit.specs.Promise as Refit
use Rattle.refit.specs.Promise.{refitted}
use Rattle.refit.proofs.Unchanged.{free_is_fit_between}
use Rattle.little_endian.specs.Numbers.{le, Bytes}
use Rattle.little_endian.proofs.Numbers.{length_le, bytes_append, le_bytes}
use Rattle.record.specs.Record.{header}
use Rattle.book.specs.Book.{entry_bytes, book_bytes, size as book-size, ◌giving◌, book}
use Rattle.book.specs.Lookup.{in_use, held, part, spot}
use Rattle.book_put.specs.Put as Put
use Rattle.book_put.specs.Put.{entry, put_in, after}
use Rattle.book_put.proofs.Answers.{fits}
use Rattle.bookkeeping.specs.Card as Book-card
use Rattle.bookkeeping.proofs.Inverse.{no_room}
use Rattle.book_remove.specs.Remove.{remove}
use Rattle.kaihveto.specs.Types.{Minutes, Room}
use Rattle.demands.specs.Calls.{AMean, AFit, AFitBetween, AFitSlopes, without_ends, between_ends, card_between, by_slopes, worked_out, AWrite, AWriteSlopes, with_codes, with_slopes, written_card, ACheck, ARead, AReading, ATable, ASwing, AExplain, APreheat, fresh_job, ARefit, anew, AMend, of_the_mended, ABookFind, the_part, ABookPut, put_book', ABookRemove, out_book', by_put, by_removal}
use Rattle.demands.specs.Changes.{more, none, Changes, last_card}
use Rattle.demands.specs.Demands.{IsGiven, RoomFor, OnTheCard, HalfAUnit, HalfAUnitHeld}
use Rattle.demands.proofs.Numbers.{typed}
use Rattle.demands.proofs.Jobs as Jobs
use Rattle.demands.proofs.Jobs.{fresh_by_job}
use Rattle.demands.proofs.Written.{card_bytes}
use Rattle.demands.proofs.Witnesses.{rest_is_near, line_is_near, sloped_is_near}
use Rattle.demands.proofs.Demands.{hold as hold-all}

abbrev bytes : List ℕ
bytes = bytes_of quintic p1

-- P1's reading is given, so its card is accepted
shown_given : {A : Type 0} (f : A → List ℤ) (v : Answer A) {l : List ℤ} → shown f v ≡ given l → IsGiven v
unfolding shown
shown_given f (refused n p) e = absurd (not_both e)
shown_given f (given a) e = record { what = a; is = refl }

pub card_accepted : verdict quintic p1 ≡ accepted
unfolding cases value_slope reading reading_order
card_accepted = first_accepts _ _ (shown_given _ (reading quintic p1 4) (ap (λ l. get_or l 0 (refused 0 0)) hold)).is

-- by its head it is document 01's
its_kind : kind_by bytes ≡ quintic
its_kind = written_kind (inl refl) p1

passes_as_quintic : card_verdict quintic bytes ≡ accepted
unfolding card_verdict card_order verdict p1 table_3 knots
passes_as_quintic =
    let counted = next_accepts (lengths 5 5 5 5) _ card_accepted in
    let coded = next_accepts (counted' quintic 5) _ counted in
    let sound = next_accepts (codes quintic 0 0) _ coded in
    rw table_3_bytes.2 (both_accept table_3_bytes.3 (both_accept (first_accepts _ _ counted) (both_accept (first_accepts _ _ coded) (both_accept table_3_bytes.4 sound))))

pub bytes_accepted : own bytes ≡ accepted
bytes_accepted = ap (λ K. card_verdict K bytes) its_kind ∙ passes_as_quintic

-- within half a unit of an exact solution
p1_is_near : HalfAUnit quintic p1
unfolding p1
p1_is_near = record { exact = table_3_exact; near = table_3_near }

pub half : HalfAUnitHeld bytes
half = subst (λ K. HalfAUnit K (card_of bytes)) (sym its_kind) (subst (HalfAUnit quintic) (sym table_3_bytes.2) p1_is_near)

-- minute 4 stands on it
pub minute_4 : OnTheCard p1 4
unfolding p1 table_3 knots knot
minute_4 = (lit≤ tt, lit≤ tt)

on_the_bytes : OnTheCard (card_of bytes) 4
on_the_bytes = subst (λ c. OnTheCard c 4) (sym table_3_bytes.2) minute_4

-- ---- calls of the functions that the demands speak of, each of which is accepted; whatever lifetimes, pointers and names their lists have

pub minutes_typed : Minutes p1.minutes
unfolding Minutes p1 table_3
minutes_typed zero = lit< tt
minutes_typed (suc zero) = lit< tt
minutes_typed (suc (suc zero)) = lit< tt
minutes_typed (suc (suc (suc zero))) = lit< tt
minutes_typed (suc (suc (suc (suc zero)))) = lit< tt
minutes_typed (suc (suc (suc (suc (suc i))))) = lit< tt

writes : write_order quintic p1 (length bytes) ≡ accepted
unfolding write_order room
writes = both_accept card_accepted (accepts_refuse 26 0 (le-ltb (length bytes) (size (knots p1)) (omega (arith, length_card quintic p1))))

-- P8
abbrev log_of_p8 : List ℕ
log_of_p8 = 100 ∷ 255 ∷ 102 ∷ []

pub log_typed : Bytes log_of_p8
unfolding Bytes
log_typed zero = lit< tt
log_typed (suc zero) = lit< tt
log_typed (suc (suc zero)) = lit< tt
log_typed (suc (suc (suc i))) = lit< tt

mean_given : IsGiven (mean 60 log_of_p8)
unfolding cases mean_from
mean_given = shown_given _ (mean 60 log_of_p8) (ap (λ l. get_or l 9 (refused 0 0)) hold)

-- Table 3's own lists, lent to be read into
abbrev places_for : Lists
places_for = record { minutes = p1.minutes; ordinates = p1.ordinates; slopes = p1.slopes; curvatures = p1.curvatures }

-- in which there is room for it
pub room_for : RoomFor (knots p1) places_for
unfolding p1 table_3 knots
room_for = record { minutes = lit≤ tt; ordinates = refl; slopes = refl; curvatures = refl }

reads_into : into places_for bytes ≡ accepted
unfolding into lists_order lengths room p1 table_3 knots
reads_into = both_accept (accepts_refuse 3 0 refl) (both_accept bytes_accepted (rw table_3_bytes.2 (accepts_refuse 26 0 refl)))

-- its fit between free ends by their codes, and its fresh fit, are the card itself
fits_by_codes : fit_codes p1.minutes p1.ordinates (length p1.slopes) (length p1.curvatures) 0 f0 f0 0 f0 f0 ≡ given p1
unfolding p1 table_3 end_by codes quintic ◌then◌ refuse
fits_by_codes = fits_are.0

refits : refit (length p1.slopes) (length p1.curvatures) bytes ≡ given p1
unfolding refit into p1 table_3 knots
refits = both_accept reads_into (ap₂ fresh its_kind table_3_bytes.2 ∙ free_is_fit_between p1 refl refl ∙ fits_are.0)

-- its fit to its own slopes is the card itself
pub fits_to_slopes : slopes_fit p1.minutes p1.ordinates p1.slopes (length p1.curvatures) ≡ given p1
unfolding p1 table_3
fits_to_slopes = rows_hold.0

-- of which there are bytes with the head of the second kind
abbrev sloped_p1 : Card
sloped_p1 = lent p1.minutes p1.ordinates p1.slopes p1.curvatures 0 0

sloped_accepted : verdict sloped sloped_p1 ≡ accepted
sloped_accepted = subst (λ c. verdict sloped c ≡ accepted) (Slopes.its_own _ _ _ _ fits_to_slopes) (Slopes.accepted_card _ _ _ _ fits_to_slopes)

abbrev sloped_bytes : List ℕ
sloped_bytes = bytes_of sloped sloped_p1

-- accepted by that kind's test; they hold the card, on which minute 4 stands
sloped_bytes_accepted : own sloped_bytes ≡ accepted
sloped_bytes_accepted = (ByHead.read_back (inr refl) sloped_p1 (typed (inr refl) sloped_p1 sloped_accepted minutes_typed) sloped_accepted).accepts

on_the_sloped_bytes : OnTheCard (card_of sloped_bytes) 4
unfolding knots knot
on_the_sloped_bytes =
    let held = (ByHead.read_back (inr refl) sloped_p1 (typed (inr refl) sloped_p1 sloped_accepted minutes_typed) sloped_accepted).card in
    subst (λ c. OnTheCard c 4) (sym held) minute_4

-- and its list of slopes for each column of a table
abbrev columns_for : Columns
columns_for = record { values = p1.slopes; slopes = p1.slopes; curvatures = p1.slopes }

tables : table_verdict columns_for bytes 4 ≡ accepted
unfolding table_verdict table_order lengths p1 table_3 knots knot
tables =
    both_accept (accepts_refuse 3 0 refl)
    (both_accept bytes_accepted (rw table_3_bytes.2 (card_in p1.minutes 4 minute_4.0 minute_4.1)))

-- a book of no room, with just the bytes behind it that the card's record takes
abbrev empty_book : List ℕ
empty_book = book_bytes [] ++ (bytes ++ le 6 0)

header_typed : (kind n : ℕ) → Bytes (header kind n)
unfolding header
header_typed kind n = bytes_append (le 2 n) (le 2 kind) (le_bytes 2 n) (le_bytes 2 kind)

pub empty_typed : Bytes empty_book
unfolding book_bytes
empty_typed = bytes_append (header 3 0) (bytes ++ le 6 0) (header_typed 3 0) (bytes_append bytes (le 6 0) (card_bytes quintic p1) (le_bytes 6 0))

pub room_typed : Room 3
unfolding Room
room_typed = lit< tt

puts : Put.put 3 bytes empty_book ≡ given (entry 3 bytes ∷ [])
unfolding Put.put ◌giving◌ book_bytes header put_in book-size p1 table_3 knots
puts =
    let n : length empty_book ≡ 104 = simp (length-append, length_le, length_card) (omega arith) in
    let k : length bytes ≡ 94 = length_card quintic p1 in
    rw (no_room (bytes ++ le 6 0)) (both_accept bytes_accepted (fits (entry 3 bytes) (length empty_book) [] (omega arith) (omega arith)))

-- the room is not there before, and what the put leaves is bytes
absent : Book-card.card_in 3 empty_book ≡ refused 20 0
unfolding ◌giving◌ held
absent = rw (no_room (bytes ++ le 6 0))

bytes_behind : (n : ℕ) (s : List ℕ) → Bytes s → Bytes (drop n s)
unfolding Bytes
bytes_behind n s h i = rw (get_or-drop n s i 0) (h (n + i))

pub left_typed : Bytes (after (Put.put 3 bytes empty_book) empty_book)
unfolding after book_bytes entry_bytes
left_typed =
    let n = 2 + length bytes in
    let room = bytes_append (header 5 n ++ le 2 3) bytes (bytes_append (header 5 n) (le 2 3) (header_typed 5 n) (le_bytes 2 3)) (card_bytes quintic p1) in
    let all = bytes_append (entry_bytes (entry 3 bytes)) (header 3 0) room (header_typed 3 0) in
    rw puts (bytes_append (book_bytes (entry 3 bytes ∷ [])) _ all (bytes_behind (book-size (entry 3 bytes ∷ [])) empty_book empty_typed))

module _ (lifetime : Lft) (pointer : ℕ × ℕ) (name : GName) where
  -- a list that is lent to be written, and one that is lent to be read
  abbrev list : {A : Type 0} → List A → MutBor (List A)
  list l = record { ref_ptr = pointer; ghost_name = name; now = l }

  abbrev shared : {A : Type 0} → List A → Bor (List A)
  shared l = record { ref_ptr = pointer; now = l }

  -- into lists of just the knots' places
  abbrev pub fit_call : AFit
  fit_call =
      let f = fit p1.minutes p1.ordinates (length p1.slopes) (length p1.curvatures) in
      let xs = shared p1.minutes in
      let ys = shared p1.ordinates in
      record {
        lifetimes = (lifetime, (lifetime, (lifetime, (lifetime, tt))));
        arguments = (xs, (ys, (list p1.slopes, (list p1.curvatures, tt))));
        answer = answered f;
        exit = (xs, (ys, (list (slopes_after f p1.slopes), (list (curvatures_after f p1.curvatures), tt))));
        promised = record { answer = refl; slopes = refl; curvatures = refl };
      }

  pub fit_accepts : fit_call.answer.number ≡ 0
  unfolding p1 table_3 number
  fit_accepts = ap (λ v. (answered v).number) fits_are.1

  -- between free ends
  abbrev pub fit_between_call : AFitBetween
  fit_between_call =
      let f = fit_codes p1.minutes p1.ordinates (length p1.slopes) (length p1.curvatures) 0 f0 f0 0 f0 f0 in
      let xs = shared p1.minutes in
      let ys = shared p1.ordinates in
      record {
        lifetimes = (lifetime, (lifetime, (lifetime, (lifetime, tt))));
        arguments = (xs, (ys, (list p1.slopes, (list p1.curvatures, (0, (f0, (f0, (0, (f0, (f0, tt))))))))));
        answer = answered f;
        exit = (xs, (ys, (list (slopes_after f p1.slopes), (list (curvatures_after f p1.curvatures), (0, (f0, (f0, (0, (f0, (f0, tt))))))))));
        promised = record { answer = refl; slopes = refl; curvatures = refl };
      }

  pub fit_between_accepts : fit_between_call.answer.number ≡ 0
  unfolding number
  fit_between_accepts = ap (λ v. (answered v).number) fits_by_codes

  -- the numbers that both work out are near an exact solution
  pub fits_are_near : HalfAUnit quintic (worked_out (without_ends fit_call)) × HalfAUnit quintic (worked_out (between_ends fit_between_call))
  unfolding p1 table_3
  fits_are_near = (
    subst (HalfAUnit quintic) (its_card _ _ _ _ _ _ _ fits_are.1) rest_is_near,
    subst (HalfAUnit quintic) (its_card _ _ _ _ _ _ _ fits_by_codes) p1_is_near,
  )

  -- to its own slopes
  abbrev pub fit_slopes_call : AFitSlopes
  fit_slopes_call =
      let f = slopes_fit p1.minutes p1.ordinates p1.slopes (length p1.curvatures) in
      let xs = shared p1.minutes in
      let ys = shared p1.ordinates in
      let ms = shared p1.slopes in
      record {
        lifetimes = (lifetime, (lifetime, (lifetime, (lifetime, tt))));
        arguments = (xs, (ys, (ms, (list p1.curvatures, tt))));
        answer = answered f;
        exit = (xs, (ys, (ms, (list (curvatures_after f p1.curvatures), tt))));
        promised = record { answer = refl; slopes = sym (ap (λ v. slopes_after v p1.slopes) fits_to_slopes); curvatures = refl };
      }

  pub fit_slopes_accepts : fit_slopes_call.answer.number ≡ 0
  unfolding number
  fit_slopes_accepts = ap (λ v. (answered v).number) fits_to_slopes

  pub fit_to_slopes_is_near : HalfAUnit sloped (worked_out (by_slopes fit_slopes_call))
  fit_to_slopes_is_near = subst (HalfAUnit sloped) (Slopes.its_card _ _ _ _ fits_to_slopes) sloped_is_near

  -- which is written as of the second kind,
  abbrev pub write_slopes_call : AWriteSlopes
  write_slopes_call =
      let v = write_order sloped sloped_p1 (length sloped_bytes) in
      let xs = shared p1.minutes in
      let ys = shared p1.ordinates in
      let ms = shared p1.slopes in
      let Ms = shared p1.curvatures in
      record {
        lifetimes = (lifetime, (lifetime, (lifetime, (lifetime, (lifetime, tt)))));
        arguments = (xs, (ys, (ms, (Ms, (list sloped_bytes, tt)))));
        answer = written v (size (knots sloped_p1));
        exit = (xs, (ys, (ms, (Ms, (list (lent_after v sloped_bytes sloped_bytes), tt)))));
        promised = (record { answer = refl; buffer = refl }, minutes_typed);
      }

  pub write_slopes_accepts : write_slopes_call.answer.number ≡ 0
  unfolding knots
  write_slopes_accepts =
      let left = sym (ap (λ v. lent p1.minutes p1.ordinates p1.slopes (curvatures_after v p1.curvatures) 0 0) fits_to_slopes) in
      (hold-all.two.sloped_is_kept fit_slopes_call fit_slopes_accepts).is_written (with_slopes write_slopes_call) refl left (omega (arith, length_card sloped sloped_p1))

  -- and told as of kind 6
  abbrev pub check_slopes_call : ACheck
  check_slopes_call =
      record {
        lifetimes = (lifetime, tt);
        arguments = (shared sloped_bytes, tt);
        answer = checked (own sloped_bytes) (kind_by sloped_bytes) (card_of sloped_bytes);
        exit = (shared sloped_bytes, tt);
        promised = (refl, card_bytes sloped sloped_p1);
      }

  pub check_slopes_accepts : check_slopes_call.answer.number ≡ 0
  unfolding checked
  check_slopes_accepts = ap (λ v. (checked v (kind_by sloped_bytes) (card_of sloped_bytes)).number) sloped_bytes_accepted

  pub check_tells_6 : check_slopes_call.answer.kind ≡ 6
  unfolding sloped
  check_tells_6 = (hold-all.two.check_tells check_slopes_call check_slopes_accepts).kind ∙ ap (λ K. K.head) (written_kind (inr refl) sloped_p1)

  -- it is read off, and its curvatures are within 2 units of the one exact solution
  abbrev pub reading_slopes_call : AReading
  reading_slopes_call =
      record { lifetimes = (lifetime, tt); arguments = (shared sloped_bytes, (4, tt)); answer = read_off sloped_bytes 4; exit = (shared sloped_bytes, (4, tt)); promised = refl }

  pub reading_slopes_accepts : reading_slopes_call.answer.number ≡ 0
  reading_slopes_accepts = ((hold-all.three.off check_slopes_call check_slopes_accepts).close reading_slopes_call refl on_the_sloped_bytes).0

  pub two_units : WithinTwo (card_of sloped_bytes)
  two_units = (hold-all.three.off check_slopes_call check_slopes_accepts).within_2 (written_kind (inr refl) sloped_p1)

  abbrev pub mean_call : AMean
  mean_call =
      record { lifetimes = (lifetime, tt); arguments = (60, (shared log_of_p8, tt)); answer = Log-answers.answered (mean 60 log_of_p8); exit = (60, (shared log_of_p8, tt)); promised = (refl, log_typed) }

  pub mean_accepts : mean_call.answer.number ≡ 0
  unfolding Log-answers.answered
  mean_accepts = ap (λ v. (Log-answers.answered v).number) mean_given.is

  -- P7's knots with a hole in the middle, and a list of one place
  abbrev pub mend_call : AMend
  mend_call =
      let xs = line.minutes in
      let ys = pos 0 ∷ hole ∷ pos 2 ∷ [] in
      let cs = no_change ∷ [] in
      let v = mend xs ys (length line.slopes) (length line.curvatures) (length cs) in
      let made = changes ys (mended xs ys) in
      record {
        lifetimes = (lifetime, tt);
        arguments = (shared xs, (list ys, (list line.slopes, (list line.curvatures, (list cs, tt)))));
        answer = Mended.answered v made;
        exit = (shared xs, (list (ordinates_after v ys), (list (slopes_after v line.slopes), (list (curvatures_after v line.curvatures), (list (list_after v made cs), tt)))));
        promised = record { answer = refl; ordinates = refl; slopes = refl; curvatures = refl; changes = refl };
      }

  pub mend_accepts : mend_call.answer.number ≡ 0
  unfolding line number
  mend_accepts = ap number mended_line

  pub mended_is_near : HalfAUnit quintic (worked_out (of_the_mended mend_call))
  unfolding line mend
  mended_is_near = subst (HalfAUnit quintic) (its_card _ _ _ _ _ _ _ (next_accepts _ _ mended_line)) line_is_near

  -- into lists of just the card's places
  abbrev pub refit_call : ARefit
  refit_call =
      let v = refit (length p1.slopes) (length p1.curvatures) bytes in
      record {
        lifetimes = (lifetime, (lifetime, (lifetime, tt)));
        arguments = (shared bytes, (list p1.slopes, (list p1.curvatures, tt)));
        answer = refitted (card_of bytes) v;
        exit = (shared bytes, (list (Refit.after v (λ d. d.slopes) p1.slopes), (list (Refit.after v (λ d. d.curvatures) p1.curvatures), tt)));
        promised = record { answer = refl; slopes = refl; curvatures = refl };
      }

  pub refit_accepts : refit_call.answer.number ≡ 0
  unfolding refitted
  refit_accepts = ap (λ v. (refitted (card_of bytes) v).number) refits

  pub fresh_is_near : HalfAUnit (kind_by bytes) (worked_out (anew refit_call))
  unfolding refit
  fresh_is_near =
      let c = card_of bytes in
      let is = Jobs.its_card c.minutes c.ordinates (knots c) (knots c) (fresh_job (kind_by bytes) c) (sym (fresh_by_job (kind_by bytes) c) ∙ next_accepts _ _ refits) in
      subst (λ K. HalfAUnit K (worked_out (anew refit_call))) (sym its_kind) (subst (HalfAUnit quintic) is p1_is_near)

  abbrev pub check_call : ACheck
  check_call = record { lifetimes = (lifetime, tt); arguments = (shared bytes, tt); answer = checked (own bytes) (kind_by bytes) (card_of bytes); exit = (shared bytes, tt); promised = (refl, card_bytes quintic p1) }

  pub check_accepts : check_call.answer.number ≡ 0
  unfolding checked
  check_accepts = ap (λ v. (checked v (kind_by bytes) (card_of bytes)).number) bytes_accepted

  abbrev pub reading_call : AReading
  reading_call = record { lifetimes = (lifetime, tt); arguments = (shared bytes, (4, tt)); answer = read_off bytes 4; exit = (shared bytes, (4, tt)); promised = refl }

  pub reading_accepts : reading_call.answer.number ≡ 0
  reading_accepts = ((hold-all.three.off check_call check_accepts).close reading_call refl on_the_bytes).0

  -- its four gaps take two looks
  pub reading_looks : reading_call.answer.looks ≡ 2
  unfolding middle look looking every_gap found p1 table_3
  reading_looks = ((hold-all.three.off check_call check_accepts).looks reading_call refl on_the_bytes).counted ∙ ap (λ c. (found c.minutes 4).looks) table_3_bytes.2

  abbrev pub preheat_call : APreheat
  preheat_call = record { lifetimes = (lifetime, tt); arguments = (shared example, (10, (14, tt))); answer = heated-at example 10 14; exit = (shared example, (10, (14, tt))); promised = refl }

  pub preheat_is : preheat_call.answer ≡ record { number = 0; place = 0; value = pos 2142 }
  preheat_is = example_at_14

  abbrev pub explain_call : AExplain
  explain_call = record { lifetimes = (lifetime, tt); arguments = (shared bytes, (4, tt)); answer = explain bytes 4; exit = (shared bytes, (4, tt)); promised = refl }

  pub explain_accepts : explain_call.answer.number ≡ 0
  explain_accepts = ((hold-all.three.off check_call check_accepts).explains explain_call refl on_the_bytes).0

  -- into a buffer of just the card's size
  abbrev pub write_call : AWrite
  write_call =
      let v = write_order quintic p1 (length bytes) in
      let xs = shared p1.minutes in
      let ys = shared p1.ordinates in
      let ms = shared p1.slopes in
      let Ms = shared p1.curvatures in
      record {
        lifetimes = (lifetime, (lifetime, (lifetime, (lifetime, (lifetime, tt)))));
        arguments = (xs, (ys, (ms, (Ms, (p1.left, (p1.right, (list bytes, tt)))))));
        answer = written v (size (knots p1));
        exit = (xs, (ys, (ms, (Ms, (p1.left, (p1.right, (list (lent_after v bytes bytes), tt)))))));
        promised = (record { answer = refl; buffer = refl }, minutes_typed);
      }

  pub write_accepts : write_call.answer.number ≡ 0
  unfolding written
  write_accepts = ap (λ v. (written v (size (knots p1))).number) writes

  -- what it writes is what the fit between free ends leaves
  pub writes_the_fit : written_card (with_codes write_call) ≡ card_between fit_between_call
  unfolding p1 table_3
  writes_the_fit = sym (ap (λ v. lent p1.minutes p1.ordinates (slopes_after v p1.slopes) (curvatures_after v p1.curvatures) 0 0) fits_by_codes)

  -- into lists of just the card's places
  abbrev pub read_call : ARead
  read_call =
      let v = into places_for bytes in
      let c = card_of bytes in
      record {
        lifetimes = (lifetime, (lifetime, (lifetime, (lifetime, (lifetime, tt)))));
        arguments = (shared bytes, (list p1.minutes, (list p1.ordinates, (list p1.slopes, (list p1.curvatures, tt)))));
        answer = checked v (kind_by bytes) c;
        exit = (
          shared bytes,
          (
            list (lent_after v c.minutes p1.minutes),
            (
              list (lent_after v c.ordinates p1.ordinates),
              (list (lent_after v c.slopes p1.slopes), (list (lent_after v c.curvatures p1.curvatures), tt)),
            ),
          ),
        );
        promised = record { answer = refl; minutes = refl; ordinates = refl; slopes = refl; curvatures = refl };
      }

  pub read_accepts : read_call.answer.number ≡ 0
  unfolding checked
  read_accepts = ap (λ v. (checked v (kind_by bytes) (card_of bytes)).number) reads_into

  -- from minute 4 on
  abbrev pub table_call : ATable
  table_call =
      let v = table_verdict columns_for bytes 4 in
      let n = rows columns_for bytes 4 in
      let column = list p1.slopes in
      record {
        lifetimes = (lifetime, (lifetime, (lifetime, (lifetime, tt))));
        arguments = (shared bytes, (4, (column, (column, (column, tt)))));
        answer = tabled v n;
        exit = (
          shared bytes,
          (
            4,
            (
              list (lent_after v (listed (λ i. (read_off bytes (4 + i)).value) n) p1.slopes),
              (list (lent_after v (listed (λ i. (read_off bytes (4 + i)).slope) n) p1.slopes), (list (lent_after v (listed (λ i. (read_off bytes (4 + i)).curvature) n) p1.slopes), tt)),
            ),
          ),
        );
        promised = record { answer = refl; values = refl; slopes = refl; curvatures = refl };
      }

  pub table_accepts : table_call.answer.number ≡ 0
  unfolding tabled
  table_accepts = ap (λ v. (tabled v (rows columns_for bytes 4)).number) tables

  abbrev pub swing_call : ASwing
  swing_call = record { lifetimes = (lifetime, tt); arguments = (shared bytes, tt); answer = swung (own bytes) (card_of bytes); exit = (shared bytes, tt); promised = refl }

  -- 65 hundredths below its first gap's knots, at minute 6
  pub swing_is : swing_call.answer ≡ record { number = 0; place = 0; knot = 0; minute = 6; below = 65; above = 0 }
  swing_is = ap₂ swung bytes_accepted table_3_bytes.2 ∙ cards.0

  abbrev pub put_call : ABookPut
  put_call =
      let v = Put.put 3 bytes empty_book in
      record {
        lifetimes = (lifetime, (lifetime, tt));
        arguments = (list empty_book, (3, (shared bytes, tt)));
        answer = in_use v;
        exit = (list (after v empty_book), (3, (shared bytes, tt)));
        promised = (record { answer = refl; buffer = refl }, (empty_typed, room_typed));
      }

  pub put_accepts : put_call.answer.number ≡ 0
  unfolding in_use
  put_accepts = ap (λ v. (in_use v).number) puts

  -- and there it is found
  abbrev pub find_call : ABookFind
  find_call =
      let s = after (Put.put 3 bytes empty_book) empty_book in
      record { lifetimes = (lifetime, tt); arguments = (shared s, (3, tt)); answer = spot 3 s; exit = (shared s, (3, tt)); promised = refl }

  pub find_accepts : find_call.answer.number ≡ 0
  find_accepts = (hold-all.two.put_is_found put_call find_call put_accepts refl refl).0

  -- and from there it is taken out again
  abbrev pub remove_call : ABookRemove
  remove_call =
      let s = put_book' put_call in
      let v = remove 3 s in
      record {
        lifetimes = (lifetime, tt);
        arguments = (list s, (3, tt));
        answer = in_use v;
        exit = (list (after v s), (3, tt));
        promised = (record { answer = refl; buffer = refl }, (left_typed, room_typed));
      }

  -- which leaves the book of no room, of 4 bytes
  pub removes : (remove_call.answer.number ≡ 0) × (book (out_book' remove_call) ≡ given []) × (remove_call.answer.bytes ≡ 4)
  unfolding in_use book-size
  removes =
      let o = hold-all.two.put_and_out put_call remove_call put_accepts absent refl refl in
      (o.0, o.1 ∙ no_room (bytes ++ le 6 0), o.2 ∙ ap (λ v. (in_use v).bytes) (no_room (bytes ++ le 6 0)))

  -- one after the other: after the put the room has the card, and after the removal none
  abbrev once : Changes empty_book (put_book' put_call)
  once = more (by_put put_call) refl none

  abbrev pub twice : Changes empty_book (out_book' remove_call)
  twice = more (by_removal remove_call) refl once

  pub last_cards : (last_card 3 once ≡ given bytes) × (last_card 4 once ≡ refused 20 0) × (last_card 3 twice ≡ refused 20 0)
  unfolding last_card
  last_cards = (rw put_accepts, rw put_accepts, rw removes.0)

  -- and so the search in what the put left gives the card
  pub found_by_history : the_part find_call ≡ bytes
  unfolding part
  found_by_history = (hold-all.two.history (no_room (bytes ++ le 6 0)) once find_call refl).2 ∙ ap part last_cards.0
