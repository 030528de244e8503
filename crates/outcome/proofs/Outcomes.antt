-- For every public function, crate by crate: two outcomes that both meet its promise are the same, in the result and in each list that the function is lent to
-- change. One law where the promise is an equation, and one where it is an equation of what an answer means. Assumes nothing.
use mathlib.Core.Path.{◌≡◌, refl, sym, ap, ap₂}
use native.Mathlib.Omega.{arith}
use mathlib.Core.List.{List, []}
use Prim.Native.Nat.{ℕ, ◌<◌}
use lib.IntN.{ℤ}
use lib.ListN.{length, get_or}
use Rattle.std.specs.Prelude.{Option, Result, Ok, Err}
use Rattle.answer.specs.Answer.{Answer, Verdict, refused, number, place}
use Rattle.answer.specs.Judge.{Judged, number_of, verdict_of, AnswersAs}
use Rattle.answer.specs.declared.Refusal.{Refusal}
use Rattle.answer.proofs.Outcome.{one_outcome, one_judgement}
use Rattle.answer.proofs.Reason.number.Reads as reason-number
use Rattle.answer.proofs.Refusal.number.Reads as refusal-number
use Rattle.answer.proofs.refuse.Reads as refuse
use Rattle.answer.proofs.first.Reads as first
use Rattle.answer.proofs.each.Reads as each
use Rattle.whole.proofs.nearest_unsigned.Reads as nearest-unsigned
use Rattle.whole.proofs.nearest.Reads as nearest
use Rattle.log_mean.proofs.MeanFromRefusal.from.Reads as mean-refused
use Rattle.log_mean.proofs.mean_of.Reads as mean_of
use Rattle.curve.specs.Kind.{Kind, quintic}
use Rattle.curve.specs.Card.{Card}
use Rattle.record.proofs.Records.{one_found}
use Rattle.little_endian.proofs.read_u16.Reads as read-u16
use Rattle.little_endian.proofs.read_i16.Reads as read-i16
use Rattle.little_endian.proofs.read_i32.Reads as read-i32
use Rattle.little_endian.proofs.write_u16.Reads as write-u16
use Rattle.little_endian.proofs.write_i16.Reads as write-i16
use Rattle.little_endian.proofs.write_i32.Reads as write-i32
use Rattle.record.proofs.is_at.Reads as is_at
use Rattle.record.proofs.Cursor.new.Reads as cursor-new
use Rattle.record.proofs.Cursor.read.Reads as cursor-read
use Rattle.knots.specs.Lent.{lent, card_lent}
use Rattle.knots.proofs.Kind.quintic.Reads as kind-quintic
use Rattle.knots.proofs.Kind.sloped.Reads as kind-sloped
use Rattle.knots.proofs.same_lengths.Reads as same_lengths
use Rattle.knots.proofs.counted.Reads as counted
use Rattle.knots.proofs.codes.Reads as codes
use Rattle.knots.proofs.sized.Reads as sized
use Rattle.knots.proofs.room.Reads as room
use Rattle.minutes.proofs.back.Reads as back
use Rattle.minutes.proofs.on.Reads as on
use Rattle.minutes.proofs.left_gap.Reads as left_gap
use Rattle.minutes.proofs.right_gap.Reads as right_gap
use Rattle.minutes.proofs.wider_gap.Reads as wider_gap
use Rattle.knots.proofs.stand.Reads as stand
use Rattle.knots.proofs.in_range.Reads as in_range
use Rattle.knots.proofs.beyond.Reads as beyond
use Rattle.minutes.proofs.outside.Reads as outside
use Rattle.minutes.proofs.find.Reads as find
use Rattle.gaps.proofs.Knot.mirrored.Reads as mirrored
use Rattle.weight_sheet.proofs.Row.at.Reads as sheet_row
use Rattle.weights.proofs.WeightsFromRow.from.Reads as weights-of-row
use Rattle.weights.proofs.Weights.of.Reads as weights_of
use Rattle.parts.proofs.Parts.of.Reads as parts-of
use Rattle.parts.proofs.numerator.Reads as numerator
use Rattle.parts.proofs.denominator.Reads as denominator
use Rattle.reading.proofs.Reading.between.Reads as reading-between
use Rattle.gap_curve.proofs.GapCurve.of.Reads as curve_of
use Rattle.gap_curve.proofs.GapCurve.at.Reads as curve_reads
use Rattle.gap_curve.proofs.GapCurve.value_at.Reads as curve-value
use Rattle.jumps.proofs.Order.number.Reads as order-number
use Rattle.jumps.proofs.jump.Reads as jump
use Rattle.jumps.proofs.allowance.Reads as allowance
use Rattle.jumps.proofs.Spans.of.Reads as spans-of
use Rattle.jumps.proofs.Spans.none.Reads as spans_none
use Rattle.jumps.proofs.meet.Reads as meet
use Rattle.lists.proofs.knot_at.Reads as knot_at
use Rattle.lists.proofs.code_at.Reads as code_at
use Rattle.lists.proofs.asks.Reads as asks
use Rattle.lists.proofs.numbers_sound.Reads as numbers_sound
use Rattle.lists.proofs.sound.Reads as sound
use Rattle.lists.proofs.CardReading.refused.Reads as reading-refused
use Rattle.lists.proofs.CardReadingFromRefusal.from.Reads as reading-of
use Rattle.lists.proofs.Lists.knot.Reads as lists-knot
use Rattle.lists.proofs.Lists.curve.Reads as lists-curve
use Rattle.lists.proofs.Lists.spell.Reads as lists-spell
use Rattle.lists.proofs.Lists.read_at.Reads as lists-read
use Rattle.card_bytes.proofs.head_due.Reads as head_due
use Rattle.card_bytes.proofs.records_due.Reads as records_due
use Rattle.encode.proofs.put_card.Reads as put_card
use Rattle.decode.proofs.Card.none.Reads as card-none
use Rattle.decode.proofs.Card.of.Reads as card_of
use Rattle.decode.proofs.Card.lent.Reads as card-lent
use Rattle.decode.proofs.Card.give.Reads as card-give
use Rattle.opened.proofs.Opening.{one_opened}
use Rattle.opened.proofs.Opened.by_head.Reads as opened-by-head
use Rattle.opened.proofs.lists.Reads as opened-lists
use Rattle.card.specs.declared.Checked.{Checked}
use Rattle.card.specs.Promise.{Lists, Reads}
use Rattle.card.proofs.CheckedFromRefusal.from.Reads as checked-refused
use Rattle.card.proofs.check.Reads as check
use Rattle.card.proofs.into.Reads as into
use Rattle.card.proofs.read.Reads as read
use Rattle.card.proofs.reading.Reads as reading
use Rattle.table.specs.declared.Tabled.{Tabled}
use Rattle.table.specs.Promise.{Columns, Tables}
use Rattle.table.proofs.TabledFromRefusal.from.Reads as tabled-refused
use Rattle.table.proofs.table.Reads as table
use Rattle.swing.proofs.SwungFromRefusal.from.Reads as swung-refused
use Rattle.swing.proofs.gap.Reads as swing-gap
use Rattle.swing.proofs.swing.Reads as swing
use Rattle.explain.proofs.Explained.sum.Reads as explained-sum
use Rattle.explain.proofs.ExplainedFromRefusal.from.Reads as explained-refused
use Rattle.explain.proofs.explain.Reads as explain
use Rattle.cubic.proofs.entry.Reads as cubic-entry
use Rattle.unknowns.specs.Unknowns.{answer_of}
use Rattle.unknowns.proofs.check.Reads as unknowns-check
use Rattle.unknowns.proofs.value_at.Reads as unknowns-value-at
use Rattle.unknowns.proofs.at.Reads as unknowns-at
use Rattle.unknowns.proofs.unknown_at.Reads as unknown-at
use Rattle.preheat.proofs.HeatedFromRefusal.from.Reads as preheat-refused
use Rattle.preheat.proofs.value.Reads as preheat-value
use Rattle.writer.specs.declared.Written.{Written}
use Rattle.writer.specs.Promise.{Writes}
use Rattle.writer.proofs.WrittenFromRefusal.from.Reads as written-refused
use Rattle.writer.proofs.write.Reads as write
use Rattle.writer.proofs.write_slopes.Reads as write-slopes
use Rattle.elimination.proofs.no_pair.Reads as no_pair
use Rattle.elimination.proofs.start.Reads as start
use Rattle.rows.proofs.BlockMul.mul.Reads as block-times-block
use Rattle.rows.proofs.BlockMulPair.mul.Reads as block-times-pair
use Rattle.rows.proofs.BlockSub.sub.Reads as block-less-block
use Rattle.rows.proofs.PairSub.sub.Reads as pair-less-pair
use Rattle.rows.proofs.gap_of.Reads as row-gap
use Rattle.rows.proofs.empty_gap.Reads as empty-gap
use Rattle.rows.proofs.equations_of.Reads as equations-of
use Rattle.elimination.proofs.back.Reads as row_back
use Rattle.elimination.proofs.finite.Reads as finite
use Rattle.elimination.proofs.finite_pair.Reads as finite-pair
use Rattle.elimination.proofs.eliminate.Reads as eliminate
use Rattle.elimination.proofs.judge.Reads as judge
use Rattle.lines.proofs.hundredths.Reads as hundredths
use Rattle.lines.proofs.line_of.Reads as Line-of
use Rattle.lines.proofs.eliminate.Reads as line-eliminate
use Rattle.lines.proofs.back.Reads as line_back
use Rattle.passes.proofs.pairs_of.Reads as pairs_of
use Rattle.units.proofs.units_of.Reads as units_of
use Rattle.ends.proofs.code.Reads as code
use Rattle.ends.proofs.end_by.Reads as end_by
use Rattle.ends.proofs.given_ends.Reads as given-ends
use Rattle.numbers.proofs.scale.Reads as scale
use Rattle.numbers.proofs.write.Reads as write-numbers
use Rattle.fit.specs.declared.Fitted.{Fitted}
use Rattle.fit.specs.Promise.{fitted_of, Fits}
use Rattle.worked.proofs.Outcome.{one_work}
use Rattle.worked.proofs.work_out.Reads as work_out
use Rattle.fit.proofs.Outcome.{one_fit}
use Rattle.fit.proofs.FittedFromJudged.from.Reads as fitted-judged
use Rattle.fit.proofs.fit_into.Reads as fit_into
use Rattle.fit.proofs.fit_between.Reads as fit_between
use Rattle.fit.proofs.fit_codes.Reads as fit_codes
use Rattle.fit.proofs.fit.Reads as fit
use Rattle.slope_fit.proofs.fit.Reads as fit_slopes
use Rattle.refit.specs.declared.Refitted.{Refitted}
use Rattle.refit.specs.Promise.{Refits}
use Rattle.refit.proofs.RefittedFromRefusal.from.Reads as refitted-refused
use Rattle.refit.proofs.refit.Reads as refit
use Rattle.decimal.specs.Put.{Put}
use Rattle.decimal.proofs.Puts.{one_put}
use Rattle.decimal.proofs.magnitude.Reads as magnitude
use Rattle.decimal.proofs.put_byte.Reads as put_byte
use Rattle.decimal.proofs.put_words.Reads as put-words
use Rattle.decimal.proofs.put_decimal.Reads as put-decimal
use Rattle.decimal.proofs.put_signed.Reads as put-signed
use Rattle.decimal.proofs.put_field.Reads as put-field
use Rattle.decimal.proofs.put_worded.Reads as put-worded
use Rattle.listing.specs.Text.{no_log, listing}
use Rattle.listing.proofs.Plain.{same_faults}
use Rattle.listing.proofs.knot_line.Reads as knot_line
use Rattle.listing.proofs.counted_line.Reads as counted_line
use Rattle.listing.proofs.refused_line.Reads as refused_line
use Rattle.listing.proofs.list.Reads as list
use Rattle.gather.proofs.Knot.plain.Reads as knot-plain
use Rattle.gather.proofs.Knot.logged.Reads as knot-logged
use Rattle.gather.proofs.Gathered.refused.Reads as gathered-refused
use Rattle.gather.proofs.Gathered.with_knot.Reads as gathered-with-knot
use Rattle.gather.proofs.Gathered.close.Reads as gathered-close
use Rattle.sheet.proofs.asked.Reads as asked
use Rattle.sheet.proofs.Intake.new.Reads as intake-new
use Rattle.sheet.proofs.Intake.done.Reads as intake-done
use Rattle.sheet.proofs.Intake.step.Reads as intake-step
use Rattle.sheet.proofs.Intake.close.Reads as intake-close
use Rattle.sheet.proofs.read.Reads as sheet-read
use Rattle.fit_listing.proofs.list_sheet.Reads as list-sheet
use Rattle.split.proofs.stop.Reads as split-stop
use Rattle.split.proofs.until.Reads as split-until
use Rattle.split.proofs.from.Reads as Split-from
use Rattle.split.proofs.past.Reads as split-past
use Rattle.split.proofs.line_at.Reads as line_at_lem
use Rattle.numeral.proofs.starts.Reads as starts
use Rattle.numeral.proofs.plain.Reads as plain
use Rattle.numeral.proofs.Wrong.number.Reads as wrong-number
use Rattle.numeral.proofs.natural.Reads as natural
use Rattle.numeral.proofs.signed.Reads as signed
use Rattle.numeral.proofs.ordinate.Reads as ordinate
use Rattle.text.proofs.bare_line.Reads as bare_line
use Rattle.text.proofs.blamed.Reads as blamed
use Rattle.text.proofs.log_name.Reads as log_name
use Rattle.text.proofs.Sheet.read.Reads as text-read
use Rattle.values.proofs.Values.read.Reads as values-read
use Rattle.values.proofs.blamed.Reads as value-blamed
use Rattle.words.proofs.put_sentence.Reads as put-sentence
use Rattle.words.proofs.refused_line.Reads as refusal-said
use Rattle.words.proofs.value_line.Reads as value-said
use Rattle.words.proofs.wrong_line.Reads as wrong-said
use Rattle.words.proofs.mended_line.Reads as mended-said
use Rattle.reply.specs.declared.Answered.{Answered}
use Rattle.reply.specs.declared.Status.{Status}
use Rattle.reply.specs.declared.Status.TheVariants.{Done, Refused}
use Rattle.reply.specs.Reply.{Reply, byte_of, Answers}
use Rattle.reply.proofs.Status.byte.Reads as status-byte
use Rattle.reply.proofs.line_of.Reads as reply-line
use Rattle.reply.proofs.answer.Reads as reply-answer
use Rattle.mend.specs.declared.Plan.{Plan}
use Rattle.reply.specs.declared.Mending.{Mending}
use Rattle.reply.specs.Mending.{Mends as Mends-text}
use Rattle.reply.proofs.mend.Reads as reply-mend
use Rattle.card_listing.proofs.list_card.Reads as list-card
use Rattle.holes.proofs.is_hole.Reads as is_hole
use Rattle.holes.proofs.one_at.Reads as one_at
use Rattle.holes.proofs.count.Reads as holes-count
use Rattle.holes.proofs.bridged.Reads as bridged
use Rattle.holes.proofs.filled.Reads as filled
use Rattle.mend.specs.declared.Change.{Change}
use Rattle.mend.specs.declared.Plan.{Plan}
use Rattle.mend.specs.declared.Mended.{Mended}
use Rattle.mend.specs.Promise.{Plans, Mends}
use Rattle.mend.proofs.Planning.{numbered}
use Rattle.mend.proofs.Plan.unchanged.Reads as plan-unchanged
use Rattle.mend.proofs.Plan.len.Reads as plan-len
use Rattle.mend.proofs.Plan.answer.Reads as plan-answer
use Rattle.mend.proofs.mend.Reads as mend
use Rattle.mend.proofs.fill.Reads as fill
use Rattle.moves.proofs.slide.Reads as slide
use Rattle.moves.proofs.copy_in.Reads as copy-in
use Rattle.book.specs.Book.{Entry}
use Rattle.book.specs.declared.Used.{Used}
use Rattle.book.proofs.Standing.{one_step}
use Rattle.book.proofs.Answers.{one_walked}
use Rattle.book.proofs.step_at.Reads as book-step
use Rattle.book.proofs.walk.Reads as book-walk
use Rattle.book.proofs.Used.refused.Reads as used-refused
use Rattle.book.proofs.UsedFromRefusal.from.Reads as used-of
use Rattle.book.proofs.SpotFromRefusal.from.Reads as spot-refused
use Rattle.book.proofs.check.Reads as book-check
use Rattle.book.proofs.own.Reads as book-own
use Rattle.book.proofs.find.Reads as book_find
use Rattle.book.proofs.lookup.Reads as book-lookup
use Rattle.book_put.specs.Put.{Puts}
use Rattle.book_put.proofs.put.Reads as book-put
use Rattle.book_remove.proofs.remove.Reads as book-remove
use Rattle.kaihveto.proofs.kaihveto_version.Reads as c-version
use Rattle.kaihveto.proofs.kaihveto_mean.Reads as c-mean
use Rattle.kaihveto.proofs.kaihveto_fit.Reads as c-fit
use Rattle.kaihveto.proofs.kaihveto_fit_ends.Reads as c-fit-ends
use Rattle.kaihveto.proofs.kaihveto_fit_slopes.Reads as c-fit-slopes
use Rattle.kaihveto.proofs.kaihveto_write.Reads as c-write
use Rattle.kaihveto.proofs.kaihveto_write_slopes.Reads as c-write-slopes
use Rattle.kaihveto.proofs.kaihveto_check.Reads as c-check
use Rattle.kaihveto.proofs.kaihveto_read.Reads as c_read
use Rattle.kaihveto.proofs.kaihveto_reading.Reads as c-reading
use Rattle.kaihveto.proofs.kaihveto_table.Reads as c-table
use Rattle.kaihveto.proofs.kaihveto_swing.Reads as c-swing
use Rattle.kaihveto.proofs.kaihveto_explain.Reads as c-explain
use Rattle.kaihveto.proofs.kaihveto_preheat.Reads as c-preheat
use Rattle.kaihveto.proofs.kaihveto_refit.Reads as c-refit
use Rattle.kaihveto.proofs.kaihveto_book_find.Reads as c-book-find
use Rattle.kaihveto.proofs.kaihveto_book_put.Reads as c-book-put
use Rattle.kaihveto.proofs.kaihveto_book_remove.Reads as c-book-remove
use Rattle.kaihveto.proofs.kaihveto_mend.Reads as c-mend
use Rattle.outcome.specs.Once.{Means, Leaves, Once, Lent}

-- ---- the laws: a promise is an equation of what is left to the caller, or one of what an answer means, or several equations

module _ {K A X S B : Type 0} (left : X → S → B) (f : K → A → B) where
  equation : Leaves (λ κs a x s. left x s ≡ f κs a) left
  equation κs a x y s t = one_outcome

-- one of what the result means beside the arguments
module _ {K A X S B : Type 0} (meaning : K → A → X → B) (f : K → A → B) where
  meant : Means {S = S} (λ κs a x s. meaning κs a x ≡ f κs a) (λ κs a x s. meaning κs a x)
  meant κs a x y s t = one_outcome

module _ {K A S : Type 0} (f : K → A → Verdict) where
  judgement : Once (λ (κs : K) (a : A) (x : Judged) (s : S). verdict_of x ≡ f κs a)
  judgement κs a x y s t = one_judgement

-- a given value, or a number and a place, belong to one result only
one_result : {X : Type 0} (a b : Result X Refusal) → answer_of a ≡ answer_of b → a ≡ b
one_result (Ok x) (Ok y) e = cc
one_result (Ok x) (Err r) e = cc
one_result (Err r) (Ok y) e = cc
one_result {X} (Err r) (Err q) e =
    let n : number_of r.reason ≡ number_of q.reason = cc in
    let p : r.place ≡ q.place = cc in
    ap as_result (one_judgement {a = Err r} {b = Err q} (ap₂ refused n p) refl)
  where
    as_result : Judged → Result X Refusal
    as_result (Ok u) = Err r
    as_result (Err f) = Err f

-- a promise that says more leaves no more open
module _ {K A X S B : Type 0} {Post : K → A → X → S → Type 0} (More : K → A → X → S → Type 0) (left : X → S → B) where
  with_more : Leaves Post left → Leaves (λ κs a x s. Post κs a x s × More κs a x s) left
  with_more once κs a x y s t p q = once κs a x y s t p.0 q.0

module _ {K A S : Type 0} (kind : Kind) (card : K → A → Card) (entry : K → A → List ℕ) (exit : S → List ℕ) where
  abbrev Writing : K → A → Written → S → Type 0
  Writing κs a x s = Writes kind (card κs a) (entry κs a) (exit s) x

  writing : Once Writing × Lent Writing exit
  writing = ((λ κs a x y s t p q. one_outcome p.answer q.answer), λ κs a x y s t p q. one_outcome p.buffer q.buffer)

module _ {K A X S : Type 0} (xs : S → List ℕ) (ys ms Ms : S → List ℤ) where
  abbrev Four : (K → A → X → S → Type 0) → Type 0
  Four Post = Lent Post xs × Lent Post ys × Lent Post ms × Lent Post Ms

  module _ (f : K → A → List ℕ) (g h k : K → A → List ℤ) where
    abbrev Given : K → A → X → S → Type 0
    Given κs a x s = (xs s ≡ f κs a) × ((ys s ≡ g κs a) × ((ms s ≡ h κs a) × (Ms s ≡ k κs a)))

    given : Four Given
    given = (
      (λ κs a x y s t p q. one_outcome p.0 q.0),
      (λ κs a x y s t p q. one_outcome p.1.0 q.1.0),
      (λ κs a x y s t p q. one_outcome p.1.1.0 q.1.1.0),
      (λ κs a x y s t p q. one_outcome p.1.1.1 q.1.1.1),
    )

module _ {K A S : Type 0} (bytes : K → A → List ℕ) (entry : K → A → Lists) (exit : S → Lists) where
  abbrev Reading : K → A → Checked → S → Type 0
  Reading κs a x s = Reads (bytes κs a) (entry κs a) (exit s) x

  reading_into : Once Reading × Four (λ s. (exit s).minutes) (λ s. (exit s).ordinates) (λ s. (exit s).slopes) (λ s. (exit s).curvatures) Reading
  reading_into = (
    (λ κs a x y s t p q. one_outcome p.answer q.answer),
    (
      (λ κs a x y s t p q. one_outcome p.minutes q.minutes),
      (λ κs a x y s t p q. one_outcome p.ordinates q.ordinates),
      (λ κs a x y s t p q. one_outcome p.slopes q.slopes),
      (λ κs a x y s t p q. one_outcome p.curvatures q.curvatures),
    ),
  )

module _ {K A S : Type 0} (bytes : K → A → List ℕ) (from : K → A → ℕ) (entry : K → A → Columns) (exit : S → Columns) where
  abbrev Tabling : K → A → Tabled → S → Type 0
  Tabling κs a x s = Tables (bytes κs a) (from κs a) (entry κs a) (exit s) x

  tabling : Once Tabling × Lent Tabling (λ s. (exit s).values) × Lent Tabling (λ s. (exit s).slopes) × Lent Tabling (λ s. (exit s).curvatures)
  tabling = (
    (λ κs a x y s t p q. one_outcome p.answer q.answer),
    (λ κs a x y s t p q. one_outcome p.values q.values),
    (λ κs a x y s t p q. one_outcome p.slopes q.slopes),
    (λ κs a x y s t p q. one_outcome p.curvatures q.curvatures),
  )

module _ {K A S : Type 0} (fit : K → A → Answer Card) (ms Ms : K → A → List ℤ) (ms' Ms' : S → List ℤ) where
  abbrev Fitting : K → A → Fitted → S → Type 0
  Fitting κs a x s = Fits (fit κs a) (ms κs a) (Ms κs a) (ms' s) (Ms' s) x

  fitting : Once Fitting × Lent Fitting ms' × Lent Fitting Ms'
  fitting = ((λ κs a x y s t p q. (one_fit p q).0), (λ κs a x y s t p q. (one_fit p q).1), λ κs a x y s t p q. (one_fit p q).2)

-- number and place belong to one judgement only
one_fitted : (a b : Judged) → fitted_of a ≡ fitted_of b → a ≡ b
unfolding number place
one_fitted (Ok u) (Ok v) e = refl
one_fitted (Ok u) (Err q) e = absurd (numbered q.reason (sym (ap (λ f. f.number) e)))
one_fitted (Err r) (Ok v) e = absurd (numbered r.reason (ap (λ f. f.number) e))
one_fitted (Err r) (Err q) e =
    let n : number_of r.reason ≡ number_of q.reason = ap (λ f. f.number) e in
    let p : r.place ≡ q.place = ap (λ f. f.place) e in
    one_judgement {a = Err r} {b = Err q} (ap₂ refused n p) refl

module _ {K A S : Type 0} (fit : K → A → Answer Card) (ms Ms : K → A → List ℤ) (ms' Ms' : S → List ℤ) where
  abbrev FittingJudged : K → A → Judged → S → Type 0
  FittingJudged κs a x s = Fits (fit κs a) (ms κs a) (Ms κs a) (ms' s) (Ms' s) (fitted_of x)

  fitting_judged : Once FittingJudged × Lent FittingJudged ms' × Lent FittingJudged Ms'
  fitting_judged = ((λ κs a x y s t p q. one_fitted x y (one_fit p q).0), (λ κs a x y s t p q. (one_fit p q).1), λ κs a x y s t p q. (one_fit p q).2)

-- the slopes are lent to be read
module _ {K A S : Type 0} (fit : K → A → Answer Card) (ms Ms : K → A → List ℤ) (Ms' : S → List ℤ) where
  abbrev FittingCurvatures : K → A → Fitted → S → Type 0
  FittingCurvatures κs a x s = Fits (fit κs a) (ms κs a) (Ms κs a) (ms κs a) (Ms' s) x

  fitting_curvatures : Once FittingCurvatures × Lent FittingCurvatures Ms'
  fitting_curvatures = ((λ κs a x y s t p q. (one_fit p q).0), λ κs a x y s t p q. (one_fit p q).2)

module _ {K A S : Type 0} (bytes : K → A → List ℕ) (ms Ms : K → A → List ℤ) (ms' Ms' : S → List ℤ) where
  abbrev Refitting : K → A → Refitted → S → Type 0
  Refitting κs a x s = Refits (bytes κs a) (ms κs a) (Ms κs a) (ms' s) (Ms' s) x

  refitting : Once Refitting × Lent Refitting ms' × Lent Refitting Ms'
  refitting = (
    (λ κs a x y s t p q. one_outcome p.answer q.answer),
    (λ κs a x y s t p q. one_outcome p.slopes q.slopes),
    λ κs a x y s t p q. one_outcome p.curvatures q.curvatures,
  )

module _ {K A S : Type 0} (mend : K → A → Answer Card) (cs : K → A → List Change) (ys ms Ms : K → A → List ℤ) (ys' ms' Ms' : S → List ℤ) where
  abbrev Planning : K → A → Plan → S → Type 0
  Planning κs a x s = Plans (mend κs a) (cs κs a) (ys κs a) (ms κs a) (Ms κs a) (ys' s) (ms' s) (Ms' s) x

  planning : Once Planning × Lent Planning ys' × Lent Planning ms' × Lent Planning Ms'
  planning = (
    (λ κs a x y s t p q. one_outcome p.plan q.plan),
    (λ κs a x y s t p q. one_outcome p.ordinates q.ordinates),
    (λ κs a x y s t p q. one_outcome p.slopes q.slopes),
    λ κs a x y s t p q. one_outcome p.curvatures q.curvatures,
  )

  module _ (list : K → A → List Change) (list' : S → List Change) where
    abbrev Listing : K → A → Mended → S → Type 0
    Listing κs a x s = Mends (mend κs a) (cs κs a) (ys κs a) (ms κs a) (Ms κs a) (list κs a) (ys' s) (ms' s) (Ms' s) (list' s) x

    listing_changes : Once Listing × Lent Listing ys' × Lent Listing ms' × Lent Listing Ms' × Lent Listing list'
    listing_changes = (
      (λ κs a x y s t p q. one_outcome p.answer q.answer),
      (λ κs a x y s t p q. one_outcome p.ordinates q.ordinates),
      (λ κs a x y s t p q. one_outcome p.slopes q.slopes),
      (λ κs a x y s t p q. one_outcome p.curvatures q.curvatures),
      λ κs a x y s t p q. one_outcome p.changes q.changes,
    )

module _ {K A S : Type 0} (words text : K → A → List ℕ) (text' : S → List ℕ) (at : K → A → ℕ) where
  abbrev Putting : K → A → ℕ → S → Type 0
  Putting κs a x s = Put (words κs a) (text κs a) (text' s) (at κs a) x

  putting : Once Putting × Lent Putting text'
  putting = ((λ κs a x y s t p q. (one_put p q).1), λ κs a x y s t p q. (one_put p q).0)

-- what three equal parts make is equal
three : {A B C D : Type 0} (f : A → B → C → D) {a a' : A} {b b' : B} {c c' : C} → a ≡ a' → b ≡ b' → c ≡ c' → f a b c ≡ f a' b' c'
three f p q r = ap₂ (λ g c. g c) (ap₂ f p q) r

one_status : (a b : Status) → byte_of a ≡ byte_of b → a ≡ b
one_status Done Done e = refl
one_status Done Refused e = absurd (omega arith)
one_status Refused Done e = absurd (omega arith)
one_status Refused Refused e = refl

module _ {K A S : Type 0} (reply : K → A → Reply) (to : K → A → List ℕ) (to' card' : S → List ℕ) where
  abbrev Answering : K → A → Answered → S → Type 0
  Answering κs a x s = Answers (reply κs a) (to κs a) (to' s) (card' s) x

  answering : Once Answering × Lent Answering to' × Lent Answering card'
  answering = (
    (λ κs a x y s t p q. three (λ n l c. record { status = n; length = l; card = c }) (one_status x.status y.status (one_outcome p.status q.status)) (one_put p.said q.said).1 (one_outcome p.size q.size)),
    (λ κs a x y s t p q. (one_put p.said q.said).0),
    λ κs a x y s t p q. one_outcome p.card q.card,
  )

module _ {K A S : Type 0} (reply : K → A → Reply) (plan : K → A → Plan) (lines to : K → A → List ℕ) (to' card' : S → List ℕ) where
  abbrev MendingText : K → A → Mending → S → Type 0
  MendingText κs a x s = Mends-text (reply κs a) (plan κs a) (lines κs a) (to κs a) (to' s) (card' s) x

  mending_text : Once MendingText × Lent MendingText to' × Lent MendingText card'
  mending_text =
      let answers = answering reply to to' card' in (
        (λ κs a x y s t p q. three (λ r c l. record { answered = r; plan = c; lines = l }) (answers.0 κs a x.answered y.answered s t p.answers q.answers) (one_outcome p.changes q.changes) (one_outcome p.lines q.lines)),
        (λ κs a x y s t p q. answers.1 κs a x.answered y.answered s t p.answers q.answers),
        λ κs a x y s t p q. answers.2 κs a x.answered y.answered s t p.answers q.answers,
      )

module _ {K A S : Type 0} (rooms : K → A → Answer (List Entry)) (entry : K → A → List ℕ) (exit : S → List ℕ) where
  abbrev PuttingIn : K → A → Used → S → Type 0
  PuttingIn κs a x s = Puts (rooms κs a) (entry κs a) (exit s) x

  putting_in : Once PuttingIn × Lent PuttingIn exit
  putting_in = ((λ κs a x y s t p q. one_outcome p.answer q.answer), λ κs a x y s t p q. one_outcome p.buffer q.buffer)

-- ---- answers, rounding, the mean

pub answer : Once reason-number.Post × Once refusal-number.Post × Once refuse.Post × Once first.Post
answer = (equation _ _, equation _ _, judgement _, judgement _)

-- of a check that answers at each place as a step says, whatever its type
pub answer_each :
    (F : _) (laws : _) (check : _) (d e f g : _) (step : ℕ → Verdict)
    → Once (λ κs a x s. AnswersAs (λ i. check.post a.1.0 (i, tt)) a.0 step × each.Post F laws check d e f g κs a x s)
answer_each F laws check d e f g step κs a x y s t p q = one_judgement (p.1 step p.0) (q.1 step q.0)

pub whole : Once nearest-unsigned.Post × Once nearest.Post
whole = (equation _ _, equation _ _)

pub log : Once mean-refused.Post × Once mean_of.Post
log = (equation _ _, equation _ _)

-- ---- bytes

pub bytes_read : Once read-u16.Post × Once read-i16.Post × Once read-i32.Post
bytes_read = (equation _ _, equation _ _, equation _ _)

-- each writes to its first parameter
pub bytes_written : Lent write-u16.Post (λ s. s.0.now) × Lent write-i16.Post (λ s. s.0.now) × Lent write-i32.Post (λ s. s.0.now)
bytes_written = (equation _ _, equation _ _, equation _ _)

pub records : Once is_at.Post × Once cursor-new.Post × Once cursor-read.Post
records = (equation _ _, (λ κs a x y s t p q. ap (λ n. record { at = n }) (one_outcome p q)), λ κs a x y s t p q. one_found x y (one_outcome p q))

-- ---- checks and readings

pub minutes : Once back.Post × Once on.Post × Once left_gap.Post × Once right_gap.Post × Once wider_gap.Post × Once outside.Post × Once find.Post
minutes = (equation _ _, equation _ _, equation _ _, equation _ _, equation _ _, judgement _, equation _ _)

pub knots : Once kind-quintic.Post × Once kind-sloped.Post × Once same_lengths.Post × Once counted.Post × Once codes.Post × Once sized.Post × Once room.Post × Once stand.Post × Once in_range.Post × Once beyond.Post
knots = (equation _ _, equation _ _, judgement _, judgement _, judgement _, judgement _, judgement _, judgement _, (λ κs a x y s t p q. one_judgement (p [] 0 0) (q [] 0 0)), equation _ _)

pub one_gap : Once mirrored.Post × Once sheet_row.Post × Once weights-of-row.Post × Once weights_of.Post × Once parts-of.Post × Once numerator.Post × Once denominator.Post × Once reading-between.Post
one_gap = (equation _ _, equation _ _, equation _ _, equation _ _, equation _ _, equation _ _, equation _ _, equation _ _)

pub gap_curve : Once curve_of.Post × Once curve_reads.Post × Once curve-value.Post
gap_curve = (equation _ _, equation _ _, equation _ _)

pub two_gaps : Once order-number.Post × Once jump.Post × Once allowance.Post × Once spans-of.Post × Once spans_none.Post × Once meet.Post
two_gaps = (equation _ _, equation _ _, equation _ _, equation _ _, equation _ _, equation _ _)

pub lists : Once numbers_sound.Post × Once sound.Post × Once reading-refused.Post × Once reading-of.Post × Once lists-curve.Post × Once lists-read.Post
lists = (judgement _, judgement _, equation _ _, equation _ _, equation _ _, λ κs a x y s t p q. one_outcome (p 0 0) (q 0 0))

pub knots_of_lists : Once knot_at.Post × Once code_at.Post × Once asks.Post × Once lists-knot.Post × Once lists-spell.Post
knots_of_lists = (equation _ _, equation _ _, equation _ _, equation _ _, equation _ _)

-- ---- cards

pub card_bytes : Once head_due.Post × Once records_due.Post
card_bytes = (judgement _, judgement _)

-- the buffer is the third parameter
pub encode : Lent put_card.Post (λ s. s.1.1.0.now)
encode = equation _ _

-- the lists that a card lends are told by what they hold
pub decode : Once card-none.Post × Once card_of.Post × Leaves card-lent.Post (λ x s. card_lent x)
decode = (equation _ _, equation _ _, equation _ _)

-- the four lists follow the card
pub decode_given : Four (λ s. s.1.0.now) (λ s. s.1.1.0.now) (λ s. s.1.1.1.0.now) (λ s. s.1.1.1.1.0.now) card-give.Post
decode_given = given _ _ _ _ _ _ _ _

-- the lists have no codes, and are told beside the card's
pub opened : Once opened-by-head.Post × Means opened-lists.Post (λ κs a x s. lent x.minutes.now x.ordinates.now x.slopes.now x.curvatures.now a.0.now.left a.0.now.right)
opened = ((λ κs a x y s t. one_opened), meant _ _)

pub card : Once check.Post × Once into.Post × Once reading.Post
card = (equation _ _, judgement _, equation _ _)

pub card_read : Once read.Post × Four (λ s. s.1.0.now) (λ s. s.1.1.0.now) (λ s. s.1.1.1.0.now) (λ s. s.1.1.1.1.0.now) read.Post
card_read = reading_into _ _ _

-- the three lists follow the card and the minute
pub card_tabled : Once table.Post × Lent table.Post (λ s. s.1.1.0.now) × Lent table.Post (λ s. s.1.1.1.0.now) × Lent table.Post (λ s. s.1.1.1.1.0.now)
card_tabled = tabling _ _ _ _

pub card_swung : Once swing-gap.Post × Once swing.Post
card_swung = (equation _ _, equation _ _)

pub card_explained : Once explain.Post × Once explained-sum.Post
card_explained = (with_more _ _ (equation _ _), equation _ _)

pub cubic : Once cubic-entry.Post × Once unknowns-check.Post × Once unknowns-value-at.Post × Once unknowns-at.Post × Once unknown-at.Post × Once preheat-value.Post
cubic = (equation _ _, judgement _, equation _ _, equation _ _, (λ κs a x y s t p q. one_result x y (one_outcome p q)), equation _ _)

-- a refusal stands in each answer beside zeros, whatever the card, its kind or the count
pub refused_answers : Once checked-refused.Post × Once tabled-refused.Post × Once swung-refused.Post × Once explained-refused.Post × Once written-refused.Post × Once preheat-refused.Post × Once refitted-refused.Post
refused_answers = (
  (λ κs a x y s t p q. one_outcome (p quintic no_card) (q quintic no_card)),
  (λ κs a x y s t p q. one_outcome (p 0) (q 0)),
  (λ κs a x y s t p q. one_outcome (p no_card) (q no_card)),
  equation _ _,
  (λ κs a x y s t p q. one_outcome (p 0) (q 0)),
  equation _ _,
  (λ κs a x y s t p q. one_outcome (p no_card) (q no_card)),
)
  where
    no_card : Card
    no_card = lent [] [] [] [] 0 0

-- the buffer is the seventh
pub card_written : Once write.Post × Lent write.Post (λ s. s.1.1.1.1.1.1.0.now)
card_written = writing _ _ _ _

-- here the fifth
pub sloped_card_written : Once write-slopes.Post × Lent write-slopes.Post (λ s. s.1.1.1.1.0.now)
sloped_card_written = writing _ _ _ _

-- ---- a book

-- the list is the first parameter, and the second
pub moved : Lent slide.Post (λ s. s.0.now) × Lent copy-in.Post (λ s. s.1.0.now)
moved = (equation _ _, equation _ _)

-- the part that is handed back is told by its bytes
pub book : Once book-step.Post × Once book-walk.Post × Once used-refused.Post × Once used-of.Post × Once spot-refused.Post × Once book-check.Post × Once book-own.Post × Once book_find.Post × Leaves book-lookup.Post (λ x s. x.now)
book = ((λ κs a x y s t p q. one_step a.1.0 x y (one_outcome p q)), (λ κs a x y s t p q. one_walked x y (one_outcome p q)), equation _ _, equation _ _, equation _ _, equation _ _, judgement _, equation _ _, equation _ _)

-- the buffer is the first parameter
pub put_in_a_book : Once book-put.Post × Lent book-put.Post (λ s. s.0.now)
put_in_a_book = putting_in _ _ _

pub taken_out_of_a_book : Once book-remove.Post × Lent book-remove.Post (λ s. s.0.now)
taken_out_of_a_book = putting_in _ _ _

-- ---- the fit

pub rows : Once row-gap.Post × Once empty-gap.Post × Once equations-of.Post
rows = (equation _ _, equation _ _, equation _ _)

pub matrices : Once block-times-block.Post × Once block-times-pair.Post × Once block-less-block.Post × Once pair-less-pair.Post
matrices = (equation _ _, equation _ _, equation _ _, equation _ _)

pub elimination : Once no_pair.Post × Once start.Post × Once row_back.Post × Once finite.Post × Once finite-pair.Post × Once eliminate.Post × Once judge.Post
elimination = (equation _ _, equation _ _, equation _ _, equation _ _, equation _ _, equation _ _, equation _ _)

pub lines : Once hundredths.Post × Once Line-of.Post × Once line-eliminate.Post × Once line_back.Post
lines = (equation _ _, equation _ _, equation _ _, equation _ _)

pub passes : Once pairs_of.Post × Once units_of.Post × Once scale.Post × Lent write-numbers.Post (λ s. s.0.now)
passes = (with_more _ _ (equation _ _), equation _ _, equation _ _, equation _ _)

pub ends : Once code.Post × Once end_by.Post × Once given-ends.Post
ends = (equation _ _, equation _ _, judgement _)

pub fit_worked_out : Once fitted-judged.Post × Once work_out.Post
fit_worked_out = (equation _ _, (λ κs a x y s t p q. one_work a.0.now a.1.0.now a.1.1.0.now a.1.1.1.0 x y (one_outcome p.0 q.0) p.1 q.1))

-- slopes and curvatures are the third and the fourth parameter
pub fit_behind_codes : Once fit_into.Post × Lent fit_into.Post (λ s. s.1.1.0.now) × Lent fit_into.Post (λ s. s.1.1.1.0.now)
fit_behind_codes = fitting_judged _ _ _ _ _

pub fit_by_kinds : Once fit_between.Post × Lent fit_between.Post (λ s. s.1.1.0.now) × Lent fit_between.Post (λ s. s.1.1.1.0.now)
fit_by_kinds = fitting _ _ _ _ _

pub fit_by_codes : Once fit_codes.Post × Lent fit_codes.Post (λ s. s.1.1.0.now) × Lent fit_codes.Post (λ s. s.1.1.1.0.now)
fit_by_codes = fitting _ _ _ _ _

pub fit_without_ends : Once fit.Post × Lent fit.Post (λ s. s.1.1.0.now) × Lent fit.Post (λ s. s.1.1.1.0.now)
fit_without_ends = fitting _ _ _ _ _

pub fit_to_slopes : Once fit_slopes.Post × Lent fit_slopes.Post (λ s. s.1.1.1.0.now)
fit_to_slopes = fitting_curvatures _ _ _ _

-- here the second and the third
pub fit_anew : Once refit.Post × Lent refit.Post (λ s. s.1.0.now) × Lent refit.Post (λ s. s.1.1.0.now)
fit_anew = refitting _ _ _ _ _

-- ---- holes

pub holes : Once is_hole.Post × Once one_at.Post × Once holes-count.Post × Once bridged.Post × Once filled.Post
holes = (equation _ _, equation _ _, equation _ _, judgement _, equation _ _)

pub plans : Once plan-unchanged.Post × Once plan-len.Post × Once plan-answer.Post
plans = (equation _ _, equation _ _, equation _ _)

-- ordinates, slopes and curvatures follow the minutes
pub mended : Once mend.Post × Lent mend.Post (λ s. s.1.0.now) × Lent mend.Post (λ s. s.1.1.0.now) × Lent mend.Post (λ s. s.1.1.1.0.now)
mended = planning _ _ _ _ _ _ _ _

-- the list is the first parameter
pub list_filled : Lent fill.Post (λ s. s.0.now)
list_filled = equation _ _

-- ---- what the programs read and print

pub gather : Once knot-plain.Post × Once knot-logged.Post × Once gathered-refused.Post × Once gathered-with-knot.Post × Once gathered-close.Post
gather = (equation _ _, equation _ _, equation _ _, equation _ _, equation _ _)

pub sheet : Once asked.Post × Once intake-new.Post × Once intake-done.Post × Once intake-step.Post × Once intake-close.Post × Once sheet-read.Post
sheet = (equation _ _, equation _ _, equation _ _, (λ κs a x y s t p q. one_outcome p.0 q.0), equation _ _, equation _ _)

pub sizes : Once magnitude.Post
sizes = equation _ _

-- the text is the first parameter
pub byte_put : Once put_byte.Post × Lent put_byte.Post (λ s. s.0.now)
byte_put = putting _ _ _ _

pub words_put : Once put-words.Post × Lent put-words.Post (λ s. s.0.now)
words_put = putting _ _ _ _

pub decimal_put : Once put-decimal.Post × Lent put-decimal.Post (λ s. s.0.now)
decimal_put = putting _ _ _ _

pub signed_put : Once put-signed.Post × Lent put-signed.Post (λ s. s.0.now)
signed_put = putting _ _ _ _

pub field_put : Once put-field.Post × Lent put-field.Post (λ s. s.0.now)
field_put = putting _ _ _ _

pub worded_put : Once put-worded.Post × Lent put-worded.Post (λ s. s.0.now)
worded_put = putting _ _ _ _

pub refusal_listed : Once refused_line.Post × Lent refused_line.Post (λ s. s.0.now)
refusal_listed = putting _ _ _ _

pub knot_listed : Once knot_line.Post × Lent knot_line.Post (λ s. s.0.now)
knot_listed = putting _ _ _ _

pub count_listed : Once counted_line.Post × Lent counted_line.Post (λ s. s.0.now)
count_listed = putting _ _ _ _

-- here the second
pub sheet_listed : Once list-sheet.Post × Lent list-sheet.Post (λ s. s.1.0.now)
sheet_listed = putting _ _ _ _

-- what `list` promises of a list of faults: by number, place, minutes, ordinates, slopes, curvatures, that list, and the buffer as it is lent
abbrev ListedBy : Unit {0} → ℕ × ℕ × List ℕ × List ℤ × List ℤ × List ℤ × List (Option ℕ) × List ℕ → ℕ → List ℕ → Type 0
ListedBy κs a x text = Put (listing a.0 a.1 a.2 a.3 a.4 a.5 a.6) a.7 text 0 x

-- it leaves one outcome
pub listed : Once ListedBy × Lent ListedBy (λ text. text)
listed = putting _ _ _ _

-- of each of n knots the function lent answers what a list of faults says
abbrev Says : List (Option ℕ) → (ℕ → Option ℕ → Type 0) → ℕ → Type 0
Says fs answers n = (i : ℕ) → i < n → (faults : Option ℕ) → answers i faults → faults ≡ get_or fs i no_log

-- and it is promised whichever function says the list, and of a refusal whatever the function says
pub listed_by :
    (F : _) (laws : _) (faults : _) (d e f g : _) (fs : List (Option ℕ)) (κs : _) (a : _) (x : ℕ) (s : _)
    → list.Post F laws faults d e f g κs a x s → (a.0 ≡ 0 → Says fs (λ i. faults.post a.1.1.1.1.1.1.0 (i, tt)) (length a.1.1.0.now))
    → ListedBy tt (a.0, a.1.0, a.1.1.0.now, a.1.1.1.0.now, a.1.1.1.1.0.now, a.1.1.1.1.1.0.now, fs, a.1.1.1.1.1.1.1.0.now) x s.1.1.1.1.1.1.1.0.now
listed_by F laws faults d e f g fs κs a x s p says =
    rw (same_faults a.0 a.1.0 a.1.1.0.now a.1.1.1.0.now a.1.1.1.1.0.now a.1.1.1.1.1.0.now p.0 fs (λ z i h. says z i h _ ((p.1 z).1 i h).0)) at p.2

-- of each of n knots there is one answer to how many faults it has
abbrev AnsweredOnce : (ℕ → Option ℕ → Type 0) → ℕ → Type 0
AnsweredOnce answers n = (i : ℕ) → i < n → (faults other : Option ℕ) → answers i faults → answers i other → faults ≡ other

-- whatever function is lent, one outcome is left wherever that is so of what it is asked, and of a refusal always: result and buffer, the eighth parameter, as a pair
pub listed_as_told :
    (F : _) (laws : _) (faults : _) (d e f g : _)
    → Leaves (λ κs a x s. (a.0 ≡ 0 → AnsweredOnce (λ i. faults.post a.1.1.1.1.1.1.0 (i, tt)) (length a.1.1.0.now)) × list.Post F laws faults d e f g κs a x s) {B = ℕ × List ℕ} (λ x s. (x, s.1.1.1.1.1.1.1.0.now))
listed_as_told F laws faults d e f g κs a x y s t p q =
    let same = same_faults a.0 a.1.0 a.1.1.0.now a.1.1.1.0.now a.1.1.1.1.0.now a.1.1.1.1.1.0.now p.1.0 q.1.0 (λ z i h. p.0 z i h _ _ ((p.1.1 z).1 i h).0 ((q.1.1 z).1 i h).0) in
    let one = one_put (rw same at p.1.2) q.1.2 in
    ap₂ (λ n text. (n, text)) one.1 one.0

-- ---- what the command reads and says

-- a part of a text is told by its bytes
pub split : Once split-stop.Post × Leaves split-until.Post (λ x s. x.now) × Leaves Split-from.Post (λ x s. x.now) × Leaves split-past.Post (λ x s. x.now) × Leaves line_at_lem.Post (λ x s. x.now)
split = (equation _ _, equation _ _, equation _ _, equation _ _, equation _ _)

pub numeral : Once wrong-number.Post × Once starts.Post × Once plain.Post × Once natural.Post × Once ordinate.Post × Once signed.Post
numeral = (equation _ _, equation _ _, equation _ _, equation _ _, equation _ _, equation _ _)

pub text : Leaves bare_line.Post (λ x s. x.now) × Leaves blamed.Post (λ x s. x.now) × Leaves log_name.Post (λ x s. x.now) × Once text-read.Post
text = (equation _ _, equation _ _, equation _ _, equation _ _)

pub values : Once values-read.Post × Leaves value-blamed.Post (λ x s. x.now)
values = (equation _ _, equation _ _)

-- the buffer is the first parameter
pub sentence_put : Once put-sentence.Post × Lent put-sentence.Post (λ s. s.0.now)
sentence_put = putting _ _ _ _

pub refusal_told : Once refusal-said.Post × Lent refusal-said.Post (λ s. s.0.now)
refusal_told = putting _ _ _ _

pub value_told : Once value-said.Post × Lent value-said.Post (λ s. s.0.now)
value_told = putting _ _ _ _

pub wrong_told : Once wrong-said.Post × Lent wrong-said.Post (λ s. s.0.now)
wrong_told = putting _ _ _ _

pub mended_told : Once mended-said.Post × Lent mended-said.Post (λ s. s.0.now)
mended_told = putting _ _ _ _

pub line_told : Once reply-line.Post × Once status-byte.Post
line_told = (equation _ _, equation _ _)

-- the buffers for what is said and for the card are the sixth and the seventh
pub reply : Once reply-answer.Post × Lent reply-answer.Post (λ s. s.1.1.1.1.1.0.now) × Lent reply-answer.Post (λ s. s.1.1.1.1.1.1.0.now)
reply = answering _ _ _ _

-- here the fourth and the fifth
pub reply_mended : Once reply-mend.Post × Lent reply-mend.Post (λ s. s.1.1.1.0.now) × Lent reply-mend.Post (λ s. s.1.1.1.1.0.now)
reply_mended = mending_text _ _ _ _ _ _

-- the text is the second
pub card_listed : Once list-card.Post × Lent list-card.Post (λ s. s.1.0.now)
card_listed = (
  (λ κs a x y s t p q. ap₂ (λ v l. record { verdict = v; length = l }) (one_judgement p.1 q.1) (one_put p.0 q.0).1),
  λ κs a x y s t p q. (one_put p.0 q.0).0,
)

-- ---- the boundary: the parameters stand as in the functions behind it

pub boundary_version : Once c-version.Post
boundary_version = equation _ _

pub boundary : Once c-mean.Post × Once c-check.Post × Once c-reading.Post × Once c-swing.Post × Once c-explain.Post × Once c-preheat.Post
boundary = (with_more _ _ (equation _ _), with_more _ _ (equation _ _), equation _ _, equation _ _, equation _ _, equation _ _)

pub boundary_fit : Once c-fit.Post × Lent c-fit.Post (λ s. s.1.1.0.now) × Lent c-fit.Post (λ s. s.1.1.1.0.now)
boundary_fit = fitting _ _ _ _ _

pub boundary_fit_ends : Once c-fit-ends.Post × Lent c-fit-ends.Post (λ s. s.1.1.0.now) × Lent c-fit-ends.Post (λ s. s.1.1.1.0.now)
boundary_fit_ends = fitting _ _ _ _ _

pub boundary_fit_slopes : Once c-fit-slopes.Post × Lent c-fit-slopes.Post (λ s. s.1.1.1.0.now)
boundary_fit_slopes = fitting_curvatures _ _ _ _

pub boundary_read : Once c_read.Post × Four (λ s. s.1.0.now) (λ s. s.1.1.0.now) (λ s. s.1.1.1.0.now) (λ s. s.1.1.1.1.0.now) c_read.Post
boundary_read = reading_into _ _ _

pub boundary_written : Once c-write.Post × Lent c-write.Post (λ s. s.1.1.1.1.1.1.0.now)
boundary_written = let w = writing _ _ _ _ in (with_more _ _ w.0, with_more _ _ w.1)

pub boundary_sloped_written : Once c-write-slopes.Post × Lent c-write-slopes.Post (λ s. s.1.1.1.1.0.now)
boundary_sloped_written = let w = writing _ _ _ _ in (with_more _ _ w.0, with_more _ _ w.1)

pub boundary_tabled : Once c-table.Post × Lent c-table.Post (λ s. s.1.1.0.now) × Lent c-table.Post (λ s. s.1.1.1.0.now) × Lent c-table.Post (λ s. s.1.1.1.1.0.now)
boundary_tabled = tabling _ _ _ _

pub boundary_refit : Once c-refit.Post × Lent c-refit.Post (λ s. s.1.0.now) × Lent c-refit.Post (λ s. s.1.1.0.now)
boundary_refit = refitting _ _ _ _ _

pub boundary_found : Once c-book-find.Post
boundary_found = equation _ _

pub boundary_put_in : Once c-book-put.Post × Lent c-book-put.Post (λ s. s.0.now)
boundary_put_in = let w = putting_in _ _ _ in (with_more _ _ w.0, with_more _ _ w.1)

pub boundary_taken_out : Once c-book-remove.Post × Lent c-book-remove.Post (λ s. s.0.now)
boundary_taken_out = let w = putting_in _ _ _ in (with_more _ _ w.0, with_more _ _ w.1)

-- the list of changes is the last
pub boundary_mended :
    Once c-mend.Post × Lent c-mend.Post (λ s. s.1.0.now) × Lent c-mend.Post (λ s. s.1.1.0.now) × Lent c-mend.Post (λ s. s.1.1.1.0.now)
    × Lent c-mend.Post (λ s. s.1.1.1.1.0.now)
boundary_mended = listing_changes _ _ _ _ _ _ _ _ _ _
