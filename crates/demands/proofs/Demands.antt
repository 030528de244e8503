-- The page holds: each demand, of every call of the functions of the boundary, by their promises.
-- Assumes nothing.
use mathlib.Core.Path.{◌≡◌, refl, sym, ap, ap₂, subst, ◌∙◌}
use mathlib.Core.Logic.{◌≢◌}
use mathlib.Core.List.{List, []}
use Prim.Native.Nat.{ℕ}
use borrow.Author.Tests.{eq-eqb}
use lib.IntN.{ℤ}
use lib.ListN.{length}
use Rattle.answer.specs.Answer.{Answer, accepted, ◌then◌, refuse, number, place}
use Rattle.answer.proofs.Never.{given_never}
use Rattle.answer.proofs.Steps.{first_accepts, next_accepts, accepts_refuse}
use Rattle.curve.specs.Kind.{quintic, sloped}
use Rattle.card_bytes.specs.Held.{card_of}
use Rattle.card_bytes.specs.Records.{kind_by}
use Rattle.card_bytes.proofs.ByHead.{known_by, accepted_count}
use Rattle.card.specs.Answers.{own, read_off}
use Rattle.table.specs.Promise.{table_verdict, Tables}
use Rattle.swing.specs.Swing.{swung}
use Rattle.explain.specs.Explain.{explain}
use Rattle.book.specs.Lookup.{look_up, part}
use Rattle.exact_fit.proofs.Solution.{one_exact}
use Rattle.curve.specs.Card.{knots}
use Rattle.curve.specs.Steps.{lengths, codes}
use Rattle.curve.proofs.Accepted.{same_lengths}
use Rattle.knots.specs.Lent.{lent}
use Rattle.exists.specs.Sound.{Sound}
use Rattle.slope_fit.specs.SlopesFit.{standing}
use Rattle.sloped.specs.Sloped as Sloped
use Rattle.sloped.proofs.Sloped.{one_solution, within_two}
use Rattle.demands.specs.Calls.{AFit, AFitBetween, AFitSlopes, without_ends, between_ends, by_slopes, sloped_card, buffer, ACheck, checked_bytes, read_bytes, places, reading_bytes, minute, ATable, table_bytes, from, lists_for, lists_for', swing_bytes, explained_bytes, explained_minute, heat_values, heat_parts, heat_count, first_minute, log, sheet_minutes, sheet, ABookFind, the_book, the_room, the_part, ABookPut, put_book, put_book', put_room, put_card, ABookRemove, out_book, out_book', out_room, AChange, by_put, by_removal, changed_book, changed_book', changed_room}
use Rattle.demands.specs.Demands.{FitSays, Off, before_8_of_slopes, Demand1, Demand2, Demand3, Demands}
use Rattle.fit.proofs.Numbered.{codes_numbered}
use Rattle.demands.proofs.Numbered.{accepts}
use Rattle.demands.proofs.Jobs.{slope_places}
use Rattle.demands.proofs.Writers.{promises, known_writer, same_head}
use Rattle.demands.proofs.Answered.{mean_answers, fit_says, curvatures_spared, fit_spares, check_answers, read_answers, read_spares, write_answers, write_spares, reading_answers, table_answers, table_spares, swing_answers, refit_answers, refit_spares}
use Rattle.demands.proofs.Given.{eliminates, mean_given}
use Rattle.demands.proofs.FitToCard.{default_rests, default_is_kept, between_is_kept, sloped_passes, kept, read_back}
use Rattle.demands.proofs.Anew.{fresh_eliminates, fresh_is_kept}
use Rattle.demands.proofs.MendedSheet.{mend_answers, mend_spares, mend_eliminates, one_mended_solution, mended_is_kept, mend_lists, mend_put_back}
use Rattle.demands.proofs.Books.{find_answers, part_is, part_passes, handed_back, find_never, removes_never, puts_never}
use Rattle.demands.proofs.Changing.{change_answers, change_spares, change_leaves_a_book, others_cards, others_found}
use Rattle.demands.proofs.Sequences.{is_found, is_gone, by_bytes_in_use, freed_is_used, put_and_out, history}
use Rattle.demands.proofs.RoundTrip.{written_accepted, written_held, written_headed, accepted_as, accepts_its_card, reads_its_card, made_again}
use Rattle.demands.proofs.Off.{stands_on_a_gap, of_card, within_2, flat_ends, close, at_knots, looks, gap_left, on_its_card, in_table, table_counted}
use Rattle.demands.proofs.Swung.{swings}
use Rattle.demands.proofs.Explaining.{explain_answers, explain_zeros, explain_no_reason, explain_why, explain_names, explain_fits, explain_made}
use Rattle.demands.proofs.Heated.{preheat_answers, preheat_zeros, preheats}
use Rattle.demands.proofs.NeverTen.{codes_never, written_never, checked_never, read_never, read_off_never, table_never, fitted_never, mended_never, refitted_never}

-- ---- 1

fits : (c : AFit) → FitSays (without_ends c)
fits c = fit_says (without_ends c) given_never c.promised

fits_between : (c : AFitBetween) → FitSays (between_ends c)
fits_between c = fit_says (between_ends c) (codes_numbered quintic _ _) c.promised

fits_to_slopes : (c : AFitSlopes) → FitSays (by_slopes c)
fits_to_slopes c = fit_says (by_slopes c) given_never c.promised

one : Demand1
one =
    record {
      mean = λ c. (mean_answers (first_minute c) (log c) c.promised.0).0;
      mean_zeros = λ c. (mean_answers (first_minute c) (log c) c.promised.0).1;
      fit = fits;
      fit_between = fits_between;
      fit_slopes = fits_to_slopes;
      fit_spares = λ c. fit_spares (without_ends c) given_never c.promised (λ d e. slope_places _ _ _ _ _ _ _ e);
      fit_between_spares = λ c. fit_spares (between_ends c) (codes_numbered quintic _ _) c.promised (λ d e. slope_places _ _ _ _ _ _ _ e);
      fit_slopes_spares = λ c. curvatures_spared (by_slopes c) given_never c.promised;
      write = λ w. (write_answers (promises w).0).0;
      write_zeros = λ w. (write_answers (promises w).0).1;
      write_spares = λ w. write_spares (promises w).0;
      check = λ c. (check_answers (checked_bytes c) c.promised.0).0;
      check_zeros = λ c. (check_answers (checked_bytes c) c.promised.0).1;
      read = λ c. (read_answers c.promised).0;
      read_zeros = λ c. (read_answers c.promised).1;
      read_spares = λ c. read_spares c.promised;
      reading = λ c. (reading_answers (reading_bytes c) (minute c) c.promised).0;
      reading_zeros = λ c. (reading_answers (reading_bytes c) (minute c) c.promised).1;
      table = λ c. (table_answers c.promised).0;
      table_zeros = λ c. (table_answers c.promised).1;
      table_spares = λ c. table_spares c.promised;
      swing = λ c. (swing_answers (swing_bytes c) c.promised).0;
      swing_zeros = λ c. (swing_answers (swing_bytes c) c.promised).1;
      explain = λ c. explain_answers (explained_bytes c) (explained_minute c) c.promised;
      explain_zeros = λ c. explain_zeros (explained_bytes c) (explained_minute c) c.promised;
      explain_no_reason = λ c. explain_no_reason (explained_bytes c) (explained_minute c) c.promised;
      preheat = λ c. preheat_answers (heat_values c) (heat_parts c) (heat_count c) c.promised;
      preheat_zeros = λ c. preheat_zeros (heat_values c) (heat_parts c) (heat_count c) c.promised;
      refit = λ c. (refit_answers c.promised).0;
      refit_zeros = λ c. (refit_answers c.promised).1;
      refit_spares = λ c. refit_spares c.promised;
      mend = λ c. (mend_answers c).0;
      mend_zeros = λ c. (mend_answers c).1;
      mend_spares = mend_spares;
      book_find = λ c. (find_answers (the_room c) (the_book c) c.promised).0;
      book_find_zeros = λ c. (find_answers (the_room c) (the_book c) c.promised).1;
      book_change = λ c. (change_answers c).0;
      book_change_zeros = λ c. (change_answers c).1;
      book_change_spares = change_spares;
    }

-- ---- 2

-- bytes that the card test accepts
tested : (c : ACheck) → c.answer.number ≡ 0 → own (checked_bytes c) ≡ accepted
tested c zero = accepts (check_answers (checked_bytes c) c.promised.0).0 zero

-- what a search in a book answers is fixed by what is looked up
finds : (f : ABookFind) {v : Answer (List ℕ)} → look_up (the_room f) (the_book f) ≡ v → (f.answer.number ≡ number v) × (f.answer.place ≡ place v) × (the_part f ≡ part v)
finds f e =
    let s = one.book_find f in
    (s.number ∙ ap number e, s.place ∙ ap place e, part_is (the_room f) (the_book f) f.promised ∙ ap part e)

found_again : (p : ABookPut) (f : ABookFind) → p.answer.number ≡ 0 → the_book f ≡ put_book' p → the_room f ≡ put_room p → (f.answer.number ≡ 0) × (the_part f ≡ put_card p)
unfolding number part
found_again p f zero same room =
    let w = finds f (ap₂ look_up room same ∙ is_found p zero) in
    (w.0, w.2)

gone : (c : ABookRemove) (f : ABookFind) → c.answer.number ≡ 0 → the_book f ≡ out_book' c → the_room f ≡ out_room c → (f.answer.number ≡ 20) × (f.answer.place ≡ 0)
unfolding number place
gone c f zero same room =
    let w = finds f (ap₂ look_up room same ∙ is_gone c zero) in
    (w.0, w.1)

found_as_before : (c : AChange) (f g : ABookFind) → the_book f ≡ changed_book c → the_book g ≡ changed_book' c → the_room g ≡ the_room f → the_room f ≢ changed_room c
    → (g.answer.number ≡ f.answer.number) × (g.answer.place ≡ f.answer.place) × (the_part g ≡ the_part f)
found_as_before c f g same same' room other =
    let e = ap₂ look_up room same' ∙ others_found c (the_room f) other ∙ ap (look_up (the_room f)) (sym same) in
    let w = finds g e in
    let v = finds f refl in
    (w.0 ∙ sym v.0, w.1 ∙ sym v.1, w.2 ∙ sym v.2)

two : Demand2
two =
    record {
      fit = λ c zero. eliminates (without_ends c) c.promised ((fits c).accepts zero);
      fit_between = λ c zero. eliminates (between_ends c) c.promised ((fits_between c).accepts zero);
      fit_slopes = λ c zero. eliminates (by_slopes c) c.promised ((fits_to_slopes c).accepts zero);
      fit_rests = λ c zero. default_rests c ((fits c).accepts zero);
      fitted_is_kept = λ c zero. default_is_kept c ((fits c).accepts zero);
      between_is_kept = λ c zero. between_is_kept c ((fits_between c).accepts zero);
      sloped_is_kept = λ c zero. kept (sloped_card c) (sloped_passes c ((fits_to_slopes c).accepts zero));
      refit = fresh_eliminates;
      fresh_is_kept = fresh_is_kept;
      mend = mend_eliminates;
      mended_is_kept = mended_is_kept;
      mend_lists = mend_lists;
      mend_put_back = mend_put_back;
      mean = λ c zero. mean_given (first_minute c) (log c) c.promised.0 c.promised.1 ((mean_answers (first_minute c) (log c) c.promised.0).0.accepts zero);
      check_tells = λ c zero. accepted_as (kind_by (checked_bytes c)) (card_of (checked_bytes c)) c.promised.0 (tested c zero);
      read_tells = λ r zero. accepted_as (kind_by (read_bytes r)) (card_of (read_bytes r)) r.promised.answer (accepts (read_answers r.promised).0 zero);
      written_is_checked = λ w c zero same.
          let p = promises w in
          let known = known_writer w in
          accepts_its_card (checked_bytes c) (written_headed p.0 known p.1 zero same) (written_held p.0 known p.1 zero same) c.promised.0 (written_accepted p.0 known p.1 zero same);
      written_is_read = read_back;
      checked_is_written = λ c r w zero told same read-zero again long.
          let s = checked_bytes c in
          let is = accepted_as (kind_by s) (card_of s) c.promised.0 (tested c zero) in
          made_again s c.promised.1 (tested c zero) (same_head (known_writer w) (known_by s) (told ∙ is.kind))
          (again ∙ reads_its_card r.promised (accepts (read_answers r.promised).0 read-zero) ∙ ap card_of same) (promises w).0 long;
      change_leaves_a_book = change_leaves_a_book;
      put_is_found = found_again;
      removed_is_gone = gone;
      hands_back = handed_back;
      cards_stay = others_cards;
      others_as_before = found_as_before;
      put_by_bytes_in_use = by_bytes_in_use;
      freed_is_used = freed_is_used;
      put_and_out = put_and_out;
      history = λ empty calls f same. finds f (ap (look_up (the_room f)) same ∙ history empty calls (the_room f));
    }

-- ---- 3

-- a table of these bytes
table_of : (t : ATable) {s : List ℕ} → table_bytes t ≡ s → Tables s (from t) (lists_for t) (lists_for' t) t.answer
table_of t same = subst (λ s. Tables s (from t) (lists_for t) (lists_for' t) t.answer) same t.promised

table_accepted : (t : ATable) {s : List ℕ} → table_bytes t ≡ s → t.answer.number ≡ 0 → table_verdict (lists_for t) s (from t) ≡ accepted
table_accepted t same zero = accepts (table_answers (table_of t same)).0 zero

off : (s : List ℕ) → own s ≡ accepted → Off s
off s a =
    record {
      gaps = stands_on_a_gap (card_of s) (accepted_count s a).some;
      close = λ r same h. close s a (minute r) h (r.promised ∙ ap (λ s. read_off s (minute r)) same);
      at_knots = λ r same i l there. at_knots s a i l (r.promised ∙ ap₂ read_off same there);
      looks = λ r same h. looks s a (minute r) h (r.promised ∙ ap (λ s. read_off s (minute r)) same);
      gap_left = gap_left s a;
      tables = λ t same zero i l.
          let tables = table_of t same in
          let v = table_accepted t same zero in
          (on_its_card s a tables v i l, λ r again there. in_table s a tables v i l (r.promised ∙ ap₂ read_off again there));
      table_counts = λ t same zero. table_counted s a (table_of t same) (table_accepted t same zero);
      swings = λ w same. swings s a (w.promised ∙ ap (λ s. swung (own s) (card_of s)) same);
      explains = λ c same h. explain_made s (explained_minute c) a h (c.promised ∙ ap (λ s. explain s (explained_minute c)) same);
      jumps = (of_card s a).jumps;
      within_2 = within_2 s a;
      flat_ends = flat_ends s a;
    }

no_codes : codes sloped 0 0 ≡ accepted
unfolding codes sloped refuse ◌then◌
no_codes = refl

-- a sheet with slopes that the fit to them does not refuse before 8 has one exact solution
slopes_solution : (xs : List ℕ) (ys ms : List ℤ) → before_8_of_slopes xs ys ms ≡ accepted → Sloped.OneSolution (lent xs ys ms [] 0 0)
unfolding standing lengths knots
slopes_solution xs ys ms e =
    let n = length xs in
    let rest = next_accepts (lengths n (length ys) (length ms) n) _ e in
    let long = same_lengths n (length ys) (length ms) n (first_accepts _ _ e) in
    let sound : Sound sloped (lent xs ys ms [] 0 0) = record {
      same_length = accepts_refuse 3 0 (rw (long.0, eq-eqb n n refl));
      few_and_many = first_accepts _ _ rest;
      coded = no_codes;
      each_stands = first_accepts _ _ (next_accepts _ _ rest);
    } in
    one_solution (lent xs ys ms [] 0 0) sound

three : Demand3
three =
    record {
      off = λ c zero. off (checked_bytes c) (tested c zero);
      explain_why = λ c. explain_why (explained_bytes c) (explained_minute c) c.promised;
      explain_names = λ c k same.
          explain_names (explained_bytes c) (explained_minute c) c.promised
          ((one.check k).number ∙ ap (λ s. number (own s)) same) ((one.check k).place ∙ ap (λ s. place (own s)) same);
      explain_fits = λ c. explain_fits (explained_bytes c) (explained_minute c) c.promised;
      preheats = λ c. preheats (heat_values c) (heat_parts c) (heat_count c) c.promised;
      found_off = λ c zero. off (the_part c) (part_passes (the_room c) (the_book c) c.promised zero);
      write_never_10 = λ w half e. written_never (known_writer w) half (length (buffer w)) (sym (one.write w).number ∙ e);
      check_never_10 = λ c half e. checked_never (checked_bytes c) half (sym (one.check c).number ∙ e);
      read_never_10 = λ c half e. read_never (read_bytes c) half (places c) (sym (one.read c).number ∙ e);
      reading_never_10 = λ c half e. read_off_never (reading_bytes c) half (minute c) (sym (one.reading c).number ∙ e);
      table_never_10 = λ c half e. table_never (table_bytes c) half (lists_for c) (from c) (sym (one.table c).number ∙ e);
      swing_never_10 = λ c half e. checked_never (swing_bytes c) half (sym (one.swing c).number ∙ e);
      explain_never_10 = λ c half e. read_off_never (explained_bytes c) half (explained_minute c) (sym (one.explain c).number ∙ e);
      book_find_never_10 = λ c half e. find_never (the_room c) (the_book c) half (sym (one.book_find c).number ∙ e);
      book_put_never_10 = λ c half e. puts_never (put_room c) (put_card c) (put_book c) half (sym (one.book_change (by_put c)).number ∙ e);
      book_remove_never_10 = λ c e. removes_never (out_room c) (out_book c) (sym (one.book_change (by_removal c)).number ∙ e);
      fit_never_10 = λ c half e. fitted_never (without_ends c) given_never half (sym (fits c).number ∙ e);
      fit_between_never_10 = λ c half e. fitted_never (between_ends c) (codes_never quintic _ _) half (sym (fits_between c).number ∙ e);
      fit_slopes_never_10 = λ c half e. fitted_never (by_slopes c) given_never half (sym (fits_to_slopes c).number ∙ e);
      mend_never_10 = λ c half e. mended_never (sheet_minutes c) (sheet c) _ _ _ half (sym (one.mend c).number ∙ e);
      refit_never_10 = λ c half fresh e. refitted_never c half fresh (sym (one.refit c).number ∙ e);
      exact_solution = one_exact;
      slopes_solution = slopes_solution;
      sloped_within_2 = λ c zero. within_two (sloped_card c) (sloped_passes c ((fits_to_slopes c).accepts zero));
      mended_solution = one_mended_solution;
    }

pub hold : Demands
hold = record { one = one; two = two; three = three }
