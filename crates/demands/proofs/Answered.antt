-- Demand 1 of each function: what its answer says, what it has beside a refusal, and what it leaves in the lists that it was lent.
-- Assumes nothing.
use Prim.Native.Nat.{ℕ, ◌+◌, ◌≤◌}
use mathlib.Core.Path.{◌≡◌, refl, sym, ap, subst, ◌∙◌}
use mathlib.Core.Logic.{◌≢◌}
use mathlib.Core.List.{List, [], ◌++◌}
use native.Mathlib.Omega.{arith}
use lib.IntN.{ℤ, pos}
use lib.ListN.{length, drop, length-append, length-drop}
use lib.Seq.{drop_at, drop-length}
use Rattle.answer.specs.Answer.{Answer, refused, given, Verdict, accepted, number, place}
use Rattle.answer.specs.Lent.{lent_after}
use Rattle.answer.proofs.Never.{Never}
use Rattle.front.specs.Front.{listed}
use Rattle.front.proofs.Listed.{length_listed}
use Rattle.answer.proofs.Steps.{first_accepts, next_accepts}
use Rattle.curve.specs.Kind.{Kind}
use Rattle.curve.specs.Card.{Card, knots}
use Rattle.curve.specs.Log as Log
use Rattle.curve.specs.Reading.{Reading}
use Rattle.curve.specs.Steps.{size}
use Rattle.curve.specs.Orders.{write_order, reading_order}
use Rattle.curve.proofs.Accepted.{Good}
use Rattle.log_mean.specs.declared.Mean.{Mean}
use Rattle.log_mean.specs.Answers as Log-answers
use Rattle.minutes.specs.Search.{found}
use Rattle.lists.specs.declared.CardReading.{CardReading}
use Rattle.lists.specs.Lists as Lists-answers
use Rattle.fit.specs.Promise.{Fits, slopes_after, curvatures_after}
use Rattle.card_bytes.specs.Bytes.{bytes_of}
use Rattle.card_bytes.specs.Held.{card_of}
use Rattle.card_bytes.specs.Records.{kind_by}
use Rattle.card_bytes.proofs.Sizes.{length_card}
use Rattle.card_bytes.proofs.ByHead.{accepted_good}
use Rattle.card.specs.declared.Checked.{Checked}
use Rattle.card.specs.Answers.{own, checked, read_off}
use Rattle.card.specs.Promise.{Lists, into, Reads}
use Rattle.table.specs.declared.Tabled.{Tabled}
use Rattle.table.specs.Table.{count, tabled}
use Rattle.table.specs.Promise.{Columns, table_verdict, rows, Tables}
use Rattle.table.proofs.Tables.{took}
use Rattle.table.proofs.Readings.{count_is}
use Rattle.swing.specs.declared.Swung.{Swung}
use Rattle.swing.specs.Swing.{swung}
use Rattle.card.proofs.Lists.{Taken, order_takes, taken}
use Rattle.writer.specs.declared.Written.{Written}
use Rattle.writer.specs.Promise.{written, Writes}
use Rattle.writer.proofs.Ready.{has_room}
use Rattle.refit.specs.declared.Refitted.{Refitted}
use Rattle.refit.specs.Fresh.{fresh, refit}
use Rattle.refit.specs.Promise.{refitted, after, Refits}
use Rattle.refit.proofs.Renewal.{fresh_places}
use Rattle.demands.specs.Calls.{Fitting, the_fit}
use Rattle.demands.specs.Demands.{IsGiven, Says, Spares, NoCard, NoSwing, FitSays, FitSpares}
use Rattle.demands.proofs.Jobs.{named_by, fit_by_numbered, curvature_places}
use Rattle.demands.proofs.Numbered.{says, accepts, mean_numbered, write_numbered, card_numbered, into_numbered, reading_numbered, table_numbered, refit_numbered}

-- ---- lent lists

-- vs over the front of a list keeps its length and what stands behind
pub over_front : {A : Type 0} (vs entry : List A) {exit : List A} {k : ℕ} → exit ≡ vs ++ drop (length vs) entry → length vs ≡ k → k ≤ length entry
    → (length exit ≡ length entry) × (drop k exit ≡ drop k entry)
over_front vs entry {k = k} is e room = (
  ap length is ∙ simp (length-append, length-drop) (omega arith),
  ap (drop k) is ∙ drop_at vs _ k e ∙ ap (λ i. drop i entry) e,
)

untouched : {A : Type 0} (v : Verdict) (vs list : List A) → v ≢ accepted → lent_after v vs list ≡ list
unfolding lent_after
untouched (refused n p) vs list h = refl
untouched (given u) vs list h = absurd (h refl)

-- the front of a list is written where its verdict accepts
pub spares : {A : Type 0} {v : Verdict} {n p k : ℕ} (vs entry : List A) {exit : List A} → Says v n p → exit ≡ lent_after v vs entry
    → (v ≡ accepted → (length vs ≡ k) × (k ≤ length entry)) → Spares n k entry exit
unfolding lent_after
spares {v = v} {k = k} vs entry {exit} s e room =
    record { refused = λ h. e ∙ untouched v vs entry (λ a. h (s.accepted (record { what = tt; is = a }))); given = λ z. front (accepts s z) }
  where
    front : v ≡ accepted → (length exit ≡ length entry) × (drop k exit ≡ drop k entry)
    front a = over_front vs entry (e ∙ ap (λ u. lent_after u vs entry) a) (room a).0 (room a).1

-- ---- the mean of a log

-- zeros beside a refusal
abbrev pub NoMean : Mean → Type 0
NoMean r = r.number ≢ 0 → (r.minute ≡ 0) × (r.ordinate ≡ pos 0) × (r.good ≡ 0) × (r.faults ≡ 0)

mean_fields : (v : Answer Log.Mean) → (let r = Log-answers.answered v in (r.number ≡ number v) × (r.place ≡ place v) × NoMean r)
unfolding Log-answers.answered number place
mean_fields (refused n p) = (refl, refl, λ h. (refl, refl, refl, refl))
mean_fields (given m) = (refl, refl, λ h. absurd (h refl))

pub mean_answers : (first : ℕ) (log : List ℕ) {r : Mean} → r ≡ Log-answers.answered (Log.mean first log) → Says (Log.mean first log) r.number r.place × NoMean r
mean_answers first log e =
    let v = Log.mean first log in
    let f = mean_fields v in
    subst (λ r. Says v r.number r.place × NoMean r) (sym e) (says v (mean_numbered first log) f.0 f.1, f.2)

-- ---- a fit

-- nothing stands behind the n places of a list
behind : (l : List ℤ) {n : ℕ} → length l ≡ n → drop n l ≡ []
behind l e = rw (← e) (drop-length l)

-- every place of a list is written where the answer gives a card, or none
pub spares_all : {v : Answer Card} {n p k : ℕ} {entry exit : List ℤ} → Says v n p → (after : Answer Card → List ℤ → List ℤ) → exit ≡ after v entry → ((n p : ℕ) → after (refused n p) entry ≡ entry)
    → ((c : Card) → v ≡ given c → (length (after (given c) entry) ≡ k) × (length entry ≡ k)) → Spares n k entry exit
spares_all {v} {n} {p} {k} {entry} {exit} s after e none all = record { refused = λ h. e ∙ go v refl h; given = λ z. written (s.accepts z) }
  where
    go : (w : Answer Card) → v ≡ w → n ≢ 0 → after w entry ≡ entry
    go (refused m q) is h = none m q
    go (given c) is h = absurd (h (s.accepted (record { what = c; is = is })))

    written : IsGiven v → (length exit ≡ length entry) × (drop k exit ≡ drop k entry)
    written g =
        let l = all g.what g.is in
        let long : length exit ≡ k = ap length (e ∙ ap (λ v. after v entry) g.is) ∙ l.0 in
        (long ∙ sym l.1, behind exit long ∙ sym (behind entry l.1))

module _ (f : Fitting) (named : Never 0 (named_by f.job)) (fits : Fits (the_fit f) f.slopes f.curvatures f.slopes' f.curvatures' f.answer) where
  pub fit_says : FitSays f
  fit_says =
      says (the_fit f) (fit_by_numbered f.job f.minutes f.ordinates _ _ named) (ap (λ r. r.number) fits.answer) (ap (λ r. r.place) fits.answer)

  pub curvatures_spared : Spares f.answer.number (length f.minutes) f.curvatures f.curvatures'
  curvatures_spared = spares_all fit_says curvatures_after fits.curvatures (λ n p. refl) (λ c is. curvature_places f.minutes f.ordinates _ _ f.job is)

  pub fit_spares : ((c : Card) → the_fit f ≡ given c → (length c.slopes ≡ length f.minutes) × (length f.slopes ≡ length f.minutes)) → FitSpares f
  fit_spares lent = (spares_all fit_says slopes_after fits.slopes (λ n p. refl) lent, curvatures_spared)

-- ---- a card

card_fields : (v : Verdict) (K : Kind) (c : Card) → (let r = checked v K c in (r.number ≡ number v) × (r.place ≡ place v) × NoCard r)
unfolding checked number place
card_fields (refused n p) K c = (refl, refl, λ h. (refl, refl, refl, refl))
card_fields (given u) K c = (refl, refl, λ h. absurd (h refl))

card_answers : (v : Verdict) (K : Kind) (c : Card) {r : Checked} → Never 0 v → r ≡ checked v K c → Says v r.number r.place × NoCard r
card_answers v K c n e = let f = card_fields v K c in subst (λ r. Says v r.number r.place × NoCard r) (sym e) (says v n f.0 f.1, f.2)

pub check_answers : (s : List ℕ) {r : Checked} → r ≡ checked (own s) (kind_by s) (card_of s) → Says (own s) r.number r.place × NoCard r
check_answers s e = card_answers (own s) (kind_by s) (card_of s) (card_numbered s) e

module _ {s : List ℕ} {entry exit : Lists} {r : Checked} (reads : Reads s entry exit r) where
  pub read_answers : Says (into entry s) r.number r.place × NoCard r
  read_answers = card_answers (into entry s) (kind_by s) (card_of s) (into_numbered entry s) reads.answer

  counts : into entry s ≡ accepted → knots (card_of s) ≡ r.knots
  unfolding checked
  counts a = sym (ap (λ r. r.knots) (reads.answer ∙ ap (λ v. checked v (kind_by s) (card_of s)) a))

  holds : into entry s ≡ accepted → Good (kind_by s) (card_of s)
  holds a = accepted_good s (taken entry s a).own

  pub read_spares :
      Spares r.number r.knots entry.minutes exit.minutes
      × Spares r.number r.knots entry.ordinates exit.ordinates
      × Spares r.number r.knots entry.slopes exit.slopes
      × Spares r.number r.knots entry.curvatures exit.curvatures
  unfolding knots
  read_spares = (
    spares _ _ says reads.minutes (λ a. (counts a, omega (arith, counts a, (taken entry s a).room))),
    spares _ _ says reads.ordinates (λ a. ((holds a).ys ∙ counts a, omega (arith, counts a, (taken entry s a).room, (taken entry s a).ordinates))),
    spares _ _ says reads.slopes (λ a. ((holds a).ms ∙ counts a, omega (arith, counts a, (taken entry s a).room, (taken entry s a).slopes))),
    spares _ _ says reads.curvatures (λ a. ((holds a).Ms ∙ counts a, omega (arith, counts a, (taken entry s a).room, (taken entry s a).curvatures))),
  )
    where
      says : Says (into entry s) r.number r.place
      says = read_answers.0

-- ---- the writer

module _ {K : Kind} {c : Card} {entry exit : List ℕ} {r : Written} (writes : Writes K c entry exit r) where
  write_fields : (v : Verdict) (k : ℕ) → (let r = written v k in (r.number ≡ number v) × (r.place ≡ place v) × (r.number ≢ 0 → r.bytes ≡ 0))
  unfolding written number place
  write_fields (refused n p) k = (refl, refl, λ h. refl)
  write_fields (given u) k = (refl, refl, λ h. absurd (h refl))

  pub write_answers : Says (write_order K c (length entry)) r.number r.place × (r.number ≢ 0 → r.bytes ≡ 0)
  write_answers =
      let v = write_order K c (length entry) in
      let f = write_fields v (size (knots c)) in
      subst (λ r. Says v r.number r.place × (r.number ≢ 0 → r.bytes ≡ 0)) (sym writes.answer) (says v (write_numbered K c (length entry)) f.0 f.1, f.2)

  pub long_as_the_card : write_order K c (length entry) ≡ accepted → r.bytes ≡ size (knots c)
  unfolding written
  long_as_the_card a = ap (λ r. r.bytes) (writes.answer ∙ ap (λ v. written v (size (knots c))) a)

  pub write_spares : Spares r.number r.bytes entry exit
  write_spares =
      spares (bytes_of K c) entry write_answers.0 writes.buffer
      (λ a. (length_card K c ∙ sym (long_as_the_card a), omega (arith, long_as_the_card a, has_room K c (length entry) a)))

-- ---- a reading

abbrev pub NoReading : CardReading → Type 0
NoReading r = r.number ≢ 0 → (r.value ≡ pos 0) × (r.slope ≡ pos 0) × (r.curvature ≡ pos 0) × (r.looks ≡ 0)

reading_fields : (looks : ℕ) (v : Answer Reading) → (let r = Lists-answers.answered looks v in (r.number ≡ number v) × (r.place ≡ place v) × NoReading r)
unfolding number place
reading_fields looks (refused n p) = (refl, refl, λ h. (refl, refl, refl, refl))
reading_fields looks (given m) = (refl, refl, λ h. absurd (h refl))

pub reading_answers : (s : List ℕ) (minute : ℕ) {r : CardReading} → r ≡ read_off s minute → Says (reading_order (own s) (card_of s) minute) r.number r.place × NoReading r
unfolding read_off Lists-answers.answer_at
reading_answers s minute e =
    let v = reading_order (own s) (card_of s) minute in
    let f = reading_fields (found (card_of s).minutes minute).looks v in
    subst (λ r. Says v r.number r.place × NoReading r) (sym e) (says v (reading_numbered s minute) f.0 f.1, f.2)

-- ---- a table

module _ {s : List ℕ} {from : ℕ} {entry exit : Columns} {r : Tabled} (tables : Tables s from entry exit r) where
  table_fields : (v : Verdict) (k : ℕ) → (let r = tabled v k in (r.number ≡ number v) × (r.place ≡ place v) × (r.number ≢ 0 → r.count ≡ 0))
  unfolding tabled number place
  table_fields (refused n p) k = (refl, refl, λ h. refl)
  table_fields (given u) k = (refl, refl, λ h. absurd (h refl))

  pub table_answers : Says (table_verdict entry s from) r.number r.place × (r.number ≢ 0 → r.count ≡ 0)
  table_answers =
      let v = table_verdict entry s from in
      let f = table_fields v (rows entry s from) in
      subst (λ r. Says v r.number r.place × (r.number ≢ 0 → r.count ≡ 0)) (sym tables.answer) (says v (table_numbered entry s from) f.0 f.1, f.2)

  pub table_spares :
      Spares r.number r.count entry.values exit.values
      × Spares r.number r.count entry.slopes exit.slopes
      × Spares r.number r.count entry.curvatures exit.curvatures
  unfolding rows count
  table_spares = (
    spares _ _ table_answers.0 tables.values (λ a. (long _ a, omega (arith, count_is tables a))),
    spares _ _ table_answers.0 tables.slopes (λ a. (long _ a, omega (arith, count_is tables a, (took entry s from a).slopes))),
    spares _ _ table_answers.0 tables.curvatures (λ a. (long _ a, omega (arith, count_is tables a, (took entry s from a).curvatures))),
  )
    where
      long : (f : ℕ → ℤ) → table_verdict entry s from ≡ accepted → length (listed f (rows entry s from)) ≡ r.count
      long f a = length_listed f (rows entry s from) ∙ sym (count_is tables a)

-- ---- a swing

swing_fields : (v : Verdict) (c : Card) → (let r = swung v c in (r.number ≡ number v) × (r.place ≡ place v) × NoSwing r)
unfolding swung number place
swing_fields (refused n p) c = (refl, refl, λ h. (refl, refl, refl, refl))
swing_fields (given u) c = (refl, refl, λ h. absurd (h refl))

pub swing_answers : (s : List ℕ) {r : Swung} → r ≡ swung (own s) (card_of s) → Says (own s) r.number r.place × NoSwing r
swing_answers s e =
    let f = swing_fields (own s) (card_of s) in
    subst (λ r. Says (own s) r.number r.place × NoSwing r) (sym e) (says (own s) (card_numbered s) f.0 f.1, f.2)

-- ---- a card fitted anew

abbrev pub NoRefit : Refitted → Type 0
NoRefit r = r.number ≢ 0 → (r.knots ≡ 0) × (r.changed ≡ 0)

refit_fields : (c : Card) (v : Answer Card) → (let r = refitted c v in (r.number ≡ number v) × (r.place ≡ place v) × NoRefit r)
unfolding refitted number place
refit_fields c (refused n p) = (refl, refl, λ h. (refl, refl))
refit_fields c (given d) = (refl, refl, λ h. absurd (h refl))

module _ {s : List ℕ} {ms Ms ms' Ms' : List ℤ} {r : Refitted} (refits : Refits s ms Ms ms' Ms' r) where
  abbrev order : Answer Card
  order = refit (length ms) (length Ms) s

  pub refit_answers : Says order r.number r.place × NoRefit r
  refit_answers =
      let f = refit_fields (card_of s) order in
      subst (λ r. Says order r.number r.place × NoRefit r) (sym refits.answer) (says order (refit_numbered (length ms) (length Ms) s) f.0 f.1, f.2)

  -- what an acceptance leaves: the order of lent lists, and the fresh fit
  module _ {d : Card} (e : order ≡ given d) where
    pub refit_takes : Taken (length ms) (length ms) (length ms) (length Ms) s
    unfolding refit
    refit_takes = order_takes _ _ _ _ s (first_accepts _ _ e)

    pub refit_fits : fresh (kind_by s) (card_of s) ≡ given d
    unfolding refit
    refit_fits = next_accepts _ _ e

    pub refit_counts : knots (card_of s) ≡ r.knots
    unfolding refitted
    refit_counts = sym (ap (λ r. r.knots) (refits.answer ∙ ap (refitted (card_of s)) e))

  spares_front : (numbers : Card → List ℤ) {entry exit : List ℤ} → exit ≡ after order numbers entry
      → ((d : Card) → order ≡ given d → (length (numbers d) ≡ knots (card_of s)) × (knots (card_of s) ≤ length entry)) → Spares r.number r.knots entry exit
  unfolding after
  spares_front numbers {entry} {exit} e room = record { refused = λ h. e ∙ go order refl h; given = λ z. front (refit_answers.0.accepts z) }
    where
      go : (v : Answer Card) → order ≡ v → r.number ≢ 0 → after v numbers entry ≡ entry
      go (refused n p) is h = refl
      go (given d) is h = absurd (h (refit_answers.0.accepted (record { what = d; is = is })))

      front : IsGiven order → (length exit ≡ length entry) × (drop r.knots exit ≡ drop r.knots entry)
      front g =
          let l = room g.what g.is in
          over_front (numbers g.what) entry (e ∙ ap (λ v. after v numbers entry) g.is) (l.0 ∙ refit_counts g.is) (omega (arith, l.1, refit_counts g.is))

  pub refit_spares : Spares r.number r.knots ms ms' × Spares r.number r.knots Ms Ms'
  refit_spares = (
    spares_front (λ d. d.slopes) refits.slopes (λ d e. ((fresh_places (kind_by s) (card_of s) (refit_fits e)).0, (refit_takes e).room)),
    spares_front (λ d. d.curvatures) refits.curvatures (λ d e. ((fresh_places (kind_by s) (card_of s) (refit_fits e)).1, omega (arith, (refit_takes e).room, (refit_takes e).curvatures))),
  )
