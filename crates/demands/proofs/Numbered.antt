-- No order of document 01 refuses with the number 0, so that 0 is answered exactly where it accepts.
-- Assumes nothing.
use Prim.Native.Nat.{ℕ}
use mathlib.Core.Path.{◌≡◌, refl, sym, ap, ◌∙◌}
use mathlib.Core.List.{List}
use lib.Dec.{lit<}
use lib.ListN.{length}
use Rattle.answer.specs.Answer.{Answer, refused, given, Verdict, accepted, number, place}
use Rattle.answer.proofs.Never.{Never, given_never, never_then, never_each, numbered_refuse}
use Rattle.curve.specs.Kind.{Kind}
use Rattle.curve.specs.Card.{Card, knots}
use Rattle.curve.specs.Log.{long, readable, some_good, half_good, reachable, mean}
use Rattle.curve.specs.Steps.{outside, room}
use Rattle.curve.specs.Orders.{sound, verdict, card_order, lists_order, write_order, reading_order}
use Rattle.fit.proofs.Numbered.{lengths_numbered, counted_numbered, codes_numbered, stands_numbered, numbers_numbered}
use Rattle.card_bytes.specs.Held.{card_of}
use Rattle.card_bytes.specs.Records.{due, head_due, knot_due, end_due, records_due, kind_by, card_verdict}
use Rattle.card.specs.Answers.{own}
use Rattle.card.specs.Promise.{Lists, into}
use Rattle.table.specs.Table.{table_order}
use Rattle.table.specs.Promise.{Columns, table_verdict}
use Rattle.refit.specs.Fresh.{refit}
use Rattle.refit.proofs.Renewal.{fresh_numbered}
use Rattle.demands.specs.Demands.{IsGiven, Says}

-- ---- steps

sound_numbered : (K : Kind) (c : Card) → Never 0 (sound K c)
unfolding sound
sound_numbered K c = never_then (never_each 0 _ 0 (knots c) (λ i l. stands_numbered K c.minutes c.ordinates i)) (numbers_numbered K c)

room_numbered : (needed lent : ℕ) → Never 0 (room needed lent)
unfolding room
room_numbered needed lent = numbered_refuse 26 0 _ (lit< tt)

-- ---- orders

pub mean_numbered : (first : ℕ) (log : List ℕ) → Never 0 (mean first log)
unfolding mean long readable some_good half_good reachable
mean_numbered first log =
    never_then (numbered_refuse 16 0 _ (lit< tt))
    (never_then (never_each 0 _ 0 (length log) (λ i l. numbered_refuse 12 i _ (lit< tt)))
    (never_then (numbered_refuse 13 0 _ (lit< tt)) (never_then (numbered_refuse 23 0 _ (lit< tt)) (never_then (numbered_refuse 19 0 _ (lit< tt)) given_never))))

pub write_numbered : (K : Kind) (c : Card) (lent : ℕ) → Never 0 (write_order K c lent)
unfolding write_order verdict
write_numbered K c lent =
    never_then (never_then (lengths_numbered _ _ _ _) (never_then (counted_numbered K _) (never_then (codes_numbered K _ _) (sound_numbered K c)))) (room_numbered _ _)

pub card_numbered : (s : List ℕ) → Never 0 (own s)
unfolding card_verdict card_order head_due records_due knot_due end_due due
card_numbered s =
    let c = card_of s in
    let K = kind_by s in
    never_then (numbered_refuse 14 0 _ (lit< tt))
    (never_then (counted_numbered K (knots c))
    (never_then (codes_numbered K c.left c.right)
    (never_then (never_then (never_each 0 _ 0 (knots c) (λ i l. numbered_refuse 14 _ _ (lit< tt))) (never_then (numbered_refuse 14 _ _ (lit< tt)) (numbered_refuse 14 _ _ (lit< tt))))
    (sound_numbered K c))))

lists_numbered : (xs ys ms Ms : ℕ) (s : List ℕ) → Never 0 (lists_order xs ys ms Ms (own s) (knots (card_of s)))
unfolding lists_order
lists_numbered xs ys ms Ms s = never_then (lengths_numbered _ _ _ _) (never_then (card_numbered s) (room_numbered _ _))

pub into_numbered : (l : Lists) (s : List ℕ) → Never 0 (into l s)
unfolding into
into_numbered l s = lists_numbered _ _ _ _ s

pub refit_numbered : (ms Ms : ℕ) (s : List ℕ) → Never 0 (refit ms Ms s)
unfolding refit
refit_numbered ms Ms s = never_then (lists_numbered _ _ _ _ s) (fresh_numbered (kind_by s) (card_of s))

pub reading_numbered : (s : List ℕ) (minute : ℕ) → Never 0 (reading_order (own s) (card_of s) minute)
unfolding reading_order outside
reading_numbered s minute = never_then (card_numbered s) (never_then (numbered_refuse 11 0 _ (lit< tt)) given_never)

pub table_numbered : (l : Columns) (s : List ℕ) (from : ℕ) → Never 0 (table_verdict l s from)
unfolding table_verdict table_order outside
table_numbered l s from = never_then (lengths_numbered _ _ _ _) (never_then (card_numbered s) (numbered_refuse 11 0 _ (lit< tt)))

-- ---- what an answer with an order's number says

number_given : {A : Type 0} {v : Answer A} → IsGiven v → number v ≡ 0
unfolding number
number_given g = rw g.is

given_of : {A : Type 0} (v : Answer A) → Never 0 v → number v ≡ 0 → IsGiven v
unfolding number
given_of (refused n p) h e = absurd (h.never p (ap (λ k. refused k p) e))
given_of (given a) h e = record { what = a; is = refl }

pub says : {A : Type 0} (v : Answer A) {n p : ℕ} → Never 0 v → n ≡ number v → p ≡ place v → Says v n p
says v h e f = record { number = e; place = f; accepts = λ z. given_of v h (sym e ∙ z); accepted = λ g. e ∙ number_given g }

pub accepts : {n p : ℕ} {v : Verdict} → Says v n p → n ≡ 0 → v ≡ accepted
accepts s z = (s.accepts z).is
