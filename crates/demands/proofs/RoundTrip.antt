-- Demand 2 of cards: what was written is accepted as of its kind and read back, and accepted bytes are those
-- that the writer of their kind makes of what the reader gives.
-- Assumes nothing.
use Prim.Native.Nat.{ℕ, ◌≤◌}
use mathlib.Core.Path.{◌≡◌, refl, sym, ap, ap₂, subst, ◌∙◌}
use mathlib.Core.List.{List, ◌++◌}
use native.Mathlib.Omega.{arith}
use lib.ListN.{length, take, drop}
use lib.Seq.{take_at}
use borrow.Author.Tests.{le-ltb, eq-eqb}
use Rattle.answer.specs.Answer.{Verdict, accepted}
use Rattle.answer.specs.Lent.{lent_after}
use Rattle.answer.proofs.Steps.{first_accepts, both_accept, accepts_refuse}
use Rattle.little_endian.specs.Numbers.{Bytes}
use Rattle.curve.specs.Kind.{Kind}
use Rattle.curve.specs.Card.{Card, knots}
use Rattle.curve.specs.Steps.{lengths, size, room}
use Rattle.curve.specs.Orders.{lists_order, write_order}
use Rattle.card_bytes.specs.Bytes.{bytes_of}
use Rattle.card_bytes.specs.Held.{card_of}
use Rattle.card_bytes.specs.Records.{kind_by, Known}
use Rattle.card_bytes.proofs.Sizes.{length_card}
use Rattle.card_bytes.proofs.RoundTrip.{written_again, accepted_card, accepted_size}
use Rattle.card_bytes.proofs.ByHead.{ReadBack, read_back, accepted_good}
use Rattle.card.specs.declared.Checked.{Checked}
use Rattle.card.specs.Answers.{own, checked}
use Rattle.card.specs.Promise.{Lists, into, Reads}
use Rattle.card.proofs.Lists.{taken}
use Rattle.writer.specs.declared.Written.{Written}
use Rattle.writer.specs.Promise.{written, Writes}
use Rattle.kaihveto.specs.Types.{Minutes}
use Rattle.demands.specs.Demands.{AcceptsAs, RoomFor, front}
use Rattle.demands.proofs.Numbers.{typed}
use Rattle.demands.proofs.Numbered.{accepts}
use Rattle.demands.proofs.Answered.{write_answers, long_as_the_card}

-- ---- what the writer leaves

module _ {K : Kind} {c : Card} {entry exit : List ℕ} {w : Written} (writes : Writes K c entry exit w) where
  -- the front of the buffer is the card's bytes
  pub writes_bytes : write_order K c (length entry) ≡ accepted → take w.bytes exit ≡ bytes_of K c
  unfolding lent_after
  writes_bytes a =
      let is : exit ≡ bytes_of K c ++ drop (length (bytes_of K c)) entry = writes.buffer ∙ ap (λ v. lent_after v (bytes_of K c) entry) a in
      ap (take w.bytes) is ∙ take_at (bytes_of K c) _ w.bytes (length_card K c ∙ sym (long_as_the_card writes a))

  module _ (known : Known K) (minutes : Minutes c.minutes) (zero : w.number ≡ 0) {s : List ℕ} (same : s ≡ take w.bytes exit) where
    wrote : write_order K c (length entry) ≡ accepted
    wrote = accepts (write_answers writes).0 zero

    returned : ReadBack known c
    unfolding write_order
    returned = let v = first_accepts _ _ wrote in read_back known c (typed known c v minutes) v

    -- the card test accepts them, as of their kind, and they hold the card
    pub written_accepted : own s ≡ accepted
    written_accepted = ap own (same ∙ writes_bytes wrote) ∙ returned.accepts

    pub written_held : card_of s ≡ c
    written_held = ap card_of (same ∙ writes_bytes wrote) ∙ returned.card

    pub written_headed : kind_by s ≡ K
    written_headed = ap kind_by (same ∙ writes_bytes wrote) ∙ returned.kind

-- ---- what an acceptance gives

pub accepted_as : (K : Kind) (c : Card) {v : Verdict} {r : Checked} → r ≡ checked v K c → v ≡ accepted → AcceptsAs K c r
unfolding checked
accepted_as K c e a =
    let is = e ∙ ap (λ v. checked v K c) a in
    record { number = ap (λ r. r.number) is; knots = ap (λ r. r.knots) is; left = ap (λ r. r.left) is; right = ap (λ r. r.right) is; kind = ap (λ r. r.kind) is }

pub accepts_its_card : (s : List ℕ) {K : Kind} {c : Card} {v : Verdict} {r : Checked} → kind_by s ≡ K → card_of s ≡ c → r ≡ checked v (kind_by s) (card_of s) → v ≡ accepted → AcceptsAs K c r
accepts_its_card s {K} {r = r} k h e a = subst (λ c. AcceptsAs K c r) h (subst (λ K. AcceptsAs K (card_of s) r) k (accepted_as (kind_by s) (card_of s) e a))

module _ {s : List ℕ} {entry exit : Lists} {r : Checked} (reads : Reads s entry exit r) where
  -- with room for them the lists take an accepted card
  pub takes : own s ≡ accepted → RoomFor (knots (card_of s)) entry → into entry s ≡ accepted
  unfolding into lists_order lengths room
  takes a h =
      both_accept (accepts_refuse 3 0 (rw (h.ordinates, h.slopes, h.curvatures, eq-eqb (length entry.minutes) (length entry.minutes) refl)))
      (both_accept a (accepts_refuse 26 0 (le-ltb _ _ h.minutes)))

  -- their fronts are the card
  pub reads_its_card : into entry s ≡ accepted → front r.knots exit r.left r.right ≡ card_of s
  unfolding lent_after knots
  reads_its_card a =
      let c = card_of s in
      let is = accepted_as (kind_by s) c reads.answer a in
      let g = accepted_good s (taken entry s a).own in
      let xs = ap (take r.knots) (reads.minutes ∙ ap (λ v. lent_after v c.minutes entry.minutes) a) ∙ take_at c.minutes _ r.knots (sym is.knots) in
      let ys = ap (take r.knots) (reads.ordinates ∙ ap (λ v. lent_after v c.ordinates entry.ordinates) a) ∙ take_at c.ordinates _ r.knots (g.ys ∙ sym is.knots) in
      let ms = ap (take r.knots) (reads.slopes ∙ ap (λ v. lent_after v c.slopes entry.slopes) a) ∙ take_at c.slopes _ r.knots (g.ms ∙ sym is.knots) in
      let Ms = ap (take r.knots) (reads.curvatures ∙ ap (λ v. lent_after v c.curvatures entry.curvatures) a) ∙ take_at c.curvatures _ r.knots (g.Ms ∙ sym is.knots) in
      λ i. record { minutes = xs i; ordinates = ys i; slopes = ms i; curvatures = Ms i; left = is.left i; right = is.right i }

-- ---- accepted bytes, written again

module _ (s : List ℕ) (bytes : Bytes s) (a : own s ≡ accepted) {K : Kind} {c : Card} (headed : K ≡ kind_by s) (same : c ≡ card_of s) {entry exit : List ℕ} {w : Written}
    (writes : Writes K c entry exit w) (long : length s ≤ length entry) where
  writes_again : write_order K c (length entry) ≡ accepted
  unfolding write_order room
  writes_again =
      rw (headed, same)
      (both_accept (accepted_card (kind_by s) s a) (accepts_refuse 26 0 (le-ltb (length entry) (size (knots (card_of s))) (omega (arith, accepted_size (kind_by s) s a)))))

  pub made_again : (w.number ≡ 0) × (take w.bytes exit ≡ s)
  unfolding written
  made_again = (
    ap (λ w. w.number) (writes.answer ∙ ap (λ v. written v (size (knots c))) writes_again),
    writes_bytes writes writes_again ∙ ap₂ bytes_of headed same ∙ sym (written_again (kind_by s) s a bytes),
  )
