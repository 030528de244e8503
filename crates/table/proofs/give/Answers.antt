-- `table::give` meets its contract: the lists are the card's.
-- Assumes nothing.
use Rattle.std.proofs.Common.{ℕ, ℤ, List, ◌≡◌, ◌+◌, ◌≤◌, ap, subst, arith, length}
use Rattle.answer.specs.Answer.{accepted}
use Rattle.curve.specs.Kind.{quintic}
use Rattle.curve.specs.Card.{Card, knots, knot}
use Rattle.curve.specs.Reading.{reads_at, spell}
use Rattle.curve.specs.Orders.{reading_order}
use Rattle.curve.proofs.Gap.{in_card}
use Rattle.knots.specs.Lent.{lent}
use Rattle.lists.specs.declared.CardReading.{CardReading}
use Rattle.lists.specs.Lists.{answer_at}
use Rattle.decode.specs.Decoded.{decoded}
use Rattle.table.specs.Table.{minutes_left, count}
use Rattle.table.specs.Promise.{Columns, Given}
use Rattle.table.proofs.give.Goals as goal
use Rattle.table.proofs.give.Goals.{After-lists-lists}

minutes_are : (c : After-lists-lists) → c.lists-lists.result.minutes.now ≡ (decoded c.args.card.now).minutes
minutes_are c = ap (λ (k : Card). k.minutes) c.lists-lists.ensures

few : (c : After-lists-lists) → 3 ≤ length c.lists-lists.result.minutes.now
unfolding knots quintic
few c = rw (minutes_are c) c.requires.readable.some

pub count-count-requires : goal.count-count-requires
count-count-requires c =
    let l = (goal.at.count-count-requires c).After-lists-lists in
    record { xs_nonzero = omega (arith, few l); from_bound = rw (minutes_are l) (in_card _ _ c.requires.from_value).1 }

pub fill-requires : goal.fill-requires
unfolding count minutes_left
fill-requires c =
    let l = (goal.at.fill-requires c).After-lists-lists in
    let n = c.count-count.ensures in
    let inside = rw (← minutes_are l) at (in_card _ _ c.requires.from_value) in
    record { in_bounds = (omega (arith, few l), inside.0, omega (arith, n.0, inside.1)); count_in_bounds = (omega (arith, n.0), omega (arith, n.0), omega (arith, n.0)) }

-- a reading asks nothing of the codes
read_alike : {xs : List ℕ} {ys ms cs : List ℤ} {left right : ℕ} {card : Card} → lent xs ys ms cs left right ≡ card → (m : ℕ) → answer_at accepted (lent xs ys ms cs 0 0) m ≡ answer_at accepted card m
unfolding answer_at reading_order reads_at spell knot
read_alike e m = ap (λ k. answer_at accepted k m) e

given_alike : {f g : ℕ → CardReading} {n : ℕ} {l l' : Columns} → ((i : ℕ) → f i ≡ g i) → Given f n l l' → Given g n l l'
given_alike {f} {g} {n} {l} {l'} e h = subst (λ f. Given f n l l') (λ j i. e i j) h

pub returns : goal.returns
returns c =
    let l = (goal.at.returns c).After-lists-lists in
    record {
      value = rw (minutes_are l) at c.count-count.ensures;
      given = given_alike (λ i. read_alike c.lists-lists.ensures (c.args.from + i)) c.fill.ensures;
    }
