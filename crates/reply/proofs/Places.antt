-- The numbers whose line is looked up by their place are those whose place the sentences call a knot, and a log's; and a log is refused with no other than these.
-- Assumes nothing.
use Prim.Native.Nat.{ℕ, zero, suc}
use mathlib.Core.Path.{◌≡◌, refl}
use mathlib.Core.Bool.{Bool, true, false, not, ◌&&◌, ◌||◌}
use mathlib.Core.List.{List}
use lib.ListN.{length}
use Rattle.answer.specs.Answer.{Answer, refused, given, Verdict, ◌then◌, refuse, each}
use Rattle.curve.specs.Log.{long, readable, some_good, half_good, reachable, mean}
use Rattle.decimal.specs.Decimal.{spelled}
use Rattle.words.specs.declared.Table.TheVariants.{Places}
use Rattle.words.specs.Sentences.{sentence}
use Rattle.numeral.specs.Number.{starts}
use Rattle.reply.specs.Reply.{of_a_log, of_a_knot}

abbrev same : Bool → Bool → Bool
same true b = b
same false b = not b

-- of the numbers below n; no other place begins with this letter
abbrev alike : ℕ → Bool
alike zero = true
alike (suc n) = same (of_a_knot n) (of_a_log n || starts 107 (sentence Places n)) && alike n

pub knots_alike : alike 28 ≡ true
unfolding spelled sentence starts
knots_alike = refl

abbrev OfALog : {A : Type 0} → Answer A → Type 0
OfALog (refused n p) = of_a_log n ≡ true
OfALog (given a) = Unit {0}

log_step : {A : Type 0} (v : Verdict) (b : Answer A) → OfALog v → OfALog b → OfALog (v then b)
unfolding ◌then◌
log_step (refused n p) b h k = h
log_step (given u) b h k = k

log_refuse : (n p : ℕ) (test : Bool) → of_a_log n ≡ true → OfALog (refuse n p test)
unfolding refuse
log_refuse n p true h = h
log_refuse n p false h = tt

log_bytes : (log : List ℕ) (i k : ℕ) → OfALog (each (readable log) i k)
unfolding each readable
log_bytes log i zero = tt
log_bytes log i (suc k) = log_step _ _ (log_refuse 12 i _ refl) (log_bytes log (suc i) k)

pub no_other_of_a_log : (first : ℕ) (log : List ℕ) → OfALog (mean first log)
unfolding mean long some_good half_good reachable
no_other_of_a_log first log =
    log_step _ _ (log_refuse 16 0 _ refl)
    (log_step _ _ (log_bytes log 0 (length log)) (log_step _ _ (log_refuse 13 0 _ refl) (log_step _ _ (log_refuse 23 0 _ refl) (log_step _ _ (log_refuse 19 0 _ refl) tt))))
