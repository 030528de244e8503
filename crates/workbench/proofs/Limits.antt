-- The most bytes of a book, as the sentences of 14 and 21 name them, and the limits of a pre-heater's table, as
-- those of 1, 24 and 25 do, are the definitions'. It stands here, where both are known: `words` stands on no book
-- and no table. Computed; assumes nothing.
use Prim.Native.Nat.{◌+◌}
use mathlib.Core.Path.{◌≡◌, refl}
use mathlib.Core.List.{◌++◌}
use Rattle.decimal.specs.Decimal.{spelled, digits, worded}
use Rattle.words.specs.declared.Table.TheVariants.{Refusals, Remedies}
use Rattle.words.specs.Sentences.{sentence}
use Rattle.curve.specs.Kind.{quintic}
use Rattle.book.specs.Book.{most}
use Rattle.cubic.specs.Cubic.{most_values}
use Rattle.preheat.specs.Preheat.{fewest_parts, most_parts}
use Rattle.values.specs.Values.{most as most-read}

pub most_of_a_book :
    (sentence Refusals 21 ≡ worded "book would be over " most ++ spelled " bytes, or over the lent buffer")
    × (sentence Remedies 14 ≡ worded "the file is damaged there, or is another kind of file, or a book of more than " most ++ spelled " bytes; of a card in a book the bytes count from the card's first")
unfolding spelled digits sentence
most_of_a_book = (refl, refl)

-- what is read of a table is one value more than it may have
pub of_a_table :
    (sentence Remedies 1 ≡ worded "give more logs; a pre-heater's table has " quintic.fewest_knots ++ worded " to " most_values ++ spelled " values")
    × (sentence Refusals 24 ≡ worded "more than " most_values ++ spelled " values")
    × (sentence Remedies 24 ≡ worded "a pre-heater's table has " quintic.fewest_knots ++ worded " to " most_values ++ spelled " values: leave some out, or make two tables")
    × (sentence Refusals 25 ≡ worded "step has not " fewest_parts ++ worded " to " most_parts ++ spelled " parts")
    × (sentence Remedies 25 ≡ worded "ask for " fewest_parts ++ worded " to " most_parts ++ spelled " parts to a step of the pre-heater's table")
    × (most-read ≡ most_values + 1)
unfolding spelled digits sentence quintic
of_a_table = (refl, refl, refl, refl, refl, refl)
