-- What a lent list holds afterwards: document 01, "Numbers of refusal". "On acceptance only the card's bytes or n places are written"; a refusal "writes to no lent list".
-- Assumes nothing.
use Rattle.std.specs.Prelude.{List, ◌++◌, length, drop}
use Rattle.answer.specs.Answer.{refused, given, Verdict}

-- vs over the front of the list
unfoldable pub lent_after : {A : Type 0} → Verdict → List A → List A → List A
lent_after (refused n p) vs list = list
lent_after (given u) vs list = vs ++ drop (length vs) list
