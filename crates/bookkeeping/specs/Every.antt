-- What holds of every room of a list. Assumes nothing.
use Rattle.std.specs.Prelude.{◌<◌, ◌^◌, List, [], ◌∷◌}
use Rattle.book.specs.Book.{Entry}

pub data Every (P : Entry → Type 0) : List Entry → Type 0 where
  nil : Every P []
  cons : {e : Entry} {es : List Entry} → P e → Every P es → Every P (e ∷ es)

-- "a two-byte room number"
abbrev pub TwoBytes : Entry → Type 0
TwoBytes e = e.room < 2 ^ 16
