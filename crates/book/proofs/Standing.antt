-- What stands at an offset of a book: the tests by their facts and the facts by their tests, and what a step tells its caller. Document 02, order 3.
-- Assumes nothing.
use Prim.Native.Nat.{ℕ, ◌+◌, ◌-◌, ◌≤◌, ◌<◌}
use mathlib.Core.Path.{◌≡◌, refl, sym, ap, ◌∙◌}
use mathlib.Core.Bool.{Bool, true, false, cond, and-eq-true_iff}
use mathlib.Core.List.{List}
use native.Mathlib.Omega.{arith}
use lib.ListN.{length, take, drop, length-drop}
use lib.Seq.{length-take-le}
use lib.Dec.{leb}
use borrow.Author.Tests.{le-leb, lt-leb, leb-true}
use Rattle.answer.specs.Answer.{Answer, refused, given}
use Rattle.little_endian.specs.Numbers.{num_at}
use Rattle.record.specs.Record.{is_at}
use Rattle.record.proofs.Records.{standing}
use Rattle.book.specs.Book.{long, most, next, closes, holds, entry_at}
use Rattle.book.specs.Steps.{Standing, room, close, step_of, step_at}
use Rattle.book.specs.declared.Step.{Step}
use Rattle.book.specs.declared.Step.TheVariants.{Room, Close, Wrong}

-- a number and values belong to one step only, so that a promise of them leaves one outcome
pub one_step : (at : ℕ) (a b : Step) → step_of at a ≡ step_of at b → a ≡ b
one_step at (Room r n) (Room q m) e = cc
one_step at (Room r n) Close e = cc
one_step at (Room r n) Wrong e = cc
one_step at Close (Room r n) e = cc
one_step at Close Close e = refl
one_step at Close Wrong e = cc
one_step at Wrong (Room r n) e = cc
one_step at Wrong Close e = cc
one_step at Wrong Wrong e = refl

module _ (s : List ℕ) (at : ℕ) where
  -- ---- a closing record

  pub record Closes : Type 0 where
    pub is : is_at s at 3 0 ≡ true
    pub inside : at + 4 ≤ length s
    pub within : at + 4 ≤ most

  pub closing : closes s at ≡ true → Closes
  unfolding closes
  closing t =
      let p = (and-eq-true_iff _ _).0 t in
      record { is = p.0; inside = (standing s at 3 0 p.0).whole; within = leb-true _ _ p.1 }

  pub closes_within : is_at s at 3 0 ≡ true → leb (at + 4) most ≡ closes s at
  unfolding closes
  closes_within t = rw t

  pub none_closes : is_at s at 3 0 ≡ false → false ≡ closes s at
  unfolding closes
  none_closes t = rw t

  -- ---- a room's record

  pub record Holds : Type 0 where
    pub inside : next s at ≤ length s
    pub two : 2 ≤ num_at 2 s at
    pub within : next s at ≤ most
    pub kind : num_at 2 s (at + 2) ≡ 5

  pub holding : holds s at ≡ true → Holds
  unfolding holds
  holding t =
      let p = (and-eq-true_iff _ _).0 t in
      let q = (and-eq-true_iff _ _).0 p.1 in
      let h = standing s at 5 (num_at 2 s at) p.0 in
      record { inside = h.whole; two = leb-true _ _ q.0; within = leb-true _ _ q.1; kind = h.has_kind }

  module _ (t : is_at s at 5 (num_at 2 s at) ≡ true) where
    pub too_short : num_at 2 s at < 2 → holds s at ≡ false
    unfolding holds
    too_short h = simp (t, lt-leb _ _ h)

    pub too_far : 2 ≤ num_at 2 s at → most < next s at → holds s at ≡ false
    unfolding holds
    too_far h l = simp (t, le-leb _ _ h, lt-leb _ _ l)

    pub whole_holds : 2 ≤ num_at 2 s at → next s at ≤ most → holds s at ≡ true
    unfolding holds
    whole_holds h l = simp (t, le-leb _ _ h, le-leb _ _ l)

  pub none_holds : false ≡ is_at s at 5 (num_at 2 s at) → holds s at ≡ false
  unfolding holds
  none_holds t = simp (sym t)

  -- its bytes are its card's, and six before them
  pub long_entry : holds s at ≡ true → long (entry_at s at) ≡ 4 + num_at 2 s at
  unfolding entry_at
  long_entry t =
      let h = holding t in
      let l : length (take (num_at 2 s at - 2) (drop (at + 6) s)) ≡ num_at 2 s at - 2 =
      length-take-le (num_at 2 s at - 2) (drop (at + 6) s) (simp length-drop (omega (arith, h.inside, h.two))) in
      omega (arith, h.two)

  -- ---- a step

  pub step_close : closes s at ≡ true → given close ≡ step_at s at
  unfolding step_at
  step_close t = rw t

  pub step_wrong : closes s at ≡ false → holds s at ≡ false → refused 14 at ≡ step_at s at
  unfolding step_at
  step_wrong t f = simp (t, f)

  pub step_room : closes s at ≡ false → holds s at ≡ true → given (room (num_at 2 s (at + 4)) (next s at)) ≡ step_at s at
  unfolding step_at
  step_room t f = simp (t, f)

  -- the step that two tests make
  abbrev step_by : Bool → Bool → Answer Standing
  step_by a b = cond a (given close) (cond b (given (room (num_at 2 s (at + 4)) (next s at))) (refused 14 at))

  pub told_close : given close ≡ step_at s at → closes s at ≡ true
  unfolding step_at
  told_close p = go (closes s at) (holds s at) (sym p)
    where
      go : (a b : Bool) → step_by a b ≡ given close → a ≡ true
      go true b e = refl
      go false true e = cc
      go false false e = cc

  pub told_wrong : refused 14 at ≡ step_at s at → (closes s at ≡ false) × (holds s at ≡ false)
  unfolding step_at
  told_wrong p = go (closes s at) (holds s at) (sym p)
    where
      go : (a b : Bool) → step_by a b ≡ refused 14 at → (a ≡ false) × (b ≡ false)
      go true b e = cc
      go false true e = cc
      go false false e = (refl, refl)

  pub record Told (r behind : ℕ) : Type 0 where
    pub goes_on : closes s at ≡ false
    pub is : holds s at ≡ true
    pub number : r ≡ (entry_at s at).room
    pub end : behind ≡ next s at

  pub told_room : {number behind : ℕ} → given (room number behind) ≡ step_at s at → Told number behind
  unfolding step_at entry_at
  told_room {number} {behind} p = go (closes s at) (holds s at) refl refl (sym p)
    where
      go : (a b : Bool) → closes s at ≡ a → holds s at ≡ b → step_by a b ≡ given (room number behind) → Told number behind
      go true b f g e = cc
      go false true f g e = record { goes_on = f; is = g; number = cc; end = cc }
      go false false f g e = cc
