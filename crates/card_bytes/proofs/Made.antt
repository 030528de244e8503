-- Bytes in which every record of a card is due are the bytes of the card that they hold.
-- Assumes nothing.
use Prim.Native.Nat.{ℕ, zero, suc, ◌+◌, ◌≤◌, ◌<◌}
use mathlib.Core.Path.{◌≡◌, refl, ◌∙◌}
use mathlib.Core.Bool.{true}
use mathlib.Core.List.{List, [], ◌++◌, append_assoc, append-nil}
use native.Mathlib.Omega.{arith}
use lib.ListN.{length, drop, drop_of_length-le}
use lib.IntN.{pos}
use mir.Syntax.{w16, w32}
use Rattle.front.proofs.Listed.{get_d_listed}
use Rattle.little_endian.specs.Numbers.{num_at, Bytes}
use Rattle.record.specs.Record.{is_at}
use Rattle.little_endian.proofs.Numbers.{peel}
use Rattle.little_endian.proofs.Signs.{peel_signed}
use Rattle.record.proofs.Records.{standing, header_made}
use Rattle.curve.specs.Kind.{Kind}
use Rattle.curve.specs.Card.{knot}
use Rattle.card_bytes.specs.Bytes.{head_bytes, knot_bytes, end_bytes, rows, knot_row, bytes_of}
use Rattle.card_bytes.specs.Held.{start, minute_at, ordinate_at, slope_at, curvature_at, knot_at, count_at, card_of}
use Rattle.card_bytes.proofs.Rows.{rows_alike}
use Rattle.card_bytes.proofs.Standing.{knots_of, Whole}

module _ (s : List ℕ) (b : Bytes s) where
  head_made : (head : ℕ) → is_at s 0 head 6 ≡ true → s ≡ head_bytes head (count_at s) (num_at 2 s 6) (num_at 2 s 8) ++ drop 10 s
  unfolding head_bytes
  head_made head t =
      let w = (standing s 0 head 6 t).whole in
      let n = peel s 4 2 6 refl b (omega arith) in
      let l = peel s 6 2 8 refl b (omega arith) in
      let r = peel s 8 2 10 refl b (omega arith) in
      header_made s 0 head 6 b t ∙ rw (n, l, r) (simp append_assoc)

  -- the bytes of the knot that stands at a place
  row_at : ℕ → List ℕ
  row_at i = knot_bytes (knot_at s i)

  knot_made : (i : ℕ) → is_at s (start i) 2 12 ≡ true → drop (start i) s ≡ row_at i ++ drop (start (suc i)) s
  unfolding row_at knot_bytes
  knot_made i t =
      let w = (standing s (start i) 2 12 t).whole in
      let e : start i + 16 ≡ start (suc i) = omega arith in
      let x = peel s (start i + 4) 2 (start i + 6) (omega arith) b (omega arith) in
      let y = peel_signed s w16 (start i + 6) (start i + 8) (omega arith) b (omega arith) in
      let m = peel_signed s w32 (start i + 8) (start i + 12) (omega arith) b (omega arith) in
      let M = peel_signed s w32 (start i + 12) (start i + 16) (omega arith) b (omega arith) in
      rw (← e) (header_made s (start i) 2 12 b t ∙ rw (x, y, m, M) (simp append_assoc))

  module _ {head n : ℕ} (w : Whole head s n) where
    rows_made : (k i : ℕ) → i + k ≡ n → drop (start i) s ≡ rows row_at i k ++ end_bytes
    unfolding rows end_bytes
    rows_made zero i e =
        let q : n ≡ i = omega arith in
        let l : length s ≤ start i + 4 = omega (arith, w.nothing_behind) in
        let z : drop (start i + 4) s ≡ [] = drop_of_length-le s l in
        header_made s (start i) 3 0 b (rw q at w.ended) ∙ rw (z, append-nil)
    rows_made (suc k) i e =
        knot_made i (w.knotted i (omega arith)) ∙ rw (rows_made k (suc i) (omega arith), append_assoc)

  same_row : (i : ℕ) → i < count_at s → row_at i ≡ knot_row (card_of s) i
  unfolding row_at knot_row knot card_of
  same_row i l =
      rw (
        get_d_listed (minute_at s) 0 (count_at s) i l,
        get_d_listed (ordinate_at s) (pos 0) (count_at s) i l,
        get_d_listed (slope_at s) (pos 0) (count_at s) i l,
        get_d_listed (curvature_at s) (pos 0) (count_at s) i l,
      )

  pub made : (K : Kind) → Whole K.head s (count_at s) → s ≡ bytes_of K (card_of s)
  unfolding bytes_of card_of
  made K w =
      rw (knots_of s, ← rows_alike (count_at s) 0 (count_at s) (omega arith) same_row)
      (head_made K.head w.headed ∙ rw (rows_made w (count_at s) 0 (omega arith)))
