-- The two writers as one: what a call of either promises, that its kind of card is one of those that there
-- are, and which it is, by the number of its head.
-- Assumes nothing.
use mathlib.Core.Path.{◌≡◌, refl, sym, ap, ◌∙◌}
use mathlib.Core.Logic.{inl, inr}
use native.Mathlib.Omega.{arith}
use Rattle.curve.specs.Kind.{Kind, quintic, sloped}
use Rattle.card_bytes.specs.Records.{Known}
use Rattle.writer.specs.Promise.{Writes}
use Rattle.kaihveto.specs.Types.{Minutes}
use Rattle.demands.specs.Calls.{AWriting, with_codes, with_slopes, written_kind, written_card, buffer, buffer', write_answer}

pub promises : (w : AWriting) → Writes (written_kind w) (written_card w) (buffer w) (buffer' w) (write_answer w) × Minutes (written_card w).minutes
promises (with_codes c) = c.promised
promises (with_slopes c) = c.promised

pub known_writer : (w : AWriting) → Known (written_kind w)
known_writer (with_codes c) = inl refl
known_writer (with_slopes c) = inr refl

heads_differ : quintic.head ≡ sloped.head → ⊥
unfolding quintic sloped
heads_differ e = omega arith

-- a kind is told by its head
pub same_head : {K L : Kind} → Known K → Known L → K.head ≡ L.head → K ≡ L
same_head (inl a) (inl b) e = a ∙ sym b
same_head (inl a) (inr b) e = absurd (heads_differ (sym (ap (λ K. K.head) a) ∙ e ∙ ap (λ K. K.head) b))
same_head (inr a) (inl b) e = absurd (heads_differ (sym (ap (λ K. K.head) b) ∙ sym e ∙ ap (λ K. K.head) a))
same_head (inr a) (inr b) e = a ∙ sym b
