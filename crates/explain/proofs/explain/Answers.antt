-- `explain` meets its contract: refused with 10, the reason; refused otherwise, zeros; accepted, 11 or the
-- parts. Assumes nothing.
use Rattle.std.proofs.Common.{◌≡◌, refl, sym, ◌∙◌, ap, ap₂, subst, ◌<◌, ◌^◌, arith}
use Rattle.answer.specs.Answer.{accepted, refused}
use Rattle.answer.specs.Judge.{number_of}
use Rattle.answer.specs.declared.Reason.{Reason}
use Rattle.answer.proofs.Chain.{step_refused, step_accepts}
use Rattle.card_bytes.specs.Held.{card_of}
use Rattle.card_bytes.specs.Records.{kind_by}
use Rattle.card.specs.Answers.{own}
use Rattle.opened.proofs.Opening.{opened_kind, accepted_holds, accepted_readable, jumped_readable}
use Rattle.explain.specs.Explain.{reason, explained, explain, sizes}
use Rattle.explain.proofs.Told.{ten_explained, other_explained, accepted_explained, reason_sizes}
use Rattle.explain.proofs.explain.Goals as goal
use Rattle.explain.proofs.explain.Goals.{In-Ok, In-Err, In-Jump}

-- ---- accepted

accepts : (c : In-Ok) → own c.args.card.now ≡ accepted
accepts c = step_accepts c.by_head-opened.ensures.judged c.in-Ok.is

pub off-requires : goal.off-requires
off-requires c = accepted_readable c.by_head-opened.ensures (accepts (goal.at.off-requires c).In-Ok)

pub returns-in-Ok : goal.returns-in-Ok
unfolding explain
returns-in-Ok c =
    let e = (goal.at.returns-in-Ok c).In-Ok in
    let b = c.by_head-opened in
    let s = c.args.card.now in
    record { value = c.off.ensures.value (kind_by s) ∙ ap (λ card. explained (kind_by s) accepted card c.args.minute) (accepted_holds b.ensures (accepts e)).is ∙ accepted_explained (kind_by s) (card_of s) c.args.minute (accepts e); fits = c.off.ensures.fits }

-- ---- refused with 10

jumped : (c : In-Jump) → own c.args.card.now ≡ refused 10 c.in-Err.refusal.place
jumped c = step_refused c.by_head-opened.ensures.judged c.in-Err.is ∙ ap (λ r. refused (number_of r) c.in-Err.refusal.place) c.in-Jump.is

pub why-requires : goal.why-requires
why-requires c =
    let r = jumped_readable c.by_head-opened.ensures (jumped (goal.at.why-requires c).In-Jump) in record { readable = r.0; place_lt_knots = r.1 }

pub returns-in-Jump : goal.returns-in-Jump
unfolding explain
returns-in-Jump c =
    let t = (goal.at.returns-in-Jump c).In-Jump in
    let b = c.by_head-opened in
    let s = c.args.card.now in
    let p = c.in-Err.refusal.place in
    record {
      value =
          c.why.ensures
          ∙ ap₂ (λ K card. reason K card p) (opened_kind b.ensures) (jumped_readable b.ensures (jumped t)).2.is
          ∙ ten_explained (kind_by s) (card_of s) c.args.minute (jumped t);
      fits = subst (λ e. sizes e < 2 ^ 63) (sym c.why.ensures) (reason_sizes _ _ p);
    }

-- ---- refused otherwise

ten_is : (r : Reason) → number_of r ≡ 10 → r ≡ Reason.Jump
ten_is Reason.FewKnots e = absurd (omega arith)
ten_is Reason.ManyKnots e = absurd (omega arith)
ten_is Reason.OddLengths e = absurd (omega arith)
ten_is Reason.NotRising e = absurd (omega arith)
ten_is Reason.WideGap e = absurd (omega arith)
ten_is Reason.FarOrdinate e = absurd (omega arith)
ten_is Reason.UnfitEnd e = absurd (omega arith)
ten_is Reason.Stuck e = absurd (omega arith)
ten_is Reason.OutOfRange e = absurd (omega arith)
ten_is Reason.Jump e = refl
ten_is Reason.Outside e = absurd (omega arith)
ten_is Reason.Meaningless e = absurd (omega arith)
ten_is Reason.NoGoodByte e = absurd (omega arith)
ten_is Reason.BadRecord e = absurd (omega arith)
ten_is Reason.UnknownCode e = absurd (omega arith)
ten_is Reason.LogLength e = absurd (omega arith)
ten_is Reason.Stranded e = absurd (omega arith)
ten_is Reason.FewPlaces e = absurd (omega arith)
ten_is Reason.LateMiddle e = absurd (omega arith)
ten_is Reason.NoRoom e = absurd (omega arith)
ten_is Reason.FullBook e = absurd (omega arith)
ten_is Reason.UnsortedRoom e = absurd (omega arith)
ten_is Reason.FewGoodBytes e = absurd (omega arith)
ten_is Reason.ManyValues e = absurd (omega arith)
ten_is Reason.UnfitParts e = absurd (omega arith)
ten_is Reason.ShortBuffer e = absurd (omega arith)

pub returns-in_default : goal.returns-in_default
unfolding explain sizes
returns-in_default c =
    let s = c.args.card.now in
    record {
      value = c.from.ensures ∙ other_explained (kind_by s) (card_of s) c.args.minute (λ e. c.in_default.not-Jump (ten_is _ e)) (step_refused c.by_head-opened.ensures.judged c.in-Err.is);
      fits = rw c.from.ensures (omega arith);
    }
