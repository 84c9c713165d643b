use Rattle.std.proofs.Common.{◌++◌, refl, ap, sym, ◌∙◌, subst, length, arith, append-nil}
use Rattle.std.specs.Prelude.{◌↔◌, IsTrue}
use Rattle.tc_model.specs.RawTrees.{RawTrees}
use Rattle.tc_model.specs.Stripped.{stripped}
use Rattle.tc_model.specs.Validity.{IsValid}
use Rattle.tc_stream.specs.Cuts.{cut_bytes}
use Rattle.tc_stream.specs.XmlTextMeasures.{IsGood}
use Rattle.tc_stream.proofs.PieceLaws.{nothing_in, valid_at_end}
use Rattle.tc_stream.proofs.pieces.finished.Goals.{else-left-eq0-via-then-left-eq0+else-is_at_end, else-left-eq0-via-else-left-eq0}
use Rattle.tc_stream.proofs.pieces.finished.Goals as goal

pub overflow_cast-left : goal.overflow_cast-left
overflow_cast-left c = omega (arith, ap length c.bytes.ensures, c.requires.within, c.requires.room)

pub overflow_sub-place : goal.overflow_sub-place
overflow_sub-place c = omega (arith, ap length c.bytes.ensures, c.requires.within)

pub returns-then-is_at_end-clause-ok : goal.returns-then-is_at_end-clause-ok
returns-then-is_at_end-clause-ok c = λ x chars start at r.
    let none = nothing_in (cut_bytes c.args.cut) (omega (arith, ap length c.bytes.ensures, c.if-left-eq0.true)) in
    let (part, phase) = c.if-is_at_end.ensures.yes refl in
    subst (λ z. (h : RawTrees) × IsGood z h × (IsTrue c.is_valid.result ↔ IsValid x (stripped h))) (sym (ap (λ z. chars ++ z) none ∙ append-nil chars))
    (subst (λ b. (h : RawTrees) × IsGood chars h × (IsTrue b ↔ IsValid x (stripped h))) (sym c.is_valid.ensures) (valid_at_end x _ chars start r part phase))

pub returns-clause-fault : goal.returns-clause-fault
returns-clause-fault c = λ x chars at no_char r.
    c.stopped.ensures x chars (cut_bytes c.args.cut) r (omega (arith, at, ap length c.bytes.ensures)) no_char
    (λ part phase none. elim c.else-left-eq0.branch [
      | else-left-eq0-via-then-left-eq0+else-is_at_end w ↦ w.if-is_at_end.ensures.no refl part phase
      | else-left-eq0-via-else-left-eq0 w ↦ omega (arith, ap length none, ap length c.bytes.ensures, w.if-left-eq0.false)
    ])
