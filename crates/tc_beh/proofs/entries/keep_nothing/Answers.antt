use Rattle.std.proofs.Common.{◌∙◌, ap, sym, subst}
use Rattle.tc_mat.specs.Matrix.{Matrix, IsIdentity}
use Rattle.tc_beh.specs.Opening.{Met, AreLinked}
use Rattle.tc_beh.proofs.OpenLaws.{beside_then}
use Rattle.tc_beh.proofs.Passing.{if_ok_map}
use Rattle.tc_beh.proofs.Together.{on_err_map}
use Rattle.tc_beh.proofs.entries.keep_nothing.Goals as goal

pub keep_open-requires-clause-size : goal.keep_open-requires-clause-size
keep_open-requires-clause-size c = c.restart.ensures.size ∙ c.requires.size

pub keep_open-requires-clause-links : goal.keep_open-requires-clause-links
keep_open-requires-clause-links c = subst (λ (m : Met). AreLinked c.args.outputs.now m) (sym c.restart.ensures.met) c.requires.links

pub returns-clause-same : goal.returns-clause-same
returns-clause-same c = λ m.
    beside_then m c.keep_open.new.outputs c.args.sets.now c.restart.new.self c.keep_open.new.sets (c.restart.ensures.same m c.keep_open.new.outputs) (c.keep_open.ensures.same m)

pub returns-clause-number : goal.returns-clause-number
returns-clause-number c =
    if_ok_map c.keep_open.result _ _
    (λ k h. record { low = h.0; is = subst IsIdentity (sym h.1) c.restart.ensures.out; size = ap (λ (m : Matrix). m.size) h.1 ∙ (c.restart.ensures.size ∙ (c.requires.size ∙ sym c.keep_open.ensures.held.size)) })
    c.keep_open.ensures.number

pub returns-clause-err : goal.returns-clause-err
returns-clause-err c =
    on_err_map c.keep_open.result _ _ (λ err. (err.0, (c.restart.new.self.out, c.restart.ensures.out, c.restart.ensures.size ∙ c.requires.size, c.out-out.ensures.matrix, err.1))) c.keep_open.ensures.err
