use Rattle.std.proofs.Common.{◌<◌, List, subst, sym, ap}
use Rattle.tc_decide.specs.Certificates.{IsCertificateOf}
use Rattle.tc_decide.specs.Rejections.{told_by}
use Rattle.tc_decide.proofs.Triples.{itself, triple_is}
use Rattle.tc_decide.proofs.Verifications.{safe_certified, by_rule}
use Rattle.tc_decide.proofs.verifying.verify_data.Goals as goal
use Rattle.tc_model.specs.Symbols.{Mention, symbol_count}
use Rattle.tc_rows.specs.Triples as t
use Rattle.tc_verify.specs.Rejects.{IsBroken, IsCause}
use Rattle.tc_verify.specs.declared.reject.RejectRule.{RejectRule}

pub returns-in-Ok : goal.returns-in-Ok
returns-in-Ok c = λ x is within_limits bytes means.
    let d = c.args.held.now in
    let certificate : IsCertificateOf x.input x.output (t.sheet x) d = (x, itself x (triple_is is), c.in-Ok.ensures.certificate x is) in
    (within_limits, (d, means, certificate), safe_certified {i = x.input} {o = x.output} {s = t.sheet x} d certificate)

pub reject_data-requires : goal.reject_data-requires
reject_data-requires c = λ wrap.
    let (x, is) = c.requires.machine in
    let r = c.in-Err-Rejected.reject in
    let why = subst (IsCause x c.args.held.now) c.in-Err-Rejected.field-0-is (c.in-Err-Rejected.ensures.cause x is) in
    let broken = subst (λ (w : RejectRule). IsBroken x c.args.held.now w r.line r.other) wrap why.first.broken in
    subst (λ (w : List Mention). r.other < symbol_count w) (sym is.parts.same_symbols) broken.2

pub returns-in-Err-Rejected : goal.returns-in-Err-Rejected
returns-in-Err-Rejected c = λ x is within_limits bytes means.
    let r = c.in-Err-Rejected.reject in
    let why = subst (IsCause x c.args.held.now) c.in-Err-Rejected.field-0-is (c.in-Err-Rejected.ensures.cause x is) in
    by_rule bytes x.input x.output (t.sheet x) (told_by c.args.machine.now.alphabet r.rule r.line r.other) c.reject_data.result c.args.held.now within_limits means
    (x, r, itself x (triple_is is), why, ap (λ w. told_by w r.rule r.line r.other) is.parts.same_symbols) c.reject_data.ensures
