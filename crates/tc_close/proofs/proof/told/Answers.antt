use Rattle.std.proofs.Common.{subst, sym, arith}
use Rattle.tc_model.specs.declared.lists.CertData.{CertData}
use Rattle.tc_settle.specs.Held.{SameRows}
use Rattle.tc_close.specs.Certified.{HasLongCertificate, IsLeastCertificate}
use Rattle.tc_close.specs.Decisions.{IsDecided}
use Rattle.tc_close.specs.RowState.{RowState, held_of}
use Rattle.tc_close.proofs.Carried.{closure_on}
use Rattle.tc_close.proofs.LeastHolds.{least_holds}
use Rattle.tc_close.proofs.Pushed.{none_of, some_of}
use Rattle.tc_close.proofs.proof.told.Goals as goal

pub certified-requires : goal.certified-requires
certified-requires g c =
    let (grows, back) = c.verdict.ensures.same in
    let settled = c.requires.settled in
    record {
      closure = closure_on (held_of g.K.Over.is_of c.args.rows.now) (held_of g.K.Over.is_of c.verdict.new.rows) c.args.closed.now c.verdict.ensures.same settled.closure;
      trees = omega (arith, back.trees, settled.trees, settled.limit);
      hedges = omega (arith, back.hedges, settled.hedges, settled.limit);
      limit = omega arith;
    }

pub returns-in-Ok-Some-clause-proof : goal.returns-in-Ok-Some-clause-proof
returns-in-Ok-Some-clause-proof g c = λ x o.
    let decided = subst (IsDecided x c.args.most) c.in-Ok-Safe.field-0-is (c.in-Ok-Safe.ensures.decision x o) in
    let d : CertData = c.in-Ok-Some.data in
    let least : IsLeastCertificate x d = some_of (HasLongCertificate x) (IsLeastCertificate x) c.in-Ok-Some.field-0 d (c.in-Ok-Some.ensures.data x o) c.in-Ok-Some.field-0-is in
    (record { safe = decided.safe; keeps = decided.keeps }, least, least_holds x (c.requires.machine x o).parts.are_rules.triple decided.safe d least)

pub returns-in-Ok-None-clause-proof : goal.returns-in-Ok-None-clause-proof
returns-in-Ok-None-clause-proof g c = λ x o.
    let decided = subst (IsDecided x c.args.most) c.in-Ok-Safe.field-0-is (c.in-Ok-Safe.ensures.decision x o) in
    (record { safe = decided.safe; keeps = decided.keeps }, none_of (HasLongCertificate x) (IsLeastCertificate x) c.in-Ok-None.field-0 (c.in-Ok-None.ensures.data x o) c.in-Ok-None.field-0-is)

pub returns-in-Ok-Unsafe-clause-proof : goal.returns-in-Ok-Unsafe-clause-proof
returns-in-Ok-Unsafe-clause-proof g c = λ x o. subst (IsDecided x c.args.most) c.in-Ok-Unsafe.field-0-is (c.in-Ok-Unsafe.ensures.decision x o)

pub returns-in-Ok-TooManyNodes-clause-proof : goal.returns-in-Ok-TooManyNodes-clause-proof
returns-in-Ok-TooManyNodes-clause-proof g c = λ x o. subst (IsDecided x c.args.most) c.in-Ok-TooManyNodes.field-0-is (c.in-Ok-TooManyNodes.ensures.decision x o)

pub returns-in-Ok-Some-clause-same : goal.returns-in-Ok-Some-clause-same
returns-in-Ok-Some-clause-same g c = subst (λ (s : RowState). SameRows (held_of g.K.Over.is_of c.args.rows.now) (held_of g.K.Over.is_of s)) (sym c.certified.ensures.same) c.verdict.ensures.same

pub returns-in-Ok-None-clause-same : goal.returns-in-Ok-None-clause-same
returns-in-Ok-None-clause-same g c = subst (λ (s : RowState). SameRows (held_of g.K.Over.is_of c.args.rows.now) (held_of g.K.Over.is_of s)) (sym c.certified.ensures.same) c.verdict.ensures.same

pub returns-in-Ok-Unsafe-clause-same : goal.returns-in-Ok-Unsafe-clause-same
returns-in-Ok-Unsafe-clause-same g c = c.verdict.ensures.same

pub returns-in-Ok-TooManyNodes-clause-same : goal.returns-in-Ok-TooManyNodes-clause-same
returns-in-Ok-TooManyNodes-clause-same g c = c.verdict.ensures.same
