use Rattle.std.proofs.Common.{subst, sym}
use Rattle.std.specs.List.Sorted.{IsStrictlySortedBy}
use Rattle.std.specs.Ordering.{nat_cmp}
use Rattle.tc_cert.proofs.Numbers.{bool_apart}
use Rattle.tc_cert.proofs.Three.{no_members}
use Rattle.tc_cert.proofs.Steps.{no_value}
use Rattle.tc_cert.proofs.pieces.front.Goals as goal

pub returns-then-not-do_ascend-clause-no : goal.returns-then-not-do_ascend-clause-no
returns-then-not-do_ascend-clause-no c = λ _ p.
    no_members c.args.letter c.args.bytes.now c.in-Some.rest.now c.in_ok-members.rest.now c.in-Some.one c.in-Some.other c.in_ok-members.members.items c.in-Some.ensures c.in_ok-members.ensures.ok
    (λ m. bool_apart c.do_ascend.result (c.do_ascend.ensures.1 (subst (IsStrictlySortedBy nat_cmp) (sym c.deref.ensures.value) m.ascending)) c.if-not-do_ascend.true) p.0 p.1 p.2 p.3 p.4

pub returns-in_err-members-clause-ok : goal.returns-in_err-members-clause-ok
returns-in_err-members-clause-ok c = no_value c.from_residual.result _ _ c.from_residual.ensures.1
