use Rattle.std.proofs.Common.{length, ap, subst, sym, arith}
use Rattle.std.specs.List.Sorted.{IsStrictlySortedBy}
use Rattle.tc_model.specs.CertificateData.{ArePairs, pair_cmp}
use Rattle.tc_cert.specs.Standing.{IsAfterLent}
use Rattle.tc_cert.specs.Pieces.{IsMissing}
use Rattle.tc_cert.proofs.Steps.{same_error, no_value}
use Rattle.tc_cert.proofs.Numbers.{bool_apart}
use Rattle.tc_cert.proofs.ReadLines.{AnOutputLine, pairs_of_line, line_of_pairs, same_pairs_at}
use Rattle.tc_cert.proofs.reader.output_line.Goals as goal

pub pairs-requires : goal.pairs-requires
pairs-requires c = omega (arith, c.requires.short, ap length c.in-Some.ensures)

pub is_behind-requires : goal.is_behind-requires
is_behind-requires c =
    let pairs : ArePairs c.in_ok-pairs.pairs = record { numbers = c.in_ok-pairs.ensures.ok.allowed; ascending = c.do_pairs_ascend.ensures.0 c.if-not-do_pairs_ascend.false } in
    (pairs, c.requires.before)

pub returns-then-not-do_pairs_ascend-clause-no : goal.returns-then-not-do_pairs_ascend-clause-no
returns-then-not-do_pairs_ascend-clause-no c = λ _ p.
    let same = same_pairs_at c.in-Some.inside.now c.in_ok-pairs.pairs p.0 c.in_ok-pairs.rest.now p.1 c.in_ok-pairs.ensures.ok (pairs_of_line c.args.bytes.now c.in-Some.inside.now p.0 p.1 c.in-Some.ensures p.2 p.4) in
    bool_apart c.do_pairs_ascend.result (c.do_pairs_ascend.ensures.1 (subst (IsStrictlySortedBy pair_cmp) (sym same.0) p.2.ascending)) c.if-not-do_pairs_ascend.true

pub returns-in_err-pairs-clause-no : goal.returns-in_err-pairs-clause-no
returns-in_err-pairs-clause-no c =
    same_error (IsMissing (AnOutputLine c.args.before c.args.bytes.now)) c.from_residual.result c.in_err-pairs.field-0.0 c.from_residual.ensures.1
    (λ e p. c.in_err-pairs.ensures.no e (p.0, p.1, pairs_of_line c.args.bytes.now c.in-Some.inside.now p.0 p.1 c.in-Some.ensures p.2 p.4))

pub returns-then-not-behind-clause-no : goal.returns-then-not-behind-clause-no
returns-then-not-behind-clause-no c = λ _ p.
    let same = same_pairs_at c.in-Some.inside.now c.in_ok-pairs.pairs p.0 c.in_ok-pairs.rest.now p.1 c.in_ok-pairs.ensures.ok (pairs_of_line c.args.bytes.now c.in-Some.inside.now p.0 p.1 c.in-Some.ensures p.2 p.4) in
    bool_apart c.in_ok-behind.behind (c.in_ok-behind.ensures.ok.1 (subst (IsAfterLent c.args.before) (sym same.0) p.3)) c.if-not-behind.true

pub returns-clause-ok : goal.returns-clause-ok
returns-clause-ok c =
    let pairs : ArePairs c.in_ok-pairs.pairs = record { numbers = c.in_ok-pairs.ensures.ok.allowed; ascending = c.do_pairs_ascend.ensures.0 c.if-not-do_pairs_ascend.false } in
    (pairs, c.in_ok-behind.ensures.ok.0 c.if-not-behind.false, line_of_pairs c.args.bytes.now c.in-Some.inside.now c.in_ok-pairs.pairs c.in_ok-pairs.rest.now c.in-Some.ensures c.in_ok-pairs.ensures.ok)

pub returns-in_err-pairs-clause-ok : goal.returns-in_err-pairs-clause-ok
returns-in_err-pairs-clause-ok c = no_value c.from_residual.result _ _ c.from_residual.ensures.1

pub returns-in_err-behind-clause-ok : goal.returns-in_err-behind-clause-ok
returns-in_err-behind-clause-ok c = no_value c.from_residual-in_err-behind.result _ _ c.from_residual-in_err-behind.ensures.1
