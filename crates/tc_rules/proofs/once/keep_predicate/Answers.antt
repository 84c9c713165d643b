use Rattle.std.proofs.Common.{Bor, List, ap, ◌∙◌, arith}
use Rattle.tc_model.specs.Numbered.{number_of}
use Rattle.tc_model.specs.SameTests.{same_test}
use Rattle.tc_model.specs.Views as see
use Rattle.tc_model.specs.declared.sheet.Test.{Test}
use Rattle.tc_rules.specs.Views.{predicates}
use Rattle.tc_rules.proofs.Distinct.{one_more}
use Rattle.tc_rules.proofs.Sameness.{put_last, stays_there}
use Rattle.tc_rules.proofs.once.keep_predicate.Goals as goal

pub returns-then-number_of_test-count-clause-kept : goal.returns-then-number_of_test-count-clause-kept
returns-then-number_of_test-count-clause-kept c =
    stays_there same_test (λ (t : Bor Test). see.test t.now) c.args.kept.now.items (see.test c.args.test.now) c.number_of_test.result
    (c.number_of_test.ensures.number ∙ ap (λ (ts : List (Bor Test)). number_of same_test (see.test c.args.test.now) (predicates ts)) c.deref.ensures.value) (omega arith)

pub returns-then-count-clause-cause : goal.returns-then-count-clause-cause
returns-then-count-clause-cause c =
    one_more same_test (λ (t : Bor Test). see.test t.now) c.args.kept.now.items c.args.test c.number_of_test.result 6
    (c.number_of_test.ensures.number ∙ ap (λ (ts : List (Bor Test)). number_of same_test (see.test c.args.test.now) (predicates ts)) c.deref.ensures.value) (omega arith) (omega arith)

pub returns-clause-kept : goal.returns-clause-kept
returns-clause-kept c =
    put_last same_test (λ (t : Bor Test). see.test t.now) c.args.kept.now.items c.put_predicate.new.kept.items c.args.test c.number_of_test.result
    (c.number_of_test.ensures.number ∙ ap (λ (ts : List (Bor Test)). number_of same_test (see.test c.args.test.now) (predicates ts)) c.deref.ensures.value) (omega arith) c.in_ok-put_predicate.ensures
