use Rattle.std.proofs.Common.{◌≡◌, ◌+◌, ◌∙◌, List, refl, subst, true, false, get_or, drop}
use Rattle.std.proofs.lemmas.List.{drop_all}
use Rattle.tc_model.specs.Machine.{holds_in}
use Rattle.tc_model.specs.Chains.{children}
use Rattle.tc_model.specs.Views as see
use Rattle.tc_model.specs.Sheets.{CallFreeBody, BranchesInline, Branches, otherwise}
use Rattle.tc_model.proofs.ViewsBody.{left_branch}
use Rattle.tc_rules.specs.Parts.{ArePartBranches}
use Rattle.tc_run.specs.Running.{machine, sheet_by}
use Rattle.tc_run.specs.Views.{node}
use Rattle.tc_run.proofs.Taking.{no_branch, branch_is, test_holds, branch_this, branch_not, branch_last, branch_part_at}
use Rattle.tc_run.proofs.bodies.chosen_branch.Goals as goal

pub returns-then-holds-clause-chosen : goal.returns-then-holds-clause-chosen
returns-then-holds-clause-chosen c = λ x u.
    let r = c.args.runner.now in
    let h = c.args.here.now in
    let bs = c.args.branches.now in
    let k = c.loop-branch.branch-index in
    let b = get_or bs k no_branch in
    let is = branch_is bs k no_branch c.loop-branch-test.true in
    let named = (sheet_by r).named in
    let last : Branches = otherwise (see.body c.args.last.now) in
    let rest : Branches = see.branches (drop (k + 1) bs) last in
    let (y, v, same) = c.loop-branch.invariant.2 x u in
    let holds : (bodies : List CallFreeBody) → holds_in (machine r bodies) (see.test b.test) (children (node h)) ≡ true =
    λ bodies. test_holds r h named (see.test b.test) c.holds.result c.requires.here.here.children_are c.holds.ensures.holds bodies ∙ c.if-holds.true in
    let (p, w, eq) = branch_this r h named (see.test b.test) (see.body b.body.now) rest (subst (λ z. BranchesInline named z y) (left_branch bs k b last c.loop-branch-test.true is) v) holds in
    (p, w, λ bodies outs. same bodies outs ∙ eq bodies outs)

pub loop-branch-preserved : goal.loop-branch-preserved
loop-branch-preserved c =
    let r = c.args.runner.now in
    let h = c.args.here.now in
    let bs = c.args.branches.now in
    let k = c.loop-branch.branch-index in
    let b = get_or bs k no_branch in
    let is = branch_is bs k no_branch c.loop-branch-test.true in
    let named = (sheet_by r).named in
    let last : Branches = otherwise (see.body c.args.last.now) in
    let rest : Branches = see.branches (drop (k + 1) bs) last in
    let fails : (bodies : List CallFreeBody) → holds_in (machine r bodies) (see.test b.test) (children (node h)) ≡ false =
    λ bodies. test_holds r h named (see.test b.test) c.holds.result c.requires.here.here.children_are c.holds.ensures.holds bodies ∙ c.if-holds.false in (
      c.holds.ensures.known,
      (branch_part_at (sheet_by r) bs k b last c.loop-branch-test.true is c.loop-branch.invariant.1).2,
      λ x u.
          let (y, v, same) = c.loop-branch.invariant.2 x u in
          let (z, w, eq) = branch_not r h named (see.test b.test) (see.body b.body.now) rest (subst (λ t. BranchesInline named t y) (left_branch bs k b last c.loop-branch-test.true is) v) fails in
          (z, w, λ bodies outs. same bodies outs ∙ eq bodies outs),
    )

pub returns-clause-chosen : goal.returns-clause-chosen
returns-clause-chosen c = λ x u.
    let r = c.args.runner.now in
    let h = c.args.here.now in
    let bs = c.args.branches.now in
    let k = c.loop-branch.branch-index in
    let named = (sheet_by r).named in
    let last : Branches = otherwise (see.body c.args.last.now) in
    let (y, v, same) = c.loop-branch.invariant.2 x u in
    let (p, w, eq) = branch_last r h named (see.body c.args.last.now) (subst (λ z. BranchesInline named (see.branches z last) y) (drop_all k bs c.loop-branch-test.false) v) in
    (p, w, λ bodies outs. same bodies outs ∙ eq bodies outs)

pub loop-branch-init : goal.loop-branch-init
loop-branch-init c = (c.requires.here.known, c.requires.part, λ x u. (x, u, λ bodies outs. refl))

pub holds-requires-clause-kids : goal.holds-requires-clause-kids
holds-requires-clause-kids c = record { runner = c.requires.here.runner; nodes = c.requires.here.here.kids; known = c.loop-branch.invariant.0 }

pub holds-requires-clause-test : goal.holds-requires-clause-test
holds-requires-clause-test c =
    let r = c.args.runner.now in
    let bs = c.args.branches.now in
    let k = c.loop-branch.branch-index in
    let b = get_or bs k no_branch in
    let last : Branches = otherwise (see.body c.args.last.now) in
    (branch_part_at (sheet_by r) bs k b last c.loop-branch-test.true (branch_is bs k no_branch c.loop-branch-test.true) c.loop-branch.invariant.1).0

pub returns-then-holds-clause-part : goal.returns-then-holds-clause-part
returns-then-holds-clause-part c =
    let r = c.args.runner.now in
    let bs = c.args.branches.now in
    let k = c.loop-branch.branch-index in
    let b = get_or bs k no_branch in
    let last : Branches = otherwise (see.body c.args.last.now) in
    (branch_part_at (sheet_by r) bs k b last c.loop-branch-test.true (branch_is bs k no_branch c.loop-branch-test.true) c.loop-branch.invariant.1).1

pub returns-clause-part : goal.returns-clause-part
returns-clause-part c =
    let bs = c.args.branches.now in
    let last : Branches = otherwise (see.body c.args.last.now) in
    subst (λ z. ArePartBranches (sheet_by c.args.runner.now) (see.branches z last)) (drop_all c.loop-branch.branch-index bs c.loop-branch-test.false) c.loop-branch.invariant.1
