use Rattle.std.proofs.Common.{◌≡◌, ap, ◌∙◌, sym, [], length, ◌==◌}
use Rattle.std.proofs.lemmas.Bool.{true≢false}
use Rattle.tc_model.specs.RawTrees.{RawTrees}
use Rattle.tc_model.specs.Views.{place}
use Rattle.tc_model.specs.XmlTextContent.{characters_before}
use Rattle.tc_xml.specs.Views.{run_before}
use Rattle.tc_xml.proofs.GatherLaws.{run_kept}
use Rattle.tc_xml.proofs.content.end_run.Goals as goal

pub returns-in_ok-push_tree-clause-kept : goal.returns-in_ok-push_tree-clause-kept
returns-in_ok-push_tree-clause-kept c = λ h apart.
    let s = c.into_bump_str-text.result in
    let p = c.in-Begun.place in
    let was : (k : RawTrees) → run_before c.args.gathered.now.run k ≡ characters_before s.now (place p) k = λ k.
    ap (λ r. run_before r k) (sym c.replace.ensures.value ∙ c.in-Begun.is) ∙ ap (λ w. characters_before w (place p) k) (sym c.into_bump_str-text.ensures) in
    let some : s.now ≡ [] → ⊥ = λ e. true≢false (ap (λ w. length w == 0) (sym e) ∙ (sym c.is_empty.ensures ∙ c.if-not-is_empty.true)) in
    run_kept c.args.gathered.now (record c.args.gathered.now { trees = c.push_tree.new.trees; run = c.replace.new.dest }) p s h was c.replace.ensures.after some c.in_ok-push_tree.ensures apart
