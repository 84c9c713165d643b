use Rattle.std.proofs.Common.{◌≡◌, ◌∷◌, [], ◌∙◌, subst, sym, ap, codes, MatchOption}
use Rattle.tc_answer.specs.Words.{AreOperands, Words, IsNoCommand, runs}
use Rattle.tc_answer.specs.WordsSeen.{command, texts}
use Rattle.tc_answer.proofs.Named.{texts-first, texts-parts}
use Rattle.tc_answer.proofs.Marked.{tails}
use Rattle.tc_answer.proofs.NoCommand.{lacking}
use Rattle.tc_answer.proofs.OneCommand.{kind}
use Rattle.tc_scan.proofs.NamesLaws.{at_none}
use Rattle.tc_answer.proofs.command.read_words.Goals as goal

pub returns-in_ok-sheet-in-run : goal.returns-in_ok-sheet-in-run
returns-in_ok-sheet-in-run c =
    let read = c.in_ok-sheet-in-run.ensures in
    runs (texts-parts _ _ _ _ (codes "run") _ c.in_ok-name.ensures.cases.0 c.as_str.ensures.value c.in-run.is read.0) (subst AreOperands read.0 read.1)

pub returns-in-valid : goal.returns-in-valid
returns-in-valid c =
    let first = texts-first _ _ _ _ (codes "valid") c.in_ok-name.ensures.cases.0 c.as_str.ensures.value c.in-valid.is in
    subst (λ ws. MatchOption c.read_valid.result (IsNoCommand ws) (λ k. Words ws (command k))) (sym first) c.read_valid.ensures

pub returns-in-check : goal.returns-in-check
returns-in-check c =
    let first = texts-first _ _ _ _ (codes "check") c.in_ok-name.ensures.cases.0 c.as_str.ensures.value c.in-check.is in
    subst (λ ws. MatchOption c.read_check.result (IsNoCommand ws) (λ k. Words ws (command k))) (sym first) c.read_check.ensures

pub returns-in-prove : goal.returns-in-prove
returns-in-prove c =
    let first = texts-first _ _ _ _ (codes "prove") c.in_ok-name.ensures.cases.0 c.as_str.ensures.value c.in-prove.is in
    subst (λ ws. MatchOption c.read_check-in-prove.result (IsNoCommand ws) (λ k. Words ws (command k))) (sym first) c.read_check-in-prove.ensures

pub returns-in-include : goal.returns-in-include
returns-in-include c =
    let first = texts-first _ _ _ _ (codes "include") c.in_ok-name.ensures.cases.0 c.as_str.ensures.value c.in-include.is in
    subst (λ ws. MatchOption c.read_inclusion.result (IsNoCommand ws) (λ k. Words ws (command k))) (sym first) c.read_inclusion.ensures

pub returns-in-same : goal.returns-in-same
returns-in-same c =
    let first = texts-first _ _ _ _ (codes "same") c.in_ok-name.ensures.cases.0 c.as_str.ensures.value c.in-same.is in
    subst (λ ws. MatchOption c.read_inclusion-in-same.result (IsNoCommand ws) (λ k. Words ws (command k))) (sym first) c.read_inclusion-in-same.ensures

pub returns-in-verify : goal.returns-in-verify
returns-in-verify c =
    let first = texts-first _ _ _ _ (codes "verify") c.in_ok-name.ensures.cases.0 c.as_str.ensures.value c.in-verify.is in
    subst (λ ws. MatchOption c.read_verify.result (IsNoCommand ws) (λ k. Words ws (command k))) (sym first) c.read_verify.ensures

pub returns-in-demo : goal.returns-in-demo
returns-in-demo c =
    let first = texts-first _ _ _ _ (codes "demo") c.in_ok-name.ensures.cases.0 c.as_str.ensures.value c.in-demo.is in
    subst (λ ws. MatchOption c.read_demo.result (IsNoCommand ws) (λ k. Words ws (command k))) (sym first) c.read_demo.ensures

pub returns-in-upgrade : goal.returns-in-upgrade
returns-in-upgrade c =
    let first = texts-first _ _ _ _ (codes "upgrade") c.in_ok-name.ensures.cases.0 c.as_str.ensures.value c.in-upgrade.is in
    subst (λ ws. MatchOption c.read_upgrade.result (IsNoCommand ws) (λ k. Words ws (command k))) (sym first) c.read_upgrade.ensures

pub returns-in-dead : goal.returns-in-dead
returns-in-dead c =
    let first = texts-first _ _ _ _ (codes "dead") c.in_ok-name.ensures.cases.0 c.as_str.ensures.value c.in-dead.is in
    subst (λ ws. MatchOption c.read_dead.result (IsNoCommand ws) (λ k. Words ws (command k))) (sym first) c.read_dead.ensures

pub returns-in_err-sheet-in-run : goal.returns-in_err-sheet-in-run
returns-in_err-sheet-in-run c =
    let first = texts-first _ _ _ _ (codes "run") c.in_ok-name.ensures.cases.0 c.as_str.ensures.value c.in-run.is in
    at_none _ c.from_residual-in_err-sheet-in-run.ensures (lacking 3 (ap kind first) (λ a b p o.
    let same : texts c.in_ok-name.rest.now ≡ a ∷ b ∷ [] = tails (sym first ∙ p) in
    c.in_err-sheet-in-run.ensures a b same (subst AreOperands (sym same) o)))
