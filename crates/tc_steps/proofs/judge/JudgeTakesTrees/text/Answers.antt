use Rattle.std.proofs.Common.{◌∙◌, sym}
use Rattle.std.proofs.lemmas.Option.{IfSome_then}
use Rattle.tc_steps.proofs.JudgedLaws.{white_taken, other_taken}
use Rattle.tc_steps.proofs.judge.JudgeTakesTrees.text.Goals as goal

pub returns-then-is_white_space_only : goal.returns-then-is_white_space_only
returns-then-is_white_space_only c = λ x p at. white_taken x c.args.self.now p c.args.text.now (sym c.is_white_space_only.ensures ∙ c.if-is_white_space_only.true) at

pub returns : goal.returns
returns c =
    let other = sym c.is_white_space_only.ensures ∙ c.if-is_white_space_only.false in
    IfSome_then c.pass_text.result c.pass_text.ensures (λ u h x p at. other_taken x c.pass_text.new.self p c.args.text.now other (h x p c.args.text.now other at))
