use Rattle.std.proofs.Common.{◌∙◌, sym, ap}
use Rattle.tc_scan.specs.Views.{written_name}
use Rattle.tc_path.specs.Views.{tokens_of}
use Rattle.tc_path.specs.Reasons.{other_node_reason}
use Rattle.tc_path.proofs.ReasonLaws.{call_of_other, call_of_node, nothing_closed}
use Rattle.tc_path.proofs.reasons.call_reason.Goals as goal

pub returns-in-Some : goal.returns-in-Some
returns-in-Some c =
    c.bracket_reason.ensures
    ∙ (sym (ap other_node_reason c.in-Some.ensures) ∙ call_of_other c.args.context (written_name c.args.name.now) (tokens_of c.args.tokens.now) (sym c.is_either.ensures ∙ c.if-is_either.true))

pub returns-in-None : goal.returns-in-None
returns-in-None c =
    nothing_closed (tokens_of c.args.tokens.now) c.in-None.ensures
    ∙ call_of_other c.args.context (written_name c.args.name.now) (tokens_of c.args.tokens.now) (sym c.is_either.ensures ∙ c.if-is_either.true)

pub returns-then-is_either-2 : goal.returns-then-is_either-2
returns-then-is_either-2 c =
    call_of_node c.args.context (written_name c.args.name.now) (tokens_of c.args.tokens.now) (sym c.is_either.ensures ∙ c.if-is_either.false) (sym c.is_either-2.ensures ∙ c.if-is_either-2.true)
