use Rattle.std.proofs.Common.{◌-◌, arith, length, refl}
use Rattle.tc_scan.proofs.NamesLaws.{at_none}
use Rattle.tc_rnc.proofs.LexLaws.{token_fits}
use Rattle.tc_rnc.proofs.lexing.token_at.Goals as goal

pub returns-in_err-word : goal.returns-in_err-word
returns-in_err-word c = at_none _ c.from_residual.ensures c.in_err-word.ensures

pub invariant_of-result : goal.invariant_of-result
invariant_of-result c = record {
  within = omega (arith, c.requires.bounded, token_fits c.in_ok-word.word c.args.total (c.args.total - length c.args.text.now) c.in_ok-word.ensures c.requires.within refl);
}
