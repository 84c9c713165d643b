use Rattle.std.proofs.Common.{rules, arith, ap, length}
use Rattle.tc_path.proofs.TokenLaws.{token_shorter, white_shorter}
use Rattle.tc_path.proofs.token.token_count.Goals as goal

pub loop-after-init : goal.loop-after-init
loop-after-init c = record { text = c.utf8.text; few = omega arith }

pub loop-after-smaller : goal.loop-after-smaller
loop-after-smaller c = omega (arith, token_shorter c.in-Some.ensures, white_shorter c.loop-after.rest.now, ap length c.after_white.ensures)

pub loop-after-preserved : goal.loop-after-preserved
loop-after-preserved c = record {
  text = search rules;
  few = omega (arith, token_shorter c.in-Some.ensures, white_shorter c.loop-after.rest.now, ap length c.after_white.ensures, c.loop-after.invariant.few);
}
