use Rattle.std.proofs.Common.{subst, sym}
use Rattle.tc_path.specs.NameTokens.{NameTokenAt}
use Rattle.tc_scan.proofs.NamesLaws.{at_none}
use Rattle.tc_path.proofs.TokenLaws.{name_alone, name_of_axis, name_with_star, name_with_prefix, no_name_token, no_local_part}
use Rattle.tc_path.proofs.token.name_token.Goals as goal

pub returns-in_err-first : goal.returns-in_err-first
returns-in_err-first c = at_none _ c.from_residual.ensures (no_name_token c.in_err-first.ensures)

pub returns-in-None : goal.returns-in-None
returns-in-None c =
    (no_local_part c.args.text.now c.in_ok-first.first.now c.in_ok-first.rest.now c.in-Some.behind.now c.in_ok-first.ensures c.in-Some.ensures c.if-begins.ensures c.in_default-after_byte.ensures c.in-None.ensures)

pub returns-in-Some-ncname : goal.returns-in-Some-ncname
returns-in-Some-ncname c =
    name_with_prefix c.args.text.now c.in_ok-first.first.now c.in_ok-first.rest.now c.in-Some.behind.now c.in-Some-ncname.local.now c.in-Some-ncname.after.now c.in_ok-first.ensures c.in-Some.ensures c.in-Some-ncname.ensures

pub returns-in_default : goal.returns-in_default
returns-in_default c =
    subst (λ w. NameTokenAt c.args.text.now w c.in_ok-first.rest.now) (sym c.unprefixed.ensures) (name_alone c.args.text.now c.in_ok-first.first.now c.in_ok-first.rest.now c.in_ok-first.ensures c.in_default.ensures)

pub returns-then-begins : goal.returns-then-begins
returns-then-begins c =
    subst (λ w. NameTokenAt c.args.text.now w c.in_ok-first.rest.now) (sym c.unprefixed-then-begins.ensures)
    (name_of_axis c.args.text.now c.in_ok-first.first.now c.in_ok-first.rest.now c.in-Some.behind.now c.in_ok-first.ensures c.in-Some.ensures c.if-begins.ensures)

pub returns-in-Some-after_byte : goal.returns-in-Some-after_byte
returns-in-Some-after_byte c =
    name_with_star c.args.text.now c.in_ok-first.first.now c.in_ok-first.rest.now c.in-Some.behind.now c.in-Some-after_byte.after.now c.in_ok-first.ensures c.in-Some.ensures c.in-Some-after_byte.ensures
