use Rattle.std.proofs.Common.{rules, arith, refl, ap, length, sym, subst, ◌∙◌, ◌==◌, List, ℕ}
use Rattle.std.proofs.lemmas.Bool.{true≢false, eqb-true}
use Rattle.tc_model.specs.PathTextTokens.{Tokens}
use Rattle.tc_path.specs.Views.{tokens_of}
use Rattle.tc_path.proofs.TokenLaws.{no_length, no_tokens_yet, token_behind, tokens_end, tokens_fail, token_shorter, white_shorter}
use Rattle.tc_path.proofs.Refusals.{failed_ok}
use Rattle.tc_path.proofs.token.tokens.Goals as goal

pub loop-front-init : goal.loop-front-init
loop-front-init c = record { text = c.utf8.text; so_far = no_tokens_yet c.args.text.now c.in_ok-found.found.items c.in_ok-found.ensures.items }

pub loop-front-smaller : goal.loop-front-smaller
loop-front-smaller c = omega (arith, token_shorter c.in-Some.ensures, white_shorter c.loop-front.rest.now, ap length c.after_white-front.ensures)

pub loop-front-preserved : goal.loop-front-preserved
loop-front-preserved c = record {
  text = search rules;
  so_far =
      token_behind c.args.text.now c.loop-front.rest.now c.after_white-front.result.now c.in-Some.after.now c.loop-front.found.items c.push.new.self.items c.in-Some.token
      c.loop-front.invariant.so_far c.after_white-front.ensures c.in-Some.ensures c.in_ok-push.ensures.items;
}

pub returns-then-is_empty-clause-ok : goal.returns-then-is_empty-clause-ok
returns-then-is_empty-clause-ok c =
    subst (λ w. Tokens c.args.text.now (tokens_of w)) (sym c.into_bump_slice.ensures)
    (tokens_end c.args.text.now c.loop-front.rest.now c.after_white-front.result.now c.loop-front.found.items c.loop-front.invariant.so_far c.after_white-front.ensures
    (no_length c.after_white-front.result.now (eqb-true (length c.after_white-front.result.now) 0 (sym c.is_empty.ensures ∙ c.if-is_empty.true))))

pub returns-in_default-clause-no : goal.returns-in_default-clause-no
returns-in_default-clause-no c = (
  refl,
  tokens_fail c.args.text.now c.loop-front.rest.now c.after_white-front.result.now c.loop-front.found.items c.loop-front.invariant.so_far c.after_white-front.ensures
      (λ e. true≢false (sym (ap (λ (w : List ℕ). length w == 0) e) ∙ (sym c.is_empty.ensures ∙ c.if-is_empty.false))) c.in_default.ensures,
)

pub returns-in_err-push-clause-ok : goal.returns-in_err-push-clause-ok
returns-in_err-push-clause-ok c = failed_ok c.from_residual-in_err-push.result _ _ c.from_residual-in_err-push.ensures.1

pub returns-in_err-found-clause-ok : goal.returns-in_err-found-clause-ok
returns-in_err-found-clause-ok c = failed_ok c.from_residual.result _ _ c.from_residual.ensures.1
