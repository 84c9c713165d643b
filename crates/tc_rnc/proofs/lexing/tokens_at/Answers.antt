use Rattle.std.proofs.Common.{arith, ◌∷◌, [], ap, subst, sym, ◌∙◌}
use Rattle.tc_rnc.specs.Lexed.{ReadsTokens}
use Rattle.tc_rnc.specs.Views as seen
use Rattle.tc_model.proofs.CompactSyntaxOrdered.{word_shorter}
use Rattle.tc_rnc.proofs.LexLaws.{none_yet_read, one_more_read, skips_within}
use Rattle.tc_rnc.proofs.Views.{tokens_append}
use Rattle.tc_rnc.proofs.lexing.tokens_at.Goals as goal

pub loop-token-init : goal.loop-token-init
loop-token-init c =
    let space = c.after_space-rest in
    record {
      reads = subst (λ z. ReadsTokens c.args.total c.args.text.now (seen.tokens z) space.result.now) (sym c.in_ok-list.ensures.items)
          (none_yet_read c.args.total c.args.text.now space.result.now c.requires.within space.ensures.skips space.ensures.stops);
      text = space.utf8;
    }

pub loop-token-smaller : goal.loop-token-smaller
loop-token-smaller c =
    omega (arith, skips_within c.after_space-rest-in-Some.ensures.skips, word_shorter c.in-Some.ensures.0)

pub loop-token-preserved : goal.loop-token-preserved
loop-token-preserved c =
    let space = c.after_space-rest-in-Some in
    let before = c.loop-token in
    record {
      reads = subst (λ z. ReadsTokens c.args.total c.args.text.now z space.result.now)
          (sym (ap seen.tokens c.in_ok-add.ensures.items ∙ tokens_append before.list.items (c.in-Some.token ∷ [])))
          (one_more_read c.args.total c.args.text.now before.rest.now c.in-Some.after.now space.result.now (seen.tokens before.list.items) (seen.token c.in-Some.token)
          before.invariant.reads c.in-Some.ensures.0 c.in-Some.ensures.1 space.ensures.skips space.ensures.stops);
      text = space.utf8;
    }
