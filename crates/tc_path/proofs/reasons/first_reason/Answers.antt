use Rattle.std.proofs.Common.{◌≡◌, ◌+◌, ◌-◌, ◌<◌, ℕ, List, Option, None, Some, arith, sym, ap, ◌∙◌, map, length, take, drop, get_or}
use Rattle.std.proofs.lemmas.List.{drop_more, take_all, length-drop}
use Rattle.tc_base.specs.declared.reasons.Why.{Why}
use Rattle.tc_path.specs.declared.reasons.Context.{Context}
use Rattle.tc_path.specs.declared.reasons.Before.{Before}
use Rattle.tc_path.specs.declared.token.Token.{Token}
use Rattle.tc_path.specs.Views.{token}
use Rattle.tc_path.specs.Reasons.{reason_at, within, brackets_behind, behind, or_else, first_from}
use Rattle.tc_path.proofs.reasons.first_reason.Goals as goal

-- the reason at a token, or that of those behind it
at_token : (context : Context) (count : ℕ) (before : Before) (ts : List Token) (k : ℕ) (d : Token) (inner : Context) (found : Option Why) → k < length ts → inner ≡ within context count
    → found ≡ reason_at inner before (token (get_or ts k d)) (map token (take (length ts - (k + 1)) (drop (k + 1) ts)))
    → first_from context count before (map token (drop k ts))
    ≡ or_else found (first_from context (brackets_behind count (token (get_or ts k d))) (behind before (token (get_or ts k d))) (map token (drop (k + 1) ts)))
at_token context count before ts k d inner found h is asked =
    let x = token (get_or ts k d) in
    let rest = drop (k + 1) ts in
    let others = first_from context (brackets_behind count x) (behind before x) (map token rest) in
    let all : take (length ts - (k + 1)) rest ≡ rest = take_all (length ts - (k + 1)) rest (omega (arith, length-drop (k + 1) ts)) in
    let same : found ≡ reason_at (within context count) before x (map token rest) =
    asked ∙ (ap (λ i. reason_at i before x (map token (take (length ts - (k + 1)) rest))) is ∙ ap (λ w. reason_at (within context count) before x (map token w)) all) in
    ap (λ w. first_from context count before (map token w)) (drop_more ts k d h) ∙ ap (λ o. or_else o others) (sym same)

-- past a token without a reason
past_token : (context : Context) (count n : ℕ) (before b : Before) (ts : List Token) (k : ℕ) (d : Token) (inner : Context) → k < length ts → inner ≡ within context count
    → None ≡ reason_at inner before (token (get_or ts k d)) (map token (take (length ts - (k + 1)) (drop (k + 1) ts))) → n ≡ brackets_behind count (token (get_or ts k d)) → b ≡ behind before (token (get_or ts k d))
    → first_from context n b (map token (drop (k + 1) ts)) ≡ first_from context count before (map token (drop k ts))
past_token context count n before b ts k d inner h is asked e f =
    let rest = map token (drop (k + 1) ts) in
    ap (λ m. first_from context m b rest) e ∙ (ap (λ y. first_from context (brackets_behind count (token (get_or ts k d))) y rest) f ∙ sym (at_token context count before ts k d inner None h is asked))

pub returns-in-Some : goal.returns-in-Some
returns-in-Some c =
    sym (at_token c.args.context c.loop-index.brackets c.loop-index.before c.args.tokens.now c.loop-index.index _ c.within-inner.result (Some c.in-Some.why) c.loop-index-test.true c.within-inner.ensures c.in-Some.ensures)
    ∙ c.loop-index.invariant.same

pub loop-index-preserved : goal.loop-index-preserved
loop-index-preserved c = record {
  same =
      past_token c.args.context c.loop-index.brackets c.brackets_behind-brackets.result c.loop-index.before c.behind-before.result c.args.tokens.now c.loop-index.index _ c.within-inner.result c.loop-index-test.true
      c.within-inner.ensures c.in_default.ensures c.brackets_behind-brackets.ensures.same c.behind-before.ensures
      ∙ c.loop-index.invariant.same;
  count = omega (arith, c.brackets_behind-brackets.ensures.few, c.loop-index.invariant.count);
}
