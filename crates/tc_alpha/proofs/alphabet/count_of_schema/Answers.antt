use Rattle.std.proofs.Common.{◌≡◌, ◌+◌, ◌++◌, length, vec_len, flat_map, sym, ap, ◌∙◌, arith}
use Rattle.std.proofs.lemmas.List.{length-map}
use Rattle.tc_model.specs.Views as see
use Rattle.tc_model.specs.Symbols.{mention_cmp, mentions_in_grammar, with_namespace, in_order, symbols_of_schema}
use Rattle.tc_alpha.specs.Views.{mention, seen}
use Rattle.tc_alpha.proofs.alphabet.count_of_schema.Goals as goal

pub returns : goal.returns
returns c =
    let kept = c.put_in_order.new.mentions in
    let count : vec_len kept ≡ length kept.items = omega arith in
    let same : seen kept.items ≡ symbols_of_schema (see.grammar c.args.grammar.now) =
    c.put_in_order.ensures
    ∙ ap (in_order mention_cmp) (c.in_ok-all.ensures
    ∙ ap (flat_map with_namespace) (ap seen c.deref.ensures.value
    ∙ (c.in_ok-mention_grammar.ensures ∙ ap (λ l. l ++ mentions_in_grammar (see.grammar c.args.grammar.now)) (ap seen c.new-found.ensures.items))))
    in
    ap (λ n. n + 1) (c.len.ensures ∙ (count ∙ (sym (length-map kept.items mention) ∙ ap length same)))
