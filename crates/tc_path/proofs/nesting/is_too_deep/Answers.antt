use Rattle.std.proofs.Common.{◌≡◌, ◌<◌, ◌≤◌, ◌+◌, ℕ, List, [], ◌∷◌, arith, max, length, get_or, map, drop, sym, subst}
use Rattle.std.proofs.lemmas.List.{drop_more}
use Rattle.tc_model.specs.PathTextTokens.{Token, most_open, open_behind}
use Rattle.tc_path.specs.declared.token.Token.{Token as CodeToken}
use Rattle.tc_path.specs.Views.{token}
use Rattle.tc_path.proofs.nesting.is_too_deep.Goals as goal

-- at least as many are open as before
at_least : (n : ℕ) (ts : List Token) → n ≤ most_open n ts
at_least n [] = omega arith
at_least n (t ∷ ts) = omega arith

deep_here : (ts : List CodeToken) (i : ℕ) (d : CodeToken) (n k : ℕ) → i < length ts → k ≡ open_behind n (token (get_or ts i d)) → 2000 < k → 2000 < most_open n (map token (drop i ts))
deep_here ts i d n k h e l =
    let behind : open_behind n (token (get_or ts i d)) ≤ most_open (open_behind n (token (get_or ts i d))) (map token (drop (i + 1) ts)) =
    at_least (open_behind n (token (get_or ts i d))) (map token (drop (i + 1) ts)) in
    let here : 2000 < max n (most_open (open_behind n (token (get_or ts i d))) (map token (drop (i + 1) ts))) = omega (arith, e, behind) in
    subst (λ w. 2000 < most_open n (map token w)) (sym (drop_more ts i d h)) here

pub returns-then-count-gt-DEEPEST : goal.returns-then-count-gt-DEEPEST
returns-then-count-gt-DEEPEST c =
    c.loop-token.invariant.forth
    (deep_here c.args.tokens.now c.loop-token.token-index _ c.loop-token.count c.open_behind-count.result c.loop-token-test.true c.open_behind-count.ensures c.if-count-gt-DEEPEST.true)
