use Rattle.std.proofs.Common.{rules, ap, sym, subst, ◌∙◌, map, Ok, Err}
use Rattle.std.specs.List.Sorted.{IsStrictlySortedBy}
use Rattle.std.proofs.lemmas.Fn.{always_returns_same}
use Rattle.tc_alpha.specs.Kept.{known}
use Rattle.tc_alpha.specs.Views.{mention as see_mention}
use Rattle.tc_model.specs.Symbols.{mention_cmp, place_of, AreSymbols}
use Rattle.tc_alpha.proofs.Places.{searched_by}
use Rattle.tc_alpha.proofs.alphabet.Alphabet.place.Goals as goal

pub returns-in-Ok-clause-place : goal.returns-in-Ok-clause-place
returns-in-Ok-clause-place c =
    let m = see_mention c.args.mention.now in
    let found = c.in-Ok.ensures.position (λ y. mention_cmp (known y) m) (always_returns_same _ _ _ (λ a r g called. (search rules, search rules))) in
    let rises = subst (λ l. IsStrictlySortedBy mention_cmp (map known l)) (sym c.deref.ensures.value) (AreSymbols.rise c.self.invariant.0) in
    searched_by known c.deref.result.now m (Ok c.in-Ok.place) rises c.in-Ok.ensures.bound found
    ∙ (ap (λ l. place_of m (map known l)) c.deref.ensures.value ∙ ap (place_of m) c.self.view_is)

pub returns-in-Err-clause-place : goal.returns-in-Err-clause-place
returns-in-Err-clause-place c =
    let m = see_mention c.args.mention.now in
    let found = c.in-Err.ensures.position (λ y. mention_cmp (known y) m) (always_returns_same _ _ _ (λ a r g called. (search rules, search rules))) in
    let rises = subst (λ l. IsStrictlySortedBy mention_cmp (map known l)) (sym c.deref.ensures.value) (AreSymbols.rise c.self.invariant.0) in
    c.len.ensures
    ∙ (sym c.deref.ensures.len
    ∙ (searched_by known c.deref.result.now m (Err c.in-Err.field-0) rises c.in-Err.ensures.bound found
    ∙ (ap (λ l. place_of m (map known l)) c.deref.ensures.value ∙ ap (place_of m) c.self.view_is)))
