use Rattle.std.proofs.Common.{◌≡◌, ◌∷◌, [], ◌++◌, ◌∙◌, refl, sym, ap, map, drop, length, append_assoc, append-nil, List, Option, Some, None, string_bytes, arith}
use Rattle.std.specs.Vec.Iter.{into_iter_items, into_iter_len, into_iter_steps}
use Rattle.std.specs.declared.vec.IntoIter.{IntoIter}
use Rattle.std.proofs.lemmas.List.{map-append}
use Rattle.tc_io.proofs.Fronts.{on_err}
use Rattle.tc_top.proofs.program.words_behind_name.Goals as goal

nothing_left : {X : Type 0} (l : List X) → length l ≡ 0 → l ≡ []
nothing_left [] h = refl
nothing_left (x ∷ xs) h = absurd (omega arith)

at_end : {X Z : Type 0} (it : IntoIter X Z) → into_iter_len it ≡ 0 → into_iter_items it ≡ []
at_end it e = nothing_left (into_iter_items it) (sym it.rest.ok.0 ∙ e)

-- what follows the name
after_name : {X Z : Type 0} (old new : IntoIter X Z) (name : Option X) → into_iter_steps old name new → drop 1 (into_iter_items old) ≡ into_iter_items new
after_name old new (Some x) s = ap (drop 1) s.0
after_name old new None s = ap (drop 1) (at_end old s.0) ∙ sym (at_end new s.1)

pub loop-word-init : goal.loop-word-init
loop-word-init c = (refl, c.new-words.ensures, c.into_iter-word-iterator.result.rest.ok.0)

pub loop-word-preserved : goal.loop-word-preserved
loop-word-preserved c =
    let at = c.loop-word.invariant in
    let yielded = c.loop-word.yielded in
    let word = c.in-Some.word in (
      append_assoc yielded (word ∷ []) _ ∙ (ap (λ l. yielded ++ l) (sym c.in-Some.ensures.steps.0) ∙ at.0),
      c.in_ok-push.ensures.ok
          ∙ (ap (λ w. w ++ c.as_str.result.now ∷ []) at.1 ∙ (ap (λ t. map string_bytes yielded ++ t ∷ []) c.as_str.ensures.value ∙ sym (map-append string_bytes yielded (word ∷ [])))),
      c.next.new.self.rest.ok.0,
    )

never_empty : {X : Type 0} (xs : List X) (y : X) (ys : List X) → xs ++ y ∷ ys ≡ [] → ⊥
never_empty [] y ys e = absurd (cc)
never_empty (x ∷ xs) y ys e = absurd (cc)

-- there is a word where one is pushed
pub returns-in_err-push-clause-lack : goal.returns-in_err-push-clause-lack
returns-in_err-push-clause-lack c =
    let at = c.loop-word.invariant in
    let yielded = c.loop-word.yielded in
    let whole = ap (λ l. yielded ++ l) (sym c.in-Some.ensures.steps.0) ∙ at.0 in
    let behind = after_name c.args.arguments c.next-name.new.self c.next-name.result c.next-name.ensures.cases in
    on_err c.from_residual.result (λ none. never_empty yielded c.in-Some.word _ (whole ∙ (ap into_iter_items c.into_iter-word-iterator.ensures.into_iter_gives ∙ (sym behind ∙ none))))

pub returns-clause-words : goal.returns-clause-words
returns-clause-words c =
    let at = c.loop-word.invariant in
    let yielded = c.loop-word.yielded in
    let rest = at_end c.loop-word.word-iterator c.in-None.ensures.steps.0 in
    let all : yielded ≡ into_iter_items c.into_iter-word-iterator.result = sym (append-nil yielded) ∙ (ap (λ l. yielded ++ l) (sym rest) ∙ at.0) in
    let behind = after_name c.args.arguments c.next-name.new.self c.next-name.result c.next-name.ensures.cases in
    at.1 ∙ ap (map string_bytes) (all ∙ (ap into_iter_items c.into_iter-word-iterator.ensures.into_iter_gives ∙ sym behind))
