use Rattle.std.proofs.Common.{◌≡◌, ℕ, ◌+◌, ◌<◌, ◌∙◌, ◌||◌, Bool, true, false, List, Bor, ap, bytes_eq, drop, get_or, length, map, refl, sym}
use Rattle.std.specs.List.{list_any}
use Rattle.std.proofs.lemmas.List.{drop_all, drop_more}
use Rattle.tc_sheet.proofs.elements.is_among.Goals as goal

abbrev among : List ℕ → List (Bor (List ℕ)) → Bool
among word ws = list_any (bytes_eq word) (map (λ w. w.now) ws)

-- one step of the loop over words
left : (word : List ℕ) (ws : List (Bor (List ℕ))) (k : ℕ) (d : Bor (List ℕ)) → k < length ws → (b : Bool) → b ≡ bytes_eq word (get_or ws k d).now → among word (drop k ws) ≡ (b || among word (drop (k + 1) ws))
left word ws k d lt b e = ap (among word) (drop_more ws k d lt) ∙ ap (λ b. b || among word (drop (k + 1) ws)) (sym e)

pub loop-other-init : goal.loop-other-init
loop-other-init c = refl

pub loop-other-preserved : goal.loop-other-preserved
loop-other-preserved c = sym (left c.args.word.now c.args.words.now c.loop-other.other-index _ c.loop-other-test.true false c.if-eq.ensures) ∙ c.loop-other.invariant

pub returns-then-eq : goal.returns-then-eq
returns-then-eq c = sym (left c.args.word.now c.args.words.now c.loop-other.other-index _ c.loop-other-test.true true c.if-eq.ensures) ∙ c.loop-other.invariant

pub returns : goal.returns
returns c = ap (among c.args.word.now) (sym (drop_all c.loop-other.other-index c.args.words.now c.loop-other-test.false)) ∙ c.loop-other.invariant
