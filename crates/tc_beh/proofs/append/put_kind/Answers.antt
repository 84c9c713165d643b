use Rattle.std.proofs.Common.{◌≡◌, ℕ, ◌==◌, Bool, false, IsTrue, ◌↔◌, ap, ◌∙◌, sym, subst}
use Rattle.std.proofs.lemmas.Bool.{false≢true}
use Rattle.std.specs.List.{Contains}
use Rattle.tc_beh.specs.RoomsOf.{AreTexts}
use Rattle.tc_beh.proofs.append.put_kind.Goals.{else-is_text-via-then-is_text+else-is_text-2, else-is_text-via-else-is_text}
use Rattle.tc_beh.proofs.append.put_kind.Goals as goal

-- no text where the test for one fails
no_text : {A : Type 0} (n : ℕ) (b : Bool) → b ≡ (n == 1) → b ≡ false → n ≡ 1 → A
no_text n b e f g = absurd (false≢true (sym f ∙ (e ∙ ap (λ m. m == 1) g)))

pub returns-clause-live : goal.returns-clause-live
returns-clause-live c =
    let has = subst (λ l. IsTrue c.has_flag.result ↔ Contains l 1) c.flags-3.ensures.value c.has_flag.ensures in
    let apart : AreTexts c.args.hedge.now c.args.tree.now → ⊥ = elim c.else-is_text.branch [
      | else-is_text-via-then-is_text+else-is_text-2 w ↦ λ t. no_text _ _ w.is_text-then-is_text.ensures w.if-is_text-2.false t.1
      | else-is_text-via-else-is_text w ↦ λ t. no_text _ _ c.is_text.ensures w.if-is_text.false t.0
    ]
    in
    (λ w. (apart, has.0 w), λ w. has.1 w.1)
