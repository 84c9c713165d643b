use Rattle.std.proofs.Common.{◌≡◌, ◌<◌, ◌++◌, true, ap, ◌∙◌, length, subst, arith}
use Rattle.std.specs.Prelude.{string_bytes}
use Rattle.tc_model.specs.Symbols.{is_mentioned}
use Rattle.tc_alpha.specs.Free.{mention_by}
use Rattle.tc_alpha.proofs.Alike.{is_taken}
use Rattle.tc_alpha.proofs.Fresh.{one_tried}
use Rattle.tc_alpha.proofs.alphabet.Alphabet.free_text.Goals as goal

pub loop-tried-preserved : goal.loop-tried-preserved
loop-tried-preserved c =
    let xs = c.args.self.now in
    let t = string_bytes c.loop-tried.text in
    let low : c.place.result < length xs = omega arith in
    let taken = subst (λ m. is_mentioned m xs ≡ true) (c.mention_by.ensures ∙ ap (mention_by c.args.within) c.as_str.ensures.value) (is_taken _ (length xs) (subst (λ k. k < length xs) c.place.ensures.place low)) in
    one_tried (λ text. is_mentioned (mention_by c.args.within text) xs) (length xs) c.loop-tried._tried t _ _ (omega arith) taken
    (c.in_ok-push.ensures.bytes ∙ ap (λ l. t ++ l) (c.in_ok-push.ensures.ascii (omega arith)))
    c.loop-tried.invariant
