-- What comparisons of mentions answer.
use Rattle.std.proofs.Common.{◌≡◌, Bool, ◌&&◌, refl, ap, ◌∙◌, sym}
use Rattle.std.specs.Ordering.{ordering_then, is_eq, nat_cmp}
use Rattle.std.specs.declared.cmp.Ordering.{Ordering}
use Rattle.std.specs.declared.cmp.Ordering.TheVariants.{Less, Equal, Greater}
use Rattle.std.specs.Cmp.Lexicographic.{slice_cmp, texts_ties}
use Rattle.tc_model.specs.Symbols.{mention_cmp}
use Rattle.tc_alpha.specs.Views.{mention}
use Rattle.tc_alpha.specs.declared.mentions.Mention.{Mention}
use Rattle.tc_alpha.specs.declared.mentions.Mention.TheVariants.{Name, Namespace}
use Rattle.tc_alpha.specs.contracts.mentions.MentionOrd.TheImpl.{cmp-value}
use Rattle.tc_alpha.specs.contracts.mentions.MentionPartialEq.TheImpl.{eq-value}

pub cmp_is : (x y : Mention) → (cmp-value).it x y ≡ mention_cmp (mention x) (mention y)
cmp_is (Name n) (Name m) = refl
cmp_is (Name n) (Namespace v) = refl
cmp_is (Namespace u) (Name m) = refl
cmp_is (Namespace u) (Namespace v) = refl

is_eq_then : (a b : Ordering) → is_eq (ordering_then a b) ≡ (is_eq a && is_eq b)
is_eq_then Less b = refl
is_eq_then Equal b = refl
is_eq_then Greater b = refl

both : (p q : Bool) (a b : Ordering) → p ≡ is_eq a → q ≡ is_eq b → (p && q) ≡ is_eq (ordering_then a b)
both p q a b e f = ap (λ x. x && q) e ∙ (ap (λ x. is_eq a && x) f ∙ sym (is_eq_then a b))

pub eq_is : (x y : Mention) → (eq-value).it x y ≡ is_eq (mention_cmp (mention x) (mention y))
eq_is (Name n) (Name m) = both _ _ (slice_cmp nat_cmp n.uri.now m.uri.now) (slice_cmp nat_cmp n.local.now m.local.now) (texts_ties n.uri.now m.uri.now) (texts_ties n.local.now m.local.now)
eq_is (Name n) (Namespace v) = refl
eq_is (Namespace u) (Name m) = refl
eq_is (Namespace u) (Namespace v) = texts_ties u.now v.now
