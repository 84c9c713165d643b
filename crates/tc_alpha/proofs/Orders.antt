-- The order of mentions.
use Rattle.std.proofs.Common.{◌≡◌, ℕ, List, refl, ap, ◌∙◌, true}
use Rattle.std.specs.Cmp.{IsTotalOrder}
use Rattle.std.specs.Cmp.Lexicographic.{slice_cmp}
use Rattle.std.specs.Ordering.{nat_cmp, ordering_then, ordering_reverse, on, then_cmp, is_eq}
use Rattle.std.specs.declared.cmp.Ordering.{Ordering}
use Rattle.std.specs.declared.cmp.Ordering.TheVariants.{Less, Equal, Greater}
use Rattle.std.specs.FinMap.{IsAntisymmetric, nat_cmp-IsAntisymmetric, slice_cmp-IsAntisymmetric}
use Rattle.std.proofs.lemmas.Cmp.{on_total, then_total, nat_list_cmp_total, tied_itself}
use Rattle.tc_model.specs.Names.{ExpandedName}
use Rattle.tc_model.specs.Symbols.{Mention, a_name, a_namespace, mention_cmp}

names : IsTotalOrder (then_cmp (on (λ (n : ExpandedName). n.uri) (slice_cmp nat_cmp)) (on (λ (n : ExpandedName). n.local) (slice_cmp nat_cmp)))
names = then_total (on_total (λ n. n.uri) nat_list_cmp_total) (on_total (λ n. n.local) nat_list_cmp_total)

same_bytes : (xs ys : List ℕ) → slice_cmp nat_cmp xs ys ≡ Equal → xs ≡ ys
same_bytes = slice_cmp-IsAntisymmetric nat_cmp-IsAntisymmetric

both_equal : (a b : Ordering) → ordering_then a b ≡ Equal → (a ≡ Equal) × (b ≡ Equal)
both_equal Less b e = cc
both_equal Equal b e = (refl, e)
both_equal Greater b e = cc

pub same_parts : (n m : ExpandedName) → n.uri ≡ m.uri → n.local ≡ m.local → n ≡ m
same_parts n m e f = ap (λ (u : List ℕ). let x : ExpandedName = record { uri = u; local = n.local } in x) e ∙ ap (λ (l : List ℕ). let x : ExpandedName = record { uri = m.uri; local = l } in x) f

-- only a mention is equal to itself
pub same : IsAntisymmetric mention_cmp
same (a_name n) (a_name m) e =
    let both = both_equal (slice_cmp nat_cmp n.uri m.uri) (slice_cmp nat_cmp n.local m.local) e in
    ap a_name (same_parts n m (same_bytes n.uri m.uri both.0) (same_bytes n.local m.local both.1))
same (a_name n) (a_namespace v) e = cc
same (a_namespace u) (a_name m) e = cc
same (a_namespace u) (a_namespace v) e = ap a_namespace (same_bytes u v e)

back : (x y : Mention) → mention_cmp x y ≡ ordering_reverse (mention_cmp y x)
back (a_name n) (a_name m) = IsTotalOrder.antisymm names n m
back (a_name n) (a_namespace v) = refl
back (a_namespace u) (a_name m) = refl
back (a_namespace u) (a_namespace v) = IsTotalOrder.antisymm nat_list_cmp_total u v

onward : (x y z : Mention) → mention_cmp x y ≡ Less → mention_cmp y z ≡ Less → mention_cmp x z ≡ Less
onward (a_name n) (a_name m) (a_name k) p q = IsTotalOrder.trans names n m k p q
onward (a_name n) (a_namespace v) (a_name k) p q = cc
onward (a_name n) y (a_namespace w) p q = refl
onward (a_namespace u) (a_name m) z p q = cc
onward (a_namespace u) (a_namespace v) (a_name k) p q = cc
onward (a_namespace u) (a_namespace v) (a_namespace w) p q = IsTotalOrder.trans nat_list_cmp_total u v w p q

pub total : IsTotalOrder mention_cmp
total = record { antisymm = back; trans = onward; congr = λ x y z e. ap (λ w. mention_cmp w z) (same x y e) }

pub itself : (x : Mention) → mention_cmp x x ≡ Equal
itself x = tied_itself total x

equal_only : (r : Ordering) → is_eq r ≡ true → r ≡ Equal
equal_only Less e = cc
equal_only Equal e = refl
equal_only Greater e = cc

pub same_mention : (x y : Mention) → is_eq (mention_cmp x y) ≡ true → x ≡ y
same_mention x y e = same x y (equal_only (mention_cmp x y) e)
