-- Levels that are in normal form already, and what comes first where one isn't.
use Rattle.std.proofs.Common.{◌≡◌, ℕ, suc, ◌+◌, ◌-◌, ◌<◌, ◌≤◌, List, Bool, true, false, ◌||◌, cond, refl, ap, sym, ◌∙◌, subst, length, get_or, drop, Option, None, Some, Bor, MatchOption, arith}
use Rattle.std.proofs.lemmas.Bool.{true≢false}
use Rattle.std.proofs.lemmas.List.{drop_all}
use Rattle.tc_model.specs.Names.{ExpandedName}
use Rattle.tc_model.specs.Trees.{Trees, none, text, element, is_white_space_only, kept, normal_form, IsNormal}
use Rattle.tc_model.specs.Views.{name, trees, before}
use Rattle.tc_model.specs.NormalLevels.{begins_with_text, IsLevelNormal, KidsStay, IsUnchanged, IsTextChanged, IsChange, kids_change}
use Rattle.tc_model.specs.declared.normal.Change.{Change}
use Rattle.tc_model.specs.declared.normal.Change.TheVariants.{Kids}
use Rattle.tc_model.specs.declared.tree.Name.{Name}
use Rattle.tc_model.specs.declared.tree.Node.{Node, Elem, Text}
use Rattle.tc_model.proofs.Views.{before_elem, before_text, left_one}

keeps : (s : List ℕ) (h : Trees) → is_white_space_only s ≡ false → kept s h ≡ text s h
keeps s h w = ap (λ v. cond v h (text s h)) w

-- such a level is its normal form
pub level_normal : (b : Bool) (h : Trees) → IsLevelNormal b h → normal_form h ≡ h
level_normal b none s = refl
level_normal b (text t none) s = keeps t none s.1
level_normal b (text t (text u rest)) s = absurd (true≢false s.2.0)
level_normal b (text t (element n kids rest)) s = keeps t (normal_form (element n kids rest)) s.1 ∙ ap (text t) (level_normal true (element n kids rest) s.2)
level_normal b (element n kids rest) s = ap (λ k. element n k (normal_form rest)) s.0 ∙ ap (element n kids) (level_normal false rest s.1)

or_none : (a b : Bool) → (a || b) ≡ false → (a ≡ false) × (b ≡ false)
or_none true b e = absurd (cc)
or_none false b e = (refl, e)

-- a text that stays
pub text_kept : (x : Node) (s : Bor (List ℕ)) → x ≡ Text s → (behind : Bool) → (behind || is_white_space_only s.now) ≡ false → IsUnchanged behind x
text_kept x s is behind e rest =
    let parts = or_none behind (is_white_space_only s.now) e in
    let at : before x rest ≡ text s.now rest = ap (λ (y : Node). before y rest) is ∙ before_text s rest in
    let alone : before x none ≡ text s.now none = ap (λ (y : Node). before y none) is ∙ before_text s none in (
      λ a. subst (IsLevelNormal behind) (sym at) (parts.0, parts.1, subst (λ w. IsLevelNormal (begins_with_text w) rest) alone a),
      λ p o k. subst (KidsStay (suc p) o) (sym at) k,
    )

-- a text that is joined to another or dropped
pub text_changed : (x : Node) (s : Bor (List ℕ)) → x ≡ Text s → (behind : Bool) → (behind || is_white_space_only s.now) ≡ true → IsTextChanged behind (before x none)
text_changed x s is behind e =
    let alone : before x none ≡ text s.now none = ap (λ (y : Node). before y none) is ∙ before_text s none in
    subst (IsTextChanged behind) (sym alone) e

-- an element, by its children
pub element_looked : (x : Node) (n : Name) (kids : Bor (List Node)) → x ≡ Elem n kids → (behind : Bool) (new : Option (Bor (List Node))) (r : Change) → r ≡ kids_change new
    → MatchOption new (IsNormal (trees kids.now)) (λ out. trees out.now ≡ normal_form (trees kids.now)) → IsChange behind x r
element_looked x n kids is behind None r e h =
    let kept_here : IsUnchanged behind x = λ rest.
    let at : before x rest ≡ element (name n) (trees kids.now) rest = ap (λ (y : Node). before y rest) is ∙ before_elem n kids rest in
    let alone : before x none ≡ element (name n) (trees kids.now) none = ap (λ (y : Node). before y none) is ∙ before_elem n kids none in (
      λ a. subst (IsLevelNormal behind) (sym at) (h, subst (λ w. IsLevelNormal (begins_with_text w) rest) alone a),
      λ p o k. subst (KidsStay (suc p) o) (sym at) (h, k),
    )
    in
    subst (λ (w : Change). IsChange behind x w) (sym e) kept_here
element_looked x n kids is behind (Some k) r e h =
    let changed_here : IsChange behind x (Kids k) = λ rest.
    let at : before x rest ≡ element (name n) (trees kids.now) rest = ap (λ (y : Node). before y rest) is ∙ before_elem n kids rest in
    subst (KidsStay 0 (Some (trees k.now))) (sym at) h
    in
    subst (λ (w : Change). IsChange behind x w) (sym e) changed_here

-- what is known of trees of which so many stay
pub record AreLooked (ns : List Node) (i : ℕ) (behind : Bool) : Type 0 where
  pub level : IsLevelNormal behind (trees (drop i ns)) → IsLevelNormal false (trees ns)
  pub before_it : (p : ℕ) (o : Option Trees) → KidsStay p o (trees (drop i ns)) → KidsStay (i + p) o (trees ns)

pub none_looked : (ns : List Node) → AreLooked ns 0 false
none_looked ns = record { level = λ a. a; before_it = λ p o k. let e : p ≡ 0 + p = omega arith in subst (λ m. KidsStay m o (trees ns)) e k }

module _ (ns : List Node) (i : ℕ) (x : Node) (h : i < length ns) (e : x ≡ get_or ns i x) (behind : Bool) (so_far : AreLooked ns i behind) where
  left : trees (drop i ns) ≡ before x (trees (drop (i + 1) ns))
  left = left_one ns i x h e

  pub one_kept : (new : Bool) → IsUnchanged behind x → new ≡ begins_with_text (before x none) → AreLooked ns (i + 1) new
  one_kept new k is =
      let here = k (trees (drop (i + 1) ns)) in
      record {
        level = λ a. so_far.level (subst (IsLevelNormal behind) (sym left) (here.0 (subst (λ b. IsLevelNormal b (trees (drop (i + 1) ns))) is a)));
        before_it = λ p o m.
            let same : i + suc p ≡ i + 1 + p = omega arith in
            subst (λ q. KidsStay q o (trees ns)) same (so_far.before_it (suc p) o (subst (KidsStay (suc p) o) (sym left) (here.1 p o m)));
      }

  pub one_changed : (o : Option Trees) → ((rest : Trees) → KidsStay 0 o (before x rest)) → KidsStay i o (trees ns)
  one_changed o k =
      let same : i + 0 ≡ i = omega arith in
      subst (λ q. KidsStay q o (trees ns)) same (so_far.before_it 0 o (subst (KidsStay 0 o) (sym left) (k (trees (drop (i + 1) ns)))))

pub all_looked : (ns : List Node) (i : ℕ) (behind : Bool) → length ns ≤ i → AreLooked ns i behind → IsNormal (trees ns)
all_looked ns i behind past h = level_normal false (trees ns) (h.level (subst (λ (w : List Node). IsLevelNormal behind (trees w)) (sym (drop_all i ns past)) tt))

-- what is left of the trees before the first that changes
abbrev pub AreLeft : ℕ → ℕ → Option Trees → Trees → Type 0
AreLeft place i o h = i ≤ place → KidsStay (place - i) o h

pub text_left : (place i : ℕ) (o : Option Trees) (h rest : Trees) (s : List ℕ) → h ≡ text s rest → AreLeft place i o h → AreLeft place (i + 1) o rest
text_left place i o h rest s is k l =
    let at : place - i ≡ suc (place - (i + 1)) = omega (arith, l) in
    let before_it : i ≤ place = omega (arith, l) in
    subst (KidsStay (suc (place - (i + 1))) o) is (subst (λ m. KidsStay m o h) at (k before_it))

module _ (place i : ℕ) (o : Option Trees) (h rest : Trees) (n : ExpandedName) (kids : Trees) (is : h ≡ element n kids rest) (k : AreLeft place i o h) where
  stays : i < place → (normal_form kids ≡ kids) × KidsStay (place - (i + 1)) o rest
  stays l =
      let at : place - i ≡ suc (place - (i + 1)) = omega (arith, l) in
      let before_it : i ≤ place = omega (arith, l) in
      subst (KidsStay (suc (place - (i + 1))) o) is (subst (λ m. KidsStay m o h) at (k before_it))

  pub element_left : AreLeft place (i + 1) o rest
  element_left l = let below : i < place = omega (arith, l) in (stays below).1

  pub kids_before : i < place → normal_form kids ≡ kids
  kids_before l = (stays l).0

  pub kids_here : i ≡ place → (new : Trees) → o ≡ Some new → new ≡ normal_form kids
  kids_here e new some =
      let at : place - i ≡ 0 = omega (arith, e) in
      let before_it : i ≤ place = omega (arith, e) in
      subst (λ w. KidsStay 0 w (element n kids rest)) some (subst (KidsStay 0 o) is (subst (λ m. KidsStay m o h) at (k before_it)))
