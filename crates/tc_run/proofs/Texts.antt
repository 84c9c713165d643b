-- Trees tree by tree: their text, and their letters.
use Rattle.std.proofs.Common.{◌≡◌, ℕ, ◌+◌, ◌<◌, List, [], ◌∷◌, ◌++◌, refl, ap, ◌∙◌, sym, subst, drop, length, get_or, Bor, append_assoc, append-nil, arith}
use Rattle.std.proofs.lemmas.List.{drop_all}
use Rattle.tc_model.specs.Chains.{joined_texts}
use Rattle.tc_model.specs.Views as see
use Rattle.tc_model.specs.Trees as t
use Rattle.tc_model.specs.Trees.{beside}
use Rattle.tc_model.specs.declared.tree.Name.{Name}
use Rattle.tc_model.specs.declared.tree.Node.{Node, Elem, Text}
use Rattle.tc_model.proofs.NormalForm.{beside_assoc}
use Rattle.tc_model.proofs.Views.{left_elem, left_text}
use Rattle.tc_rules.specs.declared.rules.Marks.{Marks}
use Rattle.tc_run.specs.Lettered as l
use Rattle.tc_run.specs.Lettered.{bare}
use Rattle.tc_run.specs.Running.{symbols_by, predicates_by, IsLetteredIn}
use Rattle.tc_run.specs.Views.{before, trees}
use Rattle.tc_run.specs.declared.letters.Letter.{Letter}
use Rattle.tc_run.specs.declared.letters.Lettered.{Lettered, Text as TextOf, Elem as ElemOf}
use Rattle.tc_run.specs.declared.runner.Runner.{Runner}
use Rattle.tc_run.proofs.LetteredSteps.{bare_joined, lettered_joined}
use Rattle.tc_run.proofs.Views.{joined, before_joined, before_elem, before_text, left_one}

pub text_joined : (ns : List Lettered) (i : ℕ) (x : Lettered) (s : Bor (List ℕ)) (m : Marks) → i < length ns → x ≡ get_or ns i x → x ≡ TextOf s m
    → joined_texts (bare (trees (drop i ns))) ≡ s.now ++ joined_texts (bare (trees (drop (i + 1) ns)))
text_joined ns i x s m h e is =
    ap (λ y. joined_texts (bare y)) (left_one ns i x h e ∙ (ap (λ z. before z (trees (drop (i + 1) ns))) is ∙ before_text s m (trees (drop (i + 1) ns))))

pub elem_joined : (ns : List Lettered) (i : ℕ) (x : Lettered) (n : Bor Name) (y : Letter) (kids : Bor (List Lettered)) → i < length ns → x ≡ get_or ns i x → x ≡ ElemOf n y kids
    → joined_texts (bare (trees (drop i ns))) ≡ joined_texts (bare (trees kids.now)) ++ joined_texts (bare (trees (drop (i + 1) ns)))
elem_joined ns i x n y kids h e is =
    ap (λ z. joined_texts (bare z)) (left_one ns i x h e ∙ (ap (λ z. before z (trees (drop (i + 1) ns))) is ∙ before_elem n y kids (trees (drop (i + 1) ns))))

-- of one text alone
pub one_joined : (ns : List Lettered) (x : Lettered) (s : Bor (List ℕ)) (m : Marks) → length ns ≡ 1 → x ≡ get_or ns 0 x → x ≡ TextOf s m → s.now ≡ joined_texts (bare (trees ns))
one_joined ns x s m one e is =
    sym (text_joined ns 0 x s m (omega (arith, one)) e is
    ∙ (ap (λ zs. s.now ++ joined_texts (bare (trees zs))) (drop_all 1 ns (omega (arith, one))) ∙ append-nil s.now))

-- one piece more: u is t and the piece s, and j is s and what is left
pub joined_further : (t u s j k w : List ℕ) → j ≡ s ++ k → t ++ j ≡ w → u ≡ t ++ s → u ++ k ≡ w
joined_further t u s j k w e h g = ap (λ x. x ++ k) g ∙ (append_assoc t s k ∙ (ap (λ x. t ++ x) (sym e) ∙ h))

joined_none : (x : l.Lettered) → joined x l.none ≡ x
joined_none l.none = refl
joined_none (l.text s m rest) = ap (l.text s m) (joined_none rest)
joined_none (l.element n y m o kids rest) = ap (l.element n y m o kids) (joined_none rest)

-- one tree more is found
pub pushed_first : (ns : List Lettered) (x : Lettered) (k : l.Lettered) → joined (trees (ns ++ x ∷ [])) k ≡ joined (trees ns) (before x k)
pushed_first [] x k = before_joined x l.none k
pushed_first (n ∷ ns) x k =
    before_joined n (trees (ns ++ x ∷ [])) k ∙ (ap (before n) (pushed_first ns x k) ∙ sym (before_joined n (trees ns) (before x k)))

pushed_last : (ns : List Lettered) (x : Lettered) → trees (ns ++ x ∷ []) ≡ joined (trees ns) (before x l.none)
pushed_last ns x = sym (joined_none (trees (ns ++ x ∷ []))) ∙ pushed_first ns x l.none

pub found_further : (r : Runner) (numbered : List t.Trees) (now ns : List Lettered) (x : Lettered) → now ≡ ns ++ x ∷ [] → IsLetteredIn r numbered (trees ns) → IsLetteredIn r numbered (before x l.none)
    → IsLetteredIn r numbered (trees now)
found_further r numbered now ns x put h k =
    subst (IsLetteredIn r numbered) (sym (ap trees put ∙ pushed_last ns x)) (lettered_joined (symbols_by r) (predicates_by r) numbered (trees ns) (before x l.none) h k)

pub bare_further : (now ns : List Lettered) (x : Lettered) (h rest all : t.Trees) → now ≡ ns ++ x ∷ [] → h ≡ beside (bare (before x l.none)) rest → beside (bare (trees ns)) h ≡ all
    → beside (bare (trees now)) rest ≡ all
bare_further now ns x h rest all put e f =
    ap (λ z. beside z rest) (ap (λ w. bare (trees w)) put ∙ (ap bare (pushed_last ns x) ∙ bare_joined (trees ns) (before x l.none)))
    ∙ (beside_assoc (bare (trees ns)) (bare (before x l.none)) rest ∙ (ap (beside (bare (trees ns))) (sym e) ∙ f))

-- the tree that was found is that of the loop
pub text_found : (ns : List Node) (i : ℕ) (x : Node) (s : Bor (List ℕ)) (m : Marks) → i < length ns → x ≡ get_or ns i x → x ≡ Text s
    → see.trees (drop i ns) ≡ beside (bare (before (TextOf s m) l.none)) (see.trees (drop (i + 1) ns))
text_found ns i x s m h e is = left_text ns i x s h e is ∙ sym (ap (λ z. beside (bare z) (see.trees (drop (i + 1) ns))) (before_text s m l.none))

pub elem_found : (ns : List Node) (i : ℕ) (x : Node) (n : Name) (kids : Bor (List Node)) → i < length ns → x ≡ get_or ns i x → x ≡ Elem n kids → (f : Lettered) (below : t.Trees)
    → below ≡ see.trees kids.now → bare (before f l.none) ≡ t.element (see.name n) below t.none
    → see.trees (drop i ns) ≡ beside (bare (before f l.none)) (see.trees (drop (i + 1) ns))
elem_found ns i x n kids h e is f below same found =
    left_elem ns i x n kids h e is
    ∙ (ap (λ k. t.element (see.name n) k (see.trees (drop (i + 1) ns))) (sym same) ∙ sym (ap (λ z. beside z (see.trees (drop (i + 1) ns))) found))
