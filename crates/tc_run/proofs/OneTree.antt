-- Lettered trees one tree at a time: a tree, and what stands beside it.
use Rattle.std.proofs.Common.{◌≡◌, ℕ, suc, ◌+◌, ◌<◌, ◌≤◌, max, List, refl, ap, ◌∙◌, sym, subst, drop, length, get_or, Bor, arith}
use Rattle.tc_model.specs.Chains.{an_element, a_text}
use Rattle.tc_model.specs.Letters.{Letter, letter_of, of_symbol, of_text}
use Rattle.tc_model.specs.Machine.{or_else, first_hit}
use Rattle.tc_model.specs.Outcomes.{join}
use Rattle.tc_model.specs.Trees.{beside}
use Rattle.tc_model.specs.Views.{name}
use Rattle.tc_model.specs.Sheets.{CallFreeBody}
use Rattle.tc_model.specs.declared.tree.Name.{Name}
use Rattle.tc_model.proofs.TreesInTurn.{first_beside as first_of_both, outputs_beside as outputs_of_both}
use Rattle.tc_rules.specs.Asked.{letter}
use Rattle.tc_rules.specs.declared.rules.Kind.TheVariants as kinds
use Rattle.tc_rules.specs.declared.rules.Marks.{Marks}
use Rattle.tc_rules.specs.States.{Going, Looking}
use Rattle.tc_rules.specs.RulesView.{ancestor}
use Rattle.tc_run.specs.Lettered as l
use Rattle.tc_run.specs.Lettered.{bare}
use Rattle.tc_run.specs.Findings.{IsNumberOf}
use Rattle.tc_run.specs.Running.{IsLetteredBy, told_by, symbols_by, predicates_by, machine, looking}
use Rattle.tc_run.specs.Views.{before, trees}
use Rattle.tc_run.specs.Tasks.{outputs_on}
use Rattle.tc_run.specs.declared.letters.Letter.{Letter as LetterOf}
use Rattle.tc_run.specs.declared.letters.Lettered.{Lettered, Lettered-F, Elem, Text}
use Rattle.tc_run.specs.declared.letters.Lettered.TheOpen as parts
use Rattle.tc_run.specs.declared.letters.Lettered.TheVariants.{rolls-Elem, rolls-Text}
use Rattle.tc_run.specs.declared.letters.Lettered.TheViews.{roll-Lettered, out-Lettered, roll-out-Lettered}
use Rattle.tc_run.specs.declared.runner.Runner.{Runner}
use Rattle.tc_run.proofs.Heights.{height_of}
use Rattle.tc_run.proofs.Views.{before_elem, before_text, left_one}

-- without letters too, a tree stands before those beside it
abbrev IsBeside : l.Lettered → Lettered → Type 0
IsBeside rest y = bare (before y rest) ≡ beside (bare (before y l.none)) (bare rest)

beside_layer : (rest : l.Lettered) (f : Lettered-F Lettered) → IsBeside rest (roll-Lettered f)
beside_layer rest (parts.Elem n x kids) =
    subst (λ y. IsBeside rest y) (sym (rolls-Elem n x kids))
    (ap bare (before_elem n x kids rest) ∙ sym (ap (λ z. beside (bare z) (bare rest)) (before_elem n x kids l.none)))
beside_layer rest (parts.Text w k) =
    subst (λ y. IsBeside rest y) (sym (rolls-Text w k))
    (ap bare (before_text w k rest) ∙ sym (ap (λ z. beside (bare z) (bare rest)) (before_text w k l.none)))

bare_beside : (x : Lettered) (rest : l.Lettered) → bare (before x rest) ≡ beside (bare (before x l.none)) (bare rest)
bare_beside x rest = subst (λ y. IsBeside rest y) (roll-out-Lettered x) (beside_layer rest (out-Lettered x))

module _ (r : Runner) where
  -- what is kept of a text, and of an element
  pub record TextAt (s : Bor (List ℕ)) (m : Marks) (rest : l.Lettered) : Type 0 where
    pub letter_is : letter kinds.Text m ≡ letter_of (symbols_by r) (predicates_by r) (a_text s.now)
    pub alone : IsLetteredBy r (l.text s.now m.0 l.none)
    pub rest_is : IsLetteredBy r rest

  pub record ElementAt (n : Bor Name) (x : LetterOf) (kids : Bor (List Lettered)) (rest : l.Lettered) : Type 0 where
    pub letter_is : letter (kinds.Elem x.sym) x.marks ≡ letter_of (symbols_by r) (predicates_by r) (an_element (name n.now) (bare (trees kids.now)))
    pub kids_are : IsLetteredBy r (trees kids.now)
    pub number_is : IsNumberOf r x.number (bare (trees kids.now))
    pub alone : IsLetteredBy r (l.element (name n.now) x.sym.0 x.marks.0 x.number (trees kids.now) l.none)
    pub rest_is : IsLetteredBy r rest

  text_kept : (s : Bor (List ℕ)) (m : Marks) (rest : l.Lettered) → IsLetteredBy r (l.text s.now m.0 rest) → TextAt s m rest
  text_kept s m rest h = record {
    letter_is = ap (λ k. let y : Letter = record { kind = of_text; marks = k } in y) h.0;
    alone = (h.0, tt);
    rest_is = h.1;
  }

  element_kept : (n : Bor Name) (x : LetterOf) (kids : Bor (List Lettered)) (rest : l.Lettered)
      → IsLetteredBy r (l.element (name n.now) x.sym.0 x.marks.0 x.number (trees kids.now) rest) → ElementAt n x kids rest
  element_kept n x kids rest h = record {
    letter_is = λ i. let y : Letter = record { kind = of_symbol (h.0.symbol i); marks = h.0.marks_are i } in y;
    kids_are = h.1.0;
    number_is = h.0.number_is;
    alone = (h.0, (h.1.0, tt));
    rest_is = h.1.1;
  }

  pub text_at : (node : Lettered) (s : Bor (List ℕ)) (m : Marks) (rest : l.Lettered) → IsLetteredBy r (before node rest) → node ≡ Text s m → TextAt s m rest
  text_at node s m rest h is = text_kept s m rest (subst (IsLetteredBy r) (ap (λ y. before y rest) is ∙ before_text s m rest) h)

  pub element_at : (node : Lettered) (n : Bor Name) (x : LetterOf) (kids : Bor (List Lettered)) (rest : l.Lettered)
      → IsLetteredBy r (before node rest) → node ≡ Elem n x kids → ElementAt n x kids rest
  element_at node n x kids rest h is = element_kept n x kids rest (subst (IsLetteredBy r) (ap (λ y. before y rest) is ∙ before_elem n x kids rest) h)

  -- a tree is lettered alone, and so is what stands beside it
  abbrev AreApart : Lettered → l.Lettered → Type 0
  AreApart y rest = IsLetteredBy r (before y rest) → IsLetteredBy r (before y l.none) × IsLetteredBy r rest

  apart_layer : (f : Lettered-F Lettered) (rest : l.Lettered) → AreApart (roll-Lettered f) rest
  apart_layer (parts.Elem n x kids) rest =
      subst (λ y. AreApart y rest) (sym (rolls-Elem n x kids))
      (λ h. let p = element_at (Elem n x kids) n x kids rest h refl in (subst (IsLetteredBy r) (sym (before_elem n x kids l.none)) p.alone, p.rest_is))
  apart_layer (parts.Text s m) rest =
      subst (λ y. AreApart y rest) (sym (rolls-Text s m))
      (λ h. let p = text_at (Text s m) s m rest h refl in (subst (IsLetteredBy r) (sym (before_text s m l.none)) p.alone, p.rest_is))

  pub apart : (x : Lettered) (rest : l.Lettered) → IsLetteredBy r (before x rest) → IsLetteredBy r (before x l.none) × IsLetteredBy r rest
  apart x rest = subst (λ y. AreApart y rest) (roll-out-Lettered x) (apart_layer (out-Lettered x) rest)

  -- in a loop over trees
  pub apart_at : (ns : List Lettered) (i : ℕ) (x : Lettered) → i < length ns → x ≡ get_or ns i x → IsLetteredBy r (trees (drop i ns))
      → IsLetteredBy r (before x l.none) × IsLetteredBy r (trees (drop (i + 1) ns))
  apart_at ns i x h e k = apart x (trees (drop (i + 1) ns)) (subst (IsLetteredBy r) (left_one ns i x h e) k)

  -- the first hit is in a tree, or else beside it
  pub first_beside : (s : Looking) (x : Lettered) (rest : l.Lettered)
      → first_hit (looking r) (bare (before x rest)) s ≡ or_else (first_hit (looking r) (bare (before x l.none)) s) (first_hit (looking r) (bare rest) s)
  first_beside s x rest = ap (λ z. first_hit (looking r) z s) (bare_beside x rest) ∙ first_of_both (looking r) (bare (before x l.none)) (bare rest) s

  pub outputs_beside : (bodies : List CallFreeBody) (above : ℕ) (g : Going) (x : Lettered) (rest : l.Lettered)
      → outputs_on r bodies (bare (before x rest)) above g ≡ join (outputs_on r bodies (bare (before x l.none)) above g) (outputs_on r bodies (bare rest) above g)
  outputs_beside bodies above g x rest =
      ap (λ z. outputs_on r bodies z above g) (bare_beside x rest)
      ∙ outputs_of_both (machine r bodies) (bare (before x l.none)) (bare rest) g.task (ancestor (told_by r) above) g

-- of one tree alone the height is no more
abbrev IsNoHigher : l.Lettered → Lettered → Type 0
IsNoHigher rest x = height_of (before x l.none) ≤ height_of (before x rest)

higher_layer : (f : Lettered-F Lettered) (rest : l.Lettered) → IsNoHigher rest (roll-Lettered f)
higher_layer (parts.Elem n x kids) rest =
    let alone : height_of (before (Elem n x kids) l.none) ≡ max (suc (height_of (trees kids.now))) 0 = ap height_of (before_elem n x kids l.none) in
    let both : height_of (before (Elem n x kids) rest) ≡ max (suc (height_of (trees kids.now))) (height_of rest) = ap height_of (before_elem n x kids rest) in
    subst (λ y. IsNoHigher rest y) (sym (rolls-Elem n x kids)) (omega (arith, alone, both))
higher_layer (parts.Text s m) rest =
    let alone : height_of (before (Text s m) l.none) ≡ max 1 0 = ap height_of (before_text s m l.none) in
    let both : height_of (before (Text s m) rest) ≡ max 1 (height_of rest) = ap height_of (before_text s m rest) in
    subst (λ y. IsNoHigher rest y) (sym (rolls-Text s m)) (omega (arith, alone, both))

pub one_no_higher : (x : Lettered) (rest : l.Lettered) → height_of (before x l.none) ≤ height_of (before x rest)
one_no_higher x rest = subst (λ y. IsNoHigher rest y) (roll-out-Lettered x) (higher_layer (out-Lettered x) rest)
