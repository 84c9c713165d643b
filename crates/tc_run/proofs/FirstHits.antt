-- What a look selects first in one tree, by its letter.
use Rattle.std.proofs.Common.{◌≡◌, ℕ, ◌+◌, ◌<◌, length, get_or, drop, List, ap, ◌∙◌, sym, subst, [], Bool, true, false, cond, refl, Option, Some, None, is_some, slice_get, MatchOption, Bor}
use Rattle.std.proofs.lemmas.Option.{same_Some}
use Rattle.tc_model.specs.Chains.{Node, Tree, an_element, a_text, one, string_value}
use Rattle.tc_model.specs.Letters.{letter_of, IsLetter}
use Rattle.tc_model.specs.Machine.{or_else, first_hit}
use Rattle.tc_model.specs.Meaning.{value_of_first}
use Rattle.tc_model.specs.PathStates.{is_empty_state, first_state}
use Rattle.tc_model.specs.Views.{name}
use Rattle.tc_model.specs.Sheets.{Path, no_alternative}
use Rattle.tc_model.specs.Trees as t
use Rattle.tc_model.specs.declared.tree.Name.{Name}
use Rattle.tc_rules.specs.Asked.{letter}
use Rattle.tc_rules.specs.declared.rules.Kind.TheVariants as kinds
use Rattle.tc_rules.specs.declared.rules.Marks.{Marks}
use Rattle.tc_rules.specs.States.{Looking}
use Rattle.tc_rules.proofs.PathTold.{trees_have_letters}
use Rattle.tc_run.specs.Hits.{string_of}
use Rattle.tc_run.specs.Lettered as l
use Rattle.tc_run.specs.Lettered.{bare}
use Rattle.tc_run.specs.Findings.{IsFindingUnder, IsNumberOf}
use Rattle.tc_run.specs.Running.{IsLetteredBy, guide, numbered_by, told_by, symbols_by, predicates_by, looking}
use Rattle.tc_run.specs.Views.{before, trees}
use Rattle.tc_rules.specs.Tasks.{IsLookAt, looking_from}
use Rattle.tc_run.specs.declared.letters.Letter.{Letter as LetterOf}
use Rattle.tc_run.specs.declared.letters.Lettered.{Lettered, Elem, Text}
use Rattle.tc_run.specs.declared.looks.Hit.{Hit}
use Rattle.tc_run.specs.declared.runner.Runner.{Runner}
use Rattle.tc_rules.proofs.NothingBelow.{first_none}
use Rattle.tc_model.proofs.TreesInTurn.{none_last}
use Rattle.tc_run.proofs.OneTree.{text_at, element_at, first_beside}
use Rattle.tc_run.proofs.Views.{before_elem, before_text, left_one}

module _ (r : Runner) (node : Lettered) (is_lettered : IsLetteredBy r (before node l.none)) where
  -- the letter of a tree is one
  pub text_letter : (s : Bor (List ℕ)) (m : Marks) → node ≡ Text s m → IsLetter (symbols_by r) (predicates_by r) (letter kinds.Text m)
  text_letter s m is =
      subst (IsLetter (symbols_by r) (predicates_by r)) (sym (text_at r node s m l.none is_lettered is).letter_is) (trees_have_letters (symbols_by r) (predicates_by r) (a_text s.now))

  pub element_letter : (n : Bor Name) (x : LetterOf) (kids : Bor (List Lettered)) → node ≡ Elem n x kids
      → IsLetter (symbols_by r) (predicates_by r) (letter (kinds.Elem x.sym) x.marks)
  element_letter n x kids is =
      subst (IsLetter (symbols_by r) (predicates_by r)) (sym (element_at r node n x kids l.none is_lettered is).letter_is)
      (trees_have_letters (symbols_by r) (predicates_by r) (an_element (name n.now) (bare (trees kids.now))))

module _ (r : Runner) (look : Looking) (node : Lettered) (is_lettered : IsLetteredBy r (before node l.none)) where
  -- in a text
  pub in_text : (s : Bor (List ℕ)) (m : Marks) → node ≡ Text s m → (b : Bool) → b ≡ (looking r).look_hits look (letter kinds.Text m)
      → first_hit (looking r) (bare (before node l.none)) look ≡ cond b (Some (one (a_text s.now))) None
  in_text s m is b h =
      let here = (text_at r node s m l.none is_lettered is).letter_is in
      let hit : Option Node = Some (one (a_text s.now)) in
      let told : (looking r).look_hits look (letter_of (symbols_by r) (predicates_by r) (a_text s.now)) ≡ b = ap ((looking r).look_hits look) (sym here) ∙ sym h in
      ap (λ y. first_hit (looking r) (bare (before y l.none)) look) is
      ∙ (ap (λ z. first_hit (looking r) (bare z) look) (before_text s m l.none)
      ∙ (ap (λ x. or_else (cond x hit None) None) told ∙ none_last (cond b hit None)))

  -- in an element, or else below it
  pub in_element : (n : Bor Name) (x : LetterOf) (kids : Bor (List Lettered)) → node ≡ Elem n x kids
      → (b : Bool) → b ≡ (looking r).look_hits look (letter (kinds.Elem x.sym) x.marks)
      → first_hit (looking r) (bare (before node l.none)) look
      ≡ cond b (Some (one (an_element (name n.now) (bare (trees kids.now))))) (first_hit (looking r) (bare (trees kids.now)) ((looking r).look_step look (letter (kinds.Elem x.sym) x.marks)))
  in_element n x kids is b h =
      let m = looking r in
      let here = (element_at r node n x kids l.none is_lettered is).letter_is in
      let tree : Tree = an_element (name n.now) (bare (trees kids.now)) in
      let hit : Option Node = Some (one tree) in
      let told : m.look_hits look (m.letter tree) ≡ b = ap (m.look_hits look) (sym here) ∙ sym h in
      let below : Option Node = first_hit m (bare (trees kids.now)) (m.look_step look (letter (kinds.Elem x.sym) x.marks)) in
      ap (λ y. first_hit m (bare (before y l.none)) look) is
      ∙ (ap (λ z. first_hit m (bare z) look) (before_elem n x kids l.none)
      ∙ (ap (λ w. or_else (cond w hit (first_hit m (bare (trees kids.now)) (m.look_step look (m.letter tree)))) None) told
      ∙ (ap (λ k. or_else (cond b hit (first_hit m (bare (trees kids.now)) (m.look_step look k))) None) (sym here) ∙ none_last (cond b hit below))))

  -- nor is there any below, where no item is left
  pub none_in_element : (n : Bor Name) (x : LetterOf) (kids : Bor (List Lettered)) → node ≡ Elem n x kids
      → false ≡ (looking r).look_hits look (letter (kinds.Elem x.sym) x.marks)
      → is_empty_state ((looking r).look_step look (letter (kinds.Elem x.sym) x.marks)).state ≡ true
      → first_hit (looking r) (bare (before node l.none)) look ≡ None
  none_in_element n x kids is h e =
      in_element n x kids is false h
      ∙ first_none (symbols_by r) (predicates_by r) [] [] (bare (trees kids.now)) ((looking r).look_step look (letter (kinds.Elem x.sym) x.marks)) e

-- in trees: in the first of them, or else in what is left
pub first_left : (r : Runner) (look : Looking) (ns : List Lettered) (i : ℕ) (x : Lettered) → i < length ns → x ≡ get_or ns i x
    → first_hit (looking r) (bare (trees (drop i ns))) look ≡ or_else (first_hit (looking r) (bare (before x l.none)) look) (first_hit (looking r) (bare (trees (drop (i + 1) ns))) look)
first_left r look ns i x h e = ap (λ y. first_hit (looking r) (bare y) look) (left_one ns i x h e) ∙ first_beside r look x (trees (drop (i + 1) ns))

-- a path of no alternative selects nothing
pub none_first : (r : Runner) (p : Path) (h : t.Trees) → p ≡ no_alternative → first_hit (looking r) h (looking_from p) ≡ None
none_first r p h e = first_none (symbols_by r) (predicates_by r) [] [] h (looking_from p) (ap (λ q. is_empty_state (first_state q)) e)

-- what is answered for a first hit
abbrev pub Answered : Option Hit → Option Node → Type 0
Answered found hit = MatchOption found (hit ≡ None) (λ x. (n : Node) × (hit ≡ Some n) × (string_of x ≡ string_value n))

pub answered_some : (found : Option Hit) (hit : Option Node) → Answered found hit → is_some found ≡ is_some hit
answered_some None hit e = sym (ap is_some e)
answered_some (Some x) hit a = sym (ap is_some a.1)

pub answered_none : (hit : Option Node) → Answered None hit → value_of_first hit ≡ []
answered_none hit e = ap value_of_first e

pub answered_value : (x : Hit) (hit : Option Node) → Answered (Some x) hit → string_of x ≡ value_of_first hit
answered_value x hit a = a.2 ∙ sym (ap value_of_first a.1)

-- whether something is found: in a tree, or later
pub found_here : (b : Bool) (hit later all : Option Node) → b ≡ true → b ≡ is_some hit → all ≡ or_else hit later → true ≡ is_some all
found_here b None later all e f g = absurd (cc)
found_here b (Some n) later all e f g = sym (ap is_some g)

pub found_later : (b : Bool) (hit later all : Option Node) → b ≡ false → b ≡ is_some hit → all ≡ or_else hit later → all ≡ later
found_later b None later all e f g = g
found_later b (Some n) later all e f g = absurd (cc)

pub hit_alone : (b : Bool) (n : Node) (hit : Option Node) → hit ≡ cond b (Some n) None → b ≡ is_some hit
hit_alone true n hit e = sym (ap is_some e)
hit_alone false n hit e = sym (ap is_some e)

-- one answer tells the other
pub answered_found : (found : Option Hit) (hit : Option Node) (b : Bool) → b ≡ is_some found → Answered found hit → b ≡ is_some hit
answered_found found hit b e a = e ∙ answered_some found hit a

pub not_found : (hit : Option Node) → false ≡ is_some hit → hit ≡ None
not_found None e = refl
not_found (Some n) e = absurd (cc)

-- what is remembered of the children of a number
pub finding_told : (r : Runner) (number look : ℕ) (b : Bool) (o : Option ℕ) (kids : t.Trees) → IsFindingUnder (guide r) (numbered_by r) number look b → o ≡ Some number → IsNumberOf r o kids
    → (s : Looking) → IsLookAt (told_by r) look s → b ≡ is_some (first_hit (looking r) kids s)
finding_told r number look b o kids f e is s at =
    let there : slice_get (numbered_by r) number ≡ Some kids = subst (λ w. IsNumberOf r w kids) e is in
    f.found_is s at ∙ ap (λ h. is_some (first_hit (looking r) h s)) (same_Some _ _ (sym f.numbered_is ∙ there))

pub finding_is : (r : Runner) (number look : ℕ) (b : Bool) (o : Option ℕ) (kids : t.Trees) → o ≡ Some number → IsNumberOf r o kids
    → ((s : Looking) → IsLookAt (told_by r) look s → b ≡ is_some (first_hit (looking r) kids s)) → IsFindingUnder (guide r) (numbered_by r) number look b
finding_is r number look b o kids e is f = record { kids = kids; numbered_is = subst (λ w. IsNumberOf r w kids) e is; found_is = f }

-- the same is answered for the same hit
pub answered_alike : (found : Option Hit) (hit other : Option Node) → other ≡ hit → Answered found hit → Answered found other
answered_alike None hit other e a = e ∙ a
answered_alike (Some x) hit other e a = (a.0, e ∙ a.1, a.2)

-- a hit in a tree comes before all that come later
pub answered_here : (found : Option Hit) (hit later all : Option Node) → is_some found ≡ true → all ≡ or_else hit later → Answered found hit → Answered found all
answered_here None hit later all e f a = absurd (cc)
answered_here (Some x) hit later all e f a = (a.0, f ∙ ap (λ h. or_else h later) a.1, a.2)

pub answered_later : (found : Option Hit) (hit later all : Option Node) → is_some found ≡ false → all ≡ or_else hit later → Answered found hit → all ≡ later
answered_later None hit later all e f a = f ∙ ap (λ h. or_else h later) a
answered_later (Some x) hit later all e f a = absurd (cc)

pub answered_absent : (found : Option Hit) (hit : Option Node) → found ≡ None → hit ≡ None → Answered found hit
answered_absent found hit e f = subst (λ w. Answered w hit) (sym e) f
