-- Documents that are taken piece by piece, and what is known of their validity.
use Rattle.std.specs.Prelude.{◌≡◌, ◌↔◌, List, [], ◌∷◌, reverse, IsTrue}
use Rattle.tc_model.specs.Events.{Event, characters, start, end}
use Rattle.tc_model.specs.Grammars.{Grammar}
use Rattle.tc_model.specs.Names.{ExpandedName}
use Rattle.tc_model.specs.Trees.{Trees, none, element, beside, kept}
use Rattle.tc_steps.specs.Led.{IsStarted}
use Rattle.tc_steps.specs.Moving.{AreRight, IsElement}
use Rattle.tc_steps.specs.declared.judge.Judge.{Judge}
use Rattle.tc_steps.specs.declared.moves.Moves.{Moves}
use Rattle.tc_steps.specs.declared.moves.Opened.{Opened}

-- how far a document was taken: outside all elements, behind these trees; or in an element of this name, behind these children, which stands there
pub data Place : Type 0 where
  outside : Trees → Place
  within : ExpandedName → Trees → Place → Place

-- trees more
abbrev pub put : Place → Trees → Place
put (outside d) h = outside (beside d h)
put (within n kids p) h = within n (beside kids h) p

abbrev pub ended : Place → Place
ended (outside d) = outside d
ended (within n kids p) = put p (element n kids none)

-- a piece more; a text of white space alone is nothing
abbrev pub after : Place → Event → Place
after p (characters s) = put p (kept s none)
after p (start n) = within n none p
after p end = ended p

-- the trees outside all elements
abbrev pub root_of : Place → Trees
root_of (outside d) = d
root_of (within n kids p) = root_of p

module _ (x : Grammar) where
  -- the elements that are open, the innermost first
  abbrev pub AreOpen : Moves → List Opened → Place → Type 0
  AreOpen m [] (outside d) = Unit {0}
  AreOpen m [] (within n kids p) = ⊥
  AreOpen m (o ∷ os) (outside d) = ⊥
  AreOpen m (o ∷ os) (within n kids p) = IsElement x m n kids o × AreOpen m os p

  -- a document was taken up to a place: what is known is right, and once one element was taken whole, so is the answer
  pub record IsAt (j : Judge) (p : Place) : Type 0 where
    pub right : AreRight x j.moves
    pub open_are : AreOpen j.moves (reverse j.levels.items) p
    pub answer : (n : ExpandedName) (kids : Trees) → root_of p ≡ element n kids none → IsTrue j.is_valid ↔ IsStarted x n kids

-- what a piece makes of a judge, for each schema and from each place
abbrev pub Takes : Judge → Event → Judge → Type 0
Takes old e new = (x : Grammar) (p : Place) → IsAt x old p → IsAt x new (after p e)
