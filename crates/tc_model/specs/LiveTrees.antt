-- Live trees and lists of trees: those that each content by itself lets stand. All parts of valid documents are live.
-- A live tree has lawful names and texts. This changes no count of rows: each symbol has a lawful name.
use Rattle.std.specs.Prelude.{◌≡◌, ℕ, ◌≤◌, length, true}
use Rattle.tc_model.specs.Trees.{Trees, none, text, element, AreLawful, IsNormal}
use Rattle.tc_model.specs.Chains.{Tree, an_element, a_text}
use Rattle.tc_model.specs.TreesApart.{alone}
use Rattle.tc_model.specs.Grammars.{Grammar, some_content_has_text}
use Rattle.tc_model.specs.States.{input, IsElementOf, first_state, Leads}

-- the names and texts are lawful, and nothing is left to join or to drop
abbrev pub AreOfDocuments : Trees → Type 0
AreOfDocuments h = AreLawful h × IsNormal h

module _ (g : Grammar) where
  -- an element matches some element pattern; for a text, `text` is written in some content
  abbrev pub HasPattern : Tree → Type 0
  HasPattern (an_element n kids) = (k : ℕ) × IsElementOf g.elements k n kids
  HasPattern (a_text s) = some_content_has_text g.elements ≡ true

  abbrev pub IsLiveTree : Tree → Type 0
  IsLiveTree t = AreOfDocuments (alone t) × HasPattern t

  abbrev pub HavePatterns : Trees → Type 0
  HavePatterns none = Unit {0}
  HavePatterns (text s rest) = HasPattern (a_text s) × HavePatterns rest
  HavePatterns (element n kids rest) = HasPattern (an_element n kids) × HavePatterns rest

  -- they lead the first state of some content to some state
  abbrev pub LeadSomewhere : Trees → Type 0
  LeadSomewhere h = (k : ℕ) × (j : ℕ) × (1 ≤ k) × (k ≤ length g.elements) × Leads g input (first_state g input k) h j

  -- no trees, or such of which each has a pattern and that all together lead somewhere
  pub data IsLiveHedge : Trees → Type 0 where
    empty_is_live : IsLiveHedge none
    are_live : {h : Trees} → AreOfDocuments h → HavePatterns h → LeadSomewhere h → IsLiveHedge h
