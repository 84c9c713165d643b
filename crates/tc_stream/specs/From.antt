-- How the reading of a text goes on from each part of it (XML 1.0, Fifth Edition, 2.1, [1]; 2.8, [22] to [28]).
use Rattle.std.specs.Prelude.{◌≡◌, ◌↔◌, ℕ, ◌+◌, List, [], ◌∷◌, length}
use Rattle.tc_base.specs.declared.reasons.Why.{Why}
use Rattle.tc_base.specs.declared.reasons.Why.TheVariants.{DoctypeSubset}
use Rattle.tc_model.specs.Names.{ExpandedName}
use Rattle.tc_model.specs.RawTrees.{Bound}
use Rattle.tc_model.specs.Trees.{Trees}
use Rattle.tc_model.specs.XmlText.{after_mark}
use Rattle.tc_model.specs.XmlTextBytes.{FrontOf, place_of}
use Rattle.tc_model.specs.XmlTextMisc.{DeclarationAt, MiscAt, DoctypeFrontAt, DoctypeAt}
use Rattle.tc_model.specs.XmlTextRefusals.{unsupported, DeclarationRefuses}
use Rattle.tc_model.specs.XmlTextScopes.{first_scope}
use Rattle.tc_stream.specs.Goes.{Level, Goes, GoesBehind, finished}
use Rattle.tc_stream.specs.Outcomes.{Outcome, document, refused, passed, Comes}
use Rattle.tc_stream.specs.declared.phases.Phase.{Phase}
use Rattle.tc_stream.specs.declared.phases.Phase.TheVariants as phases

-- what is left from the root element's place on
abbrev pub FromRoot : ℕ → List ℕ → Outcome → Type 0
FromRoot total bs o = Goes total [] first_scope [] bs o

-- from where misc stands before a document type declaration, or before the root element
pub data FromProlog (total : ℕ) : List ℕ → Outcome → Type 0 where
  subset : {bs past_misc r : List ℕ} → MiscAt bs past_misc → DoctypeFrontAt past_misc (0x5B ∷ r)
      → FromProlog total bs (refused (unsupported DoctypeSubset) (place_of total (0x5B ∷ r)))
  root : {bs past_misc root : List ℕ} {o : Outcome} → MiscAt bs past_misc → DoctypeAt past_misc root → FromRoot total root o → FromProlog total bs o

-- from where an XML declaration may stand
pub data FromFront (total : ℕ) : List ℕ → Outcome → Type 0 where
  declaration : {bs at : List ℕ} {why : Why} → DeclarationRefuses bs why at → FromFront total bs (refused (unsupported why) (place_of total at))
  prolog : {bs past_declaration : List ℕ} {o : Outcome} → DeclarationAt bs past_declaration → FromProlog total past_declaration o → FromFront total bs o

-- what is known of the elements: those that are open, or the root element that has ended
pub data Standing : Type 0 where
  -- the elements that are open, none before the root element, what is in scope, and the characters since the last tag
  open_in : List Level → List Bound → List ℕ → Standing
  ended : ExpandedName → Trees → Standing

-- what is left of a text of `total` bytes from a part of it on
abbrev pub FromPhase : ℕ → Phase → Standing → List ℕ → Outcome → Type 0
FromPhase total phases.Mark s bs o = FromFront total (after_mark bs) o
FromPhase total phases.Front s bs o = FromFront total bs o
FromPhase total phases.Prolog s bs o = FromProlog total bs o
FromPhase total phases.Root s bs o = (root : List ℕ) × MiscAt bs root × FromRoot total root o
FromPhase total phases.Content (open_in ls scope run) bs o = Goes total ls scope run bs o
FromPhase total phases.Content (ended n kids) bs o = ⊥
FromPhase total phases.End (ended n kids) bs o = GoesBehind total (finished n kids) [] bs o
FromPhase total phases.End (open_in ls scope run) bs o = ⊥

-- a document is all characters
abbrev pub IsWhole : Outcome → List ℕ → List ℕ → Type 0
IsWhole (document d) front bs = front ≡ bs
IsWhole (refused cause place) front bs = Unit {0}
IsWhole (passed measure place) front bs = Unit {0}

-- what comes of bytes that stand behind so many others, by the characters at their front
abbrev pub StillComes : ℕ → Phase → Standing → List ℕ → Outcome → Type 0
StillComes before phase s bs o =
    (front : List ℕ) × FrontOf bs front × FromPhase (before + length front) phase s front o × IsWhole o front bs

-- what comes of a text comes of it item by item
abbrev pub ComesByItems : Type 0
ComesByItems = (bytes : List ℕ) (o : Outcome) → Comes bytes o ↔ StillComes 0 phases.Mark (open_in [] [] []) bytes o
