-- How the reading of a text goes on from a place within it, item by item, with the elements that are open there (XML 1.0, Fifth Edition, 3 and 3.1).
use Rattle.std.specs.Prelude.{◌≡◌, ◌<◌, ◌≤◌, ◌⊎◌, ℕ, ◌+◌, ◌-◌, false, List, [], ◌∷◌, ◌++◌, length, codes}
use Rattle.tc_model.specs.Names.{ExpandedName}
use Rattle.tc_model.specs.RawTrees.{Attribute, Bound}
use Rattle.tc_model.specs.Trees.{Trees, none, element, beside, kept}
use Rattle.tc_model.specs.XmlText.{deepest_element}
use Rattle.tc_model.specs.XmlTextBytes.{place_of, line_ends}
use Rattle.tc_model.specs.XmlTextNames.{QualifiedName, QNameAt}
use Rattle.tc_model.specs.XmlTextReferences.{ReferenceAt, CharacterDataAt, CdataAt}
use Rattle.tc_model.specs.XmlTextMisc.{CommentAt, InstructionAt, MiscAt}
use Rattle.tc_model.specs.XmlTextScopes.{TagMeans}
use Rattle.tc_model.specs.XmlTextRefusals.{unsupported, too_deep, OtherEntityAt, TagRefuses}
use Rattle.tc_base.specs.declared.reasons.Why.{Why}
use Rattle.tc_base.specs.declared.reasons.Why.TheVariants.{EntityReference}
use Rattle.tc_tags.specs.XmlTextTags.{WrittenElement, TagFormAt, EndTagAt, names_length, tag_length}
use Rattle.tc_stream.specs.XmlTextMeasures.{longest_tag, most_names, tag, names, IsLongTag}
use Rattle.tc_stream.specs.Outcomes.{Outcome, document, refused, passed}

-- An element that is open: as its tag writes it, its expanded name, what is in scope around it, and its children up to the last tag in it, in normal form.
pub record Level : Type 0 where
  pub written : WrittenElement
  pub name : ExpandedName
  pub outer : List Bound
  pub kids : Trees

-- the elements as their tags write them, the innermost first
abbrev pub all_written : List Level → List WrittenElement
all_written [] = []
all_written (l ∷ ls) = l.written ∷ all_written ls

-- how many bytes the names of open elements have
abbrev pub used : List Level → ℕ
used [] = 0
used (l ∷ ls) = names_length l.written + used ls

-- how many elements may stand within one another here
abbrev pub depth_left : List Level → ℕ
depth_left ls = deepest_element - length ls

-- the innermost element with a text more, unless that is white space alone
abbrev pub with_text : List ℕ → List Level → List Level
with_text run [] = []
with_text run (l ∷ ls) = record l { kids = beside l.kids (kept run none) } ∷ ls

-- the same with an element more
abbrev pub with_element : ExpandedName → Trees → List Level → List Level
with_element n kids [] = []
with_element n kids (l ∷ ls) = record l { kids = beside l.kids (element n kids none) } ∷ ls

-- where the content of the root element goes on or doesn't, once an element has ended
pub data Closed : Type 0 where
  -- elements are open: these
  within : List Level → Closed
  -- the root element has ended, with this name and these children
  finished : ExpandedName → Trees → Closed

abbrev pub closed : ExpandedName → Trees → List Level → Closed
closed n kids [] = finished n kids
closed n kids (l ∷ ls) = within (with_element n kids (l ∷ ls))

-- a tag's names and its length keep their limits
pub record Fits (ls : List Level) (e : WrittenElement) (bs after : List ℕ) : Type 0 where
  pub short : tag_length bs after ≤ longest_tag
  pub few : names_length e + used ls ≤ most_names

-- the tag that begins here passes its limit
abbrev pub IsLong : List Level → List ℕ → Type 0
IsLong ls bs = IsLongTag longest_tag (all_written ls) (depth_left ls) bs

-- what is left of the text of `total` bytes, from the root element or from content on: the elements that are open, what is in scope, the characters since the
-- last tag, and what comes of it
mutual
  pub data Goes (total : ℕ) : List Level → List Bound → List ℕ → List ℕ → Outcome → Type 0 where
    characters : {l : Level} {ls : List Level} {scope : List Bound} {run bs s rest : List ℕ} {o : Outcome}
        → CharacterDataAt bs s rest → Goes total (l ∷ ls) scope (run ++ line_ends s) rest o → Goes total (l ∷ ls) scope run bs o
    reference : {l : Level} {ls : List Level} {scope : List Bound} {run bs s rest : List ℕ} {o : Outcome}
        → ReferenceAt false bs s rest → Goes total (l ∷ ls) scope (run ++ s) rest o → Goes total (l ∷ ls) scope run bs o
    cdata : {l : Level} {ls : List Level} {scope : List Bound} {run bs s rest : List ℕ} {o : Outcome}
        → CdataAt bs s rest → Goes total (l ∷ ls) scope (run ++ line_ends s) rest o → Goes total (l ∷ ls) scope run bs o
    comment : {l : Level} {ls : List Level} {scope : List Bound} {run bs rest : List ℕ} {o : Outcome}
        → CommentAt bs rest → Goes total (l ∷ ls) scope run rest o → Goes total (l ∷ ls) scope run bs o
    instruction : {l : Level} {ls : List Level} {scope : List Bound} {run bs rest : List ℕ} {o : Outcome}
        → InstructionAt bs rest → Goes total (l ∷ ls) scope run rest o → Goes total (l ∷ ls) scope run bs o
    start_tag : {ls : List Level} {outer scope : List Bound} {run bs inside : List ℕ} {e : WrittenElement} {n : ExpandedName} {expanded : List Attribute} {o : Outcome}
        → 0 < depth_left ls → TagFormAt false total bs e (0x3E ∷ inside) → Fits ls e bs inside → TagMeans outer e.name e.attributes scope n expanded
        → Goes total (record { written = e; name = n; outer = outer; kids = none } ∷ with_text run ls) scope [] inside o → Goes total ls outer run bs o
    empty_tag : {ls : List Level} {outer scope : List Bound} {run bs after : List ℕ} {e : WrittenElement} {n : ExpandedName} {expanded : List Attribute} {o : Outcome}
        → 0 < depth_left ls → TagFormAt false total bs e (codes "/>" ++ after) → Fits ls e bs after → TagMeans outer e.name e.attributes scope n expanded
        → GoesBehind total (closed n none (with_text run ls)) outer after o → Goes total ls outer run bs o
    end_tag : {l : Level} {ls : List Level} {scope : List Bound} {run bs after : List ℕ} {o : Outcome}
        → EndTagAt l.written.name bs after → tag_length bs after ≤ longest_tag
        → GoesBehind total (closed l.name (beside l.kids (kept run none)) ls) l.outer after o → Goes total (l ∷ ls) scope run bs o
    entity : {l : Level} {ls : List Level} {scope : List Bound} {run bs : List ℕ}
        → OtherEntityAt bs → Goes total (l ∷ ls) scope run bs (refused (unsupported EntityReference) (place_of total bs))
    deep : {ls : List Level} {outer : List Bound} {run rest past_name : List ℕ} {name : QualifiedName}
        → depth_left ls ≡ 0 → QNameAt rest name past_name
        → Goes total ls outer run (0x3C ∷ rest) (refused too_deep (place_of total (0x3C ∷ rest)))
    construct : {ls : List Level} {outer : List Bound} {run bs at : List ℕ} {why : Why}
        → 0 < depth_left ls → TagRefuses bs why at → (IsLong ls bs → ⊥)
        → Goes total ls outer run bs (refused (unsupported why) (place_of total at))
    long_tag : {ls : List Level} {outer : List Bound} {run bs : List ℕ}
        → IsLong ls bs → Goes total ls outer run bs (passed tag (place_of total bs + longest_tag))
    many_names : {ls : List Level} {outer : List Bound} {run bs end after : List ℕ} {e : WrittenElement}
        → 0 < depth_left ls → TagFormAt false total bs e end → (end ≡ 0x3E ∷ after) ⊎ (end ≡ codes "/>" ++ after) → tag_length bs after ≤ longest_tag
        → most_names < names_length e + used ls → Goes total ls outer run bs (passed names (place_of total after))

  -- the same behind a tag that ends an element
  pub data GoesBehind (total : ℕ) : Closed → List Bound → List ℕ → Outcome → Type 0 where
    content : {ls : List Level} {scope : List Bound} {bs : List ℕ} {o : Outcome} → Goes total ls scope [] bs o → GoesBehind total (within ls) scope bs o
    end : {n : ExpandedName} {kids : Trees} {scope : List Bound} {bs : List ℕ} → MiscAt bs [] → GoesBehind total (finished n kids) scope bs (document (element n kids none))
