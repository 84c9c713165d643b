-- What comes of a text by steps comes of it by the standard.
use Rattle.std.proofs.Common.{◌≡◌, ℕ, suc, ◌<◌, ◌+◌, ◌-◌, false, List, [], ◌∷◌, ◌++◌, refl, ap, ◌∙◌, sym, subst, length, arith, codes}
use Rattle.std.specs.Prelude.{zero}
use Rattle.tc_base.specs.declared.reasons.Why.TheVariants.{EntityReference}
use Rattle.tc_model.specs.Names.{ExpandedName, IsChars}
use Rattle.tc_model.specs.RawTrees as w
use Rattle.tc_model.specs.RawTrees.{Attribute, Bound, RawTrees}
use Rattle.tc_model.specs.Stripped.{bare, stripped}
use Rattle.tc_model.specs.Trees.{Trees, none, element, beside, joined, kept}
use Rattle.tc_model.specs.XmlText.{XmlText, after_mark, deepest_element}
use Rattle.tc_model.specs.XmlTextBytes.{place_of}
use Rattle.tc_model.specs.XmlTextMisc.{DeclarationAt, MiscAt, DoctypeAt}
use Rattle.tc_model.specs.XmlTextScopes.{TagMeans, first_scope}
use Rattle.tc_model.specs.XmlTextContent.{Piece, whole, piece_before, ContentAt, at_end_tag, item, ItemAt, child, ElementAt, empty_tag, with_content}
use Rattle.tc_model.specs.XmlTextContent as c
use Rattle.tc_model.specs.XmlTextRefusals.{Cause, unsupported, too_deep, ContentRefuses, past_item, ElementRefuses, depth, tag, inside, DocumentRefuses}
use Rattle.tc_model.specs.XmlTextRefusals as f
use Rattle.tc_model.proofs.NormalForm.{dropped_empty}
use Rattle.tc_tags.specs.XmlTextTags.{WrittenElement, TagFormAt, EndTagAt, ComesTo, to_root, into_element, names_length, open_names}
use Rattle.tc_tags.specs.XmlTextTags as t
use Rattle.tc_stream.specs.XmlTextMeasures.{Measure, PassesAt}
use Rattle.tc_stream.specs.XmlTextMeasures as m
use Rattle.tc_stream.specs.Outcomes.{Outcome, document, refused, passed}
use Rattle.tc_stream.specs.Goes.{Level, all_written, used, depth_left, with_text, Closed, within, finished, closed, Goes, characters, reference, cdata, comment, instruction, start_tag, end_tag, entity, deep, construct, long_tag, many_names, GoesBehind, content, end}
use Rattle.tc_stream.specs.Goes as g
use Rattle.tc_stream.specs.From.{FromProlog, root, FromFront, declaration, prolog}
use Rattle.tc_stream.specs.From as from
use Rattle.tc_stream.proofs.MeasureLaws.{tag_of}
use Rattle.tc_stream.proofs.OneOutcome.{opened, front_one}
use Rattle.tc_stream.proofs.ItemLaws.{run_after, level_after, grown, grown_after, written_text, length_text, names_more, used_open}
use Rattle.tc_stream.proofs.ComingLaws.{comes_passed}

-- The content of the innermost element from its start tag to what is left of it, and what it is with any further content.
pub record Inside (front : List ℕ) (ls : List Level) (outer : List Bound) (before : List ℕ) (l : Level) (d : ℕ) (scope : List Bound) (run bs : List ℕ) : Type 0 where
  pub expanded : List Attribute
  pub behind_tag : List ℕ
  pub deep_enough : depth_left ls ≡ suc d
  pub form : TagFormAt false (length front) before l.written (0x3E ∷ behind_tag)
  pub means : TagMeans outer l.written.name l.written.attributes scope l.name expanded
  pub is_outer : l.outer ≡ outer
  pub grows : RawTrees → RawTrees
  pub forth : (h : RawTrees) (after : List ℕ) → ContentAt false (length front) scope d bs h after → ContentAt false (length front) scope d behind_tag (grows h) after
  pub refuses : (cause : Cause) (at : List ℕ) → ContentRefuses (length front) scope d bs cause at → ContentRefuses (length front) scope d behind_tag cause at
  pub comes : ComesTo front (l.written ∷ all_written ls) scope d bs
  pub tells : (h : RawTrees) → grown l.kids run h ≡ stripped (grows h)

-- where reading stands: at the root element, or within elements that are open
pub data Stands (front : List ℕ) : List Level → List Bound → List ℕ → List ℕ → Type 0 where
  before_root : {past_declaration past_misc root : List ℕ} → DeclarationAt (after_mark front) past_declaration → MiscAt past_declaration past_misc → DoctypeAt past_misc root
      → Stands front [] first_scope [] root
  inside_one : {ls others : List Level} {outer scope : List Bound} {waits before run bs : List ℕ} {l : Level}
      → Stands front ls outer waits before → Inside front ls outer before l (depth_left (l ∷ others)) scope run bs → others ≡ with_text waits ls
      → Stands front (l ∷ others) scope run bs

-- the root element has ended
pub record Ended (front : List ℕ) (n : ExpandedName) (kids : Trees) (bs : List ℕ) : Type 0 where
  pub past_declaration : List ℕ
  pub past_misc : List ℕ
  pub place : List ℕ
  pub piece : Piece
  pub declared : DeclarationAt (after_mark front) past_declaration
  pub misc : MiscAt past_declaration past_misc
  pub doctype : DoctypeAt past_misc place
  pub reads : ElementAt false (length front) first_scope deepest_element place piece bs
  pub is : element n kids none ≡ stripped (piece_before piece w.none)

abbrev pub After : List ℕ → Closed → List Bound → List ℕ → Type 0
After front (within ls) scope bs = Stands front ls scope [] bs
After front (finished n kids) scope bs = Ended front n kids bs

-- what an outcome says of the characters of a text
abbrev pub Told : List ℕ → Outcome → Type 0
Told front (document d) = IsChars front → (h : RawTrees) × XmlText front h × (d ≡ stripped h)
Told front (refused cause place) = (at : List ℕ) × DocumentRefuses deepest_element front cause at × (place ≡ place_of (length front) at)
Told front (passed measure place) = PassesAt front measure place

-- reading comes to where it stands
stands_comes : {front : List ℕ} {ls : List Level} {scope : List Bound} {run bs : List ℕ} → Stands front ls scope run bs → ComesTo front (all_written ls) scope (depth_left ls) bs
stands_comes (before_root d n r) = to_root d n r
stands_comes {front} {scope = scope} {bs = bs} (inside_one {ls = ls} {others = others} {waits = waits} {l = l} s i is) =
    subst (λ z. ComesTo front (l.written ∷ z) scope (depth_left (l ∷ others)) bs) (sym (ap all_written is ∙ written_text waits ls)) i.comes

-- an item more in the innermost element
item_more : {front : List ℕ} {ls : List Level} {outer : List Bound} {before : List ℕ} {l : Level} {d : ℕ} {scope : List Bound} {run bs rest : List ℕ} {piece : Piece}
    → Inside front ls outer before l d scope run bs → ItemAt false (length front) scope d bs piece rest
    → Inside front ls outer before (level_after piece run l) d scope (run_after piece run) rest
item_more {l = l} {run = run} {piece = p} i a = record {
  expanded = i.expanded;
  behind_tag = i.behind_tag;
  deep_enough = i.deep_enough;
  form = i.form;
  means = i.means;
  is_outer = i.is_outer;
  grows = λ h. i.grows (piece_before p h);
  forth = λ h after k. i.forth (piece_before p h) after (item a k);
  refuses = λ cause at k. i.refuses cause at (past_item a k);
  comes = t.past_item i.comes a;
  tells = λ h. grown_after p run l.kids h ∙ i.tells (piece_before p h);
}

stands_on : {front : List ℕ} {l : Level} {ls : List Level} {scope : List Bound} {run bs rest : List ℕ} {piece : Piece} → Stands front (l ∷ ls) scope run bs
    → ItemAt false (length front) scope (depth_left (l ∷ ls)) bs piece rest → Stands front (level_after piece run l ∷ ls) scope (run_after piece run) rest
stands_on (inside_one s i is) a = inside_one s (item_more i a) is

-- an element is open, whose start tag is just read
stands_within : {front : List ℕ} {ls : List Level} {outer scope : List Bound} {run bs inside : List ℕ} {e : WrittenElement} {n : ExpandedName} {x : List Attribute} → 0 < depth_left ls
    → Stands front ls outer run bs → TagFormAt false (length front) bs e (0x3E ∷ inside) → TagMeans outer e.name e.attributes scope n x
    → Stands front (opened e n outer ∷ with_text run ls) scope [] inside
stands_within {front} {ls} {outer} {scope} {run} {bs} {inside} {e} {n} {x} some s form means =
    let lower : depth_left ls ≡ suc (depth_left (opened e n outer ∷ with_text run ls)) = omega (arith, some, length_text run ls) in
    inside_one s (record {
      expanded = x;
      behind_tag = inside;
      deep_enough = lower;
      form = form;
      means = means;
      is_outer = refl;
      grows = λ h. h;
      forth = λ h after k. k;
      refuses = λ cause at k. k;
      comes = into_element (subst (λ z. ComesTo front (all_written ls) outer z bs) lower (stands_comes s)) form means;
      tells = λ h. dropped_empty (joined (bare h));
    }) refl

-- an element was read whole
behind_element : {front : List ℕ} {ls : List Level} {outer scope : List Bound} {run bs rest : List ℕ} {n : ExpandedName} {x : List Attribute} {place : ℕ} {h : RawTrees} {kids : Trees}
    → Stands front ls outer run bs → ElementAt false (length front) outer (depth_left ls) bs (whole n x scope place h) rest → kids ≡ stripped h
    → After front (closed n kids (with_text run ls)) outer rest
behind_element {scope = scope} {n = n} {x = x} {place = p} {h = h} (before_root {past_declaration = d} {past_misc = q} {root = r} a b y) e is = record {
  past_declaration = d;
  past_misc = q;
  place = r;
  piece = whole n x scope p h;
  declared = a;
  misc = b;
  doctype = y;
  reads = e;
  is = ap (λ z. element n z none) is;
}
behind_element {front} {outer = outer} {run = run} {rest = rest} {n = n} (inside_one {others = others} {l = l} s i same) e is =
    subst (λ z. Stands front (record l { kids = beside (beside l.kids (kept run none)) (element n z none) } ∷ others) outer [] rest) (sym is) (stands_on (inside_one s i same) (child e))

-- what is refused from where reading stands on is refused in the document

raised : {front : List ℕ} {ls : List Level} {outer scope : List Bound} {before run bs at : List ℕ} {l : Level} {d : ℕ} {cause : Cause} → Inside front ls outer before l d scope run bs
    → ContentRefuses (length front) scope d bs cause at → ElementRefuses (length front) outer (depth_left ls) before cause at
raised {front} {outer = outer} {before = before} {at = at} {cause = cause} i k =
    subst (λ z. ElementRefuses (length front) outer z before cause at) (sym i.deep_enough) (inside (tag_of i.form i.means) (i.refuses cause at k))

element_refused : {front : List ℕ} {ls : List Level} {outer : List Bound} {run bs at : List ℕ} {cause : Cause} → Stands front ls outer run bs
    → ElementRefuses (length front) outer (depth_left ls) bs cause at → DocumentRefuses deepest_element front cause at
element_refused (before_root d n r) k = f.element d n r k
element_refused (inside_one s i is) k = element_refused s (raised i (f.child k))

entity_told : {front : List ℕ} {l : Level} {ls : List Level} {scope : List Bound} {run bs : List ℕ} → Stands front (l ∷ ls) scope run bs → f.OtherEntityAt bs
    → DocumentRefuses deepest_element front (unsupported EntityReference) bs
entity_told (inside_one s i is) a = element_refused s (raised i (f.entity a))

-- the element that an end tag ends
ended_told : {front : List ℕ} {l : Level} {ls : List Level} {scope : List Bound} {run bs after : List ℕ} → Stands front (l ∷ ls) scope run bs → EndTagAt l.written.name bs after
    → After front (closed l.name (beside l.kids (kept run none)) ls) l.outer after
ended_told {front} {l} {ls} {scope} {run} {bs} {after} (inside_one {ls = before_ls} {outer = outer} {waits = waits} {before = before} s i is) a =
    subst (λ z. After front (closed l.name (beside l.kids (kept run none)) ls) z after) (sym i.is_outer)
    (subst (λ z. After front (closed l.name (beside l.kids (kept run none)) z) outer after) (sym is) (behind_element s reads (i.tells w.none)))
  where
    inner : ContentAt false (length front) scope (depth_left (l ∷ ls)) i.behind_tag (i.grows w.none) (0x3C ∷ 0x2F ∷ a.rest)
    inner = subst (ContentAt false (length front) scope (depth_left (l ∷ ls)) i.behind_tag (i.grows w.none)) a.opens
        (i.forth w.none bs (subst (λ z. ContentAt false (length front) scope (depth_left (l ∷ ls)) z w.none z) (sym a.opens) at_end_tag))

    reads : ElementAt false (length front) outer (depth_left before_ls) before (whole l.name i.expanded scope (place_of (length front) before) (i.grows w.none)) after
    reads = subst (λ z. ElementAt false (length front) outer z before (whole l.name i.expanded scope (place_of (length front) before) (i.grows w.none)) after) (sym i.deep_enough)
        (with_content (tag_of i.form i.means) inner a.names a.closes)

-- an element that has no content
empty_told : {front : List ℕ} {ls : List Level} {outer scope : List Bound} {run bs after : List ℕ} {e : WrittenElement} {n : ExpandedName} {x : List Attribute} → 0 < depth_left ls
    → Stands front ls outer run bs → TagFormAt false (length front) bs e (codes "/>" ++ after) → TagMeans outer e.name e.attributes scope n x
    → After front (closed n none (with_text run ls)) outer after
empty_told {front} {ls} {outer} {scope} {run} {bs} {after} {e} {n} {x} some s form means =
    let lower : depth_left ls ≡ suc (depth_left (opened e n outer ∷ with_text run ls)) = omega (arith, some, length_text run ls) in
    behind_element {h = w.none} s
    (subst (λ z. ElementAt false (length front) outer z bs (whole n x scope (place_of (length front) bs) w.none) after) (sym lower) (empty_tag (tag_of form means))) refl

one_less : (n : ℕ) → 0 < n → suc (n - 1) ≡ n
one_less n h = omega (arith, h)

-- the document, once the root element has ended
document_told : {front : List ℕ} {n : ExpandedName} {kids : Trees} {bs : List ℕ} → Ended front n kids bs → MiscAt bs [] → Told front (document (element n kids none))
document_told {bs = bs} e k = λ chars. (
  piece_before e.piece w.none,
  record {
    past_declaration = e.past_declaration;
    past_misc = e.past_misc;
    root = e.place;
    past_root = bs;
    piece = e.piece;
    characters = chars;
    declaration = e.declared;
    misc = e.misc;
    doctype = e.doctype;
    element = e.reads;
    end = k;
    is_tree = refl;
  },
  e.is,
)

module _ (front : List ℕ) where
  mutual
    pub told : {ls : List Level} {scope : List Bound} {run bs : List ℕ} {o : Outcome} → Goes (length front) ls scope run bs o → Stands front ls scope run bs → Told front o
    told (characters a go) s = told go (stands_on s (c.character_data a))
    told (reference a go) s = told go (stands_on s (c.reference a))
    told (cdata a go) s = told go (stands_on s (c.cdata a))
    told (comment a go) s = told go (stands_on s (c.comment a))
    told (instruction a go) s = told go (stands_on s (c.instruction a))
    told (start_tag some form fits means go) s = told go (stands_within some s form means)
    told (g.empty_tag some form fits means go) s = told_behind go (empty_told some s form means)
    told (end_tag form short go) s = told_behind go (ended_told s form)
    told {bs = bs} (entity a) s = (bs, entity_told s a, refl)
    told {scope = outer} (deep {rest = r} none_left q) s =
        (0x3C ∷ r, element_refused s (subst (λ z. ElementRefuses (length front) outer z (0x3C ∷ r) too_deep (0x3C ∷ r)) (sym none_left) (depth q)), refl)
    told {ls} {scope = outer} {bs = bs} (construct {at = at} {why = why} some k n) s =
        (at, element_refused s (subst (λ z. ElementRefuses (length front) outer z bs (unsupported why) at) (one_less (depth_left ls) some) (tag k)), refl)
    told (long_tag long) s = m.long_tag (stands_comes s) long
    told {ls} {scope = outer} {bs = bs} (many_names {e = e} some form ends short many) s =
        m.many_names (subst (λ z. ComesTo front (all_written ls) outer z bs) (sym (one_less (depth_left ls) some)) (stands_comes s)) form ends (subst (λ z. m.most_names < z) (ap (λ z. names_length e + z) (used_open ls) ∙ sym (names_more e (all_written ls))) many)

    pub told_behind : {k : Closed} {scope : List Bound} {bs : List ℕ} {o : Outcome} → GoesBehind (length front) k scope bs o → After front k scope bs → Told front o
    told_behind (content go) s = told go s
    told_behind (end n) s = document_told s n

pub told_front : (front : List ℕ) {o : Outcome} → FromFront (length front) (after_mark front) o → Told front o
told_front front (declaration {at = at} a) = (at, f.declaration a, refl)
told_front front (prolog d (from.subset {r = r} n a)) = (0x5B ∷ r, f.subset d n a, refl)
told_front front (prolog d (root n r go)) = told front go (before_root d n r)

-- where another outcome comes of a text no measure passes before a place

no_other : {o : Outcome} {front : List ℕ} {measure : Measure} {place : ℕ} → FromFront (length front) (after_mark front) o → (o ≡ passed measure place → ⊥)
    → ((other : Measure) (earlier : ℕ) → earlier < place → PassesAt front other earlier → ⊥) → PassesAt front measure place → ⊥
no_other {front = front} {measure = measure} {place = place} go differs before passes = differs (front_one front go (comes_passed {measure = measure} {place = place} before passes))

pub none_before : {o : Outcome} {front : List ℕ} (n : ℕ) → FromFront (length front) (after_mark front) o
    → ((measure : Measure) (place : ℕ) → place < n → o ≡ passed measure place → ⊥) → (measure : Measure) (place : ℕ) → place < n → PassesAt front measure place → ⊥
none_before zero go differs measure place low passes = omega (arith, low)
none_before {o} {front} (suc n) go differs measure place low passes =
    no_other go (differs measure place low)
    (λ other earlier less. none_before n go (λ k p q. differs k p (omega (arith, q))) other earlier (omega (arith, less, low)))
    passes
