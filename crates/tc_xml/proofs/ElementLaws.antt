-- What the steps of reading content and elements show of the whole.
use Rattle.std.proofs.Common.{◌≡◌, ◌≢◌, ℕ, suc, ◌-◌, Bool, false, List, ◌∷◌, ◌++◌, refl, ◌∙◌, sym, subst, arith, codes}
use Rattle.tc_base.specs.declared.reasons.Why.{Why}
use Rattle.tc_base.specs.declared.reasons.Why.TheVariants.{EntityReference}
use Rattle.tc_model.specs.Names.{ExpandedName}
use Rattle.tc_model.specs.RawTrees.{Attribute, Bound, RawTrees, none}
use Rattle.tc_model.specs.XmlTextBytes.{place_of}
use Rattle.tc_model.specs.XmlTextNames.{QualifiedName, QNameAt}
use Rattle.tc_model.specs.XmlTextContent.{Piece, whole, piece_before, TagAt, ContentAt, at_end_tag, item, ItemAt, ElementAt, empty_tag, with_content}
use Rattle.tc_model.specs.XmlTextRefusals.{Cause, unsupported, too_deep, TagRefuses, OtherEntityAt, ContentRefuses, entity, past_item, ElementRefuses, tag, inside}
use Rattle.tc_model.proofs.XmlTextPhrases.{same_others}
use Rattle.tc_model.proofs.XmlTextUnique.{tag_unique, no_item_at_end_tag, item_unique, content_unique}
use Rattle.tc_xml.specs.declared.content.Gathered.{Gathered}
use Rattle.tc_xml.specs.declared.faults.Stop.{Stop}
use Rattle.tc_xml.specs.declared.faults.Stop.TheVariants.{Malformed, Unsupported, TooDeep, NoMemory}
use Rattle.tc_xml.specs.Reading.{EndTagAt, BodyAt, empty, filled, BodyRefuses, AddsPiece, AddsContent}
use Rattle.tc_xml.specs.Refusals.{Refuses, RefusesWithin, UnsupportedAt, RefusedAt}
use Rattle.tc_xml.specs.Views.{gathered_before}
use Rattle.tc_xml.proofs.ContentLaws.{item_loosened, tag_loosened, content_loosened}
use Rattle.tc_xml.proofs.PastLaws.{past_one_item}

-- the content so far, from the front of the text to what is left of it
pub record Content (total : ℕ) (scope : List Bound) (depth : ℕ) (text rest : List ℕ) (old new : Gathered) : Type 0 where
  pub grows : RawTrees → RawTrees
  pub forth : (h : RawTrees) (after : List ℕ) → ContentAt false total scope depth rest h after → ContentAt false total scope depth text (grows h) after
  pub adds : (h : RawTrees) → gathered_before new h ≡ gathered_before old (grows h)
  pub back : (o : Bool) (d : ℕ) (h : RawTrees) (after : List ℕ) → ContentAt o total scope d text h after → (k : RawTrees) × ContentAt o total scope d rest k after
  pub stands : (cause : Cause) (at : List ℕ) → ContentRefuses total scope depth rest cause at → ContentRefuses total scope depth text cause at
  pub comes : (cause : Cause) (at : List ℕ) → ContentRefuses total scope depth text cause at → ContentRefuses total scope depth rest cause at

pub content_begin : (total : ℕ) (scope : List Bound) (depth : ℕ) (text : List ℕ) (old : Gathered) → Content total scope depth text text old old
content_begin total scope depth text old = record {
  grows = λ h. h;
  forth = λ h after m. m;
  adds = λ h. refl;
  back = λ o d h after m. (h, m);
  stands = λ cause at k. k;
  comes = λ cause at k. k;
}

-- one item more
pub content_more : (total : ℕ) (scope : List Bound) (depth : ℕ) (text rest after : List ℕ) (old mid new : Gathered) → Content total scope depth text rest old mid
    → (p : Piece) × ItemAt false total scope depth rest p after × AddsPiece mid new p → Content total scope depth text after old new
content_more total scope depth text rest after old mid new s (p, a, adds) = record {
  grows = λ h. s.grows (piece_before p h);
  forth = λ h end m. s.forth (piece_before p h) end (item a m);
  adds = λ h. adds h ∙ s.adds (piece_before p h);
  back = λ o d h end m. let (k, n) = s.back o d h end m in one_less total scope depth rest after p a o d k end n;
  stands = λ cause at k. s.stands cause at (past_item a k);
  comes = λ cause at k. past_one_item total scope depth rest after p a cause at (s.comes cause at k);
}
  where
    one_less : (total : ℕ) (scope : List Bound) (depth : ℕ) (rest after : List ℕ) (p : Piece) → ItemAt false total scope depth rest p after
        → (o : Bool) (d : ℕ) (h : RawTrees) (end : List ℕ) → ContentAt o total scope d rest h end → (k : RawTrees) × ContentAt o total scope d after k end
    one_less total scope depth rest after p a o d h end at_end_tag = absurd (no_item_at_end_tag a)
    one_less total scope depth rest after p a o d h end (item {trees = k} b n) =
        let both = item_unique (item_loosened a) b in
        (k, subst (λ z. ContentAt o total scope d z k end) (sym both.1) n)

-- content without an end tag at its front begins with an item
pub no_content : (o : Bool) (total : ℕ) (scope : List Bound) (depth d : ℕ) (text rest : List ℕ) (old mid : Gathered) → Content total scope depth text rest old mid
    → ((r : List ℕ) → rest ≡ codes "</" ++ r → ⊥) → ((p : Piece) (after : List ℕ) → ItemAt o total scope d rest p after → ⊥)
    → (h : RawTrees) (after : List ℕ) → ContentAt o total scope d text h after → ⊥
no_content o total scope depth d text rest old mid s ends items h after m = let (k, n) = s.back o d h after m in by rest k after ends items n
  where
    by : (rest : List ℕ) (h : RawTrees) (after : List ℕ) → ((r : List ℕ) → rest ≡ codes "</" ++ r → ⊥) → ((p : Piece) (after : List ℕ) → ItemAt o total scope d rest p after → ⊥)
        → ContentAt o total scope d rest h after → ⊥
    by rest h after ends items (at_end_tag {r = r}) = ends r refl
    by rest h after ends items (item {rest = next} {piece = p} a n) = items p next a

pub all_content : (total : ℕ) (scope : List Bound) (depth : ℕ) (text rest : List ℕ) (old mid : Gathered) → Content total scope depth text rest old mid
    → (r : List ℕ) × (rest ≡ codes "</" ++ r) → (h : RawTrees) × ContentAt false total scope depth text h rest × AddsContent old mid h
all_content total scope depth text rest old mid s (r, e) =
    (s.grows none, s.forth none rest (subst (λ w. ContentAt false total scope depth w none w) (sym e) at_end_tag), s.adds none)

pub refuse_within : (e : Stop) (A B C A' B' C' : Type 0) → (A → A') → (B → B') → (C → C') → RefusesWithin e A B C → RefusesWithin e A' B' C'
refuse_within (Malformed left) A B C A' B' C' f g h k = f k
refuse_within (Unsupported left why) A B C A' B' C' f g h k = g k
refuse_within (TooDeep left) A B C A' B' C' f g h k = h k
refuse_within NoMemory A B C A' B' C' f g h k = tt

pub refused_map : (e : Stop) (P Q : Cause → List ℕ → Type 0) → ((cause : Cause) (at : List ℕ) → P cause at → Q cause at) → RefusedAt e P → RefusedAt e Q
refused_map (Malformed left) P Q f h = tt
refused_map (Unsupported left why) P Q f (at, e, h) = (at, e, f (unsupported why) at h)
refused_map (TooDeep left) P Q f (at, e, h) = (at, e, f too_deep at h)
refused_map NoMemory P Q f h = tt

pub refuse_shallow : (e : Stop) (A B A' B' C' : Type 0) → (A → A') → (B → B') → Refuses e A B → RefusesWithin e A' B' C'
refuse_shallow (Malformed left) A B A' B' C' f g k = f k
refuse_shallow (Unsupported left why) A B A' B' C' f g k = g k
refuse_shallow (TooDeep left) A B A' B' C' f g k = absurd k
refuse_shallow NoMemory A B A' B' C' f g k = tt

pub refused_shallow : (e : Stop) (P : Why → List ℕ → Type 0) (Q : Cause → List ℕ → Type 0) → ((why : Why) (at : List ℕ) → P why at → Q (unsupported why) at) → UnsupportedAt e P → RefusedAt e Q
refused_shallow (Malformed left) P Q f h = tt
refused_shallow (Unsupported left why) P Q f (at, e, h) = (at, e, f why at h)
refused_shallow (TooDeep left) P Q f h = absurd h
refused_shallow NoMemory P Q f h = tt

-- an element is a tag and what follows it
pub an_element : (total : ℕ) (outer : List Bound) (depth d : ℕ) (text rest after : List ℕ) (w : QualifiedName) (scope : List Bound) (n : ExpandedName) (x : List Attribute) (h : RawTrees)
    → depth ≡ suc d → TagAt false total outer text w scope n x rest → BodyAt false total scope d w rest h after → (place : ℕ) → place ≡ place_of total text
    → ElementAt false total outer depth text (whole n x scope place h) after
an_element total outer depth d text rest after w scope n x h e t b place q =
    subst (λ y. ElementAt false total outer depth text (whole n x scope y h) after) (sym q) (subst (λ y. ElementAt false total outer y text (whole n x scope (place_of total text) h) after) (sym e) (by h b))
  where
    by : (h : RawTrees) → BodyAt false total scope d w rest h after → ElementAt false total outer (suc d) text (whole n x scope (place_of total text) h) after
    by h (empty k) = empty_tag (subst (TagAt false total outer text w scope n x) k t)
    by h (filled {inside = i} {end = end} k m a) =
        with_content (subst (TagAt false total outer text w scope n x) k t) (subst (ContentAt false total scope d i h) a.opens m) a.names a.closes

-- and the other way round
pub element_body : (o : Bool) (total : ℕ) (outer : List Bound) (text rest : List ℕ) (w : QualifiedName) (scope : List Bound) (n : ExpandedName) (x : List Attribute)
    → TagAt false total outer text w scope n x rest → (d : ℕ) (p : Piece) (after : List ℕ) → ElementAt o total outer d text p after
    → (e : ℕ) × (d ≡ suc e) × ((h : RawTrees) × BodyAt o total scope e w rest h after)
element_body o total outer text rest w scope n x t d p after (empty_tag {deepest = e} a) =
    let same = tag_unique (tag_loosened t) a in (e, refl, (none, empty same.same_after))
element_body o total outer text rest w scope n x t d p after (with_content {scope = s} {deepest = e} {inside = i} {end = end} {past_name = past} {kids = h} a m b c) =
    let same = tag_unique (tag_loosened t) a in
    let close : EndTagAt w (0x3C ∷ 0x2F ∷ end) after = record { rest = end; past_name = past; opens = refl; names = subst (λ z. QNameAt end z past) (sym same.same_written) b; closes = c } in
    (e, refl, (h, filled same.same_after (subst (λ z. ContentAt o total z e i h (0x3C ∷ 0x2F ∷ end)) (sym same.same_scope) m) close))

pub no_body : (o : Bool) (total : ℕ) (outer : List Bound) (text rest : List ℕ) (w : QualifiedName) (scope : List Bound) (n : ExpandedName) (x : List Attribute)
    → TagAt false total outer text w scope n x rest → ((d : ℕ) (h : RawTrees) (after : List ℕ) → BodyAt o total scope d w rest h after → ⊥)
    → (d : ℕ) (p : Piece) (after : List ℕ) → ElementAt o total outer d text p after → ⊥
no_body o total outer text rest w scope n x t k d p after a = let (e, q, (h, b)) = element_body o total outer text rest w scope n x t d p after a in k e h after b

pub no_shallow_body : (o : Bool) (total : ℕ) (outer : List Bound) (depth : ℕ) (text rest : List ℕ) (w : QualifiedName) (scope : List Bound) (n : ExpandedName) (x : List Attribute)
    → TagAt false total outer text w scope n x rest → ((h : RawTrees) (after : List ℕ) → BodyAt o total scope (depth - 1) w rest h after → ⊥)
    → (p : Piece) (after : List ℕ) → ElementAt o total outer depth text p after → ⊥
no_shallow_body o total outer depth text rest w scope n x t k p after a =
    let (e, q, (h, b)) = element_body o total outer text rest w scope n x t depth p after a in
    let same : e ≡ depth - 1 = omega (arith, q) in
    k h after (subst (λ z. BodyAt o total scope z w rest h after) same b)

-- an element whose tag is not read
pub no_tag : (o : Bool) (total : ℕ) (outer : List Bound) (text : List ℕ)
    → ((w : QualifiedName) (scope : List Bound) (n : ExpandedName) (x : List Attribute) (after : List ℕ) → TagAt o total outer text w scope n x after → ⊥)
    → (d : ℕ) (p : Piece) (after : List ℕ) → ElementAt o total outer d text p after → ⊥
no_tag o total outer text k d p after (empty_tag {after = r} {written = w} {name = n} {expanded = x} a) = k w _ n x _ a
no_tag o total outer text k d p after (with_content {scope = s} {written = w} {name = n} {expanded = x} a m b c) = k w s n x _ a

pub tag_stands : (total : ℕ) (outer : List Bound) (depth : ℕ) (text : List ℕ) → depth ≢ 0 → (why : Why) (at : List ℕ) → TagRefuses text why at → ElementRefuses total outer depth text (unsupported why) at
tag_stands total outer depth text some why at k =
    let q : suc (depth - 1) ≡ depth = omega (arith, some) in subst (λ d. ElementRefuses total outer d text (unsupported why) at) q (tag k)

pub body_stands : (total : ℕ) (outer : List Bound) (depth : ℕ) (text rest : List ℕ) (w : QualifiedName) (scope : List Bound) (n : ExpandedName) (x : List Attribute)
    → depth ≢ 0 → TagAt false total outer text w scope n x rest → (cause : Cause) (at : List ℕ) → BodyRefuses total scope (depth - 1) rest cause at → ElementRefuses total outer depth text cause at
body_stands total outer depth text rest w scope n x some t cause at k =
    let q : suc (depth - 1) ≡ depth = omega (arith, some) in
    subst (λ d. ElementRefuses total outer d text cause at) q (inside (subst (TagAt false total outer text w scope n x) k.opens t) k.refuses)

pub no_body_end : (o : Bool) (total : ℕ) (scope : List Bound) (w : QualifiedName) (rest : List ℕ) → ((r : List ℕ) → rest ≡ codes "/>" ++ r → ⊥) → ((r : List ℕ) → rest ≡ 0x3E ∷ r → ⊥)
    → (d : ℕ) (h : RawTrees) (after : List ℕ) → BodyAt o total scope d w rest h after → ⊥
no_body_end o total scope w rest f g d h after (empty q) = f after q
no_body_end o total scope w rest f g d h after (filled {inside = i} q n a) = g i q

pub no_inside : (o : Bool) (total : ℕ) (scope : List Bound) (w : QualifiedName) (rest start : List ℕ) → ((r : List ℕ) → rest ≡ codes "/>" ++ r → ⊥) → rest ≡ 0x3E ∷ start
    → (d : ℕ) → ((h : RawTrees) (after : List ℕ) → ContentAt o total scope d start h after → ⊥) → (h : RawTrees) (after : List ℕ) → BodyAt o total scope d w rest h after → ⊥
no_inside o total scope w rest start f e d k h after (empty q) = f after q
no_inside o total scope w rest start f e d k h after (filled {end = end} q n a) = k h end (subst (λ z. ContentAt o total scope d z h end) (same_others (sym q ∙ e)) n)

pub inside_stands : (total : ℕ) (scope : List Bound) (depth : ℕ) (rest start : List ℕ) → rest ≡ 0x3E ∷ start
    → (cause : Cause) (at : List ℕ) → ContentRefuses total scope depth start cause at → BodyRefuses total scope depth rest cause at
inside_stands total scope depth rest start e cause at k = record { inside = start; opens = e; refuses = k }

pub no_end_of_element : (o : Bool) (total : ℕ) (scope : List Bound) (depth d : ℕ) (w : QualifiedName) (rest start end : List ℕ) (k : RawTrees) → ((r : List ℕ) → rest ≡ codes "/>" ++ r → ⊥) → rest ≡ 0x3E ∷ start
    → ContentAt false total scope depth start k end → ((after : List ℕ) → EndTagAt w end after → ⊥) → (h : RawTrees) (after : List ℕ) → BodyAt o total scope d w rest h after → ⊥
no_end_of_element o total scope depth d w rest start end k f e m g h after (empty q) = f after q
no_end_of_element o total scope depth d w rest start end k f e m g h after (filled {end = other} q n a) =
    let both = content_unique (content_loosened m) (subst (λ z. ContentAt o total scope d z h other) (same_others (sym q ∙ e)) n) in
    g after (subst (λ z. EndTagAt w z after) (sym both.1) a)

pub entity_stands : (total : ℕ) (scope : List Bound) (depth : ℕ) (text : List ℕ) (why : Why) (at : List ℕ) → (why ≡ EntityReference) × (at ≡ text) × OtherEntityAt at → ContentRefuses total scope depth text (unsupported why) at
entity_stands total scope depth text why at (is, same, k) =
    subst (λ b. ContentRefuses total scope depth b (unsupported why) at) same (subst (λ w. ContentRefuses total scope depth at (unsupported w) at) (sym is) (entity k))
