-- Where reading comes in a text, and that no measure passes in a good one.
use Rattle.std.proofs.Common.{◌≡◌, ℕ, suc, Bool, true, false, cond, ◌==◌, List, [], ◌∷◌, refl, ap, ◌∙◌, sym, subst, length, arith}
use Rattle.std.proofs.lemmas.Bool.{eqb-true}
use Rattle.tc_model.specs.Names.{ExpandedName}
use Rattle.tc_model.specs.RawTrees.{Attribute, Bound, RawTrees}
use Rattle.tc_model.specs.XmlText.{XmlText}
use Rattle.tc_model.specs.XmlTextBytes.{after_white}
use Rattle.tc_model.specs.XmlTextNames.{QualifiedName, QNameAt}
use Rattle.tc_model.specs.XmlTextMisc.{MiscAt, DoctypeAt}
use Rattle.tc_model.specs.XmlTextScopes.{TagMeans, first_scope}
use Rattle.tc_model.specs.XmlTextContent.{Piece, TagAt, ContentAt, at_end_tag, item, ItemAt, character_data, reference, cdata, comment, instruction, child, ElementAt, empty_tag, with_content}
use Rattle.tc_tags.specs.XmlTextTags as t
use Rattle.tc_tags.specs.XmlTextTags.{WrittenElement, TagFormAt, WholeTagAt, ComesTo, to_root, into_element, past_item}
use Rattle.tc_tags.specs.Begins.{BeginsTag}
use Rattle.tc_stream.specs.XmlTextMeasures.{PassesAt, long_tag, many_names, Measure, GoodTextsPassNothing}
use Rattle.tc_model.proofs.XmlTextPhrases.{same_first, same_others, no_qname, declaration_unique, misc_unique, doctype_unique}
use Rattle.tc_model.proofs.XmlTextUnique.{tag_unique, item_unique, no_item_at_end_tag, kind, markup, bang, character_data_kind, reference_kind, cdata_kind, comment_kind, instruction_kind, tag_kind}
use Rattle.tc_model.proofs.XmlTextRefused.{front_unique, whole_front}
use Rattle.tc_stream.proofs.LongLaws.{long_begins, long_not_short}

-- a tag by its form and its meaning is a tag
pub tag_of : {o : Bool} {total : ℕ} {outer scope : List Bound} {bs after : List ℕ} {e : WrittenElement} {n : ExpandedName} {expanded : List Attribute}
    → TagFormAt o total bs e after → TagMeans outer e.name e.attributes scope n expanded → TagAt o total outer bs e.name scope n expanded after
tag_of {e = e} f m = record { rest = f.rest; past_name = f.past_name; attributes = e.attributes; opens = f.opens; names = f.names; lists = f.lists; means = m }

-- what stands ahead of a place to which reading comes in a text: the root element, or the rest of the content and an end tag of the innermost element
pub record Rest (total : ℕ) (name : QualifiedName) (scope : List Bound) (deepest : ℕ) (bs : List ℕ) : Type 0 where
  pub kids : RawTrees
  pub end : List ℕ
  pub past_name : List ℕ
  pub after : List ℕ
  pub content : ContentAt false total scope deepest bs kids (0x3C ∷ 0x2F ∷ end)
  pub names : QNameAt end name past_name
  pub closes : after_white past_name ≡ 0x3E ∷ after

abbrev pub Ahead : ℕ → List WrittenElement → List Bound → ℕ → List ℕ → Type 0
Ahead total [] scope deepest bs = (piece : Piece) × (after : List ℕ) × ElementAt false total scope deepest bs piece after
Ahead total (e ∷ es) scope deepest bs = Rest total e.name scope deepest bs

-- the element whose start tag stands at the front goes on with the rest of its content
into : {total d : ℕ} {outer scope : List Bound} {bs inside after : List ℕ} {w : QualifiedName} {n : ExpandedName} {expanded : List Attribute} {piece : Piece}
    → TagAt false total outer bs w scope n expanded (0x3E ∷ inside) → ElementAt false total outer (suc d) bs piece after → Rest total w scope d inside
into a (empty_tag b) = absurd (omega (arith, same_first (tag_unique a b).same_after))
into {total} {d} {scope = scope} {inside = inside} {w = w} a (with_content {scope = scope'} {deepest = d'} {inside = inside'} {end = end} {past_name = past} {after = after} {written = w'} {kids = kids} b m q e) =
    let same = tag_unique a b in
    let rest : inside ≡ inside' = same_others same.same_after in
    record {
      kids = kids;
      end = end;
      past_name = past;
      after = after;
      content = subst (λ z. ContentAt false total z d inside kids (0x3C ∷ 0x2F ∷ end)) (sym same.same_scope) (subst (λ z. ContentAt false total scope' d z kids (0x3C ∷ 0x2F ∷ end)) (sym rest) m);
      names = subst (λ z. QNameAt end z past) (sym same.same_written) q;
      closes = e;
    }

-- the item at the front of content where a tag that isn't an end tag stands is an element
pub element_there : {total d : ℕ} {outer : List Bound} {bs r : List ℕ} {p : Piece} → kind bs ≡ 3 → ItemAt false total outer d bs p r → ElementAt false total outer d bs p r
element_there k (character_data a) = absurd (omega (arith, character_data_kind a))
element_there k (reference a) = absurd (omega (arith, reference_kind a))
element_there k (cdata a) = absurd (omega (arith, cdata_kind a))
element_there k (comment a) = absurd (omega (arith, comment_kind a))
element_there k (instruction a) = absurd (omega (arith, instruction_kind a))
element_there k (child a) = a

no_tag_at_end_tag : {total : ℕ} {outer scope : List Bound} {bs r after : List ℕ} {w : QualifiedName} {n : ExpandedName} {e : List Attribute}
    → bs ≡ 0x3C ∷ 0x2F ∷ r → TagAt false total outer bs w scope n e after → ⊥
no_tag_at_end_tag {w = w} is a = no_qname 0x2F (omega arith) refl (subst (λ z. QNameAt z w a.past_name) (sym (same_others (sym is ∙ a.opens))) a.names)

into_content : {total d : ℕ} {outer scope : List Bound} {bs inside end : List ℕ} {w : QualifiedName} {n : ExpandedName} {expanded : List Attribute} {kids : RawTrees}
    → TagAt false total outer bs w scope n expanded (0x3E ∷ inside) → ContentAt false total outer (suc d) bs kids end → Rest total w scope d inside
into_content a at_end_tag = absurd (no_tag_at_end_tag refl a)
into_content a (item b m) = into a (element_there (tag_kind a) b)

past : {total d : ℕ} {scope : List Bound} {name : QualifiedName} {bs rest : List ℕ} {piece : Piece} → ItemAt false total scope d bs piece rest
    → Rest total name scope d bs → Rest total name scope d rest
past {total} {d} {scope} {name} {bs} {rest} {piece} i r = by r.content refl refl
  where
    by : {b end : List ℕ} {kids : RawTrees} → ContentAt false total scope d b kids end → b ≡ bs → end ≡ 0x3C ∷ 0x2F ∷ r.end → Rest total name scope d rest
    by at_end_tag is e = absurd (no_item_at_end_tag (subst (λ z. ItemAt false total scope d z piece rest) (sym is) i))
    by {end = last} (item {rest = behind} {piece = p} {trees = trees} a m) is e =
        let same = item_unique (subst (λ z. ItemAt false total scope d z p behind) is a) i in
        record {
          kids = trees;
          end = r.end;
          past_name = r.past_name;
          after = r.after;
          content = subst (λ z. ContentAt false total scope d rest trees z) e (subst (λ z. ContentAt false total scope d z trees last) same.1 m);
          names = r.names;
          closes = r.closes;
        }

-- where reading comes in a text of the form of XML, the text goes on well
pub ahead : {bytes bs : List ℕ} {h : RawTrees} {es : List WrittenElement} {scope : List Bound} {d : ℕ}
    → XmlText bytes h → ComesTo bytes es scope d bs → Ahead (length bytes) es scope d bs
ahead {bytes} x (to_root {root = root} d m r) =
    let start = declaration_unique x.declaration d in
    let misc = misc_unique (subst (λ z. MiscAt z x.past_misc) start x.misc) m in
    let same = doctype_unique (subst (λ z. DoctypeAt z x.root) misc x.doctype) r in
    (x.piece, x.past_root, subst (λ z. ElementAt false (length bytes) first_scope 2000 z x.piece x.past_root) same x.element)
ahead x (into_element {elements = []} c f m) = let (p, after, e) = ahead x c in into (tag_of f m) e
ahead x (into_element {elements = e ∷ es} c f m) = let r = ahead x c in into_content (tag_of f m) r.content
ahead x (past_item c i) = past i (ahead x c)

-- which kind of item a tag is
pub tag_begins : {bs : List ℕ} → BeginsTag bs → kind bs ≡ 3
unfolding kind markup
tag_begins b = ap kind b.opens ∙ by (b.next == 0x3F) (b.next == 0x21) refl refl
  where
    by : (x y : Bool) → (b.next == 0x3F) ≡ x → (b.next == 0x21) ≡ y → cond x 2 (cond y (bang b.rest) 3) ≡ 3
    by true y e f = absurd (b.no_instruction (eqb-true b.next 0x3F e))
    by false true e f = absurd (b.no_mark (eqb-true b.next 0x21 f))
    by false false e f = refl

-- the tag of an element is whole
pub whole_of : {total d : ℕ} {outer : List Bound} {bs after : List ℕ} {piece : Piece} → ElementAt false total outer d bs piece after → (r : List ℕ) × WholeTagAt total bs r
whole_of {total} {bs = bs} (empty_tag {after = after} {written = w} a) = (after, t.empty_tag (form a))
  where
    form : {outer scope : List Bound} {w : QualifiedName} {n : ExpandedName} {x : List Attribute} {r : List ℕ} (a : TagAt false total outer bs w scope n x r) → TagFormAt false total bs (record { name = w; attributes = a.attributes }) r
    form a = record { rest = a.rest; past_name = a.past_name; opens = a.opens; names = a.names; lists = a.lists; no_space = a.means.no_space }
whole_of {total} {bs = bs} (with_content {inside = inside} {written = w} a m q e) = (inside, t.start_tag (form a))
  where
    form : {outer scope : List Bound} {w : QualifiedName} {n : ExpandedName} {x : List Attribute} {r : List ℕ} (a : TagAt false total outer bs w scope n x r) → TagFormAt false total bs (record { name = w; attributes = a.attributes }) r
    form a = record { rest = a.rest; past_name = a.past_name; opens = a.opens; names = a.names; lists = a.lists; no_space = a.means.no_space }

-- the tag to which reading comes in a text is whole
whole_ahead : (total d : ℕ) (scope : List Bound) (bs : List ℕ) (es : List WrittenElement) → BeginsTag bs → Ahead total es scope d bs → (r : List ℕ) × WholeTagAt total bs r
whole_ahead total d scope bs [] b (p, after, e) = whole_of e
whole_ahead total d scope bs (x ∷ es) b r = by r.content refl refl
  where
    by : {front end : List ℕ} {kids : RawTrees} → ContentAt false total scope d front kids end → front ≡ bs → end ≡ 0x3C ∷ 0x2F ∷ r.end → (s : List ℕ) × WholeTagAt total bs s
    by at_end_tag is e = (r.after, t.end_tag (record { rest = r.end; past_name = r.past_name; opens = sym is ∙ e; names = r.names; closes = r.closes }))
    by (item {rest = behind} {piece = p} a m) is e = whole_of (element_there (tag_begins b) (subst (λ z. ItemAt false total scope d z p behind) is a))

pub good_texts_pass_nothing : GoodTextsPassNothing
good_texts_pass_nothing bytes h good front measure place is passes = by (subst (λ z. PassesAt z measure place) (front_unique is (whole_front good.reads.characters)) passes)
  where
    by : {m : Measure} {p : ℕ} → PassesAt bytes m p → ⊥
    by (long_tag {elements = es} {outer} {deepest} {at} c long) =
        let (r, w) = whole_ahead (length bytes) deepest outer at es (long_begins long) (ahead good.reads c) in
        long_not_short long w (good.tags es outer deepest at r c w)
    by (many_names {element = e} {elements = es} {outer} {deepest} {at} {end} c f ends few) = omega (arith, few, good.names e es outer (suc deepest) at end c f)
