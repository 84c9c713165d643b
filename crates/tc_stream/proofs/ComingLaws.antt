-- What comes of a text by the standard comes of it by steps.
use Rattle.std.proofs.Common.{◌≡◌, inl, inr, ◌⊎◌, ℕ, suc, ◌<◌, ◌≤◌, ◌+◌, false, List, [], ◌∷◌, ◌++◌, refl, ap, ◌∙◌, sym, subst, length, arith, codes}
use Rattle.tc_base.specs.declared.reasons.Why.TheVariants.{EntityReference}
use Rattle.tc_model.specs.RawTrees as w
use Rattle.tc_model.specs.RawTrees.{Attribute, Bound, RawTrees}
use Rattle.tc_model.specs.Stripped.{bare, stripped}
use Rattle.tc_model.specs.Trees.{Trees, none, beside, joined, kept}
use Rattle.tc_model.specs.XmlText.{XmlText, after_mark, deepest_element}
use Rattle.tc_model.specs.XmlTextBytes.{place_of}
use Rattle.tc_model.specs.XmlTextMisc.{MiscAt}
use Rattle.tc_model.specs.XmlTextScopes.{first_scope}
use Rattle.tc_model.specs.XmlTextContent.{Piece, nothing, characters, whole, piece_before, ContentAt, at_end_tag, item, ItemAt, child, ElementAt, empty_tag, with_content}
use Rattle.tc_model.specs.XmlTextContent as c
use Rattle.tc_model.specs.XmlTextRefusals.{Cause, unsupported, too_deep, ContentRefuses, past_item, ElementRefuses, depth, tag, inside, DocumentRefuses, subset}
use Rattle.tc_model.specs.XmlTextRefusals as f
use Rattle.tc_model.proofs.NormalForm.{dropped_empty}
use Rattle.tc_tags.specs.XmlTextTags.{WrittenElement, TagFormAt, EndTagAt, WholeTagAt, ComesTo, to_root, into_element, names_length, open_names, tag_length}
use Rattle.tc_tags.specs.XmlTextTags as t
use Rattle.tc_stream.specs.XmlTextMeasures.{Measure, longest_tag, most_names, IsLongTag, PassesAt, long_tag, many_names}
use Rattle.tc_stream.specs.XmlTextMeasures as m
use Rattle.tc_stream.specs.Outcomes.{Outcome, document, refused, passed}
use Rattle.tc_stream.specs.Goes.{Level, all_written, used, depth_left, with_text, Closed, within, finished, closed, Fits, IsLong, Goes, GoesBehind, content, end}
use Rattle.tc_stream.specs.Goes as g
use Rattle.tc_stream.specs.From.{FromFront, declaration, prolog, root}
use Rattle.tc_stream.specs.From as from
use Rattle.tc_stream.proofs.LengthLaws.{comes_within, form_within, end_tag_within, item_within, content_within}
use Rattle.tc_stream.proofs.LengthLaws.{at_most_or_more}
use Rattle.tc_tags.proofs.TagLaws.{EndsAt, open_end, empty_end, ends_at, ends_shorter, form_of}
use Rattle.tc_stream.proofs.LongLaws.{long_form, long_end_tag}
use Rattle.tc_stream.proofs.OneOutcome.{opened}
use Rattle.tc_stream.proofs.ItemLaws.{run_after, level_after, grown, grown_after, written_text, names_more, used_open, deeper, Behind, behind_content}

-- no measure passes up to a place
pub record IsClean (front upto : List ℕ) : Type 0 where
  pub passes_none : (measure : Measure) (place : ℕ) → PassesAt front measure place → place ≤ place_of (length front) upto → ⊥

clean_before : {front upto before : List ℕ} → IsClean front upto → length upto ≤ length before → IsClean front before
clean_before clean low = record { passes_none = λ measure place passes k. clean.passes_none measure place passes (omega (arith, low, k)) }

ends_either : {end after : List ℕ} → EndsAt end after → (end ≡ 0x3E ∷ after) ⊎ (end ≡ codes "/>" ++ after)
ends_either (open_end e) = inl e
ends_either (empty_end e) = inr e

-- up to there each tag keeps the limits

short_form : {front bs end after upto : List ℕ} {es : List WrittenElement} {outer : List Bound} {d : ℕ} {e : WrittenElement} → ComesTo front es outer (suc d) bs
    → TagFormAt false (length front) bs e end → EndsAt end after → IsClean front upto → length upto ≤ length after → tag_length bs after ≤ longest_tag
short_form {front} {bs} {after = after} {upto = upto} c f k clean low = by (at_most_or_more (tag_length bs after) longest_tag)
  where
    by : (tag_length bs after ≤ longest_tag) ⊎ (longest_tag < tag_length bs after) → tag_length bs after ≤ longest_tag
    by (inl short) = short
    by (inr long) = absurd (clean.passes_none m.tag (place_of (length front) bs + longest_tag) (long_tag c (long_form f k long)) (omega (arith, low, long, comes_within c)))

few_names : {front bs end after upto : List ℕ} {es : List WrittenElement} {outer : List Bound} {d : ℕ} {e : WrittenElement} → ComesTo front es outer (suc d) bs
    → TagFormAt false (length front) bs e end → EndsAt end after → IsClean front upto → length upto ≤ length after → open_names (e ∷ es) ≤ most_names
few_names {front} {after = after} {es = es} {e = e} c f k clean low = by (at_most_or_more (open_names (e ∷ es)) most_names)
  where
    by : (open_names (e ∷ es) ≤ most_names) ⊎ (most_names < open_names (e ∷ es)) → open_names (e ∷ es) ≤ most_names
    by (inl few) = few
    by (inr many) = absurd (clean.passes_none m.names (place_of (length front) after) (many_names c f (ends_either k) many) (omega (arith, low)))

short_end : {front bs after upto : List ℕ} {e : WrittenElement} {es : List WrittenElement} {outer : List Bound} {d : ℕ} → ComesTo front (e ∷ es) outer d bs
    → EndTagAt e.name bs after → IsClean front upto → length upto ≤ length after → tag_length bs after ≤ longest_tag
short_end {front} {bs} {after} c f clean low = by (at_most_or_more (tag_length bs after) longest_tag)
  where
    by : (tag_length bs after ≤ longest_tag) ⊎ (longest_tag < tag_length bs after) → tag_length bs after ≤ longest_tag
    by (inl short) = short
    by (inr long) = absurd (clean.passes_none m.tag (place_of (length front) bs + longest_tag) (long_tag c (long_end_tag f long)) (omega (arith, low, long, comes_within c)))

fits : {front bs end after upto : List ℕ} {ls : List Level} {es : List WrittenElement} {outer : List Bound} {d : ℕ} {e : WrittenElement} → ComesTo front es outer (suc d) bs
    → TagFormAt false (length front) bs e end → EndsAt end after → IsClean front upto → length upto ≤ length after → all_written ls ≡ es → Fits ls e bs after
fits {ls = ls} {es = es} {e = e} c f k clean low is = record {
  short = short_form c f k clean low;
  few = omega (arith, few_names c f k clean low, names_more e es, used_open ls ∙ ap open_names is);
}

-- what is read between two places is read by steps

module _ (front : List ℕ) where
  mutual
    pub skip_item : {bs rest run : List ℕ} {piece : Piece} {l : Level} {ls : List Level} {scope : List Bound} {d : ℕ} {o : Outcome}
        → ItemAt false (length front) scope d bs piece rest → ComesTo front (l.written ∷ all_written ls) scope d bs → IsClean front rest → d ≡ depth_left (l ∷ ls)
        → Goes (length front) (level_after piece run l ∷ ls) scope (run_after piece run) rest o → Goes (length front) (l ∷ ls) scope run bs o
    skip_item (c.character_data a) k clean e go = g.characters a go
    skip_item (c.reference a) k clean e go = g.reference a go
    skip_item (c.cdata a) k clean e go = g.cdata a go
    skip_item (c.comment a) k clean e go = g.comment a go
    skip_item (c.instruction a) k clean e go = g.instruction a go
    skip_item {rest = rest} {run = run} {piece = p} {l = l} {ls = ls} {scope = scope} {o = o} (child a) k clean e go =
        skip_element {ls = l ∷ ls} a k clean e (behind_content (length front) p run l ls scope rest o go)

    pub skip_element : {bs rest run : List ℕ} {piece : Piece} {ls : List Level} {outer : List Bound} {d : ℕ} {o : Outcome}
        → ElementAt false (length front) outer d bs piece rest → ComesTo front (all_written ls) outer d bs → IsClean front rest → d ≡ depth_left ls
        → Behind (length front) piece run ls outer rest o → Goes (length front) ls outer run bs o
    skip_element {ls = ls} (empty_tag a) k clean e go =
        g.empty_tag (omega (arith, e)) (form_of a) (fits {ls = ls} k (form_of a) (empty_end refl) clean (omega arith) refl) a.means go
    skip_element {rest = rest} {run = run} {ls = ls} {outer = outer} {o = o} (with_content {scope = scope} {deepest = d} {inside = i} {end = q} {past_name = p} {written = w} {name = n} {kids = kids} a b names e') k clean e go =
        let form = form_of a in
        let one : WrittenElement = record { name = w; attributes = a.attributes } in
        let within_one : ComesTo front (one ∷ all_written (with_text run ls)) scope d i = subst (λ z. ComesTo front (one ∷ z) scope d i) (sym (written_text run ls)) (into_element k form a.means) in
        let close : EndTagAt w (0x3C ∷ 0x2F ∷ q) rest = record { rest = q; past_name = p; opens = refl; names = names; closes = e' } in
        g.start_tag (omega (arith, e)) form
        (fits {ls = ls} k form (open_end refl) clean (omega (arith, content_within b, end_tag_within close)) refl) a.means
        (skip_content {l = opened one n outer} {ls = with_text run ls} b within_one clean (omega (arith, end_tag_within close)) (deeper (opened one n outer) run ls d e)
        (λ trees left same there.
        g.end_tag close (short_end there close clean (omega arith))
        (subst (λ z. GoesBehind (length front) (closed n z (with_text run ls)) outer rest o) (sym (same ∙ dropped_empty (joined (bare kids)))) go)))

    pub skip_content : {bs behind upto run : List ℕ} {kids : RawTrees} {l : Level} {ls : List Level} {scope : List Bound} {d : ℕ} {o : Outcome}
        → ContentAt false (length front) scope d bs kids behind → ComesTo front (l.written ∷ all_written ls) scope d bs → IsClean front upto → length upto ≤ length behind → d ≡ depth_left (l ∷ ls)
        → ((trees : Trees) (left : List ℕ) → beside trees (kept left none) ≡ grown l.kids run kids → ComesTo front (l.written ∷ all_written ls) scope d behind
        → Goes (length front) (record l { kids = trees } ∷ ls) scope left behind o)
        → Goes (length front) (l ∷ ls) scope run bs o
    skip_content {run = run} {l = l} at_end_tag k clean low e go = go l.kids run refl k
    skip_content {run = run} {l = l} {ls = ls} (item {piece = p} {trees = h} a b) k clean low e go =
        skip_item a k (clean_before clean (omega (arith, low, content_within b))) e
        (skip_content {l = level_after p run l} {ls = ls} b (t.past_item k a) clean low e
        (λ trees left same there. go trees left (same ∙ grown_after p run l.kids h) there))

-- from the front to a place to which reading comes

item_step : {front bs rest run : List ℕ} {piece : Piece} {ls : List Level} {one : WrittenElement} {es : List WrittenElement} {scope : List Bound} {d : ℕ} {o : Outcome}
    → ItemAt false (length front) scope d bs piece rest → ComesTo front (one ∷ es) scope d bs → IsClean front rest → all_written ls ≡ one ∷ es → depth_left ls ≡ d
    → ((ms : List Level) (left : List ℕ) → all_written ms ≡ one ∷ es → depth_left ms ≡ d → Goes (length front) ms scope left rest o) → Goes (length front) ls scope run bs o
item_step {ls = []} a k clean is e go = absurd (omega (arith, ap length is))
item_step {front} {bs} {run = run} {piece = p} {ls = l ∷ ls} {scope = scope} {d = d} a k clean is e go =
    skip_item front a (subst (λ z. ComesTo front z scope d bs) (sym is) k) clean (sym e) (go (level_after p run l ∷ ls) (run_after p run) is e)

pub walk : {front at : List ℕ} {es : List WrittenElement} {scope : List Bound} {d : ℕ} {o : Outcome} → ComesTo front es scope d at → IsClean front at
    → ((ls : List Level) (run : List ℕ) → all_written ls ≡ es → depth_left ls ≡ d → Goes (length front) ls scope run at o) → FromFront (length front) (after_mark front) o
walk (to_root d n r) clean go = prolog d (root n r (go [] [] refl refl))
walk (into_element {outer = outer} {deepest = d} {element = one} {name = n} k f a) clean go =
    walk k (clean_before clean (omega (arith, form_within f)))
    (λ ls run is e.
    g.start_tag (omega (arith, e)) f (fits {ls = ls} k f (open_end refl) clean (omega arith) is) a
    (go (opened one n outer ∷ with_text run ls) [] (ap (λ z. one ∷ z) (written_text run ls ∙ is)) (sym (deeper (opened one n outer) run ls d (sym e)))))
walk (t.past_item k a) clean go =
    walk k (clean_before clean (omega (arith, item_within a))) (λ ls run is e. item_step {ls = ls} a k clean is e go)

-- a document

root_behind : (total : ℕ) (scope : List Bound) {rest : List ℕ} (piece : Piece) → MiscAt rest [] → Behind total piece [] [] scope rest (document (stripped (piece_before piece w.none)))
root_behind total scope nothing a = tt
root_behind total scope (characters s p) a = tt
root_behind total scope (whole n x bound p kids) a = end a

pub comes_document : {front : List ℕ} {h : RawTrees} → XmlText front h → IsClean front [] → FromFront (length front) (after_mark front) (document (stripped h))
comes_document {front} x clean =
    prolog x.declaration
    (root x.misc x.doctype
    (skip_element front {ls = []} x.element (to_root x.declaration x.misc x.doctype) (clean_before clean (omega arith)) refl
    (subst (λ z. Behind (length front) x.piece [] [] first_scope x.past_root (document (stripped z))) (sym x.is_tree) (root_behind (length front) first_scope x.piece x.end))))

-- a refusal

long_moved : (ls : List Level) {es : List WrittenElement} {at : List ℕ} {d : ℕ} → all_written ls ≡ es → depth_left ls ≡ d → IsLong ls at → IsLongTag longest_tag es d at
long_moved ls {es} {at} {d} is e long = subst (λ z. IsLongTag longest_tag es z at) e (subst (λ z. IsLongTag longest_tag z (depth_left ls) at) is long)

long_back : (ls : List Level) {es : List WrittenElement} {at : List ℕ} {d : ℕ} → all_written ls ≡ es → depth_left ls ≡ d → IsLongTag longest_tag es d at → IsLong ls at
long_back ls {es} {at} {d} is e long = subst (λ z. IsLongTag longest_tag (all_written ls) z at) (sym e) (subst (λ z. IsLongTag longest_tag z d at) (sym is) long)

-- no measure passes at all
abbrev pub NonePasses : List ℕ → Type 0
NonePasses front = (measure : Measure) (place : ℕ) → PassesAt front measure place → ⊥

clean_of : {front : List ℕ} → NonePasses front → (upto : List ℕ) → IsClean front upto
clean_of nowhere upto = record { passes_none = λ measure place passes k. nowhere measure place passes }

entity_step : {total : ℕ} {ls : List Level} {one : WrittenElement} {es : List WrittenElement} {scope : List Bound} {run bs : List ℕ} → all_written ls ≡ one ∷ es → f.OtherEntityAt bs
    → Goes total ls scope run bs (refused (unsupported EntityReference) (place_of total bs))
entity_step {ls = []} is a = absurd (omega (arith, ap length is))
entity_step {ls = l ∷ ls} is a = g.entity a

module _ (front : List ℕ) where
  mutual
    comes_element_refused : {bs at : List ℕ} {es : List WrittenElement} {outer : List Bound} {d : ℕ} {cause : Cause} → NonePasses front
        → ElementRefuses (length front) outer d bs cause at → ComesTo front es outer d bs → FromFront (length front) (after_mark front) (refused cause (place_of (length front) at))
    comes_element_refused nowhere (depth {rest = r} q) k =
        walk k (clean_of nowhere (0x3C ∷ r))
        (λ ls run is e. g.deep e q)
    comes_element_refused {bs} nowhere (tag a) k =
        walk k (clean_of nowhere bs)
        (λ ls run is e. g.construct (omega (arith, e)) a (λ long. nowhere m.tag (place_of (length front) bs + longest_tag) (long_tag k (long_moved ls is e long))))
    comes_element_refused nowhere (inside a h) k = comes_content_refused nowhere h (into_element k (form_of a) a.means)

    comes_content_refused : {bs at : List ℕ} {one : WrittenElement} {es : List WrittenElement} {scope : List Bound} {d : ℕ} {cause : Cause} → NonePasses front
        → ContentRefuses (length front) scope d bs cause at → ComesTo front (one ∷ es) scope d bs → FromFront (length front) (after_mark front) (refused cause (place_of (length front) at))
    comes_content_refused {bs = bs} nowhere (f.entity a) k = walk k (clean_of nowhere bs) (λ ls run is e. entity_step {ls = ls} is a)
    comes_content_refused nowhere (f.child h) k = comes_element_refused nowhere h k
    comes_content_refused nowhere (past_item a h) k = comes_content_refused nowhere h (t.past_item k a)

pub comes_refused : {front at : List ℕ} {cause : Cause} → NonePasses front → DocumentRefuses deepest_element front cause at
    → FromFront (length front) (after_mark front) (refused cause (place_of (length front) at))
comes_refused nowhere (f.declaration a) = declaration a
comes_refused nowhere (subset d n a) = prolog d (from.subset n a)
comes_refused {front} nowhere (f.element d n r a) = comes_element_refused front nowhere a (to_root d n r)

-- a measure that passes first

pub comes_passed : {front : List ℕ} {measure : Measure} {place : ℕ} → ((other : Measure) (earlier : ℕ) → earlier < place → PassesAt front other earlier → ⊥)
    → PassesAt front measure place → FromFront (length front) (after_mark front) (passed measure place)
comes_passed nowhere (long_tag k long) =
    walk k (record { passes_none = λ other earlier passes low. nowhere other earlier (omega (arith, low)) passes }) (λ ls run is e. g.long_tag (long_back ls is e long))
comes_passed {front} nowhere (many_names {element = one} {elements = es} {at = at} {end = q} {after = r} k f ends many) =
    walk k (record { passes_none = λ other earlier passes low. nowhere other earlier (omega (arith, low, form_within f, ends_shorter (ends_at ends), comes_within k)) passes })
    (λ ls run is e. g.many_names (omega (arith, e)) f ends (by (at_most_or_more (tag_length at r) longest_tag)) (omega (arith, many, names_more one es, used_open ls ∙ ap open_names is)))
  where
    by : (tag_length at r ≤ longest_tag) ⊎ (longest_tag < tag_length at r) → tag_length at r ≤ longest_tag
    by (inl short) = short
    by (inr long) =
        absurd (nowhere m.tag (place_of (length front) at + longest_tag) (omega (arith, long, comes_within k)) (long_tag k (long_form f (ends_at ends) long)))
