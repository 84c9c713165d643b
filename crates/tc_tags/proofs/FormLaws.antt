-- Tags by their form, phrase by phrase: what is read, and why nothing is.
use Rattle.std.proofs.Common.{◌≡◌, ℕ, ◌<◌, ◌≤◌, ◌-◌, Bool, true, false, not, List, [], ◌∷◌, ◌++◌, refl, ap, ◌∙◌, sym, subst, length, arith, append_assoc, append-nil, length-append, length-drop, IsTrue, Result, IfErr, bytes_eq}
use Rattle.std.specs.List.{prefix_len, list_all}
use Rattle.std.specs.Result.{IsErrAnd}
use Rattle.std.specs.Cmp.Lexicographic.{bytes_decides}
use Rattle.std.proofs.lemmas.Bool.{true≢false, and_parts, and_from}
use Rattle.std.proofs.lemmas.Result.{err_from_is_err_and}
use Rattle.tc_base.specs.Characters.{is_white}
use Rattle.tc_base.specs.declared.reasons.Why.{Why}
use Rattle.tc_base.specs.declared.reasons.Why.TheVariants.{EntityReference, XmlSpace}
use Rattle.tc_model.specs.XmlTextBytes.{BeginsWithWhite, after_white, EqualsAt, place_of, RunAt, IsQuote}
use Rattle.tc_model.specs.XmlTextNames.{QualifiedName, NcNameAt, QNameAt, unprefixed, prefixed, same_written}
use Rattle.tc_model.specs.XmlTextReferences.{QuotedAt, ReferenceAt, decimal, hexadecimal, entity, other, ValueAt, closed, plain, is_digit, is_plain_within}
use Rattle.tc_model.specs.XmlTextReferences as r
use Rattle.tc_model.specs.XmlTextScopes.{WrittenAttribute, is_xml_space}
use Rattle.tc_model.specs.XmlTextContent.{EndsTag, AttributesAt, no_more, attribute}
use Rattle.tc_model.specs.XmlTextRefusals.{OtherEntityAt, ValueRefuses, past_run, past_reference, QuotedRefuses, xml_space, AttributesRefuse, space, value, past_attribute, TagRefuses}
use Rattle.tc_model.specs.XmlTextRefusals as refused
use Rattle.tc_model.proofs.XmlTextPhrases.{same_first, same_others, run_unique, reference_unique, reference_no_run, qname_unique, equals_unique, quoted_unique}
use Rattle.tc_model.proofs.XmlTextUnique.{no_tag_end}
use Rattle.tc_model.proofs.XmlTextRefused.{as_reference, other_no_reference, quoted_no_quoted, not_space, attributes_no_list}
use Rattle.tc_tags.specs.Forms.{AttributeAt, lacks_space, Refuses, UnsupportedAt, OnMalformed}
use Rattle.tc_tags.specs.Values as pieces
use Rattle.tc_tags.specs.Values.{PieceAt}
use Rattle.tc_tags.specs.declared.tags.NoForm.{NoForm}
use Rattle.tc_tags.specs.declared.tags.NoForm.TheVariants.{Malformed, Unsupported}
use Rattle.tc_tags.proofs.TagLaws.{quoted_loosened, reference_loosened}
use Rattle.tc_tags.proofs.ValueLaws.{quote_no_reference, quote_no_run, run_no_reference}

-- what is said of what is read

pub refuse_both : (e : NoForm) (P P' Q Q' : Type 0) → (P → P') → (Q → Q') → Refuses e P Q → Refuses e P' Q'
refuse_both (Malformed place) P P' Q Q' f g h = f h
refuse_both (Unsupported place why) P P' Q Q' f g h = g h

pub unsupported_map : (total : ℕ) (e : NoForm) (P Q : Why → List ℕ → Type 0) → ((why : Why) (at : List ℕ) → P why at → Q why at) → UnsupportedAt total e P → UnsupportedAt total e Q
unsupported_map total (Malformed place) P Q f h = tt
unsupported_map total (Unsupported place why) P Q f (at, e, h) = (at, e, f why at h)

pub failed : {T : Type 0} (r : Result T NoForm) (Q : NoForm → Type 0) (e : NoForm) → IsErrAnd r (λ x. x ≡ e) → Q e → IfErr r Q
failed r Q e h q = let p = err_from_is_err_and r h in subst (λ w. IfErr w Q) (sym p.1) (subst Q (sym p.2) q)

pub of_malformed : (e : NoForm) (P Q : Type 0) → (P → Q) → OnMalformed e P → OnMalformed e Q
of_malformed (Malformed place) P Q f h = f h
of_malformed (Unsupported place why) P Q f h = tt

pub of_refuses : (e : NoForm) (A B Q : Type 0) → (A → Q) → Refuses e A B → OnMalformed e Q
of_refuses (Malformed place) A B Q f h = f h
of_refuses (Unsupported place why) A B Q f h = tt

pub of_both : (e : NoForm) (A B P Q : Type 0) → (A → P → Q) → Refuses e A B → OnMalformed e P → OnMalformed e Q
of_both (Malformed place) A B P Q f g h = f g h
of_both (Unsupported place why) A B P Q f g h = tt

-- values

pub lift_piece : {q : ℕ} {bs piece rest : List ℕ} → PieceAt false q bs piece rest → PieceAt true q bs piece rest
lift_piece (pieces.plain a) = pieces.plain a
lift_piece (pieces.reference a) = pieces.reference (reference_loosened a)

pub value_before : {o : Bool} {q : ℕ} {bs piece rest v after : List ℕ} → PieceAt o q bs piece rest → ValueAt o q rest v after → ValueAt o q bs (piece ++ v) after
value_before (pieces.plain a) w = plain a w
value_before (pieces.reference a) w = r.reference a w

pub value_left : {o : Bool} {q : ℕ} {bs piece rest v after : List ℕ} → IsQuote q → PieceAt o q bs piece rest → ValueAt o q bs v after → (w : List ℕ) × ValueAt o q rest w after
value_left {q = q} k (pieces.plain a) (closed e) = absurd (quote_no_run q e a)
value_left {o} {q} {after = after} k (pieces.plain a) (plain {value = w} b v) = (w, subst (λ z. ValueAt o q z w after) (run_unique b a).1 v)
value_left {q = q} k (pieces.plain a) (r.reference b v) = absurd (run_no_reference q a b)
value_left k (pieces.reference a) (closed e) = absurd (quote_no_reference k e a)
value_left {q = q} k (pieces.reference a) (plain b v) = absurd (run_no_reference q b a)
value_left {o} {q} {after = after} k (pieces.reference a) (r.reference {value = w} b v) = (w, subst (λ z. ValueAt o q z w after) (reference_unique b a).1 v)

pub no_value_there : {o : Bool} {q : ℕ} {bs : List ℕ} → ((r : List ℕ) → bs ≡ q ∷ r → ⊥) → ((piece rest : List ℕ) → PieceAt o q bs piece rest → ⊥) → (v after : List ℕ) → ValueAt o q bs v after → ⊥
no_value_there h k v after (closed e) = h after e
no_value_there h k v after (plain a w) = k _ _ (pieces.plain a)
no_value_there h k v after (r.reference a w) = k _ _ (pieces.reference a)

pub refuses_before : {q : ℕ} {bs piece rest at : List ℕ} → PieceAt false q bs piece rest → ValueRefuses q rest at → ValueRefuses q bs at
refuses_before (pieces.plain a) h = past_run a h
refuses_before (pieces.reference a) h = past_reference a h

pub past_piece : {q : ℕ} {bs piece rest : List ℕ} → PieceAt false q bs piece rest → (at : List ℕ) → ValueRefuses q bs at → ValueRefuses q rest at
past_piece {q} (pieces.plain a) at (refused.entity o) = absurd (reference_no_run q a (as_reference o))
past_piece {q} (pieces.plain a) at (past_run b k) = subst (λ z. ValueRefuses q z at) (run_unique b a).1 k
past_piece {q} (pieces.plain a) at (past_reference b k) = absurd (reference_no_run q a b)
past_piece (pieces.reference a) at (refused.entity o) = absurd (other_no_reference o a)
past_piece {q} (pieces.reference a) at (past_run b k) = absurd (reference_no_run q b a)
past_piece {q} (pieces.reference a) at (past_reference b k) = subst (λ z. ValueRefuses q z at) (reference_unique b a).1 k

pub record Step (quote : ℕ) (inside read rest : List ℕ) : Type 0 where
  pub forth : (v after : List ℕ) → ValueAt false quote rest v after → ValueAt false quote inside (read ++ v) after
  pub any : (v after : List ℕ) → ValueAt true quote inside v after → (w : List ℕ) × ValueAt true quote rest w after
  pub strict : (v after : List ℕ) → ValueAt false quote inside v after → (w : List ℕ) × ValueAt false quote rest w after
  pub stops : (at : List ℕ) → ValueRefuses quote rest at → ValueRefuses quote inside at
  pub comes : (at : List ℕ) → ValueRefuses quote inside at → ValueRefuses quote rest at

pub step_none : (q : ℕ) (inside : List ℕ) → Step q inside [] inside
step_none q inside = record { forth = λ v after h. h; any = λ v after h. (v, h); strict = λ v after h. (v, h); stops = λ at h. h; comes = λ at h. h }

pub step_more : (q : ℕ) (inside read more rest next : List ℕ) → IsQuote q → Step q inside read rest → ((piece : List ℕ) × PieceAt false q rest piece next × (more ≡ read ++ piece)) → Step q inside more next
step_more q inside read more rest next k s (piece, a, e) = record {
  forth = λ v after h. subst (λ w. ValueAt false q inside w after) (sym (append_assoc read piece v) ∙ ap (λ w. w ++ v) (sym e)) (s.forth (piece ++ v) after (value_before a h));
  any = λ v after h. let (w, f) = s.any v after h in value_left k (lift_piece a) f;
  strict = λ v after h. let (w, f) = s.strict v after h in value_left k a f;
  stops = λ at h. s.stops at (refuses_before a h);
  comes = λ at h. past_piece a at (s.comes at h);
}

pub no_quoted : {o : Bool} (q : ℕ) (text inside rest : List ℕ) → text ≡ q ∷ inside → ((v after : List ℕ) → ValueAt o q inside v after → (w : List ℕ) × ValueAt o q rest w after)
    → ((r : List ℕ) → rest ≡ q ∷ r → ⊥) → ((piece next : List ℕ) → PieceAt o q rest piece next → ⊥) → (v after : List ℕ) → QuotedAt o text v after → ⊥
no_quoted {o} q text inside rest e past h k v after a =
    let same = sym a.opens ∙ e in
    let there = subst (λ z. ValueAt o z inside v after) (same_first same) (subst (λ z. ValueAt o a.quote z v after) (same_others same) a.closes) in
    let (w, f) = past v after there in
    no_value_there h k w after f

pub quoted_refuses : (q : ℕ) (text inside read rest at : List ℕ) → IsQuote q → text ≡ q ∷ inside → Step q inside read rest → at ≡ rest → OtherEntityAt at → QuotedRefuses text at
quoted_refuses q text inside read rest at k e s f h = record {
  quote = q;
  rest = inside;
  is_quote = k;
  opens = e;
  refuses = s.stops at (subst (λ w. ValueRefuses q w at) f (refused.entity h));
}

pub no_piece_refused : {q : ℕ} {bs : List ℕ} → ((piece rest : List ℕ) → PieceAt true q bs piece rest → ⊥) → (at : List ℕ) → ValueRefuses q bs at → ⊥
no_piece_refused h at (refused.entity o) = h _ _ (pieces.reference (as_reference o))
no_piece_refused h at (past_run a k) = h _ _ (pieces.plain a)
no_piece_refused h at (past_reference a k) = h _ _ (pieces.reference (reference_loosened a))

pub no_quoted_refused : (q : ℕ) (text start rest : List ℕ) → text ≡ q ∷ start → ((at : List ℕ) → ValueRefuses q start at → ValueRefuses q rest at)
    → ((piece after : List ℕ) → PieceAt true q rest piece after → ⊥) → (at : List ℕ) → QuotedRefuses text at → ⊥
no_quoted_refused q text start rest e back h at a =
    let same = sym a.opens ∙ e in
    let there : ValueRefuses q start at = subst (λ z. ValueRefuses z start at) (same_first same) (subst (λ z. ValueRefuses a.quote z at) (same_others same) a.refuses) in
    no_piece_refused h at (back at there)

pub no_quote_refused : (text : List ℕ) → ((q : ℕ) (rest : List ℕ) → IsQuote q → text ≡ q ∷ rest → ⊥) → (at : List ℕ) → QuotedRefuses text at → ⊥
no_quote_refused text h at a = h a.quote a.rest a.is_quote a.opens

-- attributes

pub data PastName (behind : List ℕ) (why : Why) (at : List ℕ) : Type 0 where
  in_value : {start : List ℕ} → EqualsAt behind start → QuotedRefuses start at → PastName behind why at
  behind_value : {start v rest : List ℕ} → EqualsAt behind start → QuotedAt false start v rest → AttributesRefuse rest why at → PastName behind why at

pub past_name : (text start behind : List ℕ) (name : QualifiedName) → start ≡ after_white text → QNameAt start name behind → false ≡ same_written name xml_space
    → (why : Why) (at : List ℕ) → AttributesRefuse text why at → PastName behind why at
past_name text start behind name e q h why at a = by a (subst (λ w. QNameAt w name behind) e q)
  where
    by : {why : Why} {at : List ℕ} → AttributesRefuse text why at → QNameAt (after_white text) name behind → PastName behind why at
    by (space w n) k = absurd (not_space (qname_unique n k).0 (sym h))
    by (value {start = s} w n g f v) k = in_value (subst (λ z. EqualsAt z s) (qname_unique n k).1 f) v
    by (past_attribute {start = s} w n g f v l) k = behind_value (subst (λ z. EqualsAt z s) (qname_unique n k).1 f) v l

pub past_one : (total : ℕ) (rest after : List ℕ) (a : WrittenAttribute) → AttributeAt false total rest a after → (why : Why) (at : List ℕ) → AttributesRefuse rest why at → AttributesRefuse after why at
past_one total rest after a one why at k = by (past_name rest (after_white rest) one.past_name a.name refl one.names (sym one.no_space) why at k)
  where
    by : PastName one.past_name why at → AttributesRefuse after why at
    by (in_value j v) = absurd (quoted_no_quoted (subst (λ z. QuotedRefuses z at) (equals_unique j one.equals) v) one.quoted)
    by (behind_value {v = w} {rest = next} j v l) =
        let there = subst (λ z. QuotedAt false z w next) (equals_unique j one.equals) v in
        subst (λ z. AttributesRefuse z why at) (quoted_unique there one.quoted).1 l

-- the attributes so far, from the front of the text to what is left of it
pub record Attributes (total : ℕ) (text rest : List ℕ) (found : List WrittenAttribute) : Type 0 where
  pub forth : (list : List WrittenAttribute) (after : List ℕ) → AttributesAt false total rest list after → AttributesAt false total text (found ++ list) after
  pub back : (o : Bool) (list : List WrittenAttribute) (after : List ℕ) → AttributesAt o total text list after → IsTrue (lacks_space list)
      → (more : List WrittenAttribute) × AttributesAt o total rest more after × IsTrue (lacks_space more)
  pub no_space : IsTrue (lacks_space found)
  pub stands : (why : Why) (at : List ℕ) → AttributesRefuse rest why at → AttributesRefuse text why at
  pub comes : (why : Why) (at : List ℕ) → AttributesRefuse text why at → AttributesRefuse rest why at

pub attributes_begin : (total : ℕ) (text : List ℕ) → Attributes total text text []
attributes_begin total text = record {
  forth = λ list after a. a;
  back = λ o list after a h. (list, a, h);
  no_space = refl;
  stands = λ why at a. a;
  comes = λ why at a. a;
}

pub not_true : (x : Bool) → not x ≡ true → x ≡ false
not_true true e = sym e
not_true false e = refl

pub from_false : (x : Bool) → x ≡ false → not x ≡ true
from_false true e = sym e
from_false false e = refl

pub all_append : (p : WrittenAttribute → Bool) (xs : List WrittenAttribute) (x : WrittenAttribute) → list_all p xs ≡ true → p x ≡ true → list_all p (xs ++ x ∷ []) ≡ true
all_append p [] x h k = and_from (p x) true k refl
all_append p (y ∷ xs) x h k =
    let (a, b) = and_parts (p y) (list_all p xs) h in and_from (p y) (list_all p (xs ++ x ∷ [])) a (all_append p xs x b k)

-- one attribute less in front
pub one_less : (total : ℕ) (rest after : List ℕ) (a : WrittenAttribute) → AttributeAt false total rest a after → (o : Bool) (list : List WrittenAttribute) (end : List ℕ) → AttributesAt o total rest list end
    → IsTrue (lacks_space list) → (more : List WrittenAttribute) × AttributesAt o total after more end × IsTrue (lacks_space more)
one_less total rest after a at o list end (no_more e) h = absurd (no_tag_end e at.names)
one_less total rest after a at o list end (attribute {past_name = p} {start = s} {value = v} {rest = next} {name = n} {attributes = more} w b e q l) h =
    let names = qname_unique at.names b in
    let starts = equals_unique at.equals (subst (λ z. EqualsAt z s) (sym names.1) e) in
    let values = quoted_unique (quoted_loosened at.quoted) (subst (λ z. QuotedAt o z v next) (sym starts) q) in
    let one : WrittenAttribute = record { name = n; value = v; place = place_of total (after_white rest) } in
    (more, subst (λ z. AttributesAt o total z more end) (sym values.1) l, (and_parts (not (is_xml_space one)) (list_all (λ a. not (is_xml_space a)) more) h).1)

pub attributes_more : (total : ℕ) (text rest after : List ℕ) (found : List WrittenAttribute) (a : WrittenAttribute) → Attributes total text rest found
    → AttributeAt false total rest a after → Attributes total text after (found ++ a ∷ [])
attributes_more total text rest after found a s at = record {
  forth = λ list end l.
      let one : WrittenAttribute = record { name = a.name; value = a.value; place = place_of total (after_white rest) } in
      let same : one ≡ a = ap (λ p. record { name = a.name; value = a.value; place = p }) (sym at.stands) in
      let whole : AttributesAt false total rest (a ∷ list) end = subst (λ w. AttributesAt false total rest (w ∷ list) end) same (attribute at.white at.names at.equals at.quoted l) in
      subst (λ w. AttributesAt false total text w end) (sym (append_assoc found (a ∷ []) list)) (s.forth (a ∷ list) end whole);
  back = λ o list end l h. let (more, m, k) = s.back o list end l h in one_less total rest after a at o more end m k;
  no_space = all_append (λ a. not (is_xml_space a)) found a s.no_space (from_false (is_xml_space a) at.no_space);
  stands = λ why end l. s.stands why end (past_attribute at.white at.names at.no_space at.equals at.quoted l);
  comes = λ why end k. past_one total rest after a at why end (s.comes why end k);
}

pub not_xml_space : (o : Bool) (total : ℕ) (text start behind : List ℕ) (name : QualifiedName) → start ≡ after_white text → QNameAt start name behind → true ≡ same_written name xml_space
    → (a : WrittenAttribute) (after : List ℕ) → AttributeAt o total text a after → ⊥
not_xml_space o total text start behind name e q h a after at =
    let names = qname_unique at.names (subst (λ w. QNameAt w name behind) e q) in
    true≢false (h ∙ (ap (λ n. same_written n xml_space) (sym names.0) ∙ at.no_space))

pub no_equals : (o : Bool) (total : ℕ) (text start behind : List ℕ) (name : QualifiedName) → start ≡ after_white text → QNameAt start name behind → ((after : List ℕ) → EqualsAt behind after → ⊥)
    → (a : WrittenAttribute) (after : List ℕ) → AttributeAt o total text a after → ⊥
no_equals o total text start behind name e q h a after at =
    let names = qname_unique at.names (subst (λ w. QNameAt w name behind) e q) in
    h at.start (subst (λ w. EqualsAt w at.start) names.1 at.equals)

pub no_value : (o : Bool) (total : ℕ) (text start behind equals : List ℕ) (name : QualifiedName) → start ≡ after_white text → QNameAt start name behind → EqualsAt behind equals
    → ((v after : List ℕ) → QuotedAt o equals v after → ⊥) → (a : WrittenAttribute) (after : List ℕ) → AttributeAt o total text a after → ⊥
no_value o total text start behind equals name e q f h a after at =
    let names = qname_unique at.names (subst (λ w. QNameAt w name behind) e q) in
    let starts = equals_unique (subst (λ w. EqualsAt w at.start) names.1 at.equals) f in
    h a.value after (subst (λ w. QuotedAt o w a.value after) starts at.quoted)

pub is_name : (n m : QualifiedName) → true ≡ same_written n m → n ≡ m
is_name n m h =
    let (p, l) = and_parts (bytes_eq n.prefix m.prefix) (bytes_eq n.local m.local) (sym h) in
    let full : List ℕ → List ℕ → QualifiedName = λ a b. record { prefix = a; local = b } in
    ap (λ a. full a n.local) ((bytes_decides n.prefix m.prefix).0 p) ∙ ap (full m.prefix) ((bytes_decides n.local m.local).0 l)

pub space_stands : (text start behind : List ℕ) (name : QualifiedName) → BeginsWithWhite text → start ≡ after_white text → QNameAt start name behind → true ≡ same_written name xml_space
    → (at : List ℕ) × (length start ≡ length at) × AttributesRefuse text XmlSpace at
space_stands text start behind name w e q h =
    (after_white text, ap length e, space w (subst (λ n. QNameAt (after_white text) n behind) (is_name name xml_space h) (subst (λ z. QNameAt z name behind) e q)))

pub value_stands : (text start behind equals : List ℕ) (name : QualifiedName) → BeginsWithWhite text → start ≡ after_white text → QNameAt start name behind → false ≡ same_written name xml_space
    → EqualsAt behind equals → (why : Why) (at : List ℕ) → (why ≡ EntityReference) × QuotedRefuses equals at → AttributesRefuse text why at
value_stands text start behind equals name w e q h f why at (is, k) =
    subst (λ z. AttributesRefuse text z at) (sym is) (value w (subst (λ z. QNameAt z name behind) e q) (sym h) f k)

pub first_attribute : (o : Bool) (total : ℕ) (rest : List ℕ) → (EndsTag (after_white rest) → ⊥) → ((a : WrittenAttribute) (after : List ℕ) → AttributeAt o total rest a after → ⊥)
    → (list : List WrittenAttribute) (after : List ℕ) → AttributesAt o total rest list after → IsTrue (lacks_space list) → ⊥
first_attribute o total rest ends h list after (no_more e) k = ends e
first_attribute o total rest ends h list after (attribute {past_name = p} {start = s} {value = v} {rest = next} {name = n} {attributes = more} w b e q l) k =
    let one : WrittenAttribute = record { name = n; value = v; place = place_of total (after_white rest) } in
    h one next (record {
      past_name = p;
      start = s;
      white = w;
      names = b;
      equals = e;
      quoted = q;
      stands = refl;
      no_space = not_true (is_xml_space one) (and_parts (not (is_xml_space one)) (list_all (λ a. not (is_xml_space a)) more) k).0;
    })

pub no_attributes : (o : Bool) (total : ℕ) (text rest : List ℕ) (found : List WrittenAttribute) → Attributes total text rest found → (EndsTag (after_white rest) → ⊥)
    → ((a : WrittenAttribute) (after : List ℕ) → AttributeAt o total rest a after → ⊥) → (list : List WrittenAttribute) (after : List ℕ) → AttributesAt o total text list after → IsTrue (lacks_space list) → ⊥
no_attributes o total text rest found s ends h list after l k = let (more, m, j) = s.back o list after l k in first_attribute o total rest ends h more after m j

pub all_attributes : (total : ℕ) (text rest end : List ℕ) (found : List WrittenAttribute) → Attributes total text rest found → EndsTag (after_white rest) → end ≡ after_white rest
    → AttributesAt false total text found end
all_attributes total text rest end found s ends e =
    subst (λ w. AttributesAt false total text w end) (append-nil found) (s.forth [] end (subst (AttributesAt false total rest []) (sym e) (no_more ends)))

pub refused_white : {bs at : List ℕ} {why : Why} → AttributesRefuse bs why at → BeginsWithWhite bs
refused_white (space w n) = w
refused_white (value w n h e q) = w
refused_white (past_attribute w n h e q l) = w

pub record Named (bs : List ℕ) : Type 0 where
  name : QualifiedName
  past_name : List ℕ
  names : QNameAt (after_white bs) name past_name

pub named : {bs at : List ℕ} {why : Why} → AttributesRefuse bs why at → Named bs
named (space {past_name = p} w n) = record { name = xml_space; past_name = p; names = n }
named (value {past_name = p} {name = m} w n h e q) = record { name = m; past_name = p; names = n }
named (past_attribute {past_name = p} {name = m} w n h e q l) = record { name = m; past_name = p; names = n }

pub no_name_refused : (text start : List ℕ) → start ≡ after_white text → ((n : QualifiedName) (after : List ℕ) → QNameAt start n after → ⊥) → (why : Why) (at : List ℕ) → AttributesRefuse text why at → ⊥
no_name_refused text start e h why at a = let n = named a in h n.name n.past_name (subst (λ w. QNameAt w n.name n.past_name) (sym e) n.names)

pub no_equals_refused : (text start behind : List ℕ) (name : QualifiedName) → start ≡ after_white text → QNameAt start name behind → false ≡ same_written name xml_space
    → ((after : List ℕ) → EqualsAt behind after → ⊥) → (why : Why) (at : List ℕ) → AttributesRefuse text why at → ⊥
no_equals_refused text start behind name e q h k why at a = by (past_name text start behind name e q h why at a)
  where
    by : PastName behind why at → ⊥
    by (in_value {start = s} f v) = k s f
    by (behind_value {start = s} f v l) = k s f

pub no_value_refused : (text start behind equals : List ℕ) (name : QualifiedName) → start ≡ after_white text → QNameAt start name behind → false ≡ same_written name xml_space
    → EqualsAt behind equals → ((v after : List ℕ) → QuotedAt true equals v after → ⊥) → ((at : List ℕ) → QuotedRefuses equals at → ⊥) → (why : Why) (at : List ℕ) → AttributesRefuse text why at → ⊥
no_value_refused text start behind equals name e q h f g k why at a = by (past_name text start behind name e q h why at a)
  where
    by : PastName behind why at → ⊥
    by (in_value j v) = k at (subst (λ z. QuotedRefuses z at) (equals_unique j f) v)
    by (behind_value {v = w} {rest = rest} j v l) = g w rest (quoted_loosened (subst (λ z. QuotedAt false z w rest) (equals_unique j f) v))

-- tags

pub tag_attributes : (text start behind : List ℕ) (written : QualifiedName) → text ≡ 0x3C ∷ start → QNameAt start written behind → (why : Why) (at : List ℕ) → TagRefuses text why at
    → AttributesRefuse behind why at
tag_attributes text start behind written e q why at a =
    let names = qname_unique (subst (λ z. QNameAt z a.written a.past_name) (same_others (sym a.opens ∙ e)) a.names) q in
    subst (λ z. AttributesRefuse z why at) names.1 a.attributes

pub no_list_refused : (text start behind : List ℕ) (written : QualifiedName) → text ≡ 0x3C ∷ start → QNameAt start written behind
    → ((why : Why) (at : List ℕ) → AttributesRefuse behind why at → ⊥) → (why : Why) (at : List ℕ) → TagRefuses text why at → ⊥
no_list_refused text start behind written e q h why at a = h why at (tag_attributes text start behind written e q why at a)

pub read_list_not_refused : (total : ℕ) (text start behind rest : List ℕ) (written : QualifiedName) (list : List WrittenAttribute) → text ≡ 0x3C ∷ start → QNameAt start written behind
    → AttributesAt false total behind list rest → IsTrue (lacks_space list) → (why : Why) (at : List ℕ) → TagRefuses text why at → ⊥
read_list_not_refused total text start behind rest written list e q l s why at a = attributes_no_list (tag_attributes text start behind written e q why at a) l s

-- what follows a phrase is no longer than it

pub white_within : (bs : List ℕ) → length (after_white bs) ≤ length bs
white_within bs = omega (arith, length-drop (prefix_len is_white bs) bs)

pub name_within : {bs n r : List ℕ} → NcNameAt bs n r → length r ≤ length bs
name_within {bs} {n} {r} a = omega (arith, ap length a.parts, length-append n r)

pub qname_within : {bs r : List ℕ} {n : QualifiedName} → QNameAt bs n r → length r ≤ length bs
qname_within (unprefixed a e) = name_within a
qname_within (prefixed a b) = omega (arith, name_within a, name_within b)

pub reference_within : {o : Bool} {bs s r : List ℕ} → ReferenceAt o bs s r → length r < length bs
reference_within (decimal {rest = t} {digits = d} {after = r} a h) = omega (arith, ap length a.back, length-drop (prefix_len (is_digit 10) t) t)
reference_within (hexadecimal {rest = t} {digits = d} {after = r} a h) = omega (arith, ap length a.back, length-drop (prefix_len (is_digit 16) t) t)
reference_within (entity a e) = omega (arith, ap length a.opens, name_within a.names)
reference_within (other h a e) = omega (arith, ap length a.opens, name_within a.names)

pub run_within : {test : ℕ → Bool} {bs n r : List ℕ} → RunAt test bs n r → length r < length bs
run_within {test} {bs} {n} {r} a = by bs a.some (ap length a.back ∙ length-drop (prefix_len test bs) bs)
  where
    by : (bs : List ℕ) → 0 < prefix_len test bs → length r ≡ length bs - prefix_len test bs → length r < length bs
    by [] some e = absurd (omega (arith, some))
    by (b ∷ bs) some e = omega (arith, some, e)

pub value_within : {o : Bool} {quote : ℕ} {bs v r : List ℕ} → ValueAt o quote bs v r → length r < length bs
value_within (closed e) = omega (arith, ap length e)
value_within (plain a v) = omega (arith, run_within a, value_within v)
value_within (r.reference a v) = omega (arith, reference_within a, value_within v)

pub equals_within : {bs r : List ℕ} → EqualsAt bs r → length r < length bs
equals_within {bs} a = omega (arith, ap length a.sign, white_within bs, ap length a.past, white_within a.rest)

pub attribute_within : {o : Bool} {total : ℕ} {bs r : List ℕ} {a : WrittenAttribute} → AttributeAt o total bs a r → length r < length bs
attribute_within {bs = bs} at = omega (arith, white_within bs, qname_within at.names, equals_within at.equals, ap length at.quoted.opens, value_within at.quoted.closes)

pub attributes_within : {o : Bool} {total : ℕ} {bs r : List ℕ} {list : List WrittenAttribute} → AttributesAt o total bs list r → length r ≤ length bs
attributes_within {bs = bs} (no_more e) = white_within bs
attributes_within {bs = bs} (attribute w n e q l) = omega (arith, white_within bs, qname_within n, equals_within e, ap length q.opens, value_within q.closes, attributes_within l)

pub ruleset within = (white_within, qname_within, equals_within)
