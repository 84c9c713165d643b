-- A construct that isn't read, in a tag that is kept up to its `>`: it stands there whatever follows, and alone.
use Rattle.std.proofs.Common.{◌≡◌, ℕ, suc, ◌<◌, Bool, true, false, if◌then◌else◌, ◌==◌, List, [], ◌∷◌, ◌++◌, refl, ap, ◌∙◌, sym, subst, length, arith, Option, None, Some, append_assoc}
use Rattle.std.specs.Prelude.{encode_utf8, encode_utf8_all}
use Rattle.std.proofs.lemmas.Str.{encode_same}
use Rattle.tc_base.specs.declared.reasons.Why.{Why}
use Rattle.tc_base.specs.declared.reasons.Why.TheVariants.{XmlSpace}
use Rattle.tc_model.specs.Names.{IsChars, is_ncname_char}
use Rattle.tc_model.specs.XmlTextBytes.{BeginsWithWhite, after_white, IsQuote}
use Rattle.tc_model.specs.XmlTextNames.{NcNameAt, QualifiedName, QNameAt, unprefixed, prefixed}
use Rattle.tc_model.specs.XmlTextReferences.{is_plain_within}
use Rattle.tc_model.specs.XmlTextRefusals.{OtherEntityAt, ValueRefuses, past_run, past_reference, QuotedRefuses, AttributesRefuse, space, value, past_attribute, TagRefuses}
use Rattle.tc_model.specs.XmlTextRefusals as f
use Rattle.tc_model.proofs.XmlTextPhrases.{same_first, run_first, reference_first}
use Rattle.tc_model.proofs.XmlTextChars.{white_chars, after_ascii}
use Rattle.tc_model.proofs.XmlTextLawful.{quoted_chars, qname_chars}
use Rattle.tc_model.proofs.XmlTextChars.{equals_chars}
use Rattle.tc_model.proofs.XmlTextRefused.{as_reference}
use Rattle.tc_stream.specs.Scans.{ended, quoted, tag_scan}
use Rattle.tc_stream.proofs.TagEndLaws.{run_past, plain_step, reference_past, white_past, qname_past, equals_past, quote_opens, quoted_past, calm_past}
use Rattle.tc_stream.proofs.TagExtendLaws.{Begun, begins_as, begins_low, run_kept, white_kept, white_begins_kept, qname_kept, qname_begun, after_low, equals_kept, ncname_kept, entity_kept, reference_kept, quoted_kept}
use Rattle.tc_stream.proofs.TagCutLaws.{ends_then, first_less, white_ends, qname_ends, equals_ends, quoted_ends, run_ends, entity_ends, reference_ends, cut, run_cut, white_cut, white_begins_cut, qname_cut, equals_cut, entity_cut, reference_cut, quoted_cut}

-- what ends a tag stands before what follows it

pub ended_is : {r s : List ℕ} → ended r ≡ ended s → r ≡ s
ended_is e = cc

pub no_end : {q : Option ℕ} {r : List ℕ} → quoted q ≡ ended r → ⊥
no_end e = cc

pub ended_longer : (s : Option ℕ) (w r : List ℕ) → tag_scan s w ≡ ended r → length r < length w
ended_longer s [] r e = absurd (no_end e)
ended_longer None (b ∷ w) r e = by (b == 0x3E) (b == 0x22) (b == 0x27) e (λ h. ended_longer (Some b) w r h) (λ h. ended_longer None w r h)
  where
    by : (x y z : Bool) → (if x then ended w else (if y then tag_scan (Some b) w else (if z then tag_scan (Some b) w else tag_scan None w))) ≡ ended r
        → (tag_scan (Some b) w ≡ ended r → length r < length w) → (tag_scan None w ≡ ended r → length r < length w) → length r < suc (length w)
    by true y z e p q = omega (arith, ap length (ended_is e))
    by false true z e p q = omega (arith, p e)
    by false false true e p q = omega (arith, p e)
    by false false false e p q = omega (arith, q e)
ended_longer (Some a) (b ∷ w) r e = by (b == a) e (λ h. ended_longer None w r h) (λ h. ended_longer (Some a) w r h)
  where
    by : (x : Bool) → (if x then tag_scan None w else tag_scan (Some a) w) ≡ ended r → (tag_scan None w ≡ ended r → length r < length w)
        → (tag_scan (Some a) w ≡ ended r → length r < length w) → length r < suc (length w)
    by true e p q = omega (arith, p e)
    by false e p q = omega (arith, q e)

scanned_begun : (s : Option ℕ) (w : List ℕ) {r : List ℕ} → tag_scan s w ≡ ended r → Begun w
scanned_begun s [] e = absurd (no_end e)
scanned_begun s (b ∷ w) e = begins_as b w refl

-- names before any character that ends them

ncname_kept_by : {bs n : List ℕ} (d : ℕ) (rest f : List ℕ) → NcNameAt bs n (encode_utf8 d ++ rest) → NcNameAt (bs ++ f) n ((encode_utf8 d ++ rest) ++ f)
ncname_kept_by {bs} {n} d rest f a = record {
  lawful = a.lawful;
  parts = ap (λ w. w ++ f) a.parts ∙ append_assoc n (encode_utf8 d ++ rest) f;
  longest = λ c r e k.
      let same : d ≡ c = (encode_same d c (rest ++ f) r (sym (append_assoc (encode_utf8 d) rest f) ∙ e)).0 in
      a.longest d rest refl (subst (λ x. is_ncname_char x ≡ true) (sym same) k);
}

ncname_kept_chars : {bs n after : List ℕ} (f : List ℕ) → Begun after → IsChars after → NcNameAt bs n after → NcNameAt (bs ++ f) n (after ++ f)
ncname_kept_chars {bs} {n} {after} f i chars a = by chars
  where
    by : IsChars after → NcNameAt (bs ++ f) n (after ++ f)
    by ([], is, h) = absurd (omega (arith, ap length is, ap length i.is))
    by (d ∷ cs, is, h) = subst (λ w. NcNameAt (bs ++ f) n (w ++ f)) is (ncname_kept_by d (encode_utf8_all cs) f (subst (λ w. NcNameAt bs n w) (sym is) a))

pub qname_kept_chars : {bs after : List ℕ} {n : QualifiedName} (f : List ℕ) → Begun after → IsChars after → QNameAt bs n after → QNameAt (bs ++ f) n (after ++ f)
qname_kept_chars f i chars (unprefixed a ends) =
    unprefixed (ncname_kept_chars f i chars a) (λ r e. ends i.others (i.is ∙ ap (λ z. z ∷ i.others) (same_first (sym (ap (λ w. w ++ f) i.is) ∙ e))))
qname_kept_chars f i chars (prefixed {rest = rest} a b) = prefixed (ncname_kept f (begins_low 0x3A rest (omega arith) refl) a) (ncname_kept_chars f i chars b)

-- it stands there whatever follows

pub other_kept : {bs : List ℕ} (f : List ℕ) → OtherEntityAt bs → OtherEntityAt (bs ++ f)
other_kept f o = record { name = o.name; after = o.after ++ f; refers = entity_kept f o.refers; not_predefined = o.not_predefined }

value_refused_begun : {q : ℕ} {bs at : List ℕ} → ValueRefuses q bs at → Begun bs
value_refused_begun (f.entity o) = begins_as 0x26 o.refers.rest o.refers.opens
value_refused_begun {q} {bs} (past_run {run = n} {rest = rest} a h) = let (b, others, is, passes) = run_first (is_plain_within q) bs n rest a in begins_as b others is
value_refused_begun (past_reference a h) = let (others, is) = reference_first a in begins_as 0x26 others is

value_refused_kept : {q : ℕ} {bs at : List ℕ} (more : List ℕ) → ValueRefuses q bs at → ValueRefuses q (bs ++ more) (at ++ more)
value_refused_kept more (f.entity o) = f.entity (other_kept more o)
value_refused_kept more (past_run a h) = past_run (run_kept more (value_refused_begun h) a) (value_refused_kept more h)
value_refused_kept more (past_reference a h) = past_reference (reference_kept more a) (value_refused_kept more h)

pub quoted_refused_kept : {bs at : List ℕ} (more : List ℕ) → QuotedRefuses bs at → QuotedRefuses (bs ++ more) (at ++ more)
quoted_refused_kept more a = record { quote = a.quote; rest = a.rest ++ more; is_quote = a.is_quote; opens = ap (λ w. w ++ more) a.opens; refuses = value_refused_kept more a.refuses }

attributes_refused_kept : {bs at r : List ℕ} {why : Why} (more : List ℕ) → IsChars bs → tag_scan None bs ≡ ended r → AttributesRefuse bs why at → AttributesRefuse (bs ++ more) why (at ++ more)
attributes_refused_kept {bs} more chars e (space {past_name = p} w n) =
    let white = white_kept bs more (qname_begun (after_white bs) n) in
    let behind : Begun p = scanned_begun None p (sym (qname_past n) ∙ (sym (white_past bs) ∙ e)) in
    subst (λ z. AttributesRefuse (bs ++ more) XmlSpace z) white
    (space (white_begins_kept bs more w) (subst (λ z. QNameAt z f.xml_space (p ++ more)) (sym white) (qname_kept_chars more behind (qname_chars n (white_chars bs chars)) n)))
attributes_refused_kept {bs} more chars e (value {past_name = p} {start = s} {name = name} w n h q k) =
    let white = white_kept bs more (qname_begun (after_white bs) n) in
    value (white_begins_kept bs more w) (subst (λ z. QNameAt z name (p ++ more)) (sym white) (qname_kept more (after_low p 0x3D q.rest (omega arith) q.sign) n)) h
    (equals_kept more (begins_as k.quote k.rest k.opens) q) (quoted_refused_kept more k)
attributes_refused_kept {bs} more chars e (past_attribute {past_name = p} {start = s} {name = name} w n h q v l) =
    let white = white_kept bs more (qname_begun (after_white bs) n) in
    past_attribute (white_begins_kept bs more w) (subst (λ z. QNameAt z name (p ++ more)) (sym white) (qname_kept more (after_low p 0x3D q.rest (omega arith) q.sign) n)) h
    (equals_kept more (begins_as v.quote v.rest v.opens) q) (quoted_kept more v)
    (attributes_refused_kept more (quoted_chars v (equals_chars p s q (qname_chars n (white_chars bs chars)))).1
    (sym (quoted_past v) ∙ (sym (equals_past q) ∙ (sym (qname_past n) ∙ (sym (white_past bs) ∙ e)))) l)

-- what is refused in a tag that is kept up to its end is refused there whatever follows
pub tag_refused_kept : {bs at r : List ℕ} {why : Why} (more : List ℕ) → IsChars bs → tag_scan None bs ≡ ended r → TagRefuses bs why at → TagRefuses (bs ++ more) why (at ++ more)
tag_refused_kept more chars e a =
    let inner = after_ascii 0x3C a.rest (omega arith) (subst IsChars a.opens chars) in
    let scanned = sym (qname_past a.names) ∙ (sym (calm_past None 0x3C a.rest tt refl) ∙ (sym (ap (tag_scan None) a.opens) ∙ e)) in
    record {
      rest = a.rest ++ more;
      written = a.written;
      past_name = a.past_name ++ more;
      opens = ap (λ w. w ++ more) a.opens;
      names = qname_kept_chars more (scanned_begun None a.past_name scanned) (qname_chars a.names inner) a.names;
      attributes = attributes_refused_kept more (qname_chars a.names inner) scanned a.attributes;
    }

-- it stands there alone

pub record CutValue (q : ℕ) (bs more at : List ℕ) : Type 0 where
  pub left : List ℕ
  pub whole : at ≡ left ++ more
  pub refuses : ValueRefuses q bs left

pub record CutAttributes (why : Why) (bs more at : List ℕ) : Type 0 where
  pub left : List ℕ
  pub whole : at ≡ left ++ more
  pub refuses : AttributesRefuse bs why left

value_refused_cut : {q : ℕ} {u at : List ℕ} (bs more : List ℕ) → IsQuote q → ValueRefuses q u at → u ≡ bs ++ more → tag_scan (Some q) u ≡ ended more → CutValue q bs more at
value_refused_cut {q} bs more i (f.entity o) e s =
    let long = ended_longer (Some q) o.after more (sym (reference_past (Some q) i (as_reference o)) ∙ s) in
    let k = cut bs more (entity_ends o.refers) e long in
    record { left = bs; whole = e; refuses = f.entity (record { name = o.name; after = k.left; refers = entity_cut bs more k.left o.refers e k.whole; not_predefined = o.not_predefined }) }
value_refused_cut {q} {u} bs more i (past_run {rest = rest} a h) e s =
    let scanned : tag_scan (Some q) rest ≡ ended more = ap (tag_scan (Some q)) a.back ∙ (sym (run_past (Some q) (is_plain_within q) (plain_step q) u) ∙ s) in
    let k = cut bs more (run_ends a) e (ended_longer (Some q) rest more scanned) in
    let later = value_refused_cut k.left more i h k.whole scanned in
    record { left = later.left; whole = later.whole; refuses = past_run (run_cut bs more k.left a e k.whole k.begun) later.refuses }
value_refused_cut {q} bs more i (past_reference {rest = rest} a h) e s =
    let scanned : tag_scan (Some q) rest ≡ ended more = sym (reference_past (Some q) i a) ∙ s in
    let k = cut bs more (reference_ends a) e (ended_longer (Some q) rest more scanned) in
    let later = value_refused_cut k.left more i h k.whole scanned in
    record { left = later.left; whole = later.whole; refuses = past_reference (reference_cut bs more k.left a e k.whole) later.refuses }

attributes_refused_cut : {why : Why} {u at : List ℕ} (bs more : List ℕ) → AttributesRefuse u why at → u ≡ bs ++ more → tag_scan None u ≡ ended more → CutAttributes why bs more at
attributes_refused_cut {u = u} bs more (space {past_name = p} w n) e s =
    let behind : tag_scan None p ≡ ended more = sym (qname_past n) ∙ (sym (white_past u) ∙ s) in
    let c1 = cut bs more (ends_then (white_ends u) (qname_ends n)) e (ended_longer None p more behind) in
    let c0 = cut bs more (white_ends u) e (ended_longer None (after_white u) more (sym (white_past u) ∙ s)) in
    let white = white_cut bs more c0.left (ap after_white (sym e) ∙ c0.whole) c0.begun in
    record {
      left = after_white bs;
      whole = c0.whole ∙ ap (λ z. z ++ more) (sym white);
      refuses = space (white_begins_cut bs more c0.left (ap after_white (sym e) ∙ c0.whole) c0.begun (subst BeginsWithWhite e w))
          (subst (λ k. QNameAt k f.xml_space c1.left) (sym white) (qname_cut c0.left more c1.left n c0.whole c1.whole c1.begun));
    }
attributes_refused_cut {u = u} bs more (value {past_name = p} {start = start} {name = name} w n h q k) e s =
    let s0 : tag_scan None (after_white u) ≡ ended more = sym (white_past u) ∙ s in
    let s1 : tag_scan None p ≡ ended more = sym (qname_past n) ∙ s0 in
    let s2 : tag_scan None start ≡ ended more = sym (equals_past q) ∙ s1 in
    let s3 : tag_scan (Some k.quote) k.rest ≡ ended more = sym (quote_opens k.quote k.rest k.is_quote) ∙ (sym (ap (tag_scan None) k.opens) ∙ s2) in
    let c0 = cut bs more (white_ends u) e (ended_longer None (after_white u) more s0) in
    let c1 = cut bs more (ends_then (white_ends u) (qname_ends n)) e (ended_longer None p more s1) in
    let c2 = cut bs more (ends_then (white_ends u) (ends_then (qname_ends n) (equals_ends q))) e (ended_longer None start more s2) in
    let c3 = cut c2.left more (first_less k.quote k.rest k.opens) c2.whole (ended_longer (Some k.quote) k.rest more s3) in
    let white = white_cut bs more c0.left (ap after_white (sym e) ∙ c0.whole) c0.begun in
    let later = value_refused_cut c3.left more k.is_quote k.refuses c3.whole s3 in
    record {
      left = later.left;
      whole = later.whole;
      refuses = value (white_begins_cut bs more c0.left (ap after_white (sym e) ∙ c0.whole) c0.begun (subst BeginsWithWhite e w))
          (subst (λ k. QNameAt k name c1.left) (sym white) (qname_cut c0.left more c1.left n c0.whole c1.whole c1.begun)) h
          (equals_cut c1.left more c2.left q c1.whole c2.whole c2.begun)
          (record { quote = k.quote; rest = c3.left; is_quote = k.is_quote; opens = c3.parts; refuses = later.refuses });
    }
attributes_refused_cut {u = u} bs more (past_attribute {past_name = p} {start = start} {rest = t} {name = name} w n h q v l) e s =
    let s0 : tag_scan None (after_white u) ≡ ended more = sym (white_past u) ∙ s in
    let s1 : tag_scan None p ≡ ended more = sym (qname_past n) ∙ s0 in
    let s2 : tag_scan None start ≡ ended more = sym (equals_past q) ∙ s1 in
    let s3 : tag_scan None t ≡ ended more = sym (quoted_past v) ∙ s2 in
    let c0 = cut bs more (white_ends u) e (ended_longer None (after_white u) more s0) in
    let c1 = cut bs more (ends_then (white_ends u) (qname_ends n)) e (ended_longer None p more s1) in
    let c2 = cut bs more (ends_then (white_ends u) (ends_then (qname_ends n) (equals_ends q))) e (ended_longer None start more s2) in
    let c3 = cut bs more (ends_then (white_ends u) (ends_then (qname_ends n) (ends_then (equals_ends q) (quoted_ends v)))) e (ended_longer None t more s3) in
    let white = white_cut bs more c0.left (ap after_white (sym e) ∙ c0.whole) c0.begun in
    let later = attributes_refused_cut c3.left more l c3.whole s3 in
    record {
      left = later.left;
      whole = later.whole;
      refuses = past_attribute (white_begins_cut bs more c0.left (ap after_white (sym e) ∙ c0.whole) c0.begun (subst BeginsWithWhite e w))
          (subst (λ k. QNameAt k name c1.left) (sym white) (qname_cut c0.left more c1.left n c0.whole c1.whole c1.begun)) h
          (equals_cut c1.left more c2.left q c1.whole c2.whole c2.begun)
          (quoted_cut c2.left more c3.left v c2.whole c3.whole c3.begun)
          later.refuses;
    }

pub record CutTag (why : Why) (bs more at : List ℕ) : Type 0 where
  pub left : List ℕ
  pub whole : at ≡ left ++ more
  pub refuses : TagRefuses bs why left

-- what is refused at a tag that is kept up to its end, whatever follows, is refused in the tag
pub tag_refused_cut : {why : Why} {u at : List ℕ} (bs more : List ℕ) → TagRefuses u why at → u ≡ bs ++ more → tag_scan None u ≡ ended more → CutTag why bs more at
tag_refused_cut bs more a e s =
    let s0 : tag_scan None a.rest ≡ ended more = sym (calm_past None 0x3C a.rest tt refl) ∙ (sym (ap (tag_scan None) a.opens) ∙ s) in
    let s1 : tag_scan None a.past_name ≡ ended more = sym (qname_past a.names) ∙ s0 in
    let c0 = cut bs more (first_less 0x3C a.rest a.opens) e (ended_longer None a.rest more s0) in
    let c1 = cut c0.left more (qname_ends a.names) c0.whole (ended_longer None a.past_name more s1) in
    let later = attributes_refused_cut c1.left more a.attributes c1.whole s1 in
    record {
      left = later.left;
      whole = later.whole;
      refuses = record {
        rest = c0.left;
        written = a.written;
        past_name = c1.left;
        opens = c0.parts;
        names = qname_cut c0.left more c1.left a.names c0.whole c1.whole c1.begun;
        attributes = later.refuses;
      };
    }
