-- A tag that ends within some bytes stands in these alone.
use Rattle.std.proofs.Common.{◌≡◌, inl, inr, ℕ, suc, ◌<◌, ◌+◌, Bool, true, false, cond, List, [], ◌∷◌, ◌++◌, refl, ap, ◌∙◌, sym, subst, length, take, drop, arith, codes, append_assoc, length-append, length-drop, take-append-drop}
use Rattle.std.specs.Prelude.{encode_utf8}
use Rattle.std.specs.List.{prefix_len}
use Rattle.std.specs.Str.Parse.{digits_value}
use Rattle.std.proofs.lemmas.List.{take-append-le, drop-append-le, append_cancel_right}
use Rattle.std.proofs.lemmas.List.Sums.{prefix_len-le-length}
use Rattle.tc_base.specs.Characters.{is_white}
use Rattle.tc_model.specs.XmlTextBytes.{RunAt, BeginsWithWhite, after_white, EqualsAt, place_of}
use Rattle.tc_model.specs.XmlTextNames.{NcNameAt, QualifiedName, QNameAt, unprefixed, prefixed}
use Rattle.tc_model.specs.XmlTextReferences.{EntityAt, ReferenceAt, decimal, hexadecimal, entity, other, is_digit, is_plain_within, ValueAt, closed, plain, QuotedAt}
use Rattle.tc_model.specs.XmlTextReferences as r
use Rattle.tc_model.specs.XmlTextScopes.{WrittenAttribute}
use Rattle.tc_model.specs.XmlTextContent.{EndsTag, AttributesAt, no_more, attribute}
use Rattle.tc_model.proofs.XmlTextPhrases.{same_first, same_others}
use Rattle.tc_tags.specs.XmlTextTags.{WrittenElement, TagFormAt, EndTagAt}
use Rattle.tc_stream.proofs.LengthLaws.{white_within, name_within, qname_within, run_within, value_within, equals_within, attributes_within}
use Rattle.tc_stream.proofs.TagExtendLaws.{Begun, begins_as, none_same, one_same, spaces_same, KeptAttributes, KeptForm}

-- these bytes end with those
pub record Ends (bs w : List ℕ) : Type 0 where
  pub front : List ℕ
  pub parts : bs ≡ front ++ w

pub ends_then : {bs w v : List ℕ} → Ends bs w → Ends w v → Ends bs v
ends_then {v = v} a b = record { front = a.front ++ b.front; parts = a.parts ∙ (ap (λ z. a.front ++ z) b.parts ∙ sym (append_assoc a.front b.front v)) }

pub ends_drop : (n : ℕ) (bs : List ℕ) → Ends bs (drop n bs)
ends_drop n bs = record { front = take n bs; parts = sym (take-append-drop n bs) }

pub ends_is : {bs w v : List ℕ} → Ends bs w → w ≡ v → Ends bs v
ends_is {bs} a e = subst (Ends bs) e a

pub white_ends : (bs : List ℕ) → Ends bs (after_white bs)
white_ends bs = ends_drop (prefix_len is_white bs) bs

pub run_ends : {p : ℕ → Bool} {bs run rest : List ℕ} → RunAt p bs run rest → Ends bs rest
run_ends {p} {bs} a = ends_is (ends_drop (prefix_len p bs) bs) (sym a.back)

abbrev pub one_less : (b : ℕ) (w : List ℕ) → Ends (b ∷ w) w
one_less b w = record { front = b ∷ []; parts = refl }

abbrev pub first_less : {bs : List ℕ} (b : ℕ) (w : List ℕ) → bs ≡ b ∷ w → Ends bs w
first_less b w e = record { front = b ∷ []; parts = e }

pub name_ends : {bs n w : List ℕ} → NcNameAt bs n w → Ends bs w
name_ends {n = n} a = record { front = n; parts = a.parts }

pub qname_ends : {bs w : List ℕ} {n : QualifiedName} → QNameAt bs n w → Ends bs w
qname_ends (unprefixed a ends) = name_ends a
qname_ends (prefixed {rest = rest} a b) = ends_then (name_ends a) (ends_then (one_less 0x3A rest) (name_ends b))

pub equals_ends : {bs w : List ℕ} → EqualsAt bs w → Ends bs w
equals_ends {bs} a = ends_then (ends_then (white_ends bs) (first_less 0x3D a.rest a.sign)) (ends_is (white_ends a.rest) (sym a.past))

pub entity_ends : {bs n w : List ℕ} → EntityAt bs n w → Ends bs w
entity_ends {w = w} a = ends_then (first_less 0x26 a.rest a.opens) (ends_then (name_ends a.names) (one_less 0x3B w))

pub reference_ends : {o : Bool} {bs v w : List ℕ} → ReferenceAt o bs v w → Ends bs w
reference_ends {w = w} (decimal {rest = t} a h) = ends_then (record { front = codes "&#"; parts = refl }) (ends_then (run_ends a) (one_less 0x3B w))
reference_ends {w = w} (hexadecimal {rest = t} a h) = ends_then (record { front = codes "&#x"; parts = refl }) (ends_then (run_ends a) (one_less 0x3B w))
reference_ends (entity a e) = entity_ends a
reference_ends (other h a e) = entity_ends a

pub value_ends : {o : Bool} {q : ℕ} {bs v w : List ℕ} → ValueAt o q bs v w → Ends bs w
value_ends {q = q} {w = w} (closed e) = first_less q w e
value_ends (plain a v) = ends_then (run_ends a) (value_ends v)
value_ends (r.reference a v) = ends_then (reference_ends a) (value_ends v)

pub quoted_ends : {o : Bool} {bs v w : List ℕ} → QuotedAt o bs v w → Ends bs w
quoted_ends a = ends_then (first_less a.quote a.rest a.opens) (value_ends a.closes)

-- what stands behind a front and is longer than what follows stands within
pub record Cut (bs f w front : List ℕ) : Type 0 where
  pub left : List ℕ
  pub whole : w ≡ left ++ f
  pub parts : bs ≡ front ++ left
  pub begun : Begun left

pub cut_at : (front bs f w : List ℕ) → bs ++ f ≡ front ++ w → length f < length w → Cut bs f w front
cut_at [] [] f w e l = absurd (omega (arith, l, ap length e))
cut_at [] (b ∷ bs) f w e l = record { left = b ∷ bs; whole = sym e; parts = refl; begun = begins_as b bs refl }
cut_at (c ∷ front) [] f w e l = absurd (omega (arith, l, ap length e, length-append front w))
cut_at (c ∷ front) (b ∷ bs) f w e l =
    let k = cut_at front bs f w (same_others e) l in
    record { left = k.left; whole = k.whole; parts = ap (λ z. z ∷ bs) (same_first e) ∙ ap (λ z. c ∷ z) k.parts; begun = k.begun }

pub cut : {u w : List ℕ} (bs f : List ℕ) (k : Ends u w) → u ≡ bs ++ f → length f < length w → Cut bs f w k.front
cut {w = w} bs f k e l = cut_at k.front bs f w (sym e ∙ k.parts) l

pub begun_longer : {w : List ℕ} (a f : List ℕ) → w ≡ a ++ f → Begun a → length f < length w
begun_longer a f e i = omega (arith, ap length e, length-append a f, ap length i.is)

-- runs

pub prefix_short : (p : ℕ → Bool) (bs f : List ℕ) → prefix_len p (bs ++ f) < length bs → prefix_len p (bs ++ f) ≡ prefix_len p bs
prefix_short p [] f l = absurd (omega (arith, l))
prefix_short p (b ∷ bs) f l = by (p b) l (λ h. prefix_short p bs f h)
  where
    by : (x : Bool) → cond x (1 + prefix_len p (bs ++ f)) 0 < suc (length bs) → (prefix_len p (bs ++ f) < length bs → prefix_len p (bs ++ f) ≡ prefix_len p bs)
        → cond x (1 + prefix_len p (bs ++ f)) 0 ≡ cond x (1 + prefix_len p bs) 0
    by true l later = ap (λ n. 1 + n) (later (omega (arith, l)))
    by false l later = refl

-- what a run leaves of some bytes alone
pub record Left (p : ℕ → Bool) (bs f a : List ℕ) : Type 0 where
  pub same : prefix_len p (bs ++ f) ≡ prefix_len p bs
  pub back : a ≡ drop (prefix_len p bs) bs

pub left_of : (p : ℕ → Bool) (bs f a : List ℕ) → drop (prefix_len p (bs ++ f)) (bs ++ f) ≡ a ++ f → Begun a → Left p bs f a
left_of p bs f a e i =
    let n = prefix_len p (bs ++ f) in
    let low : prefix_len p (bs ++ f) < length bs = omega (arith, ap length e, length-drop (prefix_len p (bs ++ f)) (bs ++ f), length-append bs f, length-append a f, ap length i.is) in
    let same = prefix_short p bs f low in
    let split : drop (prefix_len p (bs ++ f)) (bs ++ f) ≡ drop (prefix_len p bs) bs ++ f =
    ap (λ k. drop k (bs ++ f)) same ∙ drop-append-le (prefix_len p bs) bs f (prefix_len-le-length p bs) in
    record { same = same; back = append_cancel_right a (drop (prefix_len p bs) bs) f (sym e ∙ split) }

pub run_cut : {p : ℕ → Bool} {u run w : List ℕ} (bs f a : List ℕ) → RunAt p u run w → u ≡ bs ++ f → w ≡ a ++ f → Begun a → RunAt p bs run a
run_cut {p} {u} {run} bs f a x e g i =
    let k = left_of p bs f a (ap (λ z. drop (prefix_len p z) z) (sym e) ∙ (sym x.back ∙ g)) i in
    record {
      some = subst (λ n. 0 < n) (ap (prefix_len p) e ∙ k.same) x.some;
      front = x.front ∙ (ap (λ z. take (prefix_len p z) z) e ∙ (ap (λ n. take n (bs ++ f)) k.same ∙ take-append-le (prefix_len p bs) bs f (prefix_len-le-length p bs)));
      back = k.back;
    }

pub white_cut : (bs f a : List ℕ) → after_white (bs ++ f) ≡ a ++ f → Begun a → after_white bs ≡ a
white_cut bs f a e i = sym (left_of is_white bs f a e i).back

pub white_begins_cut : (bs f a : List ℕ) → after_white (bs ++ f) ≡ a ++ f → Begun a → BeginsWithWhite (bs ++ f) → BeginsWithWhite bs
white_begins_cut bs f a e i h = subst (λ n. 0 < n) (left_of is_white bs f a e i).same h

-- names

pub ncname_cut : {u n w : List ℕ} (bs f a : List ℕ) → NcNameAt u n w → u ≡ bs ++ f → w ≡ a ++ f → NcNameAt bs n a
ncname_cut {n = n} bs f a x e g = record {
  lawful = x.lawful;
  parts = append_cancel_right bs (n ++ a) f (sym e ∙ (x.parts ∙ (ap (λ z. n ++ z) g ∙ sym (append_assoc n a f))));
  longest = λ c t h k. x.longest c (t ++ f) (g ∙ (ap (λ z. z ++ f) h ∙ append_assoc (encode_utf8 c) t f)) k;
}

pub qname_cut : {u w : List ℕ} {n : QualifiedName} (bs f a : List ℕ) → QNameAt u n w → u ≡ bs ++ f → w ≡ a ++ f → Begun a → QNameAt bs n a
qname_cut bs f a (unprefixed x ends) e g i = unprefixed (ncname_cut bs f a x e g) (λ t h. ends (t ++ f) (g ∙ ap (λ z. z ++ f) h))
qname_cut bs f a (prefixed {rest = rest} x y) e g i =
    let k = cut bs f (ends_then (name_ends x) (one_less 0x3A rest)) e (omega (arith, begun_longer a f g i, name_within y)) in
    prefixed (ncname_cut bs f (0x3A ∷ k.left) x e (ap (λ z. 0x3A ∷ z) k.whole)) (ncname_cut k.left f a y k.whole g)

-- values

pub equals_cut : {u w : List ℕ} (bs f a : List ℕ) → EqualsAt u w → u ≡ bs ++ f → w ≡ a ++ f → Begun a → EqualsAt bs a
equals_cut {u} {w} bs f a x e g i =
    let k = cut bs f (ends_then (white_ends u) (first_less 0x3D x.rest x.sign)) e (omega (arith, begun_longer a f g i, ap length x.past, white_within x.rest)) in
    record {
      rest = k.left;
      sign = white_cut bs f (0x3D ∷ k.left) (ap after_white (sym e) ∙ (x.sign ∙ ap (λ z. 0x3D ∷ z) k.whole)) (begins_as 0x3D k.left refl);
      past = sym (white_cut k.left f a (ap after_white (sym k.whole) ∙ (sym x.past ∙ g)) i);
    }

pub entity_cut : {u n w : List ℕ} (bs f a : List ℕ) → EntityAt u n w → u ≡ bs ++ f → w ≡ a ++ f → EntityAt bs n a
entity_cut {w = w} bs f a x e g =
    let k = cut bs f (first_less 0x26 x.rest x.opens) e (omega (arith, ap length g, length-append a f, name_within x.names)) in
    record { rest = k.left; opens = k.parts; names = ncname_cut k.left f (0x3B ∷ a) x.names k.whole (ap (λ z. 0x3B ∷ z) g) }

pub reference_cut : {o : Bool} {u v w : List ℕ} (bs f a : List ℕ) → ReferenceAt o u v w → u ≡ bs ++ f → w ≡ a ++ f → ReferenceAt o bs v a
reference_cut {o} bs f a (decimal {rest = t} {digits = ds} x h) e g =
    let k = cut bs f (record { front = codes "&#"; parts = refl }) e (omega (arith, ap length g, length-append a f, run_within x)) in
    subst (λ z. ReferenceAt o z (encode_utf8 (digits_value 10 ds)) a) (sym k.parts) (decimal (run_cut k.left f (0x3B ∷ a) x k.whole (ap (λ z. 0x3B ∷ z) g) (begins_as 0x3B a refl)) h)
reference_cut {o} bs f a (hexadecimal {rest = t} {digits = ds} x h) e g =
    let k = cut bs f (record { front = codes "&#x"; parts = refl }) e (omega (arith, ap length g, length-append a f, run_within x)) in
    subst (λ z. ReferenceAt o z (encode_utf8 (digits_value 16 ds)) a) (sym k.parts) (hexadecimal (run_cut k.left f (0x3B ∷ a) x k.whole (ap (λ z. 0x3B ∷ z) g) (begins_as 0x3B a refl)) h)
reference_cut bs f a (entity x p) e g = entity (entity_cut bs f a x e g) p
reference_cut bs f a (other h x p) e g = other h (entity_cut bs f a x e g) p

pub value_cut : {o : Bool} {q : ℕ} {u v w : List ℕ} (bs f a : List ℕ) → ValueAt o q u v w → u ≡ bs ++ f → w ≡ a ++ f → Begun a → ValueAt o q bs v a
value_cut {q = q} bs f a (closed x) e g i = closed (append_cancel_right bs (q ∷ a) f (sym e ∙ (x ∙ ap (λ z. q ∷ z) g)))
value_cut bs f a (plain x v) e g i =
    let k = cut bs f (run_ends x) e (omega (arith, begun_longer a f g i, value_within v)) in
    plain (run_cut bs f k.left x e k.whole k.begun) (value_cut k.left f a v k.whole g i)
value_cut bs f a (r.reference x v) e g i =
    let k = cut bs f (reference_ends x) e (omega (arith, begun_longer a f g i, value_within v)) in
    r.reference (reference_cut bs f k.left x e k.whole) (value_cut k.left f a v k.whole g i)

pub quoted_cut : {o : Bool} {u v w : List ℕ} (bs f a : List ℕ) → QuotedAt o u v w → u ≡ bs ++ f → w ≡ a ++ f → Begun a → QuotedAt o bs v a
quoted_cut bs f a x e g i =
    let k = cut bs f (first_less x.quote x.rest x.opens) e (omega (arith, begun_longer a f g i, value_within x.closes)) in
    record { quote = x.quote; rest = k.left; is_quote = x.is_quote; opens = k.parts; closes = value_cut k.left f a x.closes k.whole g i }

-- attributes and tags

pub ends_cut : (a f : List ℕ) → Begun a → EndsTag (a ++ f) → EndsTag a
ends_cut [] f i k = absurd (omega (arith, ap length i.is))
ends_cut (b ∷ a) f i (inl (t, e)) = inl (a, ap (λ z. z ∷ a) (same_first e))
ends_cut (b ∷ a) f i (inr (t, e)) = inr (a, ap (λ z. z ∷ a) (same_first e))

pub attributes_cut : {o : Bool} {total : ℕ} {u w : List ℕ} {l : List WrittenAttribute} (bs f a : List ℕ) (now : ℕ) → AttributesAt o total u l w → u ≡ bs ++ f → w ≡ a ++ f → Begun a
    → KeptAttributes o now bs l a
attributes_cut {o} bs f a now (no_more x) e g i =
    let white = white_cut bs f a (ap after_white (sym e) ∙ g) i in
    record {
      list = [];
      lists = subst (λ z. AttributesAt o now bs [] z) white (no_more (subst EndsTag (sym white) (ends_cut a f i (subst EndsTag g x))));
      same = none_same;
    }
attributes_cut {o} {u = u} bs f a now (attribute {past_name = p} {start = s} {value = v} {rest = t} {name = n} x q y z l) e g i =
    let long = begun_longer a f g i in
    let c3 = cut bs f (ends_then (white_ends u) (ends_then (qname_ends q) (ends_then (equals_ends y) (quoted_ends z)))) e (omega (arith, long, attributes_within l)) in
    let c2 = cut bs f (ends_then (white_ends u) (ends_then (qname_ends q) (equals_ends y))) e (omega (arith, long, attributes_within l, ap length z.opens, value_within z.closes)) in
    let c1 = cut bs f (ends_then (white_ends u) (qname_ends q)) e (omega (arith, long, attributes_within l, ap length z.opens, value_within z.closes, equals_within y)) in
    let c0 = cut bs f (white_ends u) e (omega (arith, long, attributes_within l, ap length z.opens, value_within z.closes, equals_within y, qname_within q)) in
    let white = white_cut bs f c0.left (ap after_white (sym e) ∙ c0.whole) c0.begun in
    let more = attributes_cut c3.left f a now l c3.whole g i in
    let one : WrittenAttribute = record { name = n; value = v; place = place_of now (after_white bs) } in
    record {
      list = one ∷ more.list;
      lists = attribute (white_begins_cut bs f c0.left (ap after_white (sym e) ∙ c0.whole) c0.begun (subst BeginsWithWhite e x))
          (subst (λ k. QNameAt k n c1.left) (sym white) (qname_cut c0.left f c1.left q c0.whole c1.whole c1.begun))
          (equals_cut c1.left f c2.left y c1.whole c2.whole c2.begun)
          (quoted_cut c2.left f c3.left z c2.whole c3.whole c3.begun)
          more.lists;
      same = one_same more.same;
    }

-- a tag that ends within bytes that others follow stands in them alone
pub form_cut : {o : Bool} {total : ℕ} {u w : List ℕ} {e : WrittenElement} (bs f a : List ℕ) (now : ℕ) → TagFormAt o total u e w → u ≡ bs ++ f → w ≡ a ++ f → Begun a → KeptForm o now bs e a
form_cut {e = one} bs f a now x e g i =
    let long = begun_longer a f g i in
    let c0 = cut bs f (first_less 0x3C x.rest x.opens) e (omega (arith, long, attributes_within x.lists, qname_within x.names)) in
    let c1 = cut c0.left f (qname_ends x.names) c0.whole (omega (arith, long, attributes_within x.lists)) in
    let k = attributes_cut c1.left f a now x.lists c1.whole g i in
    record {
      element = record { name = one.name; attributes = k.list };
      form = record {
        rest = c0.left;
        past_name = c1.left;
        opens = c0.parts;
        names = qname_cut c0.left f c1.left x.names c0.whole c1.whole c1.begun;
        lists = k.lists;
        no_space = sym (spaces_same k.same) ∙ x.no_space;
      };
      same_name = refl;
      same = k.same;
    }

pub end_tag_cut : {n : QualifiedName} {u w : List ℕ} (bs f a : List ℕ) → EndTagAt n u w → u ≡ bs ++ f → w ≡ a ++ f → EndTagAt n bs a
end_tag_cut bs f a x e g =
    let c0 = cut bs f (record { front = codes "</"; parts = x.opens }) e (omega (arith, ap length g, length-append a f, ap length x.closes, white_within x.past_name, qname_within x.names)) in
    let c1 = cut c0.left f (qname_ends x.names) c0.whole (omega (arith, ap length g, length-append a f, ap length x.closes, white_within x.past_name)) in
    record {
      rest = c0.left;
      past_name = c1.left;
      opens = c0.parts;
      names = qname_cut c0.left f c1.left x.names c0.whole c1.whole c1.begun;
      closes = white_cut c1.left f (0x3E ∷ a) (ap after_white (sym c1.whole) ∙ (x.closes ∙ ap (λ z. 0x3E ∷ z) g)) (begins_as 0x3E a refl);
    }
