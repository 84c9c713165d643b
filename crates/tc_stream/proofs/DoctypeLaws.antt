-- Character by character a document type declaration ends, or comes to a subset, where it does.
use Rattle.std.proofs.Common.{◌≡◌, inl, inr, ◌⊎◌, ℕ, ◌<◌, Bool, true, false, not, ◌||◌, ◌==◌, List, [], ◌∷◌, ◌++◌, refl, ap, ◌∙◌, sym, subst, arith, codes}
use Rattle.std.specs.Prelude.{encode_utf8_all}
use Rattle.std.specs.List.{list_all}
use Rattle.std.proofs.lemmas.Bool.{true≢false, and_parts, eq-eqb, cond-true, cond-false}
use Rattle.std.proofs.lemmas.List.{append_cancel_left}
use Rattle.tc_base.specs.Characters.{is_white}
use Rattle.tc_model.specs.Names.{is_ncname_start, is_ncname_char}
use Rattle.tc_model.specs.XmlTextBytes.{BeginsWithWhite, after_white, IsQuote, LiteralAt}
use Rattle.tc_model.specs.XmlTextNames.{NcNameAt, QualifiedName, QNameAt, unprefixed, prefixed}
use Rattle.tc_model.specs.XmlTextMisc.{ExternalIdAt, no_id, system, public, DoctypeFrontAt}
use Rattle.tc_model.proofs.XmlTextPhrases.{start_is_char}
use Rattle.tc_stream.specs.Doctypes.{Typing, begun, before_name, in_name, at_colon, named, in_word, before_literal, in_literal, identified, Typed, more, whole, opens_subset, untyped, behind_literal, typed_next, TypeScan, typed, typing, subset, no_doctype, type_on, doctype_scan}
use Rattle.tc_stream.proofs.InstructionLaws.{name_stops}
use Rattle.tc_stream.proofs.SplitLaws.{Splits, up_to_splits, white_more, white_none, white_begins, begins_white}
use Rattle.tc_stream.proofs.EncodedLaws.{first_decoded, mark_decoded, white_encoded, begins_decoded, splits_decoded, NameAt, name_decoded}

-- what a scan is behind more characters
abbrev pub then_doctype : TypeScan → List ℕ → TypeScan
then_doctype (typed r) t = typed (r ++ t)
then_doctype (typing k) t = doctype_scan k t
then_doctype (subset r) t = subset (r ++ t)
then_doctype no_doctype t = no_doctype

pub doctype_more : (k : Typing) (w t : List ℕ) → doctype_scan k (w ++ t) ≡ then_doctype (doctype_scan k w) t
doctype_more k [] t = refl
doctype_more k (c ∷ w) t = by (typed_next k c) (λ j. doctype_more j w t)
  where
    by : (d : Typed) → ((j : Typing) → doctype_scan j (w ++ t) ≡ then_doctype (doctype_scan j w) t)
        → type_on d (λ j. doctype_scan j (w ++ t)) (w ++ t) ≡ then_doctype (type_on d (λ j. doctype_scan j w) w) t
    by (more j) later = later j
    by whole later = refl
    by opens_subset later = refl
    by untyped later = refl

pub type_step : (k : Typing) (d : Typed) (c : ℕ) (cs : List ℕ) → typed_next k c ≡ d → doctype_scan k (c ∷ cs) ≡ type_on d (λ j. doctype_scan j cs) cs
type_step k d c cs e = ap (λ d. type_on d (λ j. doctype_scan j cs) cs) e

-- white space

pub record OnWhite (k j : Typing) : Type 0 where
  pub goes : (c : ℕ) → is_white c ≡ true → typed_next k c ≡ more j

pub skip_white : (k : Typing) (cs : List ℕ) → OnWhite k k → doctype_scan k cs ≡ doctype_scan k (after_white cs)
skip_white k [] w = refl
skip_white k (c ∷ cs) w = by (is_white c) refl (skip_white k cs w)
  where
    by : (x : Bool) → is_white c ≡ x → doctype_scan k cs ≡ doctype_scan k (after_white cs) → doctype_scan k (c ∷ cs) ≡ doctype_scan k (after_white (c ∷ cs))
    by true e later = type_step k (more k) c cs (w.goes c e) ∙ (later ∙ ap (doctype_scan k) (sym (white_more c cs e)))
    by false e later = ap (doctype_scan k) (sym (white_none c cs e))

pub some_white : (k j : Typing) (cs : List ℕ) → OnWhite k j → OnWhite j j → BeginsWithWhite cs → doctype_scan k cs ≡ doctype_scan j (after_white cs)
some_white k j [] w v h = absurd (omega (arith, h))
some_white k j (c ∷ cs) w v h =
    let white = begins_white c cs h in
    type_step k (more j) c cs (w.goes c white) ∙ (skip_white j cs v ∙ ap (doctype_scan j) (sym (white_more c cs white)))

pub white_no_name : (c : ℕ) → is_white c ≡ true → is_ncname_char c ≡ false
white_no_name c h = name_stops c (ap (λ x. x || c == 0x3F) h)

pub begun_white : OnWhite begun before_name
begun_white = record { goes = λ c h. cond-true (is_white c) _ _ h }

pub before_white : OnWhite before_name before_name
before_white = record { goes = λ c h. cond-true (is_white c) _ _ h }

pub name_white : (l : Bool) → OnWhite (in_name l) named
name_white l = record { goes = λ c h. cond-false (is_ncname_char c) _ _ (white_no_name c h) ∙ cond-true (is_white c) _ _ h }

pub named_white : OnWhite named named
named_white = record { goes = λ c h. cond-true (is_white c) _ _ h }

pub word_white : (n : ℕ) → OnWhite (in_word [] n) (before_literal n)
word_white n = record { goes = λ c h. cond-true (is_white c) _ _ h }

pub literal_white : (n : ℕ) → OnWhite (before_literal n) (before_literal n)
literal_white n = record { goes = λ c h. cond-true (is_white c) _ _ h }

pub identified_white : OnWhite identified identified
identified_white = record { goes = λ c h. cond-true (is_white c) _ _ h }

-- names

start_bare : (c : ℕ) → is_ncname_start c ≡ true → is_white c ≡ false
start_bare c h = by (is_white c) refl
  where
    by : (x : Bool) → is_white c ≡ x → is_white c ≡ false
    by true e = absurd (true≢false (sym (start_is_char c h) ∙ white_no_name c e))
    by false e = e

chars_past : (l : Bool) (ms ds : List ℕ) → list_all is_ncname_char ms ≡ true → doctype_scan (in_name l) (ms ++ ds) ≡ doctype_scan (in_name l) ds
chars_past l [] ds h = refl
chars_past l (c ∷ ms) ds h =
    let both = and_parts (is_ncname_char c) (list_all is_ncname_char ms) h in
    type_step (in_name l) (more (in_name l)) c (ms ++ ds) (cond-true (is_ncname_char c) _ _ both.0) ∙ chars_past l ms ds both.1

name_past : {cs ds : List ℕ} → NameAt cs ds → doctype_scan before_name cs ≡ doctype_scan (in_name false) ds
name_past {cs} {ds} a =
    ap (doctype_scan before_name) a.parts
    ∙ (type_step before_name (more (in_name false)) a.first (a.others ++ ds) (cond-false (is_white a.first) _ _ (start_bare a.first a.starts) ∙ cond-true (is_ncname_start a.first) _ _ a.starts)
    ∙ chars_past false a.others ds a.goes)

local_past : {cs ds : List ℕ} → NameAt cs ds → doctype_scan at_colon cs ≡ doctype_scan (in_name true) ds
local_past {cs} {ds} a =
    ap (doctype_scan at_colon) a.parts
    ∙ (type_step at_colon (more (in_name true)) a.first (a.others ++ ds) (cond-true (is_ncname_start a.first) _ _ a.starts) ∙ chars_past true a.others ds a.goes)

-- a QName goes by
record PastName (cs past : List ℕ) : Type 0 where
  local : Bool
  behind : List ℕ
  is : past ≡ encode_utf8_all behind
  scans : doctype_scan before_name cs ≡ doctype_scan (in_name local) behind

qname_past : {n : QualifiedName} {past : List ℕ} (cs : List ℕ) → QNameAt (encode_utf8_all cs) n past → PastName cs past
qname_past cs (unprefixed a ends) = let (ds, b, k) = name_decoded cs a in record { local = false; behind = ds; is = k; scans = name_past b }
qname_past {past = past} cs (prefixed {rest = rest} {local = k} a b) =
    let (ds, c, j) = name_decoded cs a in
    let (es, is, m) = first_decoded ds 0x3A rest (omega arith) (sym j) in
    let (fs, d, i) = name_decoded es (subst (λ z. NcNameAt z k past) m b) in
    record {
      local = true;
      behind = fs;
      is = i;
      scans = name_past c ∙ (ap (doctype_scan (in_name false)) is ∙ (type_step (in_name false) (more at_colon) 0x3A es refl ∙ local_past d));
    }

-- literals

inside_past : (n q : ℕ) (vs ds : List ℕ) → list_all (λ b. not (b == q)) vs ≡ true → doctype_scan (in_literal n q) (vs ++ q ∷ ds) ≡ doctype_scan (behind_literal n) ds
inside_past n q [] ds h = type_step (in_literal n q) (more (behind_literal n)) q ds (cond-true (q == q) _ _ (eq-eqb q q refl))
inside_past n q (c ∷ vs) ds h =
    let both = and_parts (not (c == q)) (list_all (λ b. not (b == q)) vs) h in
    type_step (in_literal n q) (more (in_literal n q)) c (vs ++ q ∷ ds) (cond-false (c == q) _ _ (other (c == q) both.0)) ∙ inside_past n q vs ds both.1
  where
    other : (x : Bool) → not x ≡ true → x ≡ false
    other true e = absurd (true≢false (sym e))
    other false e = refl

quote_low : (q : ℕ) → IsQuote q → q < 128
quote_low q (inl e) = omega (arith, e)
quote_low q (inr e) = omega (arith, e)

quote_opens : (n q : ℕ) → IsQuote q → typed_next (before_literal n) q ≡ more (in_literal n q)
quote_opens n q (inl e) = subst (λ z. typed_next (before_literal n) z ≡ more (in_literal n z)) (sym e) refl
quote_opens n q (inr e) = subst (λ z. typed_next (before_literal n) z ≡ more (in_literal n z)) (sym e) refl

literal_past : {value after : List ℕ} (n : ℕ) (cs : List ℕ) → LiteralAt (encode_utf8_all cs) value after
    → (ds : List ℕ) × (after ≡ encode_utf8_all ds) × (doctype_scan (before_literal n) cs ≡ doctype_scan (behind_literal n) ds)
literal_past {value} {after} n cs a =
    let low = quote_low a.quote a.is_quote in
    let (es, is, k) = first_decoded cs a.quote a.rest low a.opens in
    let (vs, ds, s, m) = splits_decoded es low (subst (λ z. Splits a.quote z value after) k (up_to_splits a.closes)) in (
      ds,
      m,
      ap (doctype_scan (before_literal n)) is
          ∙ (type_step (before_literal n) (more (in_literal n a.quote)) a.quote es (quote_opens n a.quote a.is_quote)
          ∙ (ap (doctype_scan (in_literal n a.quote)) s.parts ∙ inside_past n a.quote vs ds s.free)),
    )

-- white space and a literal
spaced_past : {value after : List ℕ} (n : ℕ) (cs : List ℕ) → BeginsWithWhite (encode_utf8_all cs) → LiteralAt (after_white (encode_utf8_all cs)) value after
    → (ds : List ℕ) × (after ≡ encode_utf8_all ds) × (doctype_scan (in_word [] n) cs ≡ doctype_scan (behind_literal n) ds)
spaced_past {value} {after} n cs w a =
    let (ds, k, e) = literal_past n (after_white cs) (subst (λ z. LiteralAt z value after) (white_encoded cs) a) in
    (ds, k, some_white (in_word [] n) (before_literal n) cs (word_white n) (literal_white n) (begins_decoded cs w) ∙ e)

word_past : (n : ℕ) (left ds : List ℕ) → doctype_scan (in_word left n) (left ++ ds) ≡ doctype_scan (in_word [] n) ds
word_past n [] ds = refl
word_past n (c ∷ left) ds = type_step (in_word (c ∷ left) n) (more (in_word left n)) c (left ++ ds) (cond-true (c == c) _ _ (eq-eqb c c refl)) ∙ word_past n left ds

-- the end

-- what a scan tells, by what follows the front of a doctype
pub data TypeEnds (x : TypeScan) (after : List ℕ) : Type 0 where
  ends : (es : List ℕ) → x ≡ typed es → after ≡ 0x3E ∷ encode_utf8_all es → TypeEnds x after
  opens : (es : List ℕ) → x ≡ subset es → after ≡ 0x5B ∷ encode_utf8_all es → TypeEnds x after

-- the end or a subset
abbrev pub IsEnd : List ℕ → Type 0
IsEnd after = ((r : List ℕ) × (after ≡ 0x3E ∷ r)) ⊎ ((r : List ℕ) × (after ≡ 0x5B ∷ r))

moved : {x y : TypeScan} {after past : List ℕ} → x ≡ y → after ≡ past → TypeEnds y past → TypeEnds x after
moved e k (ends es i j) = ends es (e ∙ i) (k ∙ j)
moved e k (opens es i j) = opens es (e ∙ i) (k ∙ j)

-- where the end may stand, it does
end_here : (k : Typing) (cs : List ℕ) → typed_next k 0x3E ≡ whole → typed_next k 0x5B ≡ opens_subset → IsEnd (encode_utf8_all cs) → TypeEnds (doctype_scan k cs) (encode_utf8_all cs)
end_here k cs e f (inl (r, is)) =
    let (es, c, m) = first_decoded cs 0x3E r (omega arith) is in ends es (ap (doctype_scan k) c ∙ type_step k whole 0x3E es e) (is ∙ ap (λ z. 0x3E ∷ z) m)
end_here k cs e f (inr (r, is)) =
    let (es, c, m) = first_decoded cs 0x5B r (omega arith) is in opens es (ap (doctype_scan k) c ∙ type_step k opens_subset 0x5B es f) (is ∙ ap (λ z. 0x5B ∷ z) m)

identified_ends : (cs : List ℕ) → IsEnd (after_white (encode_utf8_all cs)) → TypeEnds (doctype_scan identified cs) (after_white (encode_utf8_all cs))
identified_ends cs h =
    moved (skip_white identified cs identified_white) (white_encoded cs) (end_here identified (after_white cs) refl refl (subst IsEnd (white_encoded cs) h))

pub white_or_not : (cs : List ℕ) → BeginsWithWhite cs ⊎ (after_white cs ≡ cs)
white_or_not [] = inr refl
white_or_not (c ∷ cs) = by (is_white c) refl
  where
    by : (x : Bool) → is_white c ≡ x → BeginsWithWhite (c ∷ cs) ⊎ (after_white (c ∷ cs) ≡ c ∷ cs)
    by true h = inl (white_begins c cs h)
    by false h = inr (white_none c cs h)

name_ends : (l : Bool) (cs : List ℕ) → IsEnd (after_white (encode_utf8_all cs)) → TypeEnds (doctype_scan (in_name l) cs) (after_white (encode_utf8_all cs))
name_ends l cs h = by (white_or_not cs)
  where
    end : IsEnd (encode_utf8_all (after_white cs))
    end = subst IsEnd (white_encoded cs) h

    by : BeginsWithWhite cs ⊎ (after_white cs ≡ cs) → TypeEnds (doctype_scan (in_name l) cs) (after_white (encode_utf8_all cs))
    by (inl w) = moved (some_white (in_name l) named cs (name_white l) named_white w) (white_encoded cs) (end_here named (after_white cs) refl refl end)
    by (inr e) = moved refl (white_encoded cs ∙ ap encode_utf8_all e) (end_here (in_name l) cs refl refl (subst (λ z. IsEnd (encode_utf8_all z)) e end))

external_ends : {past : List ℕ} (l : Bool) (cs : List ℕ) → ExternalIdAt (encode_utf8_all cs) past → IsEnd (after_white past) → TypeEnds (doctype_scan (in_name l) cs) (after_white past)
external_ends l cs (no_id e) h = name_ends l cs h
external_ends {past} l cs (system {rest = rest} {value = v} w is w' a) h =
    let (es, c, k) = mark_decoded (codes "SYSTEM") (after_white cs) rest refl (sym (white_encoded cs) ∙ is) in
    let (fs, m, s) = spaced_past 1 es (subst BeginsWithWhite k w') (subst (λ z. LiteralAt (after_white z) v past) k a) in
    let scans : doctype_scan (in_name l) cs ≡ doctype_scan identified fs =
    some_white (in_name l) named cs (name_white l) named_white (begins_decoded cs w)
    ∙ (ap (doctype_scan named) c ∙ (type_step named (more (in_word (codes "YSTEM") 1)) 0x53 (codes "YSTEM" ++ es) refl ∙ (word_past 1 (codes "YSTEM") es ∙ s))) in
    moved scans (ap after_white m) (identified_ends fs (subst (λ z. IsEnd (after_white z)) m h))
external_ends {past} l cs (public {rest = rest} {value = v} {past_first = p} {second = u} w is w' a w'' b) h =
    let (es, c, k) = mark_decoded (codes "PUBLIC") (after_white cs) rest refl (sym (white_encoded cs) ∙ is) in
    let (fs, m, s) = spaced_past 2 es (subst BeginsWithWhite k w') (subst (λ z. LiteralAt (after_white z) v p) k a) in
    let (gs, i, t) = spaced_past 1 fs (subst BeginsWithWhite m w'') (subst (λ z. LiteralAt (after_white z) u past) m b) in
    let scans : doctype_scan (in_name l) cs ≡ doctype_scan identified gs =
    some_white (in_name l) named cs (name_white l) named_white (begins_decoded cs w)
    ∙ (ap (doctype_scan named) c ∙ (type_step named (more (in_word (codes "UBLIC") 2)) 0x50 (codes "UBLIC" ++ es) refl ∙ (word_past 2 (codes "UBLIC") es ∙ (s ∙ t)))) in
    moved scans (ap after_white i) (identified_ends gs (subst (λ z. IsEnd (after_white z)) i h))

-- a doctype's front ends where the scan says
pub doctype_scanned : (cs after : List ℕ) → DoctypeFrontAt (codes "<!DOCTYPE" ++ encode_utf8_all cs) after → IsEnd after → TypeEnds (doctype_scan begun cs) after
doctype_scanned cs after a h =
    let same : a.rest ≡ encode_utf8_all cs = append_cancel_left (codes "<!DOCTYPE") a.rest (encode_utf8_all cs) (sym a.opens) in
    let white = begins_decoded cs (subst BeginsWithWhite same a.white) in
    let p = qname_past (after_white cs) (subst (λ z. QNameAt z a.name a.past_name) (ap after_white same ∙ white_encoded cs) a.names) in
    moved (some_white begun before_name cs begun_white before_white white ∙ p.scans) a.past
    (external_ends p.local p.behind (subst (λ z. ExternalIdAt z a.past_id) p.is a.external) (subst IsEnd a.past h))
