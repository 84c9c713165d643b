-- What comes of a text at a start tag with which elements stand too deep: its name decides, of whatever length it is.
use Rattle.std.proofs.Common.{◌≡◌, ℕ, ◌+◌, Bool, true, false, List, [], ◌∷◌, ◌++◌, refl, ap, ◌∙◌, sym, subst, length, arith, IsTrue, append_assoc, append-nil, length-append}
use Rattle.std.specs.Prelude.{◌↔◌, encode_utf8, encode_utf8_all}
use Rattle.std.specs.List.{list_all}
use Rattle.std.proofs.lemmas.Bool.{true≢false, and_parts, and_from}
use Rattle.std.proofs.lemmas.List.Folds.{list_all-append}
use Rattle.std.proofs.lemmas.Str.{encode_ascii, encode_same, encodes-append, char_from_byte, length-encode, len_utf8_bounds}
use Rattle.tc_base.specs.Characters.{is_char}
use Rattle.tc_model.specs.Names.{IsChars, IsNcName, is_ncname_start, is_ncname_char}
use Rattle.tc_model.specs.RawTrees.{Bound}
use Rattle.tc_model.specs.XmlTextBytes.{FrontOf, place_of}
use Rattle.tc_model.specs.XmlTextNames.{NcNameAt, QualifiedName, QNameAt, unprefixed, prefixed}
use Rattle.tc_model.specs.XmlTextRefusals.{too_deep}
use Rattle.tc_model.proofs.XmlTextChars.{after_ascii, name_chars}
use Rattle.tc_model.proofs.XmlTextPhrases.{same_others, ncname_unique}
use Rattle.tc_stream.specs.Cuts.{BeginsNoChar}
use Rattle.tc_stream.specs.Outcomes.{Outcome, refused}
use Rattle.tc_stream.specs.Goes.{Level, depth_left, Goes, deep}
use Rattle.tc_stream.specs.From.{open_in, StillComes}
use Rattle.tc_stream.specs.declared.phases.Phase.TheVariants as phases
use Rattle.tc_stream.proofs.BrokenSteps.{name_then}
use Rattle.tc_stream.proofs.EncodedLaws.{EndsName}
use Rattle.tc_stream.proofs.FrontExists.{front_exists}
use Rattle.tc_stream.proofs.LongLaws.{Starts, long_deep, start_no_slash, starts_kept}
use Rattle.tc_stream.proofs.OneOutcome.{AtTag, starts, stands_alone, ends, is_deep, is_refused, is_long, has_many, at_tag, closes_one}
use Rattle.tc_stream.proofs.TagSteps.{over_final}
use Rattle.tc_stream.proofs.FinalSteps.{refused_step}
use Rattle.tc_stream.proofs.PendingLaws.{ncname_starts}
use Rattle.tc_stream.proofs.NothingSteps.{nothing_step, last_step, last_refused}
use Rattle.tc_stream.proofs.TagBroken.{start_kind}

-- as many characters of a name as there are
record NameFront (cs : List ℕ) : Type 0 where
  chars : List ℕ
  behind : List ℕ
  parts : cs ≡ chars ++ behind
  goes : list_all is_ncname_char chars ≡ true
  ends : EndsName behind

name_front : (cs : List ℕ) → NameFront cs
name_front [] = record { chars = []; behind = []; parts = refl; goes = refl; ends = tt }
name_front (c ∷ cs) = by (is_ncname_char c) refl (name_front cs)
  where
    by : (x : Bool) → is_ncname_char c ≡ x → NameFront cs → NameFront (c ∷ cs)
    by true e k = record { chars = c ∷ k.chars; behind = k.behind; parts = ap (λ w. c ∷ w) k.parts; goes = and_from (is_ncname_char c) (list_all is_ncname_char k.chars) e k.goes; ends = k.ends }
    by false e k = record { chars = []; behind = c ∷ cs; parts = refl; goes = refl; ends = e }

pub chars_more : {n : List ℕ} (ms : List ℕ) → IsNcName n → list_all is_ncname_char ms ≡ true → IsNcName (n ++ encode_utf8_all ms)
chars_more {n} ms (d, cs, is, first, goes) h = (
  d,
  cs ++ ms,
  encodes-append (d ∷ cs) ms ∙ ap (λ v. v ++ encode_utf8_all ms) is,
  first,
  list_all-append is_ncname_char cs ms ∙ and_from (list_all is_ncname_char cs) (list_all is_ncname_char ms) goes h,
)

-- characters of names are characters of XML

one_of_chars : (c : ℕ) → IsChars (encode_utf8 c) → is_char c ≡ true
one_of_chars c ([], e, h) = absurd (omega (arith, ap length e, length-encode c, len_utf8_bounds c))
one_of_chars c (d ∷ ds, e, h) =
    let same : d ≡ c = (encode_same d c (encode_utf8_all ds) [] (e ∙ sym (append-nil (encode_utf8 c)))).0 in
    subst (λ z. is_char z ≡ true) same (and_parts (is_char d) (list_all is_char ds) h).0

name_is_char : (c : ℕ) → is_ncname_char c ≡ true → is_char c ≡ true
name_is_char c h =
    let n : IsNcName (0x61 ∷ encode_utf8 c) = (
      0x61,
      c ∷ [],
      ap (λ w. w ++ (encode_utf8 c ++ [])) (encode_ascii 0x61 (omega arith)) ∙ ap (λ w. 0x61 ∷ w) (append-nil (encode_utf8 c)),
      refl,
      and_from (is_ncname_char c) true h refl,
    ) in
    one_of_chars c (after_ascii 0x61 (encode_utf8 c) (omega arith) (name_chars (0x61 ∷ encode_utf8 c) n))

-- a name is one whatever follows
record NameThere (bs : List ℕ) : Type 0 where
  name : List ℕ
  after : List ℕ
  is : NcNameAt bs name after

name_there : {n : List ℕ} (r : List ℕ) → IsNcName n → NameThere (n ++ r)
name_there {n} r h = let (f, k) = front_exists r in by f k k.characters
  where
    by : (f : List ℕ) (k : FrontOf r f) → IsChars f → NameThere (n ++ r)
    by f k (cs, e, chars) =
        let s = name_front cs in
        let rest : r ≡ encode_utf8_all s.chars ++ (encode_utf8_all s.behind ++ k.after) =
        k.parts ∙ (ap (λ w. w ++ k.after) (sym e ∙ (ap encode_utf8_all s.parts ∙ encodes-append s.chars s.behind)) ∙ append_assoc (encode_utf8_all s.chars) (encode_utf8_all s.behind) k.after) in
        record {
          name = n ++ encode_utf8_all s.chars;
          after = encode_utf8_all s.behind ++ k.after;
          is = record {
            lawful = chars_more s.chars h s.goes;
            parts = ap (λ w. n ++ w) rest ∙ sym (append_assoc n (encode_utf8_all s.chars) (encode_utf8_all s.behind ++ k.after));
            longest = ended s.behind s.ends k.after k.longest;
          };
        }
      where
        ended : (ds : List ℕ) → EndsName ds → (after : List ℕ) → ((c : ℕ) (x : List ℕ) → after ≡ encode_utf8 c ++ x → IsTrue (is_char c) → ⊥) → (c : ℕ) (x : List ℕ) → encode_utf8_all ds ++ after ≡ encode_utf8 c ++ x
            → IsTrue (is_ncname_char c) → ⊥
        ended [] i after stop c x e k = stop c x e (name_is_char c k)
        ended (d ∷ ds) i after stop c x e k =
            let same : d ≡ c = (encode_same d c (encode_utf8_all ds ++ after) x (sym (append_assoc (encode_utf8 d) (encode_utf8_all ds) after) ∙ e)).0 in
            true≢false (sym k ∙ (ap is_ncname_char (sym same) ∙ i))

-- names that stand, whatever follows

-- a name stands behind a `<`
pub record IsNamed (bs : List ℕ) : Type 0 where
  pub rest : List ℕ
  pub name : QualifiedName
  pub past : List ℕ
  pub opens : bs ≡ 0x3C ∷ rest
  pub names : QNameAt rest name past

-- one before a character that is none of a name, nor a colon
pub named_before : (n : List ℕ) (c : ℕ) (f : List ℕ) → IsNcName n → is_ncname_char c ≡ false → (c ≡ 0x3A → ⊥) → IsNamed (((0x3C ∷ n) ++ encode_utf8 c) ++ f)
named_before n c f h out other = record {
  rest = n ++ (encode_utf8 c ++ f);
  name = record { prefix = []; local = n };
  past = encode_utf8 c ++ f;
  opens = append_assoc (0x3C ∷ n) (encode_utf8 c) f;
  names = unprefixed (name_then n c f h out) (λ r e. other (char_from_byte (0x3A ∷ r) f c (sym e) (omega arith) (omega arith)));
}

before_colon : (n f : List ℕ) → IsNcName n → NcNameAt (n ++ 0x3A ∷ f) n (0x3A ∷ f)
before_colon n f h = subst (λ w. NcNameAt (n ++ w) n w) (ap (λ w. w ++ f) (encode_ascii 0x3A (omega arith))) (name_then n 0x3A f h refl)

pub one_name : (c : ℕ) → is_ncname_start c ≡ true → IsNcName (encode_utf8 c)
one_name c first = (c, [], append-nil (encode_utf8 c), first, refl)

-- a prefix, a colon and a character with which a name begins
pub named_prefixed : (p : List ℕ) (c : ℕ) (f : List ℕ) → IsNcName p → is_ncname_start c ≡ true → IsNamed (((0x3C ∷ (p ++ 0x3A ∷ [])) ++ encode_utf8 c) ++ f)
named_prefixed p c f h first =
    let m = name_there f (one_name c first) in
    let parts : (p ++ 0x3A ∷ []) ++ (encode_utf8 c ++ f) ≡ p ++ 0x3A ∷ (encode_utf8 c ++ f) = append_assoc p (0x3A ∷ []) (encode_utf8 c ++ f) in
    record {
      rest = (p ++ 0x3A ∷ []) ++ (encode_utf8 c ++ f);
      name = record { prefix = p; local = m.name };
      past = m.after;
      opens = append_assoc (0x3C ∷ (p ++ 0x3A ∷ [])) (encode_utf8 c) f;
      names = prefixed (subst (λ z. NcNameAt z p (0x3A ∷ (encode_utf8 c ++ f))) (sym parts) (before_colon p (encode_utf8 c ++ f) h)) m.is;
    }

-- and with no other one none stands
unnamed_at : (p w : List ℕ) → IsNcName p → ((n after : List ℕ) → NcNameAt w n after → ⊥) → (name : QualifiedName) (past : List ℕ) → QNameAt (p ++ 0x3A ∷ w) name past → ⊥
unnamed_at p w h none name past (unprefixed a other) = other w (ncname_unique a (before_colon p w h)).1
unnamed_at p w h none name past (prefixed {rest = rest} {local = l} a b) =
    none l past (subst (λ z. NcNameAt z l past) (same_others (ncname_unique a (before_colon p w h)).1) b)

no_name_in_none : {n after : List ℕ} → NcNameAt [] n after → ⊥
no_name_in_none {n} {after} a =
    let (d, ds, is, first, goes) = a.lawful in
    omega (arith, ap length a.parts, length-append n after, ap length (sym is), length-append (encode_utf8 d) (encode_utf8_all ds), length-encode d, len_utf8_bounds d)

abbrev pub IsNameless : List ℕ → Type 0
IsNameless bs = (rest past : List ℕ) (name : QualifiedName) → bs ≡ 0x3C ∷ rest → QNameAt rest name past → ⊥

pub unnamed_behind : (p : List ℕ) (c : ℕ) (f : List ℕ) → IsNcName p → is_ncname_start c ≡ false → IsNameless (((0x3C ∷ (p ++ 0x3A ∷ [])) ++ encode_utf8 c) ++ f)
unnamed_behind p c f h out rest past name e q =
    let parts : rest ≡ p ++ 0x3A ∷ (encode_utf8 c ++ f) = same_others (sym e ∙ (append_assoc (0x3C ∷ (p ++ 0x3A ∷ [])) (encode_utf8 c) f ∙ ap (λ w. 0x3C ∷ w) (append_assoc p (0x3A ∷ []) (encode_utf8 c ++ f)))) in
    unnamed_at p (encode_utf8 c ++ f) h (λ n after a. true≢false (sym (ncname_starts c f refl a) ∙ out)) name past (subst (λ z. QNameAt z name past) parts q)

pub unnamed_last : (p : List ℕ) → IsNcName p → IsNameless (0x3C ∷ (p ++ 0x3A ∷ []))
unnamed_last p h rest past name e q = unnamed_at p [] h (λ n after a. no_name_in_none a) name past (subst (λ z. QNameAt z name past) (same_others (sym e)) q)

-- a name with which the text ends
pub named_last : (n : List ℕ) → IsNcName n → IsNamed (0x3C ∷ n)
named_last n h = record {
  rest = n;
  name = record { prefix = []; local = n };
  past = [];
  opens = refl;
  names = unprefixed (record { lawful = h; parts = sym (append-nil n); longest = λ c r e k. omega (arith, ap length e, length-append (encode_utf8 c) r, length-encode c, len_utf8_bounds c) })
      (λ r e. omega (arith, ap length e));
}

-- what comes of it

place_here : (n : ℕ) (w : List ℕ) → place_of (n + length w) w ≡ n
place_here n w = omega arith

deep_there : {total : ℕ} {ls : List Level} {outer : List Bound} {run bs : List ℕ} → depth_left ls ≡ 0 → IsNamed bs → Goes total ls outer run bs (refused too_deep (place_of total bs))
deep_there {total} {ls} {outer} {run} z q = subst (λ w. Goes total ls outer run w (refused too_deep (place_of total w))) (sym q.opens) (deep z q.names)

pub deep_step : (n : ℕ) (item r : List ℕ) (ls : List Level) (outer : List Bound) (run : List ℕ) (o : Outcome) → IsChars item → depth_left ls ≡ 0 → ((f : List ℕ) → IsNamed (item ++ f))
    → StillComes n phases.Content (open_in ls outer run) (item ++ r) o ↔ (o ≡ refused too_deep n)
deep_step n item r ls outer run o chars z named =
    refused_step n item r phases.Content (open_in ls outer run) too_deep n o chars
    (λ f y.
    let same : refused too_deep (place_of (n + length (item ++ f)) (item ++ f)) ≡ refused too_deep n = ap (refused too_deep) (place_here n (item ++ f)) in
    let over = over_final y (deep_there z (named f)) in
    ((λ g. over.0 g ∙ same), (λ e. over.1 (e ∙ sym same))))

pub deep_last : (n : ℕ) (item r : List ℕ) (ls : List Level) (outer : List Bound) (run : List ℕ) (o : Outcome) → IsChars item → BeginsNoChar r → depth_left ls ≡ 0 → IsNamed item
    → StillComes n phases.Content (open_in ls outer run) (item ++ r) o ↔ (o ≡ refused too_deep n)
deep_last n item r ls outer run o chars last z named =
    last_refused n item r phases.Content (open_in ls outer run) too_deep n o chars last
    (λ y.
    let same : refused too_deep (place_of (n + length item) item) ≡ refused too_deep n = ap (refused too_deep) (place_here n item) in
    let over = over_final y (deep_there z named) in
    ((λ g. over.0 g ∙ same), (λ e. over.1 (e ∙ sym same))))

-- or nothing

nothing_deep : {total : ℕ} {ls : List Level} {outer : List Bound} {run bs : List ℕ} {o : Outcome} → depth_left ls ≡ 0 → (s : Starts bs) → IsNameless bs → AtTag total ls outer run bs o → ⊥
nothing_deep none s n (starts z g u m k) = omega (arith, none, z)
nothing_deep none s n (stands_alone z g u m k) = omega (arith, none, z)
nothing_deep none s n (ends (closes_one c u k)) = start_no_slash s c.opens
nothing_deep none s n (is_deep {rest = rest} {past_name = past} {name = name} z i q e) = n rest past name i q
nothing_deep none s n (is_refused z k l e) = omega (arith, none, z)
nothing_deep none s n (is_long long y) = long_deep none s long
nothing_deep none s n (has_many z g k u w y) = omega (arith, none, z)

pub nothing_deep_step : (n : ℕ) (item r : List ℕ) (ls : List Level) (outer : List Bound) (run : List ℕ) (o : Outcome) → IsChars item → depth_left ls ≡ 0 → Starts item → ((f : List ℕ) → IsNameless (item ++ f))
    → StillComes n phases.Content (open_in ls outer run) (item ++ r) o → ⊥
nothing_deep_step n item r ls outer run o chars z s none =
    nothing_step n item r phases.Content (open_in ls outer run) o chars (λ f k g. let there = starts_kept f s in nothing_deep z there (none f) (at_tag (start_kind there) g))

pub nothing_deep_last : (n : ℕ) (item r : List ℕ) (ls : List Level) (outer : List Bound) (run : List ℕ) (o : Outcome) → IsChars item → BeginsNoChar r → depth_left ls ≡ 0 → Starts item → IsNameless item
    → StillComes n phases.Content (open_in ls outer run) (item ++ r) o → ⊥
nothing_deep_last n item r ls outer run o chars last z s none =
    last_step n item r phases.Content (open_in ls outer run) o chars last (λ g. nothing_deep z s none (at_tag (start_kind s) g))
