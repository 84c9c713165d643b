-- An element whose tag is a name alone is gone into, and what its tag means.
use Rattle.std.proofs.Common.{◌≡◌, inl, ℕ, ◌+◌, ◌<◌, ◌≤◌, Bool, false, if◌then◌else◌, codes, get_or, length-append, List, [], ◌∷◌, ◌++◌, refl, ap, ◌∙◌, sym, subst, map, length, take, drop, arith, append-nil, append_assoc}
use Rattle.std.specs.List.{AllByRecursion, IsDistinct}
use Rattle.std.proofs.lemmas.Bool.{true≢false}
use Rattle.std.proofs.lemmas.List.{take_at}
use Rattle.tc_model.specs.Names.{ExpandedName}
use Rattle.tc_model.specs.RawTrees.{Attribute, Bound}
use Rattle.tc_model.specs.XmlTextContent.{AttributesAt}
use Rattle.tc_model.specs.XmlTextContent as content
use Rattle.tc_model.specs.XmlTextNames.{NcNameAt, QualifiedName, unprefixed}
use Rattle.tc_model.specs.XmlTextScopes.{TagMeans, ElementName, no_more}
use Rattle.tc_tags.specs.Bindings.{Binds}
use Rattle.tc_tags.specs.Forms.{FormRead}
use Rattle.tc_tags.specs.Spans.{at_span}
use Rattle.tc_tags.specs.Written.{binding_in}
use Rattle.tc_tags.specs.XmlTextTags.{TagFormAt, written_length, names_length}
use Rattle.tc_tags.specs.declared.names.Span.{Span}
use Rattle.tc_tags.specs.declared.scopes.Declared.{Declared}
use Rattle.tc_tags.specs.declared.tags.Form.{Form}
use Rattle.tc_tags.proofs.AddingLaws.{kept_behind}
use Rattle.tc_tags.proofs.NameBytes.{ends_name}
use Rattle.tc_tags.proofs.TagLaws.{open_end}
use Rattle.tc_stream.specs.Goes.{Level, used}
use Rattle.tc_stream.specs.Keeps.{AreOpen, AreTexts, Enters, IsText, Starts, entered}
use Rattle.tc_stream.specs.Named.{alone, local_name, tag_of, IsTagOf}
use Rattle.tc_stream.specs.TagStands.{IsStartTag}
use Rattle.tc_stream.specs.WholeTags.{IsWholeStart}
use Rattle.tc_stream.specs.XmlTextMeasures.{most_names}
use Rattle.tc_stream.specs.declared.elements.Elements.{Elements}
use Rattle.tc_stream.specs.declared.elements.Level as code
use Rattle.tc_stream.proofs.EnterLaws.{Added, added_so, added_names, goes_in, holds_in, same_name, local_text, all_texts, texts_kept}
use Rattle.tc_stream.proofs.KeepsLaws.{names_used, open_deep}
use Rattle.tc_stream.proofs.LongLaws.{tag_starts}
use Rattle.tc_stream.proofs.TagEndLaws.{tag_scanned}

-- a name alone is added, within elements that are open
pub record Names (tag : List ℕ) (f : Form) (n : QualifiedName) (names now : List ℕ) (declared : List Declared) (chains : List ℕ) (cs : List code.Level) (c : code.Level) (ls : List Level) (outer : List Bound) : Type 0 where
  pub read : FormRead tag f (alone n)
  pub more : List ℕ
  pub bytes : now ≡ names ++ more
  pub added : Added (alone n) names now declared declared chains c
  pub around : AreOpen names declared chains cs ls outer

pub named : {tag : List ℕ} {f : Form} {n : QualifiedName} {names now : List ℕ} {declared : List Declared} {chains : List ℕ} {cs : List code.Level} {ls : List Level} {outer : List Bound} (s : Span) (c : code.Level)
    → FormRead tag f (alone n) → AreOpen names declared chains cs ls outer → s.start ≡ 1 → s.length ≡ written_length n → now ≡ names ++ at_span s tag
    → c.name.start ≡ length names → c.name.length ≡ length (at_span s tag) → c.names ≡ length names → c.declared ≡ length declared → Names tag f n names now declared chains cs c ls outer
named {tag} {names = names} {declared = declared} s c r k one long e start has before count = record {
  read = r;
  more = at_span s tag;
  bytes = e;
  added = added_so s c r one long (record { bytes = e ∙ sym (append-nil (names ++ at_span s tag)); more = []; behind = sym (append-nil declared); bindings = refl; within = tt }) (kept_behind (at_span s tag) k.kept e) start has before count;
  around = k;
}

module _ {tag : List ℕ} {f : Form} {n : QualifiedName} {names now : List ℕ} {declared : List Declared} {chains : List ℕ} {cs : List code.Level} {c : code.Level} {ls : List Level} {outer : List Bound} (m : Names tag f n names now declared chains cs c ls outer) where
  binds : Binds (map (binding_in now) declared) outer
  binds = (holds_in outer m.added m.around.holds m.around.kept.within).binds

  pub named_open : (x : ExpandedName) → length cs < 2000 → AreOpen now declared chains (cs ++ c ∷ []) (entered (alone n) x outer ∷ ls) outer
  named_open x low = goes_in x m.around m.added (omega arith) low (open_deep m.around)

  pub named_texts : AllByRecursion (IsText names) declared → AllByRecursion (IsText now) declared
  named_texts h = subst (λ z. AllByRecursion (IsText z) declared) (sym m.bytes) (texts_kept names m.more declared m.around.kept.within h)

  pub named_fits : length now ≤ 65536 → names_length (alone n) + used ls ≤ most_names
  named_fits short =
      let all = added_names m.added in
      let before = names_used m.around in
      omega (arith, all, before, short)

  pub named_means : {x : ExpandedName} → AllByRecursion (IsText names) declared → ((scope : List Bound) → AreTexts now declared → Binds (map (binding_in now) declared) scope → ElementName scope n x) → TagMeans outer n [] outer x []
  unfolding IsDistinct
  named_means {x} h k = record { once = tt; no_space = refl; scopes = refl; names = k outer (all_texts now declared (named_texts h)) binds; expands = no_more; expanded_once = tt }

-- it isn't an empty-element tag
pub opened : {old new : Elements} {ls : List Level} {outer : List Bound} {n : QualifiedName} (b : Bool) → b ≡ false → Enters old new ls outer (alone n) → Starts old new ls outer (alone n) b
opened b is o = record {
  scope = o.scope;
  name = o.name;
  expanded = o.expanded;
  means = o.means;
  few = o.few;
  opens = λ e run. o.keeps run;
  bare = λ e. absurd (true≢false (sym e ∙ is));
  steps_open = λ e x run w. o.steps x run w;
  steps_bare = λ e. absurd (true≢false (sym e ∙ is));
  valid = λ e. absurd (true≢false (sym e ∙ is));
}

-- where the name stands in the tag of a name alone
pub span_local : (local : List ℕ) → at_span (record { start = 1; length = length local }) (tag_of local) ≡ local
span_local local = take_at local (0x3E ∷ []) (length local) refl

-- a name alone at the front of a text

module _ {text rest after inside local : List ℕ} (count : ℕ) (is : text ≡ 0x3C ∷ rest) (name : NcNameAt rest local after) (ends : after ≡ 0x3E ∷ inside) (long : count ≡ length local + 2) where
  whole : text ≡ tag_of local ++ inside
  whole = is ∙ ap (λ z. 0x3C ∷ z) (name.parts ∙ (ap (λ z. local ++ z) ends ∙ sym (append_assoc local (0x3E ∷ []) inside)))

  same : take count text ≡ tag_of local
  same = ap (take count) whole ∙ take_at (tag_of local) inside count (omega (arith, long, length-append local (0x3E ∷ [])))

  form : TagFormAt false (length (tag_of local)) (tag_of local) (alone (local_name local)) (0x3E ∷ [])
  form = record {
    rest = local ++ 0x3E ∷ [];
    past_name = 0x3E ∷ [];
    opens = refl;
    names =
        unprefixed (record { lawful = name.lawful; parts = refl; longest = ends_name 0x3E [] (omega arith) refl })
        (λ r e. omega (arith, ap (λ w. get_or w 0 0) e));
    lists = content.no_more (inl ([], refl));
    no_space = refl;
  }

  starts : IsStartTag (tag_of local)
  starts =
      let s = tag_starts form.opens form.names in
      record { char = s.char; rest = s.rest; opens = s.opens; starts = s.starts; ends = tag_scanned form (open_end refl) }

  pub alone_whole : count ≤ 65536 → IsWholeStart text count
  alone_whole short = record {
    some = omega (arith, long);
    low = omega (arith, long, ap length whole, length-append (tag_of local) inside, length-append local (0x3E ∷ []));
    short = short;
    tag = subst IsStartTag (sym same) starts;
  }

  pub alone_read : IsTagOf local (take count text)
  alone_read = record { tag_is = same; read = record { form = form; name = record { prefix = refl; local = span_local local } } }
