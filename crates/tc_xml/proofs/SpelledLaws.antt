-- What is remembered of names as they are written.
use Rattle.std.proofs.Common.{◌≡◌, ℕ, ◌≤◌, ◌<◌, List, [], ◌∷◌, ◌++◌, refl, ap, ◌∙◌, sym, subst, map, length, arith, length-append, inl, Option, IfSome, All}
use Rattle.std.specs.List.{IsDistinct}
use Rattle.std.proofs.lemmas.List.{nil_from_length}
use Rattle.std.proofs.lemmas.List.Elements.{All-nil, All-weaker}
use Rattle.std.proofs.lemmas.Option.{IfSome_then}
use Rattle.tc_model.specs.RawTrees.{Bound}
use Rattle.tc_model.specs.Names.{ExpandedName}
use Rattle.tc_model.specs.Views.{name, bound as seen_bound}
use Rattle.tc_model.specs.XmlTextBytes.{after_white}
use Rattle.tc_model.specs.XmlTextNames.{QualifiedName, QNameAt}
use Rattle.tc_model.specs.XmlTextScopes.{ElementName, bound, unbound, uri_of}
use Rattle.tc_scan.specs.Views.{written_name}
use Rattle.tc_xml.specs.Bindings.{Declares, TakesBack, shown, now_bound, hidden}
use Rattle.tc_xml.specs.PlainTags.{TagRead}
use Rattle.tc_xml.specs.Spelled.{MeansBy, IsRight, AreRight, IsNameAlone}
use Rattle.tc_xml.specs.declared.bindings.Bindings.{Bindings}
use Rattle.tc_xml.specs.declared.plain_tags.Tag.{Tag}
use Rattle.tc_xml.specs.declared.spelled.Spelled.{Spelled}
use Rattle.tc_xml.specs.declared.spelled.SpelledNames.{SpelledNames}
use Rattle.tc_xml.proofs.BindingLaws.{all_back, declares_none, tells_alike}
use Rattle.tc_xml.proofs.PlainTagLaws.{a_tag, all_read, read_none}

-- bindings that show the same
pub right_alike : (bs cs : List Bound) (known : SpelledNames) → ((p : List ℕ) → shown cs p ≡ shown bs p) → AreRight bs known → AreRight cs known
right_alike bs cs known same r = record {
  all = All-weaker (λ (o : Option Spelled). IfSome o (λ (s : Spelled). IsRight bs known.changes s)) (λ (o : Option Spelled). IfSome o (λ (s : Spelled). IsRight cs known.changes s))
      (λ o h. IfSome_then o h (λ s i. record { earlier = i.earlier; means = λ e scope t. i.means e scope (tells_alike (λ p. sym (same p)) t) })) known.places.items r.all;
}

-- other bindings, later
pub right_later : (bs cs : List Bound) (old new : SpelledNames) → new.places.items ≡ old.places.items → old.changes < new.changes → AreRight bs old → AreRight cs new
right_later bs cs old new same later r = record {
  all = subst (All (λ (o : Option Spelled). IfSome o (λ (s : Spelled). IsRight cs new.changes s))) (sym same)
      (All-weaker (λ (o : Option Spelled). IfSome o (λ (s : Spelled). IsRight bs old.changes s)) (λ (o : Option Spelled). IfSome o (λ (s : Spelled). IsRight cs new.changes s))
      (λ o h. IfSome_then o h (λ s i. later_one s i.earlier)) old.places.items r.all);
}
  where
    later_one : (s : Spelled) → s.changes ≤ old.changes → IsRight cs new.changes s
    later_one s l = record { earlier = omega (arith, l, later); means = λ e. absurd (omega (arith, l, later, e)) }

-- where nothing is remembered
pub right_none : (cs : List Bound) (new : SpelledNames) → new.places.items ≡ [] → AreRight cs new
right_none cs new none = record { all = subst (All (λ (o : Option Spelled). IfSome o (λ (s : Spelled). IsRight cs new.changes s))) (sym none) (All-nil (λ (o : Option Spelled). IfSome o (λ (s : Spelled). IsRight cs new.changes s))) }

-- a tag that is a name which is remembered
pub name_alone : (bounds : List Bound) (text start inside : List ℕ) (tag : Tag) → text ≡ 0x3C ∷ start → tag.rest.now ≡ 0x3E ∷ inside → length tag.rest.now ≤ length start
    → ((bs past after : List ℕ) → QNameAt bs (written_name tag.written) past → tag.rest.now ≡ 0x3E ∷ after → QNameAt start (written_name tag.written) tag.rest.now)
    → MeansBy bounds (written_name tag.written) (name tag.name) → IsNameAlone bounds text tag
name_alone bounds text start inside tag e f l again means = record {
  start = start;
  inside = inside;
  opens = e;
  ends = f;
  within = l;
  reads = λ scope t. let m = means scope t in again m.bytes m.past inside m.reads f;
  means = λ scope t. (means scope t).names;
}

-- is read, and declares nothing
pub alone_read : (total : ℕ) (b : Bindings) (text : List ℕ) (tag : Tag) → IsNameAlone (now_bound b) text tag → TagRead total b text tag b
unfolding IsDistinct
alone_read total b text tag a =
    let rest = tag.rest.now in
    record {
      shorter = omega (arith, ap length a.opens, a.within);
      declares = declares_none b;
      reads = λ outer t.
          a_tag total b b text a.start rest rest (written_name tag.written) (name tag.name) [] [] a.opens (a.reads outer t)
          (all_read rest (read_none total b rest [] refl) (a.ends ∙ sym (ap after_white a.ends)) (inl (a.inside, a.ends))) a.means (λ scope k. refl) tt outer t;
    }

-- the expanded name of an element in a scope that binds the same
name_alike : {a b : List Bound} {w : QualifiedName} {n : ExpandedName} → ((p : List ℕ) → uri_of a p ≡ uri_of b p) → ElementName a w n → ElementName b w n
name_alike {w = w} same (bound e) = bound (sym (same w.prefix) ∙ e)
name_alike same (unbound h e) = unbound h (sym (same []) ∙ e)

-- where as many declarations are in scope, nothing was declared
pub none_declared : {old new : Bindings} → Declares old new → length (hidden new) ≡ length (hidden old) → (p : List ℕ) → shown (now_bound new) p ≡ shown (now_bound old) p
none_declared {old = old} {new = new} d count p = sym (ap (λ w. shown (map seen_bound w ++ now_bound new) p) none) ∙ d.before p
  where
    none : d.more ≡ []
    none = nil_from_length d.more (omega (arith, count, ap length d.keeps, length-append (hidden old) d.more))

-- then the name of a tag that was read means the same wherever the same is told
pub read_means : (old new : Bindings) (text : List ℕ) (tag : Tag) → length (hidden new) ≡ length (hidden old) → TagRead 0 old text tag new → MeansBy (now_bound new) (written_name tag.written) (name tag.name)
read_means old new text tag count r = λ scope t.
    let same : (p : List ℕ) → shown (now_bound new) p ≡ shown (now_bound old) p = none_declared r.declares count in
    let (inner, x, told, a) = r.reads scope (tells_alike (λ p. sym (same p)) t) in
    record { bytes = a.rest; past = a.past_name; reads = a.names; names = name_alike (λ p. sym (told.tells p) ∙ t.tells p) a.means.names }

-- nothing is taken back
pub takes_none : (b : Bindings) (count : ℕ) → length (hidden b) ≡ count → TakesBack b count b
takes_none b count e =
    let (all, none) = all_back count (hidden b) (omega (arith, e)) in
    record { keeps = sym all; binds = λ p. sym (ap (λ w. uri_of (map seen_bound w ++ now_bound b) p) none) }
