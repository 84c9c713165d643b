-- What a layer of a name class or a pattern is, seen as plain data.
use Rattle.std.proofs.Common.{◌≡◌, ℕ, ◌+◌, ◌<◌, List, [], ◌∷◌, ◌++◌, refl, ap, ◌∙◌, sym, map, Bor, length, get_or, drop}
use Rattle.std.proofs.lemmas.List.{drop_more}
use Rattle.tc_base.specs.declared.Place.{Place}
use Rattle.tc_model.specs.Views.{name, place}
use Rattle.tc_model.specs.declared.tree.Name.{Name}
use Rattle.tc_model.specs.CompactSyntaxTrees as t
use Rattle.tc_model.specs.CompactSyntaxTrees.{SyntaxClass, SyntaxClasses, no_class, SyntaxPattern, SyntaxPatterns, no_more, more}
use Rattle.tc_rnc.specs.Views.{token, tokens, class_list, class_layer, class, classes, pattern_list, pattern_layer, pattern, patterns, definition}
use Rattle.tc_rnc.specs.declared.tokens.Token.{Token}
use Rattle.tc_rnc.specs.declared.syntax.SClass.{SClass}
use Rattle.tc_rnc.specs.declared.syntax.SClass.TheOpen as class_parts
use Rattle.tc_rnc.specs.declared.syntax.SClass.TheVariants as class_variants
use Rattle.tc_rnc.specs.declared.syntax.SClass.TheFolds.{fold-roll-SClass}
use Rattle.tc_rnc.specs.declared.syntax.SPat.{SPat}
use Rattle.tc_rnc.specs.declared.syntax.SPat.TheOpen as parts
use Rattle.tc_rnc.specs.declared.syntax.SPat.TheVariants as v
use Rattle.tc_rnc.specs.declared.syntax.SPat.TheFolds.{fold-roll-SPat}
use Rattle.tc_rnc.specs.declared.syntax.Def.{Def}

pub classes_map : (cs : List SClass) → class_list (map class cs) ≡ classes cs
classes_map [] = refl
classes_map (x ∷ xs) = ap (t.class (class x)) (classes_map xs)

pub see_name : (n : Name) → class (class_variants.Name n) ≡ t.of_name (name n)
see_name n = ap class (sym (class_variants.rolls-Name n)) ∙ fold-roll-SClass SyntaxClass class_layer (class_parts.Name n)

pub see_ns : (p : Place) (uri : Bor (List ℕ)) (except : Bor (List SClass)) → class (class_variants.Ns p uri except) ≡ t.of_namespace (place p) uri.now (classes except.now)
see_ns p uri except =
    ap class (sym (class_variants.rolls-Ns p uri except))
    ∙ (fold-roll-SClass SyntaxClass class_layer (class_parts.Ns p uri except) ∙ ap (t.of_namespace (place p) uri.now) (classes_map except.now))

pub see_any : (p : Place) (except : Bor (List SClass)) → class (class_variants.Any p except) ≡ t.any_name (place p) (classes except.now)
see_any p except =
    ap class (sym (class_variants.rolls-Any p except))
    ∙ (fold-roll-SClass SyntaxClass class_layer (class_parts.Any p except) ∙ ap (t.any_name (place p)) (classes_map except.now))

pub see_one_of : (cs : Bor (List SClass)) → class (class_variants.Choice cs) ≡ t.one_of (classes cs.now)
see_one_of cs =
    ap class (sym (class_variants.rolls-Choice cs)) ∙ (fold-roll-SClass SyntaxClass class_layer (class_parts.Choice cs) ∙ ap t.one_of (classes_map cs.now))

pub ruleset see_class = (see_name, see_ns, see_any, see_one_of)

-- one step of a loop over a slice: what is left begins with the class x
pub left_class : (cs : List SClass) (i : ℕ) (x : SClass) → i < length cs → x ≡ get_or cs i x → classes (drop i cs) ≡ t.class (class x) (classes (drop (i + 1) cs))
left_class cs i x h e = ap classes (drop_more cs i x h) ∙ ap (λ y. t.class (class y) (classes (drop (i + 1) cs))) (sym e)

-- the classes of the first, and then those of the second
abbrev pub classes_then : SyntaxClasses → SyntaxClasses → SyntaxClasses
classes_then no_class ds = ds
classes_then (t.class x cs) ds = t.class x (classes_then cs ds)

pub classes_append : (cs ds : List SClass) → classes (cs ++ ds) ≡ classes_then (classes cs) (classes ds)
classes_append [] ds = refl
classes_append (x ∷ xs) ds = ap (t.class (class x)) (classes_append xs ds)

pub pushed_class : (cs : List SClass) (x : SClass) → classes (cs ++ x ∷ []) ≡ classes_then (classes cs) (t.class (class x) no_class)
pushed_class cs x = classes_append cs (x ∷ [])

pub classes_then_none : (cs : SyntaxClasses) → classes_then cs no_class ≡ cs
classes_then_none no_class = refl
classes_then_none (t.class x cs) = ap (t.class x) (classes_then_none cs)

pub classes_then_assoc : (a b d : SyntaxClasses) → classes_then (classes_then a b) d ≡ classes_then a (classes_then b d)
classes_then_assoc no_class b d = refl
classes_then_assoc (t.class x a) b d = ap (t.class x) (classes_then_assoc a b d)

pub patterns_map : (ps : List SPat) → pattern_list (map pattern ps) ≡ patterns ps
patterns_map [] = refl
patterns_map (q ∷ qs) = ap (more (pattern q)) (patterns_map qs)

pub see_empty : pattern v.Empty ≡ t.empty
see_empty = ap pattern (sym v.rolls-Empty) ∙ fold-roll-SPat SyntaxPattern pattern_layer parts.Empty

pub see_not_allowed : pattern v.NotAllowed ≡ t.not_allowed
see_not_allowed = ap pattern (sym v.rolls-NotAllowed) ∙ fold-roll-SPat SyntaxPattern pattern_layer parts.NotAllowed

pub see_text : pattern v.Text ≡ t.text
see_text = ap pattern (sym v.rolls-Text) ∙ fold-roll-SPat SyntaxPattern pattern_layer parts.Text

pub see_attribute : pattern v.Attribute ≡ t.attribute
see_attribute = ap pattern (sym v.rolls-Attribute) ∙ fold-roll-SPat SyntaxPattern pattern_layer parts.Attribute

pub see_ref : (n : Bor (List ℕ)) (p : Place) → pattern (v.Ref n p) ≡ t.ref n.now (place p)
see_ref n p = ap pattern (sym (v.rolls-Ref n p)) ∙ fold-roll-SPat SyntaxPattern pattern_layer (parts.Ref n p)

pub see_element : (p : Place) (c : SClass) (q : Bor SPat) → pattern (v.Element p c q) ≡ t.element (place p) (class c) (pattern q.now)
see_element p c q = ap pattern (sym (v.rolls-Element p c q)) ∙ fold-roll-SPat SyntaxPattern pattern_layer (parts.Element p c q)

pub see_mixed : (q : Bor SPat) → pattern (v.Mixed q) ≡ t.mixed (pattern q.now)
see_mixed q = ap pattern (sym (v.rolls-Mixed q)) ∙ fold-roll-SPat SyntaxPattern pattern_layer (parts.Mixed q)

pub see_optional : (q : Bor SPat) → pattern (v.Optional q) ≡ t.optional (pattern q.now)
see_optional q = ap pattern (sym (v.rolls-Optional q)) ∙ fold-roll-SPat SyntaxPattern pattern_layer (parts.Optional q)

pub see_zero_or_more : (q : Bor SPat) → pattern (v.ZeroOrMore q) ≡ t.zero_or_more (pattern q.now)
see_zero_or_more q = ap pattern (sym (v.rolls-ZeroOrMore q)) ∙ fold-roll-SPat SyntaxPattern pattern_layer (parts.ZeroOrMore q)

pub see_one_or_more : (q : Bor SPat) → pattern (v.OneOrMore q) ≡ t.one_or_more (pattern q.now)
see_one_or_more q = ap pattern (sym (v.rolls-OneOrMore q)) ∙ fold-roll-SPat SyntaxPattern pattern_layer (parts.OneOrMore q)

pub see_group : (ps : Bor (List SPat)) → pattern (v.Group ps) ≡ t.group (patterns ps.now)
see_group ps = ap pattern (sym (v.rolls-Group ps)) ∙ (fold-roll-SPat SyntaxPattern pattern_layer (parts.Group ps) ∙ ap t.group (patterns_map ps.now))

pub see_choice : (ps : Bor (List SPat)) → pattern (v.Choice ps) ≡ t.choice (patterns ps.now)
see_choice ps = ap pattern (sym (v.rolls-Choice ps)) ∙ (fold-roll-SPat SyntaxPattern pattern_layer (parts.Choice ps) ∙ ap t.choice (patterns_map ps.now))

pub see_interleave : (ps : Bor (List SPat)) → pattern (v.Interleave ps) ≡ t.interleave (patterns ps.now)
see_interleave ps = ap pattern (sym (v.rolls-Interleave ps)) ∙ (fold-roll-SPat SyntaxPattern pattern_layer (parts.Interleave ps) ∙ ap t.interleave (patterns_map ps.now))

pub ruleset see_pattern = (see_empty, see_not_allowed, see_text, see_attribute, see_ref, see_element, see_mixed, see_optional, see_zero_or_more, see_one_or_more, see_group, see_choice, see_interleave)

-- one step of a loop over a slice: what is left begins with the pattern x
pub left_pattern : (ps : List SPat) (i : ℕ) (x : SPat) → i < length ps → x ≡ get_or ps i x → patterns (drop i ps) ≡ more (pattern x) (patterns (drop (i + 1) ps))
left_pattern ps i x h e = ap patterns (drop_more ps i x h) ∙ ap (λ y. more (pattern y) (patterns (drop (i + 1) ps))) (sym e)

-- the patterns of the first, and then those of the second
abbrev pub patterns_then : SyntaxPatterns → SyntaxPatterns → SyntaxPatterns
patterns_then no_more qs = qs
patterns_then (more x ps) qs = more x (patterns_then ps qs)

pub patterns_append : (ps qs : List SPat) → patterns (ps ++ qs) ≡ patterns_then (patterns ps) (patterns qs)
patterns_append [] qs = refl
patterns_append (p ∷ ps) qs = ap (more (pattern p)) (patterns_append ps qs)

pub pushed_pattern : (ps : List SPat) (x : SPat) → patterns (ps ++ x ∷ []) ≡ patterns_then (patterns ps) (more (pattern x) no_more)
pushed_pattern ps x = patterns_append ps (x ∷ [])

pub patterns_then_none : (ps : SyntaxPatterns) → patterns_then ps no_more ≡ ps
patterns_then_none no_more = refl
patterns_then_none (more x ps) = ap (more x) (patterns_then_none ps)

pub patterns_then_assoc : (a b d : SyntaxPatterns) → patterns_then (patterns_then a b) d ≡ patterns_then a (patterns_then b d)
patterns_then_assoc no_more b d = refl
patterns_then_assoc (more x a) b d = ap (more x) (patterns_then_assoc a b d)

pub tokens_append : (xs ys : List Token) → tokens (xs ++ ys) ≡ tokens xs ++ tokens ys
tokens_append [] ys = refl
tokens_append (x ∷ xs) ys = ap (λ z. token x ∷ z) (tokens_append xs ys)

pub pushed_definition : (ds : List Def) (d : Def) → map definition (ds ++ d ∷ []) ≡ map definition ds ++ definition d ∷ []
pushed_definition [] d = refl
pushed_definition (x ∷ ds) d = ap (λ z. definition x ∷ z) (pushed_definition ds d)
