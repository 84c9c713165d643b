-- What a layer of a name class or a pattern is, seen as plain data.
use Rattle.std.proofs.Common.{◌≡◌, ℕ, ◌+◌, ◌<◌, List, [], ◌∷◌, ◌++◌, refl, ap, ◌∙◌, sym, map, Bor, length, get_or, drop}
use Rattle.std.proofs.lemmas.List.{drop_more}
use Rattle.tc_model.specs.Grammars as g
use Rattle.tc_model.specs.Grammars.{NameClass, NameClasses, no_class, Pattern, Patterns, no_more, more}
use Rattle.tc_model.specs.Views.{name, class_list, class_layer, class, classes, pattern_list, pattern_layer, pattern, patterns}
use Rattle.tc_model.specs.declared.tree.Name.{Name}
use Rattle.tc_model.specs.declared.grammar.NameClass as c
use Rattle.tc_model.specs.declared.grammar.NameClass.TheOpen as class_parts
use Rattle.tc_model.specs.declared.grammar.NameClass.TheVariants as class_variants
use Rattle.tc_model.specs.declared.grammar.NameClass.TheFolds.{fold-roll-NameClass}
use Rattle.tc_model.specs.declared.grammar.Pat.{Pat}
use Rattle.tc_model.specs.declared.grammar.Pat.TheOpen as parts
use Rattle.tc_model.specs.declared.grammar.Pat.TheVariants as v
use Rattle.tc_model.specs.declared.grammar.Pat.TheFolds.{fold-roll-Pat}

pub classes_map : (cs : List c.NameClass) → class_list (map class cs) ≡ classes cs
classes_map [] = refl
classes_map (x ∷ xs) = ap (g.class (class x)) (classes_map xs)

pub see_name : (n : Name) → class (class_variants.Name n) ≡ g.of_name (name n)
see_name n = ap class (sym (class_variants.rolls-Name n)) ∙ fold-roll-NameClass NameClass class_layer (class_parts.Name n)

pub see_ns : (uri : Bor (List ℕ)) (except : Bor (List c.NameClass)) → class (class_variants.Ns uri except) ≡ g.of_namespace uri.now (classes except.now)
see_ns uri except =
    ap class (sym (class_variants.rolls-Ns uri except))
    ∙ (fold-roll-NameClass NameClass class_layer (class_parts.Ns uri except) ∙ ap (g.of_namespace uri.now) (classes_map except.now))

pub see_any : (except : Bor (List c.NameClass)) → class (class_variants.Any except) ≡ g.any_name (classes except.now)
see_any except =
    ap class (sym (class_variants.rolls-Any except)) ∙ (fold-roll-NameClass NameClass class_layer (class_parts.Any except) ∙ ap g.any_name (classes_map except.now))

pub see_one_of : (cs : Bor (List c.NameClass)) → class (class_variants.Choice cs) ≡ g.one_of (classes cs.now)
see_one_of cs =
    ap class (sym (class_variants.rolls-Choice cs)) ∙ (fold-roll-NameClass NameClass class_layer (class_parts.Choice cs) ∙ ap g.one_of (classes_map cs.now))

pub ruleset see_class = (see_name, see_ns, see_any, see_one_of)

-- one step of a loop over a slice: what is left begins with the class x
pub left_class : (cs : List c.NameClass) (i : ℕ) (x : c.NameClass) → i < length cs → x ≡ get_or cs i x → classes (drop i cs) ≡ g.class (class x) (classes (drop (i + 1) cs))
left_class cs i x h e = ap classes (drop_more cs i x h) ∙ ap (λ y. g.class (class y) (classes (drop (i + 1) cs))) (sym e)

-- the classes of the first, and then those of the second
abbrev pub classes_then : NameClasses → NameClasses → NameClasses
classes_then no_class ds = ds
classes_then (g.class x cs) ds = g.class x (classes_then cs ds)

pub classes_append : (cs ds : List c.NameClass) → classes (cs ++ ds) ≡ classes_then (classes cs) (classes ds)
classes_append [] ds = refl
classes_append (x ∷ xs) ds = ap (g.class (class x)) (classes_append xs ds)

pub pushed_class : (cs : List c.NameClass) (x : c.NameClass) → classes (cs ++ x ∷ []) ≡ classes_then (classes cs) (g.class (class x) no_class)
pushed_class cs x = classes_append cs (x ∷ [])

pub classes_then_none : (cs : NameClasses) → classes_then cs no_class ≡ cs
classes_then_none no_class = refl
classes_then_none (g.class x cs) = ap (g.class x) (classes_then_none cs)

pub classes_then_assoc : (a b d : NameClasses) → classes_then (classes_then a b) d ≡ classes_then a (classes_then b d)
classes_then_assoc no_class b d = refl
classes_then_assoc (g.class x a) b d = ap (g.class x) (classes_then_assoc a b d)

pub patterns_map : (ps : List Pat) → pattern_list (map pattern ps) ≡ patterns ps
patterns_map [] = refl
patterns_map (q ∷ qs) = ap (more (pattern q)) (patterns_map qs)

pub see_empty : pattern v.Empty ≡ g.empty
see_empty = ap pattern (sym v.rolls-Empty) ∙ fold-roll-Pat Pattern pattern_layer parts.Empty

pub see_not_allowed : pattern v.NotAllowed ≡ g.not_allowed
see_not_allowed = ap pattern (sym v.rolls-NotAllowed) ∙ fold-roll-Pat Pattern pattern_layer parts.NotAllowed

pub see_text : pattern v.Text ≡ g.text
see_text = ap pattern (sym v.rolls-Text) ∙ fold-roll-Pat Pattern pattern_layer parts.Text

pub see_ref : (k : ℕ) → pattern (v.Ref k) ≡ g.ref k
see_ref k = ap pattern (sym (v.rolls-Ref k)) ∙ fold-roll-Pat Pattern pattern_layer (parts.Ref k)

pub see_group : (ps : Bor (List Pat)) → pattern (v.Group ps) ≡ g.group (patterns ps.now)
see_group ps = ap pattern (sym (v.rolls-Group ps)) ∙ (fold-roll-Pat Pattern pattern_layer (parts.Group ps) ∙ ap g.group (patterns_map ps.now))

pub see_choice : (ps : Bor (List Pat)) → pattern (v.Choice ps) ≡ g.choice (patterns ps.now)
see_choice ps = ap pattern (sym (v.rolls-Choice ps)) ∙ (fold-roll-Pat Pattern pattern_layer (parts.Choice ps) ∙ ap g.choice (patterns_map ps.now))

pub see_interleave : (ps : Bor (List Pat)) → pattern (v.Interleave ps) ≡ g.interleave (patterns ps.now)
see_interleave ps = ap pattern (sym (v.rolls-Interleave ps)) ∙ (fold-roll-Pat Pattern pattern_layer (parts.Interleave ps) ∙ ap g.interleave (patterns_map ps.now))

pub see_one_or_more : (q : Bor Pat) → pattern (v.OneOrMore q) ≡ g.one_or_more (pattern q.now)
see_one_or_more q = ap pattern (sym (v.rolls-OneOrMore q)) ∙ fold-roll-Pat Pattern pattern_layer (parts.OneOrMore q)

pub ruleset see_pattern = (see_empty, see_not_allowed, see_text, see_ref, see_group, see_choice, see_interleave, see_one_or_more)

-- one step of a loop over a slice: what is left begins with the pattern x
pub left_pattern : (ps : List Pat) (i : ℕ) (x : Pat) → i < length ps → x ≡ get_or ps i x → patterns (drop i ps) ≡ more (pattern x) (patterns (drop (i + 1) ps))
left_pattern ps i x h e = ap patterns (drop_more ps i x h) ∙ ap (λ y. more (pattern y) (patterns (drop (i + 1) ps))) (sym e)

-- the patterns of the first, and then those of the second
abbrev pub patterns_then : Patterns → Patterns → Patterns
patterns_then no_more qs = qs
patterns_then (more x ps) qs = more x (patterns_then ps qs)

pub patterns_append : (ps qs : List Pat) → patterns (ps ++ qs) ≡ patterns_then (patterns ps) (patterns qs)
patterns_append [] qs = refl
patterns_append (p ∷ ps) qs = ap (more (pattern p)) (patterns_append ps qs)

pub pushed_pattern : (ps : List Pat) (x : Pat) → patterns (ps ++ x ∷ []) ≡ patterns_then (patterns ps) (more (pattern x) no_more)
pushed_pattern ps x = patterns_append ps (x ∷ [])

pub patterns_then_none : (ps : Patterns) → patterns_then ps no_more ≡ ps
patterns_then_none no_more = refl
patterns_then_none (more x ps) = ap (more x) (patterns_then_none ps)

pub patterns_then_assoc : (a b d : Patterns) → patterns_then (patterns_then a b) d ≡ patterns_then a (patterns_then b d)
patterns_then_assoc no_more b d = refl
patterns_then_assoc (more x a) b d = ap (more x) (patterns_then_assoc a b d)
