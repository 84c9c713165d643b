-- What contracts see of tokens and of syntax trees in an arena: the same data without addresses.
use Rattle.std.specs.Prelude.{List, [], ◌∷◌, map, take, drop}
use Rattle.tc_model.specs.Views.{name, place}
use Rattle.tc_model.specs.XmlTextBytes.{length_before}
use Rattle.tc_model.specs.CompactSyntaxTokens as m
use Rattle.tc_model.specs.CompactSyntaxTrees as t
use Rattle.std.specs.Option.{option_map}
use Rattle.tc_model.specs.CompactSyntaxUnread as u
use Rattle.tc_rnc.specs.declared.tokens.End.{End}
use Rattle.tc_rnc.specs.declared.tokens.Word.{Word}
use Rattle.tc_rnc.specs.declared.tokens.Word.TheVariants as words
use Rattle.tc_rnc.specs.declared.tokens.Token.{Token}
use Rattle.tc_rnc.specs.declared.syntax.SClass.{SClass, SClass-F}
use Rattle.tc_rnc.specs.declared.syntax.SClass.TheFolds.{fold-SClass}
use Rattle.tc_rnc.specs.declared.syntax.SClass.TheOpen as classes_of
use Rattle.tc_rnc.specs.declared.syntax.SPat.{SPat, SPat-F}
use Rattle.tc_rnc.specs.declared.syntax.SPat.TheFolds.{fold-SPat}
use Rattle.tc_rnc.specs.declared.syntax.SPat.TheOpen as pats
use Rattle.tc_rnc.specs.declared.syntax.Joins.{Joins}
use Rattle.tc_rnc.specs.declared.syntax.Joins.TheVariants as joining
use Rattle.tc_rnc.specs.declared.syntax.Def.{Def}
use Rattle.tc_rnc.specs.declared.syntax.Syntax.{Syntax}

abbrev pub word : Word → m.Word
word (words.Name n) = m.a_name n.now
word (words.Escaped n) = m.escaped n.now
word (words.Prefixed q) = m.prefixed (take (length_before (0x3A ∷ []) q.now) q.now) (drop 1 (drop (length_before (0x3A ∷ []) q.now) q.now))
word (words.AllOf p) = m.all_of p.now
word (words.Literal s) = m.literal s.now
word (words.LongLiteral s) = m.long_literal s.now
word (words.Mark c) = m.mark c

abbrev pub token : Token → m.Token
token x = record { word = word x.word; place = place x.place }

abbrev pub tokens : List Token → List m.Token
tokens [] = []
tokens (x ∷ xs) = token x ∷ tokens xs

abbrev pub class_list : List t.SyntaxClass → t.SyntaxClasses
class_list [] = t.no_class
class_list (c ∷ cs) = t.class c (class_list cs)

abbrev pub class_layer : SClass-F t.SyntaxClass → t.SyntaxClass
class_layer (classes_of.Name n) = t.of_name (name n)
class_layer (classes_of.Ns p uri except) = t.of_namespace (place p) uri.now (class_list except.now)
class_layer (classes_of.Any p except) = t.any_name (place p) (class_list except.now)
class_layer (classes_of.Choice cs) = t.one_of (class_list cs.now)

abbrev pub class : SClass → t.SyntaxClass
class = fold-SClass t.SyntaxClass class_layer

abbrev pub classes : List SClass → t.SyntaxClasses
classes [] = t.no_class
classes (c ∷ cs) = t.class (class c) (classes cs)

abbrev pub pattern_list : List t.SyntaxPattern → t.SyntaxPatterns
pattern_list [] = t.no_more
pattern_list (p ∷ ps) = t.more p (pattern_list ps)

abbrev pub pattern_layer : SPat-F t.SyntaxPattern → t.SyntaxPattern
pattern_layer pats.Empty = t.empty
pattern_layer pats.NotAllowed = t.not_allowed
pattern_layer pats.Text = t.text
pattern_layer pats.Attribute = t.attribute
pattern_layer (pats.Ref n p) = t.ref n.now (place p)
pattern_layer (pats.Element p c q) = t.element (place p) (class c) q.now
pattern_layer (pats.Mixed q) = t.mixed q.now
pattern_layer (pats.Optional q) = t.optional q.now
pattern_layer (pats.ZeroOrMore q) = t.zero_or_more q.now
pattern_layer (pats.OneOrMore q) = t.one_or_more q.now
pattern_layer (pats.Group ps) = t.group (pattern_list ps.now)
pattern_layer (pats.Choice ps) = t.choice (pattern_list ps.now)
pattern_layer (pats.Interleave ps) = t.interleave (pattern_list ps.now)

abbrev pub pattern : SPat → t.SyntaxPattern
pattern = fold-SPat t.SyntaxPattern pattern_layer

abbrev pub patterns : List SPat → t.SyntaxPatterns
patterns [] = t.no_more
patterns (p ∷ ps) = t.more (pattern p) (patterns ps)

abbrev pub joins : Joins → t.Joins
joins joining.Plain = t.plain
joins joining.Choice = t.by_choice
joins joining.Interleave = t.by_interleave

abbrev pub definition : Def → t.Definition
definition d = record { name = d.name.now; joins = joins d.joins; body = pattern d.body; place = place d.place }

abbrev pub syntax : Syntax → t.Syntax
syntax s = record { definitions = map definition s.defs.now; end = place s.end }

abbrev pub end : End → u.End
end e = record { place = place e.place; escape = option_map place e.escape }
