-- What contracts see of tokens and patterns.
use Rattle.std.specs.Prelude.{List, [], ◌∷◌, map, Option, None, Some}
use Rattle.tc_model.specs.Views.{match_pattern}
use Rattle.tc_model.specs.PathTextTokens as t
use Rattle.tc_model.specs.PathTextPhrases as p
use Rattle.tc_model.specs.declared.sheet.Alt.{Alt}
use Rattle.tc_scan.specs.Views.{written_name}
use Rattle.tc_path.specs.declared.token.Mark.{Mark}
use Rattle.tc_path.specs.declared.token.Mark.TheVariants as marks
use Rattle.tc_path.specs.declared.token.Token.{Token}
use Rattle.tc_path.specs.declared.token.Token.TheVariants as tokens
use Rattle.tc_path.specs.declared.joined.Form.{Form}
use Rattle.tc_path.specs.declared.joined.Form.TheVariants as forms

abbrev pub mark : Mark → t.Mark
mark marks.Star = t.star
mark marks.Slash = t.slash
mark marks.Slashes = t.slashes
mark marks.Bar = t.bar
mark marks.OpenParenthesis = t.open_parenthesis
mark marks.CloseParenthesis = t.close_parenthesis
mark marks.OpenBracket = t.open_bracket
mark marks.CloseBracket = t.close_bracket
mark marks.At = t.at
mark marks.Dot = t.dot
mark marks.Dots = t.dots
mark marks.Colons = t.colons
mark marks.Comma = t.comma
mark marks.Comparison = t.comparison
mark marks.Arithmetic = t.arithmetic

abbrev pub token : Token → t.Token
token (tokens.Name n) = t.name (written_name n)
token (tokens.AllOfPrefix prefix) = t.all_of_prefix prefix.now
token (tokens.Mark m) = t.mark (mark m)
token tokens.Number = t.number
token tokens.Literal = t.literal
token tokens.Variable = t.variable

abbrev pub tokens_of : List Token → List t.Token
tokens_of ts = map token ts

abbrev pub form : Form → p.Form
form forms.Lone = p.lone
form forms.Longer = p.longer
form forms.Dropped = p.dropped

abbrev pub alternative : Alt → p.Alternative
alternative a = record { pattern = match_pattern a.pattern; priority = a.priority }

-- an alternative that is kept, or none
abbrev pub kept_alternative : Option Alt → List p.Alternative
kept_alternative None = []
kept_alternative (Some a) = alternative a ∷ []
