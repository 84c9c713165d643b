-- Beside the schema and the stylesheet that mention nothing are the symbols those of what is left.
use Rattle.std.proofs.Common.{◌≡◌, ◌∙◌, ap, append-nil, flat_map}
use Rattle.tc_model.specs.Grammars.{Grammar}
use Rattle.tc_model.specs.Sheets.{Sheet}
use Rattle.tc_model.specs.Symbols.{mention_cmp, in_order, with_namespace, mentions_in_grammar, symbols_of}
use Rattle.tc_decide.specs.Limits.{symbols_of_schema, symbols_of_sheet}
use Rattle.tc_decide.specs.Nothing.{no_schema, no_rules}

pub schema_alone : (g : Grammar) → symbols_of g no_schema no_rules ≡ symbols_of_schema g
schema_alone g = ap (λ mentions. in_order mention_cmp (flat_map with_namespace mentions)) (append-nil (mentions_in_grammar g))

pub schema_beside : (g n : Grammar) (s : Sheet) → n ≡ no_schema → s ≡ no_rules → symbols_of g n s ≡ symbols_of_schema g
schema_beside g n s none empty = ap (λ (w : Grammar). symbols_of g w s) none ∙ (ap (λ (w : Sheet). symbols_of g no_schema w) empty ∙ schema_alone g)

pub sheet_beside : (g h : Grammar) (s : Sheet) → g ≡ no_schema → h ≡ no_schema → symbols_of g h s ≡ symbols_of_sheet s
sheet_beside g h s one other = ap (λ (w : Grammar). symbols_of w h s) one ∙ ap (λ (w : Grammar). symbols_of no_schema w s) other
