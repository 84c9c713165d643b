-- Why a schema is read, or not, where its parts are.
use Rattle.std.proofs.Common.{◌≡◌, ℕ, false, List, [], ◌∷◌, ◌++◌, refl, sym, subst, codes}
use Rattle.tc_model.specs.RawTrees.{Bound}
use Rattle.tc_model.specs.CompactSyntaxTrees.{SyntaxPattern, plain, Definition}
use Rattle.tc_model.specs.CompactSyntaxTokens.{Token}
use Rattle.tc_model.specs.CompactSyntaxNames.{IsWord}
use Rattle.tc_model.specs.CompactSyntaxPatterns.{PatternAt}
use Rattle.tc_model.specs.CompactSyntax.{one_definition, DefinitionsAt, SchemaAt, one_pattern, definitions, grammar}
use Rattle.tc_model.specs.CompactSyntaxUnread.{Refusal, End, Unexpected}
use Rattle.tc_model.specs.CompactSyntaxStops.{PatternStops, LacksWord, BeginsDefinitions, BeginsOnePattern, BlockAt, block, GoesOnAsPattern, SchemaStops, past_grammar, past_definitions, in_pattern, past_pattern}
use Rattle.tc_rnc.specs.Schemas.{LacksDeclaration, LacksDefinitions}

-- One pattern.

one_begins : (t : Token) (ts : List Token) → LacksDeclaration (t ∷ ts) → LacksWord (codes "grammar") (t ∷ ts) → LacksDefinitions (t ∷ ts) → BeginsOnePattern t ts
one_begins t ts d g k = record {
  no_namespace = d.0;
  no_default = d.1;
  no_datatypes = d.2;
  no_grammar = g;
  no_start = k.0;
  no_div = k.1;
  no_include = k.2;
  no_definition = k.3;
}

pub pattern_stops : {end : End} {scope : List Bound} {n : ℕ} (ts : List Token) {r : Refusal} → LacksDeclaration ts → LacksWord (codes "grammar") ts → LacksDefinitions ts → PatternStops end scope n ts r
    → SchemaStops end scope n ts r
pattern_stops [] d g k y = absurd k
pattern_stops (t ∷ ts) d g k y = in_pattern (one_begins t ts d g k) y

pub pattern_past : {end : End} {scope : List Bound} {n : ℕ} (ts rest : List Token) {p : SyntaxPattern} {r : Refusal} → LacksDeclaration ts → LacksWord (codes "grammar") ts → LacksDefinitions ts
    → PatternAt false scope n ts p rest → (rest ≡ [] → ⊥) → Unexpected end rest r → SchemaStops end scope n ts r
pattern_past [] rest d g k m n y = absurd k
pattern_past (t ∷ ts) [] d g k m n y = absurd (n refl)
pattern_past (t ∷ ts) (v ∷ rest) d g k m n y = past_pattern (one_begins t ts d g k) m y

pub pattern_whole : (scope : List Bound) (ts rest : List Token) (p : SyntaxPattern) → PatternAt false scope 2000 ts p rest → rest ≡ [] → SchemaAt false scope 2000 ts (one_definition [] plain p 0)
pattern_whole scope ts rest p m e = one_pattern (subst (λ z. PatternAt false scope 2000 ts p z) e m)

-- Definitions.

pub definitions_past : {end : End} {scope : List Bound} {n : ℕ} {ts : List Token} (rest : List Token) {ds : List Definition} {r : Refusal} → BeginsDefinitions ts → DefinitionsAt false scope n ts ds rest
    → (rest ≡ [] → ⊥) → Unexpected end rest r → SchemaStops end scope n ts r
definitions_past [] b m n y = absurd (n refl)
definitions_past (t ∷ rest) b m n y = past_definitions b m y

pub definitions_whole : (scope : List Bound) (ts rest : List Token) (es full : List Definition) → DefinitionsAt false scope 2000 ts es rest → rest ≡ [] → full ≡ [] ++ es → SchemaAt false scope 2000 ts full
definitions_whole scope ts rest es full m e f = subst (SchemaAt false scope 2000 ts) (sym f) (definitions (subst (λ z. DefinitionsAt false scope 2000 ts es z) e m))

-- A grammar.

pub grammar_past : {end : End} {scope : List Bound} {n : ℕ} {t : Token} {ts : List Token} (rest : List Token) {ds : List Definition} {r : Refusal} → IsWord (codes "grammar") t → BlockAt false scope n ts ds rest
    → (GoesOnAsPattern rest → ⊥) → (rest ≡ [] → ⊥) → Unexpected end rest r → SchemaStops end scope n (t ∷ ts) r
grammar_past [] k b g n y = absurd (n refl)
grammar_past (v ∷ rest) k b g n y = past_grammar k b g y

pub block_whole : {scope : List Bound} (n : ℕ) (t : Token) (ts after : List Token) (es full : List Definition) → IsWord (codes "grammar") t → BlockAt false scope n ts es after → after ≡ [] → full ≡ [] ++ es
    → SchemaAt false scope n (t ∷ ts) full
block_whole {scope} n t ts after es full k m e f = subst (SchemaAt false scope n (t ∷ ts)) (sym f) (by (subst (λ z. BlockAt false scope n ts es z) e m))
  where
    by : {d : ℕ} {rest : List Token} → BlockAt false scope d rest es [] → SchemaAt false scope d (t ∷ rest) es
    by (block a m c) = grammar k a m c
