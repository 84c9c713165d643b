-- Why definitions are read, or not, where their parts are.
use Rattle.std.proofs.Common.{◌≡◌, inl, inr, ℕ, suc, ◌+◌, ◌<◌, false, List, [], ◌∷◌, ◌++◌, ap, ◌∙◌, sym, subst, length, arith, map, codes, append_assoc, append-nil}
use Rattle.tc_model.specs.RawTrees.{Bound}
use Rattle.tc_model.specs.CompactSyntaxTrees.{SyntaxPattern, Joins, plain, by_choice, by_interleave, Definition}
use Rattle.tc_model.specs.CompactSyntaxTokens.{Token}
use Rattle.tc_model.specs.CompactSyntaxNames.{IsMark, LacksMark}
use Rattle.tc_model.specs.CompactSyntax.{OperatorAt, equals, bar_equals, ampersand_equals, one_definition, DefinitionAt, of_start, of_name, div, DefinitionsAt, at_end, at_brace, more}
use Rattle.tc_model.specs.CompactSyntaxUnread.{Refusal, End, Unexpected}
use Rattle.tc_model.specs.CompactSyntaxStops as st
use Rattle.tc_model.specs.CompactSyntaxStops.{BeginsDefinition, DefinitionsStop, DefinitionStops, BlockStops, BlockAt, block}
use Rattle.tc_model.proofs.CompactSyntaxBehind.{behind_shorter, operator_behind, pattern_behind, definitions_behind}
use Rattle.tc_rnc.specs.Blocks.{AssignedAt, assigned, Defines, IsEndOfDefinitions}
use Rattle.tc_rnc.specs.Readings.{BeginsWith}
use Rattle.tc_rnc.specs.Schemas.{StartsWith}
use Rattle.tc_rnc.specs.Stops as p
use Rattle.tc_rnc.specs.Stops.{AssignedStops}
use Rattle.tc_rnc.specs.Views as seen
use Rattle.tc_rnc.specs.declared.syntax.Def.{Def}
use Rattle.tc_rnc.proofs.Views.{pushed_definition}

-- What was gathered before is there, and the definitions of the tokens before the rest behind it; where the rest stops the whole does.
pub record DefinitionsSoFar (end : End) (scope : List Bound) (deepest : ℕ) (tokens rest : List Token) (before all : List Def) : Type 0 where
  pub found : List Definition
  pub gathered : map seen.definition all ≡ map seen.definition before ++ found
  pub forth : (ds : List Definition) (after : List Token) → DefinitionsAt false scope deepest rest ds after → DefinitionsAt false scope deepest tokens (found ++ ds) after
  pub stops : (r : Refusal) → DefinitionsStop end scope deepest rest r → DefinitionsStop end scope deepest tokens r

-- Operators.

pub operator_equals : {t : Token} {ts rest : List Token} → ts ≡ t ∷ rest → IsMark 0x3D t → OperatorAt ts plain rest
operator_equals {rest = rest} is k = subst (λ z. OperatorAt z plain rest) (sym is) (equals k)

abbrev pub EqualsFollows : Token → List Token → List Token → Type 0
EqualsFollows t rest after = (u : Token) × (rest ≡ u ∷ after) × IsMark 0x3D u × (u.place ≡ t.place + 1)

pub operator_bar : {t : Token} {ts rest after : List Token} → ts ≡ t ∷ rest → IsMark 0x7C t → EqualsFollows t rest after → OperatorAt ts by_choice after
operator_bar {t} {after = after} is k (u, e, l, p) = subst (λ z. OperatorAt z by_choice after) (sym (is ∙ ap (λ z. t ∷ z) e)) (bar_equals k l p)

pub operator_ampersand : {t : Token} {ts rest after : List Token} → ts ≡ t ∷ rest → IsMark 0x26 t → EqualsFollows t rest after → OperatorAt ts by_interleave after
operator_ampersand {t} {after = after} is k (u, e, l, p) = subst (λ z. OperatorAt z by_interleave after) (sym (is ∙ ap (λ z. t ∷ z) e)) (ampersand_equals k l p)

begins_of : (t : Token) (name : List ℕ) → Defines t name → BeginsDefinition t
begins_of t name (inl (a, e)) = inl a
begins_of t name (inr a) = inr (name, a)

pub assigned_stops : {end : End} {scope : List Bound} {n : ℕ} (t : Token) {ts rest : List Token} (name : List ℕ) {r : Refusal} → ts ≡ t ∷ rest → Defines t name → AssignedStops end scope n rest r → DefinitionStops end scope n ts r
assigned_stops {end} {scope} {n} t name {r} is k y = subst (λ z. DefinitionStops end scope n z r) (sym is) (by y)
  where
    by : {rest : List Token} → AssignedStops end scope n rest r → DefinitionStops end scope n (t ∷ rest) r
    by (p.no_operator h y) = st.no_operator (begins_of t name k) h y
    by (p.body a y) = st.pattern (begins_of t name k) a y

pub a_definition : (scope : List Bound) (n : ℕ) (t : Token) (ts rest after : List Token) (name : List ℕ) (j : Joins) (p : SyntaxPattern) → ts ≡ t ∷ rest → Defines t name → AssignedAt false scope n rest j p after
    → DefinitionAt false scope n ts (one_definition name j p t.place) after
a_definition scope n t ts rest after name j p is k m = subst (λ z. DefinitionAt false scope n z (one_definition name j p t.place) after) (sym is) (by k m)
  where
    by : Defines t name → AssignedAt false scope n rest j p after → DefinitionAt false scope n (t ∷ rest) (one_definition name j p t.place) after
    by (inl (a, e)) (assigned b m) = subst (λ z. DefinitionAt false scope n (t ∷ rest) (one_definition z j p t.place) after) (sym e) (of_start a b m)
    by (inr a) (assigned b m) = of_name a b m

pub pushed : (items full : List Def) (def : Def) (one : Definition) → full ≡ items ++ def ∷ [] → seen.definition def ≡ one → map seen.definition full ≡ map seen.definition items ++ one ∷ []
pushed items full def one e f = ap (map seen.definition) e ∙ (pushed_definition items def ∙ ap (λ z. map seen.definition items ++ z ∷ []) f)

-- Definitions.

pub no_definition_yet : (end : End) (scope : List Bound) (n : ℕ) (ts : List Token) (before : List Def) → DefinitionsSoFar end scope n ts ts before before
no_definition_yet end scope n ts before = record { found = []; gathered = sym (append-nil (map seen.definition before)); forth = λ ds after m. m; stops = λ r y. y }

pub more_definitions : (end : End) (scope : List Bound) (n : ℕ) (ts rest after : List Token) (before all full : List Def) (ds : List Definition) → DefinitionsSoFar end scope n ts rest before all
    → map seen.definition full ≡ map seen.definition all ++ ds → DefinitionAt false scope n rest ds after → DefinitionsSoFar end scope n ts after before full
more_definitions end scope n ts rest after before all full ds h e a = record {
  found = h.found ++ ds;
  gathered = e ∙ (ap (λ z. z ++ ds) h.gathered ∙ append_assoc (map seen.definition before) h.found ds);
  forth = λ es z m. subst (λ w. DefinitionsAt false scope n ts w z) (sym (append_assoc h.found ds es)) (h.forth (ds ++ es) z (more a m));
  stops = λ r y. h.stops r (st.past_definition a y);
}

ends : (scope : List Bound) (n : ℕ) (rest : List Token) → IsEndOfDefinitions rest → DefinitionsAt false scope n rest [] rest
ends scope n [] h = at_end
ends scope n (t ∷ ts) h = at_brace h

pub definitions_done : (end : End) (scope : List Bound) (n : ℕ) (ts rest : List Token) (before all : List Def) → DefinitionsSoFar end scope n ts rest before all → IsEndOfDefinitions rest
    → (ds : List Definition) × (map seen.definition all ≡ map seen.definition before ++ ds) × DefinitionsAt false scope n ts ds rest
definitions_done end scope n ts rest before all h k = (h.found, h.gathered, subst (λ z. DefinitionsAt false scope n ts z rest) (append-nil h.found) (h.forth [] rest (ends scope n rest k)))

-- `div`.

pub a_div : (scope : List Bound) (n : ℕ) (ts rest after : List Token) (ds : List Definition) → StartsWith (codes "div") ts rest → BlockAt false scope n rest ds after → DefinitionAt false scope n ts ds after
a_div scope n ts rest after ds (t, is, k) m = subst (λ z. DefinitionAt false scope n z ds after) (sym is) (by m)
  where
    by : {n : ℕ} {rest after : List Token} {ds : List Definition} → BlockAt false scope n rest ds after → DefinitionAt false scope n (t ∷ rest) ds after
    by (block a m c) = div k a m c

pub div_stops : {end : End} {scope : List Bound} {n : ℕ} {ts rest : List Token} {r : Refusal} → StartsWith (codes "div") ts rest → BlockStops end scope n rest r → DefinitionStops end scope n ts r
div_stops {end} {scope} {n} {r = r} (t, is, k) y = subst (λ z. DefinitionStops end scope n z r) (sym is) (st.div k y)

-- Definitions within braces.

pub block_stops : {end : End} {scope : List Bound} {n k : ℕ} {ts inside : List Token} {r : Refusal} → n ≡ suc k → BeginsWith 0x7B ts inside → DefinitionsStop end scope k inside r → BlockStops end scope n ts r
block_stops {end} {scope} {k = k} {ts} {r = r} e (t, is, x) y = subst (λ z. BlockStops end scope z ts r) (sym e) (subst (λ z. BlockStops end scope (suc k) z r) (sym is) (st.inside x y))

pub unclosed_block : {end : End} {scope : List Bound} {n k : ℕ} {ts inside closing : List Token} {ds : List Definition} {r : Refusal} → n ≡ suc k → BeginsWith 0x7B ts inside
    → DefinitionsAt false scope k inside ds closing → LacksMark 0x7D closing → Unexpected end closing r → BlockStops end scope n ts r
unclosed_block {end} {scope} {k = k} {ts} {r = r} e (t, is, x) m h y =
    subst (λ z. BlockStops end scope z ts r) (sym e) (subst (λ z. BlockStops end scope (suc k) z r) (sym is) (st.unclosed x m h y))

pub a_block : (scope : List Bound) (n k : ℕ) (ts inside closing after : List Token) (ds : List Definition) → n ≡ suc k → BeginsWith 0x7B ts inside → DefinitionsAt false scope k inside ds closing → BeginsWith 0x7D closing after
    → BlockAt false scope n ts ds after
a_block scope n k ts inside closing after ds e (t, is, x) m (u, js, y) =
    subst (λ z. BlockAt false scope z ts ds after) (sym e)
    (subst (λ z. BlockAt false scope (suc k) z ds after) (sym is) (block x (subst (λ z. DefinitionsAt false scope k inside ds z) js m) y))

pub definition_shorter : {scope : List Bound} {d : ℕ} {ts after : List Token} {ds : List Definition} → DefinitionAt false scope d ts ds after → length after < length ts
definition_shorter (of_start h a b) = omega (arith, behind_shorter (operator_behind a), behind_shorter (pattern_behind b))
definition_shorter (of_name h a b) = omega (arith, behind_shorter (operator_behind a), behind_shorter (pattern_behind b))
definition_shorter (div h k m c) = omega (arith, behind_shorter (definitions_behind m))

-- there is a definition where definitions don't end
pub not_ended : {ts : List Token} → ts ≡ [] → (IsEndOfDefinitions ts → ⊥) → ⊥
not_ended e h = h (subst IsEndOfDefinitions (sym e) tt)
