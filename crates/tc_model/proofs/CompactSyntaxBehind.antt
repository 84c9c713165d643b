-- What a phrase of the compact syntax leaves of the tokens stands behind, and a reading without data is one with data too.
use Rattle.std.proofs.Common.{ℕ, ◌≤◌, Bool, false, List, ◌∷◌, length, arith}
use Rattle.std.proofs.lemmas.Bool.{false≢true}
use Rattle.tc_model.specs.RawTrees.{Bound}
use Rattle.tc_model.specs.CompactSyntaxTrees.{SyntaxClass, SyntaxClasses, SyntaxPattern, SyntaxPatterns, Joins, Definition}
use Rattle.tc_model.specs.CompactSyntaxTokens.{Token}
use Rattle.tc_model.specs.CompactSyntaxNames as n
use Rattle.tc_model.specs.CompactSyntaxNames.{DeclarationAt, ClassAt, ClassesAt, SimpleAt, ExceptAt}
use Rattle.tc_model.specs.CompactSyntaxPatterns as p
use Rattle.tc_model.specs.CompactSyntaxPatterns.{Connector, BalancedAt, PatternAt, ItemsAt, ItemAt, PrimaryAt}
use Rattle.tc_model.specs.CompactSyntax as s
use Rattle.tc_model.specs.CompactSyntax.{OperatorAt, DefinitionAt, DefinitionsAt}
use Rattle.tc_model.specs.CompactSyntaxStops.{BlockAt, block}

-- the second list is a rest of the first
pub data Behind : List Token → List Token → Type 0 where
  none_yet : {tokens : List Token} → Behind tokens tokens
  past : {t : Token} {tokens after : List Token} → Behind tokens after → Behind (t ∷ tokens) after

pub behind_behind : {ts us vs : List Token} → Behind ts us → Behind us vs → Behind ts vs
behind_behind none_yet b = b
behind_behind (past a) b = past (behind_behind a b)

pub behind_first : {t : Token} {ts after : List Token} → Behind ts (t ∷ after) → Behind ts after
behind_first a = behind_behind a (past none_yet)

pub behind_shorter : {ts us : List Token} → Behind ts us → length us ≤ length ts
behind_shorter none_yet = omega arith
behind_shorter (past b) = omega (arith, behind_shorter b)

mutual
  pub class_behind : {scope : List Bound} {d : ℕ} {ts after : List Token} {c : SyntaxClass} → ClassAt scope d ts c after → Behind ts after
  class_behind (n.alone a h) = simple_behind a
  class_behind (n.several a h b) = behind_behind (behind_first (simple_behind a)) (classes_behind b)

  pub classes_behind : {scope : List Bound} {d : ℕ} {ts after : List Token} {cs : SyntaxClasses} → ClassesAt scope d ts cs after → Behind ts after
  classes_behind (n.last a h) = simple_behind a
  classes_behind (n.more a h b) = behind_behind (behind_first (simple_behind a)) (classes_behind b)

  pub simple_behind : {scope : List Bound} {d : ℕ} {ts after : List Token} {c : SyntaxClass} → SimpleAt scope d ts c after → Behind ts after
  simple_behind (n.name h) = past none_yet
  simple_behind (n.whole_namespace h k a) = past (except_behind a)
  simple_behind (n.any h a) = past (except_behind a)
  simple_behind (n.parentheses h a k) = past (behind_first (class_behind a))

  pub except_behind : {scope : List Bound} {d : ℕ} {ts after : List Token} {cs : SyntaxClasses} → ExceptAt scope d ts cs after → Behind ts after
  except_behind (n.nothing h) = none_yet
  except_behind (n.except h a) = past (simple_behind a)

pub balanced_behind : {d : ℕ} {ts after : List Token} → BalancedAt d ts after → Behind ts after
balanced_behind (p.closed h) = past none_yet
balanced_behind (p.nested h a b) = past (behind_behind (balanced_behind a) (balanced_behind b))
balanced_behind (p.other h k a) = past (balanced_behind a)

mutual
  pub pattern_behind : {o : Bool} {scope : List Bound} {d : ℕ} {ts after : List Token} {q : SyntaxPattern} → PatternAt o scope d ts q after → Behind ts after
  pattern_behind (p.alone a h) = item_behind a
  pattern_behind (p.several a h b) = behind_behind (behind_first (item_behind a)) (items_behind b)

  pub items_behind : {o : Bool} {scope : List Bound} {c : Connector} {d : ℕ} {ts after : List Token} {qs : SyntaxPatterns} → ItemsAt o scope c d ts qs after → Behind ts after
  items_behind (p.last a h) = item_behind a
  items_behind (p.and_more a h b) = behind_behind (behind_first (item_behind a)) (items_behind b)

  pub item_behind : {o : Bool} {scope : List Bound} {d : ℕ} {ts after : List Token} {q : SyntaxPattern} → ItemAt o scope d ts q after → Behind ts after
  item_behind (p.bare a h) = primary_behind a
  item_behind (p.with_suffix a h) = behind_first (primary_behind a)

  pub primary_behind : {o : Bool} {scope : List Bound} {d : ℕ} {ts after : List Token} {q : SyntaxPattern} → PrimaryAt o scope d ts q after → Behind ts after
  primary_behind (p.an_element h a k b l) = past (behind_behind (behind_first (class_behind a)) (behind_first (pattern_behind b)))
  primary_behind (p.an_attribute h a k b) = past (behind_behind (behind_first (class_behind a)) (balanced_behind b))
  primary_behind (p.a_mixed h k b l) = past (past (behind_first (pattern_behind b)))
  primary_behind (p.an_empty h) = past none_yet
  primary_behind (p.a_text h) = past none_yet
  primary_behind (p.a_not_allowed h) = past none_yet
  primary_behind (p.reference h) = past none_yet
  primary_behind (p.parentheses h b l) = past (behind_first (pattern_behind b))
  primary_behind (p.a_datum h k) = past none_yet

pub declaration_behind : {scope within : List Bound} {ts after : List Token} → DeclarationAt scope ts within after → Behind ts after
declaration_behind (n.namespace a b c d e) = past (past (past (past none_yet)))
declaration_behind (n.default_namespace a b c d e) = past (past (past (past none_yet)))
declaration_behind (n.both a b c d e f g) = past (past (past (past (past none_yet))))
declaration_behind (n.datatypes a b c d) = past (past (past (past none_yet)))

pub operator_behind : {ts after : List Token} {j : Joins} → OperatorAt ts j after → Behind ts after
operator_behind (s.equals h) = past none_yet
operator_behind (s.bar_equals h k e) = past (past none_yet)
operator_behind (s.ampersand_equals h k e) = past (past none_yet)

mutual
  pub definition_behind : {o : Bool} {scope : List Bound} {d : ℕ} {ts after : List Token} {ds : List Definition} → DefinitionAt o scope d ts ds after → Behind ts after
  definition_behind (s.of_start h a b) = past (behind_behind (operator_behind a) (pattern_behind b))
  definition_behind (s.of_name h a b) = past (behind_behind (operator_behind a) (pattern_behind b))
  definition_behind (s.div h k a l) = past (past (behind_first (definitions_behind a)))

  pub definitions_behind : {o : Bool} {scope : List Bound} {d : ℕ} {ts after : List Token} {ds : List Definition} → DefinitionsAt o scope d ts ds after → Behind ts after
  definitions_behind s.at_end = none_yet
  definitions_behind (s.at_brace h) = none_yet
  definitions_behind (s.more a b) = behind_behind (definition_behind a) (definitions_behind b)

pub block_behind : {o : Bool} {scope : List Bound} {d : ℕ} {ts after : List Token} {ds : List Definition} → BlockAt o scope d ts ds after → Behind ts after
block_behind (block a m c) = past (behind_first (definitions_behind m))

mutual
  pub pattern_with : {scope : List Bound} {d : ℕ} {ts after : List Token} {q : SyntaxPattern} (o : Bool) → PatternAt false scope d ts q after → PatternAt o scope d ts q after
  pattern_with o (p.alone a h) = p.alone (item_with o a) h
  pattern_with o (p.several a h b) = p.several (item_with o a) h (items_with o b)

  pub items_with : {scope : List Bound} {c : Connector} {d : ℕ} {ts after : List Token} {qs : SyntaxPatterns} (o : Bool) → ItemsAt false scope c d ts qs after → ItemsAt o scope c d ts qs after
  items_with o (p.last a h) = p.last (item_with o a) h
  items_with o (p.and_more a h b) = p.and_more (item_with o a) h (items_with o b)

  pub item_with : {scope : List Bound} {d : ℕ} {ts after : List Token} {q : SyntaxPattern} (o : Bool) → ItemAt false scope d ts q after → ItemAt o scope d ts q after
  item_with o (p.bare a h) = p.bare (primary_with o a) h
  item_with o (p.with_suffix a h) = p.with_suffix (primary_with o a) h

  pub primary_with : {scope : List Bound} {d : ℕ} {ts after : List Token} {q : SyntaxPattern} (o : Bool) → PrimaryAt false scope d ts q after → PrimaryAt o scope d ts q after
  primary_with o (p.an_element h a k b l) = p.an_element h a k (pattern_with o b) l
  primary_with o (p.an_attribute h a k b) = p.an_attribute h a k b
  primary_with o (p.a_mixed h k b l) = p.a_mixed h k (pattern_with o b) l
  primary_with o (p.an_empty h) = p.an_empty h
  primary_with o (p.a_text h) = p.a_text h
  primary_with o (p.a_not_allowed h) = p.a_not_allowed h
  primary_with o (p.reference h) = p.reference h
  primary_with o (p.parentheses h b l) = p.parentheses h (pattern_with o b) l
  primary_with o (p.a_datum h k) = absurd (false≢true h)

mutual
  pub definition_with : {scope : List Bound} {d : ℕ} {ts after : List Token} {ds : List Definition} (o : Bool) → DefinitionAt false scope d ts ds after → DefinitionAt o scope d ts ds after
  definition_with o (s.of_start h a b) = s.of_start h a (pattern_with o b)
  definition_with o (s.of_name h a b) = s.of_name h a (pattern_with o b)
  definition_with o (s.div h k a l) = s.div h k (definitions_with o a) l

  pub definitions_with : {scope : List Bound} {d : ℕ} {ts after : List Token} {ds : List Definition} (o : Bool) → DefinitionsAt false scope d ts ds after → DefinitionsAt o scope d ts ds after
  definitions_with o s.at_end = s.at_end
  definitions_with o (s.at_brace h) = s.at_brace h
  definitions_with o (s.more a b) = s.more (definition_with o a) (definitions_with o b)
