-- The first construct of a text for which it is refused by a reason of its own, where it isn't of its form (XPath 1.0, 2 and 3).
-- The reason is that of the first refused construct, whatever else is wrong with the text. In brackets the
-- reasons of tests hold. A pattern that begins with `.` is refused as `dot`, `.//a` too, which is a select
-- and no pattern.
use Rattle.std.specs.Prelude.{ℕ, ◌+◌, ◌-◌, Bool, false, ◌&&◌, ◌||◌, not, ◌==◌, List, [], ◌∷◌, Option, None, Some, bytes_eq, codes, if◌then◌else◌}
use Rattle.tc_base.specs.declared.reasons.Why.{Why}
use Rattle.tc_base.specs.declared.reasons.Why.TheVariants.{Axis, Dot, AbsolutePath, FunctionCall, Comparison, Arithmetic, Predicate, AttributeStep, VariableReference, StringLiteral}
use Rattle.tc_model.specs.XmlTextNames.{QualifiedName}
use Rattle.tc_model.specs.PathTextTokens.{Mark, star, slash, slashes, bar, open_parenthesis, close_parenthesis, open_bracket, close_bracket, at, dot, dots, colons, comma, comparison, arithmetic, Token, name, all_of_prefix, mark, number, literal, variable}
use Rattle.tc_path.specs.declared.reasons.Context.{Context}
use Rattle.tc_path.specs.declared.reasons.Context.TheVariants.{Value, Pattern, Test}
use Rattle.tc_path.specs.declared.reasons.Before.{Before}
use Rattle.tc_path.specs.declared.reasons.Before.TheVariants.{Nothing, Joint, Operand}

abbrev pub is_word : QualifiedName → List ℕ → Bool
is_word n w = bytes_eq n.prefix [] && bytes_eq n.local w

-- a name behind an operand is an operator if it is one of these (XPath, 3.7)
abbrev pub is_operator : QualifiedName → Bool
is_operator n = is_word n (codes "and") || is_word n (codes "or") || is_word n (codes "div") || is_word n (codes "mod")

-- what stands before the token that follows this mark, or this token
abbrev pub behind_mark : Before → Mark → Before
behind_mark Operand star = Nothing
behind_mark Nothing star = Operand
behind_mark Joint star = Operand
behind_mark b slash = Joint
behind_mark b slashes = Joint
behind_mark b bar = Nothing
behind_mark b open_parenthesis = Nothing
behind_mark b close_parenthesis = Operand
behind_mark b open_bracket = Nothing
behind_mark b close_bracket = Operand
behind_mark b at = Joint
behind_mark b dot = Operand
behind_mark b dots = Operand
behind_mark b colons = Joint
behind_mark b comma = Nothing
behind_mark b comparison = Nothing
behind_mark b arithmetic = Nothing

abbrev pub behind : Before → Token → Before
behind Operand (name n) = if is_operator n then Nothing else Operand
behind Nothing (name n) = Operand
behind Joint (name n) = Operand
behind b (all_of_prefix p) = Operand
behind b (mark m) = behind_mark b m
behind b number = Operand
behind b literal = Operand
behind b variable = Operand

-- the predicate that must not stand here
abbrev pub bracket_reason : List Token → Option Why
bracket_reason (mark open_bracket ∷ ts) = Some Predicate
bracket_reason ts = None

-- an attribute step whose name stands here: none may stand in a test or a value, and none may have predicates
abbrev pub attribute_reason : Context → List Token → Option Why
attribute_reason Test ts = Some AttributeStep
attribute_reason Value ts = Some AttributeStep
attribute_reason c (name n ∷ ts) = bracket_reason ts
attribute_reason c (all_of_prefix p ∷ ts) = bracket_reason ts
attribute_reason c (mark star ∷ ts) = bracket_reason ts
attribute_reason c ts = None

-- an axis of this name, before these tokens (XPath, 2.2)
abbrev pub axis_reason : Context → QualifiedName → List Token → Option Why
axis_reason c n ts =
    if is_word n (codes "attribute") then attribute_reason c ts
    else (if is_word n (codes "child") || not (bytes_eq n.prefix []) then None else Some Axis)

abbrev pub other_node_reason : List Token → Option Why
other_node_reason (mark close_parenthesis ∷ ts) = bracket_reason ts
other_node_reason ts = None

abbrev pub is_of_test : Context → QualifiedName → Bool
is_of_test Test n = is_word n (codes "not") || is_word n (codes "true") || is_word n (codes "false")
is_of_test c n = false

-- a call of this name, whose parenthesis opens before these tokens (XPath, 3.2)
abbrev pub call_reason : Context → QualifiedName → List Token → Option Why
call_reason c n ts =
    if is_word n (codes "comment") || is_word n (codes "processing-instruction") then other_node_reason ts
    else (if is_word n (codes "text") || is_word n (codes "node") then None else (if is_of_test c n then None else Some FunctionCall))

-- a name before these tokens
abbrev pub name_reason : Context → Before → QualifiedName → List Token → Option Why
name_reason c Operand n ts = if is_word n (codes "div") || is_word n (codes "mod") then Some Arithmetic else None
name_reason c b n (mark colons ∷ ts) = axis_reason c n ts
name_reason c b n (mark open_parenthesis ∷ ts) = call_reason c n ts
name_reason c b n ts = None

-- a `.` before these tokens: where an expression begins it may stand before `//`, but in no pattern
abbrev pub dot_reason : Context → Before → List Token → Option Why
dot_reason Pattern b ts = Some Dot
dot_reason c Nothing (mark slashes ∷ ts) = None
dot_reason Value Nothing (mark open_bracket ∷ ts) = Some Predicate
dot_reason c b ts = Some Dot

-- a path from the root, which may stand in a pattern alone
abbrev pub slash_reason : Context → Before → Option Why
slash_reason Pattern b = None
slash_reason c Nothing = Some AbsolutePath
slash_reason c b = None

-- a `*` is an operator behind an operand (XPath, 3.7)
abbrev pub star_reason : Before → Option Why
star_reason Operand = Some Arithmetic
star_reason b = None

-- a mark before these tokens
abbrev pub mark_reason : Context → Before → Mark → List Token → Option Why
mark_reason c b star ts = star_reason b
mark_reason c b slash ts = slash_reason c b
mark_reason c b slashes ts = slash_reason c b
mark_reason c b bar ts = None
mark_reason c b open_parenthesis ts = None
mark_reason c b close_parenthesis ts = None
mark_reason c b open_bracket ts = None
mark_reason c b close_bracket ts = None
mark_reason c b at ts = attribute_reason c ts
mark_reason c b dot ts = dot_reason c b ts
mark_reason c b dots ts = Some Axis
mark_reason c b colons ts = None
mark_reason c b comma ts = None
mark_reason c b comparison ts = Some Comparison
mark_reason c b arithmetic ts = Some Arithmetic

-- the construct that begins with this token, before these
abbrev pub reason_at : Context → Before → Token → List Token → Option Why
reason_at c b (name n) ts = name_reason c b n ts
reason_at c b (all_of_prefix p) ts = None
reason_at c b (mark m) ts = mark_reason c b m ts
reason_at c b number ts = Some Arithmetic
reason_at c b literal ts = Some StringLiteral
reason_at c b variable ts = Some VariableReference

-- how many brackets are open behind this token
abbrev pub brackets_behind : ℕ → Token → ℕ
brackets_behind n (mark open_bracket) = n + 1
brackets_behind n (mark close_bracket) = n - 1
brackets_behind n t = n

-- what stands in brackets is a test
abbrev pub within : Context → ℕ → Context
within c n = if n == 0 then c else Test

abbrev pub or_else : Option Why → Option Why → Option Why
or_else (Some why) o = Some why
or_else None o = o

-- the first such construct, where so many brackets are open and this stands before
abbrev pub first_from : Context → ℕ → Before → List Token → Option Why
first_from c n b [] = None
first_from c n b (t ∷ ts) = or_else (reason_at (within c n) b t ts) (first_from c (brackets_behind n t) (behind b t) ts)

abbrev pub first_reason : Context → List Token → Option Why
first_reason c ts = first_from c 0 Nothing ts

-- some variable references, literals and numbers taken as the name `a`
pub data Renamed : List Token → List Token → Type 0 where
  no_more : Renamed [] []
  as_it_is : {t : Token} {ts us : List Token} → Renamed ts us → Renamed (t ∷ ts) (t ∷ us)
  a_number : {ts us : List Token} → Renamed ts us → Renamed (number ∷ ts) (name (record { prefix = []; local = codes "a" }) ∷ us)
  a_literal : {ts us : List Token} → Renamed ts us → Renamed (literal ∷ ts) (name (record { prefix = []; local = codes "a" }) ∷ us)
  a_variable : {ts us : List Token} → Renamed ts us → Renamed (variable ∷ ts) (name (record { prefix = []; local = codes "a" }) ∷ us)
