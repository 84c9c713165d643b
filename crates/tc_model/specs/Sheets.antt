-- Stylesheets (XSLT 1.0, 2 to 9): paths, tests, bodies and rules.
-- Bodies without calls stand here too, since well-formed stylesheets are said by them.
use Rattle.std.specs.Prelude.{◌≡◌, ℕ, ℤ, List, Bool, Some, slice_get}
use Rattle.tc_model.specs.Names.{ExpandedName}

-- a node test (XPath 1.0, 2.3): a name, `p:*`, `*`, `text()`, `node()`
pub data NodeTest : Type 0 where
  of_name : ExpandedName → NodeTest
  of_namespace : List ℕ → NodeTest
  any_element any_text any_node : NodeTest

mutual
  -- each step: whether `//` stands before it, its node test, and its predicates as one test
  pub data Steps : Type 0 where
    no_step : Steps
    step : Bool → NodeTest → Test → Steps → Steps

  -- alternatives
  pub data Path : Type 0 where
    no_alternative : Path
    alternative : Steps → Path → Path

  pub data Test : Type 0 where
    always never : Test
    has : Path → Test
    negated : Test → Test
    all_of any_of : Tests → Test

  pub data Tests : Type 0 where
    no_test : Tests
    test : Test → Tests → Tests

mutual
  -- each instruction, and those after it
  pub data Body : Type 0 where
    no_instruction : Body
    put_text : List ℕ → Body → Body
    put_element : ExpandedName → Body → Body → Body
    copy : Body → Body → Body
    -- the path that selects, and the mode
    apply : Path → ℕ → Body → Body
    -- the number of the named body
    call : ℕ → Body → Body
    value : Path → Body → Body
    value_of_self : Body → Body
    choose : Branches → Body → Body
    -- its own number, and the path that selects
    for_each : ℕ → Path → Body → Body → Body

  -- the first body whose test holds, or else the last
  pub data Branches : Type 0 where
    otherwise : Body → Branches
    branch : Test → Body → Branches → Branches

-- one alternative of a match pattern (XSLT, 5.2): `/`, or steps
pub data MatchPattern : Type 0 where
  root_pattern : MatchPattern
  steps_pattern : Steps → MatchPattern

-- a template rule; its priority in ten-thousandths (XSLT, 5.5)
pub record Rule : Type 0 where
  pub mode : ℕ
  pub pattern : MatchPattern
  pub priority : ℤ
  pub body : Body

pub record Sheet : Type 0 where
  pub modes : ℕ
  pub eaches : ℕ
  pub rules : List Rule
  pub named : List Body

mutual
  -- a body with the named bodies that it calls in place
  pub data CallFreeBody : Type 0 where
    p_done : CallFreeBody
    p_text : List ℕ → CallFreeBody → CallFreeBody
    p_element : ExpandedName → CallFreeBody → CallFreeBody → CallFreeBody
    p_copy : CallFreeBody → CallFreeBody → CallFreeBody
    p_apply : Path → ℕ → CallFreeBody → CallFreeBody
    p_call : CallFreeBody → CallFreeBody → CallFreeBody
    p_value : Path → CallFreeBody → CallFreeBody
    p_self : CallFreeBody → CallFreeBody
    p_choose : CallFreeBranches → CallFreeBody → CallFreeBody
    p_each : ℕ → Path → CallFreeBody → CallFreeBody → CallFreeBody

  pub data CallFreeBranches : Type 0 where
    p_otherwise : CallFreeBody → CallFreeBranches
    p_branch : Test → CallFreeBody → CallFreeBranches → CallFreeBranches

mutual
  -- which one: a body has one exactly where each chain of calls from it ends
  pub data Inlines (named : List Body) : Body → CallFreeBody → Type 0 where
    u_done : Inlines named no_instruction p_done
    u_text : {x : List ℕ} {b : Body} {p : CallFreeBody} → Inlines named b p → Inlines named (put_text x b) (p_text x p)
    u_element : {n : ExpandedName} {i b : Body} {o p : CallFreeBody} → Inlines named i o → Inlines named b p → Inlines named (put_element n i b) (p_element n o p)
    u_copy : {i b : Body} {o p : CallFreeBody} → Inlines named i o → Inlines named b p → Inlines named (copy i b) (p_copy o p)
    u_apply : {w : Path} {m : ℕ} {b : Body} {p : CallFreeBody} → Inlines named b p → Inlines named (apply w m b) (p_apply w m p)
    u_call : {n : ℕ} {i b : Body} {o p : CallFreeBody} → slice_get named n ≡ Some i → Inlines named i o → Inlines named b p → Inlines named (call n b) (p_call o p)
    u_value : {w : Path} {b : Body} {p : CallFreeBody} → Inlines named b p → Inlines named (value w b) (p_value w p)
    u_self : {b : Body} {p : CallFreeBody} → Inlines named b p → Inlines named (value_of_self b) (p_self p)
    u_choose : {x : Branches} {b : Body} {y : CallFreeBranches} {p : CallFreeBody} → BranchesInline named x y → Inlines named b p → Inlines named (choose x b) (p_choose y p)
    u_each : {e : ℕ} {w : Path} {i b : Body} {o p : CallFreeBody} → Inlines named i o → Inlines named b p → Inlines named (for_each e w i b) (p_each e w o p)

  pub data BranchesInline (named : List Body) : Branches → CallFreeBranches → Type 0 where
    u_otherwise : {b : Body} {p : CallFreeBody} → Inlines named b p → BranchesInline named (otherwise b) (p_otherwise p)
    u_branch : {t : Test} {b : Body} {x : Branches} {p : CallFreeBody} {y : CallFreeBranches} → Inlines named b p → BranchesInline named x y → BranchesInline named (branch t b x) (p_branch t p y)
