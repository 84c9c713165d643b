-- What a stylesheet puts out (XSLT 1.0, 5 to 9).
use Rattle.std.specs.Prelude.{◌≡◌, ℕ, List, [], ◌∷◌, Bool, true, false, ◌&&◌, if◌then◌else◌, nat_eq, int_lt, Option, Some, None, slice_get}
use Rattle.tc_model.specs.Names.{ExpandedName}
use Rattle.tc_model.specs.Chains.{an_element, a_text, Chain, Node, whole, one, node_of, string_value, first_node}
use Rattle.tc_model.specs.Sheets.{any_node, no_step, step, Path, no_alternative, alternative, Test, always, Body, no_instruction, put_text, put_element, copy, apply, call, for_each, value, value_of_self, choose, Branches, otherwise, branch, Rule}
use Rattle.tc_model.specs.Outcomes.{Outcome, nothing, join, within, counted, put, put_around, copied}
use Rattle.tc_model.specs.Paths.{selected, holds, fits}

-- the string-value of a node that is selected first, if there is one (XSLT, 7.6.1)
abbrev pub value_of_first : Option Node → List ℕ
value_of_first None = []
value_of_first (Some n) = string_value n

-- what is to be done on a node: what the rules say in a mode, or the body of a for-each
pub data Job : Type 0 where
  by_mode : ℕ → Job
  by_body : Body → Job

-- all children
abbrev pub all_children : Path
all_children = alternative (step false any_node always no_step) no_alternative

-- the built-in rules (XSLT, 5.8): the children of the root and of elements in the same mode; a text is copied
abbrev pub built_in : ℕ → Node → Body
built_in m (one (a_text s)) = value_of_self no_instruction
built_in m _ = apply all_children m no_instruction

-- the root, or an element
abbrev pub IsInner : Node → Type 0
IsInner (one (a_text s)) = ⊥
IsInner _ = Unit {0}

-- a rule, where it fits, before the best of those that come later
abbrev pub better : Bool → Rule → Option Rule → Option Rule
better fits_here r None = if fits_here then Some r else None
better fits_here r (Some later) = if fits_here && int_lt later.priority r.priority then Some r else Some later

abbrev pub body_or : Body → Option Rule → Body
body_or b None = b
body_or b (Some r) = r.body

-- the rule of a node in a mode: of those that fit, the last of greatest priority (XSLT, 5.5, 5.7)
abbrev pub rule_of : List Rule → ℕ → Chain → Option Rule
rule_of [] m c = None
rule_of (r ∷ rs) m c = better (nat_eq r.mode m && fits r.pattern c) r (rule_of rs m c)

module _ (rules : List Rule) where
  -- what a job does on a node
  abbrev pub body_of : Job → Chain → Body
  body_of (by_mode m) c = body_or (built_in m (node_of c)) (rule_of rules m c)
  body_of (by_body b) c = b

module _ (rules : List Rule) (named : List Body) where
  mutual
    -- what a body puts out on a node
    pub data Does : Body → Chain → Outcome → Type 0 where
      does_no_instruction : {c : Chain} → Does no_instruction c nothing
      -- 5.4
      does_apply : {p : Path} {m : ℕ} {b : Body} {c : Chain} {k h : Outcome} → Each (by_mode m) (selected p c) k → Does b c h → Does (apply p m b) c (join (within k) h)
      -- 6
      does_call : {n : ℕ} {b : Body} {c : Chain} {k h : Outcome} (i : Body) → slice_get named n ≡ Some i → Does i c k → Does b c h → Does (call n b) c (join (within (counted k)) h)
      -- 7.1
      does_element : {n : ExpandedName} {inner b : Body} {c : Chain} {k h : Outcome} → Does inner c k → Does b c h → Does (put_element n inner b) c (join (within (put_around n k)) h)
      -- 7.2
      does_text : {x : List ℕ} {b : Body} {c : Chain} {h : Outcome} → Does b c h → Does (put_text x b) c (join (within (put x)) h)
      -- 7.5
      does_copy : {inner b : Body} {c : Chain} {k h : Outcome} → IsInner (node_of c) → Does inner c k → Does b c h → Does (copy inner b) c (join (within (copied (node_of c) k)) h)
      does_copy_text : {inner b : Body} {c : Chain} {x : List ℕ} {h : Outcome} → node_of c ≡ one (a_text x) → Does b c h → Does (copy inner b) c (join (within (put x)) h)
      -- 7.6.1
      does_value : {p : Path} {b : Body} {c : Chain} {h : Outcome} → Does b c h → Does (value p b) c (join (within (put (value_of_first (first_node (selected p c))))) h)
      does_self : {b : Body} {c : Chain} {h : Outcome} → Does b c h → Does (value_of_self b) c (join (within (put (string_value (node_of c)))) h)
      -- 8
      does_for_each : {e : ℕ} {p : Path} {inner b : Body} {c : Chain} {k h : Outcome} → Each (by_body inner) (selected p c) k → Does b c h → Does (for_each e p inner b) c (join (within k) h)
      -- 9
      does_choose : {x : Branches} {b : Body} {c : Chain} {k h : Outcome} → Takes x c k → Does b c h → Does (choose x b) c (join (within k) h)

    -- what the first branch puts out whose test holds
    pub data Takes : Branches → Chain → Outcome → Type 0 where
      takes_last : {b : Body} {c : Chain} {h : Outcome} → Does b c h → Takes (otherwise b) c h
      takes_this : {t : Test} {b : Body} {x : Branches} {c : Chain} {h : Outcome} → holds t c ≡ true → Does b c h → Takes (branch t b x) c h
      takes_later : {t : Test} {b : Body} {x : Branches} {c : Chain} {h : Outcome} → holds t c ≡ false → Takes x c h → Takes (branch t b x) c h

    -- what a job puts out on several nodes, one after the other
    pub data Each : Job → List Chain → Outcome → Type 0 where
      on_none : {j : Job} → Each j [] nothing
      on_one : {j : Job} {c : Chain} {cs : List Chain} {h k : Outcome} → Does (body_of rules j c) c h → Each j cs k → Each j (c ∷ cs) (join (counted h) k)
