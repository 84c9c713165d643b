-- Which spots of a stylesheet a document instantiates (XSLT 1.0, 5 to 9), and which are dead.
use Rattle.std.specs.Prelude.{◌≡◌, ℕ, ◌+◌, List, ◌∷◌, true, false, Some, None, slice_get}
use Rattle.tc_model.specs.Names.{ExpandedName}
use Rattle.tc_model.specs.Trees.{Trees}
use Rattle.tc_model.specs.Grammars.{Grammar}
use Rattle.tc_model.specs.Validity.{IsValid}
use Rattle.tc_model.specs.Chains.{Chain, top, node_of}
use Rattle.tc_model.specs.Sheets.{Path, Test, Body, put_text, put_element, copy, apply, call, for_each, value, value_of_self, choose, Branches, otherwise, branch, Sheet}
use Rattle.tc_model.specs.Paths.{selected, holds}
use Rattle.tc_model.specs.Meaning.{IsInner, built_in}
use Rattle.tc_dead.specs.Spots.{Spot, a_rule, a_named_body, a_branch, is_nothing, branches_of, branches_in, NumberedRule, NumberedBody, numbered_rules, numbered_bodies, numbered_rule_of}

module _ (s : Sheet) (p : Spot) where
  mutual
    -- a body, of which the first branch has this number, instantiates the spot on a node: by its first instruction
    pub data ByBody : ℕ → Body → Chain → Type 0 where
      -- 5.4
      by_apply : {n m : ℕ} {q : Path} {b : Body} {c : Chain} → ByModes m (selected q c) → ByBody n (apply q m b) c
      -- 6
      by_call : {n k : ℕ} {b : Body} {c : Chain} (x : NumberedBody) → slice_get (numbered_bodies s) k ≡ Some x → p ≡ a_named_body x.number → ByBody n (call k b) c
      by_called : {n k : ℕ} {b : Body} {c : Chain} (x : NumberedBody) → slice_get (numbered_bodies s) k ≡ Some x → ByBody x.branches x.body c → ByBody n (call k b) c
      -- 7.1
      by_element : {n : ℕ} {a : ExpandedName} {inner b : Body} {c : Chain} → ByBody n inner c → ByBody n (put_element a inner b) c
      -- 7.5
      by_copy : {n : ℕ} {inner b : Body} {c : Chain} → IsInner (node_of c) → ByBody n inner c → ByBody n (copy inner b) c
      -- 8
      by_for_each : {n e : ℕ} {q : Path} {inner b : Body} {c : Chain} → ByBodies n inner (selected q c) → ByBody n (for_each e q inner b) c
      -- 9
      by_choose : {n : ℕ} {x : Branches} {b : Body} {c : Chain} → ByBranches n x c → ByBody n (choose x b) c
      -- or by those after it
      after_text : {n : ℕ} {x : List ℕ} {b : Body} {c : Chain} → ByBody n b c → ByBody n (put_text x b) c
      after_element : {n : ℕ} {a : ExpandedName} {inner b : Body} {c : Chain} → ByBody (n + branches_of inner) b c → ByBody n (put_element a inner b) c
      after_copy : {n : ℕ} {inner b : Body} {c : Chain} → ByBody (n + branches_of inner) b c → ByBody n (copy inner b) c
      after_apply : {n m : ℕ} {q : Path} {b : Body} {c : Chain} → ByBody n b c → ByBody n (apply q m b) c
      after_call : {n k : ℕ} {b : Body} {c : Chain} → ByBody n b c → ByBody n (call k b) c
      after_value : {n : ℕ} {q : Path} {b : Body} {c : Chain} → ByBody n b c → ByBody n (value q b) c
      after_self : {n : ℕ} {b : Body} {c : Chain} → ByBody n b c → ByBody n (value_of_self b) c
      after_choose : {n : ℕ} {x : Branches} {b : Body} {c : Chain} → ByBody (n + branches_in x) b c → ByBody n (choose x b) c
      after_for_each : {n e : ℕ} {q : Path} {inner b : Body} {c : Chain} → ByBody (n + branches_of inner) b c → ByBody n (for_each e q inner b) c

    -- the branch that is taken, or its body
    pub data ByBranches : ℕ → Branches → Chain → Type 0 where
      is_this : {n : ℕ} {t : Test} {b : Body} {x : Branches} {c : Chain} → holds t c ≡ true → p ≡ a_branch n → ByBranches n (branch t b x) c
      by_this : {n : ℕ} {t : Test} {b : Body} {x : Branches} {c : Chain} → holds t c ≡ true → ByBody (n + 1) b c → ByBranches n (branch t b x) c
      by_later : {n : ℕ} {t : Test} {b : Body} {x : Branches} {c : Chain} → holds t c ≡ false → ByBranches (n + 1 + branches_of b) x c → ByBranches n (branch t b x) c
      is_last : {n : ℕ} {b : Body} {c : Chain} → is_nothing b ≡ false → p ≡ a_branch n → ByBranches n (otherwise b) c
      by_last : {n : ℕ} {b : Body} {c : Chain} → is_nothing b ≡ false → ByBody (n + 1) b c → ByBranches n (otherwise b) c

    -- the rule of a node in a mode, or its body; a built-in rule is no spot, and has no branch
    pub data ByMode : ℕ → Chain → Type 0 where
      is_rule : {m : ℕ} {c : Chain} (r : NumberedRule) → numbered_rule_of (numbered_rules s) m c ≡ Some r → p ≡ a_rule r.number → ByMode m c
      by_rule : {m : ℕ} {c : Chain} (r : NumberedRule) → numbered_rule_of (numbered_rules s) m c ≡ Some r → ByBody r.branches r.rule.body c → ByMode m c
      by_built_in : {m : ℕ} {c : Chain} → numbered_rule_of (numbered_rules s) m c ≡ None → ByBody 0 (built_in m (node_of c)) c → ByMode m c

    -- some of several nodes in a mode
    pub data ByModes : ℕ → List Chain → Type 0 where
      at_this : {m : ℕ} {c : Chain} {cs : List Chain} → ByMode m c → ByModes m (c ∷ cs)
      at_later : {m : ℕ} {c : Chain} {cs : List Chain} → ByModes m cs → ByModes m (c ∷ cs)

    -- and by the body of a for-each
    pub data ByBodies : ℕ → Body → List Chain → Type 0 where
      on_this : {n : ℕ} {b : Body} {c : Chain} {cs : List Chain} → ByBody n b c → ByBodies n b (c ∷ cs)
      on_later : {n : ℕ} {b : Body} {c : Chain} {cs : List Chain} → ByBodies n b cs → ByBodies n b (c ∷ cs)

-- a document instantiates a spot: its root does in the default mode
abbrev pub IsInstantiated : Sheet → Trees → Spot → Type 0
IsInstantiated s d p = ByMode s p 0 (top d)

-- no valid document instantiates it
abbrev pub IsDead : Grammar → Sheet → Spot → Type 0
IsDead i s p = (d : Trees) → IsValid i d → ¬ (IsInstantiated s d p)
