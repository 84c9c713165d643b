-- The branches and the for-eaches of an instruction, and of those after it.
use Rattle.std.proofs.Common.{◌≡◌, ◌⊎◌, inl, inr, false, cond, ℕ, ◌+◌, ◌<◌, ◌≤◌, List, [], ◌∷◌, refl, ap, ◌∙◌, sym, subst, arith, length, get_or, drop, Bor}
use Rattle.std.proofs.lemmas.List.{drop_all, get_or_default}
use Rattle.tc_model.specs.Names.{ExpandedName}
use Rattle.tc_model.specs.Sheets as s
use Rattle.tc_model.specs.Sheets.{Body, Branches}
use Rattle.tc_model.specs.Views.{name, path, test, instruction, body, branches}
use Rattle.tc_model.specs.declared.tree.Name.{Name}
use Rattle.tc_model.specs.declared.sheet.Path.{Path}
use Rattle.tc_model.specs.declared.sheet.Branch.{Branch}
use Rattle.tc_model.specs.declared.sheet.Instr.{Instr, Instr-F}
use Rattle.tc_model.specs.declared.sheet.Instr.TheOpen as parts
use Rattle.tc_model.specs.declared.sheet.Instr.TheVariants as v
use Rattle.tc_model.specs.declared.sheet.Instr.TheViews.{roll-Instr, out-Instr, roll-out-Instr}
use Rattle.tc_model.proofs.ViewsBody.{see_text, see_elem, see_copy, see_apply, see_call, see_value_of, see_value_of_self, see_choose, see_for_each, left_instruction, left_branch}
use Rattle.tc_dead.specs.Spots.{branches_of, branches_in, eaches_of, eaches_in, is_nothing}
use Rattle.tc_dead.specs.Views.{alone, open_branches}

-- puts one instruction before others
abbrev pub Layer : Type 0
Layer = Body → Body

-- what holds of each way of putting an instruction before others holds of each instruction
pub record Cases (P : Layer → Type 0) : Type 0 where
  pub along : (f g : Layer) → ((rest : Body) → f rest ≡ g rest) → P g → P f
  pub text : (t : List ℕ) → P (λ r. s.put_text t r)
  pub elem : (n : ExpandedName) (b : Body) → P (λ r. s.put_element n b r)
  pub copy : (b : Body) → P (λ r. s.copy b r)
  pub apply : (p : s.Path) (m : ℕ) → P (λ r. s.apply p m r)
  pub call : (n : ℕ) → P (λ r. s.call n r)
  pub value : (p : s.Path) → P (λ r. s.value p r)
  pub self : P (λ r. s.value_of_self r)
  pub choose : (x : Branches) → P (λ r. s.choose x r)
  pub each : (n : ℕ) (p : s.Path) (b : Body) → P (λ r. s.for_each n p b r)

by_layer : (P : Layer → Type 0) → Cases P → (f : Instr-F Instr Branch) → P (instruction (roll-Instr f))
by_layer P k (parts.Text x) = subst (λ i. P (instruction i)) (sym (v.rolls-Text x)) (k.along (instruction (v.Text x)) (λ r. s.put_text x.now r) (see_text x) (k.text x.now))
by_layer P k (parts.Elem n b) = subst (λ i. P (instruction i)) (sym (v.rolls-Elem n b)) (k.along (instruction (v.Elem n b)) (λ r. s.put_element (name n) (body b.now) r) (see_elem n b) (k.elem (name n) (body b.now)))
by_layer P k (parts.Copy b) = subst (λ i. P (instruction i)) (sym (v.rolls-Copy b)) (k.along (instruction (v.Copy b)) (λ r. s.copy (body b.now) r) (see_copy b) (k.copy (body b.now)))
by_layer P k (parts.Apply p m) = subst (λ i. P (instruction i)) (sym (v.rolls-Apply p m)) (k.along (instruction (v.Apply p m)) (λ r. s.apply (path p) m r) (see_apply p m) (k.apply (path p) m))
by_layer P k (parts.Call n) = subst (λ i. P (instruction i)) (sym (v.rolls-Call n)) (k.along (instruction (v.Call n)) (λ r. s.call n r) (see_call n) (k.call n))
by_layer P k (parts.ValueOf p) = subst (λ i. P (instruction i)) (sym (v.rolls-ValueOf p)) (k.along (instruction (v.ValueOf p)) (λ r. s.value (path p) r) (see_value_of p) (k.value (path p)))
by_layer P k parts.ValueOfSelf = subst (λ i. P (instruction i)) (sym v.rolls-ValueOfSelf) (k.along (instruction v.ValueOfSelf) (λ r. s.value_of_self r) see_value_of_self k.self)
by_layer P k (parts.Choose bs b) =
    subst (λ i. P (instruction i)) (sym (v.rolls-Choose bs b))
    (k.along (instruction (v.Choose bs b)) (λ r. s.choose (branches bs.now (s.otherwise (body b.now))) r) (see_choose bs b) (k.choose (branches bs.now (s.otherwise (body b.now)))))
by_layer P k (parts.ForEach n p b) =
    subst (λ i. P (instruction i)) (sym (v.rolls-ForEach n p b)) (k.along (instruction (v.ForEach n p b)) (λ r. s.for_each n (path p) (body b.now) r) (see_for_each n p b) (k.each n (path p) (body b.now)))

pub by_cases : (P : Layer → Type 0) → Cases P → (i : Instr) → P (instruction i)
by_cases P k i = subst (λ z. P (instruction z)) (roll-out-Instr i) (by_layer P k (out-Instr i))

abbrev BranchesThen : Layer → Type 0
BranchesThen f = (rest : Body) → branches_of (f rest) ≡ branches_of (f s.no_instruction) + branches_of rest

branches_cases : Cases BranchesThen
branches_cases = record {
  along = λ f g e h rest. ap branches_of (e rest) ∙ (h rest ∙ ap (λ z. branches_of z + branches_of rest) (sym (e s.no_instruction)));
  text = λ t rest. omega arith;
  elem = λ n b rest. omega arith;
  copy = λ b rest. omega arith;
  apply = λ p m rest. omega arith;
  call = λ n rest. omega arith;
  value = λ p rest. omega arith;
  self = λ rest. omega arith;
  choose = λ x rest. omega arith;
  each = λ n p b rest. omega arith;
}

abbrev EachesThen : Layer → Type 0
EachesThen f = (rest : Body) → eaches_of (f rest) ≡ eaches_of (f s.no_instruction) + eaches_of rest

eaches_cases : Cases EachesThen
eaches_cases = record {
  along = λ f g e h rest. ap eaches_of (e rest) ∙ (h rest ∙ ap (λ z. eaches_of z + eaches_of rest) (sym (e s.no_instruction)));
  text = λ t rest. omega arith;
  elem = λ n b rest. omega arith;
  copy = λ b rest. omega arith;
  apply = λ p m rest. omega arith;
  call = λ n rest. omega arith;
  value = λ p rest. omega arith;
  self = λ rest. omega arith;
  choose = λ x rest. omega arith;
  each = λ n p b rest. omega arith;
}

pub branches_then : (i : Instr) (rest : Body) → branches_of (instruction i rest) ≡ branches_of (alone i) + branches_of rest
branches_then i = by_cases BranchesThen branches_cases i

pub eaches_then : (i : Instr) (rest : Body) → eaches_of (instruction i rest) ≡ eaches_of (alone i) + eaches_of rest
eaches_then i = by_cases EachesThen eaches_cases i

-- one step of a loop over instructions
module _ (is : List Instr) (k : ℕ) (x : Instr) (h : k < length is) (e : x ≡ get_or is k x) where
  pub branches_step : branches_of (body (drop k is)) ≡ branches_of (alone x) + branches_of (body (drop (k + 1) is))
  branches_step = ap branches_of (left_instruction is k x h e) ∙ branches_then x (body (drop (k + 1) is))

  pub eaches_step : eaches_of (body (drop k is)) ≡ eaches_of (alone x) + eaches_of (body (drop (k + 1) is))
  eaches_step = ap eaches_of (left_instruction is k x h e) ∙ eaches_then x (body (drop (k + 1) is))

-- and over branches
module _ (bs : List Branch) (k : ℕ) (d : Branch) (h : k < length bs) where
  abbrev x : Branch
  x = get_or bs k d

  pub next_branch : (rest : Branches) → branches (drop k bs) rest ≡ s.branch (test x.test) (body x.body.now) (branches (drop (k + 1) bs) rest)
  next_branch rest = left_branch bs k x rest h (sym (get_or_default bs k x d h))

  pub branches_branch : branches_in (open_branches (drop k bs)) ≡ 1 + branches_of (body x.body.now) + branches_in (open_branches (drop (k + 1) bs))
  branches_branch = ap branches_in (next_branch (s.otherwise s.no_instruction))

  pub eaches_branch : eaches_in (open_branches (drop k bs)) ≡ eaches_of (body x.body.now) + eaches_in (open_branches (drop (k + 1) bs))
  eaches_branch = ap eaches_in (next_branch (s.otherwise s.no_instruction))

-- nothing is left
pub no_body_left : (is : List Instr) (k : ℕ) → length is ≤ k → body (drop k is) ≡ s.no_instruction
no_body_left is k h = ap body (drop_all k is h)

pub no_branches_left : (bs : List Branch) (k : ℕ) → length bs ≤ k → open_branches (drop k bs) ≡ s.otherwise s.no_instruction
no_branches_left bs k h = ap open_branches (drop_all k bs h)

pub branches_end : (is : List Instr) (k : ℕ) → length is ≤ k → branches_of (body (drop k is)) ≡ 0
branches_end is k h = ap branches_of (no_body_left is k h)

pub eaches_end : (is : List Instr) (k : ℕ) → length is ≤ k → eaches_of (body (drop k is)) ≡ 0
eaches_end is k h = ap eaches_of (no_body_left is k h)

pub branches_branches_end : (bs : List Branch) (k : ℕ) → length bs ≤ k → branches_in (open_branches (drop k bs)) ≡ 0
branches_branches_end bs k h = ap branches_in (no_branches_left bs k h)

pub eaches_branches_end : (bs : List Branch) (k : ℕ) → length bs ≤ k → eaches_in (open_branches (drop k bs)) ≡ 0
eaches_branches_end bs k h = ap eaches_in (no_branches_left bs k h)

-- branches before the last
pub choose_branches : (bs : List Branch) (b : Body) → branches_in (branches bs (s.otherwise b)) ≡ branches_in (open_branches bs) + branches_in (s.otherwise b)
choose_branches [] b = omega arith
choose_branches (x ∷ bs) b = omega (arith, choose_branches bs b)

pub choose_eaches : (bs : List Branch) (b : Body) → eaches_in (branches bs (s.otherwise b)) ≡ eaches_in (open_branches bs) + eaches_of b
choose_eaches [] b = omega arith
choose_eaches (x ∷ bs) b = omega (arith, choose_eaches bs b)

-- each instruction alone
pub branches_of_text : (x : Bor (List ℕ)) → branches_of (alone (v.Text x)) ≡ 0
branches_of_text x = ap branches_of (see_text x s.no_instruction)

pub branches_of_elem : (n : Name) (b : Bor (List Instr)) → branches_of (alone (v.Elem n b)) ≡ branches_of (body b.now)
branches_of_elem n b = ap branches_of (see_elem n b s.no_instruction) ∙ (omega arith)

pub branches_of_copy : (b : Bor (List Instr)) → branches_of (alone (v.Copy b)) ≡ branches_of (body b.now)
branches_of_copy b = ap branches_of (see_copy b s.no_instruction) ∙ (omega arith)

pub branches_of_apply : (p : Path) (m : ℕ) → branches_of (alone (v.Apply p m)) ≡ 0
branches_of_apply p m = ap branches_of (see_apply p m s.no_instruction)

pub branches_of_call : (n : ℕ) → branches_of (alone (v.Call n)) ≡ 0
branches_of_call n = ap branches_of (see_call n s.no_instruction)

pub branches_of_value : (p : Path) → branches_of (alone (v.ValueOf p)) ≡ 0
branches_of_value p = ap branches_of (see_value_of p s.no_instruction)

pub branches_of_self : branches_of (alone v.ValueOfSelf) ≡ 0
branches_of_self = ap branches_of (see_value_of_self s.no_instruction)

pub branches_of_choose : (bs : Bor (List Branch)) (b : Bor (List Instr)) → branches_of (alone (v.Choose bs b)) ≡ branches_in (open_branches bs.now) + branches_in (s.otherwise (body b.now))
branches_of_choose bs b = ap branches_of (see_choose bs b s.no_instruction) ∙ (omega (arith, choose_branches bs.now (body b.now)))

pub branches_of_each : (n : ℕ) (p : Path) (b : Bor (List Instr)) → branches_of (alone (v.ForEach n p b)) ≡ branches_of (body b.now)
branches_of_each n p b = ap branches_of (see_for_each n p b s.no_instruction) ∙ (omega arith)

pub ruleset branches_alone = (branches_of_text, branches_of_elem, branches_of_copy, branches_of_apply, branches_of_call, branches_of_value, branches_of_self, branches_of_choose, branches_of_each)

pub eaches_of_text : (x : Bor (List ℕ)) → eaches_of (alone (v.Text x)) ≡ 0
eaches_of_text x = ap eaches_of (see_text x s.no_instruction)

pub eaches_of_elem : (n : Name) (b : Bor (List Instr)) → eaches_of (alone (v.Elem n b)) ≡ eaches_of (body b.now)
eaches_of_elem n b = ap eaches_of (see_elem n b s.no_instruction) ∙ (omega arith)

pub eaches_of_copy : (b : Bor (List Instr)) → eaches_of (alone (v.Copy b)) ≡ eaches_of (body b.now)
eaches_of_copy b = ap eaches_of (see_copy b s.no_instruction) ∙ (omega arith)

pub eaches_of_apply : (p : Path) (m : ℕ) → eaches_of (alone (v.Apply p m)) ≡ 0
eaches_of_apply p m = ap eaches_of (see_apply p m s.no_instruction)

pub eaches_of_call : (n : ℕ) → eaches_of (alone (v.Call n)) ≡ 0
eaches_of_call n = ap eaches_of (see_call n s.no_instruction)

pub eaches_of_value : (p : Path) → eaches_of (alone (v.ValueOf p)) ≡ 0
eaches_of_value p = ap eaches_of (see_value_of p s.no_instruction)

pub eaches_of_self : eaches_of (alone v.ValueOfSelf) ≡ 0
eaches_of_self = ap eaches_of (see_value_of_self s.no_instruction)

pub eaches_of_choose : (bs : Bor (List Branch)) (b : Bor (List Instr)) → eaches_of (alone (v.Choose bs b)) ≡ eaches_in (open_branches bs.now) + eaches_of (body b.now)
eaches_of_choose bs b = ap eaches_of (see_choose bs b s.no_instruction) ∙ (omega (arith, choose_eaches bs.now (body b.now)))

pub eaches_of_each : (n : ℕ) (p : Path) (b : Bor (List Instr)) → eaches_of (alone (v.ForEach n p b)) ≡ 1 + eaches_of (body b.now)
eaches_of_each n p b = ap eaches_of (see_for_each n p b s.no_instruction) ∙ (omega arith)

-- an instruction is something
abbrev IsSomething : Layer → Type 0
IsSomething f = (rest : Body) → is_nothing (f rest) ≡ false

something_cases : Cases IsSomething
something_cases = record {
  along = λ f g e h rest. ap is_nothing (e rest) ∙ h rest;
  text = λ t rest. refl;
  elem = λ n b rest. refl;
  copy = λ b rest. refl;
  apply = λ p m rest. refl;
  call = λ n rest. refl;
  value = λ p rest. refl;
  self = λ rest. refl;
  choose = λ x rest. refl;
  each = λ n p b rest. refl;
}

pub is_something : (is : List Instr) → 0 < length is → is_nothing (body is) ≡ false
is_something [] h = absurd (omega arith)
is_something (i ∷ is) h = by_cases IsSomething something_cases i (body is)

-- of an `otherwise` with instructions
pub branches_of_last : (is : List Instr) → 0 < length is → branches_in (s.otherwise (body is)) ≡ 1 + branches_of (body is)
branches_of_last is h = ap (λ z. cond z 0 1 + branches_of (body is)) (is_something is h)

-- an instruction that is another
pub branches_by : (i j : Instr) (n : ℕ) → i ≡ j → branches_of (alone j) ≡ n → branches_of (alone i) ≡ n
branches_by i j n e f = ap (λ z. branches_of (alone z)) e ∙ f

pub eaches_by : (i j : Instr) (n : ℕ) → i ≡ j → eaches_of (alone j) ≡ n → eaches_of (alone i) ≡ n
eaches_by i j n e f = ap (λ z. eaches_of (alone z)) e ∙ f

-- one that only holds a body
pub branches_within : (i : Instr) (b : Bor (List Instr))
    → ((n : Name) × (i ≡ v.Elem n b)) ⊎ ((i ≡ v.Copy b) ⊎ ((n : ℕ) × (p : Path) × (i ≡ v.ForEach n p b)))
    → branches_of (alone i) ≡ branches_of (body b.now)
branches_within i b (inl (n, e)) = branches_by i (v.Elem n b) (branches_of (body b.now)) e (branches_of_elem n b)
branches_within i b (inr (inl e)) = branches_by i (v.Copy b) (branches_of (body b.now)) e (branches_of_copy b)
branches_within i b (inr (inr (n, p, e))) = branches_by i (v.ForEach n p b) (branches_of (body b.now)) e (branches_of_each n p b)
