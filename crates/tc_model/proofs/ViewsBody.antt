-- What a layer of a body is, seen as plain data.
use Rattle.std.proofs.Common.{◌≡◌, ℕ, ◌+◌, ◌<◌, List, [], ◌∷◌, ◌++◌, refl, ap, ◌∙◌, sym, map, Bor, length, get_or, drop, subst}
use Rattle.std.proofs.lemmas.List.{drop_more}
use Rattle.tc_model.specs.Sheets as s
use Rattle.tc_model.specs.Sheets.{Body, Branches}
use Rattle.tc_model.specs.Views.{name, path, test, body_layers, branch_layers, instruction_layer, branch_layer, instruction, body, branches}
use Rattle.tc_model.specs.declared.tree.Name.{Name}
use Rattle.tc_model.specs.declared.sheet.Path.{Path}
use Rattle.tc_model.specs.declared.sheet.Branch.{Branch}
use Rattle.tc_model.specs.declared.sheet.Instr.{Instr, Instr-F}
use Rattle.tc_model.specs.declared.sheet.Instr.TheOpen as parts
use Rattle.tc_model.specs.declared.sheet.Instr.TheVariants as v
use Rattle.tc_model.specs.declared.sheet.Instr.TheViews.{roll-Instr, out-Instr, roll-out-Instr}
use Rattle.tc_model.specs.declared.sheet.Instr.TheFolds.{fold-Branch, fold-roll-Instr, fold_out-Branch}

abbrev folded_branch : Branch → Branches → Branches
folded_branch = fold-Branch (Body → Body) (Branches → Branches) instruction_layer branch_layer

body_map : (is : List Instr) → body_layers (map instruction is) ≡ body is
body_map [] = refl
body_map (i ∷ is) = ap (instruction i) (body_map is)

folded_branch_is : (b : Branch) (rest : Branches) → folded_branch b rest ≡ s.branch (test b.test) (body b.body.now) rest
folded_branch_is b rest =
    ap (λ (f : Branches → Branches). f rest) (fold_out-Branch (Body → Body) (Branches → Branches) instruction_layer branch_layer b)
    ∙ ap (λ x. s.branch (test b.test) x rest) (body_map b.body.now)

branches_map : (bs : List Branch) (rest : Branches) → branch_layers (map folded_branch bs) rest ≡ branches bs rest
branches_map [] rest = refl
branches_map (b ∷ bs) rest =
    folded_branch_is b (branch_layers (map folded_branch bs) rest) ∙ ap (s.branch (test b.test) (body b.body.now)) (branches_map bs rest)

-- an instruction by its layer
by_layer : (f : Instr-F Instr Branch) (i : Instr) (rest : Body) → roll-Instr f ≡ i → instruction i rest ≡ instruction (roll-Instr f) rest
by_layer f i rest e = ap (λ (x : Instr). instruction x rest) (sym e)

pub see_text : (x : Bor (List ℕ)) (rest : Body) → instruction (v.Text x) rest ≡ s.put_text x.now rest
see_text x rest =
    by_layer (parts.Text x) (v.Text x) rest (v.rolls-Text x)
    ∙ ap (λ (f : Body → Body). f rest) (fold-roll-Instr (Body → Body) (Branches → Branches) instruction_layer branch_layer (parts.Text x))

pub see_elem : (n : Name) (b : Bor (List Instr)) (rest : Body) → instruction (v.Elem n b) rest ≡ s.put_element (name n) (body b.now) rest
see_elem n b rest =
    by_layer (parts.Elem n b) (v.Elem n b) rest (v.rolls-Elem n b)
    ∙ (ap (λ (f : Body → Body). f rest) (fold-roll-Instr (Body → Body) (Branches → Branches) instruction_layer branch_layer (parts.Elem n b))
    ∙ ap (λ x. s.put_element (name n) x rest) (body_map b.now))

pub see_copy : (b : Bor (List Instr)) (rest : Body) → instruction (v.Copy b) rest ≡ s.copy (body b.now) rest
see_copy b rest =
    by_layer (parts.Copy b) (v.Copy b) rest (v.rolls-Copy b)
    ∙ (ap (λ (f : Body → Body). f rest) (fold-roll-Instr (Body → Body) (Branches → Branches) instruction_layer branch_layer (parts.Copy b))
    ∙ ap (λ x. s.copy x rest) (body_map b.now))

pub see_apply : (p : Path) (mode : ℕ) (rest : Body) → instruction (v.Apply p mode) rest ≡ s.apply (path p) mode rest
see_apply p mode rest =
    by_layer (parts.Apply p mode) (v.Apply p mode) rest (v.rolls-Apply p mode)
    ∙ ap (λ (f : Body → Body). f rest) (fold-roll-Instr (Body → Body) (Branches → Branches) instruction_layer branch_layer (parts.Apply p mode))

pub see_call : (n : ℕ) (rest : Body) → instruction (v.Call n) rest ≡ s.call n rest
see_call n rest =
    by_layer (parts.Call n) (v.Call n) rest (v.rolls-Call n)
    ∙ ap (λ (f : Body → Body). f rest) (fold-roll-Instr (Body → Body) (Branches → Branches) instruction_layer branch_layer (parts.Call n))

pub see_value_of : (p : Path) (rest : Body) → instruction (v.ValueOf p) rest ≡ s.value (path p) rest
see_value_of p rest =
    by_layer (parts.ValueOf p) (v.ValueOf p) rest (v.rolls-ValueOf p)
    ∙ ap (λ (f : Body → Body). f rest) (fold-roll-Instr (Body → Body) (Branches → Branches) instruction_layer branch_layer (parts.ValueOf p))

pub see_value_of_self : (rest : Body) → instruction v.ValueOfSelf rest ≡ s.value_of_self rest
see_value_of_self rest =
    by_layer parts.ValueOfSelf v.ValueOfSelf rest v.rolls-ValueOfSelf
    ∙ ap (λ (f : Body → Body). f rest) (fold-roll-Instr (Body → Body) (Branches → Branches) instruction_layer branch_layer parts.ValueOfSelf)

pub see_choose : (bs : Bor (List Branch)) (b : Bor (List Instr)) (rest : Body) → instruction (v.Choose bs b) rest ≡ s.choose (branches bs.now (s.otherwise (body b.now))) rest
see_choose bs b rest =
    by_layer (parts.Choose bs b) (v.Choose bs b) rest (v.rolls-Choose bs b)
    ∙ (ap (λ (f : Body → Body). f rest) (fold-roll-Instr (Body → Body) (Branches → Branches) instruction_layer branch_layer (parts.Choose bs b))
    ∙ (ap (λ x. s.choose x rest) (branches_map bs.now (s.otherwise (body_layers (map instruction b.now))))
    ∙ ap (λ x. s.choose (branches bs.now (s.otherwise x)) rest) (body_map b.now)))

pub see_for_each : (n : ℕ) (p : Path) (b : Bor (List Instr)) (rest : Body) → instruction (v.ForEach n p b) rest ≡ s.for_each n (path p) (body b.now) rest
see_for_each n p b rest =
    by_layer (parts.ForEach n p b) (v.ForEach n p b) rest (v.rolls-ForEach n p b)
    ∙ (ap (λ (f : Body → Body). f rest) (fold-roll-Instr (Body → Body) (Branches → Branches) instruction_layer branch_layer (parts.ForEach n p b))
    ∙ ap (λ x. s.for_each n (path p) x rest) (body_map b.now))

pub ruleset see_instruction = (see_text, see_elem, see_copy, see_apply, see_call, see_value_of, see_value_of_self, see_choose, see_for_each)

-- one step of a loop over a slice: what is left begins with the instruction or the branch x
pub left_instruction : (is : List Instr) (k : ℕ) (x : Instr) → k < length is → x ≡ get_or is k x → body (drop k is) ≡ instruction x (body (drop (k + 1) is))
left_instruction is k x h e = ap body (drop_more is k x h) ∙ ap (λ y. instruction y (body (drop (k + 1) is))) (sym e)

pub left_branch : (bs : List Branch) (k : ℕ) (x : Branch) (rest : Branches) → k < length bs → x ≡ get_or bs k x
    → branches (drop k bs) rest ≡ s.branch (test x.test) (body x.body.now) (branches (drop (k + 1) bs) rest)
left_branch bs k x rest h e =
    ap (λ l. branches l rest) (drop_more bs k x h) ∙ ap (λ (y : Branch). s.branch (test y.test) (body y.body.now) (branches (drop (k + 1) bs) rest)) (sym e)

-- the instructions of the first, and then those of the second
abbrev pub body_then : Body → Body → Body
body_then s.no_instruction c = c
body_then (s.put_text x b) c = s.put_text x (body_then b c)
body_then (s.put_element n i b) c = s.put_element n i (body_then b c)
body_then (s.copy i b) c = s.copy i (body_then b c)
body_then (s.apply p m b) c = s.apply p m (body_then b c)
body_then (s.call n b) c = s.call n (body_then b c)
body_then (s.value p b) c = s.value p (body_then b c)
body_then (s.value_of_self b) c = s.value_of_self (body_then b c)
body_then (s.choose x b) c = s.choose x (body_then b c)
body_then (s.for_each n p i b) c = s.for_each n p i (body_then b c)

-- whether an instruction stands before those after it
abbrev Stands : Body → Body → Instr → Type 0
Stands b c i = body_then (instruction i b) c ≡ instruction i (body_then b c)

stands : (i : Instr) (b c : Body) (put : Body → Body) → ((rest : Body) → instruction i rest ≡ put rest) → body_then (put b) c ≡ put (body_then b c) → Stands b c i
stands i b c put see same = ap (λ x. body_then x c) (see b) ∙ (same ∙ sym (see (body_then b c)))

stands_by_layer : (f : Instr-F Instr Branch) (b c : Body) → Stands b c (roll-Instr f)
stands_by_layer (parts.Text x) b c = subst (Stands b c) (sym (v.rolls-Text x)) (stands (v.Text x) b c (λ r. s.put_text x.now r) (see_text x) refl)
stands_by_layer (parts.Elem n i) b c = subst (Stands b c) (sym (v.rolls-Elem n i)) (stands (v.Elem n i) b c (λ r. s.put_element (name n) (body i.now) r) (see_elem n i) refl)
stands_by_layer (parts.Copy i) b c = subst (Stands b c) (sym (v.rolls-Copy i)) (stands (v.Copy i) b c (λ r. s.copy (body i.now) r) (see_copy i) refl)
stands_by_layer (parts.Apply p m) b c = subst (Stands b c) (sym (v.rolls-Apply p m)) (stands (v.Apply p m) b c (λ r. s.apply (path p) m r) (see_apply p m) refl)
stands_by_layer (parts.Call n) b c = subst (Stands b c) (sym (v.rolls-Call n)) (stands (v.Call n) b c (λ r. s.call n r) (see_call n) refl)
stands_by_layer (parts.ValueOf p) b c = subst (Stands b c) (sym (v.rolls-ValueOf p)) (stands (v.ValueOf p) b c (λ r. s.value (path p) r) (see_value_of p) refl)
stands_by_layer parts.ValueOfSelf b c = subst (Stands b c) (sym v.rolls-ValueOfSelf) (stands v.ValueOfSelf b c (λ r. s.value_of_self r) see_value_of_self refl)
stands_by_layer (parts.Choose bs i) b c =
    subst (Stands b c) (sym (v.rolls-Choose bs i)) (stands (v.Choose bs i) b c (λ r. s.choose (branches bs.now (s.otherwise (body i.now))) r) (see_choose bs i) refl)
stands_by_layer (parts.ForEach n p i) b c =
    subst (Stands b c) (sym (v.rolls-ForEach n p i)) (stands (v.ForEach n p i) b c (λ r. s.for_each n (path p) (body i.now) r) (see_for_each n p i) refl)

pub instruction_then : (i : Instr) (b c : Body) → body_then (instruction i b) c ≡ instruction i (body_then b c)
instruction_then i b c = subst (Stands b c) (roll-out-Instr i) (stands_by_layer (out-Instr i) b c)

pub body_append : (is js : List Instr) → body (is ++ js) ≡ body_then (body is) (body js)
body_append [] js = refl
body_append (i ∷ is) js = ap (instruction i) (body_append is js) ∙ sym (instruction_then i (body is) (body js))

pub pushed_instruction : (is : List Instr) (x : Instr) → body (is ++ x ∷ []) ≡ body_then (body is) (instruction x s.no_instruction)
pushed_instruction is x = body_append is (x ∷ [])

pub body_then_done : (b : Body) → body_then b s.no_instruction ≡ b
body_then_done s.no_instruction = refl
body_then_done (s.put_text x b) = ap (s.put_text x) (body_then_done b)
body_then_done (s.put_element n i b) = ap (s.put_element n i) (body_then_done b)
body_then_done (s.copy i b) = ap (s.copy i) (body_then_done b)
body_then_done (s.apply p m b) = ap (s.apply p m) (body_then_done b)
body_then_done (s.call n b) = ap (s.call n) (body_then_done b)
body_then_done (s.value p b) = ap (s.value p) (body_then_done b)
body_then_done (s.value_of_self b) = ap s.value_of_self (body_then_done b)
body_then_done (s.choose x b) = ap (s.choose x) (body_then_done b)
body_then_done (s.for_each n p i b) = ap (s.for_each n p i) (body_then_done b)

pub body_then_assoc : (a b c : Body) → body_then (body_then a b) c ≡ body_then a (body_then b c)
body_then_assoc s.no_instruction b c = refl
body_then_assoc (s.put_text x a) b c = ap (s.put_text x) (body_then_assoc a b c)
body_then_assoc (s.put_element n i a) b c = ap (s.put_element n i) (body_then_assoc a b c)
body_then_assoc (s.copy i a) b c = ap (s.copy i) (body_then_assoc a b c)
body_then_assoc (s.apply p m a) b c = ap (s.apply p m) (body_then_assoc a b c)
body_then_assoc (s.call n a) b c = ap (s.call n) (body_then_assoc a b c)
body_then_assoc (s.value p a) b c = ap (s.value p) (body_then_assoc a b c)
body_then_assoc (s.value_of_self a) b c = ap s.value_of_self (body_then_assoc a b c)
body_then_assoc (s.choose x a) b c = ap (s.choose x) (body_then_assoc a b c)
body_then_assoc (s.for_each n p i a) b c = ap (s.for_each n p i) (body_then_assoc a b c)

pub branches_append : (bs cs : List Branch) (rest : Branches) → branches (bs ++ cs) rest ≡ branches bs (branches cs rest)
branches_append [] cs rest = refl
branches_append (b ∷ bs) cs rest = ap (s.branch (test b.test) (body b.body.now)) (branches_append bs cs rest)

pub pushed_branch : (bs : List Branch) (x : Branch) (rest : Branches) → branches (bs ++ x ∷ []) rest ≡ branches bs (s.branch (test x.test) (body x.body.now) rest)
pushed_branch bs x rest = branches_append bs (x ∷ []) rest
