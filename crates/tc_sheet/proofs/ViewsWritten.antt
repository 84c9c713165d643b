-- What a layer of a body that is written is, seen as plain data.
use Rattle.std.proofs.Common.{◌≡◌, ℕ, ◌+◌, ◌<◌, List, [], ◌∷◌, ◌++◌, refl, ap, ◌∙◌, sym, map, Bor, length, get_or, drop, Option, option_map}
use Rattle.std.proofs.lemmas.List.{drop_more}
use Rattle.tc_base.specs.declared.Place.{Place}
use Rattle.tc_model.specs.Views.{name, place, path, test}
use Rattle.tc_model.specs.SheetTextTrees as s
use Rattle.tc_model.specs.SheetTextTrees.{WrittenBody, WrittenBranches}
use Rattle.tc_model.specs.declared.tree.Name.{Name}
use Rattle.tc_model.specs.declared.sheet.Path.{Path}
use Rattle.tc_sheet.specs.Views.{body_layers, branch_layers, layer, branch_layer, written, written_before, body, branches}
use Rattle.tc_sheet.specs.declared.written.WrittenBranch.{WrittenBranch}
use Rattle.tc_sheet.specs.declared.written.Written.{Written}
use Rattle.tc_sheet.specs.declared.written.Written.TheOpen as parts
use Rattle.tc_sheet.specs.declared.written.Written.TheVariants as v
use Rattle.tc_sheet.specs.declared.written.Written.TheViews.{roll-Written}
use Rattle.tc_sheet.specs.declared.written.Written.TheFolds.{fold-WrittenBranch, fold-roll-Written, fold_out-WrittenBranch}

abbrev Layer : Type 0
Layer = WrittenBody → WrittenBody

abbrev folded_branch : WrittenBranch → WrittenBranches → WrittenBranches
folded_branch = fold-WrittenBranch (WrittenBody → WrittenBody) (WrittenBranches → WrittenBranches) layer branch_layer

body_map : (is : List Written) → body_layers (map written is) ≡ body is
body_map [] = refl
body_map (i ∷ is) = ap (written i) (body_map is)

folded_branch_is : (b : WrittenBranch) (rest : WrittenBranches) → folded_branch b rest ≡ s.w_branch (test b.test) (body b.body.now) rest
folded_branch_is b rest =
    ap (λ (f : WrittenBranches → WrittenBranches). f rest) (fold_out-WrittenBranch (WrittenBody → WrittenBody) (WrittenBranches → WrittenBranches) layer branch_layer b)
    ∙ ap (λ x. s.w_branch (test b.test) x rest) (body_map b.body.now)

branches_map : (bs : List WrittenBranch) (rest : WrittenBranches) → branch_layers (map folded_branch bs) rest ≡ branches bs rest
branches_map [] rest = refl
branches_map (b ∷ bs) rest =
    folded_branch_is b (branch_layers (map folded_branch bs) rest) ∙ ap (s.w_branch (test b.test) (body b.body.now)) (branches_map bs rest)

-- an instruction by its layer
by_layer : (f : _) (i : Written) (rest : WrittenBody) → roll-Written f ≡ i → written i rest ≡ written (roll-Written f) rest
by_layer f i rest e = ap (λ (x : Written). written x rest) (sym e)

pub see_text : (x : Bor (List ℕ)) (rest : WrittenBody) → written (v.Text x) rest ≡ s.w_text x.now rest
see_text x rest =
    by_layer (parts.Text x) (v.Text x) rest (v.rolls-Text x)
    ∙ ap (λ (f : Layer). f rest) (fold-roll-Written (WrittenBody → WrittenBody) (WrittenBranches → WrittenBranches) layer branch_layer (parts.Text x))

pub see_elem : (n : Name) (b : Bor (List Written)) (rest : WrittenBody) → written (v.Elem n b) rest ≡ s.w_element (name n) (body b.now) rest
see_elem n b rest =
    by_layer (parts.Elem n b) (v.Elem n b) rest (v.rolls-Elem n b)
    ∙ (ap (λ (f : Layer). f rest) (fold-roll-Written (WrittenBody → WrittenBody) (WrittenBranches → WrittenBranches) layer branch_layer (parts.Elem n b))
    ∙ ap (λ x. s.w_element (name n) x rest) (body_map b.now))

pub see_copy : (b : Bor (List Written)) (rest : WrittenBody) → written (v.Copy b) rest ≡ s.w_copy (body b.now) rest
see_copy b rest =
    by_layer (parts.Copy b) (v.Copy b) rest (v.rolls-Copy b)
    ∙ (ap (λ (f : Layer). f rest) (fold-roll-Written (WrittenBody → WrittenBody) (WrittenBranches → WrittenBranches) layer branch_layer (parts.Copy b))
    ∙ ap (λ x. s.w_copy x rest) (body_map b.now))

pub see_apply : (p : Path) (mode : Option Name) (rest : WrittenBody) → written (v.Apply p mode) rest ≡ s.w_apply (path p) (option_map name mode) rest
see_apply p mode rest =
    by_layer (parts.Apply p mode) (v.Apply p mode) rest (v.rolls-Apply p mode)
    ∙ ap (λ (f : Layer). f rest) (fold-roll-Written (WrittenBody → WrittenBody) (WrittenBranches → WrittenBranches) layer branch_layer (parts.Apply p mode))

pub see_call : (n : Name) (p : Place) (rest : WrittenBody) → written (v.Call n p) rest ≡ s.w_call (name n) (place p) rest
see_call n p rest =
    by_layer (parts.Call n p) (v.Call n p) rest (v.rolls-Call n p)
    ∙ ap (λ (f : Layer). f rest) (fold-roll-Written (WrittenBody → WrittenBody) (WrittenBranches → WrittenBranches) layer branch_layer (parts.Call n p))

pub see_value_of : (p : Path) (rest : WrittenBody) → written (v.ValueOf p) rest ≡ s.w_value (path p) rest
see_value_of p rest =
    by_layer (parts.ValueOf p) (v.ValueOf p) rest (v.rolls-ValueOf p)
    ∙ ap (λ (f : Layer). f rest) (fold-roll-Written (WrittenBody → WrittenBody) (WrittenBranches → WrittenBranches) layer branch_layer (parts.ValueOf p))

pub see_choose : (bs : Bor (List WrittenBranch)) (b : Bor (List Written)) (rest : WrittenBody) → written (v.Choose bs b) rest ≡ s.w_choose (branches bs.now (s.w_otherwise (body b.now))) rest
see_choose bs b rest =
    by_layer (parts.Choose bs b) (v.Choose bs b) rest (v.rolls-Choose bs b)
    ∙ (ap (λ (f : Layer). f rest) (fold-roll-Written (WrittenBody → WrittenBody) (WrittenBranches → WrittenBranches) layer branch_layer (parts.Choose bs b))
    ∙ (ap (λ x. s.w_choose x rest) (branches_map bs.now (s.w_otherwise (body_layers (map written b.now))))
    ∙ ap (λ x. s.w_choose (branches bs.now (s.w_otherwise x)) rest) (body_map b.now)))

pub see_for_each : (p : Path) (b : Bor (List Written)) (rest : WrittenBody) → written (v.ForEach p b) rest ≡ s.w_each (path p) (body b.now) rest
see_for_each p b rest =
    by_layer (parts.ForEach p b) (v.ForEach p b) rest (v.rolls-ForEach p b)
    ∙ (ap (λ (f : Layer). f rest) (fold-roll-Written (WrittenBody → WrittenBody) (WrittenBranches → WrittenBranches) layer branch_layer (parts.ForEach p b))
    ∙ ap (λ x. s.w_each (path p) x rest) (body_map b.now))

pub see_value_of_self : (rest : WrittenBody) → written v.ValueOfSelf rest ≡ s.w_self rest
see_value_of_self rest =
    by_layer parts.ValueOfSelf v.ValueOfSelf rest v.rolls-ValueOfSelf
    ∙ ap (λ (f : Layer). f rest) (fold-roll-Written (WrittenBody → WrittenBody) (WrittenBranches → WrittenBranches) layer branch_layer parts.ValueOfSelf)

pub ruleset see_written = (see_text, see_elem, see_copy, see_apply, see_call, see_value_of, see_value_of_self, see_choose, see_for_each)

-- one step of a loop over a slice: what is left begins with the instruction or the branch x
pub left_written : (is : List Written) (k : ℕ) (x : Written) → k < length is → x ≡ get_or is k x → body (drop k is) ≡ written x (body (drop (k + 1) is))
left_written is k x h e = ap body (drop_more is k x h) ∙ ap (λ y. written y (body (drop (k + 1) is))) (sym e)

pub left_branch : (bs : List WrittenBranch) (k : ℕ) (x : WrittenBranch) (rest : WrittenBranches) → k < length bs → x ≡ get_or bs k x
    → branches (drop k bs) rest ≡ s.w_branch (test x.test) (body x.body.now) (branches (drop (k + 1) bs) rest)
left_branch bs k x rest h e =
    ap (λ l. branches l rest) (drop_more bs k x h) ∙ ap (λ (y : WrittenBranch). s.w_branch (test y.test) (body y.body.now) (branches (drop (k + 1) bs) rest)) (sym e)

-- what an instruction or a branch at the end of a list adds
pub written_append : (is js : List Written) (rest : WrittenBody) → written_before (is ++ js) rest ≡ written_before is (written_before js rest)
written_append [] js rest = refl
written_append (i ∷ is) js rest = ap (written i) (written_append is js rest)

pub pushed_written : (is : List Written) (x : Written) (rest : WrittenBody) → written_before (is ++ x ∷ []) rest ≡ written_before is (written x rest)
pushed_written is x rest = written_append is (x ∷ []) rest

pub branches_append : (bs cs : List WrittenBranch) (rest : WrittenBranches) → branches (bs ++ cs) rest ≡ branches bs (branches cs rest)
branches_append [] cs rest = refl
branches_append (b ∷ bs) cs rest = ap (s.w_branch (test b.test) (body b.body.now)) (branches_append bs cs rest)

pub pushed_branch : (bs : List WrittenBranch) (x : WrittenBranch) (rest : WrittenBranches) → branches (bs ++ x ∷ []) rest ≡ branches bs (s.w_branch (test x.test) (body x.body.now) rest)
pushed_branch bs x rest = branches_append bs (x ∷ []) rest
