-- The modes, the calls and the for-eaches of an instruction, and of those after it.
use Rattle.std.proofs.Common.{◌≡◌, ℕ, ◌+◌, ◌<◌, ◌≤◌, List, [], ◌∷◌, ◌++◌, refl, ap, ◌∙◌, sym, subst, arith, length, get_or, drop, append-nil, append_assoc, Bor, Option, option_map, ◌⊎◌, inl, inr}
use Rattle.std.proofs.lemmas.List.{drop_all, get_or_default}
use Rattle.tc_base.specs.declared.Place.{Place}
use Rattle.tc_model.specs.Names.{ExpandedName, same_name}
use Rattle.tc_model.specs.Numbered.{each_once_after}
use Rattle.tc_model.specs.Sheets as sheets
use Rattle.tc_model.specs.Views.{name, place, path, test}
use Rattle.tc_model.specs.declared.tree.Name.{Name}
use Rattle.tc_model.specs.declared.sheet.Path.{Path}
use Rattle.tc_model.specs.SheetTextTrees as s
use Rattle.tc_model.specs.SheetTextTrees.{WrittenBody, WrittenBranches}
use Rattle.tc_model.specs.SheetText.{one_name, modes_in_body, modes_in_branches, Call, calls_in_body, calls_in_branches, eaches_in, eaches_in_branches}
use Rattle.tc_sheet.specs.Graphs.{alone}
use Rattle.tc_sheet.specs.Views.{written, body, branches, branches_of}
use Rattle.tc_sheet.specs.Tables.{puts}
use Rattle.tc_sheet.specs.declared.written.WrittenBranch.{WrittenBranch}
use Rattle.tc_sheet.specs.declared.written.Written.{Written, Written-F}
use Rattle.tc_sheet.specs.declared.written.Written.TheOpen as parts
use Rattle.tc_sheet.specs.declared.written.Written.TheVariants as v
use Rattle.tc_sheet.specs.declared.written.Written.TheViews.{roll-Written, out-Written, roll-out-Written}
use Rattle.tc_sheet.proofs.TableLaws.{once_append}
use Rattle.tc_sheet.proofs.ViewsWritten.{see_text, see_elem, see_copy, see_apply, see_call, see_value_of, see_value_of_self, see_choose, see_for_each, left_written, left_branch}

-- puts one instruction before others
abbrev Layer : Type 0
Layer = WrittenBody → WrittenBody

-- what holds of each way of putting an instruction before others holds of each instruction
pub record Cases (P : Layer → Type 0) : Type 0 where
  pub along : (f g : Layer) → ((rest : WrittenBody) → f rest ≡ g rest) → P g → P f
  pub text : (t : List ℕ) → P (λ r. s.w_text t r)
  pub elem : (n : ExpandedName) (b : WrittenBody) → P (λ r. s.w_element n b r)
  pub copy : (b : WrittenBody) → P (λ r. s.w_copy b r)
  pub apply : (p : sheets.Path) (m : Option ExpandedName) → P (λ r. s.w_apply p m r)
  pub call : (n : ExpandedName) (p : ℕ) → P (λ r. s.w_call n p r)
  pub value : (p : sheets.Path) → P (λ r. s.w_value p r)
  pub self : P (λ r. s.w_self r)
  pub choose : (x : WrittenBranches) → P (λ r. s.w_choose x r)
  pub each : (p : sheets.Path) (b : WrittenBody) → P (λ r. s.w_each p b r)

by_layer : (P : Layer → Type 0) → Cases P → (f : Written-F Written WrittenBranch) → P (written (roll-Written f))
by_layer P k (parts.Text x) = subst (λ i. P (written i)) (sym (v.rolls-Text x)) (k.along (written (v.Text x)) (λ r. s.w_text x.now r) (see_text x) (k.text x.now))
by_layer P k (parts.Elem n b) = subst (λ i. P (written i)) (sym (v.rolls-Elem n b)) (k.along (written (v.Elem n b)) (λ r. s.w_element (name n) (body b.now) r) (see_elem n b) (k.elem (name n) (body b.now)))
by_layer P k (parts.Copy b) = subst (λ i. P (written i)) (sym (v.rolls-Copy b)) (k.along (written (v.Copy b)) (λ r. s.w_copy (body b.now) r) (see_copy b) (k.copy (body b.now)))
by_layer P k (parts.Apply p m) =
    subst (λ i. P (written i)) (sym (v.rolls-Apply p m)) (k.along (written (v.Apply p m)) (λ r. s.w_apply (path p) (option_map name m) r) (see_apply p m) (k.apply (path p) (option_map name m)))
by_layer P k (parts.Call n p) = subst (λ i. P (written i)) (sym (v.rolls-Call n p)) (k.along (written (v.Call n p)) (λ r. s.w_call (name n) (place p) r) (see_call n p) (k.call (name n) (place p)))
by_layer P k (parts.ValueOf p) = subst (λ i. P (written i)) (sym (v.rolls-ValueOf p)) (k.along (written (v.ValueOf p)) (λ r. s.w_value (path p) r) (see_value_of p) (k.value (path p)))
by_layer P k parts.ValueOfSelf = subst (λ i. P (written i)) (sym v.rolls-ValueOfSelf) (k.along (written v.ValueOfSelf) (λ r. s.w_self r) see_value_of_self k.self)
by_layer P k (parts.Choose bs b) =
    subst (λ i. P (written i)) (sym (v.rolls-Choose bs b))
    (k.along (written (v.Choose bs b)) (λ r. s.w_choose (branches bs.now (s.w_otherwise (body b.now))) r) (see_choose bs b) (k.choose (branches bs.now (s.w_otherwise (body b.now)))))
by_layer P k (parts.ForEach p b) =
    subst (λ i. P (written i)) (sym (v.rolls-ForEach p b)) (k.along (written (v.ForEach p b)) (λ r. s.w_each (path p) (body b.now) r) (see_for_each p b) (k.each (path p) (body b.now)))

pub by_cases : (P : Layer → Type 0) → Cases P → (i : Written) → P (written i)
by_cases P k i = subst (λ z. P (written z)) (roll-out-Written i) (by_layer P k (out-Written i))

module _ {X : Type 0} where
  regroup : (xs ys : List X) → xs ++ ys ≡ (xs ++ []) ++ ys
  regroup xs ys = ap (λ z. z ++ ys) (sym (append-nil xs))

-- the calls
abbrev CallsThen : Layer → Type 0
CallsThen f = (rest : WrittenBody) → calls_in_body (f rest) ≡ calls_in_body (f s.w_nothing) ++ calls_in_body rest

calls_cases : Cases CallsThen
calls_cases = record {
  along = λ f g e h rest. ap calls_in_body (e rest) ∙ (h rest ∙ ap (λ z. calls_in_body z ++ calls_in_body rest) (sym (e s.w_nothing)));
  text = λ t rest. refl;
  elem = λ n b rest. regroup (calls_in_body b) (calls_in_body rest);
  copy = λ b rest. regroup (calls_in_body b) (calls_in_body rest);
  apply = λ p m rest. refl;
  call = λ n p rest. refl;
  value = λ p rest. refl;
  self = λ rest. refl;
  choose = λ x rest. regroup (calls_in_branches x) (calls_in_body rest);
  each = λ p b rest. regroup (calls_in_body b) (calls_in_body rest);
}

-- the modes
abbrev ModesThen : Layer → Type 0
ModesThen f = (rest : WrittenBody) → modes_in_body (f rest) ≡ modes_in_body (f s.w_nothing) ++ modes_in_body rest

modes_cases : Cases ModesThen
modes_cases = record {
  along = λ f g e h rest. ap modes_in_body (e rest) ∙ (h rest ∙ ap (λ z. modes_in_body z ++ modes_in_body rest) (sym (e s.w_nothing)));
  text = λ t rest. refl;
  elem = λ n b rest. regroup (modes_in_body b) (modes_in_body rest);
  copy = λ b rest. regroup (modes_in_body b) (modes_in_body rest);
  apply = λ p m rest. regroup (one_name m) (modes_in_body rest);
  call = λ n p rest. refl;
  value = λ p rest. refl;
  self = λ rest. refl;
  choose = λ x rest. regroup (modes_in_branches x) (modes_in_body rest);
  each = λ p b rest. regroup (modes_in_body b) (modes_in_body rest);
}

-- the for-eaches
abbrev EachesThen : Layer → Type 0
EachesThen f = (rest : WrittenBody) → eaches_in (f rest) ≡ eaches_in (f s.w_nothing) + eaches_in rest

eaches_cases : Cases EachesThen
eaches_cases = record {
  along = λ f g e h rest. ap eaches_in (e rest) ∙ (h rest ∙ ap (λ z. eaches_in z + eaches_in rest) (sym (e s.w_nothing)));
  text = λ t rest. omega arith;
  elem = λ n b rest. omega arith;
  copy = λ b rest. omega arith;
  apply = λ p m rest. omega arith;
  call = λ n p rest. omega arith;
  value = λ p rest. omega arith;
  self = λ rest. omega arith;
  choose = λ x rest. omega arith;
  each = λ p b rest. omega arith;
}

pub calls_then : (i : Written) (rest : WrittenBody) → calls_in_body (written i rest) ≡ calls_in_body (alone (written i)) ++ calls_in_body rest
calls_then i = by_cases CallsThen calls_cases i

pub modes_then : (i : Written) (rest : WrittenBody) → modes_in_body (written i rest) ≡ modes_in_body (alone (written i)) ++ modes_in_body rest
modes_then i = by_cases ModesThen modes_cases i

pub eaches_then : (i : Written) (rest : WrittenBody) → eaches_in (written i rest) ≡ eaches_in (alone (written i)) + eaches_in rest
eaches_then i = by_cases EachesThen eaches_cases i

-- names that are put behind others, unless they are there
pub puts_append : (s xs ys : List ExpandedName) → puts s (xs ++ ys) ≡ puts (puts s xs) ys
puts_append s xs ys = ap (λ z. s ++ z) (once_append same_name s xs ys) ∙ sym (append_assoc s (each_once_after same_name s xs) (each_once_after same_name (puts s xs) ys))

-- one step of a loop over instructions
module _ (is : List Written) (k : ℕ) (x : Written) (h : k < length is) (e : x ≡ get_or is k x) where
  pub calls_step : (old new all : List Call) → new ≡ old ++ calls_in_body (alone (written x)) → old ++ calls_in_body (body (drop k is)) ≡ all → new ++ calls_in_body (body (drop (k + 1) is)) ≡ all
  calls_step old new all f g =
      let rest = body (drop (k + 1) is) in
      ap (λ z. z ++ calls_in_body rest) f
      ∙ (append_assoc old (calls_in_body (alone (written x))) (calls_in_body rest)
      ∙ (ap (λ z. old ++ z) (sym (calls_then x rest) ∙ ap calls_in_body (sym (left_written is k x h e))) ∙ g))

  pub modes_step : (old new all : List ExpandedName) → new ≡ puts old (modes_in_body (alone (written x))) → puts old (modes_in_body (body (drop k is))) ≡ all
      → puts new (modes_in_body (body (drop (k + 1) is))) ≡ all
  modes_step old new all f g =
      let rest = body (drop (k + 1) is) in
      ap (λ z. puts z (modes_in_body rest)) f
      ∙ (sym (puts_append old (modes_in_body (alone (written x))) (modes_in_body rest))
      ∙ (ap (puts old) (sym (modes_then x rest) ∙ ap modes_in_body (sym (left_written is k x h e))) ∙ g))

  pub eaches_step : eaches_in (body (drop k is)) ≡ eaches_in (alone (written x)) + eaches_in (body (drop (k + 1) is))
  eaches_step = ap eaches_in (left_written is k x h e) ∙ eaches_then x (body (drop (k + 1) is))

-- and over branches
module _ (bs : List WrittenBranch) (k : ℕ) (d : WrittenBranch) (h : k < length bs) where
  abbrev x : WrittenBranch
  x = get_or bs k d

  pub next_branch : (rest : WrittenBranches) → branches (drop k bs) rest ≡ s.w_branch (test x.test) (body x.body.now) (branches (drop (k + 1) bs) rest)
  next_branch rest = left_branch bs k x rest h (sym (get_or_default bs k x d h))

  abbrev none : WrittenBranches
  none = s.w_otherwise s.w_nothing

  pub calls_branch : (old new all : List Call) → new ≡ old ++ calls_in_body (body x.body.now) → old ++ calls_in_branches (branches_of (drop k bs)) ≡ all
      → new ++ calls_in_branches (branches_of (drop (k + 1) bs)) ≡ all
  calls_branch old new all f g =
      ap (λ z. z ++ calls_in_branches (branches_of (drop (k + 1) bs))) f
      ∙ (append_assoc old (calls_in_body (body x.body.now)) (calls_in_branches (branches_of (drop (k + 1) bs)))
      ∙ (ap (λ z. old ++ calls_in_branches z) (sym (next_branch none)) ∙ g))

  pub modes_branch : (old new all : List ExpandedName) → new ≡ puts old (modes_in_body (body x.body.now)) → puts old (modes_in_branches (branches_of (drop k bs))) ≡ all
      → puts new (modes_in_branches (branches_of (drop (k + 1) bs))) ≡ all
  modes_branch old new all f g =
      ap (λ z. puts z (modes_in_branches (branches_of (drop (k + 1) bs)))) f
      ∙ (sym (puts_append old (modes_in_body (body x.body.now)) (modes_in_branches (branches_of (drop (k + 1) bs))))
      ∙ (ap (λ z. puts old (modes_in_branches z)) (sym (next_branch none)) ∙ g))

  pub eaches_branch : eaches_in_branches (branches_of (drop k bs)) ≡ eaches_in (body x.body.now) + eaches_in_branches (branches_of (drop (k + 1) bs))
  eaches_branch = ap eaches_in_branches (next_branch none)

-- nothing is left
pub no_body_left : (is : List Written) (k : ℕ) → length is ≤ k → body (drop k is) ≡ s.w_nothing
no_body_left is k h = ap body (drop_all k is h)

pub no_branches_left : (bs : List WrittenBranch) (k : ℕ) → length bs ≤ k → branches_of (drop k bs) ≡ s.w_otherwise s.w_nothing
no_branches_left bs k h = ap branches_of (drop_all k bs h)

pub calls_end : (is : List Written) (k : ℕ) (old all : List Call) → length is ≤ k → old ++ calls_in_body (body (drop k is)) ≡ all → old ≡ all
calls_end is k old all h e = sym (append-nil old) ∙ (ap (λ z. old ++ calls_in_body z) (sym (no_body_left is k h)) ∙ e)

pub calls_branches_end : (bs : List WrittenBranch) (k : ℕ) (old all : List Call) → length bs ≤ k → old ++ calls_in_branches (branches_of (drop k bs)) ≡ all → old ≡ all
calls_branches_end bs k old all h e = sym (append-nil old) ∙ (ap (λ z. old ++ calls_in_branches z) (sym (no_branches_left bs k h)) ∙ e)

pub modes_end : (is : List Written) (k : ℕ) (old all : List ExpandedName) → length is ≤ k → puts old (modes_in_body (body (drop k is))) ≡ all → old ≡ all
modes_end is k old all h e = sym (append-nil old) ∙ (ap (λ z. puts old (modes_in_body z)) (sym (no_body_left is k h)) ∙ e)

pub modes_branches_end : (bs : List WrittenBranch) (k : ℕ) (old all : List ExpandedName) → length bs ≤ k → puts old (modes_in_branches (branches_of (drop k bs))) ≡ all → old ≡ all
modes_branches_end bs k old all h e = sym (append-nil old) ∙ (ap (λ z. puts old (modes_in_branches z)) (sym (no_branches_left bs k h)) ∙ e)

pub eaches_end : (is : List Written) (k : ℕ) → length is ≤ k → eaches_in (body (drop k is)) ≡ 0
eaches_end is k h = ap eaches_in (no_body_left is k h)

pub eaches_branches_end : (bs : List WrittenBranch) (k : ℕ) → length bs ≤ k → eaches_in_branches (branches_of (drop k bs)) ≡ 0
eaches_branches_end bs k h = ap eaches_in_branches (no_branches_left bs k h)

-- branches before the last
pub choose_calls : (bs : List WrittenBranch) (b : WrittenBody) → calls_in_branches (branches bs (s.w_otherwise b)) ≡ calls_in_branches (branches_of bs) ++ calls_in_body b
choose_calls [] b = refl
choose_calls (x ∷ bs) b = ap (λ z. calls_in_body (body x.body.now) ++ z) (choose_calls bs b) ∙ sym (append_assoc (calls_in_body (body x.body.now)) (calls_in_branches (branches_of bs)) (calls_in_body b))

pub choose_modes : (bs : List WrittenBranch) (b : WrittenBody) → modes_in_branches (branches bs (s.w_otherwise b)) ≡ modes_in_branches (branches_of bs) ++ modes_in_body b
choose_modes [] b = refl
choose_modes (x ∷ bs) b = ap (λ z. modes_in_body (body x.body.now) ++ z) (choose_modes bs b) ∙ sym (append_assoc (modes_in_body (body x.body.now)) (modes_in_branches (branches_of bs)) (modes_in_body b))

pub choose_eaches : (bs : List WrittenBranch) (b : WrittenBody) → eaches_in_branches (branches bs (s.w_otherwise b)) ≡ eaches_in_branches (branches_of bs) + eaches_in b
choose_eaches [] b = omega arith
choose_eaches (x ∷ bs) b = omega (arith, choose_eaches bs b)

-- each instruction alone
pub calls_of_text : (x : Bor (List ℕ)) → calls_in_body (alone (written (v.Text x))) ≡ []
calls_of_text x = ap calls_in_body (see_text x s.w_nothing)

pub calls_of_elem : (n : Name) (b : Bor (List Written)) → calls_in_body (alone (written (v.Elem n b))) ≡ calls_in_body (body b.now)
calls_of_elem n b = ap calls_in_body (see_elem n b s.w_nothing) ∙ append-nil (calls_in_body (body b.now))

pub calls_of_copy : (b : Bor (List Written)) → calls_in_body (alone (written (v.Copy b))) ≡ calls_in_body (body b.now)
calls_of_copy b = ap calls_in_body (see_copy b s.w_nothing) ∙ append-nil (calls_in_body (body b.now))

pub calls_of_apply : (p : Path) (m : Option Name) → calls_in_body (alone (written (v.Apply p m))) ≡ []
calls_of_apply p m = ap calls_in_body (see_apply p m s.w_nothing)

pub calls_of_call : (n : Name) (p : Place) → calls_in_body (alone (written (v.Call n p))) ≡ (record { name = name n; place = place p }) ∷ []
calls_of_call n p = ap calls_in_body (see_call n p s.w_nothing)

pub calls_of_value : (p : Path) → calls_in_body (alone (written (v.ValueOf p))) ≡ []
calls_of_value p = ap calls_in_body (see_value_of p s.w_nothing)

pub calls_of_self : calls_in_body (alone (written v.ValueOfSelf)) ≡ []
calls_of_self = ap calls_in_body (see_value_of_self s.w_nothing)

pub calls_of_choose : (bs : Bor (List WrittenBranch)) (b : Bor (List Written)) → calls_in_body (alone (written (v.Choose bs b))) ≡ calls_in_branches (branches_of bs.now) ++ calls_in_body (body b.now)
calls_of_choose bs b = ap calls_in_body (see_choose bs b s.w_nothing) ∙ (append-nil (calls_in_branches (branches bs.now (s.w_otherwise (body b.now)))) ∙ choose_calls bs.now (body b.now))

pub calls_of_each : (p : Path) (b : Bor (List Written)) → calls_in_body (alone (written (v.ForEach p b))) ≡ calls_in_body (body b.now)
calls_of_each p b = ap calls_in_body (see_for_each p b s.w_nothing) ∙ append-nil (calls_in_body (body b.now))

pub ruleset calls_alone = (calls_of_text, calls_of_elem, calls_of_copy, calls_of_apply, calls_of_call, calls_of_value, calls_of_self, calls_of_choose, calls_of_each)

pub modes_of_text : (x : Bor (List ℕ)) → modes_in_body (alone (written (v.Text x))) ≡ []
modes_of_text x = ap modes_in_body (see_text x s.w_nothing)

pub modes_of_elem : (n : Name) (b : Bor (List Written)) → modes_in_body (alone (written (v.Elem n b))) ≡ modes_in_body (body b.now)
modes_of_elem n b = ap modes_in_body (see_elem n b s.w_nothing) ∙ append-nil (modes_in_body (body b.now))

pub modes_of_copy : (b : Bor (List Written)) → modes_in_body (alone (written (v.Copy b))) ≡ modes_in_body (body b.now)
modes_of_copy b = ap modes_in_body (see_copy b s.w_nothing) ∙ append-nil (modes_in_body (body b.now))

pub modes_of_apply : (p : Path) (m : Option Name) → modes_in_body (alone (written (v.Apply p m))) ≡ one_name (option_map name m)
modes_of_apply p m = ap modes_in_body (see_apply p m s.w_nothing) ∙ append-nil (one_name (option_map name m))

pub modes_of_call : (n : Name) (p : Place) → modes_in_body (alone (written (v.Call n p))) ≡ []
modes_of_call n p = ap modes_in_body (see_call n p s.w_nothing)

pub modes_of_value : (p : Path) → modes_in_body (alone (written (v.ValueOf p))) ≡ []
modes_of_value p = ap modes_in_body (see_value_of p s.w_nothing)

pub modes_of_self : modes_in_body (alone (written v.ValueOfSelf)) ≡ []
modes_of_self = ap modes_in_body (see_value_of_self s.w_nothing)

pub modes_of_choose : (bs : Bor (List WrittenBranch)) (b : Bor (List Written)) → modes_in_body (alone (written (v.Choose bs b))) ≡ modes_in_branches (branches_of bs.now) ++ modes_in_body (body b.now)
modes_of_choose bs b = ap modes_in_body (see_choose bs b s.w_nothing) ∙ (append-nil (modes_in_branches (branches bs.now (s.w_otherwise (body b.now)))) ∙ choose_modes bs.now (body b.now))

pub modes_of_each : (p : Path) (b : Bor (List Written)) → modes_in_body (alone (written (v.ForEach p b))) ≡ modes_in_body (body b.now)
modes_of_each p b = ap modes_in_body (see_for_each p b s.w_nothing) ∙ append-nil (modes_in_body (body b.now))

pub ruleset modes_alone = (modes_of_text, modes_of_elem, modes_of_copy, modes_of_apply, modes_of_call, modes_of_value, modes_of_self, modes_of_choose, modes_of_each)

pub eaches_of_text : (x : Bor (List ℕ)) → eaches_in (alone (written (v.Text x))) ≡ 0
eaches_of_text x = ap eaches_in (see_text x s.w_nothing)

pub eaches_of_elem : (n : Name) (b : Bor (List Written)) → eaches_in (alone (written (v.Elem n b))) ≡ eaches_in (body b.now)
eaches_of_elem n b = ap eaches_in (see_elem n b s.w_nothing) ∙ (omega arith)

pub eaches_of_copy : (b : Bor (List Written)) → eaches_in (alone (written (v.Copy b))) ≡ eaches_in (body b.now)
eaches_of_copy b = ap eaches_in (see_copy b s.w_nothing) ∙ (omega arith)

pub eaches_of_apply : (p : Path) (m : Option Name) → eaches_in (alone (written (v.Apply p m))) ≡ 0
eaches_of_apply p m = ap eaches_in (see_apply p m s.w_nothing)

pub eaches_of_call : (n : Name) (p : Place) → eaches_in (alone (written (v.Call n p))) ≡ 0
eaches_of_call n p = ap eaches_in (see_call n p s.w_nothing)

pub eaches_of_value : (p : Path) → eaches_in (alone (written (v.ValueOf p))) ≡ 0
eaches_of_value p = ap eaches_in (see_value_of p s.w_nothing)

pub eaches_of_self : eaches_in (alone (written v.ValueOfSelf)) ≡ 0
eaches_of_self = ap eaches_in (see_value_of_self s.w_nothing)

pub eaches_of_choose : (bs : Bor (List WrittenBranch)) (b : Bor (List Written)) → eaches_in (alone (written (v.Choose bs b))) ≡ eaches_in_branches (branches_of bs.now) + eaches_in (body b.now)
eaches_of_choose bs b = ap eaches_in (see_choose bs b s.w_nothing) ∙ (omega (arith, choose_eaches bs.now (body b.now)))

pub eaches_of_each : (p : Path) (b : Bor (List Written)) → eaches_in (alone (written (v.ForEach p b))) ≡ 1 + eaches_in (body b.now)
eaches_of_each p b = ap eaches_in (see_for_each p b s.w_nothing) ∙ (omega arith)

pub ruleset eaches_alone = (eaches_of_text, eaches_of_elem, eaches_of_copy, eaches_of_apply, eaches_of_call, eaches_of_value, eaches_of_self, eaches_of_choose, eaches_of_each)

-- branches, and then the last body
pub choose_puts : (bs : Bor (List WrittenBranch)) (b : Bor (List Written)) (i : Written) (old middle new : List Call) → i ≡ v.Choose bs b → middle ≡ old ++ calls_in_branches (branches_of bs.now)
    → new ≡ middle ++ calls_in_body (body b.now) → new ≡ old ++ calls_in_body (alone (written i))
choose_puts bs b i old middle new e f g =
    g
    ∙ (ap (λ z. z ++ calls_in_body (body b.now)) f
    ∙ (append_assoc old (calls_in_branches (branches_of bs.now)) (calls_in_body (body b.now))
    ∙ ap (λ z. old ++ z) (sym (calls_of_choose bs b) ∙ ap (λ j. calls_in_body (alone (written j))) (sym e))))

pub choose_puts_modes : (bs : Bor (List WrittenBranch)) (b : Bor (List Written)) (i : Written) (old middle new : List ExpandedName) → i ≡ v.Choose bs b → middle ≡ puts old (modes_in_branches (branches_of bs.now))
    → new ≡ puts middle (modes_in_body (body b.now)) → new ≡ puts old (modes_in_body (alone (written i)))
choose_puts_modes bs b i old middle new e f g =
    g
    ∙ (ap (λ z. puts z (modes_in_body (body b.now))) f
    ∙ (sym (puts_append old (modes_in_branches (branches_of bs.now)) (modes_in_body (body b.now))) ∙ ap (puts old) (sym (modes_of_choose bs b) ∙ ap (λ j. modes_in_body (alone (written j))) (sym e))))

-- an instruction that is known
pub calls_as : (i u : Written) {cs : List Call} (old new : List Call) → i ≡ u → calls_in_body (alone (written u)) ≡ cs → new ≡ old ++ cs → new ≡ old ++ calls_in_body (alone (written i))
calls_as i u old new e f g = g ∙ ap (λ z. old ++ z) (sym (ap (λ j. calls_in_body (alone (written j))) e ∙ f))

pub modes_as : (i u : Written) {ms : List ExpandedName} (old new : List ExpandedName) → i ≡ u → modes_in_body (alone (written u)) ≡ ms → new ≡ puts old ms → new ≡ puts old (modes_in_body (alone (written i)))
modes_as i u old new e f g = g ∙ ap (puts old) (sym (ap (λ j. modes_in_body (alone (written j))) e ∙ f))

-- instructions that hold nothing, and those that hold a body alone
pub no_modes : (i : Written) → (((x : Bor (List ℕ)) × (i ≡ v.Text x)) ⊎ (((n : Name) × (p : Place) × (i ≡ v.Call n p)) ⊎ (((p : Path) × (i ≡ v.ValueOf p)) ⊎ (i ≡ v.ValueOfSelf)))) → modes_in_body (alone (written i)) ≡ []
no_modes i (inl (x, e)) = ap (λ j. modes_in_body (alone (written j))) e ∙ modes_of_text x
no_modes i (inr (inl (n, p, e))) = ap (λ j. modes_in_body (alone (written j))) e ∙ modes_of_call n p
no_modes i (inr (inr (inl (p, e)))) = ap (λ j. modes_in_body (alone (written j))) e ∙ modes_of_value p
no_modes i (inr (inr (inr e))) = ap (λ j. modes_in_body (alone (written j))) e ∙ modes_of_self

pub inner_modes : (i : Written) (b : Bor (List Written)) → (((n : Name) × (i ≡ v.Elem n b)) ⊎ ((i ≡ v.Copy b) ⊎ ((p : Path) × (i ≡ v.ForEach p b)))) → modes_in_body (alone (written i)) ≡ modes_in_body (body b.now)
inner_modes i b (inl (n, e)) = ap (λ j. modes_in_body (alone (written j))) e ∙ modes_of_elem n b
inner_modes i b (inr (inl e)) = ap (λ j. modes_in_body (alone (written j))) e ∙ modes_of_copy b
inner_modes i b (inr (inr (p, e))) = ap (λ j. modes_in_body (alone (written j))) e ∙ modes_of_each p b

pub no_calls : (i : Written) → (((x : Bor (List ℕ)) × (i ≡ v.Text x)) ⊎ (((p : Path) × (m : Option Name) × (i ≡ v.Apply p m)) ⊎ (((p : Path) × (i ≡ v.ValueOf p)) ⊎ (i ≡ v.ValueOfSelf)))) → calls_in_body (alone (written i)) ≡ []
no_calls i (inl (x, e)) = ap (λ j. calls_in_body (alone (written j))) e ∙ calls_of_text x
no_calls i (inr (inl (p, m, e))) = ap (λ j. calls_in_body (alone (written j))) e ∙ calls_of_apply p m
no_calls i (inr (inr (inl (p, e)))) = ap (λ j. calls_in_body (alone (written j))) e ∙ calls_of_value p
no_calls i (inr (inr (inr e))) = ap (λ j. calls_in_body (alone (written j))) e ∙ calls_of_self

pub inner_calls : (i : Written) (b : Bor (List Written)) → (((n : Name) × (i ≡ v.Elem n b)) ⊎ ((i ≡ v.Copy b) ⊎ ((p : Path) × (i ≡ v.ForEach p b)))) → calls_in_body (alone (written i)) ≡ calls_in_body (body b.now)
inner_calls i b (inl (n, e)) = ap (λ j. calls_in_body (alone (written j))) e ∙ calls_of_elem n b
inner_calls i b (inr (inl e)) = ap (λ j. calls_in_body (alone (written j))) e ∙ calls_of_copy b
inner_calls i b (inr (inr (p, e))) = ap (λ j. calls_in_body (alone (written j))) e ∙ calls_of_each p b

pub no_eaches : (i : Written) → (((x : Bor (List ℕ)) × (i ≡ v.Text x)) ⊎ (((p : Path) × (m : Option Name) × (i ≡ v.Apply p m)) ⊎ (((n : Name) × (p : Place) × (i ≡ v.Call n p)) ⊎ (((p : Path) × (i ≡ v.ValueOf p)) ⊎ (i ≡ v.ValueOfSelf))))) → eaches_in (alone (written i)) ≡ 0
no_eaches i (inl (x, e)) = ap (λ j. eaches_in (alone (written j))) e ∙ eaches_of_text x
no_eaches i (inr (inl (p, m, e))) = ap (λ j. eaches_in (alone (written j))) e ∙ eaches_of_apply p m
no_eaches i (inr (inr (inl (n, p, e)))) = ap (λ j. eaches_in (alone (written j))) e ∙ eaches_of_call n p
no_eaches i (inr (inr (inr (inl (p, e))))) = ap (λ j. eaches_in (alone (written j))) e ∙ eaches_of_value p
no_eaches i (inr (inr (inr (inr e)))) = ap (λ j. eaches_in (alone (written j))) e ∙ eaches_of_self

pub inner_eaches : (i : Written) (b : Bor (List Written)) → (((n : Name) × (i ≡ v.Elem n b)) ⊎ (i ≡ v.Copy b)) → eaches_in (alone (written i)) ≡ eaches_in (body b.now)
inner_eaches i b (inl (n, e)) = ap (λ j. eaches_in (alone (written j))) e ∙ eaches_of_elem n b
inner_eaches i b (inr e) = ap (λ j. eaches_in (alone (written j))) e ∙ eaches_of_copy b
