-- One instruction by its form: what it is as plain data, and its parts.
use Rattle.std.proofs.Common.{◌≡◌, ℕ, ◌+◌, ◌<◌, List, ap, ◌∙◌, subst, length, Bor}
use Rattle.std.specs.List.{Contains}
use Rattle.tc_model.specs.Numberings.{moves_of}
use Rattle.tc_model.specs.Views as see
use Rattle.tc_model.specs.Sheets.{Sheet, Body, no_instruction, put_text, put_element, copy, apply, call, for_each, value, value_of_self, choose, otherwise}
use Rattle.tc_model.specs.WellFormed.{eaches_of}
use Rattle.tc_model.specs.declared.tree.Name.{Name}
use Rattle.tc_model.specs.declared.sheet.Branch.{Branch}
use Rattle.tc_model.specs.declared.sheet.Instr.{Instr}
use Rattle.tc_model.specs.declared.sheet.Instr.TheVariants as v
use Rattle.tc_model.specs.declared.sheet.Path.{Path}
use Rattle.tc_model.proofs.ViewsBody.{see_text, see_elem, see_copy, see_apply, see_call, see_value_of, see_value_of_self, see_choose, see_for_each}
use Rattle.tc_rules.specs.Parts.{IsPart, ArePartBranches}

abbrev alone : Instr → Body
alone i = see.instruction i no_instruction

pub text_seen : (i : Instr) (s : Bor (List ℕ)) → i ≡ v.Text s → see.instruction i no_instruction ≡ put_text s.now no_instruction
text_seen i s is = ap alone is ∙ see_text s no_instruction

pub self_seen : (i : Instr) → i ≡ v.ValueOfSelf → see.instruction i no_instruction ≡ value_of_self no_instruction
self_seen i is = ap alone is ∙ see_value_of_self no_instruction

pub elem_seen : (i : Instr) (n : Name) (b : Bor (List Instr)) → i ≡ v.Elem n b → see.instruction i no_instruction ≡ put_element (see.name n) (see.body b.now) no_instruction
elem_seen i n b is = ap alone is ∙ see_elem n b no_instruction

pub copy_seen : (i : Instr) (b : Bor (List Instr)) → i ≡ v.Copy b → see.instruction i no_instruction ≡ copy (see.body b.now) no_instruction
copy_seen i b is = ap alone is ∙ see_copy b no_instruction

pub apply_seen : (i : Instr) (p : Path) (mode : ℕ) → i ≡ v.Apply p mode → see.instruction i no_instruction ≡ apply (see.path p) mode no_instruction
apply_seen i p mode is = ap alone is ∙ see_apply p mode no_instruction

pub call_seen : (i : Instr) (n : ℕ) → i ≡ v.Call n → see.instruction i no_instruction ≡ call n no_instruction
call_seen i n is = ap alone is ∙ see_call n no_instruction

pub value_of_seen : (i : Instr) (p : Path) → i ≡ v.ValueOf p → see.instruction i no_instruction ≡ value (see.path p) no_instruction
value_of_seen i p is = ap alone is ∙ see_value_of p no_instruction

pub choose_seen : (i : Instr) (bs : Bor (List Branch)) (b : Bor (List Instr)) → i ≡ v.Choose bs b → see.instruction i no_instruction ≡ choose (see.branches bs.now (otherwise (see.body b.now))) no_instruction
choose_seen i bs b is = ap alone is ∙ see_choose bs b no_instruction

pub for_each_seen : (i : Instr) (n : ℕ) (p : Path) (b : Bor (List Instr)) → i ≡ v.ForEach n p b → see.instruction i no_instruction ≡ for_each n (see.path p) (see.body b.now) no_instruction
for_each_seen i n p b is = ap alone is ∙ see_for_each n p b no_instruction

module _ (x : Sheet) where
  pub elem_part : (i : Instr) (n : Name) (b : Bor (List Instr)) → i ≡ v.Elem n b → IsPart x (see.instruction i no_instruction) → IsPart x (see.body b.now)
  elem_part i n b is h = (subst (IsPart x) (elem_seen i n b is) h).0

  pub copy_part : (i : Instr) (b : Bor (List Instr)) → i ≡ v.Copy b → IsPart x (see.instruction i no_instruction) → IsPart x (see.body b.now)
  copy_part i b is h = (subst (IsPart x) (copy_seen i b is) h).0

  pub apply_part : (i : Instr) (p : Path) (mode : ℕ) → i ≡ v.Apply p mode → IsPart x (see.instruction i no_instruction) → Contains (moves_of x) (record { path = see.path p; mode = mode }) × (mode < x.modes)
  apply_part i p mode is h = let k = subst (IsPart x) (apply_seen i p mode is) h in (k.0, k.1)

  pub call_part : (i : Instr) (n : ℕ) → i ≡ v.Call n → IsPart x (see.instruction i no_instruction) → n < length x.named
  call_part i n is h = (subst (IsPart x) (call_seen i n is) h).0

  pub choose_part : (i : Instr) (bs : Bor (List Branch)) (b : Bor (List Instr)) → i ≡ v.Choose bs b → IsPart x (see.instruction i no_instruction) → ArePartBranches x (see.branches bs.now (otherwise (see.body b.now)))
  choose_part i bs b is h = (subst (IsPart x) (choose_seen i bs b is) h).0

  pub for_each_part : (i : Instr) (n : ℕ) (p : Path) (b : Bor (List Instr)) → i ≡ v.ForEach n p b → IsPart x (see.instruction i no_instruction) → Contains (moves_of x) (record { path = see.path p; mode = x.modes + n }) × Contains (eaches_of x) (record { number = n; path = see.path p; body = see.body b.now })
  for_each_part i n p b is h = let k = subst (IsPart x) (for_each_seen i n p b is) h in (k.0, k.1)
