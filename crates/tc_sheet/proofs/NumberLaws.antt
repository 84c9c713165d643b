-- Instructions, branches and templates with their numbers.
use Rattle.std.proofs.Common.{◌≡◌, ℕ, suc, ◌+◌, ◌<◌, ◌≤◌, Bool, true, false, cond, List, [], ◌∷◌, ◌++◌, refl, ap, ◌∙◌, sym, arith, Option, Some, option_map, length, map, flat_map, filter, get_or, drop, append-nil, append_assoc, if◌then◌else◌, position, Bor, Result, Ok, Err, IfOk}
use Rattle.std.specs.List.{list_any}
use Rattle.std.proofs.lemmas.List.{drop_more, drop_all}
use Rattle.tc_model.specs.Names.{ExpandedName, same_name}
use Rattle.tc_model.specs.Numbered.{number_of}
use Rattle.tc_model.specs.Views as see
use Rattle.tc_model.specs.Views.{name, path, place, test}
use Rattle.tc_model.specs.Sheets as sheets
use Rattle.tc_model.specs.Sheets.{Body, Branches}
use Rattle.tc_model.specs.SheetTextTrees as s
use Rattle.tc_model.specs.SheetTextTrees.{WrittenBody, WrittenBranches, makes_rules}
use Rattle.tc_model.specs.SheetText.{eaches_in, eaches_in_branches, eaches_of, mode_number, numbered, numbered_branches, NumberedTemplate, first_eaches}
use Rattle.tc_base.specs.declared.Place.{Place}
use Rattle.tc_model.specs.declared.sheet.Path.{Path}
use Rattle.tc_model.specs.declared.tree.Name.{Name}
use Rattle.tc_model.specs.declared.sheet.Branch.{Branch}
use Rattle.tc_model.specs.declared.sheet.Instr.{Instr}
use Rattle.tc_model.specs.declared.sheet.Instr.TheVariants as i
use Rattle.tc_model.proofs.ViewsBody as bodies
use Rattle.tc_model.proofs.ViewsBody.{body_then, body_then_done, body_then_assoc, instruction_then, pushed_instruction, pushed_branch}
use Rattle.tc_sheet.specs.Numbers.{eaches_with_rules, eaches_without, numbered_template, rules_with, named_with}
use Rattle.tc_sheet.specs.Graphs.{alone}
use Rattle.tc_sheet.specs.Views.{written, body, branches, branches_of, template}
use Rattle.tc_sheet.specs.declared.written.WrittenBranch.{WrittenBranch}
use Rattle.tc_sheet.specs.declared.written.Written.{Written}
use Rattle.tc_sheet.specs.declared.written.Written.TheVariants as v
use Rattle.tc_sheet.specs.declared.written.Template.{Template}
use Rattle.tc_sheet.proofs.ViewsWritten.{see_text, see_elem, see_copy, see_apply, see_call, see_value_of, see_value_of_self, see_choose, see_for_each, left_written}
use Rattle.tc_sheet.proofs.WrittenParts.{choose_eaches, next_branch, eaches_step, eaches_branch, eaches_end, eaches_branches_end, no_body_left}
use Rattle.tc_sheet.proofs.TableKeys.{same_key, found_at, any_seen, number_past}

module _ (modes names : List ExpandedName) where
  abbrev put : ℕ → WrittenBody → Body
  put k b = numbered modes names k b

  by_parts : (w : Written) (x : Instr) (from next : ℕ) (f : WrittenBody → WrittenBody) (g : Body → Body) → ((rest : WrittenBody) → written w rest ≡ f rest) → ((rest : Body) → see.instruction x rest ≡ g rest)
      → ((rest : WrittenBody) → g (put next rest) ≡ put from (f rest)) → (rest : WrittenBody) → see.instruction x (put next rest) ≡ put from (written w rest)
  by_parts w x from next f g e h same rest = h (put next rest) ∙ (same rest ∙ ap (put from) (sym (e rest)))

  along : (w u : Written) (f : WrittenBody → WrittenBody) → w ≡ u → ((rest : WrittenBody) → written u rest ≡ f rest) → (rest : WrittenBody) → written w rest ≡ f rest
  along w u f e h rest = ap (λ z. written z rest) e ∙ h rest

  module _ (w : Written) (from next : ℕ) where
    pub number_choose : (bs : Bor (List WrittenBranch)) (b : Bor (List Written)) (rs : Bor (List Branch)) (r : Bor (List Instr)) (middle : ℕ) → w ≡ v.Choose bs b
        → ((rest : WrittenBranches) → see.branches rs.now (numbered_branches modes names middle rest) ≡ numbered_branches modes names from (branches bs.now rest)) → middle ≡ from + eaches_in_branches (branches_of bs.now)
        → see.body r.now ≡ put middle (body b.now) → next ≡ middle + eaches_in (body b.now) → (rest : WrittenBody) → see.instruction (i.Choose rs r) (put next rest) ≡ put from (written w rest)
    number_choose bs b rs r middle e f n g m =
        let last : WrittenBranches = s.w_otherwise (body b.now) in
        let whole : see.branches rs.now (sheets.otherwise (see.body r.now)) ≡ numbered_branches modes names from (branches bs.now last) = ap (λ z. see.branches rs.now (sheets.otherwise z)) g ∙ f last in
        let count : next ≡ from + eaches_in_branches (branches bs.now last) = omega (arith, choose_eaches bs.now (body b.now), n, m) in
        by_parts w (i.Choose rs r) from next (λ t. s.w_choose (branches bs.now last) t) (λ t. sheets.choose (see.branches rs.now (sheets.otherwise (see.body r.now))) t)
        (along w (v.Choose bs b) (λ t. s.w_choose (branches bs.now last) t) e (see_choose bs b)) (bodies.see_choose rs r)
        (λ rest. ap (λ z. sheets.choose z (put next rest)) whole ∙ ap (λ k. sheets.choose (numbered_branches modes names from (branches bs.now last)) (put k rest)) count)

    -- an instruction that holds no for-each
    leaf : (x : Instr) (f : WrittenBody → WrittenBody) (g : Body → Body) → ((rest : WrittenBody) → written w rest ≡ f rest) → ((rest : Body) → see.instruction x rest ≡ g rest) → next ≡ from
        → ((rest : WrittenBody) → g (put from rest) ≡ put from (f rest)) → (rest : WrittenBody) → see.instruction x (put next rest) ≡ put from (written w rest)
    leaf x f g e h n same = by_parts w x from next f g e h (λ rest. ap (λ k. g (put k rest)) n ∙ same rest)

    pub number_text : (x : Bor (List ℕ)) → w ≡ v.Text x → next ≡ from → (rest : WrittenBody) → see.instruction (i.Text x) (put next rest) ≡ put from (written w rest)
    number_text x e n = leaf (i.Text x) (λ t. s.w_text x.now t) (λ t. sheets.put_text x.now t) (along w (v.Text x) (λ t. s.w_text x.now t) e (see_text x)) (bodies.see_text x) n (λ rest. refl)

    pub number_apply : (p : Path) (mode : Option Name) (k : ℕ) → w ≡ v.Apply p mode → k ≡ mode_number modes names (option_map name mode) → next ≡ from → (rest : WrittenBody) → see.instruction (i.Apply p k) (put next rest) ≡ put from (written w rest)
    number_apply p mode k e f n =
        leaf (i.Apply p k) (λ t. s.w_apply (path p) (option_map name mode) t) (λ t. sheets.apply (path p) k t) (along w (v.Apply p mode) (λ t. s.w_apply (path p) (option_map name mode) t) e (see_apply p mode)) (bodies.see_apply p k) n
        (λ rest. ap (λ z. sheets.apply (path p) z (put from rest)) f)

    pub number_call : (m : Name) (q : Place) (k : ℕ) → w ≡ v.Call m q → k ≡ number_of same_name (name m) names → next ≡ from → (rest : WrittenBody) → see.instruction (i.Call k) (put next rest) ≡ put from (written w rest)
    number_call m q k e f n =
        leaf (i.Call k) (λ t. s.w_call (name m) (place q) t) (λ t. sheets.call k t) (along w (v.Call m q) (λ t. s.w_call (name m) (place q) t) e (see_call m q)) (bodies.see_call k) n (λ rest. ap (λ z. sheets.call z (put from rest)) f)

    pub number_value : (p : Path) → w ≡ v.ValueOf p → next ≡ from → (rest : WrittenBody) → see.instruction (i.ValueOf p) (put next rest) ≡ put from (written w rest)
    number_value p e n = leaf (i.ValueOf p) (λ t. s.w_value (path p) t) (λ t. sheets.value (path p) t) (along w (v.ValueOf p) (λ t. s.w_value (path p) t) e (see_value_of p)) (bodies.see_value_of p) n (λ rest. refl)

    pub number_self : w ≡ v.ValueOfSelf → next ≡ from → (rest : WrittenBody) → see.instruction i.ValueOfSelf (put next rest) ≡ put from (written w rest)
    number_self e n = leaf i.ValueOfSelf (λ t. s.w_self t) (λ t. sheets.value_of_self t) (along w v.ValueOfSelf (λ t. s.w_self t) e see_value_of_self) bodies.see_value_of_self n (λ rest. refl)

    pub number_elem : (m : Name) (b : Bor (List Written)) (r : Bor (List Instr)) → w ≡ v.Elem m b → see.body r.now ≡ put from (body b.now) → next ≡ from + eaches_in (body b.now)
        → (rest : WrittenBody) → see.instruction (i.Elem m r) (put next rest) ≡ put from (written w rest)
    number_elem m b r e f n =
        by_parts w (i.Elem m r) from next (λ t. s.w_element (name m) (body b.now) t) (λ t. sheets.put_element (name m) (see.body r.now) t) (along w (v.Elem m b) (λ t. s.w_element (name m) (body b.now) t) e (see_elem m b)) (bodies.see_elem m r)
        (λ rest. ap (λ z. sheets.put_element (name m) z (put next rest)) f ∙ ap (λ k. sheets.put_element (name m) (put from (body b.now)) (put k rest)) n)

    pub number_copy : (b : Bor (List Written)) (r : Bor (List Instr)) → w ≡ v.Copy b → see.body r.now ≡ put from (body b.now) → next ≡ from + eaches_in (body b.now)
        → (rest : WrittenBody) → see.instruction (i.Copy r) (put next rest) ≡ put from (written w rest)
    number_copy b r e f n =
        by_parts w (i.Copy r) from next (λ t. s.w_copy (body b.now) t) (λ t. sheets.copy (see.body r.now) t) (along w (v.Copy b) (λ t. s.w_copy (body b.now) t) e (see_copy b)) (bodies.see_copy r)
        (λ rest. ap (λ z. sheets.copy z (put next rest)) f ∙ ap (λ k. sheets.copy (put from (body b.now)) (put k rest)) n)

    pub number_each : (p : Path) (b : Bor (List Written)) (r : Bor (List Instr)) (k middle : ℕ) → w ≡ v.ForEach p b → k ≡ from → middle ≡ from + 1 → see.body r.now ≡ put middle (body b.now) → next ≡ middle + eaches_in (body b.now)
        → (rest : WrittenBody) → see.instruction (i.ForEach k p r) (put next rest) ≡ put from (written w rest)
    number_each p b r k middle e is m f n =
        let count : next ≡ from + 1 + eaches_in (body b.now) = omega (arith, m, n) in
        by_parts w (i.ForEach k p r) from next (λ t. s.w_each (path p) (body b.now) t) (λ t. sheets.for_each k (path p) (see.body r.now) t) (along w (v.ForEach p b) (λ t. s.w_each (path p) (body b.now) t) e (see_for_each p b)) (bodies.see_for_each k p r)
        (λ rest. ap (λ z. sheets.for_each z (path p) (see.body r.now) (put next rest)) is
        ∙ (ap (λ z. sheets.for_each from (path p) z (put next rest)) (f ∙ ap (λ z. put z (body b.now)) m) ∙ ap (λ z. sheets.for_each from (path p) (put (from + 1) (body b.now)) (put z rest)) count))

    -- how many for-eaches an instruction has
    pub counted_by : (u : Written) (k : ℕ) → w ≡ u → eaches_in (alone (written u)) ≡ k → next ≡ from + k → next ≡ from + eaches_in (alone (written w))
    counted_by u k e f g = g ∙ ap (λ z. from + z) (sym (ap (λ z. eaches_in (alone (written z))) e ∙ f))

  -- one more instruction in a body
  pub body_step : (is : List Written) (k : ℕ) (w : Written) (h : k < length is) → w ≡ get_or is k w → (found : List Instr) (x : Instr) (from next : ℕ) (all : Body)
      → ((rest : WrittenBody) → see.instruction x (put next rest) ≡ put from (written w rest)) → body_then (see.body found) (put from (body (drop k is))) ≡ all
      → body_then (see.body (found ++ x ∷ [])) (put next (body (drop (k + 1) is))) ≡ all
  body_step is k w h e found x from next all f g =
      let rest = body (drop (k + 1) is) in
      ap (λ z. body_then z (put next rest)) (pushed_instruction found x)
      ∙ (body_then_assoc (see.body found) (see.instruction x sheets.no_instruction) (put next rest)
      ∙ (ap (body_then (see.body found)) (instruction_then x sheets.no_instruction (put next rest) ∙ (f rest ∙ ap (put from) (sym (left_written is k w h e)))) ∙ g))

  pub body_end : (is : List Written) (k : ℕ) (found : List Instr) (next : ℕ) (all : Body) → length is ≤ k → body_then (see.body found) (put next (body (drop k is))) ≡ all → see.body found ≡ all
  body_end is k found next all h e = sym (body_then_done (see.body found)) ∙ (ap (λ z. body_then (see.body found) (put next z)) (sym (no_body_left is k h)) ∙ e)

  -- one more branch
  pub branches_step : (bs : List WrittenBranch) (k : ℕ) (d : WrittenBranch) (h : k < length bs) (found : List Branch) (x : Branch) (from next start : ℕ) → x.test ≡ (get_or bs k d).test
      → see.body x.body.now ≡ put from (body (get_or bs k d).body.now) → next ≡ from + eaches_in (body (get_or bs k d).body.now)
      → ((rest : WrittenBranches) → see.branches found (numbered_branches modes names from (branches (drop k bs) rest)) ≡ numbered_branches modes names start (branches bs rest)) → (rest : WrittenBranches)
      → see.branches (found ++ x ∷ []) (numbered_branches modes names next (branches (drop (k + 1) bs) rest)) ≡ numbered_branches modes names start (branches bs rest)
  branches_step bs k d h found x from next start t f n g rest =
      let left = branches (drop (k + 1) bs) rest in
      let one : sheets.branch (test x.test) (see.body x.body.now) (numbered_branches modes names next left) ≡ numbered_branches modes names from (s.w_branch (test (get_or bs k d).test) (body (get_or bs k d).body.now) left) =
      ap (λ z. sheets.branch (test z) (see.body x.body.now) (numbered_branches modes names next left)) t
      ∙ (ap (λ z. sheets.branch (test (get_or bs k d).test) z (numbered_branches modes names next left)) f
      ∙ ap (λ j. sheets.branch (test (get_or bs k d).test) (put from (body (get_or bs k d).body.now)) (numbered_branches modes names j left)) n) in
      pushed_branch found x (numbered_branches modes names next left)
      ∙ (ap (see.branches found) (one ∙ ap (numbered_branches modes names from) (sym (next_branch bs k d h rest))) ∙ g rest)

  pub branches_end : (bs : List WrittenBranch) (k : ℕ) (found : List Branch) (next start : ℕ) → length bs ≤ k
      → ((rest : WrittenBranches) → see.branches found (numbered_branches modes names next (branches (drop k bs) rest)) ≡ numbered_branches modes names start (branches bs rest)) → (rest : WrittenBranches)
      → see.branches found (numbered_branches modes names next rest) ≡ numbered_branches modes names start (branches bs rest)
  branches_end bs k found next start h g rest = ap (λ z. see.branches found (numbered_branches modes names next (branches z rest))) (sym (drop_all k bs h)) ∙ g rest

-- one more is counted
pub branches_count : (bs : List WrittenBranch) (k : ℕ) (d : WrittenBranch) (h : k < length bs) (from next all : ℕ) → next ≡ from + eaches_in (body (get_or bs k d).body.now)
    → from + eaches_in_branches (branches_of (drop k bs)) ≡ all → next + eaches_in_branches (branches_of (drop (k + 1) bs)) ≡ all
branches_count bs k d h from next all e f = omega (arith, e, f, eaches_branch bs k d h)

pub body_count : (is : List Written) (k : ℕ) (w : Written) (h : k < length is) → w ≡ get_or is k w → (from next all : ℕ) → next ≡ from + eaches_in (alone (written w)) → from + eaches_in (body (drop k is)) ≡ all
    → next + eaches_in (body (drop (k + 1) is)) ≡ all
body_count is k w h e from next all f g = omega (arith, f, g, eaches_step is k w h e)

-- nothing is left to count
pub body_counted : (is : List Written) (k next all : ℕ) → length is ≤ k → next + eaches_in (body (drop k is)) ≡ all → next ≡ all
body_counted is k next all h e = omega (arith, e, eaches_end is k h)

pub branches_counted : (bs : List WrittenBranch) (k next all : ℕ) → length bs ≤ k → next + eaches_in_branches (branches_of (drop k bs)) ≡ all → next ≡ all
branches_counted bs k next all h e = omega (arith, e, eaches_branches_end bs k h)

pub if_ok : {T E : Type 0} (r : Result T E) (P Q : T → Type 0) → ((x : T) → P x → Q x) → IfOk r P → IfOk r Q
if_ok (Ok x) P Q f h = f x h
if_ok (Err e) P Q f h = h

-- the number of a mode and of a name
pub mode_found : (k : Name) (ks : List Name) (names : List ExpandedName) (o : Option Name) (j n : ℕ) → o ≡ Some k → Some j ≡ position (same_key k) ks → n ≡ j + 1 → n ≡ mode_number (map name ks) names (option_map name o)
mode_found k ks names o j n is e f =
    let at : n ≡ 1 + number_of same_name (name k) (map name ks) = omega (arith, f, found_at k ks j e) in at ∙ ap (λ z. mode_number (map name ks) names (option_map name z)) (sym is)

pub mode_missing : (k : Name) (ks : List Name) (names : List ExpandedName) (o : Option Name) (n : ℕ) → o ≡ Some k → false ≡ list_any (same_key k) ks → n ≡ length ks + 1 → n ≡ mode_number (map name ks) names (option_map name o)
mode_missing k ks names o n is e f =
    let past : number_of same_name (name k) (map name ks) ≡ length ks = number_past (name k) (map name ks) (sym (any_seen k ks) ∙ sym e) ∙ seen ks in
    let at : n ≡ 1 + number_of same_name (name k) (map name ks) = omega (arith, f, past) in at ∙ ap (λ z. mode_number (map name ks) names (option_map name z)) (sym is)
  where
    seen : (ks : List Name) → length (map name ks) ≡ length ks
    seen [] = refl
    seen (k ∷ ks) = ap (λ z. suc z) (seen ks)

pub name_missing : (k : Name) (ks : List Name) (n : ℕ) → false ≡ list_any (same_key k) ks → n ≡ length ks → n ≡ number_of same_name (name k) (map name ks)
name_missing k ks n e f = f ∙ sym (number_past (name k) (map name ks) (sym (any_seen k ks) ∙ sym e) ∙ seen ks)
  where
    seen : (ks : List Name) → length (map name ks) ≡ length ks
    seen [] = refl
    seen (k ∷ ks) = ap (λ z. suc z) (seen ks)

-- for-eaches of templates
pub rules_counted : (t : s.Template) (ts : List s.Template) → eaches_of (filter makes_rules (t ∷ ts)) ≡ eaches_with_rules t + eaches_of (filter makes_rules ts)
rules_counted t ts = by (makes_rules t)
  where
    by : (b : Bool) → eaches_of (cond b (t ∷ filter makes_rules ts) (filter makes_rules ts)) ≡ (if b then eaches_in t.body else 0) + eaches_of (filter makes_rules ts)
    by true = refl
    by false = omega arith

-- those of templates without rules
abbrev pub others_of : List s.Template → ℕ
others_of [] = 0
others_of (t ∷ ts) = eaches_without t + others_of ts

pub all_counted : (ts : List s.Template) → eaches_of (filter makes_rules ts) + others_of ts ≡ eaches_of ts
all_counted [] = refl
all_counted (t ∷ ts) = omega (arith, rules_counted t ts, both (makes_rules t), all_counted ts)
  where
    both : (b : Bool) → (if b then eaches_in t.body else 0) + (if b then 0 else eaches_in t.body) ≡ eaches_in t.body
    both true = omega arith
    both false = omega arith

module _ (ts : List Template) (k : ℕ) (d : Template) (h : k < length ts) where
  abbrev now : s.Template
  now = template (get_or ts k d)

  left : map template (drop k ts) ≡ now ∷ map template (drop (k + 1) ts)
  left = ap (map template) (drop_more ts k d h)

  pub rules_step : (count new all : ℕ) → new ≡ count + eaches_with_rules now → count + eaches_of (filter makes_rules (map template (drop k ts))) ≡ all → new + eaches_of (filter makes_rules (map template (drop (k + 1) ts))) ≡ all
  rules_step count new all e f = omega (arith, e, f, ap (λ z. eaches_of (filter makes_rules z)) left, rules_counted now (map template (drop (k + 1) ts)))

  pub others_step : (count new all : ℕ) → new ≡ count + eaches_without now → count + others_of (map template (drop k ts)) ≡ all → new + others_of (map template (drop (k + 1) ts)) ≡ all
  others_step count new all e f = omega (arith, e, f, ap others_of left)

  -- one more template with its numbers
  first_is : (in_rules others : ℕ) (rest : List s.Template)
      → first_eaches in_rules others (now ∷ rest) ≡ numbered_template in_rules others now ∷ first_eaches (in_rules + eaches_with_rules now) (others + eaches_without now) rest
  first_is in_rules others rest = by (makes_rules now)
    where
      same : (k : ℕ) → k ≡ k + 0
      same k = omega arith

      by : (b : Bool)
          → (if b
          then (record { template = now; first = in_rules } ∷ first_eaches (in_rules + eaches_in now.body) others rest)
          else (record { template = now; first = others } ∷ first_eaches in_rules (others + eaches_in now.body) rest))
          ≡ (record { template = now; first = if b then in_rules else others } ∷ first_eaches (in_rules + (if b then eaches_in now.body else 0)) (others + (if b then 0 else eaches_in now.body)) rest)
      by true = ap (λ z. record { template = now; first = in_rules } ∷ first_eaches (in_rules + eaches_in now.body) z rest) (same others)
      by false = ap (λ z. record { template = now; first = others } ∷ first_eaches z (others + eaches_in now.body) rest) (same in_rules)

  pub numbers_step : {X : Type 0} (f : NumberedTemplate → List X) (in_rules others in_rules_next others_next : ℕ) (old new all : List X) → in_rules_next ≡ in_rules + eaches_with_rules now
      → others_next ≡ others + eaches_without now → new ≡ old ++ f (numbered_template in_rules others now) → old ++ flat_map f (first_eaches in_rules others (map template (drop k ts))) ≡ all
      → new ++ flat_map f (first_eaches in_rules_next others_next (map template (drop (k + 1) ts))) ≡ all
  numbers_step f in_rules others in_rules_next others_next old new all a b e g =
      let rest = map template (drop (k + 1) ts) in
      ap (λ z. z ++ flat_map f (first_eaches in_rules_next others_next rest)) e
      ∙ (append_assoc old (f (numbered_template in_rules others now)) (flat_map f (first_eaches in_rules_next others_next rest))
      ∙ (ap (λ z. old ++ (f (numbered_template in_rules others now) ++ flat_map f (first_eaches z others_next rest))) a
      ∙ (ap (λ z. old ++ (f (numbered_template in_rules others now) ++ flat_map f (first_eaches (in_rules + eaches_with_rules now) z rest))) b
      ∙ (ap (λ z. old ++ flat_map f z) (sym (first_is in_rules others rest) ∙ ap (first_eaches in_rules others) (sym left)) ∙ g))))

pub numbers_end : {X : Type 0} (f : NumberedTemplate → List X) (ts : List Template) (k in_rules others : ℕ) (old all : List X) → length ts ≤ k
    → old ++ flat_map f (first_eaches in_rules others (map template (drop k ts))) ≡ all → old ≡ all
numbers_end f ts k in_rules others old all h e = sym (append-nil old) ∙ (ap (λ z. old ++ flat_map f (first_eaches in_rules others (map template z))) (sym (drop_all k ts h)) ∙ e)

pub rules_end : (ts : List Template) (k count all : ℕ) → length ts ≤ k → count + eaches_of (filter makes_rules (map template (drop k ts))) ≡ all → count ≡ all
rules_end ts k count all h e = omega (arith, e, ap (λ z. eaches_of (filter makes_rules (map template z))) (drop_all k ts h))

pub others_end : (ts : List Template) (k count all : ℕ) → length ts ≤ k → count + others_of (map template (drop k ts)) ≡ all → count ≡ all
others_end ts k count all h e = omega (arith, e, ap (λ z. others_of (map template z)) (drop_all k ts h))

-- rules and bodies by equal lists of modes and names
pub rules_are : (modes names ms ns : List ExpandedName) → modes ≡ ms → names ≡ ns → (t : NumberedTemplate) (old new : List sheets.Rule) → new ≡ old ++ rules_with modes names t → new ≡ old ++ rules_with ms ns t
rules_are modes names ms ns e f t old new g = g ∙ (ap (λ m. old ++ rules_with m names t) e ∙ ap (λ n. old ++ rules_with ms n t) f)

pub named_are : (modes names ms ns : List ExpandedName) → modes ≡ ms → names ≡ ns → (t : NumberedTemplate) (old new : List Body) → new ≡ old ++ named_with modes names t → new ≡ old ++ named_with ms ns t
named_are modes names ms ns e f t old new g = g ∙ (ap (λ m. old ++ named_with m names t) e ∙ ap (λ n. old ++ named_with ms n t) f)
