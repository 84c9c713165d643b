-- Instructions, bodies, branches, rules and named bodies as they are marked one after the other.
use Rattle.std.proofs.Common.{◌≡◌, ◌⊎◌, inl, inr, ℕ, ◌+◌, ◌<◌, ◌≤◌, List, [], ◌∷◌, ◌++◌, refl, ap, ◌∙◌, sym, arith, length, map, get_or, drop, append_assoc, append-nil, Bool, true, false, cond, Bor}
use Rattle.std.proofs.lemmas.List.{drop_more, drop_all}
use Rattle.tc_model.specs.Sheets as s
use Rattle.tc_model.specs.Sheets.{Body, Branches}
use Rattle.tc_model.specs.Views.{name, path, test, match_pattern, instruction, body, branches, rule}
use Rattle.tc_model.specs.declared.tree.Name.{Name}
use Rattle.tc_model.specs.declared.sheet.Path.{Path}
use Rattle.tc_model.specs.declared.sheet.Branch.{Branch}
use Rattle.tc_model.specs.declared.sheet.Instr.{Instr}
use Rattle.tc_model.specs.declared.sheet.Instr.TheVariants as v
use Rattle.tc_model.specs.declared.sheet.Rule.{Rule}
use Rattle.tc_model.specs.declared.sheet.Sheet.{Sheet}
use Rattle.tc_model.specs.Views as see
use Rattle.tc_model.proofs.ViewsBody.{see_text, see_elem, see_copy, see_apply, see_call, see_value_of, see_value_of_self, see_choose, see_for_each, left_instruction, pushed_branch}
use Rattle.tc_dead.specs.Spots.{Spot, a_rule, a_named_body, a_branch, same_spot, branches_of, branches_in, eaches_of, eaches_in, branches_of_all, eaches_of_all, rules_from, bodies_from, rule_bodies}
use Rattle.tc_dead.specs.Marked.{marked_at, wrapper_name, mark_name, mark_before, begun, marked_before, marked_branches, marked_rule, marked_body}
use Rattle.tc_dead.specs.Views.{bodies, alone, placed, open_branches, IsPast, IsPut, IsPutBody, IsBegunBody, IsMarkedBranches, IsMarkedLast, IsMarkedRules, IsMarkedNamed}
use Rattle.tc_dead.specs.declared.marking.Numbers.{Numbers}
use Rattle.tc_dead.proofs.InstructionParts.{Layer, next_branch, no_body_left, choose_branches, choose_eaches, is_something, branches_of_last, branches_by, eaches_by, branches_of_text, branches_of_elem, branches_of_copy, branches_of_apply, branches_of_call, branches_of_value, branches_of_self, branches_of_choose, branches_of_each, eaches_of_text, eaches_of_elem, eaches_of_copy, eaches_of_apply, eaches_of_call, eaches_of_value, eaches_of_self, eaches_of_choose, eaches_of_each}
use Rattle.tc_dead.proofs.CountSteps.{branches_counted, eaches_counted, branches_counted_in, eaches_counted_in, branches_counted_all, eaches_counted_all, rule_bodies_so}

-- the body of a branch, whose number is the first, as it is marked
pub record IsMarkedBranch (p : Spot) (b : List Instr) (old new : Numbers) (marked : List Instr) : Type 0 where
  pub means : body marked ≡ begun (same_spot p (a_branch old.branch)) (marked_before p (old.branch + 1) old.each (body b) s.no_instruction)
  pub branches : new.branch ≡ old.branch + 1 + branches_of (body b)
  pub eaches : new.each ≡ old.each + eaches_of (body b)

placed_append : (is js : List Instr) (rest : Body) → placed (is ++ js) rest ≡ placed is (placed js rest)
placed_append [] js rest = refl
placed_append (i ∷ is) js rest = ap (instruction i) (placed_append is js rest)

pub placed_push : (is : List Instr) (x : Instr) (rest : Body) → placed (is ++ x ∷ []) rest ≡ placed is (instruction x rest)
placed_push is x rest = placed_append is (x ∷ []) rest

pub placed_body : (is : List Instr) → placed is s.no_instruction ≡ body is
placed_body [] = refl
placed_body (i ∷ is) = ap (instruction i) (placed_body is)

pub pushed_so : (old new : List Instr) (x : Instr) → new ≡ old ++ x ∷ [] → (rest : Body) → placed new rest ≡ placed old (instruction x rest)
pushed_so old new x e rest = ap (λ z. placed z rest) e ∙ placed_push old x rest

-- an element that holds one instruction alone
pub around : (n : Name) (inner : Bor (List Instr)) (i : Instr) (b : Body) → inner.now ≡ i ∷ [] → alone i ≡ b → (rest : Body) → instruction (v.Elem n inner) rest ≡ s.put_element (name n) b rest
around n inner i b e f rest = see_elem n inner rest ∙ ap (λ z. s.put_element (name n) z rest) (ap body e ∙ f)

pub mark_so : (n m : Name) (inner none : Bor (List Instr)) → name n ≡ mark_name → name m ≡ mark_name → none.now ≡ [] → inner.now ≡ v.Elem m none ∷ [] → (rest : Body) → instruction (v.Elem n inner) rest ≡ mark_before rest
mark_so n m inner none e f g h rest =
    around n inner (v.Elem m none) (s.put_element (name m) s.no_instruction s.no_instruction) h (see_elem m none s.no_instruction ∙ ap (λ z. s.put_element (name m) (body z) s.no_instruction) g) rest
    ∙ λ i. s.put_element (e i) (s.put_element (f i) s.no_instruction s.no_instruction) rest

pub wrapped_so : (n : Name) (inner copied : Bor (List Instr)) → name n ≡ wrapper_name → inner.now ≡ v.Copy copied ∷ [] → (rest : Body)
    → instruction (v.Elem n inner) rest ≡ s.put_element wrapper_name (s.copy (body copied.now) s.no_instruction) rest
wrapped_so n inner copied e h rest =
    around n inner (v.Copy copied) (s.copy (body copied.now) s.no_instruction) h (see_copy copied s.no_instruction) rest ∙ ap (λ z. s.put_element z (s.copy (body copied.now) s.no_instruction) rest) e

-- one instruction more, as it is seen
pub copy_pushed : (old new : List Instr) (n : Name) (inner copied : Bor (List Instr)) → new ≡ old ++ v.Elem n inner ∷ [] → name n ≡ wrapper_name → inner.now ≡ v.Copy copied ∷ [] → (rest : Body)
    → placed new rest ≡ placed old (s.put_element wrapper_name (s.copy (body copied.now) s.no_instruction) rest)
copy_pushed old new n inner copied put e h rest = pushed_so old new (v.Elem n inner) put rest ∙ ap (placed old) (wrapped_so n inner copied e h rest)

pub choice_pushed : (old new : List Instr) (cs : Bor (List Branch)) (last : Bor (List Instr)) → new ≡ old ++ v.Choose cs last ∷ [] → (rest : Body)
    → placed new rest ≡ placed old (s.choose (branches cs.now (s.otherwise (body last.now))) rest)
choice_pushed old new cs last put rest = pushed_so old new (v.Choose cs last) put rest ∙ ap (placed old) (see_choose cs last rest)

pub each_pushed : (old new : List Instr) (k : ℕ) (w : Path) (inner : Bor (List Instr)) → new ≡ old ++ v.ForEach k w inner ∷ [] → (rest : Body) → placed new rest ≡ placed old (s.for_each k (path w) (body inner.now) rest)
each_pushed old new k w inner put rest = pushed_so old new (v.ForEach k w inner) put rest ∙ ap (placed old) (see_for_each k w inner rest)

-- what a body begins with
pub begun_yes : (is_it : Bool) (none first found : List Instr) → is_it ≡ true → none ≡ [] → ((rest : Body) → placed first rest ≡ placed none (mark_before rest)) → found ≡ first → (rest : Body) → placed found rest ≡ begun is_it rest
begun_yes is_it none first found so e put is rest = ap (λ z. placed z rest) is ∙ (put rest ∙ (ap (λ z. placed z (mark_before rest)) e ∙ ap (λ z. begun z rest) (sym so)))

pub begun_no : (is_it : Bool) (none found : List Instr) → is_it ≡ false → none ≡ [] → found ≡ none → (rest : Body) → placed found rest ≡ begun is_it rest
begun_no is_it none found nay e is rest = ap (λ z. placed z rest) (is ∙ e) ∙ ap (λ z. begun z rest) (sym nay)

module _ (p : Spot) where
  abbrev before : ℕ → ℕ → Body → Body → Body
  before n e b rest = marked_before p n e b rest

  -- what an instruction is seen as, marked, at these numbers
  see_by : (i j : Instr) (f : Layer) → i ≡ j → ((rest : Body) → instruction j rest ≡ f rest) → (rest : Body) → instruction i rest ≡ f rest
  see_by i j f e h rest = ap (λ z. instruction z rest) e ∙ h rest

  module _ (i : Instr) (old next : Numbers) (is new : List Instr) where
    -- an instruction that is put, by what it is marked to
    put_by : (f g : Layer) → ((rest : Body) → instruction i rest ≡ f rest)
        → ((later rest : Body) → g (before next.branch next.each later rest) ≡ before old.branch old.each (f later) rest)
        → IsPast (alone i) old next
        → ((rest : Body) → placed new rest ≡ placed is (g rest)) → IsPut p i old next is new
    put_by f g e same past put = record {
      means = λ later rest. put (before next.branch next.each later rest) ∙ ap (placed is) (same later rest ∙ ap (λ z. before old.branch old.each z rest) (sym (e later)));
      past = past;
    }

  add_none : (n : ℕ) → n ≡ n + 0
  add_none n = omega arith

  module _ (i : Instr) (old : Numbers) (is new : List Instr) (put : (rest : Body) → placed new rest ≡ placed is (instruction i rest)) where
    leaf : (j : Instr) (f : Layer) → i ≡ j → ((rest : Body) → instruction j rest ≡ f rest) → ((n e : ℕ) (later rest : Body) → f (before n e later rest) ≡ before n e (f later) rest)
        → branches_of (alone j) ≡ 0 → eaches_of (alone j) ≡ 0 → IsPut p i old old is new
    leaf j f e h same none no_each =
        put_by i old old is new f f (see_by i j f e h) (same old.branch old.each)
        (record {
          branches = add_none old.branch ∙ ap (λ z. old.branch + z) (sym (branches_by i j 0 e none));
          eaches = add_none old.each ∙ ap (λ z. old.each + z) (sym (eaches_by i j 0 e no_each));
        })
        (λ rest. put rest ∙ ap (placed is) (see_by i j f e h rest))

    -- an instruction without instructions in it
    pub put_leaf : ((x : Bor (List ℕ)) × (i ≡ v.Text x)) ⊎ (((w : Path) × (m : ℕ) × (i ≡ v.Apply w m)) ⊎ (((n : ℕ) × (i ≡ v.Call n)) ⊎ (((w : Path) × (i ≡ v.ValueOf w)) ⊎ (i ≡ v.ValueOfSelf)))) → IsPut p i old old is new
    put_leaf (inl (x, e)) = leaf (v.Text x) (λ r. s.put_text x.now r) e (see_text x) (λ n k later rest. refl) (branches_of_text x) (eaches_of_text x)
    put_leaf (inr (inl (w, m, e))) = leaf (v.Apply w m) (λ r. s.apply (path w) m r) e (see_apply w m) (λ n k later rest. refl) (branches_of_apply w m) (eaches_of_apply w m)
    put_leaf (inr (inr (inl (n, e)))) = leaf (v.Call n) (λ r. s.call n r) e (see_call n) (λ n k later rest. refl) (branches_of_call n) (eaches_of_call n)
    put_leaf (inr (inr (inr (inl (w, e))))) = leaf (v.ValueOf w) (λ r. s.value (path w) r) e (see_value_of w) (λ n k later rest. refl) (branches_of_value w) (eaches_of_value w)
    put_leaf (inr (inr (inr (inr e)))) = leaf v.ValueOfSelf (λ r. s.value_of_self r) e see_value_of_self (λ n k later rest. refl) branches_of_self eaches_of_self

  module _ (i : Instr) (old next : Numbers) (is new : List Instr) where
    pub put_elem : (n : Name) (inner : Bor (List Instr)) → i ≡ v.Elem n inner → IsPutBody p inner.now old next is new → IsPut p i old next is new
    put_elem n inner e q = record {
      means = λ later rest.
          q.means (before next.branch next.each later rest)
          ∙ ap (placed is)
          ((λ j. before old.branch old.each (body inner.now) (before (q.past.branches j) (q.past.eaches j) later rest))
          ∙ ap (λ z. before old.branch old.each z rest) (sym (see_by i (v.Elem n inner) (λ r. s.put_element (name n) (body inner.now) r) e (see_elem n inner) later)));
      past = record {
        branches = q.past.branches ∙ ap (λ z. old.branch + z) (sym (branches_by i (v.Elem n inner) (branches_of (body inner.now)) e (branches_of_elem n inner)));
        eaches = q.past.eaches ∙ ap (λ z. old.each + z) (sym (eaches_by i (v.Elem n inner) (eaches_of (body inner.now)) e (eaches_of_elem n inner)));
      };
    }

    pub put_copy : (inner : Bor (List Instr)) (copied : List Instr) → i ≡ v.Copy inner → IsBegunBody p false inner.now old next copied
        → ((rest : Body) → placed new rest ≡ placed is (s.put_element wrapper_name (s.copy (body copied) s.no_instruction) rest)) → IsPut p i old next is new
    put_copy inner copied e q put =
        put_by i old next is new (λ r. s.copy (body inner.now) r) (λ r. s.put_element wrapper_name (s.copy (body copied) s.no_instruction) r) (see_by i (v.Copy inner) (λ r. s.copy (body inner.now) r) e (see_copy inner))
        (λ later rest. λ j. s.put_element wrapper_name (s.copy (q.means j) s.no_instruction) (before (q.past.branches j) (q.past.eaches j) later rest))
        (record {
          branches = q.past.branches ∙ ap (λ z. old.branch + z) (sym (branches_by i (v.Copy inner) (branches_of (body inner.now)) e (branches_of_copy inner)));
          eaches = q.past.eaches ∙ ap (λ z. old.each + z) (sym (eaches_by i (v.Copy inner) (eaches_of (body inner.now)) e (eaches_of_copy inner)));
        })
        put

    pub put_choose : (bs : Bor (List Branch)) (last : Bor (List Instr)) (middle : Numbers) (cs : Bor (List Branch)) (other : Bor (List Instr)) → i ≡ v.Choose bs last
        → IsMarkedBranches p bs.now old middle cs.now → IsMarkedLast p last.now middle next other.now
        → ((rest : Body) → placed new rest ≡ placed is (s.choose (branches cs.now (s.otherwise (body other.now))) rest)) → IsPut p i old next is new
    put_choose bs last middle cs other e q r put =
        let end : Branches = s.otherwise (body last.now) in
        let x : Branches = branches bs.now end in
        let whole : branches cs.now (s.otherwise (body other.now)) ≡ marked_branches p old.branch old.each x = ap (branches cs.now) r.means ∙ q.means end in
        let many : next.branch ≡ old.branch + branches_in x = omega (arith, q.branches_past, r.branches_past, choose_branches bs.now (body last.now)) in
        let each : next.each ≡ old.each + eaches_in x = omega (arith, q.eaches_past, r.eaches_past, choose_eaches bs.now (body last.now)) in
        put_by i old next is new (λ t. s.choose x t) (λ t. s.choose (branches cs.now (s.otherwise (body other.now))) t) (see_by i (v.Choose bs last) (λ t. s.choose x t) e (see_choose bs last))
        (λ later rest. λ j. s.choose (whole j) (before (many j) (each j) later rest))
        (record {
          branches = omega (arith, many, choose_branches bs.now (body last.now), branches_by i (v.Choose bs last) (branches_in (open_branches bs.now) + branches_in end) e (branches_of_choose bs last));
          eaches = omega (arith, each, choose_eaches bs.now (body last.now), eaches_by i (v.Choose bs last) (eaches_in (open_branches bs.now) + eaches_of (body last.now)) e (eaches_of_choose bs last));
        })
        put

    pub put_each : (k : ℕ) (w : Path) (inner : Bor (List Instr)) (number : ℕ) (middle : Numbers) (repeated : Bor (List Instr)) → i ≡ v.ForEach k w inner → number ≡ old.each → middle.branch ≡ old.branch → middle.each ≡ old.each + 1
        → IsBegunBody p false inner.now middle next repeated.now
        → ((rest : Body) → placed new rest ≡ placed is (s.for_each number (path w) (body repeated.now) rest)) → IsPut p i old next is new
    put_each k w inner number middle repeated e is_number same more q put =
        let many : next.branch ≡ old.branch + branches_of (body inner.now) = q.past.branches ∙ ap (λ z. z + branches_of (body inner.now)) same in
        let each : next.each ≡ old.each + 1 + eaches_of (body inner.now) = q.past.eaches ∙ ap (λ z. z + eaches_of (body inner.now)) more in
        let content : body repeated.now ≡ before old.branch (old.each + 1) (body inner.now) s.no_instruction = q.means ∙ λ j. before (same j) (more j) (body inner.now) s.no_instruction in
        put_by i old next is new (λ r. s.for_each k (path w) (body inner.now) r) (λ r. s.for_each number (path w) (body repeated.now) r)
        (see_by i (v.ForEach k w inner) (λ r. s.for_each k (path w) (body inner.now) r) e (see_for_each k w inner))
        (λ later rest. λ j. s.for_each (is_number j) (path w) (content j) (before (many j) (each j) later rest))
        (record {
          branches = many ∙ ap (λ z. old.branch + z) (sym (branches_by i (v.ForEach k w inner) (branches_of (body inner.now)) e (branches_of_each k w inner)));
          eaches = omega (arith, each, eaches_by i (v.ForEach k w inner) (1 + eaches_of (body inner.now)) e (eaches_of_each k w inner));
        })
        put

  -- one more instruction of a body
  pub body_step : (js : List Instr) (k : ℕ) (x : Instr) → k < length js → x ≡ get_or js k x → (old next : Numbers) (is new : List Instr) (all : Body → Body) → IsPut p x old next is new
      → ((rest : Body) → placed is (before old.branch old.each (body (drop k js)) rest) ≡ all rest) → (rest : Body) → placed new (before next.branch next.each (body (drop (k + 1) js)) rest) ≡ all rest
  body_step js k x h e old next is new all q so_far rest =
      q.means (body (drop (k + 1) js)) rest ∙ (ap (λ z. placed is (before old.branch old.each z rest)) (sym (left_instruction js k x h e)) ∙ so_far rest)

  pub body_end : (js : List Instr) (k : ℕ) → length js ≤ k → (old next : Numbers) (is start : List Instr)
      → ((rest : Body) → placed is (before next.branch next.each (body (drop k js)) rest) ≡ placed start (before old.branch old.each (body js) rest))
      → next.branch + branches_of (body (drop k js)) ≡ old.branch + branches_of (body js) → next.each + eaches_of (body (drop k js)) ≡ old.each + eaches_of (body js)
      → IsPutBody p js old next start is
  body_end js k h old next is start so_far b e = record {
    means = λ rest. ap (λ z. placed is (before next.branch next.each z rest)) (sym (no_body_left js k h)) ∙ so_far rest;
    past = record { branches = branches_counted js k next.branch (old.branch + branches_of (body js)) h b; eaches = eaches_counted js k next.each (old.each + eaches_of (body js)) h e };
  }

  -- a body behind a mark or not
  pub begun_so : (is_it : Bool) (js : List Instr) (old next : Numbers) (first found put : List Instr) → ((rest : Body) → placed first rest ≡ begun is_it rest) → IsPutBody p js old next first found → put ≡ found → IsBegunBody p is_it js old next put
  begun_so is_it js old next first found put start q e = record {
    means = ap body e ∙ (sym (placed_body found) ∙ (q.means s.no_instruction ∙ start (before old.branch old.each (body js) s.no_instruction)));
    past = q.past;
  }

  -- the body of a branch
  pub branch_so : (is_it : Bool) (js : List Instr) (old middle next : Numbers) (put : List Instr) → is_it ≡ same_spot p (a_branch old.branch) → middle.branch ≡ old.branch + 1 → middle.each ≡ old.each
      → IsBegunBody p is_it js middle next put → IsMarkedBranch p js old next put
  branch_so is_it js old middle next put is more same q = record {
    means = q.means ∙ λ j. begun (is j) (before (more j) (same j) (body js) s.no_instruction);
    branches = q.past.branches ∙ ap (λ z. z + branches_of (body js)) more;
    eaches = q.past.eaches ∙ ap (λ z. z + eaches_of (body js)) same;
  }

  -- one more branch
  pub branches_step : (bs : List Branch) (k : ℕ) (d : Branch) → k < length bs → (old next : Numbers) (found new : List Branch) (x : Branch) (all : Branches → Branches) → new ≡ found ++ x ∷ []
      → x.test ≡ (get_or bs k d).test → IsMarkedBranch p (get_or bs k d).body.now old next x.body.now
      → ((rest : Branches) → branches found (marked_branches p old.branch old.each (branches (drop k bs) rest)) ≡ all rest) → (rest : Branches)
      → branches new (marked_branches p next.branch next.each (branches (drop (k + 1) bs) rest)) ≡ all rest
  branches_step bs k d h old next found new x all put t q so_far rest =
      let later : Branches = branches (drop (k + 1) bs) rest in
      let y : Branch = get_or bs k d in
      ap (λ z. branches z (marked_branches p next.branch next.each later)) put
      ∙ (pushed_branch found x (marked_branches p next.branch next.each later)
      ∙ (ap (branches found) ((λ j. s.branch (test (t j)) (q.means j) (marked_branches p (q.branches j) (q.eaches j) later)) ∙ ap (marked_branches p old.branch old.each) (sym (next_branch bs k d h rest))) ∙ so_far rest))

  pub branches_end : (bs : List Branch) (k : ℕ) → length bs ≤ k → (old next : Numbers) (found put : List Branch)
      → ((rest : Branches) → branches found (marked_branches p next.branch next.each (branches (drop k bs) rest)) ≡ marked_branches p old.branch old.each (branches bs rest))
      → next.branch + branches_in (open_branches (drop k bs)) ≡ old.branch + branches_in (open_branches bs) → next.each + eaches_in (open_branches (drop k bs)) ≡ old.each + eaches_in (open_branches bs)
      → put ≡ found → IsMarkedBranches p bs old next put
  branches_end bs k h old next found put so_far b e is = record {
    means = λ rest. ap (λ z. branches z (marked_branches p next.branch next.each rest)) is ∙ (ap (λ z. branches found (marked_branches p next.branch next.each (branches z rest))) (sym (drop_all k bs h)) ∙ so_far rest);
    branches_past = branches_counted_in bs k next.branch (old.branch + branches_in (open_branches bs)) h b;
    eaches_past = eaches_counted_in bs k next.each (old.each + eaches_in (open_branches bs)) h e;
  }

  -- the last branch
  pub last_nothing : (js : List Instr) (old : Numbers) (put : List Instr) → length js ≤ 0 → put ≡ [] → IsMarkedLast p js old old put
  last_nothing [] old put h e = record { means = ap (λ z. s.otherwise (body z)) e; branches_past = omega arith; eaches_past = omega arith }
  last_nothing (j ∷ js) old put h e = absurd (omega arith)

  pub last_something : (js : List Instr) (old next : Numbers) (put : List Instr) → 0 < length js → IsMarkedBranch p js old next put → IsMarkedLast p js old next put
  last_something js old next put h q = record {
    means = ap s.otherwise (q.means ∙ ap (λ z. cond z s.no_instruction (begun (same_spot p (a_branch old.branch)) (before (old.branch + 1) old.each (body js) s.no_instruction))) (sym (is_something js h)));
    branches_past = omega (arith, q.branches, branches_of_last js h);
    eaches_past = q.eaches;
  }

  -- one more rule
  pub rules_step : (rs : List Rule) (k : ℕ) (d : Rule) → k < length rs → (old next : Numbers) (found new : List Rule) (x : Rule) (number : ℕ) (is_it : Bool) (all : List s.Rule) → new ≡ found ++ x ∷ []
      → x.mode ≡ (get_or rs k d).mode → x.pattern ≡ (get_or rs k d).pattern → x.priority ≡ (get_or rs k d).priority → number ≡ k + 1 → is_it ≡ same_spot p (a_rule number)
      → IsBegunBody p is_it (get_or rs k d).body.now old next x.body.now
      → map rule found ++ map (marked_rule p) (rules_from (k + 1) old.branch old.each (map rule (drop k rs))) ≡ all
      → map rule new ++ map (marked_rule p) (rules_from (k + 1 + 1) next.branch next.each (map rule (drop (k + 1) rs))) ≡ all
  rules_step rs k d h old next found new x number is_it all put mode pattern priority is_number is q so_far =
      let y : Rule = get_or rs k d in
      let later : List s.Rule = map (marked_rule p) (rules_from (k + 1 + 1) next.branch next.each (map rule (drop (k + 1) rs))) in
      let it : is_it ≡ same_spot p (a_rule (k + 1)) = is ∙ ap (λ z. same_spot p (a_rule z)) is_number in
      let one : rule x ≡ marked_rule p (record { number = k + 1; branches = old.branch; eaches = old.each; rule = rule y }) =
      λ j. record { mode = mode j; pattern = match_pattern (pattern j); priority = priority j; body = (q.means ∙ ap (λ z. begun z (before old.branch old.each (body y.body.now) s.no_instruction)) it) j } in
      ap (λ z. map rule z ++ later) put
      ∙ (ap (λ z. z ++ later) (map_push found x)
      ∙ (append_assoc (map rule found) (rule x ∷ []) later
      ∙ (ap (λ z. map rule found ++ z) (λ j. one j ∷ map (marked_rule p) (rules_from (k + 1 + 1) (q.past.branches j) (q.past.eaches j) (map rule (drop (k + 1) rs))))
      ∙ (ap (λ z. map rule found ++ map (marked_rule p) (rules_from (k + 1) old.branch old.each (map rule z))) (sym (drop_more rs k d h)) ∙ so_far))))
    where
      map_push : (ys : List Rule) (z : Rule) → map rule (ys ++ z ∷ []) ≡ map rule ys ++ rule z ∷ []
      map_push [] z = refl
      map_push (y ∷ ys) z = ap (λ r. rule y ∷ r) (map_push ys z)

  pub rules_end : (rs : List Rule) (k : ℕ) → length rs ≤ k → (old next : Numbers) (found put : List Rule)
      → map rule found ++ map (marked_rule p) (rules_from (k + 1) next.branch next.each (map rule (drop k rs))) ≡ map (marked_rule p) (rules_from 1 old.branch old.each (map rule rs))
      → next.branch + branches_of_all (map (λ r. body r.body.now) (drop k rs)) ≡ old.branch + branches_of_all (map (λ r. body r.body.now) rs)
      → next.each + eaches_of_all (map (λ r. body r.body.now) (drop k rs)) ≡ old.each + eaches_of_all (map (λ r. body r.body.now) rs)
      → put ≡ found → IsMarkedRules p rs old next put
  rules_end rs k h old next found put so_far b e is = record {
    means = ap (map rule) is ∙ (sym (append-nil (map rule found)) ∙ (ap (λ z. map rule found ++ map (marked_rule p) (rules_from (k + 1) next.branch next.each (map rule z))) (sym (drop_all k rs h)) ∙ so_far));
    branches_past = branches_counted_all (λ (r : Rule). body r.body.now) rs k h next.branch (old.branch + branches_of_all (map (λ r. body r.body.now) rs)) b ∙ ap (λ z. old.branch + branches_of_all z) (sym (rule_bodies_so rs));
    eaches_past = eaches_counted_all (λ (r : Rule). body r.body.now) rs k h next.each (old.each + eaches_of_all (map (λ r. body r.body.now) rs)) e ∙ ap (λ z. old.each + eaches_of_all z) (sym (rule_bodies_so rs));
  }

  -- one more named body
  pub named_step : (bs : List (Bor (List Instr))) (k : ℕ) (d : Bor (List Instr)) → k < length bs → (old next : Numbers) (found new : List (Bor (List Instr))) (x : Bor (List Instr)) (number : ℕ) (is_it : Bool) (all : List Body) → new ≡ found ++ x ∷ []
      → number ≡ k + 1 → is_it ≡ same_spot p (a_named_body number) → IsBegunBody p is_it (get_or bs k d).now old next x.now
      → bodies found ++ map (marked_body p) (bodies_from (k + 1) old.branch old.each (bodies (drop k bs))) ≡ all
      → bodies new ++ map (marked_body p) (bodies_from (k + 1 + 1) next.branch next.each (bodies (drop (k + 1) bs))) ≡ all
  named_step bs k d h old next found new x number is_it all put is_number is q so_far =
      let y : Bor (List Instr) = get_or bs k d in
      let later : List Body = map (marked_body p) (bodies_from (k + 1 + 1) next.branch next.each (bodies (drop (k + 1) bs))) in
      let it : is_it ≡ same_spot p (a_named_body (k + 1)) = is ∙ ap (λ z. same_spot p (a_named_body z)) is_number in
      let one : body x.now ≡ begun (same_spot p (a_named_body (k + 1))) (before old.branch old.each (body y.now) s.no_instruction) = q.means ∙ ap (λ z. begun z (before old.branch old.each (body y.now) s.no_instruction)) it in
      ap (λ z. bodies z ++ later) put
      ∙ (ap (λ z. z ++ later) (map_push found x)
      ∙ (append_assoc (bodies found) (body x.now ∷ []) later
      ∙ (ap (λ z. bodies found ++ z) (λ j. one j ∷ map (marked_body p) (bodies_from (k + 1 + 1) (q.past.branches j) (q.past.eaches j) (bodies (drop (k + 1) bs))))
      ∙ (ap (λ z. bodies found ++ map (marked_body p) (bodies_from (k + 1) old.branch old.each (bodies z))) (sym (drop_more bs k d h)) ∙ so_far))))
    where
      map_push : (ys : List (Bor (List Instr))) (z : Bor (List Instr)) → bodies (ys ++ z ∷ []) ≡ bodies ys ++ body z.now ∷ []
      map_push [] z = refl
      map_push (y ∷ ys) z = ap (λ r. body y.now ∷ r) (map_push ys z)

  pub named_end : (bs : List (Bor (List Instr))) (k : ℕ) → length bs ≤ k → (old next : Numbers) (found put : List (Bor (List Instr)))
      → bodies found ++ map (marked_body p) (bodies_from (k + 1) next.branch next.each (bodies (drop k bs))) ≡ map (marked_body p) (bodies_from 1 old.branch old.each (bodies bs))
      → next.branch + branches_of_all (bodies (drop k bs)) ≡ old.branch + branches_of_all (bodies bs)
      → next.each + eaches_of_all (bodies (drop k bs)) ≡ old.each + eaches_of_all (bodies bs)
      → put ≡ found → IsMarkedNamed p bs old next put
  named_end bs k h old next found put so_far b e is = record {
    means = ap bodies is ∙ (sym (append-nil (bodies found)) ∙ (ap (λ z. bodies found ++ map (marked_body p) (bodies_from (k + 1) next.branch next.each (bodies z))) (sym (drop_all k bs h)) ∙ so_far));
    branches_past = branches_counted_all (λ (z : Bor (List Instr)). body z.now) bs k h next.branch (old.branch + branches_of_all (bodies bs)) b;
    eaches_past = eaches_counted_all (λ (z : Bor (List Instr)). body z.now) bs k h next.each (old.each + eaches_of_all (bodies bs)) e;
  }

  -- the whole stylesheet
  pub made_so : (x : Sheet) (middle next : Numbers) (rules : Bor (List Rule)) (named : Bor (List (Bor (List Instr))))
      → IsMarkedRules p x.rules.now (record { branch = 1; each = 0 }) middle rules.now → IsMarkedNamed p x.named.now middle next named.now
      → see.sheet (record { modes = x.modes; eaches = next.each; rules = rules; named = named }) ≡ marked_at p (see.sheet x)
  made_so x middle next rules named q r =
      let in_rules : ℕ = eaches_of_all (rule_bodies (see.sheet x)) in
      let first : middle.each ≡ in_rules = q.eaches_past ∙ none_add in_rules in
      let all : next.each ≡ in_rules + eaches_of_all (bodies x.named.now) = r.eaches_past ∙ ap (λ z. z + eaches_of_all (bodies x.named.now)) first in
      let names : bodies named.now ≡ map (marked_body p) (bodies_from 1 (1 + branches_of_all (rule_bodies (see.sheet x))) in_rules (bodies x.named.now)) =
      r.means ∙ λ j. map (marked_body p) (bodies_from 1 (q.branches_past j) (first j) (bodies x.named.now)) in
      λ j. record { modes = x.modes; eaches = all j; rules = q.means j; named = names j }
    where
      none_add : (n : ℕ) → 0 + n ≡ n
      none_add n = omega arith
