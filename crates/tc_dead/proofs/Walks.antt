-- What a marked stylesheet puts out, and what it tells: by induction on what the stylesheet itself does.
use Rattle.std.proofs.Common.{◌≡◌, ◌⊎◌, inl, inr, ℕ, ◌+◌, List, [], ◌∷◌, refl, ap, ◌∙◌, sym, subst, Bool, true, false, cond, ◌&&◌, Option, Some, None, option_map, slice_get}
use Rattle.std.proofs.lemmas.Bool.{true≢false}
use Rattle.tc_model.specs.Names.{ExpandedName}
use Rattle.tc_model.specs.Trees.{Trees, none, text, element, beside, is_white_space_only, normal_form}
use Rattle.tc_model.specs.Chains.{an_element, a_text, Chain, Node, whole, one, top, node_of, string_value, first_node}
use Rattle.tc_model.specs.Sheets.{Path, Test, Body, no_instruction, put_text, put_element, copy, apply, call, for_each, value, value_of_self, choose, Branches, otherwise, branch, Rule, Sheet}
use Rattle.tc_model.specs.Outcomes.{Outcome, nothing, join, within, counted, put, put_around, copied}
use Rattle.tc_model.specs.Paths.{selected, holds}
use Rattle.tc_model.specs.Meaning.{Job, by_mode, by_body, value_of_first, built_in, body_or, rule_of, body_of, IsInner, Does, Takes, Each, does_no_instruction, does_text, does_element, does_copy, does_copy_text, does_apply, does_call, does_value, does_self, does_choose, does_for_each, takes_last, takes_this, takes_later, on_none, on_one}
use Rattle.tc_model.specs.Safety.{IsResultOf}
use Rattle.tc_model.specs.WellFormed.{IsSheet}
use Rattle.tc_model.proofs.TotalJoin.{beside_none, beside_assoc}
use Rattle.tc_model.proofs.TreesApart.{normal_twice}
use Rattle.tc_model.proofs.Total.{instantiates_total}
use Rattle.tc_model.proofs.Unique.{does_unique}
use Rattle.tc_dead.specs.Spots.{Spot, a_rule, a_named_body, a_branch, same_spot, is_nothing, branches_of, branches_in, eaches_of, eaches_in, NumberedRule, NumberedBody, branches_of_all, eaches_of_all, rule_bodies, numbered_rules, numbered_bodies, numbered_rule_of}
use Rattle.tc_dead.specs.Instantiated.{IsInstantiated, ByBody, ByBranches, ByMode, ByModes, ByBodies, by_apply, by_call, by_called, by_element, by_copy, by_for_each, by_choose, after_text, after_element, after_copy, after_apply, after_call, after_value, after_self, after_choose, after_for_each, is_this, by_this, by_later, is_last, by_last, is_rule, by_rule, by_built_in, at_this, at_later, on_this, on_later}
use Rattle.tc_dead.specs.Marked.{mark_name, wrapper_name, begun, marked_before, marked_branches, marked_rule, marked_at}
use Rattle.tc_dead.specs.Tells.{Tells}
use Rattle.tc_dead.proofs.PlainTrees.{is_plain, is_wrapped, is_clear, clear_text, clear_beside, and_both, IsShaped, shaped_beside, wrapped_clear, wrapped_element, plain_matches, matches_plain}
use Rattle.tc_dead.proofs.NumberedSpots.{spot_same, same_spots, marked_among, rule_of_node, named_at, marked_named_at}

-- trees are clear exactly where something doesn't hold
data Told (h : Trees) (R : Type 0) : Type 0 where
  told_not : is_clear h ≡ true → (R → ⊥) → Told h R
  told_so : is_clear h ≡ false → R → Told h R

told_same : {h : Trees} {A B : Type 0} → Told h A → (A → B) → (B → A) → Told h B
told_same (told_not e nay) f g = told_not e (λ b. nay (g b))
told_same (told_so e a) f g = told_so e (f a)

told_equal : {h k : Trees} {A : Type 0} → is_clear h ≡ is_clear k → Told k A → Told h A
told_equal e (told_not f nay) = told_not (e ∙ f) nay
told_equal e (told_so f a) = told_so (e ∙ f) a

false_first : (a b : Bool) → a ≡ false → (a && b) ≡ false
false_first true b e = absurd (true≢false e)
false_first false b e = refl

false_second : (a b : Bool) → b ≡ false → (a && b) ≡ false
false_second true b e = e
false_second false b e = refl

told_both : {h k : Trees} {A B R : Type 0} → Told h A → Told k B → (A → R) → (B → R) → (R → A ⊎ B) → Told (beside h k) R
told_both {h} {k} {A} {B} (told_not e nay) (told_not f nor) x y z = told_not (clear_beside h k ∙ and_both (is_clear h) (is_clear k) e f) (λ r. neither (z r))
  where
    neither : A ⊎ B → ⊥
    neither (inl a) = nay a
    neither (inr b) = nor b
told_both {h} {k} (told_so e a) other x y z = told_so (clear_beside h k ∙ false_first (is_clear h) (is_clear k) e) (x a)
told_both {h} {k} (told_not e nay) (told_so f b) x y z = told_so (clear_beside h k ∙ false_second (is_clear h) (is_clear k) f) (y b)

-- texts tell nothing
told_put : (x : List ℕ) → Told (put x).out ⊥
told_put [] = told_not refl (λ e. e)
told_put (b ∷ bs) = told_not (clear_text (b ∷ bs) none) (λ e. e)

shaped_put : (x : List ℕ) → IsShaped (put x).out
shaped_put [] = tt
shaped_put (b ∷ bs) = tt

wrapped_chosen : (b : Bool) (s : List ℕ) → is_wrapped (cond b none (text s none)) ≡ true
wrapped_chosen true s = refl
wrapped_chosen false s = refl

wrapped_put : (x : List ℕ) → is_wrapped (normal_form (put x).out) ≡ true
wrapped_put [] = refl
wrapped_put (b ∷ bs) = wrapped_chosen (is_white_space_only (b ∷ bs)) (b ∷ bs)

and_true : (b : Bool) → (b && true) ≡ b
and_true true = refl
and_true false = refl

-- a wrapper tells what it holds
told_wrapper : {A : Type 0} (k h : Trees) → is_wrapped (normal_form k) ≡ is_clear h → Told h A → Told (element wrapper_name k none) A
told_wrapper k h e t = told_equal (and_true (is_wrapped (normal_form k)) ∙ e) t

told_wrapped_text : (x : List ℕ) → Told (element wrapper_name (put x).out none) ⊥
told_wrapped_text x = told_not (and_true (is_wrapped (normal_form (put x).out)) ∙ wrapped_put x) (λ e. e)

-- what a copy puts out of what its body does
abbrev copied_out : Node → Trees → Trees
copied_out (whole doc) h = h
copied_out (one (an_element n kids)) h = element n h none
copied_out (one (a_text s)) h = (put s).out

copied_so : (n : Node) (o : Outcome) → (copied n o).out ≡ copied_out n o.out
copied_so (whole doc) o = refl
copied_so (one (an_element n kids)) o = refl
copied_so (one (a_text s)) o = refl

wrapped_copy : (n : Node) (h : Trees) → IsInner n → IsShaped h → is_wrapped (normal_form (copied_out n h)) ≡ is_clear h
wrapped_copy (whole doc) h i x = wrapped_clear h x
wrapped_copy (one (an_element n kids)) h i x = wrapped_element n h x
wrapped_copy (one (a_text s)) h i x = absurd i

not_inner : (c : Chain) (x : List ℕ) → node_of c ≡ one (a_text x) → IsInner (node_of c) → ⊥
not_inner c x e i = subst IsInner e i

true_or_false : (b : Bool) → (b ≡ true) ⊎ (b ≡ false)
true_or_false true = inl refl
true_or_false false = inr refl

module _ (s : Sheet) (p : Spot) where
  abbrev marked : Sheet
  marked = marked_at p s

  -- what the marked stylesheet puts out
  abbrev Ran : Body → Chain → Trees → Type 0
  Ran b c h = (o : Outcome) × Does marked.rules marked.named b c o × (o.out ≡ h)

  abbrev RanTakes : Branches → Chain → Trees → Type 0
  RanTakes x c h = (o : Outcome) × Takes marked.rules marked.named x c o × (o.out ≡ h)

  abbrev RanEach : Job → List Chain → Trees → Type 0
  RanEach j cs h = (o : Outcome) × Each marked.rules marked.named j cs o × (o.out ≡ h)

  -- what it puts out for a body, behind which others stand, and what this tells
  record Walk (n e : ℕ) (b : Body) (c : Chain) : Type 0 where
    out : Trees
    shaped : IsShaped out
    told : Told out (ByBody s p n b c)
    run : (rest : Body) (k : Trees) → Ran rest c k → Ran (marked_before p n e b rest) c (beside out k)

  -- for a body that begins with a mark or not
  record WalkBegun (is_it : Bool) (n e : ℕ) (b : Body) (c : Chain) : Type 0 where
    out : Trees
    shaped : IsShaped out
    told : Told out ((is_it ≡ true) ⊎ ByBody s p n b c)
    run : Ran (begun is_it (marked_before p n e b no_instruction)) c out

  record WalkTakes (n e : ℕ) (x : Branches) (c : Chain) : Type 0 where
    out : Trees
    shaped : IsShaped out
    told : Told out (ByBranches s p n x c)
    run : RanTakes (marked_branches p n e x) c out

  record WalkMode (m : ℕ) (c : Chain) : Type 0 where
    out : Trees
    shaped : IsShaped out
    told : Told out (ByMode s p m c)
    run : Ran (body_of marked.rules (by_mode m) c) c out

  record WalkModes (m : ℕ) (cs : List Chain) : Type 0 where
    out : Trees
    shaped : IsShaped out
    told : Told out (ByModes s p m cs)
    run : RanEach (by_mode m) cs out

  record WalkBodies (n e : ℕ) (b : Body) (cs : List Chain) : Type 0 where
    out : Trees
    shaped : IsShaped out
    told : Told out (ByBodies s p n b cs)
    run : RanEach (by_body (marked_before p n e b no_instruction)) cs out

  abbrev WalkEach : Job → List Chain → Type 0
  WalkEach (by_mode m) cs = WalkModes m cs
  WalkEach (by_body b) cs = (n e : ℕ) → WalkBodies n e b cs

  -- one instruction more

  ran_nothing : (c : Chain) → Ran no_instruction c none
  ran_nothing c = (nothing, does_no_instruction, refl)

  ran_text : {b : Body} {c : Chain} {k : Trees} (x : List ℕ) → Ran b c k → Ran (put_text x b) c (beside (put x).out k)
  ran_text x r = (join (within (put x)) r.0, does_text r.1, ap (beside (put x).out) r.2)

  ran_element : {i b : Body} {c : Chain} {h k : Trees} (a : ExpandedName) → Ran i c h → Ran b c k → Ran (put_element a i b) c (element a h k)
  ran_element a q r = (join (within (put_around a q.0)) r.0, does_element q.1 r.1, λ i. element a (q.2 i) (r.2 i))

  ran_copy : {i b : Body} {c : Chain} {h k : Trees} → IsInner (node_of c) → Ran i c h → Ran b c k → Ran (copy i b) c (beside (copied_out (node_of c) h) k)
  ran_copy {c} {h} is q r = (
    join (within (copied (node_of c) q.0)) r.0,
    does_copy is q.1 r.1,
    ap (λ z. beside z r.0.out) (copied_so (node_of c) q.0 ∙ ap (copied_out (node_of c)) q.2) ∙ ap (beside (copied_out (node_of c) h)) r.2,
  )

  ran_copy_text : {i b : Body} {c : Chain} {k : Trees} (x : List ℕ) → node_of c ≡ one (a_text x) → Ran b c k → Ran (copy i b) c (beside (put x).out k)
  ran_copy_text x t r = (join (within (put x)) r.0, does_copy_text t r.1, ap (beside (put x).out) r.2)

  ran_apply : {q : Path} {m : ℕ} {b : Body} {c : Chain} {h k : Trees} → RanEach (by_mode m) (selected q c) h → Ran b c k → Ran (apply q m b) c (beside h k)
  ran_apply q r = (join (within q.0) r.0, does_apply q.1 r.1, λ i. beside (q.2 i) (r.2 i))

  ran_call : {n : ℕ} {i b : Body} {c : Chain} {h k : Trees} → slice_get marked.named n ≡ Some i → Ran i c h → Ran b c k → Ran (call n b) c (beside h k)
  ran_call {i} at q r = (join (within (counted q.0)) r.0, does_call i at q.1 r.1, λ j. beside (q.2 j) (r.2 j))

  ran_value : {q : Path} {b : Body} {c : Chain} {k : Trees} → Ran b c k → Ran (value q b) c (beside (put (value_of_first (first_node (selected q c)))).out k)
  ran_value {q} {c} r = (join (within (put (value_of_first (first_node (selected q c))))) r.0, does_value r.1, ap (beside (put (value_of_first (first_node (selected q c)))).out) r.2)

  ran_self : {b : Body} {c : Chain} {k : Trees} → Ran b c k → Ran (value_of_self b) c (beside (put (string_value (node_of c))).out k)
  ran_self {c} r = (join (within (put (string_value (node_of c)))) r.0, does_self r.1, ap (beside (put (string_value (node_of c))).out) r.2)

  ran_for_each : {e : ℕ} {q : Path} {i b : Body} {c : Chain} {h k : Trees} → RanEach (by_body i) (selected q c) h → Ran b c k → Ran (for_each e q i b) c (beside h k)
  ran_for_each q r = (join (within q.0) r.0, does_for_each q.1 r.1, λ i. beside (q.2 i) (r.2 i))

  ran_choose : {x : Branches} {b : Body} {c : Chain} {h k : Trees} → RanTakes x c h → Ran b c k → Ran (choose x b) c (beside h k)
  ran_choose q r = (join (within q.0) r.0, does_choose q.1 r.1, λ i. beside (q.2 i) (r.2 i))

  -- an instruction before a body
  combine : {A : Type 0} {n n2 e e2 : ℕ} {b : Body} {c : Chain} (after : Body) (first : Trees) → IsShaped first → Told first A → Walk n2 e2 b c
      → (A → ByBody s p n after c) → (ByBody s p n2 b c → ByBody s p n after c) → (ByBody s p n after c → A ⊎ ByBody s p n2 b c)
      → ((rest : Body) (k : Trees) → Ran (marked_before p n2 e2 b rest) c k → Ran (marked_before p n e after rest) c (beside first k))
      → Walk n e after c
  combine {n} {e} {c} after first shaped told w x y z step = record {
    out = beside first w.out;
    shaped = shaped_beside first w.out shaped w.shaped;
    told = told_both told w.told x y z;
    run = λ rest k r. subst (λ t. Ran (marked_before p n e after rest) c t) (sym (beside_assoc first w.out k)) (step rest (beside w.out k) (w.run rest k r));
  }

  -- a body alone
  run_alone : {n e : ℕ} {b : Body} {c : Chain} (w : Walk n e b c) → Ran (marked_before p n e b no_instruction) c w.out
  run_alone {n} {e} {b} {c} w = subst (λ t. Ran (marked_before p n e b no_instruction) c t) (beside_none w.out) (w.run no_instruction none (ran_nothing c))

  walk_text : {n e : ℕ} {b : Body} {c : Chain} (x : List ℕ) → Walk n e b c → Walk n e (put_text x b) c
  walk_text {n} {b} {c} x w = combine (put_text x b) (put x).out (shaped_put x) (told_put x) w (λ f. absurd f) (λ h. after_text h) split (λ rest k r. ran_text x r)
    where
      split : ByBody s p n (put_text x b) c → ⊥ ⊎ ByBody s p n b c
      split (after_text h) = inr h

  walk_value : {n e : ℕ} {b : Body} {c : Chain} (q : Path) → Walk n e b c → Walk n e (value q b) c
  walk_value {n} {b} {c} q w = let x : List ℕ = value_of_first (first_node (selected q c)) in
      combine (value q b) (put x).out (shaped_put x) (told_put x) w (λ f. absurd f) (λ h. after_value h) split (λ rest k r. ran_value r)
    where
      split : ByBody s p n (value q b) c → ⊥ ⊎ ByBody s p n b c
      split (after_value h) = inr h

  walk_self : {n e : ℕ} {b : Body} {c : Chain} → Walk n e b c → Walk n e (value_of_self b) c
  walk_self {n} {b} {c} w = let x : List ℕ = string_value (node_of c) in
      combine (value_of_self b) (put x).out (shaped_put x) (told_put x) w (λ f. absurd f) (λ h. after_self h) split (λ rest k r. ran_self r)
    where
      split : ByBody s p n (value_of_self b) c → ⊥ ⊎ ByBody s p n b c
      split (after_self h) = inr h

  walk_element : {n e : ℕ} {i b : Body} {c : Chain} (a : ExpandedName) → Walk n e i c → Walk (n + branches_of i) (e + eaches_of i) b c → Walk n e (put_element a i b) c
  walk_element {n} {e} {i} {b} {c} a v w =
      combine (put_element a i b) v.out v.shaped v.told w (λ h. by_element h) (λ h. after_element h) split (λ rest k r. v.run (marked_before p (n + branches_of i) (e + eaches_of i) b rest) k r)
    where
      split : ByBody s p n (put_element a i b) c → ByBody s p n i c ⊎ ByBody s p (n + branches_of i) b c
      split (by_element h) = inl h
      split (after_element h) = inr h

  walk_copy : {n e : ℕ} {i b : Body} {c : Chain} → IsInner (node_of c) → Walk n e i c → Walk (n + branches_of i) (e + eaches_of i) b c → Walk n e (copy i b) c
  walk_copy {n} {e} {i} {b} {c} is v w = let k : Trees = copied_out (node_of c) v.out in
      combine (copy i b) (element wrapper_name k none) (inl refl, tt) (told_wrapper k v.out (wrapped_copy (node_of c) v.out is v.shaped) v.told) w (λ h. by_copy is h) (λ h. after_copy h) split
      (λ rest l r. ran_element wrapper_name (subst (λ t. Ran (copy (marked_before p n e i no_instruction) no_instruction) c t) (beside_none k) (ran_copy is (run_alone v) (ran_nothing c))) r)
    where
      split : ByBody s p n (copy i b) c → ByBody s p n i c ⊎ ByBody s p (n + branches_of i) b c
      split (by_copy o h) = inl h
      split (after_copy h) = inr h

  walk_copy_text : {n e : ℕ} {i b : Body} {c : Chain} (x : List ℕ) → node_of c ≡ one (a_text x) → Walk (n + branches_of i) (e + eaches_of i) b c → Walk n e (copy i b) c
  walk_copy_text {n} {e} {i} {b} {c} x t w =
      combine (copy i b) (element wrapper_name (put x).out none) (inl refl, tt) (told_wrapped_text x) w (λ f. absurd f) (λ h. after_copy h) split
      (λ rest l r. ran_element wrapper_name (subst (λ z. Ran (copy (marked_before p n e i no_instruction) no_instruction) c z) (beside_none (put x).out) (ran_copy_text x t (ran_nothing c))) r)
    where
      split : ByBody s p n (copy i b) c → ⊥ ⊎ ByBody s p (n + branches_of i) b c
      split (by_copy o h) = inl (not_inner c x t o)
      split (after_copy h) = inr h

  walk_apply : {n e m : ℕ} {q : Path} {b : Body} {c : Chain} → WalkModes m (selected q c) → Walk n e b c → Walk n e (apply q m b) c
  walk_apply {n} {m} {q} {b} {c} v w =
      combine (apply q m b) v.out v.shaped v.told w (λ h. by_apply h) (λ h. after_apply h) split (λ rest k r. ran_apply v.run r)
    where
      split : ByBody s p n (apply q m b) c → ByModes s p m (selected q c) ⊎ ByBody s p n b c
      split (by_apply h) = inl h
      split (after_apply h) = inr h

  walk_for_each : {n e i : ℕ} {q : Path} {inner b : Body} {c : Chain} → WalkBodies n (e + 1) inner (selected q c) → Walk (n + branches_of inner) (e + 1 + eaches_of inner) b c → Walk n e (for_each i q inner b) c
  walk_for_each {n} {i} {q} {inner} {b} {c} v w =
      combine (for_each i q inner b) v.out v.shaped v.told w (λ h. by_for_each h) (λ h. after_for_each h) split (λ rest k r. ran_for_each v.run r)
    where
      split : ByBody s p n (for_each i q inner b) c → ByBodies s p n inner (selected q c) ⊎ ByBody s p (n + branches_of inner) b c
      split (by_for_each h) = inl h
      split (after_for_each h) = inr h

  walk_choose : {n e : ℕ} {x : Branches} {b : Body} {c : Chain} → WalkTakes n e x c → Walk (n + branches_in x) (e + eaches_in x) b c → Walk n e (choose x b) c
  walk_choose {n} {x} {b} {c} v w =
      combine (choose x b) v.out v.shaped v.told w (λ h. by_choose h) (λ h. after_choose h) split (λ rest k r. ran_choose v.run r)
    where
      split : ByBody s p n (choose x b) c → ByBranches s p n x c ⊎ ByBody s p (n + branches_in x) b c
      split (by_choose h) = inl h
      split (after_choose h) = inr h

  -- a body that begins with a mark
  walk_begun : (is_it : Bool) {n e : ℕ} {b : Body} {c : Chain} → Walk n e b c → WalkBegun is_it n e b c
  walk_begun true {c} w = record {
    out = element mark_name (element mark_name none none) w.out;
    shaped = (inr refl, w.shaped);
    told = told_so refl (inl refl);
    run = ran_element mark_name (ran_element mark_name (ran_nothing c) (ran_nothing c)) (run_alone w);
  }
  walk_begun false {n} {b} {c} w = record { out = w.out; shaped = w.shaped; told = told_same w.told (λ h. inr h) only; run = run_alone w }
    where
      only : (false ≡ true) ⊎ ByBody s p n b c → ByBody s p n b c
      only (inl e) = absurd (true≢false (sym e))
      only (inr h) = h

  abbrev ByCall : ℕ → Chain → Type 0
  ByCall k c = (x : NumberedBody) × (slice_get (numbered_bodies s) k ≡ Some x) × ((p ≡ a_named_body x.number) ⊎ ByBody s p x.branches x.body c)

  same_body : (k : ℕ) (x y : NumberedBody) → slice_get (numbered_bodies s) k ≡ Some x → slice_get (numbered_bodies s) k ≡ Some y → y ≡ x
  same_body k x y e f = cc

  walk_call : {n e k : ℕ} {b : Body} {c : Chain} (x : NumberedBody) → slice_get (numbered_bodies s) k ≡ Some x → WalkBegun (same_spot p (a_named_body x.number)) x.branches x.eaches x.body c → Walk n e b c → Walk n e (call k b) c
  walk_call {n} {k} {b} {c} x at v w =
      combine (call k b) v.out v.shaped v.told w into (λ h. after_call h) split (λ rest l r. ran_call (marked_named_at p (numbered_bodies s) k x at) v.run r)
    where
      into : ((same_spot p (a_named_body x.number) ≡ true) ⊎ ByBody s p x.branches x.body c) → ByBody s p n (call k b) c
      into (inl e) = by_call x at (spot_same p (a_named_body x.number) e)
      into (inr h) = by_called x at h

      split : ByBody s p n (call k b) c → ((same_spot p (a_named_body x.number) ≡ true) ⊎ ByBody s p x.branches x.body c) ⊎ ByBody s p n b c
      split (by_call y f e) = inl (inl (same_spots p (a_named_body x.number) (e ∙ ap (λ z. a_named_body z.number) (same_body k x y at f))))
      split (by_called y f h) = inl (inr (subst (λ z. ByBody s p z.branches z.body c) (same_body k x y at f) h))
      split (after_call h) = inr h

  -- branches

  walk_this : {n e : ℕ} {t : Test} {b : Body} {x : Branches} {c : Chain} → holds t c ≡ true → WalkBegun (same_spot p (a_branch n)) (n + 1) e b c → WalkTakes n e (branch t b x) c
  walk_this {n} {t} {b} {x} {c} so v = record {
    out = v.out;
    shaped = v.shaped;
    told = told_same v.told into split;
    run = (v.run.0, takes_this so v.run.1, v.run.2);
  }
    where
      into : ((same_spot p (a_branch n) ≡ true) ⊎ ByBody s p (n + 1) b c) → ByBranches s p n (branch t b x) c
      into (inl e) = is_this so (spot_same p (a_branch n) e)
      into (inr h) = by_this so h

      split : ByBranches s p n (branch t b x) c → ((same_spot p (a_branch n) ≡ true) ⊎ ByBody s p (n + 1) b c)
      split (is_this f e) = inl (same_spots p (a_branch n) e)
      split (by_this f h) = inr h
      split (by_later f h) = absurd (true≢false (sym so ∙ f))

  walk_later : {n e : ℕ} {t : Test} {b : Body} {x : Branches} {c : Chain} → holds t c ≡ false → WalkTakes (n + 1 + branches_of b) (e + eaches_of b) x c → WalkTakes n e (branch t b x) c
  walk_later {n} {t} {b} {x} {c} so v = record {
    out = v.out;
    shaped = v.shaped;
    told = told_same v.told (λ h. by_later so h) split;
    run = (v.run.0, takes_later so v.run.1, v.run.2);
  }
    where
      split : ByBranches s p n (branch t b x) c → ByBranches s p (n + 1 + branches_of b) x c
      split (is_this f e) = absurd (true≢false (sym f ∙ so))
      split (by_this f h) = absurd (true≢false (sym f ∙ so))
      split (by_later f h) = h

  abbrev last_body : ℕ → ℕ → Body → Body
  last_body n e b = begun (same_spot p (a_branch n)) (marked_before p (n + 1) e b no_instruction)

  walk_last_by : {n e : ℕ} {b : Body} {c : Chain} → (is_nothing b ≡ true) ⊎ (is_nothing b ≡ false) → WalkBegun (same_spot p (a_branch n)) (n + 1) e b c → WalkTakes n e (otherwise b) c
  walk_last_by {n} {e} {b} {c} (inl so) v = record {
    out = none;
    shaped = tt;
    told = told_not refl no;
    run = subst (λ z. RanTakes (otherwise (cond z no_instruction (last_body n e b))) c none) (sym so) (nothing, takes_last does_no_instruction, refl);
  }
    where
      no : ByBranches s p n (otherwise b) c → ⊥
      no (is_last f e) = true≢false (sym so ∙ f)
      no (by_last f h) = true≢false (sym so ∙ f)
  walk_last_by {n} {e} {b} {c} (inr so) v = record {
    out = v.out;
    shaped = v.shaped;
    told = told_same v.told into split;
    run = subst (λ z. RanTakes (otherwise (cond z no_instruction (last_body n e b))) c v.out) (sym so) (v.run.0, takes_last v.run.1, v.run.2);
  }
    where
      into : ((same_spot p (a_branch n) ≡ true) ⊎ ByBody s p (n + 1) b c) → ByBranches s p n (otherwise b) c
      into (inl e) = is_last so (spot_same p (a_branch n) e)
      into (inr h) = by_last so h

      split : ByBranches s p n (otherwise b) c → ((same_spot p (a_branch n) ≡ true) ⊎ ByBody s p (n + 1) b c)
      split (is_last f e) = inl (same_spots p (a_branch n) e)
      split (by_last f h) = inr h

  -- the rule of a node

  some_rule : (x y : NumberedRule) (o : Option NumberedRule) → o ≡ Some x → o ≡ Some y → y ≡ x
  some_rule x y o e f = cc

  none_some : (x : NumberedRule) (o : Option NumberedRule) → o ≡ None → o ≡ Some x → ⊥
  none_some x o e f = cc

  built_in_stays : (m : ℕ) (n : Node) → marked_before p 0 0 (built_in m n) no_instruction ≡ built_in m n
  built_in_stays m (whole doc) = refl
  built_in_stays m (one (an_element n kids)) = refl
  built_in_stays m (one (a_text x)) = refl

  abbrev AllWalks : Body → Chain → Type 0
  AllWalks b c = (n e : ℕ) → Walk n e b c

  walk_rule : (m : ℕ) (c : Chain) (o : Option NumberedRule) → numbered_rule_of (numbered_rules s) m c ≡ o
      → rule_of marked.rules m c ≡ option_map (marked_rule p) o
      → AllWalks (body_or (built_in m (node_of c)) (option_map (λ r. r.rule) o)) c → WalkMode m c
  walk_rule m c None is mine w = let v : Walk 0 0 (built_in m (node_of c)) c = w 0 0 in record {
    out = v.out;
    shaped = v.shaped;
    told = told_same v.told (λ h. by_built_in is h) split;
    run = subst (λ (z : Option Rule). Ran (body_or (built_in m (node_of c)) z) c v.out) (sym mine) (subst (λ z. Ran z c v.out) (built_in_stays m (node_of c)) (run_alone v));
  }
    where
      split : ByMode s p m c → ByBody s p 0 (built_in m (node_of c)) c
      split (is_rule r f e) = absurd (none_some r (numbered_rule_of (numbered_rules s) m c) is f)
      split (by_rule r f h) = absurd (none_some r (numbered_rule_of (numbered_rules s) m c) is f)
      split (by_built_in f h) = h
  walk_rule m c (Some x) is mine w = let v : WalkBegun (same_spot p (a_rule x.number)) x.branches x.eaches x.rule.body c = walk_begun (same_spot p (a_rule x.number)) (w x.branches x.eaches) in record {
    out = v.out;
    shaped = v.shaped;
    told = told_same v.told into split;
    run = subst (λ (z : Option Rule). Ran (body_or (built_in m (node_of c)) z) c v.out) (sym mine) v.run;
  }
    where
      into : ((same_spot p (a_rule x.number) ≡ true) ⊎ ByBody s p x.branches x.rule.body c) → ByMode s p m c
      into (inl e) = is_rule x is (spot_same p (a_rule x.number) e)
      into (inr h) = by_rule x is h

      split : ByMode s p m c → ((same_spot p (a_rule x.number) ≡ true) ⊎ ByBody s p x.branches x.rule.body c)
      split (is_rule y f e) = inl (same_spots p (a_rule x.number) (e ∙ ap (λ z. a_rule z.number) (some_rule x y (numbered_rule_of (numbered_rules s) m c) is f)))
      split (by_rule y f h) = inr (subst (λ z. ByBody s p z.branches z.rule.body c) (some_rule x y (numbered_rule_of (numbered_rules s) m c) is f) h)
      split (by_built_in f h) = absurd (none_some x (numbered_rule_of (numbered_rules s) m c) f is)

  walk_mode : (m : ℕ) (c : Chain) → AllWalks (body_of s.rules (by_mode m) c) c → WalkMode m c
  walk_mode m c w =
      walk_rule m c (numbered_rule_of (numbered_rules s) m c) refl (marked_among m c p (numbered_rules s))
      (subst (λ (z : Option Rule). AllWalks (body_or (built_in m (node_of c)) z) c) (rule_of_node s m c) w)

  -- several nodes

  none_of_modes : (m : ℕ) → ByModes s p m [] → ⊥
  none_of_modes m h = elim h [ ]

  none_of_bodies : (n : ℕ) (b : Body) → ByBodies s p n b [] → ⊥
  none_of_bodies n b h = elim h [ ]

  each_none : (j : Job) → WalkEach j []
  each_none (by_mode m) = record { out = none; shaped = tt; told = told_not refl (none_of_modes m); run = (nothing, on_none, refl) }
  each_none (by_body b) = λ n e. record { out = none; shaped = tt; told = told_not refl (none_of_bodies n b); run = (nothing, on_none, refl) }

  modes_more : (m : ℕ) (c : Chain) (cs : List Chain) → WalkMode m c → WalkModes m cs → WalkModes m (c ∷ cs)
  modes_more m c cs v w = record {
    out = beside v.out w.out;
    shaped = shaped_beside v.out w.out v.shaped w.shaped;
    told = told_both v.told w.told (λ h. at_this h) (λ h. at_later h) split;
    run = (join (counted v.run.0) w.run.0, on_one v.run.1 w.run.1, λ i. beside (v.run.2 i) (w.run.2 i));
  }
    where
      split : ByModes s p m (c ∷ cs) → ByMode s p m c ⊎ ByModes s p m cs
      split (at_this h) = inl h
      split (at_later h) = inr h

  bodies_more : (n e : ℕ) (b : Body) (c : Chain) (cs : List Chain) → Walk n e b c → WalkBodies n e b cs → WalkBodies n e b (c ∷ cs)
  bodies_more n e b c cs v w = let r = run_alone v in record {
    out = beside v.out w.out;
    shaped = shaped_beside v.out w.out v.shaped w.shaped;
    told = told_both v.told w.told (λ h. on_this h) (λ h. on_later h) split;
    run = (join (counted r.0) w.run.0, on_one r.1 w.run.1, λ i. beside (r.2 i) (w.run.2 i));
  }
    where
      split : ByBodies s p n b (c ∷ cs) → ByBody s p n b c ⊎ ByBodies s p n b cs
      split (on_this h) = inl h
      split (on_later h) = inr h

  each_more : (j : Job) (c : Chain) (cs : List Chain) → AllWalks (body_of s.rules j c) c → WalkEach j cs → WalkEach j (c ∷ cs)
  each_more (by_mode m) c cs v w = modes_more m c cs (walk_mode m c v) w
  each_more (by_body b) c cs v w = λ n e. bodies_more n e b c cs (v n e) (w n e)

  nothing_told : (n : ℕ) (c : Chain) → ByBody s p n no_instruction c → ⊥
  nothing_told n c h = elim h [ ]

  walk_nothing : (n e : ℕ) (c : Chain) → Walk n e no_instruction c
  walk_nothing n e c = record { out = none; shaped = tt; told = told_not refl (nothing_told n c); run = λ rest k r. r }

  walk_called : {n e k : ℕ} {b : Body} {c : Chain} (i : Body) → slice_get s.named k ≡ Some i → AllWalks i c → Walk n e b c → Walk n e (call k b) c
  walk_called {k} {c} i at v w =
      let x = named_at 1 (1 + branches_of_all (rule_bodies s)) (eaches_of_all (rule_bodies s)) s.named k i at in
      walk_call x.it x.at (walk_begun (same_spot p (a_named_body x.it.number)) (subst (λ z. Walk x.it.branches x.it.eaches z c) (sym x.is) (v x.it.branches x.it.eaches))) w

  mutual
    walk : {b : Body} {c : Chain} {o : Outcome} → Does s.rules s.named b c o → AllWalks b c
    walk {c} does_no_instruction = λ n e. walk_nothing n e c
    walk (does_text {x} d) = let w = walk d in λ n e. walk_text x (w n e)
    walk (does_element {n = a} {inner} i d) = let v = walk i in let w = walk d in λ n e. walk_element a (v n e) (w (n + branches_of inner) (e + eaches_of inner))
    walk (does_copy {inner} is i d) = let v = walk i in let w = walk d in λ n e. walk_copy is (v n e) (w (n + branches_of inner) (e + eaches_of inner))
    walk (does_copy_text {inner} {x} t d) = let w = walk d in λ n e. walk_copy_text x t (w (n + branches_of inner) (e + eaches_of inner))
    walk (does_apply i d) = let v = walk_each i in let w = walk d in λ n e. walk_apply v (w n e)
    walk (does_call i at d f) = let v = walk d in let w = walk f in λ n e. walk_called i at v (w n e)
    walk (does_value {p = q} d) = let w = walk d in λ n e. walk_value q (w n e)
    walk (does_self d) = let w = walk d in λ n e. walk_self (w n e)
    walk (does_choose {x} i d) = let v = walk_takes i in let w = walk d in λ n e. walk_choose (v n e) (w (n + branches_in x) (e + eaches_in x))
    walk (does_for_each {inner} i d) = let v = walk_each i in let w = walk d in λ n e. walk_for_each (v n (e + 1)) (w (n + branches_of inner) (e + 1 + eaches_of inner))

    walk_takes : {x : Branches} {c : Chain} {o : Outcome} → Takes s.rules s.named x c o → (n e : ℕ) → WalkTakes n e x c
    walk_takes (takes_last {b} d) = let w = walk d in λ n e. walk_last_by (true_or_false (is_nothing b)) (walk_begun (same_spot p (a_branch n)) (w (n + 1) e))
    walk_takes (takes_this so d) = let w = walk d in λ n e. walk_this so (walk_begun (same_spot p (a_branch n)) (w (n + 1) e))
    walk_takes (takes_later {b} so d) = let w = walk_takes d in λ n e. walk_later so (w (n + 1 + branches_of b) (e + eaches_of b))

    walk_each : {j : Job} {cs : List Chain} {o : Outcome} → Each s.rules s.named j cs o → WalkEach j cs
    walk_each (on_none {j}) = each_none j
    walk_each (on_one {j} {c} {cs} d ds) = let v = walk d in let w = walk_each ds in each_more j c cs v w

  -- the result of a document tells whether it instantiates the spot
  told_so_far : (d out : Trees) (h : Trees) → out ≡ normal_form h → Told h (IsInstantiated s d p) → Tells p s d out
  told_so_far d out h e (told_not f nay) = inl (plain_matches (normal_form out) (ap (λ z. is_plain (normal_form z)) e ∙ (ap is_plain (normal_twice h) ∙ f)), nay)
  told_so_far d out h e (told_so f so) = inr (so, λ m. true≢false (sym (matches_plain (normal_form out) m) ∙ (ap (λ z. is_plain (normal_form z)) e ∙ (ap is_plain (normal_twice h) ∙ f))))

  pub tells : IsSheet s → (d out : Trees) → IsResultOf marked d out → Tells p s d out
  tells is d out r =
      let does = instantiates_total s is (by_mode 0) tt (top d) in
      let w = walk_mode 0 (top d) (walk does.1.1) in
      let same : r.1.0 ≡ w.run.0 = does_unique r.1.1 w.run.1 in
      told_so_far d out w.out (r.2 ∙ (ap (λ (o : Outcome). normal_form o.out) r.1.2 ∙ (ap (λ (o : Outcome). normal_form o.out) same ∙ ap normal_form w.run.2))) w.told
