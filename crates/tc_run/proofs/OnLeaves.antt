-- Bodies for nodes without children: what does nothing there may be left out of a body that isn't empty.
use Rattle.std.proofs.Common.{◌≡◌, ◌⊎◌, inl, inr, ⊎_elim, ℕ, zero, suc, ◌+◌, ◌<◌, ◌≤◌, max, List, [], ◌∷◌, ◌++◌, refl, ap, ◌∙◌, sym, subst, length, get_or, drop, Some, slice_get, Bor, arith}
use Rattle.std.proofs.lemmas.List.{drop_all, length_push, length-map}
use Rattle.std.proofs.lemmas.Option.{same_Some}
use Rattle.tc_model.specs.Chains.{Node, children}
use Rattle.tc_model.specs.Machine.{CallFreeJob, in_mode, in_body, first_hit, does_in, outputs}
use Rattle.tc_model.specs.Meaning.{value_of_first}
use Rattle.tc_model.specs.Outcomes.{Outcome, nothing, join, within, put, put_around, copied}
use Rattle.tc_model.specs.Sheets.{Sheet, Rule, Body, no_instruction, put_text, put_element, copy, apply, call, for_each, value, value_of_self, choose, CallFreeBody, p_done, p_element, p_copy, Inlines, u_done, u_text, u_element, u_copy, u_apply, u_call, u_value, u_self, u_choose, u_each}
use Rattle.tc_model.specs.Trees.{Trees, none, beside}
use Rattle.tc_model.specs.Views as see
use Rattle.tc_model.specs.declared.tree.Name.{Name}
use Rattle.tc_model.specs.declared.sheet.Instr.{Instr}
use Rattle.tc_model.specs.declared.sheet.Instr.TheVariants as v
use Rattle.tc_model.specs.declared.sheet.Path.{Path}
use Rattle.tc_model.specs.declared.sheet.Rule.{Rule as RuleOf}
use Rattle.tc_model.specs.declared.sheet.Sheet.{Sheet as SheetOf}
use Rattle.tc_model.proofs.BodiesInTurn.{Halves, halves, plain_then, does_then}
use Rattle.tc_model.proofs.TotalJoin.{join_none}
use Rattle.tc_model.proofs.ViewsBody.{body_then, instruction_then, body_then_done, body_then_assoc, pushed_instruction, left_instruction}
use Rattle.tc_rules.specs.Parts.{IsPart}
use Rattle.tc_rules.specs.RulesView.{ancestor}
use Rattle.tc_rules.specs.States.{Going}
use Rattle.tc_rules.specs.Tasks.{going_from, looking_from}
use Rattle.tc_rules.proofs.PartsOf.{part_then}
use Rattle.tc_run.specs.Leaves.{on_leaf, IsAlso, AreAlike, IsIdleOnLeaves}
use Rattle.tc_run.specs.Idle.{IsBodyOn}
use Rattle.tc_run.specs.Lettered.{bare}
use Rattle.tc_run.specs.Running.{machine, sheet_by, told_by}
use Rattle.tc_run.specs.Tasks.{does, IsMeantBy, IsPartTemplate}
use Rattle.tc_run.specs.Views.{trees, node}
use Rattle.tc_run.specs.declared.bodies.Context.{Context}
use Rattle.tc_run.specs.declared.leaves.Bodies.{Bodies}
use Rattle.tc_run.specs.declared.letters.Lettered.{Lettered}
use Rattle.tc_run.specs.declared.runner.Runner.{Runner}
use Rattle.tc_run.specs.declared.visits.Template.TheVariants as m
use Rattle.tc_run.proofs.BuiltIn.{HasOne, deep_in, is_seen}
use Rattle.tc_run.proofs.Instructions.{apply_seen, for_each_seen, value_of_seen, elem_seen, copy_seen}
use Rattle.tc_run.proofs.Templates.{no_rule, rule_got}

-- parts beside one another
both_parts : (x : Sheet) (a b : Body) → IsPart x a → IsPart x b → IsPart x (body_then a b)
both_parts x no_instruction b h k = k
both_parts x (put_text t a) b h k = both_parts x a b h k
both_parts x (put_element n i a) b h k = (h.0, both_parts x a b h.1 k)
both_parts x (copy i a) b h k = (h.0, both_parts x a b h.1 k)
both_parts x (apply w m a) b h k = (h.0, h.1, both_parts x a b h.2 k)
both_parts x (call n a) b h k = (h.0, both_parts x a b h.1 k)
both_parts x (value w a) b h k = (h.0, both_parts x a b h.1 k)
both_parts x (value_of_self a) b h k = both_parts x a b h k
both_parts x (choose y a) b h k = (h.0, both_parts x a b h.1 k)
both_parts x (for_each e w i a) b h k = (h.0, h.1, h.2, both_parts x a b h.3 k)

both_inline : (named : List Body) (a b : Body) {p q : CallFreeBody} → Inlines named a p → Inlines named b q → Inlines named (body_then a b) (plain_then p q)
both_inline named no_instruction b u_done w = w
both_inline named (put_text t a) b (u_text u) w = u_text (both_inline named a b u w)
both_inline named (put_element n i a) b (u_element z u) w = u_element z (both_inline named a b u w)
both_inline named (copy i a) b (u_copy z u) w = u_copy z (both_inline named a b u w)
both_inline named (apply p m a) b (u_apply u) w = u_apply (both_inline named a b u w)
both_inline named (call n a) b (u_call e z u) w = u_call e z (both_inline named a b u w)
both_inline named (value p a) b (u_value u) w = u_value (both_inline named a b u w)
both_inline named (value_of_self a) b (u_self u) w = u_self (both_inline named a b u w)
both_inline named (choose y a) b (u_choose z u) w = u_choose z (both_inline named a b u w)
both_inline named (for_each e p i a) b (u_each z u) w = u_each z (both_inline named a b u w)

-- what two bodies put out on a node without children
both_do : (r : Runner) (bodies : List CallFreeBody) (n : Node) (p q : CallFreeBody) → on_leaf r bodies (plain_then p q) n ≡ join (on_leaf r bodies p n) (on_leaf r bodies q n)
both_do r bodies n p q = does_then (machine r bodies) n (λ i u. nothing) p q

pub alike_self : (a : Body) → AreAlike a a
alike_self a = record { part = λ s h. h; also = λ named p u. record { plain = p; unfolds = u; same = λ r bodies n e. refl } }

pub alike_then : {a b c : Body} → AreAlike a b → AreAlike b c → AreAlike a c
alike_then f g = record {
  part = λ s h. g.part s (f.part s h);
  also = λ named p u.
      let x = f.also named p u in
      let y = g.also named x.plain x.unfolds in
      record { plain = y.plain; unfolds = y.unfolds; same = λ r bodies n e. x.same r bodies n e ∙ y.same r bodies n e };
}

pub alike_both : (a b c d : Body) → AreAlike a b → AreAlike c d → AreAlike (body_then a c) (body_then b d)
alike_both a b c d f g = record {
  part = λ s h. let k = part_then s a c h in both_parts s b d (f.part s k.0) (g.part s k.1);
  also = λ named p u.
      let k = halves named a c u in
      let x = f.also named k.first k.of_first in
      let y = g.also named k.second k.of_second in
      record {
        plain = plain_then x.plain y.plain;
        unfolds = both_inline named b d x.unfolds y.unfolds;
        same = λ r bodies n e.
            ap (λ w. on_leaf r bodies w n) k.whole
            ∙ (both_do r bodies n k.first k.second
            ∙ (ap (λ o. join o (on_leaf r bodies k.second n)) (x.same r bodies n e)
            ∙ (ap (join (on_leaf r bodies x.plain n)) (y.same r bodies n e) ∙ sym (both_do r bodies n x.plain y.plain))));
      };
}

-- an instruction that does nothing, after another one
no_more : (a b : Outcome) → 1 ≤ a.nesting → join a (join (within nothing) b) ≡ join a b
no_more a b h =
    let nests : max a.nesting (max 1 b.nesting) ≡ max a.nesting b.nesting = grind (arith, h) in
    let work : a.work + (0 + b.work) ≡ a.work + b.work = omega arith in
    λ i. record { out = beside a.out b.out; work = work i; nesting = nests i }

-- it may be left out
pub left_out : (a b c : Body) → HasOne a → IsIdleOnLeaves b → AreAlike (body_then a (body_then b c)) (body_then a c)
left_out a b c one idle = record {
  part = λ s h. let k = part_then s a (body_then b c) h in both_parts s a c k.0 (part_then s b c k.1).1;
  also = λ named p u.
      let k = halves named a (body_then b c) u in
      let j = halves named b c k.of_second in
      record {
        plain = plain_then k.first j.second;
        unfolds = both_inline named a c k.of_first j.of_second;
        same = λ r bodies n e.
            let before = on_leaf r bodies k.first n in
            let after = on_leaf r bodies j.second n in
            ap (λ w. on_leaf r bodies w n) k.whole
            ∙ (both_do r bodies n k.first k.second
            ∙ (ap (join before) (ap (λ w. on_leaf r bodies w n) j.whole ∙ (both_do r bodies n j.first j.second ∙ ap (λ o. join o after) (idle named j.first j.of_first r bodies n e)))
            ∙ (no_more before after (deep_in (machine r bodies) n (λ i x. nothing) named a k.first one k.of_first) ∙ sym (both_do r bodies n k.first j.second))));
      };
}

pub alike_element : (n : Name) (i j : Bor (List Instr)) (x : Instr) → x ≡ v.Elem n i → AreAlike (see.body i.now) (see.body j.now) → AreAlike (see.instruction x no_instruction) (see.instruction (v.Elem n j) no_instruction)
alike_element n i j x is f =
    subst (λ b. AreAlike b (see.instruction (v.Elem n j) no_instruction)) (sym (elem_seen x n i is))
    (subst (AreAlike (put_element (see.name n) (see.body i.now) no_instruction)) (sym (elem_seen (v.Elem n j) n j refl)) by)
  where
    inside : (named : List Body) (p : CallFreeBody) → Inlines named (put_element (see.name n) (see.body i.now) no_instruction) p → IsAlso named (put_element (see.name n) (see.body j.now) no_instruction) p
    inside named p (u_element {o} w u_done) =
        let k = f.also named o w in
        record {
          plain = p_element (see.name n) k.plain p_done;
          unfolds = u_element k.unfolds u_done;
          same = λ r bodies m e. ap (λ y. join (within (put_around (see.name n) y)) nothing) (k.same r bodies m e);
        }

    by : AreAlike (put_element (see.name n) (see.body i.now) no_instruction) (put_element (see.name n) (see.body j.now) no_instruction)
    by = record { part = λ s h. (f.part s h.0, h.1); also = inside }

pub alike_copy : (i j : Bor (List Instr)) (x : Instr) → x ≡ v.Copy i → AreAlike (see.body i.now) (see.body j.now) → AreAlike (see.instruction x no_instruction) (see.instruction (v.Copy j) no_instruction)
alike_copy i j x is f =
    subst (λ b. AreAlike b (see.instruction (v.Copy j) no_instruction)) (sym (copy_seen x i is))
    (subst (AreAlike (copy (see.body i.now) no_instruction)) (sym (copy_seen (v.Copy j) j refl)) by)
  where
    inside : (named : List Body) (p : CallFreeBody) → Inlines named (copy (see.body i.now) no_instruction) p → IsAlso named (copy (see.body j.now) no_instruction) p
    inside named p (u_copy {o} w u_done) =
        let k = f.also named o w in
        record { plain = p_copy k.plain p_done; unfolds = u_copy k.unfolds u_done; same = λ r bodies m e. ap (λ y. join (within (copied m y)) nothing) (k.same r bodies m e) }

    by : AreAlike (copy (see.body i.now) no_instruction) (copy (see.body j.now) no_instruction)
    by = record { part = λ s h. (f.part s h.0, h.1); also = inside }

-- those that only select
pub apply_on_leaf : (i : Instr) (w : Path) (mode : ℕ) → i ≡ v.Apply w mode → IsIdleOnLeaves (see.instruction i no_instruction)
apply_on_leaf i w mode is = subst IsIdleOnLeaves (sym (apply_seen i w mode is)) by
  where
    by : IsIdleOnLeaves (apply (see.path w) mode no_instruction)
    by named p (u_apply u_done) r bodies n e = join_none (within nothing)

pub each_on_leaf : (i : Instr) (k : ℕ) (w : Path) (b : Bor (List Instr)) → i ≡ v.ForEach k w b → IsIdleOnLeaves (see.instruction i no_instruction)
each_on_leaf i k w b is = subst IsIdleOnLeaves (sym (for_each_seen i k w b is)) by
  where
    by : IsIdleOnLeaves (for_each k (see.path w) (see.body b.now) no_instruction)
    by named p (u_each z u_done) r bodies n e = join_none (within nothing)

pub value_on_leaf : (i : Instr) (w : Path) → i ≡ v.ValueOf w → IsIdleOnLeaves (see.instruction i no_instruction)
value_on_leaf i w is = subst IsIdleOnLeaves (sym (value_of_seen i w is)) by
  where
    by : IsIdleOnLeaves (value (see.path w) no_instruction)
    by named p (u_value u_done) r bodies n e =
        join_none (within (put (value_of_first (first_hit (machine r bodies) (children n) (looking_from (see.path w))))))
        ∙ ap (λ h. within (put (value_of_first (first_hit (machine r bodies) h (looking_from (see.path w)))))) e

-- in the loop over a body
module _ (is : List Instr) (k : ℕ) (x : Instr) (low : k < length is) (e : x ≡ get_or is k x) (kept : List Instr) (all : Body) where
  abbrev rest : Body
  rest = see.body (drop (k + 1) is)

  comes : see.body (drop k is) ≡ body_then (see.instruction x no_instruction) rest
  comes = left_instruction is k x low e ∙ sym (instruction_then x no_instruction rest)

  pub leaf_left_out : HasOne (see.body kept) → IsIdleOnLeaves (see.instruction x no_instruction) → AreAlike all (body_then (see.body kept) (see.body (drop k is))) → AreAlike all (body_then (see.body kept) rest)
  leaf_left_out one idle f = alike_then (subst (λ b. AreAlike all (body_then (see.body kept) b)) comes f) (left_out (see.body kept) (see.instruction x no_instruction) rest one idle)

  pub leaf_kept : (y : Instr) → AreAlike (see.instruction x no_instruction) (see.instruction y no_instruction) → AreAlike all (body_then (see.body kept) (see.body (drop k is)))
      → AreAlike all (body_then (see.body (kept ++ y ∷ [])) rest)
  leaf_kept y g f =
      let one = see.instruction x no_instruction in
      let other = see.instruction y no_instruction in
      subst (AreAlike all) (sym (ap (λ b. body_then b rest) (pushed_instruction kept y) ∙ body_then_assoc (see.body kept) other rest))
      (alike_then (subst (λ b. AreAlike all (body_then (see.body kept) b)) comes f)
      (alike_both (see.body kept) (see.body kept) (body_then one rest) (body_then other rest) (alike_self (see.body kept)) (alike_both one other rest rest g (alike_self rest))))

pub leaf_end : (is : List Instr) (k : ℕ) (kept : List Instr) (all : Body) → length is ≤ k → AreAlike all (body_then (see.body kept) (see.body (drop k is))) → AreAlike all (see.body kept)
leaf_end is k kept all h f = subst (AreAlike all) (ap (λ js. body_then (see.body kept) (see.body js)) (drop_all k is h) ∙ body_then_done (see.body kept)) f

-- some were kept
pub has_kept : (kept : List Instr) → 0 < length kept → HasOne (see.body kept)
has_kept [] low = let f : ⊥ = omega (arith, low) in absurd f
has_kept (i ∷ is) low = subst HasOne (instruction_then i no_instruction (see.body is)) (has_then (see.instruction i no_instruction) (see.body is) (is_seen i))
  where
    has_then : (a b : Body) → HasOne a → HasOne (body_then a b)
    has_then no_instruction b h = absurd h
    has_then (put_text t a) b h = tt
    has_then (put_element n i a) b h = tt
    has_then (copy i a) b h = tt
    has_then (apply w m a) b h = tt
    has_then (call n a) b h = tt
    has_then (value w a) b h = tt
    has_then (value_of_self a) b h = tt
    has_then (choose y a) b h = tt
    has_then (for_each e w i a) b h = tt

pub no_more_left : (xs : List Lettered) → length xs ≤ 0 → xs ≡ []
no_more_left [] low = refl
no_more_left (x ∷ xs) low = let f : ⊥ = omega (arith, low) in absurd f

-- the body for the current node
pub body_on_leaf : (x : Bodies) (h : Context) → h.kids.now ≡ [] → IsBodyOn x h x.on_leaf
body_on_leaf x h empty = record {
  part = λ f s k. f.part s k;
  same = λ f r bodies p e u.
      let no_child : children (node h) ≡ none = sym e ∙ ap (λ ns. bare (trees ns)) empty in
      let k = f.also (sheet_by r).named p u in
      let alone : (q : CallFreeBody) → does r bodies q h ≡ on_leaf r bodies q (node h) =
      λ q. ap (λ ts. does_in (machine r bodies) q (node h) (λ i w. outputs (machine r bodies) ts i (ancestor (told_by r) h.above) w)) no_child in
      (k.plain, k.unfolds, alone p ∙ (k.same r bodies (node h) no_child ∙ sym (alone k.plain)));
}

pub body_on_others : (x : Bodies) (h : Context) → IsBodyOn x h x.whole
body_on_others x h = record { part = λ f s k. k; same = λ f r bodies p e u. (p, u, refl) }

-- the bodies of so many rules
pub record AreLeavesSo (s : Sheet) (n : ℕ) (bs : List (Bor (List Instr))) : Type 0 where
  pub count : length bs ≡ n
  pub leaf : (i : ℕ) (b : Bor (List Instr)) (rule : Rule) → slice_get bs i ≡ Some b → slice_get s.rules i ≡ Some rule → AreAlike rule.body (see.body b.now)

pub no_leaves : (s : Sheet) → AreLeavesSo s 0 []
no_leaves s = record { count = refl; leaf = λ i b rule e. cc }

pushed_at : {X : Type 0} (xs : List X) (x y : X) (m : ℕ) → slice_get (xs ++ x ∷ []) m ≡ Some y → (slice_get xs m ≡ Some y) ⊎ ((m ≡ length xs) × (x ≡ y))
pushed_at [] x y zero e = inr (refl, same_Some x y e)
pushed_at [] x y (suc m) e = cc
pushed_at (z ∷ xs) x y zero e = inl e
pushed_at (z ∷ xs) x y (suc m) e = ⊎_elim inl (λ p. inr (omega (arith, p.0), p.1)) (pushed_at xs x y m e)

pub one_more_leaf : (s : Sheet) (sh : SheetOf) (n : ℕ) (bs : List (Bor (List Instr))) (b : Bor (List Instr)) → see.sheet sh ≡ s → n < length sh.rules.now
    → AreAlike (see.body (get_or sh.rules.now n no_rule).body.now) (see.body b.now) → AreLeavesSo s n bs → AreLeavesSo s (n + 1) (bs ++ b ∷ [])
one_more_leaf s sh n bs b e below alike are = record {
  count = let size = length_push bs b in let count = are.count in omega (arith, size, count);
  leaf = λ i c rule at ruled.
      ⊎_elim (λ there. are.leaf i c rule there ruled)
      (λ p.
      let d = get_or sh.rules.now n no_rule in
      let size : length s.rules ≡ length sh.rules.now = sym (ap (λ (y : Sheet). length y.rules) e) ∙ length-map sh.rules.now see.rule in
      let low : n < length s.rules = omega (arith, size, below) in
      let here : slice_get s.rules i ≡ Some (see.rule d) = ap (slice_get s.rules) (p.0 ∙ are.count) ∙ rule_got s sh n no_rule e low in
      let same : rule ≡ see.rule d = same_Some rule (see.rule d) (sym ruled ∙ here) in
      subst (λ (y : Bor (List Instr)). AreAlike rule.body (see.body y.now)) p.1 (subst (λ (y : Rule). AreAlike y.body (see.body b.now)) (sym same) alike)) (pushed_at bs b c i at);
}

-- the same body on all nodes
pub alone_part : (s : Sheet) (x : Bodies) (b : Bor (List Instr)) → x.whole ≡ b → x.on_leaf ≡ b → IsPart s (see.body b.now) → IsPartTemplate s (m.Body x)
alone_part s x b e f h = (
  subst (λ (y : Bor (List Instr)). IsPart s (see.body y.now)) (sym e) h,
  subst (λ (y : Bor (List Instr)). AreAlike (see.body y.now) (see.body x.on_leaf.now)) (sym e) (subst (λ (y : Bor (List Instr)). AreAlike (see.body b.now) (see.body y.now)) (sym f) (alike_self (see.body b.now))),
)

pub whole_meant : (named : List Body) (n : Node) (x : Bodies) (b : Bor (List Instr)) (p : CallFreeBody) → x.whole ≡ b → Inlines named (see.body b.now) p → IsMeantBy named n (m.Body x) p
whole_meant named n x b p e u = subst (λ (y : Bor (List Instr)). Inlines named (see.body y.now) p) (sym e) u

-- that of a rule
pub rule_bodies : (s : Sheet) (x : Bodies) (b : Bor (List Instr)) → x.whole ≡ b → IsPart s (see.body b.now) → AreAlike (see.body b.now) (see.body x.on_leaf.now) → IsPartTemplate s (m.Body x)
rule_bodies s x b e h f =
    (subst (λ (y : Bor (List Instr)). IsPart s (see.body y.now)) (sym e) h, subst (λ (y : Bor (List Instr)). AreAlike (see.body y.now) (see.body x.on_leaf.now)) (sym e) f)
