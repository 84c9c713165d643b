-- Worked cases of what stylesheets mean.
use Rattle.std.proofs.Common.{◌≡◌, ℕ, List, [], ◌∷◌, ◌++◌, refl, ap, sym, ◌∙◌, zero, suc, get_or, true, false, pos, codes, Some, All, arith, ◌<◌}
use Rattle.std.proofs.lemmas.List.Elements.{All-nil, All-cons}
use Rattle.std.proofs.lemmas.Str.{encode_ascii}
use Rattle.tc_model.specs.Names.{ExpandedName, IsName}
use Rattle.tc_model.specs.Trees.{Trees, none, text, element}
use Rattle.tc_model.specs.Chains.{Tree, an_element, Chain, top, under, down}
use Rattle.tc_model.specs.Sheets.{of_name, any_node, Steps, no_step, step, Path, no_alternative, alternative, always, has, negated, root_pattern, steps_pattern, Body, no_instruction, put_text, put_element, apply, call, for_each, Rule, Sheet, CallFreeBody, Inlines, u_done, u_element, u_each}
use Rattle.tc_model.specs.Outcomes.{Outcome}
use Rattle.tc_model.specs.Paths.{selected, fits, is_end}
use Rattle.tc_model.specs.Meaning.{all_children, rule_of, Does, does_no_instruction, does_text, does_element, does_apply, does_call, does_self, does_for_each, on_none, on_one}
use Rattle.tc_model.specs.Safety.{Transforms, IsResultOf}
use Rattle.tc_model.specs.WellFormed.{IsPath, IsBody, IsRule, IsSheet, ForEach}
use Rattle.tc_model.proofs.Unique.{does_unique}

-- a name in no namespace
abbrev name : List ℕ → ExpandedName
name local = record { uri = []; local = local }

abbrev a : ExpandedName
a = name (codes "a")

abbrev b : ExpandedName
b = name (codes "b")

abbrev c : ExpandedName
c = name (codes "c")

abbrev p : ExpandedName
p = name (codes "p")

abbrev r : ExpandedName
r = name (codes "r")

abbrev s : ExpandedName
s = name (codes "s")

abbrev x : ExpandedName
x = name (codes "x")

abbrev y : ExpandedName
y = name (codes "y")

-- `n`, and `.//n`
abbrev child : ExpandedName → Steps
child n = step false (of_name n) always no_step

abbrev deep : ExpandedName → Steps
deep n = step true (of_name n) always no_step

abbrev one_alternative : Steps → Path
one_alternative ss = alternative ss no_alternative

abbrev empty_element : ExpandedName → Body
empty_element n = put_element n no_instruction no_instruction

-- a rule that fits elements of a name wherever they stand, in the default mode
abbrev rule : ExpandedName → ℕ → Body → Rule
rule n priority body = record { mode = 0; pattern = steps_pattern (deep n); priority = pos priority; body = body }

abbrev root_rule : Body → Rule
root_rule body = record { mode = 0; pattern = root_pattern; priority = pos 5000; body = body }

abbrev sheet : ℕ → List Rule → Sheet
sheet modes rules = record { modes = modes; eaches = 0; rules = rules; named = [] }

-- of two rules of equal priority the last one is taken, and one of greater priority wherever it stands
module _ (doc : Trees) where
  abbrev a_b : Chain
  a_b = under (top doc) (an_element b none)

  last_of_equals : rule_of (rule b 0 (empty_element x) ∷ rule b 0 (empty_element y) ∷ []) 0 a_b ≡ Some (rule b 0 (empty_element y))
  last_of_equals = refl

  greater_first : rule_of (rule b 1 (empty_element x) ∷ rule b 0 (empty_element y) ∷ rule b 0 no_instruction ∷ []) 0 a_b ≡ Some (rule b 1 (empty_element x))
  greater_first = refl

  greater_between : rule_of (rule b 0 (empty_element y) ∷ rule b 1 (empty_element x) ∷ rule b 0 no_instruction ∷ []) 0 a_b ≡ Some (rule b 1 (empty_element x))
  greater_between = refl

  greater_last : rule_of (rule b 0 (empty_element y) ∷ rule b 0 no_instruction ∷ rule b 1 (empty_element x) ∷ []) 0 a_b ≡ Some (rule b 1 (empty_element x))
  greater_last = refl

-- a rule of mode 1 for `b`, one of the default mode, and from the root on mode 1: the built-in rule on `a` keeps the mode
mode_is_kept :
    IsResultOf (sheet 2 (record { mode = 1; pattern = steps_pattern (deep b); priority = pos 0; body = empty_element x } ∷ rule b 0 (empty_element y) ∷ root_rule (apply all_children 1 no_instruction) ∷ []))
    (element a (element b none none) none) (element x none none)
mode_is_kept = (_, (_, does_apply (on_one (does_apply (on_one (does_element does_no_instruction does_no_instruction) on_none) does_no_instruction) on_none) does_no_instruction, refl), refl)

-- `c|b|.//c` on `a` selects its children once, in document order
module _ (doc : Trees) where
  abbrev with_b_and_c : Chain
  with_b_and_c = under (top doc) (an_element a (element b none (element c none none)))

  each_once_in_order : selected (alternative (child c) (alternative (child b) (one_alternative (deep c)))) with_b_and_c ≡ under with_b_and_c (an_element b none) ∷ under with_b_and_c (an_element c none) ∷ []
  each_once_in_order = refl

-- `.//b[not(c)]`
module _ (doc : Trees) where
  abbrev second_b : Tree
  second_b = an_element b (element b none none)

  abbrev with_two_bs : Chain
  with_two_bs = under (top doc) (an_element a (element b (element c none none) (element b (element b none none) none)))

  without_c : selected (one_alternative (step true (of_name b) (negated (has (one_alternative (child c)))) no_step)) with_two_bs ≡ under with_two_bs second_b ∷ under (under with_two_bs second_b) (an_element b none) ∷ []
  without_c = refl

-- the built-in rules go through elements and copy texts: two texts, and five bodies for them and the root and the elements
built_in_rules :
    Transforms (sheet 1 []) (element a (text (codes "t") (element b (text (codes "u") none) none)) none)
    (record { out = text (codes "t") (text (codes "u") none); work = 7; nesting = 8 })
built_in_rules =
    (_, does_apply (on_one (does_apply (on_one (does_self does_no_instruction) (on_one (does_apply (on_one (does_self does_no_instruction) on_none) does_no_instruction) on_none)) does_no_instruction) on_none) does_no_instruction, refl)

built_in_result : IsResultOf (sheet 1 []) (element a (text (codes "t") (element b (text (codes "u") none) none)) none) (text (codes "tu") none)
built_in_result = (_, built_in_rules, refl)

-- `node()` fits any node but the root, `/` the root alone
node_not_root : (doc : Trees) → fits (steps_pattern (step true any_node always no_step)) (top doc) ≡ false
node_not_root doc = refl

slash_root : (doc : Trees) → fits root_pattern (top doc) ≡ true
slash_root doc = refl

more_than_none : (ts : List Tree) (t : Tree) → is_end (ts ++ (t ∷ [])) ≡ false
more_than_none [] t = refl
more_than_none (u ∷ ts) t = refl

slash_alone : (d : Chain) (t : Tree) → fits root_pattern (under d t) ≡ false
slash_alone d t = more_than_none (down d) t

-- `a//b` fits a `b` below an `a`, at any depth, and none below a `c`
abbrev a_deep_b : Steps
a_deep_b = step true (of_name a) always (deep b)

abbrev b_in : ExpandedName → Chain
b_in n =
    let doc : Trees = element n (element c (element b none none) none) none in
    under (under (under (top doc) (an_element n (element c (element b none none) none))) (an_element c (element b none none))) (an_element b none)

below_a : fits (steps_pattern a_deep_b) (b_in a) ≡ true
below_a = refl

below_c : fits (steps_pattern a_deep_b) (b_in c) ≡ false
below_c = refl

-- patterns `a/b`, `b` and `b`: the first has the greater priority where it fits, the last stands behind its equal
by_priority :
    IsResultOf (sheet 1 (record { mode = 0; pattern = steps_pattern (step true (of_name a) always (child b)); priority = pos 5000; body = empty_element p } ∷ rule b 0 (empty_element r) ∷ rule b 0 (empty_element s) ∷ []))
    (element a (element b none (element c (element b none none) none)) none) (element p none (element s none none))
by_priority =
    (_, (_, does_apply (on_one (does_apply (on_one (does_element does_no_instruction does_no_instruction) (on_one (does_apply (on_one (does_element does_no_instruction does_no_instruction) on_none) does_no_instruction) on_none)) does_no_instruction) on_none) does_no_instruction, refl), refl)

-- an empty text puts out nothing and costs nothing; adjacent texts are one in the result
empty_text : (rules : List Rule) (named : List Body) (d : Chain) (h : Outcome) → Does rules named (put_text [] no_instruction) d h → h ≡ record { out = none; work = 0; nesting = 1 }
empty_text rules named d h e = does_unique e (does_text does_no_instruction)

adjacent_texts :
    IsResultOf (sheet 1 (root_rule (put_element x (put_text (codes "u") (put_text [] (put_text (codes "v") no_instruction))) no_instruction) ∷ [])) (element a none none) (element x (text (codes "uv") none) none)
adjacent_texts = (_, (_, does_element (does_text (does_text (does_text does_no_instruction))) does_no_instruction, refl), refl)

-- a rule that puts out an element and goes on twice, on `a` in `a`: the root's body and `r`, and three bodies and elements
abbrev twice : Sheet
twice = sheet 1 (root_rule (put_element r (apply all_children 0 no_instruction) no_instruction) ∷ rule a 0 (put_element x no_instruction (apply all_children 0 (apply all_children 0 no_instruction))) ∷ [])

doubled : Transforms twice (element a (element a none none) none) (record { out = element r (element x none (element x none (element x none none))) none; work = 8; nesting = 7 })
doubled =
    let inner = does_element does_no_instruction (does_apply on_none (does_apply on_none does_no_instruction)) in
    (_, does_element (does_apply (on_one (does_element does_no_instruction (does_apply (on_one inner on_none) (does_apply (on_one inner on_none) does_no_instruction))) on_none) does_no_instruction) does_no_instruction, refl)

-- a for-each in a named body: three bodies and an element
abbrev called : Sheet
called = record { modes = 1; eaches = 1; rules = root_rule (call 0 no_instruction) ∷ []; named = for_each 0 all_children (empty_element x) no_instruction ∷ [] }

called_once : Transforms called (element a none none) (record { out = element x none none; work = 4; nesting = 6 })
called_once = (_, does_call _ refl (does_for_each (on_one (does_element does_no_instruction does_no_instruction) on_none) does_no_instruction) does_no_instruction, refl)

-- it is well-formed
x_is_name : IsName x
x_is_name = ((([], refl, refl), λ e. cc), (120, [], ap (λ bs. bs ++ []) (encode_ascii 120 (omega arith)), refl, refl))

children_is_path : IsPath all_children
children_is_path = (λ e. cc, (tt, tt, tt), tt)

all_of_one : {A : Type 0} (P : A → Type 0) (one : A) → P one → All P (one ∷ [])
all_of_one P one i = All-cons P one [] i (All-nil P)

at_one : (one other : ForEach) (k : ℕ) → k < 1 → get_or (one ∷ []) k other ≡ other → one ≡ other
at_one one other zero h e = e
at_one one other (suc k) h e = absurd (omega arith)

called_is_sheet : IsSheet called
called_is_sheet =
    let one : ForEach = record { number = 0; path = all_children; body = empty_element x } in
    record {
      modes = omega arith;
      rules = all_of_one (IsRule called) (root_rule (call 0 no_instruction)) (record { mode = omega arith; pattern = tt; body = (omega arith, tt) });
      named = all_of_one (IsBody called) (for_each 0 all_children (empty_element x) no_instruction) (omega arith, children_is_path, (x_is_name, tt, tt), tt);
      calls = all_of_one (λ i. (o : CallFreeBody) × Inlines called.named i o) (for_each 0 all_children (empty_element x) no_instruction) (_, u_each (u_element u_done u_done) u_done);
      same_eaches = λ f g i j e. sym (at_one one f i.0 i.1 i.2) ∙ at_one one g j.0 j.1 j.2;
      each_number = λ i h. (one, (0, omega arith, refl), omega arith);
    }
