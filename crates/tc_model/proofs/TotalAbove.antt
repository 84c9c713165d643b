-- What stands above a node matters to no test and no path from it.
use Rattle.std.proofs.Common.{◌≡◌, List, [], ◌∷◌, refl, ap, ◌∙◌, map, Bool, true, false, cond, filter, not, ◌&&◌, ◌||◌, is_some}
use Rattle.tc_model.specs.Chains.{Tree, Chain, under, below, onto, node_of, children, found, first_node, root_of, down}
use Rattle.tc_model.specs.Sheets.{Steps, no_step, step, Path, no_alternative, alternative, Test, always, never, has, negated, all_of, any_of, Tests, no_test, test, MatchPattern, root_pattern, steps_pattern}
use Rattle.tc_model.specs.Paths.{passes, stride, along, any_along, holds, all_hold, some_holds, fits, is_end}

both_same : (a b c d : Bool) → a ≡ b → c ≡ d → (a && c) ≡ (b && d)
both_same a b c d e f = cc

one_same : (a b c d : Bool) → a ≡ b → c ≡ d → (a || c) ≡ (b || d)
one_same a b c d e f = cc

stride_above : (deep : Bool) (fit : Tree → Chain → Bool) (next : Chain → List Tree → Bool)
    → ((t : Tree) (c d : Chain) → fit t (under c t) ≡ fit t (under d t)) → ((c d : Chain) (ts : List Tree) → next c ts ≡ next d ts)
    → (c d : Chain) (ts : List Tree) → stride deep fit next c ts ≡ stride deep fit next d ts
stride_above deep fit next f g c d [] = refl
stride_above deep fit next f g c d (t ∷ ts) =
    one_same _ _ _ _ (both_same _ _ _ _ (f t c d) (g (under c t) (under d t) ts)) (ap (λ w. deep && w) (stride_above deep fit next f g (under c t) (under d t) ts))

some_step : (a b : Bool) (c d : Chain) (xs ys : List (List Tree)) (x : List Tree) → a ≡ b
    → is_some (first_node (map (λ w. onto c w) xs)) ≡ is_some (first_node (map (λ w. onto d w) ys))
    → is_some (first_node (map (λ w. onto c w) (cond a (x ∷ xs) xs))) ≡ is_some (first_node (map (λ w. onto d w) (cond b (x ∷ ys) ys)))
some_step true true c d xs ys x e f = refl
some_step true false c d xs ys x e f = cc
some_step false true c d xs ys x e f = cc
some_step false false c d xs ys x e f = f

some_same : (p q : List Tree → Bool) (c d : Chain) → ((ts : List Tree) → p ts ≡ q ts) → (ds : List (List Tree)) → is_some (first_node (found p c ds)) ≡ is_some (first_node (found q d ds))
some_same p q c d e [] = refl
some_same p q c d e (x ∷ ds) = some_step (p x) (q x) c d (filter p ds) (filter q ds) x (e x) (some_same p q c d e ds)

mutual
  pub along_above : (ss : Steps) (c d : Chain) (ts : List Tree) → along ss c ts ≡ along ss d ts
  along_above no_step c d ts = refl
  along_above (step deep t when ss) c d ts =
      stride_above deep (λ u e. passes t u && holds when e) (λ e us. along ss e us)
      (λ u e f. ap (λ w. passes t u && w) (holds_above when (under e u) (under f u) refl)) (λ e f us. along_above ss e f us) c d ts

  pub any_above : (p : Path) (c d : Chain) (ts : List Tree) → any_along p c ts ≡ any_along p d ts
  any_above no_alternative c d ts = refl
  any_above (alternative ss p) c d ts = one_same _ _ _ _ (along_above ss c d ts) (any_above p c d ts)

  pub holds_above : (w : Test) (c d : Chain) → children (node_of c) ≡ children (node_of d) → holds w c ≡ holds w d
  holds_above always c d e = refl
  holds_above never c d e = refl
  holds_above (has p) c d e =
      some_same (λ w. any_along p c w) (λ w. any_along p d w) c d (λ ts. any_above p c d ts) (below (children (node_of c)))
      ∙ ap (λ h. is_some (first_node (found (λ w. any_along p d w) d (below h)))) e
  holds_above (negated t) c d e = ap not (holds_above t c d e)
  holds_above (all_of ts) c d e = all_above ts c d e
  holds_above (any_of ts) c d e = some_above ts c d e

  all_above : (ts : Tests) (c d : Chain) → children (node_of c) ≡ children (node_of d) → all_hold ts c ≡ all_hold ts d
  all_above no_test c d e = refl
  all_above (test t ts) c d e = both_same _ _ _ _ (holds_above t c d e) (all_above ts c d e)

  some_above : (ts : Tests) (c d : Chain) → children (node_of c) ≡ children (node_of d) → some_holds ts c ≡ some_holds ts d
  some_above no_test c d e = refl
  some_above (test t ts) c d e = one_same _ _ _ _ (holds_above t c d e) (some_above ts c d e)

-- nor does the document matter to a match pattern, where the trees from the root down are given
pub fits_above : (p : MatchPattern) (c d : Chain) → down c ≡ down d → fits p c ≡ fits p d
fits_above root_pattern c d e = ap is_end e
fits_above (steps_pattern ss) c d e = along_above ss (root_of c) (root_of d) (down c) ∙ ap (λ w. along ss (root_of d) w) e
