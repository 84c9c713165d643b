-- Derivations stay while rows come on, and are bounded by what was tried.
use Rattle.std.proofs.Common.{◌≡◌, ℕ, ◌+◌, ◌<◌, ◌≤◌, sym, subst, arith}
use Rattle.tc_settle.specs.Held.{Held, Grows, IsNoneAt, IsTextAt, IsAppendAt, IsWrapAt, IsUnchanged}
use Rattle.tc_settle.specs.Derived.{HedgeFrom, TreeFrom, from_none, from_append, from_text, from_wrap, AllDerive}
use Rattle.tc_settle.specs.Closed.{IsCapped}

module _ {s : Held} where
  pub held_hedge : {u n : ℕ} → HedgeFrom s u n → u < s.hedges
  held_hedge (from_none at) = at.0
  held_hedge (from_append d f at) = at.0

  pub held_tree : {u n : ℕ} → TreeFrom s u n → u < s.trees
  held_tree (from_text at) = at.0
  held_tree (from_wrap low d at) = at.0

  pub some_node : {u n : ℕ} → TreeFrom s u n → 1 ≤ n
  some_node (from_text at) = omega arith
  some_node (from_wrap {n} low d at) = omega arith

module _ {s r : Held} (g : Grows s r) where
  pub none_stays : {u : ℕ} → IsNoneAt s u → IsNoneAt r u
  none_stays {u} (low, is) = (omega (arith, low, g.hedges), g.is_none u low is)

  pub text_stays : {u : ℕ} → IsTextAt s u → IsTextAt r u
  text_stays {u} (low, is) = (omega (arith, low, g.trees), g.is_text u low is)

  pub append_stays : {h t u : ℕ} → h < s.hedges → t < s.trees → IsAppendAt s h t u → IsAppendAt r h t u
  append_stays {h} {t} {u} hedge tree (low, is) = (omega (arith, low, g.hedges), g.is_append h t u hedge tree low is)

  pub wrap_stays : {a h u : ℕ} → a < s.symbols → h < s.hedges → IsWrapAt s a h u → IsWrapAt r a h u
  wrap_stays {a} {h} {u} symbol hedge (low, is) = (omega (arith, low, g.trees), g.is_wrap a h u symbol hedge low is)

  pub symbol_stays : {a : ℕ} → a < s.symbols → a < r.symbols
  symbol_stays {a} low = subst (λ k. a < k) (sym g.symbols) low

  mutual
    pub hedge_stays : {u n : ℕ} → HedgeFrom s u n → HedgeFrom r u n
    hedge_stays (from_none at) = from_none (none_stays at)
    hedge_stays (from_append d f at) = from_append (hedge_stays d) (tree_stays f) (append_stays (held_hedge d) (held_tree f) at)

    pub tree_stays : {u n : ℕ} → TreeFrom s u n → TreeFrom r u n
    tree_stays (from_text at) = from_text (text_stays at)
    tree_stays (from_wrap low d at) = from_wrap (symbol_stays low) (hedge_stays d) (wrap_stays low (held_hedge d) at)

  pub all_stay : IsUnchanged s r → AllDerive s → AllDerive r
  all_stay (trees, hedges) all = record {
    hedges = λ u low. let (n, d) = all.hedges u (omega (arith, low, hedges)) in (n, hedge_stays d);
    trees = λ u low. let (n, d) = all.trees u (omega (arith, low, trees)) in (n, tree_stays d);
  }

-- sums of capped numbers
pub capped_sum : (m n a b cost : ℕ) → IsCapped m a → IsCapped n b → IsCapped (a + b) cost → IsCapped (m + n) cost
capped_sum m n a b cost p q r = grind arith

pub capped_more : (m a cost : ℕ) → IsCapped m a → IsCapped (a + 1) cost → IsCapped (m + 1) cost
capped_more m a cost p r = grind arith

pub capped_most : (n c : ℕ) → IsCapped n c → c ≤ n
capped_most n c p = grind arith

pub capped_low : (n c : ℕ) → IsCapped n c → c ≤ 2000 → n ≡ c
capped_low n c p l = grind arith
