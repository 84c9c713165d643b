-- There are rows: of all trees in normal form, and of what is worked out from rows.
use Rattle.std.proofs.Common.{◌≡◌, ℕ, zero, suc, ◌+◌, ◌<◌, List, [], true, false, refl, ap, ◌∙◌, sym, subst, arith}
use Rattle.tc_model.specs.Names.{ExpandedName}
use Rattle.tc_model.specs.Trees.{Trees, none, node_count}
use Rattle.tc_model.specs.Chains.{Tree, an_element, a_text}
use Rattle.tc_model.specs.TreesApart.{alone, followed_by, FromBack, is_none, is_followed, IsApart}
use Rattle.tc_model.specs.Symbols.{symbol_of}
use Rattle.tc_model.proofs.TreesApart.{from_back, nodes_beside, apart_followed, ends_followed, normal_apart}
use Rattle.tc_rows.proofs.Live.{some_node}
use Rattle.tc_incl.specs.Schemas.{Schemas}
use Rattle.tc_incl.specs.Rows.{HedgeRow, TreeRow, IsHedgeRow, IsTreeRow, IsRowOfHedge, IsRowOfTree}
use Rattle.tc_incl.specs.Arithmetic.{IsEmptyRow, IsTextRow, IsAppend, IsWrap}
use Rattle.tc_incl.specs.Laws.{AreThere}
use Rattle.tc_incl.proofs.OneSchema.{IsBlind, begun_states, text_patterns, next_states, patterns_around}
use Rattle.tc_incl.proofs.SetsThere.{none_patterns, begun_there, next_there, around_there}

module _ (x : Schemas) where
  -- rows that are worked out
  pub empty_there : (u : HedgeRow) × IsEmptyRow x u
  empty_there =
      let (a, p, q) = begun_there x.first in
      let (b, r, s) = begun_there x.second in
      (record { ends = false; first = a; second = b }, record { row = record { first = p; second = r }; ends = refl; first = q; second = s })

  pub text_there : (u : TreeRow) × IsTextRow x u
  text_there =
      (record { is_text = true; first = []; second = [] }, record { row = record { first = none_patterns x.first; second = none_patterns x.second }; is_text = refl; first = refl; second = refl })

  pub append_there : (h : HedgeRow) (t : TreeRow) → IsHedgeRow x h → IsTreeRow x t → (u : HedgeRow) × IsAppend x h t u
  append_there h t _ row =
      let (a, p, q) = next_there x.first h.first t.is_text t.first row.first in
      let (b, r, s) = next_there x.second h.second t.is_text t.second row.second in
      (record { ends = t.is_text; first = a; second = b }, record { row = record { first = p; second = r }; ends = refl; first = q; second = s })

  pub wrap_there : (a : ℕ) (h : HedgeRow) → IsHedgeRow x h → (u : TreeRow) × IsWrap x a h u
  wrap_there a h _ =
      let (b, p, q) = around_there x.first x.symbols a h.first in
      let (c, r, s) = around_there x.second x.symbols a h.second in
      (record { is_text = false; first = b; second = c }, record { row = record { first = p; second = r }; is_text = refl; first = q; second = s })

  -- and are those of trees
  pub empty_row : (u : HedgeRow) → IsEmptyRow x u → IsRowOfHedge x none u
  empty_row u c = record { row = c.row; ends = c.ends; first = begun_states x.first u.first c.first; second = begun_states x.second u.second c.second }

  pub text_row : (s : List ℕ) (u : TreeRow) → IsTextRow x u → IsRowOfTree x (a_text s) u
  text_row s u c = record { row = c.row; is_text = c.is_text; first = text_patterns x.first s u.first c.first; second = text_patterns x.second s u.second c.second }

  pub append_row : (h : Trees) (t : Tree) (r : HedgeRow) (s : TreeRow) (u : HedgeRow) → IsApart (alone t) → IsRowOfHedge x h r → IsRowOfTree x t s → IsAppend x r s u → IsRowOfHedge x (followed_by h t) u
  append_row h t r s u apart a b c = record {
    row = c.row;
    ends = c.ends ∙ (b.is_text ∙ sym (ends_followed h t));
    first = next_states x.first h t r.first s.is_text s.first u.first b.is_text apart a.first b.first c.first;
    second = next_states x.second h t r.second s.is_text s.second u.second b.is_text apart a.second b.second c.second;
  }

  module _ (blind : IsBlind x.first x.symbols) (other : IsBlind x.second x.symbols) where
    pub wrap_row : (n : ExpandedName) (h : Trees) (r : HedgeRow) (u : TreeRow) → IsApart h → IsRowOfHedge x h r → IsWrap x (symbol_of x.symbols n) r u → IsRowOfTree x (an_element n h) u
    wrap_row n h r u apart a c = record {
      row = c.row;
      is_text = c.is_text;
      first = patterns_around x.first x.symbols blind n h r.first u.first apart a.first c.first;
      second = patterns_around x.second x.symbols other n h r.second u.second apart a.second c.second;
    }

    -- rows of trees, by their number of nodes
    abbrev HasHedgeRow : Trees → Type 0
    HasHedgeRow h = (r : HedgeRow) × IsRowOfHedge x h r

    abbrev HasTreeRow : Tree → Type 0
    HasTreeRow t = (r : TreeRow) × IsRowOfTree x t r

    tree_there : (t : Tree) → IsApart (alone t) → ((h : Trees) → node_count h < node_count (alone t) → IsApart h → HasHedgeRow h) → HasTreeRow t
    tree_there (a_text s) apart rows = let (u, c) = text_there in (u, text_row s u c)
    tree_there (an_element n kids) apart rows =
        let (r, a) = rows kids (omega arith) apart.0 in
        let (u, c) = wrap_there (symbol_of x.symbols n) r a.row in
        (u, wrap_row n kids r u apart.0 a c)

    hedge_there : (n : ℕ) (h : Trees) → node_count h < n → IsApart h → HasHedgeRow h
    hedge_there zero h low apart = absurd (omega (arith, low))
    hedge_there (suc n) h low apart = by (from_back h) low apart (λ k l a. hedge_there n k l a)
      where
        by : {k : Trees} → FromBack k → node_count k < suc n → IsApart k → ((m : Trees) → node_count m < n → IsApart m → HasHedgeRow m) → HasHedgeRow k
        by is_none l a rows = let (u, c) = empty_there in (u, empty_row u c)
        by {k} (is_followed m t e b) l a rows =
            let (front, back, meet) = (apart_followed m t).0 (subst IsApart e a) in
            let count : node_count k ≡ node_count m + node_count (alone t) = ap node_count e ∙ nodes_beside m (alone t) in
            let (r, p) = rows m (omega (arith, l, count, some_node t)) front in
            let (s, q) = tree_there t back (λ w less apart. rows w (omega (arith, l, count, less)) apart) in
            let (u, c) = append_there r s p.row q.row in
            subst HasHedgeRow (sym e) (u, append_row m t r s u back p q c)

    pub are_there : AreThere x
    are_there = record {
      empty = empty_there;
      text = text_there;
      appended = append_there;
      wrapped = wrap_there;
      trees = λ t normal. tree_there t ((normal_apart (alone t)).0 normal) (λ h less apart. hedge_there (suc (node_count h)) h (omega arith) apart);
      hedges = λ h normal. hedge_there (suc (node_count h)) h (omega arith) ((normal_apart h).0 normal);
    }
