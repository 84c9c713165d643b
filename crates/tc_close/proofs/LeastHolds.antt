-- The rows of what is live are the least fixpoint of row arithmetic; so the least certificate of a stylesheet that is safe is a certificate.
use Rattle.std.proofs.Common.{◌<◌, ◌↔◌, inl, inr, ℕ, List, [], ◌∷◌, refl, sym, subst, map, length, get_or, All, arith}
use Rattle.std.specs.List.{Contains}
use Rattle.std.proofs.lemmas.List.Elements.{All-map, All-from_get_or, Contains-get_or, All-get_or}
use Rattle.std.proofs.lemmas.Simd.{map-map}
use Rattle.tc_model.specs.Safety.{IsSafe}
use Rattle.tc_model.specs.declared.lists.CertData.{CertData}
use Rattle.tc_rows.specs.CertificateRows.{numbered_tree, numbered_hedge, trees_of, hedges_of, IsCertificateData}
use Rattle.tc_rows.specs.Certificates.{tree_of, hedge_of, AreClosed, AreCertified}
use Rattle.tc_rows.specs.Counts.{IsRowOfLiveTree, IsRowOfLiveHedge, IsOutput}
use Rattle.tc_rows.specs.Derivations.{HedgeFrom, TreeFrom, from_none, from_append, from_text, from_wrap, AreExact}
use Rattle.tc_rows.specs.PairSets.{IsPairs}
use Rattle.tc_rows.specs.Rows.{HedgeRow, TreeRow, IsHedgeRow, IsTreeRow}
use Rattle.tc_rows.specs.Triples.{Triple, IsTriple, sheet, outputs}
use Rattle.tc_rows.proofs.Derived.{derivations_are_exact, closed_hold_all}
use Rattle.tc_close.specs.Certified.{AreAmong, IsLeastCertificate}

-- what holds of all that stand in a list
pub all_of : {X : Type 0} (P : X → Type 0) (xs : List X) → ((x : X) → Contains xs x → P x) → All P xs
all_of P [] holds = grind arith
all_of P (x ∷ xs) holds = All-from_get_or P (x ∷ xs) x (λ i l. holds (get_or (x ∷ xs) i x) (Contains-get_or (x ∷ xs) i x l))

pub entries_are : (n : ℕ) (es : List (List (ℕ × ℕ))) (pairs : List (ℕ × ℕ)) → All (IsPairs n) es → Contains es pairs → IsPairs n pairs
entries_are n es pairs each (i, l, e) = subst (IsPairs n) e (All-get_or (IsPairs n) es i pairs l each)

-- lists of the rows of all that is live, and of no other
module _ (x : Triple) (triple : IsTriple x) (trees : List TreeRow) (hedges : List HedgeRow) (tree_is : (r : TreeRow) → Contains trees r ↔ IsRowOfLiveTree x r) (hedge_is : (r : HedgeRow) → Contains hedges r ↔ IsRowOfLiveHedge x r) where
  exact : AreExact x
  exact = derivations_are_exact x triple

  -- a listed row comes from rows, and one that does is listed
  pub tree_comes : (r : TreeRow) → Contains trees r → (n : ℕ) × TreeFrom x r n
  tree_comes r c = let (t, live, row) = (tree_is r).0 c in (_, (exact.trees r _).1 (t, live, row, refl))

  hedge_comes : (r : HedgeRow) → Contains hedges r → (n : ℕ) × HedgeFrom x r n
  hedge_comes r c = let (h, live, row) = (hedge_is r).0 c in (_, (exact.hedges r _).1 (h, live, row, refl))

  tree_there : (r : TreeRow) (n : ℕ) → TreeFrom x r n → Contains trees r
  tree_there r n from = let (t, live, row, count) = (exact.trees r n).0 from in (tree_is r).1 (t, live, row)

  hedge_there : (r : HedgeRow) (n : ℕ) → HedgeFrom x r n → Contains hedges r
  hedge_there r n from = let (h, live, row, count) = (exact.hedges r n).0 from in (hedge_is r).1 (h, live, row)

  pub are_closed : AreClosed x trees hedges
  are_closed = record {
    empty = λ u is. hedge_there u 0 (from_none is);
    text = λ live u is. tree_there u 1 (from_text live is);
    append = λ h u t ch ct live is. let (m, a) = hedge_comes h ch in let (n, b) = tree_comes t ct in hedge_there u _ (from_append a b live is);
    wrap = λ a h u low ch live is. let (n, b) = hedge_comes h ch in tree_there u _ (from_wrap low b live is);
  }

  -- and closed lists hold them
  pub are_least : (more_trees : List TreeRow) (more_hedges : List HedgeRow) → AreClosed x more_trees more_hedges → AreAmong trees more_trees × AreAmong hedges more_hedges
  are_least more_trees more_hedges closed =
      let (all_trees, all_hedges) = closed_hold_all x triple more_trees more_hedges closed in
      (λ r c. let (t, live, row) = (tree_is r).0 c in all_trees t r live row, λ r c. let (h, live, row) = (hedge_is r).0 c in all_hedges h r live row)

module _ (x : Triple) (triple : IsTriple x) (safe : IsSafe x.input x.output (sheet x)) (d : CertData) (least : IsLeastCertificate x d) where
  certified : AreCertified x (trees_of d) (hedges_of d)
  certified = record {
    tree_rows = all_of (IsTreeRow x) (trees_of d) (λ r c. let (t, live, row) = (least.trees r).0 c in row.row);
    hedge_rows = all_of (IsHedgeRow x) (hedges_of d) (λ r c. let (h, live, row) = (least.hedges r).0 c in row.row);
    closed = are_closed x triple (trees_of d) (hedges_of d) least.trees least.hedges;
    root = λ t c admitted. let (n, from) = tree_comes x triple (trees_of d) (hedges_of d) least.trees least.hedges t c in (derivations_are_exact x triple).safe.0 safe t n from admitted;
  }

  output_pairs : (pairs : List (ℕ × ℕ)) → IsOutput x pairs → IsPairs (outputs x) pairs
  output_pairs pairs (inl (r, (t, live, row), c)) = entries_are (outputs x) r.entries pairs row.row.entries.each c
  output_pairs pairs (inr (r, (h, live, row), c)) = entries_are (outputs x) r.entries pairs row.row.entries.each c

  pub least_holds : IsCertificateData x d
  least_holds = record {
    outputs_fit = all_of (IsPairs (outputs x)) d.outputs (λ pairs c. output_pairs pairs ((least.outputs pairs).0 c));
    trees_fit = All-map (λ t. All (λ n. n < length d.outputs) t.entries) numbered_tree d.trees least.tree_numbers;
    hedges_fit = All-map (λ h. All (λ n. n < length d.outputs) h.entries) numbered_hedge d.hedges least.hedge_numbers;
    certified =
        subst (λ (ts : List TreeRow). AreCertified x ts (map (hedge_of d.outputs) (map numbered_hedge d.hedges))) (sym (map-map (tree_of d.outputs) numbered_tree d.trees))
        (subst (λ (hs : List HedgeRow). AreCertified x (trees_of d) hs) (sym (map-map (hedge_of d.outputs) numbered_hedge d.hedges)) certified);
  }
