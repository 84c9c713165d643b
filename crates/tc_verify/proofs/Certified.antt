-- Data whose numbers fit, and whose rows keep all rules, is a certificate, and shows safety.
use Rattle.std.proofs.Common.{◌≡◌, ◌<◌, ◌≤◌, ◌+◌, [], ◌∷◌, ℕ, List, length, get_or, map, slice_get, Some, subst, sym, ap, ◌∙◌, refl, arith}
use Rattle.std.specs.List.{Contains, All}
use Rattle.std.specs.List.Sorted.{IsStrictlySortedBy}
use Rattle.std.proofs.lemmas.List.{length-map}
use Rattle.std.proofs.lemmas.List.Elements.{All-map, All-weaker, All-contains, All-get_or}
use Rattle.std.proofs.lemmas.Option.{slice_get-get_or}
use Rattle.tc_model.specs.States.{input, state_count}
use Rattle.tc_model.specs.Symbols.{symbol_count}
use Rattle.tc_model.specs.declared.lists.TreeLine.{TreeLine}
use Rattle.tc_model.specs.declared.lists.HedgeLine.{HedgeLine}
use Rattle.tc_model.specs.declared.lists.CertData.{CertData}
use Rattle.tc_rows.specs.Triples.{Triple, entries, looks}
use Rattle.tc_rows.specs.Triples as t
use Rattle.tc_rows.specs.PairSets.{pair_cmp, IsPairs}
use Rattle.tc_rows.specs.Rows.{AreEntries, IsHedgeRow, IsTreeRow}
use Rattle.tc_rows.specs.Certificates.{AreCertified, AreClosed, tree_of, hedge_of, sets_of}
use Rattle.tc_model.specs.CertificateData.{ArePairs, IsFormed, IsFormedTree, IsFormedHedge}
use Rattle.tc_verify.specs.Rules as r
use Rattle.tc_rows.specs.CertificateRows.{numbered_tree, numbered_hedge, trees_of, hedges_of, IsCertificateData}
use Rattle.tc_model.specs.CertificateFits.{AllFit, AreFrom, HedgeFits, OutputFits, TreeFits}
use Rattle.tc_verify.specs.Fits.{sizes}

map_twice : {A B C : Type 0} (f : B → C) (g : A → B) (xs : List A) → map f (map g xs) ≡ map (λ y. f (g y)) xs
map_twice f g [] = refl
map_twice f g (y ∷ ys) = ap (λ zs. f (g y) ∷ zs) (map_twice f g ys)

pub place_of : {A : Type 0} (xs : List A) (y : A) → Contains xs y → (i : ℕ) × (i < length xs) × (slice_get xs i ≡ Some y)
place_of xs y (i, low, at) = (i, low, slice_get-get_or xs i y low ∙ ap Some at)

pub from_zero : (k n : ℕ) → k < 0 + n → k < n
from_zero k n low = omega (arith, low)

both : {A : Type 0} (P Q : A → Type 0) (xs : List A) → All P xs → All Q xs → All (λ y. P y × Q y) xs
both P Q xs p q k d low = (p k d low, q k d low)

module _ (x : Triple) (c : CertData) (formed : IsFormed c) (fit : AllFit (sizes x) c) where
  pub pairs_are : All (IsPairs (t.outputs x)) c.outputs
  pairs_are =
      All-weaker (λ ps. IsStrictlySortedBy pair_cmp ps × OutputFits (sizes x) c ps) (IsPairs (t.outputs x))
      (λ ps b. record { ascend = b.0; within = λ i j inside. All-contains (λ p. (p.0 < t.outputs x) × (p.1 < t.outputs x)) ps (i, j) b.1 inside }) c.outputs
      (both (IsStrictlySortedBy pair_cmp) (OutputFits (sizes x) c) c.outputs (All-weaker ArePairs (IsStrictlySortedBy pair_cmp) (λ ps p. p.ascending) c.outputs formed.outputs) fit.outputs)

  sets_are : (outs : List ℕ) → AreFrom 0 (length c.outputs) outs → All (IsPairs (t.outputs x)) (sets_of c.outputs outs)
  sets_are outs few =
      All-map (IsPairs (t.outputs x)) (λ n. get_or c.outputs n []) outs
      (All-weaker (λ k. (0 ≤ k) × (k < 0 + length c.outputs)) (λ n. IsPairs (t.outputs x) (get_or c.outputs n [])) (λ n b. All-get_or (IsPairs (t.outputs x)) c.outputs n [] (from_zero n (length c.outputs) b.1) pairs_are) outs few)

  below_count : (outs : List ℕ) → AreFrom 0 (length c.outputs) outs → All (λ n. n < length c.outputs) outs
  below_count outs few = All-weaker (λ k. (0 ≤ k) × (k < 0 + length c.outputs)) (λ n. n < length c.outputs) (λ n b. from_zero n (length c.outputs) b.1) outs few

  are_entries : (outs : List ℕ) → length outs ≡ entries x → AreFrom 0 (length c.outputs) outs → AreEntries x (sets_of c.outputs outs)
  are_entries outs count few = record { count = length-map outs (λ n. get_or c.outputs n []) ∙ count; each = sets_are outs few }

  pub tree_shaped : (l : TreeLine) → IsFormedTree l → TreeFits (sizes x) c l → IsTreeRow x (tree_of c.outputs (numbered_tree l))
  tree_shaped l is fits = record {
    ascend = is.patterns.ascending;
    patterns = All-weaker (λ k. (1 ≤ k) × (k < 1 + length x.input.elements)) (λ k. (1 ≤ k) × (k ≤ length x.input.elements)) (λ k b. let low = b.1 in (b.0, omega (arith, low))) l.patterns fits.members_fit;
    entries = are_entries l.outs fits.out_count fits.outs_fit;
    looks = record { count = fits.look_count; each = is.looks };
  }

  pub hedge_shaped : (l : HedgeLine) → IsFormedHedge l → HedgeFits (sizes x) c l → IsHedgeRow x (hedge_of c.outputs (numbered_hedge l))
  hedge_shaped l is fits = record {
    ascend = is.states.ascending;
    states = All-weaker (λ k. (0 ≤ k) × (k < 0 + state_count x.input input)) (λ k. k < state_count x.input input) (λ k b. from_zero k (state_count x.input input) b.1) l.states fits.members_fit;
    entries = are_entries l.outs fits.out_count fits.outs_fit;
    looks = record { count = fits.look_count; each = is.looks };
  }

  -- all rules hold of the rows that are meant
  pub record AreRules : Type 0 where
    pub empty : r.IsEmptyListed x (hedges_of c)
    pub text : r.IsTextListed x (trees_of c)
    pub appends : (i j : ℕ) → i < length c.hedges → j < length c.trees → r.AppendIsListed x (trees_of c) (hedges_of c) i j
    pub wraps : (i a : ℕ) → i < length c.hedges → a < symbol_count x.symbols → r.WrapIsListed x (trees_of c) (hedges_of c) i a
    pub roots : (j : ℕ) → j < length c.trees → r.RootIsGood x (trees_of c) (hedges_of c) j

  hedge_low : (i : ℕ) → i < length (hedges_of c) → i < length c.hedges
  hedge_low i low = let e = length-map c.hedges (λ l. hedge_of c.outputs (numbered_hedge l)) in omega (arith, e, low)

  tree_low : (i : ℕ) → i < length (trees_of c) → i < length c.trees
  tree_low i low = let e = length-map c.trees (λ l. tree_of c.outputs (numbered_tree l)) in omega (arith, e, low)

  module _ (rules : AreRules) where
    closed : AreClosed x (trees_of c) (hedges_of c)
    closed = record {
      empty = rules.empty;
      text = λ live u made. rules.text live u made;
      append = λ h u tree a b live made.
          let (i, low, at) = place_of (hedges_of c) h a in
          let (j, few, there) = place_of (trees_of c) tree b in
          rules.appends i j (hedge_low i low) (tree_low j few) h tree at there live u made;
      wrap = λ s h u low a live made. let (i, few, at) = place_of (hedges_of c) h a in rules.wraps i s (hedge_low i few) low h at live u made;
    }

    certified : AreCertified x (trees_of c) (hedges_of c)
    certified = record {
      tree_rows = All-map (IsTreeRow x) (λ l. tree_of c.outputs (numbered_tree l)) c.trees
          (All-weaker (λ l. IsFormedTree l × TreeFits (sizes x) c l) (λ l. IsTreeRow x (tree_of c.outputs (numbered_tree l))) (λ l b. tree_shaped l b.0 b.1) c.trees (both IsFormedTree (TreeFits (sizes x) c) c.trees formed.trees fit.trees));
      hedge_rows = All-map (IsHedgeRow x) (λ l. hedge_of c.outputs (numbered_hedge l)) c.hedges
          (All-weaker (λ l. IsFormedHedge l × HedgeFits (sizes x) c l) (λ l. IsHedgeRow x (hedge_of c.outputs (numbered_hedge l))) (λ l b. hedge_shaped l b.0 b.1) c.hedges (both IsFormedHedge (HedgeFits (sizes x) c) c.hedges formed.hedges fit.hedges));
      closed = closed;
      root = λ tree a good. let (j, low, at) = place_of (trees_of c) tree a in rules.roots j (tree_low j low) tree at good;
    }

    pub is_certificate : IsCertificateData x c
    is_certificate = record {
      outputs_fit = pairs_are;
      trees_fit = All-map (λ q. All (λ n. n < length c.outputs) q.entries) numbered_tree c.trees (All-weaker (TreeFits (sizes x) c) (λ l. All (λ n. n < length c.outputs) l.outs) (λ l b. below_count l.outs b.outs_fit) c.trees fit.trees);
      hedges_fit = All-map (λ q. All (λ n. n < length c.outputs) q.entries) numbered_hedge c.hedges (All-weaker (HedgeFits (sizes x) c) (λ l. All (λ n. n < length c.outputs) l.outs) (λ l b. below_count l.outs b.outs_fit) c.hedges fit.hedges);
      certified = subst (λ ts. AreCertified x ts (map (hedge_of c.outputs) (map numbered_hedge c.hedges))) (sym (map_twice (tree_of c.outputs) numbered_tree c.trees))
          (subst (λ hs. AreCertified x (trees_of c) hs) (sym (map_twice (hedge_of c.outputs) numbered_hedge c.hedges)) certified);
    }
