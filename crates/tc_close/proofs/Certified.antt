-- The certificate of rows that are all found is that of the triple.
use Rattle.std.proofs.Common.{◌≡◌, ◌<◌, ◌≤◌, ◌↔◌, inl, inr, ℕ, List, [], refl, sym, ap, ◌∙◌, subst, map, flat_map, length, get_or, true, All, arith}
use Rattle.std.specs.List.{Contains}
use Rattle.std.proofs.lemmas.List.{length-map, get_or-map}
use Rattle.std.proofs.lemmas.List.Elements.{All-map, All-get_or, All-from_get_or, All-weaker, Contains-get_or}
use Rattle.std.proofs.lemmas.Simd.{map-map}
use Rattle.tc_base.specs.declared.limits.TheConstants.{LONGEST_FILE}
use Rattle.tc_cert.specs.Texts.{output_text}
use Rattle.tc_cert.proofs.Apart.{one_output, one_tree as one_tree_line, one_hedge as one_hedge_line}
use Rattle.tc_model.specs.CertificateData.{IsNumber, ArePairs, IsFormedTree, IsFormedHedge, IsFormed}
use Rattle.tc_model.specs.CertificateLines.{pairs_line, tree_line, hedge_line}
use Rattle.tc_model.specs.States.{input, state_count}
use Rattle.tc_model.specs.declared.lists.CertData.{CertData}
use Rattle.tc_model.specs.declared.lists.HedgeLine.{HedgeLine}
use Rattle.tc_model.specs.declared.lists.TreeLine.{TreeLine}
use Rattle.tc_mat.specs.Matrix.{Matrix}
use Rattle.tc_rows.specs.CertificateRows.{numbered_tree, numbered_hedge}
use Rattle.tc_rows.specs.Certificates.{tree_of, hedge_of, sets_of as sets_meant}
use Rattle.tc_rows.specs.CountLaws.{IsSetIn}
use Rattle.tc_rows.specs.Counts.{IsRowOfLiveTree, IsRowOfLiveHedge, IsOutput}
use Rattle.tc_rows.specs.Derivations.{AreExact}
use Rattle.tc_rows.specs.Laws.{RowLaws}
use Rattle.tc_rows.specs.PairSets.{IsPairs}
use Rattle.tc_rows.specs.Rows.{HedgeRow, TreeRow}
use Rattle.tc_rows.specs.Triples.{Triple, IsTriple, outputs}
use Rattle.tc_rows.proofs.AllLaws.{rows_are_lawful}
use Rattle.tc_rows.proofs.Derived.{derivations_are_exact}
use Rattle.tc_beh.specs.Held.{set_at}
use Rattle.tc_beh.specs.Machines.{IsShapeOf}
use Rattle.tc_beh.specs.Outs.{sets_of}
use Rattle.tc_beh.specs.Places.{pairs_of, entries_by, no_matrix}
use Rattle.tc_beh.specs.Rooms.{Layout, hedge_layout, tree_layout, IsRoom, outputs_in}
use Rattle.tc_beh.specs.declared.machine.Shape.{Shape}
use Rattle.tc_beh.proofs.RoomIs.{outputs_count}
use Rattle.tc_beh.proofs.RoomRows.{output_is}
use Rattle.tc_settle.specs.Derived.{IsClosed, AllDerive}
use Rattle.tc_close.specs.Certified.{AreNumbersOf, IsLeastCertificate, HasLongCertificate}
use Rattle.tc_close.specs.Lines.{tree_held, hedge_held, tree_ranked, hedge_ranked, sets_at, output_lines, tree_lines, hedge_lines, IsDataBy}
use Rattle.tc_close.specs.Orders.{IsOrder, AreRanks, ranked}
use Rattle.tc_close.specs.RowState.{RowState, hedge_at, tree_at, StandsInRow, AreGood, held_of, Known}
use Rattle.tc_close.proofs.Linked.{tree_rows, hedge_rows, tree_listed, hedge_listed, tree_number, hedge_number, trees_come, hedges_come, one_tree, one_hedge, sets_different, sets_apart, in_set, set_in, made_at, made_of}
use Rattle.tc_close.proofs.LeastHolds.{entries_are}
use Rattle.tc_close.proofs.Ranked.{inside, all_there, lines_differ, ordered, row_of, row_there, each_line, many, same_mapped}
use Rattle.tc_close.proofs.Sorting.{order_of, ranks_of}
use Rattle.tc_close.proofs.TooLong.{text_is_long}

abbrev tree_meant : List (List (ℕ × ℕ)) → TreeLine → TreeRow
tree_meant sets l = tree_of sets (numbered_tree l)

abbrev hedge_meant : List (List (ℕ × ℕ)) → HedgeLine → HedgeRow
hedge_meant sets l = hedge_of sets (numbered_hedge l)

-- numbers of a room's outputs are those of sets that are held
pub outs_low : (l : Layout) (held : List Matrix) (ns : List ℕ) → IsRoom l held ns → All (λ k. k < length held) (outputs_in l.flags l.entries ns)
outs_low l held ns room =
    All-from_get_or (λ k. k < length held) (outputs_in l.flags l.entries ns) 0 (λ i low.
    let count = outputs_count l held ns room in
    let within : i < l.entries = omega (arith, count, low) in
    subst (λ k. k < length held) (sym (output_is l.flags l.entries ns i within)) (room.outs i within))

-- numbers by their ranks, where sets stand in the order of these, mean the same sets
module _ (s : RowState) (numbers ranks : List ℕ) (are : AreRanks numbers ranks) (there : (k : ℕ) → k < length s.outputs.matrices → Contains numbers k) where
  abbrev sets : List (List (ℕ × ℕ))
  sets = sets_at s numbers

  rank_low : (k : ℕ) → k < length s.outputs.matrices → get_or ranks k 0 < length sets
  rank_low k l = subst (λ n. get_or ranks k 0 < n) (sym (length-map numbers (λ n. pairs_of (set_at s.outputs n)))) (are k (there k l)).0

  same_set : (k : ℕ) → k < length s.outputs.matrices → get_or sets (get_or ranks k 0) [] ≡ pairs_of (set_at s.outputs k)
  same_set k l =
      let (low, at) = are k (there k l) in
      get_or-map (λ n. pairs_of (set_at s.outputs n)) numbers (get_or ranks k 0) 0 [] low ∙ ap (λ n. pairs_of (set_at s.outputs n)) at

  same_sets : (ks : List ℕ) → All (λ k. k < length s.outputs.matrices) ks → sets_meant sets (ranked ranks ks) ≡ entries_by s.outputs.matrices ks
  same_sets ks low =
      map-map (λ n. get_or sets n []) (λ k. get_or ranks k 0) ks ∙ same_mapped (λ k. get_or sets (get_or ranks k 0) []) (λ k. pairs_of (get_or s.outputs.matrices k no_matrix)) (λ k. k < length s.outputs.matrices) same_set ks low

  ranks_low : (ks : List ℕ) → All (λ k. k < length s.outputs.matrices) ks → AreNumbersOf sets (ranked ranks ks)
  ranks_low ks low = All-map (λ n. n < length sets) (λ k. get_or ranks k 0) ks (All-weaker (λ k. k < length s.outputs.matrices) (λ k. get_or ranks k 0 < length sets) rank_low ks low)

module _ (x : Triple) (s : RowState) (IsOf : Triple → Type 0) (is : IsOf x) (known : Known IsOf s) (shape : Shape) (shaped : IsShapeOf x shape) (fits : (shape.inputs < 4294967296) × (shape.outputs < 4294967296) × (shape.patterns < 4294967296))
    (closed : IsClosed (held_of IsOf s)) (all : AllDerive (held_of IsOf s)) (whole : s.is_whole ≡ true) (few_trees : length s.trees ≤ 4000) (few_hedges : length s.hedges ≤ 4000) where
  triple : IsTriple x
  triple = known.triples x is

  laws : RowLaws x
  laws = rows_are_lawful x triple

  exact : AreExact x
  exact = derivations_are_exact x triple

  good : AreGood x s
  good = known.good x is

  abbrev held : List Matrix
  held = s.outputs.matrices

  -- the rows that are held are those of live trees
  tree_live : (r : TreeRow) → Contains (tree_rows x s) r → IsRowOfLiveTree x r
  tree_live r c =
      let (n, d) = trees_come x s IsOf is known all r c in
      let (t, live, row, count) = (exact.trees r n).0 d in
      (t, live, row)

  live_tree : (r : TreeRow) → IsRowOfLiveTree x r → (p : ℕ) × (p < length s.trees) × (tree_at x s p ≡ r)
  live_tree r (t, live, row) = let (u, l, e, d) = tree_number x s IsOf is known laws closed ((exact.trees r _).1 (t, live, row, refl)) in (u, l, e)

  hedge_live : (r : HedgeRow) → Contains (hedge_rows x s) r → IsRowOfLiveHedge x r
  hedge_live r c =
      let (n, d) = hedges_come x s IsOf is known all r c in
      let (t, live, row, count) = (exact.hedges r n).0 d in
      (t, live, row)

  live_hedge : (r : HedgeRow) → IsRowOfLiveHedge x r → (p : ℕ) × (p < length s.hedges) × (hedge_at x s p ≡ r)
  live_hedge r (t, live, row) = let (u, l, e, d) = hedge_number x s IsOf is known laws closed ((exact.hedges r _).1 (t, live, row, refl)) in (u, l, e)

  -- and the sets of pairs are those in them
  output_of : (pairs : List (ℕ × ℕ)) → Contains (sets_of held) pairs → IsOutput x pairs
  output_of pairs c = by (set_in x s IsOf is known whole pairs c)
    where
      by : IsSetIn (tree_rows x s) (hedge_rows x s) pairs → IsOutput x pairs
      by (inl (r, there, e)) = inl (r, tree_live r there, e)
      by (inr (r, there, e)) = inr (r, hedge_live r there, e)

  output_held : (pairs : List (ℕ × ℕ)) → IsOutput x pairs → Contains (sets_of held) pairs
  output_held pairs (inl (r, live, e)) =
      let (p, l, same) = live_tree r live in in_set x s IsOf is known pairs (inl (tree_at x s p, tree_listed x s p l, subst (λ (q : TreeRow). Contains q.entries pairs) (sym same) e))
  output_held pairs (inr (r, live, e)) =
      let (p, l, same) = live_hedge r live in in_set x s IsOf is known pairs (inr (hedge_at x s p, hedge_listed x s p l, subst (λ (q : HedgeRow). Contains q.entries pairs) (sym same) e))

  -- a set of pairs that is held is formed
  set_pairs : (k : ℕ) → k < length held → IsPairs (outputs x) (pairs_of (set_at s.outputs k))
  set_pairs k l = by (good.stood whole k l)
    where
      by : StandsInRow x s (pairs_of (set_at s.outputs k)) → IsPairs (outputs x) (pairs_of (set_at s.outputs k))
      by (inl (u, low, c)) = entries_are (outputs x) (hedge_at x s u).entries (pairs_of (set_at s.outputs k)) (good.hedges u low).row.entries.each c
      by (inr (u, low, c)) = entries_are (outputs x) (tree_at x s u).entries (pairs_of (set_at s.outputs k)) (good.trees u low).row.entries.each c

  small : (i : ℕ) → i < outputs x → IsNumber i
  small i l = let e = shaped.output_states in let f = fits.1 in omega (arith, l, e, f)

  set_formed : (k : ℕ) → k < length held → ArePairs (pairs_of (set_at s.outputs k))
  set_formed k l =
      let pairs : List (ℕ × ℕ) = pairs_of (set_at s.outputs k) in
      let p = set_pairs k l in
      record {
        ascending = p.ascend;
        numbers = All-from_get_or (λ q. IsNumber q.0 × IsNumber q.1) pairs (0, 0) (λ i low.
            let q : ℕ × ℕ = get_or pairs i (0, 0) in
            let there : Contains pairs (q.0, q.1) = Contains-get_or pairs i (0, 0) low in
            let w = p.within q.0 q.1 there in
            (small q.0 w.0, small q.1 w.1));
      }

  sets_one : (p q : ℕ) → p < length held → q < length held → pairs_line (pairs_of (set_at s.outputs p)) ≡ pairs_line (pairs_of (set_at s.outputs q)) → p ≡ q
  sets_one p q l m e = sets_apart held known.outputs p q l m (one_output (pairs_of (set_at s.outputs p)) (pairs_of (set_at s.outputs q)) (set_formed p l) (set_formed q m) e)

  module _ (numbers : List ℕ) (order : IsOrder (output_lines s) numbers) (ranks : List ℕ) (are : AreRanks numbers ranks) where
    abbrev sets_there : List (List (ℕ × ℕ))
    sets_there = sets_at s numbers

    abbrev set_of : ℕ → List (ℕ × ℕ)
    set_of k = pairs_of (set_at s.outputs k)

    there : (k : ℕ) → k < length held → Contains numbers k
    there = all_there pairs_line (λ ps. ps) set_of set_of (length held) numbers order

    set_count : length sets_there ≡ length held
    set_count = many pairs_line (λ ps. ps) set_of set_of (length held) numbers order

    tree_means : (p : ℕ) → p < length s.trees → tree_meant sets_there (tree_ranked x s ranks p) ≡ tree_at x s p
    tree_means p l =
        let same : sets_meant sets_there (ranked ranks (tree_held x s p).outs) ≡ entries_by held (tree_held x s p).outs =
        same_sets s numbers ranks are there (tree_held x s p).outs (outs_low (tree_layout x) held (get_or s.trees p []) (good.trees p l).room) in
        ap (λ es. record { is_text = (tree_held x s p).text; bears = (tree_held x s p).bears; patterns = (tree_held x s p).patterns; entries = es; looks = (tree_held x s p).looks }) same

    hedge_means : (p : ℕ) → p < length s.hedges → hedge_meant sets_there (hedge_ranked x s ranks p) ≡ hedge_at x s p
    hedge_means p l =
        let same : sets_meant sets_there (ranked ranks (hedge_held x s p).outs) ≡ entries_by held (hedge_held x s p).outs =
        same_sets s numbers ranks are there (hedge_held x s p).outs (outs_low (hedge_layout x) held (get_or s.hedges p []) (good.hedges p l).room) in
        ap (λ es. record { ends = (hedge_held x s p).ends; bears = (hedge_held x s p).bears; states = (hedge_held x s p).states; entries = es; looks = (hedge_held x s p).looks }) same

    -- numbers of outputs
    rank_numbers : (ks : List ℕ) → All (λ k. k < length held) ks → AreNumbersOf sets_there (ranked ranks ks)
    rank_numbers ks low = ranks_low s numbers ranks are there ks low

    rank_small : (ks : List ℕ) → All (λ k. k < length held) ks → All IsNumber (ranked ranks ks)
    rank_small ks low = All-weaker (λ n. n < length sets_there) IsNumber (λ n l. let few = known.few in let c = set_count in omega (arith, l, few, c)) (ranked ranks ks) (rank_numbers ks low)

    tree_formed : (p : ℕ) → p < length s.trees → IsFormedTree (tree_ranked x s ranks p)
    tree_formed p l =
        let g = good.trees p l in
        record {
          patterns = record { ascending = g.row.ascend; numbers = All-weaker (λ k. (1 ≤ k) × (k ≤ length x.input.elements)) IsNumber (λ k m. let e = shaped.input_patterns in let f = fits.2 in let h = m.1 in omega (arith, h, e, f)) (tree_held x s p).patterns g.row.patterns };
          outs = rank_small (tree_held x s p).outs (outs_low (tree_layout x) held (get_or s.trees p []) g.room);
          looks = g.row.looks.each;
        }

    hedge_formed : (p : ℕ) → p < length s.hedges → IsFormedHedge (hedge_ranked x s ranks p)
    hedge_formed p l =
        let g = good.hedges p l in
        record {
          states = record { ascending = g.row.ascend; numbers = All-weaker (λ k. k < state_count x.input input) IsNumber (λ k m. let e = shaped.input_states in let f = fits.0 in omega (arith, m, e, f)) (hedge_held x s p).states g.row.states };
          outs = rank_small (hedge_held x s p).outs (outs_low (hedge_layout x) held (get_or s.hedges p []) g.room);
          looks = g.row.looks.each;
        }

    trees_one : (p q : ℕ) → p < length s.trees → q < length s.trees → tree_line (tree_ranked x s ranks p) ≡ tree_line (tree_ranked x s ranks q) → p ≡ q
    trees_one p q l m e =
        let same : tree_ranked x s ranks p ≡ tree_ranked x s ranks q = one_tree_line (tree_ranked x s ranks p) (tree_ranked x s ranks q) (tree_formed p l) (tree_formed q m) e in
        one_tree x s IsOf is known p q l m (sym (tree_means p l) ∙ (ap (tree_meant sets_there) same ∙ tree_means q m))

    hedges_one : (p q : ℕ) → p < length s.hedges → q < length s.hedges → hedge_line (hedge_ranked x s ranks p) ≡ hedge_line (hedge_ranked x s ranks q) → p ≡ q
    hedges_one p q l m e =
        let same : hedge_ranked x s ranks p ≡ hedge_ranked x s ranks q = one_hedge_line (hedge_ranked x s ranks p) (hedge_ranked x s ranks q) (hedge_formed p l) (hedge_formed q m) e in
        one_hedge x s IsOf is known p q l m (sym (hedge_means p l) ∙ (ap (hedge_meant sets_there) same ∙ hedge_means q m))

    module _ (ts : List ℕ) (tree_order : IsOrder (tree_lines x s ranks) ts) (hs : List ℕ) (hedge_order : IsOrder (hedge_lines x s ranks) hs) where
      abbrev data_of : CertData
      data_of = record { outputs = sets_there; trees = map (tree_ranked x s ranks) ts; hedges = map (hedge_ranked x s ranks) hs }

      formed : IsFormed data_of
      formed = record {
        few_outputs = let few = known.few in let c = set_count in omega (arith, few, c);
        few_trees = let c = many tree_line (tree_meant sets_there) (tree_ranked x s ranks) (tree_at x s) (length s.trees) ts tree_order in omega (arith, c, few_trees);
        few_hedges = let c = many hedge_line (hedge_meant sets_there) (hedge_ranked x s ranks) (hedge_at x s) (length s.hedges) hs hedge_order in omega (arith, c, few_hedges);
        outputs = each_line pairs_line (λ ps. ps) set_of set_of (length held) numbers order ArePairs set_formed;
        trees = each_line tree_line (tree_meant sets_there) (tree_ranked x s ranks) (tree_at x s) (length s.trees) ts tree_order IsFormedTree tree_formed;
        hedges = each_line hedge_line (hedge_meant sets_there) (hedge_ranked x s ranks) (hedge_at x s) (length s.hedges) hs hedge_order IsFormedHedge hedge_formed;
        outputs_ordered = ordered pairs_line (λ ps. ps) set_of set_of (length held) numbers order sets_one;
        trees_ordered = ordered tree_line (tree_meant sets_there) (tree_ranked x s ranks) (tree_at x s) (length s.trees) ts tree_order trees_one;
        hedges_ordered = ordered hedge_line (hedge_meant sets_there) (hedge_ranked x s ranks) (hedge_at x s) (length s.hedges) hs hedge_order hedges_one;
      }

      outputs_are : (pairs : List (ℕ × ℕ)) → Contains sets_there pairs ↔ IsOutput x pairs
      outputs_are pairs = (
        λ c. let (i, l, e) = made_of set_of numbers 0 pairs c in
            let low : get_or numbers i 0 < length held = All-get_or (λ k. k < length held) numbers i 0 l (inside pairs_line (λ ps. ps) set_of set_of (length held) numbers order) in
            output_of pairs (subst (Contains (sets_of held)) e (made_at pairs_of held no_matrix (get_or numbers i 0) low)),
        λ o. let (k, low, e) = made_of pairs_of held no_matrix pairs (output_held pairs o) in
            let (i, l, at) = there k low in
            subst (Contains sets_there) (ap set_of at ∙ e) (made_at set_of numbers k i l),
      )

      trees_are : (r : TreeRow) → Contains (map (tree_meant sets_there) (map (tree_ranked x s ranks) ts)) r ↔ IsRowOfLiveTree x r
      trees_are r = (
        λ c. let (p, l, e) = row_of tree_line (tree_meant sets_there) (tree_ranked x s ranks) (tree_at x s) (length s.trees) ts tree_order tree_means r c in
            subst (IsRowOfLiveTree x) e (tree_live (tree_at x s p) (tree_listed x s p l)),
        λ live. let (p, l, e) = live_tree r live in
            row_there tree_line (tree_meant sets_there) (tree_ranked x s ranks) (tree_at x s) (length s.trees) ts tree_order tree_means r p l e,
      )

      hedges_are : (r : HedgeRow) → Contains (map (hedge_meant sets_there) (map (hedge_ranked x s ranks) hs)) r ↔ IsRowOfLiveHedge x r
      hedges_are r = (
        λ c. let (p, l, e) = row_of hedge_line (hedge_meant sets_there) (hedge_ranked x s ranks) (hedge_at x s) (length s.hedges) hs hedge_order hedge_means r c in
            subst (IsRowOfLiveHedge x) e (hedge_live (hedge_at x s p) (hedge_listed x s p l)),
        λ live. let (p, l, e) = live_hedge r live in
            row_there hedge_line (hedge_meant sets_there) (hedge_ranked x s ranks) (hedge_at x s) (length s.hedges) hs hedge_order hedge_means r p l e,
      )

      is_least : IsLeastCertificate x data_of
      is_least = record {
        formed = formed;
        outputs = outputs_are;
        trees = trees_are;
        hedges = hedges_are;
        tree_numbers = each_line tree_line (tree_meant sets_there) (tree_ranked x s ranks) (tree_at x s) (length s.trees) ts tree_order (λ l. AreNumbersOf sets_there l.outs) (λ p l. rank_numbers (tree_held x s p).outs (outs_low (tree_layout x) held (get_or s.trees p []) (good.trees p l).room));
        hedge_numbers = each_line hedge_line (hedge_meant sets_there) (hedge_ranked x s ranks) (hedge_at x s) (length s.hedges) hs hedge_order (λ l. AreNumbersOf sets_there l.outs) (λ p l. rank_numbers (hedge_held x s p).outs (outs_low (hedge_layout x) held (get_or s.hedges p []) (good.hedges p l).room));
      }

  pub least_certificate : (numbers : List ℕ) → IsOrder (output_lines s) numbers → (d : CertData) → IsDataBy x s numbers d → IsLeastCertificate x d
  least_certificate numbers order d by =
      let same : data_of numbers order by.ranks by.are by.trees.numbers by.trees.order by.hedges.numbers by.hedges.order ≡ d =
      λ i. record { outputs = sym by.outputs i; trees = sym by.trees.all i; hedges = sym by.hedges.all i } in
      subst (IsLeastCertificate x) same (is_least numbers order by.ranks by.are by.trees.numbers by.trees.order by.hedges.numbers by.hedges.order)

  -- and there is one
  pub there_is : (d : CertData) × IsLeastCertificate x d
  there_is =
      let (numbers, order) = order_of (output_lines s) (lines_differ pairs_line (λ k. pairs_of (set_at s.outputs k)) (length held) sets_one) in
      let (ranks, are) = ranks_of (output_lines s) numbers order in
      let (ts, tree_order) = order_of (tree_lines x s ranks) (lines_differ tree_line (tree_ranked x s ranks) (length s.trees) (trees_one numbers order ranks are)) in
      let (hs, hedge_order) = order_of (hedge_lines x s ranks) (lines_differ hedge_line (hedge_ranked x s ranks) (length s.hedges) (hedges_one numbers order ranks are)) in
      (data_of numbers order ranks are ts tree_order hs hedge_order, is_least numbers order ranks are ts tree_order hs hedge_order)

  -- which is too long where the lines of all sets are
  pub long_certificate : LONGEST_FILE < length (flat_map output_text (sets_of held)) → HasLongCertificate x
  long_certificate more = let (d, least) = there_is in (d, least, text_is_long x d least (sets_of held) (sets_different x s IsOf is known) output_of more)
