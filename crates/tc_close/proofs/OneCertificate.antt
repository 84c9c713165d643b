-- A triple has one least certificate, and triples of the same schemas and stylesheet have the same one.
use Rattle.std.proofs.Common.{◌≡◌, ◌<◌, ℕ, List, [], sym, ap, ◌∙◌, subst, map, length, get_or}
use Rattle.std.specs.List.{Contains}
use Rattle.std.proofs.lemmas.List.Elements.{All-get_or}
use Rattle.tc_cert.proofs.Apart.{one_output, one_tree, one_hedge}
use Rattle.tc_model.specs.CertificateData.{ArePairs, IsFormedTree, IsFormedHedge}
use Rattle.tc_model.specs.CertificateLines.{pairs_line, tree_line, hedge_line}
use Rattle.tc_model.specs.declared.lists.CertData.{CertData}
use Rattle.tc_model.specs.declared.lists.HedgeLine.{HedgeLine}
use Rattle.tc_model.specs.declared.lists.TreeLine.{TreeLine}
use Rattle.tc_rows.specs.CertificateRows.{numbered_tree, numbered_hedge}
use Rattle.tc_rows.specs.Certificates.{tree_of, hedge_of, sets_of}
use Rattle.tc_rows.specs.Rows.{HedgeRow, TreeRow}
use Rattle.tc_rows.specs.Triples.{Triple}
use Rattle.tc_close.specs.Certified.{AreNumbersOf, IsLeastCertificate}
use Rattle.tc_close.specs.Triples.{Agree}
use Rattle.tc_close.proofs.Alike.{unmapped, one_list, places_one}
use Rattle.tc_close.proofs.Linked.{made_at, made_of}

abbrev tree_meant : List (List (ℕ × ℕ)) → TreeLine → TreeRow
tree_meant outputs l = tree_of outputs (numbered_tree l)

abbrev hedge_meant : List (List (ℕ × ℕ)) → HedgeLine → HedgeRow
hedge_meant outputs l = hedge_of outputs (numbered_hedge l)

-- over different outputs rows have one line
module _ (outputs : List (List (ℕ × ℕ))) (apart : (i j : ℕ) → i < length outputs → j < length outputs → get_or outputs i [] ≡ get_or outputs j [] → i ≡ j) where
  same_numbers : (ms ns : List ℕ) → AreNumbersOf outputs ms → AreNumbersOf outputs ns → sets_of outputs ms ≡ sets_of outputs ns → ms ≡ ns
  same_numbers ms ns p q e = unmapped (λ n. get_or outputs n []) (λ n. n < length outputs) apart ms ns p q e

  tree_one : (l m : TreeLine) → AreNumbersOf outputs l.outs → AreNumbersOf outputs m.outs → tree_meant outputs l ≡ tree_meant outputs m → l ≡ m
  tree_one l m p q e =
      let outs : l.outs ≡ m.outs = same_numbers l.outs m.outs p q (ap (λ r. r.entries) e) in
      let texts : l.text ≡ m.text = ap (λ r. r.is_text) e in
      let bears : l.bears ≡ m.bears = ap (λ r. r.bears) e in
      let patterns : l.patterns ≡ m.patterns = ap (λ r. r.patterns) e in
      let looks : l.looks ≡ m.looks = ap (λ r. r.looks) e in
      λ i. record { text = texts i; bears = bears i; patterns = patterns i; outs = outs i; looks = looks i }

  hedge_one : (l m : HedgeLine) → AreNumbersOf outputs l.outs → AreNumbersOf outputs m.outs → hedge_meant outputs l ≡ hedge_meant outputs m → l ≡ m
  hedge_one l m p q e =
      let outs : l.outs ≡ m.outs = same_numbers l.outs m.outs p q (ap (λ r. r.entries) e) in
      let ends : l.ends ≡ m.ends = ap (λ r. r.ends) e in
      let bears : l.bears ≡ m.bears = ap (λ r. r.bears) e in
      let states : l.states ≡ m.states = ap (λ r. r.states) e in
      let looks : l.looks ≡ m.looks = ap (λ r. r.looks) e in
      λ i. record { ends = ends i; bears = bears i; states = states i; outs = outs i; looks = looks i }

module _ (x y : Triple) (agree : Agree x y) (d e : CertData) (one : IsLeastCertificate x d) (other : IsLeastCertificate y e) where
  same_outputs : d.outputs ≡ e.outputs
  same_outputs =
      one_list pairs_line ArePairs one_output d.outputs e.outputs one.formed.outputs other.formed.outputs one.formed.outputs_ordered other.formed.outputs_ordered
      (λ ps c. (other.outputs ps).1 ((agree.outputs.each ps).0 ((one.outputs ps).0 c)))
      (λ ps c. (one.outputs ps).1 ((agree.outputs.each ps).1 ((other.outputs ps).0 c)))

  apart_in : (i j : ℕ) → i < length d.outputs → j < length d.outputs → get_or d.outputs i [] ≡ get_or d.outputs j [] → i ≡ j
  apart_in = places_one pairs_line ArePairs one_output d.outputs [] one.formed.outputs_ordered

  -- numbers and rows over the same outputs
  numbers_in : (ns : List ℕ) → AreNumbersOf e.outputs ns → AreNumbersOf d.outputs ns
  numbers_in ns p = subst (λ (os : List (List (ℕ × ℕ))). AreNumbersOf os ns) (sym same_outputs) p

  tree_over : (l : TreeLine) → tree_meant e.outputs l ≡ tree_meant d.outputs l
  tree_over l = ap (λ (os : List (List (ℕ × ℕ))). tree_meant os l) (sym same_outputs)

  hedge_over : (l : HedgeLine) → hedge_meant e.outputs l ≡ hedge_meant d.outputs l
  hedge_over l = ap (λ (os : List (List (ℕ × ℕ))). hedge_meant os l) (sym same_outputs)

  tree_to : (l : TreeLine) → Contains d.trees l → Contains e.trees l
  tree_to l (i, low, at) =
      let r : TreeRow = tree_meant d.outputs l in
      let there : Contains (map (tree_meant d.outputs) d.trees) r = subst (Contains (map (tree_meant d.outputs) d.trees)) (ap (tree_meant d.outputs) at) (made_at (tree_meant d.outputs) d.trees l i low) in
      let (k, high, same) = made_of (tree_meant e.outputs) e.trees l r ((other.trees r).1 ((agree.live_trees.each r).0 ((one.trees r).0 there))) in
      let m : TreeLine = get_or e.trees k l in
      let fit_l : AreNumbersOf d.outputs l.outs = subst (λ (w : TreeLine). AreNumbersOf d.outputs w.outs) at (All-get_or (λ w. AreNumbersOf d.outputs w.outs) d.trees i l low one.tree_numbers) in
      let fit_m : AreNumbersOf d.outputs m.outs = numbers_in m.outs (All-get_or (λ w. AreNumbersOf e.outputs w.outs) e.trees k l high other.tree_numbers) in
      (k, high, tree_one d.outputs apart_in m l fit_m fit_l (sym (tree_over m) ∙ same))

  tree_back : (l : TreeLine) → Contains e.trees l → Contains d.trees l
  tree_back l (i, low, at) =
      let r : TreeRow = tree_meant e.outputs l in
      let there : Contains (map (tree_meant e.outputs) e.trees) r = subst (Contains (map (tree_meant e.outputs) e.trees)) (ap (tree_meant e.outputs) at) (made_at (tree_meant e.outputs) e.trees l i low) in
      let (k, high, same) = made_of (tree_meant d.outputs) d.trees l r ((one.trees r).1 ((agree.live_trees.each r).1 ((other.trees r).0 there))) in
      let m : TreeLine = get_or d.trees k l in
      let fit_l : AreNumbersOf d.outputs l.outs = numbers_in l.outs (subst (λ (w : TreeLine). AreNumbersOf e.outputs w.outs) at (All-get_or (λ w. AreNumbersOf e.outputs w.outs) e.trees i l low other.tree_numbers)) in
      let fit_m : AreNumbersOf d.outputs m.outs = All-get_or (λ w. AreNumbersOf d.outputs w.outs) d.trees k l high one.tree_numbers in
      (k, high, tree_one d.outputs apart_in m l fit_m fit_l (same ∙ tree_over l))

  hedge_to : (l : HedgeLine) → Contains d.hedges l → Contains e.hedges l
  hedge_to l (i, low, at) =
      let r : HedgeRow = hedge_meant d.outputs l in
      let there : Contains (map (hedge_meant d.outputs) d.hedges) r = subst (Contains (map (hedge_meant d.outputs) d.hedges)) (ap (hedge_meant d.outputs) at) (made_at (hedge_meant d.outputs) d.hedges l i low) in
      let (k, high, same) = made_of (hedge_meant e.outputs) e.hedges l r ((other.hedges r).1 ((agree.live_hedges.each r).0 ((one.hedges r).0 there))) in
      let m : HedgeLine = get_or e.hedges k l in
      let fit_l : AreNumbersOf d.outputs l.outs = subst (λ (w : HedgeLine). AreNumbersOf d.outputs w.outs) at (All-get_or (λ w. AreNumbersOf d.outputs w.outs) d.hedges i l low one.hedge_numbers) in
      let fit_m : AreNumbersOf d.outputs m.outs = numbers_in m.outs (All-get_or (λ w. AreNumbersOf e.outputs w.outs) e.hedges k l high other.hedge_numbers) in
      (k, high, hedge_one d.outputs apart_in m l fit_m fit_l (sym (hedge_over m) ∙ same))

  hedge_back : (l : HedgeLine) → Contains e.hedges l → Contains d.hedges l
  hedge_back l (i, low, at) =
      let r : HedgeRow = hedge_meant e.outputs l in
      let there : Contains (map (hedge_meant e.outputs) e.hedges) r = subst (Contains (map (hedge_meant e.outputs) e.hedges)) (ap (hedge_meant e.outputs) at) (made_at (hedge_meant e.outputs) e.hedges l i low) in
      let (k, high, same) = made_of (hedge_meant d.outputs) d.hedges l r ((one.hedges r).1 ((agree.live_hedges.each r).1 ((other.hedges r).0 there))) in
      let m : HedgeLine = get_or d.hedges k l in
      let fit_l : AreNumbersOf d.outputs l.outs = numbers_in l.outs (subst (λ (w : HedgeLine). AreNumbersOf e.outputs w.outs) at (All-get_or (λ w. AreNumbersOf e.outputs w.outs) e.hedges i l low other.hedge_numbers)) in
      let fit_m : AreNumbersOf d.outputs m.outs = All-get_or (λ w. AreNumbersOf d.outputs w.outs) d.hedges k l high one.hedge_numbers in
      (k, high, hedge_one d.outputs apart_in m l fit_m fit_l (same ∙ hedge_over l))

  pub one_certificate : d ≡ e
  one_certificate =
      let trees : d.trees ≡ e.trees = one_list tree_line IsFormedTree one_tree d.trees e.trees one.formed.trees other.formed.trees one.formed.trees_ordered other.formed.trees_ordered tree_to tree_back in
      let hedges : d.hedges ≡ e.hedges = one_list hedge_line IsFormedHedge one_hedge d.hedges e.hedges one.formed.hedges other.formed.hedges one.formed.hedges_ordered other.formed.hedges_ordered hedge_to hedge_back in
      λ i. record { outputs = same_outputs i; trees = trees i; hedges = hedges i }
