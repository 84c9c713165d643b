-- What was read and told of lines so far.
use Rattle.std.proofs.Common.{◌≡◌, ◌<◌, ◌+◌, ℕ, Bool, true, List, [], ◌∷◌, ◌++◌, length, map, length-append, Option, Some, None, MatchOption, IfSome, refl, sym, subst, ◌∙◌, arith}
use Rattle.std.specs.Borrow.{Bor}
use Rattle.std.specs.Option.{option_map, option_copied}
use Rattle.std.proofs.lemmas.List.{map-append, length-map}
use Rattle.tc_model.specs.declared.lists.TreeLine.{TreeLine}
use Rattle.tc_model.specs.CertificateLines.{pairs_line}
use Rattle.tc_model.specs.CertificateData.{ArePairs}
use Rattle.tc_model.specs.CertificateFits.{Sizes, PairsFit}
use Rattle.tc_cert.specs.Fields.{Fields, IsBehind, last_of, tree_of, hedge_of}
use Rattle.tc_cert.specs.Fits.{Told, told_with, data_of, RowFitsIn, rows_front, rows_data}
use Rattle.tc_cert.specs.Fronts.{in_outputs, in_trees, in_hedges}
use Rattle.tc_cert.specs.Readings.{IsUnread}
use Rattle.tc_cert.specs.Standing.{Passes, Stands, IsNextFault}
use Rattle.tc_cert.specs.Texts.{Version}
use Rattle.tc_cert.specs.declared.cursor.Reader.{Reader}
use Rattle.tc_cert.specs.declared.faults.CertFault.{CertFault}
use Rattle.tc_cert.specs.declared.rows.Kind.{Kind}
use Rattle.tc_cert.specs.declared.rows.Kind.TheVariants.{Tree, Hedge}
use Rattle.tc_cert.proofs.RowLines.{of_tree, of_hedge}
use Rattle.tc_cert.proofs.Sorted.{last_snoc}
use Rattle.tc_cert.proofs.FitLines.{output_told, row_told, place_of}
use Rattle.tc_cert.proofs.ReadLines.{ARow, PassesRow, output_on, tree_on, hedge_on, tree_fault, hedge_fault}

pub record OutputsSoFar (v : Version) (bytes : List ℕ) (s : Sizes) (count done : ℕ) (before : Option (List (ℕ × ℕ))) (told : Option ℕ) (r : Reader) : Type 0 where
  pub outputs : List (List (ℕ × ℕ))
  pub long : length outputs ≡ done
  pub last : last_of outputs ≡ before
  pub stands : Stands v bytes (in_outputs v count outputs) r
  pub told_of : Told s (data_of outputs [] []) told

pub record RowsSoFar (k : Kind) (v : Version) (bytes : List ℕ) (s : Sizes) (os : List (List (ℕ × ℕ))) (ts : List TreeLine) (count done : ℕ) (before : Option Fields) (told : Option ℕ) (r : Reader) : Type 0 where
  pub rows : List Fields
  pub long : length rows ≡ done
  pub last : last_of rows ≡ before
  pub stands : Stands v bytes (rows_front k v os ts count rows) r
  pub told_of : Told s (rows_data k os ts rows) told

-- what is lent of the output before
pub lent : (os : List (List (ℕ × ℕ))) (before : Option (List (ℕ × ℕ))) (r : Option (Bor (List (ℕ × ℕ)))) → last_of os ≡ before → option_copied r ≡ before → MatchOption r (last_of os ≡ None) (λ b. last_of os ≡ Some b.now)
lent os before None e d = e ∙ sym d
lent os before (Some b) e d = e ∙ sym d

pub lent_formed : (before : Option (List (ℕ × ℕ))) (r : Option (Bor (List (ℕ × ℕ)))) → option_copied r ≡ before → IfSome before ArePairs → IfSome r (λ b. ArePairs b.now)
lent_formed before None d h = tt
lent_formed before (Some b) d h = subst (λ o. IfSome o ArePairs) (sym d) h

pub outputs_more : (v : Version) (bytes : List ℕ) (s : Sizes) (count done : ℕ) (before : Option (List (ℕ × ℕ))) (told : Option ℕ) (old new : Reader) (ps : List (ℕ × ℕ)) (fits : Bool) (line : ℕ)
    → (o : OutputsSoFar v bytes s count done before told old) → done < count → ArePairs ps → IsBehind pairs_line (last_of o.outputs) ps → Passes (pairs_line ps) old new
    → ((fits ≡ true → PairsFit s.output_states ps) × (PairsFit s.output_states ps → fits ≡ true)) → line ≡ new.lines → OutputsSoFar v bytes s count (done + 1) (Some ps) (told_with told fits line) new
outputs_more v bytes s count done before told old new ps fits line o few formed behind p h e =
    let on : Stands v bytes (in_outputs v count (o.outputs ++ ps ∷ [])) new = output_on v bytes count o.outputs ps old new (omega (arith, few, o.long)) o.stands formed behind p in
    let place : 3 + length o.outputs ≡ line = omega (arith, e, on.lines, length-append o.outputs (ps ∷ [])) in
    record {
      outputs = o.outputs ++ ps ∷ [];
      long = omega (arith, o.long, length-append o.outputs (ps ∷ []));
      last = last_snoc o.outputs ps;
      stands = on;
      told_of = subst (λ n. Told s (data_of (o.outputs ++ ps ∷ []) [] []) (told_with told fits n)) place (output_told s o.outputs ps told fits h o.told_of);
    }

trees_last : (rows : List Fields) → option_map of_tree (last_of (map tree_of rows)) ≡ last_of rows
trees_last [] = refl
trees_last (x ∷ []) = refl
trees_last (x ∷ (y ∷ ys)) = trees_last (y ∷ ys)

hedges_last : (rows : List Fields) → option_map of_hedge (last_of (map hedge_of rows)) ≡ last_of rows
hedges_last [] = refl
hedges_last (x ∷ []) = refl
hedges_last (x ∷ (y ∷ ys)) = hedges_last (y ∷ ys)

rows_on : (k : Kind) (v : Version) (bytes : List ℕ) (os : List (List (ℕ × ℕ))) (ts : List TreeLine) (count : ℕ) (rows : List Fields) (f : Fields) (old new : Reader) → length rows < count → Stands v bytes (rows_front k v os ts count rows) old
    → PassesRow v k (last_of rows) f old new → Stands v bytes (rows_front k v os ts count (rows ++ f ∷ [])) new
rows_on Tree v bytes os ts count rows f old new few s p =
    subst (λ xs. Stands v bytes (in_trees v os count xs) new) (sym (map-append tree_of rows (f ∷ [])))
    (tree_on v bytes os count (map tree_of rows) f old new (omega (arith, few, length-map rows tree_of)) s (subst (λ o. PassesRow v Tree o f old new) (sym (trees_last rows)) p))
rows_on Hedge v bytes os ts count rows f old new few s p =
    subst (λ xs. Stands v bytes (in_hedges v os ts count xs) new) (sym (map-append hedge_of rows (f ∷ [])))
    (hedge_on v bytes os ts count (map hedge_of rows) f old new (omega (arith, few, length-map rows hedge_of)) s (subst (λ o. PassesRow v Hedge o f old new) (sym (hedges_last rows)) p))

rows_place : (k : Kind) (v : Version) (bytes : List ℕ) (os : List (List (ℕ × ℕ))) (ts : List TreeLine) (count : ℕ) (rows : List Fields) (f : Fields) (r : Reader) → Stands v bytes (rows_front k v os ts count (rows ++ f ∷ [])) r → place_of k os ts rows ≡ r.lines
rows_place Tree v bytes os ts count rows f r s = omega (arith, s.lines, length-map (rows ++ f ∷ []) tree_of, length-append rows (f ∷ []))
rows_place Hedge v bytes os ts count rows f r s = omega (arith, s.lines, length-map (rows ++ f ∷ []) hedge_of, length-append rows (f ∷ []))

pub rows_more : (k : Kind) (v : Version) (bytes : List ℕ) (s : Sizes) (os : List (List (ℕ × ℕ))) (ts : List TreeLine) (count done : ℕ) (before : Option Fields) (told : Option ℕ) (old new : Reader) (f : Fields) (fits : Bool) (line : ℕ)
    → (o : RowsSoFar k v bytes s os ts count done before told old) → done < count → PassesRow v k before f old new
    → ((fits ≡ true → RowFitsIn s (length os) k f) × (RowFitsIn s (length os) k f → fits ≡ true)) → line ≡ new.lines → RowsSoFar k v bytes s os ts count (done + 1) (Some f) (told_with told fits line) new
rows_more k v bytes s os ts count done before told old new f fits line o few p h e =
    let on : Stands v bytes (rows_front k v os ts count (o.rows ++ f ∷ [])) new = rows_on k v bytes os ts count o.rows f old new (omega (arith, few, o.long)) o.stands (subst (λ x. PassesRow v k x f old new) (sym o.last) p) in
    record {
      rows = o.rows ++ f ∷ [];
      long = omega (arith, o.long, length-append o.rows (f ∷ []));
      last = last_snoc o.rows f;
      stands = on;
      told_of = subst (λ n. Told s (rows_data k os ts (o.rows ++ f ∷ [])) (told_with told fits n)) (rows_place k v bytes os ts count o.rows f new on ∙ sym e) (row_told s k os ts o.rows f told fits h o.told_of);
    }

pub rows_fault : (k : Kind) (v : Version) (bytes : List ℕ) (s : Sizes) (os : List (List (ℕ × ℕ))) (ts : List TreeLine) (count done : ℕ) (before : Option Fields) (told : Option ℕ) (r : Reader) (e : CertFault)
    → RowsSoFar k v bytes s os ts count done before told r → done < count → IsNextFault r.lines (ARow v k before r.rest.now) e → IsUnread bytes e
rows_fault Tree v bytes s os ts count done before told r e o few h =
    tree_fault v bytes os count (map tree_of o.rows) r e (omega (arith, few, o.long, length-map o.rows tree_of)) o.stands (subst (λ x. IsNextFault r.lines (ARow v Tree x r.rest.now) e) (sym (trees_last o.rows ∙ o.last)) h)
rows_fault Hedge v bytes s os ts count done before told r e o few h =
    hedge_fault v bytes os ts count (map hedge_of o.rows) r e (omega (arith, few, o.long, length-map o.rows hedge_of)) o.stands (subst (λ x. IsNextFault r.lines (ARow v Hedge x r.rest.now) e) (sym (hedges_last o.rows ∙ o.last)) h)

-- as many as were counted
pub outputs_whole : (v : Version) (bytes : List ℕ) (count : ℕ) (os : List (List (ℕ × ℕ))) (r : Reader) → length os ≡ count → Stands v bytes (in_outputs v count os) r → Stands v bytes (in_outputs v (length os) os) r
outputs_whole v bytes count os r e s = subst (λ n. Stands v bytes (in_outputs v n os) r) (sym e) s

pub trees_whole : (v : Version) (bytes : List ℕ) (os : List (List (ℕ × ℕ))) (count : ℕ) (rows : List Fields) (r : Reader) → length rows ≡ count → Stands v bytes (in_trees v os count (map tree_of rows)) r
    → Stands v bytes (in_trees v os (length (map tree_of rows)) (map tree_of rows)) r
trees_whole v bytes os count rows r e s = subst (λ n. Stands v bytes (in_trees v os n (map tree_of rows)) r) (sym (length-map rows tree_of ∙ e)) s

pub hedges_whole : (v : Version) (bytes : List ℕ) (os : List (List (ℕ × ℕ))) (ts : List TreeLine) (count : ℕ) (rows : List Fields) (r : Reader) → length rows ≡ count → Stands v bytes (in_hedges v os ts count (map hedge_of rows)) r
    → Stands v bytes (in_hedges v os ts (length (map hedge_of rows)) (map hedge_of rows)) r
hedges_whole v bytes os ts count rows r e s = subst (λ n. Stands v bytes (in_hedges v os ts n (map hedge_of rows)) r) (sym (length-map rows hedge_of ∙ e)) s
