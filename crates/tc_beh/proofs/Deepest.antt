-- Rules, and for-eaches in all bodies, are no deeper than the stylesheet.
use Rattle.std.proofs.Common.{◌≡◌, ◌≤◌, ◌<◌, inl, inr, ℕ, zero, suc, List, [], ◌∷◌, flat_map, Some, slice_get, Bor, Contains, ap, subst, arith}
use Rattle.std.proofs.lemmas.Option.{same_Some}
use Rattle.tc_model.specs.Sheets.{Sheet, Rule, Body, no_instruction, put_text, put_element, copy, apply, call, for_each, value, value_of_self, choose, Branches, otherwise, branch}
use Rattle.tc_model.specs.Views as see
use Rattle.tc_model.specs.WellFormed.{ForEach, eaches_of, eaches_in, eaches_in_branches}
use Rattle.tc_model.specs.declared.sheet.Instr.{Instr}
use Rattle.tc_alpha.proofs.Members.{Has, has_from_contains, has_either}
use Rattle.tc_rules.specs.declared.rules.Rules.{Rules}
use Rattle.tc_rules.specs.Kept.{told}
use Rattle.tc_rows.specs.Triples.{Triple}
use Rattle.tc_beh.specs.Heights.{depth_in, depth_in_branches, deepest, deepest_rule}
use Rattle.tc_beh.specs.Stands.{IsRulesIn}
use Rattle.tc_beh.specs.Templates.{depth_of_sheet}
use Rattle.tc_beh.proofs.Heights.{depth_few}
use Rattle.tc_beh.proofs.Meant.{IsEachBody}

-- for-eaches are no deeper than the bodies in which they stand
mutual
  each_depth : (f : ForEach) (b : Body) → Has (eaches_in b) f → depth_in f.body ≤ depth_in b
  each_depth f no_instruction h = absurd h
  each_depth f (put_text t b) h = each_depth f b h
  each_depth f (put_element n i b) h = elim (has_either (eaches_in i) (eaches_in b) f h) [ inl k ↦ omega (arith, each_depth f i k, depth_few f.body, depth_few i) | inr k ↦ omega (arith, each_depth f b k) ]
  each_depth f (copy i b) h = elim (has_either (eaches_in i) (eaches_in b) f h) [ inl k ↦ omega (arith, each_depth f i k, depth_few f.body, depth_few i) | inr k ↦ omega (arith, each_depth f b k) ]
  each_depth f (apply w m b) h = each_depth f b h
  each_depth f (call n b) h = each_depth f b h
  each_depth f (value w b) h = each_depth f b h
  each_depth f (value_of_self b) h = each_depth f b h
  each_depth f (choose y b) h = elim (has_either (eaches_in_branches y) (eaches_in b) f h) [ inl k ↦ omega (arith, each_depths f y k) | inr k ↦ omega (arith, each_depth f b k) ]
  each_depth f (for_each n w i b) (inl e) = let same : depth_in i ≡ depth_in f.body = ap (λ (g : ForEach). depth_in g.body) e in omega (arith, same)
  each_depth f (for_each n w i b) (inr h) = elim (has_either (eaches_in i) (eaches_in b) f h) [ inl k ↦ omega (arith, each_depth f i k) | inr k ↦ omega (arith, each_depth f b k) ]

  each_depths : (f : ForEach) (y : Branches) → Has (eaches_in_branches y) f → depth_in f.body ≤ depth_in_branches y
  each_depths f (otherwise b) h = each_depth f b h
  each_depths f (branch t b y) h = elim (has_either (eaches_in b) (eaches_in_branches y) f h) [ inl k ↦ omega (arith, each_depth f b k) | inr k ↦ omega (arith, each_depths f y k) ]

-- and no deeper than all rules, or all named bodies
each_in_rules : (f : ForEach) (rules : List Rule) → Has (flat_map (λ r. eaches_in r.body) rules) f → depth_in f.body ≤ deepest_rule rules
each_in_rules f [] h = absurd h
each_in_rules f (r ∷ rules) h = elim (has_either (eaches_in r.body) (flat_map (λ r. eaches_in r.body) rules) f h) [ inl k ↦ omega (arith, each_depth f r.body k) | inr k ↦ omega (arith, each_in_rules f rules k) ]

each_in_named : (f : ForEach) (named : List Body) → Has (flat_map (λ b. eaches_in b) named) f → depth_in f.body ≤ deepest named
each_in_named f [] h = absurd h
each_in_named f (b ∷ named) h = elim (has_either (eaches_in b) (flat_map (λ b. eaches_in b) named) f h) [ inl k ↦ omega (arith, each_depth f b k) | inr k ↦ omega (arith, each_in_named f named k) ]

pub each_in_sheet : (s : Sheet) (f : ForEach) → Contains (eaches_of s) f → depth_in f.body ≤ depth_of_sheet s
each_in_sheet s f c = elim (has_either (flat_map (λ r. eaches_in r.body) s.rules) (flat_map (λ b. eaches_in b) s.named) f (has_from_contains (eaches_of s) f c)) [
  | inl h ↦ omega (arith, each_in_rules f s.rules h)
  | inr h ↦ omega (arith, each_in_named f s.named h)
]

pub rule_in_rules : (rules : List Rule) (i : ℕ) (q : Rule) → slice_get rules i ≡ Some q → depth_in q.body ≤ deepest_rule rules
rule_in_rules [] i q e = absurd (cc)
rule_in_rules (r ∷ rules) zero q e = let same : depth_in r.body ≡ depth_in q.body = ap (λ (w : Rule). depth_in w.body) (same_Some r q e) in omega (arith, same)
rule_in_rules (r ∷ rules) (suc i) q e = omega (arith, rule_in_rules rules i q e)

pub rule_in_sheet : (s : Sheet) (i : ℕ) (q : Rule) → slice_get s.rules i ≡ Some q → depth_in q.body ≤ depth_of_sheet s
rule_in_sheet s i q e = omega (arith, rule_in_rules s.rules i q e)

-- the body of a for-each
pub each_body_low : (r : Rules) (x : Triple) → IsRulesIn x r → (e : ℕ) (b : Bor (List Instr)) → e < (told r).sheet.eaches → IsEachBody r e b → depth_in (see.body b.now) ≤ depth_of_sheet (told r).sheet
each_body_low r x is e b h k =
    let (f, there, number) = is.rules.tells.well_formed.each_number e h in
    subst (λ w. depth_in w ≤ depth_of_sheet (told r).sheet) (k x.symbols f is.rules there number) (each_in_sheet (told r).sheet f there)
