-- What is so of a triple is so of its schemas and its stylesheet.
use Rattle.std.proofs.Common.{◌≡◌, inl, inr, refl, sym, ap, subst, ℕ, List}
use Rattle.tc_base.specs.declared.limits.TheConstants.{MOST_OUTPUTS}
use Rattle.tc_beh.specs.Machines.{IsMachineOf}
use Rattle.tc_beh.specs.declared.machine.Machine.{Machine}
use Rattle.tc_close.specs.Decisions.{KeepsCounts, IsUnsafeBy}
use Rattle.tc_close.specs.Triples.{IsTripleOf}
use Rattle.tc_close.proofs.Agreeing.{triples_agree}
use Rattle.tc_decide.specs.Checking.{HasFewRows, IsLeastCounter, IsLargeRun}
use Rattle.tc_decide.specs.RowCounts.{trees, hedges, outputs}
use Rattle.tc_model.specs.Grammars.{Grammar}
use Rattle.tc_model.specs.Sheets.{Sheet}
use Rattle.tc_model.specs.Symbols.{Mention}
use Rattle.tc_model.specs.Trees.{Trees}
use Rattle.tc_rows.specs.Triples as t
use Rattle.tc_rows.specs.Triples.{Triple, IsTriple}
use Rattle.tc_rules.specs.Kept.{IsRulesOf, told}
use Rattle.tc_run.specs.Limits.{IsCause}
use Rattle.tc_run.specs.declared.RunFault.TheVariants.{TooMuchWork, TooOpen}

-- a triple is that of its own schemas and stylesheet
pub itself : (x : Triple) → IsTriple x → IsTripleOf x.input x.output (t.sheet x) x
itself x is = record { triple = is; input = refl; output = refl; stylesheet = refl }

-- what is so of a triple's schemas and stylesheet
pub of_triple : (P : Grammar → Grammar → Sheet → Type 0) {i o : Grammar} {s : Sheet} {x : Triple} → IsTripleOf i o s x → P x.input x.output (t.sheet x) → P i o s
of_triple P {i} {o} {s} {x} is h = subst (P i o) is.stylesheet (subst (λ (w : Grammar). P i w (t.sheet x)) is.output (subst (λ (w : Grammar). P w x.output (t.sheet x)) is.input h))

pub to_triple : (P : Grammar → Grammar → Sheet → Type 0) {i o : Grammar} {s : Sheet} {x : Triple} → IsTripleOf i o s x → P i o s → P x.input x.output (t.sheet x)
to_triple P {i} {o} {s} {x} is h =
    subst (λ (w : Grammar). P w x.output (t.sheet x)) (sym is.input) (subst (λ (w : Grammar). P i w (t.sheet x)) (sym is.output) (subst (P i o) (sym is.stylesheet) h))

pub triple_is : {x : Triple} {m : Machine} → IsMachineOf x m → IsTriple x
triple_is is = is.parts.are_rules.triple

module _ (x : Triple) (is : IsTriple x) where
  pub few_rows : {most : ℕ} → KeepsCounts x most → HasFewRows x.input x.output (t.sheet x) most
  few_rows {most} keeps trees (y, of, many) = keeps.trees (((triples_agree x.input x.output (t.sheet x) y x of (itself x is)).live_trees.pass most).0 many)
  few_rows {most} keeps hedges (y, of, many) = keeps.hedges (((triples_agree x.input x.output (t.sheet x) y x of (itself x is)).live_hedges.pass most).0 many)
  few_rows {most} keeps outputs (y, of, many) = keeps.outputs (((triples_agree x.input x.output (t.sheet x) y x of (itself x is)).outputs.pass MOST_OUTPUTS).0 many)

  pub least_counter : {most : ℕ} {document : Trees} → IsUnsafeBy x most document → IsLeastCounter x.input x.output (t.sheet x) document
  least_counter h = record { counter = h.counter; plain = (x, itself x is, h.plain); fewest = record { few = h.few; least = h.least } }

-- the run of rules is that of their stylesheet
pub rules_sheet : {x : Triple} {m : Machine} → IsMachineOf x m → (told m.rules).sheet ≡ t.sheet x
rules_sheet is = ap (λ w. w.sheet) is.parts.are_rules.told

pub rules_stand : {x : Triple} {m : Machine} → IsMachineOf x m → IsRulesOf m.alphabet m.rules
rules_stand {m = m} is = subst (λ (w : List Mention). IsRulesOf w m.rules) (sym is.parts.same_symbols) is.parts.are_rules.rules

pub much_work : (s : Sheet) (document : Trees) → IsCause s document TooMuchWork → IsLargeRun s document
much_work s document (o, t, p) = (o, t, inl p)

pub too_open : (s : Sheet) (document : Trees) → IsCause s document TooOpen → IsLargeRun s document
too_open s document (o, t, p) = (o, t, inr p)
