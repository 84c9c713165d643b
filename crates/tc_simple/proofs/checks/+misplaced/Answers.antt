use Rattle.std.proofs.Common.{◌≡◌, ◌∙◌, ◌++◌, ◌∷◌, [], ℕ, List, Bool, true, false, Option, Some, None, Bor, if◌then◌else◌, sym, ap, refl}
use Rattle.std.proofs.lemmas.List.{drop_all}
use Rattle.tc_base.specs.declared.Place.{Place}
use Rattle.tc_model.specs.SimplifiesFaults.{first_place, misplaced as all, misplaced_among as among}
use Rattle.tc_model.specs.Views.{place}
use Rattle.tc_model.specs.declared.tree.Name.{Name}
use Rattle.tc_rnc.specs.Views as see
use Rattle.tc_rnc.specs.declared.syntax.SClass.{SClass}
use Rattle.tc_rnc.specs.declared.syntax.SClass.TheVariants as v
use Rattle.tc_rnc.proofs.Views.{see_name, see_ns, see_any, see_one_of}
use Rattle.tc_simple.proofs.Answered.{classes_here, classes_next}
use Rattle.tc_simple.proofs.checks.+misplaced.Goals as goal

pub misplaced_among-returns-in-Some : goal.misplaced_among-returns-in-Some
misplaced_among-returns-in-Some t c =
    sym (c.loop-class.invariant
    ∙ classes_here c.args.any c.args.namespaces c.args.classes.now c.loop-class.class-index c.class-item.result (place c.in-Some.place) c.loop-class-test.true c.class-item.is c.in-Some.ensures)

pub misplaced_among-loop-class-init : goal.misplaced_among-loop-class-init
misplaced_among-loop-class-init t c = refl

pub misplaced_among-loop-class-preserved : goal.misplaced_among-loop-class-preserved
misplaced_among-loop-class-preserved t c =
    c.loop-class.invariant ∙ classes_next c.args.any c.args.namespaces c.args.classes.now c.loop-class.class-index c.class-item.result c.loop-class-test.true c.class-item.is c.in_default.ensures

pub misplaced_among-returns : goal.misplaced_among-returns
misplaced_among-returns t c =
    sym (c.loop-class.invariant ∙ ap (λ (z : List SClass). first_place (among c.args.any c.args.namespaces (see.classes z))) (drop_all c.loop-class.class-index c.args.classes.now c.loop-class-test.false))

module _ (any namespaces : Bool) (x : SClass) where
  at_name : (n : Name) → x ≡ v.Name n → None ≡ first_place (all any namespaces (see.class x))
  at_name n e = sym (ap (λ z. first_place (all any namespaces z)) (ap see.class e ∙ see_name n))

  module _ (p : Place) (uri : Bor (List ℕ)) (except : Bor (List SClass)) (e : x ≡ v.Ns p uri except) where
    at_ns : first_place (all any namespaces (see.class x)) ≡ first_place ((if namespaces then place p ∷ [] else []) ++ among true true (see.classes except.now))
    at_ns = ap (λ z. first_place (all any namespaces z)) (ap see.class e ∙ see_ns p uri except)

    ns_here : namespaces ≡ true → Some (place p) ≡ first_place (all any namespaces (see.class x))
    ns_here is = sym (at_ns ∙ ap (λ b. first_place ((if b then place p ∷ [] else []) ++ among true true (see.classes except.now))) is)

    ns_within : namespaces ≡ false → (r : Option ℕ) → r ≡ first_place (among true true (see.classes except.now)) → r ≡ first_place (all any namespaces (see.class x))
    ns_within is r h = h ∙ sym (at_ns ∙ ap (λ b. first_place ((if b then place p ∷ [] else []) ++ among true true (see.classes except.now))) is)

  module _ (p : Place) (except : Bor (List SClass)) (e : x ≡ v.Any p except) where
    at_any : first_place (all any namespaces (see.class x)) ≡ first_place ((if any then place p ∷ [] else []) ++ among true namespaces (see.classes except.now))
    at_any = ap (λ z. first_place (all any namespaces z)) (ap see.class e ∙ see_any p except)

    any_here : any ≡ true → Some (place p) ≡ first_place (all any namespaces (see.class x))
    any_here is = sym (at_any ∙ ap (λ b. first_place ((if b then place p ∷ [] else []) ++ among true namespaces (see.classes except.now))) is)

    any_within : any ≡ false → (r : Option ℕ) → r ≡ first_place (among true namespaces (see.classes except.now)) → r ≡ first_place (all any namespaces (see.class x))
    any_within is r h = h ∙ sym (at_any ∙ ap (λ b. first_place ((if b then place p ∷ [] else []) ++ among true namespaces (see.classes except.now))) is)

pub misplaced-returns-in-Name : goal.misplaced-returns-in-Name
misplaced-returns-in-Name t c = at_name c.args.any c.args.namespaces c.args.class.now _ c.in-Name.is

pub misplaced-returns-then-namespaces : goal.misplaced-returns-then-namespaces
misplaced-returns-then-namespaces t c = ns_here c.args.any c.args.namespaces c.args.class.now _ _ _ c.in-Ns.is c.if-namespaces.true

pub misplaced-returns-else-namespaces : goal.misplaced-returns-else-namespaces
misplaced-returns-else-namespaces t c = ns_within c.args.any c.args.namespaces c.args.class.now _ _ _ c.in-Ns.is c.if-namespaces.false _ c.misplaced_among.ensures

pub misplaced-returns-then-any : goal.misplaced-returns-then-any
misplaced-returns-then-any t c = any_here c.args.any c.args.namespaces c.args.class.now _ _ c.in-Any.is c.if-any.true

pub misplaced-returns-else-any : goal.misplaced-returns-else-any
misplaced-returns-else-any t c = any_within c.args.any c.args.namespaces c.args.class.now _ _ c.in-Any.is c.if-any.false _ c.misplaced_among-else-any.ensures

pub misplaced-returns-in-Choice : goal.misplaced-returns-in-Choice
misplaced-returns-in-Choice t c = c.misplaced_among-in-Choice.ensures ∙ sym (ap (λ z. first_place (all c.args.any c.args.namespaces z)) (ap see.class c.in-Choice.is ∙ see_one_of _))
