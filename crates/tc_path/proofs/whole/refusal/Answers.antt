use Rattle.std.proofs.Common.{◌≡◌, ◌⊎◌, inl, inr, List, Option, None, sym, ap, ◌∙◌}
use Rattle.tc_base.specs.declared.reasons.Why.{Why}
use Rattle.tc_model.specs.PathTextTokens.{Token}
use Rattle.tc_path.specs.Faults.{fault_of, refused_as}
use Rattle.tc_path.specs.Reasons.{first_reason}
use Rattle.tc_path.specs.Views.{tokens_of}
use Rattle.tc_path.specs.declared.PathFault.{PathFault}
use Rattle.tc_path.specs.declared.PathFault.TheVariants.{Malformed, Unsupported, TooDeep}
use Rattle.tc_path.specs.declared.reasons.Context.{Context}
use Rattle.tc_path.proofs.whole.refusal.Goals as goal

told : (k : Context) (ts : List Token) (f : PathFault) (o : Option Why) → (f ≡ Malformed) ⊎ (((why : Why) × (f ≡ Unsupported why)) ⊎ (f ≡ TooDeep)) → o ≡ first_reason k ts → fault_of o ≡ refused_as k ts f
told k ts f o (inl e) g = ap fault_of g ∙ ap (refused_as k ts) (sym e)
told k ts f o (inr (inl (why, e))) g = ap fault_of g ∙ ap (refused_as k ts) (sym e)
told k ts f o (inr (inr e)) g = ap fault_of g ∙ ap (refused_as k ts) (sym e)

pub returns-in-Some : goal.returns-in-Some
returns-in-Some c = told c.args.context (tokens_of c.args.tokens.now) c.args.fault _ c.in-Malformed.is (sym c.in-Some.is ∙ c.first_reason.ensures)

pub returns-in-None : goal.returns-in-None
returns-in-None c = told c.args.context (tokens_of c.args.tokens.now) c.args.fault None c.in-Malformed.is (sym c.in-None.is ∙ c.first_reason.ensures)

pub returns-in-NoMemory : goal.returns-in-NoMemory
returns-in-NoMemory c = ap (refused_as c.args.context (tokens_of c.args.tokens.now)) (sym c.in-NoMemory.is)
