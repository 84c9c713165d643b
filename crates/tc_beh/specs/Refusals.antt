-- What may be refused of the sets of a row.
use Rattle.std.specs.Prelude.{◌≡◌, length, Bool, true, false, Result}
use Rattle.std.specs.Result.{IsErrOf}
use Rattle.tc_base.specs.declared.limits.TheConstants.{MOST_OUTPUTS}
use Rattle.tc_mat.specs.Held.{Held}
use Rattle.tc_beh.specs.declared.outputs.RowFault.{RowFault}
use Rattle.tc_beh.specs.declared.outputs.RowFault.TheVariants.{TooManyOutputs, NewOutput, NoMemory}

-- over fixed sets nothing comes to be held, and what isn't held is refused. Over others a set would be the 65,537th, or finds no memory
pub record MayRefuse {T : Type 0} (is_fixed : Bool) (old new : Held) (result : Result T RowFault) : Type 0 where
  pub fixed : is_fixed ≡ true → new ≡ old
  pub full : IsErrOf result TooManyOutputs → (is_fixed ≡ false) × (length new.matrices ≡ MOST_OUTPUTS)
  pub fresh : IsErrOf result NewOutput → is_fixed ≡ true
  pub memory : IsErrOf result NoMemory → is_fixed ≡ false
