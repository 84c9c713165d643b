-- Places that there may be.
use Rattle.std.specs.Prelude.{ℕ, Bool, Option, None, Some, if◌then◌else◌}
use Rattle.std.specs.Option.{option_map}
use Rattle.tc_base.specs.declared.Place.{Place}
use Rattle.tc_model.specs.Views.{place}

abbrev pub maybe_place : Option Place → Option ℕ
maybe_place clash = option_map place clash

abbrev pub or_clash : Option ℕ → Bool → ℕ → Option ℕ
or_clash (Some p) clashes place = Some p
or_clash None clashes place = if clashes then Some place else None
