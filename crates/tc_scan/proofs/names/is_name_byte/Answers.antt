use Rattle.std.proofs.Common.{◌≡◌, ℕ, ◌==◌, ◌<◌, Bool, true, false, map, cond, get_or, refl, ap, ◌∙◌, arith}
use Rattle.std.proofs.lemmas.List.FromFn.{get_or-map-range_with_len}
use Rattle.std.specs.List.{range_with_len}
use Rattle.tc_scan.specs.Names.{is_ascii_name_byte}
use Rattle.tc_scan.specs.declared.names.TheConstants.{NAME_BYTES}
use Rattle.tc_scan.proofs.names.is_name_byte.Goals as goal

abbrev entry : ℕ → ℕ
entry b = cond (is_ascii_name_byte b) 1 0

table : NAME_BYTES ≡ map entry (range_with_len 0 256)
table = refl

is_one : (x : Bool) → (cond x 1 0 == 1) ≡ x
is_one true = refl
is_one false = refl

found : (b : ℕ) → b < 256 → (get_or NAME_BYTES b 0 == 1) ≡ is_ascii_name_byte b
found b l = ap (λ (n : ℕ). n == 1) (ap (λ t. get_or t b 0) table ∙ get_or-map-range_with_len entry 0 256 b b 0 l (omega arith)) ∙ is_one (is_ascii_name_byte b)

pub returns : goal.returns
returns c = rw c.from.ensures (found c.args.byte (omega arith))
