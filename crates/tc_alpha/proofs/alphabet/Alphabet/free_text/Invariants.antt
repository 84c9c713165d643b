use Rattle.std.proofs.Common.{◌≡◌, ◌-◌, length}
use Rattle.std.specs.Prelude.{string_bytes}
use Rattle.tc_model.specs.Symbols.{is_mentioned, lengthened}
use Rattle.tc_alpha.specs.Free.{mention_by}
use Rattle.tc_alpha.proofs.alphabet.Alphabet.free_text.Given as goal

abbrev pub invariant-loop-tried : goal.invariant-loop-tried
invariant-loop-tried l =
    lengthened (λ t. is_mentioned (mention_by l.within t) l.self) (length l.self - l._tried) (string_bytes l.text) ≡ lengthened (λ t. is_mentioned (mention_by l.within t) l.self) (length l.self) l.first
