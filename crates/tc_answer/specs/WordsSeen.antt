-- What contracts see of words and of a command.
use Rattle.std.specs.Prelude.{ℕ, List, map, String, string_bytes}
use Rattle.tc_answer.specs.Words as w
use Rattle.tc_answer.specs.declared.command.Command.{Command}
use Rattle.tc_answer.specs.declared.command.Command.TheVariants.{Check, Prove, Verify, Run, Valid, ValidInPieces, Demo, Upgrade, Dead, Include, Same}

abbrev pub texts : {Z : Type 0} → List (String Z) → List (List ℕ)
texts words = map string_bytes words

abbrev pub command : Command → w.Command
command (Check limit triple) = w.check limit triple.input.now triple.output.now triple.sheet.now
command (Prove limit triple) = w.prove limit triple.input.now triple.output.now triple.sheet.now
command (Verify triple certificate) = w.verify triple.input.now triple.output.now triple.sheet.now certificate.now
command (Run sheet document) = w.run sheet.now document.now
command (Valid schema document) = w.valid schema.now document.now
command (ValidInPieces size schema document) = w.valid_in_pieces size schema.now document.now
command (Demo size) = w.demo size
command (Upgrade certificate) = w.upgrade certificate.now
command (Dead input sheet) = w.dead input.now sheet.now
command (Include first second) = w.include first.now second.now
command (Same first second) = w.same first.now second.now
