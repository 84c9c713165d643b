use Rattle.std.proofs.Common.{◌∷◌, [], ◌∙◌, sym, subst}
use Rattle.tc_answer.specs.SchemaWords.{IsSchemaWord}
use Rattle.tc_answer.specs.Words.{AreOperands, PieceSizes}
use Rattle.tc_answer.specs.WordsSeen.{texts}
use Rattle.tc_answer.proofs.Marked.{heads}
use Rattle.tc_answer.proofs.OperandWords.{denied}
use Rattle.tc_answer.proofs.Options.{sizes_are, are_sizes}
use Rattle.tc_answer.proofs.Validations.{no_validation, in_pieces, whole}
use Rattle.tc_scan.proofs.NamesLaws.{at_none}
use Rattle.tc_answer.proofs.command.read_valid.Goals as goal

pub returns-in_err-size : goal.returns-in_err-size
returns-in_err-size c = at_none _ c.from_residual.ensures (no_validation (λ size a b p are x. c.in_err-size.ensures size (a ∷ b ∷ []) (are_sizes (texts c.args.words.now) (a ∷ b ∷ []) size p) are))

pub returns-in_err-schema : goal.returns-in_err-schema
returns-in_err-schema c =
    at_none _ c.from_residual-in_err-schema.ensures (no_validation (λ size a b p are x.
    let same = c.in_ok-size.ensures.1 size (a ∷ b ∷ []) (are_sizes (texts c.args.words.now) (a ∷ b ∷ []) size p) are in
    c.in_err-schema.ensures a b (sym same) (subst AreOperands same are)))

pub returns-then-not-is_schema_word : goal.returns-then-not-is_schema_word
returns-then-not-is_schema_word c =
    no_validation (λ size a b p are x.
    let same = c.in_ok-size.ensures.1 size (a ∷ b ∷ []) (are_sizes (texts c.args.words.now) (a ∷ b ∷ []) size p) are in
    denied _ c.is_schema_word.result c.is_schema_word.ensures c.if-not-is_schema_word.true (subst IsSchemaWord (heads (same ∙ c.in_ok-schema.ensures.0)) x.0))

pub returns-in-Some : goal.returns-in-Some
returns-in-Some c =
    let read = c.in_ok-schema.ensures in
    in_pieces {words = texts c.args.words.now} {operands = texts c.in_ok-size.operands.now} {size = c.in-Some.size} (subst (λ n. PieceSizes (texts c.args.words.now) n (texts c.in_ok-size.operands.now)) c.in-Some.is (sizes_are (texts c.args.words.now) (texts c.in_ok-size.operands.now) c.in_ok-size.size c.in_ok-size.ensures.0)) read.0 read.1 (c.is_schema_word.ensures.0 c.if-not-is_schema_word.false, tt)

pub returns-in-None : goal.returns-in-None
returns-in-None c =
    let read = c.in_ok-schema.ensures in
    whole {words = texts c.args.words.now} {operands = texts c.in_ok-size.operands.now} (subst (λ n. PieceSizes (texts c.args.words.now) n (texts c.in_ok-size.operands.now)) c.in-None.is (sizes_are (texts c.args.words.now) (texts c.in_ok-size.operands.now) c.in_ok-size.size c.in_ok-size.ensures.0)) read.0 read.1 (c.is_schema_word.ensures.0 c.if-not-is_schema_word.false, tt)
