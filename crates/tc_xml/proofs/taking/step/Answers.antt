use Rattle.std.proofs.Common.{[], false}
use Rattle.std.proofs.lemmas.Option.{IfSome_then}
use Rattle.tc_model.specs.Runs.{run_text}
use Rattle.tc_model.specs.XmlTextContent.{instruction}
use Rattle.tc_xml.proofs.ContentLaws.{item_within}
use Rattle.tc_xml.proofs.TakingLaws.{step_within, took_nothing, some_of}
use Rattle.tc_xml.proofs.taking.step.Goals as goal

pub returns-in_default-clause-steps : goal.returns-in_default-clause-steps
returns-in_default-clause-steps g c = IfSome_then c.text_item.result c.text_item.ensures (λ rest (p, a, k) deepest root begun s. step_within c.requires.within a k s)

pub returns-in_default-clause-shorter : goal.returns-in_default-clause-shorter
returns-in_default-clause-shorter g c = IfSome_then c.text_item.result c.text_item.ensures (λ rest (p, a, k). item_within (a [] 0))

pub returns-then-begins-2-clause-steps : goal.returns-then-begins-2-clause-steps
returns-then-begins-2-clause-steps g c = IfSome_then c.marked_item.result c.marked_item.ensures (λ rest (p, a, k) deepest root begun s. step_within c.requires.within a k s)

pub returns-then-begins-2-clause-shorter : goal.returns-then-begins-2-clause-shorter
returns-then-begins-2-clause-shorter g c = IfSome_then c.marked_item.result c.marked_item.ensures (λ rest (p, a, k). item_within (a [] 0))

pub returns-then-begins-3-clause-steps : goal.returns-then-begins-3-clause-steps
returns-then-begins-3-clause-steps g c =
    IfSome_then c.after_instruction.result (some_of _ _ c.after_instruction.result c.after_instruction.ensures)
    (λ rest a deepest root begun s.
    step_within c.requires.within (λ outer d. instruction a) (took_nothing _ c.args.reader.now.taker (run_text c.args.reader.now.run)) s)

pub returns-then-begins-3-clause-shorter : goal.returns-then-begins-3-clause-shorter
returns-then-begins-3-clause-shorter g c =
    IfSome_then c.after_instruction.result (some_of _ _ c.after_instruction.result c.after_instruction.ensures) (λ rest a. item_within {o = false} {total = 0} {d = 0} {outer = []} (instruction a))
