-- Whether the numbers of lines fit, line by line: by ranges, of rows of either kind.
use Rattle.std.specs.Prelude.{ℕ, Bool, true, false, List, [], map, Option, Some, None, MatchOption}
use Rattle.tc_model.specs.declared.lists.TreeLine.{TreeLine}
use Rattle.tc_model.specs.declared.lists.HedgeLine.{HedgeLine}
use Rattle.tc_model.specs.declared.lists.CertData.{CertData}
use Rattle.tc_model.specs.CertificateFits.{Sizes, RowFits, AllFit, IsFirstUnfit}
use Rattle.tc_cert.specs.Texts.{Version}
use Rattle.tc_cert.specs.Fronts.{Front, in_trees, in_hedges}
use Rattle.tc_cert.specs.Fields.{Fields, tree_of, hedge_of}
use Rattle.tc_cert.specs.declared.rows.Kind.{Kind}
use Rattle.tc_cert.specs.declared.rows.Kind.TheVariants.{Tree, Hedge}
use Rattle.tc_cert.specs.declared.ranges.Ranges.{Ranges}

abbrev pub sizes_of : Ranges → Sizes
sizes_of r = record { output_states = r.output_states; patterns = r.patterns; input_states = r.input_states; outs = r.outs; looks = r.looks }

-- a row of a kind, where so many outputs are listed
abbrev pub RowFitsIn : Sizes → ℕ → Kind → Fields → Type 0
RowFitsIn s listed Tree f = RowFits 1 s.patterns s.outs s.looks listed f.members f.outs f.looks
RowFitsIn s listed Hedge f = RowFits 0 s.input_states s.outs s.looks listed f.members f.outs f.looks

abbrev pub data_of : List (List (ℕ × ℕ)) → List TreeLine → List HedgeLine → CertData
data_of os ts hs = record { outputs = os; trees = ts; hedges = hs }

-- what is told of lines
abbrev pub Told : Sizes → CertData → Option ℕ → Type 0
Told s d told = MatchOption told (AllFit s d) (λ line. IsFirstUnfit s d line)

-- and of those with one more, of this number
abbrev pub told_with : Option ℕ → Bool → ℕ → Option ℕ
told_with (Some first) fits line = Some first
told_with None true line = None
told_with None false line = Some line

-- rows of a kind behind what stands before them
abbrev pub rows_front : Kind → Version → List (List (ℕ × ℕ)) → List TreeLine → ℕ → List Fields → Front
rows_front Tree v os ts count rows = in_trees v os count (map tree_of rows)
rows_front Hedge v os ts count rows = in_hedges v os ts count (map hedge_of rows)

abbrev pub rows_data : Kind → List (List (ℕ × ℕ)) → List TreeLine → List Fields → CertData
rows_data Tree os ts rows = data_of os (map tree_of rows) []
rows_data Hedge os ts rows = data_of os ts (map hedge_of rows)
