-- Every definition that a report computes with: who unfolds `report-open` unfolds them all, with those of builds and plans.
use Rattle.worked.proofs.Open.{all-open}
use Rattle.text.specs.Frame
use Rattle.text.specs.Hex
use Rattle.text.specs.Lines
use Rattle.text.specs.Output
use Rattle.text.specs.Report

texts : Unit {0}
unfolding Hex.is_digit Hex.digit_of Hex.digit_char Hex.is_pairs Hex.bytes_of Hex.hex_of Hex.line_of Hex.number_from Hex.number_of Hex.four_bytes Lines.in_first Lines.lines_of
texts = tt

panes : Unit {0}
unfolding Frame.is_frame Frame.pane_of Frame.places_of Frame.kind_in Frame.panes_in Frame.wanted_in Frame.size_in
panes = tt

frames : Unit {0}
unfolding Frame.fields_refusal Frame.bytes_refusal Frame.first_refusal Frame.first_of Frame.later_refusal Frame.later_of
frames = tt

lines : Unit {0}
unfolding Output.level_line Output.levels_below Output.level_lines Output.deepest_line Output.total_line Output.plan_line Output.refusal_line
lines = tt

answers : Unit {0}
unfolding Report.is_reported Report.report_groups Report.table_bytes Report.log_words Report.changed_bytes Report.built_in Report.printed_total Report.head_text Report.plan_text Report.later_text Report.later_texts
answers = tt

unfoldable pub report-open : Unit {0}
unfolding all-open texts panes frames lines answers Report.report_from Report.report_of
report-open = tt
