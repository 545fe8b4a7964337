-- The answer's bytes and a step's effect in a form that computes: to unfold `answer_text` is to unfold all that the answer is defined by.
use Rattle.std.specs.Prelude.{false}
use Rattle.std.proofs.Math.Decide.{ℕ_discrete}
use Rattle.paper.specs.Text.{Bytes, onto_first, parts, lines, fields, is_digit, all_digits, leading_zero, is_number, value_from, number_of, digit_from, digits, name_same, name_of, name_text}
use Rattle.paper.specs.Sheet.{Step, listed, reference_typed}
use Rattle.paper.specs.Refusals.{next, ended, one_byte, numbers_of, function_of, typed_of, block_of, two_numbers_of, change_of, allocation_of, operands_of, counted_operands_of, operation_of, safepoint_of, by_letter, record_of, any, empty, out_of_place, name_beyond, reg_beyond, operand_beyond, step_beyond, beyond_limit, ascending_from, ascending, repeats, names, allocated, step_out_of_order, out_of_order, is_reg, elsewhere, real_elsewhere, types_differ, step_count, step_too_many, first_holding, conditions, onward, passing, within, name_within, reg_within, rising, same_name, same_reg, new_name, new_reg, at_home, numbers_passing, function_passing, typed_passing, block_passing, pair_passing, change_passing, operands_passing, group_passing, operation_passing, safepoint_passing, field_by_letter, field_shown, names_field, field_of, add_step, add_record, judged, read_record, read_line, read_end, carry_on, read_lines, no_text, read}
use Rattle.paper.specs.Cells.{cell_same, meet_names, old_meet, house_meet, meet, copied, overwritten, house_changed, old_changed, collected}
use Rattle.paper.specs.Steps.{State, get, put, location_of, row_of, counts_of, total, cell_count, unfilled, unfilled_rows, entry_rows, entry_state, unreached_state, first_of, check_use, check_uses, check_change, check_slot, check_slots, check, copy, everywhere, by_place, safepoint_row, old_define, house_define, old_effect, house_effect, effect, effects}
use Rattle.paper.specs.Runs.{update, store, push_at, push, spread, visit_at, step_at, step, run, pointwise, meet_states, cons_same, list_same, state_same, flow, before, begin, visit_bound, analysis, entered, checked_from}
use Rattle.paper.specs.Report.{inst_of, line_of, faults_from, block_faults, entries_at, block_entries, by_block, find_errors, first_list, unallocated, missing_names, names_lines, missing_from, missing_blocks, missing_allocations, entries, faults_in, kind_of, reg_text, slot_text, fault_fields, behind_tabs, line_text, unreached_text, entry_text, lines_text, rule_text, header_text, report_text}
use Rattle.paper.specs.Answer.{said_by, said_of, said_after, answer, written}
use Rattle.paper.specs.declared.Rule.{Rule}

unfoldable pub answer_text : Rule → Bytes → Bytes
unfolding ℕ_discrete onto_first parts lines fields is_digit all_digits leading_zero is_number value_from number_of digit_from digits name_same name_of name_text listed reference_typed next ended one_byte numbers_of function_of typed_of block_of two_numbers_of change_of allocation_of operands_of counted_operands_of operation_of safepoint_of by_letter record_of any empty out_of_place name_beyond reg_beyond operand_beyond step_beyond beyond_limit ascending_from ascending repeats names allocated step_out_of_order out_of_order is_reg elsewhere real_elsewhere types_differ step_count step_too_many first_holding conditions onward passing within name_within reg_within rising same_name same_reg new_name new_reg at_home numbers_passing function_passing typed_passing block_passing pair_passing change_passing operands_passing group_passing operation_passing safepoint_passing field_by_letter field_shown names_field field_of add_step add_record judged read_record read_line read_end carry_on read_lines no_text read cell_same meet_names old_meet house_meet meet copied overwritten house_changed old_changed collected get put location_of row_of counts_of total cell_count unfilled unfilled_rows entry_rows entry_state unreached_state first_of check_use check_uses check_change check_slot check_slots check copy everywhere by_place safepoint_row old_define house_define old_effect house_effect effect effects update store push_at push spread visit_at step_at step run pointwise meet_states cons_same list_same state_same flow before begin visit_bound analysis entered checked_from inst_of line_of faults_from block_faults entries_at block_entries by_block find_errors first_list unallocated missing_names names_lines missing_from missing_blocks missing_allocations entries faults_in kind_of reg_text slot_text fault_fields behind_tabs line_text unreached_text entry_text lines_text rule_text header_text report_text said_by said_of said_after answer written
answer_text rule sheet = written (answer rule sheet)

-- where no name is reference-typed
unfoldable pub untyped_effect : Rule → Step → State → State
unfolding ℕ_discrete name_same copied overwritten house_changed old_changed collected get put location_of row_of listed copy everywhere by_place safepoint_row old_define house_define old_effect house_effect effect
untyped_effect rule x s = effect rule (λ n. false) x s
