-- What the computed sheets share. To unfold `computed` is to unfold all that the two rules and the two programs are defined by: a
-- statement on a closed sheet then holds by `refl`.
use Rattle.std.specs.Prelude.{List, [], ◌∷◌, ℕ}
use Rattle.std.proofs.Math.Option.{some}
use Rattle.std.proofs.Math.Decide.{ℕ_discrete}
use Rattle.paper.specs.Text.{Name, name_same}
use Rattle.paper.specs.Sheet.{Step, operation, Sheet, listed, reference_typed}
use Rattle.paper.specs.Cells.{cell_same, meet_names, old_meet, house_meet, meet, copied, overwritten, house_changed, old_changed, collected}
use Rattle.paper.specs.Steps.{get, put, location_of, row_of, counts_of, total, cell_count, unfilled, unfilled_rows, entry_rows, entry_state, unreached_state, first_of, check_use, check_uses, check_change, check_slot, check_slots, check, copy, everywhere, by_place, safepoint_row, old_define, house_define, old_effect, house_effect, effect, effects}
use Rattle.paper.specs.Runs.{update, store, push_at, push, spread, visit_at, step_at, step, run, pointwise, meet_states, cons_same, list_same, state_same, flow, before, begin, visit_bound, analysis, entered, checked_from}
use Rattle.paper.specs.Report.{Line, inst_of, line_of, faults_from, block_faults, entries_at, block_entries, by_block, find_errors, first_list, unallocated, missing_names, names_lines, missing_from, missing_blocks, missing_allocations, entries, faults_in, faults}
use Rattle.paper.specs.Walks.{trail, Passes}
use Rattle.paper.specs.Programs.{location_same, uses_of, write_name, write_cell, original_reads, allocated_reads, original_writes, allocated_writes, original_collects, allocated_collects, original_step, allocated_step, original_run, allocated_run}
use Rattle.paper.specs.declared.Rule.{Rule}
use Rattle.walks.specs.Order.{without, in_order}

unfoldable pub computed : Rule → Sheet → List Line
unfolding ℕ_discrete name_same listed reference_typed cell_same meet_names old_meet house_meet meet copied overwritten house_changed old_changed collected get put location_of row_of counts_of total cell_count unfilled unfilled_rows entry_rows entry_state unreached_state first_of check_use check_uses check_change check_slot check_slots check copy everywhere by_place safepoint_row old_define house_define old_effect house_effect effect effects update store push_at push spread visit_at step_at step run pointwise meet_states cons_same list_same state_same flow before begin visit_bound analysis entered checked_from inst_of line_of faults_from block_faults entries_at block_entries by_block find_errors first_list unallocated missing_names names_lines missing_from missing_blocks missing_allocations entries faults_in faults trail Passes location_same uses_of write_name write_cell original_reads allocated_reads original_writes allocated_writes original_collects allocated_collects original_step allocated_step original_run allocated_run without in_order
computed rule S = faults rule S

-- an operation that defines, or uses, one name in one register
abbrev pub defines : Name → ℕ → Step
defines n r = operation 0 [] (record { name = n; reg = some r } ∷ [])

abbrev pub uses : Name → ℕ → Step
uses n r = operation 1 (record { name = n; reg = some r } ∷ []) []
