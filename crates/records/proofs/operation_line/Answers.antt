-- `records::operation_line` meets its contract: a bad field, or one too many, is refusal 3; where it passes each group has at most 8
-- operands within the limits, so its words mean them, and the uses' words end before the defs' begin.
use mathlib.Core.Path.{sym, ◌∙◌}
use native.Mathlib.Omega.{arith}
use lib.ListN.{replicate}
use Rattle.records.specs.Records.{operation_line}
use Rattle.records.proofs.LawsTold.{ill_formed, breaks, passes, handed_on}
use Rattle.records.proofs.LawsGroups.{held_all, group_few, group_within}
use Rattle.records.proofs.LawsWords.{small_within, packed, packed_kept, packed_means, packed_within}
use Rattle.records.proofs.LawsSteps.{operation_no_inst, operation_no_uses, operation_no_defs, operation_too_long, operation_says, operation_ends}
use Rattle.records.proofs.operation_line.Goals as goal

pub returns-in_default : goal.returns-in_default
unfolding operation_line
returns-in_default c = record { result_value = λ so p h. ill_formed so _ (operation_no_inst _ _ c.in_default.ensures); clear = tt }

pub returns-in_default-read_operands : goal.returns-in_default-read_operands
unfolding operation_line
returns-in_default-read_operands c = record { result_value = λ so p h. ill_formed so _ (operation_no_uses c.in-Some.ensures.0 c.in_default-read_operands.ensures); clear = tt }

pub returns-in_default-read_operands-2 : goal.returns-in_default-read_operands-2
unfolding operation_line
returns-in_default-read_operands-2 c = record { result_value = λ so p h. ill_formed so _ (operation_no_defs c.in-Some.ensures.0 c.in-Some-read_operands.ensures c.in_default-read_operands-2.ensures); clear = tt }

pub returns-then-s-next-ne10 : goal.returns-then-s-next-ne10
unfolding operation_line
returns-then-s-next-ne10 c = record {
  result_value = λ so p h. ill_formed so _ (operation_too_long c.in-Some.ensures.0 c.in-Some-read_operands.ensures c.in-Some-read_operands-2.ensures c.if-s-next-ne10.true);
  clear = tt;
}

pub overflow_cast-result : goal.overflow_cast-result
overflow_cast-result c = omega (arith, c.in_ok-judge_operation.ensures.clear.inst_most)

pub pack-words-requires : goal.pack-words-requires
pack-words-requires c =
    let q = c.in_ok-judge_operation.ensures.clear.uses_within in
    let few = group_few _ _ q in
    let p = c.requires in
    (p.1, omega arith, few, λ k h. small_within p.2 _ c.in-Some-read_operands.ensures.kept.room few (group_within _ _ q) k h)

pub pack-requires : goal.pack-requires
pack-requires c =
    let q = c.in_ok-judge_operation.ensures.clear.defs_within in
    let few = group_few _ _ q in
    let p = c.requires in
    (p.1, omega arith, few, λ k h. small_within p.2 _ c.in-Some-read_operands-2.ensures.kept.room few (group_within _ _ q) k h)

pub returns-in_err-judge_operation : goal.returns-in_err-judge_operation
unfolding operation_line
returns-in_err-judge_operation c =
    let u = c.in-Some-read_operands.ensures in
    let d = c.in-Some-read_operands-2.ensures in
    rw (handed_on _ c.from_residual.ensures.1) (record {
      result_value = λ so p h.
          breaks so (operation_says c.in-Some.ensures.0 u d c.if-s-next-ne10.false) (c.judge_operation.ensures.value so _ _ p h u.kept d.kept) _ c.in_err-judge_operation.was;
      clear = tt;
    })

pub returns : goal.returns
unfolding operation_line
returns c =
    let i = c.in-Some.ensures.0 in
    let u = c.in-Some-read_operands.ensures in
    let d = c.in-Some-read_operands-2.ensures in
    let q = c.in_ok-judge_operation.ensures.clear in
    let few-uses = group_few _ _ q.uses_within in
    let few-defs = group_few _ _ q.defs_within in
    let within-uses = group_within _ _ q.uses_within in
    let within-defs = group_within _ _ q.defs_within in
    let w = c.requires.2 in
    let pu = packed_kept 8 _ _ (omega arith) c.pack.ensures (packed (replicate 16 0) (omega arith) c.pack-words.ensures) in
    let pd = packed c.pack-words.result (omega arith) c.pack.ensures in
    let ends = operation_ends i u d c.if-s-next-ne10.false in record {
      result_value = λ so p h.
          rw (packed_means w u.kept.room few-uses within-uses pu ∙ sym (held_all u.kept few-uses), packed_means w d.kept.room few-defs within-defs pd ∙ sym (held_all d.kept few-defs))
          (passes so (operation_says i u d c.if-s-next-ne10.false) (c.judge_operation.ensures.value so _ _ p h u.kept d.kept) c.in_ok-judge_operation.was ends.place);
      clear = (
        record { inside = ends.inside; placed = q.placed; room = q.room },
        record { uses_within = λ S h t. packed_within w u.kept.room few-uses within-uses pu t; defs_within = λ S h t. packed_within w d.kept.room few-defs within-defs pd t },
      );
    }
