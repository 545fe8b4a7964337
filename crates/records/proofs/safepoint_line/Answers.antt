-- `records::safepoint_line` meets its contract: a bad field is refusal 3; else `listed` tells the slots' limit and order, and where
-- it passes the mask's set bits are the slots, all below `F`'s count.
use mathlib.Core.Path.{refl}
use native.Mathlib.Omega.{arith}
use Rattle.records.specs.Records.{safepoint_line}
use Rattle.records.proofs.LawsTold.{clear_of, judged_by, ill_formed, breaks, passes, handed_on, in_place}
use Rattle.records.proofs.LawsSteps.{safepoint_no_inst, safepoint_bad, safepoint_says, safepoint_ends, safepoint_tested, safepoint_bits, safepoint_within}
use Rattle.records.proofs.safepoint_line.Goals as goal

pub returns-in_default : goal.returns-in_default
unfolding safepoint_line
returns-in_default c = record { result_value = λ so p h. ill_formed so _ (safepoint_no_inst _ _ c.in_default.ensures); clear = tt }

pub read_slots-requires : goal.read_slots-requires
read_slots-requires c = (c.in-Some.ensures.0.behind, c.requires.1.slots)

pub returns-in_default-read_slots : goal.returns-in_default-read_slots
unfolding safepoint_line
returns-in_default-read_slots c = record { result_value = λ so p h. ill_formed so _ (safepoint_bad c.in-Some.ensures.0 c.in_default-read_slots.ensures); clear = tt }

pub overflow_cast-result : goal.overflow_cast-result
overflow_cast-result c =
    omega (arith, (safepoint_within c.in-Some.ensures.0 c.in-Some-read_slots.ensures (clear_of c.lowest.ensures c.in_ok-lowest.was)).inst_most)

pub returns-in_err-lowest : goal.returns-in_err-lowest
unfolding safepoint_line
returns-in_err-lowest c =
    let i = c.in-Some.ensures.0 in
    let w = c.in-Some-read_slots.ensures in
    rw (handed_on _ c.from_residual.ensures.1) (record {
      result_value = λ so p h. breaks so (safepoint_says i w) (judged_by (safepoint_tested i w (p _) h refl) c.lowest.ensures) _ c.in_err-lowest.was;
      clear = tt;
    })

pub returns : goal.returns
unfolding safepoint_line
returns c =
    let i = c.in-Some.ensures.0 in
    let w = c.in-Some-read_slots.ensures in
    let clear = clear_of c.lowest.ensures c.in_ok-lowest.was in
    let ends = safepoint_ends i w in record {
      result_value = λ so p h. rw (safepoint_bits i w clear) (passes so (safepoint_says i w) (judged_by (safepoint_tested i w (p _) h refl) c.lowest.ensures) c.in_ok-lowest.was ends.place);
      clear = (in_place ends clear, safepoint_within i w clear);
    }
