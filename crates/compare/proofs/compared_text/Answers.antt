-- `compared_text` meets its contract: without room nothing is written; else the line that the answer asks for, and where the reports
-- part the rest behind it.
use mathlib.Core.Path.{sym, ◌∙◌}
use Prim.Native.Nat.{◌≤◌}
use lib.ListN.{length}
use native.Mathlib.Omega.{arith}
use Rattle.lists.specs.Sets.{then, length_wrote}
use Rattle.compare.specs.Written.{said_text, longest_report}
use Rattle.compare.proofs.LawsText.{told_none, told_text, roomy, rest_short}
use Rattle.compare.proofs.compared_text.Goals as goal

pub returns-then-no_room : goal.returns-then-no_room
returns-then-no_room c = told_none _ _ _ (sym c.if-no_room.true ∙ c.no_room.ensures)

pub write_parted-requires : goal.write_parted-requires
write_parted-requires c = omega (arith, (let a = c.args in roomy a.first.now a.second.now a.out.now (sym c.if-no_room.false ∙ c.no_room.ensures)).2)

pub overflow_cast-line : goal.overflow_cast-line
overflow_cast-line c =
    let within = rw c.in-Parts.is at c.compare-compared.ensures.within in
    omega (arith, (let a = c.args in roomy a.first.now a.second.now a.out.now (sym c.if-no_room.false ∙ c.no_room.ensures)).0, within.2)

pub write_parted-end-requires : goal.write_parted-end-requires
write_parted-end-requires c = omega (arith, (let a = c.args in roomy a.first.now a.second.now a.out.now (sym c.if-no_room.false ∙ c.no_room.ensures)).2)

pub write_text-requires : goal.write_text-requires
write_text-requires c =
    let a = c.args in
    let r = (let a = c.args in roomy a.first.now a.second.now a.out.now (sym c.if-no_room.false ∙ c.no_room.ensures)) in
    let part : length c.rest.result.now ≤ longest_report = rw c.rest.ensures.bytes (rest_short a.first.now a.second.now r.0 r.1) in
    omega (arith, part, r.2, c.write_parted-end.ensures.1, length_wrote c.write_parted-end.ensures.0)

pub overflow_cast-line-in-Malformed : goal.overflow_cast-line-in-Malformed
overflow_cast-line-in-Malformed c =
    let within = rw c.in-Malformed.is at c.compare-compared.ensures.within in
    omega (arith, (let a = c.args in roomy a.first.now a.second.now a.out.now (sym c.if-no_room.false ∙ c.no_room.ensures)).0, (let a = c.args in roomy a.first.now a.second.now a.out.now (sym c.if-no_room.false ∙ c.no_room.ensures)).1, within)

pub write_malformed-requires : goal.write_malformed-requires
write_malformed-requires c = omega (arith, (let a = c.args in roomy a.first.now a.second.now a.out.now (sym c.if-no_room.false ∙ c.no_room.ensures)).2)

pub returns-in-Equal : goal.returns-in-Equal
unfolding said_text
returns-in-Equal c =
    told_text _ _ _ (sym c.if-no_room.false ∙ c.no_room.ensures) (sym c.in-Equal.is ∙ c.compare-compared.ensures.value) c.write_parted.ensures.0 (omega (arith, (let a = c.args in roomy a.first.now a.second.now a.out.now (sym c.if-no_room.false ∙ c.no_room.ensures)).2, c.write_parted.ensures.1))

pub returns-in-Parts : goal.returns-in-Parts
unfolding said_text
returns-in-Parts c =
    let a = c.args in
    let rm = (let a = c.args in roomy a.first.now a.second.now a.out.now (sym c.if-no_room.false ∙ c.no_room.ensures)) in
    let part : length c.rest.result.now ≤ longest_report = rw c.rest.ensures.bytes (rest_short a.first.now a.second.now rm.0 rm.1) in
    told_text _ _ _ (sym c.if-no_room.false ∙ c.no_room.ensures) (sym c.in-Parts.is ∙ c.compare-compared.ensures.value)
    (then c.write_parted-end.ensures.0 (rw c.rest.ensures.bytes at c.write_text.ensures))
    (omega (arith, rm.2, part, c.write_parted-end.ensures.1, c.write_text.ensures.next))

pub returns-in-Malformed : goal.returns-in-Malformed
unfolding said_text
returns-in-Malformed c =
    told_text _ _ _ (sym c.if-no_room.false ∙ c.no_room.ensures) (sym c.in-Malformed.is ∙ c.compare-compared.ensures.value) (rw c.from.ensures at c.write_malformed.ensures.0) (omega (arith, (let a = c.args in roomy a.first.now a.second.now a.out.now (sym c.if-no_room.false ∙ c.no_room.ensures)).2, c.write_malformed.ensures.1))
