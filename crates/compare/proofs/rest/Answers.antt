-- `rest` meets its contract: the longer report, from the place on where the two part.
use Rattle.compare.proofs.LawsRest.{place_first, place_second, handed_first, handed_second}
use Rattle.compare.proofs.rest.Goals as goal

pub part_from-requires : goal.part_from-requires
part_from-requires c =
    let a = c.args in
    rw c.rest_place-from.ensures (place_second a.first.now a.second.now c.compare-compared.result c.compare-compared.ensures.within)

pub part_from-requires-else-first-second : goal.part_from-requires-else-first-second
part_from-requires-else-first-second c =
    let a = c.args in
    rw c.rest_place-from-else-first-second.ensures (place_first a.first.now a.second.now c.compare-compared.result c.compare-compared.ensures.within)

pub returns-then-first-second : goal.returns-then-first-second
returns-then-first-second c =
    handed_second _ _ _ c.compare-compared.ensures.value c.if-first-second.true c.rest_place-from.ensures c.part_from.ensures

pub returns-else-first-second : goal.returns-else-first-second
returns-else-first-second c =
    handed_first _ _ _ c.compare-compared.ensures.value c.if-first-second.false c.rest_place-from-else-first-second.ensures c.part_from-else-first-second.ensures
